-- How a connection ends.
use Rattle.std.specs.Prelude.{◌≡◌, ◌⊎◌, ℕ, ◌==◌, Bool, true, List, [], ◌++◌, length, take, Option, if◌then◌else◌}
use Rattle.std.specs.Io.KnownBytes.{IsAtEnd}
use Rattle.wm_floor.specs.Floor.{Seen}
use Rattle.wm_floor.specs.declared.opened.Opened.{Opened}
use Rattle.wm_http.specs.Cutting.{IsCut}
use Rattle.wm_http.specs.declared.request.Cut.{Cut}
use Rattle.wm_traits.specs.Told.{Grows}
use Rattle.wm_web.specs.Answered.{AnswersCut, IsTakenUp, is_down}
use Rattle.wm_web.specs.Cuts.{IsInside}
use Rattle.wm_web.specs.Session.{Exchange, IsExchange, Serves, ends_with, response_of}
use Rattle.wm_web.specs.declared.end.WebEnd.{WebEnd}
use Rattle.wm_web.specs.declared.end.WebEnd.TheVariants.{Done, CutShort, Budget, PowerDown, ReadFault, WriteFault, NoMemory}

-- how a connection ends behind an answer that closes it
abbrev pub end_of : Bool → ℕ → WebEnd
end_of down before = if down then PowerDown else (if before == 9999 then Budget else Done)

module _ {K : Type 0} where
  -- the input ended between two requests
  pub record EndsBetween (left : Option (List ℕ)) (unread : List ℕ) (old new : Seen K) : Type 0 where
    pub ended : IsAtEnd left
    pub none : unread ≡ []
    pub pass : new ≡ old

  -- the input ended inside a request
  pub record EndsInside (left : Option (List ℕ)) (unread : List ℕ) (old new : Seen K) : Type 0 where
    pub ended : IsAtEnd left
    pub some : unread ≡ [] → ⊥
    pub inside : IsInside unread
    pub pass : new ≡ old

  -- a read failed
  pub record FailsReading (unread : List ℕ) (old new : Seen K) : Type 0 where
    pub inside : IsInside unread
    pub pass : new ≡ old

  -- memory was wanting, where a request may have been taken up
  abbrev pub MayBeTakenUp : Opened K → List ℕ → Seen K → Seen K → Type 0
  MayBeTakenUp o unread old new = (new ≡ old) ⊎ ((cut : Cut) × IsCut unread cut × IsTakenUp (AnswersCut o cut) old new)

  -- why no request more is answered
  abbrev pub IsUnserved : Opened K → Option (List ℕ) → List ℕ → Seen K → Seen K → WebEnd → Type 0
  IsUnserved o left unread old new Done = EndsBetween left unread old new
  IsUnserved o left unread old new CutShort = EndsInside left unread old new
  IsUnserved o left unread old new Budget = ⊥
  IsUnserved o left unread old new PowerDown = ⊥
  IsUnserved o left unread old new ReadFault = FailsReading unread old new
  IsUnserved o left unread old new WriteFault = ⊥
  IsUnserved o left unread old new NoMemory = MayBeTakenUp o unread old new

  -- no request more is answered, and what is due was written
  pub record Stops (o : Opened K) (end : WebEnd) (left : Option (List ℕ)) (unread : List ℕ) (old new : Seen K) (due : List ℕ) (written_before written_now : Option (List ℕ)) : Type 0 where
    pub unserved : IsUnserved o left unread old new end
    pub written : Grows written_before written_now due

  -- one request more was answered, which closes the connection
  pub record Closes (o : Opened K) (end : WebEnd) (before : ℕ) (unread : List ℕ) (old new : Seen K) (due : List ℕ) (written_before written_now : Option (List ℕ)) : Type 0 where
    pub last : Exchange K
    pub exchange : IsExchange o unread old last
    pub pass : new ≡ last.pass
    pub closes : ends_with before old last ≡ true
    pub end_is : end ≡ end_of (is_down old new) before
    pub written : Grows written_before written_now (due ++ response_of before old last)

  -- one request more was answered, and of what is due the first bytes were written
  pub record FailsWriting (o : Opened K) (before : ℕ) (unread : List ℕ) (old new : Seen K) (due : List ℕ) (written_before written_now : Option (List ℕ)) : Type 0 where
    pub last : Exchange K
    pub exchange : IsExchange o unread old last
    pub pass : new ≡ last.pass
    pub count : ℕ
    pub written : Grows written_before written_now (due ++ take count (response_of before old last))

  -- how a connection ends behind so many answers
  abbrev pub Ends : Opened K → WebEnd → Option (List ℕ) → ℕ → List ℕ → Seen K → Seen K → List ℕ → Option (List ℕ) → Option (List ℕ) → Type 0
  Ends o Done left before unread old new due written_before written_now =
      Stops o Done left unread old new due written_before written_now ⊎ Closes o Done before unread old new due written_before written_now
  Ends o CutShort left before unread old new due written_before written_now = Stops o CutShort left unread old new due written_before written_now
  Ends o Budget left before unread old new due written_before written_now = Closes o Budget before unread old new due written_before written_now
  Ends o PowerDown left before unread old new due written_before written_now = Closes o PowerDown before unread old new due written_before written_now
  Ends o ReadFault left before unread old new due written_before written_now = Stops o ReadFault left unread old new due written_before written_now
  Ends o WriteFault left before unread old new due written_before written_now = FailsWriting o before unread old new due written_before written_now
  Ends o NoMemory left before unread old new due written_before written_now = Stops o NoMemory left unread old new due written_before written_now

  -- a connection: of the bytes that were taken off the source these requests were served, and then it ended so
  pub record IsSession (o : Opened K) (end : WebEnd) (taken : List ℕ) (left : Option (List ℕ)) (old new : Seen K) (written_before written_now : Option (List ℕ)) : Type 0 where
    pub served : List (Exchange K)
    pub unread : List ℕ
    pub mid : Seen K
    pub due : List ℕ
    pub serves : Serves o 0 served taken unread old mid due
    pub ends : Ends o end left (length served) unread mid new due written_before written_now
