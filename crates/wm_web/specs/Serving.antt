-- What came of the next request.
use Rattle.std.specs.Prelude.{◌≡◌, ℕ, ◌≤◌, false, List, [], ◌++◌, drop, length, take, Option, None, Some}
use Rattle.wm_floor.specs.Floor.{Seen}
use Rattle.wm_floor.specs.declared.opened.Opened.{Opened}
use Rattle.wm_http.specs.Cutting.{IsCut}
use Rattle.wm_http.specs.declared.request.Cut.{Cut}
use Rattle.wm_traits.specs.Told.{Grows, Takes}
use Rattle.wm_web.specs.Answered.{AnswersCut, is_down}
use Rattle.wm_web.specs.Counted.{FaultsAreCounted}
use Rattle.wm_web.specs.Ends.{Ends, IsSession}
use Rattle.wm_web.specs.Cuts.{asks_close, behind_cut}
use Rattle.wm_web.specs.Session.{Exchange, IsExchange, ends_with, response_of}
use Rattle.wm_web.specs.declared.end.WebEnd.{WebEnd}
use Rattle.wm_web.specs.declared.end.WebEnd.TheVariants.{Done, CutShort, Budget, PowerDown, ReadFault, WriteFault, NoMemory}
use Rattle.wm_web.specs.declared.served.Served.{Served}

-- a response wasn't written whole: a write failed behind some of its bytes, or there was no memory for it
abbrev pub IsUnwritten : List ℕ → Option (List ℕ) → Option (List ℕ) → WebEnd → Type 0
IsUnwritten due before now Done = ⊥
IsUnwritten due before now CutShort = ⊥
IsUnwritten due before now Budget = ⊥
IsUnwritten due before now PowerDown = ⊥
IsUnwritten due before now ReadFault = ⊥
IsUnwritten due before now WriteFault = (n : ℕ) × Grows before now (take n due)
IsUnwritten due before now NoMemory = Grows before now []

module _ {K : Type 0} where
  -- what is cut from the unread bytes is answered so
  pub record IsServedBy (o : Opened K) (cut : Cut) (unread : List ℕ) (old new : Seen K) (r : Served) : Type 0 where
    pub answers : AnswersCut o cut old new r.answered.answer
    pub down : r.answered.down ≡ is_down old new
    pub asks : r.asks_close ≡ asks_close cut
    pub len : drop r.len unread ≡ behind_cut cut unread
    pub within : r.len ≤ length unread

  -- the next request was answered so
  pub record IsServed (o : Opened K) (unread : List ℕ) (old new : Seen K) (r : Served) : Type 0 where
    pub cut : Cut
    pub is : IsCut unread cut
    pub served : IsServedBy o cut unread old new r

  -- one request was served, behind which the connection stays open
  pub record GoesOn (o : Opened K) (before : ℕ) (read unread : List ℕ) (old new : Seen K) (written_before written_now : Option (List ℕ)) : Type 0 where
    pub one : Exchange K
    pub exchange : IsExchange o read old one
    pub pass : new ≡ one.pass
    pub open_ : ends_with before old one ≡ false
    pub left : unread ≡ behind_cut one.cut read
    pub written : Grows written_before written_now (response_of before old one)

  -- one request was served, or the connection has ended
  abbrev pub GoesOnOrEnds : Opened K → Option WebEnd → Option (List ℕ) → ℕ → List ℕ → List ℕ → Seen K → Seen K → Option (List ℕ) → Option (List ℕ) → Type 0
  GoesOnOrEnds o None left before read unread old new written_before written_now = GoesOn o before read unread old new written_before written_now
  GoesOnOrEnds o (Some end) left before read unread old new written_before written_now = Ends o end left before read old new [] written_before written_now

  -- bytes were read behind those that were unread, and one request was served, or the connection has ended
  pub record ServesNext (o : Opened K) (end : Option WebEnd) (before : ℕ) (left_before left_now : Option (List ℕ)) (unread_before unread_now : List ℕ) (old new : Seen K) (written_before written_now : Option (List ℕ)) : Type 0 where
    pub bytes : List ℕ
    pub taken : Takes left_before bytes left_now
    pub most : length (unread_before ++ bytes) ≤ 16384
    pub came : GoesOnOrEnds o end left_now before (unread_before ++ bytes) unread_now old new written_before written_now

  -- bytes were taken off the source, of which the connection is, and the faults of the keeper are counted
  pub record TakesSession (o : Opened K) (end : WebEnd) (left_before left_now : Option (List ℕ)) (old new : Seen K) (written_before written_now : Option (List ℕ)) : Type 0 where
    pub bytes : List ℕ
    pub taken : Takes left_before bytes left_now
    pub most : length bytes ≤ 163840000
    pub session : IsSession o end bytes left_now old new written_before written_now
    pub counted : FaultsAreCounted o end bytes left_now old new written_before written_now session
