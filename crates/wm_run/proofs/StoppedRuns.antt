-- Laws of a run that stops: what its session called and wrote until then.
use Rattle.std.proofs.Common.{◌≡◌, ◌↔◌, ℕ, ◌+◌, ◌<◌, Bool, false, List, [], ◌++◌, length, take, Option, Result, Ok, Err, sym, ap, subst, ◌∙◌, inl, inr, arith}
use Rattle.std.specs.Io.KnownBytes.{IsAtEnd}
use Rattle.std.specs.Prelude.{IsErrOf}
use Rattle.std.proofs.Math.Seq.{take-length}
use Rattle.std.proofs.lemmas.List.{append-nil, length-append}
use Rattle.wm_clwords.specs.Lines.{logical_lines}
use Rattle.wm_clwords.specs.Part.{Part, fresh, lines_from}
use Rattle.wm_clwords.proofs.LinesLaw.{lines_from-fresh}
use Rattle.wm_law.specs.declared.call.Entry.{Entry}
use Rattle.wm_law.specs.History.{entries_of}
use Rattle.wm_floor.specs.History.{History}
use Rattle.wm_traits.specs.Told.{Grows, Takes}
use Rattle.wm_traits.proofs.Telling.{Grows-none, Takes-none, Takes-then}
use Rattle.wm_run.specs.Down.{is_down}
use Rattle.wm_run.specs.Grown.{grown, entries_between}
use Rattle.wm_run.specs.Session.{Answers, AnsweredBy, IsUncalled, OneCall, start_call}
use Rattle.wm_run.specs.Calls.{session_pass}
use Rattle.wm_run.specs.Stopped.{AtMostOne, MayClose, IsStopped, StopsIn, Unanswered, WritesSome}
use Rattle.wm_run.specs.Taking.{TakesInput, TakesPiece}
use Rattle.wm_run.specs.declared.halt.Halt.{Halt}
use Rattle.wm_run.specs.declared.settings.Settings.{Settings}
use Rattle.wm_run.specs.declared.halt.Halt.TheVariants.{InputFull}
use Rattle.wm_run.proofs.Growing.{Continues, entries-none, entries-then}
use Rattle.wm_run.proofs.Runs.{at_grown, session_parts, three_parts}
use Rattle.wm_run.proofs.StoppedLines.{StopsIn-after, StopsIn-none, StopsIn-unanswered, StopsIn-whole, stops_front, stops_then}
use Rattle.wm_run.proofs.Takings.{TakesPiece-lines, TakesPiece-more}

-- no byte is in front of a list
pub take_none : (n : ℕ) (xs : List ℕ) → n ≡ 0 → take n xs ≡ []
take_none n xs is = ap (λ (k : ℕ). take k xs) is

-- nothing at all
pub no_call_none : (h : History) → IsUncalled (entries_between h h)
no_call_none h = ap (entries_of session_pass) (entries-none h)

-- no call was made, and nothing written
pub Unanswered-none : (history : History) (w : Option (List ℕ)) → Unanswered (entries_between history history) w w
Unanswered-none history w = record { none = no_call_none history; written = Grows-none w }

-- all bytes that were due are some of them
pub WritesSome-all : (Due : List Entry → List ℕ → Bool → Type 0) (es : List Entry) (a b : Option (List ℕ)) (f : Bool) → AnsweredBy Due es a b f → WritesSome Due es a b
WritesSome-all Due es a b f h =
    record { due = h.bytes; faulty = f; answers = h.answers; count = length h.bytes; written = subst (λ (l : List ℕ). Grows a b l) (sym (take-length h.bytes)) h.written }

-- a session that stopped as it began
abbrev pub stopped_begin : (settings : Settings) (a b d : History) (x w : Option (List ℕ)) → Continues a b → Continues b d → IsUncalled (entries_between b d) → (IsUncalled (entries_between a b) → entries_between a d ≡ []) → AtMostOne (start_call settings.ctl) (entries_between a b) → TakesInput x x (λ bytes. IsStopped settings (logical_lines bytes) x a (entries_between a d) w w)
stopped_begin settings a b d x w ab bd uncalled unbegun (inl none) = record { bytes = []; taken = Takes-none x; done = inl (record { none = unbegun none; written = Grows-none w }) }
stopped_begin settings a b d x w ab bd uncalled unbegun (inr start) =
    let es = entries_between a b in
    record {
      bytes = [];
      taken = Takes-none x;
      done = inr (inl (record {
        first = es;
        middle = [];
        last = entries_between b d;
        parts = entries-then a b d ab bd ∙ ap (λ (l : List Entry). l ++ entries_between b d) (sym (append-nil es));
        start = start;
        stops = StopsIn-none settings.user (logical_lines []) (grown a es) w;
        uncalled = uncalled;
      }));
    }

-- one that stopped in its lines
abbrev pub stopped_lines : (settings : Settings) (a b c d : History) (x y u v : Option (List ℕ)) → Continues a b → Continues b c → Continues c d → IsUncalled (entries_between c d) → OneCall (start_call settings.ctl) (entries_between a b) → TakesInput x y (λ bytes. StopsIn settings.user (logical_lines bytes) b (entries_between b c) u v) → TakesInput x y (λ bytes. IsStopped settings (logical_lines bytes) y a (entries_between a d) u v)
stopped_lines settings a b c d x y u v ab bc cd uncalled start taken =
    let fs = entries_between b c in
    let lines = logical_lines taken.bytes in
    record {
      bytes = taken.bytes;
      taken = taken.taken;
      done = inr (inl (record {
        first = entries_between a b;
        middle = fs;
        last = entries_between c d;
        parts = three_parts a b c d ab bc cd;
        start = start;
        stops = at_grown (λ (o : History). StopsIn settings.user lines o fs u v) a b ab taken.done;
        uncalled = uncalled;
      }));
    }

-- one that stopped behind them
abbrev pub stopped_end : (settings : Settings) (a b c d : History) (x y u v : Option (List ℕ)) (f : Bool) → Continues a b → Continues b c → Continues c d → OneCall (start_call settings.ctl) (entries_between a b) → TakesInput x y (λ bytes. AnsweredBy (Answers settings.user (logical_lines bytes) b) (entries_between b c) u v f) → MayClose (is_down (entries_between b c)) c (entries_between c d) → (is_down (entries_between b c) ≡ false → IsAtEnd y) → TakesInput x y (λ bytes. IsStopped settings (logical_lines bytes) y a (entries_between a d) u v)
stopped_end settings a b c d x y u v f ab bc cd start taken (inl none) at_end =
    let fs = entries_between b c in
    let lines = logical_lines taken.bytes in
    record {
      bytes = taken.bytes;
      taken = taken.taken;
      done = inr (inl (record {
        first = entries_between a b;
        middle = fs;
        last = entries_between c d;
        parts = three_parts a b c d ab bc cd;
        start = start;
        stops = at_grown (λ (o : History). StopsIn settings.user lines o fs u v) a b ab (StopsIn-whole lines b fs u v f taken.done);
        uncalled = none;
      }));
    }
stopped_end settings a b c d x y u v f ab bc cd start taken (inr end) at_end =
    let whole = session_parts settings a b c d x y u v f ab bc cd start taken end at_end in
    record { bytes = whole.bytes; taken = whole.taken; done = inr (inr (record { faulty = f; session = whole.done })) }

-- a part of a piece was taken, and its next line's answer was cut short
pub stops_piece : {user : List ℕ} (a b : Part) (piece rest : List ℕ) (old mid new : History) (u v w : Option (List ℕ)) (f : Bool) → is_down (entries_between old mid) ≡ false → Continues old mid → Continues mid new → TakesPiece user a piece b rest old (entries_between old mid) u v f → ((more : List ℕ) → StopsIn user (lines_from b (rest ++ more)) mid (entries_between mid new) v w) → (more : List ℕ) → StopsIn user (lines_from a (piece ++ more)) old (entries_between old new) u w
stops_piece {user} a b piece rest old mid new u v w f up ab bc h k more =
    let es = entries_between old mid in
    let fs = entries_between mid new in
    let next = at_grown (λ (o : History). (bytes : List ℕ) → StopsIn user (lines_from b (rest ++ bytes)) o fs v w) old mid ab k in
    subst (λ (all : List Entry). StopsIn user (lines_from a (piece ++ more)) old all u w) (sym (entries-then old mid new ab bc)) (stops_then a b piece rest old es fs u v w f up h next more)

-- a read that gave no byte
abbrev pub input_same : {P : List ℕ → Type 0} (x y z : Option (List ℕ)) (ys : List ℕ) → ys ≡ [] → TakesInput x y P → Takes y ys z → TakesInput x z P
input_same x y z ys none h more =
    let whole : h.bytes ++ ys ≡ h.bytes = ap (λ (l : List ℕ). h.bytes ++ l) none ∙ append-nil h.bytes in
    record { bytes = h.bytes; taken = subst (λ (l : List ℕ). Takes x l z) whole (Takes-then x y z h.bytes ys h.taken more); done = h.done }

-- nothing was read
abbrev pub input_stops_none : (user : List ℕ) (x : Option (List ℕ)) (history : History) (w : Option (List ℕ)) → TakesInput x x (λ bytes. StopsIn user (logical_lines bytes) history (entries_between history history) w w)
input_stops_none user x history w = record { bytes = []; taken = Takes-none x; done = StopsIn-unanswered user (logical_lines []) history (entries_between history history) w w (Unanswered-none history w) }

-- bytes that weren't looked at behind those whose lines were answered
abbrev pub input_stops : {user : List ℕ} (x y z : Option (List ℕ)) (b : Part) (o : History) (es : List Entry) (u v : Option (List ℕ)) (f : Bool) (ys : List ℕ) → TakesInput x y (λ bytes. TakesPiece user fresh bytes b [] o es u v f) → Takes y ys z → TakesInput x z (λ bytes. StopsIn user (logical_lines bytes) o es u v)
input_stops {user} x y z b o es u v f ys h more =
    let xs = h.bytes in
    record {
      bytes = xs ++ ys;
      taken = Takes-then x y z xs ys h.taken more;
      done = subst (λ (l : List (Option (List ℕ))). StopsIn user l o es u v) (lines_from-fresh (xs ++ ys)) (stops_front fresh b xs [] o es u v f h.done ys);
    }

-- a piece behind them in whose lines it stopped
abbrev pub input_stops_in : {user : List ℕ} (x y z : Option (List ℕ)) (b : Part) (old mid new : History) (u v w : Option (List ℕ)) (f : Bool) (ys : List ℕ) → is_down (entries_between old mid) ≡ false → Continues old mid → Continues mid new → TakesInput x y (λ bytes. TakesPiece user fresh bytes b [] old (entries_between old mid) u v f) → Takes y ys z → ((more : List ℕ) → StopsIn user (lines_from b (ys ++ more)) mid (entries_between mid new) v w) → TakesInput x z (λ bytes. StopsIn user (logical_lines bytes) old (entries_between old new) u w)
input_stops_in {user} x y z b old mid new u v w f ys up ab bc h more k =
    let xs = h.bytes in
    let front = TakesPiece-more fresh b xs ys old _ u v f h.done in
    let lines = ap (lines_from fresh) (append-nil (xs ++ ys)) ∙ lines_from-fresh (xs ++ ys) in
    record {
      bytes = xs ++ ys;
      taken = Takes-then x y z xs ys h.taken more;
      done = subst (λ (l : List (Option (List ℕ))). StopsIn user l old (entries_between old new) u w) lines
          (stops_piece fresh b (xs ++ ys) ys old mid new u v w f up ab bc front k []);
    }

-- the answer of the line that ends with the input was cut short
abbrev pub input_stops_last : {user : List ℕ} (x y : Option (List ℕ)) (b : Part) (old mid new : History) (u v w : Option (List ℕ)) (f : Bool) → is_down (entries_between old mid) ≡ false → Continues old mid → Continues mid new → TakesInput x y (λ bytes. TakesPiece user fresh bytes b [] old (entries_between old mid) u v f) → StopsIn user (lines_from b []) mid (entries_between mid new) v w → TakesInput x y (λ bytes. StopsIn user (logical_lines bytes) old (entries_between old new) u w)
input_stops_last {user} x y b old mid new u v w f up ab bc h k =
    let xs = h.bytes in
    let d = h.done in
    let es = entries_between old mid in
    let fs = entries_between mid new in
    let lines = ap logical_lines (sym (append-nil xs)) ∙ TakesPiece-lines b xs [] old es u v f d in
    let last = at_grown (λ (o : History). StopsIn user (lines_from b []) o fs v w) old mid ab k in
    record {
      bytes = xs;
      taken = h.taken;
      done = subst (λ (all : List Entry). StopsIn user (logical_lines xs) old all u w) (sym (entries-then old mid new ab bc))
          (subst (λ (l : List (Option (List ℕ))). StopsIn user l old (es ++ fs) u w) (sym lines)
          (StopsIn-after d.lines (lines_from b []) old es fs u v w f up d.answered last));
    }

-- the same of an error that is passed on
abbrev pub full_pass : {T U : Type 0} (r : Result T Halt) (q : Result U Halt) (e d : Halt) (x y : Option (List ℕ)) → r ≡ Err e → q ≡ Err d → d ≡ e → TakesInput x y (λ bytes. IsErrOf r InputFull ↔ (1000000000 < length bytes)) → TakesInput x y (λ bytes. IsErrOf q InputFull ↔ (1000000000 < length bytes))
full_pass r q e d x y was is same h =
    let to = h.done in
    record { bytes = h.bytes; taken = h.taken; done = ((λ f. to.0 (cc)), (λ more. let g = to.1 more in cc)) }

-- a read behind so many bytes
abbrev pub full_read : {T U : Type 0} (r : Result T Halt) (q : Result U Halt) (e d : Halt) (x y z : Option (List ℕ)) (n : ℕ) → r ≡ Err e → q ≡ Err d → d ≡ e → TakesInput x y (λ bytes. length bytes ≡ n) → TakesInput y z (λ bytes. IsErrOf r InputFull ↔ (1000000000 < n + length bytes)) → TakesInput x z (λ bytes. IsErrOf q InputFull ↔ (1000000000 < length bytes))
full_read r q e d x y z n was is same h k =
    let xs = h.bytes in
    let ys = k.bytes in
    let to = k.done in
    let len = length-append xs ys in
    record {
      bytes = xs ++ ys;
      taken = Takes-then x y z xs ys h.taken k.taken;
      done = ((λ f. let g = to.0 (cc) in let b = h.done in omega arith), (λ more. let b = h.done in let g = to.1 (omega arith) in cc));
    }

-- nor does anything else that ends the run behind the input
abbrev pub full_later : {T U : Type 0} (r : Result T Halt) (q : Result U Halt) (t : T) (x y : Option (List ℕ)) → r ≡ Ok t → (IsErrOf q InputFull → ⊥) → TakesInput x y (λ bytes. IsErrOf r InputFull ↔ (1000000000 < length bytes)) → TakesInput x y (λ bytes. IsErrOf q InputFull ↔ (1000000000 < length bytes))
full_later r q t x y is never h =
    let to = h.done in
    record { bytes = h.bytes; taken = h.taken; done = ((λ f. absurd (never f)), (λ more. let g = to.1 more in absurd (cc))) }
