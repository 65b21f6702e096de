-- Laws of a whole run: its parts, and its status.
use Rattle.std.proofs.Common.{◌≡◌, ℕ, ◌<◌, ◌≤◌, ◌==◌, Bool, true, false, List, [], ◌++◌, length, Option, Result, Ok, Err, sym, ap, subst, ◌∙◌, refl, inl, append_assoc, arith}
use Rattle.std.specs.Io.KnownBytes.{IsAtEnd}
use Rattle.std.specs.Prelude.{◌↔◌, if◌then◌else◌, IfOk, OnErr, IsErrOf}
use Rattle.wm_clwords.specs.Lines.{logical_lines}
use Rattle.wm_law.specs.declared.call.Entry.{Entry}
use Rattle.wm_floor.specs.History.{History}
use Rattle.wm_traits.proofs.Telling.{Grows-none, Takes-none}
use Rattle.wm_run.specs.Halt.{status_of}
use Rattle.wm_run.specs.Run.{ended_status}
use Rattle.wm_run.specs.Grown.{grown, entries_between}
use Rattle.wm_run.specs.Down.{is_down}
use Rattle.wm_run.specs.Session.{Answers, AnsweredBy, Closes, IsSession, OneCall, start_call}
use Rattle.wm_run.specs.Stopped.{IsStopped}
use Rattle.wm_run.specs.Taking.{TakesInput}
use Rattle.wm_run.specs.declared.halt.Halt.{Halt}
use Rattle.wm_run.specs.declared.settings.Settings.{Settings}
use Rattle.wm_run.specs.declared.halt.Halt.TheVariants.{ReadFault, WriteFault, KeeperFault, NoMemory, LogFull, WaitFault, InputFull}
use Rattle.wm_run.proofs.Growing.{Continues, Continues-then, entries-then, grown-between}

-- what is so behind a history that has grown
pub at_grown : (P : History → Type 0) (a b : History) → Continues a b → P b → P (grown a (entries_between a b))
at_grown P a b ab p = subst P (sym (grown-between a b ab)) p

-- three parts, one after another
pub three_parts : (a b c d : History) → Continues a b → Continues b c → Continues c d → entries_between a d ≡ entries_between a b ++ entries_between b c ++ entries_between c d
three_parts a b c d ab bc cd =
    let es = entries_between a b in
    let more = entries-then a b d ab (Continues-then b c d bc cd) in
    let rest = entries-then b c d bc cd in
    more ∙ (ap (λ (fs : List Entry). es ++ fs) rest ∙ sym (append_assoc es (entries_between b c) (entries_between c d)))

-- the first call, the lines and the end, one after another
abbrev pub session_parts : (settings : Settings) (a b c d : History) (x y u v : Option (List ℕ)) (f : Bool) → Continues a b → Continues b c → Continues c d → OneCall (start_call settings.ctl) (entries_between a b) → TakesInput x y (λ bytes. AnsweredBy (Answers settings.user (logical_lines bytes) b) (entries_between b c) u v f) → Closes (is_down (entries_between b c)) c (entries_between c d) → (is_down (entries_between b c) ≡ false → IsAtEnd y) → TakesInput x y (λ bytes. IsSession settings (logical_lines bytes) y a (entries_between a d) u v f)
session_parts settings a b c d x y u v f ab bc cd start taken end at_end =
    let lines = logical_lines taken.bytes in
    let es = entries_between a b in
    let fs = entries_between b c in
    let at : grown a (es ++ fs) ≡ c = ap (grown a) (sym (entries-then a b c ab bc)) ∙ grown-between a c (Continues-then a b c ab bc) in
    record {
      bytes = taken.bytes;
      taken = taken.taken;
      done = record {
        first = es;
        middle = fs;
        last = entries_between c d;
        parts = three_parts a b c d ab bc cd;
        start = start;
        answered = at_grown (λ (o : History). AnsweredBy (Answers settings.user lines o) fs u v f) a b ab taken.done;
        end = subst (λ (o : History). Closes (is_down fs) o (entries_between c d)) (sym at) end;
        read = at_end;
      };
    }

-- a status of at most 1 is that of a session that has ended
pub ended_if : (P : Bool → Type 0) (r : Result Bool Halt) → IfOk r P → ended_status r ≤ 1 → P (ended_status r == 1)
ended_if P (Ok true) h low = h
ended_if P (Ok false) h low = h
ended_if P (Err ReadFault) h low = absurd (omega arith)
ended_if P (Err WriteFault) h low = absurd (omega arith)
ended_if P (Err KeeperFault) h low = absurd (omega arith)
ended_if P (Err NoMemory) h low = absurd (omega arith)
ended_if P (Err LogFull) h low = absurd (omega arith)
ended_if P (Err WaitFault) h low = absurd (omega arith)
ended_if P (Err InputFull) h low = absurd (omega arith)

-- the end that a status tells
abbrev end_at : ℕ → Result Bool Halt
end_at n =
    if n == 0 then Ok false
    else (if n == 1 then Ok true
    else (if n == 3 then Err ReadFault
    else (if n == 4 then Err WriteFault
    else (if n == 5 then Err KeeperFault
    else (if n == 7 then Err LogFull
    else (if n == 8 then Err WaitFault
    else (if n == 11 then Err InputFull
    else Err NoMemory)))))))

end_of_status : (r : Result Bool Halt) → end_at (ended_status r) ≡ r
end_of_status (Ok true) = refl
end_of_status (Ok false) = refl
end_of_status (Err ReadFault) = refl
end_of_status (Err WriteFault) = refl
end_of_status (Err KeeperFault) = refl
end_of_status (Err NoMemory) = refl
end_of_status (Err LogFull) = refl
end_of_status (Err WaitFault) = refl
end_of_status (Err InputFull) = refl

-- the status of a fault has that fault
pub fault_status : (halt : Halt) (r : Result Bool Halt) → ended_status r ≡ status_of halt → IsErrOf r halt
fault_status halt r is = sym (end_of_status r) ∙ (ap end_at is ∙ end_of_status (Err halt))

-- a status above 1 is that of a session that stopped
pub stopped_on : (P : Type 0) (r : Result Bool Halt) → OnErr r P → 1 < ended_status r → P
stopped_on P (Ok true) h high = absurd (omega arith)
stopped_on P (Ok false) h high = absurd (omega arith)
stopped_on P (Err halt) h high = h

-- 11 is that of a full input
abbrev pub full_exactly : (r : Result Bool Halt) (x y : Option (List ℕ)) → TakesInput x y (λ bytes. IsErrOf r InputFull ↔ (1000000000 < length bytes)) → TakesInput x y (λ bytes. (ended_status r ≡ 11) ↔ (1000000000 < length bytes))
full_exactly r x y h =
    let to = h.done in
    record { bytes = h.bytes; taken = h.taken; done = ((λ is. to.0 (fault_status InputFull r is)), (λ more. ap ended_status (to.1 more))) }

-- where nothing was begun, nothing was taken
abbrev pub full_not : (status : ℕ) (x : Option (List ℕ)) → status < 11 → TakesInput x x (λ bytes. (status ≡ 11) ↔ (1000000000 < length bytes))
full_not status x less = record { bytes = []; taken = Takes-none x; done = ((λ is. absurd (omega arith)), (λ more. absurd (omega arith))) }

abbrev pub stopped_not : (settings : Settings) (o : History) (log : List Entry) (x w : Option (List ℕ)) → log ≡ [] → TakesInput x x (λ bytes. IsStopped settings (logical_lines bytes) x o log w w)
stopped_not settings o log x w none = record { bytes = []; taken = Takes-none x; done = inl (record { none = none; written = Grows-none w }) }
