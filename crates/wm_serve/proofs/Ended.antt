-- How a server over its floor ended, as it is told behind the end.
use Rattle.std.proofs.Common.{◌≡◌, ◌⊎◌, ℕ, ◌+◌, ◌≤◌, List, [], ◌++◌, All, count_by, fold, length, map, Option, Some, None, is_some, Result, Ok, Err, refl, sym, subst, ap, ◌∙◌, inl, inr, arith}
use Rattle.std.specs.Prelude.{◌==◌, IfErr, OnOk, if◌then◌else◌}
use Rattle.std.specs.List.{AllZip}
use Rattle.std.proofs.lemmas.Bool.{false≢true}
use Rattle.std.proofs.lemmas.List.{length-append}
use Rattle.std.proofs.lemmas.Option.{same_Some}
use Rattle.wm_floor.specs.Floor.{Floored, HasLooked, IsSame, Seen}
use Rattle.wm_serve.specs.Ending.{HasWritten, IsServeHalt, WritesReady}
use Rattle.wm_serve.specs.Halts.{ended_status, status_of}
use Rattle.wm_serve.specs.Seating.{entered, left, seated, with_pass}
use Rattle.wm_serve.specs.Seats.{IsFresh, Runs, Sits, Tellers, takes_pass}
use Rattle.wm_serve.specs.Server.{AnyZip, DeskRose, IsEndHalt, IsServeStatus, SpawnerRose}
use Rattle.wm_serve.specs.declared.halt.Halt.{Halt}
use Rattle.wm_serve.specs.declared.halt.Halt.TheVariants.{WriteFault, KeeperFault, NoMemory, LogFull, WaitFault, ListenFault}
use Rattle.wm_serve.specs.declared.seat.Seat.{Seat}
use Rattle.wm_serve.proofs.Causing.{Come, seats_come}
use Rattle.wm_serve.proofs.Leaving.{count_runs, count_seated, joined_left, made_left, mark_left, number_left, seen_left}
use Rattle.wm_serve.proofs.Seatings.{joined_kept, made_then, number_then}

-- Pass 0 at the end

module _ {K D P C : Type 0} (before entered_all served given_back last : Seen K) (xs ys zs : List (Seat K D P C)) where
  pub ended_number : before.number ≡ 0 → entered_all ≡ fold entered before xs → IsSame entered_all served → given_back ≡ fold left served zs → IsSame given_back last → last.number ≡ 0
  ended_number none enters same leaves still =
      still.number ∙ ap (λ (p : Seen K). p.number) leaves ∙ number_left served zs ∙ same.number ∙ ap (λ (p : Seen K). p.number) enters ∙ number_then before xs ∙ none

  pub ended_made : before.made ≡ 0 → entered_all ≡ fold entered before xs → IsSame entered_all served → given_back ≡ fold left served zs → IsSame given_back last → last.made ≡ count_by takes_pass xs
  ended_made none enters same leaves still =
      let all : last.made ≡ before.made + count_by takes_pass xs = still.made ∙ ap (λ (p : Seen K). p.made) leaves ∙ made_left served zs ∙ same.made ∙ ap (λ (p : Seen K). p.made) enters ∙ made_then before xs in
      omega (arith, all, none)

  module _ (t : Tellers D P) (f : Floored K) where
    -- as many seats give a pass back as took one
    as_many : ys ≡ seated before xs → AllZip (Runs t f) ys zs → count_by takes_pass zs ≡ count_by takes_pass xs
    as_many seats run = sym (count_runs t f ys zs run) ∙ ap (λ (l : List (Seat K D P C)). count_by takes_pass l) seats ∙ count_seated before xs

    pub ended_joined : before.joined ≡ [] → entered_all ≡ fold entered before xs → ys ≡ seated before xs → IsSame entered_all served → AllZip (Runs t f) ys zs → All (Sits t f) zs → given_back ≡ fold left served zs → IsSame given_back last → length last.joined ≡ count_by takes_pass xs
    ended_joined none enters seats same run sit leaves still =
        let still_joined : length last.joined ≡ length given_back.joined = ap length still.joined in
        let all : length given_back.joined ≡ length served.joined + count_by takes_pass zs = ap (λ (p : Seen K). length p.joined) leaves ∙ joined_left t f served zs sit in
        let first : length served.joined ≡ 0 = ap length (same.joined ∙ ap (λ (p : Seen K). p.joined) enters ∙ joined_kept before xs ∙ none) in
        omega (arith, still_joined, all, first, as_many seats run)

-- Why it ended

of_call : (h : Halt) → (h ≡ KeeperFault) ⊎ ((h ≡ LogFull) ⊎ (h ≡ NoMemory)) → (h ≡ WriteFault → ⊥) × ((h ≡ WaitFault → ⊥) × (h ≡ ListenFault → ⊥))
of_call h (inl k) = ((λ e. absurd (cc)), ((λ e. absurd (cc)), (λ e. absurd (cc))))
of_call h (inr (inl k)) = ((λ e. absurd (cc)), ((λ e. absurd (cc)), (λ e. absurd (cc))))
of_call h (inr (inr k)) = ((λ e. absurd (cc)), ((λ e. absurd (cc)), (λ e. absurd (cc))))

looked_length : {E : Type 0} (now old rest : List E) → now ≡ old ++ rest → length old ≤ length now
looked_length now old rest is = omega (arith, ap length is, length-append old rest)

module _ {K D P C : Type 0} (t : Tellers D P) (f : Floored K) (limit writes writes_now : ℕ) (before entered_all served given_back last : Seen K) (xs ys zs ends : List (Seat K D P C)) (h : Halt) where
  -- the mark and the history of pass 0 don't fall behind the end
  late_mark : given_back ≡ fold left served zs → HasLooked given_back last → served.mark ≤ last.mark
  late_mark leaves looks = omega (arith, ap (λ (p : Seen K). p.mark) leaves, mark_left served zs, looks.mark)

  late_seen : given_back ≡ fold left served zs → HasLooked given_back last → (length served.seen ≤ length last.seen) × (length (fold left served zs).seen ≤ length last.seen)
  late_seen leaves looks =
      let more = looked_length last.seen given_back.seen looks.seen.0 looks.seen.1 in
      let same : length given_back.seen ≡ length (fold left served zs).seen = ap (λ (p : Seen K). length p.seen) leaves in
      (omega (arith, more, same, seen_left served zs), omega (arith, more, same))

  pub ended_halt : limit ≤ 1000000 → All (IsFresh t) xs → ys ≡ seated before xs → AllZip (Runs t f) ys zs → IsServeHalt limit writes writes_now entered_all served zs h → given_back ≡ fold left served zs → ends ≡ map (with_pass None) zs → HasLooked given_back last → IsEndHalt t limit writes writes_now xs ends last h
  ended_halt low fresh seats run (inl (is, rose)) leaves vacant looks =
      record { write = λ e. rose; keeper = λ e. absurd (cc); full = λ e. absurd (cc); wait = λ e. absurd (cc); listen = λ e. absurd (cc) }
  ended_halt low fresh seats run (inr (inl call)) leaves vacant looks =
      let none = of_call h call.only in
      record {
        write = λ e. absurd (none.0 e);
        keeper = λ e. (let rose = call.keeper e in let late = late_mark leaves looks in omega arith);
        full = λ e. (let long = call.full e in let late = (late_seen leaves looks).0 in omega arith);
        wait = λ e. absurd (none.1.0 e);
        listen = λ e. absurd (none.1.1 e);
      }
  ended_halt low fresh seats run (inr (inr seat)) leaves vacant looks =
      let came : Come t f xs zs served h = seats_come t f xs zs before served h fresh (subst (λ (l : List (Seat K D P C)). AllZip (Runs t f) l zs) seats run) seat in
      let mark : (fold left served zs).mark ≤ last.mark = omega (arith, ap (λ (p : Seen K). p.mark) leaves, looks.mark) in
      record {
        write = λ e. absurd (came.unwritten e);
        keeper = λ e. (let rose = came.keeper e in omega arith);
        full = λ e. (let long = came.full e in let late = (late_seen leaves looks).1 in omega arith);
        wait = λ e. subst (λ (l : List (Seat K D P C)). AnyZip (SpawnerRose t) xs l) (sym vacant) (came.wait e);
        listen = λ e. subst (λ (l : List (Seat K D P C)). AnyZip (DeskRose t) xs l) (sym vacant) (came.listen e);
      }

module _ {K D P C : Type 0} (t : Tellers D P) (f : Floored K) (limit writes writes_now : ℕ) (before entered_all served given_back last : Seen K) (xs ys zs ends : List (Seat K D P C)) where
  pub ended_cause : (end : Result (Unit {0}) Halt) → limit ≤ 1000000 → All (IsFresh t) xs → ys ≡ seated before xs → AllZip (Runs t f) ys zs → IfErr end (IsServeHalt limit writes writes_now entered_all served zs) → given_back ≡ fold left served zs → ends ≡ map (with_pass None) zs → HasLooked given_back last → IfErr end (IsEndHalt t limit writes writes_now xs ends last)
  ended_cause (Ok done) low fresh seats run why leaves vacant looks = tt
  ended_cause (Err h) low fresh seats run why leaves vacant looks = ended_halt t f limit writes writes_now before entered_all served given_back last xs ys zs ends h low fresh seats run why leaves vacant looks

-- What a status tells

-- the reason that has a status
abbrev halt_with : ℕ → Option Halt
halt_with n =
    if n == 4 then Some WriteFault
    else (if n == 5 then Some KeeperFault
    else (if n == 6 then Some NoMemory
    else (if n == 7 then Some LogFull
    else (if n == 8 then Some WaitFault
    else (if n == 10 then Some ListenFault
    else None)))))

halt_of_status : (h : Halt) → halt_with (status_of h) ≡ Some h
halt_of_status WriteFault = refl
halt_of_status KeeperFault = refl
halt_of_status NoMemory = refl
halt_of_status LogFull = refl
halt_of_status WaitFault = refl
halt_of_status ListenFault = refl

status_high : (h : Halt) → 4 ≤ status_of h
status_high WriteFault = omega arith
status_high KeeperFault = omega arith
status_high NoMemory = omega arith
status_high LogFull = omega arith
status_high WaitFault = omega arith
status_high ListenFault = omega arith

-- a status above 0 is that of the reason
pub ended_by : (Q : Halt → Type 0) (end : Result (Unit {0}) Halt) (status : ℕ) (h : Halt) → IfErr end Q → status ≡ ended_status end → status ≡ status_of h → Q h
ended_by Q (Ok done) status h why is at =
    let none : halt_with 0 ≡ Some h = ap halt_with (sym is ∙ at) ∙ halt_of_status h in
    absurd (false≢true (ap is_some none))
ended_by Q (Err g) status h why is at =
    let same : Some g ≡ Some h = sym (halt_of_status g) ∙ ap halt_with (sym is ∙ at) ∙ halt_of_status h in
    subst Q (same_Some g h same) why

pub ended_well : (P : Type 0) (end : Result (Unit {0}) Halt) (status : ℕ) → OnOk end P → status ≡ ended_status end → status ≡ 0 → P
ended_well P (Ok done) status h is none = h
ended_well P (Err h) status k is none = absurd (omega (arith, is, none, status_high h))

-- what holds of each status of a server over its floor
each_ended : (Q : ℕ → Type 0) → Q 0 → Q 4 → Q 5 → Q 6 → Q 7 → Q 8 → Q 10 → (end : Result (Unit {0}) Halt) → Q (ended_status end)
each_ended Q q0 q4 q5 q6 q7 q8 q10 (Ok done) = q0
each_ended Q q0 q4 q5 q6 q7 q8 q10 (Err WriteFault) = q4
each_ended Q q0 q4 q5 q6 q7 q8 q10 (Err KeeperFault) = q5
each_ended Q q0 q4 q5 q6 q7 q8 q10 (Err NoMemory) = q6
each_ended Q q0 q4 q5 q6 q7 q8 q10 (Err LogFull) = q7
each_ended Q q0 q4 q5 q6 q7 q8 q10 (Err WaitFault) = q8
each_ended Q q0 q4 q5 q6 q7 q8 q10 (Err ListenFault) = q10

pub ended_listed : (end : Result (Unit {0}) Halt) (status : ℕ) → status ≡ ended_status end → IsServeStatus status
ended_listed end status is = subst IsServeStatus (sym is) (each_ended IsServeStatus refl refl refl refl refl refl refl end)

-- it has begun
pub ended_begun : (end : Result (Unit {0}) Halt) (status : ℕ) → status ≡ ended_status end → status ≡ 2 → ⊥
ended_begun end status is two = each_ended (λ n. n ≡ 2 → ⊥) (λ e. absurd (omega arith)) (λ e. absurd (omega arith)) (λ e. absurd (omega arith)) (λ e. absurd (omega arith)) (λ e. absurd (omega arith)) (λ e. absurd (omega arith)) (λ e. absurd (omega arith)) end (sym is ∙ two)

-- and its rows were read
pub ended_read : (end : Result (Unit {0}) Halt) (status : ℕ) → status ≡ ended_status end → status ≡ 9 → ⊥
ended_read end status is nine = each_ended (λ n. n ≡ 9 → ⊥) (λ e. absurd (omega arith)) (λ e. absurd (omega arith)) (λ e. absurd (omega arith)) (λ e. absurd (omega arith)) (λ e. absurd (omega arith)) (λ e. absurd (omega arith)) (λ e. absurd (omega arith)) end (sym is ∙ nine)

-- What was written

pub ended_written : (end : Result (Unit {0}) Halt) (status : ℕ) (old new : Option (List ℕ)) → status ≡ ended_status end → WritesReady end old new → HasWritten status old new
ended_written (Ok done) status old new is w = record { part = (6, w.0); all = λ none. w.0 }
ended_written (Err h) status old new is w = record { part = w.1; all = λ none. absurd (omega (arith, is, none, status_high h)) }
