-- Whose PWRDWNSYS it was that put the power down.
use Rattle.std.proofs.Common.{◌≡◌, ◌⊎◌, ◌∙◌, ℕ, ◌+◌, ◌==◌, ◌<◌, ◌≤◌, zero, suc, Bool, true, false, if◌then◌else◌, List, [], ◌∷◌, ◌++◌, count_by, drop, length, take, refl, sym, subst, ap, inl, inr, arith}
use Rattle.std.specs.List.{AllZip, list_all}
use Rattle.std.proofs.lemmas.Bool.{and_parts, eq-eqb, true≢false}
use Rattle.wm_base.specs.declared.qname.QName.{QName}
use Rattle.wm_law.specs.History.{IsLegal, is_monitor_call, stepped}
use Rattle.wm_law.specs.Laws.{IsIn}
use Rattle.wm_law.specs.Power.{is_on}
use Rattle.wm_law.specs.declared.call.Entry.{Entry}
use Rattle.wm_law.specs.declared.state.State.{State}
use Rattle.wm_floor.specs.Floor.{Floored, Seen}
use Rattle.wm_floor.specs.Ledger.{caller_of}
use Rattle.wm_run.specs.Session.{start_call}
use Rattle.wm_floor.specs.Advance.{is_monitors}
use Rattle.wm_turn.specs.Passed.{own}
use Rattle.wm_serve.specs.Done.{SeatServed, SeatsServed}
use Rattle.wm_serve.specs.Over.{DryRose, Finishes, HasWorkersPowerDown, IsOver, PutsDown, WasDownFirst}
use Rattle.wm_serve.specs.Seats.{Tellers, takes_pass}
use Rattle.wm_serve.specs.Server.{are_fit, is_closer, is_monitor, is_worker}
use Rattle.wm_serve.specs.declared.seat.MonitorSeat.{MonitorSeat}
use Rattle.wm_serve.specs.declared.seat.Seat.{Seat}
use Rattle.wm_serve.specs.declared.seat.Seat.TheVariants.{Worker, Closer, Monitor}
use Rattle.wm_serve.proofs.Closers.{fit_length}
use Rattle.wm_serve.proofs.Powers.{power_was_put_down}
use Rattle.wm_serve.proofs.Seatings.{counted}

-- Histories

legal_front : (s : State) (front rest : List Entry) → IsLegal s (front ++ rest) → IsLegal s front
legal_front s [] rest h = tt
legal_front s (e ∷ es) rest h = (h.0, legal_front (stepped s e).state es rest h.1)

in_front : (e : Entry) (front rest : List Entry) → IsIn e front → IsIn e (front ++ rest)
in_front e [] rest h = absurd h
in_front e (d ∷ ds) rest (inl is) = inl is
in_front e (d ∷ ds) rest (inr h) = inr (in_front e ds rest h)

in_more : (e d : Entry) (b : Bool) (es : List Entry) → IsIn e es → IsIn e (if b then d ∷ es else es)
in_more e d true es h = inr h
in_more e d false es h = h

in_first : (e d : Entry) (b : Bool) (es : List Entry) → b ≡ true → e ≡ d → IsIn e (if b then d ∷ es else es)
in_first e d true es is same = inl same
in_first e d false es is same = absurd (cc)

-- an entry is among those of its caller
in_own : (e : Entry) (n : ℕ) (log : List Entry) → e.caller ≡ n → IsIn e log → IsIn e (own caller_of n log)
in_own e n [] is h = absurd h
in_own e n (d ∷ ds) is (inl same) = in_first e d (caller_of d == n) (own caller_of n ds) (eq-eqb (caller_of d) n (ap caller_of (sym same) ∙ is)) same
in_own e n (d ∷ ds) is (inr h) = in_more e d (caller_of d == n) (own caller_of n ds) (in_own e n ds is h)

in_all : (e : Entry) (es : List Entry) → list_all is_monitors es ≡ true → IsIn e es → is_monitors e ≡ true
in_all e [] all h = absurd h
in_all e (d ∷ ds) all (inl same) = ap is_monitors same ∙ (and_parts (is_monitors d) (list_all is_monitors ds) all).0
in_all e (d ∷ ds) all (inr h) = in_all e ds (and_parts (is_monitors d) (list_all is_monitors ds) all).1 h

-- a PWRDWNSYS is no call of a monitor, and not the first of the server's own
not_monitors : (e : Entry) → PutsDown e → is_monitors e ≡ true → ⊥
not_monitors e h is = let none : is_monitors e ≡ false = ap is_monitor_call h.call in absurd (cc)

not_first : (ctl : QName) (e first : Entry) → PutsDown e → first.call ≡ start_call ctl → IsIn e (first ∷ []) → ⊥
not_first ctl e first h start (inl same) = let both : start_call ctl ≡ e.call = sym start ∙ ap (λ (x : Entry). x.call) (sym same) in let call = h.call in absurd (cc)
not_first ctl e first h start (inr none) = absurd none

-- a place, or a later one
place_or : (k n : ℕ) → k ≤ n → (n ≡ k) ⊎ (k + 1 ≤ n)
place_or k n le = grind (arith)

by_place : (k n : ℕ) (P : ℕ → Type 0) → P k → (k + 1 ≤ n → P n) → k ≤ n → P n
by_place k n P here later le =
    elim (place_or k n le) as (λ _. P n) [
      | inl is ↦ subst P (sym is) here
      | inr more ↦ later more
    ]

-- What monitors enter

module _ {K D P C : Type 0} (t : Tellers D P) (f : Floored K) (log : List Entry) where
  monitor_enters : (n : ℕ) (m : MonitorSeat K P C) (new : Seat K D P C) → SeatServed t f log n (Monitor m) new → list_all is_monitors (own caller_of n log) ≡ true
  monitor_enters n m (Worker w) h = absurd h.did
  monitor_enters n m (Closer c) h = absurd h.did
  monitor_enters n m (Monitor m') h =
      let calls : list_all is_monitors (drop (length h.from.mine) h.to.mine) ≡ true = h.did.part.pass.calls in
      let all : list_all is_monitors h.to.mine ≡ true = subst (λ (es : List Entry). list_all is_monitors (drop (length es) h.to.mine) ≡ true) h.unmade calls in
      ap (list_all is_monitors) (sym h.mine) ∙ all

  monitors_enter : (k n : ℕ) (olds news : List (Seat K D P C)) → list_all is_monitor olds ≡ true → SeatsServed t f log k olds news → k ≤ n → n < k + length olds → list_all is_monitors (own caller_of n log) ≡ true
  monitors_enter k n [] news all h least most = absurd (omega (arith, least, most))
  monitors_enter k n (Worker w ∷ olds) news all h least most = absurd (true≢false (sym all))
  monitors_enter k n (Closer c ∷ olds) news all h least most = absurd (true≢false (sym all))
  monitors_enter k n (Monitor m ∷ olds) [] all h least most = absurd h
  monitors_enter k n (Monitor m ∷ olds) (new ∷ news) all h least most =
      by_place k n (λ (j : ℕ). list_all is_monitors (own caller_of j log) ≡ true) (monitor_enters k m new h.0) (λ later. monitors_enter (k + 1) n olds news all h.1 later (omega (arith, most))) least

  -- the numbers behind those of the workers are the monitors'
  behind_workers : (k workers monitors n : ℕ) (olds news : List (Seat K D P C)) → length olds ≡ workers + 1 + monitors → list_all is_worker (take workers olds) ≡ true → list_all is_closer (take 1 (drop workers olds)) ≡ true → list_all is_monitor (drop (suc workers) olds) ≡ true → SeatsServed t f log k olds news → k + workers ≤ n → n < k + workers + monitors → list_all is_monitors (own caller_of n log) ≡ true
  behind_workers k workers monitors n [] news long w c m h least most = absurd (omega (arith, long))
  behind_workers k workers monitors n (x ∷ olds) [] long w c m h least most = absurd (nothing k x olds h)
    where
      nothing : (j : ℕ) (y : Seat K D P C) (ys : List (Seat K D P C)) → SeatsServed t f log j (y ∷ ys) [] → ⊥
      nothing j (Worker v) ys none = none
      nothing j (Closer v) ys none = none
      nothing j (Monitor v) ys none = none
  behind_workers k zero monitors n (Worker v ∷ olds) (new ∷ news) long w c m h least most = absurd (true≢false (sym c))
  behind_workers k zero monitors n (Monitor v ∷ olds) (new ∷ news) long w c m h least most = absurd (true≢false (sym c))
  behind_workers k zero monitors n (Closer v ∷ olds) (new ∷ news) long w c m h least most = monitors_enter k n olds news m h (omega (arith, least)) (omega (arith, most, long))
  behind_workers k (suc workers) monitors n (Closer v ∷ olds) (new ∷ news) long w c m h least most = absurd (true≢false (sym w))
  behind_workers k (suc workers) monitors n (Monitor v ∷ olds) (new ∷ news) long w c m h least most = absurd (true≢false (sym w))
  behind_workers k (suc workers) monitors n (Worker v ∷ olds) (new ∷ news) long w c m h least most =
      behind_workers (k + 1) workers monitors n olds news (omega (arith, long)) w c m h.1 (omega (arith, least)) (omega (arith, most))

module _ {K D P C : Type 0} where
  all_take : (olds : List (Seat K D P C)) → list_all is_monitor olds ≡ true → count_by takes_pass olds ≡ length olds
  all_take [] all = refl
  all_take (Worker w ∷ olds) all = absurd (true≢false (sym all))
  all_take (Closer c ∷ olds) all = absurd (true≢false (sym all))
  all_take (Monitor m ∷ olds) all = omega (arith, counted (Monitor m) olds, all_take olds all)

  pub fit_count : (workers monitors : ℕ) (olds : List (Seat K D P C)) → length olds ≡ workers + 1 + monitors → list_all is_worker (take workers olds) ≡ true → list_all is_closer (take 1 (drop workers olds)) ≡ true → list_all is_monitor (drop (suc workers) olds) ≡ true → count_by takes_pass olds ≡ workers + monitors
  fit_count workers monitors [] long w c m = absurd (omega (arith, long))
  fit_count zero monitors (Worker v ∷ olds) long w c m = absurd (true≢false (sym c))
  fit_count zero monitors (Monitor v ∷ olds) long w c m = absurd (true≢false (sym c))
  fit_count zero monitors (Closer v ∷ olds) long w c m = omega (arith, counted (Closer v) olds, all_take olds m, long)
  fit_count (suc workers) monitors (Closer v ∷ olds) long w c m = absurd (true≢false (sym w))
  fit_count (suc workers) monitors (Monitor v ∷ olds) long w c m = absurd (true≢false (sym w))
  fit_count (suc workers) monitors (Worker v ∷ olds) long w c m = omega (arith, counted (Worker v) olds, fit_count workers monitors olds (omega (arith, long)) w c m)

-- The power was put down by a worker

module _ {K D P C : Type 0} (t : Tellers D P) (f : Floored K) (opened : State) (ctl : QName) (log : List Entry) (workers monitors : ℕ) (olds news : List (Seat K D P C)) where
  -- the seats are as the plan says
  record AreFit : Type 0 where
    long : length olds ≡ workers + 1 + monitors
    w : list_all is_worker (take workers olds) ≡ true
    c : list_all is_closer (take 1 (drop workers olds)) ≡ true
    m : list_all is_monitor (drop (suc workers) olds) ≡ true

  as_planned : are_fit workers monitors olds ≡ true → AreFit
  as_planned fit =
      let rest = (and_parts (length olds == workers + 1 + monitors) _ fit).1 in
      let more = (and_parts (list_all is_worker (take workers olds)) _ rest).1 in
      let both = and_parts (list_all is_closer (take 1 (drop workers olds))) _ more in
      let next : workers + 1 ≡ suc workers = omega arith in
      record {
        long = fit_length workers monitors olds fit;
        w = (and_parts (list_all is_worker (take workers olds)) _ rest).0;
        c = both.0;
        m = subst (λ (n : ℕ). list_all is_monitor (drop n olds) ≡ true) next both.1;
      }

  cases : (n : ℕ) → (n ≡ 0) ⊎ (((1 ≤ n) × (n ≤ workers)) ⊎ (((workers < n) × (n ≤ workers + monitors)) ⊎ (workers + monitors < n)))
  cases n = grind (arith)

  by_caller : (e : Entry) → PutsDown e → IsIn e log → AreFit → SeatsServed t f log 1 olds news → ((n : ℕ) → count_by takes_pass olds < n → own caller_of n log ≡ []) → (e.caller ≡ 0 → ⊥) → HasWorkersPowerDown workers log
  by_caller e puts i fit served none own_none =
      let here = in_own e e.caller log refl i in
      elim (cases e.caller) as (λ _. HasWorkersPowerDown workers log) [
        | inl is ↦ absurd (own_none is)
        | inr (inl (least, most)) ↦ record { entry = e; among = i; accepted = puts; least = least; most = most }
        | inr (inr (inl (least, most))) ↦ (
            let all = behind_workers t f log 1 workers monitors e.caller olds news fit.long fit.w fit.c fit.m served (omega (arith, least)) (omega (arith, most)) in
            absurd (not_monitors e puts (in_all e (own caller_of e.caller log) all here)))
        | inr (inr (inr past)) ↦ (
            let nothing = none e.caller (omega (arith, past, fit_count workers monitors olds fit.long fit.w fit.c fit.m)) in
            absurd (subst (IsIn e) nothing here))
      ]

  pub workers_put_down : is_on opened.power ≡ true → IsLegal opened log → are_fit workers monitors olds ≡ true → SeatsServed t f log 1 olds news → ((n : ℕ) → count_by takes_pass olds < n → own caller_of n log ≡ []) → WasDownFirst opened ctl log → HasWorkersPowerDown workers log
  workers_put_down on legal fit served none h =
      let front = h.down.front in
      let whole = h.down.begins in
      let found = power_was_put_down opened front (legal_front opened front whole.0 (subst (IsLegal opened) whole.1 legal)) on h.down.down in
      let among : IsIn found.0 log = subst (IsIn found.0) (sym whole.1) (in_front found.0 front whole.0 found.1) in
      by_caller found.0 found.2 among (as_planned fit) served none
      (λ is. not_first ctl found.0 h.first found.2 h.call (subst (IsIn found.0) h.down.own (in_own found.0 0 front is found.1)))

-- A server is over

pub is_over : {K D P C : Type 0} (t : Tellers D P) (f : Floored K) (ctl : QName) (workers monitors : ℕ) (olds news : List (Seat K D P C)) (last : Seen K) → last.mine ≡ own caller_of 0 last.seen → is_on f.opening.state.power ≡ true → IsLegal f.opening.state last.seen → are_fit workers monitors olds ≡ true → SeatsServed t f last.seen 1 olds news → ((n : ℕ) → count_by takes_pass olds < n → own caller_of n last.seen ≡ []) → Finishes (AllZip (DryRose t) olds news) f.opening.state ctl news last → IsOver t workers f.opening.state last.seen olds news
is_over {K} {D} {P} {C} t f ctl workers monitors olds news last mine on legal fit served none h =
    let long : length last.mine ≡ length (own caller_of 0 last.seen) = ap length mine in
    record {
      started = omega (arith, long, h.started);
      quiet = λ two. h.quiet (omega (arith, long, two));
      over = by h.over;
      told = h.told;
    }
  where
    by : AllZip (DryRose t) olds news ⊎ WasDownFirst f.opening.state ctl last.seen → AllZip (DryRose t) olds news ⊎ HasWorkersPowerDown workers last.seen
    by (inl dry) = inl dry
    by (inr down) = inr (workers_put_down t f f.opening.state ctl last.seen workers monitors olds news on legal fit served none down)
