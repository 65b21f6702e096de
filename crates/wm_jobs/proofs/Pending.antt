-- How many jobs wait or are orders, now and before the changes that were noted.
use Rattle.std.proofs.Common.{◌≡◌, ℕ, suc, ◌+◌, ◌<◌, ◌≤◌, false, cond, List, [], ◌∷◌, length, take, Option, Some, None, ap, arith, nat_eq, inl, inr, All}
use Rattle.std.specs.List.{cons_option}
use Rattle.std.specs.Ordering.{nat_cmp}
use Rattle.std.proofs.lemmas.Bool.{cases_Bool, eqb-true}
use Rattle.std.proofs.lemmas.List.Elements.{All-weaker}
use Rattle.wm_desc.specs.Sorted.{IsSortedOnce}
use Rattle.wm_law.specs.declared.job.Job.{Job}
use Rattle.wm_law.specs.Counts.{is_waiting}
use Rattle.wm_law.specs.Jobs.{changed_at}
use Rattle.wm_pick.specs.Parts.{waiter_of, waiters}
use Rattle.wm_jobs.specs.declared.touched.Touched.{Touched}
use Rattle.wm_jobs.specs.Indexed.{order_of, orders}
use Rattle.wm_jobs.specs.Marked.{standing_as, restored, undone}
use Rattle.wm_jobs.specs.Table.{serial_of}
use Rattle.wm_jobs.specs.TableInside.{pending_of, AreInPlace, StoodInPlace, IsUndoable, IsTableInside}
use Rattle.wm_jobs.specs.declared.table.JobTable.TheInside.{Inside}
use Rattle.wm_jobs.proofs.JobParts.{waiting-unstarted, waiter-none, order-none}
use Rattle.wm_jobs.proofs.Sifted.{higher_differs}
use Rattle.wm_jobs.proofs.Splits.{above-head, map-apart}
use Rattle.wm_jobs.proofs.Stood.{pending-first}

-- those that wait and those that are orders
abbrev pub pending : List Job → ℕ
pending js = length (waiters js) + length (orders js)

cons-length : {E : Type 0} (o : Option E) (es : List E) → length (cons_option o es) ≡ length (cons_option o []) + length es
cons-length None es = omega arith
cons-length (Some e) es = omega arith

cons-most : {E : Type 0} (o : Option E) → length (cons_option o []) ≤ 1
cons-most None = omega arith
cons-most (Some e) = omega arith

cons-none : {E : Type 0} (o : Option E) → o ≡ None → length (cons_option o []) ≡ 0
cons-none o none = ap (λ (p : Option _). length (cons_option p [])) none

-- what one job adds
abbrev adds : Job → ℕ
adds j = length (cons_option (waiter_of j) []) + length (cons_option (order_of j) [])

pending-cons : (j : Job) (js : List Job) → pending (j ∷ js) ≡ adds j + pending js
pending-cons j js = let w = cons-length (waiter_of j) (waiters js) in let o = cons-length (order_of j) (orders js) in omega arith

-- it waits or is an order, not both
adds-most : (j : Job) → adds j ≤ 1
adds-most j =
    let w = cons-most (waiter_of j) in
    let o = cons-most (order_of j) in
    elim (cases_Bool (is_waiting j.phase)) [
      | inl e ↦ (let none = cons-none (order_of j) (order-none j (waiting-unstarted j.phase e)) in omega arith)
      | inr e ↦ (let none = cons-none (waiter_of j) (waiter-none j e) in omega arith)
    ]

-- a change of the job of a serial brings one at the most
pub pending-restored : (t : Touched) (js : List Job) → IsSortedOnce serial_of nat_cmp js → pending (restored t js) ≤ pending js + 1
pending-restored t [] sorted = omega arith
pending-restored t (j ∷ js) sorted =
    let f : Job → Job = changed_at t.serial (standing_as t.was) in
    let new = pending-cons (f j) (restored t js) in
    let old = pending-cons j js in
    elim (cases_Bool (nat_eq j.serial t.serial)) [
      | inl e ↦ (
          let higher : All (λ (k : Job). j.serial < k.serial) js = above-head serial_of 0 j js sorted in
          let same : j.serial ≡ t.serial = eqb-true j.serial t.serial e in
          let apart : All (λ (k : Job). nat_eq k.serial t.serial ≡ false) js = All-weaker (λ (k : Job). j.serial < k.serial) (λ (k : Job). nat_eq k.serial t.serial ≡ false) (λ k lt. higher_differs k.serial t.serial (omega arith)) js higher in
          let rest : pending (restored t js) ≡ pending js = ap pending (map-apart serial_of t.serial (standing_as t.was) js apart) in
          let most = adds-most (f j) in
          omega arith)
      | inr e ↦ (
          let rest = pending-restored t js (λ a b d lt in_range. sorted (suc a) (suc b) d (omega arith) (omega arith)) in
          let same : adds (f j) ≡ adds j = ap (λ b. adds (cond b (standing_as t.was j) j)) e in
          omega arith)
    ]

-- before all that was noted they stood in place
first-stood : (ns np p : ℕ) (ts : List Touched) (js : List Job) → StoodInPlace ns np p ts js → AreInPlace ns np p (undone ts js)
first-stood ns np p [] js h = h
first-stood ns np p (t ∷ ts) js h = h.0.in_place

-- and each change that was noted took one at the most
pending-undone : (ns np p : ℕ) (ts : List Touched) (js : List Job) → StoodInPlace ns np p ts js → pending (undone ts js) ≤ pending js + length ts
pending-undone ns np p [] js h = omega arith
pending-undone ns np p (t ∷ ts) js h =
    let rest = pending-undone ns np p ts js h.1 in
    let more = pending-restored t (undone ts js) (first-stood ns np p ts js h.1).listed.sorted in
    omega arith

-- so they stood in place with room for those that are pending now, and for one for each change
pub stood-roomier : (ns np p q : ℕ) (ts : List Touched) (js : List Job) → StoodInPlace ns np p ts js → pending js + length ts ≤ q → StoodInPlace ns np q ts js
stood-roomier ns np p q [] js h room = record { listed = h.listed; places = h.places; few = omega arith }
stood-roomier ns np p q (t ∷ ts) js h room =
    let most = pending-undone ns np p (t ∷ ts) js h in
    (record { in_place = record { listed = h.0.in_place.listed; places = h.0.in_place.places; few = omega arith }; how = h.0.how }, stood-roomier ns np p q ts js h.1 (omega arith))

-- with room for those that are pending and for one for each change, what was done can be undone as before
pub undoable-roomier : (t : Inside) → IsTableInside t → (us : List Touched) (ks : List Job) (clock q : ℕ) → us ≡ t.touched.items → ks ≡ t.jobs.items → clock ≡ t.waiting.clock → length t.waiting.items + length t.starting.items + length t.touched.items ≤ q → IsUndoable t.mark us ks t.next_serial t.next_place q clock
undoable-roomier t h us ks clock q touched jobs same room =
    let waits : length t.waiting.items ≡ length (waiters t.jobs.items) = ap length h.kept.indexed.waiters_are in
    let starts : length t.starting.items ≡ length (orders t.jobs.items) = ap length h.kept.indexed.orders_are in
    let first = pending-first t.mark.jobs t.jobs.items in
    rw (touched, jobs, same) (record {
      stood = stood-roomier t.next_serial t.next_place (pending_of t.starting t.room) q t.touched.items (take t.mark.jobs t.jobs.items) h.undoable.stood (omega arith);
      began = h.undoable.began;
      clock = h.undoable.clock;
    })
