-- What is picked and counted of jobs, where one of them stands in the place of another.
use Rattle.std.proofs.Common.{◌≡◌, ℕ, ◌+◌, ◌*◌, ◌<◌, ◌≤◌, ◌==◌, Bool, true, false, not, ◌&&◌, List, ◌∷◌, ◌++◌, length, Option, Some, None, is_some, refl, ap, sym, ◌∙◌, subst, arith, nat_eq, inl, inr, All, Contains, eq-eqb}
use mathlib.Core.Bool.{false≢true}
use Rattle.std.specs.List.{filter_map, cons_option}
use Rattle.std.specs.Ordering.{nat_cmp}
use Rattle.std.proofs.lemmas.List.Elements.{All-contains, Contains-append_cases, Contains-append_right}
use Rattle.wm_indexes.specs.declared.acting.Acting.{Acting}
use Rattle.wm_base.specs.declared.job.How.{How}
use Rattle.wm_desc.specs.Sorted.{with_key, has_key, added, removed}
use Rattle.wm_law.specs.declared.job.Job.{Job}
use Rattle.wm_law.specs.declared.job.Phase.{Phase}
use Rattle.wm_law.specs.declared.job.Phase.TheVariants.{Waiting, Starting, Handed, Running, Ended}
use Rattle.wm_law.specs.Counts.{is_waiting, is_starting, is_active}
use Rattle.wm_law.specs.Named.{is_ended}
use Rattle.wm_ordered.specs.Ordered.{Pairs}
use Rattle.wm_ordered.proofs.Members.{Contains-head, find-None, list_any-none}
use Rattle.wm_pick.specs.Tally.{Counts, IsTally, AddsHow, TakesHow}
use Rattle.wm_ordered.specs.declared.waiter.Waiter.{Waiter}
use Rattle.wm_ordered.specs.Waiting.{Waiting as Line, has_place}
use Rattle.wm_ordered.specs.Waiting as waiting
use Rattle.wm_pick.specs.Parts.{waiter_of, waiters}
use Rattle.wm_pick.specs.Tallied.{hows}
use Rattle.wm_jobs.specs.Standings.{bit, comes, spent, rank, IsAround, AreOf, IsItsPlace, Follows, HowsFollow}
use Rattle.wm_jobs.specs.Table.{serial_of, is_busy}
use Rattle.wm_jobs.specs.Indexed.{order_of, active_of}
use Rattle.wm_jobs.specs.TableInside.{IsIndexed}
use Rattle.wm_jobs.proofs.JobParts.{waiter-keyed, hows-active, hows-inactive, tally-in, tally-out, count-changed}
use Rattle.wm_jobs.proofs.Sifted.{differs, picked-keys, picked-parts, picked-lacks, picked-comes, picked-goes, picked-same, picked-length}
use Rattle.wm_jobs.proofs.Splits.{map-split}
use Rattle.wm_indexes.specs.declared.prestart_job.PrestartJob.{PrestartJob}
use Rattle.wm_indexes.specs.OfJobs.{row_of}

one-entry : {E : Type 0} (o : Option E) (es : List E) → length (cons_option o es) ≡ bit (is_some o) + length es
one-entry None es = omega arith
one-entry (Some e) es = omega arith

-- where the entry of one job comes to be that of another
module _ {E : Type 0} (pick : Job → Option E) (key : E → ℕ) (keyed : (j : Job) (e : E) → pick j ≡ Some e → key e ≡ j.serial) (x y : Job) (same : y.serial ≡ x.serial) (old new : List E) where
  pub stays : pick x ≡ pick y → new ≡ old → Follows pick x y old new
  stays alike left l r around was = left ∙ (was ∙ picked-same serial_of pick key keyed l r x y alike)

  pub joins : (e : E) → pick x ≡ None → pick y ≡ Some e → new ≡ added key nat_cmp e old → Follows pick x y old new
  joins e none is put l r around was =
      put ∙ (ap (λ es. added key nat_cmp e es) was ∙ picked-comes serial_of pick key keyed x.serial l r around.lower around.higher x y e none is same)

  pub leaves : pick y ≡ None → new ≡ removed key nat_eq x.serial old → Follows pick x y old new
  leaves none taken l r around was =
      taken ∙ (ap (λ es. removed key nat_eq x.serial es) was ∙ picked-goes serial_of pick key keyed x.serial l r around.lower around.higher x y refl none)

  -- the serial is new where the job had no entry
  pub lacks : pick x ≡ None → AreOf pick old x → has_key key nat_eq x.serial old ≡ false
  lacks none among =
      ap (λ es. has_key key nat_eq x.serial es) among.are ∙ picked-lacks serial_of pick key keyed x.serial among.before among.behind among.around.lower among.around.higher x none

  -- as many entries more as there come
  pub entries : (l r : List Job) → old ≡ filter_map pick (l ++ x ∷ r) → new ≡ filter_map pick (l ++ y ∷ r) → length new + bit (is_some (pick x)) ≡ length old + bit (is_some (pick y))
  entries l r was is =
      let before : length old ≡ length (filter_map pick l) + length (cons_option (pick x) (filter_map pick r)) = ap length was ∙ picked-length serial_of pick key keyed l r x (pick x) refl in
      let after : length new ≡ length (filter_map pick l) + length (cons_option (pick y) (filter_map pick r)) = ap length is ∙ picked-length serial_of pick key keyed l r y (pick y) refl in
      let one = one-entry (pick x) (filter_map pick r) in
      let other = one-entry (pick y) (filter_map pick r) in
      omega arith

-- where a job has an entry, there is one
pub has-entry : {E : Type 0} (pick : Job → Option E) (key : E → ℕ) (keyed : (j : Job) (e : E) → pick j ≡ Some e → key e ≡ j.serial) (l r : List Job) (x : Job) (es : List E) → es ≡ filter_map pick (l ++ x ∷ r) → bit (is_some (pick x)) ≤ length es
has-entry pick key keyed l r x es are =
    let parts : length es ≡ length (filter_map pick l) + length (cons_option (pick x) (filter_map pick r)) = ap length are ∙ picked-length serial_of pick key keyed l r x (pick x) refl in
    let one = one-entry (pick x) (filter_map pick r) in
    omega arith

-- a job among those that wait
module _ (x : Job) (items : List Waiter) (among : AreOf waiter_of items x) where
  -- its own entry alone has its serial
  other_serial : waiter_of x ≡ None → (v : Waiter) → Contains items v → v.serial ≡ x.serial → ⊥
  other_serial none v there is =
      let parts : items ≡ waiters among.before ++ waiters among.behind = among.are ∙ picked-parts serial_of waiter_of waiting.serial_of waiter-keyed among.before among.behind x None none in
      elim (Contains-append_cases (waiters among.before) (waiters among.behind) v (subst (λ (ws : List Waiter). Contains ws v) parts there)) [
        | inl before ↦ (let below = All-contains (λ (u : Waiter). u.serial < x.serial) (waiters among.before) v (picked-keys serial_of waiter_of waiting.serial_of waiter-keyed (λ n. n < x.serial) among.before among.around.lower) before in omega arith)
        | inr behind ↦ (let above = All-contains (λ (u : Waiter). x.serial < u.serial) (waiters among.behind) v (picked-keys serial_of waiter_of waiting.serial_of waiter-keyed (λ n. x.serial < n) among.behind among.around.higher) behind in omega arith)
      ]

  -- so where no other has its place, and it didn't wait, the place is new
  pub place-new : waiter_of x ≡ None → (place : ℕ) → IsItsPlace place x.serial items → has_place place items ≡ false
  place-new none place own = list_any-none (λ (v : Waiter). v.place == place) items (λ v there. differs v.place place (λ e. other_serial none v there (own v there e)))

  -- where it waits, it is found there
  pub found-there : (w : Waiter) → waiter_of x ≡ Some w → (o : Option Waiter) → o ≡ with_key waiting.serial_of nat_eq x.serial items → is_some o ≡ true
  found-there w is (Some v) found = refl
  found-there w is None found =
      let parts : items ≡ waiters among.before ++ w ∷ waiters among.behind = among.are ∙ picked-parts serial_of waiter_of waiting.serial_of waiter-keyed among.before among.behind x (Some w) is in
      let there : Contains items w = subst (λ (ws : List Waiter). Contains ws w) (sym parts) (Contains-append_right (waiters among.before) (w ∷ waiters among.behind) w (Contains-head w (waiters among.behind))) in
      absurd (false≢true (sym (find-None (λ (v : Waiter). nat_eq v.serial x.serial) items w (sym found) there) ∙ eq-eqb w.serial x.serial (waiter-keyed x w is)))

-- the one that waits replaces the one that waited
pub replaces : (x y : Job) → y.serial ≡ x.serial → (w v : Waiter) → waiter_of x ≡ Some w → waiter_of y ≡ Some v → (old new : List Waiter) → new ≡ waiting.replaced v old → Follows waiter_of x y old new
replaces x y same w v x_is y_is old new put l r around was =
    let key : v.serial ≡ x.serial = waiter-keyed y v y_is ∙ same in
    put
    ∙ (ap (λ (ws : List Waiter). waiting.replaced v ws) (was ∙ picked-parts serial_of waiter_of waiting.serial_of waiter-keyed l r x (Some w) x_is)
    ∙ (map-split waiting.serial_of v.serial (λ _. v) (waiters l ++ w ∷ waiters r) (waiters l) (waiters r) w (record {
      whole = refl;
      here = waiter-keyed x w x_is ∙ sym key;
      lower = picked-keys serial_of waiter_of waiting.serial_of waiter-keyed (λ n. n < v.serial) l (subst (λ n. All (λ (k : Job). k.serial < n) l) (sym key) around.lower);
      higher = picked-keys serial_of waiter_of waiting.serial_of waiter-keyed (λ n. v.serial < n) r (subst (λ n. All (λ (k : Job). n < k.serial) r) (sym key) around.higher);
    })
    ∙ sym (picked-parts serial_of waiter_of waiting.serial_of waiter-keyed l r y (Some v) y_is)))

-- the tally of the hows
module _ (x y : Job) (old new : Counts) where
  pub how-joins : is_active x.phase ≡ false → is_active y.phase ≡ true → AddsHow old new y.how → HowsFollow x y old new
  how-joins was is adds l r h =
      subst (λ hs. IsTally hs new) (sym (hows-active l r y is)) (tally-in (hows l) (hows r) y.how new (adds (hows l ++ hows r) (subst (λ hs. IsTally hs old) (hows-inactive l r x was) h)))

  pub how-leaves : is_active x.phase ≡ true → is_active y.phase ≡ false → TakesHow old new x.how → HowsFollow x y old new
  how-leaves was is takes l r h =
      subst (λ hs. IsTally hs new) (sym (hows-inactive l r y is)) (takes (hows l ++ hows r) (tally-out (hows l) (hows r) x.how old (subst (λ hs. IsTally hs old) (hows-active l r x was) h)))

pub how-stays : (x y : Job) (t : Counts) (b : Bool) → is_active x.phase ≡ b → is_active y.phase ≡ b → (is_active x.phase ≡ true → is_active y.phase ≡ true → y.how ≡ x.how) → HowsFollow x y t t
how-stays x y t true was is same l r h =
    subst (λ hs. IsTally hs t) (hows-active l r x was ∙ (ap (λ (how : How). hows l ++ how ∷ hows r) (sym (same was is)) ∙ sym (hows-active l r y is))) h
how-stays x y t false was is same l r h = subst (λ hs. IsTally hs t) (hows-inactive l r x was ∙ sym (hows-inactive l r y is)) h

-- what jobs are found and counted by follows
pub followed : (l r : List Job) (x y : Job) (around : IsAround l r x.serial) (w0 w1 : Line) (t0 t1 : Counts) (s0 s1 : Pairs ℕ (Unit {0})) (a0 a1 : Pairs ℕ Acting) (p0 p1 : Pairs ℕ PrestartJob) (b0 b1 : ℕ) → IsIndexed (l ++ x ∷ r) w0 t0 s0 a0 p0 b0 → Follows waiter_of x y w0.items w1.items → HowsFollow x y t0 t1 → Follows order_of x y s0.items s1.items → Follows active_of x y a0.items a1.items → Follows row_of x y p0.items p1.items → b1 + bit (is_busy x) ≡ b0 + bit (is_busy y) → IsIndexed (l ++ y ∷ r) w1 t1 s1 a1 p1 b1
followed l r x y around w0 w1 t0 t1 s0 s1 a0 a1 p0 p1 b0 b1 i waits counts starts acts seats busy = record {
  waiters_are = waits l r around i.waiters_are;
  hows_are = counts l r i.hows_are;
  orders_are = starts l r around i.orders_are;
  active_are = acts l r around i.active_are;
  prestart_are = seats l r around i.prestart_are;
  busy_are = (let was = i.busy_are in let changed = count-changed is_busy l r x y in omega arith);
}

-- a job waits, is active or has ended, and how far its phase has gone says which
pub phase-parts : (p : Phase) → (bit (is_waiting p) + bit (is_active p) + bit (is_ended p) ≡ 1) × (bit (is_starting p) ≤ bit (is_active p)) × (rank p + bit (is_starting p) ≡ 2 * bit (is_active p) + 3 * bit (is_ended p))
phase-parts Waiting = (refl, omega arith, refl)
phase-parts Starting = (refl, omega arith, refl)
phase-parts (Handed m) = (refl, omega arith, refl)
phase-parts (Running m) = (refl, omega arith, refl)
phase-parts (Ended c) = (refl, omega arith, refl)

pub come-bits : (b c : Bool) → (comes b c + bit b ≤ 1) × (bit c ≤ comes b c + bit b) × (comes b c ≤ bit c)
come-bits true true = (omega arith, omega arith, omega arith)
come-bits true false = (omega arith, omega arith, omega arith)
come-bits false true = (omega arith, omega arith, omega arith)
come-bits false false = (omega arith, omega arith, omega arith)

pub spent-bits : (p q : Phase) → bit (is_waiting q) ≤ bit (is_waiting p) → spent p q + bit (is_waiting p) ≡ 1 + bit (is_waiting q)
spent-bits p q less = on (is_waiting p) (is_waiting q) less
  where
    on : (b c : Bool) → bit c ≤ bit b → bit (not (b && not c)) + bit b ≡ 1 + bit c
    on true true less = refl
    on true false less = refl
    on false true less = absurd (omega arith)
    on false false less = refl
