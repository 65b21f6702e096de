-- What a server tells of the keeper, as the store tells it whose keeper it was.
use Rattle.std.proofs.Common.{◌≡◌, ◌⊎◌, ◌≤◌, ℕ, ℤ, Bool, true, false, List, [], ◌∷◌, Option, Some, None, IfSome, is_some, refl, sym, ap, subst, ◌∙◌, inl, inr, arith}
use Rattle.std.specs.Prelude.{⊤}
use Rattle.std.proofs.lemmas.Bool.{false≢true}
use Rattle.std.proofs.lemmas.Option.{same_Some}
use Rattle.wm_traits.specs.Cause.{PassesOn, raised}
use Rattle.wm_traits.specs.Told.{Grows, Stays}
use Rattle.wm_traits.specs.declared.fault.KeepFault.{KeepFault}
use Rattle.wm_traits.specs.declared.fault.KeepFault.TheVariants as keep
use Rattle.wm_traits.specs.declared.row.Row.{Row}
use Rattle.wm_law.specs.declared.call.Entry.{Entry}
use Rattle.wm_law.specs.declared.state.State.{State}
use Rattle.wm_plan.specs.declared.plan.ServePlan.{ServePlan}
use Rattle.wm_tables.specs.Restart.{IsBad}
use Rattle.wm_floor.specs.Keeping.{IsLeft, Telling}
use Rattle.wm_floor.proofs.Staying.{Stays-same}
use Rattle.wm_run.specs.Kept.{HasBadRow, IsUnopened, store_status}
use Rattle.wm_run.proofs.Openings.{Stays-then, opened_of_store, stays_back, stays_if}
use Rattle.wm_serve.specs.Server.{HasHistory, HasLog, IsServeStatus, OpensPlanned}

pub log_of_store : (offset : ℤ) (status : ℕ) (log : Option (List Entry)) (old found closed new : Telling) (Done : State → List Entry → Type 0) → Stays old.tables found.tables → Stays old.trail found.trail → Stays closed.tables new.tables → Stays closed.trail new.trail → is_some new.trail ≡ is_some new.tables → HasLog offset status log found closed Done → HasLog offset status log old new Done
log_of_store offset status (Some log) old found closed new Done tables trail tables' trail' both h = opened_of_store offset log old found closed new tables trail tables' trail' both h
log_of_store offset status None old found closed new Done tables trail tables' trail' both h = record { early = h.early; left = by h.left }
  where
    by : IsLeft found closed ⊎ ((status ≡ 6) × HasHistory offset status [] found closed (λ opened es. ⊤)) → IsLeft old new ⊎ ((status ≡ 6) × HasHistory offset status [] old new (λ opened es. ⊤))
    by (inl left) =
        inl (record {
          tables = Stays-then old.tables found.tables new.tables tables (Stays-then found.tables closed.tables new.tables left.tables tables');
          trail = Stays-then old.trail found.trail new.trail trail (Stays-then found.trail closed.trail new.trail left.trail trail');
        })
    by (inr (six, k)) = inr (six, opened_of_store offset [] old found closed new tables trail tables' trail' both k)

pub bad_row_of_store : (offset : ℤ) (old found closed new : Option (List Row)) → Stays old found → Stays closed new → HasBadRow offset found closed → HasBadRow offset old new
bad_row_of_store offset old found closed new tables tables' h = go new (stays_if _ closed new tables' h)
  where
    go : (o : Option (List Row)) → IfSome o (λ rows. (found ≡ Some rows) × ((n : ℕ) × IsBad offset rows n)) → IfSome o (λ rows. (old ≡ Some rows) × ((n : ℕ) × IsBad offset rows n))
    go None k = tt
    go (Some rows) k = (stays_back rows old found tables k.0, k.1)

-- a count of the keeper, which begins with 0, is passed on
pub fault_of_store : (found closed old new : ℕ) → found ≡ 0 → raised found ≤ closed → PassesOn closed old new → raised old ≤ new
fault_of_store found closed old new none rose passes = passes.passed (omega (arith, none, rose))

-- A server that had no keeper

pub log_left : (offset : ℤ) (status : ℕ) (log : Option (List Entry)) (old new : Telling) (Done : State → List Entry → Type 0) → log ≡ None → IsUnopened status → Stays old.tables new.tables → Stays old.trail new.trail → HasLog offset status log old new Done
log_left offset status log old new Done none early tables trail =
    subst (λ (l : Option (List Entry)). HasLog offset status l old new Done) (sym none) (record { early = early; left = inl (record { tables = tables; trail = trail }) })

-- the status of words that are none of a server, or that couldn't be read

words_with : (Q : ℕ → Type 0) (n m : ℕ) → Q 2 → Q 6 → n ≡ m → (m ≡ 2) ⊎ (m ≡ 6) → Q n
words_with Q n m q2 q6 is (inl two) = subst Q (sym (is ∙ two)) q2
words_with Q n m q2 q6 is (inr six) = subst Q (sym (is ∙ six)) q6

pub words_either : (n m : ℕ) → n ≡ m → (m ≡ 2) ⊎ (m ≡ 6) → (n ≡ 2) ⊎ (n ≡ 6)
words_either n m = words_with (λ k. (k ≡ 2) ⊎ (k ≡ 6)) n m (inl refl) (inr refl)

pub words_unopened : (n m : ℕ) → n ≡ m → (m ≡ 2) ⊎ (m ≡ 6) → IsUnopened n
words_unopened n m = words_with IsUnopened n m refl refl

pub words_listed : (n m : ℕ) → n ≡ m → (m ≡ 2) ⊎ (m ≡ 6) → IsServeStatus n
words_listed n m = words_with IsServeStatus n m refl refl

pub words_begun : (n m : ℕ) → n ≡ m → (m ≡ 2) ⊎ (m ≡ 6) → n ≡ 0 → ⊥
words_begun n m is (inl two) none = absurd (omega arith)
words_begun n m is (inr six) none = absurd (omega arith)

-- the status of a store that gave no keeper

store_with : (Q : ℕ → Type 0) (fault : KeepFault) (status : ℕ) → Q 5 → Q 6 → status ≡ store_status fault → Q status
store_with Q keep.Failed status q5 q6 is = subst Q (sym is) q5
store_with Q keep.NoMemory status q5 q6 is = subst Q (sym is) q6

pub store_range : (fault : KeepFault) (status : ℕ) → status ≡ store_status fault → (5 ≤ status) × (status ≤ 6)
store_range fault status = store_with (λ n. (5 ≤ n) × (n ≤ 6)) fault status (omega arith, omega arith) (omega arith, omega arith)

pub store_unopened : (fault : KeepFault) (status : ℕ) → status ≡ store_status fault → IsUnopened status
store_unopened fault status = store_with IsUnopened fault status refl refl

pub store_listed : (fault : KeepFault) (status : ℕ) → status ≡ store_status fault → IsServeStatus status
store_listed fault status = store_with IsServeStatus fault status refl refl

pub store_failed : (fault : KeepFault) (status : ℕ) → status ≡ store_status fault → status ≡ 5 → fault ≡ keep.Failed
store_failed keep.Failed status is five = refl
store_failed keep.NoMemory status is five = absurd (omega arith)

-- Which path was opened

pub opened_early : (plan : Option ServePlan) (status why : ℕ) (told : Option (List (List ℕ))) → status ≡ why → (why ≡ 2) ⊎ (why ≡ 6) → (why ≡ 2 → plan ≡ None) → OpensPlanned plan status told told
opened_early None status why told is early wrong = Stays-same told
opened_early (Some plan) status why told is (inl two) wrong = absurd (let none = wrong two in cc)
opened_early (Some plan) status why told is (inr six) wrong = inr (inr (is ∙ six), Stays-same told)

pub opened_unfit : (plan : Option ServePlan) (status : ℕ) (told : Option (List (List ℕ))) → status ≡ 2 → OpensPlanned plan status told told
opened_unfit None status told two = Stays-same told
opened_unfit (Some plan) status told two = inr (inl two, Stays-same told)

pub opened_once : (plan : Option ServePlan) (p : ServePlan) (path : List ℕ) (status : ℕ) (old new : Option (List (List ℕ))) → plan ≡ Some p → path ≡ p.store → (status ≡ 2 → ⊥) → Grows old new (path ∷ []) → OpensPlanned plan status old new
opened_once None p path status old new is same begun grows = absurd (cc)
opened_once (Some plan) p path status old new is same begun grows =
    let one : plan ≡ p = same_Some plan p is in
    inl (begun, subst (λ (store : List ℕ). Grows old new (store ∷ [])) (same ∙ ap (λ (q : ServePlan). q.store) (sym one)) grows)

-- Seats that aren't as the plan says

pub any_seats : (plan : Option ServePlan) (fit : ServePlan → Bool) (X : Type 0) → X → IfSome plan (λ p. fit p ≡ false → X)
any_seats None fit X x = tt
any_seats (Some plan) fit X x = λ unfit. x

pub fit_seats : (plan : Option ServePlan) (p : ServePlan) (fit : ServePlan → Bool) (X : Type 0) → plan ≡ Some p → fit p ≡ true → IfSome plan (λ q. fit q ≡ false → X)
fit_seats None p fit X is good = tt
fit_seats (Some plan) p fit X is good = λ unfit. absurd (false≢true (sym unfit ∙ (ap fit (same_Some plan p is) ∙ good)))
