-- Nothing comes due before the next moment of a wish or of an ending subsystem.
use Rattle.std.proofs.Common.{◌≡◌, ℕ, ◌<◌, ◌||◌, ◌&&◌, not, Bool, true, false, cond, List, [], ◌∷◌, fold, Option, Some, None, nat_le, nat_lt, min, max, refl, sym, ap, ◌∙◌, inl, inr, arith}
use Rattle.std.proofs.lemmas.Bool.Decides.{nat_tests}
use Rattle.std.proofs.Math.Nat.{min-le_left, min-le_right}
use Rattle.std.proofs.lemmas.Bool.{or_parts}
use Rattle.wm_law.specs.declared.job.Job.{Job}
use Rattle.wm_law.specs.declared.job.Wish.{Wish}
use Rattle.wm_law.specs.declared.job.Wish.TheVariants as wish
use Rattle.wm_law.specs.declared.state.Sbs.{Sbs}
use Rattle.wm_law.specs.declared.state.State.{State}
use Rattle.wm_law.specs.Counts.{is_active, is_prestart}
use Rattle.wm_law.specs.Laws.{IsIn}
use Rattle.wm_law.specs.Pending.{active_moment, ahead, next_ending, next_wish, soonest}
use Rattle.wm_law.specs.Settling.{sbs_moment}
use Rattle.wm_law.specs.Sound.{IsUpToDate, NoneDueBefore}
use Rattle.wm_law.specs.Wishes.{has_come, is_wish_due, wish_moment}

not_yet_both : (clock l m : ℕ) → nat_le (min l m) clock ≡ false → (nat_le l clock ≡ false) × (nat_le m clock ≡ false)
not_yet_both clock l m h =
    let left = min-le_left l m in
    let right = min-le_right l m in
    let later : clock < min l m = grind (arith, nat_tests) in
    let first : clock < l = omega arith in
    let second : clock < m = omega arith in
    (grind (arith, nat_tests), grind (arith, nat_tests))

-- where the sooner of two moments hasn't come, neither has
neither_yet : (clock : ℕ) (a b : Option ℕ) → has_come clock (soonest a b) ≡ false → (has_come clock a ≡ false) × (has_come clock b ≡ false)
neither_yet clock a None h = (h, refl)
neither_yet clock None (Some m) h = (refl, h)
neither_yet clock (Some l) (Some m) h = not_yet_both clock l m h

-- where the soonest of a list of moments hasn't come, none has
module _ {X : Type 0} (clock : ℕ) (moment : X → Option ℕ) where
  none_yet : (xs : List X) (least : Option ℕ) → has_come clock (fold (λ o x. soonest o (moment x)) least xs) ≡ false → (has_come clock least ≡ false) × ((x : X) → IsIn x xs → has_come clock (moment x) ≡ false)
  none_yet [] least h = (h, λ x i. absurd i)
  none_yet (y ∷ ys) least h =
      let rest = none_yet ys (soonest least (moment y)) h in
      let both = neither_yet clock least (moment y) rest.0 in
      (both.0, λ x i. (elim i as (λ _. has_come clock (moment x) ≡ false) [ inl e ↦ ap (λ (z : X). has_come clock (moment z)) e ∙ both.1 | inr k ↦ rest.1 x k ]))

not_past : (clock moment m : ℕ) → nat_le m clock ≡ false → nat_le m moment ≡ false → nat_le m (max clock moment) ≡ false
not_past clock moment m h k =
    let one : clock < m = grind (arith, nat_tests) in
    let two : moment < m = grind (arith, nat_tests) in
    let both : max clock moment < m = omega arith in
    grind (arith, nat_tests)

is_ahead : (clock m : ℕ) → nat_le m clock ≡ false → nat_lt clock m ≡ true
is_ahead clock m h = grind (arith, nat_tests)

-- a moment that hasn't come by the clock, nor by another moment, hasn't come by the later of the two
not_yet : (clock moment : ℕ) (o : Option ℕ) → has_come clock o ≡ false → has_come moment (ahead clock o) ≡ false → has_come (max clock moment) o ≡ false
not_yet clock moment None h k = refl
not_yet clock moment (Some m) h k =
    let stands : ahead clock (Some m) ≡ Some m = ap (λ (b : Bool). cond b (Some m) None) (is_ahead clock m h) in
    not_past clock moment m h (ap (has_come moment) (sym stands) ∙ k)

-- the moment of a wish that isn't due hasn't come
not_come : (clock : ℕ) (j : Job) (w : Wish) → is_wish_due clock j w ≡ false → has_come clock (wish_moment w) ≡ false
not_come clock j wish.NoWish h = refl
not_come clock j (wish.Later until why) h = (or_parts (has_come clock until) (is_prestart j.kind && not j.evoke) h).0
not_come clock j (wish.Now why handed) h = refl

-- such a wish isn't due either by a clock by which its moment hasn't come
still_undue : (clock later : ℕ) (j : Job) (w : Wish) → is_wish_due clock j w ≡ false → has_come later (wish_moment w) ≡ false → is_wish_due later j w ≡ false
still_undue clock later j wish.NoWish h k = refl
still_undue clock later j (wish.Later until why) h k =
    ap (λ (b : Bool). b || (is_prestart j.kind && not j.evoke)) k
    ∙ (or_parts (has_come clock until) (is_prestart j.kind && not j.evoke) h).1
still_undue clock later j (wish.Now why handed) h k = refl

job_before : (s : State) (moment : ℕ) (j : Job) → is_active j.phase ≡ true → has_come moment (ahead s.clock (active_moment j)) ≡ false → IsUpToDate s.clock s.started j → IsUpToDate (max s.clock moment) s.started j
job_before s moment j a h u =
    let its : active_moment j ≡ wish_moment j.wish = ap (λ (b : Bool). cond b (wish_moment j.wish) None) a in
    let yet = not_yet s.clock moment (wish_moment j.wish) (not_come s.clock j j.wish u.looked) (ap (λ (o : Option ℕ). has_come moment (ahead s.clock o)) (sym its) ∙ h) in
    record { looked = still_undue s.clock (max s.clock moment) j j.wish u.looked yet; starting = u.starting; told = u.told }

pub none_due_before : NoneDueBefore
none_due_before s moment h n =
    let both = neither_yet moment (next_wish s) (next_ending s) n in
    let jobs = none_yet moment (λ (j : Job). ahead s.clock (active_moment j)) s.jobs None both.0 in
    let subsystems = none_yet moment (λ (b : Sbs). ahead s.clock (sbs_moment b.phase)) s.started None both.1 in
    record {
      subsystems = λ b i. not_yet s.clock moment (sbs_moment b.phase) (h.subsystems b i) (subsystems.1 b i);
      jobs = λ j i a. job_before s moment j a (jobs.1 j i) (h.jobs j i a);
    }
