-- What is found among the moments of active jobs.
use Rattle.std.proofs.Common.{◌≡◌, ℕ, ◌+◌, ◌≤◌, Bool, true, false, not, cond, List, [], ◌∷◌, fold, is_some, nat_lt, nat_eq, Option, Some, None, inl, inr, refl, ap, sym, ◌∙◌, subst, arith, Contains}
use Rattle.std.specs.List.{insert}
use Rattle.std.specs.Cmp.{tied_itself}
use Rattle.std.specs.Ordering.{is_lt}
use Rattle.std.specs.declared.cmp.Ordering.TheVariants.{Less}
use Rattle.std.specs.Prelude.{unwrap_or}
use mathlib.Core.Bool.{false≢true}
use Rattle.std.proofs.lemmas.Bool.{cases_Bool}
use Rattle.std.proofs.lemmas.Bool.Decides.{nat_tests}
use Rattle.wm_desc.specs.Sorted.{IsSortedOnce, removed}
use Rattle.wm_law.specs.Pending.{ahead, soonest}
use Rattle.wm_ordered.specs.Index.{IsIndex}
use Rattle.wm_ordered.specs.Keys.{nothing_of}
use Rattle.wm_ordered.specs.Least.{sooner}
use Rattle.wm_ordered.specs.Ordered.{key_of, first_from}
use Rattle.wm_ordered.proofs.Members.{Contains-insert_cases, Contains-from_filter, find-Some, find-None, find-before}
use Rattle.wm_ordered.proofs.Soonest.{soonest-None, soonest-Some}
use Rattle.wm_indexes.specs.declared.acting.Acting.{Acting}
use Rattle.wm_indexes.specs.declared.turn.Turn.{Turn}
use Rattle.wm_indexes.specs.Active.{next_above}
use Rattle.wm_indexes.specs.Moments.{AreInRange, has_moment, moment_of, turn_of}
use Rattle.wm_indexes.specs.Turns.{turn_cmp, same_turn}
use Rattle.wm_indexes.proofs.RowLemmas.{IsKey}
use Rattle.wm_indexes.proofs.TurnOrder.{turn_total, same-serial, turn-itself, no_later, from-above}

-- each job has a turn of its own
pub turn_key : IsKey turn_of turn_cmp same_turn
turn_key = record {
  own = λ x y same. same-serial (turn_of x) (turn_of y) same;
  itself = turn-itself;
  tied = λ k. tied_itself turn_total k;
}

-- moments stay in range
pub range-added : (jobs : List (ℕ × Acting)) (i : ℕ) (x : ℕ × Acting) → moment_of x ≤ 253402214399 → AreInRange jobs → AreInRange (insert jobs i x)
range-added jobs i x here range y there =
    elim (Contains-insert_cases jobs i x y there) [ inl e ↦ subst (λ (z : ℕ × Acting). moment_of z ≤ 253402214399) e here | inr old ↦ range y old ]

pub range-removed : (s : ℕ) (jobs : List (ℕ × Acting)) → AreInRange jobs → AreInRange (removed key_of nat_eq s jobs)
range-removed s jobs range y there = range y (Contains-from_filter (λ z. not (nat_eq z.0 s)) jobs y there).0

-- the least of the moments above a clock, as a fold over those that have one
module _ (clock : ℕ) where
  abbrev is_later : ℕ × Acting → Bool
  is_later job = is_some (ahead clock job.1.until)

  abbrev pass : Option ℕ → ℕ × Acting → Option ℕ
  pass least job = cond (is_later job) (sooner least (moment_of job)) least

  same-by : (b : Bool) (least : Option ℕ) (m : ℕ) → soonest least (cond b (Some m) None) ≡ cond (is_some (cond b (Some m) None)) (sooner least m) least
  same-by true None m = refl
  same-by true (Some n) m = refl
  same-by false least m = refl

  same-pass : (least o : Option ℕ) → soonest least (ahead clock o) ≡ cond (is_some (ahead clock o)) (sooner least (unwrap_or o 0)) least
  same-pass least None = refl
  same-pass least (Some m) = same-by (nat_lt clock m) least m

  same-fold : (least : Option ℕ) (jobs : List (ℕ × Acting)) → fold (λ so_far job. soonest so_far (ahead clock job.1.until)) least jobs ≡ fold pass least jobs
  same-fold least [] = refl
  same-fold least (x ∷ xs) = same-fold (soonest least (ahead clock x.1.until)) xs ∙ ap (λ a. fold pass a xs) (same-pass least x.1.until)

  later-by : (b : Bool) (m : ℕ) → nat_lt clock m ≡ b → is_some (cond b (Some m) None) ≡ nat_lt clock m
  later-by true m e = sym e
  later-by false m e = sym e

  -- such a moment is above the clock, and any above it is such a one
  later-is : (o : Option ℕ) → is_some o ≡ true → is_some (ahead clock o) ≡ nat_lt clock (unwrap_or o 0)
  later-is None h = absurd (false≢true h)
  later-is (Some m) h = later-by (nat_lt clock m) m refl

  later-some : (o : Option ℕ) → is_some (ahead clock o) ≡ true → is_some o ≡ true
  later-some None h = h
  later-some (Some m) h = refl

  above : (x : ℕ × Acting) → is_later x ≡ true → nat_lt clock (moment_of x) ≡ true
  above x later = sym (later-is x.1.until (later-some x.1.until later)) ∙ later

  none-later : (jobs : List (ℕ × Acting)) → ((x : ℕ × Acting) → Contains jobs x → is_later x ≡ true → ⊥) → next_above clock jobs ≡ None
  none-later jobs lacks =
      same-fold None jobs ∙ soonest-None is_later moment_of jobs None (λ x there. elim (cases_Bool (is_later x)) [ inl e ↦ absurd (lacks x there e) | inr e ↦ e ])

  -- where the clock is at the greatest moment, none is above it
  pub none-after : (jobs : List (ℕ × Acting)) → AreInRange jobs → 253402214399 ≤ clock → next_above clock jobs ≡ None
  none-after jobs range at = none-later jobs (λ x there later. let fits = range x there in below clock (moment_of x) (omega arith) (above x later))
    where
      below : (n k : ℕ) → k ≤ n → nat_lt n k ≡ true → ⊥
      below n k le lt = grind (arith, nat_tests)

  module _ (jobs : List (ℕ × Acting)) (turns : List (Turn × Unit {0})) (index : IsIndex turn_of nothing_of has_moment jobs turns) where
    -- the turn that isn't before the moment after the clock
    abbrev pub begin : Turn
    begin = record { moment = clock + 1; serial = 0 }

    abbrev is_from : Turn × Unit {0} → Bool
    is_from r = not (is_lt (turn_cmp r.0 begin))

    turn-there : (x : ℕ × Acting) → Contains jobs x → is_later x ≡ true → Contains turns (turn_of x, tt)
    turn-there x there later = index.whole x there (later-some x.1.until later)

    from-begin : (x : ℕ × Acting) → is_later x ≡ true → is_from (turn_of x, tt) ≡ true
    from-begin x later = from-above (turn_of x) clock ∙ above x later

    pub next-absent : first_from turn_cmp begin turns ≡ None → next_above clock jobs ≡ None
    next-absent none = none-later jobs (λ x there later. false≢true (sym (find-None is_from turns (turn_of x, tt) none (turn-there x there later)) ∙ from-begin x later))

    pub next-here : IsSortedOnce key_of turn_cmp turns → (r : Turn × Unit {0}) → first_from turn_cmp begin turns ≡ Some r → next_above clock jobs ≡ Some r.0.moment
    next-here sorted r found =
        let here = find-Some is_from turns r found in
        let own = index.sound r here.0 in
        let moment : r.0.moment ≡ moment_of own.0 = ap (λ (q : Turn × Unit {0}). q.0.moment) own.1 in
        let later : is_later own.0 ≡ true = later-is own.0.1.until own.2 ∙ (ap (nat_lt clock) (sym moment) ∙ (sym (from-above r.0 clock) ∙ here.1)) in
        same-fold None jobs ∙ (soonest-Some is_later moment_of jobs own.0 own.3 later (λ y there is. least y there is own.0 moment) ∙ ap Some (sym moment))
      where
        least : (y : ℕ × Acting) → Contains jobs y → is_later y ≡ true → (x : ℕ × Acting) → r.0.moment ≡ moment_of x → moment_of x ≤ moment_of y
        least y there later x moment =
            elim (find-before (λ (a b : Turn × Unit {0}). turn_cmp a.0 b.0 ≡ Less) is_from turns r (turn_of y, tt) sorted found (turn-there y there later) (from-begin y later)) [
              | inl same ↦ (let equal : moment_of y ≡ r.0.moment = ap (λ (q : Turn × Unit {0}). q.0.moment) same in omega arith)
              | inr lt ↦ (let le = no_later r.0 (turn_of y) lt in omega (arith, le, moment))
            ]
