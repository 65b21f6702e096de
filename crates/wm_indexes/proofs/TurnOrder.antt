-- What the order of moments says of them.
use Rattle.std.proofs.Common.{◌≡◌, ℕ, ◌+◌, ◌<◌, ◌≤◌, true, not, nat_lt, inl, inr, refl, ap, sym, ◌∙◌, arith}
use Rattle.std.specs.declared.cmp.Ordering.{Ordering}
use Rattle.std.specs.declared.cmp.Ordering.TheVariants.{Less, Equal, Greater}
use Rattle.std.specs.Cmp.{IsTotalOrder, IsEquivalence}
use Rattle.std.specs.Ordering.{is_lt, nat_cmp, ordering_then}
use Rattle.std.proofs.lemmas.Bool.{cases_lt}
use Rattle.std.proofs.lemmas.Bool.Decides.{nat_tests}
use Rattle.std.proofs.lemmas.Cmp.{on_total, then_total, nat_cmp_total, on_equiv, and_equiv, nat_eq_equiv}
use Rattle.wm_base.proofs.Orderings.{then-not_Greater}
use Rattle.wm_indexes.specs.declared.turn.Turn.{Turn}
use Rattle.wm_indexes.specs.Turns.{turn_cmp, same_turn}

fields : (a b : Turn) → turn_cmp a b ≡ ordering_then (nat_cmp a.moment b.moment) (nat_cmp a.serial b.serial)
fields a b = refl

pub turn_total : IsTotalOrder turn_cmp
turn_total = then_total (on_total (λ (t : Turn). t.moment) nat_cmp_total) (on_total (λ (t : Turn). t.serial) nat_cmp_total)

pub same-serial : (a b : Turn) → same_turn a b ≡ true → a.serial ≡ b.serial
same-serial a b h = grind arith

laws : IsEquivalence same_turn
laws = and_equiv (on_equiv (λ (t : Turn). t.moment) nat_eq_equiv) (on_equiv (λ (t : Turn). t.serial) nat_eq_equiv)

-- a turn is itself
pub turn-itself : (t : Turn) → same_turn t t ≡ true
turn-itself t = laws.refl t

-- what comes before comes no later
pub no_later : (a b : Turn) → turn_cmp a b ≡ Less → a.moment ≤ b.moment
no_later a b h = elim (cases_lt b.moment a.moment) [ inr le ↦ le | inl gt ↦ absurd (then-not_Greater (nat_cmp a.moment b.moment) (nat_cmp a.serial b.serial) (sym (fields a b) ∙ h) (above gt)) ]
  where
    above : b.moment < a.moment → nat_cmp a.moment b.moment ≡ Greater
    above gt = grind arith

then-zero : (o : Ordering) (n : ℕ) → is_lt (ordering_then o (nat_cmp n 0)) ≡ is_lt o
then-zero Less n = refl
then-zero Equal n = grind (arith, nat_tests)
then-zero Greater n = refl

not-below : (m clock : ℕ) → not (is_lt (nat_cmp m (clock + 1))) ≡ nat_lt clock m
not-below m clock = grind (arith, nat_tests)

-- what doesn't come before the moment after the clock is above it
pub from-above : (t : Turn) (clock : ℕ) → not (is_lt (turn_cmp t (record { moment = clock + 1; serial = 0 }))) ≡ nat_lt clock t.moment
from-above t clock = ap (λ o. not (is_lt o)) (fields t (record { moment = clock + 1; serial = 0 })) ∙ (ap not (then-zero (nat_cmp t.moment (clock + 1)) t.serial) ∙ not-below t.moment clock)
