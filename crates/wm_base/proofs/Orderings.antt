-- What the answers of a comparison say.
use Rattle.std.proofs.Common.{◌≡◌, ℕ, ◌<◌, true, false, refl, sym, ap, ◌∙◌, arith}
use Rattle.std.specs.Cmp.{IsTotalOrder}
use Rattle.std.specs.declared.cmp.Ordering.{Ordering}
use Rattle.std.specs.declared.cmp.Ordering.TheVariants.{Less, Equal, Greater}
use Rattle.std.specs.Ordering.{is_lt, is_eq, nat_cmp, ordering_reverse, ordering_then}
use Rattle.std.proofs.lemmas.Bool.{false≢true, true≢false}
use Rattle.std.proofs.lemmas.Bool.Decides.{nat_tests}
use Rattle.std.proofs.lemmas.Cmp.{ranked}

pub is_lt-Less : (o : Ordering) → is_lt o ≡ true → o ≡ Less
is_lt-Less Less h = refl
is_lt-Less Equal h = absurd (false≢true h)
is_lt-Less Greater h = absurd (false≢true h)

pub is_eq-Equal : (o : Ordering) → is_eq o ≡ true → o ≡ Equal
is_eq-Equal Equal h = refl
is_eq-Equal Less h = absurd (false≢true h)
is_eq-Equal Greater h = absurd (false≢true h)

pub neither-Greater : (o : Ordering) → is_lt o ≡ false → is_eq o ≡ false → o ≡ Greater
neither-Greater Less h g = absurd (true≢false h)
neither-Greater Equal h g = absurd (true≢false g)
neither-Greater Greater h g = refl

-- what comes first of two orders decides
pub then-not_Greater : (o p : Ordering) → ordering_then o p ≡ Less → o ≡ Greater → ⊥
then-not_Greater o p h e = cc (sym (ap (λ q. ordering_then q p) e) ∙ h)

-- a comparison turned round
module _ {K : Type 0} (cmp : K → K → Ordering) (o : IsTotalOrder cmp) where
  pub turned-Less : (a b : K) → cmp a b ≡ Less → cmp b a ≡ Greater
  turned-Less a b h = o.antisymm b a ∙ ap ordering_reverse h

  pub turned-Greater : (a b : K) → cmp a b ≡ Greater → cmp b a ≡ Less
  turned-Greater a b h = o.antisymm b a ∙ ap ordering_reverse h

pub lt-Less : (a b : ℕ) → nat_cmp a b ≡ Less → a < b
lt-Less a b h = ranked a b Less (sym h)

pub eq-Equal : (a b : ℕ) → nat_cmp a b ≡ Equal → a ≡ b
eq-Equal a b h = ranked a b Equal (sym h)

pub gt-Greater : (a b : ℕ) → nat_cmp a b ≡ Greater → b < a
gt-Greater a b h = ranked a b Greater (sym h)

pub Less-lt : (a b : ℕ) → a < b → nat_cmp a b ≡ Less
Less-lt a b lt = grind (arith, nat_tests)
