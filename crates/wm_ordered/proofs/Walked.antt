-- How pairs are gone through by their serials: the one behind another is at the next place.
use Rattle.std.proofs.Common.{◌≡◌, ℕ, zero, suc, ◌+◌, true, false, List, [], ◌∷◌, Some, refl, ap, ◌∙◌, subst, arith, Contains}
use Rattle.std.specs.List.{slice_get}
use Rattle.std.specs.declared.cmp.Ordering.TheVariants.{Less}
use Rattle.std.specs.Ordering.{nat_cmp, is_gt}
use Rattle.std.proofs.lemmas.Bool.Decides.{nat_tests}
use Rattle.wm_desc.specs.Sorted.{IsSortedOnce}
use Rattle.wm_ordered.specs.Ordered.{key_of, first_above}
use Rattle.wm_ordered.proofs.Members.{Contains-head, at-there, AllPairs-head, AllPairs-tail}

not_above : (m n : ℕ) → nat_cmp m n ≡ Less → is_gt (nat_cmp m n) ≡ false
not_above m n h = ap is_gt h

not_above_itself : (m n : ℕ) → m ≡ n → is_gt (nat_cmp m n) ≡ false
not_above_itself m n h = grind (arith, nat_tests)

above_behind : (m n : ℕ) → nat_cmp n m ≡ Less → is_gt (nat_cmp m n) ≡ true
above_behind m n h = grind (arith, nat_tests)

module _ {V : Type 0} where
  abbrev before : ℕ × V → ℕ × V → Type 0
  before a b = nat_cmp a.0 b.0 ≡ Less

  first_behind : (s : ℕ) (xs : List (ℕ × V)) → ((x : ℕ × V) → Contains xs x → nat_cmp s x.0 ≡ Less) → first_above nat_cmp s xs ≡ slice_get xs 0
  first_behind s [] behind = refl
  first_behind s (x ∷ xs) behind = rw (above_behind x.0 s (behind x (Contains-head x xs))) refl

  -- the pair behind one is the first above its serial
  pub next-row : (rows : List (ℕ × V)) (k : ℕ) (r : ℕ × V) → IsSortedOnce key_of nat_cmp rows → slice_get rows k ≡ Some r → first_above nat_cmp r.0 rows ≡ slice_get rows (suc k)
  next-row [] k r sorted at = absurd (cc at)
  next-row (x ∷ xs) zero r sorted at =
      let here : x ≡ r = cc at in
      rw (not_above_itself x.0 r.0 (ap (λ (q : ℕ × V). q.0) here)) (first_behind r.0 xs (λ y there. subst (λ (q : ℕ × V). nat_cmp q.0 y.0 ≡ Less) here (AllPairs-head before x y xs sorted there)))
  next-row (x ∷ xs) (suc k) r sorted at =
      rw (not_above x.0 r.0 (AllPairs-head before x r xs sorted (at-there xs k r at))) (next-row xs k r (AllPairs-tail before x xs sorted) at)

  pub next-at : (rows : List (ℕ × V)) (k : ℕ) (r : ℕ × V) → IsSortedOnce key_of nat_cmp rows → slice_get rows k ≡ Some r → first_above nat_cmp r.0 rows ≡ slice_get rows (k + 1)
  next-at rows k r sorted at = next-row rows k r sorted at ∙ ap (slice_get rows) (omega arith)
