-- What is picked where one that is picked has another value.
use Rattle.std.proofs.Common.{◌≡◌, ℕ, ◌<◌, false, List, ◌∷◌, ◌++◌, Option, Some, None, option_map, refl, ap, sym, ◌∙◌, nat_eq, All}
use Rattle.std.specs.List.{filter_map}
use Rattle.std.proofs.lemmas.List.Elements.{All-append, All-weaker}
use Rattle.wm_base.proofs.Tests.{eqb-lt}
use Rattle.wm_ordered.specs.Ordered.{with_value}
use Rattle.wm_jobs.proofs.Sifted.{higher_differs, picked-keys, picked-parts}
use Rattle.wm_jobs.proofs.Splits.{map-apart, map-split}

module _ {X V : Type 0} (serial : X → ℕ) (pick : X → Option (ℕ × V)) (keyed : (x : X) (e : ℕ × V) → pick x ≡ Some e → e.0 ≡ serial x) (s : ℕ) (l r : List X) (lower : All (λ x. serial x < s) l) (higher : All (λ x. s < serial x) r) where
  abbrev row : ℕ × V → ℕ
  row e = e.0

  picked_lower : All (λ e. row e < s) (filter_map pick l)
  picked_lower = picked-keys serial pick row keyed (λ k. k < s) l lower

  picked_higher : All (λ e. s < row e) (filter_map pick r)
  picked_higher = picked-keys serial pick row keyed (λ k. s < k) r higher

  -- the one there has another value where it is picked
  pub picked-set : (x y : X) (v : V) → serial x ≡ s → (o : Option (ℕ × V)) → pick x ≡ o → pick y ≡ option_map (λ e. (e.0, v)) o → with_value nat_eq s v (filter_map pick (l ++ x ∷ r)) ≡ filter_map pick (l ++ y ∷ r)
  picked-set x y v here None was is =
      ap (with_value nat_eq s v) (picked-parts serial pick row keyed l r x None was)
      ∙ (map-apart row s (λ e. (e.0, v)) (filter_map pick l ++ filter_map pick r) (All-append (λ e. nat_eq (row e) s ≡ false) (filter_map pick l) (filter_map pick r)
      (All-weaker (λ e. row e < s) (λ e. nat_eq (row e) s ≡ false) (λ e lt. eqb-lt (row e) s lt) (filter_map pick l) picked_lower)
      (All-weaker (λ e. s < row e) (λ e. nat_eq (row e) s ≡ false) (λ e lt. higher_differs (row e) s lt) (filter_map pick r) picked_higher))
      ∙ sym (picked-parts serial pick row keyed l r y None is))
  picked-set x y v here (Some e) was is =
      ap (with_value nat_eq s v) (picked-parts serial pick row keyed l r x (Some e) was)
      ∙ (map-split row s (λ e. (e.0, v)) (filter_map pick l ++ e ∷ filter_map pick r) (filter_map pick l) (filter_map pick r) e (record { whole = refl; here = keyed x e was ∙ here; lower = picked_lower; higher = picked_higher })
      ∙ sym (picked-parts serial pick row keyed l r y (Some (e.0, v)) is))
