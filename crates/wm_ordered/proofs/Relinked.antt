-- What stands among nodes after the nodes at some places changed, and then the one at a root.
use Rattle.std.proofs.Common.{◌≡◌, ℕ, ◌+◌, ◌≤◌, List, ◌∷◌, ◌++◌, Some, slice_get, ◌∙◌, arith}
use Rattle.wm_ordered.specs.declared.node.Node.{Node}
use Rattle.wm_ordered.specs.Tree.{same_place, Stands, Elsewhere}
use Rattle.wm_ordered.proofs.Standing.{apart, stays, joined}

module _ {K V : Type 0} (nodes between new : List (Node K V)) (root : ℕ) (changed : ℕ → ℕ) (before : Elsewhere changed nodes between) (others : Elsewhere (λ i. same_place i root) between new) where
  -- what stood among the nodes between, and not at the root
  pub beside : (r : ℕ) (f : ℕ → ℕ) (xs : List (K × V)) → f root ≡ 0 → Stands between r f xs → Stands new r f xs
  beside r f xs none s = stays between new r f xs (λ i h. others i (apart f i root none h)) s

  -- what stood at first, at places that didn't change
  pub outside : (r : ℕ) (f : ℕ → ℕ) (xs : List (K × V)) → f root ≡ 0 → ((i : ℕ) → 1 ≤ f i → changed i ≡ 0) → Stands nodes r f xs → Stands new r f xs
  outside r f xs none far s = stays nodes new r f xs (λ i h. others i (apart f i root none h) ∙ before i (far i h)) s

  pub whole_elsewhere : (places : ℕ → ℕ) → ((i : ℕ) → same_place i root + changed i ≤ places i) → Elsewhere places nodes new
  whole_elsewhere places within i none = others i (omega (arith, within i, none)) ∙ before i (omega (arith, within i, none))

  module _ (node : Node K V) (p q : ℕ → ℕ) (l r : List (K × V)) (low : p root ≡ 0) (high : q root ≡ 0) where
    -- the root got another right side
    pub relinked-right : (right : ℕ) → slice_get new root ≡ Some (record node { right = right }) → ((i : ℕ) → 1 ≤ p i → changed i ≡ 0) → Stands nodes node.left p l → Stands between right q r → Stands new root (λ i. same_place i root + p i + q i) (l ++ node.pair ∷ r)
    relinked-right right here far a b =
        joined new root (record node { right = right }) p q l r here (outside node.left p l low far a) (beside right q r high b)

    -- the root got another left side
    pub relinked-left : (left : ℕ) → slice_get new root ≡ Some (record node { left = left }) → ((i : ℕ) → 1 ≤ q i → changed i ≡ 0) → Stands between left p l → Stands nodes node.right q r → Stands new root (λ i. same_place i root + p i + q i) (l ++ node.pair ∷ r)
    relinked-left left here far a b =
        joined new root (record node { left = left }) p q l r here (beside left p l low a) (outside node.right q r high far b)
