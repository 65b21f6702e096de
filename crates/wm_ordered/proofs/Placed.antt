-- A node that was put above all of a tree.
use Rattle.std.proofs.Common.{◌≡◌, ℕ, ◌+◌, List, Some, slice_get, arith}
use Rattle.std.specs.declared.cmp.Ordering.{Ordering}
use Rattle.wm_desc.specs.Sorted.{added}
use Rattle.wm_ordered.specs.declared.node.Node.{Node}
use Rattle.wm_ordered.specs.Ordered.{key_of}
use Rattle.wm_ordered.specs.Tree.{same_place, Stands, Elsewhere, IsSplit}
use Rattle.wm_ordered.proofs.Branches.{reread}
use Rattle.wm_ordered.proofs.Cuts.{added-cut}
use Rattle.wm_ordered.proofs.Relinked.{beside, whole_elsewhere}
use Rattle.wm_ordered.proofs.Standing.{moved, joined}

module _ {K V : Type 0} (nodes between new : List (Node K V)) (place : ℕ) (places : ℕ → ℕ) (before : Elsewhere places nodes between) (others : Elsewhere (λ i. same_place i place) between new) where
  pub placed : {cmp : K → K → Ordering} {pair : K × V} {pairs : List (K × V)} {left right : ℕ} → places place ≡ 0 → IsSplit cmp pair.0 between places pairs left right → slice_get new place ≡ Some (record { pair = pair; left = left; right = right }) → Stands new place (λ i. places i + same_place i place) (added key_of cmp pair pairs)
  placed {cmp} {pair} {pairs} {left} {right} free s here =
      reread (added-cut cmp pair pairs s.low_pairs s.high_pairs s.cut)
      (moved new place _ (λ i. places i + same_place i place) _ (λ i. omega (arith, s.all i))
      (joined new place (record { pair = pair; left = left; right = right }) s.low_places s.high_places s.low_pairs s.high_pairs here
      (beside nodes between new place places before others left s.low_places s.low_pairs (omega (arith, s.all place, free)) s.low_stands)
      (beside nodes between new place places before others right s.high_places s.high_pairs (omega (arith, s.all place, free)) s.high_stands)))

  pub placed_elsewhere : Elsewhere (λ i. places i + same_place i place) nodes new
  placed_elsewhere = whole_elsewhere nodes between new place places before others (λ i. places i + same_place i place) (λ i. omega arith)
