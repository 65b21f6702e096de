-- The two sides of a search tree's root, and what its root's link to another side makes of it.
use Rattle.std.proofs.Common.{◌≡◌, ℕ, suc, ◌+◌, ◌-◌, ◌≤◌, true, false, List, ◌∷◌, ◌++◌, length, Option, Some, slice_get, ap, ◌∙◌, subst, arith, length-append}
use Rattle.std.specs.declared.cmp.Ordering.{Ordering}
use Rattle.std.specs.Cmp.{IsTotalOrder}
use Rattle.std.specs.Ordering.{is_lt}
use Rattle.wm_ordered.specs.declared.node.Node.{Node}
use Rattle.wm_ordered.specs.Tree.{nowhere, same_place, Stands, Elsewhere, IsSearchTree, IsSplit, IsWithout}
use Rattle.wm_ordered.proofs.Cuts.{cut-right, cut-left}
use Rattle.wm_ordered.proofs.Found.{left_sorted, right_sorted}
use Rattle.wm_ordered.proofs.Relinked.{beside, whole_elsewhere, relinked-right, relinked-left}
use Rattle.wm_ordered.proofs.Standing.{IsOpened, opened, same-here, apart, moved, stays, joined}

pub reread : {K V : Type 0} {nodes : List (Node K V)} {root : ℕ} {places : ℕ → ℕ} {xs ys : List (K × V)} → xs ≡ ys → Stands nodes root places xs → Stands nodes root places ys
reread {K} {V} {nodes} {root} {places} same s = subst (λ zs. Stands nodes root places zs) same s

pub reread_without : {K V : Type 0} {nodes : List (Node K V)} {root : ℕ} {places : ℕ → ℕ} {xs ys : List (K × V)} {taken : Option (ℕ × V)} → xs ≡ ys → IsWithout nodes root places xs taken → IsWithout nodes root places ys taken
reread_without {K} {V} {nodes} {root} {places} {xs} {ys} {taken} same s = subst (λ zs. IsWithout nodes root places zs taken) same s

module _ {K V : Type 0} {cmp : K → K → Ordering} (total : IsTotalOrder cmp) {nodes : List (Node K V)} (few : length nodes ≤ nowhere) {root depth : ℕ} {places : ℕ → ℕ} {pairs : List (K × V)} (tree : IsSearchTree cmp nodes root depth places pairs) {node : Node K V} (is : slice_get nodes root ≡ Some node) where
  pub at_root : IsOpened nodes root node places pairs
  at_root = opened nodes few root places pairs tree.stands node is

  pub long : length pairs ≡ length at_root.l + suc (length at_root.r)
  long = ap length at_root.whole ∙ length-append at_root.l (node.pair ∷ at_root.r)

  pub left_tree : (d : ℕ) → depth ≤ d + 1 → IsSearchTree cmp nodes node.left d at_root.p at_root.l
  left_tree d deep = record {
    stands = at_root.left_stands;
    own = λ i. omega (arith, at_root.all i, tree.own i);
    sorted = left_sorted cmp total node.pair.0 pairs at_root.l node.pair at_root.r at_root.whole tree.sorted;
    few = omega (arith, long, tree.few, deep);
  }

  pub right_tree : (d : ℕ) → depth ≤ d + 1 → IsSearchTree cmp nodes node.right d at_root.q at_root.r
  right_tree d deep = record {
    stands = at_root.right_stands;
    own = λ i. omega (arith, at_root.all i, tree.own i);
    sorted = right_sorted cmp total node.pair.0 pairs at_root.l node.pair at_root.r at_root.whole tree.sorted;
    few = omega (arith, long, tree.few, deep);
  }

  -- the root stands on neither side, and no place on both
  pub not_left : at_root.p root ≡ 0
  not_left = omega (arith, same-here root, at_root.all root, tree.own root)

  pub not_right : at_root.q root ≡ 0
  not_right = omega (arith, same-here root, at_root.all root, tree.own root)

  pub left_apart : (i : ℕ) → 1 ≤ at_root.p i → at_root.q i ≡ 0
  left_apart i h = omega (arith, at_root.all i, tree.own i, h)

  pub right_apart : (i : ℕ) → 1 ≤ at_root.q i → at_root.p i ≡ 0
  right_apart i h = omega (arith, at_root.all i, tree.own i, h)

  -- a place where nothing stands is another one than those of the tree
  pub root_apart : (place : ℕ) → places place ≡ 0 → same_place root place ≡ 0
  root_apart place free = apart places root place free (omega (arith, same-here root, at_root.all root))

  -- the nodes of a side have other pairs, and its root is the same
  module _ (new : List (Node K V)) where
    pub set-right-side : Elsewhere at_root.q nodes new → (xs : List (K × V)) → Stands new node.right at_root.q xs → Stands new root places (at_root.l ++ node.pair ∷ xs)
    set-right-side before xs s =
        moved new root _ places _ at_root.all
        (joined new root node at_root.p at_root.q at_root.l xs (before root not_right ∙ is) (stays nodes new node.left at_root.p at_root.l (λ i h. before i (left_apart i h)) at_root.left_stands) s)

    pub set-left-side : Elsewhere at_root.p nodes new → (xs : List (K × V)) → Stands new node.left at_root.p xs → Stands new root places (xs ++ node.pair ∷ at_root.r)
    set-left-side before xs s =
        moved new root _ places _ at_root.all
        (joined new root node at_root.p at_root.q xs at_root.r (before root not_left ∙ is) s (stays nodes new node.right at_root.q at_root.r (λ i h. before i (right_apart i h)) at_root.right_stands))

    -- the root's node has another pair
    pub set-root : Elsewhere (λ i. same_place i root) nodes new → (pair : K × V) → slice_get new root ≡ Some (record node { pair = pair }) → Stands new root places (at_root.l ++ pair ∷ at_root.r)
    set-root others pair here =
        moved new root _ places _ at_root.all
        (joined new root (record node { pair = pair }) at_root.p at_root.q at_root.l at_root.r here (stays nodes new node.left at_root.p at_root.l (λ i h. others i (apart at_root.p i root not_left h)) at_root.left_stands) (stays nodes new node.right at_root.q at_root.r (λ i h. others i (apart at_root.q i root not_right h)) at_root.right_stands))

  -- the sides were changed, and then the root's node
  module _ (between new : List (Node K V)) (others : Elsewhere (λ i. same_place i root) between new) where
    pub right_elsewhere : Elsewhere at_root.q nodes between → Elsewhere places nodes new
    right_elsewhere before = whole_elsewhere nodes between new root _ before others places (λ i. omega (arith, at_root.all i))

    pub left_elsewhere : Elsewhere at_root.p nodes between → Elsewhere places nodes new
    left_elsewhere before = whole_elsewhere nodes between new root _ before others places (λ i. omega (arith, at_root.all i))

    module _ (key : K) (low high : ℕ) where
      pub split-right : is_lt (cmp node.pair.0 key) ≡ true → Elsewhere at_root.q nodes between → IsSplit cmp key between at_root.q at_root.r low high → slice_get new root ≡ Some (record node { right = low }) → IsSplit cmp key new places pairs root high
      split-right less before s here = record {
        low_places = λ i. same_place i root + at_root.p i + s.low_places i;
        high_places = s.high_places;
        low_pairs = at_root.l ++ node.pair ∷ s.low_pairs;
        high_pairs = s.high_pairs;
        low_stands = relinked-right nodes between new root _ before others node at_root.p s.low_places at_root.l s.low_pairs not_left (omega (arith, s.all root, not_right)) low here left_apart at_root.left_stands s.low_stands;
        high_stands = beside nodes between new root _ before others high s.high_places s.high_pairs (omega (arith, s.all root, not_right)) s.high_stands;
        all = λ i. omega (arith, s.all i, at_root.all i);
        cut = cut-right cmp total key pairs at_root.l node.pair at_root.r at_root.whole tree.sorted s.low_pairs s.high_pairs less s.cut;
      }

      pub split-left : is_lt (cmp node.pair.0 key) ≡ false → Elsewhere at_root.p nodes between → IsSplit cmp key between at_root.p at_root.l low high → slice_get new root ≡ Some (record node { left = high }) → IsSplit cmp key new places pairs low root
      split-left more before s here = record {
        low_places = s.low_places;
        high_places = λ i. same_place i root + s.high_places i + at_root.q i;
        low_pairs = s.low_pairs;
        high_pairs = s.high_pairs ++ node.pair ∷ at_root.r;
        low_stands = beside nodes between new root _ before others low s.low_places s.low_pairs (omega (arith, s.all root, not_left)) s.low_stands;
        high_stands = relinked-left nodes between new root _ before others node s.high_places at_root.q s.high_pairs at_root.r (omega (arith, s.all root, not_left)) not_right high here right_apart s.high_stands at_root.right_stands;
        all = λ i. omega (arith, s.all i, at_root.all i);
        cut = cut-left cmp total key pairs at_root.l node.pair at_root.r at_root.whole tree.sorted s.low_pairs s.high_pairs more s.cut;
      }

    -- one side has other pairs at the same places, or at fewer
    pub without-right : (right : ℕ) (xs : List (K × V)) (taken : Option (ℕ × V)) → Elsewhere at_root.q nodes between → IsWithout between right at_root.q xs taken → slice_get new root ≡ Some (record node { right = right }) → IsWithout new root places (at_root.l ++ node.pair ∷ xs) taken
    without-right right xs taken before s here = record {
      rest = λ i. same_place i root + at_root.p i + s.rest i;
      stands = relinked-right nodes between new root _ before others node at_root.p s.rest at_root.l xs not_left (omega (arith, s.all root, not_right)) right here left_apart at_root.left_stands s.stands;
      all = λ i. omega (arith, s.all i, at_root.all i);
    }

    pub without-left : (left : ℕ) (xs : List (K × V)) (taken : Option (ℕ × V)) → Elsewhere at_root.p nodes between → IsWithout between left at_root.p xs taken → slice_get new root ≡ Some (record node { left = left }) → IsWithout new root places (xs ++ node.pair ∷ at_root.r) taken
    without-left left xs taken before s here = record {
      rest = λ i. same_place i root + s.rest i + at_root.q i;
      stands = relinked-left nodes between new root _ before others node s.rest at_root.q xs at_root.r (omega (arith, s.all root, not_left)) not_right left here right_apart s.stands at_root.right_stands;
      all = λ i. omega (arith, s.all i, at_root.all i);
    }

    -- a side was changed by a call for it as a tree, and then linked
    module _ (fewer : depth ≤ (depth - 1) + 1) where
      module _ (side : (places : ℕ → ℕ) (pairs : List (K × V)) → IsSearchTree cmp nodes node.right (depth - 1) places pairs → Elsewhere places nodes between) where
        right_called : Elsewhere at_root.q nodes between
        right_called = side at_root.q at_root.r (right_tree (depth - 1) fewer)

        pub right-called-elsewhere : Elsewhere places nodes new
        right-called-elsewhere = right_elsewhere right_called

        pub split-right-called : (key : K) (low high : ℕ) → is_lt (cmp node.pair.0 key) ≡ true → ((places : ℕ → ℕ) (pairs : List (K × V)) → IsSearchTree cmp nodes node.right (depth - 1) places pairs → IsSplit cmp key between places pairs low high) → ((n : Node K V) → slice_get between root ≡ Some n → slice_get new root ≡ Some (record n { right = low })) → IsSplit cmp key new places pairs root high
        split-right-called key low high less parts linked =
            split-right key low high less right_called (parts at_root.q at_root.r (right_tree (depth - 1) fewer)) (linked node (right_called root not_right ∙ is))

      module _ (side : (places : ℕ → ℕ) (pairs : List (K × V)) → IsSearchTree cmp nodes node.left (depth - 1) places pairs → Elsewhere places nodes between) where
        left_called : Elsewhere at_root.p nodes between
        left_called = side at_root.p at_root.l (left_tree (depth - 1) fewer)

        pub left-called-elsewhere : Elsewhere places nodes new
        left-called-elsewhere = left_elsewhere left_called

        pub split-left-called : (key : K) (low high : ℕ) → is_lt (cmp node.pair.0 key) ≡ false → ((places : ℕ → ℕ) (pairs : List (K × V)) → IsSearchTree cmp nodes node.left (depth - 1) places pairs → IsSplit cmp key between places pairs low high) → ((n : Node K V) → slice_get between root ≡ Some n → slice_get new root ≡ Some (record n { left = high })) → IsSplit cmp key new places pairs low root
        split-left-called key low high more parts linked =
            split-left key low high more left_called (parts at_root.p at_root.l (left_tree (depth - 1) fewer)) (linked node (left_called root not_left ∙ is))

    -- one side has a place more
    module _ (place : ℕ) (free : places place ≡ 0) where
      pub put-right : (right : ℕ) (xs : List (K × V)) → Elsewhere (λ i. at_root.q i + same_place i place) nodes between → Stands between right (λ i. at_root.q i + same_place i place) xs → slice_get new root ≡ Some (record node { right = right }) → Stands new root (λ i. places i + same_place i place) (at_root.l ++ node.pair ∷ xs)
      put-right right xs before s here =
          moved new root _ (λ i. places i + same_place i place) _ (λ i. omega (arith, at_root.all i))
          (relinked-right nodes between new root _ before others node at_root.p (λ i. at_root.q i + same_place i place) at_root.l xs not_left (omega (arith, not_right, root_apart place free)) right here (λ i h. omega (arith, left_apart i h, apart places i place free (omega (arith, at_root.all i, h)))) at_root.left_stands s)

      pub put-left : (left : ℕ) (xs : List (K × V)) → Elsewhere (λ i. at_root.p i + same_place i place) nodes between → Stands between left (λ i. at_root.p i + same_place i place) xs → slice_get new root ≡ Some (record node { left = left }) → Stands new root (λ i. places i + same_place i place) (xs ++ node.pair ∷ at_root.r)
      put-left left xs before s here =
          moved new root _ (λ i. places i + same_place i place) _ (λ i. omega (arith, at_root.all i))
          (relinked-left nodes between new root _ before others node (λ i. at_root.p i + same_place i place) at_root.q xs at_root.r (omega (arith, not_left, root_apart place free)) not_right left here (λ i h. omega (arith, right_apart i h, apart places i place free (omega (arith, at_root.all i, h)))) s at_root.right_stands)

      pub put_right_elsewhere : Elsewhere (λ i. at_root.q i + same_place i place) nodes between → Elsewhere (λ i. places i + same_place i place) nodes new
      put_right_elsewhere before = whole_elsewhere nodes between new root _ before others (λ i. places i + same_place i place) (λ i. omega (arith, at_root.all i))

      pub put_left_elsewhere : Elsewhere (λ i. at_root.p i + same_place i place) nodes between → Elsewhere (λ i. places i + same_place i place) nodes new
      put_left_elsewhere before = whole_elsewhere nodes between new root _ before others (λ i. places i + same_place i place) (λ i. omega (arith, at_root.all i))
