-- Two trees of which one was joined with a side of the other.
use Rattle.std.proofs.Common.{◌≡◌, ℕ, ◌+◌, ◌-◌, ◌≤◌, List, ◌∷◌, ◌++◌, length, Some, None, slice_get, ap, sym, ◌∙◌, arith, length-append, append_assoc, append-nil}
use Rattle.wm_ordered.specs.declared.node.Node.{Node}
use Rattle.wm_ordered.specs.Tree.{nowhere, same_place, Stands, Own, Elsewhere}
use Rattle.wm_ordered.proofs.Branches.{reread}
use Rattle.wm_ordered.proofs.Relinked.{whole_elsewhere, relinked-right, relinked-left}
use Rattle.wm_ordered.proofs.Standing.{IsOpened, opened, no-pairs, no-places, same-here, moved}

module _ {K V : Type 0} {nodes : List (Node K V)} (few : length nodes ≤ nowhere) {first second : ℕ} {p q : ℕ → ℕ} {low high : List (K × V)} (a : Stands nodes first p low) (b : Stands nodes second q high) (own : Own (λ i. p i + q i)) where
  -- nothing stands under the second root
  pub merged-none : slice_get nodes second ≡ None → Stands nodes first (λ i. p i + q i) (low ++ high)
  merged-none none =
      reread (sym (append-nil low) ∙ ap (λ (xs : List (K × V)). low ++ xs) (sym (no-pairs nodes few second q high b none)))
      (moved nodes first p (λ i. p i + q i) low (λ i. omega (arith, no-places nodes few second q high b none i)) a)

  module _ {node : Node K V} (is : slice_get nodes first ≡ Some node) where
    pub at_first : IsOpened nodes first node p low
    at_first = opened nodes few first p low a node is

    pub first_own : Own (λ i. at_first.q i + q i)
    first_own i = omega (arith, own i, at_first.all i)

    pub first_few : (d depth : ℕ) → length low + length high ≤ depth → depth ≤ d + 1 → length at_first.r + length high ≤ d
    first_few d depth le deep = omega (arith, ap length at_first.whole, length-append at_first.l (node.pair ∷ at_first.r), le, deep)

    pub first_alone : at_first.q first + q first ≡ 0
    first_alone = omega (arith, own first, at_first.all first, same-here first)

    module _ (between new : List (Node K V)) (others : Elsewhere (λ i. same_place i first) between new) (before : Elsewhere (λ i. at_first.q i + q i) nodes between) where
      pub merged_right_elsewhere : Elsewhere (λ i. p i + q i) nodes new
      merged_right_elsewhere = whole_elsewhere nodes between new first _ before others (λ i. p i + q i) (λ i. omega (arith, at_first.all i))

      pub merged-right : (rest : ℕ) → Stands between rest (λ i. at_first.q i + q i) (at_first.r ++ high) → slice_get new first ≡ Some (record node { right = rest }) → Stands new first (λ i. p i + q i) (low ++ high)
      merged-right rest s here =
          reread (sym (append_assoc at_first.l (node.pair ∷ at_first.r) high) ∙ ap (λ (xs : List (K × V)). xs ++ high) (sym at_first.whole))
          (moved new first _ (λ i. p i + q i) _ (λ i. omega (arith, at_first.all i))
          (relinked-right nodes between new first _ before others node at_first.p (λ i. at_first.q i + q i) at_first.l (at_first.r ++ high) (omega (arith, own first, at_first.all first, same-here first)) first_alone rest here (λ i h. omega (arith, own i, at_first.all i, h)) at_first.left_stands s))

    -- the rest was merged by a call, and then linked
    module _ (between new : List (Node K V)) (others : Elsewhere (λ i. same_place i first) between new) {depth : ℕ} (few_pairs : length low + length high ≤ depth) (fewer : depth ≤ (depth - 1) + 1) (rest_elsewhere : (p q : ℕ → ℕ) (low high : List (K × V)) → Stands nodes node.right p low → Stands nodes second q high → Own (λ i. p i + q i) → length low + length high ≤ depth - 1 → Elsewhere (λ i. p i + q i) nodes between) where
      first_called : Elsewhere (λ i. at_first.q i + q i) nodes between
      first_called = rest_elsewhere at_first.q q at_first.r high at_first.right_stands b first_own (first_few (depth - 1) depth few_pairs fewer)

      pub merged-right-called-elsewhere : Elsewhere (λ i. p i + q i) nodes new
      merged-right-called-elsewhere = merged_right_elsewhere between new others first_called

      pub merged-right-called : (rest : ℕ) → ((p q : ℕ → ℕ) (low high : List (K × V)) → Stands nodes node.right p low → Stands nodes second q high → Own (λ i. p i + q i) → length low + length high ≤ depth - 1 → Stands between rest (λ i. p i + q i) (low ++ high)) → ((n : Node K V) → slice_get between first ≡ Some n → slice_get new first ≡ Some (record n { right = rest })) → Stands new first (λ i. p i + q i) (low ++ high)
      merged-right-called rest whole linked =
          merged-right between new others first_called rest (whole at_first.q q at_first.r high at_first.right_stands b first_own (first_few (depth - 1) depth few_pairs fewer)) (linked node (first_called first first_alone ∙ is))

  module _ {node : Node K V} (is : slice_get nodes second ≡ Some node) where
    pub at_second : IsOpened nodes second node q high
    at_second = opened nodes few second q high b node is

    pub second_own : Own (λ i. p i + at_second.p i)
    second_own i = omega (arith, own i, at_second.all i)

    pub second_few : (d depth : ℕ) → length low + length high ≤ depth → depth ≤ d + 1 → length low + length at_second.l ≤ d
    second_few d depth le deep = omega (arith, ap length at_second.whole, length-append at_second.l (node.pair ∷ at_second.r), le, deep)

    pub second_alone : p second + at_second.p second ≡ 0
    second_alone = omega (arith, own second, at_second.all second, same-here second)

    module _ (between new : List (Node K V)) (others : Elsewhere (λ i. same_place i second) between new) (before : Elsewhere (λ i. p i + at_second.p i) nodes between) where
      pub merged_left_elsewhere : Elsewhere (λ i. p i + q i) nodes new
      merged_left_elsewhere = whole_elsewhere nodes between new second _ before others (λ i. p i + q i) (λ i. omega (arith, at_second.all i))

      pub merged-left : (rest : ℕ) → Stands between rest (λ i. p i + at_second.p i) (low ++ at_second.l) → slice_get new second ≡ Some (record node { left = rest }) → Stands new second (λ i. p i + q i) (low ++ high)
      merged-left rest s here =
          reread (append_assoc low at_second.l (node.pair ∷ at_second.r) ∙ ap (λ (xs : List (K × V)). low ++ xs) (sym at_second.whole))
          (moved new second _ (λ i. p i + q i) _ (λ i. omega (arith, at_second.all i))
          (relinked-left nodes between new second _ before others node (λ i. p i + at_second.p i) at_second.q (low ++ at_second.l) at_second.r second_alone (omega (arith, own second, at_second.all second, same-here second)) rest here (λ i h. omega (arith, own i, at_second.all i, h)) s at_second.right_stands))

    -- the rest was merged by a call, and then linked
    module _ (between new : List (Node K V)) (others : Elsewhere (λ i. same_place i second) between new) {depth : ℕ} (few_pairs : length low + length high ≤ depth) (fewer : depth ≤ (depth - 1) + 1) (rest_elsewhere : (p q : ℕ → ℕ) (low high : List (K × V)) → Stands nodes first p low → Stands nodes node.left q high → Own (λ i. p i + q i) → length low + length high ≤ depth - 1 → Elsewhere (λ i. p i + q i) nodes between) where
      second_called : Elsewhere (λ i. p i + at_second.p i) nodes between
      second_called = rest_elsewhere p at_second.p low at_second.l a at_second.left_stands second_own (second_few (depth - 1) depth few_pairs fewer)

      pub merged-left-called-elsewhere : Elsewhere (λ i. p i + q i) nodes new
      merged-left-called-elsewhere = merged_left_elsewhere between new others second_called

      pub merged-left-called : (rest : ℕ) → ((p q : ℕ → ℕ) (low high : List (K × V)) → Stands nodes first p low → Stands nodes node.left q high → Own (λ i. p i + q i) → length low + length high ≤ depth - 1 → Stands between rest (λ i. p i + q i) (low ++ high)) → ((n : Node K V) → slice_get between second ≡ Some n → slice_get new second ≡ Some (record n { left = rest })) → Stands new second (λ i. p i + q i) (low ++ high)
      merged-left-called rest whole linked =
          merged-left between new others second_called rest (whole p at_second.p low at_second.l a at_second.left_stands second_own (second_few (depth - 1) depth few_pairs fewer)) (linked node (second_called second second_alone ∙ is))
