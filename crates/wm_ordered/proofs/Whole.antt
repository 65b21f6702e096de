-- What is known of a whole map: that its tree is a search tree, what is read of it, and what a change leaves of it.
use Rattle.std.proofs.Common.{◌≡◌, ℕ, zero, suc, ◌+◌, ◌-◌, ◌≤◌, ◌<◌, Bool, true, false, cond, nat_eq, List, ◌++◌, length, All, Option, Some, None, slice_get, refl, ap, sym, ◌∙◌, subst, arith, append-nil, take, drop, is_some}
use Rattle.std.specs.declared.cmp.Ordering.{Ordering}
use Rattle.wm_desc.specs.Sorted.{has_key, added, removed}
use Rattle.std.specs.declared.cmp.Ordering.TheVariants.{Less}
use Rattle.std.specs.Cmp.{IsTotalOrder}
use Rattle.std.specs.Ordering.{is_eq}
use Rattle.std.proofs.lemmas.Bool.{eqb-true}
use Rattle.std.proofs.lemmas.List.{drop_all, take_all, length-map}
use Rattle.wm_ordered.proofs.Cuts.{sorted-added}
use Rattle.wm_ordered.proofs.Keyed.{length-added, length-removed, sorted-removed}
use Rattle.wm_ordered.proofs.Sides.{all_pairs_with_value}
use Rattle.wm_ordered.specs.declared.node.Node.{Node}
use Rattle.wm_ordered.specs.Ordered.{key_of, value_at, with_value}
use Rattle.wm_ordered.specs.Tree.{Tree, nowhere, same_place, times, times_in, times_taken, Lies, Stands, IsSearchTree, IsWithout, IsOrdered, pairs_under}
use Rattle.wm_ordered.specs.Tree.Tree.{Leaf, Fork}
use Rattle.wm_ordered.proofs.Standing.{get-within, same-here, stays, under}

-- a vector whose slice was written is what the slice came to be
pub written-back : {X : Type 0} (n : ℕ) (xs now ys : List X) → length xs ≡ length now → now ≡ ys → length now ≡ n → take n (xs ++ drop (length xs) ys) ≡ xs
written-back n xs now ys same value len =
    ap (λ zs. take n (xs ++ zs)) (drop_all (length xs) ys (omega (arith, same, ap length value)))
    ∙ (ap (λ zs. take n zs) (append-nil xs) ∙ take_all n xs (omega (arith, same, len)))

there-by : (b : Bool) (i at n m : ℕ) (left right : ℕ) → nat_eq i at ≡ b → at < n → (1 ≤ left → i < n) → (1 ≤ right → i < n) → m ≡ left → 1 ≤ cond {A = ℕ} b 1 0 + left + right → i < n
there-by true i at n m left right e here low high is h = omega (arith, eqb-true i at e, here)
there-by false i at n zero left right e here low high is h = high (omega (arith, is, h))
there-by false i at n (suc m) left right e here low high is h = low (omega (arith, is))

module _ {K V : Type 0} where
  -- a place where a node stands is one of the nodes'
  lies-within : (nodes : List (Node K V)) (t : Tree K V) → Lies nodes t → (i : ℕ) → 1 ≤ times i t → i < length nodes
  lies-within nodes Leaf lies i h = absurd (omega arith)
  lies-within nodes (Fork at pair left right) lies i h =
      there-by (nat_eq i at) i at (length nodes) (times i left) (times i left) (times i right) refl (get-within nodes at _ lies.0) (lies-within nodes left lies.1 i) (lies-within nodes right lies.2 i) refl h

  pub within : {nodes : List (Node K V)} {root : ℕ} {places : ℕ → ℕ} {pairs : List (K × V)} → Stands nodes root places pairs → (i : ℕ) → 1 ≤ places i → i < length nodes
  within {nodes} s i h = lies-within nodes s.tree s.lies i (omega (arith, s.stood i, h))

  module _ {cmp : K → K → Ordering} {nodes : List (Node K V)} {root len room capacity free_capacity : ℕ} {free : List ℕ} (inv : IsOrdered cmp nodes root len free room capacity free_capacity) where
    pub few_nodes : length nodes ≤ nowhere
    few_nodes = omega (arith, inv.all, inv.few, inv.fits)

    pub tree_of : (xs : List (Node K V)) → xs ≡ nodes → IsSearchTree cmp xs root len inv.places inv.pairs
    tree_of xs same = record {
      stands = subst (λ ns. Stands ns root inv.places inv.pairs) (sym same) inv.stands;
      own = λ i. omega (arith, inv.apart i);
      sorted = inv.sorted;
      few = omega (arith, inv.counted);
    }

    pub read : pairs_under len nodes root ≡ inv.pairs
    read = under nodes few_nodes root inv.places inv.pairs inv.stands len (omega (arith, inv.counted))

-- one where there is something
abbrev bit : {X : Type 0} → Option X → ℕ
bit o = cond (is_some o) 1 0

module _ {K V : Type 0} {cmp : K → K → Ordering} (total : IsTotalOrder cmp) (eq : K → K → Bool) (ties : (a b : K) → eq a b ≡ is_eq (cmp a b)) (k : K) where
  module _ {nodes : List (Node K V)} {root len room capacity free_capacity : ℕ} {free : List ℕ} (inv : IsOrdered cmp nodes root len free room capacity free_capacity) where
    -- a key that isn't there was taken out
    abbrev pub after-nothing : (new : List (Node K V)) (top : ℕ) (taken : Option (ℕ × V)) → taken ≡ None → value_at eq k inv.pairs ≡ None → length new ≡ length nodes → IsWithout new top inv.places (removed key_of eq k inv.pairs) taken → IsOrdered cmp new top len free room capacity free_capacity
    after-nothing new top taken is none same s = record {
      places = s.rest;
      pairs = removed key_of eq k inv.pairs;
      stands = s.stands;
      sorted = sorted-removed cmp eq k inv.pairs inv.sorted;
      counted = omega (arith, inv.counted, length-removed total eq ties k inv.pairs inv.sorted, ap bit none);
      apart = λ i. omega (arith, inv.apart i, s.all i);
      there = subst (λ n. All (λ place. place < n) free) (sym same) inv.there;
      all = same ∙ inv.all;
      few = inv.few;
      fits = inv.fits;
      node_room = inv.node_room;
      free_room = inv.free_room;
    }

    -- a pair was taken out, and its place was given back
    module _ (new : List (Node K V)) (top : ℕ) (taken : Option (ℕ × V)) (place : ℕ) (value : V) (is : taken ≡ Some (place, value)) (some : value_at eq k inv.pairs ≡ Some value) (same : length new ≡ length nodes) (s : IsWithout new top inv.places (removed key_of eq k inv.pairs) taken) where
      pub taken-once : (i : ℕ) → s.rest i + same_place i place ≡ inv.places i
      taken-once i = omega (arith, s.all i, ap (times_taken i) is)

      pub place-within : place < length nodes
      place-within = within inv.stands place (omega (arith, taken-once place, same-here place))

      pub some-left : 1 ≤ len
      some-left = omega (arith, inv.counted, length-removed total eq ties k inv.pairs inv.sorted, ap bit some)

      abbrev pub after-one : (gained : List ℕ) (new_capacity : ℕ) → ((i : ℕ) → times_in i gained ≡ times_in i free + same_place i place) → ((n : ℕ) → place < n → All (λ p. p < n) free → All (λ p. p < n) gained) → length gained ≡ length free + 1 → new_capacity ≡ free_capacity → IsOrdered cmp new top (len - 1) gained (room + 1) capacity new_capacity
      after-one gained new_capacity times there long kept = record {
        places = s.rest;
        pairs = removed key_of eq k inv.pairs;
        stands = s.stands;
        sorted = sorted-removed cmp eq k inv.pairs inv.sorted;
        counted = omega (arith, inv.counted, length-removed total eq ties k inv.pairs inv.sorted, ap bit some);
        apart = λ i. omega (arith, inv.apart i, taken-once i, times i);
        there = subst (λ n. All (λ p. p < n) gained) (sym same) (there (length nodes) place-within inv.there);
        all = omega (arith, same, inv.all, long, some-left);
        few = omega (arith, inv.few, long);
        fits = omega (arith, inv.fits, some-left);
        node_room = omega (arith, inv.node_room, some-left);
        free_room = omega (arith, inv.free_room, some-left, kept);
      }

module _ {K V : Type 0} {cmp : K → K → Ordering} {nodes : List (Node K V)} {root len room capacity free_capacity : ℕ} {free : List ℕ} (inv : IsOrdered cmp nodes root len free room capacity free_capacity) where
  -- a pair was put at a place that was free or is new
  module _ (between new : List (Node K V)) (top place : ℕ) (lost : List ℕ) (others : (i : ℕ) → i < length nodes → slice_get between i ≡ slice_get nodes i) (apart : (places : ℕ → ℕ) → ((i : ℕ) → places i + times_in i free ≤ 1) → ((i : ℕ) → 1 ≤ places i → i < length nodes) → (i : ℕ) → places i + same_place i place + times_in i lost ≤ 1) where
    pub own-place : (i : ℕ) → inv.places i + same_place i place + times_in i lost ≤ 1
    own-place = apart inv.places inv.apart (λ i h. within inv.stands i h)

    pub free-place : inv.places place ≡ 0
    free-place = omega (arith, own-place place, same-here place)

    pub tree-between : (xs : List (Node K V)) → xs ≡ between → IsSearchTree cmp xs root len inv.places inv.pairs
    tree-between xs same = record {
      stands = subst (λ ns. Stands ns root inv.places inv.pairs) (sym same) (stays nodes between root inv.places inv.pairs (λ i h. others i (within inv.stands i h)) inv.stands);
      own = λ i. omega (arith, inv.apart i);
      sorted = inv.sorted;
      few = omega (arith, inv.counted);
    }

    abbrev pub after-put : (total : IsTotalOrder cmp) (eq : K → K → Bool) → ((a b : K) → eq a b ≡ is_eq (cmp a b)) → (pair : K × V) (new_capacity new_free_capacity : ℕ) → has_key key_of eq pair.0 inv.pairs ≡ false → 1 ≤ room → Stands new top (λ i. inv.places i + same_place i place) (added key_of cmp pair inv.pairs) → length new ≡ length between → All (λ p. p < length between) lost → length between + length free ≡ length nodes + length lost + 1 → length lost ≡ length free - 1 → new_capacity ≡ capacity → new_free_capacity ≡ free_capacity → IsOrdered cmp new top (len + 1) lost (room - 1) new_capacity new_free_capacity
    after-put total eq ties pair new_capacity new_free_capacity fresh spare s same there all fewer kept kept_free = record {
      places = λ i. inv.places i + same_place i place;
      pairs = added key_of cmp pair inv.pairs;
      stands = s;
      sorted = sorted-added cmp total pair inv.pairs inv.sorted eq ties fresh;
      counted = omega (arith, inv.counted, length-added key_of cmp pair inv.pairs);
      apart = own-place;
      there = subst (λ n. All (λ p. p < n) lost) (sym same) there;
      all = omega (arith, same, all, inv.all);
      few = omega (arith, inv.few, fewer, spare);
      fits = omega (arith, inv.fits, spare);
      node_room = omega (arith, inv.node_room, spare, kept);
      free_room = omega (arith, inv.free_room, spare, kept_free);
    }

  -- a key has another value
  abbrev pub after-set : (eq : K → K → Bool) (k : K) (v : V) (new : List (Node K V)) → length new ≡ length nodes → Stands new root inv.places (with_value eq k v inv.pairs) → IsOrdered cmp new root len free room capacity free_capacity
  after-set eq k v new same s = record {
    places = inv.places;
    pairs = with_value eq k v inv.pairs;
    stands = s;
    sorted = all_pairs_with_value (λ (a b : K). cmp a b ≡ Less) (λ q. eq q k) v _ inv.sorted;
    counted = inv.counted ∙ sym (length-map _ _);
    apart = inv.apart;
    there = subst (λ n. All (λ place. place < n) free) (sym same) inv.there;
    all = same ∙ inv.all;
    few = inv.few;
    fits = inv.fits;
    node_room = inv.node_room;
    free_room = inv.free_room;
  }
