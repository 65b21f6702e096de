-- How a search tree lies among nodes.
use Rattle.std.specs.Prelude.{◌≡◌, ℕ, zero, suc, ◌+◌, ◌≤◌, ◌<◌, nat_eq, true, false, List, [], ◌∷◌, ◌++◌, length, count_by, All, Option, Some, None, slice_get, if◌then◌else◌}
use Rattle.std.specs.Ordering.{is_lt}
use Rattle.std.specs.declared.cmp.Ordering.{Ordering}
use Rattle.wm_desc.specs.Sorted.{IsSortedOnce}
use Rattle.wm_ordered.specs.Ordered.{Pairs, key_of}
use Rattle.wm_ordered.specs.declared.node.Node.{Node}

-- a tree of nodes, each with its place among all nodes and its pair
pub data Tree (K V : Type 0) : Type 0 where
  Leaf : Tree K V
  Fork : ℕ → K × V → Tree K V → Tree K V → Tree K V

-- the place of no node
abbrev pub nowhere : ℕ
nowhere = 4294967295

-- the place of the root
abbrev pub root_of : {K V : Type 0} → Tree K V → ℕ
root_of Leaf = nowhere
root_of (Fork at pair left right) = at

-- the pairs, from left to right
abbrev pub pairs_of : {K V : Type 0} → Tree K V → List (K × V)
pairs_of Leaf = []
pairs_of (Fork at pair left right) = pairs_of left ++ pair ∷ pairs_of right

-- one where two places are the same
abbrev pub same_place : ℕ → ℕ → ℕ
same_place i j = if nat_eq i j then 1 else 0

-- how often a place stands in a tree
abbrev pub times : {K V : Type 0} → ℕ → Tree K V → ℕ
times i Leaf = 0
times i (Fork at pair left right) = same_place i at + times i left + times i right

-- the node of a pair between two trees
abbrev pub node_between : {K V : Type 0} → K × V → Tree K V → Tree K V → Node K V
node_between pair left right = record { pair = pair; left = root_of left; right = root_of right }

-- a tree lies among the nodes
abbrev pub Lies : {K V : Type 0} → List (Node K V) → Tree K V → Type 0
Lies nodes Leaf = Unit {0}
Lies nodes (Fork at pair left right) = (slice_get nodes at ≡ Some (node_between pair left right)) × Lies nodes left × Lies nodes right

-- a tree with these pairs stands under a root among nodes, and each place stands in it as often as that
pub record Stands {K V : Type 0} (nodes : List (Node K V)) (root : ℕ) (places : ℕ → ℕ) (pairs : List (K × V)) : Type 0 where
  pub tree : Tree K V
  pub begins : root ≡ root_of tree
  pub lies : Lies nodes tree
  pub stood : (i : ℕ) → times i tree ≡ places i
  pub read : pairs_of tree ≡ pairs

-- no place stands there twice
abbrev pub Own : (ℕ → ℕ) → Type 0
Own places = (i : ℕ) → places i ≤ 1

-- the nodes at other places are as they were
abbrev pub Elsewhere : {K V : Type 0} → (ℕ → ℕ) → List (Node K V) → List (Node K V) → Type 0
Elsewhere places old new = (i : ℕ) → places i ≡ 0 → slice_get new i ≡ slice_get old i

-- pairs are cut in two: those below a key, and the rest
pub record IsCut {K V : Type 0} (cmp : K → K → Ordering) (key : K) (items low high : List (K × V)) : Type 0 where
  pub whole : items ≡ low ++ high
  pub below : All (λ pair. is_lt (cmp pair.0 key) ≡ true) low
  pub rest : All (λ pair. is_lt (cmp pair.0 key) ≡ false) high

-- sorted pairs stand under a root, each at a place of its own, and at most so many
pub record IsSearchTree {K V : Type 0} (cmp : K → K → Ordering) (nodes : List (Node K V)) (root depth : ℕ) (places : ℕ → ℕ) (pairs : List (K × V)) : Type 0 where
  pub stands : Stands nodes root places pairs
  pub own : Own places
  pub sorted : IsSortedOnce key_of cmp pairs
  pub few : length pairs ≤ depth

-- what stood at some places stands there in two trees: the pairs below a key, and the rest
pub record IsSplit {K V : Type 0} (cmp : K → K → Ordering) (key : K) (nodes : List (Node K V)) (places : ℕ → ℕ) (pairs : List (K × V)) (low high : ℕ) : Type 0 where
  pub low_places : ℕ → ℕ
  pub high_places : ℕ → ℕ
  pub low_pairs : List (K × V)
  pub high_pairs : List (K × V)
  pub low_stands : Stands nodes low low_places low_pairs
  pub high_stands : Stands nodes high high_places high_pairs
  pub all : (i : ℕ) → low_places i + high_places i ≡ places i
  pub cut : IsCut cmp key pairs low_pairs high_pairs

-- how often a place was taken out
abbrev pub times_taken : {V : Type 0} → ℕ → Option (ℕ × V) → ℕ
times_taken i None = 0
times_taken i (Some taken) = same_place i taken.0

-- pairs stand at the places where pairs stood, but for the place that was taken out
pub record IsWithout {K V : Type 0} (nodes : List (Node K V)) (root : ℕ) (places : ℕ → ℕ) (pairs : List (K × V)) (taken : Option (ℕ × V)) : Type 0 where
  pub rest : ℕ → ℕ
  pub stands : Stands nodes root rest pairs
  pub all : (i : ℕ) → rest i + times_taken i taken ≡ places i

-- how often a place stands in a list
abbrev pub times_in : ℕ → List ℕ → ℕ
times_in i free = count_by (λ place. nat_eq i place) free

-- the pairs of the tree under a root, at most so many levels down
abbrev pub pairs_under : {K V : Type 0} → ℕ → List (Node K V) → ℕ → List (K × V)
pairs_under zero nodes root = []
pairs_under (suc levels) nodes root = elim (slice_get nodes root) [ None ↦ [] | Some node ↦ pairs_under levels nodes node.left ++ node.pair ∷ pairs_under levels nodes node.right ]

-- what is seen of the tree under a root, with room for a number of pairs
abbrev pub seen : {K V : Type 0} → List (Node K V) → ℕ → ℕ → ℕ → Pairs K V
seen nodes root len room = record { items = pairs_under len nodes root; spare = room }

-- sorted pairs stand under the root; all other nodes are free, and there is room for them and for more
pub record IsOrdered {K V : Type 0} (cmp : K → K → Ordering) (nodes : List (Node K V)) (root len : ℕ) (free : List ℕ) (room capacity free_capacity : ℕ) : Type 0 where
  pub places : ℕ → ℕ
  pub pairs : List (K × V)
  pub stands : Stands nodes root places pairs
  pub sorted : IsSortedOnce key_of cmp pairs
  pub counted : len ≡ length pairs
  pub apart : (i : ℕ) → places i + times_in i free ≤ 1
  pub there : All (λ place. place < length nodes) free
  pub all : length nodes ≡ len + length free
  pub few : length free ≤ room
  pub fits : len + room ≤ nowhere
  pub node_room : len + room ≤ capacity
  pub free_room : len + room ≤ free_capacity
