-- Trees among nodes: how one is opened at its root, joined under a root, and left as it was where other nodes change.
use Rattle.std.proofs.Common.{◌≡◌, ℕ, zero, suc, ◌+◌, ◌≤◌, ◌<◌, Bool, true, false, cond, nat_eq, List, [], ◌∷◌, ◌++◌, length, Option, Some, None, slice_get, refl, ap, sym, ◌∙◌, arith, length-append}
use Rattle.std.proofs.lemmas.Bool.{eq-eqb, eqb-true}
use Rattle.wm_ordered.specs.declared.node.Node.{Node}
use Rattle.wm_ordered.specs.Tree.{Tree, nowhere, root_of, pairs_of, same_place, times, node_between, Lies, Stands, pairs_under}
use Rattle.wm_ordered.specs.Tree.Tree.{Leaf, Fork}

-- nothing stands nowhere
pub get-beyond : {X : Type 0} (xs : List X) (i : ℕ) → length xs ≤ i → slice_get xs i ≡ None
get-beyond [] i h = refl
get-beyond (x ∷ xs) zero h = absurd (omega arith)
get-beyond (x ∷ xs) (suc i) h = get-beyond xs i (omega arith)

pub get-within : {X : Type 0} (xs : List X) (i : ℕ) (x : X) → slice_get xs i ≡ Some x → i < length xs
get-within [] i x h = absurd (cc h)
get-within (y ∷ ys) zero x h = omega arith
get-within (y ∷ ys) (suc i) x h = omega (arith, get-within ys i x h)

pub same-here : (i : ℕ) → same_place i i ≡ 1
same-here i = ap (λ b. cond {A = ℕ} b 1 0) (eq-eqb i i refl)

-- a place where there is none is another one than a place where there is one
apart-by : (b : Bool) (f : ℕ → ℕ) (i j : ℕ) → nat_eq i j ≡ b → f j ≡ 0 → 1 ≤ f i → cond {A = ℕ} b 1 0 ≡ 0
apart-by true f i j e none some = absurd (omega (arith, ap f (eqb-true i j e), none, some))
apart-by false f i j e none some = refl

pub apart : (f : ℕ → ℕ) (i j : ℕ) → f j ≡ 0 → 1 ≤ f i → same_place i j ≡ 0
apart f i j none some = apart-by (nat_eq i j) f i j refl none some

module _ {K V : Type 0} where
  -- a tree stays where the nodes at its places stay
  lies-same : (a b : List (Node K V)) (t : Tree K V) → ((i : ℕ) → 1 ≤ times i t → slice_get b i ≡ slice_get a i) → Lies a t → Lies b t
  lies-same a b Leaf same lies = tt
  lies-same a b (Fork at pair left right) same lies =
      let here = same-here at in (
        same at (omega arith) ∙ lies.0,
        lies-same a b left (λ i h. same i (omega arith)) lies.1,
        lies-same a b right (λ i h. same i (omega arith)) lies.2,
      )

  pub stays : (a b : List (Node K V)) (root : ℕ) (places : ℕ → ℕ) (pairs : List (K × V)) → ((i : ℕ) → 1 ≤ places i → slice_get b i ≡ slice_get a i) → Stands a root places pairs → Stands b root places pairs
  stays a b root places pairs same s = record {
    tree = s.tree;
    begins = s.begins;
    lies = lies-same a b s.tree (λ i h. same i (omega (arith, s.stood i))) s.lies;
    stood = s.stood;
    read = s.read;
  }

  -- the same places, told in another way
  pub moved : (nodes : List (Node K V)) (root : ℕ) (p q : ℕ → ℕ) (pairs : List (K × V)) → ((i : ℕ) → p i ≡ q i) → Stands nodes root p pairs → Stands nodes root q pairs
  moved nodes root p q pairs same s = record {
    tree = s.tree;
    begins = s.begins;
    lies = s.lies;
    stood = λ i. s.stood i ∙ same i;
    read = s.read;
  }

  -- no pairs
  pub nothing : (nodes : List (Node K V)) → Stands nodes nowhere (λ i. 0) []
  nothing nodes = record { tree = Leaf; begins = refl; lies = tt; stood = λ i. refl; read = refl }

  -- a node joins two trees
  pub joined : (nodes : List (Node K V)) (at : ℕ) (node : Node K V) (p q : ℕ → ℕ) (l r : List (K × V)) → slice_get nodes at ≡ Some node → Stands nodes node.left p l → Stands nodes node.right q r → Stands nodes at (λ i. same_place i at + p i + q i) (l ++ node.pair ∷ r)
  joined nodes at node p q l r is a b = record {
    tree = Fork at node.pair a.tree b.tree;
    begins = refl;
    lies = (is ∙ ap (λ (n : Node K V). Some n) (ap (λ (m : ℕ). record { pair = node.pair; left = m; right = node.right }) a.begins ∙ ap (λ (m : ℕ). record { pair = node.pair; left = root_of a.tree; right = m }) b.begins), a.lies, b.lies);
    stood = λ i. omega (arith, a.stood i, b.stood i);
    read = ap (λ (xs : List (K × V)). xs ++ node.pair ∷ pairs_of b.tree) a.read ∙ ap (λ (xs : List (K × V)). l ++ node.pair ∷ xs) b.read;
  }

  -- what stands on both sides of a root's node
  pub record IsOpened (nodes : List (Node K V)) (at : ℕ) (node : Node K V) (places : ℕ → ℕ) (pairs : List (K × V)) : Type 0 where
    pub p : ℕ → ℕ
    pub q : ℕ → ℕ
    pub l : List (K × V)
    pub r : List (K × V)
    pub left_stands : Stands nodes node.left p l
    pub right_stands : Stands nodes node.right q r
    pub all : (i : ℕ) → same_place i at + p i + q i ≡ places i
    pub whole : pairs ≡ l ++ node.pair ∷ r

  some-is : (x y : Node K V) → Some x ≡ Some y → x ≡ y
  some-is x y h = cc h

  module _ (nodes : List (Node K V)) (few : length nodes ≤ nowhere) (at : ℕ) (places : ℕ → ℕ) (pairs : List (K × V)) (s : Stands nodes at places pairs) where
    opened-at : (node : Node K V) → slice_get nodes at ≡ Some node → (t : Tree K V) → at ≡ root_of t → Lies nodes t → ((i : ℕ) → times i t ≡ places i) → pairs_of t ≡ pairs → IsOpened nodes at node places pairs
    opened-at node is Leaf begins lies stood read = absurd (cc (is, get-beyond nodes at (omega (arith, begins))))
    opened-at node is (Fork i pair left right) begins lies stood read =
        let there : node ≡ node_between pair left right = some-is _ _ (sym is ∙ (ap (slice_get nodes) begins ∙ lies.0)) in
        record {
          p = λ j. times j left;
          q = λ j. times j right;
          l = pairs_of left;
          r = pairs_of right;
          left_stands = record { tree = left; begins = ap (λ (n : Node K V). n.left) there; lies = lies.1; stood = λ j. refl; read = refl };
          right_stands = record { tree = right; begins = ap (λ (n : Node K V). n.right) there; lies = lies.2; stood = λ j. refl; read = refl };
          all = λ j. ap (λ (k : ℕ). same_place j k + times j left + times j right) begins ∙ stood j;
          whole = sym read ∙ ap (λ (e : K × V). pairs_of left ++ e ∷ pairs_of right) (sym (ap (λ (n : Node K V). n.pair) there));
        }

    pub opened : (node : Node K V) → slice_get nodes at ≡ Some node → IsOpened nodes at node places pairs
    opened node is = opened-at node is s.tree s.begins s.lies s.stood s.read

    -- where no node is at the root, nothing stands there
    empty-at : slice_get nodes at ≡ None → (t : Tree K V) → at ≡ root_of t → Lies nodes t → t ≡ Leaf
    empty-at none Leaf begins lies = refl
    empty-at none (Fork i pair left right) begins lies = absurd (cc (none, ap (slice_get nodes) begins ∙ lies.0))

    pub no-pairs : slice_get nodes at ≡ None → pairs ≡ []
    no-pairs none = sym s.read ∙ ap (λ (t : Tree K V). pairs_of t) (empty-at none s.tree s.begins s.lies)

    pub no-places : slice_get nodes at ≡ None → (i : ℕ) → places i ≡ 0
    no-places none i = sym (s.stood i) ∙ ap (λ (t : Tree K V). times i t) (empty-at none s.tree s.begins s.lies)

    -- what is read of a node, and so many levels below it
    abbrev read-by : ℕ → Option (Node K V) → List (K × V)
    read-by levels None = []
    read-by levels (Some node) = pairs_under levels nodes node.left ++ node.pair ∷ pairs_under levels nodes node.right

    -- so many levels down are enough to read them
    under-at : (levels : ℕ) (t : Tree K V) (r : ℕ) → r ≡ root_of t → Lies nodes t → length (pairs_of t) ≤ levels → pairs_under levels nodes r ≡ pairs_of t
    under-at zero Leaf r begins lies deep = refl
    under-at zero (Fork i pair left right) r begins lies deep = absurd (omega (arith, length-append (pairs_of left) (pair ∷ pairs_of right)))
    under-at (suc levels) Leaf r begins lies deep = ap (read-by levels) (get-beyond nodes r (omega (arith, begins)))
    under-at (suc levels) (Fork i pair left right) r begins lies deep =
        let long = length-append (pairs_of left) (pair ∷ pairs_of right) in
        ap (read-by levels) (ap (slice_get nodes) begins ∙ lies.0)
        ∙ (ap (λ (xs : List (K × V)). xs ++ pair ∷ pairs_under levels nodes (root_of right)) (under-at levels left (root_of left) refl lies.1 (omega arith))
        ∙ ap (λ (xs : List (K × V)). pairs_of left ++ pair ∷ xs) (under-at levels right (root_of right) refl lies.2 (omega arith)))

    pub under : (levels : ℕ) → length pairs ≤ levels → pairs_under levels nodes at ≡ pairs
    under levels deep = under-at levels s.tree at s.begins s.lies (omega (arith, ap length s.read)) ∙ s.read
