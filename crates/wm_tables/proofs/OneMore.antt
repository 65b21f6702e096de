-- Of sorted elements those that pass a test, and one more of them in its place.
use Rattle.std.proofs.Common.{◌≡◌, ℕ, suc, ◌+◌, Bool, true, false, cond, List, [], ◌∷◌, filter, refl, sym, ap, subst, ◌∙◌, inl, inr, arith}
use Rattle.std.specs.Cmp.{IsTotalOrder}
use Rattle.std.specs.List.{insert}
use Rattle.std.specs.Ordering.{is_lt, ordering_reverse}
use Rattle.std.specs.declared.cmp.Ordering.{Ordering}
use Rattle.std.specs.declared.cmp.Ordering.TheVariants.{Less, Greater}
use Rattle.std.proofs.lemmas.List.Sums.{sum_by-cons}
use Rattle.wm_desc.specs.Sorted.{IsSortedOnce, place_of, has_key, added}
use Rattle.wm_law.specs.Laws.{IsIn}
use Rattle.wm_law.proofs.Members.{left_in, All-in, left_same}
use Rattle.wm_law.proofs.InOrder.{behind, longer, not_less, rest_sorted}
use Rattle.wm_tables.proofs.Passing.{left_passes, none_passes}

module _ {E K : Type 0} (key : E → K) (cmp : K → K → Ordering) (o : IsTotalOrder cmp) where
  abbrev IsSorted : List E → Type 0
  IsSorted xs = IsSortedOnce key cmp xs

  -- the first is below all others
  pub first_below : (x : E) (xs : List E) (y : E) → IsSorted (x ∷ xs) → IsIn y xs → cmp (key x) (key y) ≡ Less
  first_below x xs y s i =
      let more = longer key cmp o x xs in
      All-in (λ (e : E). cmp (key x) (key e) ≡ Less) xs y (λ k d less. subst (λ (e : E). cmp (key x) (key e) ≡ Less) (behind key cmp o x xs k d) (s 0 (k + 1) d (omega arith) (omega arith))) i

  -- nothing is below itself
  never_below : (a : K) → cmp a a ≡ Less → ⊥
  never_below a h =
      let turned : cmp a a ≡ ordering_reverse (cmp a a) = o.antisymm a a in
      let greater : ordering_reverse (cmp a a) ≡ Greater = ap ordering_reverse h in
      let clash : Less ≡ Greater = sym h ∙ turned ∙ greater in
      cc

  pub not_same : (a b : K) → cmp a b ≡ Less → a ≡ b → ⊥
  not_same a b h e = never_below b (subst (λ (k : K). cmp k b ≡ Less) e h)

  -- of sorted elements no two have one key
  pub one_of_key : (xs : List E) (x y : E) → IsSorted xs → IsIn x xs → IsIn y xs → key x ≡ key y → x ≡ y
  one_of_key [] x y s i j e = absurd i
  one_of_key (z ∷ zs) x y s (inl a) (inl b) e = a ∙ sym b
  one_of_key (z ∷ zs) x y s (inl a) (inr j) e = absurd (not_same (key z) (key y) (first_below z zs y s j) (ap key (sym a) ∙ e))
  one_of_key (z ∷ zs) x y s (inr i) (inl b) e = absurd (not_same (key z) (key x) (first_below z zs x s i) (ap key (sym b) ∙ sym e))
  one_of_key (z ∷ zs) x y s (inr i) (inr j) e = one_of_key zs x y (rest_sorted key cmp o z zs s) i j e

  abbrev one : K → E → ℕ
  one k e = cond (is_lt (cmp (key e) k)) 1 0

  -- where all keys are greater, none stands before
  none_before : (k : K) (xs : List E) → ((e : E) → IsIn e xs → cmp k (key e) ≡ Less) → place_of key cmp k xs ≡ 0
  none_before k [] h = refl
  none_before k (x ∷ xs) h =
      let this : one k x ≡ 0 = ap (λ (t : Bool). cond t 1 0) (not_less key cmp o (key x) k (h x (inl refl))) in
      let rest = none_before k xs (λ e i. h e (inr i)) in
      rw (sum_by-cons (one k) x xs) (omega arith)

  place_behind : (k : K) (x : E) (xs : List E) → cmp (key x) k ≡ Less → place_of key cmp k (x ∷ xs) ≡ suc (place_of key cmp k xs)
  place_behind k x xs h =
      let this : one k x ≡ 1 = ap (λ (r : Ordering). cond (is_lt r) 1 0) h in
      rw (sum_by-cons (one k) x xs) (omega arith)

  -- one goes first, or behind the first
  added_first : (x : E) (xs : List E) → ((e : E) → IsIn e xs → cmp (key x) (key e) ≡ Less) → added key cmp x xs ≡ x ∷ xs
  added_first x xs h = ap (λ (n : ℕ). insert xs n x) (none_before (key x) xs h)

  added_later : (x y : E) (xs : List E) → cmp (key y) (key x) ≡ Less → added key cmp x (y ∷ xs) ≡ y ∷ added key cmp x xs
  added_later x y xs h = ap (λ (n : ℕ). insert (y ∷ xs) n x) (place_behind (key x) y xs h)

  -- the second test lets the element pass, and the first lets the same pass but for it
  pub record IsOneMore (p q : E → Bool) (xs : List E) (x : E) : Type 0 where
    pub before : p x ≡ false
    pub after : q x ≡ true
    pub others : (y : E) → IsIn y xs → (key y ≡ key x → ⊥) → q y ≡ p y

  rest_more : (p q : E → Bool) (y : E) (ys : List E) (x : E) → IsOneMore p q (y ∷ ys) x → IsOneMore p q ys x
  rest_more p q y ys x h = record { before = h.before; after = h.after; others = λ z i n. h.others z (inr i) n }

  next_by : (p q : E → Bool) (y : E) (ys : List E) (x : E) (t : Bool) → p y ≡ t → q y ≡ t → cmp (key y) (key x) ≡ Less → added key cmp x (filter p ys) ≡ filter q ys → added key cmp x (cond t (y ∷ filter p ys) (filter p ys)) ≡ cond t (y ∷ filter q ys) (filter q ys)
  next_by p q y ys x true e f less h = added_later x y (filter p ys) less ∙ ap (λ (zs : List E). y ∷ zs) h
  next_by p q y ys x false e f less h = h

  -- what passes the first test, with the element in its place, is what passes the second
  pub next_added : (p q : E → Bool) (xs : List E) (x : E) → IsSorted xs → IsIn x xs → IsOneMore p q xs x → added key cmp x (filter p xs) ≡ filter q xs
  next_added p q [] x s i h = absurd i
  next_added p q (y ∷ ys) x s (inl same) h =
      let not : p y ≡ false = ap p (sym same) ∙ h.before in
      let yes : q y ≡ true = ap q (sym same) ∙ h.after in
      let behind : (e : E) → IsIn e ys → cmp (key x) (key e) ≡ Less = λ e m. subst (λ (z : E). cmp (key z) (key e) ≡ Less) (sym same) (first_below y ys e s m) in
      let rest : filter q ys ≡ filter p ys = left_same p q ys (λ e m. h.others e (inr m) (λ k. not_same (key x) (key e) (behind e m) (sym k))) in
      ap (λ (t : Bool). added key cmp x (cond t (y ∷ filter p ys) (filter p ys))) not
      ∙ added_first x (filter p ys) (λ e m. behind e (left_in p ys e m))
      ∙ ap (λ (z : E). z ∷ filter p ys) same
      ∙ ap (λ (zs : List E). y ∷ zs) (sym rest)
      ∙ sym (ap (λ (t : Bool). cond t (y ∷ filter q ys) (filter q ys)) yes)
  next_added p q (y ∷ ys) x s (inr i) h =
      let less = first_below y ys x s i in
      let both : q y ≡ p y = h.others y (inl refl) (not_same (key y) (key x) less) in
      next_by p q y ys x (p y) refl both less (next_added p q ys x (rest_sorted key cmp o y ys s) i (rest_more p q y ys x h))
      ∙ sym (ap (λ (t : Bool). cond t (y ∷ filter q ys) (filter q ys)) both)

  module _ (eq : K → K → Bool) (sure : (a b : K) → eq a b ≡ true → a ≡ b) where
    new_by : (p : E → Bool) (xs : List E) (x y : E) (t : Bool) → eq (key y) (key x) ≡ t → IsSorted xs → IsIn x xs → p x ≡ false → IsIn y (filter p xs) → t ≡ false
    new_by p xs x y false e s i h m = refl
    new_by p xs x y true e s i h m =
        let same : y ≡ x = one_of_key xs y x s (left_in p xs y m) i (sure (key y) (key x) e) in
        let yes : p x ≡ true = subst (λ (z : E). p z ≡ true) same (left_passes p xs y m) in
        absurd (cc)

    -- and no key among what passes the first is that of the element
    pub next_new : (p : E → Bool) (xs : List E) (x : E) → IsSorted xs → IsIn x xs → p x ≡ false → has_key key eq (key x) (filter p xs) ≡ false
    next_new p xs x s i h = none_passes (λ (e : E). eq (key e) (key x)) (filter p xs) (λ y m. new_by p xs x y (eq (key y) (key x)) refl s i h m)
