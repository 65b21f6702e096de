-- Keys of a list that stay distinct where one element more comes or some go.
use Rattle.std.proofs.Common.{◌≡◌, ◌⊎◌, ℕ, zero, suc, ◌++◌, Bool, true, false, cond, List, [], ◌∷◌, map, filter, sym, ap, subst, ◌∙◌, inl, inr}
use Rattle.std.specs.List.{insert}
use Rattle.wm_law.specs.Kept.{IsDistinct}
use Rattle.wm_law.specs.Laws.{IsIn}
use Rattle.wm_law.proofs.Members.{in_mapped}

not_last : {X A : Type 0} (key : X → A) (y : X) (xs : List X) (k : A) → (key y ≡ k → ⊥) → (IsIn k (map key xs) → ⊥) → IsIn k (map key (xs ++ y ∷ [])) → ⊥
not_last key y [] k h n (inl e) = h (sym e)
not_last key y [] k h n (inr i) = i
not_last key y (x ∷ xs) k h n (inl e) = n (inl e)
not_last key y (x ∷ xs) k h n (inr i) = not_last key y xs k h (λ m. n (inr m)) i

-- a key that no element has comes last
pub distinct_last : {X A : Type 0} (key : X → A) (y : X) (xs : List X) → (IsIn (key y) (map key xs) → ⊥) → IsDistinct (map key xs) → IsDistinct (map key (xs ++ y ∷ []))
distinct_last key y [] n d = ((λ i. i), tt)
distinct_last key y (x ∷ xs) n d = (not_last key y xs (key x) (λ e. n (inl e)) d.0, distinct_last key y xs (λ i. n (inr i)) d.1)

in_more : {X A : Type 0} (key : X → A) (t : Bool) (x : X) (ys xs : List X) (k : A) → (IsIn k (map key ys) → IsIn k (map key xs)) → IsIn k (map key (cond t (x ∷ ys) ys)) → IsIn k (map key (x ∷ xs))
in_more key true x ys xs k h (inl e) = inl e
in_more key true x ys xs k h (inr i) = inr (h i)
in_more key false x ys xs k h i = inr (h i)

-- what a filter leaves stood in the list
left_in : {X A : Type 0} (key : X → A) (p : X → Bool) (xs : List X) (k : A) → IsIn k (map key (filter p xs)) → IsIn k (map key xs)
left_in key p [] k i = i
left_in key p (x ∷ xs) k i = in_more key (p x) x (filter p xs) xs k (left_in key p xs k) i

distinct_more : {X A : Type 0} (key : X → A) (t : Bool) (x : X) (ys : List X) → (IsIn (key x) (map key ys) → ⊥) → IsDistinct (map key ys) → IsDistinct (map key (cond t (x ∷ ys) ys))
distinct_more key true x ys n d = (n, d)
distinct_more key false x ys n d = d

-- what a filter leaves has distinct keys
pub distinct_left : {X A : Type 0} (key : X → A) (p : X → Bool) (xs : List X) → IsDistinct (map key xs) → IsDistinct (map key (filter p xs))
distinct_left key p [] d = d
distinct_left key p (x ∷ xs) d = distinct_more key (p x) x (filter p xs) (λ i. d.0 (left_in key p xs (key x) i)) (distinct_left key p xs d.1)

key_inserted : {X A : Type 0} (key : X → A) (xs : List X) (i : ℕ) (x : X) (k : A) → IsIn k (map key (insert xs i x)) → (k ≡ key x) ⊎ IsIn k (map key xs)
key_inserted key xs zero x k (inl e) = inl e
key_inserted key xs zero x k (inr m) = inr m
key_inserted key [] (suc i) x k (inl e) = inl e
key_inserted key [] (suc i) x k (inr m) = absurd m
key_inserted key (y ∷ xs) (suc i) x k (inl e) = inr (inl e)
key_inserted key (y ∷ xs) (suc i) x k (inr m) = elim (key_inserted key xs i x k m) as (λ _. (k ≡ key x) ⊎ IsIn k (map key (y ∷ xs))) [ inl e ↦ inl e | inr n ↦ inr (inr n) ]

-- a key that no element has comes in between
pub distinct_inserted : {X A : Type 0} (key : X → A) (xs : List X) (i : ℕ) (x : X) → (IsIn (key x) (map key xs) → ⊥) → IsDistinct (map key xs) → IsDistinct (map key (insert xs i x))
distinct_inserted key xs zero x n d = (n, d)
distinct_inserted key [] (suc i) x n d = (n, d)
distinct_inserted key (y ∷ xs) (suc i) x n d = (
  λ m. (elim (key_inserted key xs i x (key y) m) as (λ _. ⊥) [ inl e ↦ n (inl (sym e)) | inr k ↦ d.0 k ]),
  distinct_inserted key xs i x (λ m. n (inr m)) d.1,
)

-- two elements of one key are one, where no key stands twice
pub one_by_key : {X A : Type 0} (key : X → A) (xs : List X) → IsDistinct (map key xs) → (x y : X) → IsIn x xs → IsIn y xs → key x ≡ key y → x ≡ y
one_by_key key [] d x y i k e = absurd i
one_by_key {A = A} key (z ∷ xs) d x y (inl a) (inl b) e = a ∙ sym b
one_by_key {A = A} key (z ∷ xs) d x y (inl a) (inr k) e = absurd (d.0 (subst (λ (n : A). IsIn n (map key xs)) (sym e ∙ ap key a) (in_mapped key xs y k)))
one_by_key {A = A} key (z ∷ xs) d x y (inr i) (inl b) e = absurd (d.0 (subst (λ (n : A). IsIn n (map key xs)) (e ∙ ap key b) (in_mapped key xs x i)))
one_by_key key (z ∷ xs) d x y (inr i) (inr k) e = one_by_key key xs d.1 x y i k e
