-- What is picked out of a list in the order of its keys, and what the change of one element makes of it.
use Rattle.std.proofs.Common.{◌≡◌, ℕ, ◌+◌, ◌<◌, ◌≤◌, Bool, true, false, not, cond, List, [], ◌∷◌, ◌++◌, length, drop, Option, Some, None, refl, ap, sym, ◌∙◌, subst, arith, nat_eq, inl, inr, All}
use Rattle.std.specs.List.{filter, filter_map, cons_option, insert, count_by}
use Rattle.std.specs.Ordering.{nat_cmp, is_lt}
use Rattle.std.proofs.Math.Seq.{take-append_seam, drop-append_seam}
use Rattle.std.proofs.lemmas.Bool.{cases_Bool, eqb-true, eq-eqb}
use Rattle.std.proofs.lemmas.Bool.Decides.{nat_tests}
use Rattle.std.proofs.lemmas.List.{append-nil, length-append}
use Rattle.std.proofs.lemmas.List.Elements.{All-nil, All-cons, All-head, All-tail, All-append, All-weaker, filter_map-append, filter-append}
use Rattle.std.proofs.lemmas.List.Folds.{list_any_none}
use Rattle.std.proofs.lemmas.List.Sums.{sum_by-cons, sum_by-append}
use Rattle.wm_base.proofs.Tests.{eqb-lt}
use Rattle.wm_base.proofs.Lists.{length-cons_option}
use Rattle.wm_desc.specs.Sorted.{has_key, place_of, added, removed}

pub differs : (a b : ℕ) → (a ≡ b → ⊥) → nat_eq a b ≡ false
differs a b ne = elim (cases_Bool (nat_eq a b)) [ inl e ↦ absurd (ne (eqb-true a b e)) | inr e ↦ e ]

pub higher_differs : (a b : ℕ) → b < a → nat_eq a b ≡ false
higher_differs a b lt = differs a b (λ e. omega arith)

lower_is_lt : (a b : ℕ) → a < b → is_lt (nat_cmp a b) ≡ true
lower_is_lt a b lt = grind (arith, nat_tests)

higher_is_lt : (a b : ℕ) → b < a → is_lt (nat_cmp a b) ≡ false
higher_is_lt a b lt = grind (arith, nat_tests)

module _ {E : Type 0} where
  pub filter-whole : (p : E → Bool) (es : List E) → All (λ e. p e ≡ true) es → filter p es ≡ es
  filter-whole p [] all = refl
  filter-whole p (e ∷ es) all = rw (All-head (λ x. p x ≡ true) e es all) (ap (λ l. e ∷ l) (filter-whole p es (All-tail (λ x. p x ≡ true) e es all)))

  count-whole : (p : E → Bool) (es : List E) → All (λ e. p e ≡ true) es → count_by p es ≡ length es
  count-whole p [] all = refl
  count-whole p (e ∷ es) all =
      rw (sum_by-cons (λ x. cond (p x) 1 0) e es, All-head (λ x. p x ≡ true) e es all, count-whole p es (All-tail (λ x. p x ≡ true) e es all)) (omega arith)

  count-none : (p : E → Bool) (es : List E) → All (λ e. p e ≡ false) es → count_by p es ≡ 0
  count-none p [] all = refl
  count-none p (e ∷ es) all =
      rw (sum_by-cons (λ x. cond (p x) 1 0) e es, All-head (λ x. p x ≡ false) e es all, count-none p es (All-tail (λ x. p x ≡ false) e es all)) refl

  pub count-append : (p : E → Bool) (a b : List E) → count_by p (a ++ b) ≡ count_by p a + count_by p b
  count-append p a b = sum_by-append (λ x. cond (p x) 1 0) a b

  pub count-cons : (p : E → Bool) (x : E) (b : List E) → count_by p (x ∷ b) ≡ cond (p x) 1 0 + count_by p b
  count-cons p x b = sum_by-cons (λ y. cond (p y) 1 0) x b

-- elements of lesser keys than s, and of greater
module _ {E : Type 0} (key : E → ℕ) (s : ℕ) (a b : List E) (lower : All (λ e. key e < s) a) (higher : All (λ e. s < key e) b) where
  place : place_of key nat_cmp s (a ++ b) ≡ length a
  place =
      let whole : count_by (λ e. is_lt (nat_cmp (key e) s)) a ≡ length a = count-whole (λ e. is_lt (nat_cmp (key e) s)) a (All-weaker (λ e. key e < s) (λ e. is_lt (nat_cmp (key e) s) ≡ true) (λ e lt. lower_is_lt (key e) s lt) a lower) in
      let none : count_by (λ e. is_lt (nat_cmp (key e) s)) b ≡ 0 = count-none (λ e. is_lt (nat_cmp (key e) s)) b (All-weaker (λ e. s < key e) (λ e. is_lt (nat_cmp (key e) s) ≡ false) (λ e lt. higher_is_lt (key e) s lt) b higher) in
      rw (count-append (λ e. is_lt (nat_cmp (key e) s)) a b, whole, none) (omega arith)

  -- an element of that key goes between them
  pub added-between : (e : E) → key e ≡ s → added key nat_cmp e (a ++ b) ≡ a ++ e ∷ b
  added-between e same =
      ap (λ k. insert (a ++ b) (place_of key nat_cmp k (a ++ b)) e) same
      ∙ (ap (λ n. insert (a ++ b) n e) place
      ∙ (ap (λ l. l ++ e ∷ drop (length a) (a ++ b)) (take-append_seam a b) ∙ ap (λ l. a ++ e ∷ l) (drop-append_seam a b)))

  -- none has that key
  pub lacks : has_key key nat_eq s (a ++ b) ≡ false
  lacks =
      list_any_none (λ e. nat_eq (key e) s) (a ++ b) (All-append (λ e. nat_eq (key e) s ≡ false) a b
      (All-weaker (λ e. key e < s) (λ e. nat_eq (key e) s ≡ false) (λ e lt. eqb-lt (key e) s lt) a lower)
      (All-weaker (λ e. s < key e) (λ e. nat_eq (key e) s ≡ false) (λ e lt. higher_differs (key e) s lt) b higher))

  kept_lower : filter (λ e. not (nat_eq (key e) s)) a ≡ a
  kept_lower = filter-whole (λ e. not (nat_eq (key e) s)) a (All-weaker (λ e. key e < s) (λ e. not (nat_eq (key e) s) ≡ true) (λ e lt. ap not (eqb-lt (key e) s lt)) a lower)

  kept_higher : filter (λ e. not (nat_eq (key e) s)) b ≡ b
  kept_higher = filter-whole (λ e. not (nat_eq (key e) s)) b (All-weaker (λ e. s < key e) (λ e. not (nat_eq (key e) s) ≡ true) (λ e lt. ap not (higher_differs (key e) s lt)) b higher)

  pub removed-none : removed key nat_eq s (a ++ b) ≡ a ++ b
  removed-none = filter-append (λ e. not (nat_eq (key e) s)) a b ∙ (ap (λ l. l ++ filter (λ e. not (nat_eq (key e) s)) b) kept_lower ∙ ap (λ l. a ++ l) kept_higher)

  pub removed-between : (e : E) → key e ≡ s → removed key nat_eq s (a ++ e ∷ b) ≡ a ++ b
  removed-between e same =
      let gone : filter (λ x. not (nat_eq (key x) s)) (e ∷ b) ≡ filter (λ x. not (nat_eq (key x) s)) b = ap (λ t. cond (not t) (e ∷ filter (λ x. not (nat_eq (key x) s)) b) (filter (λ x. not (nat_eq (key x) s)) b)) (eq-eqb (key e) s same) in
      filter-append (λ x. not (nat_eq (key x) s)) a (e ∷ b) ∙ (ap (λ l. l ++ filter (λ x. not (nat_eq (key x) s)) (e ∷ b)) kept_lower ∙ (ap (λ l. a ++ l) gone ∙ ap (λ l. a ++ l) kept_higher))

-- no more are picked than there are
pub picked-few : {X E : Type 0} (pick : X → Option E) (xs : List X) → length (filter_map pick xs) ≤ length xs
picked-few pick [] = omega arith
picked-few pick (x ∷ xs) = length-cons_option (pick x) (filter_map pick xs) (length xs) (picked-few pick xs)

keys-cons : {E : Type 0} (P : E → Type 0) (o : Option E) (es : List E) → ((e : E) → o ≡ Some e → P e) → All P es → All P (cons_option o es)
keys-cons P None es h all = all
keys-cons P (Some e) es h all = All-cons P e es (h e refl) all

-- what is picked keeps the key of the element that it comes from
module _ {X E : Type 0} (serial : X → ℕ) (pick : X → Option E) (key : E → ℕ) (keyed : (x : X) (e : E) → pick x ≡ Some e → key e ≡ serial x) where
  -- what holds of all keys there holds of those of what is picked
  pub picked-keys : (P : ℕ → Type 0) (xs : List X) → All (λ x. P (serial x)) xs → All (λ e. P (key e)) (filter_map pick xs)
  picked-keys P [] all = All-nil (λ e. P (key e))
  picked-keys P (x ∷ xs) all =
      keys-cons (λ e. P (key e)) (pick x) (filter_map pick xs) (λ e is. subst P (sym (keyed x e is)) (All-head (λ y. P (serial y)) x xs all)) (picked-keys P xs (All-tail (λ y. P (serial y)) x xs all))

  -- what is picked, around an element
  pub picked-parts : (l r : List X) (x : X) (o : Option E) → pick x ≡ o → filter_map pick (l ++ x ∷ r) ≡ filter_map pick l ++ cons_option o (filter_map pick r)
  picked-parts l r x o is = filter_map-append pick l (x ∷ r) ∙ ap (λ q. filter_map pick l ++ cons_option q (filter_map pick r)) is

  module _ (s : ℕ) (l r : List X) (lower : All (λ x. serial x < s) l) (higher : All (λ x. s < serial x) r) where
    picked_lower : All (λ e. key e < s) (filter_map pick l)
    picked_lower = picked-keys (λ k. k < s) l lower

    picked_higher : All (λ e. s < key e) (filter_map pick r)
    picked_higher = picked-keys (λ k. s < k) r higher

    -- nothing of that key is picked where the element there isn't
    pub picked-lacks : (x : X) → pick x ≡ None → has_key key nat_eq s (filter_map pick (l ++ x ∷ r)) ≡ false
    picked-lacks x none = ap (λ es. has_key key nat_eq s es) (picked-parts l r x None none) ∙ lacks key s (filter_map pick l) (filter_map pick r) picked_lower picked_higher

    -- the element there is picked now
    pub picked-comes : (x y : X) (e : E) → pick x ≡ None → pick y ≡ Some e → serial y ≡ s → added key nat_cmp e (filter_map pick (l ++ x ∷ r)) ≡ filter_map pick (l ++ y ∷ r)
    picked-comes x y e none is same =
        ap (λ es. added key nat_cmp e es) (picked-parts l r x None none)
        ∙ (added-between key s (filter_map pick l) (filter_map pick r) picked_lower picked_higher e (keyed y e is ∙ same)
        ∙ sym (picked-parts l r y (Some e) is))

    gone : (x y : X) (o : Option E) → pick x ≡ o → serial x ≡ s → pick y ≡ None → removed key nat_eq s (filter_map pick (l ++ x ∷ r)) ≡ filter_map pick (l ++ y ∷ r)
    gone x y None is same none =
        ap (λ es. removed key nat_eq s es) (picked-parts l r x None is)
        ∙ (removed-none key s (filter_map pick l) (filter_map pick r) picked_lower picked_higher ∙ sym (picked-parts l r y None none))
    gone x y (Some e) is same none =
        ap (λ es. removed key nat_eq s es) (picked-parts l r x (Some e) is)
        ∙ (removed-between key s (filter_map pick l) (filter_map pick r) picked_lower picked_higher e (keyed x e is ∙ same) ∙ sym (picked-parts l r y None none))

    -- the element there is picked no more
    pub picked-goes : (x y : X) → serial x ≡ s → pick y ≡ None → removed key nat_eq s (filter_map pick (l ++ x ∷ r)) ≡ filter_map pick (l ++ y ∷ r)
    picked-goes x y same none = gone x y (pick x) refl same none

  -- an element behind all others, which have lesser keys
  module _ (s : ℕ) (xs : List X) (lower : All (λ x. serial x < s) xs) where
    behind : (es : List E) → es ++ [] ≡ es
    behind es = append-nil es

    pub pushed-lacks : has_key key nat_eq s (filter_map pick xs) ≡ false
    pushed-lacks = ap (λ es. has_key key nat_eq s es) (sym (behind (filter_map pick xs))) ∙ lacks key s (filter_map pick xs) [] (picked-keys (λ k. k < s) xs lower) (All-nil (λ e. s < key e))

    pub pushed-comes : (x : X) (e : E) → pick x ≡ Some e → serial x ≡ s → added key nat_cmp e (filter_map pick xs) ≡ filter_map pick (xs ++ x ∷ [])
    pushed-comes x e is same =
        ap (λ es. added key nat_cmp e es) (sym (behind (filter_map pick xs)))
        ∙ (added-between key s (filter_map pick xs) [] (picked-keys (λ k. k < s) xs lower) (All-nil (λ y. s < key y)) e (keyed x e is ∙ same) ∙ sym (picked-parts xs [] x (Some e) is))

  pub pushed-same : (xs : List X) (x : X) → pick x ≡ None → filter_map pick xs ≡ filter_map pick (xs ++ x ∷ [])
  pushed-same xs x none = sym (picked-parts xs [] x None none ∙ append-nil (filter_map pick xs))

  pub picked-length : (l r : List X) (x : X) (o : Option E) → pick x ≡ o → length (filter_map pick (l ++ x ∷ r)) ≡ length (filter_map pick l) + length (cons_option o (filter_map pick r))
  picked-length l r x o is = ap length (picked-parts l r x o is) ∙ length-append (filter_map pick l) (cons_option o (filter_map pick r))

  -- it is picked as it was
  pub picked-same : (l r : List X) (x y : X) → pick x ≡ pick y → filter_map pick (l ++ x ∷ r) ≡ filter_map pick (l ++ y ∷ r)
  picked-same l r x y same = picked-parts l r x (pick y) same ∙ sym (picked-parts l r y (pick y) refl)
