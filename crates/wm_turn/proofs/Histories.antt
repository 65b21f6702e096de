-- Lemmas on histories, the entries of one pass in them, and counts of views.
use Rattle.std.proofs.Common.{◌≡◌, ℕ, zero, suc, ◌+◌, ◌<◌, ◌≤◌, ◌≢◌, Bool, true, false, cond, leb, ◌==◌, if◌then◌else◌, List, [], ◌∷◌, ◌++◌, length, set, sym, refl, ap, ◌∙◌, arith, append_assoc, append-nil, length-append, bit_or, eq-eqb, ne_eqb}
use Rattle.std.proofs.lemmas.List.Elements.{filter-append}
use mathlib.Core.Option.{some, some-injective, some-ne-none}
use lib.ListN.{get_elem?}
use borrow.Author.Tests.{leb-true, leb-false}
use Rattle.wm_turn.specs.Passed.{StartsWith, longer, own}
use Rattle.wm_turn.specs.Rule.{how_many}

module _ {E : Type 0} where
  pub starts_itself : (l : List E) → StartsWith l l
  starts_itself l = ([], sym (append-nil l))

  pub starts_more : (l more front : List E) → StartsWith l front → StartsWith (l ++ more) front
  starts_more l more front s = (s.0 ++ more, ap (λ z. z ++ more) s.1 ∙ append_assoc front s.0 more)

  pub starts_again : (a b c : List E) → StartsWith a b → StartsWith b c → StartsWith a c
  starts_again a b c s t = (t.0 ++ s.0, s.1 ∙ (ap (λ z. z ++ s.0) t.1 ∙ append_assoc c t.0 s.0))

  abbrev first_or : E → List E → E
  first_or d [] = d
  first_or d (x ∷ xs) = x

  abbrev others : List E → List E
  others [] = []
  others (x ∷ xs) = xs

  -- of two fronts of one list the longer begins with the shorter
  shorter : (a b r q : List E) → a ++ r ≡ b ++ q → length a ≤ length b → StartsWith b a
  shorter [] b r q e le = (b, refl)
  shorter (x ∷ a) [] r q e le = absurd (omega arith)
  shorter (x ∷ a) (y ∷ b) r q e le = let t = shorter a b r q (ap others e) (omega arith) in (t.0, λ i. sym (ap (first_or x) e) i ∷ t.1 i)

  pub fronts : (l a b : List E) → StartsWith l a → StartsWith l b → length a ≤ length b → StartsWith b a
  fronts l a b s t = shorter a b s.0 t.0 (sym s.1 ∙ t.1)

  pub nothing : (l : List E) → length l ≡ 0 → l ≡ []
  nothing [] e = refl
  nothing (x ∷ xs) e = absurd (omega arith)

  picked : (P : List E → Type 0) (a b : List E) → (length a ≤ length b → P b) → (length b ≤ length a → P a) → (z : Bool) → leb (length a) (length b) ≡ z → P (if z then b else a)
  picked P a b f g true e = f (leb-true (length a) (length b) e)
  picked P a b f g false e = let gt = leb-false (length a) (length b) e in g (omega arith)

  pub longer_is : (P : List E → Type 0) (a b : List E) → (length a ≤ length b → P b) → (length b ≤ length a → P a) → P (longer a b)
  longer_is P a b f g = picked P a b f g (leb (length a) (length b)) refl

  pub longer_of : (l a b : List E) → StartsWith l a → StartsWith l b → StartsWith l (longer a b) × StartsWith (longer a b) a × StartsWith (longer a b) b
  longer_of l a b s t = longer_is (λ z. StartsWith l z × StartsWith z a × StartsWith z b) a b
      (λ le. (t, fronts l a b s t le, starts_itself b)) (λ le. (s, starts_itself a, fronts l b a t s le))

  -- of two fronts, of which one is all, the longer is all
  pub longer_whole : (l a b : List E) → StartsWith l a → StartsWith l b → (a ≡ l) → longer a b ≡ l
  longer_whole l a b s t e = longer_is (λ z. z ≡ l) a b
      (λ le. let r : List E = t.0 in let long : length l ≡ length b + length r = ap length t.1 ∙ length-append b r in let same : length a ≡ length l = ap length e in
      let empty : length r ≡ 0 = omega arith in sym (t.1 ∙ (ap (λ z. b ++ z) (nothing r empty) ∙ append-nil b))) (λ le. e)

  pub longer_whole_too : (l a b : List E) → StartsWith l a → StartsWith l b → (b ≡ l) → longer a b ≡ l
  longer_whole_too l a b s t e = longer_is (λ z. z ≡ l) a b (λ le. e)
      (λ le. let r : List E = s.0 in let long : length l ≡ length a + length r = ap length s.1 ∙ length-append a r in let same : length b ≡ length l = ap length e in
      let empty : length r ≡ 0 = omega arith in sym (s.1 ∙ (ap (λ z. a ++ z) (nothing r empty) ∙ append-nil a)))

  module _ (by : E → ℕ) where
    pub own_more : (n : ℕ) (l more : List E) → own by n (l ++ more) ≡ own by n l ++ own by n more
    own_more n l more = filter-append (λ (e : E). by e == n) l more

    pub own_none : (n : ℕ) (l more : List E) → own by n more ≡ [] → own by n (l ++ more) ≡ own by n l
    own_none n l more e = own_more n l more ∙ (ap (λ z. own by n l ++ z) e ∙ append-nil (own by n l))

    pub own_here : (n : ℕ) (e : E) → by e ≡ n → own by n (e ∷ []) ≡ e ∷ []
    own_here n e is = ap (λ (b : Bool). cond b (e ∷ []) []) (eq-eqb (by e) n is)

    pub own_else : (n : ℕ) (e : E) → by e ≢ n → own by n (e ∷ []) ≡ []
    own_else n e is = ap (λ (b : Bool). cond b (e ∷ []) []) (ne_eqb (by e) n is)

    pub own_fewer : (n : ℕ) (l front : List E) → StartsWith l front → own by n l ≡ [] → own by n front ≡ []
    own_fewer n l front s empty = let long : length (own by n l) ≡ length (own by n front) + length (own by n s.0) = ap (λ z. length (own by n z)) s.1 ∙ (ap length (own_more n front s.0) ∙ length-append (own by n front) (own by n s.0)) in
        let z : length (own by n l) ≡ 0 = ap length empty in nothing (own by n front) (omega arith)

    -- what a list and one of its fronts have alike, each list between them has, too
    pub own_between : (n : ℕ) (l middle front : List E) → StartsWith l middle → StartsWith middle front → own by n front ≡ own by n l → own by n front ≡ own by n middle
    own_between n l middle front s t same =
        let a : length (own by n l) ≡ length (own by n middle) + length (own by n s.0) = ap (λ z. length (own by n z)) s.1 ∙ (ap length (own_more n middle s.0) ∙ length-append (own by n middle) (own by n s.0)) in
        let b : length (own by n middle) ≡ length (own by n front) + length (own by n t.0) = ap (λ z. length (own by n z)) t.1 ∙ (ap length (own_more n front t.0) ∙ length-append (own by n front) (own by n t.0)) in
        let c : length (own by n front) ≡ length (own by n l) = ap length same in
        let empty : length (own by n t.0) ≡ 0 = omega arith in
        sym (ap (λ z. own by n z) t.1 ∙ own_none n front t.0 (nothing (own by n t.0) empty))

module _ {A : Type 0} where
  pub at_inside : (l : List A) (i : ℕ) (a : A) → get_elem? l i ≡ some a → i < length l
  at_inside [] i a e = absurd (some-ne-none a (sym e))
  at_inside (x ∷ xs) zero a e = omega arith
  at_inside (x ∷ xs) (suc i) a e = let h = at_inside xs i a e in omega arith

  pub inside_at : (l : List A) (i : ℕ) → i < length l → (a : A) × (get_elem? l i ≡ some a)
  inside_at [] i h = absurd (omega arith)
  inside_at (x ∷ xs) zero h = (x, refl)
  inside_at (x ∷ xs) (suc i) h = inside_at xs i (omega arith)

  pub same_at : (l : List A) (i : ℕ) (a b : A) → get_elem? l i ≡ some a → get_elem? l i ≡ some b → a ≡ b
  same_at l i a b e f = some-injective a b (sym e ∙ f)

  module _ (test : A → Bool) where
    abbrev one : A → ℕ
    one a = cond (test a) 1 0

    is_one : (x a : A) → x ≡ a → test a ≡ true → one x ≡ 1
    is_one x a e t = ap one e ∙ ap (λ (b : Bool). cond b 1 0) t

    one_most : (b : Bool) → cond b 1 0 ≤ 1
    one_most true = omega arith
    one_most false = omega arith

    pub how_many_set : (l : List A) (i : ℕ) (a b : A) → get_elem? l i ≡ some a → how_many test (set l i b) + cond (test a) 1 0 ≡ how_many test l + cond (test b) 1 0
    how_many_set [] i a b e = absurd (some-ne-none a (sym e))
    how_many_set (x ∷ xs) zero a b e = omega (arith, ap one (some-injective x a e))
    how_many_set (x ∷ xs) (suc i) a b e = let h = how_many_set xs i a b e in
        let p : ℕ = cond (test x) 1 0 in let q : ℕ = cond (test a) 1 0 in let r : ℕ = cond (test b) 1 0 in omega arith

    pub how_many_snoc : (l : List A) (a : A) → how_many test (l ++ a ∷ []) ≡ how_many test l + cond (test a) 1 0
    how_many_snoc [] a = let p : ℕ = cond (test a) 1 0 in omega arith
    how_many_snoc (x ∷ xs) a = let h = how_many_snoc xs a in let p : ℕ = cond (test a) 1 0 in let q : ℕ = cond (test x) 1 0 in omega arith

    pub how_many_most : (l : List A) → how_many test l ≤ length l
    how_many_most [] = omega arith
    how_many_most (x ∷ xs) = let h = how_many_most xs in let p : cond (test x) 1 0 ≤ 1 = one_most (test x) in omega arith

    pub how_many_some : (l : List A) (i : ℕ) (a : A) → get_elem? l i ≡ some a → test a ≡ true → 1 ≤ how_many test l
    how_many_some [] i a e t = absurd (some-ne-none a (sym e))
    how_many_some (x ∷ xs) zero a e t = omega (arith, is_one x a (some-injective x a e) t)
    how_many_some (x ∷ xs) (suc i) a e t = let h = how_many_some xs i a e t in omega arith

    -- where one alone passes, it is that one
    pub how_many_one : (l : List A) (i j : ℕ) (a b : A) → how_many test l ≤ 1 → get_elem? l i ≡ some a → test a ≡ true → get_elem? l j ≡ some b → test b ≡ true → i ≡ j
    how_many_one [] i j a b one e t f u = absurd (some-ne-none a (sym e))
    how_many_one (x ∷ xs) zero zero a b one e t f u = refl
    how_many_one (x ∷ xs) zero (suc j) a b one e t f u = absurd (omega (arith, is_one x a (some-injective x a e) t, how_many_some xs j b f u))
    how_many_one (x ∷ xs) (suc i) zero a b one e t f u = absurd (omega (arith, is_one x b (some-injective x b f) u, how_many_some xs i a e t))
    how_many_one (x ∷ xs) (suc i) (suc j) a b one e t f u = ap suc (how_many_one xs i j a b (omega arith) e t f u)

pub or_one : (n : ℕ) → n ≤ 1 → bit_or n 1 ≡ 1
or_one zero h = refl
or_one (suc zero) h = refl
or_one (suc (suc n)) h = absurd (omega arith)
