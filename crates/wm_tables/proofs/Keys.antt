-- The keys of rows tell apart what they are the keys of.
use Rattle.std.proofs.Common.{◌≡◌, ℕ, suc, ◌^◌, ◌<◌, ◌++◌, Bool, true, false, List, [], ◌∷◌, codes, refl, sym, ap, subst, ◌∙◌, inl, inr, append_assoc, arith}
use Rattle.std.specs.Cmp.Lexicographic.{slice_cmp}
use Rattle.std.specs.List.{list_all}
use Rattle.std.specs.Ordering.{nat_cmp}
use Rattle.std.specs.declared.cmp.Ordering.TheVariants.{Less, Equal}
use Rattle.std.proofs.lemmas.Bool.{and_parts, cases_lt}
use Rattle.std.proofs.lemmas.Cmp.{nat_list_cmp_total, tied_itself}
use Rattle.wm_base.specs.Name.{IsName, continues_name}
use Rattle.wm_base.specs.Number.{zero_padded}
use Rattle.wm_base.specs.QName.{qname_text}
use Rattle.wm_base.specs.declared.qname.QName.{QName}
use Rattle.wm_law.specs.Fit.{IsQName}
use Rattle.wm_law.specs.Laws.{IsIn}
use Rattle.wm_tables.proofs.Digits.{padded_less}
use Rattle.wm_tables.proofs.Passing.{of_parts}

-- no byte is this one
abbrev IsFree : ℕ → List ℕ → Type 0
IsFree c bytes = (b : ℕ) → IsIn b bytes → b ≡ c → ⊥

each_passes : (p : ℕ → Bool) (bytes : List ℕ) (b : ℕ) → list_all p bytes ≡ true → IsIn b bytes → p b ≡ true
each_passes p [] b h i = absurd i
each_passes p (x ∷ bytes) b h (inl same) = ap p same ∙ (and_parts (p x) (list_all p bytes) h).0
each_passes p (x ∷ bytes) b h (inr i) = each_passes p bytes b (and_parts (p x) (list_all p bytes) h).1 i

-- a byte that continues no name stands in none
name_free : (c : ℕ) (name : List ℕ) → continues_name c ≡ false → IsName name → IsFree c name
name_free c name never h b i e =
    let all : list_all continues_name name ≡ true = (and_parts _ (list_all continues_name name) (and_parts _ _ h).0).1 in
    let yes : continues_name c ≡ true = subst (λ (x : ℕ). continues_name x ≡ true) e (each_passes continues_name name b all i) in
    absurd (cc)

free_both : (c : ℕ) (xs ys : List ℕ) → IsFree c xs → IsFree c ys → IsFree c (xs ++ ys)
free_both c xs ys h g b i e = elim (of_parts xs ys b i) as (λ _. ⊥) [ inl m ↦ h b m e | inr m ↦ g b m e ]

pub first_same : (a b : ℕ) (xs ys : List ℕ) → a ∷ xs ≡ b ∷ ys → a ≡ b
first_same a b xs ys e = cc

pub rest_same : (a b : ℕ) (xs ys : List ℕ) → a ∷ xs ≡ b ∷ ys → xs ≡ ys
rest_same a b xs ys e = cc

-- texts that are the same with this byte between have the same before it, and behind it
split_same : (c : ℕ) (xs ys us vs : List ℕ) → IsFree c xs → IsFree c ys → xs ++ c ∷ us ≡ ys ++ c ∷ vs → (xs ≡ ys) × (us ≡ vs)
split_same c [] [] us vs f g e = (refl, rest_same c c us vs e)
split_same c [] (y ∷ ys) us vs f g e = absurd (g y (inl refl) (sym (first_same c y us (ys ++ c ∷ vs) e)))
split_same c (x ∷ xs) [] us vs f g e = absurd (f x (inl refl) (first_same x c (xs ++ c ∷ us) vs e))
split_same c (x ∷ xs) (y ∷ ys) us vs f g e =
    let rest = split_same c xs ys us vs (λ b i. f b (inr i)) (λ b i. g b (inr i)) (rest_same x y (xs ++ c ∷ us) (ys ++ c ∷ vs) e) in
    (ap (λ (n : ℕ). n ∷ xs) (first_same x y (xs ++ c ∷ us) (ys ++ c ∷ vs) e) ∙ ap (λ (zs : List ℕ). y ∷ zs) rest.0, rest.1)

joined : (c : ℕ) (xs ys us vs : List ℕ) → (xs ++ c ∷ []) ++ us ≡ (ys ++ c ∷ []) ++ vs → xs ++ c ∷ us ≡ ys ++ c ∷ vs
joined c xs ys us vs e = sym (append_assoc xs (c ∷ []) us) ∙ e ∙ append_assoc ys (c ∷ []) vs

-- a qualified name by its text
pub one_text : (a b : QName) → IsQName a → IsQName b → qname_text a ≡ qname_text b → a ≡ b
one_text a b f g e =
    let parts = split_same 47 a.lib b.lib a.name b.name (name_free 47 a.lib refl f.lib) (name_free 47 b.lib refl g.lib) (joined 47 a.lib b.lib a.name b.name e) in
    let first : a ≡ record b { name = a.name } = ap (λ (l : List ℕ). record a { lib = l }) parts.0 in
    first ∙ ap (λ (n : List ℕ). record b { name = n }) parts.1

text_free : (q : QName) → IsQName q → IsFree 32 (qname_text q)
text_free q h =
    let slash : IsFree 32 (47 ∷ []) = λ b i e. (elim i as (λ _. ⊥) [ inl same ↦ absurd (omega arith) | inr none ↦ absurd none ]) in
    free_both 32 (q.lib ++ 47 ∷ []) q.name (free_both 32 q.lib (47 ∷ []) (name_free 32 q.lib refl h.lib) slash) (name_free 32 q.name refl h.name)

-- an entry by its subsystem description and what it is found by there
pub one_entry : (a b : QName) (x y : List ℕ) → IsQName a → IsQName b → qname_text a ++ codes " " ++ x ≡ qname_text b ++ codes " " ++ y → (a ≡ b) × (x ≡ y)
one_entry a b x y f g e =
    let parts = split_same 32 (qname_text a) (qname_text b) x y (text_free a f) (text_free b g) (joined 32 (qname_text a) (qname_text b) x y e) in
    (one_text a b f g parts.0, parts.1)

apart : (width a b : ℕ) → a < b → b < 2 ^ 64 → b < 10 ^ suc width → zero_padded (suc width) a ≡ zero_padded (suc width) b → ⊥
apart width a b less fits top e =
    let below : slice_cmp nat_cmp (zero_padded (suc width) b) (zero_padded (suc width) b) ≡ Less = subst (λ (ds : List ℕ). slice_cmp nat_cmp ds (zero_padded (suc width) b) ≡ Less) e (padded_less width a b less fits top) in
    let tied : slice_cmp nat_cmp (zero_padded (suc width) b) (zero_padded (suc width) b) ≡ Equal = tied_itself nat_list_cmp_total (zero_padded (suc width) b) in
    absurd (cc)

-- a number by its digits
pub one_number : (width a b : ℕ) → a < 2 ^ 64 → b < 2 ^ 64 → a < 10 ^ suc width → b < 10 ^ suc width → zero_padded (suc width) a ≡ zero_padded (suc width) b → a ≡ b
one_number width a b f g h k e =
    elim (cases_lt a b) [
      | inl less ↦ absurd (apart width a b less g k e)
      | inr back ↦ (elim (cases_lt b a) [
        | inl more ↦ absurd (apart width b a more f h (sym e))
        | inr on ↦ omega arith
      ])
    ]
