-- What is known of lines, one byte more.
use Rattle.std.proofs.Common.{◌≡◌, ℕ, ◌≤◌, ◌++◌, ◌&&◌, Bool, true, false, cond, List, [], ◌∷◌, length, take, eqb, ◌∙◌, ap, refl, arith}
use Rattle.std.proofs.lemmas.List.{length-take}
use Rattle.wm_clwords.specs.Lines.{is_blank, is_empty, start_trimmed, end_trimmed, without_cr, sign_byte, sign_of, kept_of}

pub is_empty-push : (l : List ℕ) (x : ℕ) → is_empty (l ++ x ∷ []) ≡ false
is_empty-push [] x = refl
is_empty-push (b ∷ l) x = refl

end_push : (c d : Bool) (l : List ℕ) (b x : ℕ) (t u : List ℕ) → u ≡ cond c t (l ++ x ∷ []) → cond (d && is_empty u) [] (b ∷ u) ≡ cond c (cond (d && is_empty t) [] (b ∷ t)) (b ∷ (l ++ x ∷ []))
end_push true d l b x t u e = rw e refl
end_push false true l b x t u e = rw (e, is_empty-push) refl
end_push false false l b x t u e = rw e refl

end_one : (c : Bool) (x : ℕ) → cond (c && true) [] (x ∷ []) ≡ cond c [] (x ∷ [])
end_one true x = refl
end_one false x = refl

pub end_trimmed-push : (l : List ℕ) (x : ℕ) → end_trimmed (l ++ x ∷ []) ≡ cond (is_blank x) (end_trimmed l) (l ++ x ∷ [])
end_trimmed-push [] x = end_one (is_blank x) x
end_trimmed-push (b ∷ l) x = end_push (is_blank x) (is_blank b) l b x (end_trimmed l) (end_trimmed (l ++ x ∷ [])) (end_trimmed-push l x)

start_push : (c : Bool) (b x : ℕ) (l s t : List ℕ) (d : Bool) → t ≡ cond (is_empty s && d) [] (s ++ x ∷ []) → cond c t (b ∷ (l ++ x ∷ [])) ≡ cond (is_empty (cond c s (b ∷ l)) && d) [] (cond c s (b ∷ l) ++ x ∷ [])
start_push true b x l s t d e = e
start_push false b x l s t d e = refl

start_one : (c : Bool) (x : ℕ) → cond c [] (x ∷ []) ≡ cond (true && c) [] (x ∷ [])
start_one c x = refl

pub start_trimmed-push : (l : List ℕ) (x : ℕ) → start_trimmed (l ++ x ∷ []) ≡ cond (is_empty (start_trimmed l) && is_blank x) [] (start_trimmed l ++ x ∷ [])
start_trimmed-push [] x = start_one (is_blank x) x
start_trimmed-push (b ∷ l) x = start_push (is_blank b) b x l (start_trimmed l) (start_trimmed (l ++ x ∷ [])) (is_blank x) (start_trimmed-push l x)

pub kept_of-push : (drops : Bool) (l : List ℕ) (x : ℕ) → kept_of drops (l ++ x ∷ []) ≡ cond (drops && is_empty (kept_of drops l) && is_blank x) [] (kept_of drops l ++ x ∷ [])
kept_of-push true l x = start_trimmed-push l x
kept_of-push false l x = refl

pub sign_of-push : (l : List ℕ) (x : ℕ) → sign_of (l ++ x ∷ []) ≡ sign_byte x
sign_of-push [] x = refl
sign_of-push (b ∷ []) x = refl
sign_of-push (b ∷ c ∷ l) x = sign_of-push (c ∷ l) x

pub without_cr-push : (l : List ℕ) (x : ℕ) → without_cr (l ++ x ∷ []) ≡ cond (eqb x 13) l (l ++ x ∷ [])
without_cr-push [] x = refl
without_cr-push (b ∷ []) x = push_one (eqb x 13)
  where
    push_one : (c : Bool) → b ∷ cond c [] (x ∷ []) ≡ cond c (b ∷ []) (b ∷ x ∷ [])
    push_one true = refl
    push_one false = refl
without_cr-push (b ∷ c ∷ l) x = ap (λ t. b ∷ t) (without_cr-push (c ∷ l) x) ∙ push_more (eqb x 13)
  where
    push_more : (d : Bool) → b ∷ cond d (c ∷ l) (c ∷ (l ++ x ∷ [])) ≡ cond d (b ∷ c ∷ l) (b ∷ c ∷ (l ++ x ∷ []))
    push_more true = refl
    push_more false = refl

-- a text is a front of what it was cut from
pub end_trimmed-take : (l : List ℕ) → take (length (end_trimmed l)) l ≡ end_trimmed l
end_trimmed-take [] = refl
end_trimmed-take (b ∷ l) = cut (is_blank b && is_empty (end_trimmed l)) (end_trimmed-take l)
  where
    cut : (c : Bool) → take (length (end_trimmed l)) l ≡ end_trimmed l → take (length (cond c [] (b ∷ end_trimmed l))) (b ∷ l) ≡ cond c [] (b ∷ end_trimmed l)
    cut true e = refl
    cut false e = ap (λ t. b ∷ t) e

pub length-end_trimmed : (l : List ℕ) → length (end_trimmed l) ≤ length l
length-end_trimmed l = omega (arith, ap length (end_trimmed-take l), length-take (length (end_trimmed l)) l)
