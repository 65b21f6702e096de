-- Which numbers are used, with one more.
use Rattle.std.proofs.Common.{◌≡◌, ℕ, ◌||◌, ◌++◌, ◌∷◌, Bool, true, false, List, [], take, drop, insert, refl, sym, ap, ◌∙◌}
use Rattle.std.specs.List.{list_any}
use Rattle.std.proofs.lemmas.List.{take-append-drop}
use Rattle.std.proofs.lemmas.List.Folds.{list_any-append}

swap : (a b c : Bool) → (a || (b || c)) ≡ (b || (a || c))
swap true true c = refl
swap true false c = refl
swap false true c = refl
swap false false c = refl

pub list_any-insert : {X : Type 0} (p : X → Bool) (xs : List X) (i : ℕ) (x : X) → list_any p (insert xs i x) ≡ (p x || list_any p xs)
list_any-insert p xs i x =
    list_any-append p (take i xs) (x ∷ drop i xs)
    ∙ (swap (list_any p (take i xs)) (p x) (list_any p (drop i xs))
    ∙ ap (λ b. p x || b) (sym (list_any-append p (take i xs) (drop i xs)) ∙ ap (list_any p) (take-append-drop i xs)))

behind : (a b : Bool) → (b || (a || false)) ≡ (a || b)
behind true true = refl
behind true false = refl
behind false true = refl
behind false false = refl

pub list_any-pushed : {X : Type 0} (p : X → Bool) (xs : List X) (x : X) → list_any p (xs ++ x ∷ []) ≡ (p x || list_any p xs)
list_any-pushed p xs x = list_any-append p xs (x ∷ []) ∙ behind (p x) (list_any p xs)
