-- Laws of lists that grow.
use Rattle.std.proofs.Common.{◌≡◌, ◌<◌, List, [], ◌++◌, sym, ap, ◌∙◌, append_assoc, inl, inr, arith}
use Rattle.std.proofs.Math.Seq.{drop-append_seam}
use Rattle.std.proofs.lemmas.List.Elements.{Contains-append_left, Contains-append_right, Contains-append_cases}
use Rattle.wm_floor.specs.Lists.{since, Extends, IsAmong}

-- a list grows by what is put at its end
pub since-append : {A : Type 0} (old more : List A) → since old (old ++ more) ≡ more
since-append old more = drop-append_seam old more

-- what has grown twice has grown by both
pub since-then : {A : Type 0} (a b c : List A) → Extends a b → Extends b c → since a c ≡ since a b ++ since b c
since-then a b c ab bc =
    let whole : c ≡ a ++ (since a b ++ since b c) = bc ∙ (ap (λ xs. xs ++ since b c) ab ∙ append_assoc a (since a b) (since b c)) in
    ap (since a) whole ∙ since-append a (since a b ++ since b c)

pub Extends-then : {A : Type 0} (a b c : List A) → Extends a b → Extends b c → Extends a c
Extends-then a b c ab bc =
    bc ∙ (ap (λ xs. xs ++ since b c) ab ∙ (append_assoc a (since a b) (since b c) ∙ ap (λ xs. a ++ xs) (sym (since-then a b c ab bc))))

-- a list is among itself with more
pub IsAmong-front : {A : Type 0} (xs ys : List A) → IsAmong xs (xs ++ ys)
IsAmong-front xs ys x h = Contains-append_left xs ys x h

-- nothing is among any list
pub IsAmong-nil : {A : Type 0} (ys : List A) → IsAmong [] ys
IsAmong-nil ys x h = let none : h.0 < 0 = h.1 in absurd (omega arith)

-- what is among a list is so with the same behind both
pub IsAmong-more : {A : Type 0} (xs ys zs : List A) → IsAmong xs ys → IsAmong (xs ++ zs) (ys ++ zs)
IsAmong-more xs ys zs among x h =
    elim (Contains-append_cases xs zs x h) [
      | inl front ↦ Contains-append_left ys zs x (among x front)
      | inr back ↦ Contains-append_right ys zs x back
    ]
