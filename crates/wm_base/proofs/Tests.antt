-- What tests that came out one way say, beside std's lemmas on one or two of them.
use Rattle.std.proofs.Common.{◌≡◌, ◌<◌, ℕ, ◌&&◌, ◌||◌, not, nat_eq, Bool, true, false, cond, List, Option, Some, None, refl, ap, ◌∙◌, arith}
use Rattle.std.specs.Cmp.Lexicographic.{pointwise}
use Rattle.std.specs.Option.{is_some}
use Rattle.std.proofs.lemmas.Bool.{true≢false, or_parts, and_right, not_from_false, ne_eqb}
use Rattle.std.proofs.lemmas.Cmp.{nat_list_eq_equiv}

pub of_four : (a b c d : Bool) → (a && b && c && d) ≡ true → (a ≡ true) × (b ≡ true) × (c ≡ true) × (d ≡ true)
of_four true true true true h = (refl, refl, refl, refl)
of_four true true true false h = absurd (cc)
of_four true true false d h = absurd (cc)
of_four true false c d h = absurd (cc)
of_four false b c d h = absurd (cc)

pub all_three : (a b c : Bool) → a ≡ true → b ≡ true → c ≡ true → (a && b && c) ≡ true
all_three a b c e f g = ap (λ (x : Bool). x && b && c) e ∙ ap (λ (x : Bool). x && c) f ∙ g

pub all_four : (a b c d : Bool) → a ≡ true → b ≡ true → c ≡ true → d ≡ true → (a && b && c && d) ≡ true
all_four a b c d e f g h =
    ap (λ (x : Bool). x && b && c && d) e
    ∙ ap (λ (x : Bool). x && c && d) f
    ∙ ap (λ (x : Bool). x && d) g
    ∙ h

-- of two that don't hold the second
pub or_second : (a b : Bool) → (a || b) ≡ false → b ≡ false
or_second a b h = (or_parts a b h).1

-- the second may be another that follows from it
pub or_more : (a b c : Bool) → (b ≡ true → c ≡ true) → (a || b) ≡ true → (a || c) ≡ true
or_more true b c f h = refl
or_more false b c f h = f h

-- two hold together only where the second does
pub not_both : (a b : Bool) → b ≡ false → not (a && b) ≡ true
not_both a b h = not_from_false (a && b) (and_right a b h)

pub eqb-lt : (a b : ℕ) → a < b → nat_eq a b ≡ false
eqb-lt a b h = ne_eqb a b (λ e. omega arith)

-- bytes are the same as themselves
pub bytes-itself : (bytes : List ℕ) → pointwise nat_eq bytes bytes ≡ true
bytes-itself bytes = nat_list_eq_equiv.refl bytes

pub None-from_is_some : {X : Type 0} (o : Option X) → is_some o ≡ false → o ≡ None
None-from_is_some None e = refl
None-from_is_some (Some x) e = absurd (true≢false e)

pub Some-injective : {X : Type 0} (x y : X) → Some x ≡ Some y → x ≡ y
Some-injective x y e = cc

-- no refusal comes, so the test is false and none comes behind it
pub unrefused : {X : Type 0} (t : Bool) (x : X) (o : Option X) → cond t (Some x) o ≡ None → (t ≡ false) × (o ≡ None)
unrefused true x o e = absurd (cc)
unrefused false x o e = (refl, e)

-- something comes, so the test is true
pub guarded : {X : Type 0} (t : Bool) (o : Option X) (x : X) → cond t o None ≡ Some x → (t ≡ true) × (o ≡ Some x)
guarded true o x e = (refl, e)
guarded false o x e = absurd (cc)
