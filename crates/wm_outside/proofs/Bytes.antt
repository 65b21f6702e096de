-- The bytes of a source in memory.
use Rattle.std.proofs.Common.{◌≡◌, ℕ, ◌+◌, ◌-◌, List, ◌++◌, length, take, drop, refl, sym, ◌∙◌, ap, take-append-drop}
use Rattle.std.proofs.lemmas.List.{drop-drop, take_rest}

-- what is left is the piece that is read next from a slice of it, and what is left then
pub left_in_parts : (at n : ℕ) (xs bytes piece : List ℕ) → bytes ≡ xs → piece ≡ take n (take (length bytes - at) (drop at bytes)) → drop at xs ≡ piece ++ drop (at + n) xs
left_in_parts at n xs bytes piece same is =
    let whole : take n (take (length bytes - at) (drop at bytes)) ≡ take n (drop at xs) = rw (take_rest, same) refl in
    sym (take-append-drop n (drop at xs)) ∙ ap (λ (l : List ℕ). l ++ drop n (drop at xs)) (sym (is ∙ whole)) ∙ ap (λ (l : List ℕ). piece ++ l) (drop-drop n at xs)
