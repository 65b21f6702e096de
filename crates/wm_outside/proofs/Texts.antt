-- Texts that are cut.
use Rattle.std.proofs.Common.{◌≡◌, ℕ, List, ◌++◌, length, take, drop, min, arith, take-append-drop}
use Rattle.std.proofs.lemmas.Grind.{common_steps}
use Rattle.std.proofs.lemmas.List.Folds.{list_all-append}
use Rattle.wm_base.specs.Text.{IsText}

text_first : (xs ys : List ℕ) → IsText (xs ++ ys) → IsText xs
text_first xs ys h = grind (arith, common_steps, list_all-append)

text_last : (xs ys : List ℕ) → IsText (xs ++ ys) → IsText ys
text_last xs ys h = grind (arith, common_steps, list_all-append)

pub text_taken : (n : ℕ) (xs : List ℕ) → IsText xs → IsText (take n xs)
text_taken n xs h = text_first (take n xs) (drop n xs) (rw (take-append-drop n xs) h)

pub text_dropped : (n : ℕ) (xs : List ℕ) → IsText xs → IsText (drop n xs)
text_dropped n xs h = text_last (take n xs) (drop n xs) (rw (take-append-drop n xs) h)

-- as many as there are

pub taken_at_most : (n m : ℕ) (xs : List ℕ) → m ≡ min n (length xs) → take m xs ≡ take n xs
taken_at_most n m xs is = grind (arith, common_steps)

pub dropped_at_most : (n m : ℕ) (xs : List ℕ) → m ≡ min n (length xs) → drop m xs ≡ drop n xs
dropped_at_most n m xs is = grind (arith, common_steps)
