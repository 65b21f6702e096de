-- The lines of entries, one after the other.
use Rattle.std.proofs.Common.{◌≡◌, ℕ, ◌+◌, ◌<◌, List, [], ◌∷◌, ◌++◌, length, take, get_or, ap, sym, ◌∙◌, append-nil, append_assoc, add-zero, add-one, take-suc, length-take-le, arith}
use Rattle.wm_law.specs.declared.call.Entry.{Entry}
use Rattle.wm_listing.specs.Log.{entry_line, entry_lines}

-- with one more entry behind them
with_last : (place : ℕ) (log : List Entry) (e : Entry) → entry_lines place (log ++ e ∷ []) ≡ entry_lines place log ++ entry_line (place + length log) e
with_last place [] e = append-nil (entry_line place e) ∙ ap (λ (n : ℕ). entry_line n e) (sym (add-zero place))
with_last place (x ∷ log) e =
    let moved : (place + 1) + length log ≡ place + length (x ∷ log) = omega arith in
    ap (λ (l : List ℕ). entry_line place x ++ l) (with_last (place + 1) log e ∙ ap (λ (n : ℕ). entry_lines (place + 1) log ++ entry_line n e) moved)
    ∙ sym (append_assoc (entry_line place x) (entry_lines (place + 1) log) (entry_line (place + length (x ∷ log)) e))

-- the lines of so many entries and one more
pub next_line : (log : List Entry) (i : ℕ) (e : Entry) → i < length log → e ≡ get_or log i e → entry_lines 1 (take (i + 1) log) ≡ entry_lines 1 (take i log) ++ entry_line (i + 1) e
next_line log i e less is =
    let long : length (take i log) ≡ i = length-take-le i log (omega (arith, less)) in
    let place : 1 + length (take i log) ≡ i + 1 = omega (arith, long) in
    ap (λ (n : ℕ). entry_lines 1 (take n log)) (add-one i)
    ∙ ap (entry_lines 1) (take-suc log i e less)
    ∙ with_last 1 (take i log) (get_or log i e)
    ∙ ap (λ (n : ℕ). entry_lines 1 (take i log) ++ entry_line n (get_or log i e)) place
    ∙ ap (λ (x : Entry). entry_lines 1 (take i log) ++ entry_line (i + 1) x) (sym is)
