-- The lines of a history, one after another.
use Rattle.std.proofs.Common.{◌≡◌, ◌++◌, ◌+◌, ◌<◌, ℕ, List, get_or, length, take, sym, ap, ◌∙◌, append_assoc}
use Rattle.std.specs.Prelude.{Some, slice_get}
use Rattle.std.proofs.lemmas.Option.{get_or_from_slice_get, slice_get_within}
use Rattle.wm_law.specs.declared.call.Entry.{Entry}
use Rattle.wm_listing.specs.Log.{entry_line, entry_lines}
use Rattle.wm_listing.proofs.Logs.{next_line}

-- the lines of the entries so far, with that of the next one
pub lines_more : (log : List Entry) (at : ℕ) (e : Entry) (front some now : List ℕ) → some ≡ front ++ entry_lines 1 (take at log) → Some e ≡ slice_get log at → now ≡ some ++ entry_line (at + 1) e → now ≡ front ++ entry_lines 1 (take (at + 1) log)
lines_more log at e front some now so_far is more =
    let line = entry_line (at + 1) e in
    let within : at < length log = slice_get_within log at e (sym is) in
    let here : e ≡ get_or log at e = sym (get_or_from_slice_get log at e e (sym is)) in
    more ∙ ap (λ (l : List ℕ). l ++ line) so_far ∙ append_assoc front (entry_lines 1 (take at log)) line ∙ ap (λ (l : List ℕ). front ++ l) (sym (next_line log at e within here))
