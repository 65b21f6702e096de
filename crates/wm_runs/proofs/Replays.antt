-- The entries of a history, called once more one after another.
use Rattle.std.proofs.Common.{◌≡◌, ℕ, ◌+◌, ◌≤◌, List, ◌∷◌, length, drop, ap, sym, subst, ◌∙◌}
use Rattle.std.specs.Prelude.{Some, slice_get}
use Rattle.std.proofs.lemmas.List.{drop_all, drop_more}
use Rattle.std.proofs.lemmas.Option.{get_or_from_slice_get, slice_get_within}
use Rattle.wm_law.specs.History.{after, IsEntry, IsLegal, stepped}
use Rattle.wm_law.specs.declared.call.Entry.{Entry}
use Rattle.wm_law.specs.declared.state.State.{State}

-- an entry, and those behind it
left_behind : (log : List Entry) (at : ℕ) (e : Entry) → Some e ≡ slice_get log at → drop at log ≡ e ∷ drop (at + 1) log
left_behind log at e is =
    drop_more log at e (slice_get_within log at e (sym is)) ∙ ap (λ (x : Entry). x ∷ drop (at + 1) log) (get_or_from_slice_get log at e e (sym is))

pub entry_legal : (s : State) (log : List Entry) (at : ℕ) (e : Entry) → Some e ≡ slice_get log at → IsLegal s (drop at log) → IsEntry s e
entry_legal s log at e is legal = (subst (IsLegal s) (left_behind log at e is) legal).0

pub rest_legal : (s t : State) (log : List Entry) (at : ℕ) (e : Entry) → Some e ≡ slice_get log at → t ≡ (stepped s e).state → IsLegal s (drop at log) → IsLegal t (drop (at + 1) log)
rest_legal s t log at e is to legal = subst (λ (u : State). IsLegal u (drop (at + 1) log)) (sym to) ((subst (IsLegal s) (left_behind log at e is) legal).1)

pub rest_reaches : (s t end : State) (log : List Entry) (at : ℕ) (e : Entry) → Some e ≡ slice_get log at → t ≡ (stepped s e).state → after s (drop at log) ≡ end → after t (drop (at + 1) log) ≡ end
rest_reaches s t end log at e is to reaches =
    ap (λ (u : State). after u (drop (at + 1) log)) to ∙ sym (ap (after s) (left_behind log at e is)) ∙ reaches

-- behind the last entry
pub none_left : (s end : State) (log : List Entry) (at : ℕ) → length log ≤ at → after s (drop at log) ≡ end → s ≡ end
none_left s end log at all reaches = sym (ap (after s) (drop_all at log all)) ∙ reaches
