-- The entries of a history, counted one after another.
use Rattle.std.proofs.Common.{◌≡◌, ℕ, ◌+◌, Bool, true, false, List, count_by, get_or, take, ap, sym, ◌∙◌}
use Rattle.std.specs.Prelude.{Some, slice_get}
use Rattle.std.proofs.lemmas.List.Sums.{count_by_more_no, count_by_more_yes}
use Rattle.std.proofs.lemmas.Option.{get_or_from_slice_get, slice_get_within}
use Rattle.wm_law.specs.declared.call.Entry.{Entry}

-- the next one is counted, or it isn't
module _ (p : Entry → Bool) (log : List Entry) (at : ℕ) (e : Entry) (count now : ℕ) (is : Some e ≡ slice_get log at) (so_far : count ≡ count_by p (take at log)) where
  pub counted : p e ≡ true → now ≡ count + 1 → now ≡ count_by p (take (at + 1) log)
  counted hit more =
      let here : p (get_or log at e) ≡ true = ap p (get_or_from_slice_get log at e e (sym is)) ∙ hit in
      more ∙ ap (λ (n : ℕ). n + 1) so_far ∙ sym (count_by_more_yes p log at e (slice_get_within log at e (sym is)) here)

  pub uncounted : p e ≡ false → now ≡ count → now ≡ count_by p (take (at + 1) log)
  uncounted missed same =
      let here : p (get_or log at e) ≡ false = ap p (get_or_from_slice_get log at e e (sym is)) ∙ missed in
      same ∙ so_far ∙ sym (count_by_more_no p log at e (slice_get_within log at e (sym is)) here)
