-- What a server over a store that tells its rows says of chains.
use Rattle.std.proofs.Common.{◌≡◌, ◌∙◌, ◌⊎◌, ℕ, List, [], Option, Some, None, IfSome, refl, sym, subst, inl, inr}
use Rattle.std.specs.Prelude.{⊤}
use Rattle.wm_base.proofs.Tests.{Some-injective}
use Rattle.wm_tables.specs.Chain.{IsRun}
use Rattle.wm_tables.specs.ChainLaws.{BadRowsMakeNone}
use Rattle.wm_law.specs.History.{after}
use Rattle.wm_law.specs.declared.call.Entry.{Entry}
use Rattle.wm_tables.specs.Restart.{IsRestart}
use Rattle.wm_tables.specs.Tables.{tables}
use Rattle.wm_traits.specs.Told.{Stays}
use Rattle.wm_traits.specs.declared.row.Row.{Row}
use Rattle.wm_floor.specs.Keeping.{IsLeft}
use Rattle.wm_serve.specs.Laws.{BadRowsDontServe, ServersMakeChains}
use Rattle.wm_serve.specs.Server.{HasHistory}

-- what is said of what is told
told : {A : Type 0} (P : A → Type 0) (o : Option A) (x : A) → o ≡ Some x → IfSome o P → P x
told P o x is h = subst (λ (p : Option _). IfSome p P) is h

stayed : (old new : Option (List Row)) (found left : List Row) → Stays old new → old ≡ Some found → new ≡ Some left → left ≡ found
stayed old new found left h first last = subst (λ (o : Option (List Row)). Stays o (Some left)) first (subst (Stays old) last h)

-- the rows that it opened with are those that were told
restart_told : (offset : _) (status : ℕ) (log : List Entry) (old new : _) (found left : List Row) (h : HasHistory offset status log old new (λ opened es. ⊤)) → old.tables ≡ Some found → new.tables ≡ Some left → IsRestart offset found h.opened
restart_told offset status log old new found left h first last =
    let same = Some-injective h.rows found (sym (told (λ (_ : List Row). old.tables ≡ Some h.rows) new.tables left last h.found) ∙ first) in
    subst (λ (rows : List Row). IsRestart offset rows h.opened) same h.restart

opened_link : (offset : _) (status : ℕ) (log : List Entry) (old new : _) (found left : List Row) → HasHistory offset status log old new (λ opened es. ⊤) → old.tables ≡ Some found → new.tables ≡ Some left → IsRun found (record { offset = offset; log = log; left = left })
opened_link offset status log old new found left h first last =
    inl (record {
      opened = h.opened;
      restart = restart_told offset status log old new found left h first last;
      legal = h.legal;
      leaves = inl (told (λ (rows : List Row). rows ≡ tables (after h.opened log)) new.tables left last h.tables);
    })

pub servers_make_chains : ServersMakeChains
servers_make_chains offset status (Some log) found left t = opened_link offset status log t.old t.new found left t.history t.found_rows t.left_rows
servers_make_chains offset status None found left t = by t.history.left
  where
    by : IsLeft t.old t.new ⊎ ((status ≡ 6) × HasHistory offset status [] t.old t.new (λ opened es. ⊤)) → IsRun found (record { offset = offset; log = []; left = left })
    by (inl same) = inr (record { none = refl; same = stayed t.old.tables t.new.tables found left same.tables t.found_rows t.left_rows })
    by (inr (six, h)) = opened_link offset status [] t.old t.new found left h t.found_rows t.left_rows

pub bad_rows_dont_serve : BadRowsMakeNone → BadRowsDontServe
bad_rows_dont_serve none offset status (Some log) found left n t bad = absurd (none offset found n t.history.opened bad (restart_told offset status log t.old t.new found left t.history t.found_rows t.left_rows))
bad_rows_dont_serve none offset status None found left n t bad = (t.history.early, refl)
