-- What the history of a run over a store that tells its rows says of chains of runs, and of rows that aren't good.
use Rattle.std.proofs.Common.{◌≡◌, ℕ, List, [], Option, Some, IfSome, sym, subst, ◌∙◌, inl, inr}
use Rattle.wm_base.proofs.Tests.{Some-injective}
use Rattle.wm_tables.specs.Chain.{IsRun}
use Rattle.wm_tables.specs.ChainLaws.{BadRowsMakeNone}
use Rattle.wm_law.specs.History.{after}
use Rattle.wm_law.specs.declared.call.Entry.{Entry}
use Rattle.wm_tables.specs.Restart.{IsBad, IsRestart}
use Rattle.wm_tables.specs.Tables.{tables}
use Rattle.wm_traits.specs.Told.{Stays}
use Rattle.wm_traits.specs.declared.row.Row.{Row}
use Rattle.wm_run.specs.Kept.{HasHistory, HasOpened, HasRun, IsUnopened}
use Rattle.wm_run.specs.Laws.{BadRowsDontOpen, HasToldHistory, RunsMakeChains}
use Rattle.wm_run.specs.Outcome.{RunTakes}
use Rattle.wm_run.specs.declared.settings.Settings.{Settings}

-- what is said of what is told
told : {A : Type 0} (P : A → Type 0) (o : Option A) (x : A) → o ≡ Some x → IfSome o P → P x
told P o x is h = subst (λ (p : Option _). IfSome p P) is h

stayed : (old new : Option (List Row)) (found left : List Row) → Stays old new → old ≡ Some found → new ≡ Some left → left ≡ found
stayed old new found left h first last = subst (λ (o : Option (List Row)). Stays o (Some left)) first (subst (Stays old) last h)

module _ (settings : Settings) (status : ℕ) (log : List Entry) (found left : List Row) (t : HasToldHistory settings status log found left) where
  abbrev IsOpened : Type 0
  IsOpened = HasOpened settings.offset log t.old t.new (HasRun status log (RunTakes settings t.left_before t.left_now status log t.written_before t.written_now))

  -- the rows that it opened with are those that were told
  restart_told : (h : IsOpened) → IsRestart settings.offset found h.opened
  restart_told h =
      let same = Some-injective h.rows found (sym (told (λ (_ : List Row). t.old.tables ≡ Some h.rows) t.new.tables left t.left_rows h.found) ∙ t.found_rows) in
      subst (λ (rows : List Row). IsRestart settings.offset rows h.opened) same h.restart

  linked : HasHistory settings.offset status log t.old t.new (RunTakes settings t.left_before t.left_now status log t.written_before t.written_now) → IsRun found (record { offset = settings.offset; log = log; left = left })
  linked (inl h) =
      inl (record {
        opened = h.opened;
        restart = restart_told h;
        legal = h.legal;
        leaves = inl (told (λ (rows : List Row). rows ≡ tables (after h.opened log)) t.new.tables left t.left_rows h.tables);
      })
  linked (inr h) = inr (record { none = h.none; same = stayed t.old.tables t.new.tables found left h.left.tables t.found_rows t.left_rows })

  unopened : BadRowsMakeNone → (n : ℕ) → IsBad settings.offset found n → HasHistory settings.offset status log t.old t.new (RunTakes settings t.left_before t.left_now status log t.written_before t.written_now) → IsUnopened status × (log ≡ [])
  unopened none n bad (inl h) = absurd (none settings.offset found n h.opened bad (restart_told h))
  unopened none n bad (inr h) = (h.early, h.none)

pub runs_make_chains : RunsMakeChains
runs_make_chains settings status log found left t = linked settings status log found left t t.history

pub bad_rows_dont_open : BadRowsMakeNone → BadRowsDontOpen
bad_rows_dont_open none settings status log found left n t bad = unopened settings status log found left t none n bad t.history
