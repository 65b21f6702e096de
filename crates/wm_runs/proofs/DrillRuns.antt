-- What a run over objects that never fail comes to.
use Rattle.std.proofs.Common.{◌≡◌, ℕ, pos, ◌≤◌, true, List, [], ◌∷◌, length, nat_eq, Option, Some, sym, ap, subst, ◌∙◌, inl, inr, arith}
use Rattle.std.specs.List.{list_any}
use Rattle.std.proofs.lemmas.Bool.{false≢true}
use Rattle.std.proofs.lemmas.List.{length-append}
use Rattle.wm_base.specs.declared.job.Asked.{Asked}
use Rattle.wm_base.proofs.Tests.{Some-injective}
use Rattle.wm_law.specs.History.{IsLegal}
use Rattle.wm_law.specs.Opening.{opening}
use Rattle.wm_law.specs.declared.call.Entry.{Entry}
use Rattle.wm_law.specs.declared.state.State.{State}
use Rattle.wm_floor.specs.declared.report.Report.{Report}
use Rattle.wm_run.specs.Kept.{HasBadRow, HasHistory, HasOpened, HasRun, unopened_statuses}
use Rattle.wm_run.specs.Outcome.{RunTakes}
use Rattle.wm_run.specs.Run.{IsServed}
use Rattle.wm_run.specs.declared.settings.Settings.{Settings}
use Rattle.wm_tables.specs.Restart.{IsRestart}
use Rattle.wm_traits.specs.declared.row.Row.{Row}
use Rattle.wm_traits.specs.declared.spawner.Told.{Told}
use Rattle.wm_runs.specs.Drill.{IsRunOver, drill_settings, tells}

-- what is known of the state that the run opened with, whether it opened or not
module _ (text : List ℕ) (status : ℕ) (log : List Entry) (kept : List Report) (ran : IsRunOver text status log kept) where
  abbrev Came : State → Type 0
  Came = RunTakes drill_settings (Some text) (Some ran.left) status log (Some []) ran.written

  abbrev opened_first : Type 0
  opened_first = HasOpened (pos 0) log (tells [] ([] ∷ [])) (tells ran.tables ran.trail) (HasRun status log Came)

  from_none : (h : opened_first) → h.opened ≡ opening (pos 0)
  from_none h = subst (λ (rows : List Row). IsRestart (pos 0) rows h.opened) (sym (Some-injective [] h.rows h.found)) h.restart

  legal_by : HasHistory (pos 0) status log (tells [] ([] ∷ [])) (tells ran.tables ran.trail) Came → status ≡ 0 → IsLegal (opening (pos 0)) log
  legal_by (inl h) none = subst (λ (s : State). IsLegal s log) (from_none h) h.legal
  legal_by (inr h) none = let early = h.early in absurd (false≢true (subst (λ (n : ℕ). list_any (nat_eq n) unopened_statuses ≡ true) none early))

  -- at status 0 the history is legal from the state of no rows
  pub legal_from_none : status ≡ 0 → IsLegal (opening (pos 0)) log
  legal_from_none none = legal_by ran.history none

  came_by : HasHistory (pos 0) status log (tells [] ([] ∷ [])) (tells ran.tables ran.trail) Came → (s : State) × Came s
  came_by (inl h) = (h.opened, h.came.input)
  came_by (inr h) = (opening (pos 0), h.came (opening (pos 0)))

  -- a short text isn't too long
  pub not_too_long : length text ≤ 1000000000 → status ≡ 11 → ⊥
  not_too_long short is =
      let came = (came_by ran.history).1 in
      let more = came.done.full.0 is in
      let whole = ap length came.taken ∙ length-append came.bytes ran.left in
      absurd (omega (arith, more, whole, short))

-- where no rows are found none is bad
pub none_bad : (tables : List Row) → HasBadRow (pos 0) (Some []) (Some tables) → ⊥
none_bad tables h =
    let some = h.1.1.some in
    let none = ap length (Some-injective [] tables h.0) in
    absurd (omega (arith, some, none))

-- nor where the rows that are found are none
pub none_bad_found : (settings : Settings) (found tables : List Row) → settings ≡ drill_settings → found ≡ [] → HasBadRow settings.offset (Some found) (Some tables) → ⊥
none_bad_found settings found tables same none h =
    none_bad tables (subst (λ (s : Settings). HasBadRow s.offset (Some []) (Some tables)) same (subst (λ (rows : List Row). HasBadRow settings.offset (Some rows) (Some tables)) none h))

-- a run over a text, where its parts are so
pub run_over : (settings : Settings) (text left : List ℕ) (found tables : List Row) (trail trail' : List (List Row)) (status : ℕ) (log : List Entry) (kept : List Report)
    (start : List ℕ) (wrote written : Option (List ℕ)) (asked asked' : Option (List Asked)) (told told' : Option (List Told))
    → settings ≡ drill_settings → start ≡ text → found ≡ [] → trail ≡ [] ∷ [] → wrote ≡ Some [] → asked ≡ Some [] → told ≡ Some []
    → HasHistory settings.offset status log (tells found trail) (tells tables trail') (RunTakes settings (Some start) (Some left) status log wrote written)
    → IsServed log kept asked asked' told told' 0 0 → IsRunOver text status log kept
run_over settings text left found tables trail trail' status log kept start wrote written asked asked' told told' same begins none first unwritten unasked untold history served =
    record {
      left = left;
      written = written;
      tables = tables;
      trail = trail';
      asked = asked';
      told = told';
      history =
          subst (λ (w : Option (List ℕ)). HasHistory (pos 0) status log (tells [] ([] ∷ [])) (tells tables trail') (RunTakes drill_settings (Some text) (Some left) status log w written)) unwritten
          (subst (λ (t : List (List Row)). HasHistory (pos 0) status log (tells [] t) (tells tables trail') (RunTakes drill_settings (Some text) (Some left) status log wrote written)) first
          (subst (λ (rows : List Row). HasHistory (pos 0) status log (tells rows trail) (tells tables trail') (RunTakes drill_settings (Some text) (Some left) status log wrote written)) none
          (subst (λ (bytes : List ℕ). HasHistory (pos 0) status log (tells found trail) (tells tables trail') (RunTakes drill_settings (Some bytes) (Some left) status log wrote written)) begins
          (subst (λ (s : Settings). HasHistory s.offset status log (tells found trail) (tells tables trail') (RunTakes s (Some start) (Some left) status log wrote written)) same history))));
      served =
          subst (λ (t : Option (List Told)). IsServed log kept (Some []) asked' t told' 0 0) untold
          (subst (λ (a : Option (List Asked)). IsServed log kept a asked' told told' 0 0) unasked served);
    }
