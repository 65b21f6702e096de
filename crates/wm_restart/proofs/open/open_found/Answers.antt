use Rattle.std.proofs.Common.{◌≡◌, ◌≤◌, false, All, Err, List, sym, subst, ap, ◌∙◌}
use Rattle.wm_law.specs.Counts.{is_active}
use Rattle.wm_law.specs.Sound.{IsSound}
use Rattle.wm_law.specs.Submitting.{serials_end}
use Rattle.wm_law.specs.declared.state.State.{State}
use Rattle.wm_traits.specs.declared.row.RowChange.{RowChange}
use Rattle.wm_traits.specs.Rows.{changed}
use Rattle.wm_restart.specs.declared.restart.RestartFault.{RestartFault}
use Rattle.wm_restart.specs.declared.restart.RestartFault.TheVariants.{BadRow}
use Rattle.wm_tables.specs.Opened.{PutsNew}
use Rattle.wm_tables.specs.Restart.{IsRestart}
use Rattle.wm_tables.specs.Tables.{tables}
use Rattle.wm_tables.proofs.Restarts.{good_is_sound, good_restart}
use Rattle.wm_restart.specs.Written.{job_changes, Stands}
use Rattle.wm_restart.proofs.JobChanges.{jobs_are_new, jobs_make_tables}
use Rattle.wm_restart.proofs.Restarts.{none_active, stand}
use Rattle.wm_restart.proofs.open.open_found.Goals as goal

pub returns-in-Err-clause-bad : goal.returns-in-Err-clause-bad
returns-in-Err-clause-bad c =
    λ n e.
    let same : c.in-Err.fault ≡ BadRow n = cc in
    c.in-Err.ensures.bad n (ap (λ (f : RestartFault). Err f) same)

pub job_changes-requires-clause-order : goal.job_changes-requires-clause-order
job_changes-requires-clause-order c = c.in-Ok.ensures.good.order

pub job_changes-requires-clause-stand : goal.job_changes-requires-clause-stand
job_changes-requires-clause-stand c =
    let jobs = c.deref.ensures.value ∙ ap (λ (s : State). s.jobs) c.parts-read.ensures in
    subst (All (Stands c.args.rows.now)) (sym jobs) (stand c.args.setup.now.offset c.args.rows.now c.in-Ok.reading c.in-Ok.ensures.good)

pub kept_of-requires-clause-serial : goal.kept_of-requires-clause-serial
kept_of-requires-clause-serial c =
    let h = good_is_sound c.args.setup.now.offset c.args.rows.now c.in-Ok.reading c.in-Ok.ensures.good c.in-Ok.ensures.counters in
    subst (λ (s : State). s.next_serial ≤ serials_end) (sym c.parts-read.ensures) h.numbered.next_serial.most

pub kept_of-requires-clause-place : goal.kept_of-requires-clause-place
kept_of-requires-clause-place c =
    let h = good_is_sound c.args.setup.now.offset c.args.rows.now c.in-Ok.reading c.in-Ok.ensures.good c.in-Ok.ensures.counters in
    subst (λ (s : State). s.next_place ≤ serials_end) (sym c.parts-read.ensures) h.numbered.next_place.most

pub stored-requires-clause-sound : goal.stored-requires-clause-sound
stored-requires-clause-sound c =
    let h = good_is_sound c.args.setup.now.offset c.args.rows.now c.in-Ok.reading c.in-Ok.ensures.good c.in-Ok.ensures.counters in
    subst IsSound (sym (c.kept_of.ensures ∙ c.parts-read.ensures)) h

pub stored-requires-clause-inactive : goal.stored-requires-clause-inactive
stored-requires-clause-inactive c =
    subst (λ (s : State). All (λ j. is_active j.phase ≡ false) s.jobs) (sym (c.kept_of.ensures ∙ c.parts-read.ensures)) (none_active c.args.setup.now.offset c.args.rows.now c.in-Ok.reading c.in-Ok.ensures.good)

pub returns-in_ok-core-in-Ok-clause-ok : goal.returns-in_ok-core-in-Ok-clause-ok
returns-in_ok-core-in-Ok-clause-ok c =
    let restart = good_restart c.args.setup.now.offset c.args.rows.now c.in-Ok.reading c.in-Ok.ensures.good c.in-Ok.ensures.counters in
    subst (IsRestart c.args.setup.now.offset c.args.rows.now) (sym (c.in_ok-core-in-Ok.ensures.state ∙ (c.kept_of.ensures ∙ c.parts-read.ensures))) restart

pub returns-in_ok-core-in-Ok-clause-changes : goal.returns-in_ok-core-in-Ok-clause-changes
returns-in_ok-core-in-Ok-clause-changes c =
    let jobs = c.deref.ensures.value ∙ ap (λ (s : State). s.jobs) c.parts-read.ensures in
    let made = c.in_ok-changes-in-Ok.ensures ∙ ap (job_changes c.args.rows.now) jobs in
    ap (λ (cs : List RowChange). changed cs c.args.rows.now) made
    ∙ (jobs_make_tables c.args.setup.now.offset c.args.rows.now c.in-Ok.reading c.in-Ok.ensures.good c.in-Ok.ensures.counters
    ∙ ap tables (sym (c.in_ok-core-in-Ok.ensures.state ∙ (c.kept_of.ensures ∙ c.parts-read.ensures))))

pub returns-in_ok-core-in-Ok-clause-new : goal.returns-in_ok-core-in-Ok-clause-new
returns-in_ok-core-in-Ok-clause-new c =
    let jobs = c.deref.ensures.value ∙ ap (λ (s : State). s.jobs) c.parts-read.ensures in
    let made = c.in_ok-changes-in-Ok.ensures ∙ ap (job_changes c.args.rows.now) jobs in
    subst (PutsNew c.args.rows.now) (sym made) (jobs_are_new c.args.rows.now c.in-Ok.reading.jobs)
