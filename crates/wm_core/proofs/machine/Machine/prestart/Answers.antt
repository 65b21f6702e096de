use Rattle.std.proofs.Common.{◌≡◌, ◌∙◌, ◌≤◌, ◌-◌, ℕ, List, refl, sym, ap, subst}
use Rattle.wm_desc.specs.Objects.{empty_sbsd}
use Rattle.wm_law.specs.declared.state.State.{State}
use Rattle.wm_law.specs.declared.state.Stop.{Stop}
use Rattle.wm_law.specs.Prestart.{count_available, make_pres, room}
use Rattle.wm_law.specs.Prestarting.{restarted}
use Rattle.wm_law.specs.Submitting.{numbers_left}
use Rattle.wm_law.proofs.Supplies.{room_numbers}
use Rattle.wm_core.specs.MachineInside.{Seen, state_of}
use Rattle.wm_core.proofs.machine.Machine.prestart.Goals as goal

pub make_pres-requires : goal.make_pres-requires
make_pres-requires c =
    let t : State = record (state_of c.self.inside) { stopped = c.drop_stop.new.stopped } in
    let sbs = c.args.sbs.now in
    let e = c.args.entry.now in
    let d = empty_sbsd c.args.maxjobs.now in
    let jobs = c.room-jobs.ensures t sbs d (c.supply_of.ensures d refl) in
    record { numbers = subst (λ (n : ℕ). n ≤ numbers_left t) (sym jobs) (room_numbers sbs d e t c.saturating_sub-lacking.result) }

pub returns-clause-ok : goal.returns-clause-ok
returns-clause-ok c = λ d same.
    let s = state_of c.self.inside in
    let t : State = record s { stopped = c.drop_stop.new.stopped } in
    let sbs = c.args.sbs.now in
    let e = c.args.entry.now in
    let made : State → State = λ u. make_pres sbs e.pgm (room u sbs d e (e.inljobs - count_available sbs e.pgm u.jobs)) u in
    let is : t ≡ restarted c.args.self.now.state sbs e.pgm =
    ap (λ (l : List Stop). record s { stopped = l }) c.drop_stop.ensures ∙ ap (λ (u : Seen). restarted u.state sbs e.pgm) c.self.view_is in
    let lacking : c.saturating_sub-lacking.result ≡ e.inljobs - count_available sbs e.pgm t.jobs =
    c.saturating_sub-lacking.ensures ∙ ap (λ (n : ℕ). e.inljobs - n) c.count_available-available.ensures in
    let jobs = c.room-jobs.ensures t sbs d (c.supply_of.ensures d same) ∙ ap (room t sbs d e) lacking in
    c.in_ok-make_pres.ensures.ok ∙ (ap (λ (n : ℕ). make_pres sbs e.pgm n t) jobs ∙ ap made is)
