use Rattle.std.proofs.Common.{◌∙◌, ◌≤◌, ℕ, Bool, cond, refl, sym, ap, subst}
use Rattle.wm_desc.specs.Objects.{empty_sbsd}
use Rattle.wm_law.specs.Prestart.{make_pres, room}
use Rattle.wm_law.specs.Submitting.{numbers_left}
use Rattle.wm_law.proofs.Supplies.{room_numbers}
use Rattle.wm_core.proofs.machine.Machine.make_first.Goals as goal

pub make_pres-requires : goal.make_pres-requires
make_pres-requires c =
    let s = c.args.self.now.state in
    let sbs = c.args.sbs.now in
    let e = c.args.entry.now in
    let d = empty_sbsd c.args.maxjobs.now in
    let jobs = c.room-jobs.ensures s sbs d (c.supply_of.ensures d refl) in
    record { numbers = subst (λ (n : ℕ). n ≤ numbers_left s) (sym jobs) (room_numbers sbs d e s c.args.entry.now.inljobs) }

pub returns-clause-ok : goal.returns-clause-ok
returns-clause-ok c = λ d same.
    let s = c.args.self.now.state in
    let sbs = c.args.sbs.now in
    let e = c.args.entry.now in
    c.in_ok-make_pres.ensures.ok
    ∙ (ap (λ (n : ℕ). make_pres sbs e.pgm n s) (c.room-jobs.ensures s sbs d (c.supply_of.ensures d same))
    ∙ sym (ap (λ (b : Bool). cond b (make_pres sbs e.pgm (room s sbs d e e.inljobs) s) s) c.if-not-entry.false))
