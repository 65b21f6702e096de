use Rattle.std.proofs.Common.{◌≡◌, List, [], ◌∷◌, Some, option_to_list, sym, refl, subst, ap, ◌∙◌, arith}
use Rattle.wm_base.specs.declared.job.Asked.{Asked}
use Rattle.wm_base.specs.declared.job.Asked.TheVariants.{Start, Kill}
use Rattle.wm_law.specs.History.{order_in}
use Rattle.wm_floor.specs.Advance.{AdvancesFor}
use Rattle.wm_floor.specs.Scene.{scene, spawner_seen}
use Rattle.wm_floor.proofs.Advances.{AdvancesFor-still, HasAsked-none, HasReported-none}
use Rattle.wm_floor.proofs.Parts.{kill_done, kill_kept, killed_asked, killed_reported, started_part}
use Rattle.wm_floor.proofs.monitor.Monitor.follow.Goals as goal

pub returns-in-None-clause-part : goal.returns-in-None-clause-part
returns-in-None-clause-part g c =
    let s = g.P.Spawner in
    let see = spawner_seen s.asked s.told s.misses s.faults in
    let f = c.args.floor.now in
    let p = c.args.pass.now in
    let a = scene c.args.self.now (see c.args.spawner.now) in
    let none : [] ≡ option_to_list (order_in c.args.reply.now) = ap option_to_list c.in-None.ensures in
    subst (λ (xs : List Asked). AdvancesFor f 0 1 xs p p a a) none (AdvancesFor-still f 0 1 [] p a a c.requires.own (HasAsked-none a) (HasReported-none a a refl refl) (omega arith))

pub returns-in_err-kill-in-Some-Kill-clause-part : goal.returns-in_err-kill-in-Some-Kill-clause-part
returns-in_err-kill-in-Some-Kill-clause-part g c =
    let s = g.P.Spawner in
    let see = spawner_seen s.asked s.told s.misses s.faults in
    let f = c.args.floor.now in
    let p = c.args.pass.now in
    let m = c.args.self.now in
    let n = c.kill.new.self in
    let v = see c.args.spawner.now in
    let w = see c.kill.new.spawner in
    let serial = c.in-Some-Kill.serial in
    let x = Kill serial in
    let e = c.kill.ensures in
    let one : x ∷ [] ≡ option_to_list (order_in c.args.reply.now) = ap option_to_list (ap Some (sym c.in-Some-Kill.field-0-is) ∙ c.in-Some-Kill.ensures) in
    let base = AdvancesFor-still f 0 1 (x ∷ []) p (scene m v) (scene n w) c.requires.own (killed_asked m n x v w c.requires.clear (kill_kept n serial c.in_err-kill-in-Some-Kill.ensures.failed) e.asked) (killed_reported m n v w e.kept e.told e.misses) e.faults in
    subst (λ (xs : List Asked). AdvancesFor f 0 1 xs p p (scene m v) (scene n w)) one base

pub returns-in_ok-kill-in-Some-Kill-clause-part : goal.returns-in_ok-kill-in-Some-Kill-clause-part
returns-in_ok-kill-in-Some-Kill-clause-part g c =
    let s = g.P.Spawner in
    let see = spawner_seen s.asked s.told s.misses s.faults in
    let f = c.args.floor.now in
    let p = c.args.pass.now in
    let m = c.args.self.now in
    let n = c.kill.new.self in
    let v = see c.args.spawner.now in
    let w = see c.kill.new.spawner in
    let serial = c.in-Some-Kill.serial in
    let x = Kill serial in
    let e = c.kill.ensures in
    let one : x ∷ [] ≡ option_to_list (order_in c.args.reply.now) = ap option_to_list (ap Some (sym c.in-Some-Kill.field-0-is) ∙ c.in-Some-Kill.ensures) in
    let base = AdvancesFor-still f 0 1 (x ∷ []) p (scene m v) (scene n w) c.requires.own (killed_asked m n x v w c.requires.clear (kill_done n x c.in_ok-kill-in-Some-Kill.ensures.done) e.asked) (killed_reported m n v w e.kept e.told e.misses) e.faults in
    subst (λ (xs : List Asked). AdvancesFor f 0 1 xs p p (scene m v) (scene n w)) one base

pub returns-in_err-sent-in-Some-Start-clause-part : goal.returns-in_err-sent-in-Some-Start-clause-part
returns-in_err-sent-in-Some-Start-clause-part g c =
    let s = g.P.Spawner in
    let see = spawner_seen s.asked s.told s.misses s.faults in
    let f = c.args.floor.now in
    let p = c.args.pass.now in
    let q = c.send_kept.new.pass in
    let m = c.args.self.now in
    let k = record m { kept = Some c.start.result } in
    let n = c.send_kept.new.self in
    let v = see c.args.spawner.now in
    let w = see c.start.new.spawner in
    let x = Start c.in-Some-Start.order in
    let e = c.start.ensures in
    let one : x ∷ [] ≡ option_to_list (order_in c.args.reply.now) = ap option_to_list (ap Some (sym c.in-Some-Start.field-0-is) ∙ c.in-Some-Start.ensures) in
    let base = started_part f p q m k n x (Some c.start.result) v w c.requires.own c.requires.clear refl refl e.asked e.told e.misses (omega arith) (c.send_kept.ensures.part w) in
    subst (λ (xs : List Asked). AdvancesFor f 0 1 xs p q (scene m v) (scene n w)) one base

pub returns-in_ok-sent-in-Some-Start-clause-part : goal.returns-in_ok-sent-in-Some-Start-clause-part
returns-in_ok-sent-in-Some-Start-clause-part g c =
    let s = g.P.Spawner in
    let see = spawner_seen s.asked s.told s.misses s.faults in
    let f = c.args.floor.now in
    let p = c.args.pass.now in
    let q = c.send_kept.new.pass in
    let m = c.args.self.now in
    let k = record m { kept = Some c.start.result } in
    let n = c.send_kept.new.self in
    let v = see c.args.spawner.now in
    let w = see c.start.new.spawner in
    let x = Start c.in-Some-Start.order in
    let e = c.start.ensures in
    let one : x ∷ [] ≡ option_to_list (order_in c.args.reply.now) = ap option_to_list (ap Some (sym c.in-Some-Start.field-0-is) ∙ c.in-Some-Start.ensures) in
    let base = started_part f p q m k n x (Some c.start.result) v w c.requires.own c.requires.clear refl refl e.asked e.told e.misses (omega arith) (c.send_kept.ensures.part w) in
    subst (λ (xs : List Asked). AdvancesFor f 0 1 xs p q (scene m v) (scene n w)) one base
