use Rattle.std.proofs.Common.{List, ap, subst, sym, ◌∙◌, refl, arith}
use Rattle.wm_law.specs.declared.call.Entry.{Entry}
use Rattle.wm_floor.specs.Lists.{since}
use Rattle.wm_floor.specs.Made.{AreAt}
use Rattle.wm_floor.proofs.Advances.{Advances-looked, Advances-none, Advances-then}
use Rattle.wm_floor.proofs.Parts.{count_then, made_at, made_none, made_one, none_at, ticked_part}
use Rattle.wm_floor.proofs.MonitorPasses.{GoesOn-looked, GoesOn-none}
use Rattle.wm_floor.proofs.Turns.{later_none, later_some, not_due_now, not_yet}
use Rattle.wm_floor.proofs.calling.tick.Goals as goal
use Rattle.wm_floor.proofs.calling.tick.Goals.{in_default-via-in-Some+else-le, in_default-via-in_default}

pub returns-in_err-enter-in-Some-clause-part : goal.returns-in_err-enter-in-Some-clause-part
returns-in_err-enter-in-Some-clause-part g c around =
    Advances-looked c.args.floor.now 0 1 c.args.pass.now c.enter.new.pass around c.enter.ensures.part c.in_err-enter-in-Some.ensures.err

pub returns-in_ok-enter-in-Some-clause-part : goal.returns-in_ok-enter-in-Some-clause-part
returns-in_ok-enter-in-Some-clause-part g c around =
    let f = c.args.floor.now in
    let p = c.args.pass.now in
    let q = c.enter.new.pass in
    let r = c.waiting-waiting.new.pass in
    let e = c.waiting-waiting.ensures in
    let goes = GoesOn-looked f q r c.enter.ensures.part.own e.own e.same e.looked in
    Advances-then f 0 1 0 0 p q r around around around (ticked_part f p q c.now-now.result _ around c.enter.ensures.part c.in_ok-enter-in-Some.ensures.ok) (Advances-looked f 0 0 q r around goes e.looked.mine)

pub returns-in_ok-enter-in-Some-clause-sent : goal.returns-in_ok-enter-in-Some-clause-sent
returns-in_ok-enter-in-Some-clause-sent g c =
    let f = c.args.floor.now in
    let p = c.args.pass.now in
    let q = c.enter.new.pass in
    let r = c.waiting-waiting.new.pass in
    let e = c.waiting-waiting.ensures in
    let goes = GoesOn-looked f q r c.enter.ensures.part.own e.own e.same e.looked in
    count_then f p q r 1 0 c.enter.ensures.part goes (made_one f p q c.in_ok-enter-in-Some.ensures.ok) (made_none f q r e.looked.mine)

pub waiting-waiting-requires : goal.waiting-waiting-requires
waiting-waiting-requires g c = record { own = c.enter.ensures.part.own }

pub returns-in_default-clause-part : goal.returns-in_default-clause-part
returns-in_default-clause-part g c around = Advances-none c.args.floor.now 0 1 c.args.pass.now around c.requires.own

pub returns-in_default-clause-sent : goal.returns-in_default-clause-sent
returns-in_default-clause-sent g c = made_none c.args.floor.now c.args.pass.now c.args.pass.now refl

pub returns-in_err-enter-in-Some-clause-moment : goal.returns-in_err-enter-in-Some-clause-moment
returns-in_err-enter-in-Some-clause-moment g c =
    none_at c.args.floor.now c.args.pass.now c.enter.new.pass (g.C.Clock.coming c.args.clock.now) c.in_err-enter-in-Some.ensures.err

pub returns-in_ok-enter-in-Some-clause-moment : goal.returns-in_ok-enter-in-Some-clause-moment
returns-in_ok-enter-in-Some-clause-moment g c =
    let p = c.args.pass.now in
    let coming = g.C.Clock.coming c.args.clock.now in
    let made = made_at c.args.floor.now p c.enter.new.pass coming c.in_ok-enter-in-Some.ensures.ok c.now-now.ensures.told in
    subst (λ (es : List Entry). AreAt coming es) (ap (λ (mine : List Entry). since p.mine mine) (sym c.waiting-waiting.ensures.looked.mine)) made

pub returns-in_default-clause-moment : goal.returns-in_default-clause-moment
returns-in_default-clause-moment g c = none_at c.args.floor.now c.args.pass.now c.args.pass.now (g.C.Clock.coming c.args.clock.now) refl

pub returns-in_ok-enter-in-Some-clause-due : goal.returns-in_ok-enter-in-Some-clause-due
returns-in_ok-enter-in-Some-clause-due g c none =
    let f = c.args.floor.now in
    let p = c.args.pass.now in
    let q = c.enter.new.pass in
    let r = c.waiting-waiting.new.pass in
    let e = c.waiting-waiting.ensures in
    let goes = GoesOn-looked f q r c.enter.ensures.part.own e.own e.same e.looked in
    let one = count_then f p q r 1 0 c.enter.ensures.part goes (made_one f p q c.in_ok-enter-in-Some.ensures.ok) (made_none f q r e.looked.mine) in
    absurd (omega arith)

pub returns-in_default-clause-due : goal.returns-in_default-clause-due
returns-in_default-clause-due g c none =
    let f = c.args.floor.now in
    let p = c.args.pass.now in
    let w = c.args.waiting in
    let h = c.requires.waits in
    let coming = g.C.Clock.coming c.args.clock.now in
    not_due_now f p p w.at w.pending p.number coming (GoesOn-none f p c.requires.own) h.at h.pending
    (elim c.in_default.branch [ in_default-via-in-Some+else-le b ↦ later_some w.pending.next coming b.in-Some.due c.now-now.result b.in-Some.is (not_yet _ b.in-Some.due c.now-now.result b.in-Some.due-is (sym b.if-le.false ∙ b.le.ensures)) c.now-now.ensures.told | in_default-via-in_default b ↦ later_none w.pending.next coming b.in_default.is ])
