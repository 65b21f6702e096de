use Rattle.std.proofs.Common.{◌≡◌, ◌∷◌, [], ◌++◌, ◌∙◌, ap, subst, arith, length, ◌≤◌, sym, fold}
use Rattle.wm_law.specs.declared.state.SbsPhase.TheVariants.{Active}
use Rattle.wm_law.specs.declared.state.State.{State}
use Rattle.wm_law.specs.Submitting.{numbers_left}
use Rattle.wm_law.specs.Subsystems.{begun}
use Rattle.wm_law.specs.Supply.{first_stops}
use Rattle.wm_core.specs.Drafts.{enter_draft}
use Rattle.wm_core.specs.MachineInside.{Seen, state_of}
use Rattle.wm_core.proofs.ByDrafts.{numbers-fit, same-parts, site_parts, whole-entered}
use Rattle.wm_core.proofs.machine.Machine.start_up.Goals as goal

pub enter_drafts-requires-clause-serials : goal.enter_drafts-requires-clause-serials
enter_drafts-requires-clause-serials c = λ some.
    let s = state_of c.self.inside in
    let numbers : length c.args.drafts.items ≤ numbers_left s = subst (λ (t : Seen). length c.args.drafts.items ≤ numbers_left t.state) (sym c.self.view_is) c.requires.numbers in
    let fit = (numbers-fit s (length c.args.drafts.items) numbers some).2 in
    let same = c.reserve.ensures.next_serial in
    omega arith

pub enter_drafts-requires-clause-least : goal.enter_drafts-requires-clause-least
enter_drafts-requires-clause-least c = λ some.
    let s = state_of c.self.inside in
    let numbers : length c.args.drafts.items ≤ numbers_left s = subst (λ (t : Seen). length c.args.drafts.items ≤ numbers_left t.state) (sym c.self.view_is) c.requires.numbers in
    (numbers-fit s (length c.args.drafts.items) numbers some).0

pub enter_drafts-requires-clause-greatest : goal.enter_drafts-requires-clause-greatest
enter_drafts-requires-clause-greatest c = λ some.
    let s = state_of c.self.inside in
    let numbers : length c.args.drafts.items ≤ numbers_left s = subst (λ (t : Seen). length c.args.drafts.items ≤ numbers_left t.state) (sym c.self.view_is) c.requires.numbers in
    (numbers-fit s (length c.args.drafts.items) numbers some).1

pub returns-clause-ok : goal.returns-clause-ok
returns-clause-ok c =
    let s = state_of c.self.inside in
    let q = c.args.q.now in
    let r = begun s q in
    let started : c.push.new.self ≡ s.started ++ record { sbsd = q; phase = Active } ∷ [] = c.in_ok-push.ensures.ok in
    let clock : c.enter_drafts.new.table.clock ≡ s.clock = c.enter_drafts.ensures.clock ∙ c.reserve.ensures.clock in
    let place : c.enter_drafts.new.table.next_place ≡ s.next_place = c.enter_drafts.ensures.next_place ∙ c.reserve.ensures.next_place in
    let parts = same-parts s.objects c.reserve.new.self.jobs s.jobs c.push.new.self r.started s.held c.reserve.new.self.clock s.clock s.next_number c.reserve.new.self.next_serial s.next_serial c.reserve.ensures.jobs started c.reserve.ensures.clock c.reserve.ensures.next_serial in
    let come : State = site_parts s.objects c.enter_drafts.new.table.jobs c.push.new.self s.held c.enter_drafts.new.table.clock c.enter_drafts.new.number c.enter_drafts.new.table.next_serial in
    let whole = whole-entered q r c.args.drafts.items come (c.enter_drafts.ensures.state ∙ ap (λ (t : State). fold (enter_draft q) t c.args.drafts.items) parts) in
    let stops : c.args.stops ≡ r.stopped = c.requires.stops ∙ ap (λ (t : Seen). t.state.stopped ++ first_stops t.state q) (sym c.self.view_is) in
    rw (← c.self.view_is, started, stops, clock, place) whole
