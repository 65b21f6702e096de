use Rattle.std.proofs.Common.{◌≡◌, ◌∷◌, [], List, length, fold, refl, sym, ap, ◌∙◌, arith}
use Rattle.std.specs.Vec.Iter.{into_iter_items}
use Rattle.wm_law.specs.declared.state.State.{State}
use Rattle.wm_core.specs.declared.draft.Draft.{Draft}
use Rattle.wm_core.specs.Drafts.{enter_draft, site_state}
use Rattle.wm_core.proofs.autos.enter_drafts.Goals as goal

nothing_left : {X : Type 0} (l : List X) → length l ≡ 0 → l ≡ []
nothing_left [] h = refl
nothing_left (x ∷ xs) h = absurd (omega arith)

pub enter_draft-requires-clause-room : goal.enter_draft-requires-clause-room
enter_draft-requires-clause-room c =
    let short = ap length c.in-Some.ensures.steps.0 in
    let room = c.loop-draft.invariant.room in
    omega arith

pub enter_draft-requires-clause-serial_fits : goal.enter_draft-requires-clause-serial_fits
enter_draft-requires-clause-serial_fits c =
    let short = ap length c.in-Some.ensures.steps.0 in
    let serials = c.loop-draft.invariant.serials (omega arith) in
    omega arith

pub enter_draft-requires-clause-least : goal.enter_draft-requires-clause-least
enter_draft-requires-clause-least c =
    let short = ap length c.in-Some.ensures.steps.0 in
    c.loop-draft.invariant.least (omega arith)

pub enter_draft-requires-clause-greatest : goal.enter_draft-requires-clause-greatest
enter_draft-requires-clause-greatest c =
    let short = ap length c.in-Some.ensures.steps.0 in
    let greatest = c.loop-draft.invariant.greatest (omega arith) in
    omega arith

pub loop-draft-preserved : goal.loop-draft-preserved
loop-draft-preserved c =
    let at = c.loop-draft in
    let sbs = c.args.site.now.sbs in
    let steps : into_iter_items at.draft-iterator ≡ c.in-Some.draft ∷ into_iter_items c.next.new.self = c.in-Some.ensures.steps.0 in
    let short = ap length steps in
    let gone = c.in-Some.ensures.steps.1 in
    let room = at.invariant.room in
    let serials = at.invariant.serials (omega arith) in
    let greatest = at.invariant.greatest (omega arith) in
    let spare = c.enter_draft.ensures.spare in
    let serial = c.enter_draft.ensures.next_serial in
    let number = c.enter_draft.ensures.number in
    let counted = at.invariant.counted in
    record {
      left = ap (λ (s : State). fold (enter_draft sbs) s (into_iter_items c.next.new.self)) c.enter_draft.ensures.state ∙ (sym (ap (λ (ds : List Draft). fold (enter_draft sbs) (site_state c.args.site.now at.table at.number) ds) steps) ∙ at.invariant.left);
      clock = c.enter_draft.ensures.clock ∙ at.invariant.clock;
      next_place = c.enter_draft.ensures.next_place ∙ at.invariant.next_place;
      ready = λ h. c.enter_draft.ensures.ready (at.invariant.ready h);
      marked = c.enter_draft.ensures.marked ∙ at.invariant.marked;
      room = omega arith;
      serials = λ _. omega arith;
      least = λ _. omega arith;
      greatest = λ _. omega arith;
      counted = omega arith;
    }

pub returns-clause-state : goal.returns-clause-state
returns-clause-state c =
    let at = c.loop-draft in
    let none = c.in-None.ensures.steps in
    let empty : into_iter_items at.draft-iterator ≡ [] = nothing_left _ (sym at.invariant.counted ∙ none.0) in
    rw (← c.into_iter-draft-iterator.ensures.into_iter_gives.0) (rw empty at at.invariant.left)
