use Rattle.std.proofs.Common.{List, subst, sym, ap, ◌∙◌}
use Rattle.wm_traits.specs.declared.row.RowChange.{RowChange}
use Rattle.wm_desc.specs.declared.objects.Objects.{Objects}
use Rattle.wm_law.specs.Machine.{step}
use Rattle.wm_law.specs.declared.state.State.{State}
use Rattle.wm_tables.specs.Changes.{removed_number}
use Rattle.wm_floor.specs.Keeping.{telling, IsKept}
use Rattle.wm_floor.specs.Stored.{Stored, IsInStep}
use Rattle.wm_floor.specs.Taken.{IsLastStep}
use Rattle.wm_tables.proofs.Steps.{kept_of}
use Rattle.wm_floor.proofs.Steps.{step_kept_ranges, step_kept, step_in_step, IsStoredStep}
use Rattle.wm_floor.proofs.stored.StoredCore.step.Given.{Over}
use Rattle.wm_floor.proofs.stored.StoredCore.step.Goals as goal

-- the changes that were made
made : (g : Over) (c : goal.In-Ok g) →
    let T = telling g.K.Keeper.tables g.K.Keeper.trail in
    (changes : List RowChange) × IsStoredStep c.self.inside.core.state c.args.caller c.args.call.now c.args.now changes (T c.self.inside.keeper) (T c.keep_copied-kept.new.keeper)
made g c =
    let s = c.self.inside.core.state in
    let call = c.args.call.now in
    let t = step s c.args.caller call c.args.now in
    let last : IsLastStep s call t c.step.new.self c.in_ok-reply.reply c.removed_number-removed.result c.counts-before.result = record {
      reply = c.in_ok-reply.ensures.reply;
      before = c.in_ok-reply.ensures.before;
      state = c.in_ok-reply.ensures.state;
      removed = c.removed_number-removed.ensures ∙ ap (λ (o : Objects). removed_number o call) c.objects.ensures;
      counts = c.counts-before.ensures;
      was = kept_of s c.self.invariant.sound c.self.invariant.range;
      is = step_kept_ranges s c.args.caller call c.args.now c.requires.ranges c.get-moment.ensures.range c.self.invariant.sound c.self.invariant.range;
    } in
    let applied = c.in-Ok.ensures.ok s t last in (
      applied.0,
      record {
        was = c.self.invariant;
        fit = c.requires.ranges;
        late = c.get-moment.ensures.range;
        are = applied.1;
        applied = applied.2;
        both = g.met.K.Keeper.trail_with_tables c.keep_copied-kept.new.keeper;
      },
    )

pub invariant_of-self-in-Ok : goal.invariant_of-self-in-Ok
invariant_of-self-in-Ok g c =
    let m = made g c in
    let T = telling g.K.Keeper.tables g.K.Keeper.trail in
    let now = step_in_step c.self.inside.core.state c.args.caller c.args.call.now c.args.now m.0 (T c.self.inside.keeper) (T c.keep_copied-kept.new.keeper) m.1 in
    subst (λ (u : State). IsInStep u (g.K.Keeper.tables c.keep_copied-kept.new.keeper)) (sym c.in_ok-reply.ensures.state) now

pub returns-in-Ok-clause-kept : goal.returns-in-Ok-clause-kept
returns-in-Ok-clause-kept g c =
    let m = made g c in
    let T = telling g.K.Keeper.tables g.K.Keeper.trail in
    let s = c.self.inside.core.state in
    let now = step_kept s c.args.caller c.args.call.now c.args.now m.0 (T c.self.inside.keeper) (T c.keep_copied-kept.new.keeper) m.1 in
    let kept = subst (λ (u : State). IsKept s u (T c.self.inside.keeper) (T c.keep_copied-kept.new.keeper)) (sym c.in_ok-reply.ensures.state) now in
    subst (λ (was : Stored _). IsKept was.state c.step.new.self.state (T was.keeper) (T c.keep_copied-kept.new.keeper)) c.self.view_is kept
