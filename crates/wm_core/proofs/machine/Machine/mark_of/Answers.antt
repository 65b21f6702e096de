use Rattle.std.proofs.Common.{◌∙◌}
use Rattle.wm_core.specs.MachineInside.{state_of}
use Rattle.wm_core.proofs.Undone.{same_mark}
use Rattle.wm_core.proofs.machine.Machine.mark_of.Goals as goal

pub returns : goal.returns
returns c =
    let s = state_of c.self.inside in
    rw (← c.self.view_is)
    (same_mark s c.args.call.now c.in_ok-saved.saved c.from-started.result c.from-stopped.result c.from-evokes.result c.in_ok-saved.ensures
    (c.from-started.ensures ∙ (c.in_ok-to_vec.ensures.items_if_clones_equal (λ x y e. e) ∙ c.as_slice.ensures))
    (c.from-stopped.ensures ∙ (c.in_ok-to_vec-2.ensures.items_if_clones_equal (λ x y e. e) ∙ c.as_slice-2.ensures))
    (c.from-evokes.ensures ∙ (c.in_ok-to_vec-3.ensures.items_if_clones_equal (λ x y e. e) ∙ c.as_slice-3.ensures)))
