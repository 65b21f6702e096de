use Rattle.std.proofs.Common.{ap, ◌∙◌, nat_eq}
use Rattle.wm_desc.specs.Sorted.{with_key}
use Rattle.wm_ordered.specs.Waiting.{Waiting, serial_of}
use Rattle.wm_ordered.proofs.Rows.{value-waiter}
use Rattle.wm_ordered.proofs.waiting.WaitingJobs.waiter.Goals as goal

pub returns : goal.returns
returns c =
    c.get.ensures ∙ (value-waiter c.self.inside.all.items c.self.invariant.keyed nat_eq c.args.serial ∙ ap (λ (p : Waiting). with_key serial_of nat_eq c.args.serial p.items) c.self.view_is)
