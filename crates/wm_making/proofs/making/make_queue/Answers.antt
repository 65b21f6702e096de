use Rattle.wm_base.specs.declared.refusal.Kind.TheVariants as kind
use Rattle.wm_desc.specs.Objects.{with_jobq}
use Rattle.wm_desc.specs.Refusals.{object_refusal}
use Rattle.wm_making.proofs.making.make_queue.Goals as goal

pub returns-clause-objects : goal.returns-clause-objects
returns-clause-objects c =
    let objects = c.args.objects.now in
    let command = c.args.command.now in
    let refusal = object_refusal kind.Jobq command.jobq objects.jobqs in
    (c.in_ok-reply.ensures.objects refusal objects (with_jobq command.jobq objects) c.add_jobq.new.self c.add_jobq.ensures.answer c.add_jobq.ensures.ok c.add_jobq.ensures.err).0
