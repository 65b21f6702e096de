use Rattle.wm_base.specs.declared.refusal.Kind.TheVariants as kind
use Rattle.wm_desc.specs.Objects.{with_sbsd}
use Rattle.wm_desc.specs.Refusals.{object_refusal}
use Rattle.wm_making.proofs.making.make_description.Goals as goal

pub returns-clause-objects : goal.returns-clause-objects
returns-clause-objects c =
    let objects = c.args.objects.now in
    let command = c.args.command.now in
    let refusal = object_refusal kind.Sbsd command.sbsd objects.sbsds in
    (c.in_ok-reply.ensures.objects refusal objects (with_sbsd command.sbsd command.maxjobs objects) c.add_sbsd.new.self c.add_sbsd.ensures.answer c.add_sbsd.ensures.ok c.add_sbsd.ensures.err).0
