use Rattle.std.proofs.Common.{◌∙◌, ap}
use Rattle.wm_base.specs.declared.job.Class.{Class}
use Rattle.wm_base.specs.declared.refusal.Kind.TheVariants as kind
use Rattle.wm_desc.specs.Objects.{with_class}
use Rattle.wm_desc.specs.Refusals.{object_refusal}
use Rattle.wm_law.specs.Making.{made_objects}
use Rattle.wm_making.proofs.making.make_class.Goals as goal

pub returns-clause-objects : goal.returns-clause-objects
returns-clause-objects c =
    let objects = c.args.objects.now in
    let command = c.args.command.now in
    let refusal = object_refusal kind.Cls command.cls objects.classes in
    let made = (c.in_ok-reply.ensures.objects refusal objects (with_class command.cls c.class_of.result objects) c.add_class.new.self c.add_class.ensures.answer c.add_class.ensures.ok c.add_class.ensures.err).0 in
    made ∙ ap (λ (cls : Class). made_objects objects (with_class command.cls cls objects) refusal) c.class_of.ensures
