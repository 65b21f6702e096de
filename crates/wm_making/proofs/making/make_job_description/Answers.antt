use Rattle.std.proofs.Common.{◌∙◌, ap}
use Rattle.wm_base.specs.declared.refusal.Kind.TheVariants as kind
use Rattle.wm_desc.specs.declared.description.Jobd.{Jobd}
use Rattle.wm_desc.specs.Objects.{with_jobd}
use Rattle.wm_desc.specs.Refusals.{object_refusal}
use Rattle.wm_law.specs.Making.{made_objects}
use Rattle.wm_making.proofs.making.make_job_description.Goals as goal

pub returns-clause-objects : goal.returns-clause-objects
returns-clause-objects c =
    let objects = c.args.objects.now in
    let command = c.args.command.now in
    let refusal = object_refusal kind.Jobd command.jobd objects.jobds in
    let jobd = c.in_ok-jobd_of.field-0 in
    let made = (c.in_ok-reply.ensures.objects refusal objects (with_jobd command.jobd jobd objects) c.add_jobd.new.self c.add_jobd.ensures.answer c.add_jobd.ensures.ok c.add_jobd.ensures.err).0 in
    made ∙ ap (λ (d : Jobd). made_objects objects (with_jobd command.jobd d objects) refusal) c.in_ok-jobd_of.ensures
