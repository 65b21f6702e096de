use Rattle.std.proofs.Common.{◌≡◌, ◌∙◌, ap, List, ℕ}
use Rattle.wm_desc.specs.Objects.{with_program}
use Rattle.wm_desc.specs.Refusals.{program_refusal}
use Rattle.wm_law.specs.Making.{made_objects}
use Rattle.wm_making.proofs.making.make_program.Goals as goal

pub returns-clause-objects : goal.returns-clause-objects
returns-clause-objects c =
    let objects = c.args.objects.now in
    let command = c.args.command.now in
    let refusal = program_refusal command.pgm objects.programs in
    let same : c.in_ok-clone.field-0 ≡ command.path = c.in_ok-clone.ensures.cases in
    let made = (c.in_ok-reply.ensures.objects refusal objects (with_program command.pgm c.in_ok-clone.field-0 objects) c.add_program.new.self c.add_program.ensures.answer c.add_program.ensures.ok c.add_program.ensures.err).0 in
    made ∙ ap (λ (path : List ℕ). made_objects objects (with_program command.pgm path objects) refusal) same
