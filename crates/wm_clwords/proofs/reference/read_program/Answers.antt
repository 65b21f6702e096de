use Rattle.wm_clwords.proofs.References.{program_some, program_all}
use Rattle.wm_clwords.proofs.reference.read_program.Goals as goal

pub returns : goal.returns
returns c =
    record {
      some = program_some c.args.item.now c.program_of.result c.program_of.ensures;
      all = program_all c.args.item.now c.program_of.result c.program_of.ensures;
      value = c.program_of.ensures;
    }
