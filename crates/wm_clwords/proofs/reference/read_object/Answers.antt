use Rattle.wm_clwords.proofs.References.{object_some, object_all}
use Rattle.wm_clwords.proofs.reference.read_object.Goals as goal

pub returns : goal.returns
returns c =
    record {
      some = object_some c.args.item.now c.object_of.result c.object_of.ensures;
      all = object_all c.args.item.now c.object_of.result c.object_of.ensures;
      value = c.object_of.ensures;
    }
