use Rattle.wm_ordered.proofs.Placed.{placed, placed_elsewhere}
use Rattle.wm_ordered.proofs.edit.put_here.Goals as goal

pub returns-clause-items : goal.returns-clause-items
returns-clause-items g c = λ places pairs tree free.
    placed c.args.nodes.now _ _ c.args.place places (c.split-left.ensures.elsewhere places pairs tree) c.put_node.ensures.others free (c.split-left.ensures.parts places pairs tree) c.put_node.ensures.here

pub returns-clause-elsewhere : goal.returns-clause-elsewhere
returns-clause-elsewhere g c = λ places pairs tree free.
    placed_elsewhere c.args.nodes.now _ _ c.args.place places (c.split-left.ensures.elsewhere places pairs tree) c.put_node.ensures.others
