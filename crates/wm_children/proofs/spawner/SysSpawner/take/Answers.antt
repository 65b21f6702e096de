use Rattle.std.proofs.Common.{◌==◌, ap, sym, ◌∙◌}
use Rattle.std.specs.List.{position}
use Rattle.wm_children.specs.Programs.{serials_of}
use Rattle.wm_children.proofs.Programs.{map_remove, place_none, place_there}
use Rattle.wm_children.proofs.spawner.SysSpawner.take.Goals as goal

pub returns-in-Some-clause-gives : goal.returns-in-Some-clause-gives
returns-in-Some-clause-gives g c =
    let children = c.args.self.now.children.items in
    let at = ap (position (λ child. child.serial == c.args.serial)) (sym c.deref.ensures.value) ∙ sym c.place_of.ensures ∙ c.in-Some.is in
    let found = place_there children c.args.serial c.in-Some.at at in
    (c.in-Some.at, found.1, ap serials_of c.remove.ensures.items ∙ map_remove (λ child. child.serial) children c.in-Some.at found.0)

pub returns-in-None-clause-none : goal.returns-in-None-clause-none
returns-in-None-clause-none g c =
    let none = ap (position (λ child. child.serial == c.args.serial)) (sym c.deref.ensures.value) ∙ sym c.place_of.ensures ∙ c.in-None.is in
    place_none c.args.self.now.children.items c.args.serial none
