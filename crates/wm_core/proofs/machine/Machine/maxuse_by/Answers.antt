use Rattle.std.proofs.Common.{◌≡◌, ◌∙◌, Some, None, sym, ap}
use Rattle.std.specs.Option.{option_and_then, option_copied}
use Rattle.wm_desc.specs.Table.{object_named}
use Rattle.wm_law.specs.Launch.{pre_entry, pre_entry_for}
use Rattle.wm_law.specs.Uses.{maxuse_of}
use Rattle.wm_core.specs.MachineInside.{state_of}
use Rattle.wm_core.proofs.machine.Machine.maxuse_by.Goals as goal

pub returns-in-None : goal.returns-in-None
returns-in-None c =
    let s = state_of c.self.inside in
    let sbs = c.in-Pre.sbs in
    let pgm = c.in-Pre.pgm in
    let described : object_named sbs s.objects.sbsds ≡ Some c.in-Some.description.now = sym c.object.ensures ∙ ap option_copied c.in-Some.is in
    let none : pre_entry s sbs pgm ≡ None =
    ap (option_and_then (pre_entry_for pgm)) described ∙ (sym c.get.ensures ∙ ap option_copied c.in-None.is) in
    rw (← c.self.view_is, c.in-Pre.is) (sym (ap maxuse_of none))

pub returns-in-Some-get : goal.returns-in-Some-get
returns-in-Some-get c =
    let s = state_of c.self.inside in
    let sbs = c.in-Pre.sbs in
    let pgm = c.in-Pre.pgm in
    let described : object_named sbs s.objects.sbsds ≡ Some c.in-Some.description.now = sym c.object.ensures ∙ ap option_copied c.in-Some.is in
    let found : pre_entry s sbs pgm ≡ Some c.in-Some-get.entry.now =
    ap (option_and_then (pre_entry_for pgm)) described ∙ (sym c.get.ensures ∙ ap option_copied c.in-Some-get.is) in
    rw (← c.self.view_is, c.in-Pre.is) (sym (ap maxuse_of found))
