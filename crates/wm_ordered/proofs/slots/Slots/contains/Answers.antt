use Rattle.std.proofs.Common.{ap, sym, ◌∙◌, is_some, nat_eq}
use Rattle.wm_ordered.proofs.Tested.{list_any-part}
use Rattle.wm_ordered.proofs.slots.Slots.contains.Goals as goal

pub returns : goal.returns
returns g c =
    c.is_some.ensures ∙ (ap is_some c.get.ensures ∙ sym (list_any-part (λ pair. nat_eq pair.0 c.args.serial) (λ pair. pair.1) c.args.self.now.items))
