use Rattle.std.proofs.Common.{◌≡◌, ℕ, nat_eq, List, sym, ap, subst, ◌∙◌}
use Rattle.wm_desc.specs.Sorted.{with_key, removed}
use Rattle.wm_ordered.specs.Ordered.{key_of}
use Rattle.wm_ordered.specs.declared.keys.Spot.{Spot}
use Rattle.wm_ordered.specs.declared.keys.Rise.{Rise}
use Rattle.wm_ordered.specs.declared.waiter.Waiter.{Waiter}
use Rattle.wm_ordered.specs.Keys.{waiters_of}
use Rattle.wm_ordered.specs.Orders.{same_spot, same_rise}
use Rattle.wm_ordered.specs.Waiting.{Waiting, serial_of}
use Rattle.wm_ordered.proofs.Agreement.{agrees-lacks, agrees-remove}
use Rattle.wm_ordered.proofs.Rows.{value-waiter, waiters-removed}
use Rattle.wm_ordered.proofs.waiting.WaitingJobs.remove.Goals as goal

pub invariant_of-self : goal.invariant_of-self
invariant_of-self c =
    agrees-lacks c.self.inside.all c.self.inside.turns c.self.inside.early c.self.inside.lines c.self.inside.clock c.self.inside.room c.self.invariant c.args.serial c.remove.new.self (sym c.in_default.ensures.value) c.remove.ensures.items c.in_default.ensures.spare

pub returns-in_default-clause-waiter : goal.returns-in_default-clause-waiter
returns-in_default-clause-waiter c =
    c.in_default.ensures.value ∙ (value-waiter c.self.inside.all.items c.self.invariant.keyed nat_eq c.args.serial ∙ ap (λ (p : Waiting). with_key serial_of nat_eq c.args.serial p.items) c.self.view_is)

pub returns-in_default-clause-items : goal.returns-in_default-clause-items
returns-in_default-clause-items c =
    ap (λ (l : List (ℕ × Waiter)). waiters_of l) c.remove.ensures.items ∙ (waiters-removed c.self.inside.all.items c.self.invariant.keyed nat_eq c.args.serial ∙ ap (λ (p : Waiting). removed serial_of nat_eq c.args.serial p.items) c.self.view_is)

pub invariant_of-self-2 : goal.invariant_of-self-2
invariant_of-self-2 c =
    agrees-remove c.self.inside.all c.self.inside.turns c.self.inside.early c.self.inside.lines c.self.inside.clock c.self.inside.room c.self.invariant c.args.serial c.in-Some.waiter c.len.ensures.sorted (sym c.in-Some.ensures.value)
    c.remove.new.self c.take_out.new.rows c.take_out-2.new.rows c.take_out-3.new.rows c.remove.ensures.items c.in-Some.ensures.spare
    (subst (λ (k : Spot). c.take_out.new.rows.items ≡ removed key_of same_spot k c.self.inside.turns.items) c.of.ensures c.take_out.ensures.items) (subst (λ (k : Rise). c.take_out-2.new.rows.items ≡ removed key_of same_rise k c.self.inside.early.items) c.of-2.ensures c.take_out-2.ensures.items)
    (subst (λ (k : Spot). c.take_out-3.new.rows.items ≡ removed key_of same_spot k c.self.inside.lines.items) c.of-3.ensures c.take_out-3.ensures.items) c.take_out.ensures.capacity c.take_out-2.ensures.capacity c.take_out-3.ensures.capacity

pub returns-clause-waiter : goal.returns-clause-waiter
returns-clause-waiter c =
    c.in-Some.ensures.value ∙ (value-waiter c.self.inside.all.items c.self.invariant.keyed nat_eq c.args.serial ∙ ap (λ (p : Waiting). with_key serial_of nat_eq c.args.serial p.items) c.self.view_is)

pub returns-clause-items : goal.returns-clause-items
returns-clause-items c =
    ap (λ (l : List (ℕ × Waiter)). waiters_of l) c.remove.ensures.items ∙ (waiters-removed c.self.inside.all.items c.self.invariant.keyed nat_eq c.args.serial ∙ ap (λ (p : Waiting). removed serial_of nat_eq c.args.serial p.items) c.self.view_is)
