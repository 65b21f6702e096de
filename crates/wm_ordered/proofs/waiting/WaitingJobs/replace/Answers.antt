use Rattle.std.proofs.Common.{◌≡◌, ℕ, nat_eq, List, Some, sym, ap, subst, ◌∙◌, arith}
use Rattle.std.specs.Ordering.{nat_cmp}
use Rattle.wm_desc.specs.Sorted.{IsSortedOnce, with_key}
use Rattle.wm_ordered.proofs.Keyed.{with_value-lacks}
use Rattle.wm_ordered.specs.declared.waiter.Waiter.{Waiter}
use Rattle.wm_ordered.specs.Keys.{waiters_of}
use Rattle.wm_ordered.specs.Moving.{Replaces}
use Rattle.wm_ordered.specs.Waiting.{Waiting, serial_of, HasOwnPlace, replaced}
use Rattle.wm_ordered.proofs.Agreement.{agrees-replace, agrees-same}
use Rattle.wm_ordered.proofs.Rows.{length-waiters, value-waiter, waiters-replaced}
use Rattle.wm_ordered.proofs.waiting.WaitingJobs.replace.Goals as goal

pub invariant_of-self : goal.invariant_of-self
invariant_of-self c =
    agrees-same c.self.inside.all c.self.inside.turns c.self.inside.early c.self.inside.lines c.self.inside.clock c.self.inside.room c.self.invariant c.set.new.self
    (c.set.ensures.items ∙ with_value-lacks nat_eq c.args.waiter.serial c.args.waiter c.self.inside.all.items (sym c.in_default.ensures.was)) c.set.ensures.spare

pub returns-in_default-clause-items : goal.returns-in_default-clause-items
returns-in_default-clause-items c =
    ap (λ (l : List (ℕ × Waiter)). waiters_of l) c.set.ensures.items ∙ (waiters-replaced c.self.inside.all.items c.self.invariant.keyed c.args.waiter ∙ ap (λ (p : Waiting). replaced c.args.waiter p.items) c.self.view_is)

pub relist-requires-clause-turns : goal.relist-requires-clause-turns
relist-requires-clause-turns c =
    let items = waiters_of c.self.inside.all.items in
    let serials = subst (λ (p : Waiting). IsSortedOnce serial_of nat_cmp p.items) (sym c.self.view_is) c.len.ensures.sorted in
    let own : HasOwnPlace c.args.waiter items = subst (λ (p : Waiting). HasOwnPlace c.args.waiter p.items) (sym c.self.view_is) c.requires.place in
    let found : with_key serial_of nat_eq c.args.waiter.serial items ≡ Some c.in-Some.old = sym (c.in-Some.ensures.was ∙ value-waiter c.self.inside.all.items c.self.invariant.keyed nat_eq c.args.waiter.serial) in
    let replaces : Replaces c.args.waiter c.in-Some.old items = record { old_one = record { sorted = serials; places = c.self.invariant.places; found = found }; own = own } in
    let n = length-waiters c.self.inside.all.items in
    record { items = items; replaces = replaces; index = c.self.invariant.turns; room = omega (arith, n, c.self.invariant.room_in_turns) }

pub relist-requires-clause-early : goal.relist-requires-clause-early
relist-requires-clause-early c =
    let items = waiters_of c.self.inside.all.items in
    let serials = subst (λ (p : Waiting). IsSortedOnce serial_of nat_cmp p.items) (sym c.self.view_is) c.len.ensures.sorted in
    let own : HasOwnPlace c.args.waiter items = subst (λ (p : Waiting). HasOwnPlace c.args.waiter p.items) (sym c.self.view_is) c.requires.place in
    let found : with_key serial_of nat_eq c.args.waiter.serial items ≡ Some c.in-Some.old = sym (c.in-Some.ensures.was ∙ value-waiter c.self.inside.all.items c.self.invariant.keyed nat_eq c.args.waiter.serial) in
    let replaces : Replaces c.args.waiter c.in-Some.old items = record { old_one = record { sorted = serials; places = c.self.invariant.places; found = found }; own = own } in
    let n = length-waiters c.self.inside.all.items in
    record { items = items; replaces = replaces; index = c.self.invariant.early; room = omega (arith, n, c.self.invariant.room_in_early) }

pub move_line-requires : goal.move_line-requires
move_line-requires c =
    let items = waiters_of c.self.inside.all.items in
    let serials = subst (λ (p : Waiting). IsSortedOnce serial_of nat_cmp p.items) (sym c.self.view_is) c.len.ensures.sorted in
    let own : HasOwnPlace c.args.waiter items = subst (λ (p : Waiting). HasOwnPlace c.args.waiter p.items) (sym c.self.view_is) c.requires.place in
    let found : with_key serial_of nat_eq c.args.waiter.serial items ≡ Some c.in-Some.old = sym (c.in-Some.ensures.was ∙ value-waiter c.self.inside.all.items c.self.invariant.keyed nat_eq c.args.waiter.serial) in
    let replaces : Replaces c.args.waiter c.in-Some.old items = record { old_one = record { sorted = serials; places = c.self.invariant.places; found = found }; own = own } in
    let n = length-waiters c.self.inside.all.items in
    record { items = items; replaces = replaces; index = c.self.invariant.lines; room = omega (arith, n, c.self.invariant.room_in_lines) }

pub invariant_of-self-2 : goal.invariant_of-self-2
invariant_of-self-2 c =
    let items = waiters_of c.self.inside.all.items in
    let serials = subst (λ (p : Waiting). IsSortedOnce serial_of nat_cmp p.items) (sym c.self.view_is) c.len.ensures.sorted in
    let own : HasOwnPlace c.args.waiter items = subst (λ (p : Waiting). HasOwnPlace c.args.waiter p.items) (sym c.self.view_is) c.requires.place in
    let found : with_key serial_of nat_eq c.args.waiter.serial items ≡ Some c.in-Some.old = sym (c.in-Some.ensures.was ∙ value-waiter c.self.inside.all.items c.self.invariant.keyed nat_eq c.args.waiter.serial) in
    let replaces : Replaces c.args.waiter c.in-Some.old items = record { old_one = record { sorted = serials; places = c.self.invariant.places; found = found }; own = own } in
    agrees-replace c.self.inside.all c.self.inside.turns c.self.inside.early c.self.inside.lines c.self.inside.clock c.self.inside.room c.self.invariant c.args.waiter c.set.new.self c.relist.new.turns c.relist.new.early c.move_line.new.lines own (c.get.ensures.least, c.get.ensures.greatest)
    c.set.ensures.items c.set.ensures.spare (c.relist.ensures.turns items replaces c.self.invariant.turns) (c.relist.ensures.early items replaces c.self.invariant.early) (c.move_line.ensures.index items replaces c.self.invariant.lines)
    c.relist.ensures.capacity_turns c.relist.ensures.capacity_early c.move_line.ensures.capacity

pub returns-clause-items : goal.returns-clause-items
returns-clause-items c =
    ap (λ (l : List (ℕ × Waiter)). waiters_of l) c.set.ensures.items ∙ (waiters-replaced c.self.inside.all.items c.self.invariant.keyed c.args.waiter ∙ ap (λ (p : Waiting). replaced c.args.waiter p.items) c.self.view_is)
