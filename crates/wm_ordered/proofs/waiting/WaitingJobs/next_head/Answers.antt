use Rattle.std.proofs.Common.{◌≡◌, Option, Some, MatchOption, sym, ◌∙◌, subst, nat_eq}
use Rattle.std.specs.Ordering.{nat_cmp}
use Rattle.wm_desc.specs.Sorted.{IsSortedOnce, with_key}
use Rattle.wm_ordered.specs.declared.waiter.Waiter.{Waiter}
use Rattle.wm_ordered.specs.Keys.{waiters_of}
use Rattle.wm_ordered.specs.NextHeads.{HasNoHead, IsNextHead}
use Rattle.wm_ordered.specs.Waiting.{Waiting, serial_of}
use Rattle.wm_ordered.proofs.NextHeads.{next_head-absent, next_head-other, next_head-found}
use Rattle.wm_ordered.proofs.waiting.WaitingJobs.next_head.Goals as goal

pub returns-in_default-clause-head : goal.returns-in_default-clause-head
returns-in_default-clause-head g c =
    subst (λ (p : Waiting). HasNoHead c.args.jobq.now c.args.pty p.clock p.items) c.self.view_is
    (next_head-absent c.args.jobq.now c.args.pty c.self.inside.clock (waiters_of c.self.inside.all.items) c.self.inside.turns.items c.self.invariant.turns c.len-2.ensures.sorted (sym c.in_default.ensures))

pub returns-then-is_on-clause-head : goal.returns-then-is_on-clause-head
returns-then-is_on-clause-head g c =
    let serials = subst (λ (p : Waiting). IsSortedOnce serial_of nat_cmp p.items) (sym c.self.view_is) c.len.ensures.sorted in
    let found = next_head-found c.args.jobq.now c.args.pty c.self.inside.clock (waiters_of c.self.inside.all.items) c.self.inside.turns.items c.self.invariant.turns c.len-2.ensures.sorted c.self.invariant.places serials (c.in-Some.spot, c.in-Some.serial) (sym c.in-Some.ensures) (sym c.if-is_on.ensures) in
    let is = subst (λ (p : Waiting). with_key serial_of nat_eq c.in-Some.serial p.items ≡ Some found.0) c.self.view_is found.1 in
    subst (λ (o : Option Waiter). MatchOption o (HasNoHead c.args.jobq.now c.args.pty c.args.self.now.clock c.args.self.now.items) (IsNextHead c.args.jobq.now c.args.pty c.args.self.now.clock c.args.self.now.items)) (sym (c.waiter.ensures ∙ is))
    (subst (λ (p : Waiting). IsNextHead c.args.jobq.now c.args.pty p.clock p.items found.0) c.self.view_is found.2)

pub returns-else-is_on-clause-head : goal.returns-else-is_on-clause-head
returns-else-is_on-clause-head g c =
    let serials = subst (λ (p : Waiting). IsSortedOnce serial_of nat_cmp p.items) (sym c.self.view_is) c.len.ensures.sorted in
    subst (λ (p : Waiting). HasNoHead c.args.jobq.now c.args.pty p.clock p.items) c.self.view_is
    (next_head-other c.args.jobq.now c.args.pty c.self.inside.clock (waiters_of c.self.inside.all.items) c.self.inside.turns.items c.self.invariant.turns c.len-2.ensures.sorted c.self.invariant.places serials (c.in-Some.spot, c.in-Some.serial) (sym c.in-Some.ensures) (sym c.if-is_on.ensures))
