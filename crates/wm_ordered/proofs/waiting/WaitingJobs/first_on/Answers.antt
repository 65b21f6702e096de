use Rattle.std.proofs.Common.{◌≡◌, Option, None, ap, sym, ◌∙◌, subst, nat_eq}
use Rattle.std.specs.Ordering.{nat_cmp}
use Rattle.wm_desc.specs.Sorted.{IsSortedOnce, with_key}
use Rattle.wm_ordered.specs.Ordered.{first_from}
use Rattle.wm_ordered.specs.declared.waiter.Waiter.{Waiter}
use Rattle.wm_ordered.specs.Keys.{waiters_of}
use Rattle.wm_ordered.specs.Orders.{spot_cmp}
use Rattle.wm_ordered.specs.Waiting.{Waiting, serial_of, first_on}
use Rattle.wm_ordered.proofs.Lines.{first-absent, first-other, first-found}
use Rattle.wm_ordered.proofs.Orders.{begin_of}
use Rattle.wm_ordered.proofs.waiting.WaitingJobs.first_on.Goals as goal

pub returns-in_default : goal.returns-in_default
returns-in_default c =
    let begin = ap (λ n. first_from spot_cmp (begin_of c.args.jobq.now n) c.self.inside.lines.items) (sym c.new.ensures) in
    subst (λ (p : Waiting). ◌≡◌ {A = Option Waiter} None (first_on c.args.jobq.now p.items)) c.self.view_is
    (sym (first-absent c.args.jobq.now (waiters_of c.self.inside.all.items) c.self.inside.lines.items c.self.invariant.priorities c.self.invariant.lines c.len-2.ensures.sorted (begin ∙ sym c.in_default.ensures)))

pub returns-then-is_on : goal.returns-then-is_on
returns-then-is_on c =
    let begin = ap (λ n. first_from spot_cmp (begin_of c.args.jobq.now n) c.self.inside.lines.items) (sym c.new.ensures) in
    let serials = subst (λ (p : Waiting). IsSortedOnce serial_of nat_cmp p.items) (sym c.self.view_is) c.len.ensures.sorted in
    let found = first-found c.args.jobq.now (waiters_of c.self.inside.all.items) c.self.inside.lines.items c.self.invariant.priorities c.self.invariant.lines c.len-2.ensures.sorted c.self.invariant.places serials (c.in-Some.spot, c.in-Some.serial) (begin ∙ sym c.in-Some.ensures) (sym c.if-is_on.ensures) in
    c.waiter.ensures ∙ sym (subst (λ (p : Waiting). first_on c.args.jobq.now p.items ≡ with_key serial_of nat_eq c.in-Some.serial p.items) c.self.view_is found)

pub returns-else-is_on : goal.returns-else-is_on
returns-else-is_on c =
    let begin = ap (λ n. first_from spot_cmp (begin_of c.args.jobq.now n) c.self.inside.lines.items) (sym c.new.ensures) in
    let serials = subst (λ (p : Waiting). IsSortedOnce serial_of nat_cmp p.items) (sym c.self.view_is) c.len.ensures.sorted in
    subst (λ (p : Waiting). ◌≡◌ {A = Option Waiter} None (first_on c.args.jobq.now p.items)) c.self.view_is
    (sym (first-other c.args.jobq.now (waiters_of c.self.inside.all.items) c.self.inside.lines.items c.self.invariant.priorities c.self.invariant.lines c.len-2.ensures.sorted c.self.invariant.places serials (c.in-Some.spot, c.in-Some.serial) (begin ∙ sym c.in-Some.ensures) (sym c.if-is_on.ensures)))
