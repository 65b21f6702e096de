use Rattle.std.proofs.Common.{◌≡◌, length, ap, arith, List, ℕ}
use Rattle.wm_ordered.specs.declared.waiter.Waiter.{Waiter}
use Rattle.wm_ordered.specs.declared.keys.Spot.{Spot}
use Rattle.wm_ordered.specs.declared.keys.Rise.{Rise}
use Rattle.wm_ordered.proofs.Agreement.{agrees-roomier}
use Rattle.wm_ordered.proofs.waiting.WaitingJobs.reserve.Goals as goal

pub invariant_of-self-in_err-reserve-4 : goal.invariant_of-self-in_err-reserve-4
invariant_of-self-in_err-reserve-4 c =
    let n : length c.reserve-4.new.self.items ≡ length c.self.inside.all.items = ap (λ (l : List (ℕ × Waiter)). length l) c.reserve-4.ensures.items in
    let n_turns : length c.reserve.new.self.items ≡ length c.self.inside.turns.items = ap (λ (l : List (Spot × ℕ)). length l) c.reserve.ensures.items in
    let n_early : length c.reserve-2.new.self.items ≡ length c.self.inside.early.items = ap (λ (l : List (Rise × Unit {0})). length l) c.reserve-2.ensures.items in
    let n_lines : length c.reserve-3.new.self.items ≡ length c.self.inside.lines.items = ap (λ (l : List (Spot × ℕ)). length l) c.reserve-3.ensures.items in
    agrees-roomier c.self.inside.all c.self.inside.turns c.self.inside.early c.self.inside.lines c.self.inside.clock c.self.inside.room c.self.invariant c.reserve-4.new.self c.reserve.new.self c.reserve-2.new.self c.reserve-3.new.self c.self.inside.room
    c.reserve-4.ensures.items c.reserve.ensures.items c.reserve-2.ensures.items c.reserve-3.ensures.items
    (omega (arith, n, c.self.invariant.most)) (omega (arith, n, c.reserve-4.ensures.spare, c.self.invariant.room)) (omega (arith, n, n_turns, c.reserve.ensures.spare, c.self.invariant.room_in_turns)) (omega (arith, n, n_early, c.reserve-2.ensures.spare, c.self.invariant.room_in_early)) (omega (arith, n, n_lines, c.reserve-3.ensures.spare, c.self.invariant.room_in_lines))

pub invariant_of-self-2 : goal.invariant_of-self-2
invariant_of-self-2 c =
    let n : length c.reserve-4.new.self.items ≡ length c.self.inside.all.items = ap (λ (l : List (ℕ × Waiter)). length l) c.reserve-4.ensures.items in
    let n_turns : length c.reserve.new.self.items ≡ length c.self.inside.turns.items = ap (λ (l : List (Spot × ℕ)). length l) c.reserve.ensures.items in
    let n_early : length c.reserve-2.new.self.items ≡ length c.self.inside.early.items = ap (λ (l : List (Rise × Unit {0})). length l) c.reserve-2.ensures.items in
    let n_lines : length c.reserve-3.new.self.items ≡ length c.self.inside.lines.items = ap (λ (l : List (Spot × ℕ)). length l) c.reserve-3.ensures.items in
    let sum = c.in-Some.ensures in
    let turns = c.lacking.ensures in
    let early = c.lacking-2.ensures in
    let lines = c.lacking-3.ensures in
    agrees-roomier c.self.inside.all c.self.inside.turns c.self.inside.early c.self.inside.lines c.self.inside.clock c.self.inside.room c.self.invariant c.reserve-4.new.self c.reserve.new.self c.reserve-2.new.self c.reserve-3.new.self c.args.more
    c.reserve-4.ensures.items c.reserve.ensures.items c.reserve-2.ensures.items c.reserve-3.ensures.items
    (omega (arith, n, sum.0, sum.1, c.len.ensures.len)) (omega (arith, c.in_ok-reserve-4.ensures.ok))
    (omega (arith, n, n_turns, sum.1, turns, c.len.ensures.len, c.len-2.ensures.len, c.in_ok-reserve.ensures.ok)) (omega (arith, n, n_early, sum.1, early, c.len.ensures.len, c.len-3.ensures.len, c.in_ok-reserve-2.ensures.ok)) (omega (arith, n, n_lines, sum.1, lines, c.len.ensures.len, c.len-4.ensures.len, c.in_ok-reserve-3.ensures.ok))
