use Rattle.std.proofs.Common.{◌+◌, ◌≤◌, length, nat_eq, refl, sym, subst, ◌∙◌, arith}
use Rattle.std.specs.Ordering.{nat_cmp}
use Rattle.wm_desc.specs.Sorted.{place_of, removed}
use Rattle.wm_ordered.specs.Keys.{nothing_of}
use Rattle.wm_ordered.specs.Ordered.{key_of}
use Rattle.wm_ordered.proofs.Keyed.{lacks-removed, with_value-lacks}
use Rattle.wm_indexes.specs.declared.turn.Turn.{Turn}
use Rattle.wm_indexes.specs.Moments.{AreInRange, has_moment, is_to_kill, monitor_of, turn_of}
use Rattle.wm_indexes.specs.Rows.{HaveRows}
use Rattle.wm_indexes.specs.Turns.{same_turn, turn_cmp}
use Rattle.wm_indexes.proofs.KillRows.{kill_key}
use Rattle.wm_indexes.proofs.RowLemmas.{one-less, room-set, rows-lack, rows-put, rows-spare, rows-taken, set-again}
use Rattle.wm_indexes.proofs.TurnLemmas.{range-added, range-removed, turn_key}
use Rattle.wm_indexes.proofs.active.ActiveJobs.set.Goals as goal

pub invariant_of-self : goal.invariant_of-self
invariant_of-self c =
    let most = c.self.inside.most in
    let jobs = c.self.inside.jobs in
    let same = sym (c.set.ensures.items ∙ with_value-lacks nat_eq c.args.serial c.args.acting jobs.items (sym c.in_default.ensures.was)) in
    record {
      jobs = room-set most jobs c.set.new.self c.self.invariant.jobs c.args.serial c.args.acting c.set.ensures.items c.set.ensures.spare;
      moments = subst (λ l. HaveRows turn_of nothing_of has_moment most l c.self.inside.moments) same c.self.invariant.moments;
      range = subst AreInRange same c.self.invariant.range;
      kills = subst (λ l. HaveRows key_of monitor_of is_to_kill most l c.self.inside.kills) same c.self.invariant.kills;
    }

pub put_row-requires-clause-spare : goal.put_row-requires-clause-spare
put_row-requires-clause-spare c =
    let s = c.args.serial in
    let most = c.self.inside.most in
    let jobs = c.self.inside.jobs in
    let is = sym c.in-Some.ensures.was in
    let rest = removed key_of nat_eq s jobs.items in
    let fewer : length rest + 1 ≤ most = omega (arith, one-less s c.in-Some.was jobs.items c.len.ensures.sorted is, c.self.invariant.jobs.few) in
    rows-spare turn_of nothing_of has_moment turn_cmp same_turn turn_key most rest c.take_row.new.rows (rows-taken turn_of nothing_of has_moment turn_cmp same_turn turn_key most jobs.items c.self.inside.moments c.self.invariant.moments s c.in-Some.was c.len.ensures.sorted is c.is_some.result c.turn_of-before.result c.is_some.ensures c.turn_of-before.ensures.turn c.take_row.new.rows c.take_row.ensures.items c.take_row.ensures.capacity) c.len-2.ensures.sorted fewer

pub put_row-requires-clause-new : goal.put_row-requires-clause-new
put_row-requires-clause-new c =
    let s = c.args.serial in
    let most = c.self.inside.most in
    let jobs = c.self.inside.jobs in
    let is = sym c.in-Some.ensures.was in
    let rest = removed key_of nat_eq s jobs.items in
    rw c.turn_of-turn.ensures.turn (rows-lack turn_of nothing_of has_moment turn_cmp same_turn turn_key most rest c.take_row.new.rows (rows-taken turn_of nothing_of has_moment turn_cmp same_turn turn_key most jobs.items c.self.inside.moments c.self.invariant.moments s c.in-Some.was c.len.ensures.sorted is c.is_some.result c.turn_of-before.result c.is_some.ensures c.turn_of-before.ensures.turn c.take_row.new.rows c.take_row.ensures.items c.take_row.ensures.capacity) (s, c.args.acting) (lacks-removed nat_eq s jobs.items))

pub put_row-requires-2-clause-spare : goal.put_row-requires-2-clause-spare
put_row-requires-2-clause-spare c =
    let s = c.args.serial in
    let most = c.self.inside.most in
    let jobs = c.self.inside.jobs in
    let is = sym c.in-Some.ensures.was in
    let rest = removed key_of nat_eq s jobs.items in
    let fewer : length rest + 1 ≤ most = omega (arith, one-less s c.in-Some.was jobs.items c.len.ensures.sorted is, c.self.invariant.jobs.few) in
    rows-spare key_of monitor_of is_to_kill nat_cmp nat_eq kill_key most rest c.take_row-2.new.rows (rows-taken key_of monitor_of is_to_kill nat_cmp nat_eq kill_key most jobs.items c.self.inside.kills c.self.invariant.kills s c.in-Some.was c.len.ensures.sorted is c.is_some-2.result s c.is_some-2.ensures refl c.take_row-2.new.rows c.take_row-2.ensures.items c.take_row-2.ensures.capacity) c.len-3.ensures.sorted fewer

pub put_row-requires-2-clause-new : goal.put_row-requires-2-clause-new
put_row-requires-2-clause-new c =
    let s = c.args.serial in
    let most = c.self.inside.most in
    let jobs = c.self.inside.jobs in
    let is = sym c.in-Some.ensures.was in
    let rest = removed key_of nat_eq s jobs.items in
    rows-lack key_of monitor_of is_to_kill nat_cmp nat_eq kill_key most rest c.take_row-2.new.rows (rows-taken key_of monitor_of is_to_kill nat_cmp nat_eq kill_key most jobs.items c.self.inside.kills c.self.invariant.kills s c.in-Some.was c.len.ensures.sorted is c.is_some-2.result s c.is_some-2.ensures refl c.take_row-2.new.rows c.take_row-2.ensures.items c.take_row-2.ensures.capacity) (s, c.args.acting) (lacks-removed nat_eq s jobs.items)

pub invariant_of-self-2 : goal.invariant_of-self-2
invariant_of-self-2 c =
    let s = c.args.serial in
    let most = c.self.inside.most in
    let jobs = c.self.inside.jobs in
    let is = sym c.in-Some.ensures.was in
    let rest = removed key_of nat_eq s jobs.items in
    let new = sym (c.set.ensures.items ∙ set-again s c.in-Some.was jobs.items c.len.ensures.sorted is c.args.acting) in
    let in_range = subst (λ (t : Turn). t.moment ≤ 253402214399) c.turn_of-turn.ensures.turn c.turn_of-turn.ensures.range in
    record {
      jobs = room-set most jobs c.set.new.self c.self.invariant.jobs s c.args.acting c.set.ensures.items c.set.ensures.spare;
      moments = subst (λ l. HaveRows turn_of nothing_of has_moment most l c.put_row.new.rows) new (rows-put turn_of nothing_of has_moment turn_cmp same_turn turn_key most rest c.take_row.new.rows (rows-taken turn_of nothing_of has_moment turn_cmp same_turn turn_key most jobs.items c.self.inside.moments c.self.invariant.moments s c.in-Some.was c.len.ensures.sorted is c.is_some.result c.turn_of-before.result c.is_some.ensures c.turn_of-before.ensures.turn c.take_row.new.rows c.take_row.ensures.items c.take_row.ensures.capacity) (s, c.args.acting) c.is_some-3.result c.turn_of-turn.result tt c.is_some-3.ensures c.turn_of-turn.ensures.turn refl c.put_row.new.rows c.put_row.ensures.items c.put_row.ensures.capacity);
      range = subst AreInRange new (range-added rest (place_of key_of nat_cmp s rest) (s, c.args.acting) in_range (range-removed s jobs.items c.self.invariant.range));
      kills = subst (λ l. HaveRows key_of monitor_of is_to_kill most l c.put_row-2.new.rows) new (rows-put key_of monitor_of is_to_kill nat_cmp nat_eq kill_key most rest c.take_row-2.new.rows (rows-taken key_of monitor_of is_to_kill nat_cmp nat_eq kill_key most jobs.items c.self.inside.kills c.self.invariant.kills s c.in-Some.was c.len.ensures.sorted is c.is_some-2.result s c.is_some-2.ensures refl c.take_row-2.new.rows c.take_row-2.ensures.items c.take_row-2.ensures.capacity) (s, c.args.acting) c.is_some-4.result s c.unwrap_or-monitor.result c.is_some-4.ensures refl c.unwrap_or-monitor.ensures c.put_row-2.new.rows c.put_row-2.ensures.items c.put_row-2.ensures.capacity);
    }
