use Rattle.std.proofs.Common.{nat_eq, refl, sym, subst, ◌∙◌}
use Rattle.std.specs.Ordering.{nat_cmp}
use Rattle.wm_ordered.specs.Keys.{nothing_of}
use Rattle.wm_ordered.specs.Ordered.{key_of}
use Rattle.wm_indexes.specs.Moments.{AreInRange, has_moment, is_to_kill, monitor_of, turn_of}
use Rattle.wm_indexes.specs.Rows.{HaveRows}
use Rattle.wm_indexes.specs.Turns.{same_turn, turn_cmp}
use Rattle.wm_indexes.proofs.KillRows.{kill_key}
use Rattle.wm_indexes.proofs.RowLemmas.{more-spare, removed-none, room-removed, rows-taken, same-nodes}
use Rattle.wm_indexes.proofs.TurnLemmas.{range-removed, turn_key}
use Rattle.wm_indexes.proofs.active.ActiveJobs.remove.Goals as goal

pub invariant_of-self : goal.invariant_of-self
invariant_of-self c =
    let most = c.self.inside.most in
    let jobs = c.self.inside.jobs in
    let same = sym (c.remove.ensures.items ∙ removed-none c.args.serial jobs.items (sym c.in_default.ensures.value)) in
    record {
      jobs = room-removed most jobs c.remove.new.self c.self.invariant.jobs c.args.serial c.remove.ensures.items c.len.ensures.sorted c.remove.result c.remove.ensures.value c.remove.ensures.spare;
      moments = subst (λ l. HaveRows turn_of nothing_of has_moment most l c.self.inside.moments) same c.self.invariant.moments;
      range = subst AreInRange same c.self.invariant.range;
      kills = subst (λ l. HaveRows key_of monitor_of is_to_kill most l c.self.inside.kills) same c.self.invariant.kills;
    }

pub returns-in_default-clause-spare : goal.returns-in_default-clause-spare
returns-in_default-clause-spare c = more-spare c.self.inside.most c.self.inside.jobs c.remove.new.self c.self.invariant.jobs c.args.serial c.remove.ensures.items _ c.self.view_is

pub returns-in_default-clause-nodes : goal.returns-in_default-clause-nodes
returns-in_default-clause-nodes c = same-nodes c.self.inside.most c.self.inside.jobs c.remove.new.self c.self.invariant.jobs c.args.serial c.remove.ensures.items _ c.self.view_is

pub invariant_of-self-2 : goal.invariant_of-self-2
invariant_of-self-2 c =
    let s = c.args.serial in
    let most = c.self.inside.most in
    let jobs = c.self.inside.jobs in
    let sorted = c.len.ensures.sorted in
    let is = sym c.in-Some.ensures.value in
    let gone = sym c.remove.ensures.items in
    record {
      jobs = room-removed most jobs c.remove.new.self c.self.invariant.jobs s c.remove.ensures.items sorted c.remove.result c.remove.ensures.value c.remove.ensures.spare;
      moments = subst (λ l. HaveRows turn_of nothing_of has_moment most l c.take_row.new.rows) gone (rows-taken turn_of nothing_of has_moment turn_cmp same_turn turn_key most jobs.items c.self.inside.moments c.self.invariant.moments s c.in-Some.was sorted is c.is_some.result c.turn_of-turn.result c.is_some.ensures c.turn_of-turn.ensures.turn c.take_row.new.rows c.take_row.ensures.items c.take_row.ensures.capacity);
      range = subst AreInRange gone (range-removed s jobs.items c.self.invariant.range);
      kills = subst (λ l. HaveRows key_of monitor_of is_to_kill most l c.take_row-2.new.rows) gone (rows-taken key_of monitor_of is_to_kill nat_cmp nat_eq kill_key most jobs.items c.self.inside.kills c.self.invariant.kills s c.in-Some.was sorted is c.is_some-2.result s c.is_some-2.ensures refl c.take_row-2.new.rows c.take_row-2.ensures.items c.take_row-2.ensures.capacity);
    }

pub returns-clause-spare : goal.returns-clause-spare
returns-clause-spare c = more-spare c.self.inside.most c.self.inside.jobs c.remove.new.self c.self.invariant.jobs c.args.serial c.remove.ensures.items _ c.self.view_is

pub returns-clause-nodes : goal.returns-clause-nodes
returns-clause-nodes c = same-nodes c.self.inside.most c.self.inside.jobs c.remove.new.self c.self.invariant.jobs c.args.serial c.remove.ensures.items _ c.self.view_is
