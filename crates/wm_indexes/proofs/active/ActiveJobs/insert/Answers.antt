use Rattle.std.proofs.Common.{◌≡◌, ℕ, false, ◌≤◌, nat_eq, refl, ap, sym, subst, arith}
use Rattle.std.specs.Ordering.{nat_cmp}
use Rattle.wm_desc.specs.Sorted.{has_key, place_of}
use Rattle.wm_ordered.specs.Keys.{nothing_of}
use Rattle.wm_ordered.specs.Ordered.{Pairs, key_of}
use Rattle.wm_indexes.specs.declared.acting.Acting.{Acting}
use Rattle.wm_indexes.specs.declared.turn.Turn.{Turn}
use Rattle.wm_indexes.specs.Moments.{AreInRange, has_moment, is_to_kill, monitor_of, turn_of}
use Rattle.wm_indexes.specs.Rows.{HaveRows}
use Rattle.wm_indexes.specs.Turns.{same_turn, turn_cmp}
use Rattle.wm_indexes.proofs.KillRows.{kill_key}
use Rattle.wm_indexes.proofs.RowLemmas.{room-added, rows-lack, rows-put, rows-spare}
use Rattle.wm_indexes.proofs.TurnLemmas.{range-added, turn_key}
use Rattle.wm_indexes.proofs.active.ActiveJobs.insert.Goals as goal

pub put_row-requires-clause-spare : goal.put_row-requires-clause-spare
put_row-requires-clause-spare c =
    let spare = ap (λ (v : Pairs ℕ Acting). v.spare) c.self.view_is in
    rows-spare turn_of nothing_of has_moment turn_cmp same_turn turn_key c.self.inside.most c.self.inside.jobs.items c.self.inside.moments c.self.invariant.moments c.len.ensures.sorted (omega (arith, c.requires.spare, spare))

pub put_row-requires-clause-new : goal.put_row-requires-clause-new
put_row-requires-clause-new c =
    let new = subst (λ (v : Pairs ℕ Acting). has_key key_of nat_eq c.args.serial v.items ≡ false) (sym c.self.view_is) c.requires.new in
    rw c.turn_of-turn.ensures.turn (rows-lack turn_of nothing_of has_moment turn_cmp same_turn turn_key c.self.inside.most c.self.inside.jobs.items c.self.inside.moments c.self.invariant.moments (c.args.serial, c.args.acting) new)

pub put_row-requires-2-clause-spare : goal.put_row-requires-2-clause-spare
put_row-requires-2-clause-spare c =
    let spare = ap (λ (v : Pairs ℕ Acting). v.spare) c.self.view_is in
    rows-spare key_of monitor_of is_to_kill nat_cmp nat_eq kill_key c.self.inside.most c.self.inside.jobs.items c.self.inside.kills c.self.invariant.kills c.len-2.ensures.sorted (omega (arith, c.requires.spare, spare))

pub put_row-requires-2-clause-new : goal.put_row-requires-2-clause-new
put_row-requires-2-clause-new c =
    let new = subst (λ (v : Pairs ℕ Acting). has_key key_of nat_eq c.args.serial v.items ≡ false) (sym c.self.view_is) c.requires.new in
    rows-lack key_of monitor_of is_to_kill nat_cmp nat_eq kill_key c.self.inside.most c.self.inside.jobs.items c.self.inside.kills c.self.invariant.kills (c.args.serial, c.args.acting) new

pub invariant_of-self : goal.invariant_of-self
invariant_of-self c =
    let x : ℕ × Acting = (c.args.serial, c.args.acting) in
    let most = c.self.inside.most in
    let jobs = c.self.inside.jobs in
    let come = sym c.insert.ensures.items in
    let spare = ap (λ (v : Pairs ℕ Acting). v.spare) c.self.view_is in
    let in_range = subst (λ (t : Turn). t.moment ≤ 253402214399) c.turn_of-turn.ensures.turn c.turn_of-turn.ensures.range in
    record {
      jobs = room-added most jobs c.insert.new.self c.self.invariant.jobs c.args.serial c.args.acting (omega (arith, c.requires.spare, spare)) c.insert.ensures.items c.insert.ensures.spare;
      moments = subst (λ l. HaveRows turn_of nothing_of has_moment most l c.put_row.new.rows) come (rows-put turn_of nothing_of has_moment turn_cmp same_turn turn_key most jobs.items c.self.inside.moments c.self.invariant.moments x c.is_some.result c.turn_of-turn.result tt c.is_some.ensures c.turn_of-turn.ensures.turn refl c.put_row.new.rows c.put_row.ensures.items c.put_row.ensures.capacity);
      range = subst AreInRange come (range-added jobs.items (place_of key_of nat_cmp c.args.serial jobs.items) x in_range c.self.invariant.range);
      kills = subst (λ l. HaveRows key_of monitor_of is_to_kill most l c.put_row-2.new.rows) come (rows-put key_of monitor_of is_to_kill nat_cmp nat_eq kill_key most jobs.items c.self.inside.kills c.self.invariant.kills x c.is_some-2.result c.args.serial c.unwrap_or-monitor.result c.is_some-2.ensures refl c.unwrap_or-monitor.ensures c.put_row-2.new.rows c.put_row-2.ensures.items c.put_row-2.ensures.capacity);
    }
