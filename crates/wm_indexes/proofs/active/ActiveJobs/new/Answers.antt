use Rattle.std.proofs.Common.{length, ap, subst, arith}
use Rattle.wm_ordered.specs.Keys.{nothing_of}
use Rattle.wm_ordered.specs.Ordered.{key_of}
use Rattle.wm_ordered.proofs.IndexLemmas.{index-empty}
use Rattle.wm_ordered.proofs.Members.{Contains-nil}
use Rattle.wm_indexes.specs.Moments.{has_moment, is_to_kill, monitor_of, turn_of}
use Rattle.wm_indexes.specs.declared.acting.Acting.{Acting}
use Rattle.std.proofs.Common.{List, ℕ, Contains}
use Rattle.wm_indexes.proofs.active.ActiveJobs.new.Goals as goal

pub invariant_of-result : goal.invariant_of-result
invariant_of-result c = record {
  jobs = record { few = omega (arith, ap length c.new.ensures.items); fits = omega arith; room = omega arith };
  moments = record { index = index-empty turn_of nothing_of has_moment _ _ c.new.ensures.items c.new-2.ensures.items; room = omega arith };
  range = λ job there. absurd (Contains-nil job (subst (λ (l : List (ℕ × Acting)). Contains l job) c.new.ensures.items there));
  kills = record { index = index-empty key_of monitor_of is_to_kill _ _ c.new.ensures.items c.new-3.ensures.items; room = omega arith };
}
