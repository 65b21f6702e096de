-- A walk along the priorities that leaves out those without a head.
use Rattle.std.proofs.Common.{◌≡◌, ℕ, zero, suc, ◌+◌, ◌-◌, ◌<◌, ◌≤◌, Bool, true, false, cond, List, Option, None, option_map, is_some, take, take_all, refl, sym, ap, subst, ◌∙◌, arith}
use Rattle.wm_base.specs.declared.qname.QName.{QName}
use Rattle.wm_base.specs.Limit.{is_below}
use Rattle.wm_desc.specs.declared.entry.QueueEntry.{QueueEntry}
use Rattle.wm_law.specs.declared.choice.Candidate.{Candidate}
use Rattle.wm_law.specs.declared.job.Job.{Job}
use Rattle.wm_law.specs.declared.state.State.{State}
use Rattle.wm_law.specs.Choice.{maxpty_of}
use Rattle.wm_law.specs.Counts.{count_from_priority}
use Rattle.wm_pick.specs.Heads.{candidate_by, first_given, head_at, head_of, priorities}
use Rattle.wm_pick.proofs.FirstGiven.{length_priorities, none_next, priority_at}

by_limit : (f : Job → Candidate) (b : Bool) (o : Option Job) → o ≡ None → cond b (option_map f o) None ≡ None
by_limit f true o e = ap (option_map f) e
by_limit f false o e = refl

-- where a priority has no head, no job of it is a candidate
pub no_candidate : (s : State) (sbs : QName) (e : QueueEntry) (p : ℕ) → head_of s e.jobq p ≡ None → head_at s sbs e p ≡ None
no_candidate s sbs e p none = by_limit (candidate_by sbs e) (is_below (count_from_priority sbs e.jobq p s.jobs) (maxpty_of e p)) (head_of s e.jobq p) none

module _ {Y : Type 0} (give : ℕ → Option Y) where
  one_more : (p : ℕ) → 1 ≤ p → p < 10 → first_given give (take (p - 1) priorities) ≡ None → give p ≡ None → first_given give (take p priorities) ≡ None
  one_more p least most none e =
      let long = length_priorities in
      let more = none_next give priorities (p - 1) p (omega arith) (priority_at p least most) none p (give p) (is_some (give p)) refl refl refl (ap is_some e) in
      let next : (p - 1) + 1 ≡ p = omega arith in
      subst (λ (n : ℕ). first_given give (take n priorities) ≡ None) next more

  none_by_count : (k from to : ℕ) → to ≡ from + k → 1 ≤ from → to ≤ 10 → first_given give (take (from - 1) priorities) ≡ None → ((p : ℕ) → from ≤ p → p < to → give p ≡ None) → first_given give (take (to - 1) priorities) ≡ None
  none_by_count zero from to e least most none nothing =
      let same : from - 1 ≡ to - 1 = omega arith in
      subst (λ (n : ℕ). first_given give (take n priorities) ≡ None) same none
  none_by_count (suc k) from to e least most none nothing =
      let here = one_more from least (omega arith) none (nothing from (omega arith) (omega arith)) in
      let next : from ≡ (from + 1) - 1 = omega arith in
      none_by_count k (from + 1) to (omega arith) (omega arith) most (subst (λ (n : ℕ). first_given give (take n priorities) ≡ None) next here) (λ p le less. nothing p (omega arith) less)

  -- where none gives anything up to one priority, nor from there up to another, none before the other does
  pub none_until : (from to : ℕ) → from ≤ to → 1 ≤ from → to ≤ 10 → first_given give (take (from - 1) priorities) ≡ None → ((p : ℕ) → from ≤ p → p < to → give p ≡ None) → first_given give (take (to - 1) priorities) ≡ None
  none_until from to le least most none nothing = none_by_count (to - from) from to (omega arith) least most none nothing

  -- nor does any where that holds up to the last
  pub none_at_all : (from : ℕ) → 1 ≤ from → from ≤ 10 → first_given give (take (from - 1) priorities) ≡ None → ((p : ℕ) → from ≤ p → give p ≡ None) → None ≡ first_given give priorities
  none_at_all from least most none nothing =
      let long = length_priorities in
      let whole : take 9 priorities ≡ priorities = take_all 9 priorities (omega arith) in
      sym (none_until from 10 most least (omega arith) none (λ p le less. nothing p le)) ∙ ap (λ (ps : List ℕ). first_given give ps) whole
