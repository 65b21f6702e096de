-- No launch passes a job that stands before, but where that one's limit was reached.
use Rattle.std.proofs.Common.{◌≡◌, ◌⊎◌, ℕ, ◌≤◌, ◌==◌, ◌&&◌, ◌||◌, not, Bool, true, false, cond, List, [], ◌∷◌, map, Option, Some, None, refl, sym, ap, subst, ◌∙◌, inl, inr, arith}
use Rattle.std.specs.List.{find, list_any}
use Rattle.std.specs.Ordering.{is_lt}
use Rattle.std.proofs.lemmas.Bool.{eq-eqb, or_right, and_parts, eqb-true}
use Rattle.std.proofs.lemmas.Bool.Decides.{nat_tests}
use Rattle.wm_base.specs.declared.job.How.{How}
use Rattle.wm_base.specs.declared.limit.Limit.{Limit}
use Rattle.wm_base.specs.declared.limit.Limit.TheVariants.{NoMax, Most}
use Rattle.wm_base.specs.declared.qname.QName.{QName}
use Rattle.wm_base.specs.Limit.{is_below}
use Rattle.wm_base.proofs.Tests.{all_three, of_four}
use Rattle.wm_desc.specs.declared.description.Jobd.{Jobd}
use Rattle.wm_desc.specs.declared.description.Sbsd.{Sbsd}
use Rattle.wm_desc.specs.declared.entry.AutoEntry.{AutoEntry}
use Rattle.wm_desc.specs.Table.{same_qname}
use Rattle.wm_desc.proofs.Tables.{one_name}
use Rattle.wm_law.specs.declared.choice.Candidate.{Candidate}
use Rattle.wm_law.specs.declared.command.Sbmjob.{Sbmjob}
use Rattle.wm_law.specs.declared.job.Job.{Job}
use Rattle.wm_law.specs.declared.job.Phase.{Phase}
use Rattle.wm_law.specs.declared.job.Why.{Why}
use Rattle.wm_law.specs.declared.job.Why.TheVariants as why
use Rattle.wm_law.specs.declared.state.Sbs.{Sbs}
use Rattle.wm_law.specs.declared.state.State.{State}
use Rattle.wm_law.specs.Autos.{auto_job, routed_auto, auto_made}
use Rattle.wm_law.specs.Choice.{Turn, is_allowed, is_before, is_ready, is_sbs_active, maxpty_of, next, place_cmp, rank_in, turn_of}
use Rattle.wm_law.specs.Counts.{count_active, count_from_priority, count_from_queue, count_in_sbs, is_active, is_from_priority, is_from_queue, is_waiting}
use Rattle.wm_law.specs.Kept.{IsNumbered}
use Rattle.wm_law.specs.Jobs.{changed_at, active_at}
use Rattle.wm_law.specs.Launch.{as_launched, with_routed, routed_from_queue}
use Rattle.wm_law.specs.Laws.{IsIn, MayStart}
use Rattle.wm_law.specs.Settling.{come_due, job_at, sbss_at, leave, ready}
use Rattle.wm_law.specs.Wishes.{why_cause}
use Rattle.wm_law.specs.Order.{IsFullFor, PassesNone, counted_for, is_counted_for, is_routing_cause, is_routed_phase, is_past_waiting, is_submitted, stands_before, was_launched}
use Rattle.wm_law.specs.Reports.{in_phase, phased_at, with_phase}
use Rattle.wm_law.specs.Submitting.{entered, submitted_job}
use Rattle.wm_law.proofs.Alterations.{IsAlteration, altered, each_altered, launch_waits, unlaunched}
use Rattle.wm_law.proofs.Counted.{no_fewer}
use Rattle.wm_law.proofs.Endings.{IsPhaseAfter, IsWishing, wishing_at, using}
use Rattle.wm_law.proofs.Firsts.{ready_waits}
use Rattle.wm_law.proofs.Forward.{only_one}
use Rattle.wm_law.proofs.InTurn.{launched_in, may_before, not_active, there_before}
use Rattle.wm_law.proofs.Members.{of_last, of_mapped}
use Rattle.wm_law.proofs.Moves.{HoldsOfStates, autos_made}
use Rattle.wm_law.proofs.Nexts.{IsNext, is_next}
use Rattle.wm_law.proofs.Turns.{ahead_launched, behind_launched, by_turns, is_turn, none_ahead, one_sbs}
use Rattle.wm_law.specs.Prestart.{make_pre, new_pre_job, with_evoke}
use Rattle.wm_law.proofs.Supplies.{supplied_keeps}

-- a count that has reached its limit has reached it where it is no less
pub full_still : (n m : ℕ) (limit : Limit) → n ≤ m → is_below n limit ≡ false → is_below m limit ≡ false
full_still n m NoMax h e = absurd (cc)
full_still n m (Most most) h e = grind (arith, nat_tests)

either_false : (a b : Bool) → (a && b) ≡ false → (a ≡ false) ⊎ (b ≡ false)
either_false true b e = inr e
either_false false b e = inl refl

-- of four tests that aren't all true, of which the first two are, one of the others is false
one_of_two : (a b c d : Bool) → a ≡ true → b ≡ true → (a && b && c && d) ≡ false → (c ≡ false) ⊎ (d ≡ false)
one_of_two a b c d e f h = either_false c d (sym (ap (λ (x : Bool). x && b && c && d) e ∙ ap (λ (x : Bool). x && c && d) f) ∙ h)

-- neither the job nor one that it stands before
counts_for : (a b c : Bool) → a ≡ false → (b ≡ true → c ≡ false) → (not a && not (b && c)) ≡ true
counts_for true b c e h = absurd (cc)
counts_for false false c e h = refl
counts_for false true c e h = ap not (h refl)

-- the serials of two jobs differ, of which one is active and one waits
other_serial : (i j : Job) (b : Bool) → (i.serial == j.serial) ≡ b → (i.serial ≡ j.serial → i ≡ j) → is_active i.phase ≡ true → is_waiting j.phase ≡ true → b ≡ false
other_serial i j true e one a w =
    let same = ap (λ (x : Job). is_active x.phase) (one (eqb-true i.serial j.serial e)) in
    let idle = not_active j.phase w in
    absurd (cc)
other_serial i j false e one a w = refl

-- of the jobs that were launched, each is launched before the jobs that may start, and passed none
pub record IsOrderedSince (s t : State) : Type 0 where
  pub numbered : IsNumbered t
  pub behind : (i k : Job) (u : Turn) → IsIn i t.jobs → was_launched s i ≡ true → IsIn k t.jobs → MayStart t k u → stands_before t k i ≡ false
  pub passed : PassesNone s t

module _ (s t : State) (c : Candidate) (f : Job) (x : IsNext t c f) (h : IsOrderedSince s t) where
  waits : is_waiting f.phase ≡ true
  waits = ready_waits t f x.first.may.ready

  pub one : (i : Job) → IsIn i t.jobs → i.serial ≡ c.serial → i ≡ f
  one i m e = only_one t.jobs h.numbered.serials.distinct i f m x.first.job (e ∙ x.serial)

  -- a job that is active before the launch isn't the one that is launched
  untouched : (i : Job) (b : Bool) → (i.serial == c.serial) ≡ b → IsIn i t.jobs → is_active i.phase ≡ true → cond b (as_launched (routed_from_queue t c.sbs c.jobq f) i) i ≡ i
  untouched i true e m a =
      let same = ap (λ (y : Job). is_active y.phase) (one i m (eqb-true i.serial c.serial e)) in
      let idle = not_active f.phase waits in
      absurd (cc)
  untouched i false e m a = refl

  still : (q : Job → Bool) (i : Job) → IsIn i t.jobs → is_active i.phase ≡ true → q i ≡ true → q (changed_at c.serial (as_launched (routed_from_queue t c.sbs c.jobq f)) i) ≡ true
  still q i m a e = subst (λ (y : Job). q y ≡ true) (sym (untouched i (i.serial == c.serial) refl m a)) e

  -- what was counted for a job is still counted for it
  pub counted_more : (j : Job) (test : How → Bool) → counted_for s t j test ≤ counted_for s (launched_in t c f) j test
  counted_more j test =
      no_fewer
      (λ (i : Job). is_active i.phase && test i.how && is_counted_for s t j i)
      (λ (i : Job). is_active i.phase && test i.how && is_counted_for s (launched_in t c f) j i)
      (changed_at c.serial (as_launched (routed_from_queue t c.sbs c.jobq f)))
      t.jobs
      (λ i m e.
      let all = and_parts (is_active i.phase && test i.how) (is_counted_for s t j i) e in
      still (λ (y : Job). is_active y.phase && test y.how && is_counted_for s (launched_in t c f) j y) i m (and_parts (is_active i.phase) (test i.how) all.0).0 e)

  -- a job that is active before the launch is counted for the one that is launched
  counts : (i : Job) → IsIn i t.jobs → is_active i.phase ≡ true → is_counted_for s (launched_in t c f) (as_launched (routed_from_queue t c.sbs c.jobq f) f) i ≡ true
  counts i m a =
      counts_for (i.serial == f.serial) (was_launched s i) (stands_before (launched_in t c f) (as_launched (routed_from_queue t c.sbs c.jobq f) f) i)
      (other_serial i f (i.serial == f.serial) refl (λ e. one i m (e ∙ sym x.serial)) a waits)
      (λ w. ahead_launched t (routed_from_queue t c.sbs c.jobq f) f i ∙ h.behind i f x.turn m w x.first.job x.first.may)

  pub counted_all : (test : How → Bool) → count_active test t.jobs ≤ counted_for s (launched_in t c f) (as_launched (routed_from_queue t c.sbs c.jobq f) f) test
  counted_all test =
      no_fewer
      (λ (i : Job). is_active i.phase && test i.how)
      (λ (i : Job). is_active i.phase && test i.how && is_counted_for s (launched_in t c f) (as_launched (routed_from_queue t c.sbs c.jobq f) f) i)
      (changed_at c.serial (as_launched (routed_from_queue t c.sbs c.jobq f)))
      t.jobs
      (λ i m e.
      let both = and_parts (is_active i.phase) (test i.how) e in
      still
      (λ (y : Job). is_active y.phase && test y.how && is_counted_for s (launched_in t c f) (as_launched (routed_from_queue t c.sbs c.jobq f) f) y)
      i m both.0
      (all_three (is_active i.phase) (test i.how) (is_counted_for s (launched_in t c f) (as_launched (routed_from_queue t c.sbs c.jobq f) f) i) both.0 both.1 (counts i m both.0)))

  behind_at : (i k : Job) (u : Turn) (b : Bool) (g : Job) → (i.serial == c.serial) ≡ b → IsIn i t.jobs → g ≡ cond b (as_launched (routed_from_queue t c.sbs c.jobq f) i) i → was_launched s g ≡ true → IsIn k t.jobs → MayStart t k u → stands_before t k g ≡ false
  behind_at i k u true g e m same w n r =
      let l = routed_from_queue t c.sbs c.jobq f in
      let its : i ≡ f = one i m (eqb-true i.serial c.serial e) in
      ap (stands_before t k) same ∙ behind_launched t l k i ∙ ap (stands_before t k) its ∙ none_ahead t k f u x.turn x.first n r
  behind_at i k u false g e m same w n r = ap (stands_before t k) same ∙ h.behind i k u m (ap (was_launched s) (sym same) ∙ w) n r

  may : (k : Job) (u : Turn) → MayStart (launched_in t c f) k u → MayStart t k u
  may k u m = may_before t c f f h.numbered x.first.job waits x.serial k u m

  there : (k : Job) → IsIn k (launched_in t c f).jobs → is_ready t k ≡ true → IsIn k t.jobs
  there k m r = there_before t c f f h.numbered x.first.job waits x.serial k m (ready_waits t k r)

  behind_still : (i k : Job) (u : Turn) → IsIn i (launched_in t c f).jobs → was_launched s i ≡ true → IsIn k (launched_in t c f).jobs → MayStart (launched_in t c f) k u → stands_before (launched_in t c f) k i ≡ false
  behind_still i k u m w n r =
      let o = of_mapped (changed_at c.serial (as_launched (routed_from_queue t c.sbs c.jobq f))) t.jobs i m in
      let before = may k u r in
      behind_at o.0 k u (o.0.serial == c.serial) i refl o.1 o.2 w (there k n before.ready) before

  -- a ready job that stands before the first one isn't allowed
  not_allowed : (k : Job) (u : Turn) (b : Bool) → is_allowed t u.sbs u.sbsd u.entry k.pty ≡ b → IsIn k t.jobs → is_ready t k ≡ true → turn_of t k ≡ Some u → stands_before t k f ≡ true → b ≡ false
  not_allowed k u true e n r v before =
      let none = none_ahead t k f u x.turn x.first n (record { ready = r; turn = v; allowed = e }) in
      absurd (cc)
  not_allowed k u false e n r v before = refl

  -- it has the subsystem of the first one, whose count is below MAXJOBS, so it is its entry's limit that was reached, or that for its priority
  full_by : (k : Job) (u : Turn) → (x.turn.sbs ≡ u.sbs) × (x.turn.sbsd ≡ u.sbsd) → is_allowed t u.sbs u.sbsd u.entry k.pty ≡ false → (is_below (count_from_queue u.sbs.sbsd u.entry.jobq t.jobs) u.entry.maxact ≡ false) ⊎ (is_below (count_from_priority u.sbs.sbsd u.entry.jobq k.pty t.jobs) (maxpty_of u.entry k.pty) ≡ false)
  full_by k u same n =
      let turn = x.turn in
      let a = of_four (is_sbs_active turn.sbs.phase) (is_below (count_in_sbs turn.sbs.sbsd t.jobs) turn.sbsd.maxjobs) (is_below (count_from_queue turn.sbs.sbsd turn.entry.jobq t.jobs) turn.entry.maxact) (is_below (count_from_priority turn.sbs.sbsd turn.entry.jobq f.pty t.jobs) (maxpty_of turn.entry f.pty)) x.first.may.allowed in
      one_of_two (is_sbs_active u.sbs.phase) (is_below (count_in_sbs u.sbs.sbsd t.jobs) u.sbsd.maxjobs) (is_below (count_from_queue u.sbs.sbsd u.entry.jobq t.jobs) u.entry.maxact) (is_below (count_from_priority u.sbs.sbsd u.entry.jobq k.pty t.jobs) (maxpty_of u.entry k.pty))
      (subst (λ (b : Sbs). is_sbs_active b.phase ≡ true) same.0 a.0)
      (subst (λ (d : Sbsd). is_below (count_in_sbs u.sbs.sbsd t.jobs) d.maxjobs ≡ true) same.1 (subst (λ (b : Sbs). is_below (count_in_sbs b.sbsd t.jobs) turn.sbsd.maxjobs ≡ true) same.0 a.1))
      n

  same_sbs : (k : Job) (u : Turn) → turn_of t k ≡ Some u → stands_before t k f ≡ true → u.sbs.sbsd ≡ x.turn.sbs.sbsd
  same_sbs k u v before =
      let turn = x.turn in
      let stood : is_before u k turn f ≡ true = sym (by_turns t k f u turn v x.first.may.turn) ∙ before in
      one_name u.sbs.sbsd turn.sbs.sbsd (and_parts (same_qname u.sbs.sbsd turn.sbs.sbsd) (is_lt (place_cmp (rank_in u k) (rank_in turn f))) stood).0

  -- the launched job passed a ready one only where that one's limit was reached
  full_now : (k : Job) (u : Turn) → IsIn k t.jobs → is_ready t k ≡ true → turn_of t k ≡ Some u → stands_before t k f ≡ true → IsFullFor s (launched_in t c f) (as_launched (routed_from_queue t c.sbs c.jobq f) f) k u
  full_now k u n r v before =
      let j = as_launched (routed_from_queue t c.sbs c.jobq f) f in
      let same = one_sbs t f k x.turn u (is_turn t f x.turn x.first.may.turn) (is_turn t k u v) (same_sbs k u v before) in
      elim (full_by k u same (not_allowed k u (is_allowed t u.sbs u.sbsd u.entry k.pty) refl n r v before)) as (λ _. IsFullFor s (launched_in t c f) j k u) [
        | inl e ↦ inl (full_still (count_from_queue u.sbs.sbsd u.entry.jobq t.jobs) (counted_for s (launched_in t c f) j (is_from_queue u.sbs.sbsd u.entry.jobq)) u.entry.maxact (counted_all (is_from_queue u.sbs.sbsd u.entry.jobq)) e)
        | inr e ↦ inr (full_still (count_from_priority u.sbs.sbsd u.entry.jobq k.pty t.jobs) (counted_for s (launched_in t c f) j (is_from_priority u.sbs.sbsd u.entry.jobq k.pty)) (maxpty_of u.entry k.pty) (counted_all (is_from_priority u.sbs.sbsd u.entry.jobq k.pty)) e)
      ]

  -- a limit that was reached for a job launched before is still reached for it
  full_later : (j k : Job) (u : Turn) → IsFullFor s t j k u → IsFullFor s (launched_in t c f) j k u
  full_later j k u (inl e) = inl (full_still (counted_for s t j (is_from_queue u.sbs.sbsd u.entry.jobq)) (counted_for s (launched_in t c f) j (is_from_queue u.sbs.sbsd u.entry.jobq)) u.entry.maxact (counted_more j (is_from_queue u.sbs.sbsd u.entry.jobq)) e)
  full_later j k u (inr e) = inr (full_still (counted_for s t j (is_from_priority u.sbs.sbsd u.entry.jobq k.pty)) (counted_for s (launched_in t c f) j (is_from_priority u.sbs.sbsd u.entry.jobq k.pty)) (maxpty_of u.entry k.pty) (counted_more j (is_from_priority u.sbs.sbsd u.entry.jobq k.pty)) e)

  passed_at : (j k : Job) (u : Turn) (b : Bool) (g : Job) → (j.serial == c.serial) ≡ b → IsIn j t.jobs → g ≡ cond b (as_launched (routed_from_queue t c.sbs c.jobq f) j) j → was_launched s g ≡ true → IsIn k t.jobs → is_ready t k ≡ true → turn_of t k ≡ Some u → stands_before t k g ≡ true → IsFullFor s (launched_in t c f) g k u
  passed_at j k u true g e m same w n r v before =
      let l = routed_from_queue t c.sbs c.jobq f in
      let its : j ≡ f = one j m (eqb-true j.serial c.serial e) in
      let stood : stands_before t k f ≡ true = ap (stands_before t k) (sym its) ∙ sym (behind_launched t l k j) ∙ ap (stands_before t k) (sym same) ∙ before in
      let now : as_launched l f ≡ g = ap (as_launched l) (sym its) ∙ sym same in
      subst (λ (y : Job). IsFullFor s (launched_in t c f) y k u) now (full_now k u n r v stood)
  passed_at j k u false g e m same w n r v before =
      let full = h.passed j k u m (ap (was_launched s) (sym same) ∙ w) n r v (ap (stands_before t k) (sym same) ∙ before) in
      subst (λ (y : Job). IsFullFor s (launched_in t c f) y k u) (sym same) (full_later j k u full)

  passed_still : PassesNone s (launched_in t c f)
  passed_still j k u m w n r v before =
      let o = of_mapped (changed_at c.serial (as_launched (routed_from_queue t c.sbs c.jobq f))) t.jobs j m in
      passed_at o.0 k u (o.0.serial == c.serial) j refl o.1 o.2 w (there k n r) r v before

-- a launch keeps the order
pub launched_ordered : (s t : State) (c : Candidate) (o : Option Job) → find (λ j. j.serial == c.serial) t.jobs ≡ o → next t ≡ Some c → IsNumbered (with_routed t c o) → IsOrderedSince s t → IsOrderedSince s (with_routed t c o)
launched_ordered s t c None f e n h = h
launched_ordered s t c (Some j) f e n h =
    let x = is_next t c j e h.numbered f in
    record { numbered = n; behind = behind_still s t c j x h; passed = passed_still s t c j x h }

-- no job of the state was launched since the first
abbrev pub LaunchesNone : State → State → Type 0
LaunchesNone s t = (i : Job) → IsIn i t.jobs → was_launched s i ≡ false

pub any_in : {X : Type 0} (p : X → Bool) (xs : List X) (x : X) → IsIn x xs → p x ≡ true → list_any p xs ≡ true
any_in p [] x i e = absurd i
any_in p (y ∷ ys) x (inl same) e = ap (λ (b : Bool). b || list_any p ys) (ap p (sym same) ∙ e)
any_in p (y ∷ ys) x (inr i) e = or_right (p y) (list_any p ys) (any_in p ys x i e)

-- a job of the state that is past Waiting is past Waiting by its serial
past : (s : State) (i : Job) → IsIn i s.jobs → is_waiting i.phase ≡ false → is_past_waiting s.jobs i.serial ≡ true
past s i m w = any_in (λ (k : Job). k.serial == i.serial && not (is_waiting k.phase)) s.jobs i m (ap (λ (b : Bool). b && not (is_waiting i.phase)) (eq-eqb i.serial i.serial refl) ∙ ap not w)

and_false : (b : Bool) → (b && false) ≡ false
and_false true = refl
and_false false = refl

never : (a b : Bool) → b ≡ true → (a && not b) ≡ false
never true b e = ap not e
never false b e = refl

-- a job whose serial was past Waiting wasn't launched
not_launched : (s : State) (j k : Job) → IsIn j s.jobs → is_waiting j.phase ≡ false → j.serial ≡ k.serial → was_launched s k ≡ false
not_launched s j k m w e = ap (λ (b : Bool). b && is_submitted k.kind) (never (is_routed_phase k.phase) (is_past_waiting s.jobs k.serial) (subst (λ (n : ℕ). is_past_waiting s.jobs n ≡ true) e (past s j m w)))

none_by : (s : State) (i : Job) (b : Bool) → is_waiting i.phase ≡ b → IsIn i s.jobs → was_launched s i ≡ false
none_by s i true e m = ap (λ (b : Bool). b && not (is_past_waiting s.jobs i.serial) && is_submitted i.kind) (launch_waits i.phase e)
none_by s i false e m = not_launched s i i m e refl

none_yet : (s : State) → LaunchesNone s s
none_yet s i m = none_by s i (is_waiting i.phase) refl m

entered_none : (s : State) (user : List ℕ) (c : Sbmjob) (d : Jobd) (due : ℕ) → LaunchesNone s (entered s (submitted_job s user c d due))
entered_none s user c d due i m =
    elim (of_last s.jobs (submitted_job s user c d due) i m) as (λ _. was_launched s i ≡ false) [
      | inl n ↦ none_yet s i n
      | inr same ↦ ap (was_launched s) same
    ]

-- nor was an altered job
altered_none : (s : State) (change : Job → Job) (place : ℕ) → IsAlteration s change place → LaunchesNone s (altered s change place)
altered_none s change place a =
    each_altered (λ (k : Job). was_launched s k ≡ false) s change place a (none_yet s)
    (λ j k i b. ap (λ (t : Bool). t && not (is_past_waiting s.jobs k.serial) && is_submitted k.kind) (unlaunched s j k b))

-- nor was an autostart job
auto_none : (s t : State) (q : QName) (e : AutoEntry) (d : Jobd) → LaunchesNone s t → LaunchesNone s (auto_made t q e d)
auto_none s t q e d h i m =
    elim (of_last t.jobs (routed_auto t q (auto_job t e d)) i m) as (λ _. was_launched s i ≡ false) [
      | inl n ↦ h i n
      | inr same ↦ ap (was_launched s) same ∙ and_false (is_routed_phase (routed_auto t q (auto_job t e d)).phase && not (is_past_waiting s.jobs t.next_serial))
    ]

-- nor was a prestart job
pre_none : (s t : State) (q pgm : QName) → LaunchesNone s t → LaunchesNone s (make_pre q pgm t)
pre_none s t q pgm h i m =
    elim (of_last t.jobs (new_pre_job t q pgm) i m) as (λ _. was_launched s i ≡ false) [
      | inl n ↦ h i n
      | inr same ↦ ap (was_launched s) same ∙ and_false (is_routed_phase (new_pre_job t q pgm).phase && not (is_past_waiting s.jobs t.next_serial))
    ]

moved_none_at : (s : State) (serial : ℕ) (phase : Phase) (j : Job) (b : Bool) (i k : Job) → IsIn j s.jobs → j.serial ≡ serial → is_waiting j.phase ≡ false → (i.serial == serial) ≡ b → IsIn i s.jobs → k ≡ cond b (in_phase phase i) i → was_launched s k ≡ false
moved_none_at s serial phase j true i k n e w f m same =
    not_launched s j k n w (e ∙ sym (eqb-true i.serial serial f) ∙ ap (λ (x : Job). x.serial) (sym same))
moved_none_at s serial phase j false i k n e w f m same = ap (was_launched s) same ∙ none_yet s i m

moved_none : (s : State) (serial : ℕ) (j : Job) (phase : Phase) → IsIn j s.jobs → j.serial ≡ serial → is_waiting j.phase ≡ false → LaunchesNone s (with_phase s serial phase)
moved_none s serial j phase n e w k m =
    let o = of_mapped (phased_at serial phase) s.jobs k m in
    moved_none_at s serial phase j (o.0.serial == serial) o.0 k n e w refl o.1 o.2

no_launch_cause : (w : Why) → is_routing_cause (why_cause w) ≡ false
no_launch_cause why.Endjob = refl
no_launch_cause why.Endsbs = refl
no_launch_cause why.Endpj = refl
no_launch_cause why.Maxuse = refl

wished_phase : (p q : Phase) → IsPhaseAfter p q → (b c : Bool) → (is_routed_phase p && b && c) ≡ false → (is_routed_phase q && b && c) ≡ false
wished_phase p q (inl e) b c h = ap (λ (x : Phase). is_routed_phase x && b && c) e ∙ h
wished_phase p q (inr e) b c h = ap (λ (x : Bool). x && b && c) (ap is_routed_phase e.1.1 ∙ no_launch_cause e.1.0)

-- nor does a wish
wished_none : (s t : State) (change : Job → Job) → IsWishing change → LaunchesNone s t → (k : Job) → IsIn k (map change t.jobs) → was_launched s k ≡ false
wished_none s t change e h k i =
    let m = of_mapped change t.jobs k i in
    let j = m.0 in
    ap (was_launched s) (m.2 ∙ e.same j) ∙ wished_phase j.phase (change j).phase (e.phase j) (not (is_past_waiting s.jobs j.serial)) (is_submitted j.kind) (h j m.1)

-- nor does settling's first part
pub due_launches_none : (s t : State) → LaunchesNone s t → LaunchesNone s (come_due t)
due_launches_none s t h = wished_none s t (job_at t.clock (sbss_at t)) (wishing_at t.clock (sbss_at t)) h

-- no call launches a job before the state settles
pub calls_launch_none : (s : State) → HoldsOfStates (LaunchesNone s) s
calls_launch_none s = record {
  stays = λ i m. none_yet s i m;
  starts = λ q e. autos_made (LaunchesNone s) s q e (λ t x d m h. auto_none s t q x d h) (λ i m. none_yet s i m);
  supplies = record { makes = λ q d e t can h. pre_none s t q e.pgm h; assigns = λ t q pgm job evokes can h. wished_none s t (active_at job.serial with_evoke) (using job.serial) h };
  enters = λ user c d due has. entered_none s user c d due;
  alters = altered_none s;
  holds = λ held a i m. none_yet s i m;
  lists = λ stopped evokes i m. none_yet s i m;
  moves = λ serial j phase stopped i e r n. (let on = r.onward in moved_none s serial j phase i e on.past);
  ends = λ change started stopped evokes power e. wished_none s s change e.jobs (none_yet s);
  makes = λ o c i m. none_yet s i m;
}

-- nor does settling before jobs start
pub ready_launches_none : (s t : State) → LaunchesNone s t → LaunchesNone s (ready t)
ready_launches_none s t h = supplied_keeps (LaunchesNone s) (calls_launch_none s).supplies (leave (come_due t)) (due_launches_none s t h)

-- where none was launched yet, each was launched in its order
pub ordered_yet : (s t : State) → IsNumbered t → LaunchesNone s t → IsOrderedSince s t
ordered_yet s t n h = record {
  numbered = n;
  behind = λ i k v m w. (let none = h i m in absurd (cc));
  passed = λ j k v m w. (let none = h j m in absurd (cc));
}
