-- The jobs start subsystem by subsystem, in the order of the simple names.
use Rattle.std.proofs.Common.{◌≡◌, ◌⊎◌, ℕ, ◌≤◌, ◌==◌, ◌&&◌, Bool, true, false, cond, List, [], ◌∷◌, map, fold, Option, Some, None, refl, sym, ap, subst, ◌∙◌, inl, inr, arith}
use Rattle.std.specs.List.{find}
use Rattle.std.specs.Ordering.{is_lt, nat_cmp}
use Rattle.std.specs.Cmp.Lexicographic.{slice_cmp}
use Rattle.std.proofs.lemmas.Bool.Decides.{nat_tests}
use Rattle.std.proofs.lemmas.List.Sums.{sum_by-cons}
use Rattle.std.proofs.lemmas.Bool.{eqb-true}
use Rattle.wm_base.specs.declared.job.How.{How}
use Rattle.wm_base.specs.declared.limit.Limit.{Limit}
use Rattle.wm_base.specs.declared.limit.Limit.TheVariants.{NoMax, Most}
use Rattle.wm_base.specs.declared.qname.QName.{QName}
use Rattle.wm_base.specs.Iterate.{IsKept}
use Rattle.wm_base.specs.Limit.{is_below}
use Rattle.wm_base.proofs.Iterate.{iterate-keeps, next-iterate}
use Rattle.wm_base.proofs.Tests.{all_four, of_four}
use Rattle.wm_desc.specs.declared.description.Sbsd.{Sbsd}
use Rattle.wm_desc.specs.declared.entry.QueueEntry.{QueueEntry}
use Rattle.wm_law.specs.declared.choice.Candidate.{Candidate}
use Rattle.wm_law.specs.declared.job.Job.{Job}
use Rattle.wm_law.specs.declared.job.Phase.{Phase}
use Rattle.wm_law.specs.declared.job.Phase.TheVariants.{Waiting, Starting, Handed, Running, Ended}
use Rattle.wm_law.specs.declared.launch.Launched.{Launched}
use Rattle.wm_law.specs.declared.state.Sbs.{Sbs}
use Rattle.wm_law.specs.declared.state.State.{State}
use Rattle.wm_law.specs.Choice.{Turn, first, is_allowed, is_sbs_active, maxpty_of, next}
use Rattle.wm_law.specs.Counts.{count_active, count_from_priority, count_from_queue, count_in_sbs, is_active, is_from_priority, is_from_queue, is_in_sbs, is_waiting}
use Rattle.wm_law.specs.Jobs.{changed_at, with_job}
use Rattle.wm_law.specs.Kept.{IsNumbered, StartsInOrder}
use Rattle.wm_law.specs.Launch.{as_launched, launch, with_routed, routed_from_queue}
use Rattle.wm_law.specs.Laws.{IsIn, MayStart}
use Rattle.wm_law.specs.Settling.{start_in, start_jobs, waiting}
use Rattle.wm_law.specs.Supply.{in_order}
use Rattle.wm_law.proofs.Ascending.{IsAscending, ascending_in_order, stands_in_order}
use Rattle.wm_law.proofs.Firsts.{first_of, first_waits, holder_started, next_from, no_first_is_none, ready_waits}
use Rattle.wm_law.proofs.Forward.{only_one}
use Rattle.wm_law.proofs.Members.{of_mapped}
use Rattle.wm_law.proofs.Numbers.{launches_keep}
use Rattle.wm_law.proofs.Ranks.{NotBehind, least_of, none_of, not_earlier}
use Rattle.wm_law.proofs.Settling.{first_lessens, not_waiting, start_jobs-launch, start_jobs-none}

pub not_active : (p : Phase) → is_waiting p ≡ true → is_active p ≡ false
not_active Waiting h = refl
not_active Starting h = absurd (cc)
not_active (Handed m) h = absurd (cc)
not_active (Running m) h = absurd (cc)
not_active (Ended c) h = absurd (cc)

below_still : (n m : ℕ) (limit : Limit) → m ≤ n → is_below n limit ≡ true → is_below m limit ≡ true
below_still n m NoMax h e = refl
below_still n m (Most most) h e = grind (arith, nat_tests)

-- one for an active job whose how passes the test
abbrev one : (How → Bool) → Job → ℕ
one test j = cond (is_active j.phase && test j.how) 1 0

no_less_at : (test : How → Bool) (change : Job → Job) (t : Bool) (j : Job) → (t ≡ true → is_active j.phase ≡ false) → one test j ≤ one test (cond t (change j) j)
no_less_at test change true j h =
    let none : one test j ≡ 0 = ap (λ (a : Bool). cond (a && test j.how) 1 0) (h refl) in
    omega arith
no_less_at test change false j h = omega arith

-- a change to a job that isn't active lessens no count
no_fewer : (test : How → Bool) (serial : ℕ) (change : Job → Job) (jobs : List Job) → ((k : Job) → IsIn k jobs → k.serial ≡ serial → is_active k.phase ≡ false) → count_active test jobs ≤ count_active test (map (changed_at serial change) jobs)
no_fewer test serial change [] h = omega arith
no_fewer test serial change (j ∷ jobs) h =
    let this = no_less_at test change (j.serial == serial) j (λ t. h j (inl refl) (eqb-true j.serial serial t)) in
    let rest = no_fewer test serial change jobs (λ k i e. h k (inr i) e) in
    rw (sum_by-cons (one test) (changed_at serial change j) (map (changed_at serial change) jobs), sum_by-cons (one test) j jobs) (omega arith)

-- a job that waits after a launch is as it was
unchanged : (t : Bool) (l : Launched) (j k : Job) → is_waiting l.phase ≡ false → k ≡ cond t (as_launched l j) j → is_waiting k.phase ≡ true → k ≡ j
unchanged true l j k n e w = let same = ap (λ (x : Job). is_waiting x.phase) e in absurd (cc)
unchanged false l j k n e w = e

-- the state in which the candidate's job is as it was launched
abbrev pub launched_in : State → Candidate → Job → State
launched_in s c f = with_job s c.serial (as_launched (routed_from_queue s c.sbs c.jobq f))

module _ (s : State) (c : Candidate) (f j : Job) (n : IsNumbered s) (i : IsIn j s.jobs) (w : is_waiting j.phase ≡ true) (same : c.serial ≡ j.serial) where
  counts : (test : How → Bool) → count_active test s.jobs ≤ count_active test (launched_in s c f).jobs
  counts test =
      no_fewer test c.serial (as_launched (routed_from_queue s c.sbs c.jobq f)) s.jobs
      (λ k m e. subst (λ (x : Job). is_active x.phase ≡ false) (only_one s.jobs n.serials.distinct j k i m (sym same ∙ sym e)) (not_active j.phase w))

  allowed_before : (b : Sbs) (d : Sbsd) (e : QueueEntry) (pty : ℕ) → is_allowed (launched_in s c f) b d e pty ≡ true → is_allowed s b d e pty ≡ true
  allowed_before b d e pty h =
      let t = launched_in s c f in
      let a = of_four (is_sbs_active b.phase) (is_below (count_in_sbs b.sbsd t.jobs) d.maxjobs) (is_below (count_from_queue b.sbsd e.jobq t.jobs) e.maxact) (is_below (count_from_priority b.sbsd e.jobq pty t.jobs) (maxpty_of e pty)) h in
      all_four (is_sbs_active b.phase) (is_below (count_in_sbs b.sbsd s.jobs) d.maxjobs) (is_below (count_from_queue b.sbsd e.jobq s.jobs) e.maxact) (is_below (count_from_priority b.sbsd e.jobq pty s.jobs) (maxpty_of e pty)) a.0
      (below_still (count_in_sbs b.sbsd t.jobs) (count_in_sbs b.sbsd s.jobs) d.maxjobs (counts (is_in_sbs b.sbsd)) a.1)
      (below_still (count_from_queue b.sbsd e.jobq t.jobs) (count_from_queue b.sbsd e.jobq s.jobs) e.maxact (counts (is_from_queue b.sbsd e.jobq)) a.2)
      (below_still (count_from_priority b.sbsd e.jobq pty t.jobs) (count_from_priority b.sbsd e.jobq pty s.jobs) (maxpty_of e pty) (counts (is_from_priority b.sbsd e.jobq pty)) a.3)

  pub may_before : (k : Job) (u : Turn) → MayStart (launched_in s c f) k u → MayStart s k u
  may_before k u m = record {
    ready = m.ready;
    turn = m.turn;
    allowed = allowed_before u.sbs u.sbsd u.entry k.pty m.allowed;
  }

  pub there_before : (k : Job) → IsIn k (launched_in s c f).jobs → is_waiting k.phase ≡ true → IsIn k s.jobs
  there_before k m v =
      let l = routed_from_queue s c.sbs c.jobq f in
      let o = of_mapped (changed_at c.serial (as_launched l)) s.jobs k m in
      subst (λ (x : Job). IsIn x s.jobs) (sym (unchanged (o.0.serial == c.serial) l o.0 k (not_waiting s c.sbs c.jobq f) o.2 v)) o.1

  none_by : (q : QName) (o : Option Candidate) → first (launched_in s c f) q ≡ o → first s q ≡ None → o ≡ None
  none_by q None e h = refl
  none_by q (Some d) e h =
      let k = first_of (launched_in s c f) q d e in
      let may = k.is_first.may in
      absurd (no_first_is_none s q h k.job k.turn (there_before k.job k.is_first.job (ready_waits (launched_in s c f) k.job may.ready)) (may_before k.job k.turn may) k.its)

-- a launch takes from no subsystem's limits and makes no job ready, so a subsystem without a first has none after it
none_still : (s : State) (c : Candidate) (j : Job) (o : Option Job) → IsNumbered s → IsIn j s.jobs → is_waiting j.phase ≡ true → c.serial ≡ j.serial → (q : QName) → first s q ≡ None → first (with_routed s c o) q ≡ None
none_still s c j None n i w same q h = h
none_still s c j (Some f) n i w same q h = none_by s c f j n i w same q (first (launched_in s c f) q) refl h

started_same : (s : State) (c : Candidate) (o : Option Job) → (with_routed s c o).started ≡ s.started
started_same s c None = refl
started_same s c (Some f) = refl

-- numbered, and the started subsystems with a first are among the names, which stand in order
record IsLeft (s : State) (names : List QName) : Type 0 where
  numbered : IsNumbered s
  ascending : IsAscending names
  others : (b : Sbs) → IsIn b s.started → IsIn b.sbsd names ⊎ (first s b.sbsd ≡ None)

named_first : (s : State) (q : QName) (c : Candidate) → first s q ≡ Some c → c.rank.sbs ≡ q.name
named_first s q c e = let f = first_of s q c e in ap (λ (x : Candidate). x.rank.sbs) f.same ∙ ap (λ (x : QName). x.name) f.its

behind_first : (s : State) (q r : QName) (c d : Candidate) → first s q ≡ Some c → first s r ≡ Some d → is_lt (slice_cmp nat_cmp q.name r.name) ≡ true → NotBehind d c → ⊥
behind_first s q r c d e f less h =
    not_earlier d.rank c.rank h
    (ap (λ (x : List ℕ). is_lt (slice_cmp nat_cmp x d.rank.sbs)) (named_first s q c e) ∙ ap (λ (x : List ℕ). is_lt (slice_cmp nat_cmp q.name x)) (named_first s r d f) ∙ less)

module _ (s : State) (q : QName) (qs : List QName) (left : IsLeft s (q ∷ qs)) (c : Candidate) (e : first s q ≡ Some c) where
  among : (b : Sbs) (r : Candidate) → first s b.sbsd ≡ Some r → NotBehind r c → IsIn b.sbsd (q ∷ qs) ⊎ (first s b.sbsd ≡ None) → Some r ≡ Some c
  among b r f h (inl (inl same)) = sym f ∙ ap (first s) same ∙ e
  among b r f h (inl (inr i)) = absurd (behind_first s q b.sbsd c r e f (left.ascending.0 b.sbsd i) h)
  among b r f h (inr none) = absurd (cc)

  held : (b : Sbs) × IsIn b s.started × (first s b.sbsd ≡ Some c)
  held =
      let f = first_of s q c e in
      (f.turn.sbs, holder_started s f.job f.turn f.is_first.may, ap (first s) f.its ∙ e)

  by_next : (o : Option Candidate) → next s ≡ o → o ≡ Some c
  by_next None f = absurd (none_of (λ (b : Sbs). first s b.sbsd) s.started None f held.0 c held.1 held.2)
  by_next (Some r) f =
      let b = next_from s r f in
      among b.0 r b.2 (least_of (λ (b : Sbs). first s b.sbsd) s.started None r f held.0 c held.1 held.2) (left.others b.0 b.1)

  -- the first of the first name is the next job
  is_next : next s ≡ Some c
  is_next = by_next (next s) refl

  left_after : IsLeft (launch s c) (q ∷ qs)
  left_after =
      let j = first_waits s q c e in
      let o = find (λ (k : Job). k.serial == c.serial) s.jobs in
      record {
        numbered = launches_keep.by_step s c is_next left.numbered;
        ascending = left.ascending;
        others = λ b i. (elim (left.others b (subst (λ (bs : List Sbs). IsIn b bs) (started_same s c o) i)) as (λ _. IsIn b.sbsd (q ∷ qs) ⊎ (first (launch s c) b.sbsd ≡ None)) [
          | inl k ↦ inl k
          | inr none ↦ inr (none_still s c j.0 o left.numbered j.1 j.2 j.3 b.sbsd none)
        ]);
      }

-- the jobs that start from the first state start from the second
record IsOnTheWay (s : State) (names : List QName) (t : State) : Type 0 where
  same : start_jobs s ≡ start_jobs t
  left : IsLeft t names

on_the_way : (s : State) (q : QName) (qs : List QName) → IsKept (λ t. first t q) (λ c t. launch t c) (IsOnTheWay s (q ∷ qs))
on_the_way s q qs = record {
  by_step = λ t c e h. record {
    same = h.same ∙ start_jobs-launch t c (is_next t q qs h.left c e);
    left = left_after t q qs h.left c e;
  };
}

among_rest : (t : State) (q r : QName) (qs : List QName) → first t q ≡ None → IsIn r (q ∷ qs) ⊎ (first t r ≡ None) → IsIn r qs ⊎ (first t r ≡ None)
among_rest t q r qs none (inl (inl same)) = inr (ap (first t) same ∙ none)
among_rest t q r qs none (inl (inr i)) = inl i
among_rest t q r qs none (inr h) = inr h

none_left : (s : State) (o : Option Candidate) → next s ≡ o → IsLeft s [] → o ≡ None
none_left s None f h = refl
none_left s (Some r) f h =
    let b = next_from s r f in
    elim (h.others b.0 b.1) as (λ _. Some r ≡ None) [ inl i ↦ absurd i | inr none ↦ (let there = b.2 in absurd (cc)) ]

in_turn : (names : List QName) (s : State) → IsLeft s names → start_jobs s ≡ fold start_in s names
in_turn [] s h = start_jobs-none s (none_left s (next s) refl h)
in_turn (q ∷ qs) s h =
    let t = start_in s q in
    let way : IsOnTheWay s (q ∷ qs) t = iterate-keeps (IsOnTheWay s (q ∷ qs)) (on_the_way s q qs) (waiting s) s (record { same = refl; left = h }) in
    let none : first t q ≡ None = next-iterate (first_lessens q) (waiting s) s (omega arith) in
    way.same ∙ in_turn qs t (record {
      numbered = way.left.numbered;
      ascending = way.left.ascending.1;
      others = λ b i. among_rest t q b.sbsd qs none (way.left.others b i);
    })

pub starts_in_order : StartsInOrder
starts_in_order s n d = in_turn (in_order s.started) s (record { numbered = n; ascending = ascending_in_order s.started d; others = λ b i. inl (stands_in_order s.started b i) })
