-- The first job of a subsystem, and the next job.
use Rattle.std.proofs.Common.{not, nat_le, ◌≡◌, Bool, true, cond, Option, Some, None, refl, sym, ap, subst, ◌∙◌}
use Rattle.wm_base.specs.declared.qname.QName.{QName}
use Rattle.std.specs.Ordering.{is_lt}
use Rattle.std.proofs.lemmas.Bool.{and_parts}
use Rattle.wm_base.proofs.Tests.{of_four, guarded}
use Rattle.wm_law.specs.declared.choice.Candidate.{Candidate}
use Rattle.wm_law.specs.declared.job.Job.{Job}
use Rattle.wm_law.specs.declared.state.Sbs.{Sbs}
use Rattle.wm_law.specs.declared.state.State.{State}
use Rattle.wm_law.specs.Choice.{Turn, candidate, candidate_by_turn, candidate_in, first, has_entry, has_free_queue, is_allowed, is_ready, next, of_sbs, place_cmp, rank_in, turn_of}
use Rattle.wm_law.specs.Counts.{is_waiting}
use Rattle.wm_law.specs.Laws.{IsIn, MayStart, IsFirst, IsOfLeast, IsNamed, FirstIsLeast, NoFirstIsNone, NextIsFirst, NoNextIsNone}
use Rattle.wm_desc.specs.Table.{same_qname}
use Rattle.wm_desc.proofs.Tables.{one_name}
use Rattle.wm_law.proofs.Members.{found_among}
use Rattle.wm_law.proofs.Named.{own_name}
use Rattle.wm_law.proofs.Ranks.{NotBehind, chain, from_best, least_of, none_of, not_before, not_earlier}
use Rattle.wm_law.proofs.Turns.{is_turn}

abbrev pub candidate_of : Job → Turn → Candidate
candidate_of j t = record { rank = rank_in t j; sbs = t.sbs.sbsd; jobq = t.entry.jobq; serial = j.serial }

-- a job that may start is a candidate
is_candidate : (s : State) (j : Job) (t : Turn) → MayStart s j t → candidate s j ≡ Some (candidate_of j t)
is_candidate s j t m =
    ap (λ (b : Bool). cond b (candidate_by_turn s j (turn_of s j)) None) m.ready
    ∙ ap (candidate_by_turn s j) m.turn
    ∙ ap (λ (b : Bool). cond b (Some (candidate_of j t)) None) m.allowed

-- and what is a candidate may start
abbrev Starts : State → Job → Candidate → Type 0
Starts s j c = (t : Turn) × MayStart s j t × (c ≡ candidate_of j t)

by_turn : (s : State) (j : Job) (o : Option Turn) (c : Candidate) → is_ready s j ≡ true → turn_of s j ≡ o → candidate_by_turn s j o ≡ Some c → Starts s j c
by_turn s j None c r h e = absurd (cc)
by_turn s j (Some t) c r h e =
    let g = guarded (is_allowed s t.sbs t.sbsd t.entry j.pty) (Some (candidate_of j t)) c e in
    let same : candidate_of j t ≡ c = cc in
    (t, record { ready = r; turn = h; allowed = g.0 }, sym same)

may_start : (s : State) (j : Job) (c : Candidate) → candidate s j ≡ Some c → Starts s j c
may_start s j c e =
    let g = guarded (is_ready s j) (candidate_by_turn s j (turn_of s j)) c e in
    by_turn s j (turn_of s j) c g.0 refl g.1

-- the candidate of a subsystem is of that one
of_its_sbs : (sbs : QName) (o : Option Candidate) (c : Candidate) → of_sbs sbs o ≡ Some c → (o ≡ Some c) × (c.sbs ≡ sbs)
of_its_sbs sbs None c e = absurd (cc)
of_its_sbs sbs (Some d) c e =
    let g = guarded (same_qname d.sbs sbs) (Some d) c e in
    let there = g.1 in
    let same : d ≡ c = cc in
    (there, subst (λ (x : Candidate). x.sbs ≡ sbs) same (one_name d.sbs sbs g.0))

in_its_sbs : (sbs : QName) (o : Option Candidate) (c : Candidate) → o ≡ Some c → c.sbs ≡ sbs → of_sbs sbs o ≡ Some c
in_its_sbs sbs o c e its =
    ap (of_sbs sbs) e
    ∙ ap (λ (b : Bool). cond b (Some c) None) (subst (λ (q : QName). same_qname c.sbs q ≡ true) its (own_name c.sbs))

-- the first of a subsystem is a job's candidate
first_from : (s : State) (sbs : QName) (c : Candidate) → first s sbs ≡ Some c → (j : Job) × IsIn j s.jobs × (candidate s j ≡ Some c) × (c.sbs ≡ sbs)
first_from s sbs c e =
    let from = from_best (candidate_in s sbs) s.jobs c e in
    let its = of_its_sbs sbs (candidate s from.0) c from.2 in
    (from.0, from.1, its.0, its.1)

-- it is behind no job that may start there
first_not_behind : (s : State) (sbs : QName) (c : Candidate) → first s sbs ≡ Some c → (k : Job) (u : Turn) → IsIn k s.jobs → MayStart s k u → u.sbs.sbsd ≡ sbs → NotBehind c (candidate_of k u)
first_not_behind s sbs c e k u i m its = least_of (candidate_in s sbs) s.jobs None c e k (candidate_of k u) i (in_its_sbs sbs (candidate s k) (candidate_of k u) (is_candidate s k u m) its)

-- and without one no job may start there
pub no_first_is_none : NoFirstIsNone
no_first_is_none s sbs e k u i m its = none_of (candidate_in s sbs) s.jobs None e k (candidate_of k u) i (in_its_sbs sbs (candidate s k) (candidate_of k u) (is_candidate s k u m) its)

is_first : (s : State) (sbs : QName) (c : Candidate) → first s sbs ≡ Some c → (j : Job) (t : Turn) → IsIn j s.jobs → MayStart s j t → c ≡ candidate_of j t → t.sbs.sbsd ≡ sbs → IsFirst s j t
is_first s sbs c e j t i m same its = record {
  job = i;
  may = m;
  none_before = λ k u n l before.
      let both = and_parts (same_qname u.sbs.sbsd t.sbs.sbsd) (is_lt (place_cmp (rank_in u k) (rank_in t j))) before in
      let at = one_name u.sbs.sbsd t.sbs.sbsd both.0 in
      not_before (rank_in t j) (rank_in u k) (ap (λ (q : QName). q.name) at) (subst (λ (x : Candidate). NotBehind x (candidate_of k u)) same (first_not_behind s sbs c e k u n l (at ∙ its))) both.1;
}

-- the job whose candidate is the first of a subsystem
pub record IsFirstOf (s : State) (sbs : QName) (c : Candidate) : Type 0 where
  pub job : Job
  pub turn : Turn
  pub is_first : IsFirst s job turn
  pub same : c ≡ candidate_of job turn
  pub candidate : candidate s job ≡ Some c
  pub its : turn.sbs.sbsd ≡ sbs

pub first_of : (s : State) (sbs : QName) (c : Candidate) → first s sbs ≡ Some c → IsFirstOf s sbs c
first_of s sbs c e =
    let from = first_from s sbs c e in
    let starts = may_start s from.0 c from.2 in
    let its : starts.0.sbs.sbsd ≡ sbs = sym (ap (λ (x : Candidate). x.sbs) starts.2) ∙ from.3 in
    record {
      job = from.0;
      turn = starts.0;
      is_first = is_first s sbs c e from.0 starts.0 from.1 starts.1 starts.2 its;
      same = starts.2;
      candidate = from.2;
      its = its;
    }

is_named : (c : Candidate) (j : Job) (t : Turn) → c ≡ candidate_of j t → IsNamed c j t
is_named c j t same = record {
  serial = ap (λ (x : Candidate). x.serial) same;
  sbs = ap (λ (x : Candidate). x.sbs) same;
  jobq = ap (λ (x : Candidate). x.jobq) same;
}

pub first_is_least : FirstIsLeast
first_is_least s sbs c e = let f = first_of s sbs c e in (f.job, (f.turn, (f.is_first, is_named c f.job f.turn f.same, f.candidate, f.its)))

-- a job that is ready waits
pub ready_waits : (s : State) (j : Job) → is_ready s j ≡ true → is_waiting j.phase ≡ true
ready_waits s j e = (of_four (is_waiting j.phase) (not j.held) (has_free_queue s j.jobq) (nat_le j.due s.clock) e).0

-- the first of a subsystem waits
pub first_waits : (s : State) (sbs : QName) (c : Candidate) → first s sbs ≡ Some c → (j : Job) × IsIn j s.jobs × (is_waiting j.phase ≡ true) × (c.serial ≡ j.serial)
first_waits s sbs c e =
    let f = first_of s sbs c e in
    (f.job, f.is_first.job, ready_waits s f.job f.is_first.may.ready, ap (λ (x : Candidate). x.serial) f.same)

-- the next job is the first of a started subsystem
pub next_from : (s : State) (c : Candidate) → next s ≡ Some c → (b : Sbs) × IsIn b s.started × (first s b.sbsd ≡ Some c)
next_from s c e = from_best (λ (b : Sbs). first s b.sbsd) s.started c e

pub next_waits : (s : State) (c : Candidate) → next s ≡ Some c → (j : Job) × IsIn j s.jobs × (is_waiting j.phase ≡ true) × (c.serial ≡ j.serial)
next_waits s c e = let b = next_from s c e in first_waits s b.0.sbsd c b.2

-- the subsystem that a job may start in is started
pub holder_started : (s : State) (k : Job) (u : Turn) → MayStart s k u → IsIn u.sbs s.started
holder_started s k u m = (found_among (has_entry s u.queue) s.started u.sbs (is_turn s k u m.turn).holder).0

behind_none : (s : State) (c : Candidate) (k : Job) (u : Turn) (o : Option Candidate) → first s u.sbs.sbsd ≡ o → next s ≡ Some c → IsIn k s.jobs → MayStart s k u → NotBehind c (candidate_of k u)
behind_none s c k u None f e i m = absurd (no_first_is_none s u.sbs.sbsd f k u i m refl)
behind_none s c k u (Some d) f e i m =
    chain c d (candidate_of k u)
    (least_of (λ (b : Sbs). first s b.sbsd) s.started None c e u.sbs d (holder_started s k u m) f)
    (first_not_behind s u.sbs.sbsd d f k u i m refl)

-- the next job is behind no job that may start
next_not_behind : (s : State) (c : Candidate) → next s ≡ Some c → (k : Job) (u : Turn) → IsIn k s.jobs → MayStart s k u → NotBehind c (candidate_of k u)
next_not_behind s c e k u i m = behind_none s c k u (first s u.sbs.sbsd) refl e i m

is_of_least : (s : State) (c : Candidate) → next s ≡ Some c → (j : Job) (t : Turn) → c ≡ candidate_of j t → IsOfLeast s t
is_of_least s c e j t same = record {
  none_earlier = λ k u i m less. not_earlier (rank_in t j) (rank_in u k) (subst (λ (x : Candidate). NotBehind x (candidate_of k u)) same (next_not_behind s c e k u i m)) less;
}

pub next_is_first : NextIsFirst
next_is_first s c e =
    let b = next_from s c e in
    let f = first_of s b.0.sbsd c b.2 in
    (f.job, (f.turn, (f.is_first, is_of_least s c e f.job f.turn f.same, is_named c f.job f.turn f.same)))

none_there : (s : State) (k : Job) (u : Turn) (o : Option Candidate) → first s u.sbs.sbsd ≡ o → next s ≡ None → IsIn k s.jobs → MayStart s k u → ⊥
none_there s k u None f e i m = no_first_is_none s u.sbs.sbsd f k u i m refl
none_there s k u (Some d) f e i m = none_of (λ (b : Sbs). first s b.sbsd) s.started None e u.sbs d (holder_started s k u m) f

pub no_next_is_none : NoNextIsNone
no_next_is_none s e j t i m = none_there s j t (first s t.sbs.sbsd) refl e i m
