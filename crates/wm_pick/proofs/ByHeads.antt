-- The first by the heads of a subsystem's entries is the first of all its jobs.
use Rattle.std.proofs.Common.{◌≡◌, ◌⊎◌, ℕ, ◌<◌, ◌≤◌, ◌==◌, ◌&&◌, Bool, true, false, cond, Option, Some, None, is_some, List, [], ◌∷◌, filter, option_map, option_and_then, refl, sym, ap, subst, ◌∙◌, inl, inr, arith}
use Rattle.std.specs.List.{find}
use Rattle.std.specs.Ordering.{is_lt, nat_cmp}
use Rattle.std.proofs.lemmas.Bool.{eq-eqb, and_from, and_parts, eqb-true}
use Rattle.wm_base.specs.declared.qname.QName.{QName}
use Rattle.wm_base.specs.Limit.{is_below}
use Rattle.wm_base.proofs.Tests.{all_three, all_four, of_four, guarded}
use Rattle.wm_desc.specs.declared.description.Sbsd.{Sbsd}
use Rattle.wm_desc.specs.declared.entry.QueueEntry.{QueueEntry}
use Rattle.wm_desc.specs.Sorted.{IsSortedOnce}
use Rattle.wm_desc.specs.Table.{same_qname, object_named}
use Rattle.wm_desc.proofs.Tables.{one_name}
use Rattle.wm_law.specs.declared.choice.Candidate.{Candidate}
use Rattle.wm_law.specs.declared.job.Job.{Job}
use Rattle.wm_law.specs.declared.state.Sbs.{Sbs}
use Rattle.wm_law.specs.declared.state.State.{State}
use Rattle.wm_law.specs.Choice.{Turn, entry_for, first, has_entry, holder, is_allowed, is_before, is_ready, is_sbs_active, maxpty_of, place_cmp, rank_in}
use Rattle.wm_law.specs.Counts.{count_in_sbs, count_from_queue, count_from_priority}
use Rattle.wm_law.specs.Laws.{ComesBefore, IsFirst, IsIn, MayStart}
use Rattle.wm_law.proofs.ByNumber.{IsAscending, ascends, same_numbered}
use Rattle.wm_law.proofs.Firsts.{candidate_of, first_of, no_first_is_none}
use Rattle.wm_law.proofs.Members.{found_among, in_left, left_in}
use Rattle.wm_law.proofs.Named.{own_name}
use Rattle.wm_law.proofs.Ranks.{comes_before, level_ranks}
use Rattle.wm_law.proofs.Turns.{has_turn as has_its_turn, is_turn as is_its_turn}
use Rattle.wm_pick.specs.Heads.{IsOrderly, HeadsAreFirst, candidate_by, entry_head, first_by_heads, first_described, first_head, first_started, head_at, head_of, is_holder, is_on, is_open, is_same_entry, is_turn, open_head, priorities, queues_in, queues_of, started_named, takes_jobs}
use Rattle.wm_pick.proofs.FirstGiven.{in_priorities, is_given, none_given, priorities_ascend}
use Rattle.wm_pick.proofs.Nearest.{nearest, none_nearest, passes}

of_three : (a b c : Bool) → (a && b && c) ≡ true → (a ≡ true) × (b ≡ true) × (c ≡ true)
of_three true true true h = (refl, refl, refl)
of_three true true false h = absurd (cc)
of_three true false c h = absurd (cc)
of_three false b c h = absurd (cc)

map_none : {X Y : Type 0} (f : X → Y) (o : Option X) → option_map f o ≡ None → o ≡ None
map_none f None e = refl
map_none f (Some x) e = absurd (cc)

mapped : {X Y : Type 0} (f : X → Y) (o : Option X) (y : Y) → option_map f o ≡ Some y → (x : X) × (o ≡ Some x) × (f x ≡ y)
mapped f None y e = absurd (cc)
mapped f (Some x) y e = (x, refl, (cc))

-- what is found by a test is what is found by a narrower one that it passes
narrower_by : {X : Type 0} (p r : X → Bool) (y : X) (ys : List X) (x : X) (t u : Bool) → p y ≡ t → r y ≡ u → cond t (Some y) (find p ys) ≡ Some x → r x ≡ true → ((z : X) → r z ≡ true → p z ≡ true) → (find p ys ≡ Some x → find r ys ≡ Some x) → cond u (Some y) (find r ys) ≡ Some x
narrower_by p r y ys x true true e f h k n rest = h
narrower_by p r y ys x true false e f h k n rest =
    let same : y ≡ x = cc in
    let test : r y ≡ true = ap r same ∙ k in
    absurd (cc)
narrower_by p r y ys x false true e f h k n rest = let test : p y ≡ true = n y f in absurd (cc)
narrower_by p r y ys x false false e f h k n rest = rest h

narrower : {X : Type 0} (p r : X → Bool) (xs : List X) (x : X) → find p xs ≡ Some x → r x ≡ true → ((z : X) → r z ≡ true → p z ≡ true) → find r xs ≡ Some x
narrower p r [] x h k n = absurd (cc)
narrower p r (y ∷ ys) x h k n = narrower_by p r y ys x (p y) (r y) refl refl h k n (λ e. narrower p r ys x e k n)

-- the holder of a queue is the first started subsystem of its name
held_named : (s : State) (queue : QName) (h : Sbs) → holder s queue ≡ Some h → started_named h.sbsd s.started ≡ Some h
held_named s queue h e =
    narrower (has_entry s queue) (λ (b : Sbs). same_qname b.sbsd h.sbsd) s.started h e (own_name h.sbsd)
    (λ b same. ap (λ (n : QName). is_some (option_and_then (entry_for queue) (object_named n s.objects.sbsds))) (one_name b.sbsd h.sbsd same) ∙ (found_among (has_entry s queue) s.started h e).1)

-- the description of a started subsystem is that of its name
queues_named : (s : State) (sbs : QName) (b : Sbs) (d : Sbsd) → started_named sbs s.started ≡ Some b → object_named b.sbsd s.objects.sbsds ≡ Some d → queues_of s sbs ≡ d.queues
queues_named s sbs b d h e =
    let same : b.sbsd ≡ sbs = one_name b.sbsd sbs (found_among (λ (x : Sbs). same_qname x.sbsd sbs) s.started b h).1 in
    ap (λ (n : QName). queues_of s n) (sym same) ∙ ap queues_in e

-- the same, where what is lent makes up the state
pub queues_lent : (t s : State) → t ≡ s → (sbs : QName) (b : Sbs) (d : Sbsd) → Some b ≡ started_named sbs s.started → Some d ≡ object_named b.sbsd t.objects.sbsds → queues_of s sbs ≡ d.queues
queues_lent t s same sbs b d h e = queues_named s sbs b d (sym h) (sym (ap (λ (x : State). object_named b.sbsd x.objects.sbsds) same) ∙ sym e)

on_queue : (queue : QName) (o : Option QName) → is_on queue o ≡ true → o ≡ Some queue
on_queue queue None e = absurd (cc)
on_queue queue (Some q) e = ap (λ (n : QName). Some n) (one_name q queue e)

-- a job that is ready on a queue, with a priority
pub record HasTurn (s : State) (queue : QName) (pty : ℕ) (j : Job) : Type 0 where
  pub ready : is_ready s j ≡ true
  pub jobq : j.jobq ≡ Some queue
  pub level : j.pty ≡ pty

turn_of : (s : State) (queue : QName) (pty : ℕ) (j : Job) → is_turn s queue pty j ≡ true → HasTurn s queue pty j
turn_of s queue pty j e =
    let t = of_three (is_ready s j) (is_on queue j.jobq) (j.pty == pty) e in
    record { ready = t.0; jobq = on_queue queue j.jobq t.1; level = eqb-true j.pty pty t.2 }

has_turn : (s : State) (queue : QName) (j : Job) → is_ready s j ≡ true → j.jobq ≡ Some queue → is_turn s queue j.pty j ≡ true
has_turn s queue j r e = all_three (is_ready s j) (is_on queue j.jobq) (j.pty == j.pty) r (ap (is_on queue) e ∙ own_name queue) (eq-eqb j.pty j.pty refl)

-- the head of a queue and priority
pub record IsHead (s : State) (queue : QName) (pty : ℕ) (j : Job) : Type 0 where
  pub job : IsIn j s.jobs
  pub turn : HasTurn s queue pty j
  pub least : (k : Job) → IsIn k s.jobs → is_turn s queue pty k ≡ true → j.place ≤ k.place

from_none : (xs : List Job) (j : Job) → (None ≡ Some j) ⊎ IsIn j xs → IsIn j xs
from_none xs j (inl e) = absurd (cc)
from_none xs j (inr i) = i

pub is_head : (s : State) (queue : QName) (pty : ℕ) (j : Job) → head_of s queue pty ≡ Some j → IsHead s queue pty j
is_head s queue pty j e =
    let p = is_turn s queue pty in
    let n = nearest (filter p s.jobs) None j e in
    let i = from_none (filter p s.jobs) j n.there in
    record {
      job = left_in p s.jobs j i;
      turn = turn_of s queue pty j (passes p s.jobs j i);
      least = λ k m h. n.before_others k (in_left p s.jobs k h m);
    }

no_head : (s : State) (queue : QName) (pty : ℕ) (k : Job) → IsIn k s.jobs → is_turn s queue pty k ≡ true → head_of s queue pty ≡ None → ⊥
no_head s queue pty k i h e = let p = is_turn s queue pty in none_nearest (filter p s.jobs) e k (in_left p s.jobs k h i)

-- of one subsystem, a job that doesn't stand before another has no lesser rank there
not_less : (t u : Turn) (j k : Job) (b : Bool) → is_lt (place_cmp (rank_in t j) (rank_in u k)) ≡ b → t.sbs.sbsd ≡ u.sbs.sbsd → (is_before t j u k ≡ true → ⊥) → b ≡ false
not_less t u j k true e same h = absurd (h (and_from (same_qname t.sbs.sbsd u.sbs.sbsd) (is_lt (place_cmp (rank_in t j) (rank_in u k))) (subst (λ (q : QName). same_qname t.sbs.sbsd q ≡ true) same (own_name t.sbs.sbsd)) e))
not_less t u j k false e same h = refl

entry_on : (queue : QName) (d : Sbsd) (e : QueueEntry) → entry_for queue d ≡ Some e → e.jobq ≡ queue
entry_on queue d e h = one_name e.jobq queue (found_among (λ (n : QueueEntry). same_qname n.jobq queue) d.queues e h).1

-- of one subsystem there is one first candidate
one_first : (s : State) (sbs : QName) → IsOrderly s sbs → (j k : Job) (t u : Turn) → IsFirst s j t → IsFirst s k u → t.sbs.sbsd ≡ sbs → u.sbs.sbsd ≡ sbs → candidate_of j t ≡ candidate_of k u
one_first s sbs o j k t u f g its other =
    let named : t.sbs.sbsd ≡ u.sbs.sbsd = its ∙ sym other in
    let same =
    level_ranks (rank_in t j) (rank_in u k)
    (not_less t u j k (is_lt (place_cmp (rank_in t j) (rank_in u k))) refl named (g.none_before j t f.job f.may))
    (not_less u t k j (is_lt (place_cmp (rank_in u k) (rank_in t j))) refl (sym named) (f.none_before k u g.job g.may)) in
    let i = is_its_turn s j t f.may.turn in
    let l = is_its_turn s k u g.may.turn in
    let serial : j.serial ≡ k.serial = o.serials j k f.job g.job f.may.ready g.may.ready same.2 in
    let queues : Some t.queue ≡ Some u.queue = sym i.queue ∙ o.queues j k f.job g.job f.may.ready g.may.ready same.2 ∙ l.queue in
    let queue : t.queue ≡ u.queue = cc in
    let jobq : t.entry.jobq ≡ u.entry.jobq = entry_on t.queue t.sbsd t.entry i.entry ∙ queue ∙ sym (entry_on u.queue u.sbsd u.entry l.entry) in
    let seq : t.entry.seq ≡ u.entry.seq = same.0 in
    let pty : j.pty ≡ k.pty = same.1 in
    let place : j.place ≡ k.place = same.2 in
    cc

-- the job may start in the subsystem by the entry of its description
record MayStartBy (s : State) (b : Sbs) (d : Sbsd) (k : Job) (e : QueueEntry) : Type 0 where
  is_in : IsIn e d.queues
  ready : is_ready s k ≡ true
  jobq : k.jobq ≡ Some e.jobq
  held : holder s e.jobq ≡ Some b
  described : entry_for e.jobq d ≡ Some e
  allowed : is_allowed s b d e k.pty ≡ true

abbrev turn_by : Sbs → Sbsd → QueueEntry → Turn
turn_by b d e = record { queue = e.jobq; sbs = b; sbsd = d; entry = e }

-- a first job of the subsystem, and the candidate that it is
record IsFirstThere (s : State) (sbs : QName) (c : Candidate) : Type 0 where
  job : Job
  turn : Turn
  is_first : IsFirst s job turn
  same : c ≡ candidate_of job turn
  its : turn.sbs.sbsd ≡ sbs

module _ (s : State) (b : Sbs) (d : Sbsd) (named : started_named b.sbsd s.started ≡ Some b) (described : object_named b.sbsd s.objects.sbsds ≡ Some d) where
  may_start : (k : Job) (e : QueueEntry) → MayStartBy s b d k e → MayStart s k (turn_by b d e)
  may_start k e m = record { ready = m.ready; turn = has_its_turn s k (turn_by b d e) (record { queue = m.jobq; holder = m.held; sbsd = described; entry = m.described }); allowed = m.allowed }

  -- a job that may start in the subsystem may do so by an entry of its description
  may_start_by : (k : Job) (u : Turn) → MayStart s k u → u.sbs.sbsd ≡ b.sbsd → MayStartBy s b d k u.entry
  may_start_by k u m its =
      let i = is_its_turn s k u m.turn in
      let held = held_named s u.queue u.sbs i.holder in
      let both : Some u.sbs ≡ Some b = sym held ∙ ap (λ (n : QName). started_named n s.started) its ∙ named in
      let sbs : u.sbs ≡ b = cc in
      let texts : Some u.sbsd ≡ Some d = sym i.sbsd ∙ ap (λ (n : QName). object_named n s.objects.sbsds) its ∙ described in
      let sbsd : u.sbsd ≡ d = cc in
      let at_entry : entry_for u.queue d ≡ Some u.entry = ap (entry_for u.queue) (sym sbsd) ∙ i.entry in
      let queue : u.entry.jobq ≡ u.queue = entry_on u.queue d u.entry at_entry in
      record {
        is_in = (found_among (λ (n : QueueEntry). same_qname n.jobq u.queue) d.queues u.entry at_entry).0;
        ready = m.ready;
        jobq = i.queue ∙ ap (λ (n : QName). Some n) (sym queue);
        held = ap (holder s) queue ∙ i.holder ∙ ap (λ (x : Sbs). Some x) sbs;
        described = ap (λ (n : QName). entry_for n d) queue ∙ at_entry;
        allowed =
            ap (λ (x : Sbs). is_allowed s x d u.entry k.pty) (sym sbs)
            ∙ ap (λ (x : Sbsd). is_allowed s u.sbs x u.entry k.pty) (sym sbsd)
            ∙ m.allowed;
      }

  four_parts : (e : QueueEntry) (pty : ℕ) → is_allowed s b d e pty ≡ true → (is_sbs_active b.phase ≡ true) × (is_below (count_in_sbs b.sbsd s.jobs) d.maxjobs ≡ true) × (is_below (count_from_queue b.sbsd e.jobq s.jobs) e.maxact ≡ true) × (is_below (count_from_priority b.sbsd e.jobq pty s.jobs) (maxpty_of e pty) ≡ true)
  four_parts e pty h = of_four (is_sbs_active b.phase) (is_below (count_in_sbs b.sbsd s.jobs) d.maxjobs) (is_below (count_from_queue b.sbsd e.jobq s.jobs) e.maxact) (is_below (count_from_priority b.sbsd e.jobq pty s.jobs) (maxpty_of e pty)) h

  takes : (k : Job) (e : QueueEntry) → MayStartBy s b d k e → takes_jobs s b d ≡ true
  takes k e m =
      let f = four_parts e k.pty m.allowed in
      ap (λ (x : Bool). x && is_below (count_in_sbs b.sbsd s.jobs) d.maxjobs) f.0 ∙ f.1

  opens : (k : Job) (e : QueueEntry) → MayStartBy s b d k e → is_open s b.sbsd d e ≡ true
  opens k e m =
      let f = four_parts e k.pty m.allowed in
      all_three (is_holder b.sbsd (holder s e.jobq)) (is_same_entry e (entry_for e.jobq d)) (is_below (count_from_queue b.sbsd e.jobq s.jobs) e.maxact)
      (ap (is_holder b.sbsd) m.held ∙ own_name b.sbsd)
      (ap (is_same_entry e) m.described ∙ eq-eqb e.seq e.seq refl)
      f.2

  -- its entry has a head at its priority
  has_head : (k : Job) (e : QueueEntry) → IsIn k s.jobs → MayStartBy s b d k e → head_at s b.sbsd e k.pty ≡ None → ⊥
  has_head k e i m h =
      let f = four_parts e k.pty m.allowed in
      let whole : option_map (candidate_by b.sbsd e) (head_of s e.jobq k.pty) ≡ None = sym (ap (λ (t : Bool). cond t (option_map (candidate_by b.sbsd e) (head_of s e.jobq k.pty)) None) f.3) ∙ h in
      no_head s e.jobq k.pty k i (has_turn s e.jobq k m.ready m.jobq) (map_none (candidate_by b.sbsd e) (head_of s e.jobq k.pty) whole)

  module _ (o : IsOrderly s b.sbsd) where
    in_priority : (k : Job) → IsIn k s.jobs → is_ready s k ≡ true → IsIn k.pty priorities
    in_priority k i r = in_priorities k.pty (o.least k i r) (o.greatest k i r)

    -- and so it has a head
    has_open_head : (k : Job) (e : QueueEntry) → IsIn k s.jobs → MayStartBy s b d k e → open_head s b.sbsd d e ≡ None → ⊥
    has_open_head k e i m h =
        let whole : entry_head s b.sbsd e ≡ None = sym (ap (λ (t : Bool). cond t (entry_head s b.sbsd e) None) (opens k e m)) ∙ h in
        has_head k e i m (none_given (head_at s b.sbsd e) priorities whole k.pty (in_priority k i m.ready))

    entries_ascend : IsAscending (λ (e : QueueEntry). e.seq) d.queues
    entries_ascend = ascends (λ (e : QueueEntry). e.seq) d.queues (subst (λ (x : Option Sbsd). IsSortedOnce (λ (e : QueueEntry). e.seq) nat_cmp (queues_in x)) described o.entries)

    held_by : (queue : QName) (h : Option Sbs) → holder s queue ≡ h → is_holder b.sbsd h ≡ true → holder s queue ≡ Some b
    held_by queue None e t = absurd (cc)
    held_by queue (Some h) e t =
        let same : h.sbsd ≡ b.sbsd = one_name h.sbsd b.sbsd t in
        let both : Some h ≡ Some b = sym (held_named s queue h e) ∙ ap (λ (n : QName). started_named n s.started) same ∙ named in
        e ∙ both

    described_by : (e : QueueEntry) (f : Option QueueEntry) → IsIn e d.queues → entry_for e.jobq d ≡ f → is_same_entry e f ≡ true → entry_for e.jobq d ≡ Some e
    described_by e None i h t = absurd (cc)
    described_by e (Some f) i h t =
        let j = (found_among (λ (n : QueueEntry). same_qname n.jobq e.jobq) d.queues f h).0 in
        h ∙ ap (λ (n : QueueEntry). Some n) (same_numbered (λ (n : QueueEntry). n.seq) d.queues entries_ascend f e j i (eqb-true f.seq e.seq t))

    -- none may start by an entry of a lesser number, nor by this entry with a lesser priority or place
    none_before : (e : QueueEntry) (j : Job) → IsIn e d.queues → IsHead s e.jobq j.pty j → ((f : QueueEntry) → IsIn f d.queues → f.seq < e.seq → open_head s b.sbsd d f ≡ None) → ((p : ℕ) → IsIn p priorities → p < j.pty → head_at s b.sbsd e p ≡ None) → (k : Job) (f : QueueEntry) → IsIn k s.jobs → MayStartBy s b d k f → ComesBefore (rank_in (turn_by b d f) k) (rank_in (turn_by b d e) j) → ⊥
    none_before e j is_in head entries below k f i m (inl less) = has_open_head k f i m (entries f m.is_in less)
    none_before e j is_in head entries below k f i m (inr (inl less)) =
        let one : f ≡ e = same_numbered (λ (n : QueueEntry). n.seq) d.queues entries_ascend f e m.is_in is_in less.0 in
        has_head k e i (subst (λ (n : QueueEntry). MayStartBy s b d k n) one m) (below k.pty (in_priority k i m.ready) less.1)
    none_before e j is_in head entries below k f i m (inr (inr less)) =
        let one : f ≡ e = same_numbered (λ (n : QueueEntry). n.seq) d.queues entries_ascend f e m.is_in is_in less.0 in
        let there : k.jobq ≡ Some e.jobq = m.jobq ∙ ap (λ (n : QueueEntry). Some n.jobq) one in
        let turn : is_turn s e.jobq j.pty k ≡ true = subst (λ (p : ℕ). is_turn s e.jobq p k ≡ true) less.1 (has_turn s e.jobq k m.ready there) in
        let least : j.place ≤ k.place = head.least k i turn in
        let near : k.place < j.place = less.2 in
        absurd (omega arith)

    -- the head that is given first may start, and none there before it
    chosen : (e : QueueEntry) (p : ℕ) (j : Job) → takes_jobs s b d ≡ true → IsIn e d.queues → is_open s b.sbsd d e ≡ true → is_below (count_from_priority b.sbsd e.jobq p s.jobs) (maxpty_of e p) ≡ true → IsHead s e.jobq p j → ((f : QueueEntry) → IsIn f d.queues → f.seq < e.seq → open_head s b.sbsd d f ≡ None) → ((q : ℕ) → IsIn q priorities → q < p → head_at s b.sbsd e q ≡ None) → IsFirst s j (turn_by b d e)
    chosen e p j gate is_in opened below head entries lesser =
        let at_priority : p ≡ j.pty = sym head.turn.level in
        let g = and_parts (is_sbs_active b.phase) (is_below (count_in_sbs b.sbsd s.jobs) d.maxjobs) gate in
        let t = of_three (is_holder b.sbsd (holder s e.jobq)) (is_same_entry e (entry_for e.jobq d)) (is_below (count_from_queue b.sbsd e.jobq s.jobs) e.maxact) opened in
        let its_below : is_below (count_from_priority b.sbsd e.jobq j.pty s.jobs) (maxpty_of e j.pty) ≡ true = subst (λ (q : ℕ). is_below (count_from_priority b.sbsd e.jobq q s.jobs) (maxpty_of e q) ≡ true) at_priority below in
        let its_head : IsHead s e.jobq j.pty j = subst (λ (q : ℕ). IsHead s e.jobq q j) at_priority head in
        let its_lesser : (q : ℕ) → IsIn q priorities → q < j.pty → head_at s b.sbsd e q ≡ None = subst (λ (r : ℕ). (q : ℕ) → IsIn q priorities → q < r → head_at s b.sbsd e q ≡ None) at_priority lesser in
        let m : MayStartBy s b d j e = record {
          is_in = is_in;
          ready = head.turn.ready;
          jobq = head.turn.jobq;
          held = held_by e.jobq (holder s e.jobq) refl t.0;
          described = described_by e (entry_for e.jobq d) is_in refl t.1;
          allowed = all_four (is_sbs_active b.phase) (is_below (count_in_sbs b.sbsd s.jobs) d.maxjobs) (is_below (count_from_queue b.sbsd e.jobq s.jobs) e.maxact) (is_below (count_from_priority b.sbsd e.jobq j.pty s.jobs) (maxpty_of e j.pty)) g.0 g.1 t.2 its_below;
        } in
        record {
          job = head.job;
          may = may_start j e m;
          none_before = λ k u i n before. (
              let both = and_parts (same_qname u.sbs.sbsd b.sbsd) (is_lt (place_cmp (rank_in u k) (rank_in (turn_by b d e) j))) before in
              none_before e j is_in its_head entries its_lesser k u.entry i (may_start_by k u n (one_name u.sbs.sbsd b.sbsd both.0)) (comes_before (rank_in u k) (rank_in (turn_by b d e) j) both.1));
        }

    job_there : (c : Candidate) (e : QueueEntry) (j : Job) → IsFirst s j (turn_by b d e) → candidate_by b.sbsd e j ≡ c → IsFirstThere s b.sbsd c
    job_there c e j first same = record { job = j; turn = turn_by b d e; is_first = first; same = sym same; its = refl }

    first_there : (c : Candidate) → takes_jobs s b d ≡ true → first_head s b.sbsd d ≡ Some c → IsFirstThere s b.sbsd c
    first_there c gate e =
        let g = is_given (open_head s b.sbsd d) (λ (n : QueueEntry). n.seq) d.queues c entries_ascend e in
        let n = g.element in
        let opened = guarded (is_open s b.sbsd d n) (entry_head s b.sbsd n) c g.gives in
        let h = is_given (head_at s b.sbsd n) (λ (p : ℕ). p) priorities c priorities_ascend opened.1 in
        let below = guarded (is_below (count_from_priority b.sbsd n.jobq h.element s.jobs) (maxpty_of n h.element)) (option_map (candidate_by b.sbsd n) (head_of s n.jobq h.element)) c h.gives in
        let m = mapped (candidate_by b.sbsd n) (head_of s n.jobq h.element) c below.1 in
        job_there c n m.0 (chosen n h.element m.0 gate g.is_in opened.0 below.0 (is_head s n.jobq h.element m.0 m.1) g.before h.before) m.2

    none_there : first_described s b (Some d) ≡ None → (k : Job) (u : Turn) → IsIn k s.jobs → MayStart s k u → u.sbs.sbsd ≡ b.sbsd → ⊥
    none_there e k u i m its =
        let n = may_start_by k u m its in
        let whole : first_head s b.sbsd d ≡ None = sym (ap (λ (t : Bool). cond t (first_head s b.sbsd d) None) (takes k u.entry n)) ∙ e in
        has_open_head k u.entry i n (none_given (open_head s b.sbsd d) d.queues whole u.entry n.is_in)

-- what an answer says: a first job of the subsystem, or that no job may start there
abbrev IsAnswer : State → QName → Option Candidate → Type 0
IsAnswer s sbs None = (k : Job) (u : Turn) → IsIn k s.jobs → MayStart s k u → u.sbs.sbsd ≡ sbs → ⊥
IsAnswer s sbs (Some c) = IsFirstThere s sbs c

by_answer : (s : State) (b : Sbs) (d : Sbsd) (a : Option Candidate) → started_named b.sbsd s.started ≡ Some b → object_named b.sbsd s.objects.sbsds ≡ Some d → IsOrderly s b.sbsd → first_described s b (Some d) ≡ a → IsAnswer s b.sbsd a
by_answer s b d None h i o e = none_there s b d h i o e
by_answer s b d (Some c) h i o e =
    let g = guarded (takes_jobs s b d) (first_head s b.sbsd d) c e in
    first_there s b d h i o c g.0 g.1

by_description : (s : State) (b : Sbs) (d : Option Sbsd) → started_named b.sbsd s.started ≡ Some b → object_named b.sbsd s.objects.sbsds ≡ d → IsOrderly s b.sbsd → IsAnswer s b.sbsd (first_described s b d)
by_description s b None h i o = λ k u in_jobs m its.
    let there : object_named b.sbsd s.objects.sbsds ≡ Some u.sbsd = ap (λ (n : QName). object_named n s.objects.sbsds) (sym its) ∙ (is_its_turn s k u m.turn).sbsd in
    cc
by_description s b (Some d) h i o = by_answer s b d (first_described s b (Some d)) h i o refl

by_start : (s : State) (sbs : QName) (b : Option Sbs) → started_named sbs s.started ≡ b → IsOrderly s sbs → IsAnswer s sbs (first_started s b)
by_start s sbs None h o = λ k u in_jobs m its.
    let there : started_named sbs s.started ≡ Some u.sbs = ap (λ (n : QName). started_named n s.started) (sym its) ∙ held_named s u.queue u.sbs (is_its_turn s k u m.turn).holder in
    cc
by_start s sbs (Some b) h o =
    let same : b.sbsd ≡ sbs = one_name b.sbsd sbs (found_among (λ (x : Sbs). same_qname x.sbsd sbs) s.started b h).1 in
    subst (λ (n : QName). started_named n s.started ≡ Some b → IsOrderly s n → IsAnswer s n (first_started s (Some b))) same
    (λ named orderly. by_description s b (object_named b.sbsd s.objects.sbsds) named refl orderly) h o

agree : (s : State) (sbs : QName) → IsOrderly s sbs → (a f : Option Candidate) → first s sbs ≡ f → IsAnswer s sbs a → a ≡ f
agree s sbs o None None e h = refl
agree s sbs o None (Some c) e h = let x = first_of s sbs c e in absurd (h x.job x.turn x.is_first.job x.is_first.may x.its)
agree s sbs o (Some c) None e h = absurd (no_first_is_none s sbs e h.job h.turn h.is_first.job h.is_first.may h.its)
agree s sbs o (Some c) (Some f) e h =
    let x = first_of s sbs f e in
    ap (λ (y : Candidate). Some y) (h.same ∙ one_first s sbs o h.job x.job h.turn x.turn h.is_first x.is_first h.its x.its ∙ sym x.same)

pub heads_are_first : HeadsAreFirst
heads_are_first s sbs o = agree s sbs o (first_by_heads s sbs) (first s sbs) refl (by_start s sbs (started_named sbs s.started) refl o)
