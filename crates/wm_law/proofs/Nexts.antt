-- The job that is launched next: it may start, so the counts are below their limits.
use Rattle.std.proofs.Common.{◌≡◌, ℕ, ◌==◌, ◌&&◌, Bool, true, false, Option, Some, None, refl, sym, ap, subst, ◌∙◌}
use Rattle.std.specs.List.{find}
use Rattle.std.specs.Option.{option_and_then}
use Rattle.std.proofs.lemmas.Bool.{and_parts, eqb-true}
use Rattle.wm_base.specs.declared.job.EndCause.{EndCause}
use Rattle.wm_base.specs.declared.job.How.{How}
use Rattle.wm_base.specs.declared.job.How.TheVariants.{NotYet, FromQueue}
use Rattle.wm_base.specs.declared.qname.QName.{QName}
use Rattle.wm_base.specs.Limit.{is_below}
use Rattle.wm_base.proofs.Tests.{Some-injective, of_four}
use Rattle.wm_desc.specs.declared.description.Sbsd.{Sbsd}
use Rattle.wm_desc.specs.declared.entry.QueueEntry.{QueueEntry}
use Rattle.wm_desc.specs.declared.entry.RouteEntry.{RouteEntry}
use Rattle.wm_desc.specs.Table.{object_named, same_qname}
use Rattle.wm_desc.proofs.Tables.{one_name}
use Rattle.wm_law.specs.declared.choice.Candidate.{Candidate}
use Rattle.wm_law.specs.declared.job.Job.{Job}
use Rattle.wm_law.specs.declared.state.State.{State}
use Rattle.wm_law.specs.Choice.{Turn, entry_for, is_sbs_active, maxpty_of, next}
use Rattle.wm_law.specs.Counts.{count_from_priority, count_from_queue, count_in_sbs, is_from_priority, is_from_queue, is_in_sbs}
use Rattle.wm_law.specs.Kept.{IsNumbered}
use Rattle.wm_law.specs.Launch.{from_queue, routed_from_queue, routed_in, starts_unless, routed_through, route, route_fault}
use Rattle.wm_law.specs.Laws.{IsFirst, MayStart}
use Rattle.wm_law.proofs.Firsts.{next_is_first}
use Rattle.wm_law.proofs.Forward.{only_one}
use Rattle.wm_law.proofs.Members.{found_among}
use Rattle.wm_law.proofs.Turns.{is_turn}

-- the job that a candidate names: the first of the subsystem that the candidate names
pub record IsNext (s : State) (c : Candidate) (j : Job) : Type 0 where
  pub turn : Turn
  pub first : IsFirst s j turn
  pub serial : c.serial ≡ j.serial
  pub sbs : c.sbs ≡ turn.sbs.sbsd
  pub jobq : c.jobq ≡ turn.entry.jobq

-- the job of the next candidate's serial is the one that it names
pub is_next : (s : State) (c : Candidate) (j : Job) → next s ≡ Some c → IsNumbered s → find (λ j. j.serial == c.serial) s.jobs ≡ Some j → IsNext s c j
is_next s c j e n f =
    let first = next_is_first s c e in
    let turn = first.1.0 in
    let is_first = first.1.1.0 in
    let named = first.1.1.2 in
    let k = found_among (λ (j : Job). j.serial == c.serial) s.jobs j f in
    let serial : c.serial ≡ j.serial = sym (eqb-true j.serial c.serial k.1) in
    let same : first.0 ≡ j = only_one s.jobs n.serials.distinct first.0 j is_first.job k.0 (sym named.serial ∙ serial) in
    record { turn = turn; first = subst (λ (x : Job). IsFirst s x turn) same is_first; serial = serial; sbs = named.sbs; jobq = named.jobq }

came_by : (test : How → Bool) (how : ℕ → How) (seq : ℕ) (o : Option EndCause) → test NotYet ≡ false → test (starts_unless how seq o).how ≡ true → (n : ℕ) × ((starts_unless how seq o).how ≡ how n)
came_by test how seq None n h = (seq, refl)
came_by test how seq (Some cause) n h = let yes : test NotYet ≡ true = h in absurd (cc)

came_through : (test : How → Bool) (s : State) (sbs : QName) (how : ℕ → How) (j : Job) (o : Option RouteEntry) → test NotYet ≡ false → test (routed_through s sbs how j o).how ≡ true → (n : ℕ) × ((routed_through s sbs how j o).how ≡ how n)
came_through test s sbs how j None n h = let yes : test NotYet ≡ true = h in absurd (cc)
came_through test s sbs how j (Some e) n h = came_by test how e.seq (route_fault s sbs e j) n h

-- a launch whose how passes a test that jobs not yet started don't pass is by a routing entry
came_as : (test : How → Bool) (s : State) (sbs : QName) (how : ℕ → How) (j : Job) → test NotYet ≡ false → test (routed_in s sbs how j).how ≡ true → (n : ℕ) × ((routed_in s sbs how j).how ≡ how n)
came_as test s sbs how j n h = came_through test s sbs how j (option_and_then (λ d. route d j.rtgdta) (object_named sbs s.objects.sbsds)) n h

-- so that of a job of a queue is one from the queue
came_from : (test : How → Bool) (s : State) (sbs jobq : QName) (j : Job) → test NotYet ≡ false → test (routed_from_queue s sbs jobq j).how ≡ true → (n : ℕ) × ((routed_from_queue s sbs jobq j).how ≡ FromQueue sbs jobq j.pty n)
came_from test s sbs jobq j n h = came_as test s sbs (from_queue sbs jobq j) j n h

-- the counts are below their limits
record IsBelowLimits (s : State) (t : Turn) (pty : ℕ) : Type 0 where
  maxjobs : is_below (count_in_sbs t.sbs.sbsd s.jobs) t.sbsd.maxjobs ≡ true
  maxact : is_below (count_from_queue t.sbs.sbsd t.entry.jobq s.jobs) t.entry.maxact ≡ true
  maxpty : is_below (count_from_priority t.sbs.sbsd t.entry.jobq pty s.jobs) (maxpty_of t.entry pty) ≡ true

below_limits : (s : State) (j : Job) (t : Turn) → MayStart s j t → IsBelowLimits s t j.pty
below_limits s j t m =
    let a = of_four (is_sbs_active t.sbs.phase) (is_below (count_in_sbs t.sbs.sbsd s.jobs) t.sbsd.maxjobs) (is_below (count_from_queue t.sbs.sbsd t.entry.jobq s.jobs) t.entry.maxact) (is_below (count_from_priority t.sbs.sbsd t.entry.jobq j.pty s.jobs) (maxpty_of t.entry j.pty)) m.allowed in
    record { maxjobs = a.1; maxact = a.2; maxpty = a.3 }

-- the subsystem's description is the one of its name
same_sbsd : (s : State) (j : Job) (t : Turn) (sbs : QName) (d : Sbsd) → MayStart s j t → t.sbs.sbsd ≡ sbs → object_named sbs s.objects.sbsds ≡ Some d → t.sbsd ≡ d
same_sbsd s j t sbs d m its k = Some-injective t.sbsd d (sym (is_turn s j t m.turn).sbsd ∙ ap (λ (q : QName). object_named q s.objects.sbsds) its ∙ k)

-- the entry for a queue has its name
pub own_queue : (s : State) (j : Job) (t : Turn) → MayStart s j t → t.entry.jobq ≡ t.queue
own_queue s j t m = one_name t.entry.jobq t.queue (found_among (λ (e : QueueEntry). same_qname e.jobq t.queue) t.sbsd.queues t.entry (is_turn s j t m.turn).entry).1

-- the entry is the description's one for its queue
same_entry : (s : State) (j : Job) (t : Turn) (queue : QName) (d : Sbsd) (e : QueueEntry) → MayStart s j t → t.entry.jobq ≡ queue → t.sbsd ≡ d → entry_for queue d ≡ Some e → t.entry ≡ e
same_entry s j t queue d e m its same k =
    Some-injective t.entry e (sym (is_turn s j t m.turn).entry ∙ ap (λ (q : QName). entry_for q t.sbsd) (sym (own_queue s j t m) ∙ its) ∙ ap (entry_for queue) same ∙ k)

-- where a launch adds to a subsystem's count, the count is below MAXJOBS
pub below_maxjobs : (s : State) (c : Candidate) (j : Job) (sbs : QName) (d : Sbsd) → IsNext s c j → object_named sbs s.objects.sbsds ≡ Some d → is_in_sbs sbs (routed_from_queue s c.sbs c.jobq j).how ≡ true → is_below (count_in_sbs sbs s.jobs) d.maxjobs ≡ true
below_maxjobs s c j sbs d n k h =
    let t = n.turn in
    let m = n.first.may in
    let came = came_from (is_in_sbs sbs) s c.sbs c.jobq j refl h in
    let tested : is_in_sbs sbs (FromQueue c.sbs c.jobq j.pty came.0) ≡ true = sym (ap (is_in_sbs sbs) came.1) ∙ h in
    let its : t.sbs.sbsd ≡ sbs = sym n.sbs ∙ one_name c.sbs sbs tested in
    subst (λ (x : Sbsd). is_below (count_in_sbs sbs s.jobs) x.maxjobs ≡ true) (same_sbsd s j t sbs d m its k)
    (subst (λ (x : QName). is_below (count_in_sbs x s.jobs) t.sbsd.maxjobs ≡ true) its (below_limits s j t m).maxjobs)

-- where it adds to an entry's count, the count is below MAXACT
pub below_maxact : (s : State) (c : Candidate) (j : Job) (sbs queue : QName) (d : Sbsd) (e : QueueEntry) → IsNext s c j → object_named sbs s.objects.sbsds ≡ Some d → entry_for queue d ≡ Some e → is_from_queue sbs queue (routed_from_queue s c.sbs c.jobq j).how ≡ true → is_below (count_from_queue sbs queue s.jobs) e.maxact ≡ true
below_maxact s c j sbs queue d e n k f h =
    let t = n.turn in
    let m = n.first.may in
    let came = came_from (is_from_queue sbs queue) s c.sbs c.jobq j refl h in
    let tested : is_from_queue sbs queue (FromQueue c.sbs c.jobq j.pty came.0) ≡ true = sym (ap (is_from_queue sbs queue) came.1) ∙ h in
    let both = and_parts (same_qname c.sbs sbs) (same_qname c.jobq queue) tested in
    let its : t.sbs.sbsd ≡ sbs = sym n.sbs ∙ one_name c.sbs sbs both.0 in
    let from : t.entry.jobq ≡ queue = sym n.jobq ∙ one_name c.jobq queue both.1 in
    subst (λ (x : QueueEntry). is_below (count_from_queue sbs queue s.jobs) x.maxact ≡ true) (same_entry s j t queue d e m from (same_sbsd s j t sbs d m its k) f)
    (subst (λ (x : QName). is_below (count_from_queue sbs x s.jobs) t.entry.maxact ≡ true) from
    (subst (λ (x : QName). is_below (count_from_queue x t.entry.jobq s.jobs) t.entry.maxact ≡ true) its (below_limits s j t m).maxact))

-- where it adds to an entry's count with a priority, the count is below MAXPTY of the priority
pub below_maxpty : (s : State) (c : Candidate) (j : Job) (sbs queue : QName) (pty : ℕ) (d : Sbsd) (e : QueueEntry) → IsNext s c j → object_named sbs s.objects.sbsds ≡ Some d → entry_for queue d ≡ Some e → is_from_priority sbs queue pty (routed_from_queue s c.sbs c.jobq j).how ≡ true → is_below (count_from_priority sbs queue pty s.jobs) (maxpty_of e pty) ≡ true
below_maxpty s c j sbs queue pty d e n k f h =
    let t = n.turn in
    let m = n.first.may in
    let came = came_from (is_from_priority sbs queue pty) s c.sbs c.jobq j refl h in
    let tested : is_from_priority sbs queue pty (FromQueue c.sbs c.jobq j.pty came.0) ≡ true = sym (ap (is_from_priority sbs queue pty) came.1) ∙ h in
    let all = and_parts (same_qname c.sbs sbs && same_qname c.jobq queue) (j.pty == pty) tested in
    let both = and_parts (same_qname c.sbs sbs) (same_qname c.jobq queue) all.0 in
    let its : t.sbs.sbsd ≡ sbs = sym n.sbs ∙ one_name c.sbs sbs both.0 in
    let from : t.entry.jobq ≡ queue = sym n.jobq ∙ one_name c.jobq queue both.1 in
    let level : j.pty ≡ pty = eqb-true j.pty pty all.1 in
    subst (λ (x : QueueEntry). is_below (count_from_priority sbs queue pty s.jobs) (maxpty_of x pty) ≡ true) (same_entry s j t queue d e m from (same_sbsd s j t sbs d m its k) f)
    (subst (λ (x : ℕ). is_below (count_from_priority sbs queue x s.jobs) (maxpty_of t.entry x) ≡ true) level
    (subst (λ (x : QName). is_below (count_from_priority sbs x j.pty s.jobs) (maxpty_of t.entry j.pty) ≡ true) from
    (subst (λ (x : QName). is_below (count_from_priority x t.entry.jobq j.pty s.jobs) (maxpty_of t.entry j.pty) ≡ true) its (below_limits s j t m).maxpty)))
