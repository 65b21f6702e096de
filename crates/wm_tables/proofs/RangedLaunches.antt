-- Launches keep the ranges of jobs, and so do the autostart jobs of a subsystem that starts.
use Rattle.std.proofs.Common.{◌≡◌, ◌≤◌, ◌-◌, ◌+◌, ◌==◌, ℕ, Bool, true, false, cond, nat_le, List, [], ◌∷◌, length, fold, Option, Some, None, refl, sym, subst, inl, inr, arith}
use Rattle.std.specs.List.{find}
use Rattle.std.specs.Option.{IfSome, option_and_then, option_map, option_map_or}
use Rattle.std.proofs.lemmas.Bool.{and_parts}
use Rattle.std.proofs.lemmas.Bool.Decides.{nat_tests}
use Rattle.wm_base.specs.Limit.{is_below}
use Rattle.wm_base.specs.Name.{IsName}
use Rattle.wm_base.specs.Text.{IsText}
use Rattle.wm_base.specs.declared.job.EndCause.TheVariants.{RouteFull}
use Rattle.wm_base.specs.declared.job.How.{How}
use Rattle.wm_base.specs.declared.qname.QName.{QName}
use Rattle.wm_desc.specs.Ranges.{cmp_in_range, jobd_in_range, limit_within, request_in_range, route_in_range, within}
use Rattle.wm_desc.specs.Table.{object_named, same_qname}
use Rattle.wm_desc.specs.declared.description.Jobd.{Jobd}
use Rattle.wm_desc.specs.declared.description.Program.{Program}
use Rattle.wm_desc.specs.declared.description.Sbsd.{Sbsd}
use Rattle.wm_desc.specs.declared.entry.AutoEntry.{AutoEntry}
use Rattle.wm_desc.specs.declared.entry.RouteEntry.{RouteEntry}
use Rattle.wm_desc.specs.declared.objects.Objects.{Objects}
use Rattle.wm_law.specs.Autos.{auto_described, auto_job, routed_auto, autos_of, make_auto}
use Rattle.wm_law.specs.Counts.{count_by_route}
use Rattle.wm_law.specs.Fit.{IsBetween}
use Rattle.wm_law.specs.Jobs.{changed_at}
use Rattle.wm_law.specs.Launch.{as_auto, as_launched, called_program, from_queue, is_match, launch, with_routed, routed_from_queue, routed_in, starts_unless, routed_through, missing_program, program_fault, route}
use Rattle.wm_law.specs.Laws.{IsIn}
use Rattle.wm_law.specs.Ranges.{AreInRange}
use Rattle.wm_law.specs.Submitting.{numbers_end, serials_end}
use Rattle.wm_law.specs.Subsystems.{begun, with_autos}
use Rattle.wm_law.specs.declared.choice.Candidate.{Candidate}
use Rattle.wm_law.specs.declared.job.Job.{Job}
use Rattle.wm_law.specs.declared.launch.Launched.{Launched}
use Rattle.wm_law.specs.declared.state.State.{State}
use Rattle.wm_law.proofs.Members.{found_among}
use Rattle.wm_rows.specs.Stored.{IsPhase, IsRequest, stored_phase}
use Rattle.wm_tables.specs.Ranges.{IsInRange, IsJobInRange}
use Rattle.wm_tables.proofs.RangedJobs.{jobs_last, jobs_mapped, phased}
use Rattle.wm_law.proofs.Moves.{IsStartable, enough}

-- what is found by a name stands among the objects
described_by : {V : Type 0} (q : QName) (xs : List (QName × V)) (d : V) (o : Option (QName × V)) → find (λ x. same_qname x.0 q) xs ≡ o → option_map (λ x. x.1) o ≡ Some d → (x : QName × V) × IsIn x xs × (x.1 ≡ d)
described_by q xs d None e f = absurd (cc)
described_by q xs d (Some x) e f = (x, (found_among (λ y. same_qname y.0 q) xs x e).0, (cc))

pub described_in : {V : Type 0} (q : QName) (xs : List (QName × V)) (d : V) → object_named q xs ≡ Some d → (x : QName × V) × IsIn x xs × (x.1 ≡ d)
described_in {V = V} q xs d e = described_by q xs d (find (λ (x : QName × V). same_qname x.0 q) xs) refl e

at_both : (low high n : ℕ) → within low high n ≡ true → (low ≤ n) × (n ≤ high)
at_both low high n h =
    let parts = and_parts (nat_le low n) (nat_le n high) h in
    let first : nat_le low n ≡ true = parts.0 in
    let last : nat_le n high ≡ true = parts.1 in
    (grind (arith, nat_tests), grind (arith, nat_tests))

seq_range : (e : RouteEntry) → route_in_range e ≡ true → (1 ≤ e.seq) × (e.seq ≤ 9999)
seq_range e h = at_both 1 9999 e.seq (and_parts _ (cmp_in_range e.cmp) (and_parts _ (limit_within 0 1000 e.maxact) (and_parts _ (within 1 10 e.poolid) h).0).0).0

-- what a launch comes to has a cause in range
module _ (s : State) (how : ℕ → How) where
  missing : (seq : ℕ) (o : Option Program) → IsPhase (stored_phase (starts_unless how seq (missing_program o)).phase)
  missing seq None = tt
  missing seq (Some p) = tt

  faulty : (seq : ℕ) (pgm : Option QName) → IsPhase (stored_phase (starts_unless how seq (program_fault s pgm)).phase)
  faulty seq None = tt
  faulty seq (Some pgm) = missing seq (object_named pgm s.objects.programs)

  through : (sbs : QName) (e : RouteEntry) (j : Job) (t : Bool) → (1 ≤ e.seq) × (e.seq ≤ 9999) → IsPhase (stored_phase (starts_unless how e.seq (cond t (program_fault s (called_program e j.rqsdta)) (Some (RouteFull e.seq)))).phase)
  through sbs e j true h = faulty e.seq (called_program e j.rqsdta)
  through sbs e j false h = h

  routed : (sbs : QName) (d : Sbsd) (j : Job) (o : Option RouteEntry) → ((e : RouteEntry) → IsIn e d.routes → (1 ≤ e.seq) × (e.seq ≤ 9999)) → ((e : RouteEntry) → o ≡ Some e → IsIn e d.routes) → IsPhase (stored_phase (routed_through s sbs how j o).phase)
  routed sbs d j None h k = tt
  routed sbs d j (Some e) h k = through sbs e j (is_below (count_by_route sbs e.seq s.jobs) e.maxact) (h e (k e refl))

  found : (sbs : QName) (j : Job) (o : Option Sbsd) → AreInRange s.objects → object_named sbs s.objects.sbsds ≡ o → IsPhase (stored_phase (routed_through s sbs how j (option_and_then (λ d. route d j.rtgdta) o)).phase)
  found sbs j None r e = tt
  found sbs j (Some d) r e =
      let m = described_in sbs s.objects.sbsds d e in
      let all : (n : RouteEntry) → IsIn n d.routes → (1 ≤ n.seq) × (n.seq ≤ 9999) = λ n i. seq_range n ((r.entries m.0 m.1).routes n (subst (λ (x : Sbsd). IsIn n x.routes) (sym m.2) i)).ranges in
      routed sbs d j (route d j.rtgdta) all (λ n f. (found_among (λ (x : RouteEntry). is_match x.cmp j.rtgdta) d.routes n f).0)

  pub launched_range : (sbs : QName) (j : Job) → AreInRange s.objects → IsPhase (stored_phase (routed_in s sbs how j).phase)
  launched_range sbs j r = found sbs j (object_named sbs s.objects.sbsds) r refl

-- a job that was launched
pub launched_job : (o : Objects) (j : Job) (l : Launched) → IsPhase (stored_phase l.phase) → IsJobInRange o j → IsJobInRange o (as_launched l j)
launched_job o j l h r = phased o j (as_launched l j) refl h r

pub at_one : (o : Objects) (j k : Job) (t : Bool) → IsJobInRange o j → IsJobInRange o k → IsJobInRange o (cond t k j)
at_one o j k true h g = g
at_one o j k false h g = h

launched_state : (s : State) (c : Candidate) (o : Option Job) → IsInRange s → IsInRange (with_routed s c o)
launched_state s c None r = r
launched_state s c (Some j) r =
    let l = routed_from_queue s c.sbs c.jobq j in
    let h = launched_range s (from_queue c.sbs c.jobq j) c.sbs j r.objects in
    record {
      objects = r.objects;
      held = r.held;
      jobs = jobs_mapped s.objects (changed_at c.serial (as_launched l)) s.jobs (λ k i x. at_one s.objects k (as_launched l k) (k.serial == c.serial) x (launched_job s.objects k l h x)) r.jobs;
      clock = r.clock;
    }

pub launch_range : (s : State) (c : Candidate) → IsInRange s → IsInRange (launch s c)
launch_range s c r = launched_state s c (find (λ j. j.serial == c.serial) s.jobs) r

-- a request of a job description
pub request_text : (r : Option (List ℕ)) → IfSome r IsText → IsRequest r
request_text None h = tt
request_text (Some text) h = h

pub data_length : (low high n : ℕ) → within low high n ≡ true → IsBetween low high n
data_length low high n h = let both = at_both low high n h in record { least = both.0; most = both.1 }

-- so many numbers and serials are left, and the state is in range
record HasLeft (count : ℕ) (t : State) : Type 0 where
  range : IsInRange t
  least : 1 ≤ t.next_number
  numbers : count ≤ numbers_end - t.next_number
  serials : count ≤ serials_end - t.next_serial

auto_job_range : (t : State) (e : AutoEntry) (d : Jobd) (count : ℕ) → HasLeft (count + 1) t → IsName e.job → object_named e.jobd t.objects.jobds ≡ Some d → IsJobInRange t.objects (auto_job t e d)
auto_job_range t e d count h name named =
    let m = described_in e.jobd t.objects.jobds d named in
    let text : IsText d.rtgdta = subst (λ (x : Jobd). IsText x.rtgdta) m.2 (h.range.objects.jobds m.0 m.1).rtgdta in
    let request : IfSome d.rqsdta IsText = subst (λ (x : Jobd). IfSome x.rqsdta IsText) m.2 (h.range.objects.jobds m.0 m.1).rqsdta in
    let ranges : jobd_in_range d ≡ true = subst (λ (x : Jobd). jobd_in_range x ≡ true) m.2 (h.range.objects.jobds m.0 m.1).ranges in
    let parts = and_parts (within 1 80 (length d.rtgdta)) (request_in_range d.rqsdta) ranges in
    let least = h.least in
    let numbers = h.numbers in
    let serials = h.serials in
    record {
      stored = record {
        serial = omega arith;
        number_least = least;
        number_most = omega arith;
        user = refl;
        name = name;
        jobq = tt;
        pty_least = omega arith;
        pty_most = omega arith;
        place = omega arith;
        rtgdta = text;
        rqsdta = request_text d.rqsdta request;
        due = h.range.clock;
        phase = tt;
      };
      lengths = record { rtgdta = data_length 1 80 (length d.rtgdta) parts.0; rqsdta = parts.1 };
      kind = record { jobq = refl; pty = refl; place = refl; held = refl };
    }

made_one : (q : QName) (t : State) (e : AutoEntry) (count : ℕ) (o : Option Jobd) → HasLeft (count + 1) t → IsName e.job → object_named e.jobd t.objects.jobds ≡ o → HasLeft count (auto_described t q e o)
made_one q t e count None h name named =
    let numbers = h.numbers in
    let serials = h.serials in
    record { range = h.range; least = h.least; numbers = omega arith; serials = omega arith }
made_one q t e count (Some d) h name named =
    let least = h.least in
    let numbers = h.numbers in
    let serials = h.serials in
    let job = auto_job_range t e d count h name named in
    let phase = launched_range t (as_auto q) q (auto_job t e d) h.range.objects in
    record {
      range = record {
        objects = h.range.objects;
        held = h.range.held;
        jobs = jobs_last t.objects t.jobs (routed_auto t q (auto_job t e d)) h.range.jobs (launched_job t.objects (auto_job t e d) (routed_in t q (as_auto q) (auto_job t e d)) phase job);
        clock = h.range.clock;
      };
      least = omega arith;
      numbers = omega arith;
      serials = omega arith;
    }

made_all : (q : QName) (es : List AutoEntry) (t : State) → HasLeft (length es) t → ((e : AutoEntry) → IsIn e es → IsName e.job) → IsInRange (fold (make_auto q) t es)
made_all q [] t h names = h.range
made_all q (e ∷ es) t h names =
    let numbers = h.numbers in
    let serials = h.serials in
    let more : HasLeft (length es + 1) t = record { range = h.range; least = h.least; numbers = omega arith; serials = omega arith } in
    made_all q es (make_auto q t e) (made_one q t e (length es) (object_named e.jobd t.objects.jobds) more (names e (inl refl)) refl) (λ x i. names x (inr i))

auto_names : (s : State) (q : QName) (o : Option Sbsd) → AreInRange s.objects → object_named q s.objects.sbsds ≡ o → (e : AutoEntry) → IsIn e (option_map_or (λ d. d.autos) o []) → IsName e.job
auto_names s q None r f e i = absurd i
auto_names s q (Some d) r f e i =
    let m = described_in q s.objects.sbsds d f in
    ((r.entries m.0 m.1).autos e (subst (λ (x : Sbsd). IsIn e x.autos) (sym m.2) i)).job

-- a subsystem that starts with its autostart jobs
pub autos_range : (s : State) (q : QName) → IsStartable s q → 1 ≤ s.next_number → IsInRange s → IsInRange (with_autos s q)
autos_range s q can least r =
    let left = enough (nat_le 1 s.next_number) (numbers_end - s.next_number) (serials_end - s.next_serial) (length (autos_of s q)) can.numbers in
    made_all q (autos_of s q) (begun s q)
    (record { range = record { objects = r.objects; held = r.held; jobs = r.jobs; clock = r.clock }; least = least; numbers = left.0; serials = left.1 })
    (auto_names s q (object_named q s.objects.sbsds) r.objects refl)
