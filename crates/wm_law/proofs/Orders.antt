-- Each Starting job has its order.
use Rattle.std.proofs.Common.{◌≡◌, ℕ, ℤ, ◌+◌, ◌++◌, ◌==◌, Bool, true, false, cond, List, [], ◌∷◌, map, Option, Some, None, refl, sym, ap, subst, ◌∙◌, inl, inr, arith}
use Rattle.std.specs.List.{find, count_by}
use Rattle.std.specs.Option.{IsSome, option_and_then}
use Rattle.std.proofs.lemmas.List.Sums.{sum_by-cons}
use Rattle.std.proofs.lemmas.Bool.{eqb-true}
use Rattle.wm_base.specs.declared.job.Class.{Class}
use Rattle.wm_base.specs.declared.job.How.{How}
use Rattle.wm_base.specs.declared.job.How.TheVariants.{NotYet, FromQueue, Auto, Pre}
use Rattle.wm_base.specs.declared.job.StartOrder.{StartOrder}
use Rattle.wm_base.specs.declared.qname.QName.{QName}
use Rattle.wm_base.proofs.Tests.{unrefused}
use Rattle.wm_law.specs.declared.call.Reply.TheVariants.{Nothing}
use Rattle.wm_law.specs.declared.command.Sbmjob.{Sbmjob}
use Rattle.wm_law.specs.declared.choice.Candidate.{Candidate}
use Rattle.wm_law.specs.declared.job.Job.{Job}
use Rattle.wm_law.specs.declared.job.Phase.{Phase}
use Rattle.wm_law.specs.declared.job.Wish.{Wish}
use Rattle.wm_law.specs.declared.state.Evoke.{Evoke}
use Rattle.wm_law.specs.declared.state.Power.{Power}
use Rattle.wm_law.specs.declared.job.Phase.TheVariants.{Starting}
use Rattle.wm_law.specs.declared.launch.Launched.{Launched}
use Rattle.wm_desc.specs.declared.description.Jobd.{Jobd}
use Rattle.wm_desc.specs.declared.objects.Objects.{Objects}
use Rattle.wm_desc.specs.declared.description.Program.{Program}
use Rattle.wm_desc.specs.declared.entry.AutoEntry.{AutoEntry}
use Rattle.wm_desc.specs.declared.entry.RouteEntry.{RouteEntry}
use Rattle.wm_desc.specs.declared.description.Sbsd.{Sbsd}
use Rattle.wm_law.specs.declared.state.State.{State}
use Rattle.wm_base.specs.Iterate.{IsKept}
use Rattle.wm_law.specs.declared.state.Sbs.{Sbs}
use Rattle.wm_law.specs.Autos.{auto_job, routed_auto, auto_made}
use Rattle.wm_law.specs.Choice.{has_entry, next}
use Rattle.wm_law.specs.Counts.{is_in_sbs, is_starting}
use Rattle.wm_law.specs.Kept.{IsLodged, IsNumbered, IsRouted, HasOrders, OpeningHasOrders}
use Rattle.wm_law.specs.Jobs.{changed_at, active_at}
use Rattle.wm_law.specs.Launch.{as_auto, as_launched, called_args, called_program, entry_numbered, from_queue, is_match, launch, with_routed, routed_from_queue, routed_in, missing_program, order_by, order_called, order_of, order_through, order_with, program_fault, route_entry, order_pre, pre_entry}
use Rattle.wm_law.specs.Laws.{IsIn}
use Rattle.wm_law.specs.Pending.{kills, orders_left, starting}
use Rattle.wm_law.specs.Submitting.{submitted_job}
use Rattle.wm_law.specs.Reports.{hand_job, hand_order, in_phase, is_to_kill, phased_at, start_job, with_phase}
use Rattle.wm_law.specs.Settling.{leave}
use Rattle.wm_law.specs.Machine.{step, with_clock}
use Rattle.wm_desc.specs.Table.{object_named, same_qname}
use Rattle.wm_law.specs.History.{after}
use Rattle.wm_law.proofs.Alterations.{IsAlteration, each_altered, unstarted}
use Rattle.wm_law.proofs.Opened.{batch_sbsd, opening_objects, opened, opening_is, only_sbsd}
use Rattle.wm_law.proofs.Endings.{IsEnding, stood_starting, wished, starting_phase, use_ends}
use Rattle.wm_law.proofs.Turns.{is_turn}
use Rattle.wm_law.proofs.Firsts.{next_is_first}
use Rattle.wm_law.proofs.Lodged.{lodged_longer, lodged_ending, lodged_left}
use Rattle.wm_law.proofs.Named.{own_name}
use Rattle.wm_law.proofs.Remade.{order_kept}
use Rattle.wm_law.proofs.Forward.{only_one}
use Rattle.wm_law.proofs.Routed.{by_route}
use Rattle.wm_law.proofs.Routes.{IsSorted, numbered_once, route_is_least}
use Rattle.wm_law.proofs.Members.{found_among, of_last, of_mapped}
use Rattle.wm_law.proofs.Moves.{HoldsOfStates, IsMakeable, IsKeptByParts, after_keeps, autos_made, step_keeps}
use Rattle.wm_law.proofs.Numbers.{auto_keeps, begun_keeps, clock_keeps, launches_keep, only_started, calls as numbers}
use Rattle.wm_desc.specs.declared.entry.PreEntry.{PreEntry}
use Rattle.wm_law.specs.Objects.{AreSound}
use Rattle.wm_law.specs.Prestart.{make_pre, new_pre_job, with_evoke}
use Rattle.wm_law.specs.Sound.{StepKeepsOrders, StartingJobsHaveOrders, HandGivesAnOrder, ReachedRouteIsLeast}
use Rattle.wm_law.specs.Subsystems.{begun}
use Rattle.wm_law.proofs.PreOrders.{pre_ordered}
use Rattle.wm_law.proofs.Supplies.{IsSuppliable}
use Rattle.wm_law.specs.declared.state.Stop.{Stop}

-- what a launch to Starting stands on: the routing entry, and the program that it calls
record IsLed (s : State) (sbs : QName) (by : ℕ → How) (j : Job) (l : Launched) : Type 0 where
  sbsd : Sbsd
  entry : RouteEntry
  pgm : QName
  program : Program
  description : object_named sbs s.objects.sbsds ≡ Some sbsd
  stands : IsIn entry sbsd.routes
  called : called_program entry j.rqsdta ≡ Some pgm
  found : object_named pgm s.objects.programs ≡ Some program
  how : l.how ≡ by entry.seq

by_program : (s : State) (pgm : QName) (o : Option Program) → object_named pgm s.objects.programs ≡ o → missing_program o ≡ None → (p : Program) × (object_named pgm s.objects.programs ≡ Some p)
by_program s pgm None e h = absurd (cc)
by_program s pgm (Some p) e h = (p, e)

by_called : (s : State) (e : RouteEntry) (j : Job) (o : Option QName) → called_program e j.rqsdta ≡ o → program_fault s o ≡ None → (pgm : QName) × (called_program e j.rqsdta ≡ Some pgm) × ((p : Program) × (object_named pgm s.objects.programs ≡ Some p))
by_called s e j None f h = absurd (cc)
by_called s e j (Some pgm) f h = (pgm, f, by_program s pgm (object_named pgm s.objects.programs) refl h)

is_led : (s : State) (sbs : QName) (by : ℕ → How) (j : Job) → (routed_in s sbs by j).phase ≡ Starting → IsLed s sbs by j (routed_in s sbs by j)
is_led s sbs by j h =
    let r = by_route s sbs by j h in
    let called = by_called s r.entry j (called_program r.entry j.rqsdta) refl r.startable in
    let program = called.2 in
    record {
      sbsd = r.sbsd;
      entry = r.entry;
      pgm = called.0;
      program = program.0;
      description = r.described;
      stands = (found_among (λ (x : RouteEntry). is_match x.cmp j.rtgdta) r.sbsd.routes r.entry r.routed).0;
      called = called.1;
      found = program.1;
      how = r.is_how;
    }

with_class : (j : Job) (args : List (List ℕ)) (p : Program) (o : Option Class) → IsSome o → IsSome (order_with false j args (Some p) o)
with_class j args p None h = absurd (cc)
with_class j args p (Some cls) h = refl

-- the order of a job with the how is that by the routing entry of the number
abbrev Leads : State → QName → (ℕ → How) → Type 0
Leads s sbs by = (j : Job) (seq : ℕ) → order_by s j (by seq) ≡ order_through s j (route_entry s sbs seq)

-- so a job that was launched to Starting has its order
has_order : (s : State) (sbs : QName) (by : ℕ → How) (j : Job) (l : Launched) → Leads s sbs by → IsRouted s.objects → IsLed s sbs by j l → IsSome (order_of s (record j { phase = l.phase; how = l.how }))
has_order s sbs by j l leads routed led =
    let e = led.entry in
    let k = record j { phase = l.phase; how = l.how } in
    let numbered : entry_numbered e.seq led.sbsd ≡ Some e = numbered_once led.sbsd.routes e (routed.sorted sbs led.sbsd led.description) led.stands in
    let cls = routed.classes sbs led.sbsd e led.description led.stands in
    let same : order_of s k ≡ order_with false k (called_args e k.rqsdta) (Some led.program) (object_named e.cls s.objects.classes) =
    ap (λ (h : How). order_by s k h) led.how
    ∙ leads k e.seq
    ∙ ap (λ (o : Option Sbsd). order_through s k (option_and_then (entry_numbered e.seq) o)) led.description
    ∙ ap (order_through s k) numbered
    ∙ ap (order_called s k e) led.called
    ∙ ap (λ (o : Option Program). order_with false k (called_args e k.rqsdta) o (object_named e.cls s.objects.classes)) led.found in
    subst (λ (o : Option StartOrder). IsSome o) (sym same) (with_class k (called_args e k.rqsdta) led.program (object_named e.cls s.objects.classes) cls)

-- Q holds of each Starting job of a list
abbrev OfStarting : (Job → Type 0) → List Job → Type 0
OfStarting Q jobs = (j : Job) → IsIn j jobs → j.phase ≡ Starting → Q j

abbrev AllOrdered : State → List Job → Type 0
AllOrdered s jobs = OfStarting (λ j. IsSome (order_of s j)) jobs

abbrev AllLodged : List Sbs → List Job → Type 0
AllLodged started jobs = OfStarting (λ j. IsLodged started j) jobs

-- one more job, for which Q holds if it is Starting
last_of : (Q : Job → Type 0) (jobs : List Job) (j : Job) → (j.phase ≡ Starting → Q j) → OfStarting Q jobs → OfStarting Q (jobs ++ j ∷ [])
last_of Q jobs j new h k i e =
    elim (of_last jobs j k i) as (λ _. Q k) [
      | inl m ↦ h k m e
      | inr same ↦ subst Q (sym same) (new (ap (λ (x : Job). x.phase) (sym same) ∙ e))
    ]

entered : (Q : Job → Type 0) (s : State) (user : List ℕ) (c : Sbmjob) (d : Jobd) (due : ℕ) → OfStarting Q s.jobs → OfStarting Q (s.jobs ++ submitted_job s user c d due ∷ [])
entered Q s user c d due h = last_of Q s.jobs (submitted_job s user c d due) (λ e. absurd (cc)) h

altered_of : (Q : Job → Type 0) (s : State) (change : Job → Job) (place : ℕ) → IsAlteration s change place → OfStarting Q s.jobs → OfStarting Q (map change s.jobs)
altered_of Q s change place a h = each_altered (λ (k : Job). k.phase ≡ Starting → Q k) s change place a h (λ j k i b p. absurd (unstarted s j k b p))

changed_one : (Q : Job → Type 0) (change : Job → Job) (t : Bool) (j : Job) → (t ≡ true → (change j).phase ≡ Starting → Q (change j)) → (j.phase ≡ Starting → Q j) → (cond t (change j) j).phase ≡ Starting → Q (cond t (change j) j)
changed_one Q change true j new h e = new refl e
changed_one Q change false j new h e = h e

-- Q still holds of each Starting job, where it holds of the changed one if that is Starting
changed_of : (Q : Job → Type 0) (jobs : List Job) (serial : ℕ) (change : Job → Job) → ((j : Job) → IsIn j jobs → (j.serial == serial) ≡ true → (change j).phase ≡ Starting → Q (change j)) → OfStarting Q jobs → OfStarting Q (map (changed_at serial change) jobs)
changed_of Q jobs serial change new h k m e =
    let o = of_mapped (changed_at serial change) jobs k m in
    let j = o.0 in
    subst Q (sym o.2) (changed_one Q change (j.serial == serial) j (new j o.1) (h j o.1) (ap (λ (x : Job). x.phase) (sym o.2) ∙ e))

moved : (Q : Job → Type 0) (jobs : List Job) (serial : ℕ) (phase : Phase) → is_starting phase ≡ false → OfStarting Q jobs → OfStarting Q (map (phased_at serial phase) jobs)
moved Q jobs serial phase n h = changed_of Q jobs serial (in_phase phase) (λ j i t e. (let same = ap is_starting e in absurd (cc))) h

launched_all : (s : State) (c : Candidate) (f : Job) → IsNumbered s → HasOrders s → IsIn f s.jobs → f.serial ≡ c.serial → AllOrdered s (map (changed_at c.serial (as_launched (routed_from_queue s c.sbs c.jobq f))) s.jobs)
launched_all s c f n h i same =
    let l = routed_from_queue s c.sbs c.jobq f in
    changed_of (λ j. IsSome (order_of s j)) s.jobs c.serial (as_launched l)
    (λ j m t starts.
    let one = only_one s.jobs n.serials.distinct f j i m (same ∙ sym (eqb-true j.serial c.serial t)) in
    subst (λ (x : Job). IsSome (order_of s (record x { phase = l.phase; how = l.how }))) one (has_order s c.sbs (from_queue c.sbs c.jobq f) f l (λ x seq. refl) h.routed (is_led s c.sbs (from_queue c.sbs c.jobq f) f starts)))
    h.starting

-- a subsystem that the next job's candidate names is started: it holds the job's queue
named_started : (s : State) (c : Candidate) → next s ≡ Some c → (b : Sbs) × IsIn b s.started × (c.sbs ≡ b.sbsd)
named_started s c e =
    let first = next_is_first s c e in
    let t = first.1.0 in
    let is_first = first.1.1.0 in
    let named = first.1.1.2 in
    (t.sbs, (found_among (has_entry s t.queue) s.started t.sbs (is_turn s first.0 t is_first.may.turn).holder).0, named.sbs)

came_into : (sbs jobq q : QName) (pty seq : ℕ) (how : How) → how ≡ FromQueue sbs jobq pty seq → sbs ≡ q → is_in_sbs q how ≡ true
came_into sbs jobq q pty seq how e same = ap (is_in_sbs q) e ∙ subst (λ (n : QName). same_qname sbs n ≡ true) same (own_name sbs)

launched_lodged : (s : State) (c : Candidate) (f : Job) → next s ≡ Some c → HasOrders s → AllLodged s.started (map (changed_at c.serial (as_launched (routed_from_queue s c.sbs c.jobq f))) s.jobs)
launched_lodged s c f e h =
    let l = routed_from_queue s c.sbs c.jobq f in
    let b = named_started s c e in
    changed_of (IsLodged s.started) s.jobs c.serial (as_launched l)
    (λ j m t starts. (let led = is_led s c.sbs (from_queue c.sbs c.jobq f) f starts in (b.0, b.1, came_into c.sbs c.jobq b.0.sbsd f.pty led.entry.seq l.how led.how b.2)))
    h.lodged

-- numbered, with sound objects, and each Starting job has its order
pub record IsOrdered (s : State) : Type 0 where
  pub numbered : IsNumbered s
  pub objects : AreSound s.objects
  pub orders : HasOrders s

objects_same : (s : State) (c : Candidate) (o : Option Job) → AreSound s.objects → AreSound (with_routed s c o).objects
objects_same s c None h = h
objects_same s c (Some j) h = h

routed : (s : State) → HasOrders s → (jobs : List Job) → AllOrdered s jobs → AllLodged s.started jobs → HasOrders (record s { jobs = jobs })
routed s h jobs all lodged = record { routed = h.routed; starting = all; lodged = lodged }

launches : (s : State) (c : Candidate) (o : Option Job) → find (λ j. j.serial == c.serial) s.jobs ≡ o → next s ≡ Some c → IsNumbered s → HasOrders s → HasOrders (with_routed s c o)
launches s c None f e n h = h
launches s c (Some j) f e n h =
    let k = found_among (λ (j : Job). j.serial == c.serial) s.jobs j f in
    routed s h _ (launched_all s c j n h k.0 (eqb-true j.serial c.serial k.1)) (launched_lodged s c j e h)

launches_leave_orders : IsKept next (λ c t. launch t c) IsOrdered
launches_leave_orders = record {
  by_step = λ s c e h. record {
    numbered = launches_keep.by_step s c e h.numbered;
    objects = objects_same s c (find (λ (j : Job). j.serial == c.serial) s.jobs) h.objects;
    orders = launches s c (find (λ j. j.serial == c.serial) s.jobs) refl e h.numbered h.orders;
  };
}

-- what has the same objects and jobs, and the jobs' subsystems
alike : (s t : State) → t.objects ≡ s.objects → t.jobs ≡ s.jobs → AllLodged t.started s.jobs → HasOrders s → HasOrders t
alike s t e f lodged h = record {
  routed = subst IsRouted (sym e) h.routed;
  starting = subst (λ (jobs : List Job). AllOrdered t jobs) (sym f) (λ j i p. subst (λ (o : Objects). IsSome (order_of (record s { objects = o }) j)) (sym e) (h.starting j i p));
  lodged = subst (λ (jobs : List Job). AllLodged t.started jobs) (sym f) lodged;
}

-- an autostart job that is Starting has its order, in the subsystem that it started with
auto_ordered : (q : QName) (t : State) (e : AutoEntry) (d : Jobd) → IsMakeable q t → HasOrders t → HasOrders (auto_made t q e d)
auto_ordered q t e d m h =
    let j = auto_job t e d in
    let l = routed_in t q (as_auto q) j in
    let u = routed t h (t.jobs ++ routed_auto t q j ∷ [])
    (last_of (λ k. IsSome (order_of t k)) t.jobs (routed_auto t q j) (λ starts. has_order t q (as_auto q) j l (λ x seq. refl) h.routed (is_led t q (as_auto q) j starts)) h.starting)
    (last_of (IsLodged t.started) t.jobs (routed_auto t q j)
    (λ starts. (m.sbs, m.started, ap (is_in_sbs m.sbs.sbsd) (is_led t q (as_auto q) j starts).how ∙ subst (λ (n : QName). same_qname q n ≡ true) (sym m.named) (own_name q)))
    h.lodged) in
    alike (record t { jobs = t.jobs ++ routed_auto t q j ∷ [] }) _ refl refl u.lodged u

-- so does a prestart job
pre_made_ordered : (q : QName) (d : Sbsd) (e : PreEntry) (t : State) → IsSuppliable q d e t → AreSound t.objects → HasOrders t → HasOrders (make_pre q e.pgm t)
pre_made_ordered q d e t can sound h =
    let j = new_pre_job t q e.pgm in
    let u = routed t h (t.jobs ++ j ∷ [])
    (last_of (λ k. IsSome (order_of t k)) t.jobs j (λ starts. pre_ordered q d e t can sound) h.starting)
    (last_of (IsLodged t.started) t.jobs j (λ starts. (can.sbs, can.started, subst (λ (n : QName). same_qname q n ≡ true) (sym can.named) (own_name q))) h.lodged) in
    alike (record t { jobs = t.jobs ++ j ∷ [] }) _ refl refl u.lodged u

-- neither a wish nor a use changes an order
module _ (j : Job) (p : Phase) (w : Wish) (uses : ℕ) (evoke : Bool) where
  abbrev so : Job
  so = record j { phase = p; wish = w; uses = uses; evoke = evoke }

  with_wished : (pre : Bool) (args : List (List ℕ)) (o : Option Program) (c : Option Class) → order_with pre so args o c ≡ order_with pre j args o c
  with_wished pre args None c = refl
  with_wished pre args (Some pgm) None = refl
  with_wished pre args (Some pgm) (Some cls) = refl

  called_wished : (s : State) (e : RouteEntry) (o : Option QName) → order_called s so e o ≡ order_called s j e o
  called_wished s e None = refl
  called_wished s e (Some pgm) = with_wished false (called_args e j.rqsdta) (object_named pgm s.objects.programs) (object_named e.cls s.objects.classes)

  through_wished : (s : State) (o : Option RouteEntry) → order_through s so o ≡ order_through s j o
  through_wished s None = refl
  through_wished s (Some e) = called_wished s e (called_program e j.rqsdta)

  pre_wished : (s : State) (o : Option PreEntry) → order_pre s so o ≡ order_pre s j o
  pre_wished s None = refl
  pre_wished s (Some e) = with_wished true [] (object_named e.pgm s.objects.programs) (object_named e.cls s.objects.classes)

  order_wished : (s : State) (h : How) → order_by s so h ≡ order_by s j h
  order_wished s NotYet = refl
  order_wished s (FromQueue sbs jobq pty seq) = through_wished s (route_entry s sbs seq)
  order_wished s (Auto sbs seq) = through_wished s (route_entry s sbs seq)
  order_wished s (Pre sbs pgm) = pre_wished s (pre_entry s sbs pgm)

ended_orders : (s : State) (change : Job → Job) (started : List Sbs) (stopped : List Stop) (evokes : List Evoke) (power : Power) → IsEnding s change started power → HasOrders s → HasOrders (wished s change started stopped evokes power)
ended_orders s change started stopped evokes power e h = record {
  routed = h.routed;
  starting = λ k i p. (
      let m = stood_starting change e.jobs s.jobs k i p in
      let same : order_of s k ≡ order_of s m.job = ap (λ (x : Job). order_of s x) m.same ∙ order_wished m.job k.phase k.wish k.uses k.evoke s m.job.how in
      subst (λ (o : Option StartOrder). IsSome o) (sym same) (h.starting m.job m.there m.starting));
  lodged = λ k i p. (
      let m = stood_starting change e.jobs s.jobs k i p in
      let l = lodged_ending s.started started m.job e.subsystems (h.lodged m.job m.there m.starting) in
      (l.0, l.1, ap (λ (x : Job). is_in_sbs l.0.sbsd x.how) m.same ∙ l.2));
}

pub calls : (s : State) → IsOrdered s → HoldsOfStates IsOrdered s
calls s all =
    let n = numbers s all.numbered in
    let sound = all.objects in
    let h = all.orders in
    record {
      stays = all;
      starts = λ q e. autos_made IsOrdered s q e
          (λ t x d m k. record { numbered = auto_keeps q t x d m k.numbered; objects = k.objects; orders = auto_ordered q t x d m k.orders })
          (record { numbered = begun_keeps s q all.numbered; objects = sound; orders = alike s (begun s q) refl refl (λ j i p. lodged_longer s.started _ j (h.lodged j i p)) h });
      supplies = record {
        makes = λ q d e t can k. record { numbered = n.supplies.makes q d e t can k.numbered; objects = k.objects; orders = pre_made_ordered q d e t can k.objects k.orders };
        assigns = λ t q pgm job evokes can k. record { numbered = n.supplies.assigns t q pgm job evokes can k.numbered; objects = k.objects; orders = ended_orders t (active_at job.serial with_evoke) t.started t.stopped evokes t.power (use_ends t q pgm job can.there can.idle) k.orders };
      };
      enters = λ user c d due has. record {
        numbered = n.enters user c d due has;
        objects = sound;
        orders = (let t = routed s h _ (entered (λ j. IsSome (order_of s j)) s user c d due h.starting) (entered (IsLodged s.started) s user c d due h.lodged) in alike (record s { jobs = s.jobs ++ submitted_job s user c d due ∷ [] }) _ refl refl t.lodged t);
      };
      alters = λ change place a. record {
        numbered = n.alters change place a;
        objects = sound;
        orders = (let t = routed s h _ (altered_of (λ j. IsSome (order_of s j)) s change place a h.starting) (altered_of (IsLodged s.started) s change place a h.lodged) in alike (record s { jobs = map change s.jobs }) _ refl refl t.lodged t);
      };
      holds = λ held a. record { numbered = n.holds held a; objects = sound; orders = alike s (record s { held = held }) refl refl h.lodged h };
      lists = λ stopped evokes. record { numbered = n.lists stopped evokes; objects = sound; orders = alike s (record s { stopped = stopped; evokes = evokes }) refl refl h.lodged h };
      moves = λ serial j phase stopped i same r e. record {
        numbered = n.moves serial j phase stopped i same r e;
        objects = sound;
        orders = (let t = routed s h _ (moved (λ j. IsSome (order_of s j)) s.jobs serial phase e h.starting) (moved (IsLodged s.started) s.jobs serial phase e h.lodged) in alike (with_phase s serial phase) (record (with_phase s serial phase) { stopped = stopped }) refl refl t.lodged t);
      };
      ends = λ change started stopped evokes power e. record { numbered = n.ends change started stopped evokes power e; objects = sound; orders = ended_orders s change started stopped evokes power e h };
      makes = λ o e. record {
        numbered = n.makes o e;
        objects = e.sound sound;
        orders = record {
          routed = e.routed h.routed;
          starting = λ j i p. (let was = h.starting j i p in subst (λ (x : Option StartOrder). IsSome x) (sym (order_kept s o e j (h.lodged j i p) was)) was);
          lodged = h.lodged;
        };
      };
    }

leaves : (t : State) → HasOrders t → HasOrders (leave t)
leaves t h = alike t (leave t) refl refl (λ j i p. lodged_left t j i p (h.lodged j i p)) h

pub clock_keeps_orders : (s : State) (moment : ℕ) → HasOrders s → HasOrders (with_clock s moment)
clock_keeps_orders s moment h = alike s (with_clock s moment) refl refl h.lodged h

pub parts : IsKeptByParts IsOrdered
parts = record {
  clock = λ s moment h. record { numbered = clock_keeps s moment h.numbered; objects = h.objects; orders = clock_keeps_orders s moment h.orders };
  calls = calls;
  leaves = λ s h. record { numbered = only_started s h.numbered; objects = h.objects; orders = leaves s h.orders };
  launches = launches_leave_orders;
}

pub step_keeps_orders : StepKeepsOrders
step_keeps_orders s caller call moment n o h = (step_keeps IsOrdered parts s caller call moment (record { numbered = n; objects = o; orders = h })).orders

opening_sorted : (d : Sbsd) → d ≡ batch_sbsd → IsSorted d.routes
opening_sorted d same = subst (λ (x : Sbsd). IsSorted x.routes) (sym same) (λ i j e less h. absurd (omega arith))

opening_classes : (d : Sbsd) (e : RouteEntry) → d ≡ batch_sbsd → IsIn e d.routes → IsSome (object_named e.cls opening_objects.classes)
opening_classes d e same i =
    elim (subst (λ (x : Sbsd). IsIn e x.routes) same i) as (λ _. IsSome (object_named e.cls opening_objects.classes)) [
      | inl one ↦ subst (λ (x : RouteEntry). IsSome (object_named x.cls opening_objects.classes)) (sym one) refl
      | inr none ↦ absurd none
    ]

opened_has_orders : (offset : ℤ) → HasOrders (opened offset)
opened_has_orders offset = record {
  routed = record {
    sorted = λ sbs d k. opening_sorted d (only_sbsd sbs d k);
    classes = λ sbs d e k i. opening_classes d e (only_sbsd sbs d k) i;
  };
  starting = λ j i p. absurd i;
  lodged = λ j i p. absurd i;
}

pub opening_has_orders : OpeningHasOrders
opening_has_orders offset = subst HasOrders (sym (opening_is offset)) (opened_has_orders offset)

pub starting_jobs_have_orders : StartingJobsHaveOrders
starting_jobs_have_orders s h n sound o = (after_keeps IsOrdered parts s h (record { numbered = n; objects = sound; orders = o })).orders

-- where no job passes a test, none is found, and where none is found, none passes
module _ (test : Job → Bool) where
  abbrev one : Job → ℕ
  one j = cond (test j) 1 0

  none_passing : (jobs : List Job) → find test jobs ≡ None → count_by test jobs ≡ 0
  none_passing [] e = refl
  none_passing (j ∷ jobs) e =
      let n = unrefused (test j) j (find test jobs) e in
      let rest = none_passing jobs n.1 in
      let this : one j ≡ 0 = ap (λ (t : Bool). cond t 1 0) n.0 in
      rw (sum_by-cons one j jobs) (omega arith)

  none_at : (t : Bool) (j : Job) (o : Option Job) → ◌≡◌ {A = ℕ} (cond t 1 0) 0 → o ≡ None → cond t (Some j) o ≡ None
  none_at true j o e h = absurd (omega arith)
  none_at false j o e h = h

  none_found : (jobs : List Job) → count_by test jobs ≡ 0 → find test jobs ≡ None
  none_found [] e = refl
  none_found (j ∷ jobs) e =
      let sum : one j + count_by test jobs ≡ 0 = sym (sum_by-cons one j jobs) ∙ e in
      let rest = none_found jobs (omega arith) in
      none_at (test j) j (find test jobs) (omega arith) rest

not_nothing : (s : State) (m : ℕ) (j : Job) (o : Option StartOrder) → IsSome o → (hand_order s m j o).reply ≡ Nothing → ⊥
not_nothing s m j None h e = absurd (cc)
not_nothing s m j (Some o) h e = absurd (cc)

none_starts : (s : State) (m : ℕ) (o : Option Job) → find (λ j. is_starting j.phase) s.jobs ≡ o → HasOrders s → (start_job s m o).reply ≡ Nothing → o ≡ None
none_starts s m None f h e = refl
none_starts s m (Some j) f h e =
    let k = found_among (λ (j : Job). is_starting j.phase) s.jobs j f in
    absurd (not_nothing s m j (order_of s j) (h.starting j k.0 (starting_phase j.phase k.1)) e)

-- a Hand that answers Nothing finds neither a kill nor a start
nothing : (s : State) (m : ℕ) (o : Option Job) → find (is_to_kill m) s.jobs ≡ o → HasOrders s → (hand_job s m o).reply ≡ Nothing → (find (is_to_kill m) s.jobs ≡ None) × (find (λ j. is_starting j.phase) s.jobs ≡ None)
nothing s m None f h e = (f, none_starts s m (find (λ (j : Job). is_starting j.phase) s.jobs) refl h e)
nothing s m (Some j) f h e = absurd (cc)

none_of_both : (n m : ℕ) → n + m ≡ 0 → (n ≡ 0) × (m ≡ 0)
none_of_both n m e = (omega arith, omega arith)

no_orders : (s : State) (m : ℕ) → (find (is_to_kill m) s.jobs ≡ None) × (find (λ j. is_starting j.phase) s.jobs ≡ None) → orders_left s m ≡ 0
no_orders s m h =
    let kills_none = none_passing (is_to_kill m) s.jobs h.0 in
    let starting_none = none_passing (λ (j : Job). is_starting j.phase) s.jobs h.1 in
    omega arith

hands_none : (s : State) (m : ℕ) → orders_left s m ≡ 0 → (hand_job s m (find (is_to_kill m) s.jobs)).reply ≡ Nothing
hands_none s m e =
    let none = none_of_both (kills s m) (starting s) e in
    ap (λ (o : Option Job). (hand_job s m o).reply) (none_found (is_to_kill m) s.jobs none.0)
    ∙ ap (λ (o : Option Job). (start_job s m o).reply) (none_found (λ (j : Job). is_starting j.phase) s.jobs none.1)

pub hand_gives_an_order : HandGivesAnOrder
unfolding step
hand_gives_an_order s h caller moment n sound o =
    let t = with_clock (after s h) moment in
    let kept = starting_jobs_have_orders s h n sound o in
    let ordered = alike (after s h) t refl refl kept.lodged kept in (
      λ e. no_orders t caller (nothing t caller (find (is_to_kill caller) t.jobs) refl ordered e),
      λ e. hands_none t caller e,
    )

pub reached_route_is_least : ReachedRouteIsLeast
reached_route_is_least s h sbs d rtgdta e n sound o k f = route_is_least d rtgdta e ((starting_jobs_have_orders s h n sound o).routed.sorted sbs d k) f
