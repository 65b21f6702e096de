-- What a launch comes to, by the route of the job.
use Rattle.std.proofs.Common.{◌≡◌, ℕ, ◌==◌, ◌&&◌, Bool, true, false, cond, Option, Some, None, refl, sym, ap, subst, ◌∙◌}
use Rattle.std.specs.Option.{option_and_then}
use Rattle.std.proofs.lemmas.Bool.{and_parts, eqb-true}
use Rattle.wm_base.specs.declared.job.EndCause.{EndCause}
use Rattle.wm_base.specs.declared.job.EndCause.TheVariants.{NoRoute, RouteFull, BadRequest, NoProgram}
use Rattle.wm_base.specs.declared.job.How.{How}
use Rattle.wm_base.specs.declared.job.How.TheVariants.{NotYet}
use Rattle.wm_base.specs.declared.qname.QName.{QName}
use Rattle.wm_base.specs.Limit.{is_below}
use Rattle.wm_base.proofs.Tests.{Some-injective}
use Rattle.wm_desc.specs.declared.description.Program.{Program}
use Rattle.wm_desc.specs.declared.description.Sbsd.{Sbsd}
use Rattle.wm_desc.specs.declared.entry.RouteEntry.{RouteEntry}
use Rattle.wm_desc.specs.Table.{object_named, same_qname}
use Rattle.wm_desc.proofs.Tables.{one_name}
use Rattle.wm_law.specs.declared.choice.Candidate.{Candidate}
use Rattle.wm_law.specs.declared.job.Job.{Job}
use Rattle.wm_law.specs.declared.job.Phase.TheVariants.{Starting, Ended}
use Rattle.wm_law.specs.declared.launch.Launched.{Launched}
use Rattle.wm_law.specs.declared.state.State.{State}
use Rattle.wm_law.specs.Counts.{count_by_route, is_by_route}
use Rattle.wm_law.specs.Kept.{IsRouted}
use Rattle.wm_law.specs.Launch.{called_program, entry_numbered, from_queue, is_match, routed_from_queue, routed_in, starts_unless, routed_through, missing_program, program_fault, route, route_fault}
use Rattle.wm_law.proofs.Members.{found_among}
use Rattle.wm_law.proofs.Nexts.{IsNext, own_queue}
use Rattle.wm_law.proofs.Routes.{numbered_once}
use Rattle.wm_law.proofs.Turns.{is_turn}

-- the launch of the next job is by its route in its subsystem
pub launched_routed : (s : State) (c : Candidate) (j : Job) (n : IsNext s c j) → routed_from_queue s c.sbs c.jobq j ≡ routed_through s n.turn.sbs.sbsd (from_queue n.turn.sbs.sbsd n.turn.queue j) j (route n.turn.sbsd j.rtgdta)
launched_routed s c j n =
    let t = n.turn in
    let m = n.first.may in
    ap (λ (q : QName). routed_from_queue s q c.jobq j) n.sbs
    ∙ ap (λ (q : QName). routed_from_queue s t.sbs.sbsd q j) (n.jobq ∙ own_queue s j t m)
    ∙ ap (λ (o : Option Sbsd). routed_through s t.sbs.sbsd (from_queue t.sbs.sbsd t.queue j) j (option_and_then (λ d. route d j.rtgdta) o)) (is_turn s j t m.turn).sbsd

started_by : (how : ℕ → How) (seq : ℕ) (o : Option EndCause) → (starts_unless how seq o).phase ≡ Starting → (starts_unless how seq o).how ≡ how seq
started_by how seq None h = refl
started_by how seq (Some cause) h = absurd (cc)

-- where the job starts, its how has the number of its route
pub started_through : (s : State) (sbs : QName) (how : ℕ → How) (d : Sbsd) (j : Job) (o : Option RouteEntry) → route d j.rtgdta ≡ o → (routed_through s sbs how j o).phase ≡ Starting → (e : RouteEntry) × (route d j.rtgdta ≡ Some e) × ((routed_through s sbs how j o).how ≡ how e.seq)
started_through s sbs how d j None r h = absurd (cc)
started_through s sbs how d j (Some e) r h = (e, r, started_by how e.seq (route_fault s sbs e j) h)

caused_by : (how : ℕ → How) (seq : ℕ) (o : Option EndCause) (x : EndCause) → (starts_unless how seq o).phase ≡ Ended x → o ≡ Some x
caused_by how seq None x h = absurd (cc)
caused_by how seq (Some cause) x h = cc

-- whether the cause is one of the route
abbrev is_of_route : EndCause → Bool
is_of_route NoRoute = true
is_of_route (RouteFull seq) = true
is_of_route c = false

program_by : (o : Option Program) (x : EndCause) → missing_program o ≡ Some x → is_of_route x ≡ false
program_by None x h = ap is_of_route (sym (Some-injective NoProgram x h))
program_by (Some p) x h = absurd (cc)

program_not : (s : State) (o : Option QName) (x : EndCause) → program_fault s o ≡ Some x → is_of_route x ≡ false
program_not s None x h = ap is_of_route (sym (Some-injective BadRequest x h))
program_not s (Some pgm) x h = program_by (object_named pgm s.objects.programs) x h

full_by : (b : Bool) (o : Option EndCause) (seq : ℕ) (x : EndCause) → (o ≡ Some x → is_of_route x ≡ false) → cond b o (Some (RouteFull seq)) ≡ Some x → is_of_route x ≡ true → (b ≡ false) × (RouteFull seq ≡ x)
full_by true o seq x n h r = let other = n h in absurd (cc)
full_by false o seq x n h r = (refl, Some-injective (RouteFull seq) x h)

-- a cause of the route comes where the entry is full
routed_fault : (s : State) (sbs : QName) (e : RouteEntry) (j : Job) (x : EndCause) → route_fault s sbs e j ≡ Some x → is_of_route x ≡ true → (is_below (count_by_route sbs e.seq s.jobs) e.maxact ≡ false) × (RouteFull e.seq ≡ x)
routed_fault s sbs e j x h r = full_by (is_below (count_by_route sbs e.seq s.jobs) e.maxact) (program_fault s (called_program e j.rqsdta)) e.seq x (λ k. program_not s (called_program e j.rqsdta) x k) h r

-- where the job ends for want of a route, there is none
pub unrouted_through : (s : State) (sbs : QName) (how : ℕ → How) (d : Sbsd) (j : Job) (o : Option RouteEntry) → route d j.rtgdta ≡ o → (routed_through s sbs how j o).phase ≡ Ended NoRoute → route d j.rtgdta ≡ None
unrouted_through s sbs how d j None r h = r
unrouted_through s sbs how d j (Some e) r h =
    let f = routed_fault s sbs e j NoRoute (caused_by how e.seq (route_fault s sbs e j) NoRoute h) refl in
    let none = f.1 in
    absurd (cc)

-- where it ends for a full route, the route has that number, and its count has reached MAXACT
pub full_through : (s : State) (sbs : QName) (how : ℕ → How) (d : Sbsd) (j : Job) (n : ℕ) (o : Option RouteEntry) → route d j.rtgdta ≡ o → (routed_through s sbs how j o).phase ≡ Ended (RouteFull n) → (e : RouteEntry) × (route d j.rtgdta ≡ Some e) × (e.seq ≡ n) × (is_below (count_by_route sbs e.seq s.jobs) e.maxact ≡ false)
full_through s sbs how d j n None r h = absurd (cc)
full_through s sbs how d j n (Some e) r h =
    let f = routed_fault s sbs e j (RouteFull n) (caused_by how e.seq (route_fault s sbs e j) (RouteFull n) h) refl in
    let same = f.1 in
    (e, r, cc, f.0)

-- what a launch to Starting stands on: the route in the subsystem, whose count is below MAXACT, and a program that can be started
pub record IsByRoute (s : State) (sbs : QName) (how : ℕ → How) (j : Job) (l : Launched) : Type 0 where
  pub sbsd : Sbsd
  pub entry : RouteEntry
  pub described : object_named sbs s.objects.sbsds ≡ Some sbsd
  pub routed : route sbsd j.rtgdta ≡ Some entry
  pub below : is_below (count_by_route sbs entry.seq s.jobs) entry.maxact ≡ true
  pub startable : program_fault s (called_program entry j.rqsdta) ≡ None
  pub is_how : l.how ≡ how entry.seq

is_open : {X : Type 0} (b : Bool) (o : Option X) (x : X) → cond b o (Some x) ≡ None → (b ≡ true) × (o ≡ None)
is_open true o x h = (refl, h)
is_open false o x h = absurd (cc)

uncaused : (how : ℕ → How) (seq : ℕ) (o : Option EndCause) → (starts_unless how seq o).phase ≡ Starting → o ≡ None
uncaused how seq None h = refl
uncaused how seq (Some cause) h = absurd (cc)

by_entry : (s : State) (sbs : QName) (how : ℕ → How) (j : Job) (d : Sbsd) (o : Option RouteEntry) → object_named sbs s.objects.sbsds ≡ Some d → route d j.rtgdta ≡ o → (routed_through s sbs how j o).phase ≡ Starting → IsByRoute s sbs how j (routed_through s sbs how j o)
by_entry s sbs how j d None k r h = absurd (cc)
by_entry s sbs how j d (Some e) k r h =
    let fault = route_fault s sbs e j in
    let tests = is_open (is_below (count_by_route sbs e.seq s.jobs) e.maxact) (program_fault s (called_program e j.rqsdta)) (RouteFull e.seq) (uncaused how e.seq fault h) in
    record {
      sbsd = d;
      entry = e;
      described = k;
      routed = r;
      below = tests.0;
      startable = tests.1;
      is_how = started_by how e.seq fault h;
    }

by_description : (s : State) (sbs : QName) (how : ℕ → How) (j : Job) (o : Option Sbsd) → object_named sbs s.objects.sbsds ≡ o → (routed_through s sbs how j (option_and_then (λ d. route d j.rtgdta) o)).phase ≡ Starting → IsByRoute s sbs how j (routed_through s sbs how j (option_and_then (λ d. route d j.rtgdta) o))
by_description s sbs how j None k h = absurd (cc)
by_description s sbs how j (Some d) k h = by_entry s sbs how j d (route d j.rtgdta) k refl h

pub by_route : (s : State) (sbs : QName) (how : ℕ → How) (j : Job) → (routed_in s sbs how j).phase ≡ Starting → IsByRoute s sbs how j (routed_in s sbs how j)
by_route s sbs how j h = by_description s sbs how j (object_named sbs s.objects.sbsds) refl h

starts_by : (test : How → Bool) (how : ℕ → How) (seq : ℕ) (o : Option EndCause) → test NotYet ≡ false → test (starts_unless how seq o).how ≡ true → (starts_unless how seq o).phase ≡ Starting
starts_by test how seq None n h = refl
starts_by test how seq (Some cause) n h = let yes : test NotYet ≡ true = h in absurd (cc)

starts_through : (test : How → Bool) (s : State) (sbs : QName) (how : ℕ → How) (j : Job) (o : Option RouteEntry) → test NotYet ≡ false → test (routed_through s sbs how j o).how ≡ true → (routed_through s sbs how j o).phase ≡ Starting
starts_through test s sbs how j None n h = let yes : test NotYet ≡ true = h in absurd (cc)
starts_through test s sbs how j (Some e) n h = starts_by test how e.seq (route_fault s sbs e j) n h

-- a launch whose how passes a test that jobs not yet started don't pass is one to Starting
pub starts_as_tested : (test : How → Bool) (s : State) (sbs : QName) (how : ℕ → How) (j : Job) → test NotYet ≡ false → test (routed_in s sbs how j).how ≡ true → (routed_in s sbs how j).phase ≡ Starting
starts_as_tested test s sbs how j n h = starts_through test s sbs how j (option_and_then (λ d. route d j.rtgdta) (object_named sbs s.objects.sbsds)) n h

-- whether it came by the subsystem's routing entry of that number is whether the how is that of this subsystem and number
abbrev pub IsOfRoute : QName → (ℕ → How) → Type 0
IsOfRoute q how = (sbs : QName) (seq n : ℕ) → is_by_route sbs seq (how n) ≡ (same_qname q sbs && n == seq)

-- a launch that adds to a routing entry's count finds the count below MAXACT
pub below_route : (t : State) (q : QName) (how : ℕ → How) (j : Job) (sbs : QName) (seq : ℕ) (d : Sbsd) (e : RouteEntry) → IsOfRoute q how → IsRouted t.objects → object_named sbs t.objects.sbsds ≡ Some d → entry_numbered seq d ≡ Some e → is_by_route sbs seq (routed_in t q how j).how ≡ true → is_below (count_by_route sbs seq t.jobs) e.maxact ≡ true
below_route t q how j sbs seq d e of_route routed k f h =
    let r = by_route t q how j (starts_as_tested (is_by_route sbs seq) t q how j refl h) in
    let tested : (same_qname q sbs && r.entry.seq == seq) ≡ true = sym (of_route sbs seq r.entry.seq) ∙ ap (is_by_route sbs seq) (sym r.is_how) ∙ h in
    let both = and_parts (same_qname q sbs) (r.entry.seq == seq) tested in
    let its : q ≡ sbs = one_name q sbs both.0 in
    let number : r.entry.seq ≡ seq = eqb-true r.entry.seq seq both.1 in
    let same : r.sbsd ≡ d = Some-injective r.sbsd d (sym r.described ∙ ap (λ (n : QName). object_named n t.objects.sbsds) its ∙ k) in
    let stands = (found_among (λ (x : RouteEntry). is_match x.cmp j.rtgdta) r.sbsd.routes r.entry r.routed).0 in
    let numbered : entry_numbered r.entry.seq r.sbsd ≡ Some r.entry = numbered_once r.sbsd.routes r.entry (routed.sorted q r.sbsd r.described) stands in
    let one : r.entry ≡ e = Some-injective r.entry e (sym numbered ∙ ap (λ (n : ℕ). entry_numbered n r.sbsd) number ∙ ap (entry_numbered seq) same ∙ f) in
    subst (λ (x : RouteEntry). is_below (count_by_route sbs seq t.jobs) x.maxact ≡ true) one
    (subst (λ (n : ℕ). is_below (count_by_route sbs n t.jobs) r.entry.maxact ≡ true) number
    (subst (λ (n : QName). is_below (count_by_route n r.entry.seq t.jobs) r.entry.maxact ≡ true) its r.below))
