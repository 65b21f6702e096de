-- A job that was launched is one that may be, and is as its route has it.
use Rattle.std.proofs.Common.{◌≡◌, ℕ, ◌==◌, not, nat_le, Bool, true, false, cond, List, [], ◌∷◌, Option, Some, None, refl, sym, ap, subst, ◌∙◌}
use Rattle.std.specs.List.{find}
use Rattle.std.proofs.lemmas.Bool.{not-true, leb-true, eqb-true}
use Rattle.wm_base.specs.declared.job.EndCause.TheVariants.{NoRoute, RouteFull}
use Rattle.wm_base.specs.declared.job.How.{How}
use Rattle.wm_base.specs.Iterate.{IsKept}
use Rattle.wm_base.specs.Limit.{is_below}
use Rattle.wm_base.proofs.Iterate.{iterate-keeps}
use Rattle.wm_base.proofs.Tests.{of_four}
use Rattle.wm_desc.specs.declared.entry.RouteEntry.{RouteEntry}
use Rattle.wm_law.specs.declared.call.Call.{Call}
use Rattle.wm_law.specs.declared.call.Entry.{Entry}
use Rattle.wm_law.specs.declared.choice.Candidate.{Candidate}
use Rattle.wm_law.specs.declared.job.Job.{Job}
use Rattle.wm_law.specs.declared.job.Phase.{Phase}
use Rattle.wm_law.specs.declared.job.Phase.TheVariants.{Starting, Ended}
use Rattle.wm_law.specs.declared.launch.Launched.{Launched}
use Rattle.wm_law.specs.declared.state.State.{State}
use Rattle.wm_law.specs.Choice.{Turn, has_free_queue, is_held, is_sbs_active, maxpty_of, next}
use Rattle.wm_law.specs.Counts.{count_by_route, count_from_priority, count_from_queue, count_in_sbs, is_by_route, is_waiting}
use Rattle.wm_law.specs.History.{stepped}
use Rattle.wm_law.specs.Kept.{GoesOn, IsNumbered}
use Rattle.wm_law.specs.Jobs.{changed_at}
use Rattle.wm_law.specs.Launch.{as_launched, from_queue, launch, with_routed, routed_from_queue, routed_through, route}
use Rattle.wm_law.specs.Laws.{IsIn}
use Rattle.wm_law.specs.Machine.{apply, step, with_clock}
use Rattle.wm_law.specs.Order.{GivesNewSerials, IsFit, IsInOrder, KeepsOrder, AllFit, counted_for, was_launched}
use Rattle.wm_law.specs.Settling.{settle, waiting, ready}
use Rattle.wm_law.specs.Sound.{HasQueues}
use Rattle.wm_law.proofs.Autos.{AutosRouted, autos_fit, calls_route_autos, autos_ready}
use Rattle.wm_law.proofs.Forward.{step_goes_on}
use Rattle.wm_law.proofs.InTurn.{launched_in}
use Rattle.wm_law.proofs.Members.{of_mapped}
use Rattle.wm_law.proofs.Moves.{call_keeps, readies}
use Rattle.wm_law.proofs.NewSerials.{step_gives_new_serials}
use Rattle.wm_law.proofs.Nexts.{IsNext, is_next}
use Rattle.wm_law.proofs.Numbers.{apply_keeps, clock_keeps, launches_keep, step_keeps_numbers, ready_keeps}
use Rattle.wm_law.proofs.Passed.{IsOrderedSince, LaunchesNone, calls_launch_none, counted_all, counted_more, full_still, launched_ordered, one, ordered_yet, ready_launches_none}
use Rattle.wm_law.proofs.Queued.{queued_calls, step_keeps_queues, queued_parts}
use Rattle.wm_law.proofs.Routed.{full_through, launched_routed, started_through, unrouted_through}
use Rattle.wm_law.proofs.Settling.{settled_leaves_none}
use Rattle.wm_law.proofs.Turns.{is_turn}

-- in order, and each launched job is fit
record IsFitSince (s t : State) : Type 0 where
  ordered : IsOrderedSince s t
  fit : AllFit s t

module _ (s t : State) (c : Candidate) (f : Job) (x : IsNext t c f) (h : IsFitSince s t) where
  may_start : (is_waiting f.phase ≡ true) × (not f.held ≡ true) × (has_free_queue t f.jobq ≡ true) × (nat_le f.due t.clock ≡ true)
  may_start = of_four (is_waiting f.phase) (not f.held) (has_free_queue t f.jobq) (nat_le f.due t.clock) x.first.may.ready

  active : is_sbs_active x.turn.sbs.phase ≡ true
  active =
      let u = x.turn in
      (of_four (is_sbs_active u.sbs.phase) (is_below (count_in_sbs u.sbs.sbsd t.jobs) u.sbsd.maxjobs) (is_below (count_from_queue u.sbs.sbsd u.entry.jobq t.jobs) u.entry.maxact) (is_below (count_from_priority u.sbs.sbsd u.entry.jobq f.pty t.jobs) (maxpty_of u.entry f.pty)) x.first.may.allowed).0

  free : is_held t x.turn.queue ≡ false
  free = not-true (is_held t x.turn.queue) (ap (has_free_queue t) (sym (is_turn t f x.turn x.first.may.turn).queue) ∙ may_start.2)

  abbrev by : ℕ → How
  by = from_queue x.turn.sbs.sbsd x.turn.queue f

  routed : (p : Phase) → (routed_from_queue t c.sbs c.jobq f).phase ≡ p → (routed_through t x.turn.sbs.sbsd by f (route x.turn.sbsd f.rtgdta)).phase ≡ p
  routed p e = ap (λ (l : Launched). l.phase) (sym (launched_routed t c f x)) ∙ e

  full_now : (n : ℕ) → (routed_from_queue t c.sbs c.jobq f).phase ≡ Ended (RouteFull n) → (e : RouteEntry) × (route x.turn.sbsd f.rtgdta ≡ Some e) × (e.seq ≡ n) × (is_below (counted_for s (launched_in t c f) (as_launched (routed_from_queue t c.sbs c.jobq f) f) (is_by_route x.turn.sbs.sbsd e.seq)) e.maxact ≡ false)
  full_now n e =
      let r = full_through t x.turn.sbs.sbsd by x.turn.sbsd f n (route x.turn.sbsd f.rtgdta) refl (routed (Ended (RouteFull n)) e) in
      (r.0, r.1, r.2, full_still (count_by_route x.turn.sbs.sbsd r.0.seq t.jobs) (counted_for s (launched_in t c f) (as_launched (routed_from_queue t c.sbs c.jobq f) f) (is_by_route x.turn.sbs.sbsd r.0.seq)) r.0.maxact (counted_all s t c f x h.ordered (is_by_route x.turn.sbs.sbsd r.0.seq)) r.3)

  -- the launched job is fit
  fit_now : IsFit s (launched_in t c f) (as_launched (routed_from_queue t c.sbs c.jobq f) f) x.turn
  fit_now = record {
    turn = x.first.may.turn;
    held = not-true f.held may_start.1;
    queue = free;
    due = leb-true f.due t.clock may_start.3;
    active = active;
    starting = λ e. (
        let r = started_through t x.turn.sbs.sbsd by x.turn.sbsd f (route x.turn.sbsd f.rtgdta) refl (routed Starting e) in
        (r.0, r.1, ap (λ (l : Launched). l.how) (launched_routed t c f x) ∙ r.2));
    route_full = λ n e. full_now n e;
    no_route = λ e. unrouted_through t x.turn.sbs.sbsd by x.turn.sbsd f (route x.turn.sbsd f.rtgdta) refl (routed (Ended NoRoute) e);
  }

  -- a job that was fit still is
  fit_later : (j : Job) (u : Turn) → IsFit s t j u → IsFit s (launched_in t c f) j u
  fit_later j u k = record {
    turn = k.turn;
    held = k.held;
    queue = k.queue;
    due = k.due;
    active = k.active;
    starting = k.starting;
    route_full = λ n e. (
        let r = k.route_full n e in
        (r.0, r.1, r.2, full_still (counted_for s t j (is_by_route u.sbs.sbsd r.0.seq)) (counted_for s (launched_in t c f) j (is_by_route u.sbs.sbsd r.0.seq)) r.0.maxact (counted_more s t c f x h.ordered j (is_by_route u.sbs.sbsd r.0.seq)) r.3));
    no_route = k.no_route;
  }

  fit_at : (i : Job) (b : Bool) (g : Job) → (i.serial == c.serial) ≡ b → IsIn i t.jobs → g ≡ cond b (as_launched (routed_from_queue t c.sbs c.jobq f) i) i → was_launched s g ≡ true → (u : Turn) × IsFit s (launched_in t c f) g u
  fit_at i true g e m same w =
      let l = routed_from_queue t c.sbs c.jobq f in
      let now : as_launched l f ≡ g = ap (as_launched l) (sym (one s t c f x h.ordered i m (eqb-true i.serial c.serial e))) ∙ sym same in
      (x.turn, subst (λ (y : Job). IsFit s (launched_in t c f) y x.turn) now fit_now)
  fit_at i false g e m same w =
      let k = h.fit i m (ap (was_launched s) (sym same) ∙ w) in
      (k.0, subst (λ (y : Job). IsFit s (launched_in t c f) y k.0) (sym same) (fit_later i k.0 k.1))

  fit_still : AllFit s (launched_in t c f)
  fit_still g m w =
      let o = of_mapped (changed_at c.serial (as_launched (routed_from_queue t c.sbs c.jobq f))) t.jobs g m in
      fit_at o.0 (o.0.serial == c.serial) g refl o.1 o.2 w

-- a launch keeps the launched jobs fit
launched_fit : (s t : State) (c : Candidate) (o : Option Job) → find (λ j. j.serial == c.serial) t.jobs ≡ o → next t ≡ Some c → IsFitSince s t → AllFit s (with_routed t c o)
launched_fit s t c None f e h = h.fit
launched_fit s t c (Some j) f e h = fit_still s t c j (is_next t c j e h.ordered.numbered f) h

launches_fit : (s : State) → IsKept next (λ c t. launch t c) (IsFitSince s)
launches_fit s = record {
  by_step = λ t c e h. record {
    ordered = launched_ordered s t c (find (λ (j : Job). j.serial == c.serial) t.jobs) refl e (launches_keep.by_step t c e h.ordered.numbered) h.ordered;
    fit = launched_fit s t c (find (λ (j : Job). j.serial == c.serial) t.jobs) refl e h;
  };
}

-- settling launches the jobs in their order
settled_in_order : (s t : State) → IsNumbered (ready t) → HasQueues (ready t) → LaunchesNone s (ready t) → AutosRouted s (ready t) → GoesOn s (settle t) → GivesNewSerials s (settle t) → IsInOrder s (settle t)
settled_in_order s t n q h a on new =
    let u = ready t in
    let since : IsFitSince s (settle t) = iterate-keeps (IsFitSince s) (launches_fit s) (waiting u) u (record {
      ordered = ordered_yet s u n h;
      fit = λ j m w. (let none = h j m in absurd (cc));
    }) in
    record {
      none_left = settled_leaves_none t;
      none_passed = since.ordered.passed;
      fit = since.fit;
      autos = autos_fit s (ready t) n q a;
      forward = on;
      serials = new;
    }

-- and so does a step
pub step_order : (s : State) (caller : ℕ) (call : Call) (moment : ℕ) → IsNumbered s → HasQueues s → IsInOrder s (step s caller call moment).state
unfolding step
step_order s caller call moment n q =
    let c = with_clock s moment in
    let t = (apply c caller call).state in
    let numbered : IsNumbered t = apply_keeps c caller call (clock_keeps s moment n) in
    let queued : HasQueues t = call_keeps HasQueues c caller call (queued_calls c q) in
    settled_in_order s t (ready_keeps t numbered) (readies HasQueues queued_parts t queued)
    (ready_launches_none s t (call_keeps (LaunchesNone c) c caller call (calls_launch_none c)))
    (autos_ready s t (call_keeps (AutosRouted c) c caller call (calls_route_autos c)))
    (step_goes_on s caller call moment n)
    (step_gives_new_serials s caller call moment)

-- and each entry of a history
pub order_kept : (s : State) (h : List Entry) → IsNumbered s → HasQueues s → KeepsOrder s h
order_kept s [] n q = tt
order_kept s (e ∷ es) n q = (step_order s e.caller e.call e.moment n q, order_kept (stepped s e).state es (step_keeps_numbers s e.caller e.call e.moment n) (step_keeps_queues s e.caller e.call e.moment q))
