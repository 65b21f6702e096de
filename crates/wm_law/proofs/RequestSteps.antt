-- No step and no history loses a request or gives one out twice.
use Rattle.std.proofs.Common.{◌==◌, not, ℕ, ℤ, List, [], ◌∷◌, Option, Some, None, sym, subst, ◌++◌, ◌∙◌, ap, refl, inl, inr, ◌≡◌}
use Rattle.std.specs.List.{find}
use Rattle.wm_base.specs.declared.qname.QName.{QName}
use Rattle.wm_base.specs.Iterate.{IsKept}
use Rattle.wm_base.proofs.Iterate.{iterate-keeps}
use Rattle.wm_law.specs.declared.call.Call.{Call}
use Rattle.wm_law.specs.declared.choice.Candidate.{Candidate}
use Rattle.wm_law.specs.declared.job.Job.{Job}
use Rattle.wm_law.specs.declared.state.Evoke.{Evoke}
use Rattle.wm_law.specs.declared.state.Sbs.{Sbs}
use Rattle.wm_law.specs.declared.state.State.{State}
use Rattle.wm_law.specs.Choice.{next}
use Rattle.wm_law.specs.History.{stepped, after}
use Rattle.wm_law.specs.Kept.{HasDistinctNames}
use Rattle.wm_law.specs.Launch.{launch, with_routed}
use Rattle.wm_law.specs.Laws.{IsIn}
use Rattle.wm_law.specs.Machine.{step, with_clock}
use Rattle.wm_law.specs.Prestart.{assigned_to, is_evoke_of, evokes_of}
use Rattle.wm_law.specs.Requests.{NoneWaitsAtEnd, OpeningHasNoneWaiting, RequestsAreKept, StepKeepsNoneWaiting, StepKeepsRequests, called, Drops, GivesOut, IsAfterCall, IsQueue, RequestsAreQueue, arrives, dropped, stay}
use Rattle.wm_law.specs.Settling.{come_due, is_gone, is_gone_by_name, leave, settle, start_jobs, waiting}
use Rattle.wm_law.specs.Supply.{supply}
use Rattle.wm_law.proofs.Filters.{in_whole}
use Rattle.wm_law.proofs.FirstGone.{gone_is}
use Rattle.wm_law.proofs.GivenOut.{none_due, settling_gives_out}
use Rattle.wm_law.proofs.Members.{left_in}
use Rattle.wm_law.proofs.Numbers.{apply_keeps, clock_keeps, step_keeps_numbers}
use Rattle.wm_law.proofs.Opened.{opened, opening_is}
use Rattle.wm_law.proofs.RequestCalls.{calls_do, calls_keep_requests}
use Rattle.wm_law.proofs.Served.{IsKeptBySupply, supply_kept}
use Rattle.wm_law.proofs.Started.{step_keeps_names_distinct}
use Rattle.wm_law.specs.declared.call.Entry.{Entry}

none_left : (s : State) → NoneWaitsAtEnd s → NoneWaitsAtEnd (leave s)
none_left s n e b i m same = n e b (left_in (λ (x : Evoke). not (is_gone_by_name s x.sbs)) s.evokes e i) (left_in (λ (x : Sbs). not (is_gone s.jobs x)) s.started b m) same

none_assigned : (r p : QName) (t : State) (j : Job) → NoneWaitsAtEnd t → NoneWaitsAtEnd (assigned_to r p j t)
none_assigned r p t j n e b i m same = n e b (in_whole (is_evoke_of r p) t.evokes e (subst (λ (l : List Evoke). IsIn e l) (gone_is (is_evoke_of r p) t.evokes) i)) m same

none_supplied : IsKeptBySupply NoneWaitsAtEnd
none_supplied = record { assigns = λ r p t j is n. none_assigned r p t j n; makes = λ r p t some n e b i m same. n e b i m same }

none_launched : (t : State) (c : Candidate) (o : Option Job) → NoneWaitsAtEnd t → NoneWaitsAtEnd (with_routed t c o)
none_launched t c None n = n
none_launched t c (Some j) n = λ e b i m same. n e b i m same

launches_leave_none : IsKept next (λ c t. launch t c) NoneWaitsAtEnd
launches_leave_none = record { by_step = λ t c is n. none_launched t c (find (λ (j : Job). j.serial == c.serial) t.jobs) n }

none_started : (t : State) → NoneWaitsAtEnd t → NoneWaitsAtEnd (start_jobs (supply t))
none_started t n = iterate-keeps NoneWaitsAtEnd launches_leave_none (waiting (supply t)) (supply t) (supply_kept NoneWaitsAtEnd none_supplied t n)

none_settled : (s : State) → NoneWaitsAtEnd s → NoneWaitsAtEnd (settle s)
none_settled s n = none_started (leave (come_due s)) (none_left (come_due s) (none_due s n))

none_called : (s : State) (caller : ℕ) (call : Call) (moment : ℕ) → HasDistinctNames s → NoneWaitsAtEnd s → NoneWaitsAtEnd (called s caller call moment)
none_called s caller call moment d n = (calls_do (with_clock s moment) caller call).none d (λ e b i m same. n e b i m same)

pub step_keeps_none_waiting : StepKeepsNoneWaiting
unfolding step
step_keeps_none_waiting s caller call moment d n = none_settled (called s caller call moment) (none_called s caller call moment d n)

opened_has_none : (offset : ℤ) → NoneWaitsAtEnd (opened offset)
opened_has_none offset e b i m same = absurd i

pub opening_has_none_waiting : OpeningHasNoneWaiting
opening_has_none_waiting offset = subst NoneWaitsAtEnd (sym (opening_is offset)) (opened_has_none offset)

pub step_keeps_requests : StepKeepsRequests
unfolding step
step_keeps_requests s caller call moment sbs pgm numbered d n = record {
  by_call = calls_keep_requests (with_clock s moment) caller call sbs pgm;
  by_settling = settling_gives_out (called s caller call moment) sbs pgm (apply_keeps (with_clock s moment) caller call (clock_keeps s moment numbered)) (none_called s caller call moment d n);
}

pub requests_are_kept : RequestsAreKept
requests_are_kept s [] sbs pgm numbered d n = tt
requests_are_kept s (e ∷ es) sbs pgm numbered d n = (
  step_keeps_requests s e.caller e.call e.moment sbs pgm numbered d n,
  requests_are_kept (stepped s e).state es sbs pgm (step_keeps_numbers s e.caller e.call e.moment numbered) (step_keeps_names_distinct s e.caller e.call e.moment d) (step_keeps_none_waiting s e.caller e.call e.moment d n),
)

abbrev Requests : Type 0
Requests = List Evoke

none_behind : (xs : Requests) → xs ++ [] ≡ xs
none_behind [] = refl
none_behind (x ∷ xs) = ap (λ (l : Requests). x ∷ l) (none_behind xs)

both_ways : (xs ys zs : Requests) → (xs ++ ys) ++ zs ≡ xs ++ (ys ++ zs)
both_ways [] ys zs = refl
both_ways (x ∷ xs) ys zs = ap (λ (l : Requests). x ∷ l) (both_ways xs ys zs)

-- what is given out by a step comes before what is given out behind it
given_on : (before came called given then behind wait end : Requests) → before ++ came ≡ called ++ behind → called ≡ given ++ wait → wait ++ behind ≡ then ++ end → before ++ came ≡ (given ++ then) ++ end
given_on before came called given then behind wait end a b c =
    a ∙ (ap (λ (l : Requests). l ++ behind) b ∙ (both_ways given wait behind ∙ (ap (λ (l : Requests). given ++ l) c ∙ sym (both_ways given then end))))

queue_on : (s : State) (e : Entry) (es : List Entry) (sbs pgm : QName) → IsAfterCall sbs pgm e.call (stepped s e).reply (evokes_of sbs pgm s.evokes) (evokes_of sbs pgm (called s e.caller e.call e.moment).evokes) → GivesOut sbs pgm (called s e.caller e.call e.moment) (stepped s e).state → (Drops sbs pgm e.call → ⊥) → IsQueue sbs pgm (stepped s e).state es → IsQueue sbs pgm s (e ∷ es)
queue_on s e es sbs pgm (stay same) out no_drop q = record {
  came = q.came;
  given = out.given ++ q.given;
  arrival = inl (same, q.arrival);
  order = given_on (evokes_of sbs pgm s.evokes) q.came (evokes_of sbs pgm (called s e.caller e.call e.moment).evokes) out.given q.given q.came (evokes_of sbs pgm (stepped s e).state.evokes) (evokes_of sbs pgm (after s (e ∷ es)).evokes)
      (ap (λ (l : Requests). l ++ q.came) (sym same)) out.front q.order;
}
queue_on s e es sbs pgm (arrives place request answered is same) out no_drop q = record {
  came = request ∷ q.came;
  given = out.given ++ q.given;
  arrival = inr (place, request, q.came, answered, is, q.arrival, refl);
  order = given_on (evokes_of sbs pgm s.evokes) (request ∷ q.came) (evokes_of sbs pgm (called s e.caller e.call e.moment).evokes) out.given q.given q.came (evokes_of sbs pgm (stepped s e).state.evokes) (evokes_of sbs pgm (after s (e ∷ es)).evokes)
      (sym (both_ways (evokes_of sbs pgm s.evokes) (request ∷ []) q.came) ∙ ap (λ (l : Requests). l ++ q.came) (sym same)) out.front q.order;
}
queue_on s e es sbs pgm (dropped d none) out no_drop q = absurd (no_drop d)

pub requests_are_queue : RequestsAreQueue
requests_are_queue s [] sbs pgm numbered d n none = record { came = []; given = []; arrival = refl; order = none_behind (evokes_of sbs pgm s.evokes) }
requests_are_queue s (e ∷ es) sbs pgm numbered d n none =
    let here = step_keeps_requests s e.caller e.call e.moment sbs pgm numbered d n in
    queue_on s e es sbs pgm here.by_call here.by_settling none.0
    (requests_are_queue (stepped s e).state es sbs pgm (step_keeps_numbers s e.caller e.call e.moment numbered) (step_keeps_names_distinct s e.caller e.call e.moment d) (step_keeps_none_waiting s e.caller e.call e.moment d n) none.1)
