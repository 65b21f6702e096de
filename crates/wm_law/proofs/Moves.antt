-- What a call can come to, and what a step can do to a state. The calls are gone over one by one, so that laws need no case
-- for each.
use Rattle.std.proofs.Common.{◌≡◌, ℕ, ◌<◌, ◌≤◌, ◌^◌, ◌-◌, ◌+◌, ◌==◌, not, Bool, true, false, cond, List, [], ◌∷◌, ◌++◌, length, fold, Option, Some, None, is_some, nat_le, nat_lt, min, refl, inl, inr, arith, filter, sym, subst, ◌⊎◌, ◌∙◌, ap, unwrap_or, nat_eq, ◌&&◌}
use Rattle.std.specs.List.{count_by, find}
use Rattle.std.specs.Prelude.{Result, Ok, Err}
use Rattle.std.specs.Option.{IsSome}
use Rattle.std.proofs.lemmas.Bool.Decides.{nat_tests}
use Rattle.std.proofs.Math.Nat.{min-le_left, min-le_right}
use Rattle.std.proofs.lemmas.Bool.{eqb-true, not-false}
use Rattle.wm_base.specs.declared.job.Asked.TheVariants.{Start, Kill}
use Rattle.wm_base.specs.declared.job.EndCause.{EndCause}
use Rattle.wm_base.specs.declared.job.EndCause.TheVariants as cause
use Rattle.wm_base.specs.declared.job.Exit.{Exit}
use Rattle.wm_base.specs.declared.job.Exit.TheVariants as exit
use Rattle.wm_base.specs.Name.{IsName}
use Rattle.wm_base.specs.declared.job.StartCause.{StartCause}
use Rattle.wm_base.specs.declared.job.StartOrder.{StartOrder}
use Rattle.wm_base.specs.declared.qname.QName.{QName}
use Rattle.wm_base.specs.declared.refusal.Kind.TheVariants as kind
use Rattle.wm_base.specs.declared.refusal.PhaseWord.TheVariants as word
use Rattle.wm_base.specs.declared.refusal.Refusal.{Refusal}
use Rattle.wm_base.specs.declared.refusal.Refusal.TheVariants.{AlreadyEnding, HeldAlready, NoJob, NoObject, NotHeld, NotInUse, NumbersUsed, PoweringDown, SbsNotActive, WrongPhase, AlreadyActive, EntryStopped, NoneAvailable, WaitListFull}
use Rattle.wm_base.specs.Iterate.{IsKept}
use Rattle.wm_base.proofs.Iterate.{iterate-keeps}
use Rattle.wm_base.proofs.Tests.{unrefused}
use Rattle.wm_desc.specs.declared.description.Jobd.{Jobd}
use Rattle.wm_desc.specs.declared.entry.AutoEntry.{AutoEntry}
use Rattle.wm_desc.specs.declared.objects.Objects.{Objects}
use Rattle.wm_desc.specs.Sorted.{added, place_of, removed}
use Rattle.wm_desc.specs.Table.{object_named, qname_cmp, same_qname}
use Rattle.wm_law.specs.declared.call.Call.{Call}
use Rattle.wm_law.specs.declared.call.Call.TheVariants.{Change, Hand, Started, StartFailed, Finished, UseDone, Tick}
use Rattle.wm_law.specs.declared.call.Entry.{Entry}
use Rattle.wm_law.specs.declared.call.Reply.{Reply}
use Rattle.wm_law.specs.declared.call.Reply.TheVariants.{Made, PowerDown, Order, Nothing, Noted, SbsEnding, Submitted, Held, Released, Changed, JobEnding, JobEnded, QueueHeld, QueueReleased, QueueCleared, PreStarted, PreEnding, Evoked, EvokeWaits, UseEnded}
use Rattle.wm_law.specs.declared.command.Command.{Command}
use Rattle.wm_law.specs.declared.command.Command.TheVariants as command
use Rattle.wm_law.specs.declared.command.Chgjob.{Chgjob}
use Rattle.wm_law.specs.declared.command.Endjob.{Endjob}
use Rattle.wm_law.specs.declared.command.Endsbs.{Endsbs}
use Rattle.wm_law.specs.declared.command.JobRef.{JobRef}
use Rattle.wm_law.specs.declared.command.Pwrdwnsys.{Pwrdwnsys}
use Rattle.wm_law.specs.declared.command.Sbmjob.{Sbmjob}
use Rattle.wm_law.specs.declared.configured.Configured.{Configured}
use Rattle.wm_law.specs.declared.configured.Configured.TheVariants.{Object, Description, HeldQueues}
use Rattle.wm_law.specs.declared.job.Job.{Job}
use Rattle.wm_law.specs.declared.job.Phase.{Phase}
use Rattle.wm_law.specs.declared.job.Phase.TheVariants.{Waiting, Starting, Handed, Running, Ended}
use Rattle.wm_law.specs.declared.job.Why.{Why}
use Rattle.wm_law.specs.declared.job.Why.TheVariants as why
use Rattle.wm_law.specs.declared.job.Wish.{Wish}
use Rattle.wm_law.specs.declared.job.Wish.TheVariants as wish
use Rattle.wm_law.specs.declared.state.Evoke.{Evoke}
use Rattle.wm_law.specs.declared.state.Power.{Power}
use Rattle.wm_law.specs.declared.state.Sbs.{Sbs}
use Rattle.wm_law.specs.declared.state.State.{State}
use Rattle.wm_law.specs.declared.state.Stop.{Stop}
use Rattle.wm_law.specs.declared.state.SbsPhase.TheVariants.{Active, Ending, Now}
use Rattle.wm_law.specs.Autos.{auto_described, auto_made, autos_of, make_auto}
use Rattle.wm_law.specs.Counts.{is_starting, is_waiting, count_from_pre, is_active}
use Rattle.wm_law.specs.History.{after, is_hand, stepped}
use Rattle.wm_law.specs.Kept.{IsEndOn, is_start_fault, phase_rank, IsNumbered}
use Rattle.wm_law.specs.Launch.{order_of, launch, pre_entry_for}
use Rattle.wm_law.specs.Laws.{IsIn}
use Rattle.wm_law.specs.Machine.{apply, step, with_clock, change}
use Rattle.wm_law.specs.Making.{made_unless, class_of, jobd_of, queue_entry_of, route_entry_of, auto_entry_of, pre_entry_of}
use Rattle.wm_desc.specs.Objects.{empty_sbsd, with_auto, with_pre, with_queue, with_route, without_auto, without_pre, without_queue, without_route}
use Rattle.wm_law.specs.Endings.{down_by, end_active, end_found, end_in_phase, end_started, is_down, is_ending_by, is_wished, job_wish, started_named, is_of_those}
use Rattle.wm_law.specs.Power.{is_on}
use Rattle.wm_law.specs.Reports.{in_phase, with_phase, hand_job, hand_order, is_to_kill, report_on, start_job, stops_after, is_handed_to, is_run_by, is_unused, phase_word, end_cause, exit_cause, with_kill}
use Rattle.wm_law.specs.Settling.{come_due, job_at, leave, ready, sbss_at, waiting, is_ending}
use Rattle.wm_law.specs.Stepped.{Stepped, refused}
use Rattle.wm_law.specs.Submitting.{submit_due, submit_with, submitted_job, entered, has_numbers, job_name, numbers_end, numbers_left, queue_of, serials_end}
use Rattle.wm_law.specs.Schedules.{rescheduled, scheduled}
use Rattle.wm_law.specs.Named.{if_waiting, is_named, job_named, only_one, waiting_named}
use Rattle.wm_law.specs.Holding.{hold_found, release_found, with_held}
use Rattle.wm_law.specs.Changing.{change_due, change_found, finds_queue, moved_to, stays, with_due}
use Rattle.wm_law.specs.Queues.{clear_queue, cleared_from, hold_queue, own_name, release_queue, waits_on}
use Rattle.wm_law.specs.Jobs.{active_at, waiting_at, with_active}
use Rattle.wm_law.specs.Wishes.{greatest_moment, now_cause, why_cause, with_wish}
use Rattle.wm_law.specs.Fit.{IsCall, IsExit, IsJobChange, IsQName, IsSubmission}
use Rattle.wm_law.specs.Ranges.{AreInRange, IsCause}
use Rattle.wm_law.specs.CallKinds.{is_ending_call}
use Rattle.wm_law.specs.Configured.{configured_by}
use Rattle.wm_law.specs.Choice.{is_held, is_sbs_active, next}
use Rattle.wm_law.proofs.Alterations.{IsAlteration, IsHolding, IsPlain, KeepAll, altered, clearing_alters, clearing_keeps, due_alters, due_keeps, ending_alters, ending_keeps, holding_alters, holding_keeps, moving_alters, moving_keeps, plain_changed, plain_cleared, plain_held, plain_job_ended, plain_job_ending, plain_power_down, plain_sbs_ending, plain_queue_held, plain_queue_released, plain_released, plain_pre_ending, plain_evoked, plain_use_ended, plain_noted}
use Rattle.wm_law.proofs.Endings.{IsEnding, all_end, coming_due, job_ends, kill_ends, those_end, wished, use_ends, use_done_ends, entry_ends}
use Rattle.wm_law.specs.Subsystems.{begun, is_started, max_started, start_refusal, start_unless, started_up, with_autos}
use Rattle.wm_law.proofs.Members.{found_among, last_in, left_in}
use Rattle.wm_law.proofs.Supplies.{IsActiveAmong, IsSupplied, firsts_keep, supplied_keeps, made_keeps, IsAssignable, idle_found}
use Rattle.wm_law.proofs.Things.{IsConfigured, IsOf}
use Rattle.wm_law.proofs.Objects.{IsObjectChange, new_object, new_program, class_made, queue_made, program_made, job_description_made, description_made, queue_added, route_added, auto_added, pre_added, queue_removed, route_removed, auto_removed, pre_removed}
use Rattle.std.specs.Cmp.Lexicographic.{pointwise}
use Rattle.wm_desc.specs.declared.description.Sbsd.{Sbsd}
use Rattle.wm_desc.specs.declared.entry.PreEntry.{PreEntry}
use Rattle.wm_law.specs.declared.command.Endpj.{Endpj}
use Rattle.wm_law.specs.declared.command.EvokeCommand.{EvokeCommand}
use Rattle.wm_law.specs.declared.command.Enduse.{Enduse}
use Rattle.wm_law.specs.declared.command.Strpj.{Strpj}
use Rattle.wm_law.specs.declared.state.SbsPhase.{SbsPhase}
use Rattle.wm_law.specs.Prestart.{after_use, count_available, count_evokes, first_idle, is_running, is_stopped, room, with_evoke, is_evoke_of}
use Rattle.wm_law.specs.Prestarting.{end_entry, end_entry_in, end_entry_with, prestart_entry, prestart_in, prestart_with, prestarted, restarted, without_stop}
use Rattle.wm_law.specs.Sound.{IsUpToDate, CameByEntry}
use Rattle.wm_law.specs.Uses.{done_with, end_use_found, evoke_entry, evoke_in, evoke_on, evoke_with, max_evokes, maxuse_by, use_done_on}
use Rattle.wm_law.proofs.InOrder.{in_inserted}
use Rattle.wm_law.proofs.RangedMoments.{again_within}
use Rattle.wm_law.proofs.RangedObjects.{class_range, program_range, queue_range, jobd_range, sbsd_range, queue_entry_range, route_entry_range, auto_entry_range, pre_entry_range, without_queue_range, without_route_range, without_auto_range, without_pre_range}
use Rattle.wm_law.proofs.Rounds.{room-is}
use Rattle.wm_law.proofs.UsesUp.{used_up, done_at}
use Rattle.wm_law.proofs.Listed.{StopsOn, RequestsOn, same_stops, same_requests, requests_left, request_more, stop_more, stops_reported, known_by}
use Rattle.wm_base.specs.declared.job.How.TheVariants.{Pre}

-- a phase past Waiting, and one that isn't before it
pub record IsOnward (p q : Phase) : Type 0 where
  pub past : is_waiting p ≡ false
  pub on : phase_rank p ≤ phase_rank q

-- a report moves a job on, and ends one that is to end now by its wish or since it couldn't be started
pub record IsMoved (j : Job) (q : Phase) : Type 0 where
  pub onward : IsOnward j.phase q
  pub end : IsEndOn j.phase j.wish q

-- SBMJOB isn't refused: there is a due moment, numbers are left, and the job description and the job's queue are objects
pub record IsAcceptable (s : State) (c : Sbmjob) (d : Jobd) (due : ℕ) : Type 0 where
  pub described : object_named c.jobd s.objects.jobds ≡ Some d
  pub scheduled : scheduled s c.scddate c.scdtime ≡ Ok due
  pub numbers : has_numbers s ≡ true
  pub queue : IsSome (object_named (queue_of c d) s.objects.jobqs)

-- STRSBS isn't refused: the power is On, the description is there, no started subsystem has its simple name, and there is room, and numbers for the autostart jobs
pub record IsStartable (s : State) (q : QName) : Type 0 where
  pub on : is_on s.power ≡ true
  pub there : IsSome (object_named q s.objects.sbsds)
  pub fresh : is_started s q.name ≡ false
  pub room : nat_le max_started (length s.started) ≡ false
  pub numbers : nat_lt (numbers_left s) (length (autos_of s q)) ≡ false

startable : (s : State) (q : QName) → start_refusal s q ≡ None → IsStartable s q
startable s q e =
    let on = unrefused (not (is_on s.power)) _ _ e in
    let there = unrefused (not (is_some (object_named q s.objects.sbsds))) _ _ on.1 in
    let fresh = unrefused (is_started s q.name) _ _ there.1 in
    let room = unrefused (nat_le max_started (length s.started)) _ _ fresh.1 in
    let numbers = unrefused (nat_lt (numbers_left s) (length (autos_of s q))) _ _ room.1 in
    record {
      on = not-false (is_on s.power) on.0;
      there = not-false (is_some (object_named q s.objects.sbsds)) there.0;
      fresh = fresh.0;
      room = room.0;
      numbers = numbers.0;
    }

-- a request that a job gets, or the end of its use: no wish goes back, and in a numbered state a job that is up to date stays so
pub record IsUse (s : State) (change : Job → Job) : Type 0 where
  pub ending : IsEnding s change s.started s.power
  pub up : IsNumbered s → (j : Job) → IsIn j s.jobs → IsUpToDate s.clock s.started j → IsUpToDate s.clock s.started (change j)

-- STRPJ isn't refused: the subsystem is started and Active, and has the entry
pub record IsPrestartable (s : State) (q : QName) (d : Sbsd) (e : PreEntry) : Type 0 where
  pub there : IsActiveAmong s.started q
  pub described : object_named q s.objects.sbsds ≡ Some d
  pub entered : IsIn e d.pres

pub the_one : (jobs : List Job) (j : Job) → only_one jobs ≡ Ok j → IsIn j jobs
the_one [] j e = absurd (cc)
the_one (k ∷ []) j e = let same : k ≡ j = cc in inl (sym same)
the_one (k ∷ i ∷ jobs) j e = absurd (cc)

one_waits : (k j : Job) (x : Refusal) (t : Bool) → cond t (Ok k) (Err x) ≡ Ok j → k ≡ j
one_waits k j x true e = cc
one_waits k j x false e = absurd (cc)

waits_among : (jobs : List Job) (j : Job) → if_waiting (only_one jobs) ≡ Ok j → IsIn j jobs
waits_among [] j e = absurd (cc)
waits_among (k ∷ []) j e = inl (sym (one_waits k j (WrongPhase (phase_word k.phase)) (is_waiting k.phase) e))
waits_among (k ∷ i ∷ jobs) j e = absurd (cc)

-- a job that is named and waits stands among the jobs
among_waiting : (s : State) (ref : JobRef) (j : Job) → waiting_named s ref ≡ Ok j → IsIn j s.jobs
among_waiting s ref j e = left_in (is_named ref) s.jobs j (waits_among (filter (is_named ref) s.jobs) j e)

-- the moments at which jobs are due are such that there are
abbrev pub AreDue : State → Type 0
AreDue s = (j : Job) → IsIn j s.jobs → j.due ≤ greatest_moment

-- the call is an EVOKE
abbrev pub IsEvokeCall : Call → Type 0
IsEvokeCall call = (user : List ℕ) × (c : EvokeCommand) × (call ≡ Change user (command.Evoke c))

-- the call is a PWRDWNSYS that is accepted
pub record IsPutDown (call : Call) (reply : Reply) : Type 0 where
  pub user : List ℕ
  pub c : Pwrdwnsys
  pub call_is : call ≡ Change user (command.Pwrdwnsys c)
  pub reply_is : reply ≡ PowerDown

-- P holds of whatever the call can come to: of its reply, and of the state before it settles. Values of the call that go into the state keep their ranges, where the call's do
pub record HoldsAfterCalls (P : Stepped → Type 0) (s : State) (call : Call) : Type 0 where
  pub refuses : (x : Refusal) → P (refused s x)
  pub nothing : (is_hand call ≡ false → ⊥) → P (record { reply = Nothing; state = s })
  pub notes : P (record { reply = Noted; state = s })
  pub hands : (m : ℕ) (j : Job) (o : StartOrder) → IsIn j s.jobs → is_starting j.phase ≡ true → order_of s j ≡ Some o → P (record { reply = Order (Start o); state = with_phase s j.serial (Handed m) })
  pub reports : (serial : ℕ) (j : Job) (phase : Phase) (stopped : StopsOn s) → IsIn j s.jobs → j.serial ≡ serial → IsMoved j phase → is_starting phase ≡ false → (IsCall call → (c : EndCause) → phase ≡ Ended c → IsCause c) → P (record { reply = Noted; state = record (with_phase s serial phase) { stopped = stopped.stops } })
  pub starts : (q : QName) → IsStartable s q → P (start_unless s q None)
  pub enters : (user : List ℕ) (c : Sbmjob) (d : Jobd) (due : ℕ) → IsAcceptable s c d due → (IsCall call → IsName user × IsSubmission c) → P (record { reply = Submitted (job_name s user c) (queue_of c d); state = entered s (submitted_job s user c d due) })
  pub alters : (reply : Reply) (change : Job → Job) (place : ℕ) → IsPlain reply → IsAlteration s change place → (IsCall call → AreDue s → KeepAll s change) → P (record { reply = reply; state = altered s change place })
  pub holds : (reply : Reply) (held : List QName) → IsPlain reply → IsHolding s held → configured_by call ≡ Some HeldQueues → (IsCall call → (q : QName) → IsIn q held → IsIn q s.held ⊎ IsQName q) → P (record { reply = reply; state = record s { held = held } })
  pub ends : (reply : Reply) (change : Job → Job) (started : List Sbs) (stopped : StopsOn s) (evokes : RequestsOn s) (power : Power) → IsPlain reply → IsEnding s change started power → is_ending_call call ≡ true → (power ≡ s.power) ⊎ IsPutDown call reply → P (record { reply = reply; state = wished s change started stopped.stops evokes.requests power })
  pub uses : (reply : Reply) (change : Job → Job) → IsPlain reply → IsUse s change → P (record { reply = reply; state = wished s change s.started s.stopped s.evokes s.power })
  pub waits : (place : ℕ) (evokes : RequestsOn s) → IsEvokeCall call → P (record { reply = EvokeWaits place; state = record s { evokes = evokes.requests } })
  pub prestarts : (q : QName) (d : Sbsd) (e : PreEntry) → IsPrestartable s q d e → P (record { reply = PreStarted; state = prestarted s q d e })
  pub kills : (m : ℕ) (j : Job) → IsIn j s.jobs → is_to_kill m j ≡ true → P (record { reply = Order (Kill j.serial); state = with_active s j.serial with_kill })
  pub makes : (o : Objects) → IsObjectChange s o → IsConfigured call s.objects o → (IsCall call → AreInRange s.objects → AreInRange o) → P (record { reply = Made; state = record s { objects = o } })

-- EVOKE on an idle job
using_request : (s : State) (q pgm : QName) (j : Job) → IsAssignable q pgm s j → IsUse s (active_at j.serial with_evoke)
using_request s q pgm i can = record { ending = use_ends s q pgm i can.there can.idle; up = λ n j k u. used_up s.clock s.started (is_active j.phase && j.serial == i.serial) j u }

-- the end of a use
using_done : (s : State) (j : Job) → IsIn j s.jobs → is_running j.phase ≡ true → j.evoke ≡ true → IsUse s (active_at j.serial (after_use (maxuse_by s j.how)))
using_done s j i r e = record { ending = use_done_ends s j i r e; up = λ n k m u. done_at s j (maxuse_by s j.how) i r n k (is_active k.phase && k.serial == j.serial) refl m u }

unending_active : (p : SbsPhase) → is_ending p ≡ false → is_sbs_active p ≡ true
unending_active Active e = refl
unending_active (Ending until) e = absurd (cc)
unending_active Now e = absurd (cc)

run_running : (m : ℕ) (p : Phase) → is_run_by m p ≡ true → is_running p ≡ true
run_running m Waiting h = absurd (cc)
run_running m Starting h = absurd (cc)
run_running m (Handed n) h = absurd (cc)
run_running m (Running n) h = refl
run_running m (Ended c) h = absurd (cc)

module _ (P : Stepped → Type 0) (s : State) (call : Call) (h : HoldsAfterCalls P s call) where
  either : (b : Bool) (t u : Stepped) → (b ≡ true → P t) → (b ≡ false → P u) → P (cond b t u)
  either true t u k l = k refl
  either false t u k l = l refl

  start : (q : QName) (o : Option Refusal) → start_refusal s q ≡ o → P (start_unless s q o)
  start q None e = h.starts q (startable s q e)
  start q (Some x) e = h.refuses x

  submitted : (user : List ℕ) (c : Sbmjob) (d : Jobd) (r : Result ℕ Refusal) → (IsCall call → IsName user × IsSubmission c) → object_named c.jobd s.objects.jobds ≡ Some d → scheduled s c.scddate c.scdtime ≡ r → IsSome (object_named (queue_of c d) s.objects.jobqs) → P (submit_due s user c d r)
  submitted user c d (Err x) fit k e queue = h.refuses x
  submitted user c d (Ok due) fit k e queue =
      either (has_numbers s) _ _ (λ t. h.enters user c d due (record { described = k; scheduled = e; numbers = t; queue = queue }) fit) (λ t. h.refuses NumbersUsed)

  submitted_with : (user : List ℕ) (c : Sbmjob) (d : Option Jobd) → (IsCall call → IsName user × IsSubmission c) → object_named c.jobd s.objects.jobds ≡ d → P (submit_with s user c d)
  submitted_with user c None fit k = h.refuses (NoObject kind.Jobd)
  submitted_with user c (Some d) fit k =
      either (is_some (object_named (queue_of c d) s.objects.jobqs)) _ _ (λ t. submitted user c d (scheduled s c.scddate c.scdtime) fit k refl t) (λ t. h.refuses (NoObject kind.Jobq))

  held_found : (r : Result Job Refusal) → P (hold_found s r)
  held_found (Err x) = h.refuses x
  held_found (Ok j) = either j.held _ _ (λ t. h.refuses HeldAlready) (λ t. h.alters (Held j.job) (waiting_at j.serial (with_held true)) s.next_place (plain_held j.job) (holding_alters s j.serial true) (λ fit due. holding_keeps s j.serial true))

  released_found : (r : Result Job Refusal) → P (release_found s r)
  released_found (Err x) = h.refuses x
  released_found (Ok j) = either j.held _ _ (λ t. h.alters (Released j.job) (waiting_at j.serial (with_held false)) s.next_place (plain_released j.job) (holding_alters s j.serial false) (λ fit due. holding_keeps s j.serial false)) (λ t. h.refuses NotHeld)

  due_changed : (c : Chgjob) (j : Job) (r : Result ℕ Refusal) → (IsCall call → IsJobChange c) → IsIn j s.jobs → rescheduled s j.due c.scddate c.scdtime ≡ r → finds_queue s c.jobq ≡ true → P (change_due s c j r)
  due_changed c j (Err x) fit i e q = h.refuses x
  due_changed c j (Ok due) fit i e q =
      let late = λ (all : AreDue s). again_within s j.due c.scddate c.scdtime due (all j i) e in
      either (stays c j) _ _ (λ t. h.alters (Changed j.job) (waiting_at j.serial (with_due due)) s.next_place (plain_changed j.job) (due_alters s j.serial due) (λ f all. due_keeps s j.serial due (late all)))
      (λ t. either (nat_lt s.next_place serials_end) _ _ (λ u. h.alters (Changed j.job) (waiting_at j.serial (moved_to c s.next_place due)) (s.next_place + 1) (plain_changed j.job) (moving_alters s c j.serial due u q) (λ f all. moving_keeps s c j.serial due (late all) (fit f))) (λ u. h.refuses NumbersUsed))

  changed_found : (c : Chgjob) (r : Result Job Refusal) → (IsCall call → IsJobChange c) → waiting_named s c.job ≡ r → P (change_found s c r)
  changed_found c (Err x) fit e = h.refuses x
  changed_found c (Ok j) fit e = either (finds_queue s c.jobq) _ _ (λ t. due_changed c j (rescheduled s j.due c.scddate c.scdtime) fit (among_waiting s c.job j e) refl t) (λ t. h.refuses (NoObject kind.Jobq))

  queue_held : (q : QName) → configured_by call ≡ Some HeldQueues → (IsCall call → IsQName q) → P (hold_queue s q)
  queue_held q told fit =
      either (is_some (object_named q s.objects.jobqs)) _ _
      (λ t. either (is_held s q) _ _ (λ u. h.refuses HeldAlready) (λ u. h.holds QueueHeld (added own_name qname_cmp q s.held) plain_queue_held (inl (record { queue = q; is_object = t; new = u; is_with = refl })) told
      (λ f p i. elim (in_inserted s.held (place_of own_name qname_cmp q s.held) q p i) as (λ _. IsIn p s.held ⊎ IsQName p) [ inl same ↦ inr (subst IsQName (sym same) (fit f)) | inr was ↦ inl was ])))
      (λ t. h.refuses (NoObject kind.Jobq))

  queue_released : (q : QName) → configured_by call ≡ Some HeldQueues → P (release_queue s q)
  queue_released q told =
      either (is_some (object_named q s.objects.jobqs)) _ _
      (λ t. either (is_held s q) _ _ (λ u. h.holds QueueReleased (removed own_name same_qname q s.held) plain_queue_released (inr (record { queue = q; is_without = refl })) told (λ f p i. inl (left_in (λ (x : QName). not (same_qname x q)) s.held p i))) (λ u. h.refuses NotHeld))
      (λ t. h.refuses (NoObject kind.Jobq))

  queue_cleared : (q : QName) → P (clear_queue s q)
  queue_cleared q =
      either (is_some (object_named q s.objects.jobqs)) _ _
      (λ t. h.alters (QueueCleared (count_by (waits_on q) s.jobs)) (cleared_from q) s.next_place (plain_cleared (count_by (waits_on q) s.jobs)) (clearing_alters s q) (λ fit due. clearing_keeps s q))
      (λ t. h.refuses (NoObject kind.Jobq))

  made : (objects : Objects) (o : Option Refusal) (c : Configured) → configured_by call ≡ Some c → (o ≡ None → IsObjectChange s objects) → (o ≡ None → IsOf c s.objects objects) → (IsCall call → AreInRange s.objects → o ≡ None → AreInRange objects) → P (made_unless s objects o)
  made objects None c told e is fit = h.makes objects (e refl) (c, told, is refl) (λ f r. fit f r refl)
  made objects (Some x) c told e is fit = h.refuses x

  active_ended : (c : Endjob) (j : Job) → is_ending_call call ≡ true → IsIn j s.jobs → P (end_active s c j)
  active_ended c j told i =
      either (is_wished c.option j.wish) _ _ (λ t. h.refuses AlreadyEnding)
      (λ t. h.ends (JobEnding j.job) (active_at j.serial (with_wish (job_wish s.clock c.option c.delay))) s.started (same_stops s) (same_requests s) s.power (plain_job_ending j.job) (job_ends s j c.option c.delay i t) told (inl refl))

  ended_in_phase : (c : Endjob) (j : Job) (p : Phase) → is_ending_call call ≡ true → IsIn j s.jobs → P (end_in_phase s c j p)
  ended_in_phase c j Waiting told i = h.alters (JobEnded j.job) (waiting_at j.serial (in_phase (Ended cause.EndedOnQueue))) s.next_place (plain_job_ended j.job) (ending_alters s j.serial) (λ fit due. ending_keeps s j.serial (Ended cause.EndedOnQueue))
  ended_in_phase c j Starting told i = active_ended c j told i
  ended_in_phase c j (Handed m) told i = active_ended c j told i
  ended_in_phase c j (Running m) told i = active_ended c j told i
  ended_in_phase c j (Ended end) told i = h.refuses (WrongPhase word.Ended)

  job_ended : (c : Endjob) (r : Result Job Refusal) → is_ending_call call ≡ true → job_named s c.job ≡ r → P (end_found s c r)
  job_ended c (Err x) told e = h.refuses x
  job_ended c (Ok j) told e = ended_in_phase c j j.phase told (left_in (is_named c.job) s.jobs j (the_one (filter (is_named c.job) s.jobs) j e))

  sbs_ended : (c : Endsbs) (o : Option Sbs) → is_ending_call call ≡ true → P (end_started s c o)
  sbs_ended c None told = h.refuses SbsNotActive
  sbs_ended c (Some b) told =
      either (is_ending_by c.option b.phase) _ _ (λ t. h.refuses AlreadyEnding)
      (λ t. h.ends (SbsEnding b.sbsd) _ _ (same_stops s) (requests_left s (λ e. not (is_of_those (λ x. same_qname x.sbsd b.sbsd) s.started e.sbs))) s.power (plain_sbs_ending b.sbsd) (those_end s c.option c.delay (λ x. same_qname x.sbsd b.sbsd)) told (inl refl))

  ordered : (m : ℕ) (j : Job) (o : Option StartOrder) → P (record { reply = Nothing; state = s }) → IsIn j s.jobs → is_starting j.phase ≡ true → order_of s j ≡ o → P (hand_order s m j o)
  ordered m j None none i k e = none
  ordered m j (Some o) none i k e = h.hands m j o i k e

  started : (m : ℕ) (o : Option Job) → P (record { reply = Nothing; state = s }) → find (λ j. is_starting j.phase) s.jobs ≡ o → P (start_job s m o)
  started m None none e = none
  started m (Some j) none e = let f = found_among (λ (j : Job). is_starting j.phase) s.jobs j e in ordered m j (order_of s j) none f.0 f.1 refl

  handed : (m : ℕ) (o : Option Job) → P (record { reply = Nothing; state = s }) → find (is_to_kill m) s.jobs ≡ o → P (hand_job s m o)
  handed m None none e = started m (find (λ j. is_starting j.phase) s.jobs) none refl
  handed m (Some j) none e = let f = found_among (is_to_kill m) s.jobs j e in h.kills m j f.0 f.1

  reported : (serial : ℕ) (test : Phase → Bool) (phase : Job → Phase) (stops : Job → Bool) (o : Option Job) → ((p : Phase) → test p ≡ true → is_active p ≡ true) → ((j : Job) → test j.phase ≡ true → IsMoved j (phase j)) → ((j : Job) → is_starting (phase j) ≡ false) → ((j : Job) → IsCall call → (c : EndCause) → phase j ≡ Ended c → IsCause c) → find (λ j. j.serial == serial) s.jobs ≡ o → P (report_on s serial test phase stops o)
  reported serial test phase stops None active ranks n fit e = h.refuses NoJob
  reported serial test phase stops (Some j) active ranks n fit e =
      let f = found_among (λ (j : Job). j.serial == serial) s.jobs j e in
      either (test j.phase) (record { reply = Noted; state = record (with_phase s serial (phase j)) { stopped = stops_after stops j s.stopped } }) _ (λ t. h.reports serial j (phase j) (stops_reported s stops j f.0 (active j.phase t)) f.0 (eqb-true j.serial serial f.1) (ranks j t) (n j) (fit j)) (λ t. h.refuses (WrongPhase (phase_word j.phase)))

  use_done : (test : Phase → Bool) (reply : Reply) (j : Job) → IsPlain reply → ((p : Phase) → test p ≡ true → is_running p ≡ true) → IsIn j s.jobs → P (done_with s test reply j)
  use_done test reply j plain runs i =
      either (test j.phase) _ _
      (λ t. either j.evoke _ _ (λ u. h.uses reply (active_at j.serial (after_use (maxuse_by s j.how))) plain (using_done s j i (runs j.phase t) u)) (λ u. h.refuses NotInUse))
      (λ t. h.refuses (WrongPhase (phase_word j.phase)))

  use_done_on_found : (m serial : ℕ) (o : Option Job) → find (λ j. j.serial == serial) s.jobs ≡ o → P (use_done_on s m o)
  use_done_on_found m serial None e = h.refuses NoJob
  use_done_on_found m serial (Some j) e = use_done (is_run_by m) Noted j plain_noted (run_running m) (found_among (λ (j : Job). j.serial == serial) s.jobs j e).0

  use_ends_found : (c : Enduse) (r : Result Job Refusal) → job_named s c.job ≡ r → P (end_use_found s r)
  use_ends_found c (Err x) e = h.refuses x
  use_ends_found c (Ok j) e = use_done is_running (UseEnded j.job) j (plain_use_ended j.job) (λ p t. t) (left_in (is_named c.job) s.jobs j (the_one (filter (is_named c.job) s.jobs) j e))

  evoked : IsEvokeCall call → (user : List ℕ) (sbs : QName) (e : PreEntry) (o : Option Job) → CameByEntry s.started s.objects (Pre sbs e.pgm) → first_idle sbs e.pgm s.jobs ≡ o → P (evoke_on s user sbs e o)
  evoked is user sbs e None known k =
      either e.wait _ _
      (λ t. either (nat_le max_evokes (count_evokes sbs e.pgm s.evokes)) _ _ (λ u. h.refuses (WaitListFull max_evokes)) (λ u. h.waits (count_evokes sbs e.pgm s.evokes + 1) (request_more s (record { user = user; sbs = sbs; pgm = e.pgm }) known u) is))
      (λ t. h.refuses NoneAvailable)
  evoked is user sbs e (Some j) known k = h.uses (Evoked j.job) (active_at j.serial with_evoke) (plain_evoked j.job) (using_request s sbs e.pgm j (idle_found sbs e.pgm s j k))

  evoked_entry : IsEvokeCall call → (user : List ℕ) (b : Sbs) (d : Sbsd) (pgm : QName) (o : Option PreEntry) → IsIn b s.started → object_named b.sbsd s.objects.sbsds ≡ Some d → pre_entry_for pgm d ≡ o → P (evoke_entry s user b.sbsd o)
  evoked_entry is user b d pgm None i k f = h.refuses (NoObject kind.Pje)
  evoked_entry is user b d pgm (Some e) i k f = either (is_stopped s b.sbsd e.pgm) _ _ (λ t. h.refuses EntryStopped) (λ t. evoked is user b.sbsd e (first_idle b.sbsd e.pgm s.jobs) (known_by s b d pgm e i k f) refl)

  evoked_with : IsEvokeCall call → (user : List ℕ) (b : Sbs) (pgm : QName) (o : Option Sbsd) → IsIn b s.started → object_named b.sbsd s.objects.sbsds ≡ o → P (evoke_with s user b.sbsd pgm o)
  evoked_with is user b pgm None i k = h.refuses (NoObject kind.Pje)
  evoked_with is user b pgm (Some d) i k = evoked_entry is user b d pgm (pre_entry_for pgm d) i k refl

  evoked_in : IsEvokeCall call → (user name : List ℕ) (pgm : QName) (o : Option Sbs) → started_named s name ≡ o → P (evoke_in s user pgm o)
  evoked_in is user name pgm None e = h.refuses SbsNotActive
  evoked_in is user name pgm (Some b) e =
      either (is_ending b.phase) _ _ (λ t. h.refuses AlreadyEnding)
      (λ t. evoked_with is user b pgm (object_named b.sbsd s.objects.sbsds) (found_among (λ (x : Sbs). pointwise nat_eq x.sbsd.name name) s.started b e).0 refl)

  entry_ends_found : (c : Endpj) (b : Sbs) (d : Sbsd) (o : Option PreEntry) → is_ending_call call ≡ true → IsIn b s.started → object_named b.sbsd s.objects.sbsds ≡ Some d → pre_entry_for c.pgm d ≡ o → P (end_entry s c b.sbsd o)
  entry_ends_found c b d None told i k f = h.refuses (NoObject kind.Pje)
  entry_ends_found c b d (Some e) told i k f =
      either (is_stopped s b.sbsd e.pgm && count_from_pre b.sbsd e.pgm s.jobs == 0) _ _ (λ t. h.refuses EntryStopped)
      (λ t. h.ends PreEnding _ s.started (stop_more s b.sbsd e.pgm (inl (known_by s b d c.pgm e i k f))) (requests_left s (λ x. not (is_evoke_of b.sbsd e.pgm x))) s.power plain_pre_ending (entry_ends s c.option c.delay b.sbsd e.pgm) told (inl refl))

  entry_ends_with : (c : Endpj) (b : Sbs) (o : Option Sbsd) → is_ending_call call ≡ true → IsIn b s.started → object_named b.sbsd s.objects.sbsds ≡ o → P (end_entry_with s c b.sbsd o)
  entry_ends_with c b None told i k = h.refuses (NoObject kind.Pje)
  entry_ends_with c b (Some d) told i k = entry_ends_found c b d (pre_entry_for c.pgm d) told i k refl

  entry_ends_in : (c : Endpj) (o : Option Sbs) → is_ending_call call ≡ true → started_named s c.sbs ≡ o → P (end_entry_in s c o)
  entry_ends_in c None told e = h.refuses SbsNotActive
  entry_ends_in c (Some b) told e = entry_ends_with c b (object_named b.sbsd s.objects.sbsds) told (found_among (λ (x : Sbs). pointwise nat_eq x.sbsd.name c.sbs) s.started b e).0 refl

  prestarted_entry : (q : QName) (d : Sbsd) (pgm : QName) (o : Option PreEntry) → IsActiveAmong s.started q → object_named q s.objects.sbsds ≡ Some d → pre_entry_for pgm d ≡ o → P (prestart_entry s q d o)
  prestarted_entry q d pgm None there named e = h.refuses (NoObject kind.Pje)
  prestarted_entry q d pgm (Some x) there named e =
      either (is_stopped s q x.pgm) _ _
      (λ t. h.prestarts q d x (record { there = there; described = named; entered = (found_among (λ (y : PreEntry). same_qname y.pgm pgm) d.pres x e).0 }))
      (λ t. h.refuses AlreadyActive)

  prestarted_with : (q pgm : QName) (o : Option Sbsd) → IsActiveAmong s.started q → object_named q s.objects.sbsds ≡ o → P (prestart_with s q pgm o)
  prestarted_with q pgm None there named = h.refuses (NoObject kind.Pje)
  prestarted_with q pgm (Some d) there named = prestarted_entry q d pgm (pre_entry_for pgm d) there named refl

  prestarted_in : (c : Strpj) (o : Option Sbs) → started_named s c.sbs ≡ o → P (prestart_in s c.pgm o)
  prestarted_in c None e = h.refuses SbsNotActive
  prestarted_in c (Some b) e =
      either (is_ending b.phase) _ _ (λ t. h.refuses AlreadyEnding)
      (λ t. prestarted_with b.sbsd c.pgm (object_named b.sbsd s.objects.sbsds) (b, (found_among (λ (x : Sbs). pointwise nat_eq x.sbsd.name c.sbs) s.started b e).0, refl, unending_active b.phase t) refl)

pub starting_rank : (p : Phase) → is_starting p ≡ true → phase_rank p ≡ 1
starting_rank Waiting h = absurd (cc)
starting_rank Starting h = refl
starting_rank (Handed m) h = absurd (cc)
starting_rank (Running m) h = absurd (cc)
starting_rank (Ended c) h = absurd (cc)

handed_rank : (m : ℕ) (p : Phase) → is_handed_to m p ≡ true → phase_rank p ≡ 2
handed_rank m Waiting h = absurd (cc)
handed_rank m Starting h = absurd (cc)
handed_rank m (Handed n) h = refl
handed_rank m (Running n) h = absurd (cc)
handed_rank m (Ended c) h = absurd (cc)

run_rank : (m : ℕ) (p : Phase) → is_run_by m p ≡ true → phase_rank p ≡ 3
run_rank m Waiting h = absurd (cc)
run_rank m Starting h = absurd (cc)
run_rank m (Handed n) h = absurd (cc)
run_rank m (Running n) h = refl
run_rank m (Ended c) h = absurd (cc)

handed_active : (m : ℕ) (p : Phase) → is_handed_to m p ≡ true → is_active p ≡ true
handed_active m Waiting h = absurd (cc)
handed_active m Starting h = refl
handed_active m (Handed n) h = refl
handed_active m (Running n) h = refl
handed_active m (Ended c) h = absurd (cc)

run_active : (m : ℕ) (p : Phase) → is_run_by m p ≡ true → is_active p ≡ true
run_active m Waiting h = absurd (cc)
run_active m Starting h = refl
run_active m (Handed n) h = refl
run_active m (Running n) h = refl
run_active m (Ended c) h = absurd (cc)

past_waiting : (p : Phase) → 0 < phase_rank p → is_waiting p ≡ false
past_waiting Waiting h = absurd (omega arith)
past_waiting Starting h = refl
past_waiting (Handed m) h = refl
past_waiting (Running m) h = refl
past_waiting (Ended c) h = refl

-- what is past Waiting doesn't come to wait
pub never_waits : (p q : Phase) → IsOnward p q → is_waiting q ≡ false
never_waits Waiting q r = let past = r.past in absurd (cc)
never_waits Starting q r = let on = r.on in past_waiting q (omega arith)
never_waits (Handed m) q r = let on = r.on in past_waiting q (omega arith)
never_waits (Running m) q r = let on = r.on in past_waiting q (omega arith)
never_waits (Ended c) q r = let on = r.on in past_waiting q (omega arith)

onward : (p q : Phase) (n : ℕ) → phase_rank p ≡ n → 0 < n → n ≤ phase_rank q → IsOnward p q
onward p q n e more h = record { past = past_waiting p (omega arith); on = omega arith }

-- a job that hasn't ended moves on
pub moved_on : (j : Job) (q : Phase) (n : ℕ) → phase_rank j.phase ≡ n → 0 < n → n < 4 → n ≤ phase_rank q → ((c d : EndCause) → now_cause j.wish ≡ Some c → q ≡ Ended d → (d ≡ c) ⊎ (is_start_fault d ≡ true)) → IsMoved j q
moved_on j q n e more less h k = record {
  onward = onward j.phase q n e more h;
  end = record {
    kept = λ c f. (let rank : phase_rank j.phase ≡ 4 = ap phase_rank f in absurd (omega arith));
    by_wish = λ c d a w f. k c d w f;
  };
}

failed_end : (why : StartCause) (d : EndCause) → Ended (cause.StartFailed why) ≡ Ended d → is_start_fault d ≡ true
failed_end why d e =
    let same : cause.StartFailed why ≡ d = cc in
    ap is_start_fault (sym same)

finished_end : (end : Exit) (w : Wish) (c d : EndCause) → now_cause w ≡ Some c → Ended (end_cause end w) ≡ Ended d → d ≡ c
finished_end end w c d k e =
    let same : end_cause end w ≡ d = cc in
    sym same ∙ ap (λ (o : Option EndCause). unwrap_or o (exit_cause end)) k

-- the end of a job by its exit or by its wish keeps its range
exited : (code : ℕ) (t : Bool) → code < 2 ^ 8 → IsCause (cond t cause.Completed (cause.Exited code))
exited code true h = tt
exited code false h = let less : code < 256 = h in let most : code ≤ 255 = omega arith in most

exit_range : (end : Exit) → IsExit end → IsCause (exit_cause end)
exit_range (exit.Code code) h = exited code (code == 0) h
exit_range exit.Killed h = tt

pub why_range : (w : Why) → IsCause (why_cause w)
why_range why.Endjob = tt
why_range why.Endsbs = tt
why_range why.Endpj = tt
why_range why.Maxuse = tt

end_range : (end : Exit) (w : Wish) → IsExit end → IsCause (end_cause end w)
end_range end wish.NoWish h = exit_range end h
end_range end (wish.Later until why) h = exit_range end h
end_range end (wish.Now why handed) h = why_range why

cause_by : (c d : EndCause) → Ended c ≡ Ended d → IsCause c → IsCause d
cause_by c d e h = let same : c ≡ d = cc in subst IsCause same h

changed : (P : Stepped → Type 0) (s : State) (user : List ℕ) (c : Command) → HoldsAfterCalls P s (Change user c) → P (change s user c)
changed P s user (command.Crtcls c) h = made P s _ h _ _ (Object kind.Cls c.cls) refl (class_made s c) (λ n. (new_object kind.Cls c.cls s.objects.classes n, (class_of c, refl))) (λ f r n. class_range s.objects r c f.1)
changed P s user (command.Crtjobq c) h = made P s _ h _ _ (Object kind.Jobq c.jobq) refl (queue_made s c) (λ n. (new_object kind.Jobq c.jobq s.objects.jobqs n, (record {}, refl))) (λ f r n. queue_range s.objects r c f.1)
changed P s user (command.Crtpgmref c) h = made P s _ h _ _ (Object kind.Pgm c.pgm) refl (program_made s c) (λ n. (new_program c.pgm s.objects.programs n, (record { path = c.path }, refl))) (λ f r n. program_range s.objects r c f.1 n)
changed P s user (command.Crtjobd c) h = made P s _ h _ _ (Object kind.Jobd c.jobd) refl (job_description_made s c) (λ n. (new_object kind.Jobd c.jobd s.objects.jobds n, (jobd_of c, refl))) (λ f r n. jobd_range s.objects r c f.1)
changed P s user (command.Crtsbsd c) h = made P s _ h _ _ (Object kind.Sbsd c.sbsd) refl (description_made s c) (λ n. (new_object kind.Sbsd c.sbsd s.objects.sbsds n, (empty_sbsd c.maxjobs, refl))) (λ f r n. sbsd_range s.objects r c f.1)
changed P s user (command.Addjobqe c) h = made P s _ h _ _ (Description c.sbsd) refl (queue_added s c) (λ n. (with_queue (queue_entry_of c), refl)) (λ f r n. queue_entry_range s.objects r c f.1)
changed P s user (command.Addrtge c) h = made P s _ h _ _ (Description c.sbsd) refl (route_added s c) (λ n. (with_route (route_entry_of c), refl)) (λ f r n. route_entry_range s.objects r c f.1)
changed P s user (command.Addaje c) h = made P s _ h _ _ (Description c.sbsd) refl (auto_added s c) (λ n. (with_auto (auto_entry_of c), refl)) (λ f r n. auto_entry_range s.objects r c f.1)
changed P s user (command.Addpje c) h = made P s _ h _ _ (Description c.sbsd) refl (pre_added s c) (λ n. (with_pre (pre_entry_of c), refl)) (λ f r n. pre_entry_range s.objects r c f.1)
changed P s user (command.Rmvjobqe c) h = made P s _ h _ _ (Description c.sbsd) refl (queue_removed s c) (λ n. (without_queue c.jobq, refl)) (λ f r n. without_queue_range s.objects r c.sbsd c.jobq)
changed P s user (command.Rmvrtge c) h = made P s _ h _ _ (Description c.sbsd) refl (route_removed s c) (λ n. (without_route c.seqnbr, refl)) (λ f r n. without_route_range s.objects r c.sbsd c.seqnbr)
changed P s user (command.Rmvaje c) h = made P s _ h _ _ (Description c.sbsd) refl (auto_removed s c) (λ n. (without_auto c.job, refl)) (λ f r n. without_auto_range s.objects r c.sbsd c.job)
changed P s user (command.Rmvpje c) h = made P s _ h _ _ (Description c.sbsd) refl (pre_removed s c) (λ n. (without_pre c.pgm, refl)) (λ f r n. without_pre_range s.objects r c.sbsd c.pgm)
changed P s user (command.Strsbs c) h = start P s _ h c.sbsd (start_refusal s c.sbsd) refl
changed P s user (command.Endsbs c) h = sbs_ended P s _ h c (started_named s c.sbs) refl
changed P s user (command.Sbmjob c) h = either P s _ h (is_on s.power) _ _ (λ t. submitted_with P s _ h user c (object_named c.jobd s.objects.jobds) (λ f. f) refl) (λ t. h.refuses PoweringDown)
changed P s user (command.Hldjob c) h = held_found P s _ h (waiting_named s c.job)
changed P s user (command.Rlsjob c) h = released_found P s _ h (waiting_named s c.job)
changed P s user (command.Chgjob c) h = changed_found P s _ h c (waiting_named s c.job) (λ f. f.1) refl
changed P s user (command.Endjob c) h = job_ended P s _ h c (job_named s c.job) refl refl
changed P s user (command.Hldjobq c) h = queue_held P s _ h c.jobq refl (λ f. f.1)
changed P s user (command.Rlsjobq c) h = queue_released P s _ h c.jobq refl
changed P s user (command.Clrjobq c) h = queue_cleared P s _ h c.jobq
changed P s user (command.Strpj c) h = either P s _ h (is_on s.power) _ _ (λ t. prestarted_in P s _ h c (started_named s c.sbs) refl) (λ t. h.refuses PoweringDown)
changed P s user (command.Endpj c) h = entry_ends_in P s _ h c (started_named s c.sbs) refl refl
changed P s user (command.Evoke c) h = either P s _ h (is_on s.power) _ _ (λ t. evoked_in P s _ h (user, c, refl) user c.sbs c.pgm (started_named s c.sbs) refl) (λ t. h.refuses PoweringDown)
changed P s user (command.Enduse c) h = use_ends_found P s _ h c (job_named s c.job) refl
changed P s user (command.Pwrdwnsys c) h =
    either P s _ h (is_down c.option s.power) _ _ (λ t. h.refuses PoweringDown)
    (λ t. h.ends PowerDown _ _ (same_stops s) (requests_left s (λ e. not (is_of_those (λ b. not (is_ending_by c.option b.phase)) s.started e.sbs))) (down_by c.option) plain_power_down (all_end s c.option c.delay (down_by c.option)) refl (inr (record { user = user; c = c; call_is = refl; reply_is = refl })))

-- what holds after whatever the call can come to, holds after the call
pub call_comes : (P : Stepped → Type 0) (s : State) (caller : ℕ) (call : Call) → HoldsAfterCalls P s call → P (apply s caller call)
call_comes P s caller (Change user c) h = changed P s user c h
call_comes P s caller Hand h = handed P s _ h caller (find (is_to_kill caller) s.jobs) (h.nothing (λ n. absurd (cc))) refl
call_comes P s caller (Started serial) h = reported P s _ h serial (is_handed_to caller) _ (λ j. false) (find (λ j. j.serial == serial) s.jobs) (handed_active caller) (λ j e. moved_on j (Running caller) 2 (handed_rank caller j.phase e) (omega arith) (omega arith) (omega arith) (λ c d w f. absurd (cc))) (λ j. refl) (λ j fit c e. absurd (cc)) refl
call_comes P s caller (StartFailed serial why) h = reported P s _ h serial (is_handed_to caller) _ (λ j. true) (find (λ j. j.serial == serial) s.jobs) (handed_active caller) (λ j e. moved_on j (Ended (cause.StartFailed why)) 2 (handed_rank caller j.phase e) (omega arith) (omega arith) (omega arith) (λ c d w f. inr (failed_end why d f))) (λ j. refl) (λ j fit d e. cause_by (cause.StartFailed why) d e tt) refl
call_comes P s caller (Finished serial end) h = reported P s _ h serial (is_run_by caller) _ is_unused (find (λ j. j.serial == serial) s.jobs) (run_active caller) (λ j e. moved_on j (Ended (end_cause end j.wish)) 3 (run_rank caller j.phase e) (omega arith) (omega arith) (omega arith) (λ c d w f. inl (finished_end end j.wish c d w f))) (λ j. refl) (λ j fit d e. cause_by (end_cause end j.wish) d e (end_range end j.wish fit.1)) refl
call_comes P s caller (UseDone serial) h = use_done_on_found P s _ h caller serial (find (λ j. j.serial == serial) s.jobs) refl
call_comes P s caller Tick h = h.notes

-- a job can be made and launched in a subsystem: a number and a serial are left, and the subsystem is started
pub record IsMakeable (q : QName) (t : State) : Type 0 where
  pub number : t.next_number < numbers_end
  pub serial : t.next_serial < serials_end
  pub sbs : Sbs
  pub started : IsIn sbs t.started
  pub named : sbs.sbsd ≡ q
  pub active : is_sbs_active sbs.phase ≡ true

-- so it is with one job after another
pub record AreMakeable (q : QName) (es : List AutoEntry) (t : State) : Type 0 where
  numbers : length es ≤ numbers_end - t.next_number
  serials : length es ≤ serials_end - t.next_serial
  sbs : Sbs
  started : IsIn sbs t.started
  named : sbs.sbsd ≡ q
  active : is_sbs_active sbs.phase ≡ true

-- what each autostart job keeps, all keep
module _ (P : State → Type 0) (q : QName) (keeps : (t : State) (e : AutoEntry) (d : Jobd) → IsMakeable q t → P t → P (auto_made t q e d)) where
  made_one : (e : AutoEntry) (es : List AutoEntry) (t : State) (o : Option Jobd) → AreMakeable q (e ∷ es) t → P t → P (auto_described t q e o)
  made_one e es t None m p = p
  made_one e es t (Some d) m p =
      let numbers = m.numbers in
      let serials = m.serials in
      keeps t e d (record { number = omega arith; serial = omega arith; sbs = m.sbs; started = m.started; named = m.named; active = m.active }) p

  made_rest : (e : AutoEntry) (es : List AutoEntry) (t : State) (o : Option Jobd) → AreMakeable q (e ∷ es) t → AreMakeable q es (auto_described t q e o)
  made_rest e es t None m =
      let numbers = m.numbers in
      let serials = m.serials in
      record { numbers = omega arith; serials = omega arith; sbs = m.sbs; started = m.started; named = m.named; active = m.active }
  made_rest e es t (Some d) m =
      let numbers = m.numbers in
      let serials = m.serials in
      record { numbers = omega arith; serials = omega arith; sbs = m.sbs; started = m.started; named = m.named; active = m.active }

  pub made_all : (es : List AutoEntry) (t : State) → AreMakeable q es t → P t → P (fold (make_auto q) t es)
  made_all [] t m p = p
  made_all (e ∷ es) t m p =
      made_all es (make_auto q t e) (made_rest e es t (object_named e.jobd t.objects.jobds) m) (made_one e es t (object_named e.jobd t.objects.jobds) m p)

pub enough : (numbered : Bool) (a b n : ℕ) → nat_lt (cond numbered (min a b) 0) n ≡ false → (n ≤ a) × (n ≤ b)
enough false a b n h = let none : n ≤ 0 = grind (arith, nat_tests) in (omega arith, omega arith)
enough true a b n h =
    let all : n ≤ min a b = grind (arith, nat_tests) in
    let left = min-le_left a b in
    let right = min-le_right a b in
    (omega arith, omega arith)

pub makeable : (s : State) (q : QName) → IsStartable s q → AreMakeable q (autos_of s q) (begun s q)
makeable s q h =
    let left = enough (nat_le 1 s.next_number) (numbers_end - s.next_number) (serials_end - s.next_serial) (length (autos_of s q)) h.numbers in
    record { numbers = left.0; serials = left.1; sbs = record { sbsd = q; phase = Active }; started = last_in s.started (record { sbsd = q; phase = Active }); named = refl; active = refl }

-- what a subsystem that starts and each of its autostart jobs keep, holds with these
pub autos_made : (P : State → Type 0) (s : State) (q : QName) → IsStartable s q → ((t : State) (e : AutoEntry) (d : Jobd) → IsMakeable q t → P t → P (auto_made t q e d)) → P (begun s q) → P (with_autos s q)
autos_made P s q can autos h = made_all P q autos (autos_of s q) (begun s q) (makeable s q can) h

-- and with its first prestart jobs, where each of them keeps it
pub started_keeps : (P : State → Type 0) (s : State) (q : QName) → IsStartable s q → IsSupplied P → P (with_autos s q) → P (started_up s q)
started_keeps P s q can supplies h =
    let b : Sbs = record { sbsd = q; phase = Active } in
    let same : (with_autos s q).started ≡ s.started ++ b ∷ [] = autos_made (λ t. t.started ≡ s.started ++ b ∷ []) s q can (λ t e d m x. x) refl in
    firsts_keep P supplies q (with_autos s q) (subst (λ (xs : List Sbs). IsActiveAmong xs q) (sym same) (b, last_in s.started b, refl, refl)) h

-- so with the jobs that STRPJ makes
pub prestart_keeps : (P : State → Type 0) (s : State) (q : QName) (d : Sbsd) (e : PreEntry) → IsPrestartable s q d e → IsSupplied P → P (restarted s q e.pgm) → P (prestarted s q d e)
prestart_keeps P s q d e can supplies h =
    let t = restarted s q e.pgm in
    let n : ℕ = room t q d e (e.inljobs - count_available q e.pgm s.jobs) in
    made_keeps P supplies q d e n t can.there can.described can.entered (omega (arith, room-is q d e t (e.inljobs - count_available q e.pgm s.jobs))) h

-- P holds of whatever state a call can leave before it settles: of that in which a subsystem has started with its autostart jobs, and each prestart job and each request that a job gets keep it
pub record HoldsOfStates (P : State → Type 0) (s : State) : Type 0 where
  pub stays : P s
  pub starts : (q : QName) → IsStartable s q → P (with_autos s q)
  pub supplies : IsSupplied P
  pub enters : (user : List ℕ) (c : Sbmjob) (d : Jobd) (due : ℕ) → IsAcceptable s c d due → P (entered s (submitted_job s user c d due))
  pub alters : (change : Job → Job) (place : ℕ) → IsAlteration s change place → P (altered s change place)
  pub holds : (held : List QName) → IsHolding s held → P (record s { held = held })
  pub lists : (stopped : List Stop) (evokes : List Evoke) → P (record s { stopped = stopped; evokes = evokes })
  pub moves : (serial : ℕ) (j : Job) (phase : Phase) (stopped : List Stop) → IsIn j s.jobs → j.serial ≡ serial → IsMoved j phase → is_starting phase ≡ false → P (record (with_phase s serial phase) { stopped = stopped })
  pub ends : (change : Job → Job) (started : List Sbs) (stopped : List Stop) (evokes : List Evoke) (power : Power) → IsEnding s change started power → P (wished s change started stopped evokes power)
  pub makes : (o : Objects) → IsObjectChange s o → P (record s { objects = o })

-- what holds of two, holds of both
pub both_hold : (P Q : State → Type 0) (s : State) → HoldsOfStates P s → HoldsOfStates Q s → HoldsOfStates (λ t. P t × Q t) s
both_hold P Q s h k = record {
  stays = (h.stays, k.stays);
  starts = λ q e. (h.starts q e, k.starts q e);
  supplies = record {
    makes = λ q d e t can x. (h.supplies.makes q d e t can x.0, k.supplies.makes q d e t can x.1);
    assigns = λ t q pgm job evokes can x. (h.supplies.assigns t q pgm job evokes can x.0, k.supplies.assigns t q pgm job evokes can x.1);
  };
  enters = λ user c d due has. (h.enters user c d due has, k.enters user c d due has);
  alters = λ change place a. (h.alters change place a, k.alters change place a);
  holds = λ held a. (h.holds held a, k.holds held a);
  lists = λ stopped evokes. (h.lists stopped evokes, k.lists stopped evokes);
  moves = λ serial j phase stopped i e r n. (h.moves serial j phase stopped i e r n, k.moves serial j phase stopped i e r n);
  ends = λ change started stopped evokes power e. (h.ends change started stopped evokes power e, k.ends change started stopped evokes power e);
  makes = λ o c. (h.makes o c, k.makes o c);
}

of_states : (P : State → Type 0) (s : State) (call : Call) → HoldsOfStates P s → HoldsAfterCalls (λ t. P t.state) s call
of_states P s call h = record {
  refuses = λ x. h.stays;
  nothing = λ n. h.stays;
  notes = h.stays;
  hands = λ m j o i e f. h.moves j.serial j (Handed m) s.stopped i refl (moved_on j (Handed m) 1 (starting_rank j.phase e) (omega arith) (omega arith) (omega arith) (λ c d w f. absurd (cc))) refl;
  reports = λ serial j phase stopped i e r n fit. h.moves serial j phase stopped.stops i e r n;
  starts = λ q e. started_keeps P s q e h.supplies (h.starts q e);
  enters = λ user c d due has fit. h.enters user c d due has;
  alters = λ reply change place p a fit. h.alters change place a;
  holds = λ reply held p a told fit. h.holds held a;
  ends = λ reply change started stopped evokes power p e told kept. h.ends change started stopped.stops evokes.requests power e;
  uses = λ reply change p u. h.ends change s.started s.stopped s.evokes s.power u.ending;
  waits = λ place evokes is. h.lists s.stopped evokes.requests;
  prestarts = λ q d e can. prestart_keeps P s q d e can h.supplies (h.lists (without_stop q e.pgm s.stopped) s.evokes);
  kills = λ m j i k. h.ends (active_at j.serial with_kill) s.started s.stopped s.evokes s.power (kill_ends s j.serial);
  makes = λ o c told fit. h.makes o c;
}

-- the same for the state alone
pub call_keeps : (P : State → Type 0) (s : State) (caller : ℕ) (call : Call) → HoldsOfStates P s → P (apply s caller call).state
call_keeps P s caller call h = call_comes (λ t. P t.state) s caller call (of_states P s call h)

-- what holds where jobs and subsystems end, holds after settling's first part
pub comes_due : (P : State → Type 0) (s : State) → HoldsOfStates P s → P (come_due s)
comes_due P s h = h.ends (job_at s.clock (sbss_at s)) (sbss_at s) s.stopped s.evokes s.power (coming_due s)

-- P is kept by all that a step does
pub record IsKeptByParts (P : State → Type 0) : Type 0 where
  pub clock : (s : State) (moment : ℕ) → P s → P (with_clock s moment)
  pub calls : (s : State) → P s → HoldsOfStates P s
  pub leaves : (s : State) → P s → P (leave s)
  pub launches : IsKept next (λ c t. launch t c) P

-- what is kept holds where the state is ready for jobs to start
pub readies : (P : State → Type 0) → IsKeptByParts P → (s : State) → P s → P (ready s)
readies P k s h =
    let due : P (come_due s) = comes_due P s (k.calls s h) in
    supplied_keeps P (k.calls s h).supplies (leave (come_due s)) (k.leaves (come_due s) due)

pub step_keeps : (P : State → Type 0) → IsKeptByParts P → (s : State) (caller : ℕ) (call : Call) (moment : ℕ) → P s → P (step s caller call moment).state
unfolding step
step_keeps P k s caller call moment h =
    let t = (apply (with_clock s moment) caller call).state in
    let called : P t = call_keeps P (with_clock s moment) caller call (k.calls (with_clock s moment) (k.clock s moment h)) in
    iterate-keeps P k.launches (waiting (ready t)) (ready t) (readies P k t called)

-- and so by a history
pub after_keeps : (P : State → Type 0) → IsKeptByParts P → (s : State) (h : List Entry) → P s → P (after s h)
after_keeps P k s [] p = p
after_keeps P k s (e ∷ es) p = after_keeps P k (stepped s e).state es (step_keeps P k s e.caller e.call e.moment p)
