-- Which serials a legal history orders to start.
use Rattle.std.proofs.Common.{◌≡◌, ◌⊎◌, ℕ, ◌≤◌, true, false, List, [], ◌∷◌, map, Option, Some, None, refl, sym, ap, ◌∙◌, inl, inr, arith}
use Rattle.std.specs.List.{cons_option}
use Rattle.std.specs.Option.{option_and_then}
use Rattle.wm_base.specs.declared.job.Asked.{Asked}
use Rattle.wm_base.specs.declared.job.StartOrder.{StartOrder}
use Rattle.wm_law.specs.Counts.{is_starting, is_waiting}
use Rattle.wm_law.specs.History.{after, stepped, IsEntry, IsLegal}
use Rattle.wm_law.specs.Kept.{IsNumbered, phase_rank, start_of, start_told, starts}
use Rattle.wm_law.specs.Laws.{IsIn}
use Rattle.wm_law.specs.Launch.{order_of}
use Rattle.wm_law.specs.Machine.{step, with_clock}
use Rattle.wm_law.specs.Stepped.{Stepped}
use Rattle.wm_law.specs.declared.call.Call.{Call}
use Rattle.wm_law.specs.declared.call.Entry.{Entry}
use Rattle.wm_law.specs.declared.call.Reply.{Reply}
use Rattle.wm_law.specs.declared.job.Job.{Job}
use Rattle.wm_law.specs.declared.job.Phase.{Phase}
use Rattle.wm_law.specs.declared.job.Phase.TheVariants.{Waiting, Starting, Handed, Running, Ended}
use Rattle.wm_law.specs.declared.state.State.{State}
use Rattle.wm_law.proofs.Alterations.{IsPlain}
use Rattle.wm_law.proofs.Forward.{only_one, step_goes_on}
use Rattle.wm_law.proofs.Members.{of_mapped}
use Rattle.wm_law.proofs.Moves.{HoldsAfterCalls, call_comes, never_waits, starting_rank}
use Rattle.wm_law.proofs.NewSerials.{step_gives_new_serials}
use Rattle.wm_law.proofs.Numbers.{step_keeps_numbers}
use Rattle.wm_law.proofs.Once.{told}
use Rattle.wm_law.proofs.Starts.{by_serial}
use Rattle.wm_tables.proofs.Held.{IsPast}

-- a job of the serial is Starting
pub record IsStartingIn (s : State) (serial : ℕ) : Type 0 where
  pub job : Job
  pub stands : IsIn job s.jobs
  pub its : job.serial ≡ serial
  pub starting : is_starting job.phase ≡ true

-- what a reply orders to start is Starting
abbrev Tells : State → Stepped → Type 0
Tells s t = (x : ℕ) → told start_told t.reply ≡ Some x → IsStartingIn s x

handed : (s : State) (m : ℕ) (j : Job) (o : StartOrder) → IsIn j s.jobs → is_starting j.phase ≡ true → order_of s j ≡ Some o → (x : ℕ) → o.serial ≡ x → IsStartingIn s x
handed s m j o i h f x e = record { job = j; stands = i; its = sym (by_serial s j j.how o f) ∙ e; starting = h }

none_told : (reply : Reply) → IsPlain reply → (x : ℕ) → told start_told reply ≡ Some x → ⊥
none_told reply p x e =
    let none : told start_told reply ≡ None = ap (λ (o : Option Asked). option_and_then start_told o) p.orders_none in
    absurd (cc)

tells : (s : State) (call : Call) → HoldsAfterCalls (Tells s) s call
tells s call = record {
  refuses = λ y x e. absurd (cc);
  nothing = λ n x e. absurd (cc);
  notes = λ x e. absurd (cc);
  hands = λ m j o i h f x e. handed s m j o i h f x (cc);
  reports = λ serial j phase stopped i k r n fit x e. absurd (cc);
  starts = λ q k x e. absurd (cc);
  enters = λ user c d due has fit x e. absurd (cc);
  alters = λ reply change place p a fit x e. absurd (none_told reply p x e);
  holds = λ reply held p a told fit x e. absurd (none_told reply p x e);
  ends = λ reply change started stopped evokes power p a told kept x e. absurd (none_told reply p x e);
  uses = λ reply change p u x e. absurd (none_told reply p x e);
  waits = λ place evokes is x e. absurd (cc);
  prestarts = λ q d n can x e. absurd (cc);
  kills = λ m j i k x e. absurd (cc);
  makes = λ o c told fit x e. absurd (cc);
}

step_tells : (s : State) (caller : ℕ) (call : Call) (moment x : ℕ) → told start_told (step s caller call moment).reply ≡ Some x → IsStartingIn s x
unfolding step
step_tells s caller call moment x e =
    let c = with_clock s moment in
    let h = call_comes (Tells c) c caller call (tells c call) x e in
    record { job = h.job; stands = h.stands; its = h.its; starting = h.starting }

-- what an entry orders to start is Starting before it
pub entry_tells : (s : State) (e : Entry) → IsEntry s e → (x : ℕ) → start_of e ≡ Some x → IsStartingIn s x
entry_tells s e h x f = step_tells s e.caller e.call e.moment x (ap (told start_told) (sym h.reply) ∙ f)

starting_past : (p : Phase) → is_starting p ≡ true → is_waiting p ≡ false
starting_past Waiting h = absurd (cc)
starting_past Starting h = refl
starting_past (Handed m) h = refl
starting_past (Running m) h = refl
starting_past (Ended c) h = refl

-- so a job of it is past Waiting, and stays so
pub ordered_past : (s : State) (x : ℕ) → IsStartingIn s x → IsPast s x
ordered_past s x h = record { job = h.job; stands = h.stands; its = h.its; past = starting_past h.job.phase h.starting }

pub past_stays : (s : State) (e : Entry) (x : ℕ) → IsNumbered s → IsPast s x → IsPast (stepped s e).state x
past_stays s e x n h =
    let on = step_goes_on s e.caller e.call e.moment n h.job h.stands in
    let later = on.2 in
    record { job = on.0; stands = on.1; its = later.serial ∙ h.its; past = never_waits h.job.phase on.0.phase (record { past = h.past; on = later.phase }) }

pub past_after : (s : State) (log : List Entry) (x : ℕ) → IsNumbered s → IsPast s x → IsPast (after s log) x
past_after s [] x n h = h
past_after s (e ∷ es) x n h = past_after (stepped s e).state es x (step_keeps_numbers s e.caller e.call e.moment n) (past_stays s e x n h)

-- a job of the serial is Waiting or Starting
pub record IsYoungIn (s : State) (serial : ℕ) : Type 0 where
  pub job : Job
  pub stands : IsIn job s.jobs
  pub its : job.serial ≡ serial
  pub young : phase_rank job.phase ≤ 1

-- the serial may be ordered from the state on: a job of it is young, or it is yet to be given
abbrev pub IsGiveable : State → ℕ → Type 0
IsGiveable s x = IsYoungIn s x ⊎ (s.next_serial ≤ x)

of_front : (o : Option ℕ) (xs : List ℕ) (x : ℕ) → IsIn x (cons_option o xs) → (o ≡ Some x) ⊎ IsIn x xs
of_front None xs x i = inr i
of_front (Some y) xs x (inl e) = inl (sym (ap Some e))
of_front (Some y) xs x (inr i) = inr i

-- what is giveable after a step was so before it
was_young : (s : State) (e : Entry) (x : ℕ) → IsNumbered s → (h : IsYoungIn (stepped s e).state x) → IsIn h.job.serial (map (λ j. j.serial) s.jobs) → IsYoungIn s x
was_young s e x n h i =
    let t = (stepped s e).state in
    let o = of_mapped (λ (j : Job). j.serial) s.jobs h.job.serial i in
    let on = step_goes_on s e.caller e.call e.moment n o.0 o.1 in
    let later = on.2 in
    let m = step_keeps_numbers s e.caller e.call e.moment n in
    let same : on.0 ≡ h.job = only_one t.jobs m.serials.distinct on.0 h.job on.1 h.stands (later.serial ∙ sym o.2) in
    let rank : phase_rank on.0.phase ≡ phase_rank h.job.phase = ap (λ (j : Job). phase_rank j.phase) same in
    let up = later.phase in
    let young = h.young in
    record { job = o.0; stands = o.1; its = sym o.2 ∙ h.its; young = omega arith }

was_giveable : (s : State) (e : Entry) (x : ℕ) → IsNumbered s → IsGiveable (stepped s e).state x → IsGiveable s x
was_giveable s e x n (inr least) = let new = step_gives_new_serials s e.caller e.call e.moment in let next = new.next in inr (omega arith)
was_giveable s e x n (inl h) =
    let new = step_gives_new_serials s e.caller e.call e.moment in
    let its = h.its in
    elim (new.new h.job h.stands) as (λ _. IsGiveable s x) [ inl old ↦ inl (was_young s e x n h old) | inr least ↦ inr (omega arith) ]

young_start : (s : State) (x : ℕ) → IsStartingIn s x → IsYoungIn s x
young_start s x h = let rank = starting_rank h.job.phase h.starting in record { job = h.job; stands = h.stands; its = h.its; young = omega arith }

-- each serial that a legal history orders to start was giveable before it
pub ordered_giveable : (s : State) (log : List Entry) → IsNumbered s → IsLegal s log → (x : ℕ) → IsIn x (starts log) → IsGiveable s x
ordered_giveable s [] n legal x i = absurd i
ordered_giveable s (e ∷ es) n legal x i =
    elim (of_front (start_of e) (starts es) x i) as (λ _. IsGiveable s x) [
      | inl here ↦ inl (young_start s x (entry_tells s e legal.0 x here))
      | inr later ↦ was_giveable s e x n (ordered_giveable (stepped s e).state es (step_keeps_numbers s e.caller e.call e.moment n) legal.1 x later)
    ]

-- each serial that it orders to start is past Waiting behind it
pub ordered_then_past : (s : State) (log : List Entry) → IsNumbered s → IsLegal s log → (x : ℕ) → IsIn x (starts log) → IsPast (after s log) x
ordered_then_past s [] n legal x i = absurd i
ordered_then_past s (e ∷ es) n legal x i =
    let m = step_keeps_numbers s e.caller e.call e.moment n in
    elim (of_front (start_of e) (starts es) x i) as (λ _. IsPast (after s (e ∷ es)) x) [
      | inl here ↦ past_after (stepped s e).state es x m (past_stays s e x n (ordered_past s x (entry_tells s e legal.0 x here)))
      | inr later ↦ ordered_then_past (stepped s e).state es m legal.1 x later
    ]
