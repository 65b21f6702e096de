-- Over all runs of one store no job is started twice.
use Rattle.std.proofs.Common.{◌≡◌, ℕ, ℤ, ◌++◌, true, false, List, [], ◌∷◌, refl, sym, ap, subst, ◌∙◌, inl, inr, arith}
use Rattle.wm_traits.specs.declared.row.Row.{Row}
use Rattle.wm_law.specs.Counts.{is_waiting}
use Rattle.wm_law.specs.History.{after, stepped, IsLegal}
use Rattle.wm_law.specs.Kept.{IsDistinct, starts}
use Rattle.wm_law.specs.Laws.{IsIn}
use Rattle.wm_law.specs.Sound.{IsSound}
use Rattle.wm_law.specs.declared.call.Entry.{Entry}
use Rattle.wm_law.specs.declared.job.Job.{Job}
use Rattle.wm_law.specs.declared.job.Phase.{Phase}
use Rattle.wm_law.specs.declared.job.Phase.TheVariants as phase
use Rattle.wm_law.specs.declared.state.State.{State}
use Rattle.wm_law.proofs.Forward.{only_one}
use Rattle.wm_law.proofs.Members.{in_mapped}
use Rattle.wm_law.proofs.Sound.{states_are_sound, step_keeps_sound}
use Rattle.wm_law.proofs.Starts.{serials_start_once}
use Rattle.wm_tables.specs.Ranges.{IsInRange}
use Rattle.wm_tables.specs.Restart.{IsRestart, restarted, restarted_job, restarted_phase}
use Rattle.wm_tables.specs.Tables.{tables}
use Rattle.wm_tables.proofs.Passing.{of_parts}
use Rattle.wm_tables.proofs.RangedRestarts.{restart_is_in_range}
use Rattle.wm_tables.proofs.Rebuilt.{tables_make_their_state}
use Rattle.wm_tables.proofs.Restarts.{restart_is_sound}
use Rattle.wm_tables.specs.Chain.{HasRun, IsChain, IsLeftBy, IsRun, Run, all_starts}
use Rattle.wm_tables.specs.ChainLaws.{NoJobStartsTwice, RowsMakeOneState}
use Rattle.wm_tables.proofs.Held.{IsPast, none_active, serial_below}
use Rattle.wm_tables.proofs.Ordered.{IsGiveable, ordered_giveable, ordered_then_past, past_after, past_stays}
use Rattle.wm_tables.proofs.Starting.{entry_ranges, young_waits}

-- the serial is past Waiting in each state that the rows make
abbrev IsPastFrom : List Row → ℕ → Type 0
IsPastFrom rows serial = (offset : ℤ) (s : State) → IsRestart offset rows s → IsPast s serial

restarted_past : (p : Phase) → is_waiting p ≡ false → is_waiting (restarted_phase p) ≡ false
restarted_past phase.Waiting h = h
restarted_past phase.Starting h = refl
restarted_past (phase.Handed m) h = refl
restarted_past (phase.Running m) h = refl
restarted_past (phase.Ended c) h = refl

-- so it is with the tables of a state in which it is past Waiting
tables_past : RowsMakeOneState → (t : State) (serial : ℕ) → IsSound t → IsInRange t → IsPast t serial → IsPastFrom (tables t) serial
tables_past one t serial sound range h offset s made =
    let again : IsPast (restarted offset t) serial = record { job = restarted_job h.job; stands = in_mapped restarted_job t.jobs h.job h.stands; its = h.its; past = restarted_past h.job.phase h.past } in
    subst (λ (u : State). IsPast u serial) (one offset (tables t) (restarted offset t) s (tables_make_their_state offset t sound range) made) again

after_ranges : (s : State) (log : List Entry) → IsSound s → IsInRange s → IsLegal s log → IsInRange (after s log)
after_ranges s [] sound range legal = range
after_ranges s (e ∷ es) sound range legal = after_ranges (stepped s e).state es (step_keeps_sound s e.caller e.call e.moment sound) (entry_ranges s e legal.0 sound range) legal.1

-- and with the rows that a history leaves
left_past : RowsMakeOneState → (s : State) (log : List Entry) (rows : List Row) (serial : ℕ) → IsSound (after s log) → IsInRange (after s log) → IsPast (after s log) serial → IsLeftBy s log rows → IsPastFrom rows serial
left_past one s log rows serial sound range h (inl same) = subst (λ (rs : List Row). IsPastFrom rs serial) (sym same) (tables_past one (after s log) serial sound range h)
left_past one s log rows serial sound range h (inr more) =
    let e = more.0 in
    let t = (stepped (after s log) e).state in
    subst (λ (rs : List Row). IsPastFrom rs serial) (sym more.2)
    (tables_past one t serial (step_keeps_sound (after s log) e.caller e.call e.moment sound) (entry_ranges (after s log) e more.1 sound range) (past_stays (after s log) e serial sound.numbered h))

run_past : RowsMakeOneState → (found : List Row) (r : Run) (serial : ℕ) (h : HasRun found r) → IsPast (after h.opened r.log) serial → IsPastFrom r.left serial
run_past one found r serial h past =
    let sound = restart_is_sound r.offset found h.opened h.restart in
    let range = restart_is_in_range r.offset found h.opened h.restart in
    left_past one h.opened r.log r.left serial (states_are_sound h.opened r.log sound) (after_ranges h.opened r.log sound range h.legal) past h.leaves

-- what a run orders to start is past Waiting in the states of the rows that it leaves
starts_past : RowsMakeOneState → (found : List Row) (r : Run) (serial : ℕ) → IsRun found r → IsIn serial (starts r.log) → IsPastFrom r.left serial
starts_past one found r serial (inl h) i =
    let sound = restart_is_sound r.offset found h.opened h.restart in
    run_past one found r serial h (ordered_then_past h.opened r.log sound.numbered h.legal serial i)
starts_past one found r serial (inr h) i = absurd (subst (λ (log : List Entry). IsIn serial (starts log)) h.none i)

-- what is past Waiting stays so
still_past : RowsMakeOneState → (found : List Row) (r : Run) (serial : ℕ) → IsRun found r → IsPastFrom found serial → IsPastFrom r.left serial
still_past one found r serial (inl h) past =
    let sound = restart_is_sound r.offset found h.opened h.restart in
    run_past one found r serial h (past_after h.opened r.log serial sound.numbered (past r.offset h.opened h.restart))
still_past one found r serial (inr h) past = subst (λ (rows : List Row). IsPastFrom rows serial) (sym h.same) past

-- it isn't giveable in a state that rows make
never_giveable : (offset : ℤ) (rows : List Row) (s : State) (serial : ℕ) → IsRestart offset rows s → IsPast s serial → IsGiveable s serial → ⊥
never_giveable offset rows s serial made past (inl young) =
    let sound = restart_is_sound offset rows s made in
    let same : past.job ≡ young.job = only_one s.jobs sound.numbered.serials.distinct past.job young.job past.stands young.stands (past.its ∙ sym young.its) in
    let waits : young.job.phase ≡ phase.Waiting = young_waits young.job.phase young.young (none_active offset rows s made young.job young.stands) in
    let yes : is_waiting past.job.phase ≡ true = ap (λ (j : Job). is_waiting j.phase) same ∙ ap is_waiting waits in
    let no = past.past in
    absurd (cc)
never_giveable offset rows s serial made past (inr least) =
    let sound = restart_is_sound offset rows s made in
    let less = serial_below s sound.numbered past.job past.stands in
    let its = past.its in
    absurd (omega arith)

-- so no run starts it
not_here : (found : List Row) (r : Run) (serial : ℕ) → IsRun found r → IsPastFrom found serial → IsIn serial (starts r.log) → ⊥
not_here found r serial (inl h) past i =
    let sound = restart_is_sound r.offset found h.opened h.restart in
    never_giveable r.offset found h.opened serial h.restart (past r.offset h.opened h.restart) (ordered_giveable h.opened r.log sound.numbered h.legal serial i)
not_here found r serial (inr h) past i = absurd (subst (λ (log : List Entry). IsIn serial (starts log)) h.none i)

never_again : RowsMakeOneState → (found : List Row) (runs : List Run) (serial : ℕ) → IsChain found runs → IsPastFrom found serial → IsIn serial (all_starts runs) → ⊥
never_again one found [] serial chain past i = i
never_again one found (r ∷ runs) serial chain past i =
    elim (of_parts (starts r.log) (all_starts runs) serial i) as (λ _. ⊥) [
      | inl here ↦ not_here found r serial chain.0 past here
      | inr later ↦ never_again one r.left runs serial chain.1 (still_past one found r serial chain.0 past) later
    ]

distinct_parts : (xs ys : List ℕ) → IsDistinct xs → IsDistinct ys → ((x : ℕ) → IsIn x xs → IsIn x ys → ⊥) → IsDistinct (xs ++ ys)
distinct_parts [] ys d e apart = e
distinct_parts (x ∷ xs) ys d e apart = (
  λ i. (elim (of_parts xs ys x i) as (λ _. ⊥) [ inl here ↦ d.0 here | inr there ↦ apart x (inl refl) there ]),
  distinct_parts xs ys d.1 e (λ y i k. apart y (inr i) k),
)

run_starts_once : (found : List Row) (r : Run) → IsRun found r → IsDistinct (starts r.log)
run_starts_once found r (inl h) = let sound = restart_is_sound r.offset found h.opened h.restart in serials_start_once h.opened r.log sound.numbered h.legal
run_starts_once found r (inr h) = subst (λ (log : List Entry). IsDistinct (starts log)) (sym h.none) tt

pub no_job_starts_twice : RowsMakeOneState → NoJobStartsTwice
no_job_starts_twice one found [] chain = tt
no_job_starts_twice one found (r ∷ runs) chain =
    distinct_parts (starts r.log) (all_starts runs) (run_starts_once found r chain.0) (no_job_starts_twice one r.left runs chain.1)
    (λ serial i k. never_again one r.left runs serial chain.1 (starts_past one found r serial chain.0 i) k)
