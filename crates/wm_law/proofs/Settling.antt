-- Each launch leaves one job less that waits.
use Rattle.std.proofs.Common.{◌≡◌, ℕ, ◌<◌, ◌≤◌, ◌==◌, Bool, true, false, cond, List, [], ◌∷◌, map, Option, Some, None, refl, sym, ap, subst, ◌∙◌, inl, inr, arith}
use Rattle.std.specs.List.{find, count_by}
use Rattle.std.specs.Option.{option_and_then}
use Rattle.std.proofs.lemmas.Bool.{eq-eqb}
use Rattle.std.proofs.lemmas.List.Sums.{sum_by-cons}
use Rattle.wm_base.specs.declared.qname.QName.{QName}
use Rattle.wm_base.specs.Iterate.{IsLessened}
use Rattle.wm_law.specs.declared.choice.Candidate.{Candidate}
use Rattle.wm_law.specs.declared.job.Job.{Job}
use Rattle.wm_law.specs.declared.state.State.{State}
use Rattle.wm_desc.specs.declared.entry.RouteEntry.{RouteEntry}
use Rattle.wm_base.specs.declared.job.EndCause.{EndCause}
use Rattle.wm_base.specs.declared.job.How.{How}
use Rattle.wm_law.specs.Choice.{first, next}
use Rattle.wm_desc.specs.Table.{object_named}
use Rattle.wm_law.specs.Counts.{is_waiting}
use Rattle.wm_law.specs.Launch.{route, route_fault, from_queue, starts_unless, routed_through, routed_in, routed_from_queue, as_launched, launch, with_routed}
use Rattle.wm_law.specs.Jobs.{changed_at}
use Rattle.wm_base.proofs.Iterate.{iterate-none, iterate-step, next-iterate}
use Rattle.wm_law.specs.Laws.{IsIn, SettledHasNoNext, SettledLeavesNone}
use Rattle.wm_law.specs.Settling.{waiting, start_jobs, settle, ready}
use Rattle.wm_law.proofs.Firsts.{first_waits, next_waits, no_next_is_none}

by_cause : (how : ℕ → How) (seq : ℕ) (cause : Option EndCause) → is_waiting (starts_unless how seq cause).phase ≡ false
by_cause how seq None = refl
by_cause how seq (Some c) = refl

through : (s : State) (sbs : QName) (how : ℕ → How) (j : Job) (e : Option RouteEntry) → is_waiting (routed_through s sbs how j e).phase ≡ false
through s sbs how j None = refl
through s sbs how j (Some e) = by_cause how e.seq (route_fault s sbs e j)

-- what a launch makes of a job doesn't wait
pub launch_never_waits : (s : State) (sbs : QName) (how : ℕ → How) (j : Job) → is_waiting (routed_in s sbs how j).phase ≡ false
launch_never_waits s sbs how j = through s sbs how j (option_and_then (λ d. route d j.rtgdta) (object_named sbs s.objects.sbsds))

pub not_waiting : (s : State) (sbs jobq : QName) (j : Job) → is_waiting (routed_from_queue s sbs jobq j).phase ≡ false
not_waiting s sbs jobq j = launch_never_waits s sbs (from_queue sbs jobq j) j

-- one for a job that waits
abbrev one : Job → ℕ
one j = cond (is_waiting j.phase) 1 0

one_at : (change : Job → Job) → ((j : Job) → is_waiting (change j).phase ≡ false) → (t : Bool) (j : Job) → one (cond t (change j) j) ≤ one j
one_at change h true j = rw (h j) (omega arith)
one_at change h false j = omega arith

fewer : (serial : ℕ) (change : Job → Job) → ((j : Job) → is_waiting (change j).phase ≡ false) → (jobs : List Job) → count_by (λ j. is_waiting j.phase) (map (changed_at serial change) jobs) ≤ count_by (λ j. is_waiting j.phase) jobs
fewer serial change h [] = omega arith
fewer serial change h (j ∷ jobs) =
    let this = one_at change h (j.serial == serial) j in
    let rest = fewer serial change h jobs in
    rw (sum_by-cons one (changed_at serial change j) (map (changed_at serial change) jobs), sum_by-cons one j jobs) (omega arith)

none_at : (change : Job → Job) → ((j : Job) → is_waiting (change j).phase ≡ false) → (t : Bool) (j : Job) → t ≡ true → one (cond t (change j) j) ≡ 0
none_at change h true j e = rw (h j) refl
none_at change h false j e = absurd (cc)

-- a change after which the job of the serial doesn't wait leaves one less that waits
less : (serial : ℕ) (change : Job → Job) → ((j : Job) → is_waiting (change j).phase ≡ false) → (jobs : List Job) (j : Job) → IsIn j jobs → is_waiting j.phase ≡ true → serial ≡ j.serial → count_by (λ j. is_waiting j.phase) (map (changed_at serial change) jobs) < count_by (λ j. is_waiting j.phase) jobs
less serial change h [] j m w e = absurd m
less serial change h (k ∷ jobs) j (inl same) w e =
    let gone = none_at change h (k.serial == serial) k (eq-eqb _ _ (ap (λ (x : Job). x.serial) (sym same) ∙ sym e)) in
    let was : one k ≡ 1 = subst (λ (x : Job). one x ≡ 1) same (rw w refl) in
    let rest = fewer serial change h jobs in
    rw (sum_by-cons one (changed_at serial change k) (map (changed_at serial change) jobs), sum_by-cons one k jobs) (omega arith)
less serial change h (k ∷ jobs) j (inr m) w e =
    let this = one_at change h (k.serial == serial) k in
    let rest = less serial change h jobs j m w e in
    rw (sum_by-cons one (changed_at serial change k) (map (changed_at serial change) jobs), sum_by-cons one k jobs) (omega arith)

picked : (t : Bool) (k : Job) (o : Option Job) → ((x : Job) × (o ≡ Some x)) → (x : Job) × (cond t (Some k) o ≡ Some x)
picked true k o h = (k, refl)
picked false k o h = h

-- a job of the list is found by its serial
found : (serial : ℕ) (jobs : List Job) (j : Job) → IsIn j jobs → serial ≡ j.serial → (k : Job) × (find (λ j. j.serial == serial) jobs ≡ Some k)
found serial [] j m e = absurd m
found serial (k ∷ jobs) j (inl same) e = (k, rw (eq-eqb k.serial serial (ap (λ (x : Job). x.serial) (sym same) ∙ sym e)) refl)
found serial (k ∷ jobs) j (inr m) e = picked (k.serial == serial) k (find (λ x. x.serial == serial) jobs) (found serial jobs j m e)

-- the launch of a candidate with the serial of a job that waits leaves one less that waits
lessens : (s : State) (c : Candidate) (j : Job) → IsIn j s.jobs → is_waiting j.phase ≡ true → c.serial ≡ j.serial → waiting (launch s c) < waiting s
lessens s c j i w same =
    let f = found c.serial s.jobs j i same in
    let l = routed_from_queue s c.sbs c.jobq f.0 in
    subst (λ (o : Option Job). waiting (with_routed s c o) < waiting s) (sym f.1) (less c.serial (as_launched l) (λ k. not_waiting s c.sbs c.jobq f.0) s.jobs j i w same)

pub launches_lessen : IsLessened next (λ c t. launch t c) waiting
launches_lessen = record { by_step = λ s c e. (let j = next_waits s c e in lessens s c j.0 j.1 j.2 j.3) }

-- and so does the launch of a subsystem's first
pub first_lessens : (sbs : QName) → IsLessened (λ s. first s sbs) (λ c t. launch t c) waiting
first_lessens sbs = record { by_step = λ s c e. (let j = first_waits s sbs c e in lessens s c j.0 j.1 j.2 j.3) }

-- a launch of the next candidate leaves the same to be started
pub start_jobs-launch : (s : State) (c : Candidate) → next s ≡ Some c → start_jobs s ≡ start_jobs (launch s c)
start_jobs-launch s c e = iterate-step launches_lessen (waiting s) (waiting (launch s c)) s c e (omega arith) (omega arith)

-- where no candidate is next, nothing starts
pub start_jobs-none : (s : State) → next s ≡ None → start_jobs s ≡ s
start_jobs-none s e = iterate-none next (λ c t. launch t c) (waiting s) s e

pub settled_has_no_next : SettledHasNoNext
settled_has_no_next s = next-iterate launches_lessen (waiting (ready s)) (ready s) (omega arith)

pub settled_leaves_none : SettledLeavesNone
settled_leaves_none s j t i m = no_next_is_none (settle s) (settled_has_no_next s) j t i m
