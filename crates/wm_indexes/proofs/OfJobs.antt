-- What is counted and found among the prestart jobs of a state.
use Rattle.std.proofs.Common.{◌≡◌, ℕ, ◌+◌, nat_lt, ◌&&◌, ◌||◌, Bool, true, false, not, cond, List, [], ◌∷◌, filter, fold, Option, Some, None, option_map, refl, ap, sym, ◌∙◌, subst, arith}
use Rattle.std.specs.List.{cons_option}
use Rattle.std.proofs.lemmas.List.Sums.{sum_by-cons}
use Rattle.wm_base.specs.declared.job.How.{How}
use Rattle.wm_base.specs.declared.job.How.TheVariants.{NotYet, FromQueue, Auto, Pre}
use Rattle.wm_base.specs.declared.qname.QName.{QName}
use Rattle.wm_law.specs.declared.job.Job.{Job}
use Rattle.wm_law.specs.declared.job.Phase.{Phase}
use Rattle.wm_law.specs.declared.job.Phase.TheVariants.{Waiting, Starting, Handed, Running, Ended}
use Rattle.wm_law.specs.Counts.{is_active, is_from_pre}
use Rattle.wm_law.specs.Prestart as law
use Rattle.wm_law.specs.Wishes.{has_wish}
use Rattle.wm_indexes.specs.declared.prestart_job.PrestartEntry.{PrestartEntry}
use Rattle.wm_indexes.specs.declared.prestart_job.PrestartJob.{PrestartJob}
use Rattle.wm_indexes.specs.declared.prestart_job.Readiness.TheVariants.{Coming, Idle, Taken}
use Rattle.wm_ordered.specs.Ordered.{key_of}
use Rattle.wm_indexes.specs.OfJobs.{AvailableAreCounted, FirstIdleIsFound, entry_of, prestart_jobs, row_by}
use Rattle.wm_indexes.specs.Ready.{available, is_available, is_available_in, is_idle, is_idle_in, of_lesser_number}

and-false : (b : Bool) → (b && false) ≡ false
and-false true = refl
and-false false = refl

-- an idle job is available
avail-by : (run evoke wish to_run : Bool) → (run && not evoke && not wish) ≡ true → (not wish && (to_run || (run && not evoke && not wish))) ≡ true
avail-by true false false true h = refl
avail-by true false false false h = refl
avail-by true false true to_run h = absurd (cc h)
avail-by true true wish to_run h = absurd (cc h)
avail-by false evoke wish to_run h = absurd (cc h)

idle-available : (j : Job) → law.is_idle j ≡ true → law.is_available j ≡ true
idle-available j h = avail-by (law.is_running j.phase) j.evoke (has_wish j.wish) (law.is_to_run j.phase) h

-- a job that isn't active is neither
none-by : (evoke wish : Bool) → (not wish && (false || (false && not evoke && not wish))) ≡ false
none-by evoke true = refl
none-by evoke false = refl

not-available : (j : Job) (p : Phase) → j.phase ≡ p → is_active p ≡ false → law.is_available j ≡ false
not-available j Waiting e h = ap (λ p. not (has_wish j.wish) && (law.is_to_run p || (law.is_running p && not j.evoke && not (has_wish j.wish)))) e ∙ none-by j.evoke (has_wish j.wish)
not-available j (Ended c) e h = ap (λ p. not (has_wish j.wish) && (law.is_to_run p || (law.is_running p && not j.evoke && not (has_wish j.wish)))) e ∙ none-by j.evoke (has_wish j.wish)
not-available j Starting e h = absurd (cc h)
not-available j (Handed m) e h = absurd (cc h)
not-available j (Running m) e h = absurd (cc h)

not-idle : (j : Job) (p : Phase) → j.phase ≡ p → is_active p ≡ false → law.is_idle j ≡ false
not-idle j Waiting e h = ap (λ p. law.is_running p && not j.evoke && not (has_wish j.wish)) e
not-idle j (Ended c) e h = ap (λ p. law.is_running p && not j.evoke && not (has_wish j.wish)) e
not-idle j Starting e h = absurd (cc h)
not-idle j (Handed m) e h = absurd (cc h)
not-idle j (Running m) e h = absurd (cc h)

ready-available : (idle avail : Bool) → (idle ≡ true → avail ≡ true) → is_available (cond idle Idle (cond avail Coming Taken)) ≡ avail
ready-available true avail h = sym (h refl)
ready-available false true h = refl
ready-available false false h = refl

ready-idle : (idle avail : Bool) → is_idle (cond idle Idle (cond avail Coming Taken)) ≡ idle
ready-idle true avail = refl
ready-idle false true = refl
ready-idle false false = refl

module _ (sbs pgm : QName) where
  abbrev entry : PrestartEntry
  entry = entry_of sbs pgm

  abbrev from : How → Bool
  from how = is_from_pre sbs pgm how

  abbrev count : List (ℕ × PrestartJob) → ℕ
  count rows = available entry rows

  count-how : (j : Job) (how : How) (rows : List (ℕ × PrestartJob)) → count (cons_option (row_by j how) rows) ≡ cond (from how && law.is_available j) 1 0 + count rows
  count-how j NotYet rows = omega arith
  count-how j (FromQueue q queue pty route) rows = omega arith
  count-how j (Auto q route) rows = omega arith
  count-how j (Pre q program) rows =
      sum_by-cons (λ x. cond (is_available_in entry x) 1 0) (j.serial, record { entry = entry_of q program; number = j.job.number; readiness = cond (law.is_idle j) Idle (cond (law.is_available j) Coming Taken) }) rows ∙ ap (λ b. cond (from (Pre q program) && b) 1 0 + count rows) (ready-available (law.is_idle j) (law.is_available j) (idle-available j))

  count-by : (b : Bool) (j : Job) (rows : List (ℕ × PrestartJob)) → is_active j.phase ≡ b → count (cons_option (cond b (row_by j j.how) None) rows) ≡ cond (law.is_available_in sbs pgm j) 1 0 + count rows
  count-by true j rows e = count-how j j.how rows
  count-by false j rows e =
      let none : cond (law.is_available_in sbs pgm j) 1 0 ≡ 0 = ap (λ b. cond (from j.how && b) 1 0) (not-available j j.phase refl e) ∙ ap (λ b. cond {A = ℕ} b 1 0) (and-false (from j.how)) in
      omega (arith, none)

  counted : (jobs : List Job) → count (prestart_jobs jobs) ≡ law.count_available sbs pgm jobs
  counted [] = refl
  counted (j ∷ jobs) =
      count-by (is_active j.phase) j (prestart_jobs jobs) refl ∙ (ap (λ n. cond (law.is_available_in sbs pgm j) 1 0 + n) (counted jobs) ∙ sym (sum_by-cons (λ k. cond (law.is_available_in sbs pgm k) 1 0) j jobs))

  abbrev serial_in : Option Job → Option ℕ
  serial_in o = option_map (λ j. j.serial) o

  -- by which a job is known
  abbrev tag : ℕ × PrestartJob → ℕ × ℕ
  tag x = (x.0, x.1.number)

  abbrev tag_of : Job → ℕ × ℕ
  tag_of j = (j.serial, j.job.number)

  abbrev Same : Option (ℕ × PrestartJob) → Option Job → Type 0
  Same a o = option_map tag a ≡ option_map tag_of o

  -- what is found among these from the same on is the same
  abbrev Agree : List (ℕ × PrestartJob) → List Job → Type 0
  Agree rows more = (a : Option (ℕ × PrestartJob)) (o : Option Job) → Same a o → option_map key_of (fold of_lesser_number a rows) ≡ serial_in (fold law.of_lesser_number o more)

  step-by : (b : Bool) (y x : ℕ × PrestartJob) (i j : Job) → tag y ≡ tag_of i → tag x ≡ tag_of j → Same (cond b (Some x) (Some y)) (cond b (Some j) (Some i))
  step-by true y x i j e f = ap Some f
  step-by false y x i j e f = ap Some e

  step : (a : Option (ℕ × PrestartJob)) (o : Option Job) (x : ℕ × PrestartJob) (j : Job) → Same a o → tag x ≡ tag_of j → Same (of_lesser_number a x) (law.of_lesser_number o j)
  step None None x j same f = ap Some f
  step (Some y) None x j same f = absurd (cc same)
  step None (Some i) x j same f = absurd (cc same)
  step (Some y) (Some i) x j same f =
      let e : tag y ≡ tag_of i = cc same in
      let less : nat_lt x.1.number y.1.number ≡ nat_lt j.job.number i.job.number = ap (λ (t : ℕ × ℕ). nat_lt t.1 y.1.number) f ∙ ap (λ (t : ℕ × ℕ). nat_lt j.job.number t.1) e in
      step-by (nat_lt x.1.number y.1.number) y x i j e f ∙ ap (λ b. option_map tag_of (cond b (Some j) (Some i))) less

  hit : (b : Bool) (x : ℕ × PrestartJob) (j : Job) (rows : List (ℕ × PrestartJob)) (more : List Job) → tag x ≡ tag_of j → Agree rows more → Agree (cond b (x ∷ rows) rows) (cond b (j ∷ more) more)
  hit true x j rows more e rest = λ a o same. rest (of_lesser_number a x) (law.of_lesser_number o j) (step a o x j same e)
  hit false x j rows more e rest = rest

  abbrev idle : List (ℕ × PrestartJob) → List (ℕ × PrestartJob)
  idle rows = filter (is_idle_in entry) rows

  find-how : (j : Job) (how : How) (rows : List (ℕ × PrestartJob)) (more : List Job) → Agree (idle rows) more → Agree (idle (cons_option (row_by j how) rows)) (cond (from how && law.is_idle j) (j ∷ more) more)
  find-how j NotYet rows more rest = rest
  find-how j (FromQueue q queue pty route) rows more rest = rest
  find-how j (Auto q route) rows more rest = rest
  find-how j (Pre q program) rows more rest =
      let x : ℕ × PrestartJob = (j.serial, record { entry = entry_of q program; number = j.job.number; readiness = cond (law.is_idle j) Idle (cond (law.is_available j) Coming Taken) }) in
      subst (λ b. Agree (idle (cons_option (row_by j (Pre q program)) rows)) (cond (from (Pre q program) && b) (j ∷ more) more)) (ready-idle (law.is_idle j) (law.is_available j))
      (hit (from (Pre q program) && is_idle (cond (law.is_idle j) Idle (cond (law.is_available j) Coming Taken))) x j (idle rows) more refl rest)

  find-by : (b : Bool) (j : Job) (rows : List (ℕ × PrestartJob)) (more : List Job) → is_active j.phase ≡ b → Agree (idle rows) more → Agree (idle (cons_option (cond b (row_by j j.how) None) rows)) (cond (law.is_idle_in sbs pgm j) (j ∷ more) more)
  find-by true j rows more e rest = find-how j j.how rows more rest
  find-by false j rows more e rest =
      subst (λ b. Agree (idle rows) (cond b (j ∷ more) more)) (sym (ap (λ b. from j.how && b) (not-idle j j.phase refl e) ∙ and-false (from j.how))) rest

  found-from : (jobs : List Job) → Agree (idle (prestart_jobs jobs)) (filter (law.is_idle_in sbs pgm) jobs)
  found-from [] = none
    where
      none : Agree [] []
      none None None same = refl
      none (Some y) None same = absurd (cc same)
      none None (Some i) same = absurd (cc same)
      none (Some y) (Some i) same = ap (λ (t : Option (ℕ × ℕ)). option_map (λ t. t.0) t) same
  found-from (j ∷ jobs) = find-by (is_active j.phase) j (prestart_jobs jobs) (filter (law.is_idle_in sbs pgm) jobs) refl (found-from jobs)

pub available_are_counted : AvailableAreCounted
available_are_counted sbs pgm jobs = counted sbs pgm jobs

pub first_idle_is_found : FirstIdleIsFound
first_idle_is_found sbs pgm jobs = found-from sbs pgm jobs None None refl
