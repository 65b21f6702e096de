-- What wishes, ending subsystems and the power do to a state, and what settling's first part does.
use Rattle.std.proofs.Common.{◌≡◌, ◌⊎◌, ℕ, ◌≤◌, ◌+◌, ◌==◌, ◌&&◌, not, Bool, true, false, cond, List, map, Option, Some, None, refl, sym, ap, subst, ◌∙◌, inl, inr, arith}
use Rattle.std.specs.Option.{option_map}
use Rattle.std.proofs.Math.Nat.{min-le_right}
use Rattle.std.proofs.lemmas.Bool.{not-true, and_parts, eqb-true}
use Rattle.wm_base.specs.declared.job.EndCause.{EndCause}
use Rattle.wm_law.specs.declared.command.EndOption.{EndOption}
use Rattle.wm_law.specs.declared.command.EndOption.TheVariants.{Cntrld, Immed}
use Rattle.wm_law.specs.declared.job.Job.{Job}
use Rattle.wm_law.specs.declared.job.Phase.{Phase}
use Rattle.wm_law.specs.declared.job.Phase.TheVariants.{Waiting, Starting, Handed, Running, Ended}
use Rattle.wm_law.specs.declared.job.Why.{Why}
use Rattle.wm_law.specs.declared.job.Why.TheVariants as why
use Rattle.wm_law.specs.declared.job.Wish.{Wish}
use Rattle.wm_law.specs.declared.job.Wish.TheVariants as wish
use Rattle.wm_law.specs.declared.state.Evoke.{Evoke}
use Rattle.wm_law.specs.declared.state.Power.{Power}
use Rattle.wm_law.specs.declared.state.Sbs.{Sbs}
use Rattle.wm_law.specs.declared.state.SbsPhase.{SbsPhase}
use Rattle.wm_law.specs.declared.state.SbsPhase.TheVariants as sbs_phase
use Rattle.wm_law.specs.declared.state.State.{State}
use Rattle.wm_law.specs.Choice.{is_sbs_active}
use Rattle.wm_law.specs.Counts.{is_active, is_prestart, is_starting, is_waiting, is_from_pre}
use Rattle.wm_law.specs.Endings.{end_phase, is_ending_by, is_left_to_use, is_wished, job_wish, phased, told}
use Rattle.wm_law.specs.Jobs.{active_at}
use Rattle.wm_law.specs.Kept.{IsNumbered, IsWishOn, wish_rank}
use Rattle.wm_law.specs.Laws.{IsIn}
use Rattle.wm_law.specs.Prestart.{with_evoke, after_use, wish_after_use, is_by_pre, is_idle, is_idle_in, is_running}
use Rattle.wm_law.specs.Reports.{with_kill}
use Rattle.wm_law.specs.Settling.{ended_by, is_sbs_now, job_at, sbs_at, sbs_moment, sbs_phase_at, sbss_at, unless_started, with_deadline}
use Rattle.wm_law.specs.Sound.{IsMoment}
use Rattle.wm_law.specs.Wishes.{deadline, greatest_moment, handed_wish, has_come, has_wish, is_due, is_in_any, is_now, is_to_end, moment_after, now_cause, told_now, why_cause, wish_at, wish_moment, with_wish}
use Rattle.wm_law.proofs.Distinct.{one_by_key}
use Rattle.wm_law.proofs.Members.{in_mapped, map_same, of_mapped}
use Rattle.wm_law.specs.declared.state.Stop.{Stop}
use Rattle.wm_base.specs.declared.limit.Limit.{Limit}
use Rattle.wm_base.specs.declared.qname.QName.{QName}
use Rattle.wm_base.specs.Limit.{is_below}
use Rattle.wm_law.specs.Prestarting.{is_of_entry, prestart_wish, told_with_entry}
use Rattle.wm_law.specs.Uses.{maxuse_by}
use Rattle.wm_law.proofs.FirstIdle.{by-entry}

-- a phase stays, or is that of a Starting job which the why of a wish ended
abbrev pub IsPhaseAfter : Phase → Phase → Type 0
IsPhaseAfter p q = (q ≡ p) ⊎ ((p ≡ Starting) × ((w : Why) × (q ≡ Ended (why_cause w))))

-- a change of phase, wish and use alone: a job that isn't active stays as it was, one that is Starting may end, and does so by its wish, and a wish's moment is in its range
pub record IsWishing (change : Job → Job) : Type 0 where
  pub same : (j : Job) → change j ≡ record j { phase = (change j).phase; wish = (change j).wish; uses = (change j).uses; evoke = (change j).evoke }
  pub phase : (j : Job) → IsPhaseAfter j.phase (change j).phase
  pub idle : (j : Job) → is_active j.phase ≡ false → change j ≡ j
  pub moment : (j : Job) → IsMoment (wish_moment j.wish) → IsMoment (wish_moment (change j).wish)
  pub why : (j : Job) (d : EndCause) → is_active j.phase ≡ true → (change j).phase ≡ Ended d → now_cause (change j).wish ≡ Some d

-- a subsystem as another one was, which is Active only if that one was, and whose moment is in its range
pub record IsEnded (a b : Sbs) : Type 0 where
  pub named : b.sbsd ≡ a.sbsd
  pub active : is_sbs_active b.phase ≡ true → is_sbs_active a.phase ≡ true
  pub moment : IsMoment (sbs_moment a.phase) → IsMoment (sbs_moment b.phase)

-- the started subsystems are as they were, in their order, some of them ending
pub record AreEnded (old new : List Sbs) : Type 0 where
  pub names : map (λ b. b.sbsd) new ≡ map (λ b. b.sbsd) old
  pub before : (b : Sbs) → IsIn b new → (a : Sbs) × IsIn a old × IsEnded a b
  pub after : (a : Sbs) → IsIn a old → (b : Sbs) × IsIn b new × IsEnded a b

-- a use and a request stay
pub record KeepsUse (j k : Job) : Type 0 where
  pub uses : k.uses ≡ j.uses
  pub evoke : k.evoke ≡ j.evoke

-- an idle job that came by a prestart entry gets a request
pub record GetsRequest (j k : Job) : Type 0 where
  pub by_pre : is_by_pre j.how ≡ true
  pub idle : is_idle j ≡ true
  pub with_request : k ≡ with_evoke j

-- a job that runs is done with its request
pub record IsDone (s : State) (j k : Job) : Type 0 where
  pub running : is_running j.phase ≡ true
  pub evoke : j.evoke ≡ true
  pub after : k ≡ after_use (maxuse_by s j.how) j

-- what becomes of a job's use
abbrev pub IsUseOn : State → Job → Job → Type 0
IsUseOn s j k = KeepsUse j k ⊎ (GetsRequest j k ⊎ IsDone s j k)

-- the jobs are wished to end and the subsystems end; in a numbered state no wish goes back, and a use stays, begins or is done; and the power stays, or none of these is Active
pub record IsEnding (s : State) (change : Job → Job) (started : List Sbs) (power : Power) : Type 0 where
  pub jobs : IsWishing change
  pub subsystems : AreEnded s.started started
  pub onward : IsNumbered s → (j : Job) → IsIn j s.jobs → IsWishOn j.wish (change j).wish
  pub used : IsNumbered s → (j : Job) → IsIn j s.jobs → IsUseOn s j (change j)
  pub quiet : (power ≡ s.power) ⊎ ((b : Sbs) → IsIn b started → is_sbs_active b.phase ≡ false)

-- the state in which they do
abbrev pub wished : State → (Job → Job) → List Sbs → List Stop → List Evoke → Power → State
wished s change started stopped evokes power = record s { jobs = map change s.jobs; started = started; stopped = stopped; evokes = evokes; power = power }

none_active : (p : Phase) → is_active p ≡ false → p ≡ Starting → ⊥
none_active p n e =
    let yes : is_active p ≡ true = ap is_active e in
    absurd (cc)

pub unended : (p : Phase) (d : EndCause) → is_active p ≡ true → p ≡ Ended d → ⊥
unended p d a e =
    let no : is_active p ≡ false = ap is_active e in
    absurd (cc)

-- a wish that is given to active jobs which pass a test
module _ (test : Job → Bool) (give : Job → Wish) (active : (j : Job) → test j ≡ true → is_active j.phase ≡ true) (moment : (j : Job) → IsMoment (wish_moment j.wish) → IsMoment (wish_moment (give j))) where
  abbrev given : Job → Job
  given j = cond (test j) (with_wish (give j) j) j

  given_same : (b : Bool) (w : Wish) (j : Job) → cond b (with_wish w j) j ≡ record j { phase = (cond b (with_wish w j) j).phase; wish = (cond b (with_wish w j) j).wish; uses = (cond b (with_wish w j) j).uses; evoke = (cond b (with_wish w j) j).evoke }
  given_same true w j = refl
  given_same false w j = refl

  given_phase : (b : Bool) (w : Wish) (j : Job) → (cond b (with_wish w j) j).phase ≡ j.phase
  given_phase true w j = refl
  given_phase false w j = refl

  given_idle : (b : Bool) (w : Wish) (j : Job) → test j ≡ b → is_active j.phase ≡ false → cond b (with_wish w j) j ≡ j
  given_idle true w j e n = let yes = active j e in absurd (cc)
  given_idle false w j e n = refl

  given_moment : (b : Bool) (j : Job) → IsMoment (wish_moment j.wish) → IsMoment (wish_moment (cond b (with_wish (give j) j) j).wish)
  given_moment true j h = moment j h
  given_moment false j h = h

  giving : IsWishing given
  giving = record {
    same = λ j. given_same (test j) (give j) j;
    phase = λ j. inl (given_phase (test j) (give j) j);
    idle = λ j n. given_idle (test j) (give j) j refl n;
    moment = λ j h. given_moment (test j) j h;
    why = λ j d a e. absurd (unended j.phase d a (sym (given_phase (test j) (give j) j) ∙ e));
  }

-- a request that a job gets
module _ (serial : ℕ) where
  used_same : (b : Bool) (j : Job) → cond b (with_evoke j) j ≡ record j { phase = (cond b (with_evoke j) j).phase; wish = (cond b (with_evoke j) j).wish; uses = (cond b (with_evoke j) j).uses; evoke = (cond b (with_evoke j) j).evoke }
  used_same true j = refl
  used_same false j = refl

  used_phase : (b : Bool) (j : Job) → (cond b (with_evoke j) j).phase ≡ j.phase
  used_phase true j = refl
  used_phase false j = refl

  pub used_wish : (b : Bool) (j : Job) → (cond b (with_evoke j) j).wish ≡ j.wish
  used_wish true j = refl
  used_wish false j = refl

  used_idle : (b : Bool) (j : Job) → (is_active j.phase && j.serial == serial) ≡ b → is_active j.phase ≡ false → cond b (with_evoke j) j ≡ j
  used_idle true j e n = let yes = (and_parts (is_active j.phase) (j.serial == serial) e).0 in absurd (cc)
  used_idle false j e n = refl

  pub using : IsWishing (active_at serial with_evoke)
  using = record {
    same = λ j. used_same (is_active j.phase && j.serial == serial) j;
    phase = λ j. inl (used_phase (is_active j.phase && j.serial == serial) j);
    idle = λ j n. used_idle (is_active j.phase && j.serial == serial) j refl n;
    moment = λ j h. subst (λ (w : Wish). IsMoment (wish_moment w)) (sym (used_wish (is_active j.phase && j.serial == serial) j)) h;
    why = λ j d a e. absurd (unended j.phase d a (sym (used_phase (is_active j.phase && j.serial == serial) j) ∙ e));
  }

-- one change behind another
phase_twice : (p q r : Phase) → IsPhaseAfter p q → IsPhaseAfter q r → IsPhaseAfter p r
phase_twice p q r (inl e) (inl f) = inl (f ∙ e)
phase_twice p q r (inl e) (inr f) = inr (sym e ∙ f.0, (f.1.0, f.1.1))
phase_twice p q r (inr e) (inl f) = inr (e.0, (e.1.0, f ∙ e.1.1))
phase_twice p q r (inr e) (inr f) =
    let no : is_starting (Ended (why_cause e.1.0)) ≡ true = ap is_starting (sym e.1.1 ∙ f.0) in
    absurd (cc)

why_twice : (f g : Job → Job) → IsWishing f → IsWishing g → (j : Job) (d : EndCause) (b : Bool) → is_active (f j).phase ≡ b → is_active j.phase ≡ true → (g (f j)).phase ≡ Ended d → now_cause (g (f j)).wish ≡ Some d
why_twice f g h k j d true n a e = k.why (f j) d n e
why_twice f g h k j d false n a e =
    let same = k.idle (f j) n in
    ap (λ (x : Job). now_cause x.wish) same ∙ h.why j d a (ap (λ (x : Job). x.phase) (sym same) ∙ e)

wishing_twice : (f g : Job → Job) → IsWishing f → IsWishing g → IsWishing (λ j. g (f j))
wishing_twice f g h k = record {
  same = λ j. k.same (f j) ∙ ap (λ (x : Job). record x { phase = (g (f j)).phase; wish = (g (f j)).wish; uses = (g (f j)).uses; evoke = (g (f j)).evoke }) (h.same j);
  phase = λ j. phase_twice j.phase (f j).phase (g (f j)).phase (h.phase j) (k.phase (f j));
  idle = λ j n. k.idle (f j) (ap (λ (x : Job). is_active x.phase) (h.idle j n) ∙ n) ∙ h.idle j n;
  moment = λ j m. k.moment (f j) (h.moment j m);
  why = λ j d a e. why_twice f g h k j d (is_active (f j).phase) refl a e;
}

-- a job that is told to end with its subsystem
pub telling_now : (test : Sbs → Bool) (started : List Sbs) → IsWishing (told_now test started)
telling_now test started =
    giving (is_to_end test started) (λ j. wish.Now why.Endsbs false)
    (λ j e. (and_parts (is_active j.phase) (not (is_now j.wish)) (and_parts (is_active j.phase && not (is_now j.wish)) (is_in_any test started j.how) e).0).0)
    (λ j h. tt)

telling_later : (test : Sbs → Bool) (started : List Sbs) → IsWishing (told Cntrld test started)
telling_later test started =
    giving (is_left_to_use test started) (λ j. wish.Later None why.Endsbs)
    (λ j e. (and_parts (is_active j.phase) (is_prestart j.kind) (and_parts (is_active j.phase && is_prestart j.kind) (not (has_wish j.wish)) (and_parts (is_active j.phase && is_prestart j.kind && not (has_wish j.wish)) (is_in_any test started j.how) e).0).0).0)
    (λ j h. tt)

pub telling : (option : EndOption) (test : Sbs → Bool) (started : List Sbs) → IsWishing (told option test started)
telling Cntrld test started = telling_later test started
telling Immed test started = telling_now test started

after_within : (clock delay : ℕ) → moment_after clock delay ≤ greatest_moment
after_within clock delay = min-le_right (clock + delay) greatest_moment

job_moment : (clock : ℕ) (option : EndOption) (delay : ℕ) → IsMoment (wish_moment (job_wish clock option delay))
job_moment clock Cntrld delay = after_within clock delay
job_moment clock Immed delay = tt

-- ENDJOB on an active job
pub wishing_job : (serial clock : ℕ) (option : EndOption) (delay : ℕ) → IsWishing (active_at serial (with_wish (job_wish clock option delay)))
wishing_job serial clock option delay =
    giving (λ j. is_active j.phase && j.serial == serial) (λ j. job_wish clock option delay)
    (λ j e. (and_parts (is_active j.phase) (j.serial == serial) e).0)
    (λ j h. job_moment clock option delay)

kill_moment : (w : Wish) → IsMoment (wish_moment w) → IsMoment (wish_moment (handed_wish w))
kill_moment wish.NoWish h = h
kill_moment (wish.Later until why) h = h
kill_moment (wish.Now why handed) h = h

-- a kill that is handed
pub wishing_kill : (serial : ℕ) → IsWishing (active_at serial with_kill)
wishing_kill serial =
    giving (λ j. is_active j.phase && j.serial == serial) (λ j. handed_wish j.wish)
    (λ j e. (and_parts (is_active j.phase) (j.serial == serial) e).0)
    (λ j h. kill_moment j.wish h)

later_moment : (b : Bool) (until : Option ℕ) (w : Why) → IsMoment until → IsMoment (wish_moment (cond b (wish.Now w false) (wish.Later until w)))
later_moment true until w h = tt
later_moment false until w h = h

deadline_moment : (clock : ℕ) (j : Job) (w : Wish) → IsMoment (wish_moment w) → IsMoment (wish_moment (wish_at clock j w))
deadline_moment clock j wish.NoWish h = h
deadline_moment clock j (wish.Later until why) h = later_moment (is_due clock j until) until why h
deadline_moment clock j (wish.Now why handed) h = h

-- a wish that is looked at
pub looking : (clock : ℕ) → IsWishing (with_deadline clock)
looking clock = giving (λ j. is_active j.phase) (deadline clock) (λ j e. e) (λ j h. deadline_moment clock j j.wish h)

pub starting_phase : (p : Phase) → is_starting p ≡ true → p ≡ Starting
starting_phase Waiting h = absurd (cc)
starting_phase Starting h = refl
starting_phase (Handed m) h = absurd (cc)
starting_phase (Running m) h = absurd (cc)
starting_phase (Ended c) h = absurd (cc)

unstarted_same : (b : Bool) (o : Option EndCause) (j : Job) → cond b (ended_by o j) j ≡ record j { phase = (cond b (ended_by o j) j).phase; wish = (cond b (ended_by o j) j).wish; uses = (cond b (ended_by o j) j).uses; evoke = (cond b (ended_by o j) j).evoke }
unstarted_same true None j = refl
unstarted_same true (Some c) j = refl
unstarted_same false o j = refl

pub unstarted_wish : (b : Bool) (o : Option EndCause) (j : Job) → (cond b (ended_by o j) j).wish ≡ j.wish
unstarted_wish true None j = refl
unstarted_wish true (Some c) j = refl
unstarted_wish false o j = refl

ended_phase : (w : Wish) (j : Job) → j.phase ≡ Starting → IsPhaseAfter j.phase (ended_by (now_cause w) j).phase
ended_phase wish.NoWish j e = inl refl
ended_phase (wish.Later until why) j e = inl refl
ended_phase (wish.Now why handed) j e = inr (e, (why, refl))

unstarted_phase : (b : Bool) (j : Job) → is_starting j.phase ≡ b → IsPhaseAfter j.phase (cond b (ended_by (now_cause j.wish) j) j).phase
unstarted_phase true j e = ended_phase j.wish j (starting_phase j.phase e)
unstarted_phase false j e = inl refl

unstarted_idle : (b : Bool) (j : Job) → is_starting j.phase ≡ b → is_active j.phase ≡ false → cond b (ended_by (now_cause j.wish) j) j ≡ j
unstarted_idle true j e n = absurd (none_active j.phase n (starting_phase j.phase e))
unstarted_idle false j e n = refl

ended_why : (o : Option EndCause) (j : Job) (d : EndCause) → is_active j.phase ≡ true → (ended_by o j).phase ≡ Ended d → o ≡ Some d
ended_why None j d a e = absurd (unended j.phase d a e)
ended_why (Some c) j d a e = cc

unstarted_why : (b : Bool) (j : Job) (d : EndCause) → is_active j.phase ≡ true → (cond b (ended_by (now_cause j.wish) j) j).phase ≡ Ended d → now_cause j.wish ≡ Some d
unstarted_why true j d a e = ended_why (now_cause j.wish) j d a e
unstarted_why false j d a e = absurd (unended j.phase d a e)

-- a Starting job that a Now wish ends
pub ending_starting : IsWishing unless_started
ending_starting = record {
  same = λ j. unstarted_same (is_starting j.phase) (now_cause j.wish) j;
  phase = λ j. unstarted_phase (is_starting j.phase) j refl;
  idle = λ j n. unstarted_idle (is_starting j.phase) j refl n;
  moment = λ j h. subst (λ (w : Wish). IsMoment (wish_moment w)) (sym (unstarted_wish (is_starting j.phase) (now_cause j.wish) j)) h;
  why = λ j d a e. ap now_cause (unstarted_wish (is_starting j.phase) (now_cause j.wish) j) ∙ unstarted_why (is_starting j.phase) j d a e;
}

-- settling's first part for a job
pub wishing_at : (clock : ℕ) (started : List Sbs) → IsWishing (job_at clock started)
wishing_at clock started =
    wishing_twice (λ j. with_deadline clock (told_now (λ b. is_sbs_now b.phase) started j)) unless_started
    (wishing_twice (told_now (λ b. is_sbs_now b.phase) started) (with_deadline clock) (telling_now (λ b. is_sbs_now b.phase) started) (looking clock))
    ending_starting

-- no such change takes a wish back
pub on_same : (w v : Wish) → v ≡ w → IsWishOn w v
on_same w v e = record {
  rank = (let same : wish_rank v ≡ wish_rank w = ap wish_rank e in omega arith);
  cause = λ c h. ap now_cause e ∙ h;
}

pub on_still : (u w v : Wish) → IsWishOn u w → IsWishOn w v → IsWishOn u v
on_still u w v h k = record {
  rank = (
      let a = h.rank in
      let b = k.rank in
      omega arith);
  cause = λ c e. k.cause c (h.cause c e);
}

-- a wish that isn't to end now becomes one that is
on_now : (w : Wish) (y : Why) → is_now w ≡ false → IsWishOn w (wish.Now y false)
on_now wish.NoWish y n = record { rank = omega arith; cause = λ c e. absurd (cc) }
on_now (wish.Later until why) y n = record { rank = omega arith; cause = λ c e. absurd (cc) }
on_now (wish.Now why handed) y n = absurd (cc)

-- and where there is none, any may come
on_later : (w : Wish) (until : Option ℕ) (y : Why) → has_wish w ≡ false → IsWishOn w (wish.Later until y)
on_later wish.NoWish until y n = record { rank = omega arith; cause = λ c e. absurd (cc) }
on_later (wish.Later until why) u y n = absurd (cc)
on_later (wish.Now why handed) u y n = absurd (cc)

on_handed : (w : Wish) → IsWishOn w (handed_wish w)
on_handed wish.NoWish = on_same wish.NoWish wish.NoWish refl
on_handed (wish.Later until why) = on_same (wish.Later until why) (wish.Later until why) refl
on_handed (wish.Now why true) = on_same (wish.Now why true) (wish.Now why true) refl
on_handed (wish.Now why false) = record { rank = omega arith; cause = λ c e. e }

on_kill : (j : Job) (b : Bool) → IsWishOn j.wish (cond b (with_kill j) j).wish
on_kill j true = on_handed j.wish
on_kill j false = on_same j.wish j.wish refl

on_told_now : (test : Sbs → Bool) (started : List Sbs) (j : Job) (b : Bool) → is_to_end test started j ≡ b → IsWishOn j.wish (cond b (with_wish (wish.Now why.Endsbs false) j) j).wish
on_told_now test started j true e =
    on_now j.wish why.Endsbs (not-true (is_now j.wish) (and_parts (is_active j.phase) (not (is_now j.wish)) (and_parts (is_active j.phase && not (is_now j.wish)) (is_in_any test started j.how) e).0).1)
on_told_now test started j false e = on_same j.wish j.wish refl

on_told_later : (test : Sbs → Bool) (started : List Sbs) (j : Job) (b : Bool) → is_left_to_use test started j ≡ b → IsWishOn j.wish (cond b (with_wish (wish.Later None why.Endsbs) j) j).wish
on_told_later test started j true e =
    on_later j.wish None why.Endsbs (not-true (has_wish j.wish) (and_parts (is_active j.phase && is_prestart j.kind) (not (has_wish j.wish)) (and_parts (is_active j.phase && is_prestart j.kind && not (has_wish j.wish)) (is_in_any test started j.how) e).0).1)
on_told_later test started j false e = on_same j.wish j.wish refl

on_told : (option : EndOption) (test : Sbs → Bool) (started : List Sbs) (j : Job) → IsWishOn j.wish (told option test started j).wish
on_told Cntrld test started j = on_told_later test started j (is_left_to_use test started j) refl
on_told Immed test started j = on_told_now test started j (is_to_end test started j) refl

on_come : (until : Option ℕ) (y : Why) (b : Bool) → IsWishOn (wish.Later until y) (cond b (wish.Now y false) (wish.Later until y))
on_come until y true = on_now (wish.Later until y) y refl
on_come until y false = on_same (wish.Later until y) (wish.Later until y) refl

on_looked : (clock : ℕ) (j : Job) (w : Wish) → IsWishOn w (wish_at clock j w)
on_looked clock j wish.NoWish = on_same wish.NoWish wish.NoWish refl
on_looked clock j (wish.Later until why) = on_come until why (is_due clock j until)
on_looked clock j (wish.Now why handed) = on_same (wish.Now why handed) (wish.Now why handed) refl

on_deadline : (clock : ℕ) (j : Job) (b : Bool) → IsWishOn j.wish (cond b (with_wish (deadline clock j) j) j).wish
on_deadline clock j true = on_looked clock j j.wish
on_deadline clock j false = on_same j.wish j.wish refl

on_at : (clock : ℕ) (started : List Sbs) (j : Job) → IsWishOn j.wish (job_at clock started j).wish
on_at clock started j =
    let first = told_now (λ b. is_sbs_now b.phase) started j in
    let second = with_deadline clock first in
    let third = unless_started second in
    on_still j.wish second.wish third.wish
    (on_still j.wish first.wish second.wish (on_told_now (λ b. is_sbs_now b.phase) started j (is_to_end (λ b. is_sbs_now b.phase) started j) refl) (on_deadline clock first (is_active first.phase)))
    (on_same second.wish third.wish (unstarted_wish (is_starting second.phase) (now_cause second.wish) second))

on_option : (clock : ℕ) (option : EndOption) (delay : ℕ) (w : Wish) → is_wished option w ≡ false → IsWishOn w (job_wish clock option delay)
on_option clock Cntrld delay w e = on_later w (Some (moment_after clock delay)) why.Endjob e
on_option clock Immed delay w e = on_now w why.Endjob e

on_job_by : (s : State) (j : Job) (option : EndOption) (delay : ℕ) → IsIn j s.jobs → is_wished option j.wish ≡ false → IsNumbered s → (i : Job) (b : Bool) → (is_active i.phase && i.serial == j.serial) ≡ b → IsIn i s.jobs → IsWishOn i.wish (cond b (with_wish (job_wish s.clock option delay) i) i).wish
on_job_by s j option delay m e n i true f k =
    let serial = eqb-true i.serial j.serial (and_parts (is_active i.phase) (i.serial == j.serial) f).1 in
    let same : i ≡ j = one_by_key (λ (x : Job). x.serial) s.jobs n.serials.distinct i j k m serial in
    on_option s.clock option delay i.wish (ap (λ (x : Job). is_wished option x.wish) same ∙ e)
on_job_by s j option delay m e n i false f k = on_same i.wish i.wish refl

on_job : (s : State) (j : Job) (option : EndOption) (delay : ℕ) → IsIn j s.jobs → is_wished option j.wish ≡ false → IsNumbered s → (i : Job) → IsIn i s.jobs → IsWishOn i.wish (active_at j.serial (with_wish (job_wish s.clock option delay)) i).wish
on_job s j option delay m e n i k = on_job_by s j option delay m e n i (is_active i.phase && i.serial == j.serial) refl k

-- no subsystem changes
pub none_ended : (bs : List Sbs) → AreEnded bs bs
none_ended bs = record {
  names = refl;
  before = λ b i. (b, i, record { named = refl; active = λ e. e; moment = λ h. h });
  after = λ b i. (b, i, record { named = refl; active = λ e. e; moment = λ h. h });
}

-- each is as it was, or ending
ended_each : (end : Sbs → Sbs) → ((b : Sbs) → IsEnded b (end b)) → (bs : List Sbs) → AreEnded bs (map end bs)
ended_each end h bs = record {
  names = map_same (λ (b : Sbs). b.sbsd) end (λ b. (h b).named) bs;
  before = λ b i. (let m = of_mapped end bs b i in (m.0, m.1, subst (IsEnded m.0) (sym m.2) (h m.0)));
  after = λ a i. (end a, in_mapped end bs a i, h a);
}

come_active : (b : Bool) (until : Option ℕ) → is_sbs_active (cond b sbs_phase.Now (sbs_phase.Ending until)) ≡ false
come_active true until = refl
come_active false until = refl

phase_active : (clock : ℕ) (p : SbsPhase) → is_sbs_active (sbs_phase_at clock p) ≡ true → is_sbs_active p ≡ true
phase_active clock sbs_phase.Active h = h
phase_active clock (sbs_phase.Ending until) h = let no = come_active (has_come clock until) until in absurd (cc)
phase_active clock sbs_phase.Now h = h

come_moment : (b : Bool) (until : Option ℕ) → IsMoment until → IsMoment (sbs_moment (cond b sbs_phase.Now (sbs_phase.Ending until)))
come_moment true until h = tt
come_moment false until h = h

phase_moment : (clock : ℕ) (p : SbsPhase) → IsMoment (sbs_moment p) → IsMoment (sbs_moment (sbs_phase_at clock p))
phase_moment clock sbs_phase.Active h = h
phase_moment clock (sbs_phase.Ending until) h = come_moment (has_come clock until) until h
phase_moment clock sbs_phase.Now h = h

-- settling's first part for the subsystems
pub ended_at : (s : State) → AreEnded s.started (sbss_at s)
ended_at s = ended_each (sbs_at s.clock) (λ b. record { named = refl; active = phase_active s.clock b.phase; moment = phase_moment s.clock b.phase }) s.started

-- a wish leaves a use
same_use : (j : Job) → KeepsUse j j
same_use j = record { uses = refl; evoke = refl }

wish_use : (b : Bool) (w : Wish) (j : Job) → KeepsUse j (cond b (with_wish w j) j)
wish_use true w j = record { uses = refl; evoke = refl }
wish_use false w j = same_use j

end_use : (o : Option EndCause) (j : Job) → KeepsUse j (ended_by o j)
end_use None j = same_use j
end_use (Some c) j = record { uses = refl; evoke = refl }

unstarted_use : (b : Bool) (o : Option EndCause) (j : Job) → KeepsUse j (cond b (ended_by o j) j)
unstarted_use true o j = end_use o j
unstarted_use false o j = same_use j

still_use : (i j k : Job) → KeepsUse i j → KeepsUse j k → KeepsUse i k
still_use i j k a b = record { uses = b.uses ∙ a.uses; evoke = b.evoke ∙ a.evoke }

use_at : (clock : ℕ) (started : List Sbs) (j : Job) → KeepsUse j (job_at clock started j)
use_at clock started j =
    let first = told_now (λ b. is_sbs_now b.phase) started j in
    let second = with_deadline clock first in
    let third = unless_started second in
    still_use j second third
    (still_use j first second (wish_use (is_to_end (λ b. is_sbs_now b.phase) started j) (wish.Now why.Endsbs false) j) (wish_use (is_active first.phase) (deadline clock first) first))
    (unstarted_use (is_starting second.phase) (now_cause second.wish) second)

told_use : (option : EndOption) (test : Sbs → Bool) (started : List Sbs) (j : Job) → KeepsUse j (told option test started j)
told_use Cntrld test started j = wish_use (is_left_to_use test started j) (wish.Later None why.Endsbs) j
told_use Immed test started j = wish_use (is_to_end test started j) (wish.Now why.Endsbs false) j

-- settling's first part ends what is due
pub coming_due : (s : State) → IsEnding s (job_at s.clock (sbss_at s)) (sbss_at s) s.power
coming_due s = record { jobs = wishing_at s.clock (sbss_at s); onward = λ n j i. on_at s.clock (sbss_at s) j; used = λ n j i. inl (use_at s.clock (sbss_at s) j); subsystems = ended_at s; quiet = inl refl }

end_active : (clock : ℕ) (option : EndOption) (delay : Option ℕ) → is_sbs_active (end_phase clock option delay) ≡ false
end_active clock Cntrld delay = refl
end_active clock Immed delay = refl

delay_moment : (clock : ℕ) (delay : Option ℕ) → IsMoment (option_map (moment_after clock) delay)
delay_moment clock None = tt
delay_moment clock (Some delay) = after_within clock delay

end_moment : (clock : ℕ) (option : EndOption) (delay : Option ℕ) → IsMoment (sbs_moment (end_phase clock option delay))
end_moment clock Cntrld delay = delay_moment clock delay
end_moment clock Immed delay = tt

phased_by : (t : Bool) (phase : SbsPhase) (b : Sbs) → is_sbs_active phase ≡ false → IsMoment (sbs_moment phase) → IsEnded b (cond t (record b { phase = phase }) b)
phased_by true phase b n m = record { named = refl; active = λ e. absurd (cc); moment = λ h. m }
phased_by false phase b n m = record { named = refl; active = λ e. e; moment = λ h. h }

-- the subsystems that pass a test end by an option
pub ended_by_option : (test : Sbs → Bool) (clock : ℕ) (option : EndOption) (delay : Option ℕ) (bs : List Sbs) → AreEnded bs (map (phased test (end_phase clock option delay)) bs)
ended_by_option test clock option delay bs =
    ended_each (phased test (end_phase clock option delay)) (λ b. phased_by (test b) (end_phase clock option delay) b (end_active clock option delay) (end_moment clock option delay)) bs

-- no subsystem that ends already is Active
idle_ended : (option : EndOption) (p : SbsPhase) → is_ending_by option p ≡ true → is_sbs_active p ≡ false
idle_ended Cntrld sbs_phase.Active h = absurd (cc)
idle_ended Cntrld (sbs_phase.Ending until) h = refl
idle_ended Cntrld sbs_phase.Now h = refl
idle_ended Immed sbs_phase.Active h = absurd (cc)
idle_ended Immed (sbs_phase.Ending until) h = refl
idle_ended Immed sbs_phase.Now h = refl

phased_idle : (option : EndOption) (clock : ℕ) (delay : Option ℕ) (t : Bool) (b : Sbs) → is_ending_by option b.phase ≡ t → is_sbs_active (cond (not t) (record b { phase = end_phase clock option delay }) b).phase ≡ false
phased_idle option clock delay true b e = idle_ended option b.phase e
phased_idle option clock delay false b e = end_active clock option delay

-- where all end that don't so already, none is Active
pub none_stays_active : (option : EndOption) (clock : ℕ) (delay : Option ℕ) (bs : List Sbs) (b : Sbs) → IsIn b (map (phased (λ x. not (is_ending_by option x.phase)) (end_phase clock option delay)) bs) → is_sbs_active b.phase ≡ false
none_stays_active option clock delay bs b i =
    let m = of_mapped (phased (λ x. not (is_ending_by option x.phase)) (end_phase clock option delay)) bs b i in
    ap (λ (x : Sbs). is_sbs_active x.phase) m.2 ∙ phased_idle option clock delay (is_ending_by option m.0.phase) m.0 refl

-- a job that is changed keeps all but its phase, its wish and its use
module _ (change : Job → Job) (h : IsWishing change) where
  -- a key of a job that neither phase nor wish nor use touches
  pub key_same : {A : Type 0} (key : Job → A) → ((j : Job) (p : Phase) (w : Wish) (u : ℕ) (e : Bool) → key (record j { phase = p; wish = w; uses = u; evoke = e }) ≡ key j) → (j : Job) → key (change j) ≡ key j
  key_same key free j = ap key (h.same j) ∙ free j (change j).phase (change j).wish (change j).uses (change j).evoke

  pub keys_same : {A : Type 0} (key : Job → A) → ((j : Job) (p : Phase) (w : Wish) (u : ℕ) (e : Bool) → key (record j { phase = p; wish = w; uses = u; evoke = e }) ≡ key j) → (jobs : List Job) → map key (map change jobs) ≡ map key jobs
  keys_same key free jobs = map_same key change (key_same key free) jobs

-- what is Starting was so
pub was_starting : (p q : Phase) → IsPhaseAfter p q → q ≡ Starting → p ≡ Starting
was_starting p q (inl e) f = sym e ∙ f
was_starting p q (inr e) f = e.0

-- what is active was so
pub was_active : (p q : Phase) → IsPhaseAfter p q → is_active q ≡ true → is_active p ≡ true
was_active p q (inl e) f = ap is_active (sym e) ∙ f
was_active p q (inr e) f = ap is_active e.0

-- what waits waited
pub was_waiting : (p q : Phase) → IsPhaseAfter p q → is_waiting q ≡ true → is_waiting p ≡ true
was_waiting p q (inl e) f = ap is_waiting (sym e) ∙ f
was_waiting p q (inr e) f = let no = ap is_waiting e.1.1 in absurd (cc)

-- a Starting job among the changed ones is one that was Starting
pub record StoodStarting (jobs : List Job) (k : Job) : Type 0 where
  pub job : Job
  pub there : IsIn job jobs
  pub starting : job.phase ≡ Starting
  pub same : k ≡ record job { phase = k.phase; wish = k.wish; uses = k.uses; evoke = k.evoke }

pub stood_starting : (change : Job → Job) → IsWishing change → (jobs : List Job) (k : Job) → IsIn k (map change jobs) → k.phase ≡ Starting → StoodStarting jobs k
stood_starting change h jobs k i p =
    let m = of_mapped change jobs k i in
    let j = m.0 in
    record {
      job = j;
      there = m.1;
      starting = was_starting j.phase (change j).phase (h.phase j) (ap (λ (x : Job). x.phase) (sym m.2) ∙ p);
      same = subst (λ (x : Job). x ≡ record j { phase = x.phase; wish = x.wish; uses = x.uses; evoke = x.evoke }) (sym m.2) (h.same j);
    }

-- what ENDJOB on an active job does
pub job_ends : (s : State) (j : Job) (option : EndOption) (delay : ℕ) → IsIn j s.jobs → is_wished option j.wish ≡ false → IsEnding s (active_at j.serial (with_wish (job_wish s.clock option delay))) s.started s.power
job_ends s j option delay i e = record { jobs = wishing_job j.serial s.clock option delay; onward = on_job s j option delay i e; used = λ n k m. inl (wish_use (is_active k.phase && k.serial == j.serial) (job_wish s.clock option delay) k); subsystems = none_ended s.started; quiet = inl refl }

-- what a kill that is handed does
pub kill_ends : (s : State) (serial : ℕ) → IsEnding s (active_at serial with_kill) s.started s.power
kill_ends s serial = record { jobs = wishing_kill serial; onward = λ n j i. on_kill j (is_active j.phase && j.serial == serial); used = λ n j i. inl (wish_use (is_active j.phase && j.serial == serial) (handed_wish j.wish) j); subsystems = none_ended s.started; quiet = inl refl }

-- what a request that a job gets does
request_by : (s : State) (q pgm : QName) (j : Job) → IsIn j s.jobs → is_idle_in q pgm j ≡ true → IsNumbered s → (i : Job) (b : Bool) → (is_active i.phase && i.serial == j.serial) ≡ b → IsIn i s.jobs → IsUseOn s i (cond b (with_evoke i) i)
request_by s q pgm j m idle n i true f k =
    let serial = eqb-true i.serial j.serial (and_parts (is_active i.phase) (i.serial == j.serial) f).1 in
    let same : i ≡ j = one_by_key (λ (x : Job). x.serial) s.jobs n.serials.distinct i j k m serial in
    let its : is_idle_in q pgm i ≡ true = ap (is_idle_in q pgm) same ∙ idle in
    inr (inl (record { by_pre = by-entry q pgm i.how (and_parts (is_from_pre q pgm i.how) (is_idle i) its).0; idle = (and_parts (is_from_pre q pgm i.how) (is_idle i) its).1; with_request = refl }))
request_by s q pgm j m idle n i false f k = inl (same_use i)

pub use_ends : (s : State) (q pgm : QName) (j : Job) → IsIn j s.jobs → is_idle_in q pgm j ≡ true → IsEnding s (active_at j.serial with_evoke) s.started s.power
use_ends s q pgm i m idle = record { jobs = using i.serial; onward = λ n j k. on_same j.wish (active_at i.serial with_evoke j).wish (used_wish i.serial (is_active j.phase && j.serial == i.serial) j); used = λ n j k. request_by s q pgm i m idle n j (is_active j.phase && j.serial == i.serial) refl k; subsystems = none_ended s.started; quiet = inl refl }

-- a use that is done
module _ (serial : ℕ) (maxuse : Limit) where
  done_same : (b : Bool) (j : Job) → cond b (after_use maxuse j) j ≡ record j { phase = (cond b (after_use maxuse j) j).phase; wish = (cond b (after_use maxuse j) j).wish; uses = (cond b (after_use maxuse j) j).uses; evoke = (cond b (after_use maxuse j) j).evoke }
  done_same true j = refl
  done_same false j = refl

  done_phase : (b : Bool) (j : Job) → (cond b (after_use maxuse j) j).phase ≡ j.phase
  done_phase true j = refl
  done_phase false j = refl

  done_idle : (b : Bool) (j : Job) → (is_active j.phase && j.serial == serial) ≡ b → is_active j.phase ≡ false → cond b (after_use maxuse j) j ≡ j
  done_idle true j e n = let yes = (and_parts (is_active j.phase) (j.serial == serial) e).0 in absurd (cc)
  done_idle false j e n = refl

  unused_moment : (b : Bool) → IsMoment (wish_moment (cond b wish.NoWish (wish.Now why.Maxuse false)))
  unused_moment true = tt
  unused_moment false = tt

  used_moment : (uses : ℕ) (w : Wish) → IsMoment (wish_moment w) → IsMoment (wish_moment (wish_after_use maxuse uses w))
  used_moment uses wish.NoWish h = unused_moment (is_below uses maxuse)
  used_moment uses (wish.Later until why) h = tt
  used_moment uses (wish.Now why handed) h = h

  done_moment : (b : Bool) (j : Job) → IsMoment (wish_moment j.wish) → IsMoment (wish_moment (cond b (after_use maxuse j) j).wish)
  done_moment true j h = used_moment j.uses j.wish h
  done_moment false j h = h

  wishing_done : IsWishing (active_at serial (after_use maxuse))
  wishing_done = record {
    same = λ j. done_same (is_active j.phase && j.serial == serial) j;
    phase = λ j. inl (done_phase (is_active j.phase && j.serial == serial) j);
    idle = λ j n. done_idle (is_active j.phase && j.serial == serial) j refl n;
    moment = λ j h. done_moment (is_active j.phase && j.serial == serial) j h;
    why = λ j d a e. absurd (unended j.phase d a (sym (done_phase (is_active j.phase && j.serial == serial) j) ∙ e));
  }

  on_unused : (b : Bool) → IsWishOn wish.NoWish (cond b wish.NoWish (wish.Now why.Maxuse false))
  on_unused true = on_same wish.NoWish wish.NoWish refl
  on_unused false = on_now wish.NoWish why.Maxuse refl

  on_used : (uses : ℕ) (w : Wish) → IsWishOn w (wish_after_use maxuse uses w)
  on_used uses wish.NoWish = on_unused (is_below uses maxuse)
  on_used uses (wish.Later until why) = on_now (wish.Later until why) why refl
  on_used uses (wish.Now why handed) = on_same (wish.Now why handed) (wish.Now why handed) refl

  on_done : (j : Job) (b : Bool) → IsWishOn j.wish (cond b (after_use maxuse j) j).wish
  on_done j true = on_used j.uses j.wish
  on_done j false = on_same j.wish j.wish refl

-- what the end of a use by a limit does to jobs
pub record IsUseEnd (s : State) (change : Job → Job) : Type 0 where
  pub jobs : IsWishing change
  pub onward : IsNumbered s → (j : Job) → IsIn j s.jobs → IsWishOn j.wish (change j).wish

pub done_ends : (s : State) (serial : ℕ) (maxuse : Limit) → IsUseEnd s (active_at serial (after_use maxuse))
done_ends s serial maxuse = record { jobs = wishing_done serial maxuse; onward = λ n j i. on_done serial maxuse j (is_active j.phase && j.serial == serial) }

done_by : (s : State) (j : Job) → IsIn j s.jobs → is_running j.phase ≡ true → j.evoke ≡ true → IsNumbered s → (i : Job) (b : Bool) → (is_active i.phase && i.serial == j.serial) ≡ b → IsIn i s.jobs → IsUseOn s i (cond b (after_use (maxuse_by s j.how) i) i)
done_by s j m running evoke n i true f k =
    let serial = eqb-true i.serial j.serial (and_parts (is_active i.phase) (i.serial == j.serial) f).1 in
    let same : i ≡ j = one_by_key (λ (x : Job). x.serial) s.jobs n.serials.distinct i j k m serial in
    inr (inr (record { running = ap (λ (x : Job). is_running x.phase) same ∙ running; evoke = ap (λ (x : Job). x.evoke) same ∙ evoke; after = ap (λ (x : Job). after_use (maxuse_by s x.how) i) (sym same) }))
done_by s j m running evoke n i false f k = inl (same_use i)

-- and so what the end of the use of a job that runs does, by the limit of its entry
pub use_done_ends : (s : State) (j : Job) → IsIn j s.jobs → is_running j.phase ≡ true → j.evoke ≡ true → IsEnding s (active_at j.serial (after_use (maxuse_by s j.how))) s.started s.power
use_done_ends s i m running evoke =
    let done = done_ends s i.serial (maxuse_by s i.how) in
    record { jobs = done.jobs; onward = done.onward; used = λ n j k. done_by s i m running evoke n j (is_active j.phase && j.serial == i.serial) refl k; subsystems = none_ended s.started; quiet = inl refl }

entry_moment : (clock : ℕ) (option : EndOption) (delay : Option ℕ) → IsMoment (wish_moment (prestart_wish clock option delay))
entry_moment clock Cntrld delay = delay_moment clock delay
entry_moment clock Immed delay = tt

-- what ENDPJ does to jobs
telling_entry : (clock : ℕ) (option : EndOption) (delay : Option ℕ) (sbs pgm : QName) → IsWishing (told_with_entry clock option delay sbs pgm)
telling_entry clock option delay sbs pgm =
    giving (is_of_entry option sbs pgm) (λ j. prestart_wish clock option delay)
    (λ j e. (and_parts (is_active j.phase) (is_from_pre sbs pgm j.how) (and_parts (is_active j.phase && is_from_pre sbs pgm j.how) (not (is_wished option j.wish)) e).0).0)
    (λ j h. entry_moment clock option delay)

on_entry_wish : (clock : ℕ) (option : EndOption) (delay : Option ℕ) (w : Wish) → is_wished option w ≡ false → IsWishOn w (prestart_wish clock option delay)
on_entry_wish clock Cntrld delay w e = on_later w (option_map (moment_after clock) delay) why.Endpj e
on_entry_wish clock Immed delay w e = on_now w why.Endpj e

on_entry : (clock : ℕ) (option : EndOption) (delay : Option ℕ) (sbs pgm : QName) (j : Job) (b : Bool) → is_of_entry option sbs pgm j ≡ b → IsWishOn j.wish (cond b (with_wish (prestart_wish clock option delay) j) j).wish
on_entry clock option delay sbs pgm j true e =
    on_entry_wish clock option delay j.wish (not-true (is_wished option j.wish) (and_parts (is_active j.phase && is_from_pre sbs pgm j.how) (not (is_wished option j.wish)) e).1)
on_entry clock option delay sbs pgm j false e = on_same j.wish j.wish refl

pub entry_ends : (s : State) (option : EndOption) (delay : Option ℕ) (sbs pgm : QName) → IsEnding s (told_with_entry s.clock option delay sbs pgm) s.started s.power
entry_ends s option delay sbs pgm = record { jobs = telling_entry s.clock option delay sbs pgm; onward = λ n j i. on_entry s.clock option delay sbs pgm j (is_of_entry option sbs pgm j) refl; used = λ n j i. inl (wish_use (is_of_entry option sbs pgm j) (prestart_wish s.clock option delay) j); subsystems = none_ended s.started; quiet = inl refl }

-- what ENDSBS does
pub those_end : (s : State) (option : EndOption) (delay : Option ℕ) (test : Sbs → Bool) → IsEnding s (told option test s.started) (map (phased test (end_phase s.clock option delay)) s.started) s.power
those_end s option delay test = record { jobs = telling option test s.started; onward = λ n j i. on_told option test s.started j; used = λ n j i. inl (told_use option test s.started j); subsystems = ended_by_option test s.clock option delay s.started; quiet = inl refl }

-- what PWRDWNSYS does
pub all_end : (s : State) (option : EndOption) (delay : Option ℕ) (power : Power) → IsEnding s (told option (λ b. not (is_ending_by option b.phase)) s.started) (map (phased (λ b. not (is_ending_by option b.phase)) (end_phase s.clock option delay)) s.started) power
all_end s option delay power = record {
  jobs = telling option (λ b. not (is_ending_by option b.phase)) s.started;
  onward = λ n j i. on_told option (λ b. not (is_ending_by option b.phase)) s.started j;
  used = λ n j i. inl (told_use option (λ b. not (is_ending_by option b.phase)) s.started j);
  subsystems = ended_by_option (λ b. not (is_ending_by option b.phase)) s.clock option delay s.started;
  quiet = inr (none_stays_active option s.clock delay s.started);
}
