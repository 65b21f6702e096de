-- Only active and ended jobs have a wish, and the moments of wishes and of ending subsystems stay in their range.
use Rattle.std.proofs.Common.{◌≡◌, ℕ, ℤ, ◌==◌, ◌++◌, not, Bool, true, false, cond, List, [], ◌∷◌, map, Option, Some, None, refl, sym, ap, subst, ◌∙◌, inl, inr}
use Rattle.std.specs.List.{find}
use Rattle.wm_base.specs.declared.qname.QName.{QName}
use Rattle.wm_law.specs.declared.call.Call.{Call}
use Rattle.wm_law.specs.declared.choice.Candidate.{Candidate}
use Rattle.wm_law.specs.declared.job.Job.{Job}
use Rattle.wm_law.specs.declared.job.Wish.{Wish}
use Rattle.wm_law.specs.declared.state.Sbs.{Sbs}
use Rattle.wm_law.specs.declared.state.SbsPhase.TheVariants.{Active}
use Rattle.wm_law.specs.declared.state.State.{State}
use Rattle.wm_law.specs.Autos.{auto_job, routed_auto}
use Rattle.wm_law.specs.Counts.{is_waiting}
use Rattle.wm_law.specs.Jobs.{changed_at, active_at}
use Rattle.wm_law.specs.Launch.{as_launched, with_routed, routed_from_queue}
use Rattle.wm_law.specs.Laws.{IsIn}
use Rattle.wm_law.specs.Machine.{step}
use Rattle.wm_law.specs.Opening.{opening}
use Rattle.wm_law.specs.Reports.{in_phase}
use Rattle.wm_law.specs.Settling.{is_gone, sbs_moment}
use Rattle.wm_law.specs.Sound.{HasMoments, HasWishes, IsMoment, IsWished}
use Rattle.wm_law.specs.Submitting.{submitted_job}
use Rattle.wm_law.specs.Wishes.{has_wish, wish_moment}
use Rattle.wm_law.proofs.Alterations.{IsAltered, each_altered}
use Rattle.wm_law.proofs.Endings.{AreEnded, IsWishing, was_waiting, using}
use Rattle.wm_law.proofs.Members.{left_in, of_last, of_mapped}
use Rattle.wm_law.proofs.Moves.{HoldsOfStates, IsKeptByParts, never_waits, step_keeps, autos_made}
use Rattle.wm_law.proofs.Opened.{opened, opening_is}
use Rattle.wm_law.proofs.Settling.{not_waiting}
use Rattle.wm_law.proofs.InTurn.{not_active}
use Rattle.wm_law.specs.Prestart.{new_pre_job, with_evoke}

-- a change after which a job doesn't wait, and which leaves its wish
record LeavesWishes (change : Job → Job) : Type 0 where
  wish : (j : Job) → (change j).wish ≡ j.wish
  never : (j : Job) → is_waiting (change j).phase ≡ false

wished_changed : (change : Job → Job) (t : Bool) (j : Job) → LeavesWishes change → IsWished j → IsWished (cond t (change j) j)
wished_changed change true j k h = record {
  waits = λ w. (let no = k.never j in absurd (cc));
  moment = subst (λ (x : Wish). IsMoment (wish_moment x)) (sym (k.wish j)) h.moment;
}
wished_changed change false j k h = h

-- each job of a list is so
abbrev AllWished : List Job → Type 0
AllWished jobs = (j : Job) → IsIn j jobs → IsWished j

all_changed : (jobs : List Job) (serial : ℕ) (change : Job → Job) → LeavesWishes change → AllWished jobs → AllWished (map (changed_at serial change) jobs)
all_changed jobs serial change k h i m =
    let f = of_mapped (changed_at serial change) jobs i m in
    subst IsWished (sym f.2) (wished_changed change (f.0.serial == serial) f.0 k (h f.0 f.1))

last_wished : (jobs : List Job) (last : Job) → IsWished last → AllWished jobs → AllWished (jobs ++ last ∷ [])
last_wished jobs last w h j i =
    elim (of_last jobs last j i) as (λ _. IsWished j) [ inl m ↦ h j m | inr same ↦ subst IsWished (sym same) w ]

altered_wished : (s : State) (j k : Job) → IsAltered s j k → IsWished j → IsWished k
altered_wished s j k a h = record {
  waits = λ w. ap has_wish a.wish ∙ h.waits a.waits;
  moment = subst (λ (x : Wish). IsMoment (wish_moment x)) (sym a.wish) h.moment;
}

-- a wish is given to active jobs alone
given_wished : (change : Job → Job) → IsWishing change → (j : Job) → IsWished j → IsWished (change j)
given_wished change e j h = record {
  waits = λ w. (
      let waited = was_waiting j.phase (change j).phase (e.phase j) w in
      ap (λ (x : Job). has_wish x.wish) (e.idle j (not_active j.phase waited)) ∙ h.waits waited);
  moment = e.moment j h.moment;
}

all_given : (jobs : List Job) (change : Job → Job) → IsWishing change → AllWished jobs → AllWished (map change jobs)
all_given jobs change e h i m =
    let f = of_mapped change jobs i m in
    subst IsWished (sym f.2) (given_wished change e f.0 (h f.0 f.1))

pub launched_wished : (s : State) (c : Candidate) (o : Option Job) → HasWishes s → HasWishes (with_routed s c o)
launched_wished s c None h = h
launched_wished s c (Some j) h = all_changed s.jobs c.serial (as_launched (routed_from_queue s c.sbs c.jobq j)) (record { wish = λ k. refl; never = λ k. not_waiting s c.sbs c.jobq j }) h

pub wished_calls : (s : State) → HasWishes s → HoldsOfStates HasWishes s
wished_calls s h = record {
  stays = h;
  starts = λ q e. autos_made HasWishes s q e (λ t x d m k. last_wished t.jobs (routed_auto t q (auto_job t x d)) (record { waits = λ w. refl; moment = tt }) k) h;
  supplies = record {
    makes = λ q d e t can k. last_wished t.jobs (new_pre_job t q e.pgm) (record { waits = λ w. refl; moment = tt }) k;
    assigns = λ t q pgm job evokes can k. all_given t.jobs (active_at job.serial with_evoke) (using job.serial) k;
  };
  enters = λ user c d due a. last_wished s.jobs (submitted_job s user c d due) (record { waits = λ w. refl; moment = tt }) h;
  alters = λ change place a. each_altered IsWished s change place a h (λ j k i b. altered_wished s j k b (h j i));
  holds = λ held a. h;
  lists = λ stopped evokes. h;
  moves = λ serial j phase stopped i e r n. all_changed s.jobs serial (in_phase phase) (record { wish = λ k. refl; never = λ k. never_waits j.phase phase r.onward }) h;
  ends = λ change started stopped evokes power e. all_given s.jobs change e.jobs h;
  makes = λ o c. h;
}

pub wished_parts : IsKeptByParts HasWishes
wished_parts = record {
  clock = λ s moment h. h;
  calls = wished_calls;
  leaves = λ s h. h;
  launches = record { by_step = λ s c e h. launched_wished s c (find (λ (j : Job). j.serial == c.serial) s.jobs) h };
}

pub step_keeps_wishes : (s : State) (caller : ℕ) (call : Call) (moment : ℕ) → HasWishes s → HasWishes (step s caller call moment).state
step_keeps_wishes s caller call moment h = step_keeps HasWishes wished_parts s caller call moment h

none_wished : (offset : ℤ) → HasWishes (opened offset)
none_wished offset j i = absurd i

pub opening_has_wishes : (offset : ℤ) → HasWishes (opening offset)
opening_has_wishes offset = subst HasWishes (sym (opening_is offset)) (none_wished offset)

begun_moments : (bs : List Sbs) (q : QName) → ((b : Sbs) → IsIn b bs → IsMoment (sbs_moment b.phase)) → (b : Sbs) → IsIn b (bs ++ record { sbsd = q; phase = Active } ∷ []) → IsMoment (sbs_moment b.phase)
begun_moments bs q h b i =
    elim (of_last bs (record { sbsd = q; phase = Active }) b i) as (λ _. IsMoment (sbs_moment b.phase)) [
      | inl m ↦ h b m
      | inr same ↦ subst (λ (x : Sbs). IsMoment (sbs_moment x.phase)) (sym same) tt
    ]

ended_moments : (old new : List Sbs) → AreEnded old new → ((b : Sbs) → IsIn b old → IsMoment (sbs_moment b.phase)) → (b : Sbs) → IsIn b new → IsMoment (sbs_moment b.phase)
ended_moments old new e h b i =
    let m = e.before b i in
    let ended = m.2 in
    ended.moment (h m.0 m.1)

launched_moments : (s : State) (c : Candidate) (o : Option Job) → HasMoments s → HasMoments (with_routed s c o)
launched_moments s c None h = h
launched_moments s c (Some j) h = h

moments_calls : (s : State) → HasMoments s → HoldsOfStates HasMoments s
moments_calls s h = record {
  stays = h;
  starts = λ q e. autos_made HasMoments s q e (λ t x d m k. k) (begun_moments s.started q h);
  supplies = record { makes = λ q d e t can k. k; assigns = λ t q pgm job evokes can k. k };
  enters = λ user c d due a. h;
  alters = λ change place a. h;
  holds = λ held a. h;
  lists = λ stopped evokes. h;
  moves = λ serial j phase stopped i e r n. h;
  ends = λ change started stopped evokes power e. ended_moments s.started started e.subsystems h;
  makes = λ o c. h;
}

moments_parts : IsKeptByParts HasMoments
moments_parts = record {
  clock = λ s moment h. h;
  calls = moments_calls;
  leaves = λ s h b i. h b (left_in (λ (x : Sbs). not (is_gone s.jobs x)) s.started b i);
  launches = record { by_step = λ s c e h. launched_moments s c (find (λ (j : Job). j.serial == c.serial) s.jobs) h };
}

pub step_keeps_moments : (s : State) (caller : ℕ) (call : Call) (moment : ℕ) → HasMoments s → HasMoments (step s caller call moment).state
step_keeps_moments s caller call moment h = step_keeps HasMoments moments_parts s caller call moment h

none_ending : (offset : ℤ) → HasMoments (opened offset)
none_ending offset b i = absurd i

pub opening_has_moments : (offset : ℤ) → HasMoments (opening offset)
opening_has_moments offset = subst HasMoments (sym (opening_is offset)) (none_ending offset)
