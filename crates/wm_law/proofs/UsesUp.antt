-- A job that is up to date stays so where it gets a request, and where its use is done.
use Rattle.std.proofs.Common.{◌≡◌, ℕ, ◌==◌, ◌&&◌, ◌||◌, not, Bool, true, false, cond, List, refl, ap, ◌∙◌}
use Rattle.std.proofs.lemmas.Bool.{and_parts, eqb-true}
use Rattle.wm_base.specs.declared.limit.Limit.{Limit}
use Rattle.wm_base.specs.Limit.{is_below}
use Rattle.wm_law.specs.declared.job.Job.{Job}
use Rattle.wm_law.specs.declared.job.Phase.{Phase}
use Rattle.wm_law.specs.declared.job.Phase.TheVariants.{Starting}
use Rattle.wm_law.specs.declared.job.Why.TheVariants as why
use Rattle.wm_law.specs.declared.job.Wish.{Wish}
use Rattle.wm_law.specs.declared.job.Wish.TheVariants as wish
use Rattle.wm_law.specs.declared.state.Sbs.{Sbs}
use Rattle.wm_law.specs.declared.state.State.{State}
use Rattle.wm_law.specs.Counts.{is_active, is_prestart}
use Rattle.wm_law.specs.Kept.{IsNumbered}
use Rattle.wm_law.specs.Laws.{IsIn}
use Rattle.wm_law.specs.Prestart.{after_use, is_running, wish_after_use, with_evoke}
use Rattle.wm_law.specs.Sound.{IsUpToDate}
use Rattle.wm_law.specs.Wishes.{has_come, is_now, is_wish_due}
use Rattle.wm_law.proofs.Distinct.{one_by_key}

-- a wish of a job with a request comes due by its moment alone
used_due : (a b c : Bool) → (a || (b && c)) ≡ false → (a || (b && false)) ≡ false
used_due true b c h = h
used_due false true c h = refl
used_due false false c h = refl

used_looked : (clock : ℕ) (i : Job) (w : Wish) → is_wish_due clock i w ≡ false → is_wish_due clock (with_evoke i) w ≡ false
used_looked clock i wish.NoWish h = h
used_looked clock i (wish.Later until why) h = used_due (has_come clock until) (is_prestart i.kind) (not i.evoke) h
used_looked clock i (wish.Now why handed) h = h

pub used_up : (clock : ℕ) (bs : List Sbs) (b : Bool) (i : Job) → IsUpToDate clock bs i → IsUpToDate clock bs (cond b (with_evoke i) i)
used_up clock bs true i u = record { looked = used_looked clock i i.wish u.looked; starting = u.starting; told = u.told }
used_up clock bs false i u = u

-- the wish after a use is none for later
unused_looked : (clock : ℕ) (i : Job) (b : Bool) → is_wish_due clock i (cond b wish.NoWish (wish.Now why.Maxuse false)) ≡ false
unused_looked clock i true = refl
unused_looked clock i false = refl

done_looked : (clock : ℕ) (i : Job) (maxuse : Limit) (uses : ℕ) (w : Wish) → is_wish_due clock i (wish_after_use maxuse uses w) ≡ false
done_looked clock i maxuse uses wish.NoWish = unused_looked clock i (is_below uses maxuse)
done_looked clock i maxuse uses (wish.Later until why) = refl
done_looked clock i maxuse uses (wish.Now why handed) = refl

done_now : (maxuse : Limit) (uses : ℕ) (w : Wish) → is_now w ≡ true → is_now (wish_after_use maxuse uses w) ≡ true
done_now maxuse uses wish.NoWish h = absurd (cc)
done_now maxuse uses (wish.Later until why) h = absurd (cc)
done_now maxuse uses (wish.Now why handed) h = refl

running_started : (p : Phase) → is_running p ≡ true → p ≡ Starting → ⊥
running_started p r e =
    let no : is_running p ≡ false = ap is_running e in
    absurd (cc)

done_up : (clock : ℕ) (bs : List Sbs) (maxuse : Limit) (i : Job) → is_running i.phase ≡ true → IsUpToDate clock bs i → IsUpToDate clock bs (after_use maxuse i)
done_up clock bs maxuse i r u = record {
  looked = done_looked clock (after_use maxuse i) maxuse i.uses i.wish;
  starting = λ e. absurd (running_started i.phase r e);
  told = λ t. done_now maxuse i.uses i.wish (u.told t);
}

-- the job of the serial runs, so it is the one whose use is done
pub done_at : (s : State) (j : Job) (maxuse : Limit) → IsIn j s.jobs → is_running j.phase ≡ true → IsNumbered s → (i : Job) (b : Bool) → (is_active i.phase && i.serial == j.serial) ≡ b → IsIn i s.jobs → IsUpToDate s.clock s.started i → IsUpToDate s.clock s.started (cond b (after_use maxuse i) i)
done_at s j maxuse m r n i true e k u =
    let serial = eqb-true i.serial j.serial (and_parts (is_active i.phase) (i.serial == j.serial) e).1 in
    let same : i ≡ j = one_by_key (λ (x : Job). x.serial) s.jobs n.serials.distinct i j k m serial in
    done_up s.clock s.started maxuse i (ap (λ (x : Job). is_running x.phase) same ∙ r) u
done_at s j maxuse m r n i false e k u = u
