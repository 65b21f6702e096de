-- What one job is among prestart jobs.
use Rattle.std.proofs.Common.{◌≡◌, ℕ, Bool, true, false, cond, Option, Some, None, refl, ap, sym, ◌∙◌, subst}
use Rattle.wm_base.specs.declared.job.How.{How}
use Rattle.wm_base.specs.declared.job.How.TheVariants.{NotYet, FromQueue, Auto, Pre}
use Rattle.wm_law.specs.declared.job.Job.{Job}
use Rattle.wm_law.specs.Counts.{is_active}
use Rattle.wm_indexes.specs.declared.prestart_job.PrestartJob.{PrestartJob}
use Rattle.wm_indexes.specs.OfJobs.{row_by, row_of}
use Rattle.wm_jobs.specs.Standings.{comes}

keyed-by : (j : Job) (how : How) (e : ℕ × PrestartJob) → row_by j how ≡ Some e → e.0 ≡ j.serial
keyed-by j NotYet e is = absurd (cc is)
keyed-by j (FromQueue sbs jobq pty route) e is = absurd (cc is)
keyed-by j (Auto sbs route) e is = absurd (cc is)
keyed-by j (Pre sbs pgm) e is = cc is

keyed-on : (j : Job) (b : Bool) (e : ℕ × PrestartJob) → cond b (row_by j j.how) None ≡ Some e → e.0 ≡ j.serial
keyed-on j true e is = keyed-by j j.how e is
keyed-on j false e is = absurd (cc is)

pub row-keyed : (j : Job) (e : ℕ × PrestartJob) → row_of j ≡ Some e → e.0 ≡ j.serial
row-keyed j e is = keyed-on j (is_active j.phase) e is

pub row-none : (j : Job) → is_active j.phase ≡ false → row_of j ≡ None
row-none j h = ap (λ b. cond b (row_by j j.how) None) h

active-on : (b : Bool) (o : Option (ℕ × PrestartJob)) (e : ℕ × PrestartJob) → cond b o None ≡ Some e → b ≡ true
active-on true o e is = refl
active-on false o e is = absurd (cc is)

-- one that came by no entry is no prestart job, however it stands
alike : (x y : Job) (how : How) → row_by x how ≡ None → row_by y how ≡ None
alike x y NotYet none = refl
alike x y (FromQueue sbs jobq pty route) none = refl
alike x y (Auto sbs route) none = refl
alike x y (Pre sbs pgm) none = absurd (cc none)

comes-on : (b : Bool) (x y : Job) (e : ℕ × PrestartJob) → is_active x.phase ≡ b → is_active y.phase ≡ true → (is_active x.phase ≡ true → is_active y.phase ≡ true → y.how ≡ x.how) → cond b (row_by x x.how) None ≡ None → row_of y ≡ Some e → comes b (is_active y.phase) ≡ 1
comes-on true x y e was is how none some =
    let here : row_by y y.how ≡ None = subst (λ (h : How). row_by y h ≡ None) (sym (how was is)) (alike x y x.how none) in
    absurd (cc (sym some ∙ (ap (λ b. cond b (row_by y y.how) None) is ∙ here)))
comes-on false x y e was is how none some = ap (λ b. comes false b) is

-- a job that becomes one becomes active
pub row-comes : (x y : Job) (e : ℕ × PrestartJob) → (is_active x.phase ≡ true → is_active y.phase ≡ true → y.how ≡ x.how) → row_of x ≡ None → row_of y ≡ Some e → comes (is_active x.phase) (is_active y.phase) ≡ 1
row-comes x y e how none some = comes-on (is_active x.phase) x y e refl (active-on (is_active y.phase) (row_by y y.how) e some) how none some
