-- Wishes: whether an active job is to end, from which moment on, and on whose account.
use Rattle.std.specs.Prelude.{ℕ, Bool, true, false, not, ◌+◌, ◌&&◌, ◌||◌, min, nat_le, List, Option, Some, None, if◌then◌else◌}
use Rattle.std.specs.List.{list_any}
use Rattle.wm_base.specs.declared.job.EndCause.{EndCause}
use Rattle.wm_base.specs.declared.job.EndCause.TheVariants as cause
use Rattle.wm_base.specs.declared.job.How.{How}
use Rattle.wm_law.specs.declared.job.Job.{Job}
use Rattle.wm_law.specs.declared.job.Why.{Why}
use Rattle.wm_law.specs.declared.job.Why.TheVariants as why
use Rattle.wm_law.specs.declared.job.Wish.{Wish}
use Rattle.wm_law.specs.declared.job.Wish.TheVariants as wish
use Rattle.wm_law.specs.declared.state.Sbs.{Sbs}
use Rattle.wm_law.specs.Counts.{is_active, is_in_sbs, is_prestart}

-- the greatest moment: the last second of 9999-12-30
abbrev pub greatest_moment : ℕ
greatest_moment = 253402214399

-- the clock plus a delay, at most the greatest moment
abbrev pub moment_after : ℕ → ℕ → ℕ
moment_after clock delay = min (clock + delay) greatest_moment

-- whether a moment has come; none never comes
abbrev pub has_come : ℕ → Option ℕ → Bool
has_come clock None = false
has_come clock (Some moment) = nat_le moment clock

-- the cause of an end on that account
abbrev pub why_cause : Why → EndCause
why_cause why.Endjob = cause.Endjob
why_cause why.Endsbs = cause.Endsbs
why_cause why.Endpj = cause.Endpj
why_cause why.Maxuse = cause.Maxuse

-- there is a wish
abbrev pub has_wish : Wish → Bool
has_wish wish.NoWish = false
has_wish (wish.Later until why) = true
has_wish (wish.Now why handed) = true

-- the job is to end now
abbrev pub is_now : Wish → Bool
is_now wish.NoWish = false
is_now (wish.Later until why) = false
is_now (wish.Now why handed) = true

-- the moment from which on the job is to end, where it is yet to come
abbrev pub wish_moment : Wish → Option ℕ
wish_moment wish.NoWish = None
wish_moment (wish.Later until why) = until
wish_moment (wish.Now why handed) = None

-- the cause by which a Now wish ends a job
abbrev pub now_cause : Wish → Option EndCause
now_cause wish.NoWish = None
now_cause (wish.Later until why) = None
now_cause (wish.Now why handed) = Some (why_cause why)

-- the kill that a Now wish asks for isn't handed yet
abbrev pub is_unhanded : Wish → Bool
is_unhanded wish.NoWish = false
is_unhanded (wish.Later until why) = false
is_unhanded (wish.Now why handed) = not handed

-- the wish once its kill is handed
abbrev pub handed_wish : Wish → Wish
handed_wish wish.NoWish = wish.NoWish
handed_wish (wish.Later until why) = wish.Later until why
handed_wish (wish.Now why handed) = wish.Now why true

-- a Later wish has come due: its moment has come, or the job is a prestart job without an evoke
abbrev pub is_due : ℕ → Job → Option ℕ → Bool
is_due clock j until = has_come clock until || (is_prestart j.kind && not j.evoke)

-- the job has such a wish
abbrev pub is_wish_due : ℕ → Job → Wish → Bool
is_wish_due clock j wish.NoWish = false
is_wish_due clock j (wish.Later until why) = is_due clock j until
is_wish_due clock j (wish.Now why handed) = false

-- a wish of the job once the clock is looked at: a Later wish that has come due becomes Now with the same why
abbrev pub wish_at : ℕ → Job → Wish → Wish
wish_at clock j wish.NoWish = wish.NoWish
wish_at clock j (wish.Later until why) = if is_due clock j until then wish.Now why false else wish.Later until why
wish_at clock j (wish.Now why handed) = wish.Now why handed

-- the job's own wish, so looked at
abbrev pub deadline : ℕ → Job → Wish
deadline clock j = wish_at clock j j.wish

-- the job with that wish
abbrev pub with_wish : Wish → Job → Job
with_wish w j = record j { wish = w }

-- the how names one of the subsystems that pass a test
abbrev pub is_in_any : (Sbs → Bool) → List Sbs → How → Bool
is_in_any test started how = list_any (λ b. test b && is_in_sbs b.sbsd how) started

-- the job is active in such a subsystem, and isn't to end now
abbrev pub is_to_end : (Sbs → Bool) → List Sbs → Job → Bool
is_to_end test started j = is_active j.phase && not (is_now j.wish) && is_in_any test started j.how

-- the job, which then is to end now with its subsystem
abbrev pub told_now : (Sbs → Bool) → List Sbs → Job → Job
told_now test started j = if is_to_end test started j then with_wish (wish.Now why.Endsbs false) j else j
