use Rattle.std.proofs.Common.{◌≡◌, Bool, true, false, cond, ap, sym, ◌∙◌}
use Rattle.wm_law.specs.Prestart.{is_available, is_idle}
use Rattle.wm_indexes.specs.declared.prestart_job.Readiness.{Readiness}
use Rattle.wm_indexes.specs.declared.prestart_job.Readiness.TheVariants.{Coming, Idle, Taken}
use Rattle.wm_jobs.specs.Marked.{standing_as}
use Rattle.wm_jobs.proofs.prestart.readiness.Goals as goal

-- the readiness by what the two tests answer
abbrev by : Bool → Bool → Readiness
by idle available = cond idle Idle (cond available Coming Taken)

pub returns-then-is_idle : goal.returns-then-is_idle
returns-then-is_idle c = λ j.
    let y = standing_as c.args.standing.now j in
    let idle : is_idle y ≡ true = sym (c.is_idle.ensures j) ∙ c.if-is_idle.true in
    sym (ap (λ b. by b (is_available y)) idle)

pub returns-then-is_available : goal.returns-then-is_available
returns-then-is_available c = λ j.
    let y = standing_as c.args.standing.now j in
    let idle : is_idle y ≡ false = sym (c.is_idle.ensures j) ∙ c.if-is_idle.false in
    let available : is_available y ≡ true = sym (c.is_available.ensures j) ∙ c.if-is_available.true in
    sym (ap (λ b. by b (is_available y)) idle ∙ ap (λ b. by false b) available)

pub returns-else-is_available : goal.returns-else-is_available
returns-else-is_available c = λ j.
    let y = standing_as c.args.standing.now j in
    let idle : is_idle y ≡ false = sym (c.is_idle.ensures j) ∙ c.if-is_idle.false in
    let available : is_available y ≡ false = sym (c.is_available.ensures j) ∙ c.if-is_available.false in
    sym (ap (λ b. by b (is_available y)) idle ∙ ap (λ b. by false b) available)
