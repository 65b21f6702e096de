use Rattle.std.proofs.Common.{◌≡◌, ◌∙◌, ◌+◌, ◌<◌, ℕ, true, List, Option, Some, None, map, refl, sym, ap, subst, arith}
use Rattle.std.specs.List.{count_by, find}
use Rattle.std.specs.Option.{IfSome, option_copied}
use Rattle.wm_law.specs.declared.job.Job.{Job}
use Rattle.wm_law.specs.Counts.{is_active}
use Rattle.wm_subsystems.specs.declared.meant.Told.{Told}
use Rattle.wm_subsystems.specs.Telling.{told_as, told_at}
use Rattle.wm_subsystems.specs.Walks.{walked}
use Rattle.wm_subsystems.proofs.Tellings.{told_others, told_own, walkable}
use Rattle.wm_subsystems.proofs.Walks.{all_ahead, below_end, fewer_ahead, is_ahead, is_next_active, rest_twice, walk_begins, walk_ends, walk_goes_on}
use Rattle.wm_subsystems.proofs.walk.tell_all.Goals as goal

pub loop-job-init : goal.loop-job-init
loop-job-init c =
    let jobs = c.args.table.now.jobs in
    let same = all_ahead jobs in
    let room = c.requires.room in
    rw c.new-from.ensures (record {
      jobs = walk_begins (told_as c.args.telling.now c.args.clock c.args.started.now) jobs;
      rest = record { clock = refl; next_serial = refl; next_place = refl; marked = refl; ready = λ r. r };
      room = omega arith;
    })

pub tell-requires-clause-active : goal.tell-requires-clause-active
tell-requires-clause-active c =
    let at = c.loop-job in
    let f = told_as c.args.telling.now c.args.clock c.args.started.now in
    let y : Job = c.in-Some.job.now in
    let copied = ap option_copied c.in-Some.is in
    let found : find (is_ahead at.from) (map (walked at.from f) c.args.table.now.jobs) ≡ Some y = ap (λ (js : List Job). find (is_ahead at.from) js) (sym at.invariant.jobs) ∙ (sym c.active_from.ensures.found ∙ copied) in
    let active = is_next_active f (walkable c.args.telling.now c.args.clock c.args.started.now) c.args.table.now.next_serial c.args.table.now.jobs c.requires.line at.from y found in
    subst (λ (o : Option Job). IfSome o (λ (j : Job). is_active j.phase ≡ true)) (sym (c.active_from.ensures.by_serial y copied)) active

pub tell-requires-clause-changes : goal.tell-requires-clause-changes
tell-requires-clause-changes c =
    let at = c.loop-job in
    let f = told_as c.args.telling.now c.args.clock c.args.started.now in
    let y : Job = c.in-Some.job.now in
    let found : find (is_ahead at.from) (map (walked at.from f) c.args.table.now.jobs) ≡ Some y = ap (λ (js : List Job). find (is_ahead at.from) js) (sym at.invariant.jobs) ∙ (sym c.active_from.ensures.found ∙ ap option_copied c.in-Some.is) in
    let fewer = fewer_ahead f (walkable c.args.telling.now c.args.clock c.args.started.now) c.args.table.now.next_serial c.args.table.now.jobs c.requires.line at.from y found in
    let room = at.invariant.room in
    omega arith

pub overflow_add-get : goal.overflow_add-get
overflow_add-get c =
    let at = c.loop-job in
    let f = told_as c.args.telling.now c.args.clock c.args.started.now in
    let y : Job = c.in-Some.job.now in
    let found : find (is_ahead at.from) (map (walked at.from f) c.args.table.now.jobs) ≡ Some y = ap (λ (js : List Job). find (is_ahead at.from) js) (sym at.invariant.jobs) ∙ (sym c.active_from.ensures.found ∙ ap option_copied c.in-Some.is) in
    let end = below_end f (walkable c.args.telling.now c.args.clock c.args.started.now) c.args.table.now.next_serial c.args.table.now.jobs c.requires.line at.from y found in
    let value : c.get.result ≡ y.serial = c.get.ensures.value in
    omega arith

pub loop-job-smaller : goal.loop-job-smaller
loop-job-smaller c =
    let at = c.loop-job in
    let jobs = c.args.table.now.jobs in
    let f = told_as c.args.telling.now c.args.clock c.args.started.now in
    let y : Job = c.in-Some.job.now in
    let found : find (is_ahead at.from) (map (walked at.from f) jobs) ≡ Some y = ap (λ (js : List Job). find (is_ahead at.from) js) (sym at.invariant.jobs) ∙ (sym c.active_from.ensures.found ∙ ap option_copied c.in-Some.is) in
    let fewer = fewer_ahead f (walkable c.args.telling.now c.args.clock c.args.started.now) c.args.table.now.next_serial jobs c.requires.line at.from y found in
    let behind : c.new-from-in-Some.result ≡ y.serial + 1 = c.new-from-in-Some.ensures ∙ ap (λ (n : ℕ). n + 1) c.get.ensures.value in
    let less : count_by (is_ahead (y.serial + 1)) jobs < count_by (is_ahead at.from) jobs = omega arith in
    subst (λ (n : ℕ). count_by (is_ahead n) jobs < count_by (is_ahead at.from) jobs) (sym behind) less

pub loop-job-preserved : goal.loop-job-preserved
loop-job-preserved c =
    let at = c.loop-job in
    let jobs = c.args.table.now.jobs in
    let t = c.args.telling.now in
    let clock = c.args.clock in
    let started = c.args.started.now in
    let f = told_as t clock started in
    let w = walkable t clock started in
    let y : Job = c.in-Some.job.now in
    let told = c.told_of-told.result in
    let found : find (is_ahead at.from) (map (walked at.from f) jobs) ≡ Some y = ap (λ (js : List Job). find (is_ahead at.from) js) (sym at.invariant.jobs) ∙ (sym c.active_from.ensures.found ∙ ap option_copied c.in-Some.is) in
    let active = is_next_active f w c.args.table.now.next_serial jobs c.requires.line at.from y found in
    let fewer = fewer_ahead f w c.args.table.now.next_serial jobs c.requires.line at.from y found in
    let own : told_at y.serial told y ≡ f y = ap (λ (x : Told). told_at y.serial x y) c.told_of-told.ensures ∙ told_own t clock started y active in
    let gone : c.tell.new.table.jobs ≡ map (walked (y.serial + 1) f) jobs =
    c.tell.ensures.jobs ∙ (ap (λ (js : List Job). map (told_at y.serial told) js) at.invariant.jobs ∙ walk_goes_on f w c.args.table.now.next_serial jobs c.requires.line at.from y found (told_at y.serial told) (λ k e. told_others y.serial told k e) own) in
    let behind : c.new-from-in-Some.result ≡ y.serial + 1 = c.new-from-in-Some.ensures ∙ ap (λ (n : ℕ). n + 1) c.get.ensures.value in
    let room = at.invariant.room in
    let changes = c.tell.ensures.changes in
    rw behind (record { jobs = gone; rest = rest_twice _ _ _ at.invariant.rest c.tell.ensures.rest; room = omega arith })

pub returns-clause-jobs : goal.returns-clause-jobs
returns-clause-jobs c =
    let at = c.loop-job in
    let jobs = c.args.table.now.jobs in
    let f = told_as c.args.telling.now c.args.clock c.args.started.now in
    let none : find (is_ahead at.from) (map (walked at.from f) jobs) ≡ None = ap (λ (js : List Job). find (is_ahead at.from) js) (sym at.invariant.jobs) ∙ (sym c.active_from.ensures.found ∙ ap option_copied c.in_default.is) in
    at.invariant.jobs ∙ walk_ends f (walkable c.args.telling.now c.args.clock c.args.started.now) c.args.table.now.next_serial jobs c.requires.line at.from none
