use Rattle.std.proofs.Common.{◌≡◌, ℕ, cond, Option, is_some, refl, ap, sym, ◌∙◌, arith, nat_eq}
use Rattle.wm_desc.specs.Sorted.{has_key}
use Rattle.wm_ordered.specs.declared.waiter.Waiter.{Waiter}
use Rattle.wm_ordered.specs.Waiting as waiting
use Rattle.wm_pick.specs.Parts.{waiter_of}
use Rattle.wm_jobs.specs.Marked.{standing_as}
use Rattle.wm_jobs.specs.Standings.{bit}
use Rattle.wm_jobs.proofs.Followed.{stays, joins, leaves, lacks, place-new, found-there, replaces}
use Rattle.wm_jobs.proofs.JobParts.{waiter-keyed, waiter-placed, waiter-waits}
use Rattle.wm_jobs.proofs.following.follow_waiter.Goals as goal

pub insert-requires-clause-serial : goal.insert-requires-clause-serial
insert-requires-clause-serial c =
    let x = c.args.job.now in
    let y = standing_as c.args.standing.now x in
    ap (λ (n : ℕ). has_key waiting.serial_of nat_eq n c.args.waiting.now.items) (waiter-keyed y c.in-None-Some.waiter (sym c.in-None-Some.ensures'))
    ∙ lacks waiter_of waiting.serial_of waiter-keyed x y refl c.args.waiting.now.items c.args.waiting.now.items (sym c.in-None-Some.ensures) c.requires.among

pub insert-requires-clause-place : goal.insert-requires-clause-place
insert-requires-clause-place c =
    let x = c.args.job.now in
    let y = standing_as c.args.standing.now x in
    let is = sym c.in-None-Some.ensures' in
    place-new x c.args.waiting.now.items c.requires.among (sym c.in-None-Some.ensures) c.in-None-Some.waiter.place (λ v there e. c.requires.own (waiter-waits y c.in-None-Some.waiter is) v there (e ∙ waiter-placed y c.in-None-Some.waiter is))

pub replace-requires : goal.replace-requires
replace-requires c =
    let y = standing_as c.args.standing.now c.args.job.now in
    let is = sym c.in-Some-Some.ensures' in
    record { place = λ v there e. c.requires.own (waiter-waits y c.in-Some-Some.waiter is) v there (e ∙ waiter-placed y c.in-Some-Some.waiter is) ∙ sym (waiter-keyed y c.in-Some-Some.waiter is) }

pub returns-in-None-None-clause-items : goal.returns-in-None-None-clause-items
returns-in-None-None-clause-items c =
    let x = c.args.job.now in
    stays waiter_of waiting.serial_of waiter-keyed x (standing_as c.args.standing.now x) refl c.args.waiting.now.items c.args.waiting.now.items (sym c.in-None-None.ensures ∙ c.in-None-None.ensures') refl

pub returns-in-None-Some-clause-items : goal.returns-in-None-Some-clause-items
returns-in-None-Some-clause-items c =
    let x = c.args.job.now in
    joins waiter_of waiting.serial_of waiter-keyed x (standing_as c.args.standing.now x) refl c.args.waiting.now.items c.insert.new.self.items c.in-None-Some.waiter (sym c.in-None-Some.ensures) (sym c.in-None-Some.ensures') c.insert.ensures.items

pub returns-in-Some-None-clause-items : goal.returns-in-Some-None-clause-items
returns-in-Some-None-clause-items c =
    let x = c.args.job.now in
    leaves waiter_of waiting.serial_of waiter-keyed x (standing_as c.args.standing.now x) refl c.args.waiting.now.items c.remove.new.self.items (sym c.in-Some-None.ensures') c.remove.ensures.items

-- it was there, so its room is spare again
pub returns-in-Some-None-clause-spare : goal.returns-in-Some-None-clause-spare
returns-in-Some-None-clause-spare c =
    let x = c.args.job.now in
    let there : cond {A = ℕ} (is_some c.remove.result) 1 0 ≡ 1 = ap (λ b. cond b 1 0) (found-there x c.args.waiting.now.items c.requires.among c.in-Some-None.field-0-0 (sym c.in-Some-None.ensures) c.remove.result c.remove.ensures.waiter) in
    let was : bit (is_some (waiter_of x)) ≡ 1 = ap (λ (o : Option Waiter). bit (is_some o)) (sym c.in-Some-None.ensures) in
    let is : bit (is_some (waiter_of (standing_as c.args.standing.now x))) ≡ 0 = ap (λ (o : Option Waiter). bit (is_some o)) (sym c.in-Some-None.ensures') in
    omega (arith, there, was, is, c.remove.ensures.spare)

pub returns-in-Some-Some-clause-items : goal.returns-in-Some-Some-clause-items
returns-in-Some-Some-clause-items c =
    let x = c.args.job.now in
    replaces x (standing_as c.args.standing.now x) refl c.in-Some-Some.field-0-0 c.in-Some-Some.waiter (sym c.in-Some-Some.ensures) (sym c.in-Some-Some.ensures') c.args.waiting.now.items c.replace.new.self.items c.replace.ensures.items
