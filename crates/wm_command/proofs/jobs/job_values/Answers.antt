-- A field that may be left out is shown as its row's word or as its value.
use Rattle.std.proofs.Common.{rules, ◌≡◌, Option, Some, None, ap, ◌∙◌}
use Rattle.std.specs.Option.{MatchOption, IsSomeAnd}
use Rattle.wm_command.specs.declared.row.Special.{Special}
use Rattle.wm_command.specs.declared.row.Special.TheVariants as special
use Rattle.wm_command.specs.declared.value.Value.{Value}
use Rattle.wm_command.specs.declared.value.Value.TheVariants as value
use Rattle.wm_command.specs.Fields.{word_or, or_special}
use Rattle.wm_command.specs.Jobs.{sbmjob_values, chgjob_values}
use Rattle.wm_command.proofs.jobs.job_values.Goals as goal

shown : {V : Type 0} (s : Special) (made : V → Value) (o : Option V) (m : Option Value) (r : Value)
    → MatchOption o (m ≡ None) (λ x. IsSomeAnd m (λ v. v ≡ made x)) → r ≡ word_or s m → r ≡ or_special s made o
shown s made None m r h e = e ∙ ap (word_or s) h
shown s made (Some x) None r h e = absurd h
shown s made (Some x) (Some v) r h e = e ∙ h

pub returns-in_ok-rtgdta-in-Sbmjob : goal.returns-in_ok-rtgdta-in-Sbmjob
unfolding sbmjob_values
returns-in_ok-rtgdta-in-Sbmjob c =
    let s = c.in-Sbmjob.c in
    let job = shown special.Jobd value.Name s.job c.map.result c.word_or.result c.map.ensures.cases c.word_or.ensures in
    let jobq = shown special.Jobd value.Object s.jobq c.map-in-Sbmjob.result c.word_or-in-Sbmjob.result c.map-in-Sbmjob.ensures.cases c.word_or-in-Sbmjob.ensures in
    let hold = shown special.Jobd value.Flag s.hold c.map-in-Sbmjob-2.result c.word_or-in-Sbmjob-3.result c.map-in-Sbmjob-2.ensures.cases c.word_or-in-Sbmjob-3.ensures in
    search rules

pub returns-in-Chgjob : goal.returns-in-Chgjob
unfolding chgjob_values
returns-in-Chgjob c =
    let s = c.in-Chgjob.c in
    let jobq = shown special.Same value.Object s.jobq c.map-in-Chgjob.result c.word_or-in-Chgjob-2.result c.map-in-Chgjob.ensures.cases c.word_or-in-Chgjob-2.ensures in
    let scddate = shown special.Same value.Date s.scddate c.map-in-Chgjob-2.result c.word_or-in-Chgjob-3.result c.map-in-Chgjob-2.ensures.cases c.word_or-in-Chgjob-3.ensures in
    let scdtime = shown special.Same value.Time s.scdtime c.map-in-Chgjob-3.result c.word_or-in-Chgjob-4.result c.map-in-Chgjob-3.ensures.cases c.word_or-in-Chgjob-4.ensures in
    search rules
