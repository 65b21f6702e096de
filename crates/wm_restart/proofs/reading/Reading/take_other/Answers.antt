use Rattle.std.proofs.Common.{◌≡◌, Option, Some, IfSome, sym, subst, ap, inl, ◌∙◌}
use Rattle.std.proofs.lemmas.Result.{IfOk-weaker}
use Rattle.wm_rows.specs.declared.stored.Stored.{Stored}
use Rattle.wm_rows.specs.declared.stored.Stored.TheVariants as stored
use Rattle.wm_rows.specs.Fitting.{IsFitting}
use Rattle.wm_rows.specs.Rows.{row_of}
use Rattle.wm_restart.proofs.TakenAs.{if_both, none_taken, one_taken, refused}
use Rattle.wm_restart.proofs.reading.Reading.take_other.Goals as goal

pub returns-in-None-clause-no : goal.returns-in-None-clause-no
returns-in-None-clause-no c = λ _. none_taken c.args.row.now c.args.self.now c.requires (λ x f e. sym c.in-None.is ∙ c.in_ok-read_row.ensures.exactly x f e)

pub returns-in-Some-Made-clause-yes : goal.returns-in-Some-Made-clause-yes
returns-in-Some-Made-clause-yes c =
    let same = c.in-Some-Made.is ∙ ap (λ (x : Stored). Some x) c.in-Some-Made.field-0-is in
    let fits = subst (λ (o : Option Stored). IfSome o IsFitting) same c.in_ok-read_row.ensures.fitting in
    let is_row = subst (λ (o : Option Stored). IfSome o (λ x. row_of x ≡ Some c.args.row.now)) same c.in_ok-read_row.ensures.value in
    if_both _ _ _ (λ b iff state. λ t. inl (record { command = c.in-Some-Made.command; fit = fits.1; is_row = is_row; accepted = iff.0 t; makes = state t })) c.make.result c.make.ensures.made c.make.ensures.state

pub returns-in-Some-Made-clause-no : goal.returns-in-Some-Made-clause-no
returns-in-Some-Made-clause-no c =
    let same = c.in-Some-Made.is ∙ ap (λ (x : Stored). Some x) c.in-Some-Made.field-0-is in
    IfOk-weaker c.make.result _ _ (λ b iff. λ not. one_taken c.args.row.now c.args.self.now c.requires (stored.Made c.in-Some-Made.command) (λ x f e. sym same ∙ c.in_ok-read_row.ensures.exactly x f e) (λ t. refused _ b iff not t)) c.make.ensures.made

pub returns-in-Some-Held-clause-no : goal.returns-in-Some-Held-clause-no
returns-in-Some-Held-clause-no c =
    let same = c.in-Some-Held.is ∙ ap (λ (x : Stored). Some x) c.in-Some-Held.field-0-is in
    IfOk-weaker c.hold.result _ _ (λ b iff. λ not. one_taken c.args.row.now c.args.self.now c.requires (stored.Held c.in-Some-Held.jobq) (λ x f e. sym same ∙ c.in_ok-read_row.ensures.exactly x f e) (λ t. refused _ b iff not t)) c.hold.ensures.held

pub returns-in-Some-Counter-clause-no : goal.returns-in-Some-Counter-clause-no
returns-in-Some-Counter-clause-no c =
    let same = c.in-Some-Counter.is ∙ ap (λ (x : Stored). Some x) c.in-Some-Counter.field-0-is in
    λ not. one_taken c.args.row.now c.args.self.now c.requires (stored.Counter c.in-Some-Counter.counter c.in-Some-Counter.n) (λ x f e. sym same ∙ c.in_ok-read_row.ensures.exactly x f e) (λ t. refused _ c.count.result c.count.ensures.good not t)
