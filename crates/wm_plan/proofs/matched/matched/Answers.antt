use Rattle.std.proofs.Common.{◌∙◌, ℕ, List, ap, map, sym}
use Rattle.std.specs.Prelude.{string_bytes}
use Rattle.std.specs.Borrow.{Bor}
use Rattle.clap.specs.Matches.{found_of}
use Rattle.clap.specs.Simple.{App, is_simple, matches_of}
use Rattle.clap.specs.Walk.{first_of, is_empty}
use Rattle.clap.specs.Faults.{fault_of, is_simple_and_free}
use Rattle.clap.proofs.WalkLemmas.{first_value-rows}
use Rattle.wm_plan.proofs.Answered.{fault_is, first_is, not_given, rows_are}
use Rattle.wm_plan.proofs.Flat.{told_app, told_simple}
use Rattle.wm_plan.proofs.matched.matched.Goals as goal

pub returns-in-Ok-clause-given : goal.returns-in-Ok-clause-given
returns-in-Ok-clause-given c =
    let names = map (λ (name : Bor (List ℕ)). name.now) c.args.names.now in
    let options = map string_bytes c.args.options.now in
    let told = c.in_ok-command.ensures in
    let none = c.in-Ok.ensures.kinds (ap is_simple_and_free told ∙ told_app names) in
    sym (fault_is names options c.requires.whole) ∙ ap is_empty (sym (ap (λ (a : App). fault_of a options) told) ∙ none)

pub returns-in-Ok-clause-values : goal.returns-in-Ok-clause-values
returns-in-Ok-clause-values c name =
    let names = map (λ (n : Bor (List ℕ)). n.now) c.args.names.now in
    let options = map string_bytes c.args.options.now in
    let told = c.in_ok-command.ensures in
    let none = c.in-Ok.ensures.kinds (ap is_simple_and_free told ∙ told_app names) in
    let given = sym (fault_is names options c.requires.whole) ∙ ap is_empty (sym (ap (λ (a : App). fault_of a options) told) ∙ none) in
    let rows = (c.in-Ok.ensures.matches (ap is_simple told ∙ told_simple names)).0 in
    first_value-rows (found_of c.in-Ok.matches) name
    ∙ ap (first_of name) (rows ∙ ap (λ (a : App). matches_of a options) told ∙ rows_are names options c.requires.whole given)
    ∙ first_is name options

pub returns-clause-bad : goal.returns-clause-bad
returns-clause-bad c _ =
    let names = map (λ (name : Bor (List ℕ)). name.now) c.args.names.now in
    let options = map string_bytes c.args.options.now in
    let told = c.in_ok-command.ensures in
    let some = c.in-Err.ensures.kinds (ap is_simple_and_free told ∙ told_app names) in
    sym (fault_is names options c.requires.whole) ∙ ap is_empty (sym (ap (λ (a : App). fault_of a options) told))
    ∙ not_given _ _ some (λ memory. c.in_default.not-OutOfMemory (c.kind.ensures ∙ memory))
