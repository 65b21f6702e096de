use Rattle.std.proofs.Common.{rules, ◌≡◌, Ok}
use Rattle.wm_command.specs.Line.{line_of}
use Rattle.wm_command.specs.Printed.{FitsMachine, KeepsForms}
use Rattle.wm_command.proofs.CommandForms.{read_fits, fit_back}
use Rattle.wm_command.specs.declared.line.Line.{Line}
use Rattle.wm_command.specs.declared.line.Line.TheVariants as line
use Rattle.wm_command.proofs.LawForms.{machine_command}
use Rattle.wm_command.proofs.from_tree.command.Goals as goal

forms : (c : goal.In_ok-line) → KeepsForms c.in_ok-line.line
forms c =
    let is : line_of c.args.user.now c.args.tree.now.name c.args.tree.now.items.items ≡ Ok c.in_ok-line.line = search rules in
    read_fits c.args.user.now c.args.tree.now.name c.args.tree.now.items.items c.in_ok-line.line is c.in_ok-line.ensures.texts

pub returns-in-Some-clause-forms : goal.returns-in-Some-clause-forms
returns-in-Some-clause-forms c = forms c

pub returns-in-Some-clause-back : goal.returns-in-Some-clause-back
returns-in-Some-clause-back c = fit_back c.in_ok-line.line (forms c)

machine : (l : Line) → KeepsForms l → FitsMachine l
machine (line.Change c) h = machine_command c h
machine (line.Read ask) h = tt

pub returns-in-Some-clause-machine : goal.returns-in-Some-clause-machine
returns-in-Some-clause-machine c = machine c.in_ok-line.line (forms c)
