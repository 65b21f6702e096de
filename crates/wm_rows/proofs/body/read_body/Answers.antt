use Rattle.std.proofs.Common.{rules, ◌≡◌, ◌≢◌, ℕ, List, subst, sym}
use Rattle.wm_clwords.specs.Faults.{IsCommand}
use Rattle.wm_clwords.specs.Grammar.{Mark}
use Rattle.wm_clwords.specs.declared.fault.ClFault.TheVariants.{NoMemory}
use Rattle.wm_command.specs.Print.{command_text}
use Rattle.wm_command.specs.Printed.{IsFit, PrintedCommandIsRead}
use Rattle.wm_command.specs.Shown.{verb_of}
use Rattle.wm_command.specs.Table.{change_word}
use Rattle.wm_law.specs.declared.command.Command.{Command}
use Rattle.wm_rows.proofs.body.read_body.Goals as goal

-- a canonical text spells a command
spelled : PrintedCommandIsRead → (text : List ℕ) (c : Command) → IsFit c → text ≡ command_text c → (marks : List Mark) × IsCommand text (change_word (verb_of c)) marks
spelled law text c fit same =
    let marked = (law c fit).0 in
    (marked.0, subst (λ (t : List ℕ). IsCommand t (change_word (verb_of c)) marked.0) (sym same) marked.1)

-- so it has no fault
pub returns-in-Err : goal.returns-in-Err
returns-in-Err c =
    let other : c.in-Err.field-0 ≢ NoMemory = search rules in
    record {
      fit = tt;
      exactly = λ command fit same.
          let s = spelled c.printed_command_is_read.ensures c.args.body.now command fit same in
          absurd (other (c.in-Err.ensures.command (change_word (verb_of command)) s.0 s.1));
    }
