-- A row is that of one thing.
use Rattle.std.proofs.Common.{◌≡◌, ℕ, ◌<◌, ◌^◌, List, Option, Some, None, Result, Ok, sym, ap, subst, ◌∙◌}
use Rattle.std.specs.Fmt.{decimal}
use Rattle.std.specs.Option.{option_map}
use Rattle.wm_base.proofs.Tests.{Some-injective}
use Rattle.wm_clwords.specs.Faults.{IsCommand as IsCommandText}
use Rattle.wm_clwords.specs.Items.{list_marks}
use Rattle.wm_traits.specs.declared.row.Row.{Row}
use Rattle.wm_law.specs.Fit.{IsCommand}
use Rattle.wm_law.specs.declared.command.Command.{Command}
use Rattle.wm_command.specs.Print.{command_text}
use Rattle.wm_command.specs.Printed.{IsFit, PrintedCommandIsRead}
use Rattle.wm_command.specs.Shown.{verb_of}
use Rattle.wm_command.specs.Table.{change_word}
use Rattle.wm_command.specs.declared.fault.CmdFault.{CmdFault}
use Rattle.wm_command.specs.declared.line.Line.{Line}
use Rattle.wm_command.specs.declared.line.Line.TheVariants.{Change}
use Rattle.wm_rows.specs.Places.{place_of}
use Rattle.wm_rows.specs.Rows.{command_row, made_row}
use Rattle.wm_rows.specs.declared.place.Place.{Place}
use Rattle.wm_rows.specs.Reading.{number_of}
use Rattle.wm_rows.proofs.Digits.{number_back}
use Rattle.wm_tables.proofs.CommandsFit.{row_commands_fit}
use Rattle.wm_tables.proofs.Trees.{items_of}

same_line : (c d : Command) → ◌≡◌ {A = Result Line CmdFault} (Ok (Change c)) (Ok (Change d)) → c ≡ d
same_line c d e = cc

-- a text is that of one command: its items are read as that command's line
text_of_one : PrintedCommandIsRead → (c d : Command) → IsFit c → IsFit d → command_text c ≡ command_text d → c ≡ d
text_of_one printed c d f g e =
    let name = change_word (verb_of c) in
    let p = printed c f in
    let q = printed d g in
    let tree = items_of (command_text c) name p.0.0 p.0.1 in
    let spelled : IsCommandText (command_text c) name (list_marks tree.0) = subst (IsCommandText (command_text c) name) (sym tree.1) p.0.1 in
    same_line c d (sym (p.1 name name tree.0 spelled) ∙ q.1 name name tree.0 (subst (λ (text : List ℕ). IsCommandText text name (list_marks tree.0)) e spelled))

body_of : (c : Command) (o : Option Place) (row : Row) → option_map (λ place. made_row place c) o ≡ Some row → command_text c ≡ row.body
body_of c None row e = absurd (cc)
body_of c (Some place) row e = ap (λ (r : Row). r.body) (Some-injective (made_row place c) row e)

-- a row of an object or an entry is that of one command
pub row_of_one : PrintedCommandIsRead → (c d : Command) (row : Row) → IsCommand c → IsCommand d → command_row c ≡ Some row → command_row d ≡ Some row → c ≡ d
row_of_one printed c d row f g e h = text_of_one printed c d (row_commands_fit c row f e) (row_commands_fit d row g h) (body_of c (place_of c) row e ∙ sym (body_of d (place_of d) row h))

-- digits are those of one number
pub digits_of_one : (n m : ℕ) → n < 2 ^ 64 → m < 2 ^ 64 → decimal n ≡ decimal m → n ≡ m
digits_of_one n m h k e = Some-injective n m (sym (number_back n h) ∙ ap number_of e ∙ number_back m k)
