-- A command that is read keeps the forms and the ranges of the table.
use Rattle.std.proofs.Common.{◌≡◌, ℕ, true, List, drop, Option, Some, None, Ok, subst, sym, refl}
use Rattle.std.specs.List.{list_all}
use Rattle.std.proofs.lemmas.Bool.{false≢true}
use Rattle.wm_base.specs.declared.refusal.Key.TheVariants as key
use Rattle.wm_clwords.specs.declared.tree.Item.{Item}
use Rattle.wm_law.specs.declared.command.Command.{Command}
use Rattle.wm_command.specs.declared.line.Line.{Line}
use Rattle.wm_command.specs.declared.line.Line.TheVariants as line
use Rattle.wm_command.specs.declared.fault.CmdFault.{CmdFault}
use Rattle.wm_command.specs.declared.row.Default.TheVariants as default
use Rattle.wm_command.specs.declared.row.Row.{Row}
use Rattle.wm_command.specs.declared.row.Special.TheVariants as special
use Rattle.wm_command.specs.declared.value.Given.{Given}
use Rattle.wm_command.specs.declared.verb.ChangeVerb.{ChangeVerb}
use Rattle.wm_command.specs.declared.verb.ChangeVerb.TheVariants as change
use Rattle.wm_command.specs.declared.verb.ReadVerb.{ReadVerb}
use Rattle.wm_command.specs.Each.{go_on}
use Rattle.wm_command.specs.Fields.{object_or, value_of, object_in, name_in, text_in, number_in, limit_in, flag_in, ending_in, job_in, compare_in, date_in, time_in, priority_in, is_word_in, class_in, maxpty_in, request_in}
use Rattle.wm_command.specs.Line.{change_named, read_named, own_fault, unless, read_by, read_made, line_by, line_of}
use Rattle.wm_command.specs.Made.{change_made}
use Rattle.wm_command.specs.Objects.{crtcls, crtpgmref, crtjobd, crtsbsd, crtcls_values, crtpgmref_values, crtjobd_values, crtsbsd_values}
use Rattle.wm_command.specs.Entries.{addjobqe, addrtge, addaje, addpje, rmvjobqe, rmvrtge, rmvaje, rmvpje, addjobqe_values, addrtge_values, addaje_values, addpje_values, rmvjobqe_values, rmvrtge_values, rmvaje_values, rmvpje_values}
use Rattle.wm_command.specs.Control.{endsbs, strpj, endpj, evoke, pwrdwnsys, endsbs_values, strpj_values, endpj_values, evoke_values, pwrdwnsys_values}
use Rattle.wm_command.specs.Jobs.{sbmjob, chgjob, endjob, sbmjob_values, chgjob_values, endjob_values}
use Rattle.wm_command.specs.Printed.{HasTexts, IsQualified, IsFit, FitRows, LineHasTexts, KeepsForms, LineIsReadBack, shown_rows}
use Rattle.wm_command.specs.Reading.{row_named, same_key, all_given}
use Rattle.wm_command.specs.Table.{change_rows, read_rows}
use Rattle.wm_command.proofs.ReadBack.{printed_back}
use Rattle.wm_command.proofs.ReadForms.{err_ok, ok_same}
use Rattle.wm_command.proofs.TableForms.{RightRows, AllHave, go_good, right_rows, table_has}
use Rattle.wm_command.proofs.FieldForms.{is_made, has_class, TextsOf, shown_of, rows_fit, have_shown, sbsd_fits, text_or_word, request_fits}

-- the values of a table's shown keys
abbrev shown : ChangeVerb → List Row
shown verb = shown_rows (change_rows verb)

all_fit : (verb : ChangeVerb) (g : List Given) → AllHave (change_rows verb) g → list_all is_made (shown verb) ≡ true → (has_class (shown verb) ≡ true → IsQualified (object_or (value_of key.Sbsd g))) → TextsOf (shown verb) g
    → FitRows (shown verb) (shown_of (shown verb) g)
all_fit verb g h made sbsd texts = rows_fit (shown verb) g (have_shown (change_rows verb) g h) made sbsd texts

-- each table keeps to what its rows have to keep to
right : (verb : ChangeVerb) → RightRows (change_rows verb) (change_rows verb)
unfolding change_rows row_named same_key
right change.Crtcls = right_rows (change_rows change.Crtcls) (change_rows change.Crtcls) refl refl
right verb = right_rows (change_rows verb) (change_rows verb) refl refl

-- what is shown of a command is what its keys have, row by row
made_fits : (verb : ChangeVerb) (g : List Given) → AllHave (change_rows verb) g → HasTexts (change_made verb g) → IsFit (change_made verb g)
unfolding change_rows object_in name_in text_in number_in limit_in flag_in ending_in job_in compare_in date_in time_in priority_in is_word_in class_in maxpty_in request_in crtcls crtcls_values crtpgmref crtpgmref_values crtjobd crtjobd_values crtsbsd crtsbsd_values addjobqe addjobqe_values addrtge addrtge_values addaje addaje_values addpje addpje_values rmvjobqe rmvjobqe_values rmvrtge rmvrtge_values rmvaje rmvaje_values rmvpje rmvpje_values endsbs endsbs_values sbmjob sbmjob_values chgjob chgjob_values endjob endjob_values strpj strpj_values endpj endpj_values evoke evoke_values pwrdwnsys pwrdwnsys_values
made_fits change.Sbmjob g h t =
    record {
      values = (request_fits g h.0 h.1.0 t.0, rows_fit (drop 2 (change_rows change.Sbmjob)) g h.1.1 refl (λ e. absurd (false≢true e)) (text_or_word special.Jobd _ t.1, tt));
      whole = tt;
    }
made_fits change.Addjobqe g h t = record { values = all_fit change.Addjobqe g h refl (λ e. absurd (false≢true e)) tt; whole = refl }
made_fits change.Crtpgmref g h t = record { values = all_fit change.Crtpgmref g h refl (λ e. absurd (false≢true e)) (t, tt); whole = tt }
made_fits change.Crtjobd g h t = record { values = all_fit change.Crtjobd g h refl (λ e. absurd (false≢true e)) (t.0, (text_or_word special.None _ t.1, tt)); whole = tt }
made_fits change.Addrtge g h t = record { values = all_fit change.Addrtge g h refl (λ e. sbsd_fits default.Required g refl h.0) (t, tt); whole = tt }
made_fits change.Addpje g h t = record { values = all_fit change.Addpje g h refl (λ e. sbsd_fits default.Required g refl h.0) tt; whole = tt }
made_fits verb g h t = record { values = all_fit verb g h refl (λ e. absurd (false≢true e)) tt; whole = tt }

-- the line of a tree

not_change : (a : _) (c : Command) → line.Read a ≡ line.Change c → ⊥
not_change a c e = cc

same_change : (b c : Command) → line.Change b ≡ line.Change c → b ≡ c
same_change b c e = cc

unless_good : (o : Option CmdFault) (l out : Line) → unless o l ≡ Ok out → l ≡ out
unless_good None l out e = ok_same l out e
unless_good (Some f) l out e = absurd (err_ok f out e)

change_fits : (verb : ChangeVerb) (items : List Item) (c : Command) → go_on (all_given (change_rows verb) items) (λ given. unless (own_fault verb given) (line.Change (change_made verb given))) ≡ Ok (line.Change c)
    → HasTexts c → IsFit c
change_fits verb items c e t =
    let g = go_good (all_given (change_rows verb) items) (λ given. unless (own_fault verb given) (line.Change (change_made verb given))) (line.Change c) e in
    let same = same_change (change_made verb g.0) c (unless_good (own_fault verb g.0) (line.Change (change_made verb g.0)) (line.Change c) g.2) in
    subst IsFit same (made_fits verb g.0 (table_has (change_rows verb) items g.0 (right verb) g.1) (subst HasTexts (sym same) t))

read_no_change : (user : List ℕ) (items : List Item) (o : Option ReadVerb) (c : Command) → read_by user items o ≡ Ok (line.Change c) → ⊥
read_no_change user items None c e = err_ok _ (line.Change c) e
read_no_change user items (Some verb) c e =
    let g = go_good (all_given (read_rows verb) items) (λ given. Ok (line.Read (read_made user verb given))) (line.Change c) e in
    not_change (read_made user verb g.0) c (ok_same (line.Read (read_made user verb g.0)) (line.Change c) g.2)

line_fits : (user name : List ℕ) (items : List Item) (o : Option ChangeVerb) (c : Command) → line_by user name items o ≡ Ok (line.Change c) → HasTexts c → IsFit c
line_fits user name items None c e t = absurd (read_no_change user items (read_named name) c e)
line_fits user name items (Some verb) c e t = change_fits verb items c e t

pub read_fits : (user name : List ℕ) (items : List Item) (l : Line) → line_of user name items ≡ Ok l → LineHasTexts l → KeepsForms l
read_fits user name items (line.Change c) e t = line_fits user name items (change_named name) c e t
read_fits user name items (line.Read ask) e t = tt

pub fit_back : (l : Line) → KeepsForms l → LineIsReadBack l
fit_back (line.Change c) h = printed_back c h
fit_back (line.Read ask) h = tt
