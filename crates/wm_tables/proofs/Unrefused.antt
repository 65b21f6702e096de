-- What isn't refused, and what it makes then.
use Rattle.std.proofs.Common.{◌≡◌, ℕ, ◌<◌, ◌≤◌, ◌&&◌, ◌||◌, nat_le, Bool, true, false, cond, codes, List, [], ◌∷◌, length, filter, Option, Some, None, is_some, refl, sym, ap, ◌∙◌, arith}
use Rattle.std.specs.Prelude.{⊤}
use Rattle.std.specs.List.{list_any}
use Rattle.std.specs.Option.{option_map_or}
use Rattle.std.proofs.lemmas.Bool.Decides.{nat_tests}
use Rattle.std.proofs.lemmas.Bool.{or_from}
use Rattle.wm_base.specs.declared.qname.QName.{QName}
use Rattle.wm_base.specs.declared.refusal.Kind.{Kind}
use Rattle.wm_base.specs.declared.refusal.Kind.TheVariants as kind
use Rattle.wm_base.specs.declared.refusal.Refusal.{Refusal}
use Rattle.wm_base.specs.declared.refusal.Refusal.TheVariants.{SbsActive, NoObject, Exists, TableFull}
use Rattle.wm_desc.specs.declared.description.Sbsd.{Sbsd}
use Rattle.wm_desc.specs.declared.objects.Objects.{Objects}
use Rattle.wm_desc.specs.Refusals.{by_description, first_refusal, is_full, object_refusal, program_refusal}
use Rattle.wm_desc.specs.Sorted.{IsSortedOnce}
use Rattle.wm_desc.specs.Table.{has_object, is_qcmd, name_of, object_named, qname_cmp, same_qname}
use Rattle.wm_desc.proofs.Tables.{one_name, qname_total}
use Rattle.wm_traits.specs.declared.row.Row.{Row}
use Rattle.wm_law.specs.Fit.{IsCommand}
use Rattle.wm_law.specs.Laws.{IsIn}
use Rattle.wm_law.specs.Machine.{change}
use Rattle.wm_law.specs.Making.{is_in_use, made_unless, unless_in_use}
use Rattle.wm_law.specs.Stepped.{Stepped}
use Rattle.wm_law.specs.declared.command.Command.{Command}
use Rattle.wm_law.specs.declared.state.Sbs.{Sbs}
use Rattle.wm_law.specs.declared.state.State.{State}
use Rattle.wm_rows.specs.Rows.{command_row}
use Rattle.wm_tables.specs.Restart.{Makes}
use Rattle.wm_tables.proofs.OneMore.{next_new}
use Rattle.wm_tables.proofs.Passing.{fewer}

-- no test holds
abbrev pub NoneHolds : List (Bool × Refusal) → Type 0
NoneHolds [] = ⊤
NoneHolds (test ∷ tests) = (test.0 ≡ false) × NoneHolds tests

-- so none of them refuses
pub none_refuses : (tests : List (Bool × Refusal)) → NoneHolds tests → first_refusal tests ≡ None
none_refuses [] h = refl
none_refuses ((true, x) ∷ tests) h = let no_test = h.0 in absurd (cc)
none_refuses ((false, x) ∷ tests) h = none_refuses tests h.1

pub not_full : {X : Type 0} (most : ℕ) (xs : List X) → length xs < most → is_full most xs ≡ false
not_full most xs h = let none : nat_le most (length xs) ≡ false = grind (arith, nat_tests) in none

-- a row's command that isn't refused makes these objects
pub command_makes : (u t : State) (c : Command) (row : Row) (o : Objects) (r : Option Refusal) → change u (codes "QSYS") c ≡ made_unless u o r → r ≡ None → IsCommand c → command_row c ≡ Some row → t ≡ record u { objects = o } → Makes u row t
command_makes u t c row o r does free fit is_row same =
    let result : change u (codes "QSYS") c ≡ made_unless u o None = does ∙ ap (made_unless u o) free in
    record {
      command = c;
      fit = fit;
      is_row = is_row;
      accepted = ap (λ (x : Stepped). x.reply) result;
      makes = same ∙ sym (ap (λ (x : Stepped). x.state) result);
    }

-- an object of a sorted table isn't there yet and has room, where its row doesn't pass
module _ {V : Type 0} (p : QName × V → Bool) (xs : List (QName × V)) (x : QName × V) (sorted : IsSortedOnce name_of qname_cmp xs) (i : IsIn x xs) (free : p x ≡ false) where
  new_object : has_object x.0 (filter p xs) ≡ false
  new_object = next_new (λ (o : QName × V). o.0) qname_cmp qname_total same_qname one_name p xs x sorted i free

  room : length xs ≤ 1000 → is_full 1000 (filter p xs) ≡ false
  room most = let less = fewer p xs x i free in not_full 1000 (filter p xs) (omega arith)

  pub object_free : (k : Kind) → length xs ≤ 1000 → object_refusal k x.0 (filter p xs) ≡ None
  object_free k most = none_refuses ((has_object x.0 (filter p xs), Exists k) ∷ (is_full 1000 (filter p xs), TableFull k 1000) ∷ []) (new_object, (room most, tt))

  pub program_free : is_qcmd x.0 ≡ false → length xs ≤ 1000 → program_refusal x.0 (filter p xs) ≡ None
  program_free other most = none_refuses ((is_qcmd x.0 || has_object x.0 (filter p xs), Exists kind.Pgm) ∷ (is_full 1000 (filter p xs), TableFull kind.Pgm 1000) ∷ []) (or_from (is_qcmd x.0) (has_object x.0 (filter p xs)) other new_object, (room most, tt))

-- where no subsystem is started, a description may be changed
unused_by : (known : Bool) (r : Option Refusal) → r ≡ None → cond (known && false) (Some SbsActive) r ≡ None
unused_by true r e = e
unused_by false r e = e

pub never_in_use : (u : State) (sbsd : QName) (r : Option Refusal) → u.started ≡ [] → r ≡ None → unless_in_use u sbsd r ≡ None
never_in_use u sbsd r none e =
    let idle : is_in_use u sbsd ≡ false = ap (λ (bs : List Sbs). list_any (λ b. same_qname b.sbsd sbsd) bs) none in
    ap (λ (t : Bool). cond (is_some (object_named sbsd u.objects.sbsds) && t) (Some SbsActive) r) idle ∙ unused_by (is_some (object_named sbsd u.objects.sbsds)) r e

pub described_free : (o : Objects) (sbsd : QName) (refusal : Sbsd → Option Refusal) (d : Sbsd) → object_named sbsd o.sbsds ≡ Some d → refusal d ≡ None → by_description o sbsd refusal ≡ None
described_free o sbsd refusal d named free = ap (λ (x : Option Sbsd). option_map_or refusal x (Some (NoObject kind.Sbsd))) named ∙ free
