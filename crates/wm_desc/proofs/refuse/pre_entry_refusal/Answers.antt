use Rattle.std.proofs.Common.{◌≡◌, Bool, true, false, List, [], ◌∷◌, ◌++◌, Some, sym}
use Rattle.wm_base.specs.declared.refusal.Kind.TheVariants as kind
use Rattle.wm_base.specs.declared.refusal.Refusal.{Refusal}
use Rattle.wm_base.specs.declared.refusal.Refusal.TheVariants.{TableFull}
use Rattle.wm_desc.specs.Refusals.{first_refusal, is_full, relation_tests}
use Rattle.wm_desc.proofs.refuse.pre_entry_refusal.Goals as goal

-- what answers among the first tests answers among all
first_is_kept : (tests more : List (Bool × Refusal)) (refusal : Refusal) → first_refusal tests ≡ Some refusal → first_refusal (tests ++ more) ≡ Some refusal
first_is_kept [] more refusal e = absurd (cc)
first_is_kept ((true, _) ∷ tests) more refusal e = e
first_is_kept ((false, _) ∷ tests) more refusal e = first_is_kept tests more refusal e

pub returns-in-Some : goal.returns-in-Some
returns-in-Some c = sym (first_is_kept (relation_tests c.args.entry.now) ((is_full 100 c.args.pres.now, TableFull kind.Pje 100) ∷ []) c.in-Some.refusal (sym c.in-Some.ensures))
