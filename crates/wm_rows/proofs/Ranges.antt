-- The causes that have no value keep their ranges.
use Rattle.std.proofs.Common.{ℕ, Bool, true, false, cond, ◌==◌, Option, Some, IfSome, find, List, [], ◌∷◌}
use Rattle.wm_base.specs.declared.job.EndCause.{EndCause}
use Rattle.wm_base.specs.EndCause.{end_cause_number}
use Rattle.wm_rows.specs.declared.values.TheConstants.{PLAIN}
use Rattle.wm_rows.specs.Reading.{plain_cause}
use Rattle.wm_law.specs.Ranges.{IsCause}

one_of : (test : Bool) (cause : EndCause) (others : Option EndCause) → IsCause cause → IfSome others IsCause → IfSome (cond test (Some cause) others) IsCause
one_of true cause others h g = h
one_of false cause others h g = g

abbrev AreCauses : List EndCause → Type 0
AreCauses [] = Unit {0}
AreCauses (cause ∷ causes) = IsCause cause × AreCauses causes

found_in : (test : EndCause → Bool) (causes : List EndCause) → AreCauses causes → IfSome (find test causes) IsCause
found_in test [] h = tt
found_in test (cause ∷ causes) h = one_of (test cause) cause (find test causes) h.0 (found_in test causes h.1)

pub plain_in_range : (number : ℕ) → IfSome (plain_cause number) IsCause
plain_in_range number =
    found_in (λ cause. end_cause_number cause == number) PLAIN
    (tt, (tt, (tt, (tt, (tt, (tt, (tt, (tt, (tt, (tt, (tt, (tt, (tt, (tt, tt))))))))))))))
