-- A drill of its run, and one that has not begun.
use Rattle.std.proofs.Common.{◌≡◌, ◌⊎◌, ℕ, List, [], ◌∷◌, Option, Some, None, IfSome, length, take, option_to_list, refl, sym, subst, ◌∙◌, inl, inr, append-nil, arith}
use Rattle.std.proofs.Math.Seq.{take-length}
use Rattle.wm_law.specs.declared.call.Entry.{Entry}
use Rattle.wm_floor.specs.declared.report.Report.{Report}
use Rattle.wm_plan.specs.declared.plan.DrillPlan.{DrillPlan}
use Rattle.wm_run.specs.Run.{IsServed}
use Rattle.wm_run.proofs.Outcomes.{came_not}
use Rattle.wm_traits.specs.Told.{Grows}
use Rattle.wm_runs.specs.Counts.{drill_line}
use Rattle.wm_runs.specs.Drill.{IsDrilled, IsRunOver, drill_settings}
use Rattle.wm_runs.specs.Text.{drill_text}

none_served : IsServed [] [] (Some []) (Some []) (Some []) (Some []) 0 0
none_served = record { asked = record { asks = []; told = refl; stand = refl }; told = refl; misses = omega arith; few = omega arith }

-- where memory was wanting before the run, nothing was begun
not_run : (text : List ℕ) (log : List Entry) → log ≡ [] → IsRunOver text 6 log []
not_run text log none =
    record {
      left = text;
      written = Some [];
      tables = [];
      trail = [] ∷ [];
      asked = Some [];
      told = Some [];
      history = inr (record {
        early = refl;
        none = none;
        left = record { tables = refl; trail = refl };
        came = came_not drill_settings 6 log (Some text) (Some []) (omega arith) (omega arith) (λ is. absurd (omega (arith, is))) none;
      });
      served = subst (λ (l : List Entry). IsServed l [] (Some []) (Some []) (Some []) (Some []) 0 0) (sym none) none_served;
    }

-- a drill of a run over its text
pub drilled : (plan : DrillPlan) (status came : ℕ) (text : List ℕ) (log : List Entry) (kept : List Report) → text ≡ drill_text plan.seed plan.jobs → IsRunOver text came log kept
    → (came ≡ 0) ⊎ (status ≡ came) → IsDrilled plan status log kept
drilled plan status came text log kept is ran passed =
    record { came = came; run = subst (λ (t : List ℕ). IsRunOver t came log kept) is ran; passed = passed }

-- where memory was wanting before the run, so is the drill
not_drilled : (plan : DrillPlan) (log : List Entry) → log ≡ [] → IsDrilled plan 6 log []
not_drilled plan log none = record { came = 6; run = not_run (drill_text plan.seed plan.jobs) log none; passed = inr refl }

pub memory_wanting : (plan : DrillPlan) (status : ℕ) (log : List Entry) (kept : Option Report) → status ≡ 6 → log ≡ [] → kept ≡ None → IsDrilled plan status log (option_to_list kept)
memory_wanting plan status log kept is none unkept =
    subst (λ (n : ℕ). IsDrilled plan n log (option_to_list kept)) (sym is)
    (subst (λ (k : Option Report). IsDrilled plan 6 log (option_to_list k)) (sym unkept) (not_drilled plan log none))

none_more : (written : Option (List ℕ)) → Grows written written []
none_more None = tt
none_more (Some bytes) = sym (append-nil bytes)

-- a drill that has not begun, whatever its words are
pub not_begun : (found : Option DrillPlan) (status code : ℕ) (log : List Entry) (kept : Option Report) → status ≡ code → (code ≡ 2) ⊎ (code ≡ 6) → (code ≡ 2 → found ≡ None) → log ≡ [] → kept ≡ None
    → IfSome found (λ plan. IsDrilled plan status log (option_to_list kept))
not_begun None status code log kept is why wrong none unkept = tt
not_begun (Some plan) status code log kept is (inl two) wrong none unkept = let lacks = wrong two in absurd (cc)
not_begun (Some plan) status code log kept is (inr six) wrong none unkept = memory_wanting plan status log kept (is ∙ six) none unkept

-- where nothing was written, that is the front of any line
pub nothing_first : (found : Option DrillPlan) (log : List Entry) (written : Option (List ℕ)) → IfSome found (λ plan. (n : ℕ) × Grows written written (take n (drill_line plan log)))
nothing_first None log written = tt
nothing_first (Some plan) log written = (0, none_more written)

-- what was written whole is the front of itself
pub whole_first : (old new : Option (List ℕ)) (line bytes : List ℕ) → bytes ≡ line → Grows old new bytes → (n : ℕ) × Grows old new (take n line)
whole_first old new line bytes is h = (length line, subst (λ (xs : List ℕ). Grows old new xs) (is ∙ sym (take-length line)) h)

-- and the front of what should have been written is the line's
pub part_first : (old new : Option (List ℕ)) (line bytes : List ℕ) → bytes ≡ line → ((n : ℕ) × Grows old new (take n bytes)) → (n : ℕ) × Grows old new (take n line)
part_first old new line bytes is h = (h.0, subst (λ (xs : List ℕ). Grows old new (take h.0 xs)) is h.1)
