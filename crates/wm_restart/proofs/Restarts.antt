-- What holds of the state that good rows make.
use Rattle.std.proofs.Common.{◌≡◌, ℤ, suc, ◌==◌, true, false, List, [], ◌∷◌, length, All, refl, inl, inr, arith}
use Rattle.std.proofs.lemmas.List.Elements.{All-nil, All-cons}
use Rattle.std.proofs.lemmas.Bool.{eqb-true}
use Rattle.wm_traits.specs.declared.row.Row.{Row}
use Rattle.wm_law.specs.Counts.{is_active}
use Rattle.wm_law.specs.Laws.{IsIn}
use Rattle.wm_law.specs.declared.job.Job.{Job}
use Rattle.wm_law.specs.declared.state.State.{State}
use Rattle.wm_rows.specs.JobText.{job_row}
use Rattle.wm_rows.specs.Stored.{stored_of}
use Rattle.wm_tables.specs.Restart.{AreGood}
use Rattle.wm_tables.proofs.Building.{built}
use Rattle.wm_tables.proofs.NewRows.{job_stands}
use Rattle.wm_tables.proofs.RowOrder.{ascending}
use Rattle.wm_tables.proofs.SameRows.{there_found}
use Rattle.wm_restart.specs.Written.{Stands}

all_of : {X : Type 0} (P : X → Type 0) (xs : List X) → ((x : X) → IsIn x xs → P x) → All P xs
all_of P [] h = All-nil P
all_of P (x ∷ xs) h = All-cons P x xs (h x (inl refl)) (all_of P xs (λ y i. h y (inr i)))

pub none_active : (offset : ℤ) (rows : List Row) (s : State) → AreGood offset rows s → All (λ j. is_active j.phase ≡ false) s.jobs
none_active offset rows s good =
    let b = built offset rows s (ascending rows good.order) good.read in
    all_of (λ (j : Job). is_active j.phase ≡ false) s.jobs b.jobs.idle

-- a job that no restart has ended has its row among the good ones
pub stand : (offset : ℤ) (rows : List Row) (s : State) → AreGood offset rows s → All (Stands rows) s.jobs
stand offset rows s good = all_of (Stands rows) s.jobs (λ j i. λ other. there_found rows (job_row (stored_of j)) (job_stands offset rows s good j i other))

-- rows of which there are none
pub none_there : (rows : List Row) → (length rows == 0) ≡ true → rows ≡ []
none_there [] h = refl
none_there (row ∷ rows) h = let none : suc (length rows) ≡ 0 = eqb-true (suc (length rows)) 0 h in absurd (omega arith)
