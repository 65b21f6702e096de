-- What a look for a report changes.
use Rattle.std.specs.Prelude.{ℕ, ◌==◌, Bool, List, [], ◌∷◌, Option, Some, None, Result, Ok, Err, ⊤, if◌then◌else◌}
use Rattle.wm_base.specs.declared.job.Event.{Event}
use Rattle.wm_base.specs.declared.job.Event.TheVariants.{Ended, Used}
use Rattle.wm_traits.specs.declared.fault.Failed.{Failed}
use Rattle.wm_traits.specs.declared.spawner.Told.{Told}
use Rattle.wm_traits.specs.declared.spawner.Told.TheVariants.{Happened}

-- what a look gave
abbrev pub look_told : Result (Option Event) Failed → List Told
look_told (Ok (Some event)) = Happened event ∷ []
look_told (Ok None) = []
look_told (Err failed) = []

-- a fact of the child whose end was reported, if one was
abbrev pub IfEnded : Result (Option Event) Failed → (ℕ → Type 0) → Type 0
IfEnded (Ok (Some (Ended serial exit))) P = P serial
IfEnded (Ok (Some (Used serial))) P = ⊤
IfEnded (Ok None) P = ⊤
IfEnded (Err failed) P = ⊤

-- the list without the first item that passes
abbrev pub without_first : {A : Type 0} → (A → Bool) → List A → List A
without_first test [] = []
without_first test (x ∷ xs) = if test x then xs else x ∷ without_first test xs

-- who is out after a look: a child whose end was reported isn't any more
abbrev pub out_after : Result (Option Event) Failed → List ℕ → List ℕ
out_after (Ok (Some (Ended serial exit))) out = without_first (λ child. child == serial) out
out_after (Ok (Some (Used serial))) out = out
out_after (Ok None) out = out
out_after (Err failed) out = out
