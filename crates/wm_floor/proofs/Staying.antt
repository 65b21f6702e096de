-- What stays as it was told.
use Rattle.std.proofs.Common.{◌++◌, List, Option, Some, None, refl, ap, ◌∙◌}
use Rattle.wm_traits.specs.Told.{Grows, Stays}

-- what is told is as it is
pub Stays-same : {A : Type 0} (told : Option A) → Stays told told
Stays-same None = tt
Stays-same (Some now) = refl

-- what has grown since it was as it is told
pub Stays-grows : {A : Type 0} (old left new : Option (List A)) (more : List A) → Stays old left → Grows left new more → Grows old new more
Stays-grows old left None more h g = tt
Stays-grows old None (Some now) more h g = absurd g
Stays-grows None (Some then) (Some now) more h g = absurd h
Stays-grows (Some was) (Some then) (Some now) more h g = g ∙ ap (λ (xs : List _). xs ++ more) h
