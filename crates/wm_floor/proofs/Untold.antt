-- What isn't told isn't told later.
use Rattle.std.proofs.Common.{◌≡◌, List, Option, Some, None, refl}
use Rattle.wm_traits.specs.Told.{Grows, Stays}

pub grown_untold : {A : Type 0} (old new : Option (List A)) (more : List A) → Grows old new more → old ≡ None → new ≡ None
grown_untold None None more h is = refl
grown_untold None (Some now) more h is = absurd h
grown_untold (Some x) None more h is = refl
grown_untold (Some x) (Some now) more h is = absurd (cc)

pub stays_untold : {A : Type 0} (old new : Option A) → Stays old new → old ≡ None → new ≡ None
stays_untold None None h is = refl
stays_untold None (Some now) h is = absurd h
stays_untold (Some x) None h is = refl
stays_untold (Some x) (Some now) h is = absurd (cc)
