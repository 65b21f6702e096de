-- What a server has written.
use Rattle.std.proofs.Common.{ℕ, List, take, Option, Result, Ok, Err}
use Rattle.std.specs.Prelude.{IsErr}
use Rattle.wm_traits.specs.Told.{Grows}
use Rattle.wm_traits.proofs.Telling.{Grows-none}
use Rattle.wm_serve.specs.Ending.{WritesReady, ready}

module _ {T E : Type 0} where
  -- the first bytes were, whatever came of it
  pub writes_part : (r : Result T E) (before now : Option (List ℕ)) → WritesReady r before now → (n : ℕ) × Grows before now (take n ready)
  writes_part (Ok u) before now h = (6, h.0)
  writes_part (Err e) before now h = h.1

  -- where it ended early that is all that is said
  pub writes_err : (r : Result T E) (before now : Option (List ℕ)) → IsErr r → (n : ℕ) × Grows before now (take n ready) → WritesReady r before now
  writes_err (Ok u) before now is part = absurd (cc)
  writes_err (Err e) before now is part = (tt, part)

-- all was, whatever came behind it
pub writes_on : {T E : Type 0} (r : Result T E) (before now : Option (List ℕ)) → Grows before now ready → WritesReady r before now
writes_on (Ok x) before now all = (all, tt)
writes_on (Err e) before now all = (tt, (6, all))

-- nothing was written
pub writes_none : (told : Option (List ℕ)) → (n : ℕ) × Grows told told (take n ready)
writes_none told = (0, Grows-none told)
