-- What lies in a `Request`.
use Rattle.std.specs.Prelude.{◌≡◌}
use Rattle.wm_clwords.specs.Called.{called_pgm}
use Rattle.wm_clwords.specs.declared.request.Request.TheInside.{Inside}

-- its program is the one that its text calls
pub record IsRequest (r : Inside) : Type 0 where
  pub pgm : r.pgm ≡ called_pgm r.text
