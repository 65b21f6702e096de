-- What is cut from unread bytes, as a connection goes by it.
use Rattle.std.specs.Prelude.{ℕ, Bool, false, List, drop}
use Rattle.wm_http.specs.Cutting.{IsCut}
use Rattle.wm_http.specs.declared.request.Cut.{Cut}
use Rattle.wm_http.specs.declared.request.Cut.TheVariants.{ReadOn, Whole, Refused}

-- the unread bytes are no whole request yet
abbrev pub IsInside : List ℕ → Type 0
IsInside unread = (most : ℕ) × IsCut unread (ReadOn most)

-- whether the request asks for the connection's end
abbrev pub asks_close : Cut → Bool
asks_close (ReadOn most) = false
asks_close (Whole request) = request.closes
asks_close (Refused why) = false

-- the bytes behind what was cut
abbrev pub behind_cut : Cut → List ℕ → List ℕ
behind_cut (ReadOn most) bytes = bytes
behind_cut (Whole request) bytes = drop request.len bytes
behind_cut (Refused why) bytes = bytes
