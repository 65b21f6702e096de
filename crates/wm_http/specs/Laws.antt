-- Laws of what is cut: the same requests, in whatever pieces the bytes come.
use Rattle.std.specs.Prelude.{◌≡◌, ℕ, List, ◌++◌}
use Rattle.wm_http.specs.Cutting.{IsCut}
use Rattle.wm_http.specs.declared.request.Cut.{Cut}
use Rattle.wm_http.specs.declared.request.Cut.TheVariants.{ReadOn, Whole, Refused}
use Rattle.wm_http.specs.declared.request.Request.{Request}

-- an answer other than to read on
abbrev pub IsFinal : Cut → Type 0
IsFinal (ReadOn most) = ⊥
IsFinal (Whole request) = Unit {0}
IsFinal (Refused why) = Unit {0}

-- what is answered to some bytes, other than to read on, is an answer to them with any bytes behind
abbrev pub FinalCutStays : Type 0
FinalCutStays = (bytes more : List ℕ) (cut : Cut) → IsCut bytes cut → IsFinal cut → IsCut (bytes ++ more) cut

-- the same request
pub record IsSame (one other : Request) : Type 0 where
  pub method : one.method.now ≡ other.method.now
  pub target : one.target.now ≡ other.target.now
  pub body : one.body.now ≡ other.body.now
  pub closes : one.closes ≡ other.closes
  pub len : one.len ≡ other.len

-- this request, and no other answer
abbrev pub IsThis : Request → Cut → Type 0
IsThis request (ReadOn most) = ⊥
IsThis request (Whole other) = IsSame request other
IsThis request (Refused why) = ⊥

-- bytes that have a request are answered by no other, nor refused, nor is more read
abbrev pub RequestIsOne : Type 0
RequestIsOne = (bytes : List ℕ) (request : Request) (cut : Cut) → IsCut bytes (Whole request) → IsCut bytes cut → IsThis request cut
