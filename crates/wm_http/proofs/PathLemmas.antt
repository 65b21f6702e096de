-- Parts of paths, and bytes of ASCII.
use Rattle.std.proofs.Common.{◌≡◌, ℕ, zero, suc, ◌+◌, ◌-◌, ◌<◌, ◌≤◌, Bool, true, false, ◌&&◌, List, [], ◌∷◌, refl, ap, arith, get_or}
use Rattle.std.proofs.lemmas.Bool.{false≢true}
use Rattle.std.proofs.lemmas.Bool.Decides.{nat_tests}
use Rattle.std.specs.List.{list_all}
use Rattle.std.specs.Str.{IsUtf8}
use Rattle.std.proofs.lemmas.Str.{IsUtf8-from_ascii}
use Rattle.wm_http.specs.Parts.{before_slash, behind_slash, is_ascii, part}

-- one slash more is passed
pub part_step : (n i : ℕ) (path : List ℕ) → i < n → part (n - i) path ≡ part (n - (i + 1)) (behind_slash path)
part_step n i path less = let e : n - i ≡ suc (n - (i + 1)) = omega arith in ap (λ m. part m path) e

-- all slashes are passed
pub part_end : (n i : ℕ) (path : List ℕ) → n ≤ i → part (n - i) path ≡ before_slash path
part_end n i path all = let e : n - i ≡ zero = omega arith in ap (λ m. part m path) e

both : (x y : Bool) → (x && y) ≡ true → (x ≡ true) × (y ≡ true)
both true true e = (refl, refl)
both true false e = absurd (false≢true e)
both false y e = absurd (false≢true e)

below : (bytes : List ℕ) → list_all is_ascii bytes ≡ true → (i : ℕ) → get_or bytes i 0 < 128
below [] e i = omega arith
below (b ∷ bytes) e zero = let h = (both (is_ascii b) (list_all is_ascii bytes) e).0 in grind (arith, nat_tests)
below (b ∷ bytes) e (suc i) = below bytes (both (is_ascii b) (list_all is_ascii bytes) e).1 i

-- bytes of ASCII are UTF-8
pub ascii_text : (bytes : List ℕ) → list_all is_ascii bytes ≡ true → IsUtf8 bytes
ascii_text bytes e = IsUtf8-from_ascii bytes (below bytes e)
