-- What is known of the log of a keeper in memory.
use Rattle.std.proofs.Common.{◌≡◌, ℕ, ◌+◌, ◌<◌, List, [], ◌∷◌, ◌++◌, length, get_or, take, refl}
use Rattle.std.proofs.lemmas.List.{take_more}
use Rattle.std.proofs.lemmas.List.Sums.{fold-append}
use Rattle.wm_outside.specs.declared.memory.sign.Sign.{Sign}
use Rattle.wm_outside.specs.ChangeLog.{Reading, read, reads, between, no_row}
use Rattle.wm_outside.specs.Signs.{sign_of}

-- one byte more is one sign further
pub read_more : (bytes : List ℕ) (byte : ℕ) → read (bytes ++ byte ∷ []) ≡ reads (read bytes) (sign_of byte)
unfolding read
read_more bytes byte = fold-append (λ (r : Reading) (b : ℕ). reads r (sign_of b)) (between no_row [] []) bytes (byte ∷ [])

pub read_none : read [] ≡ between no_row [] []
unfolding read
read_none = refl

pub read_said : (bytes more : List ℕ) (byte : ℕ) (sign : Sign) → more ≡ bytes ++ byte ∷ [] → sign_of byte ≡ sign → read more ≡ reads (read bytes) sign
read_said bytes more byte sign is said = rw (is, ← said) (read_more bytes byte)

pub read_next : (bytes : List ℕ) (at : ℕ) (sign : Sign) → at < length bytes → sign ≡ sign_of (get_or bytes at 0) → read (take (at + 1) bytes) ≡ reads (read (take at bytes)) sign
read_next bytes at sign h said = rw (take_more bytes at 0 h, said) (read_more (take at bytes) (get_or bytes at 0))
