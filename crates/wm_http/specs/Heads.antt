-- What bytes are as the head of a request (RFC 9112, sections 2 to 5): at most 8,192 of them, with at most 32 fields.
use Rattle.std.specs.Prelude.{◌≡◌, ℕ, ◌<◌, ◌≤◌, ◌⊎◌, Bool, ◌||◌, ◌==◌, List, length, take}
use Rattle.httparse.specs.Grammar.{RequestHead, print_request, ReadsRequest, HasNoRequest, NeverHasRequest, MayBecomeRequest}
use Rattle.httparse.specs.Spans.{RequestExceeds}
use Rattle.wm_http.specs.Fields.{fields_of}
use Rattle.wm_http.specs.declared.request.Found.{Found}
use Rattle.wm_http.specs.declared.request.Head.{Head}
use Rattle.wm_http.specs.declared.request.Head.TheVariants.{Waits, Bad, TooLarge}
use Rattle.wm_http.specs.declared.request.Head.TheVariants as variant

-- what of bytes may be a head
abbrev pub front : List ℕ → List ℕ
front bytes = take 8192 bytes

-- 33 whole lines of fields stand in a text
abbrev pub HasTooManyFields : List ℕ → Type 0
HasTooManyFields text = RequestExceeds 32 text

-- a text that is no head yet and that more bytes may make one; a target is judged once it has ended
abbrev pub MayBecomeHead : List ℕ → Type 0
MayBecomeHead text = HasNoRequest text × MayBecomeRequest text × (HasTooManyFields text → ⊥)

-- a text that no bytes make a head
abbrev pub IsNoHead : List ℕ → Type 0
IsNoHead text = NeverHasRequest text × (HasTooManyFields text → ⊥)

-- bytes begin with a head, and these follow it
pub record BeginsWithHead (bytes : List ℕ) (head : RequestHead) (rest : List ℕ) : Type 0 where
  pub reads : ReadsRequest bytes head rest
  pub len : length (print_request head) ≤ 8192
  pub fields : length head.fields ≤ 32

-- the connection closes after the answer: HTTP/1.0, or a field says so
abbrev pub head_closes : RequestHead → Bool
head_closes head = (head.minor == 0) || (fields_of head).closes

-- what was found is the head
pub record IsFound (found : Found) (head : RequestHead) : Type 0 where
  pub method : found.method.now ≡ head.method
  pub target : found.target.now ≡ head.target
  pub fields : found.fields ≡ fields_of head
  pub closes : found.closes ≡ head_closes head
  pub len : found.len ≡ length (print_request head)

-- what the grammar alone says of a text
abbrev pub IsParsed : List ℕ → Head → Type 0
IsParsed text (variant.Found found) = (head : RequestHead) × (rest : List ℕ) × ReadsRequest text head rest × (length head.fields ≤ 32) × IsFound found head
IsParsed text Waits = HasNoRequest text × MayBecomeRequest text
IsParsed text Bad = NeverHasRequest text
IsParsed text TooLarge = HasTooManyFields text

-- what can't wait any more is too large
abbrev pub ended : Head → Head
ended (variant.Found found) = variant.Found found
ended Waits = TooLarge
ended Bad = Bad
ended TooLarge = TooLarge

-- what bytes are as a head
abbrev pub IsHead : List ℕ → Head → Type 0
IsHead bytes (variant.Found found) = (head : RequestHead) × (rest : List ℕ) × BeginsWithHead bytes head rest × IsFound found head
IsHead bytes Waits = (length bytes < 8192) × MayBecomeHead bytes
IsHead bytes Bad = IsNoHead (front bytes)
IsHead bytes TooLarge = HasTooManyFields (front bytes) ⊎ ((8192 ≤ length bytes) × MayBecomeHead (front bytes))
