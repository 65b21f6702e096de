-- What is cut from the bytes that are unread so far.
use Rattle.std.specs.Prelude.{◌≡◌, ℕ, ◌+◌, ◌-◌, ◌<◌, ◌≤◌, ◌⊎◌, Bool, true, false, ◌&&◌, nat_lt, List, [], ◌∷◌, length, take, drop, find, nat_eq, codes, Option, Some, None, option_map}
use Rattle.std.specs.Cmp.Lexicographic.{pointwise}
use Rattle.wm_http.specs.declared.answer.RequestFault.{RequestFault}
use Rattle.wm_http.specs.declared.answer.RequestFault.TheVariants as fault
use Rattle.wm_http.specs.Heads.{IsHead}
use Rattle.wm_http.specs.declared.request.Cut.{Cut}
use Rattle.wm_http.specs.declared.request.Cut.TheVariants.{ReadOn, Whole, Refused}
use Rattle.wm_http.specs.declared.request.Fields.{Fields}
use Rattle.wm_http.specs.declared.request.Found.{Found}
use Rattle.wm_http.specs.declared.request.Head.TheVariants as head
use Rattle.wm_http.specs.declared.request.Length.{Length}
use Rattle.wm_http.specs.declared.request.Length.TheVariants.{Absent, Given, Bad}
use Rattle.wm_http.specs.declared.request.Request.{Request}

abbrev pub is_bad : Length → Bool
is_bad Absent = false
is_bad (Given n) = false
is_bad Bad = true

abbrev pub is_absent : Length → Bool
is_absent Absent = true
is_absent (Given n) = false
is_absent Bad = false

-- how many bytes the body has
abbrev pub body_len : Length → ℕ
body_len Absent = 0
body_len (Given n) = n
body_len Bad = 0

abbrev pub is_post : List ℕ → Bool
is_post method = pointwise nat_eq method (codes "POST")

-- why a request with these fields is answered no further: the tests in their order, of which the first that holds answers
abbrev pub fields_tests : List ℕ → Fields → List (Bool × RequestFault)
fields_tests method fields =
    (fields.coding, fault.TransferEncoding)
    ∷ (is_bad fields.length, fault.Length)
    ∷ (nat_lt 8192 (body_len fields.length), fault.TooLarge)
    ∷ (is_post method && is_absent fields.length, fault.LengthRequired)
    ∷ []

abbrev pub fields_fault : List ℕ → Fields → Option RequestFault
fields_fault method fields = option_map (λ test. test.1) (find (λ test. test.0) (fields_tests method fields))

-- how many bytes a head that was found has with its body
abbrev pub whole_len : Found → ℕ
whole_len found = found.len + body_len found.fields.length

-- bytes begin with this head, and its fields are good
abbrev pub IsGood : List ℕ → Found → Type 0
IsGood bytes found = IsHead bytes (head.Found found) × (fields_fault found.method.now found.fields ≡ None)

-- the request that a head and the bytes behind it are
pub record IsRequest (bytes : List ℕ) (found : Found) (request : Request) : Type 0 where
  pub method : request.method.now ≡ found.method.now
  pub target : request.target.now ≡ found.target.now
  pub closes : request.closes ≡ found.closes
  pub body : request.body.now ≡ take (body_len found.fields.length) (drop found.len bytes)
  pub len : request.len ≡ whole_len found

-- why bytes are refused: no head, a head that is too large, and then the fields
abbrev pub IsRefused : List ℕ → RequestFault → Type 0
IsRefused bytes why =
    (IsHead bytes head.Bad × (why ≡ fault.Head))
    ⊎ ((IsHead bytes head.TooLarge × (why ≡ fault.HeadTooLarge))
    ⊎ ((found : Found) × IsHead bytes (head.Found found) × (fields_fault found.method.now found.fields ≡ Some why)))

-- what is cut: in a head at most what is left of 8,192 bytes may be read, in a body what it lacks
abbrev pub IsCut : List ℕ → Cut → Type 0
IsCut bytes (ReadOn most) =
    (IsHead bytes head.Waits × (most ≡ 8192 - length bytes))
    ⊎ ((found : Found) × IsGood bytes found × (length bytes < whole_len found) × (most ≡ whole_len found - length bytes))
IsCut bytes (Whole request) = (found : Found) × IsGood bytes found × (whole_len found ≤ length bytes) × IsRequest bytes found request
IsCut bytes (Refused why) = IsRefused bytes why
