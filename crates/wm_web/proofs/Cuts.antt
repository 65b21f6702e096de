-- What is cut from unread bytes.
use Rattle.std.proofs.Common.{◌≡◌, ℕ, ◌+◌, ◌<◌, ◌≤◌, inl, inr, Bool, true, false, List, [], ◌∷◌, ◌++◌, length, refl, arith}
use Rattle.std.specs.Prelude.{nat_lt, None, find, option_map, ◌&&◌}
use Rattle.std.proofs.lemmas.Bool.Decides.{nat_tests}
use Rattle.std.proofs.lemmas.List.{drop-append-le}
use Rattle.wm_http.specs.Cutting.{IsCut, body_len, fields_fault, is_absent, is_bad, is_post}
use Rattle.wm_http.specs.declared.answer.RequestFault.{RequestFault}
use Rattle.wm_http.specs.declared.answer.RequestFault.TheVariants.{TransferEncoding, Length, TooLarge, LengthRequired}
use Rattle.wm_http.specs.declared.request.Cut.{Cut}
use Rattle.wm_http.specs.declared.request.Cut.TheVariants.{ReadOn, Whole, Refused}
use Rattle.wm_http.specs.declared.request.Fields.{Fields}
use Rattle.wm_http.specs.declared.request.Request.{Request}
use Rattle.wm_web.specs.Cuts.{behind_cut}

-- a request stands in its bytes
pub len_within : (bytes : List ℕ) (r : Request) → IsCut bytes (Whole r) → r.len ≤ length bytes
len_within bytes r x = let len = x.3.len in let most = x.2 in omega (arith, len, most)

-- what is behind a request is behind it with more bytes too
pub behind_more : (cut : Cut) (bytes more : List ℕ) → IsCut bytes cut → behind_cut cut (bytes ++ more) ≡ behind_cut cut bytes ++ more
behind_more (ReadOn most) bytes more x = refl
behind_more (Whole r) bytes more x = drop-append-le r.len bytes more (len_within bytes r x)
behind_more (Refused why) bytes more x = refl

-- where none of four tests holds the third doesn't
third_fails : (a b d e : Bool) (f g h i : RequestFault) → option_map {T = Bool × RequestFault} (λ test. test.1) (find (λ test. test.0) ((a, f) ∷ (b, g) ∷ (d, h) ∷ (e, i) ∷ [])) ≡ None → d ≡ false
third_fails true b d e f g h i none = absurd (cc)
third_fails false true d e f g h i none = absurd (cc)
third_fails false false true e f g h i none = absurd (cc)
third_fails false false false e f g h i none = refl

-- good fields have a body of at most 8,192 bytes
pub good_body : (method : List ℕ) (fields : Fields) → fields_fault method fields ≡ None → body_len fields.length ≤ 8192
good_body method fields good =
    let less : nat_lt 8192 (body_len fields.length) ≡ false =
    third_fails fields.coding (is_bad fields.length) (nat_lt 8192 (body_len fields.length)) (is_post method && is_absent fields.length) TransferEncoding Length TooLarge LengthRequired good in
    grind (arith, nat_tests)

-- there is room for what may be read on
pub read_on_room : (bytes : List ℕ) (most : ℕ) → IsCut bytes (ReadOn most) → (0 < most) × (length bytes + most ≤ 16384)
read_on_room bytes most (inl x) = let few = x.0.0 in let is = x.1 in (omega (arith, few, is), omega (arith, few, is))
read_on_room bytes most (inr x) =
    let found = x.0 in
    let head = x.1.0.2.len in
    let len = x.1.0.3.len in
    let body = good_body found.method.now found.fields x.1.1 in
    let less = x.2 in
    let is = x.3 in
    (omega (arith, less, is), omega (arith, head, len, body, less, is))
