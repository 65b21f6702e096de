-- What is answered to bytes is an answer to them with more behind.
use Rattle.std.proofs.Common.{◌≡◌, ℕ, ◌<◌, ◌≤◌, ◌⊎◌, inl, inr, List, [], ◌++◌, length, take, drop, refl, sym, ap, ◌∙◌, subst, arith, append_assoc}
use Rattle.std.specs.Prelude.{nat_lt, true, false}
use Rattle.std.proofs.lemmas.Bool.Decides.{nat_tests}
use Rattle.std.proofs.lemmas.List.{length-append, length-take, take-append-drop, take-append-le, drop-append-le, take_at, length-drop}
use Rattle.httparse.specs.Grammar.{ReadsRequest, print_end, lf}
use Rattle.httparse.proofs.GrammarLemmas.{ReadsRequest-append}
use Rattle.wm_http.specs.Cutting.{IsRequest, body_len, whole_len}
use Rattle.wm_http.specs.Heads.{HasTooManyFields, IsHead, IsNoHead, MayBecomeHead, front}
use Rattle.wm_http.specs.Laws.{FinalCutStays}
use Rattle.wm_http.specs.declared.request.Cut.TheVariants.{ReadOn, Whole, Refused}
use Rattle.wm_http.specs.declared.request.Found.{Found}
use Rattle.wm_http.specs.declared.request.Head.TheVariants as head
use Rattle.wm_http.specs.declared.request.Request.{Request}
use Rattle.wm_http.proofs.HeadLemmas.{Exceeding, exceeding, exceeds_more, never_more}

-- of two numbers one is the lesser or both are the same
pub either : (m n : ℕ) → (m ≤ n) ⊎ (n < m)
either m n = elim (nat_lt n m) as (λ v. nat_lt n m ≡ v → (m ≤ n) ⊎ (n < m)) [
  | true ↦ λ e. let more : n < m = grind (arith, nat_tests) in inr more
  | false ↦ λ e. let less : m ≤ n = grind (arith, nat_tests) in inl less
] refl

-- of two beginnings of a list the shorter one begins the other
pub begins_other : (xs more ys rest : List ℕ) → xs ++ more ≡ ys ++ rest → length ys ≤ length xs → xs ≡ ys ++ drop (length ys) xs
begins_other xs more ys rest e short =
    let n = length ys in
    let same : take n xs ≡ ys = sym (take-append-le n xs more short) ∙ ap (take n) e ∙ take_at ys rest n refl in
    sym (take-append-drop n xs) ∙ ap (λ l. l ++ drop n xs) same

-- what the front has more
abbrev pub front_rest : List ℕ → List ℕ → List ℕ
front_rest bytes more = drop (length (front bytes)) (front (bytes ++ more))

pub front_more : (bytes more : List ℕ) → front (bytes ++ more) ≡ front bytes ++ front_rest bytes more
front_more bytes more =
    let e : front (bytes ++ more) ++ drop 8192 (bytes ++ more) ≡ front bytes ++ (drop 8192 bytes ++ more) =
    take-append-drop 8192 (bytes ++ more) ∙ ap (λ t. t ++ more) (sym (take-append-drop 8192 bytes)) ∙ append_assoc (front bytes) (drop 8192 bytes) more in
    begins_other (front (bytes ++ more)) (drop 8192 (bytes ++ more)) (front bytes) (drop 8192 bytes ++ more) e
    (omega (arith, length-take 8192 bytes, length-take 8192 (bytes ++ more), length-append bytes more))

no_head_more : (text more : List ℕ) → IsNoHead text → IsNoHead (text ++ more)
no_head_more text more x = (never_more text more x.0, λ e. by (exceeding (text ++ more) e))
  where
    by : Exceeding (text ++ more) → ⊥
    by e = at (either (length e.lines) (length text))
      where
        at : (length e.lines ≤ length text) ⊎ (length text < length e.lines) → ⊥
        at (inl short) =
            let begins = begins_other text more e.lines e.behind e.is short in
            x.1 (e.lines, drop (length e.lines) text, begins, e.head, e.reads, e.many)
        at (inr long) =
            let more_of = drop (length text) e.lines in
            let begins : e.lines ≡ text ++ more_of = begins_other e.lines e.behind text more (sym e.is) (omega arith) in
            x.0 (more_of ++ print_end lf) e.head [] (subst (λ t. ReadsRequest t e.head []) (ap (λ t. t ++ print_end lf) begins ∙ append_assoc text more_of (print_end lf)) e.reads)

found_more : (bytes more : List ℕ) (found : Found) → IsHead bytes (head.Found found) → IsHead (bytes ++ more) (head.Found found)
found_more bytes more found x =
    (x.0, x.1 ++ more, record { reads = ReadsRequest-append bytes x.0 x.1 more x.2.reads; len = x.2.len; fields = x.2.fields }, x.3)

bad_more : (bytes more : List ℕ) → IsHead bytes head.Bad → IsHead (bytes ++ more) head.Bad
bad_more bytes more x = subst IsNoHead (sym (front_more bytes more)) (no_head_more (front bytes) (front_rest bytes more) x)

large_more : (bytes more : List ℕ) → IsHead bytes head.TooLarge → IsHead (bytes ++ more) head.TooLarge
large_more bytes more (inl x) = inl (subst HasTooManyFields (sym (front_more bytes more)) (exceeds_more (front bytes) (front_rest bytes more) x))
large_more bytes more (inr x) =
    let same : front (bytes ++ more) ≡ front bytes = take-append-le 8192 bytes more x.0 in
    inr (omega (arith, length-append bytes more, x.0), subst MayBecomeHead (sym same) x.1)

request_more : (bytes more : List ℕ) (found : Found) (request : Request) → whole_len found ≤ length bytes → IsRequest bytes found request → IsRequest (bytes ++ more) found request
request_more bytes more found request enough x =
    let n = body_len found.fields.length in
    let behind : drop found.len (bytes ++ more) ≡ drop found.len bytes ++ more = drop-append-le found.len bytes more (omega arith) in
    let body : take n (drop found.len (bytes ++ more)) ≡ take n (drop found.len bytes) =
    ap (take n) behind ∙ take-append-le n (drop found.len bytes) more (omega (arith, length-drop found.len bytes)) in
    record { method = x.method; target = x.target; closes = x.closes; body = x.body ∙ sym body; len = x.len }

pub final_cut_stays : FinalCutStays
final_cut_stays bytes more (ReadOn most) x final = absurd final
final_cut_stays bytes more (Whole request) x final =
    (x.0, (found_more bytes more x.0 x.1.0, x.1.1), omega (arith, length-append bytes more, x.2), request_more bytes more x.0 request x.2 x.3)
final_cut_stays bytes more (Refused why) (inl x) final = inl (bad_more bytes more x.0, x.1)
final_cut_stays bytes more (Refused why) (inr (inl x)) final = inr (inl (large_more bytes more x.0, x.1))
final_cut_stays bytes more (Refused why) (inr (inr x)) final = inr (inr (x.0, found_more bytes more x.0 x.1, x.2))
