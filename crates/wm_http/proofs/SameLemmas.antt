-- Bytes that have a request have no other answer.
use Rattle.std.proofs.Common.{◌≡◌, ℕ, ◌+◌, ◌-◌, ◌<◌, ◌≤◌, ◌⊎◌, inl, inr, List, [], ◌++◌, length, take, drop, sym, ap, ◌∙◌, subst, arith, append-nil}
use Rattle.std.specs.Prelude.{Some, None, is_some}
use Rattle.std.proofs.lemmas.Bool.{false≢true}
use Rattle.std.proofs.lemmas.List.{length-append, length-take, take-append-drop}
use Rattle.httparse.specs.Grammar.{RequestHead, ReadsRequest, print_request, print_end, lf}
use Rattle.httparse.proofs.GrammarLemmas.{ReadsRequest-append, request_unique}
use Rattle.wm_http.specs.declared.answer.RequestFault.{RequestFault}
use Rattle.wm_http.specs.Cutting.{body_len, fields_fault, whole_len}
use Rattle.wm_http.specs.Fields.{fields_of}
use Rattle.wm_http.specs.Heads.{BeginsWithHead, HasTooManyFields, IsHead, front, head_closes}
use Rattle.wm_http.specs.Laws.{RequestIsOne}
use Rattle.wm_http.specs.Lines.{Lines, lines_from, head_lines}
use Rattle.wm_http.specs.declared.request.Cut.TheVariants.{ReadOn, Whole, Refused}
use Rattle.wm_http.specs.declared.request.Found.{Found}
use Rattle.wm_http.specs.declared.request.Head.TheVariants as head
use Rattle.wm_http.proofs.HeadLemmas.{Exceeding, exceeding, few_lines}
use Rattle.wm_http.proofs.LineLemmas.{done, rest_nil}
use Rattle.wm_http.proofs.StayLemmas.{begins_other, either}

-- what is found is the same
record AreSame (one other : Found) : Type 0 where
  method : one.method.now ≡ other.method.now
  target : one.target.now ≡ other.target.now
  closes : one.closes ≡ other.closes
  len : one.len ≡ other.len
  whole : whole_len one ≡ whole_len other
  body : body_len one.fields.length ≡ body_len other.fields.length
  fault : fields_fault one.method.now one.fields ≡ fields_fault other.method.now other.fields

found_same : (bytes : List ℕ) (one other : Found) → IsHead bytes (head.Found one) → IsHead bytes (head.Found other) → AreSame one other
found_same bytes one other x y =
    let h : x.0 ≡ y.0 = (request_unique bytes x.0 y.0 x.1 y.1 x.2.reads y.2.reads).0 in
    let method : one.method.now ≡ other.method.now = x.3.method ∙ ap (λ (k : RequestHead). k.method) h ∙ sym y.3.method in
    let fields : one.fields ≡ other.fields = x.3.fields ∙ ap fields_of h ∙ sym y.3.fields in
    let len : one.len ≡ other.len = x.3.len ∙ ap (λ k. length (print_request k)) h ∙ sym y.3.len in
    let body : body_len one.fields.length ≡ body_len other.fields.length = ap (λ f. body_len f.length) fields in
    record {
      method = method;
      target = x.3.target ∙ ap (λ (k : RequestHead). k.target) h ∙ sym y.3.target;
      closes = x.3.closes ∙ ap head_closes h ∙ sym y.3.closes;
      len = len;
      whole = ap (λ n. n + body_len one.fields.length) len ∙ ap (λ n. other.len + n) body;
      body = body;
      fault = ap (λ m. fields_fault m one.fields) method ∙ ap (fields_fault other.method.now) fields;
    }

-- the head stands in the front
front_reads : (bytes : List ℕ) (h : RequestHead) (rest : List ℕ) → BeginsWithHead bytes h rest → ReadsRequest (front bytes) h (drop (length (print_request h)) (front bytes))
front_reads bytes h rest x =
    let size : length bytes ≡ length (print_request h) + length rest = ap length x.reads.1 ∙ length-append (print_request h) rest in
    (x.reads.0, begins_other (front bytes) (drop 8192 bytes) (print_request h) rest (take-append-drop 8192 bytes ∙ x.reads.1) (omega (arith, length-take 8192 bytes, x.len)))

few_or_many : (text : List ℕ) (h : RequestHead) (rest : List ℕ) → ReadsRequest text h rest → length h.fields ≤ 32 → HasTooManyFields text → ⊥
few_or_many text h rest reads few x = by (exceeding text x)
  where
    by : Exceeding text → ⊥
    by e = at (either (length (print_request h)) (length e.lines))
      where
        at : (length (print_request h) ≤ length e.lines) ⊎ (length e.lines < length (print_request h)) → ⊥
        at (inl short) =
            let behind = drop (length (print_request h)) e.lines in
            let begins : e.lines ≡ print_request h ++ behind = begins_other e.lines e.behind (print_request h) rest (sym e.is ∙ reads.1) short in
            let same : h ≡ e.head = (request_unique (e.lines ++ print_end lf) h e.head (behind ++ print_end lf) [] (ReadsRequest-append e.lines h behind (print_end lf) (reads.0, begins)) e.reads).0 in
            let count : length h.fields ≡ length e.head.fields = ap (λ (k : RequestHead). length k.fields) same in
            let many = e.many in
            omega (arith, count, many, few)
        at (inr long) =
            let behind = drop (length e.lines) (print_request h) in
            let begins : print_request h ≡ e.lines ++ behind = begins_other (print_request h) rest e.lines e.behind (sym reads.1 ∙ e.is) (omega arith) in
            let all : done behind ≡ lines_from (32 - length h.fields) [] =
            sym (e.any behind) ∙ ap head_lines (sym begins ∙ sym (append-nil (print_request h))) ∙ few_lines h [] reads.0 few in
            let nil : behind ≡ [] = ap (λ (l : Lines). l.rest) all ∙ rest_nil (32 - length h.fields) in
            let size : length (print_request h) ≡ length e.lines + length behind = ap length begins ∙ length-append e.lines behind in
            let none : length behind ≡ 0 = ap length nil in
            omega (arith, size, none, long)

some_is_some : (why : RequestFault) → None ≡ Some why → ⊥
some_is_some why e = false≢true (ap is_some e)

pub request_is_one : RequestIsOne
request_is_one bytes request (ReadOn most) x (inl y) = absurd (y.0.1.0 x.1.0.0 x.1.0.1 x.1.0.2.reads)
request_is_one bytes request (ReadOn most) x (inr y) =
    let same = found_same bytes x.0 y.0 x.1.0 y.1.0 in
    let whole = same.whole in
    absurd (omega (arith, whole, x.2, y.2))
request_is_one bytes request (Whole other) x y =
    let same = found_same bytes x.0 y.0 x.1.0 y.1.0 in
    let one = x.3 in
    let two = y.3 in
    record {
      method = one.method ∙ same.method ∙ sym two.method;
      target = one.target ∙ same.target ∙ sym two.target;
      body = one.body ∙ ap (λ n. take n (drop x.0.len bytes)) same.body ∙ ap (λ n. take (body_len y.0.fields.length) (drop n bytes)) same.len ∙ sym two.body;
      closes = one.closes ∙ same.closes ∙ sym two.closes;
      len = one.len ∙ same.whole ∙ sym two.len;
    }
request_is_one bytes request (Refused why) x (inl y) =
    absurd (y.0.0 (drop 8192 bytes) x.1.0.0 x.1.0.1 (subst (λ t. ReadsRequest t x.1.0.0 x.1.0.1) (sym (take-append-drop 8192 bytes)) x.1.0.2.reads))
request_is_one bytes request (Refused why) x (inr (inl (inl many, e))) =
    absurd (few_or_many (front bytes) x.1.0.0 _ (front_reads bytes x.1.0.0 x.1.0.1 x.1.0.2) x.1.0.2.fields many)
request_is_one bytes request (Refused why) x (inr (inl (inr long, e))) =
    absurd (long.1.0 x.1.0.0 _ (front_reads bytes x.1.0.0 x.1.0.1 x.1.0.2))
request_is_one bytes request (Refused why) x (inr (inr y)) =
    let same = found_same bytes x.0 y.0 x.1.0 y.1 in
    absurd (some_is_some why (sym x.1.1 ∙ same.fault ∙ y.2))
