-- What the grammar says of the wanted lines is what bytes are as a head.
use Rattle.std.proofs.Common.{◌≡◌, ℕ, suc, ◌+◌, ◌-◌, ◌<◌, ◌≤◌, ◌⊎◌, inl, inr, List, [], ◌∷◌, ◌++◌, length, take, drop, refl, sym, ap, ◌∙◌, subst, arith, append_assoc, append-nil}
use Rattle.std.specs.Prelude.{nat_lt, true, false}
use Rattle.std.proofs.lemmas.Bool.Decides.{nat_tests}
use Rattle.std.specs.List.{flat_map}
use Rattle.std.proofs.lemmas.List.{append_cancel_right, length-append, length-take, length-take-le, take-append-drop, take_all, take_at}
use Rattle.std.proofs.lemmas.List.Concat.{flat_map-append}
use Rattle.std.proofs.lemmas.List.Elements.{All-take}
use Rattle.httparse.specs.Grammar.{LineEnd, crlf, lf, print_end, print_blank, print_version, print_field, IsField, RequestHead, IsRequestHead, print_request, ReadsRequest, HasNoRequest, NeverHasRequest, MayBecomeRequest}
use Rattle.httparse.specs.Spans.{RequestExceeds}
use Rattle.httparse.proofs.GrammarLemmas.{cons-append, print_request-append, ReadsRequest-append}
use Rattle.wm_http.specs.Heads.{BeginsWithHead, HasTooManyFields, IsHead, IsNoHead, IsParsed, MayBecomeHead, ended, front}
use Rattle.wm_http.specs.Lines.{Lines, lines_from, head_lines}
use Rattle.wm_http.specs.declared.request.Head.{Head}
use Rattle.wm_http.specs.declared.request.Head.TheVariants.{Found, Waits, Bad, TooLarge}
use Rattle.wm_http.proofs.LineLemmas.{done, lead, lead_lines, fields_lines, end_lines, target_lines, head_stays, head_parts, rest_nil, some_lacks}

lead_append : (h : RequestHead) (a b : List ℕ) → lead h (a ++ b) ≡ lead h a ++ b
lead_append h a b = regroup (print_blank h.blank) h.method h.target (print_version h.minor) (print_end h.line_end)
  where
    regroup : (p m t v e : List ℕ) → p ++ (m ++ 32 ∷ (t ++ 32 ∷ (v ++ (e ++ (a ++ b))))) ≡ (p ++ (m ++ 32 ∷ (t ++ 32 ∷ (v ++ (e ++ a))))) ++ b
    regroup p m t v e = simp (append_assoc, cons-append)

-- the first 33 fields of a head, with no more behind them
abbrev first_fields : RequestHead → RequestHead
first_fields h = record h { fields = take 33 h.fields; last = lf }

-- the lines of the first 33 fields, and the other ones
abbrev first_lines : RequestHead → List ℕ
first_lines h = lead h (flat_map print_field (take 33 h.fields))

abbrev other_lines : RequestHead → List ℕ
other_lines h = flat_map print_field (drop 33 h.fields)

print_many : (h : RequestHead) (rest : List ℕ) → print_request h ++ rest ≡ first_lines h ++ (other_lines h ++ (print_end h.last ++ rest))
print_many h rest =
    let parts : flat_map print_field h.fields ≡ flat_map print_field (take 33 h.fields) ++ other_lines h =
    ap (flat_map print_field) (sym (take-append-drop 33 h.fields)) ∙ flat_map-append print_field (take 33 h.fields) (drop 33 h.fields) in
    print_request-append h rest
    ∙ ap (λ t. lead h ((t ++ print_end h.last) ++ rest)) parts
    ∙ ap (lead h) (regroup (flat_map print_field (take 33 h.fields)) (other_lines h) (print_end h.last))
    ∙ lead_append h _ _
  where
    regroup : (a b e : List ℕ) → ((a ++ b) ++ e) ++ rest ≡ a ++ (b ++ (e ++ rest))
    regroup a b e = simp append_assoc

many_lines : (h : RequestHead) (t : List ℕ) → IsRequestHead h → 32 < length h.fields → head_lines (first_lines h ++ t) ≡ done t
many_lines h t good many =
    let some : length (take 33 h.fields) ≡ 33 = length-take-le 33 h.fields (omega arith) in
    let all : 33 ≡ length (take 33 h.fields) + 0 = omega arith in
    ap head_lines (sym (lead_append h (flat_map print_field (take 33 h.fields)) t))
    ∙ lead_lines h _ good
    ∙ ap (λ n. lines_from n (flat_map print_field (take 33 h.fields) ++ t)) all
    ∙ fields_lines (take 33 h.fields) 0 t (All-take IsField 33 h.fields good.fields)

pub few_lines : (h : RequestHead) (t : List ℕ) → IsRequestHead h → length h.fields ≤ 32 → head_lines (print_request h ++ t) ≡ lines_from (32 - length h.fields) t
few_lines h t good few =
    let all : 33 ≡ length h.fields + suc (32 - length h.fields) = omega arith in
    ap head_lines (print_request-append h t)
    ∙ lead_lines h _ good
    ∙ ap (lines_from 33) (append_assoc (flat_map print_field h.fields) (print_end h.last) t)
    ∙ ap (λ n. lines_from n (flat_map print_field h.fields ++ (print_end h.last ++ t))) all
    ∙ fields_lines h.fields (suc (32 - length h.fields)) _ good.fields
    ∙ end_lines (32 - length h.fields) h.last t

first_good : (h : RequestHead) → IsRequestHead h → IsRequestHead (first_fields h)
first_good h good = record { method = good.method; target = good.target; target_text = good.target_text; minor = good.minor; fields = All-take IsField 33 h.fields good.fields }

-- the first 33 fields and a line feed are a head
first_reads : (h : RequestHead) → IsRequestHead h → ReadsRequest (first_lines h ++ print_end lf) (first_fields h) []
first_reads h good =
    (first_good h good, sym (print_request-append (first_fields h) [] ∙ ap (lead h) (append-nil _) ∙ lead_append h (flat_map print_field (take 33 h.fields)) (print_end lf)))

first_many : (h : RequestHead) → 32 < length h.fields → 32 < length (take 33 h.fields)
first_many h many = let some : length (take 33 h.fields) ≡ 33 = length-take-le 33 h.fields (omega arith) in omega arith

-- what a line end has before its line feed
before_feed : (e : LineEnd) → (s : List ℕ) × (print_end e ≡ s ++ print_end lf)
before_feed lf = ([], refl)
before_feed crlf = (13 ∷ [], refl)

-- a text with too many fields: the lines of 33 of them, and what stands behind
pub record Exceeding (text : List ℕ) : Type 0 where
  pub lines : List ℕ
  pub behind : List ℕ
  pub head : RequestHead
  pub is : text ≡ lines ++ behind
  pub has : head_lines text ≡ done behind
  pub any : (t : List ℕ) → head_lines (lines ++ t) ≡ done t
  pub reads : ReadsRequest (lines ++ print_end lf) head []
  pub many : 32 < length head.fields

pub exceeding : (text : List ℕ) → RequestExceeds 32 text → Exceeding text
exceeding text x =
    let h = x.3 in
    let good = x.4.0 in
    let s = before_feed h.last in
    let whole : x.0 ++ print_end lf ≡ (first_lines h ++ (other_lines h ++ s.0)) ++ print_end lf =
    x.4.1 ∙ print_many h [] ∙ ap (λ e. first_lines h ++ (other_lines h ++ (e ++ []))) s.1 ∙ regroup (first_lines h) (other_lines h) s.0 (print_end lf) in
    let same : x.0 ≡ first_lines h ++ (other_lines h ++ s.0) = append_cancel_right _ _ (print_end lf) whole in
    let is : text ≡ first_lines h ++ ((other_lines h ++ s.0) ++ x.1) =
    x.2 ∙ ap (λ t. t ++ x.1) same ∙ append_assoc (first_lines h) (other_lines h ++ s.0) x.1 in
    record {
      lines = first_lines h;
      behind = (other_lines h ++ s.0) ++ x.1;
      head = first_fields h;
      is = is;
      has = ap head_lines is ∙ many_lines h _ good x.5;
      any = λ t. many_lines h t good x.5;
      reads = first_reads h good;
      many = first_many h x.5;
    }
  where
    regroup : (a b c d : List ℕ) → a ++ (b ++ ((c ++ d) ++ [])) ≡ (a ++ (b ++ c)) ++ d
    regroup a b c d = simp (append_assoc, append-nil)

-- where lines are lacking, there aren't too many fields
lacking : (text : List ℕ) → 0 < (head_lines text).lacks → HasTooManyFields text → ⊥
lacking text lacks x = let e : (head_lines text).lacks ≡ 0 = ap (λ (l : Lines). l.lacks) (exceeding text x).has in omega arith

-- all lines that are wanted, and more may make them a head: there are too many fields
all_lines : (p rest : List ℕ) → head_lines p ≡ done [] → HasNoRequest p → MayBecomeRequest p → HasTooManyFields (p ++ rest)
all_lines p rest has none (inr x) =
    let bad : 34 ≡ 0 = ap (λ (l : Lines). l.lacks) (sym (target_lines p x) ∙ has) in
    absurd (some_lacks 33 bad)
all_lines p rest has none (inl (more, h, reads)) = by (cases (length h.fields))
  where
    cases : (n : ℕ) → (n ≤ 32) ⊎ (32 < n)
    cases n = elim (nat_lt 32 n) as (λ v. nat_lt 32 n ≡ v → (n ≤ 32) ⊎ (32 < n)) [
      | true ↦ λ e. let more : 32 < n = grind (arith, nat_tests) in inr more
      | false ↦ λ e. let less : n ≤ 32 = grind (arith, nat_tests) in inl less
    ] refl

    by : (length h.fields ≤ 32) ⊎ (32 < length h.fields) → HasTooManyFields (p ++ rest)
    by (inl few) =
        let e : done more ≡ lines_from (32 - length h.fields) [] =
        sym (head_stays p more [] has) ∙ ap head_lines reads.1 ∙ few_lines h [] reads.0 few in
        let nil : more ≡ [] = ap (λ (l : Lines). l.rest) e ∙ rest_nil (32 - length h.fields) in
        absurd (none h [] (reads.0, sym (append-nil p) ∙ ap (λ m. p ++ m) (sym nil) ∙ reads.1))
    by (inr many) =
        let behind = other_lines h ++ (print_end h.last ++ []) in
        let e : done more ≡ done behind =
        sym (head_stays p more [] has) ∙ ap head_lines (reads.1 ∙ print_many h []) ∙ many_lines h behind reads.0 many in
        let same : more ≡ behind = ap (λ (l : Lines). l.rest) e in
        let lines : p ≡ first_lines h = append_cancel_right p (first_lines h) behind (ap (λ m. p ++ m) (sym same) ∙ reads.1 ∙ print_many h []) in
        (p, rest, refl, first_fields h, subst (λ t. ReadsRequest (t ++ print_end lf) (first_fields h) []) (sym lines) (first_reads h reads.0), first_many h many)

-- a head at the front of a text that has at most 8,192 bytes
begins : (text more rest : List ℕ) (h : RequestHead) → length text ≤ 8192 → ReadsRequest text h rest → length h.fields ≤ 32 → BeginsWithHead (text ++ more) h (rest ++ more)
begins text more rest h short reads few =
    let sizes : length text ≡ length (print_request h) + length rest = ap length reads.1 ∙ length-append (print_request h) rest in
    record { reads = ReadsRequest-append text h rest more reads; len = omega arith; fields = few }

front_short : (bytes : List ℕ) → length (front bytes) ≤ 8192
front_short bytes = omega (arith, length-take 8192 bytes)

pub never_more : (p rest : List ℕ) → NeverHasRequest p → NeverHasRequest (p ++ rest)
never_more p rest never more h r reads = never (rest ++ more) h r (subst (λ t. ReadsRequest t h r) (append_assoc p rest more) reads)

pub exceeds_more : (p rest : List ℕ) → HasTooManyFields p → HasTooManyFields (p ++ rest)
exceeds_more p rest x = (x.0, x.1 ++ rest, ap (λ t. t ++ rest) x.2 ∙ append_assoc x.0 x.1 rest, x.3, x.4, x.5)

-- no bytes make the wanted lines a head: there aren't too many fields
never_exceeds : (p rest : List ℕ) → head_lines (p ++ rest) ≡ done rest → NeverHasRequest p → HasTooManyFields (p ++ rest) → ⊥
never_exceeds p rest has never x =
    let e = exceeding (p ++ rest) x in
    let same : e.behind ≡ rest = ap (λ (l : Lines). l.rest) (sym e.has ∙ has) in
    let lines : p ≡ e.lines = append_cancel_right p e.lines rest (e.is ∙ ap (λ t. e.lines ++ t) same) in
    never (print_end lf) e.head [] (subst (λ t. ReadsRequest (t ++ print_end lf) e.head []) (sym lines) e.reads)

-- the wanted lines of the front
module _ (bytes p rest : List ℕ) (is : front bytes ≡ p ++ rest) (has : head_lines p ≡ done []) (all : head_lines (front bytes) ≡ done rest) where
  whole : bytes ≡ p ++ (rest ++ drop 8192 bytes)
  whole = sym (take-append-drop 8192 bytes) ∙ ap (λ t. t ++ drop 8192 bytes) is ∙ append_assoc p rest (drop 8192 bytes)

  short : length p ≤ 8192
  short = omega (arith, ap length is, length-append p rest, front_short bytes)

  of_lines : (h : Head) → IsParsed p h → IsHead bytes (ended h)
  of_lines (Found found) x =
      (x.0, x.1 ++ (rest ++ drop 8192 bytes), subst (λ t. BeginsWithHead t x.0 (x.1 ++ (rest ++ drop 8192 bytes))) (sym whole) (begins p (rest ++ drop 8192 bytes) x.1 x.0 short x.2 x.3), x.4)
  of_lines Waits x = inl (subst HasTooManyFields (sym is) (all_lines p rest has x.0 x.1))
  of_lines Bad x = subst IsNoHead (sym is) (never_more p rest x, never_exceeds p rest (ap head_lines (sym is) ∙ all) x)
  of_lines TooLarge x = inl (subst HasTooManyFields (sym is) (exceeds_more p rest x))

-- a front that has all wanted lines
all_wanted : (bytes rest : List ℕ) (h : Head) → head_lines (front bytes) ≡ done rest
    → IsParsed (take (length (front bytes) - length rest) (front bytes)) h → IsHead bytes (ended h)
all_wanted bytes rest h all x =
    let cut = head_parts (front bytes) rest all in
    let size : length cut.0 ≡ length (front bytes) - length rest = omega (arith, ap length cut.1, length-append cut.0 rest) in
    let text : take (length (front bytes) - length rest) (front bytes) ≡ cut.0 = ap (take (length (front bytes) - length rest)) cut.1 ∙ take_at cut.0 rest _ size in
    of_lines bytes cut.0 rest cut.1 cut.2 all h (subst (λ t. IsParsed t h) text x)

-- a front of 8,192 bytes that lacks lines
long_front : (bytes : List ℕ) (h : Head) → 8192 ≤ length bytes → 0 < (head_lines (front bytes)).lacks → IsParsed (front bytes) h → IsHead bytes (ended h)
long_front bytes (Found found) long lacks x =
    (x.0, x.1 ++ drop 8192 bytes, subst (λ t. BeginsWithHead t x.0 (x.1 ++ drop 8192 bytes)) (take-append-drop 8192 bytes) (begins (front bytes) (drop 8192 bytes) x.1 x.0 (front_short bytes) x.2 x.3), x.4)
long_front bytes Waits long lacks x = inr (long, (x.0, x.1, lacking (front bytes) lacks))
long_front bytes Bad long lacks x = (x, lacking (front bytes) lacks)
long_front bytes TooLarge long lacks x = inl x

-- fewer bytes, which lack lines
short_front : (bytes : List ℕ) (h : Head) → length bytes < 8192 → 0 < (head_lines (front bytes)).lacks → IsParsed (front bytes) h → IsHead bytes h
short_front bytes (Found found) less lacks x =
    (x.0, x.1 ++ drop 8192 bytes, subst (λ t. BeginsWithHead t x.0 (x.1 ++ drop 8192 bytes)) (take-append-drop 8192 bytes) (begins (front bytes) (drop 8192 bytes) x.1 x.0 (front_short bytes) x.2 x.3), x.4)
short_front bytes Waits less lacks x =
    let same : front bytes ≡ bytes = take_all 8192 bytes (omega arith) in
    (less, subst MayBecomeHead same (x.0, x.1, lacking (front bytes) lacks))
short_front bytes Bad less lacks x = (x, lacking (front bytes) lacks)
short_front bytes TooLarge less lacks x = inl x

-- the same of what the program looks at
pub limited : (bytes text rest : List ℕ) (parsed result : Head) → text ≡ front bytes → head_lines text ≡ done rest
    → IsParsed (take (length text - length rest) text) parsed → result ≡ ended parsed → IsHead bytes result
limited bytes text rest parsed result is all x e =
    subst (IsHead bytes) (sym e) (all_wanted bytes rest parsed (ap head_lines (sym is) ∙ all) (subst (λ t. IsParsed (take (length t - length rest) t) parsed) is x))

pub full : (bytes text : List ℕ) (parsed result : Head) → text ≡ front bytes → 8192 ≤ length bytes → 0 < (head_lines text).lacks
    → IsParsed text parsed → result ≡ ended parsed → IsHead bytes result
full bytes text parsed result is long lacks x e =
    subst (IsHead bytes) (sym e) (long_front bytes parsed long (subst (λ t. 0 < (head_lines t).lacks) is lacks) (subst (λ t. IsParsed t parsed) is x))

pub unfinished : (bytes text : List ℕ) (parsed : Head) → text ≡ front bytes → length bytes < 8192 → 0 < (head_lines text).lacks
    → IsParsed text parsed → IsHead bytes parsed
unfinished bytes text parsed is less lacks x =
    short_front bytes parsed less (subst (λ t. 0 < (head_lines t).lacks) is lacks) (subst (λ t. IsParsed t parsed) is x)

-- the front of few bytes is all of them
pub front_all : (bytes : List ℕ) → length bytes ≤ 8192 → front bytes ≡ bytes
front_all bytes few = take_all 8192 bytes few
