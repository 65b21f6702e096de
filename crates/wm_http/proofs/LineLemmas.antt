-- The lines of a head, along the pieces of the grammar.
use Rattle.std.proofs.Common.{◌≡◌, ℕ, zero, suc, ◌+◌, ◌-◌, ◌<◌, Bool, true, false, ◌==◌, List, [], ◌∷◌, ◌++◌, length, drop, refl, sym, ap, ◌∙◌, arith, if◌then◌else◌, append_assoc, append-nil, get_or}
use Rattle.std.specs.Prelude.{All}
use Rattle.std.specs.List.{flat_map}
use Rattle.std.proofs.lemmas.Bool.{false≢true}
use Rattle.std.proofs.lemmas.Bool.Decides.{nat_tests}
use Rattle.std.proofs.lemmas.List.Elements.{All-head, All-tail}
use Rattle.std.proofs.lemmas.List.{drop_more}
use Rattle.httparse.specs.Grammar.{AllPass, LineEnd, crlf, lf, print_end, print_blank, print_version, Field, print_field, IsField, RequestHead, IsRequestHead, is_token_byte, is_value_byte, is_uri_byte, EndsInTarget}
use Rattle.httparse.specs.Pieces.{Stops, is_newline}
use Rattle.httparse.proofs.PieceLemmas.{print_field-append, Stops_token}
use Rattle.wm_http.specs.Lines.{Lines, lines_from, head_lines}

-- a text has all wanted lines, and this stands behind them
abbrev pub done : List ℕ → Lines
done rest = record { lacks = 0; rest = rest }

-- the line feed ends a line, and no other byte does
pub feed_step : (n b : ℕ) (t : List ℕ) → (b == 10) ≡ true → lines_from (suc n) (b ∷ t) ≡ lines_from n t
feed_step n b t e = ap (λ v. if v then lines_from n t else lines_from (suc n) t) e

pub other_step : (n b : ℕ) (t : List ℕ) → (b == 10) ≡ false → lines_from (suc n) (b ∷ t) ≡ lines_from (suc n) t
other_step n b t e = ap (λ v. if v then lines_from n t else lines_from (suc n) t) e

no_feed : (test : ℕ → Bool) (b : ℕ) → test 10 ≡ false → test b ≡ true → (b == 10) ≡ false
no_feed test b fails passes = by (b == 10) refl
  where
    by : (v : Bool) → (b == 10) ≡ v → (b == 10) ≡ false
    by false e = e
    by true e =
        let same : b ≡ 10 = grind (arith, nat_tests) in
        absurd (false≢true (sym fails ∙ sym (ap test same) ∙ passes))

-- a word of bytes of which none is a line feed
pub word_lines : (test : ℕ → Bool) → test 10 ≡ false → (n : ℕ) (w t : List ℕ) → AllPass test w → lines_from (suc n) (w ++ t) ≡ lines_from (suc n) t
word_lines test fails n [] t all = refl
word_lines test fails n (b ∷ w) t all =
    other_step n b (w ++ t) (no_feed test b fails (All-head (λ v. test v ≡ true) b w all))
    ∙ word_lines test fails n w t (All-tail (λ v. test v ≡ true) b w all)

pub end_lines : (n : ℕ) (e : LineEnd) (t : List ℕ) → lines_from (suc n) (print_end e ++ t) ≡ lines_from n t
end_lines n lf t = refl
end_lines n crlf t = refl

token_no_feed : is_token_byte 10 ≡ false
unfolding is_token_byte
token_no_feed = refl

pub field_lines : (n : ℕ) (f : Field) (t : List ℕ) → IsField f → lines_from (suc n) (print_field f ++ t) ≡ lines_from n t
field_lines n f t h =
    ap (lines_from (suc n)) (print_field-append f t)
    ∙ word_lines is_token_byte token_no_feed n f.name (58 ∷ (f.raw ++ (print_end f.end ++ t))) h.name.1
    ∙ other_step n 58 (f.raw ++ (print_end f.end ++ t)) refl
    ∙ word_lines is_value_byte refl n f.raw (print_end f.end ++ t) h.raw
    ∙ end_lines n f.end t

pub fields_lines : (fs : List Field) (n : ℕ) (t : List ℕ) → All IsField fs → lines_from (length fs + n) (flat_map print_field fs ++ t) ≡ lines_from n t
fields_lines [] n t all = let e : 0 + n ≡ n = omega arith in ap (λ m. lines_from m t) e
fields_lines (f ∷ fs) n t all =
    let e : suc (length fs) + n ≡ suc (length fs + n) = omega arith in
    ap (λ m. lines_from m ((print_field f ++ flat_map print_field fs) ++ t)) e
    ∙ ap (lines_from (suc (length fs + n))) (append_assoc (print_field f) (flat_map print_field fs) t)
    ∙ field_lines (length fs + n) f (flat_map print_field fs ++ t) (All-head IsField f fs all)
    ∙ fields_lines fs n t (All-tail IsField f fs all)

-- the line ends before the request line
pub blank_step : (b : ℕ) (t : List ℕ) → is_newline b ≡ true → head_lines (b ∷ t) ≡ head_lines t
blank_step b t e = ap (λ v. if v then head_lines t else lines_from 34 (b ∷ t)) e

pub begin_step : (b : ℕ) (t : List ℕ) → is_newline b ≡ false → head_lines (b ∷ t) ≡ lines_from 34 (b ∷ t)
begin_step b t e = ap (λ v. if v then head_lines t else lines_from 34 (b ∷ t)) e

blank_lines : (ends : List LineEnd) (t : List ℕ) → head_lines (print_blank ends ++ t) ≡ head_lines t
blank_lines [] t = refl
blank_lines (lf ∷ ends) t = blank_lines ends t
blank_lines (crlf ∷ ends) t = blank_lines ends t

begin_lines : (t : List ℕ) → Stops is_newline t → head_lines t ≡ lines_from 34 t
begin_lines [] stops = absurd stops
begin_lines (b ∷ t) stops = begin_step b t stops

-- the request line with what stands before it and behind it
abbrev pub lead : RequestHead → List ℕ → List ℕ
lead h t = print_blank h.blank ++ (h.method ++ 32 ∷ (h.target ++ 32 ∷ (print_version h.minor ++ (print_end h.line_end ++ t))))

version_lines : (minor : ℕ) (t : List ℕ) → lines_from 34 (print_version minor ++ t) ≡ lines_from 34 t
version_lines minor t = let e : (48 + minor == 10) ≡ false = grind (arith, nat_tests) in other_step 33 (48 + minor) t e

pub lead_lines : (h : RequestHead) (t : List ℕ) → IsRequestHead h → head_lines (lead h t) ≡ lines_from 33 t
lead_lines h t good =
    let ended = print_end h.line_end ++ t in
    let version = print_version h.minor ++ ended in
    let target = h.target ++ 32 ∷ version in
    let method = h.method ++ 32 ∷ target in
    blank_lines h.blank method
    ∙ begin_lines method (Stops_token h.method (32 ∷ target) good.method.0 good.method.1)
    ∙ word_lines is_token_byte token_no_feed 33 h.method (32 ∷ target) good.method.1
    ∙ other_step 33 32 target refl
    ∙ word_lines is_uri_byte refl 33 h.target (32 ∷ version) good.target.1
    ∙ other_step 33 32 version refl
    ∙ version_lines h.minor ended
    ∙ end_lines 33 h.line_end t

-- a text that ends in a target lacks all lines
pub target_lines : (t : List ℕ) → EndsInTarget t → head_lines t ≡ record { lacks = 34; rest = [] }
target_lines t x =
    let method = x.1 ++ 32 ∷ x.2 in
    ap head_lines (x.5 ∙ append_assoc (print_blank x.0) x.1 (32 ∷ x.2))
    ∙ blank_lines x.0 method
    ∙ begin_lines method (Stops_token x.1 (32 ∷ x.2) x.3.0 x.3.1)
    ∙ word_lines is_token_byte token_no_feed 33 x.1 (32 ∷ x.2) x.3.1
    ∙ other_step 33 32 x.2 refl
    ∙ ap (lines_from 34) (sym (append-nil x.2))
    ∙ word_lines is_uri_byte refl 33 x.2 [] x.4

-- some lines are lacking
pub some_lacks : (n : ℕ) → suc n ≡ 0 → ⊥
some_lacks n e = omega (arith, e)

-- what has all lines has them with more behind
stays : (n : ℕ) (t more x : List ℕ) → lines_from n t ≡ done x → lines_from n (t ++ more) ≡ done (x ++ more)
stays zero t more x e = ap (λ (l : Lines). done (l.rest ++ more)) e
stays (suc n) [] more x e = let bad : suc n ≡ 0 = ap (λ (l : Lines). l.lacks) e in absurd (omega arith)
stays (suc n) (b ∷ t) more x e =
    elim (b == 10) as (λ v. (if v then lines_from n t else lines_from (suc n) t) ≡ done x → (if v then lines_from n (t ++ more) else lines_from (suc n) (t ++ more)) ≡ done (x ++ more)) [
      | true ↦ λ d. stays n t more x d
      | false ↦ λ d. stays (suc n) t more x d
    ] e

pub head_stays : (t more x : List ℕ) → head_lines t ≡ done x → head_lines (t ++ more) ≡ done (x ++ more)
head_stays [] more x e = let bad : 34 ≡ 0 = ap (λ (l : Lines). l.lacks) e in absurd (some_lacks 33 bad)
head_stays (b ∷ t) more x e =
    elim (is_newline b) as (λ v. (if v then head_lines t else lines_from 34 (b ∷ t)) ≡ done x → (if v then head_lines (t ++ more) else lines_from 34 (b ∷ (t ++ more))) ≡ done (x ++ more)) [
      | true ↦ λ d. head_stays t more x d
      | false ↦ λ d. stays 34 (b ∷ t) more x d
    ] e

-- the lines themselves, where a text has them
abbrev pub HasLines : ℕ → List ℕ → List ℕ → Type 0
HasLines n t x = (p : List ℕ) × (t ≡ p ++ x) × (lines_from n p ≡ done [])

parts : (n : ℕ) (t x : List ℕ) → lines_from n t ≡ done x → HasLines n t x
parts zero t x e = ([], ap (λ (l : Lines). l.rest) e, refl)
parts (suc n) [] x e = let bad : suc n ≡ 0 = ap (λ (l : Lines). l.lacks) e in absurd (omega arith)
parts (suc n) (b ∷ t) x e = by (b == 10) refl (parts n t x) (parts (suc n) t x) e
  where
    by : (v : Bool) → (b == 10) ≡ v → (lines_from n t ≡ done x → HasLines n t x) → (lines_from (suc n) t ≡ done x → HasLines (suc n) t x)
        → (if v then lines_from n t else lines_from (suc n) t) ≡ done x → HasLines (suc n) (b ∷ t) x
    by true q one same d = let p = one d in (b ∷ p.0, ap (λ l. b ∷ l) p.1, feed_step n b p.0 q ∙ p.2)
    by false q one same d = let p = same d in (b ∷ p.0, ap (λ l. b ∷ l) p.1, other_step n b p.0 q ∙ p.2)

begun : (p x : List ℕ) (b : ℕ) (t : List ℕ) → is_newline b ≡ false → (b ∷ t) ≡ p ++ x → lines_from 34 p ≡ done [] → head_lines p ≡ done []
begun [] x b t q e l = let bad : 34 ≡ 0 = ap (λ (s : Lines). s.lacks) l in absurd (some_lacks 33 bad)
begun (c ∷ p) x b t q e l =
    let same : b ≡ c = ap (λ (s : List ℕ). get_or s 0 0) e in
    begin_step c p (ap is_newline (sym same) ∙ q) ∙ l

pub head_parts : (t x : List ℕ) → head_lines t ≡ done x → (p : List ℕ) × (t ≡ p ++ x) × (head_lines p ≡ done [])
head_parts [] x e = let bad : 34 ≡ 0 = ap (λ (l : Lines). l.lacks) e in absurd (some_lacks 33 bad)
head_parts (b ∷ t) x e = by (is_newline b) refl (head_parts t x) e
  where
    by : (v : Bool) → is_newline b ≡ v → (head_lines t ≡ done x → (p : List ℕ) × (t ≡ p ++ x) × (head_lines p ≡ done []))
        → (if v then head_lines t else lines_from 34 (b ∷ t)) ≡ done x → (p : List ℕ) × ((b ∷ t) ≡ p ++ x) × (head_lines p ≡ done [])
    by true q again d = let p = again d in (b ∷ p.0, ap (λ l. b ∷ l) p.1, blank_step b p.0 q ∙ p.2)
    by false q again d = let p = parts 34 (b ∷ t) x d in (p.0, p.1, begun p.0 x b t q p.1 p.2)

-- nothing stands behind what has nothing
pub rest_nil : (n : ℕ) → (lines_from n []).rest ≡ []
rest_nil zero = refl
rest_nil (suc n) = refl

-- one step of a look at a text, at a line feed and at another byte
pub feed_at : (n at : ℕ) (t : List ℕ) → 0 < n → at < length t → get_or t at 0 ≡ 10 → lines_from n (drop at t) ≡ lines_from (n - 1) (drop (at + 1) t)
feed_at zero at t some within e = absurd (omega arith)
feed_at (suc n) at t some within e =
    let m : n ≡ suc n - 1 = omega arith in
    let q : (get_or t at 0 == 10) ≡ true = grind (arith, nat_tests) in
    ap (lines_from (suc n)) (drop_more t at 0 within) ∙ feed_step n (get_or t at 0) (drop (at + 1) t) q ∙ ap (λ k. lines_from k (drop (at + 1) t)) m

pub other_at : (n at : ℕ) (t : List ℕ) → 0 < n → at < length t → (get_or t at 0 ≡ 10 → ⊥) → lines_from n (drop at t) ≡ lines_from n (drop (at + 1) t)
other_at zero at t some within e = absurd (omega arith)
other_at (suc n) at t some within e =
    let q : (get_or t at 0 == 10) ≡ false = grind (arith, nat_tests) in
    ap (lines_from (suc n)) (drop_more t at 0 within) ∙ other_step n (get_or t at 0) (drop (at + 1) t) q
