-- What is spelled, the reader accepts.
use Rattle.std.proofs.Common.{◌≡◌, ℕ, ◌+◌, ◌<◌, ◌++◌, ◌&&◌, not, Bool, true, false, cond, List, [], ◌∷◌, length, suc, eqb, ltb, Result, Ok, Err, subst, sym, ◌∙◌, ap, refl, arith}
use Rattle.std.specs.List.{list_all, flat_map}
use Rattle.std.proofs.lemmas.Bool.{and_parts, eqb-true, lt-ltb, false≢true, not-true}
use Rattle.std.proofs.lemmas.Bool.Decides.{nat_tests}
use Rattle.std.proofs.lemmas.List.{length-append, append_assoc, append-nil, length-map, length_push}
use Rattle.wm_base.specs.Text.{is_printable}
use Rattle.wm_clwords.specs.declared.mode.Mode.{Mode}
use Rattle.wm_clwords.specs.declared.mode.Mode.TheVariants.{Free, Slash, InWord, InQuoted, AtApostrophe, InComment, AtStar}
use Rattle.wm_clwords.specs.declared.fault.ClFault.{ClFault}
use Rattle.wm_clwords.specs.declared.fault.ClFault.TheVariants.{BadByte}
use Rattle.wm_clwords.specs.Lines.{is_blank}
use Rattle.wm_clwords.specs.Quote.{doubled, doubled_byte, quoted}
use Rattle.wm_clwords.specs.Grammar.{Token, Blank, Comment, Word, Quoted, Key, Open, Close, spelling, is_word_byte, begins_comment, is_word, is_comment_byte, is_unended, is_token, Next, Anything, ByWord, ByQuoted, MayStand, upper_byte, upper, Mark, mark_at, marks_from, Spells}
use Rattle.wm_clwords.specs.Reading.{State, mark, Went, goes, opened, closed, at_word, in_comment, step_by, all_closed, finish_by, with_front, with_rest, run, begun}
use Rattle.wm_clwords.proofs.GrammarLemmas.{upper-push, word_parts, word_push, word_one}

abbrev pub Marks : Type 0
Marks = Result (List Mark) ClFault

pub front_nil : (r : Marks) → with_front [] r ≡ r
front_nil (Ok m) = refl
front_nil (Err f) = refl

-- a step that goes on
went : (s : State) (marks : List Mark) (place : ℕ) (bytes : List ℕ) (ms : List Mark) → run s place bytes ≡ Ok ms → with_rest (Ok (s, marks)) (λ next. run next place bytes) ≡ Ok (marks ++ ms)
went s marks place bytes ms e = ap (with_front marks) e

-- a test that is known
pub choose : (c : Bool) (x y : Went) (next : State → Marks) (r : Marks) (d : Bool) → c ≡ d → with_rest (cond d x y) next ≡ r → with_rest (cond c x y) next ≡ r
choose c x y next r d e h = ap (λ b. with_rest (cond b x y) next) e ∙ h

abbrev pub at_mode : Mode → ℕ → List ℕ → List ℕ → State
at_mode mode start held opens = record { mode = mode; start = start; held = held; opens = opens }

-- a byte of a word is none that ends it
pub word_byte : (b : ℕ) → is_word_byte b ≡ true → (is_blank b ≡ false) × (eqb b 39 ≡ false) × (eqb b 40 ≡ false) × (eqb b 41 ≡ false)
word_byte b h = (grind (arith, nat_tests), grind (arith, nat_tests), grind (arith, nat_tests), grind (arith, nat_tests))

pub blank_byte : (b : ℕ) → is_blank b ≡ true → (eqb b 42 ≡ false) × (eqb b 39 ≡ false)
blank_byte b h = (grind (arith, nat_tests), grind (arith, nat_tests))

-- `/` alone
abbrev pub is_slash : List ℕ → Bool
is_slash [] = false
is_slash (a ∷ []) = eqb a 47
is_slash (a ∷ b ∷ l) = false

abbrev pub word_mode : Bool → Mode
word_mode c = cond c Slash InWord

abbrev pub word_state : ℕ → List ℕ → List ℕ → State
word_state start raw opens = at_mode (word_mode (is_slash raw)) start (upper raw) opens

slash_push : (raw : List ℕ) (b : ℕ) → is_word raw ≡ true → is_slash (raw ++ b ∷ []) ≡ false
slash_push [] b h = absurd (false≢true h)
slash_push (a ∷ []) b h = refl
slash_push (a ∷ c ∷ l) b h = refl

-- a word's bytes so far are read alike, whether they are `/` alone or not
pub word_step_by : (c : Bool) (start : ℕ) (held opens : List ℕ) (place b : ℕ) → (c ≡ true → eqb b 42 ≡ false) → step_by (word_mode c) start held opens place b ≡ at_word start held opens place b
word_step_by true start held opens place b h = ap (λ d. cond d (goes InComment start [] opens []) (at_word start held opens place b)) (h refl)
word_step_by false start held opens place b h = refl

pub word_finish_by : (c : Bool) (start : ℕ) (held opens : List ℕ) (place : ℕ) → finish_by (word_mode c) start held opens place ≡ all_closed opens (mark start place (Word held) ∷ [])
word_finish_by true start held opens place = refl
word_finish_by false start held opens place = refl

-- what isn't `/*`
no_star : (raw : List ℕ) (b : ℕ) (rest : List ℕ) → begins_comment (raw ++ b ∷ rest) ≡ false → is_slash raw ≡ true → eqb b 42 ≡ false
no_star [] b rest h e = absurd (false≢true e)
no_star (a ∷ []) b rest h e = by_first (eqb a 47) e (eqb b 42) h
  where
    by_first : (c : Bool) → c ≡ true → (d : Bool) → (c && d) ≡ false → d ≡ false
    by_first true e d h = h
    by_first false e d h = absurd (false≢true e)
no_star (a ∷ c ∷ l) b rest h e = absurd (false≢true e)

-- one byte more of a word
word_more : (start : ℕ) (raw opens : List ℕ) (place b : ℕ) (bytes : List ℕ) → is_word raw ≡ true → is_word_byte b ≡ true → (is_slash raw ≡ true → eqb b 42 ≡ false)
    → run (word_state start raw opens) place (b ∷ bytes) ≡ run (word_state start (raw ++ b ∷ []) opens) (place + 1) bytes
word_more start raw opens place b bytes word good star =
    let w = word_byte b good in
    let next : State → Marks = λ s. run s (place + 1) bytes in
    ap (λ x. with_rest x next) (word_step_by (is_slash raw) start (upper raw) opens place b star)
    ∙ choose (is_blank b) _ _ next _ false w.0 (choose (eqb b 40) _ _ next _ false w.2 (choose (eqb b 41) _ _ next _ false w.3 (choose (is_word_byte b) _ _ next _ true good
    (front_nil (run (at_mode InWord start (upper raw ++ upper_byte b ∷ []) opens) (place + 1) bytes)
    ∙ ap (λ h. run (at_mode InWord start h opens) (place + 1) bytes) (sym (upper-push raw b))
    ∙ ap (λ c. run (at_mode (word_mode c) start (upper (raw ++ b ∷ [])) opens) (place + 1) bytes) (sym (slash_push raw b word))))))

enter_by : (a : ℕ) (opens : List ℕ) (place : ℕ) (bytes : List ℕ) (c : Bool) → eqb a 47 ≡ c → is_word_byte a ≡ true
    → with_rest (cond (eqb a 47) (goes Slash place (47 ∷ []) opens []) (cond (is_word_byte a) (goes InWord place (upper_byte a ∷ []) opens []) (Err (BadByte place)))) (λ s. run s (place + 1) bytes)
    ≡ run (word_state place (a ∷ []) opens) (place + 1) bytes
enter_by a opens place bytes true e good =
    let next : State → Marks = λ s. run s (place + 1) bytes in
    choose (eqb a 47) _ _ next _ true e
    (front_nil (run (at_mode Slash place (47 ∷ []) opens) (place + 1) bytes)
    ∙ ap (λ n. run (at_mode Slash place (upper_byte n ∷ []) opens) (place + 1) bytes) (sym (eqb-true a 47 e))
    ∙ ap (λ c. run (at_mode (word_mode c) place (upper_byte a ∷ []) opens) (place + 1) bytes) (sym e))
enter_by a opens place bytes false e good =
    let next : State → Marks = λ s. run s (place + 1) bytes in
    choose (eqb a 47) _ _ next _ false e (choose (is_word_byte a) _ _ next _ true good
    (front_nil (run (at_mode InWord place (upper_byte a ∷ []) opens) (place + 1) bytes)
    ∙ ap (λ c. run (at_mode (word_mode c) place (upper_byte a ∷ []) opens) (place + 1) bytes) (sym e)))

quote_by : (b start : ℕ) (before opens : List ℕ) (place : ℕ) (bytes : List ℕ) (c : Bool) → eqb b 39 ≡ c → is_printable b ≡ true
    → run (at_mode InQuoted start before opens) place (doubled_byte b ++ bytes) ≡ run (at_mode InQuoted start (before ++ b ∷ []) opens) (place + length (doubled_byte b)) bytes
quote_by b start before opens place bytes true e good =
    let twice : doubled_byte b ≡ 39 ∷ 39 ∷ [] = ap (λ c. cond c (39 ∷ 39 ∷ []) (b ∷ [])) e in
    ap (λ l. run (at_mode InQuoted start before opens) place (l ++ bytes)) twice
    ∙ front_nil _ ∙ front_nil (run (at_mode InQuoted start (before ++ 39 ∷ []) opens) (place + 1 + 1) bytes)
    ∙ ap (λ n. run (at_mode InQuoted start (before ++ n ∷ []) opens) (place + 1 + 1) bytes) (sym (eqb-true b 39 e))
    ∙ ap (λ n. run (at_mode InQuoted start (before ++ b ∷ []) opens) n bytes) (omega (arith, ap length twice))
quote_by b start before opens place bytes false e good =
    let once : doubled_byte b ≡ b ∷ [] = ap (λ c. cond c (39 ∷ 39 ∷ []) (b ∷ [])) e in
    let next : State → Marks = λ s. run s (place + 1) bytes in
    ap (λ l. run (at_mode InQuoted start before opens) place (l ++ bytes)) once
    ∙ choose (eqb b 39) _ _ next _ false e (choose (is_printable b) _ _ next _ true good
    (front_nil (run (at_mode InQuoted start (before ++ b ∷ []) opens) (place + 1) bytes)
    ∙ ap (λ n. run (at_mode InQuoted start (before ++ b ∷ []) opens) n bytes) (omega (arith, ap length once))))

pub unended_tail : (b : ℕ) (text : List ℕ) → is_unended (b ∷ text) ≡ true → is_unended text ≡ true
unended_tail b [] h = refl
unended_tail b (c ∷ text) h = (and_parts (not (eqb b 42 && eqb c 47)) (is_unended (c ∷ text)) h).1

pub after_star : (b : ℕ) (text : List ℕ) → is_unended (42 ∷ b ∷ text) ≡ true → eqb b 47 ≡ false
after_star b text h = not-true (eqb b 47) (and_parts (not (eqb b 47)) (is_unended (b ∷ text)) h).0

pub in_by : (b start : ℕ) (opens : List ℕ) (place : ℕ) (next : State → Marks) (r : Marks) (c : Bool) → eqb b 42 ≡ c → is_comment_byte b ≡ true
    → (eqb b 42 ≡ true → with_rest (goes AtStar start [] opens []) next ≡ r) → with_rest (goes InComment start [] opens []) next ≡ r → with_rest (in_comment start opens place b) next ≡ r
in_by b start opens place next r true e good star other = choose (eqb b 42) _ _ next r true e (star e)
in_by b start opens place next r false e good star other = choose (eqb b 42) _ _ next r false e (choose (is_comment_byte b) _ _ next r true good other)

-- a word's first byte
enter : (a : ℕ) (opens : List ℕ) (place : ℕ) (bytes : List ℕ) → is_word_byte a ≡ true → run (at_mode Free 0 [] opens) place (a ∷ bytes) ≡ run (word_state place (a ∷ []) opens) (place + 1) bytes
enter a opens place bytes good =
    let w = word_byte a good in
    let next : State → Marks = λ s. run s (place + 1) bytes in
    choose (is_blank a) _ _ next _ false w.0 (choose (eqb a 39) _ _ next _ false w.1 (choose (eqb a 40) _ _ next _ false w.2 (choose (eqb a 41) _ _ next _ false w.3
    (enter_by a opens place bytes (eqb a 47) refl good))))

-- a byte of a text
quote_byte : (b start : ℕ) (before opens : List ℕ) (place : ℕ) (bytes : List ℕ) → is_printable b ≡ true
    → run (at_mode InQuoted start before opens) place (doubled_byte b ++ bytes) ≡ run (at_mode InQuoted start (before ++ b ∷ []) opens) (place + length (doubled_byte b)) bytes
quote_byte b start before opens place bytes good = quote_by b start before opens place bytes (eqb b 39) refl good

-- the rest of a word
word_run : (more : List ℕ) (start : ℕ) (raw opens : List ℕ) (place : ℕ) (bytes : List ℕ) → is_word raw ≡ true → list_all is_word_byte more ≡ true → is_word (raw ++ more) ≡ true
    → run (word_state start raw opens) place (more ++ bytes) ≡ run (word_state start (raw ++ more) opens) (place + length more) bytes
word_run [] start raw opens place bytes word good whole =
    ap (λ r. run (word_state start r opens) place bytes) (sym (append-nil raw)) ∙ ap (λ n. run (word_state start (raw ++ []) opens) n bytes) (omega arith)
word_run (b ∷ more) start raw opens place bytes word good whole =
    let w = and_parts (is_word_byte b) (list_all is_word_byte more) good in
    let star = no_star raw b more (word_parts (raw ++ b ∷ more) whole).2 in
    let same : (raw ++ b ∷ []) ++ more ≡ raw ++ b ∷ more = append_assoc raw (b ∷ []) more in
    word_more start raw opens place b (more ++ bytes) word w.0 star
    ∙ word_run more start (raw ++ b ∷ []) opens (place + 1) bytes (word_push raw b word w.0 (λ s t. absurd (false≢true (sym (star (ap is_slash s)) ∙ ap (λ n. eqb n 42) t)))) w.1 (ap is_word same ∙ whole)
    ∙ ap (λ r. run (word_state start r opens) (place + 1 + length more) bytes) same
    ∙ ap (λ n. run (word_state start (raw ++ b ∷ more) opens) n bytes) (omega arith)

-- a whole word
pub word_all : (raw : List ℕ) (opens : List ℕ) (place : ℕ) (bytes : List ℕ) → is_word raw ≡ true
    → run (at_mode Free 0 [] opens) place (raw ++ bytes) ≡ run (word_state place raw opens) (place + length raw) bytes
word_all [] opens place bytes word = absurd (false≢true word)
word_all (a ∷ more) opens place bytes word =
    let w = and_parts (is_word_byte a) (list_all is_word_byte more) (word_parts (a ∷ more) word).1 in
    enter a opens place (more ++ bytes) w.0
    ∙ word_run more place (a ∷ []) opens (place + 1) bytes (word_one a w.0) w.1 word
    ∙ ap (λ n. run (word_state place (a ∷ more) opens) n bytes) (omega arith)

-- the bytes of a text
pub quote_run : (text : List ℕ) (start : ℕ) (before opens : List ℕ) (place : ℕ) (bytes : List ℕ) → list_all is_printable text ≡ true
    → run (at_mode InQuoted start before opens) place (doubled text ++ bytes) ≡ run (at_mode InQuoted start (before ++ text) opens) (place + length (doubled text)) bytes
quote_run [] start before opens place bytes good =
    ap (λ r. run (at_mode InQuoted start r opens) place bytes) (sym (append-nil before)) ∙ ap (λ n. run (at_mode InQuoted start (before ++ []) opens) n bytes) (omega arith)
quote_run (b ∷ text) start before opens place bytes good =
    let w = and_parts (is_printable b) (list_all is_printable text) good in
    let same : (before ++ b ∷ []) ++ text ≡ before ++ b ∷ text = append_assoc before (b ∷ []) text in
    ap (λ l. run (at_mode InQuoted start before opens) place l) (append_assoc (doubled_byte b) (doubled text) bytes)
    ∙ quote_byte b start before opens place (doubled text ++ bytes) w.0
    ∙ quote_run text start (before ++ b ∷ []) opens (place + length (doubled_byte b)) bytes w.1
    ∙ ap (λ r. run (at_mode InQuoted start r opens) (place + length (doubled_byte b) + length (doubled text)) bytes) same
    ∙ ap (λ n. run (at_mode InQuoted start (before ++ b ∷ text) opens) n bytes) (omega (arith, length-append (doubled_byte b) (doubled text)))

-- a comment
pub comment_run : (text : List ℕ) (start : ℕ) (opens : List ℕ) (place : ℕ) (bytes : List ℕ) → list_all is_comment_byte text ≡ true → is_unended text ≡ true
    → (run (at_mode InComment start [] opens) place (text ++ 42 ∷ 47 ∷ bytes) ≡ run (at_mode Free 0 [] opens) (place + length text + 2) bytes)
    × (is_unended (42 ∷ text) ≡ true → run (at_mode AtStar start [] opens) place (text ++ 42 ∷ 47 ∷ bytes) ≡ run (at_mode Free 0 [] opens) (place + length text + 2) bytes)
comment_run [] start opens place bytes good h =
    let done : with_front [] (with_front [] (run (at_mode Free 0 [] opens) (place + 1 + 1) bytes)) ≡ run (at_mode Free 0 [] opens) (place + 0 + 2) bytes =
    front_nil _ ∙ front_nil _ ∙ ap (λ n. run (at_mode Free 0 [] opens) n bytes) (omega arith) in
    (done, λ _. done)
comment_run (b ∷ text) start opens place bytes good h =
    let w = and_parts (is_comment_byte b) (list_all is_comment_byte text) good in
    let tail : is_unended text ≡ true = unended_tail b text h in
    let ih = comment_run text start opens (place + 1) bytes w.1 tail in
    let place_is : place + 1 + length text + 2 ≡ place + suc (length text) + 2 = omega arith in
    let moved = ap (λ n. run (at_mode Free 0 [] opens) n bytes) place_is in
    let next : State → Marks = λ s. run s (place + 1) (text ++ 42 ∷ 47 ∷ bytes) in
    let inside : with_rest (in_comment start opens place b) next ≡ run (at_mode Free 0 [] opens) (place + suc (length text) + 2) bytes =
    in_by b start opens place next _ (eqb b 42) refl w.0
    (λ e. front_nil _ ∙ ih.1 (ap (λ n. is_unended (n ∷ text)) (sym (eqb-true b 42 e)) ∙ h) ∙ moved) (front_nil _ ∙ ih.0 ∙ moved) in
    (inside, λ u. choose (eqb b 47) _ _ next _ false (after_star b text u) inside)

-- the tokens that may stand are read, from each kind of place
pub record Read (tokens : List Token) : Type 0 where
  pub free : (opens : List ℕ) (place : ℕ) → MayStand 16 Anything (length opens) tokens
      → run (at_mode Free 0 [] opens) place (flat_map spelling tokens) ≡ Ok (marks_from place tokens)
  pub word : (start : ℕ) (raw opens : List ℕ) (place : ℕ) → is_word raw ≡ true → MayStand 16 ByWord (length opens) tokens
      → run (word_state start raw opens) place (flat_map spelling tokens) ≡ Ok (mark start place (Word (upper raw)) ∷ marks_from place tokens)
  pub quote : (start : ℕ) (text opens : List ℕ) (place : ℕ) → MayStand 16 ByQuoted (length opens) tokens
      → run (at_mode AtApostrophe start text opens) place (flat_map spelling tokens) ≡ Ok (mark start place (Quoted text) ∷ marks_from place tokens)

pub none_open : (opens : List ℕ) (marks : List Mark) → length opens ≡ 0 → all_closed opens marks ≡ Ok marks
none_open [] marks e = refl
none_open (o ∷ opens) marks e = absurd (omega arith)

-- a list that may begin
open_run : (opens : List ℕ) (place : ℕ) (key : Mark) (bytes : List ℕ) (ms : List Mark) → length opens < 16
    → run (at_mode Free 0 [] (place ∷ opens)) (place + 1) bytes ≡ Ok ms → with_rest (opened place opens key) (λ s. run s (place + 1) bytes) ≡ Ok (key ∷ ms)
open_run opens place key bytes ms h e =
    choose (ltb (length opens) 16) _ _ (λ s. run s (place + 1) bytes) _ true (lt-ltb (length opens) 16 h) (ap (with_front (key ∷ [])) e)

-- a list that may end
close_run : (opens : List ℕ) (after place : ℕ) (marks : List Mark) (bytes : List ℕ) (ms : List Mark) → length opens ≡ after + 1
    → ((rest : List ℕ) → length rest ≡ after → run (at_mode Free 0 [] rest) (place + 1) bytes ≡ Ok ms)
    → with_rest (closed place opens marks) (λ s. run s (place + 1) bytes) ≡ Ok ((marks ++ mark place (place + 1) Close ∷ []) ++ ms)
close_run [] after place marks bytes ms e h = absurd (omega arith)
close_run (o ∷ rest) after place marks bytes ms e h = ap (with_front (marks ++ mark place (place + 1) Close ∷ [])) (h rest (omega arith))

-- what stands behind the rest of the tokens, for any lists that are as many
stand_at : (next : Next) (a b : ℕ) (tokens : List Token) → a ≡ b → MayStand 16 next a tokens → MayStand 16 next b tokens
stand_at next a b tokens e h = subst (λ (n : ℕ). MayStand 16 next n tokens) e h

-- a comment where one may begin
pub comment_all : (text : List ℕ) (start : ℕ) (opens : List ℕ) (place : ℕ) (bytes : List ℕ) → is_token (Comment text) ≡ true → place ≡ start + 1
    → with_front [] (run (at_mode InComment start [] opens) (place + 1) ((text ++ 42 ∷ 47 ∷ []) ++ bytes)) ≡ run (at_mode Free 0 [] opens) (start + length (spelling (Comment text))) bytes
comment_all text start opens place bytes good e =
    let w = and_parts (list_all is_comment_byte text) (is_unended text) good in
    front_nil _ ∙ ap (run (at_mode InComment start [] opens) (place + 1)) (append_assoc text (42 ∷ 47 ∷ []) bytes)
    ∙ (comment_run text start opens (place + 1) bytes w.0 w.1).0
    ∙ ap (λ n. run (at_mode Free 0 [] opens) n bytes) (omega (arith, e, length-append text (42 ∷ 47 ∷ [])))

-- a byte behind a word's bytes
pub word_then : (start : ℕ) (raw opens : List ℕ) (place b : ℕ) (bytes : List ℕ) (r : Marks) → eqb b 42 ≡ false
    → with_rest (at_word start (upper raw) opens place b) (λ s. run s (place + 1) bytes) ≡ r → run (word_state start raw opens) place (b ∷ bytes) ≡ r
word_then start raw opens place b bytes r e h =
    ap (λ x. with_rest x (λ s. run s (place + 1) bytes)) (word_step_by (is_slash raw) start (upper raw) opens place b (λ _. e)) ∙ h

-- nothing more comes
read_nil : Read []
read_nil =
    record {
      free = λ opens place h. none_open opens [] h;
      word = λ start raw opens place word h. word_finish_by (is_slash raw) start (upper raw) opens place ∙ none_open opens _ h;
      quote = λ start text opens place h. none_open opens _ h;
    }

free_token : (token : Token) (tokens : List Token) (opens : List ℕ) (place : ℕ) → Read tokens → MayStand 16 Anything (length opens) (token ∷ tokens)
    → run (at_mode Free 0 [] opens) place (spelling token ++ flat_map spelling tokens) ≡ Ok (mark_at place token ++ marks_from (place + length (spelling token)) tokens)
free_token (Blank b) tokens opens place ih h =
    choose (is_blank b) _ _ (λ s. run s (place + 1) (flat_map spelling tokens)) _ true h.0
    (front_nil _ ∙ ih.free opens (place + 1) (stand_at Anything h.2.0 (length opens) tokens h.2.1 h.2.2))
free_token (Comment text) tokens opens place ih h =
    front_nil _ ∙ comment_all text place opens (place + 1) (flat_map spelling tokens) h.0 refl
    ∙ ih.free opens (place + length (spelling (Comment text))) (stand_at Anything h.2.0 (length opens) tokens h.2.1 h.2.2)
free_token (Word raw) tokens opens place ih h =
    word_all raw opens place (flat_map spelling tokens) h.0
    ∙ ih.word place raw opens (place + length raw) h.0 (stand_at ByWord h.2.0 (length opens) tokens h.2.1 h.2.2)
free_token (Quoted text) tokens opens place ih h =
    let rest : List ℕ = flat_map spelling tokens in
    front_nil _ ∙ ap (run (at_mode InQuoted place [] opens) (place + 1)) (append_assoc (doubled text) (39 ∷ []) rest)
    ∙ quote_run text place [] opens (place + 1) (39 ∷ rest) h.0
    ∙ front_nil _ ∙ ap (λ n. run (at_mode AtApostrophe place text opens) n rest) (omega (arith, length_push (doubled text) 39))
    ∙ ih.quote place text opens (place + length (quoted text)) (stand_at ByQuoted h.2.0 (length opens) tokens h.2.1 h.2.2)
free_token (Key raw) tokens opens place ih h =
    let rest : List ℕ = flat_map spelling tokens in
    let behind : ℕ = place + length raw in
    let long : place + length (raw ++ 40 ∷ []) ≡ behind + 1 = omega (arith, length_push raw 40) in
    ap (run (at_mode Free 0 [] opens) place) (append_assoc raw (40 ∷ []) rest)
    ∙ word_all raw opens place (40 ∷ rest) h.0
    ∙ word_then place raw opens behind 40 rest _ refl
    (open_run opens behind (mark place (place + length (upper raw) + 1) (Key (upper raw))) rest _ h.2.1.0
    (ih.free (behind ∷ opens) (behind + 1) (stand_at Anything h.2.0 (suc (length opens)) tokens (omega (arith, h.2.1.1)) h.2.2)))
    ∙ ap (λ n. Ok (mark place (place + n + 1) (Key (upper raw)) ∷ marks_from (behind + 1) tokens)) (length-map raw upper_byte)
    ∙ ap (λ n. Ok (mark place (place + length raw + 1) (Key (upper raw)) ∷ marks_from n tokens)) (sym long)
free_token Open tokens opens place ih h =
    open_run opens place (mark place (place + 1) Open) (flat_map spelling tokens) _ h.2.1.0
    (ih.free (place ∷ opens) (place + 1) (stand_at Anything h.2.0 (suc (length opens)) tokens (omega (arith, h.2.1.1)) h.2.2))
free_token Close tokens opens place ih h =
    close_run opens h.2.0 place [] (flat_map spelling tokens) _ h.2.1
    (λ rest e. ih.free rest (place + 1) (stand_at Anything h.2.0 (length rest) tokens (sym e) h.2.2))

word_token : (token : Token) (tokens : List Token) (start : ℕ) (raw opens : List ℕ) (place : ℕ) → Read tokens → is_word raw ≡ true → MayStand 16 ByWord (length opens) (token ∷ tokens)
    → run (word_state start raw opens) place (spelling token ++ flat_map spelling tokens) ≡ Ok (mark start place (Word (upper raw)) ∷ (mark_at place token ++ marks_from (place + length (spelling token)) tokens))
word_token (Blank b) tokens start raw opens place ih word h =
    word_then start raw opens place b (flat_map spelling tokens) _ (blank_byte b h.0).0
    (choose (is_blank b) _ _ (λ s. run s (place + 1) (flat_map spelling tokens)) _ true h.0
    (ap (with_front (mark start place (Word (upper raw)) ∷ [])) (ih.free opens (place + 1) (stand_at Anything h.2.0 (length opens) tokens h.2.1 h.2.2))))
word_token Close tokens start raw opens place ih word h =
    word_then start raw opens place 41 (flat_map spelling tokens) _ refl
    (close_run opens h.2.0 place (mark start place (Word (upper raw)) ∷ []) (flat_map spelling tokens) _ h.2.1
    (λ rest e. ih.free rest (place + 1) (stand_at Anything h.2.0 (length rest) tokens (sym e) h.2.2)))
word_token (Comment text) tokens start raw opens place ih word h = absurd (false≢true h.1)
word_token (Word other) tokens start raw opens place ih word h = absurd (false≢true h.1)
word_token (Quoted text) tokens start raw opens place ih word h = absurd (false≢true h.1)
word_token (Key other) tokens start raw opens place ih word h = absurd (false≢true h.1)
word_token Open tokens start raw opens place ih word h = absurd (false≢true h.1)

quote_token : (token : Token) (tokens : List Token) (start : ℕ) (text opens : List ℕ) (place : ℕ) → Read tokens → MayStand 16 ByQuoted (length opens) (token ∷ tokens)
    → run (at_mode AtApostrophe start text opens) place (spelling token ++ flat_map spelling tokens) ≡ Ok (mark start place (Quoted text) ∷ (mark_at place token ++ marks_from (place + length (spelling token)) tokens))
quote_token (Blank b) tokens start text opens place ih h =
    let next : State → Marks = λ s. run s (place + 1) (flat_map spelling tokens) in
    choose (eqb b 39) _ _ next _ false (blank_byte b h.0).1 (choose (is_blank b) _ _ next _ true h.0
    (ap (with_front (mark start place (Quoted text) ∷ [])) (ih.free opens (place + 1) (stand_at Anything h.2.0 (length opens) tokens h.2.1 h.2.2))))
quote_token (Comment other) tokens start text opens place ih h =
    ap (with_front (mark start place (Quoted text) ∷ []))
    (comment_all other place opens (place + 1) (flat_map spelling tokens) h.0 refl
    ∙ ih.free opens (place + length (spelling (Comment other))) (stand_at Anything h.2.0 (length opens) tokens h.2.1 h.2.2))
quote_token Close tokens start text opens place ih h =
    close_run opens h.2.0 place (mark start place (Quoted text) ∷ []) (flat_map spelling tokens) _ h.2.1
    (λ rest e. ih.free rest (place + 1) (stand_at Anything h.2.0 (length rest) tokens (sym e) h.2.2))
quote_token (Word other) tokens start text opens place ih h = absurd (false≢true h.1)
quote_token (Quoted other) tokens start text opens place ih h = absurd (false≢true h.1)
quote_token (Key other) tokens start text opens place ih h = absurd (false≢true h.1)
quote_token Open tokens start text opens place ih h = absurd (false≢true h.1)

pub read_all : (tokens : List Token) → Read tokens
read_all [] = read_nil
read_all (token ∷ tokens) =
    let ih = read_all tokens in
    record {
      free = λ opens place h. free_token token tokens opens place ih h;
      word = λ start raw opens place word h. word_token token tokens start raw opens place ih word h;
      quote = λ start text opens place h. quote_token token tokens start text opens place ih h;
    }

-- what is spelled, the reader accepts
pub run-Spells : (bytes : List ℕ) (ms : List Mark) → Spells 16 bytes ms → run begun 0 bytes ≡ Ok ms
run-Spells bytes ms h = ap (run begun 0) h.written ∙ (read_all h.tokens).free [] 0 h.stand ∙ ap Ok (sym h.items)
