-- What the reader's state says of the bytes so far.
use Rattle.std.proofs.Common.{◌≡◌, ℕ, ◌+◌, ◌<◌, ◌++◌, true, false, cond, List, [], ◌∷◌, length, eqb, ltb, IfOk, subst, sym, ◌∙◌, ap, refl, arith}
use Rattle.std.specs.List.{list_all, flat_map}
use Rattle.std.proofs.lemmas.Bool.{and_parts, and_from, eqb-true, eqb-false, ltb-true, cond_both}
use Rattle.std.proofs.lemmas.List.{length-append, append_assoc, append-nil, length_push}
use Rattle.std.proofs.lemmas.List.Folds.{list_all-append}
use Rattle.wm_base.specs.Text.{is_printable, IsText}
use Rattle.wm_clwords.specs.declared.mode.Mode.{Mode}
use Rattle.wm_clwords.specs.declared.mode.Mode.TheVariants.{Free, Slash, InWord, InQuoted, AtApostrophe, AfterSlash, InComment, AtStar}
use Rattle.wm_clwords.specs.Lines.{is_blank}
use Rattle.wm_clwords.specs.Quote.{doubled, quoted}
use Rattle.wm_clwords.specs.Grammar.{Token, Blank, Comment, Word, Quoted, Key, Open, Close, spelling, is_word_byte, is_word, is_comment_byte, is_unended, is_token, Next, Anything, ByWord, ByQuoted, next_of, may_come, upper_byte, upper, Mark}
use Rattle.wm_clwords.specs.Reading.{State, Went, opened, closed, at_free, at_word, in_quoted, at_apostrophe, in_comment, at_star, step_by}
use Rattle.wm_clwords.specs.Faults.{OpensAt, Leads, Behind}
use Rattle.wm_clwords.proofs.GrammarLemmas.{all_push, upper-push, doubled-push, word_push, word_one, push_long, IsOpenEnd, open_nil, open_push, star_push, unended_front}

-- a token more at the end
leads_push : (place : ℕ) (next : Next) (opens : List ℕ) (tokens : List Token) (middle : Next) (between after : List ℕ) (token : Token)
    → Leads place next opens tokens middle between → is_token token ≡ true → may_come middle token ≡ true → OpensAt (place + length (flat_map spelling tokens)) between token after
    → Leads place next opens (tokens ++ token ∷ []) (next_of token) after
leads_push place next opens [] middle between after token h good may depth =
    let at : OpensAt place opens token after = subst (λ (o : List ℕ). OpensAt place o token after) h.1 (subst (λ (n : ℕ). OpensAt n between token after) (omega arith) depth) in
    (good, subst (λ (n : Next). may_come n token ≡ true) h.0 may, (after, at, (refl, refl)))
leads_push place next opens (t ∷ tokens) middle between after token h good may depth =
    let moved : OpensAt (place + length (spelling t) + length (flat_map spelling tokens)) between token after =
    subst (λ (n : ℕ). OpensAt n between token after) (omega (arith, length-append (spelling t) (flat_map spelling tokens))) depth in
    (h.0, h.1, (h.2.0, h.2.1, leads_push (place + length (spelling t)) (next_of t) h.2.0 tokens middle between after token h.2.2 good may moved))

spell_push : (tokens : List Token) (token : Token) → flat_map spelling (tokens ++ token ∷ []) ≡ flat_map spelling tokens ++ spelling token
spell_push [] token = append-nil (spelling token)
spell_push (t ∷ tokens) token = ap (λ l. spelling t ++ l) (spell_push tokens token) ∙ sym (append_assoc (spelling t) (flat_map spelling tokens) (spelling token))

-- more bytes behind
pub behind_more : (bytes more : List ℕ) (next : Next) (opens : List ℕ) (place : ℕ) (rest : List ℕ) → Behind bytes next opens place rest → Behind (bytes ++ more) next opens place (rest ++ more)
behind_more bytes more next opens place rest h =
    record { tokens = h.tokens; written = ap (λ l. l ++ more) h.written ∙ append_assoc (flat_map spelling h.tokens) rest more; ends = h.ends; leads = h.leads }

pub behind_at : (bytes : List ℕ) (next : Next) (opens : List ℕ) (place : ℕ) (a b : List ℕ) → a ≡ b → Behind bytes next opens place a → Behind bytes next opens place b
behind_at bytes next opens place a b e h = subst (λ (l : List ℕ). Behind bytes next opens place l) e h

-- the rest becomes a token
pub behind_token : (bytes : List ℕ) (next : Next) (opens after : List ℕ) (place behind : ℕ) (token : Token) (rest : List ℕ)
    → is_token token ≡ true → may_come next token ≡ true → OpensAt place opens token after → behind ≡ place + length (spelling token)
    → Behind bytes next opens place (spelling token ++ rest) → Behind bytes (next_of token) after behind rest
behind_token bytes next opens after place behind token rest good may depth e h =
    record {
      tokens = h.tokens ++ token ∷ [];
      written = h.written ∙ sym (append_assoc (flat_map spelling h.tokens) (spelling token) rest) ∙ ap (λ l. l ++ rest) (sym (spell_push h.tokens token));
      ends = e ∙ omega (arith, h.ends, ap length (spell_push h.tokens token), length-append (flat_map spelling h.tokens) (spelling token));
      leads = leads_push 0 Anything [] h.tokens next opens after token h.leads good may (subst (λ (n : ℕ). OpensAt n opens token after) (h.ends ∙ omega arith) depth);
    }

-- a word's bytes so far
pub record IsWordAt (bytes : List ℕ) (start : ℕ) (held opens raw : List ℕ) : Type 0 where
  pub word : is_word raw ≡ true
  pub capitals : held ≡ upper raw
  pub behind : Behind bytes Anything opens start raw

-- a comment's bytes so far
pub record IsCommentAt (bytes : List ℕ) (start : ℕ) (opens : List ℕ) (next : Next) (text : List ℕ) : Type 0 where
  pub comes : (t : List ℕ) → may_come next (Comment t) ≡ true
  pub good : list_all is_comment_byte text ≡ true
  pub behind : Behind bytes next opens start (47 ∷ 42 ∷ text)

-- the state by its mode
abbrev pub Explained : Mode → ℕ → List ℕ → List ℕ → List ℕ → Type 0
Explained Free start held opens bytes = Behind bytes Anything opens (length bytes) []
Explained Slash start held opens bytes = IsWordAt bytes start held opens (47 ∷ [])
Explained InWord start held opens bytes = (raw : List ℕ) × (raw ≡ 47 ∷ [] → ⊥) × IsWordAt bytes start held opens raw
Explained InQuoted start held opens bytes = IsText held × Behind bytes Anything opens start (39 ∷ doubled held)
Explained AtApostrophe start held opens bytes = IsText held × Behind bytes Anything opens start (quoted held)
Explained AfterSlash start held opens bytes = Behind bytes ByQuoted opens start (47 ∷ [])
Explained InComment start held opens bytes = (next : Next) × ((text : List ℕ) × IsOpenEnd text × IsCommentAt bytes start opens next text)
Explained AtStar start held opens bytes = (next : Next) × ((text : List ℕ) × (is_unended (text ++ 42 ∷ []) ≡ true) × IsCommentAt bytes start opens next (text ++ 42 ∷ []))

abbrev pub ExplainedBy : State → List ℕ → Type 0
ExplainedBy state bytes = Explained state.mode state.start state.held state.opens bytes

abbrev Then : List ℕ → Went → Type 0
Then bytes went = IfOk went (λ w. ExplainedBy w.0 bytes)

pub behind_length : (bytes : List ℕ) (next : Next) (opens : List ℕ) (place : ℕ) (rest : List ℕ) → Behind bytes next opens place rest → length bytes ≡ place + length rest
behind_length bytes next opens place rest h = omega (arith, ap length h.written, length-append (flat_map spelling h.tokens) rest, h.ends)

-- what a byte more makes of whole tokens
blank_after : (bytes : List ℕ) (next : Next) (opens : List ℕ) (b : ℕ) → may_come next (Blank b) ≡ true → is_blank b ≡ true → Behind bytes next opens (length bytes) []
    → Behind (bytes ++ b ∷ []) Anything opens (length (bytes ++ b ∷ [])) []
blank_after bytes next opens b may blank h =
    behind_token (bytes ++ b ∷ []) next opens opens (length bytes) (length (bytes ++ b ∷ [])) (Blank b) [] blank may refl (length_push bytes b) (behind_more bytes (b ∷ []) next opens (length bytes) [] h)

close_after : (bytes : List ℕ) (next : Next) (opening : ℕ) (opens : List ℕ) (b : ℕ) → may_come next Close ≡ true → eqb b 41 ≡ true → Behind bytes next (opening ∷ opens) (length bytes) []
    → Behind (bytes ++ b ∷ []) Anything opens (length (bytes ++ b ∷ [])) []
close_after bytes next opening opens b may e h =
    behind_token (bytes ++ b ∷ []) next (opening ∷ opens) opens (length bytes) (length (bytes ++ b ∷ [])) Close [] refl may (opening, refl) (length_push bytes b)
    (behind_at (bytes ++ b ∷ []) next (opening ∷ opens) (length bytes) (b ∷ []) (41 ∷ []) (ap (λ n. n ∷ []) (eqb-true b 41 e)) (behind_more bytes (b ∷ []) next (opening ∷ opens) (length bytes) [] h))

open_after : (bytes opens : List ℕ) (b : ℕ) → length opens < 16 → eqb b 40 ≡ true → Behind bytes Anything opens (length bytes) []
    → Behind (bytes ++ b ∷ []) Anything (length bytes ∷ opens) (length (bytes ++ b ∷ [])) []
open_after bytes opens b room e h =
    behind_token (bytes ++ b ∷ []) Anything opens (length bytes ∷ opens) (length bytes) (length (bytes ++ b ∷ [])) Open [] refl refl (room, refl) (length_push bytes b)
    (behind_at (bytes ++ b ∷ []) Anything opens (length bytes) (b ∷ []) (40 ∷ []) (ap (λ n. n ∷ []) (eqb-true b 40 e)) (behind_more bytes (b ∷ []) Anything opens (length bytes) [] h))

key_after : (bytes opens : List ℕ) (start : ℕ) (raw : List ℕ) (b : ℕ) → is_word raw ≡ true → length opens < 16 → eqb b 40 ≡ true → Behind bytes Anything opens start raw
    → Behind (bytes ++ b ∷ []) Anything (length bytes ∷ opens) (length (bytes ++ b ∷ [])) []
key_after bytes opens start raw b word room e h =
    let long = behind_length bytes Anything opens start raw h in
    behind_token (bytes ++ b ∷ []) Anything opens (length bytes ∷ opens) start (length (bytes ++ b ∷ [])) (Key raw) [] word refl
    (room, ap (λ n. n ∷ opens) long) (omega (arith, length_push bytes b, length_push raw 40, long))
    (behind_at (bytes ++ b ∷ []) Anything opens start (raw ++ b ∷ []) ((raw ++ 40 ∷ []) ++ []) (ap (λ n. raw ++ n ∷ []) (eqb-true b 40 e) ∙ sym (append-nil (raw ++ 40 ∷ [])))
    (behind_more bytes (b ∷ []) Anything opens start raw h))

pub word_end : (bytes opens : List ℕ) (start : ℕ) (raw : List ℕ) → is_word raw ≡ true → Behind bytes Anything opens start raw → Behind bytes ByWord opens (length bytes) []
word_end bytes opens start raw word h =
    behind_token bytes Anything opens opens start (length bytes) (Word raw) [] word refl refl (behind_length bytes Anything opens start raw h)
    (behind_at bytes Anything opens start raw (raw ++ []) (sym (append-nil raw)) h)

pub quote_end : (bytes opens : List ℕ) (start : ℕ) (text : List ℕ) → list_all is_printable text ≡ true → Behind bytes Anything opens start (quoted text) → Behind bytes ByQuoted opens (length bytes) []
quote_end bytes opens start text good h =
    behind_token bytes Anything opens opens start (length bytes) (Quoted text) [] good refl refl (behind_length bytes Anything opens start (quoted text) h)
    (behind_at bytes Anything opens start (quoted text) (quoted text ++ []) (sym (append-nil (quoted text))) h)

-- a byte that begins something
byte_after : (bytes : List ℕ) (next : Next) (opens : List ℕ) (place : ℕ) (rest : List ℕ) (b c : ℕ) → eqb b c ≡ true → Behind bytes next opens place rest → Behind (bytes ++ b ∷ []) next opens place (rest ++ c ∷ [])
byte_after bytes next opens place rest b c e h =
    behind_at (bytes ++ b ∷ []) next opens place (rest ++ b ∷ []) (rest ++ c ∷ []) (ap (λ n. rest ++ n ∷ []) (eqb-true b c e)) (behind_more bytes (b ∷ []) next opens place rest h)

opened_then : (bytes opens : List ℕ) (b : ℕ) (key : Mark) → (length opens < 16 → Behind (bytes ++ b ∷ []) Anything (length bytes ∷ opens) (length (bytes ++ b ∷ [])) [])
    → Then (bytes ++ b ∷ []) (opened (length bytes) opens key)
opened_then bytes opens b key h =
    cond_both (ltb (length opens) 16) _ _ (Then (bytes ++ b ∷ [])) (λ e. h (ltb-true (length opens) 16 e)) (λ _. tt)

closed_then : (bytes : List ℕ) (next : Next) (opens : List ℕ) (b : ℕ) (marks : List Mark) → may_come next Close ≡ true → eqb b 41 ≡ true → Behind bytes next opens (length bytes) []
    → Then (bytes ++ b ∷ []) (closed (length bytes) opens marks)
closed_then bytes next [] b marks may e h = tt
closed_then bytes next (o ∷ opens) b marks may e h = close_after bytes next o opens b may e h

free_then : (opens bytes : List ℕ) (b : ℕ) → Behind bytes Anything opens (length bytes) [] → Then (bytes ++ b ∷ []) (at_free opens (length bytes) b)
free_then opens bytes b h =
    let P : Went → Type 0 = Then (bytes ++ b ∷ []) in
    cond_both (is_blank b) _ _ P (λ e. blank_after bytes Anything opens b refl e h) (λ _.
    cond_both (eqb b 39) _ _ P (λ e. (refl, byte_after bytes Anything opens (length bytes) [] b 39 e h)) (λ _.
    cond_both (eqb b 40) _ _ P (λ e. opened_then bytes opens b _ (λ room. open_after bytes opens b room e h)) (λ _.
    cond_both (eqb b 41) _ _ P (λ e. closed_then bytes Anything opens b [] refl e h) (λ _.
    cond_both (eqb b 47) _ _ P (λ e. record { word = refl; capitals = refl; behind = byte_after bytes Anything opens (length bytes) [] b 47 e h }) (λ slash.
    cond_both (is_word_byte b) _ _ P
    (λ e. (b ∷ [], (λ (q : b ∷ [] ≡ 47 ∷ []). eqb-false b 47 slash cc), record { word = word_one b e; capitals = refl; behind = behind_more bytes (b ∷ []) Anything opens (length bytes) [] h }))
    (λ _. tt))))))

word_then : (start : ℕ) (held opens bytes raw : List ℕ) (b : ℕ) → (raw ≡ 47 ∷ [] → b ≡ 42 → ⊥) → IsWordAt bytes start held opens raw → Then (bytes ++ b ∷ []) (at_word start held opens (length bytes) b)
word_then start held opens bytes raw b wrong h =
    let P : Went → Type 0 = Then (bytes ++ b ∷ []) in
    let ended = word_end bytes opens start raw h.word h.behind in
    cond_both (is_blank b) _ _ P (λ e. blank_after bytes ByWord opens b refl e ended) (λ _.
    cond_both (eqb b 40) _ _ P (λ e. opened_then bytes opens b _ (λ room. key_after bytes opens start raw b h.word room e h.behind)) (λ _.
    cond_both (eqb b 41) _ _ P (λ e. closed_then bytes ByWord opens b _ refl e ended) (λ _.
    cond_both (is_word_byte b) _ _ P
    (λ e. (raw ++ b ∷ [], push_long raw b h.word, record { word = word_push raw b h.word e wrong; capitals = ap (λ l. l ++ upper_byte b ∷ []) h.capitals ∙ sym (upper-push raw b); behind = behind_more bytes (b ∷ []) Anything opens start raw h.behind }))
    (λ _. tt))))

quoted_then : (start : ℕ) (held opens bytes : List ℕ) (b : ℕ) → IsText held → Behind bytes Anything opens start (39 ∷ doubled held) → Then (bytes ++ b ∷ []) (in_quoted start held opens (length bytes) b)
quoted_then start held opens bytes b good h =
    let P : Went → Type 0 = Then (bytes ++ b ∷ []) in
    cond_both (eqb b 39) _ _ P (λ e. (good, byte_after bytes Anything opens start (39 ∷ doubled held) b 39 e h)) (λ plain.
    cond_both (is_printable b) _ _ P
    (λ e. (
      all_push is_printable held b good e,
      behind_at (bytes ++ b ∷ []) Anything opens start (39 ∷ doubled held ++ b ∷ []) (39 ∷ doubled (held ++ b ∷ []))
          (ap (λ l. 39 ∷ l) (sym (doubled-push held b ∙ ap (λ c. doubled held ++ cond c (39 ∷ 39 ∷ []) (b ∷ [])) plain))) (behind_more bytes (b ∷ []) Anything opens start (39 ∷ doubled held) h),
    ))
    (λ _. tt))

apostrophe_then : (start : ℕ) (held opens bytes : List ℕ) (b : ℕ) → IsText held → Behind bytes Anything opens start (quoted held) → Then (bytes ++ b ∷ []) (at_apostrophe start held opens (length bytes) b)
apostrophe_then start held opens bytes b good h =
    let P : Went → Type 0 = Then (bytes ++ b ∷ []) in
    let ended = quote_end bytes opens start held good h in
    cond_both (eqb b 39) _ _ P
    (λ e. (
      all_push is_printable held 39 good refl,
      behind_at (bytes ++ b ∷ []) Anything opens start (quoted held ++ 39 ∷ []) (39 ∷ doubled (held ++ 39 ∷ []))
          (ap (λ l. 39 ∷ l) (append_assoc (doubled held) (39 ∷ []) (39 ∷ []) ∙ sym (doubled-push held 39))) (byte_after bytes Anything opens start (quoted held) b 39 e h),
    )) (λ _.
    cond_both (is_blank b) _ _ P (λ e. blank_after bytes ByQuoted opens b refl e ended) (λ _.
    cond_both (eqb b 41) _ _ P (λ e. closed_then bytes ByQuoted opens b _ refl e ended) (λ _.
    cond_both (eqb b 47) _ _ P (λ e. byte_after bytes ByQuoted opens (length bytes) [] b 47 e ended) (λ _. tt))))

comment_then : (start : ℕ) (opens bytes : List ℕ) (next : Next) (text : List ℕ) (b : ℕ) → is_unended (text ++ 42 ∷ []) ≡ true → (eqb b 42 ≡ false → is_unended (text ++ b ∷ []) ≡ true)
    → IsCommentAt bytes start opens next text → Then (bytes ++ b ∷ []) (in_comment start opens (length bytes) b)
comment_then start opens bytes next text b star other h =
    let P : Went → Type 0 = Then (bytes ++ b ∷ []) in
    cond_both (eqb b 42) _ _ P
    (λ e. (next, (text, star, record { comes = h.comes; good = all_push is_comment_byte text 42 h.good refl; behind = byte_after bytes next opens start (47 ∷ 42 ∷ text) b 42 e h.behind }))) (λ no_star.
    cond_both (is_comment_byte b) _ _ P
    (λ e. (next, (text ++ b ∷ [], open_push text b (other no_star) no_star, record { comes = h.comes; good = all_push is_comment_byte text b h.good e; behind = behind_more bytes (b ∷ []) next opens start (47 ∷ 42 ∷ text) h.behind })))
    (λ _. tt))

front_all : (text : List ℕ) → list_all is_comment_byte (text ++ 42 ∷ []) ≡ true → list_all is_comment_byte text ≡ true
front_all text h = (and_parts (list_all is_comment_byte text) true (sym (list_all-append is_comment_byte text (42 ∷ [])) ∙ h)).0

star_then : (start : ℕ) (opens bytes : List ℕ) (next : Next) (text : List ℕ) (b : ℕ) → is_unended (text ++ 42 ∷ []) ≡ true → IsCommentAt bytes start opens next (text ++ 42 ∷ [])
    → Then (bytes ++ b ∷ []) (at_star start opens (length bytes) b)
star_then start opens bytes next text b star h =
    let P : Went → Type 0 = Then (bytes ++ b ∷ []) in
    cond_both (eqb b 47) _ _ P
    (λ e.
    let good = and_from (list_all is_comment_byte text) (is_unended text) (front_all text h.good) (unended_front text 42 star) in
    let long = behind_length bytes next opens start (47 ∷ 42 ∷ text ++ 42 ∷ []) h.behind in
    let closed_text : (47 ∷ 42 ∷ text ++ 42 ∷ []) ++ 47 ∷ [] ≡ spelling (Comment text) ++ [] =
    ap (λ l. 47 ∷ 42 ∷ l) (append_assoc text (42 ∷ []) (47 ∷ [])) ∙ sym (append-nil (spelling (Comment text))) in
    behind_token (bytes ++ b ∷ []) next opens opens start (length (bytes ++ b ∷ [])) (Comment text) [] good (h.comes text) refl
    (omega (arith, length_push bytes b, long, length_push text 42, length-append text (42 ∷ 47 ∷ [])))
    (behind_at (bytes ++ b ∷ []) next opens start ((47 ∷ 42 ∷ text ++ 42 ∷ []) ++ 47 ∷ []) (spelling (Comment text) ++ []) closed_text (byte_after bytes next opens start (47 ∷ 42 ∷ text ++ 42 ∷ []) b 47 e h.behind)))
    (λ no. comment_then start opens bytes next (text ++ 42 ∷ []) b (star_push text 42 42 star refl) (λ _. star_push text 42 b star no) h)

slash_comment : (start : ℕ) (opens bytes : List ℕ) (next : Next) (b : ℕ) → ((t : List ℕ) → may_come next (Comment t) ≡ true) → eqb b 42 ≡ true → Behind bytes next opens start (47 ∷ [])
    → Explained InComment start [] opens (bytes ++ b ∷ [])
slash_comment start opens bytes next b may e h = (next, ([], open_nil, record { comes = may; good = refl; behind = byte_after bytes next opens start (47 ∷ []) b 42 e h }))

-- a step keeps the state explained
pub explained_by : (mode : Mode) (start : ℕ) (held opens bytes : List ℕ) (b : ℕ) → Explained mode start held opens bytes → Then (bytes ++ b ∷ []) (step_by mode start held opens (length bytes) b)
explained_by Free start held opens bytes b h = free_then opens bytes b h
explained_by Slash start held opens bytes b h =
    cond_both (eqb b 42) _ _ (Then (bytes ++ b ∷ [])) (λ e. slash_comment start opens bytes Anything b (λ _. refl) e h.behind)
    (λ no. word_then start held opens bytes (47 ∷ []) b (λ _ s. eqb-false b 42 no s) h)
explained_by InWord start held opens bytes b h = word_then start held opens bytes h.0 b (λ s _. h.1 s) h.2
explained_by InQuoted start held opens bytes b h = quoted_then start held opens bytes b h.0 h.1
explained_by AtApostrophe start held opens bytes b h = apostrophe_then start held opens bytes b h.0 h.1
explained_by AfterSlash start held opens bytes b h =
    cond_both (eqb b 42) _ _ (Then (bytes ++ b ∷ [])) (λ e. slash_comment start opens bytes ByQuoted b (λ _. refl) e h) (λ _. tt)
explained_by InComment start held opens bytes b h = comment_then start opens bytes h.0 h.1.0 b (h.1.1 42) (λ _. h.1.1 b) h.1.2
explained_by AtStar start held opens bytes b h = star_then start opens bytes h.0 h.1.0 b h.1.1 h.1.2
