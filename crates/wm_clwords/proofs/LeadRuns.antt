-- Where tokens lead the reader.
use Rattle.std.proofs.Common.{◌≡◌, ℕ, ◌+◌, ◌<◌, ◌++◌, true, false, List, [], ◌∷◌, length, eqb, ltb, subst, sym, ◌∙◌, ap, refl, arith}
use Rattle.std.specs.List.{flat_map}
use Rattle.std.proofs.lemmas.Bool.{lt-ltb, false≢true}
use Rattle.std.proofs.lemmas.List.{length-append, append_assoc, length_push}
use Rattle.wm_clwords.specs.declared.mode.Mode.TheVariants.{Free, InQuoted, AtApostrophe}
use Rattle.wm_clwords.specs.Lines.{is_blank}
use Rattle.wm_clwords.specs.Quote.{doubled, quoted}
use Rattle.wm_clwords.specs.Grammar.{Token, Blank, Comment, Word, Quoted, Key, Open, Close, spelling, is_word, Next, Anything, ByWord, ByQuoted, upper, Mark}
use Rattle.wm_clwords.specs.Reading.{State, mark, opened, closed, at_word, with_front, with_rest, run, begun}
use Rattle.wm_clwords.specs.Faults.{Leads, Behind}
use Rattle.wm_clwords.proofs.Completeness.{front_nil, at_mode, word_state, choose, blank_byte, word_all, quote_run, comment_all, word_then}
use Rattle.wm_clwords.proofs.Runs.{front_front}

-- the state where an item or a gap may begin, or behind a word or a text that may end here
abbrev pub Pending : Next → List ℕ → State → Type 0
Pending Anything opens state = state ≡ at_mode Free 0 [] opens
Pending ByWord opens state = (start : ℕ) × ((raw : List ℕ) × (is_word raw ≡ true) × (state ≡ word_state start raw opens))
Pending ByQuoted opens state = (start : ℕ) × ((text : List ℕ) × (state ≡ at_mode AtApostrophe start text opens))

-- the bytes lead from a state, whatever follows
abbrev pub To : State → ℕ → List ℕ → Next → List ℕ → ℕ → Type 0
To state place bytes next opens behind =
    (s : State) × Pending next opens s × ((rest : List ℕ) → (ms : List Mark) × (run state place (bytes ++ rest) ≡ with_front ms (run s behind rest)))

to_step : (state : State) (place : ℕ) (front bytes : List ℕ) (next : Next) (opens : List ℕ) (behind : ℕ) (marks : List Mark) (state1 : State) (place1 : ℕ)
    → ((b : List ℕ) → run state place (front ++ b) ≡ with_front marks (run state1 place1 b)) → To state1 place1 bytes next opens behind → To state place (front ++ bytes) next opens behind
to_step state place front bytes next opens behind marks state1 place1 e h = (
  h.0,
  h.1,
  λ rest.
      let r = h.2 rest in
      (marks ++ r.0, ap (run state place) (append_assoc front bytes rest) ∙ e (bytes ++ rest) ∙ ap (with_front marks) r.1 ∙ front_front marks r.0 _),
)

pending_at : (next then : Next) (opens after : List ℕ) (state : State) → then ≡ next → after ≡ opens → Pending next opens state → Pending then after state
pending_at next then opens after state e f h =
    subst (λ (n : Next). Pending n after state) (sym e) (subst (λ (o : List ℕ). Pending next o state) (sym f) h)

to_nil : (state : State) (place : ℕ) (next then : Next) (opens after : List ℕ) (behind : ℕ) → behind ≡ place + 0 → then ≡ next → after ≡ opens → Pending next opens state → To state place [] then after behind
to_nil state place next then opens after behind b e f h =
    (state, pending_at next then opens after state e f h, λ rest. ([], ap (λ n. run state n rest) (omega (arith, b)) ∙ sym (front_nil _)))

pub record Led (tokens : List Token) : Type 0 where
  pub free : (opens : List ℕ) (place behind : ℕ) (then : Next) (after : List ℕ) → behind ≡ place + length (flat_map spelling tokens) → Leads place Anything opens tokens then after
      → To (at_mode Free 0 [] opens) place (flat_map spelling tokens) then after behind
  pub word : (start : ℕ) (raw opens : List ℕ) (place behind : ℕ) (then : Next) (after : List ℕ) → is_word raw ≡ true → behind ≡ place + length (flat_map spelling tokens) → Leads place ByWord opens tokens then after
      → To (word_state start raw opens) place (flat_map spelling tokens) then after behind
  pub quote : (start : ℕ) (text opens : List ℕ) (place behind : ℕ) (then : Next) (after : List ℕ) → behind ≡ place + length (flat_map spelling tokens) → Leads place ByQuoted opens tokens then after
      → To (at_mode AtApostrophe start text opens) place (flat_map spelling tokens) then after behind

opens_same : (place : ℕ) (next : Next) (a b : List ℕ) (tokens : List Token) (then : Next) (after : List ℕ) → a ≡ b → Leads place next a tokens then after → Leads place next b tokens then after
opens_same place next a b tokens then after e h = subst (λ (o : List ℕ). Leads place next o tokens then after) e h

-- what one token does where an item or a gap may begin
close_at : (opening : ℕ) (rest opens : List ℕ) (place : ℕ) (marks : List Mark) (b : List ℕ) → opens ≡ opening ∷ rest
    → with_rest (closed place opens marks) (λ s. run s (place + 1) b) ≡ with_front (marks ++ mark place (place + 1) Close ∷ []) (run (at_mode Free 0 [] rest) (place + 1) b)
close_at opening rest opens place marks b e = ap (λ o. with_rest (closed place o marks) (λ s. run s (place + 1) b)) e

open_at : (opens : List ℕ) (place : ℕ) (key : Mark) (b : List ℕ) → length opens < 16
    → with_rest (opened place opens key) (λ s. run s (place + 1) b) ≡ with_front (key ∷ []) (run (at_mode Free 0 [] (place ∷ opens)) (place + 1) b)
open_at opens place key b h = choose (ltb (length opens) 16) _ _ (λ s. run s (place + 1) b) _ true (lt-ltb (length opens) 16 h) refl

-- a blank ends a word or a text
free_blank : (opens : List ℕ) (place b : ℕ) (r : List ℕ) → is_blank b ≡ true → run (at_mode Free 0 [] opens) place (b ∷ r) ≡ with_front [] (run (at_mode Free 0 [] opens) (place + 1) r)
free_blank opens place b r e = choose (is_blank b) _ _ (λ s. run s (place + 1) r) _ true e refl

word_blank : (start : ℕ) (held opens : List ℕ) (place b : ℕ) (r : List ℕ) → is_blank b ≡ true
    → with_rest (at_word start held opens place b) (λ s. run s (place + 1) r) ≡ with_front (mark start place (Word held) ∷ []) (run (at_mode Free 0 [] opens) (place + 1) r)
word_blank start held opens place b r e = choose (is_blank b) _ _ (λ s. run s (place + 1) r) _ true e refl

quote_blank : (start : ℕ) (text opens : List ℕ) (place b : ℕ) (r : List ℕ) → is_blank b ≡ true
    → run (at_mode AtApostrophe start text opens) place (b ∷ r) ≡ with_front (mark start place (Quoted text) ∷ []) (run (at_mode Free 0 [] opens) (place + 1) r)
quote_blank start text opens place b r e =
    choose (eqb b 39) _ _ (λ s. run s (place + 1) r) _ false (blank_byte b e).1 (choose (is_blank b) _ _ (λ s. run s (place + 1) r) _ true e refl)

free_led : (token : Token) (tokens : List Token) (opens : List ℕ) (place behind : ℕ) (then : Next) (after : List ℕ) → Led tokens → behind ≡ place + length (spelling token ++ flat_map spelling tokens)
    → Leads place Anything opens (token ∷ tokens) then after → To (at_mode Free 0 [] opens) place (spelling token ++ flat_map spelling tokens) then after behind
free_led (Blank b) tokens opens place behind then after ih e h =
    to_step (at_mode Free 0 [] opens) place (b ∷ []) (flat_map spelling tokens) then after behind [] (at_mode Free 0 [] opens) (place + 1)
    (λ r. free_blank opens place b r h.0)
    (ih.free opens (place + 1) behind then after (omega (arith, e)) (opens_same (place + 1) Anything h.2.0 opens tokens then after h.2.1 h.2.2))
free_led (Comment text) tokens opens place behind then after ih e h =
    to_step (at_mode Free 0 [] opens) place (spelling (Comment text)) (flat_map spelling tokens) then after behind [] (at_mode Free 0 [] opens) (place + length (spelling (Comment text)))
    (λ r. front_nil _ ∙ comment_all text place opens (place + 1) r h.0 refl ∙ sym (front_nil _))
    (ih.free opens (place + length (spelling (Comment text))) behind then after (omega (arith, e, length-append (spelling (Comment text)) (flat_map spelling tokens))) (opens_same (place + length (spelling (Comment text))) Anything h.2.0 opens tokens then after h.2.1 h.2.2))
free_led (Word raw) tokens opens place behind then after ih e h =
    to_step (at_mode Free 0 [] opens) place raw (flat_map spelling tokens) then after behind [] (word_state place raw opens) (place + length raw)
    (λ r. word_all raw opens place r h.0 ∙ sym (front_nil _))
    (ih.word place raw opens (place + length raw) behind then after h.0 (omega (arith, e, length-append raw (flat_map spelling tokens))) (opens_same (place + length raw) ByWord h.2.0 opens tokens then after h.2.1 h.2.2))
free_led (Quoted text) tokens opens place behind then after ih e h =
    to_step (at_mode Free 0 [] opens) place (quoted text) (flat_map spelling tokens) then after behind [] (at_mode AtApostrophe place text opens) (place + length (quoted text))
    (λ r. front_nil _ ∙ ap (run (at_mode InQuoted place [] opens) (place + 1)) (append_assoc (doubled text) (39 ∷ []) r) ∙ quote_run text place [] opens (place + 1) (39 ∷ r) h.0
    ∙ ap (λ n. with_front [] (run (at_mode AtApostrophe place text opens) n r)) (omega (arith, length_push (doubled text) 39)))
    (ih.quote place text opens (place + length (quoted text)) behind then after (omega (arith, e, length-append (quoted text) (flat_map spelling tokens))) (opens_same (place + length (quoted text)) ByQuoted h.2.0 opens tokens then after h.2.1 h.2.2))
free_led (Key raw) tokens opens place behind then after ih e h =
    let long : place + length raw + 1 ≡ place + length (raw ++ 40 ∷ []) = omega (arith, length_push raw 40) in
    to_step (at_mode Free 0 [] opens) place (raw ++ 40 ∷ []) (flat_map spelling tokens) then after behind (mark place (place + length (upper raw) + 1) (Key (upper raw)) ∷ []) (at_mode Free 0 [] ((place + length raw) ∷ opens)) (place + length (raw ++ 40 ∷ []))
    (λ r. ap (run (at_mode Free 0 [] opens) place) (append_assoc raw (40 ∷ []) r) ∙ word_all raw opens place (40 ∷ r) h.0
    ∙ word_then place raw opens (place + length raw) 40 r _ refl (open_at opens (place + length raw) (mark place (place + length (upper raw) + 1) (Key (upper raw))) r h.2.1.0)
    ∙ ap (λ n. with_front (mark place (place + length (upper raw) + 1) (Key (upper raw)) ∷ []) (run (at_mode Free 0 [] ((place + length raw) ∷ opens)) n r)) long)
    (ih.free ((place + length raw) ∷ opens) (place + length (raw ++ 40 ∷ [])) behind then after (omega (arith, e, length-append (raw ++ 40 ∷ []) (flat_map spelling tokens)))
    (opens_same (place + length (raw ++ 40 ∷ [])) Anything h.2.0 ((place + length raw) ∷ opens) tokens then after h.2.1.1 h.2.2))
free_led Open tokens opens place behind then after ih e h =
    to_step (at_mode Free 0 [] opens) place (40 ∷ []) (flat_map spelling tokens) then after behind (mark place (place + 1) Open ∷ []) (at_mode Free 0 [] (place ∷ opens)) (place + 1)
    (λ r. open_at opens place (mark place (place + 1) Open) r h.2.1.0)
    (ih.free (place ∷ opens) (place + 1) behind then after (omega (arith, e)) (opens_same (place + 1) Anything h.2.0 (place ∷ opens) tokens then after h.2.1.1 h.2.2))
free_led Close tokens opens place behind then after ih e h =
    to_step (at_mode Free 0 [] opens) place (41 ∷ []) (flat_map spelling tokens) then after behind (mark place (place + 1) Close ∷ []) (at_mode Free 0 [] h.2.0) (place + 1)
    (λ r. close_at h.2.1.0 h.2.0 opens place [] r h.2.1.1)
    (ih.free h.2.0 (place + 1) behind then after (omega (arith, e)) h.2.2)

word_led : (token : Token) (tokens : List Token) (start : ℕ) (raw opens : List ℕ) (place behind : ℕ) (then : Next) (after : List ℕ) → Led tokens → is_word raw ≡ true → behind ≡ place + length (spelling token ++ flat_map spelling tokens)
    → Leads place ByWord opens (token ∷ tokens) then after → To (word_state start raw opens) place (spelling token ++ flat_map spelling tokens) then after behind
word_led (Blank b) tokens start raw opens place behind then after ih word e h =
    to_step (word_state start raw opens) place (b ∷ []) (flat_map spelling tokens) then after behind (mark start place (Word (upper raw)) ∷ []) (at_mode Free 0 [] opens) (place + 1)
    (λ r. word_then start raw opens place b r _ (blank_byte b h.0).0 (word_blank start (upper raw) opens place b r h.0))
    (ih.free opens (place + 1) behind then after (omega (arith, e)) (opens_same (place + 1) Anything h.2.0 opens tokens then after h.2.1 h.2.2))
word_led Close tokens start raw opens place behind then after ih word e h =
    to_step (word_state start raw opens) place (41 ∷ []) (flat_map spelling tokens) then after behind (mark start place (Word (upper raw)) ∷ mark place (place + 1) Close ∷ []) (at_mode Free 0 [] h.2.0) (place + 1)
    (λ r. word_then start raw opens place 41 r _ refl (close_at h.2.1.0 h.2.0 opens place (mark start place (Word (upper raw)) ∷ []) r h.2.1.1))
    (ih.free h.2.0 (place + 1) behind then after (omega (arith, e)) h.2.2)
word_led (Comment text) tokens start raw opens place behind then after ih word e h = absurd (false≢true h.1)
word_led (Word other) tokens start raw opens place behind then after ih word e h = absurd (false≢true h.1)
word_led (Quoted text) tokens start raw opens place behind then after ih word e h = absurd (false≢true h.1)
word_led (Key other) tokens start raw opens place behind then after ih word e h = absurd (false≢true h.1)
word_led Open tokens start raw opens place behind then after ih word e h = absurd (false≢true h.1)

quote_led : (token : Token) (tokens : List Token) (start : ℕ) (text opens : List ℕ) (place behind : ℕ) (then : Next) (after : List ℕ) → Led tokens → behind ≡ place + length (spelling token ++ flat_map spelling tokens)
    → Leads place ByQuoted opens (token ∷ tokens) then after → To (at_mode AtApostrophe start text opens) place (spelling token ++ flat_map spelling tokens) then after behind
quote_led (Blank b) tokens start text opens place behind then after ih e h =
    to_step (at_mode AtApostrophe start text opens) place (b ∷ []) (flat_map spelling tokens) then after behind (mark start place (Quoted text) ∷ []) (at_mode Free 0 [] opens) (place + 1)
    (λ r. quote_blank start text opens place b r h.0)
    (ih.free opens (place + 1) behind then after (omega (arith, e)) (opens_same (place + 1) Anything h.2.0 opens tokens then after h.2.1 h.2.2))
quote_led (Comment other) tokens start text opens place behind then after ih e h =
    to_step (at_mode AtApostrophe start text opens) place (spelling (Comment other)) (flat_map spelling tokens) then after behind (mark start place (Quoted text) ∷ []) (at_mode Free 0 [] opens) (place + length (spelling (Comment other)))
    (λ r. ap (with_front (mark start place (Quoted text) ∷ [])) (comment_all other place opens (place + 1) r h.0 refl))
    (ih.free opens (place + length (spelling (Comment other))) behind then after (omega (arith, e, length-append (spelling (Comment other)) (flat_map spelling tokens))) (opens_same (place + length (spelling (Comment other))) Anything h.2.0 opens tokens then after h.2.1 h.2.2))
quote_led Close tokens start text opens place behind then after ih e h =
    to_step (at_mode AtApostrophe start text opens) place (41 ∷ []) (flat_map spelling tokens) then after behind (mark start place (Quoted text) ∷ mark place (place + 1) Close ∷ []) (at_mode Free 0 [] h.2.0) (place + 1)
    (λ r. close_at h.2.1.0 h.2.0 opens place (mark start place (Quoted text) ∷ []) r h.2.1.1)
    (ih.free h.2.0 (place + 1) behind then after (omega (arith, e)) h.2.2)
quote_led (Word other) tokens start text opens place behind then after ih e h = absurd (false≢true h.1)
quote_led (Quoted other) tokens start text opens place behind then after ih e h = absurd (false≢true h.1)
quote_led (Key other) tokens start text opens place behind then after ih e h = absurd (false≢true h.1)
quote_led Open tokens start text opens place behind then after ih e h = absurd (false≢true h.1)

pub led : (tokens : List Token) → Led tokens
led [] =
    record {
      free = λ opens place behind then after e h. to_nil (at_mode Free 0 [] opens) place Anything then opens after behind e h.0 h.1 refl;
      word = λ start raw opens place behind then after word e h. to_nil (word_state start raw opens) place ByWord then opens after behind e h.0 h.1 (start, (raw, word, refl));
      quote = λ start text opens place behind then after e h. to_nil (at_mode AtApostrophe start text opens) place ByQuoted then opens after behind e h.0 h.1 (start, (text, refl));
    }
led (token ∷ tokens) =
    let ih = led tokens in
    record {
      free = λ opens place behind then after e h. free_led token tokens opens place behind then after ih e h;
      word = λ start raw opens place behind then after word e h. word_led token tokens start raw opens place behind then after ih word e h;
      quote = λ start text opens place behind then after e h. quote_led token tokens start text opens place behind then after ih e h;
    }

-- the run over bytes that are whole tokens and a rest
pub run_behind : (bytes : List ℕ) (next : Next) (opens : List ℕ) (place : ℕ) (rest : List ℕ) → Behind bytes next opens place rest
    → (s : State) × Pending next opens s × ((ms : List Mark) × (run begun 0 bytes ≡ with_front ms (run s place rest)))
run_behind bytes next opens place rest h =
    let to = (led h.tokens).free [] 0 place next opens (h.ends ∙ omega arith) h.leads in
    let r = to.2 rest in
    (to.0, to.1, (r.0, ap (run begun 0) h.written ∙ r.1))
