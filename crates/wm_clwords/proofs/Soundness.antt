-- What the reader accepts is spelled so.
use Rattle.std.proofs.Common.{◌≡◌, ◌⊎◌, ℕ, ◌+◌, ◌<◌, ◌++◌, Bool, true, false, cond, List, [], ◌∷◌, length, suc, eqb, ltb, Result, Ok, Err, subst, sym, ◌∙◌, ap, refl, arith, inl, inr}
use Rattle.std.specs.List.{list_all, flat_map}
use Rattle.std.proofs.lemmas.Bool.{and_from, eqb-true, eqb-false, ltb-true}
use Rattle.std.proofs.lemmas.List.{length-append, append_assoc, length-map, length_push}
use Rattle.wm_base.specs.Text.{is_printable}
use Rattle.wm_clwords.specs.declared.mode.Mode.TheVariants.{Free, Slash, InWord, InQuoted, AtApostrophe, AfterSlash, InComment, AtStar}
use Rattle.wm_clwords.specs.declared.fault.ClFault.{ClFault}
use Rattle.wm_clwords.specs.Lines.{is_blank}
use Rattle.wm_clwords.specs.Quote.{doubled, quoted}
use Rattle.wm_clwords.specs.Grammar.{Token, Blank, Comment, Word, Quoted, Key, Open, Close, spelling, is_word_byte, is_word, is_comment_byte, is_unended, is_token, Next, Anything, ByWord, ByQuoted, next_of, may_come, Opens, MayStand, upper_byte, upper, Mark, mark_at, marks_from, Spells}
use Rattle.wm_clwords.specs.Reading.{State, mark, Went, goes, opened, closed, at_free, at_word, at_slash, in_quoted, at_apostrophe, after_slash, in_comment, at_star, all_closed, with_front, with_rest, run, begun}
use Rattle.wm_clwords.proofs.GrammarLemmas.{all_push, upper-push, doubled-push, word_push, word_one, push_long, IsOpenEnd, open_nil, open_push, star_push, unended_front}

abbrev Marks : Type 0
Marks = Result (List Mark) ClFault

-- the tokens of the bytes that follow
pub record Rest (next : Next) (opens place : ℕ) (bytes : List ℕ) (marks : List Mark) : Type 0 where
  pub tokens : List Token
  pub written : bytes ≡ flat_map spelling tokens
  pub stand : MayStand 16 next opens tokens
  pub items : marks ≡ marks_from place tokens

-- nothing follows
rest_nil : (next : Next) (place : ℕ) → Rest next 0 place [] []
rest_nil next place = record { tokens = []; written = refl; stand = refl; items = refl }

-- a token more at the front
rest_cons : (next : Next) (opens after place behind : ℕ) (token : Token) (bytes : List ℕ) (more : List Mark)
    → is_token token ≡ true → may_come next token ≡ true → Opens 16 opens token after → behind ≡ place + length (spelling token)
    → Rest (next_of token) after behind bytes more → Rest next opens place (spelling token ++ bytes) (mark_at place token ++ more)
rest_cons next opens after place behind token bytes more good may depth e r =
    record {
      tokens = token ∷ r.tokens;
      written = ap (λ b. spelling token ++ b) r.written;
      stand = (good, may, (after, depth, r.stand));
      items = ap (λ m. mark_at place token ++ m) (r.items ∙ ap (λ n. marks_from n r.tokens) e);
    }

rest_at : (next : Next) (opens place : ℕ) (b c : List ℕ) (m n : List Mark) → b ≡ c → m ≡ n → Rest next opens place b m → Rest next opens place c n
rest_at next opens place b c m n e f r =
    record { tokens = r.tokens; written = sym e ∙ r.written; stand = r.stand; items = sym f ∙ r.items }

rest_depth : (next : Next) (c d place : ℕ) (bytes : List ℕ) (ms : List Mark) → c ≡ d → Rest next c place bytes ms → Rest next d place bytes ms
rest_depth next c d place bytes ms e r = subst (λ (n : ℕ). Rest next n place bytes ms) e r

-- which way a test went
pick : (c : Bool) (x y : Went) (next : State → Marks) (ms : List Mark) → with_rest (cond c x y) next ≡ Ok ms
    → ((c ≡ true) × (with_rest x next ≡ Ok ms)) ⊎ ((c ≡ false) × (with_rest y next ≡ Ok ms))
pick true x y next ms e = inl (refl, e)
pick false x y next ms e = inr (refl, e)

no_fault : (f : ClFault) (ms : List Mark) → Err f ≡ Ok ms → ⊥
no_fault f ms e = cc

front_ok : (front : List Mark) (r : Marks) (ms : List Mark) → with_front front r ≡ Ok ms → (more : List Mark) × (r ≡ Ok more) × (ms ≡ front ++ more)
front_ok front (Ok more) ms e = (more, refl, cc)
front_ok front (Err f) ms e = absurd (no_fault f ms e)

ended_ok : (opens : List ℕ) (marks ms : List Mark) → all_closed opens marks ≡ Ok ms → (length opens ≡ 0) × (ms ≡ marks)
ended_ok [] marks ms e = (refl, cc)
ended_ok (o ∷ opens) marks ms e = absurd (cc)

-- what the reader accepts from each mode on, with what it has of a token
pub record Sound (bytes : List ℕ) : Type 0 where
  pub free : (start : ℕ) (held opens : List ℕ) (place : ℕ) (ms : List Mark) → run (record { mode = Free; start = start; held = held; opens = opens }) place bytes ≡ Ok ms → Rest Anything (length opens) place bytes ms
  pub word : (start : ℕ) (raw opens : List ℕ) (place : ℕ) (ms : List Mark) → is_word raw ≡ true → (raw ≡ 47 ∷ [] → ⊥) → place ≡ start + length raw
      → run (record { mode = InWord; start = start; held = upper raw; opens = opens }) place bytes ≡ Ok ms → Rest Anything (length opens) start (raw ++ bytes) ms
  pub slash : (start : ℕ) (opens : List ℕ) (place : ℕ) (ms : List Mark) → place ≡ start + 1
      → run (record { mode = Slash; start = start; held = 47 ∷ []; opens = opens }) place bytes ≡ Ok ms → Rest Anything (length opens) start (47 ∷ bytes) ms
  pub quote : (start : ℕ) (text opens : List ℕ) (place : ℕ) (ms : List Mark) → list_all is_printable text ≡ true → place ≡ start + 1 + length (doubled text)
      → run (record { mode = InQuoted; start = start; held = text; opens = opens }) place bytes ≡ Ok ms → Rest Anything (length opens) start (39 ∷ doubled text ++ bytes) ms
  pub apostrophe : (start : ℕ) (text opens : List ℕ) (place : ℕ) (ms : List Mark) → list_all is_printable text ≡ true → place ≡ start + length (quoted text)
      → run (record { mode = AtApostrophe; start = start; held = text; opens = opens }) place bytes ≡ Ok ms → Rest Anything (length opens) start (quoted text ++ bytes) ms
  pub after : (start : ℕ) (held opens : List ℕ) (place : ℕ) (ms : List Mark) → place ≡ start + 1
      → run (record { mode = AfterSlash; start = start; held = held; opens = opens }) place bytes ≡ Ok ms → Rest ByQuoted (length opens) start (47 ∷ bytes) ms
  pub comment : (next : Next) (start : ℕ) (text held opens : List ℕ) (place : ℕ) (ms : List Mark) → ((t : List ℕ) → may_come next (Comment t) ≡ true)
      → list_all is_comment_byte text ≡ true → IsOpenEnd text → place ≡ start + 2 + length text
      → run (record { mode = InComment; start = start; held = held; opens = opens }) place bytes ≡ Ok ms → Rest next (length opens) start (47 ∷ 42 ∷ text ++ bytes) ms
  pub star : (next : Next) (start : ℕ) (text held opens : List ℕ) (place : ℕ) (ms : List Mark) → ((t : List ℕ) → may_come next (Comment t) ≡ true)
      → list_all is_comment_byte text ≡ true → is_unended (text ++ 42 ∷ []) ≡ true → place ≡ start + 2 + length (text ++ 42 ∷ [])
      → run (record { mode = AtStar; start = start; held = held; opens = opens }) place bytes ≡ Ok ms → Rest next (length opens) start (47 ∷ 42 ∷ (text ++ 42 ∷ []) ++ bytes) ms

-- a list begins behind a token that opens it
opened_ok : (place : ℕ) (opens : List ℕ) (key : Mark) (next : State → Marks) (ms : List Mark) → with_rest (opened place opens key) next ≡ Ok ms
    → (length opens < 16) × ((more : List Mark) × (next (record { mode = Free; start = 0; held = []; opens = place ∷ opens }) ≡ Ok more) × (ms ≡ key ∷ more))
opened_ok place opens key next ms e =
    elim (pick (ltb (length opens) 16) (goes Free 0 [] (place ∷ opens) (key ∷ [])) _ next ms e) [
      | inl w ↦ (ltb-true (length opens) 16 w.0, front_ok (key ∷ []) _ ms w.1)
      | inr w ↦ absurd (no_fault _ ms w.1)
    ]

-- a list ends
closed_ok : (place : ℕ) (opens : List ℕ) (marks : List Mark) (next : State → Marks) (ms : List Mark) → with_rest (closed place opens marks) next ≡ Ok ms
    → (rest : List ℕ) × (length opens ≡ length rest + 1) × ((more : List Mark) × (next (record { mode = Free; start = 0; held = []; opens = rest }) ≡ Ok more) × (ms ≡ (marks ++ mark place (place + 1) Close ∷ []) ++ more))
closed_ok place [] marks next ms e = absurd (no_fault _ ms e)
closed_ok place (o ∷ rest) marks next ms e = (rest, omega arith, front_ok (marks ++ mark place (place + 1) Close ∷ []) _ ms e)

-- a blank, or a parenthesis that closes, behind a token or a gap
blank_rest : (next : Next) (opens place b : ℕ) (bytes : List ℕ) (ms : List Mark) → may_come next (Blank b) ≡ true → is_blank b ≡ true
    → Rest Anything opens (place + 1) bytes ms → Rest next opens place (b ∷ bytes) ms
blank_rest next opens place b bytes ms may blank r = rest_cons next opens opens place (place + 1) (Blank b) bytes ms blank may refl refl r

close_rest : (next : Next) (opens after place b : ℕ) (bytes : List ℕ) (ms : List Mark) → may_come next Close ≡ true → eqb b 41 ≡ true → opens ≡ after + 1
    → Rest Anything after (place + 1) bytes ms → Rest next opens place (b ∷ bytes) (mark place (place + 1) Close ∷ ms)
close_rest next opens after place b bytes ms may e depth r =
    rest_at next opens place (41 ∷ bytes) (b ∷ bytes) _ _ (ap (λ n. n ∷ bytes) (sym (eqb-true b 41 e))) refl
    (rest_cons next opens after place (place + 1) Close bytes ms refl may depth refl r)

-- a word ends before the bytes
word_rest : (start opens place : ℕ) (raw bytes : List ℕ) (ms : List Mark) → is_word raw ≡ true → place ≡ start + length raw
    → Rest ByWord opens place bytes ms → Rest Anything opens start (raw ++ bytes) (mark start place (Word (upper raw)) ∷ ms)
word_rest start opens place raw bytes ms word e r =
    rest_at Anything opens start (raw ++ bytes) (raw ++ bytes) _ _ refl (ap (λ n. mark start n (Word (upper raw)) ∷ ms) (sym e))
    (rest_cons Anything opens opens start place (Word raw) bytes ms word refl refl e r)

-- a quoted text ends before the bytes
quote_rest : (start opens place : ℕ) (text bytes : List ℕ) (ms : List Mark) → list_all is_printable text ≡ true → place ≡ start + length (quoted text)
    → Rest ByQuoted opens place bytes ms → Rest Anything opens start (quoted text ++ bytes) (mark start place (Quoted text) ∷ ms)
quote_rest start opens place text bytes ms good e r =
    rest_at Anything opens start (quoted text ++ bytes) (quoted text ++ bytes) _ _ refl (ap (λ n. mark start n (Quoted text) ∷ ms) (sym e))
    (rest_cons Anything opens opens start place (Quoted text) bytes ms good refl refl e r)

-- a byte behind a word
word_step : (start : ℕ) (raw opens : List ℕ) (place b : ℕ) (bytes : List ℕ) (ms : List Mark) → Sound bytes → is_word raw ≡ true → (raw ≡ 47 ∷ [] → b ≡ 42 → ⊥) → place ≡ start + length raw
    → with_rest (at_word start (upper raw) opens place b) (λ next. run next (place + 1) bytes) ≡ Ok ms → Rest Anything (length opens) start (raw ++ b ∷ bytes) ms
word_step start raw opens place b bytes ms ih word wrong at e =
    let next : State → Marks = λ s. run s (place + 1) bytes in
    elim (pick (is_blank b) _ _ next ms e) [
      | inl w ↦
          let f = front_ok (mark start place (Word (upper raw)) ∷ []) _ ms w.1 in
          rest_at Anything (length opens) start (raw ++ b ∷ bytes) (raw ++ b ∷ bytes) _ _ refl (sym f.2)
          (word_rest start (length opens) place raw (b ∷ bytes) f.0 word at (blank_rest ByWord (length opens) place b bytes f.0 refl w.0 (ih.free 0 [] opens (place + 1) f.0 f.1)))
      | inr w ↦ elim (pick (eqb b 40) _ _ next ms w.1) [
        | inl v ↦
            let o = opened_ok place opens (mark start (start + length (upper raw) + 1) (Key (upper raw))) next ms v.1 in
            let f = o.1 in
            let long : place + 1 ≡ start + length (raw ++ 40 ∷ []) = omega (arith, at, length_push raw 40) in
            rest_at Anything (length opens) start ((raw ++ 40 ∷ []) ++ bytes) (raw ++ b ∷ bytes) _ _
            (append_assoc raw (40 ∷ []) bytes ∙ ap (λ n. raw ++ n ∷ bytes) (sym (eqb-true b 40 v.0)))
            (ap (λ n. mark start n (Key (upper raw)) ∷ f.0) (omega (arith, length-map raw upper_byte)) ∙ sym f.2)
            (rest_cons Anything (length opens) (length opens + 1) start (place + 1) (Key raw) bytes f.0 word refl (o.0, refl) long
            (rest_depth Anything (suc (length opens)) (length opens + 1) (place + 1) bytes f.0 (omega arith) (ih.free 0 [] (place ∷ opens) (place + 1) f.0 f.1)))
        | inr v ↦ elim (pick (eqb b 41) _ _ next ms v.1) [
          | inl u ↦
              let o = closed_ok place opens (mark start place (Word (upper raw)) ∷ []) next ms u.1 in
              let f = o.2 in
              rest_at Anything (length opens) start (raw ++ b ∷ bytes) (raw ++ b ∷ bytes) _ _ refl (sym f.2)
              (word_rest start (length opens) place raw (b ∷ bytes) (mark place (place + 1) Close ∷ f.0) word at
              (close_rest ByWord (length opens) (length o.0) place b bytes f.0 refl u.0 o.1 (ih.free 0 [] o.0 (place + 1) f.0 f.1)))
          | inr u ↦ elim (pick (is_word_byte b) _ _ next ms u.1) [
            | inl t ↦
                let f = front_ok [] _ ms t.1 in
                let held : State = record { mode = InWord; start = start; held = upper raw ++ upper_byte b ∷ []; opens = opens } in
                rest_at Anything (length opens) start ((raw ++ b ∷ []) ++ bytes) (raw ++ b ∷ bytes) f.0 ms (append_assoc raw (b ∷ []) bytes) (sym f.2)
                (ih.word start (raw ++ b ∷ []) opens (place + 1) f.0 (word_push raw b word t.0 wrong) (push_long raw b word) (omega (arith, at, length_push raw b))
                (ap (λ h. run (record { mode = InWord; start = start; held = h; opens = opens }) (place + 1) bytes) (upper-push raw b) ∙ f.1))
            | inr t ↦ absurd (no_fault _ ms t.1)
          ]
        ]
      ]
    ]

-- a byte where an item or a gap may begin
free_step : (opens : List ℕ) (place b : ℕ) (bytes : List ℕ) (ms : List Mark) → Sound bytes
    → with_rest (at_free opens place b) (λ next. run next (place + 1) bytes) ≡ Ok ms → Rest Anything (length opens) place (b ∷ bytes) ms
free_step opens place b bytes ms ih e =
    let next : State → Marks = λ s. run s (place + 1) bytes in
    elim (pick (is_blank b) _ _ next ms e) [
      | inl w ↦
          let f = front_ok [] _ ms w.1 in
          rest_at Anything (length opens) place (b ∷ bytes) (b ∷ bytes) f.0 ms refl (sym f.2)
          (blank_rest Anything (length opens) place b bytes f.0 refl w.0 (ih.free 0 [] opens (place + 1) f.0 f.1))
      | inr w ↦ elim (pick (eqb b 39) _ _ next ms w.1) [
        | inl v ↦
            let f = front_ok [] _ ms v.1 in
            rest_at Anything (length opens) place (39 ∷ bytes) (b ∷ bytes) f.0 ms (ap (λ n. n ∷ bytes) (sym (eqb-true b 39 v.0))) (sym f.2)
            (ih.quote place [] opens (place + 1) f.0 refl (omega arith) f.1)
        | inr v ↦ elim (pick (eqb b 40) _ _ next ms v.1) [
          | inl u ↦
              let o = opened_ok place opens (mark place (place + 1) Open) next ms u.1 in
              let f = o.1 in
              rest_at Anything (length opens) place (40 ∷ bytes) (b ∷ bytes) _ ms (ap (λ n. n ∷ bytes) (sym (eqb-true b 40 u.0))) (sym f.2)
              (rest_cons Anything (length opens) (length opens + 1) place (place + 1) Open bytes f.0 refl refl (o.0, refl) refl
              (rest_depth Anything (suc (length opens)) (length opens + 1) (place + 1) bytes f.0 (omega arith) (ih.free 0 [] (place ∷ opens) (place + 1) f.0 f.1)))
          | inr u ↦ elim (pick (eqb b 41) _ _ next ms u.1) [
            | inl t ↦
                let o = closed_ok place opens [] next ms t.1 in
                let f = o.2 in
                rest_at Anything (length opens) place (b ∷ bytes) (b ∷ bytes) _ ms refl (sym f.2)
                (close_rest Anything (length opens) (length o.0) place b bytes f.0 refl t.0 o.1 (ih.free 0 [] o.0 (place + 1) f.0 f.1))
            | inr t ↦ elim (pick (eqb b 47) _ _ next ms t.1) [
              | inl s ↦
                  let f = front_ok [] _ ms s.1 in
                  rest_at Anything (length opens) place (47 ∷ bytes) (b ∷ bytes) f.0 ms (ap (λ n. n ∷ bytes) (sym (eqb-true b 47 s.0))) (sym f.2)
                  (ih.slash place opens (place + 1) f.0 refl f.1)
              | inr s ↦ elim (pick (is_word_byte b) _ _ next ms s.1) [
                | inl r ↦
                    let f = front_ok [] _ ms r.1 in
                    rest_at Anything (length opens) place (b ∷ bytes) (b ∷ bytes) f.0 ms refl (sym f.2)
                    (ih.word place (b ∷ []) opens (place + 1) f.0 (word_one b r.0) (λ (q : b ∷ [] ≡ 47 ∷ []). eqb-false b 47 s.0 cc) refl f.1)
                | inr r ↦ absurd (no_fault _ ms r.1)
              ]
            ]
          ]
        ]
      ]
    ]

-- a byte in a text
quote_step : (start : ℕ) (text opens : List ℕ) (place b : ℕ) (bytes : List ℕ) (ms : List Mark) → Sound bytes → list_all is_printable text ≡ true → place ≡ start + 1 + length (doubled text)
    → with_rest (in_quoted start text opens place b) (λ next. run next (place + 1) bytes) ≡ Ok ms → Rest Anything (length opens) start (39 ∷ doubled text ++ b ∷ bytes) ms
quote_step start text opens place b bytes ms ih good at e =
    let next : State → Marks = λ s. run s (place + 1) bytes in
    elim (pick (eqb b 39) _ _ next ms e) [
      | inl w ↦
          let f = front_ok [] _ ms w.1 in
          rest_at Anything (length opens) start (quoted text ++ bytes) (39 ∷ doubled text ++ b ∷ bytes) f.0 ms
          (ap (λ t. 39 ∷ t) (append_assoc (doubled text) (39 ∷ []) bytes) ∙ ap (λ n. 39 ∷ doubled text ++ n ∷ bytes) (sym (eqb-true b 39 w.0))) (sym f.2)
          (ih.apostrophe start text opens (place + 1) f.0 good (omega (arith, at, length_push (doubled text) 39)) f.1)
      | inr w ↦ elim (pick (is_printable b) _ _ next ms w.1) [
        | inl v ↦
            let f = front_ok [] _ ms v.1 in
            let plain : doubled (text ++ b ∷ []) ≡ doubled text ++ b ∷ [] = doubled-push text b ∙ ap (λ c. doubled text ++ cond c (39 ∷ 39 ∷ []) (b ∷ [])) w.0 in
            rest_at Anything (length opens) start (39 ∷ doubled (text ++ b ∷ []) ++ bytes) (39 ∷ doubled text ++ b ∷ bytes) f.0 ms
            (ap (λ t. 39 ∷ t ++ bytes) plain ∙ ap (λ t. 39 ∷ t) (append_assoc (doubled text) (b ∷ []) bytes)) (sym f.2)
            (ih.quote start (text ++ b ∷ []) opens (place + 1) f.0 (all_push is_printable text b good v.0) (omega (arith, at, ap length plain, length_push (doubled text) b)) f.1)
        | inr v ↦ absurd (no_fault _ ms v.1)
      ]
    ]

-- a byte behind an apostrophe in a text
apostrophe_step : (start : ℕ) (text opens : List ℕ) (place b : ℕ) (bytes : List ℕ) (ms : List Mark) → Sound bytes → list_all is_printable text ≡ true → place ≡ start + length (quoted text)
    → with_rest (at_apostrophe start text opens place b) (λ next. run next (place + 1) bytes) ≡ Ok ms → Rest Anything (length opens) start (quoted text ++ b ∷ bytes) ms
apostrophe_step start text opens place b bytes ms ih good at e =
    let next : State → Marks = λ s. run s (place + 1) bytes in
    elim (pick (eqb b 39) _ _ next ms e) [
      | inl w ↦
          let f = front_ok [] _ ms w.1 in
          let twice : doubled (text ++ 39 ∷ []) ≡ doubled text ++ 39 ∷ 39 ∷ [] = doubled-push text 39 in
          rest_at Anything (length opens) start (39 ∷ doubled (text ++ 39 ∷ []) ++ bytes) (quoted text ++ b ∷ bytes) f.0 ms
          (ap (λ t. 39 ∷ t ++ bytes) twice ∙ ap (λ t. 39 ∷ t) (append_assoc (doubled text) (39 ∷ 39 ∷ []) bytes ∙ sym (append_assoc (doubled text) (39 ∷ []) (39 ∷ bytes)))
          ∙ ap (λ n. quoted text ++ n ∷ bytes) (sym (eqb-true b 39 w.0))) (sym f.2)
          (ih.quote start (text ++ 39 ∷ []) opens (place + 1) f.0 (all_push is_printable text 39 good refl)
          (omega (arith, at, ap length twice, length_push (doubled text) 39, length-append (doubled text) (39 ∷ 39 ∷ []))) f.1)
      | inr w ↦ elim (pick (is_blank b) _ _ next ms w.1) [
        | inl v ↦
            let f = front_ok (mark start place (Quoted text) ∷ []) _ ms v.1 in
            rest_at Anything (length opens) start (quoted text ++ b ∷ bytes) (quoted text ++ b ∷ bytes) _ ms refl (sym f.2)
            (quote_rest start (length opens) place text (b ∷ bytes) f.0 good at (blank_rest ByQuoted (length opens) place b bytes f.0 refl v.0 (ih.free 0 [] opens (place + 1) f.0 f.1)))
        | inr v ↦ elim (pick (eqb b 41) _ _ next ms v.1) [
          | inl u ↦
              let o = closed_ok place opens (mark start place (Quoted text) ∷ []) next ms u.1 in
              let f = o.2 in
              rest_at Anything (length opens) start (quoted text ++ b ∷ bytes) (quoted text ++ b ∷ bytes) _ ms refl (sym f.2)
              (quote_rest start (length opens) place text (b ∷ bytes) (mark place (place + 1) Close ∷ f.0) good at
              (close_rest ByQuoted (length opens) (length o.0) place b bytes f.0 refl u.0 o.1 (ih.free 0 [] o.0 (place + 1) f.0 f.1)))
          | inr u ↦ elim (pick (eqb b 47) _ _ next ms u.1) [
            | inl t ↦
                let f = front_ok (mark start place (Quoted text) ∷ []) _ ms t.1 in
                rest_at Anything (length opens) start (quoted text ++ 47 ∷ bytes) (quoted text ++ b ∷ bytes) _ ms (ap (λ n. quoted text ++ n ∷ bytes) (sym (eqb-true b 47 t.0))) (sym f.2)
                (quote_rest start (length opens) place text (47 ∷ bytes) f.0 good at (ih.after place [] opens (place + 1) f.0 refl f.1))
            | inr t ↦ absurd (no_fault _ ms t.1)
          ]
        ]
      ]
    ]

-- a byte in a comment
comment_step : (next_token : Next) (start : ℕ) (text opens : List ℕ) (place b : ℕ) (bytes : List ℕ) (ms : List Mark) → Sound bytes → ((t : List ℕ) → may_come next_token (Comment t) ≡ true)
    → list_all is_comment_byte text ≡ true → is_unended (text ++ 42 ∷ []) ≡ true → (eqb b 42 ≡ false → is_unended (text ++ b ∷ []) ≡ true) → place ≡ start + 2 + length text
    → with_rest (in_comment start opens place b) (λ next. run next (place + 1) bytes) ≡ Ok ms → Rest next_token (length opens) start (47 ∷ 42 ∷ text ++ b ∷ bytes) ms
comment_step next_token start text opens place b bytes ms ih may good star other at e =
    let next : State → Marks = λ s. run s (place + 1) bytes in
    elim (pick (eqb b 42) _ _ next ms e) [
      | inl w ↦
          let f = front_ok [] _ ms w.1 in
          rest_at next_token (length opens) start (47 ∷ 42 ∷ (text ++ 42 ∷ []) ++ bytes) (47 ∷ 42 ∷ text ++ b ∷ bytes) f.0 ms
          (ap (λ t. 47 ∷ 42 ∷ t) (append_assoc text (42 ∷ []) bytes) ∙ ap (λ n. 47 ∷ 42 ∷ text ++ n ∷ bytes) (sym (eqb-true b 42 w.0))) (sym f.2)
          (ih.star next_token start text [] opens (place + 1) f.0 may good star (omega (arith, at, length_push text 42)) f.1)
      | inr w ↦ elim (pick (is_comment_byte b) _ _ next ms w.1) [
        | inl v ↦
            let f = front_ok [] _ ms v.1 in
            rest_at next_token (length opens) start (47 ∷ 42 ∷ (text ++ b ∷ []) ++ bytes) (47 ∷ 42 ∷ text ++ b ∷ bytes) f.0 ms
            (ap (λ t. 47 ∷ 42 ∷ t) (append_assoc text (b ∷ []) bytes)) (sym f.2)
            (ih.comment next_token start (text ++ b ∷ []) [] opens (place + 1) f.0 may (all_push is_comment_byte text b good v.0) (open_push text b (other w.0) w.0) (omega (arith, at, length_push text b)) f.1)
        | inr v ↦ absurd (no_fault _ ms v.1)
      ]
    ]

-- a byte behind a `*` in a comment
star_step : (next_token : Next) (start : ℕ) (text opens : List ℕ) (place b : ℕ) (bytes : List ℕ) (ms : List Mark) → Sound bytes → ((t : List ℕ) → may_come next_token (Comment t) ≡ true)
    → list_all is_comment_byte text ≡ true → is_unended (text ++ 42 ∷ []) ≡ true → place ≡ start + 2 + length (text ++ 42 ∷ [])
    → with_rest (at_star start opens place b) (λ next. run next (place + 1) bytes) ≡ Ok ms → Rest next_token (length opens) start (47 ∷ 42 ∷ (text ++ 42 ∷ []) ++ b ∷ bytes) ms
star_step next_token start text opens place b bytes ms ih may good star at e =
    let next : State → Marks = λ s. run s (place + 1) bytes in
    elim (pick (eqb b 47) _ _ next ms e) [
      | inl w ↦
          let f = front_ok [] _ ms w.1 in
          let long : place + 1 ≡ start + length (spelling (Comment text)) = omega (arith, at, length_push text 42, length-append text (42 ∷ 47 ∷ [])) in
          rest_at next_token (length opens) start (spelling (Comment text) ++ bytes) (47 ∷ 42 ∷ (text ++ 42 ∷ []) ++ b ∷ bytes) f.0 ms
          (ap (λ t. 47 ∷ 42 ∷ t) (append_assoc text (42 ∷ 47 ∷ []) bytes ∙ sym (append_assoc text (42 ∷ []) (47 ∷ bytes))) ∙ ap (λ n. 47 ∷ 42 ∷ (text ++ 42 ∷ []) ++ n ∷ bytes) (sym (eqb-true b 47 w.0))) (sym f.2)
          (rest_cons next_token (length opens) (length opens) start (place + 1) (Comment text) bytes f.0 (and_from (list_all is_comment_byte text) (is_unended text) good (unended_front text 42 star)) (may text) refl long
          (ih.free 0 [] opens (place + 1) f.0 f.1))
      | inr w ↦
          comment_step next_token start (text ++ 42 ∷ []) opens place b bytes ms ih may (all_push is_comment_byte text 42 good refl)
          (star_push text 42 42 star refl) (λ _. star_push text 42 b star w.0) at w.1
    ]

slash_step : (start : ℕ) (opens : List ℕ) (place b : ℕ) (bytes : List ℕ) (ms : List Mark) → Sound bytes → place ≡ start + 1
    → with_rest (at_slash start (47 ∷ []) opens place b) (λ next. run next (place + 1) bytes) ≡ Ok ms → Rest Anything (length opens) start (47 ∷ b ∷ bytes) ms
slash_step start opens place b bytes ms ih at e =
    let next : State → Marks = λ s. run s (place + 1) bytes in
    elim (pick (eqb b 42) _ _ next ms e) [
      | inl w ↦
          let f = front_ok [] _ ms w.1 in
          rest_at Anything (length opens) start (47 ∷ 42 ∷ bytes) (47 ∷ b ∷ bytes) f.0 ms (ap (λ n. 47 ∷ n ∷ bytes) (sym (eqb-true b 42 w.0))) (sym f.2)
          (ih.comment Anything start [] [] opens (place + 1) f.0 (λ _. refl) refl open_nil (omega (arith, at)) f.1)
      | inr w ↦ word_step start (47 ∷ []) opens place b bytes ms ih refl (λ _ s. eqb-false b 42 w.0 s) at w.1
    ]

after_step : (start : ℕ) (opens : List ℕ) (place b : ℕ) (bytes : List ℕ) (ms : List Mark) → Sound bytes → place ≡ start + 1
    → with_rest (after_slash start opens b) (λ next. run next (place + 1) bytes) ≡ Ok ms → Rest ByQuoted (length opens) start (47 ∷ b ∷ bytes) ms
after_step start opens place b bytes ms ih at e =
    let next : State → Marks = λ s. run s (place + 1) bytes in
    elim (pick (eqb b 42) _ _ next ms e) [
      | inl w ↦
          let f = front_ok [] _ ms w.1 in
          rest_at ByQuoted (length opens) start (47 ∷ 42 ∷ bytes) (47 ∷ b ∷ bytes) f.0 ms (ap (λ n. 47 ∷ n ∷ bytes) (sym (eqb-true b 42 w.0))) (sym f.2)
          (ih.comment ByQuoted start [] [] opens (place + 1) f.0 (λ _. refl) refl open_nil (omega (arith, at)) f.1)
      | inr w ↦ absurd (no_fault _ ms w.1)
    ]

-- nothing more comes
end_rest : (next : Next) (opens : List ℕ) (place : ℕ) (marks ms : List Mark) → all_closed opens marks ≡ Ok ms → Rest next (length opens) place [] []
end_rest next opens place marks ms e = rest_depth next 0 (length opens) place [] [] (sym (ended_ok opens marks ms e).0) (rest_nil next place)

pub sound_nil : Sound []
sound_nil =
    record {
      free = λ start held opens place ms e.
          rest_at Anything (length opens) place [] [] [] ms refl (sym (ended_ok opens [] ms e).1) (end_rest Anything opens place [] ms e);
      word = λ start raw opens place ms word slash at e.
          rest_at Anything (length opens) start (raw ++ []) (raw ++ []) _ ms refl (sym (ended_ok opens _ ms e).1)
          (word_rest start (length opens) place raw [] [] word at (end_rest ByWord opens place _ ms e));
      slash = λ start opens place ms at e.
          rest_at Anything (length opens) start (47 ∷ []) (47 ∷ []) _ ms refl (sym (ended_ok opens _ ms e).1)
          (word_rest start (length opens) place (47 ∷ []) [] [] refl at (end_rest ByWord opens place _ ms e));
      quote = λ start text opens place ms good at e. absurd (no_fault _ ms e);
      apostrophe = λ start text opens place ms good at e.
          rest_at Anything (length opens) start (quoted text ++ []) (quoted text ++ []) _ ms refl (sym (ended_ok opens _ ms e).1)
          (quote_rest start (length opens) place text [] [] good at (end_rest ByQuoted opens place _ ms e));
      after = λ start held opens place ms at e. absurd (no_fault _ ms e);
      comment = λ next start text held opens place ms may good open_end at e. absurd (no_fault _ ms e);
      star = λ next start text held opens place ms may good open_end at e. absurd (no_fault _ ms e);
    }

pub sound : (bytes : List ℕ) → Sound bytes
sound [] = sound_nil
sound (b ∷ bytes) =
    let ih = sound bytes in
    record {
      free = λ start held opens place ms e. free_step opens place b bytes ms ih e;
      word = λ start raw opens place ms word slash at e. word_step start raw opens place b bytes ms ih word (λ q _. slash q) at e;
      slash = λ start opens place ms at e. slash_step start opens place b bytes ms ih at e;
      quote = λ start text opens place ms good at e. quote_step start text opens place b bytes ms ih good at e;
      apostrophe = λ start text opens place ms good at e. apostrophe_step start text opens place b bytes ms ih good at e;
      after = λ start held opens place ms at e. after_step start opens place b bytes ms ih at e;
      comment = λ next start text held opens place ms may good open_end at e.
          comment_step next start text opens place b bytes ms ih may good (open_end 42) (λ _. open_end b) at e;
      star = λ next start text held opens place ms may good open_end at e. star_step next start text opens place b bytes ms ih may good open_end at e;
    }

-- what the reader accepts is spelled so
pub Spells-run : (bytes : List ℕ) (ms : List Mark) → run begun 0 bytes ≡ Ok ms → Spells 16 bytes ms
Spells-run bytes ms e =
    let r = (sound bytes).free 0 [] [] 0 ms e in
    record { tokens = r.tokens; written = r.written; stand = r.stand; items = r.items }
