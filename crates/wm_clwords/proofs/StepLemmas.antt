-- One step of the reader.
use Rattle.std.proofs.Common.{◌≡◌, ℕ, ◌+◌, ◌≤◌, ◌++◌, true, List, [], ◌∷◌, length, eqb, leb, ltb, Result, Ok, Err, IfOk, subst, ◌∙◌, ap, refl, arith}
use Rattle.std.proofs.lemmas.Bool.{and_parts, and_from, cond_both, le-leb, leb-true}
use Rattle.wm_base.specs.Text.{is_printable}
use Rattle.wm_clwords.specs.declared.mode.Mode.{Mode}
use Rattle.wm_clwords.specs.declared.mode.Mode.TheVariants.{Free, Slash, InWord, InQuoted, AtApostrophe, AfterSlash, InComment, AtStar}
use Rattle.wm_clwords.specs.declared.fault.ClFault.{ClFault}
use Rattle.wm_clwords.specs.Lines.{is_blank}
use Rattle.wm_clwords.specs.Grammar.{Word, Quoted, Key, Open, Mark, is_word_byte, is_comment_byte, upper_byte}
use Rattle.wm_clwords.specs.Reading.{State, mark, Went, goes, opened, closed, at_word, in_comment, step, step_by, with_front, with_rest, run}
use Rattle.wm_clwords.specs.Reader.{with_marks, is_behind}
use Rattle.wm_clwords.proofs.Runs.{front_front}

-- what began, began before the place
pub record IsAt (place : ℕ) (state : State) : Type 0 where
  pub start : state.start ≤ place
  pub behind : is_behind place state.opens ≡ true

-- the place moves on
pub is_behind-suc : (place : ℕ) (opens : List ℕ) → is_behind place opens ≡ true → is_behind (place + 1) opens ≡ true
is_behind-suc place [] h = refl
is_behind-suc place (o ∷ opens) h =
    let w = and_parts (leb o place) (is_behind place opens) h in
    and_from (leb o (place + 1)) (is_behind (place + 1) opens) (le-leb o (place + 1) (omega (arith, leb-true o place w.0))) (is_behind-suc place opens w.1)

abbrev At : ℕ → Went → Type 0
At place went = IfOk went (λ w. IsAt (place + 1) w.0)

goes_at : (place : ℕ) (mode : Mode) (start : ℕ) (held opens : List ℕ) → start ≤ place → is_behind place opens ≡ true → IsAt (place + 1) (record { mode = mode; start = start; held = held; opens = opens })
goes_at place mode start held opens h b = record { start = omega arith; behind = is_behind-suc place opens b }

opened_at : (place : ℕ) (opens : List ℕ) (key : Mark) → is_behind place opens ≡ true → At place (opened place opens key)
opened_at place opens key b =
    cond_both (ltb (length opens) 16) (goes Free 0 [] (place ∷ opens) (key ∷ [])) _ (At place)
    (λ _. record { start = omega arith; behind = and_from (leb place (place + 1)) (is_behind (place + 1) opens) (le-leb place (place + 1) (omega arith)) (is_behind-suc place opens b) })
    (λ _. tt)

closed_at : (place : ℕ) (opens : List ℕ) (marks : List Mark) → is_behind place opens ≡ true → At place (closed place opens marks)
closed_at place [] marks b = tt
closed_at place (o ∷ opens) marks b =
    goes_at place Free 0 [] opens (omega arith) (and_parts (leb o place) (is_behind place opens) b).1

word_at : (start : ℕ) (held opens : List ℕ) (place b : ℕ) → start ≤ place → is_behind place opens ≡ true → At place (at_word start held opens place b)
word_at start held opens place b h w =
    cond_both (is_blank b) _ _ (At place) (λ _. goes_at place Free 0 [] opens (omega arith) w) (λ _.
    cond_both (eqb b 40) _ _ (At place) (λ _. opened_at place opens (mark start (start + length held + 1) (Key held)) w) (λ _.
    cond_both (eqb b 41) _ _ (At place) (λ _. closed_at place opens (mark start place (Word held) ∷ []) w) (λ _.
    cond_both (is_word_byte b) _ _ (At place) (λ _. goes_at place InWord start (held ++ upper_byte b ∷ []) opens h w) (λ _. tt))))

comment_at : (start : ℕ) (opens : List ℕ) (place b : ℕ) → start ≤ place → is_behind place opens ≡ true → At place (in_comment start opens place b)
comment_at start opens place b h w =
    cond_both (eqb b 42) _ _ (At place) (λ _. goes_at place AtStar start [] opens h w) (λ _.
    cond_both (is_comment_byte b) _ _ (At place) (λ _. goes_at place InComment start [] opens h w) (λ _. tt))

step_at : (mode : Mode) (start : ℕ) (held opens : List ℕ) (place b : ℕ) → start ≤ place → is_behind place opens ≡ true → At place (step_by mode start held opens place b)
step_at Free start held opens place b h w =
    cond_both (is_blank b) _ _ (At place) (λ _. goes_at place Free 0 [] opens (omega arith) w) (λ _.
    cond_both (eqb b 39) _ _ (At place) (λ _. goes_at place InQuoted place [] opens (omega arith) w) (λ _.
    cond_both (eqb b 40) _ _ (At place) (λ _. opened_at place opens (mark place (place + 1) Open) w) (λ _.
    cond_both (eqb b 41) _ _ (At place) (λ _. closed_at place opens [] w) (λ _.
    cond_both (eqb b 47) _ _ (At place) (λ _. goes_at place Slash place (47 ∷ []) opens (omega arith) w) (λ _.
    cond_both (is_word_byte b) _ _ (At place) (λ _. goes_at place InWord place (upper_byte b ∷ []) opens (omega arith) w) (λ _. tt))))))
step_at Slash start held opens place b h w =
    cond_both (eqb b 42) _ _ (At place) (λ _. goes_at place InComment start [] opens h w) (λ _. word_at start held opens place b h w)
step_at InWord start held opens place b h w = word_at start held opens place b h w
step_at InQuoted start held opens place b h w =
    cond_both (eqb b 39) _ _ (At place) (λ _. goes_at place AtApostrophe start held opens h w) (λ _.
    cond_both (is_printable b) _ _ (At place) (λ _. goes_at place InQuoted start (held ++ b ∷ []) opens h w) (λ _. tt))
step_at AtApostrophe start held opens place b h w =
    cond_both (eqb b 39) _ _ (At place) (λ _. goes_at place InQuoted start (held ++ 39 ∷ []) opens h w) (λ _.
    cond_both (is_blank b) _ _ (At place) (λ _. goes_at place Free 0 [] opens (omega arith) w) (λ _.
    cond_both (eqb b 41) _ _ (At place) (λ _. closed_at place opens (mark start place (Quoted held) ∷ []) w) (λ _.
    cond_both (eqb b 47) _ _ (At place) (λ _. goes_at place AfterSlash place [] opens (omega arith) w) (λ _. tt))))
step_at AfterSlash start held opens place b h w =
    cond_both (eqb b 42) _ _ (At place) (λ _. goes_at place InComment start [] opens h w) (λ _. tt)
step_at InComment start held opens place b h w = comment_at start opens place b h w
step_at AtStar start held opens place b h w =
    cond_both (eqb b 47) _ _ (At place) (λ _. goes_at place Free 0 [] opens (omega arith) w) (λ _. comment_at start opens place b h w)

no_fault : {A E : Type 0} (f : E) (x : A) → ◌≡◌ {A = Result A E} (Err f) (Ok x) → ⊥
no_fault f x e = cc

same_value : {A E : Type 0} (x y : A) → ◌≡◌ {A = Result A E} (Ok x) (Ok y) → x ≡ y
same_value x y e = cc

at_ok : (place : ℕ) (went : Went) (front : List Mark) (state : State) (marks : List Mark) → At place went → with_marks front went ≡ Ok (state, marks) → IsAt (place + 1) state
at_ok place (Ok w) front state marks h e =
    subst (λ (s : State). IsAt (place + 1) s) (ap (λ (p : State × List Mark). p.0) (same_value (w.0, front ++ w.1) (state, marks) e)) h
at_ok place (Err f) front state marks h e = absurd (no_fault f (state, marks) e)

-- a step leaves what began before the place
pub IsAt-step : (state : State) (place b : ℕ) (front : List Mark) (next : State) (marks : List Mark) → IsAt place state → with_marks front (step state place b) ≡ Ok (next, marks) → IsAt (place + 1) next
IsAt-step state place b front next marks h e =
    at_ok place (step state place b) front next marks (step_at state.mode state.start state.held state.opens place b h.start h.behind) e

-- a step of a run
abbrev Marks : Type 0
Marks = Result (List Mark) ClFault

run_ok : (went : Went) (place : ℕ) (bytes : List ℕ) (front : List Mark) (next : State) (marks : List Mark) → with_marks front went ≡ Ok (next, marks)
    → with_front front (with_rest went (λ s. run s (place + 1) bytes)) ≡ with_front marks (run next (place + 1) bytes)
run_ok (Ok w) place bytes front next marks e =
    let both = same_value (w.0, front ++ w.1) (next, marks) e in
    let s : w.0 ≡ next = ap (λ (p : State × List Mark). p.0) both in
    let m : front ++ w.1 ≡ marks = ap (λ (p : State × List Mark). p.1) both in
    front_front front w.1 (run w.0 (place + 1) bytes) ∙ ap (λ x. with_front x (run w.0 (place + 1) bytes)) m ∙ ap (λ x. with_front marks (run x (place + 1) bytes)) s
run_ok (Err f) place bytes front next marks e = absurd (no_fault f (next, marks) e)

pub run-step : (state : State) (place b : ℕ) (bytes : List ℕ) (front : List Mark) (next : State) (marks : List Mark) → with_marks front (step state place b) ≡ Ok (next, marks)
    → with_front front (run state place (b ∷ bytes)) ≡ with_front marks (run next (place + 1) bytes)
run-step state place b bytes front next marks e = run_ok (step state place b) place bytes front next marks e
