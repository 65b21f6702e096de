-- What a part stands for: what was joined, and the bytes of the physical line.
use Rattle.std.proofs.Common.{◌≡◌, ◌⊎◌, ℕ, ◌-◌, ◌+◌, ◌<◌, ◌≤◌, ◌++◌, ◌&&◌, ◌||◌, not, Bool, true, false, cond, List, [], ◌∷◌, Some, None, is_some, length, take, ltb, subst, sym, ◌∙◌, ap, refl, arith, inl, inr}
use Rattle.std.proofs.lemmas.Bool.{ltb-true, ltb-false, lt-ltb, le-ltb, false≢true, or_parts, and_parts, not-false}
use Rattle.std.proofs.lemmas.List.{length-append, append_assoc, append-nil, take_all, length_push, take-append-le, length-take, take-take}
use Rattle.std.proofs.Math.Seq.{take-append-add}
use Rattle.wm_clwords.specs.declared.line.Sign.{Sign}
use Rattle.wm_clwords.specs.declared.line.Sign.TheVariants.{No}
use Rattle.wm_clwords.specs.declared.line.LogicalLine.TheVariants.{Command, Long}
use Rattle.wm_clwords.specs.Lines.{is_blank, is_empty, end_trimmed, sign_byte, sign_of, kept_of, front_of, drops_of, Before, by_sign, without_last, within_limit}
use Rattle.wm_clwords.specs.Part.{Part, fresh, with_blank, with_solid, with_kept, joined_on, finished, answer, ended_lines}
use Rattle.wm_clwords.proofs.LineLemmas.{is_empty-push, end_trimmed-push, kept_of-push, sign_of-push, end_trimmed-take, length-end_trimmed}

-- the line is too long, however it goes on
abbrev pub IsLong : List ℕ → List ℕ → Type 0
IsLong front text = (8192 < length front) ⊎ (8193 < length (front ++ text))

-- the bytes are there, as far as there is room
pub record IsShort (part : Part) (front kept : List ℕ) (drops : Bool) : Type 0 where
  pub line : part.line ≡ take 8193 (front ++ kept)
  pub solid : part.solid ≡ length (front ++ end_trimmed kept)
  pub room : part.solid ≤ 8193
  pub before : length front ≤ 8192
  pub skips : part.skips ≡ (drops && is_empty kept)

-- what the part holds, where `kept` is what came of the physical line
pub record Holds (part : Part) (before : Before) (kept : List ℕ) : Type 0 where
  pub joins : part.joined ≡ is_some before
  pub sign : part.sign ≡ sign_of (end_trimmed kept)
  pub going : part.ended ≡ false
  pub starts : part.joined ≡ false → (part.skips ≡ false) × (is_empty part.line ≡ is_empty kept)
  pub short : part.long ≡ false → IsShort part (front_of before) kept (drops_of before)
  pub long : part.long ≡ true → IsLong (front_of before) (end_trimmed kept)

-- one byte more, of a list that is cut at n
pub take_push_room : (n : ℕ) (xs : List ℕ) (x : ℕ) → length (take n xs) < n → take n (xs ++ x ∷ []) ≡ take n xs ++ x ∷ []
take_push_room n xs x h =
    let short : length xs < n = omega (arith, length-take n xs) in
    rw (take_all n xs (omega arith), take_all n (xs ++ x ∷ []) (omega (arith, length_push xs x))) refl

pub take_push_full : (n : ℕ) (xs : List ℕ) (x : ℕ) → n ≤ length (take n xs) → take n (xs ++ x ∷ []) ≡ take n xs
take_push_full n xs x h = take-append-le n xs (x ∷ []) (omega (arith, length-take n xs))

nil_of : (l : List ℕ) → is_empty l ≡ true → l ≡ []
nil_of [] e = refl
nil_of (b ∷ l) e = absurd (false≢true e)

is_empty-long : (l : List ℕ) → 8193 ≤ length l → is_empty l ≡ false
is_empty-long [] h = absurd (omega arith)
is_empty-long (b ∷ l) h = refl

is_full : (a b : Bool) → (a || not b) ≡ true → a ≡ false → b ≡ false
is_full false false e f = refl
is_full false true e f = absurd (false≢true e)
is_full true b e f = absurd (false≢true (sym f))

drops_none : (before : Before) → is_some before ≡ false → drops_of before ≡ false
drops_none None e = refl
drops_none (Some j) e = absurd (false≢true (sym e))

and_push : (d : Bool) (kept : List ℕ) (x : ℕ) → (d && is_empty (kept ++ x ∷ [])) ≡ false
and_push true kept x = is_empty-push kept x
and_push false kept x = refl

-- a blank more
blank_by : (part : Part) (before : Before) (kept : List ℕ) (x : ℕ) (c s : Bool) → is_blank x ≡ true
    → (part.skips || not (ltb (length part.line) 8193)) ≡ c → (drops_of before && is_empty kept) ≡ s → Holds part before kept
    → Holds (cond c part (record part { line = part.line ++ x ∷ [] })) before (cond s [] (kept ++ x ∷ []))
blank_by part before kept x true true blank e f h = subst (λ (k : List ℕ). Holds part before k) (nil_of kept (and_parts (drops_of before) (is_empty kept) f).1) h
blank_by part before kept x true false blank e f h =
    let same : end_trimmed (kept ++ x ∷ []) ≡ end_trimmed kept = end_trimmed-push kept x ∙ rw blank refl in
    let full : part.skips ≡ false → 8193 ≤ length part.line = λ skips. ltb-false (length part.line) 8193 (is_full part.skips _ e skips) in
    record {
      joins = h.joins;
      sign = h.sign ∙ ap sign_of (sym same);
      going = h.going;
      starts = λ u. let w = h.starts u in (w.0, is_empty-long part.line (full w.0) ∙ sym (is_empty-push kept x));
      short = λ u.
          let w = h.short u in
          let skips : part.skips ≡ false = w.skips ∙ f in
          let long : 8193 ≤ length (take 8193 (front_of before ++ kept)) = subst (λ (l : List ℕ). 8193 ≤ length l) w.line (full skips) in
          record {
            line = w.line ∙ sym (take_push_full 8193 (front_of before ++ kept) x long) ∙ ap (take 8193) (append_assoc (front_of before) kept (x ∷ []));
            solid = w.solid ∙ ap (λ t. length (front_of before ++ t)) (sym same);
            room = w.room;
            before = w.before;
            skips = skips ∙ sym (and_push (drops_of before) kept x);
          };
      long = λ u. subst (λ (t : List ℕ). IsLong (front_of before) t) (sym same) (h.long u);
    }
blank_by part before kept x false true blank e f h =
    let open_now = or_parts part.skips (not (ltb (length part.line) 8193)) e in
    record {
      joins = h.joins;
      sign = h.sign ∙ ap (λ k. sign_of (end_trimmed k)) (nil_of kept (and_parts (drops_of before) (is_empty kept) f).1);
      going = h.going;
      starts = λ u. absurd (false≢true (sym (drops_none before (sym h.joins ∙ u)) ∙ (and_parts (drops_of before) (is_empty kept) f).0));
      short = λ u. absurd (false≢true (sym open_now.0 ∙ (h.short u).skips ∙ f));
      long = λ u. subst (λ (k : List ℕ). IsLong (front_of before) (end_trimmed k)) (nil_of kept (and_parts (drops_of before) (is_empty kept) f).1) (h.long u);
    }
blank_by part before kept x false false blank e f h =
    let same : end_trimmed (kept ++ x ∷ []) ≡ end_trimmed kept = end_trimmed-push kept x ∙ rw blank refl in
    let open_now = or_parts part.skips (not (ltb (length part.line) 8193)) e in
    let room : length part.line < 8193 = ltb-true (length part.line) 8193 (not-false _ open_now.1) in
    record {
      joins = h.joins;
      sign = h.sign ∙ ap sign_of (sym same);
      going = h.going;
      starts = λ u. ((h.starts u).0, is_empty-push part.line x ∙ sym (is_empty-push kept x));
      short = λ u.
          let w = h.short u in
          let room' : length (take 8193 (front_of before ++ kept)) < 8193 = subst (λ (l : List ℕ). length l < 8193) w.line room in
          record {
            line = ap (λ l. l ++ x ∷ []) w.line ∙ sym (take_push_room 8193 (front_of before ++ kept) x room') ∙ ap (take 8193) (append_assoc (front_of before) kept (x ∷ []));
            solid = w.solid ∙ ap (λ t. length (front_of before ++ t)) (sym same);
            room = w.room;
            before = w.before;
            skips = open_now.0 ∙ sym (and_push (drops_of before) kept x);
          };
      long = λ u. subst (λ (t : List ℕ). IsLong (front_of before) t) (sym same) (h.long u);
    }

-- another byte more
longer : (front kept : List ℕ) (x : ℕ) → IsLong front (end_trimmed kept) → IsLong front (kept ++ x ∷ [])
longer front kept x (inl h) = inl h
longer front kept x (inr h) = inr (omega (arith, length-append front (end_trimmed kept), length-append front (kept ++ x ∷ []), length_push kept x, length-end_trimmed kept))

long_by : (part : Part) (before : Before) (kept : List ℕ) (x : ℕ) (l : Bool) → part.long ≡ l → 8193 ≤ length part.line → Holds part before kept → IsLong (front_of before) (kept ++ x ∷ [])
long_by part before kept x true e full h = longer (front_of before) kept x (h.long e)
long_by part before kept x false e full h =
    inr (omega (arith, ap length (h.short e).line, length-take 8193 (front_of before ++ kept), length-append (front_of before) kept, length-append (front_of before) (kept ++ x ∷ []), length_push kept x))

solid_by : (part : Part) (before : Before) (kept : List ℕ) (x : ℕ) (c : Bool) → is_blank x ≡ false
    → ltb (length part.line) 8193 ≡ c → Holds part before kept
    → Holds (cond c (record part { line = part.line ++ x ∷ []; solid = length part.line + 1; sign = sign_byte x; skips = false }) (record part { sign = sign_byte x; skips = false; long = true })) before (kept ++ x ∷ [])
solid_by part before kept x true solid e h =
    let same : end_trimmed (kept ++ x ∷ []) ≡ kept ++ x ∷ [] = end_trimmed-push kept x ∙ rw solid refl in
    let room : length part.line < 8193 = ltb-true (length part.line) 8193 e in
    record {
      joins = h.joins;
      sign = sym (ap sign_of same ∙ sign_of-push kept x);
      going = h.going;
      starts = λ u. (refl, is_empty-push part.line x ∙ sym (is_empty-push kept x));
      short = λ u.
          let w = h.short u in
          let room' : length (take 8193 (front_of before ++ kept)) < 8193 = subst (λ (l : List ℕ). length l < 8193) w.line room in
          let whole : length part.line ≡ length (front_of before ++ kept) = omega (arith, ap length w.line, length-take 8193 (front_of before ++ kept)) in
          record {
            line = ap (λ l. l ++ x ∷ []) w.line ∙ sym (take_push_room 8193 (front_of before ++ kept) x room') ∙ ap (take 8193) (append_assoc (front_of before) kept (x ∷ []));
            solid = sym (ap (λ t. length (front_of before ++ t)) same ∙ omega (arith, length-append (front_of before) kept, length-append (front_of before) (kept ++ x ∷ []), length_push kept x));
            room = omega arith;
            before = w.before;
            skips = sym (and_push (drops_of before) kept x);
          };
      long = λ u. subst (λ (t : List ℕ). IsLong (front_of before) t) (sym same) (longer (front_of before) kept x (h.long u));
    }
solid_by part before kept x false solid e h =
    let same : end_trimmed (kept ++ x ∷ []) ≡ kept ++ x ∷ [] = end_trimmed-push kept x ∙ rw solid refl in
    let full : 8193 ≤ length part.line = ltb-false (length part.line) 8193 e in
    let long_now : IsLong (front_of before) (kept ++ x ∷ []) = long_by part before kept x part.long refl full h in
    record {
      joins = h.joins;
      sign = sym (ap sign_of same ∙ sign_of-push kept x);
      going = h.going;
      starts = λ u. (refl, is_empty-long part.line full ∙ sym (is_empty-push kept x));
      short = λ u. absurd (false≢true (sym u));
      long = λ u. subst (λ (t : List ℕ). IsLong (front_of before) t) (sym same) long_now;
    }

and_true : (a b : Bool) (l : List ℕ) → b ≡ true → cond (a && b) [] l ≡ cond a [] l
and_true true b l e = rw e refl
and_true false b l e = refl

and_no : (a b : Bool) (l : List ℕ) → b ≡ false → cond (a && b) [] l ≡ l
and_no true b l e = rw e refl
and_no false b l e = refl

and_yes : (a : Bool) → (a && true) ≡ a
and_yes true = refl
and_yes false = refl

-- a byte more of the physical line
kept_by : (part : Part) (before : Before) (line : List ℕ) (x : ℕ) (c : Bool) → is_blank x ≡ c → Holds part before (kept_of (drops_of before) line)
    → Holds (cond c (with_blank part x) (with_solid part x)) before (kept_of (drops_of before) (line ++ x ∷ []))
kept_by part before line x true e h =
    let kept : List ℕ = kept_of (drops_of before) line in
    let same : kept_of (drops_of before) (line ++ x ∷ []) ≡ cond (drops_of before && is_empty kept) [] (kept ++ x ∷ []) =
    kept_of-push (drops_of before) line x ∙ and_true (drops_of before && is_empty kept) (is_blank x) (kept ++ x ∷ []) e in
    subst (λ (k : List ℕ). Holds (with_blank part x) before k) (sym same)
    (blank_by part before kept x (part.skips || not (ltb (length part.line) 8193)) (drops_of before && is_empty kept) e refl refl h)
kept_by part before line x false e h =
    let kept : List ℕ = kept_of (drops_of before) line in
    let same : kept_of (drops_of before) (line ++ x ∷ []) ≡ kept ++ x ∷ [] =
    kept_of-push (drops_of before) line x ∙ and_no (drops_of before && is_empty kept) (is_blank x) (kept ++ x ∷ []) e in
    subst (λ (k : List ℕ). Holds (with_solid part x) before k) (sym same)
    (solid_by part before kept x (ltb (length part.line) 8193) e refl h)

pub Holds-with_kept : (part : Part) (before : Before) (line : List ℕ) (x : ℕ) → Holds part before (kept_of (drops_of before) line)
    → Holds (with_kept part x) before (kept_of (drops_of before) (line ++ x ∷ []))
Holds-with_kept part before line x h = kept_by part before line x (is_blank x) refl h

-- the flag of a CR changes nothing
pub Holds-cr : (part : Part) (before : Before) (kept : List ℕ) (c : Bool) → Holds part before kept → Holds (record part { cr = c }) before kept
Holds-cr part before kept c h =
    record {
      joins = h.joins;
      sign = h.sign;
      going = h.going;
      starts = h.starts;
      short = λ u. let w = h.short u in record { line = w.line; solid = w.solid; room = w.room; before = w.before; skips = w.skips };
      long = h.long;
    }

-- nothing of a line
pub Holds-fresh : Holds fresh None []
Holds-fresh =
    record {
      joins = refl;
      sign = refl;
      going = refl;
      starts = λ _. (refl, refl);
      short = λ _. record { line = refl; solid = refl; room = omega arith; before = omega arith; skips = refl };
      long = λ u. absurd (false≢true u);
    }

-- the end of a physical line
signed : (text : List ℕ) → (sign_of text ≡ No → ⊥) → 0 < length text
signed [] h = absurd (h refl)
signed (b ∷ text) h = omega arith

fronts : (front kept : List ℕ) → 0 < length (end_trimmed kept) → length (front ++ end_trimmed kept) ≤ 8193
    → take (length (front ++ end_trimmed kept) - 1) (take 8193 (front ++ kept)) ≡ front ++ without_last (end_trimmed kept)
fronts front kept some room =
    let text : List ℕ = end_trimmed kept in
    let n : ℕ = length text - 1 in
    let long : length (front ++ text) - 1 ≡ length front + n = omega (arith, length-append front text) in
    take-take (length (front ++ text) - 1) 8193 (front ++ kept) (omega arith)
    ∙ ap (λ k. take k (front ++ kept)) long
    ∙ take-append-add front kept n
    ∙ ap (λ t. front ++ t) (sym (take-take n (length text) kept (omega arith)) ∙ ap (take n) (end_trimmed-take kept))

long_front : (front text : List ℕ) → IsLong front text → length (front ++ without_last text) + 1 ≡ length (front ++ text) → 8192 < length (front ++ without_last text)
long_front front text (inl h) e = omega (arith, length-append front (without_last text))
long_front front text (inr h) e = omega arith

pub Holds-joined_on : (part : Part) (before : Before) (kept : List ℕ) (skips : Bool) → (sign_of (end_trimmed kept) ≡ No → ⊥) → Holds part before kept
    → Holds (joined_on part skips) (Some (front_of before ++ without_last (end_trimmed kept), skips)) []
Holds-joined_on part before kept skips sign h =
    let front : List ℕ = front_of before in
    let text : List ℕ = end_trimmed kept in
    let some : 0 < length text = signed text sign in
    let shorter : length (front ++ without_last text) + 1 ≡ length (front ++ text) =
    omega (arith, length-append front text, length-append front (without_last text), length-take (length text - 1) text) in
    record {
      joins = refl;
      sign = refl;
      going = h.going;
      starts = λ u. absurd (false≢true (sym u));
      short = λ u.
          let w = h.short u in
          let room : length (front ++ text) ≤ 8193 = subst (λ (n : ℕ). n ≤ 8193) w.solid w.room in
          let line : take (part.solid - 1) part.line ≡ front ++ without_last text =
          ap (λ n. take (n - 1) part.line) w.solid ∙ ap (take (length (front ++ text) - 1)) w.line ∙ fronts front kept some room in
          record {
            line = line ∙ sym (ap (take 8193) (append-nil (front ++ without_last text)) ∙ take_all 8193 (front ++ without_last text) (omega arith));
            solid = omega (arith, w.solid, ap length (append-nil (front ++ without_last text)));
            room = omega (arith, w.room);
            before = omega arith;
            skips = sym (and_yes skips);
          };
      long = λ u. inl (long_front front text (h.long u) shorter);
    }

long_text : (front text : List ℕ) → IsLong front text → 8192 < length (front ++ text)
long_text front text (inl h) = omega (arith, length-append front text)
long_text front text (inr h) = omega arith

over : (text : List ℕ) → 8192 < length text → within_limit text ≡ None
over text h = rw (lt-ltb 8192 (length text) h) refl

whole_short : (line text : List ℕ) (solid : ℕ) (c : Bool) (part : Part) → solid ≡ length text → take solid line ≡ text → ltb 8192 solid ≡ c
    → ended_lines (Some (cond c Long Command)) (record part { line = take solid line; ended = true }) ≡ within_limit text ∷ []
whole_short line text solid true part e same c = ap (λ x. x ∷ []) (sym (over text (omega (arith, ltb-true 8192 solid c))))
whole_short line text solid false part e same c =
    ap (λ l. Some l ∷ []) same ∙ ap (λ x. x ∷ []) (sym (rw (le-ltb 8192 (length text) (omega (arith, ltb-false 8192 solid c))) refl))

cut_text : (front kept : List ℕ) → length (front ++ end_trimmed kept) ≤ 8193 → take (length (front ++ end_trimmed kept)) (take 8193 (front ++ kept)) ≡ front ++ end_trimmed kept
cut_text front kept room =
    let text : List ℕ = end_trimmed kept in
    take-take (length (front ++ text)) 8193 (front ++ kept) room
    ∙ ap (λ k. take k (front ++ kept)) (length-append front text)
    ∙ take-append-add front kept (length text)
    ∙ ap (λ t. front ++ t) (end_trimmed-take kept)

whole_by : (part : Part) (before : Before) (kept : List ℕ) (l : Bool) → part.long ≡ l → Holds part before kept
    → ended_lines (Some (cond (l || ltb 8192 part.solid) Long Command)) (record part { line = take part.solid part.line; ended = true }) ≡ within_limit (front_of before ++ end_trimmed kept) ∷ []
whole_by part before kept true e h = ap (λ x. x ∷ []) (sym (over (front_of before ++ end_trimmed kept) (long_text (front_of before) (end_trimmed kept) (h.long e))))
whole_by part before kept false e h =
    let w = h.short e in
    let room : length (front_of before ++ end_trimmed kept) ≤ 8193 = subst (λ (n : ℕ). n ≤ 8193) w.solid w.room in
    whole_short part.line (front_of before ++ end_trimmed kept) part.solid (ltb 8192 part.solid) part w.solid
    (ap (λ n. take n part.line) w.solid ∙ ap (take (length (front_of before ++ end_trimmed kept))) w.line ∙ cut_text (front_of before) kept room) refl

pub ended_lines-whole : (part : Part) (before : Before) (kept : List ℕ) → part.sign ≡ No → Holds part before kept
    → ended_lines (answer part) (finished part) ≡ within_limit (front_of before ++ end_trimmed kept) ∷ []
ended_lines-whole part before kept e h =
    let P : Sign → Type 0 = λ s.
    ended_lines (by_sign s (Some (cond (part.long || ltb 8192 part.solid) Long Command)) None None)
    (by_sign s (record part { line = take part.solid part.line; ended = true }) (joined_on part true) (joined_on part false))
    ≡ within_limit (front_of before ++ end_trimmed kept) ∷ [] in
    subst P (sym e) (whole_by part before kept part.long refl h)
