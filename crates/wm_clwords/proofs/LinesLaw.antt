-- The lines that a part gives are those of the whole input.
use Rattle.std.proofs.Common.{◌≡◌, ℕ, ◌+◌, ◌≤◌, ◌++◌, ◌||◌, not, Bool, true, false, cond, List, [], ◌∷◌, Option, Some, None, is_some, OnSome, length, take, eqb, ltb, map, subst, sym, ◌∙◌, ap, refl, arith}
use Rattle.std.proofs.lemmas.Bool.{and_parts, false≢true, eqb-true, not-true}
use Rattle.std.specs.List.{list_all}
use Rattle.std.proofs.lemmas.List.{append-nil}
use Rattle.wm_clwords.specs.declared.line.Sign.{Sign}
use Rattle.wm_clwords.specs.declared.line.Sign.TheVariants.{No, Plus, Minus}
use Rattle.wm_clwords.specs.declared.line.LogicalLine.{LogicalLine}
use Rattle.wm_clwords.specs.declared.line.LogicalLine.TheVariants.{Command, Long}
use Rattle.wm_clwords.specs.Lines.{is_blank, is_no_line_feed, is_empty, without_cr, sign_byte, sign_of, kept_of, text_of, front_of, drops_of, Before, by_sign, without_last, logical, physical, within_limit, logical_lines}
use Rattle.wm_clwords.specs.Part.{Part, fresh, begun, with_blank, with_solid, with_kept, with_cr, with_byte, joined_on, finished, unsigned, answer, has_rest, ended_lines, at_end, at_line_feed, lines_from}
use Rattle.wm_clwords.proofs.LineLemmas.{without_cr-push}
use Rattle.wm_clwords.proofs.PartLemmas.{Holds, Holds-with_kept, Holds-cr, Holds-fresh, Holds-joined_on, ended_lines-whole}

-- a line that was answered gives way to the next
pub lines_from-ended : (part : Part) (bytes : List ℕ) → part.ended ≡ true → lines_from part bytes ≡ lines_from fresh bytes
lines_from-ended part [] e = rw e refl
lines_from-ended part (b ∷ bytes) e = rw e refl

-- the physical line with a CR that came last
abbrev with_cr_at : Bool → List ℕ → List ℕ
with_cr_at cr line = cond cr (line ++ 13 ∷ []) line

-- what a part holds, where these bytes of the physical line came
record Is (part : Part) (before : Before) (line : List ℕ) : Type 0 where
  holds : Holds part before (kept_of (drops_of before) line)
  whole : without_cr (with_cr_at part.cr line) ≡ line

-- the lines that follow by the definition
abbrev lines_after : Part → Before → List ℕ → List ℕ → List (Option (List ℕ))
lines_after part before line bytes = map within_limit (logical before (physical (with_cr_at part.cr line) bytes))

plus_no : Plus ≡ No → ⊥
plus_no e = cc

minus_no : Minus ≡ No → ⊥
minus_no e = cc

kept_some : (before : Before) (b : ℕ) (line : List ℕ) → is_some before ≡ false → is_empty (kept_of (drops_of before) (b ∷ line)) ≡ false
kept_some None b line e = refl
kept_some (Some j) b line e = absurd (false≢true (sym e))

-- where the input ends
ends_by : (part : Part) (before : Before) (line : List ℕ) (s : Sign) → part.sign ≡ s → Holds part before (kept_of (drops_of before) line)
    → ended_lines (answer (unsigned part)) (finished (unsigned part)) ≡ map within_limit (logical before (line ∷ []))
ends_by part before line No e h =
    let front : List ℕ = front_of before in
    let text : List ℕ = text_of before line in
    ap (λ s. ended_lines (answer (by_sign s part (joined_on part true) (joined_on part false))) (finished (by_sign s part (joined_on part true) (joined_on part false)))) e
    ∙ ended_lines-whole part before (kept_of (drops_of before) line) e h
    ∙ ap (λ s. map within_limit (by_sign s ((front ++ text) ∷ []) ((front ++ without_last text) ∷ []) ((front ++ without_last text) ∷ []))) (sym e ∙ h.sign)
ends_by part before line Plus e h =
    let front : List ℕ = front_of before in
    let text : List ℕ = text_of before line in
    let sign : sign_of text ≡ No → ⊥ = λ n. plus_no (sym e ∙ h.sign ∙ n) in
    ap (λ s. ended_lines (answer (by_sign s part (joined_on part true) (joined_on part false))) (finished (by_sign s part (joined_on part true) (joined_on part false)))) e
    ∙ ended_lines-whole (joined_on part true) (Some (front ++ without_last text, true)) [] refl (Holds-joined_on part before (kept_of (drops_of before) line) true sign h)
    ∙ ap (λ t. within_limit t ∷ []) (append-nil (front ++ without_last text))
    ∙ ap (λ s. map within_limit (by_sign s ((front ++ text) ∷ []) ((front ++ without_last text) ∷ []) ((front ++ without_last text) ∷ []))) (sym e ∙ h.sign)
ends_by part before line Minus e h =
    let front : List ℕ = front_of before in
    let text : List ℕ = text_of before line in
    let sign : sign_of text ≡ No → ⊥ = λ n. minus_no (sym e ∙ h.sign ∙ n) in
    ap (λ s. ended_lines (answer (by_sign s part (joined_on part true) (joined_on part false))) (finished (by_sign s part (joined_on part true) (joined_on part false)))) e
    ∙ ended_lines-whole (joined_on part false) (Some (front ++ without_last text, false)) [] refl (Holds-joined_on part before (kept_of (drops_of before) line) false sign h)
    ∙ ap (λ t. within_limit t ∷ []) (append-nil (front ++ without_last text))
    ∙ ap (λ s. map within_limit (by_sign s ((front ++ text) ∷ []) ((front ++ without_last text) ∷ []) ((front ++ without_last text) ∷ []))) (sym e ∙ h.sign)

abbrev lines_at_end : Part → List (Option (List ℕ))
lines_at_end part = cond (has_rest part) (ended_lines (answer (unsigned (with_cr part))) (finished (unsigned (with_cr part)))) []

pub begun-going : (part : Part) → part.ended ≡ false → begun part ≡ part
begun-going part e = ap (λ c. cond c fresh part) e

ends_at : (part : Part) (before : Before) (line : List ℕ) → part.ended ≡ false → has_rest part ≡ true → Holds (with_cr part) before (kept_of (drops_of before) line)
    → lines_from part [] ≡ map within_limit (logical before (line ∷ []))
ends_at part before line going rest h =
    ap lines_at_end (begun-going part going)
    ∙ ap (λ c. cond c (ended_lines (answer (unsigned (with_cr part))) (finished (unsigned (with_cr part)))) []) rest
    ∙ ends_by (with_cr part) before line (with_cr part).sign refl h

physical-push : (line : List ℕ) (x : ℕ) → physical (line ++ x ∷ []) [] ≡ (line ++ x ∷ []) ∷ []
physical-push [] x = refl
physical-push (b ∷ line) x = refl

kept_nil : (d : Bool) → kept_of d [] ≡ []
kept_nil true = refl
kept_nil false = refl

-- the part once a CR that came last is among its bytes
with_cr_by : (part : Part) (before : Before) (line : List ℕ) (c : Bool) → part.cr ≡ c → Holds part before (kept_of (drops_of before) line)
    → Holds (with_cr part) before (kept_of (drops_of before) (with_cr_at part.cr line))
with_cr_by part before line true e h =
    let P : Bool → Type 0 = λ c. Holds (cond c (with_solid (record part { cr = false }) 13) part) before (kept_of (drops_of before) (with_cr_at c line)) in
    subst P (sym e) (Holds-with_kept (record part { cr = false }) before line 13 (Holds-cr part before _ false h))
with_cr_by part before line false e h =
    let P : Bool → Type 0 = λ c. Holds (cond c (with_solid (record part { cr = false }) 13) part) before (kept_of (drops_of before) (with_cr_at c line)) in
    subst P (sym e) h

or_rest : (a b c : Bool) → b ≡ true → (a || b || c) ≡ true
or_rest true b c e = refl
or_rest false true c e = refl
or_rest false false c e = absurd (false≢true e)

or_line : (a b c : Bool) → (a ≡ false → c ≡ false) → (a || b || not c) ≡ true
or_line true b c h = refl
or_line false true c h = refl
or_line false false true h = absurd (false≢true (sym (h refl)))
or_line false false false h = refl

no_rest : (a b c : Bool) → a ≡ false → b ≡ false → c ≡ true → (a || b || not c) ≡ false
no_rest a b c e f g = rw (e, f, g) refl

-- the input ends
end_by : (part : Part) (before : Before) (line : List ℕ) (c : Bool) → part.cr ≡ c → Holds part before (kept_of (drops_of before) line)
    → lines_from part [] ≡ map within_limit (logical before (physical (with_cr_at part.cr line) []))
end_by part before line true e h =
    let all : List ℕ = with_cr_at part.cr line in
    let same : physical all [] ≡ all ∷ [] = rw e (physical-push line 13) in
    ends_at part before all h.going (or_rest part.joined part.cr (not (is_empty part.line)) e) (with_cr_by part before line true e h)
    ∙ ap (λ ls. map within_limit (logical before ls)) (sym same)
end_by part before (b ∷ line) false e h =
    let all : List ℕ = with_cr_at part.cr (b ∷ line) in
    let same : physical all [] ≡ all ∷ [] = rw e refl in
    ends_at part before all h.going (or_line part.joined part.cr (is_empty part.line) (λ u. (h.starts u).1 ∙ kept_some before b line (sym h.joins ∙ u))) (with_cr_by part before (b ∷ line) false e h)
    ∙ ap (λ ls. map within_limit (logical before ls)) (sym same)
end_by part None [] false e h =
    ap lines_at_end (begun-going part h.going)
    ∙ ap (λ c. cond c (ended_lines (answer (unsigned (with_cr part))) (finished (unsigned (with_cr part)))) []) (no_rest part.joined part.cr (is_empty part.line) h.joins e (h.starts h.joins).1)
    ∙ ap (λ c. map within_limit (logical None (physical (with_cr_at c []) []))) (sym e)
end_by part (Some j) [] false e h =
    let front : List ℕ = j.0 in
    ends_at part (Some j) (with_cr_at part.cr []) h.going (rw h.joins refl) (with_cr_by part (Some j) [] false e h)
    ∙ rw (e, kept_nil j.1, append-nil front) refl

-- one byte more, by the test for LF
abbrev step_by : Part → ℕ → List ℕ → Bool → List (Option (List ℕ))
step_by part b bytes c = cond c (ended_lines (answer (record part { cr = false })) (finished (record part { cr = false })) ++ lines_from (finished (record part { cr = false })) bytes) (lines_from (with_byte part b) bytes)

lines_from-step : (part : Part) (b : ℕ) (bytes : List ℕ) (c : Bool) → part.ended ≡ false → eqb b 10 ≡ c → lines_from part (b ∷ bytes) ≡ step_by part b bytes c
lines_from-step part b bytes c going e = ap (λ q. step_by q b bytes (eqb b 10)) (begun-going part going) ∙ ap (step_by part b bytes) e

physical-step : (line : List ℕ) (b : ℕ) (bytes : List ℕ) (c : Bool) → eqb b 10 ≡ c
    → physical line (b ∷ bytes) ≡ cond c (without_cr line ∷ physical [] bytes) (physical (line ++ b ∷ []) bytes)
physical-step line b bytes c e = ap (λ c. cond c (without_cr line ∷ physical [] bytes) (physical (line ++ b ∷ []) bytes)) e

-- what is known of the lines of the bytes to come
abbrev Known : List ℕ → Type 0
Known bytes = (part : Part) (before : Before) (line : List ℕ) → Is part before line → lines_from part bytes ≡ lines_after part before line bytes

Is-fresh : Is fresh None []
Is-fresh = record { holds = Holds-fresh; whole = refl }

fresh_lines : (bytes : List ℕ) → Known bytes → lines_from fresh bytes ≡ logical_lines bytes
fresh_lines bytes known = known fresh None [] Is-fresh

-- a physical line ends
line_by : (part : Part) (before : Before) (line : List ℕ) (bytes : List ℕ) (s : Sign) → part.cr ≡ false → part.sign ≡ s → Holds part before (kept_of (drops_of before) line) → Known bytes
    → ended_lines (answer part) (finished part) ++ lines_from (finished part) bytes ≡ map within_limit (logical before (line ∷ physical [] bytes))
line_by part before line bytes No quiet e h known =
    let front : List ℕ = front_of before in
    let text : List ℕ = text_of before line in
    let ls : List (List ℕ) = physical [] bytes in
    let ended : lines_from (finished part) bytes ≡ logical_lines bytes =
    lines_from-ended (finished part) bytes (ap (λ s. (by_sign s (record part { line = take part.solid part.line; ended = true }) (joined_on part true) (joined_on part false)).ended) e) ∙ fresh_lines bytes known in
    ap (λ x. x ++ lines_from (finished part) bytes) (ended_lines-whole part before (kept_of (drops_of before) line) e h)
    ∙ ap (λ x. within_limit (front ++ text) ∷ x) ended
    ∙ ap (λ s. map within_limit (by_sign s ((front ++ text) ∷ logical None ls) (logical (Some (front ++ without_last text, true)) ls) (logical (Some (front ++ without_last text, false)) ls))) (sym e ∙ h.sign)
line_by part before line bytes Plus quiet e h known =
    let front : List ℕ = front_of before in
    let text : List ℕ = text_of before line in
    let ls : List (List ℕ) = physical [] bytes in
    let sign : sign_of text ≡ No → ⊥ = λ n. plus_no (sym e ∙ h.sign ∙ n) in
    let next : Is (joined_on part true) (Some (front ++ without_last text, true)) [] =
    record { holds = Holds-joined_on part before (kept_of (drops_of before) line) true sign h; whole = ap (λ c. without_cr (with_cr_at c [])) quiet } in
    ap (λ s. ended_lines (by_sign s (Some (cond (part.long || ltb 8192 part.solid) Long Command)) None None) (by_sign s (record part { line = take part.solid part.line; ended = true }) (joined_on part true) (joined_on part false))
    ++ lines_from (by_sign s (record part { line = take part.solid part.line; ended = true }) (joined_on part true) (joined_on part false)) bytes) e
    ∙ known (joined_on part true) (Some (front ++ without_last text, true)) [] next
    ∙ ap (λ c. map within_limit (logical (Some (front ++ without_last text, true)) (physical (with_cr_at c []) bytes))) quiet
    ∙ ap (λ s. map within_limit (by_sign s ((front ++ text) ∷ logical None ls) (logical (Some (front ++ without_last text, true)) ls) (logical (Some (front ++ without_last text, false)) ls))) (sym e ∙ h.sign)
line_by part before line bytes Minus quiet e h known =
    let front : List ℕ = front_of before in
    let text : List ℕ = text_of before line in
    let ls : List (List ℕ) = physical [] bytes in
    let sign : sign_of text ≡ No → ⊥ = λ n. minus_no (sym e ∙ h.sign ∙ n) in
    let next : Is (joined_on part false) (Some (front ++ without_last text, false)) [] =
    record { holds = Holds-joined_on part before (kept_of (drops_of before) line) false sign h; whole = ap (λ c. without_cr (with_cr_at c [])) quiet } in
    ap (λ s. ended_lines (by_sign s (Some (cond (part.long || ltb 8192 part.solid) Long Command)) None None) (by_sign s (record part { line = take part.solid part.line; ended = true }) (joined_on part true) (joined_on part false))
    ++ lines_from (by_sign s (record part { line = take part.solid part.line; ended = true }) (joined_on part true) (joined_on part false)) bytes) e
    ∙ known (joined_on part false) (Some (front ++ without_last text, false)) [] next
    ∙ ap (λ c. map within_limit (logical (Some (front ++ without_last text, false)) (physical (with_cr_at c []) bytes))) quiet
    ∙ ap (λ s. map within_limit (by_sign s ((front ++ text) ∷ logical None ls) (logical (Some (front ++ without_last text, true)) ls) (logical (Some (front ++ without_last text, false)) ls))) (sym e ∙ h.sign)

-- a byte other than LF
blank_cr : (part : Part) (x : ℕ) (c : Bool) → (cond c part (record part { line = part.line ++ x ∷ [] })).cr ≡ part.cr
blank_cr part x true = refl
blank_cr part x false = refl

solid_cr : (part : Part) (x : ℕ) (c : Bool) → (cond c (record part { line = part.line ++ x ∷ []; solid = length part.line + 1; sign = sign_byte x; skips = false }) (record part { sign = sign_byte x; skips = false; long = true })).cr ≡ part.cr
solid_cr part x true = refl
solid_cr part x false = refl

kept_cr_by : (part : Part) (x : ℕ) (c : Bool) → (cond c (with_blank part x) (with_solid part x)).cr ≡ part.cr
kept_cr_by part x true = blank_cr part x (part.skips || not (ltb (length part.line) 8193))
kept_cr_by part x false = solid_cr part x (ltb (length part.line) 8193)

kept_cr : (part : Part) (x : ℕ) → (with_kept part x).cr ≡ part.cr
kept_cr part x = kept_cr_by part x (is_blank x)

cr_gone_by : (part : Part) (c : Bool) → part.cr ≡ c → (cond c (with_solid (record part { cr = false }) 13) part).cr ≡ false
cr_gone_by part true e = solid_cr (record part { cr = false }) 13 (ltb (length part.line) 8193)
cr_gone_by part false e = e

pub cr_gone : (part : Part) → (with_cr part).cr ≡ false
cr_gone part = cr_gone_by part part.cr refl

byte_by : (part : Part) (before : Before) (line : List ℕ) (b : ℕ) (bytes : List ℕ) (c : Bool) → eqb b 13 ≡ c → Is part before line → Known bytes
    → lines_from (cond c (record (with_cr part) { cr = true }) (with_kept (with_cr part) b)) bytes ≡ map within_limit (logical before (physical (with_cr_at part.cr line ++ b ∷ []) bytes))
byte_by part before line b bytes true e is known =
    let all : List ℕ = with_cr_at part.cr line in
    let h : Holds (with_cr part) before (kept_of (drops_of before) all) = with_cr_by part before line part.cr refl is.holds in
    let next : Is (record (with_cr part) { cr = true }) before all =
    record { holds = Holds-cr (with_cr part) before _ true h; whole = without_cr-push all 13 } in
    known (record (with_cr part) { cr = true }) before all next
    ∙ ap (λ x. map within_limit (logical before (physical (all ++ x ∷ []) bytes))) (sym (eqb-true b 13 e))
byte_by part before line b bytes false e is known =
    let all : List ℕ = with_cr_at part.cr line in
    let h : Holds (with_cr part) before (kept_of (drops_of before) all) = with_cr_by part before line part.cr refl is.holds in
    let cr : (with_kept (with_cr part) b).cr ≡ false = kept_cr (with_cr part) b ∙ cr_gone part in
    let next : Is (with_kept (with_cr part) b) before (all ++ b ∷ []) =
    record {
      holds = Holds-with_kept (with_cr part) before all b h;
      whole = ap (λ c. without_cr (with_cr_at c (all ++ b ∷ []))) cr ∙ without_cr-push all b ∙ ap (λ c. cond c all (all ++ b ∷ [])) e;
    } in
    known (with_kept (with_cr part) b) before (all ++ b ∷ []) next
    ∙ ap (λ c. map within_limit (logical before (physical (with_cr_at c (all ++ b ∷ [])) bytes))) cr

next_by : (part : Part) (before : Before) (line : List ℕ) (b : ℕ) (bytes : List ℕ) (c : Bool) → eqb b 10 ≡ c → Is part before line → Known bytes
    → lines_from part (b ∷ bytes) ≡ lines_after part before line (b ∷ bytes)
next_by part before line b bytes true e is known =
    lines_from-step part b bytes true is.holds.going e
    ∙ line_by (record part { cr = false }) before line bytes part.sign refl refl (Holds-cr part before _ false is.holds) known
    ∙ ap (λ l. map within_limit (logical before (l ∷ physical [] bytes))) (sym is.whole)
    ∙ ap (λ ls. map within_limit (logical before ls)) (sym (physical-step (with_cr_at part.cr line) b bytes true e))
next_by part before line b bytes false e is known =
    lines_from-step part b bytes false is.holds.going e
    ∙ byte_by part before line b bytes (eqb b 13) refl is known
    ∙ ap (λ ls. map within_limit (logical before ls)) (sym (physical-step (with_cr_at part.cr line) b bytes false e))

all_known : (bytes : List ℕ) → Known bytes
all_known [] part before line is = end_by part before line part.cr refl is.holds
all_known (b ∷ bytes) part before line is = next_by part before line b bytes (eqb b 10) refl is (all_known bytes)

-- a joiner that holds nothing gives the lines of the input
pub lines_from-fresh : (bytes : List ℕ) → lines_from fresh bytes ≡ logical_lines bytes
lines_from-fresh bytes = fresh_lines bytes (all_known bytes)

pub lines_from-next : (part : Part) → part.ended ≡ true → (bytes : List ℕ) → lines_from part bytes ≡ logical_lines bytes
lines_from-next part e bytes = lines_from-ended part bytes e ∙ lines_from-fresh bytes

pub on_some : {A P Q : Type 0} (o : Option A) → (P → Q) → OnSome o P → OnSome o Q
on_some None f h = tt
on_some (Some x) f h = f h

unsigned_by : (part : Part) (s : Sign) → part.sign ≡ s → (by_sign s part (joined_on part true) (joined_on part false)).sign ≡ No
unsigned_by part No e = e
unsigned_by part Plus e = refl
unsigned_by part Minus e = refl

whole_ended : (part : Part) (s : Sign) → s ≡ No → (by_sign s (record part { line = take part.solid part.line; ended = true }) (joined_on part true) (joined_on part false)).ended ≡ true
whole_ended part No e = refl
whole_ended part Plus e = absurd (plus_no e)
whole_ended part Minus e = absurd (minus_no e)

-- the end of the input ends the line
pub unsigned-next : (part : Part) (bytes : List ℕ) → lines_from (finished (unsigned part)) bytes ≡ logical_lines bytes
unsigned-next part bytes = lines_from-next (finished (unsigned part)) (whole_ended (unsigned part) (unsigned part).sign (unsigned_by part part.sign refl)) bytes

ended_short : (o : Option LogicalLine) (part : Part) → length (ended_lines o part) ≤ 1
ended_short None part = omega arith
ended_short (Some Command) part = omega arith
ended_short (Some Long) part = omega arith

end_short : (c : Bool) (o : Option LogicalLine) (part : Part) → length (cond c (ended_lines o part) []) ≤ 1
end_short true o part = ended_short o part
end_short false o part = omega arith

-- bytes without an LF give one line at most
pub length-lines_from : (part : Part) (more : List ℕ) → list_all is_no_line_feed more ≡ true → length (lines_from part more) ≤ 1
length-lines_from part [] h = end_short (has_rest (begun part)) (answer (at_end part)) (finished (at_end part))
length-lines_from part (b ∷ more) h =
    let w = and_parts (is_no_line_feed b) (list_all is_no_line_feed more) h in
    let e : eqb b 10 ≡ false = not-true (eqb b 10) w.0 in
    subst (λ (c : Bool). length (cond c (ended_lines (answer (at_line_feed part)) (finished (at_line_feed part)) ++ lines_from (finished (at_line_feed part)) more) (lines_from (with_byte (begun part) b) more)) ≤ 1) (sym e)
    (length-lines_from (with_byte (begun part) b) more w.1)
