-- The lines of a body, as they come.
use Rattle.std.proofs.Common.{◌≡◌, ◌<◌, ◌≤◌, ◌+◌, ℕ, drop, List, [], ◌∷◌, ◌++◌, length, fold, Option, Some, None, IfNone, OnSome, refl, sym, ap, subst, ◌∙◌, append_assoc, append-nil, arith}
use Rattle.std.proofs.lemmas.List.{drop-drop, drop_all, length-drop}
use Rattle.std.proofs.lemmas.List.Sums.{fold-append}
use Rattle.wm_clwords.specs.Lines.{logical_lines}
use Rattle.wm_clwords.specs.Part.{Part, ended_lines, lines_from}
use Rattle.wm_clwords.specs.declared.line.LogicalLine.{LogicalLine}
use Rattle.wm_run.specs.declared.parsed.Parsed.{Parsed}
use Rattle.wm_web.specs.Bodies.{AddsLines, IsBody, IsFitBody, LinesParse, with_line}
use Rattle.wm_web.specs.declared.body.Body.{Body}
use Rattle.wm_web.specs.declared.body.Body.TheVariants.{Nothing}

LinesParse-append : (user : List ℕ) (ls ms : List (Option (List ℕ))) (ps qs : List Parsed) → LinesParse user ls ps → LinesParse user ms qs → LinesParse user (ls ++ ms) (ps ++ qs)
LinesParse-append user [] ms [] qs h k = k
LinesParse-append user [] ms (p ∷ ps) qs h k = absurd h
LinesParse-append user (l ∷ ls) ms [] qs h k = absurd h
LinesParse-append user (l ∷ ls) ms (p ∷ ps) qs h k = (h.0, LinesParse-append user ls ms ps qs h.1 k)

-- no line
pub adds_none : (user : List ℕ) (now : List (Option (List ℕ))) (body : Body) → AddsLines user now now body body
adds_none user now body = record { lines = []; parsed = []; split = refl; parses = tt; made = refl }

-- nor where none has ended
pub adds_at_none : (user : List ℕ) (line : Option LogicalLine) (part : Part) (body : Body) → line ≡ None → AddsLines user (ended_lines line part) [] body body
adds_at_none user line part body is = subst (λ (l : Option LogicalLine). AddsLines user (ended_lines l part) [] body body) (sym is) (adds_none user [] body)

-- what ended in a piece, and what the rest of it gives
pub lines_of : (a b : Part) (piece rest : List ℕ) (ended : List (Option (List ℕ))) → ((more : List ℕ) → lines_from a (piece ++ more) ≡ ended ++ lines_from b (rest ++ more)) → lines_from a piece ≡ ended ++ lines_from b rest
lines_of a b piece rest ended h =
    ap (lines_from a) (sym (append-nil piece)) ∙ h [] ∙ ap (λ (l : List ℕ). ended ++ lines_from b l) (append-nil rest)

-- some lines, and then some more
pub adds_then : (user : List ℕ) (a b c : List (Option (List ℕ))) (x y z : Body) → AddsLines user a b x y → AddsLines user b c y z → AddsLines user a c x z
adds_then user a b c x y z h k = record {
  lines = h.lines ++ k.lines;
  parsed = h.parsed ++ k.parsed;
  split = h.split ∙ ap (λ (l : List (Option (List ℕ))). h.lines ++ l) k.split ∙ sym (append_assoc h.lines k.lines c);
  parses = LinesParse-append user h.lines k.lines h.parsed k.parsed h.parses k.parses;
  made = k.made ∙ ap (λ (body : Body). fold with_line body k.parsed) h.made ∙ sym (fold-append with_line x h.parsed k.parsed);
}

-- the same before more lines
pub adds_before : (user : List ℕ) (all some more : List (Option (List ℕ))) (x y : Body) → all ≡ some ++ more → AddsLines user some [] x y → AddsLines user all more x y
adds_before user all some more x y is h = record {
  lines = h.lines;
  parsed = h.parsed;
  split = is ∙ ap (λ (l : List (Option (List ℕ))). l ++ more) (h.split ∙ append-nil h.lines);
  parses = h.parses;
  made = h.made;
}

-- all lines of a body
pub adds_all : (user bytes : List ℕ) (x : Body) → AddsLines user (logical_lines bytes) [] Nothing x → IsBody user bytes x
adds_all user bytes x h = record {
  parsed = h.parsed;
  parses = subst (λ (l : List (Option (List ℕ))). LinesParse user l h.parsed) (sym (h.split ∙ append-nil h.lines)) h.parses;
  made = h.made;
}

-- a piece that isn't empty is taken from
pub takes_some : (line : Option LogicalLine) (taken len : ℕ) → IfNone line (taken ≡ len) → OnSome line (0 < taken) → 0 < len → 0 < taken
takes_some None taken len all some has = omega (arith, all, has)
takes_some (Some line) taken len all some has = some

-- the lines of a body so far
pub record BodyLoop (user bytes : List ℕ) (at : ℕ) (joiner : Part) (body : Body) : Type 0 where
  pub within : at ≤ length bytes
  pub adds : AddsLines user (logical_lines bytes) (lines_from joiner (drop at bytes)) Nothing body
  pub fit : IsFitBody body

pub loop_begins : (user bytes : List ℕ) (joiner : Part) → ((more : List ℕ) → lines_from joiner more ≡ logical_lines more) → BodyLoop user bytes 0 joiner Nothing
loop_begins user bytes joiner fresh = record {
  within = omega arith;
  adds = subst (λ (l : List (Option (List ℕ))). AddsLines user (logical_lines bytes) l Nothing Nothing) (sym (fresh bytes)) (adds_none user (logical_lines bytes) Nothing);
  fit = tt;
}

pub loop_goes_on : (user bytes : List ℕ) (at taken : ℕ) (a b : Part) (x y : Body) → BodyLoop user bytes at a x → AddsLines user (lines_from a (drop at bytes)) (lines_from b (drop taken (drop at bytes))) x y → taken ≤ length (drop at bytes) → IsFitBody y → BodyLoop user bytes (at + taken) b y
loop_goes_on user bytes at taken a b x y h k few fit =
    let within = h.within in
    record {
      within = omega (arith, length-drop at bytes, few, within);
      adds = adds_then user (logical_lines bytes) (lines_from a (drop at bytes)) _ Nothing x y h.adds (subst (λ (l : List ℕ). AddsLines user (lines_from a (drop at bytes)) (lines_from b l) x y) (drop-drop taken at bytes) k);
      fit = fit;
    }

-- the same of the piece that is left
pub loop_takes : (user bytes : List ℕ) (at taken : ℕ) (a b : Part) (x y : Body) (piece : List ℕ) → piece ≡ drop at bytes → BodyLoop user bytes at a x → AddsLines user (lines_from a piece) (lines_from b (drop taken piece)) x y → taken ≤ length piece → IsFitBody y → BodyLoop user bytes (at + taken) b y
loop_takes user bytes at taken a b x y piece is h k few fit =
    loop_goes_on user bytes at taken a b x y h (subst (λ (l : List ℕ). AddsLines user (lines_from a l) (lines_from b (drop taken l)) x y) is k) (subst (λ (l : List ℕ). taken ≤ length l) is few) fit

pub loop_ends : (user bytes : List ℕ) (at : ℕ) (a : Part) (last : List (Option (List ℕ))) (x y : Body) → BodyLoop user bytes at a x → length bytes ≤ at → lines_from a [] ≡ last → AddsLines user last [] x y → IsBody user bytes y
loop_ends user bytes at a last x y h all is k =
    let none : drop at bytes ≡ [] = drop_all at bytes all in
    let rest = subst (λ (l : List ℕ). AddsLines user (logical_lines bytes) (lines_from a l) Nothing x) none h.adds in
    adds_all user bytes y (adds_then user (logical_lines bytes) last [] Nothing x y (subst (λ (l : List (Option (List ℕ))). AddsLines user (logical_lines bytes) l Nothing x) is rest) k)
