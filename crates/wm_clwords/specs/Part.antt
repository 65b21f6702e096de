-- What a `Joiner` holds of a line.
use Rattle.std.specs.Prelude.{ℕ, Bool, true, false, not, List, [], ◌∷◌, ◌++◌, length, take, Option, Some, None, nat_lt, ◌==◌, ◌+◌, ◌-◌, ◌||◌, if◌then◌else◌}
use Rattle.wm_clwords.specs.Lines.{is_blank, is_empty, sign_byte, by_sign}
use Rattle.wm_clwords.specs.declared.line.Sign.{Sign}
use Rattle.wm_clwords.specs.declared.line.Sign.TheVariants.{No}
use Rattle.wm_clwords.specs.declared.line.LogicalLine.{LogicalLine}
use Rattle.wm_clwords.specs.declared.line.LogicalLine.TheVariants.{Command, Long}

pub record Part : Type 0 where
  -- the line's bytes so far, at most 8,193, or those of the line that was answered
  pub line : List ℕ
  -- how many of them stand before the blanks at the end
  pub solid : ℕ
  -- the sign that the physical line ends with so far
  pub sign : Sign
  -- a CR came last, and isn't among the bytes yet
  pub cr : Bool
  -- blanks are dropped, since a `+` came last
  pub skips : Bool
  -- more bytes came than a line can have
  pub long : Bool
  -- a sign came before
  pub joined : Bool
  -- the line was answered
  pub ended : Bool

-- nothing of a line
abbrev pub fresh : Part
fresh = record { line = []; solid = 0; sign = No; cr = false; skips = false; long = false; joined = false; ended = false }

-- an answered line gives way to the next
abbrev pub begun : Part → Part
begun part = if part.ended then fresh else part

-- a blank is kept where there is room
abbrev pub with_blank : Part → ℕ → Part
with_blank part byte = if part.skips || not (nat_lt (length part.line) 8193) then part else record part { line = part.line ++ byte ∷ [] }

-- another byte ends the blanks
abbrev pub with_solid : Part → ℕ → Part
with_solid part byte =
    if nat_lt (length part.line) 8193
    then record part { line = part.line ++ byte ∷ []; solid = length part.line + 1; sign = sign_byte byte; skips = false }
    else record part { sign = sign_byte byte; skips = false; long = true }

abbrev pub with_kept : Part → ℕ → Part
with_kept part byte = if is_blank byte then with_blank part byte else with_solid part byte

-- a CR that came is among the bytes after all
abbrev pub with_cr : Part → Part
with_cr part = if part.cr then with_solid (record part { cr = false }) 13 else part

-- a byte other than LF
abbrev pub with_byte : Part → ℕ → Part
with_byte part byte = if byte == 13 then record (with_cr part) { cr = true } else with_kept (with_cr part) byte

-- the physical line goes on with the next
abbrev pub joined_on : Part → Bool → Part
joined_on part skips = record part { line = take (part.solid - 1) part.line; solid = part.solid - 1; sign = No; skips = skips; joined = true }

-- the physical line ends
abbrev pub finished : Part → Part
finished part = by_sign part.sign (record part { line = take part.solid part.line; ended = true }) (joined_on part true) (joined_on part false)

-- a sign at the end of the input is dropped too
abbrev pub unsigned : Part → Part
unsigned part = by_sign part.sign part (joined_on part true) (joined_on part false)

-- what is answered where a physical line ends
abbrev pub answer : Part → Option LogicalLine
answer part = by_sign part.sign (Some (if part.long || nat_lt 8192 part.solid then Long else Command)) None None

-- whether the end of the input ends a line
abbrev pub has_rest : Part → Bool
has_rest part = part.joined || part.cr || not (is_empty part.line)

-- what an answer says of the lines
abbrev pub ended_lines : Option LogicalLine → Part → List (Option (List ℕ))
ended_lines None part = []
ended_lines (Some Command) part = Some part.line ∷ []
ended_lines (Some Long) part = None ∷ []

-- the part where the input ends
abbrev pub at_end : Part → Part
at_end part = unsigned (with_cr (begun part))

-- the part where a physical line ends
abbrev pub at_line_feed : Part → Part
at_line_feed part = record (begun part) { cr = false }

-- the lines that end in the bytes that come, or with the input after them
abbrev pub lines_from : Part → List ℕ → List (Option (List ℕ))
lines_from part [] = if has_rest (begun part) then ended_lines (answer (at_end part)) (finished (at_end part)) else []
lines_from part (byte ∷ bytes) =
    if byte == 10
    then ended_lines (answer (at_line_feed part)) (finished (at_line_feed part)) ++ lines_from (finished (at_line_feed part)) bytes
    else lines_from (with_byte (begun part) byte) bytes
