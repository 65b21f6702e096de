-- The lines of a head: the request line, and 33 lines of fields.
use Rattle.std.specs.Prelude.{ℕ, zero, suc, ◌==◌, List, [], ◌∷◌, if◌then◌else◌}
use Rattle.httparse.specs.Pieces.{is_newline}

-- how many of the wanted lines a text lacks, and what stands behind those that it has
pub record Lines : Type 0 where
  pub lacks : ℕ
  pub rest : List ℕ

-- so many lines from here on, each with its line feed
abbrev pub lines_from : ℕ → List ℕ → Lines
lines_from zero text = record { lacks = 0; rest = text }
lines_from (suc n) [] = record { lacks = suc n; rest = [] }
lines_from (suc n) (byte ∷ text) = if byte == 10 then lines_from n text else lines_from (suc n) text

-- the same behind the line ends that stand before the request line
abbrev pub head_lines : List ℕ → Lines
head_lines [] = record { lacks = 34; rest = [] }
head_lines (byte ∷ text) = if is_newline byte then head_lines text else lines_from 34 (byte ∷ text)
