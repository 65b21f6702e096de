-- How a text is written beside that of the base.
use Rattle.std.specs.Prelude.{◌≡◌, ℕ, ◌<◌, ◌≤◌, List, [], ◌∷◌, ◌++◌, length, take}
use Rattle.wm_outside.specs.declared.memory.sign.TextSign.{TextSign}
use Rattle.wm_outside.specs.declared.memory.sign.TextSign.TheVariants.{Own, Kept, Passed}
use Rattle.wm_traits.specs.declared.row.RowChange.{RowChange}
use Rattle.wm_outside.specs.ChangeLog.{Reading}

-- how many bytes of the text a sign says
abbrev pub said_by : TextSign → ℕ
said_by (Own byte) = 1
said_by (Kept count) = count
said_by (Passed count) = 0

-- how many bytes of the base it goes on
abbrev pub taken_by : TextSign → ℕ
taken_by (Own byte) = 0
taken_by (Kept count) = count
taken_by (Passed count) = count

-- a sign says the first bytes of a text beside what is ahead of the base, or goes on there
abbrev pub IsNext : List ℕ → List ℕ → TextSign → Type 0
IsNext text ahead (Own byte) = take 1 text ≡ byte ∷ []
IsNext text ahead (Kept count) = (0 < count) × (count ≤ length text) × (count ≤ length ahead) × (take count text ≡ take count ahead)
IsNext text ahead (Passed count) = (0 < count) × (count ≤ length ahead)

-- a reading with these bytes of its text, and this of the base ahead
abbrev pub with_text : Reading → List ℕ → List ℕ → Reading
with_text r text ahead = record r { text = text; ahead = ahead }

-- a reading of a change of this table
abbrev pub with_tab : Reading → ℕ → Reading
with_tab r tab = record r { tab = tab }

-- a list begins with another
abbrev pub StartsWith : List ℕ → List ℕ → Type 0
StartsWith bytes first = take (length first) bytes ≡ first

-- a reading with one more change of its call
abbrev pub with_change : Reading → RowChange → Reading
with_change r change = record r { changes = r.changes ++ change ∷ [] }

-- a reading with more changes of its call
abbrev pub with_changes : Reading → List RowChange → Reading
with_changes r changes = record r { changes = r.changes ++ changes }
