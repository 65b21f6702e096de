-- How the log of a keeper in memory is read. A call's rows are written beside one row of the calls before it, their base:
-- what a key or a body shares with that of the base is told by how many bytes it is.
use Rattle.std.specs.Prelude.{◌≡◌, ℕ, ◌+◌, ◌*◌, ◌%◌, List, [], ◌∷◌, ◌++◌, fold, take, drop}
use Rattle.wm_outside.specs.declared.memory.sign.Sign.{Sign}
use Rattle.wm_outside.specs.declared.memory.sign.Sign.TheVariants.{Text, Digit, KeyEnds, Put, Deleted, CallEnds}
use Rattle.wm_outside.specs.declared.memory.sign.TextSign.{TextSign}
use Rattle.wm_outside.specs.declared.memory.sign.TextSign.TheVariants.{Own, Kept, Passed}
use Rattle.wm_traits.specs.declared.row.Row.{Row}
use Rattle.wm_traits.specs.declared.row.RowChange.{RowChange}
use Rattle.wm_traits.specs.declared.row.RowChange.TheVariants.{Put as put_of, Del}
use Rattle.wm_outside.specs.Signs.{sign_of}

-- how far a log has been read
pub record Reading : Type 0 where
  -- the row beside which the call's rows stand
  pub base : Row
  -- what is still to come of its key, or behind the key of its body
  pub ahead : List ℕ
  -- the change that is being read: its table, its key once that has ended, and the bytes since
  pub tab : ℕ
  pub key : List ℕ
  pub text : List ℕ
  -- the changes of the call so far, and those of the calls before it
  pub changes : List RowChange
  pub calls : List (List RowChange)

-- nothing is read yet of the next change
abbrev pub between : Row → List RowChange → List (List RowChange) → Reading
between base changes calls = record { base = base; ahead = base.key; tab = 0; key = []; text = []; changes = changes; calls = calls }

-- the base of the rows behind a call: the first row that it puts, if it puts one
abbrev pub base_after : List RowChange → Row → Row
base_after [] base = base
base_after (put_of row ∷ changes) base = row
base_after (Del tab key ∷ changes) base = base_after changes base

-- one sign further in a text
abbrev pub reads_text : Reading → TextSign → Reading
reads_text r (Own byte) = record r { text = r.text ++ byte ∷ [] }
reads_text r (Kept count) = record r { text = r.text ++ take count r.ahead; ahead = drop count r.ahead }
reads_text r (Passed count) = record r { ahead = drop count r.ahead }

-- one sign further
abbrev pub reads : Reading → Sign → Reading
reads r (Text sign) = reads_text r sign
reads r (Digit digit) = record r { tab = r.tab % 16 * 16 + digit % 16 }
reads r KeyEnds = record r { key = r.text; text = []; ahead = r.base.body }
reads r Put = between r.base (r.changes ++ put_of (record { tab = r.tab; key = r.key; body = r.text }) ∷ []) r.calls
reads r Deleted = between r.base (r.changes ++ Del r.tab r.text ∷ []) r.calls
reads r CallEnds = between (base_after r.changes r.base) [] (r.calls ++ r.changes ∷ [])

-- the base of the first call
abbrev pub no_row : Row
no_row = record { tab = 0; key = []; body = [] }

-- a whole log
unfoldable pub read : List ℕ → Reading
read bytes = fold (λ r byte. reads r (sign_of byte)) (between no_row [] []) bytes

-- nothing is read yet of the next change of a call, whose base this is
abbrev pub IsBetween : Row → Reading → Type 0
IsBetween base r = r ≡ between base r.changes r.calls

-- no call is being read
abbrev pub IsAtEnd : Row → Reading → Type 0
IsAtEnd base r = r ≡ between base [] r.calls
