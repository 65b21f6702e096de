-- Why a load or an apply fails, but for want of memory.
use Rattle.std.specs.Prelude.{◌≡◌, ◌⊎◌, ℕ, ◌<◌, ◌≤◌, pos, zero, suc, true, List, [], ◌∷◌, ◌++◌, slice_get, Some, Result, Ok, Err, IsTrue, codes}
use Rattle.wm_base.specs.Text.{IsText}
use Rattle.wm_traits.specs.declared.fault.KeepFault.TheVariants.{Failed}
use Rattle.wm_traits.specs.declared.row.Row.{Row}
use Rattle.wm_traits.specs.declared.row.RowChange.{RowChange}
use Rattle.wm_traits.specs.declared.row.RowChange.TheVariants.{Put, Del}
use Rattle.sqlite.specs.Store.{Ghosts}
use Rattle.sqlite.specs.declared.error.Error.{Error}
use Rattle.sqlite.specs.declared.types.Value.{Value}
use Rattle.sqlite.specs.declared.types.Value.TheVariants.{Int, Text}
use Rattle.sqlite.specs.Order.{Row as SqlRow, column}
use Rattle.sqlite.specs.State.{IsUnchanged, FailsToQuery, Begins, ExecutesInside}
use Rattle.sqlite.specs.Steps.{FailsToCommit}
use Rattle.sqlite.specs.Held.{Held, state}
use Rattle.sqlite.specs.Given.{Advances, FailsToAdvance}
use Rattle.wm_sqlkeep.specs.Errors.{keep_fault}

-- an error that is a fault, and no want of memory
abbrev pub IsFault : Error → Type 0
IsFault e = keep_fault e ≡ Failed

-- a value is the number of a table
abbrev pub IsTab : Value → Type 0
IsTab (Int (pos n)) = n < 256
IsTab _ = ⊥

-- a value is a text of the store
abbrev pub IsWords : Value → Type 0
IsWords (Text bytes) = IsText bytes
IsWords _ = ⊥

-- three columns make a row
pub record MakesRow (row : SqlRow) : Type 0 where
  pub tab : IsTab (column row 0)
  pub key : IsWords (column row 1)
  pub body : IsWords (column row 2)

abbrev pub load_text : List ℕ
load_text = codes "SELECT tab, k, body FROM wmrow ORDER BY tab, k"

module _ {S : Type 0} (g : Ghosts S) (old new : Held S) where
  -- it is the connection that it was, or shows what that did, and no failure of the disk is forgotten
  abbrev pub IsLater : Type 0
  IsLater = (new ≡ old) ⊎ (IsUnchanged (state g old) (state g new) × ((state g old).faults ≤ (state g new).faults))

  -- SQLite gives one more row
  abbrev pub Gives : SqlRow → Type 0
  Gives row = Advances g old new (Some row) × IsUnchanged (state g old) (state g new)

  -- SQLite fails to give a row, or gives one that makes none of the store's
  abbrev pub FailsToGive : Type 0
  FailsToGive = ((e : Error) × IsFault e × FailsToAdvance g old new e) ⊎ ((row : SqlRow) × Gives row × ¬ MakesRow row)

module _ {S : Type 0} (g : Ghosts S) (old new : Held S) where
  -- SQLite fails at the query, or an answer has a row that makes none of the store's
  abbrev pub FailsToLoad : Type 0
  FailsToLoad =
      ((e : Error) × IsFault e × (mid : Held S) × IsLater g old mid × FailsToQuery load_text [] (state g mid) (state g new) e)
      ⊎ ((rows : List SqlRow) × (last : SqlRow) × Begins load_text [] (state g new) (rows ++ last ∷ []) × ¬ MakesRow last)

-- the statement of a change
abbrev pub text_of : RowChange → List ℕ
text_of (Put row) = codes "INSERT INTO wmrow (tab, k, body) VALUES (?1, ?2, ?3) ON CONFLICT (tab, k) DO UPDATE SET body = excluded.body"
text_of (Del tab key) = codes "DELETE FROM wmrow WHERE tab = ?1 AND k = ?2"

-- the columns of a row of the store
abbrev pub columns_of : Row → SqlRow
columns_of row = Int (pos row.tab) ∷ Text row.key ∷ Text row.body ∷ []

-- and those of a change
abbrev pub params_of : RowChange → SqlRow
params_of (Put row) = columns_of row
params_of (Del tab key) = Int (pos tab) ∷ Text key ∷ []

module _ {S : Type 0} (g : Ghosts S) where
  -- what SQLite answers to the change in a transaction
  abbrev pub Runs : RowChange → Held S → Held S → Result ℕ Error → Type 0
  Runs change old new answer = ExecutesInside 0 (text_of change) (params_of change) (state g old) (state g new) answer

  -- it makes the change
  abbrev pub Makes : RowChange → Held S → Held S → Type 0
  Makes change old new = (count : ℕ) × Runs change old new (Ok count)

  -- it refuses the change, or fails at it
  abbrev pub FailsToMake : RowChange → Held S → Held S → Type 0
  FailsToMake change old new = (e : Error) × IsFault e × Runs change old new (Err e)

  -- the first changes, so many, were made in their order
  abbrev pub AreMade : List RowChange → ℕ → Held S → Held S → Type 0
  AreMade changes zero old new = new ≡ old
  AreMade changes (suc n) old new = (mid : Held S) × AreMade changes n old mid × (change : RowChange) × (slice_get changes n ≡ Some change) × Makes change mid new

  -- a transaction was open before, or SQLite fails at a change that the ones before lead to, or at the commit
  abbrev pub FailsToApply : List RowChange → Held S → Held S → Type 0
  FailsToApply changes old new =
      IsTrue old.in_transaction
      ⊎ ((n : ℕ) × (mid : Held S) × AreMade changes n (record old { in_transaction = true }) mid
      × (((last : Held S) × (change : RowChange) × (slice_get changes n ≡ Some change) × FailsToMake change mid last × ((state g last).faults ≤ (state g new).faults))
      ⊎ ((e : Error) × IsFault e × FailsToCommit (state g mid) (state g new) e)))
