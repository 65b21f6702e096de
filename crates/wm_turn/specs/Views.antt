-- What a seat knows, and how a split and a join change it.
use Rattle.std.specs.Prelude.{◌≡◌, ℕ, ◌+◌, max, Bool, true, false, is_some, List, [], ◌∷◌, ◌++◌, length, drop, Option, Some, None}
use Rattle.atomic_table.specs.Table.{Me}
use Rattle.wm_turn.specs.declared.view.View.{View}
use Rattle.wm_turn.specs.declared.view.Stage.{Stage}
use Rattle.wm_turn.specs.declared.view.Stage.TheVariants.{Idle, Waiting, Turn}
use Rattle.wm_turn.specs.Passed.{longer, risen}

-- a seat of a turnstile: its view, and the slot that is out with it
abbrev pub Seated : Type 0 → Type 0 → Type 0 → Type 0
Seated X O E = Me (Option X) (View O E)

-- the ticket of a stage
abbrev pub ticket_of : Stage → Option ℕ
ticket_of Idle = None
ticket_of (Waiting ticket) = Some ticket
ticket_of (Turn ticket before failed) = Some ticket

-- the value's mark as the turn began, in a turn
abbrev pub before_of : Stage → ℕ
before_of Idle = 0
before_of (Waiting ticket) = 0
before_of (Turn ticket before failed) = before

-- the word `failed`, as a turn knows it
abbrev pub failed_of : Stage → ℕ
failed_of Idle = 0
failed_of (Waiting ticket) = 0
failed_of (Turn ticket before failed) = failed

-- the stage once `failed` is 1
abbrev pub flagged : Stage → Stage
flagged Idle = Idle
flagged (Waiting ticket) = Waiting ticket
flagged (Turn ticket before failed) = Turn ticket before 1

-- it is a turn
abbrev pub IsTurn : Stage → Type 0
IsTurn stage = (ticket : ℕ) × (before : ℕ) × (failed : ℕ) × (stage ≡ Turn ticket before failed)

module _ {O E : Type 0} where
  -- no other pass has taken this view in
  abbrev pub is_live : View O E → Bool
  is_live v = is_some v.opening

  -- it waits for its turn or has it
  abbrev pub has_ticket : View O E → Bool
  has_ticket v = is_some (ticket_of v.stage)

  -- the view at another stage
  abbrev pub at_stage : Stage → View O E → View O E
  at_stage stage v = record v { stage = stage }

  -- the view with the history seen, at another stage
  abbrev pub seeing : List E → Stage → View O E → View O E
  seeing history stage v = record v { seen = history; stage = stage }

  -- the view with one entry of its own more
  abbrev pub with_entry : E → View O E → View O E
  with_entry entry v = record v { seen = v.seen ++ entry ∷ []; mine = v.mine ++ entry ∷ [] }

  -- the view with another mark, at another stage
  abbrev pub with_mark : ℕ → Stage → View O E → View O E
  with_mark mark stage v = record v { mark = mark; stage = stage }

  -- the view once the list is this one, of which it made what is new
  abbrev pub entered : List E → View O E → View O E
  entered list v = record v { seen = list; mine = v.mine ++ drop (length v.seen) list }

  -- the view once the value's mark is this one, where it isn't 0
  abbrev pub noted : Bool → ℕ → View O E → View O E
  noted true after v = with_mark (risen v.mark (before_of v.stage) after) (flagged v.stage) v
  noted false after v = v

  -- the view after a turn
  abbrev pub done : List E → ℕ → View O E → View O E
  done list after v = record v { seen = list; mine = v.mine ++ drop (length v.seen) list; mark = risen v.mark (before_of v.stage) after; stage = Idle }

  -- the view of the first pass
  abbrev pub first_view : O → View O E
  first_view opening = record { opening = Some opening; number = 0; seen = []; mine = []; mark = 0; stage = Idle; made = 0; joined = []; before = []; beside = [] }

  -- a split: the first view counts one pass more
  abbrev pub parted : View O E → View O E
  parted v = record v { made = v.made + 1 }

  -- and the new view has the next number, has seen the same and has no entry
  abbrev pub offspring : View O E → View O E
  offspring v = record { opening = v.opening; number = v.made + 1; seen = v.seen; mine = []; mark = 0; stage = Idle; made = 0; joined = []; before = []; beside = [] }

  -- a join: the longer list and the greater mark, with the other's number and entries
  abbrev pub united : View O E → View O E → View O E
  united v w = record v { seen = longer v.seen w.seen; mark = max v.mark w.mark; joined = v.joined ++ (w.number, w.mine) ∷ []; before = v.seen; beside = w.seen }

  -- and the other view is spent
  abbrev pub spent : View O E
  spent = record { opening = None; number = 0; seen = []; mine = []; mark = 0; stage = Idle; made = 0; joined = []; before = []; beside = [] }
