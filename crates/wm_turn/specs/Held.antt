-- What a pass keeps beside its seat.
use Rattle.std.specs.Prelude.{◌≡◌, ◌≢◌, ℕ, ◌+◌, true, List, [], ◌∷◌, length, Option, Some, None}
use Rattle.atomic_table.specs.Seated.{TableId}
use Rattle.wm_turn.specs.declared.view.Stage.{Stage}
use Rattle.wm_turn.specs.declared.view.Stage.TheVariants.{Idle, Waiting, Turn}
use Rattle.wm_turn.specs.Views.{Seated, is_live}

-- a table of a turnstile: four words and one slot
abbrev pub IsTable : TableId → Type 0
IsTable table = (table.words ≡ 4) × (table.slots ≡ 1)

-- the seat is one of this table
abbrev pub Belongs : TableId → TableId → Type 0
Belongs seat table = (seat ≡ table) × (table.words ≡ 4) × (table.slots ≡ 1)

-- the value's mark as the turn began, if the pass has its turn
abbrev pub turn_of : Stage → Option ℕ
turn_of Idle = None
turn_of (Waiting ticket) = None
turn_of (Turn ticket before failed) = Some before

module _ {X : Type 0} where
  -- outside a turn nothing is out with the seat; in a turn its slot is out and empty, `count` is how many entries were read,
  -- and where the word `failed` is 1 the value's mark wasn't 0 as the turn began
  abbrev pub Stands : Stage → List (ℕ × Option X) → ℕ → ℕ → Type 0
  Stands Idle slots seen count = slots ≡ []
  Stands (Waiting ticket) slots seen count = ⊥
  Stands (Turn ticket before failed) slots seen count = (slots ≡ (0, None) ∷ []) × (count ≡ seen) × (failed ≡ 1 → before ≢ 0)

module _ {X O E : Type 0} where
  -- the seat is live and has the pass's numbers, of which `out` counts the passes that were made from it and not joined
  pub record Holds (me : Seated X O E) (number made out count : ℕ) : Type 0 where
    pub live : is_live me.0 ≡ true
    pub number_is : me.0.number ≡ number
    pub made_is : me.0.made ≡ made
    pub out_is : out + length me.0.joined ≡ made
    pub stands : Stands me.0.stage me.1 (length me.0.seen) count
