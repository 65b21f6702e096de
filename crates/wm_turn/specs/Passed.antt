-- What a contract sees of a turnstile's pass, and the words on histories that clauses use.
use Rattle.std.specs.Prelude.{◌≡◌, ◌⊎◌, ℕ, ◌+◌, ◌-◌, ◌<◌, ◌≤◌, max, ◌==◌, if◌then◌else◌, leb, List, [], ◌∷◌, ◌++◌, length, drop, filter, Option, Some, None}
use mathlib.Core.Option.{some}
use lib.ListN.{get_elem?}
use Rattle.atomic_table.specs.Seated.{TableId}

module _ {E : Type 0} where
  -- the list begins with these entries
  abbrev pub StartsWith : List E → List E → Type 0
  StartsWith history front = (rest : List E) × (history ≡ front ++ rest)

  -- the longer of two lists, the second where they are as long
  abbrev pub longer : List E → List E → List E
  longer a b = if leb (length a) (length b) then b else a

  -- the entries of a history that the pass of this number made
  abbrev pub own : (E → ℕ) → ℕ → List E → List E
  own by number history = filter (λ entry. by entry == number) history

-- the greatest mark
abbrev pub greatest : ℕ
greatest = 18446744073709551615

-- the mark of a pass in whose turn the value's mark went from `before` to `after`: it rises by as much, or to the greatest mark
abbrev pub risen : ℕ → ℕ → ℕ → ℕ
risen mark before after = if after == greatest then max mark greatest else mark + (after - before)

-- the mark of a pass after its turn, if it had one
abbrev pub mark_after : Option ℕ → ℕ → ℕ → ℕ
mark_after None mark after = mark
mark_after (Some before) mark after = risen mark before after

-- the list is the one that was seen, or that one and one entry of the pass of this number
abbrev pub Grows : {E : Type 0} → (E → ℕ) → ℕ → List E → List E → Type 0
Grows {E} by number seen list = (list ≡ seen) ⊎ ((entry : E) × (by entry ≡ number) × (list ≡ seen ++ entry ∷ []))

-- a pass: its turnstile and number, the opening value, what it has seen of the history, its own entries, its mark,
-- the value's mark as its turn began, if it has the turn, and, for pass 0, how many passes were made from it, and of each that was joined its number and its entries
pub record Passed (O E : Type 0) : Type 0 where
  pub turnstile : TableId
  pub number : ℕ
  pub opening : Option O
  pub seen : List E
  pub mine : List E
  pub mark : ℕ
  pub turn : Option ℕ
  pub made : ℕ
  pub joined : List (ℕ × List E)

module _ {O E : Type 0} where
  -- a new pass of this number, which has seen this
  abbrev pub fresh : TableId → ℕ → Option O → List E → Passed O E
  fresh turnstile number opening seen = record { turnstile = turnstile; number = number; opening = opening; seen = seen; mine = []; mark = 0; turn = None; made = 0; joined = [] }

  -- the pass in its turn, once it has seen this list, with this mark of the value
  abbrev pub begun : List E → ℕ → Passed O E → Passed O E
  begun list mark p = record p { seen = list; turn = Some mark }

  -- the pass after its turn: it has seen this list, of which it made what is new, and its mark has risen as the value's did
  abbrev pub ended : List E → ℕ → Passed O E → Passed O E
  ended list mark p = record p { seen = list; mine = p.mine ++ drop (length p.seen) list; mark = mark_after p.turn p.mark mark; turn = None }

  -- one more was made from it
  abbrev pub parent : Passed O E → Passed O E
  parent p = record p { made = p.made + 1 }

  -- the one that was made from it
  abbrev pub child : Passed O E → Passed O E
  child p = fresh p.turnstile (p.made + 1) p.opening p.seen

  -- the pass with another joined to it: the longer list, the greater mark, and the other's number and entries
  abbrev pub joining : Passed O E → Passed O E → Passed O E
  joining other p = record p { seen = longer p.seen other.seen; mark = max p.mark other.mark; joined = p.joined ++ (other.number, other.mine) ∷ [] }

module _ {E : Type 0} where
  -- each pass that was joined has the entries of its number
  abbrev pub HasOwn : (E → ℕ) → List E → List (ℕ × List E) → Type 0
  HasOwn by history joined = (i n : ℕ) (mine : List E) → get_elem? joined i ≡ some (n, mine) → mine ≡ own by n history

  -- each number from 1 to `made` was joined, and no entry has a later one
  abbrev pub HasAll : (E → ℕ) → List E → ℕ → List (ℕ × List E) → Type 0
  HasAll by history made joined = ((n : ℕ) → 0 < n → n ≤ made → (i : ℕ) × (get_elem? joined i ≡ some (n, own by n history)))
      × ((n : ℕ) → made < n → own by n history ≡ [])
