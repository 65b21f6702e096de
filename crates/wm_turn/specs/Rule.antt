-- What holds of a turnstile between any two steps.
-- Its words are `ticket`, the next number to draw, `serving`, the number whose turn it is, `count`, how many entries there are, and `failed`, which is 0 or 1.
use Rattle.std.specs.Prelude.{◌≡◌, ◌≢◌, ◌⊎◌, ℕ, ◌+◌, ◌%◌, ◌^◌, ◌<◌, ◌≤◌, Bool, true, false, cond, List, [], ◌∷◌, length, slice_index, Option, Some}
use mathlib.Core.Option.{some, none}
use lib.ListN.{get_elem?}
use Rattle.atomic_table.specs.Table.{State}
use Rattle.wm_turn.specs.declared.view.View.{View}
use Rattle.wm_turn.specs.declared.view.Stage.TheVariants.{Idle, Turn}
use Rattle.wm_turn.specs.Passed.{StartsWith, own}
use Rattle.wm_turn.specs.Views.{ticket_of, is_live, has_ticket}

-- how many pass the test
abbrev pub how_many : {A : Type 0} → (A → Bool) → List A → ℕ
how_many test [] = 0
how_many test (x ∷ xs) = cond (test x) 1 0 + how_many test xs

module _ {O E : Type 0} where
  -- the tickets in views are those from the one that is served to just below the next, each in one view
  pub record InLine (views : List (View O E)) (now next : ℕ) : Type 0 where
    pub drawn : now + how_many has_ticket views ≡ next
    pub within : (j : ℕ) (v : View O E) (t : ℕ) → get_elem? views j ≡ some v → ticket_of v.stage ≡ Some t → (now ≤ t) × (t < next)
    pub apart : (i j : ℕ) (v w : View O E) (t : ℕ) → get_elem? views i ≡ some v → ticket_of v.stage ≡ Some t → get_elem? views j ≡ some w → ticket_of w.stage ≡ Some t → i ≡ j

-- the words of a history of this many entries, where now is served and next is the next to draw, counted modulo 2 to the 64
pub record Shows (words : List ℕ) (entries now next : ℕ) : Type 0 where
  pub four : length words ≡ 4
  pub ticket : slice_index words 0 ≡ next % 2 ^ 64
  pub serving : slice_index words 1 ≡ now % 2 ^ 64
  pub count : slice_index words 2 ≡ entries
  pub failed : slice_index words 3 ≤ 1

module _ {O E : Type 0} (by : E → ℕ) (first : O) (history : List E) where
  -- a view that isn't spent has its own number, the opening value, and its own entries, all of which it has seen
  pub record Tells (j : ℕ) (v : View O E) : Type 0 where
    pub number : v.number ≡ j
    pub opening : v.opening ≡ Some first
    pub mine : v.mine ≡ own by j history
    pub within : v.mine ≡ own by j v.seen

  -- what each view knows: a prefix of the history, and with it what it had seen before its last join and what the other had; that `failed` is 1
  -- where its mark isn't 0; and where it has its turn, that its ticket is served, the whole history and the word `failed`
  pub record Fits (now failed : ℕ) (j : ℕ) (v : View O E) : Type 0 where
    pub seen : StartsWith history v.seen
    pub before : StartsWith v.seen v.before
    pub beside : StartsWith v.seen v.beside
    pub marked : v.mark ≢ 0 → failed ≡ 1
    pub live : is_live v ≡ true → Tells j v
    pub idle : is_live v ≡ false → v.stage ≡ Idle
    pub turn : (t mark known : ℕ) → v.stage ≡ Turn t mark known → (t ≡ now) × (v.seen ≡ history) × (known ≡ failed)

  -- pass 0 knows how many passes were made, and of each that was joined its number and its entries
  pub record Roll (views : List (View O E)) (zero : View O E) : Type 0 where
    pub live : is_live zero ≡ true
    pub made : length views ≡ zero.made + 1
    pub room : zero.made < 2 ^ 32
    pub out : length zero.joined + how_many is_live views ≡ length views
    pub joined : (i n : ℕ) (mine : List E) → get_elem? zero.joined i ≡ some (n, mine) → (mine ≡ own by n history) × ((w : View O E) × (get_elem? views n ≡ some w) × (is_live w ≡ false))
    pub kept : (j : ℕ) (v : View O E) → get_elem? views j ≡ some v → is_live v ≡ false → (i : ℕ) × (get_elem? zero.joined i ≡ some (j, own by j history))

module _ {X O E : Type 0} where
  -- the slot is out, and a view has its turn
  pub record IsOut (homes : List (mathlib.Core.Option.Option (Option X))) (views : List (View O E)) : Type 0 where
    pub away : homes ≡ none ∷ []
    pub seat : ℕ
    pub view : View O E
    pub here : get_elem? views seat ≡ some view
    pub turn : (t : ℕ) × (m : ℕ) × (f : ℕ) × (view.stage ≡ Turn t m f)

module _ {X O E : Type 0} (opening : X → O) (stands : X → List E) (mark : X → ℕ) where
  -- a value is at home, which stands for the history and whose mark isn't 0 where `failed` is 1, and no view has its turn
  pub record AtHome (first : O) (history : List E) (failed : ℕ) (homes : List (mathlib.Core.Option.Option (Option X))) (views : List (View O E)) : Type 0 where
    pub value : X
    pub home : homes ≡ some (Some value) ∷ []
    pub opens : opening value ≡ first
    pub whole : stands value ≡ history
    pub marked : failed ≡ 1 → mark value ≢ 0
    pub free : (j : ℕ) (v : View O E) (t m f : ℕ) → get_elem? views j ≡ some v → v.stage ≡ Turn t m f → ⊥

  module _ (by : E → ℕ) (fact : O → List E → Type 0) (first : O) where
    -- the rule
    pub record Ruled (s : State (Option X) (View O E)) : Type 0 where
      pub history : List E
      pub now : ℕ
      pub next : ℕ
      pub words : Shows s.words (length history) now next
      pub line : InLine s.views now next
      pub fits : (j : ℕ) (v : View O E) → get_elem? s.views j ≡ some v → Fits by first history now (slice_index s.words 3) j v
      pub zero : View O E
      pub zero_here : get_elem? s.views 0 ≡ some zero
      pub roll : Roll by first history s.views zero
      pub unmade : (n : ℕ) → length s.views ≤ n → own by n history ≡ []
      pub whole : (j : ℕ) × (v : View O E) × (get_elem? s.views j ≡ some v) × (is_live v ≡ true) × (v.seen ≡ history)
      pub met : fact first history
      pub slot : AtHome first history (slice_index s.words 3) s.homes s.views ⊎ IsOut s.homes s.views
