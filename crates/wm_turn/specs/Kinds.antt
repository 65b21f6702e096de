-- The kinds of step, each as what it tells the seat that steps. A seat is a view and the slots that are out with it.
use Rattle.std.specs.Prelude.{◌≡◌, ◌≢◌, ℕ, ◌+◌, ◌%◌, ◌^◌, ◌≤◌, true, List, [], ◌∷◌, ◌++◌, length, Option, Some}
use Rattle.atomic_table.specs.Table.{Step}
use Rattle.wm_turn.specs.declared.view.View.{View}
use Rattle.wm_turn.specs.declared.view.Stage.TheVariants.{Idle, Waiting, Turn}
use Rattle.wm_turn.specs.Passed.{StartsWith, own, risen}
use Rattle.wm_turn.specs.Views.{Seated, is_live, at_stage, seeing, with_entry, with_mark}

module _ {X O E : Type 0} where
  -- draw, a fetch_add on `ticket`: the seat has the ticket that it found
  abbrev pub Draws : Step (Option X) → Seated X O E → ℕ → Seated X O E → Type 0
  Draws st me found after = (t : ℕ) × (found ≡ t % 2 ^ 64) × (after ≡ (at_stage (Waiting t) me.0, me.1))

  -- check, a load of `failed`: the seat, which has its turn, knows the word
  abbrev pub Checks : Step (Option X) → Seated X O E → ℕ → Seated X O E → Type 0
  Checks st me found after = (after ≡ me) × ((t m f : ℕ) → me.0.stage ≡ Turn t m f → found ≡ f)

  -- read, a load of `count`: the seat, which has its turn, has seen all entries
  abbrev pub Reads : Step (Option X) → Seated X O E → ℕ → Seated X O E → Type 0
  Reads st me found after = (after ≡ me) × (found ≡ length me.0.seen)

  module _ (opening : X → O) (stands : X → List E) (mark : X → ℕ) where
    -- the turn begins: the slot is out with the seat, the value in it stands for all of the history, which begins with what the seat had seen;
    -- the seat has seen it, and knows the value's mark and the word `failed`
    abbrev pub Begins : ℕ → Seated X O E → Seated X O E → Type 0
    Begins t me after = (value : X) × (failed : ℕ) × (after ≡ (seeing (stands value) (Turn t (mark value) failed) me.0, (0, Some value) ∷ []))
        × StartsWith (stands value) me.0.seen × (me.0.opening ≡ Some (opening value)) × (failed ≡ 1 → mark value ≢ 0)

    -- look, a load of `serving`: the seat has its turn where the word is its ticket
    abbrev pub Looked : Seated X O E → ℕ → Seated X O E → Type 0
    Looked me found after = (t : ℕ) → me.0.stage ≡ Waiting t → (found ≢ t % 2 ^ 64 → after ≡ me) × (found ≡ t % 2 ^ 64 → Begins t me after)

    abbrev pub Looks : Step (Option X) → Seated X O E → ℕ → Seated X O E → Type 0
    Looks st = Looked

    -- enter an entry, a fetch_add on `count`: what the seat has seen and its own entries grow by the last entry of the value in its slot
    abbrev pub Enters : Step (Option X) → Seated X O E → ℕ → Seated X O E → Type 0
    Enters st me found after = (value : X) (entry : E) → me.1 ≡ (0, Some value) ∷ [] → stands value ≡ me.0.seen ++ entry ∷ [] → after ≡ (with_entry entry me.0, me.1)

    -- mark, a fetch_or of 1 on `failed`: the seat's mark rises as the value's did in this turn, and it knows the word
    abbrev pub Marks : Step (Option X) → Seated X O E → ℕ → Seated X O E → Type 0
    Marks st me found after = (value : X) (t m f : ℕ) → me.1 ≡ (0, Some value) ∷ [] → me.0.stage ≡ Turn t m f → after ≡ (with_mark (risen me.0.mark m (mark value)) (Turn t m 1) me.0, me.1)

  -- pass on, a fetch_add on `serving`: the slot goes home, and the seat has neither ticket nor turn
  abbrev pub PassesOn : Step (Option X) → Seated X O E → ℕ → Seated X O E → Type 0
  PassesOn st me found after = after ≡ (at_stage Idle me.0, [])

module _ {O E : Type 0} (by : E → ℕ) (fact : O → List E → Type 0) where
  -- what a view knows: what it has seen begins with what it and the other had seen before its last join, meets the fact, and has all of its own entries;
  -- and pass 0 has joined no more passes than were made from it
  pub record Recalled (v : View O E) : Type 0 where
    pub before : StartsWith v.seen v.before
    pub beside : StartsWith v.seen v.beside
    pub met : (first : O) → v.opening ≡ Some first → fact first v.seen
    pub mine : is_live v ≡ true → v.mine ≡ own by v.number v.seen
    pub out : is_live v ≡ true → v.number ≡ 0 → length v.joined ≤ v.made

  -- recall, a load of any word: the seat tells what it knows
  abbrev pub Recalls : {X : Type 0} → Step (Option X) → Seated X O E → ℕ → Seated X O E → Type 0
  Recalls st me found after = (after ≡ me) × Recalled me.0
