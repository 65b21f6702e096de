-- What the cases say of notes and passes.
use Rattle.std.specs.Prelude.{◌≡◌, ℕ, ◌+◌, length, None, Some}
use Rattle.atomic_table.specs.Seated.{TableId}
use Rattle.wm_turn.specs.Passed.{Passed}
use Rattle.wm_test_parts.specs.declared.turns.counter.Note.{Note}

-- whose the note is
abbrev pub noted_by : Note → ℕ
noted_by note = note.by

-- the pass is one of this turnstile, is outside a turn, and its opening value is the counter's
abbrev pub IsReady : TableId → Passed ℕ Note → Type 0
IsReady table pass = (pass.turnstile ≡ table) × (pass.turn ≡ None) × (pass.opening ≡ Some 0)

-- as many passes are out afterwards as before
abbrev pub IsEven : Passed ℕ Note → Passed ℕ Note → Type 0
IsEven before after = (after.number ≡ before.number) × (after.made + length before.joined ≡ before.made + length after.joined)
