-- The ranges of the numbers between the words of a schedule and their moment.
use Rattle.std.specs.Prelude.{ℤ, pos, neg_ℤ, ◌≤ℤ◌}

-- a local time: from the first moment at the least offset to the last one at the greatest
abbrev pub IsLocal : ℤ → Type 0
IsLocal time = (neg_ℤ (pos 86340) ≤ℤ time) × (time ≤ℤ pos 253402300739)

-- a day on which a local time may lie: from 1969-12-31 to 9999-12-31
abbrev pub IsToday : ℤ → Type 0
IsToday day = (neg_ℤ (pos 1) ≤ℤ day) × (day ≤ℤ pos 2932896)

-- a day that a word may name: January 10000 follows the last of these
abbrev pub IsDay : ℤ → Type 0
IsDay day = (neg_ℤ (pos 1) ≤ℤ day) × (day ≤ℤ pos 2932927)
