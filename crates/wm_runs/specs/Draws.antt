-- The numbers that a drill draws from its seed.
use Rattle.std.specs.Prelude.{ℕ, ◌+◌, ◌*◌, ◌/◌, ◌%◌, ◌^◌}

-- the number that follows a number
abbrev pub next_draw : ℕ → ℕ
next_draw x = (x * 6364136223846793005 + 1442695040888963407) % 2 ^ 64

-- a number below n, from the upper 31 bits of what was drawn
abbrev pub drawn_below : ℕ → ℕ → ℕ
drawn_below n x = x / 2 ^ 33 % n
