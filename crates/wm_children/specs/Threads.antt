-- The threads that wait for children.
use Rattle.std.specs.Prelude.{ℕ, ◌+◌, nat_lt, if◌then◌else◌}

-- how many threads wait once so many children are out: one more than before where none of them is idle
abbrev pub threads_after : ℕ → ℕ → ℕ
threads_after out threads = if nat_lt threads out then threads + 1 else threads
