-- The text of a drill is short.
use Rattle.std.proofs.Common.{ℕ, zero, suc, ◌+◌, ◌-◌, ◌*◌, ◌/◌, ◌%◌, ◌<◌, ◌≤◌, ◌^◌, List, [], ◌∷◌, ◌++◌, length, codes, replicate, arith}
use Rattle.std.specs.Fmt.{decimal}
use Rattle.std.specs.List.{flat_map}
use Rattle.std.proofs.Math.Nat.{mod-lt}
use Rattle.std.proofs.lemmas.Fmt.{length-decimal-le}
use Rattle.std.proofs.lemmas.List.{length-append, length-replicate}
use Rattle.wm_base.specs.Number.{zero_padded}
use Rattle.wm_runs.specs.Draws.{drawn_below, next_draw}
use Rattle.wm_runs.specs.Text.{drill_text, job_command, job_line, job_lines, line_of, setup_lines}

number_short : (n : ℕ) → n < 2 ^ 64 → length (decimal n) ≤ 20
number_short n h = length-decimal-le 20 n (omega arith) (omega (arith, h)) h

padded_short : (n : ℕ) → n < 2 ^ 64 → length (zero_padded 2 n) ≤ 22
unfolding zero_padded
padded_short n h =
    let whole = length-append (replicate (2 - length (decimal n)) 48) (decimal n) in
    let zeros = length-replicate {A = ℕ} (2 - length (decimal n)) 48 in
    let short = number_short n h in
    omega (arith, whole, zeros, short)

joined : (a b : List ℕ) (m n : ℕ) → length a ≤ m → length b ≤ n → length (a ++ b) ≤ m + n
joined a b m n h k =
    let whole = length-append a b in
    omega (arith, whole, h, k)

command_short : (i queue pty : ℕ) → i < 2 ^ 32 → queue < 2 ^ 32 → pty < 2 ^ 32 → length (job_command i queue pty) ≤ 180
command_short i queue pty h k l =
    let a : length (decimal i) ≤ 20 = number_short i (omega (arith, h)) in
    let ending : i % 100 < 100 = mod-lt i (omega arith) in
    let b : length (zero_padded 2 (i % 100)) ≤ 22 = padded_short (i % 100) (omega (arith, ending)) in
    let c : length (decimal queue) ≤ 20 = number_short queue (omega (arith, k)) in
    let d : length (decimal pty) ≤ 20 = number_short pty (omega (arith, l)) in
    joined (codes "SBMJOB CMD(CALL PGM(ECHO) PARM('") _ 40 140 (omega arith)
    (joined (decimal i) _ 20 120 a
    (joined (codes "')) JOB(J") _ 10 110 (omega arith)
    (joined (zero_padded 2 (i % 100)) _ 22 88 b
    (joined (codes ") JOBQ(Q") _ 10 78 (omega arith)
    (joined (decimal queue) _ 20 58 c
    (joined (codes ") JOBPTY(") _ 10 48 (omega arith)
    (joined (decimal pty) (codes ")") 20 28 d (omega arith))))))))

drawn_short : (n x : ℕ) → 0 < n → n < 100 → 1 + drawn_below n x < 2 ^ 32
drawn_short n x some few =
    let less : drawn_below n x < n = mod-lt (x / 2 ^ 33) some in
    omega (arith, less, few)

line_short : (i x : ℕ) → i < 2 ^ 32 → length (job_line i x) ≤ 181
line_short i x h =
    let queue = 1 + drawn_below 3 (next_draw (next_draw x)) in
    let pty = 1 + drawn_below 9 (next_draw x) in
    joined (job_command i queue pty) (10 ∷ []) 180 1
    (command_short i queue pty h (drawn_short 3 (next_draw (next_draw x)) (omega arith) (omega arith)) (drawn_short 9 (next_draw x) (omega arith) (omega arith)))
    (omega arith)

lines_short : (count i x : ℕ) → i + count ≤ 2 ^ 32 → length (job_lines count i x) ≤ 181 * count
lines_short zero i x h = omega arith
lines_short (suc count) i x h =
    let whole = joined (job_line i x) (job_lines count (i + 1) (next_draw (next_draw x))) 181 (181 * count) (line_short i x (omega (arith, h))) (lines_short count (i + 1) (next_draw (next_draw x)) (omega (arith, h))) in
    omega (arith, whole)

-- a drill of at most 5,000 jobs is within what a run takes
pub drill_short : (seed jobs : ℕ) → jobs ≤ 5000 → length (drill_text seed jobs) ≤ 1000000000
drill_short seed jobs few =
    let lines = lines_short jobs 1 seed (omega (arith, few)) in
    let whole = joined (flat_map line_of setup_lines) (job_lines jobs 1 seed) 1000 (181 * jobs) (omega arith) lines in
    omega (arith, whole, few)
