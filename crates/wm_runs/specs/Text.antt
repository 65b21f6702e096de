-- The text of a drill: the commands that make its queues and its subsystem, and one that submits each job.
use Rattle.std.specs.Prelude.{ℕ, zero, suc, ◌+◌, ◌%◌, List, [], ◌∷◌, ◌++◌, codes}
use Rattle.std.specs.Fmt.{decimal}
use Rattle.std.specs.List.{flat_map}
use Rattle.wm_base.specs.Number.{zero_padded}
use Rattle.wm_runs.specs.Draws.{drawn_below, next_draw}

-- the line of a text
abbrev pub line_of : List ℕ → List ℕ
line_of text = text ++ 10 ∷ []

-- three queues, and a subsystem that takes eight jobs, of each queue four
abbrev pub setup_lines : List (List ℕ)
setup_lines =
    codes "CRTJOBQ Q1" ∷ codes "CRTJOBQ Q2" ∷ codes "CRTJOBQ Q3"
    ∷ codes "CRTSBSD SBSD(DRILL) MAXJOBS(8)"
    ∷ codes "ADDJOBQE SBSD(DRILL) JOBQ(Q1) MAXACT(4) SEQNBR(10)"
    ∷ codes "ADDJOBQE SBSD(DRILL) JOBQ(Q2) MAXACT(4) SEQNBR(20)"
    ∷ codes "ADDJOBQE SBSD(DRILL) JOBQ(Q3) MAXACT(4) SEQNBR(30)"
    ∷ codes "ADDRTGE SBSD(DRILL) SEQNBR(9999) CMPVAL(*ANY) PGM(QSYS/QCMD) CLS(QBATCH)"
    ∷ codes "STRSBS DRILL" ∷ []

-- the command of a job by its number, its queue and its priority
abbrev pub job_command : ℕ → ℕ → ℕ → List ℕ
job_command i queue pty =
    codes "SBMJOB CMD(CALL PGM(ECHO) PARM('" ++ (decimal i ++ (codes "')) JOB(J" ++ (zero_padded 2 (i % 100)
    ++ (codes ") JOBQ(Q" ++ (decimal queue ++ (codes ") JOBPTY(" ++ (decimal pty ++ codes ")")))))))

-- the line of job i, where x was drawn before: first its priority is drawn, then its queue
abbrev pub job_line : ℕ → ℕ → List ℕ
job_line i x = line_of (job_command i (1 + drawn_below 3 (next_draw (next_draw x))) (1 + drawn_below 9 (next_draw x)))

-- the lines of so many jobs from job i on, where x was drawn before
abbrev pub job_lines : ℕ → ℕ → ℕ → List ℕ
job_lines zero i x = []
job_lines (suc count) i x = job_line i x ++ job_lines count (i + 1) (next_draw (next_draw x))

-- the whole text, by the seed and the number of jobs
abbrev pub drill_text : ℕ → ℕ → List ℕ
drill_text seed jobs = flat_map line_of setup_lines ++ job_lines jobs 1 seed
