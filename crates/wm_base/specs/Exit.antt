-- The text of an exit.
use Rattle.std.specs.Prelude.{ℕ, List, ◌++◌, codes}
use Rattle.std.specs.Fmt.{decimal}
use Rattle.wm_base.specs.declared.job.Exit.{Exit}
use Rattle.wm_base.specs.declared.job.Exit.TheVariants.{Code, Killed}

abbrev pub exit_text : Exit → List ℕ
exit_text (Code code) = codes "CODE " ++ decimal code
exit_text Killed = codes "KILLED"
