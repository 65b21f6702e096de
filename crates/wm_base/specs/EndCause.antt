-- The numbers and words of the causes for which jobs end.
use Rattle.std.specs.Prelude.{ℕ, List, [], ◌++◌, codes}
use Rattle.std.specs.Fmt.{decimal}
use Rattle.wm_base.specs.declared.job.EndCause.{EndCause}
use Rattle.wm_base.specs.declared.job.EndCause.TheVariants.{Completed, Exited, Killed, Endjob, Endsbs, Endpj, Maxuse, NoRoute, RouteFull, BadRequest, NoProgram, StartFailed, Cleared, EndedOnQueue, Restarted}
use Rattle.wm_base.specs.declared.job.StartCause.TheVariants.{Spawner, Memory}
use Rattle.wm_base.specs.StartCause.{start_cause_word}

abbrev pub end_cause_number : EndCause → ℕ
end_cause_number Completed = 1
end_cause_number (Exited code) = 2
end_cause_number Killed = 3
end_cause_number Endjob = 4
end_cause_number Endsbs = 5
end_cause_number Endpj = 6
end_cause_number Maxuse = 7
end_cause_number NoRoute = 8
end_cause_number (RouteFull seq) = 9
end_cause_number BadRequest = 10
end_cause_number NoProgram = 11
end_cause_number (StartFailed Spawner) = 12
end_cause_number (StartFailed Memory) = 13
end_cause_number Cleared = 14
end_cause_number EndedOnQueue = 15
end_cause_number Restarted = 16

abbrev pub end_cause_word : EndCause → List ℕ
end_cause_word Completed = codes "COMPLETED"
end_cause_word (Exited code) = codes "EXITED"
end_cause_word Killed = codes "KILLED"
end_cause_word Endjob = codes "ENDJOB"
end_cause_word Endsbs = codes "ENDSBS"
end_cause_word Endpj = codes "ENDPJ"
end_cause_word Maxuse = codes "MAXUSE"
end_cause_word NoRoute = codes "NOROUTE"
end_cause_word (RouteFull seq) = codes "ROUTEFULL"
end_cause_word BadRequest = codes "BADREQUEST"
end_cause_word NoProgram = codes "NOPROGRAM"
end_cause_word (StartFailed cause) = codes "STARTFAILED"
end_cause_word Cleared = codes "CLEARED"
end_cause_word EndedOnQueue = codes "ENDEDONQUEUE"
end_cause_word Restarted = codes "RESTARTED"

-- the value behind the word, after a blank
abbrev pub end_cause_value : EndCause → List ℕ
end_cause_value (Exited code) = codes " " ++ decimal code
end_cause_value (RouteFull seq) = codes " " ++ decimal seq
end_cause_value (StartFailed cause) = codes " " ++ start_cause_word cause
end_cause_value _ = []

abbrev pub end_cause_text : EndCause → List ℕ
end_cause_text cause = end_cause_word cause ++ end_cause_value cause
