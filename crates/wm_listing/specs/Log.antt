-- The bytes of a history, a line for each entry.
use Rattle.std.specs.Prelude.{ℕ, ◌+◌, List, [], ◌∷◌, ◌++◌, codes}
use Rattle.std.specs.Fmt.{decimal}
use Rattle.wm_base.specs.Exit.{exit_text}
use Rattle.wm_base.specs.StartCause.{start_cause_word}
use Rattle.wm_command.specs.Print.{command_text}
use Rattle.wm_law.specs.declared.call.Call.{Call}
use Rattle.wm_law.specs.declared.call.Call.TheVariants.{Change, Hand, Started, StartFailed, Finished, UseDone, Tick}
use Rattle.wm_law.specs.declared.call.Entry.{Entry}
use Rattle.wm_law.specs.declared.call.Reply.{Reply}
use Rattle.wm_listing.specs.Said.{noted_text, said_text}
use Rattle.wm_listing.specs.Columns.{aligned, newline}
use Rattle.wm_listing.specs.Listing.{list_end}

-- what was called: a command by a user, or a call of a monitor
abbrev pub call_text : Call → List ℕ
call_text (Change user command) = user ++ codes " " ++ command_text command
call_text Hand = codes "HAND"
call_text (Started serial) = codes "STARTED " ++ decimal serial
call_text (StartFailed serial cause) = codes "STARTFAILED " ++ decimal serial ++ codes " " ++ start_cause_word cause
call_text (Finished serial end) = codes "FINISHED " ++ decimal serial ++ codes " " ++ exit_text end
call_text (UseDone serial) = codes "USEDONE " ++ decimal serial
call_text Tick = codes "TICK"

-- what is said of the reply to a call
abbrev pub reply_text : Call → Reply → List ℕ
reply_text (Change user command) reply = said_text command reply
reply_text Hand reply = noted_text reply
reply_text (Started serial) reply = noted_text reply
reply_text (StartFailed serial cause) reply = noted_text reply
reply_text (Finished serial end) reply = noted_text reply
reply_text (UseDone serial) reply = noted_text reply
reply_text Tick reply = noted_text reply

-- a number in a column of some width, and a blank
abbrev pub column : ℕ → ℕ → List ℕ
column width n = aligned width (decimal n) ++ codes " "

-- an entry's place, its caller and its moment
abbrev pub entry_fields : ℕ → Entry → List ℕ
entry_fields place e = column 7 place ++ column 3 e.caller ++ column 12 e.moment

-- an entry, with its call and the reply
abbrev pub entry_line : ℕ → Entry → List ℕ
entry_line place e = entry_fields place e ++ call_text e.call ++ codes " -> " ++ reply_text e.call e.reply ++ newline

-- the entries from a place on
abbrev pub entry_lines : ℕ → List Entry → List ℕ
entry_lines place [] = []
entry_lines place (e ∷ log) = entry_line place e ++ entry_lines (place + 1) log

-- DSPLOG: the whole history; places begin at 1
abbrev pub log_text : List Entry → List ℕ
log_text log = entry_lines 1 log ++ list_end
