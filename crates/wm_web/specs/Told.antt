-- What is told of a command that was called.
use Rattle.std.specs.Prelude.{◌≡◌, ℕ, Bool}
use Rattle.wm_http.specs.declared.answer.Answer.{Answer}
use Rattle.wm_law.specs.declared.command.Command.{Command}
use Rattle.wm_law.specs.declared.call.Reply.{Reply}
use Rattle.wm_run.specs.Answer.{is_power_down}
use Rattle.wm_web.specs.Answered.{entered_answer}

-- a command that was called has this answer, by its reply
pub record Tells (c : Command) (place : ℕ) (reply : Reply) (answer : Answer) (down : Bool) : Type 0 where
  pub answer_is : answer ≡ entered_answer c place reply
  pub down_is : down ≡ is_power_down reply
