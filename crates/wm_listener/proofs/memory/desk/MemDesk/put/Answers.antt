use Rattle.std.proofs.Common.{rules, ◌≡◌, [], ◌∷◌, ◌++◌, Some, List, Option, sym, subst}
use Rattle.std.specs.Option.{option_and_then}
use Rattle.wm_traits.specs.Told.{told_if}
use Rattle.wm_listener.specs.Had.{GivesBack}
use Rattle.wm_listener.specs.Memory.{desk_had, desk_hand, had_all}
use Rattle.wm_listener.specs.declared.memory.desk.Returned.{Returned}
use Rattle.wm_outside.specs.Memory.{source_left, source_calls, sink_calls, sink_written}
use Rattle.wm_listener.proofs.HadAll.{put_back}
use Rattle.wm_listener.proofs.memory.desk.MemDesk.put.Goals as goal

pub returns-else-is_err-clause-had : goal.returns-else-is_err-clause-had
returns-else-is_err-clause-had c =
    let d = c.args.self.now in
    let r : Returned = record { given = c.in-Some.given; input = c.args.input; output = c.args.output } in
    let more : c.push.new.self.items ≡ d.had.items ++ r ∷ [] = search rules in
    let held : desk_hand d ≡ Some (Some (source_left r.given.value)) = search rules in
    subst (λ (hand : Option (Option (List _))). GivesBack (desk_had d) (option_and_then (λ (xs : List Returned). had_all xs) (told_if d.tells c.push.new.self.items)) hand (Some (source_left r.input)) (sink_written r.output) (source_calls r.input).failed (sink_calls r.output).failed) (sym held)
    (subst (λ (now : List Returned). GivesBack (desk_had d) (option_and_then (λ (xs : List Returned). had_all xs) (told_if d.tells now)) (Some (Some (source_left r.given.value))) (Some (source_left r.input)) (sink_written r.output) (source_calls r.input).failed (sink_calls r.output).failed) (sym more)
    (put_back d.tells d.had.items r))
