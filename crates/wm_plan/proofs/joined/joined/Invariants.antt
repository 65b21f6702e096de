use Rattle.std.proofs.Common.{◌≡◌, drop, map, true}
use Rattle.std.specs.Prelude.{string_bytes}
use Rattle.std.specs.List.{list_all}
use Rattle.std.specs.Option.{option_copied}
use Rattle.wm_plan.specs.Joining.{AsksOption, joined_from}
use Rattle.wm_plan.specs.Options.{is_whole, joined}
use Rattle.wm_plan.proofs.joined.joined.Given as goal

-- what was joined and the words that are left give what all words give
abbrev pub invariant-loop-word : goal.invariant-loop-word
invariant-loop-word l = record {
  whole : list_all is_whole (map string_bytes l.joining.options.items) ≡ true;
  asks : AsksOption (option_copied l.joining.asked);
  rest : joined_from (map string_bytes l.joining.options.items) (option_copied l.joining.asked) (map string_bytes (drop l.word-index l.words)) ≡ joined (map string_bytes l.words);
}
