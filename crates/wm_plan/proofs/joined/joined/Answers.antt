use Rattle.std.proofs.Common.{◌∙◌, ◌≡◌, ◌∷◌, None, Option, Some, List, ℕ, suc, [], ap, arith, drop, map, sym}
use Rattle.std.specs.List.{list_all}
use Rattle.std.specs.Option.{option_copied}
use Rattle.std.specs.Prelude.{string_bytes}
use Rattle.std.proofs.Math.Seq.{drop-cons}
use Rattle.std.proofs.lemmas.List.{append-nil}
use Rattle.wm_plan.specs.Joining.{joined_from}
use Rattle.wm_plan.specs.Options.{is_whole}
use Rattle.wm_plan.proofs.Joins.{from_none, past_end}
use Rattle.wm_plan.proofs.joined.joined.Goals as goal

pub loop-word-init : goal.loop-word-init
loop-word-init c = record {
  whole = ap (λ l. list_all is_whole (map string_bytes l)) c.new.ensures.items;
  asks = tt;
  rest = ap (λ l. joined_from (map string_bytes l) None (map string_bytes c.args.words.now)) c.new.ensures.items ∙ from_none _;
}

pub returns-in-None-clause-ok : goal.returns-in-None-clause-ok
returns-in-None-clause-ok c =
    let done = map string_bytes c.loop-word.joining.options.items in
    let none : drop c.loop-word.word-index c.args.words.now ≡ [] = past_end c.args.words.now c.loop-word.word-index c.loop-word-test.false in
    sym c.loop-word.invariant.rest
    ∙ ap (λ (a : Option (List ℕ)). joined_from done a (map string_bytes (drop c.loop-word.word-index c.args.words.now))) (ap option_copied c.in-None.is)
    ∙ ap (λ l. joined_from done None (map string_bytes l)) none
    ∙ ap Some (append-nil done)

pub returns-in-Some-clause-bad : goal.returns-in-Some-clause-bad
returns-in-Some-clause-bad c _ =
    let done = map string_bytes c.loop-word.joining.options.items in
    let none : drop c.loop-word.word-index c.args.words.now ≡ [] = past_end c.args.words.now c.loop-word.word-index c.loop-word-test.false in
    sym c.loop-word.invariant.rest
    ∙ ap (λ (a : Option (List ℕ)). joined_from done a (map string_bytes (drop c.loop-word.word-index c.args.words.now))) (ap option_copied c.in-Some.is)
    ∙ ap (λ l. joined_from done (Some c.in-Some.field-0.now) (map string_bytes l)) none

pub returns-in-Err-clause-bad : goal.returns-in-Err-clause-bad
returns-in-Err-clause-bad c bad =
    let done = map string_bytes c.loop-word.joining.options.items in
    let asked = option_copied c.loop-word.joining.asked in
    let at = c.loop-word.word-index in
    let next : drop at c.args.words.now ≡ c.word-item.result ∷ drop (suc at) c.args.words.now = drop-cons c.args.words.now at c.word-item.result (omega arith) ∙ ap (λ w. w ∷ drop (suc at) c.args.words.now) (sym c.word-item.is) in
    sym c.loop-word.invariant.rest
    ∙ ap (λ l. joined_from done asked (map string_bytes l)) next
    ∙ ap (λ (w : List ℕ). joined_from done asked (w ∷ map string_bytes (drop (suc at) c.args.words.now))) (sym c.as_str.ensures.value)
    ∙ c.take.ensures.bad (cc) (map string_bytes (drop (suc at) c.args.words.now))
