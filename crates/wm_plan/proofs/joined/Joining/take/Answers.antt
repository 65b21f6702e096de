use Rattle.std.proofs.Common.{◌∙◌, ◌∷◌, [], ◌++◌, ℕ, List, ap, map, sym}
use Rattle.std.specs.Option.{option_copied}
use Rattle.std.specs.Prelude.{string_bytes}
use Rattle.std.proofs.lemmas.List.{map-append}
use Rattle.wm_plan.proofs.Joins.{refused_value, refused_word, took_option, took_value, took_whole}
use Rattle.wm_plan.proofs.joined.Joining.take.Goals as goal

pub returns-in_ok-push-in-Some-clause-ok : goal.returns-in_ok-push-in-Some-clause-ok
returns-in_ok-push-in-Some-clause-ok c words =
    let done = map string_bytes c.args.self.now.options.items in
    took_value done _ _ c.in-Some.option.now c.args.word.now words (ap option_copied c.in-Some.is) (sym c.is_value.ensures ∙ c.if-is_value.true)
    (ap (map string_bytes) c.in_ok-push-in-Some.ensures.items ∙ map-append string_bytes _ _ ∙ ap (λ (t : List ℕ). done ++ t ∷ []) c.in_ok-with_value-in-Some.ensures)

pub returns-in_ok-push-in-None-clause-ok : goal.returns-in_ok-push-in-None-clause-ok
returns-in_ok-push-in-None-clause-ok c words =
    let done = map string_bytes c.args.self.now.options.items in
    took_whole done _ _ c.args.word.now words (ap option_copied c.in-None.is) (sym c.is_whole.ensures ∙ c.if-is_whole.true)
    (ap (map string_bytes) c.in_ok-push-in-None.ensures.items ∙ map-append string_bytes _ _ ∙ ap (λ (t : List ℕ). done ++ t ∷ []) c.in_ok-from_str-in-None.ensures.ok)

pub returns-in-None-2-clause-ok : goal.returns-in-None-2-clause-ok
returns-in-None-2-clause-ok c words =
    took_option _ _ c.args.word.now words (ap option_copied c.in-None-2.is) (sym c.is_whole.ensures ∙ c.if-is_whole.false) (sym c.is_option.ensures ∙ c.if-is_option.true)

pub returns-in_default-clause-bad : goal.returns-in_default-clause-bad
returns-in_default-clause-bad c _ words = refused_value _ _ c.in-Some.option.now c.args.word.now words (ap option_copied c.in-Some.is) (sym c.is_value.ensures ∙ c.if-is_value.false)

pub returns-in_default-2-clause-bad : goal.returns-in_default-2-clause-bad
returns-in_default-2-clause-bad c _ words =
    refused_word _ _ c.args.word.now words (ap option_copied c.in-None-2.is) (sym c.is_whole.ensures ∙ c.if-is_whole.false) (sym c.is_option.ensures ∙ c.if-is_option.false)
