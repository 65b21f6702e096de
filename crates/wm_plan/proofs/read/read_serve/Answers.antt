use Rattle.std.proofs.Common.{◌∙◌, ℕ, List, [], ap, codes, map, sym}
use Rattle.std.specs.Option.{option_copied}
use Rattle.std.specs.Prelude.{string_bytes}
use Rattle.std.proofs.lemmas.Result.{IfOk-weaker}
use Rattle.wm_plan.specs.Options.{are_given, value_of}
use Rattle.wm_plan.specs.Plans.{serve_names}
use Rattle.wm_plan.proofs.ServesMade.{serve_made}
use Rattle.wm_plan.proofs.read.read_serve.Goals as goal

pub returns-clause-ok : goal.returns-clause-ok
returns-clause-ok c =
    let options = map string_bytes c.in_ok-options.options.items in
    let same = c.deref.ensures.value in
    let given = ap (λ l. are_given serve_names [] (map string_bytes l)) (sym same) ∙ c.in_ok-matches.ensures.given in
    let at = λ (name : List ℕ). c.in_ok-matches.ensures.values name ∙ ap (λ l. value_of name (map string_bytes l)) same in
    IfOk-weaker c.made_serve.result _ _ (λ plan made. serve_made (map string_bytes c.args.words.now) options (option_copied c.get_str.result) (option_copied c.get_str-2.result)
    (option_copied c.get_str-3.result) (option_copied c.get_str-4.result) (option_copied c.get_str-5.result) (option_copied c.get_str-6.result) (option_copied c.get_str-7.result) plan
    c.in_ok-options.ensures.ok given (record {
      at_listen = c.get_str.ensures ∙ at (codes "listen");
      at_workers = c.get_str-2.ensures ∙ at (codes "workers");
      at_monitors = c.get_str-3.ensures ∙ at (codes "monitors");
      at_store = c.get_str-4.ensures ∙ at (codes "store");
      at_ctl = c.get_str-5.ensures ∙ at (codes "ctl");
      at_offset = c.get_str-6.ensures ∙ at (codes "offset");
      at_limit = c.get_str-7.ensures ∙ at (codes "log-limit");
    }) made) c.made_serve.ensures.ok
