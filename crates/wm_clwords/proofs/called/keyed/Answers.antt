use Rattle.std.proofs.Common.{◌∙◌, ap, sym, ◌++◌, [], ◌∷◌}
use Rattle.std.proofs.lemmas.Slice.Eq.{bytes_eq-Decides}
use Rattle.wm_clwords.specs.Grammar.{Key, Close}
use Rattle.wm_clwords.specs.Call.{item_tokens, list_tokens}
use Rattle.wm_clwords.proofs.Tokens.{keyed_tokens}
use Rattle.wm_clwords.proofs.called.keyed.Goals as goal

pub returns-then-eq-clause-some : goal.returns-then-eq-clause-some
returns-then-eq-clause-some c =
    let same = (bytes_eq-Decides c.as_bytes.result.now c.args.key.now).0 (sym c.eq.ensures ∙ c.if-eq.true) in
    ap item_tokens c.in-Keyed.is ∙ keyed_tokens c.in-Keyed.field-0 c.in-Keyed.word c.in-Keyed.items
    ∙ ap (λ k. Key k ∷ list_tokens c.in-Keyed.items.items ++ Close ∷ []) (sym c.as_bytes.ensures.value ∙ same)
    ∙ ap (λ l. Key c.args.key.now ∷ list_tokens l ++ Close ∷ []) (sym c.as_slice.ensures.value)
