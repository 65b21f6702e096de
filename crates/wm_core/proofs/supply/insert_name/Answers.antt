use Rattle.std.proofs.Common.{◌≡◌, ◌∙◌, ℕ, Bool, Option, length, not, position, sym, ap, unwrap_or}
use Rattle.std.specs.List.{insert, position_or_len}
use Rattle.std.specs.Ordering.{nat_cmp, is_lt}
use Rattle.std.specs.Cmp.Lexicographic.{slice_cmp}
use Rattle.wm_base.specs.declared.qname.QName.{QName}
use Rattle.wm_core.proofs.Supplies.{at_or_end, inserted_at}
use Rattle.wm_core.proofs.supply.insert_name.Goals as goal

pub returns : goal.returns
returns c =
    let q = c.args.name in
    let names = c.args.names.now.items in
    let later : QName → Bool = λ r. not (is_lt (slice_cmp nat_cmp r.name q.name)) in
    let place : c.place_of.result ≡ position later names = c.place_of.ensures ∙ ap (position later) c.deref.ensures.value in
    let at : c.unwrap_or-at.result ≡ position_or_len later names =
    c.unwrap_or-at.ensures
    ∙ (ap (λ (o : Option ℕ). unwrap_or o c.len.result) place ∙ (ap (λ (n : ℕ). unwrap_or (position later names) n) (c.len.ensures ∙ (sym c.deref.ensures.len ∙ ap length c.deref.ensures.value)) ∙ at_or_end later names)) in
    c.in_ok-insert.ensures.items ∙ (ap (λ (k : ℕ). insert names k q) at ∙ sym (inserted_at q names))
