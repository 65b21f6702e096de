use Rattle.std.proofs.Common.{◌≡◌, ◌∙◌, None, List, sym, subst, refl}
use Rattle.wm_base.specs.declared.qname.QName.{QName}
use Rattle.wm_desc.specs.declared.description.Sbsd.{Sbsd}
use Rattle.wm_desc.specs.Table.{object_named, StandsAt}
use Rattle.wm_desc.proofs.Tables.{edited}
use Rattle.wm_making.proofs.PutBack.{none_changed}
use Rattle.wm_making.proofs.back.redescribed.Goals as goal

pub returns-in-Err : goal.returns-in-Err
returns-in-Err c =
    let same = c.deref.ensures.value ∙ c.into_vec-objects.ensures.value in
    let unnamed = subst (λ (xs : List (QName × Sbsd)). object_named c.args.name.now xs ≡ None) same c.in-Err.ensures in
    c.from_vec.ensures ∙ (c.into_vec-objects.ensures.value ∙ sym (none_changed c.args.name.now (λ _. c.args.description) c.args.sbsds unnamed))

pub returns-in-Ok : goal.returns-in-Ok
returns-in-Ok c =
    let same = c.deref.ensures.value ∙ c.into_vec-objects.ensures.value in
    let stands = subst (λ (xs : List (QName × Sbsd)). StandsAt c.args.name.now xs c.in-Ok.at) same c.in-Ok.ensures in
    c.from_vec-in-Ok.ensures
    ∙ edited c.args.name.now c.into_vec-objects.result.items c.args.sbsds c.in-Ok.at c.index_mut-object.result.now (λ _. c.args.description) c.args.description stands c.into_vec-objects.ensures.value c.index_mut-object.ensures.value refl
