use Rattle.std.proofs.Common.{◌≡◌, None, Some, ap, sym, ◌∙◌, length, get_or, arith}
use Rattle.wm_base.specs.declared.refusal.Kind.TheVariants.{Sbsd}
use Rattle.wm_base.specs.declared.refusal.Refusal.TheVariants.{NoObject, SeqUsed}
use Rattle.wm_desc.specs.Objects.{with_route}
use Rattle.wm_desc.specs.Refusals.{first_refusal, route_tests, route_refusal}
use Rattle.wm_desc.proofs.Tables.{accepted, test_fails, edited, sorted-edited}
use Rattle.wm_desc.proofs.objects.Objects.add_route.Goals as goal

pub index_mut-object-requires : goal.index_mut-object-requires
index_mut-object-requires c = omega (arith, c.place-at.ensures.in_range, ap length c.sbsds.view_is, c.sbsds.inside.items.ok)

-- no entry has the key, since the entry isn't refused
pub insert-requires : goal.insert-requires
insert-requires c =
    let object = c.index_mut-object.result.now in
    let none : route_refusal c.args.self.now c.args.sbsd.now c.args.entry ≡ None = sym c.route_refusal.ensures ∙ c.in_default.is in
    let there : object ≡ get_or c.args.self.now.sbsds c.place-at.result object = c.index_mut-object.ensures.value ∙ ap (λ xs. get_or xs c.place-at.result object) c.sbsds.view_is in
    let named = c.place-at.ensures.described object ∙ ap (λ o. Some o.1) (sym there) in
    record { new = test_fails (route_tests c.args.self.now c.args.entry object.1) 2 SeqUsed (accepted _ (λ description. first_refusal (route_tests c.args.self.now c.args.entry description)) (NoObject Sbsd) object.1 none named) }

pub invariant_of-sbsds : goal.invariant_of-sbsds
invariant_of-sbsds c = sorted-edited c.sbsds.inside.items.items c.place-at.result c.index_mut-object.result.now _ (omega (arith, c.place-at.ensures.in_range, ap length c.sbsds.view_is)) c.index_mut-object.ensures.value c.sbsds.invariant

pub returns-clause-ok : goal.returns-clause-ok
returns-clause-ok c =
    let object = c.index_mut-object.result.now in
    let new = ap (λ xs. record object.1 { routes = xs }) c.in_ok-insert.ensures.ok in
    ap (λ sbsds. record c.args.self.now { sbsds = sbsds }) (edited c.args.sbsd.now _ _ c.place-at.result object (with_route c.args.entry) _ c.place-at.ensures c.sbsds.view_is c.index_mut-object.ensures.value new)
