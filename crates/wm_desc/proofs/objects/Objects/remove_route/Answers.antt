use Rattle.std.proofs.Common.{ap}
use Rattle.wm_desc.specs.Objects.{without_route}
use Rattle.wm_desc.proofs.Tables.{edited}
use Rattle.wm_desc.proofs.objects.Objects.remove_route.Goals as goal

pub returns-clause-ok : goal.returns-clause-ok
returns-clause-ok c =
    let object = c.index_mut-object.result.now in
    let new = ap (λ xs. record object.1 { routes = xs }) c.remove.ensures.others in
    ap (λ sbsds. record c.args.self.now { sbsds = sbsds }) (edited c.args.sbsd.now _ _ c.place-at.result object (without_route c.args.seq) _ c.place-at.ensures c.sbsds.view_is c.index_mut-object.ensures.value new)
