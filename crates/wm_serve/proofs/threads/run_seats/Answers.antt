use denote.Exit as Exit
use denote.Param.{param}
use denote.Param.Send.{arg_sync, param_sync}
use Rattle.std.specs.contracts.alloc.Global as Global
use Rattle.wm_floor.specs.contracts.floor.Floor as Floor
use Rattle.wm_floor.proofs.Crosses.{floors, passing}
use Rattle.wm_serve.specs.contracts.board.Board as Board
use Rattle.wm_serve.proofs.Crossing.{Board-sync, Seat-send, six_sync}
use Rattle.std.proofs.Common.{◌++◌, List, arith, subst, sym}
use Rattle.std.specs.List.{AllZip}
use Rattle.std.proofs.lemmas.List.Elements.{All-append}
use Rattle.wm_serve.specs.Seats.{Runs, Sits, tellers}
use Rattle.wm_serve.proofs.Parts.{related, zip_parts, zip_places}
use Rattle.wm_serve.proofs.threads.run_seats.Goals as goal

pub for_each_of_both-requires-send-T : goal.for_each_of_both-requires-send-T
for_each_of_both-requires-send-T g c κs within = search (Seat-send, floors, passing) depth 400 fits 100000

-- what the closure takes along is shared: the runtime, the allocator, the floor, the listener, the gate and the board
pub for_each_of_both-requires-sync-F : goal.for_each_of_both-requires-sync-F
for_each_of_both-requires-sync-F g c κs within =
    param_sync _ _ (arg_sync _ Exit.no _ (six_sync _ _ _ _ _ _ _ _ _ _ _ _ _
    (param 5 g.row.R) Global.the_row (Floor.the_row (param 0 g.row.K) g.K.Keeper) (param 1 g.row.L) (param 4 g.row.G) Board.the_row
    (search passing depth 400 fits 100000)
    (search passing depth 400 fits 100000)
    (search (floors, passing) depth 400 fits 100000)
    (search passing depth 400 fits 100000)
    (search passing depth 400 fits 100000)
    Board-sync))

pub returns-clause-sit : goal.returns-clause-sit
returns-clause-sit g c =
    let d = g.L.D.Desk in
    let p = g.P.Spawner in
    let P = Sits (tellers d.hand d.had d.dries d.faults p.asked p.told p.misses p.faults) c.args.floor.now in
    let both = c.for_each_of_both.ensures in
    let same = c.for_each_of_both.auto in
    All-append P c.for_each_of_both.new.first c.for_each_of_both.new.last
    (λ k d lt. let e = (both.first.each k d (omega (arith, same.first))).1 in subst P e.left e.call.0)
    (λ k d lt. let e = (both.last.each k d (omega (arith, same.last))).1 in subst P e.left e.call.0)

pub returns-clause-run : goal.returns-clause-run
returns-clause-run g c =
    let d = g.L.D.Desk in
    let p = g.P.Spawner in
    let R = Runs (tellers d.hand d.had d.dries d.faults p.asked p.told p.misses p.faults) c.args.floor.now in
    let both = c.for_each_of_both.ensures in
    let same = c.for_each_of_both.auto in
    let first = c.split_at_mut-first.result.0.now in
    let last = c.split_at_mut-first.result.1.now in
    let done = c.for_each_of_both.new.first in
    let rest = c.for_each_of_both.new.last in
    subst (λ (xs : List _). AllZip R xs (done ++ rest)) (sym c.split_at_mut-first.ensures.value) (zip_parts R first done last rest
    (zip_places R first done same.first (λ i d lt. let e = (both.first.each i d lt).1 in related R e.argument_is e.left e.call.1))
    (zip_places R last rest same.last (λ i d lt. let e = (both.last.each i d lt).1 in related R e.argument_is e.left e.call.1)))
