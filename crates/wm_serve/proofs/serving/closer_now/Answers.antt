use Rattle.std.proofs.Common.{rules}
use Rattle.wm_serve.proofs.Closers.{closer_alone, closer_within}
use Rattle.wm_serve.proofs.serving.closer_now.Goals as goal

pub offset_bounds-seats-at : goal.offset_bounds-seats-at
offset_bounds-seats-at g c =
    let lt = closer_within c.args.at c.args.seats.now c.requires.closer in
    search rules

pub bounds-seats-at : goal.bounds-seats-at
bounds-seats-at g c = closer_within c.args.at c.args.seats.now c.requires.closer

pub unreachable-requires : goal.unreachable-requires
unreachable-requires g c = closer_alone c.args.at c.args.seats.now c.index-seats-at.result c.requires.closer c.in-Worker.is
