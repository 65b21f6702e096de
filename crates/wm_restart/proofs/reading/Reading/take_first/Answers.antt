use Rattle.std.proofs.Common.{◌<◌, length, take, refl, sym, subst, ◌∙◌, arith}
use Rattle.std.proofs.lemmas.Option.{get_or_from_slice_get, slice_get_read}
use Rattle.wm_traits.specs.declared.row.Row.{Row}
use Rattle.wm_law.specs.declared.state.State.{State}
use Rattle.wm_tables.specs.Restart.{IsRead}
use Rattle.wm_restart.specs.Plausible.{TakesNone}
use Rattle.wm_restart.proofs.InRead.{read_next}
use Rattle.wm_restart.proofs.reading.Reading.take_first.Goals as goal

pub returns-then-not-branch : goal.returns-then-not-branch
returns-then-not-branch c =
    let fails = c.if-not-branch.true in
    let left = c.in_ok-take.ensures.left fails in
    record {
      within = c.loop-n.invariant.within;
      read = subst (λ (s : State). IsRead c.args.self.now (take c.loop-n.n c.args.rows.now) s) (sym left) c.loop-n.invariant.read;
      stop = λ less row at. (
          let same = c.index-rows-n.is ∙ get_or_from_slice_get c.args.rows.now c.loop-n.n row c.index-rows-n.result at in
          subst (λ (s : State). TakesNone s row) (sym left) (subst (λ (r : Row). TakesNone c.loop-n.self r) same (c.in_ok-take.ensures.no fails)));
    }

pub loop-n-preserved : goal.loop-n-preserved
loop-n-preserved c =
    let good = c.if-not-branch.false in
    let below = c.loop-n-test.true in
    let most = c.requires in
    let less : c.loop-n.n < length c.args.rows.now = omega arith in
    record {
      within = omega arith;
      read = read_next c.args.self.now c.args.rows.now c.loop-n.n c.index-rows-n.result c.loop-n.self c.take.new.self less (slice_get_read c.args.rows.now (length c.args.rows.now) c.loop-n.n c.index-rows-n.result refl less c.index-rows-n.is) c.loop-n.invariant.read (c.in_ok-take.ensures.yes good);
    }
