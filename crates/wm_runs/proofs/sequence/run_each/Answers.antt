use Rattle.std.proofs.Common.{get_or, refl, arith}
use Rattle.wm_runs.proofs.Partway.{all_made, none_made, one_made}
use Rattle.wm_runs.proofs.sequence.run_each.Goals as goal

pub loop-at-init : goal.loop-at-init
loop-at-init g c = record {
  partway = none_made _ _ c.args.inputs.now c.args.inputs.now c.args.spawners.now c.args.spawners.now c.args.out.now c.args.out.now c.args.store.now c.args.store.now c.args.rans.now.items c.requires.none;
  room = c.requires.room;
}

pub loop-at-preserved : goal.loop-at-preserved
loop-at-preserved g c =
    record {
      partway = one_made _ _ c.args.inputs.now c.loop-at.inputs c.args.spawners.now c.loop-at.spawners c.args.out.now c.loop-at.out c.args.store.now c.loop-at.store c.loop-at.at c.loop-at.rans.items c.push_reserved.new.self.items
          (record {
            ran = c.one_run-ran.result;
            input_before = get_or c.loop-at.inputs c.loop-at.at c.index-inputs-at.result;
            input_now = c.one_run-ran.new.input;
            spawner_before = get_or c.loop-at.spawners c.loop-at.at c.index-spawners-at.result;
            spawner_now = c.one_run-ran.new.spawner;
            out_before = c.loop-at.out;
            out_now = c.one_run-ran.new.out;
            store_before = c.loop-at.store;
            store_now = c.one_run-ran.new.store;
          })
          c.index-inputs-at.result c.index-spawners-at.result c.loop-at.invariant.partway c.loop-at.auto.inputs c.loop-at.auto.spawners (omega arith) (omega arith) refl refl refl refl c.push_reserved.ensures.items c.one_run-ran.ensures;
      room = omega arith;
    }

pub returns : goal.returns
returns g c =
    all_made _ _ c.args.inputs.now c.loop-at.inputs c.args.spawners.now c.loop-at.spawners c.args.out.now c.loop-at.out c.args.store.now c.loop-at.store c.loop-at.at c.loop-at.rans.items c.loop-at.invariant.partway (omega arith) (omega arith) (omega arith) (omega arith)
