use Rattle.std.proofs.Common.{List, refl, ap, ◌∙◌, arith}
use Rattle.wm_desc.specs.declared.entry.QueueEntry.{QueueEntry}
use Rattle.wm_pick.specs.Heads.{first_given, open_head}
use Rattle.wm_pick.proofs.FirstGiven.{given_here, none_next}
use Rattle.wm_pick.proofs.parts.Parts.first_head.Goals as goal

pub returns-then-is_some-clause-head : goal.returns-then-is_some-clause-head
returns-then-is_some-clause-head g c =
    let give = open_head c.args.self.now c.args.sbs.now c.args.description.now in
    given_here give c.as_slice-entry-items.result.now c.loop-entry.entry-index c.entry-item.result (omega arith) c.entry-item.is c.loop-entry.invariant.none
    c.entry-item.result c.open_head-head.result c.is_some.result refl c.open_head-head.ensures.head c.is_some.ensures c.if-is_some.true
    ∙ ap (λ (es : List QueueEntry). first_given give es) c.as_slice-entry-items.ensures.value

pub loop-entry-preserved : goal.loop-entry-preserved
loop-entry-preserved g c =
    let give = open_head c.args.self.now c.args.sbs.now c.args.description.now in
    record {
      none =
          none_next give c.as_slice-entry-items.result.now c.loop-entry.entry-index c.entry-item.result (omega arith) c.entry-item.is c.loop-entry.invariant.none
          c.entry-item.result c.open_head-head.result c.is_some.result refl c.open_head-head.ensures.head c.is_some.ensures c.if-is_some.false;
      looks = omega (arith, c.open_head-head.ensures.looks);
    }
