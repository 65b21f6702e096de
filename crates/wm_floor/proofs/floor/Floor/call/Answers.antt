use Rattle.std.proofs.Common.{◌≡◌, ℕ, sym, subst, ap, ◌∙◌}
use Rattle.wm_law.specs.History.{IsLegal}
use Rattle.wm_turn.specs.Passed.{ended}
use Rattle.wm_floor.specs.declared.opened.Opened.{Opened}
use Rattle.wm_floor.specs.Causes.{HasMarkCause}
use Rattle.wm_floor.specs.Floor.{Seen}
use Rattle.wm_floor.proofs.Calls.{IsLedgerCall, called}
use Rattle.wm_floor.proofs.Counts.{marked}
use Rattle.wm_floor.proofs.Passes.{IsTurned}
use Rattle.wm_floor.proofs.floor.Floor.call.Goals as goal

pub returns-clause-called : goal.returns-clause-called
returns-clause-called g c =
    let l = c.enter-ledger.result in
    let m = c.call-result.new.self in
    let old = c.args.pass.now in
    let opens = c.enter-ledger.ensures.opening in
    let turned : IsTurned c.args.self.now old c.leave.new.pass l.log m.log l.misses m.misses = record {
      pass = c.requires.own;
      front = c.enter-ledger.ensures.front;
      new_is = c.leave.ensures.pass ∙ ap (ended m.log m.misses) c.enter-ledger.ensures.pass;
      legal = subst (λ (o : Opened g.row.K.Denot). IsLegal o.state m.log) (c.call-result.ensures.opening ∙ opens) c.leave.ensures.legal;
      mine = c.leave.ensures.mine;
    } in
    let number : c.number.result ≡ old.number = c.number.ensures.value ∙ ap (λ (p : Seen g.row.K.Denot). p.number) c.enter-ledger.ensures.pass in
    let made : IsLedgerCall l m c.number.result c.args.call c.args.now c.call-result.result = record {
      kept = c.call-result.ensures.opening;
      ok = c.call-result.ensures.ok;
      place = c.call-result.ensures.place;
      reply = c.call-result.ensures.reply;
      err = c.call-result.ensures.err;
      full = c.call-result.ensures.full;
      not_full = c.call-result.ensures.not_full;
    } in
    let own = subst (λ (n : ℕ). IsLedgerCall l m n c.args.call c.args.now c.call-result.result) number made in
    called c.args.self.now old c.leave.new.pass l m c.args.call c.args.now turned opens c.call-result.result own

pub returns-clause-cause : goal.returns-clause-cause
returns-clause-cause g c =
    let l = c.enter-ledger.result in
    let m = c.call-result.new.self in
    let old = c.args.pass.now in
    let is : c.leave.new.pass ≡ ended m.log m.misses c.enter-ledger.new.pass = c.leave.ensures.pass in
    let mark = ap (λ (p : Seen g.row.K.Denot). p.mark) (is ∙ ap (ended m.log m.misses) c.enter-ledger.ensures.pass) in
    subst (λ (n : ℕ). HasMarkCause old.mark n c.call-result.result) (sym mark) (marked old.mark l.misses m.misses c.call-result.result c.call-result.ensures.missed)
