use Rattle.std.proofs.Common.{◌≡◌, ℕ, false, true, length, sym, subst, ◌∙◌, inl, inr, arith}
use Rattle.wm_law.specs.Opening.{empty}
use Rattle.wm_law.specs.declared.state.State.{State}
use Rattle.wm_tables.specs.Restart.{IsBad}
use Rattle.wm_restart.specs.Restarted.{AreRead, has_all}
use Rattle.wm_restart.proofs.InRead.{all_good, counters_there, is_bad}
use Rattle.wm_restart.proofs.restart.read_rows.Goals as goal

pub returns-then-n-rows-clause-bad : goal.returns-then-n-rows-clause-bad
returns-then-n-rows-clause-bad c =
    let read = subst (λ (s : State). AreRead c.args.rows.now c.ordered-most.result c.in_ok-n.n s c.take_first.new.self) c.new-reading.ensures c.in_ok-n.ensures in
    λ m e.
    let same : c.in_ok-n.n ≡ m = cc in
    subst (λ (k : ℕ). IsBad c.args.offset c.args.rows.now k) same (is_bad c.args.offset c.args.rows.now c.ordered-most.result c.in_ok-n.n c.take_first.new.self c.requires c.ordered-most.ensures read (inl (omega (arith, c.if-n-rows.true))))

pub returns-then-not-has_all-clause-bad : goal.returns-then-not-has_all-clause-bad
returns-then-not-has_all-clause-bad c =
    let read = subst (λ (s : State). AreRead c.args.rows.now c.ordered-most.result c.in_ok-n.n s c.take_first.new.self) c.new-reading.ensures c.in_ok-n.ensures in
    let within = read.within in
    let most = c.ordered-most.ensures.within in
    let whole : c.in_ok-n.n ≡ length c.args.rows.now = omega (arith, c.if-n-rows.false) in
    let lacks : has_all c.args.rows.now ≡ false = sym c.has_all.ensures ∙ c.if-not-has_all.true in
    λ m e.
    let same : length c.args.rows.now ≡ m = cc in
    subst (λ (k : ℕ). IsBad c.args.offset c.args.rows.now k) (whole ∙ same) (is_bad c.args.offset c.args.rows.now c.ordered-most.result c.in_ok-n.n c.take_first.new.self c.requires c.ordered-most.ensures read (inr lacks))

pub returns-clause-good : goal.returns-clause-good
returns-clause-good c =
    let read = subst (λ (s : State). AreRead c.args.rows.now c.ordered-most.result c.in_ok-n.n s c.take_first.new.self) c.new-reading.ensures c.in_ok-n.ensures in
    all_good c.args.offset c.args.rows.now c.ordered-most.result c.in_ok-n.n c.take_first.new.self c.requires c.ordered-most.ensures read (omega (arith, c.if-n-rows.false))

pub returns-clause-counters : goal.returns-clause-counters
returns-clause-counters c =
    let read = subst (λ (s : State). AreRead c.args.rows.now c.ordered-most.result c.in_ok-n.n s c.take_first.new.self) c.new-reading.ensures c.in_ok-n.ensures in
    let good = all_good c.args.offset c.args.rows.now c.ordered-most.result c.in_ok-n.n c.take_first.new.self c.requires c.ordered-most.ensures read (omega (arith, c.if-n-rows.false)) in
    let all : has_all c.args.rows.now ≡ true = sym c.has_all.ensures ∙ c.if-not-has_all.false in
    counters_there c.args.rows.now (empty c.args.offset) c.take_first.new.self good.read all
