use Rattle.std.proofs.Common.{◌∙◌, ◌&&◌, ap, nat_eq}
use Rattle.wm_pick.specs.declared.counted.Counted.TheVariants.{Sbs}
use Rattle.wm_pick.specs.Tally.{count_of}
use Rattle.wm_subsystems.proofs.GoneAlike.{gone-alike}
use Rattle.wm_subsystems.proofs.gone_sbs.gone.Goals as goal

-- where it is ending, its count decides
pub returns-then-is_ending-clause-gone : goal.returns-then-is_ending-clause-gone
returns-then-is_ending-clause-gone c jobs are =
    let b = c.args.sbs.now in
    ap (λ n. nat_eq n 0) c.count.ensures ∙ (ap (λ t. t && nat_eq (count_of (Sbs b.sbsd) c.args.tally.now) 0) c.if-is_ending.ensures ∙ gone-alike jobs c.args.tally.now are b)
