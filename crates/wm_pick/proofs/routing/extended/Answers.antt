use Rattle.std.proofs.Common.{List, ℕ, ◌++◌, ap, ◌∙◌, drop, replicate, arith}
use Rattle.wm_pick.proofs.Extended.{extended_is}
use Rattle.wm_pick.proofs.routing.extended.Goals as goal

pub returns : goal.returns
returns c =
    let n = c.min-len.result in
    ap (λ (l : List ℕ). l ++ drop n (replicate 80 32)) c.copy_from_slice.ensures.after ∙ extended_is c.args.rtgdta.now 80 n 32 (omega arith)
