use Rattle.std.proofs.Common.{◌≡◌, ◌++◌, List, ℕ, drop}
use Rattle.wm_clwords.specs.Part.{lines_from}
use Rattle.wm_clwords.proofs.joiner.Joiner.feed.Given as goal

abbrev pub invariant-loop-index : goal.invariant-loop-index
invariant-loop-index l = (more : List ℕ) → lines_from l.fn.self (l.piece ++ more) ≡ lines_from l.self (drop l.index l.piece ++ more)
