use Rattle.std.proofs.Common.{◌≡◌, ◌-◌}
use Rattle.wm_http.specs.Parts.{part}
use Rattle.wm_http.proofs.part.part.Given as goal

abbrev pub invariant-loop : goal.invariant-loop
invariant-loop l = part (l.fn.slashes - l.counter) l.rest ≡ part l.fn.slashes l.fn.path
