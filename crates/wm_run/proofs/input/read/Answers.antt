use Rattle.std.proofs.Common.{arith, refl, take}
use Rattle.std.proofs.lemmas.List.{length-take-le}
use Rattle.wm_run.proofs.input.read.Goals as goal

pub returns-then-n-total-clause-stopped : goal.returns-then-n-total-clause-stopped
returns-then-n-total-clause-stopped g c =
    let n = c.in-Ok.n in
    let some = length-take-le n c.read.new.buf c.in-Ok.ensures.within in
    let over = c.if-n-total.true in
    record { bytes = take n c.read.new.buf; taken = c.in-Ok.ensures.taken; done = record { none = λ f. absurd (cc); full = ((λ f. omega arith), (λ more. refl)) } }
