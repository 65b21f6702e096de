use Rattle.std.proofs.Common.{[], refl, ap, arith}
use Rattle.wm_ordered.specs.Tree.{times_in}
use Rattle.wm_ordered.proofs.Standing.{nothing}
use Rattle.wm_ordered.proofs.ordered.Ordered.new.Goals as goal

pub invariant_of-result : goal.invariant_of-result
invariant_of-result g c =
    record {
      places = λ i. 0;
      pairs = [];
      stands = nothing _;
      sorted = λ i j d lt b. absurd (omega arith);
      counted = refl;
      apart = λ i. omega (arith, ap (times_in i) c.new-2.ensures.items);
      there = λ k d lt. absurd (omega arith);
      all = omega arith;
      few = omega arith;
      fits = omega arith;
      node_room = omega arith;
      free_room = omega arith;
    }
