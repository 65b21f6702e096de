use Rattle.std.proofs.Common.{◌≡◌, ℕ, ◌+◌, ◌<◌, List, [], ◌∷◌, take, length, subst, arith}
use Rattle.std.proofs.lemmas.Bool.Decides.{nat_tests}
use Rattle.std.proofs.Math.Seq.{take-length}
use Rattle.wm_traits.specs.declared.row.Row.{Row}
use Rattle.wm_traits.specs.Rows.{IsInOrder}
use Rattle.wm_restart.proofs.restart.broken_at.Goals as goal

some : (rows : List Row) → (IsInOrder rows → ⊥) → 0 < length rows
some [] never = absurd (never (λ i j d less within. absurd (omega arith)))
some (row ∷ rows) never = omega arith

pub loop-high-init : goal.loop-high-init
loop-high-init c =
    record {
      apart = some c.args.rows.now c.requires;
      within = omega arith;
      before = λ i j d less within. absurd (omega arith);
      broken = λ o. c.requires (subst IsInOrder (take-length c.args.rows.now) o);
    }

pub returns-clause-broken : goal.returns-clause-broken
returns-clause-broken c =
    let apart = c.loop-high.invariant.apart in
    let test = c.loop-high-test.false in
    let next : c.loop-high.low + 1 ≡ c.loop-high.high = grind (arith, nat_tests) in
    λ o. c.loop-high.invariant.broken (subst (λ (n : ℕ). IsInOrder (take n c.args.rows.now)) next o)
