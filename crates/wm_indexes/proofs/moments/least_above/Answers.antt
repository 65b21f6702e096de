use Rattle.std.proofs.Common.{◌≡◌, ℕ, ◌+◌, ◌≤◌, sym, ◌∙◌, ap, arith}
use Rattle.wm_ordered.specs.Ordered.{first_from}
use Rattle.wm_indexes.specs.declared.turn.Turn.{Turn}
use Rattle.wm_indexes.specs.Turns.{turn_cmp}
use Rattle.wm_indexes.proofs.TurnLemmas.{none-after, next-absent, next-here}
use Rattle.wm_indexes.proofs.moments.least_above.Goals as goal

-- where the search begins
at : (m s clock : ℕ) → m ≡ clock + 1 → s ≡ 0 → ◌≡◌ {A = Turn} (record { moment = m; serial = s }) (record { moment = clock + 1; serial = 0 })
at m s clock moment serial = ap (λ (n : ℕ). record { moment = n; serial = s }) moment ∙ ap (λ (n : ℕ). record { moment = clock + 1; serial = n }) serial

pub returns-then-seconds-ge-MAX : goal.returns-then-seconds-ge-MAX
returns-then-seconds-ge-MAX c jobs index range =
    let last : 253402214399 ≤ c.args.clock = grind (arith, c.if-seconds-ge-MAX.true, c.get-seconds.ensures.value) in
    sym (none-after c.args.clock jobs range last)

pub returns-in_default : goal.returns-in_default
returns-in_default c jobs index range =
    let begins = at c.new.result c.new-2.result c.args.clock (c.new.ensures ∙ ap (λ (n : ℕ). n + 1) c.get-seconds.ensures.value) c.new-2.ensures in
    sym (next-absent c.args.clock jobs c.args.turns.now.items index (ap (λ (t : Turn). first_from turn_cmp t c.args.turns.now.items) (sym begins) ∙ sym c.in_default.ensures))

pub returns : goal.returns
returns c jobs index range =
    let begins = at c.new.result c.new-2.result c.args.clock (c.new.ensures ∙ ap (λ (n : ℕ). n + 1) c.get-seconds.ensures.value) c.new-2.ensures in
    sym (next-here c.args.clock jobs c.args.turns.now.items index c.len.ensures.sorted c.in-Some.row (ap (λ (t : Turn). first_from turn_cmp t c.args.turns.now.items) (sym begins) ∙ sym c.in-Some.ensures))
