use Rattle.std.proofs.Common.{ap, refl, sym, subst, length, arith}
use Rattle.wm_indexes.specs.Names.{Names, IsNames}
use Rattle.wm_indexes.specs.NamesInside.{names_of}
use Rattle.wm_indexes.proofs.InsideLemmas.{same-rows, same-names}
use Rattle.wm_indexes.proofs.names.JobNames.reserve.Goals as goal

pub invariant_of-self : goal.invariant_of-self
invariant_of-self c =
    let places = c.self.invariant.places in
    let r = c.reserve.ensures in
    same-rows c.self.inside _ r.items (λ k. refl) (λ k. refl) (record { full = omega (arith, places.full, r.capacity, ap length r.items); by_user = places.by_user; simple = places.simple }) c.self.invariant

pub invariant_of-self-in_err-reserve-2 : goal.invariant_of-self-in_err-reserve-2
invariant_of-self-in_err-reserve-2 c =
    let places = c.self.invariant.places in
    let r = c.reserve.ensures in
    let s = c.reserve-2.ensures in
    same-rows c.self.inside _ r.items s.entries.2 (λ k. refl) (record { full = omega (arith, places.full, r.capacity, ap length r.items); by_user = omega (arith, places.by_user, s.spare); simple = places.simple }) c.self.invariant

pub invariant_of-self-in_err-reserve-3 : goal.invariant_of-self-in_err-reserve-3
invariant_of-self-in_err-reserve-3 c =
    let places = c.self.invariant.places in
    let r = c.reserve.ensures in
    let s = c.reserve-2.ensures in
    let t = c.reserve-3.ensures in
    same-rows c.self.inside _ r.items s.entries.2 t.entries.2 (record { full = omega (arith, places.full, r.capacity, ap length r.items); by_user = omega (arith, places.by_user, s.spare); simple = omega (arith, places.simple, t.spare) }) c.self.invariant

pub invariant_of-self-2 : goal.invariant_of-self-2
invariant_of-self-2 c =
    let r = c.in_ok-reserve.ensures in
    let s = c.in_ok-reserve-2.ensures in
    let t = c.in_ok-reserve-3.ensures in
    same-rows c.self.inside _ r.items s.entries.2 t.entries.2 (record { full = omega (arith, r.ok); by_user = s.ok; simple = t.ok }) c.self.invariant

pub returns-in_err-reserve-3-clause-names : goal.returns-in_err-reserve-3-clause-names
returns-in_err-reserve-3-clause-names c = λ jobs are.
    let old = subst (λ (n : Names). IsNames jobs n) (sym c.self.view_is) are in
    same-names (names_of c.self.inside) _ c.reserve.ensures.items c.reserve-2.ensures.entries.2 c.reserve-3.ensures.entries.2 jobs old

pub returns-clause-names : goal.returns-clause-names
returns-clause-names c = λ jobs are.
    let old = subst (λ (n : Names). IsNames jobs n) (sym c.self.view_is) are in
    same-names (names_of c.self.inside) _ c.in_ok-reserve.ensures.items c.in_ok-reserve-2.ensures.entries.2 c.in_ok-reserve-3.ensures.entries.2 jobs old
