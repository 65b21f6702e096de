use Rattle.std.proofs.Common.{◌≡◌, ℕ, ◌+◌, ◌-◌, ◌≤◌, List, None, refl, take, take_all, sym, ap, subst, ◌∙◌, arith}
use Rattle.wm_pick.specs.Heads.{first_given, head_at, priorities}
use Rattle.wm_pick.proofs.FirstGiven.{given_here, length_priorities, none_next, priority_at}
use Rattle.wm_pick.proofs.Skipped.{no_candidate, none_until, none_at_all}
use Rattle.wm_pick.proofs.parts.Parts.entry_head.Goals as goal

-- no priority from here on has a head
pub returns-in_default-clause-head : goal.returns-in_default-clause-head
returns-in_default-clause-head g c =
    let s = c.args.self.now in
    let sbs = c.args.sbs.now in
    let e = c.args.entry.now in
    none_at_all (head_at s sbs e) c.loop-pty.pty c.loop-pty.invariant.least c.loop-pty.invariant.most c.loop-pty.invariant.none
    (λ p le. no_candidate s sbs e p (c.in_default.ensures.head p (omega (arith, le, c.new.ensures))))

-- the next head is allowed
pub returns-then-is_some-clause-head : goal.returns-then-is_some-clause-head
returns-then-is_some-clause-head g c =
    let s = c.args.self.now in
    let sbs = c.args.sbs.now in
    let e = c.args.entry.now in
    let give = head_at s sbs e in
    let h = c.in-Some.ensures.head in
    let q = c.in-Some.waiter.pty in
    let range : q ≤ 9 = omega (arith, c.get-at.ensures.value, c.get-at.ensures.greatest) in
    let le : c.loop-pty.pty ≤ q = omega (arith, c.new.ensures, h.from) in
    let least = c.loop-pty.invariant.least in
    let long = length_priorities in
    let none = none_until give c.loop-pty.pty q le least (omega (arith, range)) c.loop-pty.invariant.none (λ p from less. no_candidate s sbs e p (h.first p (omega (arith, from, c.new.ensures)) less)) in
    given_here give priorities (q - 1) q (omega (arith, range, long, le, least)) (priority_at q (omega (arith, le, least)) (omega (arith, range))) none
    q c.head_at-head.result c.is_some.result refl c.head_at-head.ensures c.is_some.ensures c.if-is_some.true

-- the next head isn't allowed
pub loop-pty-preserved : goal.loop-pty-preserved
loop-pty-preserved g c =
    let s = c.args.self.now in
    let sbs = c.args.sbs.now in
    let e = c.args.entry.now in
    let give = head_at s sbs e in
    let h = c.in-Some.ensures.head in
    let q = c.in-Some.waiter.pty in
    let at : c.get-at.result ≡ q = c.get-at.ensures.value in
    let range : q ≤ 9 = omega (arith, at, c.get-at.ensures.greatest) in
    let le : c.loop-pty.pty ≤ q = omega (arith, c.new.ensures, h.from) in
    let least = c.loop-pty.invariant.least in
    let looks = c.loop-pty.invariant.looks in
    let long = length_priorities in
    let none = none_until give c.loop-pty.pty q le least (omega (arith, range)) c.loop-pty.invariant.none (λ p from less. no_candidate s sbs e p (h.first p (omega (arith, from, c.new.ensures)) less)) in
    let more =
    none_next give priorities (q - 1) q (omega (arith, range, long, le, least)) (priority_at q (omega (arith, le, least)) (omega (arith, range))) none
    q c.head_at-head.result c.is_some.result refl c.head_at-head.ensures c.is_some.ensures c.if-is_some.false
    in
    let next : (q - 1) + 1 ≡ c.get-at.result + 1 - 1 = omega (arith, at, le, least) in
    record {
      least = omega arith;
      most = omega (arith, at, range);
      none = subst (λ (n : ℕ). first_given give (take n priorities) ≡ None) next more;
      looks = omega (arith, c.next_head.ensures.looks, looks, at, le, least);
    }

pub returns-clause-head : goal.returns-clause-head
returns-clause-head g c =
    let give = head_at c.args.self.now c.args.sbs.now c.args.entry.now in
    let long = length_priorities in
    let most = c.loop-pty.invariant.most in
    let whole : take (c.loop-pty.pty - 1) priorities ≡ priorities = take_all (c.loop-pty.pty - 1) priorities (omega arith) in
    sym c.loop-pty.invariant.none ∙ ap (λ (ps : List ℕ). first_given give ps) whole
