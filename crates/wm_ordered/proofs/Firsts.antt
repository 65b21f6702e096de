-- None of those on a queue comes before the first.
use Rattle.std.proofs.Common.{◌≡◌, ℕ, Bool, true, false, ◌&&◌, ◌||◌, ◌==◌, nat_lt, cond, List, [], ◌∷◌, Some, None, fold, inl, inr, refl, ap, sym, ◌∙◌, arith, Contains}
use Rattle.std.specs.List.{filter}
use Rattle.std.proofs.lemmas.Bool.Decides.{nat_tests}
use Rattle.wm_base.specs.declared.qname.QName.{QName}
use Rattle.wm_ordered.proofs.Members.{Contains-cases, Contains-filter, Contains-nil}
use Rattle.wm_ordered.specs.declared.waiter.Waiter.{Waiter}
use Rattle.wm_ordered.specs.Waiting.{is_on, is_before, earlier, first_on}

-- none comes before itself
pub not-itself : (w : Waiter) → is_before w w ≡ false
not-itself w = grind (arith, nat_tests)

-- what comes behind a lesser one comes behind that one's least
lesser-least : (a b c d e f : ℕ) → (nat_lt a c || (a == c && nat_lt b d)) ≡ true → (nat_lt a e || (a == e && nat_lt b f)) ≡ false → (nat_lt c e || (c == e && nat_lt d f)) ≡ false
lesser-least a b c d e f h k = grind (arith, nat_tests)

beyond-least : (a b c d e f : ℕ) → (nat_lt a c || (a == c && nat_lt b d)) ≡ false → (nat_lt c e || (c == e && nat_lt d f)) ≡ false → (nat_lt a e || (a == e && nat_lt b f)) ≡ false
beyond-least a b c d e f h k = grind (arith, nat_tests)

-- none of them comes before it
abbrev IsLeast : Waiter → List Waiter → Type 0
IsLeast w xs = (v : Waiter) → Contains xs v → is_before v w ≡ false

one-more : (x w : Waiter) (xs : List Waiter) → is_before x w ≡ false → IsLeast w xs → IsLeast w (x ∷ xs)
one-more x w xs first rest v there = elim (Contains-cases x v xs there) [ inl same ↦ ap (λ (z : Waiter). is_before z w) (sym same) ∙ first | inr later ↦ rest v later ]

least-by : (b : Bool) (x u w : Waiter) (xs : List Waiter) → is_before x u ≡ b → fold earlier (cond b (Some x) (Some u)) xs ≡ Some w
    → ((z : Waiter) → fold earlier (Some z) xs ≡ Some w → (is_before z w ≡ false) × IsLeast w xs)
    → (is_before u w ≡ false) × IsLeast w (x ∷ xs)
least-by true x u w xs e found rest = let r = rest x found in (lesser-least x.pty x.place u.pty u.place w.pty w.place e r.0, one-more x w xs r.0 r.1)
least-by false x u w xs e found rest = let r = rest u found in (r.0, one-more x w xs (beyond-least x.pty x.place u.pty u.place w.pty w.place e r.0) r.1)

-- the fold finds one that none comes before
least-kept : (xs : List Waiter) (u w : Waiter) → fold earlier (Some u) xs ≡ Some w → (is_before u w ≡ false) × IsLeast w xs
least-kept [] u w found = (let same : u ≡ w = cc found in ap (λ (z : Waiter). is_before u z) (sym same) ∙ not-itself u, λ v there. absurd (Contains-nil v there))
least-kept (x ∷ xs) u w found = least-by (is_before x u) x u w xs refl found (λ z f. least-kept xs z w f)

least-found : (xs : List Waiter) (w : Waiter) → fold earlier None xs ≡ Some w → IsLeast w xs
least-found [] w found = absurd (cc found)
least-found (x ∷ xs) w found = let r = least-kept xs x w found in one-more x w xs r.0 r.1

pub first_on-least : (queue : QName) (items : List Waiter) (w : Waiter) → first_on queue items ≡ Some w → (v : Waiter) → Contains items v → is_on queue v ≡ true → is_before v w ≡ false
first_on-least queue items w found v there on = least-found (filter (is_on queue) items) w found v (Contains-filter (is_on queue) items v there on)
