-- What the orders of the keys say of their fields.
use Rattle.std.proofs.Common.{◌≡◌, ℕ, ◌<◌, ◌≤◌, Bool, true, false, not, ◌&&◌, ◌==◌, nat_le, List, inl, inr, refl, ap, sym, ◌∙◌, arith}
use Rattle.std.specs.declared.cmp.Ordering.{Ordering}
use Rattle.std.specs.declared.cmp.Ordering.TheVariants.{Less, Equal, Greater}
use Rattle.std.specs.Cmp.{IsTotalOrder, IsEquivalence, unsigned_ties}
use Rattle.std.specs.Ordering.{is_lt, is_gt, is_le, is_eq, nat_cmp, ordering_then}
use mathlib.Core.Bool.{false≢true}
use Rattle.std.proofs.lemmas.Bool.{cases_lt, and_parts, eqb-true}
use Rattle.std.proofs.lemmas.Bool.Decides.{nat_tests}
use Rattle.std.proofs.lemmas.Cmp.{on_total, then_total, nat_cmp_total, alike_right, tied_itself, on_equiv, and_equiv, nat_eq_equiv, nat_list_eq_equiv}
use Rattle.wm_base.specs.declared.qname.QName.{QName}
use Rattle.wm_base.proofs.Orderings.{lt-Less, then-not_Greater, is_eq-Equal}
use Rattle.wm_desc.specs.Table.{same_qname, qname_cmp}
use Rattle.wm_desc.proofs.Tables.{qname_total, qname_ties, one_name}
use Rattle.wm_ordered.specs.declared.waiter.Waiter.{Waiter}
use Rattle.wm_ordered.specs.declared.keys.Spot.{Spot}
use Rattle.wm_ordered.specs.declared.keys.Rise.{Rise}
use Rattle.wm_ordered.specs.Keys.{spot_of, rise_of}
use Rattle.wm_ordered.specs.Orders.{spot_cmp, same_spot, rise_cmp, same_rise}
use Rattle.wm_ordered.specs.Waiting.{is_of, is_up, is_ahead}

-- the queue and the priority of a spot
abbrev pub line_cmp : Spot → Spot → Ordering
line_cmp a b = ordering_then (qname_cmp a.jobq b.jobq) (nat_cmp a.pty b.pty)

then_assoc : (a b c : Ordering) → ordering_then a (ordering_then b c) ≡ ordering_then (ordering_then a b) c
then_assoc Less b c = refl
then_assoc Equal b c = refl
then_assoc Greater b c = refl

pub spot_cmp-fields : (a b : Spot) → spot_cmp a b ≡ ordering_then (qname_cmp a.jobq b.jobq) (ordering_then (nat_cmp a.pty b.pty) (nat_cmp a.place b.place))
spot_cmp-fields a b = refl

-- first the line, then the place
pub spot_cmp-line : (a b : Spot) → spot_cmp a b ≡ ordering_then (line_cmp a b) (nat_cmp a.place b.place)
spot_cmp-line a b = spot_cmp-fields a b ∙ then_assoc (qname_cmp a.jobq b.jobq) (nat_cmp a.pty b.pty) (nat_cmp a.place b.place)

pub line_total : IsTotalOrder line_cmp
line_total = then_total (on_total (λ (s : Spot). s.jobq) qname_total) (on_total (λ (s : Spot). s.pty) nat_cmp_total)

-- the spot before all of a queue and a priority
abbrev pub begin_of : QName → ℕ → Spot
begin_of queue pty = record { jobq = queue; pty = pty; place = 0 }

both_eq : (a b : Ordering) → is_eq (ordering_then a b) ≡ (is_eq a && is_eq b)
both_eq Less b = refl
both_eq Equal b = refl
both_eq Greater b = refl

-- whether a waiter is of a queue and a priority
pub is_of-line : (queue : QName) (pty : ℕ) (w : Waiter) → is_of queue pty w ≡ is_eq (line_cmp (spot_of w) (begin_of queue pty))
is_of-line queue pty w =
    ap (λ b. b && w.pty == pty) (qname_ties w.jobq queue) ∙ ap (λ b. is_eq (qname_cmp w.jobq queue) && b) (unsigned_ties w.pty pty) ∙ sym (both_eq (qname_cmp w.jobq queue) (nat_cmp w.pty pty))

pub line-Equal : (queue : QName) (pty : ℕ) (w : Waiter) → is_of queue pty w ≡ true → line_cmp (spot_of w) (begin_of queue pty) ≡ Equal
line-Equal queue pty w h = is_eq-Equal _ (sym (is_of-line queue pty w) ∙ h)

pub between : (a b : Ordering) (p q : Ordering) → is_lt (ordering_then a p) ≡ false → ordering_then b q ≡ Less → b ≡ a → a ≡ Equal
between Equal b p q low high same = refl
between Less b p q low high same = absurd (false≢true (sym low))
between Greater Greater p q low high same = absurd (cc high)
between Greater Less p q low high same = absurd (cc same)
between Greater Equal p q low high same = absurd (cc same)

pub then_Less : (a b : Ordering) → ordering_then a b ≡ Less → a ≡ Equal → b ≡ Less
then_Less a b h e = sym (ap (λ o. ordering_then o b) e) ∙ h

-- of two of one line the one before has the lesser place
pub lesser_place : (queue : QName) (pty : ℕ) (r w : Waiter) → is_of queue pty r ≡ true → is_of queue pty w ≡ true → spot_cmp (spot_of r) (spot_of w) ≡ Less → r.place < w.place
lesser_place queue pty r w of_r of_w before =
    let same : line_cmp (spot_of r) (spot_of w) ≡ line_cmp (spot_of r) (begin_of queue pty) = alike_right line_total (spot_of w) (begin_of queue pty) (spot_of r) (line-Equal queue pty w of_w) in
    lt-Less r.place w.place (then_Less _ _ (sym (spot_cmp-line (spot_of r) (spot_of w)) ∙ before) (same ∙ line-Equal queue pty r of_r))

rise_cmp-fields : (a b : Rise) → rise_cmp a b ≡ ordering_then (nat_cmp a.due b.due) (nat_cmp a.serial b.serial)
rise_cmp-fields a b = refl

-- what comes before is due no later
pub sooner_due : (a b : Rise) → rise_cmp a b ≡ Less → a.due ≤ b.due
sooner_due a b h = elim (cases_lt b.due a.due) [ inr le ↦ le | inl gt ↦ absurd (then-not_Greater (nat_cmp a.due b.due) (nat_cmp a.serial b.serial) (sym (rise_cmp-fields a b) ∙ h) (above gt)) ]
  where
    above : b.due < a.due → nat_cmp a.due b.due ≡ Greater
    above gt = grind arith

-- one spot, one place
pub same_spot-place : (v w : Waiter) → same_spot (spot_of v) (spot_of w) ≡ true → v.place ≡ w.place
same_spot-place v w h = grind arith

-- one rise, one serial
pub same_rise-serial : (v w : Waiter) → same_rise (rise_of v) (rise_of w) ≡ true → v.serial ≡ w.serial
same_rise-serial v w h = grind arith

-- a spot ties with itself
pub spot-itself : (s : Spot) → spot_cmp s s ≡ Equal
spot-itself s = spot_cmp-line s s ∙ (ap (λ o. ordering_then o (nat_cmp s.place s.place)) (tied_itself line_total s) ∙ tied_itself nat_cmp_total s.place)

-- a rise ties with itself
pub rise-itself : (r : Rise) → rise_cmp r r ≡ Equal
rise-itself r = rise_cmp-fields r r ∙ (ap (λ o. ordering_then o (nat_cmp r.serial r.serial)) (tied_itself nat_cmp_total r.due) ∙ tied_itself nat_cmp_total r.serial)

spot_laws : IsEquivalence same_spot
spot_laws = and_equiv (on_equiv (λ (s : Spot). s.jobq) (and_equiv (on_equiv (λ (q : QName). q.lib) nat_list_eq_equiv) (on_equiv (λ (q : QName). q.name) nat_list_eq_equiv))) (and_equiv (on_equiv (λ (s : Spot). s.pty) nat_eq_equiv) (on_equiv (λ (s : Spot). s.place) nat_eq_equiv))

-- a spot is itself
pub same_spot-itself : (w : Waiter) → same_spot (spot_of w) (spot_of w) ≡ true
same_spot-itself w = spot_laws.refl (spot_of w)

pub rise_laws : IsEquivalence same_rise
rise_laws = and_equiv (on_equiv (λ (r : Rise). r.due) nat_eq_equiv) (on_equiv (λ (r : Rise). r.serial) nat_eq_equiv)

-- a rise is itself
pub same_rise-itself : (w : Waiter) → same_rise (rise_of w) (rise_of w) ≡ true
same_rise-itself w = rise_laws.refl (rise_of w)

and_false : (a b : Bool) → b ≡ false → (a && b) ≡ false
and_false true b h = h
and_false false b h = refl

-- what is ahead isn't up, and what isn't ahead isn't ahead
pub ahead-not_up : (clock : ℕ) (w : Waiter) → true ≡ is_gt (nat_cmp w.due clock) → is_up clock w ≡ false
ahead-not_up clock w h = and_false (not w.held) (nat_le w.due clock) (grind (arith, nat_tests))

pub not_ahead : (clock : ℕ) (w : Waiter) → false ≡ is_gt (nat_cmp w.due clock) → is_ahead clock w ≡ false
not_ahead clock w h = grind (arith, nat_tests)

pub held-not_up : (clock : ℕ) (w : Waiter) → w.held ≡ true → is_up clock w ≡ false
held-not_up clock w h = ap (λ b. not b && nat_le w.due clock) h

-- what `>` answers of two moments
pub above_from_gt : (m n : ℕ) → true ≡ is_gt (nat_cmp m n) → n < m
above_from_gt m n h = grind (arith, nat_tests)

pub le_from_gt : (m n : ℕ) → false ≡ is_gt (nat_cmp m n) → m ≤ n
le_from_gt m n h = grind (arith, nat_tests)

-- and `<=`
pub above_from_le : (m n : ℕ) → false ≡ is_le (nat_cmp m n) → n < m
above_from_le m n h = grind (arith, nat_tests)

abbrev qname_of : List ℕ → List ℕ → QName
qname_of lib name = record { lib = lib; name = name }

abbrev spot_at : QName → ℕ → ℕ → Spot
spot_at queue pty place = record { jobq = queue; pty = pty; place = place }

-- what `==` says of two spots
pub same_spot-is : (a b : Spot) → same_spot a b ≡ true → a ≡ b
same_spot-is a b h =
    let parts = and_parts (same_qname a.jobq b.jobq) (a.pty == b.pty && a.place == b.place) h in
    let fields = and_parts (a.pty == b.pty) (a.place == b.place) parts.1 in
    let queue = one_name a.jobq b.jobq parts.0 in
    let pty = eqb-true a.pty b.pty fields.0 in
    let place = eqb-true a.place b.place fields.1 in
    ap (λ q. spot_at q a.pty a.place) queue ∙ (ap (λ n. spot_at b.jobq n a.place) pty ∙ ap (λ n. spot_at b.jobq b.pty n) place)

abbrev rise_at : ℕ → ℕ → Rise
rise_at due serial = record { due = due; serial = serial }

pub same-rise_of : (v w : Waiter) → v.due ≡ w.due → v.serial ≡ w.serial → rise_of v ≡ rise_of w
same-rise_of v w due serial = ap (λ n. rise_at n v.serial) due ∙ ap (λ n. rise_at w.due n) serial
