-- The first of the jobs on a queue stands at the first spot from the begin of the queue on.
use Rattle.std.proofs.Common.{◌≡◌, ◌⊎◌, ℕ, ◌≤◌, Bool, true, false, not, ◌&&◌, ◌||◌, ◌==◌, nat_lt, cond, List, [], ◌∷◌, Option, Some, None, fold, inl, inr, refl, ap, sym, ◌∙◌, subst, arith, Contains, nat_eq}
use Rattle.std.specs.List.{filter}
use Rattle.std.specs.declared.cmp.Ordering.TheVariants.{Less, Equal}
use Rattle.std.specs.Ordering.{is_lt, is_eq, nat_cmp, ordering_then}
use mathlib.Core.Bool.{false≢true}
use Rattle.std.proofs.lemmas.Bool.{cases_Bool, not-true, not_from_false}
use Rattle.std.proofs.lemmas.Bool.Decides.{nat_tests}
use Rattle.std.proofs.lemmas.Cmp.{alike_right}
use Rattle.wm_base.specs.declared.qname.QName.{QName}
use Rattle.wm_base.proofs.Orderings.{is_eq-Equal}
use Rattle.wm_desc.specs.Sorted.{IsSortedOnce, with_key}
use Rattle.wm_desc.specs.Table.{same_qname, qname_cmp}
use Rattle.wm_desc.proofs.Tables.{qname_total, qname_ties}
use Rattle.wm_ordered.specs.Ordered.{key_of, first_from}
use Rattle.wm_ordered.proofs.Members.{Contains-head, Contains-cons, Contains-nil, Contains-cases, Contains-filter, Contains-from_filter, filter-empty, find-Some, find-None, find-before}
use Rattle.wm_ordered.specs.declared.waiter.Waiter.{Waiter}
use Rattle.wm_ordered.specs.declared.keys.Spot.{Spot}
use Rattle.wm_ordered.specs.Keys.{spot_of}
use Rattle.wm_ordered.specs.Index.{IsIndex}
use Rattle.wm_ordered.specs.Orders.{spot_cmp}
use Rattle.wm_ordered.specs.Waiting.{serial_of, HavePlaces, HavePriorities, is_on, is_before, earlier, first_on}
use Rattle.wm_ordered.proofs.Firsts.{not-itself}
use Rattle.wm_ordered.proofs.Marks.{found-there}
use Rattle.wm_ordered.proofs.Orders.{begin_of, between, spot_cmp-fields, then_Less}

-- it comes before the other, and not the other way round
abbrev pub Precedes : Waiter → Waiter → Type 0
Precedes w v = (is_before w v ≡ true) × (is_before v w ≡ false)

-- the one that none comes before stays
stays : (w v : Waiter) → is_before v w ≡ false → earlier (Some w) v ≡ Some w
stays w v h = ap (λ b. cond b (Some v) (Some w)) h

stays-itself : (w v : Waiter) → v ≡ w → earlier (Some w) v ≡ Some w
stays-itself w v same = ap (λ (u : Waiter). earlier (Some w) u) same ∙ stays w w (not-itself w)

-- the best so far is none, or doesn't come before w
abbrev pub Beyond : Waiter → Option Waiter → Type 0
Beyond w None = Unit {0}
Beyond w (Some u) = (u ≡ w) ⊎ (is_before w u ≡ true)

takes : (a : Option Waiter) (w : Waiter) → Beyond w a → earlier a w ≡ Some w
takes None w h = refl
takes (Some u) w h = elim h [ inl same ↦ ap (λ (v : Waiter). earlier (Some v) w) same ∙ stays-itself w w refl | inr before ↦ ap (λ b. cond b (Some w) (Some u)) before ]

either : (b : Bool) (w x u : Waiter) → is_before w x ≡ true → (u ≡ w) ⊎ (is_before w u ≡ true) → Beyond w (cond b (Some x) (Some u))
either true w x u before h = inr before
either false w x u before h = h

still-beyond : (a : Option Waiter) (w x : Waiter) → is_before w x ≡ true → Beyond w a → Beyond w (earlier a x)
still-beyond None w x before h = inr before
still-beyond (Some u) w x before h = either (is_before x u) w x u before h

fold-stays : (xs : List Waiter) (w : Waiter) → ((v : Waiter) → Contains xs v → (v ≡ w) ⊎ Precedes w v) → fold earlier (Some w) xs ≡ Some w
fold-stays [] w least = refl
fold-stays (x ∷ xs) w least =
    ap (λ a. fold earlier a xs) (elim (least x (Contains-head x xs)) [ inl same ↦ stays-itself w x same | inr p ↦ stays w x p.1 ]) ∙ fold-stays xs w (λ v h. least v (Contains-cons x v xs h))

pub fold-earlier : (xs : List Waiter) (a : Option Waiter) (w : Waiter) → Contains xs w → ((v : Waiter) → Contains xs v → (v ≡ w) ⊎ Precedes w v) → Beyond w a → fold earlier a xs ≡ Some w
fold-earlier [] a w there least beyond = absurd (Contains-nil w there)
fold-earlier (x ∷ xs) a w there least beyond =
    elim (least x (Contains-head x xs)) [
      | inl same ↦ ap (λ (z : Waiter). fold earlier (earlier a z) xs) same ∙ (ap (λ b. fold earlier b xs) (takes a w beyond) ∙ fold-stays xs w (λ v h. least v (Contains-cons x v xs h)))
      | inr p ↦ elim (Contains-cases x w xs there) [
        | inl e ↦ absurd (false≢true (sym (not-itself w) ∙ (ap (λ (z : Waiter). is_before w z) (sym e) ∙ p.0)))
        | inr later ↦ fold-earlier xs (earlier a x) w later (λ v h. least v (Contains-cons x v xs h)) (still-beyond a w x p.0 beyond)
      ]
    ]

-- the fold finds one of those that it goes through, or keeps the one that it begins with
found-among : (xs : List Waiter) (a : Option Waiter) (w : Waiter) → fold earlier a xs ≡ Some w → (a ≡ Some w) ⊎ Contains xs w
found-among [] a w found = inl found
found-among (x ∷ xs) a w found = elim (found-among xs (earlier a x) w found) [ inl e ↦ better a e | inr later ↦ inr (Contains-cons x w xs later) ]
  where
    of-two : (b : Bool) (v : Waiter) → cond b (Some x) (Some v) ≡ Some w → (◌≡◌ {A = Option Waiter} (Some v) (Some w)) ⊎ Contains (x ∷ xs) w
    of-two true v e = let same : x ≡ w = cc e in inr (subst (λ z. Contains (x ∷ xs) z) same (Contains-head x xs))
    of-two false v e = inl e

    better : (a : Option Waiter) → earlier a x ≡ Some w → (a ≡ Some w) ⊎ Contains (x ∷ xs) w
    better None e = let same : x ≡ w = cc e in inr (subst (λ z. Contains (x ∷ xs) z) same (Contains-head x xs))
    better (Some v) e = of-two (is_before x v) v e

never-none : (xs : List Waiter) (w : Waiter) → fold earlier (Some w) xs ≡ None → ⊥
never-none [] w none = cc none
never-none (x ∷ xs) w none = on (is_before x w) (never-none xs x) (never-none xs w) none
  where
    on : (b : Bool) → (fold earlier (Some x) xs ≡ None → ⊥) → (fold earlier (Some w) xs ≡ None → ⊥) → fold earlier (cond b (Some x) (Some w)) xs ≡ None → ⊥
    on true x_never w_never e = x_never e
    on false x_never w_never e = w_never e

no-element : (xs : List Waiter) → fold earlier None xs ≡ None → xs ≡ []
no-element [] none = refl
no-element (x ∷ xs) none = absurd (never-none xs x none)

-- where there is no first, none is on the queue
pub first_on-None : (queue : QName) (items : List Waiter) → first_on queue items ≡ None → filter (is_on queue) items ≡ []
first_on-None queue items none = no-element (filter (is_on queue) items) none

-- the first is one on the queue
pub first_on-Some : (queue : QName) (items : List Waiter) (w : Waiter) → first_on queue items ≡ Some w → Contains items w × (is_on queue w ≡ true)
first_on-Some queue items w found =
    elim (found-among (filter (is_on queue) items) None w found) [ inl e ↦ absurd (cc e) | inr there ↦ Contains-from_filter (is_on queue) items w there ]

-- one on the queue is no earlier than the begin of the queue
pub same-queue : (queue : QName) (w : Waiter) → is_on queue w ≡ true → qname_cmp w.jobq queue ≡ Equal
same-queue queue w on = is_eq-Equal _ (sym (qname_ties w.jobq queue) ∙ on)

not_below_begin : (pty place : ℕ) → 1 ≤ pty → is_lt (ordering_then (nat_cmp pty 1) (nat_cmp place 0)) ≡ false
not_below_begin pty place least = grind arith

from_begin : (queue : QName) (w : Waiter) → is_on queue w ≡ true → 1 ≤ w.pty → is_lt (spot_cmp (spot_of w) (begin_of queue 1)) ≡ false
from_begin queue w on least =
    ap is_lt (spot_cmp-fields (spot_of w) (begin_of queue 1) ∙ ap (λ o. ordering_then o (ordering_then (nat_cmp w.pty 1) (nat_cmp w.place 0))) (same-queue queue w on))
    ∙ not_below_begin w.pty w.place least

-- what stands between the begin of a queue and one on the queue is on it
on-between : (queue : QName) (r w : Waiter) → is_on queue w ≡ true → is_lt (spot_cmp (spot_of r) (begin_of queue 1)) ≡ false → spot_cmp (spot_of r) (spot_of w) ≡ Less → is_on queue r ≡ true
on-between queue r w on low high =
    let same : qname_cmp r.jobq w.jobq ≡ qname_cmp r.jobq queue = alike_right qname_total w.jobq queue r.jobq (same-queue queue w on) in
    let here : qname_cmp r.jobq queue ≡ Equal = between _ _ _ _ (ap is_lt (sym (spot_cmp-fields (spot_of r) (begin_of queue 1))) ∙ low) (sym (spot_cmp-fields (spot_of r) (spot_of w)) ∙ high) same in
    qname_ties r.jobq queue ∙ ap is_eq here

lesser-before : (p q m n : ℕ) → ordering_then (nat_cmp p q) (nat_cmp m n) ≡ Less → (nat_lt p q || (p == q && nat_lt m n)) ≡ true
lesser-before p q m n h = grind (arith, nat_tests)

greater-not : (p q m n : ℕ) → ordering_then (nat_cmp p q) (nat_cmp m n) ≡ Less → (nat_lt q p || (q == p && nat_lt n m)) ≡ false
greater-not p q m n h = grind (arith, nat_tests)

-- of two on one queue the one of lesser spot comes before the other
pub spot-precedes : (queue : QName) (r w : Waiter) → is_on queue r ≡ true → is_on queue w ≡ true → spot_cmp (spot_of r) (spot_of w) ≡ Less → Precedes r w
spot-precedes queue r w on_r on_w less =
    let same : qname_cmp r.jobq w.jobq ≡ qname_cmp r.jobq queue = alike_right qname_total w.jobq queue r.jobq (same-queue queue w on_w) in
    let rest : ordering_then (nat_cmp r.pty w.pty) (nat_cmp r.place w.place) ≡ Less = then_Less _ _ (sym (spot_cmp-fields (spot_of r) (spot_of w)) ∙ less) (same ∙ same-queue queue r on_r) in
    (lesser-before r.pty w.pty r.place w.place rest, greater-not r.pty w.pty r.place w.place rest)

module _ (queue : QName) (items : List Waiter) (rows : List (Spot × ℕ)) (priorities : HavePriorities items) (index : IsIndex spot_of serial_of (λ w. true) items rows) (sorted : IsSortedOnce key_of spot_cmp rows) where
  abbrev from : Spot × ℕ → Bool
  from e = not (is_lt (spot_cmp e.0 (begin_of queue 1)))

  row-from : (v : Waiter) → Contains items v → is_on queue v ≡ true → from (spot_of v, v.serial) ≡ true
  row-from v there on = not_from_false _ (from_begin queue v on (priorities v there).0)

  none-on : ((v : Waiter) → Contains items v → is_on queue v ≡ false) → first_on queue items ≡ None
  none-on none = ap (λ l. fold earlier None l) (filter-empty (is_on queue) items none)

  pub first-absent : first_from spot_cmp (begin_of queue 1) rows ≡ None → first_on queue items ≡ None
  first-absent none =
      none-on (λ v there. elim (cases_Bool (is_on queue v)) [
        | inl on ↦ absurd (false≢true (sym (find-None from rows (spot_of v, v.serial) none (index.whole v there refl)) ∙ row-from v there on))
        | inr e ↦ e
      ])

  -- the row that was found is that of r
  module _ (places : HavePlaces items) (r : Waiter) (item : Contains items r) (found : first_from spot_cmp (begin_of queue 1) rows ≡ Some (spot_of r, r.serial)) where
    low : is_lt (spot_cmp (spot_of r) (begin_of queue 1)) ≡ false
    low = not-true _ (find-Some from rows (spot_of r, r.serial) found).1

    -- what is on the queue is what was found, or stands behind it
    behind : (v : Waiter) → Contains items v → is_on queue v ≡ true → (v ≡ r) ⊎ (spot_cmp (spot_of r) (spot_of v) ≡ Less)
    behind v there on =
        elim (find-before (λ (a b : Spot × ℕ). spot_cmp a.0 b.0 ≡ Less) from rows (spot_of r, r.serial) (spot_of v, v.serial) sorted found (index.whole v there refl) (row-from v there on)) [
          | inl e ↦ inl (places v r there item (ap (λ (q : Spot × ℕ). q.0.place) e))
          | inr lt ↦ inr lt
        ]

    first-elsewhere : is_on queue r ≡ false → first_on queue items ≡ None
    first-elsewhere other =
        none-on (λ v there. elim (cases_Bool (is_on queue v)) [
          | inl on ↦ elim (behind v there on) [
            | inl e ↦ absurd (false≢true (sym other ∙ (ap (is_on queue) (sym e) ∙ on)))
            | inr lt ↦ absurd (false≢true (sym other ∙ on-between queue r v on low lt))
          ]
          | inr e ↦ e
        ])

    first-here : is_on queue r ≡ true → first_on queue items ≡ Some r
    first-here on =
        fold-earlier (filter (is_on queue) items) None r (Contains-filter (is_on queue) items r item on) (λ v h.
        let parts = Contains-from_filter (is_on queue) items v h in
        elim (behind v parts.0 parts.1) [ inl e ↦ inl e | inr lt ↦ inr (spot-precedes queue r v on parts.1 lt) ]) tt

  module _ (places : HavePlaces items) (serials : IsSortedOnce serial_of nat_cmp items) (q : Spot × ℕ) (found : first_from spot_cmp (begin_of queue 1) rows ≡ Some q) where
    -- what was found is on another queue
    pub first-other : same_qname q.0.jobq queue ≡ false → first_on queue items ≡ None
    first-other other =
        let s = index.sound q (find-Some from rows q found).0 in
        first-elsewhere places s.0 s.3 (found ∙ ap Some s.1) (ap (λ (p : Spot × ℕ). same_qname p.0.jobq queue) (sym s.1) ∙ other)

    -- what was found is the first
    pub first-found : same_qname q.0.jobq queue ≡ true → first_on queue items ≡ with_key serial_of nat_eq q.1 items
    first-found on =
        let s = index.sound q (find-Some from rows q found).0 in
        first-here places s.0 s.3 (found ∙ ap Some s.1) (ap (λ (p : Spot × ℕ). same_qname p.0.jobq queue) (sym s.1) ∙ on)
        ∙ (sym (found-there items serials s.0 s.3) ∙ ap (λ (p : Spot × ℕ). with_key serial_of nat_eq p.1 items) (sym s.1))
