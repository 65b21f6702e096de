-- The next head of a queue stands at the first spot from the begin of a priority on.
use Rattle.std.proofs.Common.{◌≡◌, ◌⊎◌, ℕ, ◌<◌, ◌≤◌, Bool, true, false, not, ◌&&◌, ◌==◌, List, Some, None, inl, inr, refl, ap, sym, ◌∙◌, arith, Contains, nat_eq, eq-eqb}
use Rattle.std.specs.declared.cmp.Ordering.TheVariants.{Less, Equal}
use Rattle.std.specs.Ordering.{is_lt, is_eq, nat_cmp, ordering_then}
use mathlib.Core.Bool.{false≢true}
use Rattle.std.proofs.lemmas.Bool.{cases_Bool, not-true, not_from_false, and_parts, eqb-true}
use Rattle.std.proofs.lemmas.Bool.Decides.{nat_tests}
use Rattle.std.proofs.lemmas.Cmp.{alike_right}
use Rattle.wm_base.specs.declared.qname.QName.{QName}
use Rattle.wm_base.proofs.Orderings.{is_eq-Equal}
use Rattle.wm_desc.specs.Sorted.{IsSortedOnce, with_key}
use Rattle.wm_desc.specs.Table.{same_qname, qname_cmp}
use Rattle.wm_desc.proofs.Tables.{qname_total, qname_ties}
use Rattle.wm_ordered.specs.Ordered.{key_of, first_from}
use Rattle.wm_ordered.proofs.Members.{find-Some, find-None, find-before}
use Rattle.wm_ordered.specs.declared.waiter.Waiter.{Waiter}
use Rattle.wm_ordered.specs.declared.keys.Spot.{Spot}
use Rattle.wm_ordered.specs.Keys.{spot_of}
use Rattle.wm_ordered.specs.Index.{IsIndex}
use Rattle.wm_ordered.specs.NextHeads.{HasNoHead, IsNextHead}
use Rattle.wm_ordered.specs.Orders.{spot_cmp}
use Rattle.wm_ordered.specs.Waiting.{serial_of, HavePlaces, is_of, is_on, is_up, is_turn, head_of}
use Rattle.wm_ordered.proofs.Heads.{head-None, head-Some}
use Rattle.wm_ordered.proofs.Marks.{found-there}
use Rattle.wm_ordered.proofs.Orders.{begin_of, between, lesser_place, spot_cmp-fields, then_Less}

not_below : (m n p : ℕ) → p ≤ m → is_lt (ordering_then (nat_cmp m p) (nat_cmp n 0)) ≡ false
not_below m n p le = grind (arith, nat_tests)

le_from_not_below : (m n p : ℕ) → is_lt (ordering_then (nat_cmp m p) (nat_cmp n 0)) ≡ false → p ≤ m
le_from_not_below m n p h = grind (arith, nat_tests)

le_from_less : (p q m n : ℕ) → ordering_then (nat_cmp p q) (nat_cmp m n) ≡ Less → p ≤ q
le_from_less p q m n h = grind (arith, nat_tests)

module _ (queue : QName) where
  -- one of a priority is on the queue
  parts : (p : ℕ) (v : Waiter) → is_of queue p v ≡ true → (is_on queue v ≡ true) × (v.pty ≡ p)
  parts p v of = let both = and_parts (same_qname v.jobq queue) (v.pty == p) of in (both.0, eqb-true v.pty p both.1)

  same-queue : (v : Waiter) → is_on queue v ≡ true → qname_cmp v.jobq queue ≡ Equal
  same-queue v on = is_eq-Equal _ (sym (qname_ties v.jobq queue) ∙ on)

  own : (v : Waiter) → is_on queue v ≡ true → is_of queue v.pty v ≡ true
  own v on = ap (λ (b : Bool). b && (v.pty == v.pty)) on ∙ eq-eqb v.pty v.pty refl

  begin-fields : (pty : ℕ) (v : Waiter) → is_on queue v ≡ true → spot_cmp (spot_of v) (begin_of queue pty) ≡ ordering_then (nat_cmp v.pty pty) (nat_cmp v.place 0)
  begin-fields pty v on = spot_cmp-fields (spot_of v) (begin_of queue pty) ∙ ap (λ o. ordering_then o (ordering_then (nat_cmp v.pty pty) (nat_cmp v.place 0))) (same-queue v on)

  alike : (r v : Waiter) → is_on queue v ≡ true → qname_cmp r.jobq v.jobq ≡ qname_cmp r.jobq queue
  alike r v on = alike_right qname_total v.jobq queue r.jobq (same-queue v on)

  -- what stands between the begin of a priority and one on the queue is on it
  on-between : (pty : ℕ) (r v : Waiter) → is_on queue v ≡ true → is_lt (spot_cmp (spot_of r) (begin_of queue pty)) ≡ false → spot_cmp (spot_of r) (spot_of v) ≡ Less → is_on queue r ≡ true
  on-between pty r v on low high =
      let here : qname_cmp r.jobq queue ≡ Equal = between _ _ _ _ (ap is_lt (sym (spot_cmp-fields (spot_of r) (begin_of queue pty))) ∙ low) (sym (spot_cmp-fields (spot_of r) (spot_of v)) ∙ high) (alike r v on) in
      qname_ties r.jobq queue ∙ ap is_eq here

  -- of two on the queue the one of lesser spot has no greater priority
  pty-first : (r v : Waiter) → is_on queue r ≡ true → is_on queue v ≡ true → spot_cmp (spot_of r) (spot_of v) ≡ Less → r.pty ≤ v.pty
  pty-first r v on_r on_v less =
      let rest : ordering_then (nat_cmp r.pty v.pty) (nat_cmp r.place v.place) ≡ Less = then_Less _ _ (sym (spot_cmp-fields (spot_of r) (spot_of v)) ∙ less) (alike r v on_v ∙ same-queue r on_r) in
      le_from_less r.pty v.pty r.place v.place rest

module _ (queue : QName) (pty clock : ℕ) (items : List Waiter) (rows : List (Spot × ℕ)) (index : IsIndex spot_of serial_of (is_up clock) items rows) (sorted : IsSortedOnce key_of spot_cmp rows) where
  abbrev from : Spot × ℕ → Bool
  from e = not (is_lt (spot_cmp e.0 (begin_of queue pty)))

  row-from : (p : ℕ) (v : Waiter) → pty ≤ p → is_of queue p v ≡ true → from (spot_of v, v.serial) ≡ true
  row-from p v le of =
      let is = parts queue p v of in
      let same : v.pty ≡ p = is.1 in
      not_from_false _ (ap is_lt (begin-fields queue pty v is.0) ∙ not_below v.pty v.place pty (omega (arith, same, le)))

  -- a priority has no head where none of it may have its turn
  none-at : (p : ℕ) → ((v : Waiter) → Contains items v → is_of queue p v ≡ true → is_up clock v ≡ true → ⊥) → head_of queue p clock items ≡ None
  none-at p none =
      head-None queue p clock items (λ v there. elim (cases_Bool (is_turn queue p clock v)) [
        | inl turn ↦ (let both = and_parts (is_of queue p v) (is_up clock v) turn in absurd (none v there both.0 both.1))
        | inr e ↦ e
      ])

  pub next_head-absent : first_from spot_cmp (begin_of queue pty) rows ≡ None → HasNoHead queue pty clock items
  next_head-absent none p le =
      none-at p (λ v there of up. false≢true (sym (find-None from rows (spot_of v, v.serial) none (index.whole v there up)) ∙ row-from p v le of))

  -- the row that was found is that of r
  module _ (places : HavePlaces items) (r : Waiter) (item : Contains items r) (up : is_up clock r ≡ true) (found : first_from spot_cmp (begin_of queue pty) rows ≡ Some (spot_of r, r.serial)) where
    low : is_lt (spot_cmp (spot_of r) (begin_of queue pty)) ≡ false
    low = not-true _ (find-Some from rows (spot_of r, r.serial) found).1

    -- what may have its turn is what was found, or stands behind it
    behind : (p : ℕ) (v : Waiter) → Contains items v → pty ≤ p → is_of queue p v ≡ true → is_up clock v ≡ true → (v ≡ r) ⊎ (spot_cmp (spot_of r) (spot_of v) ≡ Less)
    behind p v there le of up_v =
        elim (find-before (λ (a b : Spot × ℕ). spot_cmp a.0 b.0 ≡ Less) from rows (spot_of r, r.serial) (spot_of v, v.serial) sorted found (index.whole v there up_v) (row-from p v le of)) [
          | inl e ↦ inl (places v r there item (ap (λ (q : Spot × ℕ). q.0.place) e))
          | inr lt ↦ inr lt
        ]

    elsewhere : is_on queue r ≡ false → HasNoHead queue pty clock items
    elsewhere other p le =
        none-at p (λ v there of up_v. elim (behind p v there le of up_v) [
          | inl e ↦ false≢true (sym other ∙ (ap (is_on queue) (sym e) ∙ (parts queue p v of).0))
          | inr lt ↦ false≢true (sym other ∙ on-between queue pty r v (parts queue p v of).0 low lt)
        ])

    module _ (on : is_on queue r ≡ true) where
      reached : pty ≤ r.pty
      reached = le_from_not_below r.pty r.place pty (ap is_lt (sym (begin-fields queue pty r on)) ∙ low)

      at-head : head_of queue r.pty clock items ≡ Some r
      at-head =
          head-Some queue r.pty clock items r item (rw (own queue r on, up) refl) (λ v there turn.
          let both = and_parts (is_of queue r.pty v) (is_up clock v) turn in
          elim (behind r.pty v there reached both.0 both.1) [ inl e ↦ inl e | inr lt ↦ inr (lesser_place queue r.pty r v (own queue r on) both.0 lt) ])

      not-before : (p : ℕ) (v : Waiter) → p < r.pty → is_of queue p v ≡ true → (v ≡ r) ⊎ (spot_cmp (spot_of r) (spot_of v) ≡ Less) → ⊥
      not-before p v less of (inl e) =
          let pty_v : v.pty ≡ p = (parts queue p v of).1 in
          let same : v.pty ≡ r.pty = ap (λ (u : Waiter). u.pty) e in
          omega arith
      not-before p v less of (inr lt) =
          let is = parts queue p v of in
          let pty_v : v.pty ≡ p = is.1 in
          let le : r.pty ≤ v.pty = pty-first queue r v on is.0 lt in
          omega arith

      here : IsNextHead queue pty clock items r
      here = record { from = reached; head = at-head; first = λ p le less. none-at p (λ v there of up_v. not-before p v less of (behind p v there le of up_v)) }

  module _ (places : HavePlaces items) (serials : IsSortedOnce serial_of nat_cmp items) (q : Spot × ℕ) (found : first_from spot_cmp (begin_of queue pty) rows ≡ Some q) where
    -- what was found is on another queue
    pub next_head-other : same_qname q.0.jobq queue ≡ false → HasNoHead queue pty clock items
    next_head-other other =
        let s = index.sound q (find-Some from rows q found).0 in
        elsewhere places s.0 s.3 s.2 (found ∙ ap Some s.1) (ap (λ (p : Spot × ℕ). same_qname p.0.jobq queue) (sym s.1) ∙ other)

    -- what was found is the next head
    pub next_head-found : same_qname q.0.jobq queue ≡ true → (w : Waiter) × (with_key serial_of nat_eq q.1 items ≡ Some w) × IsNextHead queue pty clock items w
    next_head-found on =
        let s = index.sound q (find-Some from rows q found).0 in (
          s.0,
          ap (λ (p : Spot × ℕ). with_key serial_of nat_eq p.1 items) s.1 ∙ found-there items serials s.0 s.3,
          here places s.0 s.3 s.2 (found ∙ ap Some s.1) (ap (λ (p : Spot × ℕ). same_qname p.0.jobq queue) (sym s.1) ∙ on),
        )
