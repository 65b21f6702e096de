-- The next of the jobs on a queue stands at the first spot above that of the one before it.
use Rattle.std.proofs.Common.{◌≡◌, ◌⊎◌, ℕ, Bool, true, false, ◌&&◌, ◌||◌, ◌==◌, nat_lt, List, Some, None, fold, inl, inr, refl, ap, sym, ◌∙◌, arith, Contains, nat_eq}
use Rattle.std.specs.List.{filter}
use Rattle.std.specs.declared.cmp.Ordering.{Ordering}
use Rattle.std.specs.declared.cmp.Ordering.TheVariants.{Less, Equal, Greater}
use Rattle.std.specs.Ordering.{is_lt, is_gt, is_eq, nat_cmp, ordering_then}
use mathlib.Core.Bool.{false≢true}
use Rattle.std.proofs.lemmas.Bool.{cases_Bool}
use Rattle.std.proofs.lemmas.Bool.Decides.{nat_tests}
use Rattle.std.proofs.lemmas.Cmp.{alike_right}
use Rattle.wm_desc.specs.Sorted.{IsSortedOnce, with_key}
use Rattle.wm_desc.specs.Table.{same_qname, qname_cmp}
use Rattle.wm_desc.proofs.Tables.{qname_total, qname_ties}
use Rattle.wm_ordered.specs.Ordered.{key_of, first_above}
use Rattle.wm_ordered.proofs.Members.{Contains-filter, Contains-from_filter, filter-empty, find-Some, find-None, find-before}
use Rattle.wm_ordered.specs.declared.waiter.Waiter.{Waiter}
use Rattle.wm_ordered.specs.declared.keys.Spot.{Spot}
use Rattle.wm_ordered.specs.Keys.{spot_of}
use Rattle.wm_ordered.specs.Index.{IsIndex}
use Rattle.wm_ordered.specs.Orders.{spot_cmp}
use Rattle.wm_ordered.specs.Waiting.{serial_of, HavePlaces, is_on, is_before, earlier, next_on}
use Rattle.wm_ordered.proofs.Lines.{fold-earlier, same-queue, spot-precedes}
use Rattle.wm_ordered.proofs.Marks.{found-there}
use Rattle.wm_ordered.proofs.Orders.{between, spot_cmp-fields}

greater-behind : (p q m n : ℕ) → (nat_lt q p || (q == p && nat_lt n m)) ≡ true → is_gt (ordering_then (nat_cmp p q) (nat_cmp m n)) ≡ true
greater-behind p q m n h = grind (arith, nat_tests)

behind-greater : (p q m n : ℕ) → is_gt (ordering_then (nat_cmp p q) (nat_cmp m n)) ≡ true → (nat_lt q p || (q == p && nat_lt n m)) ≡ true
behind-greater p q m n h = grind (arith, nat_tests)

greater-not_less : (o : Ordering) → is_gt o ≡ true → is_lt o ≡ false
greater-not_less Less h = absurd (false≢true h)
greater-not_less Equal h = refl
greater-not_less Greater h = refl

module _ (after : Waiter) where
  -- of one on the queue the spot tells whether it comes behind
  spot-on : (v : Waiter) → is_on after.jobq v ≡ true → spot_cmp (spot_of v) (spot_of after) ≡ ordering_then (nat_cmp v.pty after.pty) (nat_cmp v.place after.place)
  spot-on v on = spot_cmp-fields (spot_of v) (spot_of after) ∙ ap (λ o. ordering_then o (ordering_then (nat_cmp v.pty after.pty) (nat_cmp v.place after.place))) (same-queue after.jobq v on)

  -- what stands between it and another on its queue is on it
  on-between : (r w : Waiter) → is_on after.jobq w ≡ true → is_lt (spot_cmp (spot_of r) (spot_of after)) ≡ false → spot_cmp (spot_of r) (spot_of w) ≡ Less → is_on after.jobq r ≡ true
  on-between r w on low high =
      let same : qname_cmp r.jobq w.jobq ≡ qname_cmp r.jobq after.jobq = alike_right qname_total w.jobq after.jobq r.jobq (same-queue after.jobq w on) in
      let here : qname_cmp r.jobq after.jobq ≡ Equal = between _ _ _ _ (ap is_lt (sym (spot_cmp-fields (spot_of r) (spot_of after))) ∙ low) (sym (spot_cmp-fields (spot_of r) (spot_of w)) ∙ high) same in
      qname_ties r.jobq after.jobq ∙ ap is_eq here

  module _ (items : List Waiter) (rows : List (Spot × ℕ)) (index : IsIndex spot_of serial_of (λ w. true) items rows) (sorted : IsSortedOnce key_of spot_cmp rows) where
    abbrev above : Spot × ℕ → Bool
    above e = is_gt (spot_cmp e.0 (spot_of after))

    row-above : (v : Waiter) → is_on after.jobq v ≡ true → is_before after v ≡ true → above (spot_of v, v.serial) ≡ true
    row-above v on behind = ap is_gt (spot-on v on) ∙ greater-behind v.pty after.pty v.place after.place behind

    none-behind : ((v : Waiter) → Contains items v → is_on after.jobq v ≡ true → is_before after v ≡ true → ⊥) → next_on after items ≡ None
    none-behind none =
        ap (λ l. fold earlier None l) (filter-empty (is_on after.jobq) (filter (is_before after) items) (λ v h.
        let parts = Contains-from_filter (is_before after) items v h in
        elim (cases_Bool (is_on after.jobq v)) [ inl on ↦ absurd (none v parts.0 on parts.1) | inr e ↦ e ]))

    pub next-absent : first_above spot_cmp (spot_of after) rows ≡ None → next_on after items ≡ None
    next-absent none = none-behind (λ v there on behind. false≢true (sym (find-None above rows (spot_of v, v.serial) none (index.whole v there refl)) ∙ row-above v on behind))

    -- the row that was found is that of r
    module _ (places : HavePlaces items) (r : Waiter) (item : Contains items r) (found : first_above spot_cmp (spot_of after) rows ≡ Some (spot_of r, r.serial)) where
      high : is_gt (spot_cmp (spot_of r) (spot_of after)) ≡ true
      high = (find-Some above rows (spot_of r, r.serial) found).1

      -- what comes behind on the queue is what was found, or stands behind it
      later : (v : Waiter) → Contains items v → is_on after.jobq v ≡ true → is_before after v ≡ true → (v ≡ r) ⊎ (spot_cmp (spot_of r) (spot_of v) ≡ Less)
      later v there on behind =
          elim (find-before (λ (a b : Spot × ℕ). spot_cmp a.0 b.0 ≡ Less) above rows (spot_of r, r.serial) (spot_of v, v.serial) sorted found (index.whole v there refl) (row-above v on behind)) [
            | inl e ↦ inl (places v r there item (ap (λ (q : Spot × ℕ). q.0.place) e))
            | inr lt ↦ inr lt
          ]

      next-elsewhere : is_on after.jobq r ≡ false → next_on after items ≡ None
      next-elsewhere other =
          none-behind (λ v there on behind. elim (later v there on behind) [
            | inl e ↦ false≢true (sym other ∙ (ap (is_on after.jobq) (sym e) ∙ on))
            | inr lt ↦ false≢true (sym other ∙ on-between r v on (greater-not_less _ high) lt)
          ])

      next-here : is_on after.jobq r ≡ true → next_on after items ≡ Some r
      next-here on =
          let behind : is_before after r ≡ true = behind-greater r.pty after.pty r.place after.place (ap is_gt (sym (spot-on r on)) ∙ high) in
          fold-earlier (filter (is_on after.jobq) (filter (is_before after) items)) None r
          (Contains-filter (is_on after.jobq) (filter (is_before after) items) r (Contains-filter (is_before after) items r item behind) on)
          (λ v h.
          let its = Contains-from_filter (is_on after.jobq) (filter (is_before after) items) v h in
          let parts = Contains-from_filter (is_before after) items v its.0 in
          elim (later v parts.0 its.1 parts.1) [ inl e ↦ inl e | inr lt ↦ inr (spot-precedes after.jobq r v on its.1 lt) ]) tt

    module _ (places : HavePlaces items) (serials : IsSortedOnce serial_of nat_cmp items) (q : Spot × ℕ) (found : first_above spot_cmp (spot_of after) rows ≡ Some q) where
      -- what was found is on another queue
      pub next-other : same_qname q.0.jobq after.jobq ≡ false → next_on after items ≡ None
      next-other other =
          let s = index.sound q (find-Some above rows q found).0 in
          next-elsewhere places s.0 s.3 (found ∙ ap Some s.1) (ap (λ (p : Spot × ℕ). same_qname p.0.jobq after.jobq) (sym s.1) ∙ other)

      -- what was found is the next
      pub next-found : same_qname q.0.jobq after.jobq ≡ true → next_on after items ≡ with_key serial_of nat_eq q.1 items
      next-found on =
          let s = index.sound q (find-Some above rows q found).0 in
          next-here places s.0 s.3 (found ∙ ap Some s.1) (ap (λ (p : Spot × ℕ). same_qname p.0.jobq after.jobq) (sym s.1) ∙ on)
          ∙ (sym (found-there items serials s.0 s.3) ∙ ap (λ (p : Spot × ℕ). with_key serial_of nat_eq p.1 items) (sym s.1))
