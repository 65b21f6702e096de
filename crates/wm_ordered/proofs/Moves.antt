-- A job takes the place of the one of its serial: what its rows are afterwards.
use Rattle.std.proofs.Common.{◌≡◌, ℕ, ◌≤◌, Bool, true, false, not, List, length, inl, inr, ap, sym, ◌∙◌, subst, arith, Contains, nat_eq}
use Rattle.std.specs.List.{insert}
use Rattle.std.specs.declared.cmp.Ordering.{Ordering}
use Rattle.std.specs.declared.cmp.Ordering.TheVariants.{Equal}
use Rattle.std.specs.Ordering.{nat_cmp}
use Rattle.std.proofs.lemmas.Bool.{cases_Bool, not_from_true, eqb-true}
use Rattle.wm_desc.specs.Sorted.{IsSortedOnce, place_of, removed}
use Rattle.wm_ordered.specs.Ordered.{Pairs, key_of}
use Rattle.wm_ordered.proofs.Members.{find-Some, filter-less}
use Rattle.wm_ordered.specs.declared.waiter.Waiter.{Waiter}
use Rattle.wm_ordered.specs.declared.keys.Spot.{Spot}
use Rattle.wm_ordered.specs.declared.keys.Rise.{Rise}
use Rattle.wm_ordered.specs.Index.{IsIndex, capacity_of}
use Rattle.wm_ordered.specs.Keys.{spot_of, rise_of}
use Rattle.wm_ordered.specs.Moving.{IsFoundBy, Replaces}
use Rattle.wm_ordered.specs.Orders.{same_spot, same_rise}
use Rattle.wm_ordered.specs.Waiting.{serial_of, replaced}
use Rattle.wm_ordered.proofs.Agreement.{apart-spots, apart-rises}
use Rattle.wm_ordered.proofs.IndexLemmas.{index-length, index-left, index-shrinks}
use Rattle.wm_ordered.proofs.Marks.{named, alone, replaced-Some, lacks-serial, lacks-place, Contains-replaced_new, Contains-replaced_old, Contains-replaced_cases}
use Rattle.wm_ordered.proofs.Orders.{same_spot-place, same_rise-serial, same_spot-itself, same_rise-itself}

module _ (serial : ℕ) (w : Waiter) (items : List Waiter) (by : IsFoundBy serial w items) where
  pub found-item : Contains items w
  found-item = (find-Some (λ (v : Waiter). nat_eq v.serial serial) items w by.found).0

  pub found-named : nat_eq w.serial serial ≡ true
  found-named = named serial w items by.sorted by.found

  found-alone : (v : Waiter) → Contains items v → nat_eq v.serial serial ≡ true → v ≡ w
  found-alone = alone serial w items by.sorted by.found

  -- one that has no row goes out
  pub found-left : {K V : Type 0} (key : Waiter → K) (told : Waiter → V) (test : Waiter → Bool) (rows : List (K × V)) → IsIndex key told test items rows → test w ≡ false → IsIndex key told test (removed serial_of nat_eq serial items) rows
  found-left key told test rows index fails = index-left key told test items rows index w (λ v. nat_eq v.serial serial) found-named found-alone fails

  module _ {V : Type 0} (told : Waiter → V) (test : Waiter → Bool) where
    -- one goes out with its spot
    pub spot-shrinks : (rows : List (Spot × V)) → IsIndex spot_of told test items rows → IsIndex spot_of told test (removed serial_of nat_eq serial items) (removed key_of same_spot (spot_of w) rows)
    spot-shrinks rows index = index-shrinks spot_of told test items rows index w (λ v. nat_eq v.serial serial) found-named found-alone same_spot (same_spot-itself w) (λ v there e. by.places v w there found-item (same_spot-place v w e))

    -- one goes out with its moment
    pub rise-shrinks : (rows : List (Rise × V)) → IsIndex rise_of told test items rows → IsIndex rise_of told test (removed serial_of nat_eq serial items) (removed key_of same_rise (rise_of w) rows)
    rise-shrinks rows index = index-shrinks rise_of told test items rows index w (λ v. nat_eq v.serial serial) found-named found-alone same_rise (same_rise-itself w) (λ v there e. found-alone v there (ap (λ n. nat_eq n serial) (same_rise-serial v w e) ∙ found-named))

module _ (new old : Waiter) (items : List Waiter) (replaces : Replaces new old items) where
  abbrev left : List Waiter
  left = removed serial_of nat_eq new.serial items

  pub found-serial : old.serial ≡ new.serial
  found-serial = eqb-true old.serial new.serial (found-named new.serial old items replaces.old_one)

  -- the old one goes out, and the new one comes in
  pub in_its_place : {K V : Type 0} (key : Waiter → K) (told : Waiter → V) (test : Waiter → Bool) (rows : List (K × V)) → IsIndex key told test (insert left (place_of serial_of nat_cmp new.serial left) new) rows → IsIndex key told test (replaced new items) rows
  in_its_place key told test rows index = subst (λ l. IsIndex key told test l rows) (replaced-Some new old items replaces.old_one.sorted replaces.old_one.found) index

  -- both have the same row, or none
  pub index-stays : {K V : Type 0} (key : Waiter → K) (told : Waiter → V) (test : Waiter → Bool) (rows : List (K × V)) → IsIndex key told test items rows → test old ≡ test new → (test old ≡ true → key old ≡ key new) → told old ≡ told new → IsIndex key told test (replaced new items) rows
  index-stays {K} {V} key told test rows index alike same_key same_told = record {
    sound = λ r h. let s = index.sound r h in
        elim (cases_Bool (nat_eq s.0.serial new.serial)) [
          | inl e ↦ as_new r s.0 s.1 s.2 (found-alone new.serial old items replaces.old_one s.0 s.3 e)
          | inr e ↦ (s.0, s.1, s.2, Contains-replaced_old new items s.0 s.3 e)
        ];
    whole = λ v h t. elim (Contains-replaced_cases new items v h) [
      | inl e ↦ (let passes : test old ≡ true = alike ∙ (ap test e ∙ t) in
          subst (λ (u : Waiter). Contains rows (key u, told u)) e (subst (λ k. Contains rows (k, told new)) (same_key passes) (subst (λ x. Contains rows (key old, x)) same_told (index.whole old (found-item new.serial old items replaces.old_one) passes))))
      | inr was ↦ index.whole v was.0 t
    ];
  }
    where
      there : Contains (replaced new items) new
      there = Contains-replaced_new new items old (found-item new.serial old items replaces.old_one) (found-named new.serial old items replaces.old_one)

      as_new : (r : K × V) (v : Waiter) → r ≡ (key v, told v) → test v ≡ true → v ≡ old → (w : Waiter) × (r ≡ (key w, told w)) × (test w ≡ true) × Contains (replaced new items) w
      as_new r v is passes same =
          let old_passes : test old ≡ true = ap test (sym same) ∙ passes in
          (new, is ∙ (ap (λ (u : Waiter). (key u, told u)) same ∙ (ap (λ k. (k, told old)) (same_key old_passes) ∙ ap (λ x. (key new, x)) same_told)), sym alike ∙ old_passes, there)

  -- no row has its keys while the old one is out
  pub left-spot : (v : Waiter) → Contains left v → same_spot (spot_of v) (spot_of new) ≡ false
  left-spot v there = apart-spots new left (lacks-place new items replaces.own) v there

  pub left-rise : (v : Waiter) → Contains left v → same_rise (rise_of v) (rise_of new) ≡ false
  left-rise v there = apart-rises new left (lacks-serial new items) v there

  -- and there is room for one
  pub left-room : {K V : Type 0} (key : Waiter → K) (told : Waiter → V) (test : Waiter → Bool) (cmp : K → K → Ordering) → ((k : K) → cmp k k ≡ Equal) → (rows was : Pairs K V) → IsIndex key told test left rows.items → IsSortedOnce key_of cmp rows.items → length items ≤ capacity_of was → capacity_of rows ≡ capacity_of was → 1 ≤ rows.spare
  left-room key told test cmp itself rows was index sorted room same =
      let few = index-length key told test left rows.items index cmp itself sorted in
      let less = filter-less (λ (v : Waiter). not (nat_eq v.serial new.serial)) items old (found-item new.serial old items replaces.old_one) (not_from_true _ (found-named new.serial old items replaces.old_one)) in
      omega (arith, few, less, room, same)
