-- What the edits of a `WaitingJobs` leave of its agreement.
use Rattle.std.proofs.Common.{◌≡◌, ℕ, ◌+◌, ◌-◌, ◌^◌, ◌<◌, ◌≤◌, true, false, not, ◌==◌, List, length, map, Option, Some, None, option_map, is_some, inl, inr, refl, ap, sym, ◌∙◌, subst, arith, Contains, nat_eq, cond, eq-eqb}
use Rattle.std.specs.List.{insert}
use Rattle.std.specs.Cmp.{unsigned_ties}
use Rattle.std.specs.Ordering.{nat_cmp}
use mathlib.Core.Bool.{false≢true}
use Rattle.std.proofs.lemmas.Bool.{cases_Bool, not_from_false}
use Rattle.std.proofs.lemmas.Cmp.{nat_cmp_total}
use Rattle.std.proofs.lemmas.List.{length-map}
use Rattle.wm_desc.specs.Sorted.{IsSortedOnce, with_key, has_key, place_of, added, removed}
use Rattle.wm_ordered.specs.Ordered.{Pairs, key_of, value_at, with_value}
use Rattle.wm_ordered.proofs.Keyed.{length-added, length-removed}
use Rattle.wm_ordered.proofs.Members.{Contains-insert_cases, Contains-from_filter, find-Some, find-None, filter-whole, list_any-false}
use Rattle.wm_ordered.specs.declared.waiter.Waiter.{Waiter}
use Rattle.wm_ordered.specs.declared.keys.Spot.{Spot}
use Rattle.wm_ordered.specs.declared.keys.Rise.{Rise}
use Rattle.wm_ordered.specs.Index.{IsIndex, capacity_of}
use Rattle.wm_ordered.specs.Keys.{row_of, waiters_of, spot_of, rise_of, nothing_of}
use Rattle.wm_ordered.specs.Orders.{same_spot, same_rise}
use Rattle.wm_ordered.specs.Waiting.{serial_of, has_place, HavePlaces, HavePriorities, HasOwnPlace, is_up, is_ahead, replaced}
use Rattle.wm_ordered.specs.WaitingInside.{Agrees}
use Rattle.wm_ordered.proofs.IndexLemmas.{index-shrinks}
use Rattle.wm_ordered.proofs.Marks.{alone as only, Contains-replaced_cases}
use Rattle.wm_ordered.proofs.Orders.{same_spot-place, same_rise-serial, same_spot-itself, same_rise-itself}
use Rattle.wm_ordered.proofs.Rows.{keyed-added, waiters-added, keyed-removed, waiters-removed, value-waiter, sorted-waiters, keyed-replaced, waiters-replaced}

-- a waiter whose place is new has a spot of its own
pub apart-spots : (w : Waiter) (items : List Waiter) → has_place w.place items ≡ false → (v : Waiter) → Contains items v → same_spot (spot_of v) (spot_of w) ≡ false
apart-spots w items fresh v there =
    elim (cases_Bool (same_spot (spot_of v) (spot_of w))) [
      | inl e ↦ absurd (false≢true (sym (list_any-false (λ (u : Waiter). u.place == w.place) items v fresh there) ∙ eq-eqb v.place w.place (same_spot-place v w e)))
      | inr e ↦ e
    ]

-- one whose serial is new has a rise of its own
pub apart-rises : (w : Waiter) (items : List Waiter) → has_key serial_of nat_eq w.serial items ≡ false → (v : Waiter) → Contains items v → same_rise (rise_of v) (rise_of w) ≡ false
apart-rises w items fresh v there =
    elim (cases_Bool (same_rise (rise_of v) (rise_of w))) [
      | inl e ↦ absurd (false≢true (sym (list_any-false (λ (u : Waiter). nat_eq u.serial w.serial) items v fresh there) ∙ eq-eqb v.serial w.serial (same_rise-serial v w e)))
      | inr e ↦ e
    ]

-- places stay distinct
places-insert : (w : Waiter) (items : List Waiter) (i : ℕ) → has_place w.place items ≡ false → HavePlaces items → HavePlaces (insert items i w)
places-insert w items i fresh places u v u_there v_there same =
    elim (Contains-insert_cases items i w u u_there) [
      | inl w_u ↦ elim (Contains-insert_cases items i w v v_there) [
        | inl w_v ↦ sym w_u ∙ w_v
        | inr v_old ↦ absurd (other v v_old (sym same ∙ ap (λ (x : Waiter). x.place) (sym w_u)))
      ]
      | inr u_old ↦ elim (Contains-insert_cases items i w v v_there) [
        | inl w_v ↦ absurd (other u u_old (same ∙ ap (λ (x : Waiter). x.place) (sym w_v)))
        | inr v_old ↦ places u v u_old v_old same
      ]
    ]
  where
    other : (x : Waiter) → Contains items x → x.place ≡ w.place → ⊥
    other x there e = false≢true (sym (list_any-false (λ (u : Waiter). u.place == w.place) items x fresh there) ∙ eq-eqb x.place w.place e)

priorities-insert : (w : Waiter) (items : List Waiter) (i : ℕ) → (1 ≤ w.pty) × (w.pty ≤ 9) → HavePriorities items → HavePriorities (insert items i w)
priorities-insert w items i here all v there =
    elim (Contains-insert_cases items i w v there) [ inl e ↦ subst (λ (x : Waiter). (1 ≤ x.pty) × (x.pty ≤ 9)) e here | inr old ↦ all v old ]

-- places stay distinct where the one that comes in has its own
places-replaced : (w : Waiter) (items : List Waiter) → HasOwnPlace w items → HavePlaces items → HavePlaces (replaced w items)
places-replaced w items own places u v u_there v_there same =
    elim (Contains-replaced_cases w items u u_there) [
      | inl w_u ↦ elim (Contains-replaced_cases w items v v_there) [
        | inl w_v ↦ sym w_u ∙ w_v
        | inr v_old ↦ absurd (other v v_old.0 v_old.1 (sym same ∙ ap (λ (x : Waiter). x.place) (sym w_u)))
      ]
      | inr u_old ↦ elim (Contains-replaced_cases w items v v_there) [
        | inl w_v ↦ absurd (other u u_old.0 u_old.1 (same ∙ ap (λ (x : Waiter). x.place) (sym w_v)))
        | inr v_old ↦ places u v u_old.0 v_old.0 same
      ]
    ]
  where
    other : (x : Waiter) → Contains items x → nat_eq x.serial w.serial ≡ false → x.place ≡ w.place → ⊥
    other x there apart e = false≢true (sym apart ∙ eq-eqb x.serial w.serial (own x there e))

priorities-replaced : (w : Waiter) (items : List Waiter) → (1 ≤ w.pty) × (w.pty ≤ 9) → HavePriorities items → HavePriorities (replaced w items)
priorities-replaced w items here all v there =
    elim (Contains-replaced_cases w items v there) [ inl e ↦ subst (λ (x : Waiter). (1 ≤ x.pty) × (x.pty ≤ 9)) e here | inr old ↦ all v old.0 ]

module _ (by_serial : Pairs ℕ Waiter) (by_spot : Pairs Spot ℕ) (by_rise : Pairs Rise (Unit {0})) (by_line : Pairs Spot ℕ) (clock spare : ℕ) (agrees : Agrees by_serial by_spot by_rise by_line clock spare) where
  abbrev items : List Waiter
  items = waiters_of by_serial.items

  -- the same rows, with other room
  pub agrees-roomier : (all : Pairs ℕ Waiter) (turns : Pairs Spot ℕ) (early : Pairs Rise (Unit {0})) (lines : Pairs Spot ℕ) (room : ℕ) → all.items ≡ by_serial.items → turns.items ≡ by_spot.items → early.items ≡ by_rise.items → lines.items ≡ by_line.items → length all.items + room < 2 ^ 32 → length all.items + room ≤ capacity_of all → length all.items + room ≤ capacity_of turns → length all.items + room ≤ capacity_of early → length all.items + room ≤ capacity_of lines → Agrees all turns early lines clock room
  agrees-roomier all turns early lines room same_all same_turns same_early same_lines most in_all in_turns in_early in_lines = record {
    keyed = subst (λ l. l ≡ map row_of (waiters_of l)) (sym same_all) agrees.keyed;
    places = subst (λ (l : List (ℕ × Waiter)). HavePlaces (waiters_of l)) (sym same_all) agrees.places;
    priorities = subst (λ (l : List (ℕ × Waiter)). HavePriorities (waiters_of l)) (sym same_all) agrees.priorities;
    turns = subst (λ (l : List (ℕ × Waiter)). IsIndex spot_of serial_of (is_up clock) (waiters_of l) turns.items) (sym same_all) (subst (λ l. IsIndex spot_of serial_of (is_up clock) items l) (sym same_turns) agrees.turns);
    early = subst (λ (l : List (ℕ × Waiter)). IsIndex rise_of nothing_of (is_ahead clock) (waiters_of l) early.items) (sym same_all) (subst (λ l. IsIndex rise_of nothing_of (is_ahead clock) items l) (sym same_early) agrees.early);
    lines = subst (λ (l : List (ℕ × Waiter)). IsIndex spot_of serial_of (λ w. true) (waiters_of l) lines.items) (sym same_all) (subst (λ l. IsIndex spot_of serial_of (λ w. true) items l) (sym same_lines) agrees.lines);
    most = most;
    room = in_all;
    room_in_turns = in_turns;
    room_in_early = in_early;
    room_in_lines = in_lines;
  }

  -- a waiter more
  pub agrees-insert : (w : Waiter) (all : Pairs ℕ Waiter) (turns : Pairs Spot ℕ) (early : Pairs Rise (Unit {0})) (lines : Pairs Spot ℕ) → 1 ≤ spare → has_place w.place items ≡ false → (1 ≤ w.pty) × (w.pty ≤ 9)
      → all.items ≡ added key_of nat_cmp (row_of w) by_serial.items → by_serial.spare ≡ all.spare + 1
      → ((ws : List Waiter) (i : ℕ) → IsIndex spot_of serial_of (is_up clock) ws by_spot.items → IsIndex spot_of serial_of (is_up clock) (insert ws i w) turns.items)
      → ((ws : List Waiter) (i : ℕ) → IsIndex rise_of nothing_of (is_ahead clock) ws by_rise.items → IsIndex rise_of nothing_of (is_ahead clock) (insert ws i w) early.items)
      → ((ws : List Waiter) (i : ℕ) → IsIndex spot_of serial_of (λ v. true) ws by_line.items → IsIndex spot_of serial_of (λ v. true) (insert ws i w) lines.items)
      → capacity_of turns ≡ capacity_of by_spot → capacity_of early ≡ capacity_of by_rise → capacity_of lines ≡ capacity_of by_line → Agrees all turns early lines clock (spare - 1)
  agrees-insert w all turns early lines some fresh pty is less in_turns in_early in_lines same_turns same_early same_lines =
      let new : waiters_of all.items ≡ added serial_of nat_cmp w items = ap (λ (l : List (ℕ × Waiter)). waiters_of l) is ∙ waiters-added by_serial.items agrees.keyed nat_cmp w in
      let i : ℕ = place_of serial_of nat_cmp w.serial items in
      let more : length all.items ≡ length by_serial.items + 1 = ap (λ (l : List (ℕ × Waiter)). length l) is ∙ length-added key_of nat_cmp (row_of w) by_serial.items in
      record {
        keyed = subst (λ l. l ≡ map row_of (waiters_of l)) (sym is) (keyed-added by_serial.items agrees.keyed nat_cmp w);
        places = subst HavePlaces (sym new) (places-insert w items i fresh agrees.places);
        priorities = subst HavePriorities (sym new) (priorities-insert w items i pty agrees.priorities);
        turns = subst (λ l. IsIndex spot_of serial_of (is_up clock) l turns.items) (sym new) (in_turns items i agrees.turns);
        early = subst (λ l. IsIndex rise_of nothing_of (is_ahead clock) l early.items) (sym new) (in_early items i agrees.early);
        lines = subst (λ l. IsIndex spot_of serial_of (λ v. true) l lines.items) (sym new) (in_lines items i agrees.lines);
        most = omega (arith, more, some, agrees.most);
        room = omega (arith, more, some, less, agrees.room);
        room_in_turns = omega (arith, more, some, same_turns, agrees.room_in_turns);
        room_in_early = omega (arith, more, some, same_early, agrees.room_in_early);
        room_in_lines = omega (arith, more, some, same_lines, agrees.room_in_lines);
      }

  -- a waiter in the place of the one of its serial
  pub agrees-replace : (w : Waiter) (all : Pairs ℕ Waiter) (turns : Pairs Spot ℕ) (early : Pairs Rise (Unit {0})) (lines : Pairs Spot ℕ) → HasOwnPlace w items → (1 ≤ w.pty) × (w.pty ≤ 9)
      → all.items ≡ with_value nat_eq w.serial w by_serial.items → all.spare ≡ by_serial.spare
      → IsIndex spot_of serial_of (is_up clock) (replaced w items) turns.items → IsIndex rise_of nothing_of (is_ahead clock) (replaced w items) early.items → IsIndex spot_of serial_of (λ v. true) (replaced w items) lines.items
      → capacity_of turns ≡ capacity_of by_spot → capacity_of early ≡ capacity_of by_rise → capacity_of lines ≡ capacity_of by_line → Agrees all turns early lines clock spare
  agrees-replace w all turns early lines own pty is same in_turns in_early in_lines same_turns same_early same_lines =
      let new : waiters_of all.items ≡ replaced w items = ap (λ (l : List (ℕ × Waiter)). waiters_of l) is ∙ waiters-replaced by_serial.items agrees.keyed w in
      let n : length all.items ≡ length by_serial.items = ap (λ (l : List (ℕ × Waiter)). length l) is ∙ length-map by_serial.items (λ r. cond (nat_eq r.0 w.serial) (r.0, w) r) in
      record {
        keyed = subst (λ l. l ≡ map row_of (waiters_of l)) (sym is) (keyed-replaced by_serial.items agrees.keyed w);
        places = subst HavePlaces (sym new) (places-replaced w items own agrees.places);
        priorities = subst HavePriorities (sym new) (priorities-replaced w items pty agrees.priorities);
        turns = subst (λ l. IsIndex spot_of serial_of (is_up clock) l turns.items) (sym new) in_turns;
        early = subst (λ l. IsIndex rise_of nothing_of (is_ahead clock) l early.items) (sym new) in_early;
        lines = subst (λ l. IsIndex spot_of serial_of (λ v. true) l lines.items) (sym new) in_lines;
        most = omega (arith, n, agrees.most);
        room = omega (arith, n, same, agrees.room);
        room_in_turns = omega (arith, n, same_turns, agrees.room_in_turns);
        room_in_early = omega (arith, n, same_early, agrees.room_in_early);
        room_in_lines = omega (arith, n, same_lines, agrees.room_in_lines);
      }

  -- a later clock
  pub agrees-due : (now : ℕ) (turns : Pairs Spot ℕ) (early : Pairs Rise (Unit {0})) → IsIndex spot_of serial_of (is_up now) items turns.items → IsIndex rise_of nothing_of (is_ahead now) items early.items
      → capacity_of turns ≡ capacity_of by_spot → capacity_of early ≡ capacity_of by_rise → Agrees by_serial turns early by_line now spare
  agrees-due now turns early in_turns in_early same_turns same_early = record {
    keyed = agrees.keyed;
    places = agrees.places;
    priorities = agrees.priorities;
    turns = in_turns;
    early = in_early;
    lines = agrees.lines;
    most = agrees.most;
    room = agrees.room;
    room_in_turns = omega (arith, same_turns, agrees.room_in_turns);
    room_in_early = omega (arith, same_early, agrees.room_in_early);
    room_in_lines = agrees.room_in_lines;
  }

  -- a serial that none has
  pub agrees-lacks : (serial : ℕ) (all : Pairs ℕ Waiter) → value_at nat_eq serial by_serial.items ≡ None → all.items ≡ removed key_of nat_eq serial by_serial.items → all.spare ≡ by_serial.spare + 0 → Agrees all by_spot by_rise by_line clock spare
  agrees-lacks serial all none is same =
      let whole : all.items ≡ by_serial.items = is ∙ filter-whole (λ r. not (nat_eq r.0 serial)) by_serial.items (λ r there. not_from_false _ (find-None (λ r. nat_eq r.0 serial) by_serial.items r (unmapped _ none) there)) in
      let n : length all.items ≡ length by_serial.items = ap (λ (l : List (ℕ × Waiter)). length l) whole in
      agrees-roomier all by_spot by_rise by_line spare whole refl refl refl (omega (arith, n, agrees.most)) (omega (arith, n, same, agrees.room)) (omega (arith, n, agrees.room_in_turns)) (omega (arith, n, agrees.room_in_early)) (omega (arith, n, agrees.room_in_lines))
    where
      unmapped : (o : Option (ℕ × Waiter)) → option_map (λ r. r.1) o ≡ None → o ≡ None
      unmapped None e = refl
      unmapped (Some r) e = absurd (cc e)

  -- where all rows stay
  pub agrees-same : (all : Pairs ℕ Waiter) → all.items ≡ by_serial.items → all.spare ≡ by_serial.spare → Agrees all by_spot by_rise by_line clock spare
  agrees-same all whole same =
      let n : length all.items ≡ length by_serial.items = ap (λ (l : List (ℕ × Waiter)). length l) whole in
      agrees-roomier all by_spot by_rise by_line spare whole refl refl refl (omega (arith, n, agrees.most)) (omega (arith, n, same, agrees.room)) (omega (arith, n, agrees.room_in_turns)) (omega (arith, n, agrees.room_in_early)) (omega (arith, n, agrees.room_in_lines))

  module _ (serial : ℕ) (w : Waiter) (sorted : IsSortedOnce key_of nat_cmp by_serial.items) (found : value_at nat_eq serial by_serial.items ≡ Some w) where
    with : with_key serial_of nat_eq serial items ≡ Some w
    with = sym (value-waiter by_serial.items agrees.keyed nat_eq serial) ∙ found

    there : Contains items w
    there = (find-Some (λ (v : Waiter). nat_eq v.serial serial) items w with).0

    named : nat_eq w.serial serial ≡ true
    named = (find-Some (λ (v : Waiter). nat_eq v.serial serial) items w with).1

    -- no other has the serial
    alone : (v : Waiter) → Contains items v → nat_eq v.serial serial ≡ true → v ≡ w
    alone = only serial w items (sorted-waiters by_serial.items agrees.keyed nat_cmp sorted) with

    -- a waiter less
    pub agrees-remove : (all : Pairs ℕ Waiter) (turns : Pairs Spot ℕ) (early : Pairs Rise (Unit {0})) (lines : Pairs Spot ℕ) → all.items ≡ removed key_of nat_eq serial by_serial.items → all.spare ≡ by_serial.spare + 1
        → turns.items ≡ removed key_of same_spot (spot_of w) by_spot.items → early.items ≡ removed key_of same_rise (rise_of w) by_rise.items → lines.items ≡ removed key_of same_spot (spot_of w) by_line.items
        → capacity_of turns ≡ capacity_of by_spot → capacity_of early ≡ capacity_of by_rise → capacity_of lines ≡ capacity_of by_line → Agrees all turns early lines clock (spare + 1)
    agrees-remove all turns early lines is more turns_is early_is lines_is same_turns same_early same_lines =
        let new : waiters_of all.items ≡ removed serial_of nat_eq serial items = ap (λ (l : List (ℕ × Waiter)). waiters_of l) is ∙ waiters-removed by_serial.items agrees.keyed nat_eq serial in
        let all_less = length-removed nat_cmp_total nat_eq unsigned_ties serial by_serial.items sorted in
        let one : ◌≡◌ {A = ℕ} (cond (is_some (value_at nat_eq serial by_serial.items)) 1 0) 1 = ap (λ (o : Option Waiter). cond (is_some o) 1 0) found in
        let n : length all.items ≡ length (removed key_of nat_eq serial by_serial.items) = ap (λ (l : List (ℕ × Waiter)). length l) is in
        record {
          keyed = subst (λ l. l ≡ map row_of (waiters_of l)) (sym is) (keyed-removed by_serial.items agrees.keyed nat_eq serial);
          places = λ u v u_there v_there e. agrees.places u v (old all new u u_there) (old all new v v_there) e;
          priorities = λ v v_there. agrees.priorities v (old all new v v_there);
          turns = subst (λ l. IsIndex spot_of serial_of (is_up clock) l turns.items) (sym new) (subst (λ l. IsIndex spot_of serial_of (is_up clock) (removed serial_of nat_eq serial items) l) (sym turns_is)
              (index-shrinks spot_of serial_of (is_up clock) items by_spot.items agrees.turns w (λ v. nat_eq v.serial serial) named alone same_spot (same_spot-itself w) (λ v v_there e. agrees.places v w v_there there (same_spot-place v w e))));
          early = subst (λ l. IsIndex rise_of nothing_of (is_ahead clock) l early.items) (sym new) (subst (λ l. IsIndex rise_of nothing_of (is_ahead clock) (removed serial_of nat_eq serial items) l) (sym early_is)
              (index-shrinks rise_of nothing_of (is_ahead clock) items by_rise.items agrees.early w (λ v. nat_eq v.serial serial) named alone same_rise (same_rise-itself w) (λ v v_there e. alone v v_there (ap (λ n. nat_eq n serial) (same_rise-serial v w e) ∙ named))));
          lines = subst (λ l. IsIndex spot_of serial_of (λ v. true) l lines.items) (sym new) (subst (λ l. IsIndex spot_of serial_of (λ v. true) (removed serial_of nat_eq serial items) l) (sym lines_is)
              (index-shrinks spot_of serial_of (λ v. true) items by_line.items agrees.lines w (λ v. nat_eq v.serial serial) named alone same_spot (same_spot-itself w) (λ v v_there e. agrees.places v w v_there there (same_spot-place v w e))));
          most = omega (arith, n, all_less, one, agrees.most);
          room = omega (arith, n, all_less, one, more, agrees.room);
          room_in_turns = omega (arith, n, all_less, one, same_turns, agrees.room_in_turns);
          room_in_early = omega (arith, n, all_less, one, same_early, agrees.room_in_early);
          room_in_lines = omega (arith, n, all_less, one, same_lines, agrees.room_in_lines);
        }
      where
        old : (all : Pairs ℕ Waiter) → waiters_of all.items ≡ removed serial_of nat_eq serial items → (v : Waiter) → Contains (waiters_of all.items) v → Contains items v
        old all new v v_there = (Contains-from_filter (λ (u : Waiter). not (nat_eq u.serial serial)) items v (subst (λ l. Contains l v) new v_there)).0
