-- What bringing the first that is due leaves, and what is true when none is left.
use Rattle.std.proofs.Common.{◌≡◌, ◌⊎◌, ℕ, zero, suc, ◌+◌, ◌<◌, ◌≤◌, true, false, not, ◌&&◌, nat_le, List, ◌∷◌, length, get_or, map, Some, None, inl, inr, ap, sym, ◌∙◌, subst, arith, Contains, nat_eq}
use Rattle.std.specs.List.{insert, AllPairs, slice_get}
use Rattle.std.specs.declared.cmp.Ordering.TheVariants.{Less}
use Rattle.std.specs.Ordering.{nat_cmp}
use mathlib.Core.Bool.{false≢true}
use Rattle.std.proofs.lemmas.Bool.{cases_Bool, not-true, not_from_false, leb-true, and_parts, le-leb}
use Rattle.std.proofs.lemmas.Bool.Decides.{nat_tests}
use Rattle.std.proofs.lemmas.List.{length-map}
use Rattle.std.proofs.lemmas.List.Elements.{Contains-get_or}
use Rattle.wm_desc.specs.Sorted.{IsSortedOnce, with_key, has_key, removed}
use Rattle.wm_ordered.specs.Ordered.{key_of}
use Rattle.wm_ordered.proofs.Members.{Contains-mapped, Contains-cases, Contains-insert_new, Contains-insert_old, Contains-insert_cases, Contains-filter, Contains-from_filter, first-before, first-there, list_any-none}
use Rattle.wm_ordered.specs.declared.waiter.Waiter.{Waiter}
use Rattle.wm_ordered.specs.declared.keys.Spot.{Spot}
use Rattle.wm_ordered.specs.declared.keys.Rise.{Rise}
use Rattle.wm_ordered.specs.Bringing.{IsUnderway, AllAbove}
use Rattle.wm_ordered.specs.Index.{IsIndex}
use Rattle.wm_ordered.specs.Keys.{spot_of, rise_of, nothing_of}
use Rattle.wm_ordered.specs.Orders.{spot_cmp, rise_cmp, same_spot, same_rise}
use Rattle.wm_ordered.specs.Waiting.{serial_of, HavePlaces, is_up, is_ahead}
use Rattle.wm_ordered.proofs.Marks.{found-there, one_serial}
use Rattle.wm_ordered.proofs.Orders.{same_spot-place, same_spot-itself, same_rise-itself, spot-itself, sooner_due}
use Rattle.wm_ordered.proofs.Rows.{no_more}

up-parts : (clock : ℕ) (w : Waiter) → is_up clock w ≡ true → (w.held ≡ false) × (w.due ≤ clock)
up-parts clock w h = let parts = and_parts (not w.held) (nat_le w.due clock) h in (not-true w.held parts.0, leb-true w.due clock parts.1)

up-made : (clock : ℕ) (w : Waiter) → w.held ≡ false → w.due ≤ clock → is_up clock w ≡ true
up-made clock w free le = ap (λ b. not b && nat_le w.due clock) free ∙ le-leb w.due clock le

ahead-part : (clock : ℕ) (w : Waiter) → is_ahead clock w ≡ true → clock < w.due
ahead-part clock w h = grind (arith, nat_tests)

ahead-made : (clock : ℕ) (w : Waiter) → clock < w.due → is_ahead clock w ≡ true
ahead-made clock w lt = grind (arith, nat_tests)

behind-part : (clock : ℕ) (w : Waiter) → is_ahead clock w ≡ false → w.due ≤ clock
behind-part clock w h = grind (arith, nat_tests)

-- what comes behind a rise is another
rise-apart : (a b : Rise) → rise_cmp a b ≡ Less → same_rise b a ≡ false
rise-apart a b before = grind arith

module _ (now : ℕ) (items : List Waiter) (turns : List (Spot × ℕ)) (early : List (Rise × Unit {0})) where
  -- where the clock stands still, all are in their indexes
  pub underway-begins : (clock : ℕ) → clock ≤ now → IsIndex spot_of serial_of (is_up clock) items turns → IsIndex rise_of nothing_of (is_ahead clock) items early → IsUnderway now items turns early
  underway-begins clock le in_turns in_early = record {
    turn = λ r h. let s = in_turns.sound r h in
        let parts = up-parts clock s.0 s.2 in
        (s.0, s.1, up-made now s.0 parts.0 (omega (arith, parts.1)), s.3, λ there. due-apart s.0 there parts.1);
    rise = λ r h. let s = in_early.sound r h in (s.0, s.1, s.3);
    up = λ w there up. let parts = up-parts now w up in
        elim (cases_Bool (is_ahead clock w)) [ inl ahead ↦ inr (in_early.whole w there ahead) | inr e ↦ inl (in_turns.whole w there (up-made clock w parts.0 (behind-part clock w e))) ];
    ahead = λ w there ahead. let above = ahead-part now w ahead in in_early.whole w there (ahead-made clock w (omega (arith, above)));
  }
    where
      due-apart : (w : Waiter) → Contains early (rise_of w, nothing_of w) → w.due ≤ clock → ⊥
      due-apart w there past =
          let s = in_early.sound (rise_of w, nothing_of w) there in
          let above = ahead-part clock s.0 s.2 in
          let same : w.due ≡ s.0.due = ap (λ (q : Rise × Unit {0}). q.0.due) s.1 in
          omega (arith, above, past, same)

  module _ (underway : IsUnderway now items turns early) where
    -- where none that is due is left, all are in their indexes again
    pub ends-turns : AllAbove now early → IsIndex spot_of serial_of (is_up now) items turns
    ends-turns above = record {
      sound = λ r h. let s = underway.turn r h in (s.0, s.1, s.2, s.3);
      whole = λ w there up. elim (underway.up w there up) [
        | inl t ↦ t
        | inr e ↦ (let parts = up-parts now w up in let later = above (rise_of w, nothing_of w) e in absurd (omega (arith, later, parts.1)))
      ];
    }

    pub ends-early : AllAbove now early → IsIndex rise_of nothing_of (is_ahead now) items early
    ends-early above = record {
      sound = λ r h. let s = underway.rise r h in (s.0, s.1, ahead-made now s.0 (subst (λ (q : Rise × Unit {0}). now < q.0.due) s.1 (above r h)), s.2);
      whole = λ w there ahead. underway.ahead w there ahead;
    }

    module _ (sorted : IsSortedOnce key_of rise_cmp early) (r : Rise × Unit {0}) (first : slice_get early 0 ≡ Some r) where
      -- none is due where the first isn't
      pub all-above : now < r.0.due → AllAbove now early
      all-above above q there =
          elim (first-before (λ (a b : Rise × Unit {0}). rise_cmp a.0 b.0 ≡ Less) early r q sorted first there) [
            | inl e ↦ subst (λ (p : Rise × Unit {0}). now < p.0.due) (sym e) above
            | inr lt ↦ (let le = sooner_due r.0 q.0 lt in omega (arith, le, above))
          ]

      -- its serial finds the one whose row it is
      pub first-lacks : IsSortedOnce serial_of nat_cmp items → with_key serial_of nat_eq r.0.serial items ≡ None → ⊥
      first-lacks serials none =
          let s = underway.rise r (first-there early r first) in
          let found = found-there items serials s.0 s.2 in
          let same : r.0.serial ≡ s.0.serial = ap (λ (q : Rise × Unit {0}). q.0.serial) s.1 in
          cc (sym found ∙ (ap (λ n. with_key serial_of nat_eq n items) (sym same) ∙ none))

      pub first-found : IsSortedOnce serial_of nat_cmp items → (w : Waiter) → with_key serial_of nat_eq r.0.serial items ≡ Some w → (r ≡ (rise_of w, nothing_of w)) × Contains items w
      first-found serials w found =
          let s = underway.rise r (first-there early r first) in
          let there = found-there items serials s.0 s.2 in
          let serial : r.0.serial ≡ s.0.serial = ap (λ (q : Rise × Unit {0}). q.0.serial) s.1 in
          let same : s.0 ≡ w = cc (sym there ∙ (ap (λ n. with_key serial_of nat_eq n items) (sym serial) ∙ found)) in
          (subst (λ (v : Waiter). r ≡ (rise_of v, nothing_of v)) same s.1, subst (λ (v : Waiter). Contains items v) same s.2)

      -- the row is that of w
      module _ (serials : IsSortedOnce serial_of nat_cmp items) (w : Waiter) (is : r ≡ (rise_of w, nothing_of w)) (item : Contains items w) where
        is_rise : r.0 ≡ rise_of w
        is_rise = ap (λ (q : Rise × Unit {0}). q.0) is

        here : Contains early (rise_of w, nothing_of w)
        here = subst (λ (q : Rise × Unit {0}). Contains early q) is (first-there early r first)

        -- a turn for it is new
        other-turn : (t : Spot × ℕ) (there : Contains turns t) → (underway.turn t there).0 ≡ w → ⊥
        other-turn t there same = (underway.turn t there).4 (subst (λ (v : Waiter). Contains early (rise_of v, nothing_of v)) (sym same) here)

        apart-turn : HavePlaces items → (t : Spot × ℕ) → Contains turns t → same_spot t.0 (spot_of w) ≡ false
        apart-turn places t there =
            elim (cases_Bool (same_spot t.0 (spot_of w))) [
              | inl e ↦ (let s = underway.turn t there in
                  let place = same_spot-place s.0 w (sym (ap (λ (q : Spot × ℕ). same_spot q.0 (spot_of w)) s.1) ∙ e) in
                  absurd (other-turn t there (places s.0 w s.3 item place)))
              | inr e ↦ e
            ]

        pub new-turn : HavePlaces items → has_key key_of same_spot (spot_of w) turns ≡ false
        new-turn places = list_any-none (λ (t : Spot × ℕ). same_spot t.0 (spot_of w)) turns (apart-turn places)

        -- and has room, since each item has one turn at the most
        pub turn-fits : HavePlaces items → IsSortedOnce key_of spot_cmp turns → length turns + 1 ≤ length items
        turn-fits places sorted_turns =
            let whole = no_more (λ (t : Spot × ℕ). t.0) ((spot_of w, w.serial) ∷ turns) (map spot_of items) (distinct_cons (spot_of w, w.serial) turns differs distinct) (λ t there. elim (Contains-cases (spot_of w, w.serial) t turns there) [
              | inl e ↦ subst (λ (q : Spot × ℕ). Contains (map spot_of items) q.0) e (Contains-mapped spot_of items w item)
              | inr old ↦ (let s = underway.turn t old in subst (λ (q : Spot × ℕ). Contains (map spot_of items) q.0) (sym s.1) (Contains-mapped spot_of items s.0 s.3))
            ]) in
            omega (arith, whole, length-map items spot_of)
          where
            differs : (t : Spot × ℕ) → Contains turns t → spot_of w ≡ t.0 → ⊥
            differs t there e = false≢true (sym (apart-turn places t there) ∙ (ap (λ k. same_spot k (spot_of w)) (sym e) ∙ same_spot-itself w))

            distinct : AllPairs (λ (a b : Spot × ℕ). a.0 ≡ b.0 → ⊥) turns
            distinct i j d lt in_range e = cc (sym (sorted_turns i j d lt in_range) ∙ (ap (λ k. spot_cmp k (get_or turns j d).0) e ∙ spot-itself (get_or turns j d).0))

            distinct_cons : (x : Spot × ℕ) (xs : List (Spot × ℕ)) → ((y : Spot × ℕ) → Contains xs y → x.0 ≡ y.0 → ⊥) → AllPairs (λ (a b : Spot × ℕ). a.0 ≡ b.0 → ⊥) xs → AllPairs (λ (a b : Spot × ℕ). a.0 ≡ b.0 → ⊥) (x ∷ xs)
            distinct_cons x xs head tail zero zero d lt in_range = absurd (omega arith)
            distinct_cons x xs head tail (suc i) zero d lt in_range = absurd (omega arith)
            distinct_cons x xs head tail zero (suc j) d lt in_range = head (get_or xs j d) (Contains-get_or xs j d (omega arith))
            distinct_cons x xs head tail (suc i) (suc j) d lt in_range = tail i j d (omega arith) (omega arith)

        abbrev left : List (Rise × Unit {0})
        left = removed key_of same_rise r.0 early

        -- the others stay
        stays : (v : Waiter) → Contains items v → Contains early (rise_of v, nothing_of v) → (v ≡ w) ⊎ Contains left (rise_of v, nothing_of v)
        stays v v_item there =
            elim (first-before (λ (a b : Rise × Unit {0}). rise_cmp a.0 b.0 ≡ Less) early r (rise_of v, nothing_of v) sorted first there) [
              | inl e ↦ inl (one_serial items serials v w v_item item (ap (λ (q : Rise × Unit {0}). q.0.serial) (e ∙ is)))
              | inr lt ↦ inr (Contains-filter (λ q. not (same_rise q.0 r.0)) early (rise_of v, nothing_of v) there (not_from_false _ (rise-apart r.0 (rise_of v) lt)))
            ]

        gone : Contains left (rise_of w, nothing_of w) → ⊥
        gone there =
            let kept = Contains-from_filter (λ q. not (same_rise q.0 r.0)) early (rise_of w, nothing_of w) there in
            false≢true (sym (not-true _ kept.1) ∙ (ap (λ (k : Rise). same_rise (rise_of w) k) is_rise ∙ same_rise-itself w))

        was : (q : Rise × Unit {0}) → Contains left q → Contains early q
        was q there = (Contains-from_filter (λ q. not (same_rise q.0 r.0)) early q there).0

        due-now : r.0.due ≤ now → w.due ≤ now
        due-now le = subst (λ (k : Rise). k.due ≤ now) is_rise le

        not-ahead : r.0.due ≤ now → (v : Waiter) → v ≡ w → is_ahead now v ≡ true → ⊥
        not-ahead le v same ahead = let above = ahead-part now v ahead in let past = subst (λ (u : Waiter). u.due ≤ now) (sym same) (due-now le) in omega (arith, above, past)

        -- it is held
        pub underway-held : r.0.due ≤ now → w.held ≡ true → IsUnderway now items turns left
        underway-held le held = record {
          turn = λ t h. let s = underway.turn t h in (s.0, s.1, s.2, s.3, λ there. s.4 (was (rise_of s.0, nothing_of s.0) there));
          rise = λ q h. underway.rise q (was q h);
          up = λ v there up. elim (underway.up v there up) [
            | inl t ↦ inl t
            | inr e ↦ elim (stays v there e) [
              | inl same ↦ absurd (false≢true (sym (up-parts now v up).0 ∙ (ap (λ (u : Waiter). u.held) same ∙ held)))
              | inr kept ↦ inr kept
            ]
          ];
          ahead = λ v there ahead. elim (stays v there (underway.ahead v there ahead)) [ inl same ↦ absurd (not-ahead le v same ahead) | inr kept ↦ kept ];
        }

        -- it isn't held, and has its turn
        pub underway-turn : (i : ℕ) → r.0.due ≤ now → w.held ≡ false → IsUnderway now items (insert turns i (spot_of w, w.serial)) left
        underway-turn i le free = record {
          turn = λ t h. elim (Contains-insert_cases turns i (spot_of w, w.serial) t h) [
            | inl e ↦ (w, sym e, up-made now w free (due-now le), item, gone)
            | inr old ↦ (let s = underway.turn t old in (s.0, s.1, s.2, s.3, λ there. s.4 (was (rise_of s.0, nothing_of s.0) there)))
          ];
          rise = λ q h. underway.rise q (was q h);
          up = λ v there up. elim (underway.up v there up) [
            | inl t ↦ inl (Contains-insert_old turns i (spot_of w, w.serial) (spot_of v, v.serial) t)
            | inr e ↦ elim (stays v there e) [
              | inl same ↦ inl (subst (λ (u : Waiter). Contains (insert turns i (spot_of w, w.serial)) (spot_of u, u.serial)) (sym same) (Contains-insert_new turns i (spot_of w, w.serial)))
              | inr kept ↦ inr kept
            ]
          ];
          ahead = λ v there ahead. elim (stays v there (underway.ahead v there ahead)) [ inl same ↦ absurd (not-ahead le v same ahead) | inr kept ↦ kept ];
        }
