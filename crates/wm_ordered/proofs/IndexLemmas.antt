-- Rows that are those of the entries that pass a test: what edits leave of this, and what is found in them.
use Rattle.std.proofs.Common.{◌≡◌, ℕ, ◌≤◌, Bool, true, false, not, List, [], length, get_or, map, Some, None, inl, inr, ap, sym, ◌∙◌, subst, arith, Contains}
use Rattle.std.specs.List.{filter, insert, AllPairs, slice_get}
use Rattle.std.specs.declared.cmp.Ordering.{Ordering}
use Rattle.std.specs.declared.cmp.Ordering.TheVariants.{Less, Equal}
use mathlib.Core.Bool.{false≢true}
use Rattle.std.proofs.lemmas.Bool.{cases_Bool, not-true, not_from_false}
use Rattle.std.proofs.lemmas.List.{length-map}
use Rattle.wm_desc.specs.Sorted.{IsSortedOnce, has_key, removed}
use Rattle.wm_ordered.specs.Ordered.{key_of}
use Rattle.wm_ordered.proofs.Soonest.{soonest-None, soonest-Some}
use Rattle.wm_ordered.proofs.Members.{Contains-mapped, Contains-insert_new, Contains-insert_old, Contains-insert_cases, Contains-filter, Contains-from_filter, first-before, first-there, first-none, list_any-none, Contains-nil}
use Rattle.wm_ordered.specs.declared.waiter.Waiter.{Waiter}
use Rattle.wm_ordered.specs.declared.keys.Rise.{Rise}
use Rattle.wm_ordered.specs.Keys.{rise_of, nothing_of}
use Rattle.wm_ordered.specs.Waiting.{is_ahead, next_due}
use Rattle.wm_ordered.specs.Index.{IsIndex}
use Rattle.wm_ordered.specs.Orders.{rise_cmp}
use Rattle.wm_ordered.proofs.Orders.{sooner_due}
use Rattle.wm_ordered.proofs.Rows.{no_more}

-- no entries have no rows
pub index-empty : {E K V : Type 0} (key : E → K) (told : E → V) (test : E → Bool) (items : List E) (rows : List (K × V)) → items ≡ [] → rows ≡ [] → IsIndex key told test items rows
index-empty key told test items rows none empty = record {
  sound = λ r h. absurd (Contains-nil r (subst (λ l. Contains l r) empty h));
  whole = λ e h t. absurd (Contains-nil e (subst (λ l. Contains l e) none h));
}

module _ {E K V : Type 0} (key : E → K) (told : E → V) (test : E → Bool) (items : List E) (rows : List (K × V)) (index : IsIndex key told test items rows) where
  abbrev row : E → K × V
  row w = (key w, told w)

  -- an entry more, which passes
  pub index-grows : (w : E) (i j : ℕ) → test w ≡ true → IsIndex key told test (insert items i w) (insert rows j (key w, told w))
  index-grows w i j passes = record {
    sound = λ r h. elim (Contains-insert_cases rows j (row w) r h) [
      | inl e ↦ (w, sym e, passes, Contains-insert_new items i w)
      | inr old ↦ (let s = index.sound r old in (s.0, s.1, s.2, Contains-insert_old items i w s.0 s.3))
    ];
    whole = λ v h t. elim (Contains-insert_cases items i w v h) [
      | inl e ↦ subst (λ (q : E). Contains (insert rows j (row w)) (row q)) e (Contains-insert_new rows j (row w))
      | inr old ↦ Contains-insert_old rows j (row w) (row v) (index.whole v old t)
    ];
  }

  -- an entry more, which doesn't
  pub index-keeps : (w : E) (i : ℕ) → test w ≡ false → IsIndex key told test (insert items i w) rows
  index-keeps w i fails = record {
    sound = λ r h. let s = index.sound r h in (s.0, s.1, s.2, Contains-insert_old items i w s.0 s.3);
    whole = λ v h t. elim (Contains-insert_cases items i w v h) [ inl e ↦ absurd (false≢true (sym fails ∙ (ap test e ∙ t))) | inr old ↦ index.whole v old t ];
  }

  -- no row has the key of an entry that isn't there
  pub index-lacks : (eq : K → K → Bool) (w : E) → ((v : E) → Contains items v → eq (key v) (key w) ≡ false) → has_key key_of eq (key w) rows ≡ false
  index-lacks eq w apart = list_any-none (λ r. eq r.0 (key w)) rows (λ r h. let s = index.sound r h in ap (λ (q : K × V). eq q.0 (key w)) s.1 ∙ apart s.0 s.3)

  module _ (w : E) (goes : E → Bool) (named : goes w ≡ true) (alone : (v : E) → Contains items v → goes v ≡ true → v ≡ w) where
    -- an entry less, which had no row
    pub index-left : test w ≡ false → IsIndex key told test (filter (λ v. not (goes v)) items) rows
    index-left fails = record {
      sound = λ r h. let s = index.sound r h in (
        s.0,
        s.1,
        s.2,
        Contains-filter (λ v. not (goes v)) items s.0 s.3 (elim (cases_Bool (goes s.0)) [
          | inl e ↦ absurd (false≢true (sym fails ∙ (ap test (sym (alone s.0 s.3 e)) ∙ s.2)))
          | inr e ↦ not_from_false _ e
        ]),
      );
      whole = λ v h t. index.whole v (Contains-from_filter (λ v. not (goes v)) items v h).0 t;
    }

    module _ (eq : K → K → Bool) (itself : eq (key w) (key w) ≡ true) (apart : (v : E) → Contains items v → eq (key v) (key w) ≡ true → v ≡ w) where
      -- an entry less
      pub index-shrinks : IsIndex key told test (filter (λ v. not (goes v)) items) (removed key_of eq (key w) rows)
      index-shrinks = record {
        sound = λ r h. let kept = Contains-from_filter (λ q. not (eq q.0 (key w))) rows r h in
            let s = index.sound r kept.0 in (
              s.0,
              s.1,
              s.2,
              Contains-filter (λ v. not (goes v)) items s.0 s.3 (elim (cases_Bool (goes s.0)) [
                | inl e ↦ absurd (false≢true (sym (not-true _ kept.1) ∙ (ap (λ (q : K × V). eq q.0 (key w)) s.1 ∙ (ap (λ (u : E). eq (key u) (key w)) (alone s.0 s.3 e) ∙ itself))))
                | inr e ↦ not_from_false _ e
              ]),
            );
        whole = λ v h t. let kept = Contains-from_filter (λ v. not (goes v)) items v h in
            Contains-filter (λ q. not (eq q.0 (key w))) rows (row v) (index.whole v kept.0 t) (elim (cases_Bool (eq (key v) (key w))) [
              | inl e ↦ absurd (false≢true (sym (not-true _ kept.1) ∙ (ap goes (apart v kept.0 e) ∙ named)))
              | inr e ↦ not_from_false _ e
            ]);
      }

  -- rows with distinct keys are no more than the items
  pub index-length : (cmp : K → K → Ordering) → ((k : K) → cmp k k ≡ Equal) → IsSortedOnce key_of cmp rows → length rows ≤ length items
  index-length cmp itself sorted =
      let fits = no_more (λ (r : K × V). r.0) rows (map key items) distinct (λ r h. let s = index.sound r h in subst (λ (q : K × V). Contains (map key items) q.0) (sym s.1) (Contains-mapped key items s.0 s.3)) in
      omega (arith, fits, length-map items key)
    where
      distinct : AllPairs (λ (a b : K × V). a.0 ≡ b.0 → ⊥) rows
      distinct i j d lt in_range e = cc (sym (sorted i j d lt in_range) ∙ (ap (λ k. cmp k (get_or rows j d).0) e ∙ itself (get_or rows j d).0))

-- the least moment to come is that of the first rise
module _ (clock : ℕ) (items : List Waiter) (rows : List (Rise × Unit {0})) (index : IsIndex rise_of nothing_of (is_ahead clock) items rows) (sorted : IsSortedOnce key_of rise_cmp rows) where
  pub next-absent : slice_get rows 0 ≡ None → next_due clock items ≡ None
  next-absent none =
      soonest-None (is_ahead clock) (λ w. w.due) items None (λ v there. elim (cases_Bool (is_ahead clock v)) [ inl ahead ↦ absurd (first-none rows (rise_of v, tt) none (index.whole v there ahead)) | inr e ↦ e ])

  pub next-here : (r : Rise × Unit {0}) → slice_get rows 0 ≡ Some r → next_due clock items ≡ Some r.0.due
  next-here r found =
      let s = index.sound r (first-there rows r found) in
      soonest-Some (is_ahead clock) (λ w. w.due) items s.0 s.3 s.2 (λ v there ahead. least v there ahead s.0 s.1) ∙ ap (λ (q : Rise × Unit {0}). Some q.0.due) (sym s.1)
    where
      least : (v : Waiter) → Contains items v → is_ahead clock v ≡ true → (w : Waiter) → r ≡ (rise_of w, tt) → w.due ≤ v.due
      least v there ahead w is =
          elim (first-before (λ (a b : Rise × Unit {0}). rise_cmp a.0 b.0 ≡ Less) rows r (rise_of v, tt) sorted found (index.whole v there ahead)) [
            | inl e ↦ (let same : v.due ≡ w.due = ap (λ (q : Rise × Unit {0}). q.0.due) (e ∙ is) in omega arith)
            | inr lt ↦ sooner_due (rise_of w) (rise_of v) (subst (λ (q : Rise × Unit {0}). rise_cmp q.0 (rise_of v) ≡ Less) is lt)
          ]
