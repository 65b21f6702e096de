-- How rows differ, part by part.
use Rattle.std.proofs.Common.{◌≡◌, ◌⊎◌, ℕ, ◌++◌, true, List, [], ◌∷◌, refl, sym, subst, ◌∙◌, inl, inr}
use Rattle.std.specs.Cmp.Lexicographic.{slice_cmp}
use Rattle.std.specs.Ordering.{is_lt, nat_cmp}
use Rattle.wm_traits.specs.declared.row.Row.{Row}
use Rattle.wm_traits.specs.declared.row.RowChange.{RowChange}
use Rattle.wm_traits.specs.declared.row.RowChange.TheVariants.{Put, Del}
use Rattle.wm_traits.specs.InOrder.{changed_in_order}
use Rattle.wm_traits.specs.Rows.{changed, is_before, place_of, IsInOrder}
use Rattle.wm_law.specs.Laws.{IsIn}
use Rattle.wm_tables.proofs.Passing.{in_left_part, in_right_part, of_parts}
use Rattle.wm_tables.proofs.RowOrder.{ascending}
use Rattle.wm_tables.proofs.SameRows.{one_list, one_place, two_places}
use Rattle.wm_tables.specs.Difference.{AreInOrder, change_place, HasRowAt, IsDifference}
use Rattle.wm_tables.proofs.After.{after_was, stands_after}

-- a change is made at the place
pub record HasChangeAt (changes : List RowChange) (place : List ℕ) : Type 0 where
  pub change : RowChange
  pub stands : IsIn change changes
  pub at : place ≡ change_place change

-- the changes put what only the second rows have, and delete what only the first have
pub record Differs (xs ys : List Row) (cs : List RowChange) : Type 0 where
  pub put : (r : Row) → IsIn (Put r) cs → IsIn r ys
  pub new : (r : Row) → IsIn (Put r) cs → IsIn r xs → ⊥
  pub was : (tab : ℕ) (key : List ℕ) → IsIn (Del tab key) cs → HasRowAt xs (tab ∷ key)
  pub gone : (tab : ℕ) (key : List ℕ) → IsIn (Del tab key) cs → (r : Row) → IsIn r ys → place_of r ≡ tab ∷ key → ⊥
  pub each : (r : Row) → IsIn r ys → IsIn (Put r) cs ⊎ IsIn r xs
  pub kept : (r : Row) → IsIn r xs → IsIn r ys ⊎ HasChangeAt cs (place_of r)

-- rows don't differ from themselves
pub same_rows : (xs ys : List Row) → ys ≡ xs → Differs xs ys []
same_rows xs ys e = record {
  put = λ r i. absurd i;
  new = λ r i j. i;
  was = λ tab key i. absurd i;
  gone = λ tab key i r j f. i;
  each = λ r i. inr (subst (λ (rows : List Row). IsIn r rows) e i);
  kept = λ r i. inl (subst (λ (rows : List Row). IsIn r rows) (sym e) i);
}

-- the same of other rows with these elements
pub differs_as : (xs ys us vs : List Row) (cs : List RowChange) → ((r : Row) → IsIn r xs → IsIn r us) → ((r : Row) → IsIn r us → IsIn r xs) → ((r : Row) → IsIn r ys → IsIn r vs) → ((r : Row) → IsIn r vs → IsIn r ys) → Differs xs ys cs → Differs us vs cs
differs_as xs ys us vs cs to_us of_us to_vs of_vs d = record {
  put = λ r i. to_vs r (d.put r i);
  new = λ r i j. d.new r i (of_us r j);
  was = λ tab key i. (let at = d.was tab key i in record { row = at.row; stands = to_us at.row at.stands; place = at.place });
  gone = λ tab key i r j e. d.gone tab key i r (of_vs r j) e;
  each = λ r i. (elim (d.each r (of_vs r i)) as (λ _. IsIn (Put r) cs ⊎ IsIn r us) [ inl m ↦ inl m | inr m ↦ inr (to_us r m) ]);
  kept = λ r i. (elim (d.kept r (of_us r i)) as (λ _. IsIn r vs ⊎ HasChangeAt cs (place_of r)) [ inl m ↦ inl (to_vs r m) | inr m ↦ inr m ]);
}

-- Two parts

change_left : (cs ds : List RowChange) (place : List ℕ) → HasChangeAt cs place → HasChangeAt (cs ++ ds) place
change_left cs ds place h = record { change = h.change; stands = in_left_part cs ds h.change h.stands; at = h.at }

change_right : (cs ds : List RowChange) (place : List ℕ) → HasChangeAt ds place → HasChangeAt (cs ++ ds) place
change_right cs ds place h = record { change = h.change; stands = in_right_part cs ds h.change h.stands; at = h.at }

-- all rows of one part stand before those of the other
pub record AreApart (xs ys us vs : List Row) : Type 0 where
  pub olds : (a b : Row) → IsIn a xs → IsIn b us → is_before a b ≡ true
  pub old_new : (a b : Row) → IsIn a xs → IsIn b vs → is_before a b ≡ true
  pub new_old : (a b : Row) → IsIn a ys → IsIn b us → is_before a b ≡ true
  pub news : (a b : Row) → IsIn a ys → IsIn b vs → is_before a b ≡ true

module _ (xs ys us vs : List Row) (cs ds : List RowChange) (apart : AreApart xs ys us vs) (d : Differs xs ys cs) (e : Differs us vs ds) where
  both_new : (r : Row) → IsIn (Put r) (cs ++ ds) → IsIn r (xs ++ us) → ⊥
  both_new r i j = elim (of_parts cs ds (Put r) i) as (λ _. ⊥) [
    | inl k ↦ (elim (of_parts xs us r j) as (λ _. ⊥) [ inl m ↦ d.new r k m | inr m ↦ two_places r r (apart.new_old r r (d.put r k) m) refl ])
    | inr k ↦ (elim (of_parts xs us r j) as (λ _. ⊥) [ inl m ↦ two_places r r (apart.old_new r r m (e.put r k)) refl | inr m ↦ e.new r k m ])
  ]

  both_was : (tab : ℕ) (key : List ℕ) → IsIn (Del tab key) (cs ++ ds) → HasRowAt (xs ++ us) (tab ∷ key)
  both_was tab key i = elim (of_parts cs ds (Del tab key) i) as (λ _. HasRowAt (xs ++ us) (tab ∷ key)) [
    | inl k ↦ (let at = d.was tab key k in record { row = at.row; stands = in_left_part xs us at.row at.stands; place = at.place })
    | inr k ↦ (let at = e.was tab key k in record { row = at.row; stands = in_right_part xs us at.row at.stands; place = at.place })
  ]

  both_gone : (tab : ℕ) (key : List ℕ) → IsIn (Del tab key) (cs ++ ds) → (r : Row) → IsIn r (ys ++ vs) → place_of r ≡ tab ∷ key → ⊥
  both_gone tab key i r j f = elim (of_parts cs ds (Del tab key) i) as (λ _. ⊥) [
    | inl k ↦ (let at = d.was tab key k in elim (of_parts ys vs r j) as (λ _. ⊥) [
      | inl m ↦ d.gone tab key k r m f
      | inr m ↦ two_places at.row r (apart.old_new at.row r at.stands m) (at.place ∙ sym f)
    ])
    | inr k ↦ (let at = e.was tab key k in elim (of_parts ys vs r j) as (λ _. ⊥) [
      | inl m ↦ two_places r at.row (apart.new_old r at.row m at.stands) (f ∙ sym at.place)
      | inr m ↦ e.gone tab key k r m f
    ])
  ]

  both_each : (r : Row) → IsIn r (ys ++ vs) → IsIn (Put r) (cs ++ ds) ⊎ IsIn r (xs ++ us)
  both_each r i = elim (of_parts ys vs r i) as (λ _. IsIn (Put r) (cs ++ ds) ⊎ IsIn r (xs ++ us)) [
    | inl k ↦ (elim (d.each r k) as (λ _. IsIn (Put r) (cs ++ ds) ⊎ IsIn r (xs ++ us)) [ inl m ↦ inl (in_left_part cs ds (Put r) m) | inr m ↦ inr (in_left_part xs us r m) ])
    | inr k ↦ (elim (e.each r k) as (λ _. IsIn (Put r) (cs ++ ds) ⊎ IsIn r (xs ++ us)) [ inl m ↦ inl (in_right_part cs ds (Put r) m) | inr m ↦ inr (in_right_part xs us r m) ])
  ]

  both_kept : (r : Row) → IsIn r (xs ++ us) → IsIn r (ys ++ vs) ⊎ HasChangeAt (cs ++ ds) (place_of r)
  both_kept r i = elim (of_parts xs us r i) as (λ _. IsIn r (ys ++ vs) ⊎ HasChangeAt (cs ++ ds) (place_of r)) [
    | inl k ↦ (elim (d.kept r k) as (λ _. IsIn r (ys ++ vs) ⊎ HasChangeAt (cs ++ ds) (place_of r)) [ inl m ↦ inl (in_left_part ys vs r m) | inr m ↦ inr (change_left cs ds (place_of r) m) ])
    | inr k ↦ (elim (e.kept r k) as (λ _. IsIn r (ys ++ vs) ⊎ HasChangeAt (cs ++ ds) (place_of r)) [ inl m ↦ inl (in_right_part ys vs r m) | inr m ↦ inr (change_right cs ds (place_of r) m) ])
  ]

  -- parts that stand apart differ together as each does
  pub both_differ : Differs (xs ++ us) (ys ++ vs) (cs ++ ds)
  both_differ = record {
    put = λ r i. (elim (of_parts cs ds (Put r) i) as (λ _. IsIn r (ys ++ vs)) [ inl k ↦ in_left_part ys vs r (d.put r k) | inr k ↦ in_right_part ys vs r (e.put r k) ]);
    new = both_new;
    was = both_was;
    gone = both_gone;
    each = both_each;
    kept = both_kept;
  }

  -- the place of a change is that of a row
  put_before : (a : Row) (c : RowChange) → IsIn c ds → ((b : Row) → IsIn b us → is_before a b ≡ true) → ((b : Row) → IsIn b vs → is_before a b ≡ true) → is_lt (slice_cmp nat_cmp (place_of a) (change_place c)) ≡ true
  put_before a (Put r) i old new = new r (e.put r i)
  put_before a (Del tab key) i old new =
      let at = e.was tab key i in
      subst (λ (p : List ℕ). is_lt (slice_cmp nat_cmp (place_of a) p) ≡ true) at.place (old at.row at.stands)

  all_before : (c b : RowChange) → IsIn c cs → IsIn b ds → is_lt (slice_cmp nat_cmp (change_place c) (change_place b)) ≡ true
  all_before (Put r) b i j = put_before r b j (λ q k. apart.new_old r q (d.put r i) k) (λ q k. apart.news r q (d.put r i) k)
  all_before (Del tab key) b i j =
      let at = d.was tab key i in
      subst (λ (p : List ℕ). is_lt (slice_cmp nat_cmp p (change_place b)) ≡ true) at.place (put_before at.row b j (λ q k. apart.olds at.row q at.stands k) (λ q k. apart.old_new at.row q at.stands k))

  -- and their changes stand in order together
  pub both_ordered : AreInOrder cs → AreInOrder ds → AreInOrder (cs ++ ds)
  both_ordered o p = ordered cs o (λ c b i j. all_before c b i j)
    where
      ordered : (bs : List RowChange) → AreInOrder bs → ((c b : RowChange) → IsIn c bs → IsIn b ds → is_lt (slice_cmp nat_cmp (change_place c) (change_place b)) ≡ true) → AreInOrder (bs ++ ds)
      ordered [] q h = p
      ordered (b ∷ bs) q h = (
        λ later i. (elim (of_parts bs ds later i) as (λ _. is_lt (slice_cmp nat_cmp (change_place b) (change_place later)) ≡ true) [ inl k ↦ q.0 later k | inr k ↦ h b later (inl refl) k ]),
        ordered bs q.1 (λ c d i j. h c d (inr i) j),
      )

-- The whole

module _ (before after : List Row) (cs : List RowChange) (old : IsInOrder before) (new : IsInOrder after) (order : AreInOrder cs) (d : Differs before after cs) where
  of_kept : (r : Row) → ((c : RowChange) → IsIn c cs → place_of r ≡ change_place c → ⊥) → IsIn r after ⊎ HasChangeAt cs (place_of r) → IsIn r after
  of_kept r none (inl i) = i
  of_kept r none (inr h) = absurd (none h.change h.stands h.at)

  to_after : (r : Row) → IsIn r (changed cs before) → IsIn r after
  to_after r i = elim (after_was cs before r old i) as (λ _. IsIn r after) [
    | inl put ↦ d.put r put
    | inr was ↦ of_kept r was.1 (d.kept r was.0)
  ]

  unchanged : (r : Row) → IsIn r after → IsIn r before → (c : RowChange) → IsIn c cs → place_of r ≡ change_place c → ⊥
  unchanged r i j (Put u) k e =
      let same : r ≡ u = one_place after r u (ascending after new) i (d.put u k) e in
      d.new u k (subst (λ (q : Row). IsIn q before) same j)
  unchanged r i j (Del tab key) k e = d.gone tab key k r i e

  of_after : (r : Row) → IsIn r after → IsIn r (changed cs before)
  of_after r i = elim (d.each r i) as (λ _. IsIn r (changed cs before)) [
    | inl put ↦ stands_after cs before r order (inl put)
    | inr was ↦ stands_after cs before r order (inr (was, unchanged r i was))
  ]

  -- changes by which rows in their order differ are their difference
  pub is_difference : IsDifference before after cs
  is_difference = record {
    order = order;
    makes = one_list (changed cs before) after (ascending (changed cs before) (changed_in_order cs before old)) (ascending after new) to_after of_after;
    puts = d.new;
    dels = d.was;
  }
