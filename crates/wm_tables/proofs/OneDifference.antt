-- Two tables have one difference.
use Rattle.std.proofs.Common.{◌≡◌, ◌⊎◌, ℕ, Bool, true, false, List, [], ◌∷◌, refl, sym, ap, subst, ◌∙◌, inl, inr}
use Rattle.std.specs.Cmp.Lexicographic.{slice_cmp}
use Rattle.std.specs.Ordering.{is_lt, nat_cmp}
use Rattle.std.specs.Prelude.{nat_eq}
use Rattle.std.specs.Cmp.Lexicographic.{pointwise}
use Rattle.std.proofs.lemmas.Slice.Eq.{bytes_eq-Decides}
use Rattle.std.specs.declared.cmp.Ordering.TheVariants.{Less, Equal}
use Rattle.std.proofs.lemmas.Cmp.{nat_list_cmp_total, tied_itself}
use Rattle.wm_base.proofs.Orderings.{is_lt-Less}
use Rattle.wm_traits.specs.declared.row.Row.{Row}
use Rattle.wm_traits.specs.declared.row.RowChange.{RowChange}
use Rattle.wm_traits.specs.declared.row.RowChange.TheVariants.{Put, Del}
use Rattle.wm_traits.specs.Rows.{place_of, IsInOrder}
use Rattle.wm_law.specs.Laws.{IsIn}
use Rattle.wm_tables.proofs.Keys.{first_same, rest_same}
use Rattle.wm_tables.specs.Difference.{AreInOrder, change_place, IsDifference}
use Rattle.wm_tables.specs.ChangeLaws.{DifferencesAreOne}
use Rattle.wm_tables.proofs.After.{after_was, other_later, stands_after, IsUnchanged}

-- Changes in their order

-- a place has one change
one_change : (cs : List RowChange) (c d : RowChange) → AreInOrder cs → IsIn c cs → IsIn d cs → change_place c ≡ change_place d → c ≡ d
one_change [] c d order i j e = absurd i
one_change (b ∷ bs) c d order (inl f) (inl g) e = f ∙ sym g
one_change (b ∷ bs) c d order (inl f) (inr j) e = absurd (other_later b d bs order j (sym (ap change_place f) ∙ e))
one_change (b ∷ bs) c d order (inr i) (inl g) e = absurd (other_later b c bs order i (sym (ap change_place g) ∙ sym e))
one_change (b ∷ bs) c d order (inr i) (inr j) e = one_change bs c d order.1 i j e

-- whether one of the changes is made at a place
record IsMadeAt (cs : List RowChange) (place : List ℕ) : Type 0 where
  change : RowChange
  stands : IsIn change cs
  at : place ≡ change_place change

looked_by : (c : RowChange) (cs : List RowChange) (place : List ℕ) (t : Bool) → pointwise nat_eq place (change_place c) ≡ t → IsMadeAt cs place ⊎ IsUnchanged cs place → IsMadeAt (c ∷ cs) place ⊎ IsUnchanged (c ∷ cs) place
looked_by c cs place true e next = inl (record { change = c; stands = inl refl; at = (bytes_eq-Decides place (change_place c)).0 e })
looked_by c cs place false e (inl m) = inl (record { change = m.change; stands = inr m.stands; at = m.at })
looked_by c cs place false e (inr none) = inr (λ d i at. elim i as (λ _. ⊥) [
  | inl same ↦ (let yes : pointwise nat_eq place (change_place c) ≡ true = (bytes_eq-Decides place (change_place c)).1 (at ∙ ap change_place same) in absurd (cc))
  | inr k ↦ none d k at
])

looked : (cs : List RowChange) (place : List ℕ) → IsMadeAt cs place ⊎ IsUnchanged cs place
looked [] place = inr (λ d i at. i)
looked (c ∷ cs) place = looked_by c cs place (pointwise nat_eq place (change_place c)) refl (looked cs place)

del_is : (tab n : ℕ) (key k : List ℕ) → tab ∷ key ≡ n ∷ k → Del tab key ≡ Del n k
del_is tab n key k e = ap (λ (m : ℕ). Del m key) (first_same tab n key k e) ∙ ap (λ (l : List ℕ). Del n l) (rest_same tab n key k e)

put_is_not : (tab : ℕ) (key : List ℕ) (r : Row) → Put r ≡ Del tab key → ⊥
put_is_not tab key r e = absurd (cc)

-- What one difference changes, another does

module _ (before after : List Row) (cs ds : List RowChange) (old : IsInOrder before) (d : IsDifference before after cs) (e : IsDifference before after ds) where
  put_other : (r : Row) → IsIn (Put r) cs → IsIn (Put r) ds
  put_other r i =
      let there : IsIn r after = subst (λ (rows : List Row). IsIn r rows) d.makes (stands_after cs before r d.order (inl i)) in
      elim (after_was ds before r old (subst (λ (rows : List Row). IsIn r rows) (sym e.makes) there)) as (λ _. IsIn (Put r) ds) [
        | inl put ↦ put
        | inr was ↦ absurd (d.puts r i was.0)
      ]

  -- at the place of a deletion no row stands afterwards
  none_there : (tab : ℕ) (key : List ℕ) (r : Row) → IsIn (Del tab key) cs → IsIn r after → place_of r ≡ tab ∷ key → ⊥
  none_there tab key r i there at = elim (after_was cs before r old (subst (λ (rows : List Row). IsIn r rows) (sym d.makes) there)) as (λ _. ⊥) [
    | inl put ↦ put_is_not tab key r (one_change cs (Put r) (Del tab key) d.order put i at)
    | inr was ↦ was.1 (Del tab key) i at
  ]

  by_change : (tab : ℕ) (key : List ℕ) (c : RowChange) → IsIn (Del tab key) cs → IsIn c ds → tab ∷ key ≡ change_place c → IsIn (Del tab key) ds
  by_change tab key (Put u) i j at =
      let there : IsIn u after = subst (λ (rows : List Row). IsIn u rows) e.makes (stands_after ds before u e.order (inl j)) in
      absurd (none_there tab key u i there (sym at))
  by_change tab key (Del n k) i j at = subst (λ (c : RowChange). IsIn c ds) (sym (del_is tab n key k at)) j

  del_other : (tab : ℕ) (key : List ℕ) → IsIn (Del tab key) cs → IsIn (Del tab key) ds
  del_other tab key i =
      let at = d.dels tab key i in
      elim (looked ds (tab ∷ key)) as (λ _. IsIn (Del tab key) ds) [
        | inl m ↦ by_change tab key m.change i m.stands m.at
        | inr none ↦
            let still : IsUnchanged ds (place_of at.row) = subst (IsUnchanged ds) (sym at.place) none in
            let there : IsIn at.row after = subst (λ (rows : List Row). IsIn at.row rows) e.makes (stands_after ds before at.row e.order (inr (at.stands, still))) in
            absurd (none_there tab key at.row i there at.place)
      ]

  other : (c : RowChange) → IsIn c cs → IsIn c ds
  other (Put r) i = put_other r i
  other (Del tab key) i = del_other tab key i

-- Lists of the same changes in their order

-- no place stands before one that stands before it
both_before : (p q : List ℕ) → is_lt (slice_cmp nat_cmp p q) ≡ true → is_lt (slice_cmp nat_cmp q p) ≡ true → ⊥
both_before p q h g =
    let itself : slice_cmp nat_cmp p p ≡ Less = nat_list_cmp_total.trans p q p (is_lt-Less _ h) (is_lt-Less _ g) in
    let tied : slice_cmp nat_cmp p p ≡ Equal = tied_itself nat_list_cmp_total p in
    absurd (cc)

same_head : (c d : RowChange) (cs ds : List RowChange) → AreInOrder (c ∷ cs) → AreInOrder (d ∷ ds) → IsIn c (d ∷ ds) → IsIn d (c ∷ cs) → c ≡ d
same_head c d cs ds u v (inl e) j = e
same_head c d cs ds u v (inr i) (inl e) = sym e
same_head c d cs ds u v (inr i) (inr j) = absurd (both_before (change_place c) (change_place d) (u.0 d j) (v.0 c i))

in_rest : (c d b : RowChange) (cs ds : List RowChange) → c ≡ d → AreInOrder (c ∷ cs) → IsIn b cs → IsIn b (d ∷ ds) → IsIn b ds
in_rest c d b cs ds e u i (inl f) = absurd (other_later c b cs u i (ap change_place (e ∙ sym f)))
in_rest c d b cs ds e u i (inr j) = j

one_list : (cs ds : List RowChange) → AreInOrder cs → AreInOrder ds → ((c : RowChange) → IsIn c cs → IsIn c ds) → ((c : RowChange) → IsIn c ds → IsIn c cs) → cs ≡ ds
one_list [] [] u v f g = refl
one_list [] (d ∷ ds) u v f g = absurd (g d (inl refl))
one_list (c ∷ cs) [] u v f g = absurd (f c (inl refl))
one_list (c ∷ cs) (d ∷ ds) u v f g =
    let first : c ≡ d = same_head c d cs ds u v (f c (inl refl)) (g d (inl refl)) in
    let rest : cs ≡ ds = one_list cs ds u.1 v.1 (λ b i. in_rest c d b cs ds first u i (f b (inr i))) (λ b i. in_rest d c b ds cs (sym first) v i (g b (inr i))) in
    ap (λ (b : RowChange). b ∷ cs) first ∙ ap (λ (bs : List RowChange). d ∷ bs) rest

pub differences_are_one : DifferencesAreOne
differences_are_one before after cs ds old d e =
    one_list cs ds d.order e.order (other before after cs ds old d e) (other before after ds cs old e d)
