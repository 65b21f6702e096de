-- Which rows of counters differ.
use Rattle.std.proofs.Common.{◌≡◌, ◌⊎◌, ℕ, ◌<◌, ◌^◌, ◌==◌, ◌++◌, Bool, true, false, cond, List, [], ◌∷◌, refl, sym, ap, subst, ◌∙◌, inl, inr}
use Rattle.std.specs.Cmp.Lexicographic.{slice_cmp}
use Rattle.std.specs.Ordering.{is_lt, nat_cmp}
use Rattle.std.proofs.lemmas.Fmt.{decimal_injective}
use Rattle.std.proofs.lemmas.Bool.{eq-eqb, eqb-true}
use Rattle.wm_traits.specs.declared.row.Row.{Row}
use Rattle.wm_traits.specs.declared.row.RowChange.{RowChange}
use Rattle.wm_traits.specs.declared.row.RowChange.TheVariants.{Put, Del}
use Rattle.wm_traits.specs.Rows.{is_before, place_of}
use Rattle.wm_law.specs.Laws.{IsIn}
use Rattle.wm_rows.specs.Rows.{counter_row, counter_word}
use Rattle.wm_rows.specs.Tables.{counter_rows}
use Rattle.wm_rows.specs.declared.stored.Counter.{Counter}
use Rattle.wm_rows.specs.declared.stored.Counter.TheVariants as counter
use Rattle.wm_tables.specs.Changes.{counter_change, counter_changes}
use Rattle.wm_tables.specs.declared.counts.Counts.{Counts}
use Rattle.wm_tables.specs.Difference.{AreInOrder}
use Rattle.wm_tables.proofs.Differs.{AreApart, Differs, both_differ, both_ordered, same_rows}

-- one row in the place of another
module _ (a b : Row) (place : place_of b ≡ place_of a) (other : b ≡ a → ⊥) where
  only : (r x : Row) → IsIn r (x ∷ []) → r ≡ x
  only r x (inl e) = e
  only r x (inr none) = absurd none

  put_is : (r : Row) → IsIn (Put r) (Put b ∷ []) → r ≡ b
  put_is r (inl e) = cc
  put_is r (inr none) = absurd none

  no_del : (tab : ℕ) (key : List ℕ) → IsIn (Del tab key) (Put b ∷ []) → ⊥
  no_del tab key (inl e) = absurd (cc)
  no_del tab key (inr none) = none

  pub replaced : Differs (a ∷ []) (b ∷ []) (Put b ∷ [])
  replaced = record {
    put = λ r i. inl (put_is r i);
    new = λ r i j. other (sym (put_is r i) ∙ only r a j);
    was = λ tab key i. absurd (no_del tab key i);
    gone = λ tab key i r j e. no_del tab key i;
    each = λ r i. inl (inl (ap (λ (q : Row). Put q) (only r b i)));
    kept = λ r i. inr (record { change = Put b; stands = inl refl; at = ap place_of (only r a i) ∙ sym place });
  }

one_by : (c : Counter) (n m : ℕ) (t : Bool) → (n == m) ≡ t → (counter_row c m ≡ counter_row c n → m ≡ n) → Differs (counter_row c n ∷ []) (counter_row c m ∷ []) (cond t [] (Put (counter_row c m) ∷ []))
one_by c n m true e one = same_rows (counter_row c n ∷ []) (counter_row c m ∷ []) (ap (λ (k : ℕ). counter_row c k ∷ []) (sym (eqb-true n m e)))
one_by c n m false e one = replaced (counter_row c n) (counter_row c m) refl (λ same. (let yes : (n == m) ≡ true = eq-eqb n m (sym (one same)) in absurd (cc)))

order_by : (c : Counter) (m : ℕ) (t : Bool) → AreInOrder (cond t [] (Put (counter_row c m) ∷ []))
order_by c m true = tt
order_by c m false = ((λ later i. absurd i), tt)

-- a number by its digits
one_count : (c : Counter) (n m : ℕ) → n < 2 ^ 64 → m < 2 ^ 64 → counter_row c m ≡ counter_row c n → m ≡ n
one_count c n m fits fit e = decimal_injective m n fit fits (ap (λ (r : Row). r.body) e)

pub one_differs : (c : Counter) (n m : ℕ) → n < 2 ^ 64 → m < 2 ^ 64 → Differs (counter_row c n ∷ []) (counter_row c m ∷ []) (counter_change c n m)
one_differs c n m fits fit = one_by c n m (n == m) refl (one_count c n m fits fit)

pub one_ordered : (c : Counter) (n m : ℕ) → AreInOrder (counter_change c n m)
one_ordered c n m = order_by c m (n == m)

-- Their order

by_places : (a b : Row) (p q : List ℕ) → place_of a ≡ p → place_of b ≡ q → is_lt (slice_cmp nat_cmp p q) ≡ true → is_before a b ≡ true
by_places a b p q e f h = subst (λ (x : List ℕ). is_lt (slice_cmp nat_cmp x (place_of b)) ≡ true) (sym e) (subst (λ (y : List ℕ). is_lt (slice_cmp nat_cmp p y) ≡ true) (sym f) h)

abbrev at : Counter → List ℕ
at c = 12 ∷ counter_word c

at_one : (c : Counter) (n : ℕ) (r : Row) → IsIn r (counter_row c n ∷ []) → place_of r ≡ at c
at_one c n r (inl e) = ap place_of e
at_one c n r (inr none) = absurd none

apart_ones : (c d : Counter) (n m k l : ℕ) → is_lt (slice_cmp nat_cmp (at c) (at d)) ≡ true → AreApart (counter_row c n ∷ []) (counter_row c m ∷ []) (counter_row d k ∷ []) (counter_row d l ∷ [])
apart_ones c d n m k l h = record {
  olds = λ a b i j. by_places a b (at c) (at d) (at_one c n a i) (at_one d k b j) h;
  old_new = λ a b i j. by_places a b (at c) (at d) (at_one c n a i) (at_one d l b j) h;
  new_old = λ a b i j. by_places a b (at c) (at d) (at_one c m a i) (at_one d k b j) h;
  news = λ a b i j. by_places a b (at c) (at d) (at_one c m a i) (at_one d l b j) h;
}

at_two : (c d : Counter) (n m : ℕ) (r : Row) → IsIn r (counter_row c n ∷ counter_row d m ∷ []) → (place_of r ≡ at c) ⊎ (place_of r ≡ at d)
at_two c d n m r (inl e) = inl (ap place_of e)
at_two c d n m r (inr (inl e)) = inr (ap place_of e)
at_two c d n m r (inr (inr none)) = absurd none

two_before : (a b : Row) → (place_of a ≡ at counter.Number) ⊎ (place_of a ≡ at counter.Place) → (place_of b ≡ at counter.Schema) ⊎ (place_of b ≡ at counter.Serial) → is_before a b ≡ true
two_before a b (inl e) (inl f) = by_places a b _ _ e f refl
two_before a b (inl e) (inr f) = by_places a b _ _ e f refl
two_before a b (inr e) (inl f) = by_places a b _ _ e f refl
two_before a b (inr e) (inr f) = by_places a b _ _ e f refl

-- counters that are u64s
pub record AreCounts (c : Counts) : Type 0 where
  pub number : c.next_number < 2 ^ 64
  pub place : c.next_place < 2 ^ 64
  pub serial : c.next_serial < 2 ^ 64

-- The three that count

module _ (b a : Counts) where
  abbrev firsts : Counts → List Row
  firsts c = counter_row counter.Number c.next_number ∷ counter_row counter.Place c.next_place ∷ []

  abbrev lasts : Counts → List Row
  lasts c = counter_row counter.Schema 1 ∷ counter_row counter.Serial c.next_serial ∷ []

  apart_firsts : AreApart (counter_row counter.Number b.next_number ∷ []) (counter_row counter.Number a.next_number ∷ []) (counter_row counter.Place b.next_place ∷ []) (counter_row counter.Place a.next_place ∷ [])
  apart_firsts = apart_ones counter.Number counter.Place b.next_number a.next_number b.next_place a.next_place refl

  apart_lasts : AreApart (counter_row counter.Schema 1 ∷ []) (counter_row counter.Schema 1 ∷ []) (counter_row counter.Serial b.next_serial ∷ []) (counter_row counter.Serial a.next_serial ∷ [])
  apart_lasts = apart_ones counter.Schema counter.Serial 1 1 b.next_serial a.next_serial refl

  in_firsts : (c : Counts) (r : Row) → IsIn r (firsts c) → (place_of r ≡ at counter.Number) ⊎ (place_of r ≡ at counter.Place)
  in_firsts c r i = at_two counter.Number counter.Place c.next_number c.next_place r i

  in_lasts : (c : Counts) (r : Row) → IsIn r (lasts c) → (place_of r ≡ at counter.Schema) ⊎ (place_of r ≡ at counter.Serial)
  in_lasts c r i = at_two counter.Schema counter.Serial 1 c.next_serial r i

  apart_all : AreApart (firsts b) (firsts a) (lasts b) (lasts a)
  apart_all = record {
    olds = λ x y i j. two_before x y (in_firsts b x i) (in_lasts b y j);
    old_new = λ x y i j. two_before x y (in_firsts b x i) (in_lasts a y j);
    new_old = λ x y i j. two_before x y (in_firsts a x i) (in_lasts b y j);
    news = λ x y i j. two_before x y (in_firsts a x i) (in_lasts a y j);
  }

  abbrev number_changes : List RowChange
  number_changes = counter_change counter.Number b.next_number a.next_number

  abbrev place_changes : List RowChange
  place_changes = counter_change counter.Place b.next_place a.next_place

  abbrev serial_changes : List RowChange
  serial_changes = counter_change counter.Serial b.next_serial a.next_serial

  module _ (fits : AreCounts b) (fit : AreCounts a) where
    number_differs : Differs (counter_row counter.Number b.next_number ∷ []) (counter_row counter.Number a.next_number ∷ []) number_changes
    number_differs = one_differs counter.Number b.next_number a.next_number fits.number fit.number

    place_differs : Differs (counter_row counter.Place b.next_place ∷ []) (counter_row counter.Place a.next_place ∷ []) place_changes
    place_differs = one_differs counter.Place b.next_place a.next_place fits.place fit.place

    serial_differs : Differs (counter_row counter.Serial b.next_serial ∷ []) (counter_row counter.Serial a.next_serial ∷ []) serial_changes
    serial_differs = one_differs counter.Serial b.next_serial a.next_serial fits.serial fit.serial

    schema_same : Differs (counter_row counter.Schema 1 ∷ []) (counter_row counter.Schema 1 ∷ []) []
    schema_same = same_rows (counter_row counter.Schema 1 ∷ []) (counter_row counter.Schema 1 ∷ []) refl

    firsts_differ : Differs (firsts b) (firsts a) (number_changes ++ place_changes)
    firsts_differ = both_differ _ _ _ _ number_changes place_changes apart_firsts number_differs place_differs

    lasts_differ : Differs (lasts b) (lasts a) serial_changes
    lasts_differ = both_differ _ _ _ _ [] serial_changes apart_lasts schema_same serial_differs

    pub counters_differ : Differs (counter_rows b.next_number b.next_place b.next_serial) (counter_rows a.next_number a.next_place a.next_serial) (counter_changes b a)
    counters_differ = both_differ (firsts b) (firsts a) (lasts b) (lasts a) (number_changes ++ place_changes) serial_changes apart_all firsts_differ lasts_differ

    pub counters_ordered : AreInOrder (counter_changes b a)
    counters_ordered =
        both_ordered (firsts b) (firsts a) (lasts b) (lasts a) (number_changes ++ place_changes) serial_changes apart_all firsts_differ lasts_differ
        (both_ordered (counter_row counter.Number b.next_number ∷ []) (counter_row counter.Number a.next_number ∷ []) (counter_row counter.Place b.next_place ∷ []) (counter_row counter.Place a.next_place ∷ []) number_changes place_changes apart_firsts number_differs place_differs
        (one_ordered counter.Number b.next_number a.next_number) (one_ordered counter.Place b.next_place a.next_place))
        (one_ordered counter.Serial b.next_serial a.next_serial)
