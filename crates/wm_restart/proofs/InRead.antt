-- Rows that are read, one after another.
use Rattle.std.proofs.Common.{◌≡◌, ◌⊎◌, ℕ, suc, ◌+◌, ◌<◌, ◌≤◌, ℤ, true, false, List, [], ◌∷◌, ◌++◌, length, take, Option, Some, None, IsTrue, refl, sym, subst, ap, ◌∙◌, inl, inr, arith}
use Rattle.std.specs.List.{Contains, slice_get}
use Rattle.std.proofs.Math.ListN.{get_or}
use Rattle.std.proofs.Math.Seq.{take-suc}
use Rattle.std.proofs.lemmas.Bool.{and_parts, cases_lt}
use Rattle.std.proofs.lemmas.List.{get_or-take, length-take-le, take_all}
use Rattle.std.proofs.lemmas.Option.{slice_get-get_or, slice_get_within, get_or_from_slice_get}
use Rattle.wm_base.proofs.Tests.{all_four}
use Rattle.wm_traits.specs.declared.row.Row.{Row}
use Rattle.wm_traits.specs.Rows.{IsInOrder, is_before, is_of, place_of}
use Rattle.wm_law.proofs.Due.{of_any}
use Rattle.wm_law.specs.Laws.{IsIn}
use Rattle.wm_law.specs.Opening.{empty}
use Rattle.wm_law.specs.declared.state.State.{State}
use Rattle.wm_rows.specs.Rows.{counter_row, counter_word}
use Rattle.wm_rows.specs.declared.stored.Counter.{Counter}
use Rattle.wm_rows.specs.declared.stored.Counter.TheVariants as counter
use Rattle.wm_tables.specs.Restart.{AreGood, HasCounters, IsBad, IsNotGood, IsRead, Takes}
use Rattle.wm_tables.proofs.Ends.{contained, in_contains}
use Rattle.wm_tables.proofs.Made.{made_tab}
use Rattle.wm_tables.proofs.Passing.{one_passes}
use Rattle.wm_tables.proofs.RowOrder.{of_place}
use Rattle.wm_restart.specs.Restarted.{AreOrdered, AreRead, has_counter, has_all}

-- one row more
pub read_more : (s : State) (rows : List Row) (row : Row) (t u : State) → IsRead s rows t → Takes t row u → IsRead s (rows ++ row ∷ []) u
read_more s [] row t u read takes = (u, subst (λ (x : State). Takes x row u) read takes, refl)
read_more s (r ∷ rows) row t u read takes = (read.0, read.1, read_more read.0 rows row t u read.2 takes)

pub read_next : (s : State) (rows : List Row) (n : ℕ) (row : Row) (t u : State) → n < length rows → slice_get rows n ≡ Some row → IsRead s (take n rows) t → Takes t row u → IsRead s (take (n + 1) rows) u
read_next s rows n row t u less there read takes =
    let next : n + 1 ≡ suc n = omega arith in
    let parts : take (n + 1) rows ≡ take n rows ++ row ∷ [] =
    ap (λ (m : ℕ). take m rows) next ∙ (take-suc rows n row less ∙ ap (λ (r : Row). take n rows ++ r ∷ []) (get_or_from_slice_get rows n row row there)) in
    subst (λ (rs : List Row). IsRead s rs u) (sym parts) (read_more s (take n rows) row t u read takes)

-- each row that is read was taken
taken_in : (s : State) (rows : List Row) (t : State) (row : Row) → IsRead s rows t → IsIn row rows → (u v : State) × Takes u row v
taken_in s [] t row read i = absurd i
taken_in s (r ∷ rows) t row read (inl same) = (s, read.0, subst (λ (x : Row). Takes s x read.0) (sym same) read.1)
taken_in s (r ∷ rows) t row read (inr i) = taken_in read.0 rows t row read.2 i

own_place : (c : Counter) (n : ℕ) → is_of 12 (counter_word c) (counter_row c n) ≡ true
own_place counter.Number n = refl
own_place counter.Place n = refl
own_place counter.Schema n = refl
own_place counter.Serial n = refl

-- a row of the counters' table that is taken is the row of the counter of its key
module _ (c : Counter) (u v : State) (row : Row) (place : place_of row ≡ 12 ∷ counter_word c) where
  tab : row.tab ≡ 12
  tab = cc

  key : row.key ≡ counter_word c
  key = cc

  same_word : (k : Counter) (n : ℕ) → counter_row k n ≡ row → row ≡ counter_row c n
  same_word k n e = sym e ∙ ap (λ (w : List ℕ). record (counter_row c n) { key = w }) (ap (λ (r : Row). r.key) e ∙ key)

  counter_of : Takes u row v → (n : ℕ) × (row ≡ counter_row c n)
  counter_of (inl m) = absurd (let low = made_tab m.command row m.is_row in omega (arith, tab))
  counter_of (inr (inl h)) = absurd (let ten : 10 ≡ row.tab = ap (λ (r : Row). r.tab) h.is_row in omega (arith, tab))
  counter_of (inr (inr (inl e))) = absurd (let eleven : 11 ≡ row.tab = ap (λ (r : Row). r.tab) e.is_row in omega (arith, tab))
  counter_of (inr (inr (inr k))) = (k.count, same_word k.counter k.count k.is_row)

-- no counter lacks where each has its key
module _ (rows : List Row) (s t : State) (read : IsRead s rows t) where
  counter_there : (c : Counter) → has_counter c rows ≡ true → (n : ℕ) × Contains rows (counter_row c n)
  counter_there c h =
      let f = of_any (is_of 12 (counter_word c)) rows h in
      let at = taken_in s rows t f.0 read f.1 in
      let k = counter_of c at.0 at.1 f.0 (of_place 12 (counter_word c) f.0 f.2) at.2 in
      (k.0, in_contains rows (counter_row c k.0) (subst (λ (r : Row). IsIn r rows) k.1 f.1))

  pub counters_there : has_all rows ≡ true → HasCounters rows
  counters_there h counter.Number = counter_there counter.Number (and_parts _ _ (and_parts _ _ (and_parts _ _ h).0).0).0
  counters_there h counter.Place = counter_there counter.Place (and_parts _ _ (and_parts _ _ (and_parts _ _ h).0).0).1
  counters_there h counter.Schema = counter_there counter.Schema (and_parts _ _ (and_parts _ _ h).0).1
  counters_there h counter.Serial = counter_there counter.Serial (and_parts _ _ h).1

-- and one lacks where it hasn't
pub counter_lacks : (rows : List Row) → has_all rows ≡ false → HasCounters rows → ⊥
counter_lacks rows none have =
    let one : (c : Counter) → has_counter c rows ≡ true = λ c. (let n = have c in one_passes (is_of 12 (counter_word c)) rows (counter_row c n.0) (contained rows (counter_row c n.0) n.1) (own_place c n.0)) in
    let all = all_four _ _ _ _ (one counter.Number) (one counter.Place) (one counter.Schema) (one counter.Serial) in
    absurd (cc)

-- the first of rows in order are in order
pub first_in_order : (rows : List Row) (n most : ℕ) → n ≤ most → most ≤ length rows → IsInOrder (take most rows) → IsInOrder (take n rows)
first_in_order rows n most le within o =
    λ i j d less in_range.
    let short : length (take n rows) ≡ n = length-take-le n rows (omega arith) in
    let long : length (take most rows) ≡ most = length-take-le most rows within in
    let j_less : j < n = omega arith in
    let before = o i j d less (omega arith) in
    let at_i : get_or (take most rows) i d ≡ get_or (take n rows) i d = get_or-take most rows i d (omega arith) ∙ sym (get_or-take n rows i d (omega arith)) in
    let at_j : get_or (take most rows) j d ≡ get_or (take n rows) j d = get_or-take most rows j d (omega arith) ∙ sym (get_or-take n rows j d j_less) in
    subst (λ (r : Row). IsTrue (is_before (get_or (take n rows) i d) r)) at_j (subst (λ (r : Row). IsTrue (is_before r (get_or (take most rows) j d))) at_i before)

module _ (offset : ℤ) (rows : List Row) (most n : ℕ) (t : State) (some : 1 ≤ length rows) (ordered : AreOrdered rows most) (read : AreRead rows most n (empty offset) t) where
  before : AreGood offset (take n rows) t
  before = record { order = first_in_order rows n most read.within ordered.within ordered.order; read = read.read }

  -- the row behind those that are good isn't good
  stops : (row : Row) → slice_get rows n ≡ Some row → (n < most) ⊎ (most ≤ n) → IsInOrder (take (n + 1) rows) → (u : State) → Takes t row u → ⊥
  stops row there (inl less) o u takes = read.stop less row there u takes
  stops row there (inr no_less) o u takes =
      let a = read.within in
      let here : n ≡ most = omega arith in
      let less = slice_get_within rows n row there in
      ordered.broken (omega (arith, here)) (subst (λ (m : ℕ). IsInOrder (take (m + 1) rows)) here o)

  not_good : (o : Option Row) → slice_get rows n ≡ o → (n < length rows) ⊎ (has_all rows ≡ false) → IsNotGood offset rows n t o
  not_good None e (inl less) = absurd (let there = slice_get-get_or rows n (record { tab = 0; key = []; body = [] }) less in cc)
  not_good None e (inr none) = counter_lacks rows none
  not_good (Some row) e w = stops row e (cases_lt n most)

  pub is_bad : (n < length rows) ⊎ (has_all rows ≡ false) → IsBad offset rows n
  is_bad w = record { some = some; within = (let a = read.within in let b = ordered.within in omega arith); state = t; before = before; not_good = not_good (slice_get rows n) refl w }

  pub all_good : length rows ≤ n → AreGood offset rows t
  all_good h = subst (λ (rs : List Row). AreGood offset rs t) (take_all n rows h) before
