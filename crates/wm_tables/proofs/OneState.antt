-- Rows make one state, and bad rows none.
use Rattle.std.proofs.Common.{◌≡◌, ◌⊎◌, ℕ, suc, ◌+◌, ◌<◌, ◌≤◌, ◌^◌, ℤ, List, [], ◌∷◌, ◌++◌, codes, length, get_or, take, drop, drop-cons, Some, None, Option, refl, sym, ap, subst, ◌∙◌, inl, inr, arith}
use Rattle.std.specs.Prelude.{IsTrue, slice_get}
use Rattle.std.proofs.lemmas.Bool.{cases_lt}
use Rattle.std.proofs.lemmas.List.{get_or-take, length-take-le, take-append-drop, take-take, take_all}
use Rattle.std.proofs.lemmas.Option.{get_or_from_slice_get, slice_get-get_or, slice_get_past}
use Rattle.wm_base.specs.declared.qname.QName.{QName}
use Rattle.wm_traits.specs.Rows.{IsInOrder, is_before}
use Rattle.wm_traits.specs.declared.row.Row.{Row}
use Rattle.wm_law.specs.Machine.{change}
use Rattle.wm_law.specs.Opening.{empty}
use Rattle.wm_law.specs.Queues.{hold_queue}
use Rattle.wm_law.specs.declared.command.Command.{Command}
use Rattle.wm_law.specs.declared.state.State.{State}
use Rattle.wm_command.specs.Printed.{PrintedCommandIsRead}
use Rattle.wm_rows.specs.declared.stored.Counter.{Counter}
use Rattle.wm_rows.specs.declared.stored.Counter.TheVariants as counter
use Rattle.wm_tables.specs.Restart.{AreGood, Counts, Enters, HasCounters, Holds, IsBad, IsGoodCount, IsNotGood, IsRead, Makes, Takes, with_counter, with_stored}
use Rattle.wm_tables.proofs.Ends.{one_counter}
use Rattle.wm_tables.proofs.Keys.{one_text}
use Rattle.wm_tables.proofs.Made.{made_tab}
use Rattle.wm_tables.specs.ChainLaws.{BadRowsMakeNone, OneRowIsBad, RowsMakeOneState}
use Rattle.wm_tables.proofs.Held.{one_job}
use Rattle.wm_tables.proofs.SameRow.{digits_of_one, row_of_one}

-- One row

count_small : (s : State) (c : Counter) (n : ℕ) → IsGoodCount s c n → n < 2 ^ 64
count_small s counter.Number n g = let most = g.most in omega arith
count_small s counter.Place n g = let most = g.most in omega arith
count_small s counter.Schema n g = omega arith
count_small s counter.Serial n g = let most = g.most in omega arith

makes_one : PrintedCommandIsRead → (s : State) (row : Row) (t u : State) → Makes s row t → Makes s row u → t ≡ u
makes_one printed s row t u a b =
    a.makes ∙ ap (λ (c : Command). (change s (codes "QSYS") c).state) (row_of_one printed a.command b.command row a.fit b.fit a.is_row b.is_row) ∙ sym b.makes

holds_one : (s : State) (row : Row) (t u : State) → Holds s row t → Holds s row u → t ≡ u
holds_one s row t u a b =
    a.makes ∙ ap (λ (q : QName). (hold_queue s q).state) (one_text a.queue b.queue a.fit b.fit (ap (λ (r : Row). r.key) (a.is_row ∙ sym b.is_row))) ∙ sym b.makes

enters_one : (s : State) (row : Row) (t u : State) → Enters s row t → Enters s row u → t ≡ u
enters_one s row t u a b =
    a.makes ∙ ap (with_stored s) (one_job a.job b.job a.good.stored b.good.stored (a.is_row ∙ sym b.is_row)) ∙ sym b.makes

counts_one : (s : State) (row : Row) (t u : State) → Counts s row t → Counts s row u → t ≡ u
counts_one s row t u a b =
    let same = a.is_row ∙ sym b.is_row in
    let c = one_counter a.counter b.counter (ap (λ (r : Row). r.key) same) in
    let n = digits_of_one a.count b.count (count_small s a.counter a.count a.good) (count_small s b.counter b.count b.good) (ap (λ (r : Row). r.body) same) in
    a.makes ∙ (λ i. with_counter s (c i) (n i)) ∙ sym b.makes

-- what isn't of a command stands in a table behind those of commands
behind_made : (s : State) (row : Row) (t : State) → Holds s row t ⊎ (Enters s row t ⊎ Counts s row t) → 10 ≤ row.tab
behind_made s row t (inl a) = let tab : 10 ≡ row.tab = ap (λ (r : Row). r.tab) a.is_row in omega arith
behind_made s row t (inr (inl a)) = let tab : 11 ≡ row.tab = ap (λ (r : Row). r.tab) a.is_row in omega arith
behind_made s row t (inr (inr a)) = let tab : 12 ≡ row.tab = ap (λ (r : Row). r.tab) a.is_row in omega arith

others_one : (s : State) (row : Row) (t u : State) → Holds s row t ⊎ (Enters s row t ⊎ Counts s row t) → Holds s row u ⊎ (Enters s row u ⊎ Counts s row u) → t ≡ u
others_one s row t u (inl a) (inl b) = holds_one s row t u a b
others_one s row t u (inl a) (inr (inl b)) = let tab : ◌≡◌ {A = ℕ} 10 11 = ap (λ (r : Row). r.tab) (a.is_row ∙ sym b.is_row) in absurd (omega arith)
others_one s row t u (inl a) (inr (inr b)) = let tab : ◌≡◌ {A = ℕ} 10 12 = ap (λ (r : Row). r.tab) (a.is_row ∙ sym b.is_row) in absurd (omega arith)
others_one s row t u (inr (inl a)) (inl b) = let tab : ◌≡◌ {A = ℕ} 11 10 = ap (λ (r : Row). r.tab) (a.is_row ∙ sym b.is_row) in absurd (omega arith)
others_one s row t u (inr (inl a)) (inr (inl b)) = enters_one s row t u a b
others_one s row t u (inr (inl a)) (inr (inr b)) = let tab : ◌≡◌ {A = ℕ} 11 12 = ap (λ (r : Row). r.tab) (a.is_row ∙ sym b.is_row) in absurd (omega arith)
others_one s row t u (inr (inr a)) (inl b) = let tab : ◌≡◌ {A = ℕ} 12 10 = ap (λ (r : Row). r.tab) (a.is_row ∙ sym b.is_row) in absurd (omega arith)
others_one s row t u (inr (inr a)) (inr (inl b)) = let tab : ◌≡◌ {A = ℕ} 12 11 = ap (λ (r : Row). r.tab) (a.is_row ∙ sym b.is_row) in absurd (omega arith)
others_one s row t u (inr (inr a)) (inr (inr b)) = counts_one s row t u a b

-- one row makes one state of a state
takes_one : PrintedCommandIsRead → (s : State) (row : Row) (t u : State) → Takes s row t → Takes s row u → t ≡ u
takes_one printed s row t u (inl a) (inl b) = makes_one printed s row t u a b
takes_one printed s row t u (inl a) (inr b) = let low = made_tab a.command row a.is_row in let high = behind_made s row u b in absurd (omega arith)
takes_one printed s row t u (inr a) (inl b) = let low = made_tab b.command row b.is_row in let high = behind_made s row t a in absurd (omega arith)
takes_one printed s row t u (inr a) (inr b) = others_one s row t u a b

-- All rows

read_one : PrintedCommandIsRead → (rows : List Row) (s t u : State) → IsRead s rows t → IsRead s rows u → t ≡ u
read_one printed [] s t u a b = a ∙ sym b
read_one printed (row ∷ rows) s t u a b =
    let first = takes_one printed s row a.0 b.0 a.1 b.1 in
    read_one printed rows b.0 t u (subst (λ (v : State). IsRead v rows t) first a.2) b.2

pub rows_make_one_state : PrintedCommandIsRead → RowsMakeOneState
rows_make_one_state printed offset [] s t a b = a ∙ sym b
rows_make_one_state printed offset (row ∷ rows) s t a b = read_one printed (row ∷ rows) (empty offset) s t a.0.read b.0.read

-- Bad rows

-- the first of rows in their order are in their order
first_in_order : (rows : List Row) (n : ℕ) → n ≤ length rows → IsInOrder rows → IsInOrder (take n rows)
first_in_order rows n within o =
    λ i j d less in_range.
    let short : length (take n rows) ≡ n = length-take-le n rows within in
    let j_less : j < n = omega arith in
    let before = o i j d less (omega arith) in
    let at_i : get_or rows i d ≡ get_or (take n rows) i d = sym (get_or-take n rows i d (omega arith)) in
    let at_j : get_or rows j d ≡ get_or (take n rows) j d = sym (get_or-take n rows j d j_less) in
    subst (λ (r : Row). IsTrue (is_before (get_or (take n rows) i d) r)) at_j (subst (λ (r : Row). IsTrue (is_before r (get_or rows j d))) at_i before)

-- a row that is read was taken behind those before it
taken_behind : (front : List Row) (row : Row) (rest : List Row) (s t : State) → IsRead s (front ++ row ∷ rest) t → (u : State) × IsRead s front u × ((v : State) × Takes u row v)
taken_behind [] row rest s t read = (s, refl, (read.0, read.1))
taken_behind (r ∷ front) row rest s t read = let p = taken_behind front row rest read.0 t read.2 in (p.0, (read.0, read.1, p.1), p.2)

module _ (printed : PrintedCommandIsRead) (offset : ℤ) (rows : List Row) (n m : ℕ) (t : State) (bad : IsBad offset rows n) (less : n < m) (within : m ≤ length rows) (good : AreGood offset (take m rows) t) where
  abbrev firsts : List Row
  firsts = take m rows

  long : length firsts ≡ m
  long = length-take-le m rows within

  -- the row behind those before the bad one was taken
  taken : (row : Row) → slice_get rows n ≡ Some row → (v : State) × Takes bad.state row v
  taken row there =
      let at : get_or firsts n row ≡ row = get_or-take m rows n row less ∙ get_or_from_slice_get rows n row row there in
      let parts : take n firsts ++ row ∷ drop (suc n) firsts ≡ firsts =
      ap (λ (l : List Row). take n firsts ++ l) (ap (λ (r : Row). r ∷ drop (suc n) firsts) (sym at) ∙ sym (drop-cons firsts n row (omega (arith, long)))) ∙ take-append-drop n firsts in
      let p = taken_behind (take n firsts) row (drop (suc n) firsts) (empty offset) t (subst (λ (rs : List Row). IsRead (empty offset) rs t) (sym parts) good.read) in
      let front : take n firsts ≡ take n rows = take-take n m rows (omega arith) in
      let one : p.0 ≡ bad.state = read_one printed (take n rows) (empty offset) p.0 bad.state (subst (λ (rs : List Row). IsRead (empty offset) rs p.0) front p.1) bad.before.read in
      (p.2.0, subst (λ (u : State). Takes u row p.2.0) one p.2.1)

  never : (o : Option Row) → slice_get rows n ≡ o → IsNotGood offset rows n bad.state o → ⊥
  never None e not_good = (let there = slice_get-get_or rows n (record { tab = 0; key = []; body = [] }) (omega arith) in absurd (cc))
  never (Some row) e not_good =
      let v = taken row e in
      let order : IsInOrder (take (n + 1) rows) = subst IsInOrder (take-take (n + 1) m rows (omega arith)) (first_in_order firsts (n + 1) (omega (arith, long)) good.order) in
      not_good order v.0 v.1

  -- rows with the bad one among them aren't good
  pub first_bad : ⊥
  first_bad = never (slice_get rows n) refl bad.not_good

counters_lack : (offset : ℤ) (rows : List Row) (n : ℕ) (bad : IsBad offset rows n) → length rows ≤ n → HasCounters rows → ⊥
counters_lack offset rows n bad past all = subst (IsNotGood offset rows n bad.state) (slice_get_past rows n past) bad.not_good all

pub bad_rows_make_none : PrintedCommandIsRead → BadRowsMakeNone
bad_rows_make_none printed offset [] n s bad h = let some = bad.some in absurd (omega arith)
bad_rows_make_none printed offset (row ∷ rows) n s bad h =
    elim (cases_lt n (length (row ∷ rows))) as (λ _. ⊥) [
      | inl less ↦ first_bad printed offset (row ∷ rows) n (length (row ∷ rows)) s bad less (omega arith) (subst (λ (rs : List Row). AreGood offset rs s) (sym (take_all (length (row ∷ rows)) (row ∷ rows) (omega arith))) h.0)
      | inr past ↦ counters_lack offset (row ∷ rows) n bad past h.1
    ]

pub one_row_is_bad : PrintedCommandIsRead → OneRowIsBad
one_row_is_bad printed offset rows n m a b =
    elim (cases_lt n m) as (λ _. n ≡ m) [
      | inl less ↦ absurd (first_bad printed offset rows n m b.state a less b.within b.before)
      | inr back ↦ (elim (cases_lt m n) as (λ _. n ≡ m) [
        | inl more ↦ absurd (first_bad printed offset rows m n a.state b more a.within a.before)
        | inr on ↦ omega arith
      ])
    ]
