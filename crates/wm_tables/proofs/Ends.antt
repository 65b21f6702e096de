-- Good counters keep the next numbers within their ranges.
use Rattle.std.proofs.Common.{◌≡◌, ℕ, zero, suc, ◌≤◌, List, [], ◌∷◌, get_or, refl, sym, ap, subst, ◌∙◌, inl, inr, arith}
use Rattle.std.specs.Prelude.{⊤}
use Rattle.std.specs.List.{Contains}
use Rattle.wm_traits.specs.declared.row.Row.{Row}
use Rattle.wm_law.specs.Laws.{IsIn}
use Rattle.wm_law.specs.Submitting.{numbers_end, serials_end}
use Rattle.wm_law.specs.declared.state.State.{State}
use Rattle.wm_rows.specs.Rows.{counter_row, counter_word}
use Rattle.wm_rows.specs.declared.stored.Counter.{Counter}
use Rattle.wm_rows.specs.declared.stored.Counter.TheVariants as counter
use Rattle.wm_tables.specs.Restart.{with_counter, IsGoodCount, Counts, Takes, IsRead}
use Rattle.wm_tables.proofs.Made.{made_tab, tabs_rise}
use Rattle.wm_tables.proofs.RowOrder.{IsAscending}

-- what a counter counts keeps its range
abbrev pub IsWithin : Counter → State → Type 0
IsWithin counter.Number s = s.next_number ≤ numbers_end
IsWithin counter.Place s = s.next_place ≤ serials_end
IsWithin counter.Schema s = ⊤
IsWithin counter.Serial s = s.next_serial ≤ serials_end

counted_within : (s : State) (c : Counter) (n : ℕ) → IsGoodCount s c n → IsWithin c (with_counter s c n)
counted_within s counter.Number n g = g.most
counted_within s counter.Place n g = g.most
counted_within s counter.Schema n g = tt
counted_within s counter.Serial n g = g.most

still_within : (s : State) (c d : Counter) (n : ℕ) → IsGoodCount s d n → IsWithin c s → IsWithin c (with_counter s d n)
still_within s counter.Number counter.Number n g h = g.most
still_within s counter.Number counter.Place n g h = h
still_within s counter.Number counter.Schema n g h = h
still_within s counter.Number counter.Serial n g h = h
still_within s counter.Place counter.Number n g h = h
still_within s counter.Place counter.Place n g h = g.most
still_within s counter.Place counter.Schema n g h = h
still_within s counter.Place counter.Serial n g h = h
still_within s counter.Schema d n g h = tt
still_within s counter.Serial counter.Number n g h = h
still_within s counter.Serial counter.Place n g h = h
still_within s counter.Serial counter.Schema n g h = h
still_within s counter.Serial counter.Serial n g h = g.most

-- a row of the last table is that of a counter
pub counts : (s : State) (row : Row) (u : State) → 12 ≤ row.tab → Takes s row u → Counts s row u
counts s row u late (inl m) = let tab = made_tab m.command row m.is_row in absurd (omega arith)
counts s row u late (inr (inl m)) = let tab : 10 ≡ row.tab = ap (λ (r : Row). r.tab) m.is_row in absurd (omega arith)
counts s row u late (inr (inr (inl m))) = let tab : 11 ≡ row.tab = ap (λ (r : Row). r.tab) m.is_row in absurd (omega arith)
counts s row u late (inr (inr (inr m))) = m

rows_within : (c : Counter) (rows : List Row) (s t : State) → ((r : Row) → IsIn r rows → 12 ≤ r.tab) → IsRead s rows t → IsWithin c s → IsWithin c t
rows_within c [] s t late read h = subst (IsWithin c) (sym read) h
rows_within c (row ∷ rows) s t late read h =
    let m = counts s row read.0 (late row (inl refl)) read.1 in
    rows_within c rows read.0 t (λ r i. late r (inr i)) read.2 (subst (IsWithin c) (sym m.makes) (still_within s c m.counter m.count m.good h))

-- words with other second letters are others
other_words : (xs ys : List ℕ) (a b : ℕ) → xs ≡ ys → get_or xs 1 0 ≡ a → get_or ys 1 0 ≡ b → (a ≡ b → ⊥) → ⊥
other_words xs ys a b e f g other = other (sym f ∙ ap (λ (zs : List ℕ). get_or zs 1 0) e ∙ g)

-- counters are told apart by their words
pub one_counter : (c d : Counter) → counter_word c ≡ counter_word d → c ≡ d
one_counter counter.Number counter.Number e = refl
one_counter counter.Number counter.Place e = absurd (other_words (counter_word counter.Number) (counter_word counter.Place) 85 76 e refl refl (λ n. absurd (omega arith)))
one_counter counter.Number counter.Schema e = absurd (other_words (counter_word counter.Number) (counter_word counter.Schema) 85 67 e refl refl (λ n. absurd (omega arith)))
one_counter counter.Number counter.Serial e = absurd (other_words (counter_word counter.Number) (counter_word counter.Serial) 85 69 e refl refl (λ n. absurd (omega arith)))
one_counter counter.Place counter.Number e = absurd (other_words (counter_word counter.Place) (counter_word counter.Number) 76 85 e refl refl (λ n. absurd (omega arith)))
one_counter counter.Place counter.Place e = refl
one_counter counter.Place counter.Schema e = absurd (other_words (counter_word counter.Place) (counter_word counter.Schema) 76 67 e refl refl (λ n. absurd (omega arith)))
one_counter counter.Place counter.Serial e = absurd (other_words (counter_word counter.Place) (counter_word counter.Serial) 76 69 e refl refl (λ n. absurd (omega arith)))
one_counter counter.Schema counter.Number e = absurd (other_words (counter_word counter.Schema) (counter_word counter.Number) 67 85 e refl refl (λ n. absurd (omega arith)))
one_counter counter.Schema counter.Place e = absurd (other_words (counter_word counter.Schema) (counter_word counter.Place) 67 76 e refl refl (λ n. absurd (omega arith)))
one_counter counter.Schema counter.Schema e = refl
one_counter counter.Schema counter.Serial e = absurd (other_words (counter_word counter.Schema) (counter_word counter.Serial) 67 69 e refl refl (λ n. absurd (omega arith)))
one_counter counter.Serial counter.Number e = absurd (other_words (counter_word counter.Serial) (counter_word counter.Number) 69 85 e refl refl (λ n. absurd (omega arith)))
one_counter counter.Serial counter.Place e = absurd (other_words (counter_word counter.Serial) (counter_word counter.Place) 69 76 e refl refl (λ n. absurd (omega arith)))
one_counter counter.Serial counter.Schema e = absurd (other_words (counter_word counter.Serial) (counter_word counter.Schema) 69 67 e refl refl (λ n. absurd (omega arith)))
one_counter counter.Serial counter.Serial e = refl

-- a counter that stands among good rows keeps its range
pub row_within : (c : Counter) (n : ℕ) (rows : List Row) (s t : State) → IsAscending rows → IsRead s rows t → IsIn (counter_row c n) rows → IsWithin c t
row_within c n [] s t up read i = absurd i
row_within c n (row ∷ rows) s t up read (inl same) =
    let tab : 12 ≡ row.tab = ap (λ (r : Row). r.tab) same in
    let m = counts s row read.0 (omega arith) read.1 in
    let one : m.counter ≡ c = one_counter m.counter c (ap (λ (r : Row). r.key) (m.is_row ∙ sym same)) in
    let first : IsWithin c read.0 = subst (IsWithin c) (sym m.makes) (subst (λ (d : Counter). IsWithin d (with_counter s m.counter m.count)) one (counted_within s m.counter m.count m.good)) in
    rows_within c rows read.0 t (λ r i. (let on = tabs_rise row r (up.0 r i) in omega arith)) read.2 first
row_within c n (row ∷ rows) s t up read (inr i) = row_within c n rows read.0 t up.1 read.2 i

pub contained : {X : Type 0} (xs : List X) (x : X) → Contains xs x → IsIn x xs
contained [] x h = absurd (omega (arith, h.1))
contained (y ∷ ys) x (zero, lt, e) = inl (sym e)
contained (y ∷ ys) x (suc k, lt, e) = inr (contained ys x (k, omega arith, e))

pub in_contains : {X : Type 0} (xs : List X) (x : X) → IsIn x xs → Contains xs x
in_contains [] x i = absurd i
in_contains (y ∷ ys) x (inl same) = (zero, (omega arith), sym same)
in_contains (y ∷ ys) x (inr i) = let rest = in_contains ys x i in (suc rest.0, (let less = rest.1 in omega arith), rest.2)
