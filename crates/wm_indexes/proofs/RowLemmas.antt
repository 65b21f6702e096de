-- A map of jobs by serial and the rows of some of them: what a job that comes, goes or gets another value leaves of both.
use Rattle.std.proofs.Common.{◌≡◌, ℕ, suc, ◌+◌, ◌-◌, ◌≤◌, Bool, true, false, not, cond, List, [], ◌∷◌, ◌++◌, length, get_or, Option, Some, None, option_map, is_some, inl, inr, refl, ap, sym, ◌∙◌, subst, arith, nat_eq, Contains}
use Rattle.std.specs.List.{find}
use Rattle.std.specs.Ordering.{nat_cmp}
use Rattle.std.specs.declared.cmp.Ordering.{Ordering}
use Rattle.std.specs.declared.cmp.Ordering.TheVariants.{Less, Equal, Greater}
use Rattle.std.specs.Cmp.{unsigned_ties}
use Rattle.std.proofs.lemmas.Bool.{cases_Bool, eqb-true, eq-eqb, false≢true, not_from_false}
use Rattle.std.proofs.lemmas.Cmp.{nat_cmp_total, ranked}
use Rattle.std.proofs.lemmas.Bool.Decides.{nat_tests}
use Rattle.std.proofs.lemmas.List.Elements.{All-nil, All-cons}
use Rattle.wm_base.proofs.Lists.{length-filter_few}
use Rattle.wm_desc.specs.Sorted.{IsSortedOnce, has_key, place_of, added, removed}
use Rattle.wm_ordered.specs.Index.{IsIndex, capacity_of}
use Rattle.wm_ordered.specs.Ordered.{Pairs, key_of, value_at, with_value}
use Rattle.wm_ordered.proofs.Around.{Around, set-here, removed-here, added-here}
use Rattle.wm_ordered.proofs.IndexLemmas.{index-grows, index-keeps, index-lacks, index-left, index-length, index-shrinks}
use Rattle.wm_ordered.proofs.Keyed.{length-added, length-removed, length-set}
use Rattle.wm_ordered.proofs.Members.{AllPairs-head, AllPairs-tail, filter-whole, find-before, find-None, find-Some, list_any-false}
use Rattle.wm_indexes.specs.Rows.{HaveRoom, HaveRows, seen_of}

behind : (n s m : ℕ) → m ≡ s → nat_cmp m n ≡ Less → nat_cmp n s ≡ Greater
behind n s m same h = grind (arith, nat_tests)

module _ {V : Type 0} where
  abbrev before : ℕ × V → ℕ × V → Type 0
  before a b = nat_cmp a.0 b.0 ≡ Less

  -- rows around that of a serial
  pub record HasRow (s : ℕ) (value : V) (items : List (ℕ × V)) : Type 0 where
    pub left : List (ℕ × V)
    pub right : List (ℕ × V)
    pub whole : items ≡ left ++ (s, value) ∷ right
    pub around : Around s left right

  module _ (s : ℕ) (v : V) where
    abbrev is_it : ℕ × V → Bool
    is_it e = nat_eq e.0 s

    row-here : (x : ℕ × V) (xs : List (ℕ × V)) → x ≡ (s, v) → IsSortedOnce key_of nat_cmp (x ∷ xs) → HasRow s v (x ∷ xs)
    row-here x xs same sorted = record {
      left = [];
      right = xs;
      whole = ap (λ (y : ℕ × V). y ∷ xs) same;
      around = record {
        low = All-nil (λ (y : ℕ × V). nat_cmp y.0 s ≡ Less);
        high = λ k d lt. behind (get_or xs k d).0 s x.0 (ap (λ (y : ℕ × V). y.0) same) (sorted 0 (suc k) d (omega arith) (omega arith));
      };
    }

    row-later : (x : ℕ × V) (xs : List (ℕ × V)) → nat_cmp x.0 s ≡ Less → HasRow s v xs → HasRow s v (x ∷ xs)
    row-later x xs less h = record {
      left = x ∷ h.left;
      right = h.right;
      whole = ap (λ l. x ∷ l) h.whole;
      around = record {
        low = All-cons (λ (y : ℕ × V). nat_cmp y.0 s ≡ Less) x h.left less h.around.low;
        high = h.around.high;
      };
    }

    row-is : (x : ℕ × V) → nat_eq x.0 s ≡ true → x.1 ≡ v → x ≡ (s, v)
    row-is x key value = ap (λ (n : ℕ). (n, x.1)) (eqb-true x.0 s key) ∙ ap (λ (w : V). (s, w)) value

    some-row : (o : Option (ℕ × V)) → option_map (λ p. p.1) o ≡ Some v → (r : ℕ × V) × (o ≡ Some r) × (r.1 ≡ v)
    some-row None h = absurd (cc h)
    some-row (Some r) h = (r, refl, cc h)

    row-by : (b : Bool) (x : ℕ × V) (xs : List (ℕ × V)) (r : ℕ × V) → is_it x ≡ b → IsSortedOnce key_of nat_cmp (x ∷ xs) → cond b (Some x) (find is_it xs) ≡ Some r → r.1 ≡ v → (find is_it xs ≡ Some r → HasRow s v xs) → HasRow s v (x ∷ xs)
    row-by true x xs r e sorted is value rest = let same : x ≡ r = cc is in row-here x xs (row-is x e (ap (λ (y : ℕ × V). y.1) same ∙ value)) sorted
    row-by false x xs r e sorted is value rest =
        let there = find-Some is_it xs r is in
        let one : r.0 ≡ s = eqb-true r.0 s there.1 in
        row-later x xs (subst (λ (n : ℕ). nat_cmp x.0 n ≡ Less) one (AllPairs-head before x r xs sorted there.0)) (rest is)

    row-of : (items : List (ℕ × V)) (r : ℕ × V) → IsSortedOnce key_of nat_cmp items → find is_it items ≡ Some r → r.1 ≡ v → HasRow s v items
    row-of [] r sorted is value = absurd (cc is)
    row-of (x ∷ xs) r sorted is value = row-by (is_it x) x xs r refl sorted is value (λ h. row-of xs r (AllPairs-tail before x xs sorted) h value)

    module _ (items : List (ℕ × V)) (sorted : IsSortedOnce key_of nat_cmp items) (is : value_at nat_eq s items ≡ Some v) where
      pub row : HasRow s v items
      row = let found = some-row (find is_it items) is in row-of items found.0 sorted found.1 found.2

      -- without its row
      pub removed-is : removed key_of nat_eq s items ≡ row.left ++ row.right
      removed-is = ap (removed key_of nat_eq s) row.whole ∙ removed-here s row.left row.right row.around v

      pub set-again : (w : V) → with_value nat_eq s w items ≡ added key_of nat_cmp (s, w) (removed key_of nat_eq s items)
      set-again w =
          let changed = ap (with_value nat_eq s w) row.whole ∙ set-here s row.left row.right row.around v w in
          changed ∙ sym (ap (λ l. added key_of nat_cmp (s, w) l) removed-is ∙ added-here s row.left row.right row.around w)

      pub one-less : length (removed key_of nat_eq s items) + 1 ≡ length items
      one-less =
          let bit = ap (λ o. cond {A = ℕ} (is_some o) 1 0) is in omega (arith, length-removed nat_cmp_total nat_eq unsigned_ties s items sorted, bit)

      -- it is the one of its serial
      pub alone : (x : ℕ × V) → Contains items x → nat_eq x.0 s ≡ true → x ≡ (s, v)
      alone x there e =
          let found = some-row (find is_it items) is in
          let first = find-Some is_it items found.0 found.1 in
          elim (find-before before is_it items found.0 x sorted found.1 there e) [
            | inl same ↦ same ∙ row-is found.0 first.1 found.2
            | inr lt ↦ (let below = ranked found.0.0 x.0 Less (sym lt) in let one = eqb-true x.0 s e in let other = eqb-true found.0.0 s first.1 in absurd (omega (arith, below, one, other)))
          ]

  pub no-more-left : (s : ℕ) (items : List (ℕ × V)) → length (removed key_of nat_eq s items) ≤ length items
  no-more-left s items = length-filter_few (λ (e : ℕ × V). not (nat_eq e.0 s)) items

  -- a serial that isn't there takes nothing with it
  pub removed-none : (s : ℕ) (items : List (ℕ × V)) → value_at nat_eq s items ≡ None → removed key_of nat_eq s items ≡ items
  removed-none s items none = filter-whole (λ (e : ℕ × V). not (nat_eq e.0 s)) items (λ e there. not_from_false _ (find-None (λ (x : ℕ × V). nat_eq x.0 s) items e (absent (find (λ (x : ℕ × V). nat_eq x.0 s) items) none) there))
    where
      absent : (o : Option (ℕ × V)) → option_map (λ p. p.1) o ≡ None → o ≡ None
      absent None h = refl
      absent (Some r) h = absurd (cc h)

-- a map of jobs, after an edit, has the room that it had
module _ {V : Type 0} (most : ℕ) (jobs new : Pairs ℕ V) (h : HaveRoom most jobs) (s : ℕ) where
  pub room-added : (v : V) → 1 ≤ most - length jobs.items → new.items ≡ added key_of nat_cmp (s, v) jobs.items → jobs.spare ≡ new.spare + 1 → HaveRoom most new
  room-added v some is less =
      let more = length-added key_of nat_cmp (s, v) jobs.items in record {
        few = omega (arith, some, more, ap length is);
        fits = h.fits;
        room = omega (arith, more, ap length is, less, h.room);
      }

  pub room-set : (v : V) → new.items ≡ with_value nat_eq s v jobs.items → new.spare ≡ jobs.spare → HaveRoom most new
  room-set v is same =
      let long = length-set nat_eq s v jobs.items in record {
        few = omega (arith, long, ap length is, h.few);
        fits = h.fits;
        room = omega (arith, long, ap length is, same, h.room);
      }

  module _ (is : new.items ≡ removed key_of nat_eq s jobs.items) where
    pub room-removed : IsSortedOnce key_of nat_cmp jobs.items → (o : Option V) → o ≡ value_at nat_eq s jobs.items → new.spare ≡ jobs.spare + cond (is_some o) 1 0 → HaveRoom most new
    room-removed sorted o value more =
        let bit = ap (λ q. cond {A = ℕ} (is_some q) 1 0) value in
        let less = length-removed nat_cmp_total nat_eq unsigned_ties s jobs.items sorted in record {
          few = omega (arith, less, ap length is, h.few);
          fits = h.fits;
          room = omega (arith, less, ap length is, bit, more, h.room);
        }

    -- its room is spare again
    pub more-spare : (seen : Pairs ℕ V) → seen_of most jobs ≡ seen → seen.spare ≤ most - length new.items
    more-spare seen view = omega (arith, ap (λ (p : Pairs ℕ V). p.spare) view, ap length is, no-more-left s jobs.items)

    pub same-nodes : (seen : Pairs ℕ V) → seen_of most jobs ≡ seen → length new.items + (most - length new.items) ≡ length seen.items + seen.spare
    same-nodes seen view =
        subst (λ (p : Pairs ℕ V). length new.items + (most - length new.items) ≡ length p.items + p.spare) view (omega (arith, ap length is, no-more-left s jobs.items, h.few))

-- a key of jobs, of which each has its own
pub record IsKey {V K : Type 0} (key : ℕ × V → K) (cmp : K → K → Ordering) (eq : K → K → Bool) : Type 0 where
  pub own : (x y : ℕ × V) → eq (key x) (key y) ≡ true → x.0 ≡ y.0
  pub itself : (k : K) → eq k k ≡ true
  pub tied : (k : K) → cmp k k ≡ Equal

module _ {V K T : Type 0} (key : ℕ × V → K) (told : ℕ × V → T) (has_one : ℕ × V → Bool) (cmp : K → K → Ordering) (eq : K → K → Bool) (is_key : IsKey key cmp eq) (most : ℕ) (jobs : List (ℕ × V)) (rows : Pairs K T) (h : HaveRows key told has_one most jobs rows) where
  -- where there are fewer jobs than there may be, there is room for a row
  pub rows-spare : IsSortedOnce key_of cmp rows.items → length jobs + 1 ≤ most → 1 ≤ rows.spare
  rows-spare sorted fewer = omega (arith, index-length key told has_one jobs rows.items h.index cmp is_key.tied sorted, h.room, fewer)

  -- a job that isn't there has no row
  pub rows-lack : (x : ℕ × V) → has_key key_of nat_eq x.0 jobs ≡ false → has_key key_of eq (key x) rows.items ≡ false
  rows-lack x none =
      index-lacks key told has_one jobs rows.items h.index eq x (λ y there.
      elim (cases_Bool (eq (key y) (key x))) [
        | inl e ↦ absurd (false≢true (sym (list_any-false (λ (z : ℕ × V). nat_eq z.0 x.0) jobs y none there) ∙ eq-eqb y.0 x.0 (is_key.own y x e)))
        | inr e ↦ e
      ])

  -- one more
  put-by : (x : ℕ × V) (b : Bool) (k : K) (t : T) → b ≡ has_one x → k ≡ key x → t ≡ told x → IsIndex key told has_one (added key_of nat_cmp x jobs) (cond b (added key_of cmp (k, t) rows.items) rows.items)
  put-by x true k t e same_key same =
      rw (same_key, same) (index-grows key told has_one jobs rows.items h.index x (place_of key_of nat_cmp x.0 jobs) (place_of key_of cmp (key x) rows.items) (sym e))
  put-by x false k t e same_key same = index-keeps key told has_one jobs rows.items h.index x (place_of key_of nat_cmp x.0 jobs) (sym e)

  pub rows-put : (x : ℕ × V) (b : Bool) (k : K) (t : T) → b ≡ has_one x → k ≡ key x → t ≡ told x → (new : Pairs K T) → new.items ≡ cond b (added key_of cmp (k, t) rows.items) rows.items → capacity_of new ≡ capacity_of rows → HaveRows key told has_one most (added key_of nat_cmp x jobs) new
  rows-put x b k t e same_key same new is capacity = record {
    index = subst (λ l. IsIndex key told has_one (added key_of nat_cmp x jobs) l) (sym is) (put-by x b k t e same_key same);
    room = omega (arith, capacity, h.room);
  }

  -- one less
  module _ (s : ℕ) (v : V) (sorted : IsSortedOnce key_of nat_cmp jobs) (is : value_at nat_eq s jobs ≡ Some v) where
    taken-by : (b : Bool) (k : K) → b ≡ has_one (s, v) → k ≡ key (s, v) → IsIndex key told has_one (removed key_of nat_eq s jobs) (cond b (removed key_of eq k rows.items) rows.items)
    taken-by true k e same_key =
        rw same_key (index-shrinks key told has_one jobs rows.items h.index (s, v) (λ x. nat_eq x.0 s) (eq-eqb s s refl) (alone s v jobs sorted is) eq (is_key.itself (key (s, v))) (λ x there same. alone s v jobs sorted is x there (eq-eqb x.0 s (is_key.own x (s, v) same))))
    taken-by false k e same_key = index-left key told has_one jobs rows.items h.index (s, v) (λ x. nat_eq x.0 s) (eq-eqb s s refl) (alone s v jobs sorted is) (sym e)

    pub rows-taken : (b : Bool) (k : K) → b ≡ has_one (s, v) → k ≡ key (s, v) → (new : Pairs K T) → new.items ≡ cond b (removed key_of eq k rows.items) rows.items → capacity_of new ≡ capacity_of rows → HaveRows key told has_one most (removed key_of nat_eq s jobs) new
    rows-taken b k e same_key new is capacity = record {
      index = subst (λ l. IsIndex key told has_one (removed key_of nat_eq s jobs) l) (sym is) (taken-by b k e same_key);
      room = omega (arith, capacity, h.room);
    }
