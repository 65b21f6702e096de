-- How all that wait are put into the indexes of their kinds, one after the other.
use Rattle.std.proofs.Common.{◌≡◌, ℕ, zero, suc, ◌<◌, ◌≤◌, Bool, true, false, not, ◌==◌, List, [], ◌∷◌, length, take, Some, None, inl, inr, refl, ap, sym, ◌∙◌, subst, arith, Contains, nat_eq, eq-eqb}
use Rattle.std.specs.List.{insert, slice_get}
use Rattle.std.specs.Cmp.{IsTotalOrder}
use Rattle.std.specs.declared.cmp.Ordering.{Ordering}
use Rattle.std.specs.declared.cmp.Ordering.TheVariants.{Less, Equal, Greater}
use Rattle.std.specs.Ordering.{nat_cmp, is_eq, ordering_reverse}
use mathlib.Core.Bool.{false≢true}
use Rattle.std.proofs.lemmas.Bool.{cases_Bool, not_from_true, eqb-true}
use Rattle.std.proofs.lemmas.Bool.Decides.{nat_tests}
use Rattle.wm_desc.specs.Sorted.{IsSortedOnce, has_key, removed}
use Rattle.wm_ordered.specs.Ordered.{key_of}
use Rattle.wm_ordered.proofs.Members.{Contains-nil, Contains-cons, Contains-head, Contains-cases, at-there, first-there, filter-less, list_any-none, AllPairs-head, AllPairs-tail}
use Rattle.wm_ordered.specs.declared.waiter.Waiter.{Waiter}
use Rattle.wm_ordered.specs.Index.{IsIndex}
use Rattle.wm_ordered.specs.Keys.{waiters_of}
use Rattle.wm_ordered.specs.Waiting.{serial_of, has_place, HavePlaces}

-- no row is the index of nobody
pub index-nobody : {K V : Type 0} (key : Waiter → K) (told : Waiter → V) (test : Waiter → Bool) (rows : List (K × V)) → rows ≡ [] → IsIndex key told test [] rows
index-nobody key told test rows none = subst (λ l. IsIndex key told test [] l) (sym none) (record {
  sound = λ r there. absurd (Contains-nil r there);
  whole = λ w there passes. absurd (Contains-nil w there);
})

reverse_itself : (c : Ordering) → c ≡ ordering_reverse c → is_eq c ≡ true
reverse_itself Less e = absurd (cc e)
reverse_itself Equal e = refl
reverse_itself Greater e = absurd (cc e)

-- the first row is one less, where it is taken out
pub first-taken : {K V : Type 0} (eq : K → K → Bool) (cmp : K → K → Ordering) (o : IsTotalOrder cmp) (ties : (a b : K) → eq a b ≡ is_eq (cmp a b)) (rows : List (K × V)) (r : K × V) → slice_get rows 0 ≡ Some r → length (removed key_of eq r.0 rows) < length rows
first-taken eq cmp o ties rows r first =
    filter-less (λ q. not (eq q.0 r.0)) rows r (first-there rows r first) (not_from_true _ (ties r.0 r.0 ∙ reverse_itself (cmp r.0 r.0) (o.antisymm r.0 r.0)))

pub none-left : {X : Type 0} (xs : List X) → slice_get xs 0 ≡ None → xs ≡ []
none-left [] none = refl
none-left (x ∷ xs) none = absurd (cc none)

module _ {X : Type 0} where
  -- the one at a place comes behind those before it
  pub one-more : (xs : List X) (k : ℕ) (x : X) → slice_get xs k ≡ Some x → insert (take k xs) k x ≡ take (suc k) xs
  one-more [] k x at = absurd (cc at)
  one-more (y ∷ ys) zero x at = let here : y ≡ x = cc at in ap (λ (z : X). z ∷ []) (sym here)
  one-more (y ∷ ys) (suc k) x at = ap (λ (zs : List X). y ∷ zs) (one-more ys k x at)

  pub in-first : (xs : List X) (k : ℕ) (x : X) → Contains (take k xs) x → Contains xs x
  in-first [] zero x there = absurd (Contains-nil x there)
  in-first [] (suc k) x there = absurd (Contains-nil x there)
  in-first (y ∷ ys) zero x there = absurd (Contains-nil x there)
  in-first (y ∷ ys) (suc k) x there =
      elim (Contains-cases y x (take k ys) there) [ inl same ↦ subst (λ z. Contains (y ∷ ys) z) same (Contains-head y ys) | inr later ↦ Contains-cons y x ys (in-first ys k x later) ]

-- the waiter of the row at a place
pub waiter-at : (rows : List (ℕ × Waiter)) (k s : ℕ) (w : Waiter) → slice_get rows k ≡ Some (s, w) → slice_get (waiters_of rows) k ≡ Some w
waiter-at [] k s w at = absurd (cc at)
waiter-at (r ∷ rows) zero s w at = let here : r ≡ (s, w) = cc at in ap (λ (q : ℕ × Waiter). Some q.1) here
waiter-at (r ∷ rows) (suc k) s w at = waiter-at rows k s w at

abbrev earlier : Waiter → Waiter → Type 0
earlier a b = nat_cmp a.serial b.serial ≡ Less

-- those before a place have lesser serials than the one there
lesser-before : (ws : List Waiter) (k : ℕ) (w v : Waiter) → IsSortedOnce serial_of nat_cmp ws → slice_get ws k ≡ Some w → Contains (take k ws) v → earlier v w
lesser-before [] k w v sorted at there = absurd (cc at)
lesser-before (u ∷ us) zero w v sorted at there = absurd (Contains-nil v there)
lesser-before (u ∷ us) (suc k) w v sorted at there =
    elim (Contains-cases u v (take k us) there) [
      | inl same ↦ subst (λ z. earlier z w) same (AllPairs-head earlier u w us sorted (at-there us k w at))
      | inr later ↦ lesser-before us k w v (AllPairs-tail earlier u us sorted) at later
    ]

less_differs : (m n : ℕ) → nat_cmp m n ≡ Less → nat_eq m n ≡ false
less_differs m n h = grind (arith, nat_tests)

module _ (ws : List Waiter) (k : ℕ) (w : Waiter) (sorted : IsSortedOnce serial_of nat_cmp ws) (at : slice_get ws k ≡ Some w) where
  -- so its serial and its place are new among them
  pub serial-new : has_key serial_of nat_eq w.serial (take k ws) ≡ false
  serial-new = list_any-none (λ v. nat_eq v.serial w.serial) (take k ws) (λ v there. less_differs v.serial w.serial (lesser-before ws k w v sorted at there))

  pub place-new : HavePlaces ws → has_place w.place (take k ws) ≡ false
  place-new places =
      list_any-none (λ v. v.place == w.place) (take k ws) (λ v there. elim (cases_Bool (v.place == w.place)) [
        | inl e ↦ (let same : v ≡ w = places v w (in-first ws k v there) (at-there ws k w at) (eqb-true v.place w.place e) in
            absurd (false≢true (sym (less_differs v.serial w.serial (lesser-before ws k w v sorted at there)) ∙ eq-eqb v.serial w.serial (ap (λ (u : Waiter). u.serial) same))))
        | inr e ↦ e
      ])

pub none-beyond : {X : Type 0} (xs : List X) (k : ℕ) → slice_get xs k ≡ None → length xs ≤ k
none-beyond [] k none = omega arith
none-beyond (x ∷ xs) zero none = absurd (cc none)
none-beyond (x ∷ xs) (suc k) none = let rest = none-beyond xs k none in omega arith
