-- Rows by key: those of waiters by their serials, and how many rows there may be.
use Rattle.std.proofs.Common.{◌≡◌, ℕ, ◌+◌, ◌≤◌, Bool, true, false, not, ◌||◌, cond, List, [], ◌∷◌, ◌++◌, length, get_or, map, take, drop, Option, Some, None, option_map, inl, inr, refl, ap, sym, ◌∙◌, subst, arith, Contains, nat_eq}
use Rattle.std.specs.List.{filter, find, insert, list_any, AllPairs, count_by}
use Rattle.std.specs.declared.cmp.Ordering.{Ordering}
use Rattle.std.specs.Ordering.{is_lt}
use Rattle.std.proofs.lemmas.Bool.{eqb-true}
use Rattle.std.proofs.lemmas.List.{take-map, drop-map, map-append, length-map, get_or-map}
use Rattle.std.proofs.lemmas.List.Sums.{sum_by-cons}
use Rattle.wm_desc.specs.Sorted.{IsSortedOnce, with_key, has_key, place_of, added, removed}
use Rattle.wm_ordered.specs.Ordered.{key_of, value_at, with_value}
use Rattle.wm_ordered.proofs.Members.{Contains-head, Contains-cons, Contains-nil, Contains-cases, AllPairs-head, AllPairs-tail}
use Rattle.wm_ordered.specs.declared.waiter.Waiter.{Waiter}
use Rattle.wm_ordered.specs.Waiting.{serial_of, replaced}
use Rattle.wm_ordered.specs.Keys.{waiters_of, row_of}

module _ {X Y : Type 0} (f : X → Y) where
  count_by-map : (p : Y → Bool) (xs : List X) → count_by p (map f xs) ≡ count_by (λ x. p (f x)) xs
  count_by-map p [] = refl
  count_by-map p (x ∷ xs) =
      sum_by-cons (λ y. cond (p y) 1 0) (f x) (map f xs) ∙ (ap (λ n. cond (p (f x)) 1 0 + n) (count_by-map p xs) ∙ sym (sum_by-cons (λ z. cond (p (f z)) 1 0) x xs))

  insert-map : (xs : List X) (i : ℕ) (x : X) → insert (map f xs) i (f x) ≡ map f (insert xs i x)
  insert-map xs i x = ap (λ l. l ++ f x ∷ drop i (map f xs)) (take-map f i xs) ∙ (ap (λ l. map f (take i xs) ++ f x ∷ l) (drop-map f i xs) ∙ sym (map-append f (take i xs) (x ∷ drop i xs)))

  mapped : (b : Bool) (x : X) (l : List X) → cond b (f x ∷ map f l) (map f l) ≡ map f (cond b (x ∷ l) l)
  mapped true x l = refl
  mapped false x l = refl

  filter-map : (p : Y → Bool) (xs : List X) → filter p (map f xs) ≡ map f (filter (λ x. p (f x)) xs)
  filter-map p [] = refl
  filter-map p (x ∷ xs) = ap (λ l. cond (p (f x)) (f x ∷ l) l) (filter-map p xs) ∙ mapped (p (f x)) x (filter (λ x. p (f x)) xs)

  found : (b : Bool) (x : X) (o : Option X) → cond b (Some (f x)) (option_map f o) ≡ option_map f (cond b (Some x) o)
  found true x o = refl
  found false x o = refl

  find-map : (p : Y → Bool) (xs : List X) → find p (map f xs) ≡ option_map f (find (λ x. p (f x)) xs)
  find-map p [] = refl
  find-map p (x ∷ xs) = ap (λ o. cond (p (f x)) (Some (f x)) o) (find-map p xs) ∙ found (p (f x)) x (find (λ x. p (f x)) xs)

  list_any-map : (p : Y → Bool) (xs : List X) → list_any p (map f xs) ≡ list_any (λ x. p (f x)) xs
  list_any-map p [] = refl
  list_any-map p (x ∷ xs) = ap (λ b. p (f x) || b) (list_any-map p xs)

waiters-rows : (ws : List Waiter) → waiters_of (map row_of ws) ≡ ws
waiters-rows [] = refl
waiters-rows (w ∷ ws) = ap (λ l. w ∷ l) (waiters-rows ws)

same_again : (o : Option Waiter) → option_map (λ (r : ℕ × Waiter). r.1) (option_map row_of o) ≡ o
same_again None = refl
same_again (Some w) = refl

row-replaced : (b : Bool) (w v : Waiter) → nat_eq v.serial w.serial ≡ b → cond b (v.serial, w) (row_of v) ≡ row_of (cond b w v)
row-replaced true w v e = ap (λ n. (n, w)) (eqb-true v.serial w.serial e)
row-replaced false w v e = refl

replaced-rows : (w : Waiter) (ws : List Waiter) → with_value nat_eq w.serial w (map row_of ws) ≡ map row_of (replaced w ws)
replaced-rows w [] = refl
replaced-rows w (v ∷ ws) =
    ap (λ (r : ℕ × Waiter). r ∷ with_value nat_eq w.serial w (map row_of ws)) (row-replaced (nat_eq v.serial w.serial) w v refl)
    ∙ ap (λ l. row_of (cond (nat_eq v.serial w.serial) w v) ∷ l) (replaced-rows w ws)

-- the rows of waiters by their serials
module _ (rows : List (ℕ × Waiter)) (keyed : rows ≡ map row_of (waiters_of rows)) where
  rows-added : (cmp : ℕ → ℕ → Ordering) (w : Waiter) → added key_of cmp (row_of w) rows ≡ map row_of (added serial_of cmp w (waiters_of rows))
  rows-added cmp w =
      ap (λ l. added key_of cmp (row_of w) l) keyed
      ∙ (ap (λ n. insert (map row_of (waiters_of rows)) n (row_of w)) (count_by-map row_of (λ r. is_lt (cmp r.0 w.serial)) (waiters_of rows))
      ∙ insert-map row_of (waiters_of rows) (place_of serial_of cmp w.serial (waiters_of rows)) w)

  pub waiters-added : (cmp : ℕ → ℕ → Ordering) (w : Waiter) → waiters_of (added key_of cmp (row_of w) rows) ≡ added serial_of cmp w (waiters_of rows)
  waiters-added cmp w = ap (λ (l : List (ℕ × Waiter)). waiters_of l) (rows-added cmp w) ∙ waiters-rows (added serial_of cmp w (waiters_of rows))

  pub keyed-added : (cmp : ℕ → ℕ → Ordering) (w : Waiter) → added key_of cmp (row_of w) rows ≡ map row_of (waiters_of (added key_of cmp (row_of w) rows))
  keyed-added cmp w = rows-added cmp w ∙ ap (λ l. map row_of l) (sym (waiters-added cmp w))

  rows-removed : (eq : ℕ → ℕ → Bool) (s : ℕ) → removed key_of eq s rows ≡ map row_of (removed serial_of eq s (waiters_of rows))
  rows-removed eq s = ap (λ l. removed key_of eq s l) keyed ∙ filter-map row_of (λ r. not (eq r.0 s)) (waiters_of rows)

  pub waiters-removed : (eq : ℕ → ℕ → Bool) (s : ℕ) → waiters_of (removed key_of eq s rows) ≡ removed serial_of eq s (waiters_of rows)
  waiters-removed eq s = ap (λ (l : List (ℕ × Waiter)). waiters_of l) (rows-removed eq s) ∙ waiters-rows (removed serial_of eq s (waiters_of rows))

  pub keyed-removed : (eq : ℕ → ℕ → Bool) (s : ℕ) → removed key_of eq s rows ≡ map row_of (waiters_of (removed key_of eq s rows))
  keyed-removed eq s = rows-removed eq s ∙ ap (λ l. map row_of l) (sym (waiters-removed eq s))

  rows-replaced : (w : Waiter) → with_value nat_eq w.serial w rows ≡ map row_of (replaced w (waiters_of rows))
  rows-replaced w = ap (λ l. with_value nat_eq w.serial w l) keyed ∙ replaced-rows w (waiters_of rows)

  pub waiters-replaced : (w : Waiter) → waiters_of (with_value nat_eq w.serial w rows) ≡ replaced w (waiters_of rows)
  waiters-replaced w = ap (λ (l : List (ℕ × Waiter)). waiters_of l) (rows-replaced w) ∙ waiters-rows (replaced w (waiters_of rows))

  pub keyed-replaced : (w : Waiter) → with_value nat_eq w.serial w rows ≡ map row_of (waiters_of (with_value nat_eq w.serial w rows))
  keyed-replaced w = rows-replaced w ∙ ap (λ l. map row_of l) (sym (waiters-replaced w))

  pub value-waiter : (eq : ℕ → ℕ → Bool) (s : ℕ) → value_at eq s rows ≡ with_key serial_of eq s (waiters_of rows)
  value-waiter eq s = ap (λ l. value_at eq s l) keyed ∙ (ap (λ o. option_map (λ (r : ℕ × Waiter). r.1) o) (find-map row_of (λ r. eq r.0 s) (waiters_of rows)) ∙ same_again (with_key serial_of eq s (waiters_of rows)))

  pub has-waiter : (eq : ℕ → ℕ → Bool) (s : ℕ) → has_key key_of eq s rows ≡ has_key serial_of eq s (waiters_of rows)
  has-waiter eq s = ap (λ l. has_key key_of eq s l) keyed ∙ list_any-map row_of (λ r. eq r.0 s) (waiters_of rows)

  pub sorted-waiters : (cmp : ℕ → ℕ → Ordering) → IsSortedOnce key_of cmp rows → IsSortedOnce serial_of cmp (waiters_of rows)
  sorted-waiters cmp sorted i j d lt in_range =
      let n : length (waiters_of rows) ≡ length rows = length-map rows (λ r. r.1) in
      let mapped : IsSortedOnce key_of cmp (map row_of (waiters_of rows)) = subst (λ l. IsSortedOnce key_of cmp l) keyed sorted in
      let m : length (map row_of (waiters_of rows)) ≡ length (waiters_of rows) = length-map (waiters_of rows) row_of in
      let here : get_or (map row_of (waiters_of rows)) i (row_of d) ≡ row_of (get_or (waiters_of rows) i d) = get_or-map row_of (waiters_of rows) i d (row_of d) (omega arith) in
      let there : get_or (map row_of (waiters_of rows)) j (row_of d) ≡ row_of (get_or (waiters_of rows) j d) = get_or-map row_of (waiters_of rows) j d (row_of d) (omega arith) in
      ap (λ (r : ℕ × Waiter). cmp r.0 (get_or (waiters_of rows) j d).serial) (sym here)
      ∙ (ap (λ (r : ℕ × Waiter). cmp (get_or (map row_of (waiters_of rows)) i (row_of d)).0 r.0) (sym there) ∙ mapped i j (row_of d) lt (omega arith))

pub length-waiters : {K : Type 0} (rows : List (K × Waiter)) → length (waiters_of rows) ≡ length rows
length-waiters rows = length-map rows (λ r. r.1)

module _ {Y : Type 0} where
  -- a list without one of its elements
  without : (ys : List Y) (y : Y) → Contains ys y → (zs : List Y) × (length zs + 1 ≡ length ys) × ((z : Y) → Contains ys z → (z ≡ y → ⊥) → Contains zs z)
  without [] y there = absurd (Contains-nil y there)
  without (v ∷ vs) y there =
      elim (Contains-cases v y vs there) [
        | inl same ↦ (vs, omega arith, λ z h differs. elim (Contains-cases v z vs h) [ inl e ↦ absurd (differs (sym e ∙ same)) | inr later ↦ later ])
        | inr later ↦ (let rest = without vs y later in (v ∷ rest.0, omega (arith, rest.1), λ z h differs. elim (Contains-cases v z vs h) [ inl e ↦ subst (λ u. Contains (v ∷ rest.0) u) e (Contains-head v rest.0) | inr after ↦ Contains-cons v z rest.0 (rest.2 z after differs) ]))
      ]

  -- distinct elements of a list are no more than it has
  pub no_more : {X : Type 0} (f : X → Y) (xs : List X) (ys : List Y) → AllPairs (λ a b. f a ≡ f b → ⊥) xs → ((x : X) → Contains xs x → Contains ys (f x)) → length xs ≤ length ys
  no_more f [] ys distinct are = omega arith
  no_more f (x ∷ xs) ys distinct are =
      let less = without ys (f x) (are x (Contains-head x xs)) in
      let rest = no_more f xs less.0 (AllPairs-tail (λ a b. f a ≡ f b → ⊥) x xs distinct) (λ z h. less.2 (f z) (are z (Contains-cons x z xs h)) (λ e. AllPairs-head (λ a b. f a ≡ f b → ⊥) x z xs distinct h (sym e))) in
      omega (arith, rest, less.1)
