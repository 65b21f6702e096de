-- A waiter that goes out while another of its serial comes in is replaced in its place.
use Rattle.std.proofs.Common.{◌≡◌, ◌⊎◌, ℕ, suc, ◌+◌, Bool, true, false, not, ◌==◌, cond, List, [], ◌∷◌, Option, Some, None, inl, inr, refl, ap, sym, ◌∙◌, subst, arith, Contains, nat_eq, eq-eqb}
use Rattle.std.specs.List.{insert, count_by, AllPairs}
use Rattle.std.specs.declared.cmp.Ordering.TheVariants.{Less}
use Rattle.std.specs.Ordering.{nat_cmp, is_lt}
use mathlib.Core.Bool.{false≢true}
use Rattle.std.proofs.lemmas.Bool.{cases_Bool, not-true, not_from_false, eqb-true}
use Rattle.std.proofs.lemmas.List.Sums.{sum_by-cons}
use Rattle.wm_desc.specs.Sorted.{IsSortedOnce, with_key, has_key, place_of, added, removed}
use Rattle.wm_ordered.proofs.Members.{Contains-head, Contains-cons, Contains-mapped, Contains-from_mapped, Contains-from_filter, find-Some, find-None, find-before, filter-whole, list_any-none, AllPairs-head, AllPairs-tail}
use Rattle.wm_ordered.specs.declared.waiter.Waiter.{Waiter}
use Rattle.wm_ordered.specs.Waiting.{serial_of, has_place, HasOwnPlace, replaced}

count_by-none : {X : Type 0} (p : X → Bool) (xs : List X) → ((y : X) → Contains xs y → p y ≡ false) → count_by p xs ≡ 0
count_by-none p [] none = refl
count_by-none p (x ∷ xs) none =
    let here = none x (Contains-head x xs) in
    let rest = count_by-none p xs (λ y h. none y (Contains-cons x y xs h)) in
    rw (sum_by-cons (λ y. cond (p y) 1 0) x xs, here, rest) refl

greater : (x y s : ℕ) → nat_eq x s ≡ true → nat_cmp x y ≡ Less → nat_eq y s ≡ false
greater x y s same lt = grind arith

not_before : (x y s : ℕ) → nat_eq x s ≡ true → nat_cmp x y ≡ Less → is_lt (nat_cmp y s) ≡ false
not_before x y s same lt = grind arith

lesser : (x y s : ℕ) → nat_eq y s ≡ true → nat_cmp x y ≡ Less → is_lt (nat_cmp x s) ≡ true
lesser x y s same lt = grind arith

not_less : (m n : ℕ) → m ≡ n → nat_cmp m n ≡ Less → ⊥
not_less m n same lt = grind arith

abbrev before : Waiter → Waiter → Type 0
before a b = nat_cmp a.serial b.serial ≡ Less

insert_behind : {X : Type 0} (x y : X) (xs : List X) (i n : ℕ) → i ≡ 1 + n → insert (x ∷ xs) i y ≡ x ∷ insert xs n y
insert_behind x y xs i n e = let next : i ≡ suc n = omega arith in ap (λ j. insert (x ∷ xs) j y) next

-- no other has the serial of one that is found by it
module _ (serial : ℕ) (w : Waiter) (items : List Waiter) (sorted : IsSortedOnce serial_of nat_cmp items) (found : with_key serial_of nat_eq serial items ≡ Some w) where
  pub named : nat_eq w.serial serial ≡ true
  named = (find-Some (λ (v : Waiter). nat_eq v.serial serial) items w found).1

  pub alone : (v : Waiter) → Contains items v → nat_eq v.serial serial ≡ true → v ≡ w
  alone v there e =
      elim (find-before before (λ (u : Waiter). nat_eq u.serial serial) items w v sorted found there e) [
        | inl same ↦ same
        | inr lt ↦ absurd (not_less w.serial v.serial (eqb-true w.serial serial named ∙ sym (eqb-true v.serial serial e)) lt)
      ]

-- one that is there is found by its serial
pub found-there : (items : List Waiter) → IsSortedOnce serial_of nat_cmp items → (w : Waiter) → Contains items w → with_key serial_of nat_eq w.serial items ≡ Some w
found-there items sorted w there = as_found (with_key serial_of nat_eq w.serial items) refl
  where
    as_found : (o : Option Waiter) → with_key serial_of nat_eq w.serial items ≡ o → with_key serial_of nat_eq w.serial items ≡ Some w
    as_found None e = absurd (false≢true (sym (find-None (λ (v : Waiter). nat_eq v.serial w.serial) items w e there) ∙ eq-eqb w.serial w.serial refl))
    as_found (Some v) e = e ∙ ap Some (sym (alone w.serial v items sorted e w there (eq-eqb w.serial w.serial refl)))

-- no two have one serial
pub one_serial : (items : List Waiter) → IsSortedOnce serial_of nat_cmp items → (v w : Waiter) → Contains items v → Contains items w → v.serial ≡ w.serial → v ≡ w
one_serial items sorted v w v_there w_there same = alone w.serial w items sorted (found-there items sorted w w_there) v v_there (eq-eqb v.serial w.serial same)

module _ (new : Waiter) where
  -- none has the serial
  replaced-none : (items : List Waiter) → ((v : Waiter) → Contains items v → nat_eq v.serial new.serial ≡ false) → replaced new items ≡ items
  replaced-none [] none = refl
  replaced-none (x ∷ xs) none = rw (none x (Contains-head x xs)) (ap (λ l. x ∷ l) (replaced-none xs (λ v h. none v (Contains-cons x v xs h))))

  -- what stands among the items afterwards
  pub Contains-replaced_new : (items : List Waiter) (old : Waiter) → Contains items old → nat_eq old.serial new.serial ≡ true → Contains (replaced new items) new
  Contains-replaced_new items old there named =
      subst (λ (v : Waiter). Contains (replaced new items) v) (ap (λ b. cond b new old) named) (Contains-mapped (λ (v : Waiter). cond (nat_eq v.serial new.serial) new v) items old there)

  pub Contains-replaced_old : (items : List Waiter) (v : Waiter) → Contains items v → nat_eq v.serial new.serial ≡ false → Contains (replaced new items) v
  Contains-replaced_old items v there apart =
      subst (λ (u : Waiter). Contains (replaced new items) u) (ap (λ b. cond b new v) apart) (Contains-mapped (λ (u : Waiter). cond (nat_eq u.serial new.serial) new u) items v there)

  pub Contains-replaced_cases : (items : List Waiter) (v : Waiter) → Contains (replaced new items) v → (new ≡ v) ⊎ (Contains items v × (nat_eq v.serial new.serial ≡ false))
  Contains-replaced_cases items v there =
      let was = Contains-from_mapped (λ (u : Waiter). cond (nat_eq u.serial new.serial) new u) items v there in
      elim (cases_Bool (nat_eq was.0.serial new.serial)) [
        | inl e ↦ inl (sym (ap (λ b. cond b new was.0) e) ∙ was.2)
        | inr e ↦ (let same : was.0 ≡ v = sym (ap (λ b. cond b new was.0) e) ∙ was.2 in inr (subst (λ (u : Waiter). Contains items u) same was.1, subst (λ (u : Waiter). nat_eq u.serial new.serial ≡ false) same e))
      ]

  put_back : (b : Bool) (w x : Waiter) (xs : List Waiter) → nat_eq x.serial new.serial ≡ b → AllPairs before (x ∷ xs) → cond b (Some x) (with_key serial_of nat_eq new.serial xs) ≡ Some w
      → (with_key serial_of nat_eq new.serial xs ≡ Some w → added serial_of nat_cmp new (removed serial_of nat_eq new.serial xs) ≡ replaced new xs)
      → added serial_of nat_cmp new (removed serial_of nat_eq new.serial (x ∷ xs)) ≡ replaced new (x ∷ xs)
  put_back true w x xs e sorted found rest =
      let others : (v : Waiter) → Contains xs v → nat_eq v.serial new.serial ≡ false = λ v h. greater x.serial v.serial new.serial e (AllPairs-head before x v xs sorted h) in
      let whole : removed serial_of nat_eq new.serial xs ≡ xs = filter-whole (λ v. not (nat_eq v.serial new.serial)) xs (λ v h. not_from_false _ (others v h)) in
      let first : place_of serial_of nat_cmp new.serial xs ≡ 0 = count_by-none (λ (v : Waiter). is_lt (nat_cmp v.serial new.serial)) xs (λ v h. not_before x.serial v.serial new.serial e (AllPairs-head before x v xs sorted h)) in
      let same : replaced new xs ≡ xs = replaced-none xs others in
      rw (e, whole, first, same) refl
  put_back false w x xs e sorted found rest =
      let there = find-Some (λ (v : Waiter). nat_eq v.serial new.serial) xs w found in
      let less : is_lt (nat_cmp x.serial new.serial) ≡ true = lesser x.serial w.serial new.serial there.1 (AllPairs-head before x w xs sorted there.0) in
      let left : List Waiter = removed serial_of nat_eq new.serial xs in
      let at : place_of serial_of nat_cmp new.serial (x ∷ left) ≡ 1 + place_of serial_of nat_cmp new.serial left = sum_by-cons (λ (v : Waiter). cond (is_lt (nat_cmp v.serial new.serial)) 1 0) x left ∙ ap (λ b. cond b 1 0 + place_of serial_of nat_cmp new.serial left) less in
      rw e (insert_behind x new left (place_of serial_of nat_cmp new.serial (x ∷ left)) (place_of serial_of nat_cmp new.serial left) at ∙ ap (λ l. x ∷ l) (rest found))

  pub replaced-Some : (w : Waiter) (items : List Waiter) → IsSortedOnce serial_of nat_cmp items → with_key serial_of nat_eq new.serial items ≡ Some w → added serial_of nat_cmp new (removed serial_of nat_eq new.serial items) ≡ replaced new items
  replaced-Some w [] sorted found = absurd (cc found)
  replaced-Some w (x ∷ xs) sorted found = put_back (nat_eq x.serial new.serial) w x xs refl sorted found (λ later. replaced-Some w xs (AllPairs-tail before x xs sorted) later)

  -- what was taken out isn't there
  pub lacks-serial : (items : List Waiter) → has_key serial_of nat_eq new.serial (removed serial_of nat_eq new.serial items) ≡ false
  lacks-serial items =
      list_any-none (λ (v : Waiter). nat_eq v.serial new.serial) (removed serial_of nat_eq new.serial items) (λ v h.
      not-true _ (Contains-from_filter (λ (u : Waiter). not (nat_eq u.serial new.serial)) items v h).1)

  pub lacks-place : (items : List Waiter) → HasOwnPlace new items → has_place new.place (removed serial_of nat_eq new.serial items) ≡ false
  lacks-place items own =
      list_any-none (λ (v : Waiter). v.place == new.place) (removed serial_of nat_eq new.serial items) (λ v h.
      let kept = Contains-from_filter (λ (u : Waiter). not (nat_eq u.serial new.serial)) items v h in
      elim (cases_Bool (v.place == new.place)) [
        | inl e ↦ absurd (false≢true (sym (not-true _ kept.1) ∙ eq-eqb v.serial new.serial (own v kept.0 (eqb-true v.place new.place e))))
        | inr e ↦ e
      ])
