-- The job of least number, and among those of one number of least serial.
use Rattle.std.proofs.Common.{◌≡◌, ℕ, ◌<◌, ◌≤◌, nat_lt, Bool, true, false, cond, List, [], ◌∷◌, fold, Option, Some, None, inl, inr, refl, ap, subst, arith, Contains}
use Rattle.std.specs.Ordering.{nat_cmp}
use Rattle.std.proofs.lemmas.Bool.Decides.{nat_tests}
use Rattle.std.specs.declared.cmp.Ordering.TheVariants.{Less}
use Rattle.wm_base.proofs.Orderings.{lt-Less}
use Rattle.wm_desc.specs.Sorted.{IsSortedOnce}
use Rattle.wm_ordered.specs.Ordered.{key_of}
use Rattle.wm_ordered.proofs.Members.{AllPairs-head, AllPairs-tail, Contains-cases, Contains-cons, Contains-head, Contains-nil}
use Rattle.wm_indexes.specs.declared.prestart_job.PrestartJob.{PrestartJob}
use Rattle.wm_indexes.specs.Ready.{of_lesser_number}

abbrev Row : Type 0
Row = ℕ × PrestartJob

-- it is one of the jobs, and none is before it
pub record IsLeast (xs : List Row) (y : Row) : Type 0 where
  pub there : Contains xs y
  pub number : (z : Row) → Contains xs z → y.1.number ≤ z.1.number
  pub serial : (z : Row) → Contains xs z → y.1.number ≡ z.1.number → y.0 ≤ z.0

-- the least of a job and of those behind it is found
abbrev IsFound : Row → Option Row → List Row → Type 0
IsFound a so_far xs = (y : Row) × (fold of_lesser_number so_far xs ≡ Some y) × IsLeast (a ∷ xs) y

-- all of them have a greater serial
abbrev AreBehind : Row → List Row → Type 0
AreBehind a xs = (z : Row) → Contains xs z → a.0 < z.0

module _ (a x : Row) (xs : List Row) where
  least-by : (b : Bool) → nat_lt x.1.number a.1.number ≡ b → AreBehind a (x ∷ xs) → IsFound x (Some x) xs → IsFound a (Some a) xs → (y : Row) × (fold of_lesser_number (cond b (Some x) (Some a)) xs ≡ Some y) × IsLeast (a ∷ x ∷ xs) y
  least-by true e behind lesser kept =
      let y = lesser.0 in
      let least = lesser.2 in
      let first = least.number x (Contains-head x xs) in
      let less : x.1.number < a.1.number = grind (arith, nat_tests, e) in (
        y,
        lesser.1,
        record {
          there = Contains-cons a y (x ∷ xs) least.there;
          number = λ z h. elim (Contains-cases a z (x ∷ xs) h) [
            | inl same ↦ (let one = ap (λ (r : Row). r.1.number) same in omega (arith, first, less, one))
            | inr later ↦ least.number z later
          ];
          serial = λ z h tie. elim (Contains-cases a z (x ∷ xs) h) [
            | inl same ↦ (let one = ap (λ (r : Row). r.1.number) same in absurd (omega (arith, first, less, one, tie)))
            | inr later ↦ least.serial z later tie
          ];
        },
      )
  least-by false e behind lesser kept =
      let y = kept.0 in
      let least = kept.2 in
      let first = least.number a (Contains-head a xs) in
      let no_less : a.1.number ≤ x.1.number = grind (arith, nat_tests, e) in (
        y,
        kept.1,
        record {
          there = elim (Contains-cases a y xs least.there) [
            | inl same ↦ subst (λ (r : Row). Contains (a ∷ x ∷ xs) r) same (Contains-head a (x ∷ xs))
            | inr later ↦ Contains-cons a y (x ∷ xs) (Contains-cons x y xs later)
          ];
          number = λ z h. elim (Contains-cases a z (x ∷ xs) h) [
            | inl same ↦ (let one = ap (λ (r : Row). r.1.number) same in omega (arith, first, one))
            | inr other ↦ elim (Contains-cases x z xs other) [
              | inl same ↦ (let one = ap (λ (r : Row). r.1.number) same in omega (arith, first, no_less, one))
              | inr later ↦ least.number z (Contains-cons a z xs later)
            ]
          ];
          serial = λ z h tie. elim (Contains-cases a z (x ∷ xs) h) [
            | inl same ↦ subst (λ (r : Row). y.1.number ≡ r.1.number → y.0 ≤ r.0) same (least.serial a (Contains-head a xs)) tie
            | inr other ↦ elim (Contains-cases x z xs other) [
              | inl same ↦ (
                  let one = ap (λ (r : Row). r.1.number) same in
                  let its = ap (λ (r : Row). r.0) same in
                  let equal : y.1.number ≡ a.1.number = omega (arith, first, no_less, one, tie) in
                  let low = least.serial a (Contains-head a xs) equal in
                  let after = behind x (Contains-head x xs) in
                  omega (arith, low, after, its))
              | inr later ↦ least.serial z (Contains-cons a z xs later) tie
            ]
          ];
        },
      )

least-of : (a : Row) (xs : List Row) → AreBehind a xs → IsSortedOnce key_of nat_cmp xs → IsFound a (Some a) xs
least-of a [] behind sorted = (
  a,
  refl,
  record {
    there = Contains-head a [];
    number = λ z h. elim (Contains-cases a z [] h) [ inl same ↦ (let one = ap (λ (r : Row). r.1.number) same in omega (arith, one)) | inr later ↦ absurd (Contains-nil z later) ];
    serial = λ z h tie. elim (Contains-cases a z [] h) [ inl same ↦ (let one = ap (λ (r : Row). r.0) same in omega (arith, one)) | inr later ↦ absurd (Contains-nil z later) ];
  },
)
least-of a (x ∷ xs) behind sorted =
    let rest = AllPairs-tail (λ (p q : Row). nat_cmp p.0 q.0 ≡ Less) x xs sorted in
    least-by a x xs (nat_lt x.1.number a.1.number) refl behind
    (least-of x xs (λ z h. lt-Less x.0 z.0 (AllPairs-head (λ (p q : Row). nat_cmp p.0 q.0 ≡ Less) x z xs sorted h)) rest)
    (least-of a xs (λ z h. behind z (Contains-cons x z xs h)) rest)

-- where there are some, the least one is found
pub least : (xs : List Row) (x : Row) → IsSortedOnce key_of nat_cmp xs → Contains xs x → (y : Row) × (fold of_lesser_number None xs ≡ Some y) × IsLeast xs y
least [] x sorted there = absurd (Contains-nil x there)
least (a ∷ xs) x sorted there =
    least-of a xs (λ z h. lt-Less a.0 z.0 (AllPairs-head (λ (p q : Row). nat_cmp p.0 q.0 ≡ Less) a z xs sorted h)) (AllPairs-tail (λ (p q : Row). nat_cmp p.0 q.0 ≡ Less) a xs sorted)

-- where there are none, none is found
pub none-least : (xs : List Row) → ((x : Row) → Contains xs x → ⊥) → fold of_lesser_number None xs ≡ None
none-least [] lacks = refl
none-least (a ∷ xs) lacks = absurd (lacks a (Contains-head a xs))
