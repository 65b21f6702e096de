-- Why a child in memory that has a report is out.
use Rattle.std.proofs.Common.{ℕ, zero, suc, Bool, true, false, cond, List, [], ◌∷◌, ◌++◌, inl, inr, filter, Contains, arith}
use Rattle.std.proofs.lemmas.List.Elements.{Contains-append_cases}
use Rattle.wm_outside.specs.declared.memory.children.Child.{Child}
use Rattle.wm_outside.specs.Children.{serials, killed_ones, due_ones}
use Rattle.wm_traits.specs.Told.{AreAmong, told_if}

later_in : (y : ℕ) (ys : List ℕ) (x : ℕ) → Contains ys x → Contains (y ∷ ys) x
later_in y ys x h = (suc h.0, omega (arith, h.1), h.2)

-- what stands in a part with one more, stands in the whole with one more
more_among : (y : ℕ) (part whole : List ℕ) (x : ℕ) → (Contains part x → Contains whole x) → Contains (y ∷ part) x → Contains (y ∷ whole) x
more_among y part whole x f (zero, below, is) = (0, omega arith, is)
more_among y part whole x f (suc k, below, is) = later_in y whole x (f (k, omega (arith, below), is))

-- some of the children are among them
filtered_among : (test : Child → Bool) (children : List Child) (x : ℕ) → Contains (serials (filter test children)) x → Contains (serials children) x
filtered_among test [] x = λ h. h
filtered_among test (c ∷ children) x =
    elim (test c) as (λ b. Contains (serials (cond b (c ∷ filter test children) (filter test children))) x → Contains (serials (c ∷ children)) x) [
      | true ↦ more_among c.serial (serials (filter test children)) (serials children) x (filtered_among test children x)
      | false ↦ λ h. later_in c.serial (serials children) x (filtered_among test children x h)
    ]

-- those that have a report are among those that are out
pub reporting_among : (tells : Bool) (look : ℕ) (children : List Child) → AreAmong (told_if tells (killed_ones children ++ due_ones look children)) (told_if tells (serials children))
reporting_among false look children = tt
reporting_among true look children = λ x h. elim (Contains-append_cases (killed_ones children) (due_ones look children) x h) [
  | inl killed ↦ filtered_among _ children x killed
  | inr due ↦ filtered_among _ children x due
]
