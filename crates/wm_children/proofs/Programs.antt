-- The children that are out.
use Rattle.std.proofs.Common.{◌≡◌, ◌↔◌, ◌==◌, inl, inr, ℕ, ◌<◌, ◌≤◌, zero, suc, Bool, true, false, IsTrue, List, [], ◌∷◌, length, get_or, map, slice_get, Contains, Some, None, option_map, refl, sym, ◌∙◌, ap, arith}
use Rattle.std.proofs.lemmas.Grind.{common_steps}
use Rattle.std.proofs.lemmas.List.Quantifiers.{position-Some}
use Rattle.std.proofs.lemmas.List.Sums.{fails_before_first}
use Rattle.std.proofs.lemmas.Option.{slice_get-get_or, slice_get-map}
use Rattle.std.proofs.lemmas.Bool.{false≢true, or_cases, eqb-true, eq-eqb}
use Rattle.std.specs.List.{remove, list_any, position, position_or_len}
use Rattle.std.proofs.Math.Bool.{or-true}
use Rattle.wm_children.specs.declared.started.Started.{Started}
use Rattle.wm_children.specs.Programs.{serials_of}

-- what is taken out of a list is taken out of what is made of it
pub map_remove : {A : Type 0} (f : A → ℕ) (xs : List A) (at : ℕ) → at < length xs → map f (remove xs at) ≡ remove (map f xs) at
map_remove f [] at below = absurd (omega (arith, below))
map_remove f (x ∷ xs) zero below = refl
map_remove f (x ∷ xs) (suc at) below = ap (λ (l : List ℕ). f x ∷ l) (map_remove f xs at (omega (arith, below)))

any_among : (xs : List ℕ) (job : ℕ) → list_any (λ x. x == job) xs ≡ true → Contains xs job
any_among [] job is = absurd (false≢true is)
any_among (x ∷ xs) job is = elim (or_cases (x == job) (list_any (λ y. y == job) xs) is) [
  | inl here ↦ (0, omega arith, eqb-true x job here)
  | inr later ↦ let there = any_among xs job later in (suc there.0, omega (arith, there.1), there.2)
]

among_any : (xs : List ℕ) (job k : ℕ) → k < length xs → get_or xs k job ≡ job → list_any (λ x. x == job) xs ≡ true
among_any [] job k below is = absurd (omega arith)
among_any (x ∷ xs) job zero below is = rw (eq-eqb x job is) refl
among_any (x ∷ xs) job (suc k) below is = rw (among_any xs job k (omega arith) is) (or-true (x == job))

-- a search for a serial finds it where it is there
pub contained : (xs : List ℕ) (job : ℕ) (found : Bool) → found ≡ list_any (λ x. x == job) xs → IsTrue found ↔ Contains xs job
contained xs job found is = (λ yes. any_among xs job (sym is ∙ yes), λ among. is ∙ among_any xs job among.0 among.1 among.2)

-- where a child was found, its serial stands
pub place_there : (children : List Started) (job at : ℕ) → position (λ child. child.serial == job) children ≡ Some at → (at < length children) × (slice_get (serials_of children) at ≡ Some job)
place_there children job at found =
    let d : Started = record { serial = job; number = 0 } in
    let here = position-Some (λ child. child.serial == job) children at d found in
    let is : (get_or children at d).serial ≡ job = eqb-true _ job here.1 in
    (here.0, slice_get-map (λ child. child.serial) children at ∙ ap (option_map (λ child. child.serial)) (slice_get-get_or children at d here.0) ∙ ap Some is)

-- where none was found, the serial isn't there
pub place_none : (children : List Started) (job : ℕ) → position (λ child. child.serial == job) children ≡ None → Contains (serials_of children) job → ⊥
place_none children job none there =
    let d : Started = record { serial = job; number = 0 } in
    let long : length children ≤ position_or_len (λ child. child.serial == job) children = grind (arith, common_steps) in
    let below : there.0 < length children = grind (arith, common_steps) in
    let other : ((get_or children there.0 d).serial == job) ≡ false = fails_before_first (λ child. child.serial == job) children there.0 d (omega arith) in
    let same : (get_or children there.0 d).serial ≡ job = grind (arith, common_steps) in
    false≢true (sym other ∙ eq-eqb _ job same)
