-- What holds of the numbers and places of jobs, where one job more stands behind them.
use Rattle.std.proofs.Common.{◌≡◌, ℕ, ◌≤◌, ◌<◌, ◌+◌, ◌++◌, ◌==◌, ◌&&◌, true, false, List, [], ◌∷◌, map, filter, max, refl, sym, subst, inl, inr, arith}
use Rattle.std.proofs.lemmas.Bool.{eq-eqb, and_from}
use Rattle.wm_law.specs.Counts.{is_waiting}
use Rattle.wm_law.specs.Kept.{IsBelow, IsDistinct, IsGiven, waiting_places}
use Rattle.wm_law.specs.Laws.{IsIn}
use Rattle.wm_law.specs.Sound.{IsIncreasing}
use Rattle.wm_law.specs.declared.job.Job.{Job}
use Rattle.wm_law.proofs.Members.{left_in, of_last, of_mapped}
use Rattle.wm_tables.specs.Restart.{is_taken, is_used}
use Rattle.wm_tables.proofs.Passing.{left_passes, one_passes}
use Rattle.wm_law.proofs.Numbers.{map_more}

-- a number that isn't among others comes last
not_last : (n m : ℕ) (ns : List ℕ) → (m ≡ n → ⊥) → (IsIn m ns → ⊥) → IsIn m (ns ++ n ∷ []) → ⊥
not_last n m ns other none i = elim (of_last ns n m i) as (λ _. ⊥) [ inl was ↦ none was | inr same ↦ other same ]

pub distinct_end : (n : ℕ) (ns : List ℕ) → (IsIn n ns → ⊥) → IsDistinct ns → IsDistinct (ns ++ n ∷ [])
distinct_end n [] none d = ((λ i. i), tt)
distinct_end n (m ∷ ns) none d = (not_last n m ns (λ e. none (inl (sym e))) d.0, distinct_end n ns (λ i. none (inr i)) d.1)

pub increasing_end : (n : ℕ) (ns : List ℕ) → ((m : ℕ) → IsIn m ns → m < n) → IsIncreasing ns → IsIncreasing (ns ++ n ∷ [])
increasing_end n [] less h = ((λ m i. absurd i), tt)
increasing_end n (m ∷ ns) less h = (
  λ k i. (elim (of_last ns n k i) as (λ _. m < k) [ inl was ↦ h.0 k was | inr same ↦ subst (λ (x : ℕ). m < x) (sym same) (less m (inl refl)) ]),
  increasing_end n ns (λ k i. less k (inr i)) h.1,
)

-- all numbers stay below a bound that rises, and so does the last
pub below_end : (n top more : ℕ) (ns : List ℕ) → n < more → top ≤ more → IsBelow top ns → IsBelow more (ns ++ n ∷ [])
below_end n top more [] less rise b = (less, tt)
below_end n top more (m ∷ ns) less rise b = let first : m < top = b.0 in (omega arith, below_end n top more ns less rise b.1)

pub below_rise : (top more : ℕ) (ns : List ℕ) → top ≤ more → IsBelow top ns → IsBelow more ns
below_rise top more [] rise b = tt
below_rise top more (m ∷ ns) rise b = let first : m < top = b.0 in (omega arith, below_rise top more ns rise b.1)

-- where the new number isn't among those given
pub given_end : (key : Job → ℕ) (jobs : List Job) (j : Job) (next : ℕ) → (IsIn (key j) (map key jobs) → ⊥) → IsGiven (map key jobs) next → IsGiven (map key (jobs ++ j ∷ [])) (max next (key j + 1))
given_end key jobs j next none g =
    subst (λ (ns : List ℕ). IsGiven ns (max next (key j + 1))) (sym (map_more key jobs j))
    (record { distinct = distinct_end (key j) (map key jobs) none g.distinct; below = below_end (key j) next (max next (key j + 1)) (map key jobs) (omega arith) (omega arith) g.below })

-- a number that no job uses is none of theirs
pub none_used : (n : ℕ) (jobs : List Job) → is_used n jobs ≡ false → IsIn n (map (λ k. k.job.number) jobs) → ⊥
none_used n jobs e i =
    let m = of_mapped (λ (k : Job). k.job.number) jobs n i in
    let yes : is_used n jobs ≡ true = one_passes (λ (k : Job). k.job.number == n) jobs m.0 m.1 (eq-eqb m.0.job.number n (sym m.2)) in
    absurd (cc)

-- a place at which no job waits is none of theirs
pub none_taken : (n : ℕ) (jobs : List Job) → is_taken n jobs ≡ false → IsIn n (waiting_places jobs) → ⊥
none_taken n jobs e i =
    let waits = λ (k : Job). is_waiting k.phase in
    let m = of_mapped (λ (k : Job). k.place) (filter waits jobs) n i in
    let there : IsIn m.0 jobs = left_in waits jobs m.0 m.1 in
    let passes : is_waiting m.0.phase ≡ true = left_passes waits jobs m.0 m.1 in
    let yes : is_taken n jobs ≡ true = one_passes (λ (k : Job). is_waiting k.phase && k.place == n) jobs m.0 there (and_from (is_waiting m.0.phase) (m.0.place == n) passes (eq-eqb m.0.place n (sym m.2))) in
    absurd (cc)
