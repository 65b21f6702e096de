-- Noted jobs that are put one after another: what is left of them.
use Rattle.std.proofs.Common.{◌≡◌, ℕ, ◌+◌, ◌<◌, ◌≤◌, nat_eq, not, Bool, true, cond, List, [], ◌∷◌, length, filter, slice_get, Some, None, refl, sym, ap, subst, ◌∙◌, arith}
use Rattle.std.specs.Ordering.{nat_cmp}
use Rattle.std.proofs.lemmas.Bool.{eq-eqb, eqb-true, false_from_ne_true, not_from_false}
use Rattle.std.proofs.lemmas.Cmp.{nat_cmp_total}
use Rattle.wm_base.proofs.Tests.{Some-injective}
use Rattle.wm_traits.specs.declared.row.RowChange.{RowChange}
use Rattle.wm_desc.specs.Sorted.{IsSortedOnce, removed}
use Rattle.wm_ordered.specs.Ordered.{key_of}
use Rattle.wm_jobs.specs.Table.{Table}
use Rattle.wm_jobs.specs.declared.touched.Standing.{Standing}
use Rattle.wm_tables.proofs.OneMore.{first_below, not_same}
use Rattle.wm_tables.proofs.Passing.{left_all}
use Rattle.wm_tables.specs.Noted.{old_job, PutsNoted, PutsTouched}
use Rattle.wm_tables.proofs.NotedPairs.{Pair}
use Rattle.wm_law.proofs.InOrder.{rest_sorted}

-- what is still put of the changes, all put of the first ones
pub record IsLeft (t : Table) (first cs : List RowChange) (all ps : List Pair) (past end : ℕ) : Type 0 where
  pub sorted : IsSortedOnce key_of nat_cmp ps
  pub makes : (new : List RowChange) → PutsNoted t ps cs new → PutsNoted t all first new
  pub count : length ps + past ≡ end

-- the first of sorted pairs is taken out
rest_left : (p : Pair) (ps : List Pair) → IsSortedOnce key_of nat_cmp (p ∷ ps) → removed key_of nat_eq p.0 (p ∷ ps) ≡ ps
rest_left p ps s =
    let here : nat_eq p.0 p.0 ≡ true = eq-eqb p.0 p.0 refl in
    let others : filter (λ (q : Pair). not (nat_eq (key_of q) p.0)) ps ≡ ps = left_all (λ (q : Pair). not (nat_eq (key_of q) p.0)) ps (λ q i. not_from_false (nat_eq q.0 p.0) (false_from_ne_true (nat_eq q.0 p.0) (λ e. not_same (λ (x : Pair). x.0) nat_cmp nat_cmp_total p.0 q.0 (first_below (λ (x : Pair). x.0) nat_cmp nat_cmp_total p ps q s i) (sym (eqb-true q.0 p.0 e))))) in
    ap (λ (b : Bool). cond (not b) (p ∷ filter (λ (q : Pair). not (nat_eq (key_of q) p.0)) ps) (filter (λ (q : Pair). not (nat_eq (key_of q) p.0)) ps)) here ∙ others

module _ (t : Table) (first cs : List RowChange) (all : List Pair) (past end : ℕ) where
  next_of : (p : Pair) (ps : List Pair) (mid : List RowChange) → IsLeft t first cs all (p ∷ ps) past end → PutsTouched p.1 (old_job t p.0) cs mid → IsLeft t first mid all (removed key_of nat_eq p.0 (p ∷ ps)) (past + 1) end
  next_of p ps mid l put =
      let count = l.count in
      subst (λ (qs : List Pair). IsLeft t first mid all qs (past + 1) end) (sym (rest_left p ps l.sorted))
      (record { sorted = rest_sorted (λ (x : Pair). x.0) nat_cmp nat_cmp_total p ps l.sorted; makes = λ new h. l.makes new (mid, put, h); count = omega arith })

  -- one is put
  pub next_left : (ps : List Pair) (n : ℕ) (w : Standing) (mid : List RowChange) → IsLeft t first cs all ps past end → Some (n, w) ≡ slice_get ps 0 → PutsTouched w (old_job t n) cs mid → IsLeft t first mid all (removed key_of nat_eq n ps) (past + 1) end
  next_left [] n w mid l e put = absurd (cc)
  next_left (p ∷ ps) n w mid l e put =
      let same : p ≡ (n, w) = sym (Some-injective (n, w) p e) in
      let its : PutsTouched p.1 (old_job t p.0) cs mid = subst (λ (q : Pair). PutsTouched q.1 (old_job t q.0) cs mid) (sym same) put in
      subst (λ (q : Pair). IsLeft t first mid all (removed key_of nat_eq q.0 (p ∷ ps)) (past + 1) end) same (next_of p ps mid l its)

  -- none is left where none is the first
  pub never_none : (ps : List Pair) → IsLeft t first cs all ps past end → None ≡ slice_get ps 0 → past < end → ⊥
  never_none [] l e less = let count = l.count in absurd (omega arith)
  never_none (p ∷ ps) l e less = absurd (cc)

  -- at the end all are put
  pub none_left : (ps : List Pair) → IsLeft t first cs all ps past end → end ≤ past → PutsNoted t all first cs
  none_left [] l h = l.makes cs refl
  none_left (p ∷ ps) l h = let count = l.count in absurd (omega arith)
