-- What the numbers of entries keep of the available jobs.
use Rattle.std.proofs.Common.{◌≡◌, ℕ, ◌+◌, ◌≤◌, ◌&&◌, Bool, true, false, cond, List, [], ◌∷◌, ◌++◌, length, get_or, map, count_by, Option, Some, None, inl, inr, refl, ap, sym, ◌∙◌, subst, arith, Contains, nat_eq}
use Rattle.std.specs.List.{AllPairs, find, insert}
use Rattle.std.specs.Cmp.{tied_itself}
use Rattle.std.specs.declared.cmp.Ordering.TheVariants.{Less}
use Rattle.std.specs.Ordering.{is_eq, nat_cmp}
use mathlib.Core.Bool.{false≢true}
use Rattle.std.proofs.lemmas.List.{length-map}
use Rattle.std.proofs.lemmas.List.Sums.{sum_by-append, sum_by-cons, sum_by-insert}
use Rattle.wm_desc.specs.Sorted.{IsSortedOnce, removed}
use Rattle.wm_ordered.specs.Ordered.{key_of, value_at}
use Rattle.wm_ordered.proofs.Members.{Contains-cons, Contains-head, Contains-mapped, Contains-nil, find-before, find-None, find-Some}
use Rattle.wm_ordered.proofs.Rows.{no_more}
use Rattle.wm_indexes.specs.declared.prestart_job.PrestartEntry.{PrestartEntry}
use Rattle.wm_indexes.specs.declared.prestart_job.PrestartJob.{PrestartJob}
use Rattle.wm_indexes.specs.Ready.{available, entry_cmp, is_available, is_available_in, same_entry}
use Rattle.wm_indexes.specs.Seats.{AreNumbers, HaveSome, number_at}
use Rattle.wm_indexes.proofs.Counts.{is_of, number_by}
use Rattle.wm_indexes.proofs.Entries.{entry-itself, entry_ties, entry_total, one_entry}
use Rattle.wm_indexes.proofs.RowLemmas.{removed-is, row}

and-true : (b c : Bool) → c ≡ true → (b && c) ≡ b
and-true true c h = h
and-true false c h = refl

and-false : (b c : Bool) → c ≡ false → (b && c) ≡ false
and-false true c h = h
and-false false c h = refl

-- what a job adds to the number of an entry
abbrev part : PrestartEntry → ℕ × PrestartJob → ℕ
part e x = cond (is_available_in e x) 1 0

part-is : (e : PrestartEntry) (x : ℕ × PrestartJob) → is_available x.1.readiness ≡ true → part e x ≡ cond (same_entry x.1.entry e) 1 0
part-is e x h = ap (λ b. cond {A = ℕ} b 1 0) (and-true (same_entry x.1.entry e) (is_available x.1.readiness) h)

part-none : (e : PrestartEntry) (x : ℕ × PrestartJob) → is_available x.1.readiness ≡ false → part e x ≡ 0
part-none e x h = ap (λ b. cond {A = ℕ} b 1 0) (and-false (same_entry x.1.entry e) (is_available x.1.readiness) h)

available-more : (e : PrestartEntry) (jobs : List (ℕ × PrestartJob)) (i : ℕ) (x : ℕ × PrestartJob) → available e (insert jobs i x) ≡ available e jobs + part e x
available-more e jobs i x = sum_by-insert (part e) jobs i x

between : (e : PrestartEntry) (l r : List (ℕ × PrestartJob)) (x : ℕ × PrestartJob) → available e (l ++ r) + part e x ≡ available e (l ++ x ∷ r)
between e l r x = omega (arith, sum_by-append (part e) l r, sum_by-append (part e) l (x ∷ r), sum_by-cons (part e) x r)

module _ (s : ℕ) (v : PrestartJob) (jobs : List (ℕ × PrestartJob)) (sorted : IsSortedOnce key_of nat_cmp jobs) (is : value_at nat_eq s jobs ≡ Some v) where
  pub available-less : (e : PrestartEntry) → available e (removed key_of nat_eq s jobs) + part e (s, v) ≡ available e jobs
  available-less e =
      let here = row s v jobs sorted is in
      ap (λ (l : List (ℕ × PrestartJob)). available e l + part e (s, v)) (removed-is s v jobs sorted is) ∙ (between e here.left here.right (s, v) ∙ sym (ap (available e) here.whole))

  module _ (rows : List (PrestartEntry × ℕ)) (h : AreNumbers jobs rows) where
    -- an available job is counted
    pub counted-there : is_available v.readiness ≡ true → 1 ≤ number_at v.entry rows
    counted-there t =
        let one : part v.entry (s, v) ≡ 1 = part-is v.entry (s, v) t ∙ ap (λ b. cond {A = ℕ} b 1 0) (entry-itself v.entry) in
        omega (arith, one, available-less v.entry, h.numbers v.entry)

    -- an available job less
    pub parted : (new : List (PrestartEntry × ℕ)) → is_available v.readiness ≡ true → ((e : PrestartEntry) → number_at e new + cond (same_entry v.entry e) 1 0 ≡ number_at e rows) → HaveSome new → AreNumbers (removed key_of nat_eq s jobs) new
    parted new t less some = record {
      numbers = λ e. omega (arith, less e, part-is e (s, v) t, available-less e, h.numbers e);
      some = some;
    }

    -- one less that isn't available
    pub not-parted : is_available v.readiness ≡ false → AreNumbers (removed key_of nat_eq s jobs) rows
    not-parted t = record {
      numbers = λ e. omega (arith, part-none e (s, v) t, available-less e, h.numbers e);
      some = h.some;
    }

module _ (jobs : List (ℕ × PrestartJob)) (rows : List (PrestartEntry × ℕ)) (h : AreNumbers jobs rows) where
  -- an available job more
  pub joined : (x : ℕ × PrestartJob) (i : ℕ) (new : List (PrestartEntry × ℕ)) → is_available x.1.readiness ≡ true → ((e : PrestartEntry) → number_at e new ≡ number_at e rows + cond (same_entry x.1.entry e) 1 0) → HaveSome new → AreNumbers (insert jobs i x) new
  joined x i new t more some = record {
    numbers = λ e. omega (arith, more e, part-is e x t, available-more e jobs i x, h.numbers e);
    some = some;
  }

  -- one more that isn't available
  pub not-joined : (x : ℕ × PrestartJob) (i : ℕ) → is_available x.1.readiness ≡ false → AreNumbers (insert jobs i x) rows
  not-joined x i t = record {
    numbers = λ e. omega (arith, part-none e x t, available-more e jobs i x, h.numbers e);
    some = h.some;
  }

  own-by : (o : Option (PrestartEntry × ℕ)) (r : PrestartEntry × ℕ) → IsSortedOnce key_of entry_cmp rows → Contains rows r → find (is_of r.0) rows ≡ o → number_by o ≡ r.1
  own-by None r sorted there e = absurd (false≢true (sym (find-None (is_of r.0) rows r e there) ∙ entry-itself r.0))
  own-by (Some q) r sorted there e =
      elim (find-before (λ (a b : PrestartEntry × ℕ). entry_cmp a.0 b.0 ≡ Less) (is_of r.0) rows q r sorted e there (entry-itself r.0)) [
        | inl is ↦ ap (λ (x : PrestartEntry × ℕ). x.1) (sym is)
        | inr lt ↦ absurd (false≢true (sym (entry_ties q.0 r.0 ∙ ap is_eq lt) ∙ (find-Some (is_of r.0) rows q e).1))
      ]

  found-by : (b : Bool) (p : ℕ × PrestartJob → Bool) (x : ℕ × PrestartJob) (xs : List (ℕ × PrestartJob)) → p x ≡ b → 1 ≤ cond b 1 0 + count_by p xs → (1 ≤ count_by p xs → (y : ℕ × PrestartJob) × Contains xs y × (p y ≡ true)) → (y : ℕ × PrestartJob) × Contains (x ∷ xs) y × (p y ≡ true)
  found-by true p x xs t some rest = (x, Contains-head x xs, t)
  found-by false p x xs t some rest = let y = rest (omega (arith, some)) in (y.0, Contains-cons x y.0 xs y.1, y.2)

  found : (p : ℕ × PrestartJob → Bool) (xs : List (ℕ × PrestartJob)) → 1 ≤ count_by p xs → (y : ℕ × PrestartJob) × Contains xs y × (p y ≡ true)
  found p [] some = absurd (omega (arith, some))
  found p (x ∷ xs) some = found-by (p x) p x xs refl (omega (arith, some, sum_by-cons (λ y. cond (p y) 1 0) x xs)) (found p xs)

  -- each row is of the entry of a job
  held : IsSortedOnce key_of entry_cmp rows → (r : PrestartEntry × ℕ) → Contains rows r → Contains (map (λ (x : ℕ × PrestartJob). x.1.entry) jobs) r.0
  held sorted r there =
      let some : 1 ≤ available r.0 jobs = omega (arith, h.some r there, own-by (find (is_of r.0) rows) r sorted there refl, h.numbers r.0) in
      let x = found (is_available_in r.0) jobs some in
      let same : x.0.1.entry ≡ r.0 = one_entry x.0.1.entry r.0 (first-true (same_entry x.0.1.entry r.0) (is_available x.0.1.readiness) x.2) in
      subst (λ (e : PrestartEntry). Contains (map (λ (x : ℕ × PrestartJob). x.1.entry) jobs) e) same (Contains-mapped (λ (x : ℕ × PrestartJob). x.1.entry) jobs x.0 x.1)
    where
      first-true : (b c : Bool) → (b && c) ≡ true → b ≡ true
      first-true true c t = refl
      first-true false c t = t

  -- rows are no more than jobs
  pub numbers-length : IsSortedOnce key_of entry_cmp rows → length rows ≤ length jobs
  numbers-length sorted =
      let fits = no_more (λ (r : PrestartEntry × ℕ). r.0) rows (map (λ (x : ℕ × PrestartJob). x.1.entry) jobs) distinct (held sorted) in
      omega (arith, fits, length-map jobs (λ (x : ℕ × PrestartJob). x.1.entry))
    where
      distinct : AllPairs (λ (a b : PrestartEntry × ℕ). a.0 ≡ b.0 → ⊥) rows
      distinct i j d lt in_range e = cc (sym (sorted i j d lt in_range) ∙ (ap (λ k. entry_cmp k (get_or rows j d).0) e ∙ tied_itself entry_total (get_or rows j d).0))

-- no jobs have no numbers
pub no-numbers : (jobs : List (ℕ × PrestartJob)) (rows : List (PrestartEntry × ℕ)) → jobs ≡ [] → rows ≡ [] → AreNumbers jobs rows
no-numbers jobs rows none empty = record {
  numbers = λ e. ap (number_at e) empty ∙ sym (ap (available e) none);
  some = λ r there. absurd (Contains-nil r (subst (λ l. Contains l r) empty there));
}
