-- The places of Waiting jobs stay distinct where no job comes to wait, and where one comes with the next place.
use Rattle.std.proofs.Common.{◌≡◌, ◌⊎◌, ℕ, ◌<◌, ◌+◌, ◌++◌, ◌==◌, Bool, true, false, cond, List, [], ◌∷◌, map, filter, refl, sym, ap, subst, ◌∙◌, inl, inr, arith}
use Rattle.wm_law.specs.declared.job.Job.{Job}
use Rattle.wm_law.specs.Counts.{is_waiting}
use Rattle.wm_law.specs.Jobs.{changed_at}
use Rattle.wm_law.specs.Kept.{IsBelow, IsDistinct, waiting_places}
use Rattle.wm_law.specs.Laws.{IsIn}

abbrev waiting : List Job → List Job
waiting jobs = filter (λ (j : Job). is_waiting j.phase) jobs

abbrev place : Job → ℕ
place j = j.place

behind : (t : Bool) (j : Job) (jobs : List Job) (n : ℕ) → IsIn n (map place jobs) → IsIn n (map place (cond t (j ∷ jobs) jobs))
behind true j jobs n i = inr i
behind false j jobs n i = i

both_in : (t : Bool) (j : Job) (new old : List Job) (n : ℕ) → (IsIn n (map place new) → IsIn n (map place old)) → IsIn n (map place (cond t (j ∷ new) new)) → IsIn n (map place (cond t (j ∷ old) old))
both_in true j new old n h (inl e) = inl e
both_in true j new old n h (inr i) = inr (h i)
both_in false j new old n h i = h i

rest : (t : Bool) (j : Job) (old : List Job) → IsDistinct (map place (cond t (j ∷ old) old)) → IsDistinct (map place old)
rest true j old d = d.1
rest false j old d = d

module _ (change : Job → Job) (never : (j : Job) → is_waiting (change j).phase ≡ false) where
  dropped : (P : List Job → Type 0) (j : Job) (new : List Job) → P new → P (cond (is_waiting (change j).phase) (change j ∷ new) new)
  dropped P j new h = subst (λ (t : Bool). P (cond t (change j ∷ new) new)) (sym (never j)) h

  kept : (P : List Job → Type 0) (j : Job) (new : List Job) → P (cond (is_waiting (change j).phase) (change j ∷ new) new) → P new
  kept P j new h = subst (λ (t : Bool). P (cond t (change j ∷ new) new)) (never j) h

  place_at : (t : Bool) (j : Job) (new old : List Job) (n : ℕ) → (IsIn n (map place new) → IsIn n (map place old)) → IsIn n (map place (cond (is_waiting (cond t (change j) j).phase) (cond t (change j) j ∷ new) new)) → IsIn n (map place (cond (is_waiting j.phase) (j ∷ old) old))
  place_at true j new old n h i = behind (is_waiting j.phase) j old n (h (kept (λ jobs. IsIn n (map place jobs)) j new i))
  place_at false j new old n h i = both_in (is_waiting j.phase) j new old n h i

  -- a place among those of the changed jobs that wait was one before
  place_in : (serial : ℕ) (jobs : List Job) (n : ℕ) → IsIn n (waiting_places (map (changed_at serial change) jobs)) → IsIn n (waiting_places jobs)
  place_in serial [] n i = i
  place_in serial (j ∷ jobs) n i = place_at (j.serial == serial) j (waiting (map (changed_at serial change) jobs)) (waiting jobs) n (place_in serial jobs n) i

  both_distinct : (t : Bool) (j : Job) (new old : List Job) → (IsIn j.place (map place new) → IsIn j.place (map place old)) → (IsDistinct (map place old) → IsDistinct (map place new)) → IsDistinct (map place (cond t (j ∷ old) old)) → IsDistinct (map place (cond t (j ∷ new) new))
  both_distinct true j new old i h d = ((λ k. d.0 (i k)), h d.1)
  both_distinct false j new old i h d = h d

  distinct_at : (t : Bool) (j : Job) (new old : List Job) → ((n : ℕ) → IsIn n (map place new) → IsIn n (map place old)) → (IsDistinct (map place old) → IsDistinct (map place new)) → IsDistinct (map place (cond (is_waiting j.phase) (j ∷ old) old)) → IsDistinct (map place (cond (is_waiting (cond t (change j) j).phase) (cond t (change j) j ∷ new) new))
  distinct_at true j new old i h d = dropped (λ jobs. IsDistinct (map place jobs)) j new (h (rest (is_waiting j.phase) j old d))
  distinct_at false j new old i h d = both_distinct (is_waiting j.phase) j new old (i j.place) h d

  -- a change after which the job doesn't wait leaves the places of Waiting jobs distinct
  pub still_distinct : (serial : ℕ) (jobs : List Job) → IsDistinct (waiting_places jobs) → IsDistinct (waiting_places (map (changed_at serial change) jobs))
  still_distinct serial [] d = d
  still_distinct serial (j ∷ jobs) d = distinct_at (j.serial == serial) j (waiting (map (changed_at serial change) jobs)) (waiting jobs) (place_in serial jobs) (still_distinct serial jobs) d

below_by : (t : Bool) (j : Job) (jobs : List Job) (n : ℕ) → IsBelow n (map place (j ∷ jobs)) → (IsBelow n (map place jobs) → IsBelow n (map place (waiting jobs))) → IsBelow n (map place (cond t (j ∷ waiting jobs) (waiting jobs)))
below_by true j jobs n b h = (b.0, h b.1)
below_by false j jobs n b h = h b.1

-- places below a bound are so among Waiting jobs
pub waiting_below : (jobs : List Job) (n : ℕ) → IsBelow n (map place jobs) → IsBelow n (waiting_places jobs)
waiting_below [] n b = b
waiting_below (j ∷ jobs) n b = below_by (is_waiting j.phase) j jobs n b (waiting_below jobs n)

more_by : (t : Bool) (i : Job) (new old : List Job) (n : ℕ) → map place new ≡ map place old ++ n ∷ [] → map place (cond t (i ∷ new) new) ≡ map place (cond t (i ∷ old) old) ++ n ∷ []
more_by true i new old n e = ap (λ (ns : List ℕ). i.place ∷ ns) e
more_by false i new old n e = e

-- a Waiting job that goes last brings its place
pub waiting_more : (jobs : List Job) (j : Job) → is_waiting j.phase ≡ true → waiting_places (jobs ++ j ∷ []) ≡ waiting_places jobs ++ j.place ∷ []
waiting_more [] j w = ap (λ (t : Bool). map place (cond t (j ∷ []) [])) w
waiting_more (i ∷ jobs) j w = more_by (is_waiting i.phase) i (waiting (jobs ++ j ∷ [])) (waiting jobs) j.place (waiting_more jobs j w)

same_by : (t : Bool) (i : Job) (new old : List Job) → map place new ≡ map place old → map place (cond t (i ∷ new) new) ≡ map place (cond t (i ∷ old) old)
same_by true i new old e = ap (λ (ns : List ℕ). i.place ∷ ns) e
same_by false i new old e = e

-- one that doesn't wait brings none
pub waiting_same : (jobs : List Job) (j : Job) → is_waiting j.phase ≡ false → waiting_places (jobs ++ j ∷ []) ≡ waiting_places jobs
waiting_same [] j w = ap (λ (t : Bool). map place (cond t (j ∷ []) [])) w
waiting_same (i ∷ jobs) j w = same_by (is_waiting i.phase) i (waiting (jobs ++ j ∷ [])) (waiting jobs) (waiting_same jobs j w)

-- places stay, and what waits waited
module _ (change : Job → Job) (same : (j : Job) → (change j).place ≡ j.place) (waited : (j : Job) → is_waiting (change j).phase ≡ true → is_waiting j.phase ≡ true) where
  fewer_by : (t u : Bool) (j k : Job) (new old : List Job) (n : ℕ) → (t ≡ true → u ≡ true) → k.place ≡ j.place → (IsIn n (map place new) → IsIn n (map place old)) → IsIn n (map place (cond t (k ∷ new) new)) → IsIn n (map place (cond u (j ∷ old) old))
  fewer_by true true j k new old n w e h (inl f) = inl (f ∙ e)
  fewer_by true true j k new old n w e h (inr i) = inr (h i)
  fewer_by true false j k new old n w e h i = let no = w refl in absurd (cc)
  fewer_by false u j k new old n w e h i = behind u j old n (h i)

  -- a place among those of the changed jobs that wait was one before
  fewer_in : (jobs : List Job) (n : ℕ) → IsIn n (waiting_places (map change jobs)) → IsIn n (waiting_places jobs)
  fewer_in [] n i = i
  fewer_in (j ∷ jobs) n i = fewer_by (is_waiting (change j).phase) (is_waiting j.phase) j (change j) (waiting (map change jobs)) (waiting jobs) n (waited j) (same j) (fewer_in jobs n) i

  fewer_once : (t u : Bool) (j k : Job) (new old : List Job) → (t ≡ true → u ≡ true) → k.place ≡ j.place → ((n : ℕ) → IsIn n (map place new) → IsIn n (map place old)) → (IsDistinct (map place old) → IsDistinct (map place new)) → IsDistinct (map place (cond u (j ∷ old) old)) → IsDistinct (map place (cond t (k ∷ new) new))
  fewer_once true true j k new old w e i h d = ((λ m. d.0 (i j.place (subst (λ (n : ℕ). IsIn n (map place new)) e m))), h d.1)
  fewer_once true false j k new old w e i h d = let no = w refl in absurd (cc)
  fewer_once false u j k new old w e i h d = h (rest u j old d)

  -- so the places of Waiting jobs stay distinct
  pub fewer_distinct : (jobs : List Job) → IsDistinct (waiting_places jobs) → IsDistinct (waiting_places (map change jobs))
  fewer_distinct [] d = d
  fewer_distinct (j ∷ jobs) d = fewer_once (is_waiting (change j).phase) (is_waiting j.phase) j (change j) (waiting (map change jobs)) (waiting jobs) (waited j) (same j) (fewer_in jobs) (fewer_distinct jobs) d

pub below_in : (top : ℕ) (ns : List ℕ) (n : ℕ) → IsBelow top ns → IsIn n ns → n < top
below_in top [] n b i = absurd i
below_in top (m ∷ ns) n b (inl e) = subst (λ (x : ℕ). x < top) (sym e) b.0
below_in top (m ∷ ns) n b (inr i) = below_in top ns n b.1 i

-- the job of a serial may take a place, and no other job changes
module _ (change : Job → Job) (serial top : ℕ) (other : (j : Job) → (j.serial ≡ serial → ⊥) → change j ≡ j) (moves : (j : Job) → (change j ≡ j) ⊎ ((j.serial ≡ serial) × ((change j).place ≡ top))) where
  others_stay : (jobs : List Job) → (IsIn serial (map (λ j. j.serial) jobs) → ⊥) → map change jobs ≡ jobs
  others_stay [] none = refl
  others_stay (j ∷ jobs) none = cc (other j (λ e. none (inl (sym e))), others_stay jobs (λ i. none (inr i)))

  later_in : (t : Bool) (j : Job) (old : List Job) (n : ℕ) → IsIn n (map place old) ⊎ (n ≡ top) → IsIn n (map place (cond t (j ∷ old) old)) ⊎ (n ≡ top)
  later_in t j old n (inl i) = inl (behind t j old n i)
  later_in t j old n (inr e) = inr e

  stays_in : (t : Bool) (j : Job) (new old : List Job) (n : ℕ) → (IsIn n (map place new) → IsIn n (map place old) ⊎ (n ≡ top)) → IsIn n (map place (cond t (j ∷ new) new)) → IsIn n (map place (cond t (j ∷ old) old)) ⊎ (n ≡ top)
  stays_in true j new old n h (inl e) = inl (inl e)
  stays_in true j new old n h (inr i) = later_in true j old n (h i)
  stays_in false j new old n h i = h i

  taken_in : (t u : Bool) (j k : Job) (new old : List Job) (n : ℕ) → k.place ≡ top → (IsIn n (map place new) → IsIn n (map place old) ⊎ (n ≡ top)) → IsIn n (map place (cond t (k ∷ new) new)) → IsIn n (map place (cond u (j ∷ old) old)) ⊎ (n ≡ top)
  taken_in true u j k new old n e h (inl f) = inr (f ∙ e)
  taken_in true u j k new old n e h (inr i) = later_in u j old n (h i)
  taken_in false u j k new old n e h i = later_in u j old n (h i)

  was_by : (j : Job) (new old : List Job) (n : ℕ) → (change j ≡ j) ⊎ ((j.serial ≡ serial) × ((change j).place ≡ top)) → (IsIn n (map place new) → IsIn n (map place old) ⊎ (n ≡ top)) → IsIn n (map place (cond (is_waiting (change j).phase) (change j ∷ new) new)) → IsIn n (map place (cond (is_waiting j.phase) (j ∷ old) old)) ⊎ (n ≡ top)
  was_by j new old n (inl same) h i = stays_in (is_waiting j.phase) j new old n h (subst (λ (k : Job). IsIn n (map place (cond (is_waiting k.phase) (k ∷ new) new))) same i)
  was_by j new old n (inr m) h i = taken_in (is_waiting (change j).phase) (is_waiting j.phase) j (change j) new old n m.1 h i

  -- a place among those of the changed jobs that wait was one before, or is the one that is taken
  was_in : (jobs : List Job) (n : ℕ) → IsIn n (waiting_places (map change jobs)) → IsIn n (waiting_places jobs) ⊎ (n ≡ top)
  was_in [] n i = absurd i
  was_in (j ∷ jobs) n i = was_by j (waiting (map change jobs)) (waiting jobs) n (moves j) (was_in jobs n) i

  no_more : (j : Job) → (change j ≡ j) ⊎ ((j.serial ≡ serial) × ((change j).place ≡ top)) → j.place < top → (change j).place < top + 1
  no_more j (inl same) less = let e : (change j).place ≡ j.place = ap place same in omega arith
  no_more j (inr m) less = let e : (change j).place ≡ top = m.1 in omega arith

  -- all places are below the one after it
  pub taken_below : (jobs : List Job) → IsBelow top (map place jobs) → IsBelow (top + 1) (map place (map change jobs))
  taken_below [] b = b
  taken_below (j ∷ jobs) b = (no_more j (moves j) b.0, taken_below jobs b.1)

  front : (t : Bool) (k : Job) (new : List Job) → (IsIn k.place (map place new) → ⊥) → IsDistinct (map place new) → IsDistinct (map place (cond t (k ∷ new) new))
  front true k new none d = (none, d)
  front false k new none d = d

  stays_front : (t : Bool) (j : Job) (new old : List Job) → (IsIn j.place (map place new) → IsIn j.place (map place old) ⊎ (j.place ≡ top)) → j.place < top → IsDistinct (map place (cond t (j ∷ old) old)) → IsDistinct (map place new) → IsDistinct (map place (cond t (j ∷ new) new))
  stays_front true j new old i less d h = ((λ m. elim (i m) as (λ _. ⊥) [ inl k ↦ d.0 k | inr e ↦ absurd (omega arith) ]), h)
  stays_front false j new old i less d h = h

  taken_once : (j : Job) (jobs : List Job) → (change j ≡ j) ⊎ ((j.serial ≡ serial) × ((change j).place ≡ top)) → IsDistinct (map (λ j. j.serial) (j ∷ jobs)) → IsBelow top (map place (j ∷ jobs)) → IsDistinct (waiting_places (j ∷ jobs)) → IsDistinct (waiting_places (map change jobs)) → IsDistinct (waiting_places (map change (j ∷ jobs)))
  taken_once j jobs (inl same) s b d h =
      let new = waiting (map change jobs) in
      subst (λ (k : Job). IsDistinct (map place (cond (is_waiting k.phase) (k ∷ new) new))) (sym same) (stays_front (is_waiting j.phase) j new (waiting jobs) (was_in jobs j.place) b.0 d h)
  taken_once j jobs (inr m) s b d h =
      let same : map change jobs ≡ jobs = others_stay jobs (λ i. s.0 (subst (λ (n : ℕ). IsIn n (map (λ (k : Job). k.serial) jobs)) (sym m.0) i)) in
      let below = waiting_below jobs top b.1 in
      front (is_waiting (change j).phase) (change j) (waiting (map change jobs))
      (λ i.
      let less : (change j).place < top = below_in top (waiting_places jobs) (change j).place below (subst (λ (ks : List Job). IsIn (change j).place (waiting_places ks)) same i) in
      let e : (change j).place ≡ top = m.1 in
      absurd (omega arith))
      h

  -- the places of Waiting jobs stay distinct, where all were below the one that is taken
  pub taken_distinct : (jobs : List Job) → IsDistinct (map (λ j. j.serial) jobs) → IsBelow top (map place jobs) → IsDistinct (waiting_places jobs) → IsDistinct (waiting_places (map change jobs))
  taken_distinct [] s b d = d
  taken_distinct (j ∷ jobs) s b d = taken_once j jobs (moves j) s b d (taken_distinct jobs s.1 b.1 (rest (is_waiting j.phase) j (waiting jobs) d))
