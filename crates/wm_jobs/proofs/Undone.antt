-- What was at the mark, and what calls leave of it.
use Rattle.std.proofs.Common.{◌≡◌, ℕ, zero, suc, ◌+◌, ◌<◌, ◌≤◌, Bool, true, false, not, ◌==◌, cond, List, [], ◌∷◌, ◌++◌, length, get_or, map, take, take_all, refl, ap, sym, ◌∙◌, subst, arith, nat_eq, inl, inr, All, eq-eqb}
use Rattle.std.specs.List.{filter, list_any}
use Rattle.std.proofs.lemmas.Bool.{cases_Bool, eqb-true, not_from_true, or_right, or_left}
use Rattle.std.proofs.lemmas.List.{length-append, length-take, length-map, take-map, take-append-le}
use Rattle.std.proofs.lemmas.List.Elements.{All-head, All-tail, All-cons, All-append, All-take, All-weaker}
use Rattle.wm_law.specs.declared.job.Job.{Job}
use Rattle.wm_law.specs.Jobs.{changed_at}
use Rattle.wm_jobs.specs.declared.touched.Mark.{Mark}
use Rattle.wm_jobs.specs.declared.touched.Touched.{Touched}
use Rattle.wm_jobs.specs.Marked.{Marked, standing_of, touched_of, standing_as, restored, undone, marked_by, is_untouched}
use Rattle.wm_jobs.specs.Table.{serial_of}
use Rattle.wm_jobs.specs.TableInside.{IsMarked}
use Rattle.wm_jobs.proofs.Splits.{IsSplit}

-- the newest is undone first
pub undone-newest : (ts : List Touched) (t : Touched) (js : List Job) → undone (ts ++ t ∷ []) js ≡ undone ts (restored t js)
undone-newest [] t js = refl
undone-newest (u ∷ us) t js = ap (restored u) (undone-newest us t js)

pub length-undone : (ts : List Touched) (js : List Job) → length (undone ts js) ≡ length js
length-undone [] js = refl
length-undone (t ∷ ts) js = length-map (undone ts js) (changed_at t.serial (standing_as t.was)) ∙ length-undone ts js

-- in a list around the one of a serial no other has it
pub only-there : (s : ℕ) (js l r : List Job) (x : Job) → IsSplit serial_of s js l r x → All (λ (j : Job). j.serial ≡ s → j ≡ x) js
only-there s js l r x split =
    subst (λ (ks : List Job). All (λ (j : Job). j.serial ≡ s → j ≡ x) ks) (sym split.whole)
    (All-append (λ (j : Job). j.serial ≡ s → j ≡ x) l (x ∷ r)
    (All-weaker (λ (j : Job). j.serial < s) (λ (j : Job). j.serial ≡ s → j ≡ x) (λ j lt e. absurd (omega arith)) l split.lower)
    (All-cons (λ (j : Job). j.serial ≡ s → j ≡ x) x r (λ _. refl) (All-weaker (λ (j : Job). s < j.serial) (λ (j : Job). j.serial ≡ s → j ≡ x) (λ j lt e. absurd (omega arith)) r split.higher)))

-- a change of the job of a serial is undone by how it stood
module _ (s : ℕ) (x : Job) (here : x.serial ≡ s) (change : Job → Job) (serial : (change x).serial ≡ x.serial) (back : standing_as (standing_of x) (change x) ≡ x) where
  abbrev changed : Job → Job
  changed j = cond (nat_eq (serial_of j) s) (change j) j

  one-back : (j : Job) → (j.serial ≡ s → j ≡ x) → changed_at (touched_of x).serial (standing_as (touched_of x).was) (changed j) ≡ j
  one-back j only =
      elim (cases_Bool (nat_eq j.serial s)) [
        | inl e ↦ (let is : j ≡ x = only (eqb-true j.serial s e) in
            let there : changed j ≡ change x = ap (λ b. cond b (change j) j) e ∙ ap change is in
            ap (λ (k : Job). changed_at x.serial (standing_as (standing_of x)) k) there
            ∙ (ap (λ b. cond b (standing_as (standing_of x) (change x)) (change x)) (eq-eqb (change x).serial x.serial serial) ∙ (back ∙ sym is)))
        | inr e ↦ (let there : changed j ≡ j = ap (λ b. cond b (change j) j) e in
            ap (λ (k : Job). changed_at x.serial (standing_as (standing_of x)) k) there
            ∙ ap (λ b. cond b (standing_as (standing_of x) j) j) (ap (λ n. nat_eq j.serial n) here ∙ e))
      ]

  pub all-back : (js : List Job) → All (λ (j : Job). j.serial ≡ s → j ≡ x) js → restored (touched_of x) (map changed js) ≡ js
  all-back [] only = refl
  all-back (j ∷ js) only =
      ap (λ (k : Job). k ∷ restored (touched_of x) (map changed js)) (one-back j (All-head (λ (k : Job). k.serial ≡ s → k ≡ x) j js only))
      ∙ ap (λ (ks : List Job). j ∷ ks) (all-back js (All-tail (λ (k : Job). k.serial ≡ s → k ≡ x) j js only))

-- what was at the mark, by its jobs
abbrev with_jobs : Mark → List Job → Marked
with_jobs m js = record { jobs = js; clock = m.clock; next_serial = m.next_serial; next_place = m.next_place }

-- the first jobs are what they were once the newest change is undone
pub first-back : (n s : ℕ) (js ks l r : List Job) (x : Job) (change : Job → Job) → IsSplit serial_of s js l r x → (change x).serial ≡ x.serial → standing_as (standing_of x) (change x) ≡ x → ks ≡ map (λ (j : Job). cond (nat_eq (serial_of j) s) (change j) j) js → restored (touched_of x) (take n ks) ≡ take n js
first-back n s js ks l r x change split serial back is =
    let f : Job → Job = λ j. cond (nat_eq (serial_of j) s) (change j) j in
    let first : take n ks ≡ map f (take n js) = ap (take n) is ∙ take-map f n js in
    ap (restored (touched_of x)) first ∙ all-back s x split.here change serial back (take n js) (All-take (λ (j : Job). j.serial ≡ s → j ≡ x) n js (only-there s js l r x split))

module _ (m : Mark) (ts : List Touched) where
  -- a change that is noted
  pub marked-noted : (us : List Touched) (t : Touched) (js ks : List Job) → us ≡ ts ++ t ∷ [] → restored t (take m.jobs ks) ≡ take m.jobs js → marked_by m us ks ≡ marked_by m ts js
  marked-noted us t js ks noted back =
      ap (with_jobs m) (ap (λ vs. undone vs (take m.jobs ks)) noted ∙ (undone-newest ts t (take m.jobs ks) ∙ ap (undone ts) back))

  -- a job that comes behind the others
  pub marked-pushed : (js ks : List Job) (j : Job) → m.jobs ≤ length js → ks ≡ js ++ j ∷ [] → marked_by m ts ks ≡ marked_by m ts js
  marked-pushed js ks j there is = ap (λ (ls : List Job). with_jobs m (undone ts ls)) (ap (take m.jobs) is ∙ take-append-le m.jobs js (j ∷ []) there)

  pub marked-same : (js ks : List Job) → ks ≡ js → marked_by m ts ks ≡ marked_by m ts js
  marked-same js ks is = ap (λ (ls : List Job). marked_by m ts ls) is

-- what was not touched is what it was
module _ (p : ℕ → Bool) where
  abbrev kept : Job → Bool
  kept j = p j.serial

  one-kept : (t : Touched) → p t.serial ≡ false → (j : Job) (js : List Job) → filter kept (restored t js) ≡ filter kept js → filter kept (restored t (j ∷ js)) ≡ filter kept (j ∷ js)
  one-kept t out j js rest =
      elim (cases_Bool (nat_eq j.serial t.serial)) [
        | inl e ↦ (let gone : p j.serial ≡ false = ap p (eqb-true j.serial t.serial e) ∙ out in
            let there : changed_at t.serial (standing_as t.was) j ≡ standing_as t.was j = ap (λ b. cond b (standing_as t.was j) j) e in
            ap (λ (k : Job). filter kept (k ∷ restored t js)) there
            ∙ (ap (λ b. cond b (standing_as t.was j ∷ filter kept (restored t js)) (filter kept (restored t js))) gone ∙ (rest ∙ sym (ap (λ b. cond b (j ∷ filter kept js) (filter kept js)) gone))))
        | inr e ↦ (let there : changed_at t.serial (standing_as t.was) j ≡ j = ap (λ b. cond b (standing_as t.was j) j) e in
            ap (λ (k : Job). filter kept (k ∷ restored t js)) there ∙ ap (λ (ks : List Job). cond (p j.serial) (j ∷ ks) ks) rest)
      ]

  all-kept : (t : Touched) → p t.serial ≡ false → (js : List Job) → filter kept (restored t js) ≡ filter kept js
  all-kept t out [] = refl
  all-kept t out (j ∷ js) = one-kept t out j js (all-kept t out js)

  undone-kept : (ts : List Touched) → All (λ (t : Touched). p t.serial ≡ false) ts → (js : List Job) → filter kept (undone ts js) ≡ filter kept js
  undone-kept [] out js = refl
  undone-kept (t ∷ ts) out js =
      all-kept t (All-head (λ (u : Touched). p u.serial ≡ false) t ts out) (undone ts js) ∙ undone-kept ts (All-tail (λ (u : Touched). p u.serial ≡ false) t ts out) js

any-at : {X : Type 0} (q : X → Bool) (xs : List X) (k : ℕ) (d : X) → k < length xs → q (get_or xs k d) ≡ true → list_any q xs ≡ true
any-at q [] k d lt h = absurd (omega arith)
any-at q (x ∷ xs) zero d lt h = or_left (q x) (list_any q xs) h
any-at q (x ∷ xs) (suc k) d lt h = or_right (q x) (list_any q xs) (any-at q xs k d (omega arith) h)

pub marked-length : (m : Mark) (ts : List Touched) (js : List Job) → m.jobs ≤ length js → length (undone ts (take m.jobs js)) ≡ m.jobs
marked-length m ts js there = let len = length-take m.jobs js in length-undone ts (take m.jobs js) ∙ (omega arith)

pub untouched-same : (m : Mark) (ts : List Touched) (js : List Job) → m.jobs ≤ length js → filter (is_untouched ts) (take (length (undone ts (take m.jobs js))) js) ≡ filter (is_untouched ts) (undone ts (take m.jobs js))
untouched-same m ts js there =
    let p : ℕ → Bool = λ n. not (list_any (λ (t : Touched). n == t.serial) ts) in
    ap (λ k. filter (is_untouched ts) (take k js)) (marked-length m ts js there)
    ∙ sym (undone-kept p ts (λ k d lt. not_from_true _ (any-at (λ (t : Touched). (get_or ts k d).serial == t.serial) ts k d lt (eq-eqb (get_or ts k d).serial (get_or ts k d).serial refl))) (take m.jobs js))

-- what is noted takes the room of one that waits, or of a change
pub noted : (js ks : List Job) (ts us : List Touched) (t : Touched) (f : Job → Job) (m cap cap' w w' room room' changes changes' : ℕ) → IsMarked m (length js) (length ts) cap w room changes → ks ≡ map f js → us ≡ ts ++ t ∷ [] → cap' ≡ cap → w' + room' + changes' + 1 ≤ w + room + changes → IsMarked m (length ks) (length us) cap' w' room' changes'
noted js ks ts us t f m cap cap' w w' room room' changes changes' h jobs touched same less =
    let n : length ks ≡ length js = ap length jobs ∙ length-map js f in
    let k : length us ≡ length ts + 1 = ap length touched ∙ length-append ts (t ∷ []) in
    let there = h.there in
    let fits = h.to_touch in
    record { there = omega arith; to_touch = omega arith }

-- one that comes behind the others takes the room of one more
pub marked-came : (js ks : List Job) (j : Job) (m ts cap w w' room room' changes : ℕ) → IsMarked m (length js) ts cap w room changes → ks ≡ js ++ j ∷ [] → w' + room' ≤ w + room → IsMarked m (length ks) ts cap w' room' changes
marked-came js ks j m ts cap w w' room room' changes h jobs less =
    let n : length ks ≡ length js + 1 = ap length jobs ∙ length-append js (j ∷ []) in
    let there = h.there in
    let fits = h.to_touch in
    record { there = omega arith; to_touch = omega arith }

-- nothing was touched since
pub marked-here : (m : Mark) (ts : List Touched) (js : List Job) → ts ≡ [] → m.jobs ≡ length js → marked_by m ts js ≡ with_jobs m js
marked-here m ts js none here = ap (with_jobs m) (ap (λ us. undone us (take m.jobs js)) none ∙ take_all m.jobs js (omega (arith, here)))
