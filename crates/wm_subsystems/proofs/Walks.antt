-- The walk over the active jobs in the order of their serials.
use Rattle.std.proofs.Common.{◌≡◌, ◌∙◌, ◌&&◌, ◌==◌, ℕ, ◌+◌, ◌<◌, ◌≤◌, Bool, true, false, cond, List, [], ◌∷◌, map, Some, None, nat_le, nat_lt, refl, sym, ap, subst, inl, inr, arith}
use Rattle.std.specs.List.{count_by, find}
use Rattle.std.proofs.lemmas.Bool.Decides.{nat_tests}
use Rattle.std.proofs.lemmas.Bool.{ltb-false, ltb-true, leb-true, and_parts, le-leb}
use Rattle.wm_law.specs.declared.job.Job.{Job}
use Rattle.wm_law.specs.Counts.{is_active}
use Rattle.wm_law.specs.Laws.{IsIn}
use Rattle.wm_law.specs.Sound.{IsIncreasing}
use Rattle.wm_law.specs.Submitting.{serials_end}
use Rattle.wm_law.proofs.Forward.{only_one}
use Rattle.wm_law.proofs.Members.{each_stays, found_among, in_mapped, map_same, of_mapped}
use Rattle.wm_jobs.proofs.Sifted.{count-cons}
use Rattle.wm_jobs.specs.Table.{Table, active_in, serial_of}
use Rattle.wm_subsystems.specs.Walks.{AreInLine, KeepsRest, walked}
use Rattle.wm_law.proofs.Waits.{below_in}

-- what keeps the rest of a table twice, keeps it
pub rest_twice : (s t u : Table) → KeepsRest s t → KeepsRest t u → KeepsRest s u
rest_twice s t u a b = record {
  clock = b.clock ∙ a.clock;
  next_serial = b.next_serial ∙ a.next_serial;
  next_place = b.next_place ∙ a.next_place;
  marked = b.marked ∙ a.marked;
  ready = λ r. b.ready (a.ready r);
}

-- the job is active, and its serial isn't below a number
abbrev pub is_ahead : ℕ → Job → Bool
is_ahead from j = is_active j.phase && nat_le from j.serial

none_by : (t : Bool) (z x : Job) (zs : List Job) (p : Job → Bool) → p z ≡ t → cond t (Some z) (find p zs) ≡ None → (find p zs ≡ None → IsIn x zs → p x ≡ false) → IsIn x (z ∷ zs) → p x ≡ false
none_by true z x zs p e h rest i = absurd (cc)
none_by false z x zs p e h rest (inl same) = ap p same ∙ e
none_by false z x zs p e h rest (inr i) = rest h i

-- where none is found, none passes
none_passes : (p : Job → Bool) (jobs : List Job) (x : Job) → find p jobs ≡ None → IsIn x jobs → p x ≡ false
none_passes p [] x h i = absurd i
none_passes p (z ∷ zs) x h i = none_by (p z) z x zs p refl h (none_passes p zs x) i

not_less : (a b : ℕ) → a < b → b < a → ⊥
not_less a b h k = omega arith

first_by : (t : Bool) (z x y : Job) (zs : List Job) (p : Job → Bool) → p z ≡ t → cond t (Some z) (find p zs) ≡ Some y → ((n : ℕ) → IsIn n (map serial_of zs) → z.serial < n)
    → (find p zs ≡ Some y → IsIn x zs → p x ≡ false) → IsIn x (z ∷ zs) → x.serial < y.serial → p x ≡ false
first_by true z x y zs p e h above rest (inl same) less =
    let it : z ≡ y = cc in
    let both : x.serial ≡ y.serial = ap serial_of (same ∙ it) in
    absurd (omega arith)
first_by true z x y zs p e h above rest (inr i) less =
    let it : z ≡ y = cc in
    let both : z.serial ≡ y.serial = ap serial_of it in
    let behind : z.serial < x.serial = above x.serial (in_mapped serial_of zs x i) in
    absurd (omega arith)
first_by false z x y zs p e h above rest (inl same) less = ap p same ∙ e
first_by false z x y zs p e h above rest (inr i) less = rest h i

-- of jobs in order, none with a lesser serial than the first that passes does so
first_least : (p : Job → Bool) (jobs : List Job) (x y : Job) → IsIncreasing (map serial_of jobs) → find p jobs ≡ Some y → IsIn x jobs → x.serial < y.serial → p x ≡ false
first_least p [] x y line h i less = absurd i
first_least p (z ∷ zs) x y line h i less = first_by (p z) z x y zs p refl h line.0 (λ f k. first_least p zs x y line.1 f k less) i less

-- two changes of each element come to one
pub each_comes : (f g h : Job → Job) (xs : List Job) → ((x : Job) → IsIn x xs → g (f x) ≡ h x) → map g (map f xs) ≡ map h xs
each_comes f g h [] e = refl
each_comes f g h (x ∷ xs) e = cc (e x (inl refl), each_comes f g h xs (λ y i. e y (inr i)))

each_same : (f g : Job → Job) (xs : List Job) → ((x : Job) → IsIn x xs → f x ≡ g x) → map f xs ≡ map g xs
each_same f g [] e = refl
each_same f g (x ∷ xs) e = cc (e x (inl refl), each_same f g xs (λ y i. e y (inr i)))

below_test : (a b : ℕ) → a < b → nat_lt a b ≡ true
below_test a b h = grind (arith, nat_tests)

above_test : (a b : ℕ) → b ≤ a → nat_lt a b ≡ false
above_test a b h = grind (arith, nat_tests)

of_first : (a b : Bool) → (a && b) ≡ false → b ≡ true → a ≡ false
of_first true b h e = cc
of_first false b h e = refl

-- how many jobs pass the stronger test, where one more passes the weaker
module _ (p q : Job → Bool) (y : Job) (weaker : (x : Job) → q x ≡ true → p x ≡ true) where
  count_one : (a b : Bool) → (b ≡ true → a ≡ true) → (m n : ℕ) → m ≤ n → cond b 1 0 + m ≤ cond a 1 0 + n
  count_one true true w m n h = omega arith
  count_one true false w m n h = omega arith
  count_one false true w m n h = let no = w refl in absurd (cc)
  count_one false false w m n h = omega arith

  count_less : (xs : List Job) → count_by q xs ≤ count_by p xs
  count_less [] = omega arith
  count_less (x ∷ xs) =
      let one = count_one (p x) (q x) (weaker x) (count_by q xs) (count_by p xs) (count_less xs) in
      let stronger = count-cons q x xs in
      let weak = count-cons p x xs in
      omega arith

  count_own : (a b : Bool) → a ≡ true → b ≡ false → (m n : ℕ) → m ≤ n → cond b 1 0 + m + 1 ≤ cond a 1 0 + n
  count_own true true e f m n h = absurd (cc)
  count_own true false e f m n h = omega arith
  count_own false b e f m n h = absurd (cc)

  count_other : (a b : Bool) → (b ≡ true → a ≡ true) → (m n : ℕ) → m + 1 ≤ n → cond b 1 0 + m + 1 ≤ cond a 1 0 + n
  count_other true true w m n h = omega arith
  count_other true false w m n h = omega arith
  count_other false true w m n h = let no = w refl in absurd (cc)
  count_other false false w m n h = omega arith

  count_more : (xs : List Job) → IsIn y xs → p y ≡ true → q y ≡ false → count_by q xs + 1 ≤ count_by p xs
  count_more [] i e f = absurd i
  count_more (x ∷ xs) (inl same) e f =
      let one = count_own (p x) (q x) (ap p (sym same) ∙ e) (ap q (sym same) ∙ f) (count_by q xs) (count_by p xs) (count_less xs) in
      let stronger = count-cons q x xs in
      let weak = count-cons p x xs in
      omega arith
  count_more (x ∷ xs) (inr i) e f =
      let one = count_other (p x) (q x) (weaker x) (count_by q xs) (count_by p xs) (count_more xs i e f) in
      let stronger = count-cons q x xs in
      let weak = count-cons p x xs in
      omega arith

count_alike : (p q : Job → Bool) → ((x : Job) → p x ≡ q x) → (xs : List Job) → count_by p xs ≡ count_by q xs
count_alike p q h [] = refl
count_alike p q h (x ∷ xs) = count-cons p x xs ∙ cc (h x, count_alike p q h xs) ∙ sym (count-cons q x xs)

-- each active job is ahead of 0
ahead_first : (b : Bool) (n : ℕ) → (b && nat_le 0 n) ≡ b
ahead_first true n = le-leb 0 n (omega arith)
ahead_first false n = refl

pub all_ahead : (jobs : List Job) → count_by (is_ahead 0) jobs ≡ active_in jobs
all_ahead jobs = count_alike (is_ahead 0) (λ (j : Job). is_active j.phase) (λ j. ahead_first (is_active j.phase) j.serial) jobs

-- a change that keeps serials, and leaves jobs that aren't active
pub record IsWalkable (f : Job → Job) : Type 0 where
  pub serial : (j : Job) → (f j).serial ≡ j.serial
  pub idle : (j : Job) → is_active j.phase ≡ false → f j ≡ j

none_walked : (f : Job → Job) (j : Job) → walked 0 f j ≡ j
none_walked f j = ap (λ (b : Bool). cond b (f j) j) (above_test j.serial 0 (omega arith))

pub walk_begins : (f : Job → Job) (jobs : List Job) → jobs ≡ map (walked 0 f) jobs
walk_begins f jobs = sym (each_stays (walked 0 f) jobs (λ j i. none_walked f j))

-- from a number on, nothing is changed yet; below it, all is
ahead_stays : (from : ℕ) (f : Job → Job) (j : Job) → from ≤ j.serial → walked from f j ≡ j
ahead_stays from f j h = ap (λ (b : Bool). cond b (f j) j) (above_test j.serial from h)

behind_changed : (from : ℕ) (f : Job → Job) (j : Job) → j.serial < from → walked from f j ≡ f j
behind_changed from f j h = ap (λ (b : Bool). cond b (f j) j) (below_test j.serial from h)

module _ (f : Job → Job) (w : IsWalkable f) (next : ℕ) (jobs : List Job) (line : AreInLine next jobs) (from : ℕ) where
  abbrev present : List Job
  present = map (walked from f) jobs

  serial_by : (b : Bool) (j : Job) → (cond b (f j) j).serial ≡ j.serial
  serial_by true j = w.serial j
  serial_by false j = refl

  serial_kept : (j : Job) → (walked from f j).serial ≡ j.serial
  serial_kept j = serial_by (nat_lt j.serial from) j

  in_order : IsIncreasing (map serial_of present)
  in_order = subst IsIncreasing (sym (map_same serial_of (walked from f) serial_kept jobs)) line.increasing

  -- a job ahead stands among the present ones as it was
  stands : (j : Job) → IsIn j jobs → from ≤ j.serial → IsIn j present
  stands j i h = subst (λ (k : Job). IsIn k present) (ahead_stays from f j h) (in_mapped (walked from f) jobs j i)

  module _ (y : Job) (found : find (is_ahead from) present ≡ Some y) where
    passes : (is_active y.phase ≡ true) × (nat_le from y.serial ≡ true)
    passes = and_parts (is_active y.phase) (nat_le from y.serial) (found_among (is_ahead from) present y found).1

    pub is_next_active : is_active y.phase ≡ true
    is_next_active = passes.0

    pub is_from : from ≤ y.serial
    is_from = leb-true from y.serial passes.1

    -- the job that is found is one of the jobs as they were
    pub was_there : IsIn y jobs
    was_there =
        let m = of_mapped (walked from f) jobs y (found_among (is_ahead from) present y found).0 in
        let same : y.serial ≡ m.0.serial = ap serial_of m.2 ∙ serial_kept m.0 in
        let h = is_from in
        let its : from ≤ m.0.serial = omega arith in
        subst (λ (k : Job). IsIn k jobs) (sym (m.2 ∙ ahead_stays from f m.0 its)) m.1

    pub below_end : y.serial < serials_end
    below_end =
        let less = below_in next (map serial_of jobs) y.serial line.given.below (in_mapped serial_of jobs y was_there) in
        let most = line.most in
        omega arith

    -- no active job stands between
    between : (k : Job) → IsIn k jobs → from ≤ k.serial → k.serial < y.serial → is_active k.phase ≡ false
    between k i h less = of_first (is_active k.phase) (nat_le from k.serial) (first_least (is_ahead from) present k y in_order found (stands k i h) less) (le-leb from k.serial h)

    module _ (g : Job → Job) (others : (k : Job) → (k.serial == y.serial) ≡ false → g k ≡ k) (own : g y ≡ f y) where
      differs : (a b : ℕ) → (a < b) → (a == b) ≡ false
      differs a b h = grind (arith, nat_tests)

      differs_above : (a b : ℕ) → (b < a) → (a == b) ≡ false
      differs_above a b h = grind (arith, nat_tests)

      same_as : (a b : ℕ) → (a == b) ≡ true → a ≡ b
      same_as a b h = grind (arith, nat_tests)

      -- behind the walk
      done : (k : Job) → k.serial < from → g (walked from f k) ≡ walked (y.serial + 1) f k
      done k h =
          let far = is_from in
          let less : (f k).serial < y.serial = (let s = w.serial k in omega arith) in
          ap g (behind_changed from f k h) ∙ others (f k) (differs (f k).serial y.serial less) ∙ sym (behind_changed (y.serial + 1) f k (omega arith))

      -- where it is
      passed : (k : Job) → IsIn k jobs → from ≤ k.serial → k.serial < y.serial → g (walked from f k) ≡ walked (y.serial + 1) f k
      passed k i h less =
          ap g (ahead_stays from f k h) ∙ others k (differs k.serial y.serial less) ∙ sym (behind_changed (y.serial + 1) f k (omega arith) ∙ w.idle k (between k i h less))

      told : (k : Job) → IsIn k jobs → k.serial ≡ y.serial → g (walked from f k) ≡ walked (y.serial + 1) f k
      told k i e =
          let its : k ≡ y = only_one jobs line.given.distinct k y i was_there e in
          let far = is_from in
          ap g (ahead_stays from f k (omega arith)) ∙ (ap g its ∙ own ∙ ap f (sym its)) ∙ sym (behind_changed (y.serial + 1) f k (omega arith))

      -- before it
      left : (k : Job) → y.serial < k.serial → g (walked from f k) ≡ walked (y.serial + 1) f k
      left k h =
          let far = is_from in
          ap g (ahead_stays from f k (omega arith)) ∙ others k (differs_above k.serial y.serial h) ∙ sym (ahead_stays (y.serial + 1) f k (omega arith))

      by_place : (k : Job) → IsIn k jobs → (a b c : Bool) → nat_lt k.serial from ≡ a → nat_lt k.serial y.serial ≡ b → (k.serial == y.serial) ≡ c → g (walked from f k) ≡ walked (y.serial + 1) f k
      by_place k i true b c e l s = done k (ltb-true k.serial from e)
      by_place k i false true c e l s = passed k i (ltb-false k.serial from e) (ltb-true k.serial y.serial l)
      by_place k i false false true e l s = told k i (same_as k.serial y.serial s)
      by_place k i false false false e l s = left k (grind (arith, nat_tests))

      -- the job that is found is changed, and the walk goes on behind it
      pub walk_goes_on : map g present ≡ map (walked (y.serial + 1) f) jobs
      walk_goes_on = each_comes (walked from f) g (walked (y.serial + 1) f) jobs (λ k i. by_place k i (nat_lt k.serial from) (nat_lt k.serial y.serial) (k.serial == y.serial) refl refl refl)

    further : (k : Job) (b : Bool) → is_active k.phase ≡ b → (b && nat_le (y.serial + 1) k.serial) ≡ true → (b && nat_le from k.serial) ≡ true
    further k true a h = le-leb from k.serial (let more = leb-true (y.serial + 1) k.serial h in let far = is_from in omega arith)
    further k false a h = h

    not_itself : (b : Bool) → (b && nat_le (y.serial + 1) y.serial) ≡ false
    not_itself true = grind (arith, nat_tests)
    not_itself false = refl

    -- and one job less is ahead
    pub fewer_ahead : count_by (is_ahead (y.serial + 1)) jobs + 1 ≤ count_by (is_ahead from) jobs
    fewer_ahead = count_more (is_ahead from) (is_ahead (y.serial + 1)) y (λ k. further k (is_active k.phase) refl) jobs was_there (found_among (is_ahead from) present y found).1 (not_itself (is_active y.phase))

  ended_by : (k : Job) → IsIn k jobs → find (is_ahead from) present ≡ None → (b : Bool) → nat_lt k.serial from ≡ b → walked from f k ≡ f k
  ended_by k i none true e = behind_changed from f k (ltb-true k.serial from e)
  ended_by k i none false e =
      let h = ltb-false k.serial from e in
      let idle = of_first (is_active k.phase) (nat_le from k.serial) (none_passes (is_ahead from) present k none (stands k i h)) (le-leb from k.serial h) in
      ahead_stays from f k h ∙ sym (w.idle k idle)

  -- where none is found, all are changed
  pub walk_ends : find (is_ahead from) present ≡ None → present ≡ map f jobs
  walk_ends none = each_same (walked from f) f jobs (λ k i. ended_by k i none (nat_lt k.serial from) refl)
