-- The next moment that Pending tells is the soonest above the clock of those that it looks at.
use Rattle.std.proofs.Common.{◌≡◌, ◌⊎◌, ℕ, ◌<◌, ◌≤◌, Bool, true, false, cond, List, [], ◌∷◌, fold, Option, Some, None, nat_lt, min, refl, sym, ap, subst, ◌∙◌, inl, inr, arith}
use Rattle.std.proofs.lemmas.Bool.{and_from, and_parts, cases_lt}
use Rattle.std.proofs.lemmas.Bool.Decides.{nat_tests}
use Rattle.wm_base.proofs.Tests.{Some-injective}
use Rattle.wm_law.specs.declared.job.Job.{Job}
use Rattle.wm_law.specs.declared.state.State.{State}
use Rattle.wm_law.specs.declared.state.Sbs.{Sbs}
use Rattle.wm_law.specs.Counts.{is_waiting}
use Rattle.wm_law.specs.Laws.{IsIn}
use Rattle.wm_law.specs.NextMoment.{EndsThen, IsDueThen, IsLookedAt, IsSoonest, IsWishedThen, NextMomentIsSoonest}
use Rattle.wm_law.specs.Pending.{active_moment, ahead, is_ahead, next_due, next_ending, next_wish, sooner, soonest}
use Rattle.wm_law.specs.Settling.{sbs_moment}

-- the same property in other words
other_words : (P Q : ℕ → Type 0) (o : Option ℕ) → ((m : ℕ) → P m → Q m) → ((m : ℕ) → Q m → P m) → IsSoonest P o → IsSoonest Q o
other_words P Q None there back h = λ m q. h m (back m q)
other_words P Q (Some n) there back h = (there n h.0, λ m q. h.1 m (back m q))

module _ (P Q : ℕ → Type 0) where
  abbrev Either : ℕ → Type 0
  Either m = P m ⊎ Q m

  not_right : ((m : ℕ) → Q m → ⊥) → (m : ℕ) → Either m → P m
  not_right none m (inl p) = p
  not_right none m (inr q) = absurd (none m q)

  not_left : ((m : ℕ) → P m → ⊥) → (m : ℕ) → Either m → Q m
  not_left none m (inl p) = absurd (none m p)
  not_left none m (inr q) = q

  at_least : (l m least : ℕ) → least ≤ l → least ≤ m → ((n : ℕ) → P n → l ≤ n) → ((n : ℕ) → Q n → m ≤ n) → (n : ℕ) → Either n → least ≤ n
  at_least l m least a b h k n (inl p) = let low = h n p in omega arith
  at_least l m least a b h k n (inr q) = let low = k n q in omega arith

  of_two : (l m : ℕ) → (l < m) ⊎ (m ≤ l) → IsSoonest P (Some l) → IsSoonest Q (Some m) → IsSoonest Either (Some (min l m))
  of_two l m (inl less) h k =
      let its : l ≡ min l m = omega arith in
      (subst Either its (inl h.0), at_least l m (min l m) (omega arith) (omega arith) h.1 k.1)
  of_two l m (inr least) h k =
      let its : m ≡ min l m = omega arith in
      (subst Either its (inr k.0), at_least l m (min l m) (omega arith) (omega arith) h.1 k.1)

  -- the sooner of two moments has the one property or the other
  pub of_both : (a b : Option ℕ) → IsSoonest P a → IsSoonest Q b → IsSoonest Either (soonest a b)
  of_both a None h k = other_words P Either a (λ m p. inl p) (not_right k) h
  of_both None (Some m) h k = other_words Q Either (Some m) (λ n q. inr q) (not_left h) k
  of_both (Some l) (Some m) h k = of_two l m (cases_lt l m) h k

itself : (o : Option ℕ) → IsSoonest (λ m. o ≡ Some m) o
itself None = λ m e. absurd (cc)
itself (Some n) = (refl, λ m e. (let same = Some-injective n m e in omega arith))

-- the soonest of the moments of a list
module _ {X : Type 0} (moment : X → Option ℕ) where
  abbrev Among : List X → ℕ → Type 0
  Among xs m = (x : X) × IsIn x xs × (moment x ≡ Some m)

  module _ (P : ℕ → Type 0) (x : X) (xs : List X) (m : ℕ) where
    there : (P m ⊎ (moment x ≡ Some m)) ⊎ Among xs m → P m ⊎ Among (x ∷ xs) m
    there (inl (inl p)) = inl p
    there (inl (inr e)) = inr (x, inl refl, e)
    there (inr a) = inr (a.0, inr a.1, a.2)

    back_at : (y : X) → IsIn y (x ∷ xs) → moment y ≡ Some m → (P m ⊎ (moment x ≡ Some m)) ⊎ Among xs m
    back_at y (inl same) e = inl (inr (ap moment (sym same) ∙ e))
    back_at y (inr i) e = inr (y, i, e)

    back : P m ⊎ Among (x ∷ xs) m → (P m ⊎ (moment x ≡ Some m)) ⊎ Among xs m
    back (inl p) = inl (inl p)
    back (inr a) = back_at a.0 a.1 a.2

  none_among : (P : ℕ → Type 0) (m : ℕ) → P m ⊎ Among [] m → P m
  none_among P m (inl p) = p
  none_among P m (inr a) = absurd a.1

  soonest_from : (P : ℕ → Type 0) (xs : List X) (least : Option ℕ) → IsSoonest P least → IsSoonest (λ m. P m ⊎ Among xs m) (fold (λ o x. soonest o (moment x)) least xs)
  soonest_from P [] least h = other_words P (λ m. P m ⊎ Among [] m) least (λ m p. inl p) (none_among P) h
  soonest_from P (x ∷ xs) least h =
      let more = soonest_from (λ m. P m ⊎ (moment x ≡ Some m)) xs (soonest least (moment x)) (of_both P (λ m. moment x ≡ Some m) least (moment x) h (itself (moment x))) in
      other_words (λ m. (P m ⊎ (moment x ≡ Some m)) ⊎ Among xs m) (λ m. P m ⊎ Among (x ∷ xs) m) (fold (λ o x. soonest o (moment x)) (soonest least (moment x)) xs) (there P x xs) (back P x xs) more

  others : (xs : List X) (m : ℕ) → ⊥ ⊎ Among xs m → Among xs m
  others xs m (inl never) = absurd never
  others xs m (inr a) = a

  pub soonest_of : (xs : List X) → IsSoonest (Among xs) (fold (λ o x. soonest o (moment x)) None xs)
  soonest_of xs = other_words (λ m. ⊥ ⊎ Among xs m) (Among xs) (fold (λ o x. soonest o (moment x)) None xs) (others xs) (λ m a. inr a) (soonest_from (λ m. ⊥) xs None (λ m never. never))

-- a moment that is above the clock
ahead_by : (clock n m : ℕ) (b : Bool) → nat_lt clock n ≡ b → cond b (Some n) None ≡ Some m → (clock < m) × (Some n ≡ Some m)
ahead_by clock n m true e h =
    let same = Some-injective n m h in
    let less : clock < n = grind (arith, nat_tests) in
    (omega arith, h)
ahead_by clock n m false e h = absurd (cc)

ahead_is : (clock : ℕ) (o : Option ℕ) (m : ℕ) → ahead clock o ≡ Some m → (clock < m) × (o ≡ Some m)
ahead_is clock None m h = absurd (cc)
ahead_is clock (Some n) m h = ahead_by clock n m (nat_lt clock n) refl h

is_later : (clock m : ℕ) → clock < m → nat_lt clock m ≡ true
is_later clock m less = grind (arith, nat_tests)

ahead_of : (clock : ℕ) (o : Option ℕ) (m : ℕ) → clock < m → o ≡ Some m → ahead clock o ≡ Some m
ahead_of clock o m less e = ap (ahead clock) e ∙ ap (λ (b : Bool). cond b (Some m) None) (is_later clock m less)

module _ (s : State) where
  abbrev Later : (ℕ → Type 0) → ℕ → Type 0
  Later Has m = (s.clock < m) × Has m

  -- the wishes of active jobs
  wish_soonest : IsSoonest (Later (IsWishedThen s)) (next_wish s)
  wish_soonest =
      other_words (Among (λ (j : Job). ahead s.clock (active_moment j)) s.jobs) (Later (IsWishedThen s)) (next_wish s)
      (λ m a. (let h = ahead_is s.clock (active_moment a.0) m a.2 in (h.0, (a.0, a.1, h.1))))
      (λ m l. (l.1.0, l.1.1, ahead_of s.clock (active_moment l.1.0) m l.0 l.1.2))
      (soonest_of (λ (j : Job). ahead s.clock (active_moment j)) s.jobs)

  -- the ending subsystems
  ending_soonest : IsSoonest (Later (EndsThen s)) (next_ending s)
  ending_soonest =
      other_words (Among (λ (b : Sbs). ahead s.clock (sbs_moment b.phase)) s.started) (Later (EndsThen s)) (next_ending s)
      (λ m a. (let h = ahead_is s.clock (sbs_moment a.0.phase) m a.2 in (h.0, (a.0, a.1, h.1))))
      (λ m l. (l.1.0, l.1.1, ahead_of s.clock (sbs_moment l.1.0.phase) m l.0 l.1.2))
      (soonest_of (λ (b : Sbs). ahead s.clock (sbs_moment b.phase)) s.started)

  -- the moment at which a Waiting job is due, where that is above the clock
  abbrev due_ahead : Job → Option ℕ
  due_ahead j = cond (is_ahead s j) (Some j.due) None

  step_same : (b : Bool) (o : Option ℕ) (due : ℕ) → cond b (sooner o due) o ≡ soonest o (cond b (Some due) None)
  step_same true o due = refl
  step_same false o due = refl

  folds_same : (jobs : List Job) (o : Option ℕ) → fold (λ o j. soonest o (due_ahead j)) o jobs ≡ fold (λ least j. cond (is_ahead s j) (sooner least j.due) least) o jobs
  folds_same [] o = refl
  folds_same (j ∷ jobs) o =
      ap (λ (p : Option ℕ). fold (λ o j. soonest o (due_ahead j)) p jobs) (sym (step_same (is_ahead s j) o j.due))
      ∙ folds_same jobs (cond (is_ahead s j) (sooner o j.due) o)

  due_by : (j : Job) (m : ℕ) (b : Bool) → is_ahead s j ≡ b → cond b (Some j.due) None ≡ Some m → (s.clock < m) × (is_waiting j.phase ≡ true) × (j.due ≡ m)
  due_by j m true e h =
      let parts = and_parts (is_waiting j.phase) (nat_lt s.clock j.due) e in
      let same = Some-injective j.due m h in
      let test = parts.1 in
      let less : s.clock < j.due = grind (arith, nat_tests) in
      (omega arith, parts.0, same)
  due_by j m false e h = absurd (cc)

  due_of : (j : Job) (m : ℕ) → s.clock < m → is_waiting j.phase ≡ true → j.due ≡ m → due_ahead j ≡ Some m
  due_of j m less waits its =
      let later : nat_lt s.clock j.due ≡ true = is_later s.clock j.due (omega arith) in
      ap (λ (b : Bool). cond b (Some j.due) None) (and_from (is_waiting j.phase) (nat_lt s.clock j.due) waits later)
      ∙ ap (λ (n : ℕ). Some n) its

  -- the Waiting jobs
  due_soonest : IsSoonest (Later (IsDueThen s)) (next_due s)
  due_soonest =
      subst (IsSoonest (Later (IsDueThen s))) (folds_same s.jobs None)
      (other_words (Among due_ahead s.jobs) (Later (IsDueThen s)) (fold (λ o j. soonest o (due_ahead j)) None s.jobs)
      (λ m a. (let h = due_by a.0 m (is_ahead s a.0) refl a.2 in (h.0, (a.0, a.1, h.1, h.2))))
      (λ m l. (l.1.0, l.1.1, due_of l.1.0 m l.0 l.1.2 l.1.3))
      (soonest_of due_ahead s.jobs))

  looked_at : (m : ℕ) → (Later (IsDueThen s) m ⊎ Later (IsWishedThen s) m) ⊎ Later (EndsThen s) m → IsLookedAt s m
  looked_at m (inl (inl h)) = (h.0, inl (inl h.1))
  looked_at m (inl (inr h)) = (h.0, inl (inr h.1))
  looked_at m (inr h) = (h.0, inr h.1)

  one_of_three : (m : ℕ) → s.clock < m → (IsDueThen s m ⊎ IsWishedThen s m) ⊎ EndsThen s m → (Later (IsDueThen s) m ⊎ Later (IsWishedThen s) m) ⊎ Later (EndsThen s) m
  one_of_three m less (inl (inl h)) = inl (inl (less, h))
  one_of_three m less (inl (inr h)) = inl (inr (less, h))
  one_of_three m less (inr h) = inr (less, h)

pub next_moment_is_soonest : NextMomentIsSoonest
next_moment_is_soonest s =
    let first = of_both (Later s (IsDueThen s)) (Later s (IsWishedThen s)) (next_due s) (next_wish s) (due_soonest s) (wish_soonest s) in
    let all = of_both (λ m. Later s (IsDueThen s) m ⊎ Later s (IsWishedThen s) m) (Later s (EndsThen s)) (soonest (next_due s) (next_wish s)) (next_ending s) first (ending_soonest s) in
    other_words (λ m. (Later s (IsDueThen s) m ⊎ Later s (IsWishedThen s) m) ⊎ Later s (EndsThen s) m) (IsLookedAt s) (soonest (soonest (next_due s) (next_wish s)) (next_ending s)) (looked_at s) (λ m l. one_of_three s m l.0 l.1) all
