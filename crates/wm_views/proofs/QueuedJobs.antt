-- The walk over the jobs that wait on a queue goes over each of them in its turn.
use Rattle.std.proofs.Common.{◌≡◌, ◌∙◌, ◌&&◌, ◌||◌, ◌==◌, ◌++◌, not, ℕ, ◌<◌, nat_lt, Bool, true, false, cond, List, [], ◌∷◌, length, append-nil, append_assoc, map, filter, Option, Some, None, option_map, refl, sym, ap, subst, inl, inr, arith, Contains}
use Rattle.std.specs.List.{cons_option}
use Rattle.std.specs.Ordering.{nat_cmp}
use Rattle.std.proofs.lemmas.Bool.Decides.{nat_tests}
use Rattle.std.proofs.lemmas.Bool.{not-true, and_from, and_parts}
use Rattle.wm_base.specs.declared.qname.QName.{QName}
use Rattle.wm_desc.specs.Sorted.{IsSortedOnce}
use Rattle.wm_desc.specs.Table.{same_qname}
use Rattle.wm_desc.proofs.Tables.{one_name}
use Rattle.wm_law.specs.declared.job.Job.{Job}
use Rattle.wm_law.specs.Counts.{is_waiting}
use Rattle.wm_law.specs.Laws.{IsIn}
use Rattle.wm_law.specs.Queues.{is_on_queue, waits_on}
use Rattle.wm_law.proofs.Members.{left_same}
use Rattle.wm_ordered.proofs.Members.{Contains-cases, Contains-filter, Contains-from_filter, Contains-nil}
use Rattle.wm_ordered.specs.declared.waiter.Waiter.{Waiter}
use Rattle.wm_ordered.specs.Waiting.{HavePlaces, is_on, is_before, first_on, next_on}
use Rattle.wm_ordered.proofs.Firsts.{first_on-least}
use Rattle.wm_ordered.proofs.Lines.{first_on-None, first_on-Some}
use Rattle.wm_pick.specs.Parts.{waiter_on, waiter_of, waiters}
use Rattle.wm_pick.proofs.LentHeads.{in_waiters}
use Rattle.wm_jobs.specs.Table.{serial_of}
use Rattle.wm_views.specs.declared.shown.JobLine.{JobLine}
use Rattle.wm_views.specs.Lines.{Placed, job_line, placed}
use Rattle.wm_views.specs.Queued.{queued_jobs}
use Rattle.wm_views.specs.Ranks.{turn_ranks}
use Rattle.wm_views.specs.Sorted.{sorted}
use Rattle.wm_views.specs.Views.{by_turn}
use Rattle.wm_views.proofs.Selected.{one_then}

-- one that waits comes from a job
of_option : (o : Option Waiter) (k : Job) (ks : List Job) (w : Waiter) → waiter_of k ≡ o → Contains (cons_option o (waiters ks)) w
    → (Contains (waiters ks) w → (j : Job) × IsIn j ks × (waiter_of j ≡ Some w))
    → (j : Job) × IsIn j (k ∷ ks) × (waiter_of j ≡ Some w)
of_option None k ks w is there rest = let j = rest there in (j.0, inr j.1, j.2)
of_option (Some v) k ks w is there rest =
    elim (Contains-cases v w (waiters ks) there) [
      | inl same ↦ (k, inl refl, is ∙ ap (λ (u : Waiter). Some u) same)
      | inr later ↦ (let j = rest later in (j.0, inr j.1, j.2))
    ]

pub of_waiters : (jobs : List Job) (w : Waiter) → Contains (waiters jobs) w → (j : Job) × IsIn j jobs × (waiter_of j ≡ Some w)
of_waiters [] w there = absurd (Contains-nil w there)
of_waiters (k ∷ ks) w there = of_option (waiter_of k) k ks w refl there (of_waiters ks w)

same_truth : (a b : Bool) → (a ≡ true → b ≡ true) → (b ≡ true → a ≡ true) → a ≡ b
same_truth true b h k = sym (h refl)
same_truth false true h k = k refl
same_truth false false h k = refl

never : (b : Bool) → (b ≡ true → ⊥) → b ≡ false
never true h = absurd (h refl)
never false h = refl

-- of two places on a queue
itself : (p m : ℕ) → (nat_lt p p || (p == p && nat_lt m m)) ≡ false
itself p m = grind (arith, nat_tests)

one_of_two : (p q m n : ℕ) → (nat_lt q p || (q == p && nat_lt n m)) ≡ false → (n ≡ m → ⊥) → (nat_lt p q || (p == q && nat_lt m n)) ≡ true
one_of_two p q m n h k = grind (arith, nat_tests)

only_one : (p q m n : ℕ) → (nat_lt p q || (p == q && nat_lt m n)) ≡ true → (nat_lt q p || (q == p && nat_lt n m)) ≡ false
only_one p q m n h = grind (arith, nat_tests)

carried : (a b c d e f : ℕ) → (nat_lt a c || (a == c && nat_lt b d)) ≡ true → (nat_lt e c || (e == c && nat_lt f d)) ≡ false → (nat_lt a e || (a == e && nat_lt b f)) ≡ true
carried a b c d e f h k = grind (arith, nat_tests)

both_ways : (b s r : Bool) → (r ≡ true → s ≡ false) → ((b && not s) && r) ≡ (b && r)
both_ways false s r h = refl
both_ways true true true h = absurd (cc (h refl))
both_ways true true false h = refl
both_ways true false r h = refl

module _ (queue : QName) where
  its_by : (x : Job) (b : Bool) (o : Option QName) → (b && is_on_queue queue o) ≡ true → (q : QName) × (cond b (option_map (λ p. waiter_on p x) o) None ≡ Some (waiter_on q x)) × (same_qname q queue ≡ true)
  its_by x true None h = absurd (cc h)
  its_by x true (Some q) h = (q, refl, h)
  its_by x false o h = absurd (cc h)

  -- a job that waits on the queue is one of those on it
  its_waiter : (x : Job) → waits_on queue x ≡ true → (q : QName) × (waiter_of x ≡ Some (waiter_on q x)) × (same_qname q queue ≡ true)
  its_waiter x h = its_by x (is_waiting x.phase) x.jobq h

  its_job_by : (x : Job) (w : Waiter) (b : Bool) (o : Option QName) → cond b (option_map (λ p. waiter_on p x) o) None ≡ Some w → is_on queue w ≡ true → ((b && is_on_queue queue o) ≡ true) × (waiter_on w.jobq x ≡ w)
  its_job_by x w true None is on = absurd (cc is)
  its_job_by x w true (Some q) is on =
      let same : waiter_on q x ≡ w = cc is in
      (ap (is_on queue) same ∙ on, sym (ap (λ (v : Waiter). waiter_on v.jobq x) same) ∙ same)
  its_job_by x w false o is on = absurd (cc is)

  its_job : (x : Job) (w : Waiter) → waiter_of x ≡ Some w → is_on queue w ≡ true → (waits_on queue x ≡ true) × (waiter_on w.jobq x ≡ w)
  its_job x w is on = its_job_by x w (is_waiting x.phase) x.jobq is on

  -- whether a job comes from the next on
  abbrev pub upcoming : Option Waiter → Job → Bool
  upcoming None j = false
  upcoming (Some w) j = waits_on queue j && not (is_before (waiter_on queue j) w)

  -- the jobs behind one of the queue, or all
  abbrev behind : Option Waiter → List Waiter → List Waiter
  behind None ws = ws
  behind (Some l) ws = filter (is_before l) ws

  abbrev left : Option Waiter → Job → Bool
  left None j = waits_on queue j
  left (Some l) j = waits_on queue j && is_before l (waiter_on queue j)

  in_behind : (after : Option Waiter) (jobs : List Job) (x : Job) → IsIn x jobs → left after x ≡ true → (q : QName) × Contains (behind after (waiters jobs)) (waiter_on q x) × (same_qname q queue ≡ true)
  in_behind None jobs x i h = let its = its_waiter x h in (its.0, in_waiters jobs x (waiter_on its.0 x) i its.1, its.2)
  in_behind (Some l) jobs x i h =
      let parts = and_parts (waits_on queue x) (is_before l (waiter_on queue x)) h in
      let its = its_waiter x parts.0 in
      (its.0, Contains-filter (is_before l) (waiters jobs) (waiter_on its.0 x) (in_waiters jobs x (waiter_on its.0 x) i its.1) parts.1, its.2)

  still_left : (after : Option Waiter) (jobs : List Job) (w : Waiter) (x : Job) → first_on queue (behind after (waiters jobs)) ≡ Some w → waits_on queue x ≡ true → is_before (waiter_on queue x) w ≡ false → left after x ≡ true
  still_left None jobs w x found waits not_before = waits
  still_left (Some l) jobs w x found waits not_before =
      let above = (Contains-from_filter (is_before l) (waiters jobs) w (first_on-Some queue (filter (is_before l) (waiters jobs)) w found).0).1 in
      and_from (waits_on queue x) (is_before l (waiter_on queue x)) waits (carried l.pty l.place w.pty w.place x.pty x.place above not_before)

  -- what is left comes from the next on
  next_left : (after next : Option Waiter) (jobs : List Job) → first_on queue (behind after (waiters jobs)) ≡ next → (x : Job) → IsIn x jobs → left after x ≡ upcoming next x
  next_left after None jobs found x i =
      never (left after x) (λ h.
      let its = in_behind after jobs x i h in
      let none = first_on-None queue (behind after (waiters jobs)) found in
      Contains-nil (waiter_on its.0 x) (subst (λ (ws : List Waiter). Contains ws (waiter_on its.0 x)) none (Contains-filter (is_on queue) (behind after (waiters jobs)) (waiter_on its.0 x) its.1 its.2)))
  next_left after (Some w) jobs found x i = same_truth (left after x) (upcoming (Some w) x) there back
    where
      waits_left : (o : Option Waiter) → left o x ≡ true → waits_on queue x ≡ true
      waits_left None h = h
      waits_left (Some l) h = (and_parts (waits_on queue x) (is_before l (waiter_on queue x)) h).0

      there : left after x ≡ true → upcoming (Some w) x ≡ true
      there h =
          let its = in_behind after jobs x i h in
          let least : is_before (waiter_on queue x) w ≡ false = first_on-least queue (behind after (waiters jobs)) w found (waiter_on its.0 x) its.1 its.2 in
          and_from (waits_on queue x) (not (is_before (waiter_on queue x) w)) (waits_left after h) (ap not least)

      back : upcoming (Some w) x ≡ true → left after x ≡ true
      back h =
          let parts = and_parts (waits_on queue x) (not (is_before (waiter_on queue x) w)) h in
          still_left after jobs w x found parts.0 (not-true (is_before (waiter_on queue x) w) parts.1)

  -- all come from the first on
  pub from_first : (jobs : List Job) → filter (waits_on queue) jobs ≡ filter (upcoming (first_on queue (waiters jobs))) jobs
  from_first jobs = left_same (upcoming (first_on queue (waiters jobs))) (waits_on queue) jobs (next_left None (first_on queue (waiters jobs)) jobs refl)

  -- where there is no next, none comes
  pub none_comes : (jobs : List Job) → filter (upcoming None) jobs ≡ []
  none_comes [] = refl
  none_comes (x ∷ xs) = none_comes xs

  -- those from the next on, in their turn
  abbrev pub in_turn : ℕ → List Job → Option Waiter → List Placed
  in_turn clock jobs next = sorted by_turn (map (placed clock) (filter (upcoming next) jobs))

  module _ (clock : ℕ) (jobs : List Job) (order : IsSortedOnce serial_of nat_cmp jobs) (places : HavePlaces (waiters jobs)) where
    module _ (j : Job) (i : IsIn j jobs) (q : QName) (is : waiter_of j ≡ Some (waiter_on q j)) (on : same_qname q queue ≡ true) where
      waits : waits_on queue j ≡ true
      waits = (its_job j (waiter_on q j) is on).0

      comes : upcoming (Some (waiter_on q j)) j ≡ true
      comes = and_from (waits_on queue j) (not (is_before (waiter_on queue j) (waiter_on q j))) waits (ap not (itself j.pty j.place))

      -- one of another serial has another place
      apart : (x : Job) → IsIn x jobs → waits_on queue x ≡ true → (j.serial ≡ x.serial → ⊥) → x.place ≡ j.place → ⊥
      apart x k h differ same =
          let its = its_waiter x h in
          let one = places (waiter_on its.0 x) (waiter_on q j) (in_waiters jobs x (waiter_on its.0 x) k its.1) (in_waiters jobs j (waiter_on q j) i is) same in
          differ (sym (ap (λ (w : Waiter). w.serial) one))

      goes_first : (x : Job) → IsIn x jobs → (j.serial ≡ x.serial → ⊥) → upcoming (Some (waiter_on q j)) x ≡ true → by_turn (placed clock j) (placed clock x) ≡ true
      goes_first x k differ h =
          let parts = and_parts (waits_on queue x) (not (is_before (waiter_on queue x) (waiter_on q j))) h in
          one_of_two j.pty x.pty j.place x.place (not-true (is_before (waiter_on queue x) (waiter_on q j)) parts.1) (apart x k parts.0 differ)

      still_comes : (next : Option Waiter) → first_on queue (filter (is_before (waiter_on q j)) (waiters jobs)) ≡ next → (x : Job) → IsIn x jobs → (upcoming (Some (waiter_on q j)) x && by_turn (placed clock j) (placed clock x)) ≡ upcoming next x
      still_comes next found x k =
          both_ways (waits_on queue x) (is_before (waiter_on queue x) (waiter_on q j)) (by_turn (placed clock j) (placed clock x)) (only_one j.pty x.pty j.place x.place)
          ∙ next_left (Some (waiter_on q j)) next jobs found x k

      its_turn : (next : Option Waiter) → next_on (waiter_on q j) (waiters jobs) ≡ next → in_turn clock jobs (Some (waiter_on q j)) ≡ placed clock j ∷ in_turn clock jobs next
      its_turn next found =
          let same : q ≡ queue = one_name q queue on in
          let here : first_on queue (filter (is_before (waiter_on q j)) (waiters jobs)) ≡ next = ap (λ (n : QName). first_on n (filter (is_before (waiter_on q j)) (waiters jobs))) (sym same) ∙ found in
          one_then serial_of (placed clock) by_turn turn_ranks (upcoming (Some (waiter_on q j))) j (upcoming next) jobs order i comes goes_first (still_comes next here)

    -- those from one of the queue on are its job, and those from the next on
    one_comes : (next : Option Waiter) (v : Waiter) (j : Job) → IsIn j jobs → waiter_of j ≡ Some v → is_on queue v ≡ true → next_on v (waiters jobs) ≡ next → in_turn clock jobs (Some v) ≡ placed clock j ∷ in_turn clock jobs next
    one_comes next v j i is on found =
        subst (λ (u : Waiter). waiter_of j ≡ Some u → is_on queue u ≡ true → next_on u (waiters jobs) ≡ next → in_turn clock jobs (Some u) ≡ placed clock j ∷ in_turn clock jobs next) (its_job j v is on).1
        (λ e o f. its_turn j i v.jobq e o next f) is on found

  -- the next is one of those on the queue
  abbrev Stands : List Job → Option Waiter → Type 0
  Stands jobs None = Unit {0}
  Stands jobs (Some w) = Contains (waiters jobs) w × (is_on queue w ≡ true)

  stands_by : (jobs : List Job) (ws : List Waiter) (next : Option Waiter) → ((w : Waiter) → Contains ws w → Contains (waiters jobs) w) → first_on queue ws ≡ next → Stands jobs next
  stands_by jobs ws None among found = tt
  stands_by jobs ws (Some w) among found = let its = first_on-Some queue ws w found in (among w its.0, its.1)

  -- the walk has come to the next, with the lines of those before it
  pub record IsWalked (clock : ℕ) (jobs : List Job) (next : Option Waiter) (lines : List JobLine) : Type 0 where
    pub stands : Stands jobs next
    pub lines_are : queued_jobs queue clock jobs ≡ lines ++ map (λ p. p.line) (in_turn clock jobs next)

  pub walk_begins : (clock : ℕ) (jobs : List Job) (next : Option Waiter) → next ≡ first_on queue (waiters jobs) → IsWalked clock jobs next []
  walk_begins clock jobs next found = record {
    stands = stands_by jobs (waiters jobs) next (λ w there. there) (sym found);
    lines_are = ap (λ (l : List Job). map (λ (p : Placed). p.line) (sorted by_turn (map (placed clock) l)))
        (from_first jobs ∙ ap (λ (o : Option Waiter). filter (upcoming o) jobs) (sym found));
  }

  -- the next has a job
  pub walk_finds : (clock : ℕ) (jobs : List Job) (next : Option Waiter) (lines : List JobLine) (v : Waiter) → IsWalked clock jobs next lines → next ≡ Some v → (j : Job) × IsIn j jobs × (j.serial ≡ v.serial) × (waiter_of j ≡ Some v) × (is_on queue v ≡ true)
  walk_finds clock jobs next lines v walked at =
      let stands : Stands jobs (Some v) = subst (Stands jobs) at walked.stands in
      let j = of_waiters jobs v stands.0 in
      (j.0, j.1, ap (λ (w : Waiter). w.serial) (its_job j.0 v j.2 stands.1).1, j.2, stands.1)

  none_then : (clock : ℕ) (jobs : List Job) → in_turn clock jobs None ≡ []
  none_then clock jobs = ap (λ (l : List Job). sorted by_turn (map (placed clock) l)) (none_comes jobs)

  pub walk_ends : (clock : ℕ) (jobs : List Job) (next : Option Waiter) (lines : List JobLine) → IsWalked clock jobs next lines → next ≡ None → lines ≡ queued_jobs queue clock jobs
  walk_ends clock jobs next lines walked at =
      sym (walked.lines_are
      ∙ ap (λ (o : Option Waiter). lines ++ map (λ (p : Placed). p.line) (in_turn clock jobs o)) at
      ∙ ap (λ (l : List Placed). lines ++ map (λ (p : Placed). p.line) l) (none_then clock jobs)
      ∙ append-nil lines)

  module _ (clock : ℕ) (jobs : List Job) (order : IsSortedOnce serial_of nat_cmp jobs) (places : HavePlaces (waiters jobs)) (next : Option Waiter) (lines : List JobLine) (v : Waiter) (walked : IsWalked clock jobs next lines) (at : next ≡ Some v) (later : Option Waiter) (found : later ≡ next_on v (waiters jobs)) where
    -- the next and those behind it
    one_then_later : (j : Job) → IsIn j jobs → waiter_of j ≡ Some v → is_on queue v ≡ true → in_turn clock jobs next ≡ placed clock j ∷ in_turn clock jobs later
    one_then_later j i is on = ap (in_turn clock jobs) at ∙ one_comes clock jobs order places later v j i is on (sym found)

    pub walk_shortens : length (in_turn clock jobs later) < length (in_turn clock jobs next)
    walk_shortens =
        let j = walk_finds clock jobs next lines v walked at in
        subst (λ (l : List Placed). length (in_turn clock jobs later) < length l) (sym (one_then_later j.0 j.1 j.3 j.4)) (omega arith)

    pub walk_goes_on : (o : Option Job) (k : Job) → ((j : Job) → IsIn j jobs → j.serial ≡ v.serial → o ≡ Some j) → o ≡ Some k → IsWalked clock jobs later (lines ++ job_line clock k ∷ [])
    walk_goes_on o k one is =
        let j = walk_finds clock jobs next lines v walked at in
        let some : ◌≡◌ {A = Option Job} (Some j.0) (Some k) = sym (one j.0 j.1 j.2) ∙ is in
        let same : j.0 ≡ k = cc some in
        let queue_is : v.jobq ≡ queue = one_name v.jobq queue j.4 in
        record {
          stands = stands_by jobs (filter (is_before v) (waiters jobs)) later (λ w there. (Contains-from_filter (is_before v) (waiters jobs) w there).0)
              (ap (λ (n : QName). first_on n (filter (is_before v) (waiters jobs))) (sym queue_is) ∙ sym found);
          lines_are = walked.lines_are
              ∙ ap (λ (l : List Placed). lines ++ map (λ (p : Placed). p.line) l) (one_then_later j.0 j.1 j.3 j.4)
              ∙ ap (λ (i : Job). lines ++ job_line clock i ∷ map (λ (p : Placed). p.line) (in_turn clock jobs later)) same
              ∙ sym (append_assoc lines (job_line clock k ∷ []) (map (λ (p : Placed). p.line) (in_turn clock jobs later)));
        }
