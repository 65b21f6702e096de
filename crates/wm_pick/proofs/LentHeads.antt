-- The head by the jobs that wait is the head by the jobs, and what is lent is orderly.
use Rattle.std.proofs.Common.{◌≡◌, ◌⊎◌, ℕ, suc, ◌≤◌, ◌==◌, ◌&&◌, not, Bool, true, false, cond, List, [], ◌∷◌, Contains, Option, Some, None, MatchOption, filter, fold, nat_le, nat_lt, option_map, refl, sym, ap, subst, ◌∙◌, inl, inr, arith}
use Rattle.std.specs.List.{cons_option}
use Rattle.std.specs.Ordering.{nat_cmp}
use Rattle.wm_base.specs.declared.qname.QName.{QName}
use Rattle.wm_base.proofs.Tests.{of_four}
use Rattle.wm_desc.specs.declared.entry.QueueEntry.{QueueEntry}
use Rattle.wm_desc.specs.Sorted.{IsSortedOnce}
use Rattle.wm_desc.specs.Table.{same_qname}
use Rattle.wm_desc.proofs.Tables.{one_name}
use Rattle.wm_law.specs.declared.job.Job.{Job}
use Rattle.wm_law.specs.declared.state.State.{State}
use Rattle.wm_law.specs.Choice.{has_free_queue, is_held, is_ready}
use Rattle.wm_law.specs.Counts.{is_waiting}
use Rattle.wm_law.specs.Laws.{IsIn}
use Rattle.wm_law.proofs.Named.{own_name}
use Rattle.wm_pick.specs.Tally.{Counts}
use Rattle.wm_ordered.specs.declared.waiter.Waiter.{Waiter}
use Rattle.wm_ordered.specs.NextHeads as next
use Rattle.wm_ordered.specs.Waiting as waits
use Rattle.wm_ordered.specs.Waiting.{Waiting}
use Rattle.wm_pick.specs.Heads.{IsOrderly, head_of, is_on, is_turn, nearer, queues_of}
use Rattle.wm_pick.specs.NextHeads.{HasNoHead, IsNextHead}
use Rattle.wm_pick.specs.Parts.{IsLent, waiter_on, waiter_of, waiters}
use Rattle.wm_pick.proofs.ByHeads.{is_head}

-- the tests of a job that waits on the queue itself, in either order
both_orders : (p h d : Bool) → ((true && p) && (not h && d)) ≡ ((true && not h && true && d) && true && p)
both_orders true true true = refl
both_orders true true false = refl
both_orders true false true = refl
both_orders true false false = refl
both_orders false true true = refl
both_orders false true false = refl
both_orders false false true = refl
both_orders false false false = refl

neither : (x p : Bool) → (x && false && p) ≡ false
neither true p = refl
neither false p = refl

module _ (s : State) (queue : QName) (pty : ℕ) (free : is_held s queue ≡ false) where
  abbrev turn : Waiter → Bool
  turn = waits.is_turn queue pty s.clock

  -- whether the job has its turn, by whether it waits and by its queue
  abbrev job_turn : Job → Bool → Option QName → Bool
  job_turn j w o = (w && not j.held && has_free_queue s o && nat_le j.due s.clock) && is_on queue o && j.pty == pty

  same_turn : (j : Job) → turn (waiter_on queue j) ≡ job_turn j true (Some queue)
  same_turn j =
      let d = nat_le j.due s.clock in
      let p = j.pty == pty in
      ap (λ (x : Bool). (x && p) && (not j.held && d)) (own_name queue)
      ∙ both_orders p j.held d
      ∙ sym (ap (λ (x : Bool). (true && not j.held && not x && d) && true && p) free)
      ∙ sym (ap (λ (x : Bool). (true && not j.held && not (is_held s queue) && d) && x && p) (own_name queue))

  -- the waiters that have their turn, and this job's before them where it has it
  abbrev kept : Job → Bool → List Waiter → List Waiter
  kept j t ws = cond t (waiter_on queue j ∷ filter turn ws) (filter turn ws)

  by_name : (j : Job) (q : QName) (ws : List Waiter) (t : Bool) → same_qname q queue ≡ t → filter turn (waiter_on q j ∷ ws) ≡ kept j (job_turn j true (Some q)) ws
  by_name j q ws true e =
      let one : q ≡ queue = one_name q queue e in
      subst (λ (r : QName). filter turn (waiter_on r j ∷ ws) ≡ kept j (job_turn j true (Some r)) ws) (sym one) (ap (λ (x : Bool). kept j x ws) (same_turn j))
  by_name j q ws false e =
      let d = nat_le j.due s.clock in
      let p = j.pty == pty in
      let x = true && not j.held && not (is_held s q) && d in
      ap (λ (t : Bool). cond ((t && p) && (not j.held && d)) (waiter_on q j ∷ filter turn ws) (filter turn ws)) e
      ∙ sym (ap (λ (t : Bool). kept j (x && t && p) ws) e ∙ ap (λ (t : Bool). kept j t ws) (neither x p))

  unqueued : (h d p : Bool) → ((true && not h && false && d) && false && p) ≡ false
  unqueued true d p = refl
  unqueued false d p = refl

  by_queue : (j : Job) (ws : List Waiter) (w : Bool) (o : Option QName) → filter turn (cons_option (cond w (option_map (λ q. waiter_on q j) o) None) ws) ≡ kept j (job_turn j w o) ws
  by_queue j ws false o = refl
  by_queue j ws true None = sym (ap (λ (t : Bool). kept j t ws) (unqueued j.held (nat_le j.due s.clock) (j.pty == pty)))
  by_queue j ws true (Some q) = by_name j q ws (same_qname q queue) refl

  nearer_test : (b j : Job) (t : Bool) → cond t (Some (waiter_on queue j)) (Some (waiter_on queue b)) ≡ option_map (waiter_on queue) (cond t (Some j) (Some b))
  nearer_test b j true = refl
  nearer_test b j false = refl

  nearer_on : (best : Option Job) (j : Job) → waits.nearer (option_map (waiter_on queue) best) (waiter_on queue j) ≡ option_map (waiter_on queue) (nearer best j)
  nearer_on None j = refl
  nearer_on (Some b) j = nearer_test b j (nat_lt j.place b.place)

  by_turn : (j : Job) (jobs : List Job) (best : Option Job) (t : Bool) → ((b : Option Job) → fold waits.nearer (option_map (waiter_on queue) b) (filter turn (waiters jobs)) ≡ option_map (waiter_on queue) (fold nearer b (filter (is_turn s queue pty) jobs))) → fold waits.nearer (option_map (waiter_on queue) best) (kept j t (waiters jobs)) ≡ option_map (waiter_on queue) (fold nearer best (cond t (j ∷ filter (is_turn s queue pty) jobs) (filter (is_turn s queue pty) jobs)))
  by_turn j jobs best true rest = ap (λ (o : Option Waiter). fold waits.nearer o (filter turn (waiters jobs))) (nearer_on best j) ∙ rest (nearer best j)
  by_turn j jobs best false rest = rest best

  same_heads : (jobs : List Job) (best : Option Job) → fold waits.nearer (option_map (waiter_on queue) best) (filter turn (waiters jobs)) ≡ option_map (waiter_on queue) (fold nearer best (filter (is_turn s queue pty) jobs))
  same_heads [] best = refl
  same_heads (j ∷ jobs) best =
      ap (λ (ws : List Waiter). fold waits.nearer (option_map (waiter_on queue) best) ws) (by_queue j (waiters jobs) (is_waiting j.phase) j.jobq)
      ∙ by_turn j jobs best (is_turn s queue pty j) (same_heads jobs)

-- the head of a queue that isn't held, by the jobs that wait
by_waiting : (s : State) (queue : QName) (pty : ℕ) (waiting : Waiting) (tally : Counts) → IsLent s.jobs s.clock waiting tally → is_held s queue ≡ false → waits.head_of queue pty waiting.clock waiting.items ≡ option_map (waiter_on queue) (head_of s queue pty)
by_waiting s queue pty waiting tally lent free =
    ap (λ (clock : ℕ). waits.head_of queue pty clock waiting.items) lent.up_to
    ∙ ap (λ (items : List Waiter). waits.head_of queue pty s.clock items) lent.items
    ∙ same_heads s queue pty free s.jobs None

lent_still : (t s : State) (waiting : Waiting) (tally : Counts) → t ≡ s → IsLent t.jobs t.clock waiting tally → IsLent s.jobs s.clock waiting tally
lent_still t s waiting tally same lent = subst (λ (x : State). IsLent x.jobs x.clock waiting tally) same lent

held_by_head : (s : State) (queue : QName) (pty : ℕ) (o : Option Job) → is_held s queue ≡ true → head_of s queue pty ≡ o → o ≡ None
held_by_head s queue pty None held e = refl
held_by_head s queue pty (Some j) held e =
    let h = is_head s queue pty j e in
    let r = of_four (is_waiting j.phase) (not j.held) (has_free_queue s j.jobq) (nat_le j.due s.clock) h.turn.ready in
    let free : not (is_held s queue) ≡ true = ap (has_free_queue s) (sym h.turn.jobq) ∙ r.2 in
    let shut : not (is_held s queue) ≡ false = ap not held in
    absurd (cc)

-- a queue that is held has no head
pub no_heads_held : (s : State) (queue : QName) (pty : ℕ) (held : Bool) → held ≡ is_held s queue → held ≡ true → HasNoHead s queue pty
no_heads_held s queue pty held is e p le = held_by_head s queue p (head_of s queue p) (sym is ∙ e) refl

unmapped : (queue : QName) (o : Option Job) → option_map (waiter_on queue) o ≡ None → o ≡ None
unmapped queue None e = refl
unmapped queue (Some j) e = absurd (cc e)

module _ (s : State) (queue : QName) (waiting : Waiting) (tally : Counts) (lent : IsLent s.jobs s.clock waiting tally) (free : is_held s queue ≡ false) where
  lacks : (p : ℕ) → waits.head_of queue p waiting.clock waiting.items ≡ None → head_of s queue p ≡ None
  lacks p none = unmapped queue (head_of s queue p) (sym (by_waiting s queue p waiting tally lent free) ∙ none)

  next_by_waiting : (pty : ℕ) (o : Option Waiter) → MatchOption o (next.HasNoHead queue pty waiting.clock waiting.items) (next.IsNextHead queue pty waiting.clock waiting.items) → MatchOption o (HasNoHead s queue pty) (IsNextHead s queue pty)
  next_by_waiting pty None h = λ p le. lacks p (h p le)
  next_by_waiting pty (Some w) h = record { from = h.from; head = sym h.head ∙ by_waiting s queue w.pty waiting tally lent free; first = λ p le less. lacks p (h.first p le less) }

-- the next head by the jobs that wait is the next head by the jobs
pub next_head_by_waiting : (t s : State) (queue : QName) (pty : ℕ) (waiting : Waiting) (tally : Counts) (o : Option Waiter) (held : Bool) → t ≡ s → IsLent t.jobs t.clock waiting tally → held ≡ is_held s queue → held ≡ false → MatchOption o (next.HasNoHead queue pty waiting.clock waiting.items) (next.IsNextHead queue pty waiting.clock waiting.items) → MatchOption o (HasNoHead s queue pty) (IsNextHead s queue pty)
next_head_by_waiting t s queue pty waiting tally o held same lent is free h = next_by_waiting s queue waiting tally (lent_still t s waiting tally same lent) (sym is ∙ free) pty o h

in_behind : (w v : Waiter) (ws : List Waiter) → Contains ws w → Contains (v ∷ ws) w
in_behind w v ws c = (suc c.0, omega (arith, c.1), c.2)

in_option : (w : Waiter) (o : Option Waiter) (ws : List Waiter) → (o ≡ Some w) ⊎ Contains ws w → Contains (cons_option o ws) w
in_option w None ws (inl e) = absurd (cc)
in_option w None ws (inr c) = c
in_option w (Some v) ws (inl e) = let same : v ≡ w = cc in (0, omega arith, same)
in_option w (Some v) ws (inr c) = in_behind w v ws c

-- a job that waits on a queue is one of the waiters
pub in_waiters : (jobs : List Job) (j : Job) (w : Waiter) → IsIn j jobs → waiter_of j ≡ Some w → Contains (waiters jobs) w
in_waiters [] j w i e = absurd i
in_waiters (k ∷ jobs) j w (inl same) e = in_option w (waiter_of k) (waiters jobs) (inl (ap waiter_of (sym same) ∙ e))
in_waiters (k ∷ jobs) j w (inr i) e = in_option w (waiter_of k) (waiters jobs) (inr (in_waiters jobs j w i e))

queued : (s : State) (o : Option QName) → has_free_queue s o ≡ true → (q : QName) × (o ≡ Some q)
queued s None e = absurd (cc)
queued s (Some q) e = (q, refl)

-- a ready job's waiter
waits_on : (s : State) (j : Job) → is_ready s j ≡ true → (q : QName) × (j.jobq ≡ Some q) × (waiter_of j ≡ Some (waiter_on q j))
waits_on s j r =
    let f = of_four (is_waiting j.phase) (not j.held) (has_free_queue s j.jobq) (nat_le j.due s.clock) r in
    let q = queued s j.jobq f.2 in
    (q.0, q.1, ap (λ (t : Bool). cond t (option_map (λ (n : QName). waiter_on n j) j.jobq) None) f.0 ∙ ap (option_map (λ (n : QName). waiter_on n j)) q.1)

module _ (s : State) (waiting : Waiting) (tally : Counts) (lent : IsLent s.jobs s.clock waiting tally) where
  among : (j : Job) (q : QName) → IsIn j s.jobs → waiter_of j ≡ Some (waiter_on q j) → Contains waiting.items (waiter_on q j)
  among j q i e = subst (λ (ws : List Waiter). Contains ws (waiter_on q j)) (sym lent.items) (in_waiters s.jobs j (waiter_on q j) i e)

  same_waiter : (j k : Job) → IsIn j s.jobs → IsIn k s.jobs → is_ready s j ≡ true → is_ready s k ≡ true → j.place ≡ k.place → (j.serial ≡ k.serial) × (j.jobq ≡ k.jobq)
  same_waiter j k i m r t e =
      let a = waits_on s j r in
      let b = waits_on s k t in
      let same = lent.places (waiter_on a.0 j) (waiter_on b.0 k) (among j a.0 i a.2) (among k b.0 m b.2) e in
      (ap (λ (w : Waiter). w.serial) same, a.1 ∙ ap (λ (w : Waiter). Some w.jobq) same ∙ sym b.1)

  in_range : (j : Job) → IsIn j s.jobs → is_ready s j ≡ true → (1 ≤ j.pty) × (j.pty ≤ 9)
  in_range j i r = let a = waits_on s j r in lent.priorities (waiter_on a.0 j) (among j a.0 i a.2)

  is_orderly : (sbs : QName) → IsSortedOnce (λ (e : QueueEntry). e.seq) nat_cmp (queues_of s sbs) → IsOrderly s sbs
  is_orderly sbs sorted = record {
    serials = λ j k i m r t e. (same_waiter j k i m r t e).0;
    queues = λ j k i m r t e. (same_waiter j k i m r t e).1;
    least = λ j i r. (in_range j i r).0;
    greatest = λ j i r. (in_range j i r).1;
    entries = sorted;
  }

-- what is lent is orderly
pub lent_is_orderly : (t s : State) (waiting : Waiting) (tally : Counts) (sbs : QName) (entries : List QueueEntry) → t ≡ s → IsLent t.jobs t.clock waiting tally → entries ≡ queues_of t sbs → IsSortedOnce (λ (e : QueueEntry). e.seq) nat_cmp entries → IsOrderly s sbs
lent_is_orderly t s waiting tally sbs entries same lent are sorted =
    is_orderly s waiting tally (lent_still t s waiting tally same lent) sbs
    (subst (λ (es : List QueueEntry). IsSortedOnce (λ (e : QueueEntry). e.seq) nat_cmp es) (are ∙ ap (λ (x : State). queues_of x sbs) same) sorted)
