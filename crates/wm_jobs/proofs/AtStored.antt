-- What a table with one more of the jobs that a store has comes to.
use Rattle.std.proofs.Common.{◌≡◌, ℕ, suc, ◌+◌, ◌<◌, ◌≤◌, Bool, true, false, not, ◌&&◌, ◌==◌, cond, List, [], ◌∷◌, ◌++◌, length, map, Option, Some, None, is_some, option_map, vec_capacity, refl, ap, sym, ◌∙◌, subst, inl, inr, arith, nat_eq, All}
use mathlib.Core.Bool.{false≢true}
use Rattle.std.specs.List.{filter, cons_option}
use Rattle.std.specs.Ordering.{nat_cmp}
use Rattle.std.proofs.lemmas.List.{length-append, map-append}
use Rattle.std.proofs.lemmas.List.Elements.{All-nil, All-cons, All-append, filter-append}
use Rattle.std.proofs.lemmas.List.Folds.{list_any_none}
use Rattle.wm_indexes.specs.declared.acting.Acting.{Acting}
use Rattle.wm_base.specs.declared.qname.QName.{QName}
use Rattle.wm_desc.specs.Sorted.{IsSortedOnce, has_key}
use Rattle.wm_law.specs.declared.job.Job.{Job}
use Rattle.wm_law.specs.declared.job.Phase.{Phase}
use Rattle.wm_law.specs.declared.job.Phase.TheVariants.{Waiting, Starting, Handed, Running, Ended}
use Rattle.wm_law.specs.Counts.{is_waiting, is_starting, is_active, is_prestart}
use Rattle.wm_law.specs.Kept.{IsDistinct, waiting_places}
use Rattle.wm_law.specs.Laws.{IsIn}
use Rattle.wm_indexes.specs.Names.{IsNames}
use Rattle.wm_ordered.specs.Ordered.{Pairs}
use Rattle.wm_ordered.proofs.Keyed.{length-added}
use Rattle.wm_pick.specs.Tally.{Counts}
use Rattle.wm_ordered.specs.declared.waiter.Waiter.{Waiter}
use Rattle.wm_ordered.specs.Waiting.{has_place}
use Rattle.wm_ordered.specs.Waiting as waiting
use Rattle.wm_pick.specs.Parts.{waiter_on, waiter_of, waiters}
use Rattle.wm_jobs.specs.Indexed.{order_of, active_of}
use Rattle.wm_jobs.specs.Stored.{AreStored, joined_by, IsOther}
use Rattle.wm_jobs.specs.Table.{serial_of, is_busy}
use Rattle.wm_jobs.specs.TableInside.{IsListed, AreListed, IsIndexed, HasRoom, HasNames, IsKept}
use Rattle.wm_jobs.specs.declared.table.JobTable.TheInside.{Inside}
use Rattle.wm_jobs.proofs.Changes.{all-there}
use Rattle.wm_jobs.proofs.JobParts.{waiter-keyed, waiter-placed, waiter-waits, order-keyed, order-none, active-keyed, active-none, hows-pushed, count-pushed}
use Rattle.wm_jobs.proofs.NameParts.{names-pushed}
use Rattle.wm_jobs.proofs.Sifted.{differs, picked-length, pushed-lacks, pushed-comes, pushed-same}
use Rattle.wm_jobs.proofs.Splits.{sorted-pushed, above-head}
use Rattle.wm_indexes.specs.declared.prestart_job.PrestartJob.{PrestartJob}
use Rattle.wm_indexes.specs.OfJobs.{row_of}
use Rattle.wm_jobs.proofs.PrestartParts.{row-keyed, row-none}

inactive-unstarted : (p : Phase) → is_active p ≡ false → is_starting p ≡ false
inactive-unstarted Waiting h = refl
inactive-unstarted Starting h = absurd (false≢true (sym h))
inactive-unstarted (Handed m) h = refl
inactive-unstarted (Running m) h = refl
inactive-unstarted (Ended c) h = refl

-- none of those that wait has a place that no job that waits has
free-waiters : (p : ℕ) (jobs : List Job) → (IsIn p (waiting_places jobs) → ⊥) → All (λ (w : Waiter). (w.place == p) ≡ false) (waiters jobs)
free-waiters p [] free = All-nil (λ (w : Waiter). (w.place == p) ≡ false)
free-waiters p (j ∷ js) free = on (is_waiting j.phase) j.jobq free (free-waiters p js)
  where
    on : (b : Bool) (q : Option QName) → (IsIn p (map (λ (k : Job). k.place) (cond b (j ∷ filter (λ (k : Job). is_waiting k.phase) js) (filter (λ (k : Job). is_waiting k.phase) js))) → ⊥) → ((IsIn p (waiting_places js) → ⊥) → All (λ (w : Waiter). (w.place == p) ≡ false) (waiters js)) → All (λ (w : Waiter). (w.place == p) ≡ false) (cons_option (cond b (option_map (λ queue. waiter_on queue j) q) None) (waiters js))
    on false q none rest = rest none
    on true None none rest = rest (λ i. none (inr i))
    on true (Some queue) none rest = All-cons (λ (w : Waiter). (w.place == p) ≡ false) (waiter_on queue j) (waiters js) (differs j.place p (λ e. none (inl (sym e)))) (rest (λ i. none (inr i)))

-- the jobs before another have lesser serials
pub behind-others : (l r : List Job) (j : Job) → IsSortedOnce serial_of nat_cmp (l ++ j ∷ r) → All (λ (k : Job). k.serial < j.serial) l
behind-others [] r j sorted = All-nil (λ (k : Job). k.serial < j.serial)
behind-others (k ∷ ks) r j sorted =
    All-cons (λ (i : Job). i.serial < j.serial) k ks
    (all-there (λ (i : Job). k.serial < i.serial) ks r j (above-head serial_of j.serial k (ks ++ j ∷ r) sorted))
    (behind-others ks r j (λ a b d lt in_range. sorted (suc a) (suc b) d (omega arith) (omega arith)))

between : (ms ns : List ℕ) (p : ℕ) → IsIn p (ms ++ p ∷ ns)
between [] ns p = inl refl
between (m ∷ ms) ns p = inr (between ms ns p)

-- what stands before another is another
not-before : (ms ns : List ℕ) (p : ℕ) → IsDistinct (ms ++ p ∷ ns) → IsIn p ms → ⊥
not-before [] ns p d i = i
not-before (m ∷ ms) ns p d (inl e) = d.0 (subst (λ (n : ℕ). IsIn n (ms ++ p ∷ ns)) e (between ms ns p))
not-before (m ∷ ms) ns p d (inr i) = not-before ms ns p d.1 i

places-parts : (l r : List Job) (j : Job) → is_waiting j.phase ≡ true → waiting_places (l ++ j ∷ r) ≡ waiting_places l ++ j.place ∷ waiting_places r
places-parts l r j waits =
    ap (map (λ (k : Job). k.place)) (filter-append (λ (k : Job). is_waiting k.phase) l (j ∷ r))
    ∙ (map-append (λ (k : Job). k.place) (filter (λ (k : Job). is_waiting k.phase) l) (filter (λ (k : Job). is_waiting k.phase) (j ∷ r))
    ∙ ap (λ b. waiting_places l ++ map (λ (k : Job). k.place) (cond b (j ∷ filter (λ (k : Job). is_waiting k.phase) r) (filter (λ (k : Job). is_waiting k.phase) r))) waits)

-- no job that waits before another has its place
place-free : (l r : List Job) (j : Job) → IsDistinct (waiting_places (l ++ j ∷ r)) → is_waiting j.phase ≡ true → IsIn j.place (waiting_places l) → ⊥
place-free l r j distinct waits = not-before (waiting_places l) (waiting_places r) j.place (subst (λ (ns : List ℕ). IsDistinct ns) (places-parts l r j waits) distinct)

-- its serial is above those of the jobs before it, and none of them that waits has its place where it waits
pub record IsNext (jobs : List Job) (j : Job) : Type 0 where
  pub behind : All (λ (k : Job). k.serial < j.serial) jobs
  pub free : is_waiting j.phase ≡ true → IsIn j.place (waiting_places jobs) → ⊥

-- so it is with the first job that is left of those that a store has
pub next-left : (ns np : ℕ) (all taken left rest : List Job) (j : Job) → AreStored ns np all → taken ++ left ≡ all → left ≡ j ∷ rest → IsNext taken j
next-left ns np all taken left rest j h whole steps =
    let parts = subst (λ (js : List Job). AreStored ns np js) (sym whole ∙ ap (λ (js : List Job). taken ++ js) steps) h in
    record { behind = behind-others taken rest j parts.listed.sorted; free = place-free taken rest j parts.places }

few-more : (o : Option Waiter) → length (cons_option o []) ≤ 1
few-more None = omega arith
few-more (Some w) = omega arith

-- at the most one joins
pub joined-most : (o : Option Waiter) (items : List Waiter) → length (joined_by o items) ≤ length items + 1
joined-most None items = omega arith
joined-most (Some w) items = let n = length-added waiting.serial_of nat_cmp w items in omega arith

module _ (t : Inside) (h : IsKept t) (j : Job) (behind : All (λ (k : Job). k.serial < j.serial) t.jobs.items) where
  -- its serial and its place are new among the jobs that wait
  other-by : (o : Option Waiter) → waiter_of j ≡ o → (is_waiting j.phase ≡ true → IsIn j.place (waiting_places t.jobs.items) → ⊥) → IsOther o t.waiting.items
  other-by None is free = tt
  other-by (Some w) is free = (
    ap (λ ws. has_key waiting.serial_of nat_eq w.serial ws) h.indexed.waiters_are
        ∙ (ap (λ n. has_key waiting.serial_of nat_eq n (waiters t.jobs.items)) (waiter-keyed j w is) ∙ pushed-lacks serial_of waiter_of waiting.serial_of waiter-keyed j.serial t.jobs.items behind),
    ap (λ ws. has_place w.place ws) h.indexed.waiters_are
        ∙ (ap (λ n. has_place n (waiters t.jobs.items)) (waiter-placed j w is)
        ∙ list_any_none (λ u. u.place == j.place) (waiters t.jobs.items) (free-waiters j.place t.jobs.items (free (waiter-waits j w is)))),
  )

  pub stored-other : (is_waiting j.phase ≡ true → IsIn j.place (waiting_places t.jobs.items) → ⊥) → IsOther (waiter_of j) t.waiting.items
  stored-other free = other-by (waiter_of j) refl free

  waiters-joined : (o : Option Waiter) → waiter_of j ≡ o → joined_by o (waiters t.jobs.items) ≡ waiters (t.jobs.items ++ j ∷ [])
  waiters-joined None is = pushed-same serial_of waiter_of waiting.serial_of waiter-keyed t.jobs.items j is
  waiters-joined (Some w) is = pushed-comes serial_of waiter_of waiting.serial_of waiter-keyed j.serial t.jobs.items behind j w is refl

  stored-room : (new : Inside) → new.jobs.items ≡ t.jobs.items ++ j ∷ [] → vec_capacity new.jobs ≡ vec_capacity t.jobs → new.waiting.items ≡ waiters (t.jobs.items ++ j ∷ []) → t.waiting.spare ≤ new.waiting.spare + 1 → new.tally ≡ t.tally → new.starting ≡ t.starting → new.room + 1 ≡ t.room → HasRoom (length new.jobs.items) (vec_capacity new.jobs) new.room new.waiting new.tally new.starting
  stored-room new jobs capacity come ws te se room =
      let n : length new.jobs.items ≡ length t.jobs.items + 1 = ap length jobs ∙ length-append t.jobs.items (j ∷ []) in
      let more : length new.waiting.items ≡ length (waiters t.jobs.items) + length (cons_option (waiter_of j) []) = ap length come ∙ picked-length serial_of waiter_of waiting.serial_of waiter-keyed t.jobs.items [] j (waiter_of j) refl in
      let one = few-more (waiter_of j) in
      let had : length t.waiting.items ≡ length (waiters t.jobs.items) = ap length h.indexed.waiters_are in
      let counts : new.tally.spare ≡ t.tally.spare = ap (λ (c : Counts). c.spare) te in
      let starts : new.starting.spare ≡ t.starting.spare = ap (λ (o : Pairs ℕ (Unit {0})). o.spare) se in
      let stand = h.room.to_stand in
      let few = h.room.few in
      let wait = h.room.to_wait in
      let count = h.room.to_count in
      let start = h.room.to_start in
      record { to_stand = omega arith; few = omega arith; to_wait = omega arith; to_count = omega arith; to_start = omega arith }

  module _ (inactive : is_active j.phase ≡ false) (queue : is_waiting j.phase ≡ true → is_some j.jobq ≡ true) (serial : j.serial < t.next_serial) (place : j.place < t.next_place) where
    stored-listed : AreListed t.next_serial t.next_place (t.jobs.items ++ j ∷ [])
    stored-listed = record {
      first_place = h.listed.first_place;
      sorted = sorted-pushed serial_of j.serial t.jobs.items j refl behind h.listed.sorted;
      each = All-append (IsListed t.next_serial t.next_place) t.jobs.items (j ∷ []) h.listed.each
          (All-cons (IsListed t.next_serial t.next_place) j [] (record { serial = serial; place = place; queue = queue }) (All-nil (IsListed t.next_serial t.next_place)));
    }

    pub stored-inside : (new : Inside) → new.jobs.items ≡ t.jobs.items ++ j ∷ [] → vec_capacity new.jobs ≡ vec_capacity t.jobs → new.waiting.items ≡ joined_by (waiter_of j) t.waiting.items → t.waiting.spare ≤ new.waiting.spare + 1 → new.tally ≡ t.tally → new.starting ≡ t.starting → new.active ≡ t.active → new.prestart ≡ t.prestart → new.busy ≡ t.busy → new.next_serial ≡ t.next_serial → new.next_place ≡ t.next_place → new.room + 1 ≡ t.room → ((js : List Job) → IsNames js t.names → IsNames (js ++ j ∷ []) new.names) → t.names.spare ≤ new.names.spare + 1 → IsKept new
    stored-inside new jobs capacity we ws te se ae pe be ns np room add name =
        let come : new.waiting.items ≡ waiters (t.jobs.items ++ j ∷ []) = we ∙ (ap (λ us. joined_by (waiter_of j) us) h.indexed.waiters_are ∙ waiters-joined (waiter_of j) refl) in
        record {
          listed = subst (λ js. AreListed new.next_serial new.next_place js) (sym jobs) (rw (ns, np) stored-listed);
          indexed = subst (λ js. IsIndexed js new.waiting new.tally new.starting new.active new.prestart new.busy) (sym jobs) (record {
            waiters_are = come;
            hows_are = rw (hows-pushed t.jobs.items j inactive, te) h.indexed.hows_are;
            orders_are = ap (λ (o : Pairs ℕ (Unit {0})). o.items) se ∙ (h.indexed.orders_are ∙ pushed-same serial_of order_of (λ e. e.0) order-keyed t.jobs.items j (order-none j (inactive-unstarted j.phase inactive)));
            active_are = ap (λ (o : Pairs ℕ Acting). o.items) ae ∙ (h.indexed.active_are ∙ pushed-same serial_of active_of (λ e. e.0) active-keyed t.jobs.items j (active-none j inactive));
            prestart_are = ap (λ (o : Pairs ℕ PrestartJob). o.items) pe ∙ (h.indexed.prestart_are ∙ pushed-same serial_of row_of (λ e. e.0) row-keyed t.jobs.items j (row-none j inactive));
            busy_are = be ∙ (h.indexed.busy_are ∙ sym (count-pushed is_busy t.jobs.items j (ap (λ b. b && not (is_prestart j.kind)) inactive)));
          });
          room = stored-room new jobs capacity come ws te se room;
          named = subst (λ js. HasNames js new.room new.names) (sym jobs) (names-pushed t.jobs.items j t.names new.names t.room new.room h.named room add name);
        }
