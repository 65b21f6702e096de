-- What a new table, one with more room and one with a job more come to.
use Rattle.std.proofs.Common.{◌≡◌, ℕ, ◌+◌, ◌<◌, ◌≤◌, true, false, not, ◌&&◌, ◌==◌, List, [], ◌∷◌, ◌++◌, length, Some, is_some, vec_capacity, ap, sym, ◌∙◌, subst, arith, nat_eq, All}
use Rattle.std.specs.Ordering.{nat_cmp}
use Rattle.std.proofs.lemmas.List.{length-append}
use Rattle.std.proofs.lemmas.List.Elements.{All-nil, All-cons, All-append, All-weaker}
use Rattle.std.proofs.lemmas.List.Folds.{list_any_none}
use Rattle.wm_base.proofs.Tests.{eqb-lt}
use Rattle.wm_indexes.specs.declared.acting.Acting.{Acting}
use Rattle.wm_base.specs.declared.job.How.{How}
use Rattle.wm_desc.specs.Sorted.{has_key, added}
use Rattle.wm_law.specs.declared.job.Job.{Job}
use Rattle.wm_law.specs.Counts.{is_waiting, is_prestart}
use Rattle.wm_indexes.specs.Names.{IsNames}
use Rattle.wm_ordered.specs.Ordered.{Pairs}
use Rattle.wm_pick.specs.Counted.{same_counted}
use Rattle.wm_pick.specs.Rows.{number_at}
use Rattle.wm_pick.specs.Tally.{Counts, IsTally}
use Rattle.wm_ordered.specs.declared.waiter.Waiter.{Waiter}
use Rattle.wm_ordered.specs.Waiting.{has_place}
use Rattle.wm_ordered.specs.Waiting as waiting
use Rattle.wm_pick.specs.Parts.{waiter_of, waiters}
use Rattle.wm_pick.specs.Tallied.{hows}
use Rattle.wm_jobs.specs.Indexed.{order_of, active_of}
use Rattle.wm_jobs.specs.Table.{Table, serial_of, is_busy}
use Rattle.wm_jobs.specs.TableInside.{table_of, IsListed, AreListed, IsIndexed, HasRoom, HasNames, IsKept}
use Rattle.wm_jobs.specs.declared.table.JobTable.TheInside.{Inside}
use Rattle.wm_jobs.proofs.NameParts.{names-pushed}
use Rattle.wm_jobs.proofs.Sifted.{picked-few, picked-keys, picked-length, pushed-lacks, pushed-comes, pushed-same}
use Rattle.wm_jobs.proofs.Splits.{sorted-pushed}
use Rattle.wm_jobs.proofs.JobParts.{waiting-unstarted, waiter-keyed, waiter-placed, order-keyed, order-none, active-keyed, active-none, hows-pushed, count-pushed}
use Rattle.wm_law.proofs.InTurn.{not_active}
use Rattle.wm_indexes.specs.declared.prestart_job.PrestartJob.{PrestartJob}
use Rattle.wm_indexes.specs.OfJobs.{row_of}
use Rattle.wm_jobs.proofs.PrestartParts.{row-keyed, row-none}

pub same-tally : (hs : List How) (old new : Counts) → new.counts ≡ old.counts → IsTally hs old → IsTally hs new
same-tally hs old new same h = λ k. ap (number_at same_counted k) same ∙ h k

pub new-inside : (new : Inside) → new.jobs.items ≡ [] → new.waiting.items ≡ [] → IsTally [] new.tally → new.starting.items ≡ [] → new.active.items ≡ [] → new.prestart.items ≡ [] → new.busy ≡ 0 → new.room ≡ 0 → 1 ≤ new.next_place → IsNames [] new.names → IsKept new
new-inside new jobs waiting tally starting active prestart busy room np names = record {
  listed = subst (λ js. AreListed new.next_serial new.next_place js) (sym jobs) (record { first_place = omega arith; sorted = λ i j d lt in_range. absurd (omega arith); each = All-nil (IsListed new.next_serial new.next_place) });
  indexed = subst (λ js. IsIndexed js new.waiting new.tally new.starting new.active new.prestart new.busy) (sym jobs) (record { waiters_are = waiting; hows_are = tally; orders_are = starting; active_are = active; prestart_are = prestart; busy_are = busy });
  room = (let n : length new.jobs.items ≡ 0 = ap length jobs in let m : length new.waiting.items ≡ 0 = ap length waiting in
      record { to_stand = omega arith; few = omega arith; to_wait = omega arith; to_count = omega arith; to_start = omega arith });
  named = subst (λ js. HasNames js new.room new.names) (sym jobs) (record { are = names; to_name = omega arith });
}

module _ (t : Inside) (h : IsKept t) where
  -- fewer than 4,294,967,294 jobs wait
  pub few-waiters : length t.waiting.items ≤ length t.jobs.items
  few-waiters = let n : length t.waiting.items ≡ length (waiters t.jobs.items) = ap length h.indexed.waiters_are in let few = picked-few waiter_of t.jobs.items in omega arith

  pub reserved-inside : (new : Inside) → new.jobs.items ≡ t.jobs.items → new.waiting.items ≡ t.waiting.items → new.tally.counts ≡ t.tally.counts → new.starting.items ≡ t.starting.items → new.active.items ≡ t.active.items → new.prestart.items ≡ t.prestart.items → new.busy ≡ t.busy → new.next_serial ≡ t.next_serial → new.next_place ≡ t.next_place → HasRoom (length t.jobs.items) (vec_capacity new.jobs) new.room new.waiting new.tally new.starting → (IsNames t.jobs.items t.names → IsNames t.jobs.items new.names) → new.room ≤ new.names.spare → IsKept new
  reserved-inside new jobs waiting tally starting active prestart busy ns np room names name = record {
    listed = subst (λ js. AreListed new.next_serial new.next_place js) (sym jobs) (rw (ns, np) h.listed);
    indexed = subst (λ js. IsIndexed js new.waiting new.tally new.starting new.active new.prestart new.busy) (sym jobs) (record {
      waiters_are = waiting ∙ h.indexed.waiters_are;
      hows_are = same-tally (hows t.jobs.items) t.tally new.tally tally h.indexed.hows_are;
      orders_are = starting ∙ h.indexed.orders_are;
      active_are = active ∙ h.indexed.active_are;
      prestart_are = prestart ∙ h.indexed.prestart_are;
      busy_are = busy ∙ h.indexed.busy_are;
    });
    room = subst (λ n. HasRoom n (vec_capacity new.jobs) new.room new.waiting new.tally new.starting) (ap length (sym jobs)) room;
    named = subst (λ js. HasNames js new.room new.names) (sym jobs) (record { are = names h.named.are; to_name = name });
  }

  module _ (v : Table) (view : table_of t ≡ v) (j : Job) (w : Waiter) (picked : waiter_of j ≡ Some w) (serial : j.serial ≡ v.next_serial) (place : j.place ≡ v.next_place) where
    serial_is : j.serial ≡ t.next_serial
    serial_is = serial ∙ ap (λ (u : Table). u.next_serial) (sym view)

    place_is : j.place ≡ t.next_place
    place_is = place ∙ ap (λ (u : Table). u.next_place) (sym view)

    lower : All (λ (k : Job). k.serial < t.next_serial) t.jobs.items
    lower = All-weaker (IsListed t.next_serial t.next_place) (λ (k : Job). k.serial < t.next_serial) (λ k l. l.serial) t.jobs.items h.listed.each

    places : All (λ (k : Job). k.place < t.next_place) t.jobs.items
    places = All-weaker (IsListed t.next_serial t.next_place) (λ (k : Job). k.place < t.next_place) (λ k l. l.place) t.jobs.items h.listed.each

    -- its serial and its place are new among the jobs that wait
    pub push-finds : (has_key waiting.serial_of nat_eq w.serial t.waiting.items ≡ false) × (has_place w.place t.waiting.items ≡ false)
    push-finds = (
      ap (λ ws. has_key waiting.serial_of nat_eq w.serial ws) h.indexed.waiters_are
          ∙ (ap (λ n. has_key waiting.serial_of nat_eq n (waiters t.jobs.items)) (waiter-keyed j w picked ∙ serial_is) ∙ pushed-lacks serial_of waiter_of waiting.serial_of waiter-keyed t.next_serial t.jobs.items lower),
      ap (λ ws. has_place w.place ws) h.indexed.waiters_are
          ∙ (ap (λ n. has_place n (waiters t.jobs.items)) (waiter-placed j w picked ∙ place_is)
          ∙ list_any_none (λ u. u.place == t.next_place) (waiters t.jobs.items) (All-weaker (λ (u : Waiter). u.place < t.next_place) (λ u. (u.place == t.next_place) ≡ false) (λ u lt. eqb-lt u.place t.next_place lt) (waiters t.jobs.items) (picked-keys (λ k. k.place) waiter_of (λ u. u.place) waiter-placed (λ n. n < t.next_place) t.jobs.items places))),
    )

    pushed-room : (new : Inside) → new.jobs.items ≡ t.jobs.items ++ j ∷ [] → vec_capacity new.jobs ≡ vec_capacity t.jobs → new.waiting.items ≡ waiters (t.jobs.items ++ j ∷ []) → t.waiting.spare ≡ new.waiting.spare + 1 → new.tally ≡ t.tally → new.starting ≡ t.starting → new.room + 1 ≡ t.room → HasRoom (length new.jobs.items) (vec_capacity new.jobs) new.room new.waiting new.tally new.starting
    pushed-room new jobs capacity come ws te se room =
        let n : length new.jobs.items ≡ length t.jobs.items + 1 = ap length jobs ∙ length-append t.jobs.items (j ∷ []) in
        let more : length new.waiting.items ≡ length (waiters t.jobs.items) + 1 = ap length come ∙ picked-length serial_of waiter_of waiting.serial_of waiter-keyed t.jobs.items [] j (Some w) picked in
        let had : length t.waiting.items ≡ length (waiters t.jobs.items) = ap length h.indexed.waiters_are in
        let counts : new.tally.spare ≡ t.tally.spare = ap (λ (c : Counts). c.spare) te in
        let starts : new.starting.spare ≡ t.starting.spare = ap (λ (o : Pairs ℕ (Unit {0})). o.spare) se in
        let stand = h.room.to_stand in
        let few = h.room.few in
        let wait = h.room.to_wait in
        let count = h.room.to_count in
        let start = h.room.to_start in
        record { to_stand = omega arith; few = omega arith; to_wait = omega arith; to_count = omega arith; to_start = omega arith }

    pub pushed-inside : is_waiting j.phase ≡ true → is_some j.jobq ≡ true → (new : Inside) → new.jobs.items ≡ t.jobs.items ++ j ∷ [] → vec_capacity new.jobs ≡ vec_capacity t.jobs → new.waiting.items ≡ added waiting.serial_of nat_cmp w t.waiting.items → t.waiting.spare ≡ new.waiting.spare + 1 → new.tally ≡ t.tally → new.starting ≡ t.starting → new.active ≡ t.active → new.prestart ≡ t.prestart → new.busy ≡ t.busy → new.next_serial ≡ t.next_serial + 1 → new.next_place ≡ t.next_place + 1 → new.room + 1 ≡ t.room → ((js : List Job) → IsNames js t.names → IsNames (js ++ j ∷ []) new.names) → t.names.spare ≤ new.names.spare + 1 → IsKept new
    pushed-inside waits queue new jobs capacity we ws te se ae pe be ns np room add name =
        let come : new.waiting.items ≡ waiters (t.jobs.items ++ j ∷ []) = we ∙ (ap (λ us. added waiting.serial_of nat_cmp w us) h.indexed.waiters_are ∙ pushed-comes serial_of waiter_of waiting.serial_of waiter-keyed t.next_serial t.jobs.items lower j w picked serial_is) in
        record {
          listed = subst (λ js. AreListed new.next_serial new.next_place js) (sym jobs) (record {
            first_place = (let first = h.listed.first_place in omega arith);
            sorted = sorted-pushed serial_of t.next_serial t.jobs.items j serial_is lower h.listed.sorted;
            each = All-append (IsListed new.next_serial new.next_place) t.jobs.items (j ∷ [])
                (All-weaker (IsListed t.next_serial t.next_place) (IsListed new.next_serial new.next_place) (λ k l. let a = l.serial in let b = l.place in record { serial = omega arith; place = omega arith; queue = l.queue }) t.jobs.items h.listed.each)
                (All-cons (IsListed new.next_serial new.next_place) j [] (record { serial = omega (arith, serial_is); place = omega (arith, place_is); queue = λ _. queue }) (All-nil (IsListed new.next_serial new.next_place)));
          });
          indexed = subst (λ js. IsIndexed js new.waiting new.tally new.starting new.active new.prestart new.busy) (sym jobs) (record {
            waiters_are = come;
            hows_are = rw (hows-pushed t.jobs.items j (not_active j.phase waits), te) h.indexed.hows_are;
            orders_are = ap (λ (o : Pairs ℕ (Unit {0})). o.items) se ∙ (h.indexed.orders_are ∙ pushed-same serial_of order_of (λ e. e.0) order-keyed t.jobs.items j (order-none j (waiting-unstarted j.phase waits)));
            active_are = ap (λ (o : Pairs ℕ Acting). o.items) ae ∙ (h.indexed.active_are ∙ pushed-same serial_of active_of (λ e. e.0) active-keyed t.jobs.items j (active-none j (not_active j.phase waits)));
            prestart_are = ap (λ (o : Pairs ℕ PrestartJob). o.items) pe ∙ (h.indexed.prestart_are ∙ pushed-same serial_of row_of (λ e. e.0) row-keyed t.jobs.items j (row-none j (not_active j.phase waits)));
            busy_are = be ∙ (h.indexed.busy_are ∙ sym (count-pushed is_busy t.jobs.items j (ap (λ b. b && not (is_prestart j.kind)) (not_active j.phase waits))));
          });
          room = pushed-room new jobs capacity come ws te se room;
          named = subst (λ js. HasNames js new.room new.names) (sym jobs) (names-pushed t.jobs.items j t.names new.names t.room new.room h.named room add name);
        }
