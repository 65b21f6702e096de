-- What a table with a job more that was launched at once comes to.
use Rattle.std.proofs.Common.{◌≡◌, ℕ, ◌+◌, ◌<◌, ◌≤◌, Bool, true, false, not, ◌&&◌, cond, List, [], ◌∷◌, ◌++◌, length, vec_capacity, refl, ap, sym, ◌∙◌, subst, arith, nat_eq, All, Option, Some, None}
use mathlib.Core.Bool.{false≢true}
use Rattle.std.specs.List.{count_by}
use Rattle.std.specs.Ordering.{nat_cmp}
use Rattle.std.proofs.lemmas.List.{length-append}
use Rattle.std.proofs.lemmas.List.Elements.{All-nil, All-cons, All-append, All-weaker}
use Rattle.wm_indexes.specs.declared.acting.Acting.{Acting}
use Rattle.wm_base.specs.declared.job.How.{How}
use Rattle.wm_desc.specs.Sorted.{has_key, added}
use Rattle.wm_law.specs.declared.job.Job.{Job}
use Rattle.wm_law.specs.declared.job.Phase.TheVariants.{Waiting}
use Rattle.wm_law.specs.Counts.{is_waiting, is_starting, is_active, is_prestart}
use Rattle.wm_indexes.specs.Names.{IsNames}
use Rattle.wm_ordered.specs.Ordered.{key_of}
use Rattle.wm_pick.specs.Tally.{Counts, IsTally}
use Rattle.wm_ordered.specs.Waiting as waiting
use Rattle.wm_pick.specs.Parts.{waiter_of}
use Rattle.wm_pick.specs.Tallied.{hows}
use Rattle.wm_jobs.specs.Indexed.{acting_of, order_of, orders, active_of, actives, Starts, seated}
use Rattle.wm_jobs.specs.Table.{Table, serial_of, is_busy}
use Rattle.wm_jobs.specs.TableInside.{table_of, IsListed, AreListed, IsIndexed, HasRoom, HasNames, IsKept}
use Rattle.wm_jobs.specs.declared.table.JobTable.TheInside.{Inside}
use Rattle.wm_jobs.proofs.NameParts.{names-pushed}
use Rattle.wm_jobs.proofs.Sifted.{pushed-lacks, pushed-comes, pushed-same}
use Rattle.wm_jobs.proofs.Splits.{sorted-pushed}
use Rattle.wm_jobs.proofs.JobParts.{waiter-keyed, waiter-none, order-keyed, order-none, order-some, active-keyed, active-none, active-some, hows-pushed, tally-starts, count-more, count-pushed}
use Rattle.wm_indexes.specs.declared.prestart_job.PrestartJob.{PrestartJob}
use Rattle.wm_indexes.specs.OfJobs.{row_of, prestart_jobs}
use Rattle.wm_jobs.proofs.PrestartParts.{row-keyed}

-- the job as it would wait
abbrev unlaunched : Job → Job
unlaunched j = record j { phase = Waiting }

-- one more passes where the new one does
one-passes : (p : Job → Bool) (jobs : List Job) (j : Job) → p (unlaunched j) ≡ false → count_by p (jobs ++ j ∷ []) ≡ count_by p jobs + cond (p j) 1 0
one-passes p jobs j none = count-more p jobs [] (unlaunched j) j none ∙ ap (λ (n : ℕ). n + cond (p j) 1 0) (count-pushed p jobs (unlaunched j) none)

module _ (t : Inside) (h : IsKept t) (v : Table) (view : table_of t ≡ v) (j : Job) (serial : j.serial ≡ v.next_serial) (place : j.place ≡ 0) (goes : is_waiting j.phase ≡ false) where
  serial_is : j.serial ≡ t.next_serial
  serial_is = serial ∙ ap (λ (u : Table). u.next_serial) (sym view)

  place_below : j.place < t.next_place
  place_below = let first = h.listed.first_place in omega arith

  lower : All (λ (k : Job). k.serial < t.next_serial) t.jobs.items
  lower = All-weaker (IsListed t.next_serial t.next_place) (λ (k : Job). k.serial < t.next_serial) (λ k l. l.serial) t.jobs.items h.listed.each

  -- its serial is new among the jobs that wait for a monitor
  pub launched-finds : has_key key_of nat_eq j.serial t.starting.items ≡ false
  launched-finds =
      ap (λ (os : List (ℕ × Unit {0})). has_key key_of nat_eq j.serial os) h.indexed.orders_are
      ∙ (ap (λ n. has_key key_of nat_eq n (orders t.jobs.items)) serial_is ∙ pushed-lacks serial_of order_of key_of order-keyed t.next_serial t.jobs.items lower)

  orders-pushed : (b : Bool) → is_starting j.phase ≡ b → cond b (added key_of nat_cmp (j.serial, tt) (orders t.jobs.items)) (orders t.jobs.items) ≡ orders (t.jobs.items ++ j ∷ [])
  orders-pushed true e = pushed-comes serial_of order_of key_of order-keyed t.next_serial t.jobs.items lower j (j.serial, tt) (order-some j j.serial refl e) serial_is
  orders-pushed false e = pushed-same serial_of order_of key_of order-keyed t.jobs.items j (order-none j e)

  -- nor among the active ones
  pub launched-unlisted : has_key key_of nat_eq j.serial t.active.items ≡ false
  launched-unlisted =
      ap (λ (os : List (ℕ × Acting)). has_key key_of nat_eq j.serial os) h.indexed.active_are
      ∙ (ap (λ n. has_key key_of nat_eq n (actives t.jobs.items)) serial_is ∙ pushed-lacks serial_of active_of key_of active-keyed t.next_serial t.jobs.items lower)

  actives-pushed : (b : Bool) → is_active j.phase ≡ b → cond b (added key_of nat_cmp (j.serial, acting_of j.phase j.wish) (actives t.jobs.items)) (actives t.jobs.items) ≡ actives (t.jobs.items ++ j ∷ [])
  actives-pushed true e = pushed-comes serial_of active_of key_of active-keyed t.next_serial t.jobs.items lower j (j.serial, acting_of j.phase j.wish) (active-some j j.serial refl e) serial_is
  actives-pushed false e = pushed-same serial_of active_of key_of active-keyed t.jobs.items j (active-none j e)

  -- nor among the prestart jobs
  pub launched-unseated : has_key key_of nat_eq j.serial t.prestart.items ≡ false
  launched-unseated =
      ap (λ (rs : List (ℕ × PrestartJob)). has_key key_of nat_eq j.serial rs) h.indexed.prestart_are
      ∙ (ap (λ n. has_key key_of nat_eq n (prestart_jobs t.jobs.items)) serial_is ∙ pushed-lacks serial_of row_of key_of row-keyed t.next_serial t.jobs.items lower)

  rows-pushed : (o : Option (ℕ × PrestartJob)) → row_of j ≡ o → seated o (prestart_jobs t.jobs.items) ≡ prestart_jobs (t.jobs.items ++ j ∷ [])
  rows-pushed (Some row) e = pushed-comes serial_of row_of key_of row-keyed t.next_serial t.jobs.items lower j row e serial_is
  rows-pushed None e = pushed-same serial_of row_of key_of row-keyed t.jobs.items j e

  tally-pushed : (new : Counts) → Starts (is_active j.phase) t.tally new j.how → IsTally (hows (t.jobs.items ++ j ∷ [])) new
  tally-pushed new starts =
      tally-starts t.jobs.items [] (unlaunched j) j t.tally new refl starts (subst (λ (hs : List How). IsTally hs t.tally) (sym (hows-pushed t.jobs.items (unlaunched j) refl)) h.indexed.hows_are)

  launched-room : (new : Inside) → new.jobs.items ≡ t.jobs.items ++ j ∷ [] → vec_capacity new.jobs ≡ vec_capacity t.jobs → new.waiting ≡ t.waiting → t.tally.spare ≤ new.tally.spare + 1 → t.starting.spare ≤ new.starting.spare + 1 → new.room + 1 ≡ t.room → HasRoom (length new.jobs.items) (vec_capacity new.jobs) new.room new.waiting new.tally new.starting
  launched-room new jobs capacity we ts ss room =
      let n : length new.jobs.items ≡ length t.jobs.items + 1 = ap length jobs ∙ length-append t.jobs.items (j ∷ []) in
      let waits : length new.waiting.items ≡ length t.waiting.items = ap (λ (w : waiting.Waiting). length w.items) we in
      let spare : new.waiting.spare ≡ t.waiting.spare = ap (λ (w : waiting.Waiting). w.spare) we in
      let stand = h.room.to_stand in
      let few = h.room.few in
      let wait = h.room.to_wait in
      let count = h.room.to_count in
      let start = h.room.to_start in
      record { to_stand = omega arith; few = omega arith; to_wait = omega arith; to_count = omega arith; to_start = omega arith }

  pub launched-pushed : (new : Inside) → new.jobs.items ≡ t.jobs.items ++ j ∷ [] → vec_capacity new.jobs ≡ vec_capacity t.jobs → new.waiting ≡ t.waiting → Starts (is_active j.phase) t.tally new.tally j.how → t.tally.spare ≤ new.tally.spare + 1 → new.starting.items ≡ cond (is_starting j.phase) (added key_of nat_cmp (j.serial, tt) t.starting.items) t.starting.items → t.starting.spare ≤ new.starting.spare + 1 → new.active.items ≡ cond (is_active j.phase) (added key_of nat_cmp (j.serial, acting_of j.phase j.wish) t.active.items) t.active.items → new.prestart.items ≡ seated (row_of j) t.prestart.items → new.busy ≡ t.busy + cond (is_active j.phase && not (is_prestart j.kind)) 1 0 → new.next_serial ≡ t.next_serial + 1 → new.next_place ≡ t.next_place → new.room + 1 ≡ t.room → ((js : List Job) → IsNames js t.names → IsNames (js ++ j ∷ []) new.names) → t.names.spare ≤ new.names.spare + 1 → IsKept new
  launched-pushed new jobs capacity we te ts se ss ae pe be ns np room add name = record {
    named = subst (λ js. HasNames js new.room new.names) (sym jobs) (names-pushed t.jobs.items j t.names new.names t.room new.room h.named room add name);
    listed = subst (λ js. AreListed new.next_serial new.next_place js) (sym jobs) (record {
      first_place = (let first = h.listed.first_place in omega arith);
      sorted = sorted-pushed serial_of t.next_serial t.jobs.items j serial_is lower h.listed.sorted;
      each = All-append (IsListed new.next_serial new.next_place) t.jobs.items (j ∷ [])
          (All-weaker (IsListed t.next_serial t.next_place) (IsListed new.next_serial new.next_place) (λ k l. let a = l.serial in let b = l.place in record { serial = omega arith; place = omega arith; queue = l.queue }) t.jobs.items h.listed.each)
          (All-cons (IsListed new.next_serial new.next_place) j [] (record { serial = omega (arith, serial_is); place = omega (arith, place_below); queue = λ waits. absurd (false≢true (sym goes ∙ waits)) }) (All-nil (IsListed new.next_serial new.next_place)));
    });
    indexed = subst (λ js. IsIndexed js new.waiting new.tally new.starting new.active new.prestart new.busy) (sym jobs) (record {
      waiters_are = ap (λ (w : waiting.Waiting). w.items) we ∙ (h.indexed.waiters_are ∙ pushed-same serial_of waiter_of waiting.serial_of waiter-keyed t.jobs.items j (waiter-none j goes));
      hows_are = tally-pushed new.tally te;
      orders_are = se ∙ (ap (λ (os : List (ℕ × Unit {0})). cond (is_starting j.phase) (added key_of nat_cmp (j.serial, tt) os) os) h.indexed.orders_are ∙ orders-pushed (is_starting j.phase) refl);
      active_are = ae ∙ (ap (λ (os : List (ℕ × Acting)). cond (is_active j.phase) (added key_of nat_cmp (j.serial, acting_of j.phase j.wish) os) os) h.indexed.active_are ∙ actives-pushed (is_active j.phase) refl);
      prestart_are = pe ∙ (ap (λ (rs : List (ℕ × PrestartJob)). seated (row_of j) rs) h.indexed.prestart_are ∙ rows-pushed (row_of j) refl);
      busy_are = be ∙ (ap (λ (n : ℕ). n + cond (is_active j.phase && not (is_prestart j.kind)) 1 0) h.indexed.busy_are ∙ sym (one-passes is_busy t.jobs.items j refl));
    });
    room = launched-room new jobs capacity we ts ss room;
  }
