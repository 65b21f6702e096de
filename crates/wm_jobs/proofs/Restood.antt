-- What a table comes to where a job that is there comes to stand otherwise.
use Rattle.std.proofs.Common.{◌≡◌, ℕ, suc, ◌+◌, ◌<◌, ◌≤◌, ◌==◌, Bool, true, false, not, ◌&&◌, ◌||◌, cond, List, [], ◌∷◌, ◌++◌, length, get_or, take, drop, map, Option, Some, None, is_some, vec_capacity, refl, ap, sym, ◌∙◌, subst, arith, All, Contains}
use Rattle.std.specs.List.{find}
use Rattle.std.specs.Ordering.{nat_cmp}
use Rattle.std.proofs.lemmas.List.{length-append, length-map}
use Rattle.std.proofs.lemmas.List.Elements.{All-contains, All-take, All-weaker, Contains-append_right}
use Rattle.wm_desc.specs.Place.{IsAt}
use Rattle.wm_law.specs.declared.job.Job.{Job}
use Rattle.wm_law.specs.declared.job.Phase.{Phase}
use Rattle.wm_law.specs.Counts.{is_waiting, is_starting, is_active}
use Rattle.wm_law.specs.Jobs.{changed_at, waiting_at, active_at}
use Rattle.wm_law.specs.Named.{is_ended}
use Rattle.wm_indexes.specs.Names.{IsNames}
use Rattle.wm_ordered.specs.Ordered.{key_of}
use Rattle.wm_ordered.proofs.Members.{Contains-head}
use Rattle.wm_ordered.specs.declared.waiter.Waiter.{Waiter}
use Rattle.wm_ordered.specs.Waiting.{HavePlaces}
use Rattle.wm_ordered.specs.Waiting as waiting
use Rattle.wm_pick.specs.Parts.{waiter_of, waiters}
use Rattle.wm_jobs.specs.declared.touched.Found.{Found}
use Rattle.wm_jobs.specs.declared.touched.Mark.{Mark}
use Rattle.wm_jobs.specs.declared.touched.Standing.{Standing}
use Rattle.wm_jobs.specs.Indexed.{order_of}
use Rattle.wm_jobs.specs.Marked.{standing_of, touched_of, standing_as, restored, marked_by}
use Rattle.wm_jobs.specs.Standings.{bit, comes, spent, rank, IsAround, IsItsPlace, CanFollow, HasFollowed, IsFound, LeavesAll, MayStand}
use Rattle.wm_jobs.specs.Table.{Table, serial_of, is_busy}
use Rattle.wm_jobs.specs.TableInside.{table_of, pending_of, IsListed, AreListed, IsIndexed, IsMarked, KeepsHow, IsKept, IsTableInside}
use Rattle.wm_jobs.specs.declared.table.JobTable.TheInside.{Inside}
use Rattle.wm_jobs.proofs.Changes.{all-there, few-hows, renewed-listed}
use Rattle.wm_jobs.proofs.Followed.{entries, has-entry, followed, phase-parts, come-bits, spent-bits}
use Rattle.wm_jobs.proofs.JobParts.{waiter-keyed, waiter-placed, waiter-some, order-keyed, has-started, is-waiter}
use Rattle.wm_jobs.proofs.Sifted.{picked-keys, picked-parts}
use Rattle.wm_jobs.proofs.Splits.{IsSplit, split-at, found-at, map-split}
use Rattle.wm_jobs.proofs.Stood.{agrees, undoable-noted}
use Rattle.wm_jobs.proofs.Undone.{first-back, marked-noted, noted, only-there}

-- the job changed, where it passes a test
module _ (test : Job → Bool) where
  abbrev pub changed_if : (Job → Job) → Job → Job
  changed_if change j = cond (test j) (change j) j

  swap : {X : Type 0} (a b : Bool) (x y : X) → cond (a && b) x y ≡ cond b (cond a x y) y
  swap true true x y = refl
  swap true false x y = refl
  swap false true x y = refl
  swap false false x y = refl

  pub map-if : (s : ℕ) (change : Job → Job) (js : List Job) → map (λ (j : Job). cond (test j && j.serial == s) (change j) j) js ≡ map (changed_at s (changed_if change)) js
  map-if s change [] = refl
  map-if s change (j ∷ js) =
      ap (λ (k : Job). k ∷ map (λ (i : Job). cond (test i && i.serial == s) (change i) i) js) (swap (test j) (j.serial == s) (change j) j)
      ∙ ap (λ (ks : List Job). cond (j.serial == s) (changed_if change j) j ∷ ks) (map-if s change js)

-- where each change of the job of a serial leaves all, so does one of it that asks for more
pub leaves-if : (test : Job → Bool) (s : ℕ) (js : List Job) → LeavesAll (changed_at s) js → (change : Job → Job) → js ≡ map (λ (j : Job). cond (test j && j.serial == s) (change j) j) js
leaves-if test s js leaves change = leaves (changed_if test change) ∙ sym (map-if test s change js)

abbrev pub job_waits : Job → Bool
job_waits j = is_waiting j.phase

abbrev pub job_acts : Job → Bool
job_acts j = is_active j.phase

pub around-of : (s : ℕ) (js l r : List Job) (x : Job) → IsSplit serial_of s js l r x → IsAround l r x.serial
around-of s js l r x split = subst (λ (n : ℕ). IsAround l r n) (sym split.here) (record { lower = split.lower; higher = split.higher })

-- how a phase that doesn't go back may be counted
pub forth : (p q : Phase) → rank p ≤ rank q → (bit (is_waiting q) ≤ bit (is_waiting p)) × (bit (is_starting q) + bit (is_waiting q) ≤ bit (is_starting p) + bit (is_waiting p)) × (comes (is_active p) (is_active q) + bit (is_waiting q) ≤ bit (is_waiting p)) × (bit (is_ended p) ≤ bit (is_ended q))
forth p q le =
    let a = phase-parts p in
    let b = phase-parts q in
    let come = come-bits (is_active p) (is_active q) in
    (omega arith, omega arith, omega arith, omega arith)

bit-or : (b c : Bool) → bit b ≤ bit c → c ≡ (b || c)
bit-or true true le = refl
bit-or true false le = absurd (omega arith)
bit-or false c le = refl

bit-on : (b c : Bool) → bit b ≤ bit c → b ≡ true → c ≡ true
bit-on b true le on = refl
bit-on true false le on = absurd (omega arith)
bit-on false false le on = on

pub bit-if : {E : Type 0} (b : Bool) (e : E) → bit (is_some (cond b (Some e) None)) ≡ bit b
bit-if true e = refl
bit-if false e = refl

-- one is spent at the most
pub spent-one : (p q : Phase) → spent p q ≤ 1
spent-one p q = on (not (is_waiting p && not (is_waiting q)))
  where
    on : (b : Bool) → bit b ≤ 1
    on true = omega arith
    on false = omega arith

-- where a job stands in the list of a table
module _ (t : Inside) (h : IsKept t) (l r : List Job) (x : Job) (whole : t.jobs.items ≡ l ++ x ∷ r) (around : IsAround l r x.serial) where
  indexed-there : IsIndexed (l ++ x ∷ r) t.waiting t.tally t.starting t.active t.prestart t.busy
  indexed-there = subst (λ (js : List Job). IsIndexed js t.waiting t.tally t.starting t.active t.prestart t.busy) whole h.indexed

  pub names-there : IsNames (l ++ x ∷ r) t.names
  names-there = subst (λ (js : List Job). IsNames js t.names) whole h.named.are

  pub listed-there : IsListed t.next_serial t.next_place x
  listed-there = all-there (IsListed t.next_serial t.next_place) l r x (subst (λ (js : List Job). All (IsListed t.next_serial t.next_place) js) whole h.listed.each)

  pub waits-there : bit (is_some (waiter_of x)) ≤ length t.waiting.items
  waits-there = has-entry waiter_of waiting.serial_of waiter-keyed l r x t.waiting.items indexed-there.waiters_are

  module _ (to : Standing) where
    abbrev y : Job
    y = standing_as to x

    pub can-follow : (is_waiting to.phase ≡ true → IsItsPlace to.place x.serial t.waiting.items) → (is_active x.phase ≡ true → is_active to.phase ≡ true → to.how ≡ x.how) → comes (is_some (waiter_of x)) (is_some (waiter_of y)) ≤ t.waiting.spare → comes (is_active x.phase) (is_active to.phase) ≤ t.tally.spare → comes (is_starting x.phase) (is_starting to.phase) ≤ t.starting.spare → comes (is_active x.phase) (is_active to.phase) ≤ t.active.spare → comes (is_active x.phase) (is_active to.phase) ≤ t.prestart.spare → CanFollow t.waiting t.tally t.starting t.active t.prestart t.names x to
    can-follow own how to_wait to_count to_start to_list to_seat = record {
      waits = record { before = l; behind = r; around = around; are = indexed-there.waiters_are };
      own = own;
      to_wait = to_wait;
      counted = λ active. has-started l r x t.tally active indexed-there.hows_are;
      few = few-hows t.jobs.items t.waiting t.tally t.starting t.active t.prestart t.busy (vec_capacity t.jobs) t.room h.indexed h.room;
      how = how;
      to_count = to_count;
      starts = record { before = l; behind = r; around = around; are = indexed-there.orders_are };
      to_start = to_start;
      acts = record { before = l; behind = r; around = around; are = indexed-there.active_are };
      to_list = to_list;
      seats = record { before = l; behind = r; around = around; are = indexed-there.prestart_are };
      to_seat = to_seat;
      named = λ lasts. record { before = l; behind = r; are = names-there; lasts = lasts };
    }

    module _ (new : Inside) (f : HasFollowed x to t.waiting new.waiting t.tally new.tally t.starting new.starting t.active new.active t.prestart new.prestart t.names new.names) (busy : new.busy + bit (is_busy x) ≡ t.busy + bit (is_busy y)) where
      pub followed-there : IsIndexed (l ++ y ∷ r) new.waiting new.tally new.starting new.active new.prestart new.busy
      followed-there = followed l r x y around t.waiting new.waiting t.tally new.tally t.starting new.starting t.active new.active t.prestart new.prestart t.busy new.busy indexed-there f.waits f.hows f.starts f.acts f.seats busy

      -- how many more wait, and how many more are orders
      pub waits-more : length new.waiting.items + bit (is_some (waiter_of x)) ≡ length t.waiting.items + bit (is_some (waiter_of y))
      waits-more = entries waiter_of waiting.serial_of waiter-keyed x y refl t.waiting.items new.waiting.items l r indexed-there.waiters_are followed-there.waiters_are

      pub starts-more : length new.starting.items + bit (is_starting x.phase) ≡ length t.starting.items + bit (is_starting to.phase)
      starts-more =
          let more = entries order_of key_of order-keyed x y refl t.starting.items new.starting.items l r indexed-there.orders_are followed-there.orders_are in
          let was : bit (is_some (order_of x)) ≡ bit (is_starting x.phase) = bit-if (is_starting x.phase) (x.serial, tt) in
          let is : bit (is_some (order_of y)) ≡ bit (is_starting to.phase) = bit-if (is_starting to.phase) (x.serial, tt) in
          omega arith

-- the places of those that wait were given
pub places-below : (t : Inside) → IsKept t → (w : Waiter) → Contains (waiters t.jobs.items) w → w.place < t.next_place
places-below t h w there =
    All-contains (λ (u : Waiter). u.place < t.next_place) (waiters t.jobs.items) w
    (picked-keys (λ k. k.place) waiter_of (λ u. u.place) waiter-placed (λ n. n < t.next_place) t.jobs.items (All-weaker (IsListed t.next_serial t.next_place) (λ (k : Job). k.place < t.next_place) (λ k l. l.place) t.jobs.items h.listed.each)) there

-- the job of a serial that is found in a table
module _ (v : Table) (s : ℕ) (fd : Found) (found : IsFound v s fd) where
  found-split : IsSplit serial_of s v.jobs (take fd.at v.jobs) (drop (suc fd.at) v.jobs) found.job
  found-split =
      let same : ◌≡◌ {A = Option Job} (Some (get_or v.jobs fd.at found.job)) (Some found.job) = sym (found-at serial_of s v.jobs fd.at found.job found.there) ∙ found.found in
      subst (λ (j : Job). IsSplit serial_of s v.jobs (take fd.at v.jobs) (drop (suc fd.at) v.jobs) j) (cc same) (split-at serial_of s v.jobs fd.at found.job found.there)

  -- two changes that make the same of it make the same of the jobs
  pub alike : (f g : Job → Job) → f found.job ≡ g found.job → map (changed_at s f) v.jobs ≡ map (changed_at s g) v.jobs
  alike f g same =
      let l = take fd.at v.jobs in
      let r = drop (suc fd.at) v.jobs in
      map-split serial_of s f v.jobs l r found.job found-split ∙ (ap (λ (j : Job). l ++ j ∷ r) same ∙ sym (map-split serial_of s g v.jobs l r found.job found-split))

  pub left-alone : (f : Job → Job) → f found.job ≡ found.job → v.jobs ≡ map (changed_at s f) v.jobs
  left-alone f same =
      let l = take fd.at v.jobs in
      let r = drop (suc fd.at) v.jobs in
      found-split.whole ∙ (ap (λ (j : Job). l ++ j ∷ r) (sym same) ∙ sym (map-split serial_of s f v.jobs l r found.job found-split))

  phase-there : found.job.phase ≡ fd.was.phase
  phase-there = ap (λ (st : Standing). st.phase) (sym found.was)

  pub waiting-alike : (f change : Job → Job) → is_waiting fd.was.phase ≡ true → f found.job ≡ change found.job → map (changed_at s f) v.jobs ≡ map (waiting_at s change) v.jobs
  waiting-alike f change waits same = alike f (changed_if job_waits change) (same ∙ ap (λ b. cond b (change found.job) found.job) (sym (ap is_waiting phase-there ∙ waits))) ∙ sym (map-if job_waits s change v.jobs)

  pub active-alike : (f change : Job → Job) → is_active fd.was.phase ≡ true → f found.job ≡ change found.job → map (changed_at s f) v.jobs ≡ map (active_at s change) v.jobs
  active-alike f change active same = alike f (changed_if job_acts change) (same ∙ ap (λ b. cond b (change found.job) found.job) (sym (ap is_active phase-there ∙ active))) ∙ sym (map-if job_acts s change v.jobs)

  pub unwaiting : is_waiting fd.was.phase ≡ false → LeavesAll (waiting_at s) v.jobs
  unwaiting waits change = left-alone (changed_if job_waits change) (ap (λ b. cond b (change found.job) found.job) (ap is_waiting phase-there ∙ waits)) ∙ sym (map-if job_waits s change v.jobs)

  pub inactive : is_active fd.was.phase ≡ false → LeavesAll (active_at s) v.jobs
  inactive active change = left-alone (changed_if job_acts change) (ap (λ b. cond b (change found.job) found.job) (ap is_active phase-there ∙ active)) ∙ sym (map-if job_acts s change v.jobs)

-- one that stands there is found
pub is-found : (t : Inside) (h : IsKept t) (v : Table) (view : table_of t ≡ v) (s at : ℕ) (x : Job) (js : List Job) (same : js ≡ t.jobs.items) (there : IsAt serial_of nat_cmp s js at) (is : x ≡ get_or t.jobs.items at x) (places : HavePlaces t.waiting.items) (was : Standing) → was ≡ standing_of x → IsFound v s (record { at = at; was = was })
is-found t h v view s at x js same there is places was stands =
    let here = subst (λ (ks : List Job). IsAt serial_of nat_cmp s ks at) same there in
    let split : IsSplit serial_of s t.jobs.items (take at t.jobs.items) (drop (suc at) t.jobs.items) x = subst (λ (j : Job). IsSplit serial_of s t.jobs.items (take at t.jobs.items) (drop (suc at) t.jobs.items) j) (sym is) (split-at serial_of s t.jobs.items at x here) in
    let listed = listed-there t h (take at t.jobs.items) (drop (suc at) t.jobs.items) x split.whole (around-of s t.jobs.items (take at t.jobs.items) (drop (suc at) t.jobs.items) x split) in
    let own : is_waiting x.phase ≡ true → IsItsPlace x.place s (waiters t.jobs.items) =
    λ waiting_now w there_w e.
    (let mine = waiter-some x waiting_now (listed.queue waiting_now) in
    let all : HavePlaces (waiters t.jobs.items) = subst (λ (ws : List Waiter). HavePlaces ws) h.indexed.waiters_are places in
    let its : Contains (waiters t.jobs.items) mine.0 = subst (λ (ls : List Job). Contains (waiters ls) mine.0) (sym split.whole) (subst (λ (ws : List Waiter). Contains ws mine.0) (sym (picked-parts serial_of waiter_of waiting.serial_of waiter-keyed (take at t.jobs.items) (drop (suc at) t.jobs.items) x (Some mine.0) mine.1)) (Contains-append_right (waiters (take at t.jobs.items)) (mine.0 ∷ waiters (drop (suc at) t.jobs.items)) mine.0 (Contains-head mine.0 (waiters (drop (suc at) t.jobs.items))))) in
    ap (λ (u : Waiter). u.serial) (all w mine.0 there_w its (e ∙ sym (waiter-placed x mine.0 mine.1))) ∙ (waiter-keyed x mine.0 mine.1 ∙ split.here)) in
    subst (λ (u : Table). IsFound u s (record { at = at; was = was })) view (subst (λ (st : Standing). IsFound (table_of t) s (record { at = at; was = st })) (sym stands) (record {
      job = x;
      there = here;
      found = found-at serial_of s t.jobs.items at x here ∙ ap (λ (j : Job). Some j) (sym is);
      was = refl;
      place = listed.place;
      own = own;
    }))

-- where it comes to stand otherwise
module _ (t : Inside) (h : IsTableInside t) (v : Table) (view : table_of t ≡ v) (s : ℕ) (fd : Found) (to : Standing) (found : IsFound v s fd) (may : MayStand v s fd.was to) (x : Job) (is : x ≡ get_or t.jobs.items fd.at x) where
  abbrev l : List Job
  l = take fd.at t.jobs.items

  abbrev r : List Job
  r = drop (suc fd.at) t.jobs.items

  abbrev pub changed : Job
  changed = standing_as to x

  there : IsAt serial_of nat_cmp s t.jobs.items fd.at
  there = subst (λ (u : Table). IsAt serial_of nat_cmp s u.jobs fd.at) (sym view) found.there

  split : IsSplit serial_of s t.jobs.items l r x
  split = subst (λ (j : Job). IsSplit serial_of s t.jobs.items l r j) (sym is) (split-at serial_of s t.jobs.items fd.at x there)

  around : IsAround l r x.serial
  around = around-of s t.jobs.items l r x split

  -- it stands as it was found
  was : fd.was ≡ standing_of x
  was =
      let inside : find (λ (j : Job). j.serial == s) t.jobs.items ≡ Some found.job = subst (λ (u : Table). find (λ (j : Job). j.serial == s) u.jobs ≡ Some found.job) (sym view) found.found in
      let same : ◌≡◌ {A = Option Job} (Some found.job) (Some x) = sym inside ∙ (found-at serial_of s t.jobs.items fd.at x there ∙ ap (λ (j : Job). Some j) (sym is)) in
      let this : found.job ≡ x = cc same in
      found.was ∙ ap standing_of this

  goes : MayStand (table_of t) s (standing_of x) to
  goes = subst (λ (st : Standing). MayStand (table_of t) s st to) was (subst (λ (u : Table). MayStand u s fd.was to) (sym view) may)

  there-listed : IsListed t.next_serial t.next_place x
  there-listed = listed-there t h.kept l r x split.whole around

  has-queue : is_waiting to.phase ≡ true → is_some to.jobq ≡ true
  has-queue waits = goes.queue (there-listed.queue (bit-on (is_waiting to.phase) (is_waiting x.phase) (forth x.phase to.phase goes.forward).0 waits))

  was-waiter : bit (is_some (waiter_of x)) ≡ bit (is_waiting x.phase)
  was-waiter = ap bit (is-waiter x there-listed.queue)

  is-waiter-then : bit (is_some (waiter_of changed)) ≡ bit (is_waiting to.phase)
  is-waiter-then = ap bit (is-waiter changed has-queue)

  pub spent-same : spent fd.was.phase to.phase ≡ spent x.phase to.phase
  spent-same = ap (λ (st : Standing). spent st.phase to.phase) was

  -- the change can be noted
  pub spends : spent x.phase to.phase ≤ t.changes
  spends = goes.changes

  pub finds-room : length t.touched.items < vec_capacity t.touched
  finds-room =
      let some = spends in
      let one = spent-bits x.phase to.phase (forth x.phase to.phase goes.forward).0 in
      let waits = waits-there t h.kept l r x split.whole around in
      let bits = was-waiter in
      let fits = h.marked.to_touch in
      omega arith

  pub follows : CanFollow t.waiting t.tally t.starting t.active t.prestart t.names x to
  follows =
      let f = forth x.phase to.phase goes.forward in
      let waits = waits-there t h.kept l r x split.whole around in
      let was_bit = was-waiter in
      let is_bit = is-waiter-then in
      let come = come-bits (is_some (waiter_of x)) (is_some (waiter_of changed)) in
      let start = come-bits (is_starting x.phase) (is_starting to.phase) in
      let p = phase-parts x.phase in
      let q = phase-parts to.phase in
      let room = h.kept.room in
      let count = room.to_count in
      let starts = room.to_start in
      let list = h.undos.to_list in let seat = h.undos.to_seat in
      can-follow t h.kept l r x split.whole around to
      (λ waiting_then. subst (λ (ws : List Waiter). IsItsPlace to.place x.serial ws) (sym h.kept.indexed.waiters_are) (subst (λ (n : ℕ). IsItsPlace to.place n (waiters t.jobs.items)) (sym split.here) (goes.own waiting_then)))
      goes.how (omega arith) (omega arith) (omega arith) (omega arith) (omega arith)

  module _ (new : Inside) (jobs : new.jobs.items ≡ map (changed_at s (standing_as to)) t.jobs.items) (f : HasFollowed x to t.waiting new.waiting t.tally new.tally t.starting new.starting t.active new.active t.prestart new.prestart t.names new.names) (busy : new.busy + bit (is_busy x) ≡ t.busy + bit (is_busy changed)) (touched : new.touched.items ≡ t.touched.items ++ touched_of x ∷ []) (changes : new.changes + spent x.phase to.phase ≡ t.changes) where
    stood : new.jobs.items ≡ l ++ changed ∷ r
    stood = jobs ∙ map-split serial_of s (standing_as to) t.jobs.items l r x split

    back : restored (touched_of x) (take t.mark.jobs new.jobs.items) ≡ take t.mark.jobs t.jobs.items
    back = first-back t.mark.jobs s t.jobs.items new.jobs.items l r x (standing_as to) split refl refl jobs

    -- an active job keeps its how
    keeps-how : KeepsHow (touched_of x) (take t.mark.jobs new.jobs.items)
    keeps-how =
        let whole = only-there s new.jobs.items l r changed (record { whole = stood; here = split.here; lower = split.lower; higher = split.higher }) in
        All-take (λ (j : Job). j.serial ≡ x.serial → is_active j.phase ≡ true → is_active x.phase ≡ true → x.how ≡ j.how) t.mark.jobs new.jobs.items
        (All-weaker (λ (j : Job). j.serial ≡ s → j ≡ changed) (λ (j : Job). j.serial ≡ x.serial → is_active j.phase ≡ true → is_active x.phase ≡ true → x.how ≡ j.how)
        (λ j only same is_now was_then. let this = only (same ∙ split.here) in sym (ap (λ (k : Job). k.how) this ∙ goes.how was_then (ap (λ (k : Job). is_active k.phase) (sym this) ∙ is_now))) new.jobs.items whole)

    pub restood-marked : marked_by t.mark new.touched.items new.jobs.items ≡ marked_by t.mark t.touched.items t.jobs.items
    restood-marked = marked-noted t.mark t.touched.items new.touched.items (touched_of x) t.jobs.items new.jobs.items touched back

    pub notes-more : length new.touched.items ≡ length t.touched.items + 1
    notes-more = ap length touched ∙ length-append t.touched.items (touched_of x ∷ [])

    -- a note takes the place of what may be noted
    pub less-left : length new.waiting.items + new.changes + 1 ≡ length t.waiting.items + t.changes
    less-left =
        let more = waits-more t h.kept l r x split.whole around to new f busy in
        let one = spent-bits x.phase to.phase (forth x.phase to.phase goes.forward).0 in
        let was_bit = was-waiter in
        let is_bit = is-waiter-then in
        omega arith

    length-stood : length new.jobs.items ≡ length t.jobs.items
    length-stood = ap length jobs ∙ length-map t.jobs.items (changed_at s (standing_as to))

    restood-kept : new.next_serial ≡ t.next_serial → new.next_place ≡ t.next_place → new.room ≡ t.room → vec_capacity new.jobs ≡ vec_capacity t.jobs → IsKept new
    restood-kept ns np room capacity =
        let g = forth x.phase to.phase goes.forward in
        let waits = waits-more t h.kept l r x split.whole around to new f busy in
        let starts = starts-more t h.kept l r x split.whole around to new f busy in
        let was_bit = was-waiter in
        let is_bit = is-waiter-then in
        let o = h.kept.room in
        let stand = o.to_stand in
        let few = o.few in
        let wait = o.to_wait in
        let count = o.to_count in
        let start = o.to_start in
        let n = length-stood in
        let to_wait = f.to_wait in
        let to_count = f.to_count in
        let nodes = f.nodes in
        let to_name = f.to_name in
        let name = h.kept.named.to_name in
        record {
          listed = rw (stood, ns, np) (renewed-listed s l r x changed split.here split.lower split.higher refl t.next_serial t.next_place t.next_place (omega arith) goes.place has-queue (subst (λ (js : List Job). AreListed t.next_serial t.next_place js) split.whole h.kept.listed));
          indexed = rw stood (followed-there t h.kept l r x split.whole around to new f busy);
          room = record { to_stand = omega arith; few = omega arith; to_wait = omega arith; to_count = omega arith; to_start = omega arith };
          named = rw stood (record { are = f.names l r changed refl refl (bit-or (is_ended x.phase) (is_ended to.phase) g.3) (names-there t h.kept l r x split.whole around); to_name = omega arith });
        }

    pub restood-inside : new.next_serial ≡ t.next_serial → new.next_place ≡ t.next_place → new.room ≡ t.room → new.undos ≡ t.undos → new.mark ≡ t.mark → vec_capacity new.jobs ≡ vec_capacity t.jobs → vec_capacity new.touched ≡ vec_capacity t.touched → HavePlaces new.waiting.items → IsTableInside new
    restood-inside ns np room undos mark capacity fits places =
        let g = forth x.phase to.phase goes.forward in
        let waits = waits-more t h.kept l r x split.whole around to new f busy in
        let was_bit = was-waiter in
        let is_bit = is-waiter-then in
        let less = less-left in
        let more = notes-more in
        let had = h.undos in
        let wait = had.to_wait in
        let count = had.to_count in
        let list = had.to_list in let seat = had.to_seat in
        let name = had.to_name in
        let to_wait = f.to_wait in
        let to_count = f.to_count in
        let to_list = f.to_list in let to_seat = f.to_seat in
        let to_name = f.to_name in
        let nodes = f.nodes in
        let clock = f.clock in
        agrees new (restood-kept ns np room capacity)
        (record { to_wait = omega arith; to_count = omega arith; to_list = omega arith; to_seat = omega arith; to_name = omega arith })
        (λ kept. undoable-noted t.mark t.touched.items t.jobs.items t.next_serial t.next_place (pending_of t.starting t.room) t.waiting.clock h.undoable new kept places mark (omega arith) (omega arith) (omega arith) (omega arith) (touched_of x) touched back keeps-how)
        (noted t.jobs.items new.jobs.items t.touched.items new.touched.items (touched_of x) (changed_at s (standing_as to)) new.mark.jobs (vec_capacity t.touched) (vec_capacity new.touched) (length t.waiting.items) (length new.waiting.items) t.room new.room t.changes new.changes (subst (λ (m : Mark). IsMarked m.jobs (length t.jobs.items) (length t.touched.items) (vec_capacity t.touched) (length t.waiting.items) t.room t.changes) (sym mark) h.marked) jobs touched fits (omega arith))
