-- What dropping the last job and undoing the newest change make of a table.
use Rattle.std.proofs.Common.{◌≡◌, ℕ, suc, ◌+◌, ◌-◌, ◌<◌, ◌≤◌, true, false, ◌||◌, cond, Bool, List, [], ◌∷◌, ◌++◌, length, get_or, take, drop, take_all, Option, Some, None, is_some, option_map, vec_capacity, refl, ap, sym, ◌∙◌, subst, arith, eq-eqb, inl, inr}
use mathlib.Core.Bool.{false≢true}
use Rattle.std.specs.Ordering.{nat_cmp}
use Rattle.std.specs.List.{cons_option, Contains}
use Rattle.std.proofs.lemmas.List.{get_or-map, length-append, length-map}
use Rattle.std.proofs.lemmas.List.Elements.{All-nil, Contains-append_cases, Contains-append_left, Contains-append_right}
use Rattle.wm_base.specs.declared.job.EndCause.TheVariants.{Restarted}
use Rattle.wm_desc.specs.Place.{IsAt}
use Rattle.wm_law.specs.declared.job.Job.{Job}
use Rattle.wm_law.specs.declared.job.Phase.TheVariants.{Ended}
use Rattle.wm_law.specs.Counts.{is_waiting, is_starting, is_active}
use Rattle.wm_law.specs.Jobs.{changed_at}
use Rattle.wm_law.specs.Named.{is_ended}
use Rattle.wm_law.specs.Reports.{in_phase}
use Rattle.wm_indexes.specs.Names.{Names, IsNames, HasLast, HasFew as HasFewNames}
use Rattle.wm_ordered.specs.Ordered.{key_of}
use Rattle.wm_ordered.proofs.Members.{Contains-head, Contains-cons, Contains-cases}
use Rattle.wm_pick.specs.Tally.{IsTally}
use Rattle.wm_ordered.specs.declared.waiter.Waiter.{Waiter}
use Rattle.wm_ordered.specs.Waiting as waiting
use Rattle.wm_pick.specs.Parts.{waiter_on, waiter_of, waiters}
use Rattle.wm_jobs.specs.declared.touched.Mark.{Mark}
use Rattle.wm_jobs.specs.declared.touched.Standing.{Standing}
use Rattle.wm_jobs.specs.declared.touched.Touched.{Touched}
use Rattle.wm_jobs.specs.Indexed.{order_of, orders, active_of}
use Rattle.wm_jobs.specs.Marked.{standing_of, standing_as, restored, undone, marked_by}
use Rattle.wm_jobs.specs.Standings.{bit, comes, IsAround, IsItsPlace, NamesAgain, CanFollow, HasFollowed}
use Rattle.wm_jobs.specs.Table.{Table, serial_of, is_busy}
use Rattle.wm_jobs.specs.TableInside.{table_of, pending_of, IsListed, AreListed, IsIndexed, AreInPlace, KeepsHow, StoodInPlace, IsUndoable, IsTableInside}
use Rattle.wm_jobs.specs.declared.table.JobTable.TheInside.{Inside}
use Rattle.wm_jobs.proofs.AtStored.{behind-others}
use Rattle.wm_jobs.proofs.Changes.{all-there}
use Rattle.wm_jobs.proofs.Followed.{entries, phase-parts, come-bits}
use Rattle.wm_jobs.proofs.JobParts.{waiter-keyed, waiter-placed, waiter-none, waiter-some, order-keyed, order-none, active-keyed, active-none, hows-pushed, count-pushed}
use Rattle.wm_jobs.proofs.Restood.{around-of, bit-if, can-follow, followed-there, waits-more, starts-more, names-there}
use Rattle.wm_jobs.proofs.Sifted.{picked-parts, pushed-same}
use Rattle.wm_jobs.proofs.Splits.{IsSplit, split-at, map-split}
use Rattle.wm_jobs.proofs.Stood.{agrees, listed-front, stood-how, stood-now, stood-undone, undoable-same, first-pushed}
use Rattle.wm_jobs.proofs.Undone.{undone-newest, marked-length, marked-noted, marked-pushed, marked-same}
use Rattle.wm_indexes.specs.OfJobs.{row_of}
use Rattle.wm_jobs.proofs.PrestartParts.{row-keyed, row-none}

-- where there are as many jobs as there were at the mark, they are those
pub all-marked : (t : Inside) (h : IsTableInside t) (v : Table) → table_of t ≡ v → length v.jobs ≡ length v.marked.jobs → length t.jobs.items ≡ t.mark.jobs
all-marked t h v view all =
    subst (λ (w : Table). length w.jobs ≡ length w.marked.jobs) (sym view) all ∙ marked-length t.mark t.touched.items t.jobs.items h.marked.there

-- there is one to spend
pub spends : (t : Inside) (v : Table) → table_of t ≡ v → 1 ≤ length v.touched → length v.touched ≤ v.undos → t.undos - 1 + 1 ≡ t.undos
spends t v view some room =
    let a : 1 ≤ length t.touched.items = subst (λ (w : Table). 1 ≤ length w.touched) (sym view) some in
    let b : length t.touched.items ≤ t.undos = subst (λ (w : Table). length w.touched ≤ w.undos) (sym view) room in
    omega arith

module _ (t : Inside) (h : IsTableInside t) (ts : List Touched) (u : Touched) (popped : t.touched.items ≡ ts ++ u ∷ []) (all : length t.jobs.items ≡ t.mark.jobs) where
  abbrev before : List Job
  before = restored u t.jobs.items

  whole : take t.mark.jobs t.jobs.items ≡ t.jobs.items
  whole = take_all t.mark.jobs t.jobs.items (omega (arith, all))

  whole-before : take t.mark.jobs before ≡ before
  whole-before = take_all t.mark.jobs before (let n = length-map t.jobs.items (changed_at u.serial (standing_as u.was)) in omega (arith, all))

  abbrev most : ℕ
  most = pending_of t.starting t.room

  stood : StoodInPlace t.next_serial t.next_place most ts before
  stood = stood-undone t.next_serial t.next_place most ts u t.jobs.items (subst (λ (us : List Touched). StoodInPlace t.next_serial t.next_place most us t.jobs.items) popped (subst (λ (js : List Job). StoodInPlace t.next_serial t.next_place most t.touched.items js) whole h.undoable.stood))

  -- the jobs stood in place before the change
  pub before-in-place : AreInPlace t.next_serial t.next_place most before
  before-in-place = stood-now t.next_serial t.next_place most ts before stood

  -- an active job has kept its how since
  pub before-how : KeepsHow u t.jobs.items
  before-how = subst (λ (js : List Job). KeepsHow u js) whole (stood-how t.next_serial t.next_place most ts u (take t.mark.jobs t.jobs.items) (subst (λ (us : List Touched). StoodInPlace t.next_serial t.next_place most us (take t.mark.jobs t.jobs.items)) popped h.undoable.stood))

  -- and what was done before it can be undone
  pub before-undoable : (ks : List Job) → ks ≡ before → IsUndoable t.mark ts ks t.next_serial t.next_place most t.waiting.clock
  before-undoable ks is = subst (λ (js : List Job). IsUndoable t.mark ts js t.next_serial t.next_place most t.waiting.clock) (sym is) (record {
    stood = subst (λ (js : List Job). StoodInPlace t.next_serial t.next_place most ts js) (sym whole-before) stood;
    began = subst (λ (js : List Job). AreListed t.mark.next_serial t.mark.next_place js)
        (ap (undone t.touched.items) whole ∙ (ap (λ (us : List Touched). undone us t.jobs.items) popped ∙ (undone-newest ts u t.jobs.items ∙ ap (undone ts) (sym whole-before)))) h.undoable.began;
    clock = h.undoable.clock;
  })

  -- what was at the mark stays
  pub before-marked : (ks : List Job) → ks ≡ before → marked_by t.mark ts ks ≡ marked_by t.mark t.touched.items t.jobs.items
  before-marked ks is =
      sym (marked-noted t.mark ts t.touched.items u ks t.jobs.items popped (ap (restored u) whole ∙ (sym whole-before ∙ ap (take t.mark.jobs) (sym is))))

waits-most : (b : Bool) (o : Option Waiter) → bit (is_some (cond b o None)) ≤ bit b
waits-most true None = omega arith
waits-most true (Some w) = omega arith
waits-most false o = omega arith

-- a job waits on a queue, or counts, or neither
waits-or-acts : (y : Job) → bit (is_some (waiter_of y)) + bit (is_active y.phase) ≤ 1
waits-or-acts y =
    let parts = phase-parts y.phase in
    let most = waits-most (is_waiting y.phase) (option_map (λ queue. waiter_on queue y) y.jobq) in
    omega arith

-- where the last job, which came since the mark, is taken out
module _ (t : Inside) (h : IsTableInside t) (js : List Job) (x : Job) (whole : t.jobs.items ≡ js ++ x ∷ []) (to : Standing) (ended : to ≡ standing_of (in_phase (Ended Restarted) x)) where
  abbrev as_ended : Job
  as_ended = in_phase (Ended Restarted) x

  stands : standing_as to x ≡ as_ended
  stands = ap (λ (st : Standing). standing_as st x) ended

  phase : to.phase ≡ Ended Restarted
  phase = ap (λ (st : Standing). st.phase) ended

  listed : AreListed t.next_serial t.next_place (js ++ x ∷ [])
  listed = subst (λ (ls : List Job). AreListed t.next_serial t.next_place ls) whole h.kept.listed

  around : IsAround js [] x.serial
  around = record { lower = behind-others js [] x listed.sorted; higher = All-nil (λ (k : Job). x.serial < k.serial) }

  pub drop-follows : CanFollow t.waiting t.tally t.starting t.active t.prestart t.names x to
  drop-follows =
      let none : bit (is_some (waiter_of (standing_as to x))) ≡ 0 = ap (λ (j : Job). bit (is_some (waiter_of j))) stands in
      let inactive : bit (is_active to.phase) ≡ 0 = ap (λ p. bit (is_active p)) phase in
      let unstarted : bit (is_starting to.phase) ≡ 0 = ap (λ p. bit (is_starting p)) phase in
      let waits = come-bits (is_some (waiter_of x)) (is_some (waiter_of (standing_as to x))) in
      let acts = come-bits (is_active x.phase) (is_active to.phase) in
      let starts = come-bits (is_starting x.phase) (is_starting to.phase) in
      can-follow t h.kept js [] x whole around to (λ waiting_then. absurd (false≢true (ap is_waiting (sym phase) ∙ waiting_then))) (λ _ active. absurd (false≢true (ap is_active (sym phase) ∙ active))) (omega arith) (omega arith) (omega arith) (omega arith) (omega arith)

  length-all : length t.jobs.items ≡ length js + 1
  length-all = ap length whole ∙ length-append js (x ∷ [])

  -- the jobs of the mark are all among the others
  pub marked-there : (v : Table) → table_of t ≡ v → length v.marked.jobs < length v.jobs → t.mark.jobs ≤ length js
  marked-there v view less =
      let before : length (undone t.touched.items (take t.mark.jobs t.jobs.items)) < length t.jobs.items = subst (λ (w : Table). length w.marked.jobs < length w.jobs) (sym view) less in
      let n = marked-length t.mark t.touched.items t.jobs.items h.marked.there in
      let m = length-all in
      omega arith

  pub dropped-marked : t.mark.jobs ≤ length js → (ks : List Job) → ks ≡ js → marked_by t.mark t.touched.items ks ≡ marked_by t.mark t.touched.items t.jobs.items
  dropped-marked there ks is = marked-same t.mark t.touched.items js ks is ∙ sym (marked-pushed t.mark t.touched.items js t.jobs.items x there whole)

  module _ (n : Names) (names : (before behind : List Job) (is : Job) → is.serial ≡ x.serial → is.job ≡ x.job → is_ended is.phase ≡ (is_ended x.phase || is_ended to.phase) → IsNames (before ++ x ∷ behind) t.names → IsNames (before ++ is ∷ behind) n) where
    or-true : (b : Bool) → true ≡ (b || true)
    or-true true = refl
    or-true false = refl

    names-left : IsNames (js ++ as_ended ∷ []) n
    names-left = names js [] as_ended refl refl (or-true (is_ended x.phase) ∙ ap (λ p. is_ended x.phase || is_ended p) (sym phase)) (names-there t h.kept js [] x whole around)

    pub drop-last : HasLast n as_ended
    drop-last = record { jobs = js; are = names-left; ended = refl }

  module _ (new : Inside) (n : Names) (f : HasFollowed x to t.waiting new.waiting t.tally new.tally t.starting new.starting t.active new.active t.prestart new.prestart t.names n) (busy : new.busy + bit (is_busy x) ≡ t.busy + bit (is_busy (standing_as to x))) (jobs : new.jobs.items ≡ js) where
    -- one that has ended leaves from behind the others
    dropped-indexed : IsIndexed js new.waiting new.tally new.starting new.active new.prestart new.busy
    dropped-indexed =
        let i = subst (λ (j : Job). IsIndexed (js ++ j ∷ []) new.waiting new.tally new.starting new.active new.prestart new.busy) stands (followed-there t h.kept js [] x whole around to (record new { names = n }) f busy) in
        record {
          waiters_are = i.waiters_are ∙ sym (pushed-same serial_of waiter_of waiting.serial_of waiter-keyed js as_ended (waiter-none as_ended refl));
          hows_are = subst (λ hs. IsTally hs new.tally) (hows-pushed js as_ended refl) i.hows_are;
          orders_are = i.orders_are ∙ sym (pushed-same serial_of order_of key_of order-keyed js as_ended (order-none as_ended refl));
          active_are = i.active_are ∙ sym (pushed-same serial_of active_of key_of active-keyed js as_ended (active-none as_ended refl));
          prestart_are = i.prestart_are ∙ sym (pushed-same serial_of row_of key_of row-keyed js as_ended (row-none as_ended refl));
          busy_are = i.busy_are ∙ count-pushed is_busy js as_ended refl;
        }

    pub dropped-inside : t.mark.jobs ≤ length js → ((ls : List Job) → IsNames (ls ++ as_ended ∷ []) n → IsNames ls new.names) → n.spare ≤ new.names.spare → new.next_serial ≡ t.next_serial → new.next_place ≡ t.next_place → new.room ≡ t.room → new.changes ≡ t.changes → new.undos ≡ t.undos → new.mark ≡ t.mark → new.touched ≡ t.touched → vec_capacity new.jobs ≡ vec_capacity t.jobs → IsTableInside new
    dropped-inside there forget less ns np room changes undos mark touched capacity =
        let waits = waits-more t h.kept js [] x whole around to (record new { names = n }) f busy in
        let none : bit (is_some (waiter_of (standing_as to x))) ≡ 0 = ap (λ (j : Job). bit (is_some (waiter_of j))) stands in
        let inactive : bit (is_active to.phase) ≡ 0 = ap (λ p. bit (is_active p)) phase in
        let acts = come-bits (is_active x.phase) (is_active to.phase) in
        let starts = starts-more t h.kept js [] x whole around to (record new { names = n }) f busy in
        let unstarted : bit (is_starting to.phase) ≡ 0 = ap (λ p. bit (is_starting p)) phase in
        let all = length-all in
        let o = h.kept.room in
        let stand = o.to_stand in
        let few = o.few in
        let wait = o.to_wait in
        let count = o.to_count in
        let start = o.to_start in
        let name = h.kept.named.to_name in
        let u = h.undos in
        let undo_wait = u.to_wait in
        let undo_count = u.to_count in
        let undo_list = u.to_list in let undo_seat = u.to_seat in
        let undo_name = u.to_name in
        let fits = h.marked.to_touch in
        let to_wait = f.to_wait in
        let to_count = f.to_count in
        let to_list = f.to_list in let to_seat = f.to_seat in
        let to_name = f.to_name in
        let nodes = f.nodes in
        let clock = f.clock in
        let left : length new.jobs.items ≡ length js = ap length jobs in
        let noted : length new.touched.items ≡ length t.touched.items = ap (λ ts. length ts.items) touched in
        let fits_touched : vec_capacity new.touched ≡ vec_capacity t.touched = ap (λ ts. vec_capacity ts) touched in
        let marked : new.mark.jobs ≡ t.mark.jobs = ap (λ (m : Mark). m.jobs) mark in
        agrees new
        (record {
          listed = rw (jobs, ns, np) (listed-front t.next_serial t.next_place js x listed);
          indexed = rw jobs dropped-indexed;
          room = record { to_stand = omega arith; few = omega arith; to_wait = omega arith; to_count = omega arith; to_start = omega arith };
          named = rw jobs (record { are = forget js (names-left n f.names); to_name = omega arith });
        })
        (record { to_wait = omega arith; to_count = omega arith; to_list = omega arith; to_seat = omega arith; to_name = omega arith })
        (λ kept. subst (λ (m : Mark). IsUndoable m new.touched.items new.jobs.items new.next_serial new.next_place (pending_of new.starting new.room) new.waiting.clock) (sym mark)
        (undoable-same t.mark t.touched.items new.touched.items t.jobs.items new.jobs.items t.next_serial t.next_place (pending_of t.starting t.room) t.waiting.clock new.next_serial new.next_place (pending_of new.starting new.room) new.waiting.clock h.undoable (ap (λ ts. ts.items) touched) (ap (take t.mark.jobs) jobs ∙ sym (first-pushed t.mark.jobs js t.jobs.items x there whole)) (omega arith) (omega arith) (omega arith) (omega arith)))
        (record { there = omega arith; to_touch = omega arith })

-- where the job that the newest change was made of stands again as it stood
module _ (t : Inside) (h : IsTableInside t) (ts : List Touched) (u : Touched) (popped : t.touched.items ≡ ts ++ u ∷ []) (v : Table) (view : table_of t ≡ v) (some : 1 ≤ length v.touched) (room : length v.touched ≤ v.undos) (whole_v : length v.jobs ≡ length v.marked.jobs) (at : ℕ) (x : Job) (js : List Job) (same : js ≡ t.jobs.items) (there : IsAt serial_of nat_cmp u.serial js at) (is : x ≡ get_or t.jobs.items at x) where
  abbrev l : List Job
  l = take at t.jobs.items

  abbrev r : List Job
  r = drop (suc at) t.jobs.items

  -- as it stood
  abbrev y : Job
  y = standing_as u.was x

  all : length t.jobs.items ≡ t.mark.jobs
  all = all-marked t h v view whole_v

  split-x : IsSplit serial_of u.serial t.jobs.items l r x
  split-x = subst (λ (j : Job). IsSplit serial_of u.serial t.jobs.items l r j) (sym is) (split-at serial_of u.serial t.jobs.items at x (subst (λ (ks : List Job). IsAt serial_of nat_cmp u.serial ks at) same there))

  around-x : IsAround l r x.serial
  around-x = around-of u.serial t.jobs.items l r x split-x

  stood-there : restored u t.jobs.items ≡ l ++ y ∷ r
  stood-there = map-split serial_of u.serial (standing_as u.was) t.jobs.items l r x split-x

  in-place : AreInPlace t.next_serial t.next_place (pending_of t.starting t.room) (l ++ y ∷ r)
  in-place = subst (λ (ls : List Job). AreInPlace t.next_serial t.next_place (pending_of t.starting t.room) ls) stood-there (before-in-place t h ts u popped all)

  spend : t.undos - 1 + 1 ≡ t.undos
  spend = spends t v view some room

  noted-less : length t.touched.items ≡ length ts + 1
  noted-less = ap length popped ∙ length-append ts (u ∷ [])

  -- none of another serial has the place that it had
  own-place : is_waiting u.was.phase ≡ true → IsItsPlace u.was.place x.serial t.waiting.items
  own-place waits w there_w place =
      let queue = (all-there (IsListed t.next_serial t.next_place) l r y in-place.listed.each).queue waits in
      let mine = waiter-some y waits queue in
      let parts : t.waiting.items ≡ waiters l ++ cons_option (waiter_of x) (waiters r) = subst (λ (ls : List Job). t.waiting.items ≡ waiters ls) split-x.whole h.kept.indexed.waiters_are ∙ picked-parts serial_of waiter_of waiting.serial_of waiter-keyed l r x (waiter_of x) refl in
      let then : waiters (l ++ y ∷ r) ≡ waiters l ++ mine.0 ∷ waiters r = picked-parts serial_of waiter_of waiting.serial_of waiter-keyed l r y (Some mine.0) mine.1 in
      let other : Contains (waiters l ++ mine.0 ∷ waiters r) w → w.serial ≡ x.serial =
      λ still. ap (λ (k : Waiter). k.serial) (in-place.places w mine.0 (subst (λ (ws : List Waiter). Contains ws w) (sym then) still) (subst (λ (ws : List Waiter). Contains ws mine.0) (sym then) (Contains-append_right (waiters l) (mine.0 ∷ waiters r) mine.0 (Contains-head mine.0 (waiters r)))) (place ∙ sym (waiter-placed y mine.0 mine.1))) ∙ waiter-keyed y mine.0 mine.1 in
      elim (Contains-append_cases (waiters l) (cons_option (waiter_of x) (waiters r)) w (subst (λ (ws : List Waiter). Contains ws w) parts there_w)) [
        | inl before ↦ other (Contains-append_left (waiters l) (mine.0 ∷ waiters r) w before)
        | inr behind ↦ its-own (waiter_of x) refl behind (λ later. other (Contains-append_right (waiters l) (mine.0 ∷ waiters r) w (Contains-cons mine.0 w (waiters r) later)))
      ]
    where
      its-own : (o : Option Waiter) → waiter_of x ≡ o → Contains (cons_option o (waiters r)) w → (Contains (waiters r) w → w.serial ≡ x.serial) → w.serial ≡ x.serial
      its-own None none behind rest = rest behind
      its-own (Some v) picked behind rest =
          elim (Contains-cases v w (waiters r) behind) [
            | inl this ↦ sym (ap (λ (k : Waiter). k.serial) this) ∙ waiter-keyed x v picked
            | inr later ↦ rest later
          ]

  pub undo-follows : CanFollow t.waiting t.tally t.starting t.active t.prestart t.names x u.was
  undo-follows =
      let o = h.undos in
      let wait = o.to_wait in
      let count = o.to_count in
      let list = o.to_list in let seat = o.to_seat in
      let left = noted-less in
      let once = spend in
      let waits = come-bits (is_some (waiter_of x)) (is_some (waiter_of y)) in
      let acts = come-bits (is_active x.phase) (is_active u.was.phase) in
      let starts = come-bits (is_starting x.phase) (is_starting u.was.phase) in
      can-follow t h.kept l r x split-x.whole around-x u.was own-place keeps-how (omega arith) (omega arith) finds-order (omega arith) (omega arith)
    where
      keeps-how : is_active x.phase ≡ true → is_active u.was.phase ≡ true → u.was.how ≡ x.how
      keeps-how = all-there (λ (j : Job). j.serial ≡ u.serial → is_active j.phase ≡ true → is_active u.was.phase ≡ true → u.was.how ≡ j.how) l r x (subst (λ (ls : List Job). KeepsHow u ls) split-x.whole (before-how t h ts u popped all)) split-x.here

      -- where it was an order, there is room for it
      finds-order : comes (is_starting x.phase) (is_starting u.was.phase) ≤ t.starting.spare
      finds-order =
          let had : length t.starting.items ≡ length (orders (l ++ x ∷ r)) = ap length (h.kept.indexed.orders_are ∙ ap orders split-x.whole) in
          let more = entries order_of key_of order-keyed x y refl (orders (l ++ x ∷ r)) (orders (l ++ y ∷ r)) l r refl refl in
          let was : bit (is_some (order_of x)) ≡ bit (is_starting x.phase) = bit-if (is_starting x.phase) (x.serial, tt) in
          let then : bit (is_some (order_of y)) ≡ bit (is_starting u.was.phase) = bit-if (is_starting u.was.phase) (x.serial, tt) in
          let come = come-bits (is_starting x.phase) (is_starting u.was.phase) in
          let few = in-place.few in
          omega arith

  -- as it stood, but ended where it has
  abbrev w : Job
  w = cond (is_ended x.phase) x y

  either : (b : Bool) (P : Job → Type 0) → P x → P y → P (cond b x y)
  either true P was then = was
  either false P was then = then

  w-ends : (b : Bool) → is_ended x.phase ≡ b → is_ended (cond b x y).phase ≡ (b || is_ended u.was.phase)
  w-ends true had = had
  w-ends false had = refl

  length-then : (j : Job) → length (l ++ j ∷ r) ≡ length t.jobs.items
  length-then j = length-append l (j ∷ r) ∙ (sym (length-append l (x ∷ r)) ∙ sym (ap length split-x.whole))

  module _ (new : Inside) (n : Names) (f : HasFollowed x u.was t.waiting new.waiting t.tally new.tally t.starting new.starting t.active new.active t.prestart new.prestart t.names n) (busy : new.busy + bit (is_busy x) ≡ t.busy + bit (is_busy y)) (jobs : new.jobs.items ≡ restored u t.jobs.items) where
    names-then : IsNames (l ++ w ∷ r) n
    names-then = f.names l r w (either (is_ended x.phase) (λ (j : Job). j.serial ≡ x.serial) refl refl) (either (is_ended x.phase) (λ (j : Job). j.job ≡ x.job) refl refl) (w-ends (is_ended x.phase) refl) (names-there t h.kept l r x split-x.whole around-x)

    pub undo-few-names : HasFewNames n
    undo-few-names = record { jobs = l ++ w ∷ r; are = names-then; few = (let m = length-then w in let few = h.kept.room.few in omega arith) }

    -- the job there is the one that stood
    again : (z : Job) → z ≡ get_or new.jobs.items at z → z ≡ y
    again z z_is =
        z_is
        ∙ (ap (λ (ls : List Job). get_or ls at z) jobs
        ∙ (get_or-map (changed_at u.serial (standing_as u.was)) t.jobs.items at x z (subst (λ (ks : List Job). IsAt serial_of nat_cmp u.serial ks at) same there).in_range
        ∙ (ap (changed_at u.serial (standing_as u.was)) (sym is) ∙ ap (λ b. cond b y x) (eq-eqb x.serial u.serial split-x.here))))

    pub undone-inside : (z : Job) → z ≡ get_or new.jobs.items at z → (had : Bool) → had ≡ is_ended x.phase → NamesAgain had z n new.names → n.spare ≤ new.names.spare + 1 → new.touched.items ≡ ts → new.undos + 1 ≡ t.undos → new.next_serial ≡ t.next_serial → new.next_place ≡ t.next_place → new.room ≡ t.room → new.changes ≡ t.changes → new.mark ≡ t.mark → vec_capacity new.jobs ≡ vec_capacity t.jobs → vec_capacity new.touched ≡ vec_capacity t.touched → IsTableInside new
    undone-inside z z_is had had_is names name touched once ns np room_is changes mark capacity fits =
        let back = subst (λ (b : Bool). NamesAgain b y n new.names) had_is (subst (λ (j : Job). NamesAgain had j n new.names) (again z z_is) names) in
        let i = followed-there t h.kept l r x split-x.whole around-x u.was (record new { names = n }) f busy in
        let more = waits-more t h.kept l r x split-x.whole around-x u.was (record new { names = n }) f busy in
        let counts = waits-or-acts y in
        let acts = come-bits (is_active x.phase) (is_active u.was.phase) in
        let waits : length new.waiting.items ≡ length (waiters (l ++ y ∷ r)) = ap length i.waiters_are in
        let starts : length new.starting.items ≡ length (orders (l ++ y ∷ r)) = ap length i.orders_are in
        let few_wait = in-place.few in
        let so : new.jobs.items ≡ l ++ y ∷ r = jobs ∙ stood-there in
        let many : length new.jobs.items ≡ length t.jobs.items = ap length so ∙ length-then y in
        let left = noted-less in
        let noted : length new.touched.items ≡ length ts = ap length touched in
        let o = h.kept.room in
        let stand = o.to_stand in
        let few = o.few in
        let start = o.to_start in
        let undo = h.undos in
        let undo_wait = undo.to_wait in
        let undo_count = undo.to_count in
        let undo_list = undo.to_list in let undo_seat = undo.to_seat in
        let undo_name = undo.to_name in
        let to_wait = f.to_wait in
        let to_count = f.to_count in
        let to_list = f.to_list in let to_seat = f.to_seat in
        let to_name = f.to_name in
        let nodes = f.nodes in
        let there_marked = h.marked.there in
        let to_touch = h.marked.to_touch in
        let marked : new.mark.jobs ≡ t.mark.jobs = ap (λ (m : Mark). m.jobs) mark in
        let pending : pending_of new.starting new.room ≡ pending_of t.starting t.room = omega arith in
        record {
          kept = record {
            listed = rw (so, ns, np) in-place.listed;
            indexed = rw so i;
            room = record { to_stand = omega arith; few = omega arith; to_wait = omega arith; to_count = omega arith; to_start = omega arith };
            named = rw so (record { are = back l r w (either (is_ended x.phase) (λ (j : Job). j.serial ≡ x.serial) refl refl) (either (is_ended x.phase) (λ (j : Job). j.job ≡ x.job) refl refl) (w-ends (is_ended x.phase) refl) names-then; to_name = omega arith });
          };
          undos = record { to_wait = omega arith; to_count = omega arith; to_list = omega arith; to_seat = omega arith; to_name = omega arith };
          undoable = rw (mark, touched, ns, np, pending, f.clock) (before-undoable t h ts u popped all new.jobs.items jobs);
          marked = record { there = omega arith; to_touch = omega arith };
        }
