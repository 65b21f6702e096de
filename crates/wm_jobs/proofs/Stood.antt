-- How the jobs of the mark stood ever since, and what calls leave of it.
use Rattle.std.proofs.Common.{◌≡◌, ℕ, ◌+◌, ◌<◌, ◌≤◌, List, [], ◌∷◌, ◌++◌, length, get_or, take, drop, Option, vec_capacity, ap, sym, ◌∙◌, subst, arith, Contains}
use Rattle.std.specs.List.{filter_map}
use Rattle.std.specs.Ordering.{nat_cmp}
use Rattle.std.specs.declared.cmp.Ordering.TheVariants.{Less}
use Rattle.std.proofs.Math.Seq.{take-append_seam}
use Rattle.std.proofs.lemmas.List.{get_or-take, length-append, length-take, take-append-drop, take-append-le}
use Rattle.std.proofs.lemmas.List.Elements.{All-take, All-weaker, Contains-append_left, filter_map-append}
use Rattle.wm_desc.specs.Sorted.{IsSortedOnce}
use Rattle.wm_law.specs.declared.job.Job.{Job}
use Rattle.wm_ordered.proofs.Members.{Contains-nil}
use Rattle.wm_ordered.specs.declared.waiter.Waiter.{Waiter}
use Rattle.wm_ordered.specs.Waiting.{HavePlaces}
use Rattle.wm_pick.specs.Parts.{waiter_of, waiters}
use Rattle.wm_jobs.specs.declared.touched.Mark.{Mark}
use Rattle.wm_jobs.specs.declared.touched.Touched.{Touched}
use Rattle.wm_jobs.specs.Indexed.{order_of, orders}
use Rattle.wm_jobs.specs.Marked.{restored, undone}
use Rattle.wm_jobs.specs.Table.{Table, serial_of, IsReady}
use Rattle.wm_jobs.specs.TableInside.{table_of, pending_of, IsListed, AreListed, AreInPlace, KeepsHow, StoodBefore, StoodInPlace, IsUndoable, HasUndos, IsKept, IsMarked, IsTableInside}
use Rattle.wm_jobs.specs.declared.table.JobTable.TheInside.{Inside}
use Rattle.wm_jobs.proofs.Undone.{undone-newest}

pub listed-later : (ns np ns' np' : ℕ) (js : List Job) → ns ≤ ns' → np ≤ np' → AreListed ns np js → AreListed ns' np' js
listed-later ns np ns' np' js ls lp h = record {
  first_place = (let first = h.first_place in omega arith);
  sorted = h.sorted;
  each = All-weaker (IsListed ns np) (IsListed ns' np') (λ k l. let a = l.serial in let b = l.place in record { serial = omega arith; place = omega arith; queue = l.queue }) js h.each;
}

in-place-later : (ns np p ns' np' p' : ℕ) (js : List Job) → ns ≤ ns' → np ≤ np' → p ≤ p' → AreInPlace ns np p js → AreInPlace ns' np' p' js
in-place-later ns np p ns' np' p' js ls lp more h = record { listed = listed-later ns np ns' np' js ls lp h.listed; places = h.places; few = (let few = h.few in omega arith) }

stood-later : (ns np p ns' np' p' : ℕ) (ts : List Touched) (js : List Job) → ns ≤ ns' → np ≤ np' → p ≤ p' → StoodInPlace ns np p ts js → StoodInPlace ns' np' p' ts js
stood-later ns np p ns' np' p' [] js ls lp more h = in-place-later ns np p ns' np' p' js ls lp more h
stood-later ns np p ns' np' p' (t ∷ ts) js ls lp more h = (record { in_place = in-place-later ns np p ns' np' p' (undone (t ∷ ts) js) ls lp more h.0.in_place; how = h.0.how }, stood-later ns np p ns' np' p' ts js ls lp more h.1)

pub stood-now : (ns np p : ℕ) (ts : List Touched) (js : List Job) → StoodInPlace ns np p ts js → AreInPlace ns np p js
stood-now ns np p [] js h = h
stood-now ns np p (t ∷ ts) js h = stood-now ns np p ts js h.1

-- before the newest change they stood as before all others
pub stood-undone : (ns np p : ℕ) (ts : List Touched) (t : Touched) (js : List Job) → StoodInPlace ns np p (ts ++ t ∷ []) js → StoodInPlace ns np p ts (restored t js)
stood-undone ns np p [] t js h = h.0.in_place
stood-undone ns np p (u ∷ us) t js h = (subst (λ (ls : List Job). StoodBefore ns np p u ls) (undone-newest us t js) h.0, stood-undone ns np p us t js h.1)

-- the newest change left its how to a job that was active and is
pub stood-how : (ns np p : ℕ) (ts : List Touched) (t : Touched) (js : List Job) → StoodInPlace ns np p (ts ++ t ∷ []) js → KeepsHow t js
stood-how ns np p [] t js h = h.0.how
stood-how ns np p (u ∷ us) t js h = stood-how ns np p us t js h.1

-- after a change that is noted they stand in place, as they did before it
stood-noted : (ns np p : ℕ) (ts : List Touched) (t : Touched) (js ks : List Job) → restored t ks ≡ js → KeepsHow t ks → AreInPlace ns np p ks → StoodInPlace ns np p ts js → StoodInPlace ns np p (ts ++ t ∷ []) ks
stood-noted ns np p [] t js ks back how now stood = (record { in_place = subst (λ (ls : List Job). AreInPlace ns np p ls) (sym back) stood; how = how }, now)
stood-noted ns np p (u ∷ us) t js ks back how now stood = (
  subst (λ (ls : List Job). StoodBefore ns np p u ls) (sym (undone-newest us t ks ∙ ap (undone us) back)) stood.0,
  stood-noted ns np p us t js ks back how now stood.1,
)

sorted-first : (n : ℕ) (js : List Job) → IsSortedOnce serial_of nat_cmp js → IsSortedOnce serial_of nat_cmp (take n js)
sorted-first n js sorted i j d lt in_range =
    let len = length-take n js in
    let below : j < n = omega arith in
    subst (λ (k : Job). nat_cmp (serial_of k) (serial_of (get_or (take n js) j d)) ≡ Less) (sym (get_or-take n js i d (omega arith)))
    (subst (λ (k : Job). nat_cmp (serial_of (get_or js i d)) (serial_of k) ≡ Less) (sym (get_or-take n js j d below)) (sorted i j d lt (omega arith)))

-- those before the last stand as a table lists them
pub listed-front : (ns np : ℕ) (js : List Job) (x : Job) → AreListed ns np (js ++ x ∷ []) → AreListed ns np js
listed-front ns np js x h = subst (λ (ls : List Job). AreListed ns np ls) (take-append_seam js (x ∷ [])) (record {
  first_place = h.first_place;
  sorted = sorted-first (length js) (js ++ x ∷ []) h.sorted;
  each = All-take (IsListed ns np) (length js) (js ++ x ∷ []) h.each;
})

waiters-first : (n : ℕ) (js : List Job) (w : Waiter) → Contains (waiters (take n js)) w → Contains (waiters js) w
waiters-first n js w there =
    subst (λ (ls : List Job). Contains (waiters ls) w) (take-append-drop n js)
    (subst (λ (ws : List Waiter). Contains ws w) (sym (filter_map-append waiter_of (take n js) (drop n js))) (Contains-append_left (waiters (take n js)) (waiters (drop n js)) w there))

-- no more are picked of the first
picked-first : {E : Type 0} (pick : Job → Option E) (n : ℕ) (js : List Job) → length (filter_map pick (take n js)) ≤ length (filter_map pick js)
picked-first pick n js =
    let parts = ap (λ (ls : List Job). length (filter_map pick ls)) (sym (take-append-drop n js)) ∙ (ap length (filter_map-append pick (take n js) (drop n js)) ∙ length-append (filter_map pick (take n js)) (filter_map pick (drop n js))) in
    omega arith

pub pending-first : (n : ℕ) (js : List Job) → length (waiters (take n js)) + length (orders (take n js)) ≤ length (waiters js) + length (orders js)
pending-first n js = let waits = picked-first waiter_of n js in let starts = picked-first order_of n js in omega arith

-- those that wait or are orders have room
pub pending-few : (t : Inside) → IsKept t → length (waiters t.jobs.items) + length (orders t.jobs.items) ≤ pending_of t.starting t.room
pending-few t h =
    let waits : length t.waiting.items ≡ length (waiters t.jobs.items) = ap length h.indexed.waiters_are in
    let starts : length t.starting.items ≡ length (orders t.jobs.items) = ap length h.indexed.orders_are in
    let room = h.room.to_start in
    omega arith

-- the first jobs of a table stand in place
in-place-first : (t : Inside) → IsKept t → HavePlaces t.waiting.items → (n : ℕ) → AreInPlace t.next_serial t.next_place (pending_of t.starting t.room) (take n t.jobs.items)
in-place-first t h places n = record {
  few = (let first = pending-first n t.jobs.items in let all = pending-few t h in omega arith);
  listed = record {
    first_place = h.listed.first_place;
    sorted = sorted-first n t.jobs.items h.listed.sorted;
    each = All-take (IsListed t.next_serial t.next_place) n t.jobs.items h.listed.each;
  };
  places = (let all : HavePlaces (waiters t.jobs.items) = subst (λ (ws : List Waiter). HavePlaces ws) h.indexed.waiters_are places in λ v w one other same. all v w (waiters-first n t.jobs.items v one) (waiters-first n t.jobs.items w other) same);
}

module _ (m : Mark) (ts : List Touched) (js : List Job) (ns np p clock : ℕ) (h : IsUndoable m ts js ns np p clock) (new : Inside) (kept : IsKept new) (places : HavePlaces new.waiting.items) (same_mark : new.mark ≡ m) (later : ns ≤ new.next_serial) (further : np ≤ new.next_place) (more : p ≤ pending_of new.starting new.room) (forth : clock ≤ new.waiting.clock) where
  -- a change that is noted can be undone
  pub undoable-noted : (t : Touched) → new.touched.items ≡ ts ++ t ∷ [] → restored t (take m.jobs new.jobs.items) ≡ take m.jobs js → KeepsHow t (take m.jobs new.jobs.items) → IsUndoable new.mark new.touched.items new.jobs.items new.next_serial new.next_place (pending_of new.starting new.room) new.waiting.clock
  undoable-noted t noted back how =
      rw (same_mark, noted) (record {
        stood = stood-noted new.next_serial new.next_place (pending_of new.starting new.room) ts t (take m.jobs js) (take m.jobs new.jobs.items) back how (in-place-first new kept places m.jobs) (stood-later ns np p new.next_serial new.next_place (pending_of new.starting new.room) ts (take m.jobs js) later further more h.stood);
        began = subst (λ (ls : List Job). AreListed m.next_serial m.next_place ls) (sym (undone-newest ts t (take m.jobs new.jobs.items) ∙ ap (undone ts) back)) h.began;
        clock = (let before = h.clock in omega arith);
      })

-- what isn't noted leaves what can be undone, where the first jobs are the same
pub undoable-same : (m : Mark) (ts us : List Touched) (js ks : List Job) (ns np p clock ns' np' p' clock' : ℕ) → IsUndoable m ts js ns np p clock → us ≡ ts → take m.jobs ks ≡ take m.jobs js → ns ≤ ns' → np ≤ np' → p ≤ p' → clock ≤ clock' → IsUndoable m us ks ns' np' p' clock'
undoable-same m ts us js ks ns np p clock ns' np' p' clock' h same first later further more forth =
    rw same (record {
      stood = subst (λ (ls : List Job). StoodInPlace ns' np' p' ts ls) (sym first) (stood-later ns np p ns' np' p' ts (take m.jobs js) later further more h.stood);
      began = subst (λ (ls : List Job). AreListed m.next_serial m.next_place (undone ts ls)) (sym first) h.began;
      clock = (let before = h.clock in omega arith);
    })

-- one that comes behind the others leaves the first
pub first-pushed : (n : ℕ) (js ks : List Job) (j : Job) → n ≤ length js → ks ≡ js ++ j ∷ [] → take n ks ≡ take n js
first-pushed n js ks j there is = ap (take n) is ∙ take-append-le n js (j ∷ []) there

-- at the mark nothing was done
pub undoable-here : (m : Mark) (ts : List Touched) (t : Inside) → IsKept t → HavePlaces t.waiting.items → ts ≡ [] → m.jobs ≡ length t.jobs.items → m.next_serial ≡ t.next_serial → m.next_place ≡ t.next_place → m.clock ≤ t.waiting.clock → IsUndoable m ts t.jobs.items t.next_serial t.next_place (pending_of t.starting t.room) t.waiting.clock
undoable-here m ts t kept places none all ns np clock =
    let here = in-place-first t kept places m.jobs in
    rw none (record { stood = here; began = rw (ns, np) here.listed; clock = clock })

-- a table that agrees, part by part
pub agrees : (new : Inside) → IsKept new → HasUndos new.undos new.room new.changes (length new.touched.items) new.waiting new.tally new.active new.prestart new.names → (IsKept new → IsUndoable new.mark new.touched.items new.jobs.items new.next_serial new.next_place (pending_of new.starting new.room) new.waiting.clock) → IsMarked new.mark.jobs (length new.jobs.items) (length new.touched.items) (vec_capacity new.touched) (length new.waiting.items) new.room new.changes → IsTableInside new
agrees new kept undos undoable marked = record { kept = kept; undos = undos; undoable = undoable kept; marked = marked }

-- where none waits, no two have one place
pub none-placed : (ws : List Waiter) → ws ≡ [] → HavePlaces ws
none-placed ws none v w one other same = absurd (Contains-nil v (subst (λ (us : List Waiter). Contains us v) none one))

-- what is noted takes the place of what may be noted
pub ready-goes : (t : Inside) (v : Table) → table_of t ≡ v → (waits room changes touched undos : ℕ) → waits + room + changes + touched ≤ length t.waiting.items + t.room + t.changes + length t.touched.items → undos ≡ t.undos → IsReady v → waits + room + changes + touched ≤ undos
ready-goes t v view waits room changes touched undos less same ready = let had : IsReady (table_of t) = subst IsReady (sym view) ready in omega (arith, less, same, had)
