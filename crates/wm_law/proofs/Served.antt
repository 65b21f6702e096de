-- Settling's third part leaves no entry with both an idle job and a waiting request.
use Rattle.std.proofs.Common.{◌≡◌, ℕ, zero, suc, ◌<◌, ◌≤◌, ◌+◌, ◌==◌, ◌&&◌, ◌||◌, not, Bool, true, false, cond, List, [], ◌∷◌, length, filter, fold, Option, Some, None, nat_lt, refl, sym, ap, subst, ◌∙◌, inl, inr, arith, ℤ}
use Rattle.std.specs.List.{count_by, find, list_any}
use Rattle.std.specs.Option.{option_and_then}
use Rattle.std.proofs.lemmas.Bool.{and_parts}
use Rattle.std.proofs.lemmas.List.Sums.{length-filter, sum_by-cons}
use Rattle.wm_base.specs.declared.job.EndCause.{EndCause}
use Rattle.wm_base.specs.declared.job.How.{How}
use Rattle.wm_base.specs.declared.qname.QName.{QName}
use Rattle.wm_base.specs.Iterate.{IsKept}
use Rattle.wm_base.proofs.Iterate.{iterate-keeps, next-iterate}
use Rattle.wm_desc.specs.declared.description.Sbsd.{Sbsd}
use Rattle.wm_desc.specs.declared.entry.PreEntry.{PreEntry}
use Rattle.wm_desc.specs.declared.entry.RouteEntry.{RouteEntry}
use Rattle.wm_desc.specs.declared.objects.Objects.{Objects}
use Rattle.wm_desc.specs.Table.{object_named}
use Rattle.wm_law.specs.declared.choice.Candidate.{Candidate}
use Rattle.wm_law.specs.declared.job.Job.{Job}
use Rattle.wm_law.specs.declared.launch.Launched.{Launched}
use Rattle.wm_law.specs.declared.state.Sbs.{Sbs}
use Rattle.wm_law.specs.declared.state.State.{State}
use Rattle.wm_law.specs.Choice.{is_sbs_active, next}
use Rattle.wm_law.specs.Counts.{is_from_pre}
use Rattle.wm_law.specs.History.{stepped}
use Rattle.wm_law.specs.Jobs.{active_at}
use Rattle.wm_law.specs.Launch.{as_launched, from_queue, launch, route, route_fault, routed_from_queue, routed_through, starts_unless, with_routed}
use Rattle.wm_law.specs.Laws.{IsIn}
use Rattle.wm_law.specs.Machine.{apply, step, with_clock}
use Rattle.wm_law.specs.Prestart.{assign, assigned, assigned_to, count_evokes, count_idle, first_idle, is_evoke_of, is_idle_in, is_running, make_pre, make_pres, new_pre_job, of_lesser_number, replenish, replenished, with_evoke}
use Rattle.wm_law.specs.Settling.{come_due, leave, start_jobs, waiting}
use Rattle.wm_law.specs.Submitting.{numbers_left}
use Rattle.wm_law.specs.Supplied.{AreServed, EntriesAreServed, IsEntryOf, IsServed, SettlingServes, StepServes, SupplyServes, SupplyServesEntry, OpeningIsServed}
use Rattle.wm_law.specs.Supply.{in_order, supply, supply_entry, supply_in, supply_with}
use Rattle.wm_law.specs.Wishes.{has_wish}
use Rattle.wm_law.proofs.Ascending.{stands_in_order}
use Rattle.wm_law.proofs.Assigned.{assigns_lessen}
use Rattle.wm_law.proofs.Counted.{count_last, no_more, no_more_each, one}
use Rattle.wm_law.proofs.FirstGone.{first_gone, gone_fewer, gone_is, none_any}
use Rattle.wm_law.proofs.Members.{in_left}
use Rattle.wm_law.proofs.Rounds.{numbers-less}
use Rattle.wm_law.proofs.Supplies.{replenish_numbers}
use Rattle.std.specs.Prelude.{⊤}
use Rattle.wm_law.proofs.Opened.{opened, opening_is}

-- P is kept where a request goes to a job, and where a job is made while numbers are left
pub record IsKeptBySupply (P : State → Type 0) : Type 0 where
  pub assigns : (q pgm : QName) (t : State) (j : Job) → assign q pgm t ≡ Some j → P t → P (assigned_to q pgm j t)
  pub makes : (q pgm : QName) (t : State) → 0 < numbers_left t → P t → P (make_pre q pgm t)

-- so it is kept by the supply of each entry, and by the whole
module _ (P : State → Type 0) (k : IsKeptBySupply P) where
  pub assigned_kept : (q pgm : QName) (t : State) → P t → P (assigned t q pgm)
  assigned_kept q pgm t h = iterate-keeps P (record { by_step = λ s j e p. k.assigns q pgm s j e p }) (length t.evokes) t h

  made_kept : (q pgm : QName) (n : ℕ) (t : State) → n ≤ numbers_left t → P t → P (make_pres q pgm n t)
  made_kept q pgm zero t le h = h
  made_kept q pgm (suc n) t le h =
      let some : 0 < numbers_left t = omega (arith, le) in
      let less = numbers-less q pgm t some in
      made_kept q pgm n (make_pre q pgm t) (omega (arith, le, less)) (k.makes q pgm t some h)

  pub replenished_kept : (q : QName) (d : Sbsd) (e : PreEntry) (t : State) → P t → P (replenished t q d e)
  replenished_kept q d e t h = made_kept q e.pgm (replenish t q d e) t (replenish_numbers q d e t) h

  entry_kept : (q : QName) (d : Sbsd) (e : PreEntry) (t : State) → P t → P (supply_entry q d t e)
  entry_kept q d e t h = replenished_kept q d e (assigned t q e.pgm) (assigned_kept q e.pgm t h)

  entries_kept : (q : QName) (d : Sbsd) (es : List PreEntry) (t : State) → P t → P (fold (supply_entry q d) t es)
  entries_kept q d [] t h = h
  entries_kept q d (e ∷ es) t h = entries_kept q d es (supply_entry q d t e) (entry_kept q d e t h)

  with_kept : (q : QName) (t : State) (d : Option Sbsd) → P t → P (supply_with q t d)
  with_kept q t None h = h
  with_kept q t (Some d) h = entries_kept q d d.pres t h

  in_kept : (q : QName) (t : State) → P t → P (supply_in t q)
  in_kept q t h = with_kept q t (object_named q t.objects.sbsds) h

  all_kept : (qs : List QName) (t : State) → P t → P (fold supply_in t qs)
  all_kept [] t h = h
  all_kept (q ∷ qs) t h = all_kept qs (supply_in t q) (in_kept q t h)

  pub supply_kept : (s : State) → P s → P (supply s)
  supply_kept s h = all_kept (in_order (filter (λ b. is_sbs_active b.phase) s.started)) s h

-- the objects stay
objects_kept : (o : Objects) → IsKeptBySupply (λ t. t.objects ≡ o)
objects_kept o = record { assigns = λ q pgm t j e h. h; makes = λ q pgm t some h. h }

-- what the supply of an entry brings about where B holds, and what is kept from there, holds after the whole
module _ (B P : State → Type 0) (before : IsKeptBySupply B) (k : IsKeptBySupply P) (q : QName) (d : Sbsd) (e : PreEntry) (here : (t : State) → B t → P (supply_entry q d t e)) where
  in_entries : (es : List PreEntry) (t : State) → IsIn e es → B t → P (fold (supply_entry q d) t es)
  in_entries [] t i b = absurd i
  in_entries (x ∷ xs) t (inl same) b = entries_kept P k q d xs (supply_entry q d t x) (subst (λ (y : PreEntry). P (supply_entry q d t y)) same (here t b))
  in_entries (x ∷ xs) t (inr i) b = in_entries xs (supply_entry q d t x) i (entry_kept B before q d x t b)

  in_subsystem : (t : State) → object_named q t.objects.sbsds ≡ Some d → IsIn e d.pres → B t → P (supply_in t q)
  in_subsystem t named i b = subst (λ (o : Option Sbsd). P (supply_with q t o)) (sym named) (in_entries d.pres t i b)

  in_all : (o : Objects) (qs : List QName) (t : State) → IsIn q qs → t.objects ≡ o → object_named q o.sbsds ≡ Some d → IsIn e d.pres → B t → P (fold supply_in t qs)
  in_all o [] t m os named i b = absurd m
  in_all o (x ∷ xs) t (inl same) os named i b =
      all_kept P k xs (supply_in t x) (subst (λ (y : QName). P (supply_in t y)) same (in_subsystem t (ap (λ (y : Objects). object_named q y.sbsds) os ∙ named) i b))
  in_all o (x ∷ xs) t (inr m) os named i b = in_all o xs (supply_in t x) m (in_kept (λ t. t.objects ≡ o) (objects_kept o) x t os) named i (in_kept B before x t b)

pub supplied_entry : (B P : State → Type 0) → IsKeptBySupply B → IsKeptBySupply P → (s : State) (b : Sbs) (d : Sbsd) (e : PreEntry) → IsEntryOf s b d e → ((t : State) → B t → P (supply_entry b.sbsd d t e)) → B s → P (supply s)
supplied_entry B P before k s b d e en here h =
    in_all B P before k b.sbsd d e here s.objects (in_order (filter (λ (x : Sbs). is_sbs_active x.phase) s.started)) s (stands_in_order (filter (λ (x : Sbs). is_sbs_active x.phase) s.started) b (in_left (λ (x : Sbs). is_sbs_active x.phase) s.started b en.active en.started)) refl en.described en.entered h

empty_by : {X : Type 0} (xs : List X) → length xs ≡ 0 → xs ≡ []
empty_by [] e = refl
empty_by (x ∷ xs) e = absurd (omega (arith, e))

least_by : (b : Bool) (x i : Job) (xs : List Job) → (fold of_lesser_number (Some x) xs ≡ None → ⊥) → (fold of_lesser_number (Some i) xs ≡ None → ⊥) → fold of_lesser_number (cond b (Some x) (Some i)) xs ≡ None → ⊥
least_by true x i xs h k e = h e
least_by false x i xs h k e = k e

-- a list has a least job, unless it is empty
least_some : (xs : List Job) (i : Job) → fold of_lesser_number (Some i) xs ≡ None → ⊥
least_some [] i e = absurd (cc)
least_some (x ∷ xs) i e = least_by (nat_lt x.job.number i.job.number) x i xs (least_some xs x) (least_some xs i) e

no_least : (xs : List Job) → fold of_lesser_number None xs ≡ None → length xs ≡ 0
no_least [] e = refl
no_least (x ∷ xs) e = absurd (least_some xs x e)

none_idle : (q pgm : QName) (jobs : List Job) → first_idle q pgm jobs ≡ None → count_idle q pgm jobs ≡ 0
none_idle q pgm jobs e = sym (length-filter (is_idle_in q pgm) jobs) ∙ no_least (filter (is_idle_in q pgm) jobs) e

idle_none : (q pgm : QName) (jobs : List Job) → count_idle q pgm jobs ≡ 0 → first_idle q pgm jobs ≡ None
idle_none q pgm jobs e = ap (λ (l : List Job). fold of_lesser_number None l) (empty_by (filter (is_idle_in q pgm) jobs) (length-filter (is_idle_in q pgm) jobs ∙ e))

count_by_rest : (b a : Bool) (n : ℕ) → (a ≡ false → n ≡ 0) → (b || a) ≡ false → cond b 1 0 + n ≡ 0
count_by_rest true a n h e = absurd (cc)
count_by_rest false a n h e = let none = h e in omega arith

none_passes : {X : Type 0} (p : X → Bool) (xs : List X) → list_any p xs ≡ false → count_by p xs ≡ 0
none_passes p [] e = refl
none_passes p (x ∷ xs) e = sum_by-cons (λ (y : _). cond (p y) 1 0) x xs ∙ count_by_rest (p x) (list_any p xs) (count_by p xs) (none_passes p xs) e

-- whether the entry has both is whether a job gets a request
served_by : (q pgm : QName) (t : State) (b : Bool) → list_any (is_evoke_of q pgm) t.evokes ≡ b → cond b (first_idle q pgm t.jobs) None ≡ None → IsServed q pgm t
served_by q pgm t true w e = inl (none_idle q pgm t.jobs e)
served_by q pgm t false w e = inr (none_passes (is_evoke_of q pgm) t.evokes w)

pub served_from : (q pgm : QName) (t : State) → assign q pgm t ≡ None → IsServed q pgm t
served_from q pgm t e = served_by q pgm t (list_any (is_evoke_of q pgm) t.evokes) refl e

either_none : (b : Bool) (o : Option Job) → o ≡ None → cond b o None ≡ None
either_none true o e = e
either_none false o e = refl

pub served_none : (q pgm : QName) (t : State) → IsServed q pgm t → assign q pgm t ≡ None
served_none q pgm t (inl e) = either_none (list_any (is_evoke_of q pgm) t.evokes) (first_idle q pgm t.jobs) (idle_none q pgm t.jobs e)
served_none q pgm t (inr e) = ap (λ (b : Bool). cond b (first_idle q pgm t.jobs) None) (none_any (is_evoke_of q pgm) t.evokes e)

-- once requests have gone to idle jobs, there aren't both
pub assigned_serves : (q pgm : QName) (t : State) → IsServed q pgm (assigned t q pgm)
assigned_serves q pgm t = served_from q pgm (assigned t q pgm) (next-iterate (assigns_lessen q pgm) (length t.evokes) t (omega arith))

-- a job with a request isn't idle
used_idle : (q pgm : QName) (b : Bool) (i : Job) → is_idle_in q pgm (cond b (with_evoke i) i) ≡ true → is_idle_in q pgm i ≡ true
used_idle q pgm true i h =
    let idle = and_parts (is_from_pre q pgm i.how) (is_running i.phase && false && not (has_wish i.wish)) h in
    let both = and_parts (is_running i.phase && false) (not (has_wish i.wish)) idle.1 in
    let no = (and_parts (is_running i.phase) false both.0).1 in
    absurd (cc)
used_idle q pgm false i h = h

at_most : (n m : ℕ) → n ≤ m → m ≡ 0 → n ≡ 0
at_most n m le e = omega arith

served_assigned : (q pgm r p : QName) (t : State) (j : Job) → IsServed q pgm t → IsServed q pgm (assigned_to r p j t)
served_assigned q pgm r p t j (inl e) =
    inl (at_most (count_idle q pgm (assigned_to r p j t).jobs) (count_idle q pgm t.jobs) (no_more_each (is_idle_in q pgm) (active_at j.serial with_evoke) (λ i. used_idle q pgm _ i) t.jobs) e)
served_assigned q pgm r p t j (inr e) =
    inr (ap (λ (l : List _). count_evokes q pgm l) (gone_is (is_evoke_of r p) t.evokes) ∙ at_most (count_evokes q pgm (first_gone (is_evoke_of r p) t.evokes)) (count_evokes q pgm t.evokes) (gone_fewer (is_evoke_of r p) (is_evoke_of q pgm) t.evokes) e)

and_none : (b : Bool) → (b && false) ≡ false
and_none true = refl
and_none false = refl

-- a new job isn't idle
served_made : (q pgm r p : QName) (t : State) → IsServed q pgm t → IsServed q pgm (make_pre r p t)
served_made q pgm r p t (inl e) =
    let new = new_pre_job t r p in
    let more = count_last (is_idle_in q pgm) t.jobs new in
    let none : one (is_idle_in q pgm) new ≡ 0 = ap (λ (b : Bool). cond b 1 0) (and_none (is_from_pre q pgm new.how)) in
    inl (omega (arith, more, none, e))
served_made q pgm r p t (inr e) = inr e

pub served_kept : (q pgm : QName) → IsKeptBySupply (IsServed q pgm)
served_kept q pgm = record { assigns = λ r p t j e h. served_assigned q pgm r p t j h; makes = λ r p t some h. served_made q pgm r p t h }

pub supply_serves_entry : SupplyServesEntry
supply_serves_entry s sbs d e = replenished_kept (IsServed sbs e.pgm) (served_kept sbs e.pgm) sbs d e (assigned s sbs e.pgm) (assigned_serves sbs e.pgm s)

-- the state has the subsystems and the objects of another
pub record HasThoseOf (s t : State) : Type 0 where
  pub started : t.started ≡ s.started
  pub objects : t.objects ≡ s.objects

-- so it has its entries
pub entry_before : (s t : State) (b : Sbs) (d : Sbsd) (e : PreEntry) → HasThoseOf s t → IsEntryOf t b d e → IsEntryOf s b d e
entry_before s t b d e h en = record {
  started = subst (λ (l : List Sbs). IsIn b l) h.started en.started;
  active = en.active;
  described = ap (λ (o : Objects). object_named b.sbsd o.sbsds) (sym h.objects) ∙ en.described;
  entered = en.entered;
}

pub supply_has_those : (s : State) → HasThoseOf s (supply s)
supply_has_those s = supply_kept (HasThoseOf s) (record { assigns = λ q pgm t j e h. record { started = h.started; objects = h.objects }; makes = λ q pgm t some h. record { started = h.started; objects = h.objects } }) s (record { started = refl; objects = refl })

pub supply_serves : SupplyServes
supply_serves s b d e en =
    supplied_entry (λ t. ⊤) (IsServed b.sbsd e.pgm) (record { assigns = λ q pgm t j e h. tt; makes = λ q pgm t some h. tt }) (served_kept b.sbsd e.pgm) s b d e (entry_before s (supply s) b d e (supply_has_those s) en) (λ t h. supply_serves_entry t b.sbsd d e) tt

launched_those : (s t : State) (c : Candidate) (o : Option Job) → HasThoseOf s t → HasThoseOf s (with_routed t c o)
launched_those s t c None h = h
launched_those s t c (Some j) h = record { started = h.started; objects = h.objects }

launches_have_those : (s : State) → IsKept next (λ c t. launch t c) (HasThoseOf s)
launches_have_those s = record { by_step = λ t c e h. launched_those s t c (find (λ (j : Job). j.serial == c.serial) t.jobs) h }

-- settling's last part leaves subsystems and objects
pub settle_has_those : (s : State) → HasThoseOf (supply s) (start_jobs (supply s))
settle_has_those s = iterate-keeps (HasThoseOf (supply s)) (launches_have_those (supply s)) (waiting (supply s)) (supply s) (record { started = refl; objects = refl })

by_cause : (how : ℕ → How) (seq : ℕ) (cause : Option EndCause) → is_running (starts_unless how seq cause).phase ≡ false
by_cause how seq None = refl
by_cause how seq (Some c) = refl

through : (s : State) (sbs : QName) (how : ℕ → How) (j : Job) (e : Option RouteEntry) → is_running (routed_through s sbs how j e).phase ≡ false
through s sbs how j None = refl
through s sbs how j (Some e) = by_cause how e.seq (route_fault s sbs e j)

-- what a launch makes of a job doesn't run
pub not_running : (s : State) (sbs queue : QName) (j : Job) → is_running (routed_from_queue s sbs queue j).phase ≡ false
not_running s sbs queue j = through s sbs (from_queue sbs queue j) j (option_and_then (λ d. route d j.rtgdta) (object_named sbs s.objects.sbsds))

-- so it isn't idle
not_idle : (q pgm : QName) (l : Launched) (i : Job) → is_running l.phase ≡ false → is_idle_in q pgm (as_launched l i) ≡ false
not_idle q pgm l i e = ap (λ (b : Bool). is_from_pre q pgm l.how && (b && not i.evoke && not (has_wish i.wish))) e ∙ and_none (is_from_pre q pgm l.how)

served_launched : (q pgm : QName) (t : State) (c : Candidate) (o : Option Job) → IsServed q pgm t → IsServed q pgm (with_routed t c o)
served_launched q pgm t c None h = h
served_launched q pgm t c (Some j) (inl e) =
    let l = routed_from_queue t c.sbs c.jobq j in
    inl (at_most (count_idle q pgm (with_routed t c (Some j)).jobs) (count_idle q pgm t.jobs) (no_more (is_idle_in q pgm) c.serial (as_launched l) (λ i. not_idle q pgm l i (not_running t c.sbs c.jobq j)) t.jobs) e)
served_launched q pgm t c (Some j) (inr e) = inr e

launches_serve : (q pgm : QName) → IsKept next (λ c t. launch t c) (IsServed q pgm)
launches_serve q pgm = record { by_step = λ t c e h. served_launched q pgm t c (find (λ (j : Job). j.serial == c.serial) t.jobs) h }

started_serve : (s : State) → AreServed (start_jobs (supply s))
started_serve s b d e en =
    iterate-keeps (IsServed b.sbsd e.pgm) (launches_serve b.sbsd e.pgm) (waiting (supply s)) (supply s) (supply_serves s b d e (entry_before (supply s) (start_jobs (supply s)) b d e (settle_has_those s) en))

pub settling_serves : SettlingServes
settling_serves s = started_serve (leave (come_due s))

pub step_serves : StepServes
unfolding step
step_serves s caller call moment = settling_serves (apply (with_clock s moment) caller call).state

pub entries_are_served : EntriesAreServed
entries_are_served s [] h = h
entries_are_served s (x ∷ xs) h = entries_are_served (stepped s x).state xs (step_serves s x.caller x.call x.moment)

opened_is_served : (offset : ℤ) → AreServed (opened offset)
opened_is_served offset b d e en = absurd en.started

pub opening_is_served : OpeningIsServed
opening_is_served offset = subst AreServed (sym (opening_is offset)) (opened_is_served offset)
