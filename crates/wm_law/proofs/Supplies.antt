-- What settling's third part and STRSBS's first prestart jobs keep: jobs are made one by one where there is room, and requests go to idle jobs.
use Rattle.std.proofs.Common.{◌≡◌, ◌⊎◌, ℕ, zero, suc, ◌-◌, ◌<◌, ◌≤◌, ◌&&◌, min, nat_le, not, Bool, true, false, cond, List, [], ◌∷◌, length, filter, fold, Option, Some, None, refl, sym, ap, subst, ◌∙◌, inl, inr, arith, nat_lt}
use Rattle.std.specs.Ordering.{nat_cmp, is_lt}
use Rattle.std.specs.Cmp.Lexicographic.{slice_cmp}
use Rattle.std.proofs.lemmas.Bool.Decides.{nat_tests}
use Rattle.wm_base.specs.declared.limit.Limit.{Limit}
use Rattle.wm_base.specs.declared.limit.Limit.TheVariants.{NoMax, Most}
use Rattle.wm_base.specs.declared.qname.QName.{QName}
use Rattle.wm_base.specs.Limit.{is_below}
use Rattle.wm_base.proofs.Iterate.{iterate-keeps}
use Rattle.wm_desc.specs.declared.description.Sbsd.{Sbsd}
use Rattle.wm_desc.specs.declared.entry.PreEntry.{PreEntry}
use Rattle.wm_desc.specs.declared.objects.Objects.{Objects}
use Rattle.wm_desc.specs.Table.{object_named}
use Rattle.wm_law.specs.declared.state.Evoke.{Evoke}
use Rattle.wm_law.specs.declared.state.Sbs.{Sbs}
use Rattle.wm_law.specs.declared.state.State.{State}
use Rattle.wm_law.specs.Choice.{is_sbs_active}
use Rattle.wm_law.specs.Counts.{count_from_pre, count_in_sbs}
use Rattle.wm_law.specs.Jobs.{active_at}
use Rattle.wm_law.specs.Laws.{IsIn}
use Rattle.wm_law.specs.Prestart.{assigned, count_available, is_lacking, is_stopped, least_multiple, left_by, make_pre, make_pres, replenish, replenished, room, with_evoke, without_first, assign, first_idle, is_evoke_of, is_idle_in, of_lesser_number}
use Rattle.wm_law.specs.Submitting.{numbers_end, numbers_left, serials_end}
use Rattle.wm_law.specs.Supply.{in_order, inserted, make_first, make_firsts, make_firsts_with, supply, supply_entry, supply_in, supply_with}
use Rattle.wm_law.proofs.Endings.{wished}
use Rattle.wm_law.proofs.Members.{left_in, left_passes}
use Rattle.wm_law.proofs.Rounds.{left, left-few, left-made, room-is}
use Rattle.std.specs.List.{list_any}
use Rattle.wm_base.proofs.Tests.{Some-injective}
use Rattle.wm_law.specs.declared.job.Job.{Job}
use Rattle.wm_law.proofs.Listed.{IsPartOf, part_without}

-- a job can be made for the entry: its subsystem is started and Active, the description has the entry, and there is room
pub record IsSuppliable (q : QName) (d : Sbsd) (e : PreEntry) (t : State) : Type 0 where
  pub sbs : Sbs
  pub started : IsIn sbs t.started
  pub named : sbs.sbsd ≡ q
  pub active : is_sbs_active sbs.phase ≡ true
  pub described : object_named q t.objects.sbsds ≡ Some d
  pub entered : IsIn e d.pres
  pub some : 0 < left q d e t

-- a job can get a request: it is an idle job of the entry
pub record IsAssignable (q pgm : QName) (t : State) (job : Job) : Type 0 where
  pub there : IsIn job t.jobs
  pub idle : is_idle_in q pgm job ≡ true

-- and there are those requests then, all of which waited before
pub record IsAssigned (q pgm : QName) (t : State) (job : Job) (evokes : List Evoke) : Type 0 where
  pub there : IsIn job t.jobs
  pub idle : is_idle_in q pgm job ≡ true
  pub part : IsPartOf evokes t.evokes

-- P is kept where a job is made for an entry, and where a job gets a request
pub record IsSupplied (P : State → Type 0) : Type 0 where
  pub makes : (q : QName) (d : Sbsd) (e : PreEntry) (t : State) → IsSuppliable q d e t → P t → P (make_pre q e.pgm t)
  pub assigns : (t : State) (q pgm : QName) (job : Job) (evokes : List Evoke) → IsAssigned q pgm t job evokes → P t → P (wished t (active_at job.serial with_evoke) t.started t.stopped evokes t.power)

few : (b : Bool) (m n : ℕ) → m ≤ n → cond b m 0 ≤ n
few true m n h = h
few false m n h = omega arith

positive : (b : Bool) (n m : ℕ) → 0 < cond b (min n m) 0 → (0 < n) × (0 < m)
positive true n m h = (omega arith, omega arith)
positive false n m h = absurd (omega arith)

-- where a limit leaves some, the count is below it
left_below : (l : Limit) (c k : ℕ) → 0 < left_by l c k → is_below c l ≡ true
left_below NoMax c k h = refl
left_below (Most m) c k h = let less : c < m = omega arith in grind (arith, nat_tests)

-- where a job can be made, a number and a serial are left, and neither MAXJOBS is reached
module _ (q : QName) (d : Sbsd) (e : PreEntry) (t : State) (some : 0 < left q d e t) where
  abbrev inner : ℕ
  inner = left_by e.maxjobs (count_from_pre q e.pgm t.jobs) (numbers_left t)

  inner_some : 0 < inner
  inner_some = omega (arith, some, left-few d.maxjobs (count_in_sbs q t.jobs) inner)

  numbers_some : 0 < numbers_left t
  numbers_some = omega (arith, inner_some, left-few e.maxjobs (count_from_pre q e.pgm t.jobs) (numbers_left t))

  both_some : (0 < numbers_end - t.next_number) × (0 < serials_end - t.next_serial)
  both_some = positive (nat_le 1 t.next_number) (numbers_end - t.next_number) (serials_end - t.next_serial) numbers_some

  pub number_left : t.next_number < numbers_end
  number_left = let some = both_some.0 in omega arith

  pub serial_left : t.next_serial < serials_end
  serial_left = let some = both_some.1 in omega arith

  pub below_sbs : is_below (count_in_sbs q t.jobs) d.maxjobs ≡ true
  below_sbs = left_below d.maxjobs (count_in_sbs q t.jobs) inner some

  pub below_entry : is_below (count_from_pre q e.pgm t.jobs) e.maxjobs ≡ true
  below_entry = left_below e.maxjobs (count_from_pre q e.pgm t.jobs) (numbers_left t) inner_some

-- no more can be made than numbers are left
pub left_numbers : (q : QName) (d : Sbsd) (e : PreEntry) (t : State) → left q d e t ≤ numbers_left t
left_numbers q d e t = omega (arith, left-few d.maxjobs (count_in_sbs q t.jobs) (left_by e.maxjobs (count_from_pre q e.pgm t.jobs) (numbers_left t)), left-few e.maxjobs (count_from_pre q e.pgm t.jobs) (numbers_left t))

pub room_numbers : (q : QName) (d : Sbsd) (e : PreEntry) (t : State) (n : ℕ) → room t q d e n ≤ numbers_left t
room_numbers q d e t n = omega (arith, room-is q d e t n, left_numbers q d e t)

pub replenish_numbers : (q : QName) (d : Sbsd) (e : PreEntry) (t : State) → replenish t q d e ≤ numbers_left t
replenish_numbers q d e t =
    let lacking : ℕ = least_multiple e.adljobs (e.threshold - count_available q e.pgm t.jobs) in
    few (not (is_stopped t q e.pgm) && is_lacking t q e) (room t q d e lacking) (numbers_left t) (room_numbers q d e t lacking)

-- the lesser of some jobs and one more is one of them
lesser_of : (jobs : List Job) (least : Option Job) (j : Job) → fold of_lesser_number least jobs ≡ Some j → (least ≡ Some j) ⊎ IsIn j jobs
lesser_of [] least j e = inl e
lesser_of (x ∷ xs) None j e =
    elim (lesser_of xs (Some x) j e) as (λ _. (None ≡ Some j) ⊎ IsIn j (x ∷ xs)) [ inl same ↦ inr (inl (sym (Some-injective x j same))) | inr i ↦ inr (inr i) ]
lesser_of (x ∷ xs) (Some i) j e = lesser_by (nat_lt x.job.number i.job.number) i x j xs (lesser_of xs (of_lesser_number (Some i) x) j e)
  where
    lesser_by : (b : Bool) (i x j : Job) (xs : List Job) → (cond b (Some x) (Some i) ≡ Some j) ⊎ IsIn j xs → (◌≡◌ {A = Option Job} (Some i) (Some j)) ⊎ IsIn j (x ∷ xs)
    lesser_by true i x j xs (inl same) = inr (inl (sym (Some-injective x j same)))
    lesser_by false i x j xs (inl same) = inl same
    lesser_by b i x j xs (inr m) = inr (inr m)

-- the first idle job is one
pub idle_found : (q pgm : QName) (t : State) (j : Job) → first_idle q pgm t.jobs ≡ Some j → IsAssignable q pgm t j
idle_found q pgm t j e =
    elim (lesser_of (filter (is_idle_in q pgm) t.jobs) None j e) as (λ _. IsAssignable q pgm t j) [
      | inl none ↦ absurd (cc)
      | inr i ↦ record { there = left_in (is_idle_in q pgm) t.jobs j i; idle = left_passes (is_idle_in q pgm) t.jobs j i }
    ]

assignable_by : (b : Bool) (o : Option Job) (j : Job) → cond b o None ≡ Some j → o ≡ Some j
assignable_by true o j e = e
assignable_by false o j e = absurd (cc)

gets : (q pgm : QName) (t : State) (j : Job) → assign q pgm t ≡ Some j → IsAssigned q pgm t j (without_first q pgm t.evokes)
gets q pgm t j e =
    let found = idle_found q pgm t j (assignable_by (list_any (is_evoke_of q pgm) t.evokes) (first_idle q pgm t.jobs) j e) in
    record { there = found.there; idle = found.idle; part = part_without q pgm t.evokes }

pub assignable : (q pgm : QName) (t : State) (j : Job) → assign q pgm t ≡ Some j → IsAssignable q pgm t j
assignable q pgm t j e = idle_found q pgm t j (assignable_by (list_any (is_evoke_of q pgm) t.evokes) (first_idle q pgm t.jobs) j e)

-- a subsystem of the name is among them, and Active
abbrev pub IsActiveAmong : List Sbs → QName → Type 0
IsActiveAmong bs q = (b : Sbs) × IsIn b bs × (b.sbsd ≡ q) × (is_sbs_active b.phase ≡ true)

module _ (P : State → Type 0) (keeps : IsSupplied P) (bs : List Sbs) (o : Objects) where
  -- P holds, and subsystems and objects are as they were
  record IsCarried (t : State) : Type 0 where
    holds : P t
    started : t.started ≡ bs
    objects : t.objects ≡ o

  assigned_carried : (q pgm : QName) (t : State) → IsCarried t → IsCarried (assigned t q pgm)
  assigned_carried q pgm t c =
      iterate-keeps IsCarried (record { by_step = λ s j e h. record { holds = keeps.assigns s q pgm j (without_first q pgm s.evokes) (gets q pgm s j e) h.holds; started = h.started; objects = h.objects } }) (length t.evokes) t c

  module _ (q : QName) (d : Sbsd) (there : IsActiveAmong bs q) (named : object_named q o.sbsds ≡ Some d) where
    suppliable : (e : PreEntry) (t : State) → IsIn e d.pres → IsCarried t → 0 < left q d e t → IsSuppliable q d e t
    suppliable e t i c some = record {
      sbs = there.0;
      started = subst (λ (xs : List Sbs). IsIn there.0 xs) (sym c.started) there.1;
      named = there.2;
      active = there.3;
      described = ap (λ (x : Objects). object_named q x.sbsds) c.objects ∙ named;
      entered = i;
      some = some;
    }

    made_carried : (e : PreEntry) (n : ℕ) (t : State) → IsIn e d.pres → n ≤ left q d e t → IsCarried t → IsCarried (make_pres q e.pgm n t)
    made_carried e zero t i le c = c
    made_carried e (suc n) t i le c =
        let some : 0 < left q d e t = omega (arith, le) in
        let one = left-made q d e t some in
        made_carried e n (make_pre q e.pgm t) i (omega (arith, one, le)) (record { holds = keeps.makes q d e t (suppliable e t i c some) c.holds; started = c.started; objects = c.objects })

    room_left : (e : PreEntry) (t : State) (n : ℕ) → room t q d e n ≤ left q d e t
    room_left e t n = omega (arith, room-is q d e t n)

    replenished_carried : (e : PreEntry) (t : State) → IsIn e d.pres → IsCarried t → IsCarried (replenished t q d e)
    replenished_carried e t i c =
        let lacking : ℕ = least_multiple e.adljobs (e.threshold - count_available q e.pgm t.jobs) in
        made_carried e (replenish t q d e) t i (few (not (is_stopped t q e.pgm) && is_lacking t q e) (room t q d e lacking) (left q d e t) (room_left e t lacking)) c

    entries_carried : (es : List PreEntry) (t : State) → ((e : PreEntry) → IsIn e es → IsIn e d.pres) → IsCarried t → IsCarried (fold (supply_entry q d) t es)
    entries_carried [] t all c = c
    entries_carried (e ∷ es) t all c =
        entries_carried es (supply_entry q d t e) (λ x i. all x (inr i)) (replenished_carried e (assigned t q e.pgm) (all e (inl refl)) (assigned_carried q e.pgm t c))

    first_by : (e : PreEntry) (t : State) (b : Bool) → IsIn e d.pres → IsCarried t → IsCarried (cond b (make_pres q e.pgm (room t q d e e.inljobs) t) t)
    first_by e t true i c = made_carried e (room t q d e e.inljobs) t i (room_left e t e.inljobs) c
    first_by e t false i c = c

    firsts_carried : (es : List PreEntry) (t : State) → ((e : PreEntry) → IsIn e es → IsIn e d.pres) → IsCarried t → IsCarried (fold (make_first q d) t es)
    firsts_carried [] t all c = c
    firsts_carried (e ∷ es) t all c = firsts_carried es (make_first q d t e) (λ x i. all x (inr i)) (first_by e t e.strjobs (all e (inl refl)) c)

  supplied_with : (q : QName) (t : State) (d : Option Sbsd) → IsActiveAmong bs q → object_named q o.sbsds ≡ d → IsCarried t → IsCarried (supply_with q t d)
  supplied_with q t None there named c = c
  supplied_with q t (Some d) there named c = entries_carried q d there named d.pres t (λ e i. i) c

  firsts_with : (q : QName) (t : State) (d : Option Sbsd) → IsActiveAmong bs q → object_named q o.sbsds ≡ d → IsCarried t → IsCarried (make_firsts_with q t d)
  firsts_with q t None there named c = c
  firsts_with q t (Some d) there named c = firsts_carried q d there named d.pres t (λ e i. i) c

  supplied_in : (q : QName) (t : State) → IsActiveAmong bs q → IsCarried t → IsCarried (supply_in t q)
  supplied_in q t there c = supplied_with q t (object_named q t.objects.sbsds) there (ap (λ (x : Objects). object_named q x.sbsds) (sym c.objects)) c

  supplied_all : (qs : List QName) (t : State) → ((q : QName) → IsIn q qs → IsActiveAmong bs q) → IsCarried t → IsCarried (fold supply_in t qs)
  supplied_all [] t all c = c
  supplied_all (q ∷ qs) t all c = supplied_all qs (supply_in t q) (λ x i. all x (inr i)) (supplied_in q t (all q (inl refl)) c)

inserted_by : (b : Bool) (q r x : QName) (xs ys : List QName) → (IsIn r ys → (r ≡ q) ⊎ IsIn r xs) → IsIn r (cond b (x ∷ ys) (q ∷ x ∷ xs)) → (r ≡ q) ⊎ IsIn r (x ∷ xs)
inserted_by true q r x xs ys rest (inl e) = inr (inl e)
inserted_by true q r x xs ys rest (inr i) = elim (rest i) as (λ _. (r ≡ q) ⊎ IsIn r (x ∷ xs)) [ inl e ↦ inl e | inr m ↦ inr (inr m) ]
inserted_by false q r x xs ys rest (inl e) = inl e
inserted_by false q r x xs ys rest (inr i) = inr i

of_inserted : (q r : QName) (rs : List QName) → IsIn r (inserted q rs) → (r ≡ q) ⊎ IsIn r rs
of_inserted q r [] (inl e) = inl e
of_inserted q r [] (inr i) = absurd i
of_inserted q r (x ∷ xs) i = inserted_by (is_lt (slice_cmp nat_cmp x.name q.name)) q r x xs (inserted q xs) (of_inserted q r xs) i

-- a name among those in order is that of a subsystem
of_in_order : (bs : List Sbs) (q : QName) → IsIn q (in_order bs) → (b : Sbs) × IsIn b bs × (b.sbsd ≡ q)
of_in_order [] q i = absurd i
of_in_order (b ∷ bs) q i =
    elim (of_inserted b.sbsd q (in_order bs) i) as (λ _. (x : Sbs) × IsIn x (b ∷ bs) × (x.sbsd ≡ q)) [
      | inl e ↦ (b, inl refl, sym e)
      | inr m ↦ (let x = of_in_order bs q m in (x.0, inr x.1, x.2))
    ]

active_among : (bs : List Sbs) (q : QName) → IsIn q (in_order (filter (λ b. is_sbs_active b.phase) bs)) → IsActiveAmong bs q
active_among bs q i =
    let x = of_in_order (filter (λ (b : Sbs). is_sbs_active b.phase) bs) q i in
    (x.0, left_in (λ (b : Sbs). is_sbs_active b.phase) bs x.0 x.1, x.2, left_passes (λ (b : Sbs). is_sbs_active b.phase) bs x.0 x.1)

-- what is so kept holds after settling's third part
pub supplied_keeps : (P : State → Type 0) → IsSupplied P → (s : State) → P s → P (supply s)
supplied_keeps P keeps s h =
    (supplied_all P keeps s.started s.objects (in_order (filter (λ b. is_sbs_active b.phase) s.started)) s (active_among s.started) (record { holds = h; started = refl; objects = refl })).holds

-- and where so many jobs are made for an entry that has room for them
pub made_keeps : (P : State → Type 0) → IsSupplied P → (q : QName) (d : Sbsd) (e : PreEntry) (n : ℕ) (s : State) → IsActiveAmong s.started q → object_named q s.objects.sbsds ≡ Some d → IsIn e d.pres → n ≤ left q d e s → P s → P (make_pres q e.pgm n s)
made_keeps P keeps q d e n s there named i le h =
    (made_carried P keeps s.started s.objects q d there named e n s i le (record { holds = h; started = refl; objects = refl })).holds

-- and where the first prestart jobs of a subsystem are made
pub firsts_keep : (P : State → Type 0) → IsSupplied P → (q : QName) (s : State) → IsActiveAmong s.started q → P s → P (make_firsts q s)
firsts_keep P keeps q s there h =
    (firsts_with P keeps s.started s.objects q s (object_named q s.objects.sbsds) there refl (record { holds = h; started = refl; objects = refl })).holds
