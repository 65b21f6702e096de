-- What is noted of touched jobs.
use Rattle.std.proofs.Common.{◌≡◌, ◌⊎◌, ℕ, ◌||◌, nat_eq, ◌==◌, Bool, true, false, cond, List, [], ◌∷◌, Option, Some, None, fold, map, refl, sym, ap, subst, ◌∙◌, inl, inr, arith}
use Rattle.std.specs.List.{list_any}
use Rattle.std.specs.Ordering.{nat_cmp}
use Rattle.std.proofs.lemmas.Bool.{eq-eqb, eqb-true}
use Rattle.wm_base.proofs.Tests.{Some-injective}
use Rattle.wm_desc.specs.Sorted.{IsSortedOnce, added, has_key, place_of}
use Rattle.wm_ordered.specs.Ordered.{key_of}
use Rattle.wm_law.specs.Jobs.{changed_at}
use Rattle.wm_law.specs.Laws.{IsIn}
use Rattle.wm_law.specs.declared.job.Job.{Job}
use Rattle.wm_law.proofs.InOrder.{in_inserted, number_added}
use Rattle.wm_jobs.specs.Marked.{restored, standing_as, undone}
use Rattle.wm_jobs.specs.declared.touched.Standing.{Standing}
use Rattle.wm_jobs.specs.declared.touched.Touched.{Touched}
use Rattle.wm_tables.proofs.Passing.{one_passes}
use Rattle.wm_tables.proofs.RowOrder.{new_inserted, old_inserted}
use Rattle.wm_tables.specs.Noted.{noted, with_noted}

abbrev pub Pair : Type 0
Pair = ℕ × Standing

abbrev serial : Pair → ℕ
serial p = key_of p

-- how a job of a serial stood at first, where it was touched
abbrev pub first_of : List Touched → ℕ → Option Standing
first_of [] n = None
first_of (t ∷ ts) n = cond (n == t.serial) (Some t.was) (first_of ts n)

-- a serial of which something is noted
pub record IsNoted (n : ℕ) (pairs : List Pair) : Type 0 where
  pub was : Standing
  pub stands : IsIn (n, was) pairs

has_by : (n : ℕ) (p : Pair) (ps : List Pair) (t : Bool) → nat_eq p.0 n ≡ t → (t || list_any (λ q. nat_eq (serial q) n) ps) ≡ true → (list_any (λ q. nat_eq (serial q) n) ps ≡ true → IsNoted n ps) → IsNoted n (p ∷ ps)
has_by n p ps true e h next = record { was = p.1; stands = inl (ap (λ (k : ℕ). (k, p.1)) (sym (eqb-true p.0 n e))) }
has_by n p ps false e h next = let m = next h in record { was = m.was; stands = inr m.stands }

has_noted : (n : ℕ) (ps : List Pair) → has_key key_of nat_eq n ps ≡ true → IsNoted n ps
has_noted n [] h = absurd (cc)
has_noted n (p ∷ ps) h = has_by n p ps (nat_eq p.0 n) refl h (has_noted n ps)

not_noted : (n : ℕ) (ps : List Pair) → has_key key_of nat_eq n ps ≡ false → IsNoted n ps → ⊥
not_noted n ps h m =
    let yes : has_key key_of nat_eq n ps ≡ true = one_passes (λ (q : Pair). nat_eq (serial q) n) ps (n, m.was) m.stands (eq-eqb n n refl) in
    absurd (cc)

-- One more

grown : (ps : List Pair) (t : Touched) → List Pair
grown ps t = added key_of nat_cmp (t.serial, t.was) ps

stays_by : (b : Bool) (ps : List Pair) (t : Touched) (p : Pair) → IsIn p ps → IsIn p (cond b ps (added key_of nat_cmp (t.serial, t.was) ps))
stays_by true ps t p i = i
stays_by false ps t p i = old_inserted ps (place_of key_of nat_cmp t.serial ps) (t.serial, t.was) p i

noted_by : (b : Bool) (ps : List Pair) (t : Touched) → has_key key_of nat_eq t.serial ps ≡ b → IsNoted t.serial (cond b ps (added key_of nat_cmp (t.serial, t.was) ps))
noted_by true ps t e = has_noted t.serial ps e
noted_by false ps t e = record { was = t.was; stands = new_inserted ps (place_of key_of nat_cmp t.serial ps) (t.serial, t.was) }

came_by : (b : Bool) (ps : List Pair) (t : Touched) (p : Pair) → has_key key_of nat_eq t.serial ps ≡ b → IsIn p (cond b ps (added key_of nat_cmp (t.serial, t.was) ps)) → IsIn p ps ⊎ ((p ≡ (t.serial, t.was)) × (has_key key_of nat_eq t.serial ps ≡ false))
came_by true ps t p e i = inl i
came_by false ps t p e i = elim (in_inserted ps (place_of key_of nat_cmp t.serial ps) (t.serial, t.was) p i) as (λ _. IsIn p ps ⊎ ((p ≡ (t.serial, t.was)) × (has_key key_of nat_eq t.serial ps ≡ false))) [
  | inl same ↦ inr (same, e)
  | inr was ↦ inl was
]

sorted_by : (b : Bool) (ps : List Pair) (t : Touched) → has_key key_of nat_eq t.serial ps ≡ b → IsSortedOnce serial nat_cmp ps → IsSortedOnce serial nat_cmp (cond b ps (added key_of nat_cmp (t.serial, t.was) ps))
sorted_by true ps t e s = s
sorted_by false ps t e s = number_added serial (t.serial, t.was) ps s e

-- All

all_stay : (ts : List Touched) (ps : List Pair) (p : Pair) → IsIn p ps → IsIn p (fold with_noted ps ts)
all_stay [] ps p i = i
all_stay (t ∷ ts) ps p i = all_stay ts (with_noted ps t) p (stays_by (has_key key_of nat_eq t.serial ps) ps t p i)

all_noted : (ts : List Touched) (ps : List Pair) (t : Touched) → IsIn t ts → IsNoted t.serial (fold with_noted ps ts)
all_noted [] ps t i = absurd i
all_noted (u ∷ ts) ps t (inl same) =
    let m = noted_by (has_key key_of nat_eq u.serial ps) ps u refl in
    subst (λ (x : Touched). IsNoted x.serial (fold with_noted ps (u ∷ ts))) (sym same) (record { was = m.was; stands = all_stay ts (with_noted ps u) (u.serial, m.was) m.stands })
all_noted (u ∷ ts) ps t (inr i) = all_noted ts (with_noted ps u) t i

all_sorted : (ts : List Touched) (ps : List Pair) → IsSortedOnce serial nat_cmp ps → IsSortedOnce serial nat_cmp (fold with_noted ps ts)
all_sorted [] ps s = s
all_sorted (t ∷ ts) ps s = all_sorted ts (with_noted ps t) (sorted_by (has_key key_of nat_eq t.serial ps) ps t refl s)

first_here : (t : Touched) (ts : List Touched) (n : ℕ) → n ≡ t.serial → first_of (t ∷ ts) n ≡ Some t.was
first_here t ts n e = ap (λ (b : Bool). cond b (Some t.was) (first_of ts n)) (eq-eqb n t.serial e)

later_by : (b : Bool) (t : Touched) (ts : List Touched) (n : ℕ) (w : Standing) → (n == t.serial) ≡ b → (n ≡ t.serial → ⊥) → first_of ts n ≡ Some w → cond b (Some t.was) (first_of ts n) ≡ Some w
later_by true t ts n w e other h = absurd (other (eqb-true n t.serial e))
later_by false t ts n w e other h = h

-- what is noted was noted before, or is how a job stood at first
noted_is : (ts : List Touched) (ps : List Pair) (p : Pair) → IsIn p (fold with_noted ps ts) → IsIn p ps ⊎ ((IsNoted p.0 ps → ⊥) × (first_of ts p.0 ≡ Some p.1))
noted_is [] ps p i = inl i
noted_is (t ∷ ts) ps p i = elim (noted_is ts (with_noted ps t) p i) as (λ _. IsIn p ps ⊎ ((IsNoted p.0 ps → ⊥) × (first_of (t ∷ ts) p.0 ≡ Some p.1))) [
  | inl there ↦ (elim (came_by (has_key key_of nat_eq t.serial ps) ps t p refl there) as (λ _. IsIn p ps ⊎ ((IsNoted p.0 ps → ⊥) × (first_of (t ∷ ts) p.0 ≡ Some p.1))) [
    | inl was ↦ inl was
    | inr new ↦ inr (
      (λ m. not_noted t.serial ps new.1 (subst (λ (n : ℕ). IsNoted n ps) (ap serial new.0) m)),
      first_here t ts p.0 (ap serial new.0) ∙ ap (λ (q : Pair). Some q.1) (sym new.0),
    )
  ])
  | inr later ↦ inr (
    (λ m. later.0 (record { was = m.was; stands = stays_by (has_key key_of nat_eq t.serial ps) ps t (p.0, m.was) m.stands })),
    later_by (p.0 == t.serial) t ts p.0 p.1 refl (λ e. later.0 (subst (λ (n : ℕ). IsNoted n (with_noted ps t)) (sym e) (noted_by (has_key key_of nat_eq t.serial ps) ps t refl))) later.1,
  )
]

pub noted_first : (ts : List Touched) (p : Pair) → IsIn p (noted ts) → first_of ts p.0 ≡ Some p.1
noted_first ts p i = elim (noted_is ts [] p i) as (λ _. first_of ts p.0 ≡ Some p.1) [ inl none ↦ absurd none | inr m ↦ m.1 ]

touched_by : (b : Bool) (t : Touched) (ts : List Touched) (n : ℕ) (w : Standing) → (n == t.serial) ≡ b → cond b (Some t.was) (first_of ts n) ≡ Some w → (first_of ts n ≡ Some w → (u : Touched) × IsIn u ts × (u.serial ≡ n)) → (u : Touched) × IsIn u (t ∷ ts) × (u.serial ≡ n)
touched_by true t ts n w e h next = (t, inl refl, sym (eqb-true n t.serial e))
touched_by false t ts n w e h next = let m = next h in (m.0, inr m.1, m.2)

was_touched : (ts : List Touched) (n : ℕ) (w : Standing) → first_of ts n ≡ Some w → (u : Touched) × IsIn u ts × (u.serial ≡ n)
was_touched [] n w e = absurd (cc)
was_touched (t ∷ ts) n w e = touched_by (n == t.serial) t ts n w refl e (was_touched ts n w)

-- and how each touched job stood at first is noted
pub first_noted : (ts : List Touched) (n : ℕ) (w : Standing) → first_of ts n ≡ Some w → IsIn (n, w) (noted ts)
first_noted ts n w e =
    let u = was_touched ts n w e in
    let m : IsNoted n (noted ts) = subst (λ (k : ℕ). IsNoted k (noted ts)) u.2 (all_noted ts [] u.0 u.1) in
    let same : m.was ≡ w = Some-injective m.was w (sym (noted_first ts (n, m.was) m.stands) ∙ e) in
    subst (λ (x : Standing). IsIn (n, x) (noted ts)) same m.stands

pub noted_sorted : (ts : List Touched) → IsSortedOnce serial nat_cmp (noted ts)
noted_sorted ts = all_sorted ts [] (λ i j d less within. absurd (omega arith))

-- What is undone

-- a job as it stood, if it was touched
abbrev pub stood : Option Standing → Job → Job
stood None j = j
stood (Some w) j = standing_as w j

abbrev undo : List Touched → Job → Job
undo [] j = j
undo (t ∷ ts) j = changed_at t.serial (standing_as t.was) (undo ts j)

map_both : (f g : Job → Job) (jobs : List Job) → map f (map g jobs) ≡ map (λ j. f (g j)) jobs
map_both f g [] = refl
map_both f g (j ∷ jobs) = ap (λ (js : List Job). f (g j) ∷ js) (map_both f g jobs)

map_none : (jobs : List Job) → jobs ≡ map (λ j. j) jobs
map_none [] = refl
map_none (j ∷ jobs) = ap (λ (js : List Job). j ∷ js) (map_none jobs)

undone_undo : (ts : List Touched) (jobs : List Job) → undone ts jobs ≡ map (undo ts) jobs
undone_undo [] jobs = map_none jobs
undone_undo (t ∷ ts) jobs = ap (restored t) (undone_undo ts jobs) ∙ map_both (changed_at t.serial (standing_as t.was)) (undo ts) jobs

over : (t : Touched) (o : Option Standing) (j : Job) → standing_as t.was (stood o j) ≡ standing_as t.was j
over t None j = refl
over t (Some w) j = refl

pub stood_serial : (o : Option Standing) (j : Job) → (stood o j).serial ≡ j.serial
stood_serial None j = refl
stood_serial (Some w) j = refl

undo_by : (t : Touched) (o : Option Standing) (j : Job) (b : Bool) → cond b (standing_as t.was (stood o j)) (stood o j) ≡ stood (cond b (Some t.was) o) j
undo_by t o j true = over t o j
undo_by t o j false = refl

undo_stood : (ts : List Touched) (j : Job) → undo ts j ≡ stood (first_of ts j.serial) j
undo_stood [] j = refl
undo_stood (t ∷ ts) j =
    ap (changed_at t.serial (standing_as t.was)) (undo_stood ts j)
    ∙ ap (λ (n : ℕ). cond (n == t.serial) (standing_as t.was (stood (first_of ts j.serial) j)) (stood (first_of ts j.serial) j)) (stood_serial (first_of ts j.serial) j)
    ∙ undo_by t (first_of ts j.serial) j (j.serial == t.serial)

map_as : (f g : Job → Job) → ((j : Job) → f j ≡ g j) → (jobs : List Job) → map f jobs ≡ map g jobs
map_as f g h [] = refl
map_as f g h (j ∷ jobs) = ap (λ (k : Job). k ∷ map f jobs) (h j) ∙ ap (λ (js : List Job). g j ∷ js) (map_as f g h jobs)

-- the jobs before all that was done are these as they stood
pub undone_stood : (ts : List Touched) (jobs : List Job) → undone ts jobs ≡ map (λ j. stood (first_of ts j.serial) j) jobs
undone_stood ts jobs = undone_undo ts jobs ∙ map_as (undo ts) (λ j. stood (first_of ts j.serial) j) (undo_stood ts) jobs
