-- Which prestart entries are stopped and which requests wait after a call.
use Rattle.std.proofs.Common.{◌≡◌, ◌⊎◌, ℕ, zero, suc, ◌+◌, ◌<◌, ◌≤◌, ◌++◌, nat_le, Bool, true, false, cond, List, [], ◌∷◌, filter, Option, Some, None, refl, sym, ap, subst, inl, inr, arith}
use Rattle.std.specs.List.{count_by}
use Rattle.std.specs.Option.{option_map_or}
use Rattle.std.specs.Prelude.{position, remove}
use Rattle.std.proofs.lemmas.Bool.{and_parts}
use Rattle.std.proofs.lemmas.Bool.Decides.{nat_tests}
use Rattle.std.proofs.lemmas.List.Sums.{sum_by-append, sum_by-cons}
use Rattle.wm_base.specs.declared.job.How.{How}
use Rattle.wm_base.specs.declared.job.How.TheVariants.{NotYet, FromQueue, Auto, Pre}
use Rattle.wm_base.specs.declared.qname.QName.{QName}
use Rattle.wm_desc.specs.declared.description.Sbsd.{Sbsd}
use Rattle.wm_desc.specs.declared.entry.PreEntry.{PreEntry}
use Rattle.wm_desc.specs.Table.{object_named, same_qname}
use Rattle.wm_law.specs.declared.job.Job.{Job}
use Rattle.wm_law.specs.declared.state.Evoke.{Evoke}
use Rattle.wm_law.specs.declared.state.Sbs.{Sbs}
use Rattle.wm_law.specs.declared.state.State.{State}
use Rattle.wm_law.specs.declared.state.Stop.{Stop}
use Rattle.wm_law.specs.Counts.{is_active}
use Rattle.wm_law.specs.Launch.{pre_entry_for}
use Rattle.wm_law.specs.Laws.{IsIn}
use Rattle.wm_law.specs.Prestart.{count_evokes, is_evoke_of, is_stop_among, without_first}
use Rattle.wm_law.specs.Reports.{stop_added, stops_after, stops_with}
use Rattle.wm_law.specs.Sound.{CameByEntry}
use Rattle.wm_law.specs.Uses.{max_evokes}
use Rattle.wm_law.proofs.Members.{found_among, left_in, of_last}
use Rattle.wm_desc.proofs.Tables.{one_name}

-- what stands in the first list stands in the second, and no test counts more of it
pub record IsPartOf {X : Type 0} (ys xs : List X) : Type 0 where
  pub within : (x : X) → IsIn x ys → IsIn x xs
  pub fewer : (p : X → Bool) → count_by p ys ≤ count_by p xs

pub part_whole : {X : Type 0} (xs : List X) → IsPartOf xs xs
part_whole xs = record { within = λ x i. i; fewer = λ p. omega arith }

fewer_cons : {X : Type 0} (p : X → Bool) (x : X) (ys xs : List X) → count_by p ys ≤ count_by p xs → count_by p (x ∷ ys) ≤ count_by p (x ∷ xs)
fewer_cons p x ys xs h = rw (sum_by-cons (λ z. cond (p z) 1 0) x ys, sum_by-cons (λ z. cond (p z) 1 0) x xs) (omega arith)

fewer_more : {X : Type 0} (p : X → Bool) (x : X) (ys xs : List X) → count_by p ys ≤ count_by p xs → count_by p ys ≤ count_by p (x ∷ xs)
fewer_more p x ys xs h = rw (sum_by-cons (λ z. cond (p z) 1 0) x xs) (omega arith)

fewer_by : {X : Type 0} (t : Bool) (p : X → Bool) (x : X) (ys xs : List X) → count_by p ys ≤ count_by p xs → count_by p (cond t (x ∷ ys) ys) ≤ count_by p (x ∷ xs)
fewer_by true p x ys xs h = fewer_cons p x ys xs h
fewer_by false p x ys xs h = fewer_more p x ys xs h

pub fewer_filtered : {X : Type 0} (q p : X → Bool) (xs : List X) → count_by p (filter q xs) ≤ count_by p xs
fewer_filtered q p [] = omega arith
fewer_filtered q p (x ∷ xs) = fewer_by (q x) p x (filter q xs) xs (fewer_filtered q p xs)

-- what a filter leaves
pub part_filtered : {X : Type 0} (q : X → Bool) (xs : List X) → IsPartOf (filter q xs) xs
part_filtered q xs = record { within = left_in q xs; fewer = λ p. fewer_filtered q p xs }

removed_in : {X : Type 0} (xs : List X) (i : ℕ) (x : X) → IsIn x (remove xs i) → IsIn x xs
removed_in [] zero x m = m
removed_in [] (suc i) x m = m
removed_in (y ∷ xs) zero x m = inr m
removed_in (y ∷ xs) (suc i) x (inl e) = inl e
removed_in (y ∷ xs) (suc i) x (inr m) = inr (removed_in xs i x m)

fewer_removed : {X : Type 0} (p : X → Bool) (xs : List X) (i : ℕ) → count_by p (remove xs i) ≤ count_by p xs
fewer_removed p [] zero = omega arith
fewer_removed p [] (suc i) = omega arith
fewer_removed p (y ∷ xs) zero = fewer_more p y xs xs (omega arith)
fewer_removed p (y ∷ xs) (suc i) = fewer_cons p y (remove xs i) xs (fewer_removed p xs i)

part_removed : {X : Type 0} (xs : List X) (o : Option ℕ) → IsPartOf (option_map_or (λ i. remove xs i) o xs) xs
part_removed xs None = part_whole xs
part_removed xs (Some i) = record { within = removed_in xs i; fewer = λ p. fewer_removed p xs i }

-- the requests without the first one for an entry
pub part_without : (sbs pgm : QName) (evokes : List Evoke) → IsPartOf (without_first sbs pgm evokes) evokes
part_without sbs pgm evokes = part_removed evokes (position (is_evoke_of sbs pgm) evokes)

-- a started subsystem's description has the entry, or an active job came by it
abbrev pub IsKnown : State → QName → QName → Type 0
IsKnown s sbs pgm = CameByEntry s.started s.objects (Pre sbs pgm) ⊎ ((j : Job) × IsIn j s.jobs × (is_active j.phase ≡ true) × (j.how ≡ Pre sbs pgm))

-- stopped entries of which each was stopped, or is known
pub record StopsOn (s : State) : Type 0 where
  pub stops : List Stop
  pub known : (e : Stop) → IsIn e stops → IsIn e s.stopped ⊎ IsKnown s e.sbs e.pgm

-- requests of which each waited, or is for an entry of a started subsystem; and for no entry are there more than there were, or than may be
pub record RequestsOn (s : State) : Type 0 where
  pub requests : List Evoke
  pub known : (e : Evoke) → IsIn e requests → IsIn e s.evokes ⊎ CameByEntry s.started s.objects (Pre e.sbs e.pgm)
  pub few : (sbs pgm : QName) → (count_evokes sbs pgm requests ≤ count_evokes sbs pgm s.evokes) ⊎ (count_evokes sbs pgm requests ≤ max_evokes)

-- the entry that was found is one of a started subsystem
pub known_by : (s : State) (b : Sbs) (d : Sbsd) (pgm : QName) (e : PreEntry) → IsIn b s.started → object_named b.sbsd s.objects.sbsds ≡ Some d → pre_entry_for pgm d ≡ Some e → CameByEntry s.started s.objects (Pre b.sbsd e.pgm)
known_by s b d pgm e i k f = record { sbs = b; sbsd = d; entry = e; started = i; described = k; entered = (found_among (λ (y : PreEntry). same_qname y.pgm pgm) d.pres e f).0; is_how = refl }

abbrev pub same_stops : (s : State) → StopsOn s
same_stops s = record { stops = s.stopped; known = λ e i. inl i }

pub added_known : (s : State) (sbs pgm : QName) (t : Bool) → IsKnown s sbs pgm → (e : Stop) → IsIn e (cond t s.stopped (s.stopped ++ record { sbs = sbs; pgm = pgm } ∷ [])) → IsIn e s.stopped ⊎ IsKnown s e.sbs e.pgm
added_known s sbs pgm true k e i = inl i
added_known s sbs pgm false k e i =
    elim (of_last s.stopped (record { sbs = sbs; pgm = pgm }) e i) as (λ _. IsIn e s.stopped ⊎ IsKnown s e.sbs e.pgm) [
      | inl m ↦ inl m
      | inr same ↦ inr (subst (λ (x : Stop). IsKnown s x.sbs x.pgm) (sym same) k)
    ]

-- one more stopped entry
abbrev pub stop_more : (s : State) (sbs pgm : QName) → IsKnown s sbs pgm → StopsOn s
stop_more s sbs pgm k = record { stops = stop_added sbs pgm s.stopped; known = added_known s sbs pgm (is_stop_among sbs pgm s.stopped) k }

with_known : (s : State) (j : Job) (how : How) → IsIn j s.jobs → is_active j.phase ≡ true → j.how ≡ how → (e : Stop) → IsIn e (stops_with how s.stopped) → IsIn e s.stopped ⊎ IsKnown s e.sbs e.pgm
with_known s j NotYet m a h e i = inl i
with_known s j (FromQueue sbs jobq pty route) m a h e i = inl i
with_known s j (Auto sbs route) m a h e i = inl i
with_known s j (Pre sbs pgm) m a h e i = added_known s sbs pgm (is_stop_among sbs pgm s.stopped) (inr (j, m, a, h)) e i

pub after_known : (s : State) (j : Job) (t : Bool) → IsIn j s.jobs → is_active j.phase ≡ true → (e : Stop) → IsIn e (cond t (stops_with j.how s.stopped) s.stopped) → IsIn e s.stopped ⊎ IsKnown s e.sbs e.pgm
after_known s j true m a e i = with_known s j j.how m a refl e i
after_known s j false m a e i = inl i

-- the stopped entries after a report on an active job
abbrev pub stops_reported : (s : State) (test : Job → Bool) (j : Job) → IsIn j s.jobs → is_active j.phase ≡ true → StopsOn s
stops_reported s test j m a = record { stops = stops_after test j s.stopped; known = after_known s j (test j) m a }

-- some of the requests
abbrev pub requests_left : (s : State) (test : Evoke → Bool) → RequestsOn s
requests_left s test = record { requests = filter test s.evokes; known = λ e i. inl (left_in test s.evokes e i); few = λ sbs pgm. inl (fewer_filtered test (is_evoke_of sbs pgm) s.evokes) }

abbrev pub same_requests : (s : State) → RequestsOn s
same_requests s = record { requests = s.evokes; known = λ e i. inl i; few = λ sbs pgm. inl (omega arith) }

pub not_full : (n : ℕ) → nat_le max_evokes n ≡ false → n < max_evokes
not_full n h = grind (arith, nat_tests)

abbrev number : Bool → ℕ
number b = cond b 1 0

count_last : (p : Evoke → Bool) (xs : List Evoke) (x : Evoke) → count_by p (xs ++ x ∷ []) ≡ count_by p xs + number (p x)
count_last p xs x = rw (sum_by-append (λ z. cond (p z) 1 0) xs (x ∷ []), sum_by-cons (λ z. cond (p z) 1 0) x []) (omega arith)

pub one_more : (xs : List Evoke) (x : Evoke) (q p : QName) (b : Bool) → is_evoke_of q p x ≡ b → count_evokes x.sbs x.pgm xs < max_evokes → (count_evokes q p (xs ++ x ∷ []) ≤ count_evokes q p xs) ⊎ (count_evokes q p (xs ++ x ∷ []) ≤ max_evokes)
one_more xs x q p true e few =
    let parts = and_parts (same_qname x.sbs q) (same_qname x.pgm p) e in
    let sbs : x.sbs ≡ q = one_name x.sbs q parts.0 in
    let pgm : x.pgm ≡ p = one_name x.pgm p parts.1 in
    let its : count_evokes q p xs < max_evokes = subst (λ (m : QName). count_evokes m p xs < max_evokes) sbs (subst (λ (m : QName). count_evokes x.sbs m xs < max_evokes) pgm few) in
    let one : number (is_evoke_of q p x) ≡ 1 = ap number e in
    let all = count_last (is_evoke_of q p) xs x in
    inr (omega arith)
one_more xs x q p false e few =
    let none : number (is_evoke_of q p x) ≡ 0 = ap number e in
    let all = count_last (is_evoke_of q p) xs x in
    inl (omega arith)

-- one more request, where not too many wait for its entry
abbrev pub request_more : (s : State) (x : Evoke) → CameByEntry s.started s.objects (Pre x.sbs x.pgm) → nat_le max_evokes (count_evokes x.sbs x.pgm s.evokes) ≡ false → RequestsOn s
request_more s x known few = record {
  requests = s.evokes ++ x ∷ [];
  known = λ e i. (
      elim (of_last s.evokes x e i) as (λ _. IsIn e s.evokes ⊎ CameByEntry s.started s.objects (Pre e.sbs e.pgm)) [
        | inl m ↦ inl m
        | inr same ↦ inr (subst (λ (y : Evoke). CameByEntry s.started s.objects (Pre y.sbs y.pgm)) (sym same) known)
      ]);
  few = λ q p. one_more s.evokes x q p (is_evoke_of q p x) refl (not_full (count_evokes x.sbs x.pgm s.evokes) few);
}
