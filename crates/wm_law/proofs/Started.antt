-- The simple names of the started subsystems stay distinct.
use Rattle.std.proofs.Common.{◌≡◌, ℕ, ◌==◌, not, true, false, List, [], ◌∷◌, map, Option, Some, None, refl, sym, ap, subst, ◌∙◌, inl, inr, nat_eq}
use Rattle.std.specs.List.{list_any, find}
use Rattle.std.specs.Cmp.Lexicographic.{pointwise}
use Rattle.std.proofs.lemmas.Bool.{or_parts}
use Rattle.wm_base.specs.declared.qname.QName.{QName}
use Rattle.wm_base.proofs.Tests.{bytes-itself}
use Rattle.wm_law.specs.declared.choice.Candidate.{Candidate}
use Rattle.wm_law.specs.declared.job.Job.{Job}
use Rattle.wm_law.specs.declared.state.Sbs.{Sbs}
use Rattle.wm_law.specs.declared.state.SbsPhase.TheVariants.{Active}
use Rattle.wm_law.specs.declared.state.State.{State}
use Rattle.wm_law.specs.Kept.{IsDistinct, HasDistinctNames, OpeningHasDistinctNames, StepKeepsNamesDistinct, StartedNamesAreDistinct}
use Rattle.wm_law.specs.Launch.{with_routed}
use Rattle.wm_law.specs.Laws.{IsIn}
use Rattle.wm_law.specs.Subsystems.{begun, is_started}
use Rattle.wm_law.specs.Settling.{is_gone}
use Rattle.wm_law.proofs.Distinct.{distinct_last, distinct_left}
use Rattle.wm_law.proofs.Moves.{HoldsOfStates, IsKeptByParts, step_keeps, after_keeps, autos_made}
use Rattle.wm_law.proofs.Opened.{opening_is}

abbrev name_of : Sbs → List ℕ
name_of b = b.sbsd.name

-- a name that no started subsystem has stands not among theirs
not_among : (name : List ℕ) (started : List Sbs) → list_any (λ b. pointwise nat_eq b.sbsd.name name) started ≡ false → IsIn name (map name_of started) → ⊥
not_among name [] e i = i
not_among name (b ∷ bs) e (inl same) =
    let this = (or_parts (pointwise nat_eq b.sbsd.name name) (list_any (λ (b : Sbs). pointwise nat_eq b.sbsd.name name) bs) e).0 in
    let one = subst (λ (n : List ℕ). pointwise nat_eq n name ≡ true) same (bytes-itself name) in
    absurd (cc)
not_among name (b ∷ bs) e (inr i) = not_among name bs (or_parts (pointwise nat_eq b.sbsd.name name) (list_any (λ (b : Sbs). pointwise nat_eq b.sbsd.name name) bs) e).1 i

pub begun_names : (s : State) (q : QName) → is_started s q.name ≡ false → HasDistinctNames s → HasDistinctNames (begun s q)
begun_names s q fresh h = distinct_last name_of (record { sbsd = q; phase = Active }) s.started (not_among q.name s.started fresh) h

pub launched : (s : State) (c : Candidate) (o : Option Job) → HasDistinctNames s → HasDistinctNames (with_routed s c o)
launched s c None h = h
launched s c (Some j) h = h

names_by : (bs : List Sbs) → map name_of bs ≡ map (λ (q : QName). q.name) (map (λ (b : Sbs). b.sbsd) bs)
names_by [] = refl
names_by (b ∷ bs) = ap (λ (names : List (List ℕ)). b.sbsd.name ∷ names) (names_by bs)

names_same : (bs cs : List Sbs) → map (λ (b : Sbs). b.sbsd) bs ≡ map (λ (b : Sbs). b.sbsd) cs → map name_of bs ≡ map name_of cs
names_same bs cs e = names_by bs ∙ ap (map (λ (q : QName). q.name)) e ∙ sym (names_by cs)

pub calls : (s : State) → HasDistinctNames s → HoldsOfStates HasDistinctNames s
calls s h = record {
  stays = h;
  starts = λ q e. autos_made HasDistinctNames s q e (λ t x d m k. k) (begun_names s q e.fresh h);
  supplies = record { makes = λ q d e t can k. k; assigns = λ t q pgm job evokes can k. k };
  enters = λ user c d due has. h;
  alters = λ change place a. h;
  holds = λ held a. h;
  lists = λ stopped evokes. h;
  moves = λ serial j phase stopped i e r n. h;
  ends = λ change started stopped evokes power e. subst IsDistinct (sym (names_same started s.started e.subsystems.names)) h;
  makes = λ o e. h;
}

parts : IsKeptByParts HasDistinctNames
parts = record {
  clock = λ s moment h. h;
  calls = calls;
  leaves = λ s h. distinct_left name_of (λ b. not (is_gone s.jobs b)) s.started h;
  launches = record { by_step = λ s c e h. launched s c (find (λ j. j.serial == c.serial) s.jobs) h };
}

pub opening_has_distinct_names : OpeningHasDistinctNames
opening_has_distinct_names offset = subst HasDistinctNames (sym (opening_is offset)) tt

pub step_keeps_names_distinct : StepKeepsNamesDistinct
step_keeps_names_distinct s caller call moment h = step_keeps HasDistinctNames parts s caller call moment h

pub started_names_are_distinct : StartedNamesAreDistinct
started_names_are_distinct s h d = after_keeps HasDistinctNames parts s h d
