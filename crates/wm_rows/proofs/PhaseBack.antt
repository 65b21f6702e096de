-- How a printed job stands is read back.
use Rattle.std.proofs.Common.{◌≡◌, ℕ, ◌<◌, ◌^◌, ◌++◌, Bool, true, false, List, [], ◌∷◌, Some, codes, sym, ◌∙◌, ap, refl, arith, append_assoc}
use Rattle.std.specs.Fmt.{decimal}
use Rattle.std.proofs.lemmas.List.{append-nil}
use Rattle.wm_base.specs.declared.job.EndCause.{EndCause}
use Rattle.wm_base.specs.declared.job.EndCause.TheVariants as cause
use Rattle.wm_base.specs.declared.job.StartCause.TheVariants as start
use Rattle.wm_rows.specs.declared.line.Standing.{Standing}
use Rattle.wm_rows.specs.declared.stored_job.StoredJob.{StoredJob}
use Rattle.wm_rows.specs.declared.stored_job.StoredPhase.{StoredPhase}
use Rattle.wm_rows.specs.declared.stored_job.StoredPhase.TheVariants.{Waiting, Active, Ended}
use Rattle.wm_rows.specs.JobText.{field, held_word, cause_text, phase_text, state_fields}
use Rattle.wm_rows.specs.Reading.{before, behind, value, rest, number_of, kept, same, exited, route_full, cause_of, phase_by, ended_of, phase_of, state_with, state_of}
use Rattle.wm_law.specs.Ranges.{IsCause}
use Rattle.wm_rows.specs.Stored.{IsStored, IsPhase}
use Rattle.wm_rows.proofs.Digits.{number_back, kept_back, lacks_decimal}
use Rattle.wm_rows.proofs.Seams.{Lacks, Lacks-append, before_first, behind_first, before_none, behind_none, field_value, field_rest}

-- a number alone, and one with a value behind a blank
alone : (n : ℕ) → n < 2 ^ 64 → ended_of (decimal n ++ []) ≡ phase_by (cause_of (Some n) (number_of []))
alone n h =
    let e = append-nil (decimal n) in
    let lacks = lacks_decimal 32 n (omega arith) h in
    (λ i. phase_by (cause_of (number_of (before 32 (e i))) (number_of (behind 32 (e i)))))
    ∙ (λ i. phase_by (cause_of (number_of (before_none 32 (decimal n) lacks i)) (number_of (behind_none 32 (decimal n) lacks i))))
    ∙ ap (λ o. phase_by (cause_of o (number_of []))) (number_back n h)

with_value : (n m : ℕ) → n < 2 ^ 64 → m < 2 ^ 64 → ended_of (decimal n ++ 32 ∷ decimal m) ≡ phase_by (cause_of (Some n) (Some m))
with_value n m h g =
    let lacks = lacks_decimal 32 n (omega arith) h in
    (λ i. phase_by (cause_of (number_of (before_first 32 (decimal n) (decimal m) lacks i)) (number_of (behind_first 32 (decimal n) (decimal m) lacks i))))
    ∙ (λ i. phase_by (cause_of (number_back n h i) (number_back m g i)))

cause_back : (c : EndCause) → IsCause c → ended_of (cause_text c) ≡ Some (Ended c)
cause_back cause.Completed h = alone 1 (omega arith)
cause_back (cause.Exited code) h = with_value 2 code (omega arith) (omega (arith, h)) ∙ ap (λ o. phase_by (exited o)) (kept_back 0 255 code (omega arith) h)
cause_back cause.Killed h = alone 3 (omega arith)
cause_back cause.Endjob h = alone 4 (omega arith)
cause_back cause.Endsbs h = alone 5 (omega arith)
cause_back cause.Endpj h = alone 6 (omega arith)
cause_back cause.Maxuse h = alone 7 (omega arith)
cause_back cause.NoRoute h = alone 8 (omega arith)
cause_back (cause.RouteFull seq) h = with_value 9 seq (omega arith) (omega (arith, h.1)) ∙ ap (λ o. phase_by (route_full o)) (kept_back 1 9999 seq h.0 h.1)
cause_back cause.BadRequest h = alone 10 (omega arith)
cause_back cause.NoProgram h = alone 11 (omega arith)
cause_back (cause.StartFailed start.Spawner) h = alone 12 (omega arith)
cause_back (cause.StartFailed start.Memory) h = alone 13 (omega arith)
cause_back cause.Cleared h = alone 14 (omega arith)
cause_back cause.EndedOnQueue h = alone 15 (omega arith)
cause_back cause.Restarted h = alone 16 (omega arith)

phase_back : (p : StoredPhase) → IsPhase p → phase_of (phase_text p) ≡ Some p
phase_back Waiting h = refl
phase_back Active h = refl
phase_back (Ended c) h = ap ended_of (behind_first 32 (codes "ENDED") (cause_text c) refl) ∙ cause_back c h

-- none of it has a parenthesis
alone_closed : (n : ℕ) → n < 2 ^ 64 → Lacks 41 (decimal n ++ [])
alone_closed n h = Lacks-append 41 (decimal n) [] (lacks_decimal 41 n (omega arith) h) refl

value_closed : (n m : ℕ) → n < 2 ^ 64 → m < 2 ^ 64 → Lacks 41 (decimal n ++ 32 ∷ decimal m)
value_closed n m h g = Lacks-append 41 (decimal n) (32 ∷ decimal m) (lacks_decimal 41 n (omega arith) h) (lacks_decimal 41 m (omega arith) g)

cause_closed : (c : EndCause) → IsCause c → Lacks 41 (cause_text c)
cause_closed cause.Completed h = alone_closed 1 (omega arith)
cause_closed (cause.Exited code) h = value_closed 2 code (omega arith) (omega (arith, h))
cause_closed cause.Killed h = alone_closed 3 (omega arith)
cause_closed cause.Endjob h = alone_closed 4 (omega arith)
cause_closed cause.Endsbs h = alone_closed 5 (omega arith)
cause_closed cause.Endpj h = alone_closed 6 (omega arith)
cause_closed cause.Maxuse h = alone_closed 7 (omega arith)
cause_closed cause.NoRoute h = alone_closed 8 (omega arith)
cause_closed (cause.RouteFull seq) h = value_closed 9 seq (omega arith) (omega (arith, h.1))
cause_closed cause.BadRequest h = alone_closed 10 (omega arith)
cause_closed cause.NoProgram h = alone_closed 11 (omega arith)
cause_closed (cause.StartFailed start.Spawner) h = alone_closed 12 (omega arith)
cause_closed (cause.StartFailed start.Memory) h = alone_closed 13 (omega arith)
cause_closed cause.Cleared h = alone_closed 14 (omega arith)
cause_closed cause.EndedOnQueue h = alone_closed 15 (omega arith)
cause_closed cause.Restarted h = alone_closed 16 (omega arith)

phase_closed : (p : StoredPhase) → IsPhase p → Lacks 41 (phase_text p)
phase_closed Waiting h = refl
phase_closed Active h = refl
phase_closed (Ended c) h = cause_closed c h

held_closed : (held : Bool) → Lacks 41 (held_word held)
held_closed true = refl
held_closed false = refl

held_back : (held : Bool) → same (held_word held) (codes "*YES") ≡ held
held_back true = refl
held_back false = refl

abbrev pub standing : StoredJob → Standing
standing j = record { held = j.held; due = j.due; phase = j.phase }

-- the last three fields
pub standing_back : (p : List ℕ) (j : StoredJob) → Lacks 40 p → IsStored j → state_of (p ++ state_fields j) ≡ Some (standing j)
unfolding state_of
standing_back p j hp h =
    let small : j.due < 2 ^ 64 = omega (arith, h.due) in
    let k = codes "HOLD" in
    let l = codes "DUE" in
    let m = codes "PHASE" in
    let third = field m (phase_text j.phase) ++ [] in
    let second = field l (decimal j.due) ++ third in
    let a = held_closed j.held in
    let b = lacks_decimal 41 j.due (omega arith) small in
    let c = phase_closed j.phase h.phase in
    let e : p ++ state_fields j ≡ p ++ (field k (held_word j.held) ++ second) =
    ap (λ t. p ++ t) (append_assoc (field k (held_word j.held)) (field l (decimal j.due)) (field m (phase_text j.phase)) ∙ ap (λ t. field k (held_word j.held) ++ (field l (decimal j.due) ++ t)) (sym (append-nil (field m (phase_text j.phase))))) in
    let one = field_rest p k (held_word j.held) second hp refl a in
    let two = ap rest one ∙ field_rest [] l (decimal j.due) third refl refl b in
    let first_value = field_value p k (held_word j.held) second hp refl a in
    let second_value = ap value one ∙ field_value [] l (decimal j.due) third refl refl b in
    let third_value = ap value two ∙ field_value [] m (phase_text j.phase) [] refl refl c in
    ap state_of e
    ∙ (λ i. state_with (same (first_value i) (codes "*YES")) (kept 0 253402214399 (number_of (second_value i))) (phase_of (third_value i)))
    ∙ (λ i. state_with (held_back j.held i) (kept 0 253402214399 (number_back j.due small i)) (phase_back j.phase h.phase i))
    ∙ ap (λ o. state_with j.held o (Some j.phase)) (kept_back 0 253402214399 j.due (omega arith) h.due)
