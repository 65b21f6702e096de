-- Each started subsystem has its description, and none is Active where the power isn't On.
use Rattle.std.proofs.Common.{◌≡◌, ℤ, ◌==◌, not, Bool, true, false, List, Option, Some, None, refl, sym, ap, subst, ◌∙◌, inl, inr}
use Rattle.std.specs.List.{find}
use Rattle.std.specs.Option.{IsSome}
use Rattle.wm_base.specs.declared.qname.QName.{QName}
use Rattle.wm_desc.specs.declared.description.Sbsd.{Sbsd}
use Rattle.wm_desc.specs.Table.{object_named}
use Rattle.wm_law.specs.declared.choice.Candidate.{Candidate}
use Rattle.wm_law.specs.declared.job.Job.{Job}
use Rattle.wm_law.specs.declared.state.Power.{Power}
use Rattle.wm_law.specs.declared.state.Sbs.{Sbs}
use Rattle.wm_law.specs.declared.state.SbsPhase.TheVariants.{Active}
use Rattle.wm_law.specs.declared.state.State.{State}
use Rattle.wm_law.specs.Choice.{is_sbs_active}
use Rattle.wm_law.specs.Kept.{HasDescriptions, IsQuiet, OpeningHasDescriptions, OpeningIsQuiet, StepKeepsDescriptions, StartedAreDescribed, StepKeepsQuiet, NoneIsActiveWithoutPower}
use Rattle.wm_law.specs.Launch.{with_routed}
use Rattle.wm_law.specs.Laws.{IsIn}
use Rattle.wm_law.specs.Power.{is_on}
use Rattle.wm_law.specs.Subsystems.{begun}
use Rattle.wm_law.specs.Settling.{is_gone}
use Rattle.wm_law.proofs.Endings.{AreEnded, IsEnding}
use Rattle.wm_law.proofs.Members.{of_last, left_in}
use Rattle.wm_law.proofs.Opened.{opened, opening_is}
use Rattle.wm_law.proofs.Moves.{HoldsOfStates, IsKeptByParts, step_keeps, after_keeps, autos_made}

described : (s : State) (q : QName) → IsSome (object_named q s.objects.sbsds) → HasDescriptions s → HasDescriptions (begun s q)
described s q there h b i =
    elim (of_last s.started (record { sbsd = q; phase = Active }) b i) as (λ _. IsSome (object_named b.sbsd s.objects.sbsds)) [
      | inl m ↦ h b m
      | inr same ↦ subst (λ (x : Sbs). IsSome (object_named x.sbsd s.objects.sbsds)) (sym same) there
    ]

described_launched : (s : State) (c : Candidate) (o : Option Job) → HasDescriptions s → HasDescriptions (with_routed s c o)
described_launched s c None h = h
described_launched s c (Some j) h = h

described_ended : (s : State) (started : List Sbs) → AreEnded s.started started → HasDescriptions s → (b : Sbs) → IsIn b started → IsSome (object_named b.sbsd s.objects.sbsds)
described_ended s started e h b i =
    let m = e.before b i in
    let same = m.2 in
    subst (λ (q : QName). IsSome (object_named q s.objects.sbsds)) (sym same.named) (h m.0 m.1)

described_calls : (s : State) → HasDescriptions s → HoldsOfStates HasDescriptions s
described_calls s h = record {
  stays = h;
  starts = λ q e. autos_made HasDescriptions s q e (λ t x d m k. k) (described s q e.there h);
  supplies = record { makes = λ q d e t can k. k; assigns = λ t q pgm job evokes can k. k };
  enters = λ user c d due has. h;
  alters = λ change place a. h;
  holds = λ held a. h;
  lists = λ stopped evokes. h;
  moves = λ serial j phase stopped i e r n. h;
  ends = λ change started stopped evokes power e b i. described_ended s started e.subsystems h b i;
  makes = λ o e b i. subst (λ (d : Option Sbsd). IsSome d) (sym (e.described b i (h b i))) (h b i);
}

described_parts : IsKeptByParts HasDescriptions
described_parts = record {
  clock = λ s moment h. h;
  calls = described_calls;
  leaves = λ s h b i. h b (left_in (λ b. not (is_gone s.jobs b)) s.started b i);
  launches = record { by_step = λ s c e h. described_launched s c (find (λ j. j.serial == c.serial) s.jobs) h };
}

quiet_launched : (s : State) (c : Candidate) (o : Option Job) → IsQuiet s → IsQuiet (with_routed s c o)
quiet_launched s c None h = h
quiet_launched s c (Some j) h = h

unless_was : (t u : Bool) → (t ≡ true → u ≡ true) → u ≡ false → t ≡ false
unless_was true u h e = let yes = h refl in absurd (cc)
unless_was false u h e = refl

quiet_ended : (s : State) (change : Job → Job) (started : List Sbs) (power : Power) → IsEnding s change started power → IsQuiet s → is_on power ≡ false → (b : Sbs) → IsIn b started → is_sbs_active b.phase ≡ false
quiet_ended s change started power e h off b i =
    elim (e.quiet) as (λ _. is_sbs_active b.phase ≡ false) [
      | inl same ↦ (
          let m = e.subsystems.before b i in
          let ended = m.2 in
          unless_was (is_sbs_active b.phase) (is_sbs_active m.0.phase) ended.active (h (ap is_on (sym same) ∙ off) m.0 m.1))
      | inr none ↦ none b i
    ]

quiet_calls : (s : State) → IsQuiet s → HoldsOfStates IsQuiet s
quiet_calls s h = record {
  stays = h;
  starts = λ q e. autos_made IsQuiet s q e (λ t x d m k. k) (λ off b i. (let on = e.on in absurd (cc)));
  supplies = record { makes = λ q d e t can k. k; assigns = λ t q pgm job evokes can k. k };
  enters = λ user c d due has. h;
  alters = λ change place a. h;
  holds = λ held a. h;
  lists = λ stopped evokes. h;
  moves = λ serial j phase stopped i e r n. h;
  ends = λ change started stopped evokes power e off b i. quiet_ended s change started power e h off b i;
  makes = λ o e. h;
}

quiet_parts : IsKeptByParts IsQuiet
quiet_parts = record {
  clock = λ s moment h. h;
  calls = quiet_calls;
  leaves = λ s h off b i. h off b (left_in (λ b. not (is_gone s.jobs b)) s.started b i);
  launches = record { by_step = λ s c e h. quiet_launched s c (find (λ j. j.serial == c.serial) s.jobs) h };
}

opened_has_descriptions : (offset : ℤ) → HasDescriptions (opened offset)
opened_has_descriptions offset b i = absurd i

pub opening_has_descriptions : OpeningHasDescriptions
opening_has_descriptions offset = subst HasDescriptions (sym (opening_is offset)) (opened_has_descriptions offset)

opened_is_quiet : (offset : ℤ) → IsQuiet (opened offset)
opened_is_quiet offset off b i = absurd i

pub opening_is_quiet : OpeningIsQuiet
opening_is_quiet offset = subst IsQuiet (sym (opening_is offset)) (opened_is_quiet offset)

pub step_keeps_descriptions : StepKeepsDescriptions
step_keeps_descriptions s caller call moment h = step_keeps HasDescriptions described_parts s caller call moment h

pub started_are_described : StartedAreDescribed
started_are_described s h d = after_keeps HasDescriptions described_parts s h d

pub step_keeps_quiet : StepKeepsQuiet
step_keeps_quiet s caller call moment h = step_keeps IsQuiet quiet_parts s caller call moment h

pub none_is_active_without_power : NoneIsActiveWithoutPower
none_is_active_without_power s h q = after_keeps IsQuiet quiet_parts s h q
