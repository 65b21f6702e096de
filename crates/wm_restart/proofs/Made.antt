-- What a row's command makes of a state, by what it makes of the objects alone.
use Rattle.std.proofs.Common.{◌≡◌, true, List, Option, Some, None, is_some, codes, refl, ap, ◌∙◌}
use Rattle.wm_base.specs.declared.refusal.Refusal.{Refusal}
use Rattle.wm_desc.specs.declared.objects.Objects.{Objects}
use Rattle.wm_law.specs.declared.call.Reply.{Reply}
use Rattle.wm_law.specs.declared.call.Reply.TheVariants.{Made}
use Rattle.wm_law.specs.declared.command.Command.{Command}
use Rattle.wm_law.specs.declared.command.Command.TheVariants as command
use Rattle.wm_law.specs.declared.state.Sbs.{Sbs}
use Rattle.wm_law.specs.declared.state.State.{State}
use Rattle.wm_law.specs.Machine.{change}
use Rattle.wm_law.specs.Making.{made_unless}
use Rattle.wm_law.specs.Stepped.{Stepped}
use Rattle.wm_making.specs.Making.{change_objects, state_with}
use Rattle.wm_making.proofs.OfObjects.{same_reply, same_state}
use Rattle.wm_rows.specs.Places.{place_of}

-- what a row keeps, a command makes that changes the objects alone
of_row : (s : State) (c : Command) → is_some (place_of c) ≡ true → change_objects s c ≡ change s (codes "QSYS") c
of_row s (command.Crtcls c) e = refl
of_row s (command.Crtpgmref c) e = refl
of_row s (command.Crtjobq c) e = refl
of_row s (command.Crtjobd c) e = refl
of_row s (command.Crtsbsd c) e = refl
of_row s (command.Addjobqe c) e = refl
of_row s (command.Addrtge c) e = refl
of_row s (command.Addaje c) e = refl
of_row s (command.Addpje c) e = refl
of_row s c e = absurd (cc)

unmade : (s : State) (objects : Objects) (refusal : Option Refusal) → ((made_unless s objects refusal).reply ≡ Made → ⊥) → (made_unless s objects refusal).state ≡ s
unmade s objects None never = absurd (never refl)
unmade s objects (Some x) never = refl

-- where it makes nothing, the state stays
pub left : (s : State) (c : Command) → is_some (place_of c) ≡ true → ((change s (codes "QSYS") c).reply ≡ Made → ⊥) → (change s (codes "QSYS") c).state ≡ s
left s (command.Crtcls c) e never = unmade s _ _ never
left s (command.Crtpgmref c) e never = unmade s _ _ never
left s (command.Crtjobq c) e never = unmade s _ _ never
left s (command.Crtjobd c) e never = unmade s _ _ never
left s (command.Crtsbsd c) e never = unmade s _ _ never
left s (command.Addjobqe c) e never = unmade s _ _ never
left s (command.Addrtge c) e never = unmade s _ _ never
left s (command.Addaje c) e never = unmade s _ _ never
left s (command.Addpje c) e never = unmade s _ _ never
left s c e never = absurd (cc)

module _ (s : State) (c : Command) (place : is_some (place_of c) ≡ true) (started : List Sbs) (same : started ≡ s.started) where
  pub reply_is : (r : Reply) → r ≡ (change_objects (state_with s.objects started) c).reply → r ≡ (change s (codes "QSYS") c).reply
  reply_is r e =
      e ∙ ap (λ (bs : List Sbs). (change_objects (state_with s.objects bs) c).reply) same
      ∙ same_reply s c ∙ ap (λ (t : Stepped). t.reply) (of_row s c place)

  pub state_is : (objects : Objects) → objects ≡ (change_objects (state_with s.objects started) c).state.objects → record s { objects = objects } ≡ (change s (codes "QSYS") c).state
  state_is objects e =
      ap (λ (o : Objects). record s { objects = o }) (e ∙ ap (λ (bs : List Sbs). (change_objects (state_with s.objects bs) c).state.objects) same)
      ∙ same_state s c ∙ ap (λ (t : Stepped). t.state) (of_row s c place)
