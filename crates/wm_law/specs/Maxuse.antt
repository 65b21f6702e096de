-- No prestart job is used more often than its entry's MAXUSE lets it, over histories whose calls keep their ranges.
use Rattle.std.specs.Prelude.{◌≡◌, ℕ, ℤ, true, List, [], ◌∷◌, Some, ⊤}
use Rattle.wm_base.specs.declared.qname.QName.{QName}
use Rattle.wm_base.specs.Limit.{is_below}
use Rattle.wm_desc.specs.declared.description.Sbsd.{Sbsd}
use Rattle.wm_desc.specs.declared.entry.PreEntry.{PreEntry}
use Rattle.wm_desc.specs.declared.objects.Objects.{Objects}
use Rattle.wm_desc.specs.Table.{object_named}
use Rattle.wm_law.specs.declared.call.Call.{Call}
use Rattle.wm_law.specs.declared.call.Entry.{Entry}
use Rattle.wm_law.specs.declared.job.Job.{Job}
use Rattle.wm_law.specs.declared.state.State.{State}
use Rattle.wm_law.specs.Counts.{is_active}
use Rattle.wm_law.specs.Fit.{IsCall}
use Rattle.wm_law.specs.History.{IsLegal, after, stepped}
use Rattle.wm_law.specs.Laws.{IsIn}
use Rattle.wm_law.specs.Limits.{IsWithin}
use Rattle.wm_law.specs.Machine.{step}
use Rattle.wm_law.specs.Opening.{opening}
use Rattle.wm_law.specs.Prestart.{is_idle}
use Rattle.wm_law.specs.Sound.{IsSound}
use Rattle.wm_law.specs.SoundPrestart.{IsPrestartSound}
use Rattle.wm_law.specs.Uses.{maxuse_by}

-- each prestart entry of each description lets its jobs be used: its MAXUSE is *NOMAX or at least 1
abbrev pub AreUsable : Objects → Type 0
AreUsable objects = (sbs : QName) (d : Sbsd) (e : PreEntry) → object_named sbs objects.sbsds ≡ Some d → IsIn e d.pres → is_below 0 e.maxuse ≡ true

-- the uses of each active job are at most the MAXUSE of the prestart entry that it came by
abbrev pub ActiveAreWithin : State → Type 0
ActiveAreWithin s = (j : Job) → IsIn j s.jobs → is_active j.phase ≡ true → IsWithin j.uses (maxuse_by s j.how)

-- those of an idle job are below it
abbrev pub IdleAreBelow : State → Type 0
IdleAreBelow s = (j : Job) → IsIn j s.jobs → is_idle j ≡ true → is_below j.uses (maxuse_by s j.how) ≡ true

-- what holds of uses and MAXUSE
pub record IsWithinMaxuse (s : State) : Type 0 where
  pub usable : AreUsable s.objects
  pub active : ActiveAreWithin s
  pub idle : IdleAreBelow s

-- each call keeps the forms and ranges of its values
abbrev pub AreCalls : List Entry → Type 0
AreCalls [] = ⊤
AreCalls (e ∷ es) = IsCall e.call × AreCalls es

-- it holds of the opening state
abbrev pub OpeningIsWithinMaxuse : Type 0
OpeningIsWithinMaxuse = (offset : ℤ) → IsWithinMaxuse (opening offset)

-- every step from a sound state keeps it, where the call keeps its ranges
abbrev pub StepKeepsMaxuse : Type 0
StepKeepsMaxuse = (s : State) (caller : ℕ) (call : Call) (moment : ℕ) → IsSound s → IsPrestartSound s → IsCall call → IsWithinMaxuse s → IsWithinMaxuse (step s caller call moment).state

-- whatever is called within the ranges from a sound state, it holds
abbrev pub MaxuseIsKept : Type 0
MaxuseIsKept = (s : State) (h : List Entry) → IsSound s → IsPrestartSound s → AreCalls h → IsWithinMaxuse s → IsWithinMaxuse (after s h)

-- a legal history has calls alone that keep their ranges
abbrev pub LegalAreCalls : Type 0
LegalAreCalls = (s : State) (h : List Entry) → IsLegal s h → AreCalls h

-- after each entry of a history the uses of each active job are at most MAXUSE
abbrev pub KeepsUses : State → List Entry → Type 0
KeepsUses s [] = ⊤
KeepsUses s (e ∷ es) = ActiveAreWithin (stepped s e).state × KeepsUses (stepped s e).state es

-- over a legal history from a sound state no job is used more often than MAXUSE
abbrev pub UsesAreKept : Type 0
UsesAreKept = (s : State) (h : List Entry) → IsSound s → IsPrestartSound s → IsLegal s h → IsWithinMaxuse s → KeepsUses s h
