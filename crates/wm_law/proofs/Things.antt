-- What a call that configures makes of the objects.
use Rattle.std.proofs.Common.{◌≡◌, List, false, Some}
use Rattle.wm_base.specs.declared.job.Class.{Class}
use Rattle.wm_base.specs.declared.qname.QName.{QName}
use Rattle.wm_base.specs.declared.refusal.Kind.{Kind}
use Rattle.wm_base.specs.declared.refusal.Kind.TheVariants as kind
use Rattle.wm_desc.specs.declared.description.Jobd.{Jobd}
use Rattle.wm_desc.specs.declared.description.Jobq.{Jobq}
use Rattle.wm_desc.specs.declared.description.Program.{Program}
use Rattle.wm_desc.specs.declared.description.Sbsd.{Sbsd}
use Rattle.wm_desc.specs.declared.objects.Objects.{Objects}
use Rattle.wm_desc.specs.Objects.{with_description, with_object}
use Rattle.wm_law.specs.declared.call.Call.{Call}
use Rattle.wm_law.specs.declared.configured.Configured.{Configured}
use Rattle.wm_law.specs.declared.configured.Configured.TheVariants.{Object, Description, HeldQueues}
use Rattle.wm_law.specs.Configured.{configured_by, is_there}

-- objects with one more in a table
abbrev pub IsMore : {V : Type 0} → QName → List (QName × V) → (List (QName × V) → Objects) → Objects → Type 0
IsMore {V = V} name objects put b = (v : V) × (b ≡ put (with_object name v objects))

-- in that of its kind
abbrev pub IsWith : Kind → QName → Objects → Objects → Type 0
IsWith kind.Cls name a b = IsMore {V = Class} name a.classes (λ l. record a { classes = l }) b
IsWith kind.Jobq name a b = IsMore {V = Jobq} name a.jobqs (λ l. record a { jobqs = l }) b
IsWith kind.Pgm name a b = IsMore {V = Program} name a.programs (λ l. record a { programs = l }) b
IsWith kind.Jobd name a b = IsMore {V = Jobd} name a.jobds (λ l. record a { jobds = l }) b
IsWith kind.Sbsd name a b = IsMore {V = Sbsd} name a.sbsds (λ l. record a { sbsds = l }) b
IsWith k name a b = ⊥

-- an object that wasn't there came, or a description was changed; held queues are no objects
abbrev pub IsOf : Configured → Objects → Objects → Type 0
IsOf (Object k name) a b = (is_there k name a ≡ false) × IsWith k name a b
IsOf (Description name) a b = (f : Sbsd → Sbsd) × (b ≡ with_description name f a)
IsOf HeldQueues a b = ⊥

-- so the call's command makes them
abbrev pub IsConfigured : Call → Objects → Objects → Type 0
IsConfigured call a b = (c : Configured) × (configured_by call ≡ Some c) × IsOf c a b
