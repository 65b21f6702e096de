-- What a step that finds no memory in the middle leaves as it was, so that it can be taken back.
use Rattle.std.specs.Prelude.{List}
use Rattle.std.specs.Prelude.{ℤ}
use Rattle.wm_base.specs.declared.qname.QName.{QName}
use Rattle.wm_desc.specs.declared.objects.Objects.{Objects}
use Rattle.wm_law.specs.declared.state.State.{State}

-- the objects, the held queues and the offset of a state
pub record Aside : Type 0 where
  pub objects : Objects
  pub held : List QName
  pub offset : ℤ

abbrev pub aside_of : State → Aside
aside_of s = record { objects = s.objects; held = s.held; offset = s.offset_min }
