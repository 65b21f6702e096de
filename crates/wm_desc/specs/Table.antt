-- Objects of one kind by their qualified names.
use Rattle.std.specs.Prelude.{◌≡◌, ℕ, ◌<◌, Bool, nat_eq, ◌&&◌, cond, codes, List, length, map, find, slice_index_or, slice_set, Option, Some, option_map}
use Rattle.std.specs.List.{list_any}
use Rattle.std.specs.Ordering.{nat_cmp, ordering_then}
use Rattle.std.specs.Cmp.Lexicographic.{pointwise, slice_cmp}
use Rattle.std.specs.declared.cmp.Ordering.{Ordering}
use Rattle.wm_base.specs.declared.qname.QName.{QName}

-- whether two qualified names are one
abbrev pub same_qname : QName → QName → Bool
same_qname a b = pointwise nat_eq a.lib b.lib && pointwise nat_eq a.name b.name

-- by library, and then by name
abbrev pub qname_cmp : QName → QName → Ordering
qname_cmp a b = ordering_then (slice_cmp nat_cmp a.lib b.lib) (slice_cmp nat_cmp a.name b.name)

-- QSYS/QCMD, which is a program without being an object
abbrev pub is_qcmd : QName → Bool
is_qcmd name = pointwise nat_eq name.lib (codes "QSYS") && pointwise nat_eq name.name (codes "QCMD")

abbrev pub name_of : {V : Type 0} → QName × V → QName
name_of object = object.0

-- the description of the object with a name, if there is one
abbrev pub object_named : {V : Type 0} → QName → List (QName × V) → Option V
object_named name objects = option_map (λ object. object.1) (find (λ object. same_qname object.0 name) objects)

-- whether there is an object with a name
abbrev pub has_object : {V : Type 0} → QName → List (QName × V) → Bool
has_object name objects = list_any (λ object. same_qname object.0 name) objects

-- the objects, with another description for the one with a name
abbrev pub changed : {V : Type 0} → QName → (V → V) → List (QName × V) → List (QName × V)
changed name change objects = map (λ object. cond (same_qname object.0 name) (object.0, change object.1) object) objects

-- the object with a name stands at place i, so a change of its description is a write there
pub record StandsAt {V : Type 0} (name : QName) (objects : List (QName × V)) (i : ℕ) : Type 0 where
  pub in_range : i < length objects
  pub described : (d : QName × V) → object_named name objects ≡ Some (slice_index_or objects i d).1
  pub written : (change : V → V) (d : QName × V) → changed name change objects ≡ slice_set objects i ((slice_index_or objects i d).0, change (slice_index_or objects i d).1)
