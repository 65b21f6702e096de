-- How references and values are read: second definitions, which `Call` is proved to agree with.
use Rattle.std.specs.Prelude.{ℕ, ◌+◌, Bool, true, false, Option, Some, None, List, [], ◌∷◌, take, drop, length, position, nat_eq, nat_le, ◌==◌, ◌&&◌, codes, if◌then◌else◌}
use Rattle.std.specs.Cmp.Lexicographic.{pointwise}
use Rattle.std.specs.List.{flat_map, list_all}
use Rattle.wm_base.specs.declared.qname.QName.{QName}
use Rattle.wm_base.specs.Name.{name_of}
use Rattle.wm_clwords.specs.declared.reference.Reference.{Reference}
use Rattle.wm_clwords.specs.declared.tree.Item.{Item, Word as ItemWord, Quoted as ItemQuoted, List', Keyed'}
use Rattle.wm_clwords.specs.Call.{program_library}
use Rattle.wm_clwords.specs.Grammar.{Token, Blank, Comment, Word, Quoted, Key, Open, Close}

abbrev pub is_slash : ℕ → Bool
is_slash byte = byte == 47

-- the library that is written, where *LIBL may be
abbrev pub library_of : Bool → List ℕ → Option (List ℕ)
library_of is_word text = if is_word && pointwise nat_eq text (codes "*LIBL") then Some (codes "QGPL") else name_of text

abbrev pub alone : Option (List ℕ) → Option Reference
alone None = None
alone (Some name) = Some (record { library = None; name = name })

abbrev pub joined : Option (List ℕ) → Option (List ℕ) → Option Reference
joined None name = None
joined (Some library) None = None
joined (Some library) (Some name) = Some (record { library = Some library; name = name })

abbrev pub by_slash : Option ℕ → Bool → List ℕ → Option Reference
by_slash None is_word text = alone (name_of text)
by_slash (Some at) is_word text = joined (library_of is_word (take at text)) (name_of (drop (at + 1) text))

abbrev pub text_reference : Bool → List ℕ → Option Reference
text_reference is_word text = by_slash (position is_slash text) is_word text

abbrev pub reference_of : Item → Option Reference
reference_of (ItemWord span text) = text_reference true text
reference_of (ItemQuoted span text) = text_reference false text
reference_of (List' span shape row) = None
reference_of (Keyed' span key shape row) = None

-- the reference that a value's token writes
abbrev pub reference_at : Token → Option Reference
reference_at (Word text) = text_reference true text
reference_at (Quoted text) = text_reference false text
reference_at (Key key) = None
reference_at (Blank byte) = None
reference_at (Comment text) = None
reference_at Open = None
reference_at Close = None

-- the reference's library, or the one of a name alone
abbrev pub or_library : Option (List ℕ) → List ℕ → List ℕ
or_library None library = library
or_library (Some written) library = written

abbrev pub object_by : Option Reference → Option QName
object_by None = None
object_by (Some r) = Some (record { lib = or_library r.library (codes "QGPL"); name = r.name })

abbrev pub program_by : Option Reference → Option QName
program_by None = None
program_by (Some r) = Some (record { lib = or_library r.library (program_library r.name); name = r.name })

-- the text of a value
abbrev pub text_of : Item → Option (List ℕ)
text_of (ItemWord span text) = Some text
text_of (ItemQuoted span text) = Some text
text_of (List' span shape row) = None
text_of (Keyed' span key shape row) = None

abbrev pub is_value : Item → Bool
is_value (ItemWord span text) = true
is_value (ItemQuoted span text) = true
is_value (List' span shape row) = false
is_value (Keyed' span key shape row) = false

abbrev pub text_list : Option (List ℕ) → List (List ℕ)
text_list None = []
text_list (Some text) = text ∷ []

abbrev pub value_texts : Item → List (List ℕ)
value_texts item = text_list (text_of item)

-- the texts of the values among items
abbrev pub texts_of : List Item → List (List ℕ)
texts_of items = flat_map value_texts items

-- 1 to 40 values
abbrev pub are_parms : List Item → Bool
are_parms items = nat_le 1 (length items) && nat_le (length items) 40 && list_all is_value items
