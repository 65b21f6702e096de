-- What stands at an item.
use Rattle.std.specs.Prelude.{ℕ, Bool, false, Option, Some, None, List, [], nat_eq, is_some}
use Rattle.std.specs.Cmp.Lexicographic.{pointwise}
use Rattle.wm_clwords.specs.declared.tree.Item.{Item, Word, Quoted, List', Keyed', items-the_row-Item}

-- where it begins
abbrev pub place_of : Item → ℕ
place_of (Word span text) = span.place
place_of (Quoted span text) = span.place
place_of (List' span shape row) = span.place
place_of (Keyed' span key shape row) = span.place

-- the word that it is
abbrev pub word_of : Item → Option (List ℕ)
word_of (Word span text) = Some text
word_of (Quoted span text) = None
word_of (List' span shape row) = None
word_of (Keyed' span key shape row) = None

-- the characters of a word or of a text in apostrophes
abbrev pub text_of : Item → Option (List ℕ)
text_of (Word span text) = Some text
text_of (Quoted span text) = Some text
text_of (List' span shape row) = None
text_of (Keyed' span key shape row) = None

-- whether it is a word, and no text in apostrophes
abbrev pub is_bare : Item → Bool
is_bare item = is_some (word_of item)

abbrev pub key_of : Item → Option (List ℕ)
key_of (Word span text) = None
key_of (Quoted span text) = None
key_of (List' span shape row) = None
key_of (Keyed' span key shape row) = Some key

-- the values behind its key
abbrev pub listed : Item → List Item
listed (Word span text) = []
listed (Quoted span text) = []
listed (List' span shape row) = []
listed (Keyed' span key shape row) = items-the_row-Item _ row

abbrev pub is_text : Option (List ℕ) → List ℕ → Bool
is_text None word = false
is_text (Some text) word = pointwise nat_eq text word

-- whether it is this word
abbrev pub is_word : Item → List ℕ → Bool
is_word item word = is_text (word_of item) word
