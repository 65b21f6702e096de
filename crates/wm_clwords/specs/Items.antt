-- The marks of the items of a tree.
use Rattle.std.specs.Prelude.{ℕ, Option, Some, None, List, [], ◌∷◌, ◌++◌, length, ◌+◌, ◌-◌}
use Rattle.std.specs.List.{flat_map}
use Rattle.wm_clwords.specs.declared.tree.Item.{Item, Word as ItemWord, Quoted as ItemQuoted, List', Keyed', Row_of-Item, end_of-Item, more_of-Item}
use Rattle.wm_clwords.specs.Grammar.{Word, Quoted, Key, Open, Close, Mark}
use Rattle.wm_clwords.specs.Reading.{mark}

abbrev mutual
  -- a list is marked where it begins and where it ends, with its items between
  pub item_marks : Item → List Mark
  item_marks (ItemWord span text) = mark span.place (span.place + span.len) (Word text) ∷ []
  item_marks (ItemQuoted span text) = mark span.place (span.place + span.len) (Quoted text) ∷ []
  item_marks (List' span shape row) = mark span.place (span.place + 1) Open ∷ row_marks row ++ mark (span.place + span.len - 1) (span.place + span.len) Close ∷ []
  item_marks (Keyed' span key shape row) = mark span.place (span.place + length key + 1) (Key key) ∷ row_marks row ++ mark (span.place + span.len - 1) (span.place + span.len) Close ∷ []

  pub row_marks : {m : _} → Row_of-Item m → List Mark
  row_marks end_of-Item = []
  row_marks (more_of-Item item rest) = item_marks item ++ row_marks rest

-- the marks of items, one after another
abbrev pub list_marks : List Item → List Mark
list_marks items = flat_map item_marks items

-- the mark of the parenthesis that opened a list, or of its key
abbrev pub key_mark : ℕ → Option (List ℕ) → Mark
key_mark start None = mark start (start + 1) Open
key_mark start (Some key) = mark start (start + length key + 1) (Key key)
