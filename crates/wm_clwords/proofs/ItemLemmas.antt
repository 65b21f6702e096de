-- The marks of a list are those of its items.
use Rattle.std.proofs.Common.{◌≡◌, ℕ, ◌-◌, ◌+◌, ◌++◌, List, [], ◌∷◌, length, Vec, Global, ◌∙◌, ap, refl}
use mathlib.Core.Former.{Count}
use Rattle.wm_clwords.specs.declared.tree.Span.{Span}
use Rattle.wm_clwords.specs.declared.tree.Item.{Item, List as ItemList, Keyed as ItemKeyed, List', Keyed', Row_of-Item, end_of-Item, more_of-Item, items-the_row-Item, items_hidden-the_row-Item-0}
use Rattle.wm_clwords.specs.Grammar.{Key, Open, Close, Mark}
use Rattle.wm_clwords.specs.Reading.{mark}
use Rattle.wm_clwords.specs.Items.{item_marks, row_marks, list_marks}

row_is : (n : _) (row : Row_of-Item n) → row_marks row ≡ list_marks (items-the_row-Item n row)
row_is n end_of-Item = refl
row_is n (more_of-Item item rest) = ap (λ m. item_marks item ++ m) (row_is _ rest)

abbrev row_of : Item → (n : Count) × Row_of-Item n
row_of (List' _ _ row) = (_, row)
row_of (Keyed' _ _ _ row) = (_, row)
row_of _ = (_, end_of-Item)

abbrev end_mark : Span → List Mark
end_mark span = mark (span.place + span.len - 1) (span.place + span.len) Close ∷ []

pub marks_of_list : (span : Span) (items : Vec Item Global)
    → item_marks (ItemList span items) ≡ mark span.place (span.place + 1) Open ∷ list_marks items.items ++ end_mark span
marks_of_list span items =
    let row = row_of (ItemList span items) in
    ap (λ m. mark span.place (span.place + 1) Open ∷ m ++ end_mark span) (row_is row.0 row.1 ∙ ap list_marks (items_hidden-the_row-Item-0 items))

pub marks_of_keyed : (span : Span) (key : List ℕ) (items : Vec Item Global)
    → item_marks (ItemKeyed span key items) ≡ mark span.place (span.place + length key + 1) (Key key) ∷ list_marks items.items ++ end_mark span
marks_of_keyed span key items =
    let row = row_of (ItemKeyed span key items) in
    ap (λ m. mark span.place (span.place + length key + 1) (Key key) ∷ m ++ end_mark span) (row_is row.0 row.1 ∙ ap list_marks (items_hidden-the_row-Item-0 items))
