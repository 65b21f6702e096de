-- The tokens of items, and where one item ends.
use Rattle.std.proofs.Common.{◌≡◌, ℕ, ◌≤◌, ◌++◌, true, List, [], ◌∷◌, length, Vec, Global, subst, sym, ◌∙◌, ap, refl, arith}
use Rattle.std.specs.List.{list_all}
use Rattle.std.proofs.lemmas.Bool.{false≢true}
use Rattle.std.proofs.lemmas.List.{length-append, append_assoc, append-nil, map-append}
use Rattle.wm_clwords.specs.declared.tree.Span.{Span}
use Rattle.wm_clwords.specs.declared.tree.Item.{Item, Word as ItemWord, Quoted as ItemQuoted, Keyed as ItemKeyed, List', Keyed', Row_of-Item, end_of-Item, more_of-Item}
use Rattle.wm_clwords.specs.Grammar.{Token, Word, Quoted, Key, Open, Close, Mark}
use Rattle.wm_clwords.specs.Items.{item_marks, row_marks, list_marks}
use Rattle.wm_clwords.specs.Call.{token_of, tokens_of, item_tokens, list_tokens, IsValue, AreValues}
use Rattle.wm_clwords.specs.CallReading.{is_value, texts_of}
use Rattle.wm_clwords.proofs.ItemLemmas.{marks_of_keyed}

pub tokens-append : (a b : List Mark) → tokens_of (a ++ b) ≡ tokens_of a ++ tokens_of b
tokens-append a b = map-append token_of a b

pub list_tokens-cons : (item : Item) (items : List Item) → list_tokens (item ∷ items) ≡ item_tokens item ++ list_tokens items
list_tokens-cons item items = tokens-append (item_marks item) (list_marks items)

abbrev row_tokens : {m : _} → Row_of-Item m → List Token
row_tokens row = tokens_of (row_marks row)

-- the first of each, and the rest
pub heads : (a b : Token) (x y : List Token) → a ∷ x ≡ b ∷ y → (a ≡ b) × (x ≡ y)
heads a b x y e = (cc, cc)

-- a value is no parenthesis and no key
pub no_open : (token : Token) (text : List ℕ) → IsValue token text → token ≡ Open → ⊥
no_open token text v e = subst (λ (t : Token). IsValue t text) e v

pub no_close : (token : Token) (text : List ℕ) → IsValue token text → token ≡ Close → ⊥
no_close token text v e = subst (λ (t : Token). IsValue t text) e v

pub no_key : (token : Token) (text key : List ℕ) → IsValue token text → token ≡ Key key → ⊥
no_key token text key v e = subst (λ (t : Token). IsValue t text) e v

-- no item begins with the end of a list
open_close : ◌≡◌ {A = Token} Open Close → ⊥
open_close e = cc

word_close : (bytes : List ℕ) → ◌≡◌ {A = Token} (Word bytes) Close → ⊥
word_close bytes e = cc

quoted_close : (bytes : List ℕ) → ◌≡◌ {A = Token} (Quoted bytes) Close → ⊥
quoted_close bytes e = cc

key_close : (bytes : List ℕ) → ◌≡◌ {A = Token} (Key bytes) Close → ⊥
key_close bytes e = cc

pub word_key : (bytes key : List ℕ) → ◌≡◌ {A = Token} (Word bytes) (Key key) → ⊥
word_key bytes key e = cc

pub quoted_key : (bytes key : List ℕ) → ◌≡◌ {A = Token} (Quoted bytes) (Key key) → ⊥
quoted_key bytes key e = cc

pub open_key : (key : List ℕ) → ◌≡◌ {A = Token} Open (Key key) → ⊥
open_key key e = cc

pub key_same : (a b : List ℕ) → ◌≡◌ {A = Token} (Key a) (Key b) → a ≡ b
key_same a b e = cc

begins_no_close : (item : Item) (x rest : List Token) → item_tokens item ++ x ≡ Close ∷ rest → ⊥
begins_no_close (ItemWord span text) x rest e = word_close text (heads (Word text) Close _ rest e).0
begins_no_close (ItemQuoted span text) x rest e = quoted_close text (heads (Quoted text) Close _ rest e).0
begins_no_close (List' span shape row) x rest e = open_close (heads Open Close _ rest e).0
begins_no_close (Keyed' span key shape row) x rest e = key_close key (heads (Key key) Close _ rest e).0

-- an item that begins with a value is that value
pub cut_value : (item : Item) (token : Token) (text : List ℕ) (x rest : List Token) → IsValue token text → item_tokens item ++ x ≡ token ∷ rest → (item_tokens item ≡ token ∷ []) × (x ≡ rest)
cut_value (ItemWord span bytes) token text x rest v e =
    let h = heads (Word bytes) token x rest e in
    (ap (λ t. t ∷ []) h.0, h.1)
cut_value (ItemQuoted span bytes) token text x rest v e =
    let h = heads (Quoted bytes) token x rest e in
    (ap (λ t. t ∷ []) h.0, h.1)
cut_value (List' span shape row) token text x rest v e = absurd (no_open token text v (sym (heads Open token _ rest e).0))
cut_value (Keyed' span key shape row) token text x rest v e = absurd (no_key token text key v (sym (heads (Key key) token _ rest e).0))

-- a list whose items begin with values, and then end
cut_row : (n : _) (row : Row_of-Item n) (values : List Token) (texts : List (List ℕ)) (x y : List Token) → AreValues values texts → row_tokens row ++ (Close ∷ x) ≡ values ++ (Close ∷ y)
    → (row_tokens row ≡ values) × (x ≡ y)
cut_row n end_of-Item [] texts x y v e = (refl, (heads Close Close x y e).1)
cut_row n end_of-Item (token ∷ tokens) [] x y v e = absurd v
cut_row n end_of-Item (token ∷ tokens) (text ∷ texts) x y v e = absurd (no_close token text v.0 (sym (heads Close token x _ e).0))
cut_row n (more_of-Item item row) [] texts x y v e =
    absurd (begins_no_close item (row_tokens row ++ (Close ∷ x)) y
    (sym (append_assoc (item_tokens item) (row_tokens row) (Close ∷ x)) ∙ ap (λ l. l ++ (Close ∷ x)) (sym (tokens-append (item_marks item) (row_marks row))) ∙ e))
cut_row n (more_of-Item item row) (token ∷ tokens) [] x y v e = absurd v
cut_row n (more_of-Item item row) (token ∷ tokens) (text ∷ texts) x y v e =
    let first = cut_value item token text (row_tokens row ++ (Close ∷ x)) (tokens ++ (Close ∷ y)) v.0
    (sym (append_assoc (item_tokens item) (row_tokens row) (Close ∷ x)) ∙ ap (λ l. l ++ (Close ∷ x)) (sym (tokens-append (item_marks item) (row_marks row))) ∙ e) in
    let rest = cut_row _ row tokens texts x y v.1 first.1 in
    (tokens-append (item_marks item) (row_marks row) ∙ ap (λ l. l ++ row_tokens row) first.0 ∙ ap (λ l. token ∷ l) rest.0, rest.1)

-- an item that begins with a key and a list of values is these
pub cut_keyed : (item : Item) (key : List ℕ) (values : List Token) (texts : List (List ℕ)) (x y : List Token) → AreValues values texts
    → item_tokens item ++ x ≡ (Key key ∷ values ++ Close ∷ []) ++ y → (item_tokens item ≡ Key key ∷ values ++ Close ∷ []) × (x ≡ y)
cut_keyed (ItemWord span bytes) key values texts x y v e = absurd (word_key bytes key (heads (Word bytes) (Key key) _ _ e).0)
cut_keyed (ItemQuoted span bytes) key values texts x y v e = absurd (quoted_key bytes key (heads (Quoted bytes) (Key key) _ _ e).0)
cut_keyed (List' span shape row) key values texts x y v e = absurd (open_key key (heads Open (Key key) _ _ e).0)
cut_keyed (Keyed' span word shape row) key values texts x y v e =
    let inner : tokens_of (row_marks row ++ _) ≡ row_tokens row ++ Close ∷ [] = tokens-append (row_marks row) _ in
    let h = heads (Key word) (Key key) (tokens_of (row_marks row ++ _) ++ x) ((values ++ Close ∷ []) ++ y) e in
    let rest = cut_row _ row values texts x y v
    (sym (append_assoc (row_tokens row) (Close ∷ []) x) ∙ ap (λ l. l ++ x) (sym inner) ∙ h.1 ∙ append_assoc values (Close ∷ []) y) in
    (ap (λ l. Key word ∷ l) (inner ∙ ap (λ l. l ++ Close ∷ []) rest.0) ∙ ap (λ t. t ∷ (values ++ Close ∷ [])) h.0, rest.1)

-- each item has a token
pub some_token : (item : Item) → 1 ≤ length (item_tokens item)
some_token (ItemWord span bytes) = omega arith
some_token (ItemQuoted span bytes) = omega arith
some_token (List' span shape row) = omega arith
some_token (Keyed' span key shape row) = omega arith

pub no_items : (items : List Item) → list_tokens items ≡ [] → items ≡ []
no_items [] e = refl
no_items (item ∷ items) e =
    absurd (omega (arith, some_token item, ap length (sym (list_tokens-cons item items) ∙ e), length-append (item_tokens item) (list_tokens items)))

pub one_item : (item : Item) → list_tokens (item ∷ []) ≡ item_tokens item
one_item item = list_tokens-cons item [] ∙ append-nil (item_tokens item)

-- items that are one value are one item
pub one_value : (items : List Item) (token : Token) → list_tokens items ≡ token ∷ [] → (item : Item) × (items ≡ item ∷ [])
one_value [] token e = cc
one_value (item ∷ []) token e = (item, refl)
one_value (item ∷ next ∷ items) token e =
    absurd (omega (
      arith,
      some_token item,
      some_token next,
      ap length (sym (list_tokens-cons item (next ∷ items)) ∙ e),
      length-append (item_tokens item) (list_tokens (next ∷ items)),
      ap length (list_tokens-cons next items),
      length-append (item_tokens next) (list_tokens items),
    ))

-- what is known of items that are values
pub record Values (items : List Item) (texts : List (List ℕ)) : Type 0 where
  pub all : list_all is_value items ≡ true
  pub texts_are : texts_of items ≡ texts
  pub long : length items ≡ length texts

pub values_items : (items : List Item) (texts : List (List ℕ)) → AreValues (list_tokens items) texts → Values items texts
values_items [] [] v = record { all = refl; texts_are = refl; long = refl }
values_items [] (text ∷ texts) v = absurd v
values_items (ItemWord span bytes ∷ items) [] v = absurd v
values_items (ItemWord span bytes ∷ items) (text ∷ texts) v =
    let rest = values_items items texts v.1 in
    record { all = rest.all; texts_are = ap (λ t. t ∷ texts_of items) v.0 ∙ ap (λ l. text ∷ l) rest.texts_are; long = omega (arith, rest.long) }
values_items (ItemQuoted span bytes ∷ items) [] v = absurd v
values_items (ItemQuoted span bytes ∷ items) (text ∷ texts) v =
    let rest = values_items items texts v.1 in
    record { all = rest.all; texts_are = ap (λ t. t ∷ texts_of items) v.0 ∙ ap (λ l. text ∷ l) rest.texts_are; long = omega (arith, rest.long) }
values_items (List' span shape row ∷ items) [] v = absurd v
values_items (List' span shape row ∷ items) (text ∷ texts) v = absurd v.0
values_items (Keyed' span key shape row ∷ items) [] v = absurd v
values_items (Keyed' span key shape row ∷ items) (text ∷ texts) v = absurd v.0

pub items_values : (items : List Item) → list_all is_value items ≡ true → AreValues (list_tokens items) (texts_of items) × (length (texts_of items) ≡ length items)
items_values [] h = (tt, refl)
items_values (ItemWord span bytes ∷ items) h =
    let rest = items_values items h in
    ((refl, rest.0), omega (arith, rest.1))
items_values (ItemQuoted span bytes ∷ items) h =
    let rest = items_values items h in
    ((refl, rest.0), omega (arith, rest.1))
items_values (List' span shape row ∷ items) h = absurd (false≢true h)
items_values (Keyed' span key shape row ∷ items) h = absurd (false≢true h)

-- a key with a list of items
pub keyed_tokens : (span : Span) (key : List ℕ) (items : Vec Item Global) → item_tokens (ItemKeyed span key items) ≡ Key key ∷ list_tokens items.items ++ Close ∷ []
keyed_tokens span key items = ap tokens_of (marks_of_keyed span key items) ∙ ap (λ l. Key key ∷ l) (tokens-append (list_marks items.items) _)
