-- What a command's keys have, given or by the table, has the forms and the ranges of the table.
use Rattle.std.proofs.Common.{◌≡◌, ℕ, ◌++◌, ◌||◌, ◌&&◌, Bool, true, false, not, cond, List, [], ◌∷◌, length, map, find, Option, Some, None, Result, Ok, Err, subst, sym, ◌∙◌, ap, refl}
use Rattle.std.specs.List.{list_all}
use Rattle.std.specs.Option.{option_map}
use Rattle.std.proofs.lemmas.Bool.{and_parts, false≢true, not-true, or_right}
use Rattle.std.proofs.lemmas.Slice.Eq.{bytes_eq-Decides}
use Rattle.wm_base.specs.Key.{key_word}
use Rattle.wm_base.specs.Name.{is_name}
use Rattle.wm_base.specs.declared.refusal.Key.{Key}
use Rattle.wm_base.proofs.Tests.{or_more}
use Rattle.wm_clwords.specs.declared.tree.Item.{Item}
use Rattle.wm_when.specs.Schedule.{within, date_in_range, time_in_range}
use Rattle.wm_command.specs.declared.fault.CmdFault.{CmdFault}
use Rattle.wm_command.specs.declared.row.Default.{Default}
use Rattle.wm_command.specs.declared.row.Default.TheVariants as default
use Rattle.wm_command.specs.declared.row.Kind.{Kind}
use Rattle.wm_command.specs.declared.row.Kind.TheVariants as kind
use Rattle.wm_command.specs.declared.row.Row.{Row}
use Rattle.wm_command.specs.declared.row.Special.{Special}
use Rattle.wm_command.specs.declared.value.Value.{Value}
use Rattle.wm_command.specs.declared.value.Value.TheVariants as value
use Rattle.wm_command.specs.declared.value.Given.{Given}
use Rattle.wm_command.specs.Each.{go_on, each}
use Rattle.wm_command.specs.Fields.{value_of}
use Rattle.wm_command.specs.Reading.{same_key, is_given, row_named, row_value, with_value, keyed, keyed_by, next_item, stands_alone, first_item, first_by, items_given, default_value, complete, all_given}
use Rattle.wm_command.specs.Values.{is_never}
use Rattle.wm_command.specs.Words.{same}
use Rattle.wm_command.specs.Written.{place_of, key_of, listed}
use Rattle.wm_command.proofs.Forms.{none_some, some_same}
use Rattle.wm_command.proofs.ReadForms.{InKind, InRow, may_lack, is_right_drop, row_of, err_ok, ok_same, value_is}

-- each key has what its row takes
abbrev AllIn : List Row → List Given → Type 0
AllIn rows [] = Unit {0}
AllIn rows (g ∷ given) = ((row : Row) → row_named (key_word g.key) rows ≡ Some row → InRow row g.value) × AllIn rows given

all_push : (rows : List Row) (given : List Given) (g : Given) → AllIn rows given → ((row : Row) → row_named (key_word g.key) rows ≡ Some row → InRow row g.value) → AllIn rows (given ++ g ∷ [])
all_push rows [] g all h = (h, tt)
all_push rows (x ∷ given) g all h = (all.0, all_push rows given g all.1 h)

-- a value that a row may have for its default is of the row's kind
abbrev is_of_kind : Kind → Value → Bool
is_of_kind kind.Object (value.Object q) = is_name q.lib && is_name q.name
is_of_kind (kind.Text low high) (value.Text t) = within low high (length t)
is_of_kind (kind.Number low high) (value.Number n) = within low high n
is_of_kind kind.Flag (value.Flag b) = true
is_of_kind kind.Ending (value.Ending e) = true
is_of_kind kind.Date (value.Date d) = date_in_range d
is_of_kind kind.Time (value.Time t) = time_in_range t
is_of_kind k v = false

of_kind : (k : Kind) (v : Value) → is_of_kind k v ≡ true → InKind k v
of_kind kind.Object (value.Object q) h = and_parts (is_name q.lib) (is_name q.name) h
of_kind (kind.Text low high) (value.Text t) h = h
of_kind (kind.Number low high) (value.Number n) h = h
of_kind kind.Flag (value.Flag b) h = tt
of_kind kind.Ending (value.Ending e) h = tt
of_kind kind.Date (value.Date d) h = h
of_kind kind.Time (value.Time t) h = h
of_kind k v h = absurd (false≢true h)

-- what a row has for its default is of its kind, or none where it may lack a value
abbrev is_right_answer : Kind → Default → Result Value CmdFault → Bool
is_right_answer k d (Err e) = true
is_right_answer k d (Ok value.Nothing) = may_lack d
is_right_answer k d (Ok (value.Special s)) = false
is_right_answer k d (Ok v) = is_of_kind k v

-- a default has the form and the range of its row
abbrev pub is_right_default : Key → Kind → Special → Default → Bool
is_right_default key k s default.Special = not (is_never s)
is_right_default key k s d = is_right_answer k d (default_value d key s)

-- a row drops what has no value, and its default is right
abbrev pub is_right : Row → Bool
is_right row = is_right_drop row.kind row.otherwise && is_right_default row.key row.kind row.special row.otherwise

-- what the rows of a table keep to: each is found by its key, and is right
abbrev pub RightRows : List Row → List Row → Type 0
RightRows rows [] = Unit {0}
RightRows rows (row ∷ rest) = (row_named (key_word row.key) rows ≡ Some row) × (is_right_drop row.kind row.otherwise ≡ true) × (is_right_default row.key row.kind row.special row.otherwise ≡ true) × RightRows rows rest

abbrev pub row_by_key : List Row → Row → Option Row
row_by_key rows row = row_named (key_word row.key) rows

pub same_rows : (a b : Option Row) (x y : List (Option Row)) → ◌≡◌ {A = List (Option Row)} (a ∷ x) (b ∷ y) → (a ≡ b) × (x ≡ y)
same_rows a b x y e = (cc, cc)

-- both are tests of the whole table
pub right_rows : (rows rest : List Row) → map (row_by_key rows) rest ≡ map Some rest → list_all is_right rest ≡ true → RightRows rows rest
right_rows rows [] e h = tt
right_rows rows (row ∷ rest) e h =
    let both = and_parts (is_right row) (list_all is_right rest) h in
    let own = and_parts (is_right_drop row.kind row.otherwise) (is_right_default row.key row.kind row.special row.otherwise) both.0 in
    let found = same_rows (row_by_key rows row) (Some row) (map (row_by_key rows) rest) (map Some rest) e in
    (found.0, own.0, own.1, right_rows rows rest found.1 both.1)

-- answers that are good

with_good : (given out : List Given) (key : Key) (r : Result Value CmdFault) → with_value given key r ≡ Ok out → (v : Value) × (r ≡ Ok v) × (given ++ record { key = key; value = v } ∷ [] ≡ out)
with_good given out key (Err e) h = absurd (err_ok e out h)
with_good given out key (Ok v) h = (v, refl, ok_same (given ++ record { key = key; value = v } ∷ []) out h)

pub go_good : {S T : Type 0} (r : Result S CmdFault) (next : S → Result T CmdFault) (out : T) → go_on r next ≡ Ok out → (s : S) × (r ≡ Ok s) × (next s ≡ Ok out)
go_good (Err e) next out h = absurd (err_ok e out h)
go_good (Ok s) next out h = (s, refl, h)

no_err : {A : Type 0} (c : Bool) (e : CmdFault) (r : Result A CmdFault) (out : A) → cond c (Err e) r ≡ Ok out → r ≡ Ok out
no_err true e r out h = absurd (err_ok e out h)
no_err false e r out h = h

-- the row of a word

same_word : (a b : List ℕ) → same a b ≡ true → a ≡ b
same_word a b h = (bytes_eq-Decides a b).0 h

same_self : (a : List ℕ) → same a a ≡ true
same_self a = (bytes_eq-Decides a a).1 refl

abbrev Named : List ℕ → Row → Type 0
Named word row = (same (key_word row.key) word ≡ true) × (is_right_drop row.kind row.otherwise ≡ true)

named_by : (first : Row) (rest : List Row) (word : List ℕ) (row : Row) (c : Bool) → is_right_drop first.kind first.otherwise ≡ true → (find (λ r. same (key_word r.key) word) rest ≡ Some row → Named word row)
    → same (key_word first.key) word ≡ c → cond c (Some first) (find (λ r. same (key_word r.key) word) rest) ≡ Some row → Named word row
named_by first rest word row true drops f h e = subst (Named word) (some_same first row e) (h, drops)
named_by first rest word row false drops f h e = f e

named : (rows rest : List Row) (word : List ℕ) (row : Row) → RightRows rows rest → find (λ r. same (key_word r.key) word) rest ≡ Some row → Named word row
named rows [] word row right e = absurd (none_some row e)
named rows (first ∷ rest) word row right e =
    named_by first rest word row (same (key_word first.key) word) right.1 (λ f. named rows rest word row right.3 f) refl e

named_is : (rows : List Row) (word : List ℕ) (row : Row) → RightRows rows rows → row_named word rows ≡ Some row → Named word row
unfolding row_named
named_is rows word row right e = named rows rows word row right e

-- the row of its key is the row
one_row : (rows : List Row) (row other : Row) → row_named (key_word row.key) rows ≡ Some row → row_named (key_word row.key) rows ≡ Some other → row ≡ other
one_row rows row other e f = some_same row other (sym e ∙ f)

given_in : (rows : List Row) (row : Row) (place : ℕ) (items : List Item) (v : Value) → row_named (key_word row.key) rows ≡ Some row → is_right_drop row.kind row.otherwise ≡ true → row_value row.kind row.special place items ≡ Ok v
    → (other : Row) → row_named (key_word row.key) rows ≡ Some other → InRow other v
given_in rows row place items v e drops h other f =
    subst (λ (r : Row). InRow r v) (one_row rows row other e f) (value_is row.key row.kind row.special row.otherwise place items v drops h)

-- what is given

keyed_in : (rows : List Row) (given out : List Given) (word : List ℕ) (place : ℕ) (items : List Item) (o : Option Row) → RightRows rows rows → AllIn rows given → row_named word rows ≡ o
    → keyed given place items o ≡ Ok out → AllIn rows out
keyed_in rows given out word place items None right all f e = absurd (err_ok _ out e)
keyed_in rows given out word place items (Some row) right all f e =
    let n = named_is rows word row right f in
    let g = with_good given out row.key (row_value row.kind row.special place items) (no_err (is_given row.key given) _ (with_value given row.key (row_value row.kind row.special place items)) out e) in
    let found : row_named (key_word row.key) rows ≡ Some row = ap (λ w. row_named w rows) (same_word (key_word row.key) word n.0) ∙ f in
    subst (AllIn rows) g.2 (all_push rows given (record { key = row.key; value = g.0 }) all (given_in rows row place items g.0 found n.1 g.1))

keyed_by_in : (rows : List Row) (given out : List Given) (item : Item) (o : Option (List ℕ)) → RightRows rows rows → AllIn rows given → keyed_by rows given item o ≡ Ok out → AllIn rows out
keyed_by_in rows given out item None right all e = absurd (err_ok _ out e)
keyed_by_in rows given out item (Some word) right all e = keyed_in rows given out word (place_of item) (listed item) (row_named word rows) right all refl e

next_in : (rows : List Row) (given out : List Given) (item : Item) → RightRows rows rows → AllIn rows given → next_item rows given item ≡ Ok out → AllIn rows out
unfolding next_item
next_in rows given out item right all e = keyed_by_in rows given out item (key_of item) right all e

each_in : (rows : List Row) (given out : List Given) (items : List Item) → RightRows rows rows → AllIn rows given → each (next_item rows) given items ≡ Ok out → AllIn rows out
each_in rows given out [] right all e = subst (AllIn rows) (ok_same given out e) all
each_in rows given out (item ∷ items) right all e =
    let g = go_good (next_item rows given item) (λ t. each (next_item rows) t items) out e in
    each_in rows g.0 out items right (next_in rows given g.0 item right all g.1) g.2

alone_in : (rows rest : List Row) (out : List Given) (place : ℕ) (items : List Item) → RightRows rows rest → stands_alone rest place items ≡ Ok out → AllIn rows out
alone_in rows [] out place items right e = absurd (err_ok _ out e)
alone_in rows (row ∷ rest) out place items right e =
    let g = with_good [] out row.key (row_value row.kind row.special place items) e in
    subst (AllIn rows) g.2 (given_in rows row place items g.0 right.0 right.1 g.1, tt)

first_by_in : (rows : List Row) (out : List Given) (item : Item) (o : Option (List ℕ)) → RightRows rows rows → first_by rows item o ≡ Ok out → AllIn rows out
first_by_in rows out item None right e = alone_in rows rows out (place_of item) (item ∷ []) right e
first_by_in rows out item (Some key) right e = next_in rows [] out item right tt e

first_in : (rows : List Row) (out : List Given) (item : Item) → RightRows rows rows → first_item rows item ≡ Ok out → AllIn rows out
unfolding first_item
first_in rows out item right e = first_by_in rows out item (key_of item) right e

items_in : (rows : List Row) (out : List Given) (items : List Item) → RightRows rows rows → items_given rows items ≡ Ok out → AllIn rows out
items_in rows out [] right e = subst (AllIn rows) (ok_same [] out e) tt
items_in rows out (item ∷ items) right e =
    let g = go_good (first_item rows item) (λ t. each (next_item rows) t items) out e in
    each_in rows g.0 out items right (first_in rows g.0 item right g.1) g.2

-- what is completed

answer_in : (row : Row) (r : Result Value CmdFault) (v : Value) → is_right_answer row.kind row.otherwise r ≡ true → r ≡ Ok v → InRow row v
answer_in row (Err f) v h e = absurd (err_ok f v e)
answer_in row (Ok value.Nothing) v h e = subst (InRow row) (ok_same value.Nothing v e) h
answer_in row (Ok (value.Special s)) v h e = absurd (false≢true h)
answer_in row (Ok w) v h e = subst (InRow row) (ok_same w v e) (of_kind row.kind w h)

default_in : (key : Key) (k : Kind) (s : Special) (d : Default) (v : Value) → is_right_default key k s d ≡ true → default_value d key s ≡ Ok v → InRow (row_of key k s d) v
default_in key k s default.Special v h e = subst (InRow (row_of key k s default.Special)) (ok_same (value.Special s) v e) (refl, not-true (is_never s) h)
default_in key k s d v h e = answer_in (row_of key k s d) (default_value d key s) v h e

key_self : (k : Key) → same_key k k ≡ true
unfolding same_key
key_self k = same_self (key_word k)

given_push : (k : Key) (given : List Given) (g : Given) → is_given k given ≡ true → is_given k (given ++ g ∷ []) ≡ true
given_push k [] g h = absurd (false≢true h)
given_push k (x ∷ given) g h = or_more (same_key x.key k) (is_given k given) (is_given k (given ++ g ∷ [])) (given_push k given g) h

given_last : (k : Key) (given : List Given) (v : Value) → is_given k (given ++ record { key = k; value = v } ∷ []) ≡ true
given_last k [] v = ap (λ c. c || false) (key_self k)
given_last k (x ∷ given) v = or_right (same_key x.key k) (is_given k (given ++ record { key = k; value = v } ∷ [])) (given_last k given v)

record Completed (rows : List Row) (key : Key) (given out : List Given) : Type 0 where
  all : AllIn rows out
  has : is_given key out ≡ true
  kept : (k : Key) → is_given k given ≡ true → is_given k out ≡ true

complete_in : (rows : List Row) (row : Row) (given out : List Given) → row_named (key_word row.key) rows ≡ Some row → is_right_default row.key row.kind row.special row.otherwise ≡ true → AllIn rows given → complete given row ≡ Ok out
    → Completed rows row.key given out
unfolding complete
complete_in rows row given out f fits all e = by_test (is_given row.key given) refl e
  where
    pushed : (v : Value) → default_value row.otherwise row.key row.special ≡ Ok v → Completed rows row.key given (given ++ record { key = row.key; value = v } ∷ [])
    pushed v h =
        record {
          all = all_push rows given (record { key = row.key; value = v }) all
              (λ other k. subst (λ (r : Row). InRow r v) (one_row rows row other f k) (default_in row.key row.kind row.special row.otherwise v fits h));
          has = given_last row.key given v;
          kept = λ k h. given_push k given (record { key = row.key; value = v }) h;
        }

    by_test : (c : Bool) → is_given row.key given ≡ c → cond c (Ok given) (with_value given row.key (default_value row.otherwise row.key row.special)) ≡ Ok out → Completed rows row.key given out
    by_test true h e = subst (Completed rows row.key given) (ok_same given out e) (record { all = all; has = h; kept = λ k h. h })
    by_test false h e =
        let g = with_good given out row.key (default_value row.otherwise row.key row.special) e in
        subst (Completed rows row.key given) g.2 (pushed g.0 g.1)

-- each of these rows' keys is given
abbrev AllGiven : List Row → List Given → Type 0
AllGiven [] out = Unit {0}
AllGiven (row ∷ rest) out = (is_given row.key out ≡ true) × AllGiven rest out

record CompletedAll (rows rest : List Row) (given out : List Given) : Type 0 where
  all : AllIn rows out
  has : AllGiven rest out
  kept : (k : Key) → is_given k given ≡ true → is_given k out ≡ true

each_complete : (rows rest : List Row) (given out : List Given) → RightRows rows rest → AllIn rows given → each complete given rest ≡ Ok out → CompletedAll rows rest given out
each_complete rows [] given out right all e = subst (CompletedAll rows [] given) (ok_same given out e) (record { all = all; has = tt; kept = λ k h. h })
each_complete rows (row ∷ rest) given out right all e =
    let g = go_good (complete given row) (λ t. each complete t rest) out e in
    let step = complete_in rows row given g.0 right.0 right.2 all g.1 in
    let more = each_complete rows rest g.0 out right.3 step.all g.2 in
    record { all = more.all; has = (more.kept row.key step.has, more.has); kept = λ k h. more.kept k (step.kept k h) }

abbrev option_value : Option Given → Option Value
option_value o = option_map (λ g. g.value) o

-- a key of a row has a value of the row
abbrev pub Has : Row → List Given → Type 0
Has row given = (v : Value) × (value_of row.key given ≡ Some v) × InRow row v

abbrev keyed_first : Bool → Key → Given → List Given → Option Value
keyed_first c key g given = option_value (cond c (Some g) (find (λ x. same_key x.key key) given))

has_first : (rows : List Row) (row : Row) (g : Given) (given : List Given) (c : Bool) → row_named (key_word row.key) rows ≡ Some row
    → ((other : Row) → row_named (key_word g.key) rows ≡ Some other → InRow other g.value) → (is_given row.key given ≡ true → Has row given)
    → same_key g.key row.key ≡ c → (c || is_given row.key given) ≡ true → Has row (g ∷ given)
unfolding value_of same_key
has_first rows row g given true f own rest t h =
    (g.value, ap (λ c. keyed_first c row.key g given) t, own row (ap (λ w. row_named w rows) (same_word (key_word g.key) (key_word row.key) t) ∙ f))
has_first rows row g given false f own rest t h =
    let r = rest h in
    (r.0, ap (λ c. keyed_first c row.key g given) t ∙ r.1, r.2)

has_value : (rows : List Row) (row : Row) (given : List Given) → row_named (key_word row.key) rows ≡ Some row → AllIn rows given → is_given row.key given ≡ true → Has row given
has_value rows row [] f all h = absurd (false≢true h)
has_value rows row (g ∷ given) f all h =
    has_first rows row g given (same_key g.key row.key) f all.0 (λ k. has_value rows row given f all.1 k) refl h

abbrev pub AllHave : List Row → List Given → Type 0
AllHave [] given = Unit {0}
AllHave (row ∷ rest) given = Has row given × AllHave rest given

all_have : (rows rest : List Row) (given : List Given) → RightRows rows rest → AllIn rows given → AllGiven rest given → AllHave rest given
all_have rows [] given right all has = tt
all_have rows (row ∷ rest) given right all has = (has_value rows row given right.0 all has.0, all_have rows rest given right.3 all has.1)

-- what a command's items give all keys of the table
pub table_has : (rows : List Row) (items : List Item) (out : List Given) → RightRows rows rows → all_given rows items ≡ Ok out → AllHave rows out
table_has rows items out right e =
    let g = go_good (items_given rows items) (λ given. each complete given rows) out e in
    let done = each_complete rows rows g.0 out right (items_in rows g.0 items right g.1) g.2 in
    all_have rows rows out right done.all done.has
