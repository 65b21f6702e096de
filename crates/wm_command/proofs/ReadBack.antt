-- The text that is printed of a command is read as that command.
use Rattle.std.proofs.Common.{◌≡◌, ℕ, ◌≤◌, ◌+◌, ◌-◌, ◌++◌, ◌||◌, ◌&&◌, Bool, not, true, false, cond, List, [], ◌∷◌, length, map, Some, Ok, Err, lit≤, subst, sym, ◌∙◌, ap, refl, arith}
use Rattle.std.specs.List.{flat_map, list_any}
use Rattle.std.proofs.lemmas.Bool.{and_parts, not-true}
use Rattle.std.proofs.lemmas.List.{append_assoc, append-nil, length-append, map-append}
use Rattle.wm_base.specs.Key.{key_word}
use Rattle.wm_base.specs.Name.{IsName}
use Rattle.wm_base.specs.declared.refusal.Key.{Key}
use Rattle.wm_clwords.specs.declared.tree.Span.{Span}
use Rattle.wm_clwords.specs.declared.tree.Item.{Item, Word as ItemWord, Quoted as ItemQuoted, List', Keyed', Row_of-Item, end_of-Item, more_of-Item, items-the_row-Item}
use Rattle.wm_clwords.specs.Call.{tokens_of, item_tokens, list_tokens, AreValues}
use Rattle.wm_clwords.specs.Grammar.{Token, Word, Quoted, Key as KeyToken, Open, Close, Mark}
use Rattle.wm_clwords.specs.Items.{item_marks, row_marks, list_marks}
use Rattle.wm_clwords.specs.Reading.{mark}
use Rattle.wm_clwords.proofs.CommandLaw.{one_command}
use Rattle.wm_clwords.proofs.Printing.{Prints, prints_nil, prints_append, Printed, command_printed}
use Rattle.wm_clwords.proofs.Tokens.{tokens-append, list_tokens-cons, cut_keyed, no_items, heads, word_key, quoted_key, open_key, key_same}
use Rattle.wm_desc.specs.declared.entry.Cmp.TheVariants.{Any, Val}
use Rattle.wm_law.specs.declared.command.Command.{Command}
use Rattle.wm_law.specs.declared.command.Command.TheVariants as command
use Rattle.wm_command.specs.declared.line.Line.TheVariants as line
use Rattle.wm_command.specs.declared.fault.CmdFault.TheVariants.{Twice}
use Rattle.wm_command.specs.declared.row.Row.{Row}
use Rattle.wm_command.specs.declared.value.Value.{Value}
use Rattle.wm_command.specs.declared.value.Value.TheVariants as value
use Rattle.wm_command.specs.declared.value.Given.{Given}
use Rattle.wm_command.specs.declared.verb.ChangeVerb.{ChangeVerb}
use Rattle.wm_command.specs.declared.verb.ChangeVerb.TheVariants as change
use Rattle.wm_command.specs.Each.{go_on, each}
use Rattle.wm_command.specs.Line.{change_named, line_by, own_fault, unless, line_of}
use Rattle.wm_command.specs.Made.{change_made}
use Rattle.wm_command.specs.Print.{given_text, command_text}
use Rattle.wm_command.specs.Printed.{FitsRow, FitRows, shown_rows, IsFit, PrintedCommandIsRead}
use Rattle.wm_command.specs.Reading.{same_key, is_given, row_named, row_value, with_value, keyed, keyed_by, next_item, first_item, first_by, items_given, complete}
use Rattle.wm_command.specs.Shown.{values_of, verb_of}
use Rattle.wm_command.specs.Objects.{crtcls_values, crtpgmref_values, crtjobd_values, crtsbsd_values}
use Rattle.wm_command.specs.Entries.{addjobqe_values, addrtge_values, addaje_values, addpje_values, rmvjobqe_values, rmvrtge_values, rmvaje_values, rmvpje_values}
use Rattle.wm_command.specs.Control.{endsbs_values, strpj_values, endpj_values, evoke_values, pwrdwnsys_values}
use Rattle.wm_command.specs.Jobs.{sbmjob_values, chgjob_values, endjob_values}
use Rattle.wm_command.specs.Table.{row_key, change_rows, change_word}
use Rattle.wm_command.specs.Written.{place_of, key_of, listed}
use Rattle.wm_command.proofs.Back.{shown_back}
use Rattle.wm_command.proofs.PrintValues.{rows_room, row_laws, given_tokens, bare_text, prints_bare, prints_given, given_short}
use Rattle.wm_command.proofs.TableForms.{row_by_key, same_rows}
use Rattle.wm_command.proofs.ReadValues.{value_tokens, is_sound}

-- what holds of each printed row of a table, behind keys that are given already

abbrev key_among : Key → List Key → Bool
key_among k keys = list_any (λ other. same_key other k) keys

abbrev Ready : List Row → List Key → List Row → Type 0
Ready rows keys [] = Unit {0}
Ready rows keys (row ∷ rest) =
    (row_named (key_word row.key) rows ≡ Some row) × (key_among row.key keys ≡ false) × (is_sound row.kind row.special ≡ true) × Ready rows (keys ++ row.key ∷ []) rest

-- the part of it that is a test
abbrev is_ready : List Key → List Row → Bool
is_ready keys [] = true
is_ready keys (row ∷ rest) = not (key_among row.key keys) && is_sound row.kind row.special && is_ready (keys ++ row.key ∷ []) rest

ready : (rows : List Row) (keys : List Key) (rest : List Row) → map (row_by_key rows) rest ≡ map Some rest → is_ready keys rest ≡ true → Ready rows keys rest
ready rows keys [] e h = tt
ready rows keys (row ∷ rest) e h =
    let both = and_parts (not (key_among row.key keys) && is_sound row.kind row.special) (is_ready (keys ++ row.key ∷ []) rest) h in
    let own = and_parts (not (key_among row.key keys)) (is_sound row.kind row.special) both.0 in
    let found = same_rows (row_by_key rows row) (Some row) (map (row_by_key rows) rest) (map Some rest) e in
    (found.0, not-true (key_among row.key keys) own.0, own.1, ready rows (keys ++ row.key ∷ []) rest found.1 both.1)

abbrev IsSome : List Row → Type 0
IsSome [] = ⊥
IsSome (row ∷ rows) = Unit {0}

record Sound (verb : ChangeVerb) : Type 0 where
  ready : Ready (change_rows verb) [] (shown_rows (change_rows verb))
  some : IsSome (shown_rows (change_rows verb))
  named : change_named (change_word verb) ≡ Some verb
  word : IsName (change_word verb)
  room : length (change_word verb) + rows_room (shown_rows (change_rows verb)) ≤ 8192

sound : (verb : ChangeVerb) → Sound verb
unfolding change_rows change_word change_named row_named same_key
sound change.Crtcls = record { ready = ready (change_rows change.Crtcls) [] (shown_rows (change_rows change.Crtcls)) refl refl; some = tt; named = refl; word = refl; room = lit≤ tt }
sound verb = record { ready = ready (change_rows verb) [] (shown_rows (change_rows verb)) refl refl; some = tt; named = refl; word = refl; room = lit≤ tt }

-- the keys of the values that are shown are those of the rows

abbrev given_key : Given → Key
given_key g = g.key

abbrev SameKeys : List Row → List Given → Type 0
SameKeys [] [] = Unit {0}
SameKeys [] (g ∷ given) = ⊥
SameKeys (row ∷ rows) [] = ⊥
SameKeys (row ∷ rows) (g ∷ given) = (g.key ≡ row.key) × SameKeys rows given

same_first : (a b : Key) (x y : List Key) → ◌≡◌ {A = List Key} (a ∷ x) (b ∷ y) → (a ≡ b) × (x ≡ y)
same_first a b x y e = (cc, cc)

keys_by : (rows : List Row) (given : List Given) → map given_key given ≡ map row_key rows → SameKeys rows given
keys_by [] [] e = tt
keys_by [] (g ∷ given) e = cc
keys_by (row ∷ rows) [] e = cc
keys_by (row ∷ rows) (g ∷ given) e =
    let h = same_first g.key row.key (map given_key given) (map row_key rows) e in (h.0, keys_by rows given h.1)

same_keys : (c : Command) → SameKeys (shown_rows (change_rows (verb_of c))) (values_of c)
unfolding change_rows crtcls_values crtpgmref_values crtjobd_values crtsbsd_values addjobqe_values addrtge_values addaje_values addpje_values rmvjobqe_values rmvrtge_values rmvaje_values rmvpje_values endsbs_values sbmjob_values chgjob_values endjob_values strpj_values endpj_values evoke_values pwrdwnsys_values
same_keys (command.Crtcls c) = keys_by (shown_rows (change_rows change.Crtcls)) (values_of (command.Crtcls c)) refl
same_keys c = keys_by (shown_rows (change_rows (verb_of c))) (values_of c) refl

-- an item that is a key with values

abbrev row_tokens : {m : _} → Row_of-Item m → List Token
row_tokens row = tokens_of (row_marks row)

row_is : (n : _) (row : Row_of-Item n) → row_tokens row ≡ list_tokens (items-the_row-Item n row)
row_is n end_of-Item = refl
row_is n (more_of-Item item rest) =
    tokens-append (item_marks item) (row_marks rest) ∙ ap (λ m. item_tokens item ++ m) (row_is _ rest) ∙ sym (list_tokens-cons item (items-the_row-Item _ rest))

no_push : (b : Token) (l : List Token) (x : Token) → x ∷ [] ≡ b ∷ (l ++ x ∷ []) → ⊥
no_push b l x e = omega (arith, ap length e, length-append l (x ∷ []))

pushed_same : (a b : List Token) (x : Token) → a ++ x ∷ [] ≡ b ++ x ∷ [] → a ≡ b
pushed_same [] [] x e = refl
pushed_same [] (b ∷ m) x e = absurd (no_push b m x e)
pushed_same (a ∷ l) [] x e = absurd (no_push a l x (sym e))
pushed_same (a ∷ l) (b ∷ m) x e =
    let h = heads a b (l ++ x ∷ []) (m ++ x ∷ []) e in
    let rest = pushed_same l m x h.1 in
    λ i. h.0 i ∷ rest i

abbrev end_mark : Span → List Mark
end_mark span = mark (span.place + span.len - 1) (span.place + span.len) Close ∷ []

record HasKey (item : Item) (key : List ℕ) (values : List Token) : Type 0 where
  named : key_of item ≡ Some key
  behind : list_tokens (listed item) ≡ values

has_key : (item : Item) (key : List ℕ) (values : List Token) → item_tokens item ≡ KeyToken key ∷ values ++ Close ∷ [] → HasKey item key values
has_key (ItemWord span text) key values e = absurd (word_key text key (heads (Word text) (KeyToken key) _ _ e).0)
has_key (ItemQuoted span text) key values e = absurd (quoted_key text key (heads (Quoted text) (KeyToken key) _ _ e).0)
has_key (List' span shape row) key values e = absurd (open_key key (heads Open (KeyToken key) _ _ e).0)
has_key (Keyed' span word shape row) key values e =
    let h = heads (KeyToken word) (KeyToken key) (tokens_of (row_marks row ++ end_mark span)) (values ++ Close ∷ []) e in
    record {
      named = ap Some (key_same word key h.0);
      behind = sym (row_is _ row) ∙ pushed_same (row_tokens row) values Close (sym (tokens-append (row_marks row) (end_mark span)) ∙ h.1);
    }

-- the next item gives the key of a row its value

next_read : (rows : List Row) (given : List Given) (item : Item) (row : Row) (g : Given) → g.key ≡ row.key → row_named (key_word row.key) rows ≡ Some row → is_given row.key given ≡ false
    → is_sound row.kind row.special ≡ true → FitsRow row g.value → item_tokens item ≡ given_tokens g → next_item rows given item ≡ Ok (given ++ g ∷ [])
unfolding next_item
next_read rows given item row g k named new sound fits e =
    let h = has_key item (key_word g.key) (value_tokens g.value) e in
    ap (keyed_by rows given item) (h.named ∙ ap (λ x. Some (key_word x)) k)
    ∙ ap (keyed given (place_of item) (listed item)) named
    ∙ ap (λ c. cond c (Err (Twice (place_of item))) (with_value given row.key (row_value row.kind row.special (place_of item) (listed item)))) new
    ∙ ap (with_value given row.key) ((row_laws row g.value sound fits).back (place_of item) (listed item) h.behind)
    ∙ ap (λ x. Ok (given ++ record { key = x; value = g.value } ∷ [])) (sym k)

-- all items, one after another

abbrev token_text : Token → List ℕ
token_text (Word bytes) = bytes
token_text (Quoted bytes) = bytes
token_text token = []

abbrev value_texts : Value → List (List ℕ)
value_texts v = map token_text (value_tokens v)

values_are : (v : Value) → AreValues (value_tokens v) (value_texts v)
values_are value.Nothing = tt
values_are (value.Compare Any) = (refl, tt)
values_are (value.Compare (Val text start)) = (refl, (refl, tt))
values_are v = (refl, tt)

given_among : (k : Key) (given : List Given) → is_given k given ≡ key_among k (map given_key given)
given_among k [] = refl
given_among k (g ∷ given) = ap (λ c. same_key g.key k || c) (given_among k given)

keys_push : (given : List Given) (g : Given) (k : Key) → g.key ≡ k → map given_key (given ++ g ∷ []) ≡ map given_key given ++ k ∷ []
keys_push given g k e = map-append given_key given (g ∷ []) ∙ ap (λ x. map given_key given ++ x ∷ []) e

items_read : (rows rest : List Row) (given todo : List Given) (items : List Item) → Ready rows (map given_key given) rest → SameKeys rest todo → FitRows rest todo
    → list_tokens items ≡ flat_map given_tokens todo → each (next_item rows) given items ≡ Ok (given ++ todo)
items_read rows [] given [] items ready same fits e =
    ap (each (next_item rows) given) (no_items items e) ∙ ap Ok (sym (append-nil given))
items_read rows [] given (g ∷ todo) items ready same fits e = absurd same
items_read rows (row ∷ rest) given [] items ready same fits e = absurd same
items_read rows (row ∷ rest) given (g ∷ todo) [] ready same fits e = absurd (cc)
items_read rows (row ∷ rest) given (g ∷ todo) (item ∷ items) ready same fits e =
    let c = cut_keyed item (key_word g.key) (value_tokens g.value) (value_texts g.value) (list_tokens items) (flat_map given_tokens todo) (values_are g.value) (sym (list_tokens-cons item items) ∙ e) in
    ap (λ r. go_on r (λ t. each (next_item rows) t items))
    (next_read rows given item row g same.0 ready.0 (given_among row.key given ∙ ready.1) ready.2 fits.0 c.0)
    ∙ items_read rows rest (given ++ g ∷ []) todo items (subst (λ (keys : List Key). Ready rows keys rest) (sym (keys_push given g row.key same.0)) ready.3) same.1 fits.1 c.1
    ∙ ap Ok (append_assoc given (g ∷ []) todo)

-- the first item is a key too
items_start : (rows : List Row) (g : Given) (todo : List Given) (items : List Item) → list_tokens items ≡ flat_map given_tokens (g ∷ todo) → items_given rows items ≡ each (next_item rows) [] items
unfolding first_item
items_start rows g todo [] e = refl
items_start rows g todo (item ∷ items) e =
    let c = cut_keyed item (key_word g.key) (value_tokens g.value) (value_texts g.value) (list_tokens items) (flat_map given_tokens todo) (values_are g.value) (sym (list_tokens-cons item items) ∙ e) in
    let h = has_key item (key_word g.key) (value_tokens g.value) c.0 in
    ap (λ r. go_on r (λ given. each (next_item rows) given items)) (ap (first_by rows item) h.named)

all_read : (rows shown : List Row) (given : List Given) (items : List Item) → Ready rows [] shown → IsSome shown → SameKeys shown given → FitRows shown given
    → list_tokens items ≡ flat_map given_tokens given → items_given rows items ≡ Ok given
all_read rows [] given items ready some same fits e = absurd some
all_read rows (row ∷ rest) [] items ready some same fits e = absurd same
all_read rows (row ∷ rest) (g ∷ given) items ready some same fits e =
    items_start rows g given items e ∙ items_read rows (row ∷ rest) [] (g ∷ given) items ready same fits e

line_is : (c : Command) → IsFit c → (user : List ℕ) (items : List Item) → list_tokens items ≡ flat_map given_tokens (values_of c)
    → line_of user (change_word (verb_of c)) items ≡ Ok (line.Change c)
line_is c h user items e =
    let s = sound (verb_of c) in
    ap (line_by user (change_word (verb_of c)) items) s.named
    ∙ ap (λ r. go_on (go_on r (λ given. each complete given (change_rows (verb_of c)))) (λ given. unless (own_fault (verb_of c) given) (line.Change (change_made (verb_of c) given))))
    (all_read (change_rows (verb_of c)) (shown_rows (change_rows (verb_of c))) (values_of c) items s.ready s.some (same_keys c) h.values e)
    ∙ shown_back c h

-- the printed text spells these items

prints_all : (rows rest : List Row) (keys : List Key) (given : List Given) → Ready rows keys rest → FitRows rest given → Prints (flat_map given_text given) (flat_map given_tokens given)
prints_all rows [] keys [] ready fits = prints_nil
prints_all rows [] keys (g ∷ given) ready fits = absurd fits
prints_all rows (row ∷ rest) keys [] ready fits = absurd fits
prints_all rows (row ∷ rest) keys (g ∷ given) ready fits =
    prints_append (given_text g) (flat_map given_text given) (given_tokens g) (flat_map given_tokens given) (prints_given row g ready.2 fits.0) (prints_all rows rest (keys ++ row.key ∷ []) given ready.3 fits.1)

spelled_by : (name : List ℕ) (rows shown : List Row) (given : List Given) → IsName name → Ready rows [] shown → IsSome shown → FitRows shown given → length (name ++ flat_map given_text given) ≤ 8192
    → Printed (name ++ flat_map given_text given) name (flat_map given_tokens given)
spelled_by name rows [] given n ready some fits short = absurd some
spelled_by name rows (row ∷ rest) [] n ready some fits short = absurd fits
spelled_by name rows (row ∷ rest) (g ∷ given) n ready some fits short =
    command_printed name (bare_text g ++ flat_map given_text given) (flat_map given_tokens (g ∷ given)) n
    (prints_append (bare_text g) (flat_map given_text given) (given_tokens g) (flat_map given_tokens given) (prints_bare row g ready.2 fits.0) (prints_all rows rest (row.key ∷ []) given ready.3 fits.1))
    short

-- the ranges of the table bound each text

all_short : (rows rest : List Row) (keys : List Key) (given : List Given) → Ready rows keys rest → FitRows rest given → length (flat_map given_text given) ≤ rows_room rest
all_short rows [] keys [] ready fits = lit≤ tt
all_short rows [] keys (g ∷ given) ready fits = absurd fits
all_short rows (row ∷ rest) keys [] ready fits = absurd fits
all_short rows (row ∷ rest) keys (g ∷ given) ready fits =
    omega (arith, length-append (given_text g) (flat_map given_text given), given_short row g ready.2 fits.0, all_short rows rest (keys ++ row.key ∷ []) given ready.3 fits.1)

text_short : (c : Command) → IsFit c → length (command_text c) ≤ 8192
text_short c h =
    let s = sound (verb_of c) in
    let long = all_short (change_rows (verb_of c)) (shown_rows (change_rows (verb_of c))) [] (values_of c) s.ready h.values in
    omega (arith, length-append (change_word (verb_of c)) (flat_map given_text (values_of c)), s.room)

spelled : (c : Command) → IsFit c → Printed (command_text c) (change_word (verb_of c)) (flat_map given_tokens (values_of c))
spelled c h =
    let s = sound (verb_of c) in
    spelled_by (change_word (verb_of c)) (change_rows (verb_of c)) (shown_rows (change_rows (verb_of c))) (values_of c) s.word s.ready s.some h.values (text_short c h)

pub printed_back : PrintedCommandIsRead
printed_back c h =
    let p = spelled c h in (
      (p.marks, p.command),
      λ user name items k.
          let o = one_command (command_text c) (change_word (verb_of c)) name p.marks (list_marks items) p.command k in
          subst (λ (n : List ℕ). line_of user n items ≡ Ok (line.Change c)) o.0 (line_is c h user items (ap tokens_of (sym o.1) ∙ p.says)),
    )
