-- Each text that spells a command has the tree of its items.
use Rattle.std.proofs.Common.{◌≡◌, ℕ, zero, suc, ◌+◌, ◌-◌, ◌<◌, ◌≤◌, ◌^◌, ◌++◌, List, [], ◌∷◌, length, Vec, Global, refl, sym, ap, subst, ◌∙◌, append_assoc, add-one, length-append, arith}
use Rattle.std.specs.List.{flat_map}
use Rattle.std.specs.Prelude.{IsTrue}
use Rattle.std.proofs.lemmas.List.{length-map}
use denote.RawPtr.{null_ptr}
use Rattle.wm_clwords.specs.declared.tree.Span.{Span}
use Rattle.wm_clwords.specs.declared.tree.Item.{Item, Word as ItemWord, Quoted as ItemQuoted, List as ItemList, Keyed as ItemKeyed, List', Keyed'}
use Rattle.wm_clwords.specs.Faults.{IsCommand}
use Rattle.wm_clwords.specs.Grammar.{Token, Blank, Comment, Word, Quoted, Key, Open, Close, Mark, MayStand, Next, Anything, is_token, marks_from, next_of, spelling, upper, upper_byte}
use Rattle.wm_clwords.specs.Items.{item_marks, list_marks}
use Rattle.wm_clwords.specs.Quote.{quoted}
use Rattle.wm_clwords.specs.Reading.{mark}
use Rattle.wm_clwords.proofs.ItemLemmas.{marks_of_list, marks_of_keyed}

-- a vector of these elements
abbrev vec_of : {X : Type 0} (xs : List X) → length xs < 2 ^ 63 → Vec X Global
vec_of xs short = record { ptr = null_ptr; len = length xs; cap = length xs; alloc = record { memory = record { seal = tt } }; items = xs; ok = (refl, omega arith); small = short }

-- marks behind a place are those of items; where lists are open, of items up to each one's end
abbrev pub Have : ℕ → ℕ → ℕ → List Mark → Type 0
Have most place zero marks = (items : List Item) × (length items ≤ most) × (list_marks items ≡ marks)
Have most place (suc opens) marks =
    (items : List Item) × ((close : ℕ) × ((rest : List Mark) × ((length items ≤ most) × ((place ≤ close) × ((list_marks items ++ mark close (close + 1) Close ∷ rest ≡ marks) × Have most (close + 1) opens rest)))))

-- from an earlier place on, and with more items
sooner : (less most low place opens : ℕ) (marks : List Mark) → less ≤ most → low ≤ place → Have less place opens marks → Have most low opens marks
sooner less most low place zero marks more e h = let long = h.1 in (h.0, omega arith, h.2)
sooner less most low place (suc opens) marks more e h =
    let close = h.1.0 in
    let far = h.1.1.1.1.0 in
    let long = h.1.1.1.0 in
    (h.0, (close, (h.1.1.0, (omega arith, (omega arith, (h.1.1.1.1.1.0, sooner less most (close + 1) (close + 1) opens h.1.1.0 more (omega arith) h.1.1.1.1.1.1))))))

-- one item more before them
one_more : (most place opens : ℕ) (item : Item) (marks : List Mark) → Have most place opens marks → Have (suc most) place opens (item_marks item ++ marks)
one_more most place zero item marks h = let long = h.1 in (item ∷ h.0, omega arith, ap (λ (m : List Mark). item_marks item ++ m) h.2)
one_more most place (suc opens) item marks h =
    let close = h.1.0 in
    let rest = h.1.1.0 in
    let long = h.1.1.1.0 in
    (item ∷ h.0, (close, (rest, (omega arith, (h.1.1.1.1.0, (append_assoc (item_marks item) (list_marks h.0) (mark close (close + 1) Close ∷ rest) ∙ ap (λ (m : List Mark). item_marks item ++ m) h.1.1.1.1.1.0, sooner most (suc most) (close + 1) (close + 1) opens rest (omega arith) (omega arith) h.1.1.1.1.1.1))))))

-- where the innermost list ends
ended : (most place opens : ℕ) (marks : List Mark) → Have most (place + 1) opens marks → Have most place (suc opens) (mark place (place + 1) Close ∷ marks)
ended most place opens marks h = ([], (place, (marks, (omega arith, (omega arith, (refl, h))))))

-- where an item with a list begins, whose marks are one and then those of the list
begun : (most place behind opens : ℕ) (first : Mark) (marks : List Mark) → most < 2 ^ 63 → place ≤ behind → ((span : Span) (items : Vec Item Global) → span.place ≡ place → (item : Item) × (item_marks item ≡ first ∷ list_marks items.items ++ mark (span.place + span.len - 1) (span.place + span.len) Close ∷ [])) → Have most behind (suc opens) marks → Have (suc most) place opens (first ∷ marks)
begun most place behind opens first marks small e make h =
    let inner = h.0 in
    let close = h.1.0 in
    let rest = h.1.1.0 in
    let long = h.1.1.1.0 in
    let far = h.1.1.1.1.0 in
    let span : Span = record { place = place; len = close + 1 - place } in
    let m = make span (vec_of inner (omega arith)) refl in
    let last : place + (close + 1 - place) - 1 ≡ close = omega arith in
    let end : place + (close + 1 - place) ≡ close + 1 = omega arith in
    let is : item_marks m.0 ≡ first ∷ (list_marks inner ++ mark close (close + 1) Close ∷ []) = m.1 ∙ (λ i. first ∷ (list_marks inner ++ mark (last i) (end i) Close ∷ [])) in
    let whole : item_marks m.0 ++ rest ≡ first ∷ marks =
    ap (λ (l : List Mark). l ++ rest) is ∙ ap (λ (l : List Mark). first ∷ l) (append_assoc (list_marks inner) (mark close (close + 1) Close ∷ []) rest ∙ h.1.1.1.1.1.0) in
    subst (Have (suc most) place opens) whole (one_more most place opens m.0 rest (sooner most most place (close + 1) opens rest (omega arith) (omega arith) h.1.1.1.1.1.1))

-- no item is in a gap
gap : (most place behind opens after : ℕ) (marks : List Mark) → place ≤ behind → after ≡ opens → Have most behind after marks → Have (suc most) place opens marks
gap most place behind opens after marks e same h = subst (λ (n : ℕ). Have (suc most) place n marks) same (sooner most (suc most) place behind after marks (omega arith) e h)

-- an item alone
alone : (most place behind opens after : ℕ) (item : Item) (marks : List Mark) → place ≤ behind → after ≡ opens → Have most behind after marks → Have (suc most) place opens (item_marks item ++ marks)
alone most place behind opens after item marks e same h =
    subst (λ (n : ℕ). Have (suc most) place n (item_marks item ++ marks)) same (one_more most place after item marks (sooner most most place behind after marks (omega arith) e h))

listed : (place : ℕ) (span : Span) (items : Vec Item Global) → span.place ≡ place → (item : Item) × (item_marks item ≡ mark place (place + 1) Open ∷ list_marks items.items ++ mark (span.place + span.len - 1) (span.place + span.len) Close ∷ [])
listed place span items e =
    (ItemList span items, marks_of_list span items ∙ ap (λ (n : ℕ). mark n (n + 1) Open ∷ list_marks items.items ++ mark (span.place + span.len - 1) (span.place + span.len) Close ∷ []) e)

keyed : (place : ℕ) (key : List ℕ) (span : Span) (items : Vec Item Global) → span.place ≡ place → (item : Item) × (item_marks item ≡ mark place (place + length key + 1) (Key key) ∷ list_marks items.items ++ mark (span.place + span.len - 1) (span.place + span.len) Close ∷ [])
keyed place key span items e =
    (ItemKeyed span key items, marks_of_keyed span key items ∙ ap (λ (n : ℕ). mark n (n + length key + 1) (Key key) ∷ list_marks items.items ++ mark (span.place + span.len - 1) (span.place + span.len) Close ∷ []) e)

-- tokens that may stand have items
have : (tokens : List Token) (next : Next) (opens place : ℕ) → length tokens < 2 ^ 63 → MayStand 16 next opens tokens → Have (length tokens) place opens (marks_from place tokens)
have [] next opens place small h = subst (λ (n : ℕ). Have 0 place n []) (sym h) ([], omega arith, refl)
have (Blank byte ∷ tokens) next opens place small h =
    let m = h.2 in
    let behind = place + length (spelling (Blank byte)) in
    gap (length tokens) place behind opens m.0 (marks_from behind tokens) (omega arith) m.1 (have tokens Anything m.0 behind (omega arith) m.2)
have (Comment text ∷ tokens) next opens place small h =
    let m = h.2 in
    let behind = place + length (spelling (Comment text)) in
    gap (length tokens) place behind opens m.0 (marks_from behind tokens) (omega arith) m.1 (have tokens Anything m.0 behind (omega arith) m.2)
have (Word bytes ∷ tokens) next opens place small h =
    let m = h.2 in
    let behind = place + length (spelling (Word bytes)) in
    alone (length tokens) place behind opens m.0 (ItemWord (record { place = place; len = length bytes }) (upper bytes)) (marks_from behind tokens) (omega arith) m.1 (have tokens (next_of (Word bytes)) m.0 behind (omega arith) m.2)
have (Quoted text ∷ tokens) next opens place small h =
    let m = h.2 in
    let behind = place + length (spelling (Quoted text)) in
    alone (length tokens) place behind opens m.0 (ItemQuoted (record { place = place; len = length (quoted text) }) text) (marks_from behind tokens) (omega arith) m.1 (have tokens (next_of (Quoted text)) m.0 behind (omega arith) m.2)
have (Key bytes ∷ tokens) next opens place small h =
    let m = h.2 in
    let behind = place + length (spelling (Key bytes)) in
    let more : m.0 ≡ suc opens = m.1.1 ∙ add-one opens in
    let same : place + length (upper bytes) + 1 ≡ place + length bytes + 1 = ap (λ (n : ℕ). place + n + 1) (length-map bytes upper_byte) in
    let rest = subst (λ (n : ℕ). Have (length tokens) behind n (marks_from behind tokens)) more (have tokens Anything m.0 behind (omega arith) m.2) in
    subst (λ (n : ℕ). Have (suc (length tokens)) place opens (mark place n (Key (upper bytes)) ∷ marks_from behind tokens)) same
    (begun (length tokens) place behind opens (mark place (place + length (upper bytes) + 1) (Key (upper bytes))) (marks_from behind tokens) (omega arith) (omega arith) (keyed place (upper bytes)) rest)
have (Open ∷ tokens) next opens place small h =
    let m = h.2 in
    let behind = place + length (spelling Open) in
    let more : m.0 ≡ suc opens = m.1.1 ∙ add-one opens in
    let rest = subst (λ (n : ℕ). Have (length tokens) behind n (marks_from behind tokens)) more (have tokens Anything m.0 behind (omega arith) m.2) in
    begun (length tokens) place behind opens (mark place (place + 1) Open) (marks_from behind tokens) (omega arith) (omega arith) (listed place) rest
have (Close ∷ tokens) next opens place small h =
    let m = h.2 in
    let behind = place + length (spelling Close) in
    let less : suc m.0 ≡ opens = sym (add-one m.0) ∙ sym m.1 in
    subst (λ (n : ℕ). Have (suc (length tokens)) place n (mark place (place + 1) Close ∷ marks_from behind tokens)) less
    (sooner (length tokens) (suc (length tokens)) place place (suc m.0) (mark place (place + 1) Close ∷ marks_from behind tokens) (omega arith) (omega arith)
    (ended (length tokens) place m.0 (marks_from behind tokens) (have tokens Anything m.0 behind (omega arith) m.2)))

-- each token has a byte at least
some_byte : (token : Token) → IsTrue (is_token token) → 1 ≤ length (spelling token)
some_byte (Blank byte) h = omega arith
some_byte (Comment text) h = omega arith
some_byte (Word []) h = absurd (cc)
some_byte (Word (byte ∷ bytes)) h = omega arith
some_byte (Quoted text) h = omega arith
some_byte (Key bytes) h = let long = length-append bytes (40 ∷ []) in omega arith
some_byte Open h = omega arith
some_byte Close h = omega arith

fewer : (tokens : List Token) (next : Next) (opens : ℕ) → MayStand 16 next opens tokens → length tokens ≤ length (flat_map spelling tokens)
fewer [] next opens h = omega arith
fewer (token ∷ tokens) next opens h =
    let one = some_byte token h.0 in
    let rest = fewer tokens (next_of token) h.2.0 h.2.2 in
    let both = length-append (spelling token) (flat_map spelling tokens) in
    omega arith

first_same : (a b : Mark) (x y : List Mark) → a ∷ x ≡ b ∷ y → a ≡ b
first_same a b x y e = cc

rest_same : (a b : Mark) (x y : List Mark) → a ∷ x ≡ b ∷ y → x ≡ y
rest_same a b x y e = cc

no_word : (t : Token) (first : Mark) (from to : ℕ) (name : List ℕ) (x y : List Mark) → mark from to t ∷ x ≡ first ∷ y → first.token ≡ Word name → t ≡ Word name
no_word t first from to name x y e w = ap (λ (m : Mark). m.token) (first_same (mark from to t) first x y e) ∙ w

-- those behind the first one, which is a word
behind_word : (first : Mark) (name : List ℕ) (marks : List Mark) (items : List Item) → first.token ≡ Word name → list_marks items ≡ first ∷ marks → (rest : List Item) × (list_marks rest ≡ marks)
behind_word first name marks [] w e = absurd (cc)
behind_word first name marks (ItemWord span text ∷ items) w e = (items, rest_same _ first _ marks e)
behind_word first name marks (ItemQuoted span text ∷ items) w e = let t = no_word (Quoted text) first _ _ name _ marks e w in absurd (cc)
behind_word first name marks (List' span shape row ∷ items) w e = let t = no_word Open first _ _ name _ marks e w in absurd (cc)
behind_word first name marks (Keyed' span key shape row ∷ items) w e = let t = no_word (Key key) first _ _ name _ marks e w in absurd (cc)

-- the items of a command
pub items_of : (bytes name : List ℕ) (marks : List Mark) → IsCommand bytes name marks → (items : List Item) × (list_marks items ≡ marks)
items_of bytes name marks h =
    let s = h.spells in
    let few = fewer s.tokens Anything 0 s.stand in
    let written = ap length s.written in
    let short = h.short in
    let all = have s.tokens Anything 0 0 (omega arith) s.stand in
    behind_word h.first name marks all.0 h.word (all.2 ∙ sym s.items)
