-- Printed values, one lemma for each kind: what a value's text spells, how long it is, and that it is read as the value.
use Rattle.std.proofs.Common.{◌≡◌, ℕ, ◌++◌, true, false, List, [], ◌∷◌, subst, sym, refl, codes, ◌+◌, ◌≤◌, ◌==◌, Bool, cond, length, lit≤, ap, arith, Some, None, Ok, Result}
use Rattle.std.specs.Fmt.{decimal}
use Rattle.std.proofs.lemmas.Bool.{and_parts, false≢true}
use Rattle.std.proofs.lemmas.List.{append_assoc, length-append}
use Rattle.wm_base.specs.Key.{key_word}
use Rattle.wm_base.specs.Number.{zero_padded}
use Rattle.wm_base.specs.QName.{qname_text}
use Rattle.wm_base.specs.declared.refusal.Key.{Key}
use Rattle.wm_clwords.specs.Grammar.{Token, Word, Quoted, Key as KeyToken, Close, is_word, upper}
use Rattle.wm_clwords.specs.Quote.{quoted, doubled_byte, doubled}
use Rattle.wm_clwords.proofs.Printing.{Fills, fills_word, fills_quoted, fills_quoted_next, Prints, prints_keyed, prints_blank}
use Rattle.wm_desc.specs.declared.entry.Cmp.TheVariants.{Any, Val}
use Rattle.wm_when.specs.declared.schedule.DateSpec.{DateSpec}
use Rattle.wm_when.specs.declared.schedule.TimeSpec.{TimeSpec}
use Rattle.wm_law.specs.declared.command.EndOption.TheVariants.{Cntrld, Immed}
use Rattle.wm_command.specs.declared.row.Kind.{Kind}
use Rattle.wm_command.specs.declared.row.Row.{Row}
use Rattle.wm_command.specs.declared.row.Special.{Special}
use Rattle.wm_command.specs.declared.value.Value.{Value}
use Rattle.wm_command.specs.declared.value.Given.{Given}
use Rattle.wm_command.specs.Print.{value_text, given_text}
use Rattle.wm_command.specs.Texts.{job_text, date_text, time_text, second_text, cmp_text}
use Rattle.wm_command.specs.Printed.{FitsKind, FitsRow, IsQualified, FitsCompare}
use Rattle.wm_command.specs.Values.{special_word, is_never, kind_value, is_special, compared, one_value as one_read}
use Rattle.std.proofs.lemmas.Fmt.{length-decimal-le}
use Rattle.wm_base.specs.declared.qname.QName.{QName}
use Rattle.wm_base.proofs.Names.{length-name, name_is}
use Rattle.wm_desc.specs.declared.entry.Cmp.{Cmp}
use Rattle.std.specs.Option.{option_map}
use Rattle.wm_clwords.specs.declared.tree.Span.{Span}
use Rattle.wm_clwords.specs.declared.tree.Item.{Item, Word as ItemWord, Quoted as ItemQuoted}
use Rattle.wm_clwords.specs.Call.{list_tokens}
use Rattle.wm_law.specs.declared.command.EndOption.{EndOption}
use Rattle.wm_command.specs.Reading.{row_value}
use Rattle.wm_command.specs.Words.{flag_text, ending_text, date_of, time_of}
use Rattle.wm_base.specs.Text.{IsText}
use Rattle.wm_command.specs.declared.fault.CmdFault.{CmdFault}
use Rattle.wm_command.proofs.Digits.{within_high, second_six}
use Rattle.wm_command.proofs.WordsBack.{name_short, plain_qname, plain_decimal, number_read, number_short, padded_short, plain_job, job_read, job_short, by_weekday, date_small, plain_day, day_read, second_small, plain_second, at_read}
use Rattle.wm_command.proofs.Plain.{Plain, plain_word, plain_upper, plain_name}
use Rattle.wm_command.proofs.ReadValues.{value_tokens, is_sound, word_only, quoted_only, not_special, is_own, own_special, word_read, quoted_read, object_read, program_read, compare_read, special_back}
use Rattle.wm_base.specs.declared.refusal.Key.TheVariants as key
use Rattle.wm_when.specs.declared.schedule.DateSpec.TheVariants as date
use Rattle.wm_when.specs.declared.schedule.TimeSpec.TheVariants as time
use Rattle.wm_command.specs.declared.row.Kind.TheVariants as kind
use Rattle.wm_command.specs.declared.row.Special.TheVariants as special
use Rattle.wm_command.specs.declared.value.Value.TheVariants as value

-- bounds: of a value by its kind, of a key with its value, and of all keys

abbrev pub kind_room : Kind → ℕ
kind_room (kind.Text low high) = high + high + 10
kind_room kind.Path = 520
kind_room k = 200

abbrev pub row_room : Row → ℕ
row_room row = 12 + kind_room row.kind

abbrev pub rows_room : List Row → ℕ
rows_room [] = 0
rows_room (row ∷ rows) = row_room row + rows_room rows

-- a text spells these tokens, has this room, and is read as this value
pub record Laws (text : List ℕ) (tokens : List Token) (room : ℕ) (read : ℕ → List Item → Result Value CmdFault) (v : Value) : Type 0 where
  fills : Fills text tokens
  short : length text ≤ room
  pub back : (place : ℕ) (items : List Item) → list_tokens items ≡ tokens → read place items ≡ Ok v

-- one word
word_laws : (k : Kind) (s : Special) (v : Value) (w : List ℕ) → Fills w (Word w ∷ []) → length w ≤ 200 → ((span : Span) → is_special s (ItemWord span w) ≡ false)
    → ((span : Span) → kind_value k (ItemWord span w) w ≡ Some v) → Laws w (Word w ∷ []) 200 (one_read k s) v
word_laws k s v w fills short special is =
    record {
      fills = fills;
      short = short;
      back = λ place items e. word_only items w e (λ l. one_read k s place l ≡ Ok v) (λ span. word_read k s place span w v (special span) (is span));
    }

-- a plain word
fills_plain : (w : List ℕ) → Plain w → Fills w (Word w ∷ [])
fills_plain w p = subst (λ (u : List ℕ). Fills w (Word u ∷ [])) (plain_upper w p) (fills_word w (plain_word w p))

plain_laws : (k : Kind) (s : Special) (v : Value) (w : List ℕ) → Plain w → length w ≤ 200 → ((span : Span) → kind_value k (ItemWord span w) w ≡ Some v) → Laws w (Word w ∷ []) 200 (one_read k s) v
plain_laws k s v w p short is = word_laws k s v w (fills_plain w p) short (λ span. not_special s span w p) is

-- a word of the value's kind that begins with an asterisk
own_laws : (k : Kind) (s : Special) (v : Value) (w : List ℕ) → Fills w (Word w ∷ []) → length w ≤ 200 → is_own w ≡ true → ((span : Span) → kind_value k (ItemWord span w) w ≡ Some v)
    → Laws w (Word w ∷ []) 200 (one_read k s) v
own_laws k s v w fills short own is = word_laws k s v w fills short (λ span. own_special s span w own) is

-- a text in apostrophes
text_laws : (k : Kind) (s : Special) (t : List ℕ) (room : ℕ) → IsText t → length (quoted t) ≤ room → ((span : Span) → kind_value k (ItemQuoted span t) t ≡ Some (value.Text t))
    → Laws (quoted t) (Quoted t ∷ []) room (one_read k s) (value.Text t)
text_laws k s t room h short is =
    record {
      fills = fills_quoted t h;
      short = short;
      back = λ place items e. quoted_only items t e (λ l. one_read k s place l ≡ Ok (value.Text t)) (λ span. quoted_read k s place span t (value.Text t) (is span));
    }

-- each kind of value

qname_short : (q : QName) → IsQualified q → length (qname_text q) ≤ 200
qname_short q h =
    simp length-append (omega (arith, length-name q.lib h.0, length-name q.name h.1))

choice_short : (b : ℕ) (c : Bool) → length (cond c (39 ∷ 39 ∷ []) (b ∷ [])) ≤ 2
choice_short b true = lit≤ tt
choice_short b false = lit≤ tt

doubled_short : (t : List ℕ) → length (doubled t) ≤ length t + length t
doubled_short [] = lit≤ tt
doubled_short (b ∷ t) =
    omega (arith, length-append (doubled_byte b) (doubled t), choice_short b (b == 39), doubled_short t)

quoted_short : (t : List ℕ) → length (quoted t) ≤ length t + length t + 2
quoted_short t = omega (arith, length-append (doubled t) (39 ∷ []), doubled_short t)

compare_short : (c : Cmp) → FitsCompare c → length (cmp_text c) ≤ 200
compare_short Any h = lit≤ tt
compare_short (Val text start) h =
    let range = and_parts _ _ (and_parts _ _ h.1).0 in
    let long = within_high 1 80 (length text) range.0 in
    let digits = number_short 1 80 start refl range.1 in
    simp length-append (omega (arith, doubled_short text))

compare_laws : (s : Special) (c : Cmp) → FitsCompare c → Laws (cmp_text c) (value_tokens (value.Compare c)) 200 compared (value.Compare c)
compare_laws s Any h = record { fills = fills_word (codes "*ANY") refl; short = lit≤ tt; back = λ place items e. compare_read Any place items h e }
compare_laws s (Val text start) h =
    let digits = fills_plain (decimal start) (plain_decimal 1 80 start refl (and_parts _ _ (and_parts _ _ h.1).0).1) in
    record {
      fills = subst (λ (l : List ℕ). Fills l (Quoted text ∷ Word (decimal start) ∷ [])) (sym (append_assoc (quoted text) (32 ∷ []) (decimal start))) (fills_quoted_next text (decimal start) (Word (decimal start) ∷ []) h.0 digits);
      short = compare_short (Val text start) h;
      back = λ place items e. compare_read (Val text start) place items h e;
    }

flag_laws : (s : Special) (b : Bool) → Laws (flag_text b) (Word (flag_text b) ∷ []) 200 (one_read kind.Flag s) (value.Flag b)
unfolding kind_value
flag_laws s true = own_laws kind.Flag s (value.Flag true) (codes "*YES") (fills_word (codes "*YES") refl) (lit≤ tt) refl (λ span. refl)
flag_laws s false = own_laws kind.Flag s (value.Flag false) (codes "*NO") (fills_word (codes "*NO") refl) (lit≤ tt) refl (λ span. refl)

ending_laws : (s : Special) (e : EndOption) → Laws (ending_text e) (Word (ending_text e) ∷ []) 200 (one_read kind.Ending s) (value.Ending e)
unfolding kind_value
ending_laws s Cntrld = own_laws kind.Ending s (value.Ending Cntrld) (codes "*CNTRLD") (fills_word (codes "*CNTRLD") refl) (lit≤ tt) refl (λ span. refl)
ending_laws s Immed = own_laws kind.Ending s (value.Ending Immed) (codes "*IMMED") (fills_word (codes "*IMMED") refl) (lit≤ tt) refl (λ span. refl)

abbrev DateLaws : Special → DateSpec → List ℕ → Type 0
DateLaws s d w = Laws w (Word w ∷ []) 200 (one_read kind.Date s) (value.Date d)

own_date : (s : Special) (d : DateSpec) (w : List ℕ) → Fills w (Word w ∷ []) → length w ≤ 200 → is_own w ≡ true → date_of true w ≡ Some d → DateLaws s d w
unfolding kind_value
own_date s d w fills short own is = own_laws kind.Date s (value.Date d) w fills short own (λ span. ap (option_map value.Date) is)

date_laws : (s : Special) (d : DateSpec) → FitsKind kind.Date (value.Date d) → DateLaws s d (date_text d)
unfolding kind_value date_of
date_laws s date.Current h = own_date s date.Current (codes "*CURRENT") (fills_word (codes "*CURRENT") refl) (lit≤ tt) refl refl
date_laws s date.MonthStart h = own_date s date.MonthStart (codes "*MONTHSTR") (fills_word (codes "*MONTHSTR") refl) (lit≤ tt) refl refl
date_laws s date.MonthEnd h = own_date s date.MonthEnd (codes "*MONTHEND") (fills_word (codes "*MONTHEND") refl) (lit≤ tt) refl refl
date_laws s (date.Weekday n) h =
    by_weekday (λ n w. DateLaws s (date.Weekday n) w)
    (own_date s (date.Weekday 1) (codes "*MON") (fills_word (codes "*MON") refl) (lit≤ tt) refl refl)
    (own_date s (date.Weekday 2) (codes "*TUE") (fills_word (codes "*TUE") refl) (lit≤ tt) refl refl)
    (own_date s (date.Weekday 3) (codes "*WED") (fills_word (codes "*WED") refl) (lit≤ tt) refl refl)
    (own_date s (date.Weekday 4) (codes "*THU") (fills_word (codes "*THU") refl) (lit≤ tt) refl refl)
    (own_date s (date.Weekday 5) (codes "*FRI") (fills_word (codes "*FRI") refl) (lit≤ tt) refl refl)
    (own_date s (date.Weekday 6) (codes "*SAT") (fills_word (codes "*SAT") refl) (lit≤ tt) refl refl)
    (own_date s (date.Weekday 7) (codes "*SUN") (fills_word (codes "*SUN") refl) (lit≤ tt) refl refl) n h
date_laws s (date.Day n) h =
    let top = date_small n h in
    let short : length (zero_padded 8 n) ≤ 200 = omega (arith, padded_short 8 n (length-decimal-le 8 n (omega arith) (omega arith) (omega arith)) (lit≤ tt)) in
    plain_laws kind.Date s (value.Date (date.Day n)) (zero_padded 8 n) (plain_day n h) short (λ span. ap (option_map value.Date) (day_read n h))

time_laws : (s : Special) (t : TimeSpec) → FitsKind kind.Time (value.Time t) → Laws (time_text t) (Word (time_text t) ∷ []) 200 (one_read kind.Time s) (value.Time t)
unfolding kind_value time_of
time_laws s time.Current h = own_laws kind.Time s (value.Time time.Current) (codes "*CURRENT") (fills_word (codes "*CURRENT") refl) (lit≤ tt) refl (λ span. refl)
time_laws s (time.At n) h =
    let short : length (second_text n) ≤ 200 = omega (arith, ap length (second_six n (second_small n h))) in
    plain_laws kind.Time s (value.Time (time.At n)) (second_text n) (plain_second n h) short (λ span. ap (option_map value.Time) (at_read n h))

abbrev pub KindLaws : Kind → Special → Value → Type 0
KindLaws k s v = Laws (value_text v) (value_tokens v) (kind_room k) (row_value k s) v

kind_laws : (k : Kind) (s : Special) (v : Value) → is_sound k s ≡ true → FitsKind k v → KindLaws k s v
unfolding kind_value value_text
kind_laws kind.Object s (value.Object q) sound h = plain_laws kind.Object s (value.Object q) (qname_text q) (plain_qname q h) (qname_short q h) (λ span. ap (option_map value.Object) (object_read span q h))
kind_laws kind.Program s (value.Object q) sound h = plain_laws kind.Program s (value.Object q) (qname_text q) (plain_qname q h) (qname_short q h) (λ span. ap (option_map value.Object) (program_read span q h))
kind_laws kind.Name s (value.Name n) sound h = plain_laws kind.Name s (value.Name n) n (plain_name n h) (name_short n h) (λ span. ap (option_map value.Name) (name_is n h))
kind_laws (kind.Text low high) s (value.Text t) sound h =
    let short : length (quoted t) ≤ high + high + 10 = omega (arith, quoted_short t, within_high low high (length t) h.1) in
    text_laws (kind.Text low high) s t (high + high + 10) h.0 short (λ span. ap (λ c. cond c (Some (value.Text t)) None) h.1)
kind_laws kind.Path s (value.Text t) sound h =
    let short : length (quoted t) ≤ 520 = omega (arith, quoted_short t, within_high 1 255 (length t) (and_parts _ _ h.1).0) in
    text_laws kind.Path s t 520 h.0 short (λ span. ap (λ c. cond c (Some (value.Text t)) None) h.1)
kind_laws (kind.Number low high) s (value.Number n) sound h =
    let short : length (decimal n) ≤ 200 = omega (arith, number_short low high n sound h) in
    plain_laws (kind.Number low high) s (value.Number n) (decimal n) (plain_decimal low high n sound h) short (λ span. ap (option_map value.Number) (number_read low high n sound h))
kind_laws kind.Flag s (value.Flag b) sound h = flag_laws s b
kind_laws kind.Ending s (value.Ending e) sound h = ending_laws s e
kind_laws kind.Job s (value.Job j) sound h = plain_laws kind.Job s (value.Job j) (job_text j) (plain_job j h) (job_short j h) (λ span. ap (option_map value.Job) (job_read j h))
kind_laws kind.Compare s (value.Compare c) sound h = compare_laws s c h
kind_laws kind.Date s (value.Date d) sound h = date_laws s d h
kind_laws kind.Time s (value.Time t) sound h = time_laws s t h
kind_laws k s v sound h = absurd h

special_short : (s : Special) → length (special_word s) ≤ 10
unfolding special_word
special_short special.Never = lit≤ tt
special_short s = lit≤ tt

room_for_word : (k : Kind) → 10 ≤ kind_room k
room_for_word (kind.Text low high) = omega arith
room_for_word kind.Path = lit≤ tt
room_for_word k = lit≤ tt

fills_special : (s : Special) → is_never s ≡ false → Fills (special_word s) (Word (special_word s) ∷ [])
unfolding special_word
fills_special special.Never n = absurd (false≢true (sym n))
fills_special s n = fills_word (special_word s) refl

-- a row's special word, or a value of its kind
pub row_laws : (row : Row) (v : Value) → is_sound row.kind row.special ≡ true → FitsRow row v → KindLaws row.kind row.special v
unfolding value_text
row_laws row (value.Special s) sound h =
    let never : is_never row.special ≡ false = subst (λ (x : Special). is_never x ≡ false) h.0 h.1 in
    subst (KindLaws row.kind row.special) (ap value.Special (sym h.0))
    (record {
      fills = fills_special row.special never;
      short = omega (arith, special_short row.special, room_for_word row.kind);
      back = λ place items e. special_back row.kind row.special place items sound never e;
    })
row_laws row v sound h = kind_laws row.kind row.special v sound h

-- keys are words in capitals
key_is : (k : Key) → is_word (key_word k) ≡ true
key_is key.Cls = refl
key_is k = refl

key_upper : (k : Key) → upper (key_word k) ≡ key_word k
key_upper key.Cls = refl
key_upper k = refl

-- the tokens of a key with its value
abbrev pub given_tokens : Given → List Token
given_tokens g = KeyToken (key_word g.key) ∷ value_tokens g.value ++ Close ∷ []

-- `KEY(VALUE)`
abbrev pub bare_text : Given → List ℕ
bare_text g = ((key_word g.key ++ 40 ∷ []) ++ value_text g.value) ++ 41 ∷ []

pub prints_bare : (row : Row) (g : Given) → is_sound row.kind row.special ≡ true → FitsRow row g.value → Prints (bare_text g) (given_tokens g)
prints_bare row g sound h =
    subst (λ (l : List ℕ). Prints (l ++ 41 ∷ []) (given_tokens g)) (sym (append_assoc (key_word g.key) (40 ∷ []) (value_text g.value)))
    (subst (λ (u : List ℕ). Prints (key_word g.key ++ 40 ∷ value_text g.value ++ 41 ∷ []) (KeyToken u ∷ value_tokens g.value ++ Close ∷ [])) (key_upper g.key)
    (prints_keyed (key_word g.key) (value_text g.value) (value_tokens g.value) (key_is g.key) (row_laws row g.value sound h).fills))

-- the same behind a blank
pub prints_given : (row : Row) (g : Given) → is_sound row.kind row.special ≡ true → FitsRow row g.value → Prints (given_text g) (given_tokens g)
prints_given row g sound h = prints_blank (bare_text g) (given_tokens g) (prints_bare row g sound h)

-- how long a key with its value is
key_short : (k : Key) → length (key_word k) ≤ 9
key_short key.Cls = lit≤ tt
key_short k = lit≤ tt

pub given_short : (row : Row) (g : Given) → is_sound row.kind row.special ≡ true → FitsRow row g.value → length (given_text g) ≤ row_room row
given_short row g sound h =
    simp length-append (omega (arith, key_short g.key, (row_laws row g.value sound h).short))
