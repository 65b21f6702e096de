-- What is read as a key's value has the form and the range of the key's row.
use Rattle.std.proofs.Common.{◌≡◌, ℕ, Bool, true, false, cond, nat_le, nat_eq, List, [], ◌∷◌, length, Option, Some, None, Result, Ok, Err, IsTrue, codes, subst, sym, refl, inl, inr, arith}
use Rattle.std.specs.Cmp.Lexicographic.{pointwise}
use Rattle.std.specs.Option.{option_map}
use Rattle.std.proofs.lemmas.Bool.{false≢true}
use Rattle.std.proofs.lemmas.Bool.Decides.{nat_tests}
use Rattle.std.proofs.lemmas.Option.{cond_some}
use Rattle.wm_base.specs.Name.{IsName, name_of}
use Rattle.wm_base.specs.declared.qname.QName.{QName}
use Rattle.wm_base.specs.declared.refusal.Key.{Key}
use Rattle.wm_clwords.specs.declared.called.CallText.{CallText}
use Rattle.wm_clwords.specs.declared.tree.Item.{Item}
use Rattle.wm_clwords.specs.Call.{IsReference, IsObject, IsProgram, IsOne, item_tokens, program_library}
use Rattle.wm_clwords.specs.CallReading.{object_by, program_by, reference_of}
use Rattle.wm_clwords.specs.Called.{call_of}
use Rattle.wm_clwords.specs.CallText.{call_text}
use Rattle.wm_clwords.specs.Grammar.{Token, Word, Quoted, Key as KeyToken, Open, Close, Blank, Comment}
use Rattle.wm_clwords.proofs.References.{object_some, program_some}
use Rattle.wm_desc.specs.Ranges.{path_in_range, cmp_in_range}
use Rattle.wm_desc.specs.declared.entry.Cmp.TheVariants.{Any, Val}
use Rattle.wm_when.specs.Schedule.{within}
use Rattle.wm_command.specs.declared.fault.CmdFault.{CmdFault}
use Rattle.wm_command.specs.declared.fault.CmdFault.TheVariants.{NotCall}
use Rattle.wm_command.specs.declared.row.Default.{Default}
use Rattle.wm_command.specs.declared.row.Default.TheVariants as default
use Rattle.wm_command.specs.declared.row.Kind.{Kind}
use Rattle.wm_command.specs.declared.row.Kind.TheVariants as kind
use Rattle.wm_command.specs.declared.row.Row.{Row}
use Rattle.wm_command.specs.declared.row.Special.{Special}
use Rattle.wm_command.specs.declared.value.Value.{Value}
use Rattle.wm_command.specs.declared.value.Value.TheVariants as value
use Rattle.wm_command.specs.Call.{call_value, called_text}
use Rattle.wm_command.specs.Printed.{IsQualified, FitsKind}
use Rattle.wm_command.specs.Reading.{row_value}
use Rattle.wm_command.specs.Values.{kind_value, special_word, is_never, is_special, item_value, text_value, or_bad, one_value, compared, one_compared, two_compared, text_from, start_of}
use Rattle.wm_command.specs.Words.{job_of, flag_of, ending_of, date_of, number_of, time_of}
use Rattle.wm_command.proofs.Forms.{none_some, some_same, name_is, number_is, job_is, date_is, time_is}
use Rattle.wm_command.specs.Written.{text_of, is_word, is_bare}
use Rattle.wm_clwords.proofs.CallMeaning.{library_by}

-- a value has the range of its kind; that its text is printable is no part of it
abbrev pub InKind : Kind → Value → Type 0
InKind (kind.Text low high) (value.Text t) = IsTrue (within low high (length t))
InKind kind.Path (value.Text t) = IsTrue (path_in_range t)
InKind kind.Compare (value.Compare c) = IsTrue (cmp_in_range c)
InKind kind.Call (value.Text t) = IsTrue (within 0 1000 (length t))
InKind k v = FitsKind k v

-- a key may have no value where its row has none for it
abbrev pub may_lack : Default → Bool
may_lack default.Nothing = true
may_lack d = false

-- what is dropped is none
abbrev pub is_right_drop : Kind → Default → Bool
is_right_drop kind.Anything d = may_lack d
is_right_drop k d = true

abbrev pub row_of : Key → Kind → Special → Default → Row
row_of key k s d = record { key = key; kind = k; special = s; otherwise = d }

abbrev pub InRow : Row → Value → Type 0
InRow row (value.Special s) = (s ≡ row.special) × (is_never s ≡ false)
InRow row value.Nothing = IsTrue (may_lack row.otherwise)
InRow row v = InKind row.kind v

-- answers

pub err_ok : {A : Type 0} (x : CmdFault) (y : A) → ◌≡◌ {A = Result A CmdFault} (Err x) (Ok y) → ⊥
err_ok x y e = cc

pub ok_same : {A : Type 0} (x y : A) → ◌≡◌ {A = Result A CmdFault} (Ok x) (Ok y) → x ≡ y
ok_same x y e = cc

mapped : {A : Type 0} (f : A → Value) (o : Option A) (v : Value) (P : Value → Type 0) → ((a : A) → o ≡ Some a → P (f a)) → option_map f o ≡ Some v → P v
mapped f None v P h e = absurd (none_some v e)
mapped f (Some a) v P h e = subst P (some_same (f a) v e) (h a refl)

cond_not : {A : Type 0} (c : Bool) (o : Option A) (x : A) → cond c None o ≡ Some x → o ≡ Some x
cond_not true o x e = absurd (none_some x e)
cond_not false o x e = e

-- references

reference_is : (library : List ℕ) (token : Token) (q : QName) → IsName library → IsReference library token q → IsQualified q
reference_is library (Word text) q n (inl (h, inl (e, f))) = (subst IsName (sym f) n, h)
reference_is library (Word text) q n (inl (h, inr (k, e))) = (k, h)
reference_is library (Word text) q n (inr (h, e, f)) = (subst IsName (sym f) refl, h)
reference_is library (Quoted text) q n (h, inl (e, f)) = (subst IsName (sym f) n, h)
reference_is library (Quoted text) q n (h, inr (k, e)) = (k, h)
reference_is library (KeyToken bytes) q n h = absurd h
reference_is library (Blank byte) q n h = absurd h
reference_is library (Comment bytes) q n h = absurd h
reference_is library Open q n h = absurd h
reference_is library Close q n h = absurd h

object_is : (item : Item) (q : QName) → object_by (reference_of item) ≡ Some q → IsQualified q
object_is item q e =
    let h : IsOne (λ token. IsObject token q) (item_tokens item) = object_some item (Some q) (sym e) in
    reference_is (codes "QGPL") h.0 q refl h.2

program_is : (item : Item) (q : QName) → program_by (reference_of item) ≡ Some q → IsQualified q
program_is item q e =
    let h : IsOne (λ token. IsProgram token q) (item_tokens item) = program_some item (Some q) (sym e) in
    reference_is (program_library q.name) h.0 q (library_by (pointwise nat_eq q.name (codes "QCMD"))) h.2

-- one value

kind_is : (key : Key) (k : Kind) (s : Special) (d : Default) (item : Item) (text : List ℕ) (v : Value) → kind_value k item text ≡ Some v → InRow (row_of key k s d) v
unfolding kind_value
kind_is key kind.Object s d item text v e = mapped value.Object (object_by (reference_of item)) v (InRow (row_of key kind.Object s d)) (object_is item) e
kind_is key kind.Program s d item text v e = mapped value.Object (program_by (reference_of item)) v (InRow (row_of key kind.Program s d)) (program_is item) e
kind_is key kind.Name s d item text v e = mapped value.Name (name_of text) v (InRow (row_of key kind.Name s d)) (name_is text) e
kind_is key (kind.Text low high) s d item text v e =
    let h = cond_some (within low high (length text)) (value.Text text) v e in subst (InRow (row_of key (kind.Text low high) s d)) h.1 h.0
kind_is key kind.Path s d item text v e =
    let h = cond_some (path_in_range text) (value.Text text) v e in subst (InRow (row_of key kind.Path s d)) h.1 h.0
kind_is key (kind.Number low high) s d item text v e =
    mapped value.Number (number_of 1 9 low high text) v (InRow (row_of key (kind.Number low high) s d)) (number_is 1 9 low high text) e
kind_is key kind.Flag s d item text v e = mapped value.Flag (flag_of (is_bare item) text) v (InRow (row_of key kind.Flag s d)) (λ b h. tt) e
kind_is key kind.Ending s d item text v e = mapped value.Ending (ending_of (is_bare item) text) v (InRow (row_of key kind.Ending s d)) (λ o h. tt) e
kind_is key kind.Job s d item text v e = mapped value.Job (job_of text) v (InRow (row_of key kind.Job s d)) (job_is text) e
kind_is key kind.Compare s d item text v e = absurd (none_some v e)
kind_is key kind.Date s d item text v e = mapped value.Date (date_of (is_bare item) text) v (InRow (row_of key kind.Date s d)) (date_is (is_bare item) text) e
kind_is key kind.Time s d item text v e = mapped value.Time (time_of (is_bare item) text) v (InRow (row_of key kind.Time s d)) (time_is (is_bare item) text) e
kind_is key kind.Call s d item text v e = absurd (none_some v e)
kind_is key kind.Anything s d item text v e = absurd (none_some v e)

text_is : (key : Key) (k : Kind) (s : Special) (d : Default) (item : Item) (o : Option (List ℕ)) (v : Value) → text_value k item o ≡ Some v → InRow (row_of key k s d) v
text_is key k s d item None v e = absurd (none_some v e)
text_is key k s d item (Some text) v e = kind_is key k s d item text v e

never_of : (b c : Bool) → cond b false c ≡ true → b ≡ false
never_of true c e = absurd (false≢true e)
never_of false c e = refl

special_or : (key : Key) (k : Kind) (s : Special) (d : Default) (item : Item) (v : Value) (c : Bool) → is_special s item ≡ c → cond c (Some (value.Special s)) (text_value k item (text_of item)) ≡ Some v
    → InRow (row_of key k s d) v
special_or key k s d item v true h e =
    subst (InRow (row_of key k s d)) (some_same (value.Special s) v e) (refl, never_of (is_never s) (is_word item (special_word s)) h)
special_or key k s d item v false h e = text_is key k s d item (text_of item) v e

good : (place : ℕ) (o : Option Value) (v : Value) → or_bad place o ≡ Ok v → o ≡ Some v
good place None v e = absurd (err_ok _ v e)
good place (Some w) v e = λ i. Some (ok_same w v e i)

one_is : (key : Key) (k : Kind) (s : Special) (d : Default) (place : ℕ) (items : List Item) (v : Value) → one_value k s place items ≡ Ok v → InRow (row_of key k s d) v
one_is key k s d place [] v e = absurd (err_ok _ v e)
one_is key k s d place (item ∷ []) v e = special_or key k s d item v (is_special s item) refl (good place (item_value k s item) v e)
one_is key k s d place (item ∷ next ∷ items) v e = absurd (err_ok _ v e)

-- compare values

from_is : (key : Key) (s : Special) (d : Default) (o : Option (List ℕ)) (p : Option ℕ) (v : Value) → text_from o p ≡ Some v → InRow (row_of key kind.Compare s d) v
from_is key s d None p v e = absurd (none_some v e)
from_is key s d (Some text) None v e = absurd (none_some v e)
from_is key s d (Some text) (Some start) v e =
    let h = cond_some (cmp_in_range (Val text start)) (value.Compare (Val text start)) v e in subst (InRow (row_of key kind.Compare s d)) h.1 h.0

any_or : (key : Key) (s : Special) (d : Default) (c : Bool) (o : Option (List ℕ)) (v : Value) → cond c (Some (value.Compare Any)) (text_from o (Some 1)) ≡ Some v → InRow (row_of key kind.Compare s d) v
any_or key s d true o v e = subst (InRow (row_of key kind.Compare s d)) (some_same (value.Compare Any) v e) refl
any_or key s d false o v e = from_is key s d o (Some 1) v e

compared_is : (key : Key) (s : Special) (d : Default) (place : ℕ) (items : List Item) (v : Value) → compared place items ≡ Ok v → InRow (row_of key kind.Compare s d) v
compared_is key s d place [] v e = absurd (err_ok _ v e)
compared_is key s d place (item ∷ []) v e = any_or key s d (is_word item (codes "*ANY")) (text_of item) v (good place (one_compared item) v e)
compared_is key s d place (item ∷ start ∷ []) v e =
    from_is key s d (text_of item) (start_of (text_of start)) v (cond_not (is_word item (codes "*ANY")) (text_from (text_of item) (start_of (text_of start))) v (good place (two_compared item start) v e))
compared_is key s d place (item ∷ start ∷ next ∷ items) v e = absurd (err_ok _ v e)

-- CALL

short : (n : ℕ) → nat_le n 1000 ≡ true → within 0 1000 n ≡ true
short n h = grind (arith, nat_tests)

kept_by : (key : Key) (s : Special) (d : Default) (place : ℕ) (text : List ℕ) (v : Value) (c : Bool) → nat_le (length text) 1000 ≡ c → cond c (Ok (value.Text text)) (Err (NotCall place)) ≡ Ok v
    → InRow (row_of key kind.Call s d) v
kept_by key s d place text v true h e = subst (InRow (row_of key kind.Call s d)) (ok_same (value.Text text) v e) (short (length text) h)
kept_by key s d place text v false h e = absurd (err_ok (NotCall place) v e)

called_is : (key : Key) (s : Special) (d : Default) (place : ℕ) (o : Option CallText) (v : Value) → called_text place o ≡ Ok v → InRow (row_of key kind.Call s d) v
called_is key s d place None v e = absurd (err_ok (NotCall place) v e)
called_is key s d place (Some call) v e = kept_by key s d place (call_text call.pgm call.parms) v (nat_le (length (call_text call.pgm call.parms)) 1000) refl e

word_call : (key : Key) (s : Special) (d : Default) (place : ℕ) (o : Option CallText) (v : Value) (c : Bool) → cond c (called_text place o) (Err (NotCall place)) ≡ Ok v → InRow (row_of key kind.Call s d) v
word_call key s d place o v true e = called_is key s d place o v e
word_call key s d place o v false e = absurd (err_ok (NotCall place) v e)

call_is : (key : Key) (s : Special) (d : Default) (place : ℕ) (items : List Item) (v : Value) → call_value place items ≡ Ok v → InRow (row_of key kind.Call s d) v
call_is key s d place [] v e = absurd (err_ok (NotCall place) v e)
call_is key s d place (item ∷ items) v e = word_call key s d place (call_of items) v (is_word item (codes "CALL")) e

-- the value of a row
pub value_is : (key : Key) (k : Kind) (s : Special) (d : Default) (place : ℕ) (items : List Item) (v : Value) → is_right_drop k d ≡ true → row_value k s place items ≡ Ok v → InRow (row_of key k s d) v
value_is key kind.Compare s d place items v drops e = compared_is key s d place items v e
value_is key kind.Call s d place items v drops e = call_is key s d place items v e
value_is key kind.Anything s d place items v drops e = subst (InRow (row_of key kind.Anything s d)) (ok_same value.Nothing v e) drops
value_is key k s d place items v drops e = one_is key k s d place items v e
