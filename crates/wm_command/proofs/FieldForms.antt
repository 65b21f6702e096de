-- What is shown of a row's key, made of what the key has, keeps the form and the range of the row.
use Rattle.std.proofs.Common.{◌≡◌, ℕ, ◌&&◌, Bool, true, false, not, cond, nat_le, List, [], ◌∷◌, Option, Some, None, IfSome, subst, sym, ◌∙◌, ap, refl, arith}
use Rattle.std.specs.List.{list_all, list_any}
use Rattle.std.proofs.lemmas.Bool.{and_parts, false≢true, not-true, or_right, or_left}
use Rattle.std.proofs.lemmas.Bool.Decides.{nat_tests}
use Rattle.wm_base.specs.Text.{IsText}
use Rattle.wm_base.specs.declared.qname.QName.{QName}
use Rattle.wm_base.specs.declared.refusal.Key.{Key}
use Rattle.wm_base.specs.declared.refusal.Key.TheVariants as key
use Rattle.wm_desc.specs.Ranges.{cmp_in_range}
use Rattle.wm_desc.specs.declared.entry.Cmp.{Cmp}
use Rattle.wm_desc.specs.declared.entry.Cmp.TheVariants.{Any, Val}
use Rattle.wm_when.specs.Schedule.{within}
use Rattle.wm_when.specs.declared.schedule.DateSpec.{DateSpec}
use Rattle.wm_when.specs.declared.schedule.TimeSpec.{TimeSpec}
use Rattle.wm_law.specs.declared.command.EndOption.{EndOption}
use Rattle.wm_law.specs.declared.command.JobRef.{JobRef}
use Rattle.wm_command.specs.declared.row.Default.{Default}
use Rattle.wm_command.specs.declared.row.Default.TheVariants as default
use Rattle.wm_command.specs.declared.row.Kind.{Kind}
use Rattle.wm_command.specs.declared.row.Kind.TheVariants as kind
use Rattle.wm_command.specs.declared.row.Row.{Row}
use Rattle.wm_command.specs.declared.row.Special.{Special}
use Rattle.wm_command.specs.declared.row.Special.TheVariants as special
use Rattle.wm_command.specs.declared.value.Value.{Value}
use Rattle.wm_command.specs.declared.value.Value.TheVariants as value
use Rattle.wm_command.specs.declared.value.Given.{Given}
use Rattle.wm_command.specs.Fields.{object_or, name_or, text_or, number_or, limit_or, flag_or, ending_or, job_or, compare_or, date_or, time_or, priority_or, is_word_value, maybe, request_or, value_of, with_key, limit_value, or_special}
use Rattle.wm_command.specs.Printed.{IsQualified, FitsCompare, FitsRow, FitRows, HasText, is_shown, shown_rows}
use Rattle.wm_command.specs.Table.{plain, or_word}
use Rattle.wm_command.specs.Values.{is_never}
use Rattle.wm_command.proofs.ReadForms.{InKind, InRow, may_lack, row_of}
use Rattle.wm_command.proofs.TableForms.{Has, AllHave}

-- a priority's number is from 1 to 9, and any other is as it was given
abbrev pub number_by : Key → ℕ → ℕ
number_by key.Jobpty n = priority_or n
number_by k n = n

abbrev pub is_right_priority : Key → Kind → Bool
is_right_priority key.Jobpty (kind.Number low high) = nat_le 1 low && nat_le high 9
is_right_priority k kd = true

-- how a field holds a kind of value: the field's type, the value that shows it, and what it holds of a key's value
pub record Held : Type 1 where
  pub Field : Type 0
  pub shows : Field → Value
  pub holds : Option Value → Field

abbrev pub held : Key → Kind → Held
held k kind.Object = record { Field = QName; shows = value.Object; holds = object_or }
held k kind.Program = record { Field = QName; shows = value.Object; holds = object_or }
held k kind.Name = record { Field = List ℕ; shows = value.Name; holds = name_or }
held k (kind.Text low high) = record { Field = List ℕ; shows = value.Text; holds = text_or }
held k kind.Path = record { Field = List ℕ; shows = value.Text; holds = text_or }
held k (kind.Number low high) = record { Field = ℕ; shows = value.Number; holds = λ o. number_by k (number_or o) }
held k kind.Flag = record { Field = Bool; shows = value.Flag; holds = flag_or }
held k kind.Ending = record { Field = EndOption; shows = value.Ending; holds = ending_or }
held k kind.Job = record { Field = JobRef; shows = value.Job; holds = job_or }
held k kind.Compare = record { Field = Cmp; shows = value.Compare; holds = compare_or }
held k kind.Date = record { Field = DateSpec; shows = value.Date; holds = date_or }
held k kind.Time = record { Field = TimeSpec; shows = value.Time; holds = time_or }
held k kd = record { Field = Unit {0}; shows = λ u. value.Nothing; holds = λ o. tt }

-- what is shown of a key that has a value, and of one that may have its row's special word
abbrev pub plain_value : Key → Kind → Option Value → Value
plain_value k kd o = (held k kd).shows ((held k kd).holds o)

abbrev pub word_value : Key → Kind → Special → Option Value → Value
word_value k kd s o = or_special s (held k kd).shows (maybe (is_word_value o) ((held k kd).holds o))

-- *NOMAX is a limit, and *SBSD the class with the description's name
abbrev pub shown_value : Key → Kind → Special → QName → Option Value → Value
shown_value k kd special.Never sbsd o = plain_value k kd o
shown_value k (kind.Number low high) special.Nomax sbsd o = limit_value (limit_or o)
shown_value k kind.Object special.Sbsd sbsd o = value.Object (cond (is_word_value o) sbsd (object_or o))
shown_value k kd s sbsd o = word_value k kd s o

-- what is asked of a text beside its range
abbrev pub IsPrintable : Value → Type 0
IsPrintable (value.Text t) = IsText t
IsPrintable (value.Compare c) = HasText c
IsPrintable v = Unit {0}

abbrev PrintableOf : Kind → Value → Type 0
PrintableOf (kind.Text low high) v = IsPrintable v
PrintableOf kind.Path v = IsPrintable v
PrintableOf kind.Compare v = IsPrintable v
PrintableOf kd v = Unit {0}

-- each kind of value

no_word : (s : Special) → (s ≡ special.Never) × (is_never s ≡ false) → ⊥
no_word s h = false≢true (sym (subst (λ (x : Special). is_never x ≡ false) h.0 h.1))

own_word : (s t : Special) → (t ≡ s) × (is_never t ≡ false) → (s ≡ s) × (is_never s ≡ false)
own_word s t h = (refl, subst (λ (x : Special). is_never x ≡ false) h.0 h.1)

priority_is : (low high n : ℕ) → (nat_le 1 low && nat_le high 9) ≡ true → within low high n ≡ true → within 1 9 n ≡ true
priority_is low high n right h = grind (arith, nat_tests)

number_is : (k : Key) (low high n : ℕ) → is_right_priority k (kind.Number low high) ≡ true → within low high n ≡ true → number_by k n ≡ n
number_is key.Jobpty low high n right h = ap (λ c. cond c n 5) (priority_is low high n right h)
number_is k low high n right h = refl

compare_fits : (c : Cmp) → HasText c → cmp_in_range c ≡ true → FitsCompare c
compare_fits Any t h = tt
compare_fits (Val text start) t h = (t, h)

plain_fits : (k : Key) (kd : Kind) (s : Special) (d : Default) (v : Value) → is_shown kd ≡ true → is_right_priority k kd ≡ true → PrintableOf kd (plain_value k kd (Some v)) → InKind kd v
    → FitsRow (row_of k kd s d) (plain_value k kd (Some v))
plain_fits k kind.Object s d (value.Object q) shown right t h = h
plain_fits k kind.Program s d (value.Object q) shown right t h = h
plain_fits k kind.Name s d (value.Name n) shown right t h = h
plain_fits k (kind.Text low high) s d (value.Text x) shown right t h = (t, h)
plain_fits k kind.Path s d (value.Text x) shown right t h = (t, h)
plain_fits k (kind.Number low high) s d (value.Number n) shown right t h = subst (λ (m : ℕ). within low high m ≡ true) (sym (number_is k low high n right h)) h
plain_fits k kind.Flag s d (value.Flag b) shown right t h = tt
plain_fits k kind.Ending s d (value.Ending e) shown right t h = tt
plain_fits k kind.Job s d (value.Job j) shown right t h = h
plain_fits k kind.Compare s d (value.Compare c) shown right t h = compare_fits c t h
plain_fits k kind.Date s d (value.Date x) shown right t h = h
plain_fits k kind.Time s d (value.Time x) shown right t h = h
plain_fits k kind.Call s d v shown right t h = absurd (false≢true shown)
plain_fits k kd s d v shown right t h = absurd h

-- a value that is no special word is shown as it is where one may stand too
word_plain : (k : Key) (kd : Kind) (s : Special) (v : Value) → is_word_value (Some v) ≡ false → word_value k kd s (Some v) ≡ plain_value k kd (Some v)
word_plain k kd s v e = λ i. or_special s (held k kd).shows (maybe (e i) ((held k kd).holds (Some v)))

-- the special word of a row, and any other value

word_fits : (k : Key) (kd : Kind) (s : Special) (d : Default) (sbsd : QName) (t : Special) → (s ≡ special.Sbsd → IsQualified sbsd) → (t ≡ s) × (is_never t ≡ false)
    → FitsRow (row_of k kd s d) (shown_value k kd s sbsd (Some (value.Special t)))
word_fits k kd special.Never d sbsd t q h = absurd (no_word t h)
word_fits k (kind.Number low high) special.Nomax d sbsd t q h = own_word special.Nomax t h
word_fits k kind.Object special.Sbsd d sbsd t q h = q refl
word_fits k kd s d sbsd t q h = own_word s t h

kind_fits : (k : Key) (kd : Kind) (s : Special) (d : Default) (sbsd : QName) (v : Value) → is_word_value (Some v) ≡ false → is_shown kd ≡ true → is_right_priority k kd ≡ true
    → PrintableOf kd (shown_value k kd s sbsd (Some v)) → InKind kd v → FitsRow (row_of k kd s d) (shown_value k kd s sbsd (Some v))
kind_fits k kd special.Never d sbsd v e shown right t h = plain_fits k kd special.Never d v shown right t h
kind_fits k (kind.Number low high) special.Nomax d sbsd (value.Number n) e shown right t h = h
kind_fits k (kind.Number low high) special.Nomax d sbsd v e shown right t h = absurd h
kind_fits k kind.Object special.Sbsd d sbsd (value.Object q) e shown right t h = h
kind_fits k kind.Object special.Sbsd d sbsd v e shown right t h = absurd h
kind_fits k kd s d sbsd v e shown right t h =
    subst (FitsRow (row_of k kd s d)) (sym (word_plain k kd s v e)) (plain_fits k kd s d v shown right (subst (PrintableOf kd) (word_plain k kd s v e) t) h)

value_fits : (k : Key) (kd : Kind) (s : Special) (d : Default) (sbsd : QName) (v : Value) → may_lack d ≡ false → is_shown kd ≡ true → is_right_priority k kd ≡ true → (s ≡ special.Sbsd → IsQualified sbsd)
    → PrintableOf kd (shown_value k kd s sbsd (Some v)) → InRow (row_of k kd s d) v → FitsRow (row_of k kd s d) (shown_value k kd s sbsd (Some v))
value_fits k kd s d sbsd (value.Special w) firm shown right q t h = word_fits k kd s d sbsd w q h
value_fits k kd s d sbsd value.Nothing firm shown right q t h = absurd (false≢true (sym firm ∙ h))
value_fits k kd s d sbsd v firm shown right q t h = kind_fits k kd s d sbsd v refl shown right t h

-- all rows that are shown

lift : (P : Option Value → Type 0) (row : Row) (g : List Given) → ((v : Value) → InRow row v → P (Some v)) → Has row g → P (value_of row.key g)
lift P row g f h = subst P (sym h.1) (f h.0 h.2)

-- the description whose name *SBSD stands for
abbrev sbsd_of : List Given → QName
sbsd_of g = object_or (value_of key.Sbsd g)

pub sbsd_fits : (d : Default) (g : List Given) → may_lack d ≡ false → Has (plain key.Sbsd kind.Object d) g → IsQualified (sbsd_of g)
sbsd_fits d g firm h =
    lift (λ o. IsQualified (object_or o)) (plain key.Sbsd kind.Object d) g
    (λ v i. value_fits key.Sbsd kind.Object special.Never d (sbsd_of g) v firm refl refl (λ e. absurd (no_sbsd e)) tt i) h
  where
    no_sbsd : special.Never ≡ special.Sbsd → ⊥
    no_sbsd e = cc

-- a row is shown, has a value, and keeps to what a priority is
abbrev pub is_made : Row → Bool
is_made row = not (may_lack row.otherwise) && is_shown row.kind && is_right_priority row.key row.kind

abbrev pub is_sbsd : Special → Bool
is_sbsd special.Sbsd = true
is_sbsd s = false

abbrev pub has_class : List Row → Bool
has_class rows = list_any (λ row. is_sbsd row.special) rows

abbrev pub shown_of : List Row → List Given → List Given
shown_of [] g = []
shown_of (row ∷ rows) g = with_key row.key (shown_value row.key row.kind row.special (sbsd_of g) (value_of row.key g)) ∷ shown_of rows g

-- the texts that are shown are printable
abbrev pub WithText : Kind → Value → Type 0 → Type 0
WithText (kind.Text low high) v rest = IsPrintable v × rest
WithText kind.Path v rest = IsPrintable v × rest
WithText kind.Compare v rest = IsPrintable v × rest
WithText kd v rest = rest

abbrev pub TextsOf : List Row → List Given → Type 0
TextsOf [] g = Unit {0}
TextsOf (row ∷ rows) g = WithText row.kind (shown_value row.key row.kind row.special (sbsd_of g) (value_of row.key g)) (TextsOf rows g)

both_texts : (kd : Kind) (v : Value) (Rest : Type 0) → WithText kd v Rest → PrintableOf kd v × Rest
both_texts (kind.Text low high) v Rest h = h
both_texts kind.Path v Rest h = h
both_texts kind.Compare v Rest h = h
both_texts kd v Rest h = (tt, h)

row_fits : (row : Row) (g : List Given) → is_made row ≡ true → (is_sbsd row.special ≡ true → IsQualified (sbsd_of g)) → PrintableOf row.kind (shown_value row.key row.kind row.special (sbsd_of g) (value_of row.key g)) → Has row g
    → FitsRow row (shown_value row.key row.kind row.special (sbsd_of g) (value_of row.key g))
row_fits row g made sbsd text h =
    let both = and_parts (not (may_lack row.otherwise) && is_shown row.kind) (is_right_priority row.key row.kind) made in
    let own = and_parts (not (may_lack row.otherwise)) (is_shown row.kind) both.0 in
    lift (λ o. PrintableOf row.kind (shown_value row.key row.kind row.special (sbsd_of g) o) → FitsRow row (shown_value row.key row.kind row.special (sbsd_of g) o)) row g
    (λ v i t. value_fits row.key row.kind row.special row.otherwise (sbsd_of g) v (not-true (may_lack row.otherwise) own.0) own.1 both.1 (λ e. sbsd (ap is_sbsd e)) t i) h text

pub rows_fit : (rows : List Row) (g : List Given) → AllHave rows g → list_all is_made rows ≡ true → (has_class rows ≡ true → IsQualified (sbsd_of g)) → TextsOf rows g → FitRows rows (shown_of rows g)
rows_fit [] g have made sbsd texts = tt
rows_fit (row ∷ rows) g have made sbsd texts =
    let own = and_parts (is_made row) (list_all is_made rows) made in
    let t = both_texts row.kind (shown_value row.key row.kind row.special (sbsd_of g) (value_of row.key g)) (TextsOf rows g) texts in (
      row_fits row g own.0 (λ e. sbsd (or_left (is_sbsd row.special) (has_class rows) e)) t.0 have.0,
      rows_fit rows g have.1 own.1 (λ e. sbsd (or_right (is_sbsd row.special) (has_class rows) e)) t.1,
    )

-- of the keys that have what their rows take, those that are shown
have_by : (row : Row) (rows : List Row) (g : List Given) (c : Bool) → Has row g → AllHave rows g → AllHave (cond c (row ∷ rows) rows) g
have_by row rows g true h all = (h, all)
have_by row rows g false h all = all

pub have_shown : (rows : List Row) (g : List Given) → AllHave rows g → AllHave (shown_rows rows) g
have_shown [] g h = tt
have_shown (row ∷ rows) g h = have_by row (shown_rows rows) g (is_shown row.kind) h.0 (have_shown rows g h.1)

-- a text that may be a special word
pub text_or_word : (s : Special) (o : Option (List ℕ)) → IfSome o IsText → IsPrintable (or_special s value.Text o)
text_or_word s None h = tt
text_or_word s (Some t) h = h

-- CMD's text, or RQSDTA

abbrev pub request_row : Row
request_row = or_word key.Rqsdta (kind.Text 0 1000) special.Jobd default.Nothing

request_rest : (w : Value) → InRow request_row w → IfSome (maybe (is_word_value (Some w)) (text_or (Some w))) IsText → FitsRow request_row (or_special special.Jobd value.Text (maybe (is_word_value (Some w)) (text_or (Some w))))
request_rest (value.Special s) h x = (refl, refl)
request_rest value.Nothing h x = (x, refl)
request_rest (value.Text t) h x = (x, h)
request_rest w h x = absurd h

request_by : (v w : Value) → InRow (plain key.Cmd kind.Call default.Nothing) v → InRow request_row w → IfSome (request_or (Some v) (Some w)) IsText
    → FitsRow request_row (or_special special.Jobd value.Text (request_or (Some v) (Some w)))
request_by (value.Text t) w h k x = (x, h)
request_by value.Nothing w h k x = request_rest w k x
request_by (value.Special s) w h k x = absurd (no_word s h)
request_by v w h k x = absurd h

pub request_fits : (g : List Given) → Has (plain key.Cmd kind.Call default.Nothing) g → Has request_row g → IfSome (request_or (value_of key.Cmd g) (value_of key.Rqsdta g)) IsText
    → FitsRow request_row (or_special special.Jobd value.Text (request_or (value_of key.Cmd g) (value_of key.Rqsdta g)))
request_fits g cmd h x =
    lift (λ o. IfSome (request_or o (value_of key.Rqsdta g)) IsText → FitsRow request_row (or_special special.Jobd value.Text (request_or o (value_of key.Rqsdta g)))) (plain key.Cmd kind.Call default.Nothing) g
    (λ v i. lift (λ p. IfSome (request_or (Some v) p) IsText → FitsRow request_row (or_special special.Jobd value.Text (request_or (Some v) p))) request_row g (λ w j. request_by v w i j) h) cmd x
