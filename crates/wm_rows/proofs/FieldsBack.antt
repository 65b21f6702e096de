-- The fields of a printed job are read back.
use Rattle.std.proofs.Common.{◌≡◌, ℕ, ◌<◌, ◌≤◌, ◌^◌, ◌++◌, ◌&&◌, eqb, true, false, cond, List, [], ◌∷◌, Option, Some, None, codes, ◌∙◌, ap, refl, arith, append_assoc}
use Rattle.std.specs.Fmt.{decimal}
use Rattle.std.specs.List.{list_all}
use Rattle.std.proofs.lemmas.Bool.{and_parts, and_from}
use Rattle.std.proofs.lemmas.Bool.Decides.{nat_tests}
use Rattle.wm_base.specs.declared.qname.QName.{QName}
use Rattle.wm_base.specs.Name.{IsName, continues_name, name_of}
use Rattle.wm_base.proofs.Names.{continues-name, name_is, qname_text-parts}
use Rattle.wm_law.specs.declared.job.JobKind.{JobKind}
use Rattle.wm_law.specs.declared.job.JobKind.TheVariants.{Bch, Asj, Pj}
use Rattle.wm_rows.specs.declared.line.Names.{Names}
use Rattle.wm_rows.specs.declared.line.Queueing.{Queueing}
use Rattle.wm_rows.specs.declared.stored_job.StoredJob.{StoredJob}
use Rattle.wm_rows.specs.JobText.{field, kind_word, jobq_text, name_fields, queue_fields}
use Rattle.wm_rows.specs.Reading.{is_other, before, behind, value, rest, behind_four, number_of, kept, same, qname_with, some_queue, jobq_of, kind_of, names_with, names_of, queueing_with, queueing_of}
use Rattle.wm_rows.specs.Stored.{IsStored, IsQueue}
use Rattle.wm_rows.proofs.Digits.{number_back, kept_back, lacks_decimal}
use Rattle.wm_rows.proofs.Seams.{Lacks, Lacks-append, before_first, behind_first, field_value, field_rest}

-- names have no parentheses and no slash
lacks_begin : (b : ℕ) → continues_name b ≡ true → is_other 41 b ≡ true
lacks_begin b h = grind (arith, nat_tests)

lacks_slash : (b : ℕ) → continues_name b ≡ true → is_other 47 b ≡ true
lacks_slash b h = grind (arith, nat_tests)

all_other : (byte : ℕ) → ((b : ℕ) → continues_name b ≡ true → is_other byte b ≡ true) → (bytes : List ℕ) → list_all continues_name bytes ≡ true → Lacks byte bytes
all_other byte f [] h = refl
all_other byte f (b ∷ bytes) h =
    let both = and_parts (continues_name b) (list_all continues_name bytes) h in
    and_from (is_other byte b) (list_all (is_other byte) bytes) (f b both.0) (all_other byte f bytes both.1)

name_closed : (name : List ℕ) → IsName name → Lacks 41 name
name_closed name h = all_other 41 lacks_begin name (continues-name name h)

name_unslashed : (name : List ℕ) → IsName name → Lacks 47 name
name_unslashed name h = all_other 47 lacks_slash name (continues-name name h)

number_closed : (n : ℕ) → n < 2 ^ 64 → Lacks 41 (decimal n)
number_closed n h = lacks_decimal 41 n (omega arith) h

-- a number in its range is read back
range_back : (low high n : ℕ) → low ≤ n → n ≤ high → n < 2 ^ 64 → kept low high (number_of (decimal n)) ≡ Some n
range_back low high n h g s = ap (kept low high) (number_back n s) ∙ kept_back low high n h g

-- the first four fields of some text
module _ (p k l m n a b c d more : List ℕ) (hp : Lacks 40 p) (hk : Lacks 40 k) (hl : Lacks 40 l) (hm : Lacks 40 m) (hn : Lacks 40 n)
    (ha : Lacks 41 a) (hb : Lacks 41 b) (hc : Lacks 41 c) (hd : Lacks 41 d) where
  abbrev third : List ℕ
  third = field m c ++ (field n d ++ more)

  abbrev second : List ℕ
  second = field l b ++ third

  abbrev text : List ℕ
  text = p ++ (field k a ++ second)

  one : rest text ≡ second
  one = field_rest p k a second hp hk ha

  two : rest (rest text) ≡ third
  two = ap rest one ∙ field_rest [] l b third refl hl hb

  three : rest (rest (rest text)) ≡ field n d ++ more
  three = ap rest two ∙ field_rest [] m c (field n d ++ more) refl hm hc

  pub first_value : value text ≡ a
  first_value = field_value p k a second hp hk ha

  pub second_value : value (rest text) ≡ b
  second_value = ap value one ∙ field_value [] l b third refl hl hb

  pub third_value : value (rest (rest text)) ≡ c
  third_value = ap value two ∙ field_value [] m c (field n d ++ more) refl hm hc

  pub fourth_value : value (rest (rest (rest text))) ≡ d
  fourth_value = ap value three ∙ field_value [] n d more refl hn hd

  pub behind_fields : behind_four text ≡ more
  behind_fields = ap rest three ∙ field_rest [] n d more refl hn hd

-- four parts and what stands behind them
pub four_parts : (a b c d more : List ℕ) → a ++ b ++ c ++ d ++ more ≡ a ++ (b ++ (c ++ (d ++ more)))
four_parts a b c d more = append_assoc (a ++ b ++ c) d more ∙ append_assoc (a ++ b) c (d ++ more) ∙ append_assoc a b (c ++ (d ++ more))

-- how the job is named
abbrev pub names : StoredJob → Names
names j = record { serial = j.serial; number = j.number; user = j.user; name = j.name }

pub names_back : (j : StoredJob) (more : List ℕ) → IsStored j → names_of (codes "JOB" ++ (name_fields j ++ more)) ≡ Some (names j)
unfolding names_of
names_back j more h =
    let small : j.number < 2 ^ 64 = omega (arith, h.number_most) in
    let p = codes "JOB" in
    let k = codes "SERIAL" in
    let l = codes "NUMBER" in
    let m = codes "USER" in
    let n = codes "NAME" in
    let a = number_closed j.serial h.serial in
    let b = number_closed j.number small in
    let c = name_closed j.user h.user in
    let d = name_closed j.name h.name in
    let e = four_parts (field k (decimal j.serial)) (field l (decimal j.number)) (field m j.user) (field n j.name) more in
    let one = first_value p k l m n (decimal j.serial) (decimal j.number) j.user j.name more refl refl refl refl refl a b c d in
    let two = second_value p k l m n (decimal j.serial) (decimal j.number) j.user j.name more refl refl refl refl refl a b c d in
    let three = third_value p k l m n (decimal j.serial) (decimal j.number) j.user j.name more refl refl refl refl refl a b c d in
    let four = fourth_value p k l m n (decimal j.serial) (decimal j.number) j.user j.name more refl refl refl refl refl a b c d in
    ap (λ t. names_of (p ++ t)) e
    ∙ (λ i. names_with (number_of (one i)) (kept 1 999999 (number_of (two i))) (name_of (three i)) (name_of (four i)))
    ∙ (λ i. names_with (number_back j.serial h.serial i) (range_back 1 999999 j.number h.number_least h.number_most small i) (name_is j.user h.user i) (name_is j.name h.name i))

pub behind_names : (j : StoredJob) (more : List ℕ) → IsStored j → behind_four (codes "JOB" ++ (name_fields j ++ more)) ≡ more
behind_names j more h =
    let small : j.number < 2 ^ 64 = omega (arith, h.number_most) in
    let p = codes "JOB" in
    let k = codes "SERIAL" in
    let l = codes "NUMBER" in
    let m = codes "USER" in
    let n = codes "NAME" in
    ap (λ t. behind_four (p ++ t)) (four_parts (field k (decimal j.serial)) (field l (decimal j.number)) (field m j.user) (field n j.name) more)
    ∙ behind_fields p k l m n (decimal j.serial) (decimal j.number) j.user j.name more refl refl refl refl refl
    (number_closed j.serial h.serial) (number_closed j.number small) (name_closed j.user h.user) (name_closed j.name h.name)

-- its kind and its queue
kind_closed : (kind : JobKind) → Lacks 41 (kind_word kind)
kind_closed Bch = refl
kind_closed Asj = refl
kind_closed Pj = refl

kind_back : (kind : JobKind) → kind_of (kind_word kind) ≡ kind
kind_back Bch = refl
kind_back Asj = refl
kind_back Pj = refl

jobq_closed : (queue : Option QName) → IsQueue queue → Lacks 41 (jobq_text queue)
jobq_closed None h = refl
jobq_closed (Some q) h = ap (list_all (is_other 41)) (qname_text-parts q) ∙ Lacks-append 41 q.lib (47 ∷ q.name) (name_closed q.lib h.0) (name_closed q.name h.1)

-- a name doesn't begin with `*`
no_star : (lib more : List ℕ) → IsName lib → same (lib ++ 47 ∷ more) (codes "*NONE") ≡ false
no_star [] more h = refl
no_star (b ∷ lib) more h = ap (λ c. c && same (lib ++ 47 ∷ more) (codes "NONE")) (other_star b (and_parts (continues_name b) (list_all continues_name lib) (continues-name (b ∷ lib) h)).0)
  where
    other_star : (b : ℕ) → continues_name b ≡ true → eqb b 42 ≡ false
    other_star b h = grind (arith, nat_tests)

jobq_back : (queue : Option QName) → IsQueue queue → jobq_of (jobq_text queue) ≡ Some queue
jobq_back None h = refl
jobq_back (Some q) h =
    let u = name_unslashed q.lib h.0 in
    ap jobq_of (qname_text-parts q)
    ∙ ap (λ c. cond c (Some None) (some_queue (qname_with (name_of (before 47 (q.lib ++ 47 ∷ q.name))) (name_of (behind 47 (q.lib ++ 47 ∷ q.name)))))) (no_star q.lib q.name h.0)
    ∙ (λ i. some_queue (qname_with (name_of (before_first 47 q.lib q.name u i)) (name_of (behind_first 47 q.lib q.name u i))))
    ∙ (λ i. some_queue (qname_with (name_is q.lib h.0 i) (name_is q.name h.1 i)))

abbrev pub queueing : StoredJob → Queueing
queueing j = record { kind = j.kind; jobq = j.jobq; pty = j.pty; place = j.place }

pub queueing_back : (j : StoredJob) (more : List ℕ) → IsStored j → queueing_of (queue_fields j ++ more) ≡ Some (queueing j)
unfolding queueing_of
queueing_back j more h =
    let small : j.pty < 2 ^ 64 = omega (arith, h.pty_most) in
    let k = codes "TYPE" in
    let l = codes "JOBQ" in
    let m = codes "JOBPTY" in
    let n = codes "PLACE" in
    let a = kind_closed j.kind in
    let b = jobq_closed j.jobq h.jobq in
    let c = number_closed j.pty small in
    let d = number_closed j.place h.place in
    let e = four_parts (field k (kind_word j.kind)) (field l (jobq_text j.jobq)) (field m (decimal j.pty)) (field n (decimal j.place)) more in
    let one = first_value [] k l m n (kind_word j.kind) (jobq_text j.jobq) (decimal j.pty) (decimal j.place) more refl refl refl refl refl a b c d in
    let two = second_value [] k l m n (kind_word j.kind) (jobq_text j.jobq) (decimal j.pty) (decimal j.place) more refl refl refl refl refl a b c d in
    let three = third_value [] k l m n (kind_word j.kind) (jobq_text j.jobq) (decimal j.pty) (decimal j.place) more refl refl refl refl refl a b c d in
    let four = fourth_value [] k l m n (kind_word j.kind) (jobq_text j.jobq) (decimal j.pty) (decimal j.place) more refl refl refl refl refl a b c d in
    ap queueing_of e
    ∙ (λ i. queueing_with (kind_of (one i)) (jobq_of (two i)) (kept 1 9 (number_of (three i))) (number_of (four i)))
    ∙ (λ i. queueing_with (kind_back j.kind i) (jobq_back j.jobq h.jobq i) (range_back 1 9 j.pty h.pty_least h.pty_most small i) (number_back j.place h.place i))

pub behind_queueing : (j : StoredJob) (more : List ℕ) → IsStored j → behind_four (queue_fields j ++ more) ≡ more
behind_queueing j more h =
    let small : j.pty < 2 ^ 64 = omega (arith, h.pty_most) in
    let k = codes "TYPE" in
    let l = codes "JOBQ" in
    let m = codes "JOBPTY" in
    let n = codes "PLACE" in
    ap behind_four (four_parts (field k (kind_word j.kind)) (field l (jobq_text j.jobq)) (field m (decimal j.pty)) (field n (decimal j.place)) more)
    ∙ behind_fields [] k l m n (kind_word j.kind) (jobq_text j.jobq) (decimal j.pty) (decimal j.place) more refl refl refl refl refl
    (kind_closed j.kind) (jobq_closed j.jobq h.jobq) (number_closed j.pty small) (number_closed j.place h.place)
