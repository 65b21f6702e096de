-- What a text says as a name, a number, a job, a date or a time has the form and the range of these.
use Rattle.std.proofs.Common.{◌≡◌, ℕ, ◌+◌, ◌*◌, ◌/◌, ◌%◌, ◌&&◌, Bool, true, false, cond, nat_lt, List, [], ◌∷◌, length, find, Option, Some, None, codes, subst, refl, arith}
use Rattle.std.specs.List.{list_all}
use Rattle.std.proofs.lemmas.Bool.{and_parts}
use Rattle.std.proofs.lemmas.Bool.Decides.{nat_tests}
use Rattle.std.proofs.lemmas.Option.{cond_some}
use Rattle.wm_base.specs.Name.{is_name, IsName, name_of}
use Rattle.wm_when.specs.Schedule.{within, is_date, date_in_range, time_in_range}
use Rattle.wm_when.specs.declared.schedule.DateSpec.{DateSpec}
use Rattle.wm_when.specs.declared.schedule.DateSpec.TheVariants as date
use Rattle.wm_when.specs.declared.schedule.TimeSpec.{TimeSpec}
use Rattle.wm_when.specs.declared.schedule.TimeSpec.TheVariants as time
use Rattle.wm_law.specs.declared.command.JobRef.{JobRef}
use Rattle.wm_law.specs.declared.command.JobRef.TheVariants.{Simple, ByUser, Full}
use Rattle.wm_command.specs.Words.{FitsJob, before_slash, behind_slash, job_with, job_behind, job_of, by_user_of, full_of, simple_of, same, date_word, dates_with_words, date_word_of, day_of, date_with, date_of, second_of, kept_within, digits, number_of, time_of}

-- answers

pub none_some : {A : Type 0} (x : A) → ◌≡◌ {A = Option A} None (Some x) → ⊥
none_some x e = cc

pub some_same : {A : Type 0} (x y : A) → ◌≡◌ {A = Option A} (Some x) (Some y) → x ≡ y
some_same x y e = cc

cond_then : {A : Type 0} (c : Bool) (o : Option A) (x : A) → cond c o None ≡ Some x → o ≡ Some x
cond_then true o x e = e
cond_then false o x e = absurd (none_some x e)

-- names

pub name_is : (text n : List ℕ) → name_of text ≡ Some n → IsName n
name_is text n e = let h = cond_some (is_name text) text n e in subst IsName h.1 h.0

-- numbers

kept_is : (low high : ℕ) (o : Option ℕ) (n : ℕ) → kept_within low high o ≡ Some n → within low high n ≡ true
kept_is low high None n e = absurd (none_some n e)
kept_is low high (Some m) n e = let h = cond_some (within low high m) m n e in subst (λ (x : ℕ). within low high x ≡ true) h.1 h.0

pub number_is : (fewest most low high : ℕ) (text : List ℕ) (n : ℕ) → number_of fewest most low high text ≡ Some n → within low high n ≡ true
unfolding number_of
number_is fewest most low high text n e =
    kept_is low high (digits text) n (cond_then (within fewest most (length text)) (kept_within low high (digits text)) n e)

-- jobs

simple_is : (o : Option (List ℕ)) (j : JobRef) → ((n : List ℕ) → o ≡ Some n → IsName n) → simple_of o ≡ Some j → FitsJob j
simple_is None j f e = absurd (none_some j e)
simple_is (Some n) j f e = subst FitsJob (some_same (Simple n) j e) (f n refl)

by_user_is : (o p : Option (List ℕ)) (j : JobRef) → ((n : List ℕ) → o ≡ Some n → IsName n) → ((n : List ℕ) → p ≡ Some n → IsName n) → by_user_of o p ≡ Some j → FitsJob j
by_user_is None p j f g e = absurd (none_some j e)
by_user_is (Some u) None j f g e = absurd (none_some j e)
by_user_is (Some u) (Some n) j f g e = subst FitsJob (some_same (ByUser u n) j e) (f u refl, g n refl)

full_is : (m : Option ℕ) (o p : Option (List ℕ)) (j : JobRef) → ((n : ℕ) → m ≡ Some n → within 1 999999 n ≡ true)
    → ((n : List ℕ) → o ≡ Some n → IsName n) → ((n : List ℕ) → p ≡ Some n → IsName n) → full_of m o p ≡ Some j → FitsJob j
full_is None o p j k f g e = absurd (none_some j e)
full_is (Some m) None p j k f g e = absurd (none_some j e)
full_is (Some m) (Some u) None j k f g e = absurd (none_some j e)
full_is (Some m) (Some u) (Some n) j k f g e = subst FitsJob (some_same (Full (record { number = m; user = u; name = n })) j e) (k m refl, f u refl, g n refl)

behind_is : (first second : List ℕ) (third : Option (List ℕ)) (j : JobRef) → job_behind first second third ≡ Some j → FitsJob j
behind_is first second None j e = by_user_is (name_of first) (name_of second) j (name_is first) (name_is second) e
behind_is first second (Some third) j e =
    full_is (number_of 1 6 1 999999 first) (name_of second) (name_of third) j (number_is 1 6 1 999999 first) (name_is second) (name_is third) e

with_is : (first : List ℕ) (rest : Option (List ℕ)) (j : JobRef) → job_with first rest ≡ Some j → FitsJob j
with_is first None j e = simple_is (name_of first) j (name_is first) e
with_is first (Some rest) j e = behind_is first (before_slash rest) (behind_slash rest) j e

pub job_is : (text : List ℕ) (j : JobRef) → job_of text ≡ Some j → FitsJob j
unfolding job_of
job_is text j e = with_is (before_slash text) (behind_slash text) j e

-- dates and times

choice_is : (c : Bool) (a : DateSpec) (o : Option DateSpec) (d : DateSpec) → date_in_range a ≡ true → (o ≡ Some d → date_in_range d ≡ true) → cond c (Some a) o ≡ Some d → date_in_range d ≡ true
choice_is true a o d h f e = subst (λ (x : DateSpec). date_in_range x ≡ true) (some_same a d e) h
choice_is false a o d h f e = f e

found_is : (text : List ℕ) (specs : List DateSpec) (d : DateSpec) → list_all date_in_range specs ≡ true → find (λ spec. same text (date_word spec)) specs ≡ Some d → date_in_range d ≡ true
found_is text [] d h e = absurd (none_some d e)
found_is text (spec ∷ specs) d h e =
    let both = and_parts (date_in_range spec) (list_all date_in_range specs) h in
    choice_is (same text (date_word spec)) spec (find (λ other. same text (date_word other)) specs) d both.0 (found_is text specs d both.1) e

day_is : (o : Option ℕ) (d : DateSpec) → day_of o ≡ Some d → date_in_range d ≡ true
day_is None d e = absurd (none_some d e)
day_is (Some n) d e = let h = cond_some (is_date n) (date.Day n) d e in subst (λ (x : DateSpec). date_in_range x ≡ true) h.1 h.0

date_with_is : (w : Bool) (text : List ℕ) (o : Option DateSpec) (d : DateSpec) → ((x : DateSpec) → o ≡ Some x → date_in_range x ≡ true) → date_with w text o ≡ Some d → date_in_range d ≡ true
date_with_is w text (Some x) d f e = let h = cond_some w x d e in subst (λ (y : DateSpec). date_in_range y ≡ true) h.1 (f x refl)
date_with_is w text None d f e = day_is (number_of 8 8 0 99999999 text) d e

pub date_is : (w : Bool) (text : List ℕ) (d : DateSpec) → date_of w text ≡ Some d → date_in_range d ≡ true
unfolding date_of
date_is w text d e = date_with_is w text (date_word_of text) d (λ x. found_is text dates_with_words x refl) e

seconds : (h m s : ℕ) → (nat_lt h 24 && nat_lt m 60 && nat_lt s 60) ≡ true → nat_lt (h * 3600 + m * 60 + s) 86400 ≡ true
seconds h m s e =
    let both = and_parts (nat_lt h 24 && nat_lt m 60) (nat_lt s 60) e in
    let first = and_parts (nat_lt h 24) (nat_lt m 60) both.0 in
    grind (arith, nat_tests, both.1, first.0, first.1)

second_is : (o : Option ℕ) (t : TimeSpec) → second_of o ≡ Some t → time_in_range t ≡ true
second_is None t e = absurd (none_some t e)
second_is (Some n) t e =
    let h = cond_some (nat_lt (n / 10000) 24 && nat_lt (n / 100 % 100) 60 && nat_lt (n % 100) 60) (time.At (n / 10000 * 3600 + n / 100 % 100 * 60 + n % 100)) t e in
    subst (λ (x : TimeSpec). time_in_range x ≡ true) h.1 (seconds (n / 10000) (n / 100 % 100) (n % 100) h.0)

time_by : (c : Bool) (o : Option ℕ) (t : TimeSpec) → cond c (Some time.Current) (second_of o) ≡ Some t → time_in_range t ≡ true
time_by true o t e = subst (λ (x : TimeSpec). time_in_range x ≡ true) (some_same time.Current t e) refl
time_by false o t e = second_is o t e

pub time_is : (w : Bool) (text : List ℕ) (t : TimeSpec) → time_of w text ≡ Some t → time_in_range t ≡ true
unfolding time_of
time_is w text t e = time_by (w && same text (codes "*CURRENT")) (number_of 6 6 0 999999 text) t e
