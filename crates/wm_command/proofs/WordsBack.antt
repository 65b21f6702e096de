-- What is printed of names, numbers, jobs, dates and times is read back, is a plain word, and is short.
use Rattle.std.proofs.Common.{◌≡◌, ℕ, ◌/◌, ◌<◌, ◌≤◌, ◌++◌, true, cond, nat_lt, List, [], ◌∷◌, length, zero, suc, Some, None, lit≤, subst, sym, ◌∙◌, ap, arith, codes}
use Rattle.std.specs.Fmt.{decimal}
use Rattle.std.proofs.lemmas.Bool.{and_parts, false≢true}
use Rattle.std.proofs.lemmas.Bool.Decides.{nat_tests}
use Rattle.std.proofs.lemmas.Fmt.{length-decimal-le}
use Rattle.std.proofs.lemmas.List.{append_assoc, length-append}
use Rattle.wm_base.specs.Name.{IsName}
use Rattle.wm_base.specs.Number.{zero_padded}
use Rattle.wm_base.specs.JobName.{job_name_text}
use Rattle.wm_base.specs.QName.{qname_text}
use Rattle.wm_base.specs.declared.job.JobName.{JobName}
use Rattle.wm_base.specs.declared.qname.QName.{QName}
use Rattle.wm_base.proofs.Names.{length-name, name_is, qname_text-parts}
use Rattle.wm_when.specs.Schedule.{within, is_date}
use Rattle.wm_when.specs.declared.schedule.DateSpec.TheVariants as date
use Rattle.wm_when.specs.declared.schedule.TimeSpec.TheVariants as time
use Rattle.wm_law.specs.declared.command.JobRef.{JobRef}
use Rattle.wm_law.specs.declared.command.JobRef.TheVariants.{Simple, ByUser, Full}
use Rattle.wm_command.specs.Texts.{job_text, second_text}
use Rattle.wm_command.specs.Words.{FitsJob, weekday_text, before_slash, behind_slash, job_with, job_behind, job_of, by_user_of, full_of, simple_of, date_word_of, day_of, date_with, date_of, second_of, number_of, time_of}
use Rattle.wm_command.proofs.Digits.{number_decimal, number_six, number_eight, second_back, within_high, decimal_digits, decimal_some, padded_digits, padded_some, padded_length, six_digits, six_some}
use Rattle.wm_command.proofs.Plain.{Plain, plain_no_star, plain_name, plain_digits, plain_join, name_unslashed, digits_unslashed, before_first, behind_first, before_none, behind_none, ap_two, ap_three}

-- names
pub name_short : (n : List ℕ) → IsName n → length n ≤ 200
name_short n h = omega (arith, length-name n h)

pub plain_qname : (q : QName) → IsName q.lib × IsName q.name → Plain (qname_text q)
plain_qname q h = subst Plain (sym (qname_text-parts q)) (plain_join q.lib q.name (plain_name q.lib h.0) (plain_name q.name h.1))

-- numbers
number_small : (low high n : ℕ) → high < 1000000000 → within low high n ≡ true → n < 1000000000
number_small low high n small h = let top = within_high low high n h in omega arith

pub plain_decimal : (low high n : ℕ) → nat_lt high 1000000000 ≡ true → within low high n ≡ true → Plain (decimal n)
plain_decimal low high n sound h =
    let top : high < 1000000000 = grind (arith, nat_tests) in
    let small = number_small low high n top h in
    plain_digits (decimal n) (decimal_some n small) (decimal_digits n small)

pub number_read : (low high n : ℕ) → nat_lt high 1000000000 ≡ true → within low high n ≡ true → number_of 1 9 low high (decimal n) ≡ Some n
number_read low high n sound h = let top : high < 1000000000 = grind (arith, nat_tests) in number_decimal low high n top h

decimal_short : (n : ℕ) → n < 1000000000 → length (decimal n) ≤ 9
decimal_short n h = length-decimal-le 9 n (omega arith) (omega arith) (omega arith)

pub number_short : (low high n : ℕ) → nat_lt high 1000000000 ≡ true → within low high n ≡ true → length (decimal n) ≤ 9
number_short low high n sound h =
    let top : high < 1000000000 = grind (arith, nat_tests) in
    let most = within_high low high n h in
    decimal_short n (omega arith)

pub padded_short : (w n : ℕ) → length (decimal n) ≤ w → w ≤ 9 → length (zero_padded w n) ≤ 9
padded_short w n h small = omega (arith, padded_length w n h)

number_padded : (n : ℕ) → within 1 999999 n ≡ true → length (zero_padded 6 n) ≤ 9
number_padded n h =
    let top = within_high 1 999999 n h in
    padded_short 6 n (length-decimal-le 6 n (omega arith) (omega arith) (omega arith)) (lit≤ tt)

-- jobs
pub full_text : (j : JobName) → job_name_text j ≡ zero_padded 6 j.number ++ 47 ∷ (j.user ++ 47 ∷ j.name)
full_text j =
    ap (λ l. (l ++ 47 ∷ []) ++ j.name) (append_assoc (zero_padded 6 j.number) (47 ∷ []) j.user)
    ∙ append_assoc (zero_padded 6 j.number ++ 47 ∷ j.user) (47 ∷ []) j.name
    ∙ append_assoc (zero_padded 6 j.number) (47 ∷ j.user) (47 ∷ j.name)

pub plain_job : (j : JobRef) → FitsJob j → Plain (job_text j)
plain_job (Simple name) h = plain_name name h
plain_job (ByUser user name) h = plain_qname (record { lib = user; name = name }) h
plain_job (Full j) h =
    let small = number_small 1 999999 j.number (omega arith) h.0 in
    subst Plain (sym (full_text j))
    (plain_join (zero_padded 6 j.number) (j.user ++ 47 ∷ j.name) (plain_digits (zero_padded 6 j.number) (padded_some 6 j.number small) (padded_digits 6 j.number small))
    (plain_join j.user j.name (plain_name j.user h.1) (plain_name j.name h.2)))

pub job_read : (j : JobRef) → FitsJob j → job_of (job_text j) ≡ Some j
unfolding job_of
job_read (Simple name) h =
    ap_two job_with (before_none name (name_unslashed name h)) (behind_none name (name_unslashed name h)) ∙ ap simple_of (name_is name h)
job_read (ByUser user name) h =
    let u = name_unslashed user h.0 in
    let n = name_unslashed name h.1 in
    ap (λ t. job_with (before_slash t) (behind_slash t)) (qname_text-parts (record { lib = user; name = name }))
    ∙ ap_two job_with (before_first user name u) (behind_first user name u)
    ∙ ap_two (job_behind user) (before_none name n) (behind_none name n)
    ∙ ap_two by_user_of (name_is user h.0) (name_is name h.1)
job_read (Full j) h =
    let small = number_small 1 999999 j.number (omega arith) h.0 in
    let d = digits_unslashed (zero_padded 6 j.number) (padded_digits 6 j.number small) in
    let u = name_unslashed j.user h.1 in
    ap (λ t. job_with (before_slash t) (behind_slash t)) (full_text j)
    ∙ ap_two job_with (before_first (zero_padded 6 j.number) (j.user ++ 47 ∷ j.name) d) (behind_first (zero_padded 6 j.number) (j.user ++ 47 ∷ j.name) d)
    ∙ ap_two (job_behind (zero_padded 6 j.number)) (before_first j.user j.name u) (behind_first j.user j.name u)
    ∙ ap_three full_of (number_six j.number h.0) (name_is j.user h.1) (name_is j.name h.2)

pub job_short : (j : JobRef) → FitsJob j → length (job_text j) ≤ 200
job_short (Simple name) h = name_short name h
job_short (ByUser user name) h =
    simp length-append (omega (arith, length-name user h.0, length-name name h.1))
job_short (Full job) h =
    simp length-append (omega (arith, number_padded job.number h.0, length-name job.user h.1, length-name job.name h.2))

-- dates
pub by_weekday : (P : ℕ → List ℕ → Type 0) → P 1 (codes "*MON") → P 2 (codes "*TUE") → P 3 (codes "*WED") → P 4 (codes "*THU") → P 5 (codes "*FRI") → P 6 (codes "*SAT") → P 7 (codes "*SUN")
    → (n : ℕ) → within 1 7 n ≡ true → P n (weekday_text n)
by_weekday P a b c d e f g zero h = absurd (false≢true h)
by_weekday P a b c d e f g (suc zero) h = a
by_weekday P a b c d e f g (suc (suc zero)) h = b
by_weekday P a b c d e f g (suc (suc (suc zero))) h = c
by_weekday P a b c d e f g (suc (suc (suc (suc zero)))) h = d
by_weekday P a b c d e f g (suc (suc (suc (suc (suc zero))))) h = e
by_weekday P a b c d e f g (suc (suc (suc (suc (suc (suc zero)))))) h = f
by_weekday P a b c d e f g (suc (suc (suc (suc (suc (suc (suc zero))))))) h = g
by_weekday P a b c d e f g (suc (suc (suc (suc (suc (suc (suc (suc n)))))))) h =
    let top = within_high 1 7 (suc (suc (suc (suc (suc (suc (suc (suc n)))))))) h in absurd (omega arith)

pub date_small : (n : ℕ) → is_date n ≡ true → n ≤ 99999999
date_small n h =
    let top = within_high 1970 9999 (n / 10000) (and_parts _ _ (and_parts _ _ h).0).0 in omega arith

no_date_word : (w : List ℕ) → Plain w → date_word_of w ≡ None
no_date_word w p =
    λ i. cond (plain_no_star w (codes "CURRENT") p i) (Some date.Current)
    (cond (plain_no_star w (codes "MONTHSTR") p i) (Some date.MonthStart)
    (cond (plain_no_star w (codes "MONTHEND") p i) (Some date.MonthEnd)
    (cond (plain_no_star w (codes "MON") p i) (Some (date.Weekday 1))
    (cond (plain_no_star w (codes "TUE") p i) (Some (date.Weekday 2))
    (cond (plain_no_star w (codes "WED") p i) (Some (date.Weekday 3))
    (cond (plain_no_star w (codes "THU") p i) (Some (date.Weekday 4))
    (cond (plain_no_star w (codes "FRI") p i) (Some (date.Weekday 5))
    (cond (plain_no_star w (codes "SAT") p i) (Some (date.Weekday 6))
    (cond (plain_no_star w (codes "SUN") p i) (Some (date.Weekday 7)) None)))))))))

pub plain_day : (n : ℕ) → is_date n ≡ true → Plain (zero_padded 8 n)
plain_day n h =
    let top = date_small n h in
    plain_digits (zero_padded 8 n) (padded_some 8 n (omega arith)) (padded_digits 8 n (omega arith))

pub day_read : (n : ℕ) → is_date n ≡ true → date_of true (zero_padded 8 n) ≡ Some (date.Day n)
unfolding date_of
day_read n h =
    ap (date_with true (zero_padded 8 n)) (no_date_word (zero_padded 8 n) (plain_day n h))
    ∙ ap day_of (number_eight n (date_small n h)) ∙ ap (λ c. cond c (Some (date.Day n)) None) h

-- times
pub second_small : (n : ℕ) → nat_lt n 86400 ≡ true → n < 86400
second_small n h = grind (arith, nat_tests)

pub plain_second : (n : ℕ) → nat_lt n 86400 ≡ true → Plain (second_text n)
plain_second n h = let small = second_small n h in plain_digits (second_text n) (six_some n small) (six_digits n small)

pub at_read : (n : ℕ) → nat_lt n 86400 ≡ true → time_of true (second_text n) ≡ Some (time.At n)
unfolding time_of
at_read n h =
    ap (λ c. cond c (Some time.Current) (second_of (number_of 6 6 0 999999 (second_text n)))) (plain_no_star (second_text n) (codes "CURRENT") (plain_second n h))
    ∙ second_back n (second_small n h)
