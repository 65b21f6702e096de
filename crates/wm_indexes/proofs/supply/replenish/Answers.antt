use Rattle.std.proofs.Common.{◌≡◌, ℕ, ◌-◌, ◌&&◌, min, not, true, ap, sym, ◌∙◌, arith}
use Rattle.std.proofs.lemmas.Bool.{cond-true}
use Rattle.std.proofs.lemmas.Bool.Decides.{nat_tests}
use Rattle.wm_law.specs.Counts.{count_in_sbs, count_from_pre}
use Rattle.wm_law.specs.Prestart.{count_available, is_lacking, is_stopped, left_by, least_multiple, room}
use Rattle.wm_law.specs.Submitting.{numbers_left}
use Rattle.wm_indexes.proofs.supply.replenish.Goals as goal

capped : (m n : ℕ) → min (min m n) n ≡ min m n
capped m n = omega arith

min-of : (a b x m n : ℕ) → x ≡ min a b → a ≡ m → b ≡ n → x ≡ min m n
min-of a b x m n is am bn = omega (arith, is, am, bn)

pub returns : goal.returns
returns c s sbs d sup =
    let e = c.args.entry.now in
    let m : ℕ = least_multiple e.adljobs (e.threshold - count_available sbs e.pgm s.jobs) in
    let running : not (is_stopped s sbs e.pgm) ≡ true = ap not (sym sup.stopped ∙ c.if-supply.false) in
    let lacks : is_lacking s sbs e ≡ true = grind (arith, nat_tests, c.if-supply-entry.false, c.if-entry-eq0.false, sup.available) in
    let made = c.room.ensures s sbs d sup in
    let least : c.least_multiple-lacking.result ≡ m = c.least_multiple-lacking.ensures ∙ ap (λ a. least_multiple e.adljobs (e.threshold - a)) sup.available in
    let numbers : c.from.result ≡ numbers_left s = c.from.ensures ∙ sup.numbers_left in
    let jobs : c.min-jobs.result ≡ min m (numbers_left s) = min-of c.least_multiple-lacking.result c.from.result c.min-jobs.result m (numbers_left s) c.min-jobs.ensures least numbers in
    let within : room s sbs d e (min m (numbers_left s)) ≡ room s sbs d e m = ap (λ k. left_by d.maxjobs (count_in_sbs sbs s.jobs) (left_by e.maxjobs (count_from_pre sbs e.pgm s.jobs) k)) (capped m (numbers_left s)) in
    made ∙ (ap (λ k. room s sbs d e k) jobs ∙ (within ∙ sym (cond-true (not (is_stopped s sbs e.pgm) && is_lacking s sbs e) (room s sbs d e m) 0 (rw running lacks))))
