use Rattle.std.proofs.Common.{◌≡◌, ◌-◌, ◌<◌, ◌≤◌, Ok, count_by, ap, sym, ◌∙◌, arith}
use Rattle.wm_indexes.specs.FullNames.{serial_of, is_of}
use Rattle.wm_indexes.proofs.FullRows.{count-between, is_of-first}
use Rattle.wm_indexes.proofs.JobLemmas.{total, total-at, only-none, only-one, only-several}
use Rattle.wm_indexes.proofs.full_names.only.Goals as goal

pub overflow_sub-count : goal.overflow_sub-count
overflow_sub-count c =
    let between = count-between c.args.job.now c.args.rows.now c.begin-at.result c.end.result c.begin-at.ensures.bound c.end.ensures.bound c.begin-at.ensures.parts c.end.ensures.parts in
    omega (arith, between)

pub overflow_cast-result : goal.overflow_cast-result
overflow_cast-result c =
    let between = count-between c.args.job.now c.args.rows.now c.begin-at.result c.end.result c.begin-at.ensures.bound c.end.ensures.bound c.begin-at.ensures.parts c.end.ensures.parts in
    omega (arith, between, c.requires.counted)

pub returns-then-count-eq0 : goal.returns-then-count-eq0
returns-then-count-eq0 c =
    let between = count-between c.args.job.now c.args.rows.now c.begin-at.result c.end.result c.begin-at.ensures.bound c.end.ensures.bound c.begin-at.ensures.parts c.end.ensures.parts in
    let none : count_by (is_of c.args.job.now) c.args.rows.now ≡ 0 = omega (arith, between, c.if-count-eq0.true) in
    sym (only-none (total serial_of (is_of c.args.job.now) c.args.rows.now) none)

-- the row where they begin is the only one of the name
pub returns : goal.returns
returns c =
    let job = c.args.job.now in
    let rows = c.args.rows.now in
    let at = c.begin-at.result in
    let between = count-between job rows at c.end.result c.begin-at.ensures.bound c.end.ensures.bound c.begin-at.ensures.parts c.end.ensures.parts in
    let one : count_by (is_of job) rows ≡ 1 = omega (arith, between, c.if-count-eq0.false, c.if-count-gt1.false) in
    let some : at < c.end.result = omega (arith, between, c.if-count-eq0.false, c.if-count-gt1.false) in
    let first = is_of-first job rows at c.end.result c.begin-at.ensures.bound c.end.ensures.bound c.begin-at.ensures.parts c.end.ensures.parts some c.index-rows-at.result in
    let among = total-at serial_of (is_of job) rows at c.index-rows-at.result (omega (arith, some, c.end.ensures.bound)) c.get.ensures.range first in
    sym (only-one (total serial_of (is_of job) rows) one ∙ ap Ok (among.alone one))

pub returns-then-count-gt1 : goal.returns-then-count-gt1
returns-then-count-gt1 c =
    let job = c.args.job.now in
    let rows = c.args.rows.now in
    let between = count-between job rows c.begin-at.result c.end.result c.begin-at.ensures.bound c.end.ensures.bound c.begin-at.ensures.parts c.end.ensures.parts in
    let more : 2 ≤ count_by (is_of job) rows = omega (arith, between, c.if-count-gt1.true) in
    let same : c.end.result - c.begin-at.result ≡ count_by (is_of job) rows = omega (arith, between) in
    rw same (sym (only-several (total serial_of (is_of job) rows) more))
