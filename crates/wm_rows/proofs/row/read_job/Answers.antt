use Rattle.std.proofs.Common.{◌≡◌, ◌∙◌, sym, ap, Some}
use Rattle.wm_rows.specs.Scan.{read_text}
use Rattle.wm_rows.proofs.ReadBack.{row_back, row_read, row_again, row_found}
use Rattle.wm_rows.proofs.row.read_job.Goals as goal

pub returns-in_default-clause-exactly : goal.returns-in_default-clause-exactly
returns-in_default-clause-exactly c =
    λ n job stored same. row_read c.args.row.now job stored same (ap read_text (sym c.as_bytes.ensures.value) ∙ sym c.in_ok-job.ensures.value ∙ c.in_default.is)

pub returns-in_default-clause-one : goal.returns-in_default-clause-one
returns-in_default-clause-one c =
    λ job stored same. absurd (row_read c.args.row.now job stored same (ap read_text (sym c.as_bytes.ensures.value) ∙ sym c.in_ok-job.ensures.value ∙ c.in_default.is))

pub returns-then-eq-clause-one : goal.returns-then-eq-clause-one
returns-then-eq-clause-one c =
    λ job stored same.
    let read : read_text c.args.row.now.body ≡ Some c.in-Some.job = ap read_text (sym c.as_bytes.ensures.value) ∙ sym c.in_ok-job.ensures.value ∙ c.in-Some.is in
    sym read ∙ row_back c.args.row.now job stored same

pub returns-else-eq-clause-exactly : goal.returns-else-eq-clause-exactly
returns-else-eq-clause-exactly c =
    λ n job stored same.
    let read : read_text c.args.row.now.body ≡ Some c.in-Some.job = ap read_text (sym c.as_bytes.ensures.value) ∙ sym c.in_ok-job.ensures.value ∙ c.in-Some.is in
    let again = row_again c.args.row.now c.in_ok-printed.printed job c.in-Some.job stored same read c.in_ok-printed.ensures in
    row_found c.in_ok-printed.printed c.args.row.now again c.if-eq.ensures

pub returns-else-eq-clause-one : goal.returns-else-eq-clause-one
returns-else-eq-clause-one c =
    λ job stored same.
    let read : read_text c.args.row.now.body ≡ Some c.in-Some.job = ap read_text (sym c.as_bytes.ensures.value) ∙ sym c.in_ok-job.ensures.value ∙ c.in-Some.is in
    let again = row_again c.args.row.now c.in_ok-printed.printed job c.in-Some.job stored same read c.in_ok-printed.ensures in
    absurd (row_found c.in_ok-printed.printed c.args.row.now again c.if-eq.ensures)
