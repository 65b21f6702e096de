-- A row's command that keeps the forms and ranges of the machine keeps those of the command table.
use Rattle.std.proofs.Common.{◌≡◌, ℕ, zero, suc, true, List, [], ◌∷◌, length, Option, Some, None, IfSome, nat_le, refl, arith}
use Rattle.std.specs.List.{list_all}
use Rattle.std.specs.Prelude.{slice_index_or}
use Rattle.std.proofs.lemmas.Bool.{and_parts, and_from}
use Rattle.std.proofs.lemmas.Bool.Decides.{nat_tests}
use Rattle.wm_base.specs.Text.{IsText}
use Rattle.wm_base.specs.declared.limit.Limit.{Limit}
use Rattle.wm_base.specs.declared.limit.Limit.TheVariants.{NoMax, Most}
use Rattle.wm_base.specs.declared.qname.QName.{QName}
use Rattle.wm_base.specs.declared.refusal.Key.TheVariants as key
use Rattle.wm_desc.specs.Ranges.{cmp_in_range, limit_within, request_in_range, within}
use Rattle.wm_desc.specs.declared.entry.Cmp.{Cmp}
use Rattle.wm_desc.specs.declared.entry.Cmp.TheVariants.{Any, Val}
use Rattle.wm_law.specs.Fit.{IsBetween, IsCompared, IsQName}
use Rattle.wm_law.specs.declared.command.Command.TheVariants as command
use Rattle.wm_command.specs.Printed.{FitsCompare, FitsRow, IsQualified}
use Rattle.wm_command.specs.Entries.{addjobqe_values, addrtge_values, addaje_values, addpje_values}
use Rattle.wm_command.specs.Fields.{limit_value, or_special}
use Rattle.wm_command.specs.Objects.{crtcls_values, crtpgmref_values, crtjobd_values, crtsbsd_values}
use Rattle.wm_command.specs.Table.{change_rows, or_word}
use Rattle.wm_command.specs.declared.row.Default.TheVariants as default
use Rattle.wm_command.specs.declared.row.Kind.{Kind}
use Rattle.wm_command.specs.declared.row.Kind.TheVariants as kind
use Rattle.wm_command.specs.declared.row.Row.{Row as TableRow}
use Rattle.wm_command.specs.declared.row.Special.{Special}
use Rattle.wm_command.specs.declared.row.Special.TheVariants as special
use Rattle.wm_command.specs.declared.value.Value.TheVariants as value
use Rattle.wm_tables.specs.Laws.{RowCommandsFit}

qualified : (q : QName) → IsQName q → IsQualified q
qualified q h = (h.lib, h.name)

inside : (low high n : ℕ) → IsBetween low high n → within low high n ≡ true
inside low high n h =
    let least = h.least in
    let most = h.most in
    let first : nat_le low n ≡ true = grind (arith, nat_tests) in
    let last : nat_le n high ≡ true = grind (arith, nat_tests) in
    and_from (nat_le low n) (nat_le n high) first last

-- a row with this special word, whatever its key and its default
abbrev row_with : Kind → Special → TableRow
row_with takes word = or_word key.Cls takes word default.Required

-- a limit in its range
limit : (low high : ℕ) (l : Limit) → limit_within low high l ≡ true → FitsRow (row_with (kind.Number low high) special.Nomax) (limit_value l)
limit low high NoMax h = (refl, refl)
limit low high (Most n) h = h

-- the request of a job description
request : (o : Option (List ℕ)) → IfSome o IsText → request_in_range o ≡ true → FitsRow (row_with (kind.Text 0 1000) special.None) (or_special special.None value.Text o)
request None h r = (refl, refl)
request (Some t) h r =
    let first : nat_le 0 (length t) ≡ true = grind (arith, nat_tests) in
    (h, and_from (nat_le 0 (length t)) (nat_le (length t) 1000) first r)

compared : (c : Cmp) → IsCompared c → cmp_in_range c ≡ true → FitsCompare c
compared Any h r = tt
compared (Val t start) h r = (h, r)

-- each of nine limits is in its range, where all are
each_limit : (low high : ℕ) (l : List Limit) (i : ℕ) → list_all (limit_within low high) l ≡ true → limit_within low high (slice_index_or l i NoMax) ≡ true
each_limit low high [] i h = refl
each_limit low high (x ∷ l) zero h = (and_parts (limit_within low high x) (list_all (limit_within low high) l) h).0
each_limit low high (x ∷ l) (suc i) h = each_limit low high l i (and_parts (limit_within low high x) (list_all (limit_within low high) l) h).1

pub row_commands_fit : RowCommandsFit
unfolding change_rows crtcls_values crtpgmref_values crtjobd_values crtsbsd_values addjobqe_values addrtge_values addaje_values addpje_values
row_commands_fit (command.Crtcls c) row h e =
    let last = and_parts _ (limit_within 1 9999999 c.dftwait) h.1 in
    let first = and_parts (within 1 99 c.runpty) (within 1 9999999 c.timeslice) last.0 in
    record { values = (qualified c.cls h.0, (first.0, (first.1, (limit 1 9999999 c.dftwait last.1, tt)))); whole = tt }
row_commands_fit (command.Crtjobq c) row h e = record { values = (qualified c.jobq h, tt); whole = tt }
row_commands_fit (command.Crtpgmref c) row h e = record { values = (qualified c.pgm h.0, ((h.1, h.2), tt)); whole = tt }
row_commands_fit (command.Crtjobd c) row h e =
    let parts = and_parts (within 1 80 (length c.rtgdta)) (request_in_range c.rqsdta) h.ranges in
    record {
      values = (
        qualified c.jobd h.jobd,
        (qualified c.jobq h.jobq, (inside 1 9 c.jobpty h.jobpty, ((h.rtgdta, parts.0), (request c.rqsdta h.rqsdta parts.1, (tt, tt))))),
      );
      whole = tt;
    }
row_commands_fit (command.Crtsbsd c) row h e = record { values = (qualified c.sbsd h.0, (limit 0 1000 c.maxjobs h.1, tt)); whole = tt }
row_commands_fit (command.Addjobqe c) row h e =
    let last = and_parts _ (list_all (limit_within 0 99) c.maxpty) h.ranges in
    let first = and_parts (within 1 9999 c.seqnbr) (limit_within 0 1000 c.maxact) last.0 in
    let priority = λ (i : ℕ). each_limit 0 99 c.maxpty i last.1 in
    record {
      values = (
        qualified c.sbsd h.sbsd,
        (
          qualified c.jobq h.jobq,
          (
            limit 0 1000 c.maxact first.1,
            (
              first.0,
              (
                limit 0 99 _ (priority 0),
                (
                  limit 0 99 _ (priority 1),
                  (
                    limit 0 99 _ (priority 2),
                    (
                      limit 0 99 _ (priority 3),
                      (
                        limit 0 99 _ (priority 4),
                        (limit 0 99 _ (priority 5), (limit 0 99 _ (priority 6), (limit 0 99 _ (priority 7), (limit 0 99 _ (priority 8), tt)))),
                      ),
                    ),
                  ),
                ),
              ),
            ),
          ),
        ),
      );
      whole = h.maxpty;
    }
row_commands_fit (command.Addrtge c) row h e =
    let pool = and_parts _ (within 1 10 c.poolid) h.ranges in
    let most = and_parts _ (limit_within 0 1000 c.maxact) pool.0 in
    let first = and_parts (within 1 9999 c.seqnbr) (cmp_in_range c.cmpval) most.0 in
    record {
      values = (
        qualified c.sbsd h.sbsd,
        (
          first.0,
          (
            compared c.cmpval h.cmpval first.1,
            (qualified c.pgm h.pgm, (qualified c.cls h.cls, (limit 0 1000 c.maxact most.1, (pool.1, tt)))),
          ),
        ),
      );
      whole = tt;
    }
row_commands_fit (command.Addaje c) row h e = record { values = (qualified c.sbsd h.sbsd, (h.job, (qualified c.jobd h.jobd, tt))); whole = tt }
row_commands_fit (command.Addpje c) row h e =
    let pool = and_parts _ (within 1 10 c.poolid) h.ranges in
    let uses = and_parts _ (limit_within 1 1000 c.maxuse) pool.0 in
    let most = and_parts _ (limit_within 1 9999 c.maxjobs) uses.0 in
    let more = and_parts _ (nat_le c.adljobs 999) most.0 in
    let first = and_parts (within 1 9999 c.inljobs) (within 1 9999 c.threshold) more.0 in
    let none : nat_le 0 c.adljobs ≡ true = grind (arith, nat_tests) in
    record {
      values = (
        qualified c.sbsd h.sbsd,
        (
          qualified c.pgm h.pgm,
          (
            tt,
            (
              first.0,
              (
                first.1,
                (
                  and_from (nat_le 0 c.adljobs) (nat_le c.adljobs 999) none more.1,
                  (limit 1 9999 c.maxjobs most.1, (limit 1 1000 c.maxuse uses.1, (tt, (qualified c.cls h.cls, (pool.1, tt))))),
                ),
              ),
            ),
          ),
        ),
      );
      whole = tt;
    }
row_commands_fit c row h e = absurd (cc)
