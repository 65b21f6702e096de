use Rattle.std.proofs.Common.{◌≤◌, [], ◌∷◌, ◌++◌, count_by, ap, refl, sym, subst, arith}
use Rattle.wm_indexes.specs.declared.keys.FullName.{FullName}
use Rattle.wm_indexes.specs.declared.namesakes.Namesakes.{Namesakes}
use Rattle.wm_indexes.specs.FullNames.{serial_of, is_of, is_row}
use Rattle.wm_indexes.specs.Names.{Names, IsNames}
use Rattle.wm_indexes.specs.NamesInside.{names_of}
use Rattle.wm_indexes.specs.Namesakes.{namesakes_among}
use Rattle.wm_indexes.proofs.EachRow.{last-there}
use Rattle.wm_indexes.proofs.JobLemmas.{parted-fewer}
use Rattle.wm_indexes.proofs.NameLemmas.{forgotten-names}
use Rattle.wm_indexes.proofs.names.JobNames.forget.Goals as goal

pub take_out-requires-clause-there : goal.take_out-requires-clause-there
take_out-requires-clause-there c =
    let jobs = c.requires.jobs in
    let job = c.args.job.now in
    let old = subst (λ (n : Names). IsNames (jobs ++ job ∷ []) n) (sym c.self.view_is) c.requires.are in
    subst (λ (row : FullName). 1 ≤ count_by (is_row row) c.self.inside.full.items) (sym c.row_of.ensures.value) (last-there jobs job (names_of c.self.inside) old)

pub invariant_of-self : goal.invariant_of-self
invariant_of-self c =
    let inside = c.self.invariant in
    record {
      places = record { full = omega (arith, inside.places.full, c.take_out.ensures.len, c.take_out.ensures.capacity); by_user = inside.places.by_user; simple = inside.places.simple };
      in_order = c.take_out.ensures.in_order;
      counted = λ name.
          let fewer = parted-fewer (is_of name c.row_of.result) c.row_of.result.serial (namesakes_among serial_of (is_of name) c.self.inside.full.items) in
          let count = ap (λ (n : Namesakes). n.count) (c.take_out.ensures.rows name) in
          omega (arith, fewer, count, inside.counted name);
      by_user = inside.by_user;
      simple = inside.simple;
    }

pub returns-clause-names : goal.returns-clause-names
returns-clause-names c = λ jobs are.
    let old = subst (λ (n : Names). IsNames (jobs ++ c.args.job.now ∷ []) n) (sym c.self.view_is) are in
    let rows = rw c.row_of.ensures.value at c.take_out.ensures.rows in
    let each = rw c.row_of.ensures.value at c.take_out.ensures.each in
    forgotten-names (names_of c.self.inside) _ c.args.job.now rows each refl refl c.requires.ended jobs old
