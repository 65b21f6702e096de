use Rattle.std.proofs.Common.{◌∷◌, ◌++◌, [], length-append, sym, subst, arith}
use Rattle.wm_indexes.specs.Names.{Names, IsNames}
use Rattle.wm_indexes.specs.NamesInside.{names_of}
use Rattle.wm_indexes.proofs.NameLemmas.{few_by_user, few_simple, few_full, added-names}
use Rattle.wm_indexes.proofs.names.JobNames.add.Goals as goal

pub join_open-requires-clause-by_user_few : goal.join_open-requires-clause-by_user_few
join_open-requires-clause-by_user_few c =
    let old = subst (λ (n : Names). IsNames c.requires.few.jobs n) (sym c.self.view_is) c.requires.few.are in
    few_by_user (names_of c.self.inside) c.requires.few.jobs old c.requires.few.few

pub join_open-requires-clause-simple_few : goal.join_open-requires-clause-simple_few
join_open-requires-clause-simple_few c =
    let old = subst (λ (n : Names). IsNames c.requires.few.jobs n) (sym c.self.view_is) c.requires.few.are in
    few_simple (names_of c.self.inside) c.requires.few.jobs old c.requires.few.few

-- the new rows are those of the jobs that are known, with this one
pub invariant_of-self : goal.invariant_of-self
invariant_of-self c =
    let jobs = c.requires.few.jobs in
    let job = c.args.job.now in
    let old = subst (λ (n : Names). IsNames jobs n) (sym c.self.view_is) c.requires.few.are in
    let places = c.self.invariant.places in
    let new : Names = record { rows = record { full = c.put.new.rows.items; by_user = c.join_open.new.by_user.entries; simple = c.join_open.new.simple.entries }; spare = 0 } in
    let rows = rw c.row_of.ensures.value at c.put.ensures.rows in
    let each = rw c.row_of.ensures.value at c.put.ensures.each in
    let are = added-names (names_of c.self.inside) new job rows each c.join_open.ensures.by_user c.join_open.ensures.simple c.row_of.ensures.range jobs old in
    let few = c.requires.few.few in
    record {
      places = record {
        full = omega (arith, places.full, c.put.ensures.len, c.put.ensures.capacity);
        by_user = omega (arith, places.by_user, c.join_open.ensures.by_user_spare);
        simple = omega (arith, places.simple, c.join_open.ensures.simple_spare);
      };
      in_order = c.put.ensures.in_order;
      counted = few_full new (jobs ++ job ∷ []) are (omega (arith, few, length-append jobs (job ∷ [])));
      by_user = c.join_open.ensures.by_user_kept c.self.invariant.by_user;
      simple = c.join_open.ensures.simple_kept c.self.invariant.simple;
    }

pub returns-clause-names : goal.returns-clause-names
returns-clause-names c = λ jobs are.
    let old = subst (λ (n : Names). IsNames jobs n) (sym c.self.view_is) are in
    let rows = rw c.row_of.ensures.value at c.put.ensures.rows in
    let each = rw c.row_of.ensures.value at c.put.ensures.each in
    added-names (names_of c.self.inside) _ c.args.job.now rows each c.join_open.ensures.by_user c.join_open.ensures.simple c.row_of.ensures.range jobs old
