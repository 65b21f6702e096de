use Rattle.std.proofs.Common.{◌∷◌, ◌++◌, refl, sym, subst, arith}
use Rattle.wm_indexes.specs.Names.{Names, IsNames}
use Rattle.wm_indexes.specs.NamesInside.{names_of}
use Rattle.wm_indexes.proofs.NameLemmas.{few_by_user, few_simple, rejoined-names}
use Rattle.wm_indexes.proofs.names.JobNames.rejoin.Goals as goal

pub join_open-requires-clause-by_user_few : goal.join_open-requires-clause-by_user_few
join_open-requires-clause-by_user_few c =
    let old = subst (λ (n : Names). IsNames c.requires.few.jobs n) (sym c.self.view_is) c.requires.few.are in
    few_by_user (names_of c.self.inside) c.requires.few.jobs old c.requires.few.few

pub join_open-requires-clause-simple_few : goal.join_open-requires-clause-simple_few
join_open-requires-clause-simple_few c =
    let old = subst (λ (n : Names). IsNames c.requires.few.jobs n) (sym c.self.view_is) c.requires.few.are in
    few_simple (names_of c.self.inside) c.requires.few.jobs old c.requires.few.few

pub invariant_of-self : goal.invariant_of-self
invariant_of-self c =
    let inside = c.self.invariant in
    record {
      places = record {
        full = omega (arith, inside.places.full);
        by_user = omega (arith, inside.places.by_user, c.join_open.ensures.by_user_spare);
        simple = omega (arith, inside.places.simple, c.join_open.ensures.simple_spare);
      };
      in_order = inside.in_order;
      counted = inside.counted;
      by_user = c.join_open.ensures.by_user_kept inside.by_user;
      simple = c.join_open.ensures.simple_kept inside.simple;
    }

pub returns-clause-names : goal.returns-clause-names
returns-clause-names c = λ before behind ended serial name ends are.
    let old = subst (λ (n : Names). IsNames (before ++ ended ∷ behind) n) (sym c.self.view_is) are in
    rejoined-names (names_of c.self.inside) _ c.args.job.now refl before behind ended serial name ends c.join_open.ensures.by_user c.join_open.ensures.simple old
