use Rattle.std.proofs.Common.{◌∷◌, ◌++◌, refl, sym, subst, arith}
use Rattle.wm_indexes.specs.Names.{Names, IsNames}
use Rattle.wm_indexes.specs.NamesInside.{names_of}
use Rattle.wm_indexes.proofs.NameLemmas.{named_simple, named_by_user, ended-names}
use Rattle.wm_indexes.proofs.names.JobNames.end.Goals as goal

pub leave_open-requires-clause-by_user : goal.leave_open-requires-clause-by_user
leave_open-requires-clause-by_user c =
    let job = c.args.job.now in
    let old = subst (λ (n : Names). IsNames (c.requires.before ++ job ∷ c.requires.behind) n) (sym c.self.view_is) c.requires.are in
    named_by_user job c.requires.lasts (names_of c.self.inside) c.requires.before c.requires.behind old

pub leave_open-requires-clause-simple : goal.leave_open-requires-clause-simple
leave_open-requires-clause-simple c =
    let job = c.args.job.now in
    let old = subst (λ (n : Names). IsNames (c.requires.before ++ job ∷ c.requires.behind) n) (sym c.self.view_is) c.requires.are in
    named_simple job c.requires.lasts (names_of c.self.inside) c.requires.before c.requires.behind old

pub invariant_of-self : goal.invariant_of-self
invariant_of-self c =
    let inside = c.self.invariant in
    record {
      places = record { full = inside.places.full; by_user = omega (arith, inside.places.by_user, c.leave_open.ensures.by_user_spare); simple = omega (arith, inside.places.simple, c.leave_open.ensures.simple_spare) };
      in_order = inside.in_order;
      counted = inside.counted;
      by_user = c.leave_open.ensures.by_user_kept inside.by_user;
      simple = c.leave_open.ensures.simple_kept inside.simple;
    }

pub returns-clause-names : goal.returns-clause-names
returns-clause-names c = λ before behind ended serial name ends are.
    let old = subst (λ (n : Names). IsNames (before ++ c.args.job.now ∷ behind) n) (sym c.self.view_is) are in
    ended-names (names_of c.self.inside) _ c.args.job.now refl before behind ended serial name ends c.leave_open.ensures.by_user c.leave_open.ensures.simple old
