use Rattle.std.proofs.Common.{◌≡◌, ◌<◌, ◌^◌, filter, count_by, ap, sym, ◌∙◌, subst, unwrap_or}
use Rattle.wm_law.specs.declared.command.JobRef.TheVariants.{Simple, ByUser, Full}
use Rattle.wm_law.specs.Named.{is_named, only_one}
use Rattle.wm_indexes.specs.FullNames.{serial_of, is_of}
use Rattle.wm_indexes.specs.Names.{Names, IsNames, serial_of_one}
use Rattle.wm_indexes.specs.NamesInside.{names_of}
use Rattle.wm_indexes.specs.Namesakes.{namesakes_among, nobody, only}
use Rattle.wm_indexes.proofs.NameLemmas.{only-named}
use Rattle.wm_indexes.proofs.names.JobNames.find.Goals as goal

pub only-requires-in-Full-clause-counted : goal.only-requires-in-Full-clause-counted
only-requires-in-Full-clause-counted c = subst (λ rows. count_by (is_of c.in-Full.job) rows < 2 ^ 32) (sym c.deref.ensures.value) (c.self.invariant.counted c.in-Full.job)

pub returns-in-Simple : goal.returns-in-Simple
returns-in-Simple c = λ jobs are.
    let known = subst (λ (n : Names). IsNames jobs n) (sym c.self.view_is) are in
    let was = c.of.ensures ∙ ap (λ o. unwrap_or o nobody) (c.copied.ensures ∙ c.get.ensures.value) in
    let found = c.only.ensures ∙ (ap only was ∙ only-named (names_of c.self.inside) jobs known (Simple c.in-Simple.name)) in
    subst (λ r. c.only.result ≡ serial_of_one (only_one (filter (is_named r) jobs))) (sym c.in-Simple.is) found

pub returns-in-ByUser : goal.returns-in-ByUser
returns-in-ByUser c = λ jobs are.
    let known = subst (λ (n : Names). IsNames jobs n) (sym c.self.view_is) are in
    let was = c.of-in-ByUser.ensures ∙ ap (λ o. unwrap_or o nobody) (c.copied-in-ByUser.ensures ∙ c.get-in-ByUser.ensures.value) in
    let found = c.only-in-ByUser.ensures ∙ (ap only was ∙ only-named (names_of c.self.inside) jobs known (ByUser c.in-ByUser.user c.in-ByUser.name)) in
    subst (λ r. c.only-in-ByUser.result ≡ serial_of_one (only_one (filter (is_named r) jobs))) (sym c.in-ByUser.is) found

pub returns-in-Full : goal.returns-in-Full
returns-in-Full c = λ jobs are.
    let known = subst (λ (n : Names). IsNames jobs n) (sym c.self.view_is) are in
    let same = ap (λ rows. only (namesakes_among serial_of (is_of c.in-Full.job) rows)) c.deref.ensures.value in
    let found = c.only-in-Full.ensures ∙ (same ∙ only-named (names_of c.self.inside) jobs known (Full c.in-Full.job)) in
    subst (λ r. c.only-in-Full.result ≡ serial_of_one (only_one (filter (is_named r) jobs))) (sym c.in-Full.is) found
