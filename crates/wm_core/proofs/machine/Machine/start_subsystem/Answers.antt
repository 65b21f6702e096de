use Rattle.std.proofs.Common.{◌≡◌, ◌∙◌, List, Option, None, ap, sym, fold}
use Rattle.wm_base.specs.declared.refusal.Refusal.{Refusal}
use Rattle.wm_base.proofs.Lists.{on_err}
use Rattle.wm_desc.specs.declared.entry.AutoEntry.{AutoEntry}
use Rattle.wm_law.specs.Autos.{autos_of}
use Rattle.wm_law.specs.Subsystems.{begun, start_refusal, start_unless, with_autos}
use Rattle.wm_law.specs.Supply.{make_firsts}
use Rattle.wm_core.specs.Aside.{aside_of}
use Rattle.wm_core.specs.declared.draft.Draft.{Draft}
use Rattle.wm_core.specs.Drafts.{drafts, enter_draft}
use Rattle.wm_core.specs.MachineInside.{Seen}
use Rattle.wm_core.proofs.ByDrafts.{by_drafts, entered_aside, numbers-suffice}
use Rattle.wm_core.proofs.machine.Machine.start_subsystem.Goals as goal

pub start_up-requires : goal.start_up-requires
start_up-requires c =
    let s = c.args.self.now.state in
    let q = c.args.q.now in
    let items : c.in_ok-drafts.drafts.items ≡ drafts s.objects.jobds (autos_of s q) =
    c.in_ok-drafts.ensures ∙ (ap (λ (t : Seen). drafts t.state.objects.jobds c.autos_of.result.now) c.self.view_is ∙ ap (λ (es : List AutoEntry). drafts s.objects.jobds es) c.autos_of.ensures) in
    record { stops = c.in_ok-stops.ensures; numbers = numbers-suffice s q (sym c.start_refusal.ensures ∙ c.in_default.is) c.in_ok-drafts.drafts.items items }

pub returns-clause-reply : goal.returns-clause-reply
returns-clause-reply c =
    let s = c.args.self.now.state in
    let q = c.args.q.now in
    let none : start_refusal s q ≡ None = sym c.start_refusal.ensures ∙ c.in_default.is in
    sym (ap (λ (o : Option Refusal). (start_unless s q o).reply) none)

pub returns-clause-state : goal.returns-clause-state
returns-clause-state c =
    let s = c.args.self.now.state in
    let q = c.args.q.now in
    let none : start_refusal s q ≡ None = sym c.start_refusal.ensures ∙ c.in_default.is in
    let items : c.in_ok-drafts.drafts.items ≡ drafts s.objects.jobds (autos_of s q) =
    c.in_ok-drafts.ensures ∙ (ap (λ (u : Seen). drafts u.state.objects.jobds c.autos_of.result.now) c.self.view_is ∙ ap (λ (es : List AutoEntry). drafts s.objects.jobds es) c.autos_of.ensures) in
    let made : c.start_up.new.self.state ≡ with_autos s q =
    c.in_ok-start_up.ensures.ok ∙ (ap (λ (ds : List Draft). fold (enter_draft q) (begun s q) ds) items ∙ sym (by_drafts q (begun s q) (autos_of s q))) in
    c.in_ok-make_firsts.ensures.ok ∙ (ap (make_firsts q) made ∙ sym (ap (λ (o : Option Refusal). (start_unless s q o).state) none))

pub returns-in_err-make_firsts-clause-aside : goal.returns-in_err-make_firsts-clause-aside
returns-in_err-make_firsts-clause-aside c =
    let s = c.args.self.now.state in
    let q = c.args.q.now in
    on_err _ (c.make_firsts.ensures.aside ∙ (ap aside_of c.in_ok-start_up.ensures.ok ∙ entered_aside q (begun s q) c.in_ok-drafts.drafts.items))
