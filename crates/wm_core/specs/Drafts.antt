-- The autostart jobs of a subsystem: what of them wants memory is taken before anything is changed, and then they are made.
use Rattle.std.specs.Prelude.{ℕ, List, fold, filter_map, Option, option_map}
use Rattle.wm_base.specs.declared.qname.QName.{QName}
use Rattle.wm_desc.specs.declared.description.Jobd.{Jobd}
use Rattle.wm_desc.specs.declared.entry.AutoEntry.{AutoEntry}
use Rattle.wm_desc.specs.Table.{object_named}
use Rattle.wm_law.specs.declared.job.Job.{Job}
use Rattle.wm_law.specs.declared.state.State.{State}
use Rattle.wm_law.specs.Autos.{routed_auto, joined, new_auto_job}
use Rattle.wm_pick.specs.Parts.{with_parts}
use Rattle.wm_jobs.specs.Table.{Table}
use Rattle.wm_core.specs.declared.draft.Draft.{Draft}
use Rattle.wm_core.specs.declared.draft.Site.{Site}

-- what an entry's job has of its job description
abbrev pub draft_of : AutoEntry → Jobd → Draft
draft_of e d = record { name = e.job; rtgdta = d.rtgdta; rqsdta = d.rqsdta }

abbrev pub draft_in : List (QName × Jobd) → AutoEntry → Option Draft
draft_in jobds e = option_map (draft_of e) (object_named e.jobd jobds)

-- those of the entries whose job description is an object
abbrev pub drafts : List (QName × Jobd) → List AutoEntry → List Draft
drafts jobds entries = filter_map (draft_in jobds) entries

-- the job of a draft, as the launch takes it
abbrev pub drafted_job : State → Draft → Job
drafted_job s d = new_auto_job s d.name d.rtgdta d.rqsdta

-- the job of a draft is launched as it is made
abbrev pub enter_draft : QName → State → Draft → State
enter_draft sbs s d = joined s (routed_auto s sbs (drafted_job s d))

-- the state that has what the making of autostart jobs looks at and changes, and else nothing
abbrev pub site_state : Site → Table → ℕ → State
site_state site t number = record (with_parts site.objects.now t.jobs site.started.now site.held.now t.clock) { next_number = number; next_serial = t.next_serial }

-- with the job of each draft
abbrev pub enter_drafts : Site → Table → ℕ → List Draft → State
enter_drafts site t number ds = fold (enter_draft site.sbs) (site_state site t number) ds
