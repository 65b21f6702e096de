-- By the tally of the active jobs' hows the same subsystems are gone, and leave.
use Rattle.std.proofs.Common.{◌≡◌, ◌∙◌, ◌&&◌, ◌==◌, Bool, not, List, [], ◌∷◌, filter, refl, ap}
use Rattle.std.specs.List.{list_any}
use Rattle.wm_base.specs.declared.qname.QName.{QName}
use Rattle.wm_desc.specs.Table.{same_qname}
use Rattle.wm_law.specs.declared.job.Job.{Job}
use Rattle.wm_law.specs.declared.state.Evoke.{Evoke}
use Rattle.wm_law.specs.declared.state.Sbs.{Sbs}
use Rattle.wm_law.specs.declared.state.State.{State}
use Rattle.wm_law.specs.declared.state.Stop.{Stop}
use Rattle.wm_law.specs.Settling.{is_ending, is_gone, is_gone_by_name, leave}
use Rattle.wm_pick.specs.Tally.{Counts, IsTally}
use Rattle.wm_pick.specs.Tallied.{hows}
use Rattle.wm_pick.proofs.TalliedJobs.{tally_has_counts}
use Rattle.wm_subsystems.specs.Gone.{is_any_gone, is_gone_by}

-- the same subsystem is gone
pub gone-alike : (jobs : List Job) (tally : Counts) → IsTally (hows jobs) tally → (b : Sbs) → is_gone_by tally b ≡ is_gone jobs b
gone-alike jobs tally are b = ap (λ n. is_ending b.phase && n == 0) ((tally_has_counts jobs tally are).in_sbs b.sbsd)

filter_alike : {X : Type 0} (p q : X → Bool) → ((x : X) → p x ≡ q x) → (xs : List X) → filter p xs ≡ filter q xs
filter_alike p q h [] = refl
filter_alike p q h (x ∷ xs) = cc (h x, filter_alike p q h xs)

any_alike : {X : Type 0} (p q : X → Bool) → ((x : X) → p x ≡ q x) → (xs : List X) → list_any p xs ≡ list_any q xs
any_alike p q h [] = refl
any_alike p q h (x ∷ xs) = cc (h x, any_alike p q h xs)

named-alike : (s : State) (tally : Counts) → IsTally (hows s.jobs) tally → (q : QName) → is_any_gone tally s.started q ≡ is_gone_by_name s q
named-alike s tally are q =
    any_alike (λ (b : Sbs). is_gone_by tally b && same_qname b.sbsd q) (λ (b : Sbs). is_gone s.jobs b && same_qname b.sbsd q) (λ b. ap (λ (t : Bool). t && same_qname b.sbsd q) (gone-alike s.jobs tally are b)) s.started

-- the lists that are left by counts are those that are left by the jobs
pub leave-alike : (s : State) (t u v : Counts) (stopped : List Stop) (evokes : List Evoke) (started : List Sbs) → IsTally (hows s.jobs) t → IsTally (hows s.jobs) u → IsTally (hows s.jobs) v
    → stopped ≡ filter (λ e. not (is_any_gone t s.started e.sbs)) s.stopped
    → evokes ≡ filter (λ e. not (is_any_gone u s.started e.sbs)) s.evokes
    → started ≡ filter (λ b. not (is_gone_by v b)) s.started
    → record s { started = started; stopped = stopped; evokes = evokes } ≡ leave s
leave-alike s t u v stopped evokes started of_t of_u of_v a b c =
    let stops : stopped ≡ filter (λ e. not (is_gone_by_name s e.sbs)) s.stopped = a ∙ filter_alike (λ (e : Stop). not (is_any_gone t s.started e.sbs)) (λ (e : Stop). not (is_gone_by_name s e.sbs)) (λ e. ap not (named-alike s t of_t e.sbs)) s.stopped in
    let requests : evokes ≡ filter (λ e. not (is_gone_by_name s e.sbs)) s.evokes = b ∙ filter_alike (λ (e : Evoke). not (is_any_gone u s.started e.sbs)) (λ (e : Evoke). not (is_gone_by_name s e.sbs)) (λ e. ap not (named-alike s u of_u e.sbs)) s.evokes in
    let left : started ≡ filter (λ b. not (is_gone s.jobs b)) s.started = c ∙ filter_alike (λ (b : Sbs). not (is_gone_by v b)) (λ (b : Sbs). not (is_gone s.jobs b)) (λ b. ap not (gone-alike s.jobs v of_v b)) s.started in
    rw (stops, requests, left) refl
