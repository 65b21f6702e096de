use Rattle.std.proofs.Common.{◌≡◌, ◌∙◌, Some, find, map, ap, sym, subst, List}
use Rattle.std.specs.Option.{option_copied}
use Rattle.std.specs.Prelude.{Option}
use Rattle.wm_law.specs.declared.job.Job.{Job}
use Rattle.wm_law.specs.declared.job.Wish.{Wish}
use Rattle.wm_law.specs.Jobs.{active_at}
use Rattle.wm_law.specs.Reports.{hand_job, is_to_kill, with_kill}
use Rattle.wm_law.specs.Sound.{IsSound}
use Rattle.wm_law.specs.Wishes.{handed_wish, with_wish}
use Rattle.wm_law.proofs.Members.{found_among}
use Rattle.wm_core.specs.MachineInside.{Seen, state_of}
use Rattle.wm_core.proofs.Kills.{kill_handed}
use Rattle.wm_core.proofs.machine.Machine.hand.Goals as goal

pub returns-clause-state : goal.returns-clause-state
returns-clause-state c =
    let s = state_of c.self.inside in
    let m = c.args.monitor in
    let job : Job = c.in-Some.job.now in
    let found : find (is_to_kill m) s.jobs ≡ Some job = sym c.first_kill.ensures.first ∙ ap option_copied c.in-Some.is in
    let sound : IsSound s = subst (λ (t : Seen). IsSound t.state) (sym c.self.view_is) c.requires in
    let jobs : c.set_wish.new.self.jobs ≡ map (active_at job.serial with_kill) s.jobs =
    c.set_wish.ensures.jobs ∙ ap (λ (w : Wish). map (active_at job.serial (with_wish w)) c.reserve.new.self.jobs) c.handed_wish-wish.ensures
    ∙ ap (λ (js : List Job). map (active_at job.serial (with_wish (handed_wish job.wish))) js) c.reserve.ensures.jobs
    ∙ kill_handed s.jobs job sound.numbered.serials.distinct (found_among (is_to_kill m) s.jobs job found).0 in
    rw (← c.self.view_is, c.set_wish.ensures.clock, c.reserve.ensures.clock, c.set_wish.ensures.next_serial, c.reserve.ensures.next_serial, c.set_wish.ensures.next_place, c.reserve.ensures.next_place)
    (ap (λ (js : List Job). record s { jobs = js }) jobs ∙ sym (ap (λ (o : Option Job). (hand_job s m o).state) found))
