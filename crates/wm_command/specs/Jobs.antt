-- The commands that submit and control jobs: each made of its keys' values, and its values in the order of the table.
use Rattle.std.specs.Prelude.{List, [], ◌∷◌}
use Rattle.wm_base.specs.declared.refusal.Key.TheVariants as key
use Rattle.wm_law.specs.declared.command.Sbmjob.{Sbmjob}
use Rattle.wm_law.specs.declared.command.Chgjob.{Chgjob}
use Rattle.wm_law.specs.declared.command.Endjob.{Endjob}
use Rattle.wm_command.specs.declared.row.Special.TheVariants as special
use Rattle.wm_command.specs.declared.value.Value.TheVariants as value
use Rattle.wm_command.specs.declared.value.Given.{Given}
use Rattle.wm_command.specs.Fields.{object_in, name_in, text_in, number_in, flag_in, ending_in, job_in, priority_in, date_in, time_in, request_in, is_word_in, maybe, with_key, or_special}

unfoldable pub sbmjob : List Given → Sbmjob
sbmjob g =
    record {
      rqsdta = request_in g;
      job = maybe (is_word_in key.Job g) (name_in key.Job g);
      jobd = object_in key.Jobd g;
      jobq = maybe (is_word_in key.Jobq g) (object_in key.Jobq g);
      jobpty = maybe (is_word_in key.Jobpty g) (priority_in key.Jobpty g);
      rtgdta = maybe (is_word_in key.Rtgdta g) (text_in key.Rtgdta g);
      hold = maybe (is_word_in key.Hold g) (flag_in key.Hold g);
      scddate = date_in key.Scddate g;
      scdtime = time_in key.Scdtime g;
    }

unfoldable pub sbmjob_values : Sbmjob → List Given
sbmjob_values c =
    with_key key.Rqsdta (or_special special.Jobd value.Text c.rqsdta)
    ∷ with_key key.Job (or_special special.Jobd value.Name c.job)
    ∷ with_key key.Jobd (value.Object c.jobd)
    ∷ with_key key.Jobq (or_special special.Jobd value.Object c.jobq)
    ∷ with_key key.Jobpty (or_special special.Jobd value.Number c.jobpty)
    ∷ with_key key.Rtgdta (or_special special.Jobd value.Text c.rtgdta)
    ∷ with_key key.Hold (or_special special.Jobd value.Flag c.hold)
    ∷ with_key key.Scddate (value.Date c.scddate)
    ∷ with_key key.Scdtime (value.Time c.scdtime)
    ∷ []

unfoldable pub chgjob : List Given → Chgjob
chgjob g =
    record {
      job = job_in key.Job g;
      jobpty = maybe (is_word_in key.Jobpty g) (priority_in key.Jobpty g);
      jobq = maybe (is_word_in key.Jobq g) (object_in key.Jobq g);
      scddate = maybe (is_word_in key.Scddate g) (date_in key.Scddate g);
      scdtime = maybe (is_word_in key.Scdtime g) (time_in key.Scdtime g);
    }

unfoldable pub chgjob_values : Chgjob → List Given
chgjob_values c =
    with_key key.Job (value.Job c.job)
    ∷ with_key key.Jobpty (or_special special.Same value.Number c.jobpty)
    ∷ with_key key.Jobq (or_special special.Same value.Object c.jobq)
    ∷ with_key key.Scddate (or_special special.Same value.Date c.scddate)
    ∷ with_key key.Scdtime (or_special special.Same value.Time c.scdtime)
    ∷ []

unfoldable pub endjob : List Given → Endjob
endjob g =
    record {
      job = job_in key.Job g;
      option = ending_in key.Option g;
      delay = number_in key.Delay g;
    }

unfoldable pub endjob_values : Endjob → List Given
endjob_values c =
    with_key key.Job (value.Job c.job)
    ∷ with_key key.Option (value.Ending c.option)
    ∷ with_key key.Delay (value.Number c.delay)
    ∷ []
