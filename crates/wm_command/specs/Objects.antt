-- The commands that make objects: each made of its keys' values, and its values in the order of the table.
use Rattle.std.specs.Prelude.{List, [], ◌∷◌}
use Rattle.wm_base.specs.declared.refusal.Key.TheVariants as key
use Rattle.wm_law.specs.declared.command.Crtcls.{Crtcls}
use Rattle.wm_law.specs.declared.command.Crtpgmref.{Crtpgmref}
use Rattle.wm_law.specs.declared.command.Crtjobd.{Crtjobd}
use Rattle.wm_law.specs.declared.command.Crtsbsd.{Crtsbsd}
use Rattle.wm_command.specs.declared.row.Special.TheVariants as special
use Rattle.wm_command.specs.declared.value.Value.TheVariants as value
use Rattle.wm_command.specs.declared.value.Given.{Given}
use Rattle.wm_command.specs.Fields.{object_in, text_in, number_in, limit_in, flag_in, priority_in, is_word_in, maybe, with_key, limit_value, or_special}

unfoldable pub crtcls : List Given → Crtcls
crtcls g =
    record {
      cls = object_in key.Cls g;
      runpty = number_in key.Runpty g;
      timeslice = number_in key.Timeslice g;
      dftwait = limit_in key.Dftwait g;
    }

unfoldable pub crtcls_values : Crtcls → List Given
crtcls_values c =
    with_key key.Cls (value.Object c.cls)
    ∷ with_key key.Runpty (value.Number c.runpty)
    ∷ with_key key.Timeslice (value.Number c.timeslice)
    ∷ with_key key.Dftwait (limit_value c.dftwait)
    ∷ []

unfoldable pub crtpgmref : List Given → Crtpgmref
crtpgmref g = record { pgm = object_in key.Pgm g; path = text_in key.Path g }

unfoldable pub crtpgmref_values : Crtpgmref → List Given
crtpgmref_values c =
    with_key key.Pgm (value.Object c.pgm)
    ∷ with_key key.Path (value.Text c.path)
    ∷ []

unfoldable pub crtjobd : List Given → Crtjobd
crtjobd g =
    record {
      jobd = object_in key.Jobd g;
      jobq = object_in key.Jobq g;
      jobpty = priority_in key.Jobpty g;
      rtgdta = text_in key.Rtgdta g;
      rqsdta = maybe (is_word_in key.Rqsdta g) (text_in key.Rqsdta g);
      hold = flag_in key.Hold g;
    }

unfoldable pub crtjobd_values : Crtjobd → List Given
crtjobd_values c =
    with_key key.Jobd (value.Object c.jobd)
    ∷ with_key key.Jobq (value.Object c.jobq)
    ∷ with_key key.Jobpty (value.Number c.jobpty)
    ∷ with_key key.Rtgdta (value.Text c.rtgdta)
    ∷ with_key key.Rqsdta (or_special special.None value.Text c.rqsdta)
    ∷ with_key key.Hold (value.Flag c.hold)
    ∷ []

unfoldable pub crtsbsd : List Given → Crtsbsd
crtsbsd g = record { sbsd = object_in key.Sbsd g; maxjobs = limit_in key.Maxjobs g }

unfoldable pub crtsbsd_values : Crtsbsd → List Given
crtsbsd_values c =
    with_key key.Sbsd (value.Object c.sbsd)
    ∷ with_key key.Maxjobs (limit_value c.maxjobs)
    ∷ []
