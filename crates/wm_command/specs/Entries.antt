-- The commands that change subsystem descriptions: each made of its keys' values,
-- and its values in the order of the table.
use Rattle.std.specs.Prelude.{List, [], ◌∷◌}
use Rattle.wm_base.specs.declared.refusal.Key.TheVariants as key
use Rattle.wm_law.specs.declared.command.Addjobqe.{Addjobqe}
use Rattle.wm_law.specs.declared.command.Addrtge.{Addrtge}
use Rattle.wm_law.specs.declared.command.Addaje.{Addaje}
use Rattle.wm_law.specs.declared.command.Addpje.{Addpje}
use Rattle.wm_law.specs.declared.command.Rmvjobqe.{Rmvjobqe}
use Rattle.wm_law.specs.declared.command.Rmvrtge.{Rmvrtge}
use Rattle.wm_law.specs.declared.command.Rmvaje.{Rmvaje}
use Rattle.wm_law.specs.declared.command.Rmvpje.{Rmvpje}
use Rattle.wm_command.specs.declared.value.Value.TheVariants as value
use Rattle.wm_command.specs.declared.value.Given.{Given}
use Rattle.wm_command.specs.Fields.{object_in, name_in, number_in, limit_in, flag_in, compare_in, class_in, maxpty_in, with_key, limit_value, maxpty_value}

unfoldable pub addjobqe : List Given → Addjobqe
addjobqe g =
    record {
      sbsd = object_in key.Sbsd g;
      jobq = object_in key.Jobq g;
      maxact = limit_in key.Maxact g;
      seqnbr = number_in key.Seqnbr g;
      maxpty = maxpty_in g;
    }

unfoldable pub addjobqe_values : Addjobqe → List Given
addjobqe_values c =
    with_key key.Sbsd (value.Object c.sbsd)
    ∷ with_key key.Jobq (value.Object c.jobq)
    ∷ with_key key.Maxact (limit_value c.maxact)
    ∷ with_key key.Seqnbr (value.Number c.seqnbr)
    ∷ maxpty_value key.Maxpty1 0 c.maxpty
    ∷ maxpty_value key.Maxpty2 1 c.maxpty
    ∷ maxpty_value key.Maxpty3 2 c.maxpty
    ∷ maxpty_value key.Maxpty4 3 c.maxpty
    ∷ maxpty_value key.Maxpty5 4 c.maxpty
    ∷ maxpty_value key.Maxpty6 5 c.maxpty
    ∷ maxpty_value key.Maxpty7 6 c.maxpty
    ∷ maxpty_value key.Maxpty8 7 c.maxpty
    ∷ maxpty_value key.Maxpty9 8 c.maxpty
    ∷ []

unfoldable pub addrtge : List Given → Addrtge
addrtge g =
    record {
      sbsd = object_in key.Sbsd g;
      seqnbr = number_in key.Seqnbr g;
      cmpval = compare_in key.Cmpval g;
      pgm = object_in key.Pgm g;
      cls = class_in key.Cls g;
      maxact = limit_in key.Maxact g;
      poolid = number_in key.Poolid g;
    }

unfoldable pub addrtge_values : Addrtge → List Given
addrtge_values c =
    with_key key.Sbsd (value.Object c.sbsd)
    ∷ with_key key.Seqnbr (value.Number c.seqnbr)
    ∷ with_key key.Cmpval (value.Compare c.cmpval)
    ∷ with_key key.Pgm (value.Object c.pgm)
    ∷ with_key key.Cls (value.Object c.cls)
    ∷ with_key key.Maxact (limit_value c.maxact)
    ∷ with_key key.Poolid (value.Number c.poolid)
    ∷ []

unfoldable pub addaje : List Given → Addaje
addaje g =
    record {
      sbsd = object_in key.Sbsd g;
      job = name_in key.Job g;
      jobd = object_in key.Jobd g;
    }

unfoldable pub addaje_values : Addaje → List Given
addaje_values c =
    with_key key.Sbsd (value.Object c.sbsd)
    ∷ with_key key.Job (value.Name c.job)
    ∷ with_key key.Jobd (value.Object c.jobd)
    ∷ []

unfoldable pub addpje : List Given → Addpje
addpje g =
    record {
      sbsd = object_in key.Sbsd g;
      pgm = object_in key.Pgm g;
      strjobs = flag_in key.Strjobs g;
      inljobs = number_in key.Inljobs g;
      threshold = number_in key.Threshold g;
      adljobs = number_in key.Adljobs g;
      maxjobs = limit_in key.Maxjobs g;
      maxuse = limit_in key.Maxuse g;
      wait = flag_in key.Wait g;
      cls = class_in key.Cls g;
      poolid = number_in key.Poolid g;
    }

unfoldable pub addpje_values : Addpje → List Given
addpje_values c =
    with_key key.Sbsd (value.Object c.sbsd)
    ∷ with_key key.Pgm (value.Object c.pgm)
    ∷ with_key key.Strjobs (value.Flag c.strjobs)
    ∷ with_key key.Inljobs (value.Number c.inljobs)
    ∷ with_key key.Threshold (value.Number c.threshold)
    ∷ with_key key.Adljobs (value.Number c.adljobs)
    ∷ with_key key.Maxjobs (limit_value c.maxjobs)
    ∷ with_key key.Maxuse (limit_value c.maxuse)
    ∷ with_key key.Wait (value.Flag c.wait)
    ∷ with_key key.Cls (value.Object c.cls)
    ∷ with_key key.Poolid (value.Number c.poolid)
    ∷ []

unfoldable pub rmvjobqe : List Given → Rmvjobqe
rmvjobqe g = record { sbsd = object_in key.Sbsd g; jobq = object_in key.Jobq g }

unfoldable pub rmvjobqe_values : Rmvjobqe → List Given
rmvjobqe_values c =
    with_key key.Sbsd (value.Object c.sbsd)
    ∷ with_key key.Jobq (value.Object c.jobq)
    ∷ []

unfoldable pub rmvrtge : List Given → Rmvrtge
rmvrtge g = record { sbsd = object_in key.Sbsd g; seqnbr = number_in key.Seqnbr g }

unfoldable pub rmvrtge_values : Rmvrtge → List Given
rmvrtge_values c =
    with_key key.Sbsd (value.Object c.sbsd)
    ∷ with_key key.Seqnbr (value.Number c.seqnbr)
    ∷ []

unfoldable pub rmvaje : List Given → Rmvaje
rmvaje g = record { sbsd = object_in key.Sbsd g; job = name_in key.Job g }

unfoldable pub rmvaje_values : Rmvaje → List Given
rmvaje_values c =
    with_key key.Sbsd (value.Object c.sbsd)
    ∷ with_key key.Job (value.Name c.job)
    ∷ []

unfoldable pub rmvpje : List Given → Rmvpje
rmvpje g = record { sbsd = object_in key.Sbsd g; pgm = object_in key.Pgm g }

unfoldable pub rmvpje_values : Rmvpje → List Given
rmvpje_values c =
    with_key key.Sbsd (value.Object c.sbsd)
    ∷ with_key key.Pgm (value.Object c.pgm)
    ∷ []
