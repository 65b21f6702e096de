-- The commands that control subsystems, queues and prestart jobs: each made of its keys' values,
-- and its values in the order of the table.
use Rattle.std.specs.Prelude.{List, [], ◌∷◌}
use Rattle.wm_base.specs.declared.refusal.Key.TheVariants as key
use Rattle.wm_law.specs.declared.command.Endsbs.{Endsbs}
use Rattle.wm_law.specs.declared.command.Strpj.{Strpj}
use Rattle.wm_law.specs.declared.command.Endpj.{Endpj}
use Rattle.wm_law.specs.declared.command.EvokeCommand.{EvokeCommand}
use Rattle.wm_law.specs.declared.command.Pwrdwnsys.{Pwrdwnsys}
use Rattle.wm_command.specs.declared.row.Special.TheVariants as special
use Rattle.wm_command.specs.declared.value.Value.TheVariants as value
use Rattle.wm_command.specs.declared.value.Given.{Given}
use Rattle.wm_command.specs.Fields.{object_in, name_in, number_in, ending_in, is_word_in, maybe, with_key, or_special}

unfoldable pub endsbs : List Given → Endsbs
endsbs g =
    record {
      sbs = name_in key.Sbs g;
      option = ending_in key.Option g;
      delay = maybe (is_word_in key.Delay g) (number_in key.Delay g);
    }

unfoldable pub endsbs_values : Endsbs → List Given
endsbs_values c =
    with_key key.Sbs (value.Name c.sbs)
    ∷ with_key key.Option (value.Ending c.option)
    ∷ with_key key.Delay (or_special special.Nolimit value.Number c.delay)
    ∷ []

unfoldable pub strpj : List Given → Strpj
strpj g = record { sbs = name_in key.Sbs g; pgm = object_in key.Pgm g }

unfoldable pub strpj_values : Strpj → List Given
strpj_values c =
    with_key key.Sbs (value.Name c.sbs)
    ∷ with_key key.Pgm (value.Object c.pgm)
    ∷ []

unfoldable pub endpj : List Given → Endpj
endpj g =
    record {
      sbs = name_in key.Sbs g;
      pgm = object_in key.Pgm g;
      option = ending_in key.Option g;
      delay = maybe (is_word_in key.Delay g) (number_in key.Delay g);
    }

unfoldable pub endpj_values : Endpj → List Given
endpj_values c =
    with_key key.Sbs (value.Name c.sbs)
    ∷ with_key key.Pgm (value.Object c.pgm)
    ∷ with_key key.Option (value.Ending c.option)
    ∷ with_key key.Delay (or_special special.Nolimit value.Number c.delay)
    ∷ []

unfoldable pub evoke : List Given → EvokeCommand
evoke g = record { sbs = name_in key.Sbs g; pgm = object_in key.Pgm g }

unfoldable pub evoke_values : EvokeCommand → List Given
evoke_values c =
    with_key key.Sbs (value.Name c.sbs)
    ∷ with_key key.Pgm (value.Object c.pgm)
    ∷ []

unfoldable pub pwrdwnsys : List Given → Pwrdwnsys
pwrdwnsys g = record { option = ending_in key.Option g; delay = maybe (is_word_in key.Delay g) (number_in key.Delay g) }

unfoldable pub pwrdwnsys_values : Pwrdwnsys → List Given
pwrdwnsys_values c =
    with_key key.Option (value.Ending c.option)
    ∷ with_key key.Delay (or_special special.Nolimit value.Number c.delay)
    ∷ []
