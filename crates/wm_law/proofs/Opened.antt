-- The opening commands keep their forms and ranges, and what they make, written out.
use Rattle.std.proofs.Common.{◌≡◌, ℤ, List, [], ◌∷◌, refl, arith, Bool, true, false, cond, Some, None}
use Rattle.std.specs.List.{All, AllByRecursion}
use Rattle.std.proofs.lemmas.List.Elements.{All-cons, All-nil}
use Rattle.wm_base.specs.declared.limit.Limit.TheVariants.{NoMax}
use Rattle.wm_base.specs.declared.qname.QName.{QName}
use Rattle.wm_desc.specs.declared.description.Sbsd.{Sbsd}
use Rattle.wm_desc.specs.declared.objects.Objects.{Objects}
use Rattle.wm_desc.specs.Opening.{qbatch, qdftjobd, echo}
use Rattle.wm_law.specs.declared.command.Command.{Command}
use Rattle.wm_law.specs.declared.state.State.{State}
use Rattle.wm_law.specs.Fit.{IsCommand, IsQName, IsJobDescription}
use Rattle.wm_law.specs.Making.{class_of, jobd_of, queue_entry_of, route_entry_of}
use Rattle.wm_law.specs.Opening.{crtcls_qbatch, crtpgmref_echo, crtjobd, crtjobd_qdftjobd, crtjobd_qbatch, addjobqe_qbatch, addrtge_qbatch, opening_commands, empty, opening}
use Rattle.std.specs.Option.{option_map}
use Rattle.wm_desc.specs.Table.{object_named, same_qname}

batch_named : IsQName qbatch
batch_named = record { lib = refl; name = refl }

-- CRTJOBD with its defaults
described : (name : QName) → IsQName name → IsJobDescription (crtjobd name)
described name named = record { jobd = named; jobq = batch_named; jobpty = record { least = omega arith; most = omega arith }; rtgdta = refl; rqsdta = tt; ranges = refl }

each : (cs : List Command) → AllByRecursion IsCommand cs → All IsCommand cs
each [] h = All-nil IsCommand
each (c ∷ cs) h = All-cons IsCommand c cs h.0 (each cs h.1)

pub commands_fit : All IsCommand opening_commands
commands_fit =
    each opening_commands (
      (batch_named, refl),
      (
        (record { lib = refl; name = refl }, refl, refl),
        (
          batch_named,
          (
            described qdftjobd (record { lib = refl; name = refl }),
            (
              described qbatch batch_named,
              (
                (batch_named, refl),
                (
                  record { sbsd = batch_named; jobq = batch_named; maxpty = refl; ranges = refl },
                  (record { sbsd = batch_named; pgm = record { lib = refl; name = refl }; cls = batch_named; cmpval = tt; ranges = refl }, tt),
                ),
              ),
            ),
          ),
        ),
      ),
    )

abbrev pub batch_sbsd : Sbsd
batch_sbsd = record { maxjobs = NoMax; queues = queue_entry_of addjobqe_qbatch ∷ []; routes = route_entry_of addrtge_qbatch ∷ []; autos = []; pres = [] }

abbrev pub opening_objects : Objects
opening_objects =
    record {
      classes = (qbatch, class_of crtcls_qbatch) ∷ [];
      jobqs = (qbatch, record {}) ∷ [];
      programs = (echo, record { path = crtpgmref_echo.path }) ∷ [];
      jobds = (qbatch, jobd_of crtjobd_qbatch) ∷ (qdftjobd, jobd_of crtjobd_qdftjobd) ∷ [];
      sbsds = (qbatch, batch_sbsd) ∷ [];
    }

-- no command is refused, so the state opens with the objects of all, each list in the order of its names
abbrev pub opened : ℤ → State
opened offset = record (empty offset) { objects = opening_objects }

pub opening_is : (offset : ℤ) → opening offset ≡ opened offset
unfolding opening
opening_is offset = refl

only_pair : (t : Bool) (d : Sbsd) → option_map (λ (p : QName × Sbsd). p.1) (cond t (Some (qbatch, batch_sbsd)) None) ≡ Some d → d ≡ batch_sbsd
only_pair true d e = cc
only_pair false d e = absurd (cc)

-- the one description of the opening objects
pub only_sbsd : (sbs : QName) (d : Sbsd) → object_named sbs opening_objects.sbsds ≡ Some d → d ≡ batch_sbsd
only_sbsd sbs d e = only_pair (same_qname qbatch sbs) d e
