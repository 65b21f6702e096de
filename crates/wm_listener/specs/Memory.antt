-- What is seen of a desk in memory.
use Rattle.std.specs.Prelude.{◌≡◌, ℕ, List, [], ◌∷◌, Option, Some, None, option_map, Result, Ok, Err, ⊤}
use Rattle.std.specs.Option.{option_and_then}
use Rattle.wm_outside.specs.Memory.{source_left, source_calls, sink_calls, sink_written}
use Rattle.wm_outside.specs.declared.memory.source.MemSource.{MemSource}
use Rattle.wm_outside.specs.declared.memory.sink.MemSink.{MemSink}
use Rattle.wm_traits.specs.declared.fault.Failed.{Failed}
use Rattle.wm_traits.specs.Told.{told_if}
use Rattle.wm_listener.specs.Had.{Had}
use Rattle.wm_listener.specs.declared.memory.desk.MemDesk.{MemDesk}
use Rattle.wm_listener.specs.declared.memory.desk.Returned.{Returned}
use Rattle.wm_listener.specs.declared.next.Next.{Next}
use Rattle.wm_listener.specs.declared.next.Next.TheVariants.{Here, Dry, Closed}

-- a connection that was given back, with what was written
abbrev pub had_with : Returned → List ℕ → Had
had_with r written =
    record {
      given = source_left r.given.value;
      left = source_left r.input;
      written = written;
      read_faults = (source_calls r.input).failed;
      write_faults = (sink_calls r.output).failed;
    }

-- the connection, where its sink tells what was written
abbrev pub had_of : Returned → Option Had
had_of r = option_map (had_with r) (sink_written r.output)

-- a connection before others, where both are told
abbrev pub joined : Option Had → Option (List Had) → Option (List Had)
joined None rest = None
joined (Some first) rest = option_map (λ (xs : List Had). first ∷ xs) rest

-- all of some connections, where each is told
abbrev pub had_all : List Returned → Option (List Had)
had_all [] = Some []
had_all (r ∷ rs) = joined (had_of r) (had_all rs)

-- the connections that the desk has had, where they are told
abbrev pub desk_had : MemDesk → Option (List Had)
desk_had d = option_and_then (λ (rs : List Returned). had_all rs) (told_if d.tells d.had.items)

-- the connections that were given back
abbrev pub desk_returned : MemDesk → List Returned
desk_returned d = d.had.items

abbrev pub desk_faults : MemDesk → ℕ
desk_faults d = d.faults

abbrev pub desk_dries : MemDesk → ℕ
desk_dries d = d.dries

-- what there was to read of the connection in hand
abbrev pub desk_hand : MemDesk → Option (Option (List ℕ))
desk_hand d = option_map (λ given. Some (source_left given.value)) d.hand

-- nothing was written of it, and neither side has counted a fault
pub record IsUnused (c : MemSource × MemSink) : Type 0 where
  pub reads : (source_calls c.0).failed ≡ 0
  pub writes : (sink_calls c.1).failed ≡ 0
  pub written : sink_written c.1 ≡ Some []

-- the connection that is given is unused
abbrev pub IsUnusedNext : Result (Next MemSource MemSink) Failed → Type 0
IsUnusedNext (Ok (Here input output)) = IsUnused (input, output)
IsUnusedNext (Ok Dry) = ⊤
IsUnusedNext (Ok Closed) = ⊤
IsUnusedNext (Err fault) = ⊤
