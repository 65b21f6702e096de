-- What is seen of a source, a sink and a clock in memory.
use Rattle.std.specs.Prelude.{ℕ, List, drop, Option}
use Rattle.wm_outside.specs.declared.memory.calls.Calls.{Calls}
use Rattle.wm_outside.specs.declared.memory.source.MemSource.{MemSource}
use Rattle.wm_outside.specs.declared.memory.sink.MemSink.{MemSink}
use Rattle.wm_outside.specs.declared.memory.clock.MemClock.{MemClock}
use Rattle.wm_traits.specs.Told.{told_if}

-- the bytes that are left
abbrev pub source_left : MemSource → List ℕ
source_left s = drop s.at s.bytes.items

-- the most bytes that a read gives
abbrev pub source_most : MemSource → ℕ
source_most s = s.most

abbrev pub source_calls : MemSource → Calls
source_calls s = s.calls

-- what was written, where it is told
abbrev pub sink_written : MemSink → Option (List ℕ)
sink_written s = told_if s.tells s.bytes.items

-- the most bytes that a write takes
abbrev pub sink_most : MemSink → ℕ
sink_most s = s.most

abbrev pub sink_calls : MemSink → Calls
sink_calls s = s.calls

-- the moment that the next call gives
abbrev pub clock_coming : MemClock → ℕ
clock_coming c = c.next

-- the seconds from one call to the next
abbrev pub clock_step : MemClock → ℕ
clock_step c = c.step
