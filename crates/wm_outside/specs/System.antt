-- What is seen of the adapters.
use Rattle.std.specs.Prelude.{ℕ, Option, Some, None}
use Rattle.wm_outside.specs.declared.system.clock.SysClock.{SysClock}
use Rattle.wm_outside.specs.declared.system.reader.ReadSource.{ReadSource}
use Rattle.wm_outside.specs.declared.system.writer.WriteSink.{WriteSink}

abbrev pub reader_of : {R : Type 0} → ReadSource R → R
reader_of s = s.reader

abbrev pub reader_faults : {R : Type 0} → ReadSource R → ℕ
reader_faults s = s.faults

abbrev pub writer_of : {W : Type 0} → WriteSink W → W
writer_of s = s.writer

abbrev pub writer_faults : {W : Type 0} → WriteSink W → ℕ
writer_faults s = s.faults

-- the moment that was given last
abbrev pub clock_last : {R : Type 0} → SysClock R → ℕ
clock_last c = c.last

-- the moment that was read, or else the last one
abbrev pub or_last : Option ℕ → ℕ → ℕ
or_last (Some read) last = read
or_last None last = last
