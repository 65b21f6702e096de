use Rattle.std.proofs.Common.{◌≡◌, drop}
use Rattle.wm_clwords.specs.Reading.{run, begun, with_front}
use Rattle.wm_clwords.specs.Reader.{state_of, marks_of}
use Rattle.wm_clwords.proofs.StepLemmas.{IsAt}
use Rattle.wm_clwords.proofs.command.read_items.Given as goal

abbrev pub invariant-loop-index : goal.invariant-loop-index
invariant-loop-index l =
    record {
      same : with_front (marks_of l.reader) (run (state_of l.reader) l.index (drop l.index l.bytes)) ≡ run begun 0 l.bytes;
      place : IsAt l.index (state_of l.reader);
    }
