use Rattle.std.proofs.Common.{◌∙◌, ◌+◌, ap, sym, drop, get_or, arith}
use Rattle.std.proofs.lemmas.List.{drop_more}
use Rattle.wm_clwords.specs.Reading.{run, with_front}
use Rattle.wm_clwords.specs.Reader.{state_of, marks_of}
use Rattle.wm_clwords.proofs.StepLemmas.{IsAt-step, run-step}
use Rattle.wm_clwords.proofs.command.read_items.Goals as goal

pub loop-index-preserved : goal.loop-index-preserved
loop-index-preserved c =
    let reader = c.loop-index.reader in
    let place = c.loop-index.index in
    let bytes = c.args.bytes.now in
    let went = c.in_ok-step.ensures in
    record {
      same = sym (run-step (state_of reader) place (get_or bytes place 0) (drop (place + 1) bytes) (marks_of reader) (state_of c.step.new.self) (marks_of c.step.new.self) went)
          ∙ ap (λ l. with_front (marks_of reader) (run (state_of reader) place l)) (sym (drop_more bytes place 0 (omega arith))) ∙ c.loop-index.invariant.same;
      place = IsAt-step (state_of reader) place (get_or bytes place 0) (marks_of reader) (state_of c.step.new.self) (marks_of c.step.new.self) c.loop-index.invariant.place went;
    }
