use Rattle.std.proofs.Common.{◌≡◌, take}
use Rattle.wm_clwords.specs.CallReading.{texts_of}
use Rattle.wm_clwords.proofs.called.texts.Given as goal

abbrev pub invariant-loop-value : goal.invariant-loop-value
invariant-loop-value l = l.texts.items ≡ texts_of (take l.value-index l.values)
