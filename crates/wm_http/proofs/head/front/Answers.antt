use Rattle.std.proofs.Common.{rules, sym}
use Rattle.std.proofs.lemmas.List.{length-take-le}
use Rattle.wm_http.proofs.head.front.Goals as goal

pub slice_bounds-result-end : goal.slice_bounds-result-end
slice_bounds-result-end c = sym (length-take-le 8192 c.args.bytes.now (search rules))
