use Rattle.std.proofs.Common.{◌≡◌, map, take}
use Rattle.httparse.specs.Spans.{header_bytes}
use Rattle.wm_http.specs.Fields.{fields_in}
use Rattle.wm_http.proofs.fields.fields_at.Given as goal

abbrev pub invariant-loop-header : goal.invariant-loop-header
invariant-loop-header l = l.fields ≡ fields_in (map (header_bytes l.text) (take l.header-index l.headers))
