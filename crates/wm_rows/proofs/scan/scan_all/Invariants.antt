use Rattle.std.proofs.Common.{◌≡◌, ◌≤◌, take, fold}
use Rattle.wm_rows.specs.Scan.{begun, scanned}
use Rattle.wm_rows.proofs.scan.scan_all.Given as goal

abbrev pub invariant-loop-byte : goal.invariant-loop-byte
invariant-loop-byte l = record { value : l.scan ≡ fold scanned begun (take l.byte-index l.text); short : l.scan.len ≤ l.byte-index }
