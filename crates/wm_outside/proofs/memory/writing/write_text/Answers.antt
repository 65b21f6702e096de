use Rattle.std.proofs.Common.{◌<◌, ◌++◌, length, take, drop, ap, ◌∙◌, arith, length-drop}
use Rattle.std.proofs.lemmas.Grind.{common_steps}
use Rattle.wm_outside.specs.ChangeLog.{Reading, read}
use Rattle.wm_outside.specs.Writing.{said_by, taken_by}
use Rattle.wm_outside.proofs.Texts.{text_dropped}
use Rattle.wm_outside.proofs.Writing.{starts_further, said_fits, taken_fits, goes_on, reads_next, text_on, text_in_parts}
use Rattle.wm_outside.proofs.memory.writing.write_text.Goals as goal

pub loop-left-preserved : goal.loop-left-preserved
loop-left-preserved c =
    let inv = c.loop-left.invariant in
    let r = read c.loop-left.bytes.items in
    let left = c.loop-left.left.now in
    let ahead = c.loop-left.ahead.now in
    let sign = c.next_sign-sign.result in
    let text = r.text ++ take (said_by sign) left in
    let next = c.in_ok-write_sign.ensures.ok ∙ reads_next r left ahead sign c.next_sign-sign.ensures.next (ap (λ (x : Reading). x.ahead) inv.so_far) in
    record {
      so_far = rw (c.behind-ahead.ensures, c.taken_by.ensures) (text_on (read c.args.bytes.now.items) r (read c.write_sign.new.bytes.items) text ahead (drop (taken_by sign) ahead) inv.so_far next);
      text = rw (ap (λ (x : Reading). x.text) next, c.behind-left.ensures, c.said_by.ensures) (text_in_parts (said_by sign) _ r.text left inv.text);
      is_text = rw c.behind-left.ensures (text_dropped c.said_by.result left inv.is_text);
      begins = starts_further _ _ _ c.in_ok-write_sign.ensures.begins inv.begins;
    }

pub loop-left-smaller : goal.loop-left-smaller
loop-left-smaller c =
    let left = c.loop-left.left.now in
    let ahead = c.loop-left.ahead.now in
    let sign = c.next_sign-sign.result in
    let next = c.next_sign-sign.ensures.next in
    let some : 0 < length left = grind (arith, common_steps) in
    rw (c.behind-left.ensures, c.behind-ahead.ensures, c.said_by.ensures, c.taken_by.ensures)
    (omega (arith, length-drop (said_by sign) left, length-drop (taken_by sign) ahead, said_fits left ahead sign some next, taken_fits left ahead sign next, goes_on left ahead sign next))
