use Rattle.std.proofs.Common.{◌&&◌, ◌||◌, sym, ap, ◌∙◌}
use Rattle.wm_desc.specs.Sorted.{has_key, place_of}
use Rattle.wm_ordered.specs.Ordered.{key_of}
use Rattle.wm_restart.proofs.Tests.{list_any-insert}
use Rattle.wm_restart.proofs.marks.mark.Goals as goal

pub returns-then-marks : goal.returns-then-marks
returns-then-marks g c = λ k.
    let old = c.args.used.now.items in
    ap (λ items. has_key key_of g.K.PartialEq.eq k items) c.insert.ensures.items
    ∙ (list_any-insert (λ pair. g.K.PartialEq.eq (key_of pair) k) old (place_of key_of g.K.Ord.cmp c.args.number old) (c.args.number, tt)
    ∙ ap (λ b. (b && g.K.PartialEq.eq c.args.number k) || has_key key_of g.K.PartialEq.eq k old) (sym c.if-marks.true))
