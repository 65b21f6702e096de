use Rattle.std.proofs.Common.{ap, ◌∙◌}
use Rattle.std.specs.Prelude.{not, nat_eq, false}
use Rattle.std.proofs.lemmas.Map.Views.{any-filter_same}
use Rattle.wm_desc.specs.Sorted.{has_key}
use Rattle.wm_ordered.specs.Ordered.{key_of}
use Rattle.wm_test_parts.proofs.maps.prestart_pair.PrestartPair.put.Goals as goal

pub insert-requires-clause-new : goal.insert-requires-clause-new
insert-requires-clause-new c =
    let key = c.new-key.result in
    ap (has_key key_of nat_eq key) c.remove.ensures.items ∙ any-filter_same (λ job. nat_eq (key_of job) key) (λ job. not (nat_eq (key_of job) key)) false (λ job is. ap not is) c.reserve.new.self.items
