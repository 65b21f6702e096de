use Rattle.std.proofs.Common.{◌≡◌, ℕ, cond, length, is_some, ap, arith, nat_eq}
use Rattle.std.specs.Cmp.{unsigned_ties}
use Rattle.std.proofs.lemmas.Cmp.{nat_cmp_total}
use Rattle.wm_desc.specs.Sorted.{removed}
use Rattle.wm_ordered.specs.Ordered.{key_of, value_at}
use Rattle.wm_ordered.proofs.Keyed.{length-removed}
use Rattle.wm_jobs.proofs.counts.take_serial.Goals as goal

pub returns-clause-nodes : goal.returns-clause-nodes
returns-clause-nodes c =
    let less = length-removed nat_cmp_total nat_eq unsigned_ties c.args.serial c.args.serials.now.items c.len.ensures.sorted in
    let left : length c.remove.new.self.items ≡ length (removed key_of nat_eq c.args.serial c.args.serials.now.items) = ap length c.remove.ensures.items in
    let bit : ◌≡◌ {A = ℕ} (cond (is_some c.remove.result) 1 0) (cond (is_some (value_at nat_eq c.args.serial c.args.serials.now.items)) 1 0) = ap (λ o. cond (is_some o) 1 0) c.remove.ensures.value in
    omega (arith, less, left, bit, c.remove.ensures.spare)
