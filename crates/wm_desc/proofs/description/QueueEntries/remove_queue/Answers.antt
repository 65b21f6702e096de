use Rattle.std.proofs.Common.{◌≡◌, rules, sym, subst, ◌∙◌, not, ap}
use Rattle.std.specs.List.{filter}
use Rattle.std.specs.Ordering.{nat_cmp}
use Rattle.std.proofs.lemmas.List.Kept.{AllPairs-filter}
use Rattle.std.specs.declared.cmp.Ordering.TheVariants.{Less}
use Rattle.wm_desc.specs.declared.entry.QueueEntry.{QueueEntry}
use Rattle.wm_desc.specs.Sorted.{IsSortedOnce}
use Rattle.wm_desc.specs.Table.{same_qname}
use Rattle.wm_desc.proofs.Places.{filter-retain}
use Rattle.wm_desc.proofs.description.QueueEntries.remove_queue.Goals as goal

-- the closure keeps the entries for other queues
kept : (c : goal.After-retain) → c.retain.new.self.items ≡ filter (λ e. not (same_qname e.jobq c.args.jobq.now)) c.self.inside.items.items
kept c =
    filter-retain _ (λ e. not (same_qname e.jobq c.args.jobq.now)) _ (λ x b g called. (search rules, search rules)) c.self.inside.items.items c.retain.new.self.items c.retain.ensures.filtered

pub returns : goal.returns
returns c = kept c ∙ ap (filter (λ e. not (same_qname e.jobq c.args.jobq.now))) c.self.view_is

pub invariant_of-self : goal.invariant_of-self
invariant_of-self c =
    let seq = λ (e : QueueEntry). e.seq in
    subst (IsSortedOnce seq nat_cmp) (sym (kept c)) (AllPairs-filter (λ x y. nat_cmp x.seq y.seq ≡ Less) (λ e. not (same_qname e.jobq c.args.jobq.now)) _ c.self.invariant)
