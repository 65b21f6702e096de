use Rattle.std.proofs.Common.{rules}
use Rattle.std.proofs.lemmas.List.Sorted.{IsPartitionPoint-from_clause}
use Rattle.wm_indexes.specs.FullNames.{is_below}
use Rattle.wm_indexes.proofs.FullRows.{parted-below}
use Rattle.wm_indexes.proofs.full_names.begin.Goals as goal

-- the closure tests a row's name against the one that is sought
pub returns-clause-parts : goal.returns-clause-parts
returns-clause-parts c =
    IsPartitionPoint-from_clause (is_below c.args.job.now) c.args.rows.now _ c.partition_point.ensures.partitioned (parted-below c.args.job.now c.args.rows.now c.requires) (λ a r f' called. (search rules, search rules))
