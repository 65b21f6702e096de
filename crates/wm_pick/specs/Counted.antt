-- Keys, and the hows that name them.
use Rattle.std.specs.Prelude.{ℕ, Bool, List, count_by}
use Rattle.std.specs.declared.cmp.Ordering.{Ordering}
use Rattle.wm_base.specs.declared.job.How.{How}
use Rattle.wm_law.specs.Counts.{is_in_sbs, is_from_queue, is_from_priority, is_from_pre, is_by_route}
use Rattle.wm_pick.specs.declared.counted.Counted.{Counted}
use Rattle.wm_pick.specs.declared.counted.Counted.TheVariants.{Sbs, Queue, Pty, Route, Pre}
use Rattle.wm_pick.specs.contracts.counted.CountedOrd.TheImpl as by_cmp
use Rattle.wm_pick.specs.contracts.counted.CountedPartialEq.TheImpl as by_eq

-- whether two keys are one, as `==` answers
abbrev pub same_counted : Counted → Counted → Bool
same_counted = (by_eq.ghosts).eq

-- which of two keys is the lesser, as `cmp` answers
abbrev pub counted_cmp : Counted → Counted → Ordering
counted_cmp = (by_cmp.ghosts).cmp

-- whether a how names a key
abbrev pub counted : How → Counted → Bool
counted how (Sbs sbs) = is_in_sbs sbs how
counted how (Queue sbs jobq) = is_from_queue sbs jobq how
counted how (Pty sbs jobq pty) = is_from_priority sbs jobq pty how
counted how (Route sbs route) = is_by_route sbs route how
counted how (Pre sbs pgm) = is_from_pre sbs pgm how

-- how many hows name a key
abbrev pub number_of : Counted → List How → ℕ
number_of key hows = count_by (λ how. counted how key) hows
