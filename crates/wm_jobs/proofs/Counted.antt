-- Where a job stands by the number of serials before its own.
use Rattle.std.proofs.Common.{◌≡◌, ℕ, ◌<◌, List, length, get_or, ap, sym, ◌∙◌, subst}
use Rattle.std.specs.Ordering.{nat_cmp, ordering_reverse}
use Rattle.std.specs.declared.cmp.Ordering.TheVariants.{Less, Equal}
use Rattle.std.proofs.lemmas.Cmp.{nat_cmp_total}
use Rattle.std.specs.Cmp.{tied_itself}
use Rattle.wm_desc.specs.Place.{IsAt}
use Rattle.wm_desc.specs.Sorted.{IsSortedOnce}
use Rattle.wm_law.specs.declared.job.Job.{Job}
use Rattle.wm_jobs.specs.Table.{serial_of}

-- where the job at a place has the serial, it is the one of that serial
pub counted : (jobs : List Job) (s i : ℕ) → IsSortedOnce serial_of nat_cmp jobs → i < length jobs → ((d : Job) → (get_or jobs i d).serial ≡ s) → IsAt serial_of nat_cmp s jobs i
counted jobs s i sorted lt here = record {
  in_range = lt;
  before = λ j d le below. subst (λ n. nat_cmp (get_or jobs j d).serial n ≡ Less) (here d) (sorted j i d below lt);
  here = λ d. subst (λ n. nat_cmp n s ≡ Equal) (sym (here d)) (tied_itself nat_cmp_total s);
  after = λ j d above in_range.
      nat_cmp_total.antisymm (get_or jobs j d).serial s ∙ ap ordering_reverse (subst (λ n. nat_cmp n (get_or jobs j d).serial ≡ Less) (here d) (sorted i j d above in_range));
}
