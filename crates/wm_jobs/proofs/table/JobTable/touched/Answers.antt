use Rattle.std.proofs.Common.{◌≡◌, List, length, take, filter, ap, sym, subst}
use Rattle.wm_jobs.specs.declared.touched.Touched.{Touched}
use Rattle.wm_jobs.specs.Marked.{undone, is_untouched, marked_by}
use Rattle.wm_jobs.specs.Table.{Table}
use Rattle.wm_jobs.proofs.Undone.{marked-length, untouched-same}
use Rattle.wm_jobs.proofs.table.JobTable.touched.Goals as goal

pub returns-clause-others : goal.returns-clause-others
returns-clause-others c =
    let t = c.self.inside in
    subst (λ (v : Table). filter (is_untouched c.deref.result.now) (take (length v.marked.jobs) v.jobs) ≡ filter (is_untouched c.deref.result.now) v.marked.jobs) c.self.view_is
    (subst (λ (ts : List Touched). filter (is_untouched ts) (take (length ((marked_by t.mark t.touched.items t.jobs.items).jobs)) t.jobs.items) ≡ filter (is_untouched ts) ((marked_by t.mark t.touched.items t.jobs.items).jobs)) (sym c.deref.ensures.value) (untouched-same t.mark t.touched.items t.jobs.items c.self.invariant.marked.there))

pub returns-clause-before : goal.returns-clause-before
returns-clause-before c =
    let t = c.self.inside in
    subst (λ (v : Table). v.marked.jobs ≡ undone c.deref.result.now (take (length v.marked.jobs) v.jobs)) c.self.view_is
    (subst (λ (ts : List Touched). undone t.touched.items (take t.mark.jobs t.jobs.items) ≡ undone ts (take (length (undone t.touched.items (take t.mark.jobs t.jobs.items))) t.jobs.items)) (sym c.deref.ensures.value)
    (ap (λ n. undone t.touched.items (take n t.jobs.items)) (sym (marked-length t.mark t.touched.items t.jobs.items c.self.invariant.marked.there))))
