-- A new prestart job has its order, where the objects are sound.
use Rattle.std.proofs.Common.{◌≡◌, Bool, true, cond, List, [], ◌∷◌, Option, Some, None, refl, sym, ap, subst, ◌∙◌, inl, inr, ℕ}
use Rattle.std.specs.List.{find}
use Rattle.std.specs.Ordering.{is_eq}
use Rattle.std.specs.Option.{IsSome, option_and_then}
use Rattle.std.specs.declared.cmp.Ordering.TheVariants.{Less}
use Rattle.wm_base.specs.declared.job.Class.{Class}
use Rattle.wm_base.specs.declared.job.StartOrder.{StartOrder}
use Rattle.wm_base.specs.declared.qname.QName.{QName}
use Rattle.wm_desc.specs.declared.description.Program.{Program}
use Rattle.wm_desc.specs.declared.description.Sbsd.{Sbsd}
use Rattle.wm_desc.specs.declared.entry.PreEntry.{PreEntry}
use Rattle.wm_desc.specs.Sorted.{IsSortedOnce}
use Rattle.wm_desc.specs.Table.{object_named, qname_cmp, same_qname}
use Rattle.wm_desc.proofs.Tables.{qname_ties, qname_total}
use Rattle.wm_law.specs.declared.job.Job.{Job}
use Rattle.wm_law.specs.declared.state.State.{State}
use Rattle.wm_law.specs.Laws.{IsIn}
use Rattle.wm_law.specs.Launch.{order_of, order_pre, order_with, pre_entry_for}
use Rattle.wm_law.specs.Objects.{AreSound}
use Rattle.wm_law.specs.Prestart.{new_pre_job}
use Rattle.wm_law.proofs.InOrder.{first_below, rest_sorted}
use Rattle.wm_law.proofs.Members.{All-in}
use Rattle.wm_law.proofs.Rounds.{itself}
use Rattle.wm_law.proofs.Supplies.{IsSuppliable}

-- each entry is the one of its program
pub pre_found : (xs : List PreEntry) (e : PreEntry) → IsSortedOnce (λ x. x.pgm) qname_cmp xs → IsIn e xs → find (λ x. same_qname x.pgm e.pgm) xs ≡ Some e
pre_found [] e s i = absurd i
pre_found (x ∷ xs) e s (inl same) =
    let its : same_qname x.pgm e.pgm ≡ true = subst (λ (y : PreEntry). same_qname y.pgm e.pgm ≡ true) same (itself e.pgm) in
    ap (λ (b : Bool). cond b (Some x) (find (λ (y : PreEntry). same_qname y.pgm e.pgm) xs)) its ∙ ap Some (sym same)
pre_found (x ∷ xs) e s (inr i) =
    let less : qname_cmp x.pgm e.pgm ≡ Less = All-in (λ (y : PreEntry). qname_cmp x.pgm y.pgm ≡ Less) xs e (first_below (λ (y : PreEntry). y.pgm) qname_cmp qname_total x xs s) i in
    let other = qname_ties x.pgm e.pgm ∙ ap is_eq less in
    ap (λ (b : Bool). cond b (Some x) (find (λ (y : PreEntry). same_qname y.pgm e.pgm) xs)) other ∙ pre_found xs e (rest_sorted (λ (y : PreEntry). y.pgm) qname_cmp qname_total x xs s) i

with_both : (pre : Bool) (j : Job) (args : List (List ℕ)) (p : Option Program) (c : Option Class) → IsSome p → IsSome c → IsSome (order_with pre j args p c)
with_both pre j args None c h k = absurd (cc)
with_both pre j args (Some p) None h k = absurd (cc)
with_both pre j args (Some p) (Some c) h k = refl

-- a prestart job that is made has its order
pub pre_ordered : (q : QName) (d : Sbsd) (e : PreEntry) (t : State) → IsSuppliable q d e t → AreSound t.objects → IsSome (order_of t (new_pre_job t q e.pgm))
pre_ordered q d e t can h =
    let j = new_pre_job t q e.pgm in
    let pres = (h.described q d can.described).pres in
    let same : order_of t j ≡ order_pre t j (Some e) =
    ap (λ (o : Option Sbsd). order_pre t j (option_and_then (pre_entry_for e.pgm) o)) can.described
    ∙ ap (order_pre t j) (pre_found d.pres e pres.sorted can.entered) in
    subst (λ (o : Option StartOrder). IsSome o) (sym same) (with_both true j [] (object_named e.pgm t.objects.programs) (object_named e.cls t.objects.classes) (pres.programs e can.entered) (pres.classes e can.entered))
