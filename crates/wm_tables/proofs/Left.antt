-- Entries and held queues that are taken out.
use Rattle.std.proofs.Common.{◌≡◌, ℕ, ◌||◌, not, nat_eq, Bool, true, false, cond, List, [], ◌∷◌, Option, Some, None, map, refl, sym, ap, subst, ◌∙◌, inl, inr}
use Rattle.std.specs.Cmp.Lexicographic.{pointwise, slice_cmp}
use Rattle.std.specs.List.{find, list_any}
use Rattle.std.specs.Option.{option_map, option_map_or}
use Rattle.std.specs.Ordering.{nat_cmp}
use Rattle.std.proofs.lemmas.Cmp.{nat_cmp_total, nat_list_cmp_total}
use Rattle.std.proofs.lemmas.Slice.Eq.{bytes_eq-Decides}
use Rattle.std.proofs.lemmas.Bool.{eqb-true, false_from_ne_true, not_from_false}
use Rattle.wm_base.specs.declared.qname.QName.{QName}
use Rattle.wm_base.specs.declared.refusal.Kind.TheVariants as kind
use Rattle.wm_base.specs.declared.refusal.Refusal.{Refusal}
use Rattle.wm_base.specs.declared.refusal.Refusal.TheVariants.{NoObject, SbsActive}
use Rattle.wm_base.proofs.Tests.{unrefused}
use Rattle.wm_desc.specs.declared.description.Sbsd.{Sbsd}
use Rattle.wm_desc.specs.declared.entry.AutoEntry.{AutoEntry}
use Rattle.wm_desc.specs.declared.entry.PreEntry.{PreEntry}
use Rattle.wm_desc.specs.declared.entry.QueueEntry.{QueueEntry}
use Rattle.wm_desc.specs.declared.entry.RouteEntry.{RouteEntry}
use Rattle.wm_desc.specs.Objects.{without_auto, without_pre, without_queue, without_route}
use Rattle.wm_desc.specs.Refusals.{by_description, has_auto, has_pre, seq_used}
use Rattle.wm_desc.specs.Sorted.{IsSortedOnce, removed}
use Rattle.wm_desc.specs.Table.{object_named, qname_cmp, same_qname}
use Rattle.wm_desc.proofs.Tables.{one_name, qname_total}
use Rattle.wm_law.specs.Choice.{entry_for}
use Rattle.wm_law.specs.Kept.{IsDistinct}
use Rattle.wm_law.specs.Laws.{IsIn}
use Rattle.wm_law.specs.Making.{unless_in_use}
use Rattle.wm_law.specs.Queues.{own_name}
use Rattle.wm_law.specs.declared.state.State.{State}
use Rattle.wm_law.proofs.Members.{found_among}
use Rattle.wm_rows.specs.Rows.{auto_entry_row, held_row, pre_entry_row, queue_entry_row, route_entry_row}
use Rattle.wm_tables.proofs.StepEntries.{one_distinct}
use Rattle.wm_tables.proofs.OneMoreRow.{IsLess, less_filtered}

-- A description that is named

named_by : {V : Type 0} (name : QName) (x : QName × V) (xs : List (QName × V)) (d : V) (t : Bool) → same_qname x.0 name ≡ t → option_map (λ o. o.1) (cond t (Some x) (find (λ o. same_qname o.0 name) xs)) ≡ Some d → (object_named name xs ≡ Some d → IsIn (name, d) xs) → IsIn (name, d) (x ∷ xs)
named_by name x xs d true e h next =
    let named : name ≡ x.0 = sym (one_name x.0 name e) in
    let value : d ≡ x.1 = cc in
    inl (ap (λ (n : QName). (n, d)) named ∙ ap (λ (v : _). (x.0, v)) value)
named_by name x xs d false e h next = inr (next h)

pub named_there : {V : Type 0} (name : QName) (xs : List (QName × V)) (d : V) → object_named name xs ≡ Some d → IsIn (name, d) xs
named_there name [] d e = absurd (cc)
named_there name (x ∷ xs) d e = named_by name x xs d (same_qname x.0 name) refl e (named_there name xs d)

-- a description that isn't lacking, and what doesn't refuse the change of it
pub record IsDescribed (s : State) (sbsd : QName) (refusal : Sbsd → Option Refusal) : Type 0 where
  pub description : Sbsd
  pub named : object_named sbsd s.objects.sbsds ≡ Some description
  pub accepted : refusal description ≡ None

described_by : (s : State) (sbsd : QName) (refusal : Sbsd → Option Refusal) (o : Option Sbsd) → object_named sbsd s.objects.sbsds ≡ o → option_map_or refusal o (Some (NoObject kind.Sbsd)) ≡ None → IsDescribed s sbsd refusal
described_by s sbsd refusal None e h = absurd (cc)
described_by s sbsd refusal (Some d) e h = record { description = d; named = e; accepted = h }

pub described : (s : State) (sbsd : QName) (refusal : Sbsd → Option Refusal) → unless_in_use s sbsd (by_description s.objects sbsd refusal) ≡ None → IsDescribed s sbsd refusal
described s sbsd refusal e = described_by s sbsd refusal (object_named sbsd s.objects.sbsds) refl (unrefused _ SbsActive (by_description s.objects sbsd refusal) e).1

-- What is taken out was there

-- the first that passes
pub record IsFound {X : Type 0} (p : X → Bool) (xs : List X) : Type 0 where
  pub item : X
  pub found : find p xs ≡ Some item

found_by : {X : Type 0} (p : X → Bool) (x : X) (xs : List X) (t : Bool) → p x ≡ t → (t || list_any p xs) ≡ true → (list_any p xs ≡ true → IsFound p xs) → IsFound p (x ∷ xs)
found_by p x xs true e h next = record { item = x; found = ap (λ (t : Bool). cond t (Some x) (find p xs)) e }
found_by p x xs false e h next = let m = next h in record { item = m.item; found = ap (λ (t : Bool). cond t (Some x) (find p xs)) e ∙ m.found }

pub any_found : {X : Type 0} (p : X → Bool) (xs : List X) → list_any p xs ≡ true → IsFound p xs
any_found p [] h = absurd (cc)
any_found p (x ∷ xs) h = found_by p x xs (p x) refl h (any_found p xs)

-- a test that holds of no other
not_by : (t : Bool) → (t ≡ true → ⊥) → not t ≡ true
not_by t h = not_from_false t (false_from_ne_true t h)

-- the entry for a queue
pub queue_less : (sbsd jobq : QName) (d : Sbsd) (e : QueueEntry) → IsSortedOnce (λ n. n.seq) nat_cmp d.queues → IsDistinct (map (λ n. n.jobq) d.queues) → entry_for jobq d ≡ Some e → IsLess (queue_entry_row sbsd e) (map (queue_entry_row sbsd) d.queues) (map (queue_entry_row sbsd) (without_queue jobq d).queues)
queue_less sbsd jobq d e sorted once found =
    let among = found_among (λ (n : QueueEntry). same_qname n.jobq jobq) d.queues e found in
    let is : e.jobq ≡ jobq = one_name e.jobq jobq among.1 in
    less_filtered (queue_entry_row sbsd) (λ (n : QueueEntry). n.seq) nat_cmp nat_cmp_total (λ (n : QueueEntry). not (same_qname n.jobq jobq)) d.queues e sorted among.0 (ap not among.1)
    (λ n k other. not_by (same_qname n.jobq jobq) (λ yes. other (ap (λ (m : QueueEntry). m.seq) (one_distinct (λ (m : QueueEntry). m.jobq) d.queues n e once k among.0 (one_name n.jobq jobq yes ∙ sym is)))))

-- that of a number
pub route_less : (sbsd : QName) (seq : ℕ) (d : Sbsd) → IsSortedOnce (λ n. n.seq) nat_cmp d.routes → seq_used (λ n. n.seq) seq d.routes ≡ true → (e : RouteEntry) × (e.seq ≡ seq) × IsLess (route_entry_row sbsd e) (map (route_entry_row sbsd) d.routes) (map (route_entry_row sbsd) (without_route seq d).routes)
route_less sbsd seq d sorted used =
    let test = λ (n : RouteEntry). nat_eq n.seq seq in
    let m = any_found test d.routes used in
    let among = found_among test d.routes m.item m.found in
    let is : m.item.seq ≡ seq = eqb-true m.item.seq seq among.1 in (
      m.item,
      is,
      less_filtered (route_entry_row sbsd) (λ (n : RouteEntry). n.seq) nat_cmp nat_cmp_total (λ (n : RouteEntry). not (nat_eq n.seq seq)) d.routes m.item sorted among.0 (ap not among.1)
          (λ n k other. not_by (nat_eq n.seq seq) (λ yes. other (eqb-true n.seq seq yes ∙ sym is))),
    )

-- that of a job's name
pub auto_less : (sbsd : QName) (job : List ℕ) (d : Sbsd) → IsSortedOnce (λ n. n.job) (slice_cmp nat_cmp) d.autos → has_auto job d.autos ≡ true → (e : AutoEntry) × (e.job ≡ job) × IsLess (auto_entry_row sbsd e) (map (auto_entry_row sbsd) d.autos) (map (auto_entry_row sbsd) (without_auto job d).autos)
auto_less sbsd job d sorted used =
    let test = λ (n : AutoEntry). pointwise nat_eq n.job job in
    let m = any_found test d.autos used in
    let among = found_among test d.autos m.item m.found in
    let is : m.item.job ≡ job = (bytes_eq-Decides m.item.job job).0 among.1 in (
      m.item,
      is,
      less_filtered (auto_entry_row sbsd) (λ (n : AutoEntry). n.job) (slice_cmp nat_cmp) nat_list_cmp_total (λ (n : AutoEntry). not (pointwise nat_eq n.job job)) d.autos m.item sorted among.0 (ap not among.1)
          (λ n k other. not_by (pointwise nat_eq n.job job) (λ yes. other ((bytes_eq-Decides n.job job).0 yes ∙ sym is))),
    )

-- that of a program
pub pre_less : (sbsd pgm : QName) (d : Sbsd) → IsSortedOnce (λ n. n.pgm) qname_cmp d.pres → has_pre pgm d.pres ≡ true → (e : PreEntry) × (e.pgm ≡ pgm) × IsLess (pre_entry_row sbsd e) (map (pre_entry_row sbsd) d.pres) (map (pre_entry_row sbsd) (without_pre pgm d).pres)
pre_less sbsd pgm d sorted used =
    let test = λ (n : PreEntry). same_qname n.pgm pgm in
    let m = any_found test d.pres used in
    let among = found_among test d.pres m.item m.found in
    let is : m.item.pgm ≡ pgm = one_name m.item.pgm pgm among.1 in (
      m.item,
      is,
      less_filtered (pre_entry_row sbsd) (λ (n : PreEntry). n.pgm) qname_cmp qname_total (λ (n : PreEntry). not (same_qname n.pgm pgm)) d.pres m.item sorted among.0 (ap not among.1)
          (λ n k other. not_by (same_qname n.pgm pgm) (λ yes. other (one_name n.pgm pgm yes ∙ sym is))),
    )

-- a held queue
pub held_less : (queue : QName) (held : List QName) → IsSortedOnce own_name qname_cmp held → list_any (λ q. same_qname q queue) held ≡ true → IsLess (held_row queue) (map held_row held) (map held_row (removed own_name same_qname queue held))
held_less queue held sorted used =
    let test = λ (q : QName). same_qname q queue in
    let m = any_found test held used in
    let among = found_among test held m.item m.found in
    let is : m.item ≡ queue = one_name m.item queue among.1 in
    subst (λ (q : QName). IsLess (held_row q) (map held_row held) (map held_row (removed own_name same_qname queue held))) is
    (less_filtered held_row own_name qname_cmp qname_total (λ (q : QName). not (same_qname q queue)) held m.item sorted among.0 (ap not among.1)
    (λ q k other. not_by (same_qname q queue) (λ yes. other (one_name q queue yes ∙ sym is))))
