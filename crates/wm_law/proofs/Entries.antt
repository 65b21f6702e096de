-- What holds of a subsystem description still does where an entry comes or goes, and where objects come.
use Rattle.std.proofs.Common.{◌≡◌, ◌⊎◌, ℕ, suc, ◌≤◌, ◌&&◌, ◌||◌, not, Bool, true, false, cond, List, [], ◌∷◌, length, map, nat_eq, nat_le, nat_lt, None, refl, sym, ap, subst, ◌∙◌, inl, inr, arith}
use Rattle.std.specs.Cmp.Lexicographic.{pointwise, slice_cmp, texts_ties}
use Rattle.std.specs.List.{list_any}
use Rattle.std.specs.Option.{IsSome}
use Rattle.std.specs.Ordering.{nat_cmp}
use Rattle.std.specs.declared.cmp.Ordering.TheVariants.{Less}
use Rattle.std.proofs.lemmas.Bool.Decides.{nat_tests}
use Rattle.std.proofs.lemmas.Cmp.{nat_list_cmp_total}
use Rattle.std.proofs.lemmas.List.Kept.{AllPairs-filter}
use Rattle.std.proofs.lemmas.Bool.{ltb-false, or_parts, not-false}
use Rattle.wm_base.specs.declared.limit.Limit.{Limit}
use Rattle.wm_base.specs.Limit.{is_below}
use Rattle.wm_base.specs.declared.qname.QName.{QName}
use Rattle.wm_base.specs.declared.refusal.Refusal.TheVariants.{SbsActive}
use Rattle.wm_base.proofs.Lists.{length-filter_few}
use Rattle.wm_desc.proofs.Tables.{qname_ties, qname_total, test_fails}
use Rattle.wm_desc.specs.declared.description.Sbsd.{Sbsd}
use Rattle.wm_desc.specs.declared.entry.AutoEntry.{AutoEntry}
use Rattle.wm_desc.specs.declared.entry.PreEntry.{PreEntry}
use Rattle.wm_desc.specs.declared.entry.QueueEntry.{QueueEntry}
use Rattle.wm_desc.specs.declared.entry.RouteEntry.{RouteEntry}
use Rattle.wm_desc.specs.declared.objects.Objects.{Objects}
use Rattle.wm_desc.specs.Objects.{empty_sbsd, with_auto, with_pre, with_queue, with_route, without_auto, without_pre, without_queue, without_route}
use Rattle.wm_desc.specs.Refusals.{any_not_last, auto_tests, first_refusal, has_auto, has_pre, has_queue, is_above, is_any, is_any_before, is_full, pre_tests, queue_tests, relation_tests, route_tests, seq_used}
use Rattle.wm_desc.specs.Sorted.{place_of}
use Rattle.wm_desc.specs.Table.{has_object, is_qcmd, object_named, qname_cmp, same_qname}
use Rattle.wm_law.specs.Objects.{IsDescription, IsProgram}
use Rattle.wm_law.specs.Laws.{IsIn}
use Rattle.wm_law.proofs.Distinct.{distinct_inserted, distinct_left}
use Rattle.wm_law.proofs.InOrder.{in_inserted, inserted_length, number_added, sorted_added}
use Rattle.wm_law.proofs.Members.{left_in, of_mapped}
use Rattle.wm_law.proofs.Named.{is_named, own_name}

-- where no element passes a test, none that stands there does
none_in : {X : Type 0} (p : X → Bool) (xs : List X) (x : X) → list_any p xs ≡ false → IsIn x xs → p x ≡ false
none_in p [] x e i = absurd i
none_in p (y ∷ ys) x e (inl same) = ap p same ∙ (or_parts (p y) (list_any p ys) e).0
none_in p (y ∷ ys) x e (inr i) = none_in p ys x (or_parts (p y) (list_any p ys) e).1 i

not_fed : (queue : QName) (entries : List QueueEntry) → has_queue queue entries ≡ false → IsIn queue (map (λ e. e.jobq) entries) → ⊥
not_fed queue entries e i =
    let m = of_mapped (λ (x : QueueEntry). x.jobq) entries queue i in
    let no = none_in (λ (x : QueueEntry). same_qname x.jobq queue) entries m.0 e m.1 in
    let yes : same_qname m.0.jobq queue ≡ true = subst (λ (n : QName). same_qname n queue ≡ true) m.2 (own_name queue) in
    absurd (cc)

-- a list that wasn't full has room for one more
pub one_more : {X : Type 0} (most : ℕ) (xs ys : List X) → is_full most xs ≡ false → length ys ≡ suc (length xs) → length ys ≤ most
one_more most xs ys room e = let short : nat_le most (length xs) ≡ false = room in grind (arith, nat_tests)

left_by : {X : Type 0} (t : Bool) (x : X) (ys xs : List X) → length ys ≤ length xs → length (cond t (x ∷ ys) ys) ≤ length (x ∷ xs)
left_by true x ys xs h = omega arith
left_by false x ys xs h = omega arith

-- the objects that were there are
pub record IsStillThere (a b : Objects) : Type 0 where
  pub jobqs : (q : QName) → IsSome (object_named q a.jobqs) → IsSome (object_named q b.jobqs)
  pub classes : (q : QName) → IsSome (object_named q a.classes) → IsSome (object_named q b.classes)
  pub programs : (q : QName) → IsSome (object_named q a.programs) → IsSome (object_named q b.programs)
  pub jobds : (q : QName) → IsSome (object_named q a.jobds) → IsSome (object_named q b.jobds)

program_still : (a b : Objects) (pgm : QName) → IsStillThere a b → IsProgram a pgm → IsProgram b pgm
program_still a b pgm still (inl e) = inl e
program_still a b pgm still (inr there) = inr (still.programs pgm there)

-- a description stays where the objects are still there
pub description_still : (a b : Objects) (d : Sbsd) → IsStillThere a b → IsDescription a d → IsDescription b d
description_still a b d still h = record {
  queues = record { sorted = h.queues.sorted; once = h.queues.once; queues = λ e i. still.jobqs e.jobq (h.queues.queues e i) };
  routes = record { programs = λ e i. program_still a b e.pgm still (h.routes.programs e i); any_last = h.routes.any_last };
  autos = record { sorted = h.autos.sorted; jobds = λ e i. still.jobds e.jobd (h.autos.jobds e i) };
  pres = record {
    sorted = h.pres.sorted;
    programs = λ e i. still.programs e.pgm (h.pres.programs e i);
    classes = λ e i. still.classes e.cls (h.pres.classes e i);
    related = h.pres.related;
  };
  sizes = h.sizes;
}

-- one without entries has nothing to keep
pub empty_description : (objects : Objects) (maxjobs : Limit) → IsDescription objects (empty_sbsd maxjobs)
empty_description objects maxjobs = record {
  queues = record { sorted = λ i j e less h. absurd (omega arith); once = tt; queues = λ e i. absurd i };
  routes = record { programs = λ e i. absurd i; any_last = λ e f i. absurd i };
  autos = record { sorted = λ i j e less h. absurd (omega arith); jobds = λ e i. absurd i };
  pres = record { sorted = λ i j e less h. absurd (omega arith); programs = λ e i. absurd i; classes = λ e i. absurd i; related = λ e i. absurd i };
  sizes = record { queues = omega arith; routes = omega arith; autos = omega arith; pres = omega arith };
}

-- ADDJOBQE
pub queue_in : (objects : Objects) (entry : QueueEntry) (d : Sbsd) → first_refusal (queue_tests objects entry d) ≡ None → IsDescription objects d → IsDescription objects (with_queue entry d)
queue_in objects entry d accepted h =
    let tests = queue_tests objects entry d in
    let jobq : not (has_object entry.jobq objects.jobqs) ≡ false = test_fails tests 0 SbsActive accepted in
    let unfed : has_queue entry.jobq d.queues ≡ false = test_fails tests 1 SbsActive accepted in
    let new : seq_used (λ (e : QueueEntry). e.seq) entry.seq d.queues ≡ false = test_fails tests 2 SbsActive accepted in
    let room : is_full 100 d.queues ≡ false = test_fails tests 3 SbsActive accepted in
    let there : IsSome (object_named entry.jobq objects.jobqs) = sym (is_named entry.jobq objects.jobqs) ∙ not-false _ jobq in
    let place = place_of (λ (e : QueueEntry). e.seq) nat_cmp entry.seq d.queues in
    record {
      queues = record {
        sorted = number_added (λ (e : QueueEntry). e.seq) entry d.queues h.queues.sorted new;
        once = distinct_inserted (λ (e : QueueEntry). e.jobq) d.queues place entry (not_fed entry.jobq d.queues unfed) h.queues.once;
        queues = λ n i. (elim (in_inserted d.queues place entry n i) as (λ _. IsSome (object_named n.jobq objects.jobqs)) [
          | inl same ↦ subst (λ (x : QueueEntry). IsSome (object_named x.jobq objects.jobqs)) (sym same) there
          | inr was ↦ h.queues.queues n was
        ]);
      };
      routes = h.routes;
      autos = h.autos;
      pres = h.pres;
      sizes = record { queues = one_more 100 d.queues _ room (inserted_length d.queues place entry); routes = h.sizes.routes; autos = h.sizes.autos; pres = h.sizes.pres };
    }

-- RMVJOBQE
pub queue_out : (objects : Objects) (queue : QName) (d : Sbsd) → IsDescription objects d → IsDescription objects (without_queue queue d)
queue_out objects queue d h =
    let stays = λ (e : QueueEntry). not (same_qname e.jobq queue) in
    let fewer = length-filter_few stays d.queues in
    let was = h.sizes.queues in
    record {
      queues = record {
        sorted = AllPairs-filter (λ (x y : QueueEntry). nat_cmp x.seq y.seq ≡ Less) stays d.queues h.queues.sorted;
        once = distinct_left (λ (e : QueueEntry). e.jobq) stays d.queues h.queues.once;
        queues = λ n i. h.queues.queues n (left_in stays d.queues n i);
      };
      routes = h.routes;
      autos = h.autos;
      pres = h.pres;
      sizes = record { queues = omega arith; routes = h.sizes.routes; autos = h.sizes.autos; pres = h.sizes.pres };
    }

of_either : (a b : Bool) → (a || b) ≡ true → (a ≡ true) ⊎ (b ≡ true)
of_either true b e = inl refl
of_either false b e = inr e

program_there : (objects : Objects) (pgm : QName) → (is_qcmd pgm || has_object pgm objects.programs) ≡ true → IsProgram objects pgm
program_there objects pgm e =
    elim (of_either (is_qcmd pgm) (has_object pgm objects.programs) e) as (λ _. IsProgram objects pgm) [
      | inl qcmd ↦ inl qcmd
      | inr has ↦ inr (sym (is_named pgm objects.programs) ∙ has)
    ]

not_before : (any less : Bool) → any ≡ true → (any && less) ≡ false → less ≡ false
not_before true less a e = e
not_before false less a e = absurd (cc)

last_of : (e f : RouteEntry) → is_any e.cmp ≡ true → is_any_before e f ≡ false → f.seq ≤ e.seq
last_of e f a none = ltb-false e.seq f.seq (not_before (is_any e.cmp) (nat_lt e.seq f.seq) a none)

-- *ANY among the entries, and one more that doesn't take it its place
any_last_in : (x : RouteEntry) (xs : List RouteEntry) → any_not_last x xs ≡ false → ((e f : RouteEntry) → IsIn e xs → IsIn f xs → is_any e.cmp ≡ true → f.seq ≤ e.seq) → (e f : RouteEntry) → (e ≡ x) ⊎ IsIn e xs → (f ≡ x) ⊎ IsIn f xs → is_any e.cmp ≡ true → f.seq ≤ e.seq
any_last_in x xs none h e f (inl a) (inl b) k =
    let same : f.seq ≡ e.seq = ap (λ (n : RouteEntry). n.seq) (b ∙ sym a) in
    omega arith
any_last_in x xs none h e f (inl a) (inr j) k =
    let n = or_parts (is_any_before x f) (is_any_before f x) (none_in (λ (other : RouteEntry). is_any_before x other || is_any_before other x) xs f none j) in
    last_of e f k (ap (λ (y : RouteEntry). is_any_before y f) a ∙ n.0)
any_last_in x xs none h e f (inr i) (inl b) k =
    let n = or_parts (is_any_before x e) (is_any_before e x) (none_in (λ (other : RouteEntry). is_any_before x other || is_any_before other x) xs e none i) in
    last_of e f k (ap (is_any_before e) b ∙ n.1)
any_last_in x xs none h e f (inr i) (inr j) k = h e f i j k

-- ADDRTGE
pub route_in : (objects : Objects) (entry : RouteEntry) (d : Sbsd) → first_refusal (route_tests objects entry d) ≡ None → IsDescription objects d → IsDescription objects (with_route entry d)
route_in objects entry d accepted h =
    let tests = route_tests objects entry d in
    let pgm : not (is_qcmd entry.pgm || has_object entry.pgm objects.programs) ≡ false = test_fails tests 0 SbsActive accepted in
    let last : any_not_last entry d.routes ≡ false = test_fails tests 3 SbsActive accepted in
    let room : is_full 999 d.routes ≡ false = test_fails tests 4 SbsActive accepted in
    let there : IsProgram objects entry.pgm = program_there objects entry.pgm (not-false _ pgm) in
    let place = place_of (λ (e : RouteEntry). e.seq) nat_cmp entry.seq d.routes in
    record {
      queues = h.queues;
      routes = record {
        programs = λ n i. (elim (in_inserted d.routes place entry n i) as (λ _. IsProgram objects n.pgm) [
          | inl same ↦ subst (λ (x : RouteEntry). IsProgram objects x.pgm) (sym same) there
          | inr was ↦ h.routes.programs n was
        ]);
        any_last = λ e f i j. any_last_in entry d.routes last h.routes.any_last e f (in_inserted d.routes place entry e i) (in_inserted d.routes place entry f j);
      };
      autos = h.autos;
      pres = h.pres;
      sizes = record { queues = h.sizes.queues; routes = one_more 999 d.routes _ room (inserted_length d.routes place entry); autos = h.sizes.autos; pres = h.sizes.pres };
    }

-- RMVRTGE
pub route_out : (objects : Objects) (seq : ℕ) (d : Sbsd) → IsDescription objects d → IsDescription objects (without_route seq d)
route_out objects seq d h =
    let stays = λ (e : RouteEntry). not (nat_eq e.seq seq) in
    let fewer = length-filter_few stays d.routes in
    let was = h.sizes.routes in
    record {
      queues = h.queues;
      routes = record {
        programs = λ n i. h.routes.programs n (left_in stays d.routes n i);
        any_last = λ e f i j. h.routes.any_last e f (left_in stays d.routes e i) (left_in stays d.routes f j);
      };
      autos = h.autos;
      pres = h.pres;
      sizes = record { queues = h.sizes.queues; routes = omega arith; autos = h.sizes.autos; pres = h.sizes.pres };
    }

-- ADDAJE
pub auto_in : (objects : Objects) (entry : AutoEntry) (d : Sbsd) → first_refusal (auto_tests objects entry d) ≡ None → IsDescription objects d → IsDescription objects (with_auto entry d)
auto_in objects entry d accepted h =
    let tests = auto_tests objects entry d in
    let jobd : not (has_object entry.jobd objects.jobds) ≡ false = test_fails tests 0 SbsActive accepted in
    let new : has_auto entry.job d.autos ≡ false = test_fails tests 1 SbsActive accepted in
    let room : is_full 100 d.autos ≡ false = test_fails tests 2 SbsActive accepted in
    let there : IsSome (object_named entry.jobd objects.jobds) = sym (is_named entry.jobd objects.jobds) ∙ not-false _ jobd in
    let place = place_of (λ (e : AutoEntry). e.job) (slice_cmp nat_cmp) entry.job d.autos in
    record {
      queues = h.queues;
      routes = h.routes;
      autos = record {
        sorted = sorted_added (λ (e : AutoEntry). e.job) (slice_cmp nat_cmp) nat_list_cmp_total (pointwise nat_eq) texts_ties entry d.autos h.autos.sorted new;
        jobds = λ n i. (elim (in_inserted d.autos place entry n i) as (λ _. IsSome (object_named n.jobd objects.jobds)) [
          | inl same ↦ subst (λ (x : AutoEntry). IsSome (object_named x.jobd objects.jobds)) (sym same) there
          | inr was ↦ h.autos.jobds n was
        ]);
      };
      pres = h.pres;
      sizes = record { queues = h.sizes.queues; routes = h.sizes.routes; autos = one_more 100 d.autos _ room (inserted_length d.autos place entry); pres = h.sizes.pres };
    }

-- RMVAJE
pub auto_out : (objects : Objects) (job : List ℕ) (d : Sbsd) → IsDescription objects d → IsDescription objects (without_auto job d)
auto_out objects job d h =
    let stays = λ (e : AutoEntry). not (pointwise nat_eq e.job job) in
    let fewer = length-filter_few stays d.autos in
    let was = h.sizes.autos in
    record {
      queues = h.queues;
      routes = h.routes;
      autos = record {
        sorted = AllPairs-filter (λ (x y : AutoEntry). slice_cmp nat_cmp x.job y.job ≡ Less) stays d.autos h.autos.sorted;
        jobds = λ n i. h.autos.jobds n (left_in stays d.autos n i);
      };
      pres = h.pres;
      sizes = record { queues = h.sizes.queues; routes = h.sizes.routes; autos = omega arith; pres = h.sizes.pres };
    }

-- an entry that was accepted breaks no relation, whatever is tested before and behind
related_by : (entry : PreEntry) (d : Sbsd) (objects : Objects) → first_refusal (pre_tests objects entry d) ≡ None → first_refusal (relation_tests entry) ≡ None
related_by entry d objects accepted =
    let tests = pre_tests objects entry d in
    let inljobs : nat_lt entry.inljobs entry.threshold ≡ false = test_fails tests 3 SbsActive accepted in
    let maxjobs : is_above entry.inljobs entry.maxjobs ≡ false = test_fails tests 4 SbsActive accepted in
    let adljobs : not (is_below entry.adljobs entry.maxjobs) ≡ false = test_fails tests 5 SbsActive accepted in
    rw (inljobs, maxjobs, adljobs) refl

-- ADDPJE
pub pre_in : (objects : Objects) (entry : PreEntry) (d : Sbsd) → first_refusal (pre_tests objects entry d) ≡ None → IsDescription objects d → IsDescription objects (with_pre entry d)
pre_in objects entry d accepted h =
    let tests = pre_tests objects entry d in
    let pgm : not (has_object entry.pgm objects.programs) ≡ false = test_fails tests 0 SbsActive accepted in
    let cls : not (has_object entry.cls objects.classes) ≡ false = test_fails tests 1 SbsActive accepted in
    let new : has_pre entry.pgm d.pres ≡ false = test_fails tests 2 SbsActive accepted in
    let room : is_full 100 d.pres ≡ false = test_fails tests 6 SbsActive accepted in
    let program : IsSome (object_named entry.pgm objects.programs) = sym (is_named entry.pgm objects.programs) ∙ not-false _ pgm in
    let class : IsSome (object_named entry.cls objects.classes) = sym (is_named entry.cls objects.classes) ∙ not-false _ cls in
    let place = place_of (λ (e : PreEntry). e.pgm) qname_cmp entry.pgm d.pres in
    record {
      queues = h.queues;
      routes = h.routes;
      autos = h.autos;
      pres = record {
        sorted = sorted_added (λ (e : PreEntry). e.pgm) qname_cmp qname_total same_qname qname_ties entry d.pres h.pres.sorted new;
        programs = λ n i. (elim (in_inserted d.pres place entry n i) as (λ _. IsSome (object_named n.pgm objects.programs)) [
          | inl same ↦ subst (λ (x : PreEntry). IsSome (object_named x.pgm objects.programs)) (sym same) program
          | inr was ↦ h.pres.programs n was
        ]);
        classes = λ n i. (elim (in_inserted d.pres place entry n i) as (λ _. IsSome (object_named n.cls objects.classes)) [
          | inl same ↦ subst (λ (x : PreEntry). IsSome (object_named x.cls objects.classes)) (sym same) class
          | inr was ↦ h.pres.classes n was
        ]);
        related = λ n i. (elim (in_inserted d.pres place entry n i) as (λ _. first_refusal (relation_tests n) ≡ None) [
          | inl same ↦ subst (λ (x : PreEntry). first_refusal (relation_tests x) ≡ None) (sym same) (related_by entry d objects accepted)
          | inr was ↦ h.pres.related n was
        ]);
      };
      sizes = record { queues = h.sizes.queues; routes = h.sizes.routes; autos = h.sizes.autos; pres = one_more 100 d.pres _ room (inserted_length d.pres place entry) };
    }

-- RMVPJE
pub pre_out : (objects : Objects) (pgm : QName) (d : Sbsd) → IsDescription objects d → IsDescription objects (without_pre pgm d)
pre_out objects pgm d h =
    let stays = λ (e : PreEntry). not (same_qname e.pgm pgm) in
    let fewer = length-filter_few stays d.pres in
    let was = h.sizes.pres in
    record {
      queues = h.queues;
      routes = h.routes;
      autos = h.autos;
      pres = record {
        sorted = AllPairs-filter (λ (x y : PreEntry). qname_cmp x.pgm y.pgm ≡ Less) stays d.pres h.pres.sorted;
        programs = λ n i. h.pres.programs n (left_in stays d.pres n i);
        classes = λ n i. h.pres.classes n (left_in stays d.pres n i);
        related = λ n i. h.pres.related n (left_in stays d.pres n i);
      };
      sizes = record { queues = h.sizes.queues; routes = h.sizes.routes; autos = h.sizes.autos; pres = omega arith };
    }
