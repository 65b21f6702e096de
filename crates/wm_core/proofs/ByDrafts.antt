-- The making of autostart jobs by drafts is that by entries, and changes jobs, numbers and serials alone.
use Rattle.std.proofs.Common.{◌≡◌, ℕ, ◌+◌, ◌<◌, ◌≤◌, take, get_or, Bool, true, false, not, cond, List, [], ◌∷◌, ◌++◌, length, fold, Option, Some, None, suc, option_map, refl, ap, sym, ◌∙◌, arith, nat_le, nat_lt, is_some, min, ◌-◌}
use Rattle.std.specs.List.{cons_option}
use Rattle.std.specs.Prelude.{option_to_list}
use Rattle.std.proofs.Math.Nat.{min-le_left, min-le_right}
use Rattle.std.proofs.lemmas.Bool.Decides.{nat_tests}
use Rattle.std.proofs.lemmas.List.{take_more}
use Rattle.std.proofs.lemmas.List.Elements.{filter_map-append}
use Rattle.std.proofs.lemmas.Bool.{ltb-false}
use Rattle.wm_base.specs.declared.qname.QName.{QName}
use Rattle.wm_base.specs.declared.refusal.Refusal.{Refusal}
use Rattle.wm_desc.specs.declared.description.Jobd.{Jobd}
use Rattle.wm_desc.specs.declared.entry.AutoEntry.{AutoEntry}
use Rattle.wm_desc.specs.declared.objects.Objects.{Objects}
use Rattle.wm_desc.specs.Table.{object_named}
use Rattle.wm_law.specs.declared.job.Job.{Job}
use Rattle.wm_law.specs.declared.state.Sbs.{Sbs}
use Rattle.wm_law.specs.declared.state.State.{State}
use Rattle.wm_law.specs.Autos.{auto_described, autos_of, make_auto}
use Rattle.wm_law.specs.Power.{is_on}
use Rattle.wm_law.specs.Submitting.{numbers_end, numbers_left, serials_end}
use Rattle.wm_law.specs.Subsystems.{is_started, max_started, start_refusal}
use Rattle.wm_pick.specs.Parts.{with_parts}
use Rattle.wm_core.specs.declared.draft.Draft.{Draft}
use Rattle.wm_core.specs.Aside.{aside_of}
use Rattle.wm_core.specs.Drafts.{draft_in, draft_of, drafts, enter_draft}

-- entries whose job description is no object make no job, and have no draft
one-drafted : (q : QName) (s : State) (e : AutoEntry) (es : List AutoEntry) (o : Option Jobd) → ((t : State) → fold (make_auto q) t es ≡ fold (enter_draft q) t (drafts t.objects.jobds es))
    → fold (make_auto q) (auto_described s q e o) es ≡ fold (enter_draft q) s (cons_option (option_map (draft_of e) o) (drafts s.objects.jobds es))
one-drafted q s e es None rest = rest s
one-drafted q s e es (Some d) rest = rest (auto_described s q e (Some d))

pub by_drafts : (q : QName) (s : State) (entries : List AutoEntry) → fold (make_auto q) s entries ≡ fold (enter_draft q) s (drafts s.objects.jobds entries)
by_drafts q s [] = refl
by_drafts q s (e ∷ es) = one-drafted q s e es (object_named e.jobd s.objects.jobds) (λ t. by_drafts q t es)

one-draft : (o : Option Draft) → cons_option o [] ≡ option_to_list o
one-draft None = refl
one-draft (Some d) = refl

-- the drafts of one entry more
pub next-draft : (jobds : List (QName × Jobd)) (es : List AutoEntry) (i : ℕ) (e : AutoEntry) → i < length es → e ≡ get_or es i e → (old new : List Draft) → old ≡ drafts jobds (take i es) → new ≡ old ++ option_to_list (draft_in jobds e) → new ≡ drafts jobds (take (i + 1) es)
next-draft jobds es i e within is old new before after =
    let more : take (i + 1) es ≡ take i es ++ e ∷ [] = take_more es i e within ∙ ap (λ (x : AutoEntry). take i es ++ x ∷ []) (sym is) in
    let parts : drafts jobds (take i es ++ e ∷ []) ≡ drafts jobds (take i es) ++ option_to_list (draft_in jobds e) =
    filter_map-append (draft_in jobds) (take i es) (e ∷ []) ∙ ap (λ (ds : List Draft). drafts jobds (take i es) ++ ds) (one-draft (draft_in jobds e)) in
    after ∙ (ap (λ (ds : List Draft). ds ++ option_to_list (draft_in jobds e)) before ∙ sym (ap (drafts jobds) more ∙ parts))

few-more : (o : Option Draft) (ds : List Draft) (n : ℕ) → length ds ≤ n → length (cons_option o ds) ≤ suc n
few-more None ds n h = omega arith
few-more (Some d) ds n h = omega arith

pub few-drafts : (jobds : List (QName × Jobd)) (es : List AutoEntry) → length (drafts jobds es) ≤ length es
few-drafts jobds [] = omega arith
few-drafts jobds (e ∷ es) = few-more (draft_in jobds e) (drafts jobds es) (length es) (few-drafts jobds es)

-- the parts of a state that the making of autostart jobs looks at and changes
abbrev pub site_of : State → State
site_of s = record (with_parts s.objects s.jobs s.started s.held s.clock) { next_number = s.next_number; next_serial = s.next_serial }

-- these parts
abbrev pub site_parts : Objects → List Job → List Sbs → List QName → ℕ → ℕ → ℕ → State
site_parts objects jobs started held clock number serial = record (with_parts objects jobs started held clock) { next_number = number; next_serial = serial }

pub same-parts : (objects : Objects) (jobs jobs' : List Job) (started started' : List Sbs) (held : List QName) (clock clock' number serial serial' : ℕ) → jobs ≡ jobs' → started ≡ started' → clock ≡ clock' → serial ≡ serial' → site_parts objects jobs started held clock number serial ≡ site_parts objects jobs' started' held clock' number serial'
same-parts objects jobs jobs' started started' held clock clock' number serial serial' j s c n = rw (j, s, c, n) refl

site-entered : (q : QName) (s : State) (ds : List Draft) → site_of (fold (enter_draft q) s ds) ≡ fold (enter_draft q) (site_of s) ds
site-entered q s [] = refl
site-entered q s (d ∷ ds) = site-entered q (enter_draft q s d) ds

-- the state with other jobs, and another next number and serial
abbrev pub with_jobs : State → List Job → ℕ → ℕ → State
with_jobs s jobs number serial = record s { jobs = jobs; next_number = number; next_serial = serial }

others-stay : (q : QName) (s : State) (ds : List Draft) → (let t : State = fold (enter_draft q) s ds in with_jobs s t.jobs t.next_number t.next_serial) ≡ fold (enter_draft q) s ds
others-stay q s [] = refl
others-stay q s (d ∷ ds) = others-stay q (enter_draft q s d) ds

-- the objects, the held queues and the offset are as they were
pub entered_aside : (q : QName) (s : State) (ds : List Draft) → aside_of (fold (enter_draft q) s ds) ≡ aside_of s
entered_aside q s ds = ap aside_of (sym (others-stay q s ds))

-- where the parts come to what they come to, so does the state
pub whole-entered : (q : QName) (s : State) (ds : List Draft) (t : State) → t ≡ fold (enter_draft q) (site_of s) ds → with_jobs s t.jobs t.next_number t.next_serial ≡ fold (enter_draft q) s ds
whole-entered q s ds t e =
    ap (λ (u : State). with_jobs s u.jobs u.next_number u.next_serial) (e ∙ sym (site-entered q s ds)) ∙ others-stay q s ds

last-refusal : (a b c d e : Bool) (v w x y z : Refusal) → cond a (Some v) (cond b (Some w) (cond c (Some x) (cond d (Some y) (cond e (Some z) None)))) ≡ None → e ≡ false
last-refusal true b c d e v w x y z h = absurd (cc h)
last-refusal false true c d e v w x y z h = absurd (cc h)
last-refusal false false true d e v w x y z h = absurd (cc h)
last-refusal false false false true e v w x y z h = absurd (cc h)
last-refusal false false false false true v w x y z h = absurd (cc h)
last-refusal false false false false false v w x y z h = refl

-- a subsystem that is started has numbers for its autostart jobs
pub numbers-suffice : (s : State) (q : QName) → start_refusal s q ≡ None → (ds : List Draft) → ds ≡ drafts s.objects.jobds (autos_of s q) → length ds ≤ numbers_left s
numbers-suffice s q h ds is =
    let left = ltb-false (numbers_left s) (length (autos_of s q)) (last-refusal (not (is_on s.power)) (not (is_some (object_named q s.objects.sbsds))) (is_started s q.name) (nat_le max_started (length s.started)) (nat_lt (numbers_left s) (length (autos_of s q))) _ _ _ _ _ h) in
    let few = few-drafts s.objects.jobds (autos_of s q) in
    let same = ap length is in
    omega arith

numbers-by : (numbered : Bool) (a b n : ℕ) → n ≤ cond numbered (min a b) 0 → 1 ≤ n → (numbered ≡ true) × (n ≤ a) × (n ≤ b)
numbers-by false a b n h some = absurd (omega arith)
numbers-by true a b n h some = (refl, (let left = min-le_left a b in omega arith), (let right = min-le_right a b in omega arith))

at_least_one : (n : ℕ) → nat_le 1 n ≡ true → 1 ≤ n
at_least_one n h = grind (arith, nat_tests)

-- where jobs are to be made, each has a number and a serial
pub numbers-fit : (s : State) (n : ℕ) → n ≤ numbers_left s → 1 ≤ n → (1 ≤ s.next_number) × (s.next_number + n ≤ numbers_end) × (s.next_serial + n ≤ serials_end)
numbers-fit s n h some =
    let by = numbers-by (nat_le 1 s.next_number) (numbers_end - s.next_number) (serials_end - s.next_serial) n h some in
    (at_least_one s.next_number by.0, (let number = by.1 in omega arith), (let serial = by.2 in omega arith))
