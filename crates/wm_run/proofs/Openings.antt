-- Laws of a run that opens: what its rows come to, and what it leaves of them.
use Rattle.std.proofs.Common.{◌≡◌, ◌⊎◌, ℕ, ℤ, ◌<◌, true, List, [], ◌∷◌, Option, Some, None, IfSome, is_some, refl, sym, ap, subst, ◌∙◌, inl, inr, arith}
use Rattle.std.proofs.lemmas.Bool.{true≢false, false≢true}
use Rattle.wm_floor.specs.History.{History, reached}
use Rattle.wm_floor.specs.Floor.{IsLeftOrOpened}
use Rattle.wm_floor.specs.Ledger.{behind}
use Rattle.wm_floor.specs.declared.opened.Opened.{Opened}
use Rattle.wm_floor.specs.Trail.{HasTrail, tables_along, without_repeats}
use Rattle.wm_law.specs.History.{IsLegal}
use Rattle.wm_law.specs.declared.call.Entry.{Entry}
use Rattle.wm_law.specs.declared.state.State.{State}
use Rattle.wm_law.proofs.Maxuse.{uses_are_kept}
use Rattle.wm_law.proofs.Sound.{limits_are_kept, order_is_kept}
use Rattle.wm_traits.specs.declared.fault.KeepFault.{KeepFault}
use Rattle.wm_traits.specs.declared.fault.KeepFault.TheVariants as keep
use Rattle.wm_traits.specs.declared.row.Row.{Row}
use Rattle.wm_traits.specs.Told.{Grows, Stays}
use Rattle.wm_plan.specs.declared.plan.RunPlan.{RunPlan}
use Rattle.wm_run.specs.Words.{OpensPlanned}
use Rattle.wm_run.specs.Kept.{HasHistory, HasOpened, IsUnopened, open_status, store_status}
use Rattle.wm_floor.specs.Keeping.{Telling, IsOpened}
use Rattle.wm_floor.specs.Stored.{HasTables}
use Rattle.wm_floor.specs.declared.open_fault.OpenFault.{OpenFault}
use Rattle.wm_floor.specs.declared.open_fault.OpenFault.TheVariants.{KeeperFault, BadRow, NoMemory}
use Rattle.wm_floor.proofs.Staying.{Stays-grows, Stays-same}
use Rattle.wm_floor.proofs.Trails.{trail_opened}
use Rattle.wm_tables.proofs.Starting.{runs_start_once}
use Rattle.wm_tables.proofs.PrestartRestarts.{restart_is_prestart_sound, restart_is_within_maxuse}
use Rattle.wm_tables.proofs.Restarts.{restart_is_sound}

-- What is told later was told before

-- what has stayed twice has stayed
pub Stays-then : {A : Type 0} (a b c : Option A) → Stays a b → Stays b c → Stays a c
Stays-then a b None h k = tt
Stays-then a None (Some z) h k = absurd k
Stays-then None (Some y) (Some z) h k = absurd h
Stays-then (Some x) (Some y) (Some z) h k = k ∙ h

pub Grows-stays : {A : Type 0} (a b c : Option (List A)) (more : List A) → Grows a b more → Stays b c → Grows a c more
Grows-stays a b None more h k = tt
Grows-stays a None (Some z) more h k = absurd k
Grows-stays None (Some y) (Some z) more h k = absurd h
Grows-stays (Some x) (Some y) (Some z) more h k = k ∙ h

is_told : {A : Type 0} (told : Option A) → is_some told ≡ true → told ≡ None → ⊥
is_told told some none = absurd (false≢true (sym (ap is_some none) ∙ some))

-- a fact of what stayed
pub stays_if : {A : Type 0} (P : A → Type 0) (a b : Option A) → Stays a b → IfSome a P → IfSome b P
stays_if P a None h k = tt
stays_if P None (Some y) h k = absurd h
stays_if P (Some x) (Some y) h k = subst P (sym h) k

pub stays_back : {A : Type 0} (x : A) (a b : Option A) → Stays a b → b ≡ Some x → a ≡ Some x
stays_back x a None h is = absurd (true≢false (sym (ap is_some is)))
stays_back x None (Some y) h is = absurd h
stays_back x (Some z) (Some y) h is = sym (ap Some h) ∙ is

-- The history of a run from the rows that it found

-- the rows that a machine opened with are those that were told, where the tables are told to the end
pub rows_found : (tables : Option (List Row)) (trail trail' trail'' : Option (List (List Row))) (tables'' : Option (List Row)) (rows : List Row) (more : List (List Row)) → IfSome tables (λ told. told ≡ rows) → Grows trail trail' more → (trail' ≡ None → trail'' ≡ None) → is_some trail ≡ is_some tables → is_some trail'' ≡ is_some tables'' → IfSome tables'' (λ (_ : List Row). tables ≡ Some rows)
rows_found tables trail trail' trail'' None rows more told grown untold both both' = tt
rows_found tables trail None trail'' (Some last) rows more told grown untold both both' = absurd (is_told trail'' both' (untold refl))
rows_found tables None (Some mid) trail'' (Some last) rows more told grown untold both both' = absurd grown
rows_found None (Some first) (Some mid) trail'' (Some last) rows more told grown untold both both' = absurd (true≢false both)
rows_found (Some x) (Some first) (Some mid) trail'' (Some last) rows more told grown untold both both' = ap Some told

-- a floor over a keeper that was opened
pub has_opened : {K : Type 0} {Came : State → Type 0} (offset : ℤ) (log : List Entry) (o : Opened K) (found opened closed : Telling) → IsOpened offset o.state found opened → IsLegal o.state log → HasTables (reached (behind o log)) closed.tables → HasTrail (behind o log) found closed → (opened.trail ≡ None → closed.trail ≡ None) → is_some found.trail ≡ is_some found.tables → is_some closed.trail ≡ is_some closed.tables → Came o.state → HasOpened offset log found closed Came
has_opened offset log o found opened closed h legal tables trail untold both both' came =
    let sound = restart_is_sound offset h.found o.state h.restart in
    record {
      opened = o.state;
      rows = h.found;
      found = rows_found found.tables found.trail opened.trail closed.trail closed.tables h.found _ h.told h.trail untold both both';
      restart = h.restart;
      legal = legal;
      limits = limits_are_kept o.state log sound;
      uses = uses_are_kept o.state log sound (restart_is_prestart_sound offset h.found o.state h.restart) legal (restart_is_within_maxuse offset h.found o.state h.restart);
      order = order_is_kept o.state log sound;
      starts = runs_start_once offset h.found o.state log h.restart legal;
      tables = tables;
      trail = trail;
      came = came;
    }

-- one for whose turnstile there was no memory, once the rows of the opened state were kept
pub opened_none : {Came : State → Type 0} (offset : ℤ) (s : State) (old new : Telling) → IsOpened offset s old new → is_some old.trail ≡ is_some old.tables → is_some new.trail ≡ is_some new.tables → Came s → HasOpened offset [] old new Came
opened_none offset s old new h both both' came =
    let sound = restart_is_sound offset h.found s h.restart in
    record {
      opened = s;
      rows = h.found;
      found = rows_found old.tables old.trail new.trail new.trail new.tables h.found _ h.told h.trail (λ none. none) both both';
      restart = h.restart;
      legal = tt;
      limits = limits_are_kept s [] sound;
      uses = tt;
      order = order_is_kept s [] sound;
      starts = runs_start_once offset h.found s [] h.restart tt;
      tables = h.rows;
      trail = trail_opened offset s old new h;
      came = came;
    }

-- The same, as the store tells it whose keeper it was

pub trail_of_store : (h : History) (old found closed new : Telling) (rows : List Row) → IfSome new.tables (λ _. found.tables ≡ Some rows) → Stays old.tables found.tables → Stays old.trail found.trail → Stays closed.trail new.trail → is_some new.trail ≡ is_some new.tables → HasTrail h found closed → HasTrail h old new
trail_of_store h old found closed new rows were tables trail trail' both has = go old.tables tables new.trail trail' both
  where
    along : List Row → List (List Row)
    along rs = without_repeats rs (tables_along h.opened h.log)

    -- where the tables are told to the end
    grown : (told : List Row) → Stays (Some told) found.tables → (now : List (List Row)) → Stays closed.trail (Some now) → found.tables ≡ Some rows → Grows old.trail (Some now) (along told)
    grown told stays now trails is =
        let first : Some told ≡ Some rows = stays_back rows (Some told) found.tables stays is in
        let its : IfSome (Some rows) (λ rs. Grows found.trail closed.trail (along rs)) = subst (λ (o : Option (List Row)). IfSome o (λ rs. Grows found.trail closed.trail (along rs))) is has in
        let grows = Stays-grows old.trail found.trail (Some now) (along rows) trail (Grows-stays found.trail closed.trail (Some now) (along rows) its trails) in
        subst (λ (o : Option (List Row)). IfSome o (λ rs. Grows old.trail (Some now) (along rs))) (sym first) grows

    by : (o : Option (List Row)) → IfSome o (λ _. found.tables ≡ Some rows) → is_some o ≡ true → found.tables ≡ Some rows
    by None h none = absurd (false≢true none)
    by (Some last) h some = h

    go : (o : Option (List Row)) → Stays o found.tables → (t : Option (List (List Row))) → Stays closed.trail t → is_some t ≡ is_some new.tables → IfSome o (λ rs. Grows old.trail t (along rs))
    go None s t k e = tt
    go (Some told) s None k e = tt
    go (Some told) s (Some now) k e = grown told s now k (by new.tables were (sym e))

pub opened_of_store : {Came : State → Type 0} (offset : ℤ) (log : List Entry) (old found closed new : Telling) → Stays old.tables found.tables → Stays old.trail found.trail → Stays closed.tables new.tables → Stays closed.trail new.trail → is_some new.trail ≡ is_some new.tables → HasOpened offset log found closed Came → HasOpened offset log old new Came
opened_of_store offset log old found closed new tables trail tables' trail' both h =
    let were : IfSome new.tables (λ _. found.tables ≡ Some h.rows) = stays_if (λ _. found.tables ≡ Some h.rows) closed.tables new.tables tables' h.found in
    record {
      opened = h.opened;
      rows = h.rows;
      found = stays_if_told new.tables were;
      restart = h.restart;
      legal = h.legal;
      limits = h.limits;
      uses = h.uses;
      order = h.order;
      starts = h.starts;
      tables = stays_if _ closed.tables new.tables tables' h.tables;
      trail = trail_of_store (record { opened = h.opened; log = log }) old found closed new h.rows were tables trail trail' both h.trail;
      came = h.came;
    }
  where
    stays_if_told : (o : Option (List Row)) → IfSome o (λ _. found.tables ≡ Some h.rows) → IfSome o (λ _. old.tables ≡ Some h.rows)
    stays_if_told None k = tt
    stays_if_told (Some last) k = stays_back h.rows old.tables found.tables tables k

pub history_of_store : {Came : State → Type 0} (offset : ℤ) (status : ℕ) (log : List Entry) (old found closed new : Telling) → Stays old.tables found.tables → Stays old.trail found.trail → Stays closed.tables new.tables → Stays closed.trail new.trail → is_some new.trail ≡ is_some new.tables → HasHistory offset status log found closed Came → HasHistory offset status log old new Came
history_of_store offset status log old found closed new tables trail tables' trail' both (inl h) = inl (opened_of_store offset log old found closed new tables trail tables' trail' both h)
history_of_store offset status log old found closed new tables trail tables' trail' both (inr h) =
    inr (record {
      early = h.early;
      none = h.none;
      left = record {
        tables = Stays-then old.tables found.tables new.tables tables (Stays-then found.tables closed.tables new.tables h.left.tables tables');
        trail = Stays-then old.trail found.trail new.trail trail (Stays-then found.trail closed.trail new.trail h.left.trail trail');
      };
      came = h.came;
    })

-- a run that didn't open
pub not_opened : {Came : State → Type 0} (offset : ℤ) (status : ℕ) (log : List Entry) (old new : Telling) → IsUnopened status → log ≡ [] → Stays old.tables new.tables → Stays old.trail new.trail → ((s : State) → Came s) → HasHistory offset status log old new Came
not_opened offset status log old new early none tables trail came = inr (record { early = early; none = none; left = record { tables = tables; trail = trail }; came = came })

-- a run whose floor didn't open
pub floor_not_opened : {Came : State → Type 0} (offset : ℤ) (status : ℕ) (log : List Entry) (old new : Telling) (fault : OpenFault) → IsUnopened status → 1 < status → log ≡ [] → IsLeftOrOpened offset old new fault → is_some old.trail ≡ is_some old.tables → is_some new.trail ≡ is_some new.tables → ((s : State) → Came s) → HasHistory offset status log old new Came
floor_not_opened offset status log old new fault early high none (inl left) both both' came = not_opened offset status log old new early none left.tables left.trail came
floor_not_opened {Came} offset status log old new fault early high none (inr (memory, opened)) both both' came =
    subst (λ (es : List Entry). HasHistory offset status es old new Came) (sym none) (inl (opened_none offset opened.0 old new opened.1 both both' (record { no_idle = tt; idle = λ low. absurd (omega (arith, high, low)); input = came opened.0 })))

-- The status of a run whose machine didn't open

pub open_high : (fault : OpenFault) → 1 < open_status fault
open_high KeeperFault = omega arith
open_high (BadRow n) = omega arith
open_high NoMemory = omega arith

pub open_early : (fault : OpenFault) → IsUnopened (open_status fault)
open_early KeeperFault = refl
open_early (BadRow n) = refl
open_early NoMemory = refl

pub open_low : (fault : OpenFault) → open_status fault < 11
open_low KeeperFault = omega arith
open_low (BadRow n) = omega arith
open_low NoMemory = omega arith

-- the input was read by no such run
pub open_unread : (fault : OpenFault) → open_status fault ≡ 3 → ⊥
open_unread KeeperFault is = absurd (omega arith)
open_unread (BadRow n) is = absurd (omega arith)
open_unread NoMemory is = absurd (omega arith)

-- The status of a run whose store gave no keeper

pub store_high : (fault : KeepFault) → 1 < store_status fault
store_high keep.Failed = omega arith
store_high keep.NoMemory = omega arith

pub store_early : (fault : KeepFault) → IsUnopened (store_status fault)
store_early keep.Failed = refl
store_early keep.NoMemory = refl

pub store_low : (fault : KeepFault) → store_status fault < 11
store_low keep.Failed = omega arith
store_low keep.NoMemory = omega arith

-- the input was read by no such run
pub store_unread : (fault : KeepFault) → store_status fault ≡ 3 → ⊥
store_unread keep.Failed is = absurd (omega arith)
store_unread keep.NoMemory is = absurd (omega arith)

-- The status of words that are none of a run, or that couldn't be read

pub words_high : (n m : ℕ) → n ≡ m → (m ≡ 2) ⊎ (m ≡ 6) → 1 < n
words_high n m is (inl two) = omega arith
words_high n m is (inr six) = omega arith

pub words_early : (n m : ℕ) → n ≡ m → (m ≡ 2) ⊎ (m ≡ 6) → IsUnopened n
words_early n m is (inl two) = subst IsUnopened (sym (is ∙ two)) refl
words_early n m is (inr six) = subst IsUnopened (sym (is ∙ six)) refl

pub words_low : (n m : ℕ) → n ≡ m → (m ≡ 2) ⊎ (m ≡ 6) → n < 11
words_low n m is (inl two) = omega arith
words_low n m is (inr six) = omega arith

-- the input was read by no such run
pub words_unread : (n m : ℕ) → n ≡ m → (m ≡ 2) ⊎ (m ≡ 6) → n ≡ 3 → ⊥
words_unread n m is (inl two) three = absurd (omega arith)
words_unread n m is (inr six) three = absurd (omega arith)

-- Which path was opened

-- nothing was where the words made no plan, or memory was wanting for one
pub unopened : (found : Option RunPlan) (n m : ℕ) (told : Option (List (List ℕ))) → n ≡ m → (m ≡ 2) ⊎ (m ≡ 6) → (m ≡ 2 → found ≡ None) → OpensPlanned found n told told
unopened None n m told is why wrong = Stays-same told
unopened (Some plan) n m told is (inl two) wrong = absurd (true≢false (ap is_some (wrong two)))
unopened (Some plan) n m told is (inr six) wrong = inr (is ∙ six, Stays-same told)

-- the store of the plan was
pub opened_once : (found : Option RunPlan) (plan : RunPlan) (path : List ℕ) (status : ℕ) (old new : Option (List (List ℕ))) → found ≡ Some plan → path ≡ plan.store → Grows old new (path ∷ []) → OpensPlanned found status old new
opened_once found plan path status old new is same grown =
    subst (λ (o : Option RunPlan). OpensPlanned o status old new) (sym is) (inl (subst (λ (p : List ℕ). Grows old new (p ∷ [])) same grown))
