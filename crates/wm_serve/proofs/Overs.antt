-- What a server calls itself, and how it is over.
use Rattle.std.proofs.Common.{◌≡◌, ◌⊎◌, ◌∙◌, ℕ, ◌+◌, ◌≤◌, true, false, List, [], ◌∷◌, ◌++◌, All, append_assoc, fold, length, length-append, map, Option, Some, None, Result, Ok, Err, IfOk, OnErr, OnOk, refl, sym, subst, ap, inl, inr, arith}
use Rattle.std.specs.List.{AllZip, list_all}
use Rattle.std.proofs.lemmas.Bool.{and_parts}
use Rattle.std.proofs.lemmas.List.{append-nil}
use Rattle.std.proofs.lemmas.List.Elements.{All-cons, All-head, All-nil, All-tail}
use Rattle.wm_base.specs.declared.qname.QName.{QName}
use Rattle.wm_traits.specs.Cause.{raised}
use Rattle.wm_law.specs.Power.{is_on}
use Rattle.wm_law.specs.declared.call.Call.{Call}
use Rattle.wm_law.specs.declared.call.Entry.{Entry}
use Rattle.wm_law.specs.declared.state.State.{State}
use Rattle.wm_floor.specs.Floor.{Floored, IsCalled, IsEntered, IsPassOf, IsRefused, IsSame, Seen, entry_of}
use Rattle.wm_floor.specs.Ledger.{caller_of}
use Rattle.wm_floor.specs.declared.call_fault.CallFault.{CallFault}
use Rattle.wm_floor.specs.declared.answer.Answered.{Answered}
use Rattle.wm_floor.specs.declared.answer.Waiting.{Waiting}
use Rattle.wm_floor.specs.declared.opened.Opened.{Opened}
use Rattle.wm_run.specs.Session.{end_call, start_call}
use Rattle.wm_turn.specs.Passed.{StartsWith, own}
use Rattle.wm_turn.proofs.Histories.{starts_again}
use Rattle.wm_floor.specs.declared.monitor_fault.MonitorFault.{MonitorFault}
use Rattle.wm_serve.specs.Halts.{lesser, monitor_halt, seat_halt}
use Rattle.wm_serve.specs.Over.{AreServerCalls, DryRose, EndsQuietly, Finishes, IsLookOf, KeepsNone, MakesAt, MakesOne, MayMake, WasDown, WasDownFirst, WereDry}
use Rattle.wm_serve.specs.Seating.{entered, given, joined, left, seated, with_pass}
use Rattle.wm_serve.specs.Seats.{IsFresh, IsLater, Runs, Sits, Tellers, has_met_dry, is_dry, pass_of}
use Rattle.wm_serve.specs.declared.halt.Halt.{Halt}
use Rattle.wm_serve.specs.declared.seat.Seat.{Seat}
use Rattle.wm_serve.specs.declared.seat.Seat.TheVariants.{Worker, Closer, Monitor}
use Rattle.wm_serve.specs.declared.worker.Stopped.{Stopped}
use Rattle.wm_serve.specs.declared.worker.Stopped.TheVariants as stopped
use Rattle.wm_serve.proofs.Running.{all_then}

-- A call of pass 0

seen_by : (found seen old : List Entry) (e : Entry) → StartsWith found old → seen ≡ found ++ e ∷ [] → StartsWith seen old
seen_by found seen old e begins is = starts_again seen found old (e ∷ [], is) begins

none_behind : (found old rest : List Entry) → found ≡ old ++ rest → length found ≡ length old → found ≡ old
none_behind found old [] is long = is ∙ append-nil old
none_behind found old (e ∷ rest) is long = absurd (omega (arith, ap length is, length-append old (e ∷ rest), long))

module _ {K : Type 0} where
  pub makes_at : (o : Opened K) (c call : Call) (now : ℕ) (found : List Entry) (old new : Seen K) (a : Answered) → call ≡ c → StartsWith found old.seen → IsEntered o found call now old new a → MakesAt c old new a.place
  makes_at o c call now found old new a is begins h =
      record { found = found; entry = entry_of o found old.number call now; call = is; caller = refl; mine = h.mine; begins = begins; seen = h.seen; last = h.place }

  pub called_ok : (o : Opened K) (call : Call) (now : ℕ) (old new : Seen K) (r : Result Answered CallFault) (a : Answered) → r ≡ Ok a → IsCalled o call now old new r → MakesAt call old new a.place
  called_ok o call now old new r a is h =
      makes_at o call call now h.found old new a refl h.begins (subst (λ (x : Result Answered CallFault). IfOk x (IsEntered o h.found call now old new)) is h.ok)

  pub called_err : (o : Opened K) (call : Call) (now : ℕ) (old new : Seen K) (r : Result Answered CallFault) (e : CallFault) → r ≡ Err e → IsCalled o call now old new r → new.mine ≡ old.mine
  called_err o call now old new r e is h = (subst (λ (x : Result Answered CallFault). OnErr x (IsRefused h.found old new)) is h.err).mine

  pub called_seen : (o : Opened K) (call : Call) (now : ℕ) (old new : Seen K) (r : Result Answered CallFault) → IsCalled o call now old new r → StartsWith new.seen old.seen
  called_seen o call now old new (Ok a) h = seen_by h.found new.seen old.seen (entry_of o h.found old.number call now) h.begins h.ok.seen
  called_seen o call now old new (Err e) h = subst (λ (es : List Entry). StartsWith es old.seen) (sym h.err.seen) h.begins

  pub makes_one : (c : Call) (old new : Seen K) (place : ℕ) → MakesAt c old new place → MakesOne c old new
  makes_one c old new place h = record { entry = h.entry; call = h.call; mine = h.mine }

  pub may_make : (c : Call) (old new : Seen K) (r : Result ℕ Halt) → IfOk r (MakesAt c old new) → OnErr r (new.mine ≡ old.mine) → MayMake c old new
  may_make c old new (Ok place) made unmade = inr (makes_one c old new place made)
  may_make c old new (Err e) made unmade = inl unmade

  pub may_since : (c : Call) (first old new : Seen K) → old.mine ≡ first.mine → MayMake c old new → MayMake c first new
  may_since c first old new same (inl none) = inl (none ∙ same)
  may_since c first old new same (inr made) = inr (record { entry = made.entry; call = made.call; mine = made.mine ∙ ap (λ (es : List Entry). es ++ made.entry ∷ []) same })

  pub may_till : (c : Call) (old new last : Seen K) → MayMake c old new → last.mine ≡ new.mine → MayMake c old last
  may_till c old new last (inl none) same = inl (same ∙ none)
  may_till c old new last (inr made) same = inr (record { entry = made.entry; call = made.call; mine = same ∙ made.mine })

  -- the entry stands next behind what was looked at, where no job but prestart jobs was active
  pub ends_quietly : (f : Floored K) (old new : Seen K) (place : ℕ) (last : Waiting) → old.number ≡ 0 → IsLookOf f old last → last.pending.busy ≡ 0 → MakesAt end_call old new place → place ≡ last.at + 1 → EndsQuietly f.opening.state new.seen
  ends_quietly f old new place last zero_ look none h next =
      let long : length h.found ≡ length old.seen = omega (arith, next, look.at, h.last, ap length h.seen, length-append h.found (h.entry ∷ [])) in
      let same : h.found ≡ old.seen = none_behind h.found old.seen h.begins.0 h.begins.1 long in
      record {
        before = old.seen;
        entry = h.entry;
        behind = [];
        parts = h.seen ∙ ap (λ (es : List Entry). es ++ h.entry ∷ []) same;
        caller = h.caller ∙ zero_;
        call = h.call;
        quiet = ap (λ (p : _). p.busy) (sym look.pending) ∙ none;
      }

-- it is so of a longer history
pub quiet_later : (opened : State) (seen more : List Entry) → StartsWith more seen → EndsQuietly opened seen → EndsQuietly opened more
quiet_later opened seen more longer h =
    let whole = longer.1 ∙ ap (λ (es : List Entry). es ++ longer.0) h.parts in
    record {
      before = h.before;
      entry = h.entry;
      behind = h.behind ++ longer.0;
      parts = whole ∙ append_assoc h.before (h.entry ∷ h.behind) longer.0;
      caller = h.caller;
      call = h.call;
      quiet = h.quiet;
    }

pub down_later : (opened : State) (mine seen more : List Entry) → StartsWith more seen → WasDown opened mine seen → WasDown opened mine more
down_later opened mine seen more longer h = record { front = h.front; begins = starts_again more seen h.front longer h.begins; own = h.own; down = h.down }

-- The server's own calls

calls_of : List Entry → List Call
calls_of es = map (λ (e : Entry). e.call) es

pub calls_none : (ctl : QName) (mine : List Entry) → mine ≡ [] → AreServerCalls ctl mine
calls_none ctl mine none = (0, ap (map (λ (e : Entry). e.call)) none)

module _ {K : Type 0} where
  first_alone : (ctl : QName) (p q : Seen K) (h : MakesOne (start_call ctl) p q) → p.mine ≡ [] → q.mine ≡ h.entry ∷ []
  first_alone ctl p q h none = h.mine ∙ ap (λ (es : List Entry). es ++ h.entry ∷ []) none

  pub calls_made : (ctl : QName) (p q r : Seen K) → p.mine ≡ [] → MakesOne (start_call ctl) p q → MayMake end_call q r → AreServerCalls ctl r.mine
  calls_made ctl p q r none first (inl same) =
      (1, ap (map (λ (e : Entry). e.call)) (same ∙ first_alone ctl p q first none) ∙ ap (λ (c : Call). c ∷ []) first.call)
  calls_made ctl p q r none first (inr last) =
      let both : r.mine ≡ first.entry ∷ last.entry ∷ [] = last.mine ∙ ap (λ (es : List Entry). es ++ last.entry ∷ []) (first_alone ctl p q first none) in
      (2, ap (map (λ (e : Entry). e.call)) both ∙ (ap (λ (c : Call). c ∷ last.entry.call ∷ []) first.call ∙ ap (λ (c : Call). start_call ctl ∷ c ∷ []) last.call))

  some_made : (ctl : QName) (p q r : Seen K) → p.mine ≡ [] → MakesOne (start_call ctl) p q → MayMake end_call q r → 1 ≤ length r.mine
  some_made ctl p q r none first (inl same) = omega (arith, ap length (same ∙ first_alone ctl p q first none))
  some_made ctl p q r none first (inr last) = omega (arith, ap length last.mine, length-append q.mine (last.entry ∷ []))

  quiet_where : (opened : State) (ctl : QName) (p q r : Seen K) → p.mine ≡ [] → MakesOne (start_call ctl) p q → (r.mine ≡ q.mine) ⊎ EndsQuietly opened r.seen → 2 ≤ length r.mine → EndsQuietly opened r.seen
  quiet_where opened ctl p q r none first (inl same) two = absurd (omega (arith, two, ap length (same ∙ first_alone ctl p q first none)))
  quiet_where opened ctl p q r none first (inr quiet) two = quiet

  down_first : (Dry : Type 0) (opened : State) (ctl : QName) (p q r : Seen K) → p.mine ≡ [] → MakesOne (start_call ctl) p q → Dry ⊎ WasDown opened q.mine r.seen → Dry ⊎ WasDownFirst opened ctl r.seen
  down_first Dry opened ctl p q r none first (inl dry) = inl dry
  down_first Dry opened ctl p q r none first (inr down) =
      inr (record { first = first.entry; call = first.call; down = subst (λ (es : List Entry). WasDown opened es r.seen) (first_alone ctl p q first none) down })

  pub finishes : {D P C : Type 0} (Dry : Type 0) (opened : State) (ctl : QName) (seats : List (Seat K D P C)) (p q r : Seen K) → p.mine ≡ [] → MakesOne (start_call ctl) p q → MayMake end_call q r → (r.mine ≡ q.mine) ⊎ EndsQuietly opened r.seen → Dry ⊎ WasDown opened q.mine r.seen → All KeepsNone seats → Finishes Dry opened ctl seats r
  finishes Dry opened ctl seats p q r none first last quiet over told = record {
    started = some_made ctl p q r none first last;
    quiet = quiet_where opened ctl p q r none first quiet;
    over = down_first Dry opened ctl p q r none first over;
    told = told;
  }

  -- pass 0 joins others and looks on
  pub finished : {D P C : Type 0} (Dry Rose : Type 0) (opened : State) (ctl : QName) (seats ends : List (Seat K D P C)) (r last : Seen K) → last.mine ≡ r.mine → StartsWith last.seen r.seen → (Dry → Rose) → All KeepsNone ends → Finishes Dry opened ctl seats r → Finishes Rose opened ctl ends last
  finished Dry Rose opened ctl seats ends r last same longer rose told h =
      let long : length last.mine ≡ length r.mine = ap length same in
      record {
        started = omega (arith, long, h.started);
        quiet = λ two. quiet_later opened r.seen last.seen longer (h.quiet (omega (arith, long, two)));
        over = by h.over;
        told = told;
      }
    where
      by : Dry ⊎ WasDownFirst opened ctl r.seen → Rose ⊎ WasDownFirst opened ctl last.seen
      by (inl dry) = inl (rose dry)
      by (inr down) = inr (record { first = down.first; call = down.call; down = down_later opened (down.first ∷ []) r.seen last.seen longer down.down })

-- what holds where a part went on
pub where_ok : {T E : Type 0} (r : Result T E) (P Q : Type 0) → OnOk r P → (P → Q) → OnOk r Q
where_ok (Ok x) P Q h k = k h
where_ok (Err e) P Q h k = tt

pub on_ok : {T E : Type 0} (r : Result T E) {P : Type 0} → P → OnOk r P
on_ok (Ok x) p = p
on_ok (Err e) p = tt

-- what holds of three answers
pub of_three : {T E : Type 0} (r : Result T E) (A B C Q : Type 0) → OnOk r A → OnOk r B → OnOk r C → (A → B → C → Q) → OnOk r Q
of_three (Ok x) A B C Q a b c k = k a b c
of_three (Err e) A B C Q a b c k = tt

-- Seats

module _ {K : Type 0} where
  mine_left : (z : Seen K) (p : Option (Seen K)) → (joined p z).mine ≡ z.mine
  mine_left z None = refl
  mine_left z (Some p) = refl

module _ {K D P C : Type 0} where
  pub mine_all : (z : Seen K) (xs : List (Seat K D P C)) → (fold left z xs).mine ≡ z.mine
  mine_all z [] = refl
  mine_all z (x ∷ xs) = mine_all (left z x) xs ∙ mine_left z (pass_of x)

  keeps_none : (x : Seat K D P C) → KeepsNone x → KeepsNone (with_pass None x)
  keeps_none (Worker w) h = h
  keeps_none (Closer c) h = h
  keeps_none (Monitor m) h = h

  pub all_keep_none : (xs : List (Seat K D P C)) → All KeepsNone xs → All KeepsNone (map (with_pass None) xs)
  all_keep_none [] h = All-nil KeepsNone
  all_keep_none (x ∷ xs) h = All-cons KeepsNone (with_pass None x) (map (with_pass None) xs) (keeps_none x (All-head KeepsNone x xs h)) (all_keep_none xs (All-tail KeepsNone x xs h))

no_fault : (fault : Option MonitorFault) → monitor_halt fault ≡ None → fault ≡ None
no_fault None none = refl
no_fault (Some fault) none = absurd (cc)

no_lesser : (a b : Option Halt) → lesser a b ≡ None → a ≡ None
no_lesser None b none = refl
no_lesser (Some one) None none = absurd (cc)
no_lesser (Some one) (Some other) none = absurd (cc)

met_dry : (why : Option Stopped) → has_met_dry why ≡ true → why ≡ Some stopped.Dry
met_dry None is = absurd (cc)
met_dry (Some stopped.Dry) is = refl
met_dry (Some stopped.Closed) is = absurd (cc)
met_dry (Some stopped.Failed) is = absurd (cc)
met_dry (Some stopped.NoMemory) is = absurd (cc)

-- a worker that hadn't stopped has met it by a count that rose
rose : (a b c : ℕ) (was : Option Stopped) → was ≡ None → (was ≡ Some stopped.Dry) ⊎ (raised a ≤ b) → IsLater b c → raised a ≤ c
rose a b c was none (inl dry) later = absurd (cc)
rose a b c was none (inr up) later = omega (arith, up, later)

module _ {K D P C : Type 0} where
  none_least : (least : Option Halt) (xs : List (Seat K D P C)) → fold (λ l s. lesser l (seat_halt s)) least xs ≡ None → least ≡ None
  none_least least [] none = none
  none_least least (x ∷ xs) none = no_lesser least (seat_halt x) (none_least (lesser least (seat_halt x)) xs none)

module _ {K D P C : Type 0} (t : Tellers D P) (f : Floored K) where
  -- a seat that no fault ended keeps no report
  keeps_unless : (x : Seat K D P C) → Sits t f x → seat_halt x ≡ None → KeepsNone x
  keeps_unless (Worker w) h none = tt
  keeps_unless (Closer c) h none = tt
  keeps_unless (Monitor m) h none = h.1 (no_fault m.fault none)

  pub all_unhalted : (xs : List (Seat K D P C)) → All (Sits t f) xs → fold (λ l s. lesser l (seat_halt s)) None xs ≡ None → All KeepsNone xs
  all_unhalted [] h none = All-nil KeepsNone
  all_unhalted (x ∷ xs) h none =
      let first : seat_halt x ≡ None = none_least (seat_halt x) xs none in
      let rest : fold (λ l s. lesser l (seat_halt s)) None xs ≡ None = subst (λ (o : Option Halt). fold (λ l s. lesser l (seat_halt s)) o xs ≡ None) first none in
      All-cons KeepsNone x xs (keeps_unless x (All-head (Sits t f) x xs h) first) (all_unhalted xs (All-tail (Sits t f) x xs h) rest)

  -- a worker that has stopped so, before whose thread nothing had run
  rose_one : (z : Seen K) (x y e : Seat K D P C) → IsFresh t x → Runs t f (given z x) y → is_dry y ≡ true → Runs t f y e → DryRose t x (with_pass None e)
  rose_one z (Worker w) (Worker a) (Worker b) fresh h dry k = rose (t.dries w.desk) (t.dries a.desk) (t.dries b.desk) w.stopped fresh.1.0 (h.dry (met_dry a.stopped dry)) k.dries
  rose_one z (Worker w) (Worker a) (Closer c) fresh h dry k = absurd k
  rose_one z (Worker w) (Worker a) (Monitor m) fresh h dry k = absurd k
  rose_one z (Worker w) (Closer c) e fresh h dry k = absurd h
  rose_one z (Worker w) (Monitor m) e fresh h dry k = absurd h
  rose_one z (Closer c) y e fresh h dry k = tt
  rose_one z (Monitor m) y e fresh h dry k = tt

  rose_all : (z : Seen K) (xs ys es : List (Seat K D P C)) → All (IsFresh t) xs → AllZip (Runs t f) (seated z xs) ys → list_all is_dry ys ≡ true → AllZip (Runs t f) ys es → AllZip (DryRose t) xs (map (with_pass None) es)
  rose_all z [] [] [] fresh h dry k = tt
  rose_all z [] [] (e ∷ es) fresh h dry k = absurd k
  rose_all z [] (y ∷ ys) es fresh h dry k = absurd h
  rose_all z (x ∷ xs) [] es fresh h dry k = absurd h
  rose_all z (x ∷ xs) (y ∷ ys) [] fresh h dry k = absurd k
  rose_all z (x ∷ xs) (y ∷ ys) (e ∷ es) fresh h dry k =
      let both = and_parts (is_dry y) (list_all is_dry ys) dry in
      (rose_one z x y e (All-head (IsFresh t) x xs fresh) h.0 both.0 k.0, rose_all (entered z x) xs ys es (All-tail (IsFresh t) x xs fresh) h.1 both.1 k.1)

  pub were_dry : (z : Seen K) (xs ys es ends : List (Seat K D P C)) → All (IsFresh t) xs → ys ≡ seated z xs → ends ≡ map (with_pass None) es → WereDry t f ys es → AllZip (DryRose t) xs ends
  were_dry z xs ys es ends fresh seats vacant h =
      let ran : AllZip (Runs t f) (seated z xs) h.mid = subst (λ (l : List (Seat K D P C)). AllZip (Runs t f) l h.mid) seats h.ran in
      subst (λ (l : List (Seat K D P C)). AllZip (DryRose t) xs l) (sym vacant) (rose_all z xs h.mid es fresh ran h.dry h.rest)

-- What pass 0 saw behind its last call

pub quiet_looked : {K : Type 0} (opened : State) (first mid last : Seen K) → (mid.mine ≡ first.mine) ⊎ EndsQuietly opened mid.seen → last.mine ≡ mid.mine → StartsWith last.seen mid.seen → (last.mine ≡ first.mine) ⊎ EndsQuietly opened last.seen
quiet_looked opened first mid last (inl none) same longer = inl (same ∙ none)
quiet_looked opened first mid last (inr quiet) same longer = inr (quiet_later opened mid.seen last.seen longer quiet)

pub quiet_since : {K : Type 0} (opened : State) (first mid last : Seen K) → mid.mine ≡ first.mine → (last.mine ≡ mid.mine) ⊎ EndsQuietly opened last.seen → (last.mine ≡ first.mine) ⊎ EndsQuietly opened last.seen
quiet_since opened first mid last same (inl none) = inl (none ∙ same)
quiet_since opened first mid last same (inr quiet) = inr quiet

-- rounds that are over: no connection could come any more, or the power wasn't on as pass 0 looked
pub over_by : {K D P C : Type 0} (t : Tellers D P) (f : Floored K) (first mid last : Seen K) (look : Waiting) (xs ys zs : List (Seat K D P C)) → (list_all is_dry ys ≡ true) ⊎ (is_on look.pending.power ≡ false) → AllZip (Runs t f) xs ys → AllZip (Runs t f) ys zs → first.number ≡ 0 → IsPassOf f mid → IsSame first mid → mid.mine ≡ first.mine → IsLookOf f mid look → StartsWith last.seen mid.seen → WereDry t f xs zs ⊎ WasDown f.opening.state first.mine last.seen
over_by t f first mid last look xs ys zs (inl dry) ran rest zero_ its same mine seen longer = inl (record { mid = ys; ran = ran; dry = dry; rest = rest })
over_by t f first mid last look xs ys zs (inr off) ran rest zero_ its same mine seen longer =
    let number : mid.number ≡ 0 = same.number ∙ zero_ in
    let own_is : own caller_of 0 mid.seen ≡ first.mine = ap (λ (n : ℕ). own caller_of n mid.seen) (sym number) ∙ (sym its.mine ∙ mine) in
    inr (record { front = mid.seen; begins = longer; own = own_is; down = ap (λ (p : _). is_on p.power) (sym seen.pending) ∙ off })

-- the same of seats that had run before
pub dry_before : {K D P C : Type 0} {Q : Type 0} (t : Tellers D P) (f : Floored K) (xs ys zs : List (Seat K D P C)) → AllZip (Runs t f) xs ys → WereDry t f ys zs ⊎ Q → WereDry t f xs zs ⊎ Q
dry_before t f xs ys zs ran (inl h) = inl (record { mid = h.mid; ran = all_then t f xs ys h.mid ran h.ran; dry = h.dry; rest = h.rest })
dry_before t f xs ys zs ran (inr q) = inr q
