-- What comes of an input that is taken piece by piece.
use Rattle.std.proofs.Common.{◌≡◌, ◌↔◌, ℕ, ◌+◌, ◌<◌, ◌≤◌, ◌||◌, Bool, true, false, List, [], ◌∷◌, ◌++◌, length, Option, Result, Ok, Err, sym, ap, subst, ◌∙◌, inl, inr, arith}
use Rattle.std.specs.Io.KnownBytes.{IsAtEnd}
use Rattle.std.specs.Prelude.{IfOk, OnErr, IsErrOf}
use Rattle.std.proofs.lemmas.List.{append-nil, length-append}
use Rattle.wm_base.proofs.Lists.{on_err}
use Rattle.wm_clwords.specs.Lines.{logical_lines}
use Rattle.wm_clwords.specs.Part.{Part, fresh, lines_from}
use Rattle.wm_law.specs.declared.call.Entry.{Entry}
use Rattle.wm_law.specs.declared.state.State.{State}
use Rattle.wm_floor.specs.History.{History}
use Rattle.wm_traits.specs.Told.{Takes}
use Rattle.wm_traits.proofs.Telling.{Takes-none}
use Rattle.wm_run.specs.Down.{is_down}
use Rattle.wm_run.specs.Grown.{at_opening, entries_between}
use Rattle.wm_floor.specs.Lists.{since}
use Rattle.wm_run.specs.Outcome.{AnswersEnded, LinesCame, RunCame, RunTakes, SessionCame}
use Rattle.wm_run.specs.Run.{ended_status}
use Rattle.wm_run.specs.Session.{Answers, AnsweredBy, Closes, IsUncalled, OneCall, start_call}
use Rattle.wm_run.specs.Stopped.{AtMostOne, MayClose, StopsIn}
use Rattle.wm_run.specs.Taking.{StopsReading, TakesPiece, TakesInput}
use Rattle.wm_run.specs.declared.answered.Answered.{Answered}
use Rattle.wm_run.specs.declared.halt.Halt.{Halt}
use Rattle.wm_run.specs.declared.settings.Settings.{Settings}
use Rattle.wm_run.specs.declared.halt.Halt.TheVariants.{ReadFault, InputFull}
use Rattle.wm_run.proofs.EndedLines.{letter_line}
use Rattle.wm_run.proofs.InputLoops.{SoFar}
use Rattle.wm_run.proofs.Inputs.{input_down, input_end}
use Rattle.wm_run.proofs.Runs.{at_grown, ended_if, full_exactly, full_not, fault_status, session_parts, stopped_not, stopped_on}
use Rattle.wm_run.proofs.Growing.{Continues, Continues-then, entries-then}
use Rattle.wm_run.proofs.StoppedRuns.{full_later, full_pass, full_read, input_stops, input_stops_in, input_stops_last, input_stops_none, stopped_begin, stopped_end, stopped_lines}
use Rattle.wm_run.proofs.Takings.{AnsweredBy-behind, TakesPiece-lines}

-- the lines of the pieces that were taken are those that have ended
pub ended_lines : {user : List ℕ} (xs : List ℕ) (b : Part) (o : History) (es : List Entry) (u v : Option (List ℕ)) (f : Bool) → TakesPiece user fresh xs b [] o es u v f → AnswersEnded user xs o es u v
ended_lines {user} xs b o es u v f h =
    let last = letter_line b in
    record {
      lines = h.lines;
      ended = record { last = last.0; whole = TakesPiece-lines b xs (88 ∷ []) o es u v f h ∙ ap (λ (l : List (Option (List ℕ))). h.lines ++ l) last.1 };
      faulty = f;
      answered = h.answered;
    }

-- entries follow among which the session made no call
ended_behind : {user : List ℕ} (xs : List ℕ) (o : History) (es fs : List Entry) (u v : Option (List ℕ)) → IsUncalled fs → AnswersEnded user xs o es u v → AnswersEnded user xs o (es ++ fs) u v
ended_behind {user} xs o es fs u v none h = record { lines = h.lines; ended = h.ended; faulty = h.faulty; answered = AnsweredBy-behind user h.lines o es fs u v h.faulty none h.answered }

if_ok_err : {T : Type 0} (P : T → Type 0) (r : Result T Halt) (e : Halt) → r ≡ Err e → IfOk r P
if_ok_err {T} P r e is = subst (λ (q : Result T Halt). IfOk q P) (sym is) tt

-- a session's lines that stopped
pub came_stopped : {user : List ℕ} (r : Result Answered Halt) (e : Halt) (bytes : List ℕ) (o : History) (es : List Entry) (u v : Option (List ℕ)) → r ≡ Err e → StopsIn user (logical_lines bytes) o es u v → (IsErrOf r ReadFault → AnswersEnded user bytes o es u v) → (IsErrOf r InputFull ↔ (1000000000 < length bytes)) → LinesCame user bytes r o es u v
came_stopped {user} r e bytes o es u v is stops cut full = record { answered = if_ok_err (λ (a : Answered). AnsweredBy (Answers user (logical_lines bytes) o) es u v a.faulty) r e is; stopped = on_err r stops; cut_off = cut; full = full }

never_full : {T : Type 0} (r : Result T Halt) (bytes : List ℕ) → (IsErrOf r InputFull → ⊥) → length bytes ≤ 1000000000 → IsErrOf r InputFull ↔ (1000000000 < length bytes)
never_full r bytes never few = ((λ f. absurd (never f)), (λ more. absurd (omega (arith, more, few))))

-- those that stopped without a fault of reading, and not for the input's length
pub came_fault : {user : List ℕ} (r : Result Answered Halt) (e : Halt) (bytes : List ℕ) (o : History) (es : List Entry) (u v : Option (List ℕ)) → r ≡ Err e → StopsIn user (logical_lines bytes) o es u v → (IsErrOf r ReadFault → ⊥) → (IsErrOf r InputFull → ⊥) → length bytes ≤ 1000000000 → LinesCame user bytes r o es u v
came_fault {user} r e bytes o es u v is stops read full few = came_stopped r e bytes o es u v is stops (λ f. absurd (read f)) (never_full r bytes full few)

-- those that were answered
pub came_answered : {user : List ℕ} (a : Answered) (bytes : List ℕ) (o : History) (es : List Entry) (u v : Option (List ℕ)) → AnsweredBy (Answers user (logical_lines bytes) o) es u v a.faulty → length bytes ≤ 1000000000 → LinesCame user bytes (Ok a) o es u v
came_answered {user} a bytes o es u v h few = record { answered = h; stopped = tt; cut_off = λ r. absurd (cc); full = never_full (Ok a) bytes (λ r. absurd (cc)) few }

-- nothing was taken
pub came_none : (user : List ℕ) (r : Result Answered Halt) (e : Halt) (x : Option (List ℕ)) (history : History) (w : Option (List ℕ)) → r ≡ Err e → (IsErrOf r ReadFault → ⊥) → (IsErrOf r InputFull → ⊥) → TakesInput x x (λ bytes. LinesCame user bytes r history (entries_between history history) w w)
came_none user r e x history w is read full =
    let h = input_stops_none user x history w in
    record { bytes = []; taken = Takes-none x; done = came_fault r e [] history (entries_between history history) w w is h.done read full (omega arith) }

-- a read stopped it
pub came_read : {user : List ℕ} (r : Result Answered Halt) (q : Result ℕ Halt) (e d : Halt) (x y z : Option (List ℕ)) (b : Part) (o : History) (es : List Entry) (u v : Option (List ℕ)) (f : Bool) (sum : ℕ) → q ≡ Err e → r ≡ Err d → d ≡ e → TakesInput x y (λ bytes. SoFar user b o es u v f sum bytes) → TakesInput y z (λ bytes. StopsReading bytes sum q) → TakesInput x z (λ bytes. LinesCame user bytes r o es u v)
came_read {user} r q e d x y z b o es u v f sum was is same h k =
    let xs = h.bytes in
    let ys = k.bytes in
    let stops = input_stops x y z b o es u v f ys (record { bytes = xs; taken = h.taken; done = h.done.lines }) k.taken in
    let full = full_read q r e d x y z sum was is same (record { bytes = xs; taken = h.taken; done = h.done.count }) (record { bytes = ys; taken = k.taken; done = k.done.full }) in
    let whole : ys ≡ [] → xs ++ ys ≡ xs = λ none. ap (λ (l : List ℕ). xs ++ l) none ∙ append-nil xs in
    record {
      bytes = xs ++ ys;
      taken = stops.taken;
      done = came_stopped r d (xs ++ ys) o es u v is stops.done (λ read. subst (λ (l : List ℕ). AnswersEnded user l o es u v) (sym (whole (k.done.none (cc)))) (ended_lines xs b o es u v f h.done.lines)) full.done;
    }

-- the answer of the last line stopped it
pub came_last : {user : List ℕ} (r : Result Answered Halt) (e : Halt) (x y : Option (List ℕ)) (b : Part) (old mid new : History) (u v w : Option (List ℕ)) (f : Bool) (sum : ℕ) → r ≡ Err e → (IsErrOf r ReadFault → ⊥) → (IsErrOf r InputFull → ⊥) → sum ≤ 1000000000 → is_down (entries_between old mid) ≡ false → Continues old mid → Continues mid new → TakesInput x y (λ bytes. SoFar user b old (entries_between old mid) u v f sum bytes) → StopsIn user (lines_from b []) mid (entries_between mid new) v w → TakesInput x y (λ bytes. LinesCame user bytes r old (entries_between old new) u w)
came_last {user} r e x y b old mid new u v w f sum is read full few up begun grown h k =
    let stops = input_stops_last x y b old mid new u v w f up begun grown (record { bytes = h.bytes; taken = h.taken; done = h.done.lines }) k in
    record { bytes = h.bytes; taken = h.taken; done = came_fault r e h.bytes old (entries_between old new) u w is stops.done read full (omega (arith, h.done.count, few)) }

-- the answer of a line of a piece stopped it
pub came_in : {user : List ℕ} (r : Result Answered Halt) (e : Halt) (x y z : Option (List ℕ)) (b : Part) (old mid new : History) (u v w : Option (List ℕ)) (f : Bool) (sum : ℕ) (ys : List ℕ) → r ≡ Err e → (IsErrOf r ReadFault → ⊥) → (IsErrOf r InputFull → ⊥) → sum + length ys ≤ 1000000000 → is_down (entries_between old mid) ≡ false → Continues old mid → Continues mid new → TakesInput x y (λ bytes. SoFar user b old (entries_between old mid) u v f sum bytes) → Takes y ys z → ((more : List ℕ) → StopsIn user (lines_from b (ys ++ more)) mid (entries_between mid new) v w) → TakesInput x z (λ bytes. LinesCame user bytes r old (entries_between old new) u w)
came_in {user} r e x y z b old mid new u v w f sum ys is read full few up begun grown h more k =
    let stops = input_stops_in x y z b old mid new u v w f ys up begun grown (record { bytes = h.bytes; taken = h.taken; done = h.done.lines }) more k in
    record { bytes = h.bytes ++ ys; taken = stops.taken; done = came_fault r e (h.bytes ++ ys) old (entries_between old new) u w is stops.done read full (omega (arith, length-append h.bytes ys, h.done.count, few)) }

-- the whole input was answered
pub came_end : {user : List ℕ} (x y : Option (List ℕ)) (b : Part) (old mid new : History) (u v w : Option (List ℕ)) (f g : Bool) (a : Answered) (sum : ℕ) → a.faulty ≡ (f || g) → sum ≤ 1000000000 → is_down (entries_between old mid) ≡ false → Continues old mid → Continues mid new → TakesInput x y (λ bytes. SoFar user b old (entries_between old mid) u v f sum bytes) → AnsweredBy (Answers user (lines_from b []) mid) (entries_between mid new) v w g → TakesInput x y (λ bytes. LinesCame user bytes (Ok a) old (entries_between old new) u w)
came_end {user} x y b old mid new u v w f g a sum is few up begun grown t k =
    let all = input_end x y b old mid new u v w f g a.faulty is up begun grown (record { bytes = t.bytes; taken = t.taken; done = t.done.lines }) k in
    record { bytes = t.bytes; taken = t.taken; done = came_answered a t.bytes old (entries_between old new) u w all.done (omega (arith, t.done.count, few)) }

-- the lines up to the one that put the power down were answered
pub came_down : {user : List ℕ} (x y z : Option (List ℕ)) (b c : Part) (ys rest : List ℕ) (old mid new : History) (u v w : Option (List ℕ)) (f g : Bool) (a : Answered) (sum : ℕ) → a.faulty ≡ (f || g) → sum + length ys ≤ 1000000000 → is_down (entries_between old mid) ≡ false → is_down (entries_between old new) ≡ true → Continues old mid → Continues mid new → TakesInput x y (λ bytes. SoFar user b old (entries_between old mid) u v f sum bytes) → Takes y ys z → TakesPiece user b ys c rest mid (entries_between mid new) v w g → TakesInput x z (λ bytes. LinesCame user bytes (Ok a) old (entries_between old new) u w)
came_down {user} x y z b c ys rest old mid new u v w f g a sum is few up down begun grown t more k =
    let all = input_down x y z b c ys rest old mid new u v w f g a.faulty is up down begun grown (record { bytes = t.bytes; taken = t.taken; done = t.done.lines }) more k in
    record { bytes = t.bytes ++ ys; taken = all.taken; done = came_answered a (t.bytes ++ ys) old (entries_between old new) u w all.done (omega (arith, length-append t.bytes ys, t.done.count, few)) }

on_err_of : {T P : Type 0} (r : Result T Halt) (e : Halt) → r ≡ Err e → OnErr r P → P
on_err_of {T} {P} r e is h = subst (λ (q : Result T Halt). OnErr q P) is h

if_ok_of : {T : Type 0} (P : T → Type 0) (r : Result T Halt) (t : T) → r ≡ Ok t → IfOk r P → P t
if_ok_of {T} P r t is h = subst (λ (q : Result T Halt). IfOk q P) is h

-- a session that stopped as it began
pub came_begin : (settings : Settings) (r : Result Bool Halt) (e : Halt) (a b d : History) (x w : Option (List ℕ)) → r ≡ Err e → (IsErrOf r ReadFault → ⊥) → (IsErrOf r InputFull → ⊥) → Continues a b → Continues b d → IsUncalled (entries_between b d) → (IsUncalled (entries_between a b) → entries_between a d ≡ []) → AtMostOne (start_call settings.ctl) (entries_between a b) → TakesInput x x (λ bytes. SessionCame settings bytes x r a (entries_between a d) w w)
came_begin settings r e a b d x w is read full ab bd uncalled unbegun (inl none) =
    let h = stopped_begin settings a b d x w ab bd uncalled unbegun (inl none) in
    record { bytes = []; taken = Takes-none x; done = record { session = if_ok_err _ r e is; stopped = on_err r h.done; cut_off = λ f. absurd (read f); full = never_full r [] full (omega arith) } }
came_begin settings r e a b d x w is read full ab bd uncalled unbegun (inr start) =
    let h = stopped_begin settings a b d x w ab bd uncalled unbegun (inr start) in
    record { bytes = []; taken = Takes-none x; done = record { session = if_ok_err _ r e is; stopped = on_err r h.done; cut_off = λ f. absurd (read f); full = never_full r [] full (omega arith) } }

-- one that stopped in its lines
pub came_lines : (settings : Settings) (r : Result Bool Halt) (q : Result Answered Halt) (e d : Halt) (a b c whole : History) (x y u v : Option (List ℕ)) → q ≡ Err e → r ≡ Err d → d ≡ e → Continues a b → Continues b c → Continues c whole → IsUncalled (entries_between c whole) → OneCall (start_call settings.ctl) (entries_between a b) → TakesInput x y (λ bytes. LinesCame settings.user bytes q b (entries_between b c) u v) → TakesInput x y (λ bytes. SessionCame settings bytes y r a (entries_between a whole) u v)
came_lines settings r q e d a b c whole x y u v was is same ab bc cd uncalled start h =
    let fs = entries_between b c in
    let gs = entries_between c whole in
    let bd = Continues-then b c whole bc cd in
    let stops = stopped_lines settings a b c whole x y u v ab bc cd uncalled start (record { bytes = h.bytes; taken = h.taken; done = on_err_of q e was h.done.stopped }) in
    let full = full_pass q r e d x y was is same (record { bytes = h.bytes; taken = h.taken; done = h.done.full }) in
    record {
      bytes = h.bytes;
      taken = h.taken;
      done = record {
        session = if_ok_err _ r d is;
        stopped = on_err r stops.done;
        cut_off = λ f. record {
          first = entries_between a b;
          middle = entries_between b whole;
          parts = entries-then a b whole ab bd;
          start = start;
          answers = at_grown (λ (o : History). AnswersEnded settings.user h.bytes o (entries_between b whole) u v) a b ab
              (subst (λ (es : List Entry). AnswersEnded settings.user h.bytes b es u v) (sym (entries-then b c whole bc cd)) (ended_behind h.bytes b fs gs u v uncalled (h.done.cut_off (cc))));
        };
        full = full.done;
      };
    }

-- one that stopped behind them
pub came_behind : (settings : Settings) (r : Result Bool Halt) (q : Result Answered Halt) (e : Halt) (t : Answered) (a b c d : History) (x y u v : Option (List ℕ)) → q ≡ Ok t → r ≡ Err e → (IsErrOf r ReadFault → ⊥) → (IsErrOf r InputFull → ⊥) → Continues a b → Continues b c → Continues c d → OneCall (start_call settings.ctl) (entries_between a b) → TakesInput x y (λ bytes. LinesCame settings.user bytes q b (entries_between b c) u v) → MayClose (is_down (entries_between b c)) c (entries_between c d) → (is_down (entries_between b c) ≡ false → IsAtEnd y) → TakesInput x y (λ bytes. SessionCame settings bytes y r a (entries_between a d) u v)
came_behind settings r q e t a b c d x y u v was is read never ab bc cd start h (inl none) at_end =
    let stops = stopped_end settings a b c d x y u v t.faulty ab bc cd start (record { bytes = h.bytes; taken = h.taken; done = if_ok_of _ q t was h.done.answered }) (inl none) at_end in
    let full = full_later q r t x y was never (record { bytes = h.bytes; taken = h.taken; done = h.done.full }) in
    record { bytes = h.bytes; taken = h.taken; done = record { session = if_ok_err _ r e is; stopped = on_err r stops.done; cut_off = λ g. absurd (read g); full = full.done } }
came_behind settings r q e t a b c d x y u v was is read never ab bc cd start h (inr end) at_end =
    let stops = stopped_end settings a b c d x y u v t.faulty ab bc cd start (record { bytes = h.bytes; taken = h.taken; done = if_ok_of _ q t was h.done.answered }) (inr end) at_end in
    let full = full_later q r t x y was never (record { bytes = h.bytes; taken = h.taken; done = h.done.full }) in
    record { bytes = h.bytes; taken = h.taken; done = record { session = if_ok_err _ r e is; stopped = on_err r stops.done; cut_off = λ g. absurd (read g); full = full.done } }

-- one that ended
pub came_session : (settings : Settings) (q : Result Answered Halt) (t : Answered) (a b c d : History) (x y u v : Option (List ℕ)) → q ≡ Ok t → Continues a b → Continues b c → Continues c d → OneCall (start_call settings.ctl) (entries_between a b) → TakesInput x y (λ bytes. LinesCame settings.user bytes q b (entries_between b c) u v) → Closes (is_down (entries_between b c)) c (entries_between c d) → (is_down (entries_between b c) ≡ false → IsAtEnd y) → TakesInput x y (λ bytes. SessionCame settings bytes y (Ok t.faulty) a (entries_between a d) u v)
came_session settings q t a b c d x y u v was ab bc cd start h end at_end =
    let whole = session_parts settings a b c d x y u v t.faulty ab bc cd start (record { bytes = h.bytes; taken = h.taken; done = if_ok_of _ q t was h.done.answered }) end at_end in
    let full = full_later q (Ok t.faulty) t x y was (λ g. absurd (cc)) (record { bytes = h.bytes; taken = h.taken; done = h.done.full }) in
    record { bytes = h.bytes; taken = h.taken; done = record { session = whole.done; stopped = tt; cut_off = λ g. absurd (cc); full = full.done } }

-- a run, of a history that begins with nothing
pub came_run : (settings : Settings) (r : Result Bool Halt) (status : ℕ) (first last : History) (whole : List Entry) (x y u v : Option (List ℕ)) → status ≡ ended_status r → first.log ≡ [] → whole ≡ last.log → TakesInput x y (λ bytes. SessionCame settings bytes y r first (entries_between first last) u v) → RunTakes settings x y status whole u v first.opened
came_run settings r status first last whole x y u v is none same h =
    let o = at_opening first.opened in
    let begins : first ≡ o = ap (λ (l : List Entry). record { opened = first.opened; log = l }) none in
    let from : since first.log last.log ≡ last.log = ap (λ (l : List Entry). since l last.log) none in
    let all : entries_between first last ≡ whole = from ∙ sym same in
    let k : SessionCame settings h.bytes y r o whole u v = subst (λ (h' : History). SessionCame settings h.bytes y r h' whole u v) begins (subst (λ (es : List Entry). SessionCame settings h.bytes y r first es u v) all h.done) in
    let full = full_exactly r x y (record { bytes = h.bytes; taken = h.taken; done = k.full }) in
    let P : ℕ → Type 0 = λ n. RunCame settings h.bytes y n o whole u v in
    record {
      bytes = h.bytes;
      taken = h.taken;
      done = subst P (sym is) (record {
        session = ended_if _ r k.session;
        stopped = stopped_on _ r k.stopped;
        cut_off = λ s. k.cut_off (fault_status ReadFault r s);
        full = full.done;
      });
    }

-- a run that wasn't begun, of any state
pub came_not : (settings : Settings) (status : ℕ) (log : List Entry) (x w : Option (List ℕ)) → 1 < status → status < 11 → (status ≡ 3 → ⊥) → log ≡ [] → (s : State) → RunTakes settings x x status log w w s
came_not settings status log x w high less other none s =
    let h = stopped_not settings (at_opening s) log x w none in
    record {
      bytes = [];
      taken = Takes-none x;
      done = record { session = λ low. absurd (omega (arith, low, high)); stopped = λ _. h.done; cut_off = λ s. absurd (other s); full = (full_not status x less).done };
    }
