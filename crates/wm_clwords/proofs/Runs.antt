-- Runs of the reader: where they stop, and that what doesn't stop can be completed.
use Rattle.std.proofs.Common.{◌≡◌, ◌⊎◌, ℕ, ◌+◌, ◌++◌, List, [], ◌∷◌, length, take, suc, Result, Ok, Err, IfOk, subst, sym, ◌∙◌, ap, refl, arith, inl, inr}
use Rattle.std.proofs.Math.Seq.{take-append_seam}
use Rattle.std.proofs.lemmas.List.{length-append, append_assoc, append-nil, length_push}
use Rattle.wm_clwords.specs.declared.mode.Mode.{Mode}
use Rattle.wm_clwords.specs.declared.mode.Mode.TheVariants.{Free, Slash, InWord, InQuoted, AtApostrophe, AfterSlash, InComment, AtStar}
use Rattle.wm_clwords.specs.declared.fault.ClFault.{ClFault}
use Rattle.wm_clwords.specs.Grammar.{Word, Quoted, Close, Mark}
use Rattle.wm_clwords.specs.Reading.{State, mark, Went, step, finish, with_front, with_rest, run, begun}
use Rattle.wm_clwords.specs.Faults.{Begins, StopsAt}
use Rattle.wm_clwords.proofs.Completeness.{Marks, front_nil, run-Spells}
use Rattle.wm_clwords.proofs.Soundness.{Spells-run}
use Rattle.wm_clwords.proofs.Explained.{ExplainedBy, explained_by}

pub front_front : (a b : List Mark) (r : Marks) → with_front a (with_front b r) ≡ with_front (a ++ b) r
front_front a b (Ok m) = ap Ok (sym (append_assoc a b m))
front_front a b (Err f) = refl

pub ok_no_fault : (ms : List Mark) (f : ClFault) → ◌≡◌ {A = Marks} (Ok ms) (Err f) → ⊥
ok_no_fault ms f e = cc

pub went_no_fault : (w : State × List Mark) (f : ClFault) → ◌≡◌ {A = Went} (Ok w) (Err f) → ⊥
went_no_fault w f e = cc

state_no_fault : (s : State) (f : ClFault) → ◌≡◌ {A = Result State ClFault} (Ok s) (Err f) → ⊥
state_no_fault s f e = cc

pub same_fault : {A : Type 0} (f g : ClFault) → ◌≡◌ {A = Result A ClFault} (Err f) (Err g) → f ≡ g
same_fault f g e = cc

same_state : (s t : State) → ◌≡◌ {A = Result State ClFault} (Ok s) (Ok t) → s ≡ t
same_state s t e = cc

-- the state after bytes, or the first fault
abbrev pub steps_on : Went → (State → Result State ClFault) → Result State ClFault
steps_on (Ok went) next = next went.0
steps_on (Err fault) next = Err fault

abbrev pub steps : State → ℕ → List ℕ → Result State ClFault
steps state place [] = Ok state
steps state place (b ∷ bytes) = steps_on (step state place b) (λ next. steps next (place + 1) bytes)

-- a run goes on from where its front leads
run_on_ok : (went : Went) (place : ℕ) (front rest : List ℕ) (state : State)
    → ((w : State) → steps w (place + 1) front ≡ Ok state → (ms : List Mark) × (run w (place + 1) (front ++ rest) ≡ with_front ms (run state (place + 1 + length front) rest)))
    → steps_on went (λ next. steps next (place + 1) front) ≡ Ok state
    → (ms : List Mark) × (with_rest went (λ next. run next (place + 1) (front ++ rest)) ≡ with_front ms (run state (place + suc (length front)) rest))
run_on_ok (Ok w) place front rest state ih e =
    let h = ih w.0 e in
    (w.1 ++ h.0, ap (with_front w.1) (h.1 ∙ ap (λ n. with_front h.0 (run state n rest)) (omega arith)) ∙ front_front w.1 h.0 _)
run_on_ok (Err f) place front rest state ih e = absurd (state_no_fault state f (sym e))

pub run-steps : (front rest : List ℕ) (state : State) (place : ℕ) (next : State) → steps state place front ≡ Ok next
    → (ms : List Mark) × (run state place (front ++ rest) ≡ with_front ms (run next (place + length front) rest))
run-steps [] rest state place next e =
    ([], ap (λ s. run s place rest) (same_state state next e) ∙ ap (λ n. run next n rest) (omega arith) ∙ sym (front_nil _))
run-steps (b ∷ front) rest state place next e =
    run_on_ok (step state place b) place front rest next (λ w h. run-steps front rest w (place + 1) next h) e

run_on_err : (went : Went) (place : ℕ) (front rest : List ℕ) (f : ClFault)
    → ((w : State) → steps w (place + 1) front ≡ Err f → run w (place + 1) (front ++ rest) ≡ Err f)
    → steps_on went (λ next. steps next (place + 1) front) ≡ Err f → with_rest went (λ next. run next (place + 1) (front ++ rest)) ≡ Err f
run_on_err (Ok w) place front rest f ih e = ap (with_front w.1) (ih w.0 e)
run_on_err (Err g) place front rest f ih e = ap Err (same_fault g f e)

pub run-stopped : (front rest : List ℕ) (state : State) (place : ℕ) (f : ClFault) → steps state place front ≡ Err f → run state place (front ++ rest) ≡ Err f
run-stopped [] rest state place f e = absurd (state_no_fault state f e)
run-stopped (b ∷ front) rest state place f e =
    run_on_err (step state place b) place front rest f (λ w h. run-stopped front rest w (place + 1) f h) e

-- steps one after another
steps_ok_push : (went : Went) (place : ℕ) (front : List ℕ) (next : State) (b : ℕ)
    → ((w : State) → steps w (place + 1) front ≡ Ok next → steps w (place + 1) (front ++ b ∷ []) ≡ steps_on (step next (place + 1 + length front) b) (λ n. Ok n))
    → steps_on went (λ n. steps n (place + 1) front) ≡ Ok next
    → steps_on went (λ n. steps n (place + 1) (front ++ b ∷ [])) ≡ steps_on (step next (place + suc (length front)) b) (λ n. Ok n)
steps_ok_push (Ok w) place front next b ih e = ih w.0 e ∙ ap (λ n. steps_on (step next n b) (λ n. Ok n)) (omega arith)
steps_ok_push (Err f) place front next b ih e = absurd (state_no_fault next f (sym e))

pub steps-push : (front : List ℕ) (state : State) (place : ℕ) (next : State) (b : ℕ) → steps state place front ≡ Ok next
    → steps state place (front ++ b ∷ []) ≡ steps_on (step next (place + length front) b) (λ n. Ok n)
steps-push [] state place next b e =
    ap (λ s. steps_on (step s place b) (λ n. Ok n)) (same_state state next e) ∙ ap (λ n. steps_on (step next n b) (λ n. Ok n)) (omega arith)
steps-push (a ∷ front) state place next b e =
    steps_ok_push (step state place a) place front next b (λ w h. steps-push front w (place + 1) next b h) e

-- the state after whole bytes is explained
then_explained : (went : Went) (done : List ℕ) (place : ℕ) (front : List ℕ) (next : State)
    → IfOk went (λ w. ExplainedBy w.0 done) → ((w : State) → ExplainedBy w done → steps w place front ≡ Ok next → ExplainedBy next (done ++ front))
    → steps_on went (λ n. steps n place front) ≡ Ok next → ExplainedBy next (done ++ front)
then_explained (Ok w) done place front next h ih e = ih w.0 h e
then_explained (Err f) done place front next h ih e = absurd (state_no_fault next f (sym e))

pub steps-explained : (front done : List ℕ) (state next : State) → ExplainedBy state done → steps state (length done) front ≡ Ok next → ExplainedBy next (done ++ front)
steps-explained [] done state next h e =
    subst (λ (s : State). ExplainedBy s (done ++ [])) (same_state state next e) (subst (λ (l : List ℕ). ExplainedBy state l) (sym (append-nil done)) h)
steps-explained (b ∷ front) done state next h e =
    let ih : (w : State) → ExplainedBy w (done ++ b ∷ []) → steps w (length done + 1) front ≡ Ok next → ExplainedBy next ((done ++ b ∷ []) ++ front) =
    λ w hw ew. steps-explained front (done ++ b ∷ []) w next hw (ap (λ n. steps w n front) (length_push done b) ∙ ew) in
    subst (λ (l : List ℕ). ExplainedBy next l) (append_assoc done (b ∷ []) front)
    (then_explained (step state (length done) b) (done ++ b ∷ []) (length done + 1) front next (explained_by state.mode state.start state.held state.opens done b h) ih e)

-- what doesn't stop can be completed
abbrev CanEnd : State → ℕ → Type 0
CanEnd state place = (suffix : List ℕ) × ((ms : List Mark) × (run state place suffix ≡ Ok ms))

ends_behind : (front : List Mark) (r : Marks) → (ms : List Mark) × (r ≡ Ok ms) → (ms : List Mark) × (with_front front r ≡ Ok ms)
ends_behind front r h = (front ++ h.0, ap (with_front front) h.1)

abbrev at_mode : Mode → ℕ → List ℕ → List ℕ → State
at_mode mode start held opens = record { mode = mode; start = start; held = held; opens = opens }

free_end : (opens : List ℕ) (start : ℕ) (held : List ℕ) (place : ℕ) → CanEnd (at_mode Free start held opens) place
free_end [] start held place = ([], ([], refl))
free_end (o ∷ opens) start held place =
    let h = free_end opens 0 [] (place + 1) in (41 ∷ h.0, ends_behind (mark place (place + 1) Close ∷ []) _ h.1)

word_end : (opens : List ℕ) (start : ℕ) (held : List ℕ) (place : ℕ) → CanEnd (at_mode InWord start held opens) place
word_end [] start held place = ([], (_, refl))
word_end (o ∷ opens) start held place =
    let h = free_end opens 0 [] (place + 1) in (41 ∷ h.0, ends_behind (mark start place (Word held) ∷ mark place (place + 1) Close ∷ []) _ h.1)

slash_end : (opens : List ℕ) (start : ℕ) (held : List ℕ) (place : ℕ) → CanEnd (at_mode Slash start held opens) place
slash_end [] start held place = ([], (_, refl))
slash_end (o ∷ opens) start held place =
    let h = free_end opens 0 [] (place + 1) in (41 ∷ h.0, ends_behind (mark start place (Word held) ∷ mark place (place + 1) Close ∷ []) _ h.1)

apostrophe_end : (opens : List ℕ) (start : ℕ) (held : List ℕ) (place : ℕ) → CanEnd (at_mode AtApostrophe start held opens) place
apostrophe_end [] start held place = ([], (_, refl))
apostrophe_end (o ∷ opens) start held place =
    let h = free_end opens 0 [] (place + 1) in (41 ∷ h.0, ends_behind (mark start place (Quoted held) ∷ mark place (place + 1) Close ∷ []) _ h.1)

star_end : (opens : List ℕ) (start : ℕ) (held : List ℕ) (place : ℕ) → CanEnd (at_mode AtStar start held opens) place
star_end opens start held place = let h = free_end opens 0 [] (place + 1) in (47 ∷ h.0, ends_behind [] _ h.1)

comment_end : (opens : List ℕ) (start : ℕ) (held : List ℕ) (place : ℕ) → CanEnd (at_mode InComment start held opens) place
comment_end opens start held place = let h = star_end opens start [] (place + 1) in (42 ∷ h.0, ends_behind [] _ h.1)

can_end_by : (mode : Mode) (start : ℕ) (held opens : List ℕ) (place : ℕ) → CanEnd (at_mode mode start held opens) place
can_end_by Free start held opens place = free_end opens start held place
can_end_by Slash start held opens place = slash_end opens start held place
can_end_by InWord start held opens place = word_end opens start held place
can_end_by InQuoted start held opens place = let h = apostrophe_end opens start held (place + 1) in (39 ∷ h.0, ends_behind [] _ h.1)
can_end_by AtApostrophe start held opens place = apostrophe_end opens start held place
can_end_by AfterSlash start held opens place = let h = comment_end opens start [] (place + 1) in (42 ∷ h.0, ends_behind [] _ h.1)
can_end_by InComment start held opens place = comment_end opens start held place
can_end_by AtStar start held opens place = star_end opens start held place

pub can_end : (state : State) (place : ℕ) → CanEnd state place
can_end state place = can_end_by state.mode state.start state.held state.opens place

-- the bytes begin some spelled text just where the reader doesn't stop
pub begins_from : (front : List ℕ) (state : State) → steps begun 0 front ≡ Ok state → Begins front
begins_from front state e =
    let h = can_end state (0 + length front) in
    let r = run-steps front h.0 begun 0 state e in
    record { rest = h.0; marks = r.0 ++ h.1.0; spells = Spells-run (front ++ h.0) (r.0 ++ h.1.0) (r.1 ∙ ap (with_front r.0) h.1.1) }

begins_by : (front : List ℕ) (r : Result State ClFault) → steps begun 0 front ≡ r → Begins front → (state : State) × (steps begun 0 front ≡ Ok state)
begins_by front (Ok state) e h = (state, e)
begins_by front (Err f) e h = absurd (ok_no_fault h.marks f (sym (run-Spells (front ++ h.rest) h.marks h.spells) ∙ run-stopped front h.rest begun 0 f e))

pub steps_from : (front : List ℕ) → Begins front → (state : State) × (steps begun 0 front ≡ Ok state)
steps_from front h = begins_by front (steps begun 0 front) refl h

-- a fault comes at a byte, or at the end
pub record StopsBy (state : State) (place : ℕ) (bytes : List ℕ) (f : ClFault) : Type 0 where
  pub front : List ℕ
  pub byte : ℕ
  pub more : List ℕ
  pub next : State
  pub written : bytes ≡ front ++ byte ∷ more
  pub led : steps state place front ≡ Ok next
  pub stop : step next (place + length front) byte ≡ Err f

pub record EndsBy (state : State) (place : ℕ) (bytes : List ℕ) (f : ClFault) : Type 0 where
  pub next : State
  pub led : steps state place bytes ≡ Ok next
  pub stop : finish next (place + length bytes) ≡ Err f

fault_front : (front : List Mark) (r : Marks) (f : ClFault) → with_front front r ≡ Err f → r ≡ Err f
fault_front front (Ok m) f e = absurd (ok_no_fault (front ++ m) f e)
fault_front front (Err g) f e = e

split_on : (state : State) (place b : ℕ) (bytes : List ℕ) (f : ClFault) (went : Went) → step state place b ≡ went
    → ((w : State) → run w (place + 1) bytes ≡ Err f → StopsBy w (place + 1) bytes f ⊎ EndsBy w (place + 1) bytes f)
    → with_rest went (λ next. run next (place + 1) bytes) ≡ Err f → StopsBy state place (b ∷ bytes) f ⊎ EndsBy state place (b ∷ bytes) f
split_on state place b bytes f (Ok w) s ih e =
    elim (ih w.0 (fault_front w.1 (run w.0 (place + 1) bytes) f e)) [
      | inl h ↦ inl (record {
        front = b ∷ h.front;
        byte = h.byte;
        more = h.more;
        next = h.next;
        written = ap (λ l. b ∷ l) h.written;
        led = ap (λ x. steps_on x (λ n. steps n (place + 1) h.front)) s ∙ h.led;
        stop = ap (λ n. step h.next n h.byte) (omega arith) ∙ h.stop;
      })
      | inr h ↦ inr (record {
        next = h.next;
        led = ap (λ x. steps_on x (λ n. steps n (place + 1) bytes)) s ∙ h.led;
        stop = ap (λ n. finish h.next n) (omega arith) ∙ h.stop;
      })
    ]
split_on state place b bytes f (Err g) s ih e =
    inl (record {
      front = [];
      byte = b;
      more = bytes;
      next = state;
      written = refl;
      led = refl;
      stop = ap (λ n. step state n b) (omega arith) ∙ s ∙ ap Err (same_fault g f e);
    })

pub fault_split : (bytes : List ℕ) (state : State) (place : ℕ) (f : ClFault) → run state place bytes ≡ Err f → StopsBy state place bytes f ⊎ EndsBy state place bytes f
fault_split [] state place f e = inr (record { next = state; led = refl; stop = ap (λ n. finish state n) (omega arith) ∙ e })
fault_split (b ∷ bytes) state place f e =
    split_on state place b bytes f (step state place b) refl (λ w h. fault_split bytes w (place + 1) f h) e

-- where the reader stops, the bytes stop to begin a spelled text
pub stops_at : (bytes front : List ℕ) (b : ℕ) (more : List ℕ) (state : State) (f : ClFault) → bytes ≡ front ++ b ∷ more → steps begun 0 front ≡ Ok state → step state (length front) b ≡ Err f → StopsAt bytes (length front)
stops_at bytes front b more state f written led stop =
    let before : take (length front) bytes ≡ front = ap (take (length front)) written ∙ take-append_seam front (b ∷ more) in
    let with_byte : take (length front + 1) bytes ≡ front ++ b ∷ [] =
    ap (take (length front + 1)) (written ∙ sym (append_assoc front (b ∷ []) more)) ∙ ap (λ n. take n ((front ++ b ∷ []) ++ more)) (sym (length_push front b)) ∙ take-append_seam (front ++ b ∷ []) more in
    let stopped : steps begun 0 (front ++ b ∷ []) ≡ Err f = steps-push front begun 0 state b led ∙ ap (λ n. steps_on (step state n b) (λ n. Ok n)) (omega arith) ∙ ap (λ x. steps_on x (λ n. Ok n)) stop in
    record {
      within = omega (arith, ap length written, length-append front (b ∷ more));
      before = subst (λ (l : List ℕ). Begins l) (sym before) (begins_from front state led);
      here = λ h. let s = steps_from (front ++ b ∷ []) (subst (λ (l : List ℕ). Begins l) with_byte h) in state_no_fault s.0 f (sym s.1 ∙ stopped);
    }
