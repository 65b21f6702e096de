-- What the call of a command comes to.
use Rattle.std.proofs.Common.{◌≡◌, ◌<◌, ◌≤◌, inl, inr, ℕ, Bool, true, false, ◌||◌, List, [], ◌∷◌, ◌++◌, length, Ok, Err, refl, sym, ap, subst, ◌∙◌, arith}
use Rattle.std.specs.List.{list_any}
use Rattle.std.proofs.lemmas.List.{append-nil}
use Rattle.std.proofs.lemmas.List.Prefix.{front_rest}
use Rattle.wm_floor.specs.Causes.{HasMarkCause}
use Rattle.wm_floor.specs.Floor.{HasLooked, IsCalled, Seen, entry_of}
use Rattle.wm_floor.specs.declared.answer.Answered.{Answered}
use Rattle.wm_floor.specs.declared.opened.Opened.{Opened}
use Rattle.wm_http.specs.declared.answer.Answer.{Answer}
use Rattle.wm_http.specs.declared.answer.Answer.TheVariants.{NoMemory as no_memory}
use Rattle.wm_floor.specs.declared.call_fault.CallFault.{CallFault}
use Rattle.wm_floor.specs.declared.call_fault.CallFault.TheVariants.{KeeperFault, LogFull, NoMemory}
use Rattle.wm_law.specs.declared.call.Call.{Call}
use Rattle.wm_law.specs.declared.call.Call.TheVariants.{Change}
use Rattle.wm_law.specs.declared.call.Entry.{Entry}
use Rattle.wm_law.specs.declared.command.Ask.{Ask}
use Rattle.wm_law.specs.declared.command.Command.{Command}
use Rattle.wm_run.specs.Answer.{is_power_down}
use Rattle.wm_turn.specs.Passed.{StartsWith}
use Rattle.wm_web.specs.Answered.{AnswersCall, AnswersRead, Enters, Fails, HasWhy, IsTakenUp, entered_answer, failed_answer, is_down}
use Rattle.wm_web.specs.Told.{Tells}

or_false : (a : Bool) → (a || false) ≡ a
or_false true = refl
or_false false = refl

module _ {K : Type 0} where
  -- no entry puts the power down where there is none
  pub down_same : (old new : Seen K) → new.mine ≡ old.mine → is_down old new ≡ false
  down_same old new same =
      ap (list_any (λ (e : Entry). is_power_down e.reply)) (front_rest new.mine old.mine [] (same ∙ sym (append-nil old.mine)))

  -- one entry does where its reply says so
  pub down_one : (old new : Seen K) (e : Entry) → new.mine ≡ old.mine ++ e ∷ [] → is_down old new ≡ is_power_down e.reply
  down_one old new e more =
      ap (list_any (λ (x : Entry). is_power_down x.reply)) (front_rest new.mine old.mine (e ∷ []) more) ∙ or_false (is_power_down e.reply)

  -- a command that is entered
  pub call_enters : (o : Opened K) (user : List ℕ) (c : Command) (now : ℕ) (old new : Seen K) (a : Answered) (called : IsCalled o (Change user c) now old new (Ok a)) → HasMarkCause old.mark new.mark (Ok a) → Enters o user c old new (entered_answer c (length new.seen) (entry_of o called.found old.number (Change user c) now).reply)
  call_enters o user c now old new a called cause =
      let free : (o.limit ≤ length called.found → ⊥) = λ full. absurd (cc (called.full full)) in
      record {
        found = called.found;
        now = now;
        begins = called.begins;
        room = omega arith;
        seen = called.ok.seen;
        mine = called.ok.mine;
        mark = cause.later;
        says = refl;
      }

  -- its answer, by what the floor tells
  pub enters_told : (o : Opened K) (user : List ℕ) (c : Command) (now : ℕ) (old new : Seen K) (a : Answered) (called : IsCalled o (Change user c) now old new (Ok a)) → entered_answer c a.place a.reply ≡ entered_answer c (length new.seen) (entry_of o called.found old.number (Change user c) now).reply
  enters_told o user c now old new a called = ap (λ (n : ℕ). entered_answer c n a.reply) called.ok.place ∙ ap (entered_answer c (length new.seen)) called.ok.reply

  -- whether it puts the power down, by what the floor tells
  pub down_told : (o : Opened K) (user : List ℕ) (c : Command) (now : ℕ) (old new : Seen K) (a : Answered) → IsCalled o (Change user c) now old new (Ok a) → is_power_down a.reply ≡ is_down old new
  down_told o user c now old new a called = ap is_power_down called.ok.reply ∙ sym (down_one old new (entry_of o called.found old.number (Change user c) now) called.ok.mine)

  -- why a command isn't entered
  why : (o : Opened K) (user : List ℕ) (c : Command) (now : ℕ) (old new : Seen K) (fault : CallFault) → IsCalled o (Change user c) now old new (Err fault) → HasMarkCause {T = Answered} old.mark new.mark (Err fault) → HasWhy o old new (failed_answer fault)
  why o user c now old new KeeperFault called cause =
      let free : (o.limit ≤ length called.found → ⊥) = λ full. absurd (cc (called.full full)) in
      let same : length new.seen ≡ length called.found = ap length called.err.seen in
      (cause.failed refl, omega arith)
  why o user c now old new (LogFull n) called cause =
      let same : length new.seen ≡ length called.found = ap length called.err.seen in
      let full : (length called.found < o.limit → ⊥) = λ less. called.not_full less n refl in
      let most : o.limit ≤ length called.found = omega arith in
      let told = called.full most in
      let is : n ≡ o.limit = cc told in
      (is, omega arith)
  why o user c now old new NoMemory called cause =
      let free : (o.limit ≤ length called.found → ⊥) = λ full. absurd (cc (called.full full)) in
      let same : length new.seen ≡ length called.found = ap length called.err.seen in
      omega arith

  -- a command that isn't entered
  pub call_fails : (o : Opened K) (user : List ℕ) (c : Command) (now : ℕ) (old new : Seen K) (fault : CallFault) → IsCalled o (Change user c) now old new (Err fault) → HasMarkCause {T = Answered} old.mark new.mark (Err fault) → Fails o old new (failed_answer fault)
  call_fails o user c now old new fault called cause = record {
    looked = record { seen = subst (λ (l : List Entry). StartsWith l old.seen) (sym called.err.seen) called.begins; mine = called.err.mine; mark = cause.later };
    why = why o user c now old new fault called cause;
  }

  -- a command that is entered, with its answer as it is told
  pub tells_enters : (o : Opened K) (user : List ℕ) (c : Command) (now : ℕ) (old new : Seen K) (a : Answered) (answer : Answer) (down : Bool) → IsCalled o (Change user c) now old new (Ok a) → HasMarkCause old.mark new.mark (Ok a) → Tells c a.place a.reply answer down → Enters o user c old new answer
  tells_enters o user c now old new a answer down called cause told =
      let is : answer ≡ entered_answer c (length new.seen) (entry_of o called.found old.number (Change user c) now).reply = told.answer_is ∙ enters_told o user c now old new a called in
      subst (Enters o user c old new) (sym is) (call_enters o user c now old new a called cause)

  -- and whether it puts the power down
  pub tells_down : (o : Opened K) (user : List ℕ) (c : Command) (now : ℕ) (old new : Seen K) (a : Answered) (answer : Answer) (down : Bool) → IsCalled o (Change user c) now old new (Ok a) → Tells c a.place a.reply answer down → down ≡ is_down old new
  tells_down o user c now old new a answer down called told = told.down_is ∙ down_told o user c now old new a called

  -- there is an answer to it, whether there is memory for it or not
  pub enters_some : (o : Opened K) (user : List ℕ) (c : Command) (now : ℕ) (old new : Seen K) (a : Answered) → IsCalled o (Change user c) now old new (Ok a) → HasMarkCause old.mark new.mark (Ok a) → IsTakenUp (AnswersCall o user c) old new
  enters_some o user c now old new a called cause = inr (_, inl (call_enters o user c now old new a called cause))

  -- the same of a call that is known by what it is
  pub taken_up : (o : Opened K) (user : List ℕ) (c : Command) (call : Call) (now : ℕ) (old new : Seen K) (a : Answered) → call ≡ Change user c → IsCalled o call now old new (Ok a) → HasMarkCause old.mark new.mark (Ok a) → IsTakenUp (AnswersCall o user c) old new
  taken_up o user c call now old new a is called cause =
      enters_some o user c now old new a (subst (λ (k : Call). IsCalled o k now old new (Ok a)) is called) cause

  -- a command that isn't entered, with its answer as it is told
  pub fails_told : (o : Opened K) (user : List ℕ) (c : Command) (call : Call) (now : ℕ) (old new : Seen K) (fault : CallFault) (answer : Answer) → call ≡ Change user c → IsCalled o call now old new (Err fault) → HasMarkCause {T = Answered} old.mark new.mark (Err fault) → answer ≡ failed_answer fault → AnswersCall o user c old new answer
  fails_told o user c call now old new fault answer is called cause says =
      inr (subst (Fails o old new) (sym says) (call_fails o user c now old new fault (subst (λ (k : Call). IsCalled o k now old new (Err fault)) is called) cause))

  -- there is an answer to a reading command, whether there is memory for it or not
  pub read_taken : (o : Opened K) (ask : Ask) (old new : Seen K) → HasLooked old new → IsTakenUp (AnswersRead o ask) old new
  read_taken o ask old new looked = inr (no_memory, record { looked = looked; says = inr refl })
