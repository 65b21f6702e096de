-- What a request is answered, and what becomes of the pass.
use Rattle.std.specs.Prelude.{◌≡◌, ◌⊎◌, ◌<◌, ◌≤◌, ℕ, Bool, List, [], ◌∷◌, ◌++◌, drop, length, codes, if◌then◌else◌}
use Rattle.std.specs.List.{list_any}
use Rattle.wm_base.specs.Refusal.{refusal_text}
use Rattle.wm_clwords.specs.declared.fault.ClFault.TheVariants.{Empty}
use Rattle.wm_http.specs.Routes.{route_of}
use Rattle.wm_http.specs.declared.answer.Answer.{Answer}
use Rattle.wm_http.specs.declared.answer.Answer.TheVariants.{Accepted, Listing, BadCommand, SeveralCommands, BadRequest, NoRoute, WrongMethod, Refused, RefusedRead, KeeperFault, LogFull, NoMemory}
use Rattle.wm_http.specs.declared.request.Cut.{Cut}
use Rattle.wm_http.specs.declared.request.Cut.TheVariants as of_cut
use Rattle.wm_http.specs.declared.route.Route.{Route}
use Rattle.wm_http.specs.declared.route.Route.TheVariants as of_route
use Rattle.wm_floor.specs.History.{History, reached}
use Rattle.wm_floor.specs.declared.call_fault.CallFault.{CallFault}
use Rattle.wm_floor.specs.declared.call_fault.CallFault.TheVariants as call_fault
use Rattle.wm_law.specs.declared.call.Call.TheVariants.{Change}
use Rattle.wm_law.specs.declared.call.Entry.{Entry}
use Rattle.wm_law.specs.declared.call.Reply.{Reply}
use Rattle.wm_law.specs.declared.command.Ask.{Ask}
use Rattle.wm_law.specs.declared.command.Command.{Command}
use Rattle.wm_listing.specs.Listing.{listing_text}
use Rattle.wm_listing.specs.Log.{log_text}
use Rattle.wm_listing.specs.Said.{fault_text, said_text}
use Rattle.wm_listing.specs.declared.line_fault.LineFault.TheVariants.{Cl}
use Rattle.wm_floor.specs.Floor.{HasLooked, Seen, entry_of}
use Rattle.wm_floor.specs.Ledger.{behind}
use Rattle.wm_floor.specs.declared.opened.Opened.{Opened}
use Rattle.wm_run.specs.Answer.{is_power_down, is_refused}
use Rattle.wm_run.specs.Reads.{is_log}
use Rattle.wm_run.specs.declared.parsed.Parsed.{Parsed}
use Rattle.wm_run.specs.declared.parsed.Parsed.TheVariants.{Fault, Read, Call}
use Rattle.wm_traits.specs.Cause.{raised}
use Rattle.wm_turn.specs.Passed.{StartsWith}
use Rattle.wm_views.specs.Views.{shown}
use Rattle.wm_views.specs.declared.shown.Shown.{Shown}
use Rattle.wm_views.specs.declared.shown.Shown.TheVariants as view
use Rattle.wm_web.specs.Bodies.{IsBody}
use Rattle.wm_web.specs.declared.body.Body.{Body}
use Rattle.wm_web.specs.declared.body.Body.TheVariants as of_body

-- a command that was called: its place, and what is said of its reply
abbrev pub entered_answer : Command → ℕ → Reply → Answer
entered_answer c place reply = if is_refused reply then Refused place (said_text c reply) else Accepted place (said_text c reply)

-- a command that made no entry: why
abbrev pub failed_answer : CallFault → Answer
failed_answer call_fault.KeeperFault = KeeperFault
failed_answer (call_fault.LogFull limit) = LogFull limit
failed_answer call_fault.NoMemory = NoMemory

-- what is shown: the listing, or the line of a refusal
abbrev pub shown_answer : Shown → Answer
shown_answer (view.Active lines) = Listing (listing_text (view.Active lines))
shown_answer (view.Queue q) = Listing (listing_text (view.Queue q))
shown_answer (view.Submitted lines) = Listing (listing_text (view.Submitted lines))
shown_answer (view.Subsystems lines) = Listing (listing_text (view.Subsystems lines))
shown_answer (view.Job j) = Listing (listing_text (view.Job j))
shown_answer view.NoView = Listing (listing_text view.NoView)
shown_answer (view.No refusal) = RefusedRead (codes "NO " ++ refusal_text refusal)

-- what a reading command is answered behind a history
abbrev pub read_answer : Ask → History → Answer
read_answer ask h = if is_log ask then Listing (log_text h.log) else shown_answer (shown (reached h) ask)

module _ {K : Type 0} where
  -- whether the power went down between what two passes know
  abbrev pub is_down : Seen K → Seen K → Bool
  is_down old new = list_any (λ e. is_power_down e.reply) (drop (length old.mine) new.mine)

  -- an answer without a call of the floor
  pub record Says (due : Answer) (old new : Seen K) (answer : Answer) : Type 0 where
    pub pass : new ≡ old
    pub says : answer ≡ due

  -- a user's command is called: behind a history that begins with what the pass had seen, and that isn't full, stands its entry, the new one of the pass, and its answer has the entry's place and says its reply
  pub record Enters (o : Opened K) (user : List ℕ) (c : Command) (old new : Seen K) (answer : Answer) : Type 0 where
    pub found : List Entry
    pub now : ℕ
    pub begins : StartsWith found old.seen
    pub room : length found < o.limit
    pub seen : new.seen ≡ found ++ entry_of o found old.number (Change user c) now ∷ []
    pub mine : new.mine ≡ old.mine ++ entry_of o found old.number (Change user c) now ∷ []
    pub mark : old.mark ≤ new.mark
    pub says : answer ≡ entered_answer c (length new.seen) (entry_of o found old.number (Change user c) now).reply

  -- why a command isn't entered: the keeper failed it, which the mark counts; the history that the pass has then seen is full; or memory is wanting
  abbrev pub HasWhy : Opened K → Seen K → Seen K → Answer → Type 0
  HasWhy o old new (Accepted place line) = ⊥
  HasWhy o old new (Listing lines) = ⊥
  HasWhy o old new (BadCommand line) = ⊥
  HasWhy o old new SeveralCommands = ⊥
  HasWhy o old new (BadRequest fault) = ⊥
  HasWhy o old new NoRoute = ⊥
  HasWhy o old new (WrongMethod method) = ⊥
  HasWhy o old new (Refused place line) = ⊥
  HasWhy o old new (RefusedRead line) = ⊥
  HasWhy o old new KeeperFault = (raised old.mark ≤ new.mark) × (length new.seen < o.limit)
  HasWhy o old new (LogFull limit) = (limit ≡ o.limit) × (limit ≤ length new.seen)
  HasWhy o old new NoMemory = length new.seen < o.limit

  -- a user's command is called and makes no entry
  pub record Fails (o : Opened K) (old new : Seen K) (answer : Answer) : Type 0 where
    pub looked : HasLooked old new
    pub why : HasWhy o old new answer

  -- the call of a user's command
  abbrev pub AnswersCall : Opened K → List ℕ → Command → Seen K → Seen K → Answer → Type 0
  AnswersCall o user c old new answer = Enters o user c old new answer ⊎ Fails o old new answer

  -- a reading command: the pass has then seen the history that the listing is of, or memory is wanting
  pub record AnswersRead (o : Opened K) (ask : Ask) (old new : Seen K) (answer : Answer) : Type 0 where
    pub looked : HasLooked old new
    pub says : (answer ≡ read_answer ask (behind o new.seen)) ⊎ (answer ≡ NoMemory)

  -- the one line of a body
  abbrev pub AnswersParsed : Opened K → List ℕ → Parsed → Seen K → Seen K → Answer → Type 0
  AnswersParsed o user (Fault fault) old new answer = Says (BadCommand (fault_text fault)) old new answer
  AnswersParsed o user (Read ask) old new answer = AnswersRead o ask old new answer
  AnswersParsed o user (Call c) old new answer = AnswersCall o user c old new answer

  -- the body of a command's request: without a line it is as an empty line
  abbrev pub AnswersBody : Opened K → List ℕ → Body → Seen K → Seen K → Answer → Type 0
  AnswersBody o user of_body.Nothing old new answer = Says (BadCommand (fault_text (Cl Empty))) old new answer
  AnswersBody o user (of_body.One parsed) old new answer = AnswersParsed o user parsed old new answer
  AnswersBody o user of_body.Several old new answer = Says SeveralCommands old new answer

  -- a user's bytes, as the body that they are
  pub record AnswersBytes (o : Opened K) (user bytes : List ℕ) (old new : Seen K) (answer : Answer) : Type 0 where
    pub body : Body
    pub is : IsBody user bytes body
    pub answers : AnswersBody o user body old new answer

  -- what a request asks, with its body
  abbrev pub AnswersRoute : Opened K → Route → List ℕ → Seen K → Seen K → Answer → Type 0
  AnswersRoute o (of_route.Command user) bytes old new answer = AnswersBytes o user bytes old new answer
  AnswersRoute o (of_route.Read ask) bytes old new answer = AnswersRead o ask old new answer
  AnswersRoute o of_route.NoRoute bytes old new answer = Says NoRoute old new answer
  AnswersRoute o (of_route.WrongMethod method) bytes old new answer = Says (WrongMethod method) old new answer

  -- what is cut from the unread bytes: a request, or bytes that are refused
  abbrev pub AnswersCut : Opened K → Cut → Seen K → Seen K → Answer → Type 0
  AnswersCut o (of_cut.ReadOn most) old new answer = ⊥
  AnswersCut o (of_cut.Whole request) old new answer = AnswersRoute o (route_of request.method.now request.target.now) request.body.now old new answer
  AnswersCut o (of_cut.Refused why) old new answer = Says (BadRequest why) old new answer

  -- for want of memory there is no answer: the pass is as it was, or this is due
  abbrev pub IsTakenUp : (Seen K → Seen K → Answer → Type 0) → Seen K → Seen K → Type 0
  IsTakenUp Due old new = (new ≡ old) ⊎ ((answer : Answer) × Due old new answer)
