-- The keeper's faults of a connection are counted by the pass's mark.
use Rattle.std.proofs.Common.{◌≡◌, ◌+◌, ◌≤◌, ◌⊎◌, inl, inr, ℕ, Bool, true, false, List, [], ◌∷◌, ◌++◌, length, Option, refl, ap, ◌∙◌, arith, if◌then◌else◌}
use Rattle.wm_floor.specs.Floor.{Seen}
use Rattle.wm_floor.specs.Ledger.{behind}
use Rattle.wm_floor.specs.declared.opened.Opened.{Opened}
use Rattle.wm_http.specs.Cutting.{IsCut}
use Rattle.wm_http.specs.Routes.{route_of}
use Rattle.wm_http.specs.declared.answer.Answer.{Answer}
use Rattle.wm_http.specs.declared.answer.Answer.TheVariants as of_answer
use Rattle.wm_http.specs.declared.request.Cut.{Cut}
use Rattle.wm_http.specs.declared.request.Cut.TheVariants.{ReadOn, Whole, Refused}
use Rattle.wm_http.specs.declared.route.Route.{Route}
use Rattle.wm_http.specs.declared.route.Route.TheVariants as of_route
use Rattle.wm_floor.specs.History.{reached}
use Rattle.wm_law.specs.declared.command.Ask.{Ask}
use Rattle.wm_law.specs.declared.command.Command.{Command}
use Rattle.wm_listing.specs.Log.{log_text}
use Rattle.wm_run.specs.Reads.{is_log}
use Rattle.wm_run.specs.declared.parsed.Parsed.{Parsed}
use Rattle.wm_run.specs.declared.parsed.Parsed.TheVariants as of_parsed
use Rattle.wm_views.specs.Views.{shown}
use Rattle.wm_views.specs.declared.shown.Shown.{Shown}
use Rattle.wm_views.specs.declared.shown.Shown.TheVariants as view
use Rattle.wm_web.specs.Answered.{AnswersBody, AnswersCall, AnswersCut, AnswersParsed, AnswersRead, AnswersRoute, Enters, Fails, IsTakenUp, Says, read_answer, shown_answer}
use Rattle.wm_web.specs.Counted.{FaultsAreCounted, faults_in, keeper_faults, last_of, raised_by}
use Rattle.wm_web.specs.Ends.{Ends, IsSession}
use Rattle.wm_web.specs.Session.{Exchange, Serves}
use Rattle.wm_web.specs.declared.body.Body.{Body}
use Rattle.wm_web.specs.declared.body.Body.TheVariants as of_body
use Rattle.wm_web.specs.declared.end.WebEnd.{WebEnd}
use Rattle.wm_web.specs.declared.end.WebEnd.TheVariants.{Done, CutShort, Budget, PowerDown, ReadFault, WriteFault, NoMemory}

-- an answer that says nothing of the keeper
none_counts : (a : Answer) (before now : ℕ) → keeper_faults a ≡ 0 → before ≤ now → raised_by (keeper_faults a) before ≤ now
none_counts a before now none later = omega (arith, none, later)

-- counts one behind another
raised_then : (n m a b c : ℕ) → raised_by n a ≤ b → raised_by m b ≤ c → raised_by (n + m) a ≤ c
raised_then n m a b c first then_ = omega (arith, first, then_)

entered_none : (b : Bool) (place : ℕ) (line : List ℕ) → keeper_faults (if b then of_answer.Refused place line else of_answer.Accepted place line) ≡ 0
entered_none true place line = refl
entered_none false place line = refl

shown_none : (s : Shown) → keeper_faults (shown_answer s) ≡ 0
shown_none (view.Active lines) = refl
shown_none (view.Queue q) = refl
shown_none (view.Submitted lines) = refl
shown_none (view.Subsystems lines) = refl
shown_none (view.Job j) = refl
shown_none view.NoView = refl
shown_none (view.No refusal) = refl

listed_none : (b : Bool) (lines : List ℕ) (s : Shown) → keeper_faults (if b then of_answer.Listing lines else shown_answer s) ≡ 0
listed_none true lines s = refl
listed_none false lines s = shown_none s

module _ {K : Type 0} where
  same_mark : (old new : Seen K) → new ≡ old → old.mark ≤ new.mark
  same_mark old new same = let is : new.mark ≡ old.mark = ap (λ (p : Seen K). p.mark) same in omega (arith, is)

  says_count : (due : Answer) (old new : Seen K) (a : Answer) → keeper_faults due ≡ 0 → Says due old new a → raised_by (keeper_faults a) old.mark ≤ new.mark
  says_count due old new a none x = none_counts a old.mark new.mark (ap keeper_faults x.says ∙ none) (same_mark old new x.pass)

  enters_count : (o : Opened K) (user : List ℕ) (c : Command) (old new : Seen K) (a : Answer) → Enters o user c old new a → raised_by (keeper_faults a) old.mark ≤ new.mark
  enters_count o user c old new a x = none_counts a old.mark new.mark (ap keeper_faults x.says ∙ entered_none _ _ _) x.mark

  fails_count : (o : Opened K) (old new : Seen K) (a : Answer) → Fails o old new a → raised_by (keeper_faults a) old.mark ≤ new.mark
  fails_count o old new (of_answer.Accepted place line) x = none_counts (of_answer.Accepted place line) old.mark new.mark refl x.looked.mark
  fails_count o old new (of_answer.Listing lines) x = none_counts (of_answer.Listing lines) old.mark new.mark refl x.looked.mark
  fails_count o old new (of_answer.BadCommand line) x = none_counts (of_answer.BadCommand line) old.mark new.mark refl x.looked.mark
  fails_count o old new of_answer.SeveralCommands x = none_counts of_answer.SeveralCommands old.mark new.mark refl x.looked.mark
  fails_count o old new (of_answer.BadRequest fault) x = none_counts (of_answer.BadRequest fault) old.mark new.mark refl x.looked.mark
  fails_count o old new of_answer.NoRoute x = none_counts of_answer.NoRoute old.mark new.mark refl x.looked.mark
  fails_count o old new (of_answer.WrongMethod method) x = none_counts (of_answer.WrongMethod method) old.mark new.mark refl x.looked.mark
  fails_count o old new (of_answer.Refused place line) x = none_counts (of_answer.Refused place line) old.mark new.mark refl x.looked.mark
  fails_count o old new (of_answer.RefusedRead line) x = none_counts (of_answer.RefusedRead line) old.mark new.mark refl x.looked.mark
  fails_count o old new of_answer.KeeperFault x = x.why.0
  fails_count o old new (of_answer.LogFull limit) x = none_counts (of_answer.LogFull limit) old.mark new.mark refl x.looked.mark
  fails_count o old new of_answer.NoMemory x = none_counts of_answer.NoMemory old.mark new.mark refl x.looked.mark

  call_counts : (o : Opened K) (user : List ℕ) (c : Command) (old new : Seen K) (a : Answer) → AnswersCall o user c old new a → raised_by (keeper_faults a) old.mark ≤ new.mark
  call_counts o user c old new a (inl x) = enters_count o user c old new a x
  call_counts o user c old new a (inr x) = fails_count o old new a x

  read_count : (o : Opened K) (ask : Ask) (old new : Seen K) (a : Answer) → AnswersRead o ask old new a → raised_by (keeper_faults a) old.mark ≤ new.mark
  read_count o ask old new a x = none_counts a old.mark new.mark (by x.says) x.looked.mark
    where
      by : (a ≡ read_answer ask (behind o new.seen)) ⊎ (a ≡ of_answer.NoMemory) → keeper_faults a ≡ 0
      by (inl is) = ap keeper_faults is ∙ listed_none (is_log ask) (log_text (behind o new.seen).log) (shown (reached (behind o new.seen)) ask)
      by (inr is) = ap keeper_faults is

  parsed_counts : (o : Opened K) (user : List ℕ) (p : Parsed) (old new : Seen K) (a : Answer) → AnswersParsed o user p old new a → raised_by (keeper_faults a) old.mark ≤ new.mark
  parsed_counts o user (of_parsed.Fault fault) old new a x = says_count _ old new a refl x
  parsed_counts o user (of_parsed.Read ask) old new a x = read_count o ask old new a x
  parsed_counts o user (of_parsed.Call c) old new a x = call_counts o user c old new a x

  body_counts : (o : Opened K) (user : List ℕ) (body : Body) (old new : Seen K) (a : Answer) → AnswersBody o user body old new a → raised_by (keeper_faults a) old.mark ≤ new.mark
  body_counts o user of_body.Nothing old new a x = says_count _ old new a refl x
  body_counts o user (of_body.One p) old new a x = parsed_counts o user p old new a x
  body_counts o user of_body.Several old new a x = says_count _ old new a refl x

  route_counts : (o : Opened K) (route : Route) (bytes : List ℕ) (old new : Seen K) (a : Answer) → AnswersRoute o route bytes old new a → raised_by (keeper_faults a) old.mark ≤ new.mark
  route_counts o (of_route.Command user) bytes old new a x = body_counts o user x.body old new a x.answers
  route_counts o (of_route.Read ask) bytes old new a x = read_count o ask old new a x
  route_counts o of_route.NoRoute bytes old new a x = says_count _ old new a refl x
  route_counts o (of_route.WrongMethod method) bytes old new a x = says_count _ old new a refl x

  -- the answer to what is cut
  answer_counts : (o : Opened K) (cut : Cut) (old new : Seen K) (a : Answer) → AnswersCut o cut old new a → raised_by (keeper_faults a) old.mark ≤ new.mark
  answer_counts o (ReadOn most) old new a x = absurd x
  answer_counts o (Whole r) old new a x = route_counts o (route_of r.method.now r.target.now) r.body.now old new a x
  answer_counts o (Refused why) old new a x = says_count _ old new a refl x

  -- requests one after another
  serves_count : (o : Opened K) (n : ℕ) (es : List (Exchange K)) (bytes rest : List ℕ) (old new : Seen K) (due : List ℕ) → Serves o n es bytes rest old new due → raised_by (faults_in es) old.mark ≤ new.mark
  serves_count o n [] bytes rest old new due x = let later = same_mark old new x.pass in omega (arith, later)
  serves_count o n (e ∷ es) bytes rest old new due x =
      let first = answer_counts o e.cut old e.pass e.answer x.exchange.answers in
      raised_then (keeper_faults e.answer) (faults_in es) old.mark e.pass.mark new.mark first (serves_count o (n + 1) es _ rest e.pass new x.more x.later)

  -- the last request
  last_counts : (o : Opened K) (old new : Seen K) (e : Exchange K) → AnswersCut o e.cut old e.pass e.answer → new ≡ e.pass → raised_by (faults_in (e ∷ [])) old.mark ≤ new.mark
  last_counts o old new e x pass =
      let counted = answer_counts o e.cut old e.pass e.answer x in
      let later = same_mark e.pass new pass in
      omega (arith, counted, later)

  none_last : (old new : Seen K) → new ≡ old → raised_by 0 old.mark ≤ new.mark
  none_last old new pass = let later = same_mark old new pass in omega (arith, later)

  ends_count : (o : Opened K) (end : WebEnd) (left : Option (List ℕ)) (n : ℕ) (unread : List ℕ) (old new : Seen K) (due : List ℕ) (w0 w1 : Option (List ℕ)) (x : Ends o end left n unread old new due w0 w1) → raised_by (faults_in (last_of o end left n unread old new due w0 w1 x)) old.mark ≤ new.mark
  ends_count o Done left n unread old new due w0 w1 (inl x) = none_last old new x.unserved.pass
  ends_count o Done left n unread old new due w0 w1 (inr x) = last_counts o old new x.last x.exchange.answers x.pass
  ends_count o CutShort left n unread old new due w0 w1 x = none_last old new x.unserved.pass
  ends_count o Budget left n unread old new due w0 w1 x = last_counts o old new x.last x.exchange.answers x.pass
  ends_count o PowerDown left n unread old new due w0 w1 x = last_counts o old new x.last x.exchange.answers x.pass
  ends_count o ReadFault left n unread old new due w0 w1 x = none_last old new x.unserved.pass
  ends_count o WriteFault left n unread old new due w0 w1 x = last_counts o old new x.last x.exchange.answers x.pass
  ends_count o NoMemory left n unread old new due w0 w1 x = by x.unserved
    where
      by : (new ≡ old) ⊎ ((cut : Cut) × IsCut unread cut × IsTakenUp (AnswersCut o cut) old new) → raised_by 0 old.mark ≤ new.mark
      by (inl pass) = none_last old new pass
      by (inr (cut, is, inl pass)) = none_last old new pass
      by (inr (cut, is, inr (a, answers))) = let counted = answer_counts o cut old new a answers in omega (arith, counted)

  faults_then : (es fs : List (Exchange K)) → faults_in (es ++ fs) ≡ faults_in es + faults_in fs
  faults_then [] fs = omega arith
  faults_then (e ∷ es) fs = let more = faults_then es fs in omega (arith, more)

  pub faults_counted : (o : Opened K) (end : WebEnd) (taken : List ℕ) (left : Option (List ℕ)) (old new : Seen K) (w0 w1 : Option (List ℕ)) (s : IsSession o end taken left old new w0 w1) → FaultsAreCounted o end taken left old new w0 w1 s
  faults_counted o end taken left old new w0 w1 s =
      let last = last_of o end left (length s.served) s.unread s.mid new s.due w0 w1 s.ends in
      let first = serves_count o 0 s.served taken s.unread old s.mid s.due s.serves in
      let then_ = ends_count o end left (length s.served) s.unread s.mid new s.due w0 w1 s.ends in
      let all : faults_in (s.served ++ last) ≡ faults_in s.served + faults_in last = faults_then s.served last in
      let both = raised_then (faults_in s.served) (faults_in last) old.mark s.mid.mark new.mark first then_ in
      omega (arith, all, both)
