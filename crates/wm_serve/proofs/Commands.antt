-- The entries of a worker's pass are those of users' commands.
use Rattle.std.proofs.Common.{◌≡◌, ◌⊎◌, ◌∙◌, ℕ, ◌+◌, Bool, true, false, ◌&&◌, List, [], ◌∷◌, ◌++◌, length, Option, refl, sym, ap, inl, inr}
use Rattle.std.specs.List.{list_all}
use Rattle.std.proofs.lemmas.List.{append-nil}
use Rattle.std.proofs.lemmas.List.Folds.{list_all-append}
use Rattle.wm_law.specs.declared.call.Call.TheVariants.{Change}
use Rattle.wm_law.specs.declared.call.Entry.{Entry}
use Rattle.wm_law.specs.declared.command.Command.{Command}
use Rattle.wm_floor.specs.Floor.{Seen, entry_of}
use Rattle.wm_floor.specs.declared.opened.Opened.{Opened}
use Rattle.wm_http.specs.Cutting.{IsCut}
use Rattle.wm_http.specs.Routes.{route_of}
use Rattle.wm_http.specs.declared.answer.Answer.{Answer}
use Rattle.wm_http.specs.declared.request.Cut.{Cut}
use Rattle.wm_http.specs.declared.request.Cut.TheVariants.{ReadOn, Whole, Refused}
use Rattle.wm_http.specs.declared.route.Route.{Route}
use Rattle.wm_http.specs.declared.route.Route.TheVariants as of_route
use Rattle.wm_floor.specs.Lists.{since}
use Rattle.wm_floor.proofs.Lists.{Extends-then, since-append, since-then}
use Rattle.wm_run.specs.declared.parsed.Parsed.{Parsed}
use Rattle.wm_run.specs.declared.parsed.Parsed.TheVariants as of_parsed
use Rattle.wm_web.specs.Answered.{AnswersBody, AnswersCall, AnswersCut, AnswersParsed, AnswersRoute, IsTakenUp}
use Rattle.wm_web.specs.Ends.{Ends, IsSession}
use Rattle.wm_web.specs.Session.{Exchange, Serves}
use Rattle.wm_web.specs.declared.body.Body.{Body}
use Rattle.wm_web.specs.declared.body.Body.TheVariants as of_body
use Rattle.wm_web.specs.declared.end.WebEnd.{WebEnd}
use Rattle.wm_web.specs.declared.end.WebEnd.TheVariants.{Done, CutShort, Budget, PowerDown, ReadFault, WriteFault, NoMemory}
use Rattle.wm_serve.specs.Connections.{MakesCommands, is_command}

both_true : (a b : Bool) → a ≡ true → b ≡ true → (a && b) ≡ true
both_true true b h k = k
both_true false b h k = absurd (cc)

module _ {K : Type 0} where
  by_mine : (old new : Seen K) (more : List Entry) → new.mine ≡ old.mine ++ more → list_all is_command more ≡ true → MakesCommands old new
  by_mine old new more is all =
      let behind : since old.mine new.mine ≡ more = ap (since old.mine) is ∙ since-append old.mine more in
      record { mine = is ∙ ap (λ (es : List Entry). old.mine ++ es) (sym behind); commands = ap (list_all is_command) behind ∙ all }

  -- no entry more
  pub commands_same : (old new : Seen K) → new.mine ≡ old.mine → MakesCommands old new
  commands_same old new same = by_mine old new [] (same ∙ sym (append-nil old.mine)) refl

  pub commands_none : (p : Seen K) → MakesCommands p p
  commands_none p = commands_same p p refl

  pub commands_then : (p q r : Seen K) → MakesCommands p q → MakesCommands q r → MakesCommands p r
  commands_then p q r h k = record {
    mine = Extends-then p.mine q.mine r.mine h.mine k.mine;
    commands = ap (list_all is_command) (since-then p.mine q.mine r.mine h.mine k.mine) ∙ (list_all-append is_command (since p.mine q.mine) (since q.mine r.mine) ∙ both_true _ _ h.commands k.commands);
  }

  -- What a request is answered

  same_pass : (old new : Seen K) → new ≡ old → MakesCommands old new
  same_pass old new same = commands_same old new (ap (λ (p : Seen K). p.mine) same)

  of_call : (o : Opened K) (user : List ℕ) (c : Command) (old new : Seen K) (a : Answer) → AnswersCall o user c old new a → MakesCommands old new
  of_call o user c old new a (inl x) = by_mine old new (entry_of o x.found old.number (Change user c) x.now ∷ []) x.mine refl
  of_call o user c old new a (inr x) = commands_same old new x.looked.mine

  of_line : (o : Opened K) (user : List ℕ) (p : Parsed) (old new : Seen K) (a : Answer) → AnswersParsed o user p old new a → MakesCommands old new
  of_line o user (of_parsed.Fault fault) old new a x = same_pass old new x.pass
  of_line o user (of_parsed.Read ask) old new a x = commands_same old new x.looked.mine
  of_line o user (of_parsed.Call c) old new a x = of_call o user c old new a x

  in_body : (o : Opened K) (user : List ℕ) (body : Body) (old new : Seen K) (a : Answer) → AnswersBody o user body old new a → MakesCommands old new
  in_body o user of_body.Nothing old new a x = same_pass old new x.pass
  in_body o user (of_body.One p) old new a x = of_line o user p old new a x
  in_body o user of_body.Several old new a x = same_pass old new x.pass

  by_route : (o : Opened K) (route : Route) (bytes : List ℕ) (old new : Seen K) (a : Answer) → AnswersRoute o route bytes old new a → MakesCommands old new
  by_route o (of_route.Command user) bytes old new a x = in_body o user x.body old new a x.answers
  by_route o (of_route.Read ask) bytes old new a x = commands_same old new x.looked.mine
  by_route o of_route.NoRoute bytes old new a x = same_pass old new x.pass
  by_route o (of_route.WrongMethod method) bytes old new a x = same_pass old new x.pass

  of_cut : (o : Opened K) (cut : Cut) (old new : Seen K) (a : Answer) → AnswersCut o cut old new a → MakesCommands old new
  of_cut o (ReadOn most) old new a x = absurd x
  of_cut o (Whole r) old new a x = by_route o (route_of r.method.now r.target.now) r.body.now old new a x
  of_cut o (Refused why) old new a x = same_pass old new x.pass

  -- Requests one after another

  of_all : (o : Opened K) (n : ℕ) (es : List (Exchange K)) (bytes rest : List ℕ) (old new : Seen K) (due : List ℕ) → Serves o n es bytes rest old new due → MakesCommands old new
  of_all o n [] bytes rest old new due x = same_pass old new x.pass
  of_all o n (e ∷ es) bytes rest old new due x =
      commands_then old e.pass new (of_cut o e.cut old e.pass e.answer x.exchange.answers) (of_all o (n + 1) es _ rest e.pass new x.more x.later)

  of_last : (o : Opened K) (old new : Seen K) (e : Exchange K) → AnswersCut o e.cut old e.pass e.answer → new ≡ e.pass → MakesCommands old new
  of_last o old new e x pass = commands_then old e.pass new (of_cut o e.cut old e.pass e.answer x) (same_pass e.pass new pass)

  of_end : (o : Opened K) (end : WebEnd) (left : Option (List ℕ)) (n : ℕ) (unread : List ℕ) (old new : Seen K) (due : List ℕ) (w0 w1 : Option (List ℕ)) → Ends o end left n unread old new due w0 w1 → MakesCommands old new
  of_end o Done left n unread old new due w0 w1 (inl x) = same_pass old new x.unserved.pass
  of_end o Done left n unread old new due w0 w1 (inr x) = of_last o old new x.last x.exchange.answers x.pass
  of_end o CutShort left n unread old new due w0 w1 x = same_pass old new x.unserved.pass
  of_end o Budget left n unread old new due w0 w1 x = of_last o old new x.last x.exchange.answers x.pass
  of_end o PowerDown left n unread old new due w0 w1 x = of_last o old new x.last x.exchange.answers x.pass
  of_end o ReadFault left n unread old new due w0 w1 x = same_pass old new x.unserved.pass
  of_end o WriteFault left n unread old new due w0 w1 x = of_last o old new x.last x.exchange.answers x.pass
  of_end o NoMemory left n unread old new due w0 w1 x = by x.unserved
    where
      by : (new ≡ old) ⊎ ((cut : Cut) × IsCut unread cut × IsTakenUp (AnswersCut o cut) old new) → MakesCommands old new
      by (inl pass) = same_pass old new pass
      by (inr (cut, is, inl pass)) = same_pass old new pass
      by (inr (cut, is, inr (a, answers))) = of_cut o cut old new a answers

  -- a connection
  pub of_session : (o : Opened K) (end : WebEnd) (taken : List ℕ) (left : Option (List ℕ)) (old new : Seen K) (w0 w1 : Option (List ℕ)) → IsSession o end taken left old new w0 w1 → MakesCommands old new
  of_session o end taken left old new w0 w1 s =
      commands_then old s.mid new (of_all o 0 s.served taken s.unread old s.mid s.due s.serves) (of_end o end left (length s.served) s.unread s.mid new s.due w0 w1 s.ends)
