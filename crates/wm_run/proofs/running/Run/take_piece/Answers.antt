use Rattle.std.proofs.Common.{◌+◌, ◌≡◌, ℕ, Bool, false, List, [], ◌++◌, length, drop, refl, sym, ap, subst, ◌∙◌, arith}
use Rattle.std.proofs.lemmas.Bool.{true≢false}
use Rattle.std.proofs.lemmas.List.{drop-drop, drop_all, length-drop}
use Rattle.std.proofs.lemmas.Result.{err_from_is_err_and}
use Rattle.wm_base.proofs.Lists.{on_err}
use Rattle.wm_clwords.specs.Part.{lines_from}
use Rattle.wm_run.specs.Down.{is_down}
use Rattle.wm_run.specs.Grown.{entries_between, session_of}
use Rattle.wm_run.specs.Stopped.{StopsIn}
use Rattle.wm_run.specs.Taking.{TakesPiece}
use Rattle.wm_run.proofs.Downs.{down_between, up_none}
use Rattle.wm_run.proofs.Servings.{continues, serves_none, serves_then}
use Rattle.wm_run.proofs.Causes.{HasCauses-pass}
use Rattle.wm_run.proofs.Inputs.{taken_none, taken_then}
use Rattle.wm_run.proofs.StoppedRuns.{stops_piece}
use Rattle.wm_run.proofs.Writes.{rest_of}
use Rattle.wm_run.proofs.running.Run.take_piece.Goals as goal

pub lines-init : goal.lines-init
lines-init g c =
    record {
      within = omega arith;
      ready = c.requires.ready;
      serves = serves_none c.args.self.now _ c.requires.ready;
      up = up_none (session_of c.args.self.now);
      taken = taken_none c.args.user.now c.args.joiner.now c.args.joiner.now c.args.piece.now (session_of c.args.self.now) (g.O.Sink.written c.args.out.now) (λ more. refl);
      written = omega arith;
      looked = omega arith;
      reported = λ none. none;
    }

pub lines-preserved : goal.lines-preserved
lines-preserved g c =
    let out = g.O.Sink in
    let i = c.lines.invariant in
    let k = c.take_line.ensures in
    let piece = c.args.piece.now in
    let at = c.lines.at in
    let n = c.in_ok-taken.taken in
    let u = out.written c.args.out.now in
    let v = out.written c.lines.out in
    let w = out.written c.take_line.new.out in
    let f = c.in_ok-taken.line.faulty in
    let same = rest_of at piece in
    let first = (session_of c.args.self.now) in
    let o = (session_of c.lines.self) in
    let last = (session_of c.take_line.new.self) in
    let es = entries_between o last in
    let some = subst (λ (xs : List ℕ). TakesPiece c.args.user.now c.lines.joiner xs c.take_line.new.joiner (drop n xs) o es v w f) same c.in_ok-taken.ensures.taken in
    let next = subst (λ (xs : List ℕ). TakesPiece c.args.user.now c.lines.joiner (drop at piece) c.take_line.new.joiner xs o es v w f) (drop-drop n at piece) some in
    let behind = c.behind-answered in
    let taken = taken_then c.args.joiner.now c.lines.joiner c.take_line.new.joiner piece (drop at piece) (drop (at + n) piece) first o last u v w c.lines.faulty f behind.result.faulty behind.ensures.faulty i.up (continues _ _ i.serves) (continues _ _ k.serves) i.taken next in
    let line : is_down (entries_between first last) ≡ c.in_ok-taken.line.down = down_between first o last (continues _ _ i.serves) (continues _ _ k.serves) i.up ∙ sym c.in_ok-taken.ensures.down in
    let down : is_down (entries_between first last) ≡ behind.result.down = line ∙ sym behind.ensures.down in
    record {
      within = let few = c.in_ok-taken.ensures.within in omega (arith, ap length same, length-drop {A = ℕ} at piece);
      ready = k.ready;
      serves = serves_then _ _ _ i.serves k.serves;
      up = down ∙ c.if-answered.false;
      taken = taken;
      written = let f = k.causes.written in omega arith;
      looked = let f = k.causes.looked in omega arith;
      reported = λ none. c.in_ok-taken.ensures.none_kept (i.reported none);
    }

pub returns-then-answered-clause-serves : goal.returns-then-answered-clause-serves
returns-then-answered-clause-serves g c = serves_then _ _ _ c.lines.invariant.serves c.take_line.ensures.serves

pub returns-then-answered-clause-taken : goal.returns-then-answered-clause-taken
returns-then-answered-clause-taken g c =
    let out = g.O.Sink in
    let i = c.lines.invariant in
    let k = c.take_line.ensures in
    let piece = c.args.piece.now in
    let at = c.lines.at in
    let n = c.in_ok-taken.taken in
    let u = out.written c.args.out.now in
    let v = out.written c.lines.out in
    let w = out.written c.take_line.new.out in
    let f = c.in_ok-taken.line.faulty in
    let same = rest_of at piece in
    let first = (session_of c.args.self.now) in
    let o = (session_of c.lines.self) in
    let last = (session_of c.take_line.new.self) in
    let es = entries_between o last in
    let some = subst (λ (xs : List ℕ). TakesPiece c.args.user.now c.lines.joiner xs c.take_line.new.joiner (drop n xs) o es v w f) same c.in_ok-taken.ensures.taken in
    let next = subst (λ (xs : List ℕ). TakesPiece c.args.user.now c.lines.joiner (drop at piece) c.take_line.new.joiner xs o es v w f) (drop-drop n at piece) some in
    let behind = c.behind-answered in
    let taken = taken_then c.args.joiner.now c.lines.joiner c.take_line.new.joiner piece (drop at piece) (drop (at + n) piece) first o last u v w c.lines.faulty f behind.result.faulty behind.ensures.faulty i.up (continues _ _ i.serves) (continues _ _ k.serves) i.taken next in
    let line : is_down (entries_between first last) ≡ c.in_ok-taken.line.down = down_between first o last (continues _ _ i.serves) (continues _ _ k.serves) i.up ∙ sym c.in_ok-taken.ensures.down in
    let down : is_down (entries_between first last) ≡ behind.result.down = line ∙ sym behind.ensures.down in
    record { rest = drop (at + n) piece; whole = λ is. absurd (true≢false (sym c.if-answered.true ∙ is)); taken = taken }

pub returns-then-answered-clause-down : goal.returns-then-answered-clause-down
returns-then-answered-clause-down g c =
    let out = g.O.Sink in
    let i = c.lines.invariant in
    let k = c.take_line.ensures in
    let piece = c.args.piece.now in
    let at = c.lines.at in
    let n = c.in_ok-taken.taken in
    let u = out.written c.args.out.now in
    let v = out.written c.lines.out in
    let w = out.written c.take_line.new.out in
    let f = c.in_ok-taken.line.faulty in
    let same = rest_of at piece in
    let first = (session_of c.args.self.now) in
    let o = (session_of c.lines.self) in
    let last = (session_of c.take_line.new.self) in
    let es = entries_between o last in
    let some = subst (λ (xs : List ℕ). TakesPiece c.args.user.now c.lines.joiner xs c.take_line.new.joiner (drop n xs) o es v w f) same c.in_ok-taken.ensures.taken in
    let next = subst (λ (xs : List ℕ). TakesPiece c.args.user.now c.lines.joiner (drop at piece) c.take_line.new.joiner xs o es v w f) (drop-drop n at piece) some in
    let behind = c.behind-answered in
    let taken = taken_then c.args.joiner.now c.lines.joiner c.take_line.new.joiner piece (drop at piece) (drop (at + n) piece) first o last u v w c.lines.faulty f behind.result.faulty behind.ensures.faulty i.up (continues _ _ i.serves) (continues _ _ k.serves) i.taken next in
    let line : is_down (entries_between first last) ≡ c.in_ok-taken.line.down = down_between first o last (continues _ _ i.serves) (continues _ _ k.serves) i.up ∙ sym c.in_ok-taken.ensures.down in
    let down : is_down (entries_between first last) ≡ behind.result.down = line ∙ sym behind.ensures.down in
    sym down

pub returns-in_err-taken-clause-serves : goal.returns-in_err-taken-clause-serves
returns-in_err-taken-clause-serves g c = serves_then _ _ _ c.lines.invariant.serves c.take_line.ensures.serves

pub returns-in_err-taken-clause-causes : goal.returns-in_err-taken-clause-causes
returns-in_err-taken-clause-causes g c =
    let i = c.lines.invariant in
    let p = err_from_is_err_and c.from_residual.result c.from_residual.ensures.1 in
    HasCauses-pass c.take_line.result c.from_residual.result _ p.0 _ _ _ _ _ _ c.in_err-taken.was p.1 p.2 i.written i.looked c.take_line.ensures.causes

pub returns-in_err-taken-clause-stopped : goal.returns-in_err-taken-clause-stopped
returns-in_err-taken-clause-stopped g c =
    let o = g.O.Sink in
    let i = c.lines.invariant in
    let piece = c.args.piece.now in
    let v = o.written c.lines.out in
    let w = o.written c.take_line.new.out in
    let stop = subst (λ (xs : List ℕ). (more : List ℕ) → StopsIn c.args.user.now (lines_from c.lines.joiner (xs ++ more)) (session_of c.lines.self) (entries_between (session_of c.lines.self) (session_of c.take_line.new.self)) v w) (rest_of c.lines.at piece) c.in_err-taken.ensures.stopped in
    on_err _ (stops_piece c.args.joiner.now c.lines.joiner piece (drop c.lines.at piece) (session_of c.args.self.now) (session_of c.lines.self) (session_of c.take_line.new.self) (o.written c.args.out.now) v w c.lines.faulty i.up (continues _ _ i.serves) (continues _ _ c.take_line.ensures.serves) i.taken stop)

pub returns-clause-taken : goal.returns-clause-taken
returns-clause-taken g c =
    let o = g.O.Sink in
    let i = c.lines.invariant in
    let all = drop_all c.lines.at c.args.piece.now (omega arith) in
    let h = (session_of c.args.self.now) in
    let es = entries_between h (session_of c.lines.self) in
    let u = o.written c.args.out.now in
    let v = o.written c.lines.out in
    let whole = subst (λ (xs : List ℕ). TakesPiece c.args.user.now c.args.joiner.now c.args.piece.now c.lines.joiner xs h es u v c.lines.faulty) all i.taken in
    record { rest = []; whole = λ is. refl; taken = subst (λ (t : Bool). TakesPiece c.args.user.now c.args.joiner.now c.args.piece.now c.lines.joiner [] h es u v t) (sym c.uncalled.ensures.faulty) whole }

pub returns-clause-down : goal.returns-clause-down
returns-clause-down g c = c.uncalled.ensures.up ∙ sym c.lines.invariant.up
