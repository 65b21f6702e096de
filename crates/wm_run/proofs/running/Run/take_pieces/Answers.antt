use Rattle.std.proofs.Common.{Err, ℕ, List, false, [], ◌++◌, ◌≡◌, arith, refl, sym, subst, ◌∙◌, take}
use Rattle.std.proofs.lemmas.List.{length-append, length-take-le}
use Rattle.std.proofs.lemmas.Bool.{true≢false}
use Rattle.std.proofs.lemmas.Bool.Decides.{nat_tests}
use Rattle.std.proofs.lemmas.Result.{err_from_is_err_and}
use Rattle.wm_traits.proofs.Telling.{Takes-none}
use Rattle.wm_run.specs.Grown.{entries_between, session_of}
use Rattle.wm_run.specs.Taking.{TakesPiece}
use Rattle.wm_run.proofs.Downs.{down_between, up_none}
use Rattle.wm_run.proofs.Servings.{continues, serves_none, serves_then}
use Rattle.wm_run.proofs.Inputs.{input_none, input_then}
use Rattle.wm_run.proofs.Outcomes.{came_none, came_read, came_last, came_in, came_end, came_down}
use Rattle.wm_run.proofs.StoppedRuns.{input_same, take_none}
use Rattle.wm_run.proofs.running.Run.take_pieces.Goals as goal

pub returns-in_err-last-clause-serves : goal.returns-in_err-last-clause-serves
returns-in_err-last-clause-serves g c = serves_then _ _ _ c.reads.invariant.serves c.take_rest.ensures.serves

pub returns-then-n-eq0-clause-serves : goal.returns-then-n-eq0-clause-serves
returns-then-n-eq0-clause-serves g c = serves_then _ _ _ c.reads.invariant.serves c.take_rest.ensures.serves

pub returns-in_err-some-clause-serves : goal.returns-in_err-some-clause-serves
returns-in_err-some-clause-serves g c = serves_then _ _ _ c.reads.invariant.serves c.take_piece.ensures.serves

pub reads-init : goal.reads-init
reads-init g c =
    let x = g.I.Source.left c.args.input.now in
    let none = input_none c.args.user.now c.in_ok-joiner.joiner x (session_of c.args.self.now) (g.O.Sink.written c.args.out.now) c.in_ok-joiner.ensures in
    record {
      ready = c.requires.ready;
      serves = serves_none c.args.self.now _ c.requires.ready;
      up = up_none (session_of c.args.self.now);
      taken = record { bytes = []; taken = Takes-none x; done = record { lines = none.done; count = refl } };
      read = omega arith;
      written = omega arith;
      looked = omega arith;
      reported = λ none. none;
      total = omega arith;
      piece = c.requires.piece;
    }

pub reads-preserved : goal.reads-preserved
reads-preserved g c =
    let x = g.I.Source in
    let o = g.O.Sink in
    let i = c.reads.invariant in
    let k = c.take_piece.ensures in
    let n = c.in_ok-n.n in
    let xs = i.taken.bytes in
    let ys = take n c.read.new.piece in
    let some = length-take-le n c.read.new.piece c.in_ok-n.ensures.within in
    let first = (session_of c.args.self.now) in
    let mid = (session_of c.reads.self) in
    let last = (session_of c.take_piece.new.self) in
    let v = o.written c.reads.out in
    let w = o.written c.take_piece.new.out in
    let behind = c.behind-answered in
    let f = c.in_ok-some.some.faulty in
    let up : c.in_ok-some.some.down ≡ false = sym behind.ensures.down ∙ c.if-answered.false in
    let all = c.in_ok-some.ensures.taken in
    let whole = subst (λ (rest : List ℕ). TakesPiece c.args.user.now c.reads.joiner ys c.take_piece.new.joiner rest mid (entries_between mid last) v w f) (all.whole up) all.taken in
    let more = input_then (x.left c.args.input.now) (x.left c.reads.input) (x.left c.read.new.input) c.reads.joiner c.take_piece.new.joiner ys first mid last (o.written c.args.out.now) v w c.reads.faulty f behind.result.faulty behind.ensures.faulty i.up (continues _ _ i.serves) (continues _ _ k.serves) (record { bytes = xs; taken = i.taken.taken; done = i.taken.done.lines }) c.in_ok-n.ensures.taken whole in
    record {
      ready = k.ready;
      serves = serves_then _ _ _ i.serves k.serves;
      up = down_between first mid last (continues _ _ i.serves) (continues _ _ k.serves) i.up ∙ (sym c.in_ok-some.ensures.down ∙ up);
      taken = record { bytes = xs ++ ys; taken = more.taken; done = record { lines = more.done; count = omega (arith, length-append xs ys, i.taken.done.count, some) } };
      read = let f = c.read.ensures.faults in omega arith;
      written = let f = k.causes.written in omega arith;
      looked = let f = k.causes.looked in omega arith;
      reported = λ none. c.in_ok-some.ensures.none_kept (i.reported none);
      total = c.in_ok-n.ensures.room;
      piece = let a = c.read.ensures.len in let b = i.piece in omega arith;
    }

pub returns-then-answered-clause-serves : goal.returns-then-answered-clause-serves
returns-then-answered-clause-serves g c = serves_then _ _ _ c.reads.invariant.serves c.take_piece.ensures.serves

pub returns-then-answered-clause-input : goal.returns-then-answered-clause-input
returns-then-answered-clause-input g c =
    let x = g.I.Source in
    let o = g.O.Sink in
    let i = c.reads.invariant in
    let k = c.take_piece.ensures in
    let n = c.in_ok-n.n in
    let ys = take n c.read.new.piece in
    let some = length-take-le n c.read.new.piece c.in_ok-n.ensures.within in
    let room = c.in_ok-n.ensures.room in
    let first = (session_of c.args.self.now) in
    let mid = (session_of c.reads.self) in
    let last = (session_of c.take_piece.new.self) in
    let behind = c.behind-answered in
    let all = c.in_ok-some.ensures.taken in
    let down = down_between first mid last (continues _ _ i.serves) (continues _ _ k.serves) i.up ∙ (sym c.in_ok-some.ensures.down ∙ (sym behind.ensures.down ∙ c.if-answered.true)) in
    came_down (x.left c.args.input.now) (x.left c.reads.input) (x.left c.read.new.input) c.reads.joiner c.take_piece.new.joiner ys all.rest first mid last (o.written c.args.out.now) (o.written c.reads.out) (o.written c.take_piece.new.out) c.reads.faulty c.in_ok-some.some.faulty behind.result c.reads.total behind.ensures.faulty (omega (arith, some, room)) i.up down (continues _ _ i.serves) (continues _ _ k.serves) i.taken c.in_ok-n.ensures.taken all.taken

pub returns-then-answered-clause-down : goal.returns-then-answered-clause-down
returns-then-answered-clause-down g c =
    let i = c.reads.invariant in
    let k = c.take_piece.ensures in
    c.behind-answered.ensures.down ∙ (c.in_ok-some.ensures.down ∙ sym (down_between (session_of c.args.self.now) (session_of c.reads.self) (session_of c.take_piece.new.self) (continues _ _ i.serves) (continues _ _ k.serves) i.up))

pub returns-then-answered-clause-end : goal.returns-then-answered-clause-end
returns-then-answered-clause-end g c up = absurd (true≢false (sym c.if-answered.true ∙ up))

pub returns-then-n-eq0-clause-down : goal.returns-then-n-eq0-clause-down
returns-then-n-eq0-clause-down g c =
    let i = c.reads.invariant in
    let k = c.take_rest.ensures in
    c.behind.ensures.down ∙ (c.in_ok-last.ensures.down ∙ sym (down_between (session_of c.args.self.now) (session_of c.reads.self) (session_of c.take_rest.new.self) (continues _ _ i.serves) (continues _ _ k.serves) i.up))

pub returns-in_err-joiner-clause-input : goal.returns-in_err-joiner-clause-input
returns-in_err-joiner-clause-input g c =
    let p = err_from_is_err_and c.from_residual.result c.from_residual.ensures.1 in
    let is = p.1 in
    let same = p.2 in
    came_none c.args.user.now c.from_residual.result p.0 (g.I.Source.left c.args.input.now) (session_of c.args.self.now) (g.O.Sink.written c.args.out.now) p.1 (λ f. absurd (cc)) (λ f. absurd (cc))

pub returns-in_err-n-clause-input : goal.returns-in_err-n-clause-input
returns-in_err-n-clause-input g c =
    let x = g.I.Source in
    let o = g.O.Sink in
    let p = err_from_is_err_and c.from_residual-in_err-n.result c.from_residual-in_err-n.ensures.1 in
    came_read c.from_residual-in_err-n.result (Err c.in_err-n.field-0.0) c.in_err-n.field-0.0 p.0 (x.left c.args.input.now) (x.left c.reads.input) (x.left c.read.new.input) c.reads.joiner (session_of c.args.self.now) _ (o.written c.args.out.now) (o.written c.reads.out) c.reads.faulty c.reads.total refl p.1 p.2 c.reads.invariant.taken c.in_err-n.ensures.stopped

pub returns-in_err-last-clause-input : goal.returns-in_err-last-clause-input
returns-in_err-last-clause-input g c =
    let x = g.I.Source in
    let o = g.O.Sink in
    let i = c.reads.invariant in
    let p = err_from_is_err_and c.from_residual-in_err-last.result c.from_residual-in_err-last.ensures.1 in
    let was = c.in_err-last.was in
    let is = p.1 in
    let same = p.2 in
    let t = c.if-n-eq0.true in
    let none : c.in_ok-n.n ≡ 0 = grind (arith, nat_tests) in
    let all = input_same (x.left c.args.input.now) (x.left c.reads.input) (x.left c.read.new.input) (take c.in_ok-n.n c.read.new.piece) (take_none c.in_ok-n.n c.read.new.piece none) i.taken c.in_ok-n.ensures.taken in
    came_last c.from_residual-in_err-last.result p.0 (x.left c.args.input.now) (x.left c.read.new.input) c.reads.joiner (session_of c.args.self.now) (session_of c.reads.self) (session_of c.take_rest.new.self) (o.written c.args.out.now) (o.written c.reads.out) (o.written c.take_rest.new.out) c.reads.faulty c.reads.total p.1 (λ f. c.take_rest.ensures.causes.no_read_fault (cc)) (λ f. c.take_rest.ensures.causes.not_full (cc)) i.total i.up (continues _ _ i.serves) (continues _ _ c.take_rest.ensures.serves) all c.in_err-last.ensures.stopped

pub returns-then-n-eq0-clause-input : goal.returns-then-n-eq0-clause-input
returns-then-n-eq0-clause-input g c =
    let x = g.I.Source in
    let o = g.O.Sink in
    let i = c.reads.invariant in
    let t = c.if-n-eq0.true in
    let none : c.in_ok-n.n ≡ 0 = grind (arith, nat_tests) in
    let all = input_same (x.left c.args.input.now) (x.left c.reads.input) (x.left c.read.new.input) (take c.in_ok-n.n c.read.new.piece) (take_none c.in_ok-n.n c.read.new.piece none) i.taken c.in_ok-n.ensures.taken in
    came_end (x.left c.args.input.now) (x.left c.read.new.input) c.reads.joiner (session_of c.args.self.now) (session_of c.reads.self) (session_of c.take_rest.new.self) (o.written c.args.out.now) (o.written c.reads.out) (o.written c.take_rest.new.out) c.reads.faulty c.in_ok-last.last.faulty c.behind.result c.reads.total c.behind.ensures.faulty i.total i.up (continues _ _ i.serves) (continues _ _ c.take_rest.ensures.serves) all c.in_ok-last.ensures.answered

pub returns-in_err-some-clause-input : goal.returns-in_err-some-clause-input
returns-in_err-some-clause-input g c =
    let x = g.I.Source in
    let o = g.O.Sink in
    let i = c.reads.invariant in
    let n = c.in_ok-n.n in
    let ys = take n c.read.new.piece in
    let some = length-take-le n c.read.new.piece c.in_ok-n.ensures.within in
    let room = c.in_ok-n.ensures.room in
    let p = err_from_is_err_and c.from_residual-in_err-some.result c.from_residual-in_err-some.ensures.1 in
    let was = c.in_err-some.was in
    let is = p.1 in
    let same = p.2 in
    came_in c.from_residual-in_err-some.result p.0 (x.left c.args.input.now) (x.left c.reads.input) (x.left c.read.new.input) c.reads.joiner (session_of c.args.self.now) (session_of c.reads.self) (session_of c.take_piece.new.self) (o.written c.args.out.now) (o.written c.reads.out) (o.written c.take_piece.new.out) c.reads.faulty c.reads.total ys p.1 (λ f. c.take_piece.ensures.causes.no_read_fault (cc)) (λ f. c.take_piece.ensures.causes.not_full (cc)) (omega (arith, some, room)) i.up (continues _ _ i.serves) (continues _ _ c.take_piece.ensures.serves) i.taken c.in_ok-n.ensures.taken c.in_err-some.ensures.stopped

pub returns-in_err-joiner-clause-serves : goal.returns-in_err-joiner-clause-serves
returns-in_err-joiner-clause-serves g c = serves_none c.args.self.now _ c.requires.ready
