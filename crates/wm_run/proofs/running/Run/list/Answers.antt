use Rattle.std.proofs.Common.{List, ℕ, subst, inl, inr, take}
use Rattle.wm_base.proofs.Lists.{on_err}
use Rattle.wm_traits.specs.Told.{Grows}
use Rattle.wm_run.proofs.Listings.{reads, uncalled_looked}
use Rattle.wm_run.proofs.Servings.{pass_looked, serves_alone}
use Rattle.wm_run.proofs.StoppedRuns.{Unanswered-none}
use Rattle.wm_run.specs.Grown.{session_of}
use Rattle.wm_run.proofs.running.Run.list.Goals as goal

pub returns-in_err-bytes-clause-serves : goal.returns-in_err-bytes-clause-serves
returns-in_err-bytes-clause-serves g c s = let l = c.listed.ensures in serves_alone c.args.self.now c.listed.new.self s c.requires.ready l.floor (pass_looked _ _ l.same l.session) l.watch l.monitor

pub returns-in_err-put-clause-serves : goal.returns-in_err-put-clause-serves
returns-in_err-put-clause-serves g c s = let l = c.listed.ensures in serves_alone c.args.self.now c.listed.new.self s c.requires.ready l.floor (pass_looked _ _ l.same l.session) l.watch l.monitor

pub returns-clause-serves : goal.returns-clause-serves
returns-clause-serves g c s = let l = c.listed.ensures in serves_alone c.args.self.now c.listed.new.self s c.requires.ready l.floor (pass_looked _ _ l.same l.session) l.watch l.monitor

pub returns-in_err-bytes-clause-uncalled : goal.returns-in_err-bytes-clause-uncalled
returns-in_err-bytes-clause-uncalled g c = let l = c.listed.ensures in uncalled_looked c.args.self.now c.listed.new.self c.requires.ready l.ready l.floor l.same l.session

pub returns-in_err-put-clause-uncalled : goal.returns-in_err-put-clause-uncalled
returns-in_err-put-clause-uncalled g c = let l = c.listed.ensures in uncalled_looked c.args.self.now c.listed.new.self c.requires.ready l.ready l.floor l.same l.session

pub returns-clause-uncalled : goal.returns-clause-uncalled
returns-clause-uncalled g c = let l = c.listed.ensures in uncalled_looked c.args.self.now c.listed.new.self c.requires.ready l.ready l.floor l.same l.session

pub returns-in_err-bytes-clause-stopped : goal.returns-in_err-bytes-clause-stopped
returns-in_err-bytes-clause-stopped g c =
    let l = c.listed.ensures in
    on_err _ (inl (record { none = uncalled_looked c.args.self.now c.listed.new.self c.requires.ready l.ready l.floor l.same l.session; written = (Unanswered-none (session_of c.args.self.now) (g.O.Sink.written c.args.out.now)).written }))

pub returns-in_err-put-clause-stopped : goal.returns-in_err-put-clause-stopped
returns-in_err-put-clause-stopped g c =
    let o = g.O.Sink in
    let l = c.listed.ensures in
    let k = c.in_ok-bytes.ensures in
    let some = c.in_err-put.ensures.some in
    on_err _ (inr (record {
      due = c.in_ok-bytes.bytes.items;
      faulty = c.in_ok-bytes.refused;
      answers = reads c.args.self.now c.listed.new.self c.requires.ready l.ready l.floor l.same l.session c.args.ask.now _ _ k.text k.refused;
      count = some.0;
      written = subst (λ (b : List ℕ). Grows (o.written c.args.out.now) (o.written c.put.new.out) (take some.0 b)) c.deref.ensures.value some.1;
    }))

pub returns-clause-answered : goal.returns-clause-answered
returns-clause-answered g c =
    let o = g.O.Sink in
    let l = c.listed.ensures in
    let k = c.in_ok-bytes.ensures in
    record {
      bytes = c.in_ok-bytes.bytes.items;
      answers = reads c.args.self.now c.listed.new.self c.requires.ready l.ready l.floor l.same l.session c.args.ask.now _ _ k.text k.refused;
      written = subst (λ (b : List ℕ). Grows (o.written c.args.out.now) (o.written c.put.new.out) b) c.deref.ensures.value c.in_ok-put.ensures.ok;
    }
