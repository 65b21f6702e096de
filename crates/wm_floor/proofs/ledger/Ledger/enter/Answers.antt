use Rattle.std.proofs.Common.{◌≡◌, List, [], ◌∷◌, ◌++◌, sym, refl, subst, ap, ◌∙◌, arith}
use Rattle.wm_law.specs.declared.call.Entry.{Entry}
use Rattle.wm_law.specs.declared.call.Reply.TheVariants.{Nothing}
use Rattle.wm_law.specs.History.{stepped}
use Rattle.wm_floor.specs.Keeping.{telling}
use Rattle.wm_floor.specs.History.{History}
use Rattle.wm_floor.proofs.Journals.{journal_with, limit_of_most, IsStep}
use Rattle.wm_floor.specs.Ledger.{IsLedger, Ledgered}
use Rattle.wm_floor.specs.Stored.{Stored}
use Rattle.wm_floor.proofs.Counts.{risen_after}
use Rattle.wm_floor.proofs.Untold.{grown_untold}
use Rattle.wm_floor.proofs.ledger.Ledger.enter.Goals as goal

pub invariant_of-self-2 : goal.invariant_of-self-2
invariant_of-self-2 g c =
    let F = g.K.Keeper.faults in
    let T = telling g.K.Keeper.tables g.K.Keeper.trail in
    let j = c.self.inside in
    let d = c.deref_mut.result.now in
    let at : Stored g.row.K.Denot → Type 0 = λ (x : Stored g.row.K.Denot). let l : Ledgered g.row.K.Denot = record { opening = record { state = j.opened.value.state; keeper = j.opened.value.keeper; found = j.found.value; limit = j.limit }; log = j.log.items; keeper = x.keeper; misses = j.misses } in IsLedger F g.K.Keeper.tables g.K.Keeper.trail l x.state in
    let i = subst at (sym c.deref_mut.ensures.value) c.self.invariant in
    let h : History = record { opened = j.opened.value.state; log = j.log.items } in
    let first : Entry = record { caller = c.args.caller; call = c.args.call; moment = c.args.now; reply = Nothing } in
    let reply = (stepped d.state first).reply in
    let e : Entry = record { caller = c.args.caller; call = c.args.call; moment = c.args.now; reply = reply } in
    let was : c.in-Some.entry.now ≡ first = c.in-Some.ensures.value ∙ c.in_ok-shared.ensures in
    let is : c.of.result ≡ e =
    c.of.ensures ∙ (c.in_ok-reply.ensures.entry ∙ ap (λ (o : Entry). let new : Entry = record o { reply = (stepped d.state o).reply } in new) was) in
    let s = c.step.new.stored.state in
    let k : IsStep h j.limit d.state s c.args.caller c.args.call c.args.now reply (T j.found.value) (T d.keeper) (T c.step.new.stored.keeper) = record {
      journal = i.journal;
      seat = (let r = c.ranges.caller.fits in omega arith);
      fit = c.requires.fit;
      moment = c.get-moment.ensures.range;
      room = omega (arith, limit_of_most c.args.call j.limit i.journal.limit, c.limit_of-limit.ensures, c.len.ensures, c.if-len-limit.false);
      reply = refl;
      state = c.in_ok-reply.ensures.state ∙ ap (λ (o : Entry). (stepped d.state o).state) was;
      kept = c.in_ok-reply.ensures.kept;
    } in
    let pushed : c.push_reserved.new.self.items ≡ j.log.items ++ e ∷ [] =
    c.push_reserved.ensures.items ∙ (ap (λ (es : List Entry). es ++ c.of.result ∷ []) c.reserve.ensures.items ∙ ap (λ (x : Entry). j.log.items ++ x ∷ []) is) in
    let ledger = λ (es : List Entry). let l : Ledgered g.row.K.Denot = record { opening = record { state = j.opened.value.state; keeper = j.opened.value.keeper; found = j.found.value; limit = j.limit }; log = es; keeper = c.step.new.stored.keeper; misses = c.step.new.misses } in IsLedger F g.K.Keeper.tables g.K.Keeper.trail l s in
    let now : ledger (j.log.items ++ e ∷ []) = record {
      journal = journal_with h j.limit d.state s c.args.caller c.args.call c.args.now reply (T j.found.value) (T d.keeper) (T c.step.new.stored.keeper) k;
      risen = risen_after (F j.found.value) j.misses c.step.new.misses (F d.keeper) (F c.step.new.stored.keeper) c.step.result i.risen c.step.ensures.later c.step.ensures.counted c.step.ensures.missed;
      untold = λ none. grown_untold (T d.keeper).trail (T c.step.new.stored.keeper).trail _ c.in_ok-reply.ensures.kept.trail (i.untold none);
    } in
    subst ledger (sym pushed) now
