-- What a call behind a history keeps.
use Rattle.std.proofs.Common.{◌≡◌, ℕ, ◌+◌, ◌<◌, ◌≤◌, ◌^◌, List, [], ◌∷◌, ◌++◌, length, sym, subst, ap, ◌∙◌, arith}
use Rattle.std.proofs.lemmas.List.{length_push}
use Rattle.wm_law.specs.declared.call.Call.{Call}
use Rattle.wm_law.specs.declared.call.Call.TheVariants.{Change, Hand, Started, StartFailed, Finished, UseDone, Tick}
use Rattle.wm_law.specs.declared.call.Entry.{Entry}
use Rattle.wm_law.specs.declared.call.Reply.{Reply}
use Rattle.wm_law.specs.declared.state.State.{State}
use Rattle.wm_law.specs.Fit.{IsCall}
use Rattle.wm_law.specs.History.{after, IsEntry}
use Rattle.wm_law.specs.Machine.{step}
use Rattle.wm_law.proofs.History.{after-append, IsLegal-push}
use Rattle.wm_floor.specs.Keeping.{Telling, IsKept}
use Rattle.wm_floor.specs.History.{History, reached}
use Rattle.wm_floor.specs.Journaled.{IsJournal}
use Rattle.wm_floor.specs.Limit.{limit_of}
use Rattle.wm_floor.proofs.Trails.{trail_with}

-- no call is taken above 4,000,000 entries
pub limit_of_most : (call : Call) (limit : ℕ) → limit ≤ 1000000 → limit_of call limit ≤ 4000000
limit_of_most (Change user c) limit h = omega (arith, h)
limit_of_most Hand limit h = omega arith
limit_of_most (Started serial) limit h = omega arith
limit_of_most (StartFailed serial why) limit h = omega arith
limit_of_most (Finished serial end) limit h = omega arith
limit_of_most (UseDone serial) limit h = omega arith
limit_of_most Tick limit h = omega arith

-- a step of the machine of a history, whose rows were kept
pub record IsStep (h : History) (most : ℕ) (s t : State) (caller : ℕ) (call : Call) (now : ℕ) (said : Reply) (old mid new : Telling) : Type 0 where
  pub journal : IsJournal h most s old mid
  pub seat : caller < 2 ^ 32
  pub fit : IsCall call
  pub moment : now ≤ 253402214399
  pub room : length h.log + 1 ≤ 4000000
  pub reply : said ≡ (step s caller call now).reply
  pub state : t ≡ (step s caller call now).state
  pub kept : IsKept s t mid new

module _ (h : History) (most : ℕ) (s t : State) (caller : ℕ) (call : Call) (now : ℕ) (said : Reply) (old mid new : Telling) (k : IsStep h most s t caller call now said old mid new) where
  abbrev e : Entry
  e = record { caller = caller; call = call; moment = now; reply = said }

  abbrev log : List Entry
  log = h.log ++ e ∷ []

  abbrev with_entry : History
  with_entry = record { opened = h.opened; log = log }

  entry : IsEntry (after h.opened h.log) e
  entry = record {
    caller = k.seat;
    call = k.fit;
    moment = k.moment;
    reply = subst (λ (u : State). said ≡ (step u caller call now).reply) k.journal.state k.reply;
  }

  state_with : t ≡ reached with_entry
  state_with = k.state ∙ (ap (λ (u : State). (step u caller call now).state) k.journal.state ∙ sym (after-append h.opened h.log (e ∷ [])))

  -- the rows were kept from the state that the history reached to the one that it reaches with the entry
  kept_with : IsKept (reached h) (reached with_entry) mid new
  kept_with = subst (λ (u : State). IsKept (reached h) u mid new) state_with (subst (λ (u : State). IsKept u t mid new) k.journal.state k.kept)

  pub journal_with : IsJournal with_entry most t old new
  journal_with = record {
    state = state_with;
    legal = IsLegal-push h.opened h.log e k.journal.legal entry;
    trail = trail_with h.opened h.log e old mid new k.journal.trail kept_with.trail;
    limit = k.journal.limit;
    room = omega (arith, length_push h.log e, k.room);
  }
