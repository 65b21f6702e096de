use Rattle.std.proofs.Common.{◌≡◌, ◌+◌, ◌^◌, ◌<◌, ◌≤◌, length, fold}
use Rattle.std.specs.Vec.Iter.{into_iter_items, into_iter_len}
use Rattle.wm_law.specs.Submitting.{numbers_end}
use Rattle.wm_core.specs.Drafts.{enter_draft, site_state, enter_drafts}
use Rattle.wm_jobs.specs.Table.{IsReady}
use Rattle.wm_core.proofs.autos.enter_drafts.Given as goal

-- what is left to enter comes to what was to be entered from the beginning, and there is room and there are numbers for it
abbrev pub invariant-loop-draft : goal.invariant-loop-draft
invariant-loop-draft l = record {
  left : fold (enter_draft l.site.sbs) (site_state l.site l.table l.number) (into_iter_items l.draft-iterator) ≡ enter_drafts l.site l.initial.table l.initial.number (into_iter_items l.initial.draft-iterator);
  clock : l.table.clock ≡ l.initial.table.clock;
  next_place : l.table.next_place ≡ l.initial.table.next_place;
  ready : IsReady l.initial.table → IsReady l.table;
  marked : l.table.marked ≡ l.initial.table.marked;
  room : length (into_iter_items l.draft-iterator) ≤ l.table.spare;
  serials : 1 ≤ length (into_iter_items l.draft-iterator) → l.table.next_serial + length (into_iter_items l.draft-iterator) < 2 ^ 64;
  least : 1 ≤ length (into_iter_items l.draft-iterator) → 1 ≤ l.number;
  greatest : 1 ≤ length (into_iter_items l.draft-iterator) → l.number + length (into_iter_items l.draft-iterator) ≤ numbers_end;
  counted : into_iter_len l.draft-iterator ≡ length (into_iter_items l.draft-iterator);
}
