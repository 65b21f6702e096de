-- Runs over a store that tells its rows are a chain.
use Rattle.std.proofs.Common.{◌≡◌, ◌∙◌, ◌++◌, ℕ, ℤ, List, [], ◌∷◌, map, Option, Some, None, IfSome, refl, sym, ap, subst, inl, inr}
use Rattle.std.specs.List.{flat_map}
use Rattle.wm_tables.specs.Chain.{Run, all_starts}
use Rattle.wm_tables.specs.ChainLaws.{NoJobStartsTwice}
use Rattle.wm_floor.specs.Keeping.{Telling}
use Rattle.wm_law.specs.declared.call.Entry.{Entry}
use Rattle.wm_law.specs.declared.state.State.{State}
use Rattle.wm_law.specs.Kept.{IsDistinct, starts}
use Rattle.wm_run.specs.declared.whole_run.Ran.{Ran}
use Rattle.wm_run.specs.Kept.{HasHistory}
use Rattle.wm_run.specs.Laws.{RunsMakeChains}
use Rattle.wm_run.specs.Words.{settings_of}
use Rattle.wm_traits.specs.Told.{Stays}
use Rattle.wm_traits.specs.declared.row.Row.{Row}
use Rattle.wm_runs.specs.Chained.{AreChained, HasChain, started}
use Rattle.wm_runs.specs.Turns.{AreInOrder, AreRuns, IsOneRun, Seen, Turn}

-- what holds where something is told holds of what is told
by_told_rows : {A : Type 0} (P : Type 0) (o : Option A) (x : A) → o ≡ Some x → IfSome o (λ _. P) → P
by_told_rows P o x e h = subst (λ (p : Option _). IfSome p (λ _. P)) e h

-- what is told as it was, was told before
stays_told : {A : Type 0} (o : Option A) (x : A) → Stays o (Some x) → (y : A) × (o ≡ Some y)
stays_told None x h = absurd h
stays_told (Some y) x h = (y, refl)

-- rows that are told behind a run were told before it
told_before : (offset : ℤ) (status : ℕ) (log : List Entry) (old new : Telling) (Came : State → Type 0) (left : List Row) → new.tables ≡ Some left → HasHistory offset status log old new Came → (found : List Row) × (old.tables ≡ Some found)
told_before offset status log old new Came left e (inl h) = (h.rows, by_told_rows (old.tables ≡ Some h.rows) new.tables left e h.found)
told_before offset status log old new Came left e (inr h) = stays_told old.tables left (subst (Stays old.tables) e h.left.tables)

module _ {I O S P : Type 0} (chains : RunsMakeChains) (seen : Seen I O S P) (words : List (List ℕ)) where
  -- the rows that the runs found, from which they are a chain to those that they left
  abbrev ChainedFrom : S → List Row → List Ran → Type 0
  ChainedFrom store left rans = (found : List Row) × (seen.tables store ≡ Some found) × AreChained (settings_of words).offset found left rans

  -- one run more, in front
  linked : (turn : Turn I O S P) (rans : List Ran) (middle left : List Row) → IsOneRun seen words turn → seen.tables turn.store_now ≡ Some middle → AreChained (settings_of words).offset middle left rans → ChainedFrom turn.store_before left (turn.ran ∷ rans)
  linked turn rans middle left one e rest =
      let settings = settings_of words in
      let before = told_before settings.offset turn.ran.status turn.ran.log _ _ _ middle e one.history in
      let run : Run = record { offset = settings.offset; log = turn.ran.log; left = middle } in
      let is_run = chains settings turn.ran.status turn.ran.log before.0 middle (record {
        old = record { tables = seen.tables turn.store_before; trail = seen.trail turn.store_before };
        new = record { tables = seen.tables turn.store_now; trail = seen.trail turn.store_now };
        left_before = seen.left turn.input_before;
        left_now = seen.left turn.input_now;
        written_before = seen.written turn.out_before;
        written_now = seen.written turn.out_now;
        history = one.history;
        found_rows = before.1;
        left_rows = e;
      }) in (
        before.0,
        before.1,
        record {
          runs = run ∷ rest.runs;
          chain = (is_run, rest.chain);
          logs = ap (λ (ls : List (List Entry)). turn.ran.log ∷ ls) rest.logs;
          offsets = λ r i. (elim i as (λ _. r.offset ≡ settings.offset) [ inl same ↦ ap (λ (x : Run). x.offset) same | inr j ↦ rest.offsets r j ]);
          leaves = rest.leaves;
        },
      )

  chained : (turns : List (Turn I O S P)) (out out' : O) (store store' : S) (left : List Row) → AreInOrder seen words out store turns out' store' → seen.tables store' ≡ Some left → ChainedFrom store left (map (λ (turn : Turn I O S P). turn.ran) turns)
  chained [] out out' store store' left h e = (
    left,
    ap seen.tables (sym h.1) ∙ e,
    record { runs = []; chain = tt; logs = refl; offsets = λ r i. absurd i; leaves = refl },
  )
  chained (turn ∷ turns) out out' store store' left h e =
      let rest = chained turns turn.out_now out' turn.store_now store' left h.3 e in
      let rans = map (λ (t : Turn I O S P). t.ran) turns in
      subst (λ (s : S). ChainedFrom s left (turn.ran ∷ rans)) h.1 (linked turn rans rest.0 left h.2 rest.1 rest.2)

  by_told : (turns : List (Turn I O S P)) (out out' : O) (store store' : S) (now : Option (List Row)) → seen.tables store' ≡ now → AreInOrder seen words out store turns out' store' → HasChain (settings_of words).offset (seen.tables store) now (map (λ (turn : Turn I O S P). turn.ran) turns)
  by_told turns out out' store store' None e h = tt
  by_told turns out out' store store' (Some left) e h = chained turns out out' store store' left h e

-- the runs make a chain, where the rows are told to the end
pub make_chain : {I O S P : Type 0} {seen : Seen I O S P} {words : List (List ℕ)} {inputs inputs' : List I} {spawners spawners' : List P} {rans : List Ran} {out out' : O} {store store' : S} → RunsMakeChains → AreRuns seen words inputs inputs' spawners spawners' rans out out' store store' → HasChain (settings_of words).offset (seen.tables store) (seen.tables store') rans
make_chain {seen = seen} {words = words} {out = out} {out' = out'} {store = store} {store' = store'} chains h =
    subst (λ (rs : List Ran). HasChain (settings_of words).offset (seen.tables store) (seen.tables store') rs) h.answers
    (by_told chains seen words h.turns out out' store store' (seen.tables store') refl h.in_order)

starts_of : (runs : List Run) → all_starts runs ≡ flat_map (λ (l : List Entry). starts l) (map (λ (r : Run). r.log) runs)
starts_of [] = refl
starts_of (r ∷ runs) = ap (λ (l : List ℕ). starts r.log ++ l) (starts_of runs)

started_of : (rans : List Ran) → started rans ≡ flat_map (λ (l : List Entry). starts l) (map (λ (r : Ran). r.log) rans)
started_of [] = refl
started_of (r ∷ rans) = ap (λ (l : List ℕ). starts r.log ++ l) (started_of rans)

same_starts : (offset : ℤ) (found left : List Row) (rans : List Ran) (h : AreChained offset found left rans) → all_starts h.runs ≡ started rans
same_starts offset found left rans h = starts_of h.runs ∙ ap (flat_map (λ (l : List Entry). starts l)) h.logs ∙ sym (started_of rans)

-- so no serial is ordered to start twice in them
pub start_once : NoJobStartsTwice → (offset : ℤ) (old new : Option (List Row)) (rans : List Ran) → HasChain offset old new rans → IfSome new (λ _. IsDistinct (started rans))
start_once never offset old None rans h = tt
start_once never offset old (Some left) rans h = subst (IsDistinct {X = ℕ}) (same_starts offset h.0 left rans h.2) (never h.0 h.2.runs h.2.chain)
