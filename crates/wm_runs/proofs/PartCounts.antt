-- The counts of the output and of the store never fall.
use Rattle.std.proofs.Common.{◌≡◌, ℕ, ◌≤◌, List, [], ◌∷◌, ap, subst, arith}
use Rattle.wm_runs.specs.Turns.{AreInOrder, AreRuns, Seen, Turn}
use Rattle.wm_run.specs.declared.whole_run.Ran.{Ran}

module _ {I O S P : Type 0} (seen : Seen I O S P) (words : List (List ℕ)) where
  no_less : (n m : ℕ) → n ≡ m → m ≤ n
  no_less n m same = omega arith

  through : (l m n : ℕ) → l ≤ m → m ≤ n → l ≤ n
  through l m n one two = omega arith

  out_counts : (turns : List (Turn I O S P)) (out out' : O) (store store' : S) → AreInOrder seen words out store turns out' store' → seen.write_faults out ≤ seen.write_faults out'
  out_counts [] out out' store store' h = no_less (seen.write_faults out') (seen.write_faults out) (ap seen.write_faults h.0)
  out_counts (turn ∷ turns) out out' store store' h =
      subst (λ (o : O). seen.write_faults o ≤ seen.write_faults out') h.0
      (through _ _ _ h.2.causes.out_faults (out_counts turns turn.out_now out' turn.store_now store' h.3))

  store_counts : (turns : List (Turn I O S P)) (out out' : O) (store store' : S) → AreInOrder seen words out store turns out' store' → seen.keeper_faults store ≤ seen.keeper_faults store'
  store_counts [] out out' store store' h = no_less (seen.keeper_faults store') (seen.keeper_faults store) (ap seen.keeper_faults h.1)
  store_counts (turn ∷ turns) out out' store store' h =
      subst (λ (s : S). seen.keeper_faults s ≤ seen.keeper_faults store') h.1
      (through _ _ _ h.2.causes.store_faults (store_counts turns turn.out_now out' turn.store_now store' h.3))

  pub out_never_falls : {inputs inputs' : List I} {spawners spawners' : List P} {rans : List Ran} {out out' : O} {store store' : S} → AreRuns seen words inputs inputs' spawners spawners' rans out out' store store' → seen.write_faults out ≤ seen.write_faults out'
  out_never_falls {out = out} {out' = out'} {store = store} {store' = store'} h = out_counts h.turns out out' store store' h.in_order

  pub store_never_falls : {inputs inputs' : List I} {spawners spawners' : List P} {rans : List Ran} {out out' : O} {store store' : S} → AreRuns seen words inputs inputs' spawners spawners' rans out out' store store' → seen.keeper_faults store ≤ seen.keeper_faults store'
  store_never_falls {out = out} {out' = out'} {store = store} {store' = store'} h = store_counts h.turns out out' store store' h.in_order
