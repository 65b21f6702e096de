-- Runs that were made for the first of the inputs.
use Rattle.std.proofs.Common.{◌≡◌, ℕ, ◌+◌, ◌<◌, List, [], ◌∷◌, ◌++◌, map, take, drop, get_or, length, refl, sym, ap, subst, ◌∙◌, arith}
use Rattle.std.proofs.Math.ListN.{set}
use Rattle.std.proofs.Math.Seq.{take-length}
use Rattle.std.proofs.lemmas.List.{map-append, take_more, take_more_set, drop_more, drop-set-lt, length-append}
use Rattle.wm_run.specs.declared.whole_run.Ran.{Ran}
use Rattle.wm_runs.specs.Turns.{AreInOrder, AreRuns, IsOneRun, Seen, Turn}

-- so many runs were made, and the inputs and the spawners behind those are as they were
pub record ArePartway {I O S P : Type 0} (seen : Seen I O S P) (words : List (List ℕ)) (n : ℕ) (inputs inputs_now : List I) (spawners spawners_now : List P) (rans : List Ran) (out out_now : O) (store store_now : S) : Type 0 where
  pub made : AreRuns seen words (take n inputs) (take n inputs_now) (take n spawners) (take n spawners_now) rans out out_now store store_now
  pub inputs_behind : drop n inputs_now ≡ drop n inputs
  pub spawners_behind : drop n spawners_now ≡ drop n spawners
  pub many : length rans ≡ n

module _ {X : Type 0} (xs ys : List X) (n : ℕ) (same : drop n ys ≡ drop n xs) (here : n < length xs) (there : n < length ys) where
  -- one more of those that were found
  found_more : (y d : X) → y ≡ get_or ys n d → take (n + 1) xs ≡ take n xs ++ y ∷ []
  found_more y d is =
      let now = drop_more ys n d there in
      let before = drop_more xs n d here in
      let more = take_more xs n d here in
      let at : get_or xs n d ≡ y = cc in
      subst (λ (z : X). take (n + 1) xs ≡ take n xs ++ z ∷ []) at more

  -- those behind one more
  behind_more : (z : X) → drop (n + 1) (set ys n z) ≡ drop (n + 1) xs
  behind_more z =
      let now = drop_more ys n z there in
      let before = drop_more xs n z here in
      let unset = drop-set-lt (n + 1) ys n z (omega arith) in
      cc

-- as many as there are are all
take_whole : {X : Type 0} (n : ℕ) (xs : List X) → n ≡ length xs → take n xs ≡ xs
take_whole n xs e = ap (λ (k : ℕ). take k xs) e ∙ take-length xs

-- one more of what is seen of turns
map_more : {X Y : Type 0} (f : X → Y) (ts : List X) (t : X) (ys zs : List Y) → map f ts ≡ ys → zs ≡ ys ++ f t ∷ [] → map f (ts ++ t ∷ []) ≡ zs
map_more f ts t ys zs h e = map-append f ts (t ∷ []) ∙ ap (λ (l : List _). l ++ f t ∷ []) h ∙ sym e

module _ {I O S P : Type 0} (seen : Seen I O S P) (words : List (List ℕ)) where
  -- one run more, behind the others
  in_order_more : (o : O) (s : S) (turns : List (Turn I O S P)) (u : O) (w : S) (turn : Turn I O S P) → AreInOrder seen words o s turns u w → turn.out_before ≡ u → turn.store_before ≡ w → IsOneRun seen words turn → AreInOrder seen words o s (turns ++ turn ∷ []) turn.out_now turn.store_now
  in_order_more o s [] u w turn h out store one = (out ∙ h.0, store ∙ h.1, one, (refl, refl))
  in_order_more o s (t ∷ turns) u w turn h out store one = (h.0, h.1, h.2, in_order_more t.out_now t.store_now turns u w turn h.3 out store one)

  module _ (inputs inputs_now : List I) (spawners spawners_now : List P) (o u : O) (s w : S) where
    -- no run was made
    pub none_made : (rans : List Ran) → rans ≡ [] → ArePartway seen words 0 inputs inputs spawners spawners rans o o s s
    none_made rans none = record {
      made = record {
        turns = [];
        inputs_before = refl;
        inputs_now = refl;
        spawners_before = refl;
        spawners_now = refl;
        answers = sym none;
        in_order = (refl, refl);
      };
      inputs_behind = refl;
      spawners_behind = refl;
      many = ap length none;
    }

    -- one run more was made
    pub one_made : (n : ℕ) (rans more : List Ran) (turn : Turn I O S P) (i : I) (p : P)
        → ArePartway seen words n inputs inputs_now spawners spawners_now rans o u s w
        → length inputs_now ≡ length inputs
        → length spawners_now ≡ length spawners
        → n < length inputs
        → n < length spawners
        → turn.input_before ≡ get_or inputs_now n i
        → turn.spawner_before ≡ get_or spawners_now n p
        → turn.out_before ≡ u
        → turn.store_before ≡ w
        → more ≡ rans ++ turn.ran ∷ []
        → IsOneRun seen words turn
        → ArePartway seen words (n + 1) inputs (set inputs_now n turn.input_now) spawners (set spawners_now n turn.spawner_now) more o turn.out_now s turn.store_now
    one_made n rans more turn i p h same_inputs same_spawners lt lt' input spawner out store is one =
        let made = h.made in
        let ts = made.turns in
        let lt_now : n < length inputs_now = omega arith in
        let lt_now' : n < length spawners_now = omega arith in
        record {
          made = record {
            turns = ts ++ turn ∷ [];
            inputs_before = map_more (λ (t : Turn I O S P). t.input_before) ts turn _ _ made.inputs_before (found_more inputs inputs_now n h.inputs_behind lt lt_now turn.input_before i input);
            inputs_now = map_more (λ (t : Turn I O S P). t.input_now) ts turn _ _ made.inputs_now (take_more_set inputs_now n turn.input_now lt_now);
            spawners_before = map_more (λ (t : Turn I O S P). t.spawner_before) ts turn _ _ made.spawners_before (found_more spawners spawners_now n h.spawners_behind lt' lt_now' turn.spawner_before p spawner);
            spawners_now = map_more (λ (t : Turn I O S P). t.spawner_now) ts turn _ _ made.spawners_now (take_more_set spawners_now n turn.spawner_now lt_now');
            answers = map_more (λ (t : Turn I O S P). t.ran) ts turn _ _ made.answers is;
            in_order = in_order_more o s ts u w turn made.in_order out store one;
          };
          inputs_behind = behind_more inputs inputs_now n h.inputs_behind lt lt_now turn.input_now;
          spawners_behind = behind_more spawners spawners_now n h.spawners_behind lt' lt_now' turn.spawner_now;
          many = ap length is ∙ length-append rans (turn.ran ∷ []) ∙ ap (λ (k : ℕ). k + 1) h.many;
        }

    -- all runs were made
    pub all_made : (n : ℕ) (rans : List Ran)
        → ArePartway seen words n inputs inputs_now spawners spawners_now rans o u s w
        → n ≡ length inputs
        → n ≡ length inputs_now
        → n ≡ length spawners
        → n ≡ length spawners_now
        → AreRuns seen words inputs inputs_now spawners spawners_now rans o u s w
    all_made n rans h a b c d =
        record {
          turns = h.made.turns;
          inputs_before = h.made.inputs_before ∙ take_whole n inputs a;
          inputs_now = h.made.inputs_now ∙ take_whole n inputs_now b;
          spawners_before = h.made.spawners_before ∙ take_whole n spawners c;
          spawners_now = h.made.spawners_now ∙ take_whole n spawners_now d;
          answers = h.made.answers;
          in_order = h.made.in_order;
        }
