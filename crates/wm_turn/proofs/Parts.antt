-- How the parts of a turnstile's rule go on when one view, or the history, changes.
use Rattle.std.proofs.Common.{◌≡◌, ℕ, ◌+◌, ◌%◌, ◌^◌, ◌<◌, ◌≤◌, ◌≢◌, ◌⊎◌, Bool, true, false, cond, List, [], ◌++◌, length, get_or, set, Option, Some, is_some, bit_or, sym, refl, ap, ◌∙◌, subst, inl, ⊎_elim, arith, length-set, get_or-set_same, get_or-set_other, mod-eq_of_lt}
use Rattle.std.proofs.Math.Nat.{mod-add-mod}
use mathlib.Core.Logic.{dite}
use mathlib.Core.Option.{some}
use native.Mathlib.Decide.{ℕ_discrete}
use lib.ListN.{get_elem?}
use Rattle.atomic_table.proofs.Lists.{at_set, set_here, set_else}
use Rattle.wm_turn.specs.declared.view.View.{View}
use Rattle.wm_turn.specs.declared.view.Stage.TheVariants.{Turn}
use Rattle.wm_turn.specs.Passed.{own}
use Rattle.wm_turn.specs.Views.{ticket_of, is_live, has_ticket}
use Rattle.wm_turn.specs.Rule.{Shows, InLine, Fits, Roll}
use Rattle.wm_turn.proofs.Histories.{starts_more, own_none, at_inside, same_at, how_many_set, or_one}

abbrev pub unit : Bool → ℕ
unit b = cond b 1 0

-- the words after a step on one of them
module _ (ws : List ℕ) (n now next : ℕ) (r : Shows ws n now next) where
  still : (i j x : ℕ) → j ≢ i → get_or (set ws i x) j 0 ≡ get_or ws j 0
  still i j x other = get_or-set_other ws i j x 0 other

  pub draw_shows : Shows (set ws 0 ((get_or ws 0 0 + 1) % 2 ^ 64)) n now (next + 1)
  draw_shows = let four : length ws ≡ 4 = r.four in let x : ℕ = (get_or ws 0 0 + 1) % 2 ^ 64 in record {
    four = length-set ws 0 x ∙ four;
    ticket = get_or-set_same ws 0 x 0 (omega arith) ∙ (ap (λ (k : ℕ). (k + 1) % 2 ^ 64) r.ticket ∙ mod-add-mod next (2 ^ 64) 1);
    serving = still 0 1 x (λ e. omega arith) ∙ r.serving;
    count = still 0 2 x (λ e. omega arith) ∙ r.count;
    failed = subst (λ (k : ℕ). k ≤ 1) (sym (still 0 3 x (λ e. omega arith))) r.failed;
  }

  pub pass_shows : Shows (set ws 1 ((get_or ws 1 0 + 1) % 2 ^ 64)) n (now + 1) next
  pass_shows = let four : length ws ≡ 4 = r.four in let x : ℕ = (get_or ws 1 0 + 1) % 2 ^ 64 in record {
    four = length-set ws 1 x ∙ four;
    ticket = still 1 0 x (λ e. omega arith) ∙ r.ticket;
    serving = get_or-set_same ws 1 x 0 (omega arith) ∙ (ap (λ (k : ℕ). (k + 1) % 2 ^ 64) r.serving ∙ mod-add-mod now (2 ^ 64) 1);
    count = still 1 2 x (λ e. omega arith) ∙ r.count;
    failed = subst (λ (k : ℕ). k ≤ 1) (sym (still 1 3 x (λ e. omega arith))) r.failed;
  }

  pub entry_shows : n + 1 < 2 ^ 64 → Shows (set ws 2 ((get_or ws 2 0 + 1) % 2 ^ 64)) (n + 1) now next
  entry_shows room = let four : length ws ≡ 4 = r.four in let x : ℕ = (get_or ws 2 0 + 1) % 2 ^ 64 in record {
    four = length-set ws 2 x ∙ four;
    ticket = still 2 0 x (λ e. omega arith) ∙ r.ticket;
    serving = still 2 1 x (λ e. omega arith) ∙ r.serving;
    count = get_or-set_same ws 2 x 0 (omega arith) ∙ (ap (λ (k : ℕ). (k + 1) % 2 ^ 64) r.count ∙ mod-eq_of_lt room);
    failed = subst (λ (k : ℕ). k ≤ 1) (sym (still 2 3 x (λ e. omega arith))) r.failed;
  }

  pub marked_word : get_or (set ws 3 (bit_or (get_or ws 3 0) 1)) 3 0 ≡ 1
  marked_word = let four : length ws ≡ 4 = r.four in get_or-set_same ws 3 (bit_or (get_or ws 3 0) 1) 0 (omega arith) ∙ or_one (get_or ws 3 0) r.failed

  pub mark_shows : Shows (set ws 3 (bit_or (get_or ws 3 0) 1)) n now next
  mark_shows = let x : ℕ = bit_or (get_or ws 3 0) 1 in record {
    four = length-set ws 3 x ∙ r.four;
    ticket = still 3 0 x (λ e. omega arith) ∙ r.ticket;
    serving = still 3 1 x (λ e. omega arith) ∙ r.serving;
    count = still 3 2 x (λ e. omega arith) ∙ r.count;
    failed = subst (λ (k : ℕ). k ≤ 1) (sym marked_word) (omega arith);
  }

module _ {O E : Type 0} where
  abbrev one : (View O E → Bool) → View O E → ℕ
  one test v = cond (test v) 1 0

  -- the view at id becomes w
  module _ (views : List (View O E)) (id : ℕ) (v w : View O E) (at : get_elem? views id ≡ some v) where
    pub each : (K : ℕ → View O E → Type 0) → K id w → ((j : ℕ) (u : View O E) → j ≢ id → get_elem? views j ≡ some u → K j u) → (j : ℕ) (u : View O E) → get_elem? (set views id w) j ≡ some u → K j u
    each K mine others j u e = ⊎_elim (λ (t : (j ≡ id) × (w ≡ u)). subst (λ (x : ℕ × View O E). K x.0 x.1) (λ i. (sym t.0 i, t.1 i)) mine)
        (λ (t : (j ≢ id) × (get_elem? views j ≡ some u)). others j u t.0 t.1) (at_set views id j w u e)

    pub here : get_elem? (set views id w) id ≡ some w
    here = set_here views id w (at_inside views id v at)

    pub line_set : (now next now' next' : ℕ) → InLine views now next
        → now' + next + one has_ticket w ≡ now + next' + one has_ticket v
        → ((t : ℕ) → now ≤ t → t < next → (ticket_of v.stage ≡ Some t → ⊥) → (now' ≤ t) × (t < next'))
        → ((t : ℕ) → ticket_of w.stage ≡ Some t → (now' ≤ t) × (t < next'))
        → ((t : ℕ) → ticket_of w.stage ≡ Some t → (ticket_of v.stage ≡ Some t) ⊎ (next ≤ t))
        → InLine (set views id w) now' next'
    line_set now next now' next' l count others mine fresh =
        let clash : (j : ℕ) (u : View O E) (t : ℕ) → j ≢ id → get_elem? views j ≡ some u → ticket_of u.stage ≡ Some t → ticket_of w.stage ≡ Some t → ⊥ = λ j u t other e is also. ⊎_elim
        (λ same. other (l.apart j id u v t e is at same))
        (λ (late : next ≤ t). let r = l.within j u t e is in let a : t < next = r.1 in absurd (omega arith)) (fresh t also) in record {
          drawn = omega (arith, l.drawn, count, how_many_set has_ticket views id v w at);
          within = λ j u t e is. each (λ j u. (t : ℕ) → ticket_of u.stage ≡ Some t → (now' ≤ t) × (t < next')) mine
              (λ j u other e t is. let r = l.within j u t e is in others t r.0 r.1 (λ same. other (l.apart j id u v t e is at same))) j u e t is;
          apart = λ i j a b t e is f also. ⊎_elim
              (λ (p : (i ≡ id) × (w ≡ a)). ⊎_elim
              (λ (q : (j ≡ id) × (w ≡ b)). p.0 ∙ sym q.0)
              (λ (q : (j ≢ id) × (get_elem? views j ≡ some b)). absurd (clash j b t q.0 q.1 also (ap (λ (u : View O E). ticket_of u.stage) p.1 ∙ is)))
              (at_set views id j w b f))
              (λ (p : (i ≢ id) × (get_elem? views i ≡ some a)). ⊎_elim
              (λ (q : (j ≡ id) × (w ≡ b)). absurd (clash i a t p.0 p.1 is (ap (λ (u : View O E). ticket_of u.stage) q.1 ∙ also)))
              (λ (q : (j ≢ id) × (get_elem? views j ≡ some b)). l.apart i j a b t p.1 is q.1 also)
              (at_set views id j w b f))
              (at_set views id i w a e);
        }

    -- where the ticket stays
    pub line_stays : (now next : ℕ) → ticket_of w.stage ≡ ticket_of v.stage → InLine views now next → InLine (set views id w) now next
    line_stays now next same l = line_set now next now next l (omega (arith, ap (λ (o : Option ℕ). unit (is_some o)) same)) (λ t a b _. (a, b)) (λ t is. l.within id v t at (sym same ∙ is)) (λ t is. inl (sym same ∙ is))

  module _ (by : E → ℕ) (first : O) where
    -- a view that hasn't its turn, where `failed` stays or becomes 1
    pub fits_on : (history : List E) (now failed now' failed' j : ℕ) (u : View O E) → (failed ≡ 1 → failed' ≡ 1) → ((t m f : ℕ) → u.stage ≡ Turn t m f → ⊥) → Fits by first history now failed j u → Fits by first history now' failed' j u
    fits_on history now failed now' failed' j u up free r = record {
      seen = r.seen;
      before = r.before;
      beside = r.beside;
      marked = λ h. up (r.marked h);
      live = r.live;
      idle = r.idle;
      turn = λ t m f is. absurd (free t m f is);
    }

    -- and where the history grows by entries of others
    pub fits_more : (history more : List E) (now failed j : ℕ) (u : View O E) → own by j more ≡ [] → ((t m f : ℕ) → u.stage ≡ Turn t m f → ⊥) → Fits by first history now failed j u → Fits by first (history ++ more) now failed j u
    fits_more history more now failed j u others free r = record {
      seen = starts_more history more u.seen r.seen;
      before = r.before;
      beside = r.beside;
      marked = r.marked;
      live = λ is. let t = r.live is in record { number = t.number; opening = t.opening; mine = t.mine ∙ sym (own_none by j history more others); within = t.within };
      idle = r.idle;
      turn = λ t m f is. absurd (free t m f is);
    }

    pub roll_more : (history more : List E) (views : List (View O E)) (zero : View O E) → ((n : ℕ) (u : View O E) → get_elem? views n ≡ some u → is_live u ≡ false → own by n more ≡ []) → Roll by first history views zero → Roll by first (history ++ more) views zero
    roll_more history more views zero others r = record {
      live = r.live;
      made = r.made;
      room = r.room;
      out = r.out;
      joined = λ i n mine e. let t = r.joined i n mine e in (t.0 ∙ sym (own_none by n history more (others n t.1.0 t.1.1 t.1.2)), t.1);
      kept = λ j u e dead. let t = r.kept j u e dead in (t.0, t.1 ∙ ap (λ (l : List E). some (j, l)) (sym (own_none by j history more (others j u e dead))));
    }

    module _ (history : List E) (views : List (View O E)) (id : ℕ) (v w zero : View O E) (at : get_elem? views id ≡ some v) (at_zero : get_elem? views 0 ≡ some zero) (same : is_live w ≡ is_live v) (r : Roll by first history views zero) where
      -- the founder is z, which counts and keeps what it did
      founded : (z : View O E) → is_live z ≡ true → z.made ≡ zero.made → z.joined ≡ zero.joined → Roll by first history (set views id w) z
      founded z live made joined = let rm : length views ≡ zero.made + 1 = r.made in let ro = r.out in let rr = r.room in record {
        live = live;
        made = length-set views id w ∙ (r.made ∙ ap (λ (k : ℕ). k + 1) (sym made));
        room = subst (λ (k : ℕ). k < 2 ^ 32) (sym made) r.room;
        out = omega (arith, r.out, length-set views id w, ap length joined, how_many_set is_live views id v w at, ap unit same);
        joined = λ i n mine e. let t = r.joined i n mine (ap (λ l. get_elem? l i) (sym joined) ∙ e) in (
          t.0,
          dite (ℕ_discrete n id)
              (λ is. (
                w,
                subst (λ (k : ℕ). get_elem? (set views id w) k ≡ some w) (sym is) (here views id v w at),
                same ∙ (ap is_live (same_at views id v t.1.0 at (ap (get_elem? views) (sym is) ∙ t.1.1)) ∙ t.1.2),
              ))
              (λ other. (t.1.0, set_else views id n w other ∙ t.1.1, t.1.2)),
        );
        kept = λ j u e dead. each views id v w at (λ j u. is_live u ≡ false → (i : ℕ) × (get_elem? z.joined i ≡ some (j, own by j history)))
            (λ dead. let t = r.kept id v at (sym same ∙ dead) in (t.0, ap (λ l. get_elem? l t.0) joined ∙ t.1))
            (λ j u _ e dead. let t = r.kept j u e dead in (t.0, ap (λ l. get_elem? l t.0) joined ∙ t.1)) j u e dead;
      }

      pub roll_set : w.made ≡ v.made → w.joined ≡ v.joined → (z : View O E) × (get_elem? (set views id w) 0 ≡ some z) × Roll by first history (set views id w) z
      roll_set made joined = dite (ℕ_discrete 0 id)
          (λ is. let v_zero : v ≡ zero = same_at views 0 v zero (ap (get_elem? views) is ∙ at) at_zero in (
            w,
            subst (λ (k : ℕ). get_elem? (set views id w) k ≡ some w) (sym is) (here views id v w at),
            founded w (same ∙ (ap is_live v_zero ∙ r.live)) (made ∙ ap (λ (u : View O E). u.made) v_zero) (joined ∙ ap (λ (u : View O E). u.joined) v_zero),
          ))
          (λ other. (zero, set_else views id 0 w other ∙ at_zero, founded zero r.live refl refl))
