-- A split, a join, the start and the end of a turnstile.
use Rattle.std.proofs.Common.{◌≡◌, ℕ, zero, suc, ◌+◌, ◌^◌, ◌<◌, ◌≤◌, ◌≢◌, ◌⊎◌, Bool, true, false, List, [], ◌∷◌, ◌++◌, length, get_or, set, Option, Some, is_some, sym, refl, ap, ◌∙◌, subst, inl, inr, ⊎_elim, arith, length-set, length-append, true≢false}
use mathlib.Core.Logic.{dite}
use mathlib.Core.Option.{some, some-injective, some-ne-none}
use native.Mathlib.Decide.{ℕ_discrete}
use lib.ListN.{get_elem?}
use Rattle.atomic_table.specs.Table.{State, Splits, Joins, opening, Final, Seen}
use Rattle.atomic_table.proofs.Lists.{set_here, set_else, at_longer, at_last, at_snoc}
use Rattle.wm_turn.specs.declared.view.View.{View}
use Rattle.wm_turn.specs.declared.view.Stage.{Stage}
use Rattle.wm_turn.specs.declared.view.Stage.TheVariants.{Idle, Turn}
use Rattle.wm_turn.specs.Passed.{longer, own, Passed, HasOwn, HasAll}
use Rattle.wm_turn.specs.Held.{turn_of}
use Rattle.atomic_table.specs.Seated.{TableId}
use Rattle.wm_turn.specs.Views.{ticket_of, is_live, has_ticket, first_view, parted, offspring, united, spent}
use Rattle.wm_turn.specs.Rule.{how_many, InLine, Fits, Roll, AtHome, IsOut, Ruled}
use Rattle.wm_turn.proofs.Histories.{longer_of, longer_whole, longer_whole_too, own_fewer, own_between, at_inside, inside_at, same_at, how_many_set, how_many_snoc, how_many_one}
use Rattle.wm_turn.proofs.Parts.{unit, each, here, line_stays}
use Rattle.wm_turn.proofs.Keeps.{is_turn, some_same, turn_free, pack, turn_live, whole_set, slot_set}

abbrev Maybe : Type 0 → Type 0
Maybe A = mathlib.Core.Option.Option A

-- an element of a list with one more is one of the list or the last
at_end : {A : Type 0} (l : List A) (a b : A) (j : ℕ) → get_elem? (l ++ a ∷ []) j ≡ some b → (get_elem? l j ≡ some b) ⊎ ((j ≡ length l) × (a ≡ b))
at_end [] a b zero e = inr (refl, some-injective a b e)
at_end [] a b (suc j) e = absurd (some-ne-none b (sym e))
at_end (x ∷ xs) a b zero e = inl e
at_end (x ∷ xs) a b (suc j) e = ⊎_elim (λ h. inl h) (λ (t : (j ≡ length xs) × (a ≡ b)). inr (ap suc t.0, t.1)) (at_end xs a b j e)

module _ {O E : Type 0} (views : List (View O E)) (u : View O E) where
  -- a fact about each view, and about the new one
  each_end : (K : ℕ → View O E → Type 0) → K (length views) u → ((j : ℕ) (v : View O E) → get_elem? views j ≡ some v → K j v) → (j : ℕ) (v : View O E) → get_elem? (views ++ u ∷ []) j ≡ some v → K j v
  each_end K new old j v e = ⊎_elim (λ (h : get_elem? views j ≡ some v). old j v h) (λ (t : (j ≡ length views) × (u ≡ v)). subst (λ (x : ℕ × View O E). K x.0 x.1) (λ i. (sym t.0 i, t.1 i)) new) (at_end views u v j e)

  -- a new view without a ticket changes nothing in the line
  line_end : (now next : ℕ) → u.stage ≡ Idle → InLine views now next → InLine (views ++ u ∷ []) now next
  line_end now next idle l =
      let bare : unit (has_ticket u) ≡ 0 = ap (λ (z : Stage). unit (is_some (ticket_of z))) idle in
      let not : (t : ℕ) → ticket_of u.stage ≡ Some t → ⊥ = λ t is. true≢false (sym (ap is_some (sym (ap ticket_of idle) ∙ is))) in record {
        drawn = omega (arith, l.drawn, bare, how_many_snoc has_ticket views u);
        within = λ j v t e is. each_end (λ j v. (t : ℕ) → ticket_of v.stage ≡ Some t → (now ≤ t) × (t < next)) (λ t is. absurd (not t is)) (λ j v e t is. l.within j v t e is) j v e t is;
        apart = λ i j a b t e is f also. ⊎_elim
            (λ (p : get_elem? views i ≡ some a). ⊎_elim (λ (q : get_elem? views j ≡ some b). l.apart i j a b t p is q also)
            (λ (q : (j ≡ length views) × (u ≡ b)). absurd (not t (ap (λ (z : View O E). ticket_of z.stage) q.1 ∙ also))) (at_end views u b j f))
            (λ (p : (i ≡ length views) × (u ≡ a)). absurd (not t (ap (λ (z : View O E). ticket_of z.stage) p.1 ∙ is))) (at_end views u a i e);
      }

module _ {X O E : Type 0} (opens : X → O) (stands : X → List E) (mark : X → ℕ) (by : E → ℕ) (fact : O → List E → Type 0) (first : O) where
  abbrev V : Type 0
  V = View O E

  abbrev St : Type 0
  St = State (Option X) (View O E)

  abbrev R : St → Type 0
  R = Ruled opens stands mark by fact first

  abbrev Slot : List E → ℕ → List (Maybe (Option X)) → List V → Type 0
  Slot history failed homes views = AtHome opens stands mark first history failed homes views ⊎ IsOut homes views

  -- the view of pass 0 is the founder's
  founder : (s : St) (r : R s) (id : ℕ) (v : V) → get_elem? s.views id ≡ some v → is_live v ≡ true → v.number ≡ 0 → (id ≡ 0) × (v ≡ r.zero)
  founder s r id v at live number = let zero_id : id ≡ 0 = sym ((r.fits id v at).live live).number ∙ number in (zero_id, same_at s.views 0 v r.zero (ap (get_elem? s.views) (sym zero_id) ∙ at) r.zero_here)

  parts : (s : St) (r : R s) (id : ℕ) (v : V) → get_elem? s.views id ≡ some v → (homes : List (Maybe (Option X))) → Slot r.history (get_or s.words 3 0) homes s.views → Slot r.history (get_or s.words 3 0) homes (set s.views id (parted v) ++ offspring v ∷ [])
  parts s r id v at homes slot = let w : V = parted v in let vs : List V = set s.views id w in ⊎_elim
      (λ (h : AtHome opens stands mark first r.history (get_or s.words 3 0) homes s.views). inl record {
        value = h.value;
        home = h.home;
        opens = h.opens;
        whole = h.whole;
        marked = h.marked;
        free = λ j u t m f e is. each_end vs (offspring v) (λ _ (u : V). (t m f : ℕ) → u.stage ≡ Turn t m f → ⊥) (turn_free Idle refl)
            (each s.views id v w at (λ _ (u : V). (t m f : ℕ) → u.stage ≡ Turn t m f → ⊥) (λ t m f is. h.free id v t m f at is) (λ j u _ e t m f is. h.free j u t m f e is)) j u e t m f is;
      })
      (λ (o : IsOut homes s.views). let t = o.turn in dite (ℕ_discrete o.seat id)
      (λ is. inr record {
        away = o.away;
        seat = id;
        view = w;
        here = at_longer vs (offspring v ∷ []) id w (here s.views id v w at);
        turn = (t.0, t.1, t.2, ap (λ (u : V). u.stage) (same_at s.views id v o.view at (ap (get_elem? s.views) (sym is) ∙ o.here)) ∙ t.3);
      })
      (λ other. inr record { away = o.away; seat = o.seat; view = o.view; here = at_longer vs (offspring v ∷ []) o.seat o.view (set_else s.views id o.seat w other ∙ o.here); turn = t }))
      slot

  pub splits : (id : ℕ) (v : V) → is_live v ≡ true → v.number ≡ 0 → v.made < 4294967295 → Splits R id v (parted v) (offspring v)
  splits id v live number room s r at =
      let w : V = parted v in
      let new : V = offspring v in
      let vs : List V = set s.views id w in
      let word : ℕ = get_or s.words 3 0 in
      let fit = r.fits id v at in
      let tell = fit.live live in
      let f = founder s r id v at live number in
      let made : length s.views ≡ v.made + 1 = r.roll.made ∙ ap (λ (u : V). u.made + 1) (sym f.1) in
      let wide : length vs ≡ length s.views = length-set s.views id w in
      let a = whole_set opens stands mark by fact first s r id v w at refl refl in
      let mine : own by (length s.views) r.history ≡ [] = r.unmade (length s.views) (omega arith) in
      let fits_w : Fits by first r.history r.now word id w = record { seen = fit.seen; before = fit.before; beside = fit.beside; marked = fit.marked; live = λ is. record { number = tell.number; opening = tell.opening; mine = tell.mine; within = tell.within }; idle = fit.idle; turn = fit.turn } in
      let fits_new : Fits by first r.history r.now word (length vs) new = record {
        seen = fit.seen;
        before = (v.seen, refl);
        beside = (v.seen, refl);
        marked = λ h. absurd (h refl);
        live = λ is. record {
          number = omega (arith, made, wide);
          opening = tell.opening;
          mine = sym (ap (λ (k : ℕ). own by k r.history) wide ∙ mine);
          within = sym (ap (λ (k : ℕ). own by k v.seen) wide ∙ own_fewer by (length s.views) r.history v.seen fit.seen mine);
        };
        idle = λ _. refl;
        turn = λ t m f is. absurd (turn_free Idle refl t m f is);
      } in
      let joined_is : v.joined ≡ r.zero.joined = ap (λ (u : V). u.joined) f.1 in
      let roll : Roll by first r.history (vs ++ new ∷ []) w = record {
        live = live;
        made = length-append vs (new ∷ []) ∙ omega (arith, wide, made);
        room = omega (arith, room);
        out = omega (arith, r.roll.out, ap length joined_is, how_many_snoc is_live vs new, how_many_set is_live s.views id v w at, length-append vs (new ∷ []), wide, ap unit live);
        joined = λ i n m e. let t = r.roll.joined i n m (ap (λ (l : List (ℕ × List E)). get_elem? l i) (sym joined_is) ∙ e) in
            (t.0, (t.1.0, at_longer vs (new ∷ []) n t.1.0 (set_else s.views id n w (λ is. true≢false (sym live ∙ (ap is_live (same_at s.views id v t.1.0 at (ap (get_elem? s.views) (sym is) ∙ t.1.1)) ∙ t.1.2))) ∙ t.1.1), t.1.2));
        kept = λ j u e dead. each_end vs new (λ j u. is_live u ≡ false → (i : ℕ) × (get_elem? v.joined i ≡ some (j, own by j r.history))) (λ dead. absurd (true≢false (sym live ∙ dead)))
            (each s.views id v w at (λ j u. is_live u ≡ false → (i : ℕ) × (get_elem? v.joined i ≡ some (j, own by j r.history))) (λ dead. absurd (true≢false (sym live ∙ dead)))
            (λ j u _ e dead. let t = r.roll.kept j u e dead in (t.0, ap (λ (l : List (ℕ × List E)). get_elem? l t.0) joined_is ∙ t.1))) j u e dead;
      } in
      pack opens stands mark by fact first s.words s.homes (vs ++ new ∷ []) r.history r.now r.next word r.words refl (line_end vs new r.now r.next refl (line_stays s.views id v w at r.now r.next refl r.line))
      (each_end vs new (Fits by first r.history r.now word) fits_new (each s.views id v w at (Fits by first r.history r.now word) fits_w (λ j u _ e. r.fits j u e)))
      (w, at_longer vs (new ∷ []) 0 w (ap (get_elem? vs) (sym f.0) ∙ here s.views id v w at), roll)
      (λ n le. let long = length-append vs (new ∷ []) in r.unmade n (omega (arith, long, wide))) (a.0, a.1, at_longer vs (new ∷ []) a.0 a.1 a.2, a.3, a.4) r.met (parts s r id v at s.homes r.slot)

  pub joins : (id : ℕ) (v : V) (other : ℕ) (w : V) → is_live v ≡ true → is_live w ≡ true → v.number ≡ 0 → v.stage ≡ Idle → w.stage ≡ Idle → Joins R id v other w (united v w) spent
  joins id v other w live live_w number idle idle_w s r at apart at_w =
      let both : V = united v w in
      let none_left : V = spent in
      let vs : List V = set s.views id both in
      let us : List V = set vs other none_left in
      let word : ℕ = get_or s.words 3 0 in
      let h : List E = r.history in
      let there : get_elem? s.views other ≡ some w = sym (set_else s.views id other both apart) ∙ at_w in
      let fit = r.fits id v at in
      let fit_w = r.fits other w there in
      let tell = fit.live live in
      let tell_w = fit_w.live live_w in
      let f = founder s r id v at live number in
      let long = longer_of h v.seen w.seen fit.seen fit_w.seen in
      let wide : length vs ≡ length s.views = length-set s.views id both in
      let wide_us : length us ≡ length vs = length-set vs other none_left in
      let here_us : get_elem? us id ≡ some both = set_else vs other id none_left (λ e. apart (sym e)) ∙ here s.views id v both at in
      let spent_us : get_elem? us other ≡ some none_left = set_here vs other none_left (at_inside vs other w at_w) in
      let fits_both : Fits by first h r.now word id both = record {
        seen = long.0;
        before = long.1;
        beside = long.2;
        marked = λ up. dite (ℕ_discrete v.mark 0) (λ z. fit_w.marked (λ z'. let up' = up in up' (omega arith))) (λ nz. fit.marked nz);
        live = λ is. record { number = tell.number; opening = tell.opening; mine = tell.mine; within = tell.within ∙ own_between by id h (longer v.seen w.seen) v.seen long.0 long.1 (sym tell.within ∙ tell.mine) };
        idle = λ _. idle;
        turn = λ t m f is. absurd (turn_free v.stage (ap is_turn idle) t m f is);
      } in
      let fits_spent : Fits by first h r.now word other none_left = record {
        seen = (h, refl);
        before = ([], refl);
        beside = ([], refl);
        marked = λ up. absurd (up refl);
        live = λ is. absurd (true≢false (sym is));
        idle = λ _. refl;
        turn = λ t m f is. absurd (turn_free Idle refl t m f is);
      } in
      let joined_is : v.joined ≡ r.zero.joined = ap (λ (u : V). u.joined) f.1 in
      let last : ℕ × List E = (w.number, w.mine) in
      let last_is : last ≡ (other, own by other h) = λ i. (tell_w.number i, tell_w.mine i) in
      let dead_else : (n : ℕ) (u : V) → get_elem? s.views n ≡ some u → is_live u ≡ false → get_elem? us n ≡ some u = λ n u e dead.
      set_else vs other n none_left (λ is. true≢false (sym live_w ∙ (ap is_live (same_at s.views other w u there (ap (get_elem? s.views) (sym is) ∙ e)) ∙ dead)))
      ∙ (set_else s.views id n both (λ is. true≢false (sym live ∙ (ap is_live (same_at s.views id v u at (ap (get_elem? s.views) (sym is) ∙ e)) ∙ dead))) ∙ e) in
      let Kept : ℕ → V → Type 0 = λ j u. is_live u ≡ false → (i : ℕ) × (get_elem? (v.joined ++ last ∷ []) i ≡ some (j, own by j h)) in
      let roll : Roll by first h us both = record {
        live = live;
        made = wide_us ∙ (wide ∙ (r.roll.made ∙ ap (λ (u : V). u.made + 1) (sym f.1)));
        room = subst (λ (u : V). u.made < 2 ^ 32) (sym f.1) r.roll.room;
        out = omega (arith, r.roll.out, ap length joined_is, length-append v.joined (last ∷ []), how_many_set is_live s.views id v both at, how_many_set is_live vs other w none_left at_w, wide, wide_us, ap unit live_w);
        joined = λ i n m e. ⊎_elim
            (λ (old : get_elem? v.joined i ≡ some (n, m)). let t = r.roll.joined i n m (ap (λ (l : List (ℕ × List E)). get_elem? l i) (sym joined_is) ∙ old) in (t.0, (t.1.0, dead_else n t.1.0 t.1.1 t.1.2, t.1.2)))
            (λ (new : last ≡ (n, m)). let is : other ≡ n = ap (λ (p : ℕ × List E). p.0) (sym last_is ∙ new) in
            (sym (ap (λ (p : ℕ × List E). p.1) (sym last_is ∙ new)) ∙ ap (λ (k : ℕ). own by k h) is, (none_left, ap (get_elem? us) (sym is) ∙ spent_us, refl)))
            (at_snoc v.joined last (n, m) i e);
        kept = λ j u e dead. each vs other w none_left at_w Kept
            (λ _. (length v.joined, at_last v.joined last (length v.joined) refl ∙ ap (λ (p : ℕ × List E). some p) last_is))
            (λ j u _ e dead. each s.views id v both at Kept (λ dead. absurd (true≢false (sym live ∙ dead)))
            (λ j u _ e dead. let t = r.roll.kept j u e dead in (t.0, at_longer v.joined (last ∷ []) t.0 (j, own by j h) (ap (λ (l : List (ℕ × List E)). get_elem? l t.0) joined_is ∙ t.1))) j u e dead) j u e dead;
      } in
      let a = r.whole in
      let whole : (j : ℕ) × (u : V) × (get_elem? us j ≡ some u) × (is_live u ≡ true) × (u.seen ≡ h) = dite (ℕ_discrete a.0 other)
      (λ is. (id, both, here_us, live, longer_whole_too h v.seen w.seen fit.seen fit_w.seen (ap (λ (u : V). u.seen) (same_at s.views other w a.1 there (ap (get_elem? s.views) (sym is) ∙ a.2)) ∙ a.4)))
      (λ else. dite (ℕ_discrete a.0 id)
      (λ is. (id, both, here_us, live, longer_whole h v.seen w.seen fit.seen fit_w.seen (ap (λ (u : V). u.seen) (same_at s.views id v a.1 at (ap (get_elem? s.views) (sym is) ∙ a.2)) ∙ a.4)))
      (λ else'. (a.0, a.1, set_else vs other a.0 none_left else ∙ (set_else s.views id a.0 both else' ∙ a.2), a.3, a.4))) in
      pack opens stands mark by fact first s.words s.homes us h r.now r.next word r.words refl
      (line_stays vs other w none_left at_w r.now r.next (ap ticket_of (sym idle_w)) (line_stays s.views id v both at r.now r.next refl r.line))
      (each vs other w none_left at_w (Fits by first h r.now word) fits_spent (λ j u _ e. each s.views id v both at (Fits by first h r.now word) fits_both (λ j u _ e. r.fits j u e) j u e))
      (both, ap (get_elem? us) (sym f.0) ∙ here_us, roll) (λ n le. r.unmade n (omega (arith, wide, wide_us))) whole r.met
      (slot_set opens stands mark by fact first h word s.homes vs other w none_left at_w (ap is_turn idle_w) refl (slot_set opens stands mark by fact first h word s.homes s.views id v both at (ap is_turn idle) (ap is_turn idle) r.slot))

  pub starts : (x : X) → opens x ≡ first → stands x ≡ [] → fact (opens x) (stands x) → R (opening (0 ∷ 0 ∷ 0 ∷ 0 ∷ []) (Some x ∷ []) (first_view first))
  starts x is empty met = let v : V = first_view first in let vs : List V = v ∷ [] in
      let only : (j : ℕ) (u : V) → get_elem? vs j ≡ some u → (j ≡ 0) × (v ≡ u) = λ j u e. ⊎_elim (λ (h : get_elem? [] j ≡ some u). absurd (some-ne-none u (sym h))) (λ (t : (j ≡ 0) × (v ≡ u)). t) (at_end [] v u j e) in
      let every : (K : ℕ → V → Type 0) → K 0 v → (j : ℕ) (u : V) → get_elem? vs j ≡ some u → K j u = λ K mine j u e. let t = only j u e in subst (λ (x : ℕ × V). K x.0 x.1) (λ i. (sym t.0 i, t.1 i)) mine in
      let fits : Fits by first [] 0 0 0 v = record {
        seen = ([], refl);
        before = ([], refl);
        beside = ([], refl);
        marked = λ up. absurd (up refl);
        live = λ _. record { number = refl; opening = refl; mine = refl; within = refl };
        idle = λ _. refl;
        turn = λ t m f is. absurd (turn_free Idle refl t m f is);
      } in
      let roll : Roll by first [] vs v = record {
        live = refl;
        made = refl;
        room = omega arith;
        out = refl;
        joined = λ i n m e. absurd (some-ne-none (n, m) (sym e));
        kept = λ j u e dead. absurd (true≢false (ap is_live (only j u e).1 ∙ dead));
      } in
      pack opens stands mark by fact first (0 ∷ 0 ∷ 0 ∷ 0 ∷ []) (some (Some x) ∷ []) vs [] 0 0 0 record { four = refl; ticket = refl; serving = refl; count = refl; failed = omega arith } refl
      record { drawn = refl; within = λ j u t e is'. absurd (true≢false (sym (ap is_some (ap (λ (z : V). ticket_of z.stage) (only j u e).1 ∙ is')))); apart = λ i j a b t e _ f _. (only i a e).0 ∙ sym (only j b f).0 }
      (every (Fits by first [] 0 0) fits) (v, refl, roll) (λ n _. refl) (0, v, refl, refl, refl) (subst (λ (o : O). fact o []) is (subst (fact (opens x)) empty met))
      (inl record { value = x; home = refl; opens = is; whole = empty; marked = λ e. absurd (omega arith); free = λ j u t m f e is'. turn_free Idle refl t m f (ap (λ (z : V). z.stage) (only j u e).1 ∙ is') })

  -- what is known once all passes are back: the value stands for all that pass 0 has seen
  pub record Ends (v : V) (slots : List (Option X)) : Type 0 where
    pub value : X
    pub here : get_elem? slots 0 ≡ some (Some value)
    pub opening : v.opening ≡ Some (opens value)
    pub whole : stands value ≡ v.seen
    pub marked : v.mark ≢ 0 → mark value ≢ 0
    pub mine : v.mine ≡ own by 0 (stands value)
    pub joined : (i n : ℕ) (m : List E) → get_elem? v.joined i ≡ some (n, m) → m ≡ own by n (stands value)
    pub all : (n : ℕ) → 0 < n → n ≤ v.made → (i : ℕ) × (get_elem? v.joined i ≡ some (n, own by n (stands value)))
    pub none_else : (n : ℕ) → v.made < n → own by n (stands value) ≡ []

  kept_of : (s : St) (r : R s) (id : ℕ) (v : V) → get_elem? s.views id ≡ some v → is_live v ≡ true → id ≡ 0 → v.joined ≡ r.zero.joined → how_many is_live s.views ≤ 1 → (n : ℕ) (u : V) → get_elem? s.views n ≡ some u → 0 < n → (b : Bool) → is_live u ≡ b → {l : List E} → r.history ≡ l
      → (i : ℕ) × (get_elem? v.joined i ≡ some (n, own by n l))
  kept_of s r id v at live zero_id joined_is one n u e more true alive back = let is : id ≡ n = how_many_one is_live s.views id n v u one at live e alive in absurd (omega arith)
  kept_of s r id v at live zero_id joined_is one n u e more false dead back = let t = r.roll.kept n u e dead in (t.0, ap (λ (l : List (ℕ × List E)). get_elem? l t.0) joined_is ∙ (t.1 ∙ ap (λ (l : List E). some (n, own by n l)) back))

  pub closes : (id : ℕ) (v : V) (words : List ℕ) (slots : List (Option X)) → is_live v ≡ true → v.number ≡ 0 → v.stage ≡ Idle → length v.joined ≡ v.made → Final (Seen R id v) words slots → Ends v slots
  closes id v words slots live number idle all final =
      let s : St = final.0 in
      let r : R s = final.1.0 in
      let at : get_elem? s.views id ≡ some v = final.1.1 in
      let fit = r.fits id v at in
      let tell = fit.live live in
      let f = founder s r id v at live number in
      let joined_is : v.joined ≡ r.zero.joined = ap (λ (u : V). u.joined) f.1 in
      let made : length s.views ≡ v.made + 1 = r.roll.made ∙ ap (λ (u : V). u.made + 1) (sym f.1) in
      let one : how_many is_live s.views ≤ 1 = omega (arith, r.roll.out, ap length joined_is, all, made) in
      let only : (j : ℕ) (u : V) → get_elem? s.views j ≡ some u → is_live u ≡ true → v ≡ u = λ j u e alive. let is : id ≡ j = how_many_one is_live s.views id j v u one at live e alive in same_at s.views j v u (ap (get_elem? s.views) (sym is) ∙ at) e in
      ⊎_elim
      (λ (h : AtHome opens stands mark first r.history (get_or s.words 3 0) s.homes s.views).
      let a = r.whole in
      let seen : v.seen ≡ r.history = ap (λ (u : V). u.seen) (only a.0 a.1 a.2 a.3) ∙ a.4 in
      let back : r.history ≡ stands h.value = sym h.whole in record {
        value = h.value;
        here = final.4 0 (Some h.value) (ap (λ (l : List (Maybe (Option X))). get_elem? l 0) h.home);
        opening = tell.opening ∙ ap (λ (o : O). Some o) (sym h.opens);
        whole = h.whole ∙ sym seen;
        marked = λ up. h.marked (fit.marked up);
        mine = tell.mine ∙ (ap (λ (k : ℕ). own by k r.history) f.0 ∙ ap (own by 0) back);
        joined = λ i n m e. (r.roll.joined i n m (ap (λ (l : List (ℕ × List E)). get_elem? l i) (sym joined_is) ∙ e)).0 ∙ ap (own by n) back;
        all = λ n more most. let u = inside_at s.views n (omega (arith, made)) in kept_of s r id v at live f.0 joined_is one n u.0 u.1 more (is_live u.0) refl back;
        none_else = λ n most. ap (own by n) (sym back) ∙ r.unmade n (omega (arith, made));
      })
      (λ (o : IsOut s.homes s.views). let t = o.turn in
      absurd (turn_free Idle refl t.0 t.1 t.2 (sym idle ∙ (ap (λ (u : V). u.stage) (only o.seat o.view o.here (turn_live opens stands mark by fact first s r o.seat o.view t.0 t.1 t.2 o.here t.3)) ∙ t.3)))) r.slot

  -- what `close` tells of the value, by the pass
  pub record Stood (p : Passed O E) (value : X) : Type 0 where
    pub whole : stands value ≡ p.seen
    pub opening : p.opening ≡ Some (opens value)
    pub marked : p.mark ≢ 0 → mark value ≢ 0
    pub mine : p.mine ≡ own by 0 (stands value)
    pub joined : HasOwn by (stands value) p.joined
    pub all : HasAll by (stands value) p.made p.joined

  pub has_value : (v : V) (slots : List (Option X)) (found : Option X) (e : Ends v slots) → get_elem? slots 0 ≡ some found → found ≡ Some e.value
  has_value v slots found e at = some-injective found (Some e.value) (sym at ∙ e.here)

  pub stood : (v : V) (slots : List (Option X)) (found : Option X) (value : X) (table : TableId) (number made : ℕ) → Ends v slots → get_elem? slots 0 ≡ some found → found ≡ Some value → v.made ≡ made
      → Stood record { turnstile = table; number = number; opening = v.opening; seen = v.seen; mine = v.mine; mark = v.mark; turn = turn_of v.stage; made = made; joined = v.joined } value
  stood v slots found value table number made e at is made_is =
      let same : e.value ≡ value = some_same e.value value (sym (has_value v slots found e at) ∙ is) in
      subst (λ (k : ℕ). Stood record { turnstile = table; number = number; opening = v.opening; seen = v.seen; mine = v.mine; mark = v.mark; turn = turn_of v.stage; made = k; joined = v.joined } value) made_is
      (subst (λ (x : X). Stood record { turnstile = table; number = number; opening = v.opening; seen = v.seen; mine = v.mine; mark = v.mark; turn = turn_of v.stage; made = v.made; joined = v.joined } x) same
      record { whole = e.whole; opening = e.opening; marked = e.marked; mine = e.mine; joined = e.joined; all = (e.all, e.none_else) })
