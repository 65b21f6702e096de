-- Each kind of step keeps a turnstile's rule.
use Rattle.std.proofs.Common.{◌≡◌, ℕ, ◌+◌, ◌-◌, ◌%◌, ◌^◌, ◌<◌, ◌≤◌, ◌≢◌, ◌⊎◌, Bool, true, false, cond, List, [], ◌∷◌, ◌++◌, length, get_or, set, Option, Some, None, is_some, sym, refl, ap, ◌∙◌, subst, inl, inr, ⊎_elim, arith, length-set, get_or-set_other, true≢false}
use mathlib.Core.Logic.{dite}
use mathlib.Core.Option.{some, none}
use native.Mathlib.Decide.{ℕ_discrete}
use lib.ListN.{get_elem?}
use lib.Seq.{set-get_or}
use Rattle.atomic_table.specs.Table.{State, step, keeps, takes, stepped, Allows}
use Rattle.atomic_table.proofs.Lists.{set_again, set_else, one_turn}
use Rattle.wm_turn.specs.declared.view.View.{View}
use Rattle.wm_turn.specs.declared.view.Stage.{Stage}
use Rattle.wm_turn.specs.declared.view.Stage.TheVariants.{Idle, Waiting, Turn}
use Rattle.wm_turn.specs.Passed.{StartsWith, own}
use Rattle.wm_turn.specs.Views.{Seated, ticket_of, is_live, has_ticket, at_stage, seeing}
use Rattle.wm_turn.specs.Rule.{Shows, InLine, Fits, Roll, AtHome, IsOut, Ruled}
use Rattle.wm_turn.specs.Kinds.{Draws, Looks, Begins, Checks, Reads, Recalls}
use Rattle.wm_turn.proofs.Histories.{starts_itself, starts_again, same_at, how_many_most, how_many_some}
use Rattle.wm_turn.proofs.Parts.{unit, draw_shows, each, here, line_set, line_stays, roll_set}

-- stages told apart
abbrev pub is_turn : Stage → Bool
is_turn Idle = false
is_turn (Waiting t) = false
is_turn (Turn t m f) = true

abbrev pub ticket : Stage → ℕ
ticket Idle = 0
ticket (Waiting t) = t
ticket (Turn t m f) = t

abbrev pub marked : Stage → ℕ
marked (Turn t m f) = m
marked _ = 0

abbrev pub known : Stage → ℕ
known (Turn t m f) = f
known _ = 0

abbrev pub opened : {O : Type 0} → O → Option O → O
opened d (Some o) = o
opened d None = d

pub some_same : {O : Type 0} (a b : O) → Some a ≡ Some b → a ≡ b
some_same a b e = ap (opened a) e

pub turn_free : (s : Stage) → is_turn s ≡ false → (t m f : ℕ) → s ≡ Turn t m f → ⊥
turn_free s free t m f is = true≢false (sym (ap is_turn is) ∙ free)

module _ {X O E : Type 0} (opening : X → O) (stands : X → List E) (mark : X → ℕ) (by : E → ℕ) (fact : O → List E → Type 0) (first : O) where
  abbrev pub V : Type 0
  V = View O E

  abbrev pub M : Type 0
  M = Seated X O E

  abbrev pub St : Type 0
  St = State (Option X) (View O E)

  abbrev pub R : St → Type 0
  R = Ruled opening stands mark by fact first

  abbrev pub Slot : List E → ℕ → List (mathlib.Core.Option.Option (Option X)) → List V → Type 0
  Slot history failed homes views = AtHome opening stands mark first history failed homes views ⊎ IsOut homes views

  pub pack : (words : List ℕ) (homes : List (mathlib.Core.Option.Option (Option X))) (views : List V) (history : List E) (now next failed : ℕ) → Shows words (length history) now next → get_or words 3 0 ≡ failed → InLine views now next
      → ((j : ℕ) (u : V) → get_elem? views j ≡ some u → Fits by first history now failed j u) → (z : V) × (get_elem? views 0 ≡ some z) × Roll by first history views z
      → ((n : ℕ) → length views ≤ n → own by n history ≡ []) → (j : ℕ) × (v : V) × (get_elem? views j ≡ some v) × (is_live v ≡ true) × (v.seen ≡ history) → fact first history → Slot history failed homes views
      → R record { words = words; homes = homes; views = views }
  pack words homes views history now next failed shows is line fits roll unmade whole met slot = record {
    history = history;
    now = now;
    next = next;
    words = shows;
    line = line;
    fits = subst (λ (f : ℕ). (j : ℕ) (u : V) → get_elem? views j ≡ some u → Fits by first history now f j u) (sym is) fits;
    zero = roll.0;
    zero_here = roll.1;
    roll = roll.2;
    unmade = unmade;
    whole = whole;
    met = met;
    slot = subst (λ (f : ℕ). Slot history f homes views) (sym is) slot;
  }

  -- a load that changes nothing
  pub unmoved : (s : St) → R s → (i id : ℕ) (cs : List (ℕ × Option X)) (v : V) → get_elem? s.views id ≡ some v → R (stepped s i (get_or s.words i 0) id cs v keeps)
  unmoved s r i id cs v at = subst (λ (p : List ℕ × List V). R record { words = p.0; homes = s.homes; views = p.1 }) (λ k. (sym (set-get_or s.words i 0) k, sym (set_again s.views id v at) k)) r

  -- one view alone has its turn
  pub alone : (s : St) (r : R s) (i j : ℕ) (v u : V) (t m f t' m' f' : ℕ) → get_elem? s.views i ≡ some v → v.stage ≡ Turn t m f → get_elem? s.views j ≡ some u → u.stage ≡ Turn t' m' f' → j ≡ i
  alone s r i j v u t m f t' m' f' at is at' is' = let a = (r.fits i v at).turn t m f is in let b = (r.fits j u at').turn t' m' f' is' in
      r.line.apart j i u v t' at' (ap ticket_of is') at (ap ticket_of is ∙ ap (λ (k : ℕ). Some k) (a.0 ∙ sym b.0))

  pub live_turn : (s : St) (r : R s) (id : ℕ) (v : V) → get_elem? s.views id ≡ some v → (st : Stage) → v.stage ≡ st → (st ≡ Idle → ⊥) → (b : Bool) → is_live v ≡ b → is_live v ≡ true
  live_turn s r id v at st is busy true e = e
  live_turn s r id v at st is busy false e = absurd (busy (sym is ∙ (r.fits id v at).idle e))

  pub turn_live : (s : St) (r : R s) (id : ℕ) (v : V) (t m f : ℕ) → get_elem? s.views id ≡ some v → v.stage ≡ Turn t m f → is_live v ≡ true
  turn_live s r id v t m f at is = live_turn s r id v at (Turn t m f) is (λ e. true≢false (ap is_turn e)) (is_live v) refl

  -- while a view has its turn the slot is out
  pub away : (s : St) (r : R s) (id : ℕ) (v : V) (t m f : ℕ) → get_elem? s.views id ≡ some v → v.stage ≡ Turn t m f → s.homes ≡ none ∷ []
  away s r id v t m f at is = ⊎_elim (λ (h : AtHome opening stands mark first r.history (get_or s.words 3 0) s.homes s.views). absurd (h.free id v t m f at is)) (λ (o : IsOut s.homes s.views). o.away) r.slot

  pub roll_here : (s : St) (r : R s) (id : ℕ) (v w : V) → get_elem? s.views id ≡ some v → is_live w ≡ is_live v → w.made ≡ v.made → w.joined ≡ v.joined → (z : V) × (get_elem? (set s.views id w) 0 ≡ some z) × Roll by first r.history (set s.views id w) z
  roll_here s r id v w at live made joined = roll_set by first r.history s.views id v w r.zero at r.zero_here live r.roll made joined

  pub unmade_set : (views : List V) (id : ℕ) (w : V) (history : List E) → ((n : ℕ) → length views ≤ n → own by n history ≡ []) → (n : ℕ) → length (set views id w) ≤ n → own by n history ≡ []
  unmade_set views id w history r n le = r n (subst (λ (k : ℕ). k ≤ n) (length-set views id w) le)

  pub whole_set : (s : St) (r : R s) (id : ℕ) (v w : V) → get_elem? s.views id ≡ some v → is_live w ≡ is_live v → w.seen ≡ v.seen → (j : ℕ) × (u : V) × (get_elem? (set s.views id w) j ≡ some u) × (is_live u ≡ true) × (u.seen ≡ r.history)
  whole_set s r id v w at live same = let a = r.whole in dite (ℕ_discrete a.0 id)
      (λ is. let v_is : v ≡ a.1 = same_at s.views id v a.1 at (ap (get_elem? s.views) (sym is) ∙ a.2) in
      (id, w, here s.views id v w at, live ∙ (ap is_live v_is ∙ a.3), same ∙ (ap (λ (u : V). u.seen) v_is ∙ a.4)))
      (λ other. (a.0, a.1, set_else s.views id a.0 w other ∙ a.2, a.3, a.4))

  -- the slot, where a view goes on that has its turn neither before nor after
  pub slot_set : (history : List E) (failed : ℕ) (homes : List (mathlib.Core.Option.Option (Option X))) (views : List V) (id : ℕ) (v w : V) → get_elem? views id ≡ some v → is_turn v.stage ≡ false → is_turn w.stage ≡ false
      → Slot history failed homes views → Slot history failed homes (set views id w)
  slot_set history failed homes views id v w at free free' = ⊎_elim
      (λ (h : AtHome opening stands mark first history failed homes views). inl record {
        value = h.value;
        home = h.home;
        opens = h.opens;
        whole = h.whole;
        marked = h.marked;
        free = λ j u t m f e is. each views id v w at (λ _ (u : V). (t m f : ℕ) → u.stage ≡ Turn t m f → ⊥) (turn_free w.stage free') (λ j u _ e t m f is. h.free j u t m f e is) j u e t m f is;
      })
      (λ (o : IsOut homes views). let t = o.turn in inr record {
        away = o.away;
        seat = o.seat;
        view = o.view;
        here = set_else views id o.seat w (λ is. turn_free v.stage free t.0 t.1 t.2 (ap (λ (u : V). u.stage) (same_at views id v o.view at (ap (get_elem? views) (sym is) ∙ o.here)) ∙ t.3)) ∙ o.here;
        turn = t;
      })

  abbrev pub one_ticket : V → ℕ
  one_ticket v = cond (has_ticket v) 1 0

  -- what fits a view fits it at a stage without a turn
  pub staged : (history : List E) (now failed j : ℕ) (v : V) (stage : Stage) → is_turn stage ≡ false → is_live v ≡ true → Fits by first history now failed j v → Fits by first history now failed j (at_stage stage v)
  staged history now failed j v stage free live r = record {
    seen = r.seen;
    before = r.before;
    beside = r.beside;
    marked = r.marked;
    live = λ is. let t = r.live is in record { number = t.number; opening = t.opening; mine = t.mine; within = t.within };
    idle = λ dead. absurd (true≢false (sym live ∙ dead));
    turn = λ t m f is. absurd (turn_free stage free t m f is);
  }

  pub draws : (slots id : ℕ) (me : M) → me.0.stage ≡ Idle → is_live me.0 ≡ true → Allows R slots id me 0 (λ n. (n + 1) % 2 ^ 64) (Draws (step slots 0 1 0 none) me)
  draws slots id me idle live s r _ at _ =
      let v : V = me.0 in
      let w : V = at_stage (Waiting r.next) v in
      let shows = draw_shows s.words (length r.history) r.now r.next r.words in
      let none_had : one_ticket v ≡ 0 = ap (λ (z : Stage). unit (is_some (ticket_of z))) idle in
      let drawn = r.line.drawn in (
        w,
        keeps,
        tt,
        pack (set s.words 0 ((get_or s.words 0 0 + 1) % 2 ^ 64)) s.homes (set s.views id w) r.history r.now (r.next + 1) (get_or s.words 3 0) shows (get_or-set_other s.words 0 3 ((get_or s.words 0 0 + 1) % 2 ^ 64) 0 (λ e. omega arith))
            (line_set s.views id v w at r.now r.next r.now (r.next + 1) r.line (omega (arith, none_had))
            (λ t a b _. (a, omega arith)) (λ t is. let e : r.next ≡ t = some_same r.next t is in (omega arith, omega arith)) (λ t is. let e : r.next ≡ t = some_same r.next t is in inr (omega arith)))
            (each s.views id v w at (Fits by first r.history r.now (get_or s.words 3 0)) (staged r.history r.now (get_or s.words 3 0) id v (Waiting r.next) refl live (r.fits id v at)) (λ j u _ e. r.fits j u e))
            (roll_here s r id v w at refl refl refl) (unmade_set s.views id w r.history r.unmade) (whole_set s r id v w at refl refl) r.met
            (slot_set r.history (get_or s.words 3 0) s.homes s.views id v w at (ap is_turn idle) refl r.slot),
        (r.next, r.words.ticket, refl),
      )

  -- a seat whose ticket is served takes the slot
  begins : (slots id : ℕ) (v : V) (t : ℕ) → v.stage ≡ Waiting t → is_live v ≡ true → (s : St) (r : R s) (at : get_elem? s.views id ≡ some v) → get_or s.words 1 0 ≡ t % 2 ^ 64 → (h : AtHome opening stands mark first r.history (get_or s.words 3 0) s.homes s.views) → t ≡ r.now
      → (w : V) × (a : Rattle.atomic_table.specs.Table.Act (Option X)) × Rattle.atomic_table.specs.Table.Valid s.homes [] a × R (stepped s 1 (get_or s.words 1 0) id [] w a) × Looks opening stands mark (step slots 1 0 0 none) (v, []) (get_or s.words 1 0) (w, Rattle.atomic_table.specs.Table.carried_after [] a)
  begins slots id v t waits live s r at hit h served =
      let x : X = h.value in
      let f : ℕ = get_or s.words 3 0 in
      let w : V = seeing (stands x) (Turn t (mark x) f) v in
      let fit = r.fits id v at in
      let tell = fit.live live in
      let front : StartsWith (stands x) v.seen = subst (λ (l : List E). StartsWith l v.seen) (sym h.whole) fit.seen in
      let fits_w : Fits by first r.history r.now f id w = record {
        seen = subst (λ (l : List E). StartsWith r.history l) (sym h.whole) (starts_itself r.history);
        before = starts_again (stands x) v.seen v.before front fit.before;
        beside = starts_again (stands x) v.seen v.beside front fit.beside;
        marked = fit.marked;
        live = λ is. record { number = tell.number; opening = tell.opening; mine = tell.mine; within = tell.mine ∙ ap (own by id) (sym h.whole) };
        idle = λ dead. absurd (true≢false (sym live ∙ dead));
        turn = λ t' m' f' is. (sym (ap ticket is) ∙ served, h.whole, sym (ap known is));
      } in
      let before : M = (v, []) in
      let after : M = (w, (0, Some x) ∷ []) in (
        w,
        takes 0 (Some x),
        ap (λ (l : List (mathlib.Core.Option.Option (Option X))). get_elem? l 0) h.home,
        pack (set s.words 1 (get_or s.words 1 0)) (set s.homes 0 none) (set s.views id w) r.history r.now r.next f (subst (λ (ws : List ℕ). Shows ws (length r.history) r.now r.next) (sym (set-get_or s.words 1 0)) r.words)
            (ap (λ (ws : List ℕ). get_or ws 3 0) (set-get_or s.words 1 0)) (line_stays s.views id v w at r.now r.next (sym (ap ticket_of waits)) r.line)
            (each s.views id v w at (Fits by first r.history r.now f) fits_w (λ j u _ e. r.fits j u e))
            (roll_here s r id v w at refl refl refl) (unmade_set s.views id w r.history r.unmade) (id, w, here s.views id v w at, live, h.whole) r.met
            (inr record { away = ap (λ (l : List (mathlib.Core.Option.Option (Option X))). set l 0 none) h.home; seat = id; view = w; here = here s.views id v w at; turn = (t, mark x, f, refl) }),
        λ t' is. subst (λ (k : ℕ). (get_or s.words 1 0 ≢ k % 2 ^ 64 → after ≡ before) × (get_or s.words 1 0 ≡ k % 2 ^ 64 → Begins opening stands mark k before after)) (ap ticket (sym waits ∙ is))
            ((λ other. absurd (other hit)), λ _. (x, f, refl, front, tell.opening ∙ ap (λ (o : O). Some o) (sym h.opens), h.marked)),
      )

  looks_from : (slots id : ℕ) (v : V) (t : ℕ) → v.stage ≡ Waiting t → is_live v ≡ true → Allows R slots id (v, []) 1 (λ n. n) (Looks opening stands mark (step slots 1 0 0 none) (v, []))
  looks_from slots id v t waits live s r _ at _ = dite (ℕ_discrete (get_or s.words 1 0) (t % 2 ^ 64))
      (λ hit. let within = r.line.within id v t at (ap ticket_of waits) in let drawn = r.line.drawn in let most = how_many_most has_ticket s.views in let made = r.roll.made in let room = r.roll.room in
      let a : r.now ≤ t = within.0 in let b : t < r.next = within.1 in
      let served : t ≡ r.now = sym (one_turn r.now t (2 ^ 64) a (omega arith) (sym r.words.serving ∙ hit)) in ⊎_elim
      (λ (h : AtHome opening stands mark first r.history (get_or s.words 3 0) s.homes s.views). begins slots id v t waits live s r at hit h served)
      (λ (o : IsOut s.homes s.views). let c = o.turn in let d = (r.fits o.seat o.view o.here).turn c.0 c.1 c.2 c.3 in
      let is : o.seat ≡ id = r.line.apart o.seat id o.view v t o.here (ap ticket_of c.3 ∙ ap (λ (k : ℕ). Some k) (d.0 ∙ sym served)) at (ap ticket_of waits) in
      absurd (true≢false (sym (ap is_turn c.3) ∙ (ap (λ (u : V). is_turn u.stage) (same_at s.views id o.view v (ap (get_elem? s.views) (sym is) ∙ o.here) at) ∙ ap is_turn waits))))
      r.slot)
      (λ miss. (v, keeps, tt, unmoved s r 1 id [] v at, λ t' is. ((λ _. refl), λ hit. absurd (miss (hit ∙ ap (λ (k : ℕ). k % 2 ^ 64) (ap ticket (sym is ∙ waits)))))))

  pub looks : (slots id : ℕ) (me : M) (t : ℕ) → me.0.stage ≡ Waiting t → me.1 ≡ [] → is_live me.0 ≡ true → Allows R slots id me 1 (λ n. n) (Looks opening stands mark (step slots 1 0 0 none) me)
  looks slots id me t waits empty live = subst (λ (cs : List (ℕ × Option X)). Allows R slots id (me.0, cs) 1 (λ n. n) (Looks opening stands mark (step slots 1 0 0 none) (me.0, cs))) (sym empty) (looks_from slots id me.0 t waits live)

  pub checks : (slots id : ℕ) (me : M) → Allows R slots id me 3 (λ n. n) (Checks (step slots 3 0 0 none) me)
  checks slots id me s r _ at _ = (me.0, keeps, tt, unmoved s r 3 id me.1 me.0 at, (refl, λ t m f is. sym ((r.fits id me.0 at).turn t m f is).2))

  pub reads : (slots id : ℕ) (me : M) (t m f : ℕ) → me.0.stage ≡ Turn t m f → Allows R slots id me 2 (λ n. n) (Reads (step slots 2 0 0 none) me)
  reads slots id me t m f is s r _ at _ = (me.0, keeps, tt, unmoved s r 2 id me.1 me.0 at, (refl, r.words.count ∙ ap length (sym ((r.fits id me.0 at).turn t m f is).1)))

  module _ (fronts : (o : O) (front rest : List E) → fact o (front ++ rest) → fact o front) where
    pub recalls : (slots i id : ℕ) (me : M) → Allows R slots id me i (λ n. n) (Recalls by fact (step slots i 0 0 none) me)
    recalls slots i id me s r _ at _ = let v : V = me.0 in let fit = r.fits id v at in let seen = fit.seen in (
      v,
      keeps,
      tt,
      unmoved s r i id me.1 v at,
      (
        refl,
        record {
          before = fit.before;
          beside = fit.beside;
          met = λ o is. subst (λ (z : O). fact z v.seen) (some_same first o (sym (fit.live (ap is_some is)).opening ∙ is)) (fronts first v.seen seen.0 (subst (fact first) seen.1 r.met));
          mine = λ live. (fit.live live).within ∙ ap (λ (k : ℕ). own by k v.seen) (sym (fit.live live).number);
          out = λ live number. let is : r.zero ≡ v = same_at s.views 0 r.zero v r.zero_here (ap (get_elem? s.views) (sym number ∙ (fit.live live).number) ∙ at) in
              let some_live = how_many_some is_live s.views id v at live in let out = r.roll.out in let made = r.roll.made in
              subst (λ (z : V). length z.joined ≤ z.made) is (omega arith);
        },
      ),
    )
