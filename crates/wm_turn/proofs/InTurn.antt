-- The steps of a seat that has its turn keep a turnstile's rule.
use Rattle.std.proofs.Common.{◌≡◌, ℕ, ◌+◌, ◌-◌, ◌%◌, ◌^◌, ◌<◌, ◌≢◌, true, false, List, [], ◌∷◌, ◌++◌, length, get_or, set, Option, Some, is_some, bit_or, sym, refl, ap, ◌∙◌, subst, inl, inr, arith, length-set, length-append, get_or-set_other, true≢false}
use mathlib.Core.Logic.{dite}
use mathlib.Core.Option.{some, none}
use native.Mathlib.Decide.{ℕ_discrete}
use lib.ListN.{get_elem?}
use Rattle.atomic_table.specs.Table.{State, step, keeps, gives, Allows}
use Rattle.wm_turn.specs.declared.view.View.{View}
use Rattle.wm_turn.specs.declared.view.Stage.{Stage}
use Rattle.wm_turn.specs.declared.view.Stage.TheVariants.{Idle, Turn}
use Rattle.wm_turn.specs.Passed.{StartsWith, own, risen}
use Rattle.wm_turn.specs.Views.{Seated, ticket_of, is_live, has_ticket, at_stage, with_entry, with_mark}
use Rattle.wm_turn.specs.Rule.{Shows, Fits, Ruled}
use Rattle.wm_turn.specs.Kinds.{Enters, Marks, PassesOn}
use Rattle.wm_turn.proofs.Histories.{starts_itself, starts_more, own_more, own_none, own_here, own_else, at_inside, same_at}
use Rattle.wm_turn.proofs.Parts.{unit, pass_shows, entry_shows, mark_shows, marked_word, each, here, line_set, line_stays, fits_on, fits_more, roll_more}
use Rattle.wm_turn.proofs.Keeps.{ticket, marked, known, opened, some_same, turn_free, pack, alone, turn_live, away, roll_here, unmade_set, staged}

abbrev last_or : {E : Type 0} → E → List E → E
last_or d [] = d
last_or d (x ∷ xs) = last_or x xs

last_of : {E : Type 0} (d : E) (l : List E) (a : E) → last_or d (l ++ a ∷ []) ≡ a
last_of d [] a = refl
last_of d (x ∷ xs) a = last_of x xs a

last_same : {E : Type 0} (l : List E) (a b : E) → l ++ a ∷ [] ≡ l ++ b ∷ [] → a ≡ b
last_same l a b e = sym (last_of a l a) ∙ (ap (last_or a) e ∙ last_of a l b)

-- the value in the slot that a seat took last
abbrev held : {X : Type 0} → X → List (ℕ × Option X) → X
held d [] = d
held d (y ∷ ys) = opened d y.1

held_same : {X : Type 0} (x y : X) (cs : List (ℕ × Option X)) → cs ≡ (0, Some x) ∷ [] → cs ≡ (0, Some y) ∷ [] → x ≡ y
held_same x y cs e f = ap (held x) (sym e ∙ f)

module _ {X O E : Type 0} (opening : X → O) (stands : X → List E) (mark : X → ℕ) (by : E → ℕ) (fact : O → List E → Type 0) (first : O) where
  abbrev V : Type 0
  V = View O E

  abbrev M : Type 0
  M = Seated X O E

  abbrev St : Type 0
  St = State (Option X) (View O E)

  abbrev R : St → Type 0
  R = Ruled opening stands mark by fact first

  -- no other view has its turn
  free_others : (s : St) (r : R s) (id : ℕ) (v : V) (t m f : ℕ) → get_elem? s.views id ≡ some v → v.stage ≡ Turn t m f → (j : ℕ) (u : V) → j ≢ id → get_elem? s.views j ≡ some u → (t' m' f' : ℕ) → u.stage ≡ Turn t' m' f' → ⊥
  free_others s r id v t m f at is j u other e t' m' f' is' = other (alone opening stands mark by fact first s r id j v u t m f t' m' f' at is e is')

  pub enters : (slots id : ℕ) (me : M) (x : X) (e : E) (t m f : ℕ) → me.0.stage ≡ Turn t m f → me.1 ≡ (0, Some x) ∷ [] → stands x ≡ me.0.seen ++ e ∷ [] → by e ≡ me.0.number → me.0.opening ≡ Some (opening x) → fact (opening x) (stands x) → length (stands x) < 2 ^ 64
      → Allows R slots id me 2 (λ n. (n + 1) % 2 ^ 64) (Enters opening stands mark (step slots 2 1 0 none) me)
  enters slots id me x e t m f is holds grows by_me opens met room s r _ at _ =
      let v : V = me.0 in
      let w : V = with_entry e v in
      let l : List E = r.history ++ e ∷ [] in
      let word : ℕ = get_or s.words 3 0 in
      let fit = r.fits id v at in
      let has = fit.turn t m f is in
      let live = turn_live opening stands mark by fact first s r id v t m f at is in
      let tell = fit.live live in
      let mine : by e ≡ id = by_me ∙ tell.number in
      let now_seen : v.seen ++ e ∷ [] ≡ l = ap (λ (z : List E). z ++ e ∷ []) has.1 in
      let whole : stands x ≡ l = grows ∙ now_seen in
      let long : length l ≡ length r.history + 1 = length-append r.history (e ∷ []) in
      let fits : length r.history + 1 < 2 ^ 64 = subst (λ (k : ℕ). k < 2 ^ 64) (ap length whole ∙ long) room in
      let z = roll_here opening stands mark by fact first s r id v w at refl refl refl in
      let free = free_others s r id v t m f at is in
      let fits_w : Fits by first l r.now word id w = record {
        seen = subst (λ (k : List E). StartsWith l k) (sym now_seen) (starts_itself l);
        before = starts_more v.seen (e ∷ []) v.before fit.before;
        beside = starts_more v.seen (e ∷ []) v.beside fit.beside;
        marked = fit.marked;
        live = λ _. record {
          number = tell.number;
          opening = tell.opening;
          mine = ap (λ (k : List E). k ++ e ∷ []) tell.mine ∙ (ap (λ (k : List E). own by id r.history ++ k) (sym (own_here by id e mine)) ∙ sym (own_more by id r.history (e ∷ [])));
          within = ap (λ (k : List E). k ++ e ∷ []) tell.within ∙ (ap (λ (k : List E). own by id v.seen ++ k) (sym (own_here by id e mine)) ∙ sym (own_more by id v.seen (e ∷ [])));
        };
        idle = λ dead. absurd (true≢false (sym live ∙ dead));
        turn = λ t' m' f' is'. let a = fit.turn t' m' f' is' in (a.0, now_seen, a.2);
      } in (
        w,
        keeps,
        tt,
        pack opening stands mark by fact first (set s.words 2 ((get_or s.words 2 0 + 1) % 2 ^ 64)) s.homes (set s.views id w) l r.now r.next word
            (subst (λ (k : ℕ). Shows (set s.words 2 ((get_or s.words 2 0 + 1) % 2 ^ 64)) k r.now r.next) (sym long) (entry_shows s.words (length r.history) r.now r.next r.words fits))
            (get_or-set_other s.words 2 3 ((get_or s.words 2 0 + 1) % 2 ^ 64) 0 (λ e. omega arith)) (line_stays s.views id v w at r.now r.next refl r.line)
            (each s.views id v w at (Fits by first l r.now word) fits_w
            (λ j u other e'. fits_more by first r.history (e ∷ []) r.now word j u (own_else by j e (λ same. other (sym same ∙ mine))) (free j u other e') (r.fits j u e'))) (
              z.0,
              z.1,
              roll_more by first r.history (e ∷ []) (set s.views id w) z.0
                  (λ n u e' dead. own_else by n e (λ same. true≢false (sym live ∙ (ap is_live (same_at (set s.views id w) id w u (here s.views id v w at) (ap (get_elem? (set s.views id w)) (sym mine ∙ same) ∙ e')) ∙ dead)))) z.2,
            )
            (λ n le. let inside = at_inside s.views id v at in let wide = length-set s.views id w in own_none by n r.history (e ∷ []) (own_else by n e (λ same. let eq : id ≡ n = sym mine ∙ same in absurd (omega arith))) ∙ unmade_set opening stands mark by fact first s.views id w r.history r.unmade n le)
            (id, w, here s.views id v w at, live, now_seen) (subst (λ (o : O). fact o l) (some_same (opening x) first (sym opens ∙ tell.opening)) (subst (fact (opening x)) whole met))
            (inr record { away = away opening stands mark by fact first s r id v t m f at is; seat = id; view = w; here = here s.views id v w at; turn = (t, m, f, is) }),
        λ x' e' holds' grows'. let same : e ≡ e' = last_same v.seen e e' (sym grows ∙ (ap stands (held_same x x' me.1 holds holds') ∙ grows')) in λ i. (with_entry (same i) v, me.1),
      )

  pub marks : (slots id : ℕ) (me : M) (x : X) (t m f : ℕ) → me.0.stage ≡ Turn t m f → me.1 ≡ (0, Some x) ∷ [] → Allows R slots id me 3 (λ n. bit_or n 1) (Marks opening stands mark (step slots 3 1 0 none) me)
  marks slots id me x t m f is holds s r _ at _ =
      let v : V = me.0 in
      let w : V = with_mark (risen v.mark m (mark x)) (Turn t m 1) v in
      let word : ℕ = get_or s.words 3 0 in
      let fit = r.fits id v at in
      let has = fit.turn t m f is in
      let live = turn_live opening stands mark by fact first s r id v t m f at is in
      let free = free_others s r id v t m f at is in
      let fits_w : Fits by first r.history r.now 1 id w = record {
        seen = fit.seen;
        before = fit.before;
        beside = fit.beside;
        marked = λ _. refl;
        live = λ _. let tell = fit.live live in record { number = tell.number; opening = tell.opening; mine = tell.mine; within = tell.within };
        idle = λ dead. absurd (true≢false (sym live ∙ dead));
        turn = λ t' m' f' is'. (sym (ap ticket is') ∙ has.0, has.1, sym (ap known is'));
      } in (
        w,
        keeps,
        tt,
        pack opening stands mark by fact first (set s.words 3 (bit_or (get_or s.words 3 0) 1)) s.homes (set s.views id w) r.history r.now r.next 1 (mark_shows s.words (length r.history) r.now r.next r.words) (marked_word s.words (length r.history) r.now r.next r.words)
            (line_stays s.views id v w at r.now r.next (sym (ap ticket_of is)) r.line)
            (each s.views id v w at (Fits by first r.history r.now 1) fits_w (λ j u other e. fits_on by first r.history r.now word r.now 1 j u (λ _. refl) (free j u other e) (r.fits j u e)))
            (roll_here opening stands mark by fact first s r id v w at refl refl refl) (unmade_set opening stands mark by fact first s.views id w r.history r.unmade) (id, w, here s.views id v w at, live, has.1) r.met
            (inr record { away = away opening stands mark by fact first s r id v t m f at is; seat = id; view = w; here = here s.views id v w at; turn = (t, m, 1, refl) }),
        λ x' t' m' f' holds' is'. let same : x ≡ x' = held_same x x' me.1 holds holds' in let stage = sym is ∙ is' in λ i. (with_mark (risen v.mark (ap marked stage i) (mark (same i))) (Turn (ap ticket stage i) (ap marked stage i) 1) v, me.1),
      )

  passes_from : (slots id : ℕ) (v : V) (x : X) (t m f : ℕ) → v.stage ≡ Turn t m f → stands x ≡ v.seen → v.opening ≡ Some (opening x) → (f ≡ 1 → mark x ≢ 0) → Allows R slots id (v, (0, Some x) ∷ []) 1 (λ n. (n + 1) % 2 ^ 64) (PassesOn (step slots 1 1 0 none) (v, (0, Some x) ∷ []))
  passes_from slots id v x t m f is same opens known_mark s r _ at _ =
      let w : V = at_stage Idle v in
      let word : ℕ = get_or s.words 3 0 in
      let fit = r.fits id v at in
      let has = fit.turn t m f is in
      let live = turn_live opening stands mark by fact first s r id v t m f at is in
      let tell = fit.live live in
      let free = free_others s r id v t m f at is in
      let had : unit (has_ticket v) ≡ 1 = ap (λ (z : Stage). unit (is_some (ticket_of z))) is in
      let served : t ≡ r.now = has.0 in (
        w,
        gives,
        tt,
        pack opening stands mark by fact first (set s.words 1 ((get_or s.words 1 0 + 1) % 2 ^ 64)) (set s.homes 0 (some (Some x))) (set s.views id w) r.history (r.now + 1) r.next word (pass_shows s.words (length r.history) r.now r.next r.words)
            (get_or-set_other s.words 1 3 ((get_or s.words 1 0 + 1) % 2 ^ 64) 0 (λ e. omega arith))
            (line_set s.views id v w at r.now r.next (r.now + 1) r.next r.line (omega (arith, had))
            (λ k a b not. (dite (ℕ_discrete k r.now) (λ e. absurd (not (ap ticket_of is ∙ ap (λ (n : ℕ). Some n) (served ∙ sym e)))) (λ n. omega arith), b))
            (λ k none. absurd (true≢false (sym (ap is_some none)))) (λ k none. absurd (true≢false (sym (ap is_some none)))))
            (each s.views id v w at (Fits by first r.history (r.now + 1) word)
            (fits_on by first r.history r.now word (r.now + 1) word id w (λ h. h) (turn_free Idle refl) (staged opening stands mark by fact first r.history r.now word id v Idle refl live fit))
            (λ j u other e. fits_on by first r.history r.now word (r.now + 1) word j u (λ h. h) (free j u other e) (r.fits j u e)))
            (roll_here opening stands mark by fact first s r id v w at refl refl refl) (unmade_set opening stands mark by fact first s.views id w r.history r.unmade) (id, w, here s.views id v w at, live, has.1) r.met
            (inl record {
              value = x;
              home = ap (λ (l : List (mathlib.Core.Option.Option (Option X))). set l 0 (some (Some x))) (away opening stands mark by fact first s r id v t m f at is);
              opens = some_same (opening x) first (sym opens ∙ tell.opening);
              whole = same ∙ has.1;
              marked = λ e. known_mark (has.2 ∙ e);
              free = λ j u t' m' f' e is'. each s.views id v w at (λ _ (u : V). (t m f : ℕ) → u.stage ≡ Turn t m f → ⊥) (turn_free Idle refl) (λ j u other e t m f is. free j u other e t m f is) j u e t' m' f' is';
            }),
        refl,
      )

  pub passes : (slots id : ℕ) (me : M) (x : X) (t m f : ℕ) → me.0.stage ≡ Turn t m f → me.1 ≡ (0, Some x) ∷ [] → stands x ≡ me.0.seen → me.0.opening ≡ Some (opening x) → (f ≡ 1 → mark x ≢ 0) → Allows R slots id me 1 (λ n. (n + 1) % 2 ^ 64) (PassesOn (step slots 1 1 0 none) me)
  passes slots id me x t m f is holds same opens known_mark = subst (λ (cs : List (ℕ × Option X)). Allows R slots id (me.0, cs) 1 (λ n. (n + 1) % 2 ^ 64) (PassesOn (step slots 1 1 0 none) (me.0, cs))) (sym holds) (passes_from slots id me.0 x t m f is same opens known_mark)
