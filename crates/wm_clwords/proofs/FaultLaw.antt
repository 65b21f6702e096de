-- The reader's faults are those that stand in the bytes.
use Rattle.std.proofs.Common.{◌≡◌, ◌≢◌, ◌⊎◌, ℕ, ◌+◌, ◌≤◌, ◌++◌, Bool, true, false, cond, List, [], ◌∷◌, length, take, eqb, ltb, get_or, Ok, Err, subst, sym, ◌∙◌, ap, refl, arith, inl, inr}
use Rattle.std.specs.List.{list_all, flat_map}
use Rattle.std.proofs.Math.Seq.{take-append_seam}
use Rattle.std.proofs.lemmas.Bool.{and_parts, eqb-true, eqb-false, ne_eqb, le-ltb, ltb-false, false≢true, true≢false}
use Rattle.std.proofs.lemmas.List.{append_assoc, append-nil, length_push, get_or_at}
use Rattle.wm_base.specs.Text.{is_printable}
use Rattle.wm_clwords.specs.declared.mode.Mode.{Mode}
use Rattle.wm_clwords.specs.declared.mode.Mode.TheVariants.{Free, Slash, InWord, InQuoted, AtApostrophe, AfterSlash, InComment, AtStar}
use Rattle.wm_clwords.specs.declared.fault.ClFault.{ClFault}
use Rattle.wm_clwords.specs.declared.fault.ClFault.TheVariants.{OpenQuote, OpenParen, StrayParen, OpenComment, BadByte, TooDeep}
use Rattle.wm_clwords.specs.Lines.{is_blank}
use Rattle.wm_clwords.specs.Quote.{doubled}
use Rattle.wm_clwords.specs.Grammar.{Comment, Quoted, Key, Open, spelling, is_word, is_word_byte, is_comment_byte, is_unended, Next, Anything, ByWord, ByQuoted, may_come, upper, Mark}
use Rattle.wm_clwords.specs.Reading.{State, mark, Went, opened, closed, at_word, in_comment, step, step_by, all_closed, finish, finish_by, with_front, with_rest, run, begun}
use Rattle.wm_clwords.specs.Faults.{Behind, Begins, StopsAt, IsNoStar, IsLoneSlash, IsTooDeep, EndsInQuoted, EndsInComment, EndsInList, StandsIn}
use Rattle.wm_clwords.proofs.GrammarLemmas.{unended_front}
use Rattle.wm_clwords.proofs.Completeness.{front_nil, Marks, at_mode, word_state, choose, word_all, quote_run, word_then, word_finish_by, is_slash, in_by, unended_tail, after_star}
use Rattle.wm_clwords.proofs.Soundness.{Spells-run}
use Rattle.wm_clwords.proofs.Explained.{Explained, ExplainedBy, IsWordAt, behind_more, behind_at, behind_length, word_end, quote_end}
use Rattle.wm_clwords.proofs.Runs.{ok_no_fault, went_no_fault, same_fault, steps-explained, can_end, fault_split, stops_at}
use Rattle.wm_clwords.proofs.LeadRuns.{Pending, run_behind}

-- a run's fault is that of its rest
behind_fault : (bytes : List ℕ) (next : Next) (opens : List ℕ) (place : ℕ) (rest : List ℕ) (f : ClFault) → Behind bytes next opens place rest
    → ((s : State) → Pending next opens s → run s place rest ≡ Err f) → run begun 0 bytes ≡ Err f
behind_fault bytes next opens place rest f h k =
    let r = run_behind bytes next opens place rest h in
    r.2.1 ∙ ap (with_front r.2.0) (k r.0 r.1)

at_state : (s t : State) (place : ℕ) (bytes : List ℕ) (r : Marks) → s ≡ t → run t place bytes ≡ r → run s place bytes ≡ r
at_state s t place bytes r e h = ap (λ x. run x place bytes) e ∙ h

-- the reader's answer where a fault stands
slash_alone : (more : List ℕ) (start : ℕ) (opens : List ℕ) (place : ℕ) → IsNoStar more → run (at_mode AfterSlash start [] opens) place more ≡ Err (BadByte start)
slash_alone [] start opens place h = refl
slash_alone (b ∷ more) start opens place h = choose (eqb b 42) _ _ (λ s. run s (place + 1) more) _ false (ne_eqb b 42 h) refl

pub lone_run : (bytes : List ℕ) (place : ℕ) → IsLoneSlash bytes place → run begun 0 bytes ≡ Err (BadByte place)
lone_run bytes place h =
    behind_fault bytes ByQuoted h.opens place (47 ∷ h.more) (BadByte place) h.behind (λ s p.
    at_state s (at_mode AtApostrophe p.0 p.1.0 h.opens) place (47 ∷ h.more) (Err (BadByte place)) p.1.1
    (ap (with_front (mark p.0 place (Quoted p.1.0) ∷ [])) (slash_alone h.more place h.opens (place + 1) h.alone)))

full_fault : (opens : List ℕ) (place : ℕ) (key : Mark) (next : State → Marks) → 16 ≤ length opens → with_rest (opened place opens key) next ≡ Err (TooDeep place)
full_fault opens place key next h = choose (ltb (length opens) 16) _ _ next _ false (le-ltb (length opens) 16 h) refl

deep_by : (word opens : List ℕ) (start : ℕ) (more : List ℕ) → (word ≡ []) ⊎ (is_word word ≡ true) → 16 ≤ length opens → run (at_mode Free 0 [] opens) start (word ++ 40 ∷ more) ≡ Err (TooDeep (start + length word))
deep_by word opens start more (inl e) full =
    ap (λ w. run (at_mode Free 0 [] opens) start (w ++ 40 ∷ more)) e ∙ full_fault opens start (mark start (start + 1) Open) (λ s. run s (start + 1) more) full
    ∙ ap (λ n. Err (TooDeep n)) (omega (arith, ap length e))
deep_by word opens start more (inr e) full =
    word_all word opens start (40 ∷ more) e
    ∙ word_then start word opens (start + length word) 40 more _ refl (full_fault opens (start + length word) (mark start (start + length (upper word) + 1) (Key (upper word))) (λ s. run s (start + length word + 1) more) full)

pub deep_run : (bytes : List ℕ) (place : ℕ) → IsTooDeep bytes place → run begun 0 bytes ≡ Err (TooDeep place)
deep_run bytes place h =
    behind_fault bytes Anything h.opens h.start (h.word ++ 40 ∷ h.more) (TooDeep place) h.behind (λ s p.
    at_state s (at_mode Free 0 [] h.opens) h.start (h.word ++ 40 ∷ h.more) (Err (TooDeep place)) p
    (deep_by h.word h.opens h.start h.more h.key h.full ∙ ap (λ n. Err (TooDeep n)) (sym h.at)))

pub quoted_run : (bytes : List ℕ) (place : ℕ) → EndsInQuoted bytes place → run begun 0 bytes ≡ Err (OpenQuote place)
quoted_run bytes place h =
    behind_fault bytes Anything h.opens place (39 ∷ doubled h.text) (OpenQuote place) h.behind (λ s p.
    at_state s (at_mode Free 0 [] h.opens) place (39 ∷ doubled h.text) (Err (OpenQuote place)) p
    (front_nil _ ∙ ap (run (at_mode InQuoted place [] h.opens) (place + 1)) (sym (append-nil (doubled h.text))) ∙ quote_run h.text place [] h.opens (place + 1) [] h.printable))

pub list_run : (bytes : List ℕ) (place : ℕ) → EndsInList bytes place → run begun 0 bytes ≡ Err (OpenParen place)
list_run bytes place h =
    behind_fault bytes h.next (place ∷ h.outer) h.ends [] (OpenParen place) h.behind (λ s p. pending_end h.next s p)
  where
    pending_end : (next : Next) (s : State) → Pending next (place ∷ h.outer) s → run s h.ends [] ≡ Err (OpenParen place)
    pending_end Anything s p = at_state s (at_mode Free 0 [] (place ∷ h.outer)) h.ends [] _ p refl
    pending_end ByWord s p = at_state s (word_state p.0 p.1.0 (place ∷ h.outer)) h.ends [] _ p.1.2 (word_finish_by (is_slash p.1.0) p.0 (upper p.1.0) (place ∷ h.outer) h.ends)
    pending_end ByQuoted s p = at_state s (at_mode AtApostrophe p.0 p.1.0 (place ∷ h.outer)) h.ends [] _ p.1.1 refl

-- a lone slash itself may still begin a comment
pub lone_begins : (bytes : List ℕ) (place : ℕ) → IsLoneSlash bytes place → Begins (take (place + 1) bytes)
lone_begins bytes place h =
    let whole : List ℕ = flat_map spelling h.behind.tokens in
    let front : List ℕ = whole ++ 47 ∷ [] in
    let same : take (place + 1) bytes ≡ front =
    ap (take (place + 1)) (h.behind.written ∙ sym (append_assoc whole (47 ∷ []) h.more)) ∙ ap (λ n. take n (front ++ h.more)) (omega (arith, h.behind.ends, length_push whole 47)) ∙ take-append_seam front h.more in
    let here : Behind front ByQuoted h.opens place (47 ∷ []) = record { tokens = h.behind.tokens; written = refl; ends = h.behind.ends; leads = h.behind.leads } in
    let ends = can_end (at_mode AfterSlash place [] h.opens) (place + 1) in
    let r = run_behind (front ++ ends.0) ByQuoted h.opens place (47 ∷ ends.0) (behind_more front ends.0 ByQuoted h.opens place (47 ∷ []) here) in
    let word : Mark = mark r.1.0 place (Quoted r.1.1.0) in
    let accepted : run begun 0 (front ++ ends.0) ≡ Ok (r.2.0 ++ (word ∷ ends.1.0)) =
    r.2.1 ∙ ap (with_front r.2.0) (at_state r.0 (at_mode AtApostrophe r.1.0 r.1.1.0 h.opens) place (47 ∷ ends.0) _ r.1.1.1 (ap (with_front (word ∷ [])) ends.1.1)) in
    subst (λ (l : List ℕ). Begins l) (sym same) (record { rest = ends.0; marks = r.2.0 ++ (word ∷ ends.1.0); spells = Spells-run (front ++ ends.0) (r.2.0 ++ (word ∷ ends.1.0)) accepted })

-- a comment that doesn't end
comment_open : (text : List ℕ) (start : ℕ) (opens : List ℕ) (place : ℕ) → list_all is_comment_byte text ≡ true → is_unended text ≡ true
    → (run (at_mode InComment start [] opens) place text ≡ Err (OpenComment start)) × (is_unended (42 ∷ text) ≡ true → run (at_mode AtStar start [] opens) place text ≡ Err (OpenComment start))
comment_open [] start opens place good h = (refl, λ _. refl)
comment_open (b ∷ text) start opens place good h =
    let w = and_parts (is_comment_byte b) (list_all is_comment_byte text) good in
    let ih = comment_open text start opens (place + 1) w.1 (unended_tail b text h) in
    let next : State → Marks = λ s. run s (place + 1) text in
    let inside : with_rest (in_comment start opens place b) next ≡ Err (OpenComment start) =
    in_by b start opens place next _ (eqb b 42) refl w.0
    (λ e. ap (with_front []) (ih.1 (ap (λ n. is_unended (n ∷ text)) (sym (eqb-true b 42 e)) ∙ h))) (ap (with_front []) ih.0) in
    (inside, λ u. choose (eqb b 47) _ _ next _ false (after_star b text u) inside)

comment_pending : (next : Next) (opens : List ℕ) (place : ℕ) (text : List ℕ) (s : State) → may_come next (Comment text) ≡ true → list_all is_comment_byte text ≡ true → is_unended text ≡ true
    → Pending next opens s → run s place (47 ∷ 42 ∷ text) ≡ Err (OpenComment place)
comment_pending Anything opens place text s may good h p =
    at_state s (at_mode Free 0 [] opens) place (47 ∷ 42 ∷ text) _ p (ap (λ r. with_front [] (with_front [] r)) (comment_open text place opens (place + 1 + 1) good h).0)
comment_pending ByWord opens place text s may good h p = absurd (false≢true may)
comment_pending ByQuoted opens place text s may good h p =
    at_state s (at_mode AtApostrophe p.0 p.1.0 opens) place (47 ∷ 42 ∷ text) _ p.1.1
    (ap (λ r. with_front (mark p.0 place (Quoted p.1.0) ∷ []) (with_front [] r)) (comment_open text place opens (place + 1 + 1) good h).0)

pub comment_fault : (bytes : List ℕ) (place : ℕ) → EndsInComment bytes place → run begun 0 bytes ≡ Err (OpenComment place)
comment_fault bytes place h =
    behind_fault bytes h.next h.opens place (47 ∷ 42 ∷ h.text) (OpenComment place) h.behind (λ s p. comment_pending h.next h.opens place h.text s h.comes h.good h.unended p)

-- which fault a byte is
abbrev pub Class : List ℕ → ℕ → ℕ → ClFault → Type 0
Class bytes place b f =
    ((q : ℕ) × (f ≡ BadByte q) × IsLoneSlash bytes q) ⊎ (((f ≡ StrayParen place) × (b ≡ 41)) ⊎ (((f ≡ TooDeep place) × IsTooDeep bytes place × (b ≡ 40)) ⊎ ((f ≡ BadByte place) × (b ≢ 41))))

pick_fault : (c : Bool) (x y : Went) (f : ClFault) → cond c x y ≡ Err f → ((c ≡ true) × (x ≡ Err f)) ⊎ ((c ≡ false) × (y ≡ Err f))
pick_fault true x y f e = inl (refl, e)
pick_fault false x y f e = inr (refl, e)

bad_class : (bytes : List ℕ) (place b : ℕ) (f : ClFault) → ◌≡◌ {A = Went} (Err (BadByte place)) (Err f) → (b ≡ 41 → ⊥) → Class bytes place b f
bad_class bytes place b f e other = inr (inr (inr (sym (same_fault (BadByte place) f e), other)))

closed_class : (bytes : List ℕ) (place b : ℕ) (opens : List ℕ) (marks : List Mark) (f : ClFault) → eqb b 41 ≡ true → closed place opens marks ≡ Err f → Class bytes place b f
closed_class bytes place b [] marks f c e = inr (inl (sym (same_fault (StrayParen place) f e), eqb-true b 41 c))
closed_class bytes place b (o ∷ opens) marks f c e = absurd (went_no_fault _ f e)

opened_class : (bytes : List ℕ) (place b : ℕ) (opens : List ℕ) (key : Mark) (f : ClFault) → eqb b 40 ≡ true → (16 ≤ length opens → IsTooDeep bytes place) → opened place opens key ≡ Err f → Class bytes place b f
opened_class bytes place b opens key f c deep e =
    elim (pick_fault (ltb (length opens) 16) _ _ f e) [
      | inl w ↦ absurd (went_no_fault _ f w.1)
      | inr w ↦ inr (inr (inl (sym (same_fault (TooDeep place) f w.1), deep (ltb-false (length opens) 16 w.0), eqb-true b 40 c)))
    ]

-- a byte more behind what is explained
behind_byte : (bytes front : List ℕ) (b : ℕ) (more : List ℕ) (next : Next) (opens : List ℕ) (place : ℕ) (rest : List ℕ) → bytes ≡ front ++ b ∷ more → Behind front next opens place rest → Behind bytes next opens place (rest ++ b ∷ more)
behind_byte bytes front b more next opens place rest e h = subst (λ (l : List ℕ). Behind l next opens place (rest ++ b ∷ more)) (sym e) (behind_more front (b ∷ more) next opens place rest h)

deep_here : (bytes front : List ℕ) (b : ℕ) (more opens : List ℕ) (start : ℕ) (word : List ℕ) → bytes ≡ front ++ b ∷ more → eqb b 40 ≡ true → (word ≡ []) ⊎ (is_word word ≡ true) → Behind front Anything opens start word
    → 16 ≤ length opens → IsTooDeep bytes (length front)
deep_here bytes front b more opens start word e c key h full =
    record {
      opens = opens;
      start = start;
      word = word;
      more = more;
      behind = behind_at bytes Anything opens start (word ++ b ∷ more) (word ++ 40 ∷ more) (ap (λ n. word ++ n ∷ more) (eqb-true b 40 c)) (behind_byte bytes front b more Anything opens start word e h);
      key = key;
      at = behind_length front Anything opens start word h;
      full = full;
    }

free_class : (bytes front : List ℕ) (b : ℕ) (more opens : List ℕ) (f : ClFault) → bytes ≡ front ++ b ∷ more → Behind front Anything opens (length front) []
    → step_by Free 0 [] opens (length front) b ≡ Err f → Class bytes (length front) b f
free_class bytes front b more opens f written h e =
    let place : ℕ = length front in
    elim (pick_fault (is_blank b) _ _ f e) [
      | inl w ↦ absurd (went_no_fault _ f w.1)
      | inr w ↦
          elim (pick_fault (eqb b 39) _ _ f w.1) [
            | inl v ↦ absurd (went_no_fault _ f v.1)
            | inr v ↦
                elim (pick_fault (eqb b 40) _ _ f v.1) [
                  | inl u ↦ opened_class bytes place b opens _ f u.0 (λ full. deep_here bytes front b more opens place [] written u.0 (inl refl) h full) u.1
                  | inr u ↦
                      elim (pick_fault (eqb b 41) _ _ f u.1) [
                        | inl t ↦ closed_class bytes place b opens _ f t.0 t.1
                        | inr t ↦
                            elim (pick_fault (eqb b 47) _ _ f t.1) [
                              | inl s ↦ absurd (went_no_fault _ f s.1)
                              | inr s ↦
                                  elim (pick_fault (is_word_byte b) _ _ f s.1) [ inl r ↦ absurd (went_no_fault _ f r.1) | inr r ↦ bad_class bytes place b f r.1 (eqb-false b 41 t.0) ]
                            ]
                      ]
                ]
          ]
    ]

word_class : (bytes front : List ℕ) (b : ℕ) (more opens : List ℕ) (start : ℕ) (held raw : List ℕ) (f : ClFault) → bytes ≡ front ++ b ∷ more → IsWordAt front start held opens raw
    → at_word start held opens (length front) b ≡ Err f → Class bytes (length front) b f
word_class bytes front b more opens start held raw f written h e =
    let place : ℕ = length front in
    elim (pick_fault (is_blank b) _ _ f e) [
      | inl w ↦ absurd (went_no_fault _ f w.1)
      | inr w ↦
          elim (pick_fault (eqb b 40) _ _ f w.1) [
            | inl v ↦ opened_class bytes place b opens _ f v.0 (λ full. deep_here bytes front b more opens start raw written v.0 (inr h.word) h.behind full) v.1
            | inr v ↦
                elim (pick_fault (eqb b 41) _ _ f v.1) [
                  | inl u ↦ closed_class bytes place b opens _ f u.0 u.1
                  | inr u ↦
                      elim (pick_fault (is_word_byte b) _ _ f u.1) [ inl t ↦ absurd (went_no_fault _ f t.1) | inr t ↦ bad_class bytes place b f t.1 (eqb-false b 41 u.0) ]
                ]
          ]
    ]

comment_class : (bytes : List ℕ) (place b start : ℕ) (opens : List ℕ) (f : ClFault) → in_comment start opens place b ≡ Err f → Class bytes place b f
comment_class bytes place b start opens f e =
    elim (pick_fault (eqb b 42) _ _ f e) [
      | inl w ↦ absurd (went_no_fault _ f w.1)
      | inr w ↦
          elim (pick_fault (is_comment_byte b) _ _ f w.1) [
            | inl v ↦ absurd (went_no_fault _ f v.1)
            | inr v ↦
                bad_class bytes place b f v.1 (λ q. true≢false (sym (ap is_comment_byte q) ∙ v.0))
          ]
    ]

pub classify : (mode : Mode) (start : ℕ) (held opens bytes front : List ℕ) (b : ℕ) (more : List ℕ) (f : ClFault) → bytes ≡ front ++ b ∷ more → Explained mode start held opens front
    → step_by mode start held opens (length front) b ≡ Err f → Class bytes (length front) b f
classify Free start held opens bytes front b more f written h e = free_class bytes front b more opens f written h e
classify Slash start held opens bytes front b more f written h e =
    elim (pick_fault (eqb b 42) _ _ f e) [ inl w ↦ absurd (went_no_fault _ f w.1) | inr w ↦ word_class bytes front b more opens start held (47 ∷ []) f written h w.1 ]
classify InWord start held opens bytes front b more f written h e = word_class bytes front b more opens start held h.0 f written h.2 e
classify InQuoted start held opens bytes front b more f written h e =
    elim (pick_fault (eqb b 39) _ _ f e) [
      | inl w ↦ absurd (went_no_fault _ f w.1)
      | inr w ↦
          elim (pick_fault (is_printable b) _ _ f w.1) [
            | inl v ↦ absurd (went_no_fault _ f v.1)
            | inr v ↦
                bad_class bytes (length front) b f v.1 (λ q. true≢false (sym (ap is_printable q) ∙ v.0))
          ]
    ]
classify AtApostrophe start held opens bytes front b more f written h e =
    let place : ℕ = length front in
    elim (pick_fault (eqb b 39) _ _ f e) [
      | inl w ↦ absurd (went_no_fault _ f w.1)
      | inr w ↦
          elim (pick_fault (is_blank b) _ _ f w.1) [
            | inl v ↦ absurd (went_no_fault _ f v.1)
            | inr v ↦
                elim (pick_fault (eqb b 41) _ _ f v.1) [
                  | inl u ↦ closed_class bytes place b opens _ f u.0 u.1
                  | inr u ↦
                      elim (pick_fault (eqb b 47) _ _ f u.1) [ inl t ↦ absurd (went_no_fault _ f t.1) | inr t ↦ bad_class bytes place b f t.1 (eqb-false b 41 u.0) ]
                ]
          ]
    ]
classify AfterSlash start held opens bytes front b more f written h e =
    elim (pick_fault (eqb b 42) _ _ f e) [
      | inl w ↦ absurd (went_no_fault _ f w.1)
      | inr w ↦
          inl (start, sym (same_fault (BadByte start) f w.1), record { opens = opens; more = b ∷ more; behind = behind_byte bytes front b more ByQuoted opens start (47 ∷ []) written h; alone = eqb-false b 42 w.0 })
    ]
classify InComment start held opens bytes front b more f written h e = comment_class bytes (length front) b start opens f e
classify AtStar start held opens bytes front b more f written h e =
    elim (pick_fault (eqb b 47) _ _ f e) [ inl w ↦ absurd (went_no_fault _ f w.1) | inr w ↦ comment_class bytes (length front) b start opens f w.1 ]

-- the fault at the end
closed_ends : (bytes : List ℕ) (next : Next) (opens : List ℕ) (marks : List Mark) (f : ClFault) → Behind bytes next opens (length bytes) [] → all_closed opens marks ≡ Err f → StandsIn f bytes
closed_ends bytes next [] marks f h e = absurd (ok_no_fault marks f e)
closed_ends bytes next (o ∷ opens) marks f h e =
    subst (λ (g : ClFault). StandsIn g bytes) (same_fault (OpenParen o) f e) (record { next = next; outer = opens; ends = length bytes; behind = h })

pub ends_stand : (mode : Mode) (start : ℕ) (held opens bytes : List ℕ) (f : ClFault) → Explained mode start held opens bytes → finish_by mode start held opens (length bytes) ≡ Err f → StandsIn f bytes
ends_stand Free start held opens bytes f h e = closed_ends bytes Anything opens _ f h e
ends_stand Slash start held opens bytes f h e = closed_ends bytes ByWord opens _ f (word_end bytes opens start (47 ∷ []) h.word h.behind) e
ends_stand InWord start held opens bytes f h e = closed_ends bytes ByWord opens _ f (word_end bytes opens start h.0 h.2.word h.2.behind) e
ends_stand InQuoted start held opens bytes f h e =
    subst (λ (g : ClFault). StandsIn g bytes) (same_fault (OpenQuote start) f e) (record { opens = opens; text = held; printable = h.0; behind = h.1 })
ends_stand AtApostrophe start held opens bytes f h e = closed_ends bytes ByQuoted opens _ f (quote_end bytes opens start held h.0 h.1) e
ends_stand AfterSlash start held opens bytes f h e =
    subst (λ (g : ClFault). StandsIn g bytes) (same_fault (BadByte start) f e) (inl (record { opens = opens; more = []; behind = h; alone = tt }))
ends_stand InComment start held opens bytes f h e =
    subst (λ (g : ClFault). StandsIn g bytes) (same_fault (OpenComment start) f e)
    (record { next = h.0; opens = opens; text = h.1.0; comes = h.1.2.comes h.1.0; good = h.1.2.good; unended = unended_front h.1.0 0 (h.1.1 0); behind = h.1.2.behind })
ends_stand AtStar start held opens bytes f h e =
    subst (λ (g : ClFault). StandsIn g bytes) (same_fault (OpenComment start) f e)
    (record { next = h.0; opens = opens; text = h.1.0 ++ 42 ∷ []; comes = h.1.2.comes (h.1.0 ++ 42 ∷ []); good = h.1.2.good; unended = h.1.1; behind = h.1.2.behind })

-- the reader's fault stands in the bytes
bad_same : (p q : ℕ) → ◌≡◌ {A = ClFault} (BadByte p) (BadByte q) → p ≡ q
bad_same p q e = cc

pub fault_apart : (bytes : List ℕ) (f g : ClFault) → run begun 0 bytes ≡ Err f → run begun 0 bytes ≡ Err g → f ≡ g
fault_apart bytes f g e h = same_fault f g (sym e ∙ h)

stray_bad : (p q : ℕ) → ◌≡◌ {A = ClFault} (StrayParen p) (BadByte q) → ⊥
stray_bad p q e = cc

deep_bad : (p q : ℕ) → ◌≡◌ {A = ClFault} (TooDeep p) (BadByte q) → ⊥
deep_bad p q e = cc

class_stands : (bytes : List ℕ) (place b : ℕ) (f : ClFault) → run begun 0 bytes ≡ Err f → StopsAt bytes place → get_or bytes place 0 ≡ b → Class bytes place b f → StandsIn f bytes
class_stands bytes place b f r stops here (inl h) = subst (λ (g : ClFault). StandsIn g bytes) (sym h.1) (inl h.2)
class_stands bytes place b f r stops here (inr (inl h)) =
    let run_is : run begun 0 bytes ≡ Err (StrayParen place) = r ∙ ap Err h.0 in
    subst (λ (g : ClFault). StandsIn g bytes) (sym h.0)
    (record { stops = stops; paren = here ∙ h.1; paired = λ q lone. stray_bad place q (fault_apart bytes (StrayParen place) (BadByte q) run_is (lone_run bytes q lone)) })
class_stands bytes place b f r stops here (inr (inr (inl h))) = subst (λ (g : ClFault). StandsIn g bytes) (sym h.0) (stops, h.1)
class_stands bytes place b f r stops here (inr (inr (inr h))) =
    let run_is : run begun 0 bytes ≡ Err (BadByte place) = r ∙ ap Err h.0 in
    subst (λ (g : ClFault). StandsIn g bytes) (sym h.0)
    (inr (record {
      stops = stops;
      other = λ q. h.1 (sym here ∙ q);
      shallow = λ deep. deep_bad place place (fault_apart bytes (TooDeep place) (BadByte place) (deep_run bytes place deep) run_is);
      paired = λ q lone.
          let same : q ≡ place = bad_same q place (fault_apart bytes (BadByte q) (BadByte place) (lone_run bytes q lone) run_is) in
          stops.here (subst (λ (n : ℕ). Begins (take (n + 1) bytes)) same (lone_begins bytes q lone));
    }))

pub fault_stands : (bytes : List ℕ) (f : ClFault) → run begun 0 bytes ≡ Err f → StandsIn f bytes
fault_stands bytes f r =
    elim (fault_split bytes begun 0 f r) [
      | inl h ↦
          let explained : ExplainedBy h.next h.front = steps-explained h.front [] begun h.next (record { tokens = []; written = refl; ends = refl; leads = (refl, refl) }) h.led in
          let stop : step h.next (length h.front) h.byte ≡ Err f = ap (λ n. step h.next n h.byte) (omega arith) ∙ h.stop in
          let here : get_or bytes (length h.front) 0 ≡ h.byte = ap (λ l. get_or l (length h.front) 0) h.written ∙ get_or_at h.front h.byte h.more 0 (length h.front) refl in
          class_stands bytes (length h.front) h.byte f r (stops_at bytes h.front h.byte h.more h.next f h.written h.led stop) here
          (classify h.next.mode h.next.start h.next.held h.next.opens bytes h.front h.byte h.more f h.written explained stop)
      | inr h ↦
          let explained : ExplainedBy h.next bytes = steps-explained bytes [] begun h.next (record { tokens = []; written = refl; ends = refl; leads = (refl, refl) }) h.led in
          ends_stand h.next.mode h.next.start h.next.held h.next.opens bytes f explained (ap (λ n. finish h.next n) (omega arith) ∙ h.stop)
    ]
