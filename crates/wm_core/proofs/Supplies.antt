-- What the parts of settling's third part, and of the first prestart jobs, come to.
use Rattle.std.proofs.Common.{◌≡◌, ◌∙◌, ℕ, suc, ◌+◌, ◌-◌, ◌<◌, ◌≤◌, Bool, true, false, not, cond, List, [], ◌∷◌, ◌++◌, length, filter, fold, map, take, drop, get_or, nat_lt, Some, None, unwrap_or, refl, ap, sym, arith}
use Rattle.std.specs.List.{insert, position, position_or_len}
use Rattle.std.proofs.lemmas.Bool.{ltb-false}
use Rattle.std.proofs.lemmas.List.Sums.{prefix_len-le-length}
use Rattle.std.specs.Ordering.{nat_cmp, is_lt}
use Rattle.std.specs.Cmp.Lexicographic.{slice_cmp}
use Rattle.std.proofs.Math.Seq.{drop-cons}
use Rattle.std.proofs.lemmas.List.{append_assoc, map-append, take_more}
use Rattle.std.proofs.lemmas.List.Elements.{filter-append}
use Rattle.wm_base.specs.declared.qname.QName.{QName}
use Rattle.wm_desc.specs.declared.entry.PreEntry.{PreEntry}
use Rattle.wm_law.specs.declared.state.Sbs.{Sbs}
use Rattle.wm_law.specs.declared.state.State.{State}
use Rattle.wm_law.specs.declared.state.Stop.{Stop}
use Rattle.wm_law.specs.Choice.{is_sbs_active}
use Rattle.wm_law.specs.Prestart.{make_pre, make_pres}
use Rattle.wm_law.specs.Submitting.{numbers_left}
use Rattle.wm_law.specs.Supply.{in_order, inserted}
use Rattle.wm_law.proofs.Rounds.{numbers-less}
use Rattle.wm_core.specs.Supplied.{stop_unless_started}

one_more : (n : ℕ) → suc n ≡ 1 + n
one_more n = omega arith

inserted_by : (b : Bool) (q r : QName) (rs : List QName) (n : ℕ) → inserted q rs ≡ insert rs n q → cond b (r ∷ inserted q rs) (q ∷ r ∷ rs) ≡ insert (r ∷ rs) (cond (not (not b)) (1 + n) 0) q
inserted_by true q r rs n h = ap (λ (l : List QName). r ∷ l) h ∙ ap (λ (k : ℕ). insert (r ∷ rs) k q) (one_more n)
inserted_by false q r rs n h = refl

-- a name goes where the first stands that doesn't come before it
pub inserted_at : (q : QName) (rs : List QName) → inserted q rs ≡ insert rs (position_or_len (λ r. not (is_lt (slice_cmp nat_cmp r.name q.name))) rs) q
inserted_at q [] = refl
inserted_at q (r ∷ rs) = inserted_by (is_lt (slice_cmp nat_cmp r.name q.name)) q r rs (position_or_len (λ r. not (is_lt (slice_cmp nat_cmp r.name q.name))) rs) (inserted_at q rs)

at_or_end_by : (b : Bool) (n m : ℕ) → nat_lt n m ≡ b → n ≤ m → unwrap_or (cond b (Some n) None) m ≡ n
at_or_end_by true n m e h = refl
at_or_end_by false n m e h = let less = ltb-false n m e in omega (arith, h, less)

-- the place of the first that passes, or the end
pub at_or_end : (p : QName → Bool) (xs : List QName) → unwrap_or (position p xs) (length xs) ≡ position_or_len p xs
at_or_end p xs = at_or_end_by (nat_lt (position_or_len p xs) (length xs)) (position_or_len p xs) (length xs) refl (prefix_len-le-length (λ x. not (p x)) xs)

active_by : (b : Bool) (x : Sbs) (xs : List Sbs) → in_order (cond b (x ∷ xs) xs) ≡ cond b (inserted x.sbsd (in_order xs)) (in_order xs)
active_by true x xs = refl
active_by false x xs = refl

-- one subsystem more, from the end
pub one_active : (bs : List Sbs) (i : ℕ) (b : Sbs) (old new : List QName) → i < length bs → b ≡ get_or bs i b → old ≡ in_order (filter (λ x. is_sbs_active x.phase) (drop (suc i) bs)) → new ≡ cond (is_sbs_active b.phase) (inserted b.sbsd old) old
    → new ≡ in_order (filter (λ x. is_sbs_active x.phase) (drop i bs))
one_active bs i b old new within is before after =
    let rest = drop (suc i) bs in
    let acts = λ (x : Sbs). is_sbs_active x.phase in
    let here : drop i bs ≡ b ∷ rest = drop-cons bs i b within ∙ ap (λ (x : Sbs). x ∷ rest) (sym is) in
    after
    ∙ (ap (λ (l : List QName). cond (is_sbs_active b.phase) (inserted b.sbsd l) l) before
    ∙ (sym (active_by (is_sbs_active b.phase) b (filter acts rest)) ∙ sym (ap (λ (l : List Sbs). in_order (filter acts l)) here)))

-- one more of what a state goes through
pub next_folded : {X : Type 0} (f : State → X → State) (xs : List X) (i : ℕ) (x : X) (s t last : State) → i < length xs → x ≡ get_or xs i x → t ≡ f s x → fold f s (drop i xs) ≡ last → fold f t (drop (i + 1) xs) ≡ last
next_folded f xs i x s t last within is step before =
    let next : suc i ≡ i + 1 = omega arith in
    let here : drop i xs ≡ x ∷ drop (i + 1) xs = drop-cons xs i x within ∙ (ap (λ y. y ∷ drop (suc i) xs) (sym is) ∙ ap (λ (n : ℕ). x ∷ drop n xs) next) in
    ap (λ (u : State). fold f u (drop (i + 1) xs)) step ∙ (sym (ap (fold f s) here) ∙ before)

-- one job more is made for an entry: so many are left to be made
pub one_made : (sbs pgm : QName) (jobs made : ℕ) (s t first : State) → made < jobs → t ≡ make_pre sbs pgm s → make_pres sbs pgm (jobs - made) s ≡ make_pres sbs pgm jobs first → make_pres sbs pgm (jobs - (made + 1)) t ≡ make_pres sbs pgm jobs first
one_made sbs pgm jobs made s t first within is before =
    let one : suc (jobs - (made + 1)) ≡ jobs - made = omega (arith, within) in
    ap (make_pres sbs pgm (jobs - (made + 1))) is ∙ (ap (λ (n : ℕ). make_pres sbs pgm n s) one ∙ before)

pub numbers_after : (sbs pgm : QName) (jobs made : ℕ) (s t : State) → made < jobs → t ≡ make_pre sbs pgm s → jobs - made ≤ numbers_left s → jobs - (made + 1) ≤ numbers_left t
numbers_after sbs pgm jobs made s t within is enough =
    let less = numbers-less sbs pgm s (omega (arith, within, enough)) in
    let same = ap numbers_left is in
    omega (arith, within, enough, less, same)

-- the stop of an entry of a subsystem
abbrev pub stop_of : QName → PreEntry → Stop
stop_of sbs e = record { sbs = sbs; pgm = e.pgm }

-- the stops of the entries with STRJOBS(*NO)
abbrev pub stops_of : QName → List PreEntry → List Stop
stops_of sbs es = map (stop_of sbs) (filter (λ e. not e.strjobs) es)

stop_by : (b : Bool) (sbs : QName) (e : PreEntry) → map (stop_of sbs) (cond (not b) (e ∷ []) []) ≡ cond b [] (stop_of sbs e ∷ [])
stop_by true sbs e = refl
stop_by false sbs e = refl

-- the stop of one entry more
pub next_stop : (sbs : QName) (es : List PreEntry) (i : ℕ) (e : PreEntry) (front old new : List Stop) → i < length es → e ≡ get_or es i e → old ≡ front ++ stops_of sbs (take i es) → new ≡ old ++ stop_unless_started sbs e → new ≡ front ++ stops_of sbs (take (i + 1) es)
next_stop sbs es i e front old new within is before after =
    let idle : PreEntry → Bool = λ x. not x.strjobs in
    let more : take (i + 1) es ≡ take i es ++ e ∷ [] = take_more es i e within ∙ ap (λ (x : PreEntry). take i es ++ x ∷ []) (sym is) in
    let parts : stops_of sbs (take i es ++ e ∷ []) ≡ stops_of sbs (take i es) ++ stops_of sbs (e ∷ []) =
    ap (map (stop_of sbs)) (filter-append idle (take i es) (e ∷ [])) ∙ map-append (stop_of sbs) (filter idle (take i es)) (filter idle (e ∷ [])) in
    let whole : stops_of sbs (take i es) ++ stop_unless_started sbs e ≡ stops_of sbs (take (i + 1) es) =
    ap (λ (l : List Stop). stops_of sbs (take i es) ++ l) (sym (stop_by e.strjobs sbs e)) ∙ sym (ap (stops_of sbs) more ∙ parts) in
    after
    ∙ (ap (λ (l : List Stop). l ++ stop_unless_started sbs e) before
    ∙ (append_assoc front (stops_of sbs (take i es)) (stop_unless_started sbs e) ∙ ap (λ (l : List Stop). front ++ l) whole))
