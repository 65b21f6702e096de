use Rattle.std.proofs.Common.{◌≡◌, ◌∙◌, ◌≤◌, ◌++◌, ℕ, List, [], All, None, ap, arith, drop, length, rules, subst, sym, take}
use Rattle.std.proofs.lemmas.List.{append-nil, drop_all, take_all}
use Rattle.wm_serve.specs.Seats.{pass_of}
use Rattle.wrkmgr.proofs.serving.serve_seated.Goals as goal

-- a vector whose values are all replaced has these
put_back : {A : Type 0} (len : ℕ) (new items : List A) → length new ≡ len → length items ≡ len → take len (new ++ drop (length new) items) ≡ new
put_back {A} len new items long whole =
    let none : drop (length new) items ≡ [] = drop_all (length new) items (omega (arith, long, whole)) in
    let same : new ++ drop (length new) items ≡ new = ap (λ (rest : List A). new ++ rest) none ∙ append-nil new in
    ap (take len) same ∙ take_all len new (omega (arith, long))

pub returns-clause-vacant : goal.returns-clause-vacant
returns-clause-vacant g c =
    let new = c.serve-served.new.seats in
    let old = c.args.crew.now.seats in
    let whole : length old.items ≡ old.len = search rules in
    let long : length new ≡ old.len = search rules in
    let same = put_back old.len new old.items long whole in
    subst (λ (seats : List _). All (λ seat. pass_of seat ≡ None) seats) (sym same) c.serve-served.ensures.vacant
