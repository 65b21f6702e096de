-- What the children of a spawner in memory report.
use Rattle.std.proofs.Common.{◌≡◌, ◌==◌, inl, inr, ◌⊎◌, ℕ, ◌<◌, min, zero, suc, Bool, true, false, not, cond, List, [], ◌∷◌, ◌++◌, length, map, filter, find, fold, get_or, nat_le, ◌&&◌, option_map, Option, Some, None, Result, Ok, Err, Contains, refl, sym, ◌∙◌, ap, subst, arith}
use Rattle.std.proofs.lemmas.Bool.{cases_lt}
use Rattle.wm_base.specs.declared.job.Event.{Event}
use Rattle.wm_base.specs.declared.job.Event.TheVariants.{Ended, Used}
use Rattle.wm_traits.specs.declared.fault.Failed.{Failed}
use Rattle.wm_outside.specs.declared.memory.children.Child.{Child}
use Rattle.wm_traits.specs.Spawner.{without_first, IfEnded, out_after}
use Rattle.wm_outside.specs.Children.{serials, killed_ones, due_ones, lesser, least_of, longest_out, either, end_of, report_of, awaited_of, wait_report, marked, without, children_after}

-- to kill a child leaves it out
pub serials_marked : (job : ℕ) (children : List Child) → serials (map (marked job) children) ≡ serials children
serials_marked job [] = refl
serials_marked job (c ∷ children) = ap (λ (l : List ℕ). c.serial ∷ l) (serials_marked job children)

pub serials_without : (job : ℕ) (children : List Child) → serials (without job children) ≡ without_first (λ serial. serial == job) (serials children)
serials_without job [] = refl
serials_without job (c ∷ children) =
    elim (c.serial == job) as (λ b. serials (cond b children (c ∷ without job children)) ≡ cond b (serials children) (c.serial ∷ without_first (λ serial. serial == job) (serials children))) [
      | true ↦ refl
      | false ↦ ap (λ (l : List ℕ). c.serial ∷ l) (serials_without job children)
    ]

-- who is out after a look
pub serials_after : (r : Result (Option Event) Failed) (children : List Child) → serials (children_after r children) ≡ out_after r (serials children)
serials_after (Ok (Some (Ended serial exit))) children = serials_without serial children
serials_after (Ok (Some (Used serial))) children = refl
serials_after (Ok None) children = refl
serials_after (Err failed) children = refl

same_some : (a b : ℕ) → Some a ≡ Some b → a ≡ b
same_some a b is = cc

first_in : (x : ℕ) (xs : List ℕ) → Contains (x ∷ xs) x
first_in x xs = (0, omega arith, refl)

later_in : (x y : ℕ) (xs : List ℕ) → Contains xs y → Contains (x ∷ xs) y
later_in x y xs h = (suc h.0, omega (arith, h.1), h.2)

-- the least of a list is what it began with or one of the list
least_among : (xs : List ℕ) (begin : Option ℕ) (least : ℕ) → fold lesser begin xs ≡ Some least → (begin ≡ Some least) ⊎ Contains xs least
least_among [] begin least is = inl is
least_among (x ∷ xs) begin least is = elim (least_among xs (lesser begin x) least is) [
  | inl now ↦ chosen begin now
  | inr later ↦ inr (later_in x least xs later)
]
  where
    chosen : (b : Option ℕ) → lesser b x ≡ Some least → (b ≡ Some least) ⊎ Contains (x ∷ xs) least
    chosen None same = inr (subst (λ y. Contains (x ∷ xs) y) (same_some x least same) (first_in x xs))
    chosen (Some best) same = elim (cases_lt best x) [
      | inl before ↦ let is_best : best ≡ least = omega (arith, same_some (min best x) least same) in inl (ap (λ y. Some y) is_best)
      | inr not_before ↦ let is_x : x ≡ least = omega (arith, same_some (min best x) least same) in inr (subst (λ y. Contains (x ∷ xs) y) is_x (first_in x xs))
    ]

least_in : (xs : List ℕ) (least : ℕ) → least_of xs ≡ Some least → Contains xs least
least_in xs least is = elim (least_among xs None least is) [
  | inl none ↦ absurd (cc)
  | inr among ↦ among
]

some_least : (xs : List ℕ) (best : ℕ) → fold lesser (Some best) xs ≡ None → ⊥
some_least [] best is = cc
some_least (x ∷ xs) best is = some_least xs (min best x) is

none_least : (xs : List ℕ) → least_of xs ≡ None → xs ≡ []
none_least [] is = refl
none_least (x ∷ xs) is = absurd (some_least xs x is)

one_more_at : (x : ℕ) (xs ys : List ℕ) (y k : ℕ) → (Contains xs y → Contains ys y) → k < suc (length xs) → get_or (x ∷ xs) k y ≡ y → Contains (x ∷ ys) y
one_more_at x xs ys y zero wider below is = (0, omega arith, is)
one_more_at x xs ys y (suc k) wider below is = later_in x y ys (wider (k, omega arith, is))

-- whom a filter keeps is out
kept_in : (test : Child → Bool) (children : List Child) (serial : ℕ) → Contains (serials (filter test children)) serial → Contains (serials children) serial
kept_in test [] serial h = h
kept_in test (c ∷ children) serial h = go (test c) (kept_in test children serial) h
  where
    go : (b : Bool) → (Contains (serials (filter test children)) serial → Contains (serials children) serial) → Contains (serials (cond b (c ∷ filter test children) (filter test children))) serial → Contains (serials (c ∷ children)) serial
    go true wider among = one_more_at c.serial (serials (filter test children)) (serials children) serial among.0 wider among.1 among.2
    go false wider among = later_in c.serial serial (serials children) (wider among)

-- whom a search finds is out
found_in : (test : Child → Bool) (children : List Child) (serial : ℕ) → option_map (λ child. child.serial) (find test children) ≡ Some serial → Contains (serials children) serial
found_in test [] serial is = absurd (cc)
found_in test (c ∷ children) serial is = go (test c) (found_in test children serial) is
  where
    go : (b : Bool) → (option_map (λ child. child.serial) (find test children) ≡ Some serial → Contains (serials children) serial) → option_map (λ child. child.serial) (cond b (Some c) (find test children)) ≡ Some serial → Contains (serials (c ∷ children)) serial
    go true later here = (0, omega arith, same_some c.serial serial here)
    go false later here = later_in c.serial serial (serials children) (later here)

longest_in : (children : List Child) (serial : ℕ) → longest_out children ≡ Some serial → Contains (serials children) serial
longest_in [] serial is = absurd (cc)
longest_in (c ∷ children) serial is = go (option_map (λ child. child.serial) (find (λ child. not child.pre) (c ∷ children))) refl is
  where
    go : (o : Option ℕ) → option_map (λ child. child.serial) (find (λ child. not child.pre) (c ∷ children)) ≡ o → either o (Some c.serial) ≡ Some serial → Contains (serials (c ∷ children)) serial
    go None found e = (0, omega arith, same_some c.serial serial e)
    go (Some x) found e = found_in (λ child. not child.pre) (c ∷ children) serial (found ∙ e)

end_is_out : (children : List Child) (first second : Option ℕ) → ((s : ℕ) → first ≡ Some s → Contains (serials children) s) → ((s : ℕ) → second ≡ Some s → Contains (serials children) s) → IfEnded (Ok (end_of first second)) (Contains (serials children))
end_is_out children (Some s) second h k = h s refl
end_is_out children None (Some s) h k = k s refl
end_is_out children None None h k = tt

killed_out : (children : List Child) (s : ℕ) → least_of (killed_ones children) ≡ Some s → Contains (serials children) s
killed_out children s is = kept_in (λ child. child.killed) children s (least_in (killed_ones children) s is)

look_is_out : (look : ℕ) (children : List Child) → IfEnded (Ok (report_of look children)) (Contains (serials children))
look_is_out look children =
    end_is_out children (least_of (killed_ones children)) (least_of (due_ones look children)) (killed_out children)
    (λ s is. kept_in (λ child. not child.pre && nat_le child.due look) children s (least_in (due_ones look children) s is))

await_is_out : (children : List Child) → IfEnded (Ok (awaited_of children)) (Contains (serials children))
await_is_out children = end_is_out children (least_of (killed_ones children)) (longest_out children) (killed_out children) (longest_in children)

-- who reports is out
pub report_is_out : (look : ℕ) (children : List Child) (report : Option Event) → report ≡ report_of look children → IfEnded (Ok report) (Contains (serials children))
report_is_out look children report is = subst (λ r. IfEnded (Ok r) (Contains (serials children))) (sym is) (look_is_out look children)

pub wait_report_is_out : (has_moment : Bool) (look : ℕ) (children : List Child) (report : Option Event) → report ≡ wait_report has_moment look children → IfEnded (Ok report) (Contains (serials children))
wait_report_is_out true look children report is = report_is_out look children report is
wait_report_is_out false look children report is = subst (λ r. IfEnded (Ok r) (Contains (serials children))) (sym is) (await_is_out children)

no_end : (first second : Option ℕ) → end_of first second ≡ None → (first ≡ None) × (second ≡ None)
no_end (Some s) second is = absurd (cc)
no_end None (Some s) is = absurd (cc)
no_end None None is = (refl, refl)

-- where there is no report, nobody has one
pub none_reports : (look : ℕ) (children : List Child) → report_of look children ≡ None → killed_ones children ++ due_ones look children ≡ []
none_reports look children is =
    let none = no_end (least_of (killed_ones children)) (least_of (due_ones look children)) is in
    rw (none_least (killed_ones children) none.0) (none_least (due_ones look children) none.1)

none_out : (children : List Child) → longest_out children ≡ None → children ≡ []
none_out [] is = refl
none_out (c ∷ children) is = go (option_map (λ child. child.serial) (find (λ child. not child.pre) (c ∷ children))) is
  where
    go : (o : Option ℕ) → either o (Some c.serial) ≡ None → c ∷ children ≡ []
    go None e = cc
    go (Some x) e = cc

-- where a wait without a moment reports nothing, nobody is out
pub none_awaited : (children : List Child) → awaited_of children ≡ None → serials children ≡ []
none_awaited children is =
    ap serials (none_out children (no_end (least_of (killed_ones children)) (longest_out children) is).1)
