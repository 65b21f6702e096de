-- The orders in which jobs and subsystems are shown rank what they order.
use Rattle.std.specs.Prelude.{◌≡◌, Bool, true, false, cond, ◌&&◌, ◌||◌, ◌==◌, nat_lt, refl}
use Rattle.std.specs.Cmp.{IsStrictWeakOrder, IsTotalOrder, nat_cmp_total, on_total, then_total}
use Rattle.std.specs.Cmp.Lexicographic.{nat_list_cmp_total}
use Rattle.std.specs.Ordering.{nat_cmp, is_lt, ordering_then}
use Rattle.std.specs.declared.cmp.Ordering.{Ordering}
use Rattle.std.specs.declared.cmp.Ordering.TheVariants.{Less, Equal, Greater}
use Rattle.std.proofs.Common.{subst}
use Rattle.std.proofs.lemmas.List.Sorted.{ranks_by, IsStrictWeakOrder-by_number}
use Rattle.wm_law.specs.declared.state.Sbs.{Sbs}
use Rattle.wm_views.specs.declared.shown.JobLine.{JobLine}
use Rattle.wm_views.specs.Lines.{Placed}
use Rattle.wm_views.specs.Views.{by_name, by_number, by_turn}

-- subsystems by their names
pub name_ranks : IsStrictWeakOrder by_name
name_ranks = ranks_by nat_list_cmp_total (λ (b : Sbs). b.sbsd.name)

-- jobs by their numbers
pub number_ranks : IsStrictWeakOrder by_number
number_ranks = IsStrictWeakOrder-by_number (λ (l : JobLine). l.job.number)

-- by priority, and then by place
abbrev turn_cmp : Placed → Placed → Ordering
turn_cmp a b = ordering_then (nat_cmp a.line.pty b.line.pty) (nat_cmp a.place b.place)

-- of two numbers the order tells which is less
number_lt : (less same : Bool) → is_lt (cond less Less (cond same Equal Greater)) ≡ less
number_lt true same = refl
number_lt false true = refl
number_lt false false = refl

-- of two pairs too
pair_lt : (less same second : Bool) (o : Ordering) → is_lt o ≡ second → is_lt (ordering_then (cond less Less (cond same Equal Greater)) o) ≡ less || (same && second)
pair_lt true same second o e = refl
pair_lt false true second o e = e
pair_lt false false second o e = refl

-- so does the order of turns
turn_lt : (a b : Placed) → is_lt (turn_cmp a b) ≡ by_turn a b
turn_lt a b = pair_lt (nat_lt a.line.pty b.line.pty) (a.line.pty == b.line.pty) (nat_lt a.place b.place) (nat_cmp a.place b.place) (number_lt (nat_lt a.place b.place) (a.place == b.place))

turn_total : IsTotalOrder turn_cmp
turn_total = then_total (on_total (λ (p : Placed). p.line.pty) nat_cmp_total) (on_total (λ (p : Placed). p.place) nat_cmp_total)

-- waiting jobs by their turns
pub turn_ranks : IsStrictWeakOrder by_turn
turn_ranks = subst (λ (before : Placed → Placed → Bool). IsStrictWeakOrder before) (λ i a b. turn_lt a b i) (ranks_by turn_total (λ (p : Placed). p))
