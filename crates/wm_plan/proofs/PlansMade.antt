-- The plan of a run's options, by their values.
use Rattle.std.proofs.Common.{◌≡◌, ◌∙◌, ℕ, true, cond, List, [], codes, Option, Some, None, ap, sym}
use Rattle.wm_plan.specs.Options.{are_given, joined, value_of}
use Rattle.wm_plan.specs.Plans.{ctl_said, limit_said, made_run, offset_said, planned, run_names, run_plan, store_said, user_said}
use Rattle.wm_plan.specs.declared.plan.RunPlan.{RunPlan}

abbrev Text : Type 0
Text = List ℕ

values_made : (options : List Text) (store ctl user offset limit : Option Text) → store ≡ value_of (codes "store") options → ctl ≡ value_of (codes "ctl") options
    → user ≡ value_of (codes "user") options → offset ≡ value_of (codes "offset") options → limit ≡ value_of (codes "log-limit") options
    → made_run (store_said store) (ctl_said ctl) (user_said user) (offset_said offset) (limit_said limit) ≡ run_plan options
values_made options store ctl user offset limit s t u o l =
    ap (λ v. made_run (store_said v) (ctl_said ctl) (user_said user) (offset_said offset) (limit_said limit)) s
    ∙ ap (λ v. made_run (store_said (value_of (codes "store") options)) (ctl_said v) (user_said user) (offset_said offset) (limit_said limit)) t
    ∙ ap (λ v. made_run (store_said (value_of (codes "store") options)) (ctl_said (value_of (codes "ctl") options)) (user_said v) (offset_said offset) (limit_said limit)) u
    ∙ ap (λ v. made_run (store_said (value_of (codes "store") options)) (ctl_said (value_of (codes "ctl") options)) (user_said (value_of (codes "user") options)) (offset_said v) (limit_said limit)) o
    ∙ ap (λ v. made_run (store_said (value_of (codes "store") options)) (ctl_said (value_of (codes "ctl") options)) (user_said (value_of (codes "user") options)) (offset_said (value_of (codes "offset") options)) (limit_said v)) l

-- it is planned where the options are given and the values make it
pub run_made : (words options : List Text) (store ctl user offset limit : Option Text) (plan : RunPlan) → joined words ≡ Some options → are_given run_names [] options ≡ true
    → store ≡ value_of (codes "store") options → ctl ≡ value_of (codes "ctl") options → user ≡ value_of (codes "user") options → offset ≡ value_of (codes "offset") options
    → limit ≡ value_of (codes "log-limit") options → made_run (store_said store) (ctl_said ctl) (user_said user) (offset_said offset) (limit_said limit) ≡ Some plan
    → planned run_names run_plan (joined words) ≡ Some plan
run_made words options store ctl user offset limit plan are given s t u o l made =
    ap (planned run_names run_plan) are ∙ ap (λ b. cond b (run_plan options) None) given ∙ sym (values_made options store ctl user offset limit s t u o l) ∙ made
