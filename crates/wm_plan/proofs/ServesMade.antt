-- The plan of a server's options, by their values.
use Rattle.std.proofs.Common.{◌≡◌, ◌∙◌, ℕ, true, cond, List, [], codes, Option, Some, None, refl, ap, sym}
use Rattle.wm_plan.specs.Options.{are_given, joined, value_of}
use Rattle.wm_plan.specs.Plans.{ctl_said, limit_said, listen_said, made_serve, monitors_said, offset_said, planned, serve_names, serve_plan, store_said, workers_said}
use Rattle.wm_plan.specs.declared.plan.ServePlan.{ServePlan}

abbrev Text : Type 0
Text = List ℕ

-- the values are those of the options
pub record AreServed (options : List Text) (listen workers monitors store ctl offset limit : Option Text) : Type 0 where
  pub at_listen : listen ≡ value_of (codes "listen") options
  pub at_workers : workers ≡ value_of (codes "workers") options
  pub at_monitors : monitors ≡ value_of (codes "monitors") options
  pub at_store : store ≡ value_of (codes "store") options
  pub at_ctl : ctl ≡ value_of (codes "ctl") options
  pub at_offset : offset ≡ value_of (codes "offset") options
  pub at_limit : limit ≡ value_of (codes "log-limit") options

values_made : (options : List Text) (listen workers monitors store ctl offset limit : Option Text) → AreServed options listen workers monitors store ctl offset limit
    → made_serve (listen_said listen) (workers_said workers) (monitors_said monitors) (store_said store) (ctl_said ctl) (offset_said offset) (limit_said limit) ≡ serve_plan options
values_made options listen workers monitors store ctl offset limit at =
    rw at.at_listen rw at.at_workers rw at.at_monitors rw at.at_store rw at.at_ctl rw at.at_offset rw at.at_limit refl

-- it is planned where the options are given and the values make it
pub serve_made : (words options : List Text) (listen workers monitors store ctl offset limit : Option Text) (plan : ServePlan) → joined words ≡ Some options
    → are_given serve_names [] options ≡ true → AreServed options listen workers monitors store ctl offset limit
    → made_serve (listen_said listen) (workers_said workers) (monitors_said monitors) (store_said store) (ctl_said ctl) (offset_said offset) (limit_said limit) ≡ Some plan
    → planned serve_names serve_plan (joined words) ≡ Some plan
serve_made words options listen workers monitors store ctl offset limit plan are given at made =
    ap (planned serve_names serve_plan) are ∙ ap (λ b. cond b (serve_plan options) None) given ∙ sym (values_made options listen workers monitors store ctl offset limit at) ∙ made
