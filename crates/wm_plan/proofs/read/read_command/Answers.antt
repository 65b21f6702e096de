use Rattle.std.proofs.Common.{◌∙◌, ap, codes, cond, map, None, Option, sym}
use Rattle.std.specs.Option.{option_map}
use Rattle.std.specs.Prelude.{string_bytes}
use Rattle.std.specs.Str.{bytes_eq}
use Rattle.wm_plan.specs.Options.{joined}
use Rattle.wm_plan.specs.Plans.{drill_names, drill_plan, planned, run_names, run_plan, serve_names, serve_plan}
use Rattle.wm_plan.specs.declared.plan.Plan.{Plan}
use Rattle.wm_plan.specs.declared.plan.Plan.TheVariants.{Run, Serve, Drill}
use Rattle.wm_plan.proofs.read.read_command.Goals as goal

pub returns-clause-bad : goal.returns-clause-bad
returns-clause-bad c _ =
    let words = map string_bytes c.args.words.now in
    let run : Option Plan = option_map Run (planned run_names run_plan (joined words)) in
    let serve : Option Plan = option_map Serve (planned serve_names serve_plan (joined words)) in
    let drill : Option Plan = option_map Drill (planned drill_names drill_plan (joined words)) in
    let is_drill = bytes_eq c.args.command.now (codes "drill") in
    ap (λ b. cond b run (cond (bytes_eq c.args.command.now (codes "serve")) serve (cond is_drill drill None))) (sym c.eq.ensures ∙ c.if-eq.false)
    ∙ ap (λ b. cond b serve (cond is_drill drill None)) (sym c.eq-2.ensures ∙ c.if-eq-2.false)
    ∙ ap (λ b. cond b drill None) (sym c.eq-3.ensures ∙ c.if-eq-3.false)
