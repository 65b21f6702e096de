-- The text of the load is a query, whatever the schema is.
use Rattle.std.proofs.Common.{◌≡◌, refl, sym, subst, ℕ, ◌+◌, Bool, true, false, cond, Option, None, Ok, Err}
use Rattle.sqlite_ast.specs.declared.Statement.{Statement}
use Rattle.sqlite_ast.specs.declared.Statement.TheVariants as written
use Rattle.sqlite_syntax.specs.declared.statement.Parsed.{Parsed}
use Rattle.sqlite_schema.specs.declared.command.Command.{Command}
use Rattle.sqlite_schema.specs.declared.command.Returning.{Returning}
use Rattle.sqlite_schema.specs.declared.schema.Schema.{Schema}
use Rattle.sqlite_resolve.specs.declared.compiled.Compiled.{Compiled}
use Rattle.sqlite_resolve.specs.declared.error.CompileError.TheVariants.{NoSuchTable}
use Rattle.sqlite_resolve.specs.Lowering.{Checked, and_then}
use Rattle.sqlite_resolve.specs.Compile.{first, compiled, planned, meaning, returning, command, timed, small, with_command}
use Rattle.sqlite_tied.specs.Compute.{everything}
use Rattle.sqlite.specs.Listing.{understood, reads_listing, is_select as is_query, if_select, listing_schema}
use Rattle.sqlite.specs.Given.{Returns}
use Rattle.wm_sqlkeep.specs.Causes.{load_text}

abbrev is_select : Statement → Bool
is_select (written.Select s) = true
is_select _ = false

abbrev Asks : Checked Parsed → Type 0
Asks (Ok p) = is_select p.statement ≡ true
Asks (Err e) = Unit {0}

returns_none : (schema : Schema) (base : ℕ) (s : Statement) → is_select s ≡ true → returning schema base s ≡ Ok None
unfolding returning
returns_none schema base (written.Select s) asks = refl
returns_none schema base _ asks = absurd cc

plan_returns_none : (schema : Schema) (p : Parsed) → is_select p.statement ≡ true → ¬ Returns (and_then (planned schema p) (λ plan. Ok (with_command p plan)))
unfolding planned meaning
plan_returns_none schema p asks =
    let formats = timed schema p.formats p.statement in
    let base = small p.names + small formats in
    let P = λ (shown : Checked (Option Returning)). ¬ Returns (and_then (and_then (and_then shown (λ s. and_then (command schema p.formats base p.statement) (λ c. Ok (c, s)))) (λ found. Ok (formats, found))) (λ plan. Ok (with_command p plan))) in
    let Q = λ (c : Checked Command). ¬ Returns (and_then (and_then (and_then c (λ c. Ok (c, None))) (λ found. Ok (formats, found))) (λ plan. Ok (with_command p plan))) in
    subst P (sym (returns_none schema base p.statement asks)) (elim (command schema p.formats base p.statement) as Q [ Ok c ↦ λ some. absurd cc | Err e ↦ λ some. some ])

compiled_returns_none : (schema : Schema) (r : Checked Parsed) → Asks r → ¬ Returns (and_then r (λ p. and_then (planned schema p) (λ plan. Ok (with_command p plan))))
compiled_returns_none schema (Ok p) asks = plan_returns_none schema p asks
compiled_returns_none schema (Err e) asks = λ some. some

asks : Asks (first load_text)
unfolding everything
asks = refl

query_returns_none : (r : Checked Compiled) → ¬ Returns r → ¬ Returns (if_select r)
query_returns_none (Err e) none = λ some. some
query_returns_none (Ok c) none = elim (is_query c.command) as (λ b. ¬ Returns (cond b (Ok c) (Err NoSuchTable))) [ true ↦ none | false ↦ λ some. some ]

pub load_asks : (schema : Schema) → ¬ Returns (understood schema load_text)
unfolding understood compiled
load_asks schema =
    elim (reads_listing schema load_text) as (λ b. ¬ Returns (cond b (if_select (compiled listing_schema load_text)) (compiled schema load_text))) [
      | true ↦ query_returns_none (compiled listing_schema load_text) (compiled_returns_none listing_schema (first load_text) asks)
      | false ↦ compiled_returns_none schema (first load_text) asks
    ]
