-- Which route a request has.
use Rattle.std.specs.Prelude.{ℕ, Bool, List, [], codes, nat_eq, Option, Some, None, option_map, Result, Ok, Err, if◌then◌else◌}
use Rattle.std.specs.List.{list_all}
use Rattle.std.specs.Cmp.Lexicographic.{pointwise}
use Rattle.matchit.specs.Order.{placed}
use Rattle.matchit.specs.Route.{Scan, parse_route}
use Rattle.matchit.specs.Router.{RouteOf, route_from}
use Rattle.matchit.specs.Rows.{RowsOf}
use Rattle.matchit.specs.Seek.{first}
use Rattle.matchit.specs.declared.error.InsertError.{InsertError}
use Rattle.wm_law.specs.declared.command.Ask.TheVariants as ask
use Rattle.wm_law.specs.declared.command.JobRef.TheVariants.{Full}
use Rattle.wm_http.specs.Answers.{method_name}
use Rattle.wm_http.specs.declared.answer.Method.{Method}
use Rattle.wm_http.specs.declared.answer.Method.TheVariants.{Get, Post}
use Rattle.wm_http.specs.Parts.{is_ascii, job_in, name_in, number_in, part, path_of, qname_in}
use Rattle.wm_http.specs.declared.pattern.Pattern.{Pattern}
use Rattle.wm_http.specs.declared.pattern.Pattern.TheVariants.{Commands, Active, Subsystems, Log, Queue, Submitted, Job}
use Rattle.wm_http.specs.declared.route.Route.{Route}
use Rattle.wm_http.specs.declared.route.Route.TheVariants.{Command, Read, NoRoute, WrongMethod}

-- the rows of a router
abbrev pub Known : Type 0
Known = RowsOf (RouteOf Pattern)

-- the rows with one more pattern, read from its text
abbrev pub with_read : Result Scan InsertError → Pattern → Known → Known
with_read (Ok scan) pattern rows = placed (scan.pattern, route_from scan pattern) rows
with_read (Err error) pattern rows = rows

abbrev pub with_route : List ℕ → Pattern → Known → Known
with_route text pattern rows = with_read (parse_route text) pattern rows

-- the patterns of all paths, as `matchit` keeps them
unfoldable pub known_routes : Known
known_routes =
    with_route (codes "/jobs/{number}/{user}/{name}") Job
    (with_route (codes "/users/{user}/jobs") Submitted
    (with_route (codes "/queues/{lib}/{name}") Queue
    (with_route (codes "/log") Log
    (with_route (codes "/subsystems") Subsystems
    (with_route (codes "/active") Active
    (with_route (codes "/users/{user}/commands") Commands []))))))

-- the one method of a pattern
abbrev pub method_of : Pattern → Method
method_of Commands = Post
method_of Active = Get
method_of Subsystems = Get
method_of Log = Get
method_of Queue = Get
method_of Submitted = Get
method_of Job = Get

-- what a path of a pattern asks, where its parts are names and numbers
abbrev pub asked : Pattern → List ℕ → Option Route
asked Commands path = option_map Command (name_in (part 2 path))
asked Active path = Some (Read ask.Active)
asked Subsystems path = Some (Read ask.Subsystems)
asked Log path = Some (Read ask.Log)
asked Queue path = option_map (λ jobq. Read (ask.Queue jobq)) (qname_in (name_in (part 2 path)) (name_in (part 3 path)))
asked Submitted path = option_map (λ user. Read (ask.Submitted user)) (name_in (part 2 path))
asked Job path = option_map (λ job. Read (ask.Job (Full job))) (job_in (number_in (part 2 path)) (name_in (part 3 path)) (name_in (part 4 path)))

-- the same bytes
abbrev pub same_bytes : List ℕ → List ℕ → Bool
same_bytes a b = pointwise nat_eq a b

-- a bad part goes before a wrong method
abbrev pub by_method : List ℕ → Method → Option Route → Route
by_method method wanted None = NoRoute
by_method method wanted (Some route) = if same_bytes method (method_name wanted) then route else WrongMethod wanted

-- what a request of a pattern asks
abbrev pub of_pattern : List ℕ → List ℕ → Pattern → Route
of_pattern method path pattern = by_method method (method_of pattern) (asked pattern path)

abbrev pub of_row : List ℕ → List ℕ → Option (RouteOf Pattern) → Route
of_row method path None = NoRoute
of_row method path (Some row) = of_pattern method path row.value

-- what a request asks by its method and its target; a path with a byte past ASCII has no route
abbrev pub route_of : List ℕ → List ℕ → Route
route_of method target =
    if list_all is_ascii (path_of target) then of_row method (path_of target) (first known_routes (path_of target)) else NoRoute
