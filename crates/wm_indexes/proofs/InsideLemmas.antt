-- What stays true of the parts of a `JobNames`.
use Rattle.std.proofs.Common.{◌≡◌, ◌^◌, ◌<◌, Bool, List, count_by, unwrap_or, ap, sym, ◌∙◌, subst}
use Rattle.std.specs.Map.{lookup}
use Rattle.wm_law.specs.declared.command.JobRef.{JobRef}
use Rattle.wm_law.specs.declared.command.JobRef.TheVariants.{Simple, ByUser, Full}
use Rattle.wm_law.specs.declared.job.Job.{Job}
use Rattle.wm_indexes.specs.declared.keys.FullName.{FullName}
use Rattle.wm_indexes.specs.declared.namesakes.Namesakes.{Namesakes}
use Rattle.wm_indexes.specs.FullNames.{serial_of, is_of, is_row, AreInOrder}
use Rattle.wm_indexes.specs.Namesakes.{nobody, namesakes_among, HaveJobs}
use Rattle.wm_indexes.specs.Names.{Names, IsNames, same_by_user, same_simple, namesakes_of}
use Rattle.wm_indexes.specs.NamesInside.{HasPlaces, IsNamesInside}
use Rattle.wm_indexes.specs.declared.names.JobNames.TheInside.{Inside}

-- each key finds the same
abbrev pub FindSame : {K : Type 0} → (K → K → Bool) → List (K × Namesakes) → List (K × Namesakes) → Type 0
FindSame {K} eq old new = (key : K) → lookup (eq key) new ≡ lookup (eq key) old

have-same : {K : Type 0} (eq : K → K → Bool) (old new : List (K × Namesakes)) → FindSame eq old new → HaveJobs eq old → HaveJobs eq new
have-same eq old new same have key row found = have key row (sym (same key) ∙ found)

-- rows that find the same, with other places
pub same-rows : (old new : Inside) → new.full.items ≡ old.full.items → FindSame same_by_user old.by_user.entries new.by_user.entries → FindSame same_simple old.simple.entries new.simple.entries → HasPlaces new → IsNamesInside old → IsNamesInside new
same-rows old new full by_user simple places inside = record {
  places = places;
  in_order = subst (λ rows. AreInOrder rows) (sym full) inside.in_order;
  counted = λ job. subst (λ rows. count_by (is_of job) rows < 2 ^ 32) (sym full) (inside.counted job);
  by_user = have-same same_by_user old.by_user.entries new.by_user.entries by_user inside.by_user;
  simple = have-same same_simple old.simple.entries new.simple.entries simple inside.simple;
}

-- they are the names of the same jobs
pub same-names : (old new : Names) → new.rows.full ≡ old.rows.full → FindSame same_by_user old.rows.by_user new.rows.by_user → FindSame same_simple old.rows.simple new.rows.simple → (jobs : List Job) → IsNames jobs old → IsNames jobs new
same-names old new full by_user simple jobs are = record { serials = are.serials; rows = λ r. row r ∙ are.rows r; each = λ x. ap (λ (rows : List FullName). count_by (is_row x) rows) full ∙ are.each x }
  where
    row : (r : JobRef) → namesakes_of r new.rows ≡ namesakes_of r old.rows
    row (Simple name) = ap (λ o. unwrap_or o nobody) (simple (record { name = name }))
    row (ByUser user name) = ap (λ o. unwrap_or o nobody) (by_user (record { user = user; name = name }))
    row (Full job) = ap (λ (rows : List FullName). namesakes_among serial_of (is_of job) rows) full
