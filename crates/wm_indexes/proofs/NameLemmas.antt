-- Of which jobs rows are the names when a job joins them, ends, joins them again or is forgotten.
use Rattle.std.proofs.Common.{◌≡◌, ℕ, ◌+◌, ◌^◌, ◌<◌, Bool, true, false, cond, not, ◌&&◌, List, [], ◌∷◌, ◌++◌, length, filter, count_by, ap, sym, ◌∙◌, subst, arith}
use Rattle.wm_base.specs.declared.job.JobName.{JobName}
use Rattle.wm_base.proofs.Tests.{bytes-itself}
use Rattle.wm_law.specs.declared.command.JobRef.{JobRef}
use Rattle.wm_law.specs.declared.command.JobRef.TheVariants.{Simple, ByUser, Full}
use Rattle.wm_law.specs.declared.job.Job.{Job}
use Rattle.wm_law.specs.Named.{is_ended, is_named, has_name, has_user_name, only_one}
use Rattle.wm_indexes.specs.declared.keys.FullName.{FullName}
use Rattle.wm_indexes.specs.declared.keys.SimpleName.{SimpleName}
use Rattle.wm_indexes.specs.declared.keys.UserName.{UserName}
use Rattle.wm_indexes.specs.declared.namesakes.Namesakes.{Namesakes}
use Rattle.wm_indexes.specs.FullNames.{serial_of, is_of, is_row, same_name}
use Rattle.wm_indexes.specs.Namesakes.{joined, parted, namesakes_at, namesakes_among, AreFew, IsAmong, only}
use Rattle.wm_indexes.specs.Names.{Names, IsNames, same_simple, same_by_user, namesakes_of, namesakes_in, has_row, serial_of_one}
use Rattle.wm_indexes.specs.Refs.{simple_name_of, user_name_of}
use Rattle.wm_indexes.proofs.EachRow.{each-push, each-replaced}
use Rattle.wm_indexes.proofs.JobLemmas.{job_serial, total-middle, total-push, total-pop, total-pass, total-parted, total-among, total-few, total-only, small-replaced, small-middle, small-push, small-front}

-- rows of few jobs have room for one more
module _ (names : Names) (jobs : List Job) (are : IsNames jobs names) where
  few_row : (r : JobRef) → length jobs + 1 < 2 ^ 32 → (namesakes_of r names.rows).count + 1 < 2 ^ 32
  few_row r few =
      let count = ap (λ (n : Namesakes). n.count) (are.rows r) in
      omega (arith, count, total-few job_serial (is_named r) jobs, few)

  pub few_simple : length jobs + 1 < 2 ^ 32 → AreFew same_simple names.rows.simple
  few_simple few = λ name. few_row (Simple name.name) few

  pub few_by_user : length jobs + 1 < 2 ^ 32 → AreFew same_by_user names.rows.by_user
  few_by_user few = λ name. few_row (ByUser name.user name.name) few

  -- the rows of a full name can be counted, where the jobs can
  pub few_full : length jobs < 2 ^ 32 → (job : JobName) → count_by (is_of job) names.rows.full < 2 ^ 32
  few_full few job =
      let count = ap (λ (n : Namesakes). n.count) (are.rows (Full job)) in
      omega (arith, count, total-few job_serial (is_named (Full job)) jobs, few)

  -- what a reference names by the rows is what it names among the jobs
  pub only-named : (r : JobRef) → only (namesakes_of r names.rows) ≡ serial_of_one (only_one (filter (is_named r) jobs))
  only-named r = ap only (are.rows r) ∙ total-only (is_named r) jobs are.serials

-- a job that hasn't ended is named by its own names
module _ (j : Job) (lasts : is_ended j.phase ≡ false) where
  simple-named : is_named (Simple j.job.name) j ≡ true
  simple-named = ap (λ (b : Bool). not b && has_name j.job.name j.job) lasts ∙ bytes-itself j.job.name

  by_user-named : is_named (ByUser j.job.user j.job.name) j ≡ true
  by_user-named =
      ap (λ (b : Bool). not b && has_user_name j.job.user j.job.name j.job) lasts
      ∙ (ap (λ (b : Bool). b && has_name j.job.name j.job) (bytes-itself j.job.user) ∙ bytes-itself j.job.name)

  module _ (names : Names) (before behind : List Job) (are : IsNames (before ++ j ∷ behind) names) where
    named : (r : JobRef) → is_named r j ≡ true → IsAmong j.serial (namesakes_of r names.rows)
    named r h = subst (λ (n : Namesakes). IsAmong j.serial n) (sym (are.rows r)) (total-among job_serial (is_named r) before j behind (small-middle before j behind are.serials) h)

    pub named_simple : IsAmong j.serial (namesakes_at same_simple (simple_name_of j) names.rows.simple)
    named_simple = named (Simple j.job.name) simple-named

    pub named_by_user : IsAmong j.serial (namesakes_at same_by_user (user_name_of j) names.rows.by_user)
    named_by_user = named (ByUser j.job.user j.job.name) by_user-named

-- a job that has ended is named by its full name alone
module _ (j : Job) (ended : is_ended j.phase ≡ true) where
  unnamed_simple : (name : List ℕ) → is_named (Simple name) j ≡ false
  unnamed_simple name = ap (λ (b : Bool). not b && has_name name j.job) ended

  unnamed_by_user : (user name : List ℕ) → is_named (ByUser user name) j ≡ false
  unnamed_by_user user name = ap (λ (b : Bool). not b && has_user_name user name j.job) ended

-- full names have the same jobs where another of the same full name and serial stands in the place of one
full-replaced : (before : List Job) (j k : Job) (behind : List Job) → k.serial ≡ j.serial → k.job ≡ j.job → (name : JobName) → namesakes_in (Full name) (before ++ j ∷ behind) ≡ namesakes_in (Full name) (before ++ k ∷ behind)
full-replaced before j k behind serial job name =
    let others : Namesakes = namesakes_in (Full name) (before ++ behind) in
    total-middle job_serial (is_named (Full name)) before j behind
    ∙ (ap (λ (s : ℕ). joined (same_name j.job name) s others) (sym serial)
    ∙ (ap (λ (n : JobName). joined (same_name n name) k.serial others) (sym job) ∙ sym (total-middle job_serial (is_named (Full name)) before k behind)))

module _ (old new : Names) (j : Job) where
  -- a job joins the rows of the references that name it
  pub added-names : ((job : JobName) → namesakes_among serial_of (is_of job) new.rows.full ≡ joined (same_name j.job job) j.serial (namesakes_among serial_of (is_of job) old.rows.full))
      → ((x : FullName) → count_by (is_row x) new.rows.full ≡ count_by (is_row x) old.rows.full + cond (has_row x j) 1 0)
      → ((name : UserName) → namesakes_at same_by_user name new.rows.by_user ≡ joined (is_named (ByUser name.user name.name) j) j.serial (namesakes_at same_by_user name old.rows.by_user))
      → ((name : SimpleName) → namesakes_at same_simple name new.rows.simple ≡ joined (is_named (Simple name.name) j) j.serial (namesakes_at same_simple name old.rows.simple))
      → j.serial < 2 ^ 64 → (jobs : List Job) → IsNames jobs old → IsNames (jobs ++ j ∷ []) new
  added-names full each by_user simple small jobs are = record {
    serials = small-push jobs j small are.serials;
    rows = λ r. row r ∙ (ap (λ (n : Namesakes). joined (is_named r j) j.serial n) (are.rows r) ∙ sym (total-push job_serial (is_named r) jobs j));
    each = λ x. each x ∙ (ap (λ (n : ℕ). n + cond (has_row x j) 1 0) (are.each x) ∙ sym (each-push jobs j x));
  }
    where
      row : (r : JobRef) → namesakes_of r new.rows ≡ joined (is_named r j) j.serial (namesakes_of r old.rows)
      row (Simple name) = simple (record { name = name })
      row (ByUser user name) = by_user (record { user = user; name = name })
      row (Full job) = full job

  -- the last job, which has ended, leaves the rows of full names
  pub forgotten-names : ((name : JobName) → namesakes_among serial_of (is_of name) new.rows.full ≡ parted (same_name j.job name) j.serial (namesakes_among serial_of (is_of name) old.rows.full))
      → ((x : FullName) → count_by (is_row x) new.rows.full + cond (has_row x j) 1 0 ≡ count_by (is_row x) old.rows.full)
      → new.rows.by_user ≡ old.rows.by_user → new.rows.simple ≡ old.rows.simple
      → is_ended j.phase ≡ true → (jobs : List Job) → IsNames (jobs ++ j ∷ []) old → IsNames jobs new
  forgotten-names full each by_user simple ended jobs are = record {
    serials = small-front jobs j are.serials;
    rows = row;
    each = λ x. omega (arith, each x, are.each x, each-push jobs j x);
  }
    where
      unnamed : (r : JobRef) → is_named r j ≡ false → namesakes_of r old.rows ≡ namesakes_in r jobs
      unnamed r none = are.rows r ∙ (total-push job_serial (is_named r) jobs j ∙ ap (λ (b : Bool). joined b j.serial (namesakes_in r jobs)) none)

      row : (r : JobRef) → namesakes_of r new.rows ≡ namesakes_in r jobs
      row (Simple name) = ap (λ rows. namesakes_at same_simple (record { name = name }) rows) simple ∙ unnamed (Simple name) (unnamed_simple j ended name)
      row (ByUser user name) = ap (λ rows. namesakes_at same_by_user (record { user = user; name = name }) rows) by_user ∙ unnamed (ByUser user name) (unnamed_by_user j ended user name)
      row (Full name) =
          full name
          ∙ (ap (λ (n : Namesakes). parted (same_name j.job name) j.serial n) (are.rows (Full name)) ∙ total-pop job_serial (is_named (Full name)) jobs j (small-middle jobs j [] are.serials))

  module _ (full : new.rows.full ≡ old.rows.full) (before behind : List Job) (ended : Job) (serial : ended.serial ≡ j.serial) (job : ended.job ≡ j.job) (ends : is_ended ended.phase ≡ true) where
    -- a job that ends leaves the rows of the references without its number
    pub ended-names : ((name : UserName) → namesakes_at same_by_user name new.rows.by_user ≡ parted (is_named (ByUser name.user name.name) j) j.serial (namesakes_at same_by_user name old.rows.by_user))
        → ((name : SimpleName) → namesakes_at same_simple name new.rows.simple ≡ parted (is_named (Simple name.name) j) j.serial (namesakes_at same_simple name old.rows.simple))
        → IsNames (before ++ j ∷ behind) old → IsNames (before ++ ended ∷ behind) new
    ended-names by_user simple are = record {
      serials = small-replaced before j ended behind serial are.serials;
      rows = row;
      each = λ x. ap (λ rows. count_by (is_row x) rows) full ∙ (are.each x ∙ each-replaced before j ended behind serial job x);
    }
      where
        -- the rows are those of the others, where a reference doesn't name a job that has ended
        open_row : (r : JobRef) → is_named r ended ≡ false → namesakes_of r new.rows ≡ parted (is_named r j) j.serial (namesakes_of r old.rows) → namesakes_of r new.rows ≡ namesakes_in r (before ++ ended ∷ behind)
        open_row r none left =
            left
            ∙ (ap (λ (n : Namesakes). parted (is_named r j) j.serial n) (are.rows r)
            ∙ (total-parted job_serial (is_named r) before j behind (small-middle before j behind are.serials) ∙ sym (total-pass job_serial (is_named r) before ended behind none)))

        row : (r : JobRef) → namesakes_of r new.rows ≡ namesakes_in r (before ++ ended ∷ behind)
        row (Simple name) = open_row (Simple name) (unnamed_simple ended ends name) (simple (record { name = name }))
        row (ByUser user name) = open_row (ByUser user name) (unnamed_by_user ended ends user name) (by_user (record { user = user; name = name }))
        row (Full name) = ap (λ rows. namesakes_among serial_of (is_of name) rows) full ∙ (are.rows (Full name) ∙ full-replaced before j ended behind serial job name)

    -- a job that had ended joins the rows of the references without its number
    pub rejoined-names : ((name : UserName) → namesakes_at same_by_user name new.rows.by_user ≡ joined (is_named (ByUser name.user name.name) j) j.serial (namesakes_at same_by_user name old.rows.by_user))
        → ((name : SimpleName) → namesakes_at same_simple name new.rows.simple ≡ joined (is_named (Simple name.name) j) j.serial (namesakes_at same_simple name old.rows.simple))
        → IsNames (before ++ ended ∷ behind) old → IsNames (before ++ j ∷ behind) new
    rejoined-names by_user simple are = record {
      serials = small-replaced before ended j behind (sym serial) are.serials;
      rows = row;
      each = λ x. ap (λ rows. count_by (is_row x) rows) full ∙ (are.each x ∙ each-replaced before ended j behind (sym serial) (sym job) x);
    }
      where
        open_row : (r : JobRef) → is_named r ended ≡ false → namesakes_of r new.rows ≡ joined (is_named r j) j.serial (namesakes_of r old.rows) → namesakes_of r new.rows ≡ namesakes_in r (before ++ j ∷ behind)
        open_row r none joins =
            joins
            ∙ (ap (λ (n : Namesakes). joined (is_named r j) j.serial n) (are.rows r ∙ total-pass job_serial (is_named r) before ended behind none)
            ∙ sym (total-middle job_serial (is_named r) before j behind))

        row : (r : JobRef) → namesakes_of r new.rows ≡ namesakes_in r (before ++ j ∷ behind)
        row (Simple name) = open_row (Simple name) (unnamed_simple ended ends name) (simple (record { name = name }))
        row (ByUser user name) = open_row (ByUser user name) (unnamed_by_user ended ends user name) (by_user (record { user = user; name = name }))
        row (Full name) = ap (λ rows. namesakes_among serial_of (is_of name) rows) full ∙ (are.rows (Full name) ∙ full-replaced before ended j behind (sym serial) (sym job) name)
