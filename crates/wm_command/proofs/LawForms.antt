-- A command that keeps the forms and ranges of the table keeps those that the machine asks of its calls.
use Rattle.std.proofs.Common.{◌≡◌, ℕ, true, List, length, Option, Some, None, IfSome, IsTrue, subst, refl, arith}
use Rattle.std.specs.Prelude.{slice_index_or}
use Rattle.std.specs.List.{list_all}
use Rattle.std.proofs.lemmas.Bool.Decides.{nat_tests}
use Rattle.std.proofs.lemmas.Bool.{and_from}
use Rattle.wm_base.specs.Name.{IsName}
use Rattle.wm_base.specs.Text.{IsText}
use Rattle.wm_base.specs.declared.limit.Limit.{Limit}
use Rattle.wm_base.specs.declared.limit.Limit.TheVariants.{NoMax, Most}
use Rattle.wm_base.specs.declared.qname.QName.{QName}
use Rattle.wm_base.specs.declared.refusal.Key.TheVariants as key
use Rattle.wm_desc.specs.Ranges.{limit_within, request_in_range, cmp_in_range}
use Rattle.wm_desc.specs.declared.entry.Cmp.{Cmp}
use Rattle.wm_desc.specs.declared.entry.Cmp.TheVariants.{Any, Val}
use Rattle.wm_law.specs.Fit.{IsCommand, IsQName, IsTextOf, IsBetween, IsJobRef, IsCompared}
use Rattle.wm_law.specs.declared.command.Command.{Command}
use Rattle.wm_law.specs.declared.command.Command.TheVariants as command
use Rattle.wm_law.specs.declared.command.JobRef.{JobRef}
use Rattle.wm_law.specs.declared.command.JobRef.TheVariants.{Simple, ByUser, Full}
use Rattle.wm_when.specs.Schedule.{within, date_in_range, time_in_range}
use Rattle.wm_command.specs.declared.row.Default.TheVariants as default
use Rattle.wm_command.specs.declared.row.Row.{Row}
use Rattle.wm_command.specs.declared.row.Kind.{Kind}
use Rattle.wm_command.specs.declared.row.Kind.TheVariants as kind
use Rattle.wm_command.specs.declared.row.Special.{Special}
use Rattle.wm_command.specs.declared.row.Special.TheVariants as special
use Rattle.wm_command.specs.declared.value.Value.{Value}
use Rattle.wm_command.specs.declared.value.Value.TheVariants as value
use Rattle.wm_command.specs.Words.{FitsJob}
use Rattle.wm_command.specs.Printed.{IsQualified, FitsCompare, FitsRow, IsFit}
use Rattle.wm_command.specs.Fields.{limit_value, or_special}
use Rattle.wm_command.specs.Objects.{crtcls_values, crtpgmref_values, crtjobd_values, crtsbsd_values}
use Rattle.wm_command.specs.Entries.{addjobqe_values, addrtge_values, addaje_values, addpje_values, rmvjobqe_values, rmvrtge_values, rmvaje_values, rmvpje_values}
use Rattle.wm_command.specs.Control.{endsbs_values, strpj_values, endpj_values, evoke_values, pwrdwnsys_values}
use Rattle.wm_command.specs.Jobs.{sbmjob_values, chgjob_values, endjob_values}
use Rattle.wm_command.specs.Table.{or_word, change_rows}
use Rattle.wm_command.proofs.Back.{nine_are}

qualified : (q : QName) → IsQualified q → IsQName q
qualified q h = record { lib = h.0; name = h.1 }

between : (low high n : ℕ) → IsTrue (within low high n) → IsBetween low high n
between low high n h = record { least = grind (arith, nat_tests); most = grind (arith, nat_tests) }

text : (low high : ℕ) (t : List ℕ) → IsText t × IsTrue (within low high (length t)) → IsTextOf low high t
text low high t h = let range = between low high (length t) h.1 in record { text = h.0; least = range.least; most = range.most }

job : (j : JobRef) → FitsJob j → IsJobRef j
job (Simple name) h = h
job (ByUser user name) h = h
job (Full j) h = record { number = between 1 999999 j.number h.0; user = h.1; name = h.2 }

-- a row with this special word, whatever its key and its default
abbrev row : Kind → Special → Row
row k s = or_word key.Cls k s default.Required

limit : (low high : ℕ) (l : Limit) → FitsRow (row (kind.Number low high) special.Nomax) (limit_value l) → limit_within low high l ≡ true
limit low high NoMax h = refl
limit low high (Most n) h = h

-- a field that may be left out
held_if : {V : Type 0} (P : V → Type 0) (made : V → Value) (k : Kind) (s : Special) (o : Option V) → ((x : V) → FitsRow (row k s) (made x) → P x)
    → FitsRow (row k s) (or_special s made o) → IfSome o P
held_if P made k s None f h = tt
held_if P made k s (Some x) f h = f x h

number_if : (s : Special) (low high : ℕ) (o : Option ℕ) → FitsRow (row (kind.Number low high) s) (or_special s value.Number o) → IfSome o (IsBetween low high)
number_if s low high o h = held_if (IsBetween low high) value.Number (kind.Number low high) s o (between low high) h

text_if : (low high : ℕ) (o : Option (List ℕ)) → FitsRow (row (kind.Text low high) special.Jobd) (or_special special.Jobd value.Text o) → IfSome o (IsTextOf low high)
text_if low high o h = held_if (IsTextOf low high) value.Text (kind.Text low high) special.Jobd o (text low high) h

object_if : (s : Special) (o : Option QName) → FitsRow (row kind.Object s) (or_special s value.Object o) → IfSome o IsQName
object_if s o h = held_if IsQName value.Object kind.Object s o qualified h

-- the request of a job description
request_text : (o : Option (List ℕ)) → FitsRow (row (kind.Text 0 1000) special.None) (or_special special.None value.Text o) → IfSome o IsText
request_text None h = tt
request_text (Some t) h = h.0

request_range : (o : Option (List ℕ)) → FitsRow (row (kind.Text 0 1000) special.None) (or_special special.None value.Text o) → request_in_range o ≡ true
request_range None h = refl
request_range (Some t) h = let range = (between 0 1000 (length t) h.1).most in grind (arith, nat_tests)

compared : (c : Cmp) → FitsCompare c → IsCompared c
compared Any h = tt
compared (Val t start) h = h.0

compared_range : (c : Cmp) → FitsCompare c → cmp_in_range c ≡ true
compared_range Any h = refl
compared_range (Val t start) h = h.1

-- each of nine limits is in its range, and so are all
nine : (l : List Limit) → length l ≡ 9
    → limit_within 0 99 (slice_index_or l 0 NoMax) ≡ true → limit_within 0 99 (slice_index_or l 1 NoMax) ≡ true → limit_within 0 99 (slice_index_or l 2 NoMax) ≡ true
    → limit_within 0 99 (slice_index_or l 3 NoMax) ≡ true → limit_within 0 99 (slice_index_or l 4 NoMax) ≡ true → limit_within 0 99 (slice_index_or l 5 NoMax) ≡ true
    → limit_within 0 99 (slice_index_or l 6 NoMax) ≡ true → limit_within 0 99 (slice_index_or l 7 NoMax) ≡ true → limit_within 0 99 (slice_index_or l 8 NoMax) ≡ true
    → list_all (limit_within 0 99) l ≡ true
nine l h p q r s t u v w x =
    subst (λ (m : List Limit). list_all (limit_within 0 99) m ≡ true) (nine_are l h)
    (and_from _ _ p (and_from _ _ q (and_from _ _ r (and_from _ _ s (and_from _ _ t (and_from _ _ u (and_from _ _ v (and_from _ _ w (and_from _ _ x refl)))))))))

pub machine_command : (c : Command) → IsFit c → IsCommand c
unfolding change_rows crtcls_values crtpgmref_values crtjobd_values crtsbsd_values addjobqe_values addrtge_values addaje_values addpje_values rmvjobqe_values rmvrtge_values rmvaje_values rmvpje_values endsbs_values sbmjob_values chgjob_values endjob_values strpj_values endpj_values evoke_values pwrdwnsys_values
machine_command (command.Crtcls c) h =
    let v = h.values in
    (qualified c.cls v.0, and_from _ _ (and_from _ _ v.1.0 v.1.1.0) (limit 1 9999999 c.dftwait v.1.1.1.0))
machine_command (command.Crtjobq c) h = qualified c.jobq h.values.0
machine_command (command.Crtpgmref c) h = let v = h.values in (qualified c.pgm v.0, v.1.0.0, v.1.0.1)
machine_command (command.Crtjobd c) h =
    let v = h.values in
    record {
      jobd = qualified c.jobd v.0;
      jobq = qualified c.jobq v.1.0;
      jobpty = between 1 9 c.jobpty v.1.1.0;
      rtgdta = v.1.1.1.0.0;
      rqsdta = request_text c.rqsdta v.1.1.1.1.0;
      ranges = and_from _ _ v.1.1.1.0.1 (request_range c.rqsdta v.1.1.1.1.0);
    }
machine_command (command.Crtsbsd c) h = let v = h.values in (qualified c.sbsd v.0, limit 0 1000 c.maxjobs v.1.0)
machine_command (command.Addjobqe c) h =
    let v = h.values in
    let p = v.1.1.1.1 in
    record {
      sbsd = qualified c.sbsd v.0;
      jobq = qualified c.jobq v.1.0;
      maxpty = h.whole;
      ranges = and_from _ _ (and_from _ _ v.1.1.1.0 (limit 0 1000 c.maxact v.1.1.0))
          (nine c.maxpty h.whole (limit 0 99 _ p.0) (limit 0 99 _ p.1.0) (limit 0 99 _ p.1.1.0) (limit 0 99 _ p.1.1.1.0)
          (limit 0 99 _ p.1.1.1.1.0) (limit 0 99 _ p.1.1.1.1.1.0) (limit 0 99 _ p.1.1.1.1.1.1.0) (limit 0 99 _ p.1.1.1.1.1.1.1.0)
          (limit 0 99 _ p.1.1.1.1.1.1.1.1.0));
    }
machine_command (command.Addrtge c) h =
    let v = h.values in
    record {
      sbsd = qualified c.sbsd v.0;
      pgm = qualified c.pgm v.1.1.1.0;
      cls = qualified c.cls v.1.1.1.1.0;
      cmpval = compared c.cmpval v.1.1.0;
      ranges = and_from _ _ (and_from _ _ (and_from _ _ v.1.0 (compared_range c.cmpval v.1.1.0)) (limit 0 1000 c.maxact v.1.1.1.1.1.0)) v.1.1.1.1.1.1.0;
    }
machine_command (command.Addaje c) h = let v = h.values in record { sbsd = qualified c.sbsd v.0; job = v.1.0; jobd = qualified c.jobd v.1.1.0 }
machine_command (command.Addpje c) h =
    let v = h.values in
    let n = v.1.1.1 in
    let adljobs = (between 0 999 c.adljobs n.1.1.0).most in
    record {
      sbsd = qualified c.sbsd v.0;
      pgm = qualified c.pgm v.1.0;
      cls = qualified c.cls n.1.1.1.1.1.1.0;
      ranges = and_from _ _ (and_from _ _ (and_from _ _ (and_from _ _ (and_from _ _ n.0 n.1.0) (grind (arith, nat_tests))) (limit 1 9999 c.maxjobs n.1.1.1.0)) (limit 1 1000 c.maxuse n.1.1.1.1.0)) n.1.1.1.1.1.1.1.0;
    }
machine_command (command.Rmvjobqe c) h = let v = h.values in (qualified c.sbsd v.0, qualified c.jobq v.1.0)
machine_command (command.Rmvrtge c) h = let v = h.values in (qualified c.sbsd v.0, between 1 9999 c.seqnbr v.1.0)
machine_command (command.Rmvaje c) h = let v = h.values in (qualified c.sbsd v.0, v.1.0)
machine_command (command.Rmvpje c) h = let v = h.values in (qualified c.sbsd v.0, qualified c.pgm v.1.0)
machine_command (command.Strsbs c) h = qualified c.sbsd h.values.0
machine_command (command.Endsbs c) h = let v = h.values in (v.0, number_if _ 1 99999 c.delay v.1.1.0)
machine_command (command.Sbmjob c) h =
    let v = h.values in
    record {
      rqsdta = text_if 0 1000 c.rqsdta v.0;
      job = held_if IsName value.Name kind.Name special.Jobd c.job (λ n h. h) v.1.0;
      jobd = qualified c.jobd v.1.1.0;
      jobq = object_if _ c.jobq v.1.1.1.0;
      jobpty = number_if _ 1 9 c.jobpty v.1.1.1.1.0;
      rtgdta = text_if 1 80 c.rtgdta v.1.1.1.1.1.0;
      scddate = v.1.1.1.1.1.1.1.0;
      scdtime = v.1.1.1.1.1.1.1.1.0;
    }
machine_command (command.Hldjob c) h = job c.job h.values.0
machine_command (command.Rlsjob c) h = job c.job h.values.0
machine_command (command.Chgjob c) h =
    let v = h.values in
    record {
      job = job c.job v.0;
      jobpty = number_if _ 1 9 c.jobpty v.1.0;
      jobq = object_if _ c.jobq v.1.1.0;
      scddate = held_if (λ x. IsTrue (date_in_range x)) value.Date kind.Date special.Same c.scddate (λ x h. h) v.1.1.1.0;
      scdtime = held_if (λ x. IsTrue (time_in_range x)) value.Time kind.Time special.Same c.scdtime (λ x h. h) v.1.1.1.1.0;
    }
machine_command (command.Endjob c) h = let v = h.values in (job c.job v.0, between 1 999999 c.delay v.1.1.0)
machine_command (command.Hldjobq c) h = qualified c.jobq h.values.0
machine_command (command.Rlsjobq c) h = qualified c.jobq h.values.0
machine_command (command.Clrjobq c) h = qualified c.jobq h.values.0
machine_command (command.Strpj c) h = let v = h.values in (v.0, qualified c.pgm v.1.0)
machine_command (command.Endpj c) h = let v = h.values in (v.0, qualified c.pgm v.1.0, number_if _ 1 99999 c.delay v.1.1.1.0)
machine_command (command.Evoke c) h = let v = h.values in (v.0, qualified c.pgm v.1.0)
machine_command (command.Enduse c) h = job c.job h.values.0
machine_command (command.Pwrdwnsys c) h = number_if _ 1 99999 c.delay h.values.1.0
