-- The values that are shown of a command make that command again.
use Rattle.std.proofs.Common.{◌≡◌, ℕ, false, cond, List, [], ◌∷◌, length, Option, Some, None, Ok, slice_index_or, IsTrue, refl, ◌∙◌, ap, arith}
use Rattle.wm_base.specs.declared.limit.Limit.{Limit}
use Rattle.wm_base.specs.declared.limit.Limit.TheVariants.{NoMax, Most}
use Rattle.wm_when.specs.Schedule.{within}
use Rattle.wm_law.specs.declared.command.Command.TheVariants as command
use Rattle.wm_law.specs.declared.command.Sbmjob.{Sbmjob}
use Rattle.wm_command.specs.declared.line.Line.TheVariants as line
use Rattle.wm_command.specs.declared.row.Special.{Special}
use Rattle.wm_command.specs.declared.row.Special.TheVariants as special
use Rattle.wm_command.specs.declared.row.Default.TheVariants as default
use Rattle.wm_command.specs.declared.row.Kind.TheVariants as kind
use Rattle.wm_command.specs.declared.value.Value.{Value}
use Rattle.wm_command.specs.declared.value.Value.TheVariants as value
use Rattle.wm_command.specs.declared.verb.ChangeVerb.TheVariants as change
use Rattle.wm_base.specs.declared.refusal.Key.TheVariants as key
use Rattle.wm_command.specs.Fields.{object_or, name_or, text_or, number_or, limit_or, flag_or, date_or, time_or, priority_or, is_word_value, maybe, value_of, object_in, name_in, text_in, number_in, limit_in, flag_in, ending_in, job_in, compare_in, date_in, time_in, priority_in, is_word_in, class_in, maxpty_in, request_in, limit_value, or_special}
use Rattle.wm_command.specs.Line.{lacks}
use Rattle.wm_command.specs.Objects.{crtcls, crtpgmref, crtjobd, crtsbsd, crtcls_values, crtpgmref_values, crtjobd_values, crtsbsd_values}
use Rattle.wm_command.specs.Entries.{addjobqe, addrtge, addaje, addpje, rmvjobqe, rmvrtge, rmvaje, rmvpje, addjobqe_values, addrtge_values, addaje_values, addpje_values, rmvjobqe_values, rmvrtge_values, rmvaje_values, rmvpje_values}
use Rattle.wm_command.specs.Control.{endsbs, strpj, endpj, evoke, pwrdwnsys, endsbs_values, strpj_values, endpj_values, evoke_values, pwrdwnsys_values}
use Rattle.wm_command.specs.Jobs.{sbmjob, chgjob, endjob, sbmjob_values, chgjob_values, endjob_values}
use Rattle.wm_command.specs.Printed.{FitsRow, IsFit, completed, ShownValuesMakeTheCommand}
use Rattle.wm_command.specs.Reading.{complete, same_key}
use Rattle.wm_command.specs.Table.{or_word, change_rows}

-- each kind of field

limit_back : (l : Limit) → limit_or (Some (limit_value l)) ≡ l
limit_back NoMax = refl
limit_back (Most n) = refl

-- a list of nine is what stands at its nine places
pub nine_are : (l : List Limit) → length l ≡ 9
    → slice_index_or l 0 NoMax ∷ slice_index_or l 1 NoMax ∷ slice_index_or l 2 NoMax ∷ slice_index_or l 3 NoMax ∷ slice_index_or l 4 NoMax ∷ slice_index_or l 5 NoMax
    ∷ slice_index_or l 6 NoMax ∷ slice_index_or l 7 NoMax ∷ slice_index_or l 8 NoMax ∷ [] ≡ l
nine_are (a ∷ b ∷ c ∷ d ∷ e ∷ f ∷ g ∷ x ∷ y ∷ []) h = refl
nine_are l h = absurd (omega arith)

nine_back : (l : List Limit) → length l ≡ 9
    → limit_or (Some (limit_value (slice_index_or l 0 NoMax))) ∷ limit_or (Some (limit_value (slice_index_or l 1 NoMax))) ∷ limit_or (Some (limit_value (slice_index_or l 2 NoMax)))
    ∷ limit_or (Some (limit_value (slice_index_or l 3 NoMax))) ∷ limit_or (Some (limit_value (slice_index_or l 4 NoMax))) ∷ limit_or (Some (limit_value (slice_index_or l 5 NoMax)))
    ∷ limit_or (Some (limit_value (slice_index_or l 6 NoMax))) ∷ limit_or (Some (limit_value (slice_index_or l 7 NoMax))) ∷ limit_or (Some (limit_value (slice_index_or l 8 NoMax))) ∷ [] ≡ l
nine_back l h =
    (λ i. limit_back (slice_index_or l 0 NoMax) i ∷ limit_back (slice_index_or l 1 NoMax) i ∷ limit_back (slice_index_or l 2 NoMax) i
    ∷ limit_back (slice_index_or l 3 NoMax) i ∷ limit_back (slice_index_or l 4 NoMax) i ∷ limit_back (slice_index_or l 5 NoMax) i
    ∷ limit_back (slice_index_or l 6 NoMax) i ∷ limit_back (slice_index_or l 7 NoMax) i ∷ limit_back (slice_index_or l 8 NoMax) i ∷ [])
    ∙ nine_are l h

priority_back : (n : ℕ) → IsTrue (within 1 9 n) → priority_or n ≡ n
priority_back n h = ap (λ c. cond c n 5) h

priority_or_back : (s : Special) (o : Option ℕ) → FitsRow (or_word key.Jobpty (kind.Number 1 9) s default.Special) (or_special s value.Number o)
    → maybe (is_word_value (Some (or_special s value.Number o))) (priority_or (number_or (Some (or_special s value.Number o)))) ≡ o
priority_or_back s None h = refl
priority_or_back s (Some n) h = ap Some (priority_back n h)

-- a field that may be left out, whose values are no special words and are held as they are
word_back : {V : Type 0} (made : V → Value) (of : Option Value → V) (s : Special) (o : Option V) → ((x : V) → (is_word_value (Some (made x)) ≡ false) × (of (Some (made x)) ≡ x))
    → maybe (is_word_value (Some (or_special s made o))) (of (Some (or_special s made o))) ≡ o
word_back made of s None f = refl
word_back made of s (Some x) f = λ i. maybe ((f x).0 i) ((f x).1 i)

-- each command

sbmjob_by : (c : Sbmjob) (r : Option (List ℕ)) → IsFit (command.Sbmjob (record c { rqsdta = r }))
    → completed change.Sbmjob (sbmjob_values (record c { rqsdta = r })) ≡ Ok (line.Change (command.Sbmjob (record c { rqsdta = r })))
unfolding change_rows complete same_key value_of object_in name_in text_in number_in limit_in flag_in ending_in job_in compare_in date_in time_in priority_in is_word_in class_in maxpty_in request_in lacks sbmjob sbmjob_values
sbmjob_by c None h = λ i. Ok (line.Change (command.Sbmjob (record c { rqsdta = None; job = word_back value.Name name_or special.Jobd c.job (λ x. (refl, refl)) i; jobq = word_back value.Object object_or special.Jobd c.jobq (λ x. (refl, refl)) i; jobpty = priority_or_back special.Jobd c.jobpty h.values.1.1.1.1.0 i; rtgdta = word_back value.Text text_or special.Jobd c.rtgdta (λ x. (refl, refl)) i; hold = word_back value.Flag flag_or special.Jobd c.hold (λ x. (refl, refl)) i })))
sbmjob_by c (Some r) h = λ i. Ok (line.Change (command.Sbmjob (record c { rqsdta = Some r; job = word_back value.Name name_or special.Jobd c.job (λ x. (refl, refl)) i; jobq = word_back value.Object object_or special.Jobd c.jobq (λ x. (refl, refl)) i; jobpty = priority_or_back special.Jobd c.jobpty h.values.1.1.1.1.0 i; rtgdta = word_back value.Text text_or special.Jobd c.rtgdta (λ x. (refl, refl)) i; hold = word_back value.Flag flag_or special.Jobd c.hold (λ x. (refl, refl)) i })))

-- the others, each by what its keys have
pub shown_back : ShownValuesMakeTheCommand
unfolding change_rows complete same_key value_of object_in name_in text_in number_in limit_in flag_in ending_in job_in compare_in date_in time_in priority_in is_word_in class_in maxpty_in request_in lacks crtcls crtcls_values crtpgmref crtpgmref_values crtjobd crtjobd_values crtsbsd crtsbsd_values addjobqe addjobqe_values addrtge addrtge_values addaje addaje_values addpje addpje_values rmvjobqe rmvjobqe_values rmvrtge rmvrtge_values rmvaje rmvaje_values rmvpje rmvpje_values endsbs endsbs_values chgjob chgjob_values endjob endjob_values strpj strpj_values endpj endpj_values evoke evoke_values pwrdwnsys pwrdwnsys_values
shown_back (command.Sbmjob c) h = sbmjob_by c c.rqsdta h
shown_back (command.Crtcls c) h = λ i. Ok (line.Change (command.Crtcls (record c { dftwait = limit_back c.dftwait i })))
shown_back (command.Crtjobd c) h = λ i. Ok (line.Change (command.Crtjobd (record c { jobpty = priority_back c.jobpty h.values.1.1.0 i; rqsdta = word_back value.Text text_or special.None c.rqsdta (λ x. (refl, refl)) i })))
shown_back (command.Crtsbsd c) h = λ i. Ok (line.Change (command.Crtsbsd (record c { maxjobs = limit_back c.maxjobs i })))
shown_back (command.Addjobqe c) h = λ i. Ok (line.Change (command.Addjobqe (record c { maxact = limit_back c.maxact i; maxpty = nine_back c.maxpty h.whole i })))
shown_back (command.Addrtge c) h = λ i. Ok (line.Change (command.Addrtge (record c { maxact = limit_back c.maxact i })))
shown_back (command.Addpje c) h = λ i. Ok (line.Change (command.Addpje (record c { maxjobs = limit_back c.maxjobs i; maxuse = limit_back c.maxuse i })))
shown_back (command.Endsbs c) h = λ i. Ok (line.Change (command.Endsbs (record c { delay = word_back value.Number number_or special.Nolimit c.delay (λ x. (refl, refl)) i })))
shown_back (command.Chgjob c) h = λ i. Ok (line.Change (command.Chgjob (record c { jobpty = priority_or_back special.Same c.jobpty h.values.1.0 i; jobq = word_back value.Object object_or special.Same c.jobq (λ x. (refl, refl)) i; scddate = word_back value.Date date_or special.Same c.scddate (λ x. (refl, refl)) i; scdtime = word_back value.Time time_or special.Same c.scdtime (λ x. (refl, refl)) i })))
shown_back (command.Endpj c) h = λ i. Ok (line.Change (command.Endpj (record c { delay = word_back value.Number number_or special.Nolimit c.delay (λ x. (refl, refl)) i })))
shown_back (command.Pwrdwnsys c) h = λ i. Ok (line.Change (command.Pwrdwnsys (record c { delay = word_back value.Number number_or special.Nolimit c.delay (λ x. (refl, refl)) i })))
shown_back c h = refl
