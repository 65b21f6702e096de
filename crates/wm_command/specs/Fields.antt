-- The values of keys as what a command's fields hold, and fields as values. Where a key has a value of another kind, which no row gives it, the
-- field holds the first that comes to hand.
use Rattle.std.specs.Prelude.{ℕ, Bool, true, false, Option, Some, None, List, [], ◌∷◌, find, if◌then◌else◌, codes, slice_index_or}
use Rattle.std.specs.Option.{option_map}
use Rattle.wm_base.specs.declared.qname.QName.{QName}
use Rattle.wm_base.specs.declared.limit.Limit.{Limit}
use Rattle.wm_base.specs.declared.limit.Limit.TheVariants.{NoMax, Most}
use Rattle.wm_base.specs.declared.refusal.Key.{Key}
use Rattle.wm_base.specs.declared.refusal.Key.TheVariants as key
use Rattle.wm_desc.specs.declared.entry.Cmp.{Cmp}
use Rattle.wm_desc.specs.declared.entry.Cmp.TheVariants.{Any}
use Rattle.wm_desc.specs.Opening.{qbatch}
use Rattle.wm_when.specs.Schedule.{within}
use Rattle.wm_when.specs.declared.schedule.DateSpec.{DateSpec}
use Rattle.wm_when.specs.declared.schedule.DateSpec.TheVariants as date
use Rattle.wm_when.specs.declared.schedule.TimeSpec.{TimeSpec}
use Rattle.wm_when.specs.declared.schedule.TimeSpec.TheVariants as time
use Rattle.wm_law.specs.declared.command.EndOption.{EndOption}
use Rattle.wm_law.specs.declared.command.EndOption.TheVariants.{Cntrld}
use Rattle.wm_law.specs.declared.command.JobRef.{JobRef}
use Rattle.wm_law.specs.declared.command.JobRef.TheVariants.{Simple}
use Rattle.wm_command.specs.declared.row.Special.{Special}
use Rattle.wm_command.specs.declared.row.Special.TheVariants as special
use Rattle.wm_command.specs.declared.value.Value.{Value}
use Rattle.wm_command.specs.declared.value.Value.TheVariants as value
use Rattle.wm_command.specs.declared.value.Given.{Given}
use Rattle.wm_command.specs.Reading.{same_key}

-- the value of a key
unfoldable pub value_of : Key → List Given → Option Value
value_of key given = option_map (λ g. g.value) (find (λ g. same_key g.key key) given)

abbrev pub object_or : Option Value → QName
object_or (Some (value.Object q)) = q
object_or v = qbatch

unfoldable pub object_in : Key → List Given → QName
object_in key given = object_or (value_of key given)

abbrev pub name_or : Option Value → List ℕ
name_or (Some (value.Name n)) = n
name_or v = codes "QBATCH"

unfoldable pub name_in : Key → List Given → List ℕ
name_in key given = name_or (value_of key given)

abbrev pub text_or : Option Value → List ℕ
text_or (Some (value.Text t)) = t
text_or v = []

unfoldable pub text_in : Key → List Given → List ℕ
text_in key given = text_or (value_of key given)

abbrev pub number_or : Option Value → ℕ
number_or (Some (value.Number n)) = n
number_or v = 0

unfoldable pub number_in : Key → List Given → ℕ
number_in key given = number_or (value_of key given)

-- a number is a limit, and a special word none
abbrev pub limit_or : Option Value → Limit
limit_or (Some (value.Number n)) = Most n
limit_or v = NoMax

unfoldable pub limit_in : Key → List Given → Limit
limit_in key given = limit_or (value_of key given)

abbrev pub flag_or : Option Value → Bool
flag_or (Some (value.Flag b)) = b
flag_or v = false

unfoldable pub flag_in : Key → List Given → Bool
flag_in key given = flag_or (value_of key given)

abbrev pub ending_or : Option Value → EndOption
ending_or (Some (value.Ending e)) = e
ending_or v = Cntrld

unfoldable pub ending_in : Key → List Given → EndOption
ending_in key given = ending_or (value_of key given)

abbrev pub job_or : Option Value → JobRef
job_or (Some (value.Job j)) = j
job_or v = Simple (codes "QBATCH")

unfoldable pub job_in : Key → List Given → JobRef
job_in key given = job_or (value_of key given)

abbrev pub compare_or : Option Value → Cmp
compare_or (Some (value.Compare c)) = c
compare_or v = Any

unfoldable pub compare_in : Key → List Given → Cmp
compare_in key given = compare_or (value_of key given)

abbrev pub date_or : Option Value → DateSpec
date_or (Some (value.Date d)) = d
date_or v = date.Current

unfoldable pub date_in : Key → List Given → DateSpec
date_in key given = date_or (value_of key given)

abbrev pub time_or : Option Value → TimeSpec
time_or (Some (value.Time t)) = t
time_or v = time.Current

unfoldable pub time_in : Key → List Given → TimeSpec
time_in key given = time_or (value_of key given)

abbrev pub priority_or : ℕ → ℕ
priority_or n = if within 1 9 n then n else 5

unfoldable pub priority_in : Key → List Given → ℕ
priority_in key given = priority_or (number_in key given)

abbrev pub is_word_value : Option Value → Bool
is_word_value (Some (value.Special s)) = true
is_word_value v = false

-- whether a key has its special word
unfoldable pub is_word_in : Key → List Given → Bool
is_word_in key given = is_word_value (value_of key given)

-- nothing for a special word
abbrev pub maybe : {V : Type 0} → Bool → V → Option V
maybe true v = None
maybe false v = Some v

-- *SBSD is the class with the description's name
unfoldable pub class_in : Key → List Given → QName
class_in k given = if is_word_in k given then object_in key.Sbsd given else object_in k given

-- MAXPTY1 to MAXPTY9
unfoldable pub maxpty_in : List Given → List Limit
maxpty_in g =
    limit_in key.Maxpty1 g ∷ limit_in key.Maxpty2 g ∷ limit_in key.Maxpty3 g ∷ limit_in key.Maxpty4 g ∷ limit_in key.Maxpty5 g
    ∷ limit_in key.Maxpty6 g ∷ limit_in key.Maxpty7 g ∷ limit_in key.Maxpty8 g ∷ limit_in key.Maxpty9 g ∷ []

abbrev pub request_or : Option Value → Option Value → Option (List ℕ)
request_or (Some (value.Text t)) rqsdta = Some t
request_or cmd rqsdta = maybe (is_word_value rqsdta) (text_or rqsdta)

-- the text of CMD's CALL, or RQSDTA
unfoldable pub request_in : List Given → Option (List ℕ)
request_in g = request_or (value_of key.Cmd g) (value_of key.Rqsdta g)

-- The values that are shown of fields

abbrev pub with_key : Key → Value → Given
with_key k v = record { key = k; value = v }

abbrev pub limit_value : Limit → Value
limit_value NoMax = value.Special special.Nomax
limit_value (Most n) = value.Number n

-- the special word of the row, where there is no value
abbrev pub word_or : Special → Option Value → Value
word_or s None = value.Special s
word_or s (Some v) = v

abbrev pub or_special : {V : Type 0} → Special → (V → Value) → Option V → Value
or_special s made v = word_or s (option_map made v)

-- MAXPTY1 to MAXPTY9, of nine limits
abbrev pub maxpty_value : Key → ℕ → List Limit → Given
maxpty_value k i limits = with_key k (limit_value (slice_index_or limits i NoMax))
