-- A printed job is read back.
use Rattle.std.proofs.Common.{◌≡◌, ℕ, ◌+◌, ◌++◌, ◌&&◌, nat_eq, Bool, true, false, List, [], ◌∷◌, length, drop, Option, Some, None, codes, sym, ◌∙◌, ap, refl, arith, append_assoc}
use Rattle.std.specs.Cmp.Lexicographic.{pointwise}
use Rattle.std.proofs.Math.Seq.{drop-append-add}
use Rattle.std.proofs.lemmas.Bool.{and_from, eq-eqb}
use Rattle.wm_base.proofs.Tests.{bytes-itself}
use Rattle.wm_clwords.specs.Quote.{doubled, quoted}
use Rattle.wm_rows.specs.declared.stored_job.StoredJob.{StoredJob}
use Rattle.wm_traits.specs.declared.row.Row.{Row}
use Rattle.wm_rows.specs.JobText.{field, job_row, request_text, name_fields, queue_fields, data_fields, state_fields, job_text}
use Rattle.wm_rows.specs.Reading.{behind, behind_four, names_of, queueing_of, state_of}
use Rattle.wm_rows.specs.Scan.{quoted_of, request_by, request_of, whole, text_tail, text_data, read_text}
use Rattle.wm_rows.specs.Stored.{IsStored, IsRequest}
use Rattle.wm_rows.proofs.Doubling.{read, quoted_back, behind_quoted}
use Rattle.wm_rows.proofs.FieldsBack.{names, queueing, four_parts, names_back, behind_names, queueing_back, behind_queueing}
use Rattle.wm_rows.proofs.PhaseBack.{standing, standing_back}
use Rattle.wm_rows.proofs.Seams.{field_parts, field_inside, behind_first}

-- the routing data, from behind its apostrophe on
data_begins : (text more : List ℕ) → behind 39 (field (codes "RTGDTA") (quoted text) ++ more) ≡ doubled text ++ 39 ∷ 41 ∷ more
data_begins text more =
    ap (behind 39) (field_parts [] (codes "RTGDTA") (quoted text) more)
    ∙ behind_first 39 (codes " RTGDTA(") (doubled text ++ 39 ∷ [] ++ 41 ∷ more) refl
    ∙ append_assoc (doubled text) (39 ∷ []) (41 ∷ more)

-- the job whose text it is, where its names, its queue and how it stands are read back
module _ (j : StoredJob) (h : IsStored j) (text : List ℕ) (n : names_of text ≡ Some (names j)) (q : queueing_of (behind_four text) ≡ Some (queueing j)) where
  tail_back : (request : Option (List ℕ)) → IsRequest request → text_tail text j.rtgdta (request_of (request_text request ++ 41 ∷ state_fields j)) (request_text request ++ 41 ∷ state_fields j) ≡ whole (Some (names j)) (Some (queueing j)) (Some (standing j)) j.rtgdta request
  tail_back None t = λ i. whole (n i) (q i) (standing_back (codes "*NONE)") j refl h i) j.rtgdta None
  tail_back (Some request) t =
      let e : quoted request ++ 41 ∷ state_fields j ≡ 39 ∷ (doubled request ++ 39 ∷ 41 ∷ state_fields j) = ap (λ l. 39 ∷ l) (append_assoc (doubled request) (39 ∷ []) (41 ∷ state_fields j)) in
      let long : length (doubled request) + 1 + 1 ≡ length (39 ∷ doubled request) + 1 = omega arith in
      let left : drop (length (doubled request) + 1 + 1) (39 ∷ (doubled request ++ 39 ∷ 41 ∷ state_fields j)) ≡ 41 ∷ state_fields j =
      ap (λ k. drop k (39 ∷ (doubled request ++ 39 ∷ 41 ∷ state_fields j))) long ∙ drop-append-add (39 ∷ doubled request) (39 ∷ 41 ∷ state_fields j) 1 in
      ap (λ l. text_tail text j.rtgdta (request_of l) l) e
      ∙ ap (λ o. text_tail text j.rtgdta (request_by o) (39 ∷ (doubled request ++ 39 ∷ 41 ∷ state_fields j))) (quoted_back request (state_fields j) t)
      ∙ (λ i. whole (n i) (q i) (state_of (left i)) j.rtgdta (Some request))
      ∙ ap (λ o. whole (Some (names j)) (Some (queueing j)) o j.rtgdta (Some request)) (standing_back (codes ")") j refl h)

  data_back : text_data text (quoted_of (doubled j.rtgdta ++ 39 ∷ 41 ∷ (field (codes "RQSDTA") (request_text j.rqsdta) ++ state_fields j))) (doubled j.rtgdta ++ 39 ∷ 41 ∷ (field (codes "RQSDTA") (request_text j.rqsdta) ++ state_fields j)) ≡ Some j
  data_back =
      let more = field (codes "RQSDTA") (request_text j.rqsdta) ++ state_fields j in
      let tail : behind 40 (drop (length (doubled j.rtgdta) + 1) (doubled j.rtgdta ++ 39 ∷ 41 ∷ more)) ≡ request_text j.rqsdta ++ 41 ∷ state_fields j =
      ap (behind 40) (behind_quoted j.rtgdta more) ∙ field_inside (41 ∷ []) (codes "RQSDTA") (request_text j.rqsdta) (state_fields j) refl refl in
      ap (λ o. text_data text o (doubled j.rtgdta ++ 39 ∷ 41 ∷ more)) (quoted_back j.rtgdta more h.rtgdta)
      ∙ ap (λ l. text_tail text j.rtgdta (request_of l) l) tail
      ∙ tail_back j.rqsdta h.rqsdta

-- the text of a job is read as that job
pub text_back : (j : StoredJob) → IsStored j → read_text (job_text j) ≡ Some j
unfolding job_text read_text
text_back j h =
    let state = state_fields j in
    let last = queue_fields j ++ (data_fields j ++ state) in
    let text = codes "JOB" ++ (name_fields j ++ last) in
    let e : job_text j ≡ text = four_parts (codes "JOB") (name_fields j) (queue_fields j) (data_fields j) state in
    let first = behind_names j last h in
    let second = ap behind_four first ∙ behind_queueing j (data_fields j ++ state) h in
    let inside : behind 39 (behind_four (behind_four text)) ≡ doubled j.rtgdta ++ 39 ∷ 41 ∷ (field (codes "RQSDTA") (request_text j.rqsdta) ++ state) =
    ap (behind 39) (second ∙ append_assoc (field (codes "RTGDTA") (quoted j.rtgdta)) (field (codes "RQSDTA") (request_text j.rqsdta)) state) ∙ data_begins j.rtgdta (field (codes "RQSDTA") (request_text j.rqsdta) ++ state) in
    ap read_text e
    ∙ ap (λ d. text_data text (quoted_of d) d) inside
    ∙ data_back j h text (names_back j last h) (ap queueing_of first ∙ queueing_back j (data_fields j ++ state) h)

-- so a row of a job is read as that job
pub row_back : (row : Row) (job : StoredJob) → IsStored job → job_row job ≡ row → read_text row.body ≡ Some job
row_back row job h same = ap (λ r. read_text r.body) (sym same) ∙ text_back job h

pub row_read : (row : Row) (job : StoredJob) → IsStored job → job_row job ≡ row → read_text row.body ≡ None → ⊥
row_read row job h same none = let e : None ≡ Some job = sym none ∙ row_back row job h same in cc

abbrev or_that : StoredJob → Option StoredJob → StoredJob
or_that that None = that
or_that that (Some job) = job

-- and what is printed of what was read is the row
pub row_again : (row printed : Row) (job found : StoredJob) → IsStored job → job_row job ≡ row → read_text row.body ≡ Some found → printed ≡ job_row found → printed ≡ row
row_again row printed job found h same read again = again ∙ ap (λ o. job_row (or_that found o)) (sym read ∙ row_back row job h same) ∙ same

abbrev pub same_row : Row → Row → Bool
same_row a b = nat_eq a.tab b.tab && (pointwise nat_eq a.key b.key && pointwise nat_eq a.body b.body)

pub row_found : (a b : Row) → a ≡ b → false ≡ same_row a b → ⊥
row_found a b e wrong =
    let both = and_from (pointwise nat_eq b.key b.key) (pointwise nat_eq b.body b.body) (bytes-itself b.key) (bytes-itself b.body) in
    let yes = and_from (nat_eq b.tab b.tab) (pointwise nat_eq b.key b.key && pointwise nat_eq b.body b.body) (eq-eqb b.tab b.tab refl) both in
    let never : false ≡ true = wrong ∙ ap (λ r. same_row r b) e ∙ yes in
    cc
