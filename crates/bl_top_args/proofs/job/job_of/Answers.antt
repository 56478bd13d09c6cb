use Rattle.std.proofs.Common.{◌∙◌, sym, map, string_bytes}
use Rattle.std.proofs.lemmas.List.Folds.{list_all-map}
use Rattle.std.proofs.lemmas.Result.{IfOk-weaker}
use Rattle.bl_top_args.specs.Jobs.{is_plain_word}
use Rattle.bl_top_args.proofs.Reading.{drive_is, face_is, link_is, none_plain}
use Rattle.bl_top_args.proofs.job.job_of.Goals as goal

pub returns-then-not-are_plain : goal.returns-then-not-are_plain
returns-then-not-are_plain c =
    none_plain (map string_bytes c.args.words.now) (list_all-map is_plain_word string_bytes c.args.words.now ∙ sym c.are_plain.ensures
    ∙ c.if-not-are_plain.true)

pub returns-then-first_is : goal.returns-then-first_is
returns-then-first_is c =
    let plain = list_all-map is_plain_word string_bytes c.args.words.now ∙ sym c.are_plain.ensures ∙ c.if-not-are_plain.false in
    let named = sym c.first_is.ensures ∙ c.if-first_is.true in
    IfOk-weaker c.driven_by.result _ _ (λ job h. h ∙ drive_is (map string_bytes c.args.words.now) plain named) c.driven_by.ensures

pub returns-then-first_is-2 : goal.returns-then-first_is-2
returns-then-first_is-2 c =
    let plain = list_all-map is_plain_word string_bytes c.args.words.now ∙ sym c.are_plain.ensures ∙ c.if-not-are_plain.false in
    c.faced_by.ensures ∙ face_is (map string_bytes c.args.words.now) plain (sym c.first_is.ensures ∙ c.if-first_is.false)
    (sym c.first_is-2.ensures ∙ c.if-first_is-2.true)

pub returns-then-first_is-3 : goal.returns-then-first_is-3
returns-then-first_is-3 c =
    let plain = list_all-map is_plain_word string_bytes c.args.words.now ∙ sym c.are_plain.ensures ∙ c.if-not-are_plain.false in
    c.linked_by.ensures ∙ link_is (map string_bytes c.args.words.now) plain (sym c.first_is.ensures ∙ c.if-first_is.false)
    (sym c.first_is-2.ensures ∙ c.if-first_is-2.false) (sym c.first_is-3.ensures ∙ c.if-first_is-3.true)

pub other_job-requires-clause-plain : goal.other_job-requires-clause-plain
other_job-requires-clause-plain c = list_all-map is_plain_word string_bytes c.args.words.now ∙ sym c.are_plain.ensures ∙ c.if-not-are_plain.false
