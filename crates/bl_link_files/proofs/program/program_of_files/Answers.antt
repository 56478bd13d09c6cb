-- What is judged of the fronts that were read holds of the files.
use Rattle.std.proofs.Common.{ap, arith, length, map, string_bytes, subst, sym}
use Rattle.std.proofs.lemmas.List.{length-map}
use Rattle.bl_link.specs.Files.{AreFilesOf}
use Rattle.bl_link_files.proofs.Fronts.{count_of}
use Rattle.bl_link_files.proofs.Wholes.{program_is, stop_ends, texts_stop, unread_within}
use Rattle.bl_link_files.specs.inner.Fronts.{AreFirstTexts}
use Rattle.bl_link_files.specs.inner.Judged.{IsStopOf, TextsStop}
use Rattle.bl_link_files.proofs.program.program_of_files.Goals as goal

pub program_of-requires-clause-few : goal.program_of-requires-clause-few
program_of-requires-clause-few g c =
    let names = map string_bytes c.args.names.now in
    let read = subst (AreFirstTexts (g.F.Files.left c.args.files.now) (g.F.Files.left c.texts_of-texts.new.files) (g.F.Files.faults c.args.files.now)
    (g.F.Files.faults c.texts_of-texts.new.files) names c.texts_of-texts.result.texts) c.in-None.is c.texts_of-texts.ensures.texts in
    let same = ap length c.deref.ensures in
    let counted = count_of (g.F.Files.left c.args.files.now) (g.F.Files.left c.texts_of-texts.new.files) names c.texts_of-texts.result.texts read in
    let mapped = length-map c.args.names.now string_bytes in
    omega (arith, same, counted, mapped, c.requires.few)

pub program_of-requires-clause-some : goal.program_of-requires-clause-some
program_of-requires-clause-some g c =
    let names = map string_bytes c.args.names.now in
    let read = subst (AreFirstTexts (g.F.Files.left c.args.files.now) (g.F.Files.left c.texts_of-texts.new.files) (g.F.Files.faults c.args.files.now)
    (g.F.Files.faults c.texts_of-texts.new.files) names c.texts_of-texts.result.texts) c.in-None.is c.texts_of-texts.ensures.texts in
    let same = ap length c.deref.ensures in
    let counted = count_of (g.F.Files.left c.args.files.now) (g.F.Files.left c.texts_of-texts.new.files) names c.texts_of-texts.result.texts read in
    let mapped = length-map c.args.names.now string_bytes in
    omega (arith, same, counted, mapped, c.requires.some)

pub returns-in-Ok-clause-program : goal.returns-in-Ok-clause-program
returns-in-Ok-clause-program g c =
    program_is c.fronts_are_judged_as_wholes.ensures.passes c.fronts_are_judged_as_wholes.ensures.fails (g.F.Files.left c.args.files.now)
    (g.F.Files.left c.texts_of-texts.new.files) (map string_bytes c.args.names.now) c.texts_of-texts.result.texts
    (subst (AreFirstTexts (g.F.Files.left c.args.files.now) (g.F.Files.left c.texts_of-texts.new.files) (g.F.Files.faults c.args.files.now)
    (g.F.Files.faults c.texts_of-texts.new.files) (map string_bytes c.args.names.now) c.texts_of-texts.result.texts) c.in-None.is
    c.texts_of-texts.ensures.texts)
    c.in-Ok.accepted.program (subst (λ texts. AreFilesOf texts c.in-Ok.accepted.program) c.deref.ensures c.in-Ok.ensures.program)

pub returns-in-None-clause-fault : goal.returns-in-None-clause-fault
returns-in-None-clause-fault g c =
    texts_stop c.fronts_are_judged_as_wholes.ensures.passes c.fronts_are_judged_as_wholes.ensures.fails (g.F.Files.left c.args.files.now)
    (g.F.Files.left c.texts_of-texts.new.files) (map string_bytes c.args.names.now) c.texts_of-texts.result.texts
    (subst (AreFirstTexts (g.F.Files.left c.args.files.now) (g.F.Files.left c.texts_of-texts.new.files) (g.F.Files.faults c.args.files.now)
    (g.F.Files.faults c.texts_of-texts.new.files) (map string_bytes c.args.names.now) c.texts_of-texts.result.texts) c.in-None.is
    c.texts_of-texts.ensures.texts)
    (g.F.Files.faults c.args.files.now) (g.F.Files.faults c.texts_of-texts.new.files) c.in-Err.fault
    (subst (λ texts. TextsStop texts c.in-Err.fault) c.deref.ensures c.in-Err.ensures.fault)

pub stop_at-requires-clause-within : goal.stop_at-requires-clause-within
stop_at-requires-clause-within g c = λ failed.
    let same = ap length c.deref-in-Some.ensures in
    let most = unread_within (g.F.Files.left c.args.files.now) (g.F.Files.left c.texts_of-texts.new.files) (g.F.Files.faults c.args.files.now)
    (g.F.Files.faults c.texts_of-texts.new.files) (map string_bytes c.args.names.now) c.texts_of-texts.result.texts c.in-Some.fault
    (subst (AreFirstTexts (g.F.Files.left c.args.files.now) (g.F.Files.left c.texts_of-texts.new.files) (g.F.Files.faults c.args.files.now)
    (g.F.Files.faults c.texts_of-texts.new.files) (map string_bytes c.args.names.now) c.texts_of-texts.result.texts) c.in-Some.is
    c.texts_of-texts.ensures.texts) failed in
    let mapped = length-map c.args.names.now string_bytes in
    omega (arith, same, most, mapped)

pub returns-clause-fault : goal.returns-clause-fault
returns-clause-fault g c =
    stop_ends c.fronts_are_judged_as_wholes.ensures.passes c.fronts_are_judged_as_wholes.ensures.fails (g.F.Files.left c.args.files.now)
    (g.F.Files.left c.texts_of-texts.new.files) (g.F.Files.faults c.args.files.now) (g.F.Files.faults c.texts_of-texts.new.files)
    (map string_bytes c.args.names.now) c.texts_of-texts.result.texts c.in-Some.fault c.stop_at.result
    (subst (AreFirstTexts (g.F.Files.left c.args.files.now) (g.F.Files.left c.texts_of-texts.new.files) (g.F.Files.faults c.args.files.now)
    (g.F.Files.faults c.texts_of-texts.new.files) (map string_bytes c.args.names.now) c.texts_of-texts.result.texts) c.in-Some.is
    c.texts_of-texts.ensures.texts)
    (λ failed. subst (λ texts. IsStopOf (length (map string_bytes c.args.names.now)) texts c.stop_at.result) c.deref-in-Some.ensures
    (subst (λ n. IsStopOf n c.deref-in-Some.result.now c.stop_at.result) (sym (length-map c.args.names.now string_bytes))
    (c.stop_at.ensures.failed failed)))
    c.stop_at.ensures.memory
