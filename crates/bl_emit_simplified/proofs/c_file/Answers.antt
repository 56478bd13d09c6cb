use Rattle.std.proofs.lemmas.Result.{IfOk-weaker}
use Rattle.bl_ctext_semantics.specs.Parts.{parts_of}
use Rattle.bl_emit_simplified.proofs.Shown.{written_of}
use Rattle.bl_emit_simplified.proofs.c_file.Goals as goal

pub simplified-requires : goal.simplified-requires
simplified-requires c = c.in_ok-emitted.ensures.shows.well_formed

pub returns : goal.returns
returns c =
    let program = c.args.accepted.now.program in
    IfOk-weaker c.simplified.result _ _
    (λ file is. written_of program.structs program.units program.entry (parts_of c.in_ok-emitted.emitted) (parts_of file) c.in_ok-emitted.ensures.shows is)
    c.simplified.ensures
