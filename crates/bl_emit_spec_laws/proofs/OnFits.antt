-- Compiled programs are typed, and their turns keep types.
use Rattle.bl_machine_pass_laws_typing.specs.Fits.{PassesKeepTypes}
use Rattle.bl_emit_spec_laws.specs.Calls.Built.{cleared, rank_by, slots_by}
use Rattle.bl_ctree.specs.Instances.{setting_of}
use Rattle.bl_emit_spec_laws.specs.Fits.{AllTurnsFit}

pub turns_fit : PassesKeepTypes → AllTurnsFit
turns_fit keep structs units entry machine activities = record {
  performs = λ i unit rule frames store answer frames' left compiled is has fits performs.
      let w = setting_of structs units entry in
      (keep structs units entry compiled.well_typed).performs (rank_by w activities) (slots_by w activities) (cleared w) i unit rule frames store answer
      frames' left is has fits performs;
  copies = λ i unit n left copies compiled is fits all. (keep structs units entry compiled.well_typed).copies i unit n left copies is fits all;
}
