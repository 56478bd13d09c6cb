-- What a tick leaves in a runner.
use Rattle.std.specs.Prelude.{List, drop, length, min, take, true, ℕ, ℤ, ◌+◌, ◌-◌, ◌<◌, ◌^◌, ◌≡◌}
use Rattle.bl_tree.specs.Ports.{row_fits}
use Rattle.bl_ctext_semantics.specs.Parts.{Parts}
use Rattle.bl_ctext_semantics.specs.Trace.{reply_of, tick_c}
use Rattle.bl_crun.specs.declared.call.Called.{Called}
use Rattle.bl_crun.specs.declared.prepared.Prepared.{Prepared}
use Rattle.bl_crun.specs.Prepared.{cell_numbers}

-- the numbers of the outputs
abbrev pub outputs_in : Prepared → List ℤ
outputs_in p = take (length p.outputs) (drop (p.output_at + 1) p.machine.cells)

-- a tick was done
pub record Ticked (file : Parts) (cells ins : List ℤ) (called : Called) (p : Prepared) : Type 0 where
  pub reply : reply_of called.answer ≡ (tick_c file cells ins).reply
  pub count : called.count ≡ min (tick_c file cells ins).count (2 ^ 128 - 1)
  pub after : cell_numbers p ≡ (tick_c file cells ins).cells
  pub outputs : outputs_in p ≡ (tick_c file cells ins).outputs
  pub ranges : row_fits p.outputs (outputs_in p) ≡ true
  pub within : (k : ℕ) → k < length p.outputs → p.output_at + 1 + k < length p.machine.cells
