-- A simplified file shows what the emitted one does.
use Rattle.std.proofs.Common.{◌≡◌, ◌↔◌, ◌≤◌, ℕ, ℤ, List, [], ap, sym, subst, ◌∙◌, arith}
use Rattle.bl_tree.specs.declared.c.CStruct.{CStruct}
use Rattle.bl_tree.specs.declared.tree.StructDef.{StructDef}
use Rattle.bl_tree.specs.declared.tree.Unit.{Unit as UnitDef}
use Rattle.bl_ctree.specs.Means.{Means, ShownTrace, shown_trace}
use Rattle.bl_ctext_semantics.specs.Cells.{inputs_of, outputs_of}
use Rattle.bl_ctext_semantics.specs.Parts.{Parts, parts_from}
use Rattle.bl_ctext_semantics.specs.Trace.{c_trace}
use Rattle.bl_simplify.specs.Simplified.{IsSimplified}
use Rattle.bl_emit_file.specs.Shows.{ShowsProgram}
use Rattle.bl_emit_simplified.specs.Written.{IsWrittenOf}
use Rattle.bl_emit_simplified.proofs.Interfaces.{frames_have_width, functions_own}

inputs_same : (a b : Parts) → a.structs ≡ b.structs → inputs_of b ≡ inputs_of a
unfolding inputs_of
inputs_same a b is = ap (λ (structs : List CStruct). inputs_of (parts_from structs [])) (sym is)

outputs_same : (a b : Parts) → a.structs ≡ b.structs → outputs_of b ≡ outputs_of a
unfolding outputs_of
outputs_same a b is = ap (λ (structs : List CStruct). outputs_of (parts_from structs [])) (sym is)

at_most : (a b c : ℕ) → a ≤ b → b ≤ c → a ≤ c
at_most a b c h k = omega arith

pub written_of : (structs : List StructDef) (units : List UnitDef) (entry : ℕ) (emitted written : Parts) → ShowsProgram structs units entry emitted →
    IsSimplified emitted written → IsWrittenOf structs units entry written
written_of structs units entry emitted written shows is = record {
  unit = shows.unit;
  is_entry = shows.is_entry;
  well_formed = is.formed;
  counted = at_most _ _ _ is.cells shows.counted;
  small = at_most _ _ _ is.cells shows.small;
  inputs = inputs_same emitted written is.structs ∙ shows.inputs;
  outputs = outputs_same emitted written is.structs ∙ shows.outputs;
  functions = functions_own emitted written is structs units entry shows.functions;
  frames = frames_have_width emitted written is structs units entry shows.frames;
  emitted = emitted;
  simplified = is;
  blocks = shows.blocks;
  trace = λ rows shown fit.
      subst (λ t. Means structs units entry rows shown ↔ (shown ≡ shown_trace t)) (is.trace rows) (shows.trace rows shown fit);
}
