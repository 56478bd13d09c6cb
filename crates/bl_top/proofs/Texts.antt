-- The C file of an accepted program of a tree.
use Rattle.std.proofs.Common.{◌≡◌, ℕ, zero, suc, ℤ, List, [], ◌∷◌, refl, ◌∙◌, subst, sym}
use Rattle.std.specs.Prelude.{◌↔◌, Some, slice_get}
use Rattle.bl_cause_trees.specs.Peeled.{ArePeeled, IsPeeledUnit, clean, of_function, too_large, with_turns}
use Rattle.bl_ctext_semantics.specs.Parts.{parts_of}
use Rattle.bl_ctext.specs.declared.file.CFile.{CFile}
use Rattle.bl_ctree.specs.Means.{Means, ShownTrace}
use Rattle.bl_emit_simplified.specs.Written.{IsWrittenOf}
use Rattle.bl_rules.specs.Accepted.{IsAcceptedSource, IsOfTree, SeenSource}
use Rattle.bl_rules_laws.specs.Traces.OneTrace.{SourceHasOneTrace, TreesHaveOneTrace}
use Rattle.bl_rules_laws.specs.Traces.Peeled.{PeeledMeanTheSame}
use Rattle.bl_top.specs.inner.Programs.{IsFileOfProgram}
use Rattle.bl_tree.specs.Ports.{RowsFit, input_columns, output_columns}
use Rattle.bl_tree.specs.declared.tree.StructDef.{StructDef}
use Rattle.bl_tree.specs.declared.tree.Unit.{Unit as UnitDef}

-- ---- the entry among the peeled units

-- a unit and its peeled unit have the same inputs and outputs
same_inputs : (unit peeled_unit : UnitDef) → IsPeeledUnit unit peeled_unit → input_columns peeled_unit ≡ input_columns unit
same_inputs unit _ (of_function is) = refl
same_inputs unit _ (clean none) = refl
same_inputs unit _ (too_large many) = refl
same_inputs unit _ (with_turns is walk few) = refl

same_outputs : (unit peeled_unit : UnitDef) → IsPeeledUnit unit peeled_unit → output_columns peeled_unit ≡ output_columns unit
same_outputs unit _ (of_function is) = refl
same_outputs unit _ (clean none) = refl
same_outputs unit _ (too_large many) = refl
same_outputs unit _ (with_turns is walk few) = refl

-- the unit whose peeled unit stands at the position
record HasUnit (units : List UnitDef) (at : ℕ) (peeled_unit : UnitDef) : Type 0 where
  unit : UnitDef
  stands : slice_get units at ≡ Some unit
  is_peeled : IsPeeledUnit unit peeled_unit

unit_of : (units peeled : List UnitDef) (at : ℕ) (peeled_unit : UnitDef) → ArePeeled units peeled → slice_get peeled at ≡ Some peeled_unit →
    HasUnit units at peeled_unit
unit_of [] [] at peeled_unit are is = absurd cc
unit_of [] (first ∷ peeled) at peeled_unit are is = absurd are
unit_of (unit ∷ units) [] at peeled_unit are is = absurd are
unit_of (unit ∷ units) (first ∷ peeled) zero peeled_unit are is =
    let same : first ≡ peeled_unit = cc in
    record { unit = unit; stands = refl; is_peeled = subst (IsPeeledUnit unit) same are.0 }
unit_of (unit ∷ units) (first ∷ peeled) (suc at) peeled_unit are is =
    let more = unit_of units peeled at peeled_unit are.1 is in
    record { unit = more.unit; stands = more.stands; is_peeled = more.is_peeled }

-- ---- the file

-- a file that is written of the peeled program is one of a program that means the same
file_shows : (structs : List StructDef) (units : List UnitDef) (entry : ℕ) (peeled : List UnitDef) (file : CFile) → ArePeeled units peeled →
    SourceHasOneTrace structs units entry peeled →
    ((rows : List (List ℤ)) (shows : ShownTrace) → Means structs units entry rows shows ↔ Means structs peeled entry rows shows) →
    IsWrittenOf structs peeled entry (parts_of file) → IsFileOfProgram structs units entry file
file_shows structs units entry peeled file are one same shows =
    let has = unit_of units peeled entry shows.unit are shows.is_entry in
    record {
      well_formed = shows.well_formed;
      one_trace = record {
        unit = has.unit;
        is_entry = has.stands;
        peeled = peeled;
        are_peeled = are;
        counted = shows.counted;
        small = shows.small;
        inputs = shows.inputs ∙ same_inputs has.unit shows.unit has.is_peeled;
        outputs = shows.outputs ∙ same_outputs has.unit shows.unit has.is_peeled;
        trace = λ rows row_shows fit.
            let means = same rows row_shows in
            let told = shows.trace rows row_shows (subst (λ columns. RowsFit columns rows) (sym (same_inputs has.unit shows.unit has.is_peeled)) fit) in
            (λ allowed. told.0 (means.0 allowed), λ is. means.1 (told.1 is));
        bounded = one.bounded;
        never_stuck = one.never_stuck;
      };
      functions = shows.functions;
      frames = shows.frames;
      emitted = shows.emitted;
      simplified = shows.simplified;
      blocks = shows.blocks;
    }

pub file_of_source : (accepted : SeenSource) (file : CFile) → IsAcceptedSource accepted → IsOfTree accepted.program → TreesHaveOneTrace →
    PeeledMeanTheSame → IsWrittenOf accepted.peeled.program.structs accepted.peeled.program.units accepted.peeled.program.entry (parts_of file) →
    IsFileOfProgram accepted.program.structs accepted.program.units accepted.program.entry file
file_of_source accepted file is of one means shows =
    let program = accepted.program in
    let peeled = accepted.peeled.program in
    file_shows program.structs program.units program.entry peeled.units file is.is_peeled.units (one program peeled.units of is.is_peeled.units)
    (means program peeled.units of is.is_peeled.units)
    (subst (λ structs. IsWrittenOf structs peeled.units program.entry (parts_of file)) is.is_peeled.structs
    (subst (λ entry. IsWrittenOf peeled.structs peeled.units entry (parts_of file)) is.is_peeled.entry shows))
