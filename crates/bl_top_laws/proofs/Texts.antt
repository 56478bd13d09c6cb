-- What is built of a source is correct for it.
use Rattle.std.proofs.Common.{◌≡◌, ℕ, ℤ, List, refl, sym, subst}
use Rattle.std.specs.Prelude.{Option, Some}
use Rattle.bl_ctext_semantics.specs.Parts.{parts_of}
use Rattle.bl_ctext_semantics_laws_places.specs.Behaviour.{Behaviour, behaviour_of}
use Rattle.bl_ctree.specs.Means.{shown_trace}
use Rattle.bl_ctree_laws_traces.specs.Traces.OneTrace.{OneTrace as MeansOneTrace}
use Rattle.bl_parse_tree.specs.declared.raw.Raw.{Raw}
use Rattle.bl_rules.specs.Accepted.{HasTree}
use Rattle.bl_top_commands.specs.Sources.{IsRawTreeOf, IsTextOfProgram}
use Rattle.bl_top_commands.specs.Traces.{OneTrace}
use Rattle.bl_top_laws.specs.Correct.{BuiltTextsAreCorrect}
use Rattle.bl_top_laws.specs.Theorem.{Correct}
use Rattle.bl_tree.specs.declared.tree.StructDef.{StructDef}
use Rattle.bl_tree.specs.declared.tree.Unit.{Unit as UnitDef}
use Rattle.bl_tree.specs.Ports.{RowsFit, input_columns}
use Rattle.bl_types_program.specs.Programs.{typed_of}
use Rattle.bl_top_commands.proofs.Resumes.{told_source}

-- a tree of a source whose content is told is one of that content
pub tree_of_source : (left : Option (List ℕ)) (source : List ℕ) (raw : Raw) → left ≡ Some source → IsRawTreeOf left raw → HasTree source raw
tree_of_source left source raw stands is =
    subst (λ text. HasTree text raw) (sym (told_source left source is.source stands is.of_source)) is.has

-- the file that a text spells has the one trace of the program that the text is of
shows_trace : (structs : List StructDef) (units : List UnitDef) (entry : ℕ) (text : List ℕ) (is : IsTextOfProgram structs units entry text) →
    OneTrace structs units entry (behaviour_of (parts_of is.behaves.file))
shows_trace structs units entry text is = subst (λ (b : Behaviour). OneTrace structs units entry b) is.behaves.is is.one_trace

-- where the semantics allows a trace iff it is that of a file, it allows exactly one
one_over_rows : (structs : List StructDef) (units : List UnitDef) (entry : ℕ) (behaviour : Behaviour)
    (one : OneTrace structs units entry behaviour) (rows : List (List ℤ)) → RowsFit (input_columns one.unit) rows →
    MeansOneTrace structs units entry rows
one_over_rows structs units entry behaviour one rows fit = record {
  trace = behaviour.trace rows;
  means = (one.trace rows (shown_trace (behaviour.trace rows)) fit).1 refl;
  only = λ shows means. (one.trace rows shows fit).0 means;
}

correct_text : (source text : List ℕ) (raw : Raw) → HasTree source raw →
    IsTextOfProgram (typed_of raw).structs (typed_of raw).units (typed_of raw).entry text → Correct source text
correct_text source text raw has is =
    let behaviour = behaviour_of (parts_of is.behaves.file) in
    let one = shows_trace (typed_of raw).structs (typed_of raw).units (typed_of raw).entry text is in
    record {
      passes = has.passes;
      tree = raw;
      parses = has.parses;
      p = typed_of raw;
      is_program = refl;
      entry = one.unit;
      is_entry = one.is_entry;
      file = is.behaves.file;
      spells = is.behaves.spells;
      well_formed = is.behaves.well_formed;
      inputs = one.inputs;
      outputs = one.outputs;
      trace = one.trace;
      one = one_over_rows (typed_of raw).structs (typed_of raw).units (typed_of raw).entry behaviour one;
      peeled = one.peeled;
      are_peeled = one.are_peeled;
      bounded = one.bounded;
      never_stuck = one.never_stuck;
    }

pub built_correct : BuiltTextsAreCorrect
built_correct source text is =
    correct_text source text is.raw (tree_of_source (Some source) source is.raw refl is.tree) is.is.is
