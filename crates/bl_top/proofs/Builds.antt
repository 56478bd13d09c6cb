-- What is built, and what is run of it.
use Rattle.std.proofs.Common.{◌≡◌, ℕ, ◌≤◌, ◌<◌, List, length, refl, sym, subst, inl, inr, arith}
use Rattle.std.specs.Prelude.{◌⊎◌, ◌↔◌, Option, Some}
use Rattle.bl_ctext_semantics.specs.Faults.{WellFormed}
use Rattle.bl_ctext_semantics.specs.Parts.{Parts, parts_of}
use Rattle.bl_ctext_semantics.specs.Sizes.{cells_needed}
use Rattle.bl_ctext_semantics_laws_places.specs.Behaviour.{Behaviour, behaviour_of}
use Rattle.bl_ctext_semantics_laws_places.specs.Bytes.{Behaves}
use Rattle.bl_top_commands.specs.Calls.{Call}
use Rattle.bl_top_commands.specs.Exec.{ExecEnds, HasFile, Rejects, TextStops, ill_formed, no_file, no_memory, ran, rejected, stopped, too_long, too_many_cells}
use Rattle.bl_top_commands.specs.Exec.{unread, want}
use Rattle.bl_top_commands.specs.Notes.{line_of}
use Rattle.bl_top_commands.specs.Reads.{longest_text}
use Rattle.bl_top_commands.specs.Sources.{IsTextOf, IsTextOfProgram, RunsAs}
use Rattle.bl_top_commands.specs.Traces.{HasCourse, course_by}
use Rattle.bl_top_commands.specs.declared.status.Status.{Status}
use Rattle.bl_top_commands.specs.declared.status.Status.TheVariants as status
use Rattle.bl_ctext.specs.SpellsC.{SpellsC}
use Rattle.bl_ctext.specs.declared.file.CFile.{CFile}
use Rattle.bl_io.specs.Left.{IsKept}
use Rattle.bl_types_program.specs.Programs.{typed_of}
use Rattle.bl_top.specs.Build.{IsBuiltOfProgram}
use Rattle.bl_top.specs.Built.{BuiltEnds, ran as built_ran, unread as built_unread, want as built_want}
use Rattle.bl_top.specs.inner.Programs.{IsFileOfProgram}
use Rattle.bl_tree.specs.declared.tree.StructDef.{StructDef}
use Rattle.bl_tree.specs.declared.tree.Unit.{Unit as UnitDef}
use Rattle.bl_top_args.specs.Jobs.{Word}
use Rattle.bl_top.proofs.Courses.{BytesFit, LinesFit, course_of_behaviour, faultless, not_large}
use Rattle.bl_top_commands.proofs.Resumes.{told_source}

-- what spells the file of a program is built of it
pub text_of_file : (structs : List StructDef) (units : List UnitDef) (entry : ℕ) (file : CFile) (text : List ℕ) → SpellsC file text →
    IsFileOfProgram structs units entry file → IsBuiltOfProgram structs units entry text
text_of_file structs units entry file text spells has = record {
  is = record {
    behaviour = behaviour_of (parts_of file);
    behaves = record { file = file; spells = spells; well_formed = has.well_formed; is = refl };
    one_trace = has.one_trace;
  };
  functions = has.functions;
  frames = has.frames;
  emitted = has.emitted;
  simplified = has.simplified;
  blocks = has.blocks;
}

-- ---- what is run

-- bytes behave in one way
abbrev pub OneBehaviour : Type 0
OneBehaviour = (bytes : List ℕ) (behaviour other : Behaviour) → Behaves bytes behaviour → Behaves bytes other → behaviour ≡ other

-- and so does each file that they spell
abbrev pub EachBehaves : Type 0
EachBehaves = (file : CFile) (bytes : List ℕ) (behaviour : Behaviour) → SpellsC file bytes →
    Behaves bytes behaviour ↔ (WellFormed (parts_of file) × (behaviour ≡ behaviour_of (parts_of file)))

pub built_course : OneBehaviour → BytesFit → LinesFit → (structs : List StructDef) (units : List UnitDef) (entry : ℕ) (text : List ℕ)
    (behaviour : Behaviour) → IsTextOfProgram structs units entry text → Behaves text behaviour →
    HasCourse structs units entry (course_by behaviour)
built_course one fit so_far structs units entry text behaviour is behaves =
    subst (λ (b : Behaviour). HasCourse structs units entry (course_by b)) (one text is.behaviour behaviour is.behaves behaves)
    (course_of_behaviour structs units entry is.behaviour is.one_trace fit so_far)

pub built_runs : OneBehaviour → BytesFit → LinesFit → (left : Option (List ℕ)) (text : List ℕ) (behaviour : Behaviour) → IsTextOf left text →
    Behaves text behaviour → RunsAs left (course_by behaviour)
built_runs one fit so_far left text behaviour is behaves = record {
  raw = is.raw;
  tree = is.tree;
  has = built_course one fit so_far (typed_of is.raw).structs (typed_of is.raw).units (typed_of is.raw).entry text behaviour is.is behaves;
}

-- ---- what isn't

module _ (each : EachBehaves) (structs : List StructDef) (units : List UnitDef) (entry : ℕ) (text : List ℕ)
    (is : IsTextOfProgram structs units entry text) (file : Parts) (has : HasFile text file) where
  file_behaves : WellFormed (parts_of has.spelled) × (is.behaviour ≡ behaviour_of (parts_of has.spelled))
  file_behaves = (each has.spelled text is.behaviour has.spells).0 is.behaves

  file_formed : WellFormed file
  file_formed = subst WellFormed (sym has.parts) file_behaves.0

  file_small : cells_needed file ≤ 1000000
  file_small = subst (λ parts. cells_needed parts ≤ 1000000) (sym has.parts)
      (subst (λ (b : Behaviour). b.needed ≤ 1000000) file_behaves.1 is.one_trace.small)

pub built_rejected : EachBehaves → (structs : List StructDef) (units : List UnitDef) (entry : ℕ) (text : List ℕ) (ended : Status) (line : List ℕ) →
    IsTextOfProgram structs units entry text → Rejects text ended line →
    (longest_text < length text) ⊎ ((ended ≡ status.NoMemory) × (line ≡ line_of status.NoMemory))
built_rejected each structs units entry text _ _ is (too_long long) = inl long
built_rejected each structs units entry text _ _ is (no_file at fits shows) = absurd (shows.none is.behaves.file is.behaves.spells)
built_rejected each structs units entry text _ _ is (ill_formed file at has first) =
    absurd (faultless file at (file_formed each structs units entry text is file has) first)
built_rejected each structs units entry text _ _ is (too_many_cells file cells has large) =
    absurd (not_large (cells_needed file) large.large (file_small each structs units entry text is file has))
built_rejected each structs units entry text _ _ is no_memory = inr (refl, refl)

-- ---- how `exec` ends

pub within_limit : (text : List ℕ) → length text ≤ longest_text → longest_text < length text → ⊥
within_limit text fits long = omega (arith, fits, long)

unless_rejected : (left : Option (List ℕ)) (built : List ℕ) (c : Call) (text rows : Word) (ended : Status) (line : List ℕ) →
    length built ≤ longest_text → IsKept c.out.before c.out.after →
    (longest_text < length built) ⊎ ((ended ≡ status.NoMemory) × (line ≡ line_of status.NoMemory)) → BuiltEnds left c text rows ended line
unless_rejected left built c text rows ended line fits kept why = elim why [
  | inl long ↦ absurd (within_limit built fits long)
  | inr none ↦ rw (none.0, none.1) (built_want kept)
]

built_stops : EachBehaves → (left : Option (List ℕ)) (built : List ℕ) (c : Call) (text rows : Word) (ended : Status) (line : List ℕ) →
    IsTextOf left built → c.left text ≡ Some built → length built ≤ longest_text → TextStops (c.left text) (c.file text) ended line →
    IsKept c.out.before c.out.after → BuiltEnds left c text rows ended line
built_stops each left built c text rows ended line is stands fits (rejected bytes source rejects) kept =
    let same = told_source (c.left text) built bytes stands source in
    unless_rejected left built c text rows ended line fits kept
    (built_rejected each (typed_of is.raw).structs (typed_of is.raw).units (typed_of is.raw).entry built ended line is.is
    (subst (λ b. Rejects b ended line) (sym same) rejects))
built_stops each left built c text rows _ _ is stands fits (unread risen) kept = built_unread risen kept
built_stops each left built c text rows _ _ is stands fits want kept = built_want kept

pub built_ends : OneBehaviour → EachBehaves → BytesFit → LinesFit → (left : Option (List ℕ)) (built : List ℕ) (c : Call) (text rows : Word)
    (ended : Status) (line : List ℕ) → IsTextOf left built → c.left text ≡ Some built → length built ≤ longest_text →
    ExecEnds c text rows ended line → BuiltEnds left c text rows ended line
built_ends one each fit so_far left built c text rows ended line is stands fits (ran bytes behaviour source loads between behind over) =
    let same = told_source (c.left text) built bytes stands source in
    built_ran (course_by behaviour)
    (built_runs one fit so_far left built behaviour is (subst (λ b. Behaves b behaviour) (sym same) loads.behaves)) between behind over
built_ends one each fit so_far left built c text rows ended line is stands fits (stopped why kept) =
    built_stops each left built c text rows ended line is stands fits why kept
