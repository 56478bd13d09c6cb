-- The laws of the C of a program's parts together.
use Rattle.std.proofs.Common.{◌≡◌, ◌↔◌, ◌&&◌, ◌≤◌, ℕ, ℤ, true, Contains, List, [], ◌∷◌, length, Option, None, Some, refl, sym, ap, subst, ◌∙◌}
use Rattle.std.specs.Prelude.{codes, is_none, is_some, slice_get}
use Rattle.std.specs.List.{list_all}
use Rattle.bl_tree.proofs.Basics.{and_first}
use Rattle.bl_tree.specs.declared.c.CFunc.{CFunc}
use Rattle.bl_tree.specs.declared.c.CStmt.{CStmt}
use Rattle.bl_tree.specs.declared.c.CType.TheVariants.{Struct as OfStruct}
use Rattle.bl_tree.specs.declared.program.Program.{Program}
use Rattle.bl_tree.specs.declared.rule.Rule.TheVariants as rule
use Rattle.bl_tree.specs.declared.text.Text.{Text}
use Rattle.bl_tree.specs.declared.tree.StructDef.{StructDef}
use Rattle.bl_tree.specs.declared.tree.Unit.{Unit as UnitDef}
use Rattle.bl_tree.specs.declared.tree.Var.{Var}
use Rattle.bl_tree.specs.Ports.{RowsFit, input_columns}
use Rattle.bl_tree.specs.Program.{is_entry, parameters_of}
use Rattle.bl_tree.specs.Types.{scalar_in}
use Rattle.bl_tree.specs.Typing.{is_activity}
use Rattle.bl_effects.specs.Rules.{Passes}
use Rattle.bl_limits.specs.Rules.{Passes as KeepsLimits}
use Rattle.bl_limits_measures.specs.Uses.{UsesEarlier}
use Rattle.bl_limits_measures_laws.specs.Laws.{UnitsUseEarlierOnes}
use Rattle.bl_cause.specs.Activities.{activities as list_of_activities, graph_position}
use Rattle.bl_ctree.specs.Instances.{Setting, setting_of, unit_at}
use Rattle.bl_ctree.specs.Means.{Means, ShownTrace, shown_trace}
use Rattle.bl_ctree_laws_confluence.specs.Deeds.Origins.{InstancesHaveCallers}
use Rattle.bl_ctext.specs.Spellable.{is_spellable}
use Rattle.bl_ctext_semantics.specs.Faults.{WellFormed, parameters_and_locals}
use Rattle.bl_ctext_semantics.specs.Parts.{Parts, parts_from}
use Rattle.bl_ctext_semantics.specs.Sizes.{cells_needed}
use Rattle.bl_ctext_semantics.specs.Tables.{table_of}
use Rattle.bl_ctext_semantics.specs.Trace.{c_trace}
use Rattle.bl_machine.specs.declared.machine.Activity.{Activity as InMachine}
use Rattle.bl_machine.specs.Machines.{AreActivitiesOf}
use Rattle.bl_machine_pass_laws_execution.specs.Runs.{RunByRules}
use Rattle.bl_emit_acts.specs.Types.{unit_name}
use Rattle.bl_emit_functions_laws_simulation.specs.Units.{NoneOverlaps}
use Rattle.bl_emit_spec.specs.Lent.{lent_unit, shown_units}
use Rattle.bl_emit_spec.specs.Names.{frame_name}
use Rattle.bl_emit_spec.specs.Programs.{Written, file_of, needed_units, written, written_at, written_of}
use Rattle.bl_emit_spec_laws.specs.Calls.Built.{Activities, cleared, rank_by, slots_by}
use Rattle.bl_emit_spec_laws.specs.Calls.Laws.{CompilationContext}
use Rattle.bl_emit_spec_laws_simulation.specs.Simulation.{CompiledSimulate}
use Rattle.bl_emit_spec_laws_simulation.specs.Compiled.{ProgramsCompile}
use Rattle.bl_emit_spec_laws_files.specs.Entry.{EntryRuns}
use Rattle.bl_emit_spec_laws_files.specs.Files.{FileShows, RowsSuffice}
use Rattle.bl_emit_spec_laws.specs.Tables.Laws.{ActivitiesBuilt}
use Rattle.bl_emit_laws.specs.Accepted.{ProgramsWellFormed}
use Rattle.bl_emit_laws.specs.Cells.{FilesCount, FilesSmall}
use Rattle.bl_emit_laws.specs.Counters.Flags.{HasFlagForEach}
use Rattle.bl_emit_laws.specs.Counters.Ifs.{EachFunctionHasIfs, FunctionHasIfs}
use Rattle.bl_emit_laws.specs.Counters.Laws.{FilesHaveIfs, FilesOwn}
use Rattle.bl_emit_laws.specs.Counters.Own.{FunctionsOwn, HasOneFunctionAndFrame, NamesItsOwn}
use Rattle.bl_ctext_places.specs.Places.{CPath}
use Rattle.bl_emit_laws.specs.Kept.{activities_in, shown_file, written_file}
use Rattle.bl_emit_laws.specs.Shows.{WrittenShows}
use Rattle.bl_emit_laws.specs.Spelled.{ProgramsSpelled}
use Rattle.bl_emit_laws.specs.Width.{EachFrameHasWidth, FrameHasWidth, FramesHaveWidth}
use Rattle.bl_emit_file.specs.Laws.{Known, ProgramsShow}
use Rattle.bl_emit_file.specs.Shows.{ShowsProgram}
use Rattle.bl_emit_file.proofs.OnShown.Instances.{instances_same, low, unit_shown}
use Rattle.bl_emit_file.proofs.OnShown.Machines.{machine_of, parts_of_machine, shown_agrees, shown_position, taken_there}
use Rattle.bl_emit_file.proofs.OnShown.Rules.{same_cells, shown_countable, shown_limits, shown_passes, shown_text}
use Rattle.bl_emit_file.proofs.OnShown.Runs.{entry_is, run_is_shown}
use Rattle.bl_emit_file.proofs.OnShown.Typed.{shown_typed}
use Rattle.bl_emit_file.proofs.OnShown.Units.{Shown, ShownAs, are_shown, shown_among, shown_entry, shown_there}

-- ---- the entry

entry_there : (o : Option UnitDef) → is_entry o ≡ true → (unit : UnitDef) × (o ≡ Some unit)
entry_there None h = absurd (cc)
entry_there (Some unit) h = (unit, refl)

-- ---- the file

-- what the laws of its parts give
pub record Laws : Type 0 where
  pub built : ActivitiesBuilt
  pub compile : (program : Program) → ProgramsCompile program.structs program.units program.entry
  pub come : (program : Program) → CompiledSimulate program.structs program.units program.entry
  pub rows : RowsSuffice
  pub runs : EntryRuns
  pub shows : (program : Program) → WrittenShows program
  pub formed : (program : Program) → ProgramsWellFormed program
  pub count : (program : Program) → FilesCount program
  pub small : (program : Program) → FilesSmall program
  pub own : (program : Program) → FilesOwn program
  pub ifs : (program : Program) → FilesHaveIfs program
  pub wide : (program : Program) → FramesHaveWidth program
  pub earlier : UnitsUseEarlierOnes
  pub callers : InstancesHaveCallers

-- ---- what a file that shows the shown units has of the units

owns_one : {unit one : UnitDef} {file : Parts} → ShownAs unit one → HasOneFunctionAndFrame one file → HasOneFunctionAndFrame unit file
owns_one ShownAs.as_it_is has = has
owns_one ShownAs.lent has = record { function = has.function; functions = has.functions; frame = has.frame; frames = has.frames }

names_own : {units : List UnitDef} {unit one : UnitDef} {function : CFunc} {place : CPath} → ShownAs unit one → Contains units unit →
    is_activity one.kind ≡ true → function.name ≡ unit_name one.name →
    table_of (parameters_and_locals function) (codes "f") ≡ Some (record { pointer = true; ty = OfStruct (frame_name one.name) }) →
    (counter : Text) → place ≡ record { through = true; name = codes "f"; members = counter ∷ [] } → NamesItsOwn units function place
names_own {unit = unit} ShownAs.as_it_is has active named pointer counter is =
    record { activity = unit; is_there = has; active = active; named = named; pointer = pointer; counter = counter; is = is }
names_own {unit = unit} ShownAs.lent has active named pointer counter is =
    record { activity = unit; is_there = has; active = active; named = named; pointer = pointer; counter = counter; is = is }

has_width : {unit one : UnitDef} {file : Parts} → ShownAs unit one → FrameHasWidth file one → FrameHasWidth file unit
has_width ShownAs.as_it_is has = has
has_width ShownAs.lent has = record { frame = has.frame; there = has.there; named = has.named; counters = has.counters }

has_flags : {unit one : UnitDef} {part : InMachine} {function : CFunc} {ifs : List CStmt} → ShownAs unit one → HasFlagForEach one part function ifs →
    HasFlagForEach unit part function ifs
has_flags ShownAs.as_it_is has = has
has_flags ShownAs.lent has =
    record { own = has.own; each = has.each; all = has.all; many = has.many; asked = has.asked; decided = has.decided }

has_ifs : {unit one : UnitDef} {part part' : Option InMachine} {file : Parts} → ShownAs unit one →
    ((found : InMachine) → part' ≡ Some found → part ≡ Some found) → FunctionHasIfs one part' file → FunctionHasIfs unit part file
has_ifs ShownAs.as_it_is same has = record {
  one = has.one;
  is = same has.one has.is;
  function = has.function;
  functions = has.functions;
  body = has.body;
  flags = has.flags;
}
has_ifs ShownAs.lent same has = record {
  one = has.one;
  is = same has.one has.is;
  function = has.function;
  functions = has.functions;
  body = has.body;
  flags = has_flags ShownAs.lent has.flags;
}

-- ---- a program as it is shown

module _ (program : Program) (machine : List InMachine) (known : Known program machine) where
  abbrev structs : List StructDef
  structs = program.structs

  abbrev units : List UnitDef
  units = program.units

  abbrev entry : ℕ
  entry = program.entry

  abbrev W : Setting
  W = setting_of structs units entry

  abbrev activities : Activities
  activities = activities_in program machine

  abbrev file : Parts
  file = written_file program machine

  module _ (unit : UnitDef) (there : slice_get units entry ≡ Some unit) where
    abbrev shown : List UnitDef
    shown = shown_units units entry

    are : Shown units entry shown
    are = are_shown units entry unit there

    active : is_activity unit.kind ≡ true
    active =
        and_first (is_activity unit.kind) (is_none unit.result && list_all (λ (var : Var). is_some (scalar_in var.ty)) (parameters_of unit))
        (subst (λ o. is_entry o ≡ true) there known.well_typed.entry_stands)

    abbrev program' : Program
    program' = record {
      structs = structs;
      units = shown;
      entry = entry;
      well_typed = shown_typed structs units shown entry unit are there known.well_typed;
    }

    abbrev machine' : List InMachine
    machine' = machine_of shown machine

    abbrev W' : Setting
    W' = setting_of structs shown entry

    abbrev activities' : Activities
    activities' = activities_in program' machine'

    abbrev file' : Parts
    file' = shown_file program' unit machine'

    written_is : written program machine ≡ written_of program' unit machine'
    written_is =
        ap (written_at program machine) there
        ∙ ap (λ parts. file_of structs shown entry parts unit) (parts_of_machine structs [] [] shown (needed_units shown entry) machine)

    passes : Passes shown
    passes = shown_passes are known.passes

    limits : KeepsLimits structs shown entry
    limits = shown_limits are structs known.limits

    agrees : AreActivitiesOf shown machine'
    agrees = shown_agrees are machine known.agrees

    lent : slice_get shown entry ≡ Some (lent_unit unit)
    lent = shown_entry are unit there

    none_overlap : NoneOverlaps shown
    none_overlap at also fails = passes rule.Alias at also fails

    -- what is written has a spelling
    pub spelled : ((program : Program) → ProgramsSpelled program) →
        is_spellable (written program machine).structs (written program machine).funcs ≡ true
    spelled all =
        subst (λ (it : Written). is_spellable it.structs it.funcs ≡ true) (sym written_is)
        (all program' machine' unit program'.well_typed passes limits agrees lent)

    module _ (laws : Laws) where
      uses : UsesEarlier units
      uses = laws.earlier structs units known.well_typed.units_stand

      compiled : CompilationContext structs units entry machine activities
      compiled =
          laws.compile program machine activities known.well_typed known.passes known.text known.agrees (laws.built structs units machine known.agrees)
          known.countable

      compiled' : CompilationContext structs shown entry machine' activities'
      compiled' =
          laws.compile program' machine' activities' program'.well_typed passes (shown_text are known.text) agrees
          (laws.built structs shown machine' agrees) (shown_countable are known.countable)

      formed : WellFormed file'
      formed = laws.formed program' machine' unit program'.well_typed passes limits agrees lent

      shows : FileShows W' activities' unit file'
      shows =
          laws.shows program' machine' unit compiled' lent none_overlap (laws.come program' machine' activities' limits compiled') formed

      -- ---- traces

      by_rules : (rows : List (List ℤ)) → RowsFit (input_columns unit) rows →
          RunByRules structs units entry (rank_by W activities) (slots_by W activities) (cleared W) unit rows (λ i c. 0)
      by_rules rows fit =
          laws.runs structs units entry machine activities unit rows (λ i c. 0) compiled (entry_is structs units entry unit there)
          (laws.rows structs units entry unit rows known.well_typed there fit) refl

      traced : (rows : List (List ℤ)) (seen : ShownTrace) → RowsFit (input_columns unit) rows →
          Means structs units entry rows seen ↔ (seen ≡ shown_trace (c_trace file' rows))
      traced rows seen fit =
          let run = by_rules rows fit in
          let over = run_is_shown structs units entry unit there active shown are uses laws.callers machine rows (λ i c. 0) run.one.trace run.run in
          let same : c_trace file' rows ≡ run.one.trace = shows.trace rows (λ i c. 0) over.0 fit (λ i c. refl) over.1 ∙ over.2 in (
            λ means. run.one.only seen means ∙ ap shown_trace (sym same),
            λ is. subst (Means structs units entry rows) (sym (is ∙ ap shown_trace same)) run.one.means,
          )

      -- ---- functions and frames

      in_shown : (i : ℕ) (one : UnitDef) → unit_at W i ≡ Some one → (other : UnitDef) × (unit_at W' i ≡ Some other) × ShownAs one other
      in_shown = unit_shown structs units entry unit there shown are uses laws.callers

      owns : FunctionsOwn structs units entry file'
      owns =
          let own = laws.own program' machine' unit program'.well_typed passes agrees lent formed in record {
            each = λ i activity at. let found = in_shown i activity at in owns_one found.2 (own.each i found.0 found.1);
            own = λ function place has in_it counts.
                let named = own.own function place has in_it counts in
                let found = shown_among are named.activity named.is_there in
                names_own found.is found.is_there named.active named.named named.pointer named.counter named.is;
            alone = own.alone;
          }

      wide : EachFrameHasWidth structs units entry file'
      wide i activity at =
          let found = in_shown i activity at in has_width found.2 (laws.wide program' machine' unit compiled' lent i found.0 found.1)

      each_ifs : EachFunctionHasIfs structs units entry machine file'
      each_ifs i instance activity at is =
          let same = instances_same structs units entry unit there shown are uses laws.callers in
          let few = (low structs units entry unit there shown are uses laws.callers i instance at).few in
          let found = shown_there are instance.unit activity few is in
          has_ifs found.2 (λ part stands.
          ap (slice_get machine) (sym (shown_position are instance.unit few))
          ∙ taken_there (length (list_of_activities shown)) machine (graph_position shown instance.unit) part stands)
          (laws.ifs program' machine' unit program'.well_typed passes agrees lent formed i instance found.0
          (ap (λ all. slice_get all i) same ∙ at) found.1)

      shown_whole : ShowsProgram structs units entry file'
      shown_whole = record {
        unit = unit;
        is_entry = there;
        well_formed = formed;
        counted = subst (λ n. cells_needed file' ≤ n) (same_cells are structs)
            (laws.count program' machine' unit program'.well_typed limits agrees lent);
        small = laws.small program' machine' program'.well_typed passes limits agrees unit lent;
        inputs = shows.inputs;
        outputs = shows.outputs;
        functions = owns;
        frames = wide;
        blocks = record { machine = machine; agrees = known.agrees; merged = known.merged; each = each_ifs };
        trace = traced;
      }

      pub whole : ShowsProgram structs units entry file
      whole = subst (ShowsProgram structs units entry) (ap (λ (it : Written). parts_from it.structs it.funcs) (sym written_is)) shown_whole

  pub shows_program : Laws → ShowsProgram structs units entry file
  shows_program laws = let found = entry_there (slice_get units entry) known.well_typed.entry_stands in whole found.0 found.1 laws

  pub spelled_program : ((program : Program) → ProgramsSpelled program) →
      is_spellable (written program machine).structs (written program machine).funcs ≡ true
  spelled_program = let found = entry_there (slice_get units entry) known.well_typed.entry_stands in spelled found.0 found.1

-- what is written of an accepted program's machine shows the program
pub file_shows : (program : Program) (machine : List InMachine) (made : Written) → ProgramsShow program →
    Known program machine → made ≡ written program machine →
    ShowsProgram program.structs program.units program.entry (parts_from made.structs made.funcs)
file_shows program machine made show known same =
    subst (λ (it : Written). ShowsProgram program.structs program.units program.entry (parts_from it.structs it.funcs)) (sym same)
    (show machine known)
