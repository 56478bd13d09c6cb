-- The chain that the C function of a function heads has no more cells than rule Cells counts.
use Rattle.std.proofs.Common.{◌≡◌, ℕ, zero, suc, ◌+◌, ◌*◌, ◌<◌, ◌≤◌, Bool, true}
use Rattle.std.proofs.Common.{false, not, ◌&&◌, ◌||◌, List, [], ◌∷◌, map, take}
use Rattle.std.proofs.Common.{length, Option, Some, None, refl, sym, ap, ◌∙◌, subst, arith}
use Rattle.std.proofs.lemmas.List.{get_or-take, take-append-drop}
use Rattle.std.proofs.lemmas.List.Folds.{list_all-append}
use Rattle.std.specs.List.{list_all}
use Rattle.std.specs.Prelude.{is_none, slice_get, slice_index, unwrap_or, if◌then◌else◌}
use Rattle.bl_tree.proofs.Basics.{and_first, and_second}
use Rattle.bl_tree.specs.declared.c.CLocal.{CLocal}
use Rattle.bl_tree.specs.declared.scalar.Scalar.{Scalar as ScalarType}
use Rattle.bl_tree.specs.declared.text.Text.{Text}
use Rattle.bl_tree.specs.declared.tree.StructDef.{StructDef}
use Rattle.bl_tree.specs.declared.tree.Unit.{Unit as UnitDef}
use Rattle.bl_tree.specs.declared.tree.UnitKind.{UnitKind}
use Rattle.bl_tree.specs.declared.tree.UnitKind.TheVariants.{Function, Activity}
use Rattle.bl_tree.specs.declared.tree.Var.{Var}
use Rattle.bl_tree.specs.Program.{IsWellTyped, is_output, locals_of, parameters_of}
use Rattle.bl_tree.specs.Reduce.{greatest, total}
use Rattle.bl_tree.specs.Types.{scalar_in, type_stands}
use Rattle.bl_tree.specs.Typing.{TypingContext, is_activity, site_of}
use Rattle.bl_eval.proofs.PassLemmas.{all_at}
use Rattle.bl_limits_measures.specs.Calls.{calls_of}
use Rattle.bl_limits_measures.specs.Runs.{activities_by_place}
use Rattle.bl_limits_measures.specs.Statements.{cell_statements_of}
use Rattle.bl_limits_measures.specs.Types.{size, size_by, struct_sizes}
use Rattle.bl_limits_measures.specs.Units.{all_cells, cells_at, cells_by, cells_with, total_at, variables_of}
use Rattle.bl_limits_measures.proofs.TableLemmas.{answer_at}
use Rattle.bl_ctext_semantics.specs.Calls.{calls_in_block, most}
use Rattle.bl_ctext_semantics.specs.Loops.{turns_in_block}
use Rattle.bl_ctext_semantics.specs.Sizes.{Sizes, chain_cells, own_cells, size_of_param, size_of_type}
use Rattle.bl_ctext_semantics.specs.Tables.{Table, entry_or}
use Rattle.bl_emit_acts.specs.Acts.{name_of_callee}
use Rattle.bl_emit_acts.specs.Expressions.{function_name}
use Rattle.bl_emit_acts.specs.Types.{c_type, unit_name}
use Rattle.bl_emit_acts_laws_wellformed.proofs.OnFormed.Units.{roles_at, vars_stand}
use Rattle.bl_emit_functions.specs.Functions.{body_coded, flag_local, flag_locals, function_code, has_local, holds_any, locals_from, memory_local}
use Rattle.bl_emit_functions.specs.Functions.{memory_name, none_taken, param_of, params_from, variable_local, variable_locals, whole_code}
use Rattle.bl_emit_functions_laws_wellformed.proofs.OnCells.Totals.{total-both, total-made, total-split}
use Rattle.bl_emit_functions_laws_wellformed.proofs.OnFormed.Counters.{turns_are}
use Rattle.bl_emit_functions_laws_wellformed.proofs.OnFormed.Kept.{every, locals_made, params_made}
use Rattle.bl_emit_functions_laws_wellformed.proofs.OnFormed.Locals.{locals_behind}
use Rattle.bl_emit_functions_laws_wellformed.proofs.OnFormed.Turns.{body_counted, numbered}
use Rattle.bl_emit_functions_laws_wellformed.proofs.OnFiles.Chains.{code_few, taken}
use Rattle.bl_emit_functions_laws_wellformed.specs.Numbered.{IsCounted, TypesHaveScalars, UnitsCounted}
use Rattle.bl_emit_functions_laws_wellformed.specs.Cells.{CellsFollow, CellsKnown, SizesKnown}

-- ---- turns

numbered-length : (t n : ℕ) → length (numbered t n) ≡ n
numbered-length t zero = refl
numbered-length t (suc n) = ap suc (numbered-length (t + 1) n)

module _ (site : TypingContext) (unit : UnitDef) where
  -- the loops are as many as the turns that are taken
  turns-count : length (turns_in_block (whole_code site unit)) ≡ (body_coded site unit).free.turns
  turns-count =
      let after = (body_counted site unit.body).after none_taken in
      ap length (turns_are site unit) ∙ numbered-length 0 ((body_counted site unit.body).count none_taken) ∙ omega (arith, after)

-- ---- parameters and locals

module _ (structs : List StructDef) (units : List UnitDef) (entry : ℕ) (keeps : IsWellTyped structs units entry)
    (scalars : TypesHaveScalars structs units entry) (known : Sizes) (sizes : SizesKnown structs units known) where
  param-by : (var : Var) (s : Option ScalarType) (out : Bool) → type_stands (length structs) var.ty ≡ true → scalar_in var.ty ≡ s →
      (if out || is_none s then 1 else size_of_type known (c_type structs var.ty)) ≤ size structs var.ty
  param-by var None true stands is = scalars var.ty keeps stands
  param-by var None false stands is = scalars var.ty keeps stands
  param-by var (Some s) true stands is = scalars var.ty keeps stands
  param-by var (Some s) false stands is = sizes.types var.ty stands

  -- how many scalars variables have together
  abbrev scalars_in : List Var → ℕ
  scalars_in vars = total (map (λ (var : Var). size_by (struct_sizes structs) var.ty) vars)

  -- how many scalars a local has
  abbrev local_size : CLocal → ℕ
  local_size l = size_of_type known l.ty

  -- whether a variable's type is one of the program's
  abbrev is_standing : Var → Bool
  is_standing var = type_stands (length structs) var.ty

  params-less : (all vars : List Var) → list_all is_standing vars ≡ true →
      total (map (size_of_param known) (params_from structs all 0 vars)) ≤ scalars_in vars
  params-less all vars stand =
      subst (λ params. total (map (size_of_param known) params) ≤ scalars_in vars) (sym (params_made structs all 0 vars))
      (total-made (size_of_param known) (λ (var : Var). size_by (struct_sizes structs) var.ty) every (param_of structs all) 0 vars
      (λ k j var found. param-by var (scalar_in var.ty) (is_output var.role) (all_at is_standing vars j var stand found) refl))

  locals-less : (earlier : List UnitDef) (unit : UnitDef) (k : ℕ) (vars : List Var) → list_all is_standing vars ≡ true →
      total (map local_size (locals_from (site_of structs earlier unit) k vars)) ≤ scalars_in vars
  locals-less earlier unit k vars stand =
      let site : TypingContext = site_of structs earlier unit in
      subst (λ locals. total (map local_size locals) ≤ scalars_in vars) (sym (locals_made site k vars))
      (total-made local_size (λ (var : Var). size_by (struct_sizes structs) var.ty) (has_local site) (variable_local structs unit.vars) k vars
      (λ i j var found. sizes.types var.ty (all_at is_standing vars j var stand found)))

  flags-count : (n : ℕ) → total (map local_size (flag_locals n)) ≡ n
  flags-count zero = refl
  flags-count (suc n) =
      let split = total-both local_size (flag_locals n) (flag_local n ∷ []) in
      let rest = flags-count n in
      omega (arith, split, rest)

  module _ (k : ℕ) (unit : UnitDef) (there : slice_get units k ≡ Some unit) (function : is_activity unit.kind ≡ false)
      (counted : IsCounted structs (take k units) unit) where
    abbrev site : TypingContext
    site = site_of structs (take k units) unit

    memory-less : (holds : Bool) → total (map local_size (memory_local unit.name holds)) ≤ variables_of structs unit
    memory-less true =
        let own : entry_or 0 known (memory_name unit.name) ≤ variables_of structs unit = sizes.memories k unit there (ap not function) in
        omega (arith, own)
    memory-less false = omega arith

    -- the locals of variables stand behind the parameters, so both count no more than all variables
    single-less : total (map (size_of_param known) (params_from structs unit.vars 0 (parameters_of unit)))
        + total (map local_size (locals_from site 0 unit.vars))
        ≤ variables_of structs unit
    single-less =
        let n : ℕ = unit.inputs + unit.outputs in
        let stand : (list_all is_standing (parameters_of unit) && list_all is_standing (locals_of unit)) ≡ true =
        sym (list_all-append is_standing (parameters_of unit) (locals_of unit)) ∙ ap (list_all is_standing) (take-append-drop n unit.vars)
        ∙ vars_stand structs units entry keeps k unit there in
        let some = params-less unit.vars (parameters_of unit)
        (and_first (list_all is_standing (parameters_of unit)) (list_all is_standing (locals_of unit)) stand) in
        let others = locals-less (take k units) unit n (locals_of unit)
        (and_second (list_all is_standing (parameters_of unit)) (list_all is_standing (locals_of unit)) stand) in
        let behind : total (map local_size (locals_from site 0 unit.vars)) ≡ total (map local_size (locals_from site n (locals_of unit))) =
        ap (λ locals. total (map local_size locals)) (locals_behind structs (take k units) unit (roles_at structs units entry keeps k unit there)) in
        let all = total-split (λ (var : Var). size_by (struct_sizes structs) var.ty) n unit.vars in
        omega (arith, some, others, behind, all)

    own-less : own_cells known (function_code structs (take k units) unit) ≤ 2 * variables_of structs unit + cell_statements_of unit
    own-less =
        let flags : ℕ = (body_coded site unit).free.flags in
        let memory = memory-less (holds_any site unit.vars) in
        let single = single-less in
        let flagged = flags-count flags in
        let split = total-both local_size (variable_locals site unit) (flag_locals flags) in
        let variables = total-both local_size (memory_local unit.name (holds_any site unit.vars)) (locals_from site 0 unit.vars) in
        let turns = turns-count site unit in
        let numbers = counted.numbers in
        omega (arith, single, memory, flagged, split, variables, turns, numbers)

    module _ (chains : Table ℕ) (cells : CellsKnown structs units chains) where
      abbrev weight : Text → ℕ
      weight name = entry_or 0 chains name

      abbrev by : ℕ → ℕ
      by f = slice_index (take k (all_cells structs units)) f

      entry-none : (o : Option ℕ) → o ≡ None → unwrap_or o 0 ≡ 0
      entry-none None is = refl
      entry-none (Some n) is = absurd (cc)

      prelude-none : (word : Text) (s : ScalarType) → weight (function_name word s) ≡ 0
      prelude-none word s = entry-none (chains (function_name word s)) (cells.prelude word s)

      callee-by : (f : ℕ) (o : Option UnitDef) → slice_get (take k units) f ≡ o → weight (name_of_callee o) ≤ by f
      callee-by f None there = let none : weight (unit_name []) ≡ 0 = entry-none (chains (unit_name [])) cells.unnamed in omega (arith, none)
      callee-by f (Some callee) there =
          let found = taken units k f callee there in
          let less : f < k = found.0 in
          let most : weight (unit_name callee.name) ≤ cells_at structs units f = cells.of_units f callee found.1 in
          let same : by f ≡ cells_at structs units f = get_or-take k (all_cells structs units) f 0 less in
          omega (arith, most, same)

      -- the C function heads no chain of more cells than its unit has
      chain-less : chain_cells known chains (function_code structs (take k units) unit) ≤ cells_at structs units k
      chain-less =
          let n : ℕ = greatest (map by (calls_of unit)) in
          let all : most chains (calls_in_block (whole_code site unit)) ≤ n =
          code_few weight prelude-none site by (λ f. callee-by f (slice_get (take k units) f) refl) n unit (omega arith) in
          let is : cells_at structs units k ≡ cells_by (struct_sizes structs) (take k (all_cells structs units)) unit =
          answer_at (cells_by (struct_sizes structs)) units k unit 0 there in
          let counts : cells_by (struct_sizes structs) (take k (all_cells structs units)) unit
          ≡ 2 * variables_of structs unit + cell_statements_of unit + 1 + n =
          of_function unit.kind function (variables_of structs unit) (cell_statements_of unit)
          (total_at (take k (all_cells structs units)) (activities_by_place unit)) n in
          omega (arith, own-less, all, is, counts)
        where
          of_function : (kind : UnitKind) → is_activity kind ≡ false → (variables statements running calling : ℕ) →
              cells_with kind variables statements running calling ≡ 2 * variables + statements + 1 + calling
          of_function Function is variables statements running calling = refl
          of_function Activity is variables statements running calling = absurd (cc)

pub follow : (structs : List StructDef) (units : List UnitDef) (entry : ℕ) → TypesHaveScalars structs units entry →
    UnitsCounted structs units entry →
    CellsFollow structs units entry
follow structs units entry scalars counted k unit known chains keeps there function sizes cells =
    chain-less structs units entry keeps scalars known sizes k unit there function (counted k unit keeps there) chains cells
