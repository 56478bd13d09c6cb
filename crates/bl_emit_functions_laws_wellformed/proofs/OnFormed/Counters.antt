-- The turns of a function's loops, among the names of its parameters and locals.
use Rattle.std.proofs.Common.{◌≡◌, ℕ, zero, suc, ◌+◌, ◌≤◌, ◌^◌, Bool, true, false, List, [], ◌∷◌, ◌++◌, map, take}
use Rattle.std.proofs.Common.{Option, Some, None}
use Rattle.std.proofs.Common.{refl, ap, ◌∙◌, arith, codes}
use Rattle.std.proofs.lemmas.List.{append-nil, map-append}
use Rattle.bl_tree.specs.declared.text.Text.{Text}
use Rattle.bl_tree.specs.declared.c.CLocal.{CLocal}
use Rattle.bl_tree.specs.declared.c.CParam.{CParam}
use Rattle.bl_tree.specs.declared.c.CStmt.{CStmt}
use Rattle.bl_tree.specs.declared.scalar.Scalar.{Scalar as ScalarType}
use Rattle.bl_tree.specs.declared.tree.StructDef.{StructDef}
use Rattle.bl_tree.specs.declared.tree.Unit.{Unit as UnitDef}
use Rattle.bl_tree.specs.declared.tree.Var.{Var}
use Rattle.bl_tree.specs.Program.{parameters_of}
use Rattle.bl_tree.specs.Typing.{TypingContext, inputs_of, site_of}
use Rattle.bl_ctext_semantics.specs.Faults.{names_table, repeated, variable_names}
use Rattle.bl_ctext_semantics.specs.Loops.{turns_in_block}
use Rattle.bl_ctext_semantics.specs.Tables.{found}
use Rattle.bl_emit_acts.specs.declared.home.Home.{Home}
use Rattle.bl_emit_acts.specs.declared.home.Home.TheVariants.{Held, Local, Lent}
use Rattle.bl_emit_acts.specs.Places.{home_of}
use Rattle.bl_emit_acts.specs.Types.{variable_name}
use Rattle.bl_emit_functions.specs.Functions.{again_code, body_code, body_coded, code_returns, copies_from, end_code, first_held, flag_local, flag_locals}
use Rattle.bl_emit_functions.specs.Functions.{function_code, has_local, holds_any, input_copied, local_again, local_of, locals_again, locals_from, memory_local}
use Rattle.bl_emit_functions.specs.Functions.{none_taken, params_from, read_code, variable_locals, whole_code}
use Rattle.bl_emit_functions.specs.Trees.{turn_name}
use Rattle.bl_emit_functions.specs.Reads.{reads_in_block}
use Rattle.bl_emit_functions_laws_wellformed.specs.Formed.{IsNumbered, TurnsDiffer}
use Rattle.bl_emit_functions_laws_wellformed.proofs.OnFormed.Lookups.{found_behind}
use Rattle.bl_emit_functions_laws_wellformed.proofs.OnFormed.Turns.{block-turns, body_counted, none_repeated, numbered, one-turns, return-turns, set-turns}

-- ---- copies and the end count no turns

module _ (site : TypingContext) where
  copied-turns : (home : Home) (k : ℕ) → turns_in_block (input_copied site home k) ≡ []
  copied-turns Held k = one-turns _ [] (set-turns _ _)
  copied-turns Local k = refl
  copied-turns Lent k = refl

  copies-turns : (base : ℕ) (vars : List Var) → turns_in_block (copies_from site base vars) ≡ []
  copies-turns base [] = refl
  copies-turns base (var ∷ rest) =
      block-turns (input_copied site (home_of site (Some var)) base) (copies_from site (base + 1) rest)
      ∙ (λ i. copied-turns (home_of site (Some var)) base i ++ copies-turns (base + 1) rest i)

  end-turns : (r : Option ScalarType) (returns : Bool) → turns_in_block (end_code r returns) ≡ []
  end-turns (Some s) false = one-turns _ [] (return-turns _)
  end-turns (Some s) true = refl
  end-turns None returns = refl

  read-turns : (held : Option ℕ) (reads : Bool) → turns_in_block (read_code site held reads) ≡ []
  read-turns None reads = refl
  read-turns (Some k) true = refl
  read-turns (Some k) false = one-turns _ [] (set-turns _ _)

  again-turns : (k : ℕ) (local reads : Bool) → turns_in_block (local_again site k local reads) ≡ []
  again-turns k true false = one-turns _ [] (set-turns _ _)
  again-turns k true true = refl
  again-turns k false reads = refl

  locals-turns : (code : List CStmt) (k : ℕ) (vars : List Var) → turns_in_block (locals_again site code k vars) ≡ []
  locals-turns code k [] = refl
  locals-turns code k (var ∷ rest) =
      let reads : Bool = reads_in_block (variable_name site.vars k) code in
      block-turns (local_again site k (has_local site var) reads) (locals_again site code (k + 1) rest)
      ∙ (λ i. again-turns k (has_local site var) reads i ++ locals-turns code (k + 1) rest i)

  module _ (unit : UnitDef) where
    body_turns : turns_in_block (body_code site unit) ≡ numbered 0 ((body_counted site unit.body).count none_taken)
    body_turns =
        block-turns (copies_from site 0 (inputs_of unit)) ((body_coded site unit).code ++ end_code unit.result (code_returns (body_coded site unit).code))
        ∙ (λ i. copies-turns 0 (inputs_of unit) i
        ++ block-turns (body_coded site unit).code (end_code unit.result (code_returns (body_coded site unit).code)) i)
        ∙ (λ i. (body_counted site unit.body).are none_taken i ++ end-turns unit.result (code_returns (body_coded site unit).code) i)
        ∙ append-nil (numbered 0 ((body_counted site unit.body).count none_taken))

    -- the turns of the whole function are those of its body
    pub turns_are : turns_in_block (whole_code site unit) ≡ numbered 0 ((body_counted site unit.body).count none_taken)
    turns_are =
        let code : List CStmt = body_code site unit in
        let reads : Bool = reads_in_block (codes "m") code in
        block-turns (again_code site unit code) code
        ∙ (λ i. block-turns (read_code site (first_held site 0 unit.vars) reads) (locals_again site code 0 unit.vars) i ++ body_turns i)
        ∙ (λ i. (read-turns (first_held site 0 unit.vars) reads i ++ locals-turns code 0 unit.vars i)
        ++ numbered 0 ((body_counted site unit.body).count none_taken))

-- ---- names that no turn has

-- names as entries of a table
abbrev entries : List Text → List (Text × Unit {0})
entries names = map (λ name. (name, tt)) names

no_param : (structs : List StructDef) (all : List Var) (base : ℕ) (vars : List Var) (k : ℕ) → found (turn_name k)
    (entries (map (λ (p : CParam). p.name) (params_from structs all base vars))) ≡ None
no_param structs all base [] k = refl
no_param structs all base (v ∷ vars) k = no_param structs all (base + 1) vars k

entries_append : (xs ys : List Text) → entries (xs ++ ys) ≡ entries xs ++ entries ys
entries_append xs ys = map-append (λ (name : Text). (name, tt)) xs ys

abbrev local_entries : List CLocal → List (Text × Unit {0})
local_entries locals = entries (map (λ (l : CLocal). l.name) locals)

locals_append : (xs ys : List CLocal) → local_entries (xs ++ ys) ≡ local_entries xs ++ local_entries ys
locals_append xs ys =
    ap entries (map-append (λ (l : CLocal). l.name) xs ys)
    ∙ entries_append (map (λ (l : CLocal). l.name) xs) (map (λ (l : CLocal). l.name) ys)

no_flag : (n k : ℕ) → found (turn_name k) (local_entries (flag_locals n)) ≡ None
no_flag zero k = refl
no_flag (suc n) k =
    ap (found (turn_name k)) (locals_append (flag_locals n) (flag_local n ∷ []))
    ∙ found_behind (turn_name k) (local_entries (flag_locals n)) (local_entries (flag_local n ∷ [])) (no_flag n k)

no_variable : (site : TypingContext) (base : ℕ) (vars : List Var) (k : ℕ) → found (turn_name k) (local_entries (locals_from site base vars)) ≡ None
no_variable site base [] k = refl
no_variable site base (var ∷ rest) k = by (has_local site var) (no_variable site (base + 1) rest k)
  where
    by : (local : Bool) → found (turn_name k) (local_entries (locals_from site (base + 1) rest)) ≡ None →
        found (turn_name k) (local_entries (local_of local site.structs site.vars base var ++ locals_from site (base + 1) rest)) ≡ None
    by true later = later
    by false later = later

no_local : (site : TypingContext) (unit : UnitDef) (n k : ℕ) → found (turn_name k) (local_entries (variable_locals site unit ++ flag_locals n)) ≡ None
no_local site unit n k =
    ap (found (turn_name k)) (locals_append (variable_locals site unit) (flag_locals n))
    ∙ found_behind (turn_name k) (local_entries (variable_locals site unit)) (local_entries (flag_locals n)) (by (holds_any site unit.vars)) ∙ no_flag n k
  where
    by : (holds : Bool) → found (turn_name k) (local_entries (memory_local unit.name holds ++ locals_from site 0 unit.vars)) ≡ None
    by true = no_variable site 0 unit.vars k
    by false = no_variable site 0 unit.vars k

module _ (structs : List StructDef) (earlier : List UnitDef) (unit : UnitDef) (numbers : IsNumbered structs earlier unit) where
  abbrev site : TypingContext
  site = site_of structs earlier unit

  no_name : (k : ℕ) → names_table (variable_names (function_code structs earlier unit)) (turn_name k) ≡ None
  no_name k =
      let locals : List CLocal = variable_locals site unit ++ flag_locals (body_coded site unit).free.flags in
      ap (found (turn_name k)) (entries_append (map (λ (p : CParam). p.name) (params_from structs unit.vars 0 (parameters_of unit)))
      (map (λ (l : CLocal). l.name) locals))
      ∙ found_behind (turn_name k) (entries (map (λ (p : CParam). p.name) (params_from structs unit.vars 0 (parameters_of unit)))) (local_entries locals)
      (no_param structs unit.vars 0 (parameters_of unit) k)
      ∙ no_local site unit (body_coded site unit).free.flags k

  pub turns_differ : repeated (names_table (variable_names (function_code structs earlier unit)))
      (turns_in_block (function_code structs earlier unit).body) ≡ []
  turns_differ =
      let after = (body_counted site unit.body).after none_taken in
      let most = numbers.turns in
      let few : 0 + (body_counted site unit.body).count none_taken ≤ 2 ^ 64 = omega (arith, after, most) in
      ap (repeated (names_table (variable_names (function_code structs earlier unit)))) (turns_are site unit)
      ∙ none_repeated (names_table (variable_names (function_code structs earlier unit))) 0 ((body_counted site unit.body).count none_taken) few
      (λ k low high. no_name k)

pub turns : (structs : List StructDef) (units : List UnitDef) → TurnsDiffer structs units
turns structs units k unit there numbers = turns_differ structs (take k units) unit numbers
