-- The two functions of the interface: what they call, and how many cells they need; and the structs of the interface.
use Rattle.std.proofs.Common.{◌≡◌, ℕ, ◌+◌, ◌≤◌, arith, pos, Bool, true, false, List, [], ◌∷◌, ◌++◌, map, drop, length}
use Rattle.std.proofs.Common.{Some, None, refl, ap, ◌∙◌, codes}
use Rattle.std.proofs.lemmas.List.{map-append}
use Rattle.std.specs.List.{list_all}
use Rattle.std.specs.Prelude.{if◌then◌else◌}
use Rattle.bl_tree.proofs.Basics.{and_first, and_second}
use Rattle.bl_tree.specs.declared.c.CLocal.{CLocal}
use Rattle.bl_tree.specs.declared.c.CArg.{CArg}
use Rattle.bl_tree.specs.declared.c.CArg.TheVariants.{Address}
use Rattle.bl_tree.specs.declared.c.CFunc.{CFunc}
use Rattle.bl_tree.specs.declared.c.CPlace.{CPlace}
use Rattle.bl_tree.specs.declared.c.CStmt.{CStmt}
use Rattle.bl_tree.specs.declared.scalar.Scalar.TheVariants.{Nat}
use Rattle.bl_tree.specs.declared.scalar.Width.TheVariants.{W32}
use Rattle.bl_tree.specs.declared.text.Text.{Text}
use Rattle.bl_tree.specs.declared.tree.StructDef.{StructDef}
use Rattle.bl_tree.specs.declared.tree.Unit.{Unit as UnitDef}
use Rattle.bl_tree.specs.declared.tree.Var.{Var}
use Rattle.bl_tree.specs.Reduce.{joined, total}
use Rattle.bl_tree.specs.Types.{type_stands}
use Rattle.bl_tree.specs.Typing.{inputs_of, outputs_of}
use Rattle.bl_limits_measures.specs.Types.{size}
use Rattle.bl_ctext_semantics.specs.Calls.{calls_in_arg, calls_in_block, calls_in_place, calls_in_stmt, most}
use Rattle.bl_ctext_semantics.specs.Loops.{turns_in, turns_in_block}
use Rattle.bl_ctext_semantics.specs.Sizes.{Sizes, chain_cells, size_of_member, size_of_struct, size_of_type}
use Rattle.bl_ctext_semantics.specs.Tables.{Table, entry_or}
use Rattle.bl_emit_acts.specs.Acts.{c_calling, c_clear}
use Rattle.bl_emit_acts.specs.Trees.{c_call, c_literal, c_place, c_read, c_step}
use Rattle.bl_emit_acts.specs.Types.{unit_name}
use Rattle.bl_emit_functions.specs.Functions.{memory_name}
use Rattle.bl_emit_functions.specs.Trees.{c_if}
use Rattle.bl_emit_functions_laws_wellformed.specs.Cells.{SizesKnown}
use Rattle.bl_emit_functions_laws_wellformed.proofs.OnFiles.Shapes.{address-calls, call-calls, calling-calls, clear-calls, if-calls, literal-calls, place-calls}
use Rattle.bl_emit_functions_laws_wellformed.proofs.OnFiles.Shapes.{read-calls, return-calls, step-calls}
use Rattle.bl_emit_functions_laws_wellformed.proofs.OnFormed.Turns.{one-turns, return-turns}
use Rattle.bl_emit_spec.specs.Names.{frame_name}
use Rattle.bl_emit_spec.specs.Blocks.{unit_may_end, stmt_where, arg_where}
use Rattle.bl_emit_spec.specs.Programs.{c_returned, init_function, input_arg, output_arg, port_member, port_struct, state_struct, tick_args, tick_function}
use Rattle.bl_emit_spec.specs.Programs.{tick_locals}
use Rattle.bl_emit_spec_laws_wellformed_bodies.specs.Cells.{ports_of}
use Rattle.bl_emit_spec_laws_wellformed_bodies.proofs.OnSigned.Turns.{if-turns}
use Rattle.bl_emit_spec_laws_wellformed.proofs.OnTexts.Files.{dropped_all, taken_all}
use Rattle.bl_tree.proofs.ReduceLemmas.{total-append}
use Rattle.bl_emit_functions_laws_wellformed.proofs.OnFormed.Turns.{call-turns, clear-turns}
use Rattle.bl_emit_spec_laws_wellformed_bodies.proofs.OnStructs.Interface.{split_take}

-- ---- what is called

-- a place behind a pointer, or a variable, calls nothing
pub step_calls_none : (through : Bool) (root name : Text) → calls_in_place (c_place through root (c_step name ∷ [])) ≡ []
step_calls_none through root name = place-calls through root (c_step name ∷ []) ∙ (λ i. step-calls name i ++ [])

pub root_calls_none : (through : Bool) (root : Text) → calls_in_place (c_place through root []) ≡ []
root_calls_none through root = place-calls through root []

-- arguments call nothing
abbrev pub Silent : List CArg → Type 0
Silent args = joined (map calls_in_arg args) ≡ []

pub silent-cons : (a : CArg) (args : List CArg) → calls_in_arg a ≡ [] → Silent args → Silent (a ∷ args)
silent-cons a args one rest = (λ i. one i ++ rest i)

pub silent-append : (first second : List CArg) → Silent first → Silent second → Silent (first ++ second)
silent-append [] second one other = other
silent-append (a ∷ first) second one other =
    let parts = none_front (calls_in_arg a) (joined (map calls_in_arg first)) one in
    (λ i. parts.0 i ++ silent-append first second parts.1 other i)
  where
    none_front : {A : Type 0} (xs ys : List A) → xs ++ ys ≡ [] → (xs ≡ []) × (ys ≡ [])
    none_front [] ys is = (refl, is)
    none_front (x ∷ xs) ys is = absurd (cc)

pub inputs_silent : (vars : List Var) → Silent (map input_arg vars)
inputs_silent [] = refl
inputs_silent (var ∷ vars) =
    silent-cons (input_arg var) (map input_arg vars)
    (address-calls (c_place true (codes "i") (c_step (codes "i_" ++ var.name) ∷ [])) ∙ step_calls_none true (codes "i") (codes "i_" ++ var.name))
    (inputs_silent vars)

pub outputs_silent : (vars : List Var) → Silent (map output_arg vars)
outputs_silent [] = refl
outputs_silent (var ∷ vars) =
    silent-cons (output_arg var) (map output_arg vars)
    (address-calls (c_place true (codes "o") (c_step (codes "o_" ++ var.name) ∷ [])) ∙ step_calls_none true (codes "o") (codes "o_" ++ var.name))
    (outputs_silent vars)

abbrev pub memory_args : Bool → List CArg
memory_args b = if b then Address (c_place true (codes "s") (c_step (codes "m") ∷ [])) ∷ [] else []

pub memory_silent : (b : Bool) → Silent (memory_args b)
memory_silent true =
    silent-cons (Address (c_place true (codes "s") (c_step (codes "m") ∷ []))) []
    (address-calls (c_place true (codes "s") (c_step (codes "m") ∷ [])) ∙ step_calls_none true (codes "s") (codes "m")) refl
memory_silent false = refl

pub end_silent : (ends : Bool) → Silent (arg_where ends (Address (c_place false (codes "e") [])))
end_silent true =
    silent-cons (Address (c_place false (codes "e") [])) [] (address-calls (c_place false (codes "e") []) ∙ root_calls_none false (codes "e")) refl
end_silent false = refl

pub tick_silent : (unit : UnitDef) (remembers : Bool) → Silent (tick_args unit remembers)
tick_silent unit remembers =
    silent-cons (Address (c_place true (codes "s") (c_step (codes "f") ∷ []))) _
    (address-calls (c_place true (codes "s") (c_step (codes "f") ∷ [])) ∙ step_calls_none true (codes "s") (codes "f"))
    (silent-append (memory_args remembers) _ (memory_silent remembers)
    (silent-append (map input_arg (inputs_of unit)) _ (inputs_silent (inputs_of unit))
    (silent-append (map output_arg (outputs_of unit)) _ (outputs_silent (outputs_of unit))
    (end_silent (unit_may_end unit)))))

pub returned_silent : (n : ℕ) → calls_in_stmt (c_returned n) ≡ []
returned_silent n = return-calls (Some (c_literal (Nat W32) (pos n))) ∙ literal-calls (Nat W32) (pos n)

module _ (unit : UnitDef) (remembers : Bool) where
  abbrev init : CFunc
  init = init_function

  init_calls : calls_in_block init.body ≡ []
  init_calls =
      (λ i. clear-calls (c_place true (codes "s") []) (codes "bl_state") i ++ []) ∙ (λ i. root_calls_none true (codes "s") i ++ [])

  init_turns : turns_in_block init.body ≡ []
  init_turns = one-turns (c_clear (c_place true (codes "s") []) (codes "bl_state")) [] (clear-turns _ _)

  pub init_cells : (known : Sizes) (chains : Table ℕ) → chain_cells known chains init ≤ 1
  init_cells known chains =
      let turns : length (turns_in_block init.body) ≡ 0 = ap length init_turns in
      let none : most chains (calls_in_block init.body) ≡ 0 = ap (most chains) init_calls in omega (arith, turns, none)

  abbrev tick : CFunc
  tick = tick_function unit remembers

  abbrev ended : CPlace
  ended = c_place false (codes "e") []

  abbrev call : CStmt
  call = c_calling (c_call (unit_name unit.name) (tick_args unit remembers))

  abbrev choice : CStmt
  choice = c_if (c_read ended) (c_returned 1 ∷ []) None

  call_calls : calls_in_stmt call ≡ unit_name unit.name ∷ []
  call_calls =
      calling-calls (c_call (unit_name unit.name) (tick_args unit remembers)) ∙ call-calls (unit_name unit.name) (tick_args unit remembers)
      ∙ ap (λ rest. unit_name unit.name ∷ rest) (tick_silent unit remembers)

  choice_calls : calls_in_stmt choice ≡ []
  choice_calls =
      if-calls (c_read ended) (c_returned 1 ∷ []) None
      ∙ (λ i. ((read-calls ended ∙ root_calls_none false (codes "e")) i ++ (returned_silent 1 i ++ [])) ++ [])

  -- what stands behind the call, by whether the entry may end
  abbrev answers : Bool → List CStmt
  answers ends = stmt_where ends choice ++ c_returned 0 ∷ []

  answers_call : (ends : Bool) → calls_in_block (answers ends) ≡ []
  answers_call true = λ i. choice_calls i ++ (returned_silent 0 i ++ [])
  answers_call false = λ i. returned_silent 0 i ++ []

  tick_calls : calls_in_block tick.body ≡ unit_name unit.name ∷ []
  tick_calls = λ i. call_calls i ++ answers_call (unit_may_end unit) i

  returned_turns : (n : ℕ) → turns_in (c_returned n) ≡ []
  returned_turns n = return-turns (Some (c_literal (Nat W32) (pos n)))

  answers_turns : (ends : Bool) → turns_in_block (answers ends) ≡ []
  answers_turns true =
      λ i. if-turns (c_read ended) (c_returned 1 ∷ []) None (one-turns (c_returned 1) [] (returned_turns 1)) refl i ++ (returned_turns 0 i ++ [])
  answers_turns false = λ i. returned_turns 0 i ++ []

  tick_turns : turns_in_block tick.body ≡ []
  tick_turns = λ i. call-turns (c_call (unit_name unit.name) (tick_args unit remembers)) i ++ answers_turns (unit_may_end unit) i

  pub tick_cells : (known : Sizes) (chains : Table ℕ) → chain_cells known chains tick ≤ entry_or 0 chains (unit_name unit.name) + 4
  tick_cells known chains =
      let turns : length (turns_in_block tick.body) ≡ 0 = ap length tick_turns in
      let one : most chains (calls_in_block tick.body) ≡ most chains (unit_name unit.name ∷ []) = ap (most chains) tick_calls in
      let local : total (map (λ (l : CLocal). size_of_type known l.ty) tick.locals) ≤ 1 = local_few (unit_may_end unit) in
      omega (arith, turns, one, local)
    where
      local_few : (ends : Bool) → total (map (λ (l : CLocal). size_of_type known l.ty) (tick_locals ends)) ≤ 1
      local_few true = omega arith
      local_few false = omega arith

  -- ---- what is kept from tick to tick

  pub state_cells : (known : Sizes) →
      size_of_struct known (state_struct unit.name remembers) ≤ entry_or 0 known (frame_name unit.name) + entry_or 0 known (memory_name unit.name)
  state_cells known = by remembers
    where
      by : (b : Bool) → size_of_struct known (state_struct unit.name b) ≤ entry_or 0 known (frame_name unit.name) + entry_or 0 known
          (memory_name unit.name)
      by true = omega arith
      by false = omega arith

-- ---- inputs and outputs

module _ (structs : List StructDef) (units : List UnitDef) (known : Sizes) (sizes : SizesKnown structs units known) where
  abbrev Stand : List Var → Type 0
  Stand vars = list_all (λ (var : Var). type_stands (length structs) var.ty) vars ≡ true

  abbrev size_all : List Var → ℕ
  size_all vars = total (map (λ (var : Var). size structs var.ty) vars)

  members_cells : (prefix : Text) (vars : List Var) → Stand vars →
      total (map (size_of_member known) (map (port_member structs prefix) vars)) ≤ size_all vars
  members_cells prefix [] stand = omega arith
  members_cells prefix (var ∷ vars) stand =
      let one = sizes.types var.ty
      (and_first (type_stands (length structs) var.ty) (list_all (λ (var : Var). type_stands (length structs) var.ty) vars) stand) in
      let rest = members_cells prefix vars
      (and_second (type_stands (length structs) var.ty) (list_all (λ (var : Var). type_stands (length structs) var.ty) vars) stand) in
      omega (arith, one, rest)

  port_cells : (name prefix : Text) (vars : List Var) → Stand vars → size_of_struct known (port_struct structs name prefix vars) ≤ size_all vars + 1
  port_cells name prefix vars stand = let rest = members_cells prefix vars stand in omega (arith, rest)

  -- and_from
  pub ports_cells : (unit : UnitDef) → Stand unit.vars →
      size_of_struct known (port_struct structs (codes "bl_in") (codes "i_") (inputs_of unit))
      + size_of_struct known (port_struct structs (codes "bl_out") (codes "o_") (outputs_of unit)) ≤ ports_of structs unit + 2
  ports_cells unit stand =
      let stands : Var → Bool = λ (var : Var). type_stands (length structs) var.ty in
      let ins = port_cells (codes "bl_in") (codes "i_") (inputs_of unit) (taken_all stands unit.inputs unit.vars stand) in
      let outs = port_cells (codes "bl_out") (codes "o_") (outputs_of unit)
      (taken_all stands unit.outputs (drop unit.inputs unit.vars) (dropped_all stands unit.inputs unit.vars stand)) in
      let parts : ports_of structs unit ≡ size_all (inputs_of unit) + size_all (outputs_of unit) =
      ap size_all (split_take unit.inputs unit.outputs unit.vars)
      ∙ ap total (map-append (λ (var : Var). size structs var.ty) (inputs_of unit) (outputs_of unit))
      ∙ total-append (map (λ (var : Var). size structs var.ty) (inputs_of unit)) (map (λ (var : Var). size structs var.ty) (outputs_of unit)) in
      omega (arith, ins, outs, parts)
