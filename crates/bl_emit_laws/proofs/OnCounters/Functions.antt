-- The C functions of functions, and those of the interface, name no counter.
use Rattle.std.proofs.Common.{◌≡◌, ℕ, ◌+◌, pos, Bool, true, false, List, [], ◌∷◌, ◌++◌, map, Option, Some, None, refl, codes}
use Rattle.std.specs.Prelude.{if◌then◌else◌}
use Rattle.bl_tree.specs.declared.c.CArg.{CArg}
use Rattle.bl_tree.specs.declared.c.CArg.TheVariants.{Address}
use Rattle.bl_tree.specs.declared.c.CStmt.{CStmt}
use Rattle.bl_tree.specs.declared.scalar.Scalar.{Scalar as ScalarType}
use Rattle.bl_tree.specs.declared.scalar.Scalar.TheVariants.{Nat}
use Rattle.bl_tree.specs.declared.scalar.Width.TheVariants.{W32}
use Rattle.bl_tree.specs.declared.text.Text.{Text}
use Rattle.bl_tree.specs.declared.tree.StructDef.{StructDef}
use Rattle.bl_tree.specs.declared.tree.Unit.{Unit as UnitDef}
use Rattle.bl_tree.specs.declared.tree.Var.{Var}
use Rattle.bl_tree.specs.Typing.{TypingContext, inputs_of, outputs_of, site_of, var_at}
use Rattle.bl_emit_acts.specs.declared.home.Home.{Home}
use Rattle.bl_emit_acts.specs.declared.home.Home.TheVariants.{Held, Local, Lent}
use Rattle.bl_emit_acts.specs.Acts.{c_calling, c_clear}
use Rattle.bl_emit_acts.specs.Expressions.{hidden, scalar_at}
use Rattle.bl_emit_acts.specs.Places.{home_of, place_in}
use Rattle.bl_emit_acts.specs.Trees.{c_call, c_literal, c_place, c_read, c_step}
use Rattle.bl_emit_acts.specs.Types.{c_scalar, unit_name, variable_name}
use Rattle.bl_emit_functions.specs.Functions.{again_code, body_code, body_coded, c_input_copied, c_local_again, c_set_again, code_returns, copies_from}
use Rattle.bl_emit_functions.specs.Functions.{end_code, first_held, function_code, has_local, input_copied, local_again, locals_again, none_taken, read_code}
use Rattle.bl_emit_functions.specs.Trees.{c_if, c_return_zero}
use Rattle.bl_emit_functions.specs.Reads.{reads_in_block}
use Rattle.bl_emit_spec.specs.Blocks.{unit_may_end, stmt_where, arg_where}
use Rattle.bl_emit_spec.specs.Programs.{c_returned, init_function, input_arg, output_arg, tick_args, tick_function}
use Rattle.bl_ctext_places.specs.Counters.{is_counter_name, names_counter}
use Rattle.bl_ctext_places.specs.Places.{CPath, places_in_arg, places_named}
use Rattle.bl_emit_laws.proofs.OnCounters.Expressions.{ArgsFine, PlaceFine, address-fine, first-arg, hidden-fine, literal-fine, member-fine, own_fine}
use Rattle.bl_emit_laws.proofs.OnCounters.Expressions.{place-fine, read-fine, root-fine}
use Rattle.bl_emit_laws.proofs.OnCounters.Fine.{Fine, both-fine}
use Rattle.bl_emit_laws.proofs.OnCounters.Statements.{CodeFine, body_fine, calling-fine, clear-fine, first_stmt, if-fine, one_stmt, return-fine, set-fine}
use Rattle.bl_emit_laws.proofs.OnCounters.Statements.{then_code, where_code}

module _ (P : CPath → Type 0) (plain : (place : CPath) → names_counter place ≡ false → P place) where
  -- ---- functions of functions

  input_fine : (site : TypingContext) (home : Home) (k : ℕ) → CodeFine P plain (input_copied site home k)
  input_fine site Held k =
      one_stmt P plain (c_input_copied site k)
      (set-fine P plain (place_in site k []) (c_read (c_place true (variable_name site.vars k) [])) (own_fine P plain site k)
      (read-fine P plain (c_place true (variable_name site.vars k) []) (root-fine P plain true (variable_name site.vars k))))
  input_fine site Local k = tt
  input_fine site Lent k = tt

  inputs_fine : (site : TypingContext) (k : ℕ) (vars : List Var) → CodeFine P plain (copies_from site k vars)
  inputs_fine site k [] = tt
  inputs_fine site k (var ∷ rest) =
      then_code P plain (input_copied site (home_of site (Some var)) k) (copies_from site (k + 1) rest) (input_fine site (home_of site (Some var)) k)
      (inputs_fine site (k + 1) rest)

  end_fine : (result : Option ScalarType) (last : Bool) → CodeFine P plain (end_code result last)
  end_fine (Some s) false =
      one_stmt P plain (c_return_zero (c_scalar s))
      (return-fine P plain (Some (c_literal (c_scalar s) (pos 0))) (literal-fine P plain (c_scalar s) (pos 0)))
  end_fine (Some s) true = tt
  end_fine None last = tt

  read_fine : (site : TypingContext) (held : Option ℕ) (reads : Bool) → CodeFine P plain (read_code site held reads)
  read_fine site None reads = tt
  read_fine site (Some k) true = tt
  read_fine site (Some k) false =
      one_stmt P plain (c_set_again site k)
      (set-fine P plain (place_in site k []) (c_read (place_in site k [])) (own_fine P plain site k)
      (read-fine P plain (place_in site k []) (own_fine P plain site k)))

  local_fine : (site : TypingContext) (k : ℕ) (local reads : Bool) → CodeFine P plain (local_again site k local reads)
  local_fine site k true false =
      let read = c_read (place_in site k []) in
      one_stmt P plain (c_local_again site k)
      (set-fine P plain (place_in site k []) (hidden (scalar_at (var_at site k)) read) (own_fine P plain site k)
      (hidden-fine P plain (scalar_at (var_at site k)) read (read-fine P plain (place_in site k []) (own_fine P plain site k))))
  local_fine site k true true = tt
  local_fine site k false reads = tt

  locals_fine : (site : TypingContext) (code : List CStmt) (k : ℕ) (vars : List Var) → CodeFine P plain (locals_again site code k vars)
  locals_fine site code k [] = tt
  locals_fine site code k (var ∷ rest) =
      let reads : Bool = reads_in_block (variable_name site.vars k) code in
      then_code P plain (local_again site k (has_local site var) reads) (locals_again site code (k + 1) rest) (local_fine site k (has_local site var) reads)
      (locals_fine site code (k + 1) rest)

  again_fine : (site : TypingContext) (unit : UnitDef) (code : List CStmt) → CodeFine P plain (again_code site unit code)
  again_fine site unit code =
      let held : List CStmt = read_code site (first_held site 0 unit.vars) (reads_in_block (codes "m") code) in
      then_code P plain held (locals_again site code 0 unit.vars) (read_fine site (first_held site 0 unit.vars) (reads_in_block (codes "m") code))
      (locals_fine site code 0 unit.vars)

  body_named : (site : TypingContext) (unit : UnitDef) → CodeFine P plain (body_code site unit)
  body_named site unit =
      then_code P plain (copies_from site 0 (inputs_of unit)) ((body_coded site unit).code ++ end_code unit.result (code_returns (body_coded site unit).code))
      (inputs_fine site 0 (inputs_of unit))
      (then_code P plain (body_coded site unit).code (end_code unit.result (code_returns (body_coded site unit).code))
      (body_fine P plain site unit.body none_taken)
      (end_fine unit.result (code_returns (body_coded site unit).code)))

  pub function-fine : (structs : List StructDef) (earlier : List UnitDef) (unit : UnitDef) → Fine P (places_named (function_code structs earlier unit))
  function-fine structs earlier unit =
      let site = site_of structs earlier unit in
      then_code P plain (again_code site unit (body_code site unit)) (body_code site unit) (again_fine site unit (body_code site unit)) (body_named site unit)

  -- ---- those of the interface

  -- a member of what a pointer leads to, which is no counter
  pub under-fine : (name member : Text) → is_counter_name member ≡ false → PlaceFine P plain (c_place true name (c_step member ∷ []))
  under-fine name member other = place-fine P plain true name (c_step member ∷ []) (member-fine P plain member other, tt)

  pub init-fine : Fine P (places_named init_function)
  init-fine =
      one_stmt P plain (c_clear (c_place true (codes "s") []) (codes "bl_state"))
      (clear-fine P plain (c_place true (codes "s") []) (codes "bl_state") (place-fine P plain true (codes "s") [] tt))

  inputs_given : (vars : List Var) → ArgsFine P plain (map input_arg vars)
  inputs_given [] = tt
  inputs_given (var ∷ vars) =
      first-arg P plain (input_arg var) (map input_arg vars)
      (address-fine P plain (c_place true (codes "i") (c_step (codes "i_" ++ var.name) ∷ [])) (under-fine (codes "i") (codes "i_" ++ var.name) refl))
      (inputs_given vars)

  outputs_given : (vars : List Var) → ArgsFine P plain (map output_arg vars)
  outputs_given [] = tt
  outputs_given (var ∷ vars) =
      first-arg P plain (output_arg var) (map output_arg vars)
      (address-fine P plain (c_place true (codes "o") (c_step (codes "o_" ++ var.name) ∷ [])) (under-fine (codes "o") (codes "o_" ++ var.name) refl))
      (outputs_given vars)

  abbrev memory_given : Bool → List CArg
  memory_given remembers = if remembers then Address (c_place true (codes "s") (c_step (codes "m") ∷ [])) ∷ [] else []

  memory_fine : (remembers : Bool) → ArgsFine P plain (memory_given remembers)
  memory_fine true =
      first-arg P plain (Address (c_place true (codes "s") (c_step (codes "m") ∷ []))) []
      (address-fine P plain (c_place true (codes "s") (c_step (codes "m") ∷ [])) (under-fine (codes "s") (codes "m") refl)) tt
  memory_fine false = tt

  ended_given : (ends : Bool) → ArgsFine P plain (arg_where ends (Address (c_place false (codes "e") [])))
  ended_given false = tt
  ended_given true =
      first-arg P plain (Address (c_place false (codes "e") [])) []
      (address-fine P plain (c_place false (codes "e") []) (root-fine P plain false (codes "e"))) tt

  args_given : (unit : UnitDef) (remembers : Bool) → ArgsFine P plain (tick_args unit remembers)
  args_given unit remembers =
      let last : List CArg = arg_where (unit_may_end unit) (Address (c_place false (codes "e") [])) in
      first-arg P plain (Address (c_place true (codes "s") (c_step (codes "f") ∷ [])))
      (memory_given remembers ++ (map input_arg (inputs_of unit) ++ (map output_arg (outputs_of unit) ++ last)))
      (address-fine P plain (c_place true (codes "s") (c_step (codes "f") ∷ [])) (under-fine (codes "s") (codes "f") refl))
      (both-fine P places_in_arg (memory_given remembers) (map input_arg (inputs_of unit) ++ (map output_arg (outputs_of unit) ++ last))
      (memory_fine remembers)
      (both-fine P places_in_arg (map input_arg (inputs_of unit)) (map output_arg (outputs_of unit) ++ last) (inputs_given (inputs_of unit))
      (both-fine P places_in_arg (map output_arg (outputs_of unit)) last (outputs_given (outputs_of unit)) (ended_given (unit_may_end unit)))))

  returned_fine : (n : ℕ) → CodeFine P plain (c_returned n ∷ [])
  returned_fine n =
      one_stmt P plain (c_returned n) (return-fine P plain (Some (c_literal (Nat W32) (pos n))) (literal-fine P plain (Nat W32) (pos n)))

  pub tick-fine : (unit : UnitDef) (remembers : Bool) → Fine P (places_named (tick_function unit remembers))
  tick-fine unit remembers =
      let asked : CStmt = c_if (c_read (c_place false (codes "e") [])) (c_returned 1 ∷ []) None in
      first_stmt P plain (c_calling (c_call (unit_name unit.name) (tick_args unit remembers))) (stmt_where (unit_may_end unit) asked ++ c_returned 0 ∷ [])
      (calling-fine P plain (unit_name unit.name) (tick_args unit remembers) (args_given unit remembers))
      (then_code P plain (stmt_where (unit_may_end unit) asked) (c_returned 0 ∷ [])
      (where_code P plain (unit_may_end unit) asked
      (if-fine P plain (c_read (c_place false (codes "e") [])) (c_returned 1 ∷ []) None
      (read-fine P plain (c_place false (codes "e") []) (root-fine P plain false (codes "e"))) (returned_fine 1) tt)) (returned_fine 0))
