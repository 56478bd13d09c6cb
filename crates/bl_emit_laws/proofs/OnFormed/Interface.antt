-- Nothing fails in the two functions of the interface.
use Rattle.std.proofs.Common.{◌≡◌, ℕ, ◌≤◌, pos, Bool, true, false, ◌&&◌, List, [], ◌∷◌, ◌++◌, map, Option, Some, None, refl, sym, ap, ◌∙◌, subst, append_assoc}
use Rattle.std.proofs.Common.{arith, codes}
use Rattle.std.proofs.lemmas.Bool.Decides.{nat_tests}
use Rattle.std.proofs.lemmas.List.{map-append}
use Rattle.std.specs.Prelude.{is_none, is_some, nat_le, option_and_then}
use Rattle.std.specs.List.{list_all}
use Rattle.bl_tree.proofs.Basics.{is_none_of}
use Rattle.bl_tree.specs.declared.c.CLocal.{CLocal}
use Rattle.bl_tree.specs.declared.c.CArg.{CArg}
use Rattle.bl_tree.specs.declared.c.CArg.TheVariants.{Address}
use Rattle.bl_tree.specs.declared.c.CFunc.{CFunc}
use Rattle.bl_tree.specs.declared.c.CMember.{CMember}
use Rattle.bl_tree.specs.declared.c.CPlace.{CPlace}
use Rattle.bl_tree.specs.declared.c.CStmt.{CStmt}
use Rattle.bl_tree.specs.declared.c.CType.TheVariants.{Struct as OfStruct}
use Rattle.bl_tree.specs.declared.scalar.Scalar.TheVariants.{Nat}
use Rattle.bl_tree.specs.declared.scalar.Width.TheVariants.{W32}
use Rattle.bl_tree.specs.declared.tree.StructDef.{StructDef}
use Rattle.bl_tree.specs.declared.tree.Unit.{Unit as UnitDef}
use Rattle.bl_tree.specs.declared.tree.Var.{Var}
use Rattle.bl_tree.specs.Program.{is_output, names_of, parameters_of}
use Rattle.bl_tree.specs.Typing.{inputs_of, outputs_of}
use Rattle.bl_tree.specs.Words.{are_distinct}
use Rattle.bl_ctext_semantics.specs.Calls.{calls_in_block, calls_in_stmt, most}
use Rattle.bl_ctext_semantics.specs.Faults.{Context, Signature, Variable, bool_type, context_in, declared_before, depth_of_function, distinct_names}
use Rattle.bl_ctext_semantics.specs.Faults.{faults_in_function, last_returns, member_of, member_table, names_table, repeated, returns_result, short_chain}
use Rattle.bl_ctext_semantics.specs.Faults.{signature_as, all_distinct, is_declared, signature_of, surely_returns, variable_names}
use Rattle.bl_ctext_semantics.specs.Loops.{turns_in, turns_in_block}
use Rattle.bl_ctext_semantics.specs.Tables.{Table, entry_or, no_entries}
use Rattle.bl_emit_acts.specs.Acts.{c_calling, c_clear}
use Rattle.bl_emit_acts.specs.Trees.{c_call, c_literal, c_place, c_read, c_step, nowhere}
use Rattle.bl_emit_acts.specs.Types.{unit_name}
use Rattle.bl_emit_functions.specs.Functions.{memory_name}
use Rattle.bl_emit_functions.specs.Trees.{c_if}
use Rattle.bl_emit_acts_laws_wellformed.specs.Formed.Declared.{IsDeclared, parameter_for, plain_member, variable_of}
use Rattle.bl_emit_acts_laws_wellformed.specs.Formed.Formed.{BlockIs, PlaceIs, StmtIs}
use Rattle.bl_emit_acts_laws_wellformed.proofs.OnFormed.Acts.{block_cons, block_one, calling-is, clear-is}
use Rattle.bl_emit_acts_laws_wellformed.proofs.OnFormed.Judged.{kept, literal-is, read-is}
use Rattle.bl_emit_acts_laws_wellformed.proofs.OnFormed.Prelude.{unit_named}
use Rattle.bl_emit_acts_laws_wellformed.proofs.OnFormed.Typed.{pointer_place, variable_place}
use Rattle.bl_emit_functions_laws_wellformed.proofs.OnFiles.Shapes.{call-calls, calling-calls, clear-calls, if-calls, read-calls}
use Rattle.bl_emit_functions_laws_wellformed.proofs.OnFormed.Shapes.{if-is, return-is}
use Rattle.bl_emit_functions_laws_wellformed.proofs.OnFormed.Turns.{one-turns, return-turns, call-turns, clear-turns}
use Rattle.bl_emit_spec.specs.Names.{frame_name}
use Rattle.bl_emit_spec.specs.Blocks.{unit_may_end, stmt_where, arg_where}
use Rattle.bl_emit_spec.specs.Programs.{c_returned, init_function, input_arg, output_arg, port_struct, state_struct, tick_args, tick_function, tick_locals}
use Rattle.bl_emit_spec_laws_wellformed_bodies.proofs.OnSigned.Turns.{if-turns}
use Rattle.bl_emit_spec_laws_wellformed_bodies.proofs.OnBodies.Calls.{Suit, suit-address, suit-append}
use Rattle.bl_emit_spec_laws_wellformed_bodies.proofs.OnBodies.Variables.{member_place}
use Rattle.bl_emit_spec_laws_wellformed_bodies.specs.Bodies.{memory_given, over_given, result_given, signature_of_activity}
use Rattle.bl_emit_laws.proofs.OnFormed.Ports.{port-place, ports-suit}
use Rattle.bl_emit_laws.proofs.OnCells.Interface.{returned_silent, root_calls_none, memory_args, tick_silent}
use Rattle.bl_emit_functions_laws_wellformed.proofs.OnFormed.Head.{return-returns}
use Rattle.bl_emit_spec.proofs.LentLemmas.{lent_parameters, lent_parts}
use Rattle.bl_emit_spec.specs.Lent.{lent_unit, lent_var}

-- what the functions of the interface need, of an entry
pub record Entry (structs : List StructDef) (unit : UnitDef) (remembers : Bool) (table : Table (Table CMember)) (functions : Table Signature)
    (depths : Table ℕ) : Type 0 where
  pub result : unit.result ≡ None
  pub inputs : list_all (λ (var : Var). is_output var.role) (map lent_var (inputs_of unit)) ≡ true
  pub outputs : list_all (λ (var : Var). is_output var.role) (map lent_var (outputs_of unit)) ≡ true
  pub inputs_differ : are_distinct (names_of (inputs_of unit)) ≡ true
  pub outputs_differ : are_distinct (names_of (outputs_of unit)) ≡ true
  pub state : IsDeclared table (state_struct unit.name remembers)
  pub ins : IsDeclared table (port_struct structs (codes "bl_in") (codes "i_") (inputs_of unit))
  pub outs : IsDeclared table (port_struct structs (codes "bl_out") (codes "o_") (outputs_of unit))
  pub known : functions (unit_name unit.name) ≡ Some (signature_of_activity structs (lent_unit unit) remembers)
  pub depth : entry_or 0 depths (unit_name unit.name) ≤ 100

at_most : (n : ℕ) → n ≤ 300 → nat_le n 300 ≡ true
at_most n le = grind (arith, nat_tests)

-- ---- what is called

module _ (structs : List StructDef) (unit : UnitDef) (remembers : Bool) (table : Table (Table CMember)) (functions : Table Signature)
    (depths : Table ℕ) (e : Entry structs unit remembers table functions depths) where
  -- ---- bl_init

  abbrev init : CFunc
  init = init_function

  abbrev in_init : Context
  in_init = context_in table functions init

  -- the struct of what a program keeps has where the entry rests
  frame_member : (context : Context) → context.structs ≡ table →
      member_of context (OfStruct (codes "bl_state")) (codes "f") ≡ Some (plain_member (codes "f") (OfStruct (frame_name unit.name)))
  frame_member context is =
      ap (λ (structs : Table (Table CMember)). option_and_then (λ (members : Table CMember). members (codes "f")) (structs (codes "bl_state"))) is
      ∙ ap (option_and_then (λ (members : Table CMember). members (codes "f"))) e.state

  init_body : BlockIs in_init init.body
  init_body =
      block_one in_init (c_clear (c_place true (codes "s") []) (codes "bl_state"))
      (clear-is in_init true (c_place true (codes "s") []) (codes "bl_state")
      (pointer_place in_init (codes "s") (OfStruct (codes "bl_state")) refl) (ap is_some e.state) refl)

  init_calls : calls_in_block init.body ≡ []
  init_calls =
      (λ i. clear-calls (c_place true (codes "s") []) (codes "bl_state") i ++ []) ∙ (λ i. root_calls_none true (codes "s") i ++ [])

  init_depth : depth_of_function depths init ≤ 300
  init_depth = let none : most depths (calls_in_block init.body) ≡ 0 = ap (most depths) init_calls in omega (arith, none)

  init_turns : turns_in_block init.body ≡ []
  init_turns = one-turns (c_clear (c_place true (codes "s") []) (codes "bl_state")) [] (clear-turns _ _)

  pub init-fine : functions (codes "bl_init") ≡ None → faults_in_function table functions depths true init ≡ []
  init-fine new =
      let one = kept (is_none (functions (codes "bl_init"))) distinct_names nowhere (is_none_of (functions (codes "bl_init")) new) in
      let three = kept ((is_some (table (codes "bl_state")) && true) && true) declared_before nowhere (declared (table (codes "bl_state")) (ap
      is_some e.state)) in
      let six = kept (nat_le (depth_of_function depths init) 300) short_chain nowhere (at_most (depth_of_function depths init) init_depth) in
      let body = init_body false in
      (λ i. (one i ++ ([] ++ (three i ++ ([] ++ ([] ++ (six i ++ []))))))
      ++ (repeated (names_table (variable_names init)) (init_turns i) ++ body i))
    where
      declared : {A : Type 0} (o : Option A) → is_some o ≡ true → ((is_some o && true) && true) ≡ true
      declared (Some x) is = refl
      declared None is = absurd (cc)

  -- ---- bl_tick

  abbrev tick : CFunc
  tick = tick_function unit remembers

  abbrev in_tick : Context
  in_tick = context_in table functions tick

  abbrev params_for : List Var → List Variable
  params_for vars = map (parameter_for structs) vars

  memory_found : (b : Bool) → remembers ≡ b → Suit in_tick (memory_given unit b) (memory_args b)
  memory_found false is = (refl, refl)
  memory_found true is =
      suit-address in_tick true (OfStruct (memory_name unit.name)) (c_place true (codes "s") (c_step (codes "m") ∷ []))
      (member_place in_tick (codes "s") (codes "bl_state") (codes "m") (OfStruct (memory_name unit.name)) refl
      (ap (option_and_then (λ (members : Table CMember). members (codes "m")))
      (subst (λ b. table (codes "bl_state") ≡ Some (member_table (state_struct unit.name b))) is e.state)))

  -- the inputs and outputs as the entry takes them
  abbrev ins_taken : List Variable
  ins_taken = params_for (map lent_var (inputs_of unit))

  abbrev outs_taken : List Variable
  outs_taken = params_for (map lent_var (outputs_of unit))

  parameters_are : params_for (parameters_of (lent_unit unit)) ≡ ins_taken ++ outs_taken
  parameters_are =
      ap (map (parameter_for structs)) (lent_parameters unit ∙ lent_parts unit)
      ∙ map-append (parameter_for structs) (map lent_var (inputs_of unit)) (map lent_var (outputs_of unit))

  ports_suit : Suit in_tick ins_taken (map input_arg (inputs_of unit))
  ports_suit =
      ports-suit in_tick structs (codes "i") (codes "i_") (inputs_of unit) e.inputs
      (port-place structs (codes "i_") (λ x. refl) (λ x y. refl) in_tick (codes "i") (codes "bl_in") (inputs_of unit) e.inputs_differ e.ins refl)

  outs_suit : Suit in_tick outs_taken (map output_arg (outputs_of unit))
  outs_suit =
      ports-suit in_tick structs (codes "o") (codes "o_") (outputs_of unit) e.outputs
      (port-place structs (codes "o_") (λ x. refl) (λ x y. refl) in_tick (codes "o") (codes "bl_out") (outputs_of unit) e.outputs_differ e.outs refl)

  abbrev ended : CPlace
  ended = c_place false (codes "e") []

  -- a tick with the local for the end, where the test is true
  abbrev tick_with : Bool → CFunc
  tick_with ends = record tick { locals = tick_locals ends }

  ended_there : (ends : Bool) → ends ≡ true → (context_in table functions (tick_with ends)).variables (codes "e") ≡ Some (variable_of false bool_type)
  ended_there true is = refl
  ended_there false is = absurd (cc)

  ended_is : unit_may_end unit ≡ true → PlaceIs in_tick false bool_type ended
  ended_is ends = variable_place in_tick (codes "e") bool_type (ended_there (unit_may_end unit) ends)

  abbrev end_arg : Bool → List CArg
  end_arg ends = arg_where ends (Address ended)

  end_suits : (b : Bool) → (b ≡ true → unit_may_end unit ≡ true) → Suit in_tick (over_given b) (end_arg b)
  end_suits true ends = suit-address in_tick false bool_type ended (ended_is (ends refl))
  end_suits false ends = (refl, refl)

  abbrev outs_args : List CArg
  outs_args = map output_arg (outputs_of unit) ++ end_arg (unit_may_end unit)

  abbrev over : List Variable
  over = over_given (unit_may_end unit)

  params_are : params_for (parameters_of (lent_unit unit)) ++ (result_given unit.result ++ over) ≡ ins_taken ++ (outs_taken ++ over)
  params_are =
      (λ i. parameters_are i ++ (result_given (e.result i) ++ over))
      ∙ append_assoc ins_taken outs_taken over

  args_suit : Suit in_tick (signature_of_activity structs (lent_unit unit) remembers).params (tick_args unit remembers)
  args_suit =
      suit-append in_tick (variable_of true (OfStruct (frame_name unit.name)) ∷ [])
      (memory_given unit remembers ++ (params_for (parameters_of (lent_unit unit)) ++ (result_given unit.result ++ over)))
      (Address (c_place true (codes "s") (c_step (codes "f") ∷ [])) ∷ []) (memory_args remembers ++ (map input_arg (inputs_of unit) ++ outs_args))
      (suit-address in_tick true (OfStruct (frame_name unit.name)) (c_place true (codes "s") (c_step (codes "f") ∷ []))
      (member_place in_tick (codes "s") (codes "bl_state") (codes "f") (OfStruct (frame_name unit.name)) refl (frame_member in_tick refl)))
      (suit-append in_tick (memory_given unit remembers) (params_for (parameters_of (lent_unit unit)) ++ (result_given unit.result ++ over))
      (memory_args remembers) (map input_arg (inputs_of unit) ++ outs_args) (memory_found remembers refl)
      (subst (λ ps. Suit in_tick ps (map input_arg (inputs_of unit) ++ outs_args)) (sym params_are)
      (suit-append in_tick ins_taken (outs_taken ++ over)
      (map input_arg (inputs_of unit)) outs_args ports_suit
      (suit-append in_tick outs_taken over (map output_arg (outputs_of unit)) (end_arg (unit_may_end unit))
      outs_suit (end_suits (unit_may_end unit) (λ ends. ends))))))

  abbrev call : CStmt
  call = c_calling (c_call (unit_name unit.name) (tick_args unit remembers))

  abbrev choice : CStmt
  choice = c_if (c_read ended) (c_returned 1 ∷ []) None

  signed : signature_of in_tick (unit_name unit.name) ≡ Some (signature_of_activity structs (lent_unit unit) remembers)
  signed = ap (λ o. signature_as o (functions (unit_name unit.name))) (unit_named unit.name) ∙ e.known

  call_is : StmtIs in_tick call
  call_is =
      calling-is in_tick (unit_name unit.name) (tick_args unit remembers) (signature_of_activity structs (lent_unit unit) remembers) signed args_suit.0 args_suit.1
      refl

  returned_is : (n : ℕ) → StmtIs in_tick (c_returned n)
  returned_is n = return-is in_tick (c_literal (Nat W32) (pos n)) (Nat W32) refl (literal-is in_tick (Nat W32) (pos n))

  choice_is : unit_may_end unit ≡ true → StmtIs in_tick choice
  choice_is ends =
      if-is in_tick (c_read ended) (c_returned 1 ∷ []) None (read-is in_tick false bool_type ended (ended_is ends))
      (block_one in_tick (c_returned 1) (returned_is 1)) (λ looped. refl)

  -- what stands behind the call, by whether the entry may end
  abbrev answers : Bool → List CStmt
  answers ends = stmt_where ends choice ++ c_returned 0 ∷ []

  answers_are : (b : Bool) → (b ≡ true → unit_may_end unit ≡ true) → BlockIs in_tick (answers b)
  answers_are true ends = block_cons in_tick choice (c_returned 0 ∷ []) (choice_is (ends refl)) (block_one in_tick (c_returned 0) (returned_is 0))
  answers_are false ends = block_one in_tick (c_returned 0) (returned_is 0)

  tick_body : BlockIs in_tick tick.body
  tick_body = block_cons in_tick call (answers (unit_may_end unit)) call_is (answers_are (unit_may_end unit) (λ ends. ends))

  call_calls : calls_in_stmt call ≡ unit_name unit.name ∷ []
  call_calls =
      calling-calls (c_call (unit_name unit.name) (tick_args unit remembers)) ∙ call-calls (unit_name unit.name) (tick_args unit remembers)
      ∙ ap (λ rest. unit_name unit.name ∷ rest) (tick_silent unit remembers)

  choice_calls : calls_in_stmt choice ≡ []
  choice_calls =
      if-calls (c_read ended) (c_returned 1 ∷ []) None
      ∙ (λ i. ((read-calls ended ∙ root_calls_none false (codes "e")) i ++ (returned_silent 1 i ++ [])) ++ [])

  answers_call : (ends : Bool) → calls_in_block (answers ends) ≡ []
  answers_call true = λ i. choice_calls i ++ (returned_silent 0 i ++ [])
  answers_call false = λ i. returned_silent 0 i ++ []

  tick_calls : calls_in_block tick.body ≡ unit_name unit.name ∷ []
  tick_calls = λ i. call_calls i ++ answers_call (unit_may_end unit) i

  tick_depth : depth_of_function depths tick ≤ 300
  tick_depth =
      let is : most depths (calls_in_block tick.body) ≡ most depths (unit_name unit.name ∷ []) = ap (most depths) tick_calls in
      let low = e.depth in omega (arith, is, low)

  returned_turns : (n : ℕ) → turns_in (c_returned n) ≡ []
  returned_turns n = return-turns (Some (c_literal (Nat W32) (pos n)))

  answers_turns : (ends : Bool) → turns_in_block (answers ends) ≡ []
  answers_turns true =
      λ i. if-turns (c_read ended) (c_returned 1 ∷ []) None (one-turns (c_returned 1) [] (returned_turns 1)) refl i ++ (returned_turns 0 i ++ [])
  answers_turns false = λ i. returned_turns 0 i ++ []

  tick_turns : turns_in_block tick.body ≡ []
  tick_turns = λ i. call-turns (c_call (unit_name unit.name) (tick_args unit remembers)) i ++ answers_turns (unit_may_end unit) i

  -- the last statement returns
  answers_return : (ends : Bool) → last_returns (map surely_returns (call ∷ answers ends)) ≡ true
  answers_return true = return-returns (Some (c_literal (Nat W32) (pos 0)))
  answers_return false = return-returns (Some (c_literal (Nat W32) (pos 0)))

  pub tick-fine : functions (codes "bl_tick") ≡ None → faults_in_function table functions depths true tick ≡ []
  tick-fine new =
      let one = kept (is_none (functions (codes "bl_tick"))) distinct_names nowhere (is_none_of (functions (codes "bl_tick")) new) in
      let two = kept (all_distinct no_entries (variable_names tick)) distinct_names nowhere (names_differ (unit_may_end unit)) in
      let three = kept ((is_some (table (codes "bl_state")) && (is_some (table (codes "bl_in")) && (is_some (table (codes "bl_out")) && true)))
      && list_all (λ (l : CLocal). is_declared table l.ty) tick.locals) declared_before nowhere
      (all_there (table (codes "bl_state")) (table (codes "bl_in")) (table (codes "bl_out"))
      (list_all (λ (l : CLocal). is_declared table l.ty) tick.locals) (ap is_some e.state) (ap is_some e.ins) (ap is_some e.outs)
      (locals_fine (unit_may_end unit))) in
      let six = kept (nat_le (depth_of_function depths tick) 300) short_chain nowhere (at_most (depth_of_function depths tick) tick_depth) in
      let seven = kept (last_returns (map surely_returns tick.body)) returns_result nowhere (answers_return (unit_may_end unit)) in
      let body = tick_body false in
      (λ i. (one i ++ (two i ++ (three i ++ ([] ++ ([] ++ (six i ++ seven i))))))
      ++ (repeated (names_table (variable_names tick)) (tick_turns i) ++ body i))
    where
      all_there : {A : Type 0} (x y z : Option A) (rest : Bool) → is_some x ≡ true → is_some y ≡ true → is_some z ≡ true → rest ≡ true →
          ((is_some x && (is_some y && (is_some z && true))) && rest) ≡ true
      all_there (Some x) (Some y) (Some z) rest one two three four = four
      all_there None y z rest one two three four = absurd (cc)
      all_there (Some x) None z rest one two three four = absurd (cc)
      all_there (Some x) (Some y) None rest one two three four = absurd (cc)

      names_differ : (ends : Bool) → all_distinct no_entries (variable_names (tick_with ends)) ≡ true
      names_differ true = refl
      names_differ false = refl

      locals_fine : (ends : Bool) → list_all (λ (l : CLocal). is_declared table l.ty) (tick_locals ends) ≡ true
      locals_fine true = refl
      locals_fine false = refl
