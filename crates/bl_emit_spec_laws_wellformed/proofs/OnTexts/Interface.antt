-- The structs and functions of the interface have a spelling.
use Rattle.std.proofs.Common.{◌≡◌, ℕ, ◌≤◌, pos, Bool, true}
use Rattle.std.proofs.Common.{false, ◌&&◌, List, [], ◌∷◌, ◌++◌, map}
use Rattle.std.proofs.Common.{length, None, refl, arith, codes}
use Rattle.std.specs.List.{list_all}
use Rattle.std.specs.Prelude.{if◌then◌else◌}
use Rattle.std.proofs.lemmas.Bool.{and_from}
use Rattle.bl_tree.proofs.Basics.{all_append, and_first, and_second}
use Rattle.bl_tree.specs.declared.text.Text.{Text}
use Rattle.bl_tree.specs.declared.c.CArg.{CArg}
use Rattle.bl_tree.specs.declared.c.CArg.TheVariants.{Address}
use Rattle.bl_tree.specs.declared.c.CType.TheVariants.{Struct as OfStruct}
use Rattle.bl_tree.specs.declared.scalar.Scalar.TheVariants.{Nat}
use Rattle.bl_tree.specs.declared.scalar.Width.TheVariants.{W32}
use Rattle.bl_tree.specs.declared.tree.StructDef.{StructDef}
use Rattle.bl_tree.specs.declared.tree.Unit.{Unit as UnitDef}
use Rattle.bl_tree.specs.declared.tree.Var.{Var}
use Rattle.bl_tree.specs.Types.{type_stands}
use Rattle.bl_tree.specs.Typing.{inputs_of, outputs_of}
use Rattle.bl_tree.specs.Words as words
use Rattle.bl_ctext.specs.Names.{is_among, is_callee, is_function_name, is_name, is_struct_name}
use Rattle.bl_ctext.specs.Spellable.{is_literal, spells_local, spells_member, spells_struct, spells_type}
use Rattle.bl_ctext.specs.inner.Fits.{arg_fits, func_fits, place_fits, step_fits, stmt_fits, stmts_fit}
use Rattle.bl_ctext.proofs.Fitting.{address-fits, call-fits, call_stmt-fits, func-fits, if-fits, literal-fits, place-fits}
use Rattle.bl_ctext.proofs.Fitting.{read-fits, return-fits, step-fits, struct-spells}
use Rattle.bl_ctext.proofs.PrefixedNames.{name-callee, name-struct, name-with_prefix}
use Rattle.bl_emit_acts.specs.Acts.{c_calling, c_clear}
use Rattle.bl_emit_acts.specs.Trees.{c_call, c_literal, c_place, c_read, c_step, nowhere}
use Rattle.bl_emit_acts.specs.Types.{c_type, unit_name}
use Rattle.bl_emit_acts_laws_wellformed.proofs.OnSpelled.Names.{memory-name}
use Rattle.bl_emit_acts_laws_wellformed.proofs.OnSpelled.Fits.{source_name}
use Rattle.bl_emit_functions.specs.Functions.{memory_name}
use Rattle.bl_emit_functions.specs.Trees.{c_if}
use Rattle.bl_emit_functions_laws_wellformed.proofs.OnSpelled.Acts.{one-fits}
use Rattle.bl_emit_functions_laws_wellformed.proofs.OnSpelled.Functions.{memory-named}
use Rattle.bl_emit_functions_laws_wellformed.proofs.OnSpelled.Shapes.{clear-fits}
use Rattle.bl_emit_spec.specs.Activities.{struct_member}
use Rattle.bl_emit_spec.specs.Blocks.{unit_may_end, stmt_where, arg_where}
use Rattle.bl_emit_spec.specs.Names.{frame_name}
use Rattle.bl_emit_spec.specs.Programs.{c_returned, init_function, input_arg, interface_structs, output_arg, port_member, port_struct, state_struct, tick_args}
use Rattle.bl_emit_spec.specs.Programs.{tick_locals, tick_function}
use Rattle.bl_emit_spec_laws_wellformed.proofs.OnSpelled.Guards.{end-letter, frame-letter, where-fits}
use Rattle.bl_emit_spec_laws_wellformed.proofs.OnSpelled.Nodes.{frame-named}

-- ---- names

state-named : is_struct_name (codes "bl_state") ≡ true
unfolding is_struct_name is_name is_among
state-named = refl

in-named : is_struct_name (codes "bl_in") ≡ true
unfolding is_struct_name is_name is_among
in-named = refl

out-named : is_struct_name (codes "bl_out") ≡ true
unfolding is_struct_name is_name is_among
out-named = refl

init-named : is_function_name (codes "bl_init") ≡ true
unfolding is_function_name is_name is_among
init-named = refl

tick-named : is_function_name (codes "bl_tick") ≡ true
unfolding is_function_name is_name is_among
tick-named = refl

pad-named : is_name (codes "pad") ≡ true
unfolding is_name is_among
pad-named = refl

s-named : is_name (codes "s") ≡ true
unfolding is_name is_among
s-named = refl

i-named : is_name (codes "i") ≡ true
unfolding is_name is_among
i-named = refl

o-named : is_name (codes "o") ≡ true
unfolding is_name is_among
o-named = refl

-- ---- structs

member-is : (name of : Text) → is_name name ≡ true → is_struct_name of ≡ true → spells_member (struct_member name of) ≡ true
member-is name of one other = and_from (spells_type (OfStruct of)) (is_name name && true) other (and_from (is_name name) true one refl)

state-spelled : (name : Text) (remembers : Bool) → words.is_name name ≡ true → spells_struct (state_struct name remembers) ≡ true
state-spelled name remembers named =
    struct-spells nowhere (codes "bl_state") (state_struct name remembers).members state-named refl
    (and_from (spells_member (struct_member (codes "f") (frame_name name))) _
    (member-is (codes "f") (frame_name name) frame-letter (name-struct (frame_name name) (frame-named name named))) (by remembers))
  where
    by : (b : Bool) → list_all spells_member (if b then struct_member (codes "m") (memory_name name) ∷ [] else []) ≡ true
    by true =
        and_from (spells_member (struct_member (codes "m") (memory_name name))) true
        (member-is (codes "m") (memory_name name) memory-name (name-struct (memory_name name) (memory-named name named))) refl
    by false = refl

module _ (structs : List StructDef) (typed : (var : Var) → type_stands (length structs) var.ty ≡ true →
    spells_type (c_type structs var.ty) ≡ true) where
  -- a variable whose type stands, under a name
  abbrev stands : Var → Bool
  stands var = type_stands (length structs) var.ty && words.is_name var.name

  ports : (prefix : Text) → ((name : Text) → words.is_name name ≡ true → is_name (prefix ++ name) ≡ true) → (vars : List Var) →
      list_all stands vars ≡ true → list_all spells_member (map (port_member structs prefix) vars) ≡ true
  ports prefix prefixed [] all = refl
  ports prefix prefixed (var ∷ vars) all =
      let own = and_first (stands var) (list_all stands vars) all in
      and_from (spells_member (port_member structs prefix var)) (list_all spells_member (map (port_member structs prefix) vars))
      (and_from (spells_type (c_type structs var.ty)) (is_name (prefix ++ var.name) && true)
      (typed var (and_first (type_stands (length structs) var.ty) (words.is_name var.name) own))
      (and_from (is_name (prefix ++ var.name)) true
      (prefixed var.name (and_second (type_stands (length structs) var.ty) (words.is_name var.name) own)) refl))
      (ports prefix prefixed vars (and_second (stands var) (list_all stands vars) all))

  port-spelled : (name prefix : Text) → is_struct_name name ≡ true →
      ((name : Text) → words.is_name name ≡ true → is_name (prefix ++ name) ≡ true) → (vars : List Var) →
      list_all stands vars ≡ true →
      spells_struct (port_struct structs name prefix vars) ≡ true
  port-spelled name prefix named prefixed vars all =
      struct-spells nowhere name (port_struct structs name prefix vars).members named refl
      (and_from (is_name (codes "pad") && true) (list_all spells_member (map (port_member structs prefix) vars))
      (and_from (is_name (codes "pad")) true pad-named refl)
      (ports prefix prefixed vars all))

  in_prefix : (name : Text) → words.is_name name ≡ true → is_name (codes "i_" ++ name) ≡ true
  in_prefix name h = name-with_prefix (codes "i_") name refl (source_name name h)

  out_prefix : (name : Text) → words.is_name name ≡ true → is_name (codes "o_" ++ name) ≡ true
  out_prefix name h = name-with_prefix (codes "o_") name refl (source_name name h)

  module _ (unit : UnitDef) (remembers : Bool) (named : words.is_name unit.name ≡ true) (ins : list_all stands (inputs_of unit) ≡ true)
      (outs : list_all stands (outputs_of unit) ≡ true) where
    pub interface-spelled : list_all spells_struct (interface_structs structs unit remembers) ≡ true
    interface-spelled =
        and_from (spells_struct (state_struct unit.name remembers)) _ (state-spelled unit.name remembers named)
        (and_from (spells_struct (port_struct structs (codes "bl_in") (codes "i_") (inputs_of unit))) _
        (port-spelled (codes "bl_in") (codes "i_") in-named in_prefix (inputs_of unit) ins)
        (and_from (spells_struct (port_struct structs (codes "bl_out") (codes "o_") (outputs_of unit))) true
        (port-spelled (codes "bl_out") (codes "o_") out-named out_prefix (outputs_of unit) outs) refl))

    -- ---- functions

    part-fits : (through : Text) (name : Text) → is_name through ≡ true → is_name name ≡ true →
        place_fits 2 (c_place true through (c_step name ∷ [])) ≡ true
    part-fits through name one other =
        place-fits 2 true through (c_step name ∷ []) (omega arith) one (and_from (step_fits 2 (c_step name)) true (step-fits 2 name other) refl)

    param-is : (name of : Text) → is_name name ≡ true → is_struct_name of ≡ true → (spells_type (OfStruct of) && is_name name) ≡ true
    param-is name of one other = and_from (is_struct_name of) (is_name name) other one

    pub init-fits : func_fits 2000 init_function ≡ true
    init-fits =
        func-fits 1999 2000 init_function (omega arith) (omega arith) refl init-named
        (and_from (spells_type (OfStruct (codes "bl_state")) && is_name (codes "s")) true
        (param-is (codes "s") (codes "bl_state") s-named state-named) refl) refl
        (one-fits 1999 (c_clear (c_place true (codes "s") []) (codes "bl_state"))
        (clear-fits 1999 (c_place true (codes "s") []) (codes "bl_state") (omega arith) state-named
        (place-fits 1999 true (codes "s") [] (omega arith) s-named refl)))

    input-is : (var : Var) → stands var ≡ true → arg_fits 2 (input_arg var) ≡ true
    input-is var own =
        address-fits 2 (c_place true (codes "i") (c_step (codes "i_" ++ var.name) ∷ []))
        (part-fits (codes "i") (codes "i_" ++ var.name) i-named
        (in_prefix var.name (and_second (type_stands (length structs) var.ty) (words.is_name var.name) own)))

    output-is : (var : Var) → stands var ≡ true → arg_fits 2 (output_arg var) ≡ true
    output-is var own =
        address-fits 2 (c_place true (codes "o") (c_step (codes "o_" ++ var.name) ∷ []))
        (part-fits (codes "o") (codes "o_" ++ var.name) o-named
        (out_prefix var.name (and_second (type_stands (length structs) var.ty) (words.is_name var.name) own)))

    args-are : (arg : Var → CArg) → ((var : Var) → stands var ≡ true → arg_fits 2 (arg var) ≡ true) → (vars : List Var) →
        list_all stands vars ≡ true →
        list_all (arg_fits 2) (map arg vars) ≡ true
    args-are arg each [] all = refl
    args-are arg each (var ∷ vars) all =
        and_from (arg_fits 2 (arg var)) (list_all (arg_fits 2) (map arg vars)) (each var (and_first (stands var) (list_all stands vars) all))
        (args-are arg each vars (and_second (stands var) (list_all stands vars) all))

    memory-is : (b : Bool) → list_all (arg_fits 2) (if b then Address (c_place true (codes "s") (c_step (codes "m") ∷ [])) ∷ [] else [])
        ≡ true
    memory-is true =
        and_from (arg_fits 2 (Address (c_place true (codes "s") (c_step (codes "m") ∷ [])))) true
        (address-fits 2 (c_place true (codes "s") (c_step (codes "m") ∷ [])) (part-fits (codes "s") (codes "m") s-named memory-name)) refl
    memory-is false = refl

    end-place : place_fits 2 (c_place false (codes "e") []) ≡ true
    end-place = place-fits 2 false (codes "e") [] (omega arith) end-letter refl

    end-is : (ends : Bool) → list_all (arg_fits 2) (arg_where ends (Address (c_place false (codes "e") []))) ≡ true
    end-is true = and_from (arg_fits 2 (Address (c_place false (codes "e") []))) true (address-fits 2 (c_place false (codes "e") []) end-place) refl
    end-is false = refl

    end-local : (ends : Bool) → list_all spells_local (tick_locals ends) ≡ true
    end-local true = and_from (is_name (codes "e")) true end-letter refl
    end-local false = refl

    tick-args : list_all (arg_fits 2) (tick_args unit remembers) ≡ true
    tick-args =
        let last : List CArg = arg_where (unit_may_end unit) (Address (c_place false (codes "e") [])) in
        and_from (arg_fits 2 (Address (c_place true (codes "s") (c_step (codes "f") ∷ [])))) _
        (address-fits 2 (c_place true (codes "s") (c_step (codes "f") ∷ [])) (part-fits (codes "s") (codes "f") s-named frame-letter))
        (all_append (arg_fits 2) (if remembers then Address (c_place true (codes "s") (c_step (codes "m") ∷ [])) ∷ [] else [])
        (map input_arg (inputs_of unit) ++ (map output_arg (outputs_of unit) ++ last)) (memory-is remembers)
        (all_append (arg_fits 2) (map input_arg (inputs_of unit)) (map output_arg (outputs_of unit) ++ last)
        (args-are input_arg input-is (inputs_of unit) ins)
        (all_append (arg_fits 2) (map output_arg (outputs_of unit)) last (args-are output_arg output-is (outputs_of unit) outs)
        (end-is (unit_may_end unit)))))

    returned-fits : (d n : ℕ) → 2 ≤ d → is_literal (Nat W32) (pos n) ≡ true → stmt_fits d (c_returned n) ≡ true
    returned-fits d n some h = return-fits d nowhere (c_literal (Nat W32) (pos n)) (literal-fits d nowhere (Nat W32) (pos n) some h)

    call-name : words.is_name unit.name ≡ true → is_callee (unit_name unit.name) ≡ true
    call-name h = name-callee (unit_name unit.name) (name-with_prefix (codes "a_") unit.name refl (source_name unit.name h))

    tick-body : stmts_fit 1999 (tick_function unit remembers).body ≡ true
    tick-body =
        and_from (stmt_fits 1999 (c_calling (c_call (unit_name unit.name) (tick_args unit remembers)))) _
        (call_stmt-fits 1999 nowhere (c_call (unit_name unit.name) (tick_args unit remembers))
        (call-fits 2 1999 (unit_name unit.name) (tick_args unit remembers) (omega arith) (call-name named) tick-args))
        (all_append (stmt_fits 1999) (stmt_where (unit_may_end unit) (c_if (c_read (c_place false (codes "e") [])) (c_returned 1 ∷ []) None))
        (c_returned 0 ∷ [])
        (where-fits 1999 (unit_may_end unit) (c_if (c_read (c_place false (codes "e") [])) (c_returned 1 ∷ []) None)
        (if-fits 2 1999 nowhere (c_read (c_place false (codes "e") [])) (c_returned 1 ∷ []) (omega arith)
        (read-fits 2 nowhere (c_place false (codes "e") []) end-place) (one-fits 2 (c_returned 1) (returned-fits 2 1 (omega arith) refl))))
        (one-fits 1999 (c_returned 0) (returned-fits 1999 0 (omega arith) refl)))

    pub tick-fits : func_fits 2000 (tick_function unit remembers) ≡ true
    tick-fits =
        func-fits 1999 2000 (tick_function unit remembers) (omega arith) (omega arith) refl tick-named
        (and_from (spells_type (OfStruct (codes "bl_state")) && is_name (codes "s")) _ (param-is (codes "s") (codes "bl_state") s-named state-named)
        (and_from (spells_type (OfStruct (codes "bl_in")) && is_name (codes "i")) _ (param-is (codes "i") (codes "bl_in") i-named in-named)
        (and_from (spells_type (OfStruct (codes "bl_out")) && is_name (codes "o")) true (param-is (codes "o") (codes "bl_out") o-named out-named) refl)))
        (end-local (unit_may_end unit)) tick-body
