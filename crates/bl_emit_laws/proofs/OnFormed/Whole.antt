-- Nothing fails in the whole file.
use Rattle.std.proofs.Common.{◌≡◌, ℕ, ◌+◌, ◌-◌, ◌<◌, ◌≤◌, inr, ⊎_elim, Bool, true, false, ◌&&◌, List, [], ◌∷◌, ◌++◌}
use Rattle.std.proofs.Common.{drop, map, length, Option, Some, None, refl, sym, ap, ◌∙◌, subst, arith, codes}
use Rattle.std.proofs.lemmas.Bool.{cases_lt}
use Rattle.std.proofs.lemmas.List.Folds.{list_all-append}
use Rattle.std.proofs.lemmas.Option.{slice_get_within}
use Rattle.std.specs.Option.{option_or}
use Rattle.std.specs.Prelude.{is_none, is_some, slice_get, unwrap_or}
use Rattle.std.specs.List.{list_all}
use Rattle.bl_tree.proofs.Basics.{and_first, and_second, and_second as and_right, contains_first, contains_further, none_from}
use Rattle.bl_tree.specs.declared.c.CFunc.{CFunc}
use Rattle.bl_tree.specs.declared.c.CMember.{CMember}
use Rattle.bl_tree.specs.declared.c.CStruct.{CStruct}
use Rattle.bl_tree.specs.declared.place.Place.{Place}
use Rattle.bl_tree.specs.declared.program.Program.{Program}
use Rattle.bl_tree.specs.declared.rule.Rule.TheVariants as rule
use Rattle.bl_tree.specs.declared.tree.Unit.{Unit as UnitDef}
use Rattle.bl_tree.specs.declared.tree.Var.{Var}
use Rattle.bl_tree.specs.Program.{IsWellTyped, is_entry, is_output, names_of, parameters_of}
use Rattle.bl_tree.specs.Typing.{inputs_of, is_activity, outputs_of}
use Rattle.bl_tree.specs.Words.{are_distinct, is_name}
use Rattle.bl_limits.specs.Rules.{Passes}
use Rattle.bl_limits_measures.specs.Units.{chain_at}
use Rattle.bl_ctext_semantics.specs.Faults.{Signature, WellFormed, depth_of_function, faults_in, function_faults_after, interface_faults, last_place, last_two}
use Rattle.bl_ctext_semantics.specs.Faults.{faults_of_two, signature_in, unless}
use Rattle.bl_ctext_semantics.specs.Faults as faults
use Rattle.bl_ctext_semantics.specs.Parts.{parts_from as file_from}
use Rattle.bl_ctext_semantics.specs.Tables.{Table, no_entries, with_entry}
use Rattle.bl_machine.specs.declared.machine.Activity.{Activity as InMachine}
use Rattle.bl_emit_acts.specs.Types.{unit_name}
use Rattle.bl_emit_acts_laws_wellformed.proofs.OnFormed.Judged.{kept}
use Rattle.bl_emit_acts_laws_wellformed.proofs.OnFormed.Units.{outputs_stand, unit_at}
use Rattle.bl_emit_spec.proofs.LentLemmas.{lent_outputs, lent_parameter_names, lent_parts}
use Rattle.bl_emit_spec.specs.Lent.{lent_unit, lent_var}
use Rattle.bl_emit_spec.specs.Programs.{ProgramParts, init_function, needed_units, port_struct, state_struct, tick_function, written_of}
use Rattle.bl_emit_spec_laws_wellformed.specs.Closed.{NeededClosed}
use Rattle.bl_emit_spec_laws_wellformed_bodies.specs.Lists.{FunctionsEnd, PartsWellFormed, signature_by}
use Rattle.bl_emit_laws.proofs.OnFormed.Interface.{Entry, init-fine, tick-fine}
use Rattle.bl_emit_laws.proofs.OnFormed.Ports.{inputs_differ, outputs_differ}
use Rattle.bl_emit_laws.specs.Formed.{FilesWellFormed, StructsSound, parts_for_entry, table_of}
use Rattle.bl_ctext_semantics.proofs.MapLemmas.{nothing_after}

-- ---- the last two functions

two_length : {A : Type 0} (xs : List A) (x y : A) → length (xs ++ x ∷ y ∷ []) ≡ length xs + 2
two_length [] x y = refl
two_length (z ∷ xs) x y = let rest = two_length xs x y in omega (arith, rest)

drop_front : {A : Type 0} (xs ys : List A) → drop (length xs) (xs ++ ys) ≡ ys
drop_front [] ys = refl
drop_front (x ∷ xs) ys = drop_front xs ys

two_last : (funcs : List CFunc) (f g : CFunc) → last_two (funcs ++ f ∷ g ∷ []) ≡ f ∷ g ∷ []
two_last funcs f g =
    let long = two_length funcs f g in
    let same : length (funcs ++ f ∷ g ∷ []) - 2 ≡ length funcs = omega (arith, long) in
    ap (λ n. drop n (funcs ++ f ∷ g ∷ [])) same ∙ drop_front funcs (f ∷ g ∷ [])

none_still : {A : Type 0} (o : Option A) → o ≡ None → option_or o None ≡ None
none_still None is = refl
none_still (Some x) is = absurd (cc)

all_three : (a b c : Bool) → a ≡ true → b ≡ true → c ≡ true → (a && (b && c)) ≡ true
all_three true true c one two three = three
all_three true false c one two three = absurd (cc)
all_three false b c one two three = absurd (cc)

module _ (program : Program) (machine : List InMachine) (unit : UnitDef) (keeps : IsWellTyped program.structs program.units program.entry)
    (passes : Passes program.structs program.units program.entry) (there : slice_get program.units program.entry ≡ Some (lent_unit unit))
    (closed : NeededClosed program.structs program.units program.entry) (sound : StructsSound program machine unit)
    (end : FunctionsEnd program.structs program.units program.entry (table_of program unit machine) (parts_for_entry program machine)
    (init_function ∷ tick_function unit (unwrap_or (slice_get (parts_for_entry program machine).remember program.entry) false) ∷ [])) where
  abbrev parts : ProgramParts
  parts = parts_for_entry program machine

  abbrev table : Table (Table CMember)
  table = table_of program unit machine

  abbrev remembers : Bool
  remembers = unwrap_or (slice_get parts.remember program.entry) false

  abbrev init : CFunc
  init = init_function

  abbrev tick : CFunc
  tick = tick_function unit remembers

  -- ---- the entry

  is_it : is_entry (Some (lent_unit unit)) ≡ true
  is_it = ap is_entry (sym there) ∙ keeps.entry_stands

  active : is_activity unit.kind ≡ true
  active = and_first (is_activity unit.kind) _ is_it

  need : slice_get (needed_units program.units program.entry) program.entry ≡ Some true
  need = closed.entry_is keeps

  within : program.entry < length program.units
  within = slice_get_within program.units program.entry (lent_unit unit) there

  names_differ : are_distinct (names_of (parameters_of unit)) ≡ true
  names_differ =
      ap are_distinct (sym (lent_parameter_names unit))
      ∙ and_second (list_all is_name (names_of (lent_unit unit).vars)) (are_distinct (names_of (parameters_of (lent_unit unit))))
      (and_right _ _ (and_first _ _ (unit_at program.structs program.units program.entry keeps program.entry (lent_unit unit) there)))

  -- all parameters are pointers
  pointers : list_all (λ (var : Var). is_output var.role) (map lent_var (inputs_of unit) ++ map lent_var (outputs_of unit)) ≡ true
  pointers =
      ap (list_all (λ (var : Var). is_output var.role)) (sym (lent_outputs unit ∙ lent_parts unit))
      ∙ outputs_stand program.structs program.units program.entry keeps program.entry (lent_unit unit) there

  both_point : (list_all (λ (var : Var). is_output var.role) (map lent_var (inputs_of unit))
      && list_all (λ (var : Var). is_output var.role) (map lent_var (outputs_of unit))) ≡ true
  both_point =
      sym (list_all-append (λ (var : Var). is_output var.role) (map lent_var (inputs_of unit)) (map lent_var (outputs_of unit))) ∙ pointers

  chain_low : chain_at program.units program.entry ≤ 100
  chain_low =
      ⊎_elim
      (λ (long : 100 < chain_at program.units program.entry). absurd (passes rule.Frames unit.place []
      (inr (record { position = program.entry; unit = lent_unit unit; heads = there; long = long; at_name = refl }), refl)))
      (λ few. few) (cases_lt 100 (chain_at program.units program.entry))

  -- the structs of the interface
  abbrev state : CStruct
  state = state_struct unit.name remembers

  abbrev ins : CStruct
  ins = port_struct program.structs (codes "bl_in") (codes "i_") (inputs_of unit)

  abbrev outs : CStruct
  outs = port_struct program.structs (codes "bl_out") (codes "o_") (outputs_of unit)

  before : Entry program.structs unit remembers table end.functions end.depths
  before = record {
    result = none_from unit.result (and_first (is_none unit.result) _ (and_right (is_activity unit.kind) _ is_it));
    inputs = and_first (list_all (λ (var : Var). is_output var.role) (map lent_var (inputs_of unit))) _ both_point;
    outputs = and_second (list_all (λ (var : Var). is_output var.role) (map lent_var (inputs_of unit))) _ both_point;
    inputs_differ = inputs_differ unit names_differ;
    outputs_differ = outputs_differ unit names_differ;
    state = sound.interface state (contains_first state (ins ∷ outs ∷ []));
    ins = sound.interface ins (contains_further state (ins ∷ outs ∷ []) ins (contains_first ins (outs ∷ [])));
    outs = sound.interface outs (contains_further state (ins ∷ outs ∷ []) outs (contains_further ins (outs ∷ []) outs (contains_first outs [])));
    known = end.known.known program.entry (lent_unit unit) there within need
        ∙ ap (λ b. Some (signature_by b program.structs (lent_unit unit) remembers)) active;
    depth = let low = end.chains.of_units program.entry (lent_unit unit) there in let few = chain_low in omega (arith, low, few);
  }

  -- what is known once bl_init is
  abbrev functions_then : Table Signature
  functions_then = with_entry end.functions (codes "bl_init") (signature_in init)

  abbrev depths_then : Table ℕ
  depths_then = with_entry end.depths (codes "bl_init") (depth_of_function end.depths init)

  behind : Entry program.structs unit remembers table functions_then depths_then
  behind = record {
    result = before.result;
    inputs = before.inputs;
    outputs = before.outputs;
    inputs_differ = before.inputs_differ;
    outputs_differ = before.outputs_differ;
    state = before.state;
    ins = before.ins;
    outs = before.outs;
    known = ap (λ o. option_or o None) before.known;
    depth = subst (λ o. unwrap_or o 0 ≤ 100) (sym (nothing_after (end.depths (unit_name unit.name)))) before.depth;
  }

  functions_fine : function_faults_after table end.functions end.depths (init ∷ tick ∷ []) ≡ []
  functions_fine =
      let one = init-fine program.structs unit remembers table end.functions end.depths before (end.known.prelude (codes "init")) in
      let two = tick-fine program.structs unit remembers table functions_then depths_then behind
      (none_still (end.functions (codes "bl_tick")) (end.known.prelude (codes "tick"))) in
      (λ i. one i ++ (two i ++ []))

  funcs_fine : function_faults_after table no_entries no_entries (parts.funcs ++ (init ∷ tick ∷ [])) ≡ []
  funcs_fine = end.same ∙ functions_fine

  two_fine : interface_faults (parts.funcs ++ (init ∷ tick ∷ [])) ≡ []
  two_fine = ap faults_of_two (two_last parts.funcs init tick)

  three_fine : (at : Place) → unless (is_some (table (codes "bl_state")) && (is_some (table (codes "bl_in")) && is_some (table (codes "bl_out"))))
      faults.interface_structs at ≡ []
  three_fine at =
      kept (is_some (table (codes "bl_state")) && (is_some (table (codes "bl_in")) && is_some (table (codes "bl_out")))) faults.interface_structs at
      (all_three (is_some (table (codes "bl_state"))) (is_some (table (codes "bl_in"))) (is_some (table (codes "bl_out"))) (ap is_some before.state)
      (ap is_some before.ins) (ap is_some before.outs))

  pub fine : faults_in (file_from (written_of program unit machine).structs (written_of program unit machine).funcs) ≡ []
  unfolding faults_in
  fine =
      (λ i. sound.formed i ++ (funcs_fine i ++ (three_fine (last_place (parts.funcs ++ (init ∷ tick ∷ []))) i ++ two_fine i)))

  pub formed : WellFormed (file_from (written_of program unit machine).structs (written_of program unit machine).funcs)
  formed = record { none = fine }

pub files : (program : Program) → NeededClosed program.structs program.units program.entry → PartsWellFormed program.structs program.units program.entry →
    FilesWellFormed program
files program closed parts_well_formed machine unit keeps passes there forms sound =
    formed program machine unit keeps passes there closed sound
    (parts_well_formed machine (table_of program unit machine)
    (init_function ∷ tick_function unit (unwrap_or (slice_get (parts_for_entry program machine).remember program.entry) false) ∷ [])
    keeps passes forms sound.types sound.parts (omega arith))
