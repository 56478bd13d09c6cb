-- What the bodies of the functions of a start and of a tick come to.
use Rattle.std.proofs.Common.{◌≡◌, ℕ, ◌+◌, ℤ, pos, Bool, true, false, List, [], ◌∷◌, ◌++◌, map, Option, Some, None, refl, sym}
use Rattle.std.proofs.Common.{ap, ap₂, ◌∙◌, subst}
use Rattle.std.proofs.Common.{append_assoc}
use Rattle.std.proofs.lemmas.List.{map-append}
use Rattle.std.specs.Prelude.{codes, is_some, if◌then◌else◌}
use Rattle.bl_tree.specs.declared.c.CArg.{CArg, CArg-F, fold-roll-CArg, roll-CArg}
use Rattle.bl_tree.specs.declared.c.CArg.TheVariants as argument
use Rattle.bl_tree.specs.declared.c.CArg.TheVariants.{Address}
use Rattle.bl_tree.specs.declared.c.CCall.{CCall}
use Rattle.bl_tree.specs.declared.c.CExpr.{CExpr}
use Rattle.bl_tree.specs.declared.c.CPlace.{CPlace}
use Rattle.bl_tree.specs.declared.c.CStmt.{fold-roll-CStmt, roll-CStmt}
use Rattle.bl_tree.specs.declared.c.CStmtKind.{CStmtKind, CStmtKind-F, fold-roll-CStmtKind}
use Rattle.bl_tree.specs.declared.c.CStmtKind.TheVariants as statement
use Rattle.bl_tree.specs.declared.scalar.Scalar.TheVariants.{Nat}
use Rattle.bl_tree.specs.declared.scalar.Width.TheVariants.{W32}
use Rattle.bl_tree.specs.declared.text.Text.{Text}
use Rattle.bl_tree.specs.declared.tree.Unit.{Unit as UnitDef}
use Rattle.bl_tree.specs.declared.tree.Var.{Var}
use Rattle.bl_tree.specs.Numbers.{is_one, number_of}
use Rattle.bl_tree.specs.Typing.{inputs_of, outputs_of}
use Rattle.bl_ctext_semantics.specs.Builtin.{builtin_of}
use Rattle.bl_ctext_semantics.specs.Course.{Outcome, ending, following, result_at, returns}
use Rattle.bl_ctext_semantics.specs.Meaning.{CallResult, Counted, Meaning, ArgumentValue, Scope, applied, block_c, by_address, call_c, call_end}
use Rattle.bl_ctext_semantics.specs.Meaning.{call_outcome, called_as, called_after, each_of, executed, function_c, further, given, later_call, location_c, next}
use Rattle.bl_ctext_semantics.specs.Meaning.{runs_c, named_location, value_c, way_of}
use Rattle.bl_ctext_semantics.specs.Memory.{CValue, Location, Memory, Projection, input_object, member, output_object, scalar_number, state_object, value_at, variable}
use Rattle.bl_ctext_semantics.specs.Memory.{without_frame}
use Rattle.bl_ctext_semantics.specs.Tables.{Table, table_of}
use Rattle.bl_ctext_semantics.specs.Trace.{object}
use Rattle.bl_emit_acts.specs.Acts.{c_calling}
use Rattle.bl_emit_acts.specs.Trees.{c_call, c_literal, c_place, c_read, c_step, nowhere}
use Rattle.bl_emit_acts.specs.Types.{unit_name}
use Rattle.bl_emit_functions.specs.Trees.{c_if, c_return}
use Rattle.bl_emit_spec.specs.Blocks.{arg_where, stmt_where, unit_may_end}
use Rattle.bl_emit_spec.specs.Lent.{lent_unit}
use Rattle.bl_emit_spec.specs.Programs.{c_returned, input_arg, output_arg, tick_args, tick_function}
use Rattle.bl_emit_spec_laws_files.proofs.OnBegins.Evaluated.{call-does, literal-value, place-location, read-value, step-way}
use Rattle.bl_emit_spec_laws_files.proofs.OnBegins.Statements.{if-runs}
use Rattle.bl_emit_spec_laws.specs.Calls.Calls.{CallAddresses, passed_to, where_true}
use Rattle.bl_emit_spec_laws_files.specs.States.States.{frame_place, memory_place, output_place}
use Rattle.bl_emit_acts_laws_simulation.proofs.Statements.{what}
use Rattle.bl_emit_acts_laws_simulation.proofs.Evaluated.{passes}

module _ (scope : Scope) (here : Memory) where
  -- ---- places and arguments

  -- a pointer's member
  pub member_place : (name of : Text) → location_c (c_place true name (c_step of ∷ [])) scope here
      ≡ given (Some (further (named_location scope true name) (member of ∷ [])))
  member_place name of =
      place-location scope here true name (c_step of ∷ [])
      ∙ ap (λ (first : Counted (List Projection)). next (next first (λ a. next (each_of [] scope here) (λ others. given (Some (a ∷ others)))))
      (λ ways. given (Some (further (named_location scope true name) (way_of ways))))) (step-way scope here of)

  -- what a pointer points to
  pub whole_place : (name : Text) → location_c (c_place true name []) scope here ≡ given (Some (further (named_location scope true name) []))
  whole_place name = place-location scope here true name []

  pub local_place : (name : Text) → location_c (c_place false name []) scope here ≡ given (Some (further (named_location scope false name) []))
  local_place name = place-location scope here false name []

  address_arg-open : (place : CPlace) →
      passes (roll-CArg (CArg-F.Address place)) scope here ≡ next (location_c place scope here) (λ p. given (Some (by_address p)))
  address_arg-open place = rw fold-roll-CArg refl

  address-arg : (place : CPlace) → passes (Address place) scope here ≡ next (location_c place scope here) (λ p. given (Some (by_address p)))
  address-arg place =
      subst (λ (a : CArg). passes a scope here ≡ next (location_c place scope here) (λ p. given (Some (by_address p))))
      (argument.rolls-Address place) (address_arg-open place)

  pub address_passes : (place : CPlace) (at : Location) → location_c place scope here ≡ given (Some at) → passes (Address place) scope here
      ≡ given (Some (by_address at))
  address_passes place at is = address-arg place ∙ ap (λ (c : Counted Location). next c (λ p. given (Some (by_address p)))) is

  -- what arguments hand over
  abbrev pub AllPass : List CArg → List ArgumentValue → Type 0
  AllPass [] [] = Unit {0}
  AllPass (arg ∷ args) (passed ∷ rest) = (passes arg scope here ≡ given (Some passed)) × AllPass args rest
  AllPass _ _ = ⊥

  pub pass_append : (first second : List CArg) (ps qs : List ArgumentValue) → AllPass first ps → AllPass second qs → AllPass (first ++ second) (ps ++ qs)
  pass_append [] second [] qs one two = two
  pass_append [] second (p ∷ ps) qs one two = absurd one
  pass_append (arg ∷ first) second [] qs one two = absurd one
  pass_append (arg ∷ first) second (p ∷ ps) qs one two = (one.0, pass_append first second ps qs one.1 two)

  pub pass_mapped : {A : Type 0} (f : A → CArg) (g : A → ArgumentValue) → ((x : A) → passes (f x) scope here ≡ given (Some (g x))) → (xs : List A) →
      AllPass (map f xs) (map g xs)
  pass_mapped f g each [] = tt
  pass_mapped f g each (x ∷ xs) = (each x, pass_mapped f g each xs)

  pub all_passed : (args : List CArg) (ps : List ArgumentValue) → AllPass args ps → each_of (map passes args) scope here ≡ given (Some ps)
  all_passed [] [] all = refl
  all_passed [] (p ∷ ps) all = absurd all
  all_passed (arg ∷ args) [] all = absurd all
  all_passed (arg ∷ args) (p ∷ ps) all =
      ap₂ (λ (a : Counted ArgumentValue) (b : Counted (List ArgumentValue)). next a (λ x. next b (λ xs. given (Some (x ∷ xs))))) all.0
      (all_passed args ps all.1)

  -- ---- statements

  calling-open : (call : CCall) → runs_c (what (CStmtKind-F.Call call)) scope here ≡ call_outcome (call_c call scope here)
  calling-open call = rw (fold-roll-CStmt, fold-roll-CStmtKind) refl

  pub calling-runs : (call : CCall) → runs_c (c_calling call) scope here ≡ call_outcome (call_c call scope here)
  calling-runs call =
      subst (λ (k : CStmtKind). runs_c (roll-CStmt (record { place = nowhere; what = k })) scope here ≡ call_outcome (call_c call scope here))
      (statement.rolls-Call call) (calling-open call)

  abbrev returning : CExpr → Outcome Memory
  returning e = executed here (value_c e scope here) (λ v. ending (returns (scalar_number v)) here)

  return-open : (e : CExpr) → runs_c (what (CStmtKind-F.Return (Some e))) scope here ≡ returning e
  return-open e = rw (fold-roll-CStmt, fold-roll-CStmtKind) refl

  return-runs : (e : CExpr) → runs_c (c_return (Some e)) scope here ≡ returning e
  return-runs e =
      subst (λ (k : CStmtKind). runs_c (roll-CStmt (record { place = nowhere; what = k })) scope here ≡ returning e)
      (statement.rolls-Return (Some e)) (return-open e)

  -- the outcome of such a return
  abbrev pub returned : ℕ → Outcome Memory
  returned n = record { memory = here; end = returns (pos n); count = 1 }

  pub returned_runs : (n : ℕ) → runs_c (c_returned n) scope here ≡ returned n
  returned_runs n =
      return-runs (c_literal (Nat W32) (pos n))
      ∙ ap (λ (c : Counted CValue). executed here c (λ v. ending (returns (scalar_number v)) here)) (literal-value scope here (Nat W32) (pos n))

-- ---- the body of a tick

-- where it stands
abbrev pub tick_scope : Table Meaning → Scope
tick_scope known = record {
  known = known;
  depth = 0;
  pointers = table_of ((codes "s", record { root = state_object; parts = [] })
      ∷ (codes "i", record { root = input_object; parts = [] }) ∷ (codes "o", record { root = output_object; parts = [] }) ∷ []);
}

-- where it is told that the entry has ended
abbrev pub over_place : Location
over_place = record { root = variable 0 (codes "e"); parts = [] }

abbrev pub input_place : Var → Location
input_place var = record { root = input_object; parts = member (codes "i_" ++ var.name) ∷ [] }

-- the places of the inputs and of the outputs
abbrev pub port_places : UnitDef → List Location
port_places unit = map input_place (inputs_of unit) ++ map output_place (outputs_of unit)

-- what it gives the entry, which has all of them as outputs
abbrev pub tick_gives : UnitDef → CallAddresses
tick_gives unit = record {
  frame = frame_place;
  memory = memory_place;
  inputs = [];
  outputs = port_places unit;
  result = over_place;
  over = over_place;
}

mapped_twice : {A B C : Type 0} (f : B → C) (g : A → B) (xs : List A) → map f (map g xs) ≡ map (λ x. f (g x)) xs
mapped_twice f g [] = refl
mapped_twice f g (x ∷ xs) = ap (λ rest. f (g x) ∷ rest) (mapped_twice f g xs)

module _ (known : Table Meaning) (unit : UnitDef) (remembers : Bool) (resultless : unit.result ≡ None) where
  abbrev pub S : Scope
  S = tick_scope known

  module _ (here : Memory) where
    memory_args : (b : Bool) →
        AllPass S here (if b then Address (c_place true (codes "s") (c_step (codes "m") ∷ [])) ∷ [] else []) (where_true b (by_address memory_place))
    memory_args true = (
      address_passes S here (c_place true (codes "s") (c_step (codes "m") ∷ [])) memory_place
          (member_place S here (codes "s") (codes "m")),
      tt,
    )
    memory_args false = tt

    over_args : (b : Bool) → AllPass S here (arg_where b (Address (c_place false (codes "e") []))) (where_true b (by_address over_place))
    over_args true = (address_passes S here (c_place false (codes "e") []) over_place (local_place S here (codes "e")), tt)
    over_args false = tt

    input_passes : (var : Var) → passes (input_arg var) S here ≡ given (Some (by_address (input_place var)))
    input_passes var =
        address_passes S here (c_place true (codes "i") (c_step (codes "i_" ++ var.name) ∷ [])) (input_place var)
        (member_place S here (codes "i") (codes "i_" ++ var.name))

    output_passes : (var : Var) → passes (output_arg var) S here ≡ given (Some (by_address (output_place var)))
    output_passes var =
        address_passes S here (c_place true (codes "o") (c_step (codes "o_" ++ var.name) ∷ [])) (output_place var)
        (member_place S here (codes "o") (codes "o_" ++ var.name))

    abbrev end_arg : List CArg
    end_arg = arg_where (unit_may_end unit) (Address (c_place false (codes "e") []))

    abbrev end_passed : List ArgumentValue
    end_passed = where_true (unit_may_end unit) (by_address over_place)

    abbrev handed : List ArgumentValue
    handed =
        by_address frame_place
        ∷ (where_true remembers (by_address memory_place)
        ++ (map (λ var. by_address (input_place var)) (inputs_of unit)
        ++ (map (λ var. by_address (output_place var)) (outputs_of unit) ++ end_passed)))

    args_pass : AllPass S here (tick_args unit remembers) handed
    args_pass = (
      address_passes S here (c_place true (codes "s") (c_step (codes "f") ∷ [])) frame_place (member_place S here (codes "s") (codes "f")),
      pass_append S here (if remembers then Address (c_place true (codes "s") (c_step (codes "m") ∷ [])) ∷ [] else [])
          (map input_arg (inputs_of unit) ++ (map output_arg (outputs_of unit) ++ end_arg))
          (where_true remembers (by_address memory_place))
          (map (λ var. by_address (input_place var)) (inputs_of unit) ++ (map (λ var. by_address (output_place var)) (outputs_of unit) ++ end_passed))
          (memory_args remembers)
          (pass_append S here (map input_arg (inputs_of unit)) (map output_arg (outputs_of unit) ++ end_arg)
          (map (λ var. by_address (input_place var)) (inputs_of unit))
          (map (λ var. by_address (output_place var)) (outputs_of unit) ++ end_passed)
          (pass_mapped S here input_arg (λ var. by_address (input_place var)) input_passes (inputs_of unit))
          (pass_append S here (map output_arg (outputs_of unit)) end_arg
          (map (λ var. by_address (output_place var)) (outputs_of unit)) end_passed
          (pass_mapped S here output_arg (λ var. by_address (output_place var)) output_passes (outputs_of unit))
          (over_args (unit_may_end unit)))),
    )

    -- the places that are handed over
    abbrev ins_handed : List ArgumentValue
    ins_handed = map (λ var. by_address (input_place var)) (inputs_of unit)

    abbrev outs_handed : List ArgumentValue
    outs_handed = map (λ var. by_address (output_place var)) (outputs_of unit)

    ports_handed : ins_handed ++ outs_handed ≡ map by_address (port_places unit)
    ports_handed =
        ap₂ (λ (ins outs : List ArgumentValue). ins ++ outs) (sym (mapped_twice by_address input_place (inputs_of unit)))
        (sym (mapped_twice by_address output_place (outputs_of unit)))
        ∙ sym (map-append by_address (map input_place (inputs_of unit)) (map output_place (outputs_of unit)))

    handed_is : handed ≡ passed_to (lent_unit unit) remembers (tick_gives unit)
    handed_is =
        ap (λ (rest : List ArgumentValue). by_address frame_place ∷ (where_true remembers (by_address memory_place) ++ rest))
        (sym (append_assoc ins_handed outs_handed end_passed))
        ∙ ap₂ (λ (ports : List ArgumentValue) (b : Bool). by_address frame_place ∷ (where_true remembers (by_address memory_place)
        ++ (ports ++ (where_true b (by_address over_place) ++ end_passed))))
        ports_handed (sym (ap is_some resultless))

    -- what the call of the entry's function comes to
    abbrev pub entry_called : CallResult
    entry_called = applied (known (unit_name unit.name)) 1 (passed_to (lent_unit unit) remembers (tick_gives unit)) here

    own_name : builtin_of (unit_name unit.name) ≡ None
    unfolding builtin_of
    own_name = refl

    call_runs : runs_c (c_calling (c_call (unit_name unit.name) (tick_args unit remembers))) S here ≡ call_outcome (later_call 0 entry_called)
    call_runs =
        calling-runs S here (c_call (unit_name unit.name) (tick_args unit remembers))
        ∙ ap call_outcome (call-does S here (unit_name unit.name) (tick_args unit remembers)
        ∙ ap (λ (c : Counted (List ArgumentValue)). called_after S here (unit_name unit.name) c.count c.answer)
        (all_passed S here (tick_args unit remembers) (passed_to (lent_unit unit) remembers (tick_gives unit))
        (subst (λ (ps : List ArgumentValue). AllPass S here (tick_args unit remembers) ps) handed_is args_pass))
        ∙ ap (λ b. later_call 0 (called_as b (known (unit_name unit.name)) 1 (passed_to (lent_unit unit) remembers (tick_gives unit)) here)) own_name)

    -- behind it
    abbrev asking_runs : Outcome Memory
    asking_runs = block_c (c_if (c_read (c_place false (codes "e") [])) (c_returned 1 ∷ []) None ∷ c_returned 0 ∷ []) S here

    over_read : value_c (c_read (c_place false (codes "e") [])) S here ≡ given (Some (value_at here over_place))
    over_read = read-value S here (c_place false (codes "e") []) ∙ ap (λ (c : Counted Location). next c (λ p. given (Some (value_at here p))))
        (local_place S here (codes "e"))

    abbrev if_by : Counted CValue → Outcome Memory
    if_by c = executed here c (λ v. (if is_one (scalar_number v) then block_c (c_returned 1 ∷ []) else block_c []) S here)

    abbrev chosen : Bool → Outcome Memory
    chosen b =
        following (executed here (given (Some (value_at here over_place))) (λ v. (if b then block_c (c_returned 1 ∷ []) else block_c []) S here))
        (λ m. block_c (c_returned 0 ∷ []) S m)

    pub record Answers (o : Outcome Memory) (over : Bool) : Type 0 where
      pub result : result_at o.end ≡ Some (number_of over)
      pub memory : o.memory ≡ here

    by_over : (over : Bool) → Answers (chosen over) over
    by_over true =
        let e = returned_runs S here 1 in record {
          result = ap (λ (o : Outcome Memory). result_at (following (executed here (given (Some (value_at here over_place)))
              (λ v. following o (λ m. block_c [] S m))) (λ m. block_c (c_returned 0 ∷ []) S m)).end) e;
          memory = ap (λ (o : Outcome Memory). (following (executed here (given (Some (value_at here over_place)))
              (λ v. following o (λ m. block_c [] S m))) (λ m. block_c (c_returned 0 ∷ []) S m)).memory) e;
        }
    by_over false =
        let e = returned_runs S here 0 in record {
          result = ap (λ (o : Outcome Memory). result_at (following o (λ m. block_c [] S m)).end) e;
          memory = ap (λ (o : Outcome Memory). (following o (λ m. block_c [] S m)).memory) e;
        }

    truth : (over : Bool) → is_one (number_of over) ≡ over
    truth true = refl
    truth false = refl

    rest_is : (over : Bool) → scalar_number (value_at here over_place) ≡ number_of over → asking_runs ≡ chosen over
    rest_is over is =
        ap (λ (o : Outcome Memory). following o (λ m. block_c (c_returned 0 ∷ []) S m))
        (if-runs S here (c_read (c_place false (codes "e") [])) (c_returned 1 ∷ []) None ∙ ap if_by over_read)
        ∙ ap chosen (ap is_one is ∙ truth over)

    -- behind the call, by whether the entry may end
    abbrev runs_by : Bool → Outcome Memory
    runs_by ends = block_c (stmt_where ends (c_if (c_read (c_place false (codes "e") [])) (c_returned 1 ∷ []) None) ++ c_returned 0 ∷ []) S here

    abbrev rest_runs : Outcome Memory
    rest_runs = runs_by (unit_may_end unit)

    -- nothing is asked
    none_asked : Answers (runs_by false) false
    none_asked =
        let e = returned_runs S here 0 in record {
          result = ap (λ (o : Outcome Memory). result_at (following o (λ m. block_c [] S m)).end) e;
          memory = ap (λ (o : Outcome Memory). (following o (λ m. block_c [] S m)).memory) e;
        }

    -- memory tells whether the entry has ended, where it may end, and else it hasn't
    abbrev pub Told : Bool → Type 0
    Told over = (unit_may_end unit ≡ true → scalar_number (value_at here over_place) ≡ number_of over) × (unit_may_end unit ≡ false → over ≡ false)

    pub rest_answers : (over : Bool) → Told over → Answers rest_runs over
    rest_answers over told = by (unit_may_end unit) told.0 told.1
      where
        by : (b : Bool) → (b ≡ true → scalar_number (value_at here over_place) ≡ number_of over) → (b ≡ false → over ≡ false) → Answers (runs_by b) over
        by true is ends = subst (λ (o : Outcome Memory). Answers o over) (sym (rest_is over (is refl))) (by_over over)
        by false is ends = subst (Answers (runs_by false)) (sym (ends refl)) none_asked

  -- ---- a tick

  -- a call of its function
  abbrev pub ticked : Memory → CallResult
  ticked here = function_c known (tick_function unit remembers) 0 (object state_object ∷ object input_object ∷ object output_object ∷ []) here

  abbrev as_called : Outcome Memory → CallResult
  as_called o = record { memory = without_frame 0 o.memory; count = o.count; result = result_at o.end }

  abbrev then_rest : CallResult → Outcome Memory
  then_rest c = following (call_outcome (later_call 0 c)) rest_runs

  ticked_is : (here : Memory) → ticked here ≡ as_called (then_rest (entry_called (without_frame 0 here)))
  ticked_is here = ap (λ (o : Outcome Memory). as_called (following o rest_runs)) (call_runs (without_frame 0 here))

  by_result : (c : CallResult) (result : Option ℤ) → result ≡ None →
      result_at (following (record { memory = c.memory; end = call_end result; count = 1 + c.count }) rest_runs).end ≡ None
  by_result c None is = refl
  by_result c (Some n) is = absurd (cc)

  -- it traps where the entry's function does
  pub tick_traps : (here : Memory) → (entry_called (without_frame 0 here)).result ≡ None → (ticked here).result ≡ None
  tick_traps here is =
      let c = entry_called (without_frame 0 here) in
      ap (λ (called : CallResult). called.result) (ticked_is here) ∙ by_result (later_call 0 c) c.result is

  pub record Replies (called : CallResult) (over : Bool) (after : Memory) : Type 0 where
    pub result : called.result ≡ Some (number_of over)
    pub memory : called.memory ≡ without_frame 0 after

  answered : (c : CallResult) (over : Bool) → c.result ≡ Some (pos 0) → Told c.memory over → Replies (as_called (then_rest c)) over c.memory
  answered c over is told = by c.result is
    where
      by : (result : Option ℤ) → result ≡ Some (pos 0) →
          Replies (as_called (following (record { memory = c.memory; end = call_end result; count = 1 + (0 + c.count) }) rest_runs)) over c.memory
      by None h = absurd (cc)
      by (Some n) h =
          let a = rest_answers c.memory over told in
          record { result = a.result; memory = ap (without_frame 0) a.memory }

  -- else it tells whether the entry has ended
  pub tick_replies : (here : Memory) (over : Bool) → (entry_called (without_frame 0 here)).result ≡ Some (pos 0) →
      Told (entry_called (without_frame 0 here)).memory over → Replies (ticked here) over (entry_called (without_frame 0 here)).memory
  tick_replies here over is told =
      subst (λ (called : CallResult). Replies called over (entry_called (without_frame 0 here)).memory) (sym (ticked_is here))
      (answered (entry_called (without_frame 0 here)) over is told)
