-- Variables are added alone in the body of a unit.
use Rattle.std.proofs.Common.{◌≡◌, ℕ, List, [], ◌++◌, length, drop, take, Some, refl, sym, ap, ◌∙◌, append-nil, arith}
use Rattle.std.specs.Prelude.{Bool, true, false, map, Option, ◌&&◌, is_some, nat_le, option_and_then}
use Rattle.std.specs.List.{list_all}
use Rattle.std.proofs.lemmas.Bool.{leb-true}
use Rattle.std.proofs.lemmas.List.{length-take-le}
use Rattle.bl_tree.proofs.Basics.{and_first, and_second, first_empty, second_empty}
use Rattle.bl_eval.proofs.OperatorFits.{some_found, where_holds}
use Rattle.bl_names_tree.specs.declared.item.NamedConstant.{NamedConstant}
use Rattle.bl_names_tree.specs.declared.item.NamedUnit.{NamedUnit}
use Rattle.bl_names_tree.specs.declared.item.NamedVar.{NamedVar}
use Rattle.bl_names_tree.specs.Placed.{DeclaredBefore, behind_unit, head_placed, holds_if, in_turn, parameters, roles_placed, stmt_step, type_placed, unit_step}
use Rattle.bl_names_tree.specs.Placed.{var_placed, with_parameters}
use Rattle.bl_tree.specs.declared.tree.Stmt.{Stmt}
use Rattle.bl_tree.specs.Program.{is_input, is_output}
use Rattle.bl_tree.specs.Typing.{TypingContext, fits}
use Rattle.bl_types.specs.declared.environment.Environment.{Environment}
use Rattle.bl_types.specs.Declarations.{Declaring, after_parameters}
use Rattle.bl_types.specs.Returns.{return_failures}
use Rattle.bl_types.specs.Statements.{Block, walked_block}
use Rattle.bl_types.specs.Units.{after_head, after_unit, entered, result_of}
use Rattle.bl_types_laws.proofs.Blocks.{statements_fit}
use Rattle.bl_types_laws.proofs.Heads.{ParametersPassed, head_passes, is_local, is_typed_parameter, typed_parameters}
use Rattle.bl_types_laws.specs.Standing.{BetweenUnits, BlockPassed, Grown, Known, stmt_named, unit_named}
use Rattle.bl_types_laws.specs.Within.{known_in}
use Rattle.bl_types_laws.proofs.ItemTurns.{no_variable}

module _ (constants : List NamedConstant) (unit : NamedUnit) (env : Environment) (between : BetweenUnits env)
    (named : unit_named constants env.units unit ≡ true) (counts : DeclaredBefore) (step : unit_step constants unit (known_in env) ≡ Some counts)
    (none : (after_unit constants unit env).failures ≡ []) where
  abbrev n : ℕ
  n = parameters unit

  abbrev start : Environment
  start = entered unit env

  abbrev inside : Environment
  inside = (after_parameters unit.vars start).env

  abbrev head : Declaring
  head = after_head unit env

  abbrev body : Block Stmt
  body = walked_block constants unit.vars unit.body head.env

  abbrev inner : DeclaredBefore → Option DeclaredBefore
  inner = in_turn (map (stmt_step unit.vars constants) unit.body)

  abbrev inputs : Bool
  inputs = list_all (λ (var : NamedVar). is_input var.role) (take unit.inputs unit.vars)

  abbrev outputs : Bool
  outputs = list_all (λ (var : NamedVar). is_output var.role) (take unit.outputs (drop unit.inputs unit.vars))

  abbrev rest : Bool
  rest = list_all is_local (drop n unit.vars)

  abbrev typed : Bool
  typed = list_all (λ (var : NamedVar). is_some var.ty) (take n unit.vars)

  abbrev placed : Bool
  placed = list_all (var_placed (known_in env)) (take n unit.vars)

  abbrev result_placed : Bool
  result_placed = holds_if (type_placed (known_in env)) unit.result

  head_holds : (roles_placed unit && (placed && result_placed)) ≡ true
  head_holds = (where_holds (head_placed (known_in env) unit) (option_and_then (behind_unit unit) (inner (with_parameters (known_in env) unit))) counts step).0

  body_found : (behind : DeclaredBefore) × (inner (with_parameters (known_in env) unit) ≡ Some behind) × (behind_unit unit behind ≡ Some counts)
  body_found = some_found (behind_unit unit) (inner (with_parameters (known_in env) unit)) counts
      (where_holds (head_placed (known_in env) unit) (option_and_then (behind_unit unit) (inner (with_parameters (known_in env) unit))) counts step).1

  roles : (nat_le n (length unit.vars) && (inputs && (outputs && rest))) ≡ true
  roles = and_first (roles_placed unit) (placed && result_placed) head_holds

  roles_behind : (inputs && (outputs && rest)) ≡ true
  roles_behind = and_second (nat_le n (length unit.vars)) (inputs && (outputs && rest)) roles

  last_roles : (outputs && rest) ≡ true
  last_roles = and_second inputs (outputs && rest) roles_behind

  typed_all : list_all is_typed_parameter (take n unit.vars) ≡ true
  typed_all = typed_parameters unit.vars unit.inputs unit.outputs (and_first inputs (outputs && rest) roles_behind) (and_first outputs rest last_roles)
      (and_first typed (list_all (stmt_named constants unit.vars env.units) unit.body) named)

  start_known : Known start
  start_known = record { vars = λ k variable is. absurd (no_variable k variable is); fields = between.known.fields; constants = between.known.constants }

  no_head_failure : head.failures ≡ []
  no_head_failure = first_empty head.failures (body.failures ++ return_failures unit) none

  passed : ParametersPassed start (length (take n unit.vars)) inside
  passed =
      head_passes unit.vars n (known_in env) start refl start_known typed_all
      (and_first placed result_placed (and_second (roles_placed unit) (placed && result_placed) head_holds)) (and_second outputs rest last_roles)
      (first_empty (after_parameters unit.vars start).failures (result_of inside unit.name.place unit.result).failures no_head_failure)

  count : length inside.vars ≡ n
  count =
      let long = length-take-le n unit.vars (leb-true n (length unit.vars) (and_first (nat_le n (length unit.vars)) (inputs && (outputs && rest)) roles)) in
      let longer = passed.longer in
      omega (arith, long, longer)

  head_counts : known_in head.env ≡ with_parameters (known_in env) unit
  head_counts = λ i. record {
    structs = length (passed.grown.structs i);
    constants = length (passed.same_constants i);
    units = length (passed.grown.units i);
    variables = count i;
  }

  abbrev site : TypingContext
  site = record { structs = head.env.structs; earlier = env.units; kind = unit.kind; vars = []; result = head.env.result }

  fit : BlockPassed site (fits site) false head.env body_found.0 body
  fit =
      statements_fit constants unit.vars site unit.body
      (and_second typed (list_all (stmt_named constants unit.vars env.units) unit.body) named) head.env
      (record {
        later = [];
        structs = sym (append-nil head.env.structs);
        units = passed.grown.units;
        kind = passed.grown.kind;
        result = refl;
        heads = between.heads;
      })
      (record { vars = passed.known.vars; fields = passed.known.fields; constants = passed.known.constants }) body_found.0
      (ap inner head_counts ∙ body_found.1)
      (first_empty body.failures (return_failures unit) (second_empty head.failures (body.failures ++ return_failures unit) none))

  -- what is known at the end of the body begins with what is known behind the head
  pub body_grown : Grown head.env body.env
  body_grown = fit.grown
