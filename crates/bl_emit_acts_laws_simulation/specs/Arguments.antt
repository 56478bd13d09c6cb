-- What the arguments of a call come to in C, whichever function it calls.
use Rattle.std.specs.Prelude.{◌≡◌, ℕ, Bool, true, List, [], ◌∷◌, ◌++◌, map, take, Option, Some, None}
use Rattle.std.specs.List.{list_all}
use Rattle.bl_tree.specs.declared.c.CArg.{CArg, fold-CArg}
use Rattle.bl_tree.specs.declared.static_path.Static.{Static}
use Rattle.bl_tree.specs.declared.tree.Expr.{Expr}
use Rattle.bl_tree.specs.declared.tree.Path.{Path}
use Rattle.bl_tree.specs.declared.tree.StructDef.{StructDef}
use Rattle.bl_tree.specs.declared.tree.Unit.{Unit as UnitDef}
use Rattle.bl_tree.specs.declared.tree.Var.{Var}
use Rattle.bl_tree.specs.declared.value.Value.{Value}
use Rattle.bl_tree.specs.Program.{IsWellTyped}
use Rattle.bl_tree.specs.Reduce.{all_of}
use Rattle.bl_tree.specs.Static.{static_of}
use Rattle.bl_tree.specs.Typing.{TypingContext, is_outlet, site_of, type_of, type_of_path, types_match, var_at}
use Rattle.bl_effects.specs.Rules.{marked_inputs, marked_path, outputs_aliased}
use Rattle.bl_eval.specs.Meaning.{View, meaning_of, read_at, values_of}
use Rattle.bl_eval.specs.Standing.{scope_of}
use Rattle.bl_eval.specs.Values.{values_fit}
use Rattle.bl_ctext_semantics.specs.Meaning.{ArgumentValue, Evaluates, Scope, by_address, each_of}
use Rattle.bl_ctext_semantics.specs.Meaning.{arg_step, call_step, expr_step, index_step, kind_step, place_step, step_step}
use Rattle.bl_ctext_semantics.specs.Memory.{Location, Memory}
use Rattle.bl_emit_acts.specs.Acts.{call_args, is_copied}
use Rattle.bl_emit_acts_laws_simulation.specs.Acts.{MayPass, OutputsEncoded, places_in_args}
use Rattle.bl_emit_acts_laws_simulation.specs.Encodes.{are_apart, copied_in, copied_in_path, location_in, way_to}
use Rattle.bl_emit_acts_laws_simulation.specs.Laws.{BesideActs}
use Rattle.bl_emit_acts_laws_simulation.specs.Simulation.{ArgumentsEncoded}

-- what an argument passes
abbrev pub argument_c : CArg → Evaluates ArgumentValue
argument_c = fold-CArg _ _ _ _ _ _ _ arg_step kind_step call_step expr_step index_step place_step step_step

-- what arguments pass, one after another; none where one traps
abbrev pub arguments_c : List CArg → Scope → Memory → Option (List ArgumentValue)
arguments_c args scope here = (each_of (map argument_c args) scope here).answer

-- the place is that of the part of a variable at a static path, which has this value
pub record OutputLeads (site : TypingContext) (now : List Value) (scope : Scope) (static : Static) (value : Value) (place : Location) : Type 0 where
  pub var : Var
  pub is_there : var_at site static.root ≡ Some var
  pub is : place ≡ location_in scope site static.root (way_to site.structs static.fields (Some var.ty))
  pub has : read_at static.root now static.fields ≡ Some value

-- each place is that of the part of a variable at the path of its position, with the value there
abbrev pub OutputsLead : TypingContext → List Value → Scope → List Path → List Value → List Location → Type 0
OutputsLead site now scope [] [] [] = Unit {0}
OutputsLead site now scope (path ∷ paths) (value ∷ values) (place ∷ places) =
    OutputLeads site now scope (static_of path) value place × OutputsLead site now scope paths values places
OutputsLead site now scope _ _ _ = ⊥

-- a place has nothing in common with any variable
abbrev pub ApartFromVariables : TypingContext → Scope → Location → Type 0
ApartFromVariables site scope place = (k : ℕ) (var : Var) → var_at site k ≡ Some var → are_apart place (location_in scope site k []) ≡ true

-- the evaluated arguments of a call: inputs with these values, and the places of outputs. Each place of an output is where its path leads and has the value
-- there. A call may hand them over, and all places among the arguments are in variables
pub record ArgumentsGiven (structs : List StructDef) (site : TypingContext) (view : View) (scope : Scope) (here : Memory) (ins outs : List Var)
    (paths : List Path) (values : List Value) (answer : Option (List ArgumentValue)) : Type 0 where
  pub inputs : List ArgumentValue
  pub read : List Value
  pub outputs : List Location
  pub are : answer ≡ Some (inputs ++ map by_address outputs)
  pub fit : values_fit structs ins values ≡ true
  pub hold : ArgumentsEncoded structs scope.depth here ins values inputs
  pub outputs_hold : OutputsEncoded structs here outs read outputs
  pub leads : OutputsLead site view.now scope paths read outputs
  pub may : MayPass scope.depth inputs outputs
  pub inputs_apart : (place : Location) → ApartFromVariables site scope place → list_all (are_apart place) (places_in_args inputs) ≡ true
  pub outputs_apart : (place : Location) → ApartFromVariables site scope place → list_all (are_apart place) outputs ≡ true

-- the arguments in C simulate those of the program: they trap where an input does, and else are given with these values
abbrev pub ArgumentsSimulate : List StructDef → TypingContext → View → Scope → Memory → List Var → List Var → List Path → Option (List Value) →
    Option (List ArgumentValue) → Type 0
ArgumentsSimulate structs site view scope here ins outs paths None answer = answer ≡ None
ArgumentsSimulate structs site view scope here ins outs paths (Some values) answer =
    ArgumentsGiven structs site view scope here ins outs paths values answer

-- arguments simulate in every typed program, if they fit the types of inputs and outputs and no output overlaps another or an aggregate input
abbrev pub ArgumentsPass : List StructDef → List UnitDef → ℕ → Type 0
ArgumentsPass structs units entry =
    (k : ℕ) (unit : UnitDef) (view : View) (copies : List Bool) (scope : Scope) (here : Memory) (inputs : List Expr) (paths : List Path)
    (ins outs : List Var) → let site = site_of structs (take k units) unit in
    IsWellTyped structs units entry → BesideActs structs units k unit view (is_copied copies) scope here →
    types_match (map (type_of site) inputs) ins ≡ true → types_match (map (type_of_path site) paths) outs ≡ true →
    all_of (map (is_outlet site) paths) ≡ true → all_of (map (copied_in (is_copied copies)) inputs) ≡ true →
    all_of (map (copied_in_path (is_copied copies)) paths) ≡ true → outputs_aliased (marked_inputs inputs) [] (map marked_path paths) ≡ [] →
    ArgumentsSimulate structs site view scope here ins outs paths (values_of (map (meaning_of (scope_of site)) inputs) view)
    (arguments_c (call_args site inputs paths) scope here)
