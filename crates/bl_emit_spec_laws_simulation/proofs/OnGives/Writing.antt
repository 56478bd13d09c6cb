-- The call that is written for a `run`, once its arguments are evaluated.
use Rattle.std.proofs.Common.{◌≡◌, ℕ, ◌+◌, Bool, true, false, List, [], ◌∷◌, ◌++◌}
use Rattle.std.proofs.Common.{map, Option, Some, None, refl, ap, ap₂, ◌∙◌, codes}
use Rattle.std.specs.Prelude.{is_some, option_and_then, option_map, slice_get}
use Rattle.bl_tree.specs.declared.c.CArg.{CArg}
use Rattle.bl_tree.specs.declared.c.CArg.TheVariants.{Address}
use Rattle.bl_tree.specs.declared.c.CPlace.{CPlace}
use Rattle.bl_tree.specs.declared.tree.StructDef.{StructDef}
use Rattle.bl_tree.specs.declared.tree.Unit.{Unit as UnitDef}
use Rattle.bl_graph_nodes.specs.Nodes.{Arguments}
use Rattle.bl_ctext.specs.declared.builtin.Builtin.{Builtin}
use Rattle.bl_ctext_semantics.specs.Meaning.{ArgumentValue, CallResult, Counted, Scope, applied, by_address}
use Rattle.bl_ctext_semantics.specs.Meaning.{call_c, called_after, called_as, further, given, later_call}
use Rattle.bl_ctext_semantics.specs.Meaning.{location_c, named_location, next, way_of}
use Rattle.bl_ctext_semantics.specs.Memory.{Location, Memory, Projection, member}
use Rattle.bl_emit_acts.specs.Acts.{call_args, name_of_callee}
use Rattle.bl_emit_acts.specs.Trees.{c_call, c_place, c_step}
use Rattle.bl_emit_acts.specs.Types.{unit_name}
use Rattle.bl_emit_acts_laws_simulation.specs.Arguments.{arguments_c}
use Rattle.bl_emit_acts_laws_simulation.specs.Frames.{remembered_at}
use Rattle.bl_emit_acts_laws_simulation.proofs.Arguments.{own_name, pass_all, passes_address}
use Rattle.bl_emit_acts_laws_simulation.proofs.Evaluated.{call-does, passes, place-location, step-way}
use Rattle.bl_emit_acts_laws_simulation.proofs.Passing.{joined_answer, pass_both}
use Rattle.bl_emit_acts_laws_simulation.proofs.Places.{listed-answer}
use Rattle.bl_emit_spec.specs.Blocks.{ActivityView, arg_where, has_result, may_end_in, run_args, unit_may_end}
use Rattle.bl_emit_spec.specs.Names.{NumberedWord, callee_frame, callee_memory, ended_name, ended_place, given_name, given_place}
use Rattle.bl_emit_spec_laws.specs.Registers.Registers.{frame_at}
use Rattle.bl_emit_spec_laws.specs.Calls.Calls.{passed_to, where_true}
use Rattle.bl_emit_spec_laws.specs.Calls.Memories.{inner}
use Rattle.bl_emit_spec_laws_nodes.specs.Calling.{given_by}

module _ (structs : List StructDef) (scope : Scope) (here : Memory) where
  -- ---- places

  -- a member behind a pointer
  member_answer : (name part : List ℕ) → (location_c (c_place true name (c_step part ∷ [])) scope here).answer
      ≡ Some (further (named_location scope true name) (member part ∷ []))
  member_answer name part =
      ap (λ (c : Counted Location). c.answer) (place-location scope here true name (c_step part ∷ []))
      ∙ ap (λ (c : Counted (List Projection)). (next (next c (λ a. next (given (Some [])) (λ others. given (Some (a ∷ others)))))
      (λ ways. given (Some (further (named_location scope true name) (way_of ways))))).answer) (step-way scope here part)

  -- a variable of the function
  local_answer : (name : List ℕ) → (location_c (c_place false name []) scope here).answer ≡ Some (named_location scope false name)
  local_answer name = ap (λ (c : Counted Location). c.answer) (place-location scope here false name [])

  -- ---- arguments

  address_answer : (place : CPlace) (at : Location) → (location_c place scope here).answer ≡ Some at →
      (pass_all structs scope here (Address place ∷ [])).answer ≡ Some (by_address at ∷ [])
  address_answer place at is =
      listed-answer (passes (Address place) scope here) (pass_all structs scope here [])
      ∙ ap (λ a. option_and_then (λ (a : ArgumentValue). Some (a ∷ [])) a)
      (passes_address structs scope here place ∙ ap (option_map by_address) is)

  where_answer : (test : Bool) (place : CPlace) (at : Location) → (location_c place scope here).answer ≡ Some at →
      (pass_all structs scope here (arg_where test (Address place))).answer ≡ Some (where_true test (by_address at))
  where_answer true place at is = address_answer place at is
  where_answer false place at is = refl

  -- what the arguments of a `run` pass
  abbrev run_answer : NumberedWord → Bool → Bool → Bool → Option (List ArgumentValue) → Option (List ArgumentValue)
  run_answer n remembers result ends between =
      joined_answer (Some (by_address (inner (frame_at scope) n) ∷ []))
      (joined_answer (Some (where_true remembers (by_address (inner (remembered_at scope) n))))
      (joined_answer between
      (joined_answer (Some (where_true result (by_address (named_location scope false (given_name n)))))
      (Some (where_true ends (by_address (named_location scope false ended_name)))))))

  args_answer : (n : NumberedWord) (remembers result ends : Bool) (between : List CArg) →
      (pass_all structs scope here
      (Address (callee_frame n) ∷ (arg_where remembers (Address (callee_memory n))
      ++ (between ++ (arg_where result (Address (given_place n)) ++ arg_where ends (Address ended_place)))))).answer
      ≡ run_answer n remembers result ends (pass_all structs scope here between).answer
  args_answer n remembers result ends between =
      let last : List CArg = arg_where result (Address (given_place n)) ++ arg_where ends (Address ended_place) in
      let frame : List CArg = Address (callee_frame n) ∷ [] in
      let memory : List CArg = arg_where remembers (Address (callee_memory n)) in
      let lasts : (pass_all structs scope here last).answer
      ≡ joined_answer (Some (where_true result (by_address (named_location scope false (given_name n)))))
      (Some (where_true ends (by_address (named_location scope false ended_name)))) =
      pass_both structs scope here (arg_where result (Address (given_place n))) (arg_where ends (Address ended_place))
      ∙ ap₂ joined_answer (where_answer result (given_place n) (named_location scope false (given_name n)) (local_answer (given_name n)))
      (where_answer ends ended_place (named_location scope false ended_name) (local_answer ended_name)) in
      pass_both structs scope here frame (memory ++ (between ++ last))
      ∙ ap₂ joined_answer
      (address_answer (callee_frame n) (inner (frame_at scope) n) (member_answer (codes "f") _))
      (pass_both structs scope here memory (between ++ last)
      ∙ ap₂ joined_answer
      (where_answer remembers (callee_memory n) (inner (remembered_at scope) n) (member_answer (codes "m") _))
      (pass_both structs scope here between last ∙ ap (joined_answer (pass_all structs scope here between).answer) lasts))

-- ---- the call

module _ (view : ActivityView) (n : NumberedWord) (u : ℕ) (arguments : Arguments) (other : UnitDef) (remembers : Bool) (scope : Scope) (here : Memory)
    (earlier_is : slice_get view.site.earlier u ≡ Some other) (remembers_is : view.remembers u ≡ remembers) where
  abbrev written : CallResult
  written = call_c (c_call (name_of_callee (slice_get view.site.earlier u)) (run_args view n u arguments)) scope here

  abbrev between : Option (List ArgumentValue)
  between = arguments_c (call_args view.site arguments.inputs arguments.outputs) scope here

  abbrev counted : ℕ
  counted = (pass_all view.site.structs scope here (run_args view n u arguments)).count

  written_after : written
      ≡ called_after scope here (unit_name other.name) counted
      (run_answer view.site.structs scope here n remembers (is_some other.result) (unit_may_end other) between)
  written_after =
      ap (λ o. call_c (c_call (name_of_callee o) (run_args view n u arguments)) scope here) earlier_is
      ∙ (call-does scope here (unit_name other.name) (run_args view n u arguments)
      ∙ ap (called_after scope here (unit_name other.name) counted)
      (args_answer view.site.structs scope here n (view.remembers u) (has_result (slice_get view.site.earlier u))
      (may_end_in (slice_get view.site.earlier u)) (call_args view.site arguments.inputs arguments.outputs)
      ∙ ap₂ (λ m o. run_answer view.site.structs scope here n m (has_result o) (may_end_in o) between) remembers_is earlier_is))

  -- it is one of the callee's function
  pub written_given : (inputs : List ArgumentValue) (outputs : List Location) → between ≡ Some (inputs ++ map by_address outputs) →
      written ≡ later_call counted
      (applied (scope.known (unit_name other.name)) (scope.depth + 1) (passed_to other remembers (given_by scope n inputs outputs)) here)
  written_given inputs outputs is =
      written_after
      ∙ (ap (λ o. called_after scope here (unit_name other.name) counted
      (run_answer view.site.structs scope here n remembers (is_some other.result) (unit_may_end other) o)) is
      ∙ ap (λ (o : Option Builtin). later_call counted
      (called_as o (scope.known (unit_name other.name)) (scope.depth + 1) (passed_to other remembers (given_by scope n inputs outputs)) here))
      (own_name view.site.structs scope here other.name))

  -- and traps where an argument does
  pub written_traps : between ≡ None → written.result ≡ None
  written_traps is =
      ap (λ (c : CallResult). c.result)
      (written_after ∙ ap (λ o. called_after scope here (unit_name other.name) counted
      (run_answer view.site.structs scope here n remembers (is_some other.result) (unit_may_end other) o)) is)
