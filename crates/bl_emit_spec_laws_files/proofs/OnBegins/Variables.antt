-- The variables of a called activity have their values as its function begins.
use Rattle.std.proofs.Common.{◌≡◌, ℕ, ◌+◌, ◌<◌, ◌≤◌, ◌^◌, arith, Bool, true, List, [], ◌∷◌}
use Rattle.std.proofs.Common.{◌++◌, length, map, take, drop}
use Rattle.std.proofs.Common.{Some, sym, ap, ◌∙◌, subst}
use Rattle.std.proofs.Math.Seq.{take-add}
use Rattle.std.proofs.lemmas.List.{append-nil}
use Rattle.std.proofs.lemmas.Option.{same_Some}
use Rattle.std.specs.Prelude.{slice_get}
use Rattle.bl_tree.proofs.Basics.{get_taken}
use Rattle.bl_tree.specs.declared.tree.StructDef.{StructDef}
use Rattle.bl_tree.specs.declared.tree.Ty.{Ty}
use Rattle.bl_tree.specs.declared.tree.Unit.{Unit as UnitDef}
use Rattle.bl_tree.specs.declared.tree.Var.{Var}
use Rattle.bl_tree.specs.declared.value.Value.{Value}
use Rattle.bl_tree.specs.Program.{parameters_of, roles_stand}
use Rattle.bl_tree.specs.Typing.{TypingContext, is_activity, var_at}
use Rattle.bl_eval.specs.Values.{number_in}
use Rattle.bl_ctext_semantics.specs.Meaning.{ArgumentValue, Meaning, Scope, by_address, by_value, further}
use Rattle.bl_ctext_semantics.specs.Memory.{CValue, Location, Memory, member, value_at, variable, without_frame}
use Rattle.bl_ctext_semantics.specs.Memory as memory
use Rattle.bl_ctext_semantics.specs.Tables.{Table}
use Rattle.bl_ctree.specs.Instances.{Setting, setting_of}
use Rattle.bl_ctree.specs.Store.{view_at}
use Rattle.bl_ctree_laws_confluence.specs.Deeds.Orderly.{AcceptedIsOrderly}
use Rattle.bl_emit_acts.specs.declared.home.Home.{Home}
use Rattle.bl_emit_acts.specs.declared.home.Home.TheVariants.{Held, Local, Lent}
use Rattle.bl_emit_acts.specs.Types.{variable_name}
use Rattle.bl_emit_acts_laws_simulation.specs.Frames.{is_older}
use Rattle.bl_emit_acts_laws_simulation.specs.Encodes.{Encodes, VariablesEncoded, home_at, lead_in, location_in, start_in}
use Rattle.bl_emit_acts_laws_simulation.proofs.Parts.{holds_same}
use Rattle.bl_emit_functions_laws_simulation.specs.Calls.{CallsKeepFrame, HandedOver, HandsOver, memory_begun}
use Rattle.bl_emit_functions_laws_simulation.proofs.OnCalls.Locals.{parameters_many, parameters_within}
use Rattle.bl_emit_spec.specs.Activities.{Activity, activity_function, activity_view, remembers_any}
use Rattle.bl_emit_spec_laws.specs.Calls.Built.{site_at, unit_number}
use Rattle.bl_emit_spec_laws.specs.Calls.Calls.{CallAddresses, MayGive, input_values, output_values, passed_to}
use Rattle.bl_emit_spec_laws.specs.Calls.Laws.{memory_in, scope_in}
use Rattle.bl_emit_spec_laws.specs.Calls.Memories as memories
use Rattle.bl_emit_spec_laws.proofs.OnActivities.Forgetting.{holder_remembers}
use Rattle.bl_emit_spec_laws_files.specs.Begins.{VariablesBegin}
use Rattle.bl_emit_spec_laws_files.proofs.OnBegins.Homes as homes
use Rattle.bl_emit_spec_laws_files.proofs.OnBegins.Homes.{Where, where_is}
use Rattle.bl_emit_spec_laws_files.proofs.OnBegins.Params.{value_given}
use Rattle.bl_emit_spec_laws_files.proofs.OnBegins.Places.{as_many, lead_to, memory_older}
use Rattle.bl_emit_spec_laws_files.proofs.OnBegins.Pointers.{Begun, begun_is, memory_given}
use Rattle.bl_emit_spec_laws_files.proofs.OnBegins.Standing.{active, few, gives, handed, many, standing, structs_are, unit_is}
use Rattle.bl_emit_functions_laws_simulation.proofs.OnCalls.Frame.{number_alone}

module _ (a : Activity) (standing : roles_stand a.unit ≡ true) (active : is_activity a.unit.kind ≡ true) (few : length a.unit.vars ≤ 2 ^ 64)
    (known : Table Meaning) (depth : ℕ) (given : CallAddresses) (values : List Value) (here : Memory)
    (handed : HandedOver a.structs a.unit (depth + 1) here values (given.inputs ++ map by_address given.outputs))
    (many : length (given.inputs ++ map by_address given.outputs) ≡ a.unit.inputs + a.unit.outputs)
    (may : MayGive a.unit (remembers_any a) depth given) (keeps : CallsKeepFrame) (now : List Value)
    (front : (j : ℕ) → j < a.unit.inputs + a.unit.outputs → slice_get values j ≡ slice_get now j)
    (held : (j : ℕ) (var : Var) (value : Value) → var_at (activity_view a).site j ≡ Some var → home_at (activity_view a).site j ≡ Held →
    slice_get now j ≡ Some value → Encodes a.structs var.ty value (value_at here (further given.memory (member (variable_name a.unit.vars j) ∷ [])))) where
  abbrev site : TypingContext
  site = (activity_view a).site

  abbrev n : ℕ
  n = a.unit.inputs + a.unit.outputs

  abbrev Args : List ArgumentValue
  Args = given.inputs ++ map by_address given.outputs

  abbrev Called : List ArgumentValue
  Called = passed_to a.unit (remembers_any a) given

  abbrev scope : Scope
  scope = Begun a known (depth + 1) given (as_many a standing active few known depth given values here handed many may)

  abbrev begun : Memory
  begun = memory_begun (activity_function a) (depth + 1) (passed_to a.unit (remembers_any a) given) here

  older_same : (at : Location) (way : List memory.Projection) → is_older (depth + 1) at.root ≡ true → value_at begun at way ≡ value_at here at way
  older_same at way older = (keeps known (activity_function a) (depth + 1) Called here).begins at.root (at.parts ++ way) older

  -- where a variable of a home stands
  abbrev stands_in : Bool → Home → ℕ → Location
  stands_in activity home j =
      let start = start_in scope activity home site.vars j in
      record { root = start.root; parts = start.parts ++ (lead_in home site.vars j ++ []) }

  same_home : (j : ℕ) (home : Home) (ty : Ty) (value : Value) → home_at site j ≡ home →
      Encodes a.structs ty value (value_at begun (stands_in true home j)) → Encodes a.structs ty value (value_at begun (location_in scope site j []))
  same_home j home ty value is h =
      subst (λ activity. Encodes a.structs ty value (value_at begun (stands_in activity (home_at site j) j))) (sym active)
      (subst (λ home. Encodes a.structs ty value (value_at begun (stands_in true home j))) (sym is) h)

  same_value : (j : ℕ) (mine value : Value) → j < n → slice_get values j ≡ Some mine → slice_get now j ≡ Some value → mine ≡ value
  same_value j mine value less is at = same_Some mine value (sym is ∙ (front j less ∙ at))

  value_stands : (j : ℕ) (value : CValue) (way : List memory.Projection) → j < n → slice_get Args j ≡ Some (by_value value) →
      begun (variable (depth + 1) (variable_name site.vars j)) way ≡ value way
  value_stands j value way less is =
      let all : length (parameters_of a.unit) ≡ n = parameters_many a.structs a.earlier a.unit standing in
      let most : n ≤ length a.unit.vars = parameters_within a.structs a.earlier a.unit standing in
      ap (λ (m : Memory). m (variable (depth + 1) (variable_name site.vars j)) way)
      (begun_is a known (depth + 1) given (as_many a standing active few known depth given values here handed many may) here)
      ∙ value_given a.structs a.unit.vars (depth + 1) (parameters_of a.unit) 0 j j Args (without_frame (depth + 1) here) value way (omega arith)
      (omega (arith, all, less)) (omega (arith, all, most, few)) is

  variable_holds : (j : ℕ) (var : Var) (value : Value) → var_at site j ≡ Some var → slice_get now j ≡ Some value →
      Where site (depth + 1) here values Args n j var → Encodes a.structs var.ty value (value_at begun (location_in scope site j []))
  variable_holds j var value there at (homes.number number mine p v m less home) =
      same_home j Local var.ty value home
      (holds_same a.structs var.ty value number (value_at begun (stands_in true Local j)) (λ way. sym (value_stands j number way less p))
      (number_alone a.structs var.ty value number (ap number_in (sym (same_value j mine value less v at)) ∙ m)))
  variable_holds j var value there at (homes.place to mine p v older holds less home role) =
      same_home j Lent var.ty value home
      (subst (λ (l : Location). Encodes a.structs var.ty value (value_at begun (record { root = l.root; parts = l.parts ++ [] })))
      (sym (lead_to a standing active few known depth given values here handed many may j to less p))
      (holds_same a.structs var.ty value (value_at here to) (value_at begun (record { root = to.root; parts = to.parts ++ [] }))
      (λ way. sym (ap (λ parts. begun to.root (parts ++ way)) (append-nil to.parts) ∙ older_same to way older))
      (subst (λ value. Encodes a.structs var.ty value (value_at here to)) (same_value j mine value less v at) holds)))
  variable_holds j var value there at (homes.local more home) =
      let is : remembers_any a ≡ true = holder_remembers a j var there home in
      let inner : Location = further given.memory (member (variable_name site.vars j) ∷ []) in
      same_home j Held var.ty value home
      (subst (λ (l : Location). Encodes a.structs var.ty value
      (value_at begun (record { root = l.root; parts = l.parts ++ ((member (variable_name site.vars j) ∷ []) ++ []) })))
      (sym (memory_given a known (depth + 1) given (as_many a standing active few known depth given values here handed many may) is))
      (holds_same a.structs var.ty value (value_at here inner) (value_at begun inner)
      (λ way. sym (older_same inner way (memory_older a standing active few known depth given values here handed many may is)))
      (held j var value there home at)))

  pub variables_hold : VariablesEncoded (activity_view a).site now
      (Begun a known (depth + 1) given (as_many a standing active few known depth given values here handed many may))
      (memory_begun (activity_function a) (depth + 1) (passed_to a.unit (remembers_any a) given) here)
  variables_hold = record {
    each = λ j var value there at.
        variable_holds j var value there at (where_is a.structs a.earlier a.unit standing active (depth + 1) values Args here handed j var there);
  }

-- the values of the parameters stand first among the values
front_values : (unit : UnitDef) (now : List Value) (j : ℕ) → j < unit.inputs + unit.outputs →
    slice_get (take unit.inputs now ++ take unit.outputs (drop unit.inputs now)) j ≡ slice_get now j
front_values unit now j less =
    ap (λ (all : List Value). slice_get all j) (sym (take-add unit.inputs unit.outputs now)) ∙ get_taken now (unit.inputs + unit.outputs) j less

pub variables_begin_all : (structs : List StructDef) (units : List UnitDef) (entry : ℕ) → AcceptedIsOrderly → HandsOver structs units entry →
    CallsKeepFrame →
    VariablesBegin structs units entry
variables_begin_all structs units entry orderly hands keeps machine activities i unit known depth given frames store here compiled there may begins =
    let w : Setting = setting_of structs units entry in
    let a : Activity = activities (unit_number w i) in
    let is : a.unit ≡ unit =
    unit_is structs units entry orderly hands machine activities i unit known depth given frames store here compiled there may begins in
    let now : List Value = (view_at w store i).now in
    subst (λ (u : UnitDef). VariablesEncoded (site_at w activities i) now (scope_in w activities i u known depth given)
    (memory_in w activities i u depth given here)) is
    (variables_hold a
    (standing structs units entry orderly hands machine activities i unit known depth given frames store here compiled there may begins)
    (active structs units entry orderly hands machine activities i unit known depth given frames store here compiled there may begins)
    (few structs units entry orderly hands machine activities i unit known depth given frames store here compiled there may begins) known depth given
    (input_values w store i unit ++ output_values w store i unit) here
    (handed structs units entry orderly hands machine activities i unit known depth given frames store here compiled there may begins)
    (many structs units entry orderly hands machine activities i unit known depth given frames store here compiled there may begins)
    (gives structs units entry orderly hands machine activities i unit known depth given frames store here compiled there may begins) keeps now
    (λ j less. front_values unit now j (subst (λ (u : UnitDef). j < u.inputs + u.outputs) is less))
    (λ j var value at home is_value.
    subst (λ (s : List StructDef). Encodes s var.ty value (value_at here (further given.memory (member (variable_name a.unit.vars j) ∷ []))))
    (sym (structs_are structs units entry orderly hands machine activities i unit known depth given frames store here compiled there may begins))
    (begins.memory.variables i given.frame given.memory memories.here j var value at home is_value)))
