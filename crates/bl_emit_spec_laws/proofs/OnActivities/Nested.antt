-- What memory holds of an instance where its function has run, and of all that it calls.
use Rattle.std.proofs.Common.{◌≡◌, ℕ, pos, ◌<◌, ◌≤◌, Bool, true, List, []}
use Rattle.std.proofs.Common.{◌∷◌, ◌++◌, length, Option, Some, None}
use Rattle.std.proofs.Common.{refl, sym, ap, ◌∙◌, subst, arith}
use Rattle.std.specs.Prelude.{Contains, if◌then◌else◌, option_and_then, option_map, slice_get, unwrap_or}
use Rattle.bl_tree.proofs.Basics.{less_test, numbers_differ}
use Rattle.bl_tree.specs.declared.tree.StructDef.{StructDef}
use Rattle.bl_tree.specs.declared.tree.Unit.{Unit as UnitDef}
use Rattle.bl_tree.specs.declared.tree.Var.{Var}
use Rattle.bl_tree.specs.declared.value.Value.{Value}
use Rattle.bl_tree.specs.Typing.{TypingContext, is_activity, var_at}
use Rattle.bl_graph_nodes.specs.Nodes.{EnterAt, nodes_in}
use Rattle.bl_graph_nodes.specs.Plain.{plain_body}
use Rattle.bl_ctext_semantics.specs.Meaning.{Scope, further, named_location}
use Rattle.bl_ctext_semantics.specs.Memory.{Location, Memory, Projection, Root, member, scalar_number, value_at}
use Rattle.bl_ctree.specs.declared.instance.Instance.{Instance}
use Rattle.bl_ctree.specs.Instances.{Setting, setting_of, unit_at, unit_of}
use Rattle.bl_ctree.specs.Store.{Store, view_at}
use Rattle.bl_ctree_laws_confluence.specs.Deeds.Nesting.{InstancesNest}
use Rattle.bl_emit_acts.specs.declared.home.Home.{Home}
use Rattle.bl_emit_acts.specs.declared.home.Home.TheVariants.{Held}
use Rattle.bl_emit_acts.specs.Types.{variable_name}
use Rattle.bl_emit_acts_laws_simulation.specs.Frames.{is_older, remembered_at}
use Rattle.bl_emit_acts_laws_simulation.specs.Encodes.{Encodes, home_at, lead_in, location_in, start_in}
use Rattle.bl_emit_spec.specs.Activities.{Activity, remembers_any}
use Rattle.bl_emit_spec.specs.Names.{counter_name}
use Rattle.bl_emit_spec_laws.specs.Registers.Registers.{Counter, frame_at}
use Rattle.bl_machine.specs.declared.machine.Activity.{Activity as InMachine}
use Rattle.bl_machine_pass.specs.Registers.{Registers, with_at}
use Rattle.bl_machine_pass_laws_execution.specs.Frames.{Frames}
use Rattle.bl_emit_spec_laws.specs.Calls.Built.{Activities, activity_at, run_by, site_at, unit_number}
use Rattle.bl_emit_spec_laws.specs.Calls.Laws.{CompilationContext}
use Rattle.bl_emit_spec_laws.specs.Calls.Memories as memories
use Rattle.bl_emit_spec_laws.specs.Calls.Memories.{MemoryEncodes, Nests, inner}
use Rattle.bl_emit_spec_laws.specs.Calls.Invariant.{FunctionContext, PassRepresents}
use Rattle.bl_emit_spec_laws.specs.Activities.{CalleesRemember}
use Rattle.bl_emit_spec_laws.proofs.OnActivities.Forgetting.{holder_remembers, inner_remembers}
use Rattle.bl_machine_pass_laws_execution.proofs.OnFrames.{at_itself}

-- ---- units of instances

pub unit_by : (w : Setting) (o : Option Instance) (unit : UnitDef) → option_and_then (unit_of w) o ≡ Some unit →
    slice_get w.units (unwrap_or (option_map (λ (instance : Instance). instance.unit) o) 0) ≡ Some unit
unit_by w None unit is = absurd (cc)
unit_by w (Some instance) unit is = is

-- the unit of an instance stands at its position
pub unit_there : (w : Setting) (i : ℕ) (unit : UnitDef) → unit_at w i ≡ Some unit → slice_get w.units (unit_number w i) ≡ Some unit
unit_there w i unit is = unit_by w (slice_get w.instances i) unit is

-- ---- frames

-- another frame of an instance leaves those of others
pub with_other : (k i : ℕ) (counters : ℕ → ℕ) (frames : Frames) (j : ℕ) → (k ≡ i → ⊥) → with_at i counters frames k j ≡ frames k j
with_other k i counters frames j apart = ap (λ (b : Bool). (if b then counters else frames k) j) (numbers_differ k i apart)

-- ---- nested places

module _ (structs : List StructDef) (units : List UnitDef) (entry : ℕ) (machine : List InMachine) (activities : Activities)
    (compiled : CompilationContext structs units entry machine activities) (remember : CalleesRemember structs units entry machine activities)
    (nest : InstancesNest structs units entry) where
  abbrev W : Setting
  W = setting_of structs units entry

  -- what is nested has no lesser number
  pub nested_least : {i k : ℕ} {f m f' m' : Location} → Nests W activities i f m k f' m' → i ≤ k
  nested_least memories.here = omega arith
  nested_least {i} (memories.inside {j = j} {at = at} is within calls rest) =
      let less = nest.later i j at calls in
      let more = nested_least rest in
      omega (arith, less, more)

  -- and stands at the roots of the outer places
  pub nested_frame : {i k : ℕ} {f m f' m' : Location} → Nests W activities i f m k f' m' → f'.root ≡ f.root
  nested_frame memories.here = refl
  nested_frame (memories.inside is within calls rest) = nested_frame rest

  pub nested_memory : {i k : ℕ} {f m f' m' : Location} → Nests W activities i f m k f' m' → m'.root ≡ m.root
  nested_memory memories.here = refl
  nested_memory (memories.inside is within calls rest) = nested_memory rest

  record OverOther (i : ℕ) (f m : Location) (k : ℕ) (f' : Location) : Type 0 where
    place : Location
    nests : Nests W activities i f m k f' place

  -- wherever what is remembered stands, the counters are nested in one way
  over_other : {i k : ℕ} {f m f' m' : Location} → Nests W activities i f m k f' m' → (other : Location) → OverOther i f other k f'
  over_other memories.here other = record { place = other; nests = memories.here }
  over_other {i} (memories.inside {l = l} {at = at} {arguments = arguments} is within calls rest) other =
      let more = over_other rest (inner other (run_by W activities i at)) in
      record { place = more.place; nests = memories.inside is within calls more.nests }

  -- ---- after the function

  module _ (i : ℕ) (unit : UnitDef) (is_there : unit_at W i ≡ Some unit) (scope : Scope)
      (function : FunctionContext structs units W activities i unit scope) (frames : Frames) (store : Store) (copies : List Value) (r : Registers)
      (here : Memory) (stands : PassRepresents W activities i unit scope frames store copies r here) (after : Memory)
      (kept : (root : Root) (way : List Projection) → is_older scope.depth root ≡ true → after root way ≡ here root way) where
    abbrev site : TypingContext
    site = site_at W activities i

    abbrev a : Activity
    a = activity_at W activities i

    -- values at older places are as they were
    kept_holds : (var : Var) (value : Value) (place : Location) → is_older scope.depth place.root ≡ true →
        Encodes structs var.ty value (value_at here place) → Encodes structs var.ty value (value_at after place)
    kept_holds var value place older holds = record { each = λ ks n is. kept place.root (place.parts ++ _) older ∙ holds.each ks n is }

    older_there : (place other : Location) → is_older scope.depth other.root ≡ true → place.root ≡ other.root →
        is_older scope.depth place.root ≡ true
    older_there place other older same = subst (λ (x : Root). is_older scope.depth x ≡ true) (sym same) older

    own_unit : (activities (unit_number W i)).unit ≡ unit
    own_unit = compiled.built.unit (unit_number W i) unit (unit_there W i unit is_there)

    active : is_activity site.kind ≡ true
    active = ap (λ (u : UnitDef). is_activity u.kind) own_unit ∙ function.active

    same_structs : site.structs ≡ structs
    same_structs = compiled.built.structures (unit_number W i) unit (unit_there W i unit is_there)

    -- where a variable that the activity remembers stands
    held_location : (x : ℕ) → home_at site x ≡ Held →
        location_in scope site x [] ≡ further (remembered_at scope) (member (variable_name site.vars x) ∷ [])
    held_location x held =
        ap (λ (h : Home). further (start_in scope (is_activity site.kind) h site.vars x) (lead_in h site.vars x ++ [])) held
        ∙ ap (λ (b : Bool). further (named_location scope b (Rattle.std.specs.Prelude.codes "m")) (member (variable_name site.vars x) ∷ [])) active

    -- the counters
    counters_held : {k : ℕ} {f' m m' : Location} → Nests W activities i (frame_at scope) m k f' m' → (c : ℕ) →
        c < length (activity_at W activities k).sizes →
        scalar_number (value_at after (further f' (member (counter_name c) ∷ []))) ≡ pos (with_at i r.counters frames k c)
    counters_held memories.here c less =
        kept (frame_at scope).root (((frame_at scope).parts ++ member (counter_name c) ∷ []) ++ []) function.places.frame.frame_older
        ∙ stands.registers.each (Counter c) (less_test c (length a.sizes) less)
        ∙ sym (ap pos (at_itself i r.counters frames c))
    counters_held {k} {f'} {m} {m'} (memories.inside {j = j} {unit = other} {l = l} {at = at} {arguments = arguments} is within calls rest) c less =
        let n = run_by W activities i at in
        let found = over_other rest (inner (remembered_at scope) n) in
        let same : other ≡ unit = Rattle.std.proofs.lemmas.Option.same_Some other unit (sym is ∙ is_there) in
        let own = subst (λ (u : UnitDef). Contains (nodes_in (plain_body u.body)) (EnterAt l at arguments)) same within in
        let holds = stands.callees l at arguments j own calls in
        let least = nested_least rest in
        let later = nest.later i j at calls in
        let apart : k ≡ i → ⊥ = λ eq. absurd (omega (arith, least, later, eq)) in
        kept f'.root ((f'.parts ++ member (counter_name c) ∷ []) ++ [])
        (older_there f' (frame_at scope) function.places.frame.frame_older (nested_frame rest))
        ∙ holds.counters k f' found.place found.nests c less ∙ sym (ap pos (with_other k i r.counters frames c apart))

    -- the variables
    variables_held : {k : ℕ} {m f' m' : Location} → Nests W activities i (frame_at scope) m k f' m' →
        (remembers_any a ≡ true → remembered_at scope ≡ m) → (x : ℕ) (var : Var) (value : Value) → var_at (site_at W activities k) x
        ≡ Some var →
        home_at (site_at W activities k) x ≡ Held → slice_get (view_at W store k).now x ≡ Some value →
        Encodes structs var.ty value (value_at after (further m' (member (variable_name (site_at W activities k).vars x) ∷ [])))
    variables_held {m = m} memories.here leads x var value there held is_value =
        let remembers = holder_remembers a x var there held in
        let place = further (remembered_at scope) (member (variable_name site.vars x) ∷ []) in
        let own = stands.variables.each x var value there is_value in
        let stood : Encodes structs var.ty value (value_at here place) =
        subst (λ (s : List StructDef). Encodes s var.ty value (value_at here place)) same_structs
        (subst (λ (p : Location). Encodes site.structs var.ty value (value_at here p)) (held_location x held) own) in
        subst (λ (p : Location). Encodes structs var.ty value (value_at after (further p (member (variable_name site.vars x) ∷ [])))) (leads remembers)
        (kept_holds var value place (function.places.memory remembers).older stood)
    variables_held {k} {m} {f'} {m'} (memories.inside {j = j} {unit = other} {l = l} {at = at} {arguments = arguments} is within calls rest) leads x
        var value there held is_value =
        let n = run_by W activities i at in
        let remembers = remember i j other l at arguments compiled is within calls
        (inner_remembers structs units entry machine activities compiled remember rest x var there held) in
        let same : other ≡ unit = Rattle.std.proofs.lemmas.Option.same_Some other unit (sym is ∙ is_there) in
        let own = subst (λ (u : UnitDef). Contains (nodes_in (plain_body u.body)) (EnterAt l at arguments)) same within in
        let holds = stands.callees l at arguments j own calls in
        let there_now = subst (λ (p : Location). Nests W activities j (inner (frame_at scope) n) (inner p n) k f' m') (sym (leads remembers)) rest in
        kept_holds var value (further m' (member (variable_name (site_at W activities k).vars x) ∷ []))
        (older_there m' (remembered_at scope) (function.places.memory remembers).older (nested_memory there_now))
        (holds.variables k f' m' there_now x var value there held is_value)

    -- so memory holds what the instance leaves, at the places of its pointers
    pub left_held : (f m : Location) → frame_at scope ≡ f → (remembers_any a ≡ true → remembered_at scope ≡ m) →
        MemoryEncodes W activities i f m (with_at i r.counters frames) store after
    left_held f m is leads = subst (λ (p : Location). MemoryEncodes W activities i p m (with_at i r.counters frames) store after) is (record {
      counters = λ k f' m' nests c less. counters_held nests c less;
      variables = λ k f' m' nests x var value there held is_value. variables_held nests leads x var value there held is_value;
    })
