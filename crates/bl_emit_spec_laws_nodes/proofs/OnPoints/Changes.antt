-- The C of changes in the middle of a pass.
use Rattle.std.proofs.Common.{◌≡◌, ℕ, Bool, true, List, [], ◌∷◌, ◌++◌, Contains, Some, refl, sym, ap, ◌∙◌, subst}
use Rattle.bl_tree.specs.declared.place.Place.{Place}
use Rattle.bl_tree.specs.declared.tree.StructDef.{StructDef}
use Rattle.bl_tree.specs.declared.tree.Ty.{Ty}
use Rattle.bl_tree.specs.declared.tree.Unit.{Unit as UnitDef}
use Rattle.bl_tree.specs.declared.value.Value.{Value}
use Rattle.bl_tree.specs.Typing.{TypingContext}
use Rattle.bl_graph_nodes.specs.Nodes.{Arguments, EnterAt, nodes_in}
use Rattle.bl_graph_nodes.specs.Plain.{Label, plain_body}
use Rattle.bl_ctext_semantics.specs.Meaning.{Scope, block_c, further}
use Rattle.bl_ctext_semantics.specs.Memory.{Location, Memory, Projection, member, value_at}
use Rattle.bl_ctree.specs.Instances.{Setting, callee_of, setting_of, unit_at}
use Rattle.bl_ctree.specs.Store.{Store, view_at}
use Rattle.bl_emit_acts.specs.Acts.{is_copied}
use Rattle.bl_emit_acts.specs.Types.{variable_name}
use Rattle.bl_emit_acts_laws_simulation.specs.Acts.{copy_location}
use Rattle.bl_emit_acts_laws_simulation.specs.Frames.{remembered_at}
use Rattle.bl_emit_acts_laws_simulation.specs.Encodes.{CopiesEncoded, Encodes, VariablesEncoded, are_apart, location_in}
use Rattle.bl_emit_spec.specs.Activities.{Activity, activity_view, copies_of, remembers_any}
use Rattle.bl_emit_spec.specs.Blocks.{changes_code, unit_may_end}
use Rattle.bl_emit_spec.specs.Names.{NumberedWord, callee_name, counter_name}
use Rattle.bl_emit_spec_laws.specs.Registers.Laws.{ChangesSimulate, RegistersKeepApart}
use Rattle.bl_emit_spec_laws.specs.Registers.Registers.{FewRegisters, FramePointersAreValid, Register, Registered, RegistersApart, RegistersBeside}
use Rattle.bl_emit_spec_laws.specs.Registers.Registers.{RegistersEncodedAfter}
use Rattle.bl_emit_spec_laws.specs.Registers.Registers.{frame_at, has_register, register_at}
use Rattle.bl_machine_pass.specs.Registers.{Registers, all_changed}
use Rattle.bl_machine_pass_laws_execution.specs.Frames.{Frames}
use Rattle.bl_emit_spec_laws.specs.Calls.Built.{Activities, activity_at, rank_by, registered, run_by, site_at, unit_number}
use Rattle.bl_emit_spec_laws.specs.Calls.Laws.{PassKeepsFrame}
use Rattle.bl_emit_spec_laws.specs.Calls.Memories as memories
use Rattle.bl_emit_spec_laws.specs.Calls.Memories.{MemoryEncodes, inner}
use Rattle.bl_emit_spec_laws.specs.Calls.Invariant.{PassRepresents, PlacesAreSeparate, result_at_c}
use Rattle.bl_emit_spec_laws_nodes.specs.Points.Laws.{ChangesSimulateInPass, Remembering, ResultTold}
use Rattle.bl_emit_spec_laws_nodes.proofs.OnPoints.Apart.{Beyond, inner_is, nests_beyond, outside_all, place_kept, register_inner, register_stands}
use Rattle.bl_emit_spec_laws_nodes.proofs.OnPoints.Apart.{last_further}

-- a place with the same numbers holds the same value
pub holds_same : (structs : List StructDef) (ty : Ty) (value : Value) (here after : Memory) (place : Location) →
    ((way : List Projection) → value_at after place way ≡ value_at here place way) → Encodes structs ty value (value_at here place) →
    Encodes structs ty value (value_at after place)
holds_same structs ty value here after place same holds = record { each = λ ks n is. same _ ∙ holds.each ks n is }

-- the registers of an activity are apart where its pointers lead to separate places
pub registers_keep : RegistersKeepApart → (site : TypingContext) (unit : UnitDef) (remembers : Bool) (scope : Scope) (a : Activity) → a.unit ≡ unit →
    FewRegisters (registered a) → PlacesAreSeparate site unit remembers scope →
    RegistersApart (registered a) scope × RegistersBeside (registered a) site scope
registers_keep keep site unit remembers scope a is few places =
    keep site (registered a) scope few (subst (λ (u : UnitDef). FramePointersAreValid (unit_may_end u) scope) (sym is) places.frame)
    (record { lent = places.pointers.lent_older; remembered = places.pointers.held_older }) places.frame_apart
    (λ ends. places.over_apart (ap unit_may_end (sym is) ∙ ends))

module _ (w : Setting) (activities : Activities) (i : ℕ) (unit : UnitDef) (scope : Scope)
    (frames : Frames) (store : Store) (copies : List Value) (r after_r : Registers) (here after : Memory)
    (places : PlacesAreSeparate (site_at w activities i) unit (remembers_any (activity_at w activities i)) scope)
    (is_unit : (activity_at w activities i).unit ≡ unit)
    (beside : RegistersBeside (registered (activity_at w activities i)) (site_at w activities i) scope) (remembering : Remembering w activities)
    (stands : PassRepresents w activities i unit scope frames store copies r here)
    (left : RegistersEncodedAfter (registered (activity_at w activities i)) scope after_r here after) where
  abbrev has : Registered
  has = registered (activity_at w activities i)

  abbrev site : TypingContext
  site = site_at w activities i

  may_end : has.over ≡ unit_may_end unit
  may_end = ap unit_may_end is_unit

  -- a place that no register has anything in common with
  kept_at : (place : Location) → ((x : Register) → has_register has x ≡ true → are_apart (register_at has scope x) place ≡ true) → (way : List Projection) →
      value_at after place way ≡ value_at here place way
  kept_at place apart = place_kept scope has after_r here after place left apart

  variables : VariablesEncoded site (view_at w store i).now scope after
  variables = record {
    each = λ k var value there is.
        holds_same site.structs var.ty value here after (location_in scope site k [])
        (kept_at (location_in scope site k []) (λ x its. beside.variables x k var its there)) (stands.variables.each k var value there is);
  }

  copied : CopiesEncoded site copies (is_copied (copies_of unit)) scope after
  copied = record {
    each = λ k var value its there is.
        holds_same site.structs var.ty value here after (copy_location scope site.vars k)
        (kept_at (copy_location scope site.vars k) (λ x its. beside.copies x k its)) (stands.copied.each k var value its there is);
  }

  -- ---- what is called

  module _ (l : Label) (at : Place) (arguments : Arguments) (j : ℕ) (there : Contains (nodes_in (plain_body unit.body)) (EnterAt l at arguments))
      (called : callee_of w i at ≡ Some j) (is_there : unit_at w i ≡ Some unit) where
    abbrev n : NumberedWord
    n = run_by w activities i at

    abbrev f : Location
    f = inner (frame_at scope) n

    abbrev m : Location
    m = inner (remembered_at scope) n

    inner_counter : (f' : Location) → Beyond f f' → (more : List Projection) (way : List Projection) →
        value_at after (further f' more) way ≡ value_at here (further f' more) way
    inner_counter f' far more =
        kept_at (further f' more)
        (λ x its. subst (λ (place : Location). are_apart (register_at has scope x) place ≡ true)
        (sym (inner_is (frame_at scope) f' n far more))
        (register_inner scope has (unit_may_end unit) may_end places.frame n (far.0 ++ more) x its))

    inner_variable : remembers_any (activity_at w activities i) ≡ true → (m' : Location) → Beyond m m' → (more : List Projection) (way : List Projection) →
        value_at after (further m' more) way ≡ value_at here (further m' more) way
    inner_variable remembers m' far more =
        kept_at (further m' more)
        (λ x its. subst (λ (place : Location). are_apart (register_at has scope x) place ≡ true)
        (sym (inner_is (remembered_at scope) m' n far more))
        (last_further (register_at has scope x) (remembered_at scope) (member (callee_name n) ∷ (far.0 ++ more))
        (register_stands scope has site (unit_may_end unit) may_end (remembered_at scope) (places.memory remembers) x its)))

    callee_kept : MemoryEncodes w activities j f m frames store after
    callee_kept = record {
      counters = λ k f' m' nests c below.
          inner_counter f' (nests_beyond w activities j k f m f' m' nests).0 (member (counter_name c) ∷ []) []
          ∙ (stands.callees l at arguments j there called).counters k f' m' nests c below;
      variables = λ k f' m' nests x var value known held is.
          holds_same w.structs var.ty value here after (further m' (member (variable_name (site_at w activities k).vars x) ∷ []))
          (inner_variable
          (remembering.each i k (frame_at scope) (remembered_at scope) f' m' x var
          (memories.inside is_there there called nests) known held)
          m' (nests_beyond w activities j k f m f' m' nests).1 (member (variable_name (site_at w activities k).vars x) ∷ []))
          ((stands.callees l at arguments j there called).variables k f' m' nests x var value known held is);
    }

  -- ---- all of it

  stands_after : unit_at w i ≡ Some unit → ResultTold unit i scope store after_r here →
      PassRepresents w activities i unit scope frames store copies after_r after
  stands_after is_there told = record {
    registers = left.registers;
    variables = variables;
    copied = copied;
    callees = λ l at arguments j there called. callee_kept l at arguments j there called is_there;
    result = λ value over has_one is.
        kept_at (result_at_c scope) (register_stands scope has site (unit_may_end unit) may_end (result_at_c scope) (places.result has_one)) []
        ∙ told value over has_one is;
  }

  keeps_after : PassKeepsFrame site unit (remembers_any (activity_at w activities i)) scope here after
  keeps_after root way older outside =
      left.kept root way (outside_all scope has root way older outside.frame (λ ends. outside.over (sym may_end ∙ ends)))

pub all_stand : ChangesSimulate → RegistersKeepApart → ChangesSimulateInPass
all_stand come keep structs units entry machine activities i unit scope frames store copies r here changes compiled function is_there
    remembering stands own told =
    let w = setting_of structs units entry in
    let a = activity_at w activities i in
    let places = function.places in
    let is_unit : a.unit ≡ unit = compiled.built.unit (unit_number w i) unit function.is_there in
    let apart =
    registers_keep keep (site_at w activities i) unit (remembers_any a) scope a is_unit
    (compiled.registers (unit_number w i) unit function.is_there function.active) places in
    let came = come (activity_view a) (registered a) scope changes r here (λ k. refl) (λ k. refl) apart.0 stands.registers own in
    let after_r = all_changed (rank_by w activities i) changes r in
    let after = (block_c (changes_code (activity_view a) changes) scope here).memory in
    record {
      ends = came.0;
      stands =
          stands_after w activities i unit scope frames store copies r after_r here after places is_unit apart.1 remembering stands came.1 is_there told;
      kept = keeps_after w activities i unit scope frames store copies r after_r here after places is_unit apart.1 remembering stands came.1;
    }
