-- What it leaves in the middle of a pass that the result is set.
use Rattle.std.proofs.Common.{◌≡◌, ℕ, Bool, true, List, [], ◌∷◌, ◌++◌, Contains, Some, refl, sym, ap, ◌∙◌, subst}
use Rattle.std.proofs.lemmas.Option.{same_Some}
use Rattle.std.specs.Prelude.{is_some, slice_get}
use Rattle.bl_tree.specs.declared.place.Place.{Place}
use Rattle.bl_tree.specs.declared.tree.Unit.{Unit as UnitDef}
use Rattle.bl_tree.specs.declared.tree.Var.{Var}
use Rattle.bl_tree.specs.declared.value.Value.{Value}
use Rattle.bl_tree.specs.Typing.{TypingContext, is_activity, var_at}
use Rattle.bl_graph_nodes.specs.Nodes.{Arguments, EnterAt, nodes_in}
use Rattle.bl_graph_nodes.specs.Plain.{Label, plain_body}
use Rattle.bl_ctext_semantics.specs.Meaning.{Scope, further}
use Rattle.bl_ctext_semantics.specs.Memory.{CValue, Location, Memory, Projection, member, number_or, scalar_number, set_at, value_at}
use Rattle.bl_ctree.specs.Actions.{result_at, with_result}
use Rattle.bl_ctree.specs.Instances.{Setting, callee_of, unit_at}
use Rattle.bl_ctree.specs.Store.{Frame, Store, number_or_zero, view_at, with_frame}
use Rattle.bl_emit_acts.specs.Acts.{is_copied}
use Rattle.bl_emit_acts.specs.declared.home.Home.TheVariants.{Held}
use Rattle.bl_emit_acts.specs.Types.{variable_name}
use Rattle.bl_emit_acts_laws_simulation.specs.Acts.{copy_location}
use Rattle.bl_emit_acts_laws_simulation.specs.Frames.{remembered_at}
use Rattle.bl_emit_acts_laws_simulation.specs.Encodes.{CopiesEncoded, VariablesEncoded, are_apart, home_at, location_in}
use Rattle.bl_emit_spec.specs.Activities.{copies_of, remembers_any}
use Rattle.bl_emit_spec.specs.Blocks.{unit_may_end}
use Rattle.bl_emit_spec.specs.Names.{NumberedWord, callee_name, counter_name}
use Rattle.bl_emit_spec_laws.specs.Registers.Registers.{Registered, frame_at, register_at}
use Rattle.bl_machine_pass.specs.Registers.{Registers}
use Rattle.bl_machine_pass_laws_execution.specs.Frames.{Frames}
use Rattle.bl_emit_spec_laws.specs.Calls.Built.{Activities, activity_at, registered, run_by, site_at}
use Rattle.bl_emit_spec_laws.specs.Calls.Laws.{PassKeepsFrame}
use Rattle.bl_emit_spec_laws.specs.Calls.Memories as memories
use Rattle.bl_emit_spec_laws.specs.Calls.Memories.{MemoryEncodes, inner}
use Rattle.bl_emit_spec_laws.specs.Calls.Invariant.{PassRepresents, PlacesAreSeparate, result_at_c}
use Rattle.bl_emit_spec_laws_nodes.specs.Points.Laws.{Remembering}
use Rattle.bl_emit_spec_laws_nodes.proofs.OnPoints.Apart.{Beyond, inner_is, last_further, lies_further, nests_beyond, register_stands}
use Rattle.bl_emit_spec_laws_nodes.proofs.OnPoints.Cells.{same_object}
use Rattle.bl_emit_spec_laws_nodes.proofs.OnPoints.Changes.{holds_same}
use Rattle.bl_emit_spec_laws_nodes.proofs.OnPoints.Foreign.{local_older, result_variable}
use Rattle.bl_emit_spec_laws_nodes.proofs.OnPoints.Results.{result_own, view_same}
use Rattle.bl_emit_acts_laws_simulation.proofs.Cells.{apart_flip, set_elsewhere}
use Rattle.bl_emit_acts_laws_simulation.proofs.Written.{left_behind}
use Rattle.bl_emit_acts_laws_simulation.proofs.Calls.{apart_lies}

module _ (w : Setting) (activities : Activities) (i : ℕ) (unit : UnitDef) (scope : Scope) (frames : Frames) (store : Store) (copies : List Value)
    (r : Registers) (here : Memory) (is_there : unit_at w i ≡ Some unit) (one : is_some unit.result ≡ true)
    (places : PlacesAreSeparate (site_at w activities i) unit (remembers_any (activity_at w activities i)) scope)
    (is_unit : (activity_at w activities i).unit ≡ unit) (active : is_activity (site_at w activities i).kind ≡ true) (remembering : Remembering w activities)
    (stands : PassRepresents w activities i unit scope frames store copies r here) (frame : Frame) (has_frame : slice_get store i ≡ Some frame)
    (value : Value) (held : CValue) (number : scalar_number held ≡ number_or_zero value) where
  abbrev site : TypingContext
  site = site_at w activities i

  abbrev remembers : Bool
  remembers = remembers_any (activity_at w activities i)

  abbrev has : Registered
  has = registered (activity_at w activities i)

  -- where the result is set
  abbrev at_c : Location
  at_c = further (result_at_c scope) []

  abbrev after : Memory
  after = set_at here at_c held

  abbrev left : Store
  left = with_frame i (with_result value) store

  held_here : (x : ℕ) (var : Var) → var_at site x ≡ Some var → home_at site x ≡ Held → remembers ≡ true
  held_here x var there held =
      remembering.each i i (frame_at scope) (remembered_at scope) (frame_at scope) (remembered_at scope) x var memories.here there held

  -- ---- what stays

  kept_at : (place : Location) → are_apart (result_at_c scope) place ≡ true → (way : List Projection) →
      value_at after place way ≡ value_at here place way
  kept_at place apart way =
      set_elsewhere here at_c held place.root (place.parts ++ way)
      (lies_further (result_at_c scope) [] place.root (place.parts ++ way) (apart_lies (result_at_c scope) place way apart))

  variables : VariablesEncoded site (view_at w left i).now scope after
  variables = record {
    each = λ x var v there is.
        holds_same site.structs var.ty v here after (location_in scope site x [])
        (kept_at (location_in scope site x [])
        (apart_flip (location_in scope site x []) (result_at_c scope)
        (result_variable site unit remembers scope places active held_here (is_copied (copies_of unit)) one x var there)))
        (stands.variables.each x var v there (ap (λ now. slice_get now x) (sym (view_same w i i value store)) ∙ is));
  }

  copied : CopiesEncoded site copies (is_copied (copies_of unit)) scope after
  copied = record {
    each = λ x var v its there is.
        holds_same site.structs var.ty v here after (copy_location scope site.vars x)
        (kept_at (copy_location scope site.vars x)
        (apart_flip (copy_location scope site.vars x) (result_at_c scope)
        (local_older site unit remembers scope places active held_here (is_copied (copies_of unit)) (copy_location scope site.vars x)
        (result_at_c scope) _ refl
        (places.result one).older)))
        (stands.copied.each x var v its there is);
  }

  module _ (m : Label) (at : Place) (arguments : Arguments) (j : ℕ) (there : Contains (nodes_in (plain_body unit.body)) (EnterAt m at arguments))
      (called : callee_of w i at ≡ Some j) where
    abbrev n : NumberedWord
    n = run_by w activities i at

    abbrev f : Location
    f = inner (frame_at scope) n

    abbrev q : Location
    q = inner (remembered_at scope) n

    further_kept : (base f' : Location) → Beyond (inner base n) f' → are_apart (result_at_c scope) base ≡ true → (more way : List Projection) →
        value_at after (further f' more) way ≡ value_at here (further f' more) way
    further_kept base f' far apart more =
        kept_at (further f' more)
        (subst (λ (place : Location). are_apart (result_at_c scope) place ≡ true) (sym (inner_is base f' n far more))
        (last_further (result_at_c scope) base (member (callee_name n) ∷ (far.0 ++ more)) apart))

    inner_holds : MemoryEncodes w activities j f q frames left after
    inner_holds = record {
      counters = λ x f' m' nests c below.
          further_kept (frame_at scope) f' (nests_beyond w activities j x f q f' m' nests).0 (places.result one).frame
          (member (counter_name c) ∷ []) []
          ∙ (stands.callees m at arguments j there called).counters x f' m' nests c below;
      variables = λ x f' m' nests v var u known held is.
          holds_same w.structs var.ty u here after (further m' (member (variable_name (site_at w activities x).vars v) ∷ []))
          (further_kept (remembered_at scope) m' (nests_beyond w activities j x f q f' m' nests).1
          (places.result_apart one
          (remembering.each i x (frame_at scope) (remembered_at scope) f' m' v var (memories.inside is_there there called nests) known held))
          (member (variable_name (site_at w activities x).vars v) ∷ []))
          ((stands.callees m at arguments j there called).variables x f' m' nests v var u known held
          (ap (λ now. slice_get now v) (sym (view_same w i x value store)) ∙ is));
    }

  -- ---- the result

  own_number : scalar_number (value_at after (result_at_c scope)) ≡ scalar_number held
  own_number =
      let start = result_at_c scope in
      same_object here at_c held (start.parts ++ [])
      ∙ ap (λ left. number_or left held (here start.root (start.parts ++ []))) (left_behind start.parts [] [])

  -- whatever the result is told to be
  pub told : (v : Value) → result_at left i ≡ Some v → scalar_number (value_at after (result_at_c scope)) ≡ number_or_zero v
  told v is =
      own_number ∙ (number ∙ ap number_or_zero (same_Some value v (sym (result_own i value store frame has_frame) ∙ is)))

  pub return_stands : PassRepresents w activities i unit scope frames left copies r after
  return_stands = record {
    registers = record {
      each = λ x its.
          kept_at (register_at has scope x)
          (apart_flip (register_at has scope x) (result_at_c scope) (register_stands scope has site (unit_may_end unit)
          (ap unit_may_end is_unit) (result_at_c scope) (places.result one) x its)) []
          ∙ stands.registers.each x its;
    };
    variables = variables;
    copied = copied;
    callees = λ m at arguments j there called. inner_holds m at arguments j there called;
    result = λ v over has is. told v is;
  }

  pub return_keeps : PassKeepsFrame site unit remembers scope here after
  return_keeps root way older outside =
      set_elsewhere here at_c held root way (lies_further (result_at_c scope) [] root way (outside.result one))
