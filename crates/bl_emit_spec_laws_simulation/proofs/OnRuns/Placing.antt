-- What stays in the middle of a pass where something is set that has nothing in common with what the pass keeps.
use Rattle.std.proofs.Common.{◌≡◌, ℕ, Bool, true, false, not, ◌&&◌, ◌||◌, List, [], ◌∷◌}
use Rattle.std.proofs.Common.{◌++◌, Contains, Some, refl, sym, ap, ◌∙◌}
use Rattle.std.specs.Prelude.{bytes_eq, is_some, ◌==◌}
use Rattle.bl_tree.proofs.Basics.{and_false}
use Rattle.bl_tree.specs.declared.place.Place.{Place}
use Rattle.bl_tree.specs.declared.text.Text.{Text}
use Rattle.bl_tree.specs.declared.tree.Unit.{Unit as UnitDef}
use Rattle.bl_tree.specs.declared.tree.Var.{Var}
use Rattle.bl_tree.specs.declared.value.Value.{Value}
use Rattle.bl_tree.specs.Typing.{TypingContext, is_activity, var_at}
use Rattle.bl_graph_nodes.specs.Nodes.{Arguments, EnterAt, nodes_in}
use Rattle.bl_graph_nodes.specs.Plain.{Label, plain_body}
use Rattle.bl_ctext_semantics.specs.Meaning.{Scope, further, named_location}
use Rattle.bl_ctext_semantics.specs.Memory.{CValue, Location, Memory, Projection, member, set_at, value_at}
use Rattle.bl_ctree.specs.Instances.{Setting, callee_of}
use Rattle.bl_ctree.specs.Store.{Store}
use Rattle.bl_emit_acts.specs.declared.home.Home.{Home}
use Rattle.bl_emit_acts.specs.declared.home.Home.TheVariants.{Held, Local, Lent}
use Rattle.bl_emit_acts.specs.Types.{copy_name, variable_name}
use Rattle.bl_emit_acts_laws_simulation.specs.Acts.{copy_location}
use Rattle.bl_emit_acts_laws_simulation.specs.Frames.{is_older, remembered_at}
use Rattle.bl_emit_acts_laws_simulation.specs.Encodes.{are_apart, home_at, lead_in, location_in, start_in, ways_part}
use Rattle.bl_emit_spec.specs.Blocks.{unit_may_end}
use Rattle.bl_emit_spec.specs.Names.{NumberedWord, callee_name, flag_name, mark_name, rested_name, with_word}
use Rattle.bl_emit_spec_laws.specs.Registers.Registers.{Before, Counter, Flag, Mark, Over, Register, Registered, frame_at, has_register, register_at}
use Rattle.bl_machine_pass.specs.Registers.{Registers}
use Rattle.bl_machine_pass_laws_execution.specs.Frames.{Frames}
use Rattle.bl_emit_spec_laws.specs.Calls.Built.{Activities, activity_at, registered, run_by, site_at}
use Rattle.bl_emit_spec_laws.specs.Calls.Memories.{MemoryEncodes, inner}
use Rattle.bl_emit_spec_laws.specs.Calls.Invariant.{PassRepresents, PlacesAreSeparate, result_at_c}
use Rattle.bl_emit_spec_laws_nodes.proofs.OnPoints.Apart.{first_further, last_further, register_inner}
use Rattle.bl_emit_spec_laws_nodes.proofs.OnPoints.Changes.{holds_same}
use Rattle.bl_emit_acts_laws_simulation.proofs.Frames.{older_differs}
use Rattle.bl_emit_acts_laws_simulation.proofs.Cells.{apart_flip, set_elsewhere}
use Rattle.bl_emit_acts_laws_simulation.proofs.Calls.{apart_lies}

-- a place has nothing in common with registers, variables, copies and the result
pub record Beside (has : Registered) (site : TypingContext) (unit : UnitDef) (scope : Scope) (place : Location) : Type 0 where
  pub registers : (x : Register) → has_register has x ≡ true → are_apart place (register_at has scope x) ≡ true
  pub variables : (k : ℕ) (var : Var) → var_at site k ≡ Some var → are_apart place (location_in scope site k []) ≡ true
  pub copies : (k : ℕ) → are_apart place (copy_location scope site.vars k) ≡ true
  pub result : is_some unit.result ≡ true → are_apart place (result_at_c scope) ≡ true

module _ (here : Memory) (place : Location) (held : CValue) where
  -- what has nothing in common with the place that is set
  pub kept_at : (other : Location) → are_apart place other ≡ true → (way : List Projection) →
      value_at (set_at here place held) other way ≡ value_at here other way
  kept_at other apart way = set_elsewhere here place held other.root (other.parts ++ way) (apart_lies place other way apart)

-- where that is set memory stands for the same, but for what is kept of what is called
pub stands_beside : (w : Setting) (activities : Activities) (i : ℕ) (unit : UnitDef) (scope : Scope) (frames after_frames : Frames) (store : Store)
    (copies : List Value) (r : Registers) (here : Memory) (place : Location) (held : CValue) →
    Beside (registered (activity_at w activities i)) (site_at w activities i) unit scope place →
    PassRepresents w activities i unit scope frames store copies r here →
    ((l : Label) (at : Place) (arguments : Arguments) (j : ℕ) → Contains (nodes_in (plain_body unit.body)) (EnterAt l at arguments) →
    callee_of w i at ≡ Some j →
    let n = run_by w activities i at in
    MemoryEncodes w activities j (inner (frame_at scope) n) (inner (remembered_at scope) n) after_frames store (set_at here place held)) →
    PassRepresents w activities i unit scope after_frames store copies r (set_at here place held)
stands_beside w activities i unit scope frames after_frames store copies r here place held beside stands callees =
    let site = site_at w activities i in
    let after = set_at here place held in record {
      registers = record {
        each = λ x its.
            kept_at here place held (register_at (registered (activity_at w activities i)) scope x)
            (beside.registers x its) []
            ∙ stands.registers.each x its;
      };
      variables = record {
        each = λ k var value there is.
            holds_same site.structs var.ty value here after (location_in scope site k [])
            (kept_at here place held (location_in scope site k []) (beside.variables k var there)) (stands.variables.each k var value there is);
      };
      copied = record {
        each = λ k var value its there is.
            holds_same site.structs var.ty value here after (copy_location scope site.vars k)
            (kept_at here place held (copy_location scope site.vars k) (beside.copies k)) (stands.copied.each k var value its there is);
      };
      callees = callees;
      result = λ value over one is. kept_at here place held (result_at_c scope) (beside.result one) [] ∙ stands.result value over one is;
    }

-- ---- locals

module _ (scope : Scope) where
  -- a local has nothing in common with what was there before the function began
  pub local_older : (name : Text) (place : Location) → is_older scope.depth place.root ≡ true → are_apart (named_location scope false name) place ≡ true
  local_older name place older = ap (λ same. not same || ways_part [] place.parts) (older_differs scope.depth name place.root older)

  -- nor with a local of another name
  pub local_local : (name other : Text) → bytes_eq name other ≡ false → are_apart (named_location scope false name) (named_location scope false other) ≡ true
  local_local name other differ =
      ap (λ same. not ((scope.depth == scope.depth) && same) || ways_part [] []) differ
      ∙ ap (λ same. not same || ways_part [] []) (and_false (scope.depth == scope.depth))

module _ (site : TypingContext) (unit : UnitDef) (remembers : Bool) (scope : Scope) (places : PlacesAreSeparate site unit remembers scope)
    (active : is_activity site.kind ≡ true) (has : Registered) (may_end : has.over ≡ unit_may_end unit)
  where
    abbrev place_of : Bool → Home → ℕ → Location
    place_of activity home k = further (start_in scope activity home site.vars k) (lead_in home site.vars k ++ [])

    no_such : false ≡ true → ⊥
    no_such h = cc

    -- ---- a local of a `run`

    -- a local whose name is none of these
    pub record OtherName (name : Text) : Type 0 where
      pub rested : (k : ℕ) → bytes_eq name (rested_name k) ≡ false
      pub flag : (k : NumberedWord) → bytes_eq name (flag_name k) ≡ false
      pub mark : (k : NumberedWord) → bytes_eq name (mark_name k) ≡ false
      pub variable : (k : ℕ) → bytes_eq name (variable_name site.vars k) ≡ false
      pub copy : (k : ℕ) → bytes_eq name (copy_name site.vars k) ≡ false

    module _ (name : Text) (other : OtherName name) where
      local_register : (x : Register) → has_register has x ≡ true → are_apart (named_location scope false name) (register_at has scope x) ≡ true
      local_register (Counter k) its = local_older scope name (register_at has scope (Counter k)) places.frame.frame_older
      local_register (Before k) its = local_local scope name (rested_name k) (other.rested k)
      local_register (Flag k) its = local_local scope name (flag_name (with_word has.words k)) (other.flag (with_word has.words k))
      local_register (Mark k) its = local_local scope name (mark_name (with_word has.words k)) (other.mark (with_word has.words k))
      local_register Over its = local_older scope name (register_at has scope Over) (places.frame.over_older (sym may_end ∙ its))

      local_variable : (k : ℕ) (var : Var) → var_at site k ≡ Some var → are_apart (named_location scope false name) (location_in scope site k []) ≡ true
      local_variable k var there = by (is_activity site.kind) (home_at site k) refl refl
        where
          by : (activity : Bool) (x : Home) → is_activity site.kind ≡ activity → home_at site k ≡ x →
              are_apart (named_location scope false name) (place_of activity x k) ≡ true
          by false Held kind is = absurd (no_such (sym kind ∙ active))
          by true Held kind is = local_older scope name (place_of true Held k) (places.pointers.held_older k var there is active)
          by activity Local kind is =
              last_further (named_location scope false name) (named_location scope false (variable_name site.vars k)) (lead_in Local site.vars k ++ [])
              (local_local scope name (variable_name site.vars k) (other.variable k))
          by activity Lent kind is = local_older scope name (place_of activity Lent k) (places.pointers.lent_older k var there is)

      pub local_beside : Beside has site unit scope (named_location scope false name)
      local_beside = record {
        registers = local_register;
        variables = local_variable;
        copies = λ k. local_local scope name (copy_name site.vars k) (other.copy k);
        result = λ one. local_older scope name (result_at_c scope) (places.result one).older;
      }

    -- ---- the counters of what a `run` calls

    module _ (n : NumberedWord) where
      abbrev place : Location
      place = inner (frame_at scope) n

      inside : (q : Location) → are_apart (frame_at scope) q ≡ true → are_apart place q ≡ true
      inside q apart = first_further (frame_at scope) q (member (callee_name n) ∷ []) apart

      older_local : (name : Text) → are_apart place (named_location scope false name) ≡ true
      older_local name =
          inside (named_location scope false name)
          (apart_flip (named_location scope false name) (frame_at scope) (local_older scope name (frame_at scope) places.frame.frame_older))

      frame_variable : (k : ℕ) (var : Var) → var_at site k ≡ Some var → are_apart place (location_in scope site k []) ≡ true
      frame_variable k var there = by (is_activity site.kind) (home_at site k) refl refl
        where
          by : (activity : Bool) (x : Home) → is_activity site.kind ≡ activity → home_at site k ≡ x → are_apart place (place_of activity x k) ≡ true
          by false Held kind is = absurd (no_such (sym kind ∙ active))
          by true Held kind is =
              last_further place (remembered_at scope) (lead_in Held site.vars k ++ [])
              (inside (remembered_at scope) (places.frame_apart.remembered k var there is active))
          by activity Local kind is =
              last_further place (named_location scope false (variable_name site.vars k)) (lead_in Local site.vars k ++ [])
              (older_local (variable_name site.vars k))
          by activity Lent kind is =
              last_further place (named_location scope true (variable_name site.vars k)) (lead_in Lent site.vars k ++ [])
              (inside (named_location scope true (variable_name site.vars k)) (places.frame_apart.lent k var there is))

      pub frame_beside : Beside has site unit scope place
      frame_beside = record {
        registers = λ x its. apart_flip (register_at has scope x) place (register_inner scope has (unit_may_end unit) may_end places.frame n [] x its);
        variables = frame_variable;
        copies = λ k. older_local (copy_name site.vars k);
        result = λ one. inside (result_at_c scope) (apart_flip (result_at_c scope) (frame_at scope) (places.result one).frame);
      }
