-- What the C of an act leaves in memory, beside what the act does.
use Rattle.std.specs.Prelude.{◌≡◌, ℕ, pos, ◌+◌, Bool, true, false, ◌&&◌, nat_eq, is_some, List, [], ◌∷◌, ◌++◌, map}
use Rattle.std.specs.Prelude.{slice_get, slice_set}
use Rattle.std.specs.Prelude.{Option, Some, None, flat_map, option_map, unwrap_or}
use Rattle.std.specs.List.{list_all, list_any}
use Rattle.bl_tree.specs.declared.tree.StmtKind.TheOpen.{StmtKind-F}
use Rattle.bl_tree.specs.declared.tree.StructDef.{StructDef}
use Rattle.bl_tree.specs.declared.tree.Unit.{Unit as UnitDef}
use Rattle.bl_tree.specs.declared.tree.Var.{Var}
use Rattle.bl_tree.specs.declared.value.Value.{Value}
use Rattle.bl_tree.specs.Program.{is_input}
use Rattle.bl_tree.specs.Reduce.{all_of}
use Rattle.bl_tree.specs.Typing.{TypingContext, inputs_of, is_procedure, outputs_of, var_at}
use Rattle.bl_eval.specs.declared.datum.Left.{Left}
use Rattle.bl_eval.specs.Meaning.{Callee}
use Rattle.bl_eval.specs.Values.{values_fit}
use Rattle.bl_ctext_semantics.specs.Course.{Outcome, goes_on, traps}
use Rattle.bl_ctext_semantics.specs.Meaning.{ArgumentValue, CallResult, Scope, applied, by_address, by_value, named_location}
use Rattle.bl_ctext_semantics.specs.Memory.{Location, Memory, Projection, Root, left_after, same_root, value_at}
use Rattle.bl_emit_acts.specs.Types.{copy_name, unit_name}
use Rattle.bl_emit_acts_laws_simulation.specs.Encodes.{CopiesEncoded, Encodes, VariablesEncoded, are_apart, copied_in, copied_in_path, is_live, location_in}
use Rattle.bl_emit_acts_laws_simulation.specs.Simulation.{ArgumentsEncoded}

-- ---- numbers of memory

-- whether a number of memory, at a way from a root, lies in a place
abbrev pub lies_in : Location → Root → List Projection → Bool
lies_in place root way = same_root place.root root && is_some (left_after place.parts way)

-- numbers of memory that are allocated and lie in none of the places are unchanged
pub record UnchangedOutside (depth : ℕ) (places : List Location) (here after : Memory) : Type 0 where
  pub each : (root : Root) (way : List Projection) → is_live depth root ≡ true → list_any (λ place. lies_in place root way) places ≡ false →
      after root way ≡ here root way

-- ---- acts

-- an assignment, a declaration or a call of a function without a result
abbrev pub is_act : {A B C D : Type 0} → StmtKind-F A B C D → Bool
is_act (StmtKind-F.Declare k initial) = true
is_act (StmtKind-F.Assign path e) = true
is_act (StmtKind-F.Call f inputs outputs) = true
is_act _ = false

-- ---- copies

-- the location of the copy of the variable at a position among its unit's
abbrev pub copy_location : Scope → List Var → ℕ → Location
copy_location scope vars k = named_location scope false (copy_name vars k)

-- the copies have nothing in common with the variables, nor with one another
pub record CopiesApart (site : TypingContext) (copied : ℕ → Bool) (scope : Scope) : Type 0 where
  pub variables : (j k : ℕ) (var : Var) → var_at site j ≡ Some var → copied k ≡ true →
      are_apart (location_in scope site j []) (copy_location scope site.vars k) ≡ true
  pub others : (j k : ℕ) (a b : Var) → var_at site j ≡ Some a → var_at site k ≡ Some b
      → copied j ≡ true → copied k ≡ true → nat_eq j k ≡ false →
      are_apart (copy_location scope site.vars j) (copy_location scope site.vars k) ≡ true

-- whether all that an act names under a `prev` is copied
abbrev pub copied_in_layer : {A B C D : Type 0} → (ℕ → Bool) → StmtKind-F A B C D → Bool
copied_in_layer copied (StmtKind-F.Declare k (Some e)) = copied_in copied e
copied_in_layer copied (StmtKind-F.Assign path e) = copied_in_path copied path && copied_in copied e
copied_in_layer copied (StmtKind-F.Call f inputs outputs) = all_of (map (copied_in copied) inputs) && all_of (map (copied_in_path copied) outputs)
copied_in_layer copied _ = true

-- the earlier value of a declared variable is its current one
abbrev pub remembered : ℕ → List Value → List Value → List Value
remembered k now before = unwrap_or (option_map (slice_set before k) (slice_get now k)) before

-- the values before, once an act has left these variables
abbrev pub before_after : {A B C D : Type 0} → StmtKind-F A B C D → List Value → List Value → List Value
before_after (StmtKind-F.Declare k initial) now before = remembered k now before
before_after _ now before = before

-- ---- what an act leaves

-- a number of memory that is allocated and belongs to no variable of the unit that may be written, nor to a copy
pub record Foreign (site : TypingContext) (copied : ℕ → Bool) (scope : Scope) (root : Root) (way : List Projection) : Type 0 where
  pub live : is_live scope.depth root ≡ true
  pub variables : (k : ℕ) (var : Var) → var_at site k ≡ Some var → is_input var.role ≡ false
      → lies_in (location_in scope site k []) root way ≡ false
  pub copies : (k : ℕ) → copied k ≡ true → lies_in (copy_location scope site.vars k) root way ≡ false

-- the memory represents these current and earlier values of the variables, and agrees with the one before on all that an act may not write
pub record RepresentsAfter (site : TypingContext) (copied : ℕ → Bool) (scope : Scope) (here : Memory) (now before : List Value) (after : Memory) : Type 0 where
  pub variables : VariablesEncoded site now scope after
  pub copies : CopiesEncoded site before copied scope after
  pub kept : (root : Root) (way : List Projection) → Foreign site copied scope root way → after root way ≡ here root way

-- C simulates an act: it traps where there are no values, and else goes on and leaves memory that represents them
abbrev pub Simulates : TypingContext → (ℕ → Bool) → Scope → Memory → (List Value → List Value) → Option (List Value) → Outcome Memory → Type 0
Simulates site copied scope here before None o = o.end ≡ traps
Simulates site copied scope here before (Some now) o = (o.end ≡ goes_on) × RepresentsAfter site copied scope here now (before now) o.memory

-- memory after the copies of the variables at these positions were set: each has its variable's value, and all else is unchanged
pub record BegunWith (site : TypingContext) (scope : Scope) (here : Memory) (now : List Value) (ks : List ℕ) (after : Memory) : Type 0 where
  pub variables : VariablesEncoded site now scope after
  pub copies : CopiesEncoded site now (λ k. list_any (nat_eq k) ks) scope after
  pub kept : (root : Root) (way : List Projection) → list_any (λ k. lies_in (copy_location scope site.vars k) root way) ks ≡ false →
      after root way ≡ here root way

-- ---- functions without a result

-- what stands at each place is the value of its variable
abbrev pub OutputsEncoded : List StructDef → Memory → List Var → List Value → List Location → Type 0
OutputsEncoded structs here [] [] [] = Unit {0}
OutputsEncoded structs here (var ∷ vars) (value ∷ values) (place ∷ places) =
    Encodes structs var.ty value (value_at here place) × OutputsEncoded structs here vars values places
OutputsEncoded structs here _ _ _ = ⊥

-- the place that an argument hands over, where it is one
abbrev pub place_in_arg : ArgumentValue → List Location
place_in_arg (by_value value) = []
place_in_arg (by_address place) = place ∷ []

-- the places among arguments
abbrev pub places_in_args : List ArgumentValue → List Location
places_in_args passed = flat_map place_in_arg passed

-- whether each two of the places have nothing in common
abbrev pub all_apart : List Location → Bool
all_apart [] = true
all_apart (place ∷ rest) = list_all (are_apart place) rest && all_apart rest

-- a call may hand over the places for outputs: they are allocated, and apart from each other and from the inputs
pub record MayPass (depth : ℕ) (inputs : List ArgumentValue) (outputs : List Location) : Type 0 where
  pub apart : all_apart outputs ≡ true
  pub inputs_apart : list_all (λ output. list_all (are_apart output) (places_in_args inputs)) outputs ≡ true
  pub live : list_all (λ place. is_live depth place.root) outputs ≡ true

-- a call leaves what a function leaves: its outputs at their places, and all else unchanged
pub record RepresentsAfterCall (structs : List StructDef) (vars : List Var) (depth : ℕ) (places : List Location) (here : Memory) (left : Left) (called : CallResult)
    : Type 0 where
  pub returned : called.result ≡ Some (pos 0)
  pub outputs : OutputsEncoded structs called.memory vars left.outputs places
  pub kept : UnchangedOutside depth places here called.memory

-- a C call simulates a function: it traps where the function does, and else leaves its outputs
abbrev pub CallSimulates : List StructDef → List Var → ℕ → List Location → Memory → Option Left → CallResult → Type 0
CallSimulates structs vars depth outputs here None called = called.result ≡ None
CallSimulates structs vars depth outputs here (Some left) called = RepresentsAfterCall structs vars depth outputs here left called

-- the functions of C without a result are those of the program
pub record ProceduresAgree (structs : List StructDef) (earlier : List UnitDef) (callees : List Callee) (scope : Scope) : Type 0 where
  pub each : (f : ℕ) (unit : UnitDef) (callee : Callee) (values given : List Value) (passed : List ArgumentValue) (outputs : List Location) (here : Memory) →
      slice_get earlier f ≡ Some unit → slice_get callees f ≡ Some callee → is_procedure unit ≡ true →
      values_fit structs (inputs_of unit) values ≡ true → values_fit structs (outputs_of unit) given ≡ true →
      ArgumentsEncoded structs scope.depth here (inputs_of unit) values passed → OutputsEncoded structs here (outputs_of unit) given outputs →
      MayPass scope.depth passed outputs →
      CallSimulates structs (outputs_of unit) scope.depth outputs here (callee (values ++ given))
      (applied (scope.known (unit_name unit.name)) (scope.depth + 1) (passed ++ map by_address outputs) here)
