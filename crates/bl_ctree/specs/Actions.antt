-- Actions: what one step asks of the store or does to it.
use Rattle.std.specs.Prelude.{ℕ, Bool, true, List, [], ◌∷◌, map, slice_get, Option, Some, None, option_map, option_and_then}
use Rattle.bl_tree.specs.declared.place.Place.{Place}
use Rattle.bl_tree.specs.declared.tree.Arm.{Arm}
use Rattle.bl_tree.specs.declared.tree.Branch.{Branch}
use Rattle.bl_tree.specs.declared.tree.Expr.{Expr}
use Rattle.bl_tree.specs.declared.tree.Path.{Path}
use Rattle.bl_tree.specs.declared.tree.Stmt.{Stmt}
use Rattle.bl_tree.specs.declared.tree.StmtKind.{StmtKind}
use Rattle.bl_tree.specs.declared.tree.StmtKind.TheOpen.{StmtKind-F}
use Rattle.bl_tree.specs.declared.value.Value.{Value}
use Rattle.bl_tree.specs.Numbers.{is_one}
use Rattle.bl_tree.specs.Reduce.{joined}
use Rattle.bl_eval.specs.Standing.{outcome_in_unit, value_in_unit}
use Rattle.bl_tree.specs.Effects.{reads, writes}
use Rattle.bl_tree.specs.Static.{mentions, static_of}
use Rattle.bl_ctree.specs.Instances.{Setting}
use Rattle.bl_ctree.specs.Positions.{Located, place_of, stmt_kind}
use Rattle.bl_ctree.specs.Store.{Frame, Location, Store, home, homes, number_or_zero, put, put_written, remember, view_at, with_frame, with_inputs}

-- the effect of an action
pub data Effect : Type 0 where
  -- the tree alone changes
  Silent : Effect
  -- the statement's own act: an assignment, a declaration, a call or a `return`
  Acts : Stmt → Effect
  -- a condition is tested
  Asks : Expr → Effect
  -- the inputs of a `run` are copied to the instance that it began
  Copies : ℕ → List Expr → Effect
  -- the target of a `run` gets the result of that instance
  Gives : ℕ → Option Path → Effect

-- an action: the place of the statement to which it belongs, the instance in which that stands, and its effect
pub record Action : Type 0 where
  pub place : Place
  pub instance : ℕ
  pub effect : Effect

-- the action of a statement in an instance, with this effect
abbrev pub action : ℕ → Located → Effect → Action
action i s effect = record { place = place_of s; instance = i; effect = effect }

-- what an action reads, as homes
abbrev pub effect_reads : Setting → ℕ → Effect → List Location
effect_reads w i Silent = []
effect_reads w i (Acts s) = homes w i (reads s)
effect_reads w i (Asks e) = homes w i (mentions e)
effect_reads w i (Copies callee inputs) = homes w i (joined (map mentions inputs))
effect_reads w i (Gives callee target) = []

-- the homes that an action reads
abbrev pub reads_of : Setting → Action → List Location
reads_of w a = effect_reads w a.instance a.effect

-- ---- what an action makes of the store

-- the answer of a test, true where nothing is tested, and the store
pub record Performed : Type 0 where
  pub answer : Bool
  pub store : Store

-- the store that an action leaves which tests nothing
abbrev pub done : Store → Performed
done store = record { answer = true; store = store }

-- the value of an expression in an instance; none where it traps
abbrev pub value_there : Setting → Store → ℕ → Expr → Option Value
value_there w store i e =
    option_and_then (λ instance. value_in_unit w.structs w.units instance.unit e (view_at w store i)) (slice_get w.instances i)

-- the values of expressions in an instance, in order; none where one of them traps
abbrev pub values_there : Setting → Store → ℕ → List Expr → Option (List Value)
values_there w store i [] = Some []
values_there w store i (e ∷ rest) =
    option_and_then (λ value. option_map (λ values. value ∷ values) (values_there w store i rest)) (value_there w store i e)

-- the variables of an instance after an act; none where it traps
abbrev pub outcome_there : Setting → Store → ℕ → Stmt → Option (List Value)
outcome_there w store i s =
    option_and_then (λ instance. outcome_in_unit w.structs w.units instance.unit s (view_at w store i)) (slice_get w.instances i)

-- the frame with this result
abbrev pub with_result : Value → Frame → Frame
with_result value frame = record frame { result = Some value }

-- the store after an act of an instance: what the statement writes is put, a declared variable's former value too; none on a trap
abbrev pub acted_kind : Setting → ℕ → Stmt → StmtKind-F StmtKind Arm Branch Stmt → Store → Option Store
acted_kind w i s (StmtKind-F.Return None) store = Some store
acted_kind w i s (StmtKind-F.Return (Some e)) store = option_map (λ value. with_frame i (with_result value) store) (value_there w store i e)
acted_kind w i s (StmtKind-F.Declare k initial) store =
    option_map (λ values. with_frame i (remember k) (put_written w i values (writes s) store)) (outcome_there w store i s)
acted_kind w i s _ store = option_map (λ values. put_written w i values (writes s) store) (outcome_there w store i s)

-- whether a value is true; what isn't a number counts as false
abbrev pub is_true_value : Value → Bool
is_true_value value = is_one (number_or_zero value)

-- the store with the value at the home of a path of the instance
abbrev pub target_gets : Setting → ℕ → Store → Path → Value → Store
target_gets w i store path value = put (home w (record { instance = i; path = static_of path })) value store

-- the result of an instance; none where its activity returns nothing
abbrev pub result_at : Store → ℕ → Option Value
result_at store callee = option_and_then (λ frame. frame.result) (slice_get store callee)

-- without a target the result is dropped
abbrev pub given_to : Setting → ℕ → Option Path → Option Value → Store → Store
given_to w i (Some path) (Some value) store = target_gets w i store path value
given_to w i _ _ store = store

-- what an effect in an instance answers and leaves; none where it traps
abbrev pub effect_on : Setting → ℕ → Effect → Store → Option Performed
effect_on w i Silent store = Some (done store)
effect_on w i (Acts s) store = option_map done (acted_kind w i s (stmt_kind s) store)
effect_on w i (Asks e) store = option_map (λ value. record { answer = is_true_value value; store = store }) (value_there w store i e)
effect_on w i (Copies callee inputs) store =
    option_map (λ values. done (with_frame callee (with_inputs values) store)) (values_there w store i inputs)
effect_on w i (Gives callee target) store = Some (done (given_to w i target (result_at store callee) store))

-- what an action answers and leaves; none where it traps
abbrev pub perform : Setting → Action → Store → Option Performed
perform w a store = effect_on w a.instance a.effect store
