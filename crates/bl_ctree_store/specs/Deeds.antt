-- What actions do, as far as they test nothing.
use Rattle.std.specs.Prelude.{ℕ, List, Option, Some, None, option_map, option_and_then, Result, Ok, Err, ◌≡◌}
use Rattle.bl_tree.specs.declared.memory.NoMemory.{NoMemory}
use Rattle.bl_tree.specs.declared.tree.Expr.{Expr}
use Rattle.bl_tree.specs.declared.tree.Stmt.{Stmt}
use Rattle.bl_tree.specs.declared.value.Value.{Value}
use Rattle.bl_eval.specs.declared.values.Did.{Did}
use Rattle.bl_eval.specs.declared.values.Did.TheVariants.{Done, Trap}
use Rattle.bl_eval.specs.Standing.{outcome_in_unit, value_in_unit}
use Rattle.bl_ctree.specs.Actions.{Effect, Silent, Acts, Copies, Gives, acted_kind, given_to, result_at, values_there}
use Rattle.bl_ctree.specs.Instances.{Setting}
use Rattle.bl_ctree.specs.Positions.{stmt_kind}
use Rattle.bl_ctree.specs.Store.{Store, with_frame, with_inputs}
use Rattle.bl_ctree_store.specs.declared.perform.Deed.{Deed}
use Rattle.bl_ctree_store.specs.declared.perform.Deed.TheVariants.{Silent as IsSilent, Acts as DoesAct, Copies as DoesCopy, Gives as DoesGive}
use Rattle.bl_ctree_store.specs.Agree.{roots_of_act}
use Rattle.bl_ctree_store.specs.Glimpse.{Glimpses}
use Rattle.bl_ctree_store.specs.Seen.{Sight}

-- the effect of an action that does this
abbrev pub effect_of : Deed → Effect
effect_of IsSilent = Silent
effect_of (DoesAct s) = Acts s.now
effect_of (DoesCopy callee inputs) = Copies callee inputs.now
effect_of (DoesGive callee target) = Gives callee target.now

-- the store after a deed; none where it traps
abbrev pub deed_on : Setting → ℕ → Deed → Store → Option Store
deed_on w i IsSilent store = Some store
deed_on w i (DoesAct s) store = acted_kind w i s.now (stmt_kind s.now) store
deed_on w i (DoesCopy callee inputs) store = option_map (λ values. with_frame callee (with_inputs values) store) (values_there w store i inputs.now)
deed_on w i (DoesGive callee target) store = Some (given_to w i target.now (result_at store callee) store)

-- the outcome of an action: the store as meant, or the old store after a trap or a lack of memory
abbrev pub Carried : Option Store → Store → Store → Result Did NoMemory → Type 0
Carried outcome old new (Ok Done) = outcome ≡ Some new
Carried outcome old new (Ok Trap) = (outcome ≡ None) × (new ≡ old)
Carried outcome old new (Err e) = new ≡ old

-- the value of an expression by what is seen; none where it traps
abbrev pub value_by : Setting → Option Sight → Expr → Option Value
value_by w sight e = option_and_then (λ s. value_in_unit w.structs w.units s.unit e s.view) sight

-- the variables after an act by what is seen; none where it traps
abbrev pub outcome_by : Setting → Option Sight → Stmt → Option (List Value)
outcome_by w sight s = option_and_then (λ seen. outcome_in_unit w.structs w.units seen.unit s seen.view) sight

-- the variables after an act, by something that is seen of those that it names; none where it traps
pub record LeftBy (w : Setting) (store : Store) (i : ℕ) (s : Stmt) (left : Option (List Value)) : Type 0 where
  pub sight : Option Sight
  pub glimpses : Glimpses (roots_of_act (stmt_kind s)) w store i sight
  pub left_is : left ≡ outcome_by w sight s
