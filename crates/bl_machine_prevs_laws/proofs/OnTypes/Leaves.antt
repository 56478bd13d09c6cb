-- What is made of a statement without blocks names no more than it.
use Rattle.std.proofs.Common.{◌≡◌, ℕ, Bool, true, false, List, [], ◌++◌, Option, Some, None, refl, sym, ap}
use Rattle.std.proofs.Common.{subst, ◌∙◌}
use Rattle.std.specs.Prelude.{if◌then◌else◌, option_map, slice_get}
use Rattle.bl_tree.specs.declared.place.Place.{Place}
use Rattle.bl_tree.specs.declared.scalar.Scalar.{Scalar as ScalarType}
use Rattle.bl_tree.specs.declared.tree.Arm.{Arm}
use Rattle.bl_tree.specs.declared.tree.Branch.{Branch}
use Rattle.bl_tree.specs.declared.tree.Expr.{Expr}
use Rattle.bl_tree.specs.declared.tree.Path.{Path}
use Rattle.bl_tree.specs.declared.tree.Stmt.{Stmt, fold-roll-Stmt}
use Rattle.bl_tree.specs.declared.tree.StmtKind.{StmtKind, fold-StmtKind, fold_out-StmtKind, map-StmtKind, out-StmtKind}
use Rattle.bl_tree.specs.declared.tree.StmtKind.TheOpen.{StmtKind-F}
use Rattle.bl_tree.specs.declared.tree.StmtKind.TheVariants as what
use Rattle.bl_tree.specs.Apart.{Roots}
use Rattle.bl_tree.specs.Apart as names
use Rattle.bl_tree.specs.Types.{scalar}
use Rattle.bl_names_tree.specs.declared.expr.NamedExpr.{NamedExpr}
use Rattle.bl_names_tree.specs.declared.stmt.NamedPath.{NamedPath}
use Rattle.bl_names_laws.specs.Apart as named
use Rattle.bl_types.specs.declared.environment.Environment.{Environment}
use Rattle.bl_types.specs.declared.form.Found.{Found}
use Rattle.bl_types.specs.declared.form.Found.TheVariants as found
use Rattle.bl_types.specs.Expressions.{in_context, judged, params_of}
use Rattle.bl_types.specs.Statements.{Arguments, arguments, assign_made, if_complete, outputs_wanted, returned, run_made, stmt_made}
use Rattle.bl_machine_prevs_laws.specs.Names.Scoped.{Scoped, are_known, is_known, naming}
use Rattle.bl_types_laws.proofs.Exprs.{context_in, inputs_in}
use Rattle.bl_types_laws.proofs.NamedSizes.{inputs_size, named_size}
use Rattle.bl_types_laws.proofs.Opens.{ExprIn}
use Rattle.bl_types_laws.proofs.Orders.{Among, among_both, among_none}
use Rattle.bl_types_laws.proofs.ShapeForms.{FoundIn}
use Rattle.bl_types_laws.proofs.ShapePaths.{TargetIn, all_lent_in, paths_size}
use Rattle.bl_types_laws.proofs.Sizes.{Size}
use Rattle.bl_types_laws.proofs.Occurrences.{Layer}
use Rattle.bl_machine_prevs_laws.specs.Types.Declared.{arm_scoped, branch_scoped, scoped_of, stmt_kind_scoped, stmt_layer_scoped}
use Rattle.bl_machine_prevs_laws.specs.Types.inner.Declared.{scoped_of_arm, scoped_of_branch}

abbrev pub scoped_in : Layer → Scoped
scoped_in layer = stmt_kind_scoped
    (map-StmtKind StmtKind Arm Branch Stmt Scoped Scoped Scoped Scoped
    (fold-StmtKind Scoped Scoped Scoped Scoped stmt_kind_scoped arm_scoped branch_scoped stmt_layer_scoped)
    scoped_of_arm scoped_of_branch scoped_of layer)

pub scoped_is : (place : Place) (kind : StmtKind) (layer : Layer) → out-StmtKind kind ≡ layer →
    scoped_of (stmt_made place kind) ≡ scoped_in layer
scoped_is place kind layer is =
    rw fold-roll-Stmt (fold_out-StmtKind Scoped Scoped Scoped Scoped stmt_kind_scoped arm_scoped branch_scoped stmt_layer_scoped kind
    ∙ ap scoped_in is)

-- a part declares what the other declares, and names known variables alone
pub record Same (known : Roots) (one other : Scoped) : Type 0 where
  pub declared : other.declared ≡ one.declared
  pub stands : other.stands known ≡ true

-- what is made of a kind of statement at the place is such a part; nothing is made only of what declares nothing
abbrev pub KindKept : Place → Roots → Scoped → Option StmtKind → Type 0
KindKept place known scoped (Some kind) = Same known scoped (scoped_of (stmt_made place kind))
KindKept place known scoped None = scoped.declared ≡ []

-- the same of a statement
abbrev pub StmtKept : Roots → Scoped → Option Stmt → Type 0
StmtKept known scoped (Some s) = Same known scoped (scoped_of s)
StmtKept known scoped None = scoped.declared ≡ []

pub in_place : (place : Place) (known : Roots) (scoped : Scoped) (made : Option StmtKind) → KindKept place known scoped made →
    StmtKept known scoped (option_map (stmt_made place) made)
in_place place known scoped (Some kind) kept = kept
in_place place known scoped None kept = kept

pub kind_kept : (place : Place) (kind : StmtKind) (layer : Layer) (known : Roots) (scoped : Scoped) → out-StmtKind kind ≡ layer →
    Same known scoped (scoped_in layer) → KindKept place known scoped (Some kind)
kind_kept place kind layer known scoped is same = subst (Same known scoped) (sym (scoped_is place kind layer is)) same

module _ (place : Place) (known : Roots) where
  -- a statement that names some of these variables
  leaf : (kind : StmtKind) (layer : Layer) (mine roots : Roots) → out-StmtKind kind ≡ layer → scoped_in layer ≡ naming mine →
      Among mine roots → are_known known roots ≡ true → KindKept place known (naming roots) (Some kind)
  leaf kind layer mine roots is plain among all =
      kind_kept place kind layer known (naming roots) is
      (subst (Same known (naming roots)) (sym plain) (record { declared = refl; stands = among (is_known known) all }))

  pub assign_kept : (leads : Found) (value : Option Expr) (target size : Size) → FoundIn target leads → ExprIn size value →
      are_known known (target.roots ++ size.roots) ≡ true → KindKept place known (naming (target.roots ++ size.roots)) (assign_made leads value)
  assign_kept (found.Place path) (Some e) target size one other all =
      leaf (what.Assign path e) (StmtKind-F.Assign path e) (names.roots_in_path path ++ names.roots_in e) (target.roots ++ size.roots)
      (what.outs-Assign path e) refl (among_both (names.roots_in_path path) (names.roots_in e) target.roots size.roots one.roots other.roots) all
  assign_kept (found.Place path) None target size one other all = refl
  assign_kept (found.Constant s n) value target size one other all = refl
  assign_kept found.Nothing value target size one other all = refl

  complete_kept : (holds : Bool) (kind : StmtKind) (roots : Roots) → KindKept place known (naming roots) (Some kind) →
      KindKept place known (naming roots) (if holds then Some kind else None)
  complete_kept true kind roots kept = kept
  complete_kept false kind roots kept = refl

  pub call_kept : (f : ℕ) (given : Arguments) (roots : Roots) → Among (names.argument_roots given.inputs given.outputs) roots →
      are_known known roots ≡ true → KindKept place known (naming roots) (if_complete given (what.Call f))
  call_kept f given roots among all =
      complete_kept given.complete (what.Call f given.inputs given.outputs) roots
      (leaf (what.Call f given.inputs given.outputs) (StmtKind-F.Call f given.inputs given.outputs) (names.argument_roots given.inputs given.outputs)
      roots
      (what.outs-Call f given.inputs given.outputs) refl among all)

  pub run_kept : (f : ℕ) (target : Option (Option Path)) (given : Arguments) (taker : Size) (roots : Roots) → TargetIn taker target →
      Among (names.argument_roots given.inputs given.outputs) roots → are_known known (taker.roots ++ roots) ≡ true →
      KindKept place known (naming (taker.roots ++ roots)) (run_made target f given)
  run_kept f (Some target) given taker roots one other all =
      complete_kept given.complete (what.Run target f given.inputs given.outputs) (taker.roots ++ roots)
      (leaf (what.Run target f given.inputs given.outputs) (StmtKind-F.Run target f given.inputs given.outputs)
      (names.target_roots target ++ names.argument_roots given.inputs given.outputs) (taker.roots ++ roots)
      (what.outs-Run target f given.inputs given.outputs) refl
      (among_both (names.target_roots target) (names.argument_roots given.inputs given.outputs) taker.roots roots one.roots other) all)
  run_kept f None given taker roots one other all = refl

  pub await_kept : (test : Option Expr) (size : Size) → ExprIn size test → are_known known size.roots ≡ true →
      KindKept place known (naming size.roots) (option_map what.Await test)
  await_kept (Some e) size most all = leaf (what.Await e) (StmtKind-F.Await e) (names.roots_in e) size.roots (what.outs-Await e) refl most.roots all
  await_kept None size most all = refl

  return_value : (value : Option Expr) (size : Size) → ExprIn size value → are_known known size.roots ≡ true →
      KindKept place known (naming size.roots) (option_map (λ e. what.Return (Some e)) value)
  return_value (Some e) size most all =
      leaf (what.Return (Some e)) (StmtKind-F.Return (Some e)) (names.roots_in e) size.roots (what.outs-Return (Some e)) refl most.roots all
  return_value None size most all = refl

  return_none : KindKept place known (naming []) (Some (what.Return None))
  return_none = leaf (what.Return None) (StmtKind-F.Return None) [] [] (what.outs-Return None) refl (among_none []) refl

  pub return_kept : (at : Place) (e : Option NamedExpr) (result : Option ScalarType) (env : Environment) →
      are_known known (named.optional_roots e) ≡ true →
      KindKept place known (naming (named.optional_roots e)) (returned at e result env).made
  return_kept at (Some e) (Some s) env all =
      return_value (in_context (Some (scalar s)) (judged env e)).made (named_size e) (context_in env (Some (scalar s)) e) all
  return_kept at (Some e) None env all = return_value (in_context None (judged env e)).made (named_size e) (context_in env None e) all
  return_kept at None (Some s) env all = return_none
  return_kept at None None env all = return_none

  -- a condition, and what is made of it
  pub tested_kept : (scoped : Scoped) (make : Expr → StmtKind) (test : Option Expr) (size : Size) → scoped.declared ≡ [] →
      ExprIn size test →
      ((e : Expr) → Among (names.roots_in e) size.roots → KindKept place known scoped (Some (make e))) →
      KindKept place known scoped (option_map make test)
  tested_kept scoped make (Some e) size none most kept = kept e most.roots
  tested_kept scoped make None size none most kept = none

-- the arguments of a call name no more
pub arguments_among : (env : Environment) (at : Place) (f : ℕ) (inputs : List NamedExpr) (outputs : List NamedPath) →
    Among (names.argument_roots (arguments env at f inputs outputs).inputs (arguments env at f inputs outputs).outputs)
    (named.argument_roots inputs outputs)
arguments_among env at f inputs outputs =
    let one = inputs_in env inputs (params_of (slice_get env.units f)) in
    let other = all_lent_in env outputs (outputs_wanted (slice_get env.units f)) in
    among_both _ _ (inputs_size inputs).roots (paths_size outputs).roots one.roots other.roots
