-- The failures of rule Alias, where places are mapped.
use Rattle.std.proofs.Common.{◌≡◌, Bool, true, false, List, [], ◌∷◌, ◌++◌, map, refl, ap, ap₂, sym, ◌∙◌}
use Rattle.std.proofs.lemmas.List.{map-append}
use Rattle.std.specs.Prelude.{Option, Some, None, cond, find, if◌then◌else◌, is_none, option_map, option_to_list}
use Rattle.bl_tree.specs.declared.place.Place.{Place}
use Rattle.bl_tree.specs.declared.scalar.Scalar.{Scalar}
use Rattle.bl_tree.specs.declared.tree.Expr.{Expr, out-Expr}
use Rattle.bl_tree.specs.declared.tree.ExprKind.{ExprKind, out-ExprKind}
use Rattle.bl_tree.specs.declared.tree.ExprKind.TheFolds.{map-ExprKind}
use Rattle.bl_tree.specs.declared.tree.ExprKind.TheOpen.{ExprKind-F}
use Rattle.bl_tree.specs.declared.tree.Part.{Part}
use Rattle.bl_tree.specs.declared.tree.Path.{Path, out-Path}
use Rattle.bl_tree.specs.declared.tree.Stmt.{Stmt}
use Rattle.bl_tree.specs.declared.tree.StmtKind.TheOpen.{StmtKind-F}
use Rattle.bl_tree.specs.declared.tree.Ty.{Ty}
use Rattle.bl_tree.specs.Reduce.{joined}
use Rattle.bl_tree.specs.Static.{overlaps, static_of}
use Rattle.bl_tree.specs.Types.{scalar_in}
use Rattle.bl_tree_laws_places.specs.Placed.{placed_expr, placed_expr_layer, placed_level, placed_path, placed_path_layer, placed_stmt}
use Rattle.bl_tree_laws_places.proofs.Effects.{static_stays}
use Rattle.bl_tree_laws_places.proofs.Exprs.{expr_out, kind_out, path_out, said, stepped}
use Rattle.bl_tree_laws_places.proofs.Lists.{joined-behind, joined-map, map-alike, map-twice}
use Rattle.bl_tree_laws_places.proofs.Stmts.{stmts_turn, turned}
use Rattle.bl_effects.specs.declared.marked.Marked.{Marked}
use Rattle.bl_effects.specs.Rules.{Aliased, aliased_with, aliases_in, aliases_of, arm_aliases, branch_aliases, kind_aliases, marked_aggregate, marked_input}
use Rattle.bl_effects.specs.Rules.{marked_inputs, marked_path, outputs_aliased, stmt_aliases, target_aliased}
use Rattle.bl_effects_laws_places.proofs.Parallels.{moved_marked}

module _ (f : Place → Place) where
  -- a failure at the mapped places
  abbrev pub moved_aliased : Aliased → Aliased
  moved_aliased a = record { at = f a.at; also = f a.also }

  -- ---- paths and inputs

  path_moves : (path : Path) → marked_path (placed_path f path) ≡ moved_marked f (marked_path path)
  path_moves path = λ i. record { place = (path_out f path i).place; path = static_stays f path i }

  paths_move : (paths : List Path) → map marked_path (map (placed_path f) paths) ≡ map (moved_marked f) (map marked_path paths)
  paths_move paths =
      map-twice marked_path (placed_path f) paths ∙ map-alike (λ path. marked_path (placed_path f path)) (λ path. moved_marked f (marked_path path))
      path_moves paths
      ∙ sym (map-twice (moved_marked f) marked_path paths)

  abbrev mapped : ExprKind-F ExprKind Part Expr Path → ExprKind-F ExprKind Part Expr Path
  mapped = map-ExprKind ExprKind Part Expr Path ExprKind Part Expr Path (said f) (stepped f) (placed_expr f) (placed_path f)

  by_test : (b : Bool) (m : Marked) → (if b then moved_marked f m ∷ [] else []) ≡ map (moved_marked f) (if b then m ∷ [] else [])
  by_test true m = refl
  by_test false m = refl

  aggregate_moves : (place : Place) (layer : ExprKind-F ExprKind Part Expr Path) →
      marked_aggregate (f place) (mapped layer) ≡ map (moved_marked f) (marked_aggregate place layer)
  aggregate_moves place (ExprKind-F.Read path) =
      ap₂ (λ (ty : Ty) static. if is_none (scalar_in ty) then record { place = f place; path = static } ∷ [] else [])
      (ap (λ layer. layer.ty) (path_out f path)) (static_stays f path)
      ∙ by_test (is_none (scalar_in (out-Path path).ty)) (record { place = place; path = static_of path })
  aggregate_moves place (ExprKind-F.Literal n s) = refl
  aggregate_moves place (ExprKind-F.Prev k) = refl
  aggregate_moves place (ExprKind-F.One op a) = refl
  aggregate_moves place (ExprKind-F.Two op a b) = refl
  aggregate_moves place (ExprKind-F.Cast s a) = refl
  aggregate_moves place (ExprKind-F.Call callee inputs) = refl

  input_moves : (e : Expr) → marked_input (placed_expr f e) ≡ map (moved_marked f) (marked_input e)
  input_moves e =
      ap (λ layer. marked_aggregate layer.place (out-ExprKind layer.what)) (expr_out f e)
      ∙ ap (marked_aggregate (f (out-Expr e).place)) (kind_out f (out-Expr e).what)
      ∙ aggregate_moves (out-Expr e).place (out-ExprKind (out-Expr e).what)

  inputs_move : (inputs : List Expr) → marked_inputs (map (placed_expr f) inputs) ≡ map (moved_marked f) (marked_inputs inputs)
  inputs_move inputs = joined-behind marked_input (placed_expr f) marked_input (moved_marked f) input_moves inputs

  -- ---- failures

  by_overlap : (one other : Marked) (b : Bool) (found rest : Option Marked) → found ≡ option_map (moved_marked f) rest →
      cond b (Some (moved_marked f other)) found ≡ option_map (moved_marked f) (cond b (Some other) rest)
  by_overlap one other true found rest same = refl
  by_overlap one other false found rest same = same

  found_moves : (one : Marked) (others : List Marked) →
      find (λ other. overlaps one.path other.path) (map (moved_marked f) others)
      ≡ option_map (moved_marked f) (find (λ other. overlaps one.path other.path) others)
  found_moves one [] = refl
  found_moves one (other ∷ others) = by_overlap one other (overlaps one.path other.path) _ _ (found_moves one others)

  listed_moves : (one : Marked) (other : Option Marked) →
      option_to_list (option_map (λ (x : Marked). record { at = f one.place; also = x.place }) (option_map (moved_marked f) other))
      ≡ map moved_aliased (option_to_list (option_map (λ (x : Marked). record { at = one.place; also = x.place }) other))
  listed_moves one None = refl
  listed_moves one (Some other) = refl

  with_moves : (others : List Marked) (one : Marked) →
      aliased_with (map (moved_marked f) others) (moved_marked f one) ≡ map moved_aliased (aliased_with others one)
  with_moves others one =
      ap (λ found. option_to_list (option_map (λ (x : Marked). record { at = f one.place; also = x.place }) found)) (found_moves one others)
      ∙ listed_moves one (find (λ other. overlaps one.path other.path) others)

  outputs_move : (inputs before outputs : List Marked) →
      outputs_aliased (map (moved_marked f) inputs) (map (moved_marked f) before) (map (moved_marked f) outputs)
      ≡ map moved_aliased (outputs_aliased inputs before outputs)
  outputs_move inputs before [] = refl
  outputs_move inputs before (output ∷ rest) =
      ap₂ (λ xs ys. aliased_with xs (moved_marked f output) ++ outputs_aliased (map (moved_marked f) inputs) ys (map (moved_marked f) rest))
      (sym (map-append (moved_marked f) before inputs)) (sym (map-append (moved_marked f) before (output ∷ [])))
      ∙ ap₂ (λ xs ys. xs ++ ys) (with_moves (before ++ inputs) output) (outputs_move inputs (before ++ output ∷ []) rest)
      ∙ sym (map-append moved_aliased (aliased_with (before ++ inputs) output) (outputs_aliased inputs (before ++ output ∷ []) rest))

  target_moves : (outputs : List Marked) (target : Option Path) →
      target_aliased (map (moved_marked f) outputs) (option_map (placed_path f) target) ≡ map moved_aliased (target_aliased outputs target)
  target_moves outputs None = refl
  target_moves outputs (Some target) =
      ap (aliased_with (map (moved_marked f) outputs)) (path_moves target) ∙ with_moves outputs (marked_path target)

  call_moves : (target : Option Path) (inputs : List Expr) (outputs : List Path) →
      aliases_of (option_map (placed_path f) target) (map (placed_expr f) inputs) (map (placed_path f) outputs)
      ≡ map moved_aliased (aliases_of target inputs outputs)
  call_moves target inputs outputs =
      ap₂ (λ xs ys. target_aliased ys (option_map (placed_path f) target) ++ outputs_aliased xs [] ys) (inputs_move inputs) (paths_move outputs)
      ∙ ap₂ (λ xs ys. xs ++ ys) (target_moves (map marked_path outputs) target) (outputs_move (marked_inputs inputs) [] (map marked_path outputs))
      ∙ sym (map-append moved_aliased (target_aliased (map marked_path outputs) target)
      (outputs_aliased (marked_inputs inputs) [] (map marked_path outputs)))

  -- ---- statements

  abbrev Failures : Type 0
  Failures = List Aliased

  abbrev Layer : Type 0
  Layer = StmtKind-F Failures Failures Failures Failures

  abbrev turn : Layer → Layer
  turn = turned (map moved_aliased) (map moved_aliased) (map moved_aliased)

  by_level : (level : Layer) → kind_aliases (placed_level f (turn level)) ≡ map moved_aliased (kind_aliases level)
  by_level (StmtKind-F.Declare k initial) = refl
  by_level (StmtKind-F.Assign path e) = refl
  by_level (StmtKind-F.Call callee inputs outputs) = call_moves None inputs outputs
  by_level (StmtKind-F.Await e) = refl
  by_level (StmtKind-F.Run target callee inputs outputs) = call_moves target inputs outputs
  by_level (StmtKind-F.If arms other) =
      ap₂ (λ xs ys. xs ++ ys) (joined-map moved_aliased arms) (joined-map moved_aliased other)
      ∙ sym (map-append moved_aliased (joined arms) (joined other))
  by_level (StmtKind-F.Cobegin branches) = joined-map moved_aliased branches
  by_level (StmtKind-F.When guard e body) = joined-map moved_aliased body
  by_level (StmtKind-F.Repeat body) = joined-map moved_aliased body
  by_level (StmtKind-F.Until body e) = joined-map moved_aliased body
  by_level (StmtKind-F.While e body) = joined-map moved_aliased body
  by_level (StmtKind-F.Return e) = refl

  -- the failures of a body whose places are mapped
  pub aliases_move : (body : List Stmt) →
      joined (map aliases_in (map (placed_stmt f) body)) ≡ map moved_aliased (joined (map aliases_in body))
  aliases_move body =
      ap joined
      (stmts_turn f Failures Failures Failures Failures kind_aliases arm_aliases branch_aliases stmt_aliases (map moved_aliased)
      (map moved_aliased) (map moved_aliased) (λ at level. by_level level) (λ test xs. joined-map moved_aliased xs)
      (λ weak xs. joined-map moved_aliased xs) body)
      ∙ joined-map moved_aliased (map aliases_in body)
