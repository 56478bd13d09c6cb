-- The loops whose bodies may end in their first tick, where places are mapped.
use Rattle.std.proofs.Common.{◌≡◌, Bool, true, false, ◌||◌, List, [], ◌∷◌, ◌++◌, map, refl, ap, ap₂, sym, ◌∙◌}
use Rattle.std.proofs.lemmas.List.{map-append}
use Rattle.std.specs.Prelude.{if◌then◌else◌}
use Rattle.bl_tree.specs.declared.place.Place.{Place}
use Rattle.bl_tree.specs.declared.tree.Expr.{Expr}
use Rattle.bl_tree.specs.declared.tree.Stmt.{Stmt}
use Rattle.bl_tree.specs.declared.tree.StmtKind.TheOpen.{StmtKind-F}
use Rattle.bl_tree.specs.declared.tree.Unit.{Unit as UnitDef}
use Rattle.bl_tree.specs.Instant.{branches_instant, kind_instant}
use Rattle.bl_tree.specs.Reduce.{all_of, any_of, joined}
use Rattle.bl_tree_laws_places.specs.Placed.{placed_expr, placed_level, placed_stmt, placed_unit}
use Rattle.bl_tree_laws_places.proofs.Lists.{joined-behind, map-twice}
use Rattle.bl_tree_laws_places.proofs.Stmts.{stmts_turn, turned}
use Rattle.bl_effects.specs.Rules.{BranchLoops, Loops, arm_loops, block_ends, block_loops, branch_loops, instant_loops, kind_loop_places, kind_loops}
use Rattle.bl_effects.specs.Rules.{loop_instants, loop_places, loops_in, stmt_loops}

module _ (f : Place → Place) where
  -- the loops of a statement, at the mapped places
  abbrev pub moved_loops : Loops → Loops
  moved_loops l = record { instant = l.instant; places = map f l.places }

  -- the loops of a branch, at the mapped places
  abbrev pub moved_branch : BranchLoops → BranchLoops
  moved_branch l = record { ends = l.ends; places = map f l.places }

  abbrev Layer : Type 0
  Layer = StmtKind-F (Place → Loops) Loops BranchLoops Loops

  abbrev turn : Layer → Layer
  turn = turned moved_loops moved_branch moved_loops

  instants_stay : (body : List Loops) → map (λ s. s.instant) (map moved_loops body) ≡ map (λ s. s.instant) body
  instants_stay body = map-twice (λ (s : Loops). s.instant) moved_loops body

  loops_move : (body : List Loops) → block_loops (map moved_loops body) ≡ map f (block_loops body)
  loops_move body = joined-behind (λ (s : Loops). s.places) moved_loops (λ s. s.places) f (λ s. refl) body

  branches_move : (branches : List BranchLoops) →
      joined (map (λ branch. branch.places) (map moved_branch branches)) ≡ map f (joined (map (λ branch. branch.places) branches))
  branches_move branches = joined-behind (λ (branch : BranchLoops). branch.places) moved_branch (λ branch. branch.places) f (λ branch. refl) branches

  by_end : (b : Bool) (at : Place) → (if b then f at ∷ [] else []) ≡ map f (if b then at ∷ [] else [])
  by_end true at = refl
  by_end false at = refl

  loop_moves : (at : Place) (body : List Loops) → loop_places (f at) (map moved_loops body) ≡ map f (loop_places at body)
  loop_moves at body =
      ap₂ (λ places ends. places ++ (if all_of ends then f at ∷ [] else [])) (loops_move body) (instants_stay body)
      ∙ ap (λ places. map f (block_loops body) ++ places) (by_end (block_ends body) at)
      ∙ sym (map-append f (block_loops body) (if block_ends body then at ∷ [] else []))

  places_move : (at : Place) (level : Layer) → kind_loop_places (placed_level f (turn level)) (f at) ≡ map f (kind_loop_places level at)
  places_move at (StmtKind-F.Declare k initial) = refl
  places_move at (StmtKind-F.Assign path e) = refl
  places_move at (StmtKind-F.Call callee inputs outputs) = refl
  places_move at (StmtKind-F.Await e) = refl
  places_move at (StmtKind-F.Run target callee inputs outputs) = refl
  places_move at (StmtKind-F.If arms other) =
      ap₂ (λ xs ys. xs ++ ys) (loops_move arms) (loops_move other) ∙ sym (map-append f (block_loops arms) (block_loops other))
  places_move at (StmtKind-F.Cobegin branches) = branches_move branches
  places_move at (StmtKind-F.When guard e body) = loops_move body
  places_move at (StmtKind-F.Repeat body) = loop_moves at body
  places_move at (StmtKind-F.Until body e) = loop_moves at body
  places_move at (StmtKind-F.While e body) = loop_moves at body
  places_move at (StmtKind-F.Return e) = refl

  ends_stay : (level : Layer) → kind_instant (loop_instants (placed_level f (turn level))) ≡ kind_instant (loop_instants level)
  ends_stay (StmtKind-F.Declare k initial) = refl
  ends_stay (StmtKind-F.Assign path e) = refl
  ends_stay (StmtKind-F.Call callee inputs outputs) = refl
  ends_stay (StmtKind-F.Await e) = refl
  ends_stay (StmtKind-F.Run target callee inputs outputs) = refl
  ends_stay (StmtKind-F.If arms other) = ap₂ (λ xs ys. any_of xs || all_of ys) (instants_stay arms) (instants_stay other)
  ends_stay (StmtKind-F.Cobegin branches) = ap branches_instant (map-twice (λ (branch : BranchLoops). branch.ends) moved_branch branches)
  ends_stay (StmtKind-F.When guard e body) = ap all_of (instants_stay body)
  ends_stay (StmtKind-F.Repeat body) = refl
  ends_stay (StmtKind-F.Until body e) = ap all_of (instants_stay body)
  ends_stay (StmtKind-F.While e body) = refl
  ends_stay (StmtKind-F.Return e) = refl

  by_level : (at : Place) (level : Layer) → kind_loops (placed_level f (turn level)) (f at) ≡ moved_loops (kind_loops level at)
  by_level at level = λ i. record { instant = ends_stay level i; places = places_move at level i }

  by_arm : (test : Expr) (body : List Loops) →
      arm_loops (record { test = placed_expr f test; body = map moved_loops body }) ≡ moved_loops (arm_loops (record { test = test; body = body }))
  by_arm test body = λ i. record { instant = all_of (instants_stay body i); places = loops_move body i }

  by_branch : (weak : Bool) (body : List Loops) →
      branch_loops (record { weak = weak; body = map moved_loops body }) ≡ moved_branch (branch_loops (record { weak = weak; body = body }))
  by_branch weak body = λ i. record { ends = record { weak = weak; instant = all_of (instants_stay body i) }; places = loops_move body i }

  -- the loops of a unit whose places are mapped
  pub instant_loops_move : (unit : UnitDef) → instant_loops (placed_unit f unit) ≡ map f (instant_loops unit)
  instant_loops_move unit =
      ap block_loops
      (stmts_turn f (Place → Loops) Loops BranchLoops Loops kind_loops arm_loops branch_loops stmt_loops moved_loops moved_branch moved_loops
      by_level by_arm by_branch unit.body)
      ∙ loops_move (map loops_in unit.body)
