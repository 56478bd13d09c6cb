-- What acts write, and the branches of `cobegin` statements, where places are mapped.
use Rattle.std.proofs.Common.{◌≡◌, Bool, List, [], ◌∷◌, ◌++◌, map, refl, ap, ap₂, sym, ◌∙◌}
use Rattle.std.proofs.lemmas.List.{map-append}
use Rattle.std.specs.Prelude.{Option}
use Rattle.bl_tree.specs.declared.place.Place.{Place}
use Rattle.bl_tree.specs.declared.static_path.Static.{Static}
use Rattle.bl_tree.specs.declared.tree.Path.{Path}
use Rattle.bl_tree.specs.declared.tree.Stmt.{Stmt}
use Rattle.bl_tree.specs.declared.tree.StmtKind.TheOpen.{StmtKind-F}
use Rattle.bl_tree.specs.declared.tree.Unit.{Unit as UnitDef}
use Rattle.bl_tree.specs.Effects.{target_static}
use Rattle.bl_tree.specs.Reduce.{joined}
use Rattle.bl_tree.specs.Static.{static_of}
use Rattle.bl_tree_laws_places.specs.Placed.{placed_level, placed_path, placed_stmt, placed_unit}
use Rattle.bl_tree_laws_places.proofs.Effects.{static_stays, statics_stay, written_stays}
use Rattle.bl_tree_laws_places.proofs.Lists.{joined-behind, map-twice}
use Rattle.bl_tree_laws_places.proofs.Stmts.{stmts_turn, turned}
use Rattle.bl_effects.specs.declared.marked.Marked.{Marked}
use Rattle.bl_effects.specs.Rules.{Parallel, Split, acting, arm_parallel, beside, branch_parallel, kind_parallel, of_branches, parallel_of, splits_after}
use Rattle.bl_effects.specs.Rules.{splits_of, still, stmt_parallel, together}

module _ (f : Place → Place) where
  -- a path at the mapped place
  abbrev pub moved_marked : Marked → Marked
  moved_marked m = record { place = f m.place; path = m.path }

  -- a branch with its places mapped
  abbrev pub moved_split : Split → Split
  moved_split s = record { earlier = map moved_marked s.earlier; writes = map moved_marked s.writes }

  -- what stands in a statement, with its places mapped
  abbrev pub moved_parallel : Parallel → Parallel
  moved_parallel p = record { writes = map moved_marked p.writes; splits = map moved_split p.splits }

  together_moves : (parts : List Parallel) → together (map moved_parallel parts) ≡ moved_parallel (together parts)
  together_moves parts = λ i. record {
    writes = joined-behind (λ (part : Parallel). part.writes) moved_parallel (λ part. part.writes) moved_marked (λ part. refl) parts i;
    splits = joined-behind (λ (part : Parallel). part.splits) moved_parallel (λ part. part.splits) moved_split (λ part. refl) parts i;
  }

  beside_moves : (one other : Parallel) → beside (moved_parallel one) (moved_parallel other) ≡ moved_parallel (beside one other)
  beside_moves one other = λ i. record {
    writes = sym (map-append moved_marked one.writes other.writes) i;
    splits = sym (map-append moved_split one.splits other.splits) i;
  }

  acting_moves : (at : Place) (written : List Static) → acting (f at) written ≡ moved_parallel (acting at written)
  acting_moves at written = λ i. record {
    writes = sym (map-twice moved_marked (λ path. record { place = at; path = path }) written) i;
    splits = [];
  }

  after_moves : (before : List Marked) (branches : List Parallel) →
      splits_after (map moved_marked before) (map moved_parallel branches) ≡ map moved_split (splits_after before branches)
  after_moves before [] = refl
  after_moves before (branch ∷ rest) =
      ap (λ xs. map moved_split branch.splits ++ moved_split (record { earlier = before; writes = branch.writes }) ∷ xs)
      (ap (λ ms. splits_after ms (map moved_parallel rest)) (sym (map-append moved_marked before branch.writes))
      ∙ after_moves (before ++ branch.writes) rest)
      ∙ sym (map-append moved_split branch.splits
      (record { earlier = before; writes = branch.writes } ∷ splits_after (before ++ branch.writes) rest))

  branches_move : (branches : List Parallel) → of_branches (map moved_parallel branches) ≡ moved_parallel (of_branches branches)
  branches_move branches = λ i. record {
    writes = joined-behind (λ (part : Parallel). part.writes) moved_parallel (λ part. part.writes) moved_marked (λ part. refl) branches i;
    splits = after_moves [] branches i;
  }

  abbrev Layer : Type 0
  Layer = StmtKind-F (Place → Parallel) Parallel Parallel Parallel

  abbrev turn : Layer → Layer
  turn = turned moved_parallel moved_parallel moved_parallel

  by_level : (at : Place) (level : Layer) → kind_parallel (placed_level f (turn level)) (f at) ≡ moved_parallel (kind_parallel level at)
  by_level at (StmtKind-F.Declare k initial) = refl
  by_level at (StmtKind-F.Assign path e) = ap (λ static. acting (f at) (static ∷ [])) (static_stays f path)
  by_level at (StmtKind-F.Call callee inputs outputs) = ap (acting (f at)) (statics_stay f outputs) ∙ acting_moves at (map static_of outputs)
  by_level at (StmtKind-F.Await e) = refl
  by_level at (StmtKind-F.Run target callee inputs outputs) =
      ap₂ (λ xs ys. acting (f at) (xs ++ ys)) (written_stays f target) (statics_stay f outputs)
      ∙ acting_moves at (target_static target ++ map static_of outputs)
  by_level at (StmtKind-F.If arms other) =
      ap₂ beside (together_moves arms) (together_moves other) ∙ beside_moves (together arms) (together other)
  by_level at (StmtKind-F.Cobegin branches) = branches_move branches
  by_level at (StmtKind-F.When guard e body) = together_moves body
  by_level at (StmtKind-F.Repeat body) = together_moves body
  by_level at (StmtKind-F.Until body e) = together_moves body
  by_level at (StmtKind-F.While e body) = together_moves body
  by_level at (StmtKind-F.Return e) = refl

  -- the branches of a unit whose places are mapped
  pub splits_move : (unit : UnitDef) → splits_of (placed_unit f unit) ≡ map moved_split (splits_of unit)
  splits_move unit =
      ap (λ parts. (together parts).splits)
      (stmts_turn f (Place → Parallel) Parallel Parallel Parallel kind_parallel arm_parallel branch_parallel stmt_parallel
      moved_parallel moved_parallel moved_parallel by_level (λ test body. together_moves body) (λ weak body. together_moves body) unit.body)
      ∙ ap (λ part. part.splits) (together_moves (map parallel_of unit.body))
