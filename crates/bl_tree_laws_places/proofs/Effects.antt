-- What statements read and write stays where their places are mapped.
use Rattle.std.proofs.Common.{◌≡◌, [], ◌∷◌, ◌++◌, Bool, List, map, refl, ap, ap₂}
use Rattle.std.specs.Prelude.{Option, Some, None, option_map}
use Rattle.bl_tree.specs.declared.place.Place.{Place}
use Rattle.bl_tree.specs.declared.static_path.Static.{Static}
use Rattle.bl_tree.specs.declared.tree.Expr.{Expr}
use Rattle.bl_tree.specs.declared.tree.Path.{Path}
use Rattle.bl_tree.specs.declared.tree.Stmt.{Stmt}
use Rattle.bl_tree.specs.declared.tree.StmtKind.TheOpen.{StmtKind-F}
use Rattle.bl_tree.specs.Effects.{argument_mentions, arm_reads, arm_writes, branch_paths, kind_reads, kind_writes, optional_mentions, reads, stmt_set}
use Rattle.bl_tree.specs.Effects.{target_mentions, target_static, writes}
use Rattle.bl_tree.specs.Instant.{BranchInstant, arm_instant, branch_ends, instant, is_instant_block, kind_instant, stmt_instant}
use Rattle.bl_tree.specs.Reduce.{all_of, joined}
use Rattle.bl_tree.specs.Static.{Reach, StaticStep, expr_mentions, index_mentions, kind_mentions, mentions, part_step, path_mentions, path_reach, reach_of}
use Rattle.bl_tree.specs.Static.{static_of}
use Rattle.bl_tree_laws_places.specs.Laws.{EffectsStay}
use Rattle.bl_tree_laws_places.specs.Placed.{placed_expr, placed_level, placed_path, placed_stmt}
use Rattle.bl_tree_laws_places.proofs.Exprs.{expr_stays, path_stays}
use Rattle.bl_tree_laws_places.proofs.Lists.{map-after}
use Rattle.bl_tree_laws_places.proofs.Stmts.{stmt_stays}

module _ (f : Place → Place) where
  -- ---- expressions

  pub mentions_stay : (e : Expr) → mentions (placed_expr f e) ≡ mentions e
  mentions_stay =
      expr_stays f (List Static) StaticStep (List Static) Reach kind_mentions part_step expr_mentions path_reach (λ p q what. refl)
      (λ p q root parts ty. refl)

  pub reach_stays : (path : Path) → reach_of (placed_path f path) ≡ reach_of path
  reach_stays =
      path_stays f (List Static) StaticStep (List Static) Reach kind_mentions part_step expr_mentions path_reach (λ p q what. refl)
      (λ p q root parts ty. refl)

  pub static_stays : (path : Path) → static_of (placed_path f path) ≡ static_of path
  static_stays path = ap (λ reach. reach.static) (reach_stays path)

  pub indices_stay : (path : Path) → index_mentions (placed_path f path) ≡ index_mentions path
  indices_stay path = ap (λ reach. reach.indices) (reach_stays path)

  pub statics_stay : (paths : List Path) → map static_of (map (placed_path f) paths) ≡ map static_of paths
  statics_stay paths = map-after static_of (placed_path f) paths (λ k d less. static_stays _)

  pub optional_stays : (e : Option Expr) → optional_mentions (option_map (placed_expr f) e) ≡ optional_mentions e
  optional_stays None = refl
  optional_stays (Some e) = mentions_stay e

  pub target_stays : (path : Option Path) → target_mentions (option_map (placed_path f) path) ≡ target_mentions path
  target_stays None = refl
  target_stays (Some path) = indices_stay path

  pub written_stays : (path : Option Path) → target_static (option_map (placed_path f) path) ≡ target_static path
  written_stays None = refl
  written_stays (Some path) = ap (λ static. static ∷ []) (static_stays path)

  pub arguments_stay : (inputs : List Expr) (outputs : List Path) →
      argument_mentions (map (placed_expr f) inputs) (map (placed_path f) outputs) ≡ argument_mentions inputs outputs
  arguments_stay inputs outputs =
      ap₂ (λ xs ys. joined xs ++ joined ys) (map-after mentions (placed_expr f) inputs (λ k d less. mentions_stay _))
      (map-after path_mentions (placed_path f) outputs (λ k d less. ap (λ reach. reach.static ∷ reach.indices) (reach_stays _)))

  -- ---- statements

  abbrev Paths : Type 0
  Paths = List Static

  kind_reads_stay : (level : StmtKind-F Paths Paths Paths Paths) → kind_reads (placed_level f level) ≡ kind_reads level
  kind_reads_stay (StmtKind-F.Declare k initial) = optional_stays initial
  kind_reads_stay (StmtKind-F.Assign path e) = ap₂ (λ xs ys. xs ++ ys) (indices_stay path) (mentions_stay e)
  kind_reads_stay (StmtKind-F.Call callee inputs outputs) = arguments_stay inputs outputs
  kind_reads_stay (StmtKind-F.Await e) = mentions_stay e
  kind_reads_stay (StmtKind-F.Run target callee inputs outputs) =
      ap₂ (λ xs ys. xs ++ ys) (target_stays target) (arguments_stay inputs outputs)
  kind_reads_stay (StmtKind-F.If arms other) = refl
  kind_reads_stay (StmtKind-F.Cobegin branches) = refl
  kind_reads_stay (StmtKind-F.When guard e body) = ap (λ xs. xs ++ joined body) (mentions_stay e)
  kind_reads_stay (StmtKind-F.Repeat body) = refl
  kind_reads_stay (StmtKind-F.Until body e) = ap (λ xs. joined body ++ xs) (mentions_stay e)
  kind_reads_stay (StmtKind-F.While e body) = ap (λ xs. xs ++ joined body) (mentions_stay e)
  kind_reads_stay (StmtKind-F.Return e) = optional_stays e

  pub reads_stay : (s : Stmt) → reads (placed_stmt f s) ≡ reads s
  reads_stay =
      stmt_stays f Paths Paths Paths Paths kind_reads arm_reads branch_paths stmt_set (λ p q what. refl) kind_reads_stay
      (λ test body. ap (λ xs. xs ++ joined body) (mentions_stay test))

  kind_writes_stay : (level : StmtKind-F Paths Paths Paths Paths) → kind_writes (placed_level f level) ≡ kind_writes level
  kind_writes_stay (StmtKind-F.Declare k initial) = refl
  kind_writes_stay (StmtKind-F.Assign path e) = ap (λ static. static ∷ []) (static_stays path)
  kind_writes_stay (StmtKind-F.Call callee inputs outputs) = statics_stay outputs
  kind_writes_stay (StmtKind-F.Await e) = refl
  kind_writes_stay (StmtKind-F.Run target callee inputs outputs) = ap₂ (λ xs ys. xs ++ ys) (written_stays target) (statics_stay outputs)
  kind_writes_stay (StmtKind-F.If arms other) = refl
  kind_writes_stay (StmtKind-F.Cobegin branches) = refl
  kind_writes_stay (StmtKind-F.When guard e body) = refl
  kind_writes_stay (StmtKind-F.Repeat body) = refl
  kind_writes_stay (StmtKind-F.Until body e) = refl
  kind_writes_stay (StmtKind-F.While e body) = refl
  kind_writes_stay (StmtKind-F.Return e) = refl

  pub writes_stay : (s : Stmt) → writes (placed_stmt f s) ≡ writes s
  writes_stay =
      stmt_stays f Paths Paths Paths Paths kind_writes arm_writes branch_paths stmt_set (λ p q what. refl) kind_writes_stay (λ test body. refl)

  -- whether a layer may end at once doesn't hang on its expressions
  pub kind_instant_stays : (level : StmtKind-F Bool Bool BranchInstant Bool) → kind_instant (placed_level f level) ≡ kind_instant level
  kind_instant_stays (StmtKind-F.Declare k initial) = refl
  kind_instant_stays (StmtKind-F.Assign path e) = refl
  kind_instant_stays (StmtKind-F.Call callee inputs outputs) = refl
  kind_instant_stays (StmtKind-F.Await e) = refl
  kind_instant_stays (StmtKind-F.Run target callee inputs outputs) = refl
  kind_instant_stays (StmtKind-F.If arms other) = refl
  kind_instant_stays (StmtKind-F.Cobegin branches) = refl
  kind_instant_stays (StmtKind-F.When guard e body) = refl
  kind_instant_stays (StmtKind-F.Repeat body) = refl
  kind_instant_stays (StmtKind-F.Until body e) = refl
  kind_instant_stays (StmtKind-F.While e body) = refl
  kind_instant_stays (StmtKind-F.Return e) = refl

  pub instant_stays : (s : Stmt) → instant (placed_stmt f s) ≡ instant s
  instant_stays =
      stmt_stays f Bool Bool BranchInstant Bool kind_instant arm_instant branch_ends stmt_instant (λ p q what. refl) kind_instant_stays
      (λ test body. refl)

  pub instant_block_stays : (body : List Stmt) → is_instant_block (map (placed_stmt f) body) ≡ is_instant_block body
  instant_block_stays body = ap all_of (map-after instant (placed_stmt f) body (λ k d less. instant_stays _))

  pub effects_stay : EffectsStay f
  effects_stay = record {
    mentioned = mentions_stay;
    named = static_stays;
    indexed = indices_stay;
    read = reads_stay;
    written = writes_stay;
    ends = instant_stays;
  }
