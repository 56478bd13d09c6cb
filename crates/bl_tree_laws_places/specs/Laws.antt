-- What a tree with mapped places has in common with the tree.
use Rattle.std.specs.Prelude.{◌≡◌, List, map}
use Rattle.bl_tree.specs.declared.place.Place.{Place}
use Rattle.bl_tree.specs.declared.rule.Rule.{Rule}
use Rattle.bl_tree.specs.declared.tree.Expr.{Expr}
use Rattle.bl_tree.specs.declared.tree.Path.{Path}
use Rattle.bl_tree.specs.declared.tree.Stmt.{Stmt}
use Rattle.bl_tree.specs.Effects.{reads, writes}
use Rattle.bl_tree.specs.Instant.{instant}
use Rattle.bl_tree.specs.Static.{index_mentions, mentions, static_of}
use Rattle.bl_tree_laws_places.specs.Placed.{placed_expr, placed_path, placed_stmt}

-- a map of places doesn't change which variables parts of trees read and write, nor which statements may end in their first tick
pub record EffectsStay (f : Place → Place) : Type 0 where
  pub mentioned : (e : Expr) → mentions (placed_expr f e) ≡ mentions e
  pub named : (path : Path) → static_of (placed_path f path) ≡ static_of path
  pub indexed : (path : Path) → index_mentions (placed_path f path) ≡ index_mentions path
  pub read : (s : Stmt) → reads (placed_stmt f s) ≡ reads s
  pub written : (s : Stmt) → writes (placed_stmt f s) ≡ writes s
  pub ends : (s : Stmt) → instant (placed_stmt f s) ≡ instant s

-- the second map brings back each place that the first maps
abbrev pub BringsBack : (Place → Place) → (Place → Place) → Type 0
BringsBack g f = (place : Place) → g (f place) ≡ place

-- a rule fails at places that are the images of places at which it fails so
pub record FailsMoved (f : Place → Place) (Fails : Rule → Place → List Place → Type 0) (rule : Rule) (at : Place) (also : List Place) : Type 0 where
  pub source : Place
  pub further : List Place
  pub fails : Fails rule source further
  pub is_at : at ≡ f source
  pub is_also : also ≡ map f further
