-- Types and expressions with positions in place of names, where these scopes are open.
use Rattle.std.specs.Prelude.{ℕ, Option, Some, None}
use Rattle.bl_parse_tree.specs.declared.expr.RawExpr.{RawExpr, fold-RawExpr}
use Rattle.bl_parse_tree.specs.declared.expr.RawExprKind.TheOpen.{RawExprKind-F, RawPart-F, RawExpr-F, RawTarget-F}
use Rattle.bl_parse_tree.specs.declared.expr.RawPart.{RawPart, fold-RawPart}
use Rattle.bl_parse_tree.specs.declared.expr.RawTarget.{RawTarget, fold-RawTarget}
use Rattle.bl_parse_tree.specs.declared.name.Name.{Name}
use Rattle.bl_parse_tree.specs.declared.stmt.RawPath.{RawPath}
use Rattle.bl_parse_tree.specs.declared.types.RawLength.{RawLength}
use Rattle.bl_parse_tree.specs.declared.types.RawLength.TheVariants as raw_length
use Rattle.bl_parse_tree.specs.declared.types.RawType.{RawType, fold-RawType}
use Rattle.bl_parse_tree.specs.declared.types.RawType.TheOpen.{RawType-F}
use Rattle.bl_names_tree.specs.declared.expr.NamedExpr.{NamedExpr, roll-NamedExpr}
use Rattle.bl_names_tree.specs.declared.expr.NamedExprKind.{NamedExprKind}
use Rattle.bl_names_tree.specs.declared.expr.NamedExprKind.TheVariants as what
use Rattle.bl_names_tree.specs.declared.expr.NamedPart.{NamedPart}
use Rattle.bl_names_tree.specs.declared.expr.NamedPart.TheVariants as part
use Rattle.bl_names_tree.specs.declared.expr.NamedTarget.{NamedTarget, roll-NamedTarget}
use Rattle.bl_names_tree.specs.declared.expr.Root.{Root}
use Rattle.bl_names_tree.specs.declared.expr.Root.TheVariants as root
use Rattle.bl_names_tree.specs.declared.stmt.NamedPath.{NamedPath}
use Rattle.bl_names_tree.specs.declared.types.NamedLength.{NamedLength}
use Rattle.bl_names_tree.specs.declared.types.NamedLength.TheVariants as named_count
use Rattle.bl_names_tree.specs.declared.types.NamedType.{NamedType}
use Rattle.bl_names_tree.specs.declared.types.NamedType.TheVariants as type
use Rattle.bl_names_scopes.specs.declared.kind.Kind.{Kind}
use Rattle.bl_names_scopes.specs.declared.kind.Kind.TheVariants as kind
use Rattle.bl_names_scopes.specs.declared.scopes.Declaration.{Declaration}
use Rattle.bl_names_scopes.specs.Scopes.{Scopes, bound}

-- the position of a declaration; 0 where there is none
abbrev pub position_of : Option Declaration → ℕ
position_of (Some declaration) = declaration.position
position_of None = 0

-- the position of what a name stands for; 0 where it stands for nothing
abbrev pub position : Scopes → Name → ℕ
position scopes name = position_of (bound scopes name.text)

-- a root for a position of something of this kind: what is no constant counts as a variable
abbrev pub root_at : Kind → ℕ → Root
root_at kind.Constant k = root.Constant k
root_at _ k = root.Variable k

-- the root that a declaration stands for; without one the first variable
abbrev pub root_of : Option Declaration → Root
root_of (Some declaration) = root_at declaration.kind declaration.position
root_of None = root.Variable 0

-- a target begins with a constant or a variable
abbrev pub named_root : Scopes → Name → Root
named_root scopes name = root_of (bound scopes name.text)

-- ---- types

-- a length is a number, or the position of a constant at the place of its name
abbrev pub named_length : Scopes → RawLength → NamedLength
named_length scopes (raw_length.Number n) = named_count.Number n
named_length scopes (raw_length.Constant name) = named_count.Constant name.place (position scopes name)

-- one layer of a type with positions in place of names, from its element
abbrev pub named_type_level : Scopes → RawType-F NamedType → NamedType
named_type_level scopes (RawType-F.Scalar s) = type.Scalar s
named_type_level scopes (RawType-F.Struct name) = type.Struct (position scopes name)
named_type_level scopes (RawType-F.Array n element) = type.Array (named_length scopes n) element

-- a type with positions in place of names
abbrev pub named_type : Scopes → RawType → NamedType
named_type scopes = fold-RawType NamedType (named_type_level scopes)

-- ---- expressions

-- one layer of an expression with positions in place of names, from its operands
abbrev pub named_kind : Scopes → RawExprKind-F NamedExprKind NamedPart NamedExpr NamedTarget → NamedExprKind
named_kind scopes (RawExprKind-F.Number minus n) = what.Number minus n
named_kind scopes (RawExprKind-F.Truth b) = what.Truth b
named_kind scopes (RawExprKind-F.Read target) = what.Read target
named_kind scopes (RawExprKind-F.Prev name) = what.Prev (position scopes name)
named_kind scopes (RawExprKind-F.One op a) = what.One op a
named_kind scopes (RawExprKind-F.Two op a b) = what.Two op a b
named_kind scopes (RawExprKind-F.Cast s a) = what.Cast s a
named_kind scopes (RawExprKind-F.Call f inputs) = what.Call f.place (position scopes f) inputs

-- a field keeps its name, since fields belong to types; an index keeps its expression
abbrev pub named_part : RawPart-F NamedExprKind NamedPart NamedExpr NamedTarget → NamedPart
named_part (RawPart-F.Field name) = part.Field name
named_part (RawPart-F.Index e) = part.Index e

-- an expression keeps its place
abbrev pub named_expr_layer : RawExpr-F NamedExprKind NamedPart NamedExpr NamedTarget → NamedExpr
named_expr_layer e = roll-NamedExpr (record { place = e.place; what = e.what })

-- a target keeps its place, and has a position for the name with which it begins
abbrev pub named_target_layer : Scopes → RawTarget-F NamedExprKind NamedPart NamedExpr NamedTarget → NamedTarget
named_target_layer scopes target = roll-NamedTarget (record { place = target.place; root = named_root scopes target.root; parts = target.parts })

-- an expression with positions in place of names
abbrev pub named_expr : Scopes → RawExpr → NamedExpr
named_expr scopes = fold-RawExpr NamedExprKind NamedPart NamedExpr NamedTarget (named_kind scopes) named_part named_expr_layer (named_target_layer scopes)

-- a target with positions in place of names
abbrev pub named_target : Scopes → RawTarget → NamedTarget
named_target scopes = fold-RawTarget NamedExprKind NamedPart NamedExpr NamedTarget (named_kind scopes) named_part named_expr_layer (named_target_layer scopes)

-- a part of a target
abbrev pub named_step : Scopes → RawPart → NamedPart
named_step scopes = fold-RawPart NamedExprKind NamedPart NamedExpr NamedTarget (named_kind scopes) named_part named_expr_layer (named_target_layer scopes)

-- a path with positions in place of names
abbrev pub named_path : Scopes → RawPath → NamedPath
named_path scopes path = record { place = path.place; root = position scopes path.root; fields = path.fields }
