-- What tokens of a text spell, the moved tokens spell in the whole, with moved places: types, expressions and paths.
use Rattle.std.proofs.Common.{◌≡◌, ℕ, ◌+◌, ◌<◌, Bool, true, false, List, [], ◌∷◌, ◌++◌, map, refl, ap, sym, ◌∙◌, arith}
use Rattle.std.specs.Prelude.{length as list_length}
use Rattle.bl_tree.specs.declared.place.Place.{Place}
use Rattle.bl_tree.specs.declared.token.Token.{Token}
use Rattle.bl_parse_tree.specs.declared.expr.RawExpr.{RawExpr}
use Rattle.bl_parse_tree.specs.declared.expr.RawExprKind.{RawExprKind}
use Rattle.bl_parse_tree.specs.declared.expr.RawPart.{RawPart}
use Rattle.bl_parse_tree.specs.declared.expr.RawTarget.{RawTarget}
use Rattle.bl_parse_tree.specs.declared.name.Name.{Name}
use Rattle.bl_parse_tree.specs.declared.stmt.RawPath.{RawPath}
use Rattle.bl_parse_tree.specs.declared.types.RawLength.{RawLength}
use Rattle.bl_parse_tree.specs.declared.types.RawType.{RawType}
use Rattle.bl_parse.specs.At.{span}
use Rattle.bl_parse.specs.Expressions.{expr, target, is_number, SpellsNone, SpellsTruth, SpellsExpr, SpellsTarget, SpellsPart, SpellsParts, SpellsInputs, SpellsExprs}
use Rattle.bl_parse.specs.Statements.{SpellsFields, SpellsPath, SpellsPaths, SpellsOutputs}
use Rattle.bl_parse.specs.Types.{SpellsLength, SpellsType}
use Rattle.bl_joined.specs.Texts.{moved_place}
use Rattle.bl_joined.specs.Trees.{placed_length, placed_type, placed_expr, placed_target, placed_name, placed_path}
use Rattle.bl_joined_laws.proofs.Made.{said, stepped, scalar_is, struct_is, array_is, expr_is, number_is, truth_is, read_is, before_is, one_is, two_is, cast_is}
use Rattle.bl_joined_laws.proofs.Made.{call_is, target_is, field_is, index_is}
use Rattle.bl_joined_laws.proofs.Moved.{Stands, infix_there, kind_there, mapped_more, name, prefix_there, scalar, span_there, stay, takes}
use Rattle.bl_joined_laws.proofs.Reach.{Filled, alone, expr_filled, path_filled, target_filled}

module _ {text whole : List ℕ} {tokens all : List Token} {n d : ℕ} (h : Stands text whole tokens all n d) where
  abbrev f : Place → Place
  f = moved_place n

  -- ---- types

  length : {one : RawLength} {from to : ℕ} → SpellsLength text tokens one from to → SpellsLength whole all (placed_length f one) (d + from) (d + to)
  length (SpellsLength.number {n = value} t is) = SpellsLength.number (takes h t)
      (ap (placed_length f) is ∙ ap (λ (p : Place). RawLength.Number (record { place = p; value = value })) (span_there h (alone t refl)))
  length (SpellsLength.constant one is) = SpellsLength.constant (name h one) (ap (placed_length f) is)

  pub ty : {t : RawType} {from to : ℕ} → SpellsType text tokens t from to → SpellsType whole all (placed_type f t) (d + from) (d + to)
  ty (SpellsType.scalar s is) = SpellsType.scalar (scalar h s) (ap (placed_type f) is ∙ scalar_is f _)
  ty (SpellsType.named one is) = SpellsType.named (name h one) (ap (placed_type f) is ∙ struct_is f _)
  ty (SpellsType.array opens one closes element is) =
      SpellsType.array (takes h opens) (length one) (takes h closes) (ty element) (ap (placed_type f) is ∙ array_is f _ _)

  -- ---- expressions

  none : {from to : ℕ} → SpellsNone tokens from to → SpellsNone all (d + from) (d + to)
  none (SpellsNone.absent is) = SpellsNone.absent (stay h is)
  none (SpellsNone.empty opens closes) = SpellsNone.empty (takes h opens) (takes h closes)

  truth : {b : Bool} {from to : ℕ} → SpellsTruth tokens b from to → SpellsTruth all b (d + from) (d + to)
  truth s = record { kind = s.kind; token = takes h s.token; is = s.is }

  -- the moved place of tokens is that of the moved tokens
  abbrev Placed : ℕ → ℕ → Type 0
  Placed from to = f (span tokens from to) ≡ span all (d + from) (d + to)

  begins : {from to : ℕ} → Filled tokens from to → from < list_length tokens
  begins filled = omega (arith, filled.forward, filled.inside)

  made : {e : RawExpr} {place place_there : Place} {what said_there : RawExprKind} → f place ≡ place_there → said f what ≡ said_there →
      e ≡ expr place what → placed_expr f e ≡ expr place_there said_there
  made {place_there = place_there} {what = what} at says is = ap (placed_expr f) is ∙ expr_is f _ what ∙ ap (λ (p : Place). expr p (said f what)) at
      ∙ ap (λ (w : RawExprKind). expr place_there w) says

  mutual
    pub expression : {level : ℕ} {e : RawExpr} {from to : ℕ} → SpellsExpr text tokens level e from to → Placed from to →
        SpellsExpr whole all level (placed_expr f e) (d + from) (d + to)
    expression (SpellsExpr.two le a op b is) at =
        SpellsExpr.two le (expression a (span_there h (expr_filled a))) (infix_there h op) (expression b (span_there h (expr_filled b)))
        (made at (two_is f _ _ _) is)
    expression (SpellsExpr.cast le a word s is) at =
        SpellsExpr.cast le (expression a (span_there h (expr_filled a))) (takes h word) (scalar h s) (made at (cast_is f _ _) is)
    expression (SpellsExpr.negative le minus one is) at = SpellsExpr.negative le (takes h minus) (takes h one) (made at (number_is f _ _) is)
    expression (SpellsExpr.one {m = m} le op no_number a is) at =
        SpellsExpr.one le (prefix_there h op) (λ minus. ap is_number (kind_there h m (begins (expr_filled a))) ∙ no_number minus)
        (expression a (span_there h (expr_filled a))) (made at (one_is f _ _) is)
    expression (SpellsExpr.number one is) at = SpellsExpr.number (takes h one) (made at (number_is f _ _) is)
    expression (SpellsExpr.truth t is) at = SpellsExpr.truth (truth t) (made at (truth_is f _) is)
    expression (SpellsExpr.before word one is) at = SpellsExpr.before (takes h word) (name h one) (made at (before_is f _) is)
    expression (SpellsExpr.read from is) at = SpellsExpr.read (place from (span_there h (target_filled from))) (made at (read_is f _) is)
    expression (SpellsExpr.call one given nothing is) at =
        SpellsExpr.call (name h one) (inputs given) (none nothing) (made at (call_is f _ _) is)
    expression (SpellsExpr.parentheses opens e closes) at =
        SpellsExpr.parentheses (takes h opens) (expression e (span_there h (expr_filled e))) (takes h closes)

    pub place : {t : RawTarget} {from to : ℕ} → SpellsTarget text tokens t from to → Placed from to →
        SpellsTarget whole all (placed_target f t) (d + from) (d + to)
    place (SpellsTarget.parted {root = root} {parts = behind_it} one behind is) at = SpellsTarget.parted (name h one) (parts behind)
        (ap (placed_target f) is ∙ target_is f _ _ _ ∙ ap (λ (p : Place). target p (placed_name f root) (map (stepped f) behind_it)) at)

    part : {one : RawPart} {from to : ℕ} → SpellsPart text tokens one from to → SpellsPart whole all (stepped f one) (d + from) (d + to)
    part (SpellsPart.field dot one is) = SpellsPart.field (takes h dot) (name h one) (ap (stepped f) is ∙ field_is f _)
    part (SpellsPart.index opens e closes is) =
        SpellsPart.index (takes h opens) (expression e (span_there h (expr_filled e))) (takes h closes) (ap (stepped f) is ∙ index_is f _)

    parts : {list : List RawPart} {from to : ℕ} → SpellsParts text tokens list from to → SpellsParts whole all (map (stepped f) list) (d + from) (d + to)
    parts (SpellsParts.no_parts nothing is) = SpellsParts.no_parts (ap (map (stepped f)) nothing) (stay h is)
    parts (SpellsParts.more_parts others one is) = SpellsParts.more_parts (parts others) (part one) (mapped_more (stepped f) _ _ is)

    pub inputs : {list : List RawExpr} {from to : ℕ} → SpellsInputs text tokens list from to →
        SpellsInputs whole all (map (placed_expr f) list) (d + from) (d + to)
    inputs (SpellsInputs.no_inputs opens closes nothing) = SpellsInputs.no_inputs (takes h opens) (takes h closes) (ap (map (placed_expr f)) nothing)
    inputs (SpellsInputs.some_inputs opens es closes) = SpellsInputs.some_inputs (takes h opens) (expressions es) (takes h closes)

    expressions : {list : List RawExpr} {from to : ℕ} → SpellsExprs text tokens list from to →
        SpellsExprs whole all (map (placed_expr f) list) (d + from) (d + to)
    expressions (SpellsExprs.first_expr e is) =
        SpellsExprs.first_expr (expression e (span_there h (expr_filled e))) (ap (map (placed_expr f)) is)
    expressions (SpellsExprs.more_exprs es comma e is) =
        SpellsExprs.more_exprs (expressions es) (takes h comma) (expression e (span_there h (expr_filled e))) (mapped_more (placed_expr f) _ _ is)

  -- ---- paths

  fields : {list : List Name} {from to : ℕ} → SpellsFields text tokens list from to → SpellsFields whole all (map (placed_name f) list) (d + from) (d + to)
  fields (SpellsFields.none nothing is) = SpellsFields.none (ap (map (placed_name f)) nothing) (stay h is)
  fields (SpellsFields.more others dot one is) = SpellsFields.more (fields others) (takes h dot) (name h one) (mapped_more (placed_name f) _ _ is)

  pub path : {one : RawPath} {from to : ℕ} → SpellsPath text tokens one from to → SpellsPath whole all (placed_path f one) (d + from) (d + to)
  path s = record {
    m = _;
    root = name h s.root;
    fields = fields s.fields;
    place = ap f s.place ∙ span_there h (path_filled s);
  }

  paths : {list : List RawPath} {from to : ℕ} → SpellsPaths text tokens list from to → SpellsPaths whole all (map (placed_path f) list) (d + from) (d + to)
  paths (SpellsPaths.first one is) = SpellsPaths.first (path one) (ap (map (placed_path f)) is)
  paths (SpellsPaths.more others comma one is) = SpellsPaths.more (paths others) (takes h comma) (path one) (mapped_more (placed_path f) _ _ is)

  pub outputs : {list : List RawPath} {from to : ℕ} → SpellsOutputs text tokens list from to →
      SpellsOutputs whole all (map (placed_path f) list) (d + from) (d + to)
  outputs (SpellsOutputs.absent nothing is) = SpellsOutputs.absent (ap (map (placed_path f)) nothing) (stay h is)
  outputs (SpellsOutputs.none opens closes nothing) = SpellsOutputs.none (takes h opens) (takes h closes) (ap (map (placed_path f)) nothing)
  outputs (SpellsOutputs.some opens list closes) = SpellsOutputs.some (takes h opens) (paths list) (takes h closes)
