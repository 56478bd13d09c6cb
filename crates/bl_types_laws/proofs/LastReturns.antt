-- A unit that returns as its result asks does so as it is made.
use Rattle.std.proofs.Common.{◌≡◌, List, [], ◌∷◌, map, Option, Some, None, refl, ap, sym, ◌∙◌}
use Rattle.std.specs.Prelude.{Bool, true, false, not, ◌||◌, option_map, if◌then◌else◌}
use Rattle.std.specs.List.{cons_option}
use Rattle.std.proofs.lemmas.Option.{same_Some}
use Rattle.std.proofs.lemmas.Bool.{and_from}
use Rattle.bl_tree.proofs.Basics.{first_empty, second_empty}
use Rattle.bl_tree.specs.declared.place.Place.{Place}
use Rattle.bl_tree.specs.declared.scalar.Scalar.{Scalar as ScalarType}
use Rattle.bl_tree.specs.declared.tree.Stmt.{Stmt, out-roll-Stmt}
use Rattle.bl_tree.specs.declared.tree.StmtKind.{StmtKind, out-StmtKind}
use Rattle.bl_tree.specs.declared.tree.StmtKind.TheOpen.{StmtKind-F}
use Rattle.bl_tree.specs.declared.tree.StmtKind.TheVariants as what
use Rattle.bl_tree.specs.Returns.{has_return, is_return, is_return_kind, returns_last_alone}
use Rattle.bl_names_tree.specs.declared.expr.NamedExpr.{NamedExpr}
use Rattle.bl_names_tree.specs.declared.item.NamedConstant.{NamedConstant}
use Rattle.bl_names_tree.specs.declared.item.NamedVar.{NamedVar}
use Rattle.bl_names_tree.specs.declared.stmt.NamedStmt.{NamedStmt, out-NamedStmt, roll-out-NamedStmt, roll-NamedStmt}
use Rattle.bl_names_tree.specs.declared.stmt.NamedStmtKind.{NamedStmtKind, out-NamedStmtKind, roll-out-NamedStmtKind}
use Rattle.bl_names_tree.specs.declared.stmt.NamedStmtKind.TheOpen.{NamedStmtKind-F}
use Rattle.bl_types.specs.declared.environment.Environment.{Environment}
use Rattle.bl_types.specs.Returns.{is_return as named_is_return, is_return_kind as named_return_kind, stray, strays, strays_in}
use Rattle.bl_types.specs.Statements.{StatementJudgement, in_order, returned, stmt_made, walked_stmt}
use Rattle.bl_types_laws.proofs.Forms.{map_found}
use Rattle.bl_types_laws.proofs.NamedStmtInduction.{stmt}
use Rattle.bl_types_laws.proofs.Straying.{statement_none}
use Rattle.bl_types_laws.proofs.StmtLayers.{Layer, walked_by, walked_is}

pub stmt_whole : (s : NamedStmt) → stmt (out-NamedStmt s).place (out-NamedStmtKind (out-NamedStmt s).what) ≡ s
stmt_whole s = ap (λ (what : NamedStmtKind). roll-NamedStmt (record { place = (out-NamedStmt s).place; what = what }))
    (roll-out-NamedStmtKind (out-NamedStmt s).what) ∙ roll-out-NamedStmt s

return_is : (at : Place) (kind : StmtKind) (layer : StmtKind-F _ _ _ _) → out-StmtKind kind ≡ layer →
    is_return (stmt_made at kind) ≡ is_return_kind layer
return_is at kind layer is =
    ap (λ s. is_return_kind (out-StmtKind s.what)) (out-roll-Stmt (record { place = at; what = kind })) ∙ ap is_return_kind is

returned_is : (at place : Place) (e : Option NamedExpr) (result : Option ScalarType) (env : Environment) (a : StmtKind) →
    (returned place e result env).made ≡ Some a → is_return (stmt_made at a) ≡ true
returned_is at place (Some e) (Some s) env a is =
    let found = map_found (λ e. what.Return (Some e)) _ a is in
    ap (λ kind. is_return (stmt_made at kind)) (sym found.2) ∙ return_is at (what.Return (Some found.0)) (StmtKind-F.Return (Some found.0))
    (what.outs-Return (Some found.0))
returned_is at place (Some e) None env a is =
    let found = map_found (λ e. what.Return (Some e)) _ a is in
    ap (λ kind. is_return (stmt_made at kind)) (sym found.2) ∙ return_is at (what.Return (Some found.0)) (StmtKind-F.Return (Some found.0))
    (what.outs-Return (Some found.0))
returned_is at place None (Some s) env a is =
    ap (λ kind. is_return (stmt_made at kind)) (sym (same_Some (what.Return None) a is))
    ∙ return_is at (what.Return None) (StmtKind-F.Return None) (what.outs-Return None)
returned_is at place None None env a is =
    ap (λ kind. is_return (stmt_made at kind)) (sym (same_Some (what.Return None) a is))
    ∙ return_is at (what.Return None) (StmtKind-F.Return None) (what.outs-Return None)

module _ (constants : List NamedConstant) (vars : List NamedVar) where
  kind_returned : (place : Place) (layer : Layer) (env : Environment) (a : StmtKind) → named_return_kind layer ≡ true →
      (walked_by constants vars layer place env).made ≡ Some a → is_return (stmt_made place a) ≡ true
  kind_returned place (NamedStmtKind-F.Return e) env a returns is = returned_is place place e env.result env a is
  kind_returned place _ env a returns is = absurd (cc)

  layer_returned : (place : Place) (layer : Layer) (env : Environment) (t : Stmt) → named_return_kind layer ≡ true →
      (walked_stmt constants vars (stmt place layer) env).made ≡ Some t → is_return t ≡ true
  layer_returned place layer env t returns is =
      let made : option_map (stmt_made place) (walked_by constants vars layer place env).made ≡ Some t =
      ap (λ (walk : StatementJudgement Stmt). (walk env).made) (sym (walked_is constants vars place layer)) ∙ is in
      let found = map_found (stmt_made place) (walked_by constants vars layer place env).made t made in
      ap is_return (sym found.2) ∙ kind_returned place layer env found.0 returns found.1

  -- a `return` is made one
  pub return_returned : (s : NamedStmt) (env : Environment) (t : Stmt) → named_is_return s ≡ true → (walked_stmt constants vars s env).made ≡ Some t →
      is_return t ≡ true
  return_returned s env t returns is =
      layer_returned (out-NamedStmt s).place (out-NamedStmtKind (out-NamedStmt s).what) env t returns
      (ap (λ s. (walked_stmt constants vars s env).made) (stmt_whole s) ∙ is)

  one_alone : (made : Option Stmt) → ((t : Stmt) → made ≡ Some t → (not (has_return t) || is_return t) ≡ true) →
      returns_last_alone (cons_option made []) ≡ true
  one_alone None fit = refl
  one_alone (Some t) fit = fit t refl

  last_by : (s : NamedStmt) (env : Environment) (holds : Bool) → named_is_return s ≡ holds → (if holds then [] else strays_in s) ≡ [] → (t : Stmt) →
      (walked_stmt constants vars s env).made ≡ Some t → (not (has_return t) || is_return t) ≡ true
  last_by s env true returns none t is = ap (λ holds. not (has_return t) || holds) (return_returned s env t returns is) ∙ or_true (not (has_return t))
    where
      or_true : (b : Bool) → (b || true) ≡ true
      or_true true = refl
      or_true false = refl
  last_by s env false returns none t is = ap (λ holds. not holds || is_return t) (statement_none constants vars s none env t is)

  front_alone : (made : Option Stmt) (rest : List Stmt) → ((t : Stmt) → made ≡ Some t → has_return t ≡ false) → returns_last_alone rest ≡ true →
      returns_last_alone (cons_option made rest) ≡ true
  front_alone None rest none alone = alone
  front_alone (Some t) [] none alone = ap (λ holds. not holds || is_return t) (none t refl)
  front_alone (Some t) (u ∷ rest) none alone = and_from (not (has_return t)) (returns_last_alone (u ∷ rest)) (ap not (none t refl)) alone

  -- a body in which no `return` strays is made one that returns with its last statement alone
  pub body_alone : (body : List NamedStmt) → strays body ≡ [] → (env : Environment) →
      returns_last_alone (in_order (map (walked_stmt constants vars) body) env).made ≡ true
  body_alone [] none env = refl
  body_alone (s ∷ []) none env =
      one_alone (walked_stmt constants vars s env).made (last_by s env (named_is_return s) refl (first_empty (stray false s) [] none))
  body_alone (s ∷ t ∷ rest) none env =
      front_alone (walked_stmt constants vars s env).made (in_order (map (walked_stmt constants vars) (t ∷ rest)) (walked_stmt constants vars s env).env).made
      (statement_none constants vars s (first_empty (strays_in s) (strays (t ∷ rest)) none) env)
      (body_alone (t ∷ rest) (second_empty (strays_in s) (strays (t ∷ rest)) none) (walked_stmt constants vars s env).env)
