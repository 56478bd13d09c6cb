-- Induction over C expressions and C statements: one case for each kind, with what is known of the parts inside.
use Rattle.std.proofs.Common.{ℕ, ℤ, List, map, subst}
use Rattle.std.specs.Prelude.{All, Bool, Option, Some, None}
use Rattle.bl_tree.specs.declared.text.Text.{Text}
use Rattle.bl_tree.specs.declared.place.Place.{Place}
use Rattle.bl_tree.specs.declared.scalar.Op.{Op}
use Rattle.bl_tree.specs.declared.scalar.Scalar.{Scalar}
use Rattle.bl_tree.specs.declared.c.CArg.{CArg, roll-CArg}
use Rattle.bl_tree.specs.declared.c.CCall.{CCall, ind-CCall, roll-CCall}
use Rattle.bl_tree.specs.declared.c.CExpr.{CExpr, ind-CExpr, roll-CExpr}
use Rattle.bl_tree.specs.declared.c.CExprKind.{CExprKind, roll-CExprKind}
use Rattle.bl_tree.specs.declared.c.CIndex.{CIndex, roll-CIndex}
use Rattle.bl_tree.specs.declared.c.CPlace.{CPlace, ind-CPlace, roll-CPlace}
use Rattle.bl_tree.specs.declared.c.CStep.{CStep, roll-CStep}
use Rattle.bl_tree.specs.declared.c.CArg.TheOpen.{CArg-F, CExprKind-F, CStep-F}
use Rattle.bl_tree.specs.declared.c.CArg.TheFolds.{map-CArg, map-CExprKind, map-CStep}
use Rattle.bl_tree.specs.declared.c.CStmt.{CStmt, ind-CStmt, roll-CStmt}
use Rattle.bl_tree.specs.declared.c.CStmtKind.{CStmtKind, roll-CStmtKind}
use Rattle.bl_tree.specs.declared.c.CStmtKind.TheFolds.{map-CStmtKind}
use Rattle.bl_tree.specs.declared.c.CStmtKind.TheOpen.{CStmtKind-F}
use Rattle.bl_tree.proofs.StmtInduction.{each_such}

-- P of what may be there
abbrev pub Optional : {A : Type 0} → (A → Type 0) → Option A → Type 0
Optional P None = Unit {0}
Optional P (Some a) = P a

-- ---- expressions

module _ (A : CArg → Type 0) (K : CExprKind → Type 0) (C : CCall → Type 0) (E : CExpr → Type 0) (I : CIndex → Type 0) (P : CPlace → Type 0)
    (S : CStep → Type 0) where
  -- what shows the facts of every expression and its parts
  pub record ExprCases : Type 0 where
    pub value : (e : CExpr) → E e → A (roll-CArg (CArg-F.Value e))
    pub address : (p : CPlace) → P p → A (roll-CArg (CArg-F.Address p))
    pub literal : (t : Scalar) (n : ℤ) → K (roll-CExprKind (CExprKind-F.Literal t n))
    pub read : (p : CPlace) → P p → K (roll-CExprKind (CExprKind-F.Read p))
    pub call : (c : CCall) → C c → K (roll-CExprKind (CExprKind-F.Call c))
    pub negation : (e : CExpr) → E e → K (roll-CExprKind (CExprKind-F.Not e))
    pub two : (op : Op) (a b : CExpr) → E a → E b → K (roll-CExprKind (CExprKind-F.Two op a b))
    pub calling : (name : Text) (args : List CArg) → All A args → C (roll-CCall (record { name = name; args = args }))
    pub expr : (place : Place) (what : CExprKind) → K what → E (roll-CExpr (record { place = place; what = what }))
    pub index : (signed : Bool) (at : CExpr) (length : ℕ) → E at → I (roll-CIndex (record { signed = signed; at = at; length = length }))
    pub place : (through : Bool) (name : Text) (steps : List CStep) → All S steps →
        P (roll-CPlace (record { through = through; name = name; steps = steps }))
    pub step : (member : Text) (index : Option CIndex) → Optional I index → S (roll-CStep (record { member = member; index = index }))

  module _ (cases : ExprCases) where
    abbrev Args : Type 0
    Args = (x : CArg) × A x

    abbrev Kinds : Type 0
    Kinds = (x : CExprKind) × K x

    abbrev Calls : Type 0
    Calls = (x : CCall) × C x

    abbrev Exprs : Type 0
    Exprs = (x : CExpr) × E x

    abbrev Indices : Type 0
    Indices = (x : CIndex) × I x

    abbrev Places : Type 0
    Places = (x : CPlace) × P x

    abbrev Steps : Type 0
    Steps = (x : CStep) × S x

    abbrev plain_arg : CArg-F Args Kinds Calls Exprs Indices Places Steps → CArg-F CArg CExprKind CCall CExpr CIndex CPlace CStep
    plain_arg = map-CArg Args Kinds Calls Exprs Indices Places Steps CArg CExprKind CCall CExpr CIndex CPlace CStep
        (λ e. e.0) (λ e. e.0) (λ e. e.0) (λ e. e.0) (λ e. e.0) (λ e. e.0) (λ e. e.0)

    abbrev plain_kind : CExprKind-F Args Kinds Calls Exprs Indices Places Steps → CExprKind-F CArg CExprKind CCall CExpr CIndex CPlace CStep
    plain_kind = map-CExprKind Args Kinds Calls Exprs Indices Places Steps CArg CExprKind CCall CExpr CIndex CPlace CStep
        (λ e. e.0) (λ e. e.0) (λ e. e.0) (λ e. e.0) (λ e. e.0) (λ e. e.0) (λ e. e.0)

    by_arg : (y : CArg-F Args Kinds Calls Exprs Indices Places Steps) → A (roll-CArg (plain_arg y))
    by_arg (CArg-F.Value e) = cases.value e.0 e.1
    by_arg (CArg-F.Address p) = cases.address p.0 p.1

    by_kind : (y : CExprKind-F Args Kinds Calls Exprs Indices Places Steps) → K (roll-CExprKind (plain_kind y))
    by_kind (CExprKind-F.Literal t n) = cases.literal t n
    by_kind (CExprKind-F.Read p) = cases.read p.0 p.1
    by_kind (CExprKind-F.Call c) = cases.call c.0 c.1
    by_kind (CExprKind-F.Not e) = cases.negation _ e.1
    by_kind (CExprKind-F.Two op a b) = cases.two op _ _ a.1 b.1

    abbrev plain_step : CStep-F Args Kinds Calls Exprs Indices Places Steps → CStep-F CArg CExprKind CCall CExpr CIndex CPlace CStep
    plain_step = map-CStep Args Kinds Calls Exprs Indices Places Steps CArg CExprKind CCall CExpr CIndex CPlace CStep
        (λ e. e.0) (λ e. e.0) (λ e. e.0) (λ e. e.0) (λ e. e.0) (λ e. e.0) (λ e. e.0)

    by_step : (member : Text) (index : Option Indices) → S (roll-CStep (plain_step (record { member = member; index = index })))
    by_step member None = cases.step member None tt
    by_step member (Some i) = cases.step member (Some i.0) i.1

    -- every expression
    pub induct_expr : (e : CExpr) → E e
    induct_expr =
        ind-CExpr A K C E I P S
        (λ x y is. subst (λ layer. A (roll-CArg layer)) is (by_arg y))
        (λ x y is. subst (λ layer. K (roll-CExprKind layer)) is (by_kind y))
        (λ x y is. subst (λ layer. C (roll-CCall layer)) is (cases.calling y.name _ (each_such A y.args)))
        (λ x y is. subst (λ layer. E (roll-CExpr layer)) is (cases.expr y.place y.what.0 y.what.1))
        (λ x y is. subst (λ layer. I (roll-CIndex layer)) is (cases.index y.signed y.at.0 y.length y.at.1))
        (λ x y is. subst (λ layer. P (roll-CPlace layer)) is (cases.place y.through y.name _ (each_such S y.steps)))
        (λ x y is. subst (λ layer. S (roll-CStep layer)) is (by_step y.member y.index))

    -- every place
    pub induct_place : (p : CPlace) → P p
    induct_place =
        ind-CPlace A K C E I P S
        (λ x y is. subst (λ layer. A (roll-CArg layer)) is (by_arg y))
        (λ x y is. subst (λ layer. K (roll-CExprKind layer)) is (by_kind y))
        (λ x y is. subst (λ layer. C (roll-CCall layer)) is (cases.calling y.name _ (each_such A y.args)))
        (λ x y is. subst (λ layer. E (roll-CExpr layer)) is (cases.expr y.place y.what.0 y.what.1))
        (λ x y is. subst (λ layer. I (roll-CIndex layer)) is (cases.index y.signed y.at.0 y.length y.at.1))
        (λ x y is. subst (λ layer. P (roll-CPlace layer)) is (cases.place y.through y.name _ (each_such S y.steps)))
        (λ x y is. subst (λ layer. S (roll-CStep layer)) is (by_step y.member y.index))

    -- every call
    pub induct_call : (c : CCall) → C c
    induct_call =
        ind-CCall A K C E I P S
        (λ x y is. subst (λ layer. A (roll-CArg layer)) is (by_arg y))
        (λ x y is. subst (λ layer. K (roll-CExprKind layer)) is (by_kind y))
        (λ x y is. subst (λ layer. C (roll-CCall layer)) is (cases.calling y.name _ (each_such A y.args)))
        (λ x y is. subst (λ layer. E (roll-CExpr layer)) is (cases.expr y.place y.what.0 y.what.1))
        (λ x y is. subst (λ layer. I (roll-CIndex layer)) is (cases.index y.signed y.at.0 y.length y.at.1))
        (λ x y is. subst (λ layer. P (roll-CPlace layer)) is (cases.place y.through y.name _ (each_such S y.steps)))
        (λ x y is. subst (λ layer. S (roll-CStep layer)) is (by_step y.member y.index))

-- ---- statements

-- a statement by its place and its kind's parts
abbrev pub stmt : Place → CStmtKind-F CStmtKind CStmt → CStmt
stmt place layer = roll-CStmt (record { place = place; what = roll-CStmtKind layer })

-- what shows P of every statement
pub record StmtCases (P : CStmt → Type 0) : Type 0 where
  pub set : (at : Place) (p : CPlace) (e : CExpr) → P (stmt at (CStmtKind-F.Set p e))
  pub clear : (at : Place) (p : CPlace) (name : Text) → P (stmt at (CStmtKind-F.Clear p name))
  pub call : (at : Place) (c : CCall) → P (stmt at (CStmtKind-F.Call c))
  pub branching : (at : Place) (e : CExpr) (block : List CStmt) (other : Option (List CStmt)) → All P block → Optional (All P) other →
      P (stmt at (CStmtKind-F.If e block other))
  pub loop : (at : Place) (turn : Text) (e : CExpr) (body : List CStmt) → All P body → P (stmt at (CStmtKind-F.Loop turn e body))
  pub break : (at : Place) → P (stmt at CStmtKind-F.Break)
  pub returns : (at : Place) (e : Option CExpr) → P (stmt at (CStmtKind-F.Return e))

module _ (P : CStmt → Type 0) (cases : StmtCases P) where
  abbrev OfKind : CStmtKind → Type 0
  OfKind kind = (at : Place) → P (roll-CStmt (record { place = at; what = kind }))

  abbrev Shown : Type 0
  Shown = CStmtKind-F ((kind : CStmtKind) × OfKind kind) ((s : CStmt) × P s)

  abbrev plain : Shown → CStmtKind-F CStmtKind CStmt
  plain = map-CStmtKind ((kind : CStmtKind) × OfKind kind) ((s : CStmt) × P s) CStmtKind CStmt (λ e. e.0) (λ e. e.0)

  by_stmt_kind : (at : Place) (shown : Shown) → P (stmt at (plain shown))
  by_stmt_kind at (CStmtKind-F.Set p e) = cases.set at p e
  by_stmt_kind at (CStmtKind-F.Clear p name) = cases.clear at p name
  by_stmt_kind at (CStmtKind-F.Call c) = cases.call at c
  by_stmt_kind at (CStmtKind-F.If e block None) = cases.branching at e _ None (each_such P block) tt
  by_stmt_kind at (CStmtKind-F.If e block (Some other)) = cases.branching at e _ (Some (map (λ s. s.0) other)) (each_such P block) (each_such P other)
  by_stmt_kind at (CStmtKind-F.Loop turn e body) = cases.loop at turn e _ (each_such P body)
  by_stmt_kind at CStmtKind-F.Break = cases.break at
  by_stmt_kind at (CStmtKind-F.Return e) = cases.returns at e

  -- every statement has P where the cases show it
  pub induct_stmt : (s : CStmt) → P s
  induct_stmt =
      ind-CStmt OfKind P
      (λ x y is at. subst (λ layer. P (stmt at layer)) is (by_stmt_kind at y))
      (λ x y is. subst (λ layer. P (roll-CStmt layer)) is (y.what.1 y.place))
