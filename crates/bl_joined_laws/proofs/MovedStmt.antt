-- What tokens of a text spell, the moved tokens spell in the whole, with moved places: statements.
use Rattle.std.proofs.Common.{◌≡◌, ℕ, ◌+◌, Bool, List, [], ◌∷◌, ◌++◌, map, refl, ap, sym, ◌∙◌, arith}
use Rattle.std.specs.Prelude.{Option, None, option_map}
use Rattle.bl_tree.specs.declared.token.Keyword.{Keyword}
use Rattle.bl_tree.specs.declared.place.Place.{Place}
use Rattle.bl_tree.specs.declared.token.Token.{Token}
use Rattle.bl_tree.specs.declared.tree.Guard.{Guard}
use Rattle.bl_parse_tree.specs.declared.expr.RawExpr.{RawExpr}
use Rattle.bl_parse_tree.specs.declared.stmt.RawArm.{RawArm}
use Rattle.bl_parse_tree.specs.declared.stmt.RawBranch.{RawBranch}
use Rattle.bl_parse_tree.specs.declared.stmt.RawConstant.{RawConstant}
use Rattle.bl_parse_tree.specs.declared.stmt.RawPath.{RawPath}
use Rattle.bl_parse_tree.specs.declared.stmt.RawStmt.{RawStmt, roll-RawStmt}
use Rattle.bl_parse_tree.specs.declared.stmt.RawStmtKind.{RawStmtKind}
use Rattle.bl_parse_tree.specs.declared.types.RawType.{RawType}
use Rattle.bl_parse.specs.At.{span}
use Rattle.bl_parse.specs.Expressions.{SpellsExpr}
use Rattle.bl_parse.specs.Statements.{SpellsTyping, SpellsMaybeTyping, SpellsValue, SpellsInitial, SpellsConstant, SpellsReceiver, SpellsGuard, SpellsWeak}
use Rattle.bl_parse.specs.Statements.{SpellsStmt, SpellsKind, SpellsBlock, SpellsArm, SpellsArms, SpellsElse, SpellsBranch, SpellsBranches}
use Rattle.bl_joined.specs.Texts.{moved_place}
use Rattle.bl_joined.specs.Trees.{placed_type, placed_expr, placed_path, placed_constant, placed_stmt}
use Rattle.bl_joined_laws.proofs.Made.{done, armed, branched, stmt_is, var_is, let_is, constant_is, assign_is, call_stmt_is, await_is, run_is, if_is}
use Rattle.bl_joined_laws.proofs.Made.{cobegin_is, when_is, repeat_is, until_is, while_is, return_is, arm_is, branch_is}
use Rattle.bl_joined_laws.proofs.Moved.{Stands, mapped_more, name, span_there, stay, takes}
use Rattle.bl_joined_laws.proofs.MovedExpr.{expression, inputs, outputs, path, place, ty}
use Rattle.bl_joined_laws.proofs.Reach.{Filled, expr_filled, kind, stmt_filled, taken, target_filled}

module _ {text whole : List ℕ} {tokens all : List Token} {n d : ℕ} (h : Stands text whole tokens all n d) where
  abbrev f : Place → Place
  f = moved_place n

  -- ---- parts of statements

  pub typing : {t : RawType} {from to : ℕ} → SpellsTyping text tokens t from to → SpellsTyping whole all (placed_type f t) (d + from) (d + to)
  typing s = record { m = _; sign = takes h s.sign; ty_at = ty h s.ty_at }

  maybe_typing : {t : Option RawType} {from to : ℕ} → SpellsMaybeTyping text tokens t from to →
      SpellsMaybeTyping whole all (option_map (placed_type f) t) (d + from) (d + to)
  maybe_typing (SpellsMaybeTyping.absent nothing is) = SpellsMaybeTyping.absent (ap (option_map (placed_type f)) nothing) (stay h is)
  maybe_typing (SpellsMaybeTyping.written t is) = SpellsMaybeTyping.written (typing t) (ap (option_map (placed_type f)) is)

  value : {e : RawExpr} {from to : ℕ} → SpellsValue text tokens e from to → SpellsValue whole all (placed_expr f e) (d + from) (d + to)
  value s = record { m = _; sign = takes h s.sign; expr = expression h s.expr (span_there h (expr_filled s.expr)) }

  initial : {e : Option RawExpr} {from to : ℕ} → SpellsInitial text tokens e from to →
      SpellsInitial whole all (option_map (placed_expr f) e) (d + from) (d + to)
  initial (SpellsInitial.absent nothing is) = SpellsInitial.absent (ap (option_map (placed_expr f)) nothing) (stay h is)
  initial (SpellsInitial.given e is) = SpellsInitial.given (value e) (ap (option_map (placed_expr f)) is)

  pub constant : {one : RawConstant} {from to : ℕ} → SpellsConstant text tokens one from to →
      SpellsConstant whole all (placed_constant f one) (d + from) (d + to)
  constant s = record { m = _; n = _; o = _; word = takes h s.word; name = name h s.name; typing = maybe_typing s.typing; value = value s.value }

  receiver : {one : Option RawPath} {from to : ℕ} → SpellsReceiver text tokens one from to →
      SpellsReceiver whole all (option_map (placed_path f) one) (d + from) (d + to)
  receiver (SpellsReceiver.absent nothing is) = SpellsReceiver.absent (ap (option_map (placed_path f)) nothing) (stay h is)
  receiver (SpellsReceiver.given one assign is) = SpellsReceiver.given (path h one) (takes h assign) (ap (option_map (placed_path f)) is)

  guarding : {guard : Guard} {from to : ℕ} → SpellsGuard tokens guard from to → SpellsGuard all guard (d + from) (d + to)
  guarding s = record { word = s.word; token = takes h s.token; is = s.is }

  weakly : {weak : Bool} {from to : ℕ} → SpellsWeak tokens weak from to → SpellsWeak all weak (d + from) (d + to)
  weakly (SpellsWeak.strong off is) = SpellsWeak.strong off (stay h is)
  weakly (SpellsWeak.weak on w) = SpellsWeak.weak on (takes h w)

  -- ---- statements

  abbrev condition : {e : RawExpr} {from to : ℕ} → SpellsExpr text tokens 0 e from to → SpellsExpr whole all 0 (placed_expr f e) (d + from) (d + to)
  condition e = expression h e (span_there h (expr_filled e))

  mutual
    statement : {s : RawStmt} {from to : ℕ} → SpellsStmt text tokens s from to → SpellsStmt whole all (placed_stmt f s) (d + from) (d + to)
    statement (SpellsStmt.placed {what = what} does is) = SpellsStmt.placed (doing does)
        (ap (placed_stmt f) is ∙ stmt_is f _ what
        ∙ ap (λ (p : Place). roll-RawStmt (record { place = p; what = done f what })) (span_there h (kind does)))

    doing : {what : RawStmtKind} {from to : ℕ} → SpellsKind text tokens what from to → SpellsKind whole all (done f what) (d + from) (d + to)
    doing (SpellsKind.typed w one t e is) = SpellsKind.typed (takes h w) (name h one) (typing t) (initial e) (ap (done f) is ∙ var_is f _ _ _)
    doing (SpellsKind.inferred w one e is) = SpellsKind.inferred (takes h w) (name h one) (value e) (ap (done f) is ∙ var_is f _ _ _)
    doing (SpellsKind.fixed w one t e is) = SpellsKind.fixed (takes h w) (name h one) (maybe_typing t) (value e) (ap (done f) is ∙ let_is f _ _ _)
    doing (SpellsKind.constant c is) = SpellsKind.constant (constant c) (ap (done f) is ∙ constant_is f _)
    doing (SpellsKind.assign to e is) =
        SpellsKind.assign (place h to (span_there h (target_filled to))) (value e) (ap (done f) is ∙ assign_is f _ _)
    doing (SpellsKind.call one given taken is) = SpellsKind.call (name h one) (inputs h given) (outputs h taken) (ap (done f) is ∙ call_stmt_is f _ _ _)
    doing (SpellsKind.await w e is) = SpellsKind.await (takes h w) (condition e) (ap (done f) is ∙ await_is f _)
    doing (SpellsKind.run w to one given taken is) =
        SpellsKind.run (takes h w) (receiver to) (name h one) (inputs h given) (outputs h taken) (ap (done f) is ∙ run_is f _ _ _ _)
    doing (SpellsKind.cobegin w list ends is) = SpellsKind.cobegin (takes h w) (branches list) (takes h ends) (ap (done f) is ∙ cobegin_is f _)
    doing (SpellsKind.guarded w e guard body ends is) =
        SpellsKind.guarded (takes h w) (condition e) (guarding guard) (block body) (takes h ends) (ap (done f) is ∙ when_is f _ _ _)
    doing (SpellsKind.repeat w body ends is) = SpellsKind.repeat (takes h w) (block body) (takes h ends) (ap (done f) is ∙ repeat_is f _)
    doing (SpellsKind.until w body u e ends is) =
        SpellsKind.until (takes h w) (block body) (takes h u) (condition e) (takes h ends) (ap (done f) is ∙ until_is f _ _)
    doing (SpellsKind.while w e r body ends is) =
        SpellsKind.while (takes h w) (condition e) (takes h r) (block body) (takes h ends) (ap (done f) is ∙ while_is f _ _)
    doing (SpellsKind.branching list other ends is) =
        SpellsKind.branching (arms list) (otherwise other) (takes h ends) (ap (done f) is ∙ if_is f _ _)
    doing (SpellsKind.returns {from = from} w nothing is) =
        SpellsKind.returns (takes h w) (h.values from (taken w) ∙ nothing) (ap (done f) is ∙ return_is f None)
    doing (SpellsKind.returns_value {from = from} w on e is) =
        SpellsKind.returns_value (takes h w) (h.values from (taken w) ∙ on) (condition e) (ap (done f) is ∙ return_is f _)

    pub block : {body : List RawStmt} {from to : ℕ} → SpellsBlock text tokens body from to →
        SpellsBlock whole all (map (placed_stmt f) body) (d + from) (d + to)
    block (SpellsBlock.no_stmts nothing is) = SpellsBlock.no_stmts (ap (map (placed_stmt f)) nothing) (stay h is)
    block (SpellsBlock.more_stmts body s is) = SpellsBlock.more_stmts (block body) (statement s) (mapped_more (placed_stmt f) _ _ is)

    arm : {head : Keyword} {one : RawArm} {from to : ℕ} → SpellsArm text tokens head one from to → SpellsArm whole all head (armed f one) (d + from) (d + to)
    arm (SpellsArm.headed w e t body is) =
        SpellsArm.headed (takes h w) (condition e) (takes h t) (block body) (ap (armed f) is ∙ arm_is f _ _)

    arms : {list : List RawArm} {from to : ℕ} → SpellsArms text tokens list from to → SpellsArms whole all (map (armed f) list) (d + from) (d + to)
    arms (SpellsArms.first_arm one is) = SpellsArms.first_arm (arm one) (ap (map (armed f)) is)
    arms (SpellsArms.more_arms others one is) = SpellsArms.more_arms (arms others) (arm one) (mapped_more (armed f) _ _ is)

    otherwise : {other : List RawStmt} {from to : ℕ} → SpellsElse text tokens other from to →
        SpellsElse whole all (map (placed_stmt f) other) (d + from) (d + to)
    otherwise (SpellsElse.no_else nothing is) = SpellsElse.no_else (ap (map (placed_stmt f)) nothing) (stay h is)
    otherwise (SpellsElse.with_else w body) = SpellsElse.with_else (takes h w) (block body)

    branch : {one : RawBranch} {from to : ℕ} → SpellsBranch text tokens one from to → SpellsBranch whole all (branched f one) (d + from) (d + to)
    branch (SpellsBranch.branched may body is) = SpellsBranch.branched (weakly may) (block body) (ap (branched f) is ∙ branch_is f _ _)

    branches : {list : List RawBranch} {from to : ℕ} → SpellsBranches text tokens list from to →
        SpellsBranches whole all (map (branched f) list) (d + from) (d + to)
    branches (SpellsBranches.first_branch one is) = SpellsBranches.first_branch (branch one) (ap (map (branched f)) is)
    branches (SpellsBranches.more_branches others w one is) =
        SpellsBranches.more_branches (branches others) (takes h w) (branch one) (mapped_more (branched f) _ _ is)
