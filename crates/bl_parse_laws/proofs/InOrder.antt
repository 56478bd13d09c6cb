-- Statements and the conditions of loops begin one after another in a tree that is spelled.
use Rattle.std.proofs.Common.{◌≡◌, ℕ, ◌+◌, ◌≤◌, Bool, true, List, [], ◌∷◌, ◌++◌, map, refl, ap, sym, ◌∙◌, subst, arith}
use Rattle.std.specs.Prelude.{Option}
use Rattle.bl_tree.specs.declared.token.Keyword.{Keyword}
use Rattle.bl_tree.specs.declared.place.Place.{Place}
use Rattle.bl_tree.specs.declared.token.Token.{Token}
use Rattle.bl_tree.specs.declared.tree.Guard.{Guard}
use Rattle.bl_tree.specs.Reduce.{joined}
use Rattle.bl_lex.specs.Tokens.{Lexes}
use Rattle.bl_parse_tree.specs.declared.expr.RawExpr.{RawExpr, out-roll-RawExpr}
use Rattle.bl_parse_tree.specs.declared.expr.RawExprKind.{RawExprKind}
use Rattle.bl_parse_tree.specs.declared.expr.RawTarget.{RawTarget}
use Rattle.bl_parse_tree.specs.declared.item.RawItem.{RawItem}
use Rattle.bl_parse_tree.specs.declared.item.RawUnit.{RawUnit}
use Rattle.bl_parse_tree.specs.declared.name.Name.{Name}
use Rattle.bl_parse_tree.specs.declared.raw.Raw.{Raw}
use Rattle.bl_parse_tree.specs.declared.stmt.RawArm.{RawArm, fold-RawArm, fold-roll-RawArm, roll-RawArm}
use Rattle.bl_parse_tree.specs.declared.stmt.RawBranch.{RawBranch, fold-RawBranch, fold-roll-RawBranch, roll-RawBranch}
use Rattle.bl_parse_tree.specs.declared.stmt.RawConstant.{RawConstant}
use Rattle.bl_parse_tree.specs.declared.stmt.RawPath.{RawPath}
use Rattle.bl_parse_tree.specs.declared.stmt.RawStmt.{RawStmt, fold-roll-RawStmt, roll-RawStmt}
use Rattle.bl_parse_tree.specs.declared.stmt.RawStmtKind.{RawStmtKind, fold-RawStmtKind, fold-roll-RawStmtKind}
use Rattle.bl_parse_tree.specs.declared.stmt.RawStmtKind as kind
use Rattle.bl_parse_tree.specs.declared.stmt.RawStmtKind.TheVariants.{rolls-Var, rolls-Let, rolls-Const, rolls-Assign, rolls-Call, rolls-Await, rolls-Run}
use Rattle.bl_parse_tree.specs.declared.stmt.RawStmtKind.TheVariants.{rolls-If, rolls-Cobegin, rolls-When, rolls-Repeat, rolls-Until, rolls-While, rolls-Return}
use Rattle.bl_parse_tree.specs.declared.types.RawType.{RawType}
use Rattle.bl_parse_tree.specs.Starts.{RawStartOffsets, start_of, stmt_kind_starts, arm_starts, branch_starts, stmt_layer_starts, starts_of, item_starts, all_starts, ascends}
use Rattle.bl_parse.specs.At.{span, start_at}
use Rattle.bl_parse.specs.Expressions.{expr, SpellsExpr}
use Rattle.bl_parse.specs.Programs.{SpellsUnit, SpellsItem, SpellsItems, Spells}
use Rattle.bl_parse.specs.Statements.{SpellsStmt, SpellsKind, SpellsBlock, SpellsArm, SpellsArms, SpellsElse, SpellsBranch, SpellsBranches}
use Rattle.bl_parse_laws.proofs.Level as level
use Rattle.bl_parse_laws.proofs.Rising.{Rising, Rise, earlier, later, join, none_rise, more_rise, one_rises, rising_ascends}

-- where what stands in a statement begins
abbrev kind_starts : RawStmtKind → RawStartOffsets
kind_starts = fold-RawStmtKind RawStartOffsets RawStartOffsets RawStartOffsets RawStartOffsets stmt_kind_starts arm_starts branch_starts stmt_layer_starts

abbrev one_arm_starts : RawArm → RawStartOffsets
one_arm_starts = fold-RawArm RawStartOffsets RawStartOffsets RawStartOffsets RawStartOffsets stmt_kind_starts arm_starts branch_starts stmt_layer_starts

abbrev one_branch_starts : RawBranch → RawStartOffsets
one_branch_starts = fold-RawBranch RawStartOffsets RawStartOffsets RawStartOffsets RawStartOffsets stmt_kind_starts arm_starts branch_starts stmt_layer_starts

-- ---- the starts in what is made

stmt_is : (at : Place) (what : RawStmtKind) → starts_of (roll-RawStmt (record { place = at; what = what })) ≡ at.start ∷ kind_starts what
stmt_is at what = rw fold-roll-RawStmt refl

var_is : (n : Name) (t : Option RawType) (value : Option RawExpr) → kind_starts (kind.Var n t value) ≡ []
var_is n t value = ap kind_starts (sym (rolls-Var n t value)) ∙ rw fold-roll-RawStmtKind refl

let_is : (n : Name) (t : Option RawType) (value : RawExpr) → kind_starts (kind.Let n t value) ≡ []
let_is n t value = ap kind_starts (sym (rolls-Let n t value)) ∙ rw fold-roll-RawStmtKind refl

constant_is : (one : RawConstant) → kind_starts (kind.Const one) ≡ []
constant_is one = ap kind_starts (sym (rolls-Const one)) ∙ rw fold-roll-RawStmtKind refl

assign_is : (to : RawTarget) (e : RawExpr) → kind_starts (kind.Assign to e) ≡ []
assign_is to e = ap kind_starts (sym (rolls-Assign to e)) ∙ rw fold-roll-RawStmtKind refl

call_is : (f : Name) (given : List RawExpr) (taken : List RawPath) → kind_starts (kind.Call f given taken) ≡ []
call_is f given taken = ap kind_starts (sym (rolls-Call f given taken)) ∙ rw fold-roll-RawStmtKind refl

await_is : (e : RawExpr) → kind_starts (kind.Await e) ≡ []
await_is e = ap kind_starts (sym (rolls-Await e)) ∙ rw fold-roll-RawStmtKind refl

run_is : (to : Option RawPath) (a : Name) (given : List RawExpr) (taken : List RawPath) → kind_starts (kind.Run to a given taken) ≡ []
run_is to a given taken = ap kind_starts (sym (rolls-Run to a given taken)) ∙ rw fold-roll-RawStmtKind refl

if_is : (arms : List RawArm) (other : List RawStmt) → kind_starts (kind.If arms other) ≡ joined (map one_arm_starts arms) ++ joined (map starts_of other)
if_is arms other = ap kind_starts (sym (rolls-If arms other)) ∙ rw fold-roll-RawStmtKind refl

cobegin_is : (branches : List RawBranch) → kind_starts (kind.Cobegin branches) ≡ joined (map one_branch_starts branches)
cobegin_is branches = ap kind_starts (sym (rolls-Cobegin branches)) ∙ rw fold-roll-RawStmtKind refl

when_is : (guard : Guard) (e : RawExpr) (body : List RawStmt) → kind_starts (kind.When guard e body) ≡ joined (map starts_of body)
when_is guard e body = ap kind_starts (sym (rolls-When guard e body)) ∙ rw fold-roll-RawStmtKind refl

repeat_is : (body : List RawStmt) → kind_starts (kind.Repeat body) ≡ joined (map starts_of body)
repeat_is body = ap kind_starts (sym (rolls-Repeat body)) ∙ rw fold-roll-RawStmtKind refl

until_is : (body : List RawStmt) (e : RawExpr) → kind_starts (kind.Until body e) ≡ joined (map starts_of body) ++ start_of e ∷ []
until_is body e = ap kind_starts (sym (rolls-Until body e)) ∙ rw fold-roll-RawStmtKind refl

while_is : (e : RawExpr) (body : List RawStmt) → kind_starts (kind.While e body) ≡ start_of e ∷ joined (map starts_of body)
while_is e body = ap kind_starts (sym (rolls-While e body)) ∙ rw fold-roll-RawStmtKind refl

return_is : (e : Option RawExpr) → kind_starts (kind.Return e) ≡ []
return_is e = ap kind_starts (sym (rolls-Return e)) ∙ rw fold-roll-RawStmtKind refl

arm_is : (e : RawExpr) (body : List RawStmt) → one_arm_starts (roll-RawArm (record { test = e; body = body })) ≡ joined (map starts_of body)
arm_is e body = rw fold-roll-RawArm refl

branch_is : (weak : Bool) (body : List RawStmt) → one_branch_starts (roll-RawBranch (record { weak = weak; body = body })) ≡ joined (map starts_of body)
branch_is weak body = rw fold-roll-RawBranch refl

expr_is : (at : Place) (what : RawExprKind) → start_of (expr at what) ≡ at.start
expr_is at what = ap (λ layer. layer.place.start) (out-roll-RawExpr (record { place = at; what = what }))

same : {tokens : List Token} {xs ys : RawStartOffsets} {from to : ℕ} → xs ≡ ys → Rising tokens ys from to → Rising tokens xs from to
same {tokens} {from = from} {to = to} is h = subst (λ zs. Rising tokens zs from to) (sym is) h

nothing : {tokens : List Token} {xs : RawStartOffsets} {from to : ℕ} → xs ≡ [] → from ≤ to → Rising tokens xs from to
nothing is le = same is (Rising.over le)

-- the expression begins where one of its tokens does
record Begins (tokens : List Token) (e : RawExpr) (from to : ℕ) : Type 0 where
  pub at : ℕ
  pub behind : from ≤ at
  pub within : at ≤ to
  pub is : start_of e ≡ start_at tokens at

at_first : {tokens : List Token} {e : RawExpr} {what : RawExprKind} {from to : ℕ} → from ≤ to →
    e ≡ expr (span tokens from to) what → Begins tokens e from to
at_first {tokens} {what = what} {from = from} {to = to} moves is =
    record { at = from; behind = omega arith; within = moves; is = ap start_of is ∙ expr_is (span tokens from to) what }

module _ {text : List ℕ} {tokens : List Token} where
  begins : {level : ℕ} {e : RawExpr} {from to : ℕ} → SpellsExpr text tokens level e from to → Begins tokens e from to
  begins (SpellsExpr.two le a op b is) = at_first (omega (arith, (level.expression a).moves, op.token.next, (level.expression b).moves)) is
  begins (SpellsExpr.cast le a word s is) = at_first (omega (arith, (level.expression a).moves, word.next, s.token.next)) is
  begins (SpellsExpr.negative le minus n is) = at_first (omega (arith, minus.next, n.next)) is
  begins (SpellsExpr.one le op no_number a is) = at_first (omega (arith, op.token.next, (level.expression a).moves)) is
  begins (SpellsExpr.number n is) = at_first (omega (arith, n.next)) is
  begins (SpellsExpr.truth t is) = at_first (omega (arith, t.token.next)) is
  begins (SpellsExpr.before word n is) = at_first (omega (arith, word.next, n.token.next)) is
  begins (SpellsExpr.read from is) = at_first (level.target from).moves is
  begins (SpellsExpr.call n given after is) = at_first (omega (arith, n.token.next, (level.inputs given).moves, (level.none after).moves)) is
  begins (SpellsExpr.parentheses opens e closes) = let inner = begins e in
      record { at = inner.at; behind = omega (arith, opens.next, inner.behind); within = omega (arith, closes.next, inner.within); is = inner.is }

  -- ---- statements

  mutual
    statement : {s : RawStmt} {from to : ℕ} → SpellsStmt text tokens s from to → Rising tokens (starts_of s) from to
    statement (SpellsStmt.placed what is) = same (ap starts_of is ∙ stmt_is _ _) (Rising.next (omega arith) refl (says what))

    says : {what : RawStmtKind} {from to : ℕ} → SpellsKind text tokens what from to → Rising tokens (kind_starts what) (from + 1) to
    says (SpellsKind.typed w n t e is) = nothing (ap kind_starts is ∙ var_is _ _ _)
        (omega (arith, w.next, n.token.next, (level.typing t).moves, (level.initial e).moves))
    says (SpellsKind.inferred w n e is) = nothing (ap kind_starts is ∙ var_is _ _ _) (omega (arith, w.next, n.token.next, (level.value e).moves))
    says (SpellsKind.fixed w n t e is) = nothing (ap kind_starts is ∙ let_is _ _ _)
        (omega (arith, w.next, n.token.next, (level.maybe_typing t).moves, (level.value e).moves))
    says (SpellsKind.constant c is) = nothing (ap kind_starts is ∙ constant_is _)
        (omega (arith, c.word.next, c.name.token.next, (level.maybe_typing c.typing).moves, (level.value c.value).moves))
    says (SpellsKind.assign to e is) = nothing (ap kind_starts is ∙ assign_is _ _)
        (omega (arith, (level.target to).moves, e.sign.next, (level.expression e.expr).moves))
    says (SpellsKind.call n given taken is) = nothing (ap kind_starts is ∙ call_is _ _ _)
        (omega (arith, n.token.next, (level.inputs given).moves, (level.outputs taken).moves))
    says (SpellsKind.await w e is) = nothing (ap kind_starts is ∙ await_is _) (omega (arith, w.next, (level.expression e).moves))
    says (SpellsKind.run w to n given taken is) = nothing (ap kind_starts is ∙ run_is _ _ _ _)
        (omega (arith, w.next, (level.receiver to).moves, n.token.next, (level.inputs given).moves, (level.outputs taken).moves))
    says (SpellsKind.cobegin w branches ends is) = same (ap kind_starts is ∙ cobegin_is _)
        (earlier (omega (arith, w.next)) (later (omega (arith, ends.next)) (each_branch branches).rising))
    says (SpellsKind.guarded w e guard body ends is) = same (ap kind_starts is ∙ when_is _ _ _)
        (earlier (omega (arith, w.next, (level.expression e).moves, guard.token.next)) (later (omega (arith, ends.next)) (block body).rising))
    says (SpellsKind.repeat w body ends is) = same (ap kind_starts is ∙ repeat_is _)
        (earlier (omega (arith, w.next)) (later (omega (arith, ends.next)) (block body).rising))
    says (SpellsKind.until w body u e ends is) = let b = begins e in
        same (ap kind_starts is ∙ until_is _ _) (earlier (omega (arith, w.next)) (join (block body).rising
        (Rising.next (omega (arith, u.next, b.behind)) b.is (Rising.over (omega (arith, b.within, ends.next))))))
    says (SpellsKind.while w e r body ends is) = let b = begins e in
        same (ap kind_starts is ∙ while_is _ _) (Rising.next (omega (arith, w.next, b.behind)) b.is
        (earlier (omega (arith, b.within, r.next)) (later (omega (arith, ends.next)) (block body).rising)))
    says (SpellsKind.branching arms other ends is) = same (ap kind_starts is ∙ if_is _ _)
        (later (omega (arith, ends.next)) (join (each_arm arms).rising (otherwise other).rising))
    says (SpellsKind.returns w none is) = nothing (ap kind_starts is ∙ return_is _) (omega (arith, w.next))
    says (SpellsKind.returns_value w on e is) = nothing (ap kind_starts is ∙ return_is _) (omega (arith, w.next, (level.expression e).moves))

    block : {body : List RawStmt} {from to : ℕ} → SpellsBlock text tokens body from to → Rise starts_of tokens body from to
    block (SpellsBlock.no_stmts none is) = none_rise starts_of none (omega (arith, is))
    block (SpellsBlock.more_stmts body s is) = more_rise starts_of _ (block body) (statement s) is

    -- an arm begins with a keyword
    arm : {head : Keyword} {one : RawArm} {from to : ℕ} → SpellsArm text tokens head one from to → Rising tokens (one_arm_starts one) (from + 1) to
    arm (SpellsArm.headed w e t body is) = same (ap one_arm_starts is ∙ arm_is _ _)
        (earlier (omega (arith, w.next, (level.expression e).moves, t.next)) (block body).rising)

    each_arm : {arms : List RawArm} {from to : ℕ} → SpellsArms text tokens arms from to → Rise one_arm_starts tokens arms (from + 1) to
    each_arm (SpellsArms.first_arm one is) = one_rises one_arm_starts _ (arm one) is
    each_arm (SpellsArms.more_arms arms one is) = more_rise one_arm_starts _ (each_arm arms) (earlier (omega arith) (arm one)) is

    otherwise : {other : List RawStmt} {from to : ℕ} → SpellsElse text tokens other from to → Rise starts_of tokens other from to
    otherwise (SpellsElse.no_else none is) = none_rise starts_of none (omega (arith, is))
    otherwise (SpellsElse.with_else w body) = record { rising = earlier (omega (arith, w.next)) (block body).rising }

    branch : {one : RawBranch} {from to : ℕ} → SpellsBranch text tokens one from to → Rising tokens (one_branch_starts one) from to
    branch (SpellsBranch.branched may body is) = same (ap one_branch_starts is ∙ branch_is _ _) (earlier (level.weakly may).moves (block body).rising)

    each_branch : {branches : List RawBranch} {from to : ℕ} → SpellsBranches text tokens branches from to → Rise one_branch_starts tokens branches from to
    each_branch (SpellsBranches.first_branch one is) = one_rises one_branch_starts _ (branch one) is
    each_branch (SpellsBranches.more_branches branches w one is) =
        more_rise one_branch_starts _ (each_branch branches) (earlier (omega (arith, w.next)) (branch one)) is

  -- ---- items

  unit : {one : RawUnit} {from to : ℕ} → SpellsUnit text tokens one from to → Rising tokens (joined (map starts_of one.body)) from to
  unit h = earlier (omega (
    arith,
    (level.mark h.mark).moves,
    h.kind.token.next,
    h.name.token.next,
    (level.params h.inputs).moves,
    (level.output_params h.outputs).moves,
    (level.result h.result).moves,
  ))
      (later (omega (arith, h.end.next)) (block h.body).rising)

  item : {one : RawItem} {from to : ℕ} → SpellsItem text tokens one from to → Rising tokens (item_starts one) from to
  item (SpellsItem.structure def is) = nothing (ap item_starts is) (level.structure def).moves
  item (SpellsItem.constant c is) = nothing (ap item_starts is) (level.constant c).moves
  item (SpellsItem.unit u is) = same (ap item_starts is) (unit u)

  items : {all : List RawItem} {from to : ℕ} → SpellsItems text tokens all from to → Rise item_starts tokens all from to
  items (SpellsItems.none none is) = none_rise item_starts none (omega (arith, is))
  items (SpellsItems.more others one is) = more_rise item_starts _ (items others) (item one) is

pub starts_ascend : (text : List ℕ) (tokens : List Token) (raw : Raw) → Lexes text tokens → Spells text tokens raw →
    ascends (all_starts raw.items) ≡ true
starts_ascend text tokens raw lexes h = rising_ascends text tokens lexes (items h.items).rising (omega arith)
