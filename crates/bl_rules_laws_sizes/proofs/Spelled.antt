-- A tree that tokens spell has at most as many parts as there are tokens, and there are at most as many of these as bytes.
use Rattle.std.proofs.Common.{◌≡◌, ℕ, zero, suc, ◌+◌, ◌≤◌, ◌<◌, Bool, List, [], ◌∷◌, ◌++◌, map, length, get_or, refl, ap, sym, ◌∙◌, subst, arith}
use Rattle.std.proofs.lemmas.List.{length_push}
use Rattle.std.specs.Prelude.{Option}
use Rattle.bl_tree.proofs.Basics.{map_push}
use Rattle.bl_tree.specs.declared.place.Place.{Place}
use Rattle.bl_tree.specs.declared.token.Keyword.{Keyword}
use Rattle.bl_tree.specs.declared.token.Token.{Token}
use Rattle.bl_tree.specs.declared.tree.Guard.{Guard}
use Rattle.bl_tree.specs.Reduce.{total}
use Rattle.bl_tree.proofs.ReduceLemmas.{total-append}
use Rattle.bl_lex.specs.Tokens.{Lexes}
use Rattle.bl_lex.proofs.RuleLaws.{tokens_inside, tokens_in_order}
use Rattle.bl_parse_tree.specs.declared.expr.RawExpr.{RawExpr}
use Rattle.bl_parse_tree.specs.declared.expr.RawTarget.{RawTarget}
use Rattle.bl_parse_tree.specs.declared.item.RawItem.{RawItem}
use Rattle.bl_parse_tree.specs.declared.item.RawParam.{RawParam}
use Rattle.bl_parse_tree.specs.declared.item.RawUnit.{RawUnit}
use Rattle.bl_parse_tree.specs.declared.name.Name.{Name}
use Rattle.bl_parse_tree.specs.declared.raw.Raw.{Raw}
use Rattle.bl_parse_tree.specs.declared.stmt.RawArm.{RawArm, fold-roll-RawArm, roll-RawArm}
use Rattle.bl_parse_tree.specs.declared.stmt.RawBranch.{RawBranch, fold-roll-RawBranch, roll-RawBranch}
use Rattle.bl_parse_tree.specs.declared.stmt.RawConstant.{RawConstant}
use Rattle.bl_parse_tree.specs.declared.stmt.RawPath.{RawPath}
use Rattle.bl_parse_tree.specs.declared.stmt.RawStmt.{RawStmt, fold-roll-RawStmt, roll-RawStmt}
use Rattle.bl_parse_tree.specs.declared.stmt.RawStmtKind.{RawStmtKind, fold-roll-RawStmtKind}
use Rattle.bl_parse_tree.specs.declared.stmt.RawStmtKind as kind
use Rattle.bl_parse_tree.specs.declared.stmt.RawStmtKind.TheVariants.{rolls-Var, rolls-Let, rolls-Const, rolls-Assign, rolls-Call, rolls-Await, rolls-Run}
use Rattle.bl_parse_tree.specs.declared.stmt.RawStmtKind.TheVariants.{rolls-If, rolls-Cobegin, rolls-When, rolls-Repeat, rolls-Until, rolls-While, rolls-Return}
use Rattle.bl_parse_tree.specs.declared.types.RawType.{RawType}
use Rattle.bl_parse.specs.Programs.{SpellsItem, SpellsItems, SpellsOutputParams, SpellsParam, SpellsParamList, SpellsParams, SpellsUnit, Spells}
use Rattle.bl_parse.specs.Statements.{SpellsStmt, SpellsKind, SpellsBlock, SpellsArm, SpellsArms, SpellsElse, SpellsBranch, SpellsBranches}
use Rattle.bl_parse_laws.proofs.Level as level
use Rattle.bl_rules_laws_sizes.specs.Parts.{parts_of_stmt, parts_of_items, parts_of_item, parts_of_unit}
use Rattle.bl_rules_laws_sizes.proofs.Naming.{parts_of_raw_kind, parts_of_raw_arm, parts_of_raw_branch}

-- ---- the parts of what is made

stmt_is : (at : Place) (what : RawStmtKind) → parts_of_stmt (roll-RawStmt (record { place = at; what = what })) ≡ parts_of_raw_kind what
stmt_is at what = rw fold-roll-RawStmt refl

var_is : (n : Name) (t : Option RawType) (value : Option RawExpr) → parts_of_raw_kind (kind.Var n t value) ≡ 1
var_is n t value = ap parts_of_raw_kind (sym (rolls-Var n t value)) ∙ rw fold-roll-RawStmtKind refl

let_is : (n : Name) (t : Option RawType) (value : RawExpr) → parts_of_raw_kind (kind.Let n t value) ≡ 1
let_is n t value = ap parts_of_raw_kind (sym (rolls-Let n t value)) ∙ rw fold-roll-RawStmtKind refl

constant_is : (one : RawConstant) → parts_of_raw_kind (kind.Const one) ≡ 1
constant_is one = ap parts_of_raw_kind (sym (rolls-Const one)) ∙ rw fold-roll-RawStmtKind refl

assign_is : (to : RawTarget) (e : RawExpr) → parts_of_raw_kind (kind.Assign to e) ≡ 1
assign_is to e = ap parts_of_raw_kind (sym (rolls-Assign to e)) ∙ rw fold-roll-RawStmtKind refl

call_is : (f : Name) (given : List RawExpr) (taken : List RawPath) → parts_of_raw_kind (kind.Call f given taken) ≡ 1
call_is f given taken = ap parts_of_raw_kind (sym (rolls-Call f given taken)) ∙ rw fold-roll-RawStmtKind refl

await_is : (e : RawExpr) → parts_of_raw_kind (kind.Await e) ≡ 1
await_is e = ap parts_of_raw_kind (sym (rolls-Await e)) ∙ rw fold-roll-RawStmtKind refl

run_is : (to : Option RawPath) (a : Name) (given : List RawExpr) (taken : List RawPath) → parts_of_raw_kind (kind.Run to a given taken) ≡ 1
run_is to a given taken = ap parts_of_raw_kind (sym (rolls-Run to a given taken)) ∙ rw fold-roll-RawStmtKind refl

if_is : (arms : List RawArm) (other : List RawStmt) →
    parts_of_raw_kind (kind.If arms other) ≡ 1 + (total (map parts_of_raw_arm arms) + total (map parts_of_stmt other))
if_is arms other = ap parts_of_raw_kind (sym (rolls-If arms other)) ∙ rw fold-roll-RawStmtKind refl

cobegin_is : (branches : List RawBranch) → parts_of_raw_kind (kind.Cobegin branches) ≡ 1 + total (map parts_of_raw_branch branches)
cobegin_is branches = ap parts_of_raw_kind (sym (rolls-Cobegin branches)) ∙ rw fold-roll-RawStmtKind refl

when_is : (guard : Guard) (e : RawExpr) (body : List RawStmt) → parts_of_raw_kind (kind.When guard e body) ≡ 1 + total (map parts_of_stmt body)
when_is guard e body = ap parts_of_raw_kind (sym (rolls-When guard e body)) ∙ rw fold-roll-RawStmtKind refl

repeat_is : (body : List RawStmt) → parts_of_raw_kind (kind.Repeat body) ≡ 1 + total (map parts_of_stmt body)
repeat_is body = ap parts_of_raw_kind (sym (rolls-Repeat body)) ∙ rw fold-roll-RawStmtKind refl

until_is : (body : List RawStmt) (e : RawExpr) → parts_of_raw_kind (kind.Until body e) ≡ 1 + total (map parts_of_stmt body)
until_is body e = ap parts_of_raw_kind (sym (rolls-Until body e)) ∙ rw fold-roll-RawStmtKind refl

while_is : (e : RawExpr) (body : List RawStmt) → parts_of_raw_kind (kind.While e body) ≡ 1 + total (map parts_of_stmt body)
while_is e body = ap parts_of_raw_kind (sym (rolls-While e body)) ∙ rw fold-roll-RawStmtKind refl

return_is : (e : Option RawExpr) → parts_of_raw_kind (kind.Return e) ≡ 1
return_is e = ap parts_of_raw_kind (sym (rolls-Return e)) ∙ rw fold-roll-RawStmtKind refl

arm_is : (e : RawExpr) (body : List RawStmt) → parts_of_raw_arm (roll-RawArm (record { test = e; body = body })) ≡ 1 + total (map parts_of_stmt body)
arm_is e body = rw fold-roll-RawArm refl

branch_is : (weak : Bool) (body : List RawStmt) → parts_of_raw_branch (roll-RawBranch (record { weak = weak; body = body })) ≡ 1 + total (map parts_of_stmt body)
branch_is weak body = rw fold-roll-RawBranch refl

-- ---- room for parts

same : (n m from to : ℕ) → n ≡ m → m + from ≤ to → n + from ≤ to
same n m from to is le = omega (arith, is, le)

none_more : (n from to : ℕ) → n ≡ 0 → from ≤ to → n + from ≤ to
none_more n from to is le = omega (arith, is, le)

-- what the members of a list have fits between two positions
record Room {A : Type 0} (f : A → ℕ) (xs : List A) (from to : ℕ) : Type 0 where
  room : total (map f xs) + from ≤ to

total_more : {A : Type 0} (f : A → ℕ) (xs : List A) (x : A) → total (map f (xs ++ x ∷ [])) ≡ total (map f xs) + f x
total_more f xs x =
    ap total (map_push f xs x) ∙ total-append (map f xs) (f x ∷ []) ∙ (let alone : f x + 0 ≡ f x = omega arith in ap (λ n. total (map f xs) + n) alone)

none_fit : {A : Type 0} (f : A → ℕ) {all : List A} {from to : ℕ} → all ≡ [] → from ≤ to → Room f all from to
none_fit f is le = record { room = same _ _ _ _ (ap (λ ys. total (map f ys)) is) (omega (arith, le)) }

more_fit : {A : Type 0} (f : A → ℕ) {all xs : List A} (x : A) {from at to : ℕ} → Room f xs from at → f x + at ≤ to → all ≡ xs ++ x ∷ [] →
    Room f all from to
more_fit f {xs = xs} x h k is = record { room = same _ _ _ _ (ap (λ ys. total (map f ys)) is ∙ total_more f xs x) (omega (arith, h.room, k)) }

one_fits : {A : Type 0} (f : A → ℕ) {all : List A} (x : A) {from to : ℕ} → f x + from ≤ to → all ≡ x ∷ [] → Room f all from to
one_fits f x {from = from} h is =
    let before : from ≤ from = omega arith in more_fit f {xs = []} x {at = from} (none_fit f refl before) h is

-- ---- statements

module _ {text : List ℕ} {tokens : List Token} where
  mutual
    statement : {s : RawStmt} {from to : ℕ} → SpellsStmt text tokens s from to → parts_of_stmt s + from ≤ to
    statement (SpellsStmt.placed what is) = same _ _ _ _ (ap parts_of_stmt is ∙ stmt_is _ _) (says what)

    says : {what : RawStmtKind} {from to : ℕ} → SpellsKind text tokens what from to → parts_of_raw_kind what + from ≤ to
    says (SpellsKind.typed w n t e is) = same _ _ _ _ (ap parts_of_raw_kind is ∙ var_is _ _ _)
        (omega (arith, w.next, n.token.next, (level.typing t).moves, (level.initial e).moves))
    says (SpellsKind.inferred w n e is) = same _ _ _ _ (ap parts_of_raw_kind is ∙ var_is _ _ _) (omega (arith, w.next, n.token.next, (level.value e).moves))
    says (SpellsKind.fixed w n t e is) = same _ _ _ _ (ap parts_of_raw_kind is ∙ let_is _ _ _)
        (omega (arith, w.next, n.token.next, (level.maybe_typing t).moves, (level.value e).moves))
    says (SpellsKind.constant c is) = same _ _ _ _ (ap parts_of_raw_kind is ∙ constant_is _)
        (omega (arith, c.word.next, c.name.token.next, (level.maybe_typing c.typing).moves, (level.value c.value).moves))
    says (SpellsKind.assign to e is) = same _ _ _ _ (ap parts_of_raw_kind is ∙ assign_is _ _)
        (omega (arith, (level.target to).moves, e.sign.next, (level.expression e.expr).moves))
    says (SpellsKind.call n given taken is) = same _ _ _ _ (ap parts_of_raw_kind is ∙ call_is _ _ _)
        (omega (arith, n.token.next, (level.inputs given).moves, (level.outputs taken).moves))
    says (SpellsKind.await w e is) = same _ _ _ _ (ap parts_of_raw_kind is ∙ await_is _) (omega (arith, w.next, (level.expression e).moves))
    says (SpellsKind.run w to n given taken is) = same _ _ _ _ (ap parts_of_raw_kind is ∙ run_is _ _ _ _)
        (omega (arith, w.next, (level.receiver to).moves, n.token.next, (level.inputs given).moves, (level.outputs taken).moves))
    says (SpellsKind.cobegin w branches ends is) = same _ _ _ _ (ap parts_of_raw_kind is ∙ cobegin_is _)
        (omega (arith, w.next, (each_branch branches).room, ends.next))
    says (SpellsKind.guarded w e guard body ends is) = same _ _ _ _ (ap parts_of_raw_kind is ∙ when_is _ _ _)
        (omega (arith, w.next, (level.expression e).moves, guard.token.next, (block body).room, ends.next))
    says (SpellsKind.repeat w body ends is) = same _ _ _ _ (ap parts_of_raw_kind is ∙ repeat_is _) (omega (arith, w.next, (block body).room, ends.next))
    says (SpellsKind.until w body u e ends is) = same _ _ _ _ (ap parts_of_raw_kind is ∙ until_is _ _)
        (omega (arith, w.next, (block body).room, u.next, (level.expression e).moves, ends.next))
    says (SpellsKind.while w e r body ends is) = same _ _ _ _ (ap parts_of_raw_kind is ∙ while_is _ _)
        (omega (arith, w.next, (level.expression e).moves, r.next, (block body).room, ends.next))
    says (SpellsKind.branching arms other ends is) = same _ _ _ _ (ap parts_of_raw_kind is ∙ if_is _ _)
        (omega (arith, (each_arm arms).room, (otherwise other).room, ends.next))
    says (SpellsKind.returns w none is) = same _ _ _ _ (ap parts_of_raw_kind is ∙ return_is _) (omega (arith, w.next))
    says (SpellsKind.returns_value w on e is) = same _ _ _ _ (ap parts_of_raw_kind is ∙ return_is _) (omega (arith, w.next, (level.expression e).moves))

    block : {body : List RawStmt} {from to : ℕ} → SpellsBlock text tokens body from to → Room parts_of_stmt body from to
    block (SpellsBlock.no_stmts none is) = none_fit parts_of_stmt none (omega (arith, is))
    block (SpellsBlock.more_stmts body s is) = more_fit parts_of_stmt _ (block body) (statement s) is

    -- an arm begins with a keyword
    arm : {head : Keyword} {one : RawArm} {from to : ℕ} → SpellsArm text tokens head one from to → parts_of_raw_arm one + from ≤ to
    arm (SpellsArm.headed w e t body is) = same _ _ _ _ (ap parts_of_raw_arm is ∙ arm_is _ _)
        (omega (arith, w.next, (level.expression e).moves, t.next, (block body).room))

    each_arm : {arms : List RawArm} {from to : ℕ} → SpellsArms text tokens arms from to → Room parts_of_raw_arm arms from to
    each_arm (SpellsArms.first_arm one is) = one_fits parts_of_raw_arm _ (arm one) is
    each_arm (SpellsArms.more_arms arms one is) = more_fit parts_of_raw_arm _ (each_arm arms) (arm one) is

    otherwise : {other : List RawStmt} {from to : ℕ} → SpellsElse text tokens other from to → Room parts_of_stmt other from to
    otherwise (SpellsElse.no_else none is) = none_fit parts_of_stmt none (omega (arith, is))
    otherwise (SpellsElse.with_else w body) = record { room = omega (arith, w.next, (block body).room) }

    -- a branch may have no token, but a keyword stands before each
    branch : {one : RawBranch} {from to : ℕ} → SpellsBranch text tokens one from to → parts_of_raw_branch one + from ≤ to + 1
    branch (SpellsBranch.branched may body is) = same _ _ _ _ (ap parts_of_raw_branch is ∙ branch_is _ _)
        (omega (arith, (level.weakly may).moves, (block body).room))

    each_branch : {branches : List RawBranch} {from to : ℕ} → SpellsBranches text tokens branches from to → Room parts_of_raw_branch branches from (to + 1)
    each_branch (SpellsBranches.first_branch one is) = one_fits parts_of_raw_branch _ (branch one) is
    each_branch (SpellsBranches.more_branches {branch = last} branches w one is) =
        more_fit parts_of_raw_branch last (each_branch branches) (omega (arith, w.next, branch one)) is

  -- ---- items

  param : {one : RawParam} {from to : ℕ} → SpellsParam text tokens one from to → 1 + from ≤ to
  param h = omega (arith, h.name.token.next, (level.typing h.ty).moves)

  param_list : {all : List RawParam} {from to : ℕ} → SpellsParamList text tokens all from to → length all + from ≤ to
  param_list (SpellsParamList.first one is) = same _ _ _ _ (ap length is) (param one)
  param_list (SpellsParamList.more {params = params} {param = last} others comma one is) =
      same _ _ _ _ (ap length is ∙ length_push params last) (omega (arith, param_list others, comma.next, param one))

  params : {all : List RawParam} {from to : ℕ} → SpellsParams text tokens all from to → length all + from ≤ to
  params (SpellsParams.none opens closes is) = same _ _ _ _ (ap length is) (omega (arith, opens.next, closes.next))
  params (SpellsParams.some opens all closes) = omega (arith, opens.next, param_list all, closes.next)

  output_params : {all : List RawParam} {from to : ℕ} → SpellsOutputParams text tokens all from to → length all + from ≤ to
  output_params (SpellsOutputParams.absent none is) = same _ _ _ _ (ap length none) (omega (arith, is))
  output_params (SpellsOutputParams.written all) = params all

  unit : {one : RawUnit} {from to : ℕ} → SpellsUnit text tokens one from to → parts_of_unit one + from ≤ to
  unit {one = one} {from = from} {to = to} h =
      let moves = (level.mark h.mark).moves in
      let kind = h.kind.token.next in
      let name = h.name.token.next in
      let inputs = params h.inputs in
      let outputs = output_params h.outputs in
      let result = (level.result h.result).moves in
      let body = (block h.body).room in
      let end = h.end.next in
      let whole : length one.inputs + length one.outputs + total (map parts_of_stmt one.body) + from ≤ to =
      omega (arith, moves, kind, name, inputs, outputs, result, body, end) in
      whole

  item : {one : RawItem} {from to : ℕ} → SpellsItem text tokens one from to → parts_of_item one + from ≤ to
  item (SpellsItem.structure def is) = none_more _ _ _ (ap parts_of_item is) (level.structure def).moves
  item (SpellsItem.constant c is) = none_more _ _ _ (ap parts_of_item is) (level.constant c).moves
  item (SpellsItem.unit u is) = same _ _ _ _ (ap parts_of_item is) (unit u)

  items : {all : List RawItem} {from to : ℕ} → SpellsItems text tokens all from to → Room parts_of_item all from to
  items (SpellsItems.none none is) = none_fit parts_of_item none (omega (arith, is))
  items (SpellsItems.more others one is) = more_fit parts_of_item _ (items others) (item one) is

-- ---- tokens of a text

module _ (text : List ℕ) (tokens : List Token) (lexes : Lexes text tokens) where
  -- a token ends behind as many bytes as there are tokens up to it
  ends_behind : (d : Token) (k : ℕ) → k < length tokens → k + 1 ≤ (get_or tokens k d).place.end
  ends_behind d zero inside = let first = (tokens_inside text tokens lexes zero d inside).0 in omega (arith, first)
  ends_behind d (suc k) inside =
      let within : k + 1 < length tokens = omega (arith, inside) in
      let before = ends_behind d k (omega (arith, inside)) in
      let order = tokens_in_order text tokens lexes k d within in
      let next = (tokens_inside text tokens lexes (k + 1) d within).0 in
      let same_place : k + 1 ≡ suc k = omega arith in
      let behind : k + 1 + 1 ≤ (get_or tokens (k + 1) d).place.end = omega (arith, before, order, next) in
      subst (λ n. n + 1 ≤ (get_or tokens n d).place.end) same_place behind

  by_first : (ts : List Token) → tokens ≡ ts → length tokens ≤ length text
  by_first [] is = let none = ap length is in omega (arith, none)
  by_first (d ∷ rest) is =
      let some = ap length is in
      let last : length rest < length tokens = omega (arith, some) in
      let end = ends_behind d (length rest) last in
      let inside = (tokens_inside text tokens lexes (length rest) d last).1 in
      omega (arith, some, end, inside)

-- a tree has at most as many parts as its text has bytes
pub few_parts : (text : List ℕ) (tokens : List Token) (raw : Raw) → Lexes text tokens → Spells text tokens raw → parts_of_items raw.items ≤ length text
few_parts text tokens raw lexes h =
    let room = (items h.items).room in
    let short = by_first text tokens lexes tokens refl in
    let all : total (map parts_of_item raw.items) ≤ length text = omega (arith, room, short) in
    all
