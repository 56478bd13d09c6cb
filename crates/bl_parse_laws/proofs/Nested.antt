-- Blocks nest within the limit of rule Depth in a tree that is spelled, and so do expressions.
use Rattle.std.proofs.Common.{◌≡◌, ℕ, ◌+◌, ◌-◌, ◌≤◌, Bool, true, List, [], ◌∷◌, ◌++◌, map, max, refl, ap, sym, ◌∙◌, subst, arith}
use Rattle.std.specs.Prelude.{Option}
use Rattle.std.specs.List.{list_all}
use Rattle.std.proofs.lemmas.Bool.{le-leb}
use Rattle.bl_tree.proofs.Basics.{map_push}
use Rattle.bl_tree.specs.declared.token.Keyword.{Keyword}
use Rattle.bl_tree.specs.declared.place.Place.{Place}
use Rattle.bl_tree.specs.declared.token.Token.{Token}
use Rattle.bl_tree.specs.declared.token.TokenKind.{TokenKind}
use Rattle.bl_tree.specs.declared.token.TokenKind.TheVariants.{Word}
use Rattle.bl_tree.specs.declared.tree.Guard.{Guard}
use Rattle.bl_tree.specs.declared.tree.UnitKind.{UnitKind}
use Rattle.bl_tree.specs.Depths.{Depth, leaf, of_all, block}
use Rattle.bl_tree.specs.Reduce.{greatest}
use Rattle.bl_parse_syntax.specs.Rules.{PassesDepth}
use Rattle.bl_parse_tree.specs.declared.expr.RawExpr.{RawExpr}
use Rattle.bl_parse_tree.specs.declared.expr.RawTarget.{RawTarget}
use Rattle.bl_parse_tree.specs.declared.item.RawItem.{RawItem}
use Rattle.bl_parse_tree.specs.declared.item.RawUnit.{RawUnit}
use Rattle.bl_parse_tree.specs.declared.name.Name.{Name}
use Rattle.bl_parse_tree.specs.declared.raw.Raw.{Raw}
use Rattle.bl_parse_tree.specs.declared.stmt.RawArm.{RawArm, fold-RawArm, fold-roll-RawArm, roll-RawArm}
use Rattle.bl_parse_tree.specs.declared.stmt.RawBranch.{RawBranch, fold-RawBranch, fold-roll-RawBranch, roll-RawBranch}
use Rattle.bl_parse_tree.specs.declared.stmt.RawConstant.{RawConstant}
use Rattle.bl_parse_tree.specs.declared.stmt.RawPath.{RawPath}
use Rattle.bl_parse_tree.specs.declared.stmt.RawStmt.{RawStmt, fold-roll-RawStmt, roll-RawStmt}
use Rattle.bl_parse_tree.specs.declared.stmt.RawStmtKind.{RawStmtKind, fold-RawStmtKind, fold-roll-RawStmtKind}
use Rattle.bl_parse_tree.specs.declared.stmt.RawStmtKind as kind
use Rattle.bl_parse_tree.specs.declared.stmt.RawStmtKind.TheVariants.{rolls-Var, rolls-Let, rolls-Const, rolls-Assign, rolls-Call, rolls-Await, rolls-Run}
use Rattle.bl_parse_tree.specs.declared.stmt.RawStmtKind.TheVariants.{rolls-If, rolls-Cobegin, rolls-When, rolls-Repeat, rolls-Until, rolls-While, rolls-Return}
use Rattle.bl_parse_tree.specs.declared.types.RawType.{RawType}
use Rattle.bl_parse_tree.specs.Depths.{expr_depth, target_depth, optional_depth, stmt_kind_depth, arm_depth, branch_depth, stmt_layer_depth, depth_of, item_shallow}
use Rattle.bl_parse.specs.At.{Takes}
use Rattle.bl_parse.specs.Expressions.{SpellsExpr, SpellsTarget, SpellsInputs}
use Rattle.bl_parse.specs.Programs.{IsUnit, SpellsItem, SpellsItems, SpellsUnit, Spells}
use Rattle.bl_parse.specs.Statements.{IsGuard, SpellsInitial, SpellsConstant, SpellsStmt, SpellsKind, SpellsBlock, SpellsArm, SpellsArms, SpellsElse}
use Rattle.bl_parse.specs.Statements.{SpellsBranch, SpellsBranches}
use Rattle.bl_parse_laws.proofs.Counts.{open_at, is_level, is_opening, level, opens, closes, from_nothing, Limits, limits}
use Rattle.bl_parse_laws.proofs.Level as flat
use Rattle.bl_parse_laws.proofs.Members.{greatest_more}
use Rattle.bl_parse_laws.proofs.Runs as runs
use Rattle.bl_parse_laws.proofs.Tests.{both, Each, none_hold, more_hold, listed}

-- how deep what a statement says is nested
abbrev depth_in : RawStmtKind → Depth
depth_in = fold-RawStmtKind Depth Depth Depth Depth stmt_kind_depth arm_depth branch_depth stmt_layer_depth

abbrev one_arm_depth : RawArm → Depth
one_arm_depth = fold-RawArm Depth Depth Depth Depth stmt_kind_depth arm_depth branch_depth stmt_layer_depth

abbrev one_branch_depth : RawBranch → Depth
one_branch_depth = fold-RawBranch Depth Depth Depth Depth stmt_kind_depth arm_depth branch_depth stmt_layer_depth

-- ---- the depth of what is made

stmt_is : (at : Place) (what : RawStmtKind) → depth_of (roll-RawStmt (record { place = at; what = what })) ≡ depth_in what
stmt_is at what = rw fold-roll-RawStmt refl

var_is : (n : Name) (t : Option RawType) (value : Option RawExpr) → depth_in (kind.Var n t value) ≡ leaf (optional_depth value)
var_is n t value = ap depth_in (sym (rolls-Var n t value)) ∙ rw fold-roll-RawStmtKind refl

let_is : (n : Name) (t : Option RawType) (value : RawExpr) → depth_in (kind.Let n t value) ≡ leaf (expr_depth value)
let_is n t value = ap depth_in (sym (rolls-Let n t value)) ∙ rw fold-roll-RawStmtKind refl

constant_is : (one : RawConstant) → depth_in (kind.Const one) ≡ leaf (expr_depth one.value)
constant_is one = ap depth_in (sym (rolls-Const one)) ∙ rw fold-roll-RawStmtKind refl

assign_is : (to : RawTarget) (e : RawExpr) → depth_in (kind.Assign to e) ≡ leaf (max (target_depth to) (expr_depth e))
assign_is to e = ap depth_in (sym (rolls-Assign to e)) ∙ rw fold-roll-RawStmtKind refl

call_is : (f : Name) (given : List RawExpr) (taken : List RawPath) → depth_in (kind.Call f given taken) ≡ leaf (greatest (map expr_depth given))
call_is f given taken = ap depth_in (sym (rolls-Call f given taken)) ∙ rw fold-roll-RawStmtKind refl

await_is : (e : RawExpr) → depth_in (kind.Await e) ≡ leaf (expr_depth e)
await_is e = ap depth_in (sym (rolls-Await e)) ∙ rw fold-roll-RawStmtKind refl

run_is : (to : Option RawPath) (a : Name) (given : List RawExpr) (taken : List RawPath) →
    depth_in (kind.Run to a given taken) ≡ leaf (greatest (map expr_depth given))
run_is to a given taken = ap depth_in (sym (rolls-Run to a given taken)) ∙ rw fold-roll-RawStmtKind refl

if_is : (arms : List RawArm) (other : List RawStmt) → depth_in (kind.If arms other) ≡ of_all (block 0 (map depth_of other) ∷ map one_arm_depth arms)
if_is arms other = ap depth_in (sym (rolls-If arms other)) ∙ rw fold-roll-RawStmtKind refl

cobegin_is : (branches : List RawBranch) → depth_in (kind.Cobegin branches) ≡ of_all (map one_branch_depth branches)
cobegin_is branches = ap depth_in (sym (rolls-Cobegin branches)) ∙ rw fold-roll-RawStmtKind refl

when_is : (guard : Guard) (e : RawExpr) (body : List RawStmt) → depth_in (kind.When guard e body) ≡ block (expr_depth e) (map depth_of body)
when_is guard e body = ap depth_in (sym (rolls-When guard e body)) ∙ rw fold-roll-RawStmtKind refl

repeat_is : (body : List RawStmt) → depth_in (kind.Repeat body) ≡ block 0 (map depth_of body)
repeat_is body = ap depth_in (sym (rolls-Repeat body)) ∙ rw fold-roll-RawStmtKind refl

until_is : (body : List RawStmt) (e : RawExpr) → depth_in (kind.Until body e) ≡ block (expr_depth e) (map depth_of body)
until_is body e = ap depth_in (sym (rolls-Until body e)) ∙ rw fold-roll-RawStmtKind refl

while_is : (e : RawExpr) (body : List RawStmt) → depth_in (kind.While e body) ≡ block (expr_depth e) (map depth_of body)
while_is e body = ap depth_in (sym (rolls-While e body)) ∙ rw fold-roll-RawStmtKind refl

return_is : (e : Option RawExpr) → depth_in (kind.Return e) ≡ leaf (optional_depth e)
return_is e = ap depth_in (sym (rolls-Return e)) ∙ rw fold-roll-RawStmtKind refl

arm_is : (e : RawExpr) (body : List RawStmt) → one_arm_depth (roll-RawArm (record { test = e; body = body })) ≡ block (expr_depth e) (map depth_of body)
arm_is e body = rw fold-roll-RawArm refl

branch_is : (weak : Bool) (body : List RawStmt) → one_branch_depth (roll-RawBranch (record { weak = weak; body = body })) ≡ block 0 (map depth_of body)
branch_is weak body = rw fold-roll-RawBranch refl

-- ---- limits

-- what is so deep may stand where so many blocks are open
record Fits (around : ℕ) (d : Depth) : Type 0 where
  pub blocks : around + d.blocks ≤ 100
  pub exprs : d.exprs ≤ 200

fits_as : {around : ℕ} {d e : Depth} → d ≡ e → Fits around e → Fits around d
fits_as {around} is h = subst (Fits around) (sym is) h

refits : {a b : ℕ} {d : Depth} → a ≡ b → Fits a d → Fits b d
refits {d = d} is h = subst (λ n. Fits n d) is h

fits_leaf : {around : ℕ} (n : ℕ) → around ≤ 100 → n ≤ 200 → Fits around (leaf n)
fits_leaf n room short = record { blocks = omega arith; exprs = short }

fits_none : {around : ℕ} → around ≤ 100 → Fits around (of_all [])
fits_none room = record { blocks = omega arith; exprs = omega arith }

fits_one : {around : ℕ} (d : Depth) (ds : List Depth) → Fits around d → Fits around (of_all ds) → Fits around (of_all (d ∷ ds))
fits_one d ds h k = record { blocks = omega (arith, h.blocks, k.blocks); exprs = omega (arith, h.exprs, k.exprs) }

fits_more : {around : ℕ} (ds : List Depth) (d : Depth) → Fits around (of_all ds) → Fits around d → Fits around (of_all (ds ++ d ∷ []))
fits_more ds d h k = record {
  blocks = omega (
    arith,
    ap greatest (map_push (λ (e : Depth). e.blocks) ds d)
        ∙ greatest_more (map (λ (e : Depth). e.blocks) ds) d.blocks,
    h.blocks,
    k.blocks,
  );
  exprs = omega (
    arith,
    ap greatest (map_push (λ (e : Depth). e.exprs) ds d)
        ∙ greatest_more (map (λ (e : Depth). e.exprs) ds) d.exprs,
    h.exprs,
    k.exprs,
  );
}

-- a block has one block more around it
fits_block : {around inner : ℕ} (head : ℕ) (ds : List Depth) → inner ≡ around + 1 → head ≤ 200 → Fits inner (of_all ds) →
    Fits around (block head ds)
fits_block head ds is short h = record { blocks = omega (arith, h.blocks, is); exprs = omega (arith, h.exprs, short) }

-- ---- lists

-- the members stand where so many blocks are open
record All {A : Type 0} (f : A → Depth) (around : ℕ) (xs : List A) : Type 0 where
  pub fit : Fits around (of_all (map f xs))

none_fit : {A : Type 0} (f : A → Depth) {around : ℕ} {all : List A} → all ≡ [] → around ≤ 100 → All f around all
none_fit f {around} is room = record { fit = fits_as (ap (λ xs. of_all (map f xs)) is) (fits_none room) }

more_fit : {A : Type 0} (f : A → Depth) {around : ℕ} {all xs : List A} (x : A) → All f around xs → Fits around (f x) →
    all ≡ xs ++ x ∷ [] → All f around all
more_fit f {xs = xs} x h k is = record {
  fit = fits_as (ap (λ ys. of_all (map f ys)) is ∙ ap of_all (map_push f xs x))
      (fits_more (map f xs) (f x) h.fit k);
}

one_fits : {A : Type 0} (f : A → Depth) {around : ℕ} {all : List A} (x : A) → Fits around (f x) → around ≤ 100 → all ≡ x ∷ [] →
    All f around all
one_fits f {around} x k room is = more_fit f {xs = []} x (none_fit f refl room) k is

-- ---- parts of statements

-- between two positions all blocks that are opened are closed, and what stands there is so deep
record Nests (tokens : List Token) (from to : ℕ) (d : Depth) : Type 0 where
  pub same : open_at tokens to ≡ open_at tokens from
  pub fits : Fits (open_at tokens from) d

-- the same of members
record Rows {A : Type 0} (f : A → Depth) (tokens : List Token) (xs : List A) (from to : ℕ) : Type 0 where
  pub same : open_at tokens to ≡ open_at tokens from
  pub all : All f (open_at tokens from) xs

-- up to a position a block is open, and what stands in it and around it is so deep
record Under (tokens : List Token) (around to : ℕ) (d : Depth) : Type 0 where
  pub after : open_at tokens to ≡ around + 1
  pub fits : Fits around d

-- the same of members
record Parted {A : Type 0} (f : A → Depth) (tokens : List Token) (xs : List A) (around to : ℕ) : Type 0 where
  pub after : open_at tokens to ≡ around + 1
  pub all : All f around xs

moved : {A : Type 0} (f : A → Depth) {xs : List A} {a b : ℕ} → a ≡ b → All f a xs → All f b xs
moved f {xs} is h = subst (λ n. All f n xs) is h

-- a block with its end
enclosed : {tokens : List Token} {body : List RawStmt} {from at end to : ℕ} (head : ℕ) → open_at tokens at ≡ open_at tokens from + 1 → head ≤ 200
    → Rows depth_of tokens body at end → open_at tokens to ≡ open_at tokens end - 1 → Nests tokens from to (block head (map depth_of body))
enclosed {body = body} head start short rows ending =
    record { same = omega (arith, start, rows.same, ending); fits = fits_block head (map depth_of body) start short rows.all.fit }

nests_as : {tokens : List Token} {d e : Depth} {from to : ℕ} → d ≡ e → Nests tokens from to e → Nests tokens from to d
nests_as is h = record { same = h.same; fits = fits_as is h.fits }

nests_leaf : {tokens : List Token} {n from to : ℕ} → Limits tokens → n ≤ 200 → open_at tokens to ≡ open_at tokens from →
    Nests tokens from to (leaf n)
nests_leaf {n = n} {from = from} limit short same = record { same = same; fits = fits_leaf n (limit.blocks from) short }

pub unit_opening : {kind : TokenKind} {of : UnitKind} → IsUnit kind of → is_opening kind ≡ true
unit_opening IsUnit.function = refl
unit_opening IsUnit.activity = refl

pub guard_level : {kind : TokenKind} {guard : Guard} → IsGuard kind guard → is_level kind ≡ true
guard_level IsGuard.abort = refl
guard_level IsGuard.reset = refl

module _ {text : List ℕ} {tokens : List Token} (limit : Limits tokens) where
  expression : {l : ℕ} {e : RawExpr} {from to : ℕ} → SpellsExpr text tokens l e from to → expr_depth e ≤ 200
  expression {to = to} e = omega (arith, runs.expression e from_nothing, limit.run to)

  target : {t : RawTarget} {from to : ℕ} → SpellsTarget text tokens t from to → target_depth t ≤ 200
  target {to = to} t = omega (arith, runs.place t from_nothing, limit.run to)

  inputs : {all : List RawExpr} {from to : ℕ} → SpellsInputs text tokens all from to → greatest (map expr_depth all) ≤ 200
  inputs {to = to} given = omega (arith, runs.inputs given, limit.run to)

  initial : {e : Option RawExpr} {from to : ℕ} → SpellsInitial text tokens e from to → optional_depth e ≤ 200
  initial (SpellsInitial.absent none is) = omega (arith, ap optional_depth none)
  initial (SpellsInitial.given e is) = omega (arith, ap optional_depth is, expression e.expr)

  -- ---- statements

  mutual
    statement : {s : RawStmt} {from to : ℕ} → SpellsStmt text tokens s from to → Nests tokens from to (depth_of s)
    statement (SpellsStmt.placed what is) = nests_as (ap depth_of is ∙ stmt_is _ _) (says what)

    says : {what : RawStmtKind} {from to : ℕ} → SpellsKind text tokens what from to → Nests tokens from to (depth_in what)
    says (SpellsKind.typed w n t e is) = nests_as (ap depth_in is ∙ var_is _ _ _)
        (nests_leaf limit (initial e) (flat.then (flat.token w refl) (flat.then (flat.token n.token refl) (flat.then (flat.typing t) (flat.initial e)))).same)
    says (SpellsKind.inferred w n e is) = nests_as (ap depth_in is ∙ var_is _ _ _)
        (nests_leaf limit (expression e.expr) (flat.then (flat.token w refl) (flat.then (flat.token n.token refl) (flat.value e))).same)
    says (SpellsKind.fixed w n t e is) = nests_as (ap depth_in is ∙ let_is _ _ _)
        (nests_leaf limit (expression e.expr) (flat.then (flat.token w refl)
        (flat.then (flat.token n.token refl) (flat.then (flat.maybe_typing t) (flat.value e)))).same)
    says (SpellsKind.constant c is) = nests_as (ap depth_in is ∙ constant_is _) (nests_leaf limit (expression c.value.expr) (flat.constant c).same)
    says (SpellsKind.assign to e is) = nests_as (ap depth_in is ∙ assign_is _ _)
        (nests_leaf limit (omega (arith, target to, expression e.expr)) (flat.then (flat.target to) (flat.value e)).same)
    says (SpellsKind.call n given taken is) = nests_as (ap depth_in is ∙ call_is _ _ _)
        (nests_leaf limit (inputs given) (flat.then (flat.token n.token refl) (flat.then (flat.inputs given) (flat.outputs taken))).same)
    says (SpellsKind.await w e is) = nests_as (ap depth_in is ∙ await_is _)
        (nests_leaf limit (expression e) (flat.then (flat.token w refl) (flat.expression e)).same)
    says (SpellsKind.run w to n given taken is) = nests_as (ap depth_in is ∙ run_is _ _ _ _)
        (nests_leaf limit (inputs given) (flat.then (flat.token w refl)
        (flat.then (flat.receiver to) (flat.then (flat.token n.token refl) (flat.then (flat.inputs given) (flat.outputs taken))))).same)
    says (SpellsKind.cobegin {from = from} w branches ends is) = let rows = each_branch branches (open_at tokens from) (opens w refl) in
        record { same = omega (arith, closes ends, rows.after); fits = fits_as (ap depth_in is ∙ cobegin_is _) rows.all.fit }
    says (SpellsKind.guarded w e guard body ends is) =
        let start = flat.then (flat.expression e) (flat.token guard.token (guard_level guard.is)) in
        nests_as (ap depth_in is ∙ when_is _ _ _) (enclosed _ (start.same ∙ opens w refl) (expression e) (block_rows body) (closes ends))
    says (SpellsKind.repeat w body ends is) = nests_as (ap depth_in is ∙ repeat_is _)
        (enclosed 0 (opens w refl) (omega arith) (block_rows body) (closes ends))
    says (SpellsKind.until w body u e ends is) =
        let test = flat.then (flat.token u refl) (flat.expression e) in
        nests_as (ap depth_in is ∙ until_is _ _) (enclosed _ (opens w refl) (expression e) (block_rows body) (omega (arith, test.same, closes ends)))
    says (SpellsKind.while w e r body ends is) =
        let test = flat.then (flat.token w refl) (flat.expression e) in
        nests_as (ap depth_in is ∙ while_is _ _) (enclosed _ (omega (arith, test.same, opens r refl)) (expression e) (block_rows body) (closes ends))
    says (SpellsKind.branching arms other ends is) =
        let a = each_arm arms in let o = otherwise other in
        record {
          same = omega (arith, a.after, o.same, closes ends);
          fits = fits_as (ap depth_in is ∙ if_is _ _) (fits_one _ _ (fits_block 0 _ a.after (omega arith) o.all.fit) a.all.fit);
        }
    says (SpellsKind.returns w none is) = nests_as (ap depth_in is ∙ return_is _) (nests_leaf limit (omega arith) (flat.token w refl).same)
    says (SpellsKind.returns_value w on e is) = nests_as (ap depth_in is ∙ return_is _)
        (nests_leaf limit (expression e) (flat.then (flat.token w refl) (flat.expression e)).same)

    block_rows : {body : List RawStmt} {from to : ℕ} → SpellsBlock text tokens body from to → Rows depth_of tokens body from to
    block_rows (SpellsBlock.no_stmts {from = from} none is) = record { same = ap (open_at tokens) is; all = none_fit depth_of none (limit.blocks from) }
    block_rows (SpellsBlock.more_stmts {from = from} body s is) = let front = block_rows body in let last = statement s in
        record { same = last.same ∙ front.same; all = more_fit depth_of _ front.all (refits front.same last.fits) is }

    arm : {head : Keyword} {one : RawArm} {from to : ℕ} → SpellsArm text tokens head one from to → (around : ℕ) →
        ((m : ℕ) → Takes tokens (Word head) from m → open_at tokens m ≡ around + 1)
        → Under tokens around to (one_arm_depth one)
    arm (SpellsArm.headed w e t body is) around opening =
        let rows = block_rows body in
        let test = flat.then (flat.expression e) (flat.token t refl) in
        record {
          after = rows.same ∙ (test.same ∙ opening _ w);
          fits =
              fits_as (ap one_arm_depth is ∙ arm_is _ _) (fits_block _ _ (test.same ∙ opening _ w) (expression e) rows.all.fit);
        }

    each_arm : {arms : List RawArm} {from to : ℕ} → SpellsArms text tokens arms from to → Parted one_arm_depth tokens arms (open_at tokens from) to
    each_arm (SpellsArms.first_arm {from = from} one is) = let a = arm one (open_at tokens from) (λ m w. opens w refl) in
        record { after = a.after; all = one_fits one_arm_depth _ a.fits (limit.blocks from) is }
    each_arm (SpellsArms.more_arms {from = from} arms one is) = let front = each_arm arms in let a =
        arm one (open_at tokens from) (λ m w. level w refl ∙ front.after) in
        record { after = a.after; all = more_fit one_arm_depth _ front.all a.fits is }

    otherwise : {other : List RawStmt} {from to : ℕ} → SpellsElse text tokens other from to → Rows depth_of tokens other from to
    otherwise (SpellsElse.no_else {from = from} none is) = record { same = ap (open_at tokens) is; all = none_fit depth_of none (limit.blocks from) }
    otherwise (SpellsElse.with_else w body) = let rows = block_rows body in
        record { same = rows.same ∙ level w refl; all = moved depth_of (level w refl) rows.all }

    branch : {one : RawBranch} {from to : ℕ} → SpellsBranch text tokens one from to → (around : ℕ) →
        open_at tokens from ≡ around + 1 → Under tokens around to (one_branch_depth one)
    branch (SpellsBranch.branched may body is) around start =
        let rows = block_rows body in
        let before = flat.weakly may in
        record {
          after = rows.same ∙ (before.same ∙ start);
          fits =
              fits_as (ap one_branch_depth is ∙ branch_is _ _) (fits_block 0 _ (before.same ∙ start) (omega arith) rows.all.fit);
        }

    each_branch : {branches : List RawBranch} {from to : ℕ} → SpellsBranches text tokens branches from to → (around : ℕ) →
        open_at tokens from ≡ around + 1 → Parted one_branch_depth tokens branches around to
    each_branch (SpellsBranches.first_branch {from = from} one is) around start = let a = branch one around start in
        record { after = a.after; all = one_fits one_branch_depth _ a.fits (omega (arith, limit.blocks from, start)) is }
    each_branch (SpellsBranches.more_branches branches w one is) around start = let front = each_branch branches around start in
        let a = branch one around (level w refl ∙ front.after) in
        record { after = a.after; all = more_fit one_branch_depth _ front.all a.fits is }

  -- ---- items

  constant : {one : RawConstant} {from to : ℕ} → SpellsConstant text tokens one from to → expr_depth one.value ≤ 200
  constant h = expression h.value.expr

  -- a unit is a block, in which its body stands
  unit_opens : {u : RawUnit} {from to : ℕ} (h : SpellsUnit text tokens u from to) → open_at tokens h.r ≡ open_at tokens h.m + 1
  unit_opens h =
      let head = flat.then (flat.token h.name.token refl)
      (flat.then (flat.params h.inputs) (flat.then (flat.output_params h.outputs) (flat.result h.result))) in
      head.same ∙ opens h.kind.token (unit_opening h.kind.is)

  item : {one : RawItem} {from to : ℕ} → SpellsItem text tokens one from to → item_shallow one ≡ true
  item (SpellsItem.structure def is) = ap item_shallow is
  item (SpellsItem.constant c is) = ap item_shallow is ∙ le-leb _ _ (constant c)
  item (SpellsItem.unit u is) = let fit = (block_rows u.body).all.fit in
      ap item_shallow is ∙ both (le-leb _ _ (omega (arith, fit.blocks, unit_opens u))) (le-leb _ _ fit.exprs)

  items : {all : List RawItem} {from to : ℕ} → SpellsItems text tokens all from to → Each item_shallow all
  items (SpellsItems.none none is) = none_hold item_shallow none
  items (SpellsItems.more others one is) = more_hold item_shallow _ (items others) (item one) is

pub what_is_shallow : (text : List ℕ) (tokens : List Token) (raw : Raw) → PassesDepth tokens → Spells text tokens raw →
    list_all item_shallow raw.items ≡ true
what_is_shallow text tokens raw passes h = listed item_shallow (items (limits tokens passes) h.items)
