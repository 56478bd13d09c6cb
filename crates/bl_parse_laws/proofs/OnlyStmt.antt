-- A block of statements is read in one way.
use Rattle.std.proofs.Common.{◌≡◌, ℕ, Bool, true, false, List, [], ◌∷◌, refl, sym, ◌∙◌, subst}
use Rattle.std.specs.Prelude.{Option, Some, None}
use Rattle.bl_tree.specs.declared.token.Keyword.{Keyword as AnyKeyword}
use Rattle.bl_tree.specs.declared.token.Token.{Token}
use Rattle.bl_tree.specs.declared.token.TokenKind.TheVariants.{Word}
use Rattle.bl_tree.specs.declared.tree.Guard.{Guard as GuardKind}
use Rattle.bl_tree.specs.declared.token.Keyword.TheVariants as keyword
use Rattle.bl_parse_syntax.specs.declared.grammar.Class.{Class}
use Rattle.bl_parse_syntax.specs.declared.grammar.Class.TheVariants.{AnyName, Keyword}
use Rattle.bl_parse_syntax.specs.Follow.{after_expression, statement_starts, after_statement, after_block}
use Rattle.bl_parse_tree.specs.declared.expr.RawExpr.{RawExpr}
use Rattle.bl_parse_tree.specs.declared.expr.RawTarget.{RawTarget}
use Rattle.bl_parse_tree.specs.declared.name.Name.{Name}
use Rattle.bl_parse_tree.specs.declared.stmt.RawArm.{RawArm, roll-RawArm}
use Rattle.bl_parse_tree.specs.declared.stmt.RawBranch.{RawBranch, roll-RawBranch}
use Rattle.bl_parse_tree.specs.declared.stmt.RawConstant.{RawConstant}
use Rattle.bl_parse_tree.specs.declared.stmt.RawPath.{RawPath}
use Rattle.bl_parse_tree.specs.declared.stmt.RawStmt.{RawStmt, roll-RawStmt}
use Rattle.bl_parse_tree.specs.declared.stmt.RawStmtKind.{RawStmtKind}
use Rattle.bl_parse_tree.specs.declared.stmt.RawStmtKind as kind
use Rattle.bl_parse_tree.specs.declared.types.RawType.{RawType}
use Rattle.bl_parse.specs.At.{span, Takes, SpellsName}
use Rattle.bl_parse.specs.Expressions.{SpellsExpr, SpellsTarget, SpellsInputs}
use Rattle.bl_parse.specs.inner.Reading.{NoneNext}
use Rattle.bl_parse.specs.Statements.{SpellsTyping, SpellsMaybeTyping, SpellsValue, SpellsInitial, SpellsConstant, SpellsOutputs, SpellsReceiver, takes_value}
use Rattle.bl_parse.specs.Statements.{SpellsGuard, SpellsWeak, SpellsStmt, SpellsKind, SpellsBlock, SpellsArm, SpellsArms, SpellsElse, SpellsBranch}
use Rattle.bl_parse.specs.Statements.{SpellsBranches}
use Rattle.bl_parse_laws.proofs.Only.{One, Elem, Row, Lined, Linked, Begin, Begun, meets, meets_free, one_name, begun, next_same, clash, token_none, stops}
use Rattle.bl_parse_laws.proofs.Only.{fewer, add_row, line_one, line_more, rows_same, lines_same, linked, linked_begin, begun_within, follows_plain}
use Rattle.bl_parse_laws.proofs.OnlyExpr.{differ, begun_in, begun_target, not_call, only_target, only_inputs, only_expr}
use Rattle.bl_parse_laws.proofs.OnlyParts.{by1, by2, by3, by4, same_typing, same_maybe, same_value, same_initial, same_constant, same_outputs, same_start}
use Rattle.bl_parse_laws.proofs.OnlyParts.{same_guard, guard_stops}

-- ---- what a statement begins with

abbrev lead : {text : List ℕ} {tokens : List Token} {what : RawStmtKind} {from to : ℕ} → SpellsKind text tokens what from to → List Class
lead (SpellsKind.typed w n ty initial is) = Keyword keyword.Var ∷ []
lead (SpellsKind.inferred w n value is) = Keyword keyword.Var ∷ []
lead (SpellsKind.fixed w n ty value is) = Keyword keyword.Let ∷ []
lead (SpellsKind.constant c is) = Keyword keyword.Const ∷ []
lead (SpellsKind.assign place value is) = AnyName ∷ []
lead (SpellsKind.call n inputs outputs is) = AnyName ∷ []
lead (SpellsKind.await w e is) = Keyword keyword.Await ∷ []
lead (SpellsKind.run w receiver n inputs outputs is) = Keyword keyword.Run ∷ []
lead (SpellsKind.cobegin w branches ends is) = Keyword keyword.Cobegin ∷ []
lead (SpellsKind.guarded w e guard body ends is) = Keyword keyword.When ∷ []
lead (SpellsKind.repeat w body ends is) = Keyword keyword.Repeat ∷ []
lead (SpellsKind.until w body u e ends is) = Keyword keyword.Repeat ∷ []
lead (SpellsKind.while w e r body ends is) = Keyword keyword.While ∷ []
lead (SpellsKind.branching arms other ends is) = Keyword keyword.If ∷ []
lead (SpellsKind.returns w none is) = Keyword keyword.Return ∷ []
lead (SpellsKind.returns_value w on e is) = Keyword keyword.Return ∷ []

begun_arm : {text : List ℕ} {tokens : List Token} {head : AnyKeyword} {arm : RawArm} {from to : ℕ} → SpellsArm text tokens head arm from to →
    Begun (Keyword head ∷ []) tokens from
begun_arm (SpellsArm.headed w e t body is) = begun w

begun_arms : {text : List ℕ} {tokens : List Token} {arms : List RawArm} {from to : ℕ} → SpellsArms text tokens arms from to →
    Begun (Keyword keyword.If ∷ []) tokens from
begun_arms (SpellsArms.first_arm arm is) = begun_arm arm
begun_arms (SpellsArms.more_arms arms arm is) = begun_arms arms

begun_lead : {text : List ℕ} {tokens : List Token} {what : RawStmtKind} {from to : ℕ} (q : SpellsKind text tokens what from to) →
    Begun (lead q) tokens from
begun_lead (SpellsKind.typed w n ty initial is) = begun w
begun_lead (SpellsKind.inferred w n value is) = begun w
begun_lead (SpellsKind.fixed w n ty value is) = begun w
begun_lead (SpellsKind.constant c is) = begun c.word
begun_lead (SpellsKind.assign place value is) = begun_target place
begun_lead (SpellsKind.call n inputs outputs is) = begun n.token
begun_lead (SpellsKind.await w e is) = begun w
begun_lead (SpellsKind.run w receiver n inputs outputs is) = begun w
begun_lead (SpellsKind.cobegin w branches ends is) = begun w
begun_lead (SpellsKind.guarded w e guard body ends is) = begun w
begun_lead (SpellsKind.repeat w body ends is) = begun w
begun_lead (SpellsKind.until w body u e ends is) = begun w
begun_lead (SpellsKind.while w e r body ends is) = begun w
begun_lead (SpellsKind.branching arms other ends is) = begun_arms arms
begun_lead (SpellsKind.returns w none is) = begun w
begun_lead (SpellsKind.returns_value w on e is) = begun w

begun_kind : {text : List ℕ} {tokens : List Token} {what : RawStmtKind} {from to : ℕ} → SpellsKind text tokens what from to →
    Begun statement_starts tokens from
begun_kind (SpellsKind.typed w n ty initial is) = begun_in statement_starts w refl
begun_kind (SpellsKind.inferred w n value is) = begun_in statement_starts w refl
begun_kind (SpellsKind.fixed w n ty value is) = begun_in statement_starts w refl
begun_kind (SpellsKind.constant c is) = begun_in statement_starts c.word refl
begun_kind (SpellsKind.assign place value is) = begun_within (AnyName ∷ []) statement_starts refl (begun_target place)
begun_kind (SpellsKind.call n inputs outputs is) = begun_in statement_starts n.token refl
begun_kind (SpellsKind.await w e is) = begun_in statement_starts w refl
begun_kind (SpellsKind.run w receiver n inputs outputs is) = begun_in statement_starts w refl
begun_kind (SpellsKind.cobegin w branches ends is) = begun_in statement_starts w refl
begun_kind (SpellsKind.guarded w e guard body ends is) = begun_in statement_starts w refl
begun_kind (SpellsKind.repeat w body ends is) = begun_in statement_starts w refl
begun_kind (SpellsKind.until w body u e ends is) = begun_in statement_starts w refl
begun_kind (SpellsKind.while w e r body ends is) = begun_in statement_starts w refl
begun_kind (SpellsKind.branching arms other ends is) = begun_within (Keyword keyword.If ∷ []) statement_starts refl (begun_arms arms)
begun_kind (SpellsKind.returns w none is) = begun_in statement_starts w refl
begun_kind (SpellsKind.returns_value w on e is) = begun_in statement_starts w refl

pub begun_stmt : {text : List ℕ} {tokens : List Token} → Begin (SpellsStmt text tokens) statement_starts tokens
begun_stmt y a b (SpellsStmt.placed what is) = begun_kind what

-- ---- blocks, arms and branches

pub row_of_block : {text : List ℕ} {tokens : List Token} {body : List RawStmt} {from to : ℕ} →
    SpellsBlock text tokens body from to → Row (SpellsStmt text tokens) body from to
row_of_block (SpellsBlock.no_stmts none is) = Row.over none is
row_of_block (SpellsBlock.more_stmts body s is) = add_row (row_of_block body) s is

-- what is known of a block
abbrev pub Stmts : List ℕ → List Token → List RawStmt → ℕ → ℕ → Type 0
Stmts text tokens body from to = Row (Elem (SpellsStmt text tokens) statement_starts after_statement tokens) body from to

pub same_block : {text : List ℕ} {tokens : List Token} {body r : List RawStmt} {a b c d : ℕ} → Stmts text tokens body a b → a ≡ c →
    SpellsBlock text tokens r c d
    → NoneNext after_block tokens b → NoneNext after_block tokens d → (body ≡ r) × (b ≡ d)
same_block {text} {tokens} {d = d} row e q s r = rows_same
    (SpellsStmt text tokens) statement_starts after_statement after_block tokens begun_stmt refl refl refl row _ _ d e (row_of_block q) s r

arm_of : RawExpr → List RawStmt → RawArm
arm_of e body = roll-RawArm (record { test = e; body = body })

branch_of : Bool → List RawStmt → RawBranch
branch_of weak body = roll-RawBranch (record { weak = weak; body = body })

one_arm : {text : List ℕ} {tokens : List Token} {head : AnyKeyword} {arm : RawArm} {e : RawExpr} {body : List RawStmt} {from m n o to : ℕ} →
    Takes tokens (Word head) from m → SpellsExpr text tokens 0 e m n → Takes tokens (Word keyword.Then) n o
    → Stmts text tokens body o to → arm ≡ roll-RawArm (record { test = e; body = body }) →
    One (SpellsArm text tokens head) after_block tokens arm from to
unfolding arm_of
one_arm {text} {tokens} {head} {arm} {from = from} {to = to} w e t body is = record { only = by_arm }
  where
    by_arm : (y : RawArm) (end : ℕ) → SpellsArm text tokens head y from end → NoneNext after_block tokens to →
        NoneNext after_block tokens end → (arm ≡ y) × (to ≡ end)
    by_arm y end (SpellsArm.headed v f u more also) s r =
        let x = meets (only_expr e) (next_same refl w v) f (stops t refl) (stops u refl) in
        let z = same_block body (next_same x.1 t u) more s r in
        (by2 arm_of x.0 z.0 is also, z.1)

line_of_arms : {text : List ℕ} {tokens : List Token} {arms : List RawArm} {from to : ℕ} → SpellsArms text tokens arms from to →
    Lined (SpellsArm text tokens keyword.If) (SpellsArm text tokens keyword.Elseif) arms from to
line_of_arms (SpellsArms.first_arm arm is) = line_one arm is
line_of_arms (SpellsArms.more_arms arms arm is) = line_more (line_of_arms arms) arm is

begun_elseif : {text : List ℕ} {tokens : List Token} → Begin (SpellsArm text tokens keyword.Elseif) (Keyword keyword.Elseif ∷ []) tokens
begun_elseif y a b arm = begun_arm arm

-- what is known of arms, of a branch and of branches
abbrev Arms : List ℕ → List Token → List RawArm → ℕ → ℕ → Type 0
Arms text tokens arms from to = Lined (One (SpellsArm text tokens keyword.If) after_block tokens)
    (Elem (SpellsArm text tokens keyword.Elseif) (Keyword keyword.Elseif ∷ []) after_block tokens) arms from to

same_arms : {text : List ℕ} {tokens : List Token} {arms r : List RawArm} {a b d : ℕ} → Arms text tokens arms a b → SpellsArms text tokens r a d
    → NoneNext (Keyword keyword.Elseif ∷ after_block) tokens b → NoneNext (Keyword keyword.Elseif ∷ after_block) tokens d → (arms ≡ r) × (b ≡ d)
same_arms {text} {tokens} line q s r = lines_same (SpellsArm text tokens keyword.If) (SpellsArm text tokens keyword.Elseif)
    (Keyword keyword.Elseif ∷ []) after_block (Keyword keyword.Elseif ∷ after_block) tokens begun_elseif refl refl refl line refl (line_of_arms q) s r

abbrev after_side : List Class
after_side = Keyword keyword.Weak ∷ after_block

-- nothing or `weak`, and a block
one_side : {text : List ℕ} {tokens : List Token} {branch : RawBranch} {weak : Bool} {body : List RawStmt} {from m to : ℕ} →
    SpellsWeak tokens weak from m → SpellsBlock text tokens body m to → Stmts text tokens body m to
    → branch ≡ roll-RawBranch (record { weak = weak; body = body }) → One (SpellsBranch text tokens) after_side tokens branch from to
unfolding branch_of
one_side {text} {tokens} {branch} {from = from} {to = to} w plain body is = record { only = by_side }
  where
    -- a block doesn't begin with `weak`
    no_weak : {P : Type 0} {body : List RawStmt} {a b c d : ℕ} → SpellsBlock text tokens body a b → NoneNext after_side tokens b →
        a ≡ c → Takes tokens (Word keyword.Weak) c d → P
    no_weak block s e t = token_none t e refl (follows_plain (SpellsStmt text tokens) statement_starts
        (Keyword keyword.Weak ∷ []) after_side tokens begun_stmt refl refl refl (row_of_block block) s)

    inside : {a b c d : ℕ} {body more : List RawStmt} {weak may : Bool} → weak ≡ may → Stmts text tokens body a b → a ≡ c →
        SpellsBlock text tokens more c d → branch ≡ roll-RawBranch (record { weak = weak; body = body })
        → {y : RawBranch} → y ≡ roll-RawBranch (record { weak = may; body = more }) → NoneNext after_side tokens b →
        NoneNext after_side tokens d → (branch ≡ y) × (b ≡ d)
    inside f body e q is also s r = let z = same_block body e q (fewer after_block after_side refl s)
        (fewer after_block after_side refl r) in (by2 branch_of f z.0 is also, z.1)

    by_weak : {y : RawBranch} {may other : Bool} {body more : List RawStmt} {m n end : ℕ} → SpellsWeak tokens may from m →
        SpellsBlock text tokens body m to → Stmts text tokens body m to
        → branch ≡ roll-RawBranch (record { weak = may; body = body }) → SpellsWeak tokens other from n →
        SpellsBlock text tokens more n end → y ≡ roll-RawBranch (record { weak = other; body = more })
        → NoneNext after_side tokens to → NoneNext after_side tokens end → (branch ≡ y) × (to ≡ end)
    by_weak (SpellsWeak.strong f g) plain body is (SpellsWeak.strong h i) q also s r = inside (f ∙ sym h) body (g ∙ sym i) q is also s r
    by_weak (SpellsWeak.strong f g) plain body is (SpellsWeak.weak h t) q also s r = no_weak plain s g t
    by_weak (SpellsWeak.weak f t) plain body is (SpellsWeak.strong h i) q also s r = no_weak q r i t
    by_weak (SpellsWeak.weak f t) plain body is (SpellsWeak.weak h u) q also s r = inside (f ∙ sym h) body (next_same refl t u) q is also s r

    by_side : (y : RawBranch) (end : ℕ) → SpellsBranch text tokens y from end → NoneNext after_side tokens to →
        NoneNext after_side tokens end → (branch ≡ y) × (to ≡ end)
    by_side y end (SpellsBranch.branched v more also) s r = by_weak w plain body is v more also s r

abbrev SideLink : List ℕ → List Token → RawBranch → ℕ → ℕ → Type 0
SideLink text tokens = Linked (Word keyword.With) tokens (SpellsBranch text tokens)

line_of_sides : {text : List ℕ} {tokens : List Token} {branches : List RawBranch} {from to : ℕ} →
    SpellsBranches text tokens branches from to → Lined (SpellsBranch text tokens) (SideLink text tokens) branches from to
line_of_sides (SpellsBranches.first_branch one is) = line_one one is
line_of_sides (SpellsBranches.more_branches branches w one is) = line_more (line_of_sides branches) (record { m = _; by = w; elem = one }) is

abbrev Sides : List ℕ → List Token → List RawBranch → ℕ → ℕ → Type 0
Sides text tokens branches from to = Lined (One (SpellsBranch text tokens) after_side tokens)
    (Elem (SideLink text tokens) (Keyword keyword.With ∷ []) after_side tokens) branches from to

same_sides : {text : List ℕ} {tokens : List Token} {sides r : List RawBranch} {a b c d : ℕ} → Sides text tokens sides a b → a ≡ c →
    SpellsBranches text tokens r c d
    → NoneNext (Keyword keyword.With ∷ after_side) tokens b → NoneNext (Keyword keyword.With ∷ after_side) tokens d → (sides ≡ r) × (b ≡ d)
same_sides {text} {tokens} line e q s r =
    lines_same (SpellsBranch text tokens) (SideLink text tokens) (Keyword keyword.With ∷ []) after_side (Keyword keyword.With ∷ after_side) tokens
    (linked_begin (Word keyword.With) tokens (SpellsBranch text tokens)) refl refl refl line e (line_of_sides q) s r

-- what is known of an `else`
pub data Otherwise (text : List ℕ) (tokens : List Token) (other : List RawStmt) (from to : ℕ) : Type 0 where
  no_else : other ≡ [] → to ≡ from → Otherwise text tokens other from to
  with_else : {m : ℕ} → Takes tokens (Word keyword.Else) from m → Stmts text tokens other m to → Otherwise text tokens other from to

same_else : {text : List ℕ} {tokens : List Token} {other r : List RawStmt} {a b c d e f : ℕ} → Otherwise text tokens other a b →
    a ≡ c → SpellsElse text tokens r c d
    → Takes tokens (Word keyword.End) b e → Takes tokens (Word keyword.End) d f → (other ≡ r) × (b ≡ d)
same_else (Otherwise.no_else none is) e (SpellsElse.no_else nil also) s r = (none ∙ sym nil, is ∙ (e ∙ sym also))
same_else (Otherwise.no_else none is) e (SpellsElse.with_else u body) s r = clash s (is ∙ e) u refl
same_else (Otherwise.with_else t row) e (SpellsElse.no_else nil also) s r = clash t (e ∙ sym also) r refl
same_else (Otherwise.with_else t row) e (SpellsElse.with_else u body) s r = same_block row (next_same e t u) body (stops s refl) (stops r refl)

-- what follows the arms
else_stops : {text : List ℕ} {tokens : List Token} {other : List RawStmt} {a b c : ℕ} → SpellsElse text tokens other a b →
    Takes tokens (Word keyword.End) b c → NoneNext (Keyword keyword.Elseif ∷ after_block) tokens a
else_stops {tokens = tokens} (SpellsElse.no_else none is) t = subst (λ k. NoneNext (Keyword keyword.Elseif ∷ after_block) tokens k) is (stops t refl)
else_stops (SpellsElse.with_else u body) t = stops u refl

-- ---- statements

-- whatever statement begins there
abbrev Only : List ℕ → List Token → RawStmtKind → ℕ → ℕ → Type 0
Only text tokens what from to = (w : RawStmtKind) (end : ℕ) → SpellsKind text tokens w from end →
    NoneNext after_statement tokens to → NoneNext after_statement tokens end → (what ≡ w) × (to ≡ end)

no_truth : {P : Type 0} {b : Bool} → b ≡ true → b ≡ false → P
no_truth {P} e f = absurd (impossible (sym e ∙ f))
  where
    impossible : true ≡ false → ⊥
    impossible e = cc

ends_expr : {tokens : List Token} {k : ℕ} → NoneNext after_statement tokens k → NoneNext after_expression tokens k
ends_expr s = fewer after_expression after_statement refl s

module _ {text : List ℕ} {tokens : List Token} {what : RawStmtKind} where
  only_typed : {from m n o to : ℕ} {name : Name} {ty : RawType} {initial : Option RawExpr} → Takes tokens (Word keyword.Var) from m →
      SpellsName text tokens name m n → SpellsTyping text tokens ty n o
      → SpellsInitial text tokens initial o to → what ≡ kind.Var name (Some ty) initial → Only text tokens what from to
  only_typed w n ty initial is f end (SpellsKind.typed w' n' ty' initial' also) s r =
      let b = meets_free (one_name n) (next_same refl w w') n' in let c = same_typing ty b.1 ty' in let d = same_initial initial c.1 initial' s r in
      (by3 (λ (a : Name) (b : RawType) (c : Option RawExpr). kind.Var a (Some b) c) b.0 c.0 d.0 is also, d.1)
  only_typed w n ty initial is f end (SpellsKind.inferred w' n' value also) s r = let b =
      meets_free (one_name n) (next_same refl w w') n' in clash ty.sign b.1 value.sign refl
  only_typed w n ty initial is f end q s r = differ (Keyword keyword.Var ∷ []) (lead q) (begun w) refl (begun_lead q) refl

  only_inferred : {from m n to : ℕ} {name : Name} {value : RawExpr} → Takes tokens (Word keyword.Var) from m →
      SpellsName text tokens name m n → SpellsValue text tokens value n to
      → what ≡ kind.Var name None (Some value) → Only text tokens what from to
  only_inferred w n value is f end (SpellsKind.typed w' n' ty' initial' also) s r = let b =
      meets_free (one_name n) (next_same refl w w') n' in clash value.sign b.1 ty'.sign refl
  only_inferred w n value is f end (SpellsKind.inferred w' n' value' also) s r =
      let b = meets_free (one_name n) (next_same refl w w') n' in let c = same_value value b.1 value' (ends_expr s) (ends_expr r) in
      (by2 (λ (a : Name) (b : RawExpr). kind.Var a None (Some b)) b.0 c.0 is also, c.1)
  only_inferred w n value is f end q s r = differ (Keyword keyword.Var ∷ []) (lead q) (begun w) refl (begun_lead q) refl

  only_fixed : {from m n o to : ℕ} {name : Name} {ty : Option RawType} {value : RawExpr} → Takes tokens (Word keyword.Let) from m →
      SpellsName text tokens name m n → SpellsMaybeTyping text tokens ty n o → SpellsValue text tokens value o to
      → what ≡ kind.Let name ty value → Only text tokens what from to
  only_fixed w n ty value is f end (SpellsKind.fixed w' n' ty' value' also) s r =
      let b = meets_free (one_name n) (next_same refl w w') n' in let c = same_maybe ty b.1 ty' (stops value.sign refl) (stops value'.sign refl) in
      let d = same_value value c.1 value' (ends_expr s) (ends_expr r) in (by3 kind.Let b.0 c.0 d.0 is also, d.1)
  only_fixed w n ty value is f end q s r = differ (Keyword keyword.Let ∷ []) (lead q) (begun w) refl (begun_lead q) refl

  only_constant : {from to : ℕ} {constant : RawConstant} → SpellsConstant text tokens constant from to →
      what ≡ kind.Const constant → Only text tokens what from to
  only_constant c is f end (SpellsKind.constant d also) s r = let x = same_constant c refl d (ends_expr s) (ends_expr r) in (by1 kind.Const x.0 is also, x.1)
  only_constant c is f end q s r = differ (Keyword keyword.Const ∷ []) (lead q) (begun c.word) refl (begun_lead q) refl

  only_assign : {from m to : ℕ} {place : RawTarget} {value : RawExpr} → SpellsTarget text tokens place from m →
      SpellsValue text tokens value m to → what ≡ kind.Assign place value → Only text tokens what from to
  only_assign place value is f end (SpellsKind.assign place' value' also) s r =
      let b = meets (only_target place) refl place' (stops value.sign refl) (stops value'.sign refl) in let c =
      same_value value b.1 value' (ends_expr s) (ends_expr r) in
      (by2 kind.Assign b.0 c.0 is also, c.1)
  only_assign place value is f end (SpellsKind.call n inputs outputs also) s r = not_call place (stops value.sign refl) n inputs
  only_assign place value is f end q s r = differ (AnyName ∷ []) (lead q) (begun_target place) refl (begun_lead q) refl

  only_call : {from m n to : ℕ} {name : Name} {inputs : List RawExpr} {outputs : List RawPath} →
      SpellsName text tokens name from m → SpellsInputs text tokens inputs m n → SpellsOutputs text tokens outputs n to
      → what ≡ kind.Call name inputs outputs → Only text tokens what from to
  only_call n inputs outputs is f end (SpellsKind.assign place value also) s r = not_call place (stops value.sign refl) n inputs
  only_call n inputs outputs is f end (SpellsKind.call n' inputs' outputs' also) s r =
      let b = meets_free (one_name n) refl n' in let c = meets_free (only_inputs inputs) b.1 inputs' in let d =
      same_outputs outputs c.1 outputs' s r in (by3 kind.Call b.0 c.0 d.0 is also, d.1)
  only_call n inputs outputs is f end q s r = differ (AnyName ∷ []) (lead q) (begun n.token) refl (begun_lead q) refl

  only_await : {from m to : ℕ} {e : RawExpr} → Takes tokens (Word keyword.Await) from m → SpellsExpr text tokens 0 e m to →
      what ≡ kind.Await e → Only text tokens what from to
  only_await w e is f end (SpellsKind.await w' e' also) s r = let x =
      meets (only_expr e) (next_same refl w w') e' (ends_expr s) (ends_expr r) in (by1 kind.Await x.0 is also, x.1)
  only_await w e is f end q s r = differ (Keyword keyword.Await ∷ []) (lead q) (begun w) refl (begun_lead q) refl

  only_run : {from m n o p to : ℕ} {receiver : Option RawPath} {name : Name} {inputs : List RawExpr} {outputs : List RawPath} →
      Takes tokens (Word keyword.Run) from m → SpellsReceiver text tokens receiver m n → SpellsName text tokens name n o
      → SpellsInputs text tokens inputs o p → SpellsOutputs text tokens outputs p to →
      what ≡ kind.Run receiver name inputs outputs → Only text tokens what from to
  only_run w receiver n inputs outputs is f end (SpellsKind.run w' receiver' n' inputs' outputs' also) s r =
      let b = same_start receiver n inputs (next_same refl w w') receiver' n' inputs' in let d =
      same_outputs outputs b.at outputs' s r in (by4 kind.Run b.receiver b.name b.inputs d.0 is also, d.1)
  only_run w receiver n inputs outputs is f end q s r = differ (Keyword keyword.Run ∷ []) (lead q) (begun w) refl (begun_lead q) refl

  only_cobegin : {from m n to : ℕ} {branches : List RawBranch} → Takes tokens (Word keyword.Cobegin) from m →
      Sides text tokens branches m n → Takes tokens (Word keyword.End) n to → what ≡ kind.Cobegin branches → Only text tokens what from to
  only_cobegin w sides ends is f end (SpellsKind.cobegin w' sides' ends' also) s r = let x =
      same_sides sides (next_same refl w w') sides' (stops ends refl) (stops ends' refl) in (by1 kind.Cobegin x.0 is also, next_same x.1 ends ends')
  only_cobegin w sides ends is f end q s r = differ (Keyword keyword.Cobegin ∷ []) (lead q) (begun w) refl (begun_lead q) refl

  only_guarded : {from m n o p to : ℕ} {e : RawExpr} {guard : GuardKind} {body : List RawStmt} → Takes tokens (Word keyword.When) from m →
      SpellsExpr text tokens 0 e m n → SpellsGuard tokens guard n o → Stmts text tokens body o p
      → Takes tokens (Word keyword.End) p to → what ≡ kind.When guard e body → Only text tokens what from to
  only_guarded w e guard body ends is f end (SpellsKind.guarded w' e' guard' body' ends' also) s r =
      let b = meets (only_expr e) (next_same refl w w') e' (guard_stops guard) (guard_stops guard') in let c = same_guard guard b.1 guard' in
      let d = same_block body c.1 body' (stops ends refl) (stops ends' refl) in (by3 kind.When c.0 b.0 d.0 is also, next_same d.1 ends ends')
  only_guarded w e guard body ends is f end q s r = differ (Keyword keyword.When ∷ []) (lead q) (begun w) refl (begun_lead q) refl

  only_repeat : {from m n to : ℕ} {body : List RawStmt} → Takes tokens (Word keyword.Repeat) from m → Stmts text tokens body m n →
      Takes tokens (Word keyword.End) n to → what ≡ kind.Repeat body → Only text tokens what from to
  only_repeat w body ends is f end (SpellsKind.repeat w' body' ends' also) s r = let x =
      same_block body (next_same refl w w') body' (stops ends refl) (stops ends' refl) in (by1 kind.Repeat x.0 is also, next_same x.1 ends ends')
  only_repeat w body ends is f end (SpellsKind.until w' body' u e ends' also) s r = let x =
      same_block body (next_same refl w w') body' (stops ends refl) (stops u refl) in clash ends x.1 u refl
  only_repeat w body ends is f end q s r = differ (Keyword keyword.Repeat ∷ []) (lead q) (begun w) refl (begun_lead q) refl

  only_until : {from m n o p to : ℕ} {body : List RawStmt} {e : RawExpr} → Takes tokens (Word keyword.Repeat) from m →
      Stmts text tokens body m n → Takes tokens (Word keyword.Until) n o → SpellsExpr text tokens 0 e o p
      → Takes tokens (Word keyword.End) p to → what ≡ kind.Until body e → Only text tokens what from to
  only_until w body u e ends is f end (SpellsKind.repeat w' body' ends' also) s r = let x =
      same_block body (next_same refl w w') body' (stops u refl) (stops ends' refl) in clash u x.1 ends' refl
  only_until w body u e ends is f end (SpellsKind.until w' body' u' e' ends' also) s r =
      let x = same_block body (next_same refl w w') body' (stops u refl) (stops u' refl) in
      let y = meets (only_expr e) (next_same x.1 u u') e' (stops ends refl) (stops ends' refl) in (by2 kind.Until x.0 y.0 is also, next_same y.1 ends ends')
  only_until w body u e ends is f end q s r = differ (Keyword keyword.Repeat ∷ []) (lead q) (begun w) refl (begun_lead q) refl

  only_while : {from m n o p to : ℕ} {e : RawExpr} {body : List RawStmt} → Takes tokens (Word keyword.While) from m →
      SpellsExpr text tokens 0 e m n → Takes tokens (Word keyword.Repeat) n o → Stmts text tokens body o p → Takes tokens (Word keyword.End) p to
      → what ≡ kind.While e body → Only text tokens what from to
  only_while w e t body ends is f end (SpellsKind.while w' e' t' body' ends' also) s r =
      let x = meets (only_expr e) (next_same refl w w') e' (stops t refl) (stops t' refl) in
      let y = same_block body (next_same x.1 t t') body' (stops ends refl) (stops ends' refl) in (by2 kind.While x.0 y.0 is also, next_same y.1 ends ends')
  only_while w e t body ends is f end q s r = differ (Keyword keyword.While ∷ []) (lead q) (begun w) refl (begun_lead q) refl

  only_branching : {from m n to : ℕ} {arms : List RawArm} {other : List RawStmt} → SpellsArms text tokens arms from m →
      Arms text tokens arms from m → SpellsElse text tokens other m n → Otherwise text tokens other m n → Takes tokens (Word keyword.End) n to
      → what ≡ kind.If arms other → Only text tokens what from to
  only_branching plain arms els other ends is f end (SpellsKind.branching arms' els' ends' also) s r =
      let x = same_arms arms arms' (else_stops els ends) (else_stops els' ends') in let y = same_else other x.1 els' ends ends' in
      (by2 kind.If x.0 y.0 is also, next_same y.1 ends ends')
  only_branching plain arms els other ends is f end q s r = differ (Keyword keyword.If ∷ []) (lead q) (begun_arms plain) refl (begun_lead q) refl

  only_returns : {from to : ℕ} → Takes tokens (Word keyword.Return) from to → takes_value tokens from ≡ false → what ≡ kind.Return None →
      Only text tokens what from to
  only_returns w none is f end (SpellsKind.returns w' none' also) s r = (is ∙ sym also, next_same refl w w')
  only_returns w none is f end (SpellsKind.returns_value w' on e also) s r = no_truth on none
  only_returns w none is f end q s r = differ (Keyword keyword.Return ∷ []) (lead q) (begun w) refl (begun_lead q) refl

  only_returns_value : {from m to : ℕ} {e : RawExpr} → Takes tokens (Word keyword.Return) from m → takes_value tokens from ≡ true →
      SpellsExpr text tokens 0 e m to → what ≡ kind.Return (Some e) → Only text tokens what from to
  only_returns_value w on e is f end (SpellsKind.returns w' none also) s r = no_truth on none
  only_returns_value w on e is f end (SpellsKind.returns_value w' on' e' also) s r =
      let x = meets (only_expr e) (next_same refl w w') e' (ends_expr s) (ends_expr r) in (by1 (λ (a : RawExpr). kind.Return (Some a)) x.0 is also, x.1)
  only_returns_value w on e is f end q s r = differ (Keyword keyword.Return ∷ []) (lead q) (begun w) refl (begun_lead q) refl

stmt_of : List Token → ℕ → ℕ → RawStmtKind → RawStmt
stmt_of tokens from to what = roll-RawStmt (record { place = span tokens from to; what = what })

elem_stmt : {text : List ℕ} {tokens : List Token} {s : RawStmt} {what : RawStmtKind} {from to : ℕ} →
    SpellsKind text tokens what from to → Only text tokens what from to
    → s ≡ roll-RawStmt (record { place = span tokens from to; what = what }) →
    Elem (SpellsStmt text tokens) statement_starts after_statement tokens s from to
unfolding stmt_of
elem_stmt {text} {tokens} {s} {what} {from} {to} plain only is = record { begins = begun_kind plain; one = record { only = by_stmt } }
  where
    by_stmt : (y : RawStmt) (end : ℕ) → SpellsStmt text tokens y from end → NoneNext after_statement tokens to →
        NoneNext after_statement tokens end → (s ≡ y) × (to ≡ end)
    by_stmt y end (SpellsStmt.placed q also) t r = let x = only _ end q t r in (by2 (stmt_of tokens from) x.1 x.0 is also, x.1)

module _ {text : List ℕ} {tokens : List Token} where
  mutual
    only_stmt : {s : RawStmt} {from to : ℕ} → SpellsStmt text tokens s from to →
        Elem (SpellsStmt text tokens) statement_starts after_statement tokens s from to
    only_stmt (SpellsStmt.placed what is) = elem_stmt what (only_kind what) is

    only_kind : {what : RawStmtKind} {from to : ℕ} → SpellsKind text tokens what from to → Only text tokens what from to
    only_kind (SpellsKind.typed w n ty initial is) = only_typed w n ty initial is
    only_kind (SpellsKind.inferred w n value is) = only_inferred w n value is
    only_kind (SpellsKind.fixed w n ty value is) = only_fixed w n ty value is
    only_kind (SpellsKind.constant c is) = only_constant c is
    only_kind (SpellsKind.assign place value is) = only_assign place value is
    only_kind (SpellsKind.call n inputs outputs is) = only_call n inputs outputs is
    only_kind (SpellsKind.await w e is) = only_await w e is
    only_kind (SpellsKind.run w receiver n inputs outputs is) = only_run w receiver n inputs outputs is
    only_kind (SpellsKind.cobegin w branches ends is) = only_cobegin w (only_sides branches) ends is
    only_kind (SpellsKind.guarded w e guard body ends is) = only_guarded w e guard (only_block body) ends is
    only_kind (SpellsKind.repeat w body ends is) = only_repeat w (only_block body) ends is
    only_kind (SpellsKind.until w body u e ends is) = only_until w (only_block body) u e ends is
    only_kind (SpellsKind.while w e r body ends is) = only_while w e r (only_block body) ends is
    only_kind (SpellsKind.branching arms other ends is) = only_branching arms (only_arms arms) other (only_else other) ends is
    only_kind (SpellsKind.returns w none is) = only_returns w none is
    only_kind (SpellsKind.returns_value w on e is) = only_returns_value w on e is

    pub only_block : {body : List RawStmt} {from to : ℕ} → SpellsBlock text tokens body from to → Stmts text tokens body from to
    only_block (SpellsBlock.no_stmts none is) = Row.over none is
    only_block (SpellsBlock.more_stmts body s is) = add_row (only_block body) (only_stmt s) is

    only_arm : {head : AnyKeyword} {arm : RawArm} {from to : ℕ} → SpellsArm text tokens head arm from to →
        One (SpellsArm text tokens head) after_block tokens arm from to
    only_arm (SpellsArm.headed w e t body is) = one_arm w e t (only_block body) is

    only_arms : {arms : List RawArm} {from to : ℕ} → SpellsArms text tokens arms from to → Arms text tokens arms from to
    only_arms (SpellsArms.first_arm arm is) = line_one (only_arm arm) is
    only_arms (SpellsArms.more_arms arms arm is) = line_more (only_arms arms) (record { begins = begun_arm arm; one = only_arm arm }) is

    only_else : {other : List RawStmt} {from to : ℕ} → SpellsElse text tokens other from to → Otherwise text tokens other from to
    only_else (SpellsElse.no_else none is) = Otherwise.no_else none is
    only_else (SpellsElse.with_else w body) = Otherwise.with_else w (only_block body)

    only_side : {branch : RawBranch} {from to : ℕ} → SpellsBranch text tokens branch from to →
        One (SpellsBranch text tokens) after_side tokens branch from to
    only_side (SpellsBranch.branched may body is) = one_side may body (only_block body) is

    only_sides : {branches : List RawBranch} {from to : ℕ} → SpellsBranches text tokens branches from to → Sides text tokens branches from to
    only_sides (SpellsBranches.first_branch one is) = line_one (only_side one) is
    only_sides (SpellsBranches.more_branches branches w one is) = line_more (only_sides branches) (linked w (only_side one)) is
