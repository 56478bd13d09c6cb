-- What is spelled as a statement derives one.
use Rattle.std.proofs.Common.{ℕ, Bool, List, [], ◌∷◌, refl}
use Rattle.std.specs.Prelude.{Option}
use Rattle.bl_tree.specs.declared.token.Keyword.{Keyword}
use Rattle.bl_tree.specs.declared.token.Token.{Token}
use Rattle.bl_tree.specs.declared.token.TokenKind.{TokenKind}
use Rattle.bl_tree.specs.declared.tree.Guard.{Guard as GuardKind}
use Rattle.bl_grammar.specs.declared.symbol.Symbol.TheVariants.{Terminal}
use Rattle.bl_tree.specs.declared.token.Keyword.TheVariants as keyword
use Rattle.bl_lex.specs.declared.sign.TheConstants.{COLON, ASSIGN, COMMA, DOT}
use Rattle.bl_parse_syntax.specs.declared.grammar.Part.TheVariants.{Constant, TypeMark, Ty, Block, Stmt, VarTail, Initial, AfterName, CallTail, AssignTail}
use Rattle.bl_parse_syntax.specs.declared.grammar.Part.TheVariants.{Access, RunTail, RunTarget, Weak, Branches, Guard, Until, Elseifs, Else, Inputs, Outputs}
use Rattle.bl_parse_syntax.specs.declared.grammar.Part.TheVariants.{SecondOutputs, OutputList, OutputRest, Path, PathRest, Expr}
use Rattle.bl_parse_syntax.specs.Grammar.{Piece, the, name, word, sign, class_of, productions, IsAmong}
use Rattle.bl_parse_syntax.specs.Grammar.IsAmong.{here, later}
use Rattle.bl_parse_tree.specs.declared.expr.RawExpr.{RawExpr}
use Rattle.bl_parse_tree.specs.declared.name.Name.{Name}
use Rattle.bl_parse_tree.specs.declared.stmt.RawArm.{RawArm}
use Rattle.bl_parse_tree.specs.declared.stmt.RawBranch.{RawBranch}
use Rattle.bl_parse_tree.specs.declared.stmt.RawConstant.{RawConstant}
use Rattle.bl_parse_tree.specs.declared.stmt.RawPath.{RawPath}
use Rattle.bl_parse_tree.specs.declared.stmt.RawStmt.{RawStmt}
use Rattle.bl_parse_tree.specs.declared.stmt.RawStmtKind.{RawStmtKind}
use Rattle.bl_parse_tree.specs.declared.types.RawType.{RawType}
use Rattle.bl_parse.specs.At.{SpellsName}
use Rattle.bl_parse.specs.Statements.{SpellsTyping, SpellsMaybeTyping, SpellsValue, SpellsInitial, SpellsConstant, SpellsFields, SpellsPath, SpellsPaths}
use Rattle.bl_parse.specs.Statements.{SpellsOutputs, SpellsReceiver, IsGuard, SpellsGuard, SpellsWeak, SpellsStmt, SpellsKind, SpellsBlock, SpellsArm}
use Rattle.bl_parse.specs.Statements.{SpellsArms, SpellsElse, SpellsBranch, SpellsBranches}
use Rattle.bl_parse_laws.proofs.Spans.{Spans, Chain, Listed, token, then, join, made, empty, from_there, add, repeated, listed_one, listed_more}
use Rattle.bl_parse_laws.proofs.Returns.{bare, valued}
use Rattle.bl_parse_laws.proofs.Types.{a_name, a_type}
use Rattle.bl_parse_laws.proofs.Expressions.{Reached, target, inputs_of, an_expr}

-- ---- parts of statements

pub typing : {text : List ℕ} {tokens : List Token} {ty : RawType} {from to : ℕ} → SpellsTyping text tokens ty from to →
    Spans (sign COLON ∷ the Ty ∷ []) tokens from to
typing h = then (token h.sign) (a_type h.ty_at)

type_mark : {text : List ℕ} {tokens : List Token} {ty : Option RawType} {from to : ℕ} → SpellsMaybeTyping text tokens ty from to →
    Spans (the TypeMark ∷ []) tokens from to
type_mark (SpellsMaybeTyping.absent none is) = empty TypeMark (later here) (λ n. refl) is
type_mark (SpellsMaybeTyping.written ty is) = made TypeMark here (λ n. refl) (typing ty)

a_value : {text : List ℕ} {tokens : List Token} {value : RawExpr} {from to : ℕ} → SpellsValue text tokens value from to →
    Spans (sign ASSIGN ∷ the Expr ∷ []) tokens from to
a_value h = then (token h.sign) (an_expr h.expr)

initially : {text : List ℕ} {tokens : List Token} {value : Option RawExpr} {from to : ℕ} → SpellsInitial text tokens value from to →
    Spans (the Initial ∷ []) tokens from to
initially (SpellsInitial.absent none is) = empty Initial (later here) (λ n. refl) is
initially (SpellsInitial.given value is) = made Initial here (λ n. refl) (a_value value)

pub a_constant : {text : List ℕ} {tokens : List Token} {constant : RawConstant} {from to : ℕ} →
    SpellsConstant text tokens constant from to → Spans (the Constant ∷ []) tokens from to
a_constant h = made Constant here (λ n. refl) (then (token h.word) (then (a_name h.name) (then (type_mark h.typing) (a_value h.value))))

fields_of : {text : List ℕ} {tokens : List Token} {fields : List Name} {from to : ℕ} → SpellsFields text tokens fields from to →
    Chain (sign DOT ∷ name ∷ []) tokens from to
fields_of (SpellsFields.none none is) = Chain.over is
fields_of (SpellsFields.more fields dot n is) = add (fields_of fields) (then (token dot) (a_name n))

a_path : {text : List ℕ} {tokens : List Token} {path : RawPath} {from to : ℕ} → SpellsPath text tokens path from to →
    Spans (the Path ∷ []) tokens from to
a_path h = made Path here (λ n. refl) (then (a_name h.root)
    (repeated (sign DOT ∷ name ∷ []) PathRest here (λ n. refl) (fields_of h.fields) (empty PathRest (later here) (λ n. refl) refl)))

-- paths with commas between them
abbrev Paths : List Token → ℕ → ℕ → Type 0
Paths tokens from to = Listed (the Path ∷ []) (sign COMMA ∷ the Path ∷ []) tokens from to

paths_of : {text : List ℕ} {tokens : List Token} {paths : List RawPath} {from to : ℕ} → SpellsPaths text tokens paths from to → Paths tokens from to
paths_of (SpellsPaths.first path is) = listed_one (a_path path)
paths_of (SpellsPaths.more paths comma path is) = listed_more (paths_of paths) (then (token comma) (a_path path))

output_list : {tokens : List Token} {from to : ℕ} → Paths tokens from to → Spans (the OutputList ∷ []) tokens from to
output_list l = made OutputList here (λ n. refl) (then l.head
    (repeated (sign COMMA ∷ the Path ∷ []) OutputRest here (λ n. refl) l.rest (empty OutputRest (later here) (λ n. refl) refl)))

outputs_of : {text : List ℕ} {tokens : List Token} {outputs : List RawPath} {from to : ℕ} →
    SpellsOutputs text tokens outputs from to → Spans (the SecondOutputs ∷ []) tokens from to
outputs_of (SpellsOutputs.absent none is) = empty SecondOutputs (later here) (λ n. refl) is
outputs_of (SpellsOutputs.none opens closes is) = made SecondOutputs here (λ n. refl)
    (made Outputs here (λ n. refl) (then (token opens) (then (empty OutputList (later here) (λ n. refl) refl) (token closes))))
outputs_of (SpellsOutputs.some opens paths closes) =
    made SecondOutputs here (λ n. refl) (made Outputs here (λ n. refl) (then (token opens) (then (output_list (paths_of paths)) (token closes))))

calling : {tokens : List Token} {from m to : ℕ} → Spans (the Inputs ∷ []) tokens from m →
    Spans (the SecondOutputs ∷ []) tokens m to → Spans (the CallTail ∷ []) tokens from to
calling inputs outputs = made CallTail here (λ n. refl) (then inputs outputs)

-- what stands behind `run`
running : {text : List ℕ} {tokens : List Token} {receiver : Option RawPath} {n : Name} {from m o to : ℕ} →
    SpellsReceiver text tokens receiver from m → SpellsName text tokens n m o
    → Spans (the CallTail ∷ []) tokens o to → Spans (name ∷ the RunTail ∷ []) tokens from to
running (SpellsReceiver.absent none is) n call = from_there is (then (a_name n) (made RunTail here (λ n. refl) call))
running (SpellsReceiver.given path assign is) n call = then (a_name path.root) (made RunTail (later here) (λ n. refl)
    (repeated (sign DOT ∷ name ∷ []) RunTarget here (λ n. refl) (fields_of path.fields)
    (made RunTarget (later here) (λ n. refl) (then (token assign) (then (a_name n) call)))))

among_guard : {kind : TokenKind} {guard : GuardKind} → IsGuard kind guard → IsAmong (Terminal (class_of kind) ∷ []) (productions Guard)
among_guard IsGuard.abort = here
among_guard IsGuard.reset = later here

a_guard : {tokens : List Token} {guard : GuardKind} {from to : ℕ} → SpellsGuard tokens guard from to → Spans (the Guard ∷ []) tokens from to
a_guard h = made Guard (among_guard h.is) (λ n. refl) (token h.token)

weakly : {tokens : List Token} {weak : Bool} {from to : ℕ} → SpellsWeak tokens weak from to → Spans (the Weak ∷ []) tokens from to
weakly (SpellsWeak.strong none is) = empty Weak (later here) (λ n. refl) is
weakly (SpellsWeak.weak on t) = made Weak here (λ n. refl) (token t)

-- ---- statements

pub a_block : {tokens : List Token} {from to : ℕ} → Chain (the Stmt ∷ []) tokens from to → Spans (the Block ∷ []) tokens from to
a_block c = repeated (the Stmt ∷ []) Block here (λ n. refl) c (empty Block (later here) (λ n. refl) refl)

assigning : {tokens : List Token} {from m to : ℕ} → Reached tokens from m → Spans (sign ASSIGN ∷ the Expr ∷ []) tokens m to →
    Spans (the Stmt ∷ []) tokens from to
assigning r value = made Stmt (later (later (later here))) (λ n. refl)
    (then r.root (made AfterName (later here) (λ n. refl)
    (repeated (the Access ∷ []) AssignTail (later here) (λ n. refl) r.parts (made AssignTail here (λ n. refl) value))))

-- a condition and a block, headed by a keyword
abbrev arm : Keyword → List Piece
arm head = word head ∷ the Expr ∷ word keyword.Then ∷ the Block ∷ []

abbrev Arms : List Token → ℕ → ℕ → Type 0
Arms tokens from to = Listed (arm keyword.If) (arm keyword.Elseif) tokens from to

abbrev Sides : List Token → ℕ → ℕ → Type 0
Sides tokens from to = Listed (the Weak ∷ the Block ∷ []) (word keyword.With ∷ the Weak ∷ the Block ∷ []) tokens from to

if_of : {tokens : List Token} {from m n to : ℕ} → Arms tokens from m → Spans (the Else ∷ []) tokens m n →
    Spans (word keyword.End ∷ []) tokens n to → Spans (the Stmt ∷ []) tokens from to
if_of arms other ends = made Stmt (later (later (later (later (later (later (later (later (later (later here)))))))))) (λ n. refl)
    (join (arm keyword.If) arms.head (then (repeated (arm keyword.Elseif) Elseifs here (λ n. refl) arms.rest
    (empty Elseifs (later here) (λ n. refl) refl)) (then other ends)))

cobegin_of : {tokens : List Token} {from l m to : ℕ} → Spans (word keyword.Cobegin ∷ []) tokens from l → Sides tokens l m →
    Spans (word keyword.End ∷ []) tokens m to → Spans (the Stmt ∷ []) tokens from to
cobegin_of starts sides ends = made Stmt (later (later (later (later (later (later here)))))) (λ n. refl)
    (then starts (join (the Weak ∷ the Block ∷ []) sides.head
    (then (repeated (word keyword.With ∷ the Weak ∷ the Block ∷ []) Branches here (λ n. refl) sides.rest (empty Branches (later here) (λ n. refl) refl)) ends)))

module _ {text : List ℕ} {tokens : List Token} where
  mutual
    a_stmt : {s : RawStmt} {from to : ℕ} → SpellsStmt text tokens s from to → Spans (the Stmt ∷ []) tokens from to
    a_stmt (SpellsStmt.placed what is) = a_kind what

    a_kind : {what : RawStmtKind} {from to : ℕ} → SpellsKind text tokens what from to → Spans (the Stmt ∷ []) tokens from to
    a_kind (SpellsKind.typed w n ty initial is) = made Stmt here (λ n. refl)
        (then (token w) (then (a_name n) (made VarTail here (λ n. refl) (then (token ty.sign) (then (a_type ty.ty_at) (initially initial))))))
    a_kind (SpellsKind.inferred w n value is) = made Stmt here (λ n. refl)
        (then (token w) (then (a_name n) (made VarTail (later here) (λ n. refl) (a_value value))))
    a_kind (SpellsKind.fixed w n ty value is) = made Stmt (later here) (λ n. refl) (then (token w) (then (a_name n) (then (type_mark ty) (a_value value))))
    a_kind (SpellsKind.constant c is) = made Stmt (later (later here)) (λ n. refl) (a_constant c)
    a_kind (SpellsKind.assign place value is) = assigning (target place) (a_value value)
    a_kind (SpellsKind.call n inputs outputs is) = made Stmt (later (later (later here))) (λ n. refl)
        (then (a_name n) (made AfterName here (λ n. refl) (calling (inputs_of inputs) (outputs_of outputs))))
    a_kind (SpellsKind.await w e is) = made Stmt (later (later (later (later here)))) (λ n. refl) (then (token w) (an_expr e))
    a_kind (SpellsKind.run w receiver n inputs outputs is) =
        made Stmt (later (later (later (later (later here))))) (λ n. refl)
        (then (token w) (running receiver n (calling (inputs_of inputs) (outputs_of outputs))))
    a_kind (SpellsKind.cobegin w branches ends is) = cobegin_of (token w) (sides branches) (token ends)
    a_kind (SpellsKind.guarded w e guard body ends is) =
        made Stmt (later (later (later (later (later (later (later here))))))) (λ n. refl)
        (then (token w) (then (an_expr e) (then (a_guard guard) (then (a_block (stmts body)) (token ends)))))
    a_kind (SpellsKind.repeat w body ends is) = made Stmt (later (later (later (later (later (later (later (later here))))))))
        (λ n. refl) (then (token w) (then (a_block (stmts body)) (then (empty Until (later here) (λ n. refl) refl) (token ends))))
    a_kind (SpellsKind.until w body u e ends is) = made Stmt (later (later (later (later (later (later (later (later here))))))))
        (λ n. refl) (then (token w) (then (a_block (stmts body)) (then (made Until here (λ n. refl) (then (token u) (an_expr e))) (token ends))))
    a_kind (SpellsKind.while w e r body ends is) = made Stmt
        (later (later (later (later (later (later (later (later (later here))))))))) (λ n. refl)
        (then (token w) (then (an_expr e) (then (token r) (then (a_block (stmts body)) (token ends)))))
    a_kind (SpellsKind.branching arms other ends is) = if_of (arms_of arms) (otherwise other) (token ends)
    a_kind (SpellsKind.returns w none is) = made Stmt (later
        (later (later (later (later (later (later (later (later (later (later here))))))))))) (λ n. refl) (then (token w) (bare w none))
    a_kind (SpellsKind.returns_value w on e is) = made Stmt
        (later (later (later (later (later (later (later (later (later (later (later here))))))))))) (λ n. refl) (then (token w) (valued w on (an_expr e)))

    pub stmts : {body : List RawStmt} {from to : ℕ} → SpellsBlock text tokens body from to → Chain (the Stmt ∷ []) tokens from to
    stmts (SpellsBlock.no_stmts none is) = Chain.over is
    stmts (SpellsBlock.more_stmts body s is) = add (stmts body) (a_stmt s)

    an_arm : {head : Keyword} {one : RawArm} {from to : ℕ} → SpellsArm text tokens head one from to → Spans (arm head) tokens from to
    an_arm (SpellsArm.headed w e t body is) = then (token w) (then (an_expr e) (then (token t) (a_block (stmts body))))

    arms_of : {arms : List RawArm} {from to : ℕ} → SpellsArms text tokens arms from to → Arms tokens from to
    arms_of (SpellsArms.first_arm one is) = listed_one (an_arm one)
    arms_of (SpellsArms.more_arms arms one is) = listed_more (arms_of arms) (an_arm one)

    otherwise : {other : List RawStmt} {from to : ℕ} → SpellsElse text tokens other from to → Spans (the Else ∷ []) tokens from to
    otherwise (SpellsElse.no_else none is) = empty Else (later here) (λ n. refl) is
    otherwise (SpellsElse.with_else w body) = made Else here (λ n. refl) (then (token w) (a_block (stmts body)))

    a_side : {branch : RawBranch} {from to : ℕ} → SpellsBranch text tokens branch from to → Spans (the Weak ∷ the Block ∷ []) tokens from to
    a_side (SpellsBranch.branched may body is) = then (weakly may) (a_block (stmts body))

    sides : {branches : List RawBranch} {from to : ℕ} → SpellsBranches text tokens branches from to → Sides tokens from to
    sides (SpellsBranches.first_branch one is) = listed_one (a_side one)
    sides (SpellsBranches.more_branches branches w one is) = listed_more (sides branches) (then (token w) (a_side one))
