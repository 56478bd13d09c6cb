-- How tokens spell a statement.
use Rattle.std.specs.Prelude.{◌≡◌, ℕ, ◌+◌, List, [], ◌∷◌, ◌++◌, Bool, true, false, ◌&&◌, ◌||◌, nat_eq, slice_get, Option, Some, None}
use Rattle.bl_tree.specs.declared.token.Token.{Token}
use Rattle.bl_tree.specs.declared.token.TokenKind.{TokenKind}
use Rattle.bl_tree.specs.declared.token.TokenKind.TheVariants.{Name as NameToken, Word, Sign}
use Rattle.bl_tree.specs.declared.tree.Guard.{Guard}
use Rattle.bl_lex.specs.declared.sign.TheConstants.{OPEN_PAREN, CLOSE_PAREN, COMMA, DOT, COLON, ASSIGN}
use Rattle.bl_tree.specs.declared.token.Keyword.{Keyword}
use Rattle.bl_tree.specs.declared.token.Keyword.TheVariants as keyword
use Rattle.bl_tree.specs.Keywords.{same_word}
use Rattle.bl_parse_tree.specs.declared.expr.RawExpr.{RawExpr}
use Rattle.bl_parse_tree.specs.declared.expr.RawTarget.{RawTarget}
use Rattle.bl_parse_tree.specs.declared.name.Name.{Name}
use Rattle.bl_parse_tree.specs.declared.stmt.RawArm.{RawArm, roll-RawArm}
use Rattle.bl_parse_tree.specs.declared.stmt.RawBranch.{RawBranch, roll-RawBranch}
use Rattle.bl_parse_tree.specs.declared.stmt.RawConstant.{RawConstant}
use Rattle.bl_parse_tree.specs.declared.stmt.RawPath.{RawPath}
use Rattle.bl_parse_tree.specs.declared.stmt.RawStmt.{RawStmt, roll-RawStmt}
use Rattle.bl_parse_tree.specs.declared.stmt.RawStmtKind.{RawStmtKind}
use Rattle.bl_parse_tree.specs.declared.stmt.RawStmtKind as kind
use Rattle.bl_parse_tree.specs.declared.types.RawType.{RawType}
use Rattle.bl_parse.specs.At.{span, SpellsName, Takes}
use Rattle.bl_parse.specs.Expressions.{SpellsExpr, SpellsTarget, SpellsInputs}
use Rattle.bl_parse.specs.Operators.{begins_expr}
use Rattle.bl_parse.specs.Types.{SpellsType}

-- ---- parts of statements

-- `:` and a type
pub record SpellsTyping (text : List ℕ) (tokens : List Token) (ty : RawType) (from to : ℕ) : Type 0 where
  pub m : ℕ
  pub sign : Takes tokens (Sign COLON) from m
  pub ty_at : SpellsType text tokens ty m to

-- nothing, or `:` and a type
pub data SpellsMaybeTyping (text : List ℕ) (tokens : List Token) : Option RawType → ℕ → ℕ → Type 0 where
  absent : {typing : Option RawType} {from to : ℕ} → typing ≡ None → to ≡ from → SpellsMaybeTyping text tokens typing from to
  written : {typing : Option RawType} {ty : RawType} {from to : ℕ} → SpellsTyping text tokens ty from to
      → typing ≡ Some ty → SpellsMaybeTyping text tokens typing from to

-- `=` and an expression
pub record SpellsValue (text : List ℕ) (tokens : List Token) (value : RawExpr) (from to : ℕ) : Type 0 where
  pub m : ℕ
  pub sign : Takes tokens (Sign ASSIGN) from m
  pub expr : SpellsExpr text tokens 0 value m to

-- nothing, or `=` and an expression
pub data SpellsInitial (text : List ℕ) (tokens : List Token) : Option RawExpr → ℕ → ℕ → Type 0 where
  absent : {initial : Option RawExpr} {from to : ℕ} → initial ≡ None → to ≡ from → SpellsInitial text tokens initial from to
  given : {initial : Option RawExpr} {value : RawExpr} {from to : ℕ} → SpellsValue text tokens value from to → initial ≡ Some value
      → SpellsInitial text tokens initial from to

-- `const`, a name, maybe a type, and a value
pub record SpellsConstant (text : List ℕ) (tokens : List Token) (constant : RawConstant) (from to : ℕ) : Type 0 where
  pub m : ℕ
  pub n : ℕ
  pub o : ℕ
  pub word : Takes tokens (Word keyword.Const) from m
  pub name : SpellsName text tokens constant.name m n
  pub typing : SpellsMaybeTyping text tokens constant.ty n o
  pub value : SpellsValue text tokens constant.value o to

-- `. name`, as many as there are
pub data SpellsFields (text : List ℕ) (tokens : List Token) : List Name → ℕ → ℕ → Type 0 where
  none : {fields : List Name} {from to : ℕ} → fields ≡ [] → to ≡ from → SpellsFields text tokens fields from to
  more : {fields all : List Name} {from m n to : ℕ} {name : Name} → SpellsFields text tokens fields from m
      → Takes tokens (Sign DOT) m n → SpellsName text tokens name n to → all ≡ fields ++ name ∷ [] → SpellsFields text tokens all from to

-- a name and the fields behind it
pub record SpellsPath (text : List ℕ) (tokens : List Token) (path : RawPath) (from to : ℕ) : Type 0 where
  pub m : ℕ
  pub root : SpellsName text tokens path.root from m
  pub fields : SpellsFields text tokens path.fields m to
  pub place : path.place ≡ span tokens from to

-- one or more paths, separated by commas
pub data SpellsPaths (text : List ℕ) (tokens : List Token) : List RawPath → ℕ → ℕ → Type 0 where
  first : {all : List RawPath} {path : RawPath} {from to : ℕ} → SpellsPath text tokens path from to → all ≡ path ∷ [] →
      SpellsPaths text tokens all from to
  more : {all paths : List RawPath} {path : RawPath} {from m n to : ℕ} → SpellsPaths text tokens paths from m → Takes tokens (Sign COMMA) m n
      → SpellsPath text tokens path n to → all ≡ paths ++ path ∷ [] → SpellsPaths text tokens all from to

-- paths in parentheses, with commas between them, or nothing, which is no output either
pub data SpellsOutputs (text : List ℕ) (tokens : List Token) : List RawPath → ℕ → ℕ → Type 0 where
  absent : {outputs : List RawPath} {from to : ℕ} → outputs ≡ [] → to ≡ from → SpellsOutputs text tokens outputs from to
  none : {outputs : List RawPath} {from m to : ℕ} → Takes tokens (Sign OPEN_PAREN) from m → Takes tokens (Sign CLOSE_PAREN) m to
      → outputs ≡ [] → SpellsOutputs text tokens outputs from to
  some : {outputs : List RawPath} {from m n to : ℕ} → Takes tokens (Sign OPEN_PAREN) from m → SpellsPaths text tokens outputs m n
      → Takes tokens (Sign CLOSE_PAREN) n to → SpellsOutputs text tokens outputs from to

-- nothing, or a path and `=`
pub data SpellsReceiver (text : List ℕ) (tokens : List Token) : Option RawPath → ℕ → ℕ → Type 0 where
  absent : {receiver : Option RawPath} {from to : ℕ} → receiver ≡ None → to ≡ from → SpellsReceiver text tokens receiver from to
  given : {receiver : Option RawPath} {path : RawPath} {from m to : ℕ} → SpellsPath text tokens path from m → Takes tokens (Sign ASSIGN) m to
      → receiver ≡ Some path → SpellsReceiver text tokens receiver from to

-- whether the second token is on the line of the first, and an expression may begin with it
abbrev pub goes_on : Option Token → Option Token → Bool
goes_on (Some one) (Some next) = nat_eq one.line next.line && begins_expr next.kind
goes_on (Some one) None = false
goes_on None next = false

-- whether the `return` at a position takes an expression: exactly where one can begin on the same line
abbrev pub takes_value : List Token → ℕ → Bool
takes_value tokens k = goes_on (slice_get tokens k) (slice_get tokens (k + 1))

-- the keywords that a statement may begin with
abbrev pub leads_stmt : Keyword → Bool
leads_stmt k =
    same_word k keyword.Var || (same_word k keyword.Let || (same_word k keyword.Const || (same_word k keyword.Await ||
    (same_word k keyword.Run || (same_word k keyword.Cobegin || (same_word k keyword.When || (same_word k keyword.Repeat ||
    (same_word k keyword.While || (same_word k keyword.If || same_word k keyword.Return)))))))))

-- whether a statement may begin with the token
abbrev pub begins_stmt : Option TokenKind → Bool
begins_stmt (Some NameToken) = true
begins_stmt (Some (Word k)) = leads_stmt k
begins_stmt _ = false

-- the words of the two guards
pub data IsGuard : TokenKind → Guard → Type 0 where
  abort : IsGuard (Word keyword.Abort) Guard.Abort
  reset : IsGuard (Word keyword.Reset) Guard.Reset

-- the token is `abort` or `reset`
pub record SpellsGuard (tokens : List Token) (guard : Guard) (from to : ℕ) : Type 0 where
  pub word : TokenKind
  pub token : Takes tokens word from to
  pub is : IsGuard word guard

-- nothing, or `weak`
pub data SpellsWeak (tokens : List Token) : Bool → ℕ → ℕ → Type 0 where
  strong : {weak : Bool} {from to : ℕ} → weak ≡ false → to ≡ from → SpellsWeak tokens weak from to
  weak : {weak : Bool} {from to : ℕ} → weak ≡ true → Takes tokens (Word keyword.Weak) from to → SpellsWeak tokens weak from to

-- ---- statements

mutual
  -- the tokens from a position up to another spell a statement, and they are its place
  pub data SpellsStmt (text : List ℕ) (tokens : List Token) : RawStmt → ℕ → ℕ → Type 0 where
    placed : {s : RawStmt} {what : RawStmtKind} {from to : ℕ} → SpellsKind text tokens what from to
        → s ≡ roll-RawStmt (record { place = span tokens from to; what = what }) → SpellsStmt text tokens s from to

  -- the tokens from a position up to another spell what a statement does, whichever kind of statement it is
  pub data SpellsKind (text : List ℕ) (tokens : List Token) : RawStmtKind → ℕ → ℕ → Type 0 where
    -- `var`, a name, a type, and maybe a value
    typed : {what : RawStmtKind} {from m n o to : ℕ} {name : Name} {ty : RawType} {initial : Option RawExpr} → Takes tokens (Word keyword.Var) from m
        → SpellsName text tokens name m n → SpellsTyping text tokens ty n o → SpellsInitial text tokens initial o to
        → what ≡ kind.Var name (Some ty) initial → SpellsKind text tokens what from to
    -- `var`, a name and a value
    inferred : {what : RawStmtKind} {from m n to : ℕ} {name : Name} {value : RawExpr} → Takes tokens (Word keyword.Var) from m
        → SpellsName text tokens name m n → SpellsValue text tokens value n to
        → what ≡ kind.Var name None (Some value) → SpellsKind text tokens what from to
    -- `let`, a name, maybe a type, and a value
    fixed : {what : RawStmtKind} {from m n o to : ℕ} {name : Name} {ty : Option RawType} {value : RawExpr} → Takes tokens (Word keyword.Let) from m
        → SpellsName text tokens name m n → SpellsMaybeTyping text tokens ty n o → SpellsValue text tokens value o to
        → what ≡ kind.Let name ty value → SpellsKind text tokens what from to
    constant : {what : RawStmtKind} {from to : ℕ} {constant : RawConstant} → SpellsConstant text tokens constant from to
        → what ≡ kind.Const constant → SpellsKind text tokens what from to
    assign : {what : RawStmtKind} {from m to : ℕ} {place : RawTarget} {value : RawExpr} → SpellsTarget text tokens place from m
        → SpellsValue text tokens value m to
        → what ≡ kind.Assign place value → SpellsKind text tokens what from to
    call : {what : RawStmtKind} {from m n to : ℕ} {name : Name} {inputs : List RawExpr} {outputs : List RawPath} → SpellsName text tokens name from m
        → SpellsInputs text tokens inputs m n → SpellsOutputs text tokens outputs n to
        → what ≡ kind.Call name inputs outputs → SpellsKind text tokens what from to
    await : {what : RawStmtKind} {from m to : ℕ} {e : RawExpr} → Takes tokens (Word keyword.Await) from m → SpellsExpr text tokens 0 e m to
        → what ≡ kind.Await e → SpellsKind text tokens what from to
    -- `run`, maybe what receives the result, a name, inputs and outputs
    run : {what : RawStmtKind} {from m n o p to : ℕ} {receiver : Option RawPath} {name : Name} {inputs : List RawExpr} {outputs : List RawPath}
        → Takes tokens (Word keyword.Run) from m → SpellsReceiver text tokens receiver m n → SpellsName text tokens name n o
        → SpellsInputs text tokens inputs o p → SpellsOutputs text tokens outputs p to
        → what ≡ kind.Run receiver name inputs outputs → SpellsKind text tokens what from to
    -- `cobegin`, branches and `end`
    cobegin : {what : RawStmtKind} {from m n to : ℕ} {branches : List RawBranch} → Takes tokens (Word keyword.Cobegin) from m
        → SpellsBranches text tokens branches m n → Takes tokens (Word keyword.End) n to
        → what ≡ kind.Cobegin branches → SpellsKind text tokens what from to
    -- `when`, a condition, `abort` or `reset`, a block and `end`
    guarded : {what : RawStmtKind} {from m n o p to : ℕ} {e : RawExpr} {guard : Guard} {body : List RawStmt} → Takes tokens (Word keyword.When) from m
        → SpellsExpr text tokens 0 e m n → SpellsGuard tokens guard n o → SpellsBlock text tokens body o p → Takes tokens (Word keyword.End) p to
        → what ≡ kind.When guard e body → SpellsKind text tokens what from to
    -- `repeat`, a block and `end`
    repeat : {what : RawStmtKind} {from m n to : ℕ} {body : List RawStmt} → Takes tokens (Word keyword.Repeat) from m
        → SpellsBlock text tokens body m n → Takes tokens (Word keyword.End) n to
        → what ≡ kind.Repeat body → SpellsKind text tokens what from to
    -- `repeat`, a block, `until`, a condition and `end`
    until : {what : RawStmtKind} {from m n o p to : ℕ} {body : List RawStmt} {e : RawExpr} → Takes tokens (Word keyword.Repeat) from m
        → SpellsBlock text tokens body m n → Takes tokens (Word keyword.Until) n o → SpellsExpr text tokens 0 e o p → Takes tokens (Word keyword.End) p to
        → what ≡ kind.Until body e → SpellsKind text tokens what from to
    -- `while`, a condition, `repeat`, a block and `end`
    while : {what : RawStmtKind} {from m n o p to : ℕ} {e : RawExpr} {body : List RawStmt} → Takes tokens (Word keyword.While) from m
        → SpellsExpr text tokens 0 e m n → Takes tokens (Word keyword.Repeat) n o → SpellsBlock text tokens body o p → Takes tokens (Word keyword.End) p to
        → what ≡ kind.While e body → SpellsKind text tokens what from to
    -- the arms, maybe an `else`, and `end`
    branching : {what : RawStmtKind} {from m n to : ℕ} {arms : List RawArm} {other : List RawStmt} → SpellsArms text tokens arms from m
        → SpellsElse text tokens other m n → Takes tokens (Word keyword.End) n to
        → what ≡ kind.If arms other → SpellsKind text tokens what from to
    -- `return` alone
    returns : {what : RawStmtKind} {from to : ℕ} → Takes tokens (Word keyword.Return) from to → takes_value tokens from ≡ false
        → what ≡ kind.Return None → SpellsKind text tokens what from to
    -- `return` and an expression
    returns_value : {what : RawStmtKind} {from m to : ℕ} {e : RawExpr} → Takes tokens (Word keyword.Return) from m → takes_value tokens from ≡ true
        → SpellsExpr text tokens 0 e m to
        → what ≡ kind.Return (Some e) → SpellsKind text tokens what from to

  -- statements, as many as there are
  pub data SpellsBlock (text : List ℕ) (tokens : List Token) : List RawStmt → ℕ → ℕ → Type 0 where
    no_stmts : {body : List RawStmt} {from to : ℕ} → body ≡ [] → to ≡ from → SpellsBlock text tokens body from to
    more_stmts : {all body : List RawStmt} {s : RawStmt} {from m to : ℕ} → SpellsBlock text tokens body from m → SpellsStmt text tokens s m to
        → all ≡ body ++ s ∷ [] → SpellsBlock text tokens all from to

  -- `if` or `elseif`, a condition, `then` and a block
  pub data SpellsArm (text : List ℕ) (tokens : List Token) : Keyword → RawArm → ℕ → ℕ → Type 0 where
    headed : {head : Keyword} {arm : RawArm} {from m n o to : ℕ} {e : RawExpr} {body : List RawStmt} → Takes tokens (Word head) from m
        → SpellsExpr text tokens 0 e m n → Takes tokens (Word keyword.Then) n o → SpellsBlock text tokens body o to
        → arm ≡ roll-RawArm (record { test = e; body = body }) → SpellsArm text tokens head arm from to

  -- the arm of `if`, and those of `elseif`, as many as there are
  pub data SpellsArms (text : List ℕ) (tokens : List Token) : List RawArm → ℕ → ℕ → Type 0 where
    first_arm : {arms : List RawArm} {arm : RawArm} {from to : ℕ} → SpellsArm text tokens keyword.If arm from to → arms ≡ arm ∷ [] →
        SpellsArms text tokens arms from to
    more_arms : {all arms : List RawArm} {arm : RawArm} {from m to : ℕ} → SpellsArms text tokens arms from m → SpellsArm text tokens keyword.Elseif arm m to
        → all ≡ arms ++ arm ∷ [] → SpellsArms text tokens all from to

  -- nothing, which is no statement, or `else` and a block
  pub data SpellsElse (text : List ℕ) (tokens : List Token) : List RawStmt → ℕ → ℕ → Type 0 where
    no_else : {other : List RawStmt} {from to : ℕ} → other ≡ [] → to ≡ from → SpellsElse text tokens other from to
    with_else : {other : List RawStmt} {from m to : ℕ} → Takes tokens (Word keyword.Else) from m → SpellsBlock text tokens other m to →
        SpellsElse text tokens other from to

  -- maybe `weak`, and a block
  pub data SpellsBranch (text : List ℕ) (tokens : List Token) : RawBranch → ℕ → ℕ → Type 0 where
    branched : {branch : RawBranch} {from m to : ℕ} {weak : Bool} {body : List RawStmt} → SpellsWeak tokens weak from m
        → SpellsBlock text tokens body m to → branch ≡ roll-RawBranch (record { weak = weak; body = body }) → SpellsBranch text tokens branch from to

  -- branches, with `with` between them
  pub data SpellsBranches (text : List ℕ) (tokens : List Token) : List RawBranch → ℕ → ℕ → Type 0 where
    first_branch : {branches : List RawBranch} {branch : RawBranch} {from to : ℕ} → SpellsBranch text tokens branch from to → branches ≡ branch ∷ []
        → SpellsBranches text tokens branches from to
    more_branches : {all branches : List RawBranch} {branch : RawBranch} {from m n to : ℕ} → SpellsBranches text tokens branches from m
        → Takes tokens (Word keyword.With) m n → SpellsBranch text tokens branch n to
        → all ≡ branches ++ branch ∷ [] → SpellsBranches text tokens all from to
