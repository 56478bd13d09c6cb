-- The places of the parts of a file: each from the start of its first token in the text to the end of its last. A walk goes over
-- the text and the file side by side, as many pieces as each part has tokens, and sets them.
use Rattle.std.specs.Prelude.{◌≡◌, ℕ, suc, ◌+◌, Bool, true, false, cond, List, [], ◌∷◌, ◌++◌, length, drop, map, fold, option_map, Option, Some, None, codes}
use Rattle.std.specs.Fmt.{decimal}
use Rattle.bl_tree.specs.declared.place.Place.{Place}
use Rattle.bl_tree.specs.declared.c.CStruct.{CStruct}
use Rattle.bl_tree.specs.declared.c.CFunc.{CFunc}
use Rattle.bl_tree.specs.declared.c.CPlace.{CPlace, CPlace-F, fold-CPlace, roll-CPlace}
use Rattle.bl_tree.specs.declared.c.CStep.{CStep, CStep-F, fold-CStep, roll-CStep}
use Rattle.bl_tree.specs.declared.c.CIndex.{CIndex, CIndex-F, fold-CIndex, roll-CIndex}
use Rattle.bl_tree.specs.declared.c.CExpr.{CExpr, CExpr-F, fold-CExpr, roll-CExpr}
use Rattle.bl_tree.specs.declared.c.CExprKind.{CExprKind, CExprKind-F, fold-CExprKind, roll-CExprKind}
use Rattle.bl_tree.specs.declared.c.CCall.{CCall, CCall-F, fold-CCall, roll-CCall}
use Rattle.bl_tree.specs.declared.c.CArg.{CArg, CArg-F, fold-CArg, roll-CArg}
use Rattle.bl_tree.specs.declared.c.CStmt.{CStmt, CStmt-F, fold-CStmt, roll-CStmt}
use Rattle.bl_tree.specs.declared.c.CStmtKind.{CStmtKind, CStmtKind-F, fold-CStmtKind, roll-CStmtKind}
use Rattle.bl_tree.specs.Reduce.{joined}
use Rattle.bl_ctext.specs.Token.{Token, is_blank}
use Rattle.bl_ctext.specs.Spelling.{comma_before, with_commas, literal_tokens, operator_sign, index_front, root_tokens, zeros_tokens, turn_declared}
use Rattle.bl_ctext.specs.Spelling.{turn_counted, struct_tokens, param_tokens, local_tokens, func_front}
use Rattle.bl_ctext.specs.Prelude.{prelude}
use Rattle.bl_ctext.specs.declared.file.CFile.{CFile}
use Rattle.bl_cparse_syntax.specs.Pieces.{pieces, first_piece}

-- the position of a walk over the pieces of a text: behind those before this offset
pub record TextSpot : Type 0 where
  pub text : List ℕ
  pub at : ℕ

-- how many blanks the bytes begin with
abbrev pub blanks : List ℕ → ℕ
blanks [] = 0
blanks (b ∷ bs) = cond (is_blank b) (suc (blanks bs)) 0

-- the offset at which the next piece starts
unfoldable pub start_of : TextSpot → ℕ
start_of s = s.at + blanks (drop s.at s.text)

-- the offset at which the next piece ends
unfoldable pub end_of : TextSpot → ℕ
end_of s = start_of s + length (first_piece (pieces (drop s.at s.text)))

-- the walk behind the next piece
abbrev pub next_spot : TextSpot → TextSpot
next_spot s = record { text = s.text; at = end_of s }

-- behind as many pieces as these tokens
abbrev pub behind_tokens : List Token → TextSpot → TextSpot
behind_tokens tokens s = fold (λ spot token. next_spot spot) s tokens

-- the place from the start of the next piece up to the other walk's position
abbrev pub span : TextSpot → TextSpot → Place
span s behind = record { start = start_of s; end = behind.at }

-- a walk over a part: the part with its places set, and what stands behind it
abbrev pub PlaceWalk : Type 0 → Type 0
PlaceWalk A = TextSpot → A × TextSpot

-- what is made of the part, and the same behind the tokens that follow it
abbrev pub made : {A B : Type 0} → (A → B) → List Token → A × TextSpot → B × TextSpot
made f tokens walked = (f walked.0, behind_tokens tokens walked.1)

-- a walk behind a part, and what is made of both
abbrev pub and_then : {A B C : Type 0} → (A → B → C) → A × TextSpot → PlaceWalk B → C × TextSpot
and_then f walked walk = (f walked.0 (walk walked.1).0, (walk walked.1).1)

-- parts one after another
abbrev pub in_turn : {A : Type 0} → List (PlaceWalk A) → PlaceWalk (List A)
in_turn [] s = ([], s)
in_turn (walk ∷ walks) s = and_then (λ x xs. x ∷ xs) (walk s) (in_turn walks)

-- parts with a comma before each, but none before the first of all
abbrev pub in_list : {A : Type 0} → Bool → List (PlaceWalk A) → PlaceWalk (List A)
in_list first [] s = ([], s)
in_list first (walk ∷ walks) s = and_then (λ x xs. x ∷ xs) (walk (behind_tokens (comma_before first) s)) (in_list false walks)

-- a part, or nothing
abbrev pub if_there : {A : Type 0} → Option (PlaceWalk A) → PlaceWalk (Option A)
if_there None s = (None, s)
if_there (Some walk) s = made Some [] (walk s)

-- one step of the fold for each part: a walk over it, where those over its own parts are known
abbrev pub arg_step : CArg-F (PlaceWalk CArg) (PlaceWalk CExprKind) (PlaceWalk CCall) (PlaceWalk CExpr) (PlaceWalk CIndex) (PlaceWalk CPlace) (PlaceWalk CStep) → PlaceWalk CArg
arg_step (CArg-F.Value value) s = made (λ e. roll-CArg (CArg-F.Value e)) [] (value s)
arg_step (CArg-F.Address at) s = made (λ p. roll-CArg (CArg-F.Address p)) [] (at (behind_tokens (codes "&" ∷ []) s))

-- the walk over an expression's form
abbrev pub kind_step : CExprKind-F (PlaceWalk CArg) (PlaceWalk CExprKind) (PlaceWalk CCall) (PlaceWalk CExpr) (PlaceWalk CIndex) (PlaceWalk CPlace) (PlaceWalk CStep) → PlaceWalk CExprKind
kind_step (CExprKind-F.Literal scalar n) s = (roll-CExprKind (CExprKind-F.Literal scalar n), behind_tokens (literal_tokens scalar n) s)
kind_step (CExprKind-F.Read at) s = made (λ p. roll-CExprKind (CExprKind-F.Read p)) [] (at s)
kind_step (CExprKind-F.Call call) s = made (λ c. roll-CExprKind (CExprKind-F.Call c)) [] (call s)
kind_step (CExprKind-F.Not operand) s = made (λ e. roll-CExprKind (CExprKind-F.Not e)) (codes ")" ∷ []) (operand (behind_tokens (codes "(" ∷ codes "!" ∷ []) s))
kind_step (CExprKind-F.Two o left right) s =
    made (λ e. e) (codes ")" ∷ [])
    (and_then (λ l r. roll-CExprKind (CExprKind-F.Two o l r)) (made (λ e. e) (operator_sign o ∷ []) (left (behind_tokens (codes "(" ∷ []) s))) right)

-- the walk over a call: its name, then its arguments with their commas
abbrev pub call_step : CCall-F (PlaceWalk CArg) (PlaceWalk CExprKind) (PlaceWalk CCall) (PlaceWalk CExpr) (PlaceWalk CIndex) (PlaceWalk CPlace) (PlaceWalk CStep) → PlaceWalk CCall
call_step c s = made (λ args. roll-CCall (record { name = c.name; args = args })) (codes ")" ∷ [])
    (in_list true c.args (behind_tokens (c.name ∷ codes "(" ∷ []) s))

-- an expression, whose place is set
abbrev pub expr_from : TextSpot → CExprKind × TextSpot → CExpr × TextSpot
expr_from s walked = (roll-CExpr (record { place = span s walked.1; what = walked.0 }), walked.1)

-- the walk over an expression, which sets its place
abbrev pub expr_step : CExpr-F (PlaceWalk CArg) (PlaceWalk CExprKind) (PlaceWalk CCall) (PlaceWalk CExpr) (PlaceWalk CIndex) (PlaceWalk CPlace) (PlaceWalk CStep) → PlaceWalk CExpr
expr_step e s = expr_from s (e.what s)

-- the walk over an index and its brackets
abbrev pub index_step : CIndex-F (PlaceWalk CArg) (PlaceWalk CExprKind) (PlaceWalk CCall) (PlaceWalk CExpr) (PlaceWalk CIndex) (PlaceWalk CPlace) (PlaceWalk CStep) → PlaceWalk CIndex
index_step i s =
    made (λ e. roll-CIndex (record { signed = i.signed; at = e; length = i.length }))
    (codes "," ∷ decimal i.length ∷ codes ")" ∷ codes "]" ∷ []) (i.at (behind_tokens (index_front i.signed) s))

-- the walk over a place: its root, then its steps
abbrev pub place_step : CPlace-F (PlaceWalk CArg) (PlaceWalk CExprKind) (PlaceWalk CCall) (PlaceWalk CExpr) (PlaceWalk CIndex) (PlaceWalk CPlace) (PlaceWalk CStep) → PlaceWalk CPlace
place_step p s = made (λ steps. roll-CPlace (record { through = p.through; name = p.name; steps = steps })) []
    (in_turn p.steps (behind_tokens (root_tokens p.through p.name) s))

-- the walk over a step: the member, then its index where there is one
abbrev pub step_step : CStep-F (PlaceWalk CArg) (PlaceWalk CExprKind) (PlaceWalk CCall) (PlaceWalk CExpr) (PlaceWalk CIndex) (PlaceWalk CPlace) (PlaceWalk CStep) → PlaceWalk CStep
step_step t s = made (λ index. roll-CStep (record { member = t.member; index = index })) [] (if_there t.index (behind_tokens (codes "." ∷ t.member ∷ []) s))

-- the walk over an expression
abbrev pub expr_walk : CExpr → PlaceWalk CExpr
expr_walk = fold-CExpr _ _ _ _ _ _ _ arg_step kind_step call_step expr_step index_step place_step step_step

-- the walk over an expression's form
abbrev pub kind_walk : CExprKind → PlaceWalk CExprKind
kind_walk = fold-CExprKind _ _ _ _ _ _ _ arg_step kind_step call_step expr_step index_step place_step step_step

-- the walk over a place
abbrev pub place_walk : CPlace → PlaceWalk CPlace
place_walk = fold-CPlace _ _ _ _ _ _ _ arg_step kind_step call_step expr_step index_step place_step step_step

-- the walk over a step of a place
abbrev pub step_walk : CStep → PlaceWalk CStep
step_walk = fold-CStep _ _ _ _ _ _ _ arg_step kind_step call_step expr_step index_step place_step step_step

-- the walk over an index
abbrev pub index_walk : CIndex → PlaceWalk CIndex
index_walk = fold-CIndex _ _ _ _ _ _ _ arg_step kind_step call_step expr_step index_step place_step step_step

-- the walk over a call
abbrev pub call_walk : CCall → PlaceWalk CCall
call_walk = fold-CCall _ _ _ _ _ _ _ arg_step kind_step call_step expr_step index_step place_step step_step

-- the walk over an argument
abbrev pub arg_walk : CArg → PlaceWalk CArg
arg_walk = fold-CArg _ _ _ _ _ _ _ arg_step kind_step call_step expr_step index_step place_step step_step

-- the walk over an `else` that may be absent
abbrev pub else_walk : Option (List (PlaceWalk CStmt)) → PlaceWalk (Option (List CStmt))
else_walk None s = (None, s)
else_walk (Some parts) s = made Some (codes "}" ∷ []) (in_turn parts (behind_tokens (codes "else" ∷ codes "{" ∷ []) s))

-- one step of the fold for statements
abbrev pub stmt_kind_step : CStmtKind-F (PlaceWalk CStmtKind) (PlaceWalk CStmt) → PlaceWalk CStmtKind
stmt_kind_step (CStmtKind-F.Set at value) s =
    made (λ k. k) (codes ";" ∷ [])
    (and_then (λ p e. roll-CStmtKind (CStmtKind-F.Set p e)) (made (λ p. p) (codes "=" ∷ []) (place_walk at s)) (expr_walk value))
stmt_kind_step (CStmtKind-F.Clear at name) s = made (λ p. roll-CStmtKind (CStmtKind-F.Clear p name)) (zeros_tokens name) (place_walk at s)
stmt_kind_step (CStmtKind-F.Call call) s = made (λ c. roll-CStmtKind (CStmtKind-F.Call c)) (codes ";" ∷ []) (call_walk call s)
stmt_kind_step (CStmtKind-F.If test then_part else_part) s =
    and_then (λ (front : CExpr × List CStmt) e. roll-CStmtKind (CStmtKind-F.If front.0 front.1 e))
    (made (λ front. front) (codes "}" ∷ [])
    (and_then (λ t stmts. (t, stmts)) (made (λ t. t) (codes ")" ∷ codes "{" ∷ [])
    (expr_walk test (behind_tokens (codes "if" ∷ codes "(" ∷ []) s))) (in_turn then_part)))
    (else_walk else_part)
stmt_kind_step (CStmtKind-F.Loop turn test body) s =
    made (λ k. k) (codes "}" ∷ codes "}" ∷ [])
    (and_then (λ t stmts. roll-CStmtKind (CStmtKind-F.Loop turn t stmts))
    (made (λ t. t) (codes ")" ∷ turn_counted turn) (expr_walk test (behind_tokens (turn_declared turn ++ codes "(" ∷ []) s))) (in_turn body))
stmt_kind_step CStmtKind-F.Break s = (roll-CStmtKind CStmtKind-F.Break, behind_tokens (codes "break" ∷ codes ";" ∷ []) s)
stmt_kind_step (CStmtKind-F.Return value) s =
    made (λ v. roll-CStmtKind (CStmtKind-F.Return v)) (codes ";" ∷ []) (if_there (option_map expr_walk value) (behind_tokens (codes "return" ∷ []) s))

-- a statement, whose place is set
abbrev pub stmt_from : TextSpot → CStmtKind × TextSpot → CStmt × TextSpot
stmt_from s walked = (roll-CStmt (record { place = span s walked.1; what = walked.0 }), walked.1)

-- the walk over a statement, which sets its place
abbrev pub stmt_step : CStmt-F (PlaceWalk CStmtKind) (PlaceWalk CStmt) → PlaceWalk CStmt
stmt_step stmt s = stmt_from s (stmt.what s)

-- the walk over a statement
abbrev pub stmt_walk : CStmt → PlaceWalk CStmt
stmt_walk = fold-CStmt _ _ stmt_kind_step stmt_step

-- the walk over a statement's form
abbrev pub stmt_kind_walk : CStmtKind → PlaceWalk CStmtKind
stmt_kind_walk = fold-CStmtKind _ _ stmt_kind_step stmt_step

-- a struct
abbrev pub struct_walk : CStruct → PlaceWalk CStruct
struct_walk x s = (record { place = span s (behind_tokens (struct_tokens x) s); name = x.name; members = x.members }, behind_tokens (struct_tokens x) s)

-- a function up to its statements
abbrev pub head_tokens : CFunc → List Token
head_tokens f = func_front f ++ (with_commas (map param_tokens f.params) ++ (codes ")" ∷ codes "{" ∷ joined (map local_tokens f.locals)))

-- a function, whose place is set
abbrev pub func_from : CFunc → TextSpot → List CStmt × TextSpot → CFunc × TextSpot
func_from f s walked =
    (record { place = span s walked.1; fixed = f.fixed; result = f.result; name = f.name; params = f.params; locals = f.locals; body = walked.0 }, walked.1)

-- the walk over a function, which sets its place
abbrev pub func_walk : CFunc → PlaceWalk CFunc
func_walk f s = func_from f s (made (λ body. body) (codes "}" ∷ []) (in_turn (map stmt_walk f.body) (behind_tokens (head_tokens f) s)))

-- the structs and then the functions
abbrev pub file_walk : CFile → PlaceWalk (List CStruct × List CFunc)
file_walk file s = and_then (λ structs funcs. (structs, funcs)) (in_turn (map struct_walk file.structs) s) (in_turn (map func_walk file.funcs))

-- the parts of the file have their places already: a walk from behind the prelude on changes nothing
abbrev pub HasPlaces : List ℕ → CFile → Type 0
HasPlaces text file = (file_walk file (record { text = text; at = length prelude })).0 ≡ (file.structs, file.funcs)
