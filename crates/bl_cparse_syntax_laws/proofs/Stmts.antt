-- The tokens of a statement that has a spelling derive.
use Rattle.std.proofs.Common.{◌≡◌, ℕ, ◌+◌, ◌-◌, ◌≤◌, true, false, ◌&&◌, List, [], ◌∷◌, ◌++◌, map, Option, Some, None, refl, sym, ap, ◌∙◌, subst, append_assoc}
use Rattle.std.proofs.Common.{arith, codes}
use Rattle.bl_tree.proofs.Basics.{and_first, and_second}
use Rattle.bl_tree.specs.declared.place.Place.{Place as TextPlace}
use Rattle.bl_tree.specs.declared.c.CExpr.{CExpr}
use Rattle.bl_tree.specs.declared.c.CStmt.{CStmt, fold-roll-CStmt, roll-CStmt, ind-CStmt}
use Rattle.bl_tree.specs.declared.c.CStmtKind.{CStmtKind, CStmtKind-F, fold-roll-CStmtKind, map-CStmtKind, roll-CStmtKind}
use Rattle.bl_tree.specs.Reduce.{all_of, joined}
use Rattle.bl_ctext.specs.Token.{Token}
use Rattle.bl_ctext.specs.Names.{is_struct_name, is_turn_name}
use Rattle.bl_ctext.specs.Spelling.{expr_tokens, place_tokens, ccall_tokens, result_tokens, condition_tokens, zeros_tokens, turn_declared, turn_counted}
use Rattle.bl_ctext.specs.Spelling.{stmt_tokens, stmt_kind_tokens}
use Rattle.bl_ctext.specs.Spellable.{most_open, spells_expr, spells_place, spells_result, spells_stmt, spells_stmt_kind}
use Rattle.bl_ctext.proofs.ExprNesting.{expr-nests}
use Rattle.bl_ctext.proofs.Nesting.{is_bracket, open_after, most_open-first, most_open-append}
use Rattle.bl_ctext.proofs.PlainWords.{turn_name-plain}
use Rattle.bl_cparse_syntax.specs.declared.grammar.Part.TheVariants.{Stmts, Stmt, Else, Turns, AssignTail, Value, AfterOpen, Result, Expr}
use Rattle.bl_cparse_syntax.specs.Grammar.{Wanted}
use Rattle.bl_cparse_syntax.specs.Grammar.IsAmong.{here, later}
use Rattle.bl_cparse_syntax_laws.proofs.Shallow.{Goes, at, by_production, roomed, free, open_then, close_then, word_then, one_open, one_behind, stays, closed, behind}
use Rattle.bl_cparse_syntax_laws.proofs.Literals.{OfKindTokens}
use Rattle.bl_cparse_syntax_laws.proofs.Lists.{Whole, Each, OfPlaceTokens, apart, apart_twice, struct_name, value_of, whole_expr}
use Rattle.bl_cparse_syntax_laws.proofs.Exprs.{OfCallTokens, each_shown, expr_goes, whole_place, whole_call}

-- statements one after another

pub stmts_goes : (parts : List (List Token)) → Each (Whole Stmt) parts → Whole Stmts (joined parts)
stmts_goes [] each k ss ts go = free k k Stmts ss ts (later here) (omega arith) go
stmts_goes (xs ∷ parts) each k ss ts go = free k k Stmts ss ((xs ++ joined parts) ++ ts) here (omega arith)
    (apart k _ xs (joined parts) ts (each.0 k _ (joined parts ++ ts) (stmts_goes parts each.1 k ss ts go)))

-- what is assigned

set_goes : (xs ys : List Token) → OfPlaceTokens xs → OfKindTokens ys → Whole Stmt (xs ++ (codes "=" ∷ (ys ++ codes ";" ∷ [])))
set_goes xs ys of_place of_value k ss ts go =
    apart k _ xs _ ts (of_place.set k ss (codes "=" ∷ ((ys ++ codes ";" ∷ []) ++ ts))
    (free k k AssignTail ss (codes "=" ∷ ((ys ++ codes ";" ∷ []) ++ ts)) here (omega arith) (word_then k _ _ _ refl
    (apart k _ ys (codes ";" ∷ []) ts (value_of k _ (codes ";" ∷ ts) ys (of_value k _ (codes ";" ∷ ts) (word_then k _ _ _ refl go)))))))

clear_goes : (xs : List Token) (name : Token) → OfPlaceTokens xs → is_struct_name name ≡ true → Whole Stmt (xs ++ zeros_tokens name)
clear_goes xs name of_place h k ss ts go =
    apart k _ xs _ ts (of_place.set k ss (zeros_tokens name ++ ts)
    (free k k AssignTail ss (zeros_tokens name ++ ts) here (omega arith) (word_then k _ _ _ refl
    (roomed k k Value _ (codes "(" ∷ codes "struct" ∷ name ∷ codes ")" ∷ codes "{" ∷ codes "0" ∷ codes "}" ∷ codes ";" ∷ ts) here
    (λ few. one_open k (codes "struct" ∷ name ∷ codes ")" ∷ codes "{" ∷ codes "0" ∷ codes "}" ∷ codes ";" ∷ ts) few)
    (open_then k _ _ _ refl (free (k + 1) k AfterOpen _
    (codes "struct" ∷ name ∷ codes ")" ∷ codes "{" ∷ codes "0" ∷ codes "}" ∷ codes ";" ∷ ts) here (omega arith)
    (word_then (k + 1) _ _ _ refl (struct_name name h (k + 1) k _ _ (close_then k _ _ _ refl refl
    (open_then k _ _ _ refl (word_then (k + 1) _ _ _ refl (close_then k _ _ _ refl refl (word_then k _ _ _ refl go)))))))))))))

call_goes : (xs : List Token) → OfCallTokens xs → Whole Stmt (xs ++ codes ";" ∷ [])
call_goes xs of k ss ts go = apart k _ xs (codes ";" ∷ []) ts (of.alone k ss ts go)

-- branches

-- the tokens of an `else`, or none
else_goes : (other : List Token) → Whole Else other → (test inner : List Token) → Whole Expr test → Whole Stmts inner
    → Whole Stmt (codes "if" ∷ ((codes "(" ∷ (test ++ codes ")" ∷ [])) ++ ((codes "{" ∷ (inner ++ codes "}" ∷ [])) ++ other)))
else_goes other of_other test inner of_test of_inner k ss ts go =
    let front : List Token = codes "{" ∷ ((inner ++ codes "}" ∷ []) ++ other) in
    roomed k k Stmt ss (codes "if" ∷ codes "(" ∷ (((test ++ codes ")" ∷ []) ++ front) ++ ts)) (later (later (later here)))
    (λ few. one_behind k (codes "if") (((test ++ codes ")" ∷ []) ++ front) ++ ts) refl few)
    (word_then k _ _ _ refl (open_then k _ _ _ refl
    (apart_twice (k + 1) _ test (codes ")" ∷ []) front ts (of_test (k + 1) _ (codes ")" ∷ (front ++ ts))
    (close_then k _ _ _ refl refl (open_then k _ _ _ refl
    (apart_twice (k + 1) _ inner (codes "}" ∷ []) other ts (of_inner (k + 1) _ (codes "}" ∷ (other ++ ts))
    (close_then k _ _ _ refl refl (of_other k ss ts go))))))))))

no_else : Whole Else []
no_else k ss ts go = free k k Else ss ts (later here) (omega arith) go

some_else : (inner : List Token) → Whole Stmts inner → Whole Else (codes "else" ∷ codes "{" ∷ (inner ++ codes "}" ∷ []))
some_else inner of k ss ts go = roomed_else
  where
    roomed_else : Goes k (at k Else ∷ ss) (codes "else" ∷ codes "{" ∷ ((inner ++ codes "}" ∷ []) ++ ts))
    roomed_else = free k k Else ss (codes "else" ∷ codes "{" ∷ ((inner ++ codes "}" ∷ []) ++ ts)) here (omega arith)
        (word_then k _ _ _ refl (open_then k _ _ _ refl (apart (k + 1) _ inner (codes "}" ∷ []) ts
        (of (k + 1) _ (codes "}" ∷ ts) (close_then k _ _ _ refl refl go)))))

-- loops

abbrev loop_rest : Token → List Token → List Token
loop_rest turn after = codes "{" ∷ turn ∷ codes "=" ∷ codes "bl_turn" ∷ codes "(" ∷ turn ∷ codes ")" ∷ codes ";" ∷ after

abbrev loop_front : Token → List Token → List Token
loop_front turn after = codes "{" ∷ codes "uint32_t" ∷ turn ∷ codes "=" ∷ codes "0" ∷ codes ";" ∷ codes "while" ∷ codes "(" ∷ after

-- behind the condition as many brackets are open as before it
condition_closes : (k : ℕ) (e : CExpr) (after : List Token) → spells_expr e ≡ true → most_open k (expr_tokens e ++ after) ≤ 2000 →
    most_open k after ≤ 2000
condition_closes k e after h few =
    let plus : k + 0 ≡ k = omega arith in
    let same : open_after k (expr_tokens e) ≡ k = ap (λ n. open_after n (expr_tokens e)) (sym plus) ∙ (expr-nests e h).after k in
    let rest : most_open (open_after k (expr_tokens e)) after ≤ 2000 = omega (arith, few, most_open-append k (expr_tokens e) after) in
    subst (λ n. most_open n after ≤ 2000) same rest

three_open : (k : ℕ) (turn : Token) (e : CExpr) (after : List Token) → is_bracket turn ≡ false → spells_expr e ≡ true
    → most_open k (loop_front turn (expr_tokens e ++ (codes ")" ∷ loop_rest turn after))) ≤ 2000 → 3 ≤ 2000 - k
three_open k turn e after h i few =
    let a : most_open (k + 1) (turn ∷ codes "=" ∷ codes "0" ∷ codes ";" ∷ codes "while" ∷ codes "("
    ∷ (expr_tokens e ++ (codes ")" ∷ loop_rest turn after))) ≤ 2000 = omega (arith, few) in
    let b : most_open (k + 1) (codes "=" ∷ codes "0" ∷ codes ";" ∷ codes "while" ∷ codes "("
    ∷ (expr_tokens e ++ (codes ")" ∷ loop_rest turn after))) ≤ 2000 =
    behind (k + 1) (k + 1) turn (codes "=" ∷ codes "0" ∷ codes ";" ∷ codes "while" ∷ codes "("
    ∷ (expr_tokens e ++ (codes ")" ∷ loop_rest turn after))) (stays (k + 1) turn h) a in
    let c : most_open (k + 1 + 1) (expr_tokens e ++ (codes ")" ∷ loop_rest turn after)) ≤ 2000 = omega (arith, b) in
    let d : most_open (k + 1 + 1) (codes ")" ∷ loop_rest turn after) ≤ 2000 = condition_closes (k + 1 + 1) e (codes ")" ∷ loop_rest turn after) i c in
    let f : most_open (k + 1) (loop_rest turn after) ≤ 2000 =
    behind (k + 1 + 1) (k + 1) (codes ")") (loop_rest turn after) (closed (k + 1) (codes ")") refl refl) d in
    let g : most_open (k + 1 + 1) (turn ∷ codes "=" ∷ codes "bl_turn" ∷ codes "(" ∷ turn ∷ codes ")" ∷ codes ";" ∷ after) ≤ 2000 =
    omega (arith, f) in
    let l : most_open (k + 1 + 1) (codes "=" ∷ codes "bl_turn" ∷ codes "(" ∷ turn ∷ codes ")" ∷ codes ";" ∷ after) ≤ 2000 =
    behind (k + 1 + 1) (k + 1 + 1) turn (codes "=" ∷ codes "bl_turn" ∷ codes "(" ∷ turn ∷ codes ")" ∷ codes ";" ∷ after)
    (stays (k + 1 + 1) turn h) g in
    let m : most_open (k + 1 + 1 + 1) (turn ∷ codes ")" ∷ codes ";" ∷ after) ≤ 2000 = omega (arith, l) in
    omega (arith, m, most_open-first (k + 1 + 1 + 1) (turn ∷ codes ")" ∷ codes ";" ∷ after))

loop_goes : (turn : Token) (e : CExpr) (inner : List Token) → is_turn_name turn ≡ true → spells_expr e ≡ true → Whole Stmts inner
    → (k : ℕ) (ss : List Wanted) (ts : List Token) → Goes k ss ts
    → Goes k (at k Stmt ∷ ss) (loop_front turn (expr_tokens e ++ (codes ")" ∷ loop_rest turn (inner ++ (codes "}" ∷ codes "}" ∷ ts)))))
loop_goes turn e inner h i of k ss ts go =
    let plain : is_bracket turn ≡ false = turn_name-plain turn h in
    let after : List Token = inner ++ (codes "}" ∷ codes "}" ∷ ts) in
    roomed k k Stmt ss (loop_front turn (expr_tokens e ++ (codes ")" ∷ loop_rest turn after))) (later (later (later (later here))))
    (λ few. three_open k turn e after plain i few)
    (open_then k _ _ _ refl (word_then (k + 1) _ _ _ refl
    (by_production (k + 1) k Turns turn ss (turn ∷ codes "=" ∷ codes "0" ∷ codes ";" ∷ codes "while" ∷ codes "("
    ∷ (expr_tokens e ++ (codes ")" ∷ loop_rest turn after))) here h (λ few. omega arith)
    (word_then (k + 1) turn _ _ plain (word_then (k + 1) _ _ _ refl (word_then (k + 1) _ _ _ refl (word_then (k + 1) _ _ _ refl (word_then (k + 1) _ _ _ refl
    (open_then (k + 1) _ _ _ refl (whole_expr (expr_tokens e) (expr_goes e i) (k + 1 + 1) _ (codes ")" ∷ loop_rest turn after)
    (close_then (k + 1) _ _ _ refl refl (open_then (k + 1) _ _ _ refl
    (word_then (k + 1 + 1) turn _ _ plain (word_then (k + 1 + 1) _ _ _ refl (word_then (k + 1 + 1) _ _ _ refl
    (open_then (k + 1 + 1) _ _ _ refl (word_then (k + 1 + 1 + 1) turn _ _ plain (close_then (k + 1 + 1) _ _ _ refl refl (word_then (k + 1 + 1) _ _ _ refl
    (of (k + 1 + 1) _ (codes "}" ∷ codes "}" ∷ ts) (close_then (k + 1) _ _ _ refl refl (close_then k _ _ _ refl refl go))))))))))))))))))))))

loop_whole : (turn : Token) (e : CExpr) (inner : List Token) → is_turn_name turn ≡ true → spells_expr e ≡ true → Whole Stmts inner
    → Whole Stmt (turn_declared turn ++ (condition_tokens e ++ (turn_counted turn ++ (inner ++ codes "}" ∷ codes "}" ∷ []))))
loop_whole turn e inner h i of k ss ts go =
    let back : List Token = loop_rest turn (inner ++ codes "}" ∷ codes "}" ∷ []) in
    let same : ((expr_tokens e ++ codes ")" ∷ []) ++ back) ++ ts ≡ expr_tokens e
    ++ (codes ")" ∷ loop_rest turn (inner ++ (codes "}" ∷ codes "}" ∷ ts))) =
    append_assoc (expr_tokens e ++ codes ")" ∷ []) back ts ∙ append_assoc (expr_tokens e) (codes ")" ∷ []) (back ++ ts)
    ∙ ap (λ (zs : List Token). expr_tokens e ++ (codes ")" ∷ loop_rest turn zs)) (append_assoc inner (codes "}" ∷ codes "}" ∷ []) ts) in
    subst (λ (zs : List Token). Goes k (at k Stmt ∷ ss) (loop_front turn zs)) (sym same) (loop_goes turn e inner h i of k ss ts go)

-- the others

break_goes : Whole Stmt (codes "break" ∷ codes ";" ∷ [])
break_goes k ss ts go = free k k Stmt ss (codes "break" ∷ codes ";" ∷ ts) (later (later (later (later (later here))))) (omega arith)
    (word_then k _ _ _ refl (word_then k _ _ _ refl go))

return_goes : (result : Option CExpr) → spells_result result ≡ true → Whole Stmt (codes "return" ∷ (result_tokens result ++ codes ";" ∷ []))
return_goes None h k ss ts go = free k k Stmt ss (codes "return" ∷ codes ";" ∷ ts) (later (later (later (later (later (later here)))))) (omega arith)
    (word_then k _ _ _ refl (free k k Result ss (codes ";" ∷ ts) here (omega arith) (word_then k _ _ _ refl go)))
return_goes (Some e) h k ss ts go = free k k Stmt ss (codes "return" ∷ ((expr_tokens e ++ codes ";" ∷ []) ++ ts))
    (later (later (later (later (later (later here)))))) (omega arith)
    (word_then k _ _ _ refl (free k k Result ss ((expr_tokens e ++ codes ";" ∷ []) ++ ts) (later here) (omega arith)
    (apart k _ (expr_tokens e) (codes ";" ∷ []) ts (whole_expr (expr_tokens e) (expr_goes e h) k _ (codes ";" ∷ ts) (word_then k _ _ _ refl go)))))

abbrev OfKind : CStmtKind → Type 0
OfKind k = spells_stmt_kind k ≡ true → Whole Stmt (stmt_kind_tokens k)

abbrev OfStmt : CStmt → Type 0
OfStmt s = spells_stmt s ≡ true → Whole Stmt (stmt_tokens s)

abbrev KindOf : Type 0
KindOf = (k : CStmtKind) × OfKind k

abbrev StmtOf : Type 0
StmtOf = (s : CStmt) × OfStmt s

abbrev plain_kind : CStmtKind-F KindOf StmtOf → CStmtKind-F CStmtKind CStmt
plain_kind = map-CStmtKind KindOf StmtOf CStmtKind CStmt (λ e. e.0) (λ e. e.0)

inner_goes : (body : List StmtOf) → all_of (map spells_stmt (map (λ e. e.0) body)) ≡ true → Whole Stmts (joined (map stmt_tokens (map (λ e. e.0) body)))
inner_goes body h = stmts_goes (map stmt_tokens (map (λ e. e.0) body)) (each_shown (Whole Stmt) stmt_tokens spells_stmt body h)

by_kind : (y : CStmtKind-F KindOf StmtOf) → OfKind (roll-CStmtKind (plain_kind y))
by_kind (CStmtKind-F.Set at value) h =
    let all : (spells_place at && spells_expr value) ≡ true = rw fold-roll-CStmtKind at h in
    rw fold-roll-CStmtKind (set_goes (place_tokens at) (expr_tokens value) (whole_place at (and_first _ _ all)) (expr_goes value (and_second _ _ all)))
by_kind (CStmtKind-F.Clear at name) h =
    let all : (spells_place at && is_struct_name name) ≡ true = rw fold-roll-CStmtKind at h in
    rw fold-roll-CStmtKind (clear_goes (place_tokens at) name (whole_place at (and_first _ _ all)) (and_second _ _ all))
by_kind (CStmtKind-F.Call call) h = rw fold-roll-CStmtKind (call_goes (ccall_tokens call) (whole_call call (rw fold-roll-CStmtKind at h)))
by_kind (CStmtKind-F.If test inner None) h =
    let all : (spells_expr test && (all_of (map spells_stmt (map (λ e. e.0) inner)) && true)) ≡ true = rw fold-roll-CStmtKind at h in
    rw fold-roll-CStmtKind (else_goes [] no_else (expr_tokens test) _
    (whole_expr (expr_tokens test) (expr_goes test (and_first _ _ all))) (inner_goes inner (and_first _ _ (and_second _ _ all))))
by_kind (CStmtKind-F.If test inner (Some other)) h =
    let all : (spells_expr test && (all_of (map spells_stmt (map (λ e. e.0) inner))
    && all_of (map spells_stmt (map (λ e. e.0) other)))) ≡ true = rw fold-roll-CStmtKind at h in
    rw fold-roll-CStmtKind (else_goes _ (some_else _ (inner_goes other (and_second _ _ (and_second _ _ all)))) (expr_tokens test) _
    (whole_expr (expr_tokens test) (expr_goes test (and_first _ _ all))) (inner_goes inner (and_first _ _ (and_second _ _ all))))
by_kind (CStmtKind-F.Loop turn test body) h =
    let all : (is_turn_name turn && (spells_expr test && all_of (map spells_stmt (map (λ e. e.0) body)))) ≡ true = rw fold-roll-CStmtKind at h in
    rw fold-roll-CStmtKind (loop_whole turn test _ (and_first _ _ all) (and_first _ _ (and_second _ _ all)) (inner_goes body (and_second _ _ (and_second _ _ all))))
by_kind CStmtKind-F.Break h = rw fold-roll-CStmtKind break_goes
by_kind (CStmtKind-F.Return result) h = rw fold-roll-CStmtKind (return_goes result (rw fold-roll-CStmtKind at h))

by_stmt : (place : TextPlace) (what : KindOf) → OfStmt (roll-CStmt (record { place = place; what = what.0 }))
by_stmt place what h = rw fold-roll-CStmt (what.1 (rw fold-roll-CStmt at h))

pub stmt_goes : (s : CStmt) → OfStmt s
stmt_goes =
    ind-CStmt OfKind OfStmt
    (λ x y is. subst (λ layer. OfKind (roll-CStmtKind layer)) is (by_kind y))
    (λ x y is. subst (λ layer. OfStmt (roll-CStmt layer)) is (by_stmt y.place y.what))
