-- Statements, structs and functions that have a spelling close each bracket that they open. So a text of shallow functions has a spelling.
use Rattle.std.proofs.Common.{◌≡◌, ℕ, ◌+◌, ◌≤◌, max, Bool, true, false, ◌&&◌, nat_le, List, [], ◌∷◌, ◌++◌, map, Option, Some, None, refl, subst}
use Rattle.std.proofs.Common.{arith, codes, append_assoc, sym, ap, ◌∙◌}
use Rattle.std.proofs.lemmas.Bool.Decides.{nat_tests}
use Rattle.std.specs.Fmt.{decimal}
use Rattle.bl_tree.proofs.Basics.{and_first, and_second}
use Rattle.bl_tree.specs.declared.place.Place.{Place as TextPlace}
use Rattle.bl_tree.specs.declared.scalar.Width.TheVariants.{W8, W16, W32, W64}
use Rattle.bl_tree.specs.declared.scalar.Scalar.{Scalar}
use Rattle.bl_tree.specs.declared.scalar.Scalar.TheVariants as scalar
use Rattle.bl_tree.specs.declared.c.CExpr.{CExpr}
use Rattle.bl_tree.specs.declared.c.CPlace.{CPlace}
use Rattle.bl_tree.specs.declared.c.CStmt.{CStmt, fold-roll-CStmt, roll-CStmt, ind-CStmt}
use Rattle.bl_tree.specs.declared.c.CStmtKind.{CStmtKind, CStmtKind-F, fold-roll-CStmtKind, map-CStmtKind, roll-CStmtKind}
use Rattle.bl_tree.specs.declared.c.CType.{CType}
use Rattle.bl_tree.specs.declared.c.CType.TheVariants as ctype
use Rattle.bl_tree.specs.declared.c.CMember.{CMember}
use Rattle.bl_tree.specs.declared.c.CStruct.{CStruct}
use Rattle.bl_tree.specs.declared.c.CParam.{CParam}
use Rattle.bl_tree.specs.declared.c.CLocal.{CLocal}
use Rattle.bl_tree.specs.declared.c.CFunc.{CFunc}
use Rattle.bl_tree.specs.Reduce.{all_of, joined, greatest}
use Rattle.bl_ctext.specs.Token.{Token}
use Rattle.bl_ctext.specs.Names.{is_struct_name, is_function_name, is_turn_name}
use Rattle.bl_ctext.specs.Spelling.{scalar_word, type_tokens, expr_tokens, place_tokens, ccall_tokens, braced, condition_tokens, zeros_tokens}
use Rattle.bl_ctext.specs.Spelling.{turn_declared, turn_counted, stmt_tokens, stmt_kind_tokens, result_tokens, length_tokens, member_tokens}
use Rattle.bl_ctext.specs.Spelling.{struct_tokens, star_if, param_tokens, zero_tokens, local_tokens, returned_tokens, static_if, func_tokens}
use Rattle.bl_ctext.specs.Spelling.{func_front, func_rest, with_commas, tokens_of}
use Rattle.bl_ctext.specs.Spellable.{has_any, is_spellable, most_open, spells_expr, spells_place, spells_result, spells_stmt, spells_stmt_kind}
use Rattle.bl_ctext.specs.Spellable.{spells_type, spells_member, spells_struct, spells_param, spells_local, spells_func, spells_length}
use Rattle.bl_ctext.specs.inner.Depths.{expr_depth, place_depth, call_depth, result_depth, stmt_depth, stmt_kind_depth, func_depth}
use Rattle.bl_ctext.proofs.ExprNesting.{each_shown, expr-nests, place-nests, ccall-nests}
use Rattle.bl_ctext.proofs.Nesting.{is_bracket, Closes, Nests, EachNests, closes-nil, closes-open, closes-close, closes-plain, closes-append}
use Rattle.bl_ctext.proofs.Nesting.{nests-append, nests-more, nests-joined, nests-with_commas, nests-most_open}
use Rattle.bl_ctext.proofs.PlainWords.{name-plain, struct_name-plain, function_name-plain, turn_name-plain, decimal-plain}

-- statements in braces
pub braced-nests : (d : ℕ) (parts : List (List Token)) → EachNests d parts → Nests (d + 1) (braced parts)
braced-nests d parts each =
    closes-open 0 (d + 1) _ _ refl (omega arith) (closes-append 1 (d + 1) d (joined parts) _ (nests-joined d parts each) (omega arith)
    (closes-close 0 (d + 1) _ _ refl refl (omega arith) (closes-nil (d + 1))))

condition-nests : (d : ℕ) (e : CExpr) → expr_depth e + 1 ≤ d → spells_expr e ≡ true → Nests d (condition_tokens e)
condition-nests d e le h =
    closes-open 0 d _ _ refl (omega arith) (closes-append 1 d (expr_depth e) (expr_tokens e) _ (expr-nests e h) (omega arith)
    (closes-close 0 d _ _ refl refl (omega arith) (closes-nil d)))

zeros-nests : (d : ℕ) (name : List ℕ) → 1 ≤ d → is_bracket name ≡ false → Nests d (zeros_tokens name)
zeros-nests d name le plain =
    closes-plain 0 d _ _ refl (omega arith) (closes-open 0 d _ _ refl (omega arith) (closes-plain 1 d _ _ refl le (closes-plain 1 d name _ plain le
    (closes-close 0 d _ _ refl refl le (closes-open 0 d _ _ refl (omega arith) (closes-plain 1 d _ _ refl le (closes-close 0 d _ _ refl refl le
    (closes-plain 0 d _ _ refl (omega arith) (closes-nil d)))))))))

-- a place, `=`, a value and `;`
set-nests : (d : ℕ) (at : CPlace) (value : CExpr) → place_depth at ≤ d → expr_depth value ≤ d → spells_place at ≡ true →
    spells_expr value ≡ true →
    Nests d (place_tokens at ++ (codes "=" ∷ (expr_tokens value ++ codes ";" ∷ [])))
set-nests d at value le le' h i =
    closes-append 0 d (place_depth at) (place_tokens at) _ (place-nests at h) (omega arith) (closes-plain 0 d _ _ refl (omega arith)
    (closes-append 0 d (expr_depth value) (expr_tokens value) _ (expr-nests value i) (omega arith) (closes-plain 0 d _ _ refl (omega arith) (closes-nil d))))

loop_body-closes : (d : ℕ) (turn : List ℕ) (parts : List (List Token)) → 1 ≤ d → is_bracket turn ≡ false → EachNests d parts →
    Closes 1 (d + 2) (turn_counted turn ++ (joined parts ++ codes "}" ∷ codes "}" ∷ []))
loop_body-closes d turn parts le plain each =
    closes-open 1 (d + 2) _ _ refl (omega arith) (closes-plain 2 (d + 2) turn _ plain (omega arith) (closes-plain 2 (d + 2) _ _ refl (omega arith)
    (closes-plain 2 (d + 2) _ _ refl (omega arith) (closes-open 2 (d + 2) _ _ refl (omega arith) (closes-plain 3 (d + 2) turn _ plain (omega arith)
    (closes-close 2 (d + 2) _ _ refl refl (omega arith) (closes-plain 2 (d + 2) _ _ refl (omega arith)
    (closes-append 2 (d + 2) d (joined parts) _ (nests-joined d parts each) (omega arith)
    (closes-close 1 (d + 2) _ _ refl refl (omega arith) (closes-close 0 (d + 2) _ _ refl refl (omega arith) (closes-nil (d + 2))))))))))))

loop-nests : (d b : ℕ) (turn : List ℕ) (test : CExpr) (parts : List (List Token)) → expr_depth test + 2 ≤ d → b + 2 ≤ d → 1 ≤ b →
    is_bracket turn ≡ false →
    spells_expr test ≡ true → EachNests b parts →
    Nests d (turn_declared turn ++ (condition_tokens test ++ (turn_counted turn ++ (joined parts ++ codes "}" ∷ codes "}" ∷ []))))
loop-nests d b turn test parts le le' le'' plain h each =
    let body : Closes 1 (b + 2) (turn_counted turn ++ (joined parts ++ codes "}" ∷ codes "}" ∷ [])) = loop_body-closes b turn parts le'' plain each in
    closes-open 0 d _ _ refl (omega arith)
    (closes-plain 1 d _ _ refl (omega arith) (closes-plain 1 d turn _ plain (omega arith) (closes-plain 1 d _ _ refl (omega arith)
    (closes-plain 1 d _ _ refl (omega arith) (closes-plain 1 d _ _ refl (omega arith) (closes-plain 1 d _ _ refl (omega arith)
    (closes-append 1 d (expr_depth test + 1) (condition_tokens test) _ (condition-nests (expr_depth test + 1) test (omega arith) h) (omega arith)
    (record { after = body.after; within = λ n. omega (arith, body.within n) }))))))))

abbrev OfKind : CStmtKind → Type 0
OfKind k = spells_stmt_kind k ≡ true → Nests (stmt_kind_depth k) (stmt_kind_tokens k)

abbrev OfStmt : CStmt → Type 0
OfStmt s = spells_stmt s ≡ true → Nests (stmt_depth s) (stmt_tokens s)

abbrev Kind : Type 0
Kind = (k : CStmtKind) × OfKind k

abbrev Stmt : Type 0
Stmt = (s : CStmt) × OfStmt s

abbrev plain_kind : CStmtKind-F Kind Stmt → CStmtKind-F CStmtKind CStmt
plain_kind = map-CStmtKind Kind Stmt CStmtKind CStmt (λ e. e.0) (λ e. e.0)

if-nests : (d b : ℕ) (test : CExpr) (parts : List (List Token)) (rest : List Token) → expr_depth test + 1 ≤ d → b + 1 ≤ d →
    spells_expr test ≡ true →
    EachNests b parts → Nests d rest →
    Nests d (codes "if" ∷ (condition_tokens test ++ (braced parts ++ rest)))
if-nests d b test parts rest le le' h each r =
    closes-plain 0 d _ _ refl (omega arith) (closes-append 0 d d (condition_tokens test) _ (condition-nests d test le h) (omega arith)
    (closes-append 0 d (b + 1) (braced parts) rest (braced-nests b parts each) (omega arith) r))

result-nests : (result : Option CExpr) → spells_result result ≡ true →
    Nests (result_depth result) (codes "return" ∷ (result_tokens result ++ codes ";" ∷ []))
result-nests None h = closes-plain 0 0 _ _ refl (omega arith) (closes-plain 0 0 _ _ refl (omega arith) (closes-nil 0))
result-nests (Some e) h =
    let d : ℕ = expr_depth e in
    closes-plain 0 d _ _ refl (omega arith)
    (closes-append 0 d d (expr_tokens e) _ (expr-nests e h) (omega arith) (closes-plain 0 d _ _ refl (omega arith) (closes-nil d)))

by_kind : (y : CStmtKind-F Kind Stmt) → OfKind (roll-CStmtKind (plain_kind y))
by_kind (CStmtKind-F.Set at value) h =
    let whole : (spells_place at && spells_expr value) ≡ true = rw fold-roll-CStmtKind at h in
    rw (fold-roll-CStmtKind, fold-roll-CStmtKind)
    (set-nests (max (place_depth at) (expr_depth value)) at value (omega arith) (omega arith) (and_first _ _ whole) (and_second _ _ whole))
by_kind (CStmtKind-F.Clear at name) h =
    let whole : (spells_place at && is_struct_name name) ≡ true = rw fold-roll-CStmtKind at h in
    let d : ℕ = max (place_depth at) 1 in
    rw (fold-roll-CStmtKind, fold-roll-CStmtKind)
    (closes-append 0 d (place_depth at) (place_tokens at) _ (place-nests at (and_first _ _ whole)) (omega arith)
    (zeros-nests d name (omega arith) (struct_name-plain name (and_second _ _ whole))))
by_kind (CStmtKind-F.Call call) h =
    let d : ℕ = call_depth call in
    rw (fold-roll-CStmtKind, fold-roll-CStmtKind)
    (closes-append 0 d d (ccall_tokens call) _ (ccall-nests call (rw fold-roll-CStmtKind at h)) (omega arith)
    (closes-plain 0 d _ _ refl (omega arith) (closes-nil d)))
by_kind (CStmtKind-F.If test inner None) h =
    let whole : (spells_expr test && (all_of (map spells_stmt (map (λ e. e.0) inner)) && true)) ≡ true = rw fold-roll-CStmtKind at h in
    let b : ℕ = greatest (map stmt_depth (map (λ e. e.0) inner)) in
    rw (fold-roll-CStmtKind, fold-roll-CStmtKind)
    (if-nests (max (max (expr_depth test + 1) (b + 1)) 0) b test _ [] (omega arith) (omega arith) (and_first _ _ whole)
    (each_shown stmt_depth stmt_tokens spells_stmt inner b (omega arith) (and_first _ _ (and_second _ _ whole))) (closes-nil _))
by_kind (CStmtKind-F.If test inner (Some other)) h =
    let whole : (spells_expr test && (all_of (map spells_stmt (map (λ e. e.0) inner)) && all_of (map spells_stmt (map (λ e. e.0) other)))) ≡ true =
    rw fold-roll-CStmtKind at h in
    let b : ℕ = greatest (map stmt_depth (map (λ e. e.0) inner)) in
    let c : ℕ = greatest (map stmt_depth (map (λ e. e.0) other)) in
    let d : ℕ = max (max (expr_depth test + 1) (b + 1)) (c + 1) in
    rw (fold-roll-CStmtKind, fold-roll-CStmtKind)
    (if-nests d b test _ _ (omega arith) (omega arith) (and_first _ _ whole)
    (each_shown stmt_depth stmt_tokens spells_stmt inner b (omega arith) (and_first _ _ (and_second _ _ whole)))
    (closes-plain 0 d _ _ refl (omega arith)
    (nests-more (c + 1) d _ (omega arith)
    (braced-nests c _ (each_shown stmt_depth stmt_tokens spells_stmt other c (omega arith) (and_second _ _ (and_second _ _ whole)))))))
by_kind (CStmtKind-F.Loop turn test body) h =
    let whole : (is_turn_name turn && (spells_expr test && all_of (map spells_stmt (map (λ e. e.0) body)))) ≡ true = rw fold-roll-CStmtKind at h in
    let b : ℕ = max 1 (greatest (map stmt_depth (map (λ e. e.0) body))) in
    rw (fold-roll-CStmtKind, fold-roll-CStmtKind)
    (loop-nests (max (expr_depth test + 2) (b + 2)) b turn test _ (omega arith) (omega arith) (omega arith) (turn_name-plain turn (and_first _ _ whole))
    (and_first _ _ (and_second _ _ whole))
    (each_shown stmt_depth stmt_tokens spells_stmt body b (omega arith) (and_second _ _ (and_second _ _ whole))))
by_kind CStmtKind-F.Break h =
    rw (fold-roll-CStmtKind, fold-roll-CStmtKind) (closes-plain 0 0 _ _ refl (omega arith) (closes-plain 0 0 _ _ refl (omega arith) (closes-nil 0)))
by_kind (CStmtKind-F.Return result) h = rw (fold-roll-CStmtKind, fold-roll-CStmtKind) (result-nests result (rw fold-roll-CStmtKind at h))

by_stmt : (place : TextPlace) (what : Kind) → OfStmt (roll-CStmt (record { place = place; what = what.0 }))
by_stmt place what h = rw (fold-roll-CStmt, fold-roll-CStmt) (what.1 (rw fold-roll-CStmt at h))

pub stmt-nests : (s : CStmt) → spells_stmt s ≡ true → Nests (stmt_depth s) (stmt_tokens s)
stmt-nests =
    ind-CStmt OfKind OfStmt
    (λ x y is. subst (λ layer. OfKind (roll-CStmtKind layer)) is (by_kind y))
    (λ x y is. subst (λ layer. OfStmt (roll-CStmt layer)) is (by_stmt y.place y.what))

-- every part of a list, where each is shown
pub each_of : {A : Type 0} (depth : A → ℕ) (tokens : A → List Token) (spells : A → Bool) →
    ((a : A) → spells a ≡ true → Nests (depth a) (tokens a)) → (xs : List A) (d : ℕ) →
    greatest (map depth xs) ≤ d → all_of (map spells xs) ≡ true → EachNests d (map tokens xs)
each_of depth tokens spells shown [] d le h = tt
each_of depth tokens spells shown (x ∷ xs) d le h =
    let here : depth x ≤ d = omega arith in
    let rest : greatest (map depth xs) ≤ d = omega arith in
    (nests-more (depth x) d (tokens x) here (shown x (and_first _ _ h)), each_of depth tokens spells shown xs d rest (and_second _ _ h))

-- the same, where no part is deeper than the number
each_within : {A : Type 0} (d : ℕ) (tokens : A → List Token) (spells : A → Bool) →
    ((a : A) → spells a ≡ true → Nests d (tokens a)) → (xs : List A) → all_of (map spells xs) ≡ true → EachNests d (map tokens xs)
each_within d tokens spells shown [] h = tt
each_within d tokens spells shown (x ∷ xs) h = (shown x (and_first _ _ h), each_within d tokens spells shown xs (and_second _ _ h))

scalar-plain : (s : Scalar) → is_bracket (scalar_word s) ≡ false
scalar-plain scalar.Bool = refl
scalar-plain (scalar.Int W8) = refl
scalar-plain (scalar.Int W16) = refl
scalar-plain (scalar.Int W32) = refl
scalar-plain (scalar.Int W64) = refl
scalar-plain (scalar.Nat W8) = refl
scalar-plain (scalar.Nat W16) = refl
scalar-plain (scalar.Nat W32) = refl
scalar-plain (scalar.Nat W64) = refl
scalar-plain (scalar.Bits w) = refl

type-nests : (ty : CType) → spells_type ty ≡ true → Nests 0 (type_tokens ty)
type-nests (ctype.Scalar s) h = closes-plain 0 0 _ _ (scalar-plain s) (omega arith) (closes-nil 0)
type-nests (ctype.Struct name) h = closes-plain 0 0 _ _ refl (omega arith) (closes-plain 0 0 name _ (struct_name-plain name h) (omega arith) (closes-nil 0))

length-nests : (n : Option ℕ) → spells_length n ≡ true → Nests 1 (length_tokens n)
length-nests None h = closes-nil 1
length-nests (Some n) h =
    let most : nat_le n 65536 ≡ true = and_second (nat_le 1 n) (nat_le n 65536) h in
    let small : n ≤ 65536 = grind (arith, nat_tests) in
    closes-open 0 1 _ _ refl (omega arith)
    (closes-plain 1 1 (decimal n) _ (decimal-plain n (omega arith)) (omega arith) (closes-close 0 1 _ _ refl refl (omega arith) (closes-nil 1)))

member-nests : (m : CMember) → spells_member m ≡ true → Nests 1 (member_tokens m)
member-nests m h =
    closes-append 0 1 0 (type_tokens m.ty) _ (type-nests m.ty (and_first _ _ h)) (omega arith)
    (closes-plain 0 1 m.name _ (name-plain m.name (and_first _ _ (and_second _ _ h))) (omega arith)
    (closes-append 0 1 1 (length_tokens m.length) _ (length-nests m.length (and_second _ _ (and_second _ _ h))) (omega arith)
    (closes-plain 0 1 _ _ refl (omega arith) (closes-nil 1))))

pub struct-nests : (s : CStruct) → spells_struct s ≡ true → Nests 2 (struct_tokens s)
struct-nests s h =
    closes-plain 0 2 _ _ refl (omega arith) (closes-plain 0 2 s.name _ (struct_name-plain s.name (and_first _ _ h)) (omega arith)
    (closes-append 0 2 2 (braced (map member_tokens s.members)) _
    (braced-nests 1 _ (each_within 1 member_tokens spells_member member-nests s.members (and_second _ _ (and_second _ _ h)))) (omega arith)
    (closes-plain 0 2 _ _ refl (omega arith) (closes-nil 2))))

star-nests : (b : Bool) → Nests 0 (star_if b)
star-nests true = closes-plain 0 0 _ _ refl (omega arith) (closes-nil 0)
star-nests false = closes-nil 0

param-nests : (p : CParam) → spells_param p ≡ true → Nests 0 (param_tokens p)
param-nests p h =
    closes-append 0 0 0 (type_tokens p.ty) _ (type-nests p.ty (and_first _ _ h)) (omega arith)
    (closes-append 0 0 0 (star_if p.pointer) _ (star-nests p.pointer) (omega arith)
    (closes-plain 0 0 p.name _ (name-plain p.name (and_second _ _ h)) (omega arith) (closes-nil 0)))

zero-nests : (ty : CType) → Nests 1 (zero_tokens ty)
zero-nests (ctype.Scalar s) = closes-plain 0 1 _ _ refl (omega arith) (closes-nil 1)
zero-nests (ctype.Struct name) =
    closes-open 0 1 _ _ refl (omega arith) (closes-plain 1 1 _ _ refl (omega arith) (closes-close 0 1 _ _ refl refl (omega arith) (closes-nil 1)))

local-nests : (x : CLocal) → spells_local x ≡ true → Nests 1 (local_tokens x)
local-nests x h =
    closes-append 0 1 0 (type_tokens x.ty) _ (type-nests x.ty (and_first _ _ h)) (omega arith)
    (closes-plain 0 1 x.name _ (name-plain x.name (and_second _ _ h)) (omega arith)
    (closes-plain 0 1 _ _ refl (omega arith)
    (closes-append 0 1 1 (zero_tokens x.ty) _ (zero-nests x.ty) (omega arith) (closes-plain 0 1 _ _ refl (omega arith) (closes-nil 1)))))

returned-nests : (s : Option Scalar) → Nests 0 (returned_tokens s)
returned-nests None = closes-plain 0 0 _ _ refl (omega arith) (closes-nil 0)
returned-nests (Some s) = closes-plain 0 0 _ _ (scalar-plain s) (omega arith) (closes-nil 0)

static-nests : (b : Bool) → Nests 0 (static_if b)
static-nests true = closes-plain 0 0 _ _ refl (omega arith) (closes-nil 0)
static-nests false = closes-nil 0

-- what follows a function's front closes the bracket that the front leaves open
front-closes : (d : ℕ) (f : CFunc) (rest : List Token) → 1 ≤ d → is_function_name f.name ≡ true → Closes 1 d rest →
    Closes 0 d (func_front f ++ rest)
front-closes d f rest le named c =
    let apart : func_front f ++ rest ≡ static_if f.fixed ++ (returned_tokens f.result ++ (f.name ∷ codes "(" ∷ rest)) =
    append_assoc (static_if f.fixed) (returned_tokens f.result ++ (f.name ∷ codes "(" ∷ [])) rest
    ∙ ap (λ (ts : List Token). static_if f.fixed ++ ts) (append_assoc (returned_tokens f.result) (f.name ∷ codes "(" ∷ []) rest) in
    subst (λ (ts : List Token). Closes 0 d ts) (sym apart)
    (closes-append 0 d 0 (static_if f.fixed) _ (static-nests f.fixed) (omega arith)
    (closes-append 0 d 0 (returned_tokens f.result) _ (returned-nests f.result) (omega arith)
    (closes-plain 0 d f.name _ (function_name-plain f.name named) (omega arith) (closes-open 0 d _ _ refl (omega arith) c))))

-- and closes its own braces
rest-closes : (d b : ℕ) (f : CFunc) → b + 1 ≤ d → 1 ≤ b → all_of (map spells_local f.locals) ≡ true → EachNests b (map stmt_tokens f.body) →
    Closes 1 d (func_rest f)
rest-closes d b f le le' locals body =
    closes-append 1 d 1 (joined (map local_tokens f.locals)) _ (nests-joined 1 _ (each_within 1 local_tokens spells_local local-nests f.locals locals))
    (omega arith)
    (closes-append 1 d b (joined (map stmt_tokens f.body)) _ (nests-joined b _ body) (omega arith)
    (closes-close 0 d _ _ refl refl (omega arith) (closes-nil d)))

each_more : (d e : ℕ) (parts : List (List Token)) → d ≤ e → EachNests d parts → EachNests e parts
each_more d e [] le each = tt
each_more d e (part ∷ parts) le (one, each) = (nests-more d e part le one, each_more d e parts le each)

func_parts-nests : (f : CFunc) → is_function_name f.name ≡ true → all_of (map spells_param f.params) ≡ true →
    all_of (map spells_local f.locals) ≡ true →
    all_of (map spells_stmt f.body) ≡ true → Nests (func_depth f) (func_tokens f)
func_parts-nests f named params locals body =
    let b : ℕ = max 1 (greatest (map stmt_depth f.body)) in
    let d : ℕ = b + 1 in
    let each : EachNests b (map stmt_tokens f.body) = each_of stmt_depth stmt_tokens spells_stmt stmt-nests f.body b (omega arith) body in
    front-closes d f _ (omega arith) named
    (closes-append 1 d 0 (with_commas (map param_tokens f.params)) _
    (nests-with_commas 0 _ (each_within 0 param_tokens spells_param param-nests f.params params)) (omega arith)
    (closes-close 0 d _ _ refl refl (omega arith) (closes-open 0 d _ _ refl (omega arith) (rest-closes d b f (omega arith) (omega arith) locals each))))

pub func-nests : (f : CFunc) → spells_func f ≡ true → Nests (func_depth f) (func_tokens f)
func-nests f h =
    let named : (is_function_name f.name && (all_of (map spells_param f.params) && (all_of (map spells_local f.locals) && all_of (map spells_stmt f.body))))
    ≡ true = and_second _ _ h in
    let given : (all_of (map spells_param f.params) && (all_of (map spells_local f.locals) && all_of (map spells_stmt f.body))) ≡ true = and_second _ _ named in
    let inside : (all_of (map spells_local f.locals) && all_of (map spells_stmt f.body)) ≡ true = and_second _ _ given in
    func_parts-nests f (and_first _ _ named) (and_first _ _ given) (and_first _ _ inside) (and_second _ _ inside)

-- A text has a spelling where its structs and functions have, it has at least one of each, and no function is deeper than 2,000 brackets.
pub spellable-by : (structs : List CStruct) (funcs : List CFunc) → has_any structs ≡ true → has_any funcs ≡ true →
    all_of (map spells_struct structs) ≡ true → all_of (map spells_func funcs) ≡ true → greatest (map func_depth funcs) ≤ 2000 →
    is_spellable structs funcs ≡ true
spellable-by structs funcs some some' h i le =
    let all : Nests 2000 (tokens_of structs funcs) =
    nests-append 2000 (joined (map struct_tokens structs)) (joined (map func_tokens funcs))
    (nests-joined 2000 _ (each_more 2 2000 _ (omega arith) (each_within 2 struct_tokens spells_struct struct-nests structs h)))
    (nests-joined 2000 _ (each_of func_depth func_tokens spells_func func-nests funcs 2000 le i)) in
    let few : most_open 0 (tokens_of structs funcs) ≤ 2000 = nests-most_open 2000 _ all in
    let test : nat_le (most_open 0 (tokens_of structs funcs)) 2000 ≡ true = grind (arith, nat_tests) in
    rw (some, some', h, i, test) refl
