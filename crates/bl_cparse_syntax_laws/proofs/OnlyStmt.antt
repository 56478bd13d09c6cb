-- A statement is told by its tokens.
use Rattle.std.proofs.Common.{◌≡◌, ℕ, cond, Bool, true, false, not, ◌&&◌, ◌==◌, suc, pos, negsuc, ℤ, List, [], ◌∷◌, ◌++◌, map, Option, Some, None, refl, sym}
use Rattle.std.proofs.Common.{ap, ◌∙◌, subst, append_assoc, codes}
use Rattle.bl_tree.proofs.Basics.{and_first, and_second, from_true_false}
use Rattle.bl_tree.specs.declared.place.Place.{Place as TextPlace}
use Rattle.bl_tree.specs.declared.scalar.Width.{Width}
use Rattle.bl_tree.specs.declared.scalar.Width.TheVariants.{W8, W16, W32, W64}
use Rattle.bl_tree.specs.declared.scalar.Scalar.{Scalar}
use Rattle.bl_tree.specs.declared.scalar.Scalar.TheVariants as scalar
use Rattle.bl_tree.specs.declared.c.CPlace.{CPlace}
use Rattle.bl_tree.specs.declared.c.CStep.{CStep}
use Rattle.bl_tree.specs.declared.c.CExpr.{CExpr}
use Rattle.bl_tree.specs.declared.c.CExprKind.{CExprKind, CExprKind-F}
use Rattle.bl_tree.specs.declared.c.CCall.{CCall}
use Rattle.bl_tree.specs.declared.c.CStmt.{CStmt, CStmt-F, fold-roll-CStmt, roll-CStmt, out-CStmt, roll-out-CStmt, ind-CStmt}
use Rattle.bl_tree.specs.declared.c.CStmtKind.{CStmtKind, CStmtKind-F, fold-roll-CStmtKind, map-CStmtKind, roll-CStmtKind, out-CStmtKind, roll-out-CStmtKind}
use Rattle.bl_tree.specs.Reduce.{all_of, joined}
use Rattle.bl_ctext.specs.Token.{Token}
use Rattle.bl_ctext.specs.Names.{is_name, is_struct_name, is_turn_name}
use Rattle.bl_ctext.specs.Spelling.{literal_tokens, negatives, width_digits, with_commas, root_tokens, expr_tokens, kind_tokens, place_tokens, step_tokens}
use Rattle.bl_ctext.specs.Spelling.{ccall_tokens, arg_tokens, braced, result_tokens, condition_tokens, zeros_tokens, turn_declared, turn_counted, stmt_tokens}
use Rattle.bl_ctext.specs.Spelling.{stmt_kind_tokens}
use Rattle.bl_ctext.specs.Spellable.{is_literal, spells_expr, spells_kind, spells_place, spells_step, spells_call, spells_result, spells_stmt, spells_stmt_kind}
use Rattle.bl_cparse_syntax_laws.specs.Placeless.{any_place, placeless_expr, placeless_place, placeless_call, placeless_result, placeless_stmt}
use Rattle.bl_cparse_syntax_laws.specs.inner.Placeless.{placeless_stmt_kind}
use Rattle.bl_cparse_syntax_laws.proofs.Tests.{is, among, first, tail, second, lacks, callee_off, name_off}
use Rattle.bl_cparse_syntax_laws.proofs.Rows.{Only, InRow, stands, stands_is, each_shown, closed_same, braced_same}
use Rattle.bl_cparse_syntax_laws.proofs.Layers.{by_level, Kinds, OnlyLevel, Levels, only_whole, kind_level, kind_ok}
use Rattle.bl_cparse_syntax_laws.proofs.OnlyExpr.{ends, foreign, Front, of_places, of_calls, of_kinds, of_exprs, place_front, call_front, expr_front}
use Rattle.bl_cparse_syntax_laws.proofs.OnlyExpr.{steps_open, before_same, one_expr, one_place, one_call}

-- ---- levels

abbrev pub StmtKinds : Type 0
StmtKinds = CStmtKind-F CStmtKind CStmt

abbrev pub Stmts : Type 0
Stmts = CStmt-F CStmtKind CStmt

abbrev pub else_level : Option (List CStmt) → List Token
else_level None = []
else_level (Some body) = codes "else" ∷ braced (map stmt_tokens body)

abbrev pub else_ok : Option (List CStmt) → Bool
else_ok None = true
else_ok (Some body) = all_of (map spells_stmt body)

abbrev pub else_bare : Option (List CStmt) → Option (List CStmt)
else_bare None = None
else_bare (Some body) = Some (map placeless_stmt body)

abbrev pub stmt_level : StmtKinds → List Token
stmt_level (CStmtKind-F.Set at value) = place_tokens at ++ (codes "=" ∷ (expr_tokens value ++ codes ";" ∷ []))
stmt_level (CStmtKind-F.Clear at name) = place_tokens at ++ zeros_tokens name
stmt_level (CStmtKind-F.Call call) = ccall_tokens call ++ codes ";" ∷ []
stmt_level (CStmtKind-F.If test block other) = codes "if" ∷ (condition_tokens test ++ (braced (map stmt_tokens block) ++ else_level other))
stmt_level (CStmtKind-F.Loop turn test body) =
    turn_declared turn ++ (condition_tokens test ++ (turn_counted turn ++ (joined (map stmt_tokens body) ++ codes "}" ∷ codes "}" ∷ [])))
stmt_level CStmtKind-F.Break = codes "break" ∷ codes ";" ∷ []
stmt_level (CStmtKind-F.Return value) = codes "return" ∷ (result_tokens value ++ codes ";" ∷ [])

abbrev pub stmt_ok : StmtKinds → Bool
stmt_ok (CStmtKind-F.Set at value) = spells_place at && spells_expr value
stmt_ok (CStmtKind-F.Clear at name) = spells_place at && is_struct_name name
stmt_ok (CStmtKind-F.Call call) = spells_call call
stmt_ok (CStmtKind-F.If test block other) = spells_expr test && (all_of (map spells_stmt block) && else_ok other)
stmt_ok (CStmtKind-F.Loop turn test body) = is_turn_name turn && (spells_expr test && all_of (map spells_stmt body))
stmt_ok CStmtKind-F.Break = true
stmt_ok (CStmtKind-F.Return value) = spells_result value

abbrev pub stmt_bare : StmtKinds → CStmtKind
stmt_bare (CStmtKind-F.Set at value) = roll-CStmtKind (CStmtKind-F.Set (placeless_place at) (placeless_expr value))
stmt_bare (CStmtKind-F.Clear at name) = roll-CStmtKind (CStmtKind-F.Clear (placeless_place at) name)
stmt_bare (CStmtKind-F.Call call) = roll-CStmtKind (CStmtKind-F.Call (placeless_call call))
stmt_bare (CStmtKind-F.If test block other) = roll-CStmtKind (CStmtKind-F.If (placeless_expr test) (map placeless_stmt block) (else_bare other))
stmt_bare (CStmtKind-F.Loop turn test body) = roll-CStmtKind (CStmtKind-F.Loop turn (placeless_expr test) (map placeless_stmt body))
stmt_bare CStmtKind-F.Break = roll-CStmtKind CStmtKind-F.Break
stmt_bare (CStmtKind-F.Return value) = roll-CStmtKind (CStmtKind-F.Return (placeless_result value))

abbrev AtLevel : StmtKinds → Type 0
AtLevel = Levels stmt_kind_tokens placeless_stmt_kind spells_stmt_kind roll-CStmtKind stmt_level stmt_bare stmt_ok

pub stmt_kind_levels : (z : StmtKinds) → AtLevel z
stmt_kind_levels (CStmtKind-F.Set at value) = record {
  tokens_are = rw fold-roll-CStmtKind refl;
  bare_is =
      rw fold-roll-CStmtKind refl;
  ok_is = rw fold-roll-CStmtKind refl;
}
stmt_kind_levels (CStmtKind-F.Clear at name) = record {
  tokens_are = rw fold-roll-CStmtKind refl;
  bare_is =
      rw fold-roll-CStmtKind refl;
  ok_is = rw fold-roll-CStmtKind refl;
}
stmt_kind_levels (CStmtKind-F.Call call) = record {
  tokens_are = rw fold-roll-CStmtKind refl;
  bare_is =
      rw fold-roll-CStmtKind refl;
  ok_is = rw fold-roll-CStmtKind refl;
}
stmt_kind_levels (CStmtKind-F.If test block None) =
    record { tokens_are = rw fold-roll-CStmtKind refl; bare_is = rw fold-roll-CStmtKind refl; ok_is = rw fold-roll-CStmtKind refl }
stmt_kind_levels (CStmtKind-F.If test block (Some other)) =
    record { tokens_are = rw fold-roll-CStmtKind refl; bare_is = rw fold-roll-CStmtKind refl; ok_is = rw fold-roll-CStmtKind refl }
stmt_kind_levels (CStmtKind-F.Loop turn test body) =
    record { tokens_are = rw fold-roll-CStmtKind refl; bare_is = rw fold-roll-CStmtKind refl; ok_is = rw fold-roll-CStmtKind refl }
stmt_kind_levels CStmtKind-F.Break = record {
  tokens_are = rw fold-roll-CStmtKind refl;
  bare_is =
      rw fold-roll-CStmtKind refl;
  ok_is = rw fold-roll-CStmtKind refl;
}
stmt_kind_levels (CStmtKind-F.Return value) = record {
  tokens_are = rw fold-roll-CStmtKind refl;
  bare_is =
      rw fold-roll-CStmtKind refl;
  ok_is = rw fold-roll-CStmtKind refl;
}

abbrev pub whole_level : Stmts → List Token
whole_level s = stmt_kind_tokens s.what

abbrev pub whole_ok : Stmts → Bool
whole_ok s = spells_stmt_kind s.what

abbrev pub whole_bare : Stmts → CStmt
whole_bare s = roll-CStmt (record { place = any_place; what = placeless_stmt_kind s.what })

pub stmt_levels : (z : Stmts) → Levels stmt_tokens placeless_stmt spells_stmt roll-CStmt whole_level whole_bare whole_ok z
stmt_levels z = record { tokens_are = rw fold-roll-CStmt refl; bare_is = rw fold-roll-CStmt refl; ok_is = rw fold-roll-CStmt refl }

-- ---- what stands first

-- no statement goes on with `else`
abbrev pub no_else : List Token → Bool
no_else ts = not (is (first ts) (codes "else"))

-- what no statement begins with
abbrev pub strange : List Token
strange =
    codes "else" ∷ codes "}" ∷ codes "struct" ∷ codes "bool" ∷ codes "int8_t" ∷ codes "int16_t" ∷ codes "int32_t" ∷ codes "int64_t"
    ∷ codes "uint8_t" ∷ codes "uint16_t" ∷
    codes "uint32_t" ∷ codes "uint64_t" ∷ []

more_front : (ws xs more : List Token) → Front ws xs → Front ws (xs ++ more)
more_front ws xs more h r = ap (λ ts. among (first ts) ws) (append_assoc xs more r) ∙ h (more ++ r)

level_strange : (z : StmtKinds) → stmt_ok z ≡ true → Front strange (stmt_level z)
level_strange (CStmtKind-F.Set at value) h r = more_front strange (place_tokens at) _ (place_front strange refl refl at (and_first _ _ h)) r
level_strange (CStmtKind-F.Clear at name) h r = more_front strange (place_tokens at) _ (place_front strange refl refl at (and_first _ _ h)) r
level_strange (CStmtKind-F.Call call) h r = more_front strange (ccall_tokens call) _ (call_front strange refl call h) r
level_strange (CStmtKind-F.If test block other) h r = refl
level_strange (CStmtKind-F.Loop turn test body) h r = refl
level_strange CStmtKind-F.Break h r = refl
level_strange (CStmtKind-F.Return value) h r = refl

kind_strange : (k : CStmtKind) → spells_stmt_kind k ≡ true → Front strange (stmt_kind_tokens k)
kind_strange = by_level stmt_kind_tokens placeless_stmt_kind spells_stmt_kind no_else roll-CStmtKind stmt_level stmt_bare stmt_ok
    stmt_kind_levels out-CStmtKind roll-out-CStmtKind (Front strange) level_strange

pub stmt_front : (s : CStmt) → spells_stmt s ≡ true → Front strange (stmt_tokens s)
stmt_front =
    by_level stmt_tokens placeless_stmt spells_stmt no_else roll-CStmt whole_level whole_bare whole_ok stmt_levels out-CStmt
    roll-out-CStmt (Front strange) (λ z h. kind_strange z.what h)

pub stmts_row : InRow stmt_tokens spells_stmt no_else (stands (codes "}"))
stmts_row = record {
  starts = λ y r h. lacks (first (stmt_tokens y ++ r)) strange (codes "}") (stmt_front y h r) refl;
  between = λ y r h. ap not (lacks (first (stmt_tokens y ++ r)) strange (codes "else") (stmt_front y h r) refl);
  ends = λ r s. stands_is no_else _ _ (λ more. refl) r s;
}

-- whether a struct of zeros may begin
abbrev zeros : List Token → Bool
zeros ts = is (first ts) (codes "(") && is (second ts) (codes "struct")

unbracketed : (ts : List Token) → is (first ts) (codes "(") ≡ false → zeros ts ≡ false
unbracketed ts h = rw h refl

place_zeros : (c : Bool) (name : List ℕ) (more : List Token) → is_name name ≡ true → zeros (root_tokens c name ++ more) ≡ false
place_zeros true name more h = refl
place_zeros false name more h = unbracketed (name ∷ more) (lacks name (codes "(" ∷ []) (codes "(") (name_off name (codes "(" ∷ []) h refl) refl)

truth_zeros : (b : Bool) (r : List Token) → zeros (cond b (codes "false") (codes "true") ∷ r) ≡ false
truth_zeros true r = refl
truth_zeros false r = refl

int_zeros : (w : Width) (n : ℕ) (r : List Token) → zeros (literal_tokens (scalar.Int w) (pos n) ++ r) ≡ false
int_zeros W8 n r = refl
int_zeros W16 n r = refl
int_zeros W32 n r = refl
int_zeros W64 n r = refl

nat_zeros : (w : Width) (n : ℕ) (r : List Token) → zeros (literal_tokens (scalar.Nat w) (pos n) ++ r) ≡ false
nat_zeros W8 n r = refl
nat_zeros W16 n r = refl
nat_zeros W32 n r = refl
nat_zeros W64 n r = refl

least_zeros : (w : Width) (least : Bool) (more r : List Token) →
    zeros (cond least ((codes "INT" ++ (width_digits w ++ codes "_MIN")) ∷ []) (codes "(" ∷ codes "-" ∷ more) ++ r) ≡ false
least_zeros W8 true more r = refl
least_zeros W16 true more r = refl
least_zeros W32 true more r = refl
least_zeros W64 true more r = refl
least_zeros w false more r = refl

literal_zeros : (s : Scalar) (n : ℤ) → is_literal s n ≡ true → (r : List Token) → zeros (literal_tokens s n ++ r) ≡ false
literal_zeros scalar.Bool (pos n) h r = truth_zeros (n == 0) r
literal_zeros scalar.Bool (negsuc n) h r = cc
literal_zeros (scalar.Int w) (pos n) h r = int_zeros w n r
literal_zeros (scalar.Int w) (negsuc n) h r = least_zeros w (suc n == negatives w) _ r
literal_zeros (scalar.Nat w) (pos n) h r = nat_zeros w n r
literal_zeros (scalar.Nat w) (negsuc n) h r = cc
literal_zeros (scalar.Bits w) n h r = cc

two_zeros : (xs more r : List Token) → Front foreign xs → zeros ((codes "(" ∷ (xs ++ more)) ++ r) ≡ false
two_zeros xs more r h = ap (λ ts. is (first ts) (codes "struct")) (append_assoc xs more r)
    ∙ lacks (first (xs ++ (more ++ r))) foreign (codes "struct") (h (more ++ r)) refl

level_zeros : (z : Kinds) → kind_ok z ≡ true → (r : List Token) → zeros (kind_level z ++ r) ≡ false
level_zeros (CExprKind-F.Literal s n) h r = literal_zeros s n h r
level_zeros (CExprKind-F.Read p) h r =
    of_places (λ ts. zeros (ts ++ r) ≡ false)
    (λ z k. ap zeros (append_assoc (root_tokens z.through z.name) (joined (map step_tokens z.steps)) r)
    ∙ place_zeros z.through z.name (joined (map step_tokens z.steps) ++ r) (and_first _ _ k)) p h
level_zeros (CExprKind-F.Call c) h r = unbracketed (ccall_tokens c ++ r)
    (lacks (first (ccall_tokens c ++ r)) (codes "(" ∷ []) (codes "(") (call_front (codes "(" ∷ []) refl c h r) refl)
level_zeros (CExprKind-F.Not e) h r = refl
level_zeros (CExprKind-F.Two o x y) h r = two_zeros (expr_tokens x) _ r (expr_front x (and_first _ _ (and_second _ _ h)))

kind_zeros : (k : CExprKind) → spells_kind k ≡ true → (r : List Token) → zeros (kind_tokens k ++ r) ≡ false
kind_zeros = of_kinds (λ ts. (r : List Token) → zeros (ts ++ r) ≡ false) level_zeros

expr_zeros : (e : CExpr) → spells_expr e ≡ true → (r : List Token) → zeros (expr_tokens e ++ r) ≡ false
expr_zeros = of_exprs (λ ts. (r : List Token) → zeros (ts ++ r) ≡ false) (λ z h. kind_zeros z.what h)

-- ---- kinds by the first two tokens

data Sort : Type 0 where
  setting : Sort
  calling : Sort
  branching : Sort
  looping : Sort
  breaking : Sort
  returning : Sort

abbrev named_sort : List Token → Sort
named_sort ts = cond (is (first ts) (codes "(")) setting (cond (is (second ts) (codes "(")) calling setting)

abbrev sort_in : List Token → Sort
sort_in ts =
    cond (is (first ts) (codes "if")) branching (cond (is (first ts) (codes "{")) looping
    (cond (is (first ts) (codes "break")) breaking (cond (is (first ts) (codes "return")) returning (named_sort ts))))

abbrev sort_of : StmtKinds → Sort
sort_of (CStmtKind-F.Set at value) = setting
sort_of (CStmtKind-F.Clear at name) = setting
sort_of (CStmtKind-F.Call call) = calling
sort_of (CStmtKind-F.If test block other) = branching
sort_of (CStmtKind-F.Loop turn test body) = looping
sort_of CStmtKind-F.Break = breaking
sort_of (CStmtKind-F.Return value) = returning

abbrev leading : List Token
leading = codes "if" ∷ codes "{" ∷ codes "break" ∷ codes "return" ∷ codes "(" ∷ []

unled : (name : Token) (rest : List Token) → among name leading ≡ false → (v : Bool) → is (first rest) (codes "(") ≡ v →
    sort_in (name ∷ rest) ≡ cond v calling setting
unled name rest h v e =
    rw (
      lacks name leading (codes "if") h refl,
      lacks name leading (codes "{") h refl,
      lacks name leading (codes "break") h refl,
      lacks name leading (codes "return") h refl,
      lacks name leading (codes "(") h refl,
      e,
    ) refl

place_sort : (c : Bool) (name : List ℕ) (steps : List CStep) → is_name name ≡ true → all_of (map spells_step steps) ≡ true →
    (r : List Token) → ends r ≡ true
    → sort_in ((root_tokens c name ++ joined (map step_tokens steps)) ++ r) ≡ setting
place_sort true name steps h k r e = refl
place_sort false name steps h k r e = unled name (joined (map step_tokens steps) ++ r) (name_off name leading h refl) false (steps_open steps r k e)

set_sort : (p : CPlace) → spells_place p ≡ true → (more a : List Token) → ends (more ++ a) ≡ true →
    sort_in ((place_tokens p ++ more) ++ a) ≡ setting
set_sort p h more a e =
    ap sort_in (append_assoc (place_tokens p) more a)
    ∙ of_places (λ ts. sort_in (ts ++ (more ++ a)) ≡ setting)
    (λ z k. place_sort z.through z.name z.steps (and_first _ _ k) (and_second _ _ k) (more ++ a) e) p h

call_sort : (c : CCall) → spells_call c ≡ true → (r : List Token) → sort_in (ccall_tokens c ++ r) ≡ calling
call_sort c h r =
    of_calls (λ ts. sort_in (ts ++ r) ≡ calling)
    (λ z k. unled z.name (codes "(" ∷ ((with_commas (map arg_tokens z.args) ++ codes ")" ∷ []) ++ r))
    (callee_off z.name leading (and_first _ _ k) refl) true refl) c h

sort_is : (z : StmtKinds) → stmt_ok z ≡ true → (a : List Token) → sort_in (stmt_level z ++ a) ≡ sort_of z
sort_is (CStmtKind-F.Set at value) h a = set_sort at (and_first _ _ h) (codes "=" ∷ (expr_tokens value ++ codes ";" ∷ [])) a refl
sort_is (CStmtKind-F.Clear at name) h a = set_sort at (and_first _ _ h) (zeros_tokens name) a refl
sort_is (CStmtKind-F.Call call) h a = ap sort_in (append_assoc (ccall_tokens call) (codes ";" ∷ []) a) ∙ call_sort call h (codes ";" ∷ a)
sort_is (CStmtKind-F.If test block other) h a = refl
sort_is (CStmtKind-F.Loop turn test body) h a = refl
sort_is CStmtKind-F.Break h a = refl
sort_is (CStmtKind-F.Return value) h a = refl

-- ---- one level against another

abbrev OfKind : CStmtKind → Type 0
OfKind = Only stmt_kind_tokens placeless_stmt_kind spells_stmt_kind no_else

abbrev OfStmt : CStmt → Type 0
OfStmt = Only stmt_tokens placeless_stmt spells_stmt no_else

abbrev Kind : Type 0
Kind = (k : CStmtKind) × OfKind k

abbrev Stmt : Type 0
Stmt = (s : CStmt) × OfStmt s

abbrev plain_kind : CStmtKind-F Kind Stmt → StmtKinds
plain_kind = map-CStmtKind Kind Stmt CStmtKind CStmt (λ e. e.0) (λ e. e.0)

abbrev Same : StmtKinds → StmtKinds → List Token → List Token → Type 0
Same x z a b = (stmt_bare x ≡ stmt_bare z) × (a ≡ b)

by_set : {p q : CPlace} {e f : CExpr} → p ≡ q → e ≡ f → roll-CStmtKind (CStmtKind-F.Set p e) ≡ roll-CStmtKind (CStmtKind-F.Set q f)
by_set e f = cc

by_clear : {p q : CPlace} {n m : List ℕ} → p ≡ q → n ≡ m → roll-CStmtKind (CStmtKind-F.Clear p n) ≡ roll-CStmtKind (CStmtKind-F.Clear q m)
by_clear e f = cc

by_if : {u v : CExpr} {xs ys : List CStmt} {o p : Option (List CStmt)} → u ≡ v → xs ≡ ys → o ≡ p →
    roll-CStmtKind (CStmtKind-F.If u xs o) ≡ roll-CStmtKind (CStmtKind-F.If v ys p)
by_if e f g = cc

by_loop : {n m : List ℕ} {u v : CExpr} {xs ys : List CStmt} → n ≡ m → u ≡ v → xs ≡ ys →
    roll-CStmtKind (CStmtKind-F.Loop n u xs) ≡ roll-CStmtKind (CStmtKind-F.Loop m v ys)
by_loop e f g = cc

set_place : (p q : CPlace) → spells_place p ≡ true → spells_place q ≡ true → (r s a b : List Token) → ends (r ++ a) ≡ true →
    ends (s ++ b) ≡ true
    → (place_tokens p ++ r) ++ a ≡ (place_tokens q ++ s) ++ b → (placeless_place p ≡ placeless_place q) × (r ++ a ≡ s ++ b)
set_place p q h k r s a b t u e = before_same place_tokens placeless_place spells_place ends p (one_place p) h q k r s a b t u e

value_same : (x y : CExpr) → spells_expr x ≡ true → spells_expr y ≡ true → (r s a b : List Token) → ends (r ++ a) ≡ true →
    ends (s ++ b) ≡ true
    → (expr_tokens x ++ r) ++ a ≡ (expr_tokens y ++ s) ++ b → (placeless_expr x ≡ placeless_expr y) × (r ++ a ≡ s ++ b)
value_same x y h k r s a b t u e = before_same expr_tokens placeless_expr spells_expr ends x (one_expr x) h y k r s a b t u e

set_same : (p : CPlace) (x : CExpr) (q : CPlace) (y : CExpr) → (spells_place p && spells_expr x) ≡ true →
    (spells_place q && spells_expr y) ≡ true → (a b : List Token)
    → stmt_level (CStmtKind-F.Set p x) ++ a ≡ stmt_level (CStmtKind-F.Set q y) ++ b → Same (CStmtKind-F.Set p x) (CStmtKind-F.Set q y) a b
set_same p x q y h k a b e =
    let m = set_place p q (and_first _ _ h) (and_first _ _ k) (codes "=" ∷ (expr_tokens x ++ codes ";" ∷ []))
    (codes "=" ∷ (expr_tokens y ++ codes ";" ∷ [])) a b refl refl e in
    let n = value_same x y (and_second _ _ h) (and_second _ _ k) (codes ";" ∷ []) (codes ";" ∷ []) a b refl refl (ap tail m.1) in
    (by_set m.0 n.0, ap tail n.1)

clear_same : (p : CPlace) (n : List ℕ) (q : CPlace) (m : List ℕ) → (spells_place p && is_struct_name n) ≡ true →
    (spells_place q && is_struct_name m) ≡ true → (a b : List Token)
    → stmt_level (CStmtKind-F.Clear p n) ++ a ≡ stmt_level (CStmtKind-F.Clear q m) ++ b → Same (CStmtKind-F.Clear p n) (CStmtKind-F.Clear q m) a b
clear_same p n q m h k a b e =
    let r = set_place p q (and_first _ _ h) (and_first _ _ k) (zeros_tokens n) (zeros_tokens m) a b refl refl e in
    (by_clear r.0 (ap (λ ts. second (tail (tail ts))) r.1), ap (λ ts. tail (tail (tail (tail (tail (tail (tail (tail (tail ts))))))))) r.1)

set_clear : {P : Type 0} (p : CPlace) (x : CExpr) (q : CPlace) (m : List ℕ) → (spells_place p && spells_expr x) ≡ true →
    (spells_place q && is_struct_name m) ≡ true → (a b : List Token)
    → stmt_level (CStmtKind-F.Set p x) ++ a ≡ stmt_level (CStmtKind-F.Clear q m) ++ b → P
set_clear p x q m h k a b e =
    let r = set_place p q (and_first _ _ h) (and_first _ _ k) (codes "=" ∷ (expr_tokens x ++ codes ";" ∷ [])) (zeros_tokens m) a b refl refl e in
    from_true_false (sym (ap (λ ts. zeros (tail ts)) r.1) ∙ (ap zeros (append_assoc (expr_tokens x) (codes ";" ∷ []) a)
    ∙ expr_zeros x (and_second _ _ h) (codes ";" ∷ a)))

condition_same : (x y : CExpr) → spells_expr x ≡ true → spells_expr y ≡ true → (r s a b : List Token) →
    (condition_tokens x ++ r) ++ a ≡ (condition_tokens y ++ s) ++ b
    → (placeless_expr x ≡ placeless_expr y) × (r ++ a ≡ s ++ b)
condition_same x y h k r s a b e =
    let m = value_same x y h k (codes ")" ∷ []) (codes ")" ∷ []) (r ++ a) (s ++ b) refl refl
    (sym (append_assoc (expr_tokens x ++ codes ")" ∷ []) r a) ∙ (ap tail e ∙ append_assoc (expr_tokens y ++ codes ")" ∷ []) s b)) in
    (m.0, ap tail m.1)

block_same : (xs : List Stmt) (ys : List CStmt) → all_of (map spells_stmt (map (λ e. e.0) xs)) ≡ true →
    all_of (map spells_stmt ys) ≡ true → (a b : List Token)
    → braced (map stmt_tokens (map (λ e. e.0) xs)) ++ a ≡ braced (map stmt_tokens ys) ++ b →
    (map placeless_stmt (map (λ e. e.0) xs) ≡ map placeless_stmt ys) × (a ≡ b)
block_same xs ys h k a b e = braced_same stmt_tokens placeless_stmt spells_stmt no_else stmts_row (map (λ e. e.0) xs) ys (each_shown OfStmt xs) h k a b e

abbrev plain_else : Option (List Stmt) → Option (List CStmt)
plain_else None = None
plain_else (Some xs) = Some (map (λ e. e.0) xs)

some_block : {xs ys : List CStmt} → xs ≡ ys → Some xs ≡ Some ys
some_block e = ap (λ xs. Some xs) e

other_same : (xs : Option (List Stmt)) (ys : Option (List CStmt)) → else_ok (plain_else xs) ≡ true → else_ok ys ≡ true →
    (a b : List Token) → no_else a ≡ true → no_else b ≡ true
    → else_level (plain_else xs) ++ a ≡ else_level ys ++ b → (else_bare (plain_else xs) ≡ else_bare ys) × (a ≡ b)
other_same None None h k a b s t e = (refl, e)
other_same (Some xs) (Some ys) h k a b s t e = let r = block_same xs ys h k a b (ap tail e) in (some_block r.0, r.1)
other_same None (Some ys) h k a b s t e = from_true_false (sym s ∙ ap no_else e)
other_same (Some xs) None h k a b s t e = from_true_false (sym t ∙ sym (ap no_else e))

if_same : (x : CExpr) (xs : List Stmt) (o : Option (List Stmt)) (y : CExpr) (ys : List CStmt) (p : Option (List CStmt))
    → stmt_ok (CStmtKind-F.If x (map (λ e. e.0) xs) (plain_else o)) ≡ true → stmt_ok (CStmtKind-F.If y ys p) ≡ true →
    (a b : List Token) → no_else a ≡ true → no_else b ≡ true
    → stmt_level (CStmtKind-F.If x (map (λ e. e.0) xs) (plain_else o)) ++ a ≡ stmt_level (CStmtKind-F.If y ys p) ++ b
    → Same (CStmtKind-F.If x (map (λ e. e.0) xs) (plain_else o)) (CStmtKind-F.If y ys p) a b
if_same x xs o y ys p h k a b s t e =
    let m = condition_same x y (and_first _ _ h) (and_first _ _ k)
    (braced (map stmt_tokens (map (λ e. e.0) xs)) ++ else_level (plain_else o)) (braced (map stmt_tokens ys) ++ else_level p) a b (ap tail e) in
    let n = block_same xs ys (and_first _ _ (and_second _ _ h)) (and_first _ _ (and_second _ _ k)) (else_level (plain_else o) ++ a) (else_level p ++ b)
    (sym (append_assoc (braced (map stmt_tokens (map (λ e. e.0) xs))) (else_level (plain_else o)) a)
    ∙ (m.1 ∙ append_assoc (braced (map stmt_tokens ys)) (else_level p) b)) in
    let r = other_same o p (and_second _ _ (and_second _ _ h)) (and_second _ _ (and_second _ _ k)) a b s t n.1 in
    (by_if m.0 n.0 r.0, r.1)

abbrev seven_off : List Token → List Token
seven_off ts = tail (tail (tail (tail (tail (tail (tail ts))))))

loop_same : (n : List ℕ) (x : CExpr) (xs : List Stmt) (m : List ℕ) (y : CExpr) (ys : List CStmt)
    → stmt_ok (CStmtKind-F.Loop n x (map (λ e. e.0) xs)) ≡ true → stmt_ok (CStmtKind-F.Loop m y ys) ≡ true → (a b : List Token)
    → stmt_level (CStmtKind-F.Loop n x (map (λ e. e.0) xs)) ++ a ≡ stmt_level (CStmtKind-F.Loop m y ys) ++ b
    → Same (CStmtKind-F.Loop n x (map (λ e. e.0) xs)) (CStmtKind-F.Loop m y ys) a b
loop_same n x xs m y ys h k a b e =
    let us = joined (map stmt_tokens (map (λ e. e.0) xs)) in
    let vs = joined (map stmt_tokens ys) in
    let c = condition_same x y (and_first _ _ (and_second _ _ h)) (and_first _ _ (and_second _ _ k))
    (turn_counted n ++ (us ++ codes "}" ∷ codes "}" ∷ [])) (turn_counted m ++ (vs ++ codes "}" ∷ codes "}" ∷ [])) a b (ap seven_off e) in
    let r = closed_same stmt_tokens placeless_stmt spells_stmt no_else stmts_row (map (λ e. e.0) xs) ys (each_shown OfStmt xs)
    (and_second _ _ (and_second _ _ h)) (and_second _ _ (and_second _ _ k)) (codes "}" ∷ a) (codes "}" ∷ b)
    (sym (append_assoc us (codes "}" ∷ codes "}" ∷ []) a)
    ∙ (ap (λ ts. tail (seven_off ts)) c.1 ∙ append_assoc vs (codes "}" ∷ codes "}" ∷ []) b)) in
    (by_loop (ap (λ ts. second (tail ts)) e) c.0 r.0, ap tail r.1)

no_result : {P : Type 0} (x : CExpr) (a b : List Token) → spells_expr x ≡ true → codes ";" ∷ b ≡ (expr_tokens x ++ codes ";" ∷ []) ++ a → P
no_result x a b h e =
    from_true_false (ap (λ ts. is (first ts) (codes ";")) (e ∙ append_assoc (expr_tokens x) (codes ";" ∷ []) a)
    ∙ lacks (first (expr_tokens x ++ (codes ";" ∷ a))) foreign (codes ";") (expr_front x h (codes ";" ∷ a)) refl)

return_same : (x y : Option CExpr) → spells_result x ≡ true → spells_result y ≡ true → (a b : List Token) →
    (result_tokens x ++ codes ";" ∷ []) ++ a ≡ (result_tokens y ++ codes ";" ∷ []) ++ b
    → Same (CStmtKind-F.Return x) (CStmtKind-F.Return y) a b
return_same None None h k a b e = (refl, ap tail e)
return_same (Some x) (Some y) h k a b e =
    let m = value_same x y h k (codes ";" ∷ []) (codes ";" ∷ []) a b refl refl e in
    (ap (λ e. roll-CStmtKind (CStmtKind-F.Return (Some e))) m.0, ap tail m.1)
return_same None (Some y) h k a b e = no_result y b a k e
return_same (Some x) None h k a b e = no_result x a b h (sym e)

call_same : (c d : CCall) → spells_call c ≡ true → spells_call d ≡ true → (a b : List Token) →
    (ccall_tokens c ++ codes ";" ∷ []) ++ a ≡ (ccall_tokens d ++ codes ";" ∷ []) ++ b
    → Same (CStmtKind-F.Call c) (CStmtKind-F.Call d) a b
call_same c d h k a b e =
    let m = before_same ccall_tokens placeless_call spells_call ends c (one_call c) h d k (codes ";" ∷ []) (codes ";" ∷ []) a b refl refl e in
    (ap (λ c. roll-CStmtKind (CStmtKind-F.Call c)) m.0, ap tail m.1)

by_sort : (x : CStmtKind-F Kind Stmt) (z : StmtKinds) → sort_of (plain_kind x) ≡ sort_of z → stmt_ok (plain_kind x) ≡ true →
    stmt_ok z ≡ true → (a b : List Token) → no_else a ≡ true → no_else b ≡ true
    → stmt_level (plain_kind x) ++ a ≡ stmt_level z ++ b → Same (plain_kind x) z a b
by_sort (CStmtKind-F.Set p x) (CStmtKind-F.Set q y) same h k a b s t e = set_same p x q y h k a b e
by_sort (CStmtKind-F.Clear p n) (CStmtKind-F.Clear q m) same h k a b s t e = clear_same p n q m h k a b e
by_sort (CStmtKind-F.Set p x) (CStmtKind-F.Clear q m) same h k a b s t e = set_clear p x q m h k a b e
by_sort (CStmtKind-F.Clear p n) (CStmtKind-F.Set q y) same h k a b s t e = set_clear q y p n k h b a (sym e)
by_sort (CStmtKind-F.Call c) (CStmtKind-F.Call d) same h k a b s t e = call_same c d h k a b e
by_sort (CStmtKind-F.If x xs None) (CStmtKind-F.If y ys p) same h k a b s t e = if_same x xs None y ys p h k a b s t e
by_sort (CStmtKind-F.If x xs (Some o)) (CStmtKind-F.If y ys p) same h k a b s t e = if_same x xs (Some o) y ys p h k a b s t e
by_sort (CStmtKind-F.Loop n x xs) (CStmtKind-F.Loop m y ys) same h k a b s t e = loop_same n x xs m y ys h k a b e
by_sort CStmtKind-F.Break CStmtKind-F.Break same h k a b s t e = (refl, ap (λ ts. tail (tail ts)) e)
by_sort (CStmtKind-F.Return x) (CStmtKind-F.Return y) same h k a b s t e = return_same x y h k a b (ap tail e)
by_sort _ _ same h k a b s t e = absurd (cc)

kind_same : (x : CStmtKind-F Kind Stmt) → OnlyLevel stmt_level stmt_bare stmt_ok no_else (plain_kind x)
kind_same x z h k a b s t e = by_sort x z (sym (sort_is (plain_kind x) h a) ∙ (ap sort_in e ∙ sort_is z k b)) h k a b s t e

stmt_same : (place : TextPlace) (what : Kind) → OnlyLevel whole_level whole_bare whole_ok no_else (record { place = place; what = what.0 })
stmt_same place what z h k a b s t e = let m = what.1 h z.what k a b s t e in (ap (λ k. roll-CStmt (record { place = any_place; what = k })) m.0, m.1)

kind_only : (x : CStmtKind-F Kind Stmt) → OfKind (roll-CStmtKind (plain_kind x))
kind_only x = only_whole stmt_kind_tokens placeless_stmt_kind spells_stmt_kind no_else roll-CStmtKind stmt_level stmt_bare stmt_ok
    stmt_kind_levels out-CStmtKind roll-out-CStmtKind (plain_kind x) (kind_same x)

stmt_only : (place : TextPlace) (what : Kind) → OfStmt (roll-CStmt (record { place = place; what = what.0 }))
stmt_only place what = only_whole stmt_tokens placeless_stmt spells_stmt no_else roll-CStmt whole_level whole_bare whole_ok
    stmt_levels out-CStmt roll-out-CStmt _ (stmt_same place what)

pub one_stmt : (s : CStmt) → Only stmt_tokens placeless_stmt spells_stmt no_else s
one_stmt =
    ind-CStmt OfKind OfStmt
    (λ x y is. subst (λ layer. OfKind (roll-CStmtKind layer)) is (kind_only y))
    (λ x y is. subst (λ layer. OfStmt (roll-CStmt layer)) is (stmt_only y.place y.what))
