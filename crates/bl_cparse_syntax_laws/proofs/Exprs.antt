-- The tokens of an expression that has a spelling derive, and so do those of its parts.
use Rattle.std.proofs.Common.{◌≡◌, ℕ, ◌+◌, ◌-◌, ◌≤◌, ◌<◌, Bool, true, false, ◌&&◌, nat_le, List, [], ◌∷◌, ◌++◌, map, Option, Some, None, refl, sym, subst}
use Rattle.std.proofs.Common.{arith, codes}
use Rattle.std.proofs.lemmas.Bool.Decides.{nat_tests}
use Rattle.std.specs.Fmt.{decimal}
use Rattle.bl_tree.proofs.Basics.{and_first, and_second}
use Rattle.bl_tree.specs.declared.place.Place.{Place as TextPlace}
use Rattle.bl_tree.specs.declared.scalar.Op.{Op}
use Rattle.bl_tree.specs.declared.scalar.Op.TheVariants as op
use Rattle.bl_tree.specs.declared.c.CPlace.{CPlace, fold-roll-CPlace, roll-CPlace, ind-CPlace}
use Rattle.bl_tree.specs.declared.c.CStep.{CStep, CStep-F, fold-roll-CStep, map-CStep, roll-CStep}
use Rattle.bl_tree.specs.declared.c.CIndex.{CIndex, fold-roll-CIndex, roll-CIndex}
use Rattle.bl_tree.specs.declared.c.CExpr.{CExpr, fold-roll-CExpr, roll-CExpr, ind-CExpr}
use Rattle.bl_tree.specs.declared.c.CExprKind.{CExprKind, CExprKind-F, fold-roll-CExprKind, map-CExprKind, roll-CExprKind}
use Rattle.bl_tree.specs.declared.c.CCall.{CCall, fold-roll-CCall, roll-CCall, ind-CCall}
use Rattle.bl_tree.specs.declared.c.CArg.{CArg, CArg-F, fold-roll-CArg, map-CArg, roll-CArg}
use Rattle.bl_tree.specs.Reduce.{all_of}
use Rattle.bl_ctext.specs.Token.{Token}
use Rattle.bl_ctext.specs.Names.{is_among, is_name, is_callee}
use Rattle.bl_ctext.specs.Spelling.{operator_sign, call_tokens, index_front, expr_tokens, kind_tokens, place_tokens, step_tokens, index_tokens, ccall_tokens}
use Rattle.bl_ctext.specs.Spelling.{arg_tokens}
use Rattle.bl_ctext.specs.Spellable.{is_c_operator, is_length, most_open, spells_expr, spells_kind, spells_place, spells_step, spells_index, spells_call}
use Rattle.bl_ctext.specs.Spellable.{spells_arg}
use Rattle.bl_ctext.proofs.Nesting.{is_bracket}
use Rattle.bl_cparse_syntax.specs.declared.grammar.Group.TheVariants.{Operators, IndexFunctions}
use Rattle.bl_cparse_syntax.specs.declared.grammar.Digits.TheVariants.{Elements}
use Rattle.bl_cparse_syntax.specs.declared.grammar.Part.TheVariants.{Simple, Stmt, Index, Arg, Place, Expr}
use Rattle.bl_cparse_syntax.specs.Classes.{matches}
use Rattle.bl_cparse_syntax.specs.Classes.Class.{one_of, number}
use Rattle.bl_cparse_syntax.specs.Grammar.{Wanted}
use Rattle.bl_cparse_syntax.specs.Grammar.IsAmong.{here, later}
use Rattle.bl_cparse_syntax_laws.proofs.Shallow.{Goes, at, roomed, free, open_then, close_then, class_then, word_then, one_behind}
use Rattle.bl_cparse_syntax_laws.proofs.Literals.{OfKindTokens, literal_begun, number_is, number_plain}
use Rattle.bl_cparse_syntax_laws.proofs.Literals.Begun.{simple}
use Rattle.bl_cparse_syntax_laws.proofs.Lists.{Whole, Each, OfStepTokens, OfPlaceTokens, apart, name_then, whole_expr, not_begun, two_begun, call_simple}
use Rattle.bl_cparse_syntax_laws.proofs.Lists.{call_stmt, place_goes}

sign_is : (o : Op) → is_c_operator o ≡ true → (matches (one_of Operators) (operator_sign o) ≡ true) × (is_bracket (operator_sign o) ≡ false)
unfolding matches is_among
sign_is op.Eq h = (refl, refl)
sign_is op.Ne h = (refl, refl)
sign_is op.Lt h = (refl, refl)
sign_is op.Le h = (refl, refl)
sign_is op.Gt h = (refl, refl)
sign_is op.Ge h = (refl, refl)
sign_is op.And h = (refl, refl)
sign_is op.Or h = (refl, refl)
sign_is _ h = absurd (let e : false ≡ true = h in cc)

-- an index

function_is : (signed : Bool) → (word : Token) × ((index_front signed ≡ codes "[" ∷ word ∷ codes "(" ∷ [])
    × (matches (one_of IndexFunctions) word ≡ true) × (is_bracket word ≡ false))
unfolding matches is_among
function_is true = (codes "bl_ix_s", (refl, refl, refl))
function_is false = (codes "bl_ix_u", (refl, refl, refl))

two_open : (k : ℕ) (w : Token) (ts : List Token) → is_bracket w ≡ false → most_open k (codes "[" ∷ w ∷ codes "(" ∷ ts) ≤ 2000 → 2 ≤ 2000 - k
two_open k w ts h few =
    let deep : most_open (k + 1) (w ∷ codes "(" ∷ ts) ≤ 2000 = omega (arith, few) in
    let one : 1 ≤ 2000 - (k + 1) = one_behind (k + 1) w ts h deep in
    omega (arith, one)

pub length_is : (n : ℕ) → is_length n ≡ true → (1 ≤ n) × (n < 65537)
length_is n h =
    let low : nat_le 1 n ≡ true = and_first _ _ h in
    let high : nat_le n 65536 ≡ true = and_second (nat_le 1 n) (nat_le n 65536) h in
    (grind (arith, nat_tests), grind (arith, nat_tests))

index_by : (word : Token) (xs : List Token) (n : ℕ) → matches (one_of IndexFunctions) word ≡ true → is_bracket word ≡ false →
    is_length n ≡ true → Whole Expr xs
    → Whole Index (codes "[" ∷ word ∷ codes "(" ∷ (xs ++ (codes "," ∷ decimal n ∷ codes ")" ∷ codes "]" ∷ [])))
index_by word xs n m h i of k ss ts go =
    let range = length_is n i in
    roomed k k Index ss (codes "[" ∷ word ∷ codes "(" ∷ ((xs ++ (codes "," ∷ decimal n ∷ codes ")" ∷ codes "]" ∷ [])) ++ ts)) here
    (λ few. two_open k word _ h few)
    (open_then k _ _ _ refl (class_then (one_of IndexFunctions) (k + 1) word _ _ m h (open_then (k + 1) _ _ _ refl
    (apart (k + 1 + 1) _ xs _ ts (of (k + 1 + 1) _ (codes "," ∷ decimal n ∷ codes ")" ∷ codes "]" ∷ ts)
    (word_then (k + 1 + 1) _ _ _ refl (class_then (number Elements) (k + 1 + 1) (decimal n) _ _
    (number_is Elements n range.0 range.1) (number_plain Elements n range.1)
    (close_then (k + 1) _ _ _ refl refl (close_then k _ _ _ refl refl go)))))))))

index_goes : (signed : Bool) (xs : List Token) (n : ℕ) → is_length n ≡ true → Whole Expr xs →
    Whole Index (index_front signed ++ (xs ++ (codes "," ∷ decimal n ∷ codes ")" ∷ codes "]" ∷ [])))
index_goes signed xs n i of =
    let f = function_is signed in
    subst (λ (front : List Token). Whole Index (front ++ (xs ++ (codes "," ∷ decimal n ∷ codes ")" ∷ codes "]" ∷ [])))) (sym f.1.0)
    (index_by f.0 xs n f.1.1 f.1.2 i of)

-- the parts of an expression

abbrev OfArg : CArg → Type 0
OfArg a = spells_arg a ≡ true → Whole Arg (arg_tokens a)

abbrev OfKind : CExprKind → Type 0
OfKind k = spells_kind k ≡ true → OfKindTokens (kind_tokens k)

-- a call as an expression and as a statement
pub record OfCallTokens (xs : List Token) : Type 0 where
  pub simply : Whole Simple xs
  pub alone : (k : ℕ) (ss : List Wanted) (ts : List Token) → Goes k ss ts → Goes k (at k Stmt ∷ ss) (xs ++ (codes ";" ∷ ts))

abbrev OfCall : CCall → Type 0
OfCall c = spells_call c ≡ true → OfCallTokens (ccall_tokens c)

abbrev OfExpr : CExpr → Type 0
OfExpr e = spells_expr e ≡ true → OfKindTokens (expr_tokens e)

abbrev OfIndex : CIndex → Type 0
OfIndex i = spells_index i ≡ true → Whole Index (index_tokens i)

abbrev OfPlace : CPlace → Type 0
OfPlace p = spells_place p ≡ true → OfPlaceTokens (place_tokens p)

abbrev OfStep : CStep → Type 0
OfStep s = spells_step s ≡ true → OfStepTokens (step_tokens s)

abbrev ArgOf : Type 0
ArgOf = (a : CArg) × OfArg a

abbrev KindOf : Type 0
KindOf = (k : CExprKind) × OfKind k

abbrev CallOf : Type 0
CallOf = (c : CCall) × OfCall c

abbrev ExprOf : Type 0
ExprOf = (e : CExpr) × OfExpr e

abbrev IndexOf : Type 0
IndexOf = (i : CIndex) × OfIndex i

abbrev PlaceOf : Type 0
PlaceOf = (p : CPlace) × OfPlace p

abbrev StepOf : Type 0
StepOf = (s : CStep) × OfStep s

abbrev plain_arg : CArg-F ArgOf KindOf CallOf ExprOf IndexOf PlaceOf StepOf → CArg-F CArg CExprKind CCall CExpr CIndex CPlace CStep
plain_arg = map-CArg ArgOf KindOf CallOf ExprOf IndexOf PlaceOf StepOf CArg CExprKind CCall CExpr CIndex CPlace CStep
    (λ e. e.0) (λ e. e.0) (λ e. e.0) (λ e. e.0) (λ e. e.0) (λ e. e.0) (λ e. e.0)

abbrev plain_kind : CExprKind-F ArgOf KindOf CallOf ExprOf IndexOf PlaceOf StepOf → CExprKind-F CArg CExprKind CCall CExpr CIndex CPlace CStep
plain_kind = map-CExprKind ArgOf KindOf CallOf ExprOf IndexOf PlaceOf StepOf CArg CExprKind CCall CExpr CIndex CPlace CStep
    (λ e. e.0) (λ e. e.0) (λ e. e.0) (λ e. e.0) (λ e. e.0) (λ e. e.0) (λ e. e.0)

abbrev plain_step : CStep-F ArgOf KindOf CallOf ExprOf IndexOf PlaceOf StepOf → CStep-F CArg CExprKind CCall CExpr CIndex CPlace CStep
plain_step = map-CStep ArgOf KindOf CallOf ExprOf IndexOf PlaceOf StepOf CArg CExprKind CCall CExpr CIndex CPlace CStep
    (λ e. e.0) (λ e. e.0) (λ e. e.0) (λ e. e.0) (λ e. e.0) (λ e. e.0) (λ e. e.0)

-- every part of a list, where each is shown with it
pub each_shown : {A : Type 0} (P : List Token → Type 0) (tokens : A → List Token) (spells : A → Bool)
    (xs : List ((a : A) × (spells a ≡ true → P (tokens a)))) → all_of (map spells (map (λ e. e.0) xs)) ≡ true →
    Each P (map tokens (map (λ e. e.0) xs))
each_shown P tokens spells [] h = tt
each_shown P tokens spells (x ∷ xs) h = (x.1 (and_first _ _ h), each_shown P tokens spells xs (and_second _ _ h))

address_goes : (xs : List Token) → Whole Place xs → Whole Arg (codes "&" ∷ xs)
address_goes xs of k ss ts go = free k k Arg ss (codes "&" ∷ (xs ++ ts)) here (omega arith) (word_then k _ _ _ refl (of k ss ts go))

value_goes : (xs : List Token) → OfKindTokens xs → Whole Arg xs
value_goes xs of k ss ts go = free k k Arg ss (xs ++ ts) (later here) (omega arith) (whole_expr xs of k ss ts go)

by_arg : (y : CArg-F ArgOf KindOf CallOf ExprOf IndexOf PlaceOf StepOf) → OfArg (roll-CArg (plain_arg y))
by_arg (CArg-F.Value e) h = rw fold-roll-CArg (value_goes (expr_tokens e.0) (e.1 (rw fold-roll-CArg at h)))
by_arg (CArg-F.Address p) h = rw fold-roll-CArg (address_goes (place_tokens p.0) (p.1 (rw fold-roll-CArg at h)).whole)

call_begun : (xs : List Token) → Whole Simple xs → OfKindTokens xs
call_begun xs of k ss ts go = simple (of k ss ts go)

by_kind : (y : CExprKind-F ArgOf KindOf CallOf ExprOf IndexOf PlaceOf StepOf) → OfKind (roll-CExprKind (plain_kind y))
by_kind (CExprKind-F.Literal s n) h = rw fold-roll-CExprKind (literal_begun s n (rw fold-roll-CExprKind at h))
by_kind (CExprKind-F.Read p) h = rw fold-roll-CExprKind ((p.1 (rw fold-roll-CExprKind at h)).read)
by_kind (CExprKind-F.Call c) h = rw fold-roll-CExprKind (call_begun (ccall_tokens c.0) (c.1 (rw fold-roll-CExprKind at h)).simply)
by_kind (CExprKind-F.Not e) h = rw fold-roll-CExprKind (not_begun (expr_tokens e.0) (whole_expr (expr_tokens e.0) (e.1 (rw fold-roll-CExprKind at h))))
by_kind (CExprKind-F.Two o a b) h =
    let all : (is_c_operator o && (spells_expr a.0 && spells_expr b.0)) ≡ true = rw fold-roll-CExprKind at h in
    let parts : (spells_expr a.0 && spells_expr b.0) ≡ true = and_second (is_c_operator o) (spells_expr a.0 && spells_expr b.0) all in
    let sign = sign_is o (and_first _ _ all) in
    rw fold-roll-CExprKind
    (two_begun (expr_tokens a.0) (expr_tokens b.0) (operator_sign o) sign.0 sign.1
    (whole_expr (expr_tokens a.0) (a.1 (and_first (spells_expr a.0) (spells_expr b.0) parts)))
    (whole_expr (expr_tokens b.0) (b.1 (and_second (spells_expr a.0) (spells_expr b.0) parts))))

call_goes : (name : Token) (parts : List (List Token)) → is_callee name ≡ true → Each (Whole Arg) parts → OfCallTokens (call_tokens name parts)
call_goes name parts h each = record { simply = call_simple name parts h each; alone = call_stmt name parts h each }

by_call : (name : Token) (args : List ArgOf) → OfCall (roll-CCall (record { name = name; args = map (λ e. e.0) args }))
by_call name args h =
    let all : (is_callee name && all_of (map spells_arg (map (λ e. e.0) args))) ≡ true = rw fold-roll-CCall at h in
    rw fold-roll-CCall (call_goes name (map arg_tokens (map (λ e. e.0) args)) (and_first _ _ all)
    (each_shown (Whole Arg) arg_tokens spells_arg args (and_second _ _ all)))

by_index : (signed : Bool) (e : ExprOf) (n : ℕ) → OfIndex (roll-CIndex (record { signed = signed; at = e.0; length = n }))
by_index signed e n h =
    let all : (spells_expr e.0 && is_length n) ≡ true = rw fold-roll-CIndex at h in
    rw fold-roll-CIndex (index_goes signed (expr_tokens e.0) n (and_second _ _ all) (whole_expr (expr_tokens e.0) (e.1 (and_first _ _ all))))

by_place : (through : Bool) (name : Token) (steps : List StepOf) →
    OfPlace (roll-CPlace (record { through = through; name = name; steps = map (λ e. e.0) steps }))
by_place through name steps h =
    let all : (is_name name && all_of (map spells_step (map (λ e. e.0) steps))) ≡ true = rw fold-roll-CPlace at h in
    rw fold-roll-CPlace (place_goes through name (map step_tokens (map (λ e. e.0) steps)) (and_first _ _ all)
    (each_shown OfStepTokens step_tokens spells_step steps (and_second _ _ all)))

bare_step : (member : Token) → is_name member ≡ true → OfStepTokens (codes "." ∷ member ∷ [])
bare_step member h k ss ts go = word_then k _ _ _ refl (name_then k member _ _ h (free k k Index ss ts (later here) (omega arith) go))

indexed_step : (member : Token) (xs : List Token) → is_name member ≡ true → Whole Index xs → OfStepTokens (codes "." ∷ member ∷ xs)
indexed_step member xs h of k ss ts go = word_then k _ _ _ refl (name_then k member _ _ h (of k ss ts go))

by_step : (member : Token) (index : Option IndexOf) → OfStep (roll-CStep (plain_step (record { member = member; index = index })))
by_step member None h =
    let all : (is_name member && true) ≡ true = rw fold-roll-CStep at h in
    rw fold-roll-CStep (bare_step member (and_first _ _ all))
by_step member (Some i) h =
    let all : (is_name member && spells_index i.0) ≡ true = rw fold-roll-CStep at h in
    rw fold-roll-CStep (indexed_step member (index_tokens i.0) (and_first _ _ all) (i.1 (and_second _ _ all)))

by_expr : (place : TextPlace) (what : KindOf) → OfExpr (roll-CExpr (record { place = place; what = what.0 }))
by_expr place what h = rw fold-roll-CExpr (what.1 (rw fold-roll-CExpr at h))

pub expr_goes : (e : CExpr) → OfExpr e
expr_goes =
    ind-CExpr OfArg OfKind OfCall OfExpr OfIndex OfPlace OfStep
    (λ x y is. subst (λ layer. OfArg (roll-CArg layer)) is (by_arg y))
    (λ x y is. subst (λ layer. OfKind (roll-CExprKind layer)) is (by_kind y))
    (λ x y is. subst (λ layer. OfCall (roll-CCall layer)) is (by_call y.name y.args))
    (λ x y is. subst (λ layer. OfExpr (roll-CExpr layer)) is (by_expr y.place y.what))
    (λ x y is. subst (λ layer. OfIndex (roll-CIndex layer)) is (by_index y.signed y.at y.length))
    (λ x y is. subst (λ layer. OfPlace (roll-CPlace layer)) is (by_place y.through y.name y.steps))
    (λ x y is. subst (λ layer. OfStep (roll-CStep layer)) is (by_step y.member y.index))

pub whole_place : (p : CPlace) → OfPlace p
whole_place =
    ind-CPlace OfArg OfKind OfCall OfExpr OfIndex OfPlace OfStep
    (λ x y is. subst (λ layer. OfArg (roll-CArg layer)) is (by_arg y))
    (λ x y is. subst (λ layer. OfKind (roll-CExprKind layer)) is (by_kind y))
    (λ x y is. subst (λ layer. OfCall (roll-CCall layer)) is (by_call y.name y.args))
    (λ x y is. subst (λ layer. OfExpr (roll-CExpr layer)) is (by_expr y.place y.what))
    (λ x y is. subst (λ layer. OfIndex (roll-CIndex layer)) is (by_index y.signed y.at y.length))
    (λ x y is. subst (λ layer. OfPlace (roll-CPlace layer)) is (by_place y.through y.name y.steps))
    (λ x y is. subst (λ layer. OfStep (roll-CStep layer)) is (by_step y.member y.index))

pub whole_call : (c : CCall) → OfCall c
whole_call =
    ind-CCall OfArg OfKind OfCall OfExpr OfIndex OfPlace OfStep
    (λ x y is. subst (λ layer. OfArg (roll-CArg layer)) is (by_arg y))
    (λ x y is. subst (λ layer. OfKind (roll-CExprKind layer)) is (by_kind y))
    (λ x y is. subst (λ layer. OfCall (roll-CCall layer)) is (by_call y.name y.args))
    (λ x y is. subst (λ layer. OfExpr (roll-CExpr layer)) is (by_expr y.place y.what))
    (λ x y is. subst (λ layer. OfIndex (roll-CIndex layer)) is (by_index y.signed y.at y.length))
    (λ x y is. subst (λ layer. OfPlace (roll-CPlace layer)) is (by_place y.through y.name y.steps))
    (λ x y is. subst (λ layer. OfStep (roll-CStep layer)) is (by_step y.member y.index))
