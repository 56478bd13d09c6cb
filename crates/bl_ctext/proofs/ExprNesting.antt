-- An expression that has a spelling closes each bracket that it opens, and opens at once no more than its depth.
use Rattle.std.proofs.Common.{◌≡◌, ℕ, suc, ◌+◌, ◌*◌, ◌^◌, ◌≤◌, ◌<◌, max, cond, ℤ, pos, negsuc, Bool, true, false, ◌&&◌, ◌==◌, nat_lt, nat_le, List}
use Rattle.std.proofs.Common.{[], ◌∷◌, ◌++◌, map, Option, Some, None, refl, subst, arith, codes}
use Rattle.std.proofs.lemmas.Bool.Decides.{nat_tests}
use Rattle.std.specs.Fmt.{decimal}
use Rattle.bl_tree.proofs.Basics.{and_first, and_second}
use Rattle.bl_tree.specs.declared.place.Place.{Place as TextPlace}
use Rattle.bl_tree.specs.declared.scalar.Width.{Width}
use Rattle.bl_tree.specs.declared.scalar.Width.TheVariants.{W8, W16, W32, W64}
use Rattle.bl_tree.specs.declared.scalar.Scalar.{Scalar}
use Rattle.bl_tree.specs.declared.scalar.Scalar.TheVariants as scalar
use Rattle.bl_tree.specs.declared.scalar.Op.{Op}
use Rattle.bl_tree.specs.declared.scalar.Op.TheVariants as op
use Rattle.bl_tree.specs.declared.c.CPlace.{CPlace, fold-roll-CPlace, roll-CPlace, ind-CPlace}
use Rattle.bl_tree.specs.declared.c.CStep.{CStep, CStep-F, fold-roll-CStep, map-CStep, roll-CStep}
use Rattle.bl_tree.specs.declared.c.CIndex.{CIndex, fold-roll-CIndex, roll-CIndex}
use Rattle.bl_tree.specs.declared.c.CExpr.{CExpr, fold-roll-CExpr, roll-CExpr, ind-CExpr}
use Rattle.bl_tree.specs.declared.c.CExprKind.{CExprKind, CExprKind-F, fold-roll-CExprKind, map-CExprKind, roll-CExprKind}
use Rattle.bl_tree.specs.declared.c.CCall.{CCall, fold-roll-CCall, roll-CCall, ind-CCall}
use Rattle.bl_tree.specs.declared.c.CArg.{CArg, CArg-F, fold-roll-CArg, map-CArg, roll-CArg}
use Rattle.bl_tree.specs.Reduce.{all_of, joined, greatest}
use Rattle.bl_ctext.specs.Token.{Token}
use Rattle.bl_ctext.specs.Names.{is_name, is_callee}
use Rattle.bl_ctext.specs.Spelling.{constant_word, constant_tokens, negatives, negative_tokens, literal_tokens, operator_sign, call_tokens}
use Rattle.bl_ctext.specs.Spelling.{with_commas, root_tokens, index_front, width_digits, expr_tokens, kind_tokens, place_tokens, step_tokens}
use Rattle.bl_ctext.specs.Spelling.{index_tokens, ccall_tokens, arg_tokens}
use Rattle.bl_ctext.specs.Spellable.{is_c_operator, is_literal, is_length, spells_expr, spells_kind, spells_place, spells_step, spells_index}
use Rattle.bl_ctext.specs.Spellable.{spells_call, spells_arg}
use Rattle.bl_ctext.specs.inner.Depths.{expr_depth, kind_depth, place_depth, step_depth, index_depth, call_depth, arg_depth}
use Rattle.bl_ctext.proofs.Nesting.{is_bracket, Closes, Nests, EachNests, closes-nil, closes-open, closes-close, closes-plain, closes-append}
use Rattle.bl_ctext.proofs.Nesting.{nests-append, nests-more, nests-joined, nests-with_commas}
use Rattle.bl_ctext.proofs.PlainWords.{name-plain, callee-plain, decimal-plain}

-- every part of a list, where each is shown with it
pub each_shown : {A : Type 0} (depth : A → ℕ) (tokens : A → List Token) (spells : A → Bool)
    (xs : List ((a : A) × (spells a ≡ true → Nests (depth a) (tokens a)))) (d : ℕ) →
    greatest (map depth (map (λ e. e.0) xs)) ≤ d → all_of (map spells (map (λ e. e.0) xs)) ≡ true → EachNests d (map tokens (map (λ e. e.0) xs))
each_shown depth tokens spells [] d le h = tt
each_shown depth tokens spells (x ∷ xs) d le h =
    let here : depth x.0 ≤ d = omega arith in
    let rest : greatest (map depth (map (λ e. e.0) xs)) ≤ d = omega arith in
    (nests-more (depth x.0) d (tokens x.0) here (x.1 (and_first _ _ h)), each_shown depth tokens spells xs d rest (and_second _ _ h))

pub below : (n m : ℕ) → nat_lt n m ≡ true → m ≤ 2 ^ 64 → n < 2 ^ 64
below n m h le = grind (arith, nat_tests)

pub negatives-le : (w : Width) → 2 * negatives w ≤ 2 ^ 64
negatives-le W8 = omega arith
negatives-le W16 = omega arith
negatives-le W32 = omega arith
negatives-le W64 = omega arith

constant-nests : (d : ℕ) (word : Token) (n : ℕ) → 1 ≤ d → is_bracket word ≡ false → n < 2 ^ 64 → Nests d (constant_tokens word n)
constant-nests d word n le plain h =
    closes-plain 0 d word _ plain (omega arith) (closes-open 0 d _ _ refl (omega arith)
    (closes-plain 1 d (decimal n) _ (decimal-plain n h) le (closes-close 0 d _ _ refl refl le (closes-nil d))))

pub int_word-plain : (w : Width) → is_bracket (constant_word (codes "INT") w) ≡ false
int_word-plain W8 = refl
int_word-plain W16 = refl
int_word-plain W32 = refl
int_word-plain W64 = refl

pub nat_word-plain : (w : Width) → is_bracket (constant_word (codes "UINT") w) ≡ false
nat_word-plain W8 = refl
nat_word-plain W16 = refl
nat_word-plain W32 = refl
nat_word-plain W64 = refl

least_word-plain : (w : Width) → is_bracket (codes "INT" ++ (width_digits w ++ codes "_MIN")) ≡ false
least_word-plain W8 = refl
least_word-plain W16 = refl
least_word-plain W32 = refl
least_word-plain W64 = refl

minus-nests : (w : Width) (n : ℕ) → n < 2 ^ 64 → Nests 2
    (codes "(" ∷ codes "-" ∷ (constant_tokens (constant_word (codes "INT") w) n ++ codes ")" ∷ []))
minus-nests w n h =
    closes-open 0 2 _ _ refl (omega arith) (closes-plain 1 2 _ _ refl (omega arith)
    (closes-append 1 2 1 (constant_tokens (constant_word (codes "INT") w) n) _ (constant-nests 1 _ n (omega arith) (int_word-plain w) h) (omega arith)
    (closes-close 0 2 _ _ refl refl (omega arith) (closes-nil 2))))

negative-nests : (w : Width) (n : ℕ) → n < 2 ^ 64 → Nests 2 (negative_tokens w n)
negative-nests w n h =
    elim (n == negatives w) as (λ v. Nests 2
    (cond v ((codes "INT" ++ (width_digits w ++ codes "_MIN")) ∷ [])
    (codes "(" ∷ codes "-" ∷ (constant_tokens (constant_word (codes "INT") w) n ++ codes ")" ∷ [])))) [
      | true ↦ closes-plain 0 2 _ _ (least_word-plain w) (omega arith) (closes-nil 2)
      | false ↦ minus-nests w n h
    ]

truth-plain : (b : Bool) → is_bracket (cond b (codes "false") (codes "true")) ≡ false
truth-plain true = refl
truth-plain false = refl

literal-nests : (s : Scalar) (n : ℤ) → is_literal s n ≡ true → Nests 2 (literal_tokens s n)
literal-nests scalar.Bool (pos n) h = closes-plain 0 2 _ _ (truth-plain (n == 0)) (omega arith) (closes-nil 2)
literal-nests scalar.Bool (negsuc n) h = closes-nil 2
literal-nests (scalar.Int w) (pos n) h = constant-nests 2 _ n (omega arith) (int_word-plain w) (below n (negatives w) h (omega (arith, negatives-le w)))
literal-nests (scalar.Int w) (negsuc n) h =
    let small : n < negatives w = grind (arith, nat_tests) in
    negative-nests w (suc n) (omega (arith, negatives-le w))
literal-nests (scalar.Nat w) (pos n) h = constant-nests 2 _ n (omega arith) (nat_word-plain w) (below n (2 * negatives w) h (negatives-le w))
literal-nests (scalar.Nat w) (negsuc n) h = closes-nil 2
literal-nests (scalar.Bits w) n h = closes-nil 2

sign-plain : (o : Op) → is_bracket (operator_sign o) ≡ false
sign-plain op.Eq = refl
sign-plain op.Ne = refl
sign-plain op.Lt = refl
sign-plain op.Le = refl
sign-plain op.Gt = refl
sign-plain op.Ge = refl
sign-plain op.And = refl
sign-plain op.Or = refl
sign-plain _ = refl

not-nests : (d : ℕ) (ts : List Token) → Nests d ts → Nests (d + 1) (codes "(" ∷ codes "!" ∷ (ts ++ codes ")" ∷ []))
not-nests d ts h =
    closes-open 0 (d + 1) _ _ refl (omega arith) (closes-plain 1 (d + 1) _ _ refl (omega arith)
    (closes-append 1 (d + 1) d ts _ h (omega arith) (closes-close 0 (d + 1) _ _ refl refl (omega arith) (closes-nil (d + 1)))))

two-nests : (a b : ℕ) (xs ys : List Token) (sign : Token) → is_bracket sign ≡ false → Nests a xs → Nests b ys →
    Nests (max a b + 1) (codes "(" ∷ (xs ++ (sign ∷ (ys ++ codes ")" ∷ []))))
two-nests a b xs ys sign plain x y =
    let d : ℕ = max a b + 1 in
    closes-open 0 d _ _ refl (omega arith) (closes-append 1 d a xs _ x (omega arith) (closes-plain 1 d sign _ plain (omega arith)
    (closes-append 1 d b ys _ y (omega arith) (closes-close 0 d _ _ refl refl (omega arith) (closes-nil d)))))

-- parts with commas in parentheses behind a name
pub call-nests : (d : ℕ) (name : List ℕ) (args : List (List Token)) → is_bracket name ≡ false → EachNests d args →
    Nests (d + 1) (call_tokens name args)
call-nests d name args plain each =
    closes-plain 0 (d + 1) name _ plain (omega arith) (closes-open 0 (d + 1) _ _ refl (omega arith)
    (closes-append 1 (d + 1) d (with_commas args) _ (nests-with_commas d args each) (omega arith)
    (closes-close 0 (d + 1) _ _ refl refl (omega arith) (closes-nil (d + 1)))))

root-nests : (d : ℕ) (through : Bool) (name : List ℕ) → 1 ≤ d → is_bracket name ≡ false → Nests d (root_tokens through name)
root-nests d true name le plain =
    closes-open 0 d _ _ refl (omega arith) (closes-plain 1 d _ _ refl le (closes-plain 1 d name _ plain le (closes-close 0 d _ _ refl refl le (closes-nil d))))
root-nests d false name le plain = closes-plain 0 d name _ plain (omega arith) (closes-nil d)

index_behind : (d : ℕ) (ts : List Token) (n : ℕ) → is_length n ≡ true → Nests d ts →
    Closes 2 (d + 2) (ts ++ (codes "," ∷ decimal n ∷ codes ")" ∷ codes "]" ∷ []))
index_behind d ts n h i =
    let most : nat_le n 65536 ≡ true = and_second (nat_le 1 n) (nat_le n 65536) h in
    let small : n ≤ 65536 = grind (arith, nat_tests) in
    closes-append 2 (d + 2) d ts _ i (omega arith) (closes-plain 2 (d + 2) _ _ refl (omega arith)
    (closes-plain 2 (d + 2) (decimal n) _ (decimal-plain n (omega arith)) (omega arith)
    (closes-close 1 (d + 2) _ _ refl refl (omega arith) (closes-close 0 (d + 2) _ _ refl refl (omega arith) (closes-nil (d + 2))))))

index-nests : (d : ℕ) (signed : Bool) (ts : List Token) (n : ℕ) → is_length n ≡ true → Nests d ts →
    Nests (d + 2) (index_front signed ++ (ts ++ (codes "," ∷ decimal n ∷ codes ")" ∷ codes "]" ∷ [])))
index-nests d true ts n h i =
    closes-open 0 (d + 2) _ _ refl (omega arith)
    (closes-plain 1 (d + 2) _ _ refl (omega arith) (closes-open 1 (d + 2) _ _ refl (omega arith) (index_behind d ts n h i)))
index-nests d false ts n h i =
    closes-open 0 (d + 2) _ _ refl (omega arith)
    (closes-plain 1 (d + 2) _ _ refl (omega arith) (closes-open 1 (d + 2) _ _ refl (omega arith) (index_behind d ts n h i)))

abbrev OfArg : CArg → Type 0
OfArg a = spells_arg a ≡ true → Nests (arg_depth a) (arg_tokens a)

abbrev OfKind : CExprKind → Type 0
OfKind k = spells_kind k ≡ true → Nests (kind_depth k) (kind_tokens k)

abbrev OfCall : CCall → Type 0
OfCall c = spells_call c ≡ true → Nests (call_depth c) (ccall_tokens c)

abbrev OfExpr : CExpr → Type 0
OfExpr e = spells_expr e ≡ true → Nests (expr_depth e) (expr_tokens e)

abbrev OfIndex : CIndex → Type 0
OfIndex i = spells_index i ≡ true → Nests (index_depth i) (index_tokens i)

abbrev OfPlace : CPlace → Type 0
OfPlace p = spells_place p ≡ true → Nests (place_depth p) (place_tokens p)

abbrev OfStep : CStep → Type 0
OfStep s = spells_step s ≡ true → Nests (step_depth s) (step_tokens s)

abbrev Arg : Type 0
Arg = (a : CArg) × OfArg a

abbrev Kind : Type 0
Kind = (k : CExprKind) × OfKind k

abbrev Call : Type 0
Call = (c : CCall) × OfCall c

abbrev Expr : Type 0
Expr = (e : CExpr) × OfExpr e

abbrev Index : Type 0
Index = (i : CIndex) × OfIndex i

abbrev Place : Type 0
Place = (p : CPlace) × OfPlace p

abbrev Step : Type 0
Step = (s : CStep) × OfStep s

abbrev plain_arg : CArg-F Arg Kind Call Expr Index Place Step → CArg-F CArg CExprKind CCall CExpr CIndex CPlace CStep
plain_arg = map-CArg Arg Kind Call Expr Index Place Step CArg CExprKind CCall CExpr CIndex CPlace CStep
    (λ e. e.0) (λ e. e.0) (λ e. e.0) (λ e. e.0) (λ e. e.0) (λ e. e.0) (λ e. e.0)

abbrev plain_kind : CExprKind-F Arg Kind Call Expr Index Place Step → CExprKind-F CArg CExprKind CCall CExpr CIndex CPlace CStep
plain_kind = map-CExprKind Arg Kind Call Expr Index Place Step CArg CExprKind CCall CExpr CIndex CPlace CStep
    (λ e. e.0) (λ e. e.0) (λ e. e.0) (λ e. e.0) (λ e. e.0) (λ e. e.0) (λ e. e.0)

abbrev plain_step : CStep-F Arg Kind Call Expr Index Place Step → CStep-F CArg CExprKind CCall CExpr CIndex CPlace CStep
plain_step = map-CStep Arg Kind Call Expr Index Place Step CArg CExprKind CCall CExpr CIndex CPlace CStep
    (λ e. e.0) (λ e. e.0) (λ e. e.0) (λ e. e.0) (λ e. e.0) (λ e. e.0) (λ e. e.0)

by_arg : (y : CArg-F Arg Kind Call Expr Index Place Step) → OfArg (roll-CArg (plain_arg y))
by_arg (CArg-F.Value e) h = rw (fold-roll-CArg, fold-roll-CArg) (e.1 (rw fold-roll-CArg at h))
by_arg (CArg-F.Address p) h = rw (fold-roll-CArg, fold-roll-CArg) (closes-plain 0 (place_depth p.0) _ _ refl (omega arith) (p.1 (rw fold-roll-CArg at h)))

by_kind : (y : CExprKind-F Arg Kind Call Expr Index Place Step) → OfKind (roll-CExprKind (plain_kind y))
by_kind (CExprKind-F.Literal s n) h = rw (fold-roll-CExprKind, fold-roll-CExprKind) (literal-nests s n (rw fold-roll-CExprKind at h))
by_kind (CExprKind-F.Read p) h = rw (fold-roll-CExprKind, fold-roll-CExprKind) (p.1 (rw fold-roll-CExprKind at h))
by_kind (CExprKind-F.Call c) h = rw (fold-roll-CExprKind, fold-roll-CExprKind) (c.1 (rw fold-roll-CExprKind at h))
by_kind (CExprKind-F.Not e) h = rw (fold-roll-CExprKind, fold-roll-CExprKind) (not-nests (expr_depth e.0) (expr_tokens e.0) (e.1 (rw fold-roll-CExprKind at h)))
by_kind (CExprKind-F.Two o a b) h =
    let whole : (is_c_operator o && (spells_expr a.0 && spells_expr b.0)) ≡ true = rw fold-roll-CExprKind at h in
    let parts : (spells_expr a.0 && spells_expr b.0) ≡ true = and_second (is_c_operator o) (spells_expr a.0 && spells_expr b.0) whole in
    let left : spells_expr a.0 ≡ true = and_first (spells_expr a.0) (spells_expr b.0) parts in
    let right : spells_expr b.0 ≡ true = and_second (spells_expr a.0) (spells_expr b.0) parts in
    rw (fold-roll-CExprKind, fold-roll-CExprKind)
    (two-nests (expr_depth a.0) (expr_depth b.0) (expr_tokens a.0) (expr_tokens b.0) (operator_sign o) (sign-plain o) (a.1 left) (b.1 right))

by_call : (name : List ℕ) (args : List Arg) → OfCall (roll-CCall (record { name = name; args = map (λ e. e.0) args }))
by_call name args h =
    let whole : (is_callee name && all_of (map spells_arg (map (λ e. e.0) args))) ≡ true = rw fold-roll-CCall at h in
    rw (fold-roll-CCall, fold-roll-CCall)
    (call-nests (greatest (map arg_depth (map (λ e. e.0) args))) name _ (callee-plain name (and_first _ _ whole))
    (each_shown arg_depth arg_tokens spells_arg args _ (omega arith) (and_second _ _ whole)))

by_index : (signed : Bool) (at : Expr) (n : ℕ) → OfIndex (roll-CIndex (record { signed = signed; at = at.0; length = n }))
by_index signed at n h =
    let whole : (spells_expr at.0 && is_length n) ≡ true = rw fold-roll-CIndex at h in
    rw (fold-roll-CIndex, fold-roll-CIndex) (index-nests (expr_depth at.0) signed (expr_tokens at.0) n (and_second _ _ whole) (at.1 (and_first _ _ whole)))

by_place : (through : Bool) (name : List ℕ) (steps : List Step) →
    OfPlace (roll-CPlace (record { through = through; name = name; steps = map (λ e. e.0) steps }))
by_place through name steps h =
    let whole : (is_name name && all_of (map spells_step (map (λ e. e.0) steps))) ≡ true = rw fold-roll-CPlace at h in
    let d : ℕ = max 1 (greatest (map step_depth (map (λ e. e.0) steps))) in
    rw (fold-roll-CPlace, fold-roll-CPlace)
    (nests-append d (root_tokens through name) (joined (map step_tokens (map (λ e. e.0) steps)))
    (root-nests d through name (omega arith) (name-plain name (and_first _ _ whole)))
    (nests-joined d _ (each_shown step_depth step_tokens spells_step steps d (omega arith) (and_second _ _ whole))))

by_step : (member : List ℕ) (index : Option Index) → OfStep (roll-CStep (plain_step (record { member = member; index = index })))
by_step member None h =
    let whole : (is_name member && true) ≡ true = rw fold-roll-CStep at h in
    rw (fold-roll-CStep, fold-roll-CStep)
    (closes-plain 0 0 _ _ refl (omega arith) (closes-plain 0 0 member _ (name-plain member (and_first _ _ whole)) (omega arith) (closes-nil 0)))
by_step member (Some i) h =
    let whole : (is_name member && spells_index i.0) ≡ true = rw fold-roll-CStep at h in
    let d : ℕ = index_depth i.0 in
    rw (fold-roll-CStep, fold-roll-CStep)
    (closes-plain 0 d _ _ refl (omega arith) (closes-plain 0 d member _ (name-plain member (and_first _ _ whole)) (omega arith) (i.1 (and_second _ _ whole))))

by_expr : (place : TextPlace) (what : Kind) → OfExpr (roll-CExpr (record { place = place; what = what.0 }))
by_expr place what h = rw (fold-roll-CExpr, fold-roll-CExpr) (what.1 (rw fold-roll-CExpr at h))

pub expr-nests : (e : CExpr) → spells_expr e ≡ true → Nests (expr_depth e) (expr_tokens e)
expr-nests =
    ind-CExpr OfArg OfKind OfCall OfExpr OfIndex OfPlace OfStep
    (λ x y is. subst (λ layer. OfArg (roll-CArg layer)) is (by_arg y))
    (λ x y is. subst (λ layer. OfKind (roll-CExprKind layer)) is (by_kind y))
    (λ x y is. subst (λ layer. OfCall (roll-CCall layer)) is (by_call y.name y.args))
    (λ x y is. subst (λ layer. OfExpr (roll-CExpr layer)) is (by_expr y.place y.what))
    (λ x y is. subst (λ layer. OfIndex (roll-CIndex layer)) is (by_index y.signed y.at y.length))
    (λ x y is. subst (λ layer. OfPlace (roll-CPlace layer)) is (by_place y.through y.name y.steps))
    (λ x y is. subst (λ layer. OfStep (roll-CStep layer)) is (by_step y.member y.index))

pub place-nests : (p : CPlace) → spells_place p ≡ true → Nests (place_depth p) (place_tokens p)
place-nests =
    ind-CPlace OfArg OfKind OfCall OfExpr OfIndex OfPlace OfStep
    (λ x y is. subst (λ layer. OfArg (roll-CArg layer)) is (by_arg y))
    (λ x y is. subst (λ layer. OfKind (roll-CExprKind layer)) is (by_kind y))
    (λ x y is. subst (λ layer. OfCall (roll-CCall layer)) is (by_call y.name y.args))
    (λ x y is. subst (λ layer. OfExpr (roll-CExpr layer)) is (by_expr y.place y.what))
    (λ x y is. subst (λ layer. OfIndex (roll-CIndex layer)) is (by_index y.signed y.at y.length))
    (λ x y is. subst (λ layer. OfPlace (roll-CPlace layer)) is (by_place y.through y.name y.steps))
    (λ x y is. subst (λ layer. OfStep (roll-CStep layer)) is (by_step y.member y.index))

pub ccall-nests : (c : CCall) → spells_call c ≡ true → Nests (call_depth c) (ccall_tokens c)
ccall-nests =
    ind-CCall OfArg OfKind OfCall OfExpr OfIndex OfPlace OfStep
    (λ x y is. subst (λ layer. OfArg (roll-CArg layer)) is (by_arg y))
    (λ x y is. subst (λ layer. OfKind (roll-CExprKind layer)) is (by_kind y))
    (λ x y is. subst (λ layer. OfCall (roll-CCall layer)) is (by_call y.name y.args))
    (λ x y is. subst (λ layer. OfExpr (roll-CExpr layer)) is (by_expr y.place y.what))
    (λ x y is. subst (λ layer. OfIndex (roll-CIndex layer)) is (by_index y.signed y.at y.length))
    (λ x y is. subst (λ layer. OfPlace (roll-CPlace layer)) is (by_place y.through y.name y.steps))
    (λ x y is. subst (λ layer. OfStep (roll-CStep layer)) is (by_step y.member y.index))
