-- Which tokens each part of the grammar stands for, by trees that have them, and how a tree is put together.
use Rattle.std.proofs.Common.{◌≡◌, ℕ, zero, suc, ◌*◌, ◌≤◌, ◌<◌, ◌==◌, pos, negsuc, Bool, true, false, ◌&&◌, nat_le, nat_lt, List, [], ◌∷◌, ◌++◌, map, Option}
use Rattle.std.proofs.Common.{Some, refl, sym, ap, ◌∙◌, append_assoc, append-nil, codes, arith}
use Rattle.std.proofs.lemmas.Bool.Decides.{nat_tests}
use Rattle.std.specs.Fmt.{decimal}
use Rattle.std.proofs.lemmas.Bool.{and_from}
use Rattle.bl_tree.proofs.Basics.{and_first, and_second, at_most_test, less_test}
use Rattle.bl_tree.specs.declared.scalar.Width.{Width}
use Rattle.bl_tree.specs.declared.scalar.Width.TheVariants.{W8, W16, W32, W64}
use Rattle.bl_tree.specs.declared.scalar.Scalar.{Scalar}
use Rattle.bl_tree.specs.declared.scalar.Scalar.TheVariants as scalar
use Rattle.bl_tree.specs.declared.scalar.Op.{Op}
use Rattle.bl_tree.specs.declared.c.CType.TheVariants as ctype
use Rattle.bl_tree.specs.declared.c.CStruct.{CStruct}
use Rattle.bl_tree.specs.declared.c.CFunc.{CFunc}
use Rattle.bl_tree.specs.declared.c.CPlace.{CPlace, roll-CPlace, out-CPlace, roll-out-CPlace}
use Rattle.bl_tree.specs.declared.c.CExprKind.{CExprKind-F}
use Rattle.bl_tree.specs.declared.c.CStmtKind.{CStmtKind-F}
use Rattle.bl_tree.specs.Reduce.{all_of, joined}
use Rattle.bl_ctext.specs.Token.{Token}
use Rattle.bl_ctext.specs.Names.{is_name, is_struct_name, is_function_name, is_callee, is_turn_name}
use Rattle.bl_ctext.specs.Spelling.{scalar_word, type_tokens, constant_word, negatives, operator_sign, listed, with_commas, braced, root_tokens, index_front}
use Rattle.bl_ctext.specs.Spelling.{expr_tokens, kind_tokens, place_tokens, step_tokens, index_tokens, ccall_tokens, arg_tokens, turn_declared, turn_counted}
use Rattle.bl_ctext.specs.Spelling.{stmt_tokens, stmt_kind_tokens, length_tokens, member_tokens, struct_tokens, star_if, param_tokens, local_tokens}
use Rattle.bl_ctext.specs.Spelling.{returned_tokens, static_if, func_tokens, tokens_of}
use Rattle.bl_ctext.specs.Spellable.{has_any, is_c_scalar, is_c_operator, is_length, spells_expr, spells_kind, spells_place, spells_step, spells_index}
use Rattle.bl_ctext.specs.Spellable.{spells_call, spells_arg, spells_stmt, spells_stmt_kind, spells_type, spells_length, spells_member, spells_struct}
use Rattle.bl_ctext.specs.Spellable.{spells_param, spells_local, spells_returned, spells_func}
use Rattle.bl_cparse_syntax.specs.declared.grammar.Part.{Part}
use Rattle.bl_cparse_syntax.specs.declared.grammar.Part.TheVariants.{File, Structs, Struct, StructName, Members, Member, TypeName, Length, Funcs, Func}
use Rattle.bl_cparse_syntax.specs.declared.grammar.Part.TheVariants.{PlainFunc, FuncRest, FuncName, Params, ParamRest, Param, Star, Locals, Local, Stmts, Stmt}
use Rattle.bl_cparse_syntax.specs.declared.grammar.Part.TheVariants.{Else, Turns, AfterName, AssignTail, Value, AfterOpen, Result, Expr, Simple, Constant}
use Rattle.bl_cparse_syntax.specs.declared.grammar.Part.TheVariants.{Inside, Negative, NameUse, Steps, Index, Args, ArgRest, Arg, Place}
use Rattle.bl_cparse_syntax.specs.declared.grammar.Group.TheVariants.{PlainLiterals, IndexFunctions}
use Rattle.bl_cparse_syntax.specs.declared.grammar.Digits.TheVariants.{Elements, Int, Negated, Unsigned}
use Rattle.bl_cparse_syntax.specs.Classes.{words_of}
use Rattle.bl_cparse_syntax_laws.specs.Placeless.{any_place}
use Rattle.bl_cparse_syntax_laws.proofs.Rows.{braces}
use Rattle.bl_cparse_syntax_laws.proofs.Layers.{Levels, Places, arg_level, arg_ok, kind_level, kind_ok, call_level, call_ok, expr_level, expr_ok, index_level}
use Rattle.bl_cparse_syntax_laws.proofs.Layers.{index_ok, place_level, place_ok, maybe_index, maybe_ok, step_level, step_ok, arg_levels, kind_levels}
use Rattle.bl_cparse_syntax_laws.proofs.Layers.{call_levels, expr_levels, index_levels, place_levels, step_levels}
use Rattle.bl_cparse_syntax_laws.proofs.OnlyStmt.{else_level, else_ok, stmt_level, stmt_ok, stmt_kind_levels, whole_level, whole_ok, stmt_levels}
use Rattle.bl_cparse_syntax_laws.proofs.Pieces.{OneOf, Spelled}

-- something with a spelling has these tokens
abbrev pub Told : {A : Type 0} → (A → List Token) → (A → Bool) → List Token → Type 0
Told {A} tokens ok ts = (x : A) × ((ts ≡ tokens x) × (ok x ≡ true))

abbrev pub always : {A : Type 0} → A → Bool
always x = true

abbrev pub alone : List ℕ → List Token
alone name = name ∷ []

-- a list of such things
abbrev pub Row : {A : Type 0} → (A → List Token) → (A → Bool) → List Token → Type 0
Row {A} tokens ok = Told (λ (xs : List A). joined (map tokens xs)) (λ xs. all_of (map ok xs))

-- one with commas
abbrev pub Commas : {A : Type 0} → Bool → (A → List Token) → (A → Bool) → List Token → Type 0
Commas {A} first tokens ok = Told (λ (xs : List A). listed first (map tokens xs)) (λ xs. all_of (map ok xs))

abbrev pub ToldFile : List Token → Type 0
ToldFile ts = (structs : List CStruct) × ((funcs : List CFunc)
    × ((ts ≡ tokens_of structs funcs) × (((has_any structs && all_of (map spells_struct structs)) ≡ true)
    × ((has_any funcs && all_of (map spells_func funcs)) ≡ true))))

-- what the tokens of each part are, also with what stands before or behind it
abbrev pub Tree : Part → List Token → Type 0
Tree File ts = ToldFile ts
Tree Structs ts = Row struct_tokens spells_struct ts
Tree Struct ts = Told struct_tokens spells_struct ts
Tree StructName ts = Told alone is_struct_name ts
Tree Members ts = Row member_tokens spells_member ts
Tree Member ts = Told member_tokens spells_member ts
Tree TypeName ts = Told type_tokens spells_type ts
Tree Length ts = Told length_tokens spells_length ts
Tree Funcs ts = Row func_tokens spells_func ts
Tree Func ts = Told func_tokens spells_func ts
Tree PlainFunc ts = (fixed : Bool) → Told func_tokens spells_func (static_if fixed ++ ts)
Tree FuncRest ts = (fixed : Bool) (result : Option Scalar) → spells_returned result ≡ true →
    Told func_tokens spells_func (static_if fixed ++ (returned_tokens result ++ ts))
Tree FuncName ts = Told alone is_function_name ts
Tree Params ts = Commas true param_tokens spells_param ts
Tree ParamRest ts = Commas false param_tokens spells_param ts
Tree Param ts = Told param_tokens spells_param ts
Tree Star ts = Told star_if always ts
Tree Locals ts = Row local_tokens spells_local ts
Tree Local ts = Told local_tokens spells_local ts
Tree Stmts ts = Row stmt_tokens spells_stmt ts
Tree Stmt ts = Told stmt_tokens spells_stmt ts
Tree Else ts = Told else_level else_ok ts
Tree Turns ts = Told stmt_level stmt_ok (codes "{" ∷ codes "uint32_t" ∷ ts)
Tree AfterName ts = (name : List ℕ) → is_name name ≡ true → Told stmt_level stmt_ok (name ∷ ts)
Tree AssignTail ts = (p : CPlace) → spells_place p ≡ true → Told stmt_level stmt_ok (place_tokens p ++ ts)
Tree Value ts = (p : CPlace) → spells_place p ≡ true → Told stmt_level stmt_ok (place_tokens p ++ (codes "=" ∷ (ts ++ codes ";" ∷ [])))
Tree AfterOpen ts = (p : CPlace) → spells_place p ≡ true →
    Told stmt_level stmt_ok (place_tokens p ++ (codes "=" ∷ codes "(" ∷ (ts ++ codes ";" ∷ [])))
Tree Result ts = Told stmt_level stmt_ok (codes "return" ∷ ts)
Tree Expr ts = Told expr_tokens spells_expr ts
Tree Simple ts = Told expr_tokens spells_expr ts
Tree Constant ts = Told kind_level kind_ok ts
Tree Inside ts = Told expr_tokens spells_expr (codes "(" ∷ ts)
Tree Negative ts = Told kind_level kind_ok (codes "(" ∷ codes "-" ∷ (ts ++ codes ")" ∷ []))
Tree NameUse ts = (name : List ℕ) → is_name name ≡ true → Told expr_tokens spells_expr (name ∷ ts)
Tree Steps ts = Row step_tokens spells_step ts
Tree Index ts = Told maybe_index maybe_ok ts
Tree Args ts = Commas true arg_tokens spells_arg ts
Tree ArgRest ts = Commas false arg_tokens spells_arg ts
Tree Arg ts = Told arg_tokens spells_arg ts
Tree Place ts = Told place_tokens spells_place ts

-- ---- lists of tokens

pub moved : {A : Type 0} {tokens : A → List Token} {ok : A → Bool} {ts us : List Token} → ts ≡ us → Told tokens ok us → Told tokens ok ts
moved e (x, (i, h)) = (x, (e ∙ i, h))

pub row_more : {A : Type 0} (tokens : A → List Token) (ok : A → Bool) {a b : List Token} → Told tokens ok a → Row tokens ok b → Row tokens ok (a ++ b)
row_more tokens ok {a} {b} (x, (i, h)) (xs, (j, k)) = (x ∷ xs, (ap (λ a. a ++ b) i ∙ ap (λ b. tokens x ++ b) j, and_from (ok x) (all_of (map ok xs)) h k))

pub comma_more : {A : Type 0} (tokens : A → List Token) (ok : A → Bool) {a b : List Token} → Told tokens ok a →
    Commas false tokens ok b → Commas false tokens ok (codes "," ∷ (a ++ b))
comma_more tokens ok {a} {b} (x, (i, h)) (xs, (j, k)) =
    (x ∷ xs, (ap (λ c. codes "," ∷ c) (ap (λ a. a ++ b) i ∙ ap (λ b. tokens x ++ b) j), and_from (ok x) (all_of (map ok xs)) h k))

pub first_more : {A : Type 0} (tokens : A → List Token) (ok : A → Bool) {a b : List Token} → Told tokens ok a →
    Commas false tokens ok b → Commas true tokens ok (a ++ b)
first_more tokens ok {a} {b} (x, (i, h)) (xs, (j, k)) = (x ∷ xs, (ap (λ a. a ++ b) i ∙ ap (λ b. tokens x ++ b) j, and_from (ok x) (all_of (map ok xs)) h k))

parens : (xs a : List Token) → (xs ++ codes ")" ∷ []) ++ a ≡ xs ++ (codes ")" ∷ a)
parens xs a = append_assoc xs (codes ")" ∷ []) a

-- ---- wholes from their levels

module _ {A L : Type 0} (tokens : A → List Token) (bare : A → A) (ok : A → Bool) (roll : L → A) (level : L → List Token)
    (bare_level : L → A) (ok_level : L → Bool)
    (levels : (z : L) → Levels tokens bare ok roll level bare_level ok_level z) where
  rolled : {ts : List Token} → Told level ok_level ts → Told tokens ok ts
  rolled (z, (e, h)) = (roll z, (e ∙ sym (levels z).tokens_are, (levels z).ok_is ∙ h))

pub arg_from : {ts : List Token} → Told arg_level arg_ok ts → Told arg_tokens spells_arg ts
arg_from h = rolled _ _ _ _ _ _ _ arg_levels h

pub call_from : {ts : List Token} → Told call_level call_ok ts → Told ccall_tokens spells_call ts
call_from h = rolled _ _ _ _ _ _ _ call_levels h

whole_kind : {ts : List Token} → Told kind_level kind_ok ts → Told kind_tokens spells_kind ts
whole_kind h = rolled _ _ _ _ _ _ _ kind_levels h

at_expr : {ts : List Token} → Told kind_tokens spells_kind ts → Told expr_level expr_ok ts
at_expr (k, (e, h)) = (record { place = any_place; what = k }, (e, h))

pub kind_from : {ts : List Token} → Told kind_level kind_ok ts → Told expr_tokens spells_expr ts
kind_from h = rolled _ _ _ _ _ _ _ expr_levels (at_expr (whole_kind h))

pub index_from : {ts : List Token} → Told index_level index_ok ts → Told index_tokens spells_index ts
index_from h = rolled _ _ _ _ _ _ _ index_levels h

pub place_from : {ts : List Token} → Told place_level place_ok ts → Told place_tokens spells_place ts
place_from h = rolled _ _ _ _ _ _ _ place_levels h

pub step_from : {ts : List Token} → Told step_level step_ok ts → Told step_tokens spells_step ts
step_from h = rolled _ _ _ _ _ _ _ step_levels h

whole_stmt : {ts : List Token} → Told stmt_level stmt_ok ts → Told stmt_kind_tokens spells_stmt_kind ts
whole_stmt h = rolled _ _ _ _ _ _ _ stmt_kind_levels h

at_stmt : {ts : List Token} → Told stmt_kind_tokens spells_stmt_kind ts → Told whole_level whole_ok ts
at_stmt (k, (e, h)) = (record { place = any_place; what = k }, (e, h))

pub stmt_from : {ts : List Token} → Told stmt_level stmt_ok ts → Told stmt_tokens spells_stmt ts
stmt_from h = rolled _ _ _ _ _ _ _ stmt_levels (at_stmt (whole_stmt h))

-- ---- places, calls and expressions

pub step_told : (name : List ℕ) → is_name name ≡ true → {a : List Token} → Told maybe_index maybe_ok a →
    Told step_tokens spells_step (codes "." ∷ name ∷ a)
step_told name h (i, (e, k)) = step_from (record { member = name; index = i }, (ap (λ a. codes "." ∷ name ∷ a) e, and_from (is_name name) (maybe_ok i) h k))

pub place_told : (c : Bool) (name : List ℕ) → is_name name ≡ true → {a : List Token} → Row step_tokens spells_step a →
    Told place_tokens spells_place (root_tokens c name ++ a)
place_told c name h (steps, (e, k)) =
    place_from (
      record { through = c; name = name; steps = steps },
      (ap (λ a. root_tokens c name ++ a) e, and_from (is_name name) (all_of (map spells_step steps)) h k),
    )

pub read_expr : {ts : List Token} → Told place_tokens spells_place ts → Told expr_tokens spells_expr ts
read_expr (p, (e, h)) = kind_from (CExprKind-F.Read p, (e, h))

pub called : (name : List ℕ) → is_callee name ≡ true → {a : List Token} → Commas true arg_tokens spells_arg a →
    Told ccall_tokens spells_call (name ∷ codes "(" ∷ (a ++ codes ")" ∷ []))
called name h (xs, (e, k)) =
    call_from (
      record { name = name; args = xs },
      (
        ap (λ a. name ∷ codes "(" ∷ (a ++ codes ")" ∷ [])) e,
        and_from (is_callee name) (all_of (map spells_arg xs)) h k,
      ),
    )

pub call_expr : {ts : List Token} → Told ccall_tokens spells_call ts → Told expr_tokens spells_expr ts
call_expr (c, (e, h)) = kind_from (CExprKind-F.Call c, (e, h))

pub two_told : {a b : List Token} → Told expr_tokens spells_expr a → (t : Token) →
    (o : Op) × ((t ≡ operator_sign o) × (is_c_operator o ≡ true)) → Told expr_tokens spells_expr b
    → Told expr_tokens spells_expr (codes "(" ∷ (a ++ (t ∷ (b ++ codes ")" ∷ []))))
two_told {a} {b} (x, (i, h)) t (o, (f, c)) (y, (j, k)) =
    kind_from (
      CExprKind-F.Two o x y,
      (
        ap (λ a. codes "(" ∷ (a ++ (t ∷ (b ++ codes ")" ∷ [])))) i
            ∙ (ap (λ t. codes "(" ∷ (expr_tokens x ++ (t ∷ (b ++ codes ")" ∷ [])))) f
            ∙ ap (λ b. codes "(" ∷ (expr_tokens x ++ (operator_sign o ∷ (b ++ codes ")" ∷ [])))) j),
        and_from (is_c_operator o) (spells_expr x && spells_expr y) c (and_from (spells_expr x) (spells_expr y) h k),
      ),
    )

-- a constant by its word, with digits in parentheses
abbrev pub constant : Token → Token → List Token
constant word t = word ∷ codes "(" ∷ t ∷ codes ")" ∷ []

pub int_told : (w : Width) (t : Token) → Spelled (Int w) t → Told kind_level kind_ok (constant (constant_word (codes "INT") w) t)
int_told w t s = (CExprKind-F.Literal (scalar.Int w) (pos s.n), (ap (constant (constant_word (codes "INT") w)) s.is, less_test s.n (negatives w) s.high))

pub nat_told : (w : Width) (t : Token) → Spelled (Unsigned w) t → Told kind_level kind_ok (constant (constant_word (codes "UINT") w) t)
nat_told w t s = (CExprKind-F.Literal (scalar.Nat w) (pos s.n), (ap (constant (constant_word (codes "UINT") w)) s.is, less_test s.n (2 * negatives w) s.high))

not_least : (n k : ℕ) → n < k → (n == k) ≡ false
not_least n k h = grind (arith, nat_tests)

lower : (n k : ℕ) → suc n < k → nat_lt n k ≡ true
lower n k h = less_test n k (omega (arith, h))

-- a constant behind `(-`, and the parenthesis behind it
abbrev pub behind_minus : List Token → List Token
behind_minus ts = codes "(" ∷ codes "-" ∷ (ts ++ codes ")" ∷ [])

negated_at : (w : Width) (t : Token) (n : ℕ) → t ≡ decimal n → 1 ≤ n → n < negatives w →
    Told kind_level kind_ok (behind_minus (constant (constant_word (codes "INT") w) t))
negated_at w t zero is low high = absurd (omega (arith, low))
negated_at w t (suc n) is low high = (
  CExprKind-F.Literal (scalar.Int w) (negsuc n),
  (
    ap (λ t. behind_minus (constant (constant_word (codes "INT") w) t)) is
        ∙ rw (not_least (suc n) (negatives w) high) refl,
    lower n (negatives w) high,
  ),
)

pub negated_told : (w : Width) (t : Token) → Spelled (Negated w) t → Told kind_level kind_ok (behind_minus (constant (constant_word (codes "INT") w) t))
negated_told w t s = negated_at w t s.n s.is s.low s.high

pub plain_literal : {t : Token} → OneOf t (words_of PlainLiterals) → Told kind_level kind_ok (t ∷ [])
plain_literal OneOf.this = (CExprKind-F.Literal scalar.Bool (pos 1), (refl, refl))
plain_literal (OneOf.other OneOf.this) = (CExprKind-F.Literal scalar.Bool (pos 0), (refl, refl))
plain_literal (OneOf.other (OneOf.other OneOf.this)) = (CExprKind-F.Literal (scalar.Int W8) (negsuc 127), (refl, refl))
plain_literal (OneOf.other (OneOf.other (OneOf.other OneOf.this))) = (CExprKind-F.Literal (scalar.Int W16) (negsuc 32767), (refl, refl))
plain_literal (OneOf.other (OneOf.other (OneOf.other (OneOf.other OneOf.this)))) = (CExprKind-F.Literal (scalar.Int W32) (negsuc 2147483647), (refl, refl))
plain_literal (OneOf.other (OneOf.other (OneOf.other (OneOf.other (OneOf.other OneOf.this))))) =
    (CExprKind-F.Literal (scalar.Int W64) (negsuc 9223372036854775807), (refl, refl))
plain_literal (OneOf.other (OneOf.other (OneOf.other (OneOf.other (OneOf.other (OneOf.other none)))))) = elim none [ ]

-- the word of an index, and whether it is signed
abbrev pub index_word : Bool → Token
index_word true = codes "bl_ix_s"
index_word false = codes "bl_ix_u"

pub function_is : {t : Token} → OneOf t (words_of IndexFunctions) → (signed : Bool) × (t ≡ index_word signed)
function_is OneOf.this = (true, refl)
function_is (OneOf.other OneOf.this) = (false, refl)
function_is (OneOf.other (OneOf.other none)) = elim none [ ]

fronted : (signed : Bool) (more : List Token) → codes "[" ∷ index_word signed ∷ codes "(" ∷ more ≡ index_front signed ++ more
fronted true more = refl
fronted false more = refl

pub is_a_length : (n : ℕ) → 1 ≤ n → n < 65537 → is_length n ≡ true
is_a_length n low high = and_from (nat_le 1 n) (nat_le n 65536) (at_most_test 1 n low) (at_most_test n 65536 (omega (arith, high)))

some_index : {ts : List Token} → Told index_tokens spells_index ts → Told maybe_index maybe_ok ts
some_index (i, (e, h)) = (Some i, (e, h))

pub index_told : (t : Token) → (signed : Bool) × (t ≡ index_word signed) → {a : List Token} → Told expr_tokens spells_expr a →
    (u : Token) → Spelled Elements u
    → Told maybe_index maybe_ok (codes "[" ∷ t ∷ codes "(" ∷ (a ++ (codes "," ∷ u ∷ codes ")" ∷ codes "]" ∷ [])))
index_told t (signed, f) {a} (x, (i, h)) u s =
    some_index (index_from (
      record { signed = signed; at = x; length = s.n },
      (
        ap (λ t. codes "[" ∷ t ∷ codes "(" ∷ (a ++ (codes "," ∷ u ∷ codes ")" ∷ codes "]" ∷ []))) f
            ∙ (ap (λ a. codes "[" ∷ index_word signed ∷ codes "(" ∷ (a ++ (codes "," ∷ u ∷ codes ")" ∷ codes "]" ∷ []))) i
            ∙ (ap (λ u. codes "[" ∷ index_word signed ∷ codes "(" ∷ (expr_tokens x ++ (codes "," ∷ u ∷ codes ")" ∷ codes "]" ∷ []))) s.is
            ∙ fronted signed (expr_tokens x ++ (codes "," ∷ decimal s.n ∷ codes ")" ∷ codes "]" ∷ [])))),
        and_from (spells_expr x) (is_length s.n) h (is_a_length s.n s.low s.high),
      ),
    ))

-- ---- statements

pub call_stmt : (name : List ℕ) → is_callee name ≡ true → {a : List Token} → Commas true arg_tokens spells_arg a →
    Told stmt_level stmt_ok (name ∷ codes "(" ∷ (a ++ (codes ")" ∷ codes ";" ∷ [])))
call_stmt name h {a} args = by_call (called name h args)
  where
    by_call : Told ccall_tokens spells_call (name ∷ codes "(" ∷ (a ++ codes ")" ∷ [])) →
        Told stmt_level stmt_ok (name ∷ codes "(" ∷ (a ++ (codes ")" ∷ codes ";" ∷ [])))
    by_call (c, (e, k)) =
        (CStmtKind-F.Call c, (ap (λ us. name ∷ codes "(" ∷ us) (sym (parens a (codes ";" ∷ []))) ∙ ap (λ us. us ++ codes ";" ∷ []) e, k))

pub rooted : (c : Bool) (name : List ℕ) → is_name name ≡ true → (b : List Token) →
    ((p : CPlace) → spells_place p ≡ true → Told stmt_level stmt_ok (place_tokens p ++ b)) → Told stmt_level stmt_ok (root_tokens c name ++ b)
rooted c name h b k = by_place (place_told c name h ([], (refl, refl)))
  where
    by_place : Told place_tokens spells_place (root_tokens c name ++ []) → Told stmt_level stmt_ok (root_tokens c name ++ b)
    by_place (p, (e, s)) = moved (ap (λ a. a ++ b) (sym (append-nil (root_tokens c name)) ∙ e)) (k p s)

pub joined_more : {A : Type 0} (f : A → List Token) (xs : List A) (x : A) → joined (map f (xs ++ x ∷ [])) ≡ joined (map f xs) ++ f x
joined_more f [] x = append-nil (f x)
joined_more f (y ∷ xs) x = ap (λ ts. f y ++ ts) (joined_more f xs x) ∙ sym (append_assoc (f y) (joined (map f xs)) (f x))

pub all_more : {A : Type 0} (p : A → Bool) (xs : List A) (x : A) → all_of (map p xs) ≡ true → p x ≡ true → all_of (map p (xs ++ x ∷ [])) ≡ true
all_more p [] x h k = and_from (p x) true k refl
all_more p (y ∷ xs) x h k = and_from (p y) (all_of (map p (xs ++ x ∷ []))) (and_first (p y) (all_of (map p xs)) h)
    (all_more p xs x (and_second (p y) (all_of (map p xs)) h) k)

-- the place with one step more
longer : (z : Places) → place_ok z ≡ true → {a : List Token} → Told step_tokens spells_step a → Told place_tokens spells_place (place_level z ++ a)
longer z h {a} (s, (e, k)) =
    place_from (
      record { through = z.through; name = z.name; steps = z.steps ++ s ∷ [] },
      (
        append_assoc (root_tokens z.through z.name) (joined (map step_tokens z.steps)) a
            ∙ ap (λ us. root_tokens z.through z.name ++ us) (ap (λ a. joined (map step_tokens z.steps) ++ a) e ∙ sym (joined_more step_tokens z.steps s)),
        and_from (is_name z.name) (all_of (map spells_step (z.steps ++ s ∷ []))) (and_first _ _ h) (all_more spells_step z.steps s (and_second _ _ h) k),
      ),
    )

longer_place : (p : CPlace) → spells_place p ≡ true → {a : List Token} → Told step_tokens spells_step a →
    Told place_tokens spells_place (place_tokens p ++ a)
longer_place p h {a} step = by_out (out-CPlace p) (roll-out-CPlace p)
  where
    by_out : (z : Places) → roll-CPlace z ≡ p → Told place_tokens spells_place (place_tokens p ++ a)
    by_out z back =
        moved (ap (λ us. us ++ a) (ap place_tokens (sym back) ∙ (place_levels z).tokens_are))
        (longer z (sym (place_levels z).ok_is ∙ (ap spells_place back ∙ h)) step)

pub stepped : (p : CPlace) → spells_place p ≡ true → {a : List Token} (b : List Token) → Told step_tokens spells_step a →
    ((p : CPlace) → spells_place p ≡ true → Told stmt_level stmt_ok (place_tokens p ++ b))
    → Told stmt_level stmt_ok (place_tokens p ++ (a ++ b))
stepped p h {a} b step k = by_place (longer_place p h step)
  where
    by_place : Told place_tokens spells_place (place_tokens p ++ a) → Told stmt_level stmt_ok (place_tokens p ++ (a ++ b))
    by_place (q, (e, s)) = moved (sym (append_assoc (place_tokens p) a b) ∙ ap (λ us. us ++ b) e) (k q s)

pub set_told : (p : CPlace) → spells_place p ≡ true → {a : List Token} → Told expr_tokens spells_expr a →
    Told stmt_level stmt_ok (place_tokens p ++ (codes "=" ∷ (a ++ codes ";" ∷ [])))
set_told p h (x, (e, k)) = (
  CStmtKind-F.Set p x,
  (
    ap (λ a. place_tokens p ++ (codes "=" ∷ (a ++ codes ";" ∷ []))) e,
    and_from (spells_place p) (spells_expr x) h k,
  ),
)

pub clear_told : (p : CPlace) → spells_place p ≡ true → {a : List Token} → Told alone is_struct_name a
    → Told stmt_level stmt_ok (place_tokens p ++ (codes "=" ∷ codes "(" ∷ codes "struct"
    ∷ ((a ++ (codes ")" ∷ codes "{" ∷ codes "0" ∷ codes "}" ∷ [])) ++ codes ";" ∷ [])))
clear_told p h (name, (i, k)) = (
  CStmtKind-F.Clear p name,
  (
    ap (λ a. place_tokens p ++ (codes "=" ∷ codes "(" ∷ codes "struct"
        ∷ ((a ++ (codes ")" ∷ codes "{" ∷ codes "0" ∷ codes "}" ∷ [])) ++ codes ";" ∷ []))) i,
    and_from (spells_place p) (is_struct_name name) h k,
  ),
)

pub if_told : {a b c : List Token} → Told expr_tokens spells_expr a → Row stmt_tokens spells_stmt b → Told else_level else_ok c
    → Told stmt_level stmt_ok (codes "if" ∷ codes "(" ∷ (a ++ (codes ")" ∷ codes "{" ∷ (b ++ (codes "}" ∷ c)))))
if_told {a} {b} {c} (x, (i, h)) (xs, (j, k)) (o, (f, s)) =
    let inner : b ++ (codes "}" ∷ c) ≡ (joined (map stmt_tokens xs) ++ codes "}" ∷ []) ++ else_level o =
    ap (λ b. b ++ (codes "}" ∷ c)) j ∙ (ap (λ c. joined (map stmt_tokens xs) ++ (codes "}" ∷ c)) f
    ∙ sym (braces (joined (map stmt_tokens xs)) (else_level o))) in (
      CStmtKind-F.If x xs o,
      (
        ap (λ a. codes "if" ∷ codes "(" ∷ (a ++ (codes ")" ∷ codes "{" ∷ (b ++ (codes "}" ∷ c))))) i
            ∙ (ap (λ us. codes "if" ∷ codes "(" ∷ (expr_tokens x ++ (codes ")" ∷ codes "{" ∷ us))) inner
            ∙ ap (λ us. codes "if" ∷ codes "(" ∷ us) (sym (parens (expr_tokens x) (braced (map stmt_tokens xs) ++ else_level o)))),
        and_from (spells_expr x) (all_of (map spells_stmt xs) && else_ok o) h (and_from (all_of (map spells_stmt xs)) (else_ok o) k s),
      ),
    )

pub loop_told : (own : Token) → is_turn_name own ≡ true → {a b : List Token} → Told expr_tokens spells_expr a → Row stmt_tokens spells_stmt b
    → Told stmt_level stmt_ok (turn_declared own ++ (codes "(" ∷ (a ++ (codes ")" ∷ (turn_counted own ++ (b ++ (codes "}" ∷ codes "}" ∷ [])))))))
loop_told own turned {a} {b} (x, (i, h)) (xs, (j, k)) = (
  CStmtKind-F.Loop own x xs,
  (
    ap (λ a. turn_declared own ++ (codes "(" ∷ (a ++ (codes ")" ∷ (turn_counted own ++ (b ++ (codes "}" ∷ codes "}" ∷ []))))))) i
        ∙ (ap (λ b. turn_declared own ++ (codes "(" ∷ (expr_tokens x ++ (codes ")" ∷ (turn_counted own ++ (b ++ (codes "}" ∷ codes "}" ∷ []))))))) j
        ∙ ap (λ us. turn_declared own ++ (codes "(" ∷ us))
        (sym (parens (expr_tokens x) (turn_counted own ++ (joined (map stmt_tokens xs) ++ (codes "}" ∷ codes "}" ∷ [])))))),
    and_from (is_turn_name own) (spells_expr x && all_of (map spells_stmt xs)) turned (and_from (spells_expr x) (all_of (map spells_stmt xs)) h k),
  ),
)

-- ---- structs and functions

pub scalar_type : (t : Token) → (s : Scalar) × ((t ≡ scalar_word s) × (is_c_scalar s ≡ true)) → Told type_tokens spells_type (t ∷ [])
scalar_type t (s, (f, c)) = (ctype.Scalar s, (ap (λ t. t ∷ []) f, c))

pub length_told : (t : Token) → Spelled Elements t → Told length_tokens spells_length (codes "[" ∷ t ∷ codes "]" ∷ [])
length_told t s = (Some s.n, (ap (λ t. codes "[" ∷ t ∷ codes "]" ∷ []) s.is, is_a_length s.n s.low s.high))

pub member_told : {a c : List Token} → Told type_tokens spells_type a → (name : List ℕ) → is_name name ≡ true →
    Told length_tokens spells_length c → Told member_tokens spells_member (a ++ (name ∷ (c ++ codes ";" ∷ [])))
member_told {a} {c} (ty, (i, h)) name named (l, (j, k)) = (
  record { ty = ty; name = name; length = l },
  (
    ap (λ a. a ++ (name ∷ (c ++ codes ";" ∷ []))) i ∙ ap (λ c. type_tokens ty ++ (name ∷ (c ++ codes ";" ∷ []))) j,
    and_from (spells_type ty) (is_name name && spells_length l) h (and_from (is_name name) (spells_length l) named k),
  ),
)

pub structure_told : {n a b : List Token} → Told alone is_struct_name n → Told member_tokens spells_member a → Row member_tokens spells_member b
    → Told struct_tokens spells_struct (codes "struct" ∷ (n ++ (codes "{" ∷ (a ++ (b ++ (codes "}" ∷ codes ";" ∷ []))))))
structure_told {n} {a} {b} (name, (f, g)) (x, (i, h)) (xs, (j, k)) =
    let ms = joined (map member_tokens xs) in (
      record { place = any_place; name = name; members = x ∷ xs },
      (
        ap (λ n. codes "struct" ∷ (n ++ (codes "{" ∷ (a ++ (b ++ (codes "}" ∷ codes ";" ∷ [])))))) f
            ∙ ap (λ us. codes "struct" ∷ name ∷ codes "{" ∷ us)
            (ap (λ a. a ++ (b ++ (codes "}" ∷ codes ";" ∷ []))) i
            ∙ (ap (λ b. member_tokens x ++ (b ++ (codes "}" ∷ codes ";" ∷ []))) j
            ∙ (sym (append_assoc (member_tokens x) ms (codes "}" ∷ codes ";" ∷ [])) ∙ sym (braces (member_tokens x ++ ms) (codes ";" ∷ []))))),
        and_from (is_struct_name name) (spells_member x && all_of (map spells_member xs)) g (and_from (spells_member x) (all_of (map spells_member xs)) h k),
      ),
    )

pub param_told : {a b : List Token} → Told type_tokens spells_type a → Told star_if always b → (name : List ℕ) →
    is_name name ≡ true → Told param_tokens spells_param (a ++ (b ++ name ∷ []))
param_told {a} {b} (ty, (i, h)) (star, (j, k)) name named = (
  record { ty = ty; pointer = star; name = name },
  (
    ap (λ a. a ++ (b ++ name ∷ [])) i
        ∙ ap (λ b. type_tokens ty ++ (b ++ name ∷ [])) j,
    and_from (spells_type ty) (is_name name) h named,
  ),
)

pub scalar_local : (t : Token) → (s : Scalar) × ((t ≡ scalar_word s) × (is_c_scalar s ≡ true)) → (name : List ℕ) → is_name name ≡ true
    → Told local_tokens spells_local (t ∷ name ∷ codes "=" ∷ codes "0" ∷ codes ";" ∷ [])
scalar_local t (s, (f, c)) name named = (
  record { ty = ctype.Scalar s; name = name },
  (
    ap (λ t. t ∷ name ∷ codes "=" ∷ codes "0" ∷ codes ";" ∷ []) f,
    and_from (is_c_scalar s) (is_name name) c named,
  ),
)

pub struct_local : {a : List Token} → Told alone is_struct_name a → (name : List ℕ) → is_name name ≡ true
    → Told local_tokens spells_local (codes "struct" ∷ (a ++ (name ∷ codes "=" ∷ codes "{" ∷ codes "0" ∷ codes "}" ∷ codes ";" ∷ [])))
struct_local (of, (i, h)) name named = (
  record { ty = ctype.Struct of; name = name },
  (
    ap
        (λ a. codes "struct" ∷ (a ++ (name ∷ codes "=" ∷ codes "{" ∷ codes "0" ∷ codes "}" ∷ codes ";" ∷ []))) i,
    and_from (is_struct_name of) (is_name name) h named,
  ),
)

pub scalar_func : (t : Token) → (s : Scalar) × ((t ≡ scalar_word s) × (is_c_scalar s ≡ true)) → {b : List Token} → Tree FuncRest b →
    (fixed : Bool) → Told func_tokens spells_func (static_if fixed ++ (t ∷ b))
scalar_func t (s, (f, c)) {b} k fixed = moved (ap (λ t. static_if fixed ++ (t ∷ b)) f) (k fixed (Some s) c)

pub function_told : (fixed : Bool) (result : Option Scalar) → spells_returned result ≡ true → {n a b c : List Token} → Told alone is_function_name n
    → Commas true param_tokens spells_param a → Row local_tokens spells_local b → Row stmt_tokens spells_stmt c
    → Told func_tokens spells_func (static_if fixed ++
    (returned_tokens result ++ (n ++ (codes "(" ∷ (a ++ (codes ")" ∷ codes "{" ∷ (b ++ (c ++ codes "}" ∷ []))))))))
function_told fixed result returned {n} {a} {b} {c} (name, (g, h)) (ps, (i, p)) (ls, (j, l)) (ss, (k, s)) =
    let ret = returned_tokens result in
    let rest = with_commas (map param_tokens ps) ++ (codes ")" ∷ codes "{"
    ∷ (joined (map local_tokens ls) ++ (joined (map stmt_tokens ss) ++ codes "}" ∷ []))) in
    let inner : n ++ (codes "(" ∷ (a ++ (codes ")" ∷ codes "{" ∷ (b ++ (c ++ codes "}" ∷ []))))) ≡ name ∷ codes "(" ∷ rest =
    ap (λ n. n ++ (codes "(" ∷ (a ++ (codes ")" ∷ codes "{" ∷ (b ++ (c ++ codes "}" ∷ [])))))) g
    ∙ (ap (λ a. name ∷ codes "(" ∷ (a ++ (codes ")" ∷ codes "{" ∷ (b ++ (c ++ codes "}" ∷ []))))) i
    ∙ (ap (λ b. name ∷ codes "(" ∷ (with_commas (map param_tokens ps) ++ (codes ")" ∷ codes "{" ∷ (b ++ (c ++ codes "}" ∷ []))))) j
    ∙ ap (λ c. name ∷ codes "(" ∷ (with_commas (map param_tokens ps)
    ++ (codes ")" ∷ codes "{" ∷ (joined (map local_tokens ls) ++ (c ++ codes "}" ∷ []))))) k)) in (
      record { place = any_place; fixed = fixed; result = result; name = name; params = ps; locals = ls; body = ss },
      (
        ap (λ ts. static_if fixed ++ (ret ++ ts)) inner
            ∙ (ap (λ us. static_if fixed ++ us) (sym (append_assoc ret (name ∷ codes "(" ∷ []) rest))
            ∙ sym (append_assoc (static_if fixed) (ret ++ (name ∷ codes "(" ∷ [])) rest)),
        and_from (spells_returned result) _ returned (and_from (is_function_name name) _ h
            (and_from (all_of (map spells_param ps)) _ p (and_from (all_of (map spells_local ls)) (all_of (map spells_stmt ss)) l s))),
      ),
    )

pub file_told : {a b c d : List Token} → Told struct_tokens spells_struct a → Row struct_tokens spells_struct b →
    Told func_tokens spells_func c → Row func_tokens spells_func d → ToldFile (a ++ (b ++ (c ++ d)))
file_told {a} {b} {c} {d} (x, (i, h)) (xs, (j, k)) (y, (u, v)) (ys, (w, z)) = (
  x ∷ xs,
  (
    y ∷ ys,
    (
      ap (λ a. a ++ (b ++ (c ++ d))) i
          ∙ (ap (λ b. struct_tokens x ++ (b ++ (c ++ d))) j
          ∙ (ap (λ c. struct_tokens x ++ (joined (map struct_tokens xs) ++ (c ++ d))) u
          ∙ (ap (λ d. struct_tokens x ++ (joined (map struct_tokens xs) ++ (func_tokens y ++ d))) w
          ∙ sym (append_assoc (struct_tokens x) (joined (map struct_tokens xs)) (func_tokens y ++ joined (map func_tokens ys)))))),
      (and_from (spells_struct x) (all_of (map spells_struct xs)) h k, and_from (spells_func y) (all_of (map spells_func ys)) v z),
    ),
  ),
)
