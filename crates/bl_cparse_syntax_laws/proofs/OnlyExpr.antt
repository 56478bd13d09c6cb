-- An expression, a place and a call are told by their tokens.
use Rattle.std.proofs.Common.{◌≡◌, ℕ, ◌<◌, ◌^◌, ℤ, pos, negsuc, suc, ◌==◌, cond, Bool, true, false, not, ◌&&◌, nat_le, List, [], ◌∷◌, ◌++◌, map, Option, Some}
use Rattle.std.proofs.Common.{None, refl, sym, ap, ◌∙◌, subst, append_assoc, codes, arith}
use Rattle.std.proofs.lemmas.Bool.Decides.{nat_tests}
use Rattle.std.proofs.lemmas.Fmt.{decimal_injective}
use Rattle.std.specs.Fmt.{decimal}
use Rattle.std.proofs.lemmas.Bool.{not-true}
use Rattle.bl_tree.proofs.Basics.{and_first, and_second, from_true_false}
use Rattle.bl_tree.specs.declared.place.Place.{Place as TextPlace}
use Rattle.bl_tree.specs.declared.scalar.Width.{Width}
use Rattle.bl_tree.specs.declared.scalar.Width.TheVariants.{W8, W16, W32, W64}
use Rattle.bl_tree.specs.declared.scalar.Scalar.{Scalar}
use Rattle.bl_tree.specs.declared.scalar.Scalar.TheVariants as scalar
use Rattle.bl_tree.specs.declared.scalar.Op.{Op}
use Rattle.bl_tree.specs.declared.c.CPlace.{CPlace, roll-CPlace, out-CPlace, roll-out-CPlace, ind-CPlace}
use Rattle.bl_tree.specs.declared.c.CStep.{CStep, CStep-F, map-CStep, roll-CStep, out-CStep, roll-out-CStep}
use Rattle.bl_tree.specs.declared.c.CIndex.{CIndex, roll-CIndex, out-CIndex, roll-out-CIndex}
use Rattle.bl_tree.specs.declared.c.CExpr.{CExpr, roll-CExpr, out-CExpr, roll-out-CExpr, ind-CExpr}
use Rattle.bl_tree.specs.declared.c.CExprKind.{CExprKind, CExprKind-F, map-CExprKind, roll-CExprKind, out-CExprKind, roll-out-CExprKind}
use Rattle.bl_tree.specs.declared.c.CCall.{CCall, roll-CCall, out-CCall, roll-out-CCall, ind-CCall}
use Rattle.bl_tree.specs.declared.c.CArg.{CArg, CArg-F, map-CArg, roll-CArg, out-CArg, roll-out-CArg}
use Rattle.bl_tree.specs.Reduce.{all_of, joined}
use Rattle.bl_ctext.specs.Token.{Token}
use Rattle.bl_ctext.specs.Names.{is_name, is_callee}
use Rattle.bl_ctext.specs.Spelling.{literal_tokens, negatives, operator_sign, width_digits, with_commas, root_tokens, index_front, expr_tokens, kind_tokens}
use Rattle.bl_ctext.specs.Spelling.{place_tokens, step_tokens, index_tokens, ccall_tokens, arg_tokens}
use Rattle.bl_ctext.specs.Spellable.{is_c_operator, is_literal, is_length, spells_expr, spells_kind, spells_place, spells_step, spells_index, spells_call}
use Rattle.bl_ctext.specs.Spellable.{spells_arg}
use Rattle.bl_ctext.proofs.PrefixedNames.{name-callee}
use Rattle.bl_cparse_syntax_laws.specs.Placeless.{any_place, placeless_expr, placeless_place, placeless_call}
use Rattle.bl_cparse_syntax_laws.specs.inner.Placeless.{placeless_kind, placeless_step, placeless_index, placeless_arg}
use Rattle.bl_cparse_syntax_laws.proofs.Tests.{is, among, are_reserved, first, tail, second, lacks, callee_off, name_off}
use Rattle.bl_cparse_syntax_laws.proofs.Rows.{Only, InRow, InCommas, stands, each_shown, rows_same, commas_same}
use Rattle.bl_cparse_syntax_laws.proofs.Words.{operator_same, operator_off, literal_same}
use Rattle.bl_cparse_syntax_laws.proofs.Layers.{by_level, Args, Kinds, Calls, Exprs, Indices, Places, Steps, OnlyLevel, only_whole, arg_level, arg_ok, arg_bare}
use Rattle.bl_cparse_syntax_laws.proofs.Layers.{kind_level, kind_ok, kind_bare, call_level, call_ok, call_bare, expr_level, expr_ok, expr_bare, index_level}
use Rattle.bl_cparse_syntax_laws.proofs.Layers.{index_ok, index_bare, place_level, place_ok, place_bare, step_level, step_ok, step_bare, arg_levels}
use Rattle.bl_cparse_syntax_laws.proofs.Layers.{kind_levels, call_levels, expr_levels, index_levels, place_levels, step_levels}

-- ---- what stands first

-- what goes on a place or a call
abbrev pub going : List Token
going = codes "." ∷ codes "(" ∷ codes "[" ∷ []

-- nothing goes on what stands before
abbrev pub ends : List Token → Bool
ends ts = not (among (first ts) going)

-- no index follows
abbrev pub unindexed : List Token → Bool
unindexed ts = not (is (first ts) (codes "["))

abbrev pub anywhere : List Token → Bool
anywhere ts = true

-- what no expression begins with
abbrev pub foreign : List Token
foreign = codes "-" ∷ codes "*" ∷ codes "!" ∷ codes "&" ∷ codes ")" ∷ codes "struct" ∷ codes ";" ∷ []

-- one of these doesn't stand first
abbrev pub Lacks : List Token → List Token → Type 0
Lacks words ts = among (first ts) words ≡ false

pub ends_off : (a : List Token) → ends a ≡ true → among (first a) going ≡ false
ends_off a h = not-true (among (first a) going) h

ends_dot : (a : List Token) → ends a ≡ true → is (first a) (codes ".") ≡ false
ends_dot a h = lacks (first a) going (codes ".") (ends_off a h) refl

ends_open : (a : List Token) → ends a ≡ true → is (first a) (codes "(") ≡ false
ends_open a h = lacks (first a) going (codes "(") (ends_off a h) refl

pub ends_index : (a : List Token) → ends a ≡ true → unindexed a ≡ true
ends_index a h = ap not (lacks (first a) going (codes "[") (ends_off a h) refl)

abbrev pub of_places : (P : List Token → Type 0) → ((z : Places) → place_ok z ≡ true → P (place_level z)) → (p : CPlace) →
    spells_place p ≡ true → P (place_tokens p)
of_places = by_level place_tokens placeless_place spells_place ends roll-CPlace place_level place_bare place_ok place_levels out-CPlace roll-out-CPlace

abbrev pub of_calls : (P : List Token → Type 0) → ((z : Calls) → call_ok z ≡ true → P (call_level z)) → (c : CCall) →
    spells_call c ≡ true → P (ccall_tokens c)
of_calls = by_level ccall_tokens placeless_call spells_call ends roll-CCall call_level call_bare call_ok call_levels out-CCall roll-out-CCall

abbrev pub of_kinds : (P : List Token → Type 0) → ((z : Kinds) → kind_ok z ≡ true → P (kind_level z)) → (k : CExprKind) →
    spells_kind k ≡ true → P (kind_tokens k)
of_kinds = by_level kind_tokens placeless_kind spells_kind ends roll-CExprKind kind_level kind_bare kind_ok kind_levels out-CExprKind roll-out-CExprKind

abbrev pub of_exprs : (P : List Token → Type 0) → ((z : Exprs) → expr_ok z ≡ true → P (expr_level z)) → (e : CExpr) →
    spells_expr e ≡ true → P (expr_tokens e)
of_exprs = by_level expr_tokens placeless_expr spells_expr ends roll-CExpr expr_level expr_bare expr_ok expr_levels out-CExpr roll-out-CExpr

abbrev pub of_steps : (P : List Token → Type 0) → ((z : Steps) → step_ok z ≡ true → P (step_level z)) → (s : CStep) →
    spells_step s ≡ true → P (step_tokens s)
of_steps = by_level step_tokens placeless_step spells_step ends roll-CStep step_level step_bare step_ok step_levels out-CStep roll-out-CStep

abbrev pub of_indices : (P : List Token → Type 0) → ((z : Indices) → index_ok z ≡ true → P (index_level z)) → (i : CIndex) →
    spells_index i ≡ true → P (index_tokens i)
of_indices = by_level index_tokens placeless_index spells_index ends roll-CIndex index_level index_bare index_ok index_levels out-CIndex roll-out-CIndex

-- these stand in front of whatever follows
abbrev pub Front : List Token → List Token → Type 0
Front words ts = (r : List Token) → Lacks words (ts ++ r)

root_front : (ws : List Token) → are_reserved ws ≡ true → among (codes "(") ws ≡ false →
    (through : Bool) (name : List ℕ) (more : List Token) → is_name name ≡ true → Front ws (root_tokens through name ++ more)
root_front ws within bracket true name more h r = bracket
root_front ws within bracket false name more h r = name_off name ws h within

pub place_front : (ws : List Token) → are_reserved ws ≡ true → among (codes "(") ws ≡ false → (p : CPlace) → spells_place p ≡ true →
    Front ws (place_tokens p)
place_front ws within bracket = of_places (Front ws) (λ z h. root_front ws within bracket z.through z.name (joined (map step_tokens z.steps)) (and_first _ _ h))

pub call_front : (ws : List Token) → are_reserved ws ≡ true → (c : CCall) → spells_call c ≡ true → Front ws (ccall_tokens c)
call_front ws within = of_calls (Front ws) (λ z h r. callee_off z.name ws (and_first _ _ h) within)

truth_front : (b : Bool) (r : List Token) → Lacks foreign (cond b (codes "false") (codes "true") ∷ r)
truth_front true r = refl
truth_front false r = refl

int_front : (w : Width) (n : ℕ) → Front foreign (literal_tokens (scalar.Int w) (pos n))
int_front W8 n r = refl
int_front W16 n r = refl
int_front W32 n r = refl
int_front W64 n r = refl

nat_front : (w : Width) (n : ℕ) → Front foreign (literal_tokens (scalar.Nat w) (pos n))
nat_front W8 n r = refl
nat_front W16 n r = refl
nat_front W32 n r = refl
nat_front W64 n r = refl

least_front : (w : Width) (least : Bool) (more : List Token) →
    Front foreign (cond least ((codes "INT" ++ (width_digits w ++ codes "_MIN")) ∷ []) (codes "(" ∷ more))
least_front W8 true more r = refl
least_front W16 true more r = refl
least_front W32 true more r = refl
least_front W64 true more r = refl
least_front w false more r = refl

literal_front : (s : Scalar) (n : ℤ) → is_literal s n ≡ true → Front foreign (literal_tokens s n)
literal_front scalar.Bool (pos n) h r = truth_front (n == 0) r
literal_front scalar.Bool (negsuc n) h r = cc
literal_front (scalar.Int w) (pos n) h r = int_front w n r
literal_front (scalar.Int w) (negsuc n) h r = least_front w (suc n == negatives w) _ r
literal_front (scalar.Nat w) (pos n) h r = nat_front w n r
literal_front (scalar.Nat w) (negsuc n) h r = cc
literal_front (scalar.Bits w) n h r = cc

level_front : (z : Kinds) → kind_ok z ≡ true → Front foreign (kind_level z)
level_front (CExprKind-F.Literal s n) h r = literal_front s n h r
level_front (CExprKind-F.Read p) h r = place_front foreign refl refl p h r
level_front (CExprKind-F.Call c) h r = call_front foreign refl c h r
level_front (CExprKind-F.Not e) h r = refl
level_front (CExprKind-F.Two o a b) h r = refl

kind_front : (k : CExprKind) → spells_kind k ≡ true → Front foreign (kind_tokens k)
kind_front = of_kinds (Front foreign) level_front

pub expr_front : (e : CExpr) → spells_expr e ≡ true → Front foreign (expr_tokens e)
expr_front = of_exprs (Front foreign) (λ z h. kind_front z.what h)

-- ---- kinds by the first two tokens

data Sort : Type 0 where
  literal : Sort
  read : Sort
  call : Sort
  negation : Sort
  two : Sort

abbrev literal_words : List Token
literal_words =
    codes "true" ∷ codes "false" ∷ codes "INT8_C" ∷ codes "INT16_C" ∷ codes "INT32_C" ∷ codes "INT64_C" ∷ codes "UINT8_C"
    ∷ codes "UINT16_C" ∷ codes "UINT32_C" ∷ codes "UINT64_C" ∷
    codes "INT8_MIN" ∷ codes "INT16_MIN" ∷ codes "INT32_MIN" ∷ codes "INT64_MIN" ∷ []

abbrev inner_sort : Token → Sort
inner_sort t = cond (is t (codes "-")) literal (cond (is t (codes "*")) read (cond (is t (codes "!")) negation two))

abbrev sort_in : List Token → Sort
sort_in ts = cond (is (first ts) (codes "(")) (inner_sort (second ts))
    (cond (among (first ts) literal_words) literal (cond (is (second ts) (codes "(")) call read))

abbrev sort_of : Kinds → Sort
sort_of (CExprKind-F.Literal s n) = literal
sort_of (CExprKind-F.Read p) = read
sort_of (CExprKind-F.Call c) = call
sort_of (CExprKind-F.Not e) = negation
sort_of (CExprKind-F.Two o a b) = two

truth_sort : (b : Bool) (r : List Token) → sort_in (cond b (codes "false") (codes "true") ∷ r) ≡ literal
truth_sort true r = refl
truth_sort false r = refl

int_sort : (w : Width) (n : ℕ) (r : List Token) → sort_in (literal_tokens (scalar.Int w) (pos n) ++ r) ≡ literal
int_sort W8 n r = refl
int_sort W16 n r = refl
int_sort W32 n r = refl
int_sort W64 n r = refl

nat_sort : (w : Width) (n : ℕ) (r : List Token) → sort_in (literal_tokens (scalar.Nat w) (pos n) ++ r) ≡ literal
nat_sort W8 n r = refl
nat_sort W16 n r = refl
nat_sort W32 n r = refl
nat_sort W64 n r = refl

least_sort : (w : Width) (least : Bool) (more r : List Token) →
    sort_in (cond least ((codes "INT" ++ (width_digits w ++ codes "_MIN")) ∷ []) (codes "(" ∷ codes "-" ∷ more) ++ r) ≡ literal
least_sort W8 true more r = refl
least_sort W16 true more r = refl
least_sort W32 true more r = refl
least_sort W64 true more r = refl
least_sort w false more r = refl

literal_sort : (s : Scalar) (n : ℤ) → is_literal s n ≡ true → (r : List Token) → sort_in (literal_tokens s n ++ r) ≡ literal
literal_sort scalar.Bool (pos n) h r = truth_sort (n == 0) r
literal_sort scalar.Bool (negsuc n) h r = cc
literal_sort (scalar.Int w) (pos n) h r = int_sort w n r
literal_sort (scalar.Int w) (negsuc n) h r = least_sort w (suc n == negatives w) _ r
literal_sort (scalar.Nat w) (pos n) h r = nat_sort w n r
literal_sort (scalar.Nat w) (negsuc n) h r = cc
literal_sort (scalar.Bits w) n h r = cc

step_front : (s : CStep) → spells_step s ≡ true → (r : List Token) → is (first (step_tokens s ++ r)) (codes ".") ≡ true
step_front = of_steps (λ ts. (r : List Token) → is (first (ts ++ r)) (codes ".") ≡ true) (λ z h r. refl)

step_plain : (s : CStep) → spells_step s ≡ true → Front (codes "(" ∷ codes "[" ∷ []) (step_tokens s)
step_plain = of_steps (Front (codes "(" ∷ codes "[" ∷ [])) (λ z h r. refl)

pub steps_open : (steps : List CStep) (a : List Token) → all_of (map spells_step steps) ≡ true → ends a ≡ true →
    is (first (joined (map step_tokens steps) ++ a)) (codes "(") ≡ false
steps_open [] a h e = ends_open a e
steps_open (s ∷ steps) a h e =
    ap (λ ts. is (first ts) (codes "(")) (append_assoc (step_tokens s) (joined (map step_tokens steps)) a)
    ∙ lacks (first (step_tokens s ++ (joined (map step_tokens steps) ++ a))) (codes "(" ∷ codes "[" ∷ []) (codes "(")
    (step_plain s (and_first _ _ h) (joined (map step_tokens steps) ++ a)) refl

named_sort : (name : Token) (rest : List Token) → is_callee name ≡ true → (v : Bool) → is (first rest) (codes "(") ≡ v →
    sort_in (name ∷ rest) ≡ cond v call read
named_sort name rest h v e = rw (
  lacks name (codes "(" ∷ []) (codes "(") (callee_off name (codes "(" ∷ []) h refl) refl,
  callee_off name literal_words h refl,
  e,
) refl

place_sort : (through : Bool) (name : List ℕ) (steps : List CStep) → is_name name ≡ true → all_of (map spells_step steps) ≡ true →
    (a : List Token) → ends a ≡ true
    → sort_in ((root_tokens through name ++ joined (map step_tokens steps)) ++ a) ≡ read
place_sort true name steps h k a e = refl
place_sort false name steps h k a e = named_sort name (joined (map step_tokens steps) ++ a) (name-callee name h) false (steps_open steps a k e)

two_sort : (ts : List Token) → Lacks foreign ts → sort_in (codes "(" ∷ ts) ≡ two
two_sort ts h =
    rw (lacks (first ts) foreign (codes "-") h refl, lacks (first ts) foreign (codes "*") h refl, lacks (first ts) foreign (codes "!") h refl) refl

two_sorts : (xs more a : List Token) → Front foreign xs → sort_in ((codes "(" ∷ (xs ++ more)) ++ a) ≡ two
two_sorts xs more a h = ap (λ ts. sort_in (codes "(" ∷ ts)) (append_assoc xs more a) ∙ two_sort (xs ++ (more ++ a)) (h (more ++ a))

sort_is : (z : Kinds) → kind_ok z ≡ true → (a : List Token) → ends a ≡ true → sort_in (kind_level z ++ a) ≡ sort_of z
sort_is (CExprKind-F.Literal s n) h a e = literal_sort s n h a
sort_is (CExprKind-F.Read p) h a e =
    of_places (λ ts. sort_in (ts ++ a) ≡ read) (λ z k. place_sort z.through z.name z.steps (and_first _ _ k) (and_second _ _ k) a e) p h
sort_is (CExprKind-F.Call c) h a e =
    of_calls (λ ts. sort_in (ts ++ a) ≡ call) (λ z k. named_sort z.name
    (codes "(" ∷ ((with_commas (map arg_tokens z.args) ++ codes ")" ∷ []) ++ a)) (and_first _ _ k) true refl) c h
sort_is (CExprKind-F.Not e') h a e = refl
sort_is (CExprKind-F.Two o x y) h a e = two_sorts (expr_tokens x) _ a (expr_front x (and_first _ _ (and_second _ _ h)))

-- ---- one level against another

abbrev OfArg : CArg → Type 0
OfArg = Only arg_tokens placeless_arg spells_arg ends

abbrev OfKind : CExprKind → Type 0
OfKind = Only kind_tokens placeless_kind spells_kind ends

abbrev OfCall : CCall → Type 0
OfCall = Only ccall_tokens placeless_call spells_call ends

abbrev OfExpr : CExpr → Type 0
OfExpr = Only expr_tokens placeless_expr spells_expr ends

abbrev OfIndex : CIndex → Type 0
OfIndex = Only index_tokens placeless_index spells_index anywhere

abbrev OfPlace : CPlace → Type 0
OfPlace = Only place_tokens placeless_place spells_place ends

abbrev OfStep : CStep → Type 0
OfStep = Only step_tokens placeless_step spells_step unindexed

abbrev Arg : Type 0
Arg = (a : CArg) × OfArg a

abbrev Kind : Type 0
Kind = (k : CExprKind) × OfKind k

abbrev Call : Type 0
Call = (c : CCall) × OfCall c

abbrev Expr : Type 0
Expr = (e : CExpr) × OfExpr e

abbrev Index : Type 0
Index = (i : CIndex) × OfIndex i

abbrev Place : Type 0
Place = (p : CPlace) × OfPlace p

abbrev Step : Type 0
Step = (s : CStep) × OfStep s

abbrev plain_arg : CArg-F Arg Kind Call Expr Index Place Step → Args
plain_arg = map-CArg Arg Kind Call Expr Index Place Step CArg CExprKind CCall CExpr CIndex CPlace CStep
    (λ e. e.0) (λ e. e.0) (λ e. e.0) (λ e. e.0) (λ e. e.0) (λ e. e.0) (λ e. e.0)

abbrev plain_kind : CExprKind-F Arg Kind Call Expr Index Place Step → Kinds
plain_kind = map-CExprKind Arg Kind Call Expr Index Place Step CArg CExprKind CCall CExpr CIndex CPlace CStep
    (λ e. e.0) (λ e. e.0) (λ e. e.0) (λ e. e.0) (λ e. e.0) (λ e. e.0) (λ e. e.0)

abbrev plain_step : CStep-F Arg Kind Call Expr Index Place Step → Steps
plain_step = map-CStep Arg Kind Call Expr Index Place Step CArg CExprKind CCall CExpr CIndex CPlace CStep
    (λ e. e.0) (λ e. e.0) (λ e. e.0) (λ e. e.0) (λ e. e.0) (λ e. e.0) (λ e. e.0)

-- a part with more of its whole behind it
pub before_same : {A B : Type 0} (tokens : A → List Token) (bare : A → B) (ok : A → Bool) (off : List Token → Bool) (x : A) →
    Only tokens bare ok off x → ok x ≡ true → (y : A) → ok y ≡ true
    → (r s a b : List Token) → off (r ++ a) ≡ true → off (s ++ b) ≡ true → (tokens x ++ r) ++ a ≡ (tokens y ++ s) ++ b →
    (bare x ≡ bare y) × (r ++ a ≡ s ++ b)
before_same tokens bare ok off x one h y k r s a b t u e =
    one h y k (r ++ a) (s ++ b) t u (sym (append_assoc (tokens x) r a) ∙ (e ∙ append_assoc (tokens y) s b))

arg_same : (x : CArg-F Arg Kind Call Expr Index Place Step) → OnlyLevel arg_level arg_bare arg_ok ends (plain_arg x)
arg_same (CArg-F.Value x) (CArg-F.Value y) h k a b s t e = let m = x.1 h y k a b s t e in (ap (λ e. roll-CArg (CArg-F.Value e)) m.0, m.1)
arg_same (CArg-F.Address x) (CArg-F.Address y) h k a b s t e = let m = x.1 h y k a b s t (ap tail e) in (ap (λ p. roll-CArg (CArg-F.Address p)) m.0, m.1)
arg_same (CArg-F.Value x) (CArg-F.Address y) h k a b s t e = from_true_false (sym (ap (λ ts. among (first ts) foreign) e) ∙ expr_front x.0 h a)
arg_same (CArg-F.Address x) (CArg-F.Value y) h k a b s t e = from_true_false (ap (λ ts. among (first ts) foreign) e ∙ expr_front y k b)

abbrev Same : Kinds → Kinds → List Token → List Token → Type 0
Same x z a b = (kind_bare x ≡ kind_bare z) × (a ≡ b)

operator_ends : (o : Op) (r : List Token) → is_c_operator o ≡ true → ends (operator_sign o ∷ r) ≡ true
operator_ends o r h = ap not (operator_off o h)

by_two : {o p : Op} {u v x y : CExpr} → o ≡ p → u ≡ x → v ≡ y → roll-CExprKind (CExprKind-F.Two o u v) ≡ roll-CExprKind (CExprKind-F.Two p x y)
by_two e f g = cc

by_literal : {s t : Scalar} {n m : ℤ} → s ≡ t → n ≡ m → roll-CExprKind (CExprKind-F.Literal s n) ≡ roll-CExprKind (CExprKind-F.Literal t m)
by_literal e f = cc

not_same : (x : Expr) (y : CExpr) → spells_expr x.0 ≡ true → spells_expr y ≡ true → (a b : List Token) →
    (expr_tokens x.0 ++ codes ")" ∷ []) ++ a ≡ (expr_tokens y ++ codes ")" ∷ []) ++ b
    → Same (CExprKind-F.Not x.0) (CExprKind-F.Not y) a b
not_same x y h k a b e =
    let m = before_same expr_tokens placeless_expr spells_expr ends x.0 x.1 h y k (codes ")" ∷ []) (codes ")" ∷ []) a b refl refl e in
    (ap (λ e. roll-CExprKind (CExprKind-F.Not e)) m.0, ap tail m.1)

two_same : (o p : Op) (u v : Expr) (x y : CExpr) → kind_ok (CExprKind-F.Two o u.0 v.0) ≡ true →
    kind_ok (CExprKind-F.Two p x y) ≡ true → (a b : List Token)
    → (expr_tokens u.0 ++ (operator_sign o ∷ (expr_tokens v.0 ++ codes ")" ∷ []))) ++ a
    ≡ (expr_tokens x ++ (operator_sign p ∷ (expr_tokens y ++ codes ")" ∷ []))) ++ b
    → Same (CExprKind-F.Two o u.0 v.0) (CExprKind-F.Two p x y) a b
two_same o p u v x y h k a b e =
    let oh = and_first (is_c_operator o) (spells_expr u.0 && spells_expr v.0) h in
    let pk = and_first (is_c_operator p) (spells_expr x && spells_expr y) k in
    let hs = and_second (is_c_operator o) (spells_expr u.0 && spells_expr v.0) h in
    let ks = and_second (is_c_operator p) (spells_expr x && spells_expr y) k in
    let m = before_same expr_tokens placeless_expr spells_expr ends u.0 u.1 (and_first _ _ hs) x (and_first _ _ ks)
    (operator_sign o ∷ (expr_tokens v.0 ++ codes ")" ∷ [])) (operator_sign p ∷ (expr_tokens y ++ codes ")" ∷ [])) a b
    (operator_ends o ((expr_tokens v.0 ++ codes ")" ∷ []) ++ a) oh) (operator_ends p ((expr_tokens y ++ codes ")" ∷ []) ++ b) pk) e in
    let n = before_same expr_tokens placeless_expr spells_expr ends v.0 v.1 (and_second _ _ hs) y (and_second _ _ ks) (codes ")" ∷ [])
    (codes ")" ∷ []) a b refl refl (ap tail m.1) in
    (by_two (operator_same o p oh pk (ap first m.1)) m.0 n.0, ap tail n.1)

by_sort : (x : CExprKind-F Arg Kind Call Expr Index Place Step) (z : Kinds) → sort_of (plain_kind x) ≡ sort_of z →
    kind_ok (plain_kind x) ≡ true → kind_ok z ≡ true → (a b : List Token) → ends a ≡ true → ends b ≡ true
    → kind_level (plain_kind x) ++ a ≡ kind_level z ++ b → Same (plain_kind x) z a b
by_sort (CExprKind-F.Literal u n) (CExprKind-F.Literal v m) same h k a b s t e = let r = literal_same u v n m a b h k e in (by_literal r.0.0 r.0.1, r.1)
by_sort (CExprKind-F.Read p) (CExprKind-F.Read q) same h k a b s t e = let m = p.1 h q k a b s t e in (ap (λ p. roll-CExprKind (CExprKind-F.Read p)) m.0, m.1)
by_sort (CExprKind-F.Call c) (CExprKind-F.Call d) same h k a b s t e = let m = c.1 h d k a b s t e in (ap (λ c. roll-CExprKind (CExprKind-F.Call c)) m.0, m.1)
by_sort (CExprKind-F.Not x) (CExprKind-F.Not y) same h k a b s t e = not_same x y h k a b (ap (λ ts. tail (tail ts)) e)
by_sort (CExprKind-F.Two o u v) (CExprKind-F.Two p x y) same h k a b s t e = two_same o p u v x y h k a b (ap tail e)
by_sort _ _ same h k a b s t e = absurd (cc)

kind_same : (x : CExprKind-F Arg Kind Call Expr Index Place Step) → OnlyLevel kind_level kind_bare kind_ok ends (plain_kind x)
kind_same x z h k a b s t e = by_sort x z (sym (sort_is (plain_kind x) h a s) ∙ (ap sort_in e ∙ sort_is z k b t)) h k a b s t e

closing_off : (r : List Token) → ends (codes ")" ∷ r) ≡ true
closing_off r = refl

arg_close : (c : CArg) → spells_arg c ≡ true → (r : List Token) → stands (codes ")") (arg_tokens c ++ r) ≡ false
arg_close =
    by_level arg_tokens placeless_arg spells_arg ends roll-CArg arg_level arg_bare arg_ok arg_levels out-CArg roll-out-CArg
    (λ ts. (r : List Token) → stands (codes ")") (ts ++ r) ≡ false) level_close
  where
    level_close : (z : Args) → arg_ok z ≡ true → (r : List Token) → stands (codes ")") (arg_level z ++ r) ≡ false
    level_close (CArg-F.Value e) h r = lacks (first (expr_tokens e ++ r)) foreign (codes ")") (expr_front e h r) refl
    level_close (CArg-F.Address p) h r = refl

pub args_row : InCommas arg_tokens spells_arg ends
args_row = record { starts = λ y r h. arg_close y h r; comma = λ r. refl; close = λ r. refl }

by_call : {n m : List ℕ} {xs ys : List CArg} → n ≡ m → xs ≡ ys →
    roll-CCall (record { name = n; args = xs }) ≡ roll-CCall (record { name = m; args = ys })
by_call e f = cc

call_same : (name : List ℕ) (args : List Arg) → OnlyLevel call_level call_bare call_ok ends (record { name = name; args = map (λ e. e.0) args })
call_same name args z h k a b s t e =
    let m = commas_same arg_tokens placeless_arg spells_arg ends args_row (map (λ e. e.0) args) z.args (each_shown OfArg args)
    (and_second _ _ h) (and_second _ _ k) a b
    (sym (append_assoc (with_commas (map arg_tokens (map (λ e. e.0) args))) (codes ")" ∷ []) a)
    ∙ (ap (λ ts. tail (tail ts)) e ∙ append_assoc (with_commas (map arg_tokens z.args)) (codes ")" ∷ []) b)) in
    (by_call (ap first e) m.0, m.1)

expr_same : (place : TextPlace) (what : Kind) → OnlyLevel expr_level expr_bare expr_ok ends (record { place = place; what = what.0 })
expr_same place what z h k a b s t e = let m = what.1 h z.what k a b s t e in (ap (λ k. roll-CExpr (record { place = any_place; what = k })) m.0, m.1)

pub short : (n : ℕ) → is_length n ≡ true → n < 2 ^ 64
short n h = let most : nat_le n 65536 ≡ true = and_second (nat_le 1 n) (nat_le n 65536) h in grind (arith, nat_tests)

by_index : {s t : Bool} {u v : CExpr} {n m : ℕ} → s ≡ t → u ≡ v → n ≡ m →
    roll-CIndex (record { signed = s; at = u; length = n }) ≡ roll-CIndex (record { signed = t; at = v; length = m })
by_index e f g = cc

index_rest : (s t : Bool) (u : Expr) (v : CExpr) (n m : ℕ) → s ≡ t → (spells_expr u.0 && is_length n) ≡ true →
    (spells_expr v && is_length m) ≡ true → (a b : List Token)
    → (expr_tokens u.0 ++ codes "," ∷ decimal n ∷ codes ")" ∷ codes "]" ∷ []) ++ a
    ≡ (expr_tokens v ++ codes "," ∷ decimal m ∷ codes ")" ∷ codes "]" ∷ []) ++ b
    → (roll-CIndex (record { signed = s; at = placeless_expr u.0; length = n })
    ≡ roll-CIndex (record { signed = t; at = placeless_expr v; length = m })) × (a ≡ b)
index_rest s t u v n m is h k a b e =
    let r = before_same expr_tokens placeless_expr spells_expr ends u.0 u.1 (and_first _ _ h) v (and_first _ _ k)
    (codes "," ∷ decimal n ∷ codes ")" ∷ codes "]" ∷ []) (codes "," ∷ decimal m ∷ codes ")" ∷ codes "]" ∷ []) a b refl refl e in
    (by_index is r.0 (decimal_injective n m (short n (and_second _ _ h)) (short m (and_second _ _ k)) (ap second r.1)), ap (λ ts. tail (tail (tail (tail ts)))) r.1)

index_same : (s : Bool) (u : Expr) (n : ℕ) (t : Bool) (v : CExpr) (m : ℕ) → (spells_expr u.0 && is_length n) ≡ true →
    (spells_expr v && is_length m) ≡ true → (a b : List Token)
    → index_level (record { signed = s; at = u.0; length = n }) ++ a ≡ index_level (record { signed = t; at = v; length = m }) ++ b
    → (roll-CIndex (record { signed = s; at = placeless_expr u.0; length = n })
    ≡ roll-CIndex (record { signed = t; at = placeless_expr v; length = m })) × (a ≡ b)
index_same true u n true v m h k a b e = index_rest true true u v n m refl h k a b (ap (λ ts. tail (tail (tail ts))) e)
index_same false u n false v m h k a b e = index_rest false false u v n m refl h k a b (ap (λ ts. tail (tail (tail ts))) e)
index_same true u n false v m h k a b e = from_true_false (ap (λ ts. is (second ts) (codes "bl_ix_s")) e)
index_same false u n true v m h k a b e = from_true_false (sym (ap (λ ts. is (second ts) (codes "bl_ix_s")) e))

index_first : (i : CIndex) → spells_index i ≡ true → (r : List Token) → is (first (index_tokens i ++ r)) (codes "[") ≡ true
index_first = of_indices (λ ts. (r : List Token) → is (first (ts ++ r)) (codes "[") ≡ true) (λ z h. level_index_front z.signed _)
  where
    level_index_front : (s : Bool) (more : List Token) (r : List Token) → is (first ((index_front s ++ more) ++ r)) (codes "[") ≡ true
    level_index_front true more r = refl
    level_index_front false more r = refl

by_step : {n m : List ℕ} {i j : Option CIndex} → n ≡ m → i ≡ j →
    roll-CStep (record { member = n; index = i }) ≡ roll-CStep (record { member = m; index = j })
by_step e f = cc

some_index : {i j : CIndex} → i ≡ j → Some i ≡ Some j
some_index e = ap (λ i. Some i) e

no_index : {P : Type 0} (i : CIndex) (a b : List Token) → spells_index i ≡ true → unindexed a ≡ true → a ≡ index_tokens i ++ b → P
no_index i a b h u e = from_true_false (sym (ap (λ ts. is (first ts) (codes "[")) e ∙ index_first i h b) ∙ not-true (is (first a) (codes "[")) u)

step_same : (n : List ℕ) (i : Option Index) (m : List ℕ) (j : Option CIndex) →
    step_ok (plain_step (record { member = n; index = i })) ≡ true → step_ok (record { member = m; index = j }) ≡ true
    → (a b : List Token) → unindexed a ≡ true → unindexed b ≡ true →
    step_level (plain_step (record { member = n; index = i })) ++ a ≡ step_level (record { member = m; index = j }) ++ b
    → (step_bare (plain_step (record { member = n; index = i })) ≡ step_bare (record { member = m; index = j })) × (a ≡ b)
step_same n None m None h k a b s t e = (by_step (ap second e) refl, ap (λ ts. tail (tail ts)) e)
step_same n (Some i) m (Some j) h k a b s t e =
    let r = i.1 (and_second _ _ h) j (and_second _ _ k) a b refl refl (ap (λ ts. tail (tail ts)) e) in (by_step (ap second e) (some_index r.0), r.1)
step_same n None m (Some j) h k a b s t e = no_index j a b (and_second _ _ k) s (ap (λ ts. tail (tail ts)) e)
step_same n (Some i) m None h k a b s t e = no_index i.0 b a (and_second _ _ h) t (sym (ap (λ ts. tail (tail ts)) e))

step_begins : (s : CStep) → spells_step s ≡ true → (r : List Token) → ends (step_tokens s ++ r) ≡ false
step_begins = of_steps (λ ts. (r : List Token) → ends (ts ++ r) ≡ false) (λ z h r. refl)

step_unindexed : (s : CStep) → spells_step s ≡ true → (r : List Token) → unindexed (step_tokens s ++ r) ≡ true
step_unindexed = of_steps (λ ts. (r : List Token) → unindexed (ts ++ r) ≡ true) (λ z h r. refl)

steps_row : InRow step_tokens spells_step unindexed ends
steps_row = record { starts = λ y r h. step_begins y h r; between = λ y r h. step_unindexed y h r; ends = λ r s. ends_index r s }

by_place : {t u : Bool} {n m : List ℕ} {xs ys : List CStep} → t ≡ u → n ≡ m → xs ≡ ys →
    roll-CPlace (record { through = t; name = n; steps = xs }) ≡ roll-CPlace (record { through = u; name = m; steps = ys })
by_place e f g = cc

steps_same : (xs : List Step) (ys : List CStep) → all_of (map spells_step (map (λ e. e.0) xs)) ≡ true →
    all_of (map spells_step ys) ≡ true → (a b : List Token) → ends a ≡ true → ends b ≡ true
    → joined (map step_tokens (map (λ e. e.0) xs)) ++ a ≡ joined (map step_tokens ys) ++ b →
    (map placeless_step (map (λ e. e.0) xs) ≡ map placeless_step ys) × (a ≡ b)
steps_same xs ys h k a b s t e =
    rows_same step_tokens placeless_step spells_step unindexed ends steps_row (map (λ e. e.0) xs) ys (each_shown OfStep xs) h k a b s t e

no_root : {P : Type 0} (n : List ℕ) (more ts : List Token) → is_name n ≡ true → codes "(" ∷ ts ≡ n ∷ more → P
no_root n more ts h e = from_true_false (ap (λ ts. is (first ts) (codes "(")) e
    ∙ lacks n (codes "(" ∷ []) (codes "(") (name_off n (codes "(" ∷ []) h refl) refl)

place_same : (c : Bool) (n : List ℕ) (xs : List Step) (d : Bool) (m : List ℕ) (ys : List CStep) →
    (is_name n && all_of (map spells_step (map (λ e. e.0) xs))) ≡ true → (is_name m && all_of (map spells_step ys)) ≡ true
    → (a b : List Token) → ends a ≡ true → ends b ≡ true →
    place_level (record { through = c; name = n; steps = map (λ e. e.0) xs }) ++ a ≡ place_level (record { through = d; name = m; steps = ys }) ++ b
    → (place_bare (record { through = c; name = n; steps = map (λ e. e.0) xs }) ≡ place_bare (record { through = d; name = m; steps = ys })) × (a ≡ b)
place_same true n xs true m ys h k a b s t e =
    let r = steps_same xs ys (and_second _ _ h) (and_second _ _ k) a b s t (ap (λ ts. tail (tail (tail (tail ts)))) e) in
    (by_place refl (ap (λ ts. first (tail (tail ts))) e) r.0, r.1)
place_same false n xs false m ys h k a b s t e = let r = steps_same xs ys (and_second _ _ h) (and_second _ _ k) a b s t (ap tail e) in
    (by_place refl (ap first e) r.0, r.1)
place_same true n xs false m ys h k a b s t e = no_root m _ _ (and_first _ _ k) e
place_same false n xs true m ys h k a b s t e = no_root n _ _ (and_first _ _ h) (sym e)

-- ---- every whole

arg_only : (x : CArg-F Arg Kind Call Expr Index Place Step) → OfArg (roll-CArg (plain_arg x))
arg_only x = only_whole arg_tokens placeless_arg spells_arg ends roll-CArg arg_level arg_bare arg_ok arg_levels out-CArg
    roll-out-CArg (plain_arg x) (arg_same x)

kind_only : (x : CExprKind-F Arg Kind Call Expr Index Place Step) → OfKind (roll-CExprKind (plain_kind x))
kind_only x = only_whole kind_tokens placeless_kind spells_kind ends roll-CExprKind kind_level kind_bare kind_ok kind_levels
    out-CExprKind roll-out-CExprKind (plain_kind x) (kind_same x)

call_only : (name : List ℕ) (args : List Arg) → OfCall (roll-CCall (record { name = name; args = map (λ e. e.0) args }))
call_only name args = only_whole ccall_tokens placeless_call spells_call ends roll-CCall call_level call_bare call_ok call_levels
    out-CCall roll-out-CCall _ (call_same name args)

expr_only : (place : TextPlace) (what : Kind) → OfExpr (roll-CExpr (record { place = place; what = what.0 }))
expr_only place what = only_whole expr_tokens placeless_expr spells_expr ends roll-CExpr expr_level expr_bare expr_ok expr_levels
    out-CExpr roll-out-CExpr _ (expr_same place what)

index_only : (signed : Bool) (at : Expr) (n : ℕ) → OfIndex (roll-CIndex (record { signed = signed; at = at.0; length = n }))
index_only signed at n =
    only_whole index_tokens placeless_index spells_index anywhere roll-CIndex index_level index_bare index_ok index_levels out-CIndex roll-out-CIndex _
    (λ z h k a b s t e. index_same signed at n z.signed z.at z.length h k a b e)

place_only : (through : Bool) (name : List ℕ) (steps : List Step) →
    OfPlace (roll-CPlace (record { through = through; name = name; steps = map (λ e. e.0) steps }))
place_only through name steps =
    only_whole place_tokens placeless_place spells_place ends roll-CPlace place_level place_bare place_ok place_levels out-CPlace roll-out-CPlace _
    (λ z h k a b s t e. place_same through name steps z.through z.name z.steps h k a b s t e)

step_only : (member : List ℕ) (index : Option Index) → OfStep (roll-CStep (plain_step (record { member = member; index = index })))
step_only member index =
    only_whole step_tokens placeless_step spells_step unindexed roll-CStep step_level step_bare step_ok step_levels out-CStep roll-out-CStep _
    (λ z h k a b s t e. step_same member index z.member z.index h k a b s t e)

pub one_expr : (e : CExpr) → Only expr_tokens placeless_expr spells_expr ends e
one_expr =
    ind-CExpr OfArg OfKind OfCall OfExpr OfIndex OfPlace OfStep
    (λ x y is. subst (λ layer. OfArg (roll-CArg layer)) is (arg_only y))
    (λ x y is. subst (λ layer. OfKind (roll-CExprKind layer)) is (kind_only y))
    (λ x y is. subst (λ layer. OfCall (roll-CCall layer)) is (call_only y.name y.args))
    (λ x y is. subst (λ layer. OfExpr (roll-CExpr layer)) is (expr_only y.place y.what))
    (λ x y is. subst (λ layer. OfIndex (roll-CIndex layer)) is (index_only y.signed y.at y.length))
    (λ x y is. subst (λ layer. OfPlace (roll-CPlace layer)) is (place_only y.through y.name y.steps))
    (λ x y is. subst (λ layer. OfStep (roll-CStep layer)) is (step_only y.member y.index))

pub one_place : (p : CPlace) → Only place_tokens placeless_place spells_place ends p
one_place =
    ind-CPlace OfArg OfKind OfCall OfExpr OfIndex OfPlace OfStep
    (λ x y is. subst (λ layer. OfArg (roll-CArg layer)) is (arg_only y))
    (λ x y is. subst (λ layer. OfKind (roll-CExprKind layer)) is (kind_only y))
    (λ x y is. subst (λ layer. OfCall (roll-CCall layer)) is (call_only y.name y.args))
    (λ x y is. subst (λ layer. OfExpr (roll-CExpr layer)) is (expr_only y.place y.what))
    (λ x y is. subst (λ layer. OfIndex (roll-CIndex layer)) is (index_only y.signed y.at y.length))
    (λ x y is. subst (λ layer. OfPlace (roll-CPlace layer)) is (place_only y.through y.name y.steps))
    (λ x y is. subst (λ layer. OfStep (roll-CStep layer)) is (step_only y.member y.index))

pub one_call : (c : CCall) → Only ccall_tokens placeless_call spells_call ends c
one_call =
    ind-CCall OfArg OfKind OfCall OfExpr OfIndex OfPlace OfStep
    (λ x y is. subst (λ layer. OfArg (roll-CArg layer)) is (arg_only y))
    (λ x y is. subst (λ layer. OfKind (roll-CExprKind layer)) is (kind_only y))
    (λ x y is. subst (λ layer. OfCall (roll-CCall layer)) is (call_only y.name y.args))
    (λ x y is. subst (λ layer. OfExpr (roll-CExpr layer)) is (expr_only y.place y.what))
    (λ x y is. subst (λ layer. OfIndex (roll-CIndex layer)) is (index_only y.signed y.at y.length))
    (λ x y is. subst (λ layer. OfPlace (roll-CPlace layer)) is (place_only y.through y.name y.steps))
    (λ x y is. subst (λ layer. OfStep (roll-CStep layer)) is (step_only y.member y.index))
