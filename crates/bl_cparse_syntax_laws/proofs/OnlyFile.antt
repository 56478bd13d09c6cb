-- A file is told by its tokens.
use Rattle.std.proofs.Common.{◌≡◌, ℕ, Bool, true, false, not, ◌&&◌, List, [], ◌∷◌, ◌++◌, map, Option, Some, None, refl, sym, ap, ◌∙◌, subst, append_assoc}
use Rattle.std.proofs.Common.{append-nil, codes}
use Rattle.std.proofs.lemmas.Fmt.{decimal_injective}
use Rattle.bl_tree.proofs.Basics.{and_first, and_second, from_true_false}
use Rattle.bl_tree.specs.declared.scalar.Width.TheVariants.{W8, W16, W32, W64}
use Rattle.bl_tree.specs.declared.scalar.Scalar.{Scalar}
use Rattle.bl_tree.specs.declared.scalar.Scalar.TheVariants as scalar
use Rattle.bl_tree.specs.declared.c.CStmt.{CStmt}
use Rattle.bl_tree.specs.declared.c.CType.{CType}
use Rattle.bl_tree.specs.declared.c.CType.TheVariants as ctype
use Rattle.bl_tree.specs.declared.c.CMember.{CMember}
use Rattle.bl_tree.specs.declared.c.CStruct.{CStruct}
use Rattle.bl_tree.specs.declared.c.CParam.{CParam}
use Rattle.bl_tree.specs.declared.c.CLocal.{CLocal}
use Rattle.bl_tree.specs.declared.c.CFunc.{CFunc}
use Rattle.bl_tree.specs.Reduce.{all_of, joined}
use Rattle.bl_ctext.specs.Token.{Token, SpacedC}
use Rattle.bl_ctext.specs.Names.{is_name}
use Rattle.bl_ctext.specs.Prelude.{prelude}
use Rattle.bl_ctext.specs.SpellsC.{SpellsC}
use Rattle.bl_ctext.specs.declared.file.CFile.{CFile}
use Rattle.bl_ctext.specs.Spelling.{scalar_word, type_tokens, with_commas, braced, stmt_tokens, length_tokens, member_tokens, struct_tokens, star_if}
use Rattle.bl_ctext.specs.Spelling.{param_tokens, zero_tokens, local_tokens, returned_tokens, static_if, func_front, func_rest, func_tokens, tokens_of}
use Rattle.bl_ctext.specs.Spellable.{has_any, is_c_scalar, is_spellable, shallow, spells_type, spells_length, spells_member, spells_struct, spells_param}
use Rattle.bl_ctext.specs.Spellable.{spells_local, spells_returned, spells_func, spells_stmt}
use Rattle.bl_cparse_syntax_laws.specs.Placeless.{any_place, placeless_stmt, placeless_struct, placeless_func, SameButPlaces}
use Rattle.bl_cparse_syntax_laws.proofs.Tests.{is, among, first, tail, second, lacks, fewer_lacks, name_off}
use Rattle.bl_cparse_syntax_laws.proofs.Rows.{Only, InRow, InCommas, stands, each_by, rows_same, commas_same, closed_same, braced_same}
use Rattle.bl_cparse_syntax_laws.proofs.Unique.{one_list}
use Rattle.bl_cparse_syntax_laws.proofs.Words.{scalar_same}
use Rattle.bl_cparse_syntax_laws.proofs.OnlyExpr.{anywhere, short}
use Rattle.bl_cparse_syntax_laws.proofs.OnlyStmt.{no_else, strange, stmt_front, stmts_row, one_stmt}

-- a part that keeps no place
abbrev Plain : {A : Type 0} → (A → List Token) → (A → Bool) → A → Type 0
Plain {A} tokens ok = Only tokens (λ (x : A). x) ok anywhere

-- ---- types

-- what a type begins with
abbrev type_words : List Token
type_words =
    codes "struct" ∷ codes "bool" ∷ codes "int8_t" ∷ codes "int16_t" ∷ codes "int32_t" ∷ codes "int64_t" ∷ codes "uint8_t" ∷ codes "uint16_t" ∷
    codes "uint32_t" ∷ codes "uint64_t" ∷ []

-- a scalar type's word is no other word
scalar_other : (s : Scalar) → is_c_scalar s ≡ true →
    among (scalar_word s) (codes "struct" ∷ codes "void" ∷ codes "static" ∷ codes "}" ∷ codes ")" ∷ []) ≡ false
scalar_other scalar.Bool h = refl
scalar_other (scalar.Int W8) h = refl
scalar_other (scalar.Int W16) h = refl
scalar_other (scalar.Int W32) h = refl
scalar_other (scalar.Int W64) h = refl
scalar_other (scalar.Nat W8) h = refl
scalar_other (scalar.Nat W16) h = refl
scalar_other (scalar.Nat W32) h = refl
scalar_other (scalar.Nat W64) h = refl
scalar_other (scalar.Bits w) h = cc

abbrev others : List Token
others = codes "struct" ∷ codes "void" ∷ codes "static" ∷ codes "}" ∷ codes ")" ∷ []

scalar_is_type : (s : Scalar) → is_c_scalar s ≡ true → among (scalar_word s) type_words ≡ true
scalar_is_type scalar.Bool h = refl
scalar_is_type (scalar.Int W8) h = refl
scalar_is_type (scalar.Int W16) h = refl
scalar_is_type (scalar.Int W32) h = refl
scalar_is_type (scalar.Int W64) h = refl
scalar_is_type (scalar.Nat W8) h = refl
scalar_is_type (scalar.Nat W16) h = refl
scalar_is_type (scalar.Nat W32) h = refl
scalar_is_type (scalar.Nat W64) h = refl
scalar_is_type (scalar.Bits w) h = cc

no_scalar : {P : Type 0} (s : Scalar) (r q : List Token) (w : Token) → is_c_scalar s ≡ true → among w others ≡ true →
    is w w ≡ true → scalar_word s ∷ r ≡ w ∷ q → P
no_scalar s r q w h k self e = from_true_false (sym self ∙ (sym (ap (λ ts. is (first ts) w) e) ∙ lacks (scalar_word s) others w (scalar_other s h) k))

type_same : (t u : CType) → spells_type t ≡ true → spells_type u ≡ true → (a b : List Token) →
    type_tokens t ++ a ≡ type_tokens u ++ b → (t ≡ u) × (a ≡ b)
type_same (ctype.Scalar s) (ctype.Scalar t) h k a b e = (ap (λ s. ctype.Scalar s) (scalar_same s t h k (ap first e)), ap tail e)
type_same (ctype.Struct n) (ctype.Struct m) h k a b e = (ap (λ n. ctype.Struct n) (ap second e), ap (λ ts. tail (tail ts)) e)
type_same (ctype.Scalar s) (ctype.Struct m) h k a b e = no_scalar s a (m ∷ b) (codes "struct") h refl refl e
type_same (ctype.Struct n) (ctype.Scalar t) h k a b e = no_scalar t b (n ∷ a) (codes "struct") k refl refl (sym e)

type_first : (t : CType) → spells_type t ≡ true → (r : List Token) → among (first (type_tokens t ++ r)) type_words ≡ true
type_first (ctype.Scalar s) h r = scalar_is_type s h
type_first (ctype.Struct n) h r = refl

type_other : (t : CType) → spells_type t ≡ true → (r : List Token) → among (first (type_tokens t ++ r)) (codes "}" ∷ codes ")" ∷ []) ≡ false
type_other (ctype.Scalar s) h r = fewer_lacks (scalar_word s) others (codes "}" ∷ codes ")" ∷ []) (scalar_other s h) refl
type_other (ctype.Struct n) h r = refl

-- a type and more of its whole behind it
typed_same : (t u : CType) → spells_type t ≡ true → spells_type u ≡ true → (r s a b : List Token) →
    (type_tokens t ++ r) ++ a ≡ (type_tokens u ++ s) ++ b → (t ≡ u) × (r ++ a ≡ s ++ b)
typed_same t u h k r s a b e = type_same t u h k (r ++ a) (s ++ b) (sym (append_assoc (type_tokens t) r a) ∙ (e ∙ append_assoc (type_tokens u) s b))

typed_other : (t : CType) → spells_type t ≡ true → (more r : List Token) (w : Token) → among w (codes "}" ∷ codes ")" ∷ []) ≡ true →
    is (first ((type_tokens t ++ more) ++ r)) w ≡ false
typed_other t h more r w k =
    ap (λ ts. is (first ts) w) (append_assoc (type_tokens t) more r)
    ∙ lacks (first (type_tokens t ++ (more ++ r))) (codes "}" ∷ codes ")" ∷ []) w (type_other t h (more ++ r)) k

-- ---- members and structs

some_same : {A : Type 0} {x y : A} → x ≡ y → Some x ≡ Some y
some_same e = ap (λ x. Some x) e

length_same : (n m : Option ℕ) → spells_length n ≡ true → spells_length m ≡ true → (a b : List Token) →
    (length_tokens n ++ codes ";" ∷ []) ++ a ≡ (length_tokens m ++ codes ";" ∷ []) ++ b → (n ≡ m) × (a ≡ b)
length_same None None h k a b e = (refl, ap tail e)
length_same (Some n) (Some m) h k a b e = (some_same (decimal_injective n m (short n h) (short m k) (ap second e)), ap (λ ts. tail (tail (tail (tail ts)))) e)
length_same None (Some m) h k a b e = from_true_false (ap (λ ts. is (first ts) (codes ";")) e)
length_same (Some n) None h k a b e = from_true_false (sym (ap (λ ts. is (first ts) (codes ";")) e))

abbrev member : CType → List ℕ → Option ℕ → CMember
member t n k = record { ty = t; name = n; length = k }

by_member : {t u : CType} {n m : List ℕ} {j k : Option ℕ} → t ≡ u → n ≡ m → j ≡ k → member t n j ≡ member u m k
by_member e f g = cc

one_member : (x : CMember) → Plain member_tokens spells_member x
one_member x h y k a b s t e =
    let r = typed_same x.ty y.ty (and_first _ _ h) (and_first _ _ k) (x.name ∷ (length_tokens x.length ++ codes ";" ∷ []))
    (y.name ∷ (length_tokens y.length ++ codes ";" ∷ [])) a b e in
    let l = length_same x.length y.length (and_second _ _ (and_second _ _ h)) (and_second _ _ (and_second _ _ k)) a b (ap tail r.1) in
    (by_member r.0 (ap first r.1) l.0, l.1)

members_row : InRow member_tokens spells_member anywhere (stands (codes "}"))
members_row = record {
  starts = λ y r h. typed_other y.ty (and_first _ _ h) (y.name ∷ (length_tokens y.length ++ codes ";" ∷ [])) r (codes "}") refl;
  between = λ y r h. refl;
  ends = λ r s. refl;
}

map_self : {A : Type 0} (xs : List A) → map (λ x. x) xs ≡ xs
map_self [] = refl
map_self (x ∷ xs) = ap (λ ys. x ∷ ys) (map_self xs)

same_list : {A : Type 0} (xs ys : List A) → map (λ x. x) xs ≡ map (λ x. x) ys → xs ≡ ys
same_list xs ys e = sym (map_self xs) ∙ (e ∙ map_self ys)

abbrev structure : List ℕ → List CMember → CStruct
structure n xs = record { place = any_place; name = n; members = xs }

by_struct : {n m : List ℕ} {xs ys : List CMember} → n ≡ m → xs ≡ ys → structure n xs ≡ structure m ys
by_struct e f = cc

one_struct : (x : CStruct) → Only struct_tokens placeless_struct spells_struct anywhere x
one_struct x h y k a b s t e =
    let r = braced_same member_tokens (λ x. x) spells_member anywhere members_row x.members y.members
    (each_by (Plain member_tokens spells_member) one_member x.members)
    (and_second _ _ (and_second _ _ h)) (and_second _ _ (and_second _ _ k)) (codes ";" ∷ a) (codes ";" ∷ b)
    (sym (append_assoc (braced (map member_tokens x.members)) (codes ";" ∷ []) a)
    ∙ (ap (λ ts. tail (tail ts)) e ∙ append_assoc (braced (map member_tokens y.members)) (codes ";" ∷ []) b)) in
    (by_struct (ap second e) (same_list x.members y.members r.0), ap tail r.1)

-- ---- functions

abbrev param : CType → Bool → List ℕ → CParam
param t p n = record { ty = t; pointer = p; name = n }

by_param : {t u : CType} {p q : Bool} {n m : List ℕ} → t ≡ u → p ≡ q → n ≡ m → param t p n ≡ param u q m
by_param e f g = cc

star_same : (p q : Bool) (n m : List ℕ) → is_name n ≡ true → is_name m ≡ true → (a b : List Token) →
    (star_if p ++ n ∷ []) ++ a ≡ (star_if q ++ m ∷ []) ++ b → ((p ≡ q) × (n ≡ m)) × (a ≡ b)
star_same true true n m h k a b e = ((refl, ap second e), ap (λ ts. tail (tail ts)) e)
star_same false false n m h k a b e = ((refl, ap first e), ap tail e)
star_same true false n m h k a b e = from_true_false (ap (λ ts. is (first ts) (codes "*")) e
    ∙ lacks m (codes "*" ∷ []) (codes "*") (name_off m (codes "*" ∷ []) k refl) refl)
star_same false true n m h k a b e = from_true_false (sym (ap (λ ts. is (first ts) (codes "*")) e)
    ∙ lacks n (codes "*" ∷ []) (codes "*") (name_off n (codes "*" ∷ []) h refl) refl)

one_param : (x : CParam) → Plain param_tokens spells_param x
one_param x h y k a b s t e =
    let r = typed_same x.ty y.ty (and_first _ _ h) (and_first _ _ k) (star_if x.pointer ++ x.name ∷ []) (star_if y.pointer ++ y.name ∷ []) a b e in
    let l = star_same x.pointer y.pointer x.name y.name (and_second _ _ h) (and_second _ _ k) a b r.1 in
    (by_param r.0 l.0.0 l.0.1, l.1)

params_row : InCommas param_tokens spells_param anywhere
params_row = record {
  starts = λ y r h. typed_other y.ty (and_first _ _ h) (star_if y.pointer ++ y.name ∷ []) r (codes ")") refl;
  comma = λ r. refl;
  close = λ r. refl;
}

abbrev local : CType → List ℕ → CLocal
local t n = record { ty = t; name = n }

by_local : {t u : CType} {n m : List ℕ} → t ≡ u → n ≡ m → local t n ≡ local u m
by_local e f = cc

zero_same : (t u : CType) → t ≡ u → (a b : List Token) →
    (zero_tokens t ++ codes ";" ∷ []) ++ a ≡ (zero_tokens u ++ codes ";" ∷ []) ++ b → a ≡ b
zero_same (ctype.Scalar s) (ctype.Scalar u) same a b e = ap (λ ts. tail (tail ts)) e
zero_same (ctype.Struct n) (ctype.Struct m) same a b e = ap (λ ts. tail (tail (tail (tail ts)))) e
zero_same (ctype.Scalar s) (ctype.Struct m) same a b e = absurd (cc)
zero_same (ctype.Struct n) (ctype.Scalar u) same a b e = absurd (cc)

one_local : (x : CLocal) → Plain local_tokens spells_local x
one_local x h y k a b s t e =
    let r = typed_same x.ty y.ty (and_first _ _ h) (and_first _ _ k) (x.name ∷ codes "=" ∷ (zero_tokens x.ty ++ codes ";" ∷ []))
    (y.name ∷ codes "=" ∷ (zero_tokens y.ty ++ codes ";" ∷ [])) a b e in
    (by_local r.0 (ap first r.1), zero_same x.ty y.ty r.0 a b (ap (λ ts. tail (tail ts)) r.1))

-- no type stands first
abbrev untyped : List Token → Bool
untyped ts = not (among (first ts) type_words)

locals_row : InRow local_tokens spells_local anywhere untyped
locals_row = record {
  starts = λ y r h.
      ap (λ ts. not (among (first ts) type_words)) (append_assoc (type_tokens y.ty) (y.name ∷ codes "=" ∷ (zero_tokens y.ty ++ codes ";" ∷ [])) r)
      ∙ ap not (type_first y.ty (and_first _ _ h) ((y.name ∷ codes "=" ∷ (zero_tokens y.ty ++ codes ";" ∷ [])) ++ r));
  between = λ y r h. refl;
  ends = λ r s. refl;
}

stmts_untyped : (body : List CStmt) (a : List Token) → all_of (map spells_stmt body) ≡ true →
    untyped (joined (map stmt_tokens body) ++ (codes "}" ∷ a)) ≡ true
stmts_untyped [] a h = refl
stmts_untyped (s ∷ body) a h =
    ap untyped (append_assoc (stmt_tokens s) (joined (map stmt_tokens body)) (codes "}" ∷ a))
    ∙ ap not (fewer_lacks (first (stmt_tokens s ++ (joined (map stmt_tokens body) ++ (codes "}" ∷ a)))) strange type_words
    (stmt_front s (and_first _ _ h) (joined (map stmt_tokens body) ++ (codes "}" ∷ a))) refl)

returned_same : (s t : Option Scalar) → spells_returned s ≡ true → spells_returned t ≡ true → (a b : List Token) →
    returned_tokens s ++ a ≡ returned_tokens t ++ b → (s ≡ t) × (a ≡ b)
returned_same None None h k a b e = (refl, ap tail e)
returned_same (Some s) (Some t) h k a b e = (some_same (scalar_same s t h k (ap first e)), ap tail e)
returned_same None (Some t) h k a b e = no_scalar t b a (codes "void") k refl refl (sym e)
returned_same (Some s) None h k a b e = no_scalar s a b (codes "void") h refl refl e

returned_plain : {P : Type 0} (s : Option Scalar) (a b : List Token) → spells_returned s ≡ true → codes "static" ∷ b ≡ returned_tokens s ++ a → P
returned_plain None a b h e = from_true_false (ap (λ ts. is (first ts) (codes "static")) e)
returned_plain (Some s) a b h e = no_scalar s a b (codes "static") h refl refl (sym e)

static_same : (p q : Bool) (s t : Option Scalar) → spells_returned s ≡ true → spells_returned t ≡ true → (a b : List Token)
    → static_if p ++ (returned_tokens s ++ a) ≡ static_if q ++ (returned_tokens t ++ b) → (p ≡ q) × (returned_tokens s ++ a ≡ returned_tokens t ++ b)
static_same true true s t h k a b e = (refl, ap tail e)
static_same false false s t h k a b e = (refl, e)
static_same true false s t h k a b e = returned_plain t b (returned_tokens s ++ a) k e
static_same false true s t h k a b e = returned_plain s a (returned_tokens t ++ b) h (sym e)

front_parts : (f : CFunc) (more a : List Token) → (func_front f ++ more) ++ a ≡ static_if f.fixed
    ++ (returned_tokens f.result ++ (f.name ∷ codes "(" ∷ (more ++ a)))
front_parts f more a =
    append_assoc (func_front f) more a
    ∙ (append_assoc (static_if f.fixed) (returned_tokens f.result ++ (f.name ∷ codes "(" ∷ [])) (more ++ a)
    ∙ ap (λ ts. static_if f.fixed ++ ts) (append_assoc (returned_tokens f.result) (f.name ∷ codes "(" ∷ []) (more ++ a)))

abbrev function : Bool → Option Scalar → List ℕ → List CParam → List CLocal → List CStmt → CFunc
function p s n xs us ss = record { place = any_place; fixed = p; result = s; name = n; params = xs; locals = us; body = ss }

by_func : {p q : Bool} {s t : Option Scalar} {n m : List ℕ} {xs ys : List CParam} {us vs : List CLocal} {ss ts : List CStmt} →
    p ≡ q → s ≡ t → n ≡ m → xs ≡ ys → us ≡ vs → ss ≡ ts
    → function p s n xs us ss ≡ function q t m ys vs ts
by_func a b c d e f = cc

-- locals, statements and the brace behind them
rest_same : (f g : CFunc) → (all_of (map spells_local f.locals) && all_of (map spells_stmt f.body)) ≡ true →
    (all_of (map spells_local g.locals) && all_of (map spells_stmt g.body)) ≡ true
    → (a b : List Token) → func_rest f ++ a ≡ func_rest g ++ b →
    ((f.locals ≡ g.locals) × (map placeless_stmt f.body ≡ map placeless_stmt g.body)) × (a ≡ b)
rest_same f g h k a b e =
    let ss = joined (map stmt_tokens f.body) in
    let ts = joined (map stmt_tokens g.body) in
    let apart : joined (map local_tokens f.locals) ++ (ss ++ (codes "}" ∷ a)) ≡ joined (map local_tokens g.locals) ++ (ts ++ (codes "}" ∷ b)) =
    sym (append_assoc (joined (map local_tokens f.locals)) (ss ++ codes "}" ∷ []) a
    ∙ ap (λ us. joined (map local_tokens f.locals) ++ us) (append_assoc ss (codes "}" ∷ []) a))
    ∙ (e ∙ (append_assoc (joined (map local_tokens g.locals)) (ts ++ codes "}" ∷ []) b
    ∙ ap (λ us. joined (map local_tokens g.locals) ++ us) (append_assoc ts (codes "}" ∷ []) b))) in
    let l = rows_same local_tokens (λ x. x) spells_local anywhere untyped locals_row f.locals g.locals
    (each_by (Plain local_tokens spells_local) one_local f.locals) (and_first _ _ h) (and_first _ _ k)
    (ss ++ (codes "}" ∷ a)) (ts ++ (codes "}" ∷ b)) (stmts_untyped f.body a (and_second _ _ h)) (stmts_untyped g.body b (and_second _ _ k)) apart in
    let r = closed_same stmt_tokens placeless_stmt spells_stmt no_else stmts_row f.body g.body
    (each_by (Only stmt_tokens placeless_stmt spells_stmt no_else) one_stmt f.body) (and_second _ _ h) (and_second _ _ k) a b l.1 in
    ((same_list f.locals g.locals l.0, r.0), r.1)

one_func : (f : CFunc) → Only func_tokens placeless_func spells_func anywhere f
one_func f h g k a b s t e =
    let fp = with_commas (map param_tokens f.params) in
    let gp = with_commas (map param_tokens g.params) in
    let fr = codes ")" ∷ codes "{" ∷ func_rest f in
    let gr = codes ")" ∷ codes "{" ∷ func_rest g in
    let front = static_same f.fixed g.fixed f.result g.result (and_first _ _ h) (and_first _ _ k)
    (f.name ∷ codes "(" ∷ ((fp ++ fr) ++ a)) (g.name ∷ codes "(" ∷ ((gp ++ gr) ++ b))
    (sym (front_parts f (fp ++ fr) a) ∙ (e ∙ front_parts g (gp ++ gr) b)) in
    let result = returned_same f.result g.result (and_first _ _ h) (and_first _ _ k) (f.name ∷ codes "(" ∷ ((fp ++ fr) ++ a))
    (g.name ∷ codes "(" ∷ ((gp ++ gr) ++ b)) front.1 in
    let hn = and_second _ _ (and_second _ _ h) in
    let kn = and_second _ _ (and_second _ _ k) in
    let params = commas_same param_tokens (λ x. x) spells_param anywhere params_row f.params g.params
    (each_by (Plain param_tokens spells_param) one_param f.params) (and_first _ _ hn) (and_first _ _ kn)
    (codes "{" ∷ (func_rest f ++ a)) (codes "{" ∷ (func_rest g ++ b))
    (sym (append_assoc fp fr a) ∙ (ap (λ ts. tail (tail ts)) result.1 ∙ append_assoc gp gr b)) in
    let rest = rest_same f g (and_second _ _ hn) (and_second _ _ kn) a b (ap tail params.1) in
    (by_func front.0 result.0 (ap first result.1) (same_list f.params g.params params.0) rest.0.0 rest.0.1, rest.1)

-- ---- files

-- no struct stands first
abbrev unstructured : List Token → Bool
unstructured ts = not (is (first ts) (codes "struct"))

abbrev is_none : List Token → Bool
is_none [] = true
is_none (t ∷ ts) = false

structs_row : InRow struct_tokens spells_struct anywhere unstructured
structs_row = record { starts = λ y r h. refl; between = λ y r h. refl; ends = λ r s. refl }

returned_some : (p : Bool) (s : Option Scalar) (more : List Token) → is_none (static_if p ++ (returned_tokens s ++ more)) ≡ false
returned_some true s more = refl
returned_some false None more = refl
returned_some false (Some s) more = refl

returned_struct : (p : Bool) (s : Option Scalar) (more : List Token) → spells_returned s ≡ true →
    unstructured (static_if p ++ (returned_tokens s ++ more)) ≡ true
returned_struct true s more h = refl
returned_struct false None more h = refl
returned_struct false (Some s) more h = ap not (lacks (scalar_word s) others (codes "struct") (scalar_other s h) refl)

funcs_row : InRow func_tokens spells_func anywhere is_none
funcs_row = record {
  starts = λ y r h. ap is_none (front_parts y (with_commas (map param_tokens y.params) ++ (codes ")" ∷ codes "{" ∷ func_rest y)) r)
      ∙ returned_some y.fixed y.result _;
  between = λ y r h. refl;
  ends = λ r s. refl;
}

funcs_unstructured : (funcs : List CFunc) → all_of (map spells_func funcs) ≡ true → unstructured (joined (map func_tokens funcs)) ≡ true
funcs_unstructured [] h = refl
funcs_unstructured (f ∷ funcs) h =
    ap unstructured (front_parts f (with_commas (map param_tokens f.params) ++ (codes ")" ∷ codes "{" ∷ func_rest f)) (joined (map func_tokens funcs)))
    ∙ returned_struct f.fixed f.result _ (and_first _ _ (and_first _ _ h))

pub file_same : (structs : List CStruct) (funcs : List CFunc) (others : List CStruct) (rest : List CFunc) →
    is_spellable structs funcs ≡ true → is_spellable others rest ≡ true
    → tokens_of structs funcs ≡ tokens_of others rest →
    (map placeless_struct structs ≡ map placeless_struct others) × (map placeless_func funcs ≡ map placeless_func rest)
file_same structs funcs others rest h k e =
    let hs = and_second (has_any funcs) _ (and_second (has_any structs) _ h) in
    let ks = and_second (has_any rest) _ (and_second (has_any others) _ k) in
    let hf = and_first (all_of (map spells_func funcs)) (shallow structs funcs) (and_second (all_of (map spells_struct structs)) _ hs) in
    let kf = and_first (all_of (map spells_func rest)) (shallow others rest) (and_second (all_of (map spells_struct others)) _ ks) in
    let s = rows_same struct_tokens placeless_struct spells_struct anywhere unstructured structs_row structs others
    (each_by (Only struct_tokens placeless_struct spells_struct anywhere) one_struct structs)
    (and_first _ _ hs) (and_first _ _ ks) (joined (map func_tokens funcs)) (joined (map func_tokens rest)) (funcs_unstructured funcs hf)
    (funcs_unstructured rest kf) e in
    let f = rows_same func_tokens placeless_func spells_func anywhere is_none funcs_row funcs rest
    (each_by (Only func_tokens placeless_func spells_func anywhere) one_func funcs) hf kf [] [] refl refl
    (append-nil (joined (map func_tokens funcs)) ∙ (s.1 ∙ sym (append-nil (joined (map func_tokens rest))))) in
    (s.0, f.0)

same_behind : (front a b : List ℕ) → front ++ a ≡ front ++ b → a ≡ b
same_behind [] a b e = e
same_behind (x ∷ front) a b e = same_behind front a b (cc)

pub one_file : (file other : CFile) (bytes : List ℕ) → SpellsC file bytes → SpellsC other bytes → SameButPlaces file other
one_file file other bytes (text, (is, spaced)) (text', (also, spaced')) =
    let same : text ≡ text' = same_behind prelude text text' (sym is ∙ also) in
    file_same file.structs file.funcs other.structs other.funcs file.spellable other.spellable
    (one_list (tokens_of file.structs file.funcs) (tokens_of other.structs other.funcs) text spaced
    (subst (SpacedC (tokens_of other.structs other.funcs)) (sym same) spaced'))
