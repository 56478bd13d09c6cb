-- The tokens of structs and functions that have a spelling derive, and so do those of a file.
use Rattle.std.proofs.Common.{◌≡◌, ℕ, ◌+◌, ◌≤◌, Bool, true, false, ◌&&◌, List, [], ◌∷◌, ◌++◌, map, Option, Some, None, refl, sym, ap, ◌∙◌, subst, append_assoc}
use Rattle.std.proofs.Common.{append-nil, arith, codes}
use Rattle.std.proofs.lemmas.Bool.{leb-true}
use Rattle.std.specs.Fmt.{decimal}
use Rattle.bl_tree.proofs.Basics.{and_first, and_second}
use Rattle.bl_tree.specs.declared.scalar.Width.TheVariants.{W8, W16, W32, W64}
use Rattle.bl_tree.specs.declared.scalar.Scalar.{Scalar}
use Rattle.bl_tree.specs.declared.scalar.Scalar.TheVariants as scalar
use Rattle.bl_tree.specs.declared.c.CType.{CType}
use Rattle.bl_tree.specs.declared.c.CType.TheVariants as ctype
use Rattle.bl_tree.specs.declared.c.CMember.{CMember}
use Rattle.bl_tree.specs.declared.c.CStruct.{CStruct}
use Rattle.bl_tree.specs.declared.c.CParam.{CParam}
use Rattle.bl_tree.specs.declared.c.CLocal.{CLocal}
use Rattle.bl_tree.specs.declared.c.CFunc.{CFunc}
use Rattle.bl_tree.specs.Reduce.{all_of, joined}
use Rattle.bl_ctext.specs.Token.{Token}
use Rattle.bl_ctext.specs.Names.{is_among, is_name, is_struct_name, is_function_name}
use Rattle.bl_ctext.specs.Spelling.{scalar_word, type_tokens, length_tokens, member_tokens, struct_tokens, star_if, param_tokens, zero_tokens, local_tokens}
use Rattle.bl_ctext.specs.Spelling.{returned_tokens, static_if, stmt_tokens, func_tokens, func_front, func_rest, listed, with_commas, tokens_of}
use Rattle.bl_ctext.specs.Spellable.{has_any, is_c_scalar, is_spellable, most_open, spells_type, spells_length, spells_member, spells_struct, spells_param}
use Rattle.bl_ctext.specs.Spellable.{spells_local, spells_returned, spells_stmt, spells_func}
use Rattle.bl_ctext.proofs.Nesting.{is_bracket}
use Rattle.bl_cparse_syntax.specs.declared.grammar.Group.TheVariants.{ScalarTypes}
use Rattle.bl_cparse_syntax.specs.declared.grammar.Digits.TheVariants.{Elements}
use Rattle.bl_cparse_syntax.specs.declared.grammar.Part.TheVariants.{File, Structs, Struct, Members, Member, TypeName, Length, Funcs, Func, PlainFunc, FuncRest}
use Rattle.bl_cparse_syntax.specs.declared.grammar.Part.TheVariants.{Params, ParamRest, Param, Star, Locals, Local, Stmt}
use Rattle.bl_cparse_syntax.specs.Classes.{matches}
use Rattle.bl_cparse_syntax.specs.Classes.Class.{one_of, number}
use Rattle.bl_cparse_syntax.specs.Grammar.{Wanted, SpellText}
use Rattle.bl_cparse_syntax.specs.Grammar.IsAmong.{here, later}
use Rattle.bl_grammar.specs.Derivations.Derives.{done}
use Rattle.bl_cparse_syntax_laws.proofs.Shallow.{Goes, at, free, open_then, close_then, class_then, word_then}
use Rattle.bl_cparse_syntax_laws.proofs.Literals.{number_is, number_plain}
use Rattle.bl_cparse_syntax_laws.proofs.Lists.{Whole, Each, apart, apart_twice, name_then, struct_name, function_name}
use Rattle.bl_cparse_syntax_laws.proofs.Exprs.{length_is}
use Rattle.bl_cparse_syntax_laws.proofs.Stmts.{stmts_goes, stmt_goes}

-- each of a list, where all are shown
each_of : {A : Type 0} (P : List Token → Type 0) (tokens : A → List Token) (spells : A → Bool) → ((a : A) → spells a ≡ true → P (tokens a))
    → (xs : List A) → all_of (map spells xs) ≡ true → Each P (map tokens xs)
each_of P tokens spells shown [] h = tt
each_of P tokens spells shown (x ∷ xs) h = (shown x (and_first _ _ h), each_of P tokens spells shown xs (and_second _ _ h))

-- types and members

type_is : (s : Scalar) → is_c_scalar s ≡ true → (matches (one_of ScalarTypes) (scalar_word s) ≡ true) × (is_bracket (scalar_word s) ≡ false)
unfolding matches is_among
type_is scalar.Bool h = (refl, refl)
type_is (scalar.Int W8) h = (refl, refl)
type_is (scalar.Int W16) h = (refl, refl)
type_is (scalar.Int W32) h = (refl, refl)
type_is (scalar.Int W64) h = (refl, refl)
type_is (scalar.Nat W8) h = (refl, refl)
type_is (scalar.Nat W16) h = (refl, refl)
type_is (scalar.Nat W32) h = (refl, refl)
type_is (scalar.Nat W64) h = (refl, refl)
type_is (scalar.Bits w) h = absurd (let e : false ≡ true = h in cc)

type_goes : (ty : CType) → spells_type ty ≡ true → Whole TypeName (type_tokens ty)
type_goes (ctype.Scalar s) h k ss ts go = free k k TypeName ss (scalar_word s ∷ ts) here (omega arith)
    (class_then (one_of ScalarTypes) k (scalar_word s) ss ts (type_is s h).0 (type_is s h).1 go)
type_goes (ctype.Struct name) h k ss ts go = free k k TypeName ss (codes "struct" ∷ name ∷ ts) (later here) (omega arith)
    (word_then k _ _ _ refl (struct_name name h k k ss ts go))

length_goes : (n : Option ℕ) → spells_length n ≡ true → Whole Length (length_tokens n)
length_goes None h k ss ts go = free k k Length ss ts (later here) (omega arith) go
length_goes (Some n) h k ss ts go =
    let range = length_is n h in
    free k k Length ss (codes "[" ∷ decimal n ∷ codes "]" ∷ ts) here (omega arith)
    (open_then k _ _ _ refl (class_then (number Elements) (k + 1) (decimal n) _ _ (number_is Elements n range.0 range.1)
    (number_plain Elements n range.1) (close_then k _ _ _ refl refl go)))

member_goes : (m : CMember) → spells_member m ≡ true → Whole Member (member_tokens m)
member_goes m h k ss ts go = free k k Member ss (member_tokens m ++ ts) here (omega arith)
    (apart k _ (type_tokens m.ty) _ ts (type_goes m.ty (and_first _ _ h) k _ _ (name_then k m.name _ _ (and_first _ _ (and_second _ _ h))
    (apart k _ (length_tokens m.length) (codes ";" ∷ []) ts
    (length_goes m.length (and_second _ _ (and_second _ _ h)) k _ (codes ";" ∷ ts) (word_then k _ _ _ refl go))))))

-- parts of one kind, one after another

members_goes : (parts : List (List Token)) → Each (Whole Member) parts → Whole Members (joined parts)
members_goes [] each k ss ts go = free k k Members ss ts (later here) (omega arith) go
members_goes (xs ∷ parts) each k ss ts go = free k k Members ss ((xs ++ joined parts) ++ ts) here (omega arith)
    (apart k _ xs (joined parts) ts (each.0 k _ (joined parts ++ ts) (members_goes parts each.1 k ss ts go)))

structs_goes : (parts : List (List Token)) → Each (Whole Struct) parts → Whole Structs (joined parts)
structs_goes [] each k ss ts go = free k k Structs ss ts (later here) (omega arith) go
structs_goes (xs ∷ parts) each k ss ts go = free k k Structs ss ((xs ++ joined parts) ++ ts) here (omega arith)
    (apart k _ xs (joined parts) ts (each.0 k _ (joined parts ++ ts) (structs_goes parts each.1 k ss ts go)))

funcs_goes : (parts : List (List Token)) → Each (Whole Func) parts → Whole Funcs (joined parts)
funcs_goes [] each k ss ts go = free k k Funcs ss ts (later here) (omega arith) go
funcs_goes (xs ∷ parts) each k ss ts go = free k k Funcs ss ((xs ++ joined parts) ++ ts) here (omega arith)
    (apart k _ xs (joined parts) ts (each.0 k _ (joined parts ++ ts) (funcs_goes parts each.1 k ss ts go)))

locals_goes : (parts : List (List Token)) → Each (Whole Local) parts → Whole Locals (joined parts)
locals_goes [] each k ss ts go = free k k Locals ss ts (later here) (omega arith) go
locals_goes (xs ∷ parts) each k ss ts go = free k k Locals ss ((xs ++ joined parts) ++ ts) here (omega arith)
    (apart k _ xs (joined parts) ts (each.0 k _ (joined parts ++ ts) (locals_goes parts each.1 k ss ts go)))

params_rest : (parts : List (List Token)) → Each (Whole Param) parts → Whole ParamRest (listed false parts)
params_rest [] each k ss ts go = free k k ParamRest ss ts (later here) (omega arith) go
params_rest (xs ∷ parts) each k ss ts go = free k k ParamRest ss (codes "," ∷ ((xs ++ listed false parts) ++ ts)) here (omega arith)
    (word_then k _ _ _ refl (apart k _ xs (listed false parts) ts (each.0 k _ (listed false parts ++ ts) (params_rest parts each.1 k ss ts go))))

params_goes : (parts : List (List Token)) → Each (Whole Param) parts → Whole Params (with_commas parts)
params_goes [] each k ss ts go = free k k Params ss ts (later here) (omega arith) go
params_goes (xs ∷ parts) each k ss ts go = free k k Params ss ((xs ++ listed false parts) ++ ts) here (omega arith)
    (apart k _ xs (listed false parts) ts (each.0 k _ (listed false parts ++ ts) (params_rest parts each.1 k ss ts go)))

-- structs

struct_by : (name : Token) (xs : List Token) (parts : List (List Token)) → is_struct_name name ≡ true → Whole Member xs → Each (Whole Member) parts
    → Whole Struct (codes "struct" ∷ name ∷ ((codes "{" ∷ ((xs ++ joined parts) ++ codes "}" ∷ [])) ++ codes ";" ∷ []))
struct_by name xs parts h one each k ss ts go =
    free k k Struct ss (codes "struct" ∷ name ∷ codes "{" ∷ ((((xs ++ joined parts) ++ codes "}" ∷ []) ++ codes ";" ∷ []) ++ ts)) here (omega arith)
    (word_then k _ _ _ refl (struct_name name h k k _ _ (open_then k _ _ _ refl
    (apart_twice (k + 1) _ (xs ++ joined parts) (codes "}" ∷ []) (codes ";" ∷ []) ts
    (apart (k + 1) _ xs (joined parts) (codes "}" ∷ codes ";" ∷ ts) (one (k + 1) _ _
    (members_goes parts each (k + 1) _ (codes "}" ∷ codes ";" ∷ ts) (close_then k _ _ _ refl refl (word_then k _ _ _ refl go)))))))))

members_some : (name : Token) (members : List CMember) → is_struct_name name ≡ true → has_any members ≡ true →
    all_of (map spells_member members) ≡ true
    → Whole Struct (codes "struct" ∷ name ∷ ((codes "{" ∷ (joined (map member_tokens members) ++ codes "}" ∷ [])) ++ codes ";" ∷ []))
members_some name [] h some all = absurd (let e : false ≡ true = some in cc)
members_some name (m ∷ members) h some all =
    struct_by name (member_tokens m) (map member_tokens members) h (member_goes m (and_first _ _ all))
    (each_of (Whole Member) member_tokens spells_member member_goes members (and_second _ _ all))

struct_goes : (s : CStruct) → spells_struct s ≡ true → Whole Struct (struct_tokens s)
struct_goes s h = members_some s.name s.members (and_first _ _ h) (and_first _ _ (and_second _ _ h)) (and_second _ _ (and_second _ _ h))

-- functions

star_goes : (b : Bool) → Whole Star (star_if b)
star_goes true k ss ts go = free k k Star ss (codes "*" ∷ ts) here (omega arith) (word_then k _ _ _ refl go)
star_goes false k ss ts go = free k k Star ss ts (later here) (omega arith) go

param_goes : (p : CParam) → spells_param p ≡ true → Whole Param (param_tokens p)
param_goes p h k ss ts go = free k k Param ss (param_tokens p ++ ts) here (omega arith)
    (apart k _ (type_tokens p.ty) _ ts (type_goes p.ty (and_first _ _ h) k _ _
    (apart k _ (star_if p.pointer) (p.name ∷ []) ts (star_goes p.pointer k _ (p.name ∷ ts) (name_then k p.name ss ts (and_second _ _ h) go)))))

local_by : (ty : CType) (name : Token) → spells_type ty ≡ true → is_name name ≡ true →
    Whole Local (type_tokens ty ++ (name ∷ codes "=" ∷ (zero_tokens ty ++ codes ";" ∷ [])))
local_by (ctype.Scalar s) name h i k ss ts go = free k k Local ss (scalar_word s ∷ name ∷ codes "=" ∷ codes "0" ∷ codes ";" ∷ ts) here (omega arith)
    (class_then (one_of ScalarTypes) k (scalar_word s) _ _ (type_is s h).0 (type_is s h).1 (name_then k name _ _ i
    (word_then k _ _ _ refl (word_then k _ _ _ refl (word_then k _ _ _ refl go)))))
local_by (ctype.Struct of) name h i k ss ts go =
    free k k Local ss (codes "struct" ∷ of ∷ name ∷ codes "=" ∷ codes "{" ∷ codes "0" ∷ codes "}" ∷ codes ";" ∷ ts) (later here) (omega arith)
    (word_then k _ _ _ refl (struct_name of h k k _ _ (name_then k name _ _ i (word_then k _ _ _ refl
    (open_then k _ _ _ refl (word_then (k + 1) _ _ _ refl (close_then k _ _ _ refl refl (word_then k _ _ _ refl go))))))))

local_goes : (x : CLocal) → spells_local x ≡ true → Whole Local (local_tokens x)
local_goes x h = local_by x.ty x.name (and_first _ _ h) (and_second _ _ h)

-- what stands before a function's name
returned_goes : (s : Option Scalar) → spells_returned s ≡ true → (k : ℕ) (ss : List Wanted) (ts : List Token) →
    Goes k (at k FuncRest ∷ ss) ts → Goes k (at k PlainFunc ∷ ss) (returned_tokens s ++ ts)
returned_goes None h k ss ts go = free k k PlainFunc ss (codes "void" ∷ ts) here (omega arith) (word_then k _ _ _ refl go)
returned_goes (Some s) h k ss ts go = free k k PlainFunc ss (scalar_word s ∷ ts) (later here) (omega arith)
    (class_then (one_of ScalarTypes) k (scalar_word s) _ _ (type_is s h).0 (type_is s h).1 go)

static_goes : (b : Bool) (k : ℕ) (ss : List Wanted) (ts : List Token) → Goes k (at k PlainFunc ∷ ss) ts → Goes k (at k Func ∷ ss) (static_if b ++ ts)
static_goes true k ss ts go = free k k Func ss (codes "static" ∷ ts) here (omega arith) (word_then k _ _ _ refl go)
static_goes false k ss ts go = free k k Func ss ts (later here) (omega arith) go

-- a function from its name on
rest_goes : (name : Token) (params locals body : List (List Token)) → is_function_name name ≡ true → Each (Whole Param) params →
    Each (Whole Local) locals → Each (Whole Stmt) body
    → (k : ℕ) (ss : List Wanted) (ts : List Token) → Goes k ss ts
    → Goes k (at k FuncRest ∷ ss) (name ∷ codes "(" ∷ (with_commas params
    ++ (codes ")" ∷ codes "{" ∷ (joined locals ++ (joined body ++ (codes "}" ∷ ts))))))
rest_goes name params locals body h each_param each_local each_stmt k ss ts go =
    free k k FuncRest ss (name ∷ codes "(" ∷ (with_commas params
    ++ (codes ")" ∷ codes "{" ∷ (joined locals ++ (joined body ++ (codes "}" ∷ ts)))))) here (omega arith)
    (function_name name h k _ _ (open_then k _ _ _ refl (params_goes params each_param (k + 1) _ _ (close_then k _ _ _ refl refl (open_then k _ _ _ refl
    (locals_goes locals each_local (k + 1) _ _ (stmts_goes body each_stmt (k + 1) _ _ (close_then k _ _ _ refl refl go))))))))

module _ (f : CFunc) (ts : List Token) where
  abbrev params : List Token
  params = with_commas (map param_tokens f.params)

  abbrev locals : List Token
  locals = joined (map local_tokens f.locals)

  abbrev body : List Token
  body = joined (map stmt_tokens f.body)

  -- the tokens of a function before others, put together from its front
  func_apart : func_tokens f ++ ts ≡ static_if f.fixed
      ++ (returned_tokens f.result ++ (f.name ∷ codes "(" ∷ (params ++ (codes ")" ∷ codes "{" ∷ (locals ++ (body ++ (codes "}" ∷ ts)))))))
  func_apart =
      append_assoc (func_front f) (params ++ (codes ")" ∷ codes "{" ∷ func_rest f)) ts
      ∙ append_assoc (static_if f.fixed) (returned_tokens f.result ++ (f.name ∷ codes "(" ∷ []))
      ((params ++ (codes ")" ∷ codes "{" ∷ func_rest f)) ++ ts)
      ∙ ap (λ (zs : List Token). static_if f.fixed ++ zs)
      (append_assoc (returned_tokens f.result) (f.name ∷ codes "(" ∷ []) ((params ++ (codes ")" ∷ codes "{" ∷ func_rest f)) ++ ts)
      ∙ ap (λ (zs : List Token). returned_tokens f.result ++ (f.name ∷ codes "(" ∷ zs)) (append_assoc params (codes ")" ∷ codes "{" ∷ func_rest f) ts
      ∙ ap (λ (zs : List Token). params ++ (codes ")" ∷ codes "{" ∷ zs)) (append_assoc locals (body ++ codes "}" ∷ []) ts
      ∙ ap (λ (zs : List Token). locals ++ zs) (append_assoc body (codes "}" ∷ []) ts))))

func_goes : (f : CFunc) → spells_func f ≡ true → Whole Func (func_tokens f)
func_goes f h k ss ts go =
    let named : (is_function_name f.name && (all_of (map spells_param f.params)
    && (all_of (map spells_local f.locals) && all_of (map spells_stmt f.body)))) ≡ true = and_second _ _ h in
    let given : (all_of (map spells_param f.params) && (all_of (map spells_local f.locals) && all_of (map spells_stmt f.body))) ≡ true = and_second _ _ named in
    let rest : (all_of (map spells_local f.locals) && all_of (map spells_stmt f.body)) ≡ true = and_second _ _ given in
    subst (λ (zs : List Token). Goes k (at k Func ∷ ss) zs) (sym (func_apart f ts))
    (static_goes f.fixed k ss _ (returned_goes f.result (and_first _ _ h) k ss _
    (rest_goes f.name (map param_tokens f.params) (map local_tokens f.locals) (map stmt_tokens f.body) (and_first _ _ named)
    (each_of (Whole Param) param_tokens spells_param param_goes f.params (and_first _ _ given))
    (each_of (Whole Local) local_tokens spells_local local_goes f.locals (and_first _ _ rest))
    (each_of (Whole Stmt) stmt_tokens spells_stmt stmt_goes f.body (and_second _ _ rest)) k ss ts go)))

-- files

file_by : (xs : List Token) (structs : List (List Token)) (ys : List Token) (funcs : List (List Token)) → Whole Struct xs →
    Each (Whole Struct) structs → Whole Func ys → Each (Whole Func) funcs
    → Goes 0 (at 0 File ∷ []) ((xs ++ joined structs) ++ (ys ++ joined funcs))
file_by xs structs ys funcs one each func each_func =
    let end : joined funcs ++ [] ≡ joined funcs = append-nil (joined funcs) in
    free 0 0 File [] ((xs ++ joined structs) ++ (ys ++ joined funcs)) here (omega arith)
    (apart 0 _ xs (joined structs) (ys ++ joined funcs) (one 0 _ _ (structs_goes structs each 0 _ _ (func 0 _ _
    (subst (λ (zs : List Token). Goes 0 (at 0 Funcs ∷ []) zs) end (funcs_goes funcs each_func 0 [] [] (λ few. done)))))))

both_some : (structs : List CStruct) (funcs : List CFunc) → has_any structs ≡ true → has_any funcs ≡ true →
    all_of (map spells_struct structs) ≡ true → all_of (map spells_func funcs) ≡ true
    → Goes 0 (at 0 File ∷ []) (tokens_of structs funcs)
both_some [] funcs some some_func h i = absurd (let e : false ≡ true = some in cc)
both_some (s ∷ structs) [] some some_func h i = absurd (let e : false ≡ true = some_func in cc)
both_some (s ∷ structs) (f ∷ funcs) some some_func h i =
    file_by (struct_tokens s) (map struct_tokens structs) (func_tokens f) (map func_tokens funcs)
    (struct_goes s (and_first _ _ h)) (each_of (Whole Struct) struct_tokens spells_struct struct_goes structs (and_second _ _ h))
    (func_goes f (and_first _ _ i)) (each_of (Whole Func) func_tokens spells_func func_goes funcs (and_second _ _ i))

pub file_derives : (structs : List CStruct) (funcs : List CFunc) → is_spellable structs funcs ≡ true → SpellText (tokens_of structs funcs)
file_derives structs funcs h =
    let a = and_second (has_any structs) _ h in
    let b = and_second (has_any funcs) _ a in
    let c = and_second (all_of (map spells_struct structs)) _ b in
    let few : most_open 0 (tokens_of structs funcs) ≤ 2000 = leb-true _ _ (and_second (all_of (map spells_func funcs)) _ c) in
    both_some structs funcs (and_first _ _ h) (and_first _ _ a) (and_first _ _ b) (and_first _ _ c) few
