-- The tokens that a derivation of a text is the derivation of are those of a file.
use Rattle.std.proofs.Common.{◌≡◌, ℕ, true, false, List, [], ◌∷◌, ◌++◌, map, Option, Some, None, refl, sym, ap, ◌∙◌, subst, append_assoc, append-nil, codes}
use Rattle.bl_tree.specs.declared.scalar.Width.TheVariants.{W8, W16, W32, W64}
use Rattle.bl_tree.specs.declared.c.CType.TheVariants as ctype
use Rattle.bl_tree.specs.declared.c.CExprKind.{CExprKind-F}
use Rattle.bl_tree.specs.declared.c.CArg.{CArg-F}
use Rattle.bl_tree.specs.declared.c.CStmtKind.{CStmtKind-F}
use Rattle.bl_ctext.specs.Token.{Token}
use Rattle.bl_ctext.specs.Names.{is_name, is_turn_name}
use Rattle.bl_ctext.specs.Spelling.{step_tokens, arg_tokens, stmt_tokens, member_tokens, struct_tokens, param_tokens, local_tokens, func_tokens}
use Rattle.bl_ctext.specs.Spellable.{spells_step, spells_arg, spells_stmt, spells_member, spells_struct, spells_param, spells_local, spells_func}
use Rattle.bl_ctext.proofs.PrefixedNames.{name-struct, name-function, name-callee}
use Rattle.bl_grammar.specs.declared.symbol.Symbol.TheVariants.{Terminal, Nonterminal}
use Rattle.bl_grammar.specs.Derivations.Derives.{done, terminal, part}
use Rattle.bl_cparse_syntax.specs.declared.grammar.Part.{Part}
use Rattle.bl_cparse_syntax.specs.declared.grammar.Part.TheVariants.{File, Structs, Struct, StructName, Members, Member, TypeName, Length, Funcs, Func}
use Rattle.bl_cparse_syntax.specs.declared.grammar.Part.TheVariants.{PlainFunc, FuncRest, FuncName, Params, ParamRest, Param, Star, Locals, Local, Stmts, Stmt}
use Rattle.bl_cparse_syntax.specs.declared.grammar.Part.TheVariants.{Else, Turns, AfterName, AssignTail, Value, AfterOpen, Result, Expr, Simple, Constant}
use Rattle.bl_cparse_syntax.specs.declared.grammar.Part.TheVariants.{Inside, Negative, NameUse, Steps, Index, Args, ArgRest, Arg, Place}
use Rattle.bl_cparse_syntax.specs.declared.grammar.Group.TheVariants.{ScalarTypes, PlainLiterals, Operators, IndexFunctions}
use Rattle.bl_cparse_syntax.specs.declared.grammar.Roomed.{Roomed}
use Rattle.bl_cparse_syntax.specs.Classes.{Class, matches}
use Rattle.bl_cparse_syntax.specs.Grammar.{Wanted, Production, productions, wanted_for, IsAmong, Produces, CDerives}
use Rattle.bl_cparse_syntax.specs.Grammar.IsAmong.{here, later}
use Rattle.bl_cparse_syntax.specs.Classes.Class.{exactly, one_of, a_name, number, turn}
use Rattle.bl_cparse_syntax.specs.declared.grammar.Group.{Group}
use Rattle.bl_cparse_syntax.specs.declared.grammar.Digits.{Digits}
use Rattle.bl_cparse_syntax_laws.proofs.Pieces.{Spelled, word_is, name_is, group_is, callee_is, struct_word, function_word, number_is, scalar_is, operator_is}
use Rattle.bl_cparse_syntax_laws.proofs.Told.{Tree, row_more, comma_more, first_more, arg_from, kind_from, stmt_from, step_told, place_told, read_expr, called}
use Rattle.bl_cparse_syntax_laws.proofs.Told.{call_expr, two_told, int_told, nat_told, negated_told, plain_literal, function_is, index_told, call_stmt, rooted}
use Rattle.bl_cparse_syntax_laws.proofs.Told.{stepped, set_told, clear_told, if_told, loop_told, scalar_type, length_told, member_told, structure_told}
use Rattle.bl_cparse_syntax_laws.proofs.Told.{param_told, scalar_local, struct_local, scalar_func, function_told, file_told}

-- what a piece of the class is
pub data Fits : Class → Token → Type 0 where
  same : {w : Token} → Fits (exactly w) w
  among : {g : Group} (t : Token) → matches (one_of g) t ≡ true → Fits (one_of g) t
  named : (t : Token) → is_name t ≡ true → Fits a_name t
  counted : {of : Digits} (t : Token) → Spelled of t → Fits (number of) t
  turned : (t : Token) → matches turn t ≡ true → Fits turn t

fits : (class : Class) (t : Token) → matches class t ≡ true → Fits class t
fits (exactly w) t m = subst (Fits (exactly w)) (word_is m) Fits.same
fits (one_of g) t m = Fits.among t m
fits a_name t m = Fits.named t (name_is t m)
fits (number of) t m = Fits.counted t (number_is of t m)
fits turn t m = Fits.turned t m

-- the tokens that some symbols stand for, one after the other
pub data Trees : List Wanted → List Token → Type 0 where
  none : Trees [] []
  token : {class : Class} {t : Token} {wanted : List Wanted} {ts : List Token} → Fits class t → Trees wanted ts →
      Trees (Terminal class ∷ wanted) (t ∷ ts)
  last : {whole : Roomed} {ts : List Token} → Tree whole.part ts → Trees (Nonterminal whole ∷ []) ts
  tree : {whole : Roomed} {next : Wanted} {wanted : List Wanted} {us : List Token} (ts : List Token) → Tree whole.part ts →
      Trees (next ∷ wanted) us → Trees (Nonterminal whole ∷ next ∷ wanted) (ts ++ us)

-- the tokens of each production are those of its part
abbrev Case : Part → Type 0
Case of = (p : Production) → IsAmong p (productions of) → (room : ℕ) (own : Token) → is_turn_name own ≡ true → (ts : List Token) →
    Trees (map (wanted_for room own) p.shapes) ts → Tree of ts

file_of : Case File
file_of p here room own turns ts (Trees.tree _ x (Trees.tree _ xs (Trees.tree _ f (Trees.last fs)))) = file_told x xs f fs
file_of p (later gone) room own turns ts h = elim gone [ ]

structs_of : Case Structs
structs_of p here room own turns ts (Trees.tree _ x (Trees.last xs)) = row_more struct_tokens spells_struct x xs
structs_of p (later here) room own turns ts Trees.none = ([], (refl, refl))
structs_of p (later (later gone)) room own turns ts h = elim gone [ ]

struct_of : Case Struct
struct_of p here room own turns ts (Trees.token Fits.same
    (Trees.tree _ name (Trees.token Fits.same (Trees.tree _ x
    (Trees.tree _ xs (Trees.token Fits.same (Trees.token Fits.same Trees.none))))))) = structure_told name x xs
struct_of p (later gone) room own turns ts h = elim gone [ ]

struct_name_of : Case StructName
struct_name_of p here room own turns ts (Trees.token (Fits.named name named_so) Trees.none) = (name, (refl, name-struct name named_so))
struct_name_of p (later here) room own turns ts (Trees.token (Fits.among word m) Trees.none) = (word, (refl, struct_word word m))
struct_name_of p (later (later gone)) room own turns ts h = elim gone [ ]

members_of : Case Members
members_of p here room own turns ts (Trees.tree _ x (Trees.last xs)) = row_more member_tokens spells_member x xs
members_of p (later here) room own turns ts Trees.none = ([], (refl, refl))
members_of p (later (later gone)) room own turns ts h = elim gone [ ]

member_of : Case Member
member_of p here room own turns ts (Trees.tree _ ty
    (Trees.token (Fits.named name named_so) (Trees.tree _ length (Trees.token Fits.same Trees.none)))) = member_told ty name named_so length
member_of p (later gone) room own turns ts h = elim gone [ ]

type_name_of : Case TypeName
type_name_of p here room own turns ts (Trees.token (Fits.among word m) Trees.none) = scalar_type word (scalar_is (group_is ScalarTypes word m))
type_name_of p (later here) room own turns ts (Trees.token Fits.same (Trees.last (name, (i, h)))) = (ctype.Struct name, (ap (λ b. codes "struct" ∷ b) i, h))
type_name_of p (later (later gone)) room own turns ts h = elim gone [ ]

length_of : Case Length
length_of p here room own turns ts (Trees.token Fits.same (Trees.token (Fits.counted digits s) (Trees.token Fits.same Trees.none))) = length_told digits s
length_of p (later here) room own turns ts Trees.none = (None, (refl, refl))
length_of p (later (later gone)) room own turns ts h = elim gone [ ]

funcs_of : Case Funcs
funcs_of p here room own turns ts (Trees.tree _ x (Trees.last xs)) = row_more func_tokens spells_func x xs
funcs_of p (later here) room own turns ts Trees.none = ([], (refl, refl))
funcs_of p (later (later gone)) room own turns ts h = elim gone [ ]

func_of : Case Func
func_of p here room own turns ts (Trees.token Fits.same (Trees.last f)) = f true
func_of p (later here) room own turns ts (Trees.last f) = f false
func_of p (later (later gone)) room own turns ts h = elim gone [ ]

plain_func_of : Case PlainFunc
plain_func_of p here room own turns ts (Trees.token Fits.same (Trees.last f)) fixed = f fixed None refl
plain_func_of p (later here) room own turns ts (Trees.token (Fits.among word m) (Trees.last f)) fixed =
    scalar_func word (scalar_is (group_is ScalarTypes word m)) f fixed
plain_func_of p (later (later gone)) room own turns ts h fixed = elim gone [ ]

func_rest_of : Case FuncRest
func_rest_of p here room own turns ts (Trees.tree _ name
    (Trees.token Fits.same (Trees.tree _ params (Trees.token Fits.same
    (Trees.token Fits.same (Trees.tree _ locals (Trees.tree _ body (Trees.token Fits.same Trees.none)))))))) fixed result returned =
    function_told fixed result returned name params locals body
func_rest_of p (later gone) room own turns ts h fixed result returned = elim gone [ ]

func_name_of : Case FuncName
func_name_of p here room own turns ts (Trees.token (Fits.named name named_so) Trees.none) = (name, (refl, name-function name named_so))
func_name_of p (later here) room own turns ts (Trees.token (Fits.among word m) Trees.none) = (word, (refl, function_word word m))
func_name_of p (later (later gone)) room own turns ts h = elim gone [ ]

params_of : Case Params
params_of p here room own turns ts (Trees.tree _ x (Trees.last xs)) = first_more param_tokens spells_param x xs
params_of p (later here) room own turns ts Trees.none = ([], (refl, refl))
params_of p (later (later gone)) room own turns ts h = elim gone [ ]

param_rest_of : Case ParamRest
param_rest_of p here room own turns ts (Trees.token Fits.same (Trees.tree _ x (Trees.last xs))) = comma_more param_tokens spells_param x xs
param_rest_of p (later here) room own turns ts Trees.none = ([], (refl, refl))
param_rest_of p (later (later gone)) room own turns ts h = elim gone [ ]

param_of : Case Param
param_of p here room own turns ts (Trees.tree _ ty (Trees.tree _ star (Trees.token (Fits.named name named_so) Trees.none))) = param_told ty star name named_so
param_of p (later gone) room own turns ts h = elim gone [ ]

star_of : Case Star
star_of p here room own turns ts (Trees.token Fits.same Trees.none) = (true, (refl, refl))
star_of p (later here) room own turns ts Trees.none = (false, (refl, refl))
star_of p (later (later gone)) room own turns ts h = elim gone [ ]

locals_of : Case Locals
locals_of p here room own turns ts (Trees.tree _ x (Trees.last xs)) = row_more local_tokens spells_local x xs
locals_of p (later here) room own turns ts Trees.none = ([], (refl, refl))
locals_of p (later (later gone)) room own turns ts h = elim gone [ ]

local_of : Case Local
local_of p here room own turns ts (Trees.token (Fits.among word m)
    (Trees.token (Fits.named name named_so) (Trees.token Fits.same (Trees.token Fits.same (Trees.token Fits.same Trees.none))))) =
    scalar_local word (scalar_is (group_is ScalarTypes word m)) name named_so
local_of p (later here) room own turns ts (Trees.token Fits.same
    (Trees.tree _ of (Trees.token (Fits.named name named_so)
    (Trees.token Fits.same (Trees.token Fits.same (Trees.token Fits.same
    (Trees.token Fits.same (Trees.token Fits.same Trees.none)))))))) = struct_local of name named_so
local_of p (later (later gone)) room own turns ts h = elim gone [ ]

stmts_of : Case Stmts
stmts_of p here room own turns ts (Trees.tree _ x (Trees.last xs)) = row_more stmt_tokens spells_stmt x xs
stmts_of p (later here) room own turns ts Trees.none = ([], (refl, refl))
stmts_of p (later (later gone)) room own turns ts h = elim gone [ ]

stmt_of : Case Stmt
stmt_of p here room own turns ts (Trees.token (Fits.named name named_so) (Trees.last tail)) = stmt_from (tail name named_so)
stmt_of p (later here) room own turns ts (Trees.token (Fits.among word m)
    (Trees.token Fits.same (Trees.tree _ args (Trees.token Fits.same (Trees.token Fits.same Trees.none))))) = stmt_from (call_stmt word (callee_is word m) args)
stmt_of p (later (later here)) room own turns ts (Trees.token Fits.same
    (Trees.token Fits.same (Trees.token (Fits.named name named_so) (Trees.token Fits.same (Trees.last tail))))) = stmt_from (rooted true name named_so _ tail)
stmt_of p (later (later (later here))) room own turns ts
    (Trees.token Fits.same (Trees.token Fits.same (Trees.tree _ test
    (Trees.token Fits.same (Trees.token Fits.same (Trees.tree _ body (Trees.token Fits.same (Trees.last other)))))))) = stmt_from (if_told test body other)
stmt_of p (later (later (later (later here)))) room own turns ts (Trees.token Fits.same (Trees.token Fits.same (Trees.last loop))) = stmt_from loop
stmt_of p (later (later (later (later (later here))))) room own turns ts
    (Trees.token Fits.same (Trees.token Fits.same Trees.none)) = stmt_from (CStmtKind-F.Break, (refl, refl))
stmt_of p (later (later (later (later (later (later here)))))) room own turns ts (Trees.token Fits.same (Trees.last result)) = stmt_from result
stmt_of p (later (later (later (later (later (later (later gone))))))) room own turns ts h = elim gone [ ]

else_of : Case Else
else_of p here room own turns ts (Trees.token Fits.same
    (Trees.token Fits.same (Trees.tree _ (xs, (i, h)) (Trees.token Fits.same Trees.none)))) =
    (Some xs, (ap (λ a. codes "else" ∷ codes "{" ∷ (a ++ codes "}" ∷ [])) i, h))
else_of p (later here) room own turns ts Trees.none = (None, (refl, refl))
else_of p (later (later gone)) room own turns ts h = elim gone [ ]

turns_of : Case Turns
turns_of p here room own turns ts (Trees.token Fits.same
    (Trees.token Fits.same (Trees.token Fits.same (Trees.token Fits.same
    (Trees.token Fits.same (Trees.token Fits.same (Trees.tree _ test
    (Trees.token Fits.same (Trees.token Fits.same (Trees.token Fits.same
    (Trees.token Fits.same (Trees.token Fits.same (Trees.token Fits.same
    (Trees.token Fits.same (Trees.token Fits.same (Trees.token Fits.same
    (Trees.tree _ body (Trees.token Fits.same (Trees.token Fits.same Trees.none))))))))))))))))))) = loop_told own turns test body
turns_of p (later gone) room own turns ts h = elim gone [ ]

after_name_of : Case AfterName
after_name_of p here room own turns ts (Trees.token Fits.same
    (Trees.tree _ args (Trees.token Fits.same (Trees.token Fits.same Trees.none)))) name named_so = call_stmt name (name-callee name named_so) args
after_name_of p (later here) room own turns ts (Trees.last tail) name named_so = rooted false name named_so _ tail
after_name_of p (later (later gone)) room own turns ts h name named_so = elim gone [ ]

assign_tail_of : Case AssignTail
assign_tail_of p here room own turns ts (Trees.token Fits.same (Trees.tree _ value (Trees.token Fits.same Trees.none))) place spelled = value place spelled
assign_tail_of p (later here) room own turns ts (Trees.token Fits.same
    (Trees.token (Fits.named name named_so) (Trees.tree _ index (Trees.last tail)))) place spelled =
    stepped place spelled _ (step_told name named_so index) tail
assign_tail_of p (later (later gone)) room own turns ts h place spelled = elim gone [ ]

value_of : Case Value
value_of p here room own turns ts (Trees.token Fits.same (Trees.last value)) place spelled = value place spelled
value_of p (later here) room own turns ts (Trees.last x) place spelled = set_told place spelled x
value_of p (later (later gone)) room own turns ts h place spelled = elim gone [ ]

after_open_of : Case AfterOpen
after_open_of p here room own turns ts (Trees.token Fits.same
    (Trees.tree _ name (Trees.token Fits.same (Trees.token Fits.same (Trees.token Fits.same (Trees.token Fits.same Trees.none))))))
    place spelled = clear_told place spelled name
after_open_of p (later here) room own turns ts (Trees.last x) place spelled = set_told place spelled x
after_open_of p (later (later gone)) room own turns ts h place spelled = elim gone [ ]

result_of : Case Result
result_of p here room own turns ts (Trees.token Fits.same Trees.none) = (CStmtKind-F.Return None, (refl, refl))
result_of p (later here) room own turns ts (Trees.tree _ (x, (i, h)) (Trees.token Fits.same Trees.none)) =
    (CStmtKind-F.Return (Some x), (ap (λ a. codes "return" ∷ (a ++ codes ";" ∷ [])) i, h))
result_of p (later (later gone)) room own turns ts h = elim gone [ ]

expr_of : Case Expr
expr_of p here room own turns ts (Trees.token Fits.same (Trees.last x)) = x
expr_of p (later here) room own turns ts (Trees.last x) = x
expr_of p (later (later gone)) room own turns ts h = elim gone [ ]

simple_of : Case Simple
simple_of p here room own turns ts (Trees.token (Fits.named name named_so) (Trees.last rest)) = rest name named_so
simple_of p (later here) room own turns ts (Trees.token (Fits.among word m)
    (Trees.token Fits.same (Trees.tree _ args (Trees.token Fits.same Trees.none)))) = call_expr (called word (callee_is word m) args)
simple_of p (later (later here)) room own turns ts (Trees.token (Fits.among word m) Trees.none) = kind_from (plain_literal (group_is PlainLiterals word m))
simple_of p (later (later (later here))) room own turns ts (Trees.last k) = kind_from k
simple_of p (later (later (later (later gone)))) room own turns ts h = elim gone [ ]

constant_of : Case Constant
constant_of p here room own turns ts (Trees.token Fits.same
    (Trees.token Fits.same (Trees.token (Fits.counted digits s) (Trees.token Fits.same Trees.none)))) = int_told W8 digits s
constant_of p (later here) room own turns ts (Trees.token Fits.same
    (Trees.token Fits.same (Trees.token (Fits.counted digits s) (Trees.token Fits.same Trees.none)))) = int_told W16 digits s
constant_of p (later (later here)) room own turns ts
    (Trees.token Fits.same (Trees.token Fits.same (Trees.token (Fits.counted digits s) (Trees.token Fits.same Trees.none)))) = int_told W32 digits s
constant_of p (later (later (later here))) room own turns ts
    (Trees.token Fits.same (Trees.token Fits.same (Trees.token (Fits.counted digits s) (Trees.token Fits.same Trees.none)))) = int_told W64 digits s
constant_of p (later (later (later (later here)))) room own turns ts
    (Trees.token Fits.same (Trees.token Fits.same (Trees.token (Fits.counted digits s) (Trees.token Fits.same Trees.none)))) = nat_told W8 digits s
constant_of p (later (later (later (later (later here))))) room own turns ts
    (Trees.token Fits.same (Trees.token Fits.same (Trees.token (Fits.counted digits s) (Trees.token Fits.same Trees.none)))) = nat_told W16 digits s
constant_of p (later (later (later (later (later (later here)))))) room own turns ts
    (Trees.token Fits.same (Trees.token Fits.same (Trees.token (Fits.counted digits s) (Trees.token Fits.same Trees.none)))) = nat_told W32 digits s
constant_of p (later (later (later (later (later (later (later here))))))) room own turns ts
    (Trees.token Fits.same (Trees.token Fits.same (Trees.token (Fits.counted digits s) (Trees.token Fits.same Trees.none)))) = nat_told W64 digits s
constant_of p (later (later (later (later (later (later (later (later gone)))))))) room own turns ts h = elim gone [ ]

inside_of : Case Inside
inside_of p here room own turns ts (Trees.token Fits.same
    (Trees.token (Fits.named name named_so) (Trees.token Fits.same (Trees.last steps)))) = read_expr (place_told true name named_so steps)
inside_of p (later here) room own turns ts (Trees.token Fits.same (Trees.tree _ (x, (i, h)) (Trees.token Fits.same Trees.none))) =
    kind_from (CExprKind-F.Not x, (ap (λ a. codes "(" ∷ codes "!" ∷ (a ++ codes ")" ∷ [])) i, h))
inside_of p (later (later here)) room own turns ts (Trees.token Fits.same (Trees.tree _ k (Trees.token Fits.same Trees.none))) = kind_from k
inside_of p (later (later (later here))) room own turns ts
    (Trees.tree _ x (Trees.token (Fits.among word m) (Trees.tree _ y (Trees.token Fits.same Trees.none)))) =
    two_told x word (operator_is (group_is Operators word m)) y
inside_of p (later (later (later (later gone)))) room own turns ts h = elim gone [ ]

negative_of : Case Negative
negative_of p here room own turns ts (Trees.token Fits.same
    (Trees.token Fits.same (Trees.token (Fits.counted digits s) (Trees.token Fits.same Trees.none)))) = negated_told W8 digits s
negative_of p (later here) room own turns ts (Trees.token Fits.same
    (Trees.token Fits.same (Trees.token (Fits.counted digits s) (Trees.token Fits.same Trees.none)))) = negated_told W16 digits s
negative_of p (later (later here)) room own turns ts
    (Trees.token Fits.same (Trees.token Fits.same (Trees.token (Fits.counted digits s) (Trees.token Fits.same Trees.none)))) = negated_told W32 digits s
negative_of p (later (later (later here))) room own turns ts
    (Trees.token Fits.same (Trees.token Fits.same (Trees.token (Fits.counted digits s) (Trees.token Fits.same Trees.none)))) = negated_told W64 digits s
negative_of p (later (later (later (later gone)))) room own turns ts h = elim gone [ ]

name_use_of : Case NameUse
name_use_of p here room own turns ts (Trees.token Fits.same (Trees.tree _ args (Trees.token Fits.same Trees.none))) name named_so =
    call_expr (called name (name-callee name named_so) args)
name_use_of p (later here) room own turns ts (Trees.token Fits.same
    (Trees.token (Fits.named member h) (Trees.tree _ index (Trees.last steps)))) name named_so =
    read_expr (place_told false name named_so (row_more step_tokens spells_step (step_told member h index) steps))
name_use_of p (later (later here)) room own turns ts Trees.none name named_so = read_expr (place_told false name named_so ([], (refl, refl)))
name_use_of p (later (later (later gone))) room own turns ts h name named_so = elim gone [ ]

steps_of : Case Steps
steps_of p here room own turns ts (Trees.token Fits.same
    (Trees.token (Fits.named name named_so) (Trees.tree _ index (Trees.last steps)))) = row_more step_tokens spells_step (step_told name named_so index) steps
steps_of p (later here) room own turns ts Trees.none = ([], (refl, refl))
steps_of p (later (later gone)) room own turns ts h = elim gone [ ]

index_of : Case Index
index_of p here room own turns ts (Trees.token Fits.same
    (Trees.token (Fits.among word m) (Trees.token Fits.same
    (Trees.tree _ x (Trees.token Fits.same (Trees.token (Fits.counted digits s)
    (Trees.token Fits.same (Trees.token Fits.same Trees.none)))))))) = index_told word (function_is (group_is IndexFunctions word m)) x digits s
index_of p (later here) room own turns ts Trees.none = (None, (refl, refl))
index_of p (later (later gone)) room own turns ts h = elim gone [ ]

args_of : Case Args
args_of p here room own turns ts (Trees.tree _ x (Trees.last xs)) = first_more arg_tokens spells_arg x xs
args_of p (later here) room own turns ts Trees.none = ([], (refl, refl))
args_of p (later (later gone)) room own turns ts h = elim gone [ ]

arg_rest_of : Case ArgRest
arg_rest_of p here room own turns ts (Trees.token Fits.same (Trees.tree _ x (Trees.last xs))) = comma_more arg_tokens spells_arg x xs
arg_rest_of p (later here) room own turns ts Trees.none = ([], (refl, refl))
arg_rest_of p (later (later gone)) room own turns ts h = elim gone [ ]

arg_of : Case Arg
arg_of p here room own turns ts (Trees.token Fits.same (Trees.last (place, (i, h)))) = arg_from (CArg-F.Address place, (ap (λ b. codes "&" ∷ b) i, h))
arg_of p (later here) room own turns ts (Trees.last (x, (i, h))) = arg_from (CArg-F.Value x, (i, h))
arg_of p (later (later gone)) room own turns ts h = elim gone [ ]

place_of : Case Place
place_of p here room own turns ts (Trees.token (Fits.named name named_so) (Trees.last steps)) = place_told false name named_so steps
place_of p (later here) room own turns ts (Trees.token Fits.same
    (Trees.token Fits.same (Trees.token (Fits.named name named_so) (Trees.token Fits.same (Trees.last steps))))) = place_told true name named_so steps
place_of p (later (later gone)) room own turns ts h = elim gone [ ]

tree_of : (of : Part) → Case of
tree_of File p one room own turns ts h = file_of p one room own turns ts h
tree_of Structs p one room own turns ts h = structs_of p one room own turns ts h
tree_of Struct p one room own turns ts h = struct_of p one room own turns ts h
tree_of StructName p one room own turns ts h = struct_name_of p one room own turns ts h
tree_of Members p one room own turns ts h = members_of p one room own turns ts h
tree_of Member p one room own turns ts h = member_of p one room own turns ts h
tree_of TypeName p one room own turns ts h = type_name_of p one room own turns ts h
tree_of Length p one room own turns ts h = length_of p one room own turns ts h
tree_of Funcs p one room own turns ts h = funcs_of p one room own turns ts h
tree_of Func p one room own turns ts h = func_of p one room own turns ts h
tree_of PlainFunc p one room own turns ts h = plain_func_of p one room own turns ts h
tree_of FuncRest p one room own turns ts h = func_rest_of p one room own turns ts h
tree_of FuncName p one room own turns ts h = func_name_of p one room own turns ts h
tree_of Params p one room own turns ts h = params_of p one room own turns ts h
tree_of ParamRest p one room own turns ts h = param_rest_of p one room own turns ts h
tree_of Param p one room own turns ts h = param_of p one room own turns ts h
tree_of Star p one room own turns ts h = star_of p one room own turns ts h
tree_of Locals p one room own turns ts h = locals_of p one room own turns ts h
tree_of Local p one room own turns ts h = local_of p one room own turns ts h
tree_of Stmts p one room own turns ts h = stmts_of p one room own turns ts h
tree_of Stmt p one room own turns ts h = stmt_of p one room own turns ts h
tree_of Else p one room own turns ts h = else_of p one room own turns ts h
tree_of Turns p one room own turns ts h = turns_of p one room own turns ts h
tree_of AfterName p one room own turns ts h = after_name_of p one room own turns ts h
tree_of AssignTail p one room own turns ts h = assign_tail_of p one room own turns ts h
tree_of Value p one room own turns ts h = value_of p one room own turns ts h
tree_of AfterOpen p one room own turns ts h = after_open_of p one room own turns ts h
tree_of Result p one room own turns ts h = result_of p one room own turns ts h
tree_of Expr p one room own turns ts h = expr_of p one room own turns ts h
tree_of Simple p one room own turns ts h = simple_of p one room own turns ts h
tree_of Constant p one room own turns ts h = constant_of p one room own turns ts h
tree_of Inside p one room own turns ts h = inside_of p one room own turns ts h
tree_of Negative p one room own turns ts h = negative_of p one room own turns ts h
tree_of NameUse p one room own turns ts h = name_use_of p one room own turns ts h
tree_of Steps p one room own turns ts h = steps_of p one room own turns ts h
tree_of Index p one room own turns ts h = index_of p one room own turns ts h
tree_of Args p one room own turns ts h = args_of p one room own turns ts h
tree_of ArgRest p one room own turns ts h = arg_rest_of p one room own turns ts h
tree_of Arg p one room own turns ts h = arg_of p one room own turns ts h
tree_of Place p one room own turns ts h = place_of p one room own turns ts h

built : (whole : Roomed) (next : Option Token) (wanted : List Wanted) → Produces whole next wanted → (ts : List Token) →
    Trees wanted ts → Tree whole.part ts
built whole next wanted made ts h = tree_of whole.part made.production made.is_one whole.room made.name made.is_turn ts (subst (λ w. Trees w ts) made.made h)

nothing : {ts : List Token} → Trees [] ts → ts ≡ []
nothing Trees.none = refl

put : (whole : Roomed) (wanted : List Wanted) (a b : List Token) → Tree whole.part a → Trees wanted b → Trees (Nonterminal whole ∷ wanted) (a ++ b)
put whole [] a b h r = Trees.last (subst (λ ts. Tree whole.part ts) (sym (append-nil a) ∙ ap (λ b. a ++ b) (sym (nothing r))) h)
put whole (next ∷ wanted) a b h r = Trees.tree a h r

-- what is derived are such tokens, before those that are left
pub trees : {wanted : List Wanted} {pieces left : List Token} → CDerives wanted pieces left →
    (ts : List Token) × ((pieces ≡ ts ++ left) × Trees wanted ts)
trees done = ([], (refl, Trees.none))
trees (terminal {class = class} {token = t} m r) = let h = trees r in (t ∷ h.0, (ap (λ us. t ∷ us) h.1.0, Trees.token (fits class t m) h.1.1))
trees (part {A = whole} {production = production} {symbols = wanted} {left = left} made inner r) =
    let h = trees inner in
    let k = trees r in (
      h.0 ++ k.0,
      (
        h.1.0 ∙ (ap (λ us. h.0 ++ us) k.1.0 ∙ sym (append_assoc h.0 k.0 left)),
        put whole wanted h.0 k.0 (built whole _ production made h.0 h.1.1) k.1.1,
      ),
    )

whole_tree : {whole : Roomed} {ts : List Token} → Trees (Nonterminal whole ∷ []) ts → Tree whole.part ts
whole_tree (Trees.last h) = h

-- what a part derives up to the end
pub tree_there : (whole : Roomed) (pieces : List Token) → CDerives (Nonterminal whole ∷ []) pieces [] → Tree whole.part pieces
tree_there whole pieces d = let h = trees d in subst (λ ts. Tree whole.part ts) (sym (h.1.0 ∙ append-nil h.0)) (whole_tree h.1.1)
