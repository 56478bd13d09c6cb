-- What never follows a part of the grammar, and how deep its productions go: by these one piece is seen to decide.
use Rattle.std.proofs.Common.{ℕ, zero, suc, ◌+◌, Bool, true, cond, ◌&&◌, List, [], ◌∷◌, ◌++◌, max}
use Rattle.std.specs.Prelude.{nat_lt, nat_le, codes}
use Rattle.bl_grammar.specs.declared.symbol.Symbol.TheVariants.{Terminal, Nonterminal}
use Rattle.bl_cparse_syntax.specs.declared.grammar.Group.TheVariants.{ScalarTypes, PlainLiterals, PreludeFunctions}
use Rattle.bl_cparse_syntax.specs.declared.grammar.Part.{Part}
use Rattle.bl_cparse_syntax.specs.declared.grammar.Part.TheVariants.{File, Structs, Struct, Members, Member, Length, Funcs, Func, PlainFunc, FuncRest, Params}
use Rattle.bl_cparse_syntax.specs.declared.grammar.Part.TheVariants.{ParamRest, Param, Star, Locals, Stmts, Stmt, Else, Turns, AfterName, AssignTail, Value}
use Rattle.bl_cparse_syntax.specs.declared.grammar.Part.TheVariants.{AfterOpen, Expr, Simple, Inside, NameUse, Steps, Index, Args, ArgRest, Arg, Place}
use Rattle.bl_cparse_syntax.specs.Classes.{Class}
use Rattle.bl_cparse_syntax.specs.Classes.Class.{exactly, one_of, a_name}
use Rattle.bl_cparse_syntax.specs.Grammar.{Shape, Production, needing_none, productions}

-- the classes that a function begins with
abbrev pub function_starts : List Class
function_starts = exactly (codes "static") ∷ exactly (codes "void") ∷ one_of ScalarTypes ∷ []

-- the classes that a type begins with
abbrev pub type_starts : List Class
type_starts = one_of ScalarTypes ∷ exactly (codes "struct") ∷ []

-- the classes that a statement begins with
abbrev pub statement_starts : List Class
statement_starts =
    a_name ∷ one_of PreludeFunctions ∷ exactly (codes "(") ∷ exactly (codes "if") ∷ exactly (codes "{") ∷ exactly (codes "break")
    ∷ exactly (codes "return") ∷ []

-- the classes that a constant begins with
abbrev pub constant_starts : List Class
constant_starts =
    exactly (codes "INT8_C") ∷ exactly (codes "INT16_C") ∷ exactly (codes "INT32_C") ∷ exactly (codes "INT64_C") ∷
    exactly (codes "UINT8_C") ∷ exactly (codes "UINT16_C") ∷ exactly (codes "UINT32_C") ∷ exactly (codes "UINT64_C") ∷ []

-- the classes that an argument begins with, but for `(`
abbrev pub argument_starts : List Class
argument_starts = exactly (codes "&") ∷ a_name ∷ one_of PreludeFunctions ∷ one_of PlainLiterals ∷ constant_starts

-- the classes that continue a place
abbrev pub after_place : List Class
after_place = exactly (codes ".") ∷ exactly (codes "[") ∷ []

-- the classes that continue an expression
abbrev pub after_expression : List Class
after_expression = exactly (codes "(") ∷ after_place

-- the classes that never follow a part, since they would go on with it or with what it ends with
unfoldable pub avoided : Part → List Class
avoided File = function_starts
avoided Structs = exactly (codes "struct") ∷ []
avoided Members = type_starts
avoided Length = exactly (codes "[") ∷ []
avoided Funcs = function_starts
avoided Params = exactly (codes ",") ∷ type_starts
avoided ParamRest = exactly (codes ",") ∷ []
avoided Star = exactly (codes "*") ∷ []
avoided Locals = type_starts
avoided Stmts = exactly (codes "else") ∷ statement_starts
avoided Stmt = exactly (codes "else") ∷ []
avoided Else = exactly (codes "else") ∷ []
avoided Value = after_expression
avoided AfterOpen = after_place
avoided Expr = after_expression
avoided Simple = after_expression
avoided Inside = after_place
avoided NameUse = after_expression
avoided Steps = after_place
avoided Index = exactly (codes "[") ∷ []
avoided Args = exactly (codes ",") ∷ argument_starts ++ after_expression
avoided ArgRest = exactly (codes ",") ∷ after_expression
avoided Arg = after_expression
avoided Place = after_place
avoided _ = []

-- how many productions in turn a part needs at least to come to classes alone
unfoldable pub height : Part → ℕ
height File = 4
height Struct = 2
height Member = 1
height Func = 3
height PlainFunc = 2
height FuncRest = 1
height Param = 1
height Turns = 2
height AfterName = 3
height AssignTail = 2
height Value = 1
height AfterOpen = 1
height Expr = 1
height Inside = 1
height Arg = 2
height Place = 1
height _ = 0

-- the greatest number of productions in turn that begin a production, where those of the parts are known
abbrev pub leading_productions : (Part → ℕ) → List Shape → ℕ
leading_productions known [] = 1
leading_productions known (Terminal class ∷ rest) = 1
leading_productions known (Nonterminal within ∷ rest) = known within.part + 1

-- the depth of a part with these productions, where the depths of parts are known so far
abbrev pub depth_of : (Part → ℕ) → List Production → ℕ
depth_of known [] = 1
depth_of known (production ∷ others) = max (leading_productions known production.shapes) (depth_of known others)

-- the depth of a part, as far as n steps through its productions show it
abbrev pub depth_within : ℕ → Part → ℕ
depth_within zero part = 1
depth_within (suc n) part = depth_of (depth_within n) (productions part)

-- how many productions in turn begin a part before a piece is read
unfoldable pub depth : Part → ℕ
depth part = depth_within 8 part

-- the parts have less height
abbrev pub are_lower : ℕ → List Shape → Bool
are_lower high [] = true
are_lower high (Terminal class ∷ rest) = are_lower high rest
are_lower high (Nonterminal within ∷ rest) = nat_lt (height within.part) high && are_lower high rest

-- the production needs no room, and its parts have less height
abbrev pub is_lower : ℕ → Production → Bool
is_lower high production = nat_le production.needs 0 && are_lower high production.shapes

-- the first production that needs no room and whose parts have less height
abbrev pub lower_of : ℕ → List Production → Production
lower_of high [] = needing_none []
lower_of high (production ∷ others) = cond (is_lower high production) production (lower_of high others)
