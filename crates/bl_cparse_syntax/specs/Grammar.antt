-- The grammar of C texts over their pieces (docs/C_SUBSET.md, "Grammar"), with common beginnings joined. Each part knows how
-- many brackets may still be opened in it.
use Rattle.std.specs.Prelude.{◌≡◌, ℕ, ◌-◌, ◌≤◌, true, List, [], ◌∷◌, map, Option, codes}
use Rattle.bl_tree.specs.declared.scalar.Width.TheVariants.{W8, W16, W32, W64}
use Rattle.bl_ctext.specs.Token.{Token}
use Rattle.bl_ctext.specs.Names.{is_turn_name}
use Rattle.bl_grammar.specs.declared.symbol.Symbol.{Symbol}
use Rattle.bl_grammar.specs.declared.symbol.Symbol.TheVariants.{Terminal, Nonterminal}
use Rattle.bl_grammar.specs.Derivations
use Rattle.bl_cparse_syntax.specs.declared.grammar.Group.TheVariants.{ScalarTypes, PlainLiterals, Operators, IndexFunctions, StructWords, FunctionWords}
use Rattle.bl_cparse_syntax.specs.declared.grammar.Group.TheVariants.{PreludeFunctions}
use Rattle.bl_cparse_syntax.specs.declared.grammar.Digits.{Digits}
use Rattle.bl_cparse_syntax.specs.declared.grammar.Digits.TheVariants.{Elements, Int, Negated, Unsigned}
use Rattle.bl_cparse_syntax.specs.declared.grammar.Part.{Part}
use Rattle.bl_cparse_syntax.specs.declared.grammar.Part.TheVariants.{File, Structs, Struct, StructName, Members, Member, TypeName, Length, Funcs, Func}
use Rattle.bl_cparse_syntax.specs.declared.grammar.Part.TheVariants.{PlainFunc, FuncRest, FuncName, Params, ParamRest, Param, Star, Locals, Local, Stmts, Stmt}
use Rattle.bl_cparse_syntax.specs.declared.grammar.Part.TheVariants.{Else, Turns, AfterName, AssignTail, Value, AfterOpen, Result, Expr, Simple, Constant}
use Rattle.bl_cparse_syntax.specs.declared.grammar.Part.TheVariants.{Inside, Negative, NameUse, Steps, Index, Args, ArgRest, Arg, Place}
use Rattle.bl_cparse_syntax.specs.declared.grammar.Within.{Within}
use Rattle.bl_cparse_syntax.specs.declared.grammar.Roomed.{Roomed}
use Rattle.bl_cparse_syntax.specs.Classes.{Class, matches}
use Rattle.bl_cparse_syntax.specs.Classes.Class.{exactly, one_of, a_name, number, turn}

-- one class or part of a production
abbrev pub Shape : Type 0
Shape = Symbol Class Within

-- a class or part of what a text must go on with
abbrev pub Wanted : Type 0
Wanted = Symbol Class Roomed

-- the symbol of a word or sign
abbrev pub word : Token → Shape
word bytes = Terminal (exactly bytes)

-- the symbol of any name
abbrev pub name : Shape
name = Terminal a_name

-- the symbol of digits
abbrev pub digits : Digits → Shape
digits of = Terminal (number of)

-- the name of a loop's turns: one name at all of its places in a production
abbrev pub turn_name : Shape
turn_name = Terminal turn

-- a part that stands in no bracket of the production
abbrev pub the : Part → Shape
the part = Nonterminal (record { part = part; around = 0 })

-- a part that stands in so many of its brackets
abbrev pub within_brackets : ℕ → Part → Shape
within_brackets around part = Nonterminal (record { part = part; around = around })

-- a production of a part, and how many brackets must still be allowed so that it and its parts can be completed
pub record Production : Type 0 where
  pub needs : ℕ
  pub shapes : List Shape

-- a production that needs no open bracket
abbrev pub needing_none : List Shape → Production
needing_none shapes = record { needs = 0; shapes = shapes }

-- a production that needs room for so many open brackets
abbrev pub needing : ℕ → List Shape → Production
needing needs shapes = record { needs = needs; shapes = shapes }

-- the symbols of a constant: its word, and its digits in parentheses
abbrev pub constant : Token → Digits → List Shape
constant bytes of = word bytes ∷ word (codes "(") ∷ digits of ∷ word (codes ")") ∷ []

-- the symbols of a loop behind its brace and the type of its turns. Two of its brackets are open around its condition and its statements
abbrev pub loop_shapes : List Shape
loop_shapes =
    turn_name ∷ word (codes "=") ∷ word (codes "0") ∷ word (codes ";") ∷ word (codes "while") ∷ word (codes "(") ∷ within_brackets 2 Expr
    ∷ word (codes ")") ∷
    word (codes "{") ∷ turn_name ∷ word (codes "=") ∷ word (codes "bl_turn") ∷ word (codes "(") ∷ turn_name ∷ word (codes ")")
    ∷ word (codes ";") ∷
    within_brackets 2 Stmts ∷ word (codes "}") ∷ word (codes "}") ∷ []

-- the productions of each part; `needing_none []` says that the part may be absent
abbrev pub productions : Part → List Production
productions File = needing_none (the Struct ∷ the Structs ∷ the Func ∷ the Funcs ∷ []) ∷ []
productions Structs = needing_none (the Struct ∷ the Structs ∷ []) ∷ needing_none [] ∷ []
productions Struct = needing_none (word (codes "struct") ∷ the StructName ∷ word (codes "{") ∷ within_brackets 1 Member ∷ within_brackets 1 Members
    ∷ word (codes "}") ∷ word (codes ";") ∷ []) ∷ []
productions StructName = needing_none (name ∷ []) ∷ needing_none (Terminal (one_of StructWords) ∷ []) ∷ []
productions Members = needing_none (the Member ∷ the Members ∷ []) ∷ needing_none [] ∷ []
productions Member = needing_none (the TypeName ∷ name ∷ the Length ∷ word (codes ";") ∷ []) ∷ []
productions TypeName = needing_none (Terminal (one_of ScalarTypes) ∷ []) ∷ needing_none (word (codes "struct") ∷ the StructName ∷ []) ∷ []
productions Length = needing_none (word (codes "[") ∷ digits Elements ∷ word (codes "]") ∷ []) ∷ needing_none [] ∷ []
productions Funcs = needing_none (the Func ∷ the Funcs ∷ []) ∷ needing_none [] ∷ []
productions Func = needing_none (word (codes "static") ∷ the PlainFunc ∷ []) ∷ needing_none (the PlainFunc ∷ []) ∷ []
productions PlainFunc = needing_none (word (codes "void") ∷ the FuncRest ∷ []) ∷ needing_none (Terminal (one_of ScalarTypes) ∷ the FuncRest ∷ []) ∷ []
productions FuncRest =
    needing_none (the FuncName ∷ word (codes "(") ∷ within_brackets 1 Params ∷ word (codes ")") ∷ word (codes "{") ∷ within_brackets 1 Locals
    ∷ within_brackets 1 Stmts ∷ word (codes "}") ∷ []) ∷ []
productions FuncName = needing_none (name ∷ []) ∷ needing_none (Terminal (one_of FunctionWords) ∷ []) ∷ []
productions Params = needing_none (the Param ∷ the ParamRest ∷ []) ∷ needing_none [] ∷ []
productions ParamRest = needing_none (word (codes ",") ∷ the Param ∷ the ParamRest ∷ []) ∷ needing_none [] ∷ []
productions Param = needing_none (the TypeName ∷ the Star ∷ name ∷ []) ∷ []
productions Star = needing_none (word (codes "*") ∷ []) ∷ needing_none [] ∷ []
productions Locals = needing_none (the Local ∷ the Locals ∷ []) ∷ needing_none [] ∷ []
productions Local =
    needing_none (Terminal (one_of ScalarTypes) ∷ name ∷ word (codes "=") ∷ word (codes "0") ∷ word (codes ";") ∷ []) ∷
    needing_none (word (codes "struct") ∷ the StructName ∷ name ∷ word (codes "=") ∷ word (codes "{") ∷ word (codes "0") ∷ word (codes "}")
    ∷ word (codes ";") ∷ []) ∷ []
productions Stmts = needing_none (the Stmt ∷ the Stmts ∷ []) ∷ needing_none [] ∷ []
productions Stmt =
    needing_none (name ∷ the AfterName ∷ []) ∷
    needing 1 (Terminal (one_of PreludeFunctions) ∷ word (codes "(") ∷ within_brackets 1 Args ∷ word (codes ")") ∷ word (codes ";") ∷ []) ∷
    needing 1 (word (codes "(") ∷ word (codes "*") ∷ name ∷ word (codes ")") ∷ the AssignTail ∷ []) ∷
    needing 1 (word (codes "if") ∷ word (codes "(") ∷ within_brackets 1 Expr ∷ word (codes ")") ∷ word (codes "{") ∷ within_brackets 1 Stmts
    ∷ word (codes "}") ∷ the Else ∷ []) ∷
    needing 3 (word (codes "{") ∷ word (codes "uint32_t") ∷ the Turns ∷ []) ∷
    needing_none (word (codes "break") ∷ word (codes ";") ∷ []) ∷
    needing_none (word (codes "return") ∷ the Result ∷ []) ∷ []
productions Else = needing_none (word (codes "else") ∷ word (codes "{") ∷ within_brackets 1 Stmts ∷ word (codes "}") ∷ []) ∷ needing_none [] ∷ []
productions Turns = needing_none loop_shapes ∷ []
productions AfterName =
    needing 1 (word (codes "(") ∷ within_brackets 1 Args ∷ word (codes ")") ∷ word (codes ";") ∷ []) ∷
    needing_none (the AssignTail ∷ []) ∷ []
productions AssignTail =
    needing_none (word (codes "=") ∷ the Value ∷ word (codes ";") ∷ []) ∷
    needing_none (word (codes ".") ∷ name ∷ the Index ∷ the AssignTail ∷ []) ∷ []
productions Value = needing 1 (word (codes "(") ∷ the AfterOpen ∷ []) ∷ needing_none (the Simple ∷ []) ∷ []
productions AfterOpen =
    needing_none (word (codes "struct") ∷ the StructName ∷ word (codes ")") ∷ word (codes "{") ∷ word (codes "0") ∷ word (codes "}") ∷ []) ∷
    needing_none (the Inside ∷ []) ∷ []
productions Result = needing_none (word (codes ";") ∷ []) ∷ needing_none (the Expr ∷ word (codes ";") ∷ []) ∷ []
productions Expr = needing 1 (word (codes "(") ∷ the Inside ∷ []) ∷ needing_none (the Simple ∷ []) ∷ []
productions Simple =
    needing_none (name ∷ the NameUse ∷ []) ∷
    needing 1 (Terminal (one_of PreludeFunctions) ∷ word (codes "(") ∷ within_brackets 1 Args ∷ word (codes ")") ∷ []) ∷
    needing_none (Terminal (one_of PlainLiterals) ∷ []) ∷
    needing 1 (the Constant ∷ []) ∷ []
productions Constant =
    needing_none (constant (codes "INT8_C") (Int W8)) ∷ needing_none (constant (codes "INT16_C") (Int W16))
    ∷ needing_none (constant (codes "INT32_C") (Int W32)) ∷ needing_none (constant (codes "INT64_C") (Int W64)) ∷
    needing_none (constant (codes "UINT8_C") (Unsigned W8)) ∷ needing_none (constant (codes "UINT16_C") (Unsigned W16))
    ∷ needing_none (constant (codes "UINT32_C") (Unsigned W32)) ∷ needing_none (constant (codes "UINT64_C") (Unsigned W64)) ∷ []
-- an expression behind its parenthesis, which is the first of its brackets
productions Inside =
    needing_none (word (codes "*") ∷ name ∷ word (codes ")") ∷ the Steps ∷ []) ∷
    needing_none (word (codes "!") ∷ within_brackets 1 Expr ∷ word (codes ")") ∷ []) ∷
    needing 2 (word (codes "-") ∷ the Negative ∷ word (codes ")") ∷ []) ∷
    needing_none (within_brackets 1 Expr ∷ Terminal (one_of Operators) ∷ within_brackets 1 Expr ∷ word (codes ")") ∷ []) ∷ []
productions Negative =
    needing_none (constant (codes "INT8_C") (Negated W8)) ∷ needing_none (constant (codes "INT16_C") (Negated W16))
    ∷ needing_none (constant (codes "INT32_C") (Negated W32)) ∷ needing_none (constant (codes "INT64_C") (Negated W64)) ∷ []
productions NameUse =
    needing 1 (word (codes "(") ∷ within_brackets 1 Args ∷ word (codes ")") ∷ []) ∷
    needing_none (word (codes ".") ∷ name ∷ the Index ∷ the Steps ∷ []) ∷
    needing_none [] ∷ []
productions Steps = needing_none (word (codes ".") ∷ name ∷ the Index ∷ the Steps ∷ []) ∷ needing_none [] ∷ []
productions Index =
    needing 2 (word (codes "[") ∷ Terminal (one_of IndexFunctions) ∷ word (codes "(") ∷ within_brackets 2 Expr ∷ word (codes ",")
    ∷ digits Elements ∷ word (codes ")") ∷ word (codes "]") ∷ []) ∷
    needing_none [] ∷ []
productions Args = needing_none (the Arg ∷ the ArgRest ∷ []) ∷ needing_none [] ∷ []
productions ArgRest = needing_none (word (codes ",") ∷ the Arg ∷ the ArgRest ∷ []) ∷ needing_none [] ∷ []
productions Arg = needing_none (word (codes "&") ∷ the Place ∷ []) ∷ needing_none (the Expr ∷ []) ∷ []
productions Place = needing_none (name ∷ the Steps ∷ []) ∷ needing 1
    (word (codes "(") ∷ word (codes "*") ∷ name ∷ word (codes ")") ∷ the Steps ∷ []) ∷ []

-- the class, with the name of the loop's turns for the class of such names
abbrev pub with_turn_name : Token → Class → Class
with_turn_name own turn = exactly own
with_turn_name own (exactly bytes) = exactly bytes
with_turn_name own (one_of group) = one_of group
with_turn_name own a_name = a_name
with_turn_name own (number of) = number of

-- the symbol of a production's shape, with the brackets that may still be opened and the name of the loop's turns
abbrev pub wanted_for : ℕ → Token → Shape → Wanted
wanted_for room own (Terminal class) = Terminal (with_turn_name own class)
wanted_for room own (Nonterminal within) = Nonterminal (record { part = within.part; room = room - within.around })

-- the production is in the list
pub data IsAmong (production : Production) : List Production → Type 0 where
  here : {others : List Production} → IsAmong production (production ∷ others)
  later : {other : Production} {others : List Production} → IsAmong production others → IsAmong production (other ∷ others)

-- the part derives these classes and parts
pub record Produces (whole : Roomed) (next : Option Token) (wanted : List Wanted) : Type 0 where
  pub production : Production
  pub is_one : IsAmong production (productions whole.part)
  pub has_room : production.needs ≤ whole.room
  pub name : Token
  pub is_turn : is_turn_name name ≡ true
  pub made : wanted ≡ map (wanted_for whole.room name) production.shapes

-- the classes and parts derive the pieces up to those that are left
abbrev pub CDerives : List Wanted → List Token → List Token → Type 0
CDerives wanted pieces left = Derivations.Derives Produces matches wanted pieces left

-- how many brackets may be open at once
abbrev pub most_open : ℕ
most_open = 2000

-- a whole text, behind its prelude
abbrev pub whole_text : Wanted
whole_text = Nonterminal (record { part = File; room = most_open })

-- the pieces spell a text of the subset
abbrev pub SpellText : List Token → Type 0
SpellText pieces = CDerives (whole_text ∷ []) pieces []
