-- Expressions that are read in part: those in brackets that are still open.
use Rattle.std.specs.Prelude.{ℕ, Bool, true, ◌&&◌, List, [], ◌∷◌, ◌++◌, map, codes}
use Rattle.bl_tree.specs.Reduce.{all_of, joined}
use Rattle.bl_tree.specs.declared.c.CArg.{CArg}
use Rattle.bl_ctext.specs.Token.{Token}
use Rattle.bl_ctext.specs.Names.{is_name, is_callee}
use Rattle.bl_ctext.specs.Spelling.{with_commas, operator_sign, index_front, root_tokens, expr_tokens, step_tokens, arg_tokens}
use Rattle.bl_ctext.specs.Spellable.{is_c_operator, spells_expr, spells_step, spells_arg}
use Rattle.bl_cparse.specs.declared.parser.expr.CallFront.{CallFront}
use Rattle.bl_cparse.specs.declared.parser.expr.PlaceFront.{PlaceFront}
use Rattle.bl_cparse.specs.declared.parser.expr.Use.{Use}
use Rattle.bl_cparse.specs.declared.parser.expr.Use.TheVariants.{Value, Address}
use Rattle.bl_cparse.specs.declared.parser.expr.Held.{Held}
use Rattle.bl_cparse.specs.declared.parser.expr.Held.TheVariants as held
use Rattle.bl_cparse.specs.declared.parser.expr.Next.{Next}
use Rattle.bl_cparse.specs.declared.parser.expr.Next.TheVariants as next
use Rattle.bl_cparse.specs.declared.parser.expr.Partial.{Partial}

-- the arguments before another one, each with its comma
abbrev pub args_before : List CArg → List Token
args_before [] = []
args_before (arg ∷ args) = with_commas (map arg_tokens (arg ∷ args)) ++ codes "," ∷ []

-- a call up to one of its arguments
abbrev pub called_front : CallFront → List Token
called_front c = c.name ∷ codes "(" ∷ args_before c.args

-- whether the name and the arguments that are read of a call have a spelling
abbrev pub spells_called : CallFront → Bool
spells_called c = is_callee c.name && all_of (map spells_arg c.args)

-- a place up to one of its steps
abbrev pub place_front : PlaceFront → List Token
place_front p = root_tokens p.through p.name ++ joined (map step_tokens p.steps)

-- whether what is read of a place has a spelling
abbrev pub spells_root : PlaceFront → Bool
spells_root p = is_name p.name && all_of (map spells_step p.steps)

-- what stands before a place
abbrev pub use_tokens : Use → List Token
use_tokens Value = []
use_tokens (Address call) = called_front call ++ codes "&" ∷ []

-- whether what stands before a place has a spelling
abbrev pub spells_use : Use → Bool
spells_use Value = true
spells_use (Address call) = spells_called call

-- the front of what holds an expression, up to that expression
abbrev pub held_tokens : Held → List Token
held_tokens held.Negation = codes "(" ∷ codes "!" ∷ []
held_tokens (held.First room) = codes "(" ∷ []
held_tokens (held.Second left o) = codes "(" ∷ (expr_tokens left ++ operator_sign o ∷ [])
held_tokens (held.Argument call) = called_front call
held_tokens (held.Index i) = (use_tokens i.of ++ place_front i.place) ++ codes "." ∷ i.member ∷ index_front i.signed

-- whether what is read of the part around an expression has a spelling
abbrev pub spells_held : Held → Bool
spells_held held.Negation = true
spells_held (held.First room) = true
spells_held (held.Second left o) = is_c_operator o && spells_expr left
spells_held (held.Argument call) = spells_called call
spells_held (held.Index i) = spells_use i.of && (spells_root i.place && is_name i.member)

-- what is read behind the innermost open bracket
abbrev pub next_tokens : Next → List Token
next_tokens (next.Wanted room) = []
next_tokens (next.Argument call) = called_front call
next_tokens (next.Place of place) = use_tokens of ++ place_front place
next_tokens (next.Whole e) = expr_tokens e

-- whether what is read behind the innermost open bracket has a spelling
abbrev pub spells_next : Next → Bool
spells_next (next.Wanted room) = true
spells_next (next.Argument call) = spells_called call
spells_next (next.Place of place) = spells_use of && spells_root place
spells_next (next.Whole e) = spells_expr e

-- what is read before the innermost expression that isn't whole
abbrev pub on_stack : List Held → List Token
on_stack outer = joined (map held_tokens outer)

-- all that is read of an expression
abbrev pub partial_tokens : Partial → List Token
partial_tokens p = on_stack p.outer.items ++ next_tokens p.next

-- whether all that is read of an expression has a spelling
abbrev pub spells_partial : Partial → Bool
spells_partial p = all_of (map spells_held p.outer.items) && spells_next p.next

-- how many parts can be told without reading a token
abbrev pub work_left : Next → ℕ
work_left (next.Wanted room) = 0
work_left (next.Argument call) = 1
work_left (next.Place of place) = 1
work_left (next.Whole e) = 0
