-- What may follow in the text of a face: the state after each token.
use Rattle.std.specs.Prelude.{Bool, true, false, Option, Some, None}
use Rattle.bl_face.specs.declared.class.Mark.{Mark}
use Rattle.bl_face.specs.declared.class.Mark.TheVariants as mark
use Rattle.bl_face.specs.declared.state.Slot.{Slot}
use Rattle.bl_face.specs.declared.state.Slot.TheVariants.{Field, Input, Output}
use Rattle.bl_face.specs.declared.state.State.{State}
use Rattle.bl_face.specs.declared.state.State.TheVariants as at
use Rattle.bl_face.specs.Lexemes.{Lexeme}
use Rattle.bl_face.specs.Lexemes.Lexeme.{named, marked}

-- ---- behind a name

-- a parameter's name stands first in a list; a struct's fields begin with `var`
abbrev pub named_first : Slot → Option State
named_first Field = None
named_first Input = Some (at.PartName Input)
named_first Output = Some (at.PartName Output)

-- the state behind a name
abbrev pub next_name : State → Option State
next_name at.Struct = Some (at.First Field)
next_name at.Unit = Some (at.Params Input)
next_name (at.First slot) = named_first slot
next_name (at.Part slot) = Some (at.PartName slot)
next_name (at.Type slot) = Some (at.TypeEnd slot)
next_name at.Const = Some at.ConstName
next_name _ = None

-- ---- behind another token

-- an item begins
abbrev pub item_begun : Mark → Option State
item_begun mark.Struct = Some at.Struct
item_begun (mark.Unit kind) = Some at.Unit
item_begun mark.Const = Some at.Const
item_begun _ = None

-- the parenthesis that opens a list of parameters
abbrev pub list_opened : Slot → Mark → Option State
list_opened slot mark.OpenParen = Some (at.First slot)
list_opened slot _ = None

-- the first `var` of a struct
abbrev pub first_field : Mark → Option State
first_field mark.Var = Some (at.Part Field)
first_field _ = None

-- the outputs follow the inputs, and a result may follow the outputs
abbrev pub behind_params : Slot → State
behind_params Input = at.Params Output
behind_params Field = at.Outputs
behind_params Output = at.Outputs

-- the parenthesis that closes a list of parameters
abbrev pub closed : Slot → Mark → Option State
closed slot mark.CloseParen = Some (behind_params slot)
closed slot _ = None

-- a first field, or no parameter
abbrev pub first : Slot → Mark → Option State
first Field mark = first_field mark
first Input mark = closed Input mark
first Output mark = closed Output mark

-- the colon behind the name of a field or parameter
abbrev pub colon : Slot → Mark → Option State
colon slot mark.Colon = Some (at.Type slot)
colon slot _ = None

-- a scalar type, or the bracket before a length
abbrev pub in_type : Slot → Mark → Option State
in_type slot (mark.Scalar of) = Some (at.TypeEnd slot)
in_type slot mark.OpenBracket = Some (at.Length slot)
in_type slot _ = None

-- the length of an array
abbrev pub length : Slot → Mark → Option State
length slot (mark.Number n) = Some (at.LengthEnd slot)
length slot _ = None

-- the bracket behind a length
abbrev pub length_end : Slot → Mark → Option State
length_end slot mark.CloseBracket = Some (at.Type slot)
length_end slot _ = None

-- another field, or the end of a struct
abbrev pub behind_field : Mark → Option State
behind_field mark.Var = Some (at.Part Field)
behind_field mark.End = Some at.Items
behind_field _ = None

-- a comma before another parameter, or the end of the list
abbrev pub behind_param : Slot → Mark → Option State
behind_param slot mark.Comma = Some (at.Part slot)
behind_param slot mark = closed slot mark

-- what follows the type of a field or parameter
abbrev pub type_end : Slot → Mark → Option State
type_end Field mark = behind_field mark
type_end Input mark = behind_param Input mark
type_end Output mark = behind_param Output mark

-- a result, or the next item
abbrev pub behind_outputs : Mark → Option State
behind_outputs mark.Returns = Some at.Returns
behind_outputs mark = item_begun mark

-- a scalar type
abbrev pub scalar_typed : State → Mark → Option State
scalar_typed behind (mark.Scalar of) = Some behind
scalar_typed behind _ = None

-- the colon behind the name of a constant
abbrev pub const_colon : Mark → Option State
const_colon mark.Colon = Some at.ConstType
const_colon _ = None

-- the sign before the value of a constant
abbrev pub assign : Mark → Option State
assign mark.Assign = Some at.Value
assign _ = None

-- the value of a constant, or its minus
abbrev pub value : Mark → Option State
value (mark.Truth truth) = Some at.Items
value (mark.Number n) = Some at.Items
value mark.Minus = Some at.Minus
value _ = None

-- the number behind a minus
abbrev pub magnitude : Mark → Option State
magnitude (mark.Number n) = Some at.Items
magnitude _ = None

-- the state behind a token that is no name
abbrev pub next_mark : State → Mark → Option State
next_mark at.Items mark = item_begun mark
next_mark (at.Params slot) mark = list_opened slot mark
next_mark (at.First slot) mark = first slot mark
next_mark (at.PartName slot) mark = colon slot mark
next_mark (at.Type slot) mark = in_type slot mark
next_mark (at.Length slot) mark = length slot mark
next_mark (at.LengthEnd slot) mark = length_end slot mark
next_mark (at.TypeEnd slot) mark = type_end slot mark
next_mark at.Outputs mark = behind_outputs mark
next_mark at.Returns mark = scalar_typed at.Items mark
next_mark at.ConstName mark = const_colon mark
next_mark at.ConstType mark = scalar_typed at.ConstTypeEnd mark
next_mark at.ConstTypeEnd mark = assign mark
next_mark at.Value mark = value mark
next_mark at.Minus mark = magnitude mark
next_mark at.Struct mark = None
next_mark at.Unit mark = None
next_mark (at.Part slot) mark = None
next_mark at.Const mark = None

-- ---- whole texts

-- the state after a lexeme, if it may follow
abbrev pub next_lexeme : State → Lexeme → Option State
next_lexeme state (named text) = next_name state
next_lexeme state (marked mark) = next_mark state mark

-- whether the text may end in this state
abbrev pub is_end : State → Bool
is_end at.Items = true
is_end at.Outputs = true
is_end _ = false
