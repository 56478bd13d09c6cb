-- What a reader of a face knows after each lexeme.
use Rattle.std.specs.Prelude.{◌≡◌, ℕ, ℤ, pos, neg_ℤ, Bool, true, false, List, [], ◌∷◌, ◌++◌, Option, Some, None, cond}
use Rattle.bl_tree.specs.declared.scalar.Scalar.{Scalar as ScalarType}
use Rattle.bl_tree.specs.declared.scalar.Scalar.TheVariants.{Bool as OfBool}
use Rattle.bl_tree.specs.declared.tree.UnitKind.TheVariants.{Function}
use Rattle.bl_face.specs.declared.class.Mark.{Mark}
use Rattle.bl_face.specs.declared.class.Mark.TheVariants as mark
use Rattle.bl_face.specs.declared.item.FaceBase.{FaceBase}
use Rattle.bl_face.specs.declared.item.FaceBase.TheVariants as base
use Rattle.bl_face.specs.declared.item.FaceItem.{FaceItem}
use Rattle.bl_face.specs.declared.item.FaceItem.TheVariants as item
use Rattle.bl_face.specs.declared.reader.Reader.{Reader}
use Rattle.bl_face.specs.declared.state.Slot.{Slot}
use Rattle.bl_face.specs.declared.state.Slot.TheVariants.{Field, Input, Output}
use Rattle.bl_face.specs.declared.state.State.{State}
use Rattle.bl_face.specs.declared.state.State.TheVariants as at
use Rattle.bl_face.specs.Lexemes.{Lexeme}
use Rattle.bl_face.specs.Lexemes.Lexeme.{named, marked}
use Rattle.bl_face.specs.Spells.{kept_length, kept_number}
use Rattle.bl_face.specs.inner.States.{next_lexeme, is_end}

-- ---- what is added

-- with the field or parameter whose type ends with this base
abbrev pub with_part : Reader → FaceBase → Reader
with_part r of = record r {
  parts = r.parts ++ record { name = r.part; ty = record { lengths = r.lengths; base = of } } ∷ [];
  part = [];
  lengths = [];
}

-- with the struct whose fields were read
abbrev pub with_struct : Reader → Reader
with_struct r = record r { items = r.items ++ item.Struct r.name r.parts ∷ []; name = []; parts = [] }

-- with the constant of this value
abbrev pub with_constant : Reader → ℤ → Reader
with_constant r value = record r { items = r.items ++ item.Constant r.name r.scalar value ∷ []; name = [] }

-- with the unit whose outputs were read, and this result
abbrev pub with_head : Reader → Option ScalarType → Reader
with_head r result = record r {
  items = r.items ++ item.Head r.kind r.name r.inputs r.parts result ∷ [];
  name = [];
  inputs = [];
  parts = [];
}

-- with the parameters that were read as inputs
abbrev pub with_inputs : Reader → Reader
with_inputs r = record r { inputs = r.parts; parts = [] }

-- ---- behind a name

-- with the name of an item
abbrev pub with_name : Reader → List ℕ → Reader
with_name r name = record r { name = name; parts = [] }

-- with the name of a field or parameter
abbrev pub with_part_name : Reader → List ℕ → Reader
with_part_name r name = record r { part = name; lengths = [] }

-- what is known behind a name that stands in this state
abbrev pub after_name : State → Reader → List ℕ → Reader
after_name at.Struct r name = with_name r name
after_name at.Unit r name = with_name r name
after_name at.Const r name = with_name r name
after_name (at.First slot) r name = with_part_name r name
after_name (at.Part slot) r name = with_part_name r name
after_name (at.Type slot) r name = with_part r (base.Struct name)
after_name _ r name = r

-- ---- behind another token

-- the kind of unit that begins
abbrev pub after_begin : Reader → Mark → Reader
after_begin r (mark.Unit kind) = record r { kind = kind }
after_begin r _ = r

-- a unit ends without a result where another item begins
abbrev pub after_outputs : Reader → Mark → Reader
after_outputs r mark.Returns = r
after_outputs r mark = after_begin (with_head r None) mark

-- a struct ends with its fields
abbrev pub after_field : Reader → Mark → Reader
after_field r mark.End = with_struct r
after_field r _ = r

-- a list of inputs ends
abbrev pub after_input : Reader → Mark → Reader
after_input r mark.CloseParen = with_inputs r
after_input r _ = r

-- what is known behind the end of a field or parameter
abbrev pub after_part : Slot → Reader → Mark → Reader
after_part Field r mark = after_field r mark
after_part Input r mark = after_input r mark
after_part Output r mark = r

-- the type of a field or parameter ends with a scalar
abbrev pub after_type : Reader → Mark → Reader
after_type r (mark.Scalar of) = with_part r (base.Scalar of)
after_type r _ = r

-- one length more
abbrev pub after_length : Reader → Mark → Reader
after_length r (mark.Number n) = record r { lengths = r.lengths ++ kept_length n ∷ [] }
after_length r _ = r

-- a unit ends with its result
abbrev pub after_returns : Reader → Mark → Reader
after_returns r (mark.Scalar of) = with_head r (Some of)
after_returns r _ = r

-- the type of a constant
abbrev pub after_const : Reader → Mark → Reader
after_const r (mark.Scalar of) = record r { scalar = of }
after_const r _ = r

-- a constant ends with its value
abbrev pub after_value : Reader → Mark → Reader
after_value r (mark.Truth true) = with_constant r (pos 1)
after_value r (mark.Truth false) = with_constant r (pos 0)
after_value r (mark.Number n) = with_constant r (pos (kept_number n))
after_value r _ = r

-- a constant ends with its value behind a minus
abbrev pub after_minus : Reader → Mark → Reader
after_minus r (mark.Number n) = with_constant r (neg_ℤ (pos (kept_number n)))
after_minus r _ = r

-- what is known behind a mark that stands in this state
abbrev pub after_mark : State → Reader → Mark → Reader
after_mark at.Items r mark = after_begin r mark
after_mark at.Outputs r mark = after_outputs r mark
after_mark (at.First slot) r mark = after_part slot r mark
after_mark (at.TypeEnd slot) r mark = after_part slot r mark
after_mark (at.Type slot) r mark = after_type r mark
after_mark (at.Length slot) r mark = after_length r mark
after_mark at.Returns r mark = after_returns r mark
after_mark at.ConstType r mark = after_const r mark
after_mark at.Value r mark = after_value r mark
after_mark at.Minus r mark = after_minus r mark
after_mark _ r mark = r

-- ---- whole texts

-- before the first lexeme
abbrev pub nothing_read : Reader
nothing_read = record {
  state = at.Items;
  items = [];
  name = [];
  kind = Function;
  scalar = OfBool;
  inputs = [];
  parts = [];
  part = [];
  lengths = [];
}

-- what is known behind a lexeme
abbrev pub after_lexeme : State → Reader → Lexeme → Reader
after_lexeme state r (named name) = after_name state r name
after_lexeme state r (marked mark) = after_mark state r mark

-- with the next state, if there is one
abbrev pub with_state : Option State → Reader → Option Reader
with_state None r = None
with_state (Some state) r = Some (record r { state = state })

-- what is known behind a lexeme, if it may follow
abbrev pub step : Reader → Lexeme → Option Reader
step r lexeme = with_state (next_lexeme r.state lexeme) (after_lexeme r.state r lexeme)

-- whether a lexeme was taken, and what is known then
abbrev pub Steps : Option Reader → Bool → Reader → Type 0
Steps behind true r = behind ≡ Some r
Steps behind false r = behind ≡ None

-- what is known behind lexemes, if each may follow
abbrev pub run : Option Reader → List Lexeme → Option Reader
run None whole = None
run (Some r) [] = Some r
run (Some r) (lexeme ∷ rest) = run (step r lexeme) rest

-- a unit without a result ends with the text
abbrev pub at_end : State → Reader → Reader
at_end at.Outputs r = with_head r None
at_end _ r = r

-- the items, if the text may end here
abbrev pub read_items : Reader → Option (List FaceItem)
read_items r = cond (is_end r.state) (Some (at_end r.state r).items) None
