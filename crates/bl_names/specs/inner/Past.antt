-- What is made of a program behind its parts.
use Rattle.std.specs.Prelude.{List, [], ◌∷◌, ◌++◌}
use Rattle.bl_names_tree.specs.declared.item.NamedConstant.{NamedConstant}
use Rattle.bl_names_tree.specs.declared.item.NamedVar.{NamedVar}
use Rattle.bl_names_scopes.specs.declared.heading.Heading.{Heading}
use Rattle.bl_names_scopes.specs.declared.kind.Kind.{Kind}
use Rattle.bl_names_scopes.specs.declared.kind.Kind.TheVariants as kind
use Rattle.bl_names_scopes.specs.Marks.{declares, struct_marks, unit_marks}
use Rattle.bl_names_scopes.specs.Scopes.{after, enter, heading_mark, opened_by}
use Rattle.bl_parse_tree.specs.declared.item.RawStruct.{RawStruct}
use Rattle.bl_parse_tree.specs.declared.item.RawUnit.{RawUnit}
use Rattle.bl_parse_tree.specs.declared.name.Name.{Name}
use Rattle.bl_names.specs.declared.state.State.{State}
use Rattle.bl_names.specs.Named.{Piece, blank_constant, blank_struct, blank_unit, blanks, constants_in_unit, named_struct, named_unit}

-- the state of naming at the start of a program behind headings
abbrev pub begun : List Heading → State
begun headings = record {
  scopes = opened_by headings;
  structs = blanks blank_struct headings;
  constants = blanks blank_constant headings;
  units = blanks blank_unit headings;
  vars = [];
}

-- the state of naming after the blank item that stands for a heading of this kind and name
abbrev pub with_blank : Kind → Name → State → State
with_blank kind.Struct name state = record state { structs = state.structs ++ blank_struct kind.Struct name }
with_blank kind.Constant name state = record state { constants = state.constants ++ blank_constant kind.Constant name }
with_blank kind.Function name state = record state { units = state.units ++ blank_unit kind.Function name }
with_blank kind.Activity name state = record state { units = state.units ++ blank_unit kind.Activity name }
with_blank _ name state = state

-- the state of naming after a heading
abbrev pub with_heading : State → Heading → State
with_heading state heading = with_blank heading.kind heading.name (record state { scopes = enter state.scopes (heading_mark heading) })

-- the state of naming after the declaration of a variable
abbrev pub with_variable : State → Name → NamedVar → State
with_variable state name var = record state { scopes = enter state.scopes (declares name kind.Variable); vars = state.vars ++ (var ∷ []) }

-- the state of naming after the declaration of a constant
abbrev pub with_constant : State → Name → NamedConstant → State
with_constant state name constant = record state { scopes = enter state.scopes (declares name kind.Constant); constants = state.constants ++ (constant ∷ []) }

-- the state of naming after a part
abbrev pub past : {A : Type 0} → State → Piece A → State
past state piece = record state {
  scopes = after state.scopes piece.marks;
  constants = state.constants ++ piece.constants state.scopes;
  vars = state.vars ++ piece.vars state.scopes;
}

-- the state of naming after a struct
abbrev pub with_struct : State → RawStruct → State
with_struct state def = record state { scopes = after state.scopes (struct_marks def); structs = state.structs ++ (named_struct state.scopes def ∷ []) }

-- the state of naming after a unit
abbrev pub with_unit : State → RawUnit → State
with_unit state def = record state {
  scopes = after state.scopes (unit_marks def);
  constants = state.constants ++ constants_in_unit state.scopes def;
  units = state.units ++ (named_unit state.scopes def ∷ []);
  vars = [];
}
