-- Programs with their types, and all that fails in them, alone or behind what is known before them.
use Rattle.std.specs.Prelude.{ℕ, Bool, true, not, List, [], ◌∷◌, ◌++◌, length, slice_get, Option, Some, None}
use Rattle.std.specs.List.{cons_option}
use Rattle.bl_tree.specs.declared.place.Place.{Place}
use Rattle.bl_tree.specs.declared.rule.Failure.{Failure}
use Rattle.bl_tree.specs.declared.tree.StructDef.{StructDef}
use Rattle.bl_tree.specs.declared.tree.Unit.{Unit as UnitDef}
use Rattle.bl_tree.specs.declared.tree.UnitKind.TheVariants.{Function}
use Rattle.bl_names_tree.specs.declared.item.Item.{Item}
use Rattle.bl_names_tree.specs.declared.item.Item.TheVariants as item
use Rattle.bl_names_tree.specs.declared.item.NamedUnit.{NamedUnit}
use Rattle.bl_names_tree.specs.declared.named.Named.{Named}
use Rattle.bl_types.specs.declared.environment.Constant.{Constant}
use Rattle.bl_types.specs.declared.environment.Environment.{Environment}
use Rattle.bl_types.specs.declared.environment.Known.{Known}
use Rattle.bl_types.specs.declared.environment.State.{State}
use Rattle.bl_types.specs.declared.environment.Typed.{Typed}
use Rattle.bl_types.specs.Declarations.{Declaring, after_constant, after_struct, and_then, unchanged}
use Rattle.bl_types.specs.Units.{after_unit, entries, entry_among}

-- what is known before a program that stands alone
abbrev pub fresh : Environment
fresh = record { structs = []; constants = []; units = []; vars = []; kind = Function; result = None }

-- what is known before a program behind these structs, constants and units
abbrev pub known_before : List StructDef → List Constant → List UnitDef → Environment
known_before structs constants units = record { structs = structs; constants = constants; units = units; vars = []; kind = Function; result = None }

-- the state of the judgement before a program behind a start, in which no rule fails
abbrev pub begun : Environment → State
begun env = record { env = env; notes = record { first = None } }

-- ---- the items of a program in source order. The constants in the body of a unit are among those of the program, and are over
-- with the unit

-- what is known after the next item of a kind, if there is one
abbrev pub after_next : {A : Type 0} → (A → Environment → Declaring) → Option A → Environment → Declaring
after_next after (Some it) env = after it env
after_next after None env = unchanged env

-- what is known after an item of the program: its next struct, constant or unit
abbrev pub after_item : Named → Item → Environment → Declaring
after_item named item.Struct env = after_next after_struct (slice_get named.structs (length env.structs)) env
after_item named item.Constant env = after_next after_constant (slice_get named.constants (length env.constants)) env
after_item named item.Unit env = after_next (after_unit named.constants) (slice_get named.units (length env.units)) env

-- what is known after several items, one after another
abbrev pub after_items : Named → List Item → Environment → Declaring
after_items named [] env = unchanged env
after_items named (item ∷ rest) env = and_then (after_item named item env) (after_items named rest)

-- the place of what is missing
abbrev pub text_end : Named → Place
text_end named = record { start = named.bytes; end = named.bytes }

-- ---- the constants that stand among the items of a program, in no body

-- the constant that an item declares, which has this position among those that are known after it
abbrev pub global_at : Item → ℕ → List Constant → List Constant
global_at item.Struct k constants = []
global_at item.Constant k constants = cons_option (slice_get constants k) []
global_at item.Unit k constants = []

-- the constants that items declare one after another
abbrev pub globals_of : Named → List Item → Environment → List Constant
globals_of named [] env = []
globals_of named (item ∷ rest) env =
    global_at item (length env.constants) (after_item named item env).env.constants ++ globals_of named rest (after_item named item env).env

-- ---- a program behind a start, which is what is known before it

-- what is known after the whole program, where this is known before it
abbrev pub program_behind : Environment → Named → Declaring
program_behind env named = after_items named named.order env

-- all that fails in a program behind a start. A program that isn't the last of several is to have no entry, since the last has it
abbrev pub failures_behind : Bool → Environment → Named → List Failure
failures_behind last env named = (program_behind env named).failures ++ entries (not last) (text_end named) named.units

-- what is known at the end of a program with these global constants
abbrev pub known_of : Environment → List Constant → Known
known_of env globals = record { structs = env.structs; globals = globals; units = env.units }

-- what is known at the end of a program behind a start, whose constants come before those among the items
abbrev pub known_behind : Environment → Named → Known
known_behind env named = known_of (program_behind env named).env (env.constants ++ globals_of named named.order env)

-- ---- a program alone

-- what is known after the whole program
abbrev pub after_program : Named → Declaring
after_program named = program_behind fresh named

-- all that fails in a program
abbrev pub failures_of : Named → List Failure
failures_of named = failures_behind true fresh named

-- the structs and units that are known at the end of a program, with the entry among its units
abbrev pub with_entry : Known → List NamedUnit → Typed
with_entry known units = record { structs = known.structs; units = known.units; entry = entry_among units 0 }

-- the structs and units of a program with their types, and its entry
abbrev pub typed_program : Named → Typed
typed_program named = with_entry (known_behind fresh named) named.units
