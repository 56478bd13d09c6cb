-- How a program, alone or behind a start, fails the rules Type, Literal, Immutable, Constant, Arity, Prev, Return, Where and Entry, and at
-- which places.
use Rattle.std.specs.Prelude.{Bool, List}
use Rattle.bl_tree.specs.declared.place.Place.{Place}
use Rattle.bl_tree.specs.declared.rule.Refusal.{Refusal}
use Rattle.bl_tree.specs.declared.rule.Rule.{Rule}
use Rattle.bl_tree.specs.Rules as rules
use Rattle.bl_names_tree.specs.declared.named.Named.{Named}
use Rattle.bl_types.specs.declared.environment.Environment.{Environment}
use Rattle.bl_types.specs.Programs.{failures_behind, failures_of}

-- the rule fails at this place, with these further places: rule Immutable names the declaration too
abbrev pub Fails : Named → Rule → Place → List Place → Type 0
Fails named = rules.FailsAmong (failures_of named)

-- the rule is the first that fails, at its first places
abbrev pub FailsFirst : Named → Rule → Place → List Place → Type 0
FailsFirst named = rules.FailsFirst (Fails named)

-- none of the rules from Type to Entry fails
abbrev pub Passes : Named → Type 0
Passes named = rules.Passes (Fails named)

-- the refusal tells the first of the nine rules that fails; want of memory needs no cause
abbrev pub IsCause : Named → Refusal → Type 0
IsCause named = rules.IsCause (Fails named)

-- ---- behind a start, which is what is known before the program. The last of several programs has the entry, and the others have none

-- the rule fails behind a start at this place, with these further places
abbrev pub FailsBehind : Bool → Environment → Named → Rule → Place → List Place → Type 0
FailsBehind last env named = rules.FailsAmong (failures_behind last env named)

-- none of the rules from Type to Entry fails behind a start
abbrev pub PassesBehind : Bool → Environment → Named → Type 0
PassesBehind last env named = rules.Passes (FailsBehind last env named)

-- the refusal tells the first of the nine rules that fails behind a start; want of memory needs no cause
abbrev pub IsCauseBehind : Bool → Environment → Named → Refusal → Type 0
IsCauseBehind last env named = rules.IsCause (FailsBehind last env named)
