-- Why a program is refused, and why one behind a start is.
use Rattle.std.specs.Prelude.{List}
use Rattle.bl_tree.specs.declared.rule.Refusal.{Refusal}
use Rattle.bl_tree.specs.Rules as rules
use Rattle.bl_parse_tree.specs.declared.item.RawItem.{RawItem}
use Rattle.bl_names_scopes.specs.Marks.{Marks}
use Rattle.bl_names_scopes.specs.Rules.{Fails, FailsBehind}
use Rattle.bl_names_scopes.specs.Scopes.{Scopes}

-- the rule that is told is the first of the three that fails, at its first places; want of memory needs no cause
abbrev pub IsCause : List RawItem → Refusal → Type 0
IsCause items = rules.IsCause (Fails items)

-- the rule that is told is the first of the three that fails behind the start; want of memory needs no cause
abbrev pub IsCauseBehind : Scopes → Marks → Refusal → Type 0
IsCauseBehind start marks = rules.IsCause (FailsBehind start marks)
