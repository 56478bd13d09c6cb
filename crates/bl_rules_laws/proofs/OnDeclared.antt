-- The units of the program of an accepted tree keep what programs of texts keep.
use Rattle.std.proofs.Common.{ℕ, List, sym, subst}
use Rattle.bl_tree.specs.declared.program.Program.{Program}
use Rattle.bl_tree.specs.declared.tree.Unit.{Unit as UnitDef}
use Rattle.bl_cause_trees.specs.Laws.{UnitsArePeeled}
use Rattle.bl_cause_trees.specs.Peeled.{ArePeeled}
use Rattle.bl_peel_laws.specs.Prevs.{PeeledIsFromText}
use Rattle.bl_machine_prevs.specs.Declared.{FromText}
use Rattle.bl_types_program.specs.Programs.{named_of}
use Rattle.bl_parse_tree.specs.declared.item.RawItem.{RawItem}
use Rattle.bl_parse_tree.specs.declared.raw.Raw.{Raw}
use Rattle.bl_parse_tree.specs.WellFormed.{RawIsWellFormed}
use Rattle.bl_rules.specs.Accepted.{IsOfTree}
use Rattle.bl_rules.specs.Rules.{in_names, in_types}
use Rattle.bl_names.specs.Named.{named_program}
use Rattle.bl_names_scopes.specs.Rules.{Passes as NamesPass}
use Rattle.bl_types.specs.Programs.{typed_program}
use Rattle.bl_types.specs.Rules.{Passes as TypesPass}

-- what the laws of the crates below say, of a tree
pub trees_declare : ((items : List RawItem) (bytes : ℕ) → RawIsWellFormed items → NamesPass items → TypesPass (named_program items bytes) →
    FromText (typed_program (named_program items bytes)).units) →
    (program : Program) → IsOfTree program → FromText program.units
trees_declare typed program of =
    let raw : Raw = of.raw in
    let names : NamesPass raw.items = λ r p a f. of.passes r p a (in_names f) in
    let types : TypesPass (named_of raw) = λ r p a f. of.passes r p a (in_types names f) in
    subst FromText (sym of.is.units) (typed raw.items raw.bytes of.well_formed names types)

-- and so do the peeled units
pub peeled_declare : ((program : Program) → IsOfTree program → FromText program.units) → UnitsArePeeled → PeeledIsFromText →
    (program : Program) (peeled : List UnitDef) → IsOfTree program → ArePeeled program.units peeled → FromText peeled
peeled_declare declare peel stays program peeled of are = stays program.units peeled (peel program.units peeled are) (declare program of)
