-- What the program of a raw tree keeps in which no rule fails, and what its peeled program keeps.
use Rattle.std.proofs.Common.{◌≡◌, ℕ, true, List, sym, subst}
use Rattle.std.specs.Prelude.{IsTrue}
use Rattle.bl_tree.specs.declared.program.Program.{Program}
use Rattle.bl_tree.specs.declared.tree.StructDef.{StructDef}
use Rattle.bl_tree.specs.declared.tree.Unit.{Unit as UnitDef}
use Rattle.bl_tree.specs.Program.{IsWellTyped}
use Rattle.bl_parse_tree.specs.declared.item.RawItem.{RawItem}
use Rattle.bl_parse_tree.specs.declared.raw.Raw.{Raw}
use Rattle.bl_parse_tree.specs.Starts.{ascends}
use Rattle.bl_parse_tree.specs.WellFormed.{RawIsWellFormed}
use Rattle.bl_names.specs.Named.{named_program}
use Rattle.bl_names_scopes.specs.Rules.{Passes as NamesPass}
use Rattle.bl_types.specs.Programs.{typed_program}
use Rattle.bl_types.specs.Rules.{Passes as TypesPass}
use Rattle.bl_types_laws.specs.Standing.{are_shallow}
use Rattle.bl_types_laws.specs.Starts.{all_starts}
use Rattle.bl_types_program.specs.Programs.{named_of, typed_of}
use Rattle.bl_effects.specs.Rules.{Passes as UnitsPass}
use Rattle.bl_cause_trees.specs.Laws.{UnitsArePeeled}
use Rattle.bl_cause_trees.specs.Rules.{Passes as GraphsPass}
use Rattle.bl_cause_trees.specs.Peeled.{ArePeeled}
use Rattle.bl_ctree_laws_traces.specs.Ready.Ordered.{UnitsAreOrdered}
use Rattle.bl_rules.specs.Accepted.{IsOfTree}
use Rattle.bl_rules.specs.Laws.{PeeledKeepGraphRules, PeeledKeepUnitRules, PeeledStayTyped}
use Rattle.bl_rules.specs.Rules.{TreePasses, in_graphs, in_limits, in_names, in_program, in_types, in_units}
use Rattle.bl_rules_laws.specs.Traces.Peeled.{AcceptedKeepPeeled, KeepsPeeled}

-- a typed program, by the raw tree that it is of
abbrev TypedIs : (List StructDef → List UnitDef → ℕ → Type 0) → Type 0
TypedIs holds =
    (items : List RawItem) (bytes : ℕ) → RawIsWellFormed items → NamesPass items → TypesPass (named_program items bytes) →
    let typed = typed_program (named_program items bytes) in holds typed.structs typed.units typed.entry

-- the laws that the proof stands on
pub record TypedLaws : Type 0 where
  pub keeps : TypedIs IsWellTyped
  pub shallow : TypedIs (λ structs units entry. are_shallow units ≡ true)
  pub in_order : TypedIs (λ structs units entry. IsTrue (ascends (all_starts units)))
  pub peel : UnitsArePeeled
  pub typed : PeeledStayTyped
  pub unit_rules : PeeledKeepUnitRules
  pub graph_rules : PeeledKeepGraphRules
  pub ordered : UnitsAreOrdered

module _ (given : TypedLaws) (raw : Raw) (well_formed : RawIsWellFormed raw.items) (passes : TreePasses raw) where
  names : NamesPass raw.items
  names = λ r p a f. passes r p a (in_names f)

  types : TypesPass (named_of raw)
  types = λ r p a f. passes r p a (in_types names f)

  units : UnitsPass (typed_of raw).units
  units = λ r p a f. passes r p a (in_program names types (in_units f))

  graphs : GraphsPass (typed_of raw).units
  graphs = λ r p a f. passes r p a (in_program names types (in_graphs units f))

  well_typed : IsWellTyped (typed_of raw).structs (typed_of raw).units (typed_of raw).entry
  well_typed = given.keeps raw.items raw.bytes well_formed names types

  typed_keep : (peeled : List UnitDef) → ArePeeled (typed_of raw).units peeled →
      KeepsPeeled (typed_of raw).structs (typed_of raw).units (typed_of raw).entry peeled
  typed_keep peeled are = record {
    well_typed = well_typed;
    passes = units;
    peels = given.peel (typed_of raw).units peeled are;
    peeled_typed = given.typed (typed_of raw).structs (typed_of raw).units (typed_of raw).entry well_typed
        (given.shallow raw.items raw.bytes well_formed names types) (given.in_order raw.items raw.bytes well_formed names types) peeled are;
    peeled_pass = given.unit_rules (typed_of raw).units peeled are units;
    ordered = given.ordered peeled (given.graph_rules (typed_of raw).units peeled are graphs);
    limits = λ r p a f. passes r p a (in_program names types (in_limits peeled units graphs are f));
  }

pub accepted_keep : TypedLaws → AcceptedKeepPeeled
accepted_keep given program peeled of are =
    let raw : Raw = of.raw in
    let typed = typed_keep given raw of.well_formed of.passes peeled (subst (λ units. ArePeeled units peeled) of.is.units are) in
    subst (λ structs. KeepsPeeled structs program.units program.entry peeled) (sym of.is.structs)
    (subst (λ units. KeepsPeeled (typed_of raw).structs units program.entry peeled) (sym of.is.units)
    (subst (λ entry. KeepsPeeled (typed_of raw).structs (typed_of raw).units entry peeled) (sym of.is.entry) typed))
