-- Programs of texts are small.
use Rattle.std.proofs.Common.{ℕ, zero, suc, ◌≤◌, ◌^◌, List, [], ◌∷◌, length, refl, sym, subst, ⊎_elim, arith}
use Rattle.std.proofs.lemmas.Bool.{cases_lt}
use Rattle.std.proofs.lemmas.Option.{same_Some}
use Rattle.bl_tree.specs.declared.place.Place.{Place}
use Rattle.bl_tree.specs.declared.rule.Rule.TheVariants as rule
use Rattle.bl_tree.specs.declared.tree.Unit.{Unit as UnitDef}
use Rattle.bl_cause.specs.Activities.{EachTwo}
use Rattle.bl_cause_trees.specs.Peeled.{IsPeeledUnit}
use Rattle.bl_peel.specs.Count.{statement_count}
use Rattle.bl_peel.specs.Peeled.{peeled}
use Rattle.bl_rules.specs.Rules.{Passes, in_bytes}
use Rattle.bl_rules.proofs.Layers.{SpelledKeeps, passes_tree}
use Rattle.bl_rules_laws_sizes.specs.Parts.{parts_of_items}
use Rattle.bl_rules_laws_sizes.specs.Small.{AreSmall, IsSmall, PeeledAreSmall, SpelledAreSmall, TextsAreSmall}
use Rattle.bl_rules_laws_sizes.proofs.Naming.{named_within}
use Rattle.bl_rules_laws_sizes.proofs.Narrow.{few_are_narrow, narrow_has_few, peeled_is_narrow}
use Rattle.bl_rules_laws_sizes.proofs.Spelled.{few_parts}
use Rattle.bl_rules_laws_sizes.proofs.Typing.{AllTypedWithin, TypedWithin, typed_within}
use Rattle.bl_types_program.specs.Programs.{named_of}

-- ---- texts

abbrev first_beyond : Place
first_beyond = record { start = 1_048_576; end = 1_048_577 }

short : (text : List ℕ) → Passes text → length text ≤ 1_048_576
short text passes =
    ⊎_elim (λ long. absurd (passes rule.Size first_beyond [] (in_bytes (record { too_long = long; at = refl }, refl)))) (λ most. most)
    (cases_lt 1_048_576 (length text))

pub spelled_are_small : SpelledKeeps → SpelledAreSmall
spelled_are_small keeps text raw program bytes parsed passes is =
    let few = few_parts text parsed.tokens raw parsed.lexes parsed.spells in
    let bounded : parts_of_items raw.items ≤ 2 ^ 40 = omega (arith, few, bytes) in
    record {
      tree = record {
        raw = raw;
        well_formed = keeps text parsed.tokens raw parsed.lexes parsed.passes.depth parsed.spells;
        passes = passes;
        is = is;
      };
      few = bounded;
    }

pub texts_are_small : SpelledKeeps → TextsAreSmall
texts_are_small keeps text program has =
    let bytes = short text has.has.passes in
    spelled_are_small keeps text has.raw program (omega (arith, bytes)) has.has.parses (passes_tree text has.raw has.has.passes has.has.parses) has.is

-- ---- peeled units

within_small : (unit : UnitDef) → TypedWithin (2 ^ 40) unit → IsSmall unit
within_small unit few = record { variables = omega (arith, few.vars); statements = omega (arith, few.statements) }

peeled_small : (unit : UnitDef) → TypedWithin (2 ^ 40) unit → statement_count (peeled unit.body) ≤ 10_000 → IsSmall (record unit { body = peeled unit.body })
peeled_small unit few limited =
    let source = few_are_narrow (2 ^ 40) unit.body few.statements in
    let most = narrow_has_few (2 ^ 40) (peeled unit.body) (peeled_is_narrow (2 ^ 40) unit.body source) in
    record { variables = omega (arith, few.vars); statements = omega (arith, most, limited) }

peeled_unit_small : (unit peeled_unit : UnitDef) → IsPeeledUnit unit peeled_unit → TypedWithin (2 ^ 40) unit → IsSmall peeled_unit
peeled_unit_small unit peeled_unit (IsPeeledUnit.of_function is) few = within_small unit few
peeled_unit_small unit peeled_unit (IsPeeledUnit.clean none) few = within_small unit few
peeled_unit_small unit peeled_unit (IsPeeledUnit.too_large large) few = within_small unit few
peeled_unit_small unit peeled_unit (IsPeeledUnit.with_turns active walk limited) few = peeled_small unit few limited

peeled_units_small : (units peeled_units : List UnitDef) → EachTwo IsPeeledUnit units peeled_units → AllTypedWithin (2 ^ 40) units → AreSmall peeled_units
peeled_units_small [] [] are few k peeled_unit there = absurd (cc)
peeled_units_small [] (peeled_unit ∷ peeled_units) are few k one there = absurd are
peeled_units_small (unit ∷ units) [] are few k one there = absurd are
peeled_units_small (unit ∷ units) (peeled_unit ∷ peeled_units) are few zero one there =
    subst IsSmall (same_Some peeled_unit one there) (peeled_unit_small unit peeled_unit are.0 (few zero unit refl))
peeled_units_small (unit ∷ units) (peeled_unit ∷ peeled_units) are few (suc k) one there =
    peeled_units_small units peeled_units are.1 (λ k unit there. few (suc k) unit there) k one there

pub peeled_are_small : PeeledAreSmall
peeled_are_small program peeled_units of are =
    let raw = of.tree.raw in
    let typed = typed_within (2 ^ 40) (named_of raw) (named_within (2 ^ 40) raw.items raw.bytes of.few) in
    peeled_units_small program.units peeled_units are (subst (AllTypedWithin (2 ^ 40)) (sym of.tree.is.units) typed)
