-- Each activity of a program has a counter, and asks for its own alone.
use Rattle.std.proofs.Common.{◌≡◌, ◌<◌, arith, [], ◌∷◌, length, sym, ◌∙◌, subst}
use Rattle.std.proofs.lemmas.Option.{same_Some}
use Rattle.bl_tree.proofs.Basics.{contains_at}
use Rattle.bl_tree.specs.Typing.{is_activity}
use Rattle.bl_cause.specs.Activities.{activities as activities_of, graph_position}
use Rattle.bl_cause.proofs.PairLemmas.{each_at, filtered_at}
use Rattle.bl_machine.specs.Machines.{IsActivityOf}
use Rattle.bl_machine_laws.specs.Rests.{ActivitiesCount}
use Rattle.bl_emit_spec_laws.specs.Own.{CopiesAreCounters}
use Rattle.bl_emit_spec_laws_files.specs.Counters.{AllSuffice}

pub counters_suffice : ActivitiesCount → CopiesAreCounters → AllSuffice
counters_suffice counted copies structs units entry machine activities keeps passes agrees built k unit there active =
    let own = each_at IsActivityOf (activities_of units) machine (graph_position units k) unit agrees
    (filtered_at (λ it. is_activity it.kind) units k unit there active) in
    let parts = built.made k unit there active in
    let same : own.0 ≡ parts.one = same_Some own.0 parts.one (sym own.1 ∙ parts.is) in
    record {
      some = subst (λ sizes. 0 < length sizes) (sym parts.sizes)
          (counted structs units entry unit parts.one keeps passes (contains_at units k unit there) active (subst (IsActivityOf unit) same own.2));
      asked = λ c reads.
          copies structs units machine activities k unit c
          (record { agrees = agrees; built = built; is_there = there; activity = active }) reads;
    }
