-- What passes the rules of a tree has exactly one trace: that of its peeled program.
use Rattle.std.proofs.Common.{◌≡◌, ◌∙◌, ℕ, ℤ, List, sym, subst}
use Rattle.std.specs.Prelude.{◌↔◌}
use Rattle.bl_tree.specs.declared.tree.StructDef.{StructDef}
use Rattle.bl_tree.specs.declared.tree.Unit.{Unit as UnitDef}
use Rattle.bl_ctree.specs.Instances.{setting_of}
use Rattle.bl_ctree.specs.Means.{Means, ShownTrace, shown_trace}
use Rattle.bl_ctree.specs.Measure.{steps}
use Rattle.bl_ctree.specs.Reaches.{Bounded, NeverStuck}
use Rattle.bl_ctree_laws.specs.Fitted.{Fitted}
use Rattle.bl_ctree_laws_confluence.specs.Deeds.Orderly.{AcceptedIsOrderly}
use Rattle.bl_ctree_laws_peeled.specs.Bodies.{PeeledIsNeverStuck, PeeledMeans}
use Rattle.bl_ctree_laws_peeled_bounds.specs.Bounds.{PeeledIsBounded}
use Rattle.bl_ctree_laws_traces.specs.Traces.Maximal.{BoundedHaveMeanings}
use Rattle.bl_ctree_laws_traces.specs.Traces.OneTrace.{HasOneTrace, OneTrace, OrderedAreNumbered, OrderedHaveOneTrace}
use Rattle.bl_rules_laws.specs.Traces.OneTrace.{SourceHasOneTrace, TreesHaveOneTrace}
use Rattle.bl_rules_laws.specs.Traces.Peeled.{AcceptedKeepPeeled, KeepsPeeled, PeeledMeanTheSame}

-- the laws that the proof stands on
pub record TraceLaws : Type 0 where
  pub orderly : AcceptedIsOrderly
  pub meanings : BoundedHaveMeanings
  pub numbered : OrderedAreNumbered
  pub ordered : OrderedHaveOneTrace
  pub bounded : PeeledIsBounded
  pub means : PeeledMeans
  pub stuck : PeeledIsNeverStuck

module _ (given : TraceLaws) (structs : List StructDef) (units : List UnitDef) (entry : ℕ) (peeled : List UnitDef)
    (keeps : KeepsPeeled structs units entry peeled) where
  fitted : Fitted (setting_of structs units entry)
  fitted = (given.orderly structs units entry keeps.well_typed keeps.passes).fitted

  peeled_fitted : Fitted (setting_of structs peeled entry)
  peeled_fitted = (given.orderly structs peeled entry keeps.peeled_typed keeps.peeled_pass).fitted

  peeled_one : HasOneTrace structs peeled entry
  peeled_one = given.ordered structs peeled entry keeps.peeled_typed keeps.peeled_pass keeps.ordered

  source_bounded : Bounded (steps structs peeled entry) structs units entry
  source_bounded =
      given.bounded structs units peeled entry keeps.peels fitted keeps.peeled_typed keeps.peeled_pass
      (given.numbered structs peeled entry keeps.peeled_typed keeps.peeled_pass keeps.ordered)

  source_stuck : NeverStuck structs units entry
  source_stuck = given.stuck structs units peeled entry keeps.peels fitted peeled_fitted peeled_one.never_stuck

  module _ (rows : List (List ℤ)) where
    to_peeled : (shows : ShownTrace) → Means structs units entry rows shows → Means structs peeled entry rows shows
    to_peeled shows means = given.means structs units peeled entry rows shows keeps.peels fitted peeled_fitted means

    -- a source has a trace, which is that of its peeled program
    source_means : Means structs units entry rows (shown_trace (peeled_one.each rows).trace)
    source_means =
        let has = given.meanings (steps structs peeled entry) structs units entry source_bounded rows in
        subst (Means structs units entry rows) ((peeled_one.each rows).only has.shows (to_peeled has.shows has.means)) has.means

    source_one : OneTrace structs units entry rows
    source_one = record {
      trace = (peeled_one.each rows).trace;
      means = source_means;
      only = λ shows means. (peeled_one.each rows).only shows (to_peeled shows means);
    }

    pub both_mean : (shows : ShownTrace) → Means structs units entry rows shows ↔ Means structs peeled entry rows shows
    both_mean shows = (
      to_peeled shows,
      λ means. subst (Means structs units entry rows) (sym ((peeled_one.each rows).only shows means)) source_means,
    )

  pub source_has_one : SourceHasOneTrace structs units entry peeled
  source_has_one = record { each = source_one; bounded = source_bounded; never_stuck = source_stuck }

pub peeled_mean : AcceptedKeepPeeled → TraceLaws → PeeledMeanTheSame
peeled_mean keep given program peeled of are rows shows =
    both_mean given program.structs program.units program.entry peeled (keep program peeled of are) rows shows

pub trees_have_one_trace : AcceptedKeepPeeled → TraceLaws → TreesHaveOneTrace
trees_have_one_trace keep given program peeled of are =
    source_has_one given program.structs program.units program.entry peeled (keep program peeled of are)
