-- Ordered programs have exactly one trace.
use Rattle.std.proofs.Common.{◌∙◌, subst}
use Rattle.bl_ctree.specs.Instances.{Setting, setting_of}
use Rattle.bl_ctree.specs.Means.{Means}
use Rattle.bl_ctree.specs.Measure.{steps}
use Rattle.bl_ctree_laws_confluence.specs.Deeds.Orderly.{AcceptedIsOrderly}
use Rattle.bl_ctree_laws_confluence.specs.Independent.Accepted.{AcceptedTracesAreOne}
use Rattle.bl_ctree_laws_traces.specs.Bounded.Bounds.{AcceptedIsBounded}
use Rattle.bl_ctree_laws_traces.specs.Ready.Ordered.{OrderedNeverStuck, OrdersGiveRanks}
use Rattle.bl_ctree_laws_traces.specs.Traces.Maximal.{BoundedHaveMeanings, UnstuckShowTraces}
use Rattle.bl_ctree_laws_traces.specs.Traces.OneTrace.{OrderedAreNumbered, OrderedHaveOneTrace}

pub ordered_are_numbered : OrdersGiveRanks → AcceptedIsOrderly → OrderedAreNumbered
ordered_are_numbered give orderly structs units entry keeps passes ordered =
    let w : Setting = setting_of structs units entry in
    let has = give w (λ i unit is. let o = (orderly structs units entry keeps passes).each i unit is in ordered unit o.is_there o.activity) in
    λ i unit is. record { number = has.rank i; rises = has.rising.control i unit is }

pub ordered_have_one_trace : BoundedHaveMeanings → UnstuckShowTraces → OrderedAreNumbered → OrderedNeverStuck → AcceptedIsBounded →
    AcceptedTracesAreOne → OrderedHaveOneTrace
ordered_have_one_trace meanings traces numbered never bounded at_most structs units entry keeps passes ordered =
    let limit = bounded structs units entry keeps passes (numbered structs units entry keeps passes ordered) in
    let unstuck = never structs units entry keeps passes ordered in
    record {
      each = λ rows.
          let has = meanings (steps structs units entry) structs units entry limit rows in
          let one = traces structs units entry unstuck rows has.shows has.means in
          record {
            trace = one.trace;
            means = subst (Means structs units entry rows) one.is has.means;
            only = λ shows means. at_most structs units entry rows shows has.shows keeps passes means has.means ∙ one.is;
          };
      bounded = limit;
      never_stuck = unstuck;
    }
