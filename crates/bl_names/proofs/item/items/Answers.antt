use Rattle.bl_names.specs.Named.{constants_of, structs_of, units_of}
use Rattle.bl_names.proofs.ItemLemmas.{along-next, scopes-next}
use Rattle.bl_names.proofs.item.items.Goals as goal

pub loop-one-preserved : goal.loop-one-preserved
loop-one-preserved c = record {
  scopes = scopes-next c.args.all.now c.loop-one.one-index c.one-item.result c.loop-one.state.scopes c.item.new.state.scopes _
      c.loop-one-test.true c.one-item.is c.in_ok-item.ensures.scopes c.loop-one.invariant.scopes;
  structs =
      along-next structs_of c.args.all.now c.loop-one.one-index c.one-item.result c.loop-one.state.scopes c.item.new.state.scopes c.loop-one.state.structs
      c.item.new.state.structs _
      c.loop-one-test.true c.one-item.is c.in_ok-item.ensures.scopes c.in_ok-item.ensures.structs c.loop-one.invariant.structs;
  constants =
      along-next constants_of c.args.all.now c.loop-one.one-index c.one-item.result c.loop-one.state.scopes c.item.new.state.scopes
      c.loop-one.state.constants c.item.new.state.constants _
      c.loop-one-test.true c.one-item.is c.in_ok-item.ensures.scopes c.in_ok-item.ensures.constants c.loop-one.invariant.constants;
  units =
      along-next units_of c.args.all.now c.loop-one.one-index c.one-item.result c.loop-one.state.scopes c.item.new.state.scopes c.loop-one.state.units
      c.item.new.state.units _
      c.loop-one-test.true c.one-item.is c.in_ok-item.ensures.scopes c.in_ok-item.ensures.units c.loop-one.invariant.units;
}
