-- The rules on units by themselves, where lists of units are appended.
use Rattle.std.proofs.Common.{List, [], ◌++◌, ⊎_elim}
use Rattle.std.proofs.lemmas.List.Elements.{Contains-append_cases, Contains-append_left, Contains-append_right}
use Rattle.std.specs.Prelude.{Contains}
use Rattle.bl_tree.proofs.Basics.{contains_none}
use Rattle.bl_cause.specs.Fails.{FailsCycle, FailsTwice}
use Rattle.bl_cause_trees.specs.Rules.{Fails as GraphsFail, FailsInPeeled, Passes as GraphsPass}
use Rattle.bl_effects.specs.Rules.{Fails as UnitsFail, FailsAlias, FailsConflict, FailsInstant, FailsPause, Passes as UnitsPass}
use Rattle.bl_graph.specs.declared.tick_graph.Graph.{Graph}
use Rattle.bl_tree.specs.declared.place.Place.{Place}
use Rattle.bl_tree.specs.declared.rule.Rule.{Rule}
use Rattle.bl_tree.specs.declared.rule.Rule.TheVariants as rule
use Rattle.bl_tree.specs.declared.tree.Unit.{Unit as UnitDef}

-- what fails among some units fails among others that have the same one
module _ (from to : List UnitDef) (at : Place) (also : List Place) where
  pause_in : (h : FailsPause from at also) → Contains to h.unit → FailsPause to at also
  pause_in h there = record {
    unit = h.unit;
    is_there = there;
    activity = h.activity;
    ends = h.ends;
    at_name = h.at_name;
    alone = h.alone;
  }

  conflict_in : (h : FailsConflict from at also) → Contains to h.unit → FailsConflict to at also
  conflict_in h there = record {
    unit = h.unit;
    is_there = there;
    split = h.split;
    stands = h.stands;
    first = h.first;
    in_earlier = h.in_earlier;
    second = h.second;
    in_later = h.in_later;
    overlap = h.overlap;
    var = h.var;
    declared = h.declared;
    at_first = h.at_first;
    at_second = h.at_second;
  }

  alias_in : (h : FailsAlias from at also) → Contains to h.unit → FailsAlias to at also
  alias_in h there = record {
    unit = h.unit;
    is_there = there;
    aliased = h.aliased;
    fails = h.fails;
    at_one = h.at_one;
    at_other = h.at_other;
  }

  instant_in : (h : FailsInstant from at also) → Contains to h.unit → FailsInstant to at also
  instant_in h there = record {
    unit = h.unit;
    is_there = there;
    activity = h.activity;
    place = h.place;
    loops = h.loops;
    at_loop = h.at_loop;
    alone = h.alone;
  }

  tree_in : (FailsIn : Graph → Place → List Place → Type 0) (h : FailsInPeeled FailsIn from at also) → Contains to h.unit →
      FailsInPeeled FailsIn to at also
  tree_in FailsIn h there = record {
    unit = h.unit;
    is_there = there;
    activity = h.activity;
    peeled_unit = h.peeled_unit;
    is_peeled = h.is_peeled;
    graph = h.graph;
    of_peeled = h.of_peeled;
    fails = h.fails;
  }

-- ---- more units

module _ (from to : List UnitDef) (more : (unit : UnitDef) → Contains from unit → Contains to unit) where
  units_more : (of : Rule) (at : Place) (also : List Place) → UnitsFail from of at also → UnitsFail to of at also
  units_more rule.Pause at also h = let fails : FailsPause from at also = h in pause_in from to at also fails (more fails.unit fails.is_there)
  units_more rule.Conflict at also h =
      let fails : FailsConflict from at also = h in conflict_in from to at also fails (more fails.unit fails.is_there)
  units_more rule.Alias at also h = let fails : FailsAlias from at also = h in alias_in from to at also fails (more fails.unit fails.is_there)
  units_more rule.Instant at also h =
      let fails : FailsInstant from at also = h in instant_in from to at also fails (more fails.unit fails.is_there)
  units_more _ at also h = absurd h

  graphs_more : (of : Rule) (at : Place) (also : List Place) → GraphsFail from of at also → GraphsFail to of at also
  graphs_more rule.Twice at also h =
      let fails : FailsInPeeled FailsTwice from at also = h in tree_in from to at also FailsTwice fails (more fails.unit fails.is_there)
  graphs_more rule.Cycle at also h =
      let fails : FailsInPeeled FailsCycle from at also = h in tree_in from to at also FailsCycle fails (more fails.unit fails.is_there)
  graphs_more _ at also h = absurd h

  pub units_fewer : UnitsPass to → UnitsPass from
  units_fewer passes of at also h = passes of at also (units_more of at also h)

  pub graphs_fewer : GraphsPass to → GraphsPass from
  graphs_fewer passes of at also h = passes of at also (graphs_more of at also h)

-- ---- units of two lists

module _ (one two : List UnitDef) where
  pub units_left : UnitsPass (one ++ two) → UnitsPass one
  units_left passes = units_fewer one (one ++ two) (Contains-append_left one two) passes

  pub units_right : UnitsPass (one ++ two) → UnitsPass two
  units_right passes = units_fewer two (one ++ two) (Contains-append_right one two) passes

  pub graphs_left : GraphsPass (one ++ two) → GraphsPass one
  graphs_left passes = graphs_fewer one (one ++ two) (Contains-append_left one two) passes

  pub graphs_right : GraphsPass (one ++ two) → GraphsPass two
  graphs_right passes = graphs_fewer two (one ++ two) (Contains-append_right one two) passes

  pub units_both : UnitsPass one → UnitsPass two → UnitsPass (one ++ two)
  units_both first second rule.Pause at also h =
      let fails : FailsPause (one ++ two) at also = h in
      ⊎_elim (λ there. first rule.Pause at also (pause_in (one ++ two) one at also fails there))
      (λ there. second rule.Pause at also (pause_in (one ++ two) two at also fails there))
      (Contains-append_cases one two fails.unit fails.is_there)
  units_both first second rule.Conflict at also h =
      let fails : FailsConflict (one ++ two) at also = h in
      ⊎_elim (λ there. first rule.Conflict at also (conflict_in (one ++ two) one at also fails there))
      (λ there. second rule.Conflict at also (conflict_in (one ++ two) two at also fails there))
      (Contains-append_cases one two fails.unit fails.is_there)
  units_both first second rule.Alias at also h =
      let fails : FailsAlias (one ++ two) at also = h in
      ⊎_elim (λ there. first rule.Alias at also (alias_in (one ++ two) one at also fails there))
      (λ there. second rule.Alias at also (alias_in (one ++ two) two at also fails there))
      (Contains-append_cases one two fails.unit fails.is_there)
  units_both first second rule.Instant at also h =
      let fails : FailsInstant (one ++ two) at also = h in
      ⊎_elim (λ there. first rule.Instant at also (instant_in (one ++ two) one at also fails there))
      (λ there. second rule.Instant at also (instant_in (one ++ two) two at also fails there))
      (Contains-append_cases one two fails.unit fails.is_there)
  units_both first second _ at also h = absurd h

  pub graphs_both : GraphsPass one → GraphsPass two → GraphsPass (one ++ two)
  graphs_both first second rule.Twice at also h =
      let fails : FailsInPeeled FailsTwice (one ++ two) at also = h in
      ⊎_elim (λ there. first rule.Twice at also (tree_in (one ++ two) one at also FailsTwice fails there))
      (λ there. second rule.Twice at also (tree_in (one ++ two) two at also FailsTwice fails there))
      (Contains-append_cases one two fails.unit fails.is_there)
  graphs_both first second rule.Cycle at also h =
      let fails : FailsInPeeled FailsCycle (one ++ two) at also = h in
      ⊎_elim (λ there. first rule.Cycle at also (tree_in (one ++ two) one at also FailsCycle fails there))
      (λ there. second rule.Cycle at also (tree_in (one ++ two) two at also FailsCycle fails there))
      (Contains-append_cases one two fails.unit fails.is_there)
  graphs_both first second _ at also h = absurd h

-- ---- no units

pub units_none : UnitsPass []
units_none rule.Pause at also h = let fails : FailsPause [] at also = h in contains_none fails.unit fails.is_there
units_none rule.Conflict at also h = let fails : FailsConflict [] at also = h in contains_none fails.unit fails.is_there
units_none rule.Alias at also h = let fails : FailsAlias [] at also = h in contains_none fails.unit fails.is_there
units_none rule.Instant at also h = let fails : FailsInstant [] at also = h in contains_none fails.unit fails.is_there
units_none _ at also h = absurd h

pub graphs_none : GraphsPass []
graphs_none rule.Twice at also h = let fails : FailsInPeeled FailsTwice [] at also = h in contains_none fails.unit fails.is_there
graphs_none rule.Cycle at also h = let fails : FailsInPeeled FailsCycle [] at also = h in contains_none fails.unit fails.is_there
graphs_none _ at also h = absurd h
