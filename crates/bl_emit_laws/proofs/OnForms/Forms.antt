-- All is so that is asked of needed units.
use Rattle.std.proofs.Common.{◌≡◌, ℕ, suc, ◌+◌, ◌^◌, ◌<◌, ◌≤◌, arith, Bool, true, false, List, [], ◌∷◌, ◌++◌}
use Rattle.std.proofs.Common.{map, take, drop, length, Some, cond, refl, sym, ap, ◌∙◌, subst, append_assoc}
use Rattle.std.proofs.lemmas.List.{length-append}
use Rattle.std.specs.List.{list_all}
use Rattle.std.specs.Prelude.{Contains, slice_get, if◌then◌else◌}
use Rattle.bl_tree.proofs.Basics.{contains_at, get_seam, take_front}
use Rattle.bl_tree.specs.declared.tree.StructDef.{StructDef}
use Rattle.bl_tree.specs.declared.tree.Unit.{Unit as UnitDef}
use Rattle.bl_tree.specs.Program.{IsWellTyped}
use Rattle.bl_tree.specs.Reduce.{greatest, total}
use Rattle.bl_tree.specs.Typing.{is_activity}
use Rattle.bl_cause.specs.Activities.{EachTwo, activities}
use Rattle.bl_effects.specs.Rules.{Passes}
use Rattle.bl_limits.specs.Rules.{Passes as KeepsLimits}
use Rattle.bl_limits_measures.specs.Calls.{calls_of}
use Rattle.bl_limits_measures.specs.Laws.{CellsAdd}
use Rattle.bl_limits_measures.specs.Runs.{activities_by_place}
use Rattle.bl_limits_measures.specs.Statements.{cell_statements_of}
use Rattle.bl_limits_measures.specs.Units.{cells_at, variables_of}
use Rattle.bl_limits_measures_laws.specs.Laws.{UnitsUseEarlierOnes}
use Rattle.bl_graph.specs.Edges.{Entry}
use Rattle.bl_graph_nodes.specs.Nodes.{Node, entry as entry_of, nodes_in}
use Rattle.bl_graph_nodes.specs.Plain.{Block, Plain, Then, plain_body}
use Rattle.bl_machine.specs.declared.machine.Activity.{Activity as InMachine}
use Rattle.bl_machine.specs.Layout.{places_in}
use Rattle.bl_machine.specs.Machines.{IsActivityOf}
use Rattle.bl_machine.specs.Uses.{Slots}
use Rattle.bl_machine_laws.specs.Rests.{ActivitiesCount}
use Rattle.bl_machine_pass.specs.Transitions.{Transition, rules}
use Rattle.bl_machine_pass_laws.specs.Spots.{SpotsDiffer}
use Rattle.bl_machine_prevs_laws.specs.Scalar.{PrevsAreScalar}
use Rattle.bl_emit_functions_laws_wellformed.specs.Formed.{IsNumbered}
use Rattle.bl_emit_spec.specs.Activities.{Activity, activity_view}
use Rattle.bl_emit_spec.specs.Programs.{activity_of, needed_units, parts_of_function, parts_of_next}
use Rattle.bl_emit_spec_laws.specs.Calls.Built.{last_rules, registered}
use Rattle.bl_emit_spec_laws.specs.Registers.Laws.{changes_its_own}
use Rattle.bl_emit_spec_laws_wellformed_bodies.specs.Bodies.{OwnsRules}
use Rattle.bl_emit_spec_laws_nodes.specs.Copied.{NodesCopied, RunsCopied}
use Rattle.bl_emit_spec_laws_wellformed.specs.Counts.{NodesCounted}
use Rattle.bl_emit_spec_laws_wellformed_bodies.specs.Lists.{ActivityConditions, AllConditions, UnitConditions}
use Rattle.bl_emit_spec_laws_wellformed.specs.Machines.{IsModest, MachinesDiffer, MachinesSpell}
use Rattle.bl_emit_spec_laws_wellformed.specs.Needed.{NeededNumbered, NeededSmall}
use Rattle.bl_emit_spec_laws.proofs.OnOwn.Owning.{asks_on, changes_on, copied_below, entry_rule, flag_on}
use Rattle.bl_emit_spec_laws.proofs.OnPlaced.Placing.{Laws as PlacingLaws, entry_first, first_among, flags_first, last_among}
use Rattle.bl_emit_laws.proofs.OnForms.Copying.{copies-suffice}
use Rattle.bl_emit_laws.specs.Forms.{UnitsMeetConditions}
use Rattle.bl_emit_spec_laws_wellformed.proofs.OnMachines.Whole.{enough}
use Rattle.bl_emit_spec_laws_simulation.proofs.OnCompiled.Owning.{places_small}

-- what the laws below promise
pub record Promised (structs : List StructDef) (units : List UnitDef) (entry : ℕ) : Type 0 where
  pub uses : UnitsUseEarlierOnes
  pub add : CellsAdd
  pub nodes_counted : NodesCounted structs units entry
  pub counted : ActivitiesCount
  pub spell : MachinesSpell structs units entry
  pub differ : MachinesDiffer structs units entry
  pub small : NeededSmall structs units entry
  pub numbered : NeededNumbered structs units entry
  pub spots : SpotsDiffer
  pub placing : PlacingLaws
  pub nodes : (slots : Slots) (body : Block) → map (λ (rule : Transition). rule.node) (rules slots body) ≡ nodes_in body
  pub copied : NodesCopied
  pub runs : RunsCopied
  pub scalar : PrevsAreScalar

module _ (structs : List StructDef) (units : List UnitDef) (entry : ℕ) (laws : Promised structs units entry) (keeps : IsWellTyped structs units entry)
    (passes : Passes units) (limits : KeepsLimits structs units entry) where
  -- these tests tell of the units behind so many which are needed
  abbrev Told : ℕ → List Bool → Type 0
  Told n needed = (j : ℕ) → slice_get needed j ≡ Some true → slice_get (needed_units units entry) (n + j) ≡ Some true

  told_rest : (n : ℕ) (test : Bool) (needed : List Bool) → Told n (test ∷ needed) → Told (suc n) needed
  told_rest n test needed told j is = subst (λ m. slice_get (needed_units units entry) m ≡ Some true) (omega arith) (told (suc j) is)

  statements_less : (k : ℕ) (unit : UnitDef) → slice_get units k ≡ Some unit → cell_statements_of unit ≤ cells_at structs units k
  statements_less k unit there =
      subst (λ n. cell_statements_of unit ≤ n) (sym (laws.add structs units k unit (laws.uses structs units keeps.units_stand) there))
      (enough unit.kind (variables_of structs unit) (cell_statements_of unit) (total (map (cells_at structs units) (activities_by_place unit)))
      (greatest (map (cells_at structs units) (calls_of unit))))

  module _ (earlier : List UnitDef) (unit : UnitDef) (rest : List UnitDef) (whole : earlier ++ unit ∷ rest ≡ units) (remember : List Bool) where
    abbrev k : ℕ
    k = length earlier

    there : slice_get units k ≡ Some unit
    there = ap (λ units. slice_get units (length earlier)) (sym whole) ∙ get_seam earlier unit rest

    before : take k units ≡ earlier
    before = ap (take (length earlier)) (sym whole) ∙ take_front earlier (unit ∷ rest)

    module _ (one : InMachine) (active : is_activity unit.kind ≡ true) (needed : slice_get (needed_units units entry) k ≡ Some true)
        (own : IsActivityOf unit one) where
      abbrev a : Activity
      a = activity_of structs (take k units) remember unit one

      modest : IsModest structs units k unit one
      modest = record { there = there; of_unit = own; cells = laws.small k keeps limits needed }

      few_places : places_in (plain_body unit.body) < 2 ^ 32
      few_places =
          places_small (places_in (plain_body unit.body)) (cell_statements_of unit) (cells_at structs units k)
          (laws.nodes_counted k unit keeps there).places (statements_less k unit there) modest.cells

      changes : (rule : Transition) → Contains (last_rules a) rule →
          (list_all (changes_its_own (activity_view a).number (registered a)) rule.on_true ≡ true)
          × (list_all (changes_its_own (activity_view a).number (registered a)) rule.on_false ≡ true)
      changes rule last =
          changes_on a one.slots laws.spots refl refl own.counters rule (last_among laws.placing a unit one refl refl refl refl own.order rule last)
          (λ change among other may has. flags_first laws.placing a unit one refl refl refl refl own.order rule other change last among may has)

      begins : (s : Plain) (rest : Block) → plain_body unit.body ≡ Then s rest → (registered a).flags ((activity_view a).number (entry_of s)) ≡ true
      begins s rest is =
          let at : Entry (plain_body unit.body) (entry_of s) = subst (λ (body : Block). Entry body (entry_of s)) (sym is) refl in
          let flag = entry_rule a one.slots laws.spots refl refl own.counters (entry_of s) at in
          flag_on a one.slots laws.spots refl refl own.counters (entry_of s) flag
          (entry_first laws.placing a unit one refl refl refl refl own.order flag.rule flag.there
          (subst (λ (n : Node). Entry (plain_body unit.body) n) (sym flag.is) at))

      owns : OwnsRules a
      owns = record {
        once = own.order.all;
        asks = λ rule first.
            asks_on a one.slots laws.spots refl refl own.counters few_places rule
            (first_among laws.placing a unit one refl refl refl refl own.order rule first) first;
        on_true = λ rule last. (changes rule last).0;
        on_false = λ rule last. (changes rule last).1;
        begins = begins;
        some = laws.counted structs units entry unit one keeps passes (contains_at units k unit there) active own;
        read = λ c on. copied_below a one.slots laws.spots refl refl own.counters c on;
      }

      forms : ActivityConditions structs units k a
      forms = record {
        can = laws.spell k unit one remember keeps modest;
        differ = laws.differ k unit one remember keeps modest;
        owns = owns;
        copies = copies-suffice structs units entry k a keeps there laws.nodes laws.copied laws.runs laws.scalar;
      }

      activity_forms : ActivityConditions structs units k (activity_of structs earlier remember unit one)
      activity_forms = subst (λ before. ActivityConditions structs units k (activity_of structs before remember unit one)) before forms

    -- what is listed of a unit and those behind it, an activity or a function
    abbrev Listed : Bool → Bool → List Bool → List InMachine → Type 0
    Listed active test needed machine =
        UnitConditions active test structs units earlier remember unit machine
        × AllConditions structs units (earlier ++ unit ∷ [])
        (remember ++ (if active then parts_of_next structs earlier remember unit machine else parts_of_function structs earlier unit).remember)
        rest needed (if active then drop 1 machine else machine)

    -- those behind it are
    abbrev Behind : Type 0
    Behind = (remember : List Bool) (needed : List Bool) (machine : List InMachine) → Told (suc k) needed →
        EachTwo IsActivityOf (activities rest) machine →
        AllConditions structs units (earlier ++ unit ∷ []) remember rest needed machine

    own_needed : (needed : List Bool) → Told k (true ∷ needed) → slice_get (needed_units units entry) k ≡ Some true
    own_needed needed told = subst (λ m. slice_get (needed_units units entry) m ≡ Some true) (omega arith) (told 0 refl)

    listed : (active test : Bool) (needed : List Bool) (machine : List InMachine) → is_activity unit.kind ≡ active → Told k (test ∷ needed) →
        EachTwo IsActivityOf (cond active (unit ∷ activities rest) (activities rest)) machine →
        Behind → Listed active test needed machine
    listed true test needed [] is told own behind = absurd own
    listed true true needed (one ∷ machine) is told own behind = (
      activity_forms one is (own_needed needed told) own.0,
      behind _ needed machine (told_rest k true needed told) own.1,
    )
    listed true false needed (one ∷ machine) is told own behind = (tt, behind _ needed machine (told_rest k false needed told) own.1)
    listed false true needed machine is told own behind = (
      subst (λ before. IsNumbered structs before unit) before (laws.numbered k unit keeps limits there (own_needed needed told)),
      behind _ needed machine (told_rest k true needed told) own,
    )
    listed false false needed machine is told own behind = (tt, behind _ needed machine (told_rest k false needed told) own)

  length_one : (earlier : List UnitDef) (unit : UnitDef) → length (earlier ++ unit ∷ []) ≡ suc (length earlier)
  length_one earlier unit = let all = length-append earlier (unit ∷ []) in omega arith

  all_forms : (earlier : List UnitDef) (remember : List Bool) (rest : List UnitDef) (needed : List Bool) (machine : List InMachine) →
      earlier ++ rest ≡ units → Told (length earlier) needed → EachTwo IsActivityOf (activities rest) machine →
      AllConditions structs units earlier remember rest needed machine
  all_forms earlier remember [] needed machine whole told own = tt
  all_forms earlier remember (unit ∷ rest) [] machine whole told own = tt
  all_forms earlier remember (unit ∷ rest) (test ∷ needed) machine whole told own =
      listed earlier unit rest whole remember (is_activity unit.kind) test needed machine refl told own
      (λ remember needed machine told own.
      all_forms (earlier ++ unit ∷ []) remember rest needed machine (append_assoc earlier (unit ∷ []) rest ∙ whole)
      (subst (λ n. Told n needed) (sym (length_one earlier unit)) told) own)

pub behind_none : (needed : List Bool) (n j : ℕ) → n ≡ 0 → slice_get needed j ≡ Some true → slice_get needed (n + j) ≡ Some true
behind_none needed n j none is = subst (λ m. slice_get needed m ≡ Some true) (omega (arith, none)) is

pub form : (structs : List StructDef) (units : List UnitDef) (entry : ℕ) → Promised structs units entry → UnitsMeetConditions structs units entry
form structs units entry laws machine keeps passes limits agrees =
    let needed : List Bool = needed_units units entry in
    all_forms structs units entry laws keeps passes limits [] [] units needed machine refl
    (λ j is. behind_none needed (length {A = UnitDef} []) j refl is) agrees
