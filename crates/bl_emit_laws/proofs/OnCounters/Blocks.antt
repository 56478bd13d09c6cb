-- The function of each activity of a written file has one `if` for each block that the machine has for it, and the flags that these ask for.
use Rattle.std.proofs.Common.{◌≡◌, ⊎_elim, ℕ, ◌<◌, true, List, [], ◌∷◌, Contains, length, map, Some, sym, ap, subst, ◌∙◌}
use Rattle.std.proofs.lemmas.Slice.Eq.{bytes_eq-Decides}
use Rattle.std.specs.List.{list_all}
use Rattle.std.specs.Prelude.{IsPermutation, bytes_eq, filter, option_and_then, slice_get}
use Rattle.bl_tree.proofs.Basics.{contains_none, first_or_further, index_of, map_length, same_some}
use Rattle.bl_tree.specs.declared.c.CFunc.{CFunc}
use Rattle.bl_tree.specs.declared.c.CStmt.{CStmt}
use Rattle.bl_tree.specs.declared.program.Program.{Program}
use Rattle.bl_tree.specs.declared.text.Text.{Text}
use Rattle.bl_tree.specs.declared.tree.Unit.{Unit as UnitDef}
use Rattle.bl_tree.specs.Program.{IsWellTyped}
use Rattle.bl_tree.specs.Reduce.{joined}
use Rattle.bl_tree.specs.Typing.{is_activity}
use Rattle.bl_cause.proofs.ListLemmas.{filter_keeps}
use Rattle.bl_cause.proofs.PairLemmas.{each_at, filtered_at}
use Rattle.bl_cause.specs.Activities.{activities as activities_among, graph_position}
use Rattle.bl_graph_nodes.specs.Nodes.{Node, nodes_in}
use Rattle.bl_graph_nodes.specs.Plain.{Block, plain_body}
use Rattle.bl_ctree.specs.declared.instance.Instance.{Instance}
use Rattle.bl_ctree.specs.Instances.{Setting, setting_of, unit_of}
use Rattle.bl_ctree_laws_confluence.specs.Deeds.Orderly.{AcceptedIsOrderly, Orderly}
use Rattle.bl_ctext_semantics.specs.Faults.{WellFormed}
use Rattle.bl_ctext_semantics.specs.Parts.{Parts}
use Rattle.bl_machine.specs.declared.machine.Activity.{Activity as InMachine}
use Rattle.bl_machine.specs.Blocks.{Ordered, up_to}
use Rattle.bl_machine.specs.Machines.{AreActivitiesOf, IsActivityOf}
use Rattle.bl_machine_pass.specs.Numbered.{slots_of}
use Rattle.bl_machine_pass.specs.Transitions.{Transition, rules}
use Rattle.bl_machine_pass_laws.specs.Turns.Laws.{StaysPlaced}
use Rattle.bl_machine_transitions.specs.Callees.{callees_in}
use Rattle.bl_machine_transitions_laws.specs.Laws.{RulesAreListed}
use Rattle.bl_emit_acts.specs.Types.{unit_name}
use Rattle.bl_emit_spec.specs.Activities.{Activity, activity_code, activity_function, activity_view, blocks_code, blocks_in_order, body_of, first_rules}
use Rattle.bl_emit_spec.specs.Activities.{first_positions, is_flagged, picked, rules_at, turns_in_source}
use Rattle.bl_emit_spec.specs.Blocks.{ActivityView, NodeCode, turns_of}
use Rattle.bl_emit_spec_laws.specs.Calls.Built.{Activities, AreBuilt, MadeOf}
use Rattle.bl_emit_spec_laws_wellformed.specs.Closed.{InstancesNeeded}
use Rattle.bl_emit_spec_laws.proofs.OnPlaced.Lists.{number_below}
use Rattle.bl_emit_spec_laws.proofs.OnRemember.Entering.{callees_in_many}
use Rattle.bl_emit_spec_laws.specs.Tables.Laws.{ActivitiesBuilt}
use Rattle.bl_emit_laws.specs.Kept.{FileEnds, FilesEnd, activities_in, shown_file}
use Rattle.bl_emit_spec_laws_wellformed.proofs.OnNumbers.Whole.{many-rules}
use Rattle.bl_emit_laws.specs.Counters.Flags.{HasFlagForEach, decides, flags_asked, flags_in_turn, inside, own_many, rules_by, rules_first, rules_in_blocks}
use Rattle.bl_emit_laws.specs.Counters.Ifs.{FunctionHasIfs, ifs_in}
use Rattle.bl_emit_laws.specs.Counters.Laws.{FilesHaveIfs}
use Rattle.bl_emit_laws.specs.Counters.Own.{functions_named}
use Rattle.bl_emit_laws.proofs.OnCounters.Asked.{blocks_ask, blocks_decide, own_are, own_by, own_lengths}
use Rattle.bl_emit_laws.proofs.OnCounters.Decided.{turns_decide}
use Rattle.bl_emit_laws.proofs.OnCounters.Flags.{asked_many, locals_are}
use Rattle.bl_emit_laws.proofs.OnCounters.Ifs.{blocks_many, body_has, ifs_are}
use Rattle.bl_emit_laws.proofs.OnCounters.Once.{function_alone}
use Rattle.bl_emit_laws.proofs.OnCounters.Whole.{function_there}
use Rattle.bl_emit_spec_laws.proofs.OnPlaced.Placing.{turns_many}

-- ---- turns

-- an activity has one turn for each node of its body
module _ (placed : StaysPlaced) (listed : RulesAreListed) (a : Activity) (unit : UnitDef) (one : InMachine) (unit_is : a.unit ≡ unit)
    (slots_are : a.slots ≡ slots_of (plain_body unit.body) one.slots)
  where
    abbrev body : Block
    body = plain_body unit.body

    abbrev rs : List Transition
    rs = rules a.slots body

    many_rules : length rs ≡ length (nodes_in body)
    many_rules = sym (map_length (λ (rule : Transition). rule.node) rs) ∙ ap (λ (xs : List Node). length xs) (placed.nodes a.slots body)

    many_callees : length (callees_in body) ≡ length rs
    many_callees = listed.each unit.body one.slots ∙ ap (λ slots. length (rules slots body)) (sym slots_are)

    turns_are : turns_in_source a ≡ turns_of (activity_view a) (callees_in body) rs
    turns_are = ap (λ (u : UnitDef). turns_of (activity_view a) (callees_in (plain_body u.body)) (rules a.slots (plain_body u.body))) unit_is

    many_turns : length (turns_in_source a) ≡ length (nodes_in body)
    many_turns = ap (λ (xs : List NodeCode). length xs) turns_are ∙ turns_many (activity_view a) (callees_in body) rs many_callees ∙ many_rules

    many_ifs : a.blocks ≡ one.blocks → Ordered (plain_body unit.body) one.blocks → length (blocks_in_order a) ≡ length one.blocks
    many_ifs blocks_are ordered =
        ap (λ (blocks : List (List ℕ)). length (blocks_code (activity_view a).word (turns_in_source a) blocks)) blocks_are
        ∙ blocks_many (activity_view a).word (turns_in_source a) one.blocks ordered.filled within
      where
        within : (k : ℕ) → Contains (joined one.blocks) k → k < length (turns_in_source a)
        within k at =
            let stands = index_of (joined one.blocks) k at in
            subst (λ n. k < n) (sym many_turns) (number_below (length (nodes_in body)) (joined one.blocks) ordered.all k stands.0 stands.1)

    -- the rules of nodes are those by the machine
    rules_are : rules_at a ≡ rules_by unit one
    rules_are = ap (λ (u : UnitDef). rules a.slots (plain_body u.body)) unit_is ∙ ap (λ slots. rules slots body) slots_are

    flags_have : a.blocks ≡ one.blocks → Ordered body one.blocks → HasFlagForEach unit one (activity_function a) (ifs_in (activity_code a))
    flags_have blocks_are ordered =
        let view : ActivityView = activity_view a in
        let callees : List ℕ = callees_in (body_of a) in
        let many : length callees ≡ length (rules_at a) = callees_in_many (body_of a) ∙ sym (many-rules a) in
        let locals = locals_are a in
        let blocks : List (List Transition) = map (picked (rules_at a)) a.blocks in
        let first_are : first_rules a ≡ rules_first unit one = λ i. picked (rules_are i) (first_positions (blocks_are i)) in
        let these : blocks ≡ rules_in_blocks unit one = λ i. map (picked (rules_are i)) (blocks_are i) in
        record {
          own = map (own_by view) blocks;
          each = own_lengths view blocks ∙ ap (map own_many) these;
          all = own_are view callees (rules_at a) many a.blocks within ∙ sym locals;
          many = ap (λ (names : List Text). length names) locals ∙ asked_many view (first_rules a)
              ∙ ap (λ (some : List Transition). length (filter (λ (rule : Transition). is_flagged rule.condition) some)) first_are;
          asked = ap (λ (ifs : List CStmt). map flags_asked ifs) (ifs_are a) ∙ blocks_ask view callees (rules_at a) many a.blocks filled within
              ∙ ap (λ (rules : List (List Transition)). flags_in_turn [] [] rules (map (own_by view) blocks)) these;
          decided = ap (λ (ifs : List CStmt). list_all decides (joined (map inside ifs))) (ifs_are a)
              ∙ blocks_decide view.word (turns_in_source a) a.blocks (turns_decide view callees (rules_at a));
        }
      where
        once : IsPermutation (up_to (length (nodes_in (body_of a)))) (joined a.blocks)
        once =
            subst (λ (u : UnitDef). IsPermutation (up_to (length (nodes_in (plain_body u.body)))) (joined a.blocks)) (sym unit_is)
            (subst (λ (blocks : List (List ℕ)). IsPermutation (up_to (length (nodes_in body))) (joined blocks)) (sym blocks_are) ordered.all)

        within : (k : ℕ) → Contains (joined a.blocks) k → k < length (rules_at a)
        within k at =
            let stands = index_of (joined a.blocks) k at in
            subst (λ n. k < n) (sym (many-rules a)) (number_below (length (nodes_in (body_of a))) (joined a.blocks) once k stands.0 stands.1)

        filled : (block : List ℕ) → Contains a.blocks block → 0 < length block
        filled block at = ordered.filled block (subst (λ (blocks : List (List ℕ)). Contains blocks block) blocks_are at)

-- ---- functions

-- the only function of a name is the one that is there
the_only : (name : Text) (file : Parts) (function one : CFunc) → Contains file.funcs function → function.name ≡ name →
    functions_named name file ≡ one ∷ [] → one ≡ function
the_only name file function one at is alone =
    let kept : Contains (functions_named name file) function =
    filter_keeps (λ (f : CFunc). bytes_eq f.name name) file.funcs function at ((bytes_eq-Decides function.name name).1 is) in
    ⊎_elim (λ same. same) (λ none. absurd (contains_none function none))
    (first_or_further one [] function (subst (λ (list : List CFunc). Contains list function) alone kept))

module _ (program : Program) (machine : List InMachine) (unit : UnitDef) (ends : FileEnds program machine unit)
    (built : AreBuilt program.structs program.units machine (activities_in program machine)) (placed : StaysPlaced) (listed : RulesAreListed)
    (needs : InstancesNeeded program.structs program.units program.entry) (keeps : IsWellTyped program.structs program.units program.entry)
    (orderly : Orderly program.structs program.units (setting_of program.structs program.units program.entry))
    (agrees : AreActivitiesOf program.units machine) (formed : WellFormed (shown_file program unit machine)) (i : ℕ) (instance : Instance) (activity : UnitDef)
    (at : slice_get (setting_of program.structs program.units program.entry).instances i ≡ Some instance)
    (there : slice_get program.units instance.unit ≡ Some activity)
  where
    abbrev w : Setting
    w = setting_of program.structs program.units program.entry

    abbrev k : ℕ
    k = instance.unit

    abbrev activities : Activities
    activities = activities_in program machine

    abbrev file : Parts
    file = shown_file program unit machine

    active : is_activity activity.kind ≡ true
    active = (orderly.each i activity (ap (option_and_then (unit_of w)) at ∙ there)).activity

    made : MadeOf activity (activities k) (slice_get machine (graph_position program.units k))
    made = built.made k activity there active

    part : IsActivityOf activity made.one
    part =
        let among = filtered_at (λ (it : UnitDef). is_activity it.kind) program.units k activity there active in
        let alone = each_at IsActivityOf (activities_among program.units) machine (graph_position program.units k) activity agrees among in
        subst (IsActivityOf activity) (same_some alone.0 made.one (sym alone.1 ∙ made.is)) alone.2

    same : (activities k).unit ≡ activity
    same = built.unit k activity there

    is_there : Contains file.funcs (activity_function (activities k))
    is_there = function_there program machine unit ends k activity there active (needs i instance keeps at)

    named : unit_name (activities k).unit.name ≡ unit_name activity.name
    named = ap (λ (u : UnitDef). unit_name u.name) same

    alone : functions_named (unit_name activity.name) file ≡ activity_function (activities k) ∷ []
    alone =
        let found = function_alone file formed (unit_name activity.name) (activity_function (activities k)) is_there named in
        found.1
        ∙ ap (λ (f : CFunc). f ∷ []) (the_only (unit_name activity.name) file (activity_function (activities k)) found.0 is_there named found.1)

    pub function_has : FunctionHasIfs activity (slice_get machine (graph_position program.units k)) file
    function_has = record {
      one = made.one;
      is = made.is;
      function = activity_function (activities k);
      functions = alone;
      body =
          body_has (activities k) made.one.blocks
          (many_ifs placed listed (activities k) activity made.one same made.slots made.blocks part.order);
      flags = flags_have placed listed (activities k) activity made.one same made.slots made.blocks part.order;
    }

pub files_have_ifs : (program : Program) → AcceptedIsOrderly → ActivitiesBuilt → StaysPlaced → RulesAreListed →
    InstancesNeeded program.structs program.units program.entry → FilesEnd program → FilesHaveIfs program
files_have_ifs program orderly built placed listed needs ends machine unit keeps passes agrees there formed i instance activity at is =
    function_has program machine unit (ends machine unit keeps agrees there) (built program.structs program.units machine agrees) placed listed needs
    keeps (orderly program.structs program.units program.entry keeps passes) agrees formed i instance activity at is
