-- The blocks of nodes at which an act is done do what a pass by rules does there.
use Rattle.std.proofs.Common.{◌≡◌, ℕ, Bool, true, false, List, ◌++◌, Some, None, sym, ap, ◌∙◌, subst}
use Rattle.std.specs.Prelude.{nat_eq, slice_get, take}
use Rattle.std.specs.List.{list_any}
use Rattle.std.proofs.lemmas.Bool.{false_from_ne_true}
use Rattle.bl_tree.proofs.Basics.{true_not_false}
use Rattle.bl_tree.specs.declared.tree.Stmt.{out-Stmt}
use Rattle.bl_tree.specs.declared.tree.StmtKind.{out-StmtKind}
use Rattle.bl_tree.specs.declared.tree.StructDef.{StructDef}
use Rattle.bl_tree.specs.declared.tree.Unit.{Unit as UnitDef}
use Rattle.bl_tree.specs.declared.value.Value.{Value}
use Rattle.bl_tree.specs.Typing.{site_of}
use Rattle.bl_graph_nodes.specs.Nodes.{ActAt, nodes_in}
use Rattle.bl_graph_nodes.specs.Plain.{plain_body}
use Rattle.bl_machine_prevs.specs.Declared.{prevs_at}
use Rattle.bl_machine_prevs.specs.Prevs.{prevs_in}
use Rattle.bl_ctext_semantics.specs.Course.{Outcome}
use Rattle.bl_ctext_semantics.specs.Meaning.{Scope, block_c}
use Rattle.bl_ctext_semantics.specs.Memory.{Memory}
use Rattle.bl_ctree.specs.Instances.{Setting, setting_of}
use Rattle.bl_ctree.specs.Store.{Store, view_at}
use Rattle.bl_ctree_laws.specs.Ends.{done_by}
use Rattle.bl_emit_acts.specs.Acts.{act_code}
use Rattle.bl_emit_acts_laws_simulation.specs.Acts.{before_after}
use Rattle.bl_emit_acts_laws_simulation.specs.Laws.{ActsSimulate, FramesApart}
use Rattle.bl_emit_spec.specs.Activities.{activity_view, copies_of}
use Rattle.bl_emit_spec.specs.Blocks.{changes_code, node_code}
use Rattle.bl_emit_spec_laws.specs.Registers.Laws.{RegistersKeepApart}
use Rattle.bl_machine_pass.specs.Registers.{Registers, after_rule, all_changed}
use Rattle.bl_machine_pass.specs.Transitions.{Transition}
use Rattle.bl_machine_pass_laws_execution.specs.Executes.{deed_at, recopied, recopied_kind}
use Rattle.bl_machine_pass_laws_execution.specs.Frames.{Frames}
use Rattle.bl_emit_spec_laws.specs.Calls.Built.{Activities, activity_at, rank_by, unit_number}
use Rattle.bl_emit_spec_laws.specs.Calls.Laws.{PartSimulates, block_done}
use Rattle.bl_emit_spec_laws.specs.Calls.Invariant.{PassRepresents}
use Rattle.bl_emit_spec_laws_nodes.specs.Points.Acts.{ActNodesSimulate}
use Rattle.bl_emit_spec_laws.specs.Registers.Laws.{ends_body}
use Rattle.bl_emit_spec_laws_nodes.specs.Points.Laws.{ChangesSimulateInPass, ResultTold, is_return_node}
use Rattle.bl_emit_spec_laws_nodes.specs.Points.Nodes.{AgreeAt}
use Rattle.bl_emit_spec_laws_nodes.proofs.OnPoints.ActNodes.{act_cut, act_did, act_goes, act_is, act_keeps, act_performs}
use Rattle.bl_emit_spec_laws_nodes.proofs.OnPoints.ActNodes.{act_stands, act_stops, act_traps, acted_is}
use Rattle.bl_emit_spec_laws_nodes.proofs.OnPoints.ActNodes.{append_goes, append_traps, no_return, recopied_is}
use Rattle.bl_emit_spec_laws_nodes.proofs.OnPoints.Besides.{site_is}
use Rattle.bl_emit_spec_laws_nodes.proofs.OnPoints.Shown.{ends_true}
use Rattle.bl_emit_spec_laws_nodes.proofs.OnPoints.Silent.{comes_as, over_after}
use Rattle.bl_emit_acts_laws_simulation.proofs.Begun.{or_other}

-- what is left where something was done that answers true
pub as_left : (w : Setting) (activities : Activities) (i : ℕ) (unit : UnitDef) (scope : Scope) (r : Registers) (rule : Transition) (here : Memory)
    (o : Outcome Memory) (frames frames' : Frames) (left : Store) (copies copied : List Value) (answer : Bool) → frames' ≡ frames → answer ≡ true →
    copied ≡ copies → PartSimulates w activities i unit scope frames left copies (all_changed (rank_by w activities i) rule.on_true r) here o →
    PartSimulates w activities i unit scope frames' left copied (after_rule (rank_by w activities i) rule answer r) here o
as_left w activities i unit scope r rule here o frames frames' left copies copied answer same_frames same_answer same_copies comes =
    subst (λ f. PartSimulates w activities i unit scope f left copied (after_rule (rank_by w activities i) rule answer r) here o) (sym same_frames)
    (subst (λ b. PartSimulates w activities i unit scope frames left copied (after_rule (rank_by w activities i) rule b r) here o) (sym same_answer)
    (subst (λ c. PartSimulates w activities i unit scope frames left c (after_rule (rank_by w activities i) rule true r) here o) (sym same_copies)
    comes))

pub act_nodes_simulate : ChangesSimulateInPass → FramesApart → RegistersKeepApart →
    (structs : List StructDef) (units : List UnitDef) (entry : ℕ) →
    ActsSimulate structs units entry → ActNodesSimulate structs units entry
act_nodes_simulate stand apart keep structs units entry come machine activities keeps own ends remembering nodes views agree none seen = record {
  acts = λ i unit scope frames store copies r rule u answer frames' left here midway there act called sees performs.
      let w = setting_of structs units entry in
      let a = activity_at w activities i in
      let k = unit_number w i in
      let number = rank_by w activities i in
      let there_unit = midway.function.is_there in
      let found = act_is rule.node act in
      let l = found.0 in
      let s = found.1 in
      let n_is = found.2 in
      let is = found.3 in
      let layer = out-StmtKind (out-Stmt s).what in
      let site = site_of structs (take k units) unit in
      let node : slice_get (nodes_in (plain_body unit.body)) called.position ≡ Some (ActAt l s) = called.node ∙ ap Some n_is in
      let agreeing : AgreeAt (prevs_in s) copies (view_at w store i).before =
      λ x named. sees x (ap (λ n. list_any (nat_eq x) (prevs_at n)) n_is ∙ named) in
      let performed = act_performs w activities i frames store rule.node answer frames' left act performs in
      let did = subst (λ n. done_by w (deed_at i n) store ≡ Some (record { answer = answer; store = left })) n_is performed.1 in
      let made = act_did w i s store left answer layer is did in
      let values = made.0 in
      let did_so = subst (λ b. done_by w (deed_at i (ActAt l s)) store ≡ Some (record { answer = b; store = left })) made.2 did in
      let act_c = act_code site (copies_of unit) s in
      let changes_c = changes_code (activity_view a) rule.on_true in
      let mid = (block_c act_c scope here).memory in
      let after_copies = before_after layer values copies in
      let goes =
      act_goes apart keep structs units entry keeps come machine activities remembering nodes views agree none seen i unit scope frames store
      copies r
      here midway l s called.position node is agreeing values left made.1 did_so in
      let stood =
      act_stands apart keep structs units entry keeps come machine activities remembering nodes views agree none seen i unit scope frames
      store copies r
      here midway l s called.position node is agreeing values left made.1 did_so in
      let kept =
      act_keeps apart keep structs units entry keeps come machine activities remembering nodes views agree none seen i unit scope frames store
      copies r
      here midway l s called.position node is agreeing values left made.1 did_so in
      let no_ret : is_return_node rule.node ≡ false = ap is_return_node n_is ∙ no_return layer is in
      let told : ResultTold unit i scope left (all_changed number rule.on_true r) mid =
      λ value over one at. stood.result value
      (or_other r.over (list_any ends_body rule.on_true) (over_after number rule.on_true r over)
      (false_from_ne_true (list_any ends_body rule.on_true)
      (λ ending. true_not_false (sym (ends_true activities units ends i unit w rule there there_unit midway.function.active one ending) ∙ no_ret)))) one at in
      let changed =
      stand structs units entry machine activities i unit scope frames left after_copies r mid rule.on_true midway.compiled midway.function
      midway.is_there
      remembering stood (own.on_true i unit rule midway.is_there there) told in
      let alike = append_goes scope act_c changes_c here goes in
      let whole = block_c (act_c ++ changes_c) scope here in
      let comes : PartSimulates w activities i unit scope frames left after_copies (all_changed number rule.on_true r) here whole = record {
        ends = alike.0 ∙ changed.ends;
        stands =
            subst (PassRepresents w activities i unit scope frames left after_copies (all_changed number rule.on_true r)) (sym alike.1) changed.stands;
        kept = λ root way older outside.
            ap (λ (m : Memory). m root way) alike.1 ∙ (changed.kept root way older outside ∙ kept root way older outside);
      } in
      let code_is : node_code (activity_view a) u rule rule.node ≡ act_c ++ changes_c =
      ap (node_code (activity_view a) u rule) n_is
      ∙ ap (λ code. code ++ changes_c) (acted_is (activity_view a) s layer is
      ∙ (ap (λ site. act_code site (activity_view a).copies s)
      (site_is apart structs units entry views machine activities i unit scope frames store copies r here midway)
      ∙ ap (λ (unit : UnitDef). act_code site (copies_of unit) s) (midway.compiled.built.unit k unit there_unit))) in
      let done = block_done w activities i u rule scope here in
      let seen_now =
      seen.own i unit l s store left values
      (record {
        is_there = midway.is_there;
        position = called.position;
        node = node;
        act = is;
        fitting = midway.fits;
        outcome = made.1;
        done = did_so;
      }) in
      as_left w activities i unit scope r rule here done frames frames' left after_copies (recopied w i rule.node left copies) answer
      performed.0 made.2
      (ap (λ n. recopied w i n left copies) n_is
      ∙ (ap (λ now. recopied_kind layer now copies) seen_now ∙ recopied_is layer values copies is))
      (comes_as w activities i unit scope frames left after_copies (all_changed number rule.on_true r) here done whole
      (ap (λ code. (block_c code scope here).end) code_is) (ap (λ code. (block_c code scope here).memory) code_is) comes);
  stops = λ i unit scope frames store copies r rule u here midway there act called sees stops.
      let w = setting_of structs units entry in
      let a = activity_at w activities i in
      let k = unit_number w i in
      let there_unit = midway.function.is_there in
      let found = act_is rule.node act in
      let l = found.0 in
      let s = found.1 in
      let n_is = found.2 in
      let is = found.3 in
      let layer = out-StmtKind (out-Stmt s).what in
      let site = site_of structs (take k units) unit in
      let node : slice_get (nodes_in (plain_body unit.body)) called.position ≡ Some (ActAt l s) = called.node ∙ ap Some n_is in
      let agreeing : AgreeAt (prevs_in s) copies (view_at w store i).before =
      λ x named. sees x (ap (λ n. list_any (nat_eq x) (prevs_at n)) n_is ∙ named) in
      let did =
      subst (λ n. done_by w (deed_at i n) store ≡ None) n_is (act_stops w activities i frames store rule.node act stops) in
      let act_c = act_code site (copies_of unit) s in
      let changes_c = changes_code (activity_view a) rule.on_true in
      let code_is : node_code (activity_view a) u rule rule.node ≡ act_c ++ changes_c =
      ap (node_code (activity_view a) u rule) n_is
      ∙ ap (λ code. code ++ changes_c) (acted_is (activity_view a) s layer is
      ∙ (ap (λ site. act_code site (activity_view a).copies s)
      (site_is apart structs units entry views machine activities i unit scope frames store copies r here midway)
      ∙ ap (λ (unit : UnitDef). act_code site (copies_of unit) s) (midway.compiled.built.unit k unit there_unit))) in
      let cut =
      act_traps apart keep structs units entry keeps come machine activities remembering nodes views agree none seen i unit scope frames store
      copies r
      here midway l s called.position node is agreeing (act_cut w i s store layer is did) in
      (ap (λ code. (block_c code scope here).end) code_is ∙ append_traps scope act_c changes_c here cut);
}
