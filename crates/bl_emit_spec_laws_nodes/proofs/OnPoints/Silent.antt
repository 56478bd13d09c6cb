-- The blocks of nodes at which nothing is done but changes.
use Rattle.std.proofs.Common.{◌≡◌, ℕ, Bool, true, false, ◌||◌, List, [], ◌∷◌, Some, None, refl, sym, ap, ◌∙◌, subst}
use Rattle.std.proofs.lemmas.Option.{same_Some}
use Rattle.std.specs.Prelude.{is_some}
use Rattle.std.specs.List.{list_any}
use Rattle.std.proofs.lemmas.Bool.{false_from_ne_true}
use Rattle.bl_tree.proofs.Basics.{true_not_false}
use Rattle.bl_tree.specs.declared.tree.Unit.{Unit as UnitDef}
use Rattle.bl_tree.specs.declared.value.Value.{Value}
use Rattle.bl_graph_nodes.specs.Nodes.{ActAt, CheckAt, DepthEndAt, DepthJoinAt, EnterAt, ForkAt, HeadAt, Node, PauseAt, ResumeAt, StartAt, SurfaceEndAt}
use Rattle.bl_graph_nodes.specs.Nodes.{SurfaceJoinAt, TestAt}
use Rattle.bl_ctext_semantics.specs.Course.{Outcome}
use Rattle.bl_ctext_semantics.specs.Meaning.{Scope, block_c}
use Rattle.bl_ctext_semantics.specs.Memory.{Memory}
use Rattle.bl_ctree.specs.Actions.{Performed}
use Rattle.bl_ctree.specs.Instances.{Setting, setting_of}
use Rattle.bl_ctree.specs.Store.{Store}
use Rattle.bl_ctree_laws.specs.Ends.{done_by}
use Rattle.bl_emit_spec.specs.Activities.{activity_view, remembers_any}
use Rattle.bl_emit_spec.specs.Blocks.{ActivityView, changes_code, node_code}
use Rattle.bl_machine_pass.specs.Registers.{Registers, after_rule, all_changed, changed}
use Rattle.bl_machine_pass.specs.Transitions.{Change, Transition}
use Rattle.bl_machine_pass.specs.Transitions.{ClearsBoth, ClearsCounter, EndsWhen, Finishes, SetsCounter, SetsFlag, SetsMark}
use Rattle.bl_machine_pass_laws_execution.specs.Executes as executes
use Rattle.bl_machine_pass_laws_execution.specs.Executes.{NodeTraps, Performs, deed_at, recopied}
use Rattle.bl_machine_pass_laws_execution.specs.Frames.{Frames}
use Rattle.bl_emit_spec_laws.specs.Calls.Built.{Activities, activity_at, cleared, rank_by, site_at, slots_by, unit_number}
use Rattle.bl_emit_spec_laws.specs.Calls.Laws.{PartSimulates, PassKeepsFrame, block_done}
use Rattle.bl_emit_spec_laws.specs.Calls.Invariant.{PassRepresents}
use Rattle.bl_emit_spec_laws_nodes.proofs.OnPoints.Shown.{ends_true}
use Rattle.bl_emit_spec_laws.specs.Registers.Laws.{ends_body}
use Rattle.bl_emit_spec_laws_nodes.specs.Points.Laws.{ChangesSimulateInPass, IsSilent, ResultTold, SilentNodesSimulate}
use Rattle.bl_emit_spec_laws_nodes.specs.Points.Laws.{is_return_node}
use Rattle.bl_emit_acts_laws_simulation.proofs.Begun.{or_other}

-- ---- when changes end the body

-- the body has ended after changes where it had before them, or one of them ends it
pub over_after : (number : Node → ℕ) (changes : List Change) (r : Registers) → (all_changed number changes r).over ≡ true →
    (r.over || list_any ends_body changes) ≡ true
over_after number [] r h = rest_no r.over h
  where
    rest_no : (over : Bool) → over ≡ true → (over || false) ≡ true
    rest_no true h = refl
    rest_no false h = h
over_after number (change ∷ rest) r h = by change (over_after number rest (changed number change r) h)
  where
    kept : (over again : Bool) → over ≡ r.over → (over || again) ≡ true → (r.over || again) ≡ true
    kept over again is h = ap (λ over. over || again) (sym is) ∙ h

    chosen : (test over again : Bool) → (over || again) ≡ true → (over || again) ≡ true
    chosen test over again h = h

    ended : (over : Bool) → (over || true) ≡ true
    ended true = refl
    ended false = refl

    by : (change : Change) → ((changed number change r).over || list_any ends_body rest) ≡ true →
        (r.over || (ends_body change || list_any ends_body rest)) ≡ true
    by (SetsFlag n) h = h
    by (SetsCounter slot) h = h
    by (ClearsCounter k) h = h
    by (ClearsBoth k) h = h
    by (SetsMark n) h = h
    by (EndsWhen start surface depth) h = by_mark (r.marks (number start)) refl h
      where
        by_mark : (begun : Bool) → r.marks (number start) ≡ begun →
            ((changed number (EndsWhen start surface depth) r).over || list_any ends_body rest) ≡ true → (r.over || list_any ends_body rest) ≡ true
        by_mark true is h = kept (changed number (EndsWhen start surface depth) r).over (list_any ends_body rest) (rw (is) refl) h
        by_mark false is h = kept (changed number (EndsWhen start surface depth) r).over (list_any ends_body rest) (rw (is) refl) h
    by Finishes h = ended r.over

-- ---- outcomes

module _ (w : Setting) (activities : Activities) (i : ℕ) (unit : UnitDef) (scope : Scope) (frames : Frames) (store : Store) (copies : List Value)
    (r : Registers) (here : Memory) where
  -- what ends alike and leaves the same comes to the same
  pub comes_as : (o p : Outcome Memory) → o.end ≡ p.end → o.memory ≡ p.memory →
      PartSimulates w activities i unit scope frames store copies r here p →
      PartSimulates w activities i unit scope frames store copies r here o
  comes_as o p end memory comes = record {
    ends = end ∙ comes.ends;
    stands = subst (PassRepresents w activities i unit scope frames store copies r) (sym memory) comes.stands;
    kept =
        subst (PassKeepsFrame (site_at w activities i) unit (remembers_any (activity_at w activities i)) scope here) (sym memory) comes.kept;
  }

-- ---- nodes

silent_code : (view : ActivityView) (u : ℕ) (rule : Transition) (n : Node) → IsSilent n → node_code view u rule n ≡ changes_code view rule.on_true
silent_code view u rule (PauseAt l at) silent = refl
silent_code view u rule (HeadAt l at) silent = refl
silent_code view u rule (StartAt l at) silent = refl
silent_code view u rule (SurfaceEndAt l at) silent = refl
silent_code view u rule (DepthEndAt l at) silent = refl
silent_code view u rule (ForkAt l at) silent = refl
silent_code view u rule (SurfaceJoinAt l at) silent = refl
silent_code view u rule (DepthJoinAt l at) silent = refl
silent_code view u rule (ActAt l s) silent = absurd silent
silent_code view u rule (TestAt l at e) silent = absurd silent
silent_code view u rule (CheckAt l at e) silent = absurd silent
silent_code view u rule (EnterAt l at arguments) silent = absurd silent
silent_code view u rule (ResumeAt l at arguments) silent = absurd silent

silent_no_return : (n : Node) → IsSilent n → is_return_node n ≡ false
silent_no_return (PauseAt l at) silent = refl
silent_no_return (HeadAt l at) silent = refl
silent_no_return (StartAt l at) silent = refl
silent_no_return (SurfaceEndAt l at) silent = refl
silent_no_return (DepthEndAt l at) silent = refl
silent_no_return (ForkAt l at) silent = refl
silent_no_return (SurfaceJoinAt l at) silent = refl
silent_no_return (DepthJoinAt l at) silent = refl
silent_no_return (ActAt l s) silent = absurd silent
silent_no_return (TestAt l at e) silent = absurd silent
silent_no_return (CheckAt l at e) silent = absurd silent
silent_no_return (EnterAt l at arguments) silent = absurd silent
silent_no_return (ResumeAt l at arguments) silent = absurd silent

module _ (w : Setting) (i : ℕ) (store : Store) (copies : List Value) where
  -- what a silent deed answers and leaves
  abbrev Quiet : Bool → Store → List Value → Type 0
  Quiet answer left copied = (answer ≡ true) × (left ≡ store) × (copied ≡ copies)

  abbrev quiet_performed : Performed
  quiet_performed = record { answer = true; store = store }

  quiet_by : (answer : Bool) (left : Store) (copied : List Value) → copied ≡ copies → Some quiet_performed ≡ Some
      (record { answer = answer; store = left }) → Quiet answer left copied
  quiet_by answer left copied same did =
      let is : quiet_performed ≡ record { answer = answer; store = left } = same_Some quiet_performed
      (record { answer = answer; store = left }) did in
      (sym (ap (λ (p : Performed). p.answer) is), sym (ap (λ (p : Performed). p.store) is), same)

  silent_does : (n : Node) → IsSilent n → (answer : Bool) (left : Store) → done_by w (deed_at i n) store ≡ Some
      (record { answer = answer; store = left }) → Quiet answer left (recopied w i n left copies)
  silent_does (PauseAt l at) silent answer left did = quiet_by answer left copies refl did
  silent_does (HeadAt l at) silent answer left did = quiet_by answer left copies refl did
  silent_does (StartAt l at) silent answer left did = quiet_by answer left copies refl did
  silent_does (SurfaceEndAt l at) silent answer left did = quiet_by answer left copies refl did
  silent_does (DepthEndAt l at) silent answer left did = quiet_by answer left copies refl did
  silent_does (ForkAt l at) silent answer left did = quiet_by answer left copies refl did
  silent_does (SurfaceJoinAt l at) silent answer left did = quiet_by answer left copies refl did
  silent_does (DepthJoinAt l at) silent answer left did = quiet_by answer left copies refl did
  silent_does (ActAt l s) silent answer left did = absurd silent
  silent_does (TestAt l at e) silent answer left did = absurd silent
  silent_does (CheckAt l at e) silent answer left did = absurd silent
  silent_does (EnterAt l at arguments) silent answer left did = absurd silent
  silent_does (ResumeAt l at arguments) silent answer left did = absurd silent

  silent_goes : (n : Node) → IsSilent n → done_by w (deed_at i n) store ≡ None → ⊥
  silent_goes (PauseAt l at) silent did = cc
  silent_goes (HeadAt l at) silent did = cc
  silent_goes (StartAt l at) silent did = cc
  silent_goes (SurfaceEndAt l at) silent did = cc
  silent_goes (DepthEndAt l at) silent did = cc
  silent_goes (ForkAt l at) silent did = cc
  silent_goes (SurfaceJoinAt l at) silent did = cc
  silent_goes (DepthJoinAt l at) silent did = cc
  silent_goes (ActAt l s) silent did = absurd silent
  silent_goes (TestAt l at e) silent did = absurd silent
  silent_goes (CheckAt l at e) silent did = absurd silent
  silent_goes (EnterAt l at arguments) silent did = absurd silent
  silent_goes (ResumeAt l at arguments) silent did = absurd silent

module _ (w : Setting) (activities : Activities) (i : ℕ) (copies : List Value) (frames : Frames) (store : Store) where
  silent_performs : (n : Node) (answer : Bool) (frames' : Frames) (left : Store) → IsSilent n →
      Performs w (rank_by w activities) (slots_by w activities) (cleared w) i n frames store answer frames' left →
      (frames' ≡ frames) × Quiet w i store copies answer left (recopied w i n left copies)
  silent_performs n answer frames' left silent (executes.does point did) = (refl, silent_does w i store copies n silent answer left did)
  silent_performs n answer frames' left silent (executes.enters called there copied executed over) = absurd silent
  silent_performs n answer frames' left silent (executes.resumes called rested copied executed over) = absurd silent
  silent_performs n answer frames' left silent (executes.returns called rested copied executed over gives) = absurd silent

  silent_stops : (n : Node) → IsSilent n → NodeTraps w (rank_by w activities) (slots_by w activities) (cleared w) i n frames store → ⊥
  silent_stops n silent (executes.point_stops point did) = silent_goes w i store copies n silent did
  silent_stops n silent (executes.inputs_stop called did) = silent
  silent_stops n silent (executes.copies_stop called did) = silent
  silent_stops n silent (executes.begun_stops called there copied cut) = silent
  silent_stops n silent (executes.resumed_stops called rested copied cut) = silent

-- ---- blocks

-- what is left where nothing was done
as_left : (w : Setting) (activities : Activities) (i : ℕ) (unit : UnitDef) (scope : Scope) (r : Registers) (rule : Transition) (here : Memory)
    (o : Outcome Memory) (frames frames' : Frames) (store left : Store) (copies copied : List Value) (answer : Bool) → frames' ≡ frames →
    answer ≡ true → left ≡ store → copied ≡ copies →
    PartSimulates w activities i unit scope frames store copies (all_changed (rank_by w activities i) rule.on_true r) here o →
    PartSimulates w activities i unit scope frames' left copied (after_rule (rank_by w activities i) rule answer r) here o
as_left w activities i unit scope r rule here o frames frames' store left copies copied answer same_frames same_answer same_store same_copies
    comes =
    subst (λ f. PartSimulates w activities i unit scope f left copied (after_rule (rank_by w activities i) rule answer r) here o) (sym same_frames)
    (subst (λ b. PartSimulates w activities i unit scope frames left copied (after_rule (rank_by w activities i) rule b r) here o) (sym same_answer)
    (subst (λ s. PartSimulates w activities i unit scope frames s copied (after_rule (rank_by w activities i) rule true r) here o) (sym same_store)
    (subst (λ c. PartSimulates w activities i unit scope frames store c (after_rule (rank_by w activities i) rule true r) here o) (sym same_copies)
    comes)))

pub silent_comes : ChangesSimulateInPass → SilentNodesSimulate
silent_comes stand structs units entry machine activities own ends remembering = record {
  acts = λ i unit scope frames store copies r rule u answer frames' left here midway there silent called sees performs.
      let w = setting_of structs units entry in
      let a = activity_at w activities i in
      let number = rank_by w activities i in
      let k = unit_number w i in
      let did = silent_performs w activities i copies frames store rule.node answer frames' left silent performs in
      let quiet = did.1 in
      let never : list_any ends_body rule.on_true ≡ true → is_some unit.result ≡ true → ⊥ =
      λ ending one. true_not_false (sym (ends_true activities units ends i unit w rule there midway.function.is_there midway.function.active one ending)
      ∙ silent_no_return rule.node silent) in
      let told : ResultTold unit i scope store (all_changed number rule.on_true r) here =
      λ value over one is. midway.stands.result value
      (or_other r.over (list_any ends_body rule.on_true) (over_after number rule.on_true r over)
      (false_from_ne_true (list_any ends_body rule.on_true) (λ ending. never ending one))) one is in
      let after_r = all_changed number rule.on_true r in
      let o = block_c (changes_code (activity_view a) rule.on_true) scope here in
      let comes : PartSimulates w activities i unit scope frames store copies after_r here o =
      stand structs units entry machine activities i unit scope frames store copies r here rule.on_true midway.compiled midway.function midway.is_there
      remembering midway.stands (own.on_true i unit rule midway.is_there there) told in
      let done = block_done w activities i u rule scope here in
      let all : PartSimulates w activities i unit scope frames store copies after_r here done =
      let code = silent_code (activity_view a) u rule rule.node silent in
      comes_as w activities i unit scope frames store copies after_r here done o
      (ap (λ code. (block_c code scope here).end) code) (ap (λ code. (block_c code scope here).memory) code) comes in
      as_left w activities i unit scope r rule here done frames frames' store left copies (recopied w i rule.node left copies) answer did.0 quiet.0
      quiet.1 quiet.2 all;
  stops = λ i unit scope frames store copies r rule u here midway there silent called sees stops.
      absurd (silent_stops (setting_of structs units entry) activities i copies frames store rule.node silent stops);
}
