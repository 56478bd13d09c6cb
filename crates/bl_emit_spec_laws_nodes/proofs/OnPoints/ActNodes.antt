-- The blocks of nodes at which an act is done.
use Rattle.std.proofs.Common.{◌≡◌, ℕ, Bool, true, false, ◌&&◌, ◌||◌, List, [], ◌∷◌, ◌++◌, Contains}
use Rattle.std.proofs.Common.{take, Option, Some, None, refl, sym, ap}
use Rattle.std.proofs.Common.{◌∙◌, subst}
use Rattle.std.proofs.lemmas.Option.{same_Some}
use Rattle.std.specs.Prelude.{option_and_then, option_map, slice_get, unwrap_or}
use Rattle.bl_tree.proofs.Basics.{and_first}
use Rattle.bl_tree.specs.declared.c.CStmt.{CStmt}
use Rattle.bl_tree.specs.declared.place.Place.{Place}
use Rattle.bl_tree.specs.declared.tree.Arm.{Arm}
use Rattle.bl_tree.specs.declared.tree.Branch.{Branch}
use Rattle.bl_tree.specs.declared.tree.Stmt.{Stmt, out-Stmt}
use Rattle.bl_tree.specs.declared.tree.StmtKind.{StmtKind, out-StmtKind}
use Rattle.bl_tree.specs.declared.tree.StmtKind.TheOpen.{StmtKind-F}
use Rattle.bl_tree.specs.declared.tree.StructDef.{StructDef}
use Rattle.bl_tree.specs.declared.tree.Unit.{Unit as UnitDef}
use Rattle.bl_tree.specs.declared.tree.Var.{Var}
use Rattle.bl_tree.specs.declared.value.Value.{Value}
use Rattle.bl_tree.specs.Program.{IsWellTyped}
use Rattle.bl_tree.specs.Returns.{is_return_kind}
use Rattle.bl_tree.specs.Typing.{TypingContext, fits, site_of, var_at}
use Rattle.bl_graph_nodes.specs.Nodes.{ActAt, Arguments, CheckAt, DepthEndAt, DepthJoinAt, EnterAt, ForkAt, HeadAt, Node, PauseAt, ResumeAt, StartAt}
use Rattle.bl_graph_nodes.specs.Nodes.{SurfaceEndAt, SurfaceJoinAt, TestAt, nodes_in}
use Rattle.bl_graph_nodes.specs.Plain.{Label, plain_body}
use Rattle.bl_machine_prevs.specs.Prevs.{prevs_in}
use Rattle.bl_eval.specs.Meaning.{View as Sight}
use Rattle.bl_eval.specs.Standing.{outcome_in_unit, outcome_of}
use Rattle.bl_ctext_semantics.specs.Course.{End, Outcome, breaks, following_end, goes_on, returns, traps}
use Rattle.bl_ctext_semantics.specs.Meaning.{Scope, block_c, further, runs_c}
use Rattle.bl_ctext_semantics.specs.Memory.{Location, Memory, Projection, member, value_at}
use Rattle.bl_ctree.specs.declared.instance.Instance.{Instance}
use Rattle.bl_ctree.specs.Actions.{Performed, acted_kind, done, outcome_there}
use Rattle.bl_ctree.specs.Instances.{Setting, callee_of, setting_of, unit_at, unit_of}
use Rattle.bl_ctree.specs.Store.{Store, view_at}
use Rattle.bl_ctree_laws.specs.Ends.{done_by}
use Rattle.bl_emit_acts.specs.Acts.{act_code, is_copied}
use Rattle.bl_emit_acts.specs.declared.home.Home.TheVariants.{Held}
use Rattle.bl_emit_acts.specs.Types.{variable_name}
use Rattle.bl_emit_acts_laws_simulation.specs.Acts.{Foreign, RepresentsAfter, Simulates, before_after, copied_in_layer, is_act}
use Rattle.bl_emit_acts_laws_simulation.specs.Frames.{remembered_at}
use Rattle.bl_emit_acts_laws_simulation.specs.Encodes.{CopiesEncoded, VariablesEncoded, home_at}
use Rattle.bl_emit_acts_laws_simulation.specs.Laws.{ActsSimulate, BesideActs, FramesApart}
use Rattle.bl_emit_spec.specs.Activities.{copies_of, remembers_any}
use Rattle.bl_emit_spec.specs.Blocks.{ActivityView, layer_acted}
use Rattle.bl_emit_spec.specs.Names.{NumberedWord, callee_name, counter_name}
use Rattle.bl_emit_spec_laws.specs.Registers.Laws.{RegistersKeepApart}
use Rattle.bl_emit_spec_laws.specs.Registers.Registers.{RegistersApart, RegistersBeside, frame_at, register_at}
use Rattle.bl_machine.specs.declared.machine.Activity.{Activity as InMachine}
use Rattle.bl_machine_pass.specs.Registers.{Registers}
use Rattle.bl_machine_pass_laws_execution.specs.Executes as executes
use Rattle.bl_machine_pass_laws_execution.specs.Executes.{NodeTraps, Performs, deed_at, recopied_kind}
use Rattle.bl_machine_pass_laws_execution.specs.Frames.{Frames}
use Rattle.bl_emit_spec_laws.specs.Calls.Built.{Activities, activity_at, cleared, rank_by, registered, run_by, site_at, slots_by, unit_number}
use Rattle.bl_emit_spec_laws.specs.Calls.Laws.{Midway, PassKeepsFrame}
use Rattle.bl_emit_spec_laws.specs.Calls.Memories as memories
use Rattle.bl_emit_spec_laws.specs.Calls.Memories.{MemoryEncodes, inner}
use Rattle.bl_emit_spec_laws.specs.Calls.Invariant.{PassRepresents, PlacesAreSeparate, result_at_c}
use Rattle.bl_emit_spec_laws.proofs.OnPasses.Blocks.{Alike}
use Rattle.bl_emit_spec_laws_nodes.specs.Points.Acts.{Acted, ActsSeen, IsActNode, NodesApart}
use Rattle.bl_emit_spec_laws_nodes.specs.Points.Laws.{Remembering}
use Rattle.bl_emit_spec_laws_nodes.specs.Points.Nodes.{AgreeAt, NodesStand, PrevsAgree, ViewsFit, act_copied}
use Rattle.bl_emit_spec_laws_nodes.proofs.OnPoints.Apart.{Beyond, inner_is, nests_beyond}
use Rattle.bl_emit_spec_laws_nodes.proofs.OnPoints.Besides.{apart, beside, site_is}
use Rattle.bl_emit_spec_laws_nodes.proofs.OnPoints.Changes.{holds_same, registers_keep}
use Rattle.bl_emit_spec_laws_nodes.proofs.OnPoints.Foreign.{foreign_counter, foreign_memory, foreign_outside, foreign_register, foreign_result}

-- ---- statements one after another

pub append_goes : (scope : Scope) (a b : List CStmt) (m : Memory) → (block_c a scope m).end ≡ goes_on →
    Alike (block_c (a ++ b) scope m) (block_c b scope (block_c a scope m).memory)
append_goes scope [] b m h = (refl, refl)
append_goes scope (s ∷ a) b m h =
    by (append_goes scope a b) (runs_c s scope m).count (runs_c s scope m).memory (runs_c s scope m).end h
  where
    by : ((k : Memory) → (block_c a scope k).end ≡ goes_on → Alike (block_c (a ++ b) scope k) (block_c b scope (block_c a scope k).memory)) →
        (n : ℕ) (k : Memory) (e : End) → (following_end n k e (block_c a scope)).end ≡ goes_on →
        Alike (following_end n k e (block_c (a ++ b) scope)) (block_c b scope (following_end n k e (block_c a scope)).memory)
    by more n k goes_on h = more k h
    by more n k breaks h = absurd (cc)
    by more n k (returns x) h = absurd (cc)
    by more n k traps h = absurd (cc)

pub append_traps : (scope : Scope) (a b : List CStmt) (m : Memory) → (block_c a scope m).end ≡ traps → (block_c (a ++ b) scope m).end ≡ traps
append_traps scope [] b m h = absurd (cc)
append_traps scope (s ∷ a) b m h =
    by (append_traps scope a b) (runs_c s scope m).count (runs_c s scope m).memory (runs_c s scope m).end h
  where
    by : ((k : Memory) → (block_c a scope k).end ≡ traps → (block_c (a ++ b) scope k).end ≡ traps) →
        (n : ℕ) (k : Memory) (e : End) → (following_end n k e (block_c a scope)).end ≡ traps →
        (following_end n k e (block_c (a ++ b) scope)).end ≡ traps
    by more n k goes_on h = more k h
    by more n k breaks h = absurd (cc)
    by more n k (returns x) h = absurd (cc)
    by more n k traps h = refl

-- ---- acts

pub act_is : (n : Node) → IsActNode n → (l : Label) × (s : Stmt) × (n ≡ ActAt l s) × (is_act (out-StmtKind (out-Stmt s).what) ≡ true)
act_is (ActAt l s) act = (l, s, refl, act)
act_is (TestAt l at e) act = absurd act
act_is (CheckAt l at e) act = absurd act
act_is (PauseAt l at) act = absurd act
act_is (HeadAt l at) act = absurd act
act_is (StartAt l at) act = absurd act
act_is (SurfaceEndAt l at) act = absurd act
act_is (DepthEndAt l at) act = absurd act
act_is (ForkAt l at) act = absurd act
act_is (SurfaceJoinAt l at) act = absurd act
act_is (DepthJoinAt l at) act = absurd act
act_is (EnterAt l at arguments) act = absurd act
act_is (ResumeAt l at arguments) act = absurd act

pub acted_is : (view : ActivityView) (s : Stmt) (layer : StmtKind-F StmtKind Arm Branch Stmt) → is_act layer ≡ true →
    layer_acted view s layer ≡ act_code view.site view.copies s
acted_is view s (StmtKind-F.Declare k initial) act = refl
acted_is view s (StmtKind-F.Assign path e) act = refl
acted_is view s (StmtKind-F.Call f inputs outputs) act = refl
acted_is view s (StmtKind-F.Await e) act = absurd (cc)
acted_is view s (StmtKind-F.Run target a inputs outputs) act = absurd (cc)
acted_is view s (StmtKind-F.If arms other) act = absurd (cc)
acted_is view s (StmtKind-F.Cobegin branches) act = absurd (cc)
acted_is view s (StmtKind-F.When guard e body) act = absurd (cc)
acted_is view s (StmtKind-F.Repeat body) act = absurd (cc)
acted_is view s (StmtKind-F.Until body e) act = absurd (cc)
acted_is view s (StmtKind-F.While e body) act = absurd (cc)
acted_is view s (StmtKind-F.Return e) act = absurd (cc)

pub copied_is : (copied : ℕ → Bool) (layer : StmtKind-F StmtKind Arm Branch Stmt) → is_act layer ≡ true →
    act_copied copied layer ≡ copied_in_layer copied layer
copied_is copied (StmtKind-F.Declare k initial) act = refl
copied_is copied (StmtKind-F.Assign path e) act = refl
copied_is copied (StmtKind-F.Call f inputs outputs) act = refl
copied_is copied (StmtKind-F.Await e) act = absurd (cc)
copied_is copied (StmtKind-F.Run target a inputs outputs) act = absurd (cc)
copied_is copied (StmtKind-F.If arms other) act = absurd (cc)
copied_is copied (StmtKind-F.Cobegin branches) act = absurd (cc)
copied_is copied (StmtKind-F.When guard e body) act = absurd (cc)
copied_is copied (StmtKind-F.Repeat body) act = absurd (cc)
copied_is copied (StmtKind-F.Until body e) act = absurd (cc)
copied_is copied (StmtKind-F.While e body) act = absurd (cc)
copied_is copied (StmtKind-F.Return e) act = absurd (cc)

pub recopied_is : (layer : StmtKind-F StmtKind Arm Branch Stmt) (now copies : List Value) → is_act layer ≡ true →
    recopied_kind layer now copies ≡ before_after layer now copies
recopied_is (StmtKind-F.Declare k initial) now copies act = refl
recopied_is (StmtKind-F.Assign path e) now copies act = refl
recopied_is (StmtKind-F.Call f inputs outputs) now copies act = refl
recopied_is (StmtKind-F.Await e) now copies act = absurd (cc)
recopied_is (StmtKind-F.Run target a inputs outputs) now copies act = absurd (cc)
recopied_is (StmtKind-F.If arms other) now copies act = absurd (cc)
recopied_is (StmtKind-F.Cobegin branches) now copies act = absurd (cc)
recopied_is (StmtKind-F.When guard e body) now copies act = absurd (cc)
recopied_is (StmtKind-F.Repeat body) now copies act = absurd (cc)
recopied_is (StmtKind-F.Until body e) now copies act = absurd (cc)
recopied_is (StmtKind-F.While e body) now copies act = absurd (cc)
recopied_is (StmtKind-F.Return e) now copies act = absurd (cc)

pub no_return : (layer : StmtKind-F StmtKind Arm Branch Stmt) → is_act layer ≡ true → is_return_kind layer ≡ false
no_return (StmtKind-F.Declare k initial) act = refl
no_return (StmtKind-F.Assign path e) act = refl
no_return (StmtKind-F.Call f inputs outputs) act = refl
no_return (StmtKind-F.Await e) act = absurd (cc)
no_return (StmtKind-F.Run target a inputs outputs) act = absurd (cc)
no_return (StmtKind-F.If arms other) act = absurd (cc)
no_return (StmtKind-F.Cobegin branches) act = absurd (cc)
no_return (StmtKind-F.When guard e body) act = absurd (cc)
no_return (StmtKind-F.Repeat body) act = absurd (cc)
no_return (StmtKind-F.Until body e) act = absurd (cc)
no_return (StmtKind-F.While e body) act = absurd (cc)
no_return (StmtKind-F.Return e) act = absurd (cc)

some_did : (w : Setting) (i : ℕ) (s : Stmt) (store left : Store) (answer : Bool) (put : List Value → Store) (o : Option (List Value)) →
    outcome_there w store i s ≡ o → option_map done (option_map put o) ≡ Some (record { answer = answer; store = left }) →
    (values : List Value) × (outcome_there w store i s ≡ Some values) × (answer ≡ true)
some_did w i s store left answer put None is did = absurd (cc)
some_did w i s store left answer put (Some values) is did =
    (values, is, sym (ap (λ (p : Performed). p.answer) (same_Some (done (put values)) (record { answer = answer; store = left }) did)))

none_did : (put : List Value → Store) (o : Option (List Value)) → option_map done (option_map put o) ≡ None → o ≡ None
none_did put None did = refl
none_did put (Some values) did = absurd (cc)

-- where an act is done it has an outcome
pub act_did : (w : Setting) (i : ℕ) (s : Stmt) (store left : Store) (answer : Bool) (layer : StmtKind-F StmtKind Arm Branch Stmt) →
    is_act layer ≡ true →
    option_map done (acted_kind w i s layer store) ≡ Some (record { answer = answer; store = left }) →
    (values : List Value) × (outcome_there w store i s ≡ Some values) × (answer ≡ true)
act_did w i s store left answer (StmtKind-F.Declare k initial) act did = some_did w i s store left answer _ (outcome_there w store i s) refl did
act_did w i s store left answer (StmtKind-F.Assign path e) act did = some_did w i s store left answer _ (outcome_there w store i s) refl did
act_did w i s store left answer (StmtKind-F.Call f inputs outputs) act did = some_did w i s store left answer _ (outcome_there w store i s) refl did
act_did w i s store left answer (StmtKind-F.Await e) act did = absurd (cc)
act_did w i s store left answer (StmtKind-F.Run target a inputs outputs) act did = absurd (cc)
act_did w i s store left answer (StmtKind-F.If arms other) act did = absurd (cc)
act_did w i s store left answer (StmtKind-F.Cobegin branches) act did = absurd (cc)
act_did w i s store left answer (StmtKind-F.When guard e body) act did = absurd (cc)
act_did w i s store left answer (StmtKind-F.Repeat body) act did = absurd (cc)
act_did w i s store left answer (StmtKind-F.Until body e) act did = absurd (cc)
act_did w i s store left answer (StmtKind-F.While e body) act did = absurd (cc)
act_did w i s store left answer (StmtKind-F.Return e) act did = absurd (cc)

pub act_cut : (w : Setting) (i : ℕ) (s : Stmt) (store : Store) (layer : StmtKind-F StmtKind Arm Branch Stmt) → is_act layer ≡ true →
    option_map done (acted_kind w i s layer store) ≡ None → outcome_there w store i s ≡ None
act_cut w i s store (StmtKind-F.Declare k initial) act did = none_did _ (outcome_there w store i s) did
act_cut w i s store (StmtKind-F.Assign path e) act did = none_did _ (outcome_there w store i s) did
act_cut w i s store (StmtKind-F.Call f inputs outputs) act did = none_did _ (outcome_there w store i s) did
act_cut w i s store (StmtKind-F.Await e) act did = absurd (cc)
act_cut w i s store (StmtKind-F.Run target a inputs outputs) act did = absurd (cc)
act_cut w i s store (StmtKind-F.If arms other) act did = absurd (cc)
act_cut w i s store (StmtKind-F.Cobegin branches) act did = absurd (cc)
act_cut w i s store (StmtKind-F.When guard e body) act did = absurd (cc)
act_cut w i s store (StmtKind-F.Repeat body) act did = absurd (cc)
act_cut w i s store (StmtKind-F.Until body e) act did = absurd (cc)
act_cut w i s store (StmtKind-F.While e body) act did = absurd (cc)
act_cut w i s store (StmtKind-F.Return e) act did = absurd (cc)

pub outcome_there_is : (w : Setting) (i : ℕ) (unit : UnitDef) (s : Stmt) (store : Store) → unit_at w i ≡ Some unit →
    outcome_there w store i s ≡ outcome_of (site_of w.structs (take (unit_number w i) w.units) unit) s (view_at w store i)
outcome_there_is w i unit s store there = by (slice_get w.instances i) there
  where
    by : (o : Option Instance) → option_and_then (unit_of w) o ≡ Some unit →
        option_and_then (λ instance. outcome_in_unit w.structs w.units instance.unit s (view_at w store i)) o
        ≡ outcome_of (site_of w.structs (take (unwrap_or (option_map (λ instance. instance.unit) o) 0) w.units) unit) s (view_at w store i)
    by None there = absurd (cc)
    by (Some instance) there =
        ap (λ (o : Option UnitDef). option_and_then (λ site. outcome_of site s (view_at w store i))
        (option_map (site_of w.structs (take instance.unit w.units)) o)) there

module _ (w : Setting) (activities : Activities) (i : ℕ) (frames : Frames) (store : Store) where
  pub act_performs : (n : Node) (answer : Bool) (frames' : Frames) (left : Store) → IsActNode n →
      Performs w (rank_by w activities) (slots_by w activities) (cleared w) i n frames store answer frames' left →
      (frames' ≡ frames) × (done_by w (deed_at i n) store ≡ Some (record { answer = answer; store = left }))
  act_performs n answer frames' left act (executes.does point did) = (refl, did)
  act_performs n answer frames' left act (executes.enters called there copied executed over) = absurd act
  act_performs n answer frames' left act (executes.resumes called rested copied executed over) = absurd act
  act_performs n answer frames' left act (executes.returns called rested copied executed over gives) = absurd act

  pub act_stops : (n : Node) → IsActNode n → NodeTraps w (rank_by w activities) (slots_by w activities) (cleared w) i n frames store →
      done_by w (deed_at i n) store ≡ None
  act_stops n act (executes.point_stops point did) = did
  act_stops n act (executes.inputs_stop called did) = absurd act
  act_stops n act (executes.copies_stop called did) = absurd act
  act_stops n act (executes.begun_stops called there copied cut) = absurd act
  act_stops n act (executes.resumed_stops called rested copied cut) = absurd act

-- ---- one act

module _ (frames_apart : FramesApart) (keep : RegistersKeepApart) (structs : List StructDef) (units : List UnitDef) (entry : ℕ)
    (keeps : IsWellTyped structs units entry) (come : ActsSimulate structs units entry) (machine : List InMachine) (activities : Activities)
    (remembering : Remembering (setting_of structs units entry) activities) (nodes : NodesStand structs units)
    (views : ViewsFit structs units entry) (agree : PrevsAgree) (none : NodesApart units)
    (seen : ActsSeen (setting_of structs units entry) activities) (i : ℕ) (unit : UnitDef) (scope : Scope) (frames : Frames) (store : Store)
    (copies : List Value) (r : Registers) (here : Memory)
    (midway : Midway structs units entry machine activities i unit scope frames store copies r here) (l : Label) (s : Stmt) (position : ℕ)
    (node : slice_get (nodes_in (plain_body unit.body)) position ≡ Some (ActAt l s)) (act : is_act (out-StmtKind (out-Stmt s).what) ≡ true)
    (agreeing : AgreeAt (prevs_in s) copies (view_at (setting_of structs units entry) store i).before) where
  abbrev w : Setting
  w = setting_of structs units entry

  abbrev k : ℕ
  k = unit_number w i

  abbrev site : TypingContext
  site = site_of structs (take k units) unit

  abbrev copied : ℕ → Bool
  copied = is_copied (copies_of unit)

  abbrev layer : StmtKind-F StmtKind Arm Branch Stmt
  layer = out-StmtKind (out-Stmt s).what

  abbrev sight : Sight
  sight = record { now = (view_at w store i).now; before = copies }

  abbrev o : Outcome Memory
  o = block_c (act_code site (copies_of unit) s) scope here

  -- what the C of the act comes to
  comes : Simulates site copied scope here (λ now. before_after layer now copies) (outcome_there w store i s) o
  comes =
      let there = midway.function.is_there in
      let apart_here = apart frames_apart structs units entry views machine activities i unit scope frames store copies r here midway in
      let fitted = and_first (fits site s) (is_act layer || is_return_kind layer) (nodes.fitting k position unit (ActAt l s) there node) in
      let named = sym (copied_is copied layer act) ∙ nodes.copied k position unit (ActAt l s) there node in
      let beside_acts : BesideActs structs units k unit sight copied scope here =
      record {
        beside = beside frames_apart structs units entry views machine activities i unit scope frames store copies r here midway;
        apart = apart_here.variables;
        copies_apart = apart_here.copies;
        procedures = midway.function.functions.procedures;
      } in
      subst (λ (made : Option (List Value)). Simulates site copied scope here (λ now. before_after layer now copies) made o)
      (agree.outcomes site s (view_at w store i).now copies (view_at w store i).before act agreeing
      ∙ sym (outcome_there_is w i unit s store midway.is_there))
      (come k unit s sight (copies_of unit) scope here keeps beside_acts act fitted named (none k position unit l s there node))

  pub act_traps : outcome_there w store i s ≡ None → o.end ≡ traps
  act_traps is =
      subst (λ (made : Option (List Value)). Simulates site copied scope here (λ now. before_after layer now copies) made o) is comes

  -- ---- what it leaves

  module _ (values : List Value) (left : Store) (is : outcome_there w store i s ≡ Some values)
      (did : done_by w (deed_at i (ActAt l s)) store ≡ Some (record { answer = true; store = left })) where
    came : (o.end ≡ goes_on) × RepresentsAfter site copied scope here values (before_after layer values copies) o.memory
    came = subst (λ (made : Option (List Value)). Simulates site copied scope here (λ now. before_after layer now copies) made o) is comes

    pub act_goes : o.end ≡ goes_on
    act_goes = came.0

    left_in : RepresentsAfter site copied scope here values (before_after layer values copies) o.memory
    left_in = came.1

    acted_so : Acted w i unit l s store left values
    acted_so = record {
      is_there = midway.is_there;
      position = position;
      node = node;
      act = act;
      fitting = midway.fits;
      outcome = is;
      done = did;
    }

    abbrev remembers : Bool
    remembers = remembers_any (activity_at w activities i)

    site_same : site_at w activities i ≡ site
    site_same = site_is frames_apart structs units entry views machine activities i unit scope frames store copies r here midway

    places : PlacesAreSeparate site unit remembers scope
    places = subst (λ (site : TypingContext). PlacesAreSeparate site unit remembers scope) site_same midway.function.places

    held_here : (x : ℕ) (var : Var) → var_at site x ≡ Some var → home_at site x ≡ Held → remembers ≡ true
    held_here =
        subst (λ (site : TypingContext). (x : ℕ) (var : Var) → var_at site x ≡ Some var → home_at site x ≡ Held → remembers ≡ true) site_same
        (λ x var there held.
        remembering.each i i (frame_at scope) (remembered_at scope) (frame_at scope) (remembered_at scope) x var memories.here there held)

    registers_stand : RegistersApart (registered (activity_at w activities i)) scope
        × RegistersBeside (registered (activity_at w activities i)) site scope
    registers_stand =
        registers_keep keep site unit remembers scope (activity_at w activities i) (midway.compiled.built.unit k unit midway.function.is_there)
        (midway.compiled.registers k unit midway.function.is_there midway.function.active) places

    same_at : (place : Location) → ((way : List Projection) → Foreign site copied scope place.root (place.parts ++ way)) → (way : List Projection) →
        value_at o.memory place way ≡ value_at here place way
    same_at place foreign way = left_in.kept place.root (place.parts ++ way) (foreign way)

    -- ---- what is called

    module _ (m : Label) (at : Place) (arguments : Arguments) (j : ℕ) (there : Contains (nodes_in (plain_body unit.body)) (EnterAt m at arguments))
        (called : callee_of w i at ≡ Some j) where
      abbrev n : NumberedWord
      n = run_by w activities i at

      abbrev f : Location
      f = inner (frame_at scope) n

      abbrev q : Location
      q = inner (remembered_at scope) n

      counter_same : (f' : Location) → Beyond f f' → (more way : List Projection) →
          value_at o.memory (further f' more) way ≡ value_at here (further f' more) way
      counter_same f' far more =
          same_at (further f' more)
          (subst (λ (place : Location). (way : List Projection) → Foreign site copied scope place.root (place.parts ++ way))
          (sym (inner_is (frame_at scope) f' n far more))
          (foreign_counter site unit remembers scope places midway.function.active held_here copied (member (callee_name n) ∷ (far.0 ++ more))))

      variable_same : remembers ≡ true → (m' : Location) → Beyond q m' → (more way : List Projection) →
          value_at o.memory (further m' more) way ≡ value_at here (further m' more) way
      variable_same its m' far more =
          same_at (further m' more)
          (subst (λ (place : Location). (way : List Projection) → Foreign site copied scope place.root (place.parts ++ way))
          (sym (inner_is (remembered_at scope) m' n far more))
          (foreign_memory site unit remembers scope places midway.function.active held_here copied its n (far.0 ++ more)))

      inner_holds : MemoryEncodes w activities j f q frames left o.memory
      inner_holds = record {
        counters = λ x f' m' nests c below.
            counter_same f' (nests_beyond w activities j x f q f' m' nests).0 (member (counter_name c) ∷ []) []
            ∙ (midway.stands.callees m at arguments j there called).counters x f' m' nests c below;
        variables = λ x f' m' nests v var value known held now.
            holds_same w.structs var.ty value here o.memory (further m' (member (variable_name (site_at w activities x).vars v) ∷ []))
            (variable_same
            (remembering.each i x (frame_at scope) (remembered_at scope) f' m' v var
            (memories.inside midway.is_there there called nests) known held)
            m' (nests_beyond w activities j x f q f' m' nests).1 (member (variable_name (site_at w activities x).vars v) ∷ []))
            ((midway.stands.callees m at arguments j there called).variables x f' m' nests v var value known held
            (sym (seen.inner i unit l s store left values acted_so at j x f q f' m' v var called nests known held) ∙ now));
      }

    -- ---- all of it

    pub act_stands : PassRepresents w activities i unit scope frames left (before_after layer values copies) r o.memory
    act_stands = record {
      registers = record {
        each = λ x its.
            same_at (register_at (registered (activity_at w activities i)) scope x)
            (foreign_register site unit remembers scope places midway.function.active held_here copied (registered (activity_at w activities i))
            registers_stand.0 registers_stand.1 x its) []
            ∙ midway.stands.registers.each x its;
      };
      variables =
          subst (λ now. VariablesEncoded (site_at w activities i) now scope o.memory) (sym (seen.own i unit l s store left values acted_so))
          (subst (λ (site : TypingContext). VariablesEncoded site values scope o.memory) (sym site_same) left_in.variables);
      copied =
          subst (λ (site : TypingContext). CopiesEncoded site (before_after layer values copies) copied scope o.memory) (sym site_same) left_in.copies;
      callees = λ m at arguments j there called. inner_holds m at arguments j there called;
      result = λ value over one told.
          same_at (result_at_c scope) (foreign_result site unit remembers scope places midway.function.active held_here copied one) []
          ∙ midway.stands.result value over one (sym (seen.result i unit l s store left values acted_so) ∙ told);
    }

    pub act_keeps : PassKeepsFrame (site_at w activities i) unit remembers scope here o.memory
    act_keeps =
        subst (λ (site : TypingContext). PassKeepsFrame site unit remembers scope here o.memory) (sym site_same)
        (λ root way older outside.
        left_in.kept root way (foreign_outside site unit remembers scope places midway.function.active held_here copied root way older outside))
