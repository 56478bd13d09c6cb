-- The blocks of nodes at which a `return` is done.
use Rattle.std.proofs.Common.{◌≡◌, ℕ, ℤ, Bool, true, List, [], ◌∷◌, ◌++◌, take, Option, Some}
use Rattle.std.proofs.Common.{None, refl, sym, ap, ◌∙◌, subst, IfSome}
use Rattle.std.proofs.lemmas.Option.{same_Some}
use Rattle.std.specs.Prelude.{is_some, nat_eq, option_map, pos, slice_get, unwrap_or}
use Rattle.std.specs.List.{list_any}
use Rattle.bl_tree.proofs.Basics.{and_first}
use Rattle.bl_tree.specs.declared.c.CStmt.{CStmt}
use Rattle.bl_tree.specs.declared.place.Place.{Place}
use Rattle.bl_tree.specs.declared.scalar.Scalar.{Scalar as ScalarType}
use Rattle.bl_tree.specs.declared.tree.Arm.{Arm}
use Rattle.bl_tree.specs.declared.tree.Branch.{Branch}
use Rattle.bl_tree.specs.declared.tree.Expr.{Expr}
use Rattle.bl_tree.specs.declared.tree.Stmt.{Stmt, fold-roll-Stmt, out-Stmt, roll-Stmt, roll-out-Stmt}
use Rattle.bl_tree.specs.declared.tree.StmtKind.{StmtKind, fold-roll-StmtKind, out-StmtKind, roll-out-StmtKind}
use Rattle.bl_tree.specs.declared.tree.StmtKind.TheOpen.{StmtKind-F}
use Rattle.bl_tree.specs.declared.tree.StructDef.{StructDef}
use Rattle.bl_tree.specs.declared.tree.Ty.{Ty}
use Rattle.bl_tree.specs.declared.tree.Unit.{Unit as UnitDef}
use Rattle.bl_tree.specs.declared.value.Value.{Value}
use Rattle.bl_tree.specs.declared.value.Value.TheVariants.{outs-Number}
use Rattle.bl_tree.specs.Program.{IsWellTyped}
use Rattle.bl_tree.specs.Returns.{is_return_kind}
use Rattle.bl_tree.specs.Types.{scalar, scalar_in}
use Rattle.bl_tree.specs.Typing.{TypingContext, are_same, fits, is_activity, return_fits, site_of, type_of}
use Rattle.bl_tree.proofs.StmtInduction.{stmt}
use Rattle.bl_graph_nodes.specs.Nodes.{ActAt, CheckAt, DepthEndAt, DepthJoinAt, EnterAt, ForkAt, HeadAt, Node, PauseAt, ResumeAt, StartAt, SurfaceEndAt}
use Rattle.bl_graph_nodes.specs.Nodes.{SurfaceJoinAt, TestAt, nodes_in}
use Rattle.bl_graph_nodes.specs.Plain.{Label, plain_body}
use Rattle.bl_machine_prevs.specs.Prevs.{optional_prevs, prevs_in, prevs_in_expr}
use Rattle.bl_eval.specs.declared.datum.Datum.{Datum}
use Rattle.bl_eval.specs.declared.datum.Datum.TheVariants.{Scalar as OfScalar, Whole as OfWhole}
use Rattle.bl_eval.specs.Functions.{callees_of}
use Rattle.bl_eval.specs.Meaning.{View as Sight, meaning_of, plain}
use Rattle.bl_eval.specs.Standing.{scope_of}
use Rattle.bl_eval.specs.Values.{number_at}
use Rattle.bl_eval.proofs.ActFits.{same_found}
use Rattle.bl_eval.proofs.ExprFits.{expr_fits}
use Rattle.bl_eval.proofs.OperatorFits.{DatumFits, scalar_alone}
use Rattle.bl_eval.proofs.UnitFits.{sound_at}
use Rattle.bl_ctext_semantics.specs.Course.{Outcome, goes_on, traps}
use Rattle.bl_ctext_semantics.specs.Meaning.{Counted, Scope, block_c, further, location_c, runs_c, value_c}
use Rattle.bl_ctext_semantics.specs.Memory.{CValue, Location, Memory, scalar_number, set_at}
use Rattle.bl_ctree.specs.Actions.{Performed, acted_kind, done, value_there, with_result}
use Rattle.bl_ctree.specs.Instances.{Setting, setting_of}
use Rattle.bl_ctree.specs.Store.{Store, number_or_zero, view_at, with_frame}
use Rattle.bl_ctree_laws.specs.Ends.{done_by}
use Rattle.bl_emit_acts.specs.Acts.{c_set, code_made, is_copied}
use Rattle.bl_emit_acts.specs.Expressions.{made_of}
use Rattle.bl_emit_acts_laws_simulation.specs.Encodes.{copied_in}
use Rattle.bl_emit_acts_laws_simulation.specs.Laws.{ExpressionsSimulate, FramesApart}
use Rattle.bl_emit_acts_laws_simulation.specs.Simulation.{number_given}
use Rattle.bl_emit_acts_laws_simulation.proofs.Statements.{Ends}
use Rattle.bl_emit_spec.specs.Activities.{activity_view, copies_of, remembers_any}
use Rattle.bl_emit_spec.specs.Blocks.{ActivityView, changes_code, layer_acted, node_code}
use Rattle.bl_emit_spec.specs.Names.{result_place}
use Rattle.bl_machine.specs.declared.machine.Activity.{Activity as InMachine}
use Rattle.bl_machine_pass.specs.Registers.{Registers, all_changed}
use Rattle.bl_machine_pass.specs.Transitions.{Transition}
use Rattle.bl_machine_pass_laws_execution.specs.Executes as executes
use Rattle.bl_machine_pass_laws_execution.specs.Executes.{CopiesMatch, NodeTraps, Performs, deed_at, recopied, recopied_kind}
use Rattle.bl_machine_pass_laws_execution.specs.Frames.{Frames}
use Rattle.bl_emit_spec_laws.specs.Calls.Built.{Activities, activity_at, cleared, rank_by, site_at, slots_by, unit_number}
use Rattle.bl_emit_spec_laws.specs.Calls.Laws.{HasShownRule, Midway, PartSimulates, PassKeepsFrame, block_done}
use Rattle.bl_emit_spec_laws.specs.Calls.Invariant.{PassRepresents, result_at_c}
use Rattle.bl_emit_spec_laws_nodes.specs.Points.Acts.{ReturnNodesSimulate}
use Rattle.bl_emit_spec_laws_nodes.specs.Points.Laws.{ChangesSimulateInPass, Remembering, ResultTold, RulesOwn, is_return_node}
use Rattle.bl_emit_spec_laws_nodes.specs.Points.Nodes.{NodesStand, PrevsAgree, ViewsFit, act_copied}
use Rattle.bl_emit_spec_laws_nodes.proofs.OnPoints.ActBlocks.{as_left}
use Rattle.bl_emit_spec_laws_nodes.proofs.OnPoints.ActNodes.{append_goes, append_traps}
use Rattle.bl_emit_spec_laws_nodes.proofs.OnPoints.Besides.{beside, site_is, value_there_is}
use Rattle.bl_emit_spec_laws_nodes.proofs.OnPoints.Choices.{alone_alike}
use Rattle.bl_emit_spec_laws_nodes.proofs.OnPoints.Returned.{return_keeps, return_stands, told}
use Rattle.bl_emit_spec_laws_nodes.proofs.OnPoints.Sets.{result_location, set_after, set_ends}
use Rattle.bl_emit_spec_laws_nodes.proofs.OnPoints.Silent.{comes_as}
use Rattle.bl_emit_spec_laws_nodes.proofs.OnPoints.Tests.{number_made}

-- ---- nodes

return_is : (n : Node) → is_return_node n ≡ true →
    (l : Label) × (s : Stmt) × (n ≡ ActAt l s) × (is_return_kind (out-StmtKind (out-Stmt s).what) ≡ true)
return_is (ActAt l s) h = (l, s, refl, h)
return_is (TestAt l at e) h = absurd (cc)
return_is (CheckAt l at e) h = absurd (cc)
return_is (PauseAt l at) h = absurd (cc)
return_is (HeadAt l at) h = absurd (cc)
return_is (StartAt l at) h = absurd (cc)
return_is (SurfaceEndAt l at) h = absurd (cc)
return_is (DepthEndAt l at) h = absurd (cc)
return_is (ForkAt l at) h = absurd (cc)
return_is (SurfaceJoinAt l at) h = absurd (cc)
return_is (DepthJoinAt l at) h = absurd (cc)
return_is (EnterAt l at arguments) h = absurd (cc)
return_is (ResumeAt l at arguments) h = absurd (cc)

kind_is : (layer : StmtKind-F StmtKind Arm Branch Stmt) → is_return_kind layer ≡ true → (e : Option Expr) × (layer ≡ StmtKind-F.Return e)
kind_is (StmtKind-F.Return e) h = (e, refl)
kind_is (StmtKind-F.Declare k initial) h = absurd (cc)
kind_is (StmtKind-F.Assign path e) h = absurd (cc)
kind_is (StmtKind-F.Call f inputs outputs) h = absurd (cc)
kind_is (StmtKind-F.Await e) h = absurd (cc)
kind_is (StmtKind-F.Run target a inputs outputs) h = absurd (cc)
kind_is (StmtKind-F.If arms other) h = absurd (cc)
kind_is (StmtKind-F.Cobegin branches) h = absurd (cc)
kind_is (StmtKind-F.When guard e body) h = absurd (cc)
kind_is (StmtKind-F.Repeat body) h = absurd (cc)
kind_is (StmtKind-F.Until body e) h = absurd (cc)
kind_is (StmtKind-F.While e body) h = absurd (cc)

pub made_is : (s : Stmt) (layer : StmtKind-F StmtKind Arm Branch Stmt) → out-StmtKind (out-Stmt s).what ≡ layer → s ≡ stmt (out-Stmt s).place layer
made_is s layer is =
    sym (ap (λ (what : StmtKind). roll-Stmt (record { place = (out-Stmt s).place; what = what }))
    (roll-out-StmtKind (out-Stmt s).what) ∙ roll-out-Stmt s)
    ∙ ap (stmt (out-Stmt s).place) is

fits_made : (site : TypingContext) (place : Place) (e : Option Expr) → fits site (stmt place (StmtKind-F.Return e)) ≡ return_fits site e site.result
fits_made site place e = rw (fold-roll-Stmt, fold-roll-StmtKind) refl

prevs_made : (place : Place) (e : Option Expr) → prevs_in (stmt place (StmtKind-F.Return e)) ≡ optional_prevs e
prevs_made place e = rw (fold-roll-Stmt, fold-roll-StmtKind) refl

-- the C of a `return`
abbrev returned : ActivityView → Option Expr → List CStmt
returned view (Some e) = c_set result_place (code_made view.site e) ∷ []
returned view None = []

abbrev return_layer : Option Expr → StmtKind-F StmtKind Arm Branch Stmt
return_layer e = StmtKind-F.Return e

returned_is : (view : ActivityView) (s : Stmt) (e : Option Expr) → layer_acted view s (return_layer e) ≡ returned view e
returned_is view s (Some e) = refl
returned_is view s None = refl

module _ (w : Setting) (activities : Activities) (i : ℕ) (frames : Frames) (store : Store) where
  return_performs : (n : Node) (answer : Bool) (frames' : Frames) (left : Store) → is_return_node n ≡ true →
      Performs w (rank_by w activities) (slots_by w activities) (cleared w) i n frames store answer frames' left →
      (frames' ≡ frames) × (done_by w (deed_at i n) store ≡ Some (record { answer = answer; store = left }))
  return_performs n answer frames' left h (executes.does point did) = (refl, did)
  return_performs n answer frames' left h (executes.enters called there copied executed over) = absurd (cc)
  return_performs n answer frames' left h (executes.resumes called rested copied executed over) = absurd (cc)
  return_performs n answer frames' left h (executes.returns called rested copied executed over gives) = absurd (cc)

  return_stops : (n : Node) → is_return_node n ≡ true → NodeTraps w (rank_by w activities) (slots_by w activities) (cleared w) i n frames store →
      done_by w (deed_at i n) store ≡ None
  return_stops n h (executes.point_stops point did) = did
  return_stops n h (executes.inputs_stop called did) = absurd (cc)
  return_stops n h (executes.copies_stop called did) = absurd (cc)
  return_stops n h (executes.begun_stops called there copied cut) = absurd (cc)
  return_stops n h (executes.resumed_stops called rested copied cut) = absurd (cc)

-- ---- numbers

number_by : (structs : List StructDef) (ty : Ty) (s : ScalarType) (o : Option CValue) (datum : Option Datum) → scalar_in ty ≡ Some s →
    IfSome datum (DatumFits structs ty) → option_map scalar_number o ≡ option_map number_given datum →
    option_map scalar_number o ≡ option_map number_or_zero (option_map plain datum)
number_by structs ty s None None is fit same = refl
number_by structs ty s None (Some datum) is fit same = absurd (cc)
number_by structs ty s (Some v) None is fit same = absurd (cc)
number_by structs ty s (Some v) (Some (OfScalar t n)) is fit same =
    same ∙ ap (λ level. Some (unwrap_or (number_at level) (pos 0))) (sym (outs-Number n))
number_by structs ty s (Some v) (Some (OfWhole value)) is fit same = absurd (let none = fit.0 in cc)

pub held_by : (a : Option CValue) (n : ℤ) → option_map scalar_number a ≡ Some n → (v : CValue) × (a ≡ Some v) × (scalar_number v ≡ n)
held_by None n h = absurd (cc)
held_by (Some v) n h = (v, refl, same_Some (scalar_number v) n h)

no_held : (a : Option CValue) → option_map scalar_number a ≡ None → a ≡ None
no_held None h = refl
no_held (Some v) h = absurd (cc)

result_of : (site : TypingContext) (e : Expr) (o : Option ScalarType) → site.result ≡ o → return_fits site (Some e) o ≡ true →
    (s : ScalarType) × (site.result ≡ Some s) × (are_same (Some (scalar s)) (type_of site e) ≡ true)
result_of site e None is h = absurd (cc)
result_of site e (Some s) is h = (s, is, h)

result_none : (site : TypingContext) (o : Option ScalarType) → site.result ≡ o → return_fits site None o ≡ true → is_some site.result ≡ true → ⊥
result_none site None is h one = let none = sym (ap is_some is) ∙ one in cc
result_none site (Some s) is h one = absurd (cc)

-- ---- blocks

module _ (stand : ChangesSimulateInPass) (frames_apart : FramesApart) (structs : List StructDef) (units : List UnitDef) (entry : ℕ)
    (keeps : IsWellTyped structs units entry) (show : ExpressionsSimulate structs units entry) (machine : List InMachine) (activities : Activities)
    (own : RulesOwn (setting_of structs units entry) activities) (remembering : Remembering (setting_of structs units entry) activities)
    (nodes : NodesStand structs units)
    (views : ViewsFit structs units entry) (agree : PrevsAgree) (i : ℕ) (unit : UnitDef) (scope : Scope) (frames : Frames) (store : Store)
    (copies : List Value) (r : Registers) (rule : Transition) (u : ℕ) (here : Memory)
    (midway : Midway structs units entry machine activities i unit scope frames store copies r here)
    (there : HasShownRule (setting_of structs units entry) activities i unit rule) (l : Label) (s : Stmt) (position : ℕ)
    (node : slice_get (nodes_in (plain_body unit.body)) position ≡ Some (ActAt l s)) where
  abbrev w : Setting
  w = setting_of structs units entry

  abbrev k : ℕ
  k = unit_number w i

  abbrev site : TypingContext
  site = site_of structs (take k units) unit

  abbrev view : ActivityView
  view = activity_view (activity_at w activities i)

  abbrev after_r : Registers
  after_r = all_changed (rank_by w activities i) rule.on_true r

  -- changes behind the C of the node
  then_changes : (code : List CStmt) (left : Store) (mid : Memory) → (block_c code scope here).end ≡ goes_on →
      (block_c code scope here).memory ≡ mid →
      PassRepresents w activities i unit scope frames left copies r mid →
      PassKeepsFrame (site_at w activities i) unit (remembers_any (activity_at w activities i)) scope here mid →
      ResultTold unit i scope left after_r mid →
      PartSimulates w activities i unit scope frames left copies after_r here (block_c (code ++ changes_code view rule.on_true) scope here)
  then_changes code left mid goes is stood kept told =
      let changed =
      stand structs units entry machine activities i unit scope frames left copies r mid rule.on_true midway.compiled midway.function midway.is_there
      remembering stood (own.on_true i unit rule midway.is_there there) told in
      let alike = append_goes scope code (changes_code view rule.on_true) here goes in
      let end = alike.0 ∙ ap (λ (m : Memory). (block_c (changes_code view rule.on_true) scope m).end) is in
      let memory = alike.1 ∙ ap (λ (m : Memory). (block_c (changes_code view rule.on_true) scope m).memory) is in
      record {
        ends = end ∙ changed.ends;
        stands = subst (PassRepresents w activities i unit scope frames left copies after_r) (sym memory) changed.stands;
        kept = λ root way older outside.
            ap (λ (m : Memory). m root way) memory ∙ (changed.kept root way older outside ∙ kept root way older outside);
      }

  fitted : (e : Option Expr) → out-StmtKind (out-Stmt s).what ≡ StmtKind-F.Return e → return_fits site e site.result ≡ true
  fitted e kind =
      sym (fits_made site (out-Stmt s).place e)
      ∙ (ap (fits site) (sym (made_is s (StmtKind-F.Return e) kind))
      ∙ and_first (fits site s) _ (nodes.fitting k position unit (ActAt l s) midway.function.is_there node))

  -- ---- without a result

  none_comes : out-StmtKind (out-Stmt s).what ≡ StmtKind-F.Return None →
      PartSimulates w activities i unit scope frames store copies after_r here (block_c ([] ++ changes_code view rule.on_true) scope here)
  none_comes kind =
      then_changes [] store here refl refl midway.stands (λ root way older outside. refl)
      (λ value over one is. absurd (result_none site site.result refl (fitted None kind) one))

  -- ---- with one

  module _ (e : Expr) (kind : out-StmtKind (out-Stmt s).what ≡ StmtKind-F.Return (Some e))
      (sees : CopiesMatch w i (ActAt l s) store copies) where
    typed : (r : ScalarType) × (site.result ≡ Some r) × (are_same (Some (scalar r)) (type_of site e) ≡ true)
    typed = result_of site e site.result refl (fitted (Some e) kind)

    one : is_some unit.result ≡ true
    one = ap is_some typed.1

    same_number : option_map scalar_number (value_c (code_made view.site e) scope here).answer ≡ option_map number_or_zero (value_there w store i e)
    same_number =
        let now = (view_at w store i).now in
        let before = (view_at w store i).before in
        let sight : Sight = record { now = now; before = copies } in
        let found = same_found (Some (scalar typed.0)) (type_of site e) typed.2 in
        let is : scalar_in found.0 ≡ Some typed.0 =
        ap scalar_in (sym (same_Some (scalar typed.0) found.0 found.1)) ∙ scalar_alone typed.0 in
        let named : copied_in (is_copied (copies_of unit)) e ≡ true =
        sym (ap (act_copied (is_copied (copies_of unit))) kind) ∙ nodes.copied k position unit (ActAt l s) midway.function.is_there node in
        let datum = meaning_of (scope_of site) e sight in
        let shown =
        number_made structs found.0 typed.0 scope here (made_of site e) datum is
        (show k unit e found.0 sight (is_copied (copies_of unit)) scope here keeps
        (beside frames_apart structs units entry views machine activities i unit scope frames store copies r here midway) found.2 named) in
        let fit =
        expr_fits structs (take k units) unit (callees_of structs (take k units))
        (sound_at structs units entry k unit keeps midway.function.is_there) sight (views i unit store midway.is_there midway.fits)
        midway.copies_fit
        e found.0 found.2 in
        let prevs : prevs_in s ≡ prevs_in_expr e =
        ap prevs_in (made_is s (StmtKind-F.Return (Some e)) kind) ∙ prevs_made (out-Stmt s).place (Some e) in
        let agreed : datum ≡ meaning_of (scope_of site) e (record { now = now; before = before }) =
        agree.values (scope_of site) e now copies before (λ x among. sees x (ap (λ ks. list_any (nat_eq x) ks) prevs ∙ among)) in
        ap (λ site. option_map scalar_number (value_c (code_made site e) scope here).answer)
        (site_is frames_apart structs units entry views machine activities i unit scope frames store copies r here midway)
        ∙ (number_by structs found.0 typed.0 (value_c (code_made site e) scope here).answer datum is fit shown
        ∙ ap (option_map number_or_zero) (ap (option_map plain) agreed ∙ sym (value_there_is w i unit e store midway.is_there)))

    abbrev code : List CStmt
    code = c_set result_place (code_made view.site e) ∷ []

    code_ends : (answer : Option CValue) → (value_c (code_made view.site e) scope here).answer ≡ answer →
        Ends (block_c code scope here) (option_map (set_at here (further (result_at_c scope) [])) answer)
    code_ends answer is =
        let statement = c_set result_place (code_made view.site e) in
        let alone = alone_alike scope statement here in
        let at : (location_c result_place scope here).answer ≡ Some (further (result_at_c scope) []) =
        ap (λ (c : Counted Location). c.answer) (result_location scope here) in
        as_alike (block_c code scope here) (runs_c statement scope here) (option_map (set_at here (further (result_at_c scope) [])) answer)
        alone.0 alone.1
        (subst (λ value. Ends (runs_c statement scope here) (option_map (set_at here (further (result_at_c scope) [])) value)) is
        (subst (λ at. Ends (runs_c statement scope here) (set_after scope here at (value_c (code_made view.site e) scope here).answer)) at
        (set_ends scope here result_place (code_made view.site e))))
      where
        as_alike : (o p : Outcome Memory) (m : Option Memory) → o.end ≡ p.end → o.memory ≡ p.memory → Ends p m → Ends o m
        as_alike o p None end memory h = end ∙ h
        as_alike o p (Some m) end memory h = (end ∙ h.0, memory ∙ h.1)

    some_comes : (value : Value) → value_there w store i e ≡ Some value →
        PartSimulates w activities i unit scope frames (with_frame i (with_result value) store) copies after_r here
        (block_c (code ++ changes_code view rule.on_true) scope here)
    some_comes value is =
        let found = held_by (value_c (code_made view.site e) scope here).answer (number_or_zero value)
        (same_number ∙ ap (option_map number_or_zero) is) in
        let ended = code_ends (Some found.0) found.1 in
        let frame = midway.fits.each i unit midway.is_there in
        let is_unit : (activity_at w activities i).unit ≡ unit = midway.compiled.built.unit k unit midway.function.is_there in
        let active : is_activity (site_at w activities i).kind ≡ true =
        subst (λ (unit : UnitDef). is_activity unit.kind ≡ true) (sym is_unit) midway.function.active in
        then_changes code (with_frame i (with_result value) store) (set_at here (further (result_at_c scope) []) found.0) ended.0 ended.1
        (return_stands w activities i unit scope frames store copies r here midway.is_there one midway.function.places is_unit active remembering
        midway.stands
        frame.frame frame.is value found.0 found.2)
        (return_keeps w activities i unit scope frames store copies r here midway.is_there one midway.function.places is_unit active remembering
        midway.stands
        frame.frame frame.is value found.0 found.2)
        (λ v over has at. told w activities i unit scope frames store copies r here midway.is_there one midway.function.places is_unit active remembering
        midway.stands frame.frame frame.is value found.0 found.2 v at)

    some_cut : value_there w store i e ≡ None → (block_c (code ++ changes_code view rule.on_true) scope here).end ≡ traps
    some_cut is =
        append_traps scope code (changes_code view rule.on_true) here
        (code_ends None (no_held (value_c (code_made view.site e) scope here).answer (same_number ∙ ap (option_map number_or_zero) is)))

  -- ---- either

  -- what a `return` comes to
  abbrev Comes : Bool → Store → Type 0
  Comes answer left =
      (answer ≡ true)
      × PartSimulates w activities i unit scope frames left copies after_r here
      (block_c (layer_acted view s (out-StmtKind (out-Stmt s).what) ++ changes_code view rule.on_true) scope here)

  coded : (e : Option Expr) → out-StmtKind (out-Stmt s).what ≡ StmtKind-F.Return e →
      layer_acted view s (out-StmtKind (out-Stmt s).what) ++ changes_code view rule.on_true ≡ returned view e ++ changes_code view rule.on_true
  coded e kind = ap (λ code. code ++ changes_code view rule.on_true) (ap (layer_acted view s) kind ∙ returned_is view s e)

  left_so : (answer : Bool) (left made_store : Store) → Some (done made_store) ≡ Some (record { answer = answer; store = left }) →
      PartSimulates w activities i unit scope frames made_store copies after_r here
      (block_c (layer_acted view s (out-StmtKind (out-Stmt s).what) ++ changes_code view rule.on_true) scope here) → Comes answer left
  left_so answer left made_store did comes =
      let is : done made_store ≡ record { answer = answer; store = left } = same_Some (done made_store)
      (record { answer = answer; store = left }) did in (
        sym (ap (λ (p : Performed). p.answer) is),
        subst (λ left. PartSimulates w activities i unit scope frames left copies after_r here
            (block_c (layer_acted view s (out-StmtKind (out-Stmt s).what) ++ changes_code view rule.on_true) scope here))
            (ap (λ (p : Performed). p.store) is) comes,
      )

  comes_by : (e : Option Expr) → out-StmtKind (out-Stmt s).what ≡ StmtKind-F.Return e → CopiesMatch w i (ActAt l s) store copies →
      (answer : Bool) (left : Store) →
      option_map done (acted_kind w i s (StmtKind-F.Return e) store) ≡ Some (record { answer = answer; store = left }) → Comes answer left
  comes_by None kind sees answer left did =
      left_so answer left store did
      (subst (λ code. PartSimulates w activities i unit scope frames store copies after_r here (block_c code scope here)) (sym (coded None kind))
      (none_comes kind))
  comes_by (Some e) kind sees answer left did = by (value_there w store i e) refl did
    where
      by : (o : Option Value) → value_there w store i e ≡ o →
          option_map done (option_map (λ value. with_frame i (with_result value) store) o) ≡ Some (record { answer = answer; store = left }) →
          Comes answer left
      by None is did = absurd (cc)
      by (Some value) is did =
          left_so answer left (with_frame i (with_result value) store) did
          (subst (λ code. PartSimulates w activities i unit scope frames (with_frame i (with_result value) store) copies after_r here
          (block_c code scope here)) (sym (coded (Some e) kind)) (some_comes e kind sees value is))

  cut_by : (e : Option Expr) → out-StmtKind (out-Stmt s).what ≡ StmtKind-F.Return e → CopiesMatch w i (ActAt l s) store copies →
      option_map done (acted_kind w i s (StmtKind-F.Return e) store) ≡ None →
      (block_c (layer_acted view s (out-StmtKind (out-Stmt s).what) ++ changes_code view rule.on_true) scope here).end ≡ traps
  cut_by None kind sees did = absurd (cc)
  cut_by (Some e) kind sees did = by (value_there w store i e) refl did
    where
      by : (o : Option Value) → value_there w store i e ≡ o →
          option_map done (option_map (λ value. with_frame i (with_result value) store) o) ≡ None →
          (block_c (layer_acted view s (out-StmtKind (out-Stmt s).what) ++ changes_code view rule.on_true) scope here).end ≡ traps
      by (Some value) is did = absurd (cc)
      by None is did = ap (λ code. (block_c code scope here).end) (coded (Some e) kind) ∙ some_cut e kind sees is

pub return_nodes_simulate : ChangesSimulateInPass → FramesApart → (structs : List StructDef) (units : List UnitDef) (entry : ℕ) →
    ExpressionsSimulate structs units entry → ReturnNodesSimulate structs units entry
return_nodes_simulate stand apart structs units entry show machine activities keeps own remembering nodes views agree = record {
  acts = λ i unit scope frames store copies r rule u answer frames' left here midway there returning called sees performs.
      let w = setting_of structs units entry in
      let a = activity_at w activities i in
      let found = return_is rule.node returning in
      let l = found.0 in
      let s = found.1 in
      let n_is = found.2 in
      let layer = out-StmtKind (out-Stmt s).what in
      let kind = kind_is layer found.3 in
      let performed = return_performs w activities i frames store rule.node answer frames' left returning performs in
      let did = subst (λ n. done_by w (deed_at i n) store ≡ Some (record { answer = answer; store = left })) n_is performed.1 in
      let comes =
      comes_by stand apart structs units entry keeps show machine activities own remembering nodes views agree i unit scope frames
      store copies r
      rule u here midway there l s called.position (called.node ∙ ap Some n_is) kind.0 kind.1
      (subst (λ n. CopiesMatch w i n store copies) n_is sees) answer left
      (ap (λ layer. option_map done (acted_kind w i s layer store)) (sym kind.1) ∙ did) in
      let code_is = ap (node_code (activity_view a) u rule) n_is in
      let done_block = block_done w activities i u rule scope here in
      let whole = block_c (layer_acted (activity_view a) s layer ++ changes_code (activity_view a) rule.on_true) scope here in
      as_left w activities i unit scope r rule here done_block frames frames' left copies (recopied w i rule.node left copies) answer
      performed.0 comes.0
      (ap (λ n. recopied w i n left copies) n_is ∙ ap (λ layer. recopied_kind layer (view_at w left i).now copies) kind.1)
      (comes_as w activities i unit scope frames left copies (all_changed (rank_by w activities i) rule.on_true r) here done_block whole
      (ap (λ code. (block_c code scope here).end) code_is) (ap (λ code. (block_c code scope here).memory) code_is) comes.1);
  stops = λ i unit scope frames store copies r rule u here midway there returning called sees stops.
      let w = setting_of structs units entry in
      let a = activity_at w activities i in
      let found = return_is rule.node returning in
      let l = found.0 in
      let s = found.1 in
      let n_is = found.2 in
      let layer = out-StmtKind (out-Stmt s).what in
      let kind = kind_is layer found.3 in
      let did = subst (λ n. done_by w (deed_at i n) store ≡ None) n_is (return_stops w activities i frames store rule.node returning stops) in
      let cut =
      cut_by stand apart structs units entry keeps show machine activities own remembering nodes views agree i unit scope frames store
      copies r
      rule u here midway there l s called.position (called.node ∙ ap Some n_is) kind.0 kind.1
      (subst (λ n. CopiesMatch w i n store copies) n_is sees) (ap (λ layer. option_map done (acted_kind w i s layer store)) (sym kind.1) ∙ did) in
      let code_is = ap (node_code (activity_view a) u rule) n_is in
      (ap (λ code. (block_c code scope here).end) code_is ∙ cut);
}
