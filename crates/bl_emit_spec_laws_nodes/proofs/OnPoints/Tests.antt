-- The blocks of nodes at which a condition is tested.
use Rattle.std.proofs.Common.{◌≡◌, ℕ, Bool, true, false, List, take, Option, Some, None, refl, sym, ap, ◌∙◌, subst, IfSome}
use Rattle.std.proofs.lemmas.Option.{same_Some}
use Rattle.std.specs.Prelude.{is_some, nat_eq, pos, option_and_then, option_map, unwrap_or, if◌then◌else◌}
use Rattle.std.specs.List.{list_all, list_any}
use Rattle.std.proofs.lemmas.Bool.{false_from_ne_true}
use Rattle.bl_tree.proofs.Basics.{true_not_false}
use Rattle.bl_tree.specs.declared.c.CStmt.{CStmt}
use Rattle.bl_tree.specs.declared.scalar.Scalar.{Scalar as ScalarType}
use Rattle.bl_tree.specs.declared.tree.Expr.{Expr}
use Rattle.bl_tree.specs.declared.tree.StructDef.{StructDef}
use Rattle.bl_tree.specs.declared.tree.Ty.{Ty}
use Rattle.bl_tree.specs.declared.tree.Unit.{Unit as UnitDef}
use Rattle.bl_tree.specs.declared.value.Value.{Value}
use Rattle.bl_tree.specs.declared.value.Value.TheVariants.{outs-Number}
use Rattle.bl_tree.specs.Numbers.{is_one}
use Rattle.bl_tree.specs.Program.{IsWellTyped}
use Rattle.bl_tree.specs.Scalar.{is_bool}
use Rattle.bl_tree.specs.Types.{scalar_in}
use Rattle.bl_tree.specs.Typing.{TypingContext, is_truth, site_of, type_of}
use Rattle.bl_graph_nodes.specs.Nodes.{ActAt, CheckAt, DepthEndAt, DepthJoinAt, EnterAt, ForkAt, HeadAt, Node, PauseAt}
use Rattle.bl_graph_nodes.specs.Nodes.{ResumeAt, StartAt, SurfaceEndAt, SurfaceJoinAt, TestAt}
use Rattle.bl_graph_nodes.specs.Plain.{plain_body}
use Rattle.bl_machine_prevs.specs.Declared.{prevs_at}
use Rattle.bl_machine_prevs.specs.Prevs.{prevs_in_expr}
use Rattle.bl_eval.specs.declared.datum.Datum.{Datum}
use Rattle.bl_eval.specs.declared.datum.Datum.TheVariants.{Scalar as OfScalar, Whole as OfWhole}
use Rattle.bl_eval.specs.Functions.{callees_of}
use Rattle.bl_eval.specs.Meaning.{View as Sight, meaning_of, plain}
use Rattle.bl_eval.specs.Standing.{scope_of}
use Rattle.bl_eval.specs.Values.{number_at}
use Rattle.bl_eval.proofs.ExprFits.{expr_fits}
use Rattle.bl_eval.proofs.OperatorFits.{DatumFits}
use Rattle.bl_eval.proofs.UnitFits.{sound_at}
use Rattle.bl_ctext_semantics.specs.Course.{Outcome, ending, traps}
use Rattle.bl_ctext_semantics.specs.Meaning.{Scope, block_c, value_c}
use Rattle.bl_ctext_semantics.specs.Memory.{CValue, Memory, scalar_number}
use Rattle.bl_ctree.specs.Actions.{Performed, is_true_value, value_there}
use Rattle.bl_ctree.specs.Instances.{Setting, setting_of}
use Rattle.bl_ctree.specs.Store.{Store, view_at}
use Rattle.bl_ctree_laws.specs.Ends.{done_by}
use Rattle.bl_emit_acts.specs.declared.made.Made.{Made}
use Rattle.bl_emit_acts.specs.declared.made.Made.TheVariants.{Number, Whole}
use Rattle.bl_emit_acts.specs.Acts.{code_made, is_copied}
use Rattle.bl_emit_acts.specs.Expressions.{code_of, made_of}
use Rattle.bl_emit_acts_laws_simulation.specs.Encodes.{copied_in}
use Rattle.bl_emit_acts_laws_simulation.specs.Laws.{ExpressionsSimulate, FramesApart}
use Rattle.bl_emit_acts_laws_simulation.specs.Simulation.{ExpressionSimulates, number_given}
use Rattle.bl_emit_functions.specs.Statements.{else_code}
use Rattle.bl_emit_spec.specs.Activities.{activity_view, copies_of}
use Rattle.bl_emit_spec.specs.Blocks.{ActivityView, changes_code, node_code, test_code}
use Rattle.bl_emit_spec_laws.specs.Registers.Laws.{changes_its_own}
use Rattle.bl_machine.specs.declared.machine.Activity.{Activity as InMachine}
use Rattle.bl_machine_pass.specs.Registers.{Registers, after_rule, all_changed}
use Rattle.bl_machine_pass.specs.Transitions.{Change, Transition}
use Rattle.bl_machine_pass_laws_execution.specs.Executes as executes
use Rattle.bl_machine_pass_laws_execution.specs.Executes.{CopiesMatch, NodeTraps, Performs, deed_at, recopied}
use Rattle.bl_machine_pass_laws_execution.specs.Frames.{Frames}
use Rattle.bl_emit_spec_laws.specs.Calls.Built.{Activities, activity_at, cleared, rank_by, registered, slots_by, unit_number}
use Rattle.bl_emit_spec_laws.specs.Calls.Laws.{CalledAt, HasShownRule, Midway, PartSimulates, block_done}
use Rattle.bl_emit_spec_laws.specs.Registers.Laws.{ends_body}
use Rattle.bl_emit_spec_laws.proofs.OnRegisters.Statements.{Chosen, truth_c}
use Rattle.bl_emit_spec_laws_nodes.specs.Points.Laws.{ChangesSimulateInPass, Remembering, ResultTold, ReturnsEnd}
use Rattle.bl_emit_spec_laws_nodes.specs.Points.Laws.{RulesOwn, is_return_node}
use Rattle.bl_emit_spec_laws_nodes.specs.Points.Nodes.{IsTest, NodesStand, PrevsAgree, TestNodesSimulate, ViewsFit, copied_there, fits_there}
use Rattle.bl_emit_spec_laws_nodes.proofs.OnPoints.Besides.{beside, site_is, value_there_is}
use Rattle.bl_emit_spec_laws_nodes.proofs.OnPoints.Choices.{choice_alone, else_same}
use Rattle.bl_emit_spec_laws_nodes.proofs.OnPoints.Shown.{ends_false, ends_true}
use Rattle.bl_emit_spec_laws_nodes.proofs.OnPoints.Silent.{comes_as, over_after}
use Rattle.bl_emit_acts_laws_simulation.proofs.Begun.{or_other}

-- ---- nodes

-- what a test answers
abbrev tested_so : Store → Value → Performed
tested_so store value = record { answer = is_true_value value; store = store }

-- what is done at a node that tests this expression
record TestIs (n : Node) (e : Expr) : Type 0 where
  code : (view : ActivityView) (u : ℕ) (rule : Transition) → node_code view u rule n ≡ test_code view (code_made view.site e) rule
  does : (w : Setting) (i : ℕ) (store : Store) → done_by w (deed_at i n) store ≡ option_map (tested_so store) (value_there w store i e)
  prevs : prevs_at n ≡ prevs_in_expr e
  fitting : (site : TypingContext) → fits_there site n ≡ is_truth (type_of site e)
  copied : (copied : ℕ → Bool) → copied_there copied n ≡ copied_in copied e
  no_return : is_return_node n ≡ false
  recopies : (w : Setting) (i : ℕ) (left : Store) (copies : List Value) → recopied w i n left copies ≡ copies

test_is : (n : Node) → IsTest n → (e : Expr) × TestIs n e
test_is (TestAt l at e) test = (
  e,
  record {
    code = λ view u rule. refl;
    does = λ w i store. refl;
    prevs = refl;
    fitting = λ site. refl;
    copied = λ copied. refl;
    no_return = refl;
    recopies = λ w i left copies. refl;
  },
)
test_is (CheckAt l at e) test = (
  e,
  record {
    code = λ view u rule. refl;
    does = λ w i store. refl;
    prevs = refl;
    fitting = λ site. refl;
    copied = λ copied. refl;
    no_return = refl;
    recopies = λ w i left copies. refl;
  },
)
test_is (PauseAt l at) test = absurd test
test_is (HeadAt l at) test = absurd test
test_is (StartAt l at) test = absurd test
test_is (SurfaceEndAt l at) test = absurd test
test_is (DepthEndAt l at) test = absurd test
test_is (ForkAt l at) test = absurd test
test_is (SurfaceJoinAt l at) test = absurd test
test_is (DepthJoinAt l at) test = absurd test
test_is (ActAt l s) test = absurd test
test_is (EnterAt l at arguments) test = absurd test
test_is (ResumeAt l at arguments) test = absurd test

-- ---- what the test answers

-- a condition is of a scalar type
truth_typed : (typed : Option Ty) → is_truth typed ≡ true → (ty : Ty) × (typed ≡ Some ty) × ((s : ScalarType) × (scalar_in ty ≡ Some s))
truth_typed None h = absurd (cc)
truth_typed (Some ty) h = (ty, refl, by (scalar_in ty) refl h)
  where
    by : (o : Option ScalarType) → scalar_in ty ≡ o → is_some (option_and_then (λ s. if is_bool s then Some s else None) o) ≡ true →
        (s : ScalarType) × (scalar_in ty ≡ Some s)
    by None is h = absurd (cc)
    by (Some s) is h = (s, is)

-- numbers in C and in the program are true together
truth_by : (structs : List StructDef) (ty : Ty) (s : ScalarType) (o : Option CValue) (datum : Option Datum) → scalar_in ty ≡ Some s →
    IfSome datum (DatumFits structs ty) → option_map scalar_number o ≡ option_map number_given datum →
    option_map (λ v. is_one (scalar_number v)) o ≡ option_map is_true_value (option_map plain datum)
truth_by structs ty s None None is fit same = refl
truth_by structs ty s None (Some datum) is fit same = absurd (cc)
truth_by structs ty s (Some v) None is fit same = absurd (cc)
truth_by structs ty s (Some v) (Some (OfScalar t n)) is fit same =
    ap (option_map is_one) same ∙ ap (λ level. Some (is_one (unwrap_or (number_at level) (pos 0)))) (sym (outs-Number n))
truth_by structs ty s (Some v) (Some (OfWhole value)) is fit same = absurd (let none = fit.0 in cc)

-- what is made of an expression of a scalar type gives its number
pub number_made : (structs : List StructDef) (ty : Ty) (s : ScalarType) (scope : Scope) (here : Memory) (made : Made) (datum : Option Datum) →
    scalar_in ty ≡ Some s → ExpressionSimulates structs ty scope here made datum →
    option_map scalar_number (value_c (code_of made) scope here).answer ≡ option_map number_given datum
number_made structs ty s scope here (Number r code) datum is shown = shown.1
number_made structs ty s scope here (Whole place) datum is shown = absurd (let none = shown.0 in cc)

-- ---- changes by the answer

some_answer : (store left : Store) (answer : Bool) (o : Option Value) →
    option_map (tested_so store) o ≡ Some (record { answer = answer; store = left }) →
    (value : Value) × (o ≡ Some value) × (answer ≡ is_true_value value) × (left ≡ store)
some_answer store left answer None did = absurd (cc)
some_answer store left answer (Some value) did =
    let is : tested_so store value ≡ record { answer = answer; store = left } =
    same_Some (tested_so store value) (record { answer = answer; store = left }) did in
    (value, refl, sym (ap (λ (p : Performed). p.answer) is), sym (ap (λ (p : Performed). p.store) is))

no_answer : (store : Store) (o : Option Value) → option_map (tested_so store) o ≡ None → o ≡ None
no_answer store None did = refl
no_answer store (Some value) did = absurd (cc)

module _ (w : Setting) (activities : Activities) (i : ℕ) (frames : Frames) (store : Store) where
  test_performs : (n : Node) (answer : Bool) (frames' : Frames) (left : Store) → IsTest n →
      Performs w (rank_by w activities) (slots_by w activities) (cleared w) i n frames store answer frames' left →
      (frames' ≡ frames) × (done_by w (deed_at i n) store ≡ Some (record { answer = answer; store = left }))
  test_performs n answer frames' left test (executes.does point did) = (refl, did)
  test_performs n answer frames' left test (executes.enters called there copied executed over) = absurd test
  test_performs n answer frames' left test (executes.resumes called rested copied executed over) = absurd test
  test_performs n answer frames' left test (executes.returns called rested copied executed over gives) = absurd test

  test_stops : (n : Node) → IsTest n → NodeTraps w (rank_by w activities) (slots_by w activities) (cleared w) i n frames store →
      done_by w (deed_at i n) store ≡ None
  test_stops n test (executes.point_stops point did) = did
  test_stops n test (executes.inputs_stop called did) = absurd test
  test_stops n test (executes.copies_stop called did) = absurd test
  test_stops n test (executes.begun_stops called there copied cut) = absurd test
  test_stops n test (executes.resumed_stops called rested copied cut) = absurd test

-- what is left where a test has answered
as_left : (w : Setting) (activities : Activities) (i : ℕ) (unit : UnitDef) (scope : Scope) (r : Registers) (rule : Transition) (here : Memory)
    (o : Outcome Memory) (frames frames' : Frames) (store left : Store) (copies copied : List Value) (answer b : Bool) → frames' ≡ frames →
    answer ≡ b → left ≡ store → copied ≡ copies →
    PartSimulates w activities i unit scope frames store copies (after_rule (rank_by w activities i) rule b r) here o →
    PartSimulates w activities i unit scope frames' left copied (after_rule (rank_by w activities i) rule answer r) here o
as_left w activities i unit scope r rule here o frames frames' store left copies copied answer b same_frames same_answer same_store
    same_copies comes =
    subst (λ f. PartSimulates w activities i unit scope f left copied (after_rule (rank_by w activities i) rule answer r) here o) (sym same_frames)
    (subst (λ b. PartSimulates w activities i unit scope frames left copied (after_rule (rank_by w activities i) rule b r) here o) (sym same_answer)
    (subst (λ s. PartSimulates w activities i unit scope frames s copied (after_rule (rank_by w activities i) rule b r) here o) (sym same_store)
    (subst (λ c. PartSimulates w activities i unit scope frames store c (after_rule (rank_by w activities i) rule b r) here o) (sym same_copies)
    comes)))

-- ---- blocks

module _ (stand : ChangesSimulateInPass) (frames_apart : FramesApart) (structs : List StructDef) (units : List UnitDef) (entry : ℕ)
    (keeps : IsWellTyped structs units entry) (show : ExpressionsSimulate structs units entry) (machine : List InMachine) (activities : Activities)
    (own : RulesOwn (setting_of structs units entry) activities) (ends : ReturnsEnd units activities)
    (remembering : Remembering (setting_of structs units entry) activities)
    (nodes : NodesStand structs units) (views : ViewsFit structs units entry) (agree : PrevsAgree) where
  abbrev w : Setting
  w = setting_of structs units entry

  module _ (i : ℕ) (unit : UnitDef) (scope : Scope) (frames : Frames) (store : Store) (copies : List Value) (r : Registers) (rule : Transition) (u : ℕ)
      (here : Memory) (midway : Midway structs units entry machine activities i unit scope frames store copies r here)
      (there : HasShownRule w activities i unit rule) (test : IsTest rule.node)
      (called : CalledAt (plain_body unit.body) rule.node u)
      (sees : CopiesMatch w i rule.node store copies) where
    abbrev k : ℕ
    k = unit_number w i

    abbrev site : TypingContext
    site = site_of structs (take k units) unit

    abbrev e : Expr
    e = (test_is rule.node test).0

    is : TestIs rule.node e
    is = (test_is rule.node test).1

    -- the C test is true where the value is
    same_truth : truth_c scope (code_made (activity_view (activity_at w activities i)).site e) here ≡ option_map is_true_value (value_there w store i e)
    same_truth =
        let now = (view_at w store i).now in
        let before = (view_at w store i).before in
        let fitted : is_truth (type_of site e) ≡ true =
        sym (is.fitting site) ∙ nodes.fitting k called.position unit rule.node midway.function.is_there called.node in
        let copied : copied_in (is_copied (copies_of unit)) e ≡ true =
        sym (is.copied (is_copied (copies_of unit))) ∙ nodes.copied k called.position unit rule.node midway.function.is_there called.node in
        let found = truth_typed (type_of site e) fitted in
        let sight : Sight = record { now = now; before = copies } in
        let datum = meaning_of (scope_of site) e sight in
        let shown =
        number_made structs found.0 found.2.0 scope here (made_of site e) datum found.2.1
        (show k unit e found.0 sight (is_copied (copies_of unit)) scope here keeps
        (beside frames_apart structs units entry views machine activities i unit scope frames store copies r here midway) found.1 copied) in
        let fit =
        expr_fits structs (take k units) unit (callees_of structs (take k units))
        (sound_at structs units entry k unit keeps midway.function.is_there) sight (views i unit store midway.is_there midway.fits)
        midway.copies_fit
        e found.0 found.1 in
        let agreed : datum ≡ meaning_of (scope_of site) e (record { now = now; before = before }) =
        agree.values (scope_of site) e now copies before
        (λ x named. sees x (ap (λ prevs. list_any (nat_eq x) prevs) is.prevs ∙ named)) in
        ap (λ site. truth_c scope (code_made site e) here)
        (site_is frames_apart structs units entry views machine activities i unit scope frames store copies r here midway)
        ∙ (truth_by structs found.0 found.2.0 (value_c (code_made site e) scope here).answer datum found.2.1 fit shown
        ∙ ap (option_map is_true_value) (ap (option_map plain) agreed ∙ sym (value_there_is w i unit e store midway.is_there)))

    -- changes after the test
    changes_simulate : (changes : List Change) →
        list_all (changes_its_own (rank_by w activities i) (registered (activity_at w activities i))) changes ≡ true →
        (list_any ends_body changes ≡ true → is_some unit.result ≡ true → is_return_node rule.node ≡ true) →
        PartSimulates w activities i unit scope frames store copies (all_changed (rank_by w activities i) changes r) here
        (block_c (changes_code (activity_view (activity_at w activities i)) changes) scope here)
    changes_simulate changes its returns =
        stand structs units entry machine activities i unit scope frames store copies r here changes midway.compiled midway.function midway.is_there
        remembering midway.stands its told
      where
        told : ResultTold unit i scope store (all_changed (rank_by w activities i) changes r) here
        told value over one at =
            midway.stands.result value
            (or_other r.over (list_any ends_body changes) (over_after (rank_by w activities i) changes r over)
            (false_from_ne_true (list_any ends_body changes) (λ ending. true_not_false (sym (returns ending one) ∙ is.no_return)))) one at

    abbrev Left : Bool → Outcome Memory → Type 0
    Left b o = PartSimulates w activities i unit scope frames store copies (after_rule (rank_by w activities i) rule b r) here o

    abbrev so_code : List CStmt
    so_code = changes_code (activity_view (activity_at w activities i)) rule.on_true

    abbrev other_code : List CStmt
    other_code = changes_code (activity_view (activity_at w activities i)) rule.on_false

    as_ending : (b : Bool) (o : Outcome Memory) → Left b o → Left b (ending o.end o.memory)
    as_ending b o comes =
        comes_as w activities i unit scope frames store copies (after_rule (rank_by w activities i) rule b r) here (ending o.end o.memory) o
        refl refl comes

    chosen_by : (b : Bool) → Chosen scope here (λ end m. Left b (ending end m)) so_code (else_code other_code) (Some b)
    chosen_by true =
        as_ending true (block_c so_code scope here)
        (changes_simulate rule.on_true (own.on_true i unit rule midway.is_there there)
        (λ ending one. ends_true activities units ends i unit w rule there midway.function.is_there midway.function.active one ending))
    chosen_by false =
        subst (λ code. Left false (ending (block_c code scope here).end (block_c code scope here).memory)) (sym (else_same other_code))
        (as_ending false (block_c other_code scope here)
        (changes_simulate rule.on_false (own.on_false i unit rule midway.is_there there)
        (λ ending one. ends_false activities units ends i unit w rule there midway.function.is_there midway.function.active one ending)))

    abbrev code : List CStmt
    code = test_code (activity_view (activity_at w activities i)) (code_made (activity_view (activity_at w activities i)).site e) rule

    answers : (value : Value) → value_there w store i e ≡ Some value → Left (is_true_value value) (block_c code scope here)
    answers value at =
        let b = is_true_value value in
        let o = block_c code scope here in
        comes_as w activities i unit scope frames store copies (after_rule (rank_by w activities i) rule b r) here o (ending o.end o.memory)
        refl refl
        (choice_alone scope here (λ end m. Left b (ending end m)) (code_made (activity_view (activity_at w activities i)).site e) so_code other_code
        (subst (Chosen scope here (λ end m. Left b (ending end m)) so_code (else_code other_code))
        (sym (same_truth ∙ ap (option_map is_true_value) at)) (chosen_by b)))

    cut : value_there w store i e ≡ None → (block_c code scope here).end ≡ traps
    cut at =
        choice_alone scope here (λ end m. end ≡ traps) (code_made (activity_view (activity_at w activities i)).site e) so_code other_code
        (subst (Chosen scope here (λ end m. end ≡ traps) so_code (else_code other_code)) (sym (same_truth ∙ ap (option_map is_true_value) at)) refl)

pub tests_come_so : ChangesSimulateInPass → FramesApart → (structs : List StructDef) (units : List UnitDef) (entry : ℕ) →
    ExpressionsSimulate structs units entry → TestNodesSimulate structs units entry
tests_come_so stand apart structs units entry show machine activities keeps own ends remembering nodes views agree = record {
  acts = λ i unit scope frames store copies r rule u answer frames' left here midway there test called sees performs.
      let w = setting_of structs units entry in
      let e = (test_is rule.node test).0 in
      let is = (test_is rule.node test).1 in
      let did = test_performs w activities i frames store rule.node answer frames' left test performs in
      let found = some_answer store left answer (value_there w store i e) (sym (is.does w i store) ∙ did.1) in
      let o = block_c (code stand apart structs units entry keeps show machine activities own ends remembering nodes views agree i unit scope
      frames store copies r rule u here midway there test called sees) scope here in
      let comes =
      answers stand apart structs units entry keeps show machine activities own ends remembering nodes views agree i unit scope frames store
      copies r rule u here midway there test called sees found.0 found.1 in
      let code_is = is.code (activity_view (activity_at w activities i)) u rule in
      let done = block_done w activities i u rule scope here in
      as_left w activities i unit scope r rule here done frames frames' store left copies (recopied w i rule.node left copies) answer
      (is_true_value found.0) did.0 found.2 found.3 (is.recopies w i left copies)
      (comes_as w activities i unit scope frames store copies (after_rule (rank_by w activities i) rule (is_true_value found.0) r) here done o
      (ap (λ code. (block_c code scope here).end) code_is) (ap (λ code. (block_c code scope here).memory) code_is) comes);
  stops = λ i unit scope frames store copies r rule u here midway there test called sees stops.
      let w = setting_of structs units entry in
      let e = (test_is rule.node test).0 in
      let is = (test_is rule.node test).1 in
      let did = test_stops w activities i frames store rule.node test stops in
      let none = no_answer store (value_there w store i e) (sym (is.does w i store) ∙ did) in
      let code_is = is.code (activity_view (activity_at w activities i)) u rule in
      (ap (λ code. (block_c code scope here).end) code_is
      ∙ cut stand apart structs units entry keeps show machine activities own ends remembering nodes views agree i unit scope frames
      store copies
      r rule u here midway there test called sees none);
}
