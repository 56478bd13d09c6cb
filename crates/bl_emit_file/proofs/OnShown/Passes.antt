-- Passes by rules in two settings whose instances have the same bodies, see the same and do the same.
use Rattle.std.proofs.Common.{◌≡◌, ℕ, suc, ◌<◌, Bool, List, Contains, Some, refl, sym, ap, ap₂, ◌∙◌, subst}
use Rattle.bl_tree.specs.declared.place.Place.{Place}
use Rattle.bl_tree.specs.declared.tree.Stmt.{out-Stmt}
use Rattle.bl_tree.specs.declared.tree.StmtKind.{out-StmtKind}
use Rattle.bl_tree.specs.declared.tree.Unit.{Unit as UnitDef}
use Rattle.bl_tree.specs.declared.value.Value.{Value}
use Rattle.bl_graph_nodes.specs.Nodes.{ActAt, CheckAt, DepthEndAt, DepthJoinAt, EnterAt, ForkAt, HeadAt, Node, PauseAt, ResumeAt, StartAt}
use Rattle.bl_graph_nodes.specs.Nodes.{SurfaceEndAt, SurfaceJoinAt, TestAt}
use Rattle.bl_graph_nodes.specs.Plain.{plain_body}
use Rattle.bl_ctree.specs.Actions.{Copies, Gives}
use Rattle.bl_ctree.specs.Instances.{Setting, callee_of, unit_at}
use Rattle.bl_ctree.specs.Store.{Store, view_at}
use Rattle.bl_ctree_laws.specs.Ends.{done_by}
use Rattle.bl_ctree_laws.specs.Pending.{Deed, deed}
use Rattle.bl_machine.specs.Uses.{Slots}
use Rattle.bl_machine_laws.specs.Passes.Follows.{DeedYields}
use Rattle.bl_machine_pass.specs.Registers.{Registers, after_rule, is_due, started}
use Rattle.bl_machine_pass.specs.Transitions.{Transition, rules}
use Rattle.bl_machine_pass_laws.specs.Turns.Laws.{entry_flag}
use Rattle.bl_machine_pass_laws_execution.specs.Executes.{BeginsAlone, CopiesMatch, Executes, HasRule, NodeTraps, PassTraps, Performs, begun_registers, deed_at, recopied}
use Rattle.bl_machine_pass_laws_execution.specs.Executes.{recopied_kind}
use Rattle.bl_machine_pass_laws_execution.specs.Frames.{Frames}

-- a unit of one setting, with that of the other one which has the same rules
pub record SameRules (rank rank' : ℕ → Node → ℕ) (slots slots' : ℕ → Slots) (i : ℕ) (one other : UnitDef) : Type 0 where
  pub body : other.body ≡ one.body
  pub numbers : rank' i ≡ rank i
  pub places : slots' i ≡ slots i

-- two settings whose instances do the same
pub record DoSame (w w' : Setting) (rank rank' : ℕ → Node → ℕ) (slots slots' : ℕ → Slots) : Type 0 where
  pub deeds : (a : Deed) (store : Store) → done_by w' a store ≡ done_by w a store
  pub callees : (i : ℕ) (at : Place) → callee_of w' i at ≡ callee_of w i at
  pub views : (store : Store) (i : ℕ) → view_at w' store i ≡ view_at w store i
  pub units : (i : ℕ) (one : UnitDef) → unit_at w i ≡ Some one → (other : UnitDef) × (unit_at w' i ≡ Some other) × SameRules rank rank' slots slots' i one other

module _ (w w' : Setting) (rank rank' : ℕ → Node → ℕ) (slots slots' : ℕ → Slots) (clear : ℕ → Frames → Frames)
    (same : DoSame w w' rank rank' slots slots') where
  module _ (i : ℕ) (one other : UnitDef) (are : SameRules rank rank' slots slots' i one other) where
    rules_same : rules (slots' i) (plain_body other.body) ≡ rules (slots i) (plain_body one.body)
    rules_same = ap₂ (λ s body. rules s (plain_body body)) are.places are.body

    rule_here : (rule : Transition) → HasRule slots i one rule → HasRule slots' i other rule
    rule_here rule has = subst (λ rs. Contains rs rule) (sym rules_same) has

    rule_back : (rule : Transition) → HasRule slots' i other rule → HasRule slots i one rule
    rule_back rule has = subst (λ rs. Contains rs rule) rules_same has

    number_here : (k : ℕ) (n : Node) → rank i n ≡ k → rank' i n ≡ k
    number_here k n is = ap (λ number. number n) are.numbers ∙ is

    number_back : (k : ℕ) (n : Node) → rank' i n ≡ k → rank i n ≡ k
    number_back k n is = sym (ap (λ number. number n) are.numbers) ∙ is

    due_same : (rule : Transition) (r : Registers) → is_due (rank' i) rule r ≡ is_due (rank i) rule r
    due_same rule r = ap (λ number. is_due number rule r) are.numbers

    after_same : (rule : Transition) (answer : Bool) (r : Registers) → after_rule (rank' i) rule answer r ≡ after_rule (rank i) rule answer r
    after_same rule answer r = ap (λ number. after_rule number rule answer r) are.numbers

    skipped_here : (k : ℕ) (r : Registers) → ((rule : Transition) → HasRule slots i one rule → rank i rule.node ≡ k → is_due (rank i) rule r ≡ Bool.false) →
        (rule : Transition) → HasRule slots' i other rule → rank' i rule.node ≡ k → is_due (rank' i) rule r ≡ Bool.false
    skipped_here k r none rule has is = due_same rule r ∙ none rule (rule_back rule has) (number_back k rule.node is)

    none_here : (k : ℕ) → ((rule : Transition) → HasRule slots i one rule → rank i rule.node < k) →
        (rule : Transition) → HasRule slots' i other rule → rank' i rule.node < k
    none_here k none rule has = subst (λ number. number rule.node < k) (sym are.numbers) (none rule (rule_back rule has))

    alone_here : (rule : Transition) (r : Registers) → BeginsAlone rank slots i one rule r → BeginsAlone rank' slots' i other rule r
    alone_here rule r alone next has run later =
        due_same next r
        ∙ alone next (rule_back next has) run (subst (λ number. number rule.node < number next.node) are.numbers later)

    begun_same : begun_registers rank' i other ≡ begun_registers rank i one
    begun_same = ap₂ (λ number body. started (λ k. 0) (entry_flag number (plain_body body))) are.numbers are.body

  copies_here : (i : ℕ) (n : Node) (store : Store) (copies : List Value) → CopiesMatch w i n store copies → CopiesMatch w' i n store copies
  copies_here i n store copies match x asked =
      match x asked ∙ ap (λ view. Rattle.std.specs.Prelude.slice_get view.before x) (sym (same.views store i))

  recopied_same : (i : ℕ) (n : Node) (between : Store) (copies : List Value) → recopied w' i n between copies ≡ recopied w i n between copies
  recopied_same i (ActAt l s) between copies =
      ap (λ view. recopied_kind (out-StmtKind (out-Stmt s).what) view.now copies) (same.views between i)
  recopied_same i (TestAt l at e) between copies = refl
  recopied_same i (PauseAt l at) between copies = refl
  recopied_same i (EnterAt l at arguments) between copies = refl
  recopied_same i (ResumeAt l at arguments) between copies = refl
  recopied_same i (HeadAt l at) between copies = refl
  recopied_same i (StartAt l at) between copies = refl
  recopied_same i (CheckAt l at e) between copies = refl
  recopied_same i (SurfaceEndAt l at) between copies = refl
  recopied_same i (DepthEndAt l at) between copies = refl
  recopied_same i (ForkAt l at) between copies = refl
  recopied_same i (SurfaceJoinAt l at) between copies = refl
  recopied_same i (DepthJoinAt l at) between copies = refl

  yields_here : (a : Deed) (store : Store) (d : Bool) (left : Store) → DeedYields w a store d left → DeedYields w' a store d left
  yields_here a store d left yields = same.deeds a store ∙ yields

  called_here : (i : ℕ) (at : Place) (callee : ℕ) → callee_of w i at ≡ Some callee → callee_of w' i at ≡ Some callee
  called_here i at callee is = same.callees i at ∙ is

  now_same : (store : Store) (i : ℕ) → (view_at w store i).now ≡ (view_at w' store i).now
  now_same store i = ap (λ view. view.now) (sym (same.views store i))

  mutual
    pub executed : {i k : ℕ} {frames : Frames} {store : Store} {copies : List Value} {r : Registers} {frames' : Frames} {left : Store} {r' : Registers} →
        Executes w rank slots clear i k frames store copies r frames' left r' → Executes w' rank' slots' clear i k frames store copies r frames' left r'
    executed {i} {k} (Executes.ends {unit = one} at none) =
        let found = same.units i one at in Executes.ends {unit = found.0} found.1 (none_here i one found.0 found.2 k none)
    executed {i} {k} {r = r} (Executes.skips {unit = one} at none more) =
        let found = same.units i one at in Executes.skips {unit = found.0} found.1 (skipped_here i one found.0 found.2 k r none) (executed more)
    executed {i} {k} {store = store} {copies = copies} {r = r} {frames' = frames'} {left = left} {r' = r'}
        (Executes.acts {answer} {inner} {between} {unit = one} at rule has is due alone match performs more) =
        let found = same.units i one at in
        Executes.acts {answer = answer} {inner = inner} {between = between} {unit = found.0} found.1 rule (rule_here i one found.0 found.2 rule has)
        (number_here i one found.0 found.2 k rule.node is) (due_same i one found.0 found.2 rule r ∙ due) (alone_here i one found.0 found.2 rule r alone)
        (copies_here i rule.node store copies match) (performed performs)
        (subst (λ after. Executes w' rank' slots' clear i (suc k) inner between (recopied w' i rule.node between copies) after frames' left r')
        (sym (after_same i one found.0 found.2 rule answer r))
        (subst (λ now. Executes w' rank' slots' clear i (suc k) inner between now (after_rule (rank i) rule answer r) frames' left r')
        (sym (recopied_same i rule.node between copies)) (executed more)))

    performed : {i : ℕ} {n : Node} {frames : Frames} {store : Store} {answer : Bool} {frames' : Frames} {left : Store} →
        Performs w rank slots clear i n frames store answer frames' left → Performs w' rank' slots' clear i n frames store answer frames' left
    performed {i} {n} {frames} {store} (Performs.does point yields) = Performs.does point (same.deeds (deed_at i n) store ∙ yields)
    performed {i = i} {frames = frames} {store = store} (Performs.enters {at} {arguments} {given} {frames'} {left} {r'} {callee} {unit = one} calls is yields more lasts) =
        let found = same.units callee one is in
        Performs.enters {callee = callee} {unit = found.0} (same.callees i at ∙ calls) found.1 (same.deeds (deed i at (Copies callee arguments.inputs)) store ∙ yields)
        (subst (λ r. Executes w' rank' slots' clear callee 0 (clear callee frames) given (view_at w' given callee).now r frames' left r')
        (sym (begun_same callee one found.0 found.2))
        (subst (λ now. Executes w' rank' slots' clear callee 0 (clear callee frames) given now (begun_registers rank callee one) frames' left r')
        (now_same given callee) (executed more))) lasts
    performed {i = i} {frames = frames} {store = store} (Performs.resumes {at} {arguments} {given} {frames'} {left} {r'} {callee} calls stands yields more lasts) =
        Performs.resumes {callee = callee} (same.callees i at ∙ calls) stands (same.deeds (deed i at (Copies callee arguments.inputs)) store ∙ yields)
        (subst (λ now. Executes w' rank' slots' clear callee 0 frames given now (started (frames callee) (λ k. Bool.false)) frames' left r')
        (now_same given callee) (executed more)) lasts
    performed {i = i} {frames = frames} {store = store} (Performs.returns {at} {arguments} {given} {frames'} {ended} {r'} {callee} calls stands yields more over gives) =
        Performs.returns {callee = callee} (same.callees i at ∙ calls) stands (same.deeds (deed i at (Copies callee arguments.inputs)) store ∙ yields)
        (subst (λ now. Executes w' rank' slots' clear callee 0 frames given now (started (frames callee) (λ k. Bool.false)) frames' ended r')
        (now_same given callee) (executed more)) over (same.deeds (deed i at (Gives callee arguments.target)) ended ∙ gives)

  mutual
    pub pass_traps : {i k : ℕ} {frames : Frames} {store : Store} {copies : List Value} {r : Registers} →
        PassTraps w rank slots clear i k frames store copies r → PassTraps w' rank' slots' clear i k frames store copies r
    pass_traps {i} {k} {r = r} (PassTraps.skips_on {unit = one} at none more) =
        let found = same.units i one at in PassTraps.skips_on {unit = found.0} found.1 (skipped_here i one found.0 found.2 k r none) (pass_traps more)
    pass_traps {i} {k} {store = store} {copies = copies} {r = r}
        (PassTraps.goes_on {answer} {inner} {between} {unit = one} at rule has is due alone match performs more) =
        let found = same.units i one at in
        PassTraps.goes_on {answer = answer} {inner = inner} {between = between} {unit = found.0} found.1 rule (rule_here i one found.0 found.2 rule has)
        (number_here i one found.0 found.2 k rule.node is) (due_same i one found.0 found.2 rule r ∙ due) (alone_here i one found.0 found.2 rule r alone)
        (copies_here i rule.node store copies match) (performed performs)
        (subst (λ after. PassTraps w' rank' slots' clear i (suc k) inner between (recopied w' i rule.node between copies) after)
        (sym (after_same i one found.0 found.2 rule answer r))
        (subst (λ now. PassTraps w' rank' slots' clear i (suc k) inner between now (after_rule (rank i) rule answer r))
        (sym (recopied_same i rule.node between copies)) (pass_traps more)))
    pass_traps {i} {k} {store = store} {copies = copies} {r = r} (PassTraps.traps {unit = one} at rule has is due match fails) =
        let found = same.units i one at in
        PassTraps.traps {unit = found.0} found.1 rule (rule_here i one found.0 found.2 rule has) (number_here i one found.0 found.2 k rule.node is)
        (due_same i one found.0 found.2 rule r ∙ due) (copies_here i rule.node store copies match) (node_traps fails)

    node_traps : {i : ℕ} {n : Node} {frames : Frames} {store : Store} →
        NodeTraps w rank slots clear i n frames store → NodeTraps w' rank' slots' clear i n frames store
    node_traps {i} {n} {frames} {store} (NodeTraps.point_stops point fails) = NodeTraps.point_stops point (same.deeds (deed_at i n) store ∙ fails)
    node_traps {i = i} {store = store} (NodeTraps.inputs_stop {at} {arguments} {callee} calls fails) =
        NodeTraps.inputs_stop {callee = callee} (same.callees i at ∙ calls) (same.deeds (deed i at (Copies callee arguments.inputs)) store ∙ fails)
    node_traps {i = i} {store = store} (NodeTraps.copies_stop {at} {arguments} {callee} calls fails) =
        NodeTraps.copies_stop {callee = callee} (same.callees i at ∙ calls) (same.deeds (deed i at (Copies callee arguments.inputs)) store ∙ fails)
    node_traps {i = i} {frames = frames} {store = store} (NodeTraps.begun_stops {at} {arguments} {given} {callee} {unit = one} calls is yields more) =
        let found = same.units callee one is in
        NodeTraps.begun_stops {callee = callee} {unit = found.0} (same.callees i at ∙ calls) found.1 (same.deeds (deed i at (Copies callee arguments.inputs)) store ∙ yields)
        (subst (λ r. PassTraps w' rank' slots' clear callee 0 (clear callee frames) given (view_at w' given callee).now r)
        (sym (begun_same callee one found.0 found.2))
        (subst (λ now. PassTraps w' rank' slots' clear callee 0 (clear callee frames) given now (begun_registers rank callee one))
        (now_same given callee) (pass_traps more)))
    node_traps {i = i} {frames = frames} {store = store} (NodeTraps.resumed_stops {at} {arguments} {given} {callee} calls stands yields more) =
        NodeTraps.resumed_stops {callee = callee} (same.callees i at ∙ calls) stands (same.deeds (deed i at (Copies callee arguments.inputs)) store ∙ yields)
        (subst (λ now. PassTraps w' rank' slots' clear callee 0 frames given now (started (frames callee) (λ k. Bool.false)))
        (now_same given callee) (pass_traps more))
