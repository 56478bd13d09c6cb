-- A statement of a unit leaves its variables with values of their types, and returns what is of its result's type.
use Rattle.std.proofs.Common.{◌≡◌, ℕ, suc, zero, Bool, true, false, ◌&&◌, List, [], ◌∷◌, map, Option, Some, None, refl, sym, ◌∙◌, subst, IfSome}
use Rattle.std.proofs.lemmas.List.Elements.{All-head, All-tail}
use Rattle.std.specs.Prelude.{option_and_then, option_map, if◌then◌else◌}
use Rattle.bl_tree.proofs.Basics.{and_first, and_second}
use Rattle.bl_tree.specs.declared.scalar.Scalar.{Scalar as ScalarType}
use Rattle.bl_tree.specs.declared.tree.Arm.{Arm, fold-Arm, fold_out-Arm, out-Arm}
use Rattle.bl_tree.specs.declared.tree.Expr.{Expr}
use Rattle.bl_tree.specs.declared.tree.Stmt.{Stmt, fold-roll-Stmt}
use Rattle.bl_tree.specs.declared.tree.StmtKind.{fold-roll-StmtKind}
use Rattle.bl_tree.specs.declared.tree.StructDef.{StructDef}
use Rattle.bl_tree.specs.declared.tree.Unit.{Unit as UnitDef}
use Rattle.bl_tree.specs.declared.tree.Var.{Var}
use Rattle.bl_tree.specs.declared.value.Value.{Value}
use Rattle.bl_tree.specs.Reduce.{all_of}
use Rattle.bl_tree.specs.Types.{scalar}
use Rattle.bl_tree.specs.Typing.{TypingContext, are_same, arm_fits, branch_fits, fits, is_inhabited, is_truth, kind_fits, return_fits, site_of, stmt_fits}
use Rattle.bl_tree.specs.Typing.{type_of, type_of_path}
use Rattle.bl_tree.proofs.StmtInduction.{Cases, Each, EachArm, induct}
use Rattle.bl_eval.specs.Changes.{choice_of}
use Rattle.bl_eval.specs.Functions.{Flow, GuardedBlock, StmtMeaning, condition, declared, does, first_true_choice, flow_then, in_order, looped, most_turns, own}
use Rattle.bl_eval.specs.Functions.{returned, scope_among}
use Rattle.bl_eval.specs.Meaning.{Callee, Scope, meaning_of}
use Rattle.bl_eval.proofs.ActFits.{AllFit, assigned_fits, called_fits, declared_fits, same_found}
use Rattle.bl_eval.proofs.ExprFits.{ResultFits, Sound, expr_fits}
use Rattle.bl_eval.proofs.MeaningLemmas.{choice_out}
use Rattle.bl_eval.proofs.OperatorFits.{DatumFits}
use Rattle.bl_eval.proofs.PartFits.{if_map}

-- ---- how statements end

-- the variables have values of their types, and what is returned is of the result's
abbrev pub FlowFits : List StructDef → List Var → Option ScalarType → Flow → Type 0
FlowFits structs vars result (Flow.On now) = AllFit structs vars now
FlowFits structs vars result (Flow.Back now given) = AllFit structs vars now × ResultFits structs result given

module _ (structs : List StructDef) (vars : List Var) (result : Option ScalarType) where
  -- it ends so from any values of their types
  abbrev pub EndsFit : StmtMeaning → Type 0
  EndsFit ends = (now : List Value) → AllFit structs vars now → IfSome (ends now) (FlowFits structs vars result)

  pub after_fits : (first : Option Flow) (next : StmtMeaning) → IfSome first (FlowFits structs vars result) → EndsFit next →
      IfSome (flow_then first next) (FlowFits structs vars result)
  after_fits None next one more = tt
  after_fits (Some (Flow.On now)) next one more = more now one
  after_fits (Some (Flow.Back now given)) next one more = one

  chosen_by : (holds : Option Bool) (body : StmtMeaning) (rest : StmtMeaning) (now : List Value) → AllFit structs vars now → EndsFit body → EndsFit rest
      → IfSome (option_and_then (λ holds. if holds then body now else rest now) holds) (FlowFits structs vars result)
  chosen_by None body rest now all one more = tt
  chosen_by (Some true) body rest now all one more = one now all
  chosen_by (Some false) body rest now all one more = more now all

  pub choice_fits : (choice : GuardedBlock) (choices : List GuardedBlock) (other : StmtMeaning) → EndsFit choice.body → EndsFit (first_true_choice choices other) →
      EndsFit (first_true_choice (choice ∷ choices) other)
  choice_fits choice choices other one more now all = chosen_by (choice.test now) choice.body (first_true_choice choices other) now all one more

  last_fits : (more : Option Bool) (now : List Value) → AllFit structs vars now →
      IfSome (option_and_then (λ more. if more then None else Some (Flow.On now)) more) (FlowFits structs vars result)
  last_fits None now all = tt
  last_fits (Some true) now all = tt
  last_fits (Some false) now all = all

  module _ (body : StmtMeaning) (ends : List Value → Option Bool) (one : EndsFit body) where
    ended_by : (is_over : Option Bool) (again : StmtMeaning) (new : List Value) → AllFit structs vars new → EndsFit again
        → IfSome (option_and_then (λ is_over. if is_over then Some (Flow.On new) else again new) is_over) (FlowFits structs vars result)
    ended_by None again new all more = tt
    ended_by (Some true) again new all more = all
    ended_by (Some false) again new all more = more new all

    turn_by : (more : Option Bool) (again : StmtMeaning) (now : List Value) → AllFit structs vars now → EndsFit again
        → IfSome (option_and_then (λ more. if more then flow_then (body now)
        (λ new. option_and_then (λ is_over. if is_over then Some (Flow.On new) else again new) (ends new)) else Some (Flow.On now))
        more) (FlowFits structs vars result)
    turn_by None again now all next = tt
    turn_by (Some true) again now all next =
        after_fits (body now) (λ new. option_and_then (λ is_over. if is_over then Some (Flow.On new) else again new) (ends new))
        (one now all) (λ new fit. ended_by (ends new) again new fit next)
    turn_by (Some false) again now all next = all

    pub looped_fits : (goes : List Value → Option Bool) (n : ℕ) → EndsFit (looped goes body ends n)
    looped_fits goes zero now all = last_fits (goes now) now all
    looped_fits goes (suc n) now all = turn_by (goes now) (looped goes body ends n) now all (looped_fits goes n)

-- ---- statements

module _ (structs : List StructDef) (earlier : List UnitDef) (unit : UnitDef) (callees : List Callee) (sound : Sound structs earlier unit callees) where
  abbrev site : TypingContext
  site = site_of structs earlier unit

  abbrev scope : Scope
  scope = scope_among structs callees unit

  abbrev Ends : StmtMeaning → Type 0
  Ends = EndsFit structs unit.vars unit.result

  abbrev S : Stmt → Type 0
  S s = fits site s ≡ true → Ends (does scope s)

  pub block_fits : (body : List Stmt) → Each S body → all_of (map (fits site) body) ≡ true → Ends (in_order (map (does scope) body))
  block_fits [] each fitted now all = all
  block_fits (s ∷ body) each fitted now all =
      after_fits structs unit.vars unit.result (does scope s now) (in_order (map (does scope) body))
      (All-head S s body each (and_first (fits site s) (all_of (map (fits site) body)) fitted) now all)
      (block_fits body (All-tail S s body each) (and_second (fits site s) (all_of (map (fits site) body)) fitted))

  abbrev arm_fitted : Arm → Bool
  arm_fitted = fold-Arm Bool Bool Bool Bool (kind_fits site) (arm_fits site) branch_fits stmt_fits

  arm_block : (arm : Arm) → arm_fitted arm ≡ true → all_of (map (fits site) (out-Arm arm).body) ≡ true
  arm_block arm fitted =
      and_second (is_truth (type_of site (out-Arm arm).test)) (all_of (map (fits site) (out-Arm arm).body))
      (sym (fold_out-Arm Bool Bool Bool Bool (kind_fits site) (arm_fits site) branch_fits stmt_fits arm) ∙ fitted)

  abbrev OfArm : Arm → Type 0
  OfArm arm = Each S (out-Arm arm).body

  arms_fit : (arms : List Arm) (other : StmtMeaning) → EachArm S arms → all_of (map arm_fitted arms) ≡ true → Ends other →
      Ends (first_true_choice (map (choice_of scope) arms) other)
  arms_fit [] other each fitted last = last
  arms_fit (arm ∷ arms) other each fitted last =
      choice_fits structs unit.vars unit.result (choice_of scope arm) (map (choice_of scope) arms) other
      (subst (λ (choice : GuardedBlock). Ends choice.body) (sym (choice_out scope arm))
      (block_fits (out-Arm arm).body (All-head OfArm arm arms each) (arm_block arm (and_first (arm_fitted arm) (all_of (map arm_fitted arms)) fitted))))
      (arms_fit arms other (All-tail OfArm arm arms each) (and_second (arm_fitted arm) (all_of (map arm_fitted arms)) fitted) last)

  on_fits : (made : Option (List Value)) → IfSome made (AllFit structs unit.vars) →
      IfSome (option_map Flow.On made) (FlowFits structs unit.vars unit.result)
  on_fits made fit = if_map (AllFit structs unit.vars) (FlowFits structs unit.vars unit.result) Flow.On made fit (λ now all. all)

  return_by : (e : Option Expr) (result : Option ScalarType) (now : List Value) → return_fits site e result ≡ true → AllFit structs unit.vars now
      → IfSome (returned scope e now) (FlowFits structs unit.vars result)
  return_by (Some e) (Some s) now fitted all =
      let found = same_found (Some (scalar s)) (type_of site e) fitted in
      if_map (DatumFits structs (scalar s)) (FlowFits structs unit.vars (Some s)) (λ datum. Flow.Back now (Some datum)) (meaning_of scope e (own now))
      (expr_fits structs earlier unit callees sound (own now) all all e (scalar s) (found.2 ∙ sym found.1)) (λ datum one. (all, one))
  return_by (Some e) None now fitted all = absurd (cc)
  return_by None (Some s) now fitted all = absurd (cc)
  return_by None None now fitted all = (all, tt)

  loop_fits : (goes ends : Option Expr) (body : List Stmt) → Each S body → all_of (map (fits site) body) ≡ true
      → Ends (looped (condition scope goes true) (in_order (map (does scope) body)) (condition scope ends false) most_turns)
  loop_fits goes ends body each fitted =
      looped_fits structs unit.vars unit.result (in_order (map (does scope) body)) (condition scope ends false)
      (block_fits body each fitted) (condition scope goes true) most_turns

  cases : Cases S
  cases = record {
    declare = λ place k initial fitted now all. rw (fold-roll-Stmt, fold-roll-StmtKind)
        (on_fits (declared scope k initial (own now)) (declared_fits structs earlier unit callees sound (own now) all all k initial
        (rw (fold-roll-Stmt, fold-roll-StmtKind) at fitted)));
    assign = λ place path e fitted now all. rw (fold-roll-Stmt, fold-roll-StmtKind)
        (on_fits _ (assigned_fits structs earlier unit callees sound (own now) all all path e
        (and_second _ (are_same (type_of_path site path) (type_of site e)) (rw (fold-roll-Stmt, fold-roll-StmtKind) at fitted))));
    call = λ place f inputs outputs fitted now all. rw (fold-roll-Stmt, fold-roll-StmtKind)
        (on_fits _ (called_fits structs earlier unit callees sound (own now) all all f inputs outputs _ refl
        (rw (fold-roll-Stmt, fold-roll-StmtKind) at fitted)));
    await = λ place e fitted now all. rw (fold-roll-Stmt, fold-roll-StmtKind) tt;
    run = λ place target a inputs outputs fitted now all. rw (fold-roll-Stmt, fold-roll-StmtKind) tt;
    branching = λ place arms other each others fitted now all.
        let both = and_second (is_inhabited (map arm_fitted arms)) (all_of (map arm_fitted arms) && all_of (map (fits site) other))
        (rw (fold-roll-Stmt, fold-roll-StmtKind) at fitted) in
        rw (fold-roll-Stmt, fold-roll-StmtKind)
        (arms_fit arms (in_order (map (does scope) other)) each (and_first (all_of (map arm_fitted arms)) (all_of (map (fits site) other)) both)
        (block_fits other others (and_second (all_of (map arm_fitted arms)) (all_of (map (fits site) other)) both)) now all);
    cobegin = λ place branches each fitted now all. rw (fold-roll-Stmt, fold-roll-StmtKind) tt;
    guarded = λ place guard e body each fitted now all. rw (fold-roll-Stmt, fold-roll-StmtKind) tt;
    repeat = λ place body each fitted now all. rw (fold-roll-Stmt, fold-roll-StmtKind)
        (loop_fits None None body each (rw (fold-roll-Stmt, fold-roll-StmtKind) at fitted) now all);
    until = λ place body e each fitted now all. rw (fold-roll-Stmt, fold-roll-StmtKind)
        (loop_fits None (Some e) body each (and_first (all_of (map (fits site) body)) (is_truth (type_of site e))
        (rw (fold-roll-Stmt, fold-roll-StmtKind) at fitted)) now all);
    while = λ place e body each fitted now all. rw (fold-roll-Stmt, fold-roll-StmtKind)
        (loop_fits (Some e) None body each (and_second (is_truth (type_of site e)) (all_of (map (fits site) body))
        (rw (fold-roll-Stmt, fold-roll-StmtKind) at fitted)) now all);
    returns = λ place e fitted now all. rw (fold-roll-Stmt, fold-roll-StmtKind)
        (return_by e unit.result now (rw (fold-roll-Stmt, fold-roll-StmtKind) at fitted) all);
  }

  pub does_fits : (s : Stmt) → fits site s ≡ true → Ends (does scope s)
  does_fits = induct S cases
