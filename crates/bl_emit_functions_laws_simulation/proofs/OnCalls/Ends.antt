-- A function with a result gives one wherever it ends, and one without gives none.
use Rattle.std.proofs.Common.{◌≡◌, ℕ, suc, zero, Bool, true, false, ◌&&◌, List, [], ◌∷◌, map, Option, Some, None, refl, sym, ◌∙◌, subst, IfSome}
use Rattle.std.proofs.lemmas.List.Elements.{All-head, All-tail}
use Rattle.std.specs.Prelude.{option_and_then, option_map, if◌then◌else◌}
use Rattle.bl_tree.proofs.Basics.{and_first, and_second}
use Rattle.bl_tree.specs.declared.scalar.Scalar.{Scalar as ScalarType}
use Rattle.bl_tree.specs.declared.tree.Arm.{Arm, fold-Arm, fold_out-Arm, out-Arm}
use Rattle.bl_tree.specs.declared.tree.Expr.{Expr}
use Rattle.bl_tree.specs.declared.tree.Stmt.{Stmt, fold-roll-Stmt}
use Rattle.bl_tree.specs.declared.tree.StmtKind.{fold-roll-StmtKind}
use Rattle.bl_tree.specs.declared.value.Value.{Value}
use Rattle.bl_tree.specs.Reduce.{all_of}
use Rattle.bl_tree.specs.Returns.{arm_returns, branch_returns, kind_returns, last_of, stmt_returns, surely_returns}
use Rattle.bl_tree.specs.Typing.{TypingContext, arm_fits, branch_fits, fits, is_inhabited, is_truth, kind_fits, return_fits, stmt_fits, type_of}
use Rattle.bl_tree.proofs.StmtInduction.{Cases, Each, EachArm, induct}
use Rattle.bl_eval.specs.declared.datum.Datum.{Datum}
use Rattle.bl_eval.specs.Changes.{choice_of}
use Rattle.bl_eval.specs.Functions.{Flow, GuardedBlock, StmtMeaning, condition, does, first_true_choice, flow_then, in_order, looped, most_turns, own, returned}
use Rattle.bl_eval.specs.Meaning.{Scope, meaning_of}
use Rattle.bl_eval.proofs.MeaningLemmas.{choice_out}
use Rattle.bl_emit_functions_laws_simulation.specs.Calls.{ResultGiven}

-- an end: what surely returns does not go on, and a result is given where there is one
abbrev pub EndsWith : Option ScalarType → Bool → Flow → Type 0
EndsWith r sure (Flow.On now) = sure ≡ false
EndsWith r sure (Flow.Back now given) = ResultGiven r given

no_left : (a b : Bool) → a ≡ false → (a && b) ≡ false
no_left a b is = rw is refl

no_middle : (a b c : Bool) → (b && c) ≡ false → ((a && b) && c) ≡ false
no_middle true b c is = is
no_middle false b c is = refl

module _ (r : Option ScalarType) where
  abbrev pub Ends : Bool → Flow → Type 0
  Ends = EndsWith r

  weaken : (sure other : Bool) (flow : Flow) → (sure ≡ false → other ≡ false) → Ends sure flow → Ends other flow
  weaken sure other (Flow.On now) less h = less h
  weaken sure other (Flow.Back now given) less h = h

  abbrev pub EndsSo : Bool → StmtMeaning → Type 0
  EndsSo sure ends = (now : List Value) → IfSome (ends now) (Ends sure)

  weaken_all : (sure other : Bool) (ends : StmtMeaning) → (sure ≡ false → other ≡ false) → EndsSo sure ends → EndsSo other ends
  weaken_all sure other ends less h now = by_end (ends now) (h now)
    where
      by_end : (end : Option Flow) → IfSome end (Ends sure) → IfSome end (Ends other)
      by_end None h = tt
      by_end (Some flow) h = weaken sure other flow less h

  -- ---- one after another

  after_first : (sure : Bool) (first : Option Flow) (next : StmtMeaning) (other : Bool) → IfSome first (Ends other) →
      ((now : List Value) → other ≡ false → IfSome (next now) (Ends sure)) → IfSome (flow_then first next) (Ends sure)
  after_first sure None next other h more = tt
  after_first sure (Some (Flow.On now)) next other h more = more now h
  after_first sure (Some (Flow.Back now given)) next other h more = h

  choice_by : (sure first rest : Bool) (holds : Option Bool) (body next : StmtMeaning) (now : List Value) → (first ≡ false → sure ≡ false) →
      (rest ≡ false → sure ≡ false) → EndsSo first body → EndsSo rest next
      → IfSome (option_and_then (λ holds. if holds then body now else next now) holds) (Ends sure)
  choice_by sure first rest None body next now less other one more = tt
  choice_by sure first rest (Some true) body next now less other one more = weaken_all first sure body less one now
  choice_by sure first rest (Some false) body next now less other one more = weaken_all rest sure next other more now

  -- ---- loops

  module _ (goes ends : List Value → Option Bool) (body : StmtMeaning) (sure : Bool) (one : EndsSo sure body) where
    last_ends : (more : Option Bool) (now : List Value) → IfSome (option_and_then (λ more. if more then None else Some (Flow.On now)) more) (Ends false)
    last_ends None now = tt
    last_ends (Some true) now = tt
    last_ends (Some false) now = refl

    over_ends : (is_over : Option Bool) (again : StmtMeaning) (new : List Value) → EndsSo false again →
        IfSome (option_and_then (λ is_over. if is_over then Some (Flow.On new) else again new) is_over) (Ends false)
    over_ends None again new more = tt
    over_ends (Some true) again new more = refl
    over_ends (Some false) again new more = more new

    turn_ends : (more : Option Bool) (again : StmtMeaning) (now : List Value) → EndsSo false again
        → IfSome (option_and_then (λ more. if more then flow_then (body now)
        (λ new. option_and_then (λ is_over. if is_over then Some (Flow.On new) else again new) (ends new)) else Some (Flow.On now)) more) (Ends false)
    turn_ends None again now next = tt
    turn_ends (Some true) again now next =
        after_first false (body now) (λ new. option_and_then (λ is_over. if is_over then Some (Flow.On new) else again new) (ends new)) sure
        (one now) (λ new is. over_ends (ends new) again new next)
    turn_ends (Some false) again now next = refl

    loop_ends : (n : ℕ) → EndsSo false (looped goes body ends n)
    loop_ends zero now = last_ends (goes now) now
    loop_ends (suc n) now = turn_ends (goes now) (looped goes body ends n) now (loop_ends n)

-- ---- statements

module _ (site : TypingContext) (scope : Scope) where
  abbrev So : Bool → StmtMeaning → Type 0
  So = EndsSo site.result

  abbrev OneEnd : Bool → Flow → Type 0
  OneEnd = EndsWith site.result

  abbrev S : Stmt → Type 0
  S s = fits site s ≡ true → So (surely_returns s) (does scope s)

  pub block_ends : (body : List Stmt) → Each S body → all_of (map (fits site) body) ≡ true →
      So (last_of (map surely_returns body)) (in_order (map (does scope) body))
  block_ends [] each fitted now = refl
  block_ends (s ∷ []) each fitted now =
      after_first site.result (surely_returns s) (does scope s now) (in_order []) (surely_returns s)
      (All-head S s [] each (and_first (fits site s) true fitted) now) (λ new is. is)
  block_ends (s ∷ t ∷ body) each fitted now =
      after_first site.result (last_of (map surely_returns (t ∷ body))) (does scope s now) (in_order (map (does scope) (t ∷ body))) (surely_returns s)
      (All-head S s (t ∷ body) each (and_first (fits site s) (all_of (map (fits site) (t ∷ body))) fitted) now)
      (λ new is. block_ends (t ∷ body) (All-tail S s (t ∷ body) each) (and_second (fits site s) (all_of (map (fits site) (t ∷ body))) fitted) new)

  abbrev arm_fitted : Arm → Bool
  arm_fitted = fold-Arm Bool Bool Bool Bool (kind_fits site) (arm_fits site) branch_fits stmt_fits

  abbrev arm_sure : Arm → Bool
  arm_sure = fold-Arm Bool Bool Bool Bool kind_returns arm_returns branch_returns stmt_returns

  abbrev OfArm : Arm → Type 0
  OfArm arm = Each S (out-Arm arm).body

  arm_ends : (arm : Arm) → OfArm arm → arm_fitted arm ≡ true → So (arm_sure arm) (choice_of scope arm).body
  arm_ends arm each fitted =
      subst (λ sure. So sure (choice_of scope arm).body) (sym (fold_out-Arm Bool Bool Bool Bool kind_returns arm_returns branch_returns stmt_returns arm))
      (subst (λ (choice : GuardedBlock). So (last_of (map surely_returns (out-Arm arm).body)) choice.body) (sym (choice_out scope arm))
      (block_ends (out-Arm arm).body each
      (and_second (is_truth (type_of site (out-Arm arm).test)) (all_of (map (fits site) (out-Arm arm).body))
      (sym (fold_out-Arm Bool Bool Bool Bool (kind_fits site) (arm_fits site) branch_fits stmt_fits arm) ∙ fitted))))

  arms_end : (arms : List Arm) (other : StmtMeaning) (last : Bool) → EachArm S arms → all_of (map arm_fitted arms) ≡ true → So last other
      → So (all_of (map arm_sure arms) && last) (first_true_choice (map (choice_of scope) arms) other)
  arms_end [] other last each fitted h now = h now
  arms_end (arm ∷ arms) other last each fitted h now =
      let rest : Bool = all_of (map arm_sure arms) in
      choice_by site.result ((arm_sure arm && rest) && last) (arm_sure arm) (rest && last) ((choice_of scope arm).test now) (choice_of scope arm).body
      (first_true_choice (map (choice_of scope) arms) other) now
      (λ is. no_left (arm_sure arm && rest) last (no_left (arm_sure arm) rest is)) (no_middle (arm_sure arm) rest last)
      (arm_ends arm (All-head OfArm arm arms each) (and_first (arm_fitted arm) (all_of (map arm_fitted arms)) fitted))
      (arms_end arms other last (All-tail OfArm arm arms each) (and_second (arm_fitted arm) (all_of (map arm_fitted arms)) fitted) h)

  on_ends : (made : Option (List Value)) → IfSome (option_map Flow.On made) (OneEnd false)
  on_ends None = tt
  on_ends (Some now) = refl

  result_ends : (e : Option Expr) (result : Option ScalarType) (now : List Value) → return_fits site e result ≡ true →
      IfSome (returned scope e now) (EndsWith result true)
  result_ends (Some e) None now fitted = absurd (cc)
  result_ends (Some e) (Some s) now fitted = by_datum (meaning_of scope e (own now))
    where
      by_datum : (datum : Option Datum) → IfSome (option_map (λ datum. Flow.Back now (Some datum)) datum) (EndsWith (Some s) true)
      by_datum None = tt
      by_datum (Some datum) = (datum, refl)
  result_ends None None now fitted = refl
  result_ends None (Some s) now fitted = absurd (cc)

  loop_so : (goes ends : Option Expr) (body : List Stmt) → Each S body → all_of (map (fits site) body) ≡ true
      → So false (looped (condition scope goes true) (in_order (map (does scope) body)) (condition scope ends false) most_turns)
  loop_so goes ends body each fitted =
      loop_ends site.result (condition scope goes true) (condition scope ends false) (in_order (map (does scope) body))
      (last_of (map surely_returns body)) (block_ends body each fitted) most_turns

  cases : Cases S
  cases = record {
    declare = λ place k initial fitted now. rw (fold-roll-Stmt, fold-roll-StmtKind, fold-roll-Stmt, fold-roll-StmtKind) (on_ends _);
    assign = λ place path e fitted now. rw (fold-roll-Stmt, fold-roll-StmtKind, fold-roll-Stmt, fold-roll-StmtKind) (on_ends _);
    call = λ place f inputs outputs fitted now. rw (fold-roll-Stmt, fold-roll-StmtKind, fold-roll-Stmt, fold-roll-StmtKind) (on_ends _);
    await = λ place e fitted now. rw (fold-roll-Stmt, fold-roll-StmtKind) tt;
    run = λ place target a inputs outputs fitted now. rw (fold-roll-Stmt, fold-roll-StmtKind) tt;
    branching = λ place arms other each others fitted now.
        let both = and_second (is_inhabited (map arm_fitted arms)) (all_of (map arm_fitted arms) && all_of (map (fits site) other))
        (rw (fold-roll-Stmt, fold-roll-StmtKind) at fitted) in
        rw (fold-roll-Stmt, fold-roll-StmtKind, fold-roll-Stmt, fold-roll-StmtKind)
        (arms_end arms (in_order (map (does scope) other)) (last_of (map surely_returns other)) each
        (and_first (all_of (map arm_fitted arms)) (all_of (map (fits site) other)) both)
        (block_ends other others (and_second (all_of (map arm_fitted arms)) (all_of (map (fits site) other)) both)) now);
    cobegin = λ place branches each fitted now. rw (fold-roll-Stmt, fold-roll-StmtKind) tt;
    guarded = λ place guard e body each fitted now. rw (fold-roll-Stmt, fold-roll-StmtKind) tt;
    repeat = λ place body each fitted now. rw (fold-roll-Stmt, fold-roll-StmtKind, fold-roll-Stmt, fold-roll-StmtKind)
        (loop_so None None body each (rw (fold-roll-Stmt, fold-roll-StmtKind) at fitted) now);
    until = λ place body e each fitted now. rw (fold-roll-Stmt, fold-roll-StmtKind, fold-roll-Stmt, fold-roll-StmtKind)
        (loop_so None (Some e) body each (and_first (all_of (map (fits site) body)) (is_truth (type_of site e))
        (rw (fold-roll-Stmt, fold-roll-StmtKind) at fitted)) now);
    while = λ place e body each fitted now. rw (fold-roll-Stmt, fold-roll-StmtKind, fold-roll-Stmt, fold-roll-StmtKind)
        (loop_so (Some e) None body each (and_second (is_truth (type_of site e)) (all_of (map (fits site) body))
        (rw (fold-roll-Stmt, fold-roll-StmtKind) at fitted)) now);
    returns = λ place e fitted now. rw (fold-roll-Stmt, fold-roll-StmtKind, fold-roll-Stmt, fold-roll-StmtKind)
        (result_ends e site.result now (rw (fold-roll-Stmt, fold-roll-StmtKind) at fitted));
  }

  pub stmt_ends : (s : Stmt) → fits site s ≡ true → So (surely_returns s) (does scope s)
  stmt_ends = induct S cases
