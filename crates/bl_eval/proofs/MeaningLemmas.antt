-- What the definitions come to at one expression, statement or call.
use Rattle.std.proofs.Common.{◌≡◌, ℕ, suc, zero, ◌+◌, ◌≤◌, true, false, List, [], ◌∷◌, ◌++◌, length, map, take, arith, Option, Some, None, Result, Ok, Err}
use Rattle.std.proofs.Common.{refl, sym, ap, ◌∙◌, subst, IfOk, length-append}
use Rattle.std.specs.Prelude.{option_and_then, option_map, slice_get, unwrap_or}
use Rattle.bl_tree.proofs.Basics.{get_in_front, get_past}
use Rattle.bl_tree.specs.declared.tree.Arm.{Arm, fold_out-Arm, out-Arm}
use Rattle.bl_tree.specs.declared.tree.Branch.{Branch, fold-Branch}
use Rattle.bl_tree.specs.declared.tree.Expr.{Expr}
use Rattle.bl_tree.specs.declared.tree.Path.{Path, fold_out-Path, out-Path}
use Rattle.bl_tree.specs.declared.tree.Stmt.{Stmt, fold_out-Stmt, out-Stmt}
use Rattle.bl_tree.specs.declared.tree.StmtKind.{StmtKind, fold-StmtKind, fold_out-StmtKind, map-StmtKind, out-StmtKind}
use Rattle.bl_tree.specs.declared.tree.StmtKind.TheOpen.{StmtKind-F}
use Rattle.bl_tree.specs.declared.tree.StmtKind.TheVariants.{Repeat, Until, While, outs-Repeat, outs-Until, outs-While}
use Rattle.bl_tree.specs.declared.tree.StructDef.{StructDef}
use Rattle.bl_tree.specs.declared.tree.Unit.{Unit as UnitDef}
use Rattle.bl_tree.specs.declared.tree.Var.{Var}
use Rattle.bl_tree.specs.declared.scalar.Scalar.{Scalar as ScalarType}
use Rattle.bl_tree.specs.declared.value.Value.{Value, out-Value, roll-Value, roll-out-Value}
use Rattle.bl_tree.specs.declared.value.Value.TheVariants.{rolls-Number}
use Rattle.bl_tree.specs.declared.value.Value.TheOpen.{Value-F}
use Rattle.bl_tree.specs.Types.{scalar_in}
use Rattle.bl_tree.specs.Typing.{is_function}
use Rattle.bl_eval.specs.declared.datum.Datum.{Datum}
use Rattle.bl_eval.specs.declared.datum.Left.{Left}
use Rattle.bl_eval.specs.declared.datum.Put.{Put}
use Rattle.bl_eval.specs.declared.datum.Target.{Target}
use Rattle.bl_eval.specs.Changes.{all_changed, choice_of, current_of, part_of_path, puts_of, targets_of, with_element_at}
use Rattle.bl_eval.specs.Functions.{GuardedBlock, StmtMeaning, Flow, arm_does, branch_does, call_of, callable_of, callee_of, callees_after, callees_of}
use Rattle.bl_eval.specs.Functions.{outcome_of_call, condition, does, frame_of, in_order, kind_does, left_by, looped, most_turns, put_all, put_back, stmt_does}
use Rattle.bl_eval.specs.Functions.{truth}
use Rattle.bl_eval.specs.Meaning.{Callee, Meaning, PathPosition, Scope, PathMeaning, expr_means, kind_means, part_means, path_means, positions_of, View}
use Rattle.bl_eval.specs.Meaning.{datum_of, level_datum, meaning_of, plain, read_at, reading, path_meaning_of, values_of}
use Rattle.bl_eval.specs.Values.{put_at}
use Rattle.bl_eval.proofs.KindLemmas.{activity_is, function_is}
use Rattle.bl_eval.proofs.PartLemmas.{put_unwrapped}
use Rattle.bl_eval.proofs.PassLemmas.{get_seam}

-- ---- statements

pub choice_out : (scope : Scope) (arm : Arm) → choice_of scope arm
    ≡ record { test = truth scope (out-Arm arm).test; body = in_order (map (does scope) (out-Arm arm).body) }
choice_out scope arm = fold_out-Arm StmtMeaning GuardedBlock StmtMeaning StmtMeaning (kind_does scope) (arm_does scope) branch_does stmt_does arm

pub spot_out : (scope : Scope) (path : Path) → path_meaning_of scope path
    ≡ record { root = (out-Path path).root; ty = (out-Path path).ty; positions = positions_of (map (part_of_path scope) (out-Path path).parts) }
spot_out scope path = fold_out-Path Meaning PathPosition Meaning PathMeaning (kind_means scope) part_means expr_means path_means path

module _ (scope : Scope) where
  abbrev kind : StmtKind → StmtMeaning
  kind = fold-StmtKind StmtMeaning GuardedBlock StmtMeaning StmtMeaning (kind_does scope) (arm_does scope) branch_does stmt_does

  abbrev done : StmtKind-F StmtKind Arm Branch Stmt → StmtKind-F StmtMeaning GuardedBlock StmtMeaning StmtMeaning
  done = map-StmtKind StmtKind Arm Branch Stmt StmtMeaning GuardedBlock StmtMeaning StmtMeaning kind (choice_of scope)
      (fold-Branch StmtMeaning GuardedBlock StmtMeaning StmtMeaning (kind_does scope) (arm_does scope) branch_does stmt_does) (does scope)

  does_at : (s : Stmt) (layer : StmtKind-F StmtKind Arm Branch Stmt) → out-StmtKind (out-Stmt s).what ≡ layer →
      does scope s ≡ kind_does scope (done layer)
  does_at s layer is =
      fold_out-Stmt StmtMeaning GuardedBlock StmtMeaning StmtMeaning (kind_does scope) (arm_does scope) branch_does stmt_does s
      ∙ fold_out-StmtKind StmtMeaning GuardedBlock StmtMeaning StmtMeaning (kind_does scope) (arm_does scope) branch_does stmt_does (out-Stmt s).what
      ∙ ap (λ layer. kind_does scope (done layer)) is

  pub repeat_is : (s : Stmt) (made body : List Stmt) (now : List Value) → (out-Stmt s).what ≡ Repeat body → made ≡ body
      → looped (condition scope None true) (in_order (map (does scope) made)) (condition scope None false) most_turns now ≡ does scope s now
  repeat_is s made body now is same =
      ap (λ body. looped (condition scope None true) (in_order (map (does scope) body)) (condition scope None false) most_turns now) same
      ∙ sym (ap (λ f. f now) (does_at s (StmtKind-F.Repeat body) (ap out-StmtKind is ∙ outs-Repeat body)))

  pub until_is : (s : Stmt) (made body : List Stmt) (e : Expr) (now : List Value) → (out-Stmt s).what ≡ Until body e → made ≡ body
      → looped (condition scope None true) (in_order (map (does scope) made)) (condition scope (Some e) false) most_turns now ≡ does scope s now
  until_is s made body e now is same =
      ap (λ body. looped (condition scope None true) (in_order (map (does scope) body)) (condition scope (Some e) false) most_turns now) same
      ∙ sym (ap (λ f. f now) (does_at s (StmtKind-F.Until body e) (ap out-StmtKind is ∙ outs-Until body e)))

  pub while_is : (s : Stmt) (e : Expr) (made body : List Stmt) (now : List Value) → (out-Stmt s).what ≡ While e body → made ≡ body
      → looped (condition scope (Some e) true) (in_order (map (does scope) made)) (condition scope None false) most_turns now ≡ does scope s now
  while_is s e made body now is same =
      ap (λ body. looped (condition scope (Some e) true) (in_order (map (does scope) body)) (condition scope None false) most_turns now) same
      ∙ sym (ap (λ f. f now) (does_at s (StmtKind-F.While e body) (ap out-StmtKind is ∙ outs-While e body)))

-- ---- functions

-- what is there before stays
callees_start : (structs : List StructDef) (units : List UnitDef) (callees : List Callee) (k : ℕ) (callee : Callee)
    → slice_get callees k ≡ Some callee → slice_get (callees_after structs callees units) k ≡ Some callee
callees_start structs [] callees k callee there = there
callees_start structs (unit ∷ rest) callees k callee there =
    callees_start structs rest (callees ++ callable_of structs callees unit ∷ []) k callee
    (get_in_front callees (callable_of structs callees unit ∷ []) k callee there)

callee_after : (structs : List StructDef) (units : List UnitDef) (callees : List Callee) (j k : ℕ) (unit : UnitDef) →
    slice_get units k ≡ Some unit → j ≡ length callees + k
    → slice_get (callees_after structs callees units) j ≡ Some (callable_of structs (callees_after structs callees (take k units)) unit)
callee_after structs [] callees j k unit there is = absurd (cc)
callee_after structs (first ∷ rest) callees j zero unit there is =
    let same : first ≡ unit = cc in
    callees_start structs rest (callees ++ callable_of structs callees first ∷ []) j (callable_of structs callees first)
    (get_seam callees (callable_of structs callees first) j (omega arith))
    ∙ ap (λ u. Some (callable_of structs callees u)) same
callee_after structs (first ∷ rest) callees j (suc k) unit there is =
    let is' : j ≡ length (callees ++ callable_of structs callees first ∷ []) + k =
    omega (arith, length-append callees (callable_of structs callees first ∷ [])) in
    callee_after structs rest (callees ++ callable_of structs callees first ∷ []) j k unit there is'

pub callee_is : (structs : List StructDef) (units : List UnitDef) (k : ℕ) (unit : UnitDef) → slice_get units k ≡ Some unit
    → slice_get (callees_of structs units) k ≡ Some (callable_of structs (callees_of structs (take k units)) unit)
callee_is structs units k unit there = callee_after structs units [] k k unit there (omega arith)

callees_length : (structs : List StructDef) (units : List UnitDef) (callees : List Callee) →
    length (callees_after structs callees units) ≡ length callees + length units
callees_length structs [] callees = omega arith
callees_length structs (unit ∷ rest) callees =
    omega (arith, callees_length structs rest (callees ++ callable_of structs callees unit ∷ []), length-append callees (callable_of structs callees unit ∷ []))

pub past_get : {A : Type 0} (xs : List A) (k : ℕ) → slice_get xs k ≡ None → length xs ≤ k
past_get [] k none = omega arith
past_get (x ∷ xs) zero none = absurd (cc)
past_get (x ∷ xs) (suc k) none = let past : length xs ≤ k = past_get xs k none in omega arith

pub callee_none : (structs : List StructDef) (units : List UnitDef) (k : ℕ) → slice_get units k ≡ None → slice_get (callees_of structs units) k ≡ None
callee_none structs units k none =
    let past : length (callees_of structs units) ≤ k = omega (arith, callees_length structs units [], past_get units k none) in
    get_past (callees_of structs units) k past

-- a function among the units
pub function_there : (structs : List StructDef) (units : List UnitDef) (k : ℕ) (unit : UnitDef) → slice_get units k ≡ Some unit
    → is_function unit.kind ≡ true → slice_get (callees_of structs units) k ≡ Some (callee_of structs (callees_of structs (take k units)) unit)
function_there structs units k unit there function =
    callee_is structs units k unit there ∙ ap (λ (callee : Callee). Some callee) (function_is structs (callees_of structs (take k units)) unit function)

-- an activity among them leaves nothing
pub activity_leaves : (structs : List StructDef) (units : List UnitDef) (k : ℕ) (unit : UnitDef) (arguments : List Value) →
    Some unit ≡ slice_get units k → is_function unit.kind ≡ false →
    None ≡ option_and_then (λ callee. callee arguments) (slice_get (callees_of structs units) k)
activity_leaves structs units k unit arguments there activity =
    sym (ap (option_and_then (λ (callee : Callee). callee arguments)) (callee_is structs units k unit (sym there))
    ∙ ap (λ (callee : Callee). callee arguments) (activity_is structs (callees_of structs (take k units)) unit activity))

-- the end of a function's body, as what the function leaves
pub called_is : (structs : List StructDef) (earlier : List UnitDef) (f : ℕ) (unit : UnitDef) (arguments frame : List Value)
    (vars : List Var) (body : List Stmt) (flow : Option Flow)
    → Some unit ≡ slice_get earlier f → is_function unit.kind ≡ true → vars ≡ unit.vars → body ≡ unit.body → frame ≡ frame_of structs unit arguments
    → flow ≡ in_order (map (does (record { structs = structs; vars = vars; callees = callees_of structs (take f earlier) })) body) frame
    → option_map (left_by unit) flow ≡ option_and_then (λ callee. callee arguments) (slice_get (callees_of structs earlier) f)
called_is structs earlier f unit arguments frame vars body flow there function is_vars is_body is_frame is_flow =
    let callees : List Callee = callees_of structs (take f earlier) in
    ap (option_map (left_by unit))
    (is_flow
    ∙ ap (λ vars. in_order (map (does (record { structs = structs; vars = vars; callees = callees })) body) frame) is_vars
    ∙ ap (λ body. in_order (map (does (record { structs = structs; vars = unit.vars; callees = callees })) body) frame) is_body
    ∙ ap (in_order (map (does (record { structs = structs; vars = unit.vars; callees = callees })) unit.body)) is_frame)
    ∙ sym (ap (option_and_then (λ callee. callee arguments)) (function_there structs earlier f unit (sym there) function))

pub if_ok : {A B E : Type 0} (r : Result A E) (f : A → B) (a b : B) → IfOk r (λ x. f x ≡ a) → a ≡ b → IfOk r (λ x. f x ≡ b)
if_ok r f a b h is = subst (λ a. IfOk r (λ x. f x ≡ a)) is h

pub if_ok_then : {A B E : Type 0} (r : Result A E) (f : A → B) (a : A) (b : B) → IfOk r (λ x. x ≡ a) → ((x : A) → x ≡ a → f x ≡ b) →
    IfOk r (λ x. f x ≡ b)
if_ok_then (Ok x) f a b h then = then x h
if_ok_then (Err e) f a b h then = tt

-- ---- calls with outputs

pub plain_level : (ty : ScalarType) (value : Value) (level : Value-F Value) → out-Value value ≡ level → plain (level_datum ty value level) ≡ value
plain_level ty value (Value-F.Number n) is = sym (rolls-Number n) ∙ ap roll-Value (sym is) ∙ roll-out-Value value
plain_level ty value (Value-F.Parts all) is = refl

pub plain_datum : (ty : Option ScalarType) (value : Value) → plain (datum_of ty value) ≡ value
plain_datum (Some ty) value = plain_level ty value (out-Value value) refl
plain_datum None value = refl

behind_nothing : (ws : Option (List Value)) → ws ≡ option_map (λ ws. [] ++ ws) ws
behind_nothing None = refl
behind_nothing (Some ws) = refl

append_first : (d : Option Datum) (vs ws : Option (List Value))
    → option_and_then (λ datum. option_map (λ values. plain datum ∷ values) (option_and_then (λ vs. option_map (λ ws. vs ++ ws) ws) vs)) d
    ≡ option_and_then (λ vs. option_map (λ ws. vs ++ ws) ws) (option_and_then (λ datum. option_map (λ values. plain datum ∷ values) vs) d)
append_first None vs ws = refl
append_first (Some d) None ws = refl
append_first (Some d) (Some vs) None = refl
append_first (Some d) (Some vs) (Some ws) = refl

pub values_append : (xs ys : List Meaning) (view : View) →
    values_of (xs ++ ys) view ≡ option_and_then (λ vs. option_map (λ ws. vs ++ ws) (values_of ys view)) (values_of xs view)
values_append [] ys view = behind_nothing (values_of ys view)
values_append (e ∷ xs) ys view =
    ap (λ rest. option_and_then (λ datum. option_map (λ values. plain datum ∷ values) rest) (e view)) (values_append xs ys view)
    ∙ append_first (e view) (values_of xs view) (values_of ys view)

current_first : (ty : Option ScalarType) (root : ℕ) (ks : List ℕ) (now : List Value) (read : Option Value) (ts : Option (List Target)) →
    read_at root now ks ≡ read
    → option_and_then (λ datum. option_map (λ values. plain datum ∷ values) (option_and_then (λ ts. current_of ts now) ts))
    (option_map (datum_of ty) read)
    ≡ option_and_then (λ ts. current_of ts now) (option_map (λ rest. record { root = root; positions = ks } ∷ rest) ts)
current_first ty root ks now None None is = refl
current_first ty root ks now None (Some ts) is = sym (ap (option_and_then (λ value. option_map (λ values. value ∷ values) (current_of ts now))) is)
current_first ty root ks now (Some v) None is = refl
current_first ty root ks now (Some v) (Some ts) is =
    ap (λ w. option_map (λ values. w ∷ values) (current_of ts now)) (plain_datum ty v)
    ∙ sym (ap (option_and_then (λ value. option_map (λ values. value ∷ values) (current_of ts now))) is)

current_at : (ty : Option ScalarType) (root : ℕ) (now : List Value) (ks : Option (List ℕ)) (ts : Option (List Target))
    → option_and_then (λ datum. option_map (λ values. plain datum ∷ values) (option_and_then (λ ts. current_of ts now) ts))
    (option_map (datum_of ty) (option_and_then (read_at root now) ks))
    ≡ option_and_then (λ ts. current_of ts now) (option_and_then (λ ks. option_map (λ rest. record { root = root; positions = ks } ∷ rest) ts) ks)
current_at ty root now None ts = refl
current_at ty root now (Some ks) ts = current_first ty root ks now (read_at root now ks) ts refl

current_is : (spots : List PathMeaning) (view : View) → values_of (map reading spots) view
    ≡ option_and_then (λ ts. current_of ts view.now) (targets_of spots view)
current_is [] view = refl
current_is (spot ∷ spots) view =
    ap (λ rest. option_and_then (λ datum. option_map (λ values. plain datum ∷ values) rest) (reading spot view)) (current_is spots view)
    ∙ current_at (scalar_in spot.ty) spot.root view.now (spot.positions view) (targets_of spots view)

back_is : (spot : PathMeaning) (value : Value) (view : View) (now : List Value) (ks : List ℕ) → spot.positions view ≡ Some ks
    → put_back spot value view now ≡ with_element_at spot.root ks value now
back_is spot value view now ks is =
    ap (λ ks. unwrap_or (option_and_then (λ ks. put_at spot.root ks value now) ks) now) is ∙ put_unwrapped spot.root ks value now

abbrev AllIs : List PathMeaning → View → Type 0
AllIs spots view = (values : List Value) (now : List Value) (ts : List Target) → targets_of spots view ≡ Some ts
    → put_all spots values view now ≡ all_changed (puts_of ts values) now

all_first : (spots : List PathMeaning) (spot : PathMeaning) (values : List Value) (view : View) (now : List Value) (ts : List Target)
    (ks : Option (List ℕ)) (rest : Option (List Target))
    → AllIs spots view → spot.positions view ≡ ks → targets_of spots view ≡ rest
    → option_and_then (λ ks. option_map (λ rest. record { root = spot.root; positions = ks } ∷ rest) rest) ks ≡ Some ts
    → put_all (spot ∷ spots) values view now ≡ all_changed (puts_of ts values) now
all_first spots spot values view now ts None rest again is_ks is_rest is = absurd (cc)
all_first spots spot values view now ts (Some ks) None again is_ks is_rest is = absurd (cc)
all_first spots spot [] view now ts (Some ks) (Some rest) again is_ks is_rest is =
    let same : record { root = spot.root; positions = ks } ∷ rest ≡ ts = cc in
    ap (λ ts. all_changed (puts_of ts []) now) same
all_first spots spot (value ∷ values) view now ts (Some ks) (Some rest) again is_ks is_rest is =
    let same : record { root = spot.root; positions = ks } ∷ rest ≡ ts = cc in
    again values (put_back spot value view now) rest is_rest
    ∙ ap (all_changed (puts_of rest values)) (back_is spot value view now ks is_ks)
    ∙ ap (λ ts. all_changed (puts_of ts (value ∷ values)) now) same

all_is : (spots : List PathMeaning) (view : View) → AllIs spots view
all_is [] view values now ts is = let none : [] ≡ ts = cc in ap (λ ts. all_changed (puts_of ts values) now) none
all_is (spot ∷ spots) view values now ts is =
    all_first spots spot values view now ts (spot.positions view) (targets_of spots view) (all_is spots view) refl refl is

module _ (scope : Scope) (f : ℕ) (inputs : List Expr) (outputs : List Path) (view : View) where
  abbrev arguments : Option (List Value)
  arguments = values_of (map (meaning_of scope) inputs ++ map reading (map (path_meaning_of scope) outputs)) view

  arguments_are : arguments
      ≡ option_and_then (λ vs. option_map (λ ws. vs ++ ws)
      (option_and_then (λ ts. current_of ts view.now) (targets_of (map (path_meaning_of scope) outputs) view)))
      (values_of (map (meaning_of scope) inputs) view)
  arguments_are =
      values_append (map (meaning_of scope) inputs) (map reading (map (path_meaning_of scope) outputs)) view
      ∙ ap (λ ws. option_and_then (λ vs. option_map (λ ws. vs ++ ws) ws) (values_of (map (meaning_of scope) inputs) view))
      (current_is (map (path_meaning_of scope) outputs) view)

  not_called : (callee : Option Callee) → arguments ≡ None →
      None ≡ option_and_then (outcome_of_call (map (meaning_of scope) inputs) (map (path_meaning_of scope) outputs) view) callee
  not_called None none = refl
  not_called (Some callee) none =
      sym (ap (option_and_then
      (λ values. option_map (λ left. put_all (map (path_meaning_of scope) outputs) left.outputs view view.now) (callee values))) none)

  none_from : (vs : Option (List Value)) → option_and_then (λ (vs : List Value). option_map (λ (ws : List Value). vs ++ ws) None) vs ≡ None
  none_from None = refl
  none_from (Some vs) = refl

  pub no_targets : targets_of (map (path_meaning_of scope) outputs) view ≡ None → None ≡ call_of scope f inputs outputs view
  no_targets none =
      not_called (slice_get scope.callees f)
      (arguments_are
      ∙ ap (λ ts. option_and_then (λ vs. option_map (λ ws. vs ++ ws) (option_and_then (λ ts. current_of ts view.now) ts))
      (values_of (map (meaning_of scope) inputs) view)) none
      ∙ none_from (values_of (map (meaning_of scope) inputs) view))

  pub no_inputs : values_of (map (meaning_of scope) inputs) view ≡ None → None ≡ call_of scope f inputs outputs view
  no_inputs none =
      not_called (slice_get scope.callees f)
      (arguments_are
      ∙ ap (option_and_then (λ vs. option_map (λ ws. vs ++ ws)
      (option_and_then (λ ts. current_of ts view.now) (targets_of (map (path_meaning_of scope) outputs) view)))) none)

  arguments_with : (vs : List Value) (ts : List Target) → values_of (map (meaning_of scope) inputs) view ≡ Some vs →
      targets_of (map (path_meaning_of scope) outputs) view ≡ Some ts
      → arguments ≡ option_map (λ ws. vs ++ ws) (current_of ts view.now)
  arguments_with vs ts is_vs is_ts =
      arguments_are
      ∙ ap (option_and_then (λ vs. option_map (λ ws. vs ++ ws)
      (option_and_then (λ ts. current_of ts view.now) (targets_of (map (path_meaning_of scope) outputs) view)))) is_vs
      ∙ ap (λ ts. option_map (λ ws. vs ++ ws) (option_and_then (λ ts. current_of ts view.now) ts)) is_ts

  pub no_current : (vs : List Value) (ts : List Target) → values_of (map (meaning_of scope) inputs) view ≡ Some vs →
      targets_of (map (path_meaning_of scope) outputs) view ≡ Some ts
      → option_map (λ ws. vs ++ ws) (current_of ts view.now) ≡ None → None ≡ call_of scope f inputs outputs view
  no_current vs ts is_vs is_ts none = not_called (slice_get scope.callees f) (arguments_with vs ts is_vs is_ts ∙ none)

  calls : (callee : Option Callee) (given : List Value) (ts : List Target) → arguments ≡ Some given
      → targets_of (map (path_meaning_of scope) outputs) view ≡ Some ts
      → option_map (λ puts. all_changed puts view.now) (option_map (λ left. puts_of ts left.outputs) (option_and_then (λ callee. callee given) callee))
      ≡ option_and_then (outcome_of_call (map (meaning_of scope) inputs) (map (path_meaning_of scope) outputs) view) callee
  calls None given ts is is_ts = refl
  calls (Some callee) given ts is is_ts =
      leaves (callee given)
      ∙ sym (ap (option_and_then
      (λ values. option_map (λ left. put_all (map (path_meaning_of scope) outputs) left.outputs view view.now) (callee values))) is)
    where
      leaves : (left : Option Left) → option_map (λ puts. all_changed puts view.now) (option_map (λ left. puts_of ts left.outputs) left)
          ≡ option_map (λ left. put_all (map (path_meaning_of scope) outputs) left.outputs view view.now) left
      leaves None = refl
      leaves (Some left) = ap Some (sym (all_is (map (path_meaning_of scope) outputs) view left.outputs view.now ts is_ts))

  pub is_called : (vs : List Value) (ts : List Target) (given : List Value) (left : Option Left) (changes : Option (List Put))
      → values_of (map (meaning_of scope) inputs) view ≡ Some vs → targets_of (map (path_meaning_of scope) outputs) view ≡ Some ts
      → option_map (λ ws. vs ++ ws) (current_of ts view.now) ≡ Some given
      → left ≡ option_and_then (λ callee. callee given) (slice_get scope.callees f)
      → changes ≡ option_map (λ left. puts_of ts left.outputs) left
      → option_map (λ puts. all_changed puts view.now) changes ≡ call_of scope f inputs outputs view
  is_called vs ts given left changes is_vs is_ts is_given is_left is_changes =
      ap (option_map (λ puts. all_changed puts view.now)) (is_changes ∙ ap (option_map (λ left. puts_of ts left.outputs)) is_left)
      ∙ calls (slice_get scope.callees f) given ts (arguments_with vs ts is_vs is_ts ∙ is_given) is_ts
