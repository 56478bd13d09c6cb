-- Outputs of a `run` don't overlap in a unit that passes the rule on aliases.
use Rattle.std.proofs.Common.{◌≡◌, ℕ, zero, suc, ◌<◌, Bool, true, false, cond, List, [], ◌∷◌, ◌++◌, map, length, get_or, Option, Some, None, refl, sym, ap, ◌∙◌}
use Rattle.std.proofs.Common.{subst, arith}
use Rattle.std.specs.Prelude.{All, find, option_map, option_to_list, slice_get, slice_index_or}
use Rattle.std.proofs.lemmas.List.Elements.{All-head, All-tail}
use Rattle.bl_tree.proofs.Basics.{first_empty, get_mapped, get_of_map, not_both, second_empty}
use Rattle.bl_tree.specs.declared.place.Place.{Place}
use Rattle.bl_tree.specs.declared.tree.Arm.{Arm, fold-Arm, fold_out-Arm, out-Arm}
use Rattle.bl_tree.specs.declared.tree.Branch.{Branch, fold-Branch, fold_out-Branch, out-Branch}
use Rattle.bl_tree.specs.declared.tree.Path.{Path}
use Rattle.bl_tree.specs.declared.tree.Stmt.{Stmt, fold-roll-Stmt}
use Rattle.bl_tree.specs.declared.tree.StmtKind.{StmtKind, fold-StmtKind, fold-roll-StmtKind, map-StmtKind}
use Rattle.bl_tree.specs.declared.tree.StmtKind.TheOpen.{StmtKind-F}
use Rattle.bl_tree.specs.declared.tree.Unit.{Unit as UnitDef}
use Rattle.bl_tree.specs.Reduce.{joined}
use Rattle.bl_tree.specs.Static.{overlaps, static_of}
use Rattle.bl_tree.proofs.StmtInduction.{Cases, Each, EachArm, EachBranch, induct, stmt}
use Rattle.bl_effects.specs.declared.marked.Marked.{Marked}
use Rattle.bl_effects.specs.Rules.{Aliased, aliased_with, aliases_in, arm_aliases, branch_aliases, kind_aliases, marked_inputs, marked_path, outputs_aliased}
use Rattle.bl_effects.specs.Rules.{stmt_aliases, target_aliased}
use Rattle.bl_effects.proofs.SetLemmas.{overlaps_symm}
use Rattle.bl_ctree.specs.declared.instance.Run.{Run}
use Rattle.bl_ctree.specs.Instances.{arm_runs, branch_runs, kind_runs, runs_in, runs_in_arm, runs_in_branch, runs_of, stmt_layer_runs}
use Rattle.bl_ctree_laws_confluence.specs.Deeds.Homes.{AreApart}
use Rattle.bl_ctree_laws_confluence.proofs.OnDeeds.Activities.{AllOf, all_both, one_a_place_so}

pub of_first : {A : Type 0} (P : A → Type 0) (xs ys : List A) → AllOf P (xs ++ ys) → AllOf P xs
of_first P [] ys all = tt
of_first P (x ∷ xs) ys all = (all.0, of_first P xs ys all.1)

pub of_second : {A : Type 0} (P : A → Type 0) (xs ys : List A) → AllOf P (xs ++ ys) → AllOf P ys
of_second P [] ys all = all
of_second P (x ∷ xs) ys all = of_second P xs ys all.1

pub of_member : {A : Type 0} (P : A → Type 0) (xs : List A) (k : ℕ) (x : A) → AllOf P xs → k < length xs → slice_index_or xs k x ≡ x → P x
of_member P [] k x all within e = absurd (omega arith)
of_member P (y ∷ xs) zero x all within e = subst P e all.0
of_member P (y ∷ xs) (suc k) x all within e = of_member P xs k x all.1 (omega arith) e

-- ---- the outputs of one statement

find_none : {A : Type 0} (p : A → Bool) (xs : List A) → find p xs ≡ None → AllOf (λ x. p x ≡ false) xs
find_none p [] e = tt
find_none p (x ∷ xs) e = by_test (p x) refl (λ f. find_none p xs f) e
  where
    by_test : (b : Bool) → p x ≡ b → (find p xs ≡ None → AllOf (λ x. p x ≡ false) xs) → cond b (Some x) (find p xs) ≡ None →
        AllOf (λ x. p x ≡ false) (x ∷ xs)
    by_test true is more e = absurd cc
    by_test false is more e = (is, more e)

abbrev Past : Marked → List Marked → Type 0
Past one others = AllOf (λ other. overlaps one.path other.path ≡ false) others

none_aliased : (others : List Marked) (one : Marked) → aliased_with others one ≡ [] → Past one others
none_aliased others one e = by_found (find (λ other. overlaps one.path other.path) others) refl e
  where
    by_found : (found : Option Marked) → find (λ other. overlaps one.path other.path) others ≡ found →
        option_to_list {X = Aliased} (option_map (λ other. record { at = one.place; also = other.place }) found) ≡ [] → Past one others
    by_found None is e = find_none (λ other. overlaps one.path other.path) others is
    by_found (Some other) is e = absurd cc

later_past : (inputs before rest : List Marked) → outputs_aliased inputs before rest ≡ [] → (k : ℕ) (o : Marked) → slice_get rest k ≡ Some o →
    Past o before
later_past inputs before [] e k o is = absurd cc
later_past inputs before (x ∷ rest) e zero o is =
    let same : x ≡ o = cc in
    subst (λ o. Past o before) same
    (of_first (λ other. overlaps x.path other.path ≡ false) before inputs
    (none_aliased (before ++ inputs) x (first_empty (aliased_with (before ++ inputs) x) (outputs_aliased inputs (before ++ x ∷ []) rest) e)))
later_past inputs before (x ∷ rest) e (suc k) o is =
    of_first (λ other. overlaps o.path other.path ≡ false) before (x ∷ [])
    (later_past inputs (before ++ x ∷ []) rest
    (second_empty (aliased_with (before ++ inputs) x) (outputs_aliased inputs (before ++ x ∷ []) rest) e) k o is)

one_index : (inputs before rest : List Marked) → outputs_aliased inputs before rest ≡ [] → (j k : ℕ) (a b : Marked) → slice_get rest j ≡ Some a →
    slice_get rest k ≡ Some b → overlaps a.path b.path ≡ true → j ≡ k
one_index inputs before [] e j k a b is is' over = absurd cc
one_index inputs before (x ∷ rest) e zero zero a b is is' over = refl
one_index inputs before (x ∷ rest) e zero (suc k) a b is is' over =
    let same : x ≡ a = cc in
    let past = later_past inputs (before ++ x ∷ []) rest
    (second_empty (aliased_with (before ++ inputs) x) (outputs_aliased inputs (before ++ x ∷ []) rest) e) k b is' in
    let clear = (of_second (λ other. overlaps b.path other.path ≡ false) before (x ∷ []) past).0 in
    not_both (overlaps a.path b.path) (overlaps_symm a.path b.path ∙ ap (λ x. overlaps b.path x.path) (sym same) ∙ clear) over
one_index inputs before (x ∷ rest) e (suc j) zero a b is is' over =
    let same : x ≡ b = cc in
    let past = later_past inputs (before ++ x ∷ []) rest
    (second_empty (aliased_with (before ++ inputs) x) (outputs_aliased inputs (before ++ x ∷ []) rest) e) j a is in
    let clear = (of_second (λ other. overlaps a.path other.path ≡ false) before (x ∷ []) past).0 in
    not_both (overlaps a.path b.path) (ap (λ x. overlaps a.path x.path) (sym same) ∙ clear) over
one_index inputs before (x ∷ rest) e (suc j) (suc k) a b is is' over =
    ap suc (one_index inputs (before ++ x ∷ []) rest
    (second_empty (aliased_with (before ++ inputs) x) (outputs_aliased inputs (before ++ x ∷ []) rest) e) j k a b is is' over)

outputs_apart : (inputs : List Marked) (outputs : List Path) → outputs_aliased inputs [] (map marked_path outputs) ≡ [] → AreApart (map static_of outputs)
outputs_apart inputs outputs e j k a b is is' over =
    let one = get_of_map static_of outputs j a is in
    let two = get_of_map static_of outputs k b is' in
    one_index inputs [] (map marked_path outputs) e j k (marked_path one.0) (marked_path two.0) (get_mapped marked_path outputs j one.0 one.1)
    (get_mapped marked_path outputs k two.0 two.1) ((λ i. overlaps (one.2 i) (two.2 i)) ∙ over)

-- ---- statements

abbrev R : Run → Type 0
R run = AreApart run.outputs

abbrev S : Stmt → Type 0
S s = aliases_in s ≡ [] → AllOf R (runs_in s)

parts_apart : {A : Type 0} (g : A → List Aliased) (f : A → List Run) (xs : List A) → All (λ x. g x ≡ [] → AllOf R (f x)) xs →
    joined (map g xs) ≡ [] →
    AllOf R (joined (map f xs))
parts_apart g f [] all none = tt
parts_apart g f (x ∷ xs) all none =
    all_both R (f x) (joined (map f xs)) (All-head (λ x. g x ≡ [] → AllOf R (f x)) x xs all (first_empty (g x) (joined (map g xs)) none))
    (parts_apart g f xs (All-tail (λ x. g x ≡ [] → AllOf R (f x)) x xs all) (second_empty (g x) (joined (map g xs)) none))

block_apart : (body : List Stmt) → Each S body → joined (map aliases_in body) ≡ [] → AllOf R (joined (map runs_in body))
block_apart body each none = parts_apart aliases_in runs_in body each none

abbrev pub arm_aliased : Arm → List Aliased
arm_aliased = fold-Arm (List Aliased) (List Aliased) (List Aliased) (List Aliased) kind_aliases arm_aliases branch_aliases stmt_aliases

abbrev pub branch_aliased : Branch → List Aliased
branch_aliased = fold-Branch (List Aliased) (List Aliased) (List Aliased) (List Aliased) kind_aliases arm_aliases branch_aliases stmt_aliases

arm_apart : (arm : Arm) → Each S (out-Arm arm).body → arm_aliased arm ≡ [] → AllOf R (runs_in_arm arm)
arm_apart arm each none =
    subst (AllOf R) (sym (fold_out-Arm (Place → List Run) (List Run) (List Run) (List Run) kind_runs arm_runs branch_runs stmt_layer_runs arm))
    (block_apart (out-Arm arm).body each
    (sym (fold_out-Arm (List Aliased) (List Aliased) (List Aliased) (List Aliased) kind_aliases arm_aliases branch_aliases stmt_aliases arm) ∙ none))

branch_apart : (branch : Branch) → Each S (out-Branch branch).body → branch_aliased branch ≡ [] → AllOf R (runs_in_branch branch)
branch_apart branch each none =
    subst (AllOf R) (sym (fold_out-Branch (Place → List Run) (List Run) (List Run) (List Run) kind_runs arm_runs branch_runs stmt_layer_runs branch))
    (block_apart (out-Branch branch).body each
    (sym (fold_out-Branch (List Aliased) (List Aliased) (List Aliased) (List Aliased) kind_aliases arm_aliases branch_aliases stmt_aliases branch) ∙ none))

shown : {A : Type 0} (P Q : A → Type 0) → ((x : A) → P x → Q x) → (xs : List A) → All P xs → All Q xs
shown P Q gives xs all = λ k d within. gives _ (all k d within)

arms_apart : (arms : List Arm) → EachArm S arms → joined (map arm_aliased arms) ≡ [] → AllOf R (joined (map runs_in_arm arms))
arms_apart arms each = parts_apart arm_aliased runs_in_arm arms
    (shown (λ arm. Each S (out-Arm arm).body) (λ arm. arm_aliased arm ≡ [] → AllOf R (runs_in_arm arm)) arm_apart arms each)

branches_apart : (branches : List Branch) → EachBranch S branches → joined (map branch_aliased branches) ≡ [] →
    AllOf R (joined (map runs_in_branch branches))
branches_apart branches each = parts_apart branch_aliased runs_in_branch branches
    (shown (λ branch. Each S (out-Branch branch).body)
    (λ branch. branch_aliased branch ≡ [] → AllOf R (runs_in_branch branch)) branch_apart branches each)

abbrev alias_parts : StmtKind-F StmtKind Arm Branch Stmt → StmtKind-F (List Aliased) (List Aliased) (List Aliased) (List Aliased)
alias_parts = map-StmtKind StmtKind Arm Branch Stmt (List Aliased) (List Aliased) (List Aliased) (List Aliased)
    (fold-StmtKind (List Aliased) (List Aliased) (List Aliased) (List Aliased) kind_aliases arm_aliases branch_aliases stmt_aliases) arm_aliased
    branch_aliased aliases_in

alias_at : (place : Place) (layer : StmtKind-F StmtKind Arm Branch Stmt) → aliases_in (stmt place layer) ≡ kind_aliases (alias_parts layer)
alias_at place layer = rw (fold-roll-Stmt, fold-roll-StmtKind) refl

abbrev pub run_parts : StmtKind-F StmtKind Arm Branch Stmt → StmtKind-F (Place → List Run) (List Run) (List Run) (List Run)
run_parts = map-StmtKind StmtKind Arm Branch Stmt (Place → List Run) (List Run) (List Run) (List Run)
    (fold-StmtKind (Place → List Run) (List Run) (List Run) (List Run) kind_runs arm_runs branch_runs stmt_layer_runs) runs_in_arm runs_in_branch runs_in

pub runs_at : (place : Place) (layer : StmtKind-F StmtKind Arm Branch Stmt) → runs_in (stmt place layer) ≡ kind_runs (run_parts layer) place
runs_at place layer = rw (fold-roll-Stmt, fold-roll-StmtKind) refl

by_parts : (place : Place) (layer : StmtKind-F StmtKind Arm Branch Stmt) →
    (kind_aliases (alias_parts layer) ≡ [] → AllOf R (kind_runs (run_parts layer) place)) → S (stmt place layer)
by_parts place layer runs none = subst (AllOf R) (sym (runs_at place layer)) (runs (sym (alias_at place layer) ∙ none))

stmt_cases : Cases S
stmt_cases = record {
  declare = λ place k initial. by_parts place (StmtKind-F.Declare k initial) (λ none. tt);
  assign = λ place path e. by_parts place (StmtKind-F.Assign path e) (λ none. tt);
  call = λ place f inputs outputs. by_parts place (StmtKind-F.Call f inputs outputs) (λ none. tt);
  await = λ place e. by_parts place (StmtKind-F.Await e) (λ none. tt);
  run = λ place target a inputs outputs. by_parts place (StmtKind-F.Run target a inputs outputs) (λ none. (
    outputs_apart (marked_inputs inputs) outputs
        (second_empty (target_aliased (map marked_path outputs) target) (outputs_aliased (marked_inputs inputs) [] (map marked_path outputs)) none),
    tt,
  ));
  branching = λ place arms other in_arms in_other. by_parts place (StmtKind-F.If arms other) (λ none.
      all_both R (joined (map runs_in_arm arms)) (joined (map runs_in other))
      (arms_apart arms in_arms (first_empty (joined (map arm_aliased arms)) (joined (map aliases_in other)) none))
      (block_apart other in_other (second_empty (joined (map arm_aliased arms)) (joined (map aliases_in other)) none)));
  cobegin = λ place branches each. by_parts place (StmtKind-F.Cobegin branches) (λ none. branches_apart branches each none);
  guarded = λ place guard e body each. by_parts place (StmtKind-F.When guard e body) (λ none. block_apart body each none);
  repeat = λ place body each. by_parts place (StmtKind-F.Repeat body) (λ none. block_apart body each none);
  until = λ place body e each. by_parts place (StmtKind-F.Until body e) (λ none. block_apart body each none);
  while = λ place e body each. by_parts place (StmtKind-F.While e body) (λ none. block_apart body each none);
  returns = λ place e. by_parts place (StmtKind-F.Return e) (λ none. tt);
}

-- the `run` statements of a unit have outputs that don't overlap
pub unit_outputs : (unit : UnitDef) → joined (map aliases_in unit.body) ≡ [] → AllOf (λ run. AreApart run.outputs) (runs_of unit)
unit_outputs unit none =
    one_a_place_so R (joined (map runs_in unit.body)) (block_apart unit.body (λ k d within. induct S stmt_cases (get_or unit.body k d)) none)
