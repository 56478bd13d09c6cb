-- What is told of a path that a statement of a body writes: some act of it writes it, or declares its variable.
use Rattle.std.proofs.Common.{◌≡◌, ◌⊎◌, inl, inr, ℕ, suc, Bool, true, false, ◌&&◌, List, [], ◌∷◌, ◌++◌, map, get_or, Option, Some, None, refl, sym, ap, ◌∙◌}
use Rattle.std.proofs.Common.{subst, append_assoc, eq-eqb}
use Rattle.std.specs.Prelude.{Contains, is_some, nat_eq, option_and_then, slice_get, if◌then◌else◌}
use Rattle.std.specs.List.{list_any}
use Rattle.std.proofs.lemmas.List.Elements.{All-head, All-tail}
use Rattle.std.proofs.lemmas.Bool.{or_left}
use Rattle.bl_tree.proofs.Basics.{and_first, and_second}
use Rattle.bl_tree.specs.declared.place.Place.{Place}
use Rattle.bl_tree.specs.declared.static_path.Static.{Static}
use Rattle.bl_tree.specs.declared.tree.Arm.{Arm, fold-Arm, fold_out-Arm, out-Arm}
use Rattle.bl_tree.specs.declared.tree.Branch.{Branch, fold-Branch, fold_out-Branch, out-Branch}
use Rattle.bl_tree.specs.declared.tree.Expr.{Expr}
use Rattle.bl_tree.specs.declared.tree.Path.{Path, fold_out-Path, out-Path}
use Rattle.bl_tree.specs.declared.tree.Stmt.{Stmt, fold-roll-Stmt}
use Rattle.bl_tree.specs.declared.tree.StmtKind.{StmtKind, fold-StmtKind, fold-roll-StmtKind, map-StmtKind}
use Rattle.bl_tree.specs.declared.tree.StmtKind.TheOpen.{StmtKind-F}
use Rattle.bl_tree.specs.declared.tree.Unit.{Unit as UnitDef}
use Rattle.bl_tree.specs.declared.tree.Var.{Var}
use Rattle.bl_tree.specs.Apart.{Naming, Roots, and_naming, argument_roots, arm_naming, branch_naming, declares, expr_layer_roots, kind_roots, naming, naming_of}
use Rattle.bl_tree.specs.Apart.{of_branches as names_of_branches, optional_roots, part_roots, path_layer_roots, roots_in, roots_in_path, stmt_kind_naming}
use Rattle.bl_tree.specs.Apart.{stmt_layer_naming, target_roots, together as names_together}
use Rattle.bl_tree.specs.Effects.{arm_writes, branch_paths, kind_writes, stmt_set, target_static, writes}
use Rattle.bl_tree.specs.Reduce.{all_of, joined}
use Rattle.bl_tree.specs.Static.{Reach, StaticStep, expr_mentions, kind_mentions, part_step, path_reach, set_of, static_of, whole}
use Rattle.bl_tree.specs.Types.{scalar as scalar_type}
use Rattle.bl_tree.specs.Typing.{TypingContext, are_same, arguments_fit, arm_fits, branch_fits, call_fits, declaration_fits, fits, inputs_of, is_activity}
use Rattle.bl_tree.specs.Typing.{is_assignable, is_inhabited, is_outlet, is_plain, is_procedure, is_truth, kind_fits, may_change, outputs_of, run_fits}
use Rattle.bl_tree.specs.Typing.{stmt_fits, target_fits, type_of, type_of_path, types_match, var_at}
use Rattle.bl_tree.proofs.StmtInduction.{Cases, Each, EachArm, EachBranch, induct, stmt}
use Rattle.bl_tree.proofs.FirstLemmas.{In, contains_in}
use Rattle.bl_effects.specs.declared.marked.Marked.{Marked}
use Rattle.bl_effects.specs.Rules.{Parallel, acting, arm_parallel, beside as beside_of, branch_parallel, kind_parallel, of_branches as branches_of_all}
use Rattle.bl_effects.specs.Rules.{parallel_of, stmt_parallel, together}
use Rattle.bl_effects.proofs.SetLemmas.{set_members}
use Rattle.bl_graph_nodes.specs.Laws.{plain_arm, plain_branch}
use Rattle.bl_graph_nodes.specs.Plain.{Label, Plain, Position, Act, block_from, bodies_from, else_at, inside, label_at, passed_one, plain_stmt, plain_block}
use Rattle.bl_graph_nodes.proofs.Equations.{plain_statements}
use Rattle.bl_ctree_laws_confluence.specs.Apart.Named.{OneOf}
use Rattle.bl_ctree_laws_confluence.specs.Apart.Owned.{SomeIn, SomeInEach, SomeOf}
use Rattle.bl_ctree_laws_confluence.specs.Apart.Writing.{StatementWrites}
use Rattle.bl_ctree_laws_confluence.proofs.OnApart.Members.{in_left, in_map, in_right}
use Rattle.bl_ctree_laws_confluence.proofs.OnApart.Named.{folded_arm, folded_branch, naming_at, naming_parts, one_left, one_right, all_named}
use Rattle.bl_ctree_laws_confluence.proofs.OnApart.Declared.{all_declared}

-- ---- the parts of statements

abbrev pub folded_arm_parallel : Arm → Parallel
folded_arm_parallel = fold-Arm (Place → Parallel) Parallel Parallel Parallel kind_parallel arm_parallel branch_parallel stmt_parallel

abbrev pub folded_branch_parallel : Branch → Parallel
folded_branch_parallel = fold-Branch (Place → Parallel) Parallel Parallel Parallel kind_parallel arm_parallel branch_parallel stmt_parallel

abbrev pub parallel_parts : StmtKind-F StmtKind Arm Branch Stmt → StmtKind-F (Place → Parallel) Parallel Parallel Parallel
parallel_parts = map-StmtKind StmtKind Arm Branch Stmt (Place → Parallel) Parallel Parallel Parallel
    (fold-StmtKind (Place → Parallel) Parallel Parallel Parallel kind_parallel arm_parallel branch_parallel stmt_parallel) folded_arm_parallel
    folded_branch_parallel parallel_of

pub parallel_at : (place : Place) (layer : StmtKind-F StmtKind Arm Branch Stmt) →
    parallel_of (stmt place layer) ≡ kind_parallel (parallel_parts layer) place
parallel_at place layer = rw (fold-roll-Stmt, fold-roll-StmtKind) refl

pub arm_parallel_at : (arm : Arm) → folded_arm_parallel arm ≡ together (map parallel_of (out-Arm arm).body)
arm_parallel_at arm = fold_out-Arm (Place → Parallel) Parallel Parallel Parallel kind_parallel arm_parallel branch_parallel stmt_parallel arm

pub branch_parallel_at : (branch : Branch) → folded_branch_parallel branch ≡ together (map parallel_of (out-Branch branch).body)
branch_parallel_at branch =
    fold_out-Branch (Place → Parallel) Parallel Parallel Parallel kind_parallel arm_parallel branch_parallel stmt_parallel branch

pub arm_naming_at : (arm : Arm) → folded_arm arm ≡ arm_naming (record { test = (out-Arm arm).test; body = map naming_of (out-Arm arm).body })
arm_naming_at arm = fold_out-Arm Naming Naming Naming Naming stmt_kind_naming arm_naming branch_naming stmt_layer_naming arm

pub branch_naming_at : (branch : Branch) → folded_branch branch ≡ names_together (map naming_of (out-Branch branch).body)
branch_naming_at branch = fold_out-Branch Naming Naming Naming Naming stmt_kind_naming arm_naming branch_naming stmt_layer_naming branch

abbrev pub written_parts : StmtKind-F StmtKind Arm Branch Stmt → StmtKind-F (List Static) (List Static) (List Static) (List Static)
written_parts = map-StmtKind StmtKind Arm Branch Stmt (List Static) (List Static) (List Static) (List Static)
    (fold-StmtKind (List Static) (List Static) (List Static) (List Static) kind_writes arm_writes branch_paths stmt_set)
    (fold-Arm (List Static) (List Static) (List Static) (List Static) kind_writes arm_writes branch_paths stmt_set)
    (fold-Branch (List Static) (List Static) (List Static) (List Static) kind_writes arm_writes branch_paths stmt_set) writes

written_at : (place : Place) (layer : StmtKind-F StmtKind Arm Branch Stmt) → writes (stmt place layer) ≡ set_of (kind_writes (written_parts layer))
written_at place layer = rw (fold-roll-Stmt, fold-roll-StmtKind) refl

-- what an act writes is what its kind does
written_in : (place : Place) (layer : StmtKind-F StmtKind Arm Branch Stmt) (p : Static) → Contains (writes (stmt place layer)) p →
    In p (kind_writes (written_parts layer))
written_in place layer p there =
    contains_in p (kind_writes (written_parts layer))
    ((set_members (kind_writes (written_parts layer)) p).0 (subst (λ xs. Contains xs p) (written_at place layer) there))

pub static_at : (path : Path) → (static_of path).root ≡ (out-Path path).root
static_at path = ap (λ reach. reach.static.root) (fold_out-Path (List Static) StaticStep (List Static) Reach kind_mentions part_step expr_mentions path_reach path)

root_named : (path : Path) → OneOf (static_of path).root (roots_in_path path)
root_named path =
    subst (OneOf (static_of path).root)
    (sym (fold_out-Path Roots Roots Roots Roots kind_roots part_roots expr_layer_roots path_layer_roots path))
    (first_named (static_of path).root (out-Path path).root _ (static_at path))
  where
    first_named : (k j : ℕ) (more : Roots) → k ≡ j → OneOf k (j ∷ more)
    first_named k j more is = or_left (nat_eq k j) (list_any (nat_eq k) more) (eq-eqb k j is)

-- ---- what is told of a path that some statement writes

-- a write of the path is among these
abbrev pub OneMark : Static → List Marked → Type 0
OneMark p marks = (m : Marked) × (In m marks × (m.path ≡ p))

-- it is the path of an act, or its variable is declared; its variable is named, and there is one
pub record Told (vars : List Var) (p : Static) (q : Parallel) (n : Naming) : Type 0 where
  pub written : OneMark p q.writes ⊎ OneOf p.root n.declared
  pub names : OneOf p.root n.named
  pub var : Var
  pub there : slice_get vars p.root ≡ Some var

told : {vars : List Var} {p : Static} {q q' : Parallel} {n n' : Naming} → ((m : Marked) → In m q.writes → In m q'.writes) →
    (OneOf p.root n.declared → OneOf p.root n'.declared) → (OneOf p.root n.named → OneOf p.root n'.named) → Told vars p q n → Told vars p q' n'
told {p = p} {q = q} {q' = q'} {n = n} {n' = n'} marks declared named one = record {
  written = moved one.written;
  names = named one.names;
  var = one.var;
  there = one.there;
}
  where
    moved : OneMark p q.writes ⊎ OneOf p.root n.declared → OneMark p q'.writes ⊎ OneOf p.root n'.declared
    moved (inl (m, (there, is))) = inl (m, (marks m there, is))
    moved (inr one) = inr (declared one)

told_is : {vars : List Var} {p : Static} {q q' : Parallel} {n n' : Naming} → q' ≡ q → n' ≡ n → Told vars p q n → Told vars p q' n'
told_is {vars} {p} {q} {q'} {n} {n'} one other told = subst (λ q. Told vars p q n') (sym one) (subst (Told vars p q) (sym other) told)

abbrev all_written : List Parallel → List Marked
all_written parts = joined (map (λ q. q.writes) parts)

first_told : {vars : List Var} {p : Static} (q : Parallel) (qs : List Parallel) (n : Naming) (ns : List Naming) → Told vars p q n →
    Told vars p (together (q ∷ qs)) (names_together (n ∷ ns))
first_told {p = p} q qs n ns one =
    told (λ m there. in_left m q.writes (all_written qs) there) (one_left p.root n.declared (all_declared ns))
    (one_left p.root n.named (all_named ns)) one

later_told : {vars : List Var} {p : Static} (q : Parallel) (qs : List Parallel) (n : Naming) (ns : List Naming) →
    Told vars p (together qs) (names_together ns) → Told vars p (together (q ∷ qs)) (names_together (n ∷ ns))
later_told {p = p} q qs n ns one =
    told (λ m there. in_right m q.writes (all_written qs) there) (one_right p.root n.declared (all_declared ns))
    (one_right p.root n.named (all_named ns)) one

-- beside the further parts, which stand before others
first_before : {vars : List Var} {p : Static} (q : Parallel) (qs : List Parallel) (other : Parallel) (n : Naming) (ns : List Naming) → Told vars p q n →
    Told vars p (beside_of (together (q ∷ qs)) other) (names_together (n ∷ ns))
first_before {p = p} q qs other n ns one =
    told (λ m there. in_left m (q.writes ++ all_written qs) other.writes (in_left m q.writes (all_written qs) there))
    (one_left p.root n.declared (all_declared ns)) (one_left p.root n.named (all_named ns)) one

later_before : {vars : List Var} {p : Static} (q : Parallel) (qs : List Parallel) (other : Parallel) (n : Naming) (ns : List Naming) →
    Told vars p (beside_of (together qs) other) (names_together ns) → Told vars p (beside_of (together (q ∷ qs)) other) (names_together (n ∷ ns))
later_before {p = p} q qs other n ns one =
    told (λ m there. subst (In m) (sym (append_assoc q.writes (all_written qs) other.writes))
    (in_right m q.writes (all_written qs ++ other.writes) there)) (one_right p.root n.declared (all_declared ns))
    (one_right p.root n.named (all_named ns)) one

-- the marks of an act
acted : (place : Place) (p : Static) (xs : List Static) → In p xs → OneMark p (acting place xs).writes
acted place p xs there = (record { place = place; path = p }, (in_map (λ path. record { place = place; path = path }) p xs there, refl))

module _ (site : TypingContext) (p : Static) where
  -- there is such a variable
  abbrev Known : ℕ → Type 0
  Known k = (var : Var) × (slice_get site.vars k ≡ Some var)

  known_assigned : (path : Path) → is_assignable site path ≡ true → Known (static_of path).root
  known_assigned path fit = subst Known (sym (static_at path)) (by_var (slice_get site.vars (out-Path path).root) refl fit)
    where
      by_var : (found : Option Var) → slice_get site.vars (out-Path path).root ≡ found →
          is_some (option_and_then (λ var. if may_change var.role then Some var else None) found) ≡ true → Known (out-Path path).root
      by_var None there fit = absurd cc
      by_var (Some var) there fit = (var, there)

  known_declared : (k : ℕ) (initial : Option Expr) → declaration_fits site initial (var_at site k) ≡ true → Known k
  known_declared k initial fit = by_var (slice_get site.vars k) refl initial fit
    where
      by_var : (found : Option Var) → slice_get site.vars k ≡ found → (initial : Option Expr) → declaration_fits site initial found ≡ true → Known k
      by_var None there (Some e) fit = absurd cc
      by_var None there None fit = absurd cc
      by_var (Some var) there initial fit = (var, there)

  -- an output is known and named
  outlet_told : (outputs : List Path) → all_of (map (is_outlet site) outputs) ≡ true → In p (map static_of outputs) →
      Known p.root × OneOf p.root (joined (map roots_in_path outputs))
  outlet_told [] fit there = absurd there
  outlet_told (path ∷ rest) fit (inl is) = (
    subst (λ q. Known q.root) (sym is) (known_assigned path (and_second (is_plain path) (is_assignable site path)
        (and_first (is_outlet site path) (all_of (map (is_outlet site) rest)) fit))),
    one_left p.root (roots_in_path path) (joined (map roots_in_path rest)) (subst (λ q. OneOf q.root (roots_in_path path)) (sym is) (root_named path)),
  )
  outlet_told (path ∷ rest) fit (inr more) =
      let one = outlet_told rest (and_second (is_outlet site path) (all_of (map (is_outlet site) rest)) fit) more in
      (one.0, one_right p.root (roots_in_path path) (joined (map roots_in_path rest)) one.1)

  arguments_told : (inputs : List Expr) (outputs : List Path) (callee : UnitDef) → arguments_fit site inputs outputs callee ≡ true →
      all_of (map (is_outlet site) outputs) ≡ true
  arguments_told inputs outputs callee fit =
      and_second (types_match (map (type_of_path site) outputs) (outputs_of callee)) (all_of (map (is_outlet site) outputs))
      (and_second (types_match (map (type_of site) inputs) (inputs_of callee))
      (types_match (map (type_of_path site) outputs) (outputs_of callee) && all_of (map (is_outlet site) outputs)) fit)

  call_told : (inputs : List Expr) (outputs : List Path) (found : Option UnitDef) → call_fits site inputs outputs found ≡ true →
      all_of (map (is_outlet site) outputs) ≡ true
  call_told inputs outputs None fit = absurd cc
  call_told inputs outputs (Some callee) fit =
      arguments_told inputs outputs callee (and_second (is_procedure callee) (arguments_fit site inputs outputs callee) fit)

  run_told : (target : Option Path) (inputs : List Expr) (outputs : List Path) (found : Option UnitDef) →
      run_fits site target inputs outputs found ≡ true → In p (target_static target ++ map static_of outputs) →
      Known p.root × OneOf p.root (target_roots target ++ (joined (map roots_in inputs) ++ joined (map roots_in_path outputs)))
  run_told target inputs outputs None fit there = absurd cc
  run_told None inputs outputs (Some callee) fit there =
      let more = and_second (is_activity site.kind && is_activity callee.kind)
      (target_fits site callee.result None && arguments_fit site inputs outputs callee) fit in
      let one = outlet_told outputs (arguments_told inputs outputs callee
      (and_second (target_fits site callee.result None) (arguments_fit site inputs outputs callee) more)) there in
      (one.0, one_right p.root (joined (map roots_in inputs)) (joined (map roots_in_path outputs)) one.1)
  run_told (Some path) inputs outputs (Some callee) fit there = by_part there
    where
      more : (target_fits site callee.result (Some path) && arguments_fit site inputs outputs callee) ≡ true
      more = and_second (is_activity site.kind && is_activity callee.kind)
          (target_fits site callee.result (Some path) && arguments_fit site inputs outputs callee) fit

      assigned : (result : _) → target_fits site result (Some path) ≡ true → is_assignable site path ≡ true
      assigned None fit = absurd cc
      assigned (Some result) fit =
          and_second (is_plain path) (is_assignable site path)
          (and_first (is_outlet site path) (are_same (Some (scalar_type result)) (type_of_path site path)) fit)

      arguments : Roots
      arguments = joined (map roots_in inputs) ++ joined (map roots_in_path outputs)

      by_part : (p ≡ static_of path) ⊎ In p (map static_of outputs) → Known p.root × OneOf p.root (roots_in_path path ++ arguments)
      by_part (inl is) = (
        subst (λ q. Known q.root) (sym is) (known_assigned path (assigned callee.result
            (and_first (target_fits site callee.result (Some path)) (arguments_fit site inputs outputs callee) more))),
        one_left p.root (roots_in_path path) arguments (subst (λ q. OneOf q.root (roots_in_path path)) (sym is) (root_named path)),
      )
      by_part (inr output) =
          let one = outlet_told outputs (arguments_told inputs outputs callee
          (and_second (target_fits site callee.result (Some path)) (arguments_fit site inputs outputs callee) more)) output in (
            one.0,
            one_right p.root (roots_in_path path) arguments
                (one_right p.root (joined (map roots_in inputs)) (joined (map roots_in_path outputs)) one.1),
          )

-- ---- typed statements

abbrev pub arm_fitted : TypingContext → Arm → Bool
arm_fitted site = fold-Arm Bool Bool Bool Bool (kind_fits site) (arm_fits site) branch_fits stmt_fits

abbrev pub branch_fitted : TypingContext → Branch → Bool
branch_fitted site = fold-Branch Bool Bool Bool Bool (kind_fits site) (arm_fits site) branch_fits stmt_fits

abbrev pub fit_parts : TypingContext → StmtKind-F StmtKind Arm Branch Stmt → StmtKind-F Bool Bool Bool Bool
fit_parts site = map-StmtKind StmtKind Arm Branch Stmt Bool Bool Bool Bool
    (fold-StmtKind Bool Bool Bool Bool (kind_fits site) (arm_fits site) branch_fits stmt_fits) (arm_fitted site) (branch_fitted site) (fits site)

pub fit_at : (site : TypingContext) (place : Place) (layer : StmtKind-F StmtKind Arm Branch Stmt) →
    fits site (stmt place layer) ≡ kind_fits site (fit_parts site layer)
fit_at site place layer = rw (fold-roll-Stmt, fold-roll-StmtKind) refl

-- a typed block
abbrev pub Fit : TypingContext → List Stmt → Type 0
Fit site body = all_of (map (fits site) body) ≡ true

pub fit_first : (site : TypingContext) (s : Stmt) (rest : List Stmt) → Fit site (s ∷ rest) → fits site s ≡ true
fit_first site s rest fit = and_first (fits site s) (all_of (map (fits site) rest)) fit

pub fit_rest : (site : TypingContext) (s : Stmt) (rest : List Stmt) → Fit site (s ∷ rest) → Fit site rest
fit_rest site s rest fit = and_second (fits site s) (all_of (map (fits site) rest)) fit

pub fit_arm : (site : TypingContext) (arm : Arm) → arm_fitted site arm ≡ true → Fit site (out-Arm arm).body
fit_arm site arm fit =
    and_second (is_truth (type_of site (out-Arm arm).test)) (all_of (map (fits site) (out-Arm arm).body))
    (sym (fold_out-Arm Bool Bool Bool Bool (kind_fits site) (arm_fits site) branch_fits stmt_fits arm) ∙ fit)

pub fit_branch : (site : TypingContext) (branch : Branch) → branch_fitted site branch ≡ true → Fit site (out-Branch branch).body
fit_branch site branch fit = sym (fold_out-Branch Bool Bool Bool Bool (kind_fits site) (arm_fits site) branch_fits stmt_fits branch) ∙ fit

abbrev pub ArmsFit : TypingContext → List Arm → Type 0
ArmsFit site arms = all_of (map (arm_fitted site) arms) ≡ true

abbrev pub BranchesFit : TypingContext → List Branch → Type 0
BranchesFit site branches = all_of (map (branch_fitted site) branches) ≡ true

pub fit_arms : (site : TypingContext) (arms : List Arm) (other : List Stmt) → kind_fits site (fit_parts site (StmtKind-F.If arms other)) ≡ true →
    ArmsFit site arms × Fit site other
fit_arms site arms other fit =
    let both = and_second (is_inhabited (map (arm_fitted site) arms))
    (all_of (map (arm_fitted site) arms) && all_of (map (fits site) other)) fit in (
      and_first (all_of (map (arm_fitted site) arms)) (all_of (map (fits site) other)) both,
      and_second (all_of (map (arm_fitted site) arms)) (all_of (map (fits site) other)) both,
    )

pub fit_branches : (site : TypingContext) (branches : List Branch) →
    kind_fits site (fit_parts site (StmtKind-F.Cobegin branches)) ≡ true → BranchesFit site branches
fit_branches site branches fit =
    and_second (is_inhabited (map (branch_fitted site) branches)) (all_of (map (branch_fitted site) branches))
    (and_second (is_activity site.kind) (is_inhabited (map (branch_fitted site) branches) && all_of (map (branch_fitted site) branches)) fit)

pub fit_guarded : (site : TypingContext) (e : Expr) (body : List Stmt) →
    (is_activity site.kind && (is_truth (type_of site e) && all_of (map (fits site) body))) ≡ true → Fit site body
fit_guarded site e body fit =
    and_second (is_truth (type_of site e)) (all_of (map (fits site) body))
    (and_second (is_activity site.kind) (is_truth (type_of site e) && all_of (map (fits site) body)) fit)

-- ---- what is told of a statement, a block and a branch

module _ (site : TypingContext) (p : Static) where
  abbrev P : Plain → Type 0
  P = StatementWrites p

  abbrev V : Parallel → Naming → Type 0
  V = Told site.vars p

  abbrev S : Stmt → Type 0
  S s = (at : Position) → fits site s ≡ true → SomeOf P (plain_stmt s at) → V (parallel_of s) (naming_of s)

  abbrev OfBlock : List Stmt → Type 0
  OfBlock body = V (together (map parallel_of body)) (names_together (map naming_of body))

  block_so : (body : List Stmt) (n : ℕ) (at : Position) → Each S body → Fit site body → SomeIn P (block_from (map plain_stmt body) n at) → OfBlock body
  block_so [] n at each fit some = absurd some
  block_so (s ∷ rest) n at each fit (inl some) =
      first_told (parallel_of s) (map parallel_of rest) (naming_of s) (map naming_of rest)
      (All-head S s rest each (at ++ n ∷ []) (fit_first site s rest fit) some)
  block_so (s ∷ rest) n at each fit (inr some) =
      later_told (parallel_of s) (map parallel_of rest) (naming_of s) (map naming_of rest)
      (block_so rest (suc n) at (All-tail S s rest each) (fit_rest site s rest fit) some)

  -- a test before it
  tested : (q : Parallel) (roots : Roots) (ns : List Naming) → V q (names_together ns) → V q (and_naming roots ns)
  tested q roots ns one = told (λ m there. there) (λ one. one) (one_right p.root roots (all_named ns)) one

  arm_so : (arm : Arm) (at : Position) → Each S (out-Arm arm).body → arm_fitted site arm ≡ true → SomeIn P (plain_block (out-Arm arm).body at) →
      V (folded_arm_parallel arm) (folded_arm arm)
  arm_so arm at each fit some =
      told_is (arm_parallel_at arm) (arm_naming_at arm)
      (tested (together (map parallel_of (out-Arm arm).body)) (roots_in (out-Arm arm).test) (map naming_of (out-Arm arm).body)
      (block_so (out-Arm arm).body 0 at each (fit_arm site arm fit) some))

  arms_so : (l : Label) (arms : List Arm) (other : List Stmt) → EachArm S arms → Each S other → ArmsFit site arms → Fit site other →
      SomeIn P (else_at l (map plain_arm arms) (plain_block other)) →
      V (beside_of (together (map folded_arm_parallel arms)) (together (map parallel_of other)))
      (names_together (map folded_arm arms ++ map naming_of other))
  arms_so l [] other each others fit fits_other some = block_so other 0 (inside l l.passed) others fits_other some
  arms_so l (arm ∷ rest) other each others fit fits_other (inr none) = absurd none
  arms_so l (arm ∷ rest) other each others fit fits_other (inl (inl none)) = absurd none
  arms_so l (arm ∷ rest) other each others fit fits_other (inl (inr (inl some))) =
      first_before (folded_arm_parallel arm) (map folded_arm_parallel rest) (together (map parallel_of other)) (folded_arm arm)
      (map folded_arm rest ++ map naming_of other)
      (arm_so arm (inside l l.passed) (All-head (λ arm. Each S (out-Arm arm).body) arm rest each)
      (and_first (arm_fitted site arm) (all_of (map (arm_fitted site) rest)) fit) some)
  arms_so l (arm ∷ rest) other each others fit fits_other (inl (inr (inr some))) =
      later_before (folded_arm_parallel arm) (map folded_arm_parallel rest) (together (map parallel_of other)) (folded_arm arm)
      (map folded_arm rest ++ map naming_of other)
      (arms_so (passed_one l) rest other (All-tail (λ arm. Each S (out-Arm arm).body) arm rest each) others
      (and_second (arm_fitted site arm) (all_of (map (arm_fitted site) rest)) fit) fits_other some)

  branch_so : (branch : Branch) (at : Position) → Each S (out-Branch branch).body → branch_fitted site branch ≡ true →
      SomeIn P (plain_block (out-Branch branch).body at) → V (folded_branch_parallel branch) (folded_branch branch)
  branch_so branch at each fit some =
      told_is (branch_parallel_at branch) (branch_naming_at branch) (block_so (out-Branch branch).body 0 at each (fit_branch site branch fit) some)

  branches_so : (branches : List Branch) (n : ℕ) (l : Label) → EachBranch S branches → BranchesFit site branches →
      SomeInEach P (bodies_from (map plain_branch branches) n l) →
      V (together (map folded_branch_parallel branches)) (names_together (map folded_branch branches))
  branches_so [] n l each fit some = absurd some
  branches_so (branch ∷ rest) n l each fit (inl some) =
      first_told (folded_branch_parallel branch) (map folded_branch_parallel rest) (folded_branch branch) (map folded_branch rest)
      (branch_so branch (inside l n) (All-head (λ branch. Each S (out-Branch branch).body) branch rest each)
      (and_first (branch_fitted site branch) (all_of (map (branch_fitted site) rest)) fit) some)
  branches_so (branch ∷ rest) n l each fit (inr some) =
      later_told (folded_branch_parallel branch) (map folded_branch_parallel rest) (folded_branch branch) (map folded_branch rest)
      (branches_so rest (suc n) l (All-tail (λ branch. Each S (out-Branch branch).body) branch rest each)
      (and_second (branch_fitted site branch) (all_of (map (branch_fitted site) rest)) fit) some)

  by_parts : (place : Place) (layer : StmtKind-F StmtKind Arm Branch Stmt) (at : Position) (q : Plain) → plain_stmt (stmt place layer) at ≡ q →
      (kind_fits site (fit_parts site layer) ≡ true → SomeOf P q →
      V (kind_parallel (parallel_parts layer) place) (stmt_kind_naming (naming_parts layer))) →
      fits site (stmt place layer) ≡ true → SomeOf P (plain_stmt (stmt place layer) at) → V (parallel_of (stmt place layer)) (naming_of (stmt place layer))
  by_parts place layer at q is so fit some =
      told_is (parallel_at place layer) (naming_at place layer) (so (sym (fit_at site place layer) ∙ fit) (subst (SomeOf P) is some))

  act_so : (place : Place) (layer : StmtKind-F StmtKind Arm Branch Stmt) (at : Position) →
      plain_stmt (stmt place layer) at ≡ Act (label_at at) (stmt place layer) →
      (kind_fits site (fit_parts site layer) ≡ true → In p (kind_writes (written_parts layer)) →
      V (kind_parallel (parallel_parts layer) place) (stmt_kind_naming (naming_parts layer))) →
      fits site (stmt place layer) ≡ true → SomeOf P (plain_stmt (stmt place layer) at) → V (parallel_of (stmt place layer)) (naming_of (stmt place layer))
  act_so place layer at is so =
      by_parts place layer at (Act (label_at at) (stmt place layer)) is (λ fit there. so fit (written_in place layer p there))

  declared_so : (place : Place) (k : ℕ) (initial : Option Expr) → declaration_fits site initial (var_at site k) ≡ true → In p (whole k ∷ []) →
      V (acting place []) (declares k (optional_roots initial))
  declared_so place k initial fit (inl is) = record {
    written = inr (or_left (nat_eq p.root k) false (eq-eqb p.root k (ap (λ q. q.root) is)));
    names = or_left (nat_eq p.root k) (list_any (nat_eq p.root) (optional_roots initial)) (eq-eqb p.root k (ap (λ q. q.root) is));
    var = var.0;
    there = subst (λ q. slice_get site.vars q.root ≡ Some var.0) (sym is) var.1;
  }
    where
      var : Known site p k
      var = known_declared site p k initial fit
  declared_so place k initial fit (inr none) = absurd none

  assigned_so : (place : Place) (path : Path) (e : Expr) → (is_assignable site path && are_same (type_of_path site path) (type_of site e)) ≡ true →
      In p (static_of path ∷ []) → V (acting place (static_of path ∷ [])) (naming (roots_in_path path ++ roots_in e))
  assigned_so place path e fit (inl is) = record {
    written = inl (acted place p (static_of path ∷ []) (inl is));
    names = one_left p.root (roots_in_path path) (roots_in e) (subst (λ q. OneOf q.root (roots_in_path path)) (sym is) (root_named path));
    var = var.0;
    there = subst (λ q. slice_get site.vars q.root ≡ Some var.0) (sym is) var.1;
  }
    where
      var : Known site p (static_of path).root
      var = known_assigned site p path (and_first (is_assignable site path) (are_same (type_of_path site path) (type_of site e)) fit)
  assigned_so place path e fit (inr none) = absurd none

  called_so : (place : Place) (f : ℕ) (inputs : List Expr) (outputs : List Path) → call_fits site inputs outputs (slice_get site.earlier f) ≡ true →
      In p (map static_of outputs) → V (acting place (map static_of outputs)) (naming (argument_roots inputs outputs))
  called_so place f inputs outputs fit there =
      let one = outlet_told site p outputs (call_told site p inputs outputs (slice_get site.earlier f) fit) there in
      record {
        written = inl (acted place p (map static_of outputs) there);
        names = one_right p.root (joined (map roots_in inputs)) (joined (map roots_in_path outputs)) one.1;
        var = one.0.0;
        there = one.0.1;
      }

  run_so : (place : Place) (target : Option Path) (a : ℕ) (inputs : List Expr) (outputs : List Path) →
      run_fits site target inputs outputs (slice_get site.earlier a) ≡ true → Contains (target_static target ++ map static_of outputs) p →
      V (acting place (target_static target ++ map static_of outputs)) (naming (target_roots target ++ argument_roots inputs outputs))
  run_so place target a inputs outputs fit has =
      let there = contains_in p (target_static target ++ map static_of outputs) has in
      let one = run_told site p target inputs outputs (slice_get site.earlier a) fit there in
      record {
        written = inl (acted place p (target_static target ++ map static_of outputs) there);
        names = one.1;
        var = one.0.0;
        there = one.0.1;
      }

  branching_so : (place : Place) (arms : List Arm) (other : List Stmt) → EachArm S arms → Each S other → S (stmt place (StmtKind-F.If arms other))
  branching_so place [] other each others at = by_parts place (StmtKind-F.If [] other) at _ refl (λ fit some. absurd cc)
  branching_so place (arm ∷ rest) other each others at =
      by_parts place (StmtKind-F.If (arm ∷ rest) other) at _ (plain_statements.branching place at arm rest other)
      (λ fit some.
      let parts = fit_arms site (arm ∷ rest) other fit in
      arms_so (label_at at) (arm ∷ rest) other each others parts.0 parts.1 (inl some))

  -- what stands inside
  in_body : (body : List Stmt) (at : Position) → Each S body → Fit site body → ⊥ ⊎ SomeIn P (plain_block body at) → OfBlock body
  in_body body at each fit (inl none) = absurd none
  in_body body at each fit (inr some) = block_so body 0 at each fit some

  forked_so : (place : Place) (branches : List Branch) (l : Label) → EachBranch S branches → BranchesFit site branches →
      ⊥ ⊎ SomeInEach P (bodies_from (map plain_branch branches) 0 l) →
      V (branches_of_all (map folded_branch_parallel branches)) (names_of_branches (map folded_branch branches))
  forked_so place branches l each fit (inl none) = absurd none
  forked_so place branches l each fit (inr some) =
      told (λ m there. there) (λ one. one) (λ one. one) (branches_so branches 0 l each fit some)

  stmt_cases : Cases S
  stmt_cases = record {
    declare = λ place k initial at.
        act_so place (StmtKind-F.Declare k initial) at (plain_statements.declaration place at k initial) (declared_so place k initial);
    assign = λ place path e at. act_so place (StmtKind-F.Assign path e) at (plain_statements.assignment place at path e) (assigned_so place path e);
    call = λ place f inputs outputs at.
        act_so place (StmtKind-F.Call f inputs outputs) at (plain_statements.call place at f inputs outputs) (called_so place f inputs outputs);
    await = λ place e at. by_parts place (StmtKind-F.Await e) at _ (plain_statements.pause place at e) (λ fit none. absurd none);
    run = λ place target a inputs outputs at. by_parts place (StmtKind-F.Run target a inputs outputs) at _
        (plain_statements.run place at target a inputs outputs) (run_so place target a inputs outputs);
    branching = branching_so;
    cobegin = λ place branches each at. by_parts place (StmtKind-F.Cobegin branches) at _ (plain_statements.parallel place at branches)
        (λ fit some. forked_so place branches (label_at at) each (fit_branches site branches fit) some);
    guarded = λ place guard e body each at. by_parts place (StmtKind-F.When guard e body) at _ (plain_statements.guarded place at guard e body)
        (λ fit some. tested (together (map parallel_of body)) (roots_in e) (map naming_of body)
        (in_body body (inside (label_at at) 0) each (fit_guarded site e body fit) some));
    repeat = λ place body each at. by_parts place (StmtKind-F.Repeat body) at _ (plain_statements.endless place at body)
        (λ fit some. in_body body (inside (label_at at) 0) each fit some);
    until = λ place body e each at. by_parts place (StmtKind-F.Until body e) at _ (plain_statements.until place at body e)
        (λ fit some. tested (together (map parallel_of body)) (roots_in e) (map naming_of body)
        (in_body body (inside (label_at at) 0) each (and_first (all_of (map (fits site) body)) (is_truth (type_of site e)) fit) some));
    while = λ place e body each at. by_parts place (StmtKind-F.While e body) at _ (plain_statements.while place at e body)
        (λ fit some. tested (together (map parallel_of body)) (roots_in e) (map naming_of body)
        (in_body body (inside (label_at at) 0) each (and_second (is_truth (type_of site e)) (all_of (map (fits site) body)) fit) some));
    returns = λ place e at. act_so place (StmtKind-F.Return e) at (plain_statements.returns place at e) (λ fit there. absurd there);
  }

  pub branch_told : (branch : Branch) (at : Position) → branch_fitted site branch ≡ true → SomeIn P (plain_block (out-Branch branch).body at) →
      V (folded_branch_parallel branch) (folded_branch branch)
  branch_told branch at fit some = branch_so branch at (λ n d within. induct S stmt_cases (get_or (out-Branch branch).body n d)) fit some
