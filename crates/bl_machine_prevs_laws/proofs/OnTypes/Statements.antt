-- What is made of the statements of a unit in which nothing fails declares what they declare, and names no more than they name.
use Rattle.std.proofs.Common.{◌≡◌, ℕ, Bool, true, false, ◌&&◌, ◌||◌, List, [], ◌∷◌, ◌++◌, map, Option, Some, None, refl}
use Rattle.std.proofs.Common.{sym, ap}
use Rattle.std.proofs.Common.{subst, ◌∙◌}
use Rattle.std.specs.Prelude.{All, if◌then◌else◌, length, nat_eq, option_map, slice_get, ⊤}
use Rattle.std.specs.List.{cons_option, list_all}
use Rattle.std.proofs.lemmas.List.Elements.{All-head, All-tail}
use Rattle.std.proofs.lemmas.Option.{same_Some}
use Rattle.std.proofs.lemmas.Bool.{and_from}
use Rattle.bl_tree.proofs.Basics.{all_of_each, and_first, and_second, first_empty, second_empty}
use Rattle.bl_tree.specs.declared.place.Place.{Place}
use Rattle.bl_tree.specs.declared.rule.Failure.{Failure}
use Rattle.bl_tree.specs.declared.scalar.Scalar.TheVariants.{Bool as OfBool}
use Rattle.bl_tree.specs.declared.tree.Arm.{Arm, fold-roll-Arm}
use Rattle.bl_tree.specs.declared.tree.Branch.{Branch, fold-roll-Branch, roll-Branch}
use Rattle.bl_tree.specs.declared.tree.Expr.{Expr}
use Rattle.bl_tree.specs.declared.tree.Guard.{Guard}
use Rattle.bl_tree.specs.declared.tree.Stmt.{Stmt}
use Rattle.bl_tree.specs.declared.tree.StmtKind.{StmtKind, out-StmtKind}
use Rattle.bl_tree.specs.declared.tree.StmtKind.TheOpen.{StmtKind-F}
use Rattle.bl_tree.specs.declared.tree.StmtKind.TheVariants as what
use Rattle.bl_tree.specs.Apart.{Roots}
use Rattle.bl_tree.specs.Apart as names
use Rattle.bl_tree.specs.Reduce.{all_of}
use Rattle.bl_tree.specs.Types.{scalar}
use Rattle.bl_tree.specs.Typing.{TypingContext, fits, is_fixed, is_inhabited, is_variable}
use Rattle.bl_eval.proofs.OperatorFits.{some_found, where_holds}
use Rattle.bl_names_tree.specs.declared.expr.NamedExpr.{NamedExpr}
use Rattle.bl_names_tree.specs.declared.item.NamedConstant.{NamedConstant}
use Rattle.bl_names_tree.specs.declared.item.NamedVar.{NamedVar}
use Rattle.bl_names_tree.specs.declared.stmt.NamedArm.{NamedArm, fold-roll-NamedArm, roll-NamedArm}
use Rattle.bl_names_tree.specs.declared.stmt.NamedBranch.{NamedBranch, fold-roll-NamedBranch, roll-NamedBranch}
use Rattle.bl_names_tree.specs.declared.stmt.NamedStmt.{NamedStmt, fold-roll-NamedStmt}
use Rattle.bl_names_tree.specs.declared.stmt.NamedStmtKind.{NamedStmtKind, fold-NamedStmtKind, fold-roll-NamedStmtKind, map-NamedStmtKind}
use Rattle.bl_names_tree.specs.declared.stmt.NamedStmtKind.TheOpen.{NamedStmtKind-F}
use Rattle.bl_names_tree.specs.Placed.{DeclaredBefore, PlacedStep, expr_placed, holds_if, holds_of, in_turn, stmt_step, tested, var_placed, with_variable}
use Rattle.bl_names_tree.specs.inner.Placed.{step_of_arm, step_of_branch}
use Rattle.bl_names_laws.specs.Apart as written
use Rattle.bl_types.specs.declared.environment.Environment.{Environment}
use Rattle.bl_types.specs.Declarations.{initial}
use Rattle.bl_types.specs.Expressions.{in_context, judged, targeted}
use Rattle.bl_types.specs.Statements.{Block, StatementJudgement, Walked, arguments, arm_of, arm_walked, branch_walked, condition, declare, in_order, misplaced}
use Rattle.bl_types.specs.Statements.{run_target, type_found, walked_arm, walked_block, walked_branch, walked_stmt}
use Rattle.bl_machine_prevs_laws.specs.Names.Scoped as scopes
use Rattle.bl_machine_prevs_laws.specs.Names.Scoped.{Scoped, are_known, block_and_condition, declaring, every, is_known, scoped_arms, scoped_block}
use Rattle.bl_machine_prevs_laws.specs.Names.Scoped.{scoped_branches as branches_of}
use Rattle.bl_machine_prevs_laws.specs.Names.Declared as before
use Rattle.bl_machine_prevs_laws.specs.Names.inner.Declared as earlier
use Rattle.bl_types_laws.specs.Standing.{Around, Grown, Known, PartPassed, declared_by, stmt_named}
use Rattle.bl_types_laws.specs.Within.{calls_functions, known_in}
use Rattle.bl_types_laws.specs.inner.Named.{named_arm, named_branch}
use Rattle.bl_types_laws.proofs.Blocks.{named_by, named_is, statement_fits}
use Rattle.bl_types_laws.proofs.Exprs.{context_in, targeted_in}
use Rattle.bl_types_laws.proofs.Initials.{initial_fits}
use Rattle.bl_types_laws.proofs.NamedSizes.{named_size, target_size}
use Rattle.bl_types_laws.proofs.NamedStmtInduction.{Cases, induct, stmt}
use Rattle.bl_types_laws.proofs.Opens.{ExprIn}
use Rattle.bl_types_laws.proofs.Orders.{Among, among_none}
use Rattle.bl_types_laws.proofs.ShapePaths.{initial_in, run_target_in, taker_size}
use Rattle.bl_types_laws.proofs.StmtLayers.{Layer, step_by, step_is, walked_by, walked_is}
use Rattle.bl_types_laws.proofs.Walks.{grown_around, grown_further, grown_self, own_calls, site_in, within_in}
use Rattle.bl_machine_prevs_laws.specs.Types.Declared.{scoped_of}
use Rattle.bl_machine_prevs_laws.specs.Types.inner.Declared.{scoped_of_arm, scoped_of_branch}
use Rattle.bl_machine_prevs_laws.proofs.OnTypes.Leaves.{KindKept, Same, StmtKept, arguments_among, assign_kept, await_kept, call_kept, in_place, kind_kept}
use Rattle.bl_machine_prevs_laws.proofs.OnTypes.Leaves.{return_kept, run_kept, scoped_in, tested_kept}
use Rattle.bl_types_laws.proofs.Blocks.{each_walk}

-- ---- what is known behind a part

pub record Threads (env : Environment) (counts : DeclaredBefore) (after : Environment) : Type 0 where
  pub grown : Grown env after
  pub known : Known after
  pub counts_are : known_in after ≡ counts

threads_of : {A : Type 0} (must : Bool) (site : TypingContext) (good : A → Bool) (env : Environment) (counts : DeclaredBefore) (after : Walked A) →
    PartPassed must site good env counts after → Threads env counts after.env
threads_of must site good env counts after passed = record { grown = passed.grown; known = passed.known; counts_are = passed.counts_are }

-- ---- parts beside one another

-- what is made of a part names known variables alone; nothing may be made of it
abbrev PartKept : {A : Type 0} → Roots → (A → Scoped) → Option A → Type 0
PartKept known to (Some a) = (to a).stands known ≡ true
PartKept known to None = ⊤

-- a part that names known variables alone, and what is made of it
record Gone {A : Type 0} (of : Scoped) (to : A → Scoped) (env : Environment) (counts : DeclaredBefore) (after : Walked A) : Type 0 where
  pub threads : Threads env counts after.env
  pub kept : (known : Roots) → of.stands known ≡ true → PartKept known to after.made

part_first : {A : Type 0} (known : Roots) (to : A → Scoped) (made : Option A) (rest : List A) → PartKept known to made →
    every (map to rest) known ≡ true →
    every (map to (cons_option made rest)) known ≡ true
part_first known to (Some a) rest one more = and_from ((to a).stands known) (every (map to rest) known) one more
part_first known to None rest one more = more

record AllGone {A : Type 0} (of : List Scoped) (to : A → Scoped) (env : Environment) (counts : DeclaredBefore) (after : Block A) : Type 0 where
  pub threads : Threads env counts after.env
  pub kept : (known : Roots) → every of known ≡ true → every (map to after.made) known ≡ true

module _ {X A : Type 0} (site : TypingContext) (walk : X → Environment → Walked A) (step : X → DeclaredBefore → Option DeclaredBefore) (of : X →
    Scoped) (to : A → Scoped) where
  abbrev Goes : X → Type 0
  Goes x = (env : Environment) → Around env site → Known env → (counts : DeclaredBefore) → step x (known_in env) ≡ Some counts →
      (walk x env).failures ≡ [] →
      Gone (of x) to env counts (walk x env)

  all_gone : (xs : List X) → All Goes xs → (env : Environment) → Around env site → Known env → (counts : DeclaredBefore) →
      in_turn (map step xs) (known_in env) ≡ Some counts → (in_order (map walk xs) env).failures ≡ [] →
      AllGone (map of xs) to env counts (in_order (map walk xs) env)
  all_gone [] each env around known counts is none = record {
    threads = record { grown = grown_self env; known = known; counts_are = same_Some (known_in env) counts is };
    kept = λ known all. refl;
  }
  all_gone (x ∷ xs) each env around known counts is none =
      let further : Block A = in_order (map walk xs) (walk x env).env in
      let found = some_found (in_turn (map step xs)) (step x (known_in env)) counts is in
      let one = All-head Goes x xs each env around known found.0 found.1 (first_empty (walk x env).failures further.failures none) in
      let more = all_gone xs (All-tail Goes x xs each) (walk x env).env (grown_around env (walk x env).env site one.threads.grown around)
      one.threads.known counts
      (ap (in_turn (map step xs)) one.threads.counts_are ∙ found.2) (second_empty (walk x env).failures further.failures none) in
      record {
        threads = record {
          grown = grown_further env (walk x env).env further.env one.threads.grown more.threads.grown;
          known = more.threads.known;
          counts_are = more.threads.counts_are;
        };
        kept = λ known all. part_first known to (walk x env).made further.made (one.kept known (and_first ((of x).stands known)
            (every (map of xs) known) all))
            (more.kept known (and_second ((of x).stands known) (every (map of xs) known) all));
      }

-- ---- statements one after another

stmt_first : (known : Roots) (of : Scoped) (made : Option Stmt) (rest : List Stmt) → StmtKept known of made →
    scopes.stand_in_turn (map scoped_of rest) (of.declared ++ known) ≡ true →
    scopes.stand_in_turn (map scoped_of (cons_option made rest)) known ≡ true
stmt_first known of (Some s) rest one more =
    and_from ((scoped_of s).stands known) (scopes.stand_in_turn (map scoped_of rest) ((scoped_of s).declared ++ known)) one.stands
    (subst (λ declared. scopes.stand_in_turn (map scoped_of rest) (declared ++ known) ≡ true) (sym one.declared) more)
stmt_first known of None rest one more = subst (λ declared. scopes.stand_in_turn (map scoped_of rest) (declared ++ known) ≡ true) one more

module _ (constants : List NamedConstant) (vars : List NamedVar) (site : TypingContext) where
  abbrev StmtGoes : NamedStmt → Type 0
  StmtGoes s = (env : Environment) → Around env site → Known env →
      (counts : DeclaredBefore) → stmt_step vars constants s (known_in env) ≡ Some counts →
      (walked_stmt constants vars s env).failures ≡ [] → (known : Roots) → (before.scoped_of s).stands known ≡ true →
      StmtKept known (before.scoped_of s) (walked_stmt constants vars s env).made

  abbrev P : NamedStmt → Type 0
  P s = stmt_named constants vars site.earlier s ≡ true → StmtGoes s

  abbrev ArmGoes : NamedArm → Type 0
  ArmGoes = Goes site (arm_walked constants vars) (step_of_arm vars constants) earlier.scoped_of_arm scoped_of_arm

  abbrev Q : NamedArm → Type 0
  Q arm = named_arm constants vars site.earlier arm ≡ true → ArmGoes arm

  abbrev BranchGoes : NamedBranch → Type 0
  BranchGoes = Goes site (branch_walked constants vars) (step_of_branch vars constants) earlier.scoped_of_branch scoped_of_branch

  abbrev R : NamedBranch → Type 0
  R branch = named_branch constants vars site.earlier branch ≡ true → BranchGoes branch

  abbrev walked_body : List NamedStmt → Environment → Block Stmt
  walked_body body env = in_order (map (walked_stmt constants vars) body) env

  abbrev body_named : List NamedStmt → Bool
  body_named body = all_of (map (stmt_named constants vars site.earlier) body)

  abbrev steps : List NamedStmt → PlacedStep
  steps body = in_turn (map (stmt_step vars constants) body)

  -- what is known behind a block, and what is made of it
  record BodyGone (body : List NamedStmt) (env : Environment) (counts : DeclaredBefore) : Type 0 where
    pub threads : Threads env counts (walked_body body env).env
    pub kept : (known : Roots) → scopes.stand_in_turn (map before.scoped_of body) known ≡ true →
        scopes.stand_in_turn (map scoped_of (walked_body body env).made) known ≡ true

  body_gone : (body : List NamedStmt) → All P body → body_named body ≡ true → (env : Environment) → Around env site → Known env →
      (counts : DeclaredBefore) →
      steps body (known_in env) ≡ Some counts → (walked_body body env).failures ≡ [] → BodyGone body env counts
  body_gone [] each named env around known counts is none = record {
    threads = record { grown = grown_self env; known = known; counts_are = same_Some (known_in env) counts is };
    kept = λ known all. refl;
  }
  body_gone (s ∷ rest) each named env around known counts is none =
      let one : Walked Stmt = walked_stmt constants vars s env in
      let further : Block Stmt = walked_body rest one.env in
      let named_s = and_first (stmt_named constants vars site.earlier s) (body_named rest) named in
      let found = some_found (steps rest) (stmt_step vars constants s (known_in env)) counts is in
      let first = first_empty one.failures further.failures none in
      let threads = threads_of false site (fits site) env found.0 one (statement_fits constants vars site s named_s env around known found.0 found.1
      first) in
      let more = body_gone rest (All-tail P s rest each) (and_second (stmt_named constants vars site.earlier s) (body_named rest) named) one.env
      (grown_around env one.env site threads.grown around) threads.known counts (ap (steps rest) threads.counts_are ∙ found.2)
      (second_empty one.failures further.failures none) in
      record {
        threads = record {
          grown = grown_further env one.env further.env threads.grown more.threads.grown;
          known = more.threads.known;
          counts_are = more.threads.counts_are;
        };
        kept = λ vars_known all.
            let of : Scoped = before.scoped_of s in
            stmt_first vars_known of one.made further.made
            (All-head P s rest each named_s env around known found.0 found.1 first vars_known
            (and_first (of.stands vars_known) (scopes.stand_in_turn (map before.scoped_of rest) (of.declared ++ vars_known)) all))
            (more.kept (of.declared ++ vars_known)
            (and_second (of.stands vars_known) (scopes.stand_in_turn (map before.scoped_of rest) (of.declared ++ vars_known)) all));
      }

  -- ---- by the kind of a statement

  abbrev named_layer : Layer → Scoped
  named_layer layer = before.stmt_kind_scoped
      (map-NamedStmtKind NamedStmtKind NamedArm NamedBranch NamedStmt Scoped Scoped Scoped Scoped
      (fold-NamedStmtKind Scoped Scoped Scoped Scoped before.stmt_kind_scoped before.arm_scoped before.branch_scoped before.stmt_layer_scoped)
      earlier.scoped_of_arm earlier.scoped_of_branch before.scoped_of layer)

  named_layer_is : (place : Place) (layer : Layer) → before.scoped_of (stmt place layer) ≡ named_layer layer
  named_layer_is place layer = rw (fold-roll-NamedStmt, fold-roll-NamedStmtKind) refl

  by_kind : (place : Place) (layer : Layer) → (named_by constants vars site layer ≡ true →
      (env : Environment) → Around env site → Known env →
      (counts : DeclaredBefore) → step_by constants vars layer (known_in env) ≡ Some counts →
      (walked_by constants vars layer place env).failures ≡ [] →
      (known : Roots) → (named_layer layer).stands known ≡ true →
      KindKept place known (named_layer layer) (walked_by constants vars layer place env).made) → P (stmt place layer)
  by_kind place layer gives named env around known counts step none vars_known all =
      subst (λ of. StmtKept vars_known of (walked_stmt constants vars (stmt place layer) env).made) (sym (named_layer_is place layer))
      (subst (λ (walk : StatementJudgement Stmt). StmtKept vars_known (named_layer layer) (walk env).made) (sym (walked_is constants vars place layer))
      (in_place place vars_known (named_layer layer) (walked_by constants vars layer place env).made
      (gives (sym (named_is constants vars site place layer) ∙ named) env around known counts
      (ap (λ (step : PlacedStep). step (known_in env)) (sym (step_is constants vars place layer)) ∙ step)
      (ap (λ (walk : StatementJudgement Stmt). (walk env).failures) (sym (walked_is constants vars place layer)) ∙ none) vars_known
      (ap (λ (of : Scoped). of.stands vars_known) (sym (named_layer_is place layer)) ∙ all))))

  -- ---- declarations

  declare_one : (place : Place) (k : ℕ) (known : Roots) (roots : Roots) (value : Option Expr) → Among (names.optional_roots value) roots →
      are_known known roots ≡ true → KindKept place known (declaring k roots) (Some (what.Declare k value))
  declare_one place k known roots value among all =
      kind_kept place (what.Declare k value) (StmtKind-F.Declare k value) known (declaring k roots) (what.outs-Declare k value)
      (record { declared = refl; stands = among (is_known known) all })

  declared_value : (place : Place) (k : ℕ) (known : Roots) (size : Roots) (value : Option Expr) (it : Expr) → value ≡ Some it →
      Among (names.roots_in it) size → are_known known size ≡ true →
      KindKept place known (declaring k size) (option_map (λ e. what.Declare k (Some e)) value)
  declared_value place k known size value it is among all =
      subst (λ value. KindKept place known (declaring k size) (option_map (λ e. what.Declare k (Some e)) value)) (sym is)
      (declare_one place k known size (Some it) among all)

  in_of : (value : Option Expr) (it : Expr) (e : NamedExpr) → value ≡ Some it → ExprIn (named_size e) value →
      Among (names.roots_in it) (written.roots_in e)
  in_of value it e is most = roots_of (subst (ExprIn (named_size e)) is most)
    where
      roots_of : ExprIn (named_size e) (Some it) → Among (names.roots_in it) (written.roots_in e)
      roots_of most = most.roots

  declare_kept : (place : Place) (k : ℕ) (var : Option NamedVar) (e : Option NamedExpr) →
      (holds_of (λ var. declared_by var e) var && holds_if (calls_functions site.earlier) e) ≡ true →
      (env : Environment) → Around env site → Known env → (counts : DeclaredBefore) →
      (if nat_eq k (length env.vars) && (holds_of (var_placed (known_in env)) var && holds_if (expr_placed (known_in env)) e) then Some
      (with_variable (known_in env)) else None) ≡ Some counts →
      (declare k var e env).failures ≡ [] → (known : Roots) → are_known known (written.optional_roots e) ≡ true →
      KindKept place known (declaring k (written.optional_roots e)) (declare k var e env).made
  declare_kept place k None e named env around known counts step none vars_known all = absurd (cc)
  declare_kept place k (Some var) None named env around known counts step none vars_known all =
      declare_one place k vars_known [] None (among_none []) all
  declare_kept place k (Some var) (Some e) named env around known counts step none vars_known all =
      let holds = where_holds (nat_eq k (length env.vars) && (var_placed (known_in env) var && expr_placed (known_in env) e))
      (Some (with_variable (known_in env))) counts step in
      let placed = and_second (var_placed (known_in env) var) (expr_placed (known_in env) e)
      (and_second (nat_eq k (length env.vars)) (var_placed (known_in env) var && expr_placed (known_in env) e) holds.0) in
      let calls = and_second (is_variable var.role || is_fixed var.role) (calls_functions site.earlier e) named in
      let fit = initial_fits env (site_in env) (within_in env site around known) var.ty e placed (own_calls env site around e calls) none in
      let value : Option Expr = (initial env var.ty e).valued.value in
      declared_value place k vars_known (written.roots_in e) value fit.it fit.is_made
      (in_of value fit.it e fit.is_made (initial_in env var.ty e)) all

  -- ---- statements with blocks

  condition_in : (env : Environment) (e : NamedExpr) → ExprIn (named_size e) (condition env e).made
  condition_in env e = context_in env (Some (scalar OfBool)) e

  -- a condition and a block behind it
  tested_goes : (e : NamedExpr) (body : List NamedStmt) → All P body → body_named body ≡ true →
      (env : Environment) → Around env site → Known env →
      (counts : DeclaredBefore) → tested e (map (stmt_step vars constants) body) (known_in env) ≡ Some counts → (failed : List Failure) →
      (failed ++ ((condition env e).failures ++ (walked_body body env).failures)) ≡ [] → BodyGone body env counts
  tested_goes e body each named env around known counts step failed none =
      let holds = where_holds (expr_placed (known_in env) e) (steps body (known_in env)) counts step in
      body_gone body each named env around known counts holds.1 (second_empty (condition env e).failures (walked_body body env).failures
      (second_empty failed ((condition env e).failures ++ (walked_body body env).failures) none))

  beside_kept : (place : Place) (known : Roots) (make : Expr → StmtKind) (layer : Expr → StmtKind-F StmtKind Arm Branch Stmt)
      (body : List Stmt) →
      ((e : Expr) → out-StmtKind (make e) ≡ layer e) →
      ((e : Expr) → scoped_in (layer e) ≡ block_and_condition (names.roots_in e) (map scoped_of body)) →
      (e : NamedExpr) (parts : List Scoped) (test : Option Expr) → ExprIn (named_size e) test → are_known known (written.roots_in e) ≡ true →
      scopes.stand_in_turn (map scoped_of body) known ≡ true →
      KindKept place known (block_and_condition (written.roots_in e) parts) (option_map make test)
  beside_kept place known make layer body outs scoped e parts test most all stands =
      tested_kept place known (block_and_condition (written.roots_in e) parts) make test (named_size e) refl most
      (λ it among. kind_kept place (make it) (layer it) known (block_and_condition (written.roots_in e) parts) (outs it)
      (subst (Same known (block_and_condition (written.roots_in e) parts)) (sym (scoped it))
      (record {
        declared = refl;
        stands = and_from (are_known known (names.roots_in it)) (scopes.stand_in_turn (map scoped_of body) known)
            (among (is_known known) all) stands;
      })))

  abbrev parts_of : List NamedStmt → List Scoped
  parts_of body = map before.scoped_of body

  guarded_kept : (place : Place) (guard : Guard) (e : NamedExpr) (body : List NamedStmt) → All P body →
      P (stmt place (NamedStmtKind-F.When guard e body))
  guarded_kept place guard e body each = by_kind place (NamedStmtKind-F.When guard e body)
      (λ named env around known counts step none vars_known all.
      let gone = tested_goes e body each (and_second (calls_functions site.earlier e) (body_named body) named) env around known counts step
      (misplaced env.kind place) none in
      let made = (walked_body body env).made in
      beside_kept place vars_known (λ test. what.When guard test made) (λ test. StmtKind-F.When guard test made) made
      (λ test. what.outs-When guard test made) (λ test. refl) e (parts_of body) (condition env e).made (condition_in env e)
      (and_first (are_known vars_known (written.roots_in e)) (scopes.stand_in_turn (parts_of body) vars_known) all)
      (gone.kept vars_known (and_second (are_known vars_known (written.roots_in e)) (scopes.stand_in_turn (parts_of body) vars_known) all)))

  while_kept : (place : Place) (e : NamedExpr) (body : List NamedStmt) → All P body → P (stmt place (NamedStmtKind-F.While e body))
  while_kept place e body each = by_kind place (NamedStmtKind-F.While e body)
      (λ named env around known counts step none vars_known all.
      let gone = tested_goes e body each (and_second (calls_functions site.earlier e) (body_named body) named) env around known counts step [] none in
      let made = (walked_body body env).made in
      beside_kept place vars_known (λ test. what.While test made) (λ test. StmtKind-F.While test made) made
      (λ test. what.outs-While test made) (λ test. refl) e (parts_of body) (condition env e).made (condition_in env e)
      (and_first (are_known vars_known (written.roots_in e)) (scopes.stand_in_turn (parts_of body) vars_known) all)
      (gone.kept vars_known (and_second (are_known vars_known (written.roots_in e)) (scopes.stand_in_turn (parts_of body) vars_known) all)))

  until_kept : (place : Place) (body : List NamedStmt) (e : NamedExpr) → All P body → P (stmt place (NamedStmtKind-F.Until body e))
  until_kept place body e each = by_kind place (NamedStmtKind-F.Until body e)
      (λ named env around known counts step none vars_known all.
      let block : Block Stmt = walked_body body env in
      let holds = where_holds (expr_placed (known_in env) e) (steps body (known_in env)) counts step in
      let gone = body_gone body each (and_first (body_named body) (calls_functions site.earlier e) named) env around known counts holds.1
      (first_empty block.failures (condition block.env e).failures none) in
      beside_kept place vars_known (λ test. what.Until block.made test) (λ test. StmtKind-F.Until block.made test) block.made
      (λ test. what.outs-Until block.made test) (λ test. refl) e (parts_of body) (condition block.env e).made (condition_in block.env e)
      (and_first (are_known vars_known (written.roots_in e)) (scopes.stand_in_turn (parts_of body) vars_known) all)
      (gone.kept vars_known (and_second (are_known vars_known (written.roots_in e)) (scopes.stand_in_turn (parts_of body) vars_known) all)))

  repeat_kept : (place : Place) (body : List NamedStmt) → All P body → P (stmt place (NamedStmtKind-F.Repeat body))
  repeat_kept place body each = by_kind place (NamedStmtKind-F.Repeat body)
      (λ named env around known counts step none vars_known all.
      let gone = body_gone body each named env around known counts step none in
      let made = (walked_body body env).made in
      kind_kept place (what.Repeat made) (StmtKind-F.Repeat made) vars_known (scoped_block (parts_of body)) (what.outs-Repeat made)
      (record { declared = refl; stands = gone.kept vars_known all }))

  if_kept : (place : Place) (arms : List NamedArm) (other : List NamedStmt) → All Q arms → All P other →
      P (stmt place (NamedStmtKind-F.If arms other))
  if_kept place arms other each rest = by_kind place (NamedStmtKind-F.If arms other)
      (λ named env around known counts step none vars_known all.
      let arms_named = all_of (map (named_arm constants vars site.earlier) arms) in
      let parts = and_second (is_inhabited (map (named_arm constants vars site.earlier) arms)) (arms_named && body_named other) named in
      let tests : Block Arm = in_order (map (arm_walked constants vars) arms) env in
      let last : Block Stmt = walked_body other tests.env in
      let found = some_found (steps other) (in_turn (map (step_of_arm vars constants) arms) (known_in env)) counts step in
      let first = all_gone site (arm_walked constants vars) (step_of_arm vars constants) earlier.scoped_of_arm scoped_of_arm arms
      (each_walk (named_arm constants vars site.earlier) ArmGoes arms each (and_first arms_named (body_named other) parts))
      env around known found.0 found.1 (first_empty tests.failures last.failures none) in
      let second = body_gone other rest (and_second arms_named (body_named other) parts) tests.env
      (grown_around env tests.env site first.threads.grown around) first.threads.known counts (ap (steps other) first.threads.counts_are ∙ found.2)
      (second_empty tests.failures last.failures none) in
      let arms_all = every (map earlier.scoped_of_arm arms) vars_known in
      let other_all = scopes.stand_in_turn (parts_of other) vars_known in
      kind_kept place (what.If tests.made last.made) (StmtKind-F.If tests.made last.made) vars_known
      (scoped_arms (map earlier.scoped_of_arm arms) (parts_of other)) (what.outs-If tests.made last.made)
      (record {
        declared = refl;
        stands = and_from (every (map scoped_of_arm tests.made) vars_known) (scopes.stand_in_turn (map scoped_of last.made) vars_known)
            (first.kept vars_known (and_first arms_all other_all all)) (second.kept vars_known (and_second arms_all other_all all));
      }))

  cobegin_kept : (place : Place) (branches : List NamedBranch) → All R branches → P (stmt place (NamedStmtKind-F.Cobegin branches))
  cobegin_kept place branches each = by_kind place (NamedStmtKind-F.Cobegin branches)
      (λ named env around known counts step none vars_known all.
      let block : Block Branch = in_order (map (branch_walked constants vars) branches) env in
      let gone = all_gone site (branch_walked constants vars) (step_of_branch vars constants) earlier.scoped_of_branch scoped_of_branch branches
      (each_walk (named_branch constants vars site.earlier) BranchGoes branches each
      (and_second (is_inhabited (map (named_branch constants vars site.earlier) branches))
      (all_of (map (named_branch constants vars site.earlier) branches))
      named)) env around known counts step (second_empty (misplaced env.kind place) block.failures none) in
      kind_kept place (what.Cobegin block.made) (StmtKind-F.Cobegin block.made) vars_known (branches_of (map earlier.scoped_of_branch branches))
      (what.outs-Cobegin block.made) (record { declared = refl; stands = gone.kept vars_known all }))

  -- ---- arms and branches

  arm_made : (known : Roots) (e : NamedExpr) (body : List Stmt) (test : Option Expr) → ExprIn (named_size e) test →
      are_known known (written.roots_in e) ≡ true →
      scopes.stand_in_turn (map scoped_of body) known ≡ true → PartKept known scoped_of_arm (option_map (λ e. arm_of e body) test)
  arm_made known e body (Some test) most all stands =
      let is : scoped_of_arm (arm_of test body) ≡ block_and_condition (names.roots_in test) (map scoped_of body) = rw fold-roll-Arm refl in
      ap (λ (scoped : Scoped). scoped.stands known) is
      ∙ and_from (are_known known (names.roots_in test)) (scopes.stand_in_turn (map scoped_of body) known) (most.roots (is_known known) all) stands
  arm_made known e body None most all stands = tt

  arm_case : (test : NamedExpr) (body : List NamedStmt) → All P body → Q (roll-NamedArm (record { test = test; body = body }))
  arm_case test body each named env around known counts step none =
      let arm : NamedArm = roll-NamedArm (record { test = test; body = body }) in
      let named_as : named_arm constants vars site.earlier arm ≡ (calls_functions site.earlier test && body_named body) =
      rw fold-roll-NamedArm refl in
      let walked_as : arm_walked constants vars arm ≡ walked_arm (record { test = test; body = map (walked_stmt constants vars) body }) =
      rw fold-roll-NamedArm refl in
      let step_as : step_of_arm vars constants arm ≡ tested test (map (stmt_step vars constants) body) = rw fold-roll-NamedArm refl in
      let scoped_as : earlier.scoped_of_arm arm ≡ block_and_condition (written.roots_in test) (parts_of body) = rw fold-roll-NamedArm refl in
      let gone = tested_goes test body each (and_second (calls_functions site.earlier test) (body_named body) (sym named_as
      ∙ named)) env around known counts
      (ap (λ (step : PlacedStep). step (known_in env)) (sym step_as) ∙ step) []
      (ap (λ (walk : StatementJudgement Arm). (walk env).failures) (sym walked_as) ∙ none) in
      let made : Walked Arm = walked_arm (record { test = test; body = map (walked_stmt constants vars) body }) env in
      let here : Gone (block_and_condition (written.roots_in test) (parts_of body)) scoped_of_arm env counts made = record {
        threads = gone.threads;
        kept = λ vars_known all. arm_made vars_known test (walked_body body env).made (condition env test).made (condition_in env test)
            (and_first (are_known vars_known (written.roots_in test)) (scopes.stand_in_turn (parts_of body) vars_known) all)
            (gone.kept vars_known (and_second (are_known vars_known (written.roots_in test)) (scopes.stand_in_turn (parts_of body) vars_known) all));
      } in
      subst (λ of. Gone of scoped_of_arm env counts (arm_walked constants vars arm env)) (sym scoped_as)
      (subst (λ (walk : StatementJudgement Arm). Gone (block_and_condition (written.roots_in test) (parts_of body)) scoped_of_arm env counts (walk env)) (sym walked_as) here)

  branch_case : (weak : Bool) (body : List NamedStmt) → All P body → R (roll-NamedBranch (record { weak = weak; body = body }))
  branch_case weak body each named env around known counts step none =
      let branch : NamedBranch = roll-NamedBranch (record { weak = weak; body = body }) in
      let named_as : named_branch constants vars site.earlier branch ≡ body_named body = rw fold-roll-NamedBranch refl in
      let walked_as : branch_walked constants vars branch ≡ walked_branch (record { weak = weak; body = map (walked_stmt constants vars) body }) =
      rw fold-roll-NamedBranch refl in
      let step_as : step_of_branch vars constants branch ≡ steps body = rw fold-roll-NamedBranch refl in
      let scoped_as : earlier.scoped_of_branch branch ≡ scoped_block (parts_of body) = rw fold-roll-NamedBranch refl in
      let gone = body_gone body each (sym named_as ∙ named) env around known counts (ap (λ (step : PlacedStep). step (known_in env)) (sym step_as)
      ∙ step)
      (ap (λ (walk : StatementJudgement Branch). (walk env).failures) (sym walked_as) ∙ none) in
      let stmts : Block Stmt = walked_body body env in
      let made_as : scoped_of_branch (roll-Branch (record { weak = weak; body = stmts.made })) ≡ scoped_block (map scoped_of stmts.made) =
      rw fold-roll-Branch refl in
      let made : Walked Branch = walked_branch (record { weak = weak; body = map (walked_stmt constants vars) body }) env in
      let here : Gone (scoped_block (parts_of body)) scoped_of_branch env counts made = record {
        threads = gone.threads;
        kept = λ vars_known all. ap (λ (scoped : Scoped). scoped.stands vars_known) made_as ∙ gone.kept vars_known all;
      } in
      subst (λ of. Gone of scoped_of_branch env counts (branch_walked constants vars branch env)) (sym scoped_as)
      (subst (λ (walk : StatementJudgement Branch). Gone (scoped_block (parts_of body)) scoped_of_branch env counts (walk env)) (sym walked_as) here)

  cases : Cases P Q R
  cases = record {
    declare = λ place k value. by_kind place (NamedStmtKind-F.Declare k value) (declare_kept place k (slice_get vars k) value);
    constant = λ place k. by_kind place (NamedStmtKind-F.Const k) (λ named env around known counts step none vars_known all. refl);
    assign = λ place target e. by_kind place (NamedStmtKind-F.Assign target e)
        (λ named env around known counts step none vars_known all.
        assign_kept place vars_known (targeted env target).found (in_context (type_found (targeted env target).found) (judged env e)).made
        (target_size target)
        (named_size e) (targeted_in env target) (context_in env (type_found (targeted env target).found) e) all);
    call = λ place name f inputs outputs. by_kind place (NamedStmtKind-F.Call name f inputs outputs)
        (λ named env around known counts step none vars_known all.
        call_kept place vars_known f (arguments env name f inputs outputs) (written.argument_roots inputs outputs)
        (arguments_among env name f inputs outputs) all);
    await = λ place e. by_kind place (NamedStmtKind-F.Await e)
        (λ named env around known counts step none vars_known all.
        await_kept place vars_known (condition env e).made (named_size e) (condition_in env e) all);
    run = λ place target name f inputs outputs. by_kind place (NamedStmtKind-F.Run target name f inputs outputs)
        (λ named env around known counts step none vars_known all.
        run_kept place vars_known f (run_target env (slice_get env.units f) target).made (arguments env name f inputs outputs) (taker_size target)
        (written.argument_roots inputs outputs) (run_target_in env (slice_get env.units f) target) (arguments_among env name f inputs outputs) all);
    branching = if_kept;
    cobegin = cobegin_kept;
    guarded = guarded_kept;
    repeat = repeat_kept;
    until = until_kept;
    while = while_kept;
    returns = λ place e. by_kind place (NamedStmtKind-F.Return e)
        (λ named env around known counts step none vars_known all. return_kept place vars_known place e env.result env all);
    arm = arm_case;
    branch = branch_case;
  }

  -- what is made of the statements of a block, where nothing fails in it
  pub block_kept : (body : List NamedStmt) → list_all (stmt_named constants vars site.earlier) body ≡ true →
      (env : Environment) → Around env site →
      Known env → (counts : DeclaredBefore) → in_turn (map (stmt_step vars constants) body) (known_in env) ≡ Some counts →
      (walked_block constants vars body env).failures ≡ [] → (known : Roots) → scopes.stand_in_turn (map before.scoped_of body) known ≡ true →
      scopes.stand_in_turn (map scoped_of (walked_block constants vars body env).made) known ≡ true
  block_kept body named env around known counts step none =
      (body_gone body (λ k d within. induct P Q R cases _) (all_of_each (stmt_named constants vars site.earlier) body named) env around known counts
      step
      none).kept
