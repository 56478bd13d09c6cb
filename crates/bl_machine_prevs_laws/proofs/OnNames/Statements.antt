-- What a statement names is declared before it, where every use fits: a name is bound in the scopes that are open, and these have what
-- is declared before in the same block or in one around it.
use Rattle.std.proofs.Common.{◌≡◌, ℕ, Bool, true, List, [], ◌∷◌, ◌++◌, map, refl, sym, ap, subst, ◌∙◌}
use Rattle.std.specs.Prelude.{All, Option, Some, nat_eq, option_map}
use Rattle.std.proofs.lemmas.Bool.{eq-eqb}
use Rattle.std.proofs.lemmas.List.Elements.{All-head, All-tail}
use Rattle.std.proofs.lemmas.Bool.{and_from, or_left, or_right}
use Rattle.bl_tree.proofs.Basics.{all_append}
use Rattle.bl_tree.specs.declared.place.Place.{Place}
use Rattle.bl_tree.specs.Apart.{Roots}
use Rattle.bl_names_tree.specs.declared.expr.NamedExpr.{NamedExpr}
use Rattle.bl_names_tree.specs.declared.stmt.NamedArm.{NamedArm, fold-roll-NamedArm, roll-NamedArm}
use Rattle.bl_names_tree.specs.declared.stmt.NamedBranch.{NamedBranch, fold-roll-NamedBranch, roll-NamedBranch}
use Rattle.bl_names_tree.specs.declared.stmt.NamedStmt.{NamedStmt, fold-roll-NamedStmt, roll-NamedStmt}
use Rattle.bl_names_tree.specs.declared.stmt.NamedStmtKind.{NamedStmtKind, fold-NamedStmtKind, fold_out-NamedStmtKind, map-NamedStmtKind}
use Rattle.bl_names_tree.specs.declared.stmt.NamedStmtKind.{out-NamedStmtKind}
use Rattle.bl_names_tree.specs.declared.stmt.NamedStmtKind.TheOpen.{NamedStmtKind-F}
use Rattle.bl_names_tree.specs.declared.stmt.NamedStmtKind.TheVariants as what
use Rattle.bl_parse_tree.specs.declared.expr.RawExpr.{RawExpr}
use Rattle.bl_parse_tree.specs.declared.name.Name.{Name}
use Rattle.bl_parse_tree.specs.declared.stmt.RawArm.{RawArm}
use Rattle.bl_parse_tree.specs.declared.stmt.RawBranch.{RawBranch}
use Rattle.bl_parse_tree.specs.declared.stmt.RawConstant.{RawConstant}
use Rattle.bl_parse_tree.specs.declared.stmt.RawStmt.{RawStmt}
use Rattle.bl_parse_tree.specs.declared.stmt.RawStmtKind.{RawStmtKind}
use Rattle.bl_parse_tree.specs.declared.stmt.RawStmtKind.TheOpen.{RawStmtKind-F}
use Rattle.bl_parse_tree.specs.declared.types.RawType.{RawType}
use Rattle.bl_names_scopes.specs.declared.kind.Kind.TheVariants as kind
use Rattle.bl_names_scopes.specs.declared.kind.Wanted.TheVariants as wanted
use Rattle.bl_names_scopes.specs.Marks.{Marks, argument_marks, closes, constant_marks, declares, expr_marks, in_scope, optional, path_marks, target_marks}
use Rattle.bl_names_scopes.specs.Marks.{type_marks, uses}
use Rattle.bl_names_scopes.specs.Scopes.{Scopes, after, scopes_outside}
use Rattle.bl_names.specs.Named.{Piece, kind_piece, made_of_all, marks_of_all, opened, piece_of_arm, piece_of_branch, stmt_piece}
use Rattle.bl_names.specs.Naming.{named_expr, named_path, named_target, position}
use Rattle.bl_names.proofs.FitLemmas.{Fits, fits_behind, fits_first, fits_second}
use Rattle.bl_names.proofs.PastLemmas.{enter-behind}
use Rattle.bl_names.proofs.PieceLemmas.{arm_is, branch_is, parts, stmt_is}
use Rattle.bl_names.proofs.PlacedExpr.{variable_read}
use Rattle.bl_names.proofs.RawStmtInduction.{Cases, induct, stmt}
use Rattle.bl_names.proofs.StillLemmas.{Still, after-append, still_append, still_arguments, still_expr, still_optional, still_target, still_type, still_use}
use Rattle.bl_names.proofs.StillLemmas.{still_value}
use Rattle.bl_names_laws.specs.Apart.{optional_roots, roots_in}
use Rattle.bl_machine_prevs_laws.specs.Names.Declared.{arm_scoped, branch_scoped, scoped_of, stmt_kind_scoped, stmt_layer_scoped}
use Rattle.bl_machine_prevs_laws.specs.Names.inner.Declared.{scoped_of_arm, scoped_of_branch}
use Rattle.bl_machine_prevs_laws.specs.Names.Scoped.{Scoped, are_known, block_and_condition, declaring, every, is_known, naming, scoped_arms, scoped_block}
use Rattle.bl_machine_prevs_laws.specs.Names.Scoped.{scoped_branches as branches_of, stand_in_turn}
use Rattle.bl_machine_prevs_laws.proofs.OnNames.ExprRoots.{arguments_only, expr_only, optional_only, taker_only, target_only}
use Rattle.bl_machine_prevs_laws.proofs.OnNames.Only.{Only, OuterOnly, ScopeOnly, declare_only, only_weaker}
use Rattle.bl_types_laws.proofs.StmtLayers.{Layer}

abbrev RawLayer : Type 0
RawLayer = RawStmtKind-F RawStmtKind RawArm RawBranch RawStmt

-- behind a part in scopes of its own those around it are as they were, and it names known variables alone
record Own (known : Roots) (scopes new : Scopes) (made : Scoped) : Type 0 where
  pub inner : new.inner ≡ scopes.inner
  pub outer : new.outer ≡ scopes.outer
  pub stands : made.stands known ≡ true

-- behind a part in a block, what it declares is known too
record Turn (known : Roots) (scopes new : Scopes) (made : Scoped) : Type 0 where
  pub outer : new.outer ≡ scopes.outer
  pub only : Only (is_known (made.declared ++ known)) new
  pub stands : made.stands known ≡ true

-- the same of parts one after another
pub record Turns (known : Roots) (scopes new : Scopes) (made : List Scoped) : Type 0 where
  pub outer : new.outer ≡ scopes.outer
  pub stands : stand_in_turn made known ≡ true

abbrev GoodOwn : {A : Type 0} → (A → Scoped) → Piece A → Type 0
GoodOwn of piece = (known : Roots) (scopes : Scopes) → Only (is_known known) scopes → Fits scopes piece.marks →
    Own known scopes (after scopes piece.marks) (of (piece.made scopes))

abbrev Good : {A : Type 0} → (A → Scoped) → Piece A → Type 0
Good of piece = (known : Roots) (scopes : Scopes) → Only (is_known known) scopes → Fits scopes piece.marks →
    Turn known scopes (after scopes piece.marks) (of (piece.made scopes))

abbrev StmtGood : RawStmt → Type 0
StmtGood s = Good scoped_of (stmt_piece s)

abbrev ArmGood : RawArm → Type 0
ArmGood arm = GoodOwn scoped_of_arm (piece_of_arm arm)

abbrev BranchGood : RawBranch → Type 0
BranchGood branch = GoodOwn scoped_of_branch (piece_of_branch branch)

abbrev marks_in : List RawStmt → Marks
marks_in body = marks_of_all (map stmt_piece body)

abbrev body_of : List RawStmt → Scopes → List Scoped
body_of body scopes = map scoped_of (made_of_all (map stmt_piece body) scopes)

-- ---- in a scope of its own

only_still : (test : ℕ → Bool) (scopes new : Scopes) → new.inner ≡ scopes.inner → new.outer ≡ scopes.outer → Only test scopes →
    Only test new
only_still test scopes new inner outer only = (subst (ScopeOnly test) (sym inner) only.0, subst (OuterOnly test) (sym outer) only.1)

-- what declares nothing, in a block
own_turn : (known : Roots) (scopes new : Scopes) (made : Scoped) → made.declared ≡ [] → Only (is_known known) scopes →
    Own known scopes new made → Turn known scopes new made
own_turn known scopes new made none only own = record {
  outer = own.outer;
  only = subst (λ (ks : Roots). Only (is_known (ks ++ known)) new) (sym none)
      (only_still (is_known known) scopes new own.inner own.outer only);
  stands = own.stands;
}

-- a part that only uses names
still_own : (known : Roots) (scopes : Scopes) (marks : Marks) (roots : Roots) → Still marks → are_known known roots ≡ true →
    Own known scopes (after scopes marks) (naming roots)
still_own known scopes marks roots still named = record {
  inner = ap (λ (s : Scopes). s.inner) (still scopes);
  outer = ap (λ (s : Scopes). s.outer) (still scopes);
  stands = named;
}

-- statements one after another
turns : (body : List RawStmt) → All StmtGood body → (known : Roots) (scopes : Scopes) → Only (is_known known) scopes →
    Fits scopes (marks_in body) →
    Turns known scopes (after scopes (marks_in body)) (body_of body scopes)
turns [] each known scopes only fits = record { outer = refl; stands = refl }
turns (s ∷ body) each known scopes only fits =
    let marks = (stmt_piece s).marks in
    let rest = marks_in body in
    let middle = after scopes marks in
    let one = scoped_of ((stmt_piece s).made scopes) in
    let first = All-head StmtGood s body each known scopes only (fits_first scopes marks rest fits) in
    let second = turns body (All-tail StmtGood s body each) (one.declared ++ known) middle first.only (fits_second scopes marks rest fits) in
    record {
      outer = ap (λ (s : Scopes). s.outer) (after-append scopes marks rest) ∙ second.outer ∙ first.outer;
      stands = and_from (one.stands known) (stand_in_turn (body_of body middle) (one.declared ++ known)) first.stands second.stands;
    }

-- a block
own_body : (body : List RawStmt) → All StmtGood body → (known : Roots) (scopes : Scopes) → Only (is_known known) scopes →
    Fits scopes (in_scope (marks_in body)) →
    Own known scopes (after scopes (in_scope (marks_in body))) (scoped_block (body_of body (opened scopes)))
own_body body each known scopes only fits =
    let marks = marks_in body in
    let behind = after (opened scopes) marks in
    let inside = turns body each known (opened scopes) (tt, only) (fits_first (opened scopes) marks (closes ∷ []) fits.1) in
    let closed : after scopes (in_scope marks) ≡ scopes_outside (scopes.inner ∷ scopes.outer) behind.counts =
    after-append (opened scopes) marks (closes ∷ []) ∙ ap (λ outer. scopes_outside outer behind.counts) inside.outer in
    record {
      inner = ap (λ (s : Scopes). s.inner) closed;
      outer = ap (λ (s : Scopes). s.outer) closed;
      stands = inside.stands;
    }

-- a block behind a condition
own_tested : (e : RawExpr) (body : List RawStmt) → All StmtGood body → (known : Roots) (scopes : Scopes) → Only (is_known known) scopes →
    Fits scopes (expr_marks e ++ in_scope (marks_in body)) →
    Own known scopes (after scopes (expr_marks e ++ in_scope (marks_in body)))
    (block_and_condition (roots_in (named_expr scopes e)) (body_of body (opened (after scopes (expr_marks e)))))
own_tested e body each known scopes only fits =
    let marks = in_scope (marks_in body) in
    let still = still_expr e scopes in
    let roots = roots_in (named_expr scopes e) in
    let inside = own_body body each known scopes only (fits_behind scopes (expr_marks e) marks (still_expr e) fits) in
    let all : after scopes (expr_marks e ++ marks) ≡ after scopes marks = after-append scopes (expr_marks e) marks
    ∙ ap (λ s. after s marks) still in
    subst (λ s. Own known scopes (after scopes (expr_marks e ++ marks)) (block_and_condition roots (body_of body (opened s)))) (sym still)
    (record {
      inner = ap (λ (s : Scopes). s.inner) all ∙ inside.inner;
      outer = ap (λ (s : Scopes). s.outer) all ∙ inside.outer;
      stands = and_from (are_known known roots) (stand_in_turn (body_of body (opened scopes)) known)
          (expr_only (is_known known) scopes scopes.counts only e (fits_first scopes (expr_marks e) marks fits)) inside.stands;
    })

-- a block before a condition, which sees what is around it
own_until : (e : RawExpr) (body : List RawStmt) → All StmtGood body → (known : Roots) (scopes : Scopes) → Only (is_known known) scopes →
    Fits scopes (in_scope (marks_in body) ++ expr_marks e) →
    Own known scopes (after scopes (in_scope (marks_in body) ++ expr_marks e)) (block_and_condition (roots_in (named_expr scopes e)) (body_of body
    (opened scopes)))
own_until e body each known scopes only fits =
    let marks = in_scope (marks_in body) in
    let behind = after scopes marks in
    let roots = roots_in (named_expr scopes e) in
    let inside = own_body body each known scopes only (fits_first scopes marks (expr_marks e) fits) in
    let same : behind ≡ record scopes { counts = behind.counts } = λ i. record {
      inner = inside.inner i;
      outer = inside.outer i;
      counts =
          behind.counts;
    } in
    let fits_e : Fits (record scopes { counts = behind.counts }) (expr_marks e) =
    subst (λ s. Fits s (expr_marks e)) same (fits_second scopes marks (expr_marks e) fits) in
    let all : after scopes (marks ++ expr_marks e) ≡ behind = after-append scopes marks (expr_marks e) ∙ still_expr e behind in
    record {
      inner = ap (λ (s : Scopes). s.inner) all ∙ inside.inner;
      outer = ap (λ (s : Scopes). s.outer) all ∙ inside.outer;
      stands = and_from (are_known known roots) (stand_in_turn (body_of body (opened scopes)) known)
          (expr_only (is_known known) scopes behind.counts only e fits_e) inside.stands;
    }

-- parts each in scopes of their own
own_each : {X A : Type 0} (of : A → Scoped) (piece : X → Piece A) (xs : List X) → All (λ x. GoodOwn of (piece x)) xs →
    (known : Roots) (scopes : Scopes) →
    Only (is_known known) scopes → Fits scopes (marks_of_all (map piece xs)) →
    Own known scopes (after scopes (marks_of_all (map piece xs))) (branches_of (map of (made_of_all (map piece xs) scopes)))
own_each of piece [] each known scopes only fits = record { inner = refl; outer = refl; stands = refl }
own_each of piece (x ∷ xs) each known scopes only fits =
    let marks = (piece x).marks in
    let rest = marks_of_all (map piece xs) in
    let middle = after scopes marks in
    let first = All-head (λ x. GoodOwn of (piece x)) x xs each known scopes only (fits_first scopes marks rest fits) in
    let second = own_each of piece xs (All-tail (λ x. GoodOwn of (piece x)) x xs each) known middle
    (only_still (is_known known) scopes middle first.inner first.outer only) (fits_second scopes marks rest fits) in
    record {
      inner = ap (λ (s : Scopes). s.inner) (after-append scopes marks rest) ∙ second.inner ∙ first.inner;
      outer = ap (λ (s : Scopes). s.outer) (after-append scopes marks rest) ∙ second.outer ∙ first.outer;
      stands = and_from ((of ((piece x).made scopes)).stands known) (every (map of (made_of_all (map piece xs) middle)) known) first.stands second.stands;
    }

own_choice : (arms : List RawArm) (other : List RawStmt) → All ArmGood arms → All StmtGood other → (known : Roots) (scopes : Scopes) →
    Only (is_known known) scopes → Fits scopes (marks_of_all (map piece_of_arm arms) ++ in_scope (marks_in other)) →
    Own known scopes (after scopes (marks_of_all (map piece_of_arm arms) ++ in_scope (marks_in other)))
    (scoped_arms (map scoped_of_arm (made_of_all (map piece_of_arm arms) scopes))
    (body_of other (opened (after scopes (marks_of_all (map piece_of_arm arms))))))
own_choice arms other in_arms in_other known scopes only fits =
    let marks = marks_of_all (map piece_of_arm arms) in
    let rest = in_scope (marks_in other) in
    let middle = after scopes marks in
    let first = own_each scoped_of_arm piece_of_arm arms in_arms known scopes only (fits_first scopes marks rest fits) in
    let second = own_body other in_other known middle (only_still (is_known known) scopes middle first.inner first.outer only)
    (fits_second scopes marks rest fits) in
    record {
      inner = ap (λ (s : Scopes). s.inner) (after-append scopes marks rest) ∙ second.inner ∙ first.inner;
      outer = ap (λ (s : Scopes). s.outer) (after-append scopes marks rest) ∙ second.outer ∙ first.outer;
      stands = and_from (every (map scoped_of_arm (made_of_all (map piece_of_arm arms) scopes)) known) (stand_in_turn (body_of other (opened middle)) known)
          first.stands second.stands;
    }

-- ---- each kind

abbrev scoped_in : Layer → Scoped
scoped_in layer = stmt_kind_scoped
    (map-NamedStmtKind NamedStmtKind NamedArm NamedBranch NamedStmt Scoped Scoped Scoped Scoped
    (fold-NamedStmtKind Scoped Scoped Scoped Scoped stmt_kind_scoped arm_scoped branch_scoped stmt_layer_scoped)
    scoped_of_arm scoped_of_branch scoped_of layer)

scoped_at : (place : Place) (kind : NamedStmtKind) (layer : Layer) → out-NamedStmtKind kind ≡ layer →
    scoped_of (roll-NamedStmt (record { place = place; what = kind })) ≡ scoped_in layer
scoped_at place kind layer is =
    rw fold-roll-NamedStmt (fold_out-NamedStmtKind Scoped Scoped Scoped Scoped stmt_kind_scoped arm_scoped branch_scoped stmt_layer_scoped kind
    ∙ ap scoped_in is)

arm_at : (test : NamedExpr) (body : List NamedStmt) → scoped_of_arm (roll-NamedArm (record { test = test; body = body }))
    ≡ block_and_condition (roots_in test) (map scoped_of body)
arm_at test body = rw fold-roll-NamedArm refl

branch_at : (weak : Bool) (body : List NamedStmt) → scoped_of_branch (roll-NamedBranch (record { weak = weak; body = body }))
    ≡ scoped_block (map scoped_of body)
branch_at weak body = rw fold-roll-NamedBranch refl

-- a statement whose kind becomes this
stmt_good : (place : Place) (layer : RawLayer) (made : Scopes → Layer) →
    ((scopes : Scopes) → out-NamedStmtKind ((kind_piece (parts layer)).made scopes) ≡ made scopes) →
    ((known : Roots) (scopes : Scopes) → Only (is_known known) scopes → Fits scopes (kind_piece (parts layer)).marks →
    Turn known scopes (after scopes (kind_piece (parts layer)).marks) (scoped_in (made scopes))) → StmtGood (stmt place layer)
stmt_good place layer made is gives =
    subst (Good scoped_of) (sym (stmt_is place layer))
    (λ known scopes only fits. subst (Turn known scopes (after scopes (kind_piece (parts layer)).marks))
    (sym (scoped_at place ((kind_piece (parts layer)).made scopes) (made scopes) (is scopes))) (gives known scopes only fits))

-- one that declares nothing
own_good : (place : Place) (layer : RawLayer) (made : Scopes → Layer) →
    ((scopes : Scopes) → out-NamedStmtKind ((kind_piece (parts layer)).made scopes) ≡ made scopes) →
    ((scopes : Scopes) → (scoped_in (made scopes)).declared ≡ []) →
    ((known : Roots) (scopes : Scopes) → Only (is_known known) scopes → Fits scopes (kind_piece (parts layer)).marks →
    Own known scopes (after scopes (kind_piece (parts layer)).marks) (scoped_in (made scopes))) → StmtGood (stmt place layer)
own_good place layer made is none gives = stmt_good place layer made is
    (λ known scopes only fits. own_turn known scopes (after scopes (kind_piece (parts layer)).marks) (scoped_in (made scopes)) (none scopes) only
    (gives known scopes only fits))

declared_turn : (name : Name) (ty : Option RawType) (value : Option RawExpr) (known : Roots) (scopes : Scopes) → Only (is_known known) scopes →
    Fits scopes ((optional type_marks ty ++ optional expr_marks value) ++ (declares name kind.Variable ∷ [])) →
    Turn known scopes (after scopes ((optional type_marks ty ++ optional expr_marks value) ++ (declares name kind.Variable ∷ [])))
    (declaring scopes.counts.variables (optional_roots (option_map (named_expr scopes) value)))
declared_turn name ty value known scopes only fits =
    let n = scopes.counts.variables in
    let marks = optional type_marks ty ++ optional expr_marks value in
    let roots = optional_roots (option_map (named_expr scopes) value) in
    let fits_value = fits_behind scopes (optional type_marks ty) (optional expr_marks value) (still_optional type_marks ty still_type)
    (fits_first scopes marks (declares name kind.Variable ∷ []) fits) in
    subst (λ new. Turn known scopes new (declaring n roots)) (enter-behind scopes marks name kind.Variable (still_value ty value))
    (record {
      outer = refl;
      only = declare_only (is_known (n ∷ known)) scopes name kind.Variable (λ is. or_left (nat_eq n n) (is_known known n) (eq-eqb n n refl))
          (only_weaker (is_known known) (is_known (n ∷ known)) (λ k. or_right (nat_eq k n) (is_known known k)) scopes only);
      stands = optional_only (is_known known) scopes scopes.counts only value fits_value;
    })

constant_own : (constant : RawConstant) (known : Roots) (scopes : Scopes) → Only (is_known known) scopes →
    Turn known scopes (after scopes (constant_marks constant)) (naming [])
constant_own constant known scopes only =
    subst (λ new. Turn known scopes new (naming [])) (enter-behind scopes (optional type_marks constant.ty ++ expr_marks constant.value)
    constant.name
    kind.Constant (still_value constant.ty (Some constant.value)))
    (record {
      outer = refl;
      only = declare_only (is_known known) scopes constant.name kind.Constant (λ is. absurd (cc)) only;
      stands = refl;
    })

cases : Cases StmtGood ArmGood BranchGood
cases = record {
  var = λ place name ty value. stmt_good place (RawStmtKind-F.Var name ty value)
      (λ scopes. NamedStmtKind-F.Declare scopes.counts.variables (option_map (named_expr scopes) value))
      (λ scopes. what.outs-Declare scopes.counts.variables (option_map (named_expr scopes) value))
      (declared_turn name ty value);
  fixed = λ place name ty value. stmt_good place (RawStmtKind-F.Let name ty value)
      (λ scopes. NamedStmtKind-F.Declare scopes.counts.variables (Some (named_expr scopes value)))
      (λ scopes. what.outs-Declare scopes.counts.variables (Some (named_expr scopes value)))
      (declared_turn name ty (Some value));
  constant = λ place constant. stmt_good place (RawStmtKind-F.Const constant) (λ scopes. NamedStmtKind-F.Const scopes.counts.constants)
      (λ scopes. what.outs-Const scopes.counts.constants)
      (λ known scopes only fits. constant_own constant known scopes only);
  assign = λ place target e. own_good place (RawStmtKind-F.Assign target e)
      (λ scopes. NamedStmtKind-F.Assign (named_target scopes target) (named_expr scopes e))
      (λ scopes. what.outs-Assign (named_target scopes target) (named_expr scopes e)) (λ scopes. refl)
      (λ known scopes only fits.
      let fits_target = fits_first scopes (target_marks target wanted.Variable) (expr_marks e) fits in
      let fits_e = fits_behind scopes (target_marks target wanted.Variable) (expr_marks e) (still_target target wanted.Variable) fits in
      still_own known scopes (target_marks target wanted.Variable ++ expr_marks e) _
      (still_append (target_marks target wanted.Variable) (expr_marks e) (still_target target wanted.Variable) (still_expr e))
      (all_append (is_known known) _ _ (target_only (is_known known) scopes scopes.counts only target wanted.Variable variable_read fits_target)
      (expr_only (is_known known) scopes scopes.counts only e fits_e)));
  call = λ place f inputs outputs. own_good place (RawStmtKind-F.Call f inputs outputs)
      (λ scopes. NamedStmtKind-F.Call f.place (position scopes f) (map (named_expr scopes) inputs) (map (named_path scopes) outputs))
      (λ scopes. what.outs-Call f.place (position scopes f) (map (named_expr scopes) inputs) (map (named_path scopes) outputs)) (λ scopes. refl)
      (λ known scopes only fits. still_own known scopes (uses f wanted.Function ∷ argument_marks inputs outputs) _
      (still_append (uses f wanted.Function ∷ []) (argument_marks inputs outputs) (still_use f wanted.Function) (still_arguments inputs outputs))
      (arguments_only (is_known known) scopes scopes.counts only inputs outputs fits.1));
  await = λ place e. own_good place (RawStmtKind-F.Await e) (λ scopes. NamedStmtKind-F.Await (named_expr scopes e))
      (λ scopes. what.outs-Await (named_expr scopes e)) (λ scopes. refl)
      (λ known scopes only fits. still_own known scopes (expr_marks e) _ (still_expr e) (expr_only (is_known known) scopes scopes.counts only e
      fits));
  run = λ place target a inputs outputs. own_good place (RawStmtKind-F.Run target a inputs outputs)
      (λ scopes. NamedStmtKind-F.Run (option_map (named_path scopes) target) a.place (position scopes a) (map (named_expr scopes) inputs)
      (map (named_path scopes) outputs)) (λ scopes. what.outs-Run (option_map (named_path scopes) target) a.place (position scopes a)
      (map (named_expr scopes) inputs) (map (named_path scopes) outputs)) (λ scopes. refl)
      (λ known scopes only fits.
      let still = still_optional path_marks target (λ path. still_use path.root wanted.Variable) in
      let call = uses a wanted.Activity ∷ argument_marks inputs outputs in
      let fits_target = fits_first scopes (optional path_marks target) call fits in
      let behind = fits_behind scopes (optional path_marks target) call still fits in
      still_own known scopes (optional path_marks target ++ call) _
      (still_append (optional path_marks target) call still
      (still_append (uses a wanted.Activity ∷ []) (argument_marks inputs outputs) (still_use a wanted.Activity) (still_arguments inputs outputs)))
      (all_append (is_known known) _ _ (taker_only (is_known known) scopes scopes.counts only target fits_target)
      (arguments_only (is_known known) scopes scopes.counts only inputs outputs behind.1)));
  branching = λ place arms other in_arms in_other. own_good place (RawStmtKind-F.If arms other)
      (λ scopes. NamedStmtKind-F.If (made_of_all (map piece_of_arm arms) scopes)
      (made_of_all (map stmt_piece other) (opened (after scopes (marks_of_all (map piece_of_arm arms))))))
      (λ scopes. what.outs-If (made_of_all (map piece_of_arm arms) scopes)
      (made_of_all (map stmt_piece other) (opened (after scopes (marks_of_all (map piece_of_arm arms)))))) (λ scopes. refl)
      (own_choice arms other in_arms in_other);
  cobegin = λ place branches in_branches. own_good place (RawStmtKind-F.Cobegin branches)
      (λ scopes. NamedStmtKind-F.Cobegin (made_of_all (map piece_of_branch branches) scopes))
      (λ scopes. what.outs-Cobegin (made_of_all (map piece_of_branch branches) scopes)) (λ scopes. refl)
      (own_each scoped_of_branch piece_of_branch branches in_branches);
  guarded = λ place guard e body each. own_good place (RawStmtKind-F.When guard e body)
      (λ scopes. NamedStmtKind-F.When guard (named_expr scopes e) (made_of_all (map stmt_piece body) (opened (after scopes (expr_marks e)))))
      (λ scopes. what.outs-When guard (named_expr scopes e) (made_of_all (map stmt_piece body) (opened (after scopes (expr_marks e)))))
      (λ scopes. refl)
      (own_tested e body each);
  repeat = λ place body each. own_good place (RawStmtKind-F.Repeat body)
      (λ scopes. NamedStmtKind-F.Repeat (made_of_all (map stmt_piece body) (opened scopes)))
      (λ scopes. what.outs-Repeat (made_of_all (map stmt_piece body) (opened scopes))) (λ scopes. refl)
      (own_body body each);
  until = λ place body e each. own_good place (RawStmtKind-F.Until body e)
      (λ scopes. NamedStmtKind-F.Until (made_of_all (map stmt_piece body) (opened scopes)) (named_expr scopes e))
      (λ scopes. what.outs-Until (made_of_all (map stmt_piece body) (opened scopes)) (named_expr scopes e)) (λ scopes. refl)
      (own_until e body each);
  while = λ place e body each. own_good place (RawStmtKind-F.While e body)
      (λ scopes. NamedStmtKind-F.While (named_expr scopes e) (made_of_all (map stmt_piece body) (opened (after scopes (expr_marks e)))))
      (λ scopes. what.outs-While (named_expr scopes e) (made_of_all (map stmt_piece body) (opened (after scopes (expr_marks e))))) (λ scopes. refl)
      (own_tested e body each);
  returns = λ place e. own_good place (RawStmtKind-F.Return e) (λ scopes. NamedStmtKind-F.Return (option_map (named_expr scopes) e))
      (λ scopes. what.outs-Return (option_map (named_expr scopes) e)) (λ scopes. refl)
      (λ known scopes only fits. still_own known scopes (optional expr_marks e) _ (still_optional expr_marks e still_expr)
      (optional_only (is_known known) scopes scopes.counts only e fits));
  arm = λ test body each. subst (GoodOwn scoped_of_arm) (sym (arm_is test body))
      (λ known scopes only fits. subst (Own known scopes (after scopes (expr_marks test ++ in_scope (marks_in body))))
      (sym (arm_at (named_expr scopes test) (made_of_all (map stmt_piece body) (opened (after scopes (expr_marks test))))))
      (own_tested test body each known scopes only fits));
  branch = λ weak body each. subst (GoodOwn scoped_of_branch) (sym (branch_is weak body))
      (λ known scopes only fits. subst (Own known scopes (after scopes (in_scope (marks_in body))))
      (sym (branch_at weak (made_of_all (map stmt_piece body) (opened scopes)))) (own_body body each known scopes only fits));
}

-- the statements of a body name what is declared before them
pub body_turns : (body : List RawStmt) (known : Roots) (scopes : Scopes) → Only (is_known known) scopes → Fits scopes (marks_in body) →
    Turns known scopes (after scopes (marks_in body)) (body_of body scopes)
body_turns body = turns body (λ k d within. induct StmtGood ArmGood BranchGood cases _)
