-- What is declared in a branch of a `cobegin` is named in no other: a branch begins with the scopes around the `cobegin`, and what
-- it declares is counted from where the branch before it ended.
use Rattle.std.proofs.Common.{◌≡◌, ℕ, ◌+◌, ◌<◌, ◌≤◌, Bool, true, false, ◌||◌, List, [], ◌∷◌, ◌++◌, map, refl, sym, ap, subst, ◌∙◌, arith}
use Rattle.std.specs.Prelude.{All, Option, Some, nat_le, nat_lt, option_map}
use Rattle.std.specs.List.{list_all}
use Rattle.std.proofs.lemmas.Bool.{le-leb, leb-true, lt-ltb, ltb-true}
use Rattle.std.proofs.lemmas.List.Elements.{All-head, All-tail}
use Rattle.std.proofs.lemmas.Bool.{and_from, or_left, or_right}
use Rattle.bl_tree.proofs.Basics.{all_append, and_first, and_second, at_most_itself, at_most_then}
use Rattle.bl_tree.specs.declared.place.Place.{Place}
use Rattle.bl_tree.specs.Apart.{Naming, Roots, all_apart, and_naming, declares as naming_declared, keep_apart, naming, of_branches, together}
use Rattle.bl_names_tree.specs.declared.stmt.NamedStmtKind.{out-NamedStmtKind}
use Rattle.bl_names_tree.specs.declared.stmt.NamedStmtKind.TheOpen.{NamedStmtKind-F}
use Rattle.bl_names_tree.specs.declared.stmt.NamedStmtKind.TheVariants as what
use Rattle.bl_parse_tree.specs.declared.expr.RawExpr.{RawExpr}
use Rattle.bl_parse_tree.specs.declared.name.Name.{Name}
use Rattle.bl_parse_tree.specs.declared.stmt.RawArm.{RawArm}
use Rattle.bl_parse_tree.specs.declared.stmt.RawBranch.{RawBranch}
use Rattle.bl_parse_tree.specs.declared.stmt.RawConstant.{RawConstant}
use Rattle.bl_parse_tree.specs.declared.stmt.RawStmt.{RawStmt}
use Rattle.bl_parse_tree.specs.declared.stmt.RawStmtKind.TheOpen.{RawStmtKind-F}
use Rattle.bl_parse_tree.specs.declared.types.RawType.{RawType}
use Rattle.bl_names_scopes.specs.declared.kind.Kind.TheVariants as kind
use Rattle.bl_names_scopes.specs.declared.kind.Wanted.TheVariants as wanted
use Rattle.bl_names_scopes.specs.Marks.{Marks, argument_marks, closes, constant_marks, declares, expr_marks, in_scope, optional, path_marks, target_marks}
use Rattle.bl_names_scopes.specs.Marks.{type_marks, uses}
use Rattle.bl_names_scopes.specs.Scopes.{Scopes, after}
use Rattle.bl_names.specs.Named.{Piece, all, kind_piece, made_of_all, marks_of_all, opened, own_scope, piece_of_arm, piece_of_branch, stmt_piece, vars_of_all}
use Rattle.bl_names.specs.Naming.{named_expr, named_path, named_target, position}
use Rattle.bl_names.proofs.FitLemmas.{Fits, fits_behind, fits_first, fits_second}
use Rattle.bl_names.proofs.PastLemmas.{enter-behind}
use Rattle.bl_names.proofs.PieceLemmas.{arm_is, branch_is, parts, stmt_is}
use Rattle.bl_names.proofs.PlacedExpr.{variable_read}
use Rattle.bl_names.proofs.RawStmtInduction.{Cases, induct, stmt}
use Rattle.bl_names.proofs.StillLemmas.{Still, after-append, still_append, still_arguments, still_expr, still_optional, still_target, still_type, still_use}
use Rattle.bl_names.proofs.StillLemmas.{still_value}
use Rattle.bl_names_laws.specs.Apart.{arm_naming, branch_naming, naming_of, optional_roots, roots_in, stmt_kind_naming, stmt_layer_naming}
use Rattle.bl_names_laws.specs.inner.Apart.{naming_of_arm, naming_of_branch}
use Rattle.bl_names_laws.proofs.ExprRoots.{arguments_only, expr_only, optional_only, taker_only, target_only}
use Rattle.bl_names_laws.proofs.Foreign.{all_weaker, apart_from_all, begins_at, between, from, outside, pair, together_append}
use Rattle.bl_names_laws.proofs.Made.{NamedLayer, RawLayer, named_arm_at, named_at, named_branch_at, named_parts}
use Rattle.bl_names_laws.proofs.Moves.{PieceMoves, body_moves, own_is}
use Rattle.bl_names_laws.proofs.Only.{Low, Only, below, below_more, declare_only, low_variable, only_weaker}

-- what a part declares and names, from the scopes before it to those behind it, where variables have positions that pass a test
pub record Holds (test : ℕ → Bool) (scopes new : Scopes) (naming : Naming) : Type 0 where
  pub grown : scopes.counts.variables ≤ new.counts.variables
  pub only : Only test new
  pub low : Low new
  pub declared : list_all (between scopes.counts.variables new.counts.variables) naming.declared ≡ true
  pub named : list_all test naming.named ≡ true
  pub named_low : list_all (below new.counts.variables) naming.named ≡ true
  pub apart : naming.apart ≡ true

-- every position from one on passes
abbrev pub UpFrom : (ℕ → Bool) → ℕ → Type 0
UpFrom test n = (k : ℕ) → n ≤ k → test k ≡ true

abbrev pub Good : {A : Type 0} → (A → Naming) → Piece A → Type 0
Good of piece =
    (test : ℕ → Bool) (scopes : Scopes) → UpFrom test scopes.counts.variables → Only test scopes → Low scopes → Fits scopes piece.marks
    → Holds test scopes (after scopes piece.marks) (of (piece.made scopes))

-- ---- numbers

most_next : (n : ℕ) → n ≤ n + 1
most_next n = omega arith

less_next : (n : ℕ) → n < n + 1
less_next n = omega arith

later_up : (test : ℕ → Bool) (m n : ℕ) → m ≤ n → UpFrom test m → UpFrom test n
later_up test m n most up k more = up k (at_most_then m n k most more)

wider : (a m n b k : ℕ) → a ≤ m → n ≤ b → between m n k ≡ true → between a b k ≡ true
wider a m n b k low high is = by_order (leb-true m k (and_first (nat_le m k) (nat_lt k n) is)) (ltb-true k n (and_second (nat_le m k) (nat_lt k n) is))
  where
    by_order : m ≤ k → k < n → between a b k ≡ true
    by_order one two = and_from (nat_le a k) (nat_lt k b) (le-leb a k (omega arith)) (lt-ltb k b (omega arith))

from_earlier : (m n k : ℕ) → m ≤ n → from n k ≡ true → from m k ≡ true
from_earlier m n k most is = by_order (leb-true n k is)
  where
    by_order : n ≤ k → from m k ≡ true
    by_order one = le-leb m k (omega arith)

pub or_weaker : (a b c : Bool) → (b ≡ true → c ≡ true) → (a || b) ≡ true → (a || c) ≡ true
or_weaker true b c weaker is = refl
or_weaker false b c weaker is = weaker is

-- ---- one part and then another

holds_pair : (test : ℕ → Bool) (scopes middle new : Scopes) (one other : Naming) → Holds test scopes middle one → Holds test middle new other
    → Holds test scopes new (pair one other)
holds_pair test scopes middle new one other first second =
    let a = scopes.counts.variables in
    let m = middle.counts.variables in
    let b = new.counts.variables in
    record {
      grown = at_most_then a m b first.grown second.grown;
      only = second.only;
      low = second.low;
      declared = all_append (between a b) one.declared other.declared
          (all_weaker (between a m) (between a b) (λ k. wider a a m b k (at_most_itself a) second.grown) one.declared first.declared)
          (all_weaker (between m b) (between a b) (λ k. wider a m b b k first.grown (at_most_itself b)) other.declared second.declared);
      named = all_append test one.named other.named first.named second.named;
      named_low =
          all_append (below b) one.named other.named (all_weaker (below m) (below b) (λ k. below_more m b k second.grown) one.named first.named_low)
          second.named_low;
      apart = and_from one.apart other.apart first.apart second.apart;
    }

holds_none : (test : ℕ → Bool) (scopes : Scopes) → Only test scopes → Low scopes → (roots : Roots) → list_all test roots ≡ true
    → list_all (below scopes.counts.variables) roots ≡ true → Holds test scopes scopes (naming roots)
holds_none test scopes only low roots named named_low = record {
  grown = at_most_itself scopes.counts.variables;
  only = only;
  low = low;
  declared = refl;
  named = named;
  named_low = named_low;
  apart = refl;
}

-- a part that declares nothing
holds_plain : (test : ℕ → Bool) (scopes : Scopes) (marks : Marks) (roots : Roots) → Still marks → Only test scopes → Low scopes →
    list_all test roots ≡ true
    → list_all (below scopes.counts.variables) roots ≡ true →
    Holds test scopes (after scopes marks) (naming roots)
holds_plain test scopes marks roots still only low named named_low =
    subst (λ new. Holds test scopes new (naming roots)) (sym (still scopes)) (holds_none test scopes only low roots named named_low)

-- a condition beside a body
holds_beside : (test : ℕ → Bool) (scopes new : Scopes) (roots : Roots) (namings : List Naming) → list_all test roots ≡ true
    → list_all (below scopes.counts.variables) roots ≡ true →
    Holds test scopes new (together namings) → Holds test scopes new (and_naming roots namings)
holds_beside test scopes new roots namings named low inside = record {
  grown = inside.grown;
  only = inside.only;
  low = inside.low;
  declared = inside.declared;
  named = all_append test roots (together namings).named named inside.named;
  named_low = all_append (below new.counts.variables) roots (together namings).named
      (all_weaker (below scopes.counts.variables) (below new.counts.variables) (λ k. below_more scopes.counts.variables new.counts.variables k inside.grown)
      roots low) inside.named_low;
  apart = inside.apart;
}

abbrev pub all_of_them : {A : Type 0} → (A → Naming) → List A → Naming
all_of_them of made = together (map of made)

pub good_all : {X A : Type 0} (of : A → Naming) (piece : X → Piece A) (xs : List X) → All (λ x. Good of (piece x)) xs
    → Good (all_of_them of) (all (map piece xs))
good_all of piece [] each test scopes up only low fits = holds_none test scopes only low [] refl refl
good_all of piece (x ∷ xs) each test scopes up only low fits =
    let marks = marks_of_all (map piece xs) in
    let middle = after scopes (piece x).marks in
    let first = All-head (λ x. Good of (piece x)) x xs each test scopes up only low (fits_first scopes (piece x).marks marks fits) in
    subst (λ new. Holds test scopes new (together (map of (made_of_all (map piece (x ∷ xs)) scopes)))) (sym (after-append scopes (piece x).marks marks))
    (holds_pair test scopes middle (after middle marks) (of ((piece x).made scopes)) (together (map of (made_of_all (map piece xs) middle))) first
    (good_all of piece xs (All-tail (λ x. Good of (piece x)) x xs each) test middle
    (later_up test scopes.counts.variables middle.counts.variables first.grown up) first.only first.low (fits_second scopes (piece x).marks marks fits)))

-- in a scope of its own
good_own : {A : Type 0} (of : A → Naming) (piece : Piece A) → PieceMoves piece → Good of piece → Good of (own_scope piece)
good_own of piece moves good test scopes up only low fits =
    let inside = good test (opened scopes) up (tt, only) (tt, low) (fits_first (opened scopes) piece.marks (closes ∷ []) fits.1) in
    let behind = after (opened scopes) piece.marks in
    subst (λ new. Holds test scopes new (of (piece.made (opened scopes)))) (sym (own_is piece.marks piece.vars moves scopes))
    (record {
      grown = inside.grown;
      only = only;
      low = only_weaker (below scopes.counts.variables) (below behind.counts.variables)
          (λ k. below_more scopes.counts.variables behind.counts.variables k inside.grown) scopes low;
      declared = inside.declared;
      named = inside.named;
      named_low = inside.named_low;
      apart = inside.apart;
    })

abbrev pub StmtGood : RawStmt → Type 0
StmtGood s = Good naming_of (stmt_piece s)

abbrev ArmGood : RawArm → Type 0
ArmGood arm = Good naming_of_arm (piece_of_arm arm)

-- the scopes around a branch stay as they are
abbrev Around : RawBranch → Type 0
Around branch = (test : ℕ → Bool) (scopes : Scopes) → Only test scopes → Only test (after scopes (piece_of_branch branch).marks)

abbrev BranchGood : RawBranch → Type 0
BranchGood branch = Good naming_of_branch (piece_of_branch branch) × Around branch

abbrev body_of : List RawStmt → Scopes → List Naming
body_of body scopes = map naming_of (made_of_all (map stmt_piece body) scopes)

abbrev marks_in : List RawStmt → Marks
marks_in body = marks_of_all (map stmt_piece body)

good_body : (body : List RawStmt) → All StmtGood body → Good (all_of_them naming_of) (own_scope (all (map stmt_piece body)))
good_body body each = good_own (all_of_them naming_of) (all (map stmt_piece body)) (body_moves body) (good_all naming_of stmt_piece body each)

-- a body behind a condition
good_tested : (e : RawExpr) (body : List RawStmt) → All StmtGood body → (test : ℕ → Bool) (scopes : Scopes) → UpFrom test scopes.counts.variables
    → Only test scopes → Low scopes →
    Fits scopes (expr_marks e ++ in_scope (marks_in body)) →
    Holds test scopes (after scopes (expr_marks e ++ in_scope (marks_in body)))
    (and_naming (roots_in (named_expr scopes e)) (body_of body (opened (after scopes (expr_marks e)))))
good_tested e body each test scopes up only low fits =
    let marks = in_scope (marks_in body) in
    let still = still_expr e scopes in
    let fits_e = fits_first scopes (expr_marks e) marks fits in
    subst (λ new. Holds test scopes new (and_naming (roots_in (named_expr scopes e)) (body_of body (opened (after scopes (expr_marks e))))))
    (sym (after-append scopes (expr_marks e) marks ∙ ap (λ s. after s marks) still))
    (subst (λ s. Holds test scopes (after scopes marks) (and_naming (roots_in (named_expr scopes e)) (body_of body (opened s)))) (sym still)
    (holds_beside test scopes (after scopes marks) (roots_in (named_expr scopes e)) (body_of body (opened scopes))
    (expr_only test scopes scopes.counts only e fits_e) (expr_only (below scopes.counts.variables) scopes scopes.counts low e fits_e)
    (good_body body each test scopes up only low (fits_behind scopes (expr_marks e) marks (still_expr e) fits))))

-- a body before a condition, which sees what is around it
good_until : (e : RawExpr) (body : List RawStmt) → All StmtGood body → (test : ℕ → Bool) (scopes : Scopes) → UpFrom test scopes.counts.variables
    → Only test scopes → Low scopes →
    Fits scopes (in_scope (marks_in body) ++ expr_marks e) →
    Holds test scopes (after scopes (in_scope (marks_in body) ++ expr_marks e)) (and_naming (roots_in (named_expr scopes e)) (body_of body (opened scopes)))
good_until e body each test scopes up only low fits =
    let marks = in_scope (marks_in body) in
    let behind = after (opened scopes) (marks_in body) in
    let fits_e : Fits (record scopes { counts = behind.counts }) (expr_marks e) =
    subst (λ s. Fits s (expr_marks e)) (own_is (marks_in body) (vars_of_all (map stmt_piece body)) (body_moves body) scopes)
    (fits_second scopes marks (expr_marks e) fits) in
    subst (λ new. Holds test scopes new (and_naming (roots_in (named_expr scopes e)) (body_of body (opened scopes))))
    (sym (after-append scopes marks (expr_marks e) ∙ still_expr e (after scopes marks)))
    (holds_beside test scopes (after scopes marks) (roots_in (named_expr scopes e)) (body_of body (opened scopes))
    (expr_only test scopes behind.counts only e fits_e) (expr_only (below scopes.counts.variables) scopes behind.counts low e fits_e)
    (good_body body each test scopes up only low (fits_first scopes marks (expr_marks e) fits)))

-- ---- branches

begins_earlier : (start m n : ℕ) → m ≤ n → (namings : List Naming) → list_all (begins_at start n) namings ≡ true →
    list_all (begins_at start m) namings ≡ true
begins_earlier start m n most [] all = refl
begins_earlier start m n most (one ∷ namings) all =
    let here = and_first (begins_at start n one) (list_all (begins_at start n) namings) all in
    and_from (begins_at start m one) (list_all (begins_at start m) namings)
    (and_from (list_all (from m) one.declared) (list_all (outside start m) one.named)
    (all_weaker (from n) (from m) (λ k. from_earlier m n k most) one.declared
    (and_first (list_all (from n) one.declared) (list_all (outside start n) one.named) here))
    (all_weaker (outside start n) (outside start m) (λ k. or_weaker (nat_lt k start) (nat_le n k) (nat_le m k) (from_earlier m n k most)) one.named
    (and_second (list_all (from n) one.declared) (list_all (outside start n) one.named) here)))
    (begins_earlier start m n most namings (and_second (begins_at start n one) (list_all (begins_at start n) namings) all))

-- branches from here on, where these variables were declared before all of them
record Branches (start : ℕ) (scopes : Scopes) (namings : List Naming) : Type 0 where
  pub begin : list_all (begins_at start scopes.counts.variables) namings ≡ true
  pub apart : all_apart namings ≡ true

branches_apart : (start : ℕ) (branches : List RawBranch) → All BranchGood branches → (scopes : Scopes) → start ≤ scopes.counts.variables
    → Only (below start) scopes → Low scopes →
    Fits scopes (marks_of_all (map piece_of_branch branches)) →
    Branches start scopes (map naming_of_branch (made_of_all (map piece_of_branch branches) scopes))
branches_apart start [] each scopes most only low fits = record { begin = refl; apart = refl }
branches_apart start (branch ∷ branches) each scopes most only low fits =
    let n = scopes.counts.variables in
    let marks = (piece_of_branch branch).marks in
    let rest = marks_of_all (map piece_of_branch branches) in
    let new = after scopes marks in
    let here = All-head BranchGood branch branches each in
    let one = naming_of_branch ((piece_of_branch branch).made scopes) in
    let others = map naming_of_branch (made_of_all (map piece_of_branch branches) new) in
    let first = here.0 (outside start n) scopes (λ k more. or_right (nat_lt k start) (nat_le n k) (le-leb n k more))
    (only_weaker (below start) (outside start n) (λ k. or_left (nat_lt k start) (nat_le n k)) scopes only) low (fits_first scopes marks rest fits) in
    let later = branches_apart start branches (All-tail BranchGood branch branches each) new (at_most_then start n new.counts.variables most first.grown)
    (here.1 (below start) scopes only) first.low (fits_second scopes marks rest fits) in
    record {
      begin = and_from (begins_at start n one) (list_all (begins_at start n) others)
          (and_from (list_all (from n) one.declared) (list_all (outside start n) one.named)
          (all_weaker (between n new.counts.variables) (from n) (λ k. and_first (nat_le n k) (nat_lt k new.counts.variables)) one.declared first.declared)
          first.named)
          (begins_earlier start n new.counts.variables first.grown others later.begin);
      apart = and_from (list_all (keep_apart one) others) (all_apart others)
          (apart_from_all start n new.counts.variables one others most first.declared first.named_low later.begin) later.apart;
    }

good_only : (branches : List RawBranch) → All BranchGood branches → All (λ branch. Good naming_of_branch (piece_of_branch branch)) branches
good_only branches each = λ k d within. (each k d within).0

good_branches : (branches : List RawBranch) → All BranchGood branches → (test : ℕ → Bool) (scopes : Scopes) → UpFrom test scopes.counts.variables
    → Only test scopes → Low scopes →
    Fits scopes (marks_of_all (map piece_of_branch branches)) →
    Holds test scopes (after scopes (marks_of_all (map piece_of_branch branches)))
    (of_branches (map naming_of_branch (made_of_all (map piece_of_branch branches) scopes)))
good_branches branches each test scopes up only low fits =
    let inside = good_all naming_of_branch piece_of_branch branches (good_only branches each) test scopes up only low fits in
    let namings = map naming_of_branch (made_of_all (map piece_of_branch branches) scopes) in
    record {
      grown = inside.grown;
      only = inside.only;
      low = inside.low;
      declared = inside.declared;
      named = inside.named;
      named_low = inside.named_low;
      apart = and_from (together namings).apart (all_apart namings) inside.apart
          (branches_apart scopes.counts.variables branches each scopes (at_most_itself scopes.counts.variables) low low fits).apart;
    }

-- ---- each kind

abbrev naming_in : NamedLayer → Naming
naming_in layer = stmt_kind_naming (named_parts Naming stmt_kind_naming arm_naming branch_naming stmt_layer_naming layer)

-- a statement whose kind becomes this
stmt_good : (place : Place) (layer : RawLayer) (made : Scopes → NamedLayer)
    → ((scopes : Scopes) → out-NamedStmtKind ((kind_piece (parts layer)).made scopes) ≡ made scopes) →
    ((test : ℕ → Bool) (scopes : Scopes) → UpFrom test scopes.counts.variables → Only test scopes → Low scopes →
    Fits scopes (kind_piece (parts layer)).marks →
    Holds test scopes (after scopes (kind_piece (parts layer)).marks) (naming_in (made scopes))) → StmtGood (stmt place layer)
stmt_good place layer made is gives =
    subst (Good naming_of) (sym (stmt_is place layer))
    (λ test scopes up only low fits. subst (Holds test scopes (after scopes (kind_piece (parts layer)).marks))
    (sym (named_at Naming stmt_kind_naming arm_naming branch_naming stmt_layer_naming place ((kind_piece (parts layer)).made scopes) (made scopes) (is scopes)))
    (gives test scopes up only low fits))

good_declared : (name : Name) (ty : Option RawType) (value : Option RawExpr) (test : ℕ → Bool) (scopes : Scopes) → UpFrom test scopes.counts.variables
    → Only test scopes → Low scopes →
    Fits scopes ((optional type_marks ty ++ optional expr_marks value) ++ (declares name kind.Variable ∷ [])) →
    Holds test scopes (after scopes ((optional type_marks ty ++ optional expr_marks value) ++ (declares name kind.Variable ∷ [])))
    (naming_declared scopes.counts.variables (optional_roots (option_map (named_expr scopes) value)))
good_declared name ty value test scopes up only low fits =
    let n = scopes.counts.variables in
    let marks = optional type_marks ty ++ optional expr_marks value in
    let roots = optional_roots (option_map (named_expr scopes) value) in
    let fits_value = fits_behind scopes (optional type_marks ty) (optional expr_marks value) (still_optional type_marks ty still_type)
    (fits_first scopes marks (declares name kind.Variable ∷ []) fits) in
    subst (λ new. Holds test scopes new (naming_declared n roots)) (enter-behind scopes marks name kind.Variable (still_value ty value))
    (record {
      grown = most_next n;
      only = declare_only test scopes name kind.Variable (λ is. up n (at_most_itself n)) only;
      low = low_variable scopes name low;
      declared = and_from (between n (n + 1) n) true (and_from (nat_le n n) (nat_lt n (n + 1)) (le-leb n n (at_most_itself n)) (lt-ltb n (n + 1) (less_next n))) refl;
      named = and_from (test n) (list_all test roots) (up n (at_most_itself n)) (optional_only test scopes scopes.counts only value fits_value);
      named_low = and_from (nat_lt n (n + 1)) (list_all (below (n + 1)) roots) (lt-ltb n (n + 1) (less_next n))
          (all_weaker (below n) (below (n + 1)) (λ k. below_more n (n + 1) k (most_next n)) roots
          (optional_only (below n) scopes scopes.counts low value fits_value));
      apart = refl;
    })

good_constant : (constant : RawConstant) (test : ℕ → Bool) (scopes : Scopes) → Only test scopes → Low scopes
    → Holds test scopes (after scopes (constant_marks constant)) (naming [])
good_constant constant test scopes only low =
    subst (λ new. Holds test scopes new (naming [])) (enter-behind scopes (optional type_marks constant.ty ++ expr_marks constant.value) constant.name
    kind.Constant (still_value constant.ty (Some constant.value)))
    (record {
      grown = at_most_itself scopes.counts.variables;
      only = declare_only test scopes constant.name kind.Constant (λ is. absurd (cc)) only;
      low = declare_only (below scopes.counts.variables) scopes constant.name kind.Constant (λ is. absurd (cc)) low;
      declared = refl;
      named = refl;
      named_low = refl;
      apart = refl;
    })

cases : Cases StmtGood ArmGood BranchGood
cases = record {
  var = λ place name ty value. stmt_good place (RawStmtKind-F.Var name ty value)
      (λ scopes. NamedStmtKind-F.Declare scopes.counts.variables (option_map (named_expr scopes) value))
      (λ scopes. what.outs-Declare scopes.counts.variables (option_map (named_expr scopes) value))
      (good_declared name ty value);
  fixed = λ place name ty value. stmt_good place (RawStmtKind-F.Let name ty value)
      (λ scopes. NamedStmtKind-F.Declare scopes.counts.variables (Some (named_expr scopes value)))
      (λ scopes. what.outs-Declare scopes.counts.variables (Some (named_expr scopes value)))
      (good_declared name ty (Some value));
  constant = λ place constant. stmt_good place (RawStmtKind-F.Const constant) (λ scopes. NamedStmtKind-F.Const scopes.counts.constants)
      (λ scopes. what.outs-Const scopes.counts.constants)
      (λ test scopes up only low fits. good_constant constant test scopes only low);
  assign = λ place target e. stmt_good place (RawStmtKind-F.Assign target e)
      (λ scopes. NamedStmtKind-F.Assign (named_target scopes target) (named_expr scopes e))
      (λ scopes. what.outs-Assign (named_target scopes target) (named_expr scopes e))
      (λ test scopes up only low fits.
      let fits_target = fits_first scopes (target_marks target wanted.Variable) (expr_marks e) fits in
      let fits_e = fits_behind scopes (target_marks target wanted.Variable) (expr_marks e) (still_target target wanted.Variable) fits in
      holds_plain test scopes (target_marks target wanted.Variable ++ expr_marks e) _
      (still_append (target_marks target wanted.Variable) (expr_marks e) (still_target target wanted.Variable) (still_expr e)) only low
      (all_append test _ _ (target_only test scopes scopes.counts only target wanted.Variable variable_read fits_target)
      (expr_only test scopes scopes.counts only e fits_e))
      (all_append (below scopes.counts.variables) _ _ (target_only (below scopes.counts.variables) scopes scopes.counts low target wanted.Variable
      variable_read fits_target)
      (expr_only (below scopes.counts.variables) scopes scopes.counts low e fits_e)));
  call = λ place f inputs outputs. stmt_good place (RawStmtKind-F.Call f inputs outputs)
      (λ scopes. NamedStmtKind-F.Call f.place (position scopes f) (map (named_expr scopes) inputs) (map (named_path scopes) outputs))
      (λ scopes. what.outs-Call f.place (position scopes f) (map (named_expr scopes) inputs) (map (named_path scopes) outputs))
      (λ test scopes up only low fits. holds_plain test scopes (uses f wanted.Function ∷ argument_marks inputs outputs) _
      (still_append (uses f wanted.Function ∷ []) (argument_marks inputs outputs) (still_use f wanted.Function) (still_arguments inputs outputs)) only low
      (arguments_only test scopes scopes.counts only inputs outputs fits.1)
      (arguments_only (below scopes.counts.variables) scopes scopes.counts low inputs outputs fits.1));
  await = λ place e. stmt_good place (RawStmtKind-F.Await e) (λ scopes. NamedStmtKind-F.Await (named_expr scopes e))
      (λ scopes. what.outs-Await (named_expr scopes e))
      (λ test scopes up only low fits. holds_plain test scopes (expr_marks e) _ (still_expr e) only low
      (expr_only test scopes scopes.counts only e fits) (expr_only (below scopes.counts.variables) scopes scopes.counts low e fits));
  run = λ place target a inputs outputs. stmt_good place (RawStmtKind-F.Run target a inputs outputs)
      (λ scopes. NamedStmtKind-F.Run (option_map (named_path scopes) target) a.place (position scopes a) (map (named_expr scopes) inputs)
      (map (named_path scopes) outputs)) (λ scopes. what.outs-Run (option_map (named_path scopes) target) a.place (position scopes a)
      (map (named_expr scopes) inputs) (map (named_path scopes) outputs))
      (λ test scopes up only low fits.
      let still = still_optional path_marks target (λ path. still_use path.root wanted.Variable) in
      let call = uses a wanted.Activity ∷ argument_marks inputs outputs in
      let fits_target = fits_first scopes (optional path_marks target) call fits in
      let behind = fits_behind scopes (optional path_marks target) call still fits in
      holds_plain test scopes (optional path_marks target ++ call) _
      (still_append (optional path_marks target) call still
      (still_append (uses a wanted.Activity ∷ []) (argument_marks inputs outputs) (still_use a wanted.Activity) (still_arguments inputs outputs))) only low
      (all_append test _ _ (taker_only test scopes scopes.counts only target fits_target)
      (arguments_only test scopes scopes.counts only inputs outputs behind.1))
      (all_append (below scopes.counts.variables) _ _ (taker_only (below scopes.counts.variables) scopes scopes.counts low target fits_target)
      (arguments_only (below scopes.counts.variables) scopes scopes.counts low inputs outputs behind.1)));
  branching = λ place arms other in_arms in_other. stmt_good place (RawStmtKind-F.If arms other)
      (λ scopes. NamedStmtKind-F.If (made_of_all (map piece_of_arm arms) scopes)
      (made_of_all (map stmt_piece other) (opened (after scopes (marks_of_all (map piece_of_arm arms))))))
      (λ scopes. what.outs-If (made_of_all (map piece_of_arm arms) scopes)
      (made_of_all (map stmt_piece other) (opened (after scopes (marks_of_all (map piece_of_arm arms))))))
      (λ test scopes up only low fits.
      let marks = marks_of_all (map piece_of_arm arms) in
      let rest = in_scope (marks_in other) in
      let middle = after scopes marks in
      let ones = map naming_of_arm (made_of_all (map piece_of_arm arms) scopes) in
      let others = body_of other (opened middle) in
      let first = good_all naming_of_arm piece_of_arm arms in_arms test scopes up only low (fits_first scopes marks rest fits) in
      subst (λ new. Holds test scopes new (together (ones ++ others))) (sym (after-append scopes marks rest))
      (subst (Holds test scopes (after middle rest)) (sym (together_append ones others))
      (holds_pair test scopes middle (after middle rest) (together ones) (together others) first
      (good_body other in_other test middle (later_up test scopes.counts.variables middle.counts.variables first.grown up) first.only first.low
      (fits_second scopes marks rest fits)))));
  cobegin = λ place branches in_branches. stmt_good place (RawStmtKind-F.Cobegin branches)
      (λ scopes. NamedStmtKind-F.Cobegin (made_of_all (map piece_of_branch branches) scopes))
      (λ scopes. what.outs-Cobegin (made_of_all (map piece_of_branch branches) scopes))
      (good_branches branches in_branches);
  guarded = λ place guard e body each. stmt_good place (RawStmtKind-F.When guard e body)
      (λ scopes. NamedStmtKind-F.When guard (named_expr scopes e) (made_of_all (map stmt_piece body) (opened (after scopes (expr_marks e)))))
      (λ scopes. what.outs-When guard (named_expr scopes e) (made_of_all (map stmt_piece body) (opened (after scopes (expr_marks e)))))
      (good_tested e body each);
  repeat = λ place body each. stmt_good place (RawStmtKind-F.Repeat body)
      (λ scopes. NamedStmtKind-F.Repeat (made_of_all (map stmt_piece body) (opened scopes)))
      (λ scopes. what.outs-Repeat (made_of_all (map stmt_piece body) (opened scopes)))
      (good_body body each);
  until = λ place body e each. stmt_good place (RawStmtKind-F.Until body e)
      (λ scopes. NamedStmtKind-F.Until (made_of_all (map stmt_piece body) (opened scopes)) (named_expr scopes e))
      (λ scopes. what.outs-Until (made_of_all (map stmt_piece body) (opened scopes)) (named_expr scopes e))
      (good_until e body each);
  while = λ place e body each. stmt_good place (RawStmtKind-F.While e body)
      (λ scopes. NamedStmtKind-F.While (named_expr scopes e) (made_of_all (map stmt_piece body) (opened (after scopes (expr_marks e)))))
      (λ scopes. what.outs-While (named_expr scopes e) (made_of_all (map stmt_piece body) (opened (after scopes (expr_marks e)))))
      (good_tested e body each);
  returns = λ place e. stmt_good place (RawStmtKind-F.Return e) (λ scopes. NamedStmtKind-F.Return (option_map (named_expr scopes) e))
      (λ scopes. what.outs-Return (option_map (named_expr scopes) e))
      (λ test scopes up only low fits. holds_plain test scopes (optional expr_marks e) _ (still_optional expr_marks e still_expr) only low
      (optional_only test scopes scopes.counts only e fits) (optional_only (below scopes.counts.variables) scopes scopes.counts low e fits));
  arm = λ test body each. subst (Good naming_of_arm) (sym (arm_is test body))
      (λ passes scopes up only low fits. subst (Holds passes scopes (after scopes (expr_marks test ++ in_scope (marks_in body))))
      (sym (named_arm_at Naming stmt_kind_naming arm_naming branch_naming stmt_layer_naming (named_expr scopes test)
      (made_of_all (map stmt_piece body) (opened (after scopes (expr_marks test))))))
      (good_tested test body each passes scopes up only low fits));
  branch = λ weak body each. (
    subst (Good naming_of_branch) (sym (branch_is weak body))
        (λ test scopes up only low fits. subst (Holds test scopes (after scopes (in_scope (marks_in body))))
        (sym (named_branch_at Naming stmt_kind_naming arm_naming branch_naming stmt_layer_naming weak (made_of_all (map stmt_piece body) (opened scopes))))
        (good_body body each test scopes up only low fits)),
    λ test scopes only. subst (λ piece. Only test (after scopes piece.marks)) (sym (branch_is weak body))
        (subst (Only test) (sym (own_is (marks_in body) (vars_of_all (map stmt_piece body)) (body_moves body) scopes)) only),
  );
}

pub every_of : (body : List RawStmt) → All StmtGood body
every_of body = λ k d within. induct StmtGood ArmGood BranchGood cases _
