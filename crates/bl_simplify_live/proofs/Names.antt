-- The names of the places that blocks read are those that the laws ask for.
use Rattle.std.proofs.Common.{◌≡◌, ℤ, List, [], ◌∷◌, ◌++◌, map, refl, ap, sym, subst, ◌∙◌, Option, Some, None}
use Rattle.std.proofs.lemmas.List.{map-append}
use Rattle.std.proofs.lemmas.List.Elements.{All-cons, All-head, All-nil, All-tail}
use Rattle.std.proofs.lemmas.Simd.{map-map}
use Rattle.std.specs.Prelude.{All, Bool}
use Rattle.bl_tree.specs.Reduce.{joined}
use Rattle.bl_tree.specs.declared.text.Text.{Text}
use Rattle.bl_tree.specs.declared.place.Place.{Place}
use Rattle.bl_tree.specs.declared.scalar.Op.{Op}
use Rattle.bl_tree.specs.declared.scalar.Scalar.{Scalar}
use Rattle.bl_tree.specs.declared.c.CArg.{CArg, fold-CArg, fold-roll-CArg, roll-CArg}
use Rattle.bl_tree.specs.declared.c.CArg.TheOpen.{CArg-F, CExprKind-F}
use Rattle.bl_tree.specs.declared.c.CCall.{CCall, fold-roll-CCall, roll-CCall}
use Rattle.bl_tree.specs.declared.c.CExpr.{CExpr, fold-roll-CExpr, roll-CExpr}
use Rattle.bl_tree.specs.declared.c.CExprKind.{CExprKind, fold-CExprKind, fold-roll-CExprKind, roll-CExprKind}
use Rattle.bl_tree.specs.declared.c.CIndex.{CIndex, fold-CIndex, fold-roll-CIndex, roll-CIndex}
use Rattle.bl_tree.specs.declared.c.CPlace.{CPlace, fold-roll-CPlace, roll-CPlace}
use Rattle.bl_tree.specs.declared.c.CStep.{CStep, fold-CStep, fold-roll-CStep, roll-CStep}
use Rattle.bl_tree.specs.declared.c.CStmt.{CStmt, fold-roll-CStmt}
use Rattle.bl_tree.specs.declared.c.CStmtKind.{fold-roll-CStmtKind}
use Rattle.bl_tree.specs.declared.c.CStmtKind.TheOpen.{CStmtKind-F}
use Rattle.bl_ctext_semantics.proofs.Induction.{ExprCases, Optional, StmtCases, induct_call, induct_expr, induct_place, induct_stmt, stmt}
use Rattle.bl_ctext_places.specs.Lists.{inside_step, path_names}
use Rattle.bl_ctext_places.specs.Places.{CPaths, StepParts, arg_places, call_places, expr_places, index_places, kind_places, parts_of_step, place_places}
use Rattle.bl_ctext_places.specs.Places.{places_in, places_in_arg, places_in_call, places_in_place, places_of_option, step_parts}
use Rattle.bl_simplify_laws.specs.Live.{arg_reads, call_reads, expr_reads, index_reads, kind_reads as laws_kind_reads, names_of_place, place_reads}
use Rattle.bl_simplify_laws.specs.Live.{read_by, read_if_there, read_in_call, read_in_expr, read_in_place, step_reads}
use Rattle.bl_simplify_live.specs.Reads.{inside_place, kind_reads, read_in, reads_of, rest_paths}

abbrev in_arg : CArg → List Text
in_arg = fold-CArg _ _ _ _ _ _ _ arg_reads laws_kind_reads call_reads expr_reads index_reads place_reads step_reads

abbrev in_kind : CExprKind → List Text
in_kind = fold-CExprKind _ _ _ _ _ _ _ arg_reads laws_kind_reads call_reads expr_reads index_reads place_reads step_reads

abbrev in_index : CIndex → List Text
in_index = fold-CIndex _ _ _ _ _ _ _ arg_reads laws_kind_reads call_reads expr_reads index_reads place_reads step_reads

abbrev in_step : CStep → List Text
in_step = fold-CStep _ _ _ _ _ _ _ arg_reads laws_kind_reads call_reads expr_reads index_reads place_reads step_reads

abbrev kind_paths : CExprKind → CPaths
kind_paths = fold-CExprKind _ _ _ _ _ _ _ arg_places kind_places call_places expr_places index_places place_places step_parts

abbrev index_paths : CIndex → CPaths
index_paths = fold-CIndex _ _ _ _ _ _ _ arg_places kind_places call_places expr_places index_places place_places step_parts

names_append : (a b : CPaths) (m n : List Text) → path_names a ≡ m → path_names b ≡ n → path_names (a ++ b) ≡ m ++ n
names_append a b m n h k = map-append _ a b ∙ (ap (λ l. l ++ path_names b) h ∙ ap (λ l. m ++ l) k)

names_joined : {X : Type 0} (paths : X → CPaths) (names : X → List Text) (xs : List X) → All (λ x. path_names (paths x) ≡ names x) xs →
    path_names (joined (map paths xs)) ≡ joined (map names xs)
names_joined paths names [] each = refl
names_joined paths names (x ∷ xs) each =
    names_append (paths x) _ (names x) _ (All-head (λ y. path_names (paths y) ≡ names y) x xs each)
    (names_joined paths names xs (All-tail (λ y. path_names (paths y) ≡ names y) x xs each))

-- a list of parts, told twice
insides : (steps : List CStep) → joined (map (λ (s : StepParts). s.inside) (map parts_of_step steps)) ≡ joined (map inside_step steps)
insides steps = ap joined (map-map (λ (s : StepParts). s.inside) parts_of_step steps)

named : ExprCases (λ a. path_names (places_in_arg a) ≡ in_arg a) (λ k. path_names (kind_paths k) ≡ in_kind k)
    (λ c. path_names (places_in_call c) ≡ read_in_call c) (λ e. path_names (places_in e) ≡ read_in_expr e)
    (λ i. path_names (index_paths i) ≡ in_index i) (λ p. path_names (places_in_place p) ≡ names_of_place (read_in_place p))
    (λ s. path_names (inside_step s) ≡ in_step s)
named = record {
  value = λ e h. rw (fold-roll-CArg, fold-roll-CArg) h;
  address = λ p h. rw (fold-roll-CArg, fold-roll-CArg) h;
  literal = λ t n. rw (fold-roll-CExprKind, fold-roll-CExprKind) refl;
  read = λ p h. rw (fold-roll-CExprKind, fold-roll-CExprKind) h;
  call = λ c h. rw (fold-roll-CExprKind, fold-roll-CExprKind) h;
  negation = λ e h. rw (fold-roll-CExprKind, fold-roll-CExprKind) h;
  two = λ op a b h k. rw (fold-roll-CExprKind, fold-roll-CExprKind) (names_append (places_in a) (places_in b) _ _ h k);
  calling = λ name args each. rw (fold-roll-CCall, fold-roll-CCall) (names_joined places_in_arg in_arg args each);
  expr = λ place what h. rw (fold-roll-CExpr, fold-roll-CExpr) h;
  index = λ signed at length h. rw (fold-roll-CIndex, fold-roll-CIndex) h;
  place = λ through name steps each. rw (fold-roll-CPlace, fold-roll-CPlace)
      (ap (λ l. name ∷ l) (ap path_names (insides steps) ∙ names_joined inside_step in_step steps each));
  step = λ member index h. step_named member index h;
}
  where
    step_named : (member : Text) (index : Option CIndex) → Optional (λ i. path_names (index_paths i) ≡ in_index i) index →
        path_names (parts_of_step (roll-CStep (record { member = member; index = index }))).inside
        ≡ in_step (roll-CStep (record { member = member; index = index }))
    step_named member None h = rw (fold-roll-CStep, fold-roll-CStep) refl
    step_named member (Some i) h = rw (fold-roll-CStep, fold-roll-CStep) h

expr_named : (e : CExpr) → path_names (places_in e) ≡ read_in_expr e
expr_named = induct_expr _ _ _ _ _ _ _ named

call_named : (c : CCall) → path_names (places_in_call c) ≡ read_in_call c
call_named = induct_call _ _ _ _ _ _ _ named

rest_named : (paths : CPaths) (name : Text) (names : List Text) → path_names paths ≡ name ∷ names → path_names (rest_paths paths) ≡ names
rest_named [] name names h = absurd (cc)
rest_named (p ∷ paths) name names h = ap rest_of h
  where
    rest_of : List Text → List Text
    rest_of [] = []
    rest_of (n ∷ ns) = ns

inside_named : (p : CPlace) → path_names (inside_place p) ≡ (read_in_place p).inside
inside_named p = rest_named (places_in_place p) (read_in_place p).name (read_in_place p).inside (induct_place _ _ _ _ _ _ _ named p)

if_there_named : (e : Option CExpr) → path_names (places_of_option e) ≡ read_if_there e
if_there_named None = refl
if_there_named (Some e) = expr_named e

stmts_named : StmtCases (λ s. path_names (reads_of s) ≡ read_by s)
stmts_named = record {
  set = λ at p e. rw (fold-roll-CStmt, fold-roll-CStmt, fold-roll-CStmtKind, fold-roll-CStmtKind)
      (names_append (inside_place p) (places_in e) _ _ (inside_named p) (expr_named e));
  clear = λ at p name. rw (fold-roll-CStmt, fold-roll-CStmt, fold-roll-CStmtKind, fold-roll-CStmtKind) (inside_named p);
  call = λ at c. rw (fold-roll-CStmt, fold-roll-CStmt, fold-roll-CStmtKind, fold-roll-CStmtKind) (call_named c);
  branching = λ at e block other each others. branching_named at e block other each others;
  loop = λ at turn e body each. rw (fold-roll-CStmt, fold-roll-CStmt, fold-roll-CStmtKind, fold-roll-CStmtKind)
      (names_append (places_in e) _ _ _ (expr_named e) (names_joined reads_of read_by body each));
  break = λ at. rw (fold-roll-CStmt, fold-roll-CStmt, fold-roll-CStmtKind, fold-roll-CStmtKind) refl;
  returns = λ at e. rw (fold-roll-CStmt, fold-roll-CStmt, fold-roll-CStmtKind, fold-roll-CStmtKind) (if_there_named e);
}
  where
    branching_named : (at : Place) (e : CExpr) (block : List CStmt) (other : Option (List CStmt)) → All (λ s. path_names (reads_of s) ≡ read_by s) block →
        Optional (All (λ s. path_names (reads_of s) ≡ read_by s)) other →
        path_names (reads_of (stmt at (CStmtKind-F.If e block other))) ≡ read_by (stmt at (CStmtKind-F.If e block other))
    branching_named at e block None each others = rw (fold-roll-CStmt, fold-roll-CStmt, fold-roll-CStmtKind, fold-roll-CStmtKind)
        (names_append (places_in e) _ _ _ (expr_named e) (names_append _ [] _ [] (names_joined reads_of read_by block each) refl))
    branching_named at e block (Some other) each others = rw (fold-roll-CStmt, fold-roll-CStmt, fold-roll-CStmtKind, fold-roll-CStmtKind)
        (names_append (places_in e) _ _ _ (expr_named e)
        (names_append _ _ _ _ (names_joined reads_of read_by block each) (names_joined reads_of read_by other others)))

each_named : (block : List CStmt) → All (λ s. path_names (reads_of s) ≡ read_by s) block
each_named [] = All-nil (λ s. path_names (reads_of s) ≡ read_by s)
each_named (s ∷ block) = All-cons (λ s. path_names (reads_of s) ≡ read_by s) s block (induct_stmt _ stmts_named s) (each_named block)

-- the names of the places that a block reads
pub block_named : (block : List CStmt) → path_names (joined (map reads_of block)) ≡ read_in block
block_named block = names_joined reads_of read_by block (each_named block)
