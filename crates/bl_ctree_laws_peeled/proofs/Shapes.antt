-- Plain statements of statements of one kind whose blocks are unrolled.
use Rattle.std.proofs.Common.{◌≡◌, ℕ, suc, Bool, List, [], ◌∷◌, map, refl, sym, ap, ◌∙◌, subst}
use Rattle.bl_tree.specs.declared.place.Place.{Place}
use Rattle.bl_tree.specs.declared.tree.Arm.{Arm, out-Arm, out-roll-Arm}
use Rattle.bl_tree.specs.declared.tree.Branch.{Branch, out-Branch}
use Rattle.bl_tree.specs.declared.tree.Expr.{Expr}
use Rattle.bl_tree.specs.declared.tree.Guard.{Guard}
use Rattle.bl_tree.specs.declared.tree.Stmt.{Stmt, fold-roll-Stmt}
use Rattle.bl_tree.specs.declared.tree.StmtKind.{fold-roll-StmtKind}
use Rattle.bl_tree.specs.declared.tree.StmtKind.TheOpen.{StmtKind-F}
use Rattle.bl_graph_nodes.specs.Laws.{plain_arm, plain_branch, stmt}
use Rattle.bl_graph_nodes.specs.Nodes.{Node}
use Rattle.bl_graph_nodes.specs.Plain.{Block, Bodies, Label, Plain, Position, Body as BodyOf, If, block_from, bodies_from, else_at, inside, label_at, never}
use Rattle.bl_graph_nodes.specs.Plain.{passed_one, plain_stmt, plain_block}
use Rattle.bl_graph_nodes.proofs.Equations.{plain_statements}
use Rattle.bl_peel.specs.Peeled.{made_arm, made_if, place_of_expr}
use Rattle.bl_ctree_laws_peeled.specs.Unrolls.{PlainUnrolls, EachUnrolls, Unrolls, cobegins_alike, first_alike, ifs_alike, no_body, no_more, one_body}
use Rattle.bl_ctree_laws_peeled.specs.Unrolls.{repeats_alike, untils_alike, whens_alike, whiles_alike}

-- a block becomes another, wherever both stand
abbrev pub BlockBecomes : (Node → Plain → Type 0) → List Stmt → List Stmt → Type 0
BlockBecomes H one other = (j k : ℕ) (p q : Position) → Unrolls H (block_from (map plain_stmt one) j p) (block_from (map plain_stmt other) k q)

-- arms with the same tests, whose blocks become others
pub data ArmsBecome (H : Node → Plain → Type 0) : List Arm → List Arm → Type 0 where
  no_arms : ArmsBecome H [] []
  one_arm : {arm made : Arm} {arms others : List Arm} → (out-Arm arm).test ≡ (out-Arm made).test →
      BlockBecomes H (out-Arm arm).body (out-Arm made).body → ArmsBecome H arms others → ArmsBecome H (arm ∷ arms) (made ∷ others)

-- branches that are weak alike, whose blocks become others
pub data BranchesBecome (H : Node → Plain → Type 0) : List Branch → List Branch → Type 0 where
  no_branches : BranchesBecome H [] []
  one_branch : {branch made : Branch} {branches others : List Branch} → (out-Branch branch).weak ≡ (out-Branch made).weak →
      BlockBecomes H (out-Branch branch).body (out-Branch made).body → BranchesBecome H branches others →
      BranchesBecome H (branch ∷ branches) (made ∷ others)

-- an `if` without an arm does its `else` part
if_without_arms : (place : Place) (body : List Stmt) (p : Position) →
    plain_stmt (stmt place (StmtKind-F.If [] body)) p
    ≡ If (label_at p) place (never place) (plain_block body (inside (label_at p) 0)) (plain_block body (inside (label_at p) 1))
if_without_arms place body p = rw (fold-roll-Stmt, fold-roll-StmtKind) refl

module _ {H : Node → Plain → Type 0} where
  pub alike_by : {s t s' t' : Plain} → s ≡ s' → t ≡ t' → PlainUnrolls H s' t' → PlainUnrolls H s t
  alike_by {t = t} {s'} e f alike = subst (λ one. PlainUnrolls H one t) (sym e) (subst (PlainUnrolls H s') (sym f) alike)

  pub when_becomes : (place : Place) (guard : Guard) (e : Expr) (one other : List Stmt) → BlockBecomes H one other → (p q : Position) →
      PlainUnrolls H (plain_stmt (stmt place (StmtKind-F.When guard e one)) p) (plain_stmt (stmt place (StmtKind-F.When guard e other)) q)
  when_becomes place guard e one other inner p q =
      alike_by (plain_statements.guarded place p guard e one) (plain_statements.guarded place q guard e other) (whens_alike (inner 0 0 _ _))

  pub repeat_becomes : (place : Place) (one other : List Stmt) → BlockBecomes H one other → (p q : Position) →
      PlainUnrolls H (plain_stmt (stmt place (StmtKind-F.Repeat one)) p) (plain_stmt (stmt place (StmtKind-F.Repeat other)) q)
  repeat_becomes place one other inner p q =
      alike_by (plain_statements.endless place p one) (plain_statements.endless place q other) (repeats_alike (inner 0 0 _ _))

  pub until_becomes : (place : Place) (e : Expr) (one other : List Stmt) → BlockBecomes H one other → (p q : Position) →
      PlainUnrolls H (plain_stmt (stmt place (StmtKind-F.Until one e)) p) (plain_stmt (stmt place (StmtKind-F.Until other e)) q)
  until_becomes place e one other inner p q =
      alike_by (plain_statements.until place p one e) (plain_statements.until place q other e) (untils_alike (inner 0 0 _ _))

  pub while_becomes : (place : Place) (e : Expr) (one other : List Stmt) → BlockBecomes H one other → (p q : Position) →
      PlainUnrolls H (plain_stmt (stmt place (StmtKind-F.While e one)) p) (plain_stmt (stmt place (StmtKind-F.While e other)) q)
  while_becomes place e one other inner p q =
      alike_by (plain_statements.while place p e one) (plain_statements.while place q e other) (whiles_alike (inner 0 0 _ _))

  -- ---- arms

  ifs_with : {l m : Label} {at at' : Place} {e e' : Expr} {body body' other other' : Block} → e ≡ e' → Unrolls H body body' → Unrolls H other other' →
      PlainUnrolls H (If l at e body other) (If m at' e' body' other')
  ifs_with {l} {m} {at} {at'} {e} {body = body} {body'} {other} {other'} is inner rest =
      subst (λ e'. PlainUnrolls H (If l at e body other) (If m at' e' body' other')) is (ifs_alike inner rest)

  else_becomes : (one other : List Stmt) {arms others : List Arm} → ArmsBecome H arms others → BlockBecomes H one other → (l m : Label) →
      Unrolls H (else_at l (map plain_arm arms) (plain_block one)) (else_at m (map plain_arm others) (plain_block other))
  else_becomes one other no_arms last l m = last 0 0 _ _
  else_becomes one other (one_arm is inner arms) last l m =
      first_alike (ifs_with is (inner 0 0 _ _) (else_becomes one other arms last (passed_one l) (passed_one m))) no_more

  pub if_becomes : (place : Place) {arms others : List Arm} (one other : List Stmt) → ArmsBecome H arms others → BlockBecomes H one other →
      (p q : Position) → PlainUnrolls H (plain_stmt (stmt place (StmtKind-F.If arms one)) p) (plain_stmt (stmt place (StmtKind-F.If others other)) q)
  if_becomes place one other no_arms last p q =
      alike_by (if_without_arms place one p) (if_without_arms place other q) (ifs_alike (last 0 0 _ _) (last 0 0 _ _))
  if_becomes place one other (one_arm {arm} {made} {arms} {others} is inner rest) last p q =
      alike_by (plain_statements.branching place p arm arms one) (plain_statements.branching place q made others other)
      (ifs_with is (inner 0 0 _ _) (else_becomes one other rest last (passed_one (label_at p)) (passed_one (label_at q))))

  -- ---- branches

  bodies_with : {weak weak' : Bool} {body body' : Block} {rest rest' : Bodies} → weak ≡ weak' → Unrolls H body body' → EachUnrolls H rest rest' →
      EachUnrolls H (BodyOf weak body rest) (BodyOf weak' body' rest')
  bodies_with {weak} {body = body} {body'} {rest} {rest'} is inner others =
      subst (λ weak'. EachUnrolls H (BodyOf weak body rest) (BodyOf weak' body' rest')) is (one_body inner others)

  bodies_become : {branches others : List Branch} → BranchesBecome H branches others → (j k : ℕ) (l m : Label) →
      EachUnrolls H (bodies_from (map plain_branch branches) j l) (bodies_from (map plain_branch others) k m)
  bodies_become no_branches j k l m = no_body
  bodies_become (one_branch is inner rest) j k l m = bodies_with is (inner 0 0 _ _) (bodies_become rest (suc j) (suc k) l m)

  pub cobegin_becomes : (place : Place) {branches others : List Branch} → BranchesBecome H branches others → (p q : Position) →
      PlainUnrolls H (plain_stmt (stmt place (StmtKind-F.Cobegin branches)) p) (plain_stmt (stmt place (StmtKind-F.Cobegin others)) q)
  cobegin_becomes place {branches} {others} each p q =
      alike_by (plain_statements.parallel place p branches) (plain_statements.parallel place q others)
      (cobegins_alike (bodies_become each 0 0 (label_at p) (label_at q)))

-- an `if` that is made for the test of a loop
pub made_if_is : (e : Expr) (body other : List Stmt) (q : Position) →
    plain_stmt (made_if e body other) q
    ≡ If (label_at q) (place_of_expr e) e (plain_block body (inside (label_at q) 0)) (plain_block other (inside (label_at q) 1))
made_if_is e body other q =
    plain_statements.branching (place_of_expr e) q (made_arm e body) [] other
    ∙ ap (λ arm. If (label_at q) (place_of_expr e) arm.test (plain_block arm.body (inside (label_at q) 0)) (plain_block other (inside (label_at q) 1)))
    (out-roll-Arm (record { test = e; body = body }))
