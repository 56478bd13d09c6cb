-- Statements as bodies have them: none is the test at the end of a turn, which only what is left of a loop has.
use Rattle.std.proofs.Common.{◌≡◌, ℕ, suc, List, [], ◌∷◌, ◌++◌, map, sym, subst, refl}
use Rattle.std.specs.Prelude.{⊤}
use Rattle.std.proofs.lemmas.List.Elements.{All-head, All-tail}
use Rattle.bl_tree.specs.declared.place.Place.{Place}
use Rattle.bl_tree.specs.declared.tree.Arm.{Arm, out-Arm}
use Rattle.bl_tree.specs.declared.tree.Branch.{Branch, out-Branch}
use Rattle.bl_tree.specs.declared.tree.Stmt.{Stmt, fold-roll-Stmt}
use Rattle.bl_tree.specs.declared.tree.StmtKind.{fold-roll-StmtKind}
use Rattle.bl_tree.specs.declared.tree.StmtKind.TheOpen.{StmtKind-F}
use Rattle.bl_tree.proofs.StmtInduction.{Cases, Each, EachArm, EachBranch, induct, stmt}
use Rattle.bl_graph_nodes.specs.Laws.{plain_arm, plain_branch}
use Rattle.bl_graph_nodes.specs.Plain.{Act, Again, Await, Block, Bodies, Body as BodyOf, Cobegin, Done, If, Label, Last, Plain, Position, Repeat, Run as RunOf}
use Rattle.bl_graph_nodes.specs.Plain.{Then, Until, When, While, block_from, bodies_from, else_at, inside, label_at, never, passed_one, plain_block, plain_body}
use Rattle.bl_graph_nodes.specs.Plain.{plain_stmt}
use Rattle.bl_graph_nodes.proofs.Equations.{plain_statements}

abbrev mutual
  -- no statement in it is the test at the end of a turn
  pub WrittenOf : Plain → Type 0
  WrittenOf (Act l s) = ⊤
  WrittenOf (Await l at e) = ⊤
  WrittenOf (RunOf l at target a inputs outputs) = ⊤
  WrittenOf (If l at e body other) = WrittenIn body × WrittenIn other
  WrittenOf (Cobegin l at bodies) = WrittenEach bodies
  WrittenOf (When l at guard e body) = WrittenIn body
  WrittenOf (Repeat l at body) = WrittenIn body
  WrittenOf (Until l at body e) = WrittenIn body
  WrittenOf (While l at e body) = WrittenIn body
  WrittenOf (Again l at body e) = ⊥

  -- nor in the block
  pub WrittenIn : Block → Type 0
  WrittenIn Done = ⊤
  WrittenIn (Then s rest) = WrittenOf s × WrittenIn rest

  -- nor in the branches
  pub WrittenEach : Bodies → Type 0
  WrittenEach Last = ⊤
  WrittenEach (BodyOf weak body rest) = WrittenIn body × WrittenEach rest

abbrev Fine : Stmt → Type 0
Fine s = (at : Position) → WrittenOf (plain_stmt s at)

block_written : (body : List Stmt) (k : ℕ) (block : Position) → Each Fine body → WrittenIn (block_from (map plain_stmt body) k block)
block_written [] k block each = tt
block_written (s ∷ rest) k block each =
    (All-head Fine s rest each (block ++ k ∷ []), block_written rest (suc k) block (All-tail Fine s rest each))

inner : (body : List Stmt) (l : Label) (k : ℕ) → Each Fine body → WrittenIn (plain_block body (inside l k))
inner body l k each = block_written body 0 (inside l k) each

arms_written : (l : Label) (arms : List Arm) (other : List Stmt) → EachArm Fine arms → Each Fine other →
    WrittenIn (else_at l (map plain_arm arms) (plain_block other))
arms_written l [] other each others = inner other l l.passed others
arms_written l (arm ∷ rest) other each others = (
  (
    inner (out-Arm arm).body l l.passed (All-head (λ arm. Each Fine (out-Arm arm).body) arm rest each),
    arms_written (passed_one l) rest other (All-tail (λ arm. Each Fine (out-Arm arm).body) arm rest each) others,
  ),
  tt,
)

bodies_written : (branches : List Branch) (k : ℕ) (l : Label) → EachBranch Fine branches →
    WrittenEach (bodies_from (map plain_branch branches) k l)
bodies_written [] k l each = tt
bodies_written (b ∷ rest) k l each = (
  inner (out-Branch b).body l k (All-head (λ b. Each Fine (out-Branch b).body) b rest each),
  bodies_written rest (suc k) l (All-tail (λ b. Each Fine (out-Branch b).body) b rest each),
)

of_plain : (one other : Plain) → one ≡ other → WrittenOf other → WrittenOf one
of_plain one other is has = subst (λ s. WrittenOf s) (sym is) has

no_arms : (place : Place) (other : List Stmt) (at : Position) → plain_stmt (stmt place (StmtKind-F.If [] other)) at
    ≡ If (label_at at) place (never place) (plain_block other (inside (label_at at) 0)) (plain_block other (inside (label_at at) 1))
no_arms place other at = rw (fold-roll-Stmt, fold-roll-StmtKind) refl

branching_written : (place : Place) (arms : List Arm) (other : List Stmt) → EachArm Fine arms → Each Fine other →
    Fine (stmt place (StmtKind-F.If arms other))
branching_written place [] other each others at =
    of_plain _ _ (no_arms place other at) (inner other (label_at at) 0 others, inner other (label_at at) 1 others)
branching_written place (arm ∷ rest) other each others at =
    of_plain _ _ (plain_statements.branching place at arm rest other) (
      inner (out-Arm arm).body (label_at at) 0 (All-head (λ arm. Each Fine (out-Arm arm).body) arm rest each),
      arms_written (passed_one (label_at at)) rest other (All-tail (λ arm. Each Fine (out-Arm arm).body) arm rest each) others,
    )

cases : Cases Fine
cases = record {
  declare = λ place k initial at. of_plain _ _ (plain_statements.declaration place at k initial) tt;
  assign = λ place path e at. of_plain _ _ (plain_statements.assignment place at path e) tt;
  call = λ place f inputs outputs at. of_plain _ _ (plain_statements.call place at f inputs outputs) tt;
  await = λ place e at. of_plain _ _ (plain_statements.pause place at e) tt;
  run = λ place target a inputs outputs at. of_plain _ _ (plain_statements.run place at target a inputs outputs) tt;
  branching = branching_written;
  cobegin = λ place branches each at. of_plain _ _ (plain_statements.parallel place at branches) (bodies_written branches 0 (label_at at) each);
  guarded = λ place guard e body each at. of_plain _ _ (plain_statements.guarded place at guard e body) (inner body (label_at at) 0 each);
  repeat = λ place body each at. of_plain _ _ (plain_statements.endless place at body) (inner body (label_at at) 0 each);
  until = λ place body e each at. of_plain _ _ (plain_statements.until place at body e) (inner body (label_at at) 0 each);
  while = λ place e body each at. of_plain _ _ (plain_statements.while place at e body) (inner body (label_at at) 0 each);
  returns = λ place e at. of_plain _ _ (plain_statements.returns place at e) tt;
}

written : (s : Stmt) → Fine s
written = induct Fine cases

each_written : (body : List Stmt) → Each Fine body
each_written body k s lt = written _

-- so it is in a body
pub body_written : (body : List Stmt) → WrittenIn (plain_body body)
body_written body = block_written body 0 [] (each_written body)
