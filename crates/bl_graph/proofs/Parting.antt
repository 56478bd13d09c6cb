-- Nodes in different branches of one `cobegin` have different labels.
use Rattle.std.proofs.Common.{◌≡◌, ℕ, suc, ◌≤◌, Bool, true, false, inl, inr, List, [], ◌∷◌, ◌++◌, map, sym, subst, arith}
use Rattle.std.proofs.lemmas.List.Elements.{All-head, All-tail}
use Rattle.bl_tree.specs.declared.place.Place.{Place}
use Rattle.bl_tree.specs.declared.tree.Arm.{Arm, out-Arm}
use Rattle.bl_tree.specs.declared.tree.Branch.{Branch, out-Branch}
use Rattle.bl_tree.specs.declared.tree.Stmt.{Stmt, fold-roll-Stmt}
use Rattle.bl_tree.specs.declared.tree.StmtKind.{fold-roll-StmtKind}
use Rattle.bl_tree.specs.declared.tree.StmtKind.TheOpen.{StmtKind-F}
use Rattle.bl_tree.proofs.StmtInduction.{Cases, Each, EachArm, EachBranch, induct, stmt}
use Rattle.bl_graph_nodes.specs.Laws.{Begins, Below, LabelsAreBelow, PlainStatements, PositionsPart, plain_arm, plain_branch}
use Rattle.bl_graph_nodes.specs.Nodes.{Node, label_of, nodes_in, nodes_in_each}
use Rattle.bl_graph_nodes.specs.Plain.{Label, Plain, Position, block_from, bodies_from, else_at, inside, label_at, passed_one, plain_block, plain_stmt}
use Rattle.bl_graph.specs.DataEdges.{Across, Beside, BesideAll, BesideEach}
use Rattle.bl_graph.specs.Edges.{In, InEach}
use Rattle.bl_graph.specs.Laws.{BranchesPart}
use Rattle.bl_graph.proofs.Staying.{Has, has_cases, part_each, part_in}

below_has : (at : Position) (xs : List Node) (n : Node) → Below at xs → Has xs n → Begins at (label_of n).position
below_has at [] n below h = elim h [ ]
below_has at (x ∷ xs) n below (inl e) = subst (λ y. Begins at (label_of y).position) (sym e) below.0
below_has at (x ∷ xs) n below (inr h) = below_has at xs n below.1 h

-- a node of one of the branches from the one with number k on
record Past (l : Label) (k : ℕ) (n : Node) : Type 0 where
  number : ℕ
  past : k ≤ number
  begins : Begins (inside l number) (label_of n).position

abbrev Parted : Stmt → Type 0
Parted s = (at : Position) (n m : Node) → Beside (plain_stmt s at) n m → (label_of n).position ≡ (label_of m).position → ⊥

block_parted : (body : List Stmt) (k : ℕ) (block : Position) → Each Parted body → (n m : Node) →
    BesideAll (block_from (map plain_stmt body) k block) n m → (label_of n).position ≡ (label_of m).position → ⊥
block_parted [] k block each n m h same = elim h [ ]
block_parted (s ∷ rest) k block each n m (inl h) same = All-head Parted s rest each (block ++ k ∷ []) n m h same
block_parted (s ∷ rest) k block each n m (inr h) same = block_parted rest (suc k) block (All-tail Parted s rest each) n m h same

arms_parted : (l : Label) (arms : List Arm) (other : List Stmt) → EachArm Parted arms → Each Parted other → (n m : Node) →
    BesideAll (else_at l (map plain_arm arms) (plain_block other)) n m → (label_of n).position ≡ (label_of m).position → ⊥
arms_parted l [] other each others n m h same = block_parted other 0 (inside l l.passed) others n m h same
arms_parted l (arm ∷ rest) other each others n m (inl (inl h)) same =
    block_parted (out-Arm arm).body 0 (inside l l.passed) (All-head (λ arm. Each Parted (out-Arm arm).body) arm rest each) n m h same
arms_parted l (arm ∷ rest) other each others n m (inl (inr h)) same =
    arms_parted (passed_one l) rest other (All-tail (λ arm. Each Parted (out-Arm arm).body) arm rest each) others n m h same
arms_parted l (arm ∷ rest) other each others n m (inr h) same = elim h [ ]

module _ (labels : LabelsAreBelow) (part : PositionsPart) (made : PlainStatements) where
  inner_begins : (body : List Stmt) (l : Label) (k : ℕ) (n : Node) → Has (nodes_in (plain_block body (inside l k))) n →
      Begins (inside l k) (label_of n).position
  inner_begins body l k n h = below_has (inside l k) _ n (labels.blocks body (inside l k)) h

  bodies_past : (branches : List Branch) (k : ℕ) (l : Label) (n : Node) → Has (nodes_in_each (bodies_from (map plain_branch branches) k l)) n → Past l k n
  bodies_past [] k l n h = elim h [ ]
  bodies_past (b ∷ rest) k l n h =
      elim (has_cases (nodes_in (plain_block (out-Branch b).body (inside l k))) (nodes_in_each (bodies_from (map plain_branch rest) (suc k) l)) n h) [
        | inl one ↦ record { number = k; past = omega arith; begins = inner_begins (out-Branch b).body l k n one }
        | inr further ↦ let past = bodies_past rest (suc k) l n further in let more : suc k ≤ past.number = past.past in
            record { number = past.number; past = omega arith; begins = past.begins }
      ]

  -- no node of a branch is in the same place as one of a later branch
  later_parted : (l : Label) (k : ℕ) (n m : Node) → Begins (inside l k) (label_of n).position → Past l (suc k) m →
      (label_of n).position ≡ (label_of m).position → ⊥
  later_parted l k n m begins past same =
      let number = part l.position (label_of m).position k past.number (subst (Begins (inside l k)) same begins) past.begins in
      let more : suc k ≤ past.number = past.past in
      omega arith

  across_parted : (deep : Bool) (b : Branch) (rest : List Branch) (k : ℕ) (l : Label) (n m : Node) →
      Across (In deep (plain_block (out-Branch b).body (inside l k))) (InEach deep (bodies_from (map plain_branch rest) (suc k) l)) n m →
      (label_of n).position ≡ (label_of m).position → ⊥
  across_parted deep b rest k l n m (inl h) same =
      let one = inner_begins (out-Branch b).body l k n (part_in deep (plain_block (out-Branch b).body (inside l k)) n h.0) in
      let other = bodies_past rest (suc k) l m (part_each deep (bodies_from (map plain_branch rest) (suc k) l) m h.1) in
      later_parted l k n m one other same
  across_parted deep b rest k l n m (inr h) same =
      let one = inner_begins (out-Branch b).body l k m (part_in deep (plain_block (out-Branch b).body (inside l k)) m h.1) in
      let other = bodies_past rest (suc k) l n (part_each deep (bodies_from (map plain_branch rest) (suc k) l) n h.0) in
      later_parted l k m n one other (sym same)

  bodies_parted : (branches : List Branch) (k : ℕ) (l : Label) → EachBranch Parted branches → (n m : Node) →
      BesideEach (bodies_from (map plain_branch branches) k l) n m → (label_of n).position ≡ (label_of m).position → ⊥
  bodies_parted [] k l each n m h same = elim h [ ]
  bodies_parted (b ∷ rest) k l each n m (inl h) same =
      block_parted (out-Branch b).body 0 (inside l k) (All-head (λ b. Each Parted (out-Branch b).body) b rest each) n m h same
  bodies_parted (b ∷ rest) k l each n m (inr (inl h)) same = across_parted false b rest k l n m h same
  bodies_parted (b ∷ rest) k l each n m (inr (inr (inl h))) same = across_parted true b rest k l n m h same
  bodies_parted (b ∷ rest) k l each n m (inr (inr (inr h))) same =
      bodies_parted rest (suc k) l (All-tail (λ b. Each Parted (out-Branch b).body) b rest each) n m h same

  of_plain : (one other : Plain) (n m : Node) → one ≡ other → Beside one n m → Beside other n m
  of_plain one other n m is h = subst (λ s. Beside s n m) is h

  -- a statement in which none stands
  lone : (one other : Plain) (n m : Node) → one ≡ other → (Beside other n m → ⊥) → Beside one n m → ⊥
  lone one other n m is none h = none (of_plain one other n m is h)

  branching_parted : (place : Place) (arms : List Arm) (other : List Stmt) → EachArm Parted arms → Each Parted other →
      Parted (stmt place (StmtKind-F.If arms other))
  branching_parted place [] other each others at n m = rw (fold-roll-Stmt, fold-roll-StmtKind) (λ h same. elim h [
    | inl one ↦ block_parted other 0 (inside (label_at at) 0) others n m one same
    | inr one ↦ block_parted other 0 (inside (label_at at) 1) others n m one same
  ])
  branching_parted place (arm ∷ rest) other each others at n m = λ h same.
      elim (of_plain _ _ n m (made.branching place at arm rest other) h) [
        | inl one ↦ block_parted (out-Arm arm).body 0 (inside (label_at at) 0) (All-head (λ arm. Each Parted (out-Arm arm).body) arm rest each) n m one same
        | inr one ↦ arms_parted (passed_one (label_at at)) rest other (All-tail (λ arm. Each Parted (out-Arm arm).body) arm rest each) others n m one same
      ]

  cases : Cases Parted
  cases = record {
    declare = λ place k initial at n m h same. lone _ _ n m (made.declaration place at k initial) (λ none. none) h;
    assign = λ place path e at n m h same. lone _ _ n m (made.assignment place at path e) (λ none. none) h;
    call = λ place f inputs outputs at n m h same. lone _ _ n m (made.call place at f inputs outputs) (λ none. none) h;
    await = λ place e at n m h same. lone _ _ n m (made.pause place at e) (λ none. none) h;
    run = λ place target a inputs outputs at n m h same. lone _ _ n m (made.run place at target a inputs outputs) (λ none. none) h;
    branching = branching_parted;
    cobegin = λ place branches each at n m h same. bodies_parted branches 0 (label_at at) each n m (of_plain _ _ n m (made.parallel place at branches) h) same;
    guarded = λ place guard e body each at n m h same. block_parted body 0 (inside (label_at at) 0) each n m
        (of_plain _ _ n m (made.guarded place at guard e body) h) same;
    repeat = λ place body each at n m h same. block_parted body 0 (inside (label_at at) 0) each n m
        (of_plain _ _ n m (made.endless place at body) h) same;
    until = λ place body e each at n m h same. block_parted body 0 (inside (label_at at) 0) each n m
        (of_plain _ _ n m (made.until place at body e) h) same;
    while = λ place e body each at n m h same. block_parted body 0 (inside (label_at at) 0) each n m
        (of_plain _ _ n m (made.while place at e body) h) same;
    returns = λ place e at n m h same. lone _ _ n m (made.returns place at e) (λ none. none) h;
  }

  parted : (s : Stmt) → Parted s
  parted = induct Parted cases

  each_parted : (body : List Stmt) → Each Parted body
  each_parted body k s lt = parted _

  pub branches_part : BranchesPart
  branches_part body at n m h same = block_parted body 0 at (each_parted body) n m h same
