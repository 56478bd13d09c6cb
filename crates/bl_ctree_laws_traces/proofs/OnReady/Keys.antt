-- The nodes of a body differ by their labels and sorts: no two of them have one label and one sort.
use Rattle.std.proofs.Common.{◌≡◌, ℕ, zero, suc, ◌≤◌, Bool, true, false, ◌⊎◌, inl, inr, List, [], ◌∷◌, ◌++◌, map, Some, refl, ap, sym, ◌∙◌, subst, arith}
use Rattle.std.specs.Prelude.{slice_get, ⊤}
use Rattle.std.proofs.lemmas.List.Elements.{All-head, All-tail}
use Rattle.bl_tree.specs.declared.place.Place.{Place}
use Rattle.bl_tree.specs.declared.tree.Arm.{Arm, out-Arm}
use Rattle.bl_tree.specs.declared.tree.Branch.{Branch, out-Branch}
use Rattle.bl_tree.specs.declared.tree.Expr.{Expr}
use Rattle.bl_tree.specs.declared.tree.Guard.{Guard}
use Rattle.bl_tree.specs.declared.tree.Stmt.{Stmt, fold-roll-Stmt}
use Rattle.bl_tree.specs.declared.tree.StmtKind.{fold-roll-StmtKind}
use Rattle.bl_tree.specs.declared.tree.StmtKind.TheOpen.{StmtKind-F}
use Rattle.bl_tree.proofs.StmtInduction.{Cases, Each, EachArm, EachBranch, induct, stmt}
use Rattle.bl_graph_nodes.specs.Nodes.{ActAt, CheckAt, DepthEndAt, DepthJoinAt, EnterAt, ForkAt, HeadAt, Node, PauseAt, ResumeAt, StartAt, SurfaceEndAt}
use Rattle.bl_graph_nodes.specs.Nodes.{SurfaceJoinAt, TestAt, are_instant, is_instant, label_of, nodes_in, nodes_in_each, nodes_of, where_so}
use Rattle.bl_graph_nodes.specs.Plain.{Block, Bodies, Cobegin, Label, Plain, Position, block_from, bodies_from, else_at, inside, label_at, never, passed_one}
use Rattle.bl_graph_nodes.specs.Plain.{place_of_test, plain_block, plain_stmt}
use Rattle.bl_graph_nodes.specs.Laws.{Begins, Below, plain_arm, plain_branch}
use Rattle.bl_graph_nodes.proofs.Equations.{plain_statements}
use Rattle.bl_graph_nodes.proofs.Labels.{low, one_on, positions_part, through}
use Rattle.bl_graph_nodes.proofs.Differing.{is_no_further, none_is_some, some_same, blocks_apart}

-- ---- what tells nodes apart

-- the sort of a node as a number
abbrev pub sort_of : Node → ℕ
sort_of (ActAt l s) = 0
sort_of (TestAt l at e) = 1
sort_of (PauseAt l at) = 2
sort_of (EnterAt l at arguments) = 3
sort_of (ResumeAt l at arguments) = 4
sort_of (HeadAt l at) = 5
sort_of (StartAt l at) = 6
sort_of (CheckAt l at e) = 7
sort_of (SurfaceEndAt l at) = 8
sort_of (DepthEndAt l at) = 9
sort_of (ForkAt l at) = 10
sort_of (SurfaceJoinAt l at) = 11
sort_of (DepthJoinAt l at) = 12

-- the nodes have one label and one sort
pub record Same (n m : Node) : Type 0 where
  pub label : label_of n ≡ label_of m
  pub sort : sort_of n ≡ sort_of m

pub itself : (n : Node) → Same n n
itself n = record { label = refl; sort = refl }

-- ---- lists without repetition

abbrev pub Has : List Node → Node → Type 0
Has [] n = ⊥
Has (x ∷ xs) n = Same n x ⊎ Has xs n

abbrev pub Differ : List Node → Type 0
Differ [] = ⊤
Differ (x ∷ xs) = (Has xs x → ⊥) × Differ xs

abbrev Disjoint : List Node → List Node → Type 0
Disjoint xs ys = (n : Node) → Has xs n → Has ys n → ⊥

has_cases : (xs ys : List Node) (n : Node) → Has (xs ++ ys) n → Has xs n ⊎ Has ys n
has_cases [] ys n h = inr h
has_cases (x ∷ xs) ys n (inl e) = inl (inl e)
has_cases (x ∷ xs) ys n (inr h) = elim (has_cases xs ys n h) [ inl a ↦ inl (inr a) | inr b ↦ inr b ]

differ_append : (xs ys : List Node) → Differ xs → Differ ys → Disjoint xs ys → Differ (xs ++ ys)
differ_append [] ys one two apart = two
differ_append (x ∷ xs) ys one two apart = (
  λ h. elim (has_cases xs ys x h) [ inl a ↦ one.0 a | inr b ↦ apart x (inl (itself x)) b ],
  differ_append xs ys one.1 two (λ n a b. apart n (inr a) b),
)

-- a node before others, where it is there
differ_where : (test : Bool) (x : Node) (xs : List Node) → (Has xs x → ⊥) → Differ xs → Differ (where_so test x ++ xs)
differ_where true x xs apart differ = (apart, differ)
differ_where false x xs apart differ = differ

has_where : (test : Bool) (x : Node) (xs : List Node) (n : Node) → Has (where_so test x ++ xs) n → Same n x ⊎ Has xs n
has_where true x xs n h = h
has_where false x xs n h = inr h

to_first : (x n m : Node) → n ≡ x → Same n m → Same x m
to_first x n m is same = subst (λ y. Same y m) is same

pub has_at : (xs : List Node) (i : ℕ) (x n : Node) → slice_get xs i ≡ Some n → Same x n → Has xs x
has_at [] i x n is same = absurd (none_is_some n is)
has_at (y ∷ xs) zero x n is same = inl (subst (Same x) (sym (some_same y n is)) same)
has_at (y ∷ xs) (suc i) x n is same = inr (has_at xs i x n is same)

pub turned : (n m : Node) → Same n m → Same m n
turned n m same = record { label = sym same.label; sort = sym same.sort }

-- those that have one label and one sort are one
pub one_of_each : (xs : List Node) → Differ xs → (i j : ℕ) (n m : Node) → slice_get xs i ≡ Some n → slice_get xs j ≡ Some m →
    Same n m → n ≡ m
one_of_each [] differ i j n m one two same = absurd (none_is_some n one)
one_of_each (x ∷ xs) differ zero zero n m one two same = sym (some_same x n one) ∙ some_same x m two
one_of_each (x ∷ xs) differ zero (suc j) n m one two same =
    absurd (differ.0 (has_at xs j x m two (to_first x n m (sym (some_same x n one)) same)))
one_of_each (x ∷ xs) differ (suc i) zero n m one two same =
    absurd (differ.0 (has_at xs i x n one (to_first x m n (sym (some_same x m two)) (turned n m same))))
one_of_each (x ∷ xs) differ (suc i) (suc j) n m one two same = one_of_each xs differ.1 i j n m one two same

-- ---- labels

below_has : (at : Position) (xs : List Node) (n : Node) → Below at xs → Has xs n → Begins at (label_of n).position
below_has at [] n below h = elim h [ ]
below_has at (x ∷ xs) n below (inl e) = subst (λ l. Begins at l.position) (sym e.label) below.0
below_has at (x ∷ xs) n below (inr h) = below_has at xs n below.1 h

-- a node with the label of a statement isn't one of those in its blocks
own_apart : (l : Label) (k : ℕ) (own n : Node) → label_of own ≡ l → Same n own → Begins (inside l k) (label_of n).position → ⊥
own_apart l k own n labelled is begins =
    is_no_further l.position k begins.rest
    (sym (ap (λ label. label.position) labelled) ∙ sym (ap (λ label. label.position) is.label) ∙ begins.is)

-- a node in one of the blocks from the one with number k on
pub record Past (block : Position) (k : ℕ) (n : Node) : Type 0 where
  pub number : ℕ
  pub past : k ≤ number
  pub begins : Begins (block ++ number ∷ []) (label_of n).position

pub past_more : (block : Position) (j k : ℕ) (n : Node) → j ≤ k → Past block k n → Past block j n
past_more block j k n le past =
    let more = past.past in record { number = past.number; past = omega arith; begins = past.begins }

-- and so it isn't in an earlier one
pub past_apart : (block : Position) (k : ℕ) (n : Node) → Begins (block ++ k ∷ []) (label_of n).position → Past block (suc k) n → ⊥
past_apart block k n begins past =
    let same = positions_part block (label_of n).position k past.number begins past.begins in let more = past.past in omega arith

-- ---- blocks

abbrev Alone : Stmt → Type 0
Alone s = (at : Position) → Differ (nodes_of (plain_stmt s at))

block_past : (body : List Stmt) (k : ℕ) (block : Position) (n : Node) → Has (nodes_in (block_from (map plain_stmt body) k block)) n → Past block k n
block_past [] k block n h = elim h [ ]
block_past (s ∷ rest) k block n h =
    elim (has_cases (nodes_of (plain_stmt s (block ++ k ∷ []))) (nodes_in (block_from (map plain_stmt rest) (suc k) block)) n h) [
      | inl a ↦ record { number = k; past = omega arith; begins = below_has (block ++ k ∷ []) _ n (low s (block ++ k ∷ [])) a }
      | inr b ↦ past_more block k (suc k) n (omega arith) (block_past rest (suc k) block n b)
    ]

block_differs : (body : List Stmt) (k : ℕ) (block : Position) → Each Alone body → Differ (nodes_in (block_from (map plain_stmt body) k block))
block_differs [] k block each = tt
block_differs (s ∷ rest) k block each =
    differ_append _ _ (All-head Alone s rest each (block ++ k ∷ [])) (block_differs rest (suc k) block (All-tail Alone s rest each))
    (λ n a b. past_apart block k n (below_has (block ++ k ∷ []) _ n (low s (block ++ k ∷ [])) a) (block_past rest (suc k) block n b))

-- the nodes of a block in a statement
inner_begins : (body : List Stmt) (l : Label) (k : ℕ) (n : Node) → Has (nodes_in (plain_block body (inside l k))) n →
    Begins (inside l k) (label_of n).position
inner_begins body l k n h =
    let past = block_past body 0 (inside l k) n h in
    through (inside l k) (inside l k ++ past.number ∷ []) (label_of n).position (one_on (inside l k) past.number) past.begins

inner_differs : (body : List Stmt) (l : Label) (k : ℕ) → Each Alone body → Differ (nodes_in (plain_block body (inside l k)))
inner_differs body l k each = block_differs body 0 (inside l k) each

-- ---- arms

drop_nil : (xs : List Node) (n : Node) → Has (xs ++ []) n → Has xs n
drop_nil xs n h = elim (has_cases xs [] n h) [ inl one ↦ one | inr none ↦ elim none [ ] ]

-- the test of an arm of an `elseif`
abbrev pub test_of : Label → Arm → Node
test_of l arm = TestAt l (place_of_test (plain_arm arm)) (out-Arm arm).test

test_passed : (l : Label) (arm : Arm) (n : Node) → Same n (test_of l arm) → l.passed ≤ (label_of n).passed
test_passed l arm n is = let same : (label_of n).passed ≡ l.passed = ap (λ label. label.passed) is.label in omega arith

-- a test of an `elseif` from the one with this label on, or a node in a block from its own on
abbrev pub Later : Label → Node → Type 0
Later l n = (((label_of n).position ≡ l.position) × (l.passed ≤ (label_of n).passed)) ⊎ Past l.position l.passed n

pub later_more : (l : Label) (n : Node) → Later (passed_one l) n → Later l n
later_more l n (inl own) = let more = own.1 in inl (own.0, omega arith)
later_more l n (inr past) = inr (past_more l.position l.passed (suc l.passed) n (omega arith) past)

arms_later : (l : Label) (arms : List Arm) (other : List Stmt) (n : Node) →
    Has (nodes_in (else_at l (map plain_arm arms) (plain_block other))) n → Later l n
arms_later l [] other n h = inr (record { number = l.passed; past = omega arith; begins = inner_begins other l l.passed n h })
arms_later l (arm ∷ rest) other n h =
    let body : List Node = nodes_in (plain_block (out-Arm arm).body (inside l l.passed)) in
    let others : List Node = nodes_in (else_at (passed_one l) (map plain_arm rest) (plain_block other)) in
    elim (drop_nil (test_of l arm ∷ (body ++ others)) n h) [
      | inl own ↦ inl (ap (λ label. label.position) own.label, test_passed l arm n own)
      | inr inner ↦ elim (has_cases body others n inner) [
        | inl one ↦ inr (record { number = l.passed; past = omega arith; begins = inner_begins (out-Arm arm).body l l.passed n one })
        | inr further ↦ later_more l n (arms_later (passed_one l) rest other n further)
      ]
    ]

-- the first test with this label is none of the later ones, and in no block
test_apart : (l : Label) (own n : Node) → label_of own ≡ l → Same n own → Later (passed_one l) n → ⊥
test_apart l own n labelled is (inl later) =
    let more : suc l.passed ≤ (label_of n).passed = later.1 in
    let same : (label_of n).passed ≡ l.passed = ap (λ label. label.passed) is.label ∙ ap (λ label. label.passed) labelled in
    omega arith
test_apart l own n labelled is (inr past) = own_apart l past.number own n labelled is past.begins

-- a node in a block is none of the later tests, and in no later block
pub arm_apart : (l : Label) (k : ℕ) (n : Node) → Begins (inside l k) (label_of n).position →
    Later (record { position = l.position; passed = suc k }) n → ⊥
arm_apart l k n begins (inl later) = is_no_further l.position k begins.rest (sym later.0 ∙ begins.is)
arm_apart l k n begins (inr past) = past_apart l.position k n begins past

arms_differ : (l : Label) (arms : List Arm) (other : List Stmt) → EachArm Alone arms → Each Alone other →
    Differ (nodes_in (else_at l (map plain_arm arms) (plain_block other)))
arms_differ l [] other each others = inner_differs other l l.passed others
arms_differ l (arm ∷ rest) other each others =
    let body : List Node = nodes_in (plain_block (out-Arm arm).body (inside l l.passed)) in
    let further : List Node = nodes_in (else_at (passed_one l) (map plain_arm rest) (plain_block other)) in
    differ_append (test_of l arm ∷ (body ++ further)) [] (
      λ h. elim (has_cases body further (test_of l arm) h) [
        | inl a ↦ own_apart l l.passed (test_of l arm) (test_of l arm) refl (itself (test_of l arm))
            (inner_begins (out-Arm arm).body l l.passed (test_of l arm) a)
        | inr b ↦ test_apart l (test_of l arm) (test_of l arm) refl (itself (test_of l arm)) (arms_later (passed_one l) rest other (test_of l arm) b)
      ],
      differ_append body further (inner_differs (out-Arm arm).body l l.passed (All-head (λ arm. Each Alone (out-Arm arm).body) arm rest each))
          (arms_differ (passed_one l) rest other (All-tail (λ arm. Each Alone (out-Arm arm).body) arm rest each) others)
          (λ n a b. arm_apart l l.passed n (inner_begins (out-Arm arm).body l l.passed n a) (arms_later (passed_one l) rest other n b)),
    ) tt (λ n a b. elim b [ ])

-- ---- branches

bodies_past : (branches : List Branch) (k : ℕ) (l : Label) (n : Node) → Has (nodes_in_each (bodies_from (map plain_branch branches) k l)) n →
    Past l.position k n
bodies_past [] k l n h = elim h [ ]
bodies_past (b ∷ rest) k l n h =
    elim (has_cases (nodes_in (plain_block (out-Branch b).body (inside l k))) (nodes_in_each (bodies_from (map plain_branch rest) (suc k) l)) n h) [
      | inl one ↦ record { number = k; past = omega arith; begins = inner_begins (out-Branch b).body l k n one }
      | inr further ↦ past_more l.position k (suc k) n (omega arith) (bodies_past rest (suc k) l n further)
    ]

bodies_differ : (branches : List Branch) (k : ℕ) (l : Label) → EachBranch Alone branches →
    Differ (nodes_in_each (bodies_from (map plain_branch branches) k l))
bodies_differ [] k l each = tt
bodies_differ (b ∷ rest) k l each =
    differ_append _ _ (inner_differs (out-Branch b).body l k (All-head (λ b. Each Alone (out-Branch b).body) b rest each))
    (bodies_differ rest (suc k) l (All-tail (λ b. Each Alone (out-Branch b).body) b rest each))
    (λ n one further. past_apart l.position k n (inner_begins (out-Branch b).body l k n one) (bodies_past rest (suc k) l n further))

-- ---- statements

of_plain : (one other : Plain) → one ≡ other → Differ (nodes_of other) → Differ (nodes_of one)
of_plain one other is differ = subst (λ s. Differ (nodes_of s)) (sym is) differ

-- the first node of a statement, before those in its only block
before_body : (l : Label) (own : Node) (body : List Stmt) → label_of own ≡ l → Has (nodes_in (plain_block body (inside l 0))) own → ⊥
before_body l own body labelled h = own_apart l 0 own own labelled (itself own) (inner_begins body l 0 own h)

branching_differs : (place : Place) (arms : List Arm) (other : List Stmt) → EachArm Alone arms → Each Alone other →
    Alone (stmt place (StmtKind-F.If arms other))
branching_differs place [] other each others at = rw (fold-roll-Stmt, fold-roll-StmtKind) (
  λ h. elim (has_cases (nodes_in (plain_block other (inside (label_at at) 0))) (nodes_in (plain_block other (inside (label_at at) 1)))
      (TestAt (label_at at) place (never place)) h) [
        | inl a ↦ before_body (label_at at) (TestAt (label_at at) place (never place)) other refl a
        | inr b ↦ own_apart (label_at at) 1 (TestAt (label_at at) place (never place))
            (TestAt (label_at at) place (never place)) refl (itself (TestAt (label_at at) place (never place)))
            (inner_begins other (label_at at) 1 (TestAt (label_at at) place (never place)) b)
      ],
  differ_append (nodes_in (plain_block other (inside (label_at at) 0))) (nodes_in (plain_block other (inside (label_at at) 1)))
      (inner_differs other (label_at at) 0 others) (inner_differs other (label_at at) 1 others)
      (λ n a b. blocks_apart other (label_at at) n (inner_begins other (label_at at) 0 n a) (inner_begins other (label_at at) 1 n b)),
)
branching_differs place (arm ∷ rest) other each others at =
    let l : Label = label_at at in
    let body : List Node = nodes_in (plain_block (out-Arm arm).body (inside l 0)) in
    let further : List Node = nodes_in (else_at (passed_one l) (map plain_arm rest) (plain_block other)) in
    let test : Node = TestAt l place (out-Arm arm).test in
    of_plain _ _ (plain_statements.branching place at arm rest other) (
      λ h. elim (has_cases body further test h) [
        | inl a ↦ before_body l test (out-Arm arm).body refl a
        | inr b ↦ test_apart l test test refl (itself test) (arms_later (passed_one l) rest other test b)
      ],
      differ_append body further (inner_differs (out-Arm arm).body l 0 (All-head (λ arm. Each Alone (out-Arm arm).body) arm rest each))
          (arms_differ (passed_one l) rest other (All-tail (λ arm. Each Alone (out-Arm arm).body) arm rest each) others)
          (λ n a b. arm_apart l 0 n (inner_begins (out-Arm arm).body l 0 n a) (arms_later (passed_one l) rest other n b)),
    )

-- the own nodes of a `cobegin` and of a `when` are of different kinds
fork_surface : (l : Label) (place : Place) → Same (ForkAt l place) (SurfaceJoinAt l place) → ⊥
fork_surface l place same = let is = same.sort in absurd (omega arith)

fork_depth : (l : Label) (place : Place) → Same (ForkAt l place) (DepthJoinAt l place) → ⊥
fork_depth l place same = let is = same.sort in absurd (omega arith)

joins_part : (l : Label) (place : Place) → Same (SurfaceJoinAt l place) (DepthJoinAt l place) → ⊥
joins_part l place same = let is = same.sort in absurd (omega arith)

start_surface : (l : Label) (place : Place) → Same (StartAt l place) (SurfaceEndAt l place) → ⊥
start_surface l place same = let is = same.sort in absurd (omega arith)

start_check : (l : Label) (place : Place) (e : Expr) → Same (StartAt l place) (CheckAt l place e) → ⊥
start_check l place e same = let is = same.sort in absurd (omega arith)

start_depth : (l : Label) (place : Place) → Same (StartAt l place) (DepthEndAt l place) → ⊥
start_depth l place same = let is = same.sort in absurd (omega arith)

surface_check : (l : Label) (place : Place) (e : Expr) → Same (SurfaceEndAt l place) (CheckAt l place e) → ⊥
surface_check l place e same = let is = same.sort in absurd (omega arith)

ends_part : (l : Label) (place : Place) → Same (SurfaceEndAt l place) (DepthEndAt l place) → ⊥
ends_part l place same = let is = same.sort in absurd (omega arith)

check_depth : (l : Label) (place : Place) (e : Expr) → Same (CheckAt l place e) (DepthEndAt l place) → ⊥
check_depth l place e same = let is = same.sort in absurd (omega arith)

cobegin_differs : (place : Place) (branches : List Branch) → EachBranch Alone branches → Alone (stmt place (StmtKind-F.Cobegin branches))
cobegin_differs place branches each at =
    let l : Label = label_at at in
    let bodies : Bodies = bodies_from (map plain_branch branches) 0 l in
    let inner : List Node = nodes_in_each bodies in
    let so : Bool = is_instant (Cobegin l place bodies) in
    let none : (own : Node) → label_of own ≡ l → Has inner own → ⊥ =
    λ own labelled h. let past = bodies_past branches 0 l own h in own_apart l past.number own own labelled (itself own) past.begins in
    of_plain _ _ (plain_statements.parallel place at branches) (
      λ h. elim (has_where so (SurfaceJoinAt l place) (DepthJoinAt l place ∷ inner) (ForkAt l place) h) [
        | inl e ↦ fork_surface l place e
        | inr rest ↦ elim rest [ inl e ↦ fork_depth l place e | inr b ↦ none (ForkAt l place) refl b ]
      ],
      differ_where so (SurfaceJoinAt l place) (DepthJoinAt l place ∷ inner)
          (λ h. elim h [ inl e ↦ joins_part l place e | inr b ↦ none (SurfaceJoinAt l place) refl b ])
          (λ h. none (DepthJoinAt l place) refl h, bodies_differ branches 0 l each),
    )

guarded_differs : (place : Place) (guard : Guard) (e : Expr) (body : List Stmt) → Each Alone body → Alone (stmt place (StmtKind-F.When guard e body))
guarded_differs place guard e body each at =
    let l : Label = label_at at in
    let block : Block = plain_block body (inside l 0) in
    let inner : List Node = nodes_in block in
    let so : Bool = are_instant block in
    of_plain _ _ (plain_statements.guarded place at guard e body) (
      λ h. elim (has_where so (SurfaceEndAt l place) (CheckAt l place e ∷ DepthEndAt l place ∷ inner) (StartAt l place) h) [
        | inl is ↦ start_surface l place is
        | inr rest ↦ elim rest [
          | inl is ↦ start_check l place e is
          | inr last ↦ elim last [ inl is ↦ start_depth l place is | inr b ↦ before_body l (StartAt l place) body refl b ]
        ]
      ],
      differ_where so (SurfaceEndAt l place) (CheckAt l place e ∷ DepthEndAt l place ∷ inner)
          (λ h. elim h [
            | inl is ↦ surface_check l place e is
            | inr rest ↦ elim rest [ inl is ↦ ends_part l place is | inr b ↦ before_body l (SurfaceEndAt l place) body refl b ]
          ]) (
            λ h. elim h [ inl is ↦ check_depth l place e is | inr b ↦ before_body l (CheckAt l place e) body refl b ],
            (λ h. before_body l (DepthEndAt l place) body refl h, inner_differs body l 0 each),
          ),
    )

head_test : (l : Label) (place : Place) (e : Expr) → Same (HeadAt l place) (TestAt l place e) → ⊥
head_test l place e same = let is = same.sort in absurd (omega arith)

pair : (n m : Node) → (Same n m → ⊥) → Differ (n ∷ m ∷ [])
pair n m apart = (λ h. elim h [ inl e ↦ apart e | inr none ↦ elim none [ ] ], (λ h. elim h [ ], tt))

cases : Cases Alone
cases = record {
  declare = λ place k initial at. of_plain _ _ (plain_statements.declaration place at k initial) (λ h. elim h [ ], tt);
  assign = λ place path e at. of_plain _ _ (plain_statements.assignment place at path e) (λ h. elim h [ ], tt);
  call = λ place f inputs outputs at. of_plain _ _ (plain_statements.call place at f inputs outputs) (λ h. elim h [ ], tt);
  await = λ place e at. of_plain _ _ (plain_statements.pause place at e) (pair _ _ (λ same. let is = same.sort in absurd (omega arith)));
  run = λ place target a inputs outputs at. of_plain _ _ (plain_statements.run place at target a inputs outputs)
      (pair _ _ (λ same. let is = same.sort in absurd (omega arith)));
  branching = branching_differs;
  cobegin = cobegin_differs;
  guarded = guarded_differs;
  repeat = λ place body each at. of_plain _ _ (plain_statements.endless place at body)
      (before_body (label_at at) (HeadAt (label_at at) place) body refl, inner_differs body (label_at at) 0 each);
  until = λ place body e each at. of_plain _ _ (plain_statements.until place at body e) (
    λ h. elim h [ inl is ↦ head_test (label_at at) place e is | inr b ↦ before_body (label_at at) (HeadAt (label_at at) place) body refl b ],
    (before_body (label_at at) (TestAt (label_at at) place e) body refl, inner_differs body (label_at at) 0 each),
  );
  while = λ place e body each at. of_plain _ _ (plain_statements.while place at e body)
      (before_body (label_at at) (TestAt (label_at at) place e) body refl, inner_differs body (label_at at) 0 each);
  returns = λ place e at. of_plain _ _ (plain_statements.returns place at e) (λ h. elim h [ ], tt);
}

alone : (s : Stmt) → Alone s
alone = induct Alone cases

each_alone : (body : List Stmt) → Each Alone body
each_alone body k s lt = alone _

-- in the block of a body
pub bodies_differ_so : (body : List Stmt) (at : Position) → Differ (nodes_in (plain_block body at))
bodies_differ_so body at = block_differs body 0 at (each_alone body)
