-- What a statement that begins can write before it pauses is what its surface says, by its tree and by its nodes.
use Rattle.std.proofs.Common.{◌≡◌, ℕ, suc, Bool, true, false, ◌&&◌, ◌||◌, List, [], ◌∷◌, ◌++◌, map, refl, ap, sym, ◌∙◌, append_assoc, inl, inr}
use Rattle.std.specs.Prelude.{if◌then◌else◌}
use Rattle.std.specs.List.{list_any}
use Rattle.std.proofs.lemmas.List.Elements.{All-head, All-tail}
use Rattle.std.proofs.lemmas.List.Folds.{list_any-append}
use Rattle.bl_tree.proofs.Basics.{and_false, or_false, or_true}
use Rattle.bl_tree.specs.declared.place.Place.{Place}
use Rattle.bl_tree.specs.declared.static_path.Static.{Static}
use Rattle.bl_tree.specs.declared.tree.Arm.{Arm, out-Arm, fold-Arm, fold_out-Arm}
use Rattle.bl_tree.specs.declared.tree.Branch.{Branch, out-Branch, fold-Branch, fold_out-Branch}
use Rattle.bl_tree.specs.declared.tree.Stmt.{Stmt, fold-roll-Stmt, fold_out-Stmt, out-Stmt}
use Rattle.bl_tree.specs.declared.tree.StmtKind.{StmtKind, fold-StmtKind, fold-roll-StmtKind, fold_out-StmtKind, map-StmtKind}
use Rattle.bl_tree.specs.declared.tree.StmtKind.TheOpen.{StmtKind-F}
use Rattle.bl_tree.specs.Effects.{writes}
use Rattle.bl_tree.specs.Reduce.{joined}
use Rattle.bl_tree.specs.Static.{set_of, static_of}
use Rattle.bl_tree.proofs.StmtInduction.{Cases, Each, EachArm, EachBranch, induct, stmt}
use Rattle.bl_effects.specs.Surface.{BranchSurface, Surface, arm_surface, block_surface, branch_surface, kind_surface, kind_surface_writes, stmt_surface}
use Rattle.bl_effects.specs.Surface.{surface_of}
use Rattle.bl_effects.proofs.InstantLemmas.{surface_agrees}
use Rattle.bl_effects.proofs.SetLemmas.{In, in_set, set_in}
use Rattle.bl_graph_nodes.specs.Laws.{plain_arm, plain_branch}
use Rattle.bl_graph_nodes.specs.Nodes.{is_instant}
use Rattle.bl_graph_nodes.specs.Plain.{Act, Again, Await, Block, Bodies, Body, Cobegin, Done, If, Label, Last, Plain, Position, Repeat, Run, Then, Until, When}
use Rattle.bl_graph_nodes.specs.Plain.{While, block_from, bodies_from, else_at, inside, label_at, passed_one, plain_block, plain_stmt}
use Rattle.bl_graph_nodes.specs.Writes.{surface_writes, surface_writes_in, surface_writes_in_each}
use Rattle.bl_graph_nodes.proofs.Equations.{made_of_parts}
use Rattle.bl_graph_nodes.proofs.Instants.{instant_is}
use Rattle.bl_ctree.specs.Positions.{Located, is_act, kind_of, place_of, stmt_kind}
use Rattle.bl_ctree_laws.specs.Bridge.{label_of, plain_at, plain_kind}
use Rattle.bl_ctree_laws.specs.Pending.{soon, soon_in, soon_in_each}
use Rattle.bl_ctree_laws.specs.Soon.{SoonIsSurface}
use Rattle.bl_ctree_laws.proofs.PlainKinds.{by_kind}
use Rattle.bl_graph_nodes.proofs.Instants.{or_same}

-- ---- tests over lists

any_if : (test : Static → Bool) (b : Bool) (xs : List Static) → list_any test (if b then xs else []) ≡ (b && list_any test xs)
any_if test true xs = refl
any_if test false xs = refl

-- ---- the surface of a statement by its kind

-- the same from each list as from the other
pub bool_same : (a b : Bool) → (a ≡ true → b ≡ true) → (b ≡ true → a ≡ true) → a ≡ b
bool_same true true f g = refl
bool_same true false f g = sym (f refl)
bool_same false true f g = g refl
bool_same false false f g = refl

-- a member that passes
pub record Passes (test : Static → Bool) (xs : List Static) : Type 0 where
  pub one : Static
  pub among : In one xs
  pub passes : test one ≡ true

pub passing : (test : Static → Bool) (xs : List Static) → list_any test xs ≡ true → Passes test xs
passing test [] e = absurd cc
passing test (x ∷ xs) e = by_test (test x) refl (λ h. passing test xs h) e
  where
    by_test : (b : Bool) → test x ≡ b → (list_any test xs ≡ true → Passes test xs) → (b || list_any test xs) ≡ true → Passes test (x ∷ xs)
    by_test true is more h = record { one = x; among = inl refl; passes = is }
    by_test false is more h = let p = more h in record { one = p.one; among = inr p.among; passes = p.passes }

pub passed : (test : Static → Bool) (xs : List Static) (one : Static) → In one xs → test one ≡ true → list_any test xs ≡ true
passed test [] one m e = elim m [ ]
passed test (x ∷ xs) one (inl is) e = ap (λ b. b || list_any test xs) (ap test (sym is) ∙ e)
passed test (x ∷ xs) one (inr m) e = ap (λ b. test x || b) (passed test xs one m e) ∙ or_true (test x)

-- a set passes where its list does
pub set_passes : (test : Static → Bool) (xs : List Static) → list_any test (set_of xs) ≡ list_any test xs
set_passes test xs =
    bool_same (list_any test (set_of xs)) (list_any test xs)
    (λ e. let p = passing test (set_of xs) e in passed test xs p.one (in_set p.one xs p.among) p.passes)
    (λ e. let p = passing test xs e in passed test (set_of xs) p.one (set_in p.one xs p.among) p.passes)

-- ---- surfaces by kinds

abbrev surface_of_kind : StmtKind → Surface
surface_of_kind = fold-StmtKind Surface Surface BranchSurface Surface kind_surface arm_surface branch_surface stmt_surface

abbrev surface_of_arm : Arm → Surface
surface_of_arm = fold-Arm Surface Surface BranchSurface Surface kind_surface arm_surface branch_surface stmt_surface

abbrev surface_of_branch : Branch → BranchSurface
surface_of_branch = fold-Branch Surface Surface BranchSurface Surface kind_surface arm_surface branch_surface stmt_surface

abbrev parts : StmtKind-F StmtKind Arm Branch Stmt → StmtKind-F Surface Surface BranchSurface Surface
parts = map-StmtKind StmtKind Arm Branch Stmt Surface Surface BranchSurface Surface surface_of_kind surface_of_arm surface_of_branch surface_of

surface_at : (s : Stmt) → surface_of s ≡ kind_surface (parts (stmt_kind s))
surface_at s =
    fold_out-Stmt Surface Surface BranchSurface Surface kind_surface arm_surface branch_surface stmt_surface s
    ∙ fold_out-StmtKind Surface Surface BranchSurface Surface kind_surface arm_surface branch_surface stmt_surface (out-Stmt s).what

surface_made : (place : Place) (layer : StmtKind-F StmtKind Arm Branch Stmt) → surface_of (stmt place layer) ≡ kind_surface (parts layer)
surface_made place layer = rw (fold-roll-Stmt, fold-roll-StmtKind) refl

arm_writes : (arm : Arm) → (surface_of_arm arm).writes ≡ block_surface (map surface_of (out-Arm arm).body)
arm_writes arm = ap (λ surface. surface.writes) (fold_out-Arm Surface Surface BranchSurface Surface kind_surface arm_surface branch_surface stmt_surface arm)

branch_writes : (branch : Branch) → (surface_of_branch branch).writes ≡ block_surface (map surface_of (out-Branch branch).body)
branch_writes branch =
    ap (λ surface. surface.writes) (fold_out-Branch Surface Surface BranchSurface Surface kind_surface arm_surface branch_surface stmt_surface branch)

abbrev written_by_kind : StmtKind-F StmtKind Arm Branch Stmt → List Static
written_by_kind layer = kind_surface_writes (parts layer)

module _ (test : Static → Bool) where
  abbrev Soon : Stmt → Type 0
  Soon s = (at : Position) → soon test (plain_stmt s at) ≡ list_any test (surface_of s).writes

  abbrev OfBlock : List Stmt → Type 0
  OfBlock body = Each Soon body

  one_more : (found ends : Bool) (s : Surface) (rest : List Surface) (others : Bool) → found ≡ list_any test s.writes → ends ≡ s.instant →
      others ≡ list_any test (block_surface rest) → (found || (ends && others)) ≡ list_any test (block_surface (s ∷ rest))
  one_more found ends s rest others is same more =
      (λ i. is i || (same i && more i))
      ∙ ap (λ b. list_any test s.writes || b) (sym (any_if test s.instant (block_surface rest)))
      ∙ sym (list_any-append test s.writes (if s.instant then block_surface rest else []))

  block_soon : (body : List Stmt) (k : ℕ) (block : Position) → OfBlock body →
      soon_in test (block_from (map plain_stmt body) k block) ≡ list_any test (block_surface (map surface_of body))
  block_soon [] k block each = refl
  block_soon (s ∷ rest) k block each =
      one_more _ _ (surface_of s) (map surface_of rest) _ (All-head Soon s rest each (block ++ k ∷ []))
      (instant_is s (block ++ k ∷ []) ∙ sym (surface_agrees s)) (block_soon rest (suc k) block (All-tail Soon s rest each))

  inner_soon : (body : List Stmt) (at : Position) → OfBlock body →
      soon_in test (plain_block body at) ≡ list_any test (block_surface (map surface_of body))
  inner_soon body at each = block_soon body 0 at each

  abbrev of_arms : List Arm → List Static
  of_arms arms = joined (map (λ arm. arm.writes) (map surface_of_arm arms))

  arm_and_others : (arm : Arm) (rest : List Arm) (other : List Stmt) (at : Position) (l : Label) → OfBlock (out-Arm arm).body →
      soon_in test (else_at l (map plain_arm rest) (plain_block other)) ≡ list_any test (of_arms rest ++ block_surface (map surface_of other)) →
      (soon_in test (plain_block (out-Arm arm).body at) || soon_in test (else_at l (map plain_arm rest) (plain_block other)))
      ≡ list_any test (of_arms (arm ∷ rest) ++ block_surface (map surface_of other))
  arm_and_others arm rest other at l each more =
      (λ i. (inner_soon (out-Arm arm).body at each ∙ ap (list_any test) (sym (arm_writes arm))) i || more i)
      ∙ sym (list_any-append test (surface_of_arm arm).writes (of_arms rest ++ block_surface (map surface_of other)))
      ∙ ap (list_any test) (sym (append_assoc (surface_of_arm arm).writes (of_arms rest) (block_surface (map surface_of other))))

  else_soon : (arms : List Arm) (other : List Stmt) (l : Label) → EachArm Soon arms → OfBlock other →
      soon_in test (else_at l (map plain_arm arms) (plain_block other)) ≡ list_any test (of_arms arms ++ block_surface (map surface_of other))
  else_soon [] other l each others = inner_soon other (inside l l.passed) others
  else_soon (arm ∷ rest) other l each others = ap (λ b. (soon_in test (plain_block (out-Arm arm).body (inside l l.passed))
      || soon_in test (else_at (passed_one l) (map plain_arm rest) (plain_block other))) || b) (and_false _)
      ∙ or_false _
      ∙ arm_and_others arm rest other (inside l l.passed) (passed_one l) (All-head (λ arm. OfBlock (out-Arm arm).body) arm rest each)
      (else_soon rest other (passed_one l) (All-tail (λ arm. OfBlock (out-Arm arm).body) arm rest each) others)

  bodies_soon : (branches : List Branch) (k : ℕ) (l : Label) → EachBranch Soon branches →
      soon_in_each test (bodies_from (map plain_branch branches) k l) ≡ list_any test (joined (map (λ b. b.writes) (map surface_of_branch branches)))
  bodies_soon [] k l each = refl
  bodies_soon (b ∷ rest) k l each =
      (λ i. (inner_soon (out-Branch b).body (inside l k) (All-head (λ b. OfBlock (out-Branch b).body) b rest each)
      ∙ ap (list_any test) (sym (branch_writes b))) i
      || bodies_soon rest (suc k) l (All-tail (λ b. OfBlock (out-Branch b).body) b rest each) i)
      ∙ sym (list_any-append test (surface_of_branch b).writes (joined (map (λ b. b.writes) (map surface_of_branch rest))))

  -- with blocks that are known, a statement of each kind
  branching_soon : (s : Stmt) (arms : List Arm) (other : List Stmt) (l : Label) (at : Place) → EachArm Soon arms → OfBlock other →
      soon test (plain_kind s l at (StmtKind-F.If arms other)) ≡ list_any test (written_by_kind (StmtKind-F.If arms other))
  branching_soon s [] other l at each others =
      (λ i. inner_soon other (inside l 0) others i || inner_soon other (inside l 1) others i) ∙ or_same _
  branching_soon s (arm ∷ rest) other l at each others =
      arm_and_others arm rest other (inside l l.passed) (passed_one l) (All-head (λ arm. OfBlock (out-Arm arm).body) arm rest each)
      (else_soon rest other (passed_one l) (All-tail (λ arm. OfBlock (out-Arm arm).body) arm rest each) others)

  of_plain : (place : Place) (layer : StmtKind-F StmtKind Arm Branch Stmt) (at : Position) →
      soon test (plain_kind (stmt place layer) (label_at at) place layer) ≡ list_any test (written_by_kind layer) →
      soon test (plain_stmt (stmt place layer) at) ≡ list_any test (surface_of (stmt place layer)).writes
  of_plain place layer at is = ap (soon test) (by_kind place layer at) ∙ is ∙ ap (λ surface. list_any test surface.writes) (sym (surface_made place layer))

  act_writes : (place : Place) (layer : StmtKind-F StmtKind Arm Branch Stmt) → is_act layer ≡ true →
      list_any test (writes (stmt place layer)) ≡ list_any test (written_by_kind layer)
  act_writes place (StmtKind-F.Declare k initial) e = rw (fold-roll-Stmt, fold-roll-StmtKind) refl
  act_writes place (StmtKind-F.Assign path value) e = rw (fold-roll-Stmt, fold-roll-StmtKind) refl
  act_writes place (StmtKind-F.Call f inputs outputs) e = rw (fold-roll-Stmt, fold-roll-StmtKind) (set_passes test (map static_of outputs))
  act_writes place (StmtKind-F.Return value) e = rw (fold-roll-Stmt, fold-roll-StmtKind) refl
  act_writes place (StmtKind-F.Await c) e = absurd cc
  act_writes place (StmtKind-F.Run target a inputs outputs) e = absurd cc
  act_writes place (StmtKind-F.If arms other) e = absurd cc
  act_writes place (StmtKind-F.Cobegin branches) e = absurd cc
  act_writes place (StmtKind-F.When guard c body) e = absurd cc
  act_writes place (StmtKind-F.Repeat body) e = absurd cc
  act_writes place (StmtKind-F.Until body c) e = absurd cc
  act_writes place (StmtKind-F.While c body) e = absurd cc

  cases : Cases Soon
  cases = record {
    declare = λ place k initial at. of_plain place (StmtKind-F.Declare k initial) at (act_writes place (StmtKind-F.Declare k initial) refl);
    assign = λ place path e at. of_plain place (StmtKind-F.Assign path e) at (act_writes place (StmtKind-F.Assign path e) refl);
    call = λ place f inputs outputs at. of_plain place (StmtKind-F.Call f inputs outputs) at (act_writes place (StmtKind-F.Call f inputs outputs) refl);
    await = λ place e at. of_plain place (StmtKind-F.Await e) at refl;
    run = λ place target a inputs outputs at. of_plain place (StmtKind-F.Run target a inputs outputs) at refl;
    branching = λ place arms other each others at. of_plain place (StmtKind-F.If arms other) at
        (branching_soon (stmt place (StmtKind-F.If arms other)) arms other (label_at at) place each others);
    cobegin = λ place branches each at. of_plain place (StmtKind-F.Cobegin branches) at (bodies_soon branches 0 (label_at at) each);
    guarded = λ place guard e body each at. of_plain place (StmtKind-F.When guard e body) at (inner_soon body (inside (label_at at) 0) each);
    repeat = λ place body each at. of_plain place (StmtKind-F.Repeat body) at (inner_soon body (inside (label_at at) 0) each);
    until = λ place body e each at. of_plain place (StmtKind-F.Until body e) at (inner_soon body (inside (label_at at) 0) each);
    while = λ place e body each at. of_plain place (StmtKind-F.While e body) at (inner_soon body (inside (label_at at) 0) each);
    returns = λ place e at. of_plain place (StmtKind-F.Return e) at (act_writes place (StmtKind-F.Return e) refl);
  }

  each_soon : (body : List Stmt) → OfBlock body
  each_soon body k s lt = induct Soon cases _

  each_arm : (arms : List Arm) → EachArm Soon arms
  each_arm arms k arm lt = each_soon _

  each_branch : (branches : List Branch) → EachBranch Soon branches
  each_branch branches k branch lt = each_soon _

  acts_soon : (s : Stmt) (layer : StmtKind-F StmtKind Arm Branch Stmt) → stmt_kind s ≡ layer → is_act layer ≡ true →
      list_any test (writes s) ≡ list_any test (written_by_kind layer)
  acts_soon s layer is e =
      ap (λ made. list_any test (writes made)) (sym (made_of_parts s))
      ∙ act_writes (out-Stmt s).place (stmt_kind s) (ap is_act is ∙ e) ∙ ap (λ layer. list_any test (written_by_kind layer)) is

  -- a statement of this kind, whatever its label
  kind_soon : (s : Stmt) (l : Label) (at : Place) (layer : StmtKind-F StmtKind Arm Branch Stmt) → stmt_kind s ≡ layer →
      soon test (plain_kind s l at layer) ≡ list_any test (written_by_kind layer)
  kind_soon s l at (StmtKind-F.Declare k initial) is = acts_soon s _ is refl
  kind_soon s l at (StmtKind-F.Assign path e) is = acts_soon s _ is refl
  kind_soon s l at (StmtKind-F.Call f inputs outputs) is = acts_soon s _ is refl
  kind_soon s l at (StmtKind-F.Return e) is = acts_soon s _ is refl
  kind_soon s l at (StmtKind-F.Await e) is = refl
  kind_soon s l at (StmtKind-F.Run target a inputs outputs) is = refl
  kind_soon s l at (StmtKind-F.If arms other) is = branching_soon s arms other l at (each_arm arms) (each_soon other)
  kind_soon s l at (StmtKind-F.Cobegin branches) is = bodies_soon branches 0 l (each_branch branches)
  kind_soon s l at (StmtKind-F.When guard e body) is = inner_soon body (inside l 0) (each_soon body)
  kind_soon s l at (StmtKind-F.Repeat body) is = inner_soon body (inside l 0) (each_soon body)
  kind_soon s l at (StmtKind-F.Until body e) is = inner_soon body (inside l 0) (each_soon body)
  kind_soon s l at (StmtKind-F.While e body) is = inner_soon body (inside l 0) (each_soon body)

  pub located_soon : (s : Located) → soon test (plain_at s) ≡ list_any test (surface_of s.stmt).writes
  located_soon s = kind_soon s.stmt (label_of s) (place_of s) (kind_of s) refl ∙ ap (λ surface. list_any test surface.writes) (sym (surface_at s.stmt))

-- ---- what begins can write what its surface lists

module _ (test : Static → Bool) where
  two_lists : (found more : Bool) (xs ys : List Static) → found ≡ list_any test xs → more ≡ list_any test ys →
      (found || more) ≡ list_any test (xs ++ ys)
  two_lists found more xs ys one other = (λ i. one i || other i) ∙ sym (list_any-append test xs ys)

  mutual
    soon_is : (s : Plain) → soon test s ≡ list_any test (surface_writes s)
    soon_is (Act l s) = refl
    soon_is (Await l at e) = refl
    soon_is (Run l at target a inputs outputs) = sym (set_passes test (map static_of outputs))
    soon_is (If l at e body other) = two_lists _ _ (surface_writes_in body) (surface_writes_in other) (soon_in_is body) (soon_in_is other)
    soon_is (Cobegin l at bodies) = soon_in_each_is bodies
    soon_is (When l at guard e body) = soon_in_is body
    soon_is (Repeat l at body) = soon_in_is body
    soon_is (Until l at body e) = soon_in_is body
    soon_is (While l at e body) = soon_in_is body
    soon_is (Again l at body e) = soon_in_is body

    soon_in_is : (body : Block) → soon_in test body ≡ list_any test (surface_writes_in body)
    soon_in_is Done = refl
    soon_in_is (Then s rest) =
        two_lists _ _ (surface_writes s) (if is_instant s then surface_writes_in rest else []) (soon_is s)
        (ap (λ b. is_instant s && b) (soon_in_is rest) ∙ sym (any_if test (is_instant s) (surface_writes_in rest)))

    soon_in_each_is : (bodies : Bodies) → soon_in_each test bodies ≡ list_any test (surface_writes_in_each bodies)
    soon_in_each_is Last = refl
    soon_in_each_is (Body weak body rest) =
        two_lists _ _ (surface_writes_in body) (surface_writes_in_each rest) (soon_in_is body) (soon_in_each_is rest)

pub soon_is_surface : SoonIsSurface
soon_is_surface = record { statements = soon_is; blocks = soon_in_is; branches = soon_in_each_is }
