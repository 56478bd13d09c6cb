-- What is listed of the plain statements of each kind is what is listed of their parts.
use Rattle.std.proofs.Common.{◌≡◌, ℕ, suc, ◌+◌, Bool, true, false, ◌&&◌, ◌||◌, List, [], ◌∷◌, ◌++◌}
use Rattle.std.proofs.Common.{length, map, refl, ap, sym, ◌∙◌, arith}
use Rattle.std.proofs.Common.{subst, length-append}
use Rattle.std.proofs.lemmas.List.Elements.{All-head, All-tail}
use Rattle.std.specs.Prelude.{if◌then◌else◌, not}
use Rattle.bl_tree.specs.declared.place.Place.{Place}
use Rattle.bl_tree.specs.declared.tree.Arm.{Arm, out-Arm}
use Rattle.bl_tree.specs.declared.tree.Branch.{Branch, fold_out-Branch, out-Branch}
use Rattle.bl_tree.specs.declared.tree.Expr.{Expr}
use Rattle.bl_tree.specs.declared.tree.Guard.{Guard}
use Rattle.bl_tree.specs.declared.tree.Stmt.{Stmt, fold-roll-Stmt}
use Rattle.bl_tree.specs.declared.tree.StmtKind.{fold-roll-StmtKind}
use Rattle.bl_tree.specs.declared.tree.StmtKind.TheOpen.{StmtKind-F}
use Rattle.bl_tree.proofs.StmtInduction.{Cases, Each, EachArm, EachBranch, induct, stmt}
use Rattle.bl_graph_nodes.specs.Laws.{PlainStatements, plain_arm, plain_branch}
use Rattle.bl_graph_nodes.specs.Nodes.{are_instant, is_instant, nodes_in, nodes_in_each, some_strong, where_so as node_where}
use Rattle.bl_graph_nodes.specs.Nodes.{DepthEndAt, DepthJoinAt, CheckAt, ForkAt, Node, StartAt, SurfaceEndAt, SurfaceJoinAt}
use Rattle.bl_graph_nodes.specs.Plain.{Act, Block, Bodies, Body as BodyOf, Cobegin, If, Label, Last, Position, Repeat, Until, When, While}
use Rattle.bl_graph_nodes.specs.Plain.{bodies_from, else_at, inside, label_at, never, passed_one, plain_block}
use Rattle.bl_machine_pass.specs.SlotLayout.{spots_in, spots_in_each}
use Rattle.bl_machine_transitions.specs.declared.transition.Age.TheVariants.{New, Old, Any}
use Rattle.bl_machine_transitions.specs.declared.transition.Change.{Change}
use Rattle.bl_machine_transitions.specs.declared.transition.Change.TheVariants.{SetCounter, SetFlag}
use Rattle.bl_machine_transitions.specs.declared.transition.Needed.{Needed}
use Rattle.bl_machine_transitions.specs.Listed.{Layout, flagged_rule, fork_nodes, guard_nodes, joins_of, mark_change, needed, tested_rule, when_body_end}
use Rattle.bl_machine_transitions.specs.Listed.{endings, strong_endings}
use Rattle.bl_machine_transitions.specs.declared.transition.Silent.TheVariants as silent
use Rattle.bl_machine_transitions.specs.Told.{Nothing, Tests}
use Rattle.bl_machine_transitions.specs.inner.Joined.{all_joined, fork_instant, joined}
use Rattle.bl_machine_transitions.specs.inner.Parts.{ArmPart, BranchPart, Part, act, arm_of, branch_of, branch_part, part_of_block}
use Rattle.bl_machine_transitions.specs.inner.Parts.{chain, cobegin, ends, endless, forked}
use Rattle.bl_machine_transitions.specs.inner.Parts.{kind_part, needs, part, stmt_of, until, when_part, while}
use Rattle.bl_machine_transitions.proofs.Listing.{Alike, AlikeEach, AlikeIn, InArm, Same, arm_view, arms_are, block_alike, chain_alike, choice_alike}
use Rattle.bl_machine_transitions.proofs.Listing.{watched_alike}

-- ---- branches

abbrev branch_view : Branch → BranchPart
branch_view branch = record { weak = (out-Branch branch).weak; body = part_of_block (map part (out-Branch branch).body) }

abbrev InBranch : Branch → Type 0
InBranch branch = Each Same (out-Branch branch).body

branches_are : (branches : List Branch) → map branch_part branches ≡ map branch_view branches
branches_are [] = refl
branches_are (branch ∷ rest) =
    λ i. fold_out-Branch (Place → Part) ArmPart BranchPart Part kind_part arm_of branch_of stmt_of branch i ∷ branches_are rest i

none_alike : AlikeEach Last []
none_alike = record {
  nodes = refl;
  spots = λ l k. refl;
  places = refl;
  strong = refl;
  strong_ones = refl;
  some_one = refl;
  rests = λ layout p. refl;
  endings_all = λ layout p. refl;
  endings_strong = λ layout p. refl;
  begin = λ layout k p. refl;
  rules = λ layout k p. refl;
}

-- a branch has a place more than stand in it
one_more : (m n : ℕ) → suc (m + n) ≡ m + 1 + n
one_more m n = omega arith

place_step : (p m n : ℕ) → m ≡ n → suc (p + m) ≡ p + (n + 1)
place_step p m n is = omega arith

next_place : (p : ℕ) → suc p ≡ p + 1
next_place p = omega arith

strong_ends : (layout : Layout) (p : ℕ) (weak : Bool) (body : Block) (a : Part) (bodies : Bodies) (all : List BranchPart) → AlikeIn body a →
    AlikeEach bodies all → strong_endings layout p (BodyOf weak body bodies) ≡ ends true layout p (record { weak = weak; body = a } ∷ all)
strong_ends layout p true body a bodies all h t = λ i. t.endings_strong layout (place_step p _ _ h.places i) i
strong_ends layout p false body a bodies all h t = λ i. layout.slot p ∷ t.endings_strong layout (place_step p _ _ h.places i) i

body_alike : (weak : Bool) (body : Block) (a : Part) (bodies : Bodies) (all : List BranchPart) → AlikeIn body a → AlikeEach bodies all →
    AlikeEach (BodyOf weak body bodies) (record { weak = weak; body = a } ∷ all)
body_alike weak body a bodies all h t = record {
  nodes = length-append (nodes_in body) (nodes_in_each bodies) ∙ (λ i. h.nodes i + t.nodes i);
  spots = λ l k. ap suc (length-append (spots_in body) (spots_in_each l (suc k) bodies)) ∙ (λ i. suc (h.places i + t.spots l (suc k) i))
      ∙ one_more a.size.places (forked all).places;
  places = (λ i. suc (h.places i + t.places i)) ∙ one_more a.size.places (forked all).places;
  strong = λ i. not weak || t.strong i;
  strong_ones = λ i. (weak || h.instant i) && t.strong_ones i;
  some_one = λ i. h.instant i || t.some_one i;
  rests = λ layout p i. layout.slot p ∷ h.rests layout (next_place p i) i;
  endings_all = λ layout p i. layout.slot p ∷ t.endings_all layout (place_step p _ _ h.places i) i;
  endings_strong = λ layout p. strong_ends layout p weak body a bodies all h t;
  begin = λ layout k p i. h.enters layout k (SetCounter (layout.slot p)) i ∷ t.begin layout (k + h.nodes i) (place_step p _ _ h.places i) i;
  rules = λ layout k p i. h.rules layout k (next_place p i) (SetCounter (layout.slot p)) i ++ t.rules layout (k + h.nodes i)
      (place_step p _ _ h.places i) i;
}

branches_alike : (branches : List Branch) (k : ℕ) (at : Label) → EachBranch Same branches →
    AlikeEach (bodies_from (map plain_branch branches) k at) (map branch_view branches)
branches_alike [] k at all = none_alike
branches_alike (branch ∷ rest) k at all =
    body_alike (out-Branch branch).weak _ _ _ _
    (block_alike (out-Branch branch).body 0 (inside at k) (All-head InBranch branch rest all))
    (branches_alike rest (suc k) at (All-tail InBranch branch rest all))

-- ---- a `cobegin`

needed_by : (strong : Bool) (layout : Layout) (p : ℕ) (bodies : Bodies) (all : List BranchPart) → AlikeEach bodies all →
    (let made : Needed = if strong then record { all = true; slots = strong_endings layout p bodies }
    else record { all = false; slots = endings layout p bodies } in made)
    ≡ record { all = strong; slots = ends strong layout p all }
needed_by true layout p bodies all h = λ i. record { all = true; slots = h.endings_strong layout p i }
needed_by false layout p bodies all h = λ i. record { all = false; slots = h.endings_all layout p i }

needed_alike : (layout : Layout) (p : ℕ) (bodies : Bodies) (all : List BranchPart) → AlikeEach bodies all →
    needed layout p bodies ≡ needs layout p all
needed_alike layout p bodies all h =
    needed_by (some_strong bodies) layout p bodies all h ∙ (λ i. record { all = h.strong i; slots = ends (h.strong i) layout p all })

joins_alike : (layout : Layout) (instant : Bool) (k p : ℕ) (bodies : Bodies) (all : List BranchPart) (next : Change) → AlikeEach bodies all →
    joins_of layout instant k p bodies next ≡ all_joined layout instant k p (forked all).places (needs layout p all) next
joins_alike layout true k p bodies all next h = λ i.
    joined layout (k + 1) p (h.places i) (needed_alike layout p bodies all h i) (New (layout.number k)) next
    ∷ joined layout (k + 2) p (h.places i) (needed_alike layout p bodies all h i) (Old (layout.number k)) next
    ∷ []
joins_alike layout false k p bodies all next h = λ i.
    joined layout (k + 1) p (h.places i) (needed_alike layout p bodies all h i) Any next ∷ []

fork_length : (instant : Bool) (first second third : Node) (rest : List Node) →
    length (first ∷ (node_where instant second ++ third ∷ rest)) ≡ fork_nodes instant + length rest
fork_length true first second third rest = omega arith
fork_length false first second third rest = omega arith

cobegin_alike : (l : Label) (at : Place) (bodies : Bodies) (all : List BranchPart) → AlikeEach bodies all →
    Alike (Cobegin l at bodies) (cobegin all)
cobegin_alike l at bodies all h =
    let instant : is_instant (Cobegin l at bodies) ≡ fork_instant (forked all) = λ i. if h.strong i then h.strong_ones i else h.some_one i in
    record {
      filled = refl;
      nodes = fork_length (is_instant (Cobegin l at bodies)) (ForkAt l at) (SurfaceJoinAt l at) (DepthJoinAt l at) (nodes_in_each bodies)
          ∙ (λ i. fork_nodes (instant i) + h.nodes i);
      places = h.spots l 0;
      instant = instant;
      rests = h.rests;
      rules = λ layout k p next i.
          flagged_rule layout k (Nothing silent.Fork) (mark_change (instant i) (layout.number k) (h.begin layout (k + fork_nodes (instant i)) p i))
          ∷ (joins_alike layout (instant i) k p bodies all next h i ++ h.rules layout (k + fork_nodes (instant i)) p i);
    }

-- ---- a `when` and loops

guard_length : (instant : Bool) (first second third fourth : Node) (rest : List Node) →
    length (first ∷ (node_where instant second ++ third ∷ fourth ∷ rest)) ≡ guard_nodes instant + length rest
guard_length true first second third fourth rest = omega arith
guard_length false first second third fourth rest = omega arith

guarded_alike : (l : Label) (at : Place) (guard : Guard) (e : Expr) (body : Block) (a : Part) → AlikeIn body a →
    Alike (When l at guard e body) (when_part guard e a)
guarded_alike l at guard e body a h = record {
  filled = refl;
  nodes = guard_length (are_instant body) (StartAt l at) (SurfaceEndAt l at) (CheckAt l at e) (DepthEndAt l at) (nodes_in body)
      ∙ (λ i. guard_nodes (h.instant i) + h.nodes i);
  places = h.places;
  instant = h.instant;
  rests = h.rests;
  rules = λ layout k p next i.
      watched_alike layout (h.instant i) k p guard (Tests e) body a next h i
      ++ h.rules layout (k + guard_nodes (h.instant i)) p (when_body_end layout k (h.instant i)) i;
}

add_one : (n : ℕ) → suc n ≡ 1 + n
add_one n = omega arith

add_two : (n : ℕ) → suc (suc n) ≡ 2 + n
add_two n = omega arith

endless_alike : (l : Label) (at : Place) (body : Block) (a : Part) → AlikeIn body a → Alike (Repeat l at body) (endless a)
endless_alike l at body a h = record {
  filled = refl;
  nodes = ap suc h.nodes ∙ add_one a.size.nodes;
  places = h.places;
  instant = refl;
  rests = h.rests;
  rules = λ layout k p next i.
      flagged_rule layout k (Nothing silent.Head) (h.enters layout (k + 1) (SetFlag (layout.number k)) i ∷ [])
      ∷ h.rules layout (k + 1) p (SetFlag (layout.number k)) i;
}

until_alike : (l : Label) (at : Place) (body : Block) (e : Expr) (a : Part) → AlikeIn body a → Alike (Until l at body e) (until a e)
until_alike l at body e a h = record {
  filled = refl;
  nodes = ap (λ n. suc (suc n)) h.nodes ∙ add_two a.size.nodes;
  places = h.places;
  instant = h.instant;
  rests = h.rests;
  rules = λ layout k p next i.
      flagged_rule layout k (Nothing silent.Head) (h.enters layout (k + 2) (SetFlag (layout.number (k + 1))) i ∷ [])
      ∷ tested_rule layout (k + 1) (Tests e) (next ∷ []) (SetFlag (layout.number k) ∷ [])
      ∷ h.rules layout (k + 2) p (SetFlag (layout.number (k + 1))) i;
}

while_alike : (l : Label) (at : Place) (e : Expr) (body : Block) (a : Part) → AlikeIn body a → Alike (While l at e body) (while e a)
while_alike l at e body a h = record {
  filled = refl;
  nodes = ap suc h.nodes ∙ add_one a.size.nodes;
  places = h.places;
  instant = refl;
  rests = h.rests;
  rules = λ layout k p next i.
      tested_rule layout k (Tests e) (h.enters layout (k + 1) (SetFlag (layout.number k)) i ∷ []) (next ∷ [])
      ∷ h.rules layout (k + 1) p (SetFlag (layout.number k)) i;
}

-- ---- statements

act_alike : (l : Label) (s : Stmt) → Alike (Act l s) (act s)
act_alike l s = record {
  filled = refl;
  nodes = refl;
  places = refl;
  instant = refl;
  rests = λ layout p. refl;
  rules = λ layout k p next. refl;
}

module _ (laws : PlainStatements) where
  branching_same : (place : Place) (arms : List Arm) (other : List Stmt) → EachArm Same arms → Each Same other →
      Same (stmt place (StmtKind-F.If arms other))
  branching_same place [] other all others at = rw (fold-roll-Stmt, fold-roll-StmtKind, fold-roll-Stmt, fold-roll-StmtKind)
      (choice_alike (label_at at) place (never place) _ _ _ _ (block_alike other 0 (inside (label_at at) 0) others)
      (block_alike other 0 (inside (label_at at) 1) others))
  branching_same place (arm ∷ rest) other all others at =
      let made : part (stmt place (StmtKind-F.If (arm ∷ rest) other)) ≡ chain (map arm_view (arm ∷ rest)) (part_of_block (map part other)) =
      rw (fold-roll-Stmt, fold-roll-StmtKind) (ap (λ arms. chain arms (part_of_block (map part other))) (arms_are (arm ∷ rest))) in
      subst (λ s. Alike s (part (stmt place (StmtKind-F.If (arm ∷ rest) other)))) (sym (laws.branching place at arm rest other))
      (subst (λ a. Alike (If (label_at at) place (out-Arm arm).test (plain_block (out-Arm arm).body (inside (label_at at) 0))
      (else_at (passed_one (label_at at)) (map plain_arm rest) (plain_block other))) a) (sym made)
      (choice_alike (label_at at) place (out-Arm arm).test _ _ _ _
      (block_alike (out-Arm arm).body 0 (inside (label_at at) 0) (All-head InArm arm rest all))
      (chain_alike (passed_one (label_at at)) rest other (All-tail InArm arm rest all) others)))

  cobegin_same : (place : Place) (branches : List Branch) → EachBranch Same branches → Same (stmt place (StmtKind-F.Cobegin branches))
  cobegin_same place branches all at =
      let made : part (stmt place (StmtKind-F.Cobegin branches)) ≡ cobegin (map branch_view branches) =
      rw (fold-roll-Stmt, fold-roll-StmtKind) (ap cobegin (branches_are branches)) in
      subst (λ s. Alike s (part (stmt place (StmtKind-F.Cobegin branches)))) (sym (laws.parallel place at branches))
      (subst (λ a. Alike (Cobegin (label_at at) place (bodies_from (map plain_branch branches) 0 (label_at at))) a) (sym made)
      (cobegin_alike (label_at at) place _ _ (branches_alike branches 0 (label_at at) all)))

  cases : Cases Same
  cases = record {
    declare = λ place k initial at. rw (fold-roll-Stmt, fold-roll-StmtKind, fold-roll-Stmt, fold-roll-StmtKind) (act_alike _ _);
    assign = λ place path e at. rw (fold-roll-Stmt, fold-roll-StmtKind, fold-roll-Stmt, fold-roll-StmtKind) (act_alike _ _);
    call = λ place f inputs outputs at. rw (fold-roll-Stmt, fold-roll-StmtKind, fold-roll-Stmt, fold-roll-StmtKind) (act_alike _ _);
    await = λ place e at. rw (fold-roll-Stmt, fold-roll-StmtKind, fold-roll-Stmt, fold-roll-StmtKind) record {
      filled = refl;
      nodes = refl;
      places = refl;
      instant = refl;
      rests = λ layout p. refl;
      rules = λ layout k p next. refl;
    };
    run = λ place target a inputs outputs at. rw (fold-roll-Stmt, fold-roll-StmtKind, fold-roll-Stmt, fold-roll-StmtKind) record {
      filled = refl;
      nodes = refl;
      places = refl;
      instant = refl;
      rests = λ layout p. refl;
      rules = λ layout k p next. refl;
    };
    branching = branching_same;
    cobegin = cobegin_same;
    guarded = λ place guard e body all at. rw (fold-roll-Stmt, fold-roll-StmtKind, fold-roll-Stmt, fold-roll-StmtKind)
        (guarded_alike _ _ _ _ _ _ (block_alike body 0 _ all));
    repeat = λ place body all at. rw (fold-roll-Stmt, fold-roll-StmtKind, fold-roll-Stmt, fold-roll-StmtKind)
        (endless_alike _ _ _ _ (block_alike body 0 _ all));
    until = λ place body e all at. rw (fold-roll-Stmt, fold-roll-StmtKind, fold-roll-Stmt, fold-roll-StmtKind)
        (until_alike _ _ _ _ _ (block_alike body 0 _ all));
    while = λ place e body all at. rw (fold-roll-Stmt, fold-roll-StmtKind, fold-roll-Stmt, fold-roll-StmtKind)
        (while_alike _ _ _ _ _ (block_alike body 0 _ all));
    returns = λ place e at. rw (fold-roll-Stmt, fold-roll-StmtKind, fold-roll-Stmt, fold-roll-StmtKind) (act_alike _ _);
  }

  each_same : (body : List Stmt) → Each Same body
  each_same body k s lt = induct Same cases _

  -- a block is listed as its part
  pub body_alike_in : (body : List Stmt) (at : Position) → AlikeIn (plain_block body at) (part_of_block (map part body))
  body_alike_in body at = block_alike body 0 at (each_same body)
