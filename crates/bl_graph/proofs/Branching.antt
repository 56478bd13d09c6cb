-- What the code makes of a `cobegin`, and of statements by their kinds.
use Rattle.std.proofs.Common.{◌≡◌, ℕ, suc, ◌+◌, ◌-◌, ◌<◌, ◌≤◌, Bool, true, false, nat_eq, List, [], ◌∷◌, ◌++◌, map, take, length, get_or, Option, Some, refl}
use Rattle.std.proofs.Common.{ap, sym, ◌∙◌, subst, arith, add-zero, zero-add}
use Rattle.std.specs.Prelude.{slice_get}
use Rattle.std.proofs.lemmas.List.{length-append, length-map, map-append, take_all, take_more}
use Rattle.bl_tree.specs.declared.graph.Edge.{Edge}
use Rattle.bl_tree.specs.declared.graph.NodeKind.TheVariants as kind
use Rattle.bl_tree.specs.declared.place.Place.{Place}
use Rattle.bl_tree.specs.declared.static_path.Static.{Static}
use Rattle.bl_tree.specs.declared.tree.Arm.{Arm}
use Rattle.bl_tree.specs.declared.tree.Branch.{Branch, out-Branch}
use Rattle.bl_tree.specs.declared.tree.Expr.{Expr}
use Rattle.bl_tree.specs.declared.tree.Guard.{Guard}
use Rattle.bl_tree.specs.declared.tree.Path.{Path}
use Rattle.bl_tree.specs.declared.tree.Stmt.{Stmt, fold-roll-Stmt, out-Stmt, out-roll-Stmt, roll-Stmt}
use Rattle.bl_tree.specs.declared.tree.StmtKind.{StmtKind, fold-roll-StmtKind, out-StmtKind, roll-StmtKind, roll-out-StmtKind}
use Rattle.bl_tree.specs.declared.tree.StmtKind.TheOpen.{StmtKind-F}
use Rattle.bl_tree.specs.declared.tree.StmtKind.TheVariants as kinds
use Rattle.bl_tree.specs.Effects.{argument_mentions, optional_mentions, reads, target_mentions, target_static, writes}
use Rattle.bl_tree.specs.Instant.{branches_instant, instant as ends_at_once}
use Rattle.bl_tree.specs.Static.{index_mentions, mentions, set_of, static_of, whole}
use Rattle.bl_graph_nodes.specs.Laws.{plain_branch, stmt}
use Rattle.bl_graph_nodes.specs.Nodes.{ActAt, DepthJoinAt, ForkAt, Node, SurfaceJoinAt, is_instant, nodes_in, nodes_in_each, nodes_of, where_so}
use Rattle.bl_graph_nodes.specs.Plain.{Act, Await, Block, Bodies, Body, Cobegin, Label, Last, Position, Run, bodies_from, inside, label_at, plain_block}
use Rattle.bl_graph_nodes.specs.Plain.{plain_stmt}
use Rattle.bl_graph_nodes.proofs.Equations.{plain_statements}
use Rattle.bl_graph_nodes.proofs.Instants.{instant_is}
use Rattle.bl_graph.specs.declared.part.Branches.{Branches}
use Rattle.bl_graph.specs.declared.part.Links.{Links}
use Rattle.bl_graph.specs.declared.part.Part.{Part as Made}
use Rattle.bl_graph.specs.Listed.{edges_in_each, flows_in_each}
use Rattle.bl_graph.specs.Marks.{entered, join_mark, marked, part_in, parts_of, resumed, where_marked}
use Rattle.bl_graph.specs.inner.Flows.{InOrder}
use Rattle.bl_graph.specs.inner.Instants.{ends_of_branch}
use Rattle.bl_graph.specs.inner.Made.{Adds, BlockMade, BranchAdded, BranchesMade, Crossed, IsOut, Makes, MakesEach, Names, NamesEach, Naming, Pairwise}
use Rattle.bl_graph.specs.inner.Made.{StatementMade, flow_of, flows_between, flows_within, kinded, spans_of, whole_of}
use Rattle.bl_graph.specs.inner.Parts.{act_part, bare, bare_if, branch_links, cobegin_part, joined_branch, leaving_outs, node, out, out_if, past, pause_part}
use Rattle.bl_graph.proofs.Building.{counted, empty_at, leads_in}
use Rattle.bl_graph.proofs.Crossing.{crossed_adds, flows_apart}
use Rattle.bl_graph.proofs.Joining.{bodies_with, branch_makes, names_with, with_branch}
use Rattle.bl_graph.proofs.Making.{act_makes, await_makes, flows_where, re_add, run_makes}
use Rattle.bl_graph.proofs.Marking.{names_each}
use Rattle.bl_graph.proofs.Numbering.{adds_then, names_back, names_front, out_pairs, pairs_append}

-- ---- branches

abbrev bodies_of : List Branch → Label → Bodies
bodies_of branches l = bodies_from (map plain_branch branches) 0 l

bodies_and : (branches : List Branch) (b : Branch) (l : Label) → bodies_of (branches ++ b ∷ []) l
    ≡ with_branch (bodies_of branches l) (out-Branch b).weak (plain_block (out-Branch b).body (inside l (0 + length (map plain_branch branches))))
bodies_and branches b l =
    ap (λ bs. bodies_from bs 0 l) (map-append plain_branch branches (b ∷ [])) ∙ bodies_with (map plain_branch branches) (plain_branch b) 0 l

pub branch_added : (branch : Branch) (body : List Stmt) (first join begins start : ℕ) (so empty : Bool) (made joined : Branches) (inside_made : Made)
    (l1 l2 : Links) (control : List Edge) → body ≡ (out-Branch branch).body → begins ≡ join + 1 → start ≡ begins + length made.flows
    → empty ≡ nat_eq (length body) 0 → BlockMade body start inside_made l1 l2
    → control ≡ l2.control ++ branch_links empty so first join start (leaving_outs (out-Branch branch).weak start inside_made)
    → joined ≡ joined_branch made (leaving_outs (out-Branch branch).weak start inside_made) inside_made
    → BranchAdded branch first join so made joined l1 (record { control = control; by_data = l2.by_data })
branch_added branch body first join begins start so empty made joined inside_made l1 l2 control body_is begins_is start_is bare block grows same
    branches l0 before l at naming named =
    let last : Links = record { control = control; by_data = l2.by_data } in
    let bodies : Bodies = bodies_of branches l in
    let weak : Bool = (out-Branch branch).weak in
    let place : Position = inside l (0 + length (map plain_branch branches)) in
    let b : Block = plain_block (out-Branch branch).body place in
    let all : NamesEach naming (with_branch bodies weak b) l at so first join =
    subst (λ bodies. NamesEach naming bodies l at so first join) (bodies_and branches branch l) named in
    let both : Names naming (join + 1) (nodes_in_each bodies ++ nodes_in b) = subst (Names naming (join + 1)) (names_with bodies weak b) all.nodes in
    let each : MakesEach naming bodies l at so made l0 l1 = before l at naming (record {
      fork = all.fork;
      surface = all.surface;
      depth = all.depth;
      nodes = names_front naming (join + 1) (nodes_in_each bodies) (nodes_in b) both;
    }) in
    let here : start ≡ (join + 1) + length (nodes_in_each bodies) =
    start_is ∙ ap (λ n. n + length made.flows) begins_is
    ∙ ap (λ n. (join + 1) + n) (counted made.flows (parts_of bodies).nodes (nodes_in_each bodies) each.flows (names_each bodies)) in
    let back : Names naming start (nodes_in b) = names_back naming (join + 1) start (nodes_in_each bodies) (nodes_in b) here both in
    let block_is : BlockMade (out-Branch branch).body start inside_made l1 l2 = subst (λ body. BlockMade body start inside_made l1 l2) body_is block in
    let empty_is : empty ≡ nat_eq (length (out-Branch branch).body) 0 = bare ∙ ap (λ body. nat_eq (length body) 0) body_is in
    subst (λ bodies. MakesEach naming bodies l at so joined l0 last) (sym (bodies_and branches branch l))
    (subst (λ joined. MakesEach naming (with_branch bodies weak b) l at so joined l0 last) (sym same)
    (branch_makes naming bodies weak b l at so first join start empty made inside_made l0 l1 l2 control
    (empty_at (out-Branch branch).body place empty empty_is) all.fork all.surface all.depth back (leads_in naming (out-Branch branch).body place start back)
    each (block_is place naming back) grows))

pub branches_next : (branches : List Branch) (k : ℕ) (branch : Branch) (first join : ℕ) (so : Bool) (made joined : Branches) (l0 l1 l2 : Links)
    → k < length branches → branch ≡ get_or branches k branch → BranchesMade (take k branches) first join so made l0 l1
    → BranchAdded branch first join so made joined l1 l2 → BranchesMade (take (k + 1) branches) first join so joined l0 l2
branches_next branches k branch first join so made joined l0 l1 l2 within is before added =
    subst (λ bs. BranchesMade bs first join so joined l0 l2) (ap (λ x. take k branches ++ x ∷ []) is ∙ sym (take_more branches k branch within))
    (added (take k branches) l0 before)

pub branches_all : (branches : List Branch) (k first join : ℕ) (so : Bool) (made : Branches) (l0 l1 : Links) → length branches ≤ k
    → BranchesMade (take k branches) first join so made l0 l1 → BranchesMade branches first join so made l0 l1
branches_all branches k first join so made l0 l1 over made_so = subst (λ bs. BranchesMade bs first join so made l0 l1) (take_all k branches over) made_so

-- ---- numbers that name the nodes of a list

pub names_list : (xs : List Node) (n : ℕ) (naming : Naming) → ((i : ℕ) → naming (n + i) ≡ slice_get xs i) → Names naming n xs
names_list [] n naming is = tt
names_list (x ∷ xs) n naming is = (
  ap naming (sym (add-zero n)) ∙ is 0,
  names_list xs (n + 1) naming (λ i. let same : (n + 1) + i ≡ n + suc i = omega arith in ap naming same ∙ is (suc i)),
)

from_first : (xs : List Node) (first i : ℕ) → slice_get xs ((first + i) - first) ≡ slice_get xs i
from_first xs first i = let same : (first + i) - first ≡ i = omega arith in ap (slice_get xs) same

cobegin_named : (naming : Naming) (bodies : Bodies) (l : Label) (at : Place) (so : Bool) (first join : ℕ) → join ≡ past first so
    → Names naming first (ForkAt l at ∷ (where_so so (SurfaceJoinAt l at) ++ DepthJoinAt l at ∷ nodes_in_each bodies))
    → NamesEach naming bodies l at so first join
cobegin_named naming bodies l at true first join is named =
    let one : first + 1 + 1 ≡ join = omega arith in
    let two : first + 1 + 1 + 1 ≡ join + 1 = omega arith in
    record {
      fork = named.0;
      surface = λ yes. named.1.0;
      depth = subst (λ n. naming n ≡ Some (DepthJoinAt l at)) one named.1.1.0;
      nodes = subst (λ n. Names naming n (nodes_in_each bodies)) two named.1.1.1;
    }
cobegin_named naming bodies l at false first join is named =
    let one : first + 1 ≡ join = omega arith in
    let two : first + 1 + 1 ≡ join + 1 = omega arith in
    record {
      fork = named.0;
      surface = λ yes. cc;
      depth = subst (λ n. naming n ≡ Some (DepthJoinAt l at)) one named.1.0;
      nodes = subst (λ n. Names naming n (nodes_in_each bodies)) two named.1.1;
    }

-- ---- spans

order_of : (bodies : Bodies) (n last : ℕ) → last ≡ n + length (parts_of bodies).nodes → InOrder n (spans_of n bodies) last
order_of Last n last is = omega arith
order_of (Body weak b rest) n last is =
    let more : length ((part_in b).nodes ++ (parts_of rest).nodes) ≡ length (part_in b).nodes + length (parts_of rest).nodes =
    length-append (part_in b).nodes (parts_of rest).nodes in
    let same : last ≡ (n + length (part_in b).nodes) + length (parts_of rest).nodes = omega arith in
    (omega arith, omega arith, order_of rest (n + length (part_in b).nodes) last same)

pub in_order : (branches : List Branch) (first join : ℕ) (so : Bool) (made : Branches) (l0 l1 : Links) → join ≡ past first so
    → BranchesMade branches first join so made l0 l1 → InOrder 0 made.spans (length made.flows)
in_order branches first join so made l0 l1 is made_so =
    let l : Label = label_at [] in
    let at : Place = record { start = 0; end = 0 } in
    let bodies : Bodies = bodies_of branches l in
    let all : List Node = ForkAt l at ∷ (where_so so (SurfaceJoinAt l at) ++ DepthJoinAt l at ∷ nodes_in_each bodies) in
    let naming : Naming = λ k. slice_get all (k - first) in
    let each : MakesEach naming bodies l at so made l0 l1 =
    made_so l at naming (cobegin_named naming bodies l at so first join is (names_list all first naming (from_first all first))) in
    let size : length made.flows ≡ 0 + length (parts_of bodies).nodes =
    ap length each.flows ∙ length-map (parts_of bodies).nodes flow_of ∙ sym (zero-add (length (parts_of bodies).nodes)) in
    subst (λ spans. InOrder 0 spans (length made.flows)) (sym each.spans) (order_of bodies 0 (length made.flows) size)

-- ---- the whole

cobegin_makes : (naming : Naming) (l : Label) (at : Place) (bodies : Bodies) (so : Bool) (first join : ℕ) (made : Branches) (l0 l1 : Links)
    (by_data : List Edge)
    → so ≡ is_instant (Cobegin l at bodies) → NamesEach naming bodies l at so first join → MakesEach naming bodies l at so made l0 l1
    → Adds true naming (flows_between bodies) l1.by_data by_data
    → Makes naming (whole_of (Cobegin l at bodies)) (cobegin_part at so first join made.left made.flows made.resumes) l0
    (record { control = l1.control; by_data = by_data })
cobegin_makes naming l at bodies so first join made l0 l1 by_data so_is named each crossed = record {
  flows = (λ i. bare at kind.Fork entered ∷ (bare_if (so_is i) at kind.SurfaceJoin (join_mark (each.left i))
      ++ bare at kind.DepthJoin (each.left i) ∷ each.flows i))
      ∙ ap (λ fs. bare at kind.Fork entered ∷ fs)
      (flows_where naming (is_instant (Cobegin l at bodies)) (marked (join_mark (parts_of bodies).left) (SurfaceJoinAt l at))
      (marked (parts_of bodies).left (DepthJoinAt l at) ∷ (parts_of bodies).nodes));
  outs = subst (Pairwise (IsOut naming) (out_if so (first + 1) (join_mark made.left) ++ out join made.left ∷ []))
      (λ i. where_marked (so_is i) (marked (join_mark (each.left i)) (SurfaceJoinAt l at)) ++ marked (each.left i) (DepthJoinAt l at) ∷ [])
      (pairs_append (IsOut naming) _ _ _ _ (out_pairs naming so (first + 1) (join_mark made.left) (SurfaceJoinAt l at) named.surface)
      (record { names = named.depth; mark = refl }, tt));
  resumes = each.resumes;
  control = subst (λ so. Adds false naming (edges_in_each bodies l at so) l0.control l1.control) so_is each.control;
  by_data = re_add true naming (flows_within bodies ++ flows_between bodies) (flows_in_each bodies) l0.by_data by_data (flows_apart bodies)
      (adds_then true naming (flows_within bodies) (flows_between bodies) l0.by_data l1.by_data by_data each.by_data crossed);
}

pub cobegin_made : (place : Place) (branches : List Branch) (so : Bool) (first join begins : ℕ) (made : Branches) (result : Made) (l0 l1 : Links)
    (by_data : List Edge) → so ≡ ends_at_once (stmt place (StmtKind-F.Cobegin branches)) → join ≡ past first so → begins ≡ join + 1
    → BranchesMade branches first join so made l0 l1 → Crossed begins made.flows made.spans l1.by_data by_data
    → result ≡ cobegin_part place so first join made.left made.flows made.resumes
    → StatementMade (stmt place (StmtKind-F.Cobegin branches)) first result l0 (record { control = l1.control; by_data = by_data })
cobegin_made place branches so first join begins made result l0 l1 by_data so_is join_is begins_is made_so crossed same at naming named =
    let l : Label = label_at at in
    let last : Links = record { control = l1.control; by_data = by_data } in
    let bodies : Bodies = bodies_of branches l in
    let p : plain_stmt (stmt place (StmtKind-F.Cobegin branches)) at ≡ Cobegin l place bodies = plain_statements.parallel place at branches in
    let instant : so ≡ is_instant (Cobegin l place bodies) =
    so_is ∙ sym (instant_is (stmt place (StmtKind-F.Cobegin branches)) at) ∙ ap is_instant p in
    let numbers : NamesEach naming bodies l place so first join =
    cobegin_named naming bodies l place so first join join_is
    (subst (λ so. Names naming first (ForkAt l place ∷ (where_so so (SurfaceJoinAt l place) ++ DepthJoinAt l place ∷ nodes_in_each bodies))) (sym instant)
    (subst (λ p. Names naming first (nodes_of p)) p named)) in
    let each : MakesEach naming bodies l place so made l0 l1 = made_so l place naming numbers in
    subst (λ p. Makes naming (whole_of p) result l0 last) (sym p)
    (subst (λ result. Makes naming (whole_of (Cobegin l place bodies)) result l0 last) (sym same)
    (cobegin_makes naming l place bodies so first join made l0 l1 by_data instant numbers each
    (crossed_adds naming bodies begins made.flows made.spans l1.by_data by_data each.flows each.spans
    (subst (λ n. Names naming n (nodes_in_each bodies)) (sym begins_is) numbers.nodes) crossed)))

-- ---- statements by their kinds

-- an act that reads and writes what its statement does
pub act_made : (at : Place) (layer : StmtKind-F StmtKind Arm Branch Stmt) (first : ℕ) (made : Made) (read wrote : List Static) (links : Links)
    → ((position : Position) → plain_stmt (stmt at layer) position ≡ Act (label_at position) (stmt at layer))
    → reads (stmt at layer) ≡ read → writes (stmt at layer) ≡ wrote → made ≡ act_part at read wrote first
    → StatementMade (stmt at layer) first made links links
act_made at layer first made read wrote links acts reads_are writes_are same position naming named =
    let s : Stmt = stmt at layer in
    let l : Label = label_at position in
    let here : (out-Stmt s).place ≡ at = ap (λ s. s.place) (out-roll-Stmt (record { place = at; what = roll-StmtKind layer })) in
    let all : Names naming first (ActAt l s ∷ []) = subst (λ p. Names naming first (nodes_of p)) (acts position) named in
    subst (λ p. Makes naming (whole_of p) made links links) (sym (acts position))
    (subst (λ made. Makes naming (whole_of (Act l s)) made links links)
    (sym (same ∙ (λ i. act_part (sym here i) (sym reads_are i) (sym writes_are i) first)))
    (act_makes naming l s first links all.0))

pub declare_made : (at : Place) (k : ℕ) (initial : Option Expr) (first : ℕ) (made : Made) (links : Links)
    → made ≡ act_part at (set_of (optional_mentions initial)) (whole k ∷ []) first
    → StatementMade (stmt at (StmtKind-F.Declare k initial)) first made links links
declare_made at k initial first made links same =
    act_made at (StmtKind-F.Declare k initial) first made _ _ links (λ position. plain_statements.declaration at position k initial)
    (rw (fold-roll-Stmt, fold-roll-StmtKind) refl) (rw (fold-roll-Stmt, fold-roll-StmtKind) refl) same

pub assign_made : (at : Place) (path : Path) (e : Expr) (first : ℕ) (made : Made) (links : Links)
    → made ≡ act_part at (set_of (index_mentions path ++ mentions e)) (static_of path ∷ []) first
    → StatementMade (stmt at (StmtKind-F.Assign path e)) first made links links
assign_made at path e first made links same =
    act_made at (StmtKind-F.Assign path e) first made _ _ links (λ position. plain_statements.assignment at position path e)
    (rw (fold-roll-Stmt, fold-roll-StmtKind) refl) (rw (fold-roll-Stmt, fold-roll-StmtKind) refl) same

pub call_made : (at : Place) (f : ℕ) (inputs : List Expr) (outputs : List Path) (first : ℕ) (made : Made) (links : Links)
    → made ≡ act_part at (set_of (argument_mentions inputs outputs)) (set_of (map static_of outputs)) first
    → StatementMade (stmt at (StmtKind-F.Call f inputs outputs)) first made links links
call_made at f inputs outputs first made links same =
    act_made at (StmtKind-F.Call f inputs outputs) first made _ _ links (λ position. plain_statements.call at position f inputs outputs)
    (rw (fold-roll-Stmt, fold-roll-StmtKind) refl) (rw (fold-roll-Stmt, fold-roll-StmtKind) refl) same

pub return_made : (at : Place) (e : Option Expr) (first : ℕ) (made : Made) (links : Links)
    → made ≡ act_part at (set_of (optional_mentions e)) [] first → StatementMade (stmt at (StmtKind-F.Return e)) first made links links
return_made at e first made links same =
    act_made at (StmtKind-F.Return e) first made _ _ links (λ position. plain_statements.returns at position e)
    (rw (fold-roll-Stmt, fold-roll-StmtKind) refl) (rw (fold-roll-Stmt, fold-roll-StmtKind) refl) same

pub await_made : (at : Place) (e : Expr) (first : ℕ) (made : Made) (links : Links)
    → made ≡ pause_part (node at kind.Pause entered [] []) (node at kind.Test resumed (set_of (mentions e)) []) (first + 1)
    → StatementMade (stmt at (StmtKind-F.Await e)) first made links links
await_made at e first made links same position naming named =
    let p = plain_statements.pause at position e in
    let all = subst (λ p. Names naming first (nodes_of p)) p named in
    subst (λ p. Makes naming (whole_of p) made links links) (sym p)
    (subst (λ made. Makes naming (whole_of (Await (label_at position) at e)) made links links) (sym same)
    (await_makes naming (label_at position) at e (first + 1) links all.1.0))

pub run_made : (at : Place) (target : Option Path) (a : ℕ) (inputs : List Expr) (outputs : List Path) (first : ℕ) (made : Made) (links : Links)
    → made ≡ pause_part (node at kind.Start entered (set_of (argument_mentions inputs outputs)) (set_of (map static_of outputs)))
    (node at kind.Resume resumed (set_of (target_mentions target ++ argument_mentions inputs outputs)) (set_of (target_static target ++ map static_of outputs)))
    (first + 1) → StatementMade (stmt at (StmtKind-F.Run target a inputs outputs)) first made links links
run_made at target a inputs outputs first made links same position naming named =
    let p = plain_statements.run at position target a inputs outputs in
    let all = subst (λ p. Names naming first (nodes_of p)) p named in
    subst (λ p. Makes naming (whole_of p) made links links) (sym p)
    (subst (λ made. Makes naming (whole_of (Run (label_at position) at target a inputs outputs)) made links links) (sym same)
    (run_makes naming (label_at position) at target a inputs outputs (first + 1) links all.1.0))

-- a statement by its layer
pub layer_is : (at : Place) (what : StmtKind) (layer : StmtKind-F StmtKind Arm Branch Stmt) → out-StmtKind what ≡ layer → stmt at layer ≡ kinded at what
layer_is at what layer is = ap (λ kind. roll-Stmt (record { place = at; what = kind })) (ap roll-StmtKind (sym is) ∙ roll-out-StmtKind what)

pub of_layer : (at : Place) (what : StmtKind) (layer : StmtKind-F StmtKind Arm Branch Stmt) (first : ℕ) (made : Made) (l0 l1 : Links)
    → out-StmtKind what ≡ layer → StatementMade (stmt at layer) first made l0 l1 → StatementMade (kinded at what) first made l0 l1
of_layer at what layer first made l0 l1 is = subst (λ s. StatementMade s first made l0 l1) (layer_is at what layer is)

-- whether a `cobegin` may end in the tick in which it begins
pub cobegin_ends : (at : Place) (branches : List Branch) (so : Bool) → so ≡ branches_instant (map ends_of_branch branches)
    → so ≡ ends_at_once (stmt at (StmtKind-F.Cobegin branches))
cobegin_ends at branches so is = is ∙ sym (rw (fold-roll-Stmt, fold-roll-StmtKind) refl)

-- ---- statements as the code sees them

pub declare_kind : (at : Place) (what : StmtKind) (k : ℕ) (initial : Option Expr) (first : ℕ) (made : Made) (links : Links)
    → what ≡ kinds.Declare k initial
    → made ≡ act_part at (set_of (optional_mentions initial)) (whole k ∷ []) first → StatementMade (kinded at what) first made links links
declare_kind at what k initial first made links is same =
    of_layer at what (StmtKind-F.Declare k initial) first made links links (ap out-StmtKind is ∙ kinds.outs-Declare k initial)
    (declare_made at k initial first made links same)

pub assign_kind : (at : Place) (what : StmtKind) (path : Path) (e : Expr) (first : ℕ) (made : Made) (links : Links) → what ≡ kinds.Assign path e
    → made ≡ act_part at (set_of (index_mentions path ++ mentions e)) (static_of path ∷ []) first
    → StatementMade (kinded at what) first made links links
assign_kind at what path e first made links is same =
    of_layer at what (StmtKind-F.Assign path e) first made links links (ap out-StmtKind is ∙ kinds.outs-Assign path e)
    (assign_made at path e first made links same)

pub call_kind : (at : Place) (what : StmtKind) (f : ℕ) (inputs made_inputs : List Expr) (outputs made_outputs : List Path) (first : ℕ) (made : Made)
    (links : Links) → what ≡ kinds.Call f inputs outputs → made_inputs ≡ inputs → made_outputs ≡ outputs
    → made ≡ act_part at (set_of (argument_mentions made_inputs made_outputs)) (set_of (map static_of made_outputs)) first
    → StatementMade (kinded at what) first made links links
call_kind at what f inputs made_inputs outputs made_outputs first made links is ins outs same =
    of_layer at what (StmtKind-F.Call f inputs outputs) first made links links (ap out-StmtKind is ∙ kinds.outs-Call f inputs outputs)
    (call_made at f inputs outputs first made links
    (same ∙ (λ i. act_part at (set_of (argument_mentions (ins i) (outs i))) (set_of (map static_of (outs i))) first)))

pub return_kind : (at : Place) (what : StmtKind) (e : Option Expr) (first : ℕ) (made : Made) (links : Links) → what ≡ kinds.Return e
    → made ≡ act_part at (set_of (optional_mentions e)) [] first → StatementMade (kinded at what) first made links links
return_kind at what e first made links is same =
    of_layer at what (StmtKind-F.Return e) first made links links (ap out-StmtKind is ∙ kinds.outs-Return e) (return_made at e first made links same)

pub await_kind : (at : Place) (what : StmtKind) (e : Expr) (first : ℕ) (made : Made) (links : Links) → what ≡ kinds.Await e
    → made ≡ pause_part (node at kind.Pause entered [] []) (node at kind.Test resumed (set_of (mentions e)) []) (first + 1)
    → StatementMade (kinded at what) first made links links
await_kind at what e first made links is same =
    of_layer at what (StmtKind-F.Await e) first made links links (ap out-StmtKind is ∙ kinds.outs-Await e) (await_made at e first made links same)

pub run_kind : (at : Place) (what : StmtKind) (target : Option Path) (a : ℕ) (inputs made_inputs : List Expr) (outputs made_outputs : List Path) (first : ℕ)
    (made : Made) (links : Links) → what ≡ kinds.Run target a inputs outputs → made_inputs ≡ inputs → made_outputs ≡ outputs
    → made ≡ pause_part (node at kind.Start entered (set_of (argument_mentions made_inputs made_outputs)) (set_of (map static_of made_outputs)))
    (node at kind.Resume resumed (set_of (target_mentions target ++ argument_mentions made_inputs made_outputs))
    (set_of (target_static target ++ map static_of made_outputs))) (first + 1)
    → StatementMade (kinded at what) first made links links
run_kind at what target a inputs made_inputs outputs made_outputs first made links is ins outs same =
    of_layer at what (StmtKind-F.Run target a inputs outputs) first made links links (ap out-StmtKind is ∙ kinds.outs-Run target a inputs outputs)
    (run_made at target a inputs outputs first made links
    (same ∙ (λ i. pause_part (node at kind.Start entered (set_of (argument_mentions (ins i) (outs i))) (set_of (map static_of (outs i))))
    (node at kind.Resume resumed (set_of (target_mentions target ++ argument_mentions (ins i) (outs i)))
    (set_of (target_static target ++ map static_of (outs i)))) (first + 1))))

pub if_kind : (at : Place) (what : StmtKind) (arms made_arms : List Arm) (other made_other : List Stmt) (first : ℕ) (made : Made) (l0 l1 : Links)
    → what ≡ kinds.If arms other → made_arms ≡ arms → made_other ≡ other
    → StatementMade (stmt at (StmtKind-F.If made_arms made_other)) first made l0 l1 → StatementMade (kinded at what) first made l0 l1
if_kind at what arms made_arms other made_other first made l0 l1 is same_arms same had =
    of_layer at what (StmtKind-F.If arms other) first made l0 l1 (ap out-StmtKind is ∙ kinds.outs-If arms other)
    (subst (λ s. StatementMade s first made l0 l1) (λ i. stmt at (StmtKind-F.If (same_arms i) (same i))) had)

pub cobegin_kind : (at : Place) (what : StmtKind) (branches made_branches : List Branch) (first : ℕ) (made : Made) (l0 l1 : Links)
    → what ≡ kinds.Cobegin branches → made_branches ≡ branches
    → StatementMade (stmt at (StmtKind-F.Cobegin made_branches)) first made l0 l1 → StatementMade (kinded at what) first made l0 l1
cobegin_kind at what branches made_branches first made l0 l1 is same had =
    of_layer at what (StmtKind-F.Cobegin branches) first made l0 l1 (ap out-StmtKind is ∙ kinds.outs-Cobegin branches)
    (subst (λ s. StatementMade s first made l0 l1) (λ i. stmt at (StmtKind-F.Cobegin (same i))) had)

pub when_kind : (at : Place) (what : StmtKind) (guard : Guard) (e : Expr) (body made_body : List Stmt) (first : ℕ) (made : Made) (l0 l1 : Links)
    → what ≡ kinds.When guard e body → made_body ≡ body
    → StatementMade (stmt at (StmtKind-F.When guard e made_body)) first made l0 l1 → StatementMade (kinded at what) first made l0 l1
when_kind at what guard e body made_body first made l0 l1 is same had =
    of_layer at what (StmtKind-F.When guard e body) first made l0 l1 (ap out-StmtKind is ∙ kinds.outs-When guard e body)
    (subst (λ s. StatementMade s first made l0 l1) (λ i. stmt at (StmtKind-F.When guard e (same i))) had)

pub repeat_kind : (at : Place) (what : StmtKind) (body made_body : List Stmt) (first : ℕ) (made : Made) (l0 l1 : Links) → what ≡ kinds.Repeat body
    → made_body ≡ body → StatementMade (stmt at (StmtKind-F.Repeat made_body)) first made l0 l1 → StatementMade (kinded at what) first made l0 l1
repeat_kind at what body made_body first made l0 l1 is same had =
    of_layer at what (StmtKind-F.Repeat body) first made l0 l1 (ap out-StmtKind is ∙ kinds.outs-Repeat body)
    (subst (λ s. StatementMade s first made l0 l1) (λ i. stmt at (StmtKind-F.Repeat (same i))) had)

pub until_kind : (at : Place) (what : StmtKind) (body made_body : List Stmt) (e : Expr) (first : ℕ) (made : Made) (l0 l1 : Links)
    → what ≡ kinds.Until body e
    → made_body ≡ body → StatementMade (stmt at (StmtKind-F.Until made_body e)) first made l0 l1 → StatementMade (kinded at what) first made l0 l1
until_kind at what body made_body e first made l0 l1 is same had =
    of_layer at what (StmtKind-F.Until body e) first made l0 l1 (ap out-StmtKind is ∙ kinds.outs-Until body e)
    (subst (λ s. StatementMade s first made l0 l1) (λ i. stmt at (StmtKind-F.Until (same i) e)) had)

pub while_kind : (at : Place) (what : StmtKind) (e : Expr) (body made_body : List Stmt) (first : ℕ) (made : Made) (l0 l1 : Links)
    → what ≡ kinds.While e body
    → made_body ≡ body → StatementMade (stmt at (StmtKind-F.While e made_body)) first made l0 l1 → StatementMade (kinded at what) first made l0 l1
while_kind at what e body made_body first made l0 l1 is same had =
    of_layer at what (StmtKind-F.While e body) first made l0 l1 (ap out-StmtKind is ∙ kinds.outs-While e body)
    (subst (λ s. StatementMade s first made l0 l1) (λ i. stmt at (StmtKind-F.While e (same i))) had)
