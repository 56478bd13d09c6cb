use Rattle.std.proofs.Common.{◌≡◌, ◌+◌, List, nat_eq, take, drop, map, length}
use Rattle.bl_tree.specs.declared.tree.Stmt.{Stmt}
use Rattle.bl_graph_nodes.specs.Laws.{plain_arm}
use Rattle.bl_graph_nodes.specs.Plain.{Label, else_at, plain_block}
use Rattle.bl_graph.specs.declared.part.Links.{Links}
use Rattle.bl_graph.specs.inner.Made.{BlockMade, BranchesMade, Naming, Open, Whole}
use Rattle.bl_graph.proofs.build.+making.Given as goal

abbrev pub invariant-block-loop-s : goal.invariant-block-loop-s
invariant-block-loop-s l = BlockMade (take l.s-index l.body) l.first l.made l.initial.links l.links

abbrev pub invariant-chain-loop-arm : goal.invariant-chain-loop-arm
invariant-chain-loop-arm l =
    (l.left ≡ length (drop l.arm-index l.arms))
    × ((at : Label) (naming : Naming) (whole : Whole) (start : Links) (other : List Stmt) → l.bare ≡ nat_eq (length other) 0
    → Open naming whole (else_at at (map plain_arm l.arms) (plain_block other)) (l.first + length l.initial.made.flows) l.initial.made start l.initial.links
    → (later : Label) × Open naming whole (else_at later (map plain_arm (drop l.arm-index l.arms)) (plain_block other))
    (l.first + length l.made.flows) l.made
    start l.links)

abbrev pub invariant-all_branches-loop-each : goal.invariant-all_branches-loop-each
invariant-all_branches-loop-each l = BranchesMade (take l.each-index l.branches) l.first l.join l.instant l.made l.initial.links l.links
