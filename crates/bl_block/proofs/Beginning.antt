-- The entry of a body is its first node.
use Rattle.std.proofs.Common.{◌≡◌, List, [], ◌∷◌, ◌++◌, Some, refl, ap, sym, subst, ◌∙◌}
use Rattle.std.specs.Prelude.{slice_get}
use Rattle.std.proofs.lemmas.Option.{none-some, same_Some}
use Rattle.bl_tree.specs.declared.place.Place.{Place}
use Rattle.bl_tree.specs.declared.tree.Arm.{Arm}
use Rattle.bl_tree.specs.declared.tree.Branch.{Branch}
use Rattle.bl_tree.specs.declared.tree.Stmt.{Stmt, fold-roll-Stmt, out-Stmt}
use Rattle.bl_tree.specs.declared.tree.StmtKind.{StmtKind, fold-roll-StmtKind, out-StmtKind}
use Rattle.bl_tree.specs.declared.tree.StmtKind.TheOpen.{StmtKind-F}
use Rattle.bl_graph_nodes.specs.Laws.{MadeOfParts, stmt}
use Rattle.bl_graph_nodes.specs.Nodes.{Node, entry, nodes_in, nodes_of}
use Rattle.bl_graph_nodes.specs.Plain.{Block, Plain, Position, plain_body, plain_stmt}
use Rattle.bl_graph.specs.Edges.{Entry}

-- the node at which the statement begins stands first
abbrev Begun : Plain → Type 0
Begun s = (others : List Node) → slice_get (nodes_of s ++ others) 0 ≡ Some (entry s)

begun_so : (place : Place) (at : Position) (layer : StmtKind-F StmtKind Arm Branch Stmt) → Begun (plain_stmt (stmt place layer) at)
begun_so place at (StmtKind-F.Declare k initial) = rw (fold-roll-Stmt, fold-roll-StmtKind) (λ others. refl)
begun_so place at (StmtKind-F.Assign path e) = rw (fold-roll-Stmt, fold-roll-StmtKind) (λ others. refl)
begun_so place at (StmtKind-F.Call f inputs outputs) = rw (fold-roll-Stmt, fold-roll-StmtKind) (λ others. refl)
begun_so place at (StmtKind-F.Await e) = rw (fold-roll-Stmt, fold-roll-StmtKind) (λ others. refl)
begun_so place at (StmtKind-F.Run target a inputs outputs) = rw (fold-roll-Stmt, fold-roll-StmtKind) (λ others. refl)
begun_so place at (StmtKind-F.If [] other) = rw (fold-roll-Stmt, fold-roll-StmtKind) (λ others. refl)
begun_so place at (StmtKind-F.If (arm ∷ arms) other) = rw (fold-roll-Stmt, fold-roll-StmtKind) (λ others. refl)
begun_so place at (StmtKind-F.Cobegin branches) = rw (fold-roll-Stmt, fold-roll-StmtKind) (λ others. refl)
begun_so place at (StmtKind-F.When guard e body) = rw (fold-roll-Stmt, fold-roll-StmtKind) (λ others. refl)
begun_so place at (StmtKind-F.Repeat body) = rw (fold-roll-Stmt, fold-roll-StmtKind) (λ others. refl)
begun_so place at (StmtKind-F.Until body e) = rw (fold-roll-Stmt, fold-roll-StmtKind) (λ others. refl)
begun_so place at (StmtKind-F.While e body) = rw (fold-roll-Stmt, fold-roll-StmtKind) (λ others. refl)
begun_so place at (StmtKind-F.Return e) = rw (fold-roll-Stmt, fold-roll-StmtKind) (λ others. refl)

-- the entry of the block is its first node, and so is no other node
pub record Begins (body : Block) : Type 0 where
  pub entry : (m : Node) → Entry body m → slice_get (nodes_in body) 0 ≡ Some m
  pub first : (m : Node) → slice_get (nodes_in body) 0 ≡ Some m → Entry body m

pub begins : MadeOfParts → (body : List Stmt) → Begins (plain_body body)
begins made [] = record { entry = λ m is. absurd is; first = λ m is. absurd (none-some m is) }
begins made (s ∷ rest) = record {
  entry = λ m is. head ∙ ap Some (sym is);
  first = λ m is. same_Some m (entry (plain_stmt s (0 ∷ []))) (sym is ∙ head);
}
  where
    begun : Begun (plain_stmt s (0 ∷ []))
    begun =
        subst (λ it. Begun (plain_stmt it (0 ∷ []))) (made s)
        (begun_so (out-Stmt s).place (0 ∷ []) (out-StmtKind (out-Stmt s).what))

    head : slice_get (nodes_in (plain_body (s ∷ rest))) 0 ≡ Some (entry (plain_stmt s (0 ∷ [])))
    head = begun _
