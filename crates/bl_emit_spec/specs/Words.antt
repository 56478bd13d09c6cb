-- The words in the C names of flags and marks: each says what a node does, and to what, and so leads back to the source.
use Rattle.std.specs.Prelude.{ℕ, List, [], ◌∷◌, ◌++◌, codes, nat_eq, slice_get, if◌then◌else◌}
use Rattle.bl_tree.specs.declared.text.Text.{Text}
use Rattle.bl_tree.specs.declared.tree.Stmt.{Stmt, out-Stmt}
use Rattle.bl_tree.specs.declared.tree.StmtKind.{out-StmtKind}
use Rattle.bl_tree.specs.declared.tree.StmtKind.TheOpen.{StmtKind-F}
use Rattle.bl_tree.specs.Typing.{TypingContext}
use Rattle.bl_graph_nodes.specs.Nodes.{ActAt, CheckAt, DepthEndAt, DepthJoinAt, EnterAt, ForkAt, HeadAt, Node, PauseAt, ResumeAt, StartAt, SurfaceEndAt}
use Rattle.bl_graph_nodes.specs.Nodes.{SurfaceJoinAt, TestAt}
use Rattle.bl_machine_pass.specs.Transitions.{Transition}
use Rattle.bl_emit_acts.specs.Types.{source_name}
use Rattle.bl_emit_spec.specs.Blocks.{name_in}

-- the word of an act, by its kind: what is done, and the name of the variable or the function; of an assignment the name of the whole variable
abbrev pub layer_word : {A B C D : Type 0} → TypingContext → StmtKind-F A B C D → Text
layer_word site (StmtKind-F.Declare k initial) = codes "var_" ++ source_name (slice_get site.vars k)
layer_word site (StmtKind-F.Assign path e) = codes "set_" ++ source_name (slice_get site.vars path.root)
layer_word site (StmtKind-F.Call a inputs outputs) = codes "call_" ++ name_in (slice_get site.earlier a)
layer_word site (StmtKind-F.Return e) = codes "return"
layer_word site _ = []

-- the word of an act
abbrev pub act_word : TypingContext → Stmt → Text
act_word site s = layer_word site (out-StmtKind (out-Stmt s).what)

-- the word of a node; of a `run` the number tells the activity that it calls. A node that goes on with a `run`, and a join, have no flag and no mark
abbrev pub word_of_node : TypingContext → ℕ → Node → Text
word_of_node site a (ActAt l s) = act_word site s
word_of_node site a (TestAt l at e) = codes "test"
word_of_node site a (PauseAt l at) = codes "await"
word_of_node site a (EnterAt l at arguments) = codes "run_" ++ name_in (slice_get site.earlier a)
word_of_node site a (ResumeAt l at arguments) = codes "resume_" ++ name_in (slice_get site.earlier a)
word_of_node site a (HeadAt l at) = codes "repeat"
word_of_node site a (StartAt l at) = codes "when"
word_of_node site a (CheckAt l at e) = codes "test"
word_of_node site a (SurfaceEndAt l at) = codes "end"
word_of_node site a (DepthEndAt l at) = codes "end"
word_of_node site a (ForkAt l at) = codes "cobegin"
word_of_node site a (SurfaceJoinAt l at) = codes "join"
word_of_node site a (DepthJoinAt l at) = codes "join"

-- the word of the first rule in source order whose node has the number; empty where there is none. Each rule stands with the activity that its node calls
abbrev pub word_in : TypingContext → (Node → ℕ) → List ℕ → List Transition → ℕ → Text
word_in site number [] rules k = []
word_in site number callees [] k = []
word_in site number (a ∷ callees) (rule ∷ rules) k =
    if nat_eq (number rule.node) k then word_of_node site a rule.node else word_in site number callees rules k
