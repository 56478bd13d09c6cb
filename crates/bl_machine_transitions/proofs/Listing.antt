-- What is listed of plain statements is what is listed of the parts of statements, wherever these stand.
use Rattle.std.proofs.Common.{◌≡◌, ℕ, suc, ◌+◌, Bool, true, false, ◌&&◌, ◌||◌, List, [], ◌∷◌, ◌++◌}
use Rattle.std.proofs.Common.{length, map, refl, ap, sym, ◌∙◌, arith}
use Rattle.std.proofs.Common.{length-append}
use Rattle.std.proofs.lemmas.List.{append-nil}
use Rattle.std.proofs.lemmas.List.Elements.{All-head, All-tail}
use Rattle.bl_tree.proofs.Basics.{and_true}
use Rattle.bl_tree.specs.declared.place.Place.{Place}
use Rattle.bl_tree.specs.declared.tree.Arm.{Arm, fold_out-Arm, out-Arm}
use Rattle.bl_tree.specs.declared.tree.Expr.{Expr}
use Rattle.bl_tree.specs.declared.tree.Guard.{Guard}
use Rattle.bl_tree.specs.declared.tree.Guard.TheVariants.{Abort, Reset}
use Rattle.bl_tree.specs.declared.tree.Stmt.{Stmt}
use Rattle.bl_tree.proofs.StmtInduction.{Each, EachArm}
use Rattle.bl_graph_nodes.specs.Laws.{plain_arm}
use Rattle.bl_graph_nodes.specs.Nodes.{are_instant, is_instant, nodes_in, nodes_in_each, nodes_of, some_instant, some_strong, strong_instant}
use Rattle.bl_graph_nodes.specs.Plain.{Block, Bodies, Done, If, Label, Plain, Position, Then, block_from, else_at, inside, passed_one, plain_block, plain_stmt}
use Rattle.bl_machine_pass.specs.SlotLayout.{spots_in, spots_in_each, spots_of}
use Rattle.bl_machine_transitions.specs.declared.transition.Change.{Change}
use Rattle.bl_machine_transitions.specs.declared.transition.Change.TheVariants.{SetMark}
use Rattle.bl_machine_transitions.specs.Listed.{Layout, endings, enter_block, enter_each, fires, flagged_rule, node_count, when_body_end}
use Rattle.bl_machine_transitions.specs.Listed.{when_rules as guarded_in}
use Rattle.bl_machine_transitions.specs.Listed.{nodes_within, place_count, places_in_branches, places_within, rests_in}
use Rattle.bl_machine_transitions.specs.Listed.{rests_in_first, rests_of, rules_in, rules_in_each, rules_of, strong_endings, tested_rule}
use Rattle.bl_machine_transitions.specs.declared.transition.Silent.TheVariants as silent
use Rattle.bl_machine_transitions.specs.Told.{Nothing, Task, Tests}
use Rattle.bl_machine_transitions.specs.inner.Joined.{enter_unless_empty, fired, looked, watched}
use Rattle.bl_machine_transitions.specs.inner.Parts.{ArmPart, BranchPart, Part, arm_of, arm_part, branch_of, chain, condition_part, each, ends, entry_changes}
use Rattle.bl_machine_transitions.specs.inner.Parts.{part_of_block}
use Rattle.bl_machine_transitions.specs.inner.Parts.{first_rests, follow, forked, kind_part, nothing, part, stmt_of}

-- ---- what it means that a statement, a block and branches are listed as a part is

pub record Alike (s : Plain) (a : Part) : Type 0 where
  pub filled : a.empty ≡ false
  pub nodes : nodes_within s ≡ a.size.nodes
  pub places : places_within s ≡ a.size.places
  pub instant : is_instant s ≡ a.size.instant
  pub rests : (layout : Layout) (p : ℕ) → rests_of layout p s ≡ a.rests layout p
  pub rules : (layout : Layout) (k p : ℕ) (next : Change) → rules_of layout k p s next ≡ a.rules layout k p next

pub record AlikeIn (body : Block) (a : Part) : Type 0 where
  pub enters : (layout : Layout) (k : ℕ) (next : Change) → enter_block layout k body next ≡ enter_unless_empty layout a.empty k next
  pub nodes : node_count body ≡ a.size.nodes
  pub places : place_count body ≡ a.size.places
  pub instant : are_instant body ≡ a.size.instant
  pub rests : (layout : Layout) (p : ℕ) → rests_in layout p body ≡ a.rests layout p
  pub rules : (layout : Layout) (k p : ℕ) (next : Change) → rules_in layout k p body next ≡ a.rules layout k p next

pub record AlikeEach (bodies : Bodies) (all : List BranchPart) : Type 0 where
  pub nodes : length (nodes_in_each bodies) ≡ (forked all).nodes
  pub spots : (l : Label) (k : ℕ) → length (spots_in_each l k bodies) ≡ (forked all).places
  pub places : places_in_branches bodies ≡ (forked all).places
  pub strong : some_strong bodies ≡ (forked all).strong
  pub strong_ones : strong_instant bodies ≡ (forked all).all
  pub some_one : some_instant bodies ≡ (forked all).some
  pub rests : (layout : Layout) (p : ℕ) → rests_in_first layout p bodies ≡ first_rests layout p all
  pub endings_all : (layout : Layout) (p : ℕ) → endings layout p bodies ≡ ends false layout p all
  pub endings_strong : (layout : Layout) (p : ℕ) → strong_endings layout p bodies ≡ ends true layout p all
  pub begin : (layout : Layout) (k p : ℕ) → enter_each layout k p bodies ≡ entry_changes layout k p all
  pub rules : (layout : Layout) (k p : ℕ) → rules_in_each layout k p bodies ≡ each layout k p all

-- ---- blocks

pub then_alike : (s : Plain) (rest : Block) (a b : Part) → Alike s a → AlikeIn rest b → AlikeIn (Then s rest) (follow a b)
then_alike s rest a b h t = record {
  enters = λ layout k next. refl;
  nodes = length-append (nodes_of s) (nodes_in rest) ∙ (λ i. h.nodes i + t.nodes i);
  places = length-append (spots_of s) (spots_in rest) ∙ (λ i. h.places i + t.places i);
  instant = λ i. h.instant i && t.instant i;
  rests = λ layout p i. h.rests layout p i ++ t.rests layout (p + h.places i) i;
  rules = λ layout k p next i. h.rules layout k p (t.enters layout (k + h.nodes i) next i) i
      ++ t.rules layout (k + h.nodes i) (p + h.places i) next i;
}

pub single_alike : (s : Plain) (a : Part) → Alike s a → AlikeIn (Then s Done) a
single_alike s a h = record {
  enters = λ layout k next. ap (λ empty. enter_unless_empty layout empty k next) (sym h.filled);
  nodes = ap length (append-nil (nodes_of s)) ∙ h.nodes;
  places = ap length (append-nil (spots_of s)) ∙ h.places;
  instant = and_true (is_instant s) ∙ h.instant;
  rests = λ layout p. append-nil (rests_of layout p s) ∙ h.rests layout p;
  rules = λ layout k p next. append-nil (rules_of layout k p s next) ∙ h.rules layout k p next;
}

pub done_alike : AlikeIn Done nothing
done_alike = record {
  enters = λ layout k next. refl;
  nodes = refl;
  places = refl;
  instant = refl;
  rests = λ layout p. refl;
  rules = λ layout k p next. refl;
}

abbrev pub Same : Stmt → Type 0
Same s = (at : Position) → Alike (plain_stmt s at) (part s)

pub block_alike : (body : List Stmt) (k : ℕ) (at : Position) → Each Same body →
    AlikeIn (block_from (map plain_stmt body) k at) (part_of_block (map part body))
block_alike [] k at all = done_alike
block_alike (s ∷ rest) k at all =
    then_alike (plain_stmt s (at ++ k ∷ [])) (block_from (map plain_stmt rest) (suc k) at) (part s) (part_of_block (map part rest))
    (All-head Same s rest all (at ++ k ∷ [])) (block_alike rest (suc k) at (All-tail Same s rest all))

-- ---- choices

choice_nodes : (m n : ℕ) → suc (m + n) ≡ 1 + m + n
choice_nodes m n = omega arith

pub choice_alike : (l : Label) (at : Place) (e : Expr) (body other : Block) (a b : Part) → AlikeIn body a → AlikeIn other b →
    Alike (If l at e body other) (condition_part e a b)
choice_alike l at e body other a b h t = record {
  filled = refl;
  nodes = ap suc (length-append (nodes_in body) (nodes_in other)) ∙ (λ i. suc (h.nodes i + t.nodes i)) ∙ choice_nodes a.size.nodes b.size.nodes;
  places = length-append (spots_in body) (spots_in other) ∙ (λ i. h.places i + t.places i);
  instant = λ i. h.instant i || t.instant i;
  rests = λ layout p i. h.rests layout p i ++ t.rests layout (p + h.places i) i;
  rules = λ layout k p next i.
      tested_rule layout k (Tests e) (h.enters layout (k + 1) next i ∷ []) (t.enters layout (k + 1 + h.nodes i) next i ∷ [])
      ∷ (h.rules layout (k + 1) p next i ++ t.rules layout (k + 1 + h.nodes i) (p + h.places i) next i);
}

abbrev pub arm_view : Arm → ArmPart
arm_view arm = record { test = (out-Arm arm).test; body = part_of_block (map part (out-Arm arm).body) }

abbrev pub InArm : Arm → Type 0
InArm arm = Each Same (out-Arm arm).body

pub arms_are : (arms : List Arm) → map arm_part arms ≡ map arm_view arms
arms_are [] = refl
arms_are (arm ∷ rest) = λ i. fold_out-Arm (Place → Part) ArmPart BranchPart Part kind_part arm_of branch_of stmt_of arm i ∷ arms_are rest i

pub chain_alike : (at : Label) (arms : List Arm) (other : List Stmt) → EachArm Same arms → Each Same other →
    AlikeIn (else_at at (map plain_arm arms) (plain_block other)) (chain (map arm_view arms) (part_of_block (map part other)))
chain_alike at [] other all others = block_alike other 0 (inside at at.passed) others
chain_alike at (arm ∷ rest) other all others =
    single_alike _ _ (choice_alike at _ (out-Arm arm).test _ _ _ _
    (block_alike (out-Arm arm).body 0 (inside at at.passed) (All-head InArm arm rest all))
    (chain_alike (passed_one at) rest other (All-tail InArm arm rest all) others))

-- ---- a `when`

fires_alike : (layout : Layout) (k : ℕ) (guard : Guard) (body : Block) (a : Part) (last next : Change) → AlikeIn body a →
    fires layout k guard body last next ≡ fired layout k guard a.empty last next
fires_alike layout k Abort body a last next h = refl
fires_alike layout k Reset body a last next h = h.enters layout k last

pub watched_alike : (layout : Layout) (instant : Bool) (k p : ℕ) (guard : Guard) (task : Task) (body : Block) (a : Part) (next : Change) →
    AlikeIn body a → guarded_in layout instant k p guard task body next
    ≡ watched layout k p guard task a.empty (record { nodes = a.size.nodes; places = a.size.places; instant = instant }) (a.rests layout p) next
watched_alike layout true k p guard task body a next h = λ i.
    flagged_rule layout k (Nothing silent.Start) (SetMark (layout.number k) ∷ h.enters layout (k + 4) (when_body_end layout k true) i ∷ [])
    ∷ flagged_rule layout (k + 1) (Nothing silent.End) (next ∷ [])
    ∷ looked layout (k + 2) p (h.places i) (h.rests layout p i) task (fires_alike layout (k + 4) guard body a (when_body_end layout k true) next h i)
    ∷ flagged_rule layout (k + 3) (Nothing silent.End) (next ∷ [])
    ∷ []
watched_alike layout false k p guard task body a next h = λ i.
    flagged_rule layout k (Nothing silent.Start) (h.enters layout (k + 3) (when_body_end layout k false) i ∷ [])
    ∷ looked layout (k + 1) p (h.places i) (h.rests layout p i) task (fires_alike layout (k + 3) guard body a (when_body_end layout k false) next h i)
    ∷ flagged_rule layout (k + 2) (Nothing silent.End) (next ∷ [])
    ∷ []
