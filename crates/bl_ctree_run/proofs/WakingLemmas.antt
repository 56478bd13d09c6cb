-- Trees that are woken where they lie.
use Rattle.std.proofs.Common.{◌≡◌, ℕ, zero, suc, Bool, true, false, not, ◌&&◌, ◌+◌, ◌<◌, ◌≤◌, get_or, length}
use Rattle.std.proofs.Common.{arith, List, [], ◌∷◌, ◌++◌, Some, map, take, drop, refl, sym, ap, ◌∙◌}
use Rattle.std.specs.Prelude.{option_map, slice_get, slice_set}
use Rattle.std.proofs.lemmas.List.{map-set}
use Rattle.std.proofs.lemmas.Option.{slice_get-map, slice_get_read}
use Rattle.std.proofs.lemmas.Bool.{and_parts, not-true}
use Rattle.bl_ctree.specs.Control.{Control, Nil, Wait, Test, Idle, Do, Turn, Seq, Par, Guard, Run, all_woken, branch, is_nil, woken}
use Rattle.bl_ctree.specs.declared.node.At.{At}
use Rattle.bl_ctree.specs.declared.node.Branch.{Branch as BranchNode, out-Branch, roll-Branch}
use Rattle.bl_ctree.specs.declared.node.Node.{Node}
use Rattle.bl_ctree.specs.declared.node.Node.TheViews.{Par as ParNode, Seq as SeqNode}
use Rattle.bl_ctree.specs.declared.node.Rest.{Rest}
use Rattle.bl_ctree.specs.Nodes.{Seen, branches_of, control_of, items_of, located, seen_of}
use Rattle.bl_ctree.specs.Positions.{Item, none_left}
use Rattle.bl_ctree_enabled.proofs.NodeLemmas.{par_is, seen_out}
use Rattle.bl_ctree_store.proofs.AgeLemmas.{get_rest, made_next}
use Rattle.bl_ctree_run.specs.inner.Wakings.{are_light, is_light, wake_seen}
use Rattle.bl_ctree_run.proofs.SpineLemmas.{seq_stays}
use Rattle.bl_ctree.proofs.WakeLemmas.{control_of_par}
use Rattle.bl_ctree_run.proofs.NodeLemmas.{control_of_seq}

-- what is light in a sequence
pub seq_light : (c : Control) (rest : List Item) → is_light (Seq c rest) ≡ true → (is_nil c ≡ false) × (is_light c ≡ true)
seq_light c rest light =
    let all = and_parts (not (is_nil c)) (not (none_left rest) && is_light c) light in
    (not-true (is_nil c) all.0, (and_parts (not (none_left rest)) (is_light c) all.1).1)

woken_stays : (c : Control) → is_light c ≡ true → is_nil c ≡ false → is_nil (woken c) ≡ false
woken_stays Nil light some = absurd cc
woken_stays (Wait s) light some = refl
woken_stays (Test s) light some = refl
woken_stays (Idle items) light some = absurd cc
woken_stays (Do s) light some = refl
woken_stays (Turn s) light some = refl
woken_stays (Seq c []) light some = absurd (let all = and_parts (not (is_nil c)) (false && is_light c) light in cc)
woken_stays (Seq c (item ∷ rest)) light some =
    let inner = seq_light c (item ∷ rest) light in
    ap is_nil (sym (seq_stays (woken c) item rest (woken_stays c inner.1 inner.0)))
woken_stays (Par s stood branches) light some = refl
woken_stays (Guard s phase stood c) light some = refl
woken_stays (Run s callee phase stood c) light some = refl

-- a sequence as it is woken
pub seq_woken : (c : Control) (rest : List Item) → is_light (Seq c rest) ≡ true → Seq (woken c) rest ≡ woken (Seq c rest)
seq_woken c [] light = absurd (let all = and_parts (not (is_nil c)) (false && is_light c) light in cc)
seq_woken c (item ∷ rest) light =
    let inner = seq_light c (item ∷ rest) light in seq_stays (woken c) item rest (woken_stays c inner.1 inner.0)

-- branches as they are woken
pub branches_woken : (all : List Seen) → branches_of (map wake_seen all) ≡ all_woken (branches_of all)
branches_woken [] = refl
branches_woken (b ∷ all) = ap (branch b.weak (woken b.tree)) (branches_woken all)

-- the first branch and the others
first_light : (b : Seen) (all : List Seen) → are_light (branches_of (b ∷ all)) ≡ true → (is_light b.tree ≡ true) × (are_light (branches_of all) ≡ true)
first_light b all light = and_parts (is_light b.tree) (are_light (branches_of all)) light

pub light_at : (all : List Seen) (k : ℕ) (b : Seen) → are_light (branches_of all) ≡ true → slice_get all k ≡ Some b → is_light b.tree ≡ true
light_at [] k b light here = absurd cc
light_at (d ∷ all) zero b light here = let same : d ≡ b = cc in ap (λ (b : Seen). is_light b.tree) (sym same) ∙ (first_light d all light).0
light_at (d ∷ all) (suc k) b light here = light_at all k b (first_light d all light).1 here

-- a branch that isn't woken yet
pub branch_here : (first now : List Seen) (k : ℕ) (b : Seen) → now ≡ map wake_seen (take k first) ++ drop k first → slice_get now k ≡ Some b
    → slice_get first k ≡ Some b
branch_here first now k b is here = sym (get_rest wake_seen first k) ∙ ap (λ all. slice_get all k) (sym is) ∙ here

-- a `cobegin` whose branches are woken
pub par_woken : (node : Node) (s : At) (stood : Bool) (old new : List BranchNode) → node ≡ ParNode s stood old
    → (are_light (branches_of (map seen_of old)) ≡ true → map seen_of new ≡ map wake_seen (map seen_of old))
    → is_light (control_of node) ≡ true → control_of (ParNode s true new) ≡ woken (control_of node)
par_woken node s stood old new is each light =
    control_of_par s true new
    ∙ ap (λ all. Par (located s) true (branches_of all)) (each (sym (ap is_light (par_is node s stood old is)) ∙ light))
    ∙ ap (Par (located s) true) (branches_woken (map seen_of old)) ∙ sym (ap woken (par_is node s stood old is))

-- a sequence whose tree is woken
pub seq_inside : (node inner made : Node) (rest : Rest) → node ≡ SeqNode inner rest
    → (is_light (control_of inner) ≡ true → control_of made ≡ woken (control_of inner)) → is_light (control_of node) ≡ true
    → control_of (SeqNode made rest) ≡ woken (control_of node)
seq_inside node inner made rest is each light =
    let shape = ap control_of is ∙ control_of_seq inner rest in
    let light' : is_light (Seq (control_of inner) (items_of rest)) ≡ true = sym (ap is_light shape) ∙ light in
    control_of_seq made rest ∙ ap (λ c. Seq c (items_of rest)) (each (seq_light (control_of inner) (items_of rest) light').1)
    ∙ seq_woken (control_of inner) (items_of rest) light' ∙ sym (ap woken shape)

-- a branch that is woken
pub seen_woken : (b : BranchNode) (tree : Node) → control_of tree ≡ woken (control_of (out-Branch b).tree)
    → seen_of (roll-Branch (record { weak = (out-Branch b).weak; tree = tree })) ≡ wake_seen (seen_of b)
seen_woken b tree is =
    seen_out (roll-Branch (record { weak = (out-Branch b).weak; tree = tree }))
    ∙ ap {B = Seen} (λ (c : Control). record { weak = (out-Branch b).weak; tree = c }) is
    ∙ sym (ap wake_seen (seen_out b))

-- one more branch is woken
pub wake_next : (first now : List BranchNode) (k : ℕ) (b made : BranchNode) → k < length now → b ≡ get_or now k b
    → (are_light (branches_of (map seen_of first)) ≡ true → map seen_of now ≡ map wake_seen (take k (map seen_of first)) ++ drop k (map seen_of first))
    → (is_light (seen_of b).tree ≡ true → seen_of made ≡ wake_seen (seen_of b)) → are_light (branches_of (map seen_of first)) ≡ true
    → map seen_of (slice_set now k made) ≡ map wake_seen (take (k + 1) (map seen_of first)) ++ drop (k + 1) (map seen_of first)
wake_next first now k b made within is before each light =
    let here : slice_get (map seen_of now) k ≡ Some (seen_of b) =
    slice_get-map seen_of now k ∙ ap (option_map seen_of) (slice_get_read now (length now) k b refl within is) in
    let there = branch_here (map seen_of first) (map seen_of now) k (seen_of b) (before light) here in
    let fits : length (map seen_of first) ≤ length (map seen_of first) = omega arith in
    map-set seen_of now k made ∙ ap (λ all. slice_set all k (seen_of made)) (before light)
    ∙ made_next wake_seen (map seen_of first) (map seen_of first) k (seen_of b) (seen_of made) fits there
    (each (light_at (map seen_of first) k (seen_of b) light there))

-- a branch with its tree woken
pub made_woken : (b : BranchNode) (tree : Node) → (is_light (control_of (out-Branch b).tree) ≡ true → control_of tree ≡ woken (control_of (out-Branch b).tree))
    → is_light (seen_of b).tree ≡ true → seen_of (roll-Branch (record { weak = (out-Branch b).weak; tree = tree })) ≡ wake_seen (seen_of b)
made_woken b tree each light = seen_woken b tree (each (sym (ap (λ (s : Seen). is_light s.tree) (seen_out b)) ∙ light))
