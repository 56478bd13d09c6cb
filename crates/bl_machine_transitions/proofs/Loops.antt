-- Loops that go down lists of statements, arms and branches: one element more.
use Rattle.std.proofs.Common.{◌≡◌, ℕ, suc, ◌+◌, ◌-◌, ◌<◌, ◌≤◌, Bool, true, false, ◌&&◌, ◌||◌, List}
use Rattle.std.proofs.Common.{[], ◌∷◌, ◌++◌, length, map, drop, get_or}
use Rattle.std.proofs.Common.{refl, ap, sym, ◌∙◌, subst, add_assoc, zero-add, append_assoc, arith, drop_of_length-le, nat_eq}
use Rattle.std.proofs.Math.Dec.{eqb-suc-zero}
use Rattle.std.proofs.lemmas.List.{append-nil}
use Rattle.std.specs.Prelude.{IsTrue, ◌↔◌, if◌then◌else◌}
use Rattle.bl_tree.proofs.Basics.{and_assoc, and_true, drop_next, or_assoc, or_false}
use Rattle.bl_tree.specs.declared.place.Place.{Place}
use Rattle.bl_tree.specs.declared.tree.Arm.{Arm, fold_out-Arm, out-Arm}
use Rattle.bl_tree.specs.declared.tree.Branch.{Branch, fold_out-Branch, out-Branch}
use Rattle.bl_tree.specs.declared.tree.Expr.{Expr}
use Rattle.bl_tree.specs.declared.tree.Stmt.{Stmt, fold_out-Stmt, out-Stmt}
use Rattle.bl_tree.specs.declared.tree.StmtKind.{StmtKind, fold-StmtKind, fold_out-StmtKind, out-StmtKind}
use Rattle.bl_tree.specs.declared.tree.StmtKind.TheFolds.{map-StmtKind}
use Rattle.bl_tree.specs.declared.tree.StmtKind.TheVariants as kinds
use Rattle.bl_machine.specs.declared.slots.Slot.{Slot}
use Rattle.bl_machine_transitions.specs.declared.transition.Change.{Change}
use Rattle.bl_machine_transitions.specs.declared.transition.Change.TheVariants.{SetCounter}
use Rattle.bl_machine_transitions.specs.declared.size.Fork.{Fork}
use Rattle.bl_machine_transitions.specs.declared.size.Size.{Size}
use Rattle.bl_machine_transitions.specs.Listed.{Layout, tested_rule}
use Rattle.bl_machine_transitions.specs.Told.{NumberedTransition, Tests}
use Rattle.bl_machine_transitions.specs.inner.Joined.{enter_unless_empty, fork_of, join_fork, no_fork, or_size, sized, then_size}
use Rattle.bl_machine_transitions.specs.inner.Parts.{ArmPart, BranchPart, Part, arm_of, arm_part, branch_of, branch_part, chain, condition_part, each, ends}
use Rattle.bl_machine_transitions.specs.inner.Parts.{entry_changes, follow, forked, if_part, kind_part, nothing, part, part_of_block, places_in_branch, stmt_of}

-- ---- lists

add_none : (n : ℕ) → n + 0 ≡ n
add_none n = omega arith

-- ---- what a list's parts are

pub arm_is : (arm : Arm) → arm_part arm ≡ record { test = (out-Arm arm).test; body = part_of_block (map part (out-Arm arm).body) }
arm_is arm = fold_out-Arm (Place → Part) ArmPart BranchPart Part kind_part arm_of branch_of stmt_of arm

pub branch_is : (branch : Branch) → branch_part branch
    ≡ record { weak = (out-Branch branch).weak; body = part_of_block (map part (out-Branch branch).body) }
branch_is branch = fold_out-Branch (Place → Part) ArmPart BranchPart Part kind_part arm_of branch_of stmt_of branch

eq_none : (n : ℕ) → nat_eq (suc n) 0 ≡ false
eq_none n = eqb-suc-zero n

pub block_empty : (body : List Stmt) → (part_of_block (map part body)).empty ≡ nat_eq (length body) 0
block_empty [] = refl
block_empty (s ∷ rest) = sym (eq_none (length rest))

-- ---- sizes

then_regroup : (a b c : Size) → then_size (then_size a b) c ≡ then_size a (then_size b c)
then_regroup a b c = λ i. record {
  nodes = add_assoc a.nodes b.nodes c.nodes i;
  places = add_assoc a.places b.places c.places i;
  instant = and_assoc a.instant b.instant c.instant i;
}

or_size_regroup : (a b c : Size) → or_size (or_size a b) c ≡ or_size a (or_size b c)
or_size_regroup a b c = λ i. record {
  nodes = add_assoc a.nodes b.nodes c.nodes i;
  places = add_assoc a.places b.places c.places i;
  instant = or_assoc a.instant b.instant c.instant i;
}

fork_regroup : (a b c : Fork) → join_fork (join_fork a b) c ≡ join_fork a (join_fork b c)
fork_regroup a b c = λ i. record {
  nodes = add_assoc a.nodes b.nodes c.nodes i;
  places = add_assoc a.places b.places c.places i;
  strong = or_assoc a.strong b.strong c.strong i;
  all = and_assoc a.all b.all c.all i;
  some = or_assoc a.some b.some c.some i;
}

pub none_then : (s : Size) → then_size (record { nodes = 0; places = 0; instant = true }) s ≡ s
none_then s = λ i. record { nodes = zero-add s.nodes i; places = zero-add s.places i; instant = s.instant }

pub none_or : (s : Size) → or_size (record { nodes = 0; places = 0; instant = false }) s ≡ s
none_or s = λ i. record { nodes = zero-add s.nodes i; places = zero-add s.places i; instant = s.instant }

pub none_beside : (f : Fork) → join_fork no_fork f ≡ f
none_beside f = λ i. record { nodes = zero-add f.nodes i; places = zero-add f.places i; strong = f.strong; all = f.all; some = f.some }

then_none : (s : Size) → then_size s nothing.size ≡ s
then_none s = λ i. record { nodes = add_none s.nodes i; places = add_none s.places i; instant = and_true s.instant i }

beside_none : (f : Fork) → join_fork f no_fork ≡ f
beside_none f = λ i. record {
  nodes = add_none f.nodes i;
  places = add_none f.places i;
  strong = or_false f.strong i;
  all = and_true f.all i;
  some = or_false f.some i;
}

pub size_next : (body : List Stmt) (k : ℕ) (s : Stmt) (all size next total : Size) → k < length body → s ≡ get_or body k s →
    size ≡ (part s).size → next ≡ then_size all size → then_size all (part_of_block (map part (drop k body))).size ≡ total →
    then_size next (part_of_block (map part (drop (k + 1) body))).size ≡ total
size_next body k s all size next total within is one grows before =
    ap (λ z. then_size z (part_of_block (map part (drop (k + 1) body))).size) (grows ∙ ap (then_size all) one)
    ∙ then_regroup all (part s).size (part_of_block (map part (drop (k + 1) body))).size
    ∙ subst (λ rest. then_size all (part_of_block (map part rest)).size ≡ total) (drop_next body k s within is) before

pub size_end : (body : List Stmt) (k : ℕ) (all total : Size) → length body ≤ k → then_size all (part_of_block (map part (drop k body))).size
    ≡ total → all ≡ total
size_end body k all total over before =
    sym (then_none all) ∙ subst (λ rest. then_size all (part_of_block (map part rest)).size ≡ total) (drop_of_length-le body over) before

pub arm_next : (arms : List Arm) (k : ℕ) (arm : Arm) (other : Part) (body : List Stmt) (all inner size next total : Size) → k < length arms →
    arm ≡ get_or arms k arm → body ≡ (out-Arm arm).body → inner ≡ (part_of_block (map part body)).size → size ≡ sized 1 inner.instant inner →
    next ≡ or_size all size →
    or_size all (chain (map arm_part (drop k arms)) other).size ≡ total → or_size next (chain (map arm_part (drop (k + 1) arms)) other).size
    ≡ total
arm_next arms k arm other body all inner size next total within is out inside one grows before =
    let own : inner ≡ (arm_part arm).body.size =
    inside ∙ ap (λ body. (part_of_block (map part body)).size) out ∙ sym (ap (λ a. a.body.size) (arm_is arm)) in
    ap (λ z. or_size z (chain (map arm_part (drop (k + 1) arms)) other).size)
    (grows ∙ ap (or_size all) (one ∙ ap (λ inner. sized 1 inner.instant inner) own))
    ∙ or_size_regroup all (sized 1 (arm_part arm).body.size.instant (arm_part arm).body.size) (chain (map arm_part (drop (k + 1) arms)) other).size
    ∙ subst (λ rest. or_size all (chain (map arm_part rest) other).size ≡ total) (drop_next arms k arm within is) before

pub arm_end : (arms : List Arm) (k : ℕ) (other : Part) (all total : Size) → length arms ≤ k →
    or_size all (chain (map arm_part (drop k arms)) other).size ≡ total → or_size all other.size ≡ total
arm_end arms k other all total over before =
    subst (λ rest. or_size all (chain (map arm_part rest) other).size ≡ total) (drop_of_length-le arms over) before

pub fork_next : (branches : List Branch) (k : ℕ) (branch : Branch) (weak : Bool) (body : List Stmt) (size : Size) (all one next total : Fork) →
    k < length branches → branch ≡ get_or branches k branch → weak ≡ (out-Branch branch).weak → body ≡ (out-Branch branch).body →
    size ≡ (part_of_block (map part body)).size → one ≡ fork_of weak size → next ≡ join_fork all one →
    join_fork all (forked (map branch_part (drop k branches))) ≡ total → join_fork next (forked (map branch_part (drop (k + 1) branches)))
    ≡ total
fork_next branches k branch weak body size all one next total within is faint out inside single grows before =
    let own : one ≡ fork_of (branch_part branch).weak (branch_part branch).body.size =
    single ∙ (λ i. fork_of (faint i) ((inside ∙ ap (λ body. (part_of_block (map part body)).size) out) i))
    ∙ sym (ap (λ b. fork_of b.weak b.body.size) (branch_is branch)) in
    ap (λ z. join_fork z (forked (map branch_part (drop (k + 1) branches)))) (grows ∙ ap (join_fork all) own)
    ∙ fork_regroup all (fork_of (branch_part branch).weak (branch_part branch).body.size) (forked (map branch_part (drop (k + 1) branches)))
    ∙ subst (λ rest. join_fork all (forked (map branch_part rest)) ≡ total) (drop_next branches k branch within is) before

pub fork_end : (branches : List Branch) (k : ℕ) (all total : Fork) → length branches ≤ k →
    join_fork all (forked (map branch_part (drop k branches))) ≡ total → all ≡ total
fork_end branches k all total over before =
    sym (beside_none all) ∙ subst (λ rest. join_fork all (forked (map branch_part rest)) ≡ total) (drop_of_length-le branches over) before

-- ---- where a part rests

pub rests_next : (layout : Layout) (a b : Part) (at next : ℕ) (into more : List Slot) → next ≡ at + a.size.places →
    more ≡ into ++ a.rests layout at → more ++ b.rests layout next ≡ into ++ (a.rests layout at ++ b.rests layout (at + a.size.places))
rests_next layout a b at next into more step grows =
    (λ i. grows i ++ b.rests layout (step i)) ∙ append_assoc into (a.rests layout at) (b.rests layout (at + a.size.places))

pub places_next : (a b : Size) (at next : ℕ) → next ≡ at + a.places → next + b.places ≡ at + (a.places + b.places)
places_next a b at next step = omega (arith, step)

-- ---- rules

pub rules_next : (layout : Layout) (a b : Part) (k p node place : ℕ) (empty : Bool) (next enters : Change) (into more : List NumberedTransition) →
    node ≡ k + a.size.nodes → place ≡ p + a.size.places → empty ≡ b.empty → enters ≡ enter_unless_empty layout empty node next →
    more ≡ into ++ a.rules layout k p enters →
    more ++ b.rules layout node place next ≡ into ++ (follow a b).rules layout k p next
rules_next layout a b k p node place empty next enters into more first second bare opens grows =
    (λ i. (grows ∙ ap (λ c. into ++ a.rules layout k p c)
    (opens ∙ (λ j. enter_unless_empty layout (bare j) (first j) next))) i ++ b.rules layout (first i) (second i) next)
    ∙ append_assoc into (a.rules layout k p (enter_unless_empty layout b.empty (k + a.size.nodes) next))
    (b.rules layout (k + a.size.nodes) (p + a.size.places) next)

pub chain_empty : (arms : List Arm) (other : Part) → (chain (map arm_part arms) other).empty ≡ (nat_eq (length arms) 0 && other.empty)
chain_empty [] other = refl
chain_empty (arm ∷ rest) other = ap (λ b. b && other.empty) (sym (eq_none (length rest)))

pub choice_next : (layout : Layout) (test : Expr) (a b : Part) (k p inner node place : ℕ) (bare last : Bool) (next on_true on_false : Change)
    (into first more : List NumberedTransition) → inner ≡ k + 1 → node ≡ inner + a.size.nodes → place ≡ p + a.size.places → bare ≡ a.empty →
    last ≡ b.empty →
    on_true ≡ enter_unless_empty layout bare inner next → on_false ≡ enter_unless_empty layout last node next →
    first ≡ into ++ tested_rule layout k (Tests test) (on_true ∷ []) (on_false ∷ []) ∷ [] → more ≡ first ++ a.rules layout inner p next →
    more ++ b.rules layout node place next ≡ into ++ (condition_part test a b).rules layout k p next
choice_next layout test a b k p inner node place bare last next on_true on_false into first more one second third empty ends opens closes puts grows =
    let behind : node ≡ k + 1 + a.size.nodes = second ∙ ap (λ k. k + a.size.nodes) one in
    let enters : on_true ≡ enter_unless_empty layout a.empty (k + 1) next = opens ∙ (λ i. enter_unless_empty layout (empty i) (one i) next) in
    let leaves : on_false ≡ enter_unless_empty layout b.empty (k + 1 + a.size.nodes) next = closes
    ∙ (λ i. enter_unless_empty layout (ends i) (behind i) next) in
    let own : NumberedTransition = tested_rule layout k (Tests test) (enter_unless_empty layout a.empty (k + 1) next ∷ [])
    (enter_unless_empty layout b.empty (k + 1 + a.size.nodes) next ∷ []) in
    (λ i. (grows ∙ (λ j. (puts ∙ (λ l. into ++ tested_rule layout k (Tests test) (enters l ∷ []) (leaves l ∷ []) ∷ [])) j
    ++ a.rules layout (one j) p next)) i
    ++ b.rules layout (behind i) (third i) next)
    ∙ append_assoc (into ++ own ∷ []) (a.rules layout (k + 1) p next) (b.rules layout (k + 1 + a.size.nodes) (p + a.size.places) next)
    ∙ append_assoc into (own ∷ []) (a.rules layout (k + 1) p next ++ b.rules layout (k + 1 + a.size.nodes) (p + a.size.places) next)

-- ---- branches

pub each_next : (layout : Layout) (branch : BranchPart) (rest : List BranchPart) (k p node place inner : ℕ) (into more : List NumberedTransition) →
    inner ≡ p + 1 → node ≡ k + branch.body.size.nodes → place ≡ p + places_in_branch branch →
    more ≡ into ++ branch.body.rules layout k inner (SetCounter (layout.slot p)) →
    more ++ each layout node place rest ≡ into ++ each layout k p (branch ∷ rest)
each_next layout branch rest k p node place inner into more one first second grows =
    (λ i. (grows ∙ (λ j. into ++ branch.body.rules layout k (one j) (SetCounter (layout.slot p)))) i ++ each layout (first i) (second i) rest)
    ∙ append_assoc into (branch.body.rules layout k (p + 1) (SetCounter (layout.slot p)))
    (each layout (k + branch.body.size.nodes) (p + places_in_branch branch) rest)

pub begins_next : (layout : Layout) (branch : BranchPart) (rest : List BranchPart) (k p node place : ℕ) (bare : Bool) (enters : Change)
    (into more : List Change) → bare ≡ branch.body.empty → enters ≡ enter_unless_empty layout bare k (SetCounter (layout.slot p)) → node
    ≡ k + branch.body.size.nodes →
    place ≡ p + places_in_branch branch → more ≡ into ++ enters ∷ [] →
    more ++ entry_changes layout node place rest ≡ into ++ entry_changes layout k p (branch ∷ rest)
begins_next layout branch rest k p node place bare enters into more empty opens first second grows =
    (λ i. (grows ∙ (λ j. into ++ (opens ∙ (λ l. enter_unless_empty layout (empty l) k (SetCounter (layout.slot p)))) j ∷ [])) i ++ entry_changes layout
    (first i) (second i) rest)
    ∙ append_assoc into (enter_unless_empty layout branch.body.empty k (SetCounter (layout.slot p)) ∷ [])
    (entry_changes layout (k + branch.body.size.nodes) (p + places_in_branch branch) rest)

ends_by : (test strong : Bool) (layout : Layout) (slot : Slot) (at : ℕ) (rest : List BranchPart) (into : List Slot) →
    (into ++ (if test then [] else slot ∷ [])) ++ ends strong layout at rest
    ≡ into ++ (if test then ends strong layout at rest else slot ∷ ends strong layout at rest)
ends_by true strong layout slot at rest into = append_assoc into [] (ends strong layout at rest)
ends_by false strong layout slot at rest into = append_assoc into (slot ∷ []) (ends strong layout at rest)

pub ends_next : (layout : Layout) (branch : BranchPart) (rest : List BranchPart) (strong weak : Bool) (p place : ℕ) (into more : List Slot) →
    weak ≡ branch.weak → place ≡ p + places_in_branch branch → more ≡ into ++ (if strong && weak then [] else layout.slot p ∷ []) →
    more ++ ends strong layout place rest ≡ into ++ ends strong layout p (branch ∷ rest)
ends_next layout branch rest strong weak p place into more faint step grows =
    (λ i. (grows ∙ (λ j. into ++ (if strong && faint j then [] else layout.slot p ∷ []))) i ++ ends strong layout (step i) rest)
    ∙ ends_by (strong && branch.weak) strong layout (layout.slot p) (p + places_in_branch branch) rest into

-- ---- the loops

pub rests_of_next : (layout : Layout) (body : List Stmt) (k : ℕ) (s : Stmt) (at next places : ℕ) (into more all : List Slot) →
    k < length body →
    s ≡ get_or body k s → next ≡ at + (part s).size.places → more ≡ into ++ (part s).rests layout at →
    (at + (part_of_block (map part (drop k body))).size.places ≡ places) × (into ++ (part_of_block (map part (drop k body))).rests layout at ≡ all) →
    (next + (part_of_block (map part (drop (k + 1) body))).size.places ≡ places)
    × (more ++ (part_of_block (map part (drop (k + 1) body))).rests layout next ≡ all)
rests_of_next layout body k s at next places into more all within is step grows before =
    let rest : Part = part_of_block (map part (drop (k + 1) body)) in
    let known = subst (λ rest. (at + (part_of_block (map part rest)).size.places ≡ places) × (into ++ (part_of_block (map part rest)).rests layout at ≡ all))
    (drop_next body k s within is) before in
    (places_next (part s).size rest.size at next step ∙ known.0, rests_next layout (part s) rest at next into more step grows ∙ known.1)

pub rests_of_arm : (layout : Layout) (arms : List Arm) (k : ℕ) (arm : Arm) (body : List Stmt) (other : Part) (at next places : ℕ)
    (into more all : List Slot) → k < length arms → arm ≡ get_or arms k arm → body ≡ (out-Arm arm).body →
    next ≡ at + (part_of_block (map part body)).size.places → more ≡ into ++ (part_of_block (map part body)).rests layout at →
    (at + (chain (map arm_part (drop k arms)) other).size.places ≡ places)
    × (into ++ (chain (map arm_part (drop k arms)) other).rests layout at ≡ all)
    → (next + (chain (map arm_part (drop (k + 1) arms)) other).size.places ≡ places)
    × (more ++ (chain (map arm_part (drop (k + 1) arms)) other).rests layout next ≡ all)
rests_of_arm layout arms k arm body other at next places into more all within is out step grows before =
    let own : part_of_block (map part body) ≡ (arm_part arm).body = ap (λ body. part_of_block (map part body)) out ∙ sym (ap (λ a. a.body) (arm_is arm)) in
    let rest : Part = chain (map arm_part (drop (k + 1) arms)) other in
    let known = subst (λ rest. (at + (chain (map arm_part rest) other).size.places ≡ places)
    × (into ++ (chain (map arm_part rest) other).rests layout at ≡ all)) (drop_next arms k arm within is) before in (
      places_next (arm_part arm).body.size rest.size at next (step ∙ ap (λ a. at + a.size.places) own) ∙ known.0,
      rests_next layout (arm_part arm).body rest at next into more (step ∙ ap (λ a. at + a.size.places) own)
          (grows ∙ ap (λ a. into ++ a.rests layout at) own) ∙ known.1,
    )

one_left : {A : Type 0} (xs : List A) (k : ℕ) (x : A) (left : ℕ) → k < length xs → x ≡ get_or xs k x → left ≡ length (drop k xs) →
    left - 1 ≡ length (drop (k + 1) xs)
one_left xs k x left within is count =
    let whole : left ≡ suc (length (drop (k + 1) xs)) = count ∙ ap length (drop_next xs k x within is) in omega arith

pub left_next : {A : Type 0} (xs : List A) (k : ℕ) (x : A) (left : ℕ) → k < length xs → x ≡ get_or xs k x → left
    ≡ length (drop k xs) →
    left - 1 ≡ length (drop (k + 1) xs)
left_next xs k x left within is count = one_left xs k x left within is count

pub rules_of_next : (layout : Layout) (body : List Stmt) (i : ℕ) (s : Stmt) (size : Size) (k p node place left : ℕ) (next enters : Change)
    (into more all : List NumberedTransition) → i < length body → s ≡ get_or body i s → size ≡ (part s).size → node ≡ k + size.nodes → place
    ≡ p + size.places →
    enters ≡ enter_unless_empty layout (nat_eq (left - 1) 0) node next → more ≡ into ++ (part s).rules layout k p enters → left ≡ length (drop i body) →
    into ++ (part_of_block (map part (drop i body))).rules layout k p next ≡ all →
    more ++ (part_of_block (map part (drop (i + 1) body))).rules layout node place next ≡ all
rules_of_next layout body i s size k p node place left next enters into more all within is one first second opens grows count before =
    rules_next layout (part s) (part_of_block (map part (drop (i + 1) body))) k p node place (nat_eq (left - 1) 0) next enters into more
    (first ∙ ap (λ size. k + size.nodes) one) (second ∙ ap (λ size. p + size.places) one)
    (ap (λ n. nat_eq n 0) (one_left body i s left within is count) ∙ sym (block_empty (drop (i + 1) body))) opens grows
    ∙ subst (λ rest. into ++ (part_of_block (map part rest)).rules layout k p next ≡ all) (drop_next body i s within is) before

pub rules_of_arm : (layout : Layout) (arms : List Arm) (i : ℕ) (arm : Arm) (body : List Stmt) (other : Part) (size : Size)
    (k p inner node place left : ℕ) (bare last : Bool) (next on_true on_false : Change) (into first more all : List NumberedTransition) → i < length arms →
    arm ≡ get_or arms i arm → body ≡ (out-Arm arm).body → size ≡ (part_of_block (map part body)).size → inner ≡ k + 1 → node
    ≡ inner + size.nodes →
    place ≡ p + size.places → bare ≡ (part_of_block (map part body)).empty → last ≡ other.empty → on_true ≡ enter_unless_empty layout bare inner next →
    on_false ≡ enter_unless_empty layout (nat_eq (left - 1) 0 && last) node next →
    first ≡ into ++ tested_rule layout k (Tests (out-Arm arm).test) (on_true ∷ []) (on_false ∷ []) ∷ [] →
    more ≡ first ++ (part_of_block (map part body)).rules layout inner p next → left ≡ length (drop i arms) →
    into ++ (chain (map arm_part (drop i arms)) other).rules layout k p next ≡ all →
    more ++ (chain (map arm_part (drop (i + 1) arms)) other).rules layout node place next ≡ all
rules_of_arm layout arms i arm body other size k p inner node place left bare last next on_true on_false into first more all within is out
    sizes one second third empty ends opens closes puts grows count before =
    let own : part_of_block (map part body) ≡ (arm_part arm).body = ap (λ body. part_of_block (map part body)) out ∙ sym (ap (λ a. a.body) (arm_is arm)) in
    let rest : Part = chain (map arm_part (drop (i + 1) arms)) other in
    let known : size ≡ (arm_part arm).body.size = sizes ∙ ap (λ a. a.size) own in
    choice_next layout (arm_part arm).test (arm_part arm).body rest k p inner node place bare (nat_eq (left - 1) 0 && last) next on_true on_false
    into first more one (second ∙ ap (λ size. inner + size.nodes) known) (third ∙ ap (λ size. p + size.places) known)
    (empty ∙ ap (λ a. a.empty) own)
    ((λ j. nat_eq (one_left arms i arm left within is count j) 0 && ends j) ∙ sym (chain_empty (drop (i + 1) arms) other)) opens closes
    (puts ∙ ap (λ test. into ++ tested_rule layout k (Tests test) (on_true ∷ []) (on_false ∷ []) ∷ []) (sym (ap (λ a. a.test) (arm_is arm))))
    (grows ∙ ap (λ a. first ++ a.rules layout inner p next) own)
    ∙ subst (λ rest. into ++ (chain (map arm_part rest) other).rules layout k p next ≡ all) (drop_next arms i arm within is) before

body_of : (branch : Branch) (body : List Stmt) → body ≡ (out-Branch branch).body → part_of_block (map part body) ≡ (branch_part branch).body
body_of branch body out = ap (λ body. part_of_block (map part body)) out ∙ sym (ap (λ b. b.body) (branch_is branch))

pub each_of_next : (layout : Layout) (branches : List Branch) (i : ℕ) (branch : Branch) (body : List Stmt) (size : Size)
    (k p inner node more_places place : ℕ) (slot : Slot) (into more all : List NumberedTransition) → i < length branches → branch
    ≡ get_or branches i branch →
    body ≡ (out-Branch branch).body → size ≡ (part_of_block (map part body)).size → inner ≡ p + 1 → node ≡ k + size.nodes →
    more_places ≡ size.places + 1 → place ≡ p + more_places → slot ≡ layout.slot p →
    more ≡ into ++ (part_of_block (map part body)).rules layout k inner (SetCounter slot) →
    into ++ each layout k p (map branch_part (drop i branches)) ≡ all →
    more ++ each layout node place (map branch_part (drop (i + 1) branches)) ≡ all
each_of_next layout branches i branch body size k p inner node more_places place slot into more all within is out sizes one first wide second rests
    grows before =
    let own = body_of branch body out in
    let known : size ≡ (branch_part branch).body.size = sizes ∙ ap (λ a. a.size) own in
    each_next layout (branch_part branch) (map branch_part (drop (i + 1) branches)) k p node place inner into more one
    (first ∙ ap (λ size. k + size.nodes) known) (second ∙ ap (λ n. p + n) (wide ∙ ap (λ size. size.places + 1) known))
    (grows ∙ (λ j. into ++ (own j).rules layout k inner (SetCounter (rests j))))
    ∙ subst (λ rest. into ++ each layout k p (map branch_part rest) ≡ all) (drop_next branches i branch within is) before

pub begins_of_next : (layout : Layout) (branches : List Branch) (i : ℕ) (branch : Branch) (body : List Stmt) (size : Size)
    (k p node more_places place : ℕ) (bare : Bool) (slot : Slot) (enters : Change) (into more all : List Change) → i < length branches →
    branch ≡ get_or branches i branch → body ≡ (out-Branch branch).body → size ≡ (part_of_block (map part body)).size →
    bare ≡ (part_of_block (map part body)).empty → slot ≡ layout.slot p → enters ≡ enter_unless_empty layout bare k (SetCounter slot) → node ≡ k + size.nodes →
    more_places ≡ size.places + 1 → place ≡ p + more_places → more ≡ into ++ enters ∷ [] →
    into ++ entry_changes layout k p (map branch_part (drop i branches)) ≡ all →
    more ++ entry_changes layout node place (map branch_part (drop (i + 1) branches)) ≡ all
begins_of_next layout branches i branch body size k p node more_places place bare slot enters into more all within is out sizes empty rests opens first
    wide second grows before =
    let own = body_of branch body out in
    let known : size ≡ (branch_part branch).body.size = sizes ∙ ap (λ a. a.size) own in
    begins_next layout (branch_part branch) (map branch_part (drop (i + 1) branches)) k p node place bare enters into more
    (empty ∙ ap (λ a. a.empty) own)
    (opens ∙ ap (λ slot. enter_unless_empty layout bare k (SetCounter slot)) rests) (first ∙ ap (λ size. k + size.nodes) known)
    (second ∙ ap (λ n. p + n) (wide ∙ ap (λ size. size.places + 1) known)) grows
    ∙ subst (λ rest. into ++ entry_changes layout k p (map branch_part rest) ≡ all) (drop_next branches i branch within is) before

pub ends_of_next : (layout : Layout) (branches : List Branch) (i : ℕ) (branch : Branch) (body : List Stmt) (size : Size) (strong weak : Bool)
    (p more_places place : ℕ) (slot : Slot) (into more all : List Slot) → i < length branches → branch ≡ get_or branches i branch →
    body ≡ (out-Branch branch).body → size ≡ (part_of_block (map part body)).size → weak ≡ (out-Branch branch).weak →
    more_places ≡ size.places + 1 → place ≡ p + more_places → slot ≡ layout.slot p → more
    ≡ into ++ (if strong && weak then [] else slot ∷ []) →
    into ++ ends strong layout p (map branch_part (drop i branches)) ≡ all →
    more ++ ends strong layout place (map branch_part (drop (i + 1) branches)) ≡ all
ends_of_next layout branches i branch body size strong weak p more_places place slot into more all within is out sizes faint wide second rests grows
    before =
    let known : size ≡ (branch_part branch).body.size = sizes ∙ ap (λ a. a.size) (body_of branch body out) in
    ends_next layout (branch_part branch) (map branch_part (drop (i + 1) branches)) strong weak p place into more
    (faint ∙ sym (ap (λ b. b.weak) (branch_is branch))) (second ∙ ap (λ n. p + n) (wide ∙ ap (λ size. size.places + 1) known))
    (grows ∙ ap (λ slot. into ++ (if strong && weak then [] else slot ∷ [])) rests)
    ∙ subst (λ rest. into ++ ends strong layout p (map branch_part rest) ≡ all) (drop_next branches i branch within is) before

pub rules_of_end : (layout : Layout) (body : List Stmt) (i k p : ℕ) (next : Change) (into all : List NumberedTransition) → length body ≤ i →
    into ++ (part_of_block (map part (drop i body))).rules layout k p next ≡ all → into ≡ all
rules_of_end layout body i k p next into all over before =
    sym (append-nil into) ∙ subst (λ rest. into ++ (part_of_block (map part rest)).rules layout k p next ≡ all) (drop_of_length-le body over) before

pub rules_of_arms_end : (layout : Layout) (arms : List Arm) (i k p : ℕ) (other : Part) (next : Change) (into all : List NumberedTransition) →
    length arms ≤ i →
    into ++ (chain (map arm_part (drop i arms)) other).rules layout k p next ≡ all → into ++ other.rules layout k p next ≡ all
rules_of_arms_end layout arms i k p other next into all over before =
    subst (λ rest. into ++ (chain (map arm_part rest) other).rules layout k p next ≡ all) (drop_of_length-le arms over) before

pub each_of_end : (layout : Layout) (branches : List Branch) (i k p : ℕ) (into all : List NumberedTransition) → length branches ≤ i →
    into ++ each layout k p (map branch_part (drop i branches)) ≡ all → into ≡ all
each_of_end layout branches i k p into all over before =
    sym (append-nil into) ∙ subst (λ rest. into ++ each layout k p (map branch_part rest) ≡ all) (drop_of_length-le branches over) before

pub begins_of_end : (layout : Layout) (branches : List Branch) (i k p : ℕ) (into all : List Change) → length branches ≤ i →
    into ++ entry_changes layout k p (map branch_part (drop i branches)) ≡ all → into ≡ all
begins_of_end layout branches i k p into all over before =
    sym (append-nil into) ∙ subst (λ rest. into ++ entry_changes layout k p (map branch_part rest) ≡ all) (drop_of_length-le branches over) before

pub ends_of_end : (layout : Layout) (branches : List Branch) (i p : ℕ) (strong : Bool) (into all : List Slot) → length branches ≤ i →
    into ++ ends strong layout p (map branch_part (drop i branches)) ≡ all → into ≡ all
ends_of_end layout branches i p strong into all over before =
    sym (append-nil into) ∙ subst (λ rest. into ++ ends strong layout p (map branch_part rest) ≡ all) (drop_of_length-le branches over) before

pub rests_of_arms_end : (layout : Layout) (arms : List Arm) (i at places : ℕ) (other : Part) (into all : List Slot) → length arms ≤ i →
    (at + (chain (map arm_part (drop i arms)) other).size.places ≡ places)
    × (into ++ (chain (map arm_part (drop i arms)) other).rests layout at ≡ all) →
    (at + other.size.places ≡ places) × (into ++ other.rests layout at ≡ all)
rests_of_arms_end layout arms i at places other into all over before =
    subst (λ rest. (at + (chain (map arm_part rest) other).size.places ≡ places)
    × (into ++ (chain (map arm_part rest) other).rests layout at ≡ all))
    (drop_of_length-le arms over) before

pub rests_of_end : (layout : Layout) (body : List Stmt) (i at places : ℕ) (into all : List Slot) → length body ≤ i →
    (at + (part_of_block (map part (drop i body))).size.places ≡ places) × (into ++ (part_of_block (map part (drop i body))).rests layout at ≡ all) →
    (at ≡ places) × (into ≡ all)
rests_of_end layout body i at places into all over before =
    let known = subst (λ rest. (at + (part_of_block (map part rest)).size.places ≡ places) × (into ++ (part_of_block (map part rest)).rests layout at ≡ all))
    (drop_of_length-le body over) before in
    (sym (add_none at) ∙ known.0, sym (append-nil into) ∙ known.1)

-- ---- an `if`

part_if : (s : Stmt) (arms : List Arm) (other : List Stmt) → (out-Stmt s).what ≡ kinds.If arms other →
    part s ≡ if_part (out-Stmt s).place (map arm_part arms) (part_of_block (map part other))
part_if s arms other is =
    fold_out-Stmt (Place → Part) ArmPart BranchPart Part kind_part arm_of branch_of stmt_of s
    ∙ ap (λ made. made (out-Stmt s).place)
    (fold_out-StmtKind (Place → Part) ArmPart BranchPart Part kind_part arm_of branch_of stmt_of (out-Stmt s).what)
    ∙ ap (λ layer. kind_part (map-StmtKind StmtKind Arm Branch Stmt (Place → Part) ArmPart BranchPart Part
    (fold-StmtKind (Place → Part) ArmPart BranchPart Part kind_part arm_of branch_of stmt_of) arm_part branch_part part layer) (out-Stmt s).place)
    (ap out-StmtKind is ∙ kinds.outs-If arms other)

chosen_some : (place : Place) (arms : List Arm) (other : Part) (none : Bool) → none ≡ false → (IsTrue none ↔ (arms ≡ [])) →
    if_part place (map arm_part arms) other ≡ chain (map arm_part arms) other
chosen_some place [] other none not_so tells = grind arith
chosen_some place (arm ∷ rest) other none not_so tells = refl

pub part_some_if : (s : Stmt) (arms : List Arm) (other : List Stmt) (none : Bool) → (out-Stmt s).what ≡ kinds.If arms other → none ≡ false →
    (IsTrue none ↔ (arms ≡ [])) → part s ≡ chain (map arm_part arms) (part_of_block (map part other))
part_some_if s arms other none is not_so tells =
    part_if s arms other is ∙ chosen_some (out-Stmt s).place arms (part_of_block (map part other)) none not_so tells
