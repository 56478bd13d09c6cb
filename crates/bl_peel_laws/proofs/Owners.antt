-- Where statements and the conditions of loops begin one after another, an offset tells the one statement to which it belongs.
use Rattle.std.proofs.Common.{◌≡◌, ℕ, true, List, [], ◌∷◌, ◌++◌, map, refl, sym, ap, subst, ◌∙◌, append_assoc, inl, inr, ⊎_elim, ◌⊎◌, arith}
use Rattle.std.proofs.lemmas.List.{append-nil}
use Rattle.bl_tree.specs.declared.tree.Arm.{Arm, fold_out-Arm, out-Arm}
use Rattle.bl_tree.specs.declared.tree.Branch.{Branch, fold_out-Branch, out-Branch}
use Rattle.bl_tree.specs.declared.tree.Stmt.{Stmt, fold_out-Stmt, out-Stmt}
use Rattle.bl_tree.specs.declared.tree.StmtKind.{StmtKind, fold-StmtKind, fold_out-StmtKind, map-StmtKind, out-StmtKind}
use Rattle.bl_tree.specs.declared.tree.StmtKind.TheOpen.{StmtKind-F}
use Rattle.bl_tree.specs.declared.tree.Unit.{Unit as UnitDef}
use Rattle.bl_tree.specs.Reduce.{joined}
use Rattle.bl_tree.specs.Within.{StandsIn, StandsInUnits, Within, children, deeper, itself, kind_children, place_of}
use Rattle.bl_tree.proofs.FirstLemmas.{In, contains_in}
use Rattle.bl_parse_tree.specs.Starts.{ascends}
use Rattle.bl_types_laws.specs.Starts.{StatementOffsets, all_starts, arm_layer_starts, branch_layer_starts, start_of, starts_of, stmt_kind_starts}
use Rattle.bl_types_laws.specs.Starts.{stmt_layer_starts, unit_starts}
use Rattle.bl_types_laws.specs.inner.Starts.{starts_of_arm, starts_of_branch}
use Rattle.bl_types_laws.proofs.Starts.{Picked, ascends_rest, first_less, in_joined, in_right, left, one_part, part_ascends, parts_apart, picked_append}
use Rattle.bl_types_laws.proofs.Starts.{picked_ascends, picked_in, picked_none, picked_self}
use Rattle.bl_peel_laws.proofs.Origins.{conditions_of, kind_conditions}

-- ---- by the statements directly in blocks

abbrev Layer : Type 0
Layer = StmtKind-F StmtKind Arm Branch Stmt

abbrev starts_of_kind : StmtKind → StatementOffsets
starts_of_kind =
    fold-StmtKind StatementOffsets StatementOffsets StatementOffsets StatementOffsets stmt_kind_starts arm_layer_starts branch_layer_starts
    stmt_layer_starts

abbrev layer_starts : Layer → StatementOffsets
layer_starts layer = stmt_kind_starts
    (map-StmtKind StmtKind Arm Branch Stmt StatementOffsets StatementOffsets StatementOffsets StatementOffsets starts_of_kind starts_of_arm
    starts_of_branch starts_of layer)

abbrev block_starts : List Stmt → StatementOffsets
block_starts body = joined (map starts_of body)

block_append : (xs ys : List Stmt) → block_starts (xs ++ ys) ≡ block_starts xs ++ block_starts ys
block_append [] ys = refl
block_append (x ∷ xs) ys = ap (λ rest. starts_of x ++ rest) (block_append xs ys) ∙ sym (append_assoc (starts_of x) (block_starts xs) (block_starts ys))

abbrev arm_bodies : List Arm → List Stmt
arm_bodies arms = joined (map (λ (arm : Arm). (out-Arm arm).body) arms)

abbrev branch_bodies : List Branch → List Stmt
branch_bodies branches = joined (map (λ (branch : Branch). (out-Branch branch).body) branches)

of_arms : (arms : List Arm) → joined (map starts_of_arm arms) ≡ block_starts (arm_bodies arms)
of_arms [] = refl
of_arms (arm ∷ rest) =
    (λ i.
    fold_out-Arm StatementOffsets StatementOffsets StatementOffsets StatementOffsets stmt_kind_starts arm_layer_starts branch_layer_starts stmt_layer_starts
    arm i ++ of_arms rest i)
    ∙ sym (block_append (out-Arm arm).body (arm_bodies rest))

of_branches : (branches : List Branch) → joined (map starts_of_branch branches) ≡ block_starts (branch_bodies branches)
of_branches [] = refl
of_branches (branch ∷ rest) =
    (λ i.
    fold_out-Branch StatementOffsets StatementOffsets StatementOffsets StatementOffsets stmt_kind_starts arm_layer_starts branch_layer_starts
    stmt_layer_starts branch i ++ of_branches rest i)
    ∙ sym (block_append (out-Branch branch).body (branch_bodies rest))

-- those directly in the blocks begin among all that stands in a kind of statement
of_children : (layer : Layer) → Picked (block_starts (kind_children layer)) (layer_starts layer)
of_children (StmtKind-F.Declare k value) = picked_none []
of_children (StmtKind-F.Assign path e) = picked_none []
of_children (StmtKind-F.Call f inputs outputs) = picked_none []
of_children (StmtKind-F.Await e) = picked_none []
of_children (StmtKind-F.Run target a inputs outputs) = picked_none []
of_children (StmtKind-F.If arms other) =
    subst (Picked (block_starts (arm_bodies arms ++ other)))
    (sym (ap (λ l. l ++ block_starts other) (of_arms arms) ∙ sym (block_append (arm_bodies arms) other)))
    (picked_self (block_starts (arm_bodies arms ++ other)))
of_children (StmtKind-F.Cobegin branches) =
    subst (Picked (block_starts (branch_bodies branches))) (sym (of_branches branches)) (picked_self (block_starts (branch_bodies branches)))
of_children (StmtKind-F.When guard e body) = picked_self (block_starts body)
of_children (StmtKind-F.Repeat body) = picked_self (block_starts body)
of_children (StmtKind-F.Until body e) =
    subst (λ l. Picked l (block_starts body ++ start_of e ∷ [])) (append-nil (block_starts body))
    (picked_append (picked_self (block_starts body)) (picked_none (start_of e ∷ [])))
of_children (StmtKind-F.While e body) = left (start_of e) (picked_self (block_starts body))
of_children (StmtKind-F.Return e) = picked_none []

-- the condition of a loop begins in it
condition_inside : (layer : Layer) (n : ℕ) → In n (kind_conditions layer) → In n (layer_starts layer)
condition_inside (StmtKind-F.Until body e) n is = in_right n (block_starts body) (start_of e ∷ []) is
condition_inside (StmtKind-F.While e body) n is = ⊎_elim (λ same. inl same) (λ later. absurd later) is
condition_inside (StmtKind-F.Declare k value) n is = absurd is
condition_inside (StmtKind-F.Assign path e) n is = absurd is
condition_inside (StmtKind-F.Call f inputs outputs) n is = absurd is
condition_inside (StmtKind-F.Await e) n is = absurd is
condition_inside (StmtKind-F.Run target a inputs outputs) n is = absurd is
condition_inside (StmtKind-F.If arms other) n is = absurd is
condition_inside (StmtKind-F.Cobegin branches) n is = absurd is
condition_inside (StmtKind-F.When guard e body) n is = absurd is
condition_inside (StmtKind-F.Repeat body) n is = absurd is
condition_inside (StmtKind-F.Return e) n is = absurd is

-- nothing in the block of a loop begins where its condition does
condition_apart : (layer : Layer) (n : ℕ) → ascends (layer_starts layer) ≡ true → In n (kind_conditions layer) →
    In n (block_starts (kind_children layer)) → ⊥
condition_apart (StmtKind-F.Until body e) n up is there = parts_apart (block_starts body) (start_of e ∷ []) n up there is
condition_apart (StmtKind-F.While e body) n up is there = parts_apart (start_of e ∷ []) (block_starts body) n up is there
condition_apart (StmtKind-F.Declare k value) n up is there = is
condition_apart (StmtKind-F.Assign path e) n up is there = is
condition_apart (StmtKind-F.Call f inputs outputs) n up is there = is
condition_apart (StmtKind-F.Await e) n up is there = is
condition_apart (StmtKind-F.Run target a inputs outputs) n up is there = is
condition_apart (StmtKind-F.If arms other) n up is there = is
condition_apart (StmtKind-F.Cobegin branches) n up is there = is
condition_apart (StmtKind-F.When guard e body) n up is there = is
condition_apart (StmtKind-F.Repeat body) n up is there = is
condition_apart (StmtKind-F.Return e) n up is there = is

-- ---- one statement

abbrev inside : Stmt → StatementOffsets
inside s = layer_starts (out-StmtKind (out-Stmt s).what)

-- the offsets of a statement alone: where it begins, and where its condition does if it is a loop with one
abbrev pub own_of : Stmt → StatementOffsets
own_of s = (place_of s).start ∷ conditions_of s

starts_by : (s : Stmt) → starts_of s ≡ (place_of s).start ∷ inside s
starts_by s =
    fold_out-Stmt StatementOffsets StatementOffsets StatementOffsets StatementOffsets stmt_kind_starts arm_layer_starts branch_layer_starts stmt_layer_starts s
    ∙ ap (λ rest. (place_of s).start ∷ rest)
    (fold_out-StmtKind StatementOffsets StatementOffsets StatementOffsets StatementOffsets stmt_kind_starts arm_layer_starts branch_layer_starts
    stmt_layer_starts (out-Stmt s).what)

inside_ascends : (s : Stmt) → ascends (starts_of s) ≡ true → ascends (inside s) ≡ true
inside_ascends s up = ascends_rest (place_of s).start (inside s) (ap ascends (sym (starts_by s)) ∙ up)

children_ascend : (s : Stmt) → ascends (starts_of s) ≡ true → ascends (block_starts (children s)) ≡ true
children_ascend s up = picked_ascends (of_children (out-StmtKind (out-Stmt s).what)) (inside_ascends s up)

own_in : (s : Stmt) (n : ℕ) → In n (own_of s) → In n (starts_of s)
own_in s n own =
    subst (In n) (sym (starts_by s))
    (⊎_elim (λ is. inl is) (λ later. inr (condition_inside (out-StmtKind (out-Stmt s).what) n later)) own)

-- nothing in a statement begins where it does
start_apart : (s : Stmt) (n : ℕ) → ascends (starts_of s) ≡ true → n ≡ (place_of s).start → In n (inside s) → ⊥
start_apart s n up is there =
    let less = first_less (place_of s).start (inside s) n (ap ascends (sym (starts_by s)) ∙ up) there in omega arith

own_apart : (s : Stmt) (n : ℕ) → ascends (starts_of s) ≡ true → In n (own_of s) → In n (block_starts (children s)) → ⊥
own_apart s n up own there =
    ⊎_elim (λ is. start_apart s n up is (picked_in (of_children (out-StmtKind (out-Stmt s).what)) n there))
    (λ later. condition_apart (out-StmtKind (out-Stmt s).what) n (inside_ascends s up) later there) own

-- a loop doesn't begin where its condition does
pub condition_later : (s : Stmt) → ascends (starts_of s) ≡ true → In (place_of s).start (conditions_of s) → ⊥
condition_later s up there = start_apart s (place_of s).start up refl (condition_inside (out-StmtKind (out-Stmt s).what) (place_of s).start there)

-- ---- what stands in a statement

within_starts : (inner outer : Stmt) → Within inner outer → (n : ℕ) → In n (own_of inner) → In n (starts_of outer)
within_starts inner outer itself n own = own_in inner n own
within_starts inner whole (deeper outer next there within) n own =
    subst (In n) (sym (starts_by outer))
    (inr (picked_in (of_children (out-StmtKind (out-Stmt outer).what)) n
    (in_joined starts_of (children outer) next n (contains_in next (children outer) there) (within_starts inner next within n own))))

within_ascends : (inner outer : Stmt) → Within inner outer → ascends (starts_of outer) ≡ true → ascends (starts_of inner) ≡ true
within_ascends inner outer itself up = up
within_ascends inner whole (deeper outer next there within) up =
    within_ascends inner next within (part_ascends starts_of (children outer) next (children_ascend outer up) (contains_in next (children outer) there))

record Below (inner outer : Stmt) : Type 0 where
  pub next : Stmt
  pub is_there : In next (children outer)
  pub within : Within inner next

either : (inner outer : Stmt) → Within inner outer → (inner ≡ outer) ⊎ Below inner outer
either inner outer itself = inl refl
either inner whole (deeper outer next there within) = inr (record { next = next; is_there = contains_in next (children outer) there; within = within })

-- an offset of what stands in a block of a statement is none of the statement's own
below_apart : (inner outer : Stmt) (n : ℕ) → ascends (starts_of outer) ≡ true → Below inner outer → In n (own_of inner) → In n (own_of outer) → ⊥
below_apart inner outer n up below own other =
    own_apart outer n up other
    (in_joined starts_of (children outer) below.next n below.is_there (within_starts inner below.next below.within n own))

-- two statements that stand in one, and own one offset, are one
one_within : (s outer : Stmt) → Within s outer → (t : Stmt) → Within t outer → ascends (starts_of outer) ≡ true → (n : ℕ) → In n (own_of s) →
    In n (own_of t) → s ≡ t
one_within s outer itself t other up n own_s own_t =
    ⊎_elim (λ (is : t ≡ s). sym is) (λ (below : Below t s). absurd (below_apart t s n up below own_t own_s)) (either t s other)
one_within s whole (deeper outer next there within) t other up n own_s own_t =
    let first = contains_in next (children outer) there in
    ⊎_elim
    (λ (is : t ≡ outer).
    absurd (below_apart s outer n up (record { next = next; is_there = first; within = within }) own_s (subst (λ t. In n (own_of t)) is own_t)))
    (λ (below : Below t outer).
    let here : next ≡ below.next =
    one_part starts_of (children outer) next below.next n (children_ascend outer up) first below.is_there (within_starts s next within n own_s)
    (within_starts t below.next below.within n own_t) in
    one_within s next within t (subst (Within t) (sym here) below.within)
    (part_ascends starts_of (children outer) next (children_ascend outer up) first) n own_s own_t)
    (either t outer other)

-- ---- blocks and units

stands_starts : (body : List Stmt) (s : Stmt) → StandsIn body s → (n : ℕ) → In n (own_of s) → In n (block_starts body)
stands_starts body s stands n own =
    in_joined starts_of body stands.outer n (contains_in stands.outer body stands.is_there) (within_starts s stands.outer stands.within n own)

one_standing : (body : List Stmt) (s t : Stmt) → ascends (block_starts body) ≡ true → StandsIn body s → StandsIn body t → (n : ℕ) → In n (own_of s) →
    In n (own_of t) → s ≡ t
one_standing body s t up one two n own_s own_t =
    let first = contains_in one.outer body one.is_there in
    let here : one.outer ≡ two.outer =
    one_part starts_of body one.outer two.outer n up first (contains_in two.outer body two.is_there) (within_starts s one.outer one.within n own_s)
    (within_starts t two.outer two.within n own_t) in
    one_within s one.outer one.within t (subst (Within t) (sym here) two.within) (part_ascends starts_of body one.outer up first) n own_s own_t

module _ (units : List UnitDef) (up : ascends (all_starts units) ≡ true) where
  unit_ascends : (unit : UnitDef) → In unit units → ascends (unit_starts unit) ≡ true
  unit_ascends unit there = part_ascends unit_starts units unit up there

  -- a statement in the units, and all that stands in it, begin one after another
  pub statement_ascends : (s : Stmt) → StandsInUnits units s → ascends (starts_of s) ≡ true
  statement_ascends s stands =
      within_ascends s stands.stands.outer stands.stands.within
      (part_ascends starts_of stands.unit.body stands.stands.outer (unit_ascends stands.unit (contains_in stands.unit units stands.is_there))
      (contains_in stands.stands.outer stands.unit.body stands.stands.is_there))

  -- two statements that stand in the units, and own one offset, are one
  pub one_owner : (s t : Stmt) → StandsInUnits units s → StandsInUnits units t → (n : ℕ) → In n (own_of s) → In n (own_of t) → s ≡ t
  one_owner s t one two n own_s own_t =
      let first = contains_in one.unit units one.is_there in
      let here : one.unit ≡ two.unit =
      one_part unit_starts units one.unit two.unit n up first (contains_in two.unit units two.is_there)
      (stands_starts one.unit.body s one.stands n own_s) (stands_starts two.unit.body t two.stands n own_t) in
      one_standing one.unit.body s t (unit_ascends one.unit first) one.stands (subst (λ (unit : UnitDef). StandsIn unit.body t) (sym here) two.stands) n
      own_s own_t
