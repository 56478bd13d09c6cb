-- A statement of a program whose statements begin one after another is known by where it begins.
use Rattle.std.proofs.Common.{◌≡◌, ℕ, ◌<◌, true, List, [], ◌∷◌, ◌++◌, map, refl, sym, ap, subst, ◌∙◌, append_assoc, inl, inr, ⊎_elim, ◌⊎◌, arith}
use Rattle.std.proofs.lemmas.List.{append-nil}
use Rattle.bl_tree.specs.declared.place.Place.{Place}
use Rattle.bl_tree.specs.declared.tree.Arm.{Arm, fold-Arm, fold_out-Arm, out-Arm}
use Rattle.bl_tree.specs.declared.tree.Branch.{Branch, fold-Branch, fold_out-Branch, out-Branch}
use Rattle.bl_tree.specs.declared.tree.Expr.{Expr, out-Expr}
use Rattle.bl_tree.specs.declared.tree.Stmt.{Stmt, fold-Stmt, fold_out-Stmt, out-Stmt}
use Rattle.bl_tree.specs.declared.tree.StmtKind.{StmtKind, fold-StmtKind, fold_out-StmtKind, map-StmtKind, out-StmtKind}
use Rattle.bl_tree.specs.declared.tree.StmtKind.TheOpen.{StmtKind-F, Arm-F, Branch-F, Stmt-F}
use Rattle.bl_tree.specs.declared.tree.Unit.{Unit as UnitDef}
use Rattle.bl_tree.specs.Reduce.{joined}
use Rattle.bl_tree.specs.Within.{PlacesDecide, RunsDecide, RunsIn, StandsIn, StandsInUnits, Within, branches_of, children, deeper, effect_of, itself}
use Rattle.bl_tree.specs.Within.{kind_branches, kind_children, place_of}
use Rattle.bl_tree.proofs.FirstLemmas.{In, contains_in}
use Rattle.bl_parse_tree.specs.Starts.{ascends}
use Rattle.bl_types_laws.proofs.Starts.{Picked, ascends_rest, first_less, in_joined, left, one_part, one_position, part_ascends, picked_append, picked_ascends}
use Rattle.bl_types_laws.proofs.Starts.{picked_in, picked_none, picked_self}

-- ---- where statements and the conditions of loops begin

abbrev pub Starts : Type 0
Starts = List ℕ

abbrev pub start_of : Expr → ℕ
start_of e = (out-Expr e).place.start

abbrev pub kind_starts : StmtKind-F Starts Starts Starts Starts → Starts
kind_starts (StmtKind-F.Declare k value) = []
kind_starts (StmtKind-F.Assign path e) = []
kind_starts (StmtKind-F.Call f inputs outputs) = []
kind_starts (StmtKind-F.Await e) = []
kind_starts (StmtKind-F.Run target a inputs outputs) = []
kind_starts (StmtKind-F.If arms other) = joined arms ++ joined other
kind_starts (StmtKind-F.Cobegin branches) = joined branches
kind_starts (StmtKind-F.When guard e body) = joined body
kind_starts (StmtKind-F.Repeat body) = joined body
kind_starts (StmtKind-F.Until body e) = joined body ++ (start_of e ∷ [])
kind_starts (StmtKind-F.While e body) = start_of e ∷ joined body
kind_starts (StmtKind-F.Return e) = []

abbrev pub arm_layer : Arm-F Starts Starts Starts Starts → Starts
arm_layer arm = joined arm.body

abbrev pub branch_layer : Branch-F Starts Starts Starts Starts → Starts
branch_layer branch = joined branch.body

abbrev pub stmt_layer : Stmt-F Starts Starts Starts Starts → Starts
stmt_layer s = s.place.start ∷ s.what

-- where a statement, those in it and the conditions of its loops begin
abbrev pub starts_of : Stmt → Starts
starts_of = fold-Stmt Starts Starts Starts Starts kind_starts arm_layer branch_layer stmt_layer

abbrev pub starts_of_arm : Arm → Starts
starts_of_arm = fold-Arm Starts Starts Starts Starts kind_starts arm_layer branch_layer stmt_layer

abbrev pub starts_of_branch : Branch → Starts
starts_of_branch = fold-Branch Starts Starts Starts Starts kind_starts arm_layer branch_layer stmt_layer

-- where those in a statement of the kind begin
abbrev pub starts_in : StmtKind → Starts
starts_in = fold-StmtKind Starts Starts Starts Starts kind_starts arm_layer branch_layer stmt_layer

abbrev pub block_starts : List Stmt → Starts
block_starts body = joined (map starts_of body)

abbrev pub unit_starts : UnitDef → Starts
unit_starts unit = block_starts unit.body

abbrev pub Layer : Type 0
Layer = StmtKind-F StmtKind Arm Branch Stmt

abbrev pub layer_starts : Layer → Starts
layer_starts layer = kind_starts (map-StmtKind StmtKind Arm Branch Stmt Starts Starts Starts Starts starts_in starts_of_arm starts_of_branch starts_of layer)

pub kind_is : (kind : StmtKind) (layer : Layer) → out-StmtKind kind ≡ layer → starts_in kind ≡ layer_starts layer
kind_is kind layer is = fold_out-StmtKind Starts Starts Starts Starts kind_starts arm_layer branch_layer stmt_layer kind ∙ ap layer_starts is

-- ---- by the statements directly in blocks

block_append : (xs ys : List Stmt) → block_starts (xs ++ ys) ≡ block_starts xs ++ block_starts ys
block_append [] ys = refl
block_append (x ∷ xs) ys = ap (λ rest. starts_of x ++ rest) (block_append xs ys) ∙ sym (append_assoc (starts_of x) (block_starts xs) (block_starts ys))

abbrev pub branch_starts : Branch → Starts
branch_starts branch = block_starts (out-Branch branch).body

of_arms : (arms : List Arm) → joined (map starts_of_arm arms) ≡ block_starts (joined (map (λ (arm : Arm). (out-Arm arm).body) arms))
of_arms [] = refl
of_arms (arm ∷ rest) =
    (λ i. fold_out-Arm Starts Starts Starts Starts kind_starts arm_layer branch_layer stmt_layer arm i ++ of_arms rest i)
    ∙ sym (block_append (out-Arm arm).body (joined (map (λ (arm : Arm). (out-Arm arm).body) rest)))

of_branches : (branches : List Branch) → joined (map starts_of_branch branches) ≡ joined (map branch_starts branches)
of_branches [] = refl
of_branches (branch ∷ rest) = λ i. fold_out-Branch Starts Starts Starts Starts kind_starts arm_layer branch_layer stmt_layer branch i ++ of_branches rest i

branch_bodies : (branches : List Branch) → joined (map branch_starts branches)
    ≡ block_starts (joined (map (λ (branch : Branch). (out-Branch branch).body) branches))
branch_bodies [] = refl
branch_bodies (branch ∷ rest) =
    ap (λ l. branch_starts branch ++ l) (branch_bodies rest) ∙ sym (block_append (out-Branch branch).body
    (joined (map (λ (branch : Branch). (out-Branch branch).body) rest)))

-- those directly in the blocks begin among all that stands in a kind of statement: the conditions of loops are left out
of_children : (layer : Layer) → Picked (block_starts (kind_children layer)) (layer_starts layer)
of_children (StmtKind-F.Declare k value) = picked_none []
of_children (StmtKind-F.Assign path e) = picked_none []
of_children (StmtKind-F.Call f inputs outputs) = picked_none []
of_children (StmtKind-F.Await e) = picked_none []
of_children (StmtKind-F.Run target a inputs outputs) = picked_none []
of_children (StmtKind-F.If arms other) =
    let bodies = joined (map (λ (arm : Arm). (out-Arm arm).body) arms) in
    subst (Picked (block_starts (bodies ++ other))) (sym (ap (λ l. l ++ block_starts other) (of_arms arms) ∙ sym (block_append bodies other)))
    (picked_self (block_starts (bodies ++ other)))
of_children (StmtKind-F.Cobegin branches) =
    let bodies = joined (map (λ (branch : Branch). (out-Branch branch).body) branches) in
    subst (Picked (block_starts bodies)) (sym (of_branches branches ∙ branch_bodies branches)) (picked_self (block_starts bodies))
of_children (StmtKind-F.When guard e body) = picked_self (block_starts body)
of_children (StmtKind-F.Repeat body) = picked_self (block_starts body)
of_children (StmtKind-F.Until body e) =
    subst (λ l. Picked l (block_starts body ++ start_of e ∷ [])) (append-nil (block_starts body))
    (picked_append (picked_self (block_starts body)) (picked_none (start_of e ∷ [])))
of_children (StmtKind-F.While e body) = left (start_of e) (picked_self (block_starts body))
of_children (StmtKind-F.Return e) = picked_none []

-- where all that stands in a statement begins
abbrev inside : Stmt → Starts
inside s = layer_starts (out-StmtKind (out-Stmt s).what)

-- a statement begins, and then all that stands in it
starts_by : (s : Stmt) → starts_of s ≡ (place_of s).start ∷ inside s
starts_by s =
    fold_out-Stmt Starts Starts Starts Starts kind_starts arm_layer branch_layer stmt_layer s
    ∙ ap (λ rest. (place_of s).start ∷ rest) (kind_is (out-Stmt s).what (out-StmtKind (out-Stmt s).what) refl)

children_inside : (s : Stmt) → Picked (block_starts (children s)) (inside s)
children_inside s = of_children (out-StmtKind (out-Stmt s).what)

children_ascend : (s : Stmt) → ascends (starts_of s) ≡ true → ascends (block_starts (children s)) ≡ true
children_ascend s up = picked_ascends (children_inside s) (ascends_rest (place_of s).start (inside s) (ap ascends (sym (starts_by s)) ∙ up))

branches_ascend_by : (layer : Layer) → ascends (layer_starts layer) ≡ true → ascends (joined (map branch_starts (kind_branches layer))) ≡ true
branches_ascend_by (StmtKind-F.Cobegin branches) up = ap ascends (sym (of_branches branches)) ∙ up
branches_ascend_by (StmtKind-F.Declare k value) up = refl
branches_ascend_by (StmtKind-F.Assign path e) up = refl
branches_ascend_by (StmtKind-F.Call f inputs outputs) up = refl
branches_ascend_by (StmtKind-F.Await e) up = refl
branches_ascend_by (StmtKind-F.Run target a inputs outputs) up = refl
branches_ascend_by (StmtKind-F.If arms other) up = refl
branches_ascend_by (StmtKind-F.When guard e body) up = refl
branches_ascend_by (StmtKind-F.Repeat body) up = refl
branches_ascend_by (StmtKind-F.Until body e) up = refl
branches_ascend_by (StmtKind-F.While e body) up = refl
branches_ascend_by (StmtKind-F.Return e) up = refl

branches_ascend : (s : Stmt) → ascends (starts_of s) ≡ true → ascends (joined (map branch_starts (branches_of s))) ≡ true
branches_ascend s up =
    branches_ascend_by (out-StmtKind (out-Stmt s).what) (ascends_rest (place_of s).start (inside s) (ap ascends (sym (starts_by s)) ∙ up))

-- ---- what stands in a statement

starts_there : (s : Stmt) → In (place_of s).start (starts_of s)
starts_there s = subst (In (place_of s).start) (sym (starts_by s)) (inl refl)

-- what begins in one directly in the blocks begins in the statement
child_starts : (outer next : Stmt) (n : ℕ) → In next (children outer) → In n (starts_of next) → In n (inside outer)
child_starts outer next n there begins = picked_in (children_inside outer) n (in_joined starts_of (children outer) next n there begins)

within_starts : (inner outer : Stmt) → Within inner outer → In (place_of inner).start (starts_of outer)
within_starts inner outer itself = starts_there inner
within_starts inner whole (deeper outer next there within) =
    subst (In (place_of inner).start) (sym (starts_by outer))
    (inr (child_starts outer next (place_of inner).start (contains_in next (children outer) there) (within_starts inner next within)))

within_ascends : (inner outer : Stmt) → Within inner outer → ascends (starts_of outer) ≡ true → ascends (starts_of inner) ≡ true
within_ascends inner outer itself up = up
within_ascends inner whole (deeper outer next there within) up =
    within_ascends inner next within (part_ascends starts_of (children outer) next (children_ascend outer up) (contains_in next (children outer) there))

-- what stands in a statement is that, or stands in one directly in its blocks
record Below (inner outer : Stmt) : Type 0 where
  pub next : Stmt
  pub is_there : In next (children outer)
  pub within : Within inner next

either : (inner outer : Stmt) → Within inner outer → (inner ≡ outer) ⊎ Below inner outer
either inner outer itself = inl refl
either inner whole (deeper outer next there within) = inr (record { next = next; is_there = contains_in next (children outer) there; within = within })

below_later : (inner outer : Stmt) → ascends (starts_of outer) ≡ true → Below inner outer → (place_of outer).start < (place_of inner).start
below_later inner outer up below =
    first_less (place_of outer).start (inside outer) (place_of inner).start (ap ascends (sym (starts_by outer)) ∙ up)
    (child_starts outer below.next (place_of inner).start below.is_there (within_starts inner below.next below.within))

not_less : (m n : ℕ) → m ≡ n → m < n → ⊥
not_less m n is less = omega arith

-- two statements that stand in one, and begin at one place, are one
pub one_within : (s outer : Stmt) → Within s outer → (t : Stmt) → Within t outer → ascends (starts_of outer) ≡ true →
    (place_of s).start ≡ (place_of t).start →
    s ≡ t
one_within s outer itself t other up same =
    ⊎_elim (λ (is : t ≡ s). sym is) (λ (below : Below t s). absurd (not_less (place_of s).start (place_of t).start same (below_later t s up below)))
    (either t s other)
one_within s whole (deeper outer next there within) t other up same =
    let first = contains_in next (children outer) there in
    ⊎_elim
    (λ (is : t ≡ outer).
    absurd (not_less (place_of outer).start (place_of s).start (ap (λ t. (place_of t).start) (sym is) ∙ sym same)
    (below_later s outer up (record { next = next; is_there = first; within = within }))))
    (λ (below : Below t outer).
    let here : next ≡ below.next =
    one_part starts_of (children outer) next below.next (place_of s).start (children_ascend outer up) first below.is_there (within_starts s next within)
    (subst (λ n. In n (starts_of below.next)) (sym same) (within_starts t below.next below.within)) in
    one_within s next within t (subst (Within t) (sym here) below.within) (part_ascends starts_of (children outer) next (children_ascend outer up) first) same)
    (either t outer other)

-- ---- blocks and units

stands_starts : (body : List Stmt) (s : Stmt) → StandsIn body s → In (place_of s).start (block_starts body)
stands_starts body s stands = in_joined starts_of body stands.outer (place_of s).start (contains_in stands.outer body stands.is_there)
    (within_starts s stands.outer stands.within)

stands_ascends : (body : List Stmt) (s : Stmt) → StandsIn body s → ascends (block_starts body) ≡ true → ascends (starts_of s) ≡ true
stands_ascends body s stands up =
    within_ascends s stands.outer stands.within (part_ascends starts_of body stands.outer up (contains_in stands.outer body stands.is_there))

one_standing : (body : List Stmt) (s t : Stmt) → ascends (block_starts body) ≡ true → StandsIn body s → StandsIn body t →
    (place_of s).start ≡ (place_of t).start → s ≡ t
one_standing body s t up one two same =
    let first = contains_in one.outer body one.is_there in
    let here : one.outer ≡ two.outer =
    one_part starts_of body one.outer two.outer (place_of s).start up first (contains_in two.outer body two.is_there) (within_starts s one.outer one.within)
    (subst (λ n. In n (starts_of two.outer)) (sym same) (within_starts t two.outer two.within)) in
    one_within s one.outer one.within t (subst (Within t) (sym here) two.within) (part_ascends starts_of body one.outer up first) same

module _ (units : List UnitDef) (up : ascends (joined (map unit_starts units)) ≡ true) where
  unit_ascends : (unit : UnitDef) → In unit units → ascends (unit_starts unit) ≡ true
  unit_ascends unit there = part_ascends unit_starts units unit up there

  -- two statements that stand in the units, and begin at one place, are one
  pub one_statement : (s t : Stmt) → StandsInUnits units s → StandsInUnits units t → (place_of s).start ≡ (place_of t).start → s ≡ t
  one_statement s t one two same =
      let first = contains_in one.unit units one.is_there in
      let here : one.unit ≡ two.unit =
      one_part unit_starts units one.unit two.unit (place_of s).start up first (contains_in two.unit units two.is_there)
      (stands_starts one.unit.body s one.stands)
      (subst (λ n. In n (unit_starts two.unit)) (sym same) (stands_starts two.unit.body t two.stands)) in
      one_standing one.unit.body s t (unit_ascends one.unit first) one.stands (subst (λ (unit : UnitDef). StandsIn unit.body t) (sym here) two.stands) same

  -- so places say what statements read and write
  pub places_decide : PlacesDecide units
  places_decide s t one two same = ap effect_of (one_statement s t one two (ap (λ (place : Place). place.start) same))

  runs_apart : (outer s t : Stmt) (j k : ℕ) → StandsInUnits units outer → RunsIn outer j s → RunsIn outer k t → place_of s ≡ place_of t → j ≡ k
  runs_apart outer s t j k stands one two same =
      let of_unit = unit_ascends stands.unit (contains_in stands.unit units stands.is_there) in
      one_position branch_starts (branches_of outer) j k one.branch two.branch (place_of s).start
      (branches_ascend outer (stands_ascends stands.unit.body outer stands.stands of_unit)) one.is_there two.is_there
      (stands_starts (out-Branch one.branch).body s one.stands)
      (subst (λ n. In n (branch_starts two.branch)) (ap (λ (place : Place). place.start) (sym same))
      (stands_starts (out-Branch two.branch).body t two.stands))

  -- and which `run` statement is which
  pub runs_decide : RunsDecide units
  runs_decide = record {
    same = λ s t one two run_one run_two same. ∣ one_statement s t one two (ap (λ (place : Place). place.start) same) ∣₁;
    apart = runs_apart;
  }
