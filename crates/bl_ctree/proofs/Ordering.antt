-- Points are listed in order, and each stands for a node.
use Rattle.std.proofs.Common.{◌≡◌, ℕ, suc, Bool, true, false, not, ◌&&◌, ◌||◌, List, [], ◌∷◌, ◌++◌, map, filter, cond, refl, sym, subst, Option, Some, None}
use Rattle.std.proofs.Common.{◌⊎◌, inl, inr, arith}
use Rattle.std.proofs.lemmas.Bool.Decides.{nat_tests}
use Rattle.std.specs.Prelude.{if◌then◌else◌, nat_eq, nat_lt, option_map, option_and_then}
use Rattle.bl_tree.specs.declared.tree.Arm.{Arm}
use Rattle.bl_tree.specs.declared.tree.Branch.{Branch}
use Rattle.bl_tree.specs.declared.tree.Stmt.{Stmt}
use Rattle.bl_tree.specs.declared.tree.StmtKind.{StmtKind}
use Rattle.bl_tree.specs.declared.tree.StmtKind.TheOpen.{StmtKind-F}
use Rattle.bl_tree.specs.declared.tree.Unit.{Unit as UnitDef}
use Rattle.bl_tree.specs.Static.{fields_precede}
use Rattle.bl_ctree.specs.Actions.{Effect, Silent, Copies}
use Rattle.bl_ctree.specs.Control.{Control, Branches, Nil, Wait, Test, Idle, Do, Turn, Seq, Par, Guard, Run, no_branch, branch, Check, Body, are_settled}
use Rattle.bl_ctree.specs.Control.{are_done, is_nil, seq}
use Rattle.bl_ctree.specs.Instances.{Setting, callee_of, unit_at}
use Rattle.bl_ctree.specs.Laws.{InOrder, no_point, comes_first, PointsInOrder}
use Rattle.bl_ctree.specs.Pending.{meets, any_meets}
use Rattle.bl_ctree.specs.Points.{IsMember, here, there, Point, points, branch_points, within, in_first, in_later, one_on, joining, free_of, sure, asking}
use Rattle.bl_ctree.specs.Points.{giving, begins, tests, turns_on, checks, copying, or_nothing, run_begins}
use Rattle.bl_ctree.specs.Positions.{Located, kind_of, place_of}
use Rattle.bl_ctree.proofs.Elements.{of-map, of-append, of-filter}

-- ---- lists in order

abbrev Precede : {A B : Type 0} → Point A → Point B → Type 0
Precede p q = fields_precede p.path q.path ≡ true

single : {A : Type 0} (p : Point A) → InOrder A (p ∷ [])
single p = comes_first (λ q m. elim m [ ]) no_point

order_map : {A B : Type 0} (f : Point A → Point B) → ((p q : Point A) → Precede p q → Precede (f p) (f q)) → (xs : List (Point A)) →
    InOrder A xs → InOrder B (map f xs)
order_map f keeps [] no_point = no_point
order_map f keeps (x ∷ xs) (comes_first before rest) =
    comes_first (λ q m. let image = of-map f xs m in subst (λ q. Precede (f x) q) image.is (keeps x image.source (before image.source image.among)))
    (order_map f keeps xs rest)

order_cond : {A : Type 0} (b : Bool) (x : Point A) (ys : List (Point A)) → ((q : Point A) → IsMember (Point A) q ys → Precede x q) →
    InOrder A ys → InOrder A (cond b (x ∷ ys) ys)
order_cond true x ys before rest = comes_first before rest
order_cond false x ys before rest = rest

order_filter : {A : Type 0} (test : Point A → Bool) (xs : List (Point A)) → InOrder A xs → InOrder A (filter test xs)
order_filter test [] no_point = no_point
order_filter test (x ∷ xs) (comes_first before rest) =
    order_cond (test x) x (filter test xs) (λ q m. before q (of-filter test xs m).among) (order_filter test xs rest)

before_both : {A : Type 0} (x : Point A) {xs ys : List (Point A)} → ((q : Point A) → IsMember (Point A) q xs → Precede x q) →
    ((q : Point A) → IsMember (Point A) q ys → Precede x q) →
    (q : Point A) → IsMember (Point A) q xs ⊎ IsMember (Point A) q ys → Precede x q
before_both x left right q (inl m) = left q m
before_both x left right q (inr m) = right q m

order_append : {A : Type 0} (xs ys : List (Point A)) → InOrder A xs → InOrder A ys →
    ((p q : Point A) → IsMember (Point A) p xs → IsMember (Point A) q ys → Precede p q) → InOrder A (xs ++ ys)
order_append [] ys no_point second across = second
order_append (x ∷ xs) ys (comes_first before rest) second across =
    comes_first (λ q m. before_both x before (λ q n. across x q here n) q (of-append xs m))
    (order_append xs ys rest second (λ p q m n. across p q (there m) n))

-- ---- paths

first_keeps : (p q : List ℕ) → fields_precede p q ≡ true → fields_precede (0 ∷ p) (0 ∷ q) ≡ true
first_keeps p q e = e

less_one_on : (k l : ℕ) → nat_lt (suc k) (suc l) ≡ nat_lt k l
less_one_on k l = grind (arith, nat_tests)

equal_one_on : (k l : ℕ) → nat_eq (suc k) (suc l) ≡ nat_eq k l
equal_one_on k l = grind (arith, nat_tests)

some_less : (l : ℕ) (rest : Bool) → (nat_lt 0 (suc l) || rest) ≡ true
some_less l rest = grind (arith, nat_tests)

later_keeps : (p q : List ℕ) → fields_precede p q ≡ true → fields_precede (one_on p) (one_on q) ≡ true
later_keeps [] [] e = e
later_keeps [] (l ∷ q) e = e
later_keeps (k ∷ p) [] e = e
later_keeps (k ∷ p) (l ∷ q) e =
    subst (λ b. (b || (nat_eq (suc k) (suc l) && fields_precede p q)) ≡ true) (sym (less_one_on k l))
    (subst (λ b. (nat_lt k l || (b && fields_precede p q)) ≡ true) (sym (equal_one_on k l)) e)

later_longer : (q : List ℕ) → fields_precede [] q ≡ true → fields_precede [] (one_on q) ≡ true
later_longer [] e = e
later_longer (l ∷ q) e = refl

first_before : (p q : List ℕ) → fields_precede [] q ≡ true → fields_precede (0 ∷ p) (one_on q) ≡ true
first_before p [] e = absurd cc
first_before p (l ∷ q) e = some_less l (nat_eq 0 (suc l) && fields_precede p q)

-- ---- one point at most

order_sure : (i : ℕ) (s : Located) (effect : Effect) (after : Control) → InOrder Control (sure i s effect after)
order_sure i s effect after = single _

order_asking : (i : ℕ) (s : Located) (effect : Effect) (if_true if_false : Control) → InOrder Control (asking i s effect if_true if_false)
order_asking i s effect if_true if_false = single _

order_unit : (w : Setting) (i : ℕ) (s : Located) (effect : Effect) (callee : ℕ) (unit : Option UnitDef) →
    InOrder Control (or_nothing (option_map (run_begins w i s effect callee) unit))
order_unit w i s effect callee None = no_point
order_unit w i s effect callee (Some unit) = order_sure i s effect _

order_run : (w : Setting) (i : ℕ) (s : Located) (effect : ℕ → Effect) (found : Option ℕ) →
    InOrder Control (or_nothing (option_and_then (λ callee. option_map (run_begins w i s (effect callee) callee) (unit_at w callee)) found))
order_run w i s effect None = no_point
order_run w i s effect (Some callee) = order_unit w i s (effect callee) callee (unit_at w callee)

order_begins : (w : Setting) (i : ℕ) (s : Located) (k : StmtKind-F StmtKind Arm Branch Stmt) → InOrder Control (begins w i s k)
order_begins w i s (StmtKind-F.Declare k initial) = order_sure i s _ _
order_begins w i s (StmtKind-F.Assign path value) = order_sure i s _ _
order_begins w i s (StmtKind-F.Call f inputs outputs) = order_sure i s _ _
order_begins w i s (StmtKind-F.Return value) = order_sure i s _ _
order_begins w i s (StmtKind-F.Await test) = order_sure i s _ _
order_begins w i s (StmtKind-F.Run target a inputs outputs) = order_run w i s (λ callee. Copies callee inputs) (callee_of w i (place_of s))
order_begins w i s (StmtKind-F.If [] other) = no_point
order_begins w i s (StmtKind-F.If (arm ∷ arms) other) = order_asking i s _ _ _
order_begins w i s (StmtKind-F.Cobegin branches) = order_sure i s _ _
order_begins w i s (StmtKind-F.When guard test body) = order_sure i s _ _
order_begins w i s (StmtKind-F.Repeat body) = order_sure i s _ _
order_begins w i s (StmtKind-F.Until body test) = order_sure i s _ _
order_begins w i s (StmtKind-F.While test body) = order_asking i s _ _ _

order_tests : (i : ℕ) (s : Located) (k : StmtKind-F StmtKind Arm Branch Stmt) → InOrder Control (tests i s k)
order_tests i s (StmtKind-F.Await test) = order_asking i s _ _ _
order_tests i s _ = no_point

order_turns : (i : ℕ) (s : Located) (k : StmtKind-F StmtKind Arm Branch Stmt) → InOrder Control (turns_on i s k)
order_turns i s (StmtKind-F.Until body test) = order_asking i s _ _ _
order_turns i s _ = no_point

order_checks : (i : ℕ) (s : Located) (stood : Bool) (c : Control) (k : StmtKind-F StmtKind Arm Branch Stmt) → InOrder Control (checks i s stood c k)
order_checks i s stood c (StmtKind-F.When guard test body) = order_asking i s _ _ _
order_checks i s stood c _ = no_point

order_copying : (i : ℕ) (s : Located) (callee : ℕ) (stood : Bool) (c : Control) (k : StmtKind-F StmtKind Arm Branch Stmt) →
    InOrder Control (copying i s callee stood c k)
order_copying i s callee stood c (StmtKind-F.Run target a inputs outputs) = order_sure i s _ _
order_copying i s callee stood c _ = no_point

order_giving : (i : ℕ) (s : Located) (callee : ℕ) (k : StmtKind-F StmtKind Arm Branch Stmt) → InOrder Control (giving i s callee k)
order_giving i s callee (StmtKind-F.Run target a inputs outputs) = order_sure i s _ _
order_giving i s callee _ = no_point

order_joining : (i : ℕ) (s : Located) (branches : Branches) (b : Bool) → InOrder Control (if b then sure i s Silent Nil else [])
order_joining i s branches true = order_sure i s _ _
order_joining i s branches false = no_point

-- ---- trees

order_within : {A B : Type 0} (around : A → B) (xs : List (Point A)) → InOrder A xs → InOrder B (map (within around) xs)
order_within around xs ordered = order_map (within around) (λ p q e. e) xs ordered

order_if : (b : Bool) (xs ys : List (Point Control)) → InOrder Control xs → InOrder Control ys → InOrder Control (if b then xs else ys)
order_if true xs ys first second = first
order_if false xs ys first second = second

-- a join has no branch above it
pub join_path : (i : ℕ) (s : Located) (b : Bool) (p : Point Control) → IsMember (Point Control) p (if b then sure i s Silent Nil else []) → p.path ≡ []
join_path i s true p here = refl
join_path i s true p (there m) = elim m [ ]
join_path i s false p m = elim m [ ]

-- a point in a branch has that branch above it
led_first : (around : Control → Branches) (xs : List (Point Control)) (q : Point Branches) →
    IsMember (Point Branches) q (map (in_first around) xs) → fields_precede [] q.path ≡ true
led_first around xs q m = let image = of-map (in_first around) xs m in subst (λ q. fields_precede [] q.path ≡ true) image.is refl

led_later : (around : Branches → Branches) (xs : List (Point Branches)) →
    ((q : Point Branches) → IsMember (Point Branches) q xs → fields_precede [] q.path ≡ true) →
    (q : Point Branches) → IsMember (Point Branches) q (map (in_later around) xs) → fields_precede [] q.path ≡ true
led_later around xs led q m =
    let image = of-map (in_later around) xs m in
    subst (λ q. fields_precede [] q.path ≡ true) image.is (later_longer image.source.path (led image.source image.among))

led_either : {xs ys : List (Point Branches)} {q : Point Branches} →
    ((q : Point Branches) → IsMember (Point Branches) q xs → fields_precede [] q.path ≡ true) →
    ((q : Point Branches) → IsMember (Point Branches) q ys → fields_precede [] q.path ≡ true) →
    IsMember (Point Branches) q xs ⊎ IsMember (Point Branches) q ys → fields_precede [] q.path ≡ true
led_either {q = q} left right (inl m) = left q m
led_either {q = q} left right (inr m) = right q m

led : (w : Setting) (i : ℕ) (branches : Branches) (q : Point Branches) → IsMember (Point Branches) q (branch_points w i branches) →
    fields_precede [] q.path ≡ true
led w i no_branch q m = elim m [ ]
led w i (branch weak c others) q m =
    led_either (led_first (λ c. branch weak c others) (free_of (any_meets w i others) (points w i c)))
    (led_later (branch weak c) (free_of (meets w i c) (branch_points w i others))
    (λ q n. led w i others q (of-filter (λ point. not (meets w i c point.action)) (branch_points w i others) n).among))
    (of-append (map (in_first (λ c. branch weak c others)) (free_of (any_meets w i others) (points w i c))) m)

join_before : (i : ℕ) (s : Located) (stood b : Bool) (xs : List (Point Branches)) →
    ((q : Point Branches) → IsMember (Point Branches) q xs → fields_precede [] q.path ≡ true) →
    (p q : Point Control) → IsMember (Point Control) p (if b then sure i s Silent Nil else []) →
    IsMember (Point Control) q (map (within (Par s stood)) xs) → Precede p q
join_before i s stood b xs led p q m n =
    let image = of-map (within (Par s stood)) xs n in
    subst (λ path. fields_precede path q.path ≡ true) (sym (join_path i s b p m))
    (subst (λ q. fields_precede [] q.path ≡ true) image.is (led image.source image.among))

first_then_later : (around : Control → Branches) (beside : Branches → Branches) (xs : List (Point Control)) (ys : List (Point Branches)) →
    ((q : Point Branches) → IsMember (Point Branches) q ys → fields_precede [] q.path ≡ true) →
    (p q : Point Branches) → IsMember (Point Branches) p (map (in_first around) xs) → IsMember (Point Branches) q (map (in_later beside) ys) → Precede p q
first_then_later around beside xs ys led p q m n =
    let left = of-map (in_first around) xs m in
    let right = of-map (in_later beside) ys n in
    subst (λ p. Precede p q) left.is
    (subst (λ q. Precede (in_first around left.source) q) right.is (first_before left.source.path right.source.path (led right.source right.among)))

mutual
  order : (w : Setting) (i : ℕ) (c : Control) → InOrder Control (points w i c)
  order w i Nil = no_point
  order w i (Wait s) = no_point
  order w i (Test s) = order_tests i s (kind_of s)
  order w i (Idle items) = no_point
  order w i (Do s) = order_begins w i s (kind_of s)
  order w i (Turn s) = order_turns i s (kind_of s)
  order w i (Seq c rest) = order_within (λ c. seq c rest) (points w i c) (order w i c)
  order w i (Par s stood branches) =
      order_append (joining i s branches) (map (within (Par s stood)) (branch_points w i branches))
      (order_joining i s branches (are_settled branches && are_done branches))
      (order_within (Par s stood) (branch_points w i branches) (order_branches w i branches))
      (join_before i s stood (are_settled branches && are_done branches) (branch_points w i branches) (led w i branches))
  order w i (Guard s Check stood c) = order_checks i s stood c (kind_of s)
  order w i (Guard s Body stood c) =
      order_if (is_nil c) (sure i s Silent Nil) (map (within (Guard s Body stood)) (points w i c)) (order_sure i s Silent Nil)
      (order_within (Guard s Body stood) (points w i c) (order w i c))
  order w i (Run s callee Check stood c) = order_copying i s callee stood c (kind_of s)
  order w i (Run s callee Body stood c) =
      order_if (is_nil c) (giving i s callee (kind_of s)) (map (within (Run s callee Body stood)) (points w callee c)) (order_giving i s callee (kind_of s))
      (order_within (Run s callee Body stood) (points w callee c) (order w callee c))

  order_branches : (w : Setting) (i : ℕ) (branches : Branches) → InOrder Branches (branch_points w i branches)
  order_branches w i no_branch = no_point
  order_branches w i (branch weak c others) =
      order_append (map (in_first (λ c. branch weak c others)) (free_of (any_meets w i others) (points w i c)))
      (map (in_later (branch weak c)) (free_of (meets w i c) (branch_points w i others)))
      (order_map (in_first (λ c. branch weak c others)) (λ p q e. first_keeps p.path q.path e) (free_of (any_meets w i others) (points w i c))
      (order_filter (λ point. not (any_meets w i others point.action)) (points w i c) (order w i c)))
      (order_map (in_later (branch weak c)) (λ p q e. later_keeps p.path q.path e) (free_of (meets w i c) (branch_points w i others))
      (order_filter (λ point. not (meets w i c point.action)) (branch_points w i others) (order_branches w i others)))
      (first_then_later (λ c. branch weak c others) (branch weak c) (free_of (any_meets w i others) (points w i c))
      (free_of (meets w i c) (branch_points w i others))
      (λ q n. led w i others q (of-filter (λ point. not (meets w i c point.action)) (branch_points w i others) n).among))

pub points_in_order : PointsInOrder
points_in_order w i c = order w i c
