-- The statement of a body with a label.
use Rattle.std.proofs.Common.{◌≡◌, ◌∙◌, ℕ, zero, suc, ◌+◌, Bool, true, false, List, [], ◌∷◌, ◌++◌, Option, Some, None, refl, sym, ap}
use Rattle.std.proofs.Common.{drop}
use Rattle.std.specs.Prelude.{option_and_then, option_map, slice_get}
use Rattle.bl_tree.proofs.Basics.{none_is_some, same_heads, same_tails}
use Rattle.bl_tree.specs.declared.tree.Arm.{Arm, out-Arm}
use Rattle.bl_tree.specs.declared.tree.Branch.{Branch, out-Branch}
use Rattle.bl_tree.specs.declared.tree.Expr.{out-Expr}
use Rattle.bl_tree.specs.declared.tree.Stmt.{Stmt, out-roll-Stmt}
use Rattle.bl_tree.specs.declared.tree.StmtKind.{StmtKind, out-StmtKind, out-roll-StmtKind, roll-StmtKind}
use Rattle.bl_tree.specs.declared.tree.StmtKind.TheOpen.{StmtKind-F}
use Rattle.bl_graph_nodes.specs.Plain.{Label}
use Rattle.bl_ctree.specs.Positions.{Located, Position, further, kind_of, left_of_if, stmt_kind}
use Rattle.bl_ctree_laws.specs.Bridge.{label_of}

-- one layer of a statement
abbrev pub Layer : Type 0
Layer = StmtKind-F StmtKind Arm Branch Stmt

-- ---- blocks

-- the block with this number in an `if`: those of the arms first, then the `else`
abbrev arm_block : List Arm → List Stmt → ℕ → List Stmt
arm_block [] other b = other
arm_block (arm ∷ arms) other zero = (out-Arm arm).body
arm_block (arm ∷ arms) other (suc b) = arm_block arms other b

-- that of the branch with this number
abbrev pub branch_block : List Branch → ℕ → List Stmt
branch_block [] b = []
branch_block (branch ∷ rest) zero = (out-Branch branch).body
branch_block (branch ∷ rest) (suc b) = branch_block rest b

-- that of a statement
abbrev pub block_in : Layer → ℕ → List Stmt
block_in (StmtKind-F.Declare k initial) b = []
block_in (StmtKind-F.Assign path e) b = []
block_in (StmtKind-F.Call f inputs outputs) b = []
block_in (StmtKind-F.Await e) b = []
block_in (StmtKind-F.Run target a inputs outputs) b = []
block_in (StmtKind-F.If arms other) b = arm_block arms other b
block_in (StmtKind-F.Cobegin branches) b = branch_block branches b
block_in (StmtKind-F.When guard e body) b = body
block_in (StmtKind-F.Repeat body) b = body
block_in (StmtKind-F.Until body e) b = body
block_in (StmtKind-F.While e body) b = body
block_in (StmtKind-F.Return e) b = []

-- the statement at a position of a body
abbrev pub stmt_at : List Stmt → Position → Option Stmt
stmt_at body [] = None
stmt_at body (k ∷ []) = slice_get body k
stmt_at body (k ∷ b ∷ rest) = option_and_then (λ s. stmt_at (block_in (stmt_kind s) b) rest) (slice_get body k)

-- the statements of a block of a statement stand behind its position
pub at_block : (body : List Stmt) (position : Position) (s : Stmt) (b k : ℕ) → stmt_at body position ≡ Some s →
    stmt_at body ((position ++ b ∷ []) ++ k ∷ []) ≡ slice_get (block_in (stmt_kind s) b) k
at_block body [] s b k there = none_is_some s there
at_block body (j ∷ []) s b k there = ap (option_and_then (λ t. stmt_at (block_in (stmt_kind t) b) (k ∷ []))) there
at_block body (j ∷ a ∷ rest) s b k there =
    by_found (λ t inner. at_block (block_in (stmt_kind t) a) rest s b k inner) (slice_get body j) refl there
  where
    by_found : ((t : Stmt) → stmt_at (block_in (stmt_kind t) a) rest ≡ Some s →
        stmt_at (block_in (stmt_kind t) a) ((rest ++ b ∷ []) ++ k ∷ []) ≡ slice_get (block_in (stmt_kind s) b) k) →
        (found : Option Stmt) → slice_get body j ≡ found → option_and_then (λ t. stmt_at (block_in (stmt_kind t) a) rest) found ≡ Some s →
        option_and_then (λ t. stmt_at (block_in (stmt_kind t) a) ((rest ++ b ∷ []) ++ k ∷ [])) (slice_get body j)
        ≡ slice_get (block_in (stmt_kind s) b) k
    by_found inside None is found = none_is_some s found
    by_found inside (Some t) is found =
        ap (option_and_then (λ t. stmt_at (block_in (stmt_kind t) a) ((rest ++ b ∷ []) ++ k ∷ []))) is ∙ inside t found

-- ---- arms that are passed

-- what is left of a statement once so many arms are passed
abbrev after : ℕ → Layer → Layer
after p (StmtKind-F.Declare k initial) = StmtKind-F.Declare k initial
after p (StmtKind-F.Assign path e) = StmtKind-F.Assign path e
after p (StmtKind-F.Call f inputs outputs) = StmtKind-F.Call f inputs outputs
after p (StmtKind-F.Await e) = StmtKind-F.Await e
after p (StmtKind-F.Run target a inputs outputs) = StmtKind-F.Run target a inputs outputs
after p (StmtKind-F.If arms other) = StmtKind-F.If (drop p arms) other
after p (StmtKind-F.Cobegin branches) = StmtKind-F.Cobegin branches
after p (StmtKind-F.When guard e body) = StmtKind-F.When guard e body
after p (StmtKind-F.Repeat body) = StmtKind-F.Repeat body
after p (StmtKind-F.Until body e) = StmtKind-F.Until body e
after p (StmtKind-F.While e body) = StmtKind-F.While e body
after p (StmtKind-F.Return e) = StmtKind-F.Return e

after_none : (k : Layer) → after 0 k ≡ k
after_none (StmtKind-F.Declare k initial) = refl
after_none (StmtKind-F.Assign path e) = refl
after_none (StmtKind-F.Call f inputs outputs) = refl
after_none (StmtKind-F.Await e) = refl
after_none (StmtKind-F.Run target a inputs outputs) = refl
after_none (StmtKind-F.If arms other) = refl
after_none (StmtKind-F.Cobegin branches) = refl
after_none (StmtKind-F.When guard e body) = refl
after_none (StmtKind-F.Repeat body) = refl
after_none (StmtKind-F.Until body e) = refl
after_none (StmtKind-F.While e body) = refl
after_none (StmtKind-F.Return e) = refl

-- whether it is an `if`
abbrev pub is_if : Layer → Bool
is_if (StmtKind-F.If arms other) = true
is_if _ = false

other_kind : (p : ℕ) (k l : Layer) → is_if l ≡ false → l ≡ after p k → k ≡ l
other_kind p (StmtKind-F.Declare k initial) l unlike is = sym is
other_kind p (StmtKind-F.Assign path e) l unlike is = sym is
other_kind p (StmtKind-F.Call f inputs outputs) l unlike is = sym is
other_kind p (StmtKind-F.Await e) l unlike is = sym is
other_kind p (StmtKind-F.Run target a inputs outputs) l unlike is = sym is
other_kind p (StmtKind-F.If arms other) l unlike is = let both : false ≡ true = sym unlike ∙ ap is_if is in absurd (cc both)
other_kind p (StmtKind-F.Cobegin branches) l unlike is = sym is
other_kind p (StmtKind-F.When guard e body) l unlike is = sym is
other_kind p (StmtKind-F.Repeat body) l unlike is = sym is
other_kind p (StmtKind-F.Until body e) l unlike is = sym is
other_kind p (StmtKind-F.While e body) l unlike is = sym is
other_kind p (StmtKind-F.Return e) l unlike is = sym is

-- an `if` is left of one with more arms
record LeftOf (p : ℕ) (arms : List Arm) (other : List Stmt) (k : Layer) : Type 0 where
  all : List Arm
  is : k ≡ StmtKind-F.If all other
  left : drop p all ≡ arms

same_arms : (arms arms' : List Arm) (other other' : List Stmt) (k : Layer) → k ≡ StmtKind-F.If arms other → k ≡ StmtKind-F.If arms' other' → arms ≡ arms'
same_arms arms arms' other other' k e f = cc

same_other : (arms arms' : List Arm) (other other' : List Stmt) (k : Layer) → k ≡ StmtKind-F.If arms other → k ≡ StmtKind-F.If arms' other' →
    other ≡ other'
same_other arms arms' other other' k e f = cc

no_if : {A : Type 0} (arms : List Arm) (other : List Stmt) (l : Layer) → is_if l ≡ false → StmtKind-F.If arms other ≡ l → A
no_if arms other l unlike is = let both : true ≡ false = ap is_if is ∙ unlike in absurd (cc both)

left_of : (p : ℕ) (arms : List Arm) (other : List Stmt) (k : Layer) → StmtKind-F.If arms other ≡ after p k → LeftOf p arms other k
left_of p arms other (StmtKind-F.Declare k initial) is = no_if arms other (StmtKind-F.Declare k initial) refl is
left_of p arms other (StmtKind-F.Assign path e) is = no_if arms other (StmtKind-F.Assign path e) refl is
left_of p arms other (StmtKind-F.Call f inputs outputs) is = no_if arms other (StmtKind-F.Call f inputs outputs) refl is
left_of p arms other (StmtKind-F.Await e) is = no_if arms other (StmtKind-F.Await e) refl is
left_of p arms other (StmtKind-F.Run target a inputs outputs) is = no_if arms other (StmtKind-F.Run target a inputs outputs) refl is
left_of p arms other (StmtKind-F.If all last) is = record {
  all = all;
  is = ap (λ (o : List Stmt). StmtKind-F.If all o) (sym (same_other arms (drop p all) other last (StmtKind-F.If arms other) refl is));
  left = sym (same_arms arms (drop p all) other last (StmtKind-F.If arms other) refl is);
}
left_of p arms other (StmtKind-F.Cobegin branches) is = no_if arms other (StmtKind-F.Cobegin branches) refl is
left_of p arms other (StmtKind-F.When guard e body) is = no_if arms other (StmtKind-F.When guard e body) refl is
left_of p arms other (StmtKind-F.Repeat body) is = no_if arms other (StmtKind-F.Repeat body) refl is
left_of p arms other (StmtKind-F.Until body e) is = no_if arms other (StmtKind-F.Until body e) refl is
left_of p arms other (StmtKind-F.While e body) is = no_if arms other (StmtKind-F.While e body) refl is
left_of p arms other (StmtKind-F.Return e) is = no_if arms other (StmtKind-F.Return e) refl is

nil_cons : {X A : Type 0} (x : X) (xs : List X) → [] ≡ x ∷ xs → A
nil_cons x xs e = absurd (cc)

drop_next : {X : Type 0} (p : ℕ) (xs : List X) (x : X) (rest : List X) → drop p xs ≡ x ∷ rest → drop (suc p) xs ≡ rest
drop_next zero [] x rest is = nil_cons x rest is
drop_next zero (y ∷ xs) x rest is = same_tails y x xs rest is
drop_next (suc p) [] x rest is = nil_cons x rest is
drop_next (suc p) (y ∷ xs) x rest is = drop_next p xs x rest is

arm_there : (p : ℕ) (all : List Arm) (other : List Stmt) (arm : Arm) (arms : List Arm) → drop p all ≡ arm ∷ arms →
    arm_block all other p ≡ (out-Arm arm).body
arm_there zero [] other arm arms is = nil_cons arm arms is
arm_there zero (first ∷ all) other arm arms is = ap (λ (a : Arm). (out-Arm a).body) (same_heads first arm all arms is)
arm_there (suc p) [] other arm arms is = nil_cons arm arms is
arm_there (suc p) (first ∷ all) other arm arms is = arm_there p all other arm arms is

else_there : (p : ℕ) (all : List Arm) (other : List Stmt) (arm : Arm) → drop p all ≡ arm ∷ [] → arm_block all other (suc p) ≡ other
else_there zero [] other arm is = refl
else_there zero (first ∷ all) other arm is = ap (λ (rest : List Arm). arm_block rest other 0) (same_tails first arm all [] is)
else_there (suc p) [] other arm is = refl
else_there (suc p) (first ∷ all) other arm is = else_there p all other arm is

-- ---- statements with labels

-- a statement of which no arm is passed, or an `if` with the arms that are left
abbrev past_arms : Position → ℕ → List Arm → List Stmt → Stmt → Located
past_arms position passed (arm ∷ arms) other s = left_of_if position passed arm arms other
past_arms position passed [] other s = record { position = position; passed = passed; stmt = s }

abbrev past_kind : Position → ℕ → Stmt → Layer → Located
past_kind position passed s (StmtKind-F.If arms other) = past_arms position passed (drop passed arms) other s
past_kind position passed s _ = record { position = position; passed = passed; stmt = s }

abbrev past : Position → ℕ → Stmt → Located
past position zero s = record { position = position; passed = 0; stmt = s }
past position (suc p) s = past_kind position (suc p) s (stmt_kind s)

-- the statement of a body with the label
abbrev pub located_at : List Stmt → Label → Option Located
located_at body l = option_map (past l.position l.passed) (stmt_at body l.position)

-- the statement stands in the body, with so many arms passed
pub record Stands (body : List Stmt) (s : Located) : Type 0 where
  whole : Stmt
  there : stmt_at body s.position ≡ Some whole
  is : past s.position s.passed whole ≡ s
  kind : kind_of s ≡ after s.passed (stmt_kind whole)

pub is_located : (body : List Stmt) (s : Located) → Stands body s → located_at body (label_of s) ≡ Some s
is_located body s stands = ap (option_map (past s.position s.passed)) stands.there ∙ ap Some stands.is

pub stands_first : (body : List Stmt) (position : Position) (s : Stmt) → stmt_at body position ≡ Some s →
    Stands body (record { position = position; passed = 0; stmt = s })
stands_first body position s there = record { whole = s; there = there; is = refl; kind = sym (after_none (stmt_kind s)) }

left_kind : (position : Position) (passed : ℕ) (arm : Arm) (arms : List Arm) (other : List Stmt) →
    kind_of (left_of_if position passed arm arms other) ≡ StmtKind-F.If (arm ∷ arms) other
left_kind position passed arm arms other =
    ap (λ s. out-StmtKind s.what)
    (out-roll-Stmt (record { place = (out-Expr (out-Arm arm).test).place; what = roll-StmtKind (StmtKind-F.If (arm ∷ arms) other) }))
    ∙ out-roll-StmtKind (StmtKind-F.If (arm ∷ arms) other)

pub further_stands : (body : List Stmt) (s : Located) (arm next : Arm) (arms : List Arm) (other : List Stmt) → Stands body s →
    kind_of s ≡ StmtKind-F.If (arm ∷ next ∷ arms) other → Stands body (further s next arms other)
further_stands body s arm next arms other stands is =
    let old = left_of s.passed (arm ∷ next ∷ arms) other (stmt_kind stands.whole) (sym is ∙ stands.kind) in
    let left : drop (suc s.passed) old.all ≡ next ∷ arms = drop_next s.passed old.all arm (next ∷ arms) old.left in
    record {
      whole = stands.whole;
      there = stands.there;
      is = ap (past_kind s.position (suc s.passed) stands.whole) old.is
          ∙ ap (λ (rest : List Arm). past_arms s.position (suc s.passed) rest other stands.whole) left;
      kind = left_kind s.position (suc s.passed) next arms other
          ∙ sym (ap (after (suc s.passed)) old.is ∙ ap (λ (rest : List Arm). StmtKind-F.If rest other) left);
    }

-- ---- their blocks

-- the block with this number in a statement that stands in the body
pub record HasBlock (body : List Stmt) (s : Located) (b : ℕ) (block : List Stmt) : Type 0 where
  pub there : (k : ℕ) → stmt_at body ((s.position ++ b ∷ []) ++ k ∷ []) ≡ slice_get block k

has_block : (body : List Stmt) (s : Located) (b : ℕ) (block : List Stmt) (stands : Stands body s) → block_in (stmt_kind stands.whole) b ≡ block →
    HasBlock body s b block
has_block body s b block stands is = record {
  there = λ k. at_block body s.position stands.whole b k stands.there ∙ ap (λ (block : List Stmt). slice_get block k) is;
}

pub arm_has : (body : List Stmt) (s : Located) (arm : Arm) (arms : List Arm) (other : List Stmt) → Stands body s →
    kind_of s ≡ StmtKind-F.If (arm ∷ arms) other → HasBlock body s s.passed (out-Arm arm).body
arm_has body s arm arms other stands is =
    let old = left_of s.passed (arm ∷ arms) other (stmt_kind stands.whole) (sym is ∙ stands.kind) in
    has_block body s s.passed (out-Arm arm).body stands
    (ap (λ (k : Layer). block_in k s.passed) old.is ∙ arm_there s.passed old.all other arm arms old.left)

pub else_has : (body : List Stmt) (s : Located) (arm : Arm) (other : List Stmt) → Stands body s →
    kind_of s ≡ StmtKind-F.If (arm ∷ []) other → HasBlock body s (suc s.passed) other
else_has body s arm other stands is =
    let old = left_of s.passed (arm ∷ []) other (stmt_kind stands.whole) (sym is ∙ stands.kind) in
    has_block body s (suc s.passed) other stands
    (ap (λ (k : Layer). block_in k (suc s.passed)) old.is ∙ else_there s.passed old.all other arm old.left)

-- of any other kind
pub kind_has : (body : List Stmt) (s : Located) (b : ℕ) (k : Layer) → Stands body s → is_if k ≡ false → kind_of s ≡ k →
    HasBlock body s b (block_in k b)
kind_has body s b k stands unlike is =
    has_block body s b (block_in k b) stands
    (ap (λ (l : Layer). block_in l b) (other_kind s.passed (stmt_kind stands.whole) k unlike (sym is ∙ stands.kind)))
