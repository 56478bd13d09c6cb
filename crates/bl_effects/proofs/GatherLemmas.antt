-- How what is gathered of parts comes to what is gathered of the whole.
use Rattle.std.proofs.Common.{◌≡◌, ℕ, zero, suc, ◌+◌, ◌<◌, ◌≤◌, Bool, true, false, cond, not, ◌&&◌, ◌||◌, List, [], ◌∷◌, ◌++◌, ◌⊎◌, inl, inr, ⊎_elim, map, take}
use Rattle.std.proofs.Common.{drop, length, get_or, Some, refl, sym, ap, ◌∙◌, subst, arith, append_assoc, append-nil, drop_of_length-le}
use Rattle.std.specs.Prelude.{Contains, Result, Ok, Err, OnOk}
use Rattle.std.proofs.lemmas.List.Elements.{Contains-append_left, Contains-append_right, Contains-append_cases}
use Rattle.bl_tree.proofs.Basics.{and_assoc, and_true, drop_next, or_assoc, or_false}
use Rattle.bl_tree.specs.declared.place.Place.{Place}
use Rattle.bl_tree.specs.declared.tree.Arm.{Arm, fold_out-Arm, out-Arm}
use Rattle.bl_tree.specs.declared.tree.Branch.{Branch, fold_out-Branch, out-Branch}
use Rattle.bl_tree.specs.declared.tree.Stmt.{Stmt, fold_out-Stmt, out-Stmt}
use Rattle.bl_tree.specs.declared.tree.StmtKind.{StmtKind, fold_out-StmtKind, map-StmtKind, out-StmtKind}
use Rattle.bl_tree.specs.declared.tree.Expr.{Expr}
use Rattle.bl_tree.specs.declared.tree.Guard.{Guard}
use Rattle.bl_tree.specs.declared.tree.StmtKind.TheOpen.{StmtKind-F}
use Rattle.bl_tree.specs.declared.tree.StmtKind.TheVariants.{If, Until, When, While, outs-If, outs-Until, outs-When, outs-While}
use Rattle.bl_tree.specs.Reduce.{all_of, any_of, joined}
use Rattle.bl_effects.specs.declared.gather.Paths.{Paths}
use Rattle.bl_tree.specs.declared.static_path.Static.{Static}
use Rattle.bl_effects.specs.declared.table.Sets.{Sets}
use Rattle.bl_tree.specs.Effects.{arm_reads, arm_writes, branch_paths, kind_reads, kind_writes, reads, stmt_set, writes}
use Rattle.bl_effects.specs.Entries.{effect_at}
use Rattle.bl_effects.specs.inner.Gathered.{Gathers, TableKept, TableRecords, TableTold, children_of_kind, ends_of_branch, instant_of_arm, instant_of_kind}
use Rattle.bl_effects.specs.inner.Gathered.{reads_of_arm, reads_of_branch, reads_of_kind, writes_of_arm, writes_of_branch, writes_of_kind}
use Rattle.bl_tree.specs.Instant.{BranchInstant, arm_instant, branch_ends, branches_instant, instant, kind_instant, stmt_instant}
use Rattle.bl_tree.specs.Static.{mentions, set_of}
use Rattle.bl_tree.specs.Within.{Effect, StandsIn, Within, itself, deeper, children, effect_of, kind_children, place_of}
use Rattle.bl_tree.specs.Rules.{same_place}
use Rattle.bl_effects.specs.Table.{found}
use Rattle.bl_effects.proofs.EntryLemmas.{same_place_refl}
use Rattle.bl_tree.proofs.FirstLemmas.{same_true}

-- ---- the table

-- what was told of the first and then of the second was told of both
pub records_then : (P Q R : Stmt → Type 0) → ((s : Stmt) → R s → P s ⊎ Q s) → ((s : Stmt) → P s → R s) → ((s : Stmt) → Q s → R s)
    → (a b c : List Effect) → TableRecords P a b → TableRecords Q b c → TableRecords R a c
records_then P Q R splits first second a b c one other at =
    ⊎_elim
    (λ (kept : TableKept Q b c at). ⊎_elim
    (λ (before : TableKept P a b at). inl (record {
      same = kept.same ∙ before.same;
      none =
          λ s stands. ⊎_elim (λ p. before.none s p) (λ q. kept.none s q) (splits s stands);
    }))
    (λ (told : TableTold P b at). inr (record {
      statement = told.statement;
      stands = first told.statement told.stands;
      there =
          told.there;
      tells = kept.same ∙ told.tells;
    }))
    (one at))
    (λ (told : TableTold Q c at). inr
    (record { statement = told.statement; stands = second told.statement told.stands; there = told.there; tells = told.tells }))
    (other at)

pub stands_cases : (xs ys : List Stmt) (s : Stmt) → StandsIn (xs ++ ys) s → StandsIn xs s ⊎ StandsIn ys s
stands_cases xs ys s stands =
    ⊎_elim (λ there. inl (record { outer = stands.outer; is_there = there; within = stands.within }))
    (λ there. inr (record { outer = stands.outer; is_there = there; within = stands.within }))
    (Contains-append_cases xs ys stands.outer stands.is_there)

pub stands_left : (xs ys : List Stmt) (s : Stmt) → StandsIn xs s → StandsIn (xs ++ ys) s
stands_left xs ys s stands = record { outer = stands.outer; is_there = Contains-append_left xs ys stands.outer stands.is_there; within = stands.within }

pub stands_right : (xs ys : List Stmt) (s : Stmt) → StandsIn ys s → StandsIn (xs ++ ys) s
stands_right xs ys s stands = record { outer = stands.outer; is_there = Contains-append_right xs ys stands.outer stands.is_there; within = stands.within }

records_append : (xs ys : List Stmt) (a b c : List Effect) → TableRecords (StandsIn xs) a b → TableRecords (StandsIn ys) b c
    → TableRecords (StandsIn (xs ++ ys)) a c
records_append xs ys = records_then (StandsIn xs) (StandsIn ys) (StandsIn (xs ++ ys)) (stands_cases xs ys) (stands_left xs ys) (stands_right xs ys)

-- ---- one part after another

pub gathers_then : (r1 w1 r2 w2 : List Static) (xs ys : List Stmt) (p q r : Paths) (a b c : List Effect)
    → Gathers r1 w1 xs p q a b → Gathers r2 w2 ys q r b c → Gathers (r1 ++ r2) (w1 ++ w2) (xs ++ ys) p r a c
gathers_then r1 w1 r2 w2 xs ys p q r a b c one other = record {
  reads_grow = other.reads_grow ∙ ap (λ found. found ++ r2) one.reads_grow ∙ append_assoc p.reads r1 r2;
  writes_grow = other.writes_grow ∙ ap (λ found. found ++ w2) one.writes_grow ∙ append_assoc p.writes w1 w2;
  records = records_append xs ys a b c one.records other.records;
}

-- an expression before a block
pub reads_before : (r rs ws : List Static) (xs : List Stmt) (p q s : Paths) (a b : List Effect)
    → q.reads ≡ p.reads ++ r → q.writes ≡ p.writes → Gathers rs ws xs q s a b → Gathers (r ++ rs) ws xs p s a b
reads_before r rs ws xs p q s a b reads writes gathers = record {
  reads_grow = gathers.reads_grow ∙ ap (λ found. found ++ rs) reads ∙ append_assoc p.reads r rs;
  writes_grow = gathers.writes_grow ∙ ap (λ found. found ++ ws) writes;
  records = gathers.records;
}

-- and after one
pub reads_after : (r rs ws : List Static) (xs : List Stmt) (p q s : Paths) (a b : List Effect)
    → Gathers rs ws xs p q a b → s.reads ≡ q.reads ++ r → s.writes ≡ q.writes → Gathers (rs ++ r) ws xs p s a b
reads_after r rs ws xs p q s a b gathers reads writes = record {
  reads_grow = reads ∙ ap (λ found. found ++ r) gathers.reads_grow ∙ append_assoc p.reads rs r;
  writes_grow = writes ∙ gathers.writes_grow;
  records = gathers.records;
}

-- ---- loops over parts

one_more : {A B : Type 0} (f : A → List B) (xs : List A) (k : ℕ) (x : A) → k < length xs → x ≡ get_or xs k x →
    joined (map f (take k xs)) ++ f x ≡ joined (map f (take (k + 1) xs))
one_more f (y ∷ xs) zero x within is = ap f is ∙ sym (append-nil (f y))
one_more f (y ∷ xs) (suc k) x within is =
    append_assoc (f y) (joined (map f (take k xs))) (f x) ∙ ap (λ rest. f y ++ rest) (one_more f xs k x (omega arith) is)
    ∙ (let next : suc k + 1 ≡ suc (k + 1) = omega arith in ap (λ n. joined (map f (take n (y ∷ xs)))) (sym next))
one_more f [] k x within is = absurd (omega arith)

module _ {A : Type 0} (f g : A → List Static) (h : A → List Stmt) where
  -- what was gathered of the first parts, and then of one more
  pub gathers_step : (xs : List A) (k : ℕ) (x : A) (p q r : Paths) (a b c : List Effect) → k < length xs → x ≡ get_or xs k x
      → Gathers (joined (map f (take k xs))) (joined (map g (take k xs))) (joined (map h (take k xs))) p q a b → Gathers (f x) (g x) (h x) q r b c
      → Gathers (joined (map f (take (k + 1) xs))) (joined (map g (take (k + 1) xs))) (joined (map h (take (k + 1) xs))) p r a c
  gathers_step xs k x p q r a b c within is before one =
      subst (λ r1. Gathers r1 (joined (map g (take (k + 1) xs))) (joined (map h (take (k + 1) xs))) p r a c) (one_more f xs k x within is)
      (subst (λ w1. Gathers (joined (map f (take k xs)) ++ f x) w1 (joined (map h (take (k + 1) xs))) p r a c) (one_more g xs k x within is)
      (subst (λ body. Gathers (joined (map f (take k xs)) ++ f x) (joined (map g (take k xs)) ++ g x) body p r a c) (one_more h xs k x within is)
      (gathers_then (joined (map f (take k xs))) (joined (map g (take k xs))) (f x) (g x) (joined (map h (take k xs))) (h x) p q r a b c before one)))

  -- of all parts
  pub gathers_all : (xs : List A) (k : ℕ) (p q : Paths) (a b : List Effect) → length xs ≤ k
      → Gathers (joined (map f (take k xs))) (joined (map g (take k xs))) (joined (map h (take k xs))) p q a b
      → Gathers (joined (map f xs)) (joined (map g xs)) (joined (map h xs)) p q a b
  gathers_all xs k p q a b over gathers =
      subst (λ front. Gathers (joined (map f front)) (joined (map g front)) (joined (map h front)) p q a b) (take_over xs k over) gathers
    where
      take_over : {A : Type 0} (xs : List A) (k : ℕ) → length xs ≤ k → take k xs ≡ xs
      take_over [] zero over = refl
      take_over [] (suc k) over = refl
      take_over (x ∷ xs) zero over = absurd (omega arith)
      take_over (x ∷ xs) (suc k) over = ap (λ rest. x ∷ rest) (take_over xs k (omega arith))

pub singles : (xs : List Stmt) → joined (map (λ s. s ∷ []) xs) ≡ xs
singles [] = refl
singles (x ∷ xs) = ap (λ rest. x ∷ rest) (singles xs)

-- ---- answers of loops

module _ {A : Type 0} (f : A → Bool) (xs : List A) (k : ℕ) where
  pub any_step : (x : A) (now then : Bool) → k < length xs → x ≡ get_or xs k x → then ≡ (now || f x)
      → (now || any_of (map f (drop k xs))) ≡ any_of (map f xs) → (then || any_of (map f (drop (k + 1) xs))) ≡ any_of (map f xs)
  any_step x now then within is grows all =
      ap (λ b. b || any_of (map f (drop (k + 1) xs))) grows ∙ or_assoc now (f x) (any_of (map f (drop (k + 1) xs)))
      ∙ ap (λ rest. now || any_of (map f rest)) (sym (drop_next xs k x within is)) ∙ all

  pub all_step : (x : A) (now then : Bool) → k < length xs → x ≡ get_or xs k x → then ≡ (now && f x)
      → (now && all_of (map f (drop k xs))) ≡ all_of (map f xs) → (then && all_of (map f (drop (k + 1) xs))) ≡ all_of (map f xs)
  all_step x now then within is grows all =
      ap (λ b. b && all_of (map f (drop (k + 1) xs))) grows ∙ and_assoc now (f x) (all_of (map f (drop (k + 1) xs)))
      ∙ ap (λ rest. now && all_of (map f rest)) (sym (drop_next xs k x within is)) ∙ all

  pub any_end : (now : Bool) → length xs ≤ k → (now || any_of (map f (drop k xs))) ≡ any_of (map f xs) → now ≡ any_of (map f xs)
  any_end now over all = sym (or_false now) ∙ ap (λ rest. now || any_of (map f rest)) (sym (drop_of_length-le xs over)) ∙ all

  pub all_end : (now : Bool) → length xs ≤ k → (now && all_of (map f (drop k xs))) ≡ all_of (map f xs) → now ≡ all_of (map f xs)
  all_end now over all = sym (and_true now) ∙ ap (λ rest. now && all_of (map f rest)) (sym (drop_of_length-le xs over)) ∙ all

-- ---- arms, branches and kinds of statements

pub reads_arm_out : (arm : Arm) → reads_of_arm arm ≡ mentions (out-Arm arm).test ++ joined (map reads (out-Arm arm).body)
reads_arm_out = fold_out-Arm (List Static) (List Static) (List Static) (List Static) kind_reads arm_reads branch_paths stmt_set

pub writes_arm_out : (arm : Arm) → writes_of_arm arm ≡ joined (map writes (out-Arm arm).body)
writes_arm_out = fold_out-Arm (List Static) (List Static) (List Static) (List Static) kind_writes arm_writes branch_paths stmt_set

pub instant_arm_out : (arm : Arm) → instant_of_arm arm ≡ all_of (map instant (out-Arm arm).body)
instant_arm_out = fold_out-Arm Bool Bool BranchInstant Bool kind_instant arm_instant branch_ends stmt_instant

pub reads_branch_out : (branch : Branch) → reads_of_branch branch ≡ joined (map reads (out-Branch branch).body)
reads_branch_out = fold_out-Branch (List Static) (List Static) (List Static) (List Static) kind_reads arm_reads branch_paths stmt_set

pub writes_branch_out : (branch : Branch) → writes_of_branch branch ≡ joined (map writes (out-Branch branch).body)
writes_branch_out = fold_out-Branch (List Static) (List Static) (List Static) (List Static) kind_writes arm_writes branch_paths stmt_set

pub ends_branch_out : (branch : Branch) → ends_of_branch branch
    ≡ record { weak = (out-Branch branch).weak; instant = all_of (map instant (out-Branch branch).body) }
ends_branch_out = fold_out-Branch Bool Bool BranchInstant Bool kind_instant arm_instant branch_ends stmt_instant

abbrev pub read_parts : StmtKind-F StmtKind Arm Branch Stmt → StmtKind-F (List Static) (List Static) (List Static) (List Static)
read_parts = map-StmtKind StmtKind Arm Branch Stmt (List Static) (List Static) (List Static) (List Static) reads_of_kind reads_of_arm reads_of_branch reads

abbrev pub written_parts : StmtKind-F StmtKind Arm Branch Stmt → StmtKind-F (List Static) (List Static) (List Static) (List Static)
written_parts = map-StmtKind StmtKind Arm Branch Stmt (List Static) (List Static) (List Static)
    (List Static) writes_of_kind writes_of_arm writes_of_branch writes

-- what is gathered of the parts of a kind of statement
pub gathers_kind : (what : StmtKind) (layer : StmtKind-F StmtKind Arm Branch Stmt) → out-StmtKind what ≡ layer → (p q : Paths) (a b : List Effect)
    → Gathers (kind_reads (read_parts layer)) (kind_writes (written_parts layer)) (kind_children layer) p q a b
    → Gathers (reads_of_kind what) (writes_of_kind what) (children_of_kind what) p q a b
gathers_kind what layer is p q a b gathers =
    subst (λ r. Gathers r (writes_of_kind what) (children_of_kind what) p q a b)
    (sym (fold_out-StmtKind (List Static) (List Static) (List Static) (List Static) kind_reads arm_reads branch_paths stmt_set what
    ∙ ap (λ layer. kind_reads (read_parts layer)) is))
    (subst (λ w. Gathers (kind_reads (read_parts layer)) w (children_of_kind what) p q a b)
    (sym (fold_out-StmtKind (List Static) (List Static) (List Static)
    (List Static) kind_writes arm_writes branch_paths stmt_set what ∙ ap (λ layer. kind_writes (written_parts layer)) is))
    (subst (λ body. Gathers (kind_reads (read_parts layer)) (kind_writes (written_parts layer)) body p q a b) (sym (ap kind_children is)) gathers))

pub if_gathers : (what : StmtKind) (arms made_arms : List Arm) (other made : List Stmt) → what ≡ If arms other → made_arms ≡ arms →
    made ≡ other → (p q r : Paths) (a b c : List Effect)
    → Gathers (joined (map reads_of_arm made_arms)) (joined (map writes_of_arm made_arms)) (joined (map (λ arm. (out-Arm arm).body) made_arms)) p q a b
    → Gathers (joined (map reads made)) (joined (map writes made)) made q r b c →
    Gathers (reads_of_kind what) (writes_of_kind what) (children_of_kind what) p r a c
if_gathers what arms made_arms other made is same_arms same p q r a b c one then =
    gathers_kind what (StmtKind-F.If arms other) (ap out-StmtKind is ∙ outs-If arms other) p r a c
    (subst (λ arms. Gathers (joined (map reads_of_arm arms) ++ joined (map reads other))
    (joined (map writes_of_arm arms) ++ joined (map writes other)) (joined (map (λ arm. (out-Arm arm).body) arms) ++ other) p r a c) same_arms
    (subst (λ body. Gathers (joined (map reads_of_arm made_arms) ++ joined (map reads body))
    (joined (map writes_of_arm made_arms) ++ joined (map writes body)) (joined (map (λ arm. (out-Arm arm).body) made_arms) ++ body) p r a c) same
    (gathers_then _ _ _ _ _ _ p q r a b c one then)))

pub when_gathers : (what : StmtKind) (guard : Guard) (e : Expr) (body made : List Stmt) → what ≡ When guard e body → made ≡ body →
    (p q r : Paths) (a b : List Effect)
    → q.reads ≡ p.reads ++ mentions e → q.writes ≡ p.writes → Gathers (joined (map reads made)) (joined (map writes made)) made q r a b
    → Gathers (reads_of_kind what) (writes_of_kind what) (children_of_kind what) p r a b
when_gathers what guard e body made is same p q r a b read wrote then =
    gathers_kind what (StmtKind-F.When guard e body) (ap out-StmtKind is ∙ outs-When guard e body) p r a b
    (subst (λ body. Gathers (mentions e ++ joined (map reads body)) (joined (map writes body)) body p r a b) same
    (reads_before _ _ _ _ p q r a b read wrote then))

pub while_gathers : (what : StmtKind) (e : Expr) (body made : List Stmt) → what ≡ While e body → made ≡ body → (p q r : Paths) (a b : List Effect)
    → q.reads ≡ p.reads ++ mentions e → q.writes ≡ p.writes → Gathers (joined (map reads made)) (joined (map writes made)) made q r a b
    → Gathers (reads_of_kind what) (writes_of_kind what) (children_of_kind what) p r a b
while_gathers what e body made is same p q r a b read wrote then =
    gathers_kind what (StmtKind-F.While e body) (ap out-StmtKind is ∙ outs-While e body) p r a b
    (subst (λ body. Gathers (mentions e ++ joined (map reads body)) (joined (map writes body)) body p r a b) same
    (reads_before _ _ _ _ p q r a b read wrote then))

pub until_gathers : (what : StmtKind) (e : Expr) (body made : List Stmt) → what ≡ Until body e → made ≡ body → (p q r : Paths) (a b : List Effect)
    → Gathers (joined (map reads made)) (joined (map writes made)) made p q a b → r.reads ≡ q.reads ++ mentions e → r.writes ≡ q.writes
    → Gathers (reads_of_kind what) (writes_of_kind what) (children_of_kind what) p r a b
until_gathers what e body made is same p q r a b first read wrote =
    gathers_kind what (StmtKind-F.Until body e) (ap out-StmtKind is ∙ outs-Until body e) p r a b
    (subst (λ body. Gathers (joined (map reads body) ++ mentions e) (joined (map writes body)) body p r a b) same
    (reads_after _ _ _ _ p q r a b first read wrote))

pub branch_gathers : (branch : Branch) (body : List Stmt) → body ≡ (out-Branch branch).body → (p q : Paths) (a b : List Effect)
    → Gathers (joined (map reads body)) (joined (map writes body)) body p q a b →
    Gathers (reads_of_branch branch) (writes_of_branch branch) (out-Branch branch).body p q a b
branch_gathers branch body same p q a b gathers =
    subst (λ r. Gathers r (writes_of_branch branch) (out-Branch branch).body p q a b) (sym (reads_branch_out branch))
    (subst (λ w. Gathers (joined (map reads (out-Branch branch).body)) w (out-Branch branch).body p q a b) (sym (writes_branch_out branch))
    (subst (λ body. Gathers (joined (map reads body)) (joined (map writes body)) body p q a b) same gathers))

pub arm_gathers : (arm : Arm) (body : List Stmt) → body ≡ (out-Arm arm).body → (p q r : Paths) (a b : List Effect)
    → q.reads ≡ p.reads ++ mentions (out-Arm arm).test → q.writes ≡ p.writes
    → Gathers (joined (map reads body)) (joined (map writes body)) body q r a b → Gathers (reads_of_arm arm) (writes_of_arm arm) (out-Arm arm).body p r a b
arm_gathers arm body same p q r a b read wrote gathers =
    subst (λ read. Gathers read (writes_of_arm arm) (out-Arm arm).body p r a b) (sym (reads_arm_out arm))
    (subst (λ w. Gathers (mentions (out-Arm arm).test ++ joined (map reads (out-Arm arm).body)) w (out-Arm arm).body p r a b) (sym (writes_arm_out arm))
    (subst (λ body. Gathers (mentions (out-Arm arm).test ++ joined (map reads body)) (joined (map writes body)) body p r a b) same
    (reads_before _ _ _ _ p q r a b read wrote gathers)))

-- what the tests of branches come to
pub branches_end : (all : List Branch) (k : ℕ) (is_strong strong some : Bool) → length all ≤ k
    → (is_strong || any_of (map (λ branch. not (ends_of_branch branch).weak) (drop k all)))
    ≡ any_of (map (λ branch. not (ends_of_branch branch).weak) all)
    → (strong && all_of (map (λ branch. (ends_of_branch branch).weak || (ends_of_branch branch).instant) (drop k all)))
    ≡ all_of (map (λ branch. (ends_of_branch branch).weak || (ends_of_branch branch).instant) all)
    → (some || any_of (map (λ branch. (ends_of_branch branch).instant) (drop k all))) ≡ any_of (map (λ branch. (ends_of_branch branch).instant) all)
    → cond is_strong strong some ≡ branches_instant (map ends_of_branch all)
branches_end all k is_strong strong some over strongs alls somes =
    let first = any_end (λ branch. not (ends_of_branch branch).weak) all k is_strong over strongs ∙ ap any_of (sym (twice (λ ends. not ends.weak) all)) in
    let second = all_end (λ branch. (ends_of_branch branch).weak || (ends_of_branch branch).instant) all k strong over alls
    ∙ ap all_of (sym (twice (λ ends. ends.weak || ends.instant) all)) in
    let third = any_end (λ branch. (ends_of_branch branch).instant) all k some over somes ∙ ap any_of (sym (twice (λ ends. ends.instant) all)) in
    λ i. cond (first i) (second i) (third i)
  where
    twice : (f : BranchInstant → Bool) (all : List Branch) → map f (map ends_of_branch all) ≡ map (λ branch. f (ends_of_branch branch)) all
    twice f [] = refl
    twice f (branch ∷ all) = ap (λ rest. f (ends_of_branch branch) ∷ rest) (twice f all)

pub on_ok : {A E : Type 0} (P Q : Type 0) (r : Result A E) → (P → Q) → OnOk r P → OnOk r Q
on_ok P Q (Ok x) f h = f h
on_ok P Q (Err e) f h = h

-- ---- a statement

pub within_cases : (s outer : Stmt) → Within s outer → (s ≡ outer) ⊎ StandsIn (children outer) s
within_cases s outer (itself) = inl refl
within_cases s outer (deeper _ next there within) = inr (record { outer = next; is_there = there; within = within })

within_child : (s outer : Stmt) → StandsIn (children outer) s → Within s outer
within_child s outer stands = deeper outer stands.outer stands.is_there stands.within

only : (s t : Stmt) → StandsIn (s ∷ []) t → Within t s
only s t stands = subst (Within t) (sole stands.is_there) stands.within
  where
    sole : {x y : Stmt} → Contains (x ∷ []) y → y ≡ x
    sole (zero, below, is) = sym is
    sole (suc k, below, is) = absurd (omega arith)

alone : (s t : Stmt) → Within t s → StandsIn (s ∷ []) t
alone s t within = record { outer = s; is_there = (0, omega arith, refl); within = within }

-- the table after it was told of what stands in a statement, and then of the statement
pub records_statement : (s : Stmt) (sets : Sets) (a b c : List Effect) → TableRecords (StandsIn (children s)) a b → effect_at (place_of s) sets
    ≡ effect_of s
    → ((q : Place) → found c q ≡ cond (same_place (place_of s) q) (Some (effect_at (place_of s) sets)) (found b q))
    → TableRecords (StandsIn (s ∷ [])) a c
records_statement s sets a b c inside is inserted at = step (same_place (place_of s) at) refl (inside at)
  where
    step : (t : Bool) → same_place (place_of s) at ≡ t → TableKept (StandsIn (children s)) a b at ⊎ TableTold (StandsIn (children s)) b at
        → TableKept (StandsIn (s ∷ [])) a c at ⊎ TableTold (StandsIn (s ∷ [])) c at
    step true here before =
        inr (record {
          statement = s;
          stands = alone s s itself;
          there = same_true (place_of s) at here;
          tells =
              inserted at ∙ ap (λ t. cond t (Some (effect_at (place_of s) sets)) (found b at)) here ∙ ap Some is;
        })
    step false here before =
        let past = inserted at ∙ ap (λ t. cond t (Some (effect_at (place_of s) sets)) (found b at)) here in
        ⊎_elim
        (λ (kept : TableKept (StandsIn (children s)) a b at). inl (record {
          same = past ∙ kept.same;
          none = λ t stands there.
              ⊎_elim (λ same. let seen : same_place (place_of s) at ≡ true =
              ap (λ u. same_place (place_of u) at) (sym same) ∙ ap (λ place. same_place place at) there ∙ same_place_refl at in absurd (cc))
              (λ deep. kept.none t deep there) (within_cases t s (only s t stands));
        }))
        (λ (told : TableTold (StandsIn (children s)) b at). inr (record {
          statement = told.statement;
          stands = alone s told.statement (within_child told.statement s told.stands);
          there = told.there;
          tells = past ∙ told.tells;
        }))
        before

-- what is gathered of a statement, from what is gathered of its parts
pub statement_gathers : (s : Stmt) (sets : Sets) (empty inner p q : Paths) (a b c : List Effect)
    → Gathers (reads_of_kind (out-Stmt s).what) (writes_of_kind (out-Stmt s).what) (children_of_kind (out-Stmt s).what) empty inner a b
    → empty.reads ≡ [] → empty.writes ≡ [] → sets.reads ≡ set_of inner.reads → sets.writes ≡ set_of inner.writes →
    sets.instant ≡ instant_of_kind (out-Stmt s).what
    → q.reads ≡ p.reads ++ sets.reads → q.writes ≡ p.writes ++ sets.writes
    → ((at : Place) → found c at ≡ cond (same_place (place_of s) at) (Some (effect_at (place_of s) sets)) (found b at))
    → Gathers (reads s) (writes s) (s ∷ []) p q a c
statement_gathers s sets empty inner p q a b c gathers no_reads no_writes read wrote ends grown grown_too inserted =
    let reads_is : sets.reads ≡ reads s = read ∙ ap set_of (gathers.reads_grow ∙ ap (λ xs. xs ++ reads_of_kind (out-Stmt s).what) no_reads)
    ∙ sym (fold_out-Stmt (List Static) (List Static) (List Static) (List Static) kind_reads arm_reads branch_paths stmt_set s) in
    let writes_is : sets.writes ≡ writes s = wrote ∙ ap set_of (gathers.writes_grow ∙ ap (λ xs. xs ++ writes_of_kind (out-Stmt s).what) no_writes)
    ∙ sym (fold_out-Stmt (List Static) (List Static) (List Static) (List Static) kind_writes arm_writes branch_paths stmt_set s) in
    let ends_is : sets.instant ≡ instant s = ends ∙ sym (fold_out-Stmt Bool Bool BranchInstant Bool kind_instant arm_instant branch_ends stmt_instant s) in
    let effect_is : effect_at (place_of s) sets ≡ effect_of s =
    λ i. record { place = place_of s; reads = reads_is i; writes = writes_is i; instant = ends_is i } in
    record {
      reads_grow = grown ∙ ap (λ xs. p.reads ++ xs) reads_is;
      writes_grow = grown_too ∙ ap (λ xs. p.writes ++ xs) writes_is;
      records = records_statement s sets a b c gathers.records effect_is inserted;
    }
