-- What a peeled body asks of the past is declared before.
use Rattle.std.proofs.Common.{◌≡◌, ℕ, suc, true, ◌&&◌, ◌||◌, List, [], ◌∷◌, ◌++◌, map, refl, ap, sym, subst, ◌∙◌, ◌⊎◌, ⊎_elim}
use Rattle.std.specs.Prelude.{nat_eq}
use Rattle.std.specs.List.{list_any}
use Rattle.std.proofs.lemmas.Bool.{and_from, or_left, or_right}
use Rattle.bl_tree.proofs.Basics.{and_assoc, and_first, and_second, either_of}
use Rattle.bl_tree.specs.declared.place.Place.{Place}
use Rattle.bl_tree.specs.declared.tree.Arm.{Arm, out-Arm, out-roll-Arm}
use Rattle.bl_tree.specs.declared.tree.Branch.{Branch, out-Branch}
use Rattle.bl_tree.specs.declared.tree.Expr.{Expr}
use Rattle.bl_tree.specs.declared.tree.Guard.{Guard}
use Rattle.bl_tree.specs.declared.tree.Stmt.{Stmt, fold-roll-Stmt}
use Rattle.bl_tree.specs.declared.tree.StmtKind.{StmtKind, fold-roll-StmtKind}
use Rattle.bl_tree.specs.declared.tree.StmtKind.TheOpen.{StmtKind-F}
use Rattle.bl_tree.specs.declared.tree.Unit.{Unit as UnitDef}
use Rattle.bl_tree.proofs.FirstLemmas.{contains_in, in_contains}
use Rattle.bl_graph_nodes.specs.Laws.{plain_arm, plain_branch, stmt}
use Rattle.bl_graph_nodes.specs.Plain.{Act, Await, Block, Cobegin, Done, If, Label, Plain, Position, Repeat, Run as RunOf, Then, Until, When, While, block_from}
use Rattle.bl_graph_nodes.specs.Plain.{bodies_from, else_at, inside, label_at, never, passed_one, place_of_test, plain_block, plain_stmt}
use Rattle.bl_graph_nodes.proofs.Equations.{plain_statements}
use Rattle.bl_machine_prevs.specs.Declared.{are_known, declared_by, prevs_are_declared, prevs_stand, prevs_stand_in, prevs_stand_in_each, prevs_in_inputs}
use Rattle.bl_machine_prevs.specs.Prevs.{prevs_in, prevs_in_expr}
use Rattle.bl_peel.specs.Peeled.{made_arm, made_if, made_stmt, peeled, place_of_expr}
use Rattle.bl_peel.specs.Units.{UnitPeels, is_peeled, kept}
use Rattle.bl_peel.specs.inner.Parts.{kind_has_no_block}
use Rattle.bl_peel_laws.specs.Prevs.{PeeledIsFromText, PeeledPrevsAreDeclared}
use Rattle.bl_peel_laws.proofs.Failures.{SourceOf, source_of}
use Rattle.bl_peel_laws.proofs.Inheriting.{ArmsBelow, BranchesBelow, inherited, more_arms, more_branches, no_arms, no_branches}

-- ---- tests

-- ---- known variables

-- each variable of the first list is in the second
abbrev Knows : List ℕ → List ℕ → Type 0
Knows known more = (k : ℕ) → list_any (nat_eq k) known ≡ true → list_any (nat_eq k) more ≡ true

knows_later : (xs known : List ℕ) → Knows known (xs ++ known)
knows_later [] known k h = h
knows_later (x ∷ xs) known k h = or_right (nat_eq k x) (list_any (nat_eq k) (xs ++ known)) (knows_later xs known k h)

knows_beside : (xs known more : List ℕ) → Knows known more → Knows (xs ++ known) (xs ++ more)
knows_beside [] known more knows k h = knows k h
knows_beside (x ∷ xs) known more knows k h =
    ⊎_elim (λ is. or_left (nat_eq k x) (list_any (nat_eq k) (xs ++ more)) is)
    (λ later. or_right (nat_eq k x) (list_any (nat_eq k) (xs ++ more)) (knows_beside xs known more knows k later))
    (either_of (nat_eq k x) (list_any (nat_eq k) (xs ++ known)) h)

still_known : (known more : List ℕ) → Knows known more → (ks : List ℕ) → are_known known ks ≡ true → are_known more ks ≡ true
still_known known more knows [] all = refl
still_known known more knows (k ∷ ks) all =
    and_from (list_any (nat_eq k) more) (are_known more ks) (knows k (and_first (list_any (nat_eq k) known) (are_known known ks) all))
    (still_known known more knows ks (and_second (list_any (nat_eq k) known) (are_known known ks) all))

-- ---- blocks

-- what is known after a block
abbrev known_after : List ℕ → Block → List ℕ
known_after known Done = known
known_after known (Then s rest) = known_after (declared_by s ++ known) rest

knows_after : (known : List ℕ) (body : Block) → Knows known (known_after known body)
knows_after known Done k h = h
knows_after known (Then s rest) k h = knows_after (declared_by s ++ known) rest k (knows_later (declared_by s) known k h)

abbrev after_all : List Stmt → ℕ → ℕ
after_all [] k = k
after_all (s ∷ body) k = after_all body (suc k)

abbrev block_of : List Stmt → ℕ → Position → Block
block_of body k q = block_from (map plain_stmt body) k q

-- a list behind another
split_stands : (known : List ℕ) (xs ys : List Stmt) (k : ℕ) (q : Position) →
    prevs_stand_in known (block_of (xs ++ ys) k q)
    ≡ (prevs_stand_in known (block_of xs k q) && prevs_stand_in (known_after known (block_of xs k q)) (block_of ys (after_all xs k) q))
split_stands known [] ys k q = refl
split_stands known (s ∷ xs) ys k q =
    let made = plain_stmt s (q ++ k ∷ []) in
    ap (λ b. prevs_stand known made && b) (split_stands (declared_by made ++ known) xs ys (suc k) q)
    ∙ sym (and_assoc (prevs_stand known made) (prevs_stand_in (declared_by made ++ known) (block_of xs (suc k) q))
    (prevs_stand_in (known_after (declared_by made ++ known) (block_of xs (suc k) q)) (block_of ys (after_all xs (suc k)) q)))

split_known : (known : List ℕ) (xs ys : List Stmt) (k : ℕ) (q : Position) →
    known_after known (block_of (xs ++ ys) k q) ≡ known_after (known_after known (block_of xs k q)) (block_of ys (after_all xs k) q)
split_known known [] ys k q = refl
split_known known (s ∷ xs) ys k q = split_known (declared_by (plain_stmt s (q ++ k ∷ [])) ++ known) xs ys (suc k) q

-- where what is known grew, the second block asks only for what is known if the first one does, and more is known after it
pub record Asks (known more : List ℕ) (made source : Block) : Type 0 where
  pub stands : prevs_stand_in more made ≡ true
  pub knows : Knows (known_after known source) (known_after more made)

abbrev Declares : List Stmt → List Stmt → Type 0
Declares body made =
    (j k : ℕ) (p q : Position) (known more : List ℕ) → Knows known more → prevs_stand_in known (block_of body j p) ≡ true →
    Asks known more (block_of made k q) (block_of body j p)

declares_none : Declares [] []
declares_none j k p q known more knows stands = record { stands = refl; knows = knows }

-- two lists one after another, where the second is made beside what is known after the first
asks_both : (known now more : List ℕ) (xs ys : List Stmt) (k : ℕ) (q : Position) (source : Block) → prevs_stand_in more (block_of xs k q) ≡ true →
    Asks now (known_after more (block_of xs k q)) (block_of ys (after_all xs k) q) source →
    prevs_stand_in more (block_of (xs ++ ys) k q) ≡ true
asks_both known now more xs ys k q source one rest =
    split_stands more xs ys k q
    ∙ and_from (prevs_stand_in more (block_of xs k q)) (prevs_stand_in (known_after more (block_of xs k q)) (block_of ys (after_all xs k) q)) one rest.stands

declares_next : (s : Stmt) (body xs ys : List Stmt) → Declares (s ∷ []) xs → Declares body ys → Declares (s ∷ body) (xs ++ ys)
declares_next s body xs ys one rest j k p q known more knows stands =
    let source = plain_stmt s (p ++ j ∷ []) in
    let first : Asks known more (block_of xs k q) (block_of (s ∷ []) j p) =
    one j k p q known more knows
    (and_from (prevs_stand known source) true
    (and_first (prevs_stand known source) (prevs_stand_in (declared_by source ++ known) (block_of body (suc j) p)) stands) refl) in
    let later : Asks (declared_by source ++ known) (known_after more (block_of xs k q)) (block_of ys (after_all xs k) q) (block_of body (suc j) p) =
    rest (suc j) (after_all xs k) p q (declared_by source ++ known) (known_after more (block_of xs k q)) first.knows
    (and_second (prevs_stand known source) (prevs_stand_in (declared_by source ++ known) (block_of body (suc j) p)) stands) in
    record {
      stands = asks_both known (declared_by source ++ known) more xs ys k q (block_of body (suc j) p) first.stands later;
      knows = subst (Knows (known_after known (block_of (s ∷ body) j p))) (sym (split_known more xs ys k q)) later.knows;
    }

declares_twice : (body xs ys : List Stmt) → Declares body xs → Declares body ys → Declares body (xs ++ ys)
declares_twice body xs ys one other j k p q known more knows stands =
    let first : Asks known more (block_of xs k q) (block_of body j p) = one j k p q known more knows stands in
    let later : Asks known (known_after more (block_of xs k q)) (block_of ys (after_all xs k) q) (block_of body j p) =
    other j (after_all xs k) p q known (known_after more (block_of xs k q)) (λ x h. knows_after more (block_of xs k q) x (knows x h)) stands in
    record {
      stands = asks_both known known more xs ys k q (block_of body j p) first.stands later;
      knows = subst (Knows (known_after known (block_of body j p))) (sym (split_known more xs ys k q)) later.knows;
    }

-- ---- statements

-- a plain statement asks only for what is known, if another does where less is known
abbrev StandsAs : (Position → Plain) → (Position → Plain) → Type 0
StandsAs source made =
    (p q : Position) (known more : List ℕ) → Knows known more → prevs_stand known (source p) ≡ true → prevs_stand more (made q) ≡ true

-- one statement of another, by their plain statements
declares_one : (s t : Stmt) (source made : Position → Plain) → ((p : Position) → plain_stmt s p ≡ source p) → ((q : Position) → plain_stmt t q ≡ made q) →
    StandsAs source made → ((p q : Position) → declared_by (made q) ≡ declared_by (source p)) → Declares (s ∷ []) (t ∷ [])
declares_one s t source made is_source is_made stands_as declared j k p q known more knows stands =
    let at = p ++ j ∷ [] in
    let to = q ++ k ∷ [] in
    let holds : prevs_stand known (source at) ≡ true =
    subst (λ s. prevs_stand known s ≡ true) (is_source at) (and_first (prevs_stand known (plain_stmt s at)) true stands) in
    let same : declared_by (plain_stmt t to) ≡ declared_by (plain_stmt s at) = ap declared_by (is_made to) ∙ declared at to
    ∙ sym (ap declared_by (is_source at)) in
    record {
      stands = and_from (prevs_stand more (plain_stmt t to)) true
          (subst (λ s. prevs_stand more s ≡ true) (sym (is_made to)) (stands_as at to known more knows holds)) refl;
      knows = subst (λ ks. Knows (declared_by (plain_stmt s at) ++ known) (ks ++ more)) (sym same)
          (knows_beside (declared_by (plain_stmt s at)) known more knows);
    }

-- an inner block, whatever its position
inner_stands : (a b : List Stmt) → Declares a b → (p q : Position) (known more : List ℕ) → Knows known more →
    prevs_stand_in known (plain_block a p) ≡ true → prevs_stand_in more (plain_block b q) ≡ true
inner_stands a b inner p q known more knows stands = (inner 0 0 p q known more knows stands).stands

-- an expression and an inner block
pair_stands : (ks : List ℕ) (a b : List Stmt) → Declares a b → (p q : Position) (known more : List ℕ) → Knows known more →
    (are_known known ks && prevs_stand_in known (plain_block a p)) ≡ true → (are_known more ks && prevs_stand_in more (plain_block b q)) ≡ true
pair_stands ks a b inner p q known more knows stands =
    and_from (are_known more ks) (prevs_stand_in more (plain_block b q))
    (still_known known more knows ks (and_first (are_known known ks) (prevs_stand_in known (plain_block a p)) stands))
    (inner_stands a b inner p q known more knows (and_second (are_known known ks) (prevs_stand_in known (plain_block a p)) stands))

-- ---- statements without blocks

act_alone : (s : Stmt) → ((p : Position) → plain_stmt s p ≡ Act (label_at p) s) → Declares (s ∷ []) (s ∷ [])
act_alone s is =
    declares_one s s (λ p. Act (label_at p) s) (λ p. Act (label_at p) s) is is
    (λ p q known more knows stands. still_known known more knows (prevs_in s) stands) (λ p q. refl)

declares_alone : (place : Place) (layer : StmtKind-F StmtKind Arm Branch Stmt) → kind_has_no_block layer ≡ true →
    Declares (made_stmt place layer ∷ []) (made_stmt place layer ∷ [])
declares_alone place (StmtKind-F.Declare k initial) none =
    act_alone (stmt place (StmtKind-F.Declare k initial)) (λ p. plain_statements.declaration place p k initial)
declares_alone place (StmtKind-F.Assign path e) none =
    act_alone (stmt place (StmtKind-F.Assign path e)) (λ p. plain_statements.assignment place p path e)
declares_alone place (StmtKind-F.Call f inputs outputs) none =
    act_alone (stmt place (StmtKind-F.Call f inputs outputs)) (λ p. plain_statements.call place p f inputs outputs)
declares_alone place (StmtKind-F.Return e) none = act_alone (stmt place (StmtKind-F.Return e)) (λ p. plain_statements.returns place p e)
declares_alone place (StmtKind-F.Await e) none =
    declares_one (stmt place (StmtKind-F.Await e)) (stmt place (StmtKind-F.Await e)) (λ p. Await (label_at p) place e)
    (λ p. Await (label_at p) place e) (λ p. plain_statements.pause place p e) (λ p. plain_statements.pause place p e)
    (λ p q known more knows stands. still_known known more knows (prevs_in_expr e) stands) (λ p q. refl)
declares_alone place (StmtKind-F.Run target a inputs outputs) none =
    let s = stmt place (StmtKind-F.Run target a inputs outputs) in
    declares_one s s (λ p. RunOf (label_at p) place target a inputs outputs) (λ p. RunOf (label_at p) place target a inputs outputs)
    (λ p. plain_statements.run place p target a inputs outputs) (λ p. plain_statements.run place p target a inputs outputs)
    (λ p q known more knows stands. still_known known more knows (prevs_in_inputs inputs) stands) (λ p q. refl)
declares_alone place (StmtKind-F.If arms other) none = absurd (cc)
declares_alone place (StmtKind-F.Cobegin branches) none = absurd (cc)
declares_alone place (StmtKind-F.When guard e body) none = absurd (cc)
declares_alone place (StmtKind-F.Repeat body) none = absurd (cc)
declares_alone place (StmtKind-F.Until body e) none = absurd (cc)
declares_alone place (StmtKind-F.While e body) none = absurd (cc)

-- ---- an `if`

if_stands : (l m : Label) (at at' : Place) (e e' : Expr) (body body' other other' : Block) → e' ≡ e → (known more : List ℕ) → Knows known more →
    (prevs_stand_in known body ≡ true → prevs_stand_in more body' ≡ true) → (prevs_stand_in known other ≡ true → prevs_stand_in more other' ≡ true) →
    prevs_stand known (If l at e body other) ≡ true → prevs_stand more (If m at' e' body' other') ≡ true
if_stands l m at at' e e' body body' other other' same known more knows inner rest stands =
    let blocks =
    and_second (are_known known (prevs_in_expr e)) (prevs_stand_in known body && prevs_stand_in known other) stands in
    and_from (are_known more (prevs_in_expr e')) (prevs_stand_in more body' && prevs_stand_in more other')
    (subst (λ e. are_known more (prevs_in_expr e) ≡ true) (sym same)
    (still_known known more knows (prevs_in_expr e)
    (and_first (are_known known (prevs_in_expr e)) (prevs_stand_in known body && prevs_stand_in known other) stands)))
    (and_from (prevs_stand_in more body') (prevs_stand_in more other') (inner (and_first (prevs_stand_in known body) (prevs_stand_in known other) blocks))
    (rest (and_second (prevs_stand_in known body) (prevs_stand_in known other) blocks)))

else_stands : (a b : List Stmt) {arms others : List Arm} → ArmsBelow Declares arms others → Declares a b → (l m : Label) (known more : List ℕ) →
    Knows known more → prevs_stand_in known (else_at l (map plain_arm arms) (plain_block a)) ≡ true →
    prevs_stand_in more (else_at m (map plain_arm others) (plain_block b)) ≡ true
else_stands a b no_arms inner l m known more knows stands = inner_stands a b inner (inside l l.passed) (inside m m.passed) known more knows stands
else_stands a b (more_arms {arm} {made} {arms} {others} test first rest) inner l m known more knows stands =
    and_from
    (prevs_stand more
    (If m (place_of_test (plain_arm made)) (out-Arm made).test (plain_block (out-Arm made).body (inside m m.passed))
    (else_at (passed_one m) (map plain_arm others) (plain_block b))))
    true
    (if_stands l m (place_of_test (plain_arm arm)) (place_of_test (plain_arm made)) (out-Arm arm).test (out-Arm made).test
    (plain_block (out-Arm arm).body (inside l l.passed)) (plain_block (out-Arm made).body (inside m m.passed))
    (else_at (passed_one l) (map plain_arm arms) (plain_block a)) (else_at (passed_one m) (map plain_arm others) (plain_block b)) test known more knows
    (inner_stands (out-Arm arm).body (out-Arm made).body first (inside l l.passed) (inside m m.passed) known more knows)
    (else_stands a b rest inner (passed_one l) (passed_one m) known more knows)
    (and_first
    (prevs_stand known
    (If l (place_of_test (plain_arm arm)) (out-Arm arm).test (plain_block (out-Arm arm).body (inside l l.passed))
    (else_at (passed_one l) (map plain_arm arms) (plain_block a))))
    true stands))
    refl

-- an `if` without an arm does its `else` part
if_without_arms : (place : Place) (body : List Stmt) (p : Position) →
    plain_stmt (stmt place (StmtKind-F.If [] body)) p
    ≡ If (label_at p) place (never place) (plain_block body (inside (label_at p) 0)) (plain_block body (inside (label_at p) 1))
if_without_arms place body p = rw (fold-roll-Stmt, fold-roll-StmtKind) refl

declares_if : (place : Place) {arms others : List Arm} (a b : List Stmt) → ArmsBelow Declares arms others → Declares a b →
    Declares (made_stmt place (StmtKind-F.If arms a) ∷ []) (made_stmt place (StmtKind-F.If others b) ∷ [])
declares_if place a b no_arms inner =
    declares_one (stmt place (StmtKind-F.If [] a)) (stmt place (StmtKind-F.If [] b))
    (λ p. If (label_at p) place (never place) (plain_block a (inside (label_at p) 0)) (plain_block a (inside (label_at p) 1)))
    (λ q. If (label_at q) place (never place) (plain_block b (inside (label_at q) 0)) (plain_block b (inside (label_at q) 1)))
    (if_without_arms place a) (if_without_arms place b)
    (λ p q known more knows.
    if_stands (label_at p) (label_at q) place place (never place) (never place) (plain_block a (inside (label_at p) 0))
    (plain_block b (inside (label_at q) 0)) (plain_block a (inside (label_at p) 1)) (plain_block b (inside (label_at q) 1)) refl known more knows
    (inner_stands a b inner (inside (label_at p) 0) (inside (label_at q) 0) known more knows)
    (inner_stands a b inner (inside (label_at p) 1) (inside (label_at q) 1) known more knows))
    (λ p q. refl)
declares_if place a b (more_arms {arm} {made} {arms} {others} test first rest) inner =
    declares_one (stmt place (StmtKind-F.If (arm ∷ arms) a)) (stmt place (StmtKind-F.If (made ∷ others) b))
    (λ p. If (label_at p) place (out-Arm arm).test (plain_block (out-Arm arm).body (inside (label_at p) 0))
    (else_at (passed_one (label_at p)) (map plain_arm arms) (plain_block a)))
    (λ q. If (label_at q) place (out-Arm made).test (plain_block (out-Arm made).body (inside (label_at q) 0))
    (else_at (passed_one (label_at q)) (map plain_arm others) (plain_block b)))
    (λ p. plain_statements.branching place p arm arms a) (λ q. plain_statements.branching place q made others b)
    (λ p q known more knows.
    if_stands (label_at p) (label_at q) place place (out-Arm arm).test (out-Arm made).test (plain_block (out-Arm arm).body (inside (label_at p) 0))
    (plain_block (out-Arm made).body (inside (label_at q) 0)) (else_at (passed_one (label_at p)) (map plain_arm arms) (plain_block a))
    (else_at (passed_one (label_at q)) (map plain_arm others) (plain_block b)) test known more knows
    (inner_stands (out-Arm arm).body (out-Arm made).body first (inside (label_at p) 0) (inside (label_at q) 0) known more knows)
    (else_stands a b rest inner (passed_one (label_at p)) (passed_one (label_at q)) known more knows))
    (λ p q. refl)

-- ---- a `cobegin`

branches_stand : {branches others : List Branch} → BranchesBelow Declares branches others → (i n : ℕ) (l m : Label) (known more : List ℕ) →
    Knows known more → prevs_stand_in_each known (bodies_from (map plain_branch branches) i l) ≡ true →
    prevs_stand_in_each more (bodies_from (map plain_branch others) n m) ≡ true
branches_stand no_branches i n l m known more knows stands = refl
branches_stand (more_branches {branch} {made} {branches} {others} weak inner rest) i n l m known more knows stands =
    and_from (prevs_stand_in more (plain_block (out-Branch made).body (inside m n)))
    (prevs_stand_in_each more (bodies_from (map plain_branch others) (suc n) m))
    (inner_stands (out-Branch branch).body (out-Branch made).body inner (inside l i) (inside m n) known more knows
    (and_first (prevs_stand_in known (plain_block (out-Branch branch).body (inside l i)))
    (prevs_stand_in_each known (bodies_from (map plain_branch branches) (suc i) l)) stands))
    (branches_stand rest (suc i) (suc n) l m known more knows
    (and_second (prevs_stand_in known (plain_block (out-Branch branch).body (inside l i)))
    (prevs_stand_in_each known (bodies_from (map plain_branch branches) (suc i) l)) stands))

declares_cobegin : (place : Place) (branches others : List Branch) → BranchesBelow Declares branches others →
    Declares (made_stmt place (StmtKind-F.Cobegin branches) ∷ []) (made_stmt place (StmtKind-F.Cobegin others) ∷ [])
declares_cobegin place branches others each =
    declares_one (stmt place (StmtKind-F.Cobegin branches)) (stmt place (StmtKind-F.Cobegin others))
    (λ p. Cobegin (label_at p) place (bodies_from (map plain_branch branches) 0 (label_at p)))
    (λ q. Cobegin (label_at q) place (bodies_from (map plain_branch others) 0 (label_at q)))
    (λ p. plain_statements.parallel place p branches) (λ q. plain_statements.parallel place q others)
    (λ p q known more knows stands. branches_stand each 0 0 (label_at p) (label_at q) known more knows stands) (λ p q. refl)

-- ---- a `when` and loops

declares_when : (place : Place) (guard : Guard) (e : Expr) (a b : List Stmt) → Declares a b →
    Declares (made_stmt place (StmtKind-F.When guard e a) ∷ []) (made_stmt place (StmtKind-F.When guard e b) ∷ [])
declares_when place guard e a b inner =
    declares_one (stmt place (StmtKind-F.When guard e a)) (stmt place (StmtKind-F.When guard e b))
    (λ p. When (label_at p) place guard e (plain_block a (inside (label_at p) 0)))
    (λ q. When (label_at q) place guard e (plain_block b (inside (label_at q) 0)))
    (λ p. plain_statements.guarded place p guard e a) (λ q. plain_statements.guarded place q guard e b)
    (λ p q known more knows stands.
    pair_stands (prevs_in_expr e) a b inner (inside (label_at p) 0) (inside (label_at q) 0) known more knows stands) (λ p q. refl)

declares_repeat : (place : Place) (a b : List Stmt) → Declares a b →
    Declares (made_stmt place (StmtKind-F.Repeat a) ∷ []) (made_stmt place (StmtKind-F.Repeat b) ∷ [])
declares_repeat place a b inner =
    declares_one (stmt place (StmtKind-F.Repeat a)) (stmt place (StmtKind-F.Repeat b))
    (λ p. Repeat (label_at p) place (plain_block a (inside (label_at p) 0))) (λ q. Repeat (label_at q) place (plain_block b (inside (label_at q) 0)))
    (λ p. plain_statements.endless place p a) (λ q. plain_statements.endless place q b)
    (λ p q known more knows stands. inner_stands a b inner (inside (label_at p) 0) (inside (label_at q) 0) known more knows stands) (λ p q. refl)

declares_until : (place : Place) (a b : List Stmt) (e : Expr) → Declares a b →
    Declares (made_stmt place (StmtKind-F.Until a e) ∷ []) (made_stmt place (StmtKind-F.Until b e) ∷ [])
declares_until place a b e inner =
    declares_one (stmt place (StmtKind-F.Until a e)) (stmt place (StmtKind-F.Until b e))
    (λ p. Until (label_at p) place (plain_block a (inside (label_at p) 0)) e) (λ q. Until (label_at q) place (plain_block b (inside (label_at q) 0)) e)
    (λ p. plain_statements.until place p a e) (λ q. plain_statements.until place q b e)
    (λ p q known more knows stands.
    pair_stands (prevs_in_expr e) a b inner (inside (label_at p) 0) (inside (label_at q) 0) known more knows stands) (λ p q. refl)

declares_while : (place : Place) (e : Expr) (a b : List Stmt) → Declares a b →
    Declares (made_stmt place (StmtKind-F.While e a) ∷ []) (made_stmt place (StmtKind-F.While e b) ∷ [])
declares_while place e a b inner =
    declares_one (stmt place (StmtKind-F.While e a)) (stmt place (StmtKind-F.While e b))
    (λ p. While (label_at p) place e (plain_block a (inside (label_at p) 0))) (λ q. While (label_at q) place e (plain_block b (inside (label_at q) 0)))
    (λ p. plain_statements.while place p e a) (λ q. plain_statements.while place q e b)
    (λ p q known more knows stands.
    pair_stands (prevs_in_expr e) a b inner (inside (label_at p) 0) (inside (label_at q) 0) known more knows stands) (λ p q. refl)

-- ---- in the place of a loop

-- what is made of the block of a statement that declares nothing
declares_inside : (s : Stmt) (a b : List Stmt) (source : Position → Plain) → ((p : Position) → plain_stmt s p ≡ source p) →
    ((p : Position) → declared_by (source p) ≡ []) →
    ((p : Position) (known : List ℕ) → prevs_stand known (source p) ≡ true → prevs_stand_in known (plain_block a (inside (label_at p) 0)) ≡ true) →
    Declares a b → Declares (s ∷ []) b
declares_inside s a b source is none opens inner j k p q known more knows stands =
    let at = p ++ j ∷ [] in
    let holds : prevs_stand known (source at) ≡ true =
    subst (λ s. prevs_stand known s ≡ true) (is at) (and_first (prevs_stand known (plain_stmt s at)) true stands) in
    record {
      stands = (inner 0 k (inside (label_at at) 0) q known more knows (opens at known holds)).stands;
      knows = subst (λ ks. Knows (ks ++ known) (known_after more (block_of b k q))) (sym (ap declared_by (is at) ∙ none at))
          (λ x h. knows_after more (block_of b k q) x (knows x h));
    }

-- the test of a loop, around what stands in its place
made_if_is : (e : Expr) (body other : List Stmt) (q : Position) →
    plain_stmt (made_if e body other) q
    ≡ If (label_at q) (place_of_expr e) e (plain_block body (inside (label_at q) 0)) (plain_block other (inside (label_at q) 1))
made_if_is e body other q =
    plain_statements.branching (place_of_expr e) q (made_arm e body) [] other
    ∙ ap (λ arm. If (label_at q) (place_of_expr e) arm.test (plain_block arm.body (inside (label_at q) 0)) (plain_block other (inside (label_at q) 1)))
    (out-roll-Arm (record { test = e; body = body }))

declares_test : (s : Stmt) (e : Expr) (a c : List Stmt) (source : Position → Plain) → ((p : Position) → plain_stmt s p ≡ source p) →
    ((p : Position) → declared_by (source p) ≡ []) →
    ((p : Position) (known : List ℕ) → prevs_stand known (source p) ≡ true → are_known known (prevs_in_expr e) ≡ true) → Declares (s ∷ []) a →
    Declares (s ∷ []) c → Declares (s ∷ []) (made_if e a c ∷ [])
declares_test s e a c source is none asks first second j k p q known more knows stands =
    let at = p ++ j ∷ [] in
    let to = q ++ k ∷ [] in
    let known_test =
    asks at known (subst (λ s. prevs_stand known s ≡ true) (is at) (and_first (prevs_stand known (plain_stmt s at)) true stands)) in
    let made = If (label_at to) (place_of_expr e) e (plain_block a (inside (label_at to) 0)) (plain_block c (inside (label_at to) 1)) in
    let holds : prevs_stand more made ≡ true =
    and_from (are_known more (prevs_in_expr e))
    (prevs_stand_in more (plain_block a (inside (label_at to) 0)) && prevs_stand_in more (plain_block c (inside (label_at to) 1)))
    (still_known known more knows (prevs_in_expr e) known_test)
    (and_from (prevs_stand_in more (plain_block a (inside (label_at to) 0))) (prevs_stand_in more (plain_block c (inside (label_at to) 1)))
    (first j 0 p (inside (label_at to) 0) known more knows stands).stands (second j 0 p (inside (label_at to) 1) known more knows stands).stands) in
    record {
      stands = and_from (prevs_stand more (plain_stmt (made_if e a c) to)) true (subst (λ s. prevs_stand more s ≡ true) (sym (made_if_is e a c to)) holds) refl;
      knows = subst (λ ks. Knows (ks ++ known) (declared_by (plain_stmt (made_if e a c) to) ++ more)) (sym (ap declared_by (is at) ∙ none at))
          (λ x h. knows_later (declared_by (plain_stmt (made_if e a c) to)) more x (knows x h));
    }

declares_nothing : (s : Stmt) (source : Position → Plain) → ((p : Position) → plain_stmt s p ≡ source p) → ((p : Position) → declared_by (source p) ≡ []) →
    Declares (s ∷ []) []
declares_nothing s source is none j k p q known more knows stands = record {
  stands = refl;
  knows = subst (λ ks. Knows (ks ++ known) more) (sym (ap declared_by (is (p ++ j ∷ [])) ∙ none (p ++ j ∷ []))) knows;
}

-- ---- all statements

all_declare : (body : List Stmt) → Declares body (peeled body)
all_declare = inherited Declares (record {
  nothing = declares_none;
  alone = declares_alone;
  next = declares_next;
  twice = declares_twice;
  branching = λ place arms others a b in_arms in_other effect. declares_if place a b in_arms in_other;
  cobegin = λ place branches others each effect. declares_cobegin place branches others each;
  guarded = λ place guard e a b inner effect. declares_when place guard e a b inner;
  repeat = λ place a b inner effects effect. declares_repeat place a b inner;
  until = λ place a b e inner effects effect. declares_until place a b e inner;
  while = λ place e a b inner effects effect. declares_while place e a b inner;
  in_repeat = λ place a b inner.
      declares_inside (stmt place (StmtKind-F.Repeat a)) a b (λ p. Repeat (label_at p) place (plain_block a (inside (label_at p) 0)))
      (λ p. plain_statements.endless place p a) (λ p. refl) (λ p known stands. stands) inner;
  in_until = λ place a b e inner.
      declares_inside (stmt place (StmtKind-F.Until a e)) a b (λ p. Until (label_at p) place (plain_block a (inside (label_at p) 0)) e)
      (λ p. plain_statements.until place p a e) (λ p. refl)
      (λ p known stands. and_second (are_known known (prevs_in_expr e)) (prevs_stand_in known (plain_block a (inside (label_at p) 0))) stands) inner;
  in_while = λ place e a b inner.
      declares_inside (stmt place (StmtKind-F.While e a)) a b (λ p. While (label_at p) place e (plain_block a (inside (label_at p) 0)))
      (λ p. plain_statements.while place p e a) (λ p. refl)
      (λ p known stands. and_second (are_known known (prevs_in_expr e)) (prevs_stand_in known (plain_block a (inside (label_at p) 0))) stands) inner;
  until_test = λ place a b e inner test.
      declares_test (stmt place (StmtKind-F.Until a e)) e [] b (λ p. Until (label_at p) place (plain_block a (inside (label_at p) 0)) e)
      (λ p. plain_statements.until place p a e) (λ p. refl)
      (λ p known stands. and_first (are_known known (prevs_in_expr e)) (prevs_stand_in known (plain_block a (inside (label_at p) 0))) stands)
      (declares_nothing (stmt place (StmtKind-F.Until a e)) (λ p. Until (label_at p) place (plain_block a (inside (label_at p) 0)) e)
      (λ p. plain_statements.until place p a e) (λ p. refl)) inner;
  while_test = λ place e a b inner test.
      declares_test (stmt place (StmtKind-F.While e a)) e b [] (λ p. While (label_at p) place e (plain_block a (inside (label_at p) 0)))
      (λ p. plain_statements.while place p e a) (λ p. refl)
      (λ p known stands. and_first (are_known known (prevs_in_expr e)) (prevs_stand_in known (plain_block a (inside (label_at p) 0))) stands) inner
      (declares_nothing (stmt place (StmtKind-F.While e a)) (λ p. While (label_at p) place e (plain_block a (inside (label_at p) 0)))
      (λ p. plain_statements.while place p e a) (λ p. refl));
})

pub peeled_prevs_are_declared : PeeledPrevsAreDeclared
peeled_prevs_are_declared unit peeled_unit peels = by_case peels
  where
    by_case : {unit peeled_unit : UnitDef} → UnitPeels unit peeled_unit → prevs_are_declared unit ≡ true → prevs_are_declared peeled_unit ≡ true
    by_case kept declared = declared
    by_case (is_peeled {unit} activity) declared = (all_declare unit.body 0 0 [] [] [] [] (λ k h. h) declared).stands

pub peeled_is_from_text : PeeledIsFromText
peeled_is_from_text units peeled_units peel text = record {
  declared = λ peeled_unit there.
      let source : SourceOf units peeled_unit = source_of peel peeled_unit (contains_in peeled_unit peeled_units there) in
      peeled_prevs_are_declared source.unit peeled_unit source.peels (text.declared source.unit (in_contains source.unit units source.is_there));
}
