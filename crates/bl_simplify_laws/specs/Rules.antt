-- The rules by which a block may stand for another where something is known of spots.
use Rattle.std.specs.Prelude.{◌≡◌, ℕ, pos, neg_ℤ, true, false, List, [], ◌∷◌, ◌++◌, map, Option, Some, None, if◌then◌else◌}
use Rattle.bl_tree.specs.Reduce.{joined}
use Rattle.bl_tree.specs.declared.text.Text.{Text}
use Rattle.bl_tree.specs.declared.place.Place.{Place}
use Rattle.bl_tree.specs.declared.c.CCall.{CCall}
use Rattle.bl_tree.specs.declared.c.CExpr.{CExpr}
use Rattle.bl_tree.specs.declared.c.CFunc.{CFunc}
use Rattle.bl_tree.specs.declared.c.CPlace.{CPlace}
use Rattle.bl_tree.specs.declared.c.CStmt.{CStmt, roll-CStmt}
use Rattle.bl_tree.specs.declared.c.CStmtKind.{roll-CStmtKind}
use Rattle.bl_tree.specs.declared.c.CStmtKind.TheOpen.{CStmtKind-F}
use Rattle.bl_ctext_semantics.specs.Cells.{below}
use Rattle.bl_ctext_semantics.specs.Course.{goes_on}
use Rattle.bl_ctext_semantics.specs.Meaning.{Scope, block_c, runs_c}
use Rattle.bl_ctext_semantics.specs.Memory.{Memory}
use Rattle.bl_simplify_laws.specs.declared.facts.CSpot.{CSpot}
use Rattle.bl_simplify_laws.specs.declared.facts.Fact.{Fact}
use Rattle.bl_simplify_laws.specs.declared.facts.Fact.TheVariants.{AtLeast, AtMost, Is, Number}
use Rattle.bl_simplify_laws.specs.Files.{SameFunction}
use Rattle.bl_simplify_laws.specs.Frames.{Running}
use Rattle.bl_simplify_laws.specs.Known.{Holds, Valuation, all_decide, filtered, place_is, told}
use Rattle.bl_simplify_laws.specs.Observed.{SameOutcome}
use Rattle.bl_simplify_laws.specs.Splits.{BlocksAlike, branch, if_stmt}
use Rattle.bl_simplify_laws.specs.Spots.{lent_in}
use Rattle.bl_simplify_laws.specs.Steps.{after_set, without_spots, all_same, set_stmt}
use Rattle.bl_simplify_laws.specs.Tables.{has_name, owns}

-- what is known of spots at some point: one of the valuations holds, and none where no run gets there
abbrev pub Facts : Type 0
Facts = List Valuation

-- two blocks do the same where these facts hold
pub record AlikeWhere (facts : Facts) (one other : List CStmt) : Type 0 where
  pub same : (scope : Scope) → Running scope → (memory : Memory) → Holds facts scope memory → BlocksAlike scope memory one other

-- two statements do the same where these facts hold
pub record StmtsAlikeWhere (facts : Facts) (one other : CStmt) : Type 0 where
  pub same : (scope : Scope) → Running scope → (memory : Memory) → Holds facts scope memory → SameOutcome (runs_c one scope memory) (runs_c other scope memory)

-- facts hold after a statement that goes on
pub record After (facts : Facts) (stmt : CStmt) (exits : Facts) : Type 0 where
  pub hold : (scope : Scope) → Running scope → (memory : Memory) → Holds facts scope memory → (runs_c stmt scope memory).end ≡ goes_on →
      Holds exits scope (runs_c stmt scope memory).memory

-- facts hold after a block that goes on
pub record AfterBlock (facts : Facts) (block : List CStmt) (exits : Facts) : Type 0 where
  pub hold : (scope : Scope) → Running scope → (memory : Memory) → Holds facts scope memory → (block_c block scope memory).end ≡ goes_on →
      Holds exits scope (block_c block scope memory).memory

-- the second facts hold where the first do
abbrev pub Weaker : Facts → Facts → Type 0
Weaker facts weaker = (scope : Scope) (memory : Memory) → Holds facts scope memory → Holds weaker scope memory

-- ---- rules for blocks

-- no statement for none
abbrev pub RuleEmpty : Type 0
RuleEmpty = (facts : Facts) → AlikeWhere facts [] []

-- a statement that does the same, and then what does the same after it
abbrev pub RuleReplace : Type 0
RuleReplace =
    (facts exits : Facts) (one other : CStmt) (rest new : List CStmt) → StmtsAlikeWhere facts one other → After facts one exits →
    AlikeWhere exits rest new → AlikeWhere facts (one ∷ rest) (other ∷ new)

-- each statement does the same as itself
abbrev pub RuleItself : Type 0
RuleItself = (facts : Facts) (s : CStmt) → StmtsAlikeWhere facts s s

-- each block does the same as any where no run gets
abbrev pub RuleNever : Type 0
RuleNever = (one other : List CStmt) → AlikeWhere [] one other

-- the branch of a decided `if`, before what follows it
abbrev pub RuleDecided : Type 0
RuleDecided =
    (facts : Facts) (at : Place) (condition : CExpr) (block : List CStmt) (other : Option (List CStmt)) (rest new : List CStmt) →
    (all_decide facts condition true ≡ true → AlikeWhere facts (block ++ rest) new → AlikeWhere facts (if_stmt at condition block other ∷ rest) new)
    × (all_decide facts condition false ≡ true → AlikeWhere facts (branch other ++ rest) new →
    AlikeWhere facts (if_stmt at condition block other ∷ rest) new)

-- what follows an `if` in its branches, each where what is known is filtered
abbrev pub RuleSplit : Type 0
RuleSplit =
    (facts : Facts) (at to : Place) (condition : CExpr) (block : List CStmt) (other : Option (List CStmt)) (rest new others : List CStmt) →
    AlikeWhere (filtered facts condition true) (block ++ rest) new → AlikeWhere (filtered facts condition false) (branch other ++ rest) others →
    AlikeWhere facts (if_stmt at condition block other ∷ rest) (if_stmt to condition new (Some others) ∷ [])

-- an `if` with new branches
abbrev pub RuleIf : Type 0
RuleIf =
    (facts : Facts) (at to : Place) (condition : CExpr) (block new : List CStmt) (other others : Option (List CStmt)) →
    AlikeWhere (filtered facts condition true) block new → AlikeWhere (filtered facts condition false) (branch other) (branch others) →
    StmtsAlikeWhere facts (if_stmt at condition block other) (if_stmt to condition new others)

-- nothing for an `if` that surely has a condition and whose branches do the same
abbrev pub RuleEither : Type 0
RuleEither =
    (facts : Facts) (at : Place) (condition : CExpr) (block : List CStmt) (other : Option (List CStmt)) (rest new : List CStmt) →
    (told condition).total ≡ true → AlikeWhere (filtered facts condition true) (block ++ rest) new →
    AlikeWhere (filtered facts condition false) (branch other ++ rest) new → AlikeWhere facts (if_stmt at condition block other ∷ rest) new

-- nothing for an assignment that changes nothing
abbrev pub RuleSame : Type 0
RuleSame =
    (facts : Facts) (at : Place) (place : CPlace) (e : CExpr) (spot : CSpot) (rest new : List CStmt) → (place_is place).spot ≡ Some spot →
    all_same facts spot e ≡ true → AlikeWhere facts rest new → AlikeWhere facts (set_stmt at place e ∷ rest) new

-- less may be known
abbrev pub RuleWeaker : Type 0
RuleWeaker = (facts weaker : Facts) (one other : List CStmt) → Weaker facts weaker → AlikeWhere weaker one other → AlikeWhere facts one other

-- facts that part all numbers: less than 0, each below a number, and this or more
abbrev pub classes : ℕ → List Fact
classes n = AtMost (neg_ℤ (pos 1)) ∷ (map (λ k. Number (pos k)) (below n) ++ AtLeast (pos n) ∷ [])

-- each valuation with each of the facts that part the numbers of a spot
abbrev pub cut : CSpot → ℕ → Facts → Facts
cut spot n facts = joined (map (λ known. map (λ fact. (spot, fact) ∷ known) (classes n)) facts)

-- one of the facts that part the numbers of a spot holds
abbrev pub RuleCut : Type 0
RuleCut = (spot : CSpot) (n : ℕ) (facts : Facts) → Weaker facts (cut spot n facts)

-- less is known where spots are forgotten
abbrev pub RuleForgotten : Type 0
RuleForgotten = (spots : List CSpot) (facts : Facts) → Weaker facts (map (without_spots spots) facts)

-- what does the same as a block that does the same as another does so too
abbrev pub RuleChain : Type 0
RuleChain = (facts : Facts) (one middle other : List CStmt) → AlikeWhere facts one middle → AlikeWhere facts middle other → AlikeWhere facts one other

-- ---- what is known after statements

-- the call statement
abbrev pub call_stmt : Place → CCall → CStmt
call_stmt at call = roll-CStmt (record { place = at; what = roll-CStmtKind (CStmtKind-F.Call call) })

-- the `break` statement
abbrev pub break_stmt : Place → CStmt
break_stmt at = roll-CStmt (record { place = at; what = roll-CStmtKind CStmtKind-F.Break })

-- the `return` statement
abbrev pub return_stmt : Place → Option CExpr → CStmt
return_stmt at e = roll-CStmt (record { place = at; what = roll-CStmtKind (CStmtKind-F.Return e) })

-- after an assignment the number of its spot is known where that of its expression is
abbrev pub RuleSet : Type 0
RuleSet = (facts : Facts) (at : Place) (place : CPlace) (e : CExpr) → After facts (set_stmt at place e) (map (after_set place e) facts)

-- after a call nothing is known of the spots whose addresses it gets
abbrev pub RuleCall : Type 0
RuleCall = (facts : Facts) (at : Place) (call : CCall) → After facts (call_stmt at call) (map (without_spots (lent_in call)) facts)

-- after an `if` one of what is known after its branches is
abbrev pub RuleAfterIf : Type 0
RuleAfterIf =
    (facts exits others : Facts) (at : Place) (condition : CExpr) (block : List CStmt) (other : Option (List CStmt)) →
    AfterBlock (filtered facts condition true) block exits → AfterBlock (filtered facts condition false) (branch other) others →
    After facts (if_stmt at condition block other) (exits ++ others)

-- after a block the same is known as after its last statement
abbrev pub RuleAfterBlock : Type 0
RuleAfterBlock =
    ((facts : Facts) → AfterBlock facts [] facts)
    × ((facts middle exits : Facts) (s : CStmt) (rest : List CStmt) → After facts s middle → AfterBlock middle rest exits → AfterBlock facts (s ∷ rest) exits)

-- no run gets behind `break` and `return`
abbrev pub RuleStop : Type 0
RuleStop = ((facts : Facts) (at : Place) → After facts (break_stmt at) []) × ((facts : Facts) (at : Place) (e : Option CExpr) →
    After facts (return_stmt at e) [])

-- after any statement nothing may be known
abbrev pub RuleForget : Type 0
RuleForget = (facts : Facts) (s : CStmt) → After facts s ([] ∷ [])

-- less may be known after a statement, and after a block
abbrev pub RuleAfterWeaker : Type 0
RuleAfterWeaker =
    ((facts exits weaker : Facts) (s : CStmt) → Weaker exits weaker → After facts s exits → After facts s weaker)
    × ((facts exits weaker : Facts) (block : List CStmt) → Weaker exits weaker → AfterBlock facts block exits → AfterBlock facts block weaker)

-- ---- functions

-- a function with another body that does the same where nothing is known does the same
abbrev pub RuleFunction : Type 0
RuleFunction =
    (framed : List Text) (f g : CFunc) → owns framed f ≡ true → f.params ≡ g.params → AlikeWhere ([] ∷ []) f.body g.body → SameFunction framed f g

-- 0 for each of these names that is no parameter's
abbrev pub zero_names : List Text → List Text → Valuation
zero_names params [] = []
zero_names params (name ∷ names) =
    if has_name params name then zero_names params names
    else (record { through = false; name = name; first = None }, Is (pos 0)) ∷ zero_names params names

-- what is known where a function begins: its locals are 0
abbrev pub known_at_entry : CFunc → Facts
known_at_entry f = zero_names (map (λ p. p.name) f.params) (map (λ l. l.name) f.locals) ∷ []

-- a function with another body that does the same where its locals are 0 does the same
abbrev pub RuleEntry : Type 0
RuleEntry =
    (framed : List Text) (f g : CFunc) → owns framed f ≡ true → f.params ≡ g.params → AlikeWhere (known_at_entry f) f.body g.body → SameFunction framed f g
