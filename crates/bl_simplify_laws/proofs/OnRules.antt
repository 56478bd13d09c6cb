-- The rules by which a block may stand for another.
use Rattle.std.proofs.Common.{◌≡◌, ℕ, ◌+◌, ◌==◌, ◌||◌, ◌⊎◌, zero, suc, ℤ, pos, negsuc, neg_ℤ, Bool, true, false, inl, inr, List, [], ◌∷◌, ◌++◌, map, Option}
use Rattle.std.proofs.Common.{Some, None}
use Rattle.std.proofs.Common.{refl, ap, sym, subst, ◌∙◌, arith}
use Rattle.std.proofs.lemmas.Grind.{common_steps}
use Rattle.std.proofs.lemmas.Int.{ints}
use Rattle.std.specs.Prelude.{bytes_eq, int_le, if◌then◌else◌}
use Rattle.bl_tree.specs.Numbers.{is_one}
use Rattle.bl_tree.specs.declared.text.Text.{Text}
use Rattle.bl_tree.specs.declared.place.Place.{Place}
use Rattle.bl_tree.specs.declared.c.CCall.{CCall}
use Rattle.bl_tree.specs.declared.c.CExpr.{CExpr}
use Rattle.bl_tree.specs.declared.c.CFunc.{CFunc}
use Rattle.bl_tree.specs.declared.c.CParam.{CParam}
use Rattle.bl_tree.specs.declared.c.CStmt.{CStmt, fold-roll-CStmt}
use Rattle.bl_tree.specs.declared.c.CStmtKind.{fold-roll-CStmtKind}
use Rattle.bl_ctext_semantics.specs.Cells.{below}
use Rattle.bl_ctext_semantics.specs.Course.{End, Outcome, breaks, ended_by, following, following_end, goes_on, ending, going, returns, traps}
use Rattle.bl_ctext_semantics.specs.Meaning.{ArgumentValue, CStmtMeaning, Scope, block_c, by_address, by_value, call_c, call_outcome, executed}
use Rattle.bl_ctext_semantics.specs.Meaning.{pointers_of, runs_c, value_c, with_params}
use Rattle.bl_ctext_semantics.specs.Memory.{CValue, Location, Memory, Projection, scalar, scalar_number, set_at, value_at, variable, without_frame, zeros}
use Rattle.bl_ctext_semantics.specs.Tables.{Table, table_of}
use Rattle.bl_simplify_laws.specs.declared.facts.CSpot.{CSpot}
use Rattle.bl_simplify_laws.specs.declared.facts.Fact.{Fact}
use Rattle.bl_simplify_laws.specs.declared.facts.Fact.TheVariants.{AtLeast, Is, Number}
use Rattle.bl_simplify_laws.specs.Files.{SameFunction}
use Rattle.bl_simplify_laws.specs.Frames.{Running}
use Rattle.bl_simplify_laws.specs.Known.{Agrees, HasValue, Holds, Says, Valuation, fact_in, filtered}
use Rattle.bl_simplify_laws.specs.Rules.{AlikeWhere, Facts, RuleAfterBlock, RuleAfterIf, RuleAfterWeaker, RuleCall, RuleChain, RuleCut, RuleDecided}
use Rattle.bl_simplify_laws.specs.Rules.{RuleEither, RuleEmpty, RuleEntry, RuleForget, RuleForgotten, RuleFunction, RuleIf, RuleItself, RuleNever, RuleReplace}
use Rattle.bl_simplify_laws.specs.Rules.{RuleSame, RuleSet, RuleSplit, RuleStop, RuleWeaker, break_stmt, call_stmt, classes}
use Rattle.bl_simplify_laws.specs.Rules.{cut, known_at_entry, return_stmt, zero_names}
use Rattle.bl_simplify_laws.specs.Observed.{observed}
use Rattle.bl_simplify_laws.specs.Splits.{branch, if_stmt}
use Rattle.bl_simplify_laws.specs.Spots.{lent_in, same_spot, spot_location}
use Rattle.bl_simplify_laws.specs.Steps.{without_spots, set_stmt}
use Rattle.bl_simplify_laws.specs.Tables.{has_name, owns}
use Rattle.bl_simplify_laws.proofs.OnFrames.{root-lies, set-leaves}
use Rattle.bl_simplify_laws.proofs.OnKnown.{decided, filters, told-holds}
use Rattle.bl_simplify_laws.proofs.OnOutcomes.{following-same}
use Rattle.bl_simplify_laws.proofs.OnSplits.{alone, block-append, if-is, splits}
use Rattle.bl_simplify_laws.proofs.OnSpots.{depth-itself, other-variable, some-of, spot-is}
use Rattle.bl_simplify_laws.proofs.OnSteps.{call-steps, forgotten-holds, same-steps, set-steps}
use Rattle.bl_simplify_laws.proofs.OnTables.{leaving, left-seen, own-apart, point-below}

-- ---- blocks

pub rule-empty : RuleEmpty
rule-empty facts = record {
  same = λ scope running memory holds.
      refl;
}

-- what follows an outcome is asked only where it goes on, from its memory
following-at : (o : Outcome Memory) (f g : Memory → Outcome Memory) → (o.end ≡ goes_on → observed (f o.memory) ≡ observed (g o.memory)) →
    observed (following o f) ≡ observed (following o g)
following-at o f g h = by o.end refl
  where
    by : (e : End) → o.end ≡ e → observed (following_end o.count o.memory e f) ≡ observed (following_end o.count o.memory e g)
    by goes_on is = h is
    by breaks is = refl
    by (returns r) is = refl
    by traps is = refl

pub rule-replace : RuleReplace
rule-replace facts exits one other rest new same after later = record {
  same = λ scope running memory holds.
      following-at (runs_c one scope memory) (block_c rest scope) (block_c new scope)
      (λ goes. later.same scope running (runs_c one scope memory).memory (after.hold scope running memory holds goes))
      ∙ following-same (runs_c one scope memory) (runs_c other scope memory) (block_c new scope) (block_c new scope) (same.same scope running memory holds)
      (λ m. refl);
}

pub rule-itself : RuleItself
rule-itself facts s = record {
  same = λ scope running memory holds.
      refl;
}

pub rule-never : RuleNever
rule-never one other = record {
  same = λ scope running memory holds.
      absurd holds;
}

pub rule-chain : RuleChain
rule-chain facts one middle other first second = record {
  same = λ scope running memory holds.
      first.same scope running memory holds ∙ second.same scope running memory holds;
}

pub rule-weaker : RuleWeaker
rule-weaker facts weaker one other weakens same = record {
  same = λ scope running memory holds.
      same.same scope running memory (weakens scope memory holds);
}

-- an `if` that does what a block does, before what follows it
instead : (facts : Facts) (s : CStmt) (block rest new : List CStmt) →
    ((scope : Scope) → Running scope → (memory : Memory) → Holds facts scope memory → observed (runs_c s scope memory) ≡ observed
    (block_c block scope memory)) →
    AlikeWhere facts (block ++ rest) new → AlikeWhere facts (s ∷ rest) new
instead facts s block rest new does same = record {
  same = λ scope running memory holds.
      following-same (runs_c s scope memory) (block_c block scope memory) (block_c rest scope) (block_c rest scope) (does scope running memory holds)
      (λ m. refl)
      ∙ sym (block-append scope block rest memory) ∙ same.same scope running memory holds;
}

pub rule-decided : RuleDecided
rule-decided facts at condition block other rest new = (
  λ all. instead facts (if_stmt at condition block other) block rest new
      (λ scope running memory holds. (decided scope memory facts holds at condition block other).0 all),
  λ all. instead facts (if_stmt at condition block other) (branch other) rest new
      (λ scope running memory holds. (decided scope memory facts holds at condition block other).1 all),
)

pub rule-same : RuleSame
rule-same facts at place e spot rest new is all same = record {
  same = λ scope running memory holds.
      following-same (runs_c (set_stmt at place e) scope memory) (going memory) (block_c rest scope) (block_c rest scope)
      (same-steps scope memory facts holds at place e spot is all) (λ m. refl)
      ∙ same.same scope running memory holds;
}

-- ---- facts that part all numbers

-- one of some facts holds of a value
OneSays : List Fact → CValue → Type 0
OneSays [] v = ⊥
OneSays (fact ∷ facts) v = Says fact v ⊎ OneSays facts v

says-left : (facts others : List Fact) (v : CValue) → OneSays facts v → OneSays (facts ++ others) v
unfolding OneSays
says-left [] others v h = absurd h
says-left (fact ∷ facts) others v (inl h) = inl h
says-left (fact ∷ facts) others v (inr h) = inr (says-left facts others v h)

says-right : (facts others : List Fact) (v : CValue) → OneSays others v → OneSays (facts ++ others) v
unfolding OneSays
says-right [] others v h = h
says-right (fact ∷ facts) others v h = inr (says-right facts others v h)

says-mapped : (f : ℕ → Fact) (ks ls : List ℕ) (v : CValue) → OneSays (map f ks) v → OneSays (map f (ks ++ ls)) v
unfolding OneSays
says-mapped f [] ls v h = absurd h
says-mapped f (k ∷ ks) ls v (inl h) = inl h
says-mapped f (k ∷ ks) ls v (inr h) = inr (says-mapped f ks ls v h)

says-last : (f : ℕ → Fact) (ks : List ℕ) (k : ℕ) (v : CValue) → Says (f k) v → OneSays (map f (ks ++ k ∷ [])) v
unfolding OneSays
says-last f [] k v h = inl h
says-last f (j ∷ ks) k v h = inr (says-last f ks k v h)

-- a number that isn't negative is one of those below another, or at least that
numbers-part : (n k : ℕ) (v : CValue) → scalar_number v ≡ pos k → OneSays (map (λ k. Number (pos k)) (below n)) v ⊎ (int_le (pos n) (scalar_number v) ≡ true)
numbers-part zero k v h = inr (ap (int_le (pos 0)) h ∙ grind (arith, ints))
numbers-part (suc n) k v h = by (numbers-part n k v h)
  where
    here : (b : Bool) → (k == n) ≡ b → int_le (pos n) (scalar_number v) ≡ true →
        OneSays (map (λ k. Number (pos k)) (below n ++ n ∷ [])) v ⊎ (int_le (pos (suc n)) (scalar_number v) ≡ true)
    here true e least = let same : k ≡ n = grind (arith, common_steps) in inl (says-last (λ k. Number (pos k)) (below n) n v (h ∙ ap pos same))
    here false e least = let own : int_le (pos n) (pos k) ≡ true = sym (ap (int_le (pos n)) h) ∙ least in
        inr (ap (int_le (pos (suc n))) h ∙ grind (arith, ints, common_steps))

    by : OneSays (map (λ k. Number (pos k)) (below n)) v ⊎ (int_le (pos n) (scalar_number v) ≡ true) →
        OneSays (map (λ k. Number (pos k)) (below n ++ n ∷ [])) v ⊎ (int_le (pos (suc n)) (scalar_number v) ≡ true)
    by (inl says) = inl (says-mapped (λ k. Number (pos k)) (below n) (n ∷ []) v says)
    by (inr least) = here (k == n) refl least

classes-part : (n : ℕ) (v : CValue) (z : ℤ) → scalar_number v ≡ z → OneSays (classes n) v
unfolding OneSays
classes-part n v (negsuc k) h = inl (ap (λ z. int_le z (neg_ℤ (pos 1))) h ∙ grind (arith, ints))
classes-part n v (pos k) h = inr (by (numbers-part n k v h))
  where
    by : OneSays (map (λ k. Number (pos k)) (below n)) v ⊎ (int_le (pos n) (scalar_number v) ≡ true) →
        OneSays (map (λ k. Number (pos k)) (below n) ++ AtLeast (pos n) ∷ []) v
    by (inl says) = says-left (map (λ k. Number (pos k)) (below n)) (AtLeast (pos n) ∷ []) v says
    by (inr least) = says-right (map (λ k. Number (pos k)) (below n)) (AtLeast (pos n) ∷ []) v (inl least)

-- a valuation with one more fact that holds
more-agrees : (spot : CSpot) (fact : Fact) (known : Valuation) (scope : Scope) (memory : Memory) → Agrees known scope memory →
    Says fact (value_at memory (spot_location scope spot)) → Agrees ((spot, fact) ∷ known) scope memory
more-agrees spot fact known scope memory agrees says asked own is = by (same_spot spot asked) refl is
  where
    by : (b : Bool) → same_spot spot asked ≡ b → (if b then Some fact else fact_in asked known) ≡ Some own →
        Says own (value_at memory (spot_location scope asked))
    by true e is =
        subst (λ s. Says own (value_at memory (spot_location scope s))) (spot-is spot asked e)
        (subst (λ f. Says f (value_at memory (spot_location scope spot))) (some-of fact own is) says)
    by false e is = agrees asked own is

cut-holds : (spot : CSpot) (known : Valuation) (scope : Scope) (memory : Memory) → Agrees known scope memory → (facts : List Fact) →
    OneSays facts (value_at memory (spot_location scope spot)) → Holds (map (λ fact. (spot, fact) ∷ known) facts) scope memory
unfolding OneSays
cut-holds spot known scope memory agrees [] h = absurd h
cut-holds spot known scope memory agrees (fact ∷ facts) (inl says) = inl (more-agrees spot fact known scope memory agrees says)
cut-holds spot known scope memory agrees (fact ∷ facts) (inr h) = inr (cut-holds spot known scope memory agrees facts h)

-- ---- branches

-- what is chosen by a value does the same where it does by each truth that the value may have
by-truth : (scope : Scope) (memory : Memory) (n k : ℕ) (o : Option CValue) (f g h i : CStmtMeaning) →
    ((v : CValue) → o ≡ Some v → is_one (scalar_number v) ≡ true → observed (f scope memory) ≡ observed (g scope memory)) →
    ((v : CValue) → o ≡ Some v → is_one (scalar_number v) ≡ false → observed (h scope memory) ≡ observed (i scope memory)) →
    observed (ended_by memory n o (λ v. (if is_one (scalar_number v) then f else h) scope memory))
    ≡ observed (ended_by memory k o (λ v. (if is_one (scalar_number v) then g else i) scope memory))
by-truth scope memory n k None f g h i taken left = refl
by-truth scope memory n k (Some v) f g h i taken left = by (is_one (scalar_number v)) refl
  where
    by : (b : Bool) → is_one (scalar_number v) ≡ b → observed ((if b then f else h) scope memory) ≡ observed ((if b then g else i) scope memory)
    by true e = taken v refl e
    by false e = left v refl e

pub rule-if : RuleIf
rule-if facts at to condition block new other others taken left = record {
  same = λ scope running memory holds.
      ap observed (if-is at condition block other scope memory)
      ∙ by-truth scope memory (1 + (value_c condition scope memory).count) (1 + (value_c condition scope memory).count) (value_c condition scope memory).answer
      (block_c block) (block_c new) (block_c (branch other)) (block_c (branch others))
      (λ v is one. taken.same scope running memory (subst (λ b. Holds (filtered facts condition b) scope memory) one
      (filters scope memory facts holds condition v is)))
      (λ v is one. left.same scope running memory (subst (λ b. Holds (filtered facts condition b) scope memory) one
      (filters scope memory facts holds condition v is)))
      ∙ sym (ap observed (if-is to condition new others scope memory));
}

pub rule-split : RuleSplit
rule-split facts at to condition block other rest new others taken left = record {
  same = λ scope running memory holds.
      splits scope memory at to condition block other rest
      ∙ alone scope (if_stmt to condition (block ++ rest) (Some (branch other ++ rest))) memory
      ∙ (rule-if facts to to condition (block ++ rest) new (Some (branch other ++ rest)) (Some others) taken left).same scope running memory holds
      ∙ sym (alone scope (if_stmt to condition new (Some others)) memory);
}

-- what is chosen by a value does the same as what both choices do
pub by-both : (scope : Scope) (memory : Memory) (n : ℕ) (o : Option CValue) (f g : CStmtMeaning) (p : Outcome Memory) → HasValue o →
    ((v : CValue) → o ≡ Some v → is_one (scalar_number v) ≡ true → observed (f scope memory) ≡ observed p) →
    ((v : CValue) → o ≡ Some v → is_one (scalar_number v) ≡ false → observed (g scope memory) ≡ observed p) →
    observed (ended_by memory n o (λ v. (if is_one (scalar_number v) then f else g) scope memory)) ≡ observed p
by-both scope memory n None f g p has taken left = absurd has
by-both scope memory n (Some v) f g p has taken left = by (is_one (scalar_number v)) refl
  where
    by : (b : Bool) → is_one (scalar_number v) ≡ b → observed ((if b then f else g) scope memory) ≡ observed p
    by true e = taken v refl e
    by false e = left v refl e

pub rule-either : RuleEither
rule-either facts at condition block other rest new total taken left = record {
  same = λ scope running memory holds.
      splits scope memory at at condition block other rest
      ∙ alone scope (if_stmt at condition (block ++ rest) (Some (branch other ++ rest))) memory
      ∙ ap observed (if-is at condition (block ++ rest) (Some (branch other ++ rest)) scope memory)
      ∙ by-both scope memory (1 + (value_c condition scope memory).count) (value_c condition scope memory).answer (block_c (block ++ rest))
      (block_c (branch other ++ rest)) (block_c new scope memory) ((told-holds scope memory condition).0 total)
      (λ v is one. taken.same scope running memory (subst (λ b. Holds (filtered facts condition b) scope memory) one
      (filters scope memory facts holds condition v is)))
      (λ v is one. left.same scope running memory (subst (λ b. Holds (filtered facts condition b) scope memory) one
      (filters scope memory facts holds condition v is)));
}

-- ---- what is known after statements

pub rule-set : RuleSet
rule-set facts at place e = record {
  hold = λ scope running memory holds goes.
      set-steps scope running memory facts holds at place e goes;
}

call-is : (at : Place) (call : CCall) (scope : Scope) (memory : Memory) → runs_c (call_stmt at call) scope memory ≡ call_outcome (call_c call scope memory)
call-is at call scope memory = rw (fold-roll-CStmt, fold-roll-CStmtKind) refl

pub rule-call : RuleCall
rule-call facts at call = record {
  hold = λ scope running memory holds goes.
      subst (Holds (map (without_spots (lent_in call)) facts) scope) (sym (ap (λ o. o.memory) (call-is at call scope memory)))
      (call-steps scope running memory facts holds call);
}

holds-left : (one other : Facts) (scope : Scope) (memory : Memory) → Holds one scope memory → Holds (one ++ other) scope memory
holds-left [] other scope memory h = absurd h
holds-left (known ∷ one) other scope memory (inl agrees) = inl agrees
holds-left (known ∷ one) other scope memory (inr h) = inr (holds-left one other scope memory h)

holds-right : (one other : Facts) (scope : Scope) (memory : Memory) → Holds other scope memory → Holds (one ++ other) scope memory
holds-right [] other scope memory h = h
holds-right (known ∷ one) other scope memory h = inr (holds-right one other scope memory h)

pub rule-cut : RuleCut
rule-cut spot n [] scope memory h = absurd h
rule-cut spot n (known ∷ rest) scope memory (inl agrees) =
    holds-left (map (λ fact. (spot, fact) ∷ known) (classes n)) (cut spot n rest) scope memory
    (cut-holds spot known scope memory agrees (classes n) (classes-part n (value_at memory (spot_location scope spot)) _ refl))
rule-cut spot n (known ∷ rest) scope memory (inr h) =
    holds-right (map (λ fact. (spot, fact) ∷ known) (classes n)) (cut spot n rest) scope memory (rule-cut spot n rest scope memory h)

pub rule-forgotten : RuleForgotten
rule-forgotten = forgotten-holds

-- what holds of what was chosen and goes on holds after it
after-truth : (scope : Scope) (memory : Memory) (exits : Facts) (n : ℕ) (o : Option CValue) (f g : CStmtMeaning) →
    ((v : CValue) → o ≡ Some v → is_one (scalar_number v) ≡ true → (f scope memory).end ≡ goes_on → Holds exits scope (f scope memory).memory) →
    ((v : CValue) → o ≡ Some v → is_one (scalar_number v) ≡ false → (g scope memory).end ≡ goes_on → Holds exits scope (g scope memory).memory) →
    (ended_by memory n o (λ v. (if is_one (scalar_number v) then f else g) scope memory)).end ≡ goes_on →
    Holds exits scope (ended_by memory n o (λ v. (if is_one (scalar_number v) then f else g) scope memory)).memory
after-truth scope memory exits n None f g taken left goes = cc
after-truth scope memory exits n (Some v) f g taken left goes = by (is_one (scalar_number v)) refl goes
  where
    by : (b : Bool) → is_one (scalar_number v) ≡ b → ((if b then f else g) scope memory).end ≡ goes_on →
        Holds exits scope ((if b then f else g) scope memory).memory
    by true e goes = taken v refl e goes
    by false e goes = left v refl e goes

pub rule-after-if : RuleAfterIf
rule-after-if facts exits others at condition block other taken left = record {
  hold = λ scope running memory holds goes.
      let is = if-is at condition block other scope memory in
      subst (Holds (exits ++ others) scope) (sym (ap (λ o. o.memory) is))
      (after-truth scope memory (exits ++ others) (1 + (value_c condition scope memory).count) (value_c condition scope memory).answer (block_c block)
      (block_c (branch other))
      (λ v found one go. holds-left exits others scope (block_c block scope memory).memory
      (taken.hold scope running memory (subst (λ b. Holds (filtered facts condition b) scope memory) one (filters scope memory facts holds condition v found))
      go))
      (λ v found one go. holds-right exits others scope (block_c (branch other) scope memory).memory
      (left.hold scope running memory (subst (λ b. Holds (filtered facts condition b) scope memory) one (filters scope memory facts holds condition v found))
      go))
      (sym (ap (λ o. o.end) is) ∙ goes));
}

after-following : (o : Outcome Memory) (f : Memory → Outcome Memory) (P : Memory → Type 0) →
    (o.end ≡ goes_on → (f o.memory).end ≡ goes_on → P (f o.memory).memory) → (following o f).end ≡ goes_on → P (following o f).memory
after-following o f P h goes = by o.end refl goes
  where
    by : (e : End) → o.end ≡ e → (following_end o.count o.memory e f).end ≡ goes_on → P (following_end o.count o.memory e f).memory
    by goes_on is goes = h is goes
    by breaks is goes = cc
    by (returns r) is goes = cc
    by traps is goes = cc

pub rule-after-block : RuleAfterBlock
rule-after-block = (
  λ facts. record { hold = λ scope running memory holds goes. holds },
  λ facts middle exits s rest first later. record {
    hold = λ scope running memory holds goes.
        after-following (runs_c s scope memory) (block_c rest scope) (Holds exits scope)
        (λ one go. later.hold scope running (runs_c s scope memory).memory (first.hold scope running memory holds one) go) goes;
  },
)

pub rule-stop : RuleStop
rule-stop = (
  λ facts at. record { hold = λ scope running memory holds goes. absurd (broken at scope memory goes) },
  λ facts at e. record {
    hold = λ scope running memory holds goes.
        absurd (gone at e scope memory goes);
  },
)
  where
    broken : (at : Place) (scope : Scope) (memory : Memory) → (runs_c (break_stmt at) scope memory).end ≡ goes_on → ⊥
    broken at scope memory goes = let no : breaks ≡ goes_on = rw (fold-roll-CStmt, fold-roll-CStmtKind) at goes in cc

    ends : (memory : Memory) (n : ℕ) (o : Option CValue) → (ended_by memory n o (λ v. ending (returns (scalar_number v)) memory)).end ≡ goes_on → ⊥
    ends memory n None h = cc
    ends memory n (Some v) h = cc

    gone : (at : Place) (e : Option CExpr) (scope : Scope) (memory : Memory) → (runs_c (return_stmt at e) scope memory).end ≡ goes_on → ⊥
    gone at None scope memory goes = let no : returns (pos 0) ≡ goes_on = rw (fold-roll-CStmt, fold-roll-CStmtKind) at goes in cc
    gone at (Some e) scope memory goes =
        let own : (executed memory (value_c e scope memory) (λ v. ending (returns (scalar_number v)) memory)).end ≡ goes_on =
        rw (fold-roll-CStmt, fold-roll-CStmtKind) at goes in
        ends memory (1 + (value_c e scope memory).count) (value_c e scope memory).answer own

pub rule-forget : RuleForget
rule-forget facts s = record {
  hold = λ scope running memory holds goes.
      inl (λ spot n is. cc);
}

pub rule-after-weaker : RuleAfterWeaker
rule-after-weaker = (
  λ facts exits weaker s weakens after. record {
    hold = λ scope running memory holds goes.
        weakens scope (runs_c s scope memory).memory (after.hold scope running memory holds goes);
  },
  λ facts exits weaker block weakens after. record {
    hold = λ scope running memory holds goes.
        weakens scope (block_c block scope memory).memory (after.hold scope running memory holds goes);
  },
)

-- ---- functions

-- what holds where the function begins holds of both bodies, and the function does the same
from-start : (framed : List Text) (f g : CFunc) (facts : Facts) → owns framed f ≡ true → f.params ≡ g.params → AlikeWhere facts f.body g.body →
    ((scope : Scope) (passed : List ArgumentValue) (memory : Memory) → Holds facts scope (with_params scope.depth f.params passed
    (without_frame scope.depth memory))) →
    SameFunction framed f g
from-start framed f g facts owned params same begins = record {
  same = λ known keeps depth passed memory fine.
      let pointers : List CParam → Table Location = λ ps. table_of (pointers_of ps passed) in
      let scope : List CParam → Scope = λ ps. record { known = known; depth = depth; pointers = pointers ps } in
      let start : List CParam → Memory = λ ps. with_params depth ps passed (without_frame depth memory) in
      let o : Outcome Memory = block_c f.body (scope f.params) (start f.params) in
      let p : List CParam → Outcome Memory = λ ps. block_c g.body (scope ps) (start ps) in
      left-seen depth o.end o.memory
      ∙ ap (leaving depth)
      (same.same (scope f.params)
      (record {
        keeps = keeps;
        below = point-below depth f.params passed fine.below;
        apart = own-apart framed f.name depth f.params passed owned fine;
      })
      (start f.params) (begins (scope f.params) passed memory)
      ∙ ap (λ ps. observed (p ps)) params)
      ∙ sym (left-seen depth (p g.params).end (p g.params).memory);
}

pub rule-function : RuleFunction
rule-function framed f g owned params same = from-start framed f g ([] ∷ []) owned params same (λ scope passed memory. inl (λ spot n is. cc))

-- ---- what is known at entry

or-left : (a b : Bool) → (a || b) ≡ false → a ≡ false
or-left true b h = cc
or-left false b h = refl

or-right : (a b : Bool) → (a || b) ≡ false → b ≡ false
or-right true b h = cc
or-right false b h = h

-- a variable that is no parameter has what it had before the parameters
others-begin : (depth : ℕ) (params : List CParam) (passed : List ArgumentValue) (memory : Memory) (name : Text) (way : List Projection) →
    has_name (map (λ (p : CParam). p.name) params) name ≡ false →
    with_params depth params passed memory (variable depth name) way ≡ memory (variable depth name) way
others-begin depth [] [] memory name way h = refl
others-begin depth [] (a ∷ rest) memory name way h = refl
others-begin depth (p ∷ params) [] memory name way h = refl
others-begin depth (p ∷ params) (by_value v ∷ rest) memory name way h =
    others-begin depth params rest (set_at memory (record { root = variable depth p.name; parts = [] }) v) name way
    (or-right (bytes_eq p.name name) (has_name (map (λ (p : CParam). p.name) params) name) h)
    ∙ set-leaves memory (record { root = variable depth p.name; parts = [] }) v (variable depth name) way
    (root-lies (record { root = variable depth p.name; parts = [] }) (variable depth name) way
    (other-variable depth p.name name (or-left (bytes_eq p.name name) (has_name (map (λ (p : CParam). p.name) params) name) h)))
others-begin depth (p ∷ params) (by_address l ∷ rest) memory name way h =
    others-begin depth params rest memory name way (or-right (bytes_eq p.name name) (has_name (map (λ (p : CParam). p.name) params) name) h)

zero-at : (way : List Projection) → zeros way ≡ scalar (pos 0) way
zero-at [] = refl
zero-at (p ∷ ps) = refl

frame-zero : (depth : ℕ) (memory : Memory) (name : Text) (way : List Projection) → without_frame depth memory (variable depth name) way ≡ scalar (pos 0) way
frame-zero depth memory name way =
    ap (λ (b : Bool). (if b then zeros else memory (variable depth name)) way) (depth-itself depth) ∙ zero-at way

-- a spot that is known to be 0 is a local that is no parameter
zero-known : (params names : List Text) (spot : CSpot) (n : Fact) → fact_in spot (zero_names params names) ≡ Some n →
    (has_name params spot.name ≡ false) × ((spot ≡ record { through = false; name = spot.name; first = None }) × (Is (pos 0) ≡ n))
zero-known params [] spot n h = cc
zero-known params (m ∷ names) spot n h = by (has_name params m) refl (zero-known params names spot n) h
  where
    here : has_name params m ≡ false → (b : Bool) → same_spot (record { through = false; name = m; first = None }) spot ≡ b →
        (fact_in spot (zero_names params names) ≡ Some n →
        (has_name params spot.name ≡ false) × ((spot ≡ record { through = false; name = spot.name; first = None }) × (Is (pos 0) ≡ n))) →
        (if b then Some (Is (pos 0)) else fact_in spot (zero_names params names)) ≡ Some n →
        (has_name params spot.name ≡ false) × ((spot ≡ record { through = false; name = spot.name; first = None }) × (Is (pos 0) ≡ n))
    here fresh true e later h =
        let same : record { through = false; name = m; first = None } ≡ spot = spot-is (record { through = false; name = m; first = None }) spot e in (
          ap (λ (s : CSpot). has_name params s.name) (sym same) ∙ fresh,
          (subst (λ (s : CSpot). s ≡ record { through = false; name = s.name; first = None }) same refl, some-of (Is (pos 0)) n h),
        )
    here fresh false e later h = later h

    by : (b : Bool) → has_name params m ≡ b →
        (fact_in spot (zero_names params names) ≡ Some n →
        (has_name params spot.name ≡ false) × ((spot ≡ record { through = false; name = spot.name; first = None }) × (Is (pos 0) ≡ n))) →
        fact_in spot (if b then zero_names params names else (record { through = false; name = m; first = None }, Is (pos 0)) ∷ zero_names params names) ≡
        Some n →
        (has_name params spot.name ≡ false) × ((spot ≡ record { through = false; name = spot.name; first = None }) × (Is (pos 0) ≡ n))
    by true e later h = later h
    by false e later h = here e (same_spot (record { through = false; name = m; first = None }) spot) refl later h

pub rule-entry : RuleEntry
rule-entry framed f g owned params same =
    from-start framed f g (known_at_entry f) owned params same
    (λ scope passed memory. inl (λ spot n is.
    let own = zero-known (map (λ (p : CParam). p.name) f.params) (map (λ l. l.name) f.locals) spot n is in
    let start : Memory = with_params scope.depth f.params passed (without_frame scope.depth memory) in
    subst (λ f. Says f (value_at start (spot_location scope spot))) own.1.1
    (ap (λ s. value_at start (spot_location scope s)) own.1.0
    ∙ (λ i way. (others-begin scope.depth f.params passed (without_frame scope.depth memory) spot.name way own.0
    ∙ frame-zero scope.depth memory spot.name way) i))))
