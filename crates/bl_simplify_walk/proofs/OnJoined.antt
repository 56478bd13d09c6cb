-- An `if` whose branches have something in common, and blocks of which a part is written anew.
use Rattle.std.proofs.Common.{◌≡◌, true, Result, List, [], ◌∷◌, ◌++◌, Option, refl, ap, sym, subst, ◌∙◌}
use Rattle.std.proofs.lemmas.Result.{IfOk-weaker}
use Rattle.std.specs.Prelude.{IfOk}
use Rattle.bl_tree.specs.declared.place.Place.{Place}
use Rattle.bl_tree.specs.declared.c.CExpr.{CExpr}
use Rattle.bl_tree.specs.declared.c.CStmt.{CStmt}
use Rattle.bl_ctext_semantics.specs.Course.{End, Outcome, breaks, following, following_end, goes_on, returns, traps}
use Rattle.bl_ctext_semantics.specs.Meaning.{block_c}
use Rattle.bl_ctext_semantics.specs.Memory.{Memory}
use Rattle.bl_simplify_laws.specs.Joins.{JoinAnd, JoinBlocks, JoinBranches, JoinChain, JoinEither, JoinEnds, JoinNot, JoinOr, SameBlocks}
use Rattle.bl_simplify_laws.specs.Joins.{and_expr, not_expr, or_expr}
use Rattle.bl_simplify_laws.specs.Known.{told}
use Rattle.bl_simplify_laws.specs.Observed.{observed}
use Rattle.bl_simplify_laws.specs.Rules.{AfterBlock, AlikeWhere, Facts}
use Rattle.bl_simplify_laws.specs.Splits.{branch, if_stmt}
use Rattle.bl_simplify_laws.proofs.OnOutcomes.{following-same}
use Rattle.bl_simplify_laws.proofs.OnSplits.{block-append}
use Rattle.bl_simplify_walk.specs.declared.joins.Made.{Made}
use Rattle.bl_simplify_walk.specs.Forms.{else_of}
use Rattle.bl_simplify_walk.specs.Joined.{EndsOut, FormAnd, FormBranches, FormEmpty, FormEnds, FormItself, FormNext}
use Rattle.bl_simplify_walk.specs.Joined.{FormOr, FormPart, FormThen, FormTurned, JoinsTo, if_of, made_of}
use Rattle.bl_simplify_walk.proofs.OnForms.{branch-is}

pub form-ends : JoinChain → JoinBlocks → JoinEnds → FormEnds
form-ends chain blocks ends to test a b both after =
    blocks (if_stmt to test (a ++ both) (else_of (b ++ both)) ∷ []) (if_stmt to test a (else_of b) ∷ both) after after
    (ends to to test a both (else_of b) (else_of (b ++ both)) (else_of b) (branch-is (b ++ both) ∙ ap (λ l. l ++ both) (sym (branch-is b))) refl)
    (chain.0 after)

pub form-empty : JoinChain → JoinBlocks → JoinEither → FormEmpty
form-empty chain blocks either to test block after total same =
    chain.1 block (if_stmt to test [] (else_of []) ∷ after) after same
    (blocks (if_stmt to test [] (else_of []) ∷ []) [] after after (either to test [] (else_of []) total refl) (chain.0 after))

pub form-then : JoinChain → JoinBlocks → FormThen
form-then chain blocks to block after old new first joins =
    chain.1 block (if_of to old ∷ after) (if_of to new ∷ after) first
    (blocks (if_of to old ∷ []) (if_of to new ∷ []) after after (joins.same to) (chain.0 after))

pub form-next : JoinChain → JoinBlocks → FormNext
form-next chain blocks s rest made same = blocks (s ∷ []) (s ∷ []) rest made (chain.0 (s ∷ [])) same

pub form-branches : JoinChain → JoinBlocks → JoinBranches → FormBranches
form-branches chain blocks branches at condition block new others after made other first second third =
    chain.1 (if_stmt at condition block other ∷ after) (if_stmt at condition new (else_of others) ∷ after) made
    (blocks (if_stmt at condition block other ∷ []) (if_stmt at condition new (else_of others) ∷ []) after after
    (branches at at condition block new other (else_of others) first
    (subst (SameBlocks (branch other)) (sym (branch-is others)) second)) (chain.0 after))
    third

pub form-itself : JoinChain → FormItself
form-itself chain it = record { same = λ at. chain.0 (if_of at it ∷ []) }

pub form-turned : JoinNot → FormTurned
form-turned rule not a [] = record { same = λ at. rule at at not a [] (else_of []) (else_of []) refl }
form-turned rule not a (s ∷ other) = record { same = λ at. rule at at not a [] (else_of (s ∷ other)) (else_of []) refl }

pub form-or : JoinOr → FormOr
form-or rule inner or a b block other = record {
  same = λ at. rule at inner at or a b block other (else_of (branch other)) (sym (branch-is (branch other)));
}

pub form-and : JoinAnd → FormAnd
form-and rule inner and a b block other = record {
  same = λ at. rule at inner at and a b block other (else_of (branch other)) (else_of (branch other)) (sym (branch-is (branch other))) refl;
}

module _ (ends : FormEnds) (to : Place) (test : CExpr) (new others after block other behind : List CStmt)
    (out : EndsOut new others after block other behind) where
  -- an `if` without what its branches end with, which stands behind it
  taken : SameBlocks (if_stmt to test new (else_of others) ∷ after) (if_of to (made_of test block other) ∷ behind)
  taken =
      subst (λ x. SameBlocks (if_stmt to test x (else_of others) ∷ after) (if_of to (made_of test block other) ∷ behind)) (sym out.first)
      (subst (λ x. SameBlocks (if_stmt to test (block ++ out.both) (else_of x) ∷ after) (if_of to (made_of test block other) ∷ behind)) (sym out.second)
      (subst
      (λ x. SameBlocks (if_stmt to test (block ++ out.both) (else_of (other ++ out.both)) ∷ after) (if_of to (made_of test block other) ∷ x))
      (sym out.rest) (ends to test block other out.both after)))

  pub none-left : FormEmpty → block ≡ [] → other ≡ [] → (told test).total ≡ true → SameBlocks (if_stmt to test new (else_of others) ∷ after) behind
  none-left nothing no_block no_other total =
      nothing to test (if_stmt to test new (else_of others) ∷ after) behind total
      (subst (λ b. SameBlocks (if_stmt to test new (else_of others) ∷ after) (if_of to (made_of test b []) ∷ behind)) no_block
      (subst (λ o. SameBlocks (if_stmt to test new (else_of others) ∷ after) (if_of to (made_of test block o) ∷ behind)) no_other taken))

  pub some-left : {E : Type 0} → FormThen → (made : Made) → JoinsTo (made_of test block other) made → (r : Result (List CStmt) E) →
      IfOk r (λ x. x ≡ if_of to made ∷ behind) → IfOk r (SameBlocks (if_stmt to test new (else_of others) ∷ after))
  some-left behind-law made joins r is =
      IfOk-weaker r _ _ (λ x so. subst (SameBlocks (if_stmt to test new (else_of others) ∷ after)) (sym so)
      (behind-law to (if_stmt to test new (else_of others) ∷ after) behind (made_of test block other) made taken joins)) is

-- ---- parts that are joined, by what is known of them

module _ (it made : Made) (inner : Place) (b : CExpr) (block : List CStmt) (other : Option (List CStmt)) (first second test : CExpr) (rest : List CStmt)
    (own : first ≡ it.test) (also : second ≡ b) where
  pub by-or : FormOr → (or : Place) → it.other ≡ if_stmt inner b block other ∷ [] → block ≡ it.block → test ≡ or_expr or first second →
      rest ≡ branch other → made ≡ made_of test it.block rest → JoinsTo it made
  by-or rule or inside same tested left is =
      subst (JoinsTo it) (sym is)
      (subst (λ o. JoinsTo (made_of it.test it.block o) (made_of test it.block rest)) (sym (inside ∙ ap (λ x. if_stmt inner b x other ∷ []) same))
      (subst (λ t. JoinsTo (made_of it.test it.block (if_stmt inner b it.block other ∷ [])) (made_of t it.block rest))
      (sym (tested ∙ (λ i. or_expr or (own i) (also i))))
      (subst (λ r. JoinsTo (made_of it.test it.block (if_stmt inner b it.block other ∷ [])) (made_of (or_expr or it.test b) it.block r)) (sym left)
      (rule inner or it.test b it.block other))))

  pub by-and : FormAnd → (and : Place) → it.block ≡ if_stmt inner b block other ∷ [] → branch other ≡ it.other → test ≡ and_expr and first second →
      rest ≡ it.other → made ≡ made_of test block rest → JoinsTo it made
  by-and rule and inside same tested left is =
      subst (JoinsTo it) (sym is)
      (subst (λ x. JoinsTo (made_of it.test x it.other) (made_of test block rest)) (sym inside)
      (subst (λ t. JoinsTo (made_of it.test (if_stmt inner b block other ∷ []) it.other) (made_of t block rest))
      (sym (tested ∙ (λ i. and_expr and (own i) (also i))))
      (subst (λ r. JoinsTo (made_of it.test (if_stmt inner b block other ∷ []) it.other) (made_of (and_expr and it.test b) block r)) (sym left)
      (subst (λ x. JoinsTo (made_of it.test (if_stmt inner b block other ∷ []) x) (made_of (and_expr and it.test b) block x)) same
      (rule inner and it.test b block other)))))

pub by-turned : FormTurned → (it made : Made) (not : Place) (turned : CExpr) → it.block ≡ [] → turned ≡ not_expr not it.test →
    made ≡ made_of turned it.other it.block → JoinsTo it made
by-turned rule it made not turned none negated is =
    subst (JoinsTo it) (sym is)
    (subst (λ x. JoinsTo (made_of it.test x it.other) (made_of turned it.other x)) (sym none)
    (subst (λ t. JoinsTo (made_of it.test [] it.other) (made_of t it.other [])) (sym negated) (rule not it.test it.other)))

-- what follows an outcome is asked only where it goes on, from its memory
following-at : (o : Outcome Memory) (f g : Memory → Outcome Memory) → (o.end ≡ goes_on → observed (f o.memory) ≡ observed (g o.memory)) →
    observed (following o f) ≡ observed (following o g)
following-at o f g h = by o.end refl
  where
    by : (e : End) → o.end ≡ e → observed (following_end o.count o.memory e f) ≡ observed (following_end o.count o.memory e g)
    by goes_on is = h is
    by breaks is = refl
    by (returns r) is = refl
    by traps is = refl

pub form-part : FormPart
form-part facts exits one made rest new same after later = record {
  same = λ scope running memory holds.
      block-append scope one rest memory
      ∙ following-at (block_c one scope memory) (block_c rest scope) (block_c new scope)
      (λ goes. later.same scope running (block_c one scope memory).memory (after.hold scope running memory holds goes))
      ∙ following-same (block_c one scope memory) (block_c made scope memory) (block_c new scope) (block_c new scope)
      (same.same scope running memory holds) (λ m. refl)
      ∙ sym (block-append scope made new memory);
}

-- the same, where what was made is told
pub part-made : {E : Type 0} → FormPart → (facts exits : Facts) (whole : CStmt) (near left all first after : List CStmt) →
    AlikeWhere facts (whole ∷ near) first → AfterBlock facts (whole ∷ near) exits → AlikeWhere exits left after → all ≡ near ++ left →
    (r : Result (List CStmt) E) → IfOk r (λ new. new ≡ first ++ after) → IfOk r (λ new. AlikeWhere facts (whole ∷ all) new)
part-made rule facts exits whole near left all first after h k later is r made =
    IfOk-weaker r _ _ (λ new so. subst (λ a. AlikeWhere facts (whole ∷ a) new) (sym is) (subst (AlikeWhere facts (whole ∷ (near ++ left))) (sym so)
    (rule facts exits (whole ∷ near) first left after h k later))) made
