-- Blocks that do the same wherever they stand.
use Rattle.std.proofs.Common.{◌≡◌, ℕ, ◌+◌, pos, Bool, true, false, not, List, [], ◌∷◌, ◌++◌, Option, Some, None, refl, ap, sym, subst, ◌∙◌}
use Rattle.std.specs.Prelude.{if◌then◌else◌, option_map}
use Rattle.bl_tree.specs.Numbers.{checked_one_of, is_one, number_of}
use Rattle.bl_tree.specs.declared.place.Place.{Place}
use Rattle.bl_tree.specs.declared.scalar.Scalar.TheVariants.{Bool as OfBool}
use Rattle.bl_tree.specs.declared.scalar.Op.TheVariants.{And, Not, Or}
use Rattle.bl_tree.specs.declared.c.CExpr.{CExpr, fold-roll-CExpr}
use Rattle.bl_tree.specs.declared.c.CExprKind.{fold-roll-CExprKind}
use Rattle.bl_tree.specs.declared.c.CParam.{CParam}
use Rattle.bl_tree.specs.declared.c.CStmt.{CStmt}
use Rattle.bl_ctext_semantics.specs.Course.{Outcome, ended_by, turn_limit, turn_or_none}
use Rattle.bl_ctext_semantics.specs.Meaning.{CStmtMeaning, Counted, Evaluates, Scope, at_once, block_c, executed, given, next, once_more}
use Rattle.bl_ctext_semantics.specs.Meaning.{pointers_of, two_values, value_c, with_params}
use Rattle.bl_ctext_semantics.specs.Memory.{CValue, Location, Memory, scalar, scalar_number, without_frame}
use Rattle.bl_ctext_semantics.specs.Tables.{Table, table_of}
use Rattle.bl_simplify_laws.specs.Joins.{JoinAnd, JoinAndNot, JoinBlocks, JoinBranches, JoinChain, JoinEither, JoinEnds, JoinFunction, JoinLoop, JoinNot}
use Rattle.bl_simplify_laws.specs.Joins.{JoinOr, JoinOrNot, SameBlocks, and_expr, not_expr, or_expr}
use Rattle.bl_simplify_laws.specs.Observed.{observed}
use Rattle.bl_simplify_laws.specs.Splits.{branch, if_stmt}
use Rattle.bl_simplify_laws.proofs.OnKnown.{told-holds}
use Rattle.bl_simplify_laws.proofs.OnOutcomes.{RunAlike, ended-same, loop-same}
use Rattle.bl_simplify_laws.proofs.OnRules.{by-both}
use Rattle.bl_simplify_laws.proofs.OnSplits.{alone, blocks-join, branches-decide, if-is, splits}
use Rattle.bl_simplify_laws.proofs.OnTables.{leaving, left-seen}
use Rattle.bl_simplify_laws.proofs.OnWritten.{loop-is}

-- ---- what keeps blocks doing the same

itself : (block : List CStmt) → SameBlocks block block
itself block = record { same = λ scope memory. refl }

chained : (one middle other : List CStmt) → SameBlocks one middle → SameBlocks middle other → SameBlocks one other
chained one middle other first second = record { same = λ scope memory. first.same scope memory ∙ second.same scope memory }

pub join-chain : JoinChain
join-chain = (itself, chained)

pub join-blocks : JoinBlocks
join-blocks a b c d first second = record { same = λ scope memory. blocks-join scope memory a b c d (first.same scope memory) (second.same scope) }

pub join-branches : JoinBranches
join-branches at to condition block new other others taken left = record {
  same = λ scope memory.
      alone scope (if_stmt at condition block other) memory
      ∙ branches-decide scope memory at to condition block new other others (taken.same scope memory) (left.same scope memory)
      ∙ sym (alone scope (if_stmt to condition new others) memory);
}

pub join-loop : JoinLoop
join-loop at to turn turned condition body new body_same = record {
  same = λ scope memory.
      alone scope _ memory ∙ ap observed (loop-is at turn condition body scope memory)
      ∙ loop-same turn_limit (once_more (value_c condition) scope) (once_more (value_c condition) scope) (block_c body scope) (block_c new scope)
      (λ f g like k. ended-same k (value_c condition scope k).count (value_c condition scope k).count (value_c condition scope k).answer
      (value_c condition scope k).answer (λ v. turn_or_none (is_one (scalar_number v)) k f) (λ v. turn_or_none (is_one (scalar_number v)) k g) refl
      (λ v. turn-same (is_one (scalar_number v)) k f g like))
      (body_same.same scope) memory
      ∙ sym (ap observed (loop-is to turned condition new scope memory)) ∙ sym (alone scope _ memory);
}
  where
    turn-same : (b : Bool) (m : Memory) (f g : Memory → Outcome Memory) → RunAlike f g → observed (turn_or_none b m f) ≡ observed (turn_or_none b m g)
    turn-same true m f g h = h m
    turn-same false m f g h = refl

-- ---- joined conditions

-- what is chosen by a value
abbrev chosen : Scope → Memory → CStmtMeaning → CStmtMeaning → CValue → Outcome Memory
chosen scope memory f g v = (if is_one (scalar_number v) then f else g) scope memory

module _ (scope : Scope) (memory : Memory) (left right : Evaluates CValue) (f g x y : CStmtMeaning) where
  and-by : observed (f scope memory) ≡ observed (executed memory (right scope memory) (chosen scope memory x y)) →
      observed (g scope memory) ≡ observed (y scope memory) →
      observed (executed memory (left scope memory) (chosen scope memory f g)) ≡ observed (executed memory (two_values And left right scope memory)
      (chosen scope memory x y))
  and-by inner outer = by (left scope memory).answer
    where
      at : (n : ℕ) (b : Bool) → observed ((if b then f else g) scope memory)
          ≡ observed (ended_by memory (1 + (n + ((if b then right else at_once (pos 0)) scope memory).count))
          ((if b then right else at_once (pos 0)) scope memory).answer
          (chosen scope memory x y))
      at n true =
          inner
          ∙ ended-same memory (1 + (right scope memory).count) (1 + (n + (right scope memory).count)) (right scope memory).answer (right scope memory).answer
          (chosen scope memory x y) (chosen scope memory x y) refl (λ v. refl)
      at n false = outer

      by : (o : Option CValue) → observed (ended_by memory (1 + (left scope memory).count) o (chosen scope memory f g))
          ≡ observed (executed memory
          (next (record { count = (left scope memory).count; answer = o }) (λ a. (if is_one (scalar_number a) then right else at_once (pos 0)) scope memory))
          (chosen scope memory x y))
      by None = refl
      by (Some v) = at (left scope memory).count (is_one (scalar_number v))

  or-by : observed (f scope memory) ≡ observed (x scope memory) → observed (g scope memory) ≡ observed
      (executed memory (right scope memory) (chosen scope memory x y)) →
      observed (executed memory (left scope memory) (chosen scope memory f g)) ≡ observed (executed memory (two_values Or left right scope memory)
      (chosen scope memory x y))
  or-by outer inner = by (left scope memory).answer
    where
      at : (n : ℕ) (b : Bool) → observed ((if b then f else g) scope memory)
          ≡ observed (ended_by memory (1 + (n + ((if b then at_once (pos 1) else right) scope memory).count))
          ((if b then at_once (pos 1) else right) scope memory).answer
          (chosen scope memory x y))
      at n false =
          inner
          ∙ ended-same memory (1 + (right scope memory).count) (1 + (n + (right scope memory).count)) (right scope memory).answer (right scope memory).answer
          (chosen scope memory x y) (chosen scope memory x y) refl (λ v. refl)
      at n true = outer

      by : (o : Option CValue) → observed (ended_by memory (1 + (left scope memory).count) o (chosen scope memory f g))
          ≡ observed (executed memory
          (next (record { count = (left scope memory).count; answer = o }) (λ a. (if is_one (scalar_number a) then at_once (pos 1) else right) scope memory))
          (chosen scope memory x y))
      by None = refl
      by (Some v) = at (left scope memory).count (is_one (scalar_number v))

pub and-is : (at : Place) (a b : CExpr) (scope : Scope) (m : Memory) → value_c (and_expr at a b) scope m ≡ two_values And (value_c a) (value_c b) scope m
and-is at a b scope m = rw (fold-roll-CExpr, fold-roll-CExprKind) refl

pub or-is : (at : Place) (a b : CExpr) (scope : Scope) (m : Memory) → value_c (or_expr at a b) scope m ≡ two_values Or (value_c a) (value_c b) scope m
or-is at a b scope m = rw (fold-roll-CExpr, fold-roll-CExprKind) refl

-- a value, negated
abbrev negated : Counted CValue → Counted CValue
negated c = next c (λ v. given (option_map scalar (checked_one_of Not OfBool (scalar_number v))))

pub not-is : (at : Place) (a : CExpr) (scope : Scope) (m : Memory) → value_c (not_expr at a) scope m ≡ negated (value_c a scope m)
not-is at a scope m = rw (fold-roll-CExpr, fold-roll-CExprKind) refl

pub join-and : JoinAnd
join-and at inner to and a b block other others new left right = record {
  same = λ scope memory.
      alone scope (if_stmt at a (if_stmt inner b block other ∷ []) others) memory
      ∙ ap observed (if-is at a (if_stmt inner b block other ∷ []) others scope memory)
      ∙ and-by scope memory (value_c a) (value_c b) (block_c (if_stmt inner b block other ∷ [])) (block_c (branch others)) (block_c block)
      (block_c (branch new))
      (alone scope (if_stmt inner b block other) memory ∙ ap observed (if-is inner b block other scope memory)
      ∙ ap (λ stmts. observed (executed memory (value_c b scope memory) (chosen scope memory (block_c block) (block_c stmts)))) (left ∙ right))
      (ap (λ stmts. observed (block_c stmts scope memory)) right)
      ∙ sym (ap (λ c. observed (executed memory c (chosen scope memory (block_c block) (block_c (branch new))))) (and-is and a b scope memory))
      ∙ sym (ap observed (if-is to (and_expr and a b) block new scope memory)) ∙ sym (alone scope (if_stmt to (and_expr and a b) block new) memory);
}

pub join-or : JoinOr
join-or at inner to or a b block other new same = record {
  same = λ scope memory.
      alone scope (if_stmt at a block (Some (if_stmt inner b block other ∷ []))) memory
      ∙ ap observed (if-is at a block (Some (if_stmt inner b block other ∷ [])) scope memory)
      ∙ or-by scope memory (value_c a) (value_c b) (block_c block) (block_c (if_stmt inner b block other ∷ [])) (block_c block) (block_c (branch new)) refl
      (alone scope (if_stmt inner b block other) memory ∙ ap observed (if-is inner b block other scope memory)
      ∙ ap (λ stmts. observed (executed memory (value_c b scope memory) (chosen scope memory (block_c block) (block_c stmts)))) same)
      ∙ sym (ap (λ c. observed (executed memory c (chosen scope memory (block_c block) (block_c (branch new))))) (or-is or a b scope memory))
      ∙ sym (ap observed (if-is to (or_expr or a b) block new scope memory)) ∙ sym (alone scope (if_stmt to (or_expr or a b) block new) memory);
}

-- the other is chosen by a negated truth
at-truth : (scope : Scope) (memory : Memory) (f g : CStmtMeaning) (b : Bool) → observed ((if b then f else g) scope memory)
    ≡ observed ((if is_one (number_of (not b)) then g else f) scope memory)
at-truth scope memory f g true = refl
at-truth scope memory f g false = refl

pub join-not : JoinNot
join-not at to negation a block other new same = record {
  same = λ scope memory.
      alone scope (if_stmt at a block other) memory ∙ ap observed (if-is at a block other scope memory) ∙ by scope memory
      ∙ ap (λ stmts. observed (executed memory (negated (value_c a scope memory)) (chosen scope memory (block_c (branch other)) (block_c stmts)))) (sym same)
      ∙ sym (ap (λ c. observed (executed memory c (chosen scope memory (block_c (branch other)) (block_c (branch new))))) (not-is negation a scope memory))
      ∙ sym (ap observed (if-is to (not_expr negation a) (branch other) new scope memory)) ∙ sym
      (alone scope (if_stmt to (not_expr negation a) (branch other) new) memory);
}
  where
    by : (scope : Scope) (memory : Memory) → observed (executed memory (value_c a scope memory) (chosen scope memory (block_c block) (block_c (branch other))))
        ≡ observed (executed memory (negated (value_c a scope memory)) (chosen scope memory (block_c (branch other)) (block_c block)))
    by scope memory = each (value_c a scope memory).answer
      where
        each : (o : Option CValue) → observed (ended_by memory (1 + (value_c a scope memory).count) o
            (chosen scope memory (block_c block) (block_c (branch other))))
            ≡ observed (executed memory (negated (record { count = (value_c a scope memory).count; answer = o }))
            (chosen scope memory (block_c (branch other)) (block_c block)))
        each None = refl
        each (Some v) = at-truth scope memory (block_c block) (block_c (branch other)) (is_one (scalar_number v))

pub join-and-not : JoinAndNot
join-and-not at inner to and negation a b block other others new left right =
    chained (if_stmt at a (if_stmt inner b block other ∷ []) others ∷ [])
    (if_stmt at a (if_stmt inner (not_expr negation b) (branch other) (Some block) ∷ []) others ∷ [])
    (if_stmt to (and_expr and a (not_expr negation b)) (branch other) new ∷ [])
    (join-branches at at a (if_stmt inner b block other ∷ []) (if_stmt inner (not_expr negation b) (branch other) (Some block) ∷ []) others others
    (join-not inner inner negation b block other (Some block) refl) (itself (branch others)))
    (join-and at inner to and a (not_expr negation b) (branch other) (Some block) others new (sym left) (left ∙ sym right))

pub join-or-not : JoinOrNot
join-or-not at inner to or negation a b block other more new left right =
    chained (if_stmt at a block (Some (if_stmt inner b other more ∷ [])) ∷ [])
    (if_stmt at a block (Some (if_stmt inner (not_expr negation b) block (Some other) ∷ [])) ∷ [])
    (if_stmt to (or_expr or a (not_expr negation b)) block new ∷ [])
    (join-branches at at a block block (Some (if_stmt inner b other more ∷ [])) (Some (if_stmt inner (not_expr negation b) block (Some other) ∷ []))
    (itself block)
    (subst (λ x. SameBlocks (if_stmt inner b other more ∷ []) (if_stmt inner (not_expr negation b) x (Some other) ∷ [])) left
    (join-not inner inner negation b other more (Some other) refl)))
    (join-or at inner to or a (not_expr negation b) block (Some other) new (sym right))

-- ---- ends of branches, and branches that are the same

equal : (one other : List CStmt) → one ≡ other → SameBlocks one other
equal one other is = subst (SameBlocks one) is (itself one)

pub join-ends : JoinEnds
join-ends at to condition block both other more new left right =
    chained (if_stmt at condition (block ++ both) more ∷ []) (if_stmt at condition (block ++ both) (Some (branch other ++ both)) ∷ [])
    (if_stmt to condition block new ∷ both)
    (join-branches at at condition (block ++ both) (block ++ both) more (Some (branch other ++ both)) (itself (block ++ both))
    (equal (branch more) (branch other ++ both) left))
    (chained (if_stmt at condition (block ++ both) (Some (branch other ++ both)) ∷ []) (if_stmt to condition block other ∷ both)
    (if_stmt to condition block new ∷ both)
    (record { same = λ scope memory. sym (splits scope memory to at condition block other both) })
    (join-blocks (if_stmt to condition block other ∷ []) (if_stmt to condition block new ∷ []) both both
    (join-branches to to condition block block other new (itself block) (equal (branch other) (branch new) (sym right))) (itself both)))

pub join-either : JoinEither
join-either at condition block other total same = record {
  same = λ scope memory.
      alone scope (if_stmt at condition block other) memory ∙ ap observed (if-is at condition block other scope memory)
      ∙ by-both scope memory (1 + (value_c condition scope memory).count) (value_c condition scope memory).answer (block_c block) (block_c (branch other))
      (block_c block scope memory) ((told-holds scope memory condition).0 total) (λ v is one. refl)
      (λ v is one. ap (λ stmts. observed (block_c stmts scope memory)) same);
}

-- ---- functions

pub join-function : JoinFunction
join-function framed f g params body_same = record {
  same = λ known keeps depth passed memory fine.
      let pointers : List CParam → Table Location = λ ps. table_of (pointers_of ps passed) in
      let scope : List CParam → Scope = λ ps. record { known = known; depth = depth; pointers = pointers ps } in
      let start : List CParam → Memory = λ ps. with_params depth ps passed (without_frame depth memory) in
      let o : Outcome Memory = block_c f.body (scope f.params) (start f.params) in
      let p : List CParam → Outcome Memory = λ ps. block_c g.body (scope ps) (start ps) in
      left-seen depth o.end o.memory
      ∙ ap (leaving depth) (body_same.same (scope f.params) (start f.params) ∙ ap (λ ps. observed (p ps)) params)
      ∙ sym (left-seen depth (p g.params).end (p g.params).memory);
}
