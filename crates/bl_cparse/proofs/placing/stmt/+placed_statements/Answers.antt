use Rattle.std.proofs.Common.{◌≡◌, ◌<◌, [], map, length, length-set, arith, sym, ap, ◌∙◌}
use Rattle.std.proofs.lemmas.List.{get_or-set_other}
use Rattle.bl_ctext.specs.Spelling.{expr_tokens, stmt_tokens}
use Rattle.bl_ctext.specs.Spellable.{spells_expr, spells_stmt}
use Rattle.bl_cparse.specs.HasPlaces.{stmt_walk}
use Rattle.bl_cparse.proofs.BranchLemmas.{branches_spells, branches_tokens, branches_walk}
use Rattle.bl_cparse.proofs.LoopLemmas.{turns_walk}
use Rattle.bl_cparse.proofs.WalkLemmas.{mapped_set, turn_set}
use Rattle.bl_cparse.proofs.placing.stmt.+placed_statements.Goals as goal

pub stmts-loop-k-preserved : goal.stmts-loop-k-preserved
stmts-loop-k-preserved t c =
    let within : c.loop-k.k < length c.loop-k.stmts = omega (arith, c.loop-k-test.true, c.len-k-end.ensures, c.loop-k.invariant.many) in
    record {
      places = turn_set stmt_walk c.loop-k.stmts c.loop-k.k c.stmt.new.stmt _ _ _ within c.loop-k.invariant.places c.stmt.ensures.places;
      tokens = mapped_set stmt_tokens c.loop-k.stmts c.loop-k.k c.stmt.new.stmt c.get_mut.result.now c.get_mut.ensures.value
          c.stmt.ensures.tokens ∙ c.loop-k.invariant.tokens;
      spells = mapped_set spells_stmt c.loop-k.stmts c.loop-k.k c.stmt.new.stmt c.get_mut.result.now c.get_mut.ensures.value
          c.stmt.ensures.spells ∙ c.loop-k.invariant.spells;
      many = length-set c.loop-k.stmts c.loop-k.k c.stmt.new.stmt ∙ c.loop-k.invariant.many;
      rest = λ n d h. get_or-set_other c.loop-k.stmts c.loop-k.k n c.stmt.new.stmt d (λ (e : n ≡ c.loop-k.k). omega (arith, e, h))
          ∙ c.loop-k.invariant.rest n d (omega (arith, h));
    }

pub kind-returns-in-Some-clause-places : goal.kind-returns-in-Some-clause-places
kind-returns-in-Some-clause-places t c =
    branches_walk c.condition.new.test c.inside.new.body c.inside-in-Some.new.body c.args.spot.now _ _ _ _ _ c.condition.ensures.places c.inside.ensures.places
    c.pass.ensures c.pass-in-Some.ensures c.inside-in-Some.ensures.places

pub kind-returns-in-Some-clause-tokens : goal.kind-returns-in-Some-clause-tokens
kind-returns-in-Some-clause-tokens t c =
    branches_tokens c.in-If.test c.condition.new.test c.in-If.then_part c.inside.new.body c.in-Some.other c.inside-in-Some.new.body
    c.in-If.else_part c.args.what.now c.in-If.is (sym c.in-If.else_part-is ∙ c.in-Some.is)
    (c.condition.ensures.tokens ∙ ap expr_tokens (c.deref_mut.ensures.value ∙ c.in-If.test-is))
    (c.inside.ensures.tokens ∙ ap (map stmt_tokens) c.in-If.then_part-is)
    (c.inside-in-Some.ensures.tokens ∙ ap (map stmt_tokens) c.in-Some.other-is)

pub kind-returns-in-Some-clause-spells : goal.kind-returns-in-Some-clause-spells
kind-returns-in-Some-clause-spells t c =
    branches_spells c.in-If.test c.condition.new.test c.in-If.then_part c.inside.new.body c.in-Some.other c.inside-in-Some.new.body
    c.in-If.else_part c.args.what.now c.in-If.is (sym c.in-If.else_part-is ∙ c.in-Some.is)
    (c.condition.ensures.spells ∙ ap spells_expr (c.deref_mut.ensures.value ∙ c.in-If.test-is))
    (c.inside.ensures.spells ∙ ap (map spells_stmt) c.in-If.then_part-is)
    (c.inside-in-Some.ensures.spells ∙ ap (map spells_stmt) c.in-Some.other-is)

pub kind-returns-in-Loop-clause-places : goal.kind-returns-in-Loop-clause-places
kind-returns-in-Loop-clause-places t c =
    turns_walk _ c.counted.new.test c.inside-in-Loop.new.body c.args.spot.now _ _ _
    (c.counted.ensures.places []) c.inside-in-Loop.ensures.places c.pass-in-Loop.ensures
