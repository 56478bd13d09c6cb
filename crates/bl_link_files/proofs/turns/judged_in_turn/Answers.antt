-- The texts before one are good files, and so it goes on.
use Rattle.std.proofs.Common.{◌≡◌, ◌∙◌, ◌++◌, ◌∷◌, [], ap, arith, subst}
use Rattle.bl_link.specs.Files.{SeenFiles}
use Rattle.bl_link_files.proofs.Judging.{judged_all, judged_count, judged_next, next_stops}
use Rattle.bl_link_files.specs.inner.Judged.{NextTextStops}
use Rattle.bl_link_files.proofs.turns.judged_in_turn.Goals as goal

pub loop-k-init : goal.loop-k-init
loop-k-init c = record {
  count = ap (λ (files : SeenFiles). files.count) c.new-judged.ensures;
  texts = ap (λ (files : SeenFiles). files.texts) c.new-judged.ensures;
}

pub with_text-requires-clause-room : goal.with_text-requires-clause-room
with_text-requires-clause-room c =
    let many = judged_count c.args.texts.now c.loop-k.k c.index-texts-k.result c.loop-k-test.true c.index-texts-k.is c.loop-k.judged.texts
    c.loop-k.invariant.texts in
    let same = c.loop-k.invariant.count in
    omega (arith, many, same, c.loop-k-test.true, c.requires.within)

pub with_text-requires-clause-number : goal.with_text-requires-clause-number
with_text-requires-clause-number c =
    let many = judged_count c.args.texts.now c.loop-k.k c.index-texts-k.result c.loop-k-test.true c.index-texts-k.is c.loop-k.judged.texts
    c.loop-k.invariant.texts in
    omega (arith, many)

pub returns-in-Err-clause-fault : goal.returns-in-Err-clause-fault
returns-in-Err-clause-fault c =
    next_stops c.args.texts.now c.loop-k.k c.index-texts-k.result c.loop-k-test.true c.index-texts-k.is c.loop-k.judged.texts c.loop-k.invariant.texts
    c.args.count c.loop-k.judged.count c.in-Err.fault c.loop-k.invariant.count
    (subst (λ text. NextTextStops c.loop-k.judged.count c.loop-k.judged.texts text c.in-Err.fault) c.deref.ensures c.in-Err.ensures.fault)

pub loop-k-preserved : goal.loop-k-preserved
loop-k-preserved c = record {
  count = c.in-Ok.ensures.count ∙ c.loop-k.invariant.count;
  texts = subst (λ text. c.in-Ok.more.texts ≡ c.loop-k.judged.texts ++ text ∷ []) c.deref.ensures c.in-Ok.ensures.texts
      ∙ judged_next c.args.texts.now c.loop-k.k c.index-texts-k.result c.loop-k-test.true c.index-texts-k.is c.loop-k.judged.texts
      c.loop-k.invariant.texts;
}

pub returns-clause-texts : goal.returns-clause-texts
returns-clause-texts c = judged_all c.args.texts.now c.loop-k.judged.texts c.loop-k.k (omega arith) c.loop-k.invariant.texts
