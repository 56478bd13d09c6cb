use Rattle.std.proofs.Common.{◌≡◌, map, rules, subst}
use Rattle.std.proofs.lemmas.Result.{IfOk-weaker}
use Rattle.bl_ctext_places.specs.Lists.{path_names, path_of}
use Rattle.bl_ctext_semantics.specs.inner.Maps.{text_at}
use Rattle.bl_simplify_live.specs.Reads.{HasAll, read_in}
use Rattle.bl_simplify_live.proofs.Lives.{aside_itself, lives_aside}
use Rattle.bl_simplify_live.proofs.dead.without_dead.Goals as goal

pub returns-then-branch : goal.returns-then-branch
returns-then-branch c =
    let read = text_at c.in_ok-read.read in
    let same : c.deref-2.result.now ≡ c.in_ok-new.new = search rules in
    let all : HasAll read (read_in c.in_ok-new.new) =
    subst (λ b. HasAll read (read_in b)) same (c.in_ok-has_all_read.ensures c.if-branch.true) in
    lives_aside read (path_names (map (λ p. path_of p.now) c.deref.result.now)) c.args.body.now c.in_ok-new.new c.in_ok-read.ensures all c.in_ok-new.ensures

pub returns : goal.returns
returns c =
    IfOk-weaker c.block.result _ _
    (λ copy is. aside_itself c.live_blocks.ensures.empty c.live_blocks.ensures.blocks c.live_stmts.ensures.itself c.args.body.now copy is)
    c.block.ensures
