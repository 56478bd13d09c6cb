use Rattle.bl_simplify_walk.proofs.OnJoined.{form-and, form-branches, form-empty, form-ends, form-itself, form-next, form-or}
use Rattle.bl_simplify_walk.proofs.OnJoined.{form-then, form-turned}
use Rattle.bl_simplify_walk.proofs.rules.join_forms.Goals as goal

pub returns : goal.returns
returns c =
    let s = c.same_blocks.ensures in
    let t = c.joined_tests.ensures in
    let b = c.joined_branches.ensures in
    record {
      ends = form-ends s.chain s.blocks b.ends;
      nothing = form-empty s.chain s.blocks b.either;
      followed = form-then s.chain s.blocks;
      next = form-next s.chain s.blocks;
      branches = form-branches s.chain s.blocks s.branches;
      chain = s.chain;
      itself = form-itself s.chain;
      turned = form-turned t.not;
      or = form-or t.or;
      and = form-and t.and;
    }
