-- Tests two by two, one after another.
use Rattle.std.specs.Prelude.{List, [], ◌∷◌, ◌++◌, Option, Some, None, option_to_list}
use Rattle.bl_tree.specs.declared.c.CExpr.{CExpr}
use Rattle.bl_tree.specs.declared.scalar.Op.{Op}
use Rattle.bl_emit_acts.specs.Trees.{c_two}
use Rattle.bl_emit_blocks.specs.declared.pairs.Pairs.{Pairs}

-- no pairs, and no waiting test
abbrev pub no_pairs : Pairs
no_pairs = record { made = []; waiting = None }

-- the pairs after one more test, which completes the waiting test to a pair or waits itself
abbrev pub paired_with : Op → List CExpr → Option CExpr → CExpr → Pairs
paired_with op made None test = record { made = made; waiting = Some test }
paired_with op made (Some first) test = record { made = made ++ c_two op first test ∷ []; waiting = None }

-- the pairs after one more test, by a record of pairs
abbrev pub paired : Op → Pairs → CExpr → Pairs
paired op pairs test = paired_with op pairs.made pairs.waiting test

-- more tests
abbrev pub paired_all : Op → Pairs → List CExpr → Pairs
paired_all op pairs [] = pairs
paired_all op pairs (test ∷ rest) = paired_all op (paired op pairs test) rest

-- all pairs, with the waiting test
abbrev pub finished : Pairs → List CExpr
finished pairs = pairs.made ++ option_to_list pairs.waiting

-- the first test; another one where there is none
abbrev pub first : CExpr → List CExpr → CExpr
first none [] = none
first none (test ∷ rest) = test
