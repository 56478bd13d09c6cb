-- Tests two by two.
use Rattle.std.proofs.Common.{◌≡◌, ◌∙◌, ◌++◌, List, [], ◌∷◌, None, refl}
use Rattle.std.proofs.lemmas.List.{append_assoc}
use Rattle.bl_tree.specs.declared.c.CExpr.{CExpr}
use Rattle.bl_tree.specs.declared.scalar.Op.{Op}
use Rattle.bl_emit_acts.specs.Trees.{c_two}
use Rattle.bl_emit_blocks.specs.declared.pairs.Pairs.{Pairs}
use Rattle.bl_emit_blocks.specs.Pairs.{finished, no_pairs, paired, paired_all}
use Rattle.bl_emit_spec.specs.Blocks.{in_pairs}

-- one more test behind others
pub paired_more : (op : Op) (pairs : Pairs) (tests : List CExpr) (test : CExpr) →
    paired_all op pairs (tests ++ test ∷ []) ≡ paired op (paired_all op pairs tests) test
paired_more op pairs [] test = refl
paired_more op pairs (t ∷ rest) test = paired_more op (paired op pairs t) rest test

-- pairs from where none waits
pub pairs_from : (op : Op) (made : List CExpr) (tests : List CExpr) →
    finished (paired_all op (record { made = made; waiting = None }) tests) ≡ made ++ in_pairs op tests
pairs_from op made [] = refl
pairs_from op made (a ∷ []) = refl
pairs_from op made (a ∷ b ∷ rest) =
    pairs_from op (made ++ c_two op a b ∷ []) rest ∙ append_assoc made (c_two op a b ∷ []) (in_pairs op rest)

-- tests two by two
pub pairs_all : (op : Op) (tests : List CExpr) → finished (paired_all op no_pairs tests) ≡ in_pairs op tests
pairs_all op tests = pairs_from op [] tests
