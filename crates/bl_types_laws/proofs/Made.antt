-- What is made of the statements of a unit keeps their shape.
use Rattle.std.proofs.Common.{◌≡◌, ◌+◌, true, ◌&&◌, List, [], ◌∷◌, map, refl, ap, sym, ◌∙◌}
use Rattle.std.specs.Prelude.{nat_le}
use Rattle.std.specs.List.{list_all}
use Rattle.std.proofs.lemmas.Bool.{and_from}
use Rattle.bl_tree.proofs.Basics.{and_first, and_second}
use Rattle.bl_tree.specs.declared.tree.Stmt.{Stmt}
use Rattle.bl_tree.specs.Apart.{Naming, is_apart, naming_of}
use Rattle.bl_tree.specs.Depths.{Depth, depth_of, is_shallow, of_all}
use Rattle.bl_tree.specs.Reduce.{all_of}
use Rattle.bl_names_tree.specs.declared.item.NamedConstant.{NamedConstant}
use Rattle.bl_names_tree.specs.declared.item.NamedVar.{NamedVar}
use Rattle.bl_names_tree.specs.declared.stmt.NamedStmt.{NamedStmt}
use Rattle.bl_names_laws.specs.Apart as named
use Rattle.bl_names_laws.specs.Depths as nested
use Rattle.bl_types.specs.declared.environment.Environment.{Environment}
use Rattle.bl_types.specs.Statements.{walked_block}
use Rattle.bl_types_laws.proofs.Orders.{DepthMost}
use Rattle.bl_types_laws.proofs.ShapeStatements.{statements_in}
use Rattle.bl_names_laws.proofs.StmtDepth.{below_limit, one_more}

shallow_still : (ones others : Depth) → DepthMost ones others → (nat_le (1 + others.blocks) 100 && nat_le others.exprs 200) ≡ true →
    (nat_le (1 + ones.blocks) 100 && nat_le ones.exprs 200) ≡ true
shallow_still ones others most shallow =
    and_from (nat_le (1 + ones.blocks) 100) (nat_le ones.exprs 200)
    (below_limit (1 + ones.blocks) (1 + others.blocks) 100 (one_more ones.blocks others.blocks most.blocks)
    (and_first (nat_le (1 + others.blocks) 100) (nat_le others.exprs 200) shallow))
    (below_limit ones.exprs others.exprs 200 most.exprs (and_second (nat_le (1 + others.blocks) 100) (nat_le others.exprs 200) shallow))

-- the test of the library
all_apart_is : {A : Type 0} (naming : A → Naming) (xs : List A) → list_all (λ x. (naming x).apart) xs ≡ all_of (map (λ n. n.apart) (map naming xs))
all_apart_is naming [] = refl
all_apart_is naming (x ∷ xs) = ap (λ rest. (naming x).apart && rest) (all_apart_is naming xs)

module _ (constants : List NamedConstant) (vars : List NamedVar) (body : List NamedStmt) (env : Environment) where
  abbrev made : List Stmt
  made = (walked_block constants vars body env).made

  pub made_shallow : nested.is_shallow body ≡ true → is_shallow 100 (walked_block constants vars body env).made ≡ true
  made_shallow shallow = let most = statements_in constants vars body env in
      shallow_still (of_all (map depth_of made)) (of_all (map nested.depth_of body)) most.depths shallow

  pub made_apart : list_all named.is_apart body ≡ true → list_all is_apart (walked_block constants vars body env).made ≡ true
  made_apart apart =
      let most = statements_in constants vars body env in
      all_apart_is naming_of made ∙ most.namings.all.apart (sym (all_apart_is named.naming_of body) ∙ apart)
