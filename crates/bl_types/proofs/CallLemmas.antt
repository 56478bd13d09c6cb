-- Outputs of calls, one by one.
use Rattle.std.proofs.Common.{◌≡◌, suc, List, [], ◌∷◌, length, refl, ap}
use Rattle.bl_tree.specs.declared.tree.Var.{Var}
use Rattle.bl_names_tree.specs.declared.stmt.NamedPath.{NamedPath}
use Rattle.bl_types.specs.declared.environment.Environment.{Environment}
use Rattle.bl_types.specs.Expressions.{but_first}
use Rattle.bl_types.specs.Statements.{all_lent}

-- one for each
pub all_lent-length : (env : Environment) (paths : List NamedPath) (params : List Var) → length (all_lent env paths params) ≡ length paths
all_lent-length env [] params = refl
all_lent-length env (path ∷ rest) params = ap (λ n. suc n) (all_lent-length env rest (but_first params))
