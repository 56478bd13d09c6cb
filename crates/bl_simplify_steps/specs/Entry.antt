-- What is known where a function begins.
use Rattle.std.specs.Prelude.{◌++◌, map}
use Rattle.bl_tree.specs.declared.c.CFunc.{CFunc}
use Rattle.bl_simplify_laws.specs.Rules.{Facts, zero_names}

-- what is known where a function begins and some facts hold: these, and that its locals are 0
abbrev pub known_from : Facts → CFunc → Facts
known_from reached f = map (λ known. known ++ zero_names (map (λ p. p.name) f.params) (map (λ l. l.name) f.locals)) reached
