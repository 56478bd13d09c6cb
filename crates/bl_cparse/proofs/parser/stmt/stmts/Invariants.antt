use Rattle.std.proofs.Common.{◌≡◌, List, ◌∷◌, ◌++◌, codes, IsTrue, length}
use Rattle.bl_cparse_syntax.specs.declared.grammar.Part.TheVariants.{Stmts}
use Rattle.bl_cparse_syntax.specs.Grammar.{Wanted}
use Rattle.bl_cparse_syntax.specs.Expects.{Expects}
use Rattle.bl_cparse.specs.inner.Nest.{nest_tokens, spells_nest}
use Rattle.bl_cparse.specs.inner.Reading.{sign, part}
use Rattle.bl_cparse.specs.inner.Awaiting.{nest_wanted}
use Rattle.bl_cparse.proofs.parser.stmt.stmts.Given as goal

abbrev pub invariant-loop-r : goal.invariant-loop-r
invariant-loop-r l = record {
  read : (l.fn.r ≡ nest_tokens l.nest ++ l.r) × IsTrue (spells_nest l.nest);
  follows : (rest : List Wanted) → Expects (part Stmts l.fn.room ∷ sign (codes "}") ∷ rest) l.fn.r → Expects (nest_wanted l.nest ++ rest) l.r;
}

abbrev pub decreases-loop-r : goal.decreases-loop-r
decreases-loop-r l = length l.r
