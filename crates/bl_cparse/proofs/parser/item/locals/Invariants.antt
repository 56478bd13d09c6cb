use Rattle.std.proofs.Common.{◌≡◌, ℕ, List, ◌∷◌, ◌++◌, IsTrue, length, map}
use Rattle.bl_tree.specs.Reduce.{all_of, joined}
use Rattle.bl_ctext.specs.Spelling.{local_tokens}
use Rattle.bl_ctext.specs.Spellable.{spells_local}
use Rattle.bl_cparse_syntax.specs.declared.grammar.Part.TheVariants.{Locals}
use Rattle.bl_cparse_syntax.specs.Grammar.{Wanted}
use Rattle.bl_cparse_syntax.specs.Expects.{Expects}
use Rattle.bl_cparse.specs.inner.Reading.{part}
use Rattle.bl_cparse.proofs.parser.item.locals.Given as goal

abbrev pub invariant-loop-locals : goal.invariant-loop-locals
invariant-loop-locals l = record {
  read : (l.fn.r ≡ joined (map local_tokens l.locals) ++ l.r) × IsTrue (all_of (map spells_local l.locals));
  follows : (room : ℕ) (rest : List Wanted) → Expects (part Locals room ∷ rest) l.fn.r → Expects (part Locals room ∷ rest) l.r;
}

abbrev pub decreases-loop-locals : goal.decreases-loop-locals
decreases-loop-locals l = length l.r
