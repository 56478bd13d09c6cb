use Rattle.std.proofs.Common.{◌≡◌, List, ◌∷◌, ◌++◌, IsTrue, length, map}
use Rattle.bl_tree.specs.Reduce.{all_of, joined}
use Rattle.bl_ctext.specs.Spelling.{step_tokens}
use Rattle.bl_ctext.specs.Spellable.{spells_step}
use Rattle.bl_cparse_syntax.specs.declared.grammar.Part.{Part}
use Rattle.bl_cparse_syntax.specs.Grammar.{Wanted}
use Rattle.bl_cparse_syntax.specs.Expects.{Expects}
use Rattle.bl_cparse.specs.inner.Reading.{part, GoesOnAPlace}
use Rattle.bl_cparse.proofs.parser.place.place.Given as goal

abbrev pub invariant-loop-r : goal.invariant-loop-r
invariant-loop-r l = record {
  read : (l.fn.r ≡ joined (map step_tokens l.steps) ++ l.r) × IsTrue (all_of (map spells_step l.steps));
  follows : (tail : Part) → GoesOnAPlace tail → (rest : List Wanted) → Expects (part tail l.room ∷ rest) l.fn.r →
      Expects (part tail l.room ∷ rest) l.r;
}

abbrev pub decreases-loop-r : goal.decreases-loop-r
decreases-loop-r l = length l.r
