use Rattle.std.proofs.Common.{◌≡◌, List, ◌∷◌, ◌++◌, IsTrue, length, map}
use Rattle.bl_tree.specs.Reduce.{all_of}
use Rattle.bl_ctext.specs.Spelling.{with_commas, arg_tokens}
use Rattle.bl_ctext.specs.Spellable.{has_any, spells_arg}
use Rattle.std.specs.Prelude.{codes}
use Rattle.bl_cparse_syntax.specs.declared.grammar.Part.TheVariants.{Args, ArgRest}
use Rattle.bl_cparse_syntax.specs.Grammar.{Wanted}
use Rattle.bl_cparse_syntax.specs.Expects.{Expects}
use Rattle.bl_cparse.specs.inner.Reading.{sign, part}
use Rattle.bl_cparse.proofs.parser.place.arguments.Given as goal

abbrev pub invariant-loop-r : goal.invariant-loop-r
invariant-loop-r l = record {
  read : (l.fn.r ≡ with_commas (map arg_tokens l.args) ++ l.r) × (IsTrue (has_any l.args) × IsTrue (all_of (map spells_arg l.args)));
  follows : (rest : List Wanted) → Expects (part Args l.room ∷ sign (codes ")") ∷ rest) l.fn.r →
      Expects (part ArgRest l.room ∷ sign (codes ")") ∷ rest) l.r;
}

abbrev pub decreases-loop-r : goal.decreases-loop-r
decreases-loop-r l = length l.r
