use Rattle.std.proofs.Common.{◌≡◌, ℕ, List, ◌∷◌, ◌++◌, IsTrue, length, map}
use Rattle.bl_tree.specs.Reduce.{all_of}
use Rattle.bl_ctext.specs.Spelling.{with_commas, param_tokens}
use Rattle.bl_ctext.specs.Spellable.{has_any, spells_param}
use Rattle.std.specs.Prelude.{codes}
use Rattle.bl_cparse_syntax.specs.declared.grammar.Part.TheVariants.{Params, ParamRest}
use Rattle.bl_cparse_syntax.specs.Grammar.{Wanted}
use Rattle.bl_cparse_syntax.specs.Expects.{Expects}
use Rattle.bl_cparse.specs.inner.Reading.{sign, part}
use Rattle.bl_cparse.proofs.parser.item.params.Given as goal

abbrev pub invariant-loop-params : goal.invariant-loop-params
invariant-loop-params l = record {
  read : (l.fn.r ≡ with_commas (map param_tokens l.params) ++ l.r) × (IsTrue (has_any l.params) × IsTrue (all_of (map spells_param l.params)));
  follows : (room : ℕ) (rest : List Wanted) → Expects (part Params room ∷ sign (codes ")") ∷ rest) l.fn.r →
      Expects (part ParamRest room ∷ sign (codes ")") ∷ rest) l.r;
}

abbrev pub decreases-loop-params : goal.decreases-loop-params
decreases-loop-params l = length l.r
