use Rattle.std.proofs.Common.{◌≡◌, [], ◌∷◌, ◌++◌, IsTrue, length, map}
use Rattle.bl_tree.specs.Reduce.{all_of, joined}
use Rattle.bl_ctext.specs.Spelling.{func_tokens}
use Rattle.bl_ctext.specs.Spellable.{has_any, spells_func}
use Rattle.bl_cparse_syntax.specs.declared.grammar.Part.TheVariants.{Func, Funcs}
use Rattle.bl_cparse_syntax.specs.Grammar.{most_open}
use Rattle.bl_cparse_syntax.specs.Expects.{Expects}
use Rattle.bl_cparse.specs.inner.Reading.{part}
use Rattle.bl_cparse.proofs.parser.item.funcs.Given as goal

abbrev pub invariant-loop-funcs : goal.invariant-loop-funcs
invariant-loop-funcs l = record {
  read : (l.fn.r ≡ joined (map func_tokens l.funcs) ++ l.r) × (IsTrue (has_any l.funcs) × IsTrue (all_of (map spells_func l.funcs)));
  follows : Expects (part Func most_open ∷ part Funcs most_open ∷ []) l.fn.r → Expects (part Funcs most_open ∷ []) l.r;
}

abbrev pub decreases-loop-funcs : goal.decreases-loop-funcs
decreases-loop-funcs l = length l.r
