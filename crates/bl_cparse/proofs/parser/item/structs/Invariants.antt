use Rattle.std.proofs.Common.{◌≡◌, ℕ, List, ◌∷◌, ◌++◌, IsTrue, length, map}
use Rattle.bl_tree.specs.Reduce.{all_of, joined}
use Rattle.bl_ctext.specs.Spelling.{struct_tokens}
use Rattle.bl_ctext.specs.Spellable.{has_any, spells_struct}
use Rattle.bl_cparse_syntax.specs.declared.grammar.Part.TheVariants.{Struct, Structs}
use Rattle.bl_cparse_syntax.specs.Grammar.{Wanted}
use Rattle.bl_cparse_syntax.specs.Expects.{Expects}
use Rattle.bl_cparse.specs.inner.Reading.{part}
use Rattle.bl_cparse.proofs.parser.item.structs.Given as goal

abbrev pub invariant-loop-structs : goal.invariant-loop-structs
invariant-loop-structs l = record {
  read : (l.fn.r ≡ joined (map struct_tokens l.structs) ++ l.r) × (IsTrue (has_any l.structs) × IsTrue (all_of (map spells_struct l.structs)));
  follows : (room : ℕ) (rest : List Wanted) → Expects (part Struct room ∷ part Structs room ∷ rest) l.fn.r → Expects (part Structs room ∷ rest) l.r;
}

abbrev pub decreases-loop-structs : goal.decreases-loop-structs
decreases-loop-structs l = length l.r
