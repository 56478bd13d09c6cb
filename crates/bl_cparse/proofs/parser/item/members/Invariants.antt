use Rattle.std.proofs.Common.{◌≡◌, ℕ, List, ◌∷◌, ◌++◌, IsTrue, length, map}
use Rattle.bl_tree.specs.Reduce.{all_of, joined}
use Rattle.bl_ctext.specs.Spelling.{member_tokens}
use Rattle.bl_ctext.specs.Spellable.{has_any, spells_member}
use Rattle.std.specs.Prelude.{codes}
use Rattle.bl_cparse_syntax.specs.declared.grammar.Part.TheVariants.{Member, Members}
use Rattle.bl_cparse_syntax.specs.Grammar.{Wanted}
use Rattle.bl_cparse_syntax.specs.Expects.{Expects}
use Rattle.bl_cparse.specs.inner.Reading.{sign, part}
use Rattle.bl_cparse.proofs.parser.item.members.Given as goal

abbrev pub invariant-loop-members : goal.invariant-loop-members
invariant-loop-members l = record {
  read : (l.fn.r ≡ joined (map member_tokens l.members) ++ l.r) × (IsTrue (has_any l.members) × IsTrue (all_of (map spells_member l.members)));
  follows : (room : ℕ) (rest : List Wanted) → Expects (part Member room ∷ part Members room ∷ sign (codes "}") ∷ rest) l.fn.r →
      Expects (part Members room ∷ sign (codes "}") ∷ rest) l.r;
}

abbrev pub decreases-loop-members : goal.decreases-loop-members
decreases-loop-members l = length l.r
