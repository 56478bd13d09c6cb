-- How a reader that goes down the parts of a program knows what stands next.
use Rattle.std.proofs.Common.{◌≡◌, true, List, [], ◌∷◌, ◌++◌, refl}
use Rattle.std.specs.Prelude.{Some}
use Rattle.bl_grammar.specs.declared.symbol.Symbol.TheVariants.{Terminal, Nonterminal}
use Rattle.bl_grammar.specs.Predictive
use Rattle.bl_grammar.specs.Derivations.Derives.{done, terminal}
use Rattle.bl_grammar.proofs.Predictive.{and_left, and_right, good_expand, step, vanish_end, spells_end}
use Rattle.bl_parse_syntax.specs.declared.grammar.Class.{Class}
use Rattle.bl_parse_syntax.specs.declared.grammar.TokenView.{TokenView}
use Rattle.bl_parse_syntax.specs.declared.grammar.Part.{Part}
use Rattle.bl_parse_syntax.specs.declared.grammar.Part.TheVariants.{Program}
use Rattle.bl_parse_syntax.specs.Grammar.{Piece, the, matches, Produces, SourceDerives, IsProgram}
use Rattle.bl_parse_syntax.specs.Tables.{absent, pick}
use Rattle.bl_parse_syntax.specs.Stack.{tables}
use Rattle.bl_parse_syntax.specs.Expects.{Expects, SourceContinuesWith}
use Rattle.bl_parse_syntax.proofs.Predictive.{predictive}
use Rattle.bl_parse_syntax.proofs.Reading.{start}

-- at the beginning a program is expected
pub expects_program : (tokens : List TokenView) → IsProgram tokens → Expects (the Program ∷ []) tokens
expects_program tokens spells = record { good = start.good; spells = spells }

-- of a part, the production that the next token decides on is expected
pub expects_production : (part : Part) (rest : List Piece) (next : TokenView) (tokens : List TokenView) → Expects (Nonterminal part ∷ rest) (next ∷ tokens)
    → (production : List Piece) × (pick part next ≡ Some production) × Expects (production ++ rest) (next ∷ tokens)
expects_production part rest next tokens expects =
    let h = step Produces matches tables predictive part rest next tokens expects.good expects.spells in (
      h.0,
      h.1,
      record {
        good = good_expand Produces matches tables predictive part rest (Some next) h.0 expects.good
            (predictive.picked part next h.0 h.1);
        spells = h.2;
      },
    )

-- at the end a part is absent
pub expects_absent : (part : Part) (rest : List Piece) → Expects (Nonterminal part ∷ rest) [] → (absent part ≡ true) × Expects rest []
expects_absent part rest expects =
    let gone = vanish_end Produces matches tables predictive (Nonterminal part ∷ rest) expects.spells in
    (and_left _ _ gone, record { good = expects.good.1; spells = spells_end Produces matches tables predictive rest (and_right (absent part) _ gone) })

pub expects_token : (class : Class) (rest : List Piece) (tokens : List TokenView) → Expects (Terminal class ∷ rest) tokens → SourceContinuesWith class rest tokens
expects_token class rest tokens expects = by_derivation expects.good expects.spells
  where
    by_derivation : {ts : List TokenView} → Predictive.Good Produces matches tables rest → SourceDerives (Terminal class ∷ rest) ts [] → SourceContinuesWith class rest ts
    by_derivation good (terminal m r) = record { next = _; left = _; stands = refl; is = m; expects = record { good = good; spells = r } }

-- nothing is left where nothing is expected
pub expects_nothing : (tokens : List TokenView) → Expects [] tokens → tokens ≡ []
expects_nothing tokens expects = by_derivation expects.spells
  where
    by_derivation : {ts : List TokenView} → SourceDerives [] ts [] → ts ≡ []
    by_derivation done = refl
