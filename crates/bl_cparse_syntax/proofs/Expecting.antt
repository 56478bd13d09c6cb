-- How a reader that goes down the parts of a text knows what stands next.
use Rattle.std.proofs.Common.{◌≡◌, true, List, [], ◌∷◌, ◌++◌, refl}
use Rattle.std.specs.Prelude.{Some}
use Rattle.bl_ctext.specs.Token.{Token}
use Rattle.bl_grammar.specs.declared.symbol.Symbol.TheVariants.{Terminal, Nonterminal}
use Rattle.bl_grammar.specs.Predictive
use Rattle.bl_grammar.specs.Derivations.Derives.{done, terminal}
use Rattle.bl_grammar.proofs.Predictive.{and_left, and_right, good_expand, step, vanish_end, spells_end}
use Rattle.bl_cparse_syntax.specs.declared.grammar.Roomed.{Roomed}
use Rattle.bl_cparse_syntax.specs.Classes.{Class, matches}
use Rattle.bl_cparse_syntax.specs.Grammar.{Wanted, whole_text, Produces, CDerives, SpellText}
use Rattle.bl_cparse_syntax.specs.Tables.{absent, pick}
use Rattle.bl_cparse_syntax.specs.Stack.{tables}
use Rattle.bl_cparse_syntax.specs.Expects.{CContinuesWith, Expects}
use Rattle.bl_cparse_syntax.proofs.Predictive.{predictive}
use Rattle.bl_cparse_syntax.proofs.Reading.{start}

-- at the beginning a text is expected
pub expects_text : (pieces : List Token) → SpellText pieces → Expects (whole_text ∷ []) pieces
expects_text pieces spells = record { good = start.good; spells = spells }

-- of a part, the production that the next piece decides on is expected
pub expects_production : (part : Roomed) (rest : List Wanted) (next : Token) (pieces : List Token) → Expects (Nonterminal part ∷ rest) (next ∷ pieces)
    → (production : List Wanted) × (pick part next ≡ Some production) × Expects (production ++ rest) (next ∷ pieces)
expects_production part rest next pieces expects =
    let h = step Produces matches tables predictive part rest next pieces expects.good expects.spells in (
      h.0,
      h.1,
      record {
        good = good_expand Produces matches tables predictive part rest (Some next) h.0 expects.good
            (predictive.picked part next h.0 h.1);
        spells = h.2;
      },
    )

-- at the end a part is absent
pub expects_absent : (part : Roomed) (rest : List Wanted) → Expects (Nonterminal part ∷ rest) [] → (absent part.part ≡ true) × Expects rest []
expects_absent part rest expects =
    let gone = vanish_end Produces matches tables predictive (Nonterminal part ∷ rest) expects.spells in
    (and_left _ _ gone, record { good = expects.good.1; spells = spells_end Produces matches tables predictive rest (and_right (absent part.part) _ gone) })

pub expects_token : (class : Class) (rest : List Wanted) (pieces : List Token) → Expects (Terminal class ∷ rest) pieces → CContinuesWith class rest pieces
expects_token class rest pieces expects = by_derivation expects.good expects.spells
  where
    by_derivation : {ts : List Token} → Predictive.Good Produces matches tables rest → CDerives (Terminal class ∷ rest) ts [] → CContinuesWith class rest ts
    by_derivation good (terminal m r) = record { next = _; left = _; stands = refl; is = m; expects = record { good = good; spells = r } }

-- nothing is left where nothing is expected
pub expects_nothing : (pieces : List Token) → Expects [] pieces → pieces ≡ []
expects_nothing pieces expects = by_derivation expects.spells
  where
    by_derivation : {ts : List Token} → CDerives [] ts [] → ts ≡ []
    by_derivation done = refl
