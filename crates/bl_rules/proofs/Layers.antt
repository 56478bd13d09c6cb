-- What fails first in its layer, where the layers before it pass, fails first of all rules.
use Rattle.std.proofs.Common.{◌≡◌, ℕ, List, length, subst}
use Rattle.bl_cause_trees.specs.Laws.{PeeledAreOne}
use Rattle.bl_cause_trees.specs.Rules.{Fails as GraphsFail, Passes as GraphsPass}
use Rattle.bl_cause_trees.specs.Peeled.{ArePeeled}
use Rattle.bl_effects.specs.Rules.{Fails as UnitsFail, Passes as UnitsPass}
use Rattle.bl_lex.specs.Rules.{Fails as TextFails, Passes as TextPasses}
use Rattle.bl_lex.specs.Tokens.{Lexes}
use Rattle.bl_limits.specs.Rules.{Fails as LimitsFail}
use Rattle.bl_parse.specs.Programs.{Spells}
use Rattle.bl_types_program.specs.Programs.{IsProgramOf, named_of, typed_of}
use Rattle.bl_parse_tree.specs.declared.raw.Raw.{Raw}
use Rattle.bl_parse_tree.specs.WellFormed.{RawIsWellFormed}
use Rattle.bl_rules.specs.Accepted.{HasProgram, IsOfTree}
use Rattle.bl_rules.specs.Rules.{Fails, Parses, Passes, ProgramFails, ProgramPasses, TreeFails, TreePasses, in_bytes, in_graphs, in_limits, in_names}
use Rattle.bl_rules.specs.Rules.{in_program, in_tokens, in_tree, in_types, in_units}
use Rattle.bl_names_scopes.specs.Rules.{Fails as NamesFail, Passes as NamesPass}
use Rattle.bl_parse_syntax.specs.Rules.{Fails as TokensFail, Passes as TokensPass, PassesDepth}
use Rattle.bl_tree.proofs.FirstLemmas.{alike_first}
use Rattle.bl_tree.specs.declared.place.Place.{Place}
use Rattle.bl_tree.specs.declared.program.Program.{Program}
use Rattle.bl_tree.specs.declared.rule.Rule.{Rule}
use Rattle.bl_tree.specs.declared.token.Token.{Token}
use Rattle.bl_tree.specs.declared.tree.StructDef.{StructDef}
use Rattle.bl_tree.specs.declared.tree.Unit.{Unit as UnitDef}
use Rattle.bl_tree.specs.Rules.{FailsFirst}
use Rattle.bl_types.specs.Rules.{Fails as TypesFail, Passes as TypesPass}

-- ---- typed programs

module _ (structs : List StructDef) (units : List UnitDef) (entry : ℕ) where
  pub units_first : (rule : Rule) (at : Place) (also : List Place) → FailsFirst (UnitsFail units) rule at also →
      FailsFirst (ProgramFails structs units entry) rule at also
  units_first rule at also first = alike_first (UnitsFail units) (ProgramFails structs units entry) (λ r p a f. in_units f) back rule at also first
    where
      back : (r : Rule) (p : Place) (a : List Place) → ProgramFails structs units entry r p a → UnitsFail units r p a
      back r p a (in_units f) = f
      back r p a (in_graphs passes f) = absurd (passes rule at also first.fails)
      back r p a (in_limits peeled passes others are f) = absurd (passes rule at also first.fails)

  pub graphs_first : UnitsPass units → (rule : Rule) (at : Place) (also : List Place) → FailsFirst (GraphsFail units) rule at also →
      FailsFirst (ProgramFails structs units entry) rule at also
  graphs_first pass rule at also first =
      alike_first (GraphsFail units) (ProgramFails structs units entry) (λ r p a f. in_graphs pass f) back rule at also first
    where
      back : (r : Rule) (p : Place) (a : List Place) → ProgramFails structs units entry r p a → GraphsFail units r p a
      back r p a (in_units f) = absurd (pass r p a f)
      back r p a (in_graphs passes f) = f
      back r p a (in_limits peeled passes others are f) = absurd (others rule at also first.fails)

  module _ (one : PeeledAreOne) (peeled : List UnitDef) (are : ArePeeled units peeled) where
    -- what fails on peeled units fails on these
    on_these : (others : List UnitDef) → ArePeeled units others → (r : Rule) (p : Place) (a : List Place) → LimitsFail structs others entry r p a →
        LimitsFail structs peeled entry r p a
    on_these others too r p a f = subst (λ them. LimitsFail structs them entry r p a) (one units others peeled too are) f

    pub limits_first : UnitsPass units → GraphsPass units → (rule : Rule) (at : Place) (also : List Place) →
        FailsFirst (LimitsFail structs peeled entry) rule at also → FailsFirst (ProgramFails structs units entry) rule at also
    limits_first pass more rule at also first =
        alike_first (LimitsFail structs peeled entry) (ProgramFails structs units entry) (λ r p a f. in_limits peeled pass more are f) back
        rule at also first
      where
        back : (r : Rule) (p : Place) (a : List Place) → ProgramFails structs units entry r p a → LimitsFail structs peeled entry r p a
        back r p a (in_units f) = absurd (pass r p a f)
        back r p a (in_graphs passes f) = absurd (more r p a f)
        back r p a (in_limits others passes graphs too f) = on_these others too r p a f

-- ---- trees

pub names_first : (raw : Raw) (rule : Rule) (at : Place) (also : List Place) → FailsFirst (NamesFail raw.items) rule at also
    → FailsFirst (TreeFails raw) rule at also
names_first raw rule at also first = alike_first (NamesFail raw.items) (TreeFails raw) (λ r p a f. in_names f) back rule at also first
  where
    back : (r : Rule) (p : Place) (a : List Place) → TreeFails raw r p a → NamesFail raw.items r p a
    back r p a (in_names f) = f
    back r p a (in_types passes f) = absurd (passes rule at also first.fails)
    back r p a (in_program passes others f) = absurd (passes rule at also first.fails)

pub types_first : (raw : Raw) (rule : Rule) (at : Place) (also : List Place) → NamesPass raw.items
    → FailsFirst (TypesFail (named_of raw)) rule at also → FailsFirst (TreeFails raw) rule at also
types_first raw rule at also pass first = alike_first (TypesFail (named_of raw)) (TreeFails raw) (λ r p a f. in_types pass f) back rule at also first
  where
    back : (r : Rule) (p : Place) (a : List Place) → TreeFails raw r p a → TypesFail (named_of raw) r p a
    back r p a (in_names f) = absurd (pass r p a f)
    back r p a (in_types passes f) = f
    back r p a (in_program passes others f) = absurd (others rule at also first.fails)

pub program_first : (raw : Raw) (rule : Rule) (at : Place) (also : List Place) → NamesPass raw.items → TypesPass (named_of raw)
    → FailsFirst (ProgramFails (typed_of raw).structs (typed_of raw).units (typed_of raw).entry) rule at also → FailsFirst (TreeFails raw) rule at also
program_first raw rule at also pass more first =
    alike_first (ProgramFails (typed_of raw).structs (typed_of raw).units (typed_of raw).entry) (TreeFails raw) (λ r p a f. in_program pass more f) back
    rule at also first
  where
    back : (r : Rule) (p : Place) (a : List Place) → TreeFails raw r p a →
        ProgramFails (typed_of raw).structs (typed_of raw).units (typed_of raw).entry r p a
    back r p a (in_names f) = absurd (pass r p a f)
    back r p a (in_types passes f) = absurd (more r p a f)
    back r p a (in_program passes others f) = f

pub tree_passes : (raw : Raw) → NamesPass raw.items → TypesPass (named_of raw) →
    ProgramPasses (typed_of raw).structs (typed_of raw).units (typed_of raw).entry → TreePasses raw
tree_passes raw pass more most r p a (in_names f) = pass r p a f
tree_passes raw pass more most r p a (in_types passes f) = more r p a f
tree_passes raw pass more most r p a (in_program passes others f) = most r p a f

-- ---- texts

-- a text has at most one list of tokens
abbrev pub TokensAreOne : Type 0
TokensAreOne = (text : List ℕ) (tokens others : List Token) → Lexes text tokens → Lexes text others → tokens ≡ others

-- and at most one tree
abbrev pub TreesAreOne : Type 0
TreesAreOne = (text : List ℕ) (tokens : List Token) (raw other : Raw) → Spells text tokens raw → Spells text tokens other → raw ≡ other

-- what passes Depth and Syntax doesn't fail them
abbrev pub TokensThatPass : Type 0
TokensThatPass = (size : ℕ) (tokens : List Token) (rule : Rule) (place : Place) (also : List Place) → TokensPass tokens
    → ¬ TokensFail size tokens rule place also

pub one_tree : TokensAreOne → TreesAreOne → (text : List ℕ) (raw other : Raw) → Parses text raw → Parses text other → raw ≡ other
one_tree one trees text raw other first second =
    trees text second.tokens raw other
    (subst (λ ts. Spells text ts raw) (one text first.tokens second.tokens first.lexes second.lexes) first.spells) second.spells

pub bytes_first : (text : List ℕ) (rule : Rule) (at : Place) (also : List Place) → FailsFirst (TextFails text) rule at also
    → FailsFirst (Fails text) rule at also
bytes_first text rule at also first = alike_first (TextFails text) (Fails text) (λ r p a f. in_bytes f) back rule at also first
  where
    back : (r : Rule) (p : Place) (a : List Place) → Fails text r p a → TextFails text r p a
    back r p a (in_bytes f) = f
    back r p a (in_tokens ts passes lexes f) = absurd (passes rule at also first.fails)
    back r p a (in_tree raw passes parses f) = absurd (passes rule at also first.fails)

pub tokens_first : TokensAreOne → TokensThatPass → (text : List ℕ) (ts : List Token) (rule : Rule) (at : Place) (also : List Place)
    → TextPasses text → Lexes text ts → FailsFirst (TokensFail (length text) ts) rule at also → FailsFirst (Fails text) rule at also
tokens_first one none text ts rule at also pass lexed first =
    alike_first (TokensFail (length text) ts) (Fails text) (λ r p a f. in_tokens ts pass lexed f) back rule at also first
  where
    back : (r : Rule) (p : Place) (a : List Place) → Fails text r p a → TokensFail (length text) ts r p a
    back r p a (in_bytes f) = absurd (pass r p a f)
    back r p a (in_tokens others passes lexes f) = subst (λ l. TokensFail (length text) l r p a) (one text others ts lexes lexed) f
    back r p a (in_tree raw passes parses f) =
        absurd (none (length text) ts rule at also (subst TokensPass (one text parses.tokens ts parses.lexes lexed) parses.passes) first.fails)

pub tree_first : TokensAreOne → TreesAreOne → TokensThatPass → (text : List ℕ) (raw : Raw) (rule : Rule) (at : Place) (also : List Place)
    → TextPasses text → Parses text raw → FailsFirst (TreeFails raw) rule at also → FailsFirst (Fails text) rule at also
tree_first one trees none text raw rule at also pass parsed first =
    alike_first (TreeFails raw) (Fails text) (λ r p a f. in_tree raw pass parsed f) back rule at also first
  where
    back : (r : Rule) (p : Place) (a : List Place) → Fails text r p a → TreeFails raw r p a
    back r p a (in_bytes f) = absurd (pass r p a f)
    back r p a (in_tokens ts passes lexes f) =
        absurd (none (length text) ts r p a (subst TokensPass (one text parsed.tokens ts parsed.lexes lexes) parsed.passes) f)
    back r p a (in_tree other passes parses f) = subst (λ t. TreeFails t r p a) (one_tree one trees text other raw parses parsed) f

pub text_passes : TokensAreOne → TreesAreOne → TokensThatPass → (text : List ℕ) (raw : Raw) → TextPasses text → Parses text raw
    → TreePasses raw → Passes text
text_passes one trees none text raw pass parsed most r p a (in_bytes f) = pass r p a f
text_passes one trees none text raw pass parsed most r p a (in_tokens ts passes lexes f) =
    none (length text) ts r p a (subst TokensPass (one text parsed.tokens ts parsed.lexes lexes) parsed.passes) f
text_passes one trees none text raw pass parsed most r p a (in_tree other passes parses f) =
    most r p a (subst (λ t. TreeFails t r p a) (one_tree one trees text other raw parses parsed) f)

-- ---- and back

pub passes_text : (text : List ℕ) → Passes text → TextPasses text
passes_text text passes r p a f = passes r p a (in_bytes f)

pub passes_tree : (text : List ℕ) (raw : Raw) → Passes text → Parses text raw → TreePasses raw
passes_tree text raw passes parsed r p a f = passes r p a (in_tree raw (passes_text text passes) parsed f)

-- ---- programs

-- what a tree keeps that tokens of a text spell
abbrev pub SpelledKeeps : Type 0
SpelledKeeps =
    (text : List ℕ) (tokens : List Token) (raw : Raw) → Lexes text tokens → PassesDepth tokens → Spells text tokens raw → RawIsWellFormed raw.items

pub of_tree : SpelledKeeps → (text : List ℕ) (raw : Raw) (program : Program) → Parses text raw → TreePasses raw → IsProgramOf raw program
    → IsOfTree program
of_tree keeps text raw program parsed most is = record {
  raw = raw;
  well_formed = keeps text parsed.tokens raw parsed.lexes parsed.passes.depth parsed.spells;
  passes = most;
  is = is;
}

pub of_tree_of_text : SpelledKeeps → (text : List ℕ) (program : Program) → HasProgram text program → IsOfTree program
of_tree_of_text keeps text program has =
    of_tree keeps text has.raw program has.has.parses (passes_tree text has.raw has.has.passes has.has.parses) has.is
