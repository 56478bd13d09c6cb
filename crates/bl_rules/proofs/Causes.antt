-- Refusals of the judges have a cause in the rules together.
use Rattle.std.proofs.Common.{◌≡◌, ℕ, ap, sym, ◌∙◌, ◌<◌, ◌^◌, List, [], length, inl, inr, refl, subst, arith}
use Rattle.std.proofs.lemmas.Bool.{cases_lt}
use Rattle.bl_cause_trees.specs.Laws.{PeeledAreOne}
use Rattle.bl_cause_trees.specs.Rules.{Fails as GraphsFail, Passes as GraphsPass}
use Rattle.bl_cause_trees.specs.Peeled.{ArePeeled, IsPeeled}
use Rattle.bl_effects.specs.Rules.{Fails as UnitsFail, Passes as UnitsPass}
use Rattle.bl_lex.specs.Rules.{Fails as TextFails, Passes as TextPasses}
use Rattle.bl_lex.specs.Tokens.{Lexes}
use Rattle.bl_limits.specs.Rules.{Fails as LimitsFail}
use Rattle.bl_parse.specs.Programs.{Spells}
use Rattle.bl_types_program.specs.Cause.{IsCause as IsTypingCause, names as by_names, types as by_types}
use Rattle.bl_types_program.specs.Programs.{IsProgramOf, named_of, typed_of}
use Rattle.bl_parse_tree.specs.declared.raw.Raw.{Raw}
use Rattle.bl_rules.proofs.Layers.{TokensAreOne, TokensThatPass, TreesAreOne, bytes_first, graphs_first, limits_first, names_first, program_first}
use Rattle.bl_rules.proofs.Layers.{text_passes, tokens_first, tree_first, tree_passes, types_first, units_first}
use Rattle.bl_rules.specs.Accepted.{HasProgram}
use Rattle.bl_rules.specs.Rules.{Fails, Parses, ProgramFails, ProgramPasses, TreeFails, TreePasses}
use Rattle.bl_names_scopes.specs.Rules.{Passes as NamesPass}
use Rattle.bl_parse_syntax.specs.Rules.{Fails as TokensFail, Passes as TokensPass}
use Rattle.bl_tree.specs.declared.place.Place.{Place}
use Rattle.bl_tree.specs.declared.program.Program.{Program}
use Rattle.bl_tree.specs.declared.rule.Refusal.{Refusal}
use Rattle.bl_tree.specs.declared.rule.Refusal.TheVariants as refusal
use Rattle.bl_tree.specs.declared.rule.Rule.{Rule}
use Rattle.bl_tree.specs.declared.rule.Rule.TheVariants as rule
use Rattle.bl_tree.specs.declared.token.Token.{Token}
use Rattle.bl_tree.proofs.FirstLemmas.{alike_first}
use Rattle.bl_tree.specs.declared.tree.StructDef.{StructDef}
use Rattle.bl_tree.specs.declared.tree.Unit.{Unit as UnitDef}
use Rattle.bl_tree.specs.Rules.{IsCause}
use Rattle.bl_types.specs.Rules.{Passes as TypesPass}

-- ---- trees

pub typing_cause : (raw : Raw) (told : Refusal) → IsTypingCause raw told → IsCause (TreeFails raw) told
typing_cause raw (refusal.Rule _ _ _) (by_names rule place also first) = names_first raw rule place also first
typing_cause raw (refusal.Rule _ _ _) (by_types rule place also pass first) = types_first raw rule place also pass first
typing_cause raw refusal.NoMemory first = tt

-- a typed program has the parts of its tree's
module _ (raw : Raw) (program : Program) (is : IsProgramOf raw program) where
  same_fails : (r : Rule) (p : Place) (a : List Place) → ProgramFails program.structs program.units program.entry r p a ≡
      ProgramFails (typed_of raw).structs (typed_of raw).units (typed_of raw).entry r p a
  same_fails r p a =
      ap (λ it. ProgramFails it program.units program.entry r p a) is.structs
      ∙ ap (λ it. ProgramFails (typed_of raw).structs it program.entry r p a) is.units
      ∙ ap (λ it. ProgramFails (typed_of raw).structs (typed_of raw).units it r p a) is.entry

  own_fails : (r : Rule) (p : Place) (a : List Place) → ProgramFails program.structs program.units program.entry r p a →
      ProgramFails (typed_of raw).structs (typed_of raw).units (typed_of raw).entry r p a
  own_fails r p a f = subst (λ it. it) (same_fails r p a) f

  fails_own : (r : Rule) (p : Place) (a : List Place) → ProgramFails (typed_of raw).structs (typed_of raw).units (typed_of raw).entry r p a →
      ProgramFails program.structs program.units program.entry r p a
  fails_own r p a f = subst (λ it. it) (sym (same_fails r p a)) f

  pub program_cause : (told : Refusal) → NamesPass raw.items → TypesPass (named_of raw) →
      IsCause (ProgramFails program.structs program.units program.entry) told → IsCause (TreeFails raw) told
  program_cause (refusal.Rule rule place also) pass more first =
      program_first raw rule place also pass more
      (alike_first (ProgramFails program.structs program.units program.entry)
      (ProgramFails (typed_of raw).structs (typed_of raw).units (typed_of raw).entry) own_fails fails_own rule place also first)
  program_cause refusal.NoMemory pass more first = tt

  pub program_passes : NamesPass raw.items → TypesPass (named_of raw) → ProgramPasses program.structs program.units program.entry → TreePasses raw
  program_passes pass more most = tree_passes raw pass more (λ r p a f. most r p a (fails_own r p a f))

-- ---- typed programs

module _ (structs : List StructDef) (units : List UnitDef) (entry : ℕ) where
  pub units_cause : (told : Refusal) → IsCause (UnitsFail units) told → IsCause (ProgramFails structs units entry) told
  units_cause (refusal.Rule rule place also) first = units_first structs units entry rule place also first
  units_cause refusal.NoMemory first = tt

  pub graphs_cause : (told : Refusal) → UnitsPass units → IsCause (GraphsFail units) told → IsCause (ProgramFails structs units entry) told
  graphs_cause (refusal.Rule rule place also) pass first = graphs_first structs units entry pass rule place also first
  graphs_cause refusal.NoMemory pass first = tt

  pub limits_cause : PeeledAreOne → (peeled : List UnitDef) → ArePeeled units peeled → (told : Refusal) → UnitsPass units → GraphsPass units →
      IsCause (LimitsFail structs peeled entry) told → IsCause (ProgramFails structs units entry) told
  limits_cause one peeled are (refusal.Rule rule place also) pass more first =
      limits_first structs units entry one peeled are pass more rule place also first
  limits_cause one peeled are refusal.NoMemory pass more first = tt

-- ---- the peeled program

module _ (one : PeeledAreOne) (program peeled : Program) (is : IsPeeled program peeled) where
  pub peeled_limits_cause : (told : Refusal) → UnitsPass program.units → GraphsPass program.units →
      IsCause (LimitsFail peeled.structs peeled.units peeled.entry) told → IsCause (ProgramFails program.structs program.units program.entry) told
  peeled_limits_cause told pass more first =
      limits_cause program.structs program.units program.entry one peeled.units is.units told pass more
      (subst (λ structs. IsCause (LimitsFail structs peeled.units program.entry) told) is.structs
      (subst (λ entry. IsCause (LimitsFail peeled.structs peeled.units entry) told) is.entry first))

-- ---- texts

-- the place of the first byte beyond the longest text that passes
abbrev first_beyond : Place
first_beyond = record { start = 1_048_576; end = 1_048_577 }

-- a text that passes rule Size isn't long
pub is_short : (text : List ℕ) → TextPasses text → length text < 2 ^ 32
is_short text pass = elim (cases_lt 1_048_576 (length text)) [
  | inl long ↦ absurd (pass rule.Size first_beyond [] (record { too_long = long; at = refl }, refl))
  | inr short ↦ omega (arith, short)
]

pub bytes_cause : (text : List ℕ) (told : Refusal) → IsCause (TextFails text) told → IsCause (Fails text) told
bytes_cause text (refusal.Rule rule place also) first = bytes_first text rule place also first
bytes_cause text refusal.NoMemory first = tt

pub tokens_cause : TokensAreOne → TokensThatPass → (text : List ℕ) (ts : List Token) (told : Refusal) → TextPasses text → Lexes text ts
    → IsCause (TokensFail (length text) ts) told → IsCause (Fails text) told
tokens_cause one none text ts (refusal.Rule rule place also) pass lexed first = tokens_first one none text ts rule place also pass lexed first
tokens_cause one none text ts refusal.NoMemory pass lexed first = tt

pub tree_cause : TokensAreOne → TreesAreOne → TokensThatPass → (text : List ℕ) (raw : Raw) (told : Refusal) → TextPasses text
    → Parses text raw → IsCause (TreeFails raw) told → IsCause (Fails text) told
tree_cause one trees none text raw (refusal.Rule rule place also) pass parsed first =
    tree_first one trees none text raw rule place also pass parsed first
tree_cause one trees none text raw refusal.NoMemory pass parsed first = tt

pub parsed : (text : List ℕ) (ts : List Token) (raw : Raw) → Lexes text ts → TokensPass ts → Spells text ts raw → Parses text raw
parsed text ts raw lexes passes spells = record { tokens = ts; lexes = lexes; passes = passes; spells = spells }

pub program_of_text : TokensAreOne → TreesAreOne → TokensThatPass → (text : List ℕ) (raw : Raw) (program : Program) → TextPasses text
    → Parses text raw → TreePasses raw → IsProgramOf raw program → HasProgram text program
program_of_text one trees none text raw program pass parses most is =
    record { raw = raw; has = record { passes = text_passes one trees none text raw pass parses most; parses = parses }; is = is }
