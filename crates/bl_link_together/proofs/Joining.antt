-- Texts that stand alone, joined one after another.
use Rattle.std.proofs.Common.{◌≡◌, ◌∙◌, ℕ, ◌+◌, ◌*◌, ◌<◌, ◌≤◌, ◌^◌, Bool, true, false, List, [], ◌∷◌, ◌++◌, ap, arith, get_or, inl, inr, length, refl, subst}
use Rattle.std.proofs.Common.{sym, take}
use Rattle.std.proofs.lemmas.Bool.{cases_order}
use Rattle.std.proofs.lemmas.Bool.Decides.{nat_tests}
use Rattle.std.proofs.lemmas.List.{length-take-le, take_all}
use Rattle.std.proofs.lemmas.List.Elements.{All-push}
use Rattle.std.proofs.lemmas.Option.{same_Some, slice_get_read, slice_get_within}
use Rattle.std.specs.Prelude.{All, Some, nat_eq, slice_get}
use Rattle.bl_tree.proofs.Basics.{get_taken}
use Rattle.bl_joined.specs.declared.joined.Joined.{Joined}
use Rattle.bl_joined.specs.Joined.{IsJoinedOf}
use Rattle.bl_lex.specs.Tokens.{Lexes}
use Rattle.bl_link.proofs.Linking.{tree_in}
use Rattle.bl_link.proofs.Lists.{take-next}
use Rattle.bl_link.proofs.Trees.{joined_lexes}
use Rattle.bl_link.specs.Files.{AreFilesOf}
use Rattle.bl_link_together.specs.Alone.{AreJoinedAlone, EachStandsAlone, StandsAlone}
use Rattle.bl_module_laws.proofs.Read.{JoinedLex}
use Rattle.bl_module_laws.specs.Laws.{MarksAreInLast, ParsesAlone, PassingFilesAreGood}
use Rattle.bl_parse.specs.Programs.{Spells}
use Rattle.bl_parse_syntax.specs.Rules.{Passes as TokensPass}
use Rattle.bl_parse_tree.specs.declared.raw.Raw.{Raw}
use Rattle.bl_rules.specs.Rules.{Parses, TreePasses}
use Rattle.bl_tree.specs.declared.program.Program.{Program}
use Rattle.bl_types_program.specs.Programs.{IsProgramOf}

-- the first texts stand alone, and were joined
pub record Joins (texts : List (List ℕ)) (k : ℕ) (joined : Joined) : Type 0 where
  pub within : k ≤ length texts
  pub alone : All ParsesAlone (take k texts)
  pub stand : EachStandsAlone (length texts) (take k texts)
  pub is : IsJoinedOf (take k texts) joined
  pub short : length joined.text.items ≤ 1_048_577 * k

module _ (texts : List (List ℕ)) (k : ℕ) (text : List ℕ) (less : k < length texts) (at : text ≡ get_or texts k text) where
  there : slice_get texts k ≡ Some text
  there = slice_get_read texts (length texts) k text refl less at

  next : take (k + 1) texts ≡ take k texts ++ text ∷ []
  next = take-next texts k text there

  stands_next : EachStandsAlone (length texts) (take k texts) → StandsAlone (nat_eq (k + 1) (length texts)) text →
      EachStandsAlone (length texts) (take (k + 1) texts)
  stands_next before here j other found = elim (cases_order j k) [
    | inl same ↦
        let most : j < k + 1 = omega (arith, same) in
        let is : other ≡ text = same_Some other text (sym found ∙ get_taken texts (k + 1) j most ∙ ap (slice_get texts) same ∙ there) in
        subst (λ t. StandsAlone (nat_eq (j + 1) (length texts)) t) (sym is)
        (subst (λ n. StandsAlone (nat_eq (n + 1) (length texts)) text) (sym same) here)
    | inr apart ↦ elim apart [
      | inl earlier ↦
          let most : j < k + 1 = omega (arith, earlier) in
          before j other (get_taken texts k j earlier ∙ sym (get_taken texts (k + 1) j most) ∙ found)
      | inr later ↦
          let within : j < length (take (k + 1) texts) = slice_get_within (take (k + 1) texts) j other found in
          let most : length (take (k + 1) texts) ≤ k + 1 = length_of_take in
          absurd (omega (arith, later, within, most))
    ]
  ]
    where
      length_of_take : length (take (k + 1) texts) ≤ k + 1
      length_of_take = let e = length-take-le (k + 1) texts (omega (arith, less)) in omega (arith, e)

  pub joins_next : (before after : Joined) (last : Bool) → last ≡ nat_eq (k + 1) (length texts) → Joins texts k before → StandsAlone last text →
      ((those : List (List ℕ)) → IsJoinedOf those before → IsJoinedOf (those ++ text ∷ []) after) →
      length after.text.items ≤ length before.text.items + 1_048_577 → Joins texts (k + 1) after
  joins_next before after last same joins stands more grow = record {
    within = omega (arith, less);
    alone = subst (All ParsesAlone) (sym next) (All-push ParsesAlone (take k texts) text joins.alone stands.alone);
    stand = stands_next joins.stand (subst (λ b. StandsAlone b text) same stands);
    is = subst (λ (those : List (List ℕ)). IsJoinedOf those after) (sym next) (more (take k texts) joins.is);
    short = omega (arith, grow, joins.short);
  }

pub joins_all : (texts : List (List ℕ)) (k : ℕ) (joined : Joined) → length texts ≤ k → length texts ≤ 64 → Joins texts k joined → AreJoinedAlone texts joined
joins_all texts k joined end few joins =
    let all : take k texts ≡ texts = take_all k texts end in
    let within = joins.within in
    let short = joins.short in
    record {
      alone = subst (All ParsesAlone) all joins.alone;
      stand = subst (EachStandsAlone (length texts)) all joins.stand;
      is = subst (λ (those : List (List ℕ)). IsJoinedOf those joined) all joins.is;
      short = omega (arith, within, few, short);
    }

-- ---- the program

pub lexes : JoinedLex → (texts : List (List ℕ)) (joined : Joined) → AreJoinedAlone texts joined → Lexes joined.text.items joined.tokens.items
lexes law texts joined are = joined_lexes law texts joined are.is

marks : (texts : List (List ℕ)) → EachStandsAlone (length texts) texts → MarksAreInLast texts
marks texts stand k text raw there earlier parses = (stand k text there).marks (go (nat_eq (k + 1) (length texts)) refl) raw parses
  where
    go : (last : Bool) → nat_eq (k + 1) (length texts) ≡ last → nat_eq (k + 1) (length texts) ≡ false
    go false is = is
    go true is = absurd (grind (arith, nat_tests))

pub parsed : (joined : Joined) (raw : Raw) → Lexes joined.text.items joined.tokens.items → TokensPass joined.tokens.items →
    Spells joined.text.items joined.tokens.items raw → Parses joined.text.items raw
parsed joined raw lex passes spells = record { tokens = joined.tokens.items; lexes = lex; passes = passes; spells = spells }

pub files_of : PassingFilesAreGood → (texts : List (List ℕ)) (joined : Joined) (raw : Raw) (program : Program) → AreJoinedAlone texts joined →
    Parses joined.text.items raw → TreePasses raw → IsProgramOf raw program → AreFilesOf texts program
files_of law texts joined raw program are parses passes of =
    let tree = tree_in texts joined raw are.is parses in
    let good = law texts raw are.alone (marks texts are.stand) tree passes in
    record { faces = good.faces; good = good.good; have = record { raw = raw; tree = tree; passes = passes; is = of } }
