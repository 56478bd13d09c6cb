-- The program of joined parts.
use Rattle.std.proofs.Common.{◌≡◌, ℕ, ◌<◌, ◌≤◌, ◌^◌, List, length, refl, sym, subst, arith}
use Rattle.bl_joined.specs.declared.joined.Joined.{Joined}
use Rattle.bl_joined.specs.Joined.{IsJoinedOf}
use Rattle.bl_lex.specs.Tokens.{Lexes}
use Rattle.bl_link.proofs.Answers.{told_stops}
use Rattle.bl_link.proofs.Trees.{joined_lexes, part_tokens_pass}
use Rattle.bl_link.proofs.Turns.{good_parts}
use Rattle.bl_link.specs.declared.fault.LinkFault.{LinkFault}
use Rattle.bl_link.specs.Fits.{PartsFit, faces_of, part_texts}
use Rattle.bl_link.specs.inner.Whole.{ArePartsOf, IsReadable, TellsIn}
use Rattle.bl_link.specs.Linked.{HaveTree, LinkStops}
use Rattle.bl_module.specs.Parts.{SeenPart}
use Rattle.bl_module_laws.proofs.Read.{JoinedLex, JoinedPass}
use Rattle.bl_module_laws.specs.Files.{AreGoodFiles}
use Rattle.bl_module_laws.specs.Laws.{GoodFilesPass}
use Rattle.bl_parse_tree.specs.declared.raw.Raw.{Raw}
use Rattle.bl_rules.proofs.Layers.{TokensAreOne}
use Rattle.bl_rules.specs.Rules.{Parses, TreeFails, TreePasses}
use Rattle.bl_rules_laws_sizes.specs.Small.{IsOfSmallTree, SpelledAreSmall}
use Rattle.bl_tree.specs.declared.program.Program.{Program}
use Rattle.bl_tree.specs.declared.rule.Refusal.{Refusal}
use Rattle.bl_tree.specs.Rules.{IsCause}
use Rattle.bl_types_program.specs.Programs.{IsProgramOf}
use Rattle.bl_link.proofs.Adding.{texts_length}

pub readable : JoinedLex → JoinedPass → TokensAreOne → (parts : List SeenPart) (joined : Joined) → IsJoinedOf (part_texts parts) joined →
    ArePartsOf parts → length joined.text.items < 2 ^ 32 → IsReadable joined
readable lex pass one parts joined is are short =
    let lexes = joined_lexes lex (part_texts parts) joined is in record {
      short = short;
      lexes = lexes;
      passes = part_tokens_pass lex pass one parts are joined.tokens.items
          (subst (λ (text : List ℕ). Lexes text joined.tokens.items) is.text lexes);
    }

pub tree_in : (texts : List (List ℕ)) (joined : Joined) (raw : Raw) → IsJoinedOf texts joined → Parses joined.text.items raw → HaveTree texts raw
tree_in texts joined raw is parses = subst (λ (text : List ℕ). Parses text raw) is.text parses

-- the joined texts of parts are short enough for a small tree
pub of_small : SpelledAreSmall → (joined : Joined) (raw : Raw) (program : Program) → length joined.text.items < 2 ^ 32 →
    Parses joined.text.items raw → TreePasses raw → IsProgramOf raw program → IsOfSmallTree program
of_small law joined raw program short parses passes of =
    let few : length joined.text.items ≤ 2 ^ 40 = omega (arith, short) in
    law joined.text.items raw program few parses passes of

-- why parts that fit aren't linked
pub fault_stops : GoodFilesPass → (parts : List SeenPart) (joined : Joined) (raw : Raw) (refused : Refusal) (told : LinkFault) → ArePartsOf parts →
    PartsFit parts → 1 ≤ length parts → IsJoinedOf (part_texts parts) joined → Parses joined.text.items raw → IsCause (TreeFails raw) refused →
    (0 < length (part_texts parts) → TellsIn (part_texts parts) refused told) → LinkStops parts told
fault_stops law parts joined raw refused told are fit some is parses cause tells =
    let count = texts_length parts in
    let any : 0 < length (part_texts parts) = omega (arith, count, some) in
    let tree = tree_in (part_texts parts) joined raw is parses in
    let good : AreGoodFiles (length (part_texts parts)) (part_texts parts) (faces_of parts) =
    subst (λ n. AreGoodFiles n (part_texts parts) (faces_of parts)) (sym count)
    (good_parts (length parts) parts (faces_of parts) are fit.faces fit.lasts refl) in
    told_stops parts raw refused told fit tree (law (part_texts parts) (faces_of parts) raw any good tree) cause (tells any)
