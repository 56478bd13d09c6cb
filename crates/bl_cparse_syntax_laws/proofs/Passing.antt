-- A text whose pieces derive spells a file.
use Rattle.std.proofs.Common.{◌≡◌, ℕ, ◌≤◌, true, ◌&&◌, List, [], ◌∷◌, ◌++◌, length, drop, map, refl, sym, ap, ◌∙◌, subst, arith}
use Rattle.std.proofs.lemmas.Bool.Decides.{nat_tests}
use Rattle.std.proofs.lemmas.Bool.{and_from}
use Rattle.bl_tree.proofs.Basics.{and_first, and_second, at_most_test}
use Rattle.bl_tree.specs.declared.c.CStruct.{CStruct}
use Rattle.bl_tree.specs.declared.c.CFunc.{CFunc}
use Rattle.bl_tree.specs.Reduce.{all_of}
use Rattle.bl_ctext.specs.Token.{Token, SpacedC}
use Rattle.bl_ctext.specs.Spelling.{tokens_of}
use Rattle.bl_ctext.specs.Spellable.{has_any, is_spellable, most_open, shallow, spells_struct, spells_func}
use Rattle.bl_ctext.specs.declared.file.CFile.{CFile}
use Rattle.bl_cparse_syntax.specs.Pieces.{pieces}
use Rattle.bl_cparse_syntax.specs.Grammar.{SpellText}
use Rattle.bl_cparse_syntax.specs.Stack.{file}
use Rattle.bl_cparse_syntax_laws.proofs.Told.{ToldFile}
use Rattle.bl_cparse_syntax_laws.proofs.Trees.{tree_there}
use Rattle.bl_cparse_syntax_laws.proofs.Depths.{text_kept}
use Rattle.bl_cparse_syntax_laws.proofs.Spaced.{spaced}
use Rattle.bl_cparse_syntax_laws.proofs.Unique.{tokens_are}
use Rattle.bl_cparse_syntax_laws.proofs.Files.{file_derives}
use Rattle.bl_cparse_syntax.specs.Rules.{Passes}
use Rattle.bl_ctext.specs.Prelude.{prelude}
use Rattle.bl_ctext.specs.SpellsC.{SpellsC}

spellable : (structs : List CStruct) (funcs : List CFunc) (ts : List Token) → ts ≡ tokens_of structs funcs →
    (has_any structs && all_of (map spells_struct structs)) ≡ true → (has_any funcs && all_of (map spells_func funcs)) ≡ true
    → most_open 0 ts ≤ 2000 → is_spellable structs funcs ≡ true
spellable structs funcs ts is s f few =
    let flat : shallow structs funcs ≡ true = at_most_test (most_open 0 (tokens_of structs funcs)) 2000 (subst (λ ts. most_open 0 ts ≤ 2000) is few) in
    and_from (has_any structs) _ (and_first _ _ s) (and_from (has_any funcs) _ (and_first _ _ f)
    (and_from (all_of (map spells_struct structs)) _ (and_second _ _ s) (and_from (all_of (map spells_func funcs)) _ (and_second _ _ f) flat)))

pub spells_some : (text : List ℕ) → SpellText (pieces text) → (file : CFile) × SpacedC (tokens_of file.structs file.funcs) text
spells_some text spells = by_file (tree_there file (pieces text) spells)
  where
    by_file : ToldFile (pieces text) → (file : CFile) × SpacedC (tokens_of file.structs file.funcs) text
    by_file (structs, (funcs, (is, (s, f)))) =
        let kept = text_kept (pieces text) spells in (
          record { structs = structs; funcs = funcs; spellable = spellable structs funcs (pieces text) is s f kept.1 },
          subst (λ ts. SpacedC ts text) is (spaced text kept.0),
        )

behind : (front rest : List ℕ) → drop (length front) (front ++ rest) ≡ rest
behind [] rest = refl
behind (b ∷ front) rest = behind front rest

pub passing_spelled : (bytes rest : List ℕ) → bytes ≡ prelude ++ rest → Passes bytes (length prelude) → (file : CFile) × SpellsC file bytes
passing_spelled bytes rest begins passes = by_file (spells_some (drop (length prelude) bytes) passes)
  where
    by_file : (file : CFile) × SpacedC (tokens_of file.structs file.funcs) (drop (length prelude) bytes) → (file : CFile) × SpellsC file bytes
    by_file (file, spaced) = (
      file,
      (
        rest,
        (
          begins,
          subst (SpacedC (tokens_of file.structs file.funcs))
              (ap (drop (length prelude)) begins ∙ behind prelude rest) spaced,
        ),
      ),
    )

pub spelled_passing : (file : CFile) (bytes : List ℕ) → SpellsC file bytes → Passes bytes (length prelude)
spelled_passing file bytes (rest, (begins, spaced)) =
    subst SpellText (sym (tokens_are (tokens_of file.structs file.funcs) rest spaced)
    ∙ sym (ap pieces (ap (drop (length prelude)) begins ∙ behind prelude rest)))
    (file_derives file.structs file.funcs file.spellable)
