-- Laws of spelled statements, and which keyword is left at the beginning of one.
use Rattle.std.proofs.Common.{◌≡◌, ℕ, Bool, true, false, ◌||◌, List, ◌∷◌, refl, ap, sym, ◌∙◌}
use Rattle.std.specs.Prelude.{Some, None}
use Rattle.bl_tree.proofs.KeywordLemmas.{same_word_is}
use Rattle.bl_tree.specs.declared.place.Place.{Place}
use Rattle.bl_tree.specs.declared.token.Token.{Token}
use Rattle.bl_tree.specs.declared.token.TokenKind.TheVariants.{Word}
use Rattle.bl_tree.specs.declared.token.Keyword.{Keyword}
use Rattle.bl_tree.specs.declared.token.Keyword.TheVariants as keyword
use Rattle.bl_tree.specs.Keywords.{same_word}
use Rattle.bl_parse_syntax.specs.declared.grammar.Class.{Class}
use Rattle.bl_parse_syntax.specs.declared.grammar.Class.TheVariants.{Keyword as KeywordClass}
use Rattle.bl_parse_syntax.specs.declared.grammar.Part.TheVariants.{Stmt}
use Rattle.bl_parse_syntax.specs.Grammar.{Piece, the, productions}
use Rattle.bl_parse_syntax.specs.Follow.{statement_starts}
use Rattle.bl_parse_syntax.specs.Tables.{has, starts, choices_of, or_absent}
use Rattle.bl_parse_syntax.proofs.Right.{chosen_none}
use Rattle.bl_parse_tree.specs.declared.stmt.RawStmt.{RawStmt, roll-RawStmt}
use Rattle.bl_parse_tree.specs.declared.stmt.RawStmtKind.{RawStmtKind}
use Rattle.bl_parse.specs.At.{kind_at}
use Rattle.bl_parse.specs.inner.Reading.{Awaits}
use Rattle.bl_parse.proofs.ReadLemmas.{picks, chosen_is, never}

abbrev stmt : Place → RawStmtKind → RawStmt
stmt place what = roll-RawStmt (record { place = place; what = what })

pub placed_stmt : (what : RawStmtKind) {p q : Place} → p ≡ q → stmt p what ≡ stmt q what
placed_stmt what e = ap (λ place. stmt place what) e

stmt_never : (c : Class) → has statement_starts c ≡ false → picks Stmt c ≡ None
unfolding starts
stmt_never c off = ap (or_absent false) (sym (chosen_is (productions Stmt) c) ∙ chosen_none (choices_of (productions Stmt)) c off)

all_off : (a b c d e f g h i j l : Bool) → a ≡ false → b ≡ false → c ≡ false → d ≡ false → e ≡ false → f ≡ false → g ≡ false →
    h ≡ false → i ≡ false
    → j ≡ false → l ≡ false → a || (b || (c || (false || (d || (e || (f || (g || (h || (i || (j || (l || false))))))))))) ≡ false
all_off a b c d e f g h i j l ea eb ec ed ee ef eg eh ei ej el = rw (ea, eb, ec, ed, ee, ef, eg, eh, ei, ej, el) refl

no_eq : (a w : Keyword) → (w ≡ a → ⊥) → same_word a w ≡ false
no_eq a w none = by_test (same_word a w) refl
  where
    by_test : (b : Bool) → same_word a w ≡ b → b ≡ false
    by_test true e = absurd (none (sym (same_word_is a w e)))
    by_test false e = refl

-- where a statement begins with a keyword that is none of the others, it is `return`
pub return_left : {tokens : List Token} {k : ℕ} {b : List Piece} (w : Keyword) → kind_at tokens k ≡ Some (Word w) → Awaits (the Stmt ∷ b) tokens k
    → (w ≡ keyword.Var → ⊥) → (w ≡ keyword.Let → ⊥) → (w ≡ keyword.Const → ⊥) → (w ≡ keyword.Await → ⊥) → (w ≡ keyword.Run → ⊥) → (w ≡ keyword.Cobegin → ⊥) →
    (w ≡ keyword.When → ⊥)
    → (w ≡ keyword.Repeat → ⊥) → (w ≡ keyword.While → ⊥) → (w ≡ keyword.If → ⊥) → kind_at tokens k ≡ Some (Word keyword.Return)
return_left {tokens} {k} w is awaits na nb nc nd ne nf ng nh ni nj = by_test (same_word keyword.Return w) refl
  where
    by_test : (b : Bool) → same_word keyword.Return w ≡ b → kind_at tokens k ≡ Some (Word keyword.Return)
    by_test true e = is ∙ ap (λ n. Some (Word n)) (sym (same_word_is keyword.Return w e))
    by_test false e = absurd (never (λ v. refl) is (stmt_never (KeywordClass w)
        (all_off _ _ _ _ _ _ _ _ _ _ _ (no_eq keyword.Var w na) (no_eq keyword.Let w nb) (no_eq keyword.Const w nc) (no_eq keyword.Await w nd)
        (no_eq keyword.Run w ne) (no_eq keyword.Cobegin w nf) (no_eq keyword.When w ng) (no_eq keyword.Repeat w nh)
        (no_eq keyword.While w ni) (no_eq keyword.If w nj) e)) awaits)
