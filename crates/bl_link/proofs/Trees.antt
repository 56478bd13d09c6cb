-- The tree of the joined texts of parts.
use Rattle.std.proofs.Common.{◌≡◌, ℕ, List, [], ◌∷◌, sym, ap, ◌∙◌, subst}
use Rattle.std.proofs.lemmas.List.Elements.{All-head, All-tail}
use Rattle.bl_joined.specs.declared.joined.Joined.{Joined}
use Rattle.bl_joined.specs.Joined.{IsJoinedOf}
use Rattle.bl_joined.specs.Texts.{joined_text, texts_of}
use Rattle.bl_lex.specs.Tokens.{Lexes}
use Rattle.bl_link.specs.Fits.{part_texts}
use Rattle.bl_link.specs.Linked.{HaveTree}
use Rattle.bl_link.specs.inner.Whole.{ArePartsOf}
use Rattle.bl_module.specs.Parts.{IsPart, SeenPart}
use Rattle.bl_module_laws.proofs.Read.{AllParsed, JoinedLex, JoinedPass, JoinedSpell, joined_parses, tokens_pass, tree_of}
use Rattle.bl_parse_syntax.specs.Rules.{Passes as TokensPass}
use Rattle.bl_parse_tree.specs.declared.raw.Raw.{Raw}
use Rattle.bl_rules.proofs.Layers.{TokensAreOne}
use Rattle.bl_tree.specs.declared.token.Token.{Token}

pub joined_lexes : JoinedLex → (texts : List (List ℕ)) (joined : Joined) → IsJoinedOf texts joined → Lexes joined.text.items joined.tokens.items
joined_lexes law texts joined is =
    subst (λ (text : List ℕ). Lexes text joined.tokens.items) (ap joined_text is.of_texts ∙ sym is.text)
    (subst (λ (tokens : List Token). Lexes (joined_text (texts_of is.files)) tokens) (sym is.tokens) (law is.files is.lexed))

-- the texts of parts, each with its tree
parsed_parts : (parts : List SeenPart) → ArePartsOf parts → AllParsed (part_texts parts)
parsed_parts [] are = tt
parsed_parts (part ∷ parts) are =
    let is : IsPart part = All-head IsPart part parts are in
    (record { raw = is.is_face.raw; parses = is.is_face.parses }, parsed_parts parts (All-tail IsPart part parts are))

-- the tokens of the joined texts keep the rules Depth and Syntax
pub part_tokens_pass : JoinedLex → JoinedPass → TokensAreOne → (parts : List SeenPart) → ArePartsOf parts → (tokens : List Token) →
    Lexes (joined_text (part_texts parts)) tokens → TokensPass tokens
part_tokens_pass lex pass one parts are = tokens_pass lex pass (part_texts parts) (parsed_parts parts are) one

-- there is a tree
pub has_tree : JoinedLex → JoinedPass → JoinedSpell → (parts : List SeenPart) → ArePartsOf parts → (raw : Raw) × HaveTree (part_texts parts) raw
has_tree lex pass spell parts are =
    let parsed = parsed_parts parts are in (tree_of (part_texts parts) parsed, joined_parses lex pass (part_texts parts) parsed spell)
