-- What the text has where a token is a name.
use Rattle.std.proofs.Common.{◌≡◌, ℕ, ◌≤◌, true, List, length, slice_range, ap, sym, ◌∙◌, subst, arith}
use Rattle.std.specs.Prelude.{Some, slice_get, option_map}
use Rattle.std.proofs.lemmas.Option.{slice_get_within, get_or_from_slice_get}
use Rattle.bl_tree.specs.Words.{is_name}
use Rattle.bl_tree.specs.declared.token.Token.{Token}
use Rattle.bl_tree.specs.declared.token.TokenKind.TheVariants.{Name}
use Rattle.bl_lex.specs.Tokens.{Lexes}
use Rattle.bl_lex.proofs.NameLaws.{names_are_names}
use Rattle.bl_lex.proofs.RuleLaws.{tokens_inside}
use Rattle.bl_parse.specs.At.{kind_at, start_of, end_of}
use Rattle.bl_parse.specs.inner.Reading.{NamesStand}
use Rattle.bl_parse.proofs.ReturnLemmas.{token_at}

-- a token of the text, where it is a name
record Named (text : List ℕ) (one : Token) : Type 0 where
  pub in_order : one.place.start ≤ one.place.end
  pub inside : one.place.end ≤ length text
  pub named : is_name (slice_range text one.place.start one.place.end) ≡ true

named_token : (text : List ℕ) (tokens : List Token) → Lexes text tokens → (k : ℕ) (one : Token) → slice_get tokens k ≡ Some one →
    kind_at tokens k ≡ Some Name → Named text one
named_token text tokens lexes k one at is =
    let inside = slice_get_within tokens k one at in
    let same = get_or_from_slice_get tokens k one one at in
    let places = tokens_inside text tokens lexes k one inside in
    let kind : one.kind ≡ Name = same_name (subst (λ o. option_map (λ token. token.kind) o ≡ Some Name) at is) in
    subst (Named text) same (record {
      in_order = omega (arith, places.0);
      inside = places.1;
      named =
          names_are_names text tokens lexes k one inside (ap (λ token. token.kind) same ∙ kind);
    })
  where
    same_name : Some one.kind ≡ Some Name → one.kind ≡ Name
    same_name e = cc

pub names_stand : (text : List ℕ) (tokens : List Token) → Lexes text tokens → NamesStand text tokens
names_stand text tokens lexes = record {
  in_order = λ k is. let t = token_at tokens k is in
      subst (λ o. start_of o ≤ end_of o) (sym t.1) (named_token text tokens lexes k t.0 t.1 is).in_order;
  inside = λ k is. let t = token_at tokens k is in
      subst (λ o. end_of o ≤ length text) (sym t.1) (named_token text tokens lexes k t.0 t.1 is).inside;
  named = λ k is. let t = token_at tokens k is in
      subst (λ o. is_name (slice_range text (start_of o) (end_of o)) ≡ true) (sym t.1) (named_token text tokens lexes k t.0 t.1 is).named;
}
