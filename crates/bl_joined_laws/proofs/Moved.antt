-- Tokens and names of a text that stands in another.
use Rattle.std.proofs.Common.{◌≡◌, ℕ, ◌+◌, ◌-◌, ◌<◌, ◌≤◌, List, [], ◌∷◌, ◌++◌, length, map, ap, sym, ◌∙◌, arith}
use Rattle.std.proofs.lemmas.List.{map-append}
use Rattle.std.specs.Prelude.{Some, option_map, slice_get, slice_range}
use Rattle.bl_tree.proofs.Basics.{some_within}
use Rattle.bl_tree.specs.declared.scalar.Op.{Op}
use Rattle.bl_tree.specs.declared.scalar.Scalar.{Scalar as ScalarType}
use Rattle.bl_tree.specs.declared.token.Token.{Token}
use Rattle.bl_tree.specs.declared.token.TokenKind.{TokenKind}
use Rattle.bl_tree.specs.declared.token.TokenKind.TheVariants.{Name as NameToken}
use Rattle.bl_parse_tree.specs.declared.name.Name.{Name}
use Rattle.bl_parse.specs.At.{end_at, end_of, kind_at, name_at, span, start_at, start_of, SpellsName, Takes}
use Rattle.bl_parse.specs.Operators.{SpellsInfix, SpellsPrefix, SpellsScalar}
use Rattle.bl_parse.specs.Statements.{takes_value}
use Rattle.bl_parse.proofs.ReturnLemmas.{token_at}
use Rattle.bl_joined.specs.Texts.{moved_place, moved_token}
use Rattle.bl_joined.specs.Trees.{placed_name}
use Rattle.bl_joined_laws.proofs.Reach.{Filled}

-- the tokens of a text stand among others behind `d` of them, where the text stands in the whole behind `n` bytes
pub record Stands (text whole : List ℕ) (tokens all : List Token) (n d : ℕ) : Type 0 where
  pub lines : ℕ
  pub there : (k : ℕ) (one : Token) → slice_get tokens k ≡ Some one → slice_get all (d + k) ≡ Some (moved_token n lines one)
  pub names : (k : ℕ) → kind_at tokens k ≡ Some NameToken →
      slice_range whole (n + start_at tokens k) (n + end_at tokens k) ≡ slice_range text (start_at tokens k) (end_at tokens k)
  pub values : (k : ℕ) → k < length tokens → takes_value all (d + k) ≡ takes_value tokens k

pub mapped_more : {A B : Type 0} (p : A → B) {all : List A} (xs : List A) (x : A) → all ≡ xs ++ x ∷ [] → map p all ≡ map p xs ++ p x ∷ []
mapped_more p xs x is = ap (map p) is ∙ map-append p xs (x ∷ [])

module _ {text whole : List ℕ} {tokens all : List Token} {n d : ℕ} (h : Stands text whole tokens all n d) where
  pub takes : {kind : TokenKind} {from to : ℕ} → Takes tokens kind from to → Takes all kind (d + from) (d + to)
  takes {from = from} t = let one = token_at tokens from t.stands in record {
    stands = ap (option_map (λ token. token.kind)) (h.there from one.0 one.1) ∙ (sym (ap (option_map (λ token. token.kind)) one.1) ∙ t.stands);
    next = omega (arith, t.next);
  }

  pub kind_there : (k : ℕ) → k < length tokens → kind_at all (d + k) ≡ kind_at tokens k
  kind_there k inside = let one = some_within tokens k inside in
      ap (option_map (λ token. token.kind)) (h.there k one.0 one.1) ∙ sym (ap (option_map (λ token. token.kind)) one.1)

  start_there : (k : ℕ) → k < length tokens → start_at all (d + k) ≡ n + start_at tokens k
  start_there k inside = let one = some_within tokens k inside in
      ap start_of (h.there k one.0 one.1) ∙ ap (λ s. n + s) (sym (ap start_of one.1))

  end_there : (k : ℕ) → k < length tokens → end_at all (d + k) ≡ n + end_at tokens k
  end_there k inside = let one = some_within tokens k inside in
      ap end_of (h.there k one.0 one.1) ∙ ap (λ s. n + s) (sym (ap end_of one.1))

  pub span_there : {from to : ℕ} → Filled tokens from to → moved_place n (span tokens from to) ≡ span all (d + from) (d + to)
  span_there {from} {to} f =
      let last : d + to - 1 ≡ d + (to - 1) = omega (arith, f.forward) in
      let start = start_there from (omega (arith, f.forward, f.inside)) in
      let end = ap (end_at all) last ∙ end_there (to - 1) (omega (arith, f.forward, f.inside)) in
      λ i. record { start = sym start i; end = sym end i }

  name_there : (k : ℕ) → kind_at tokens k ≡ Some NameToken → placed_name (moved_place n) (name_at text tokens k) ≡ name_at whole all (d + k)
  name_there k is =
      let one = token_at tokens k is in
      let start : start_at all (d + k) ≡ n + start_at tokens k = ap start_of (h.there k one.0 one.1) ∙ ap (λ s. n + s) (sym (ap start_of one.1)) in
      let end : end_at all (d + k) ≡ n + end_at tokens k = ap end_of (h.there k one.0 one.1) ∙ ap (λ s. n + s) (sym (ap end_of one.1)) in
      let bytes : slice_range text (start_at tokens k) (end_at tokens k) ≡ slice_range whole (start_at all (d + k)) (end_at all (d + k)) =
      sym (h.names k is) ∙ (ap (λ s. slice_range whole s (n + end_at tokens k)) (sym start) ∙ ap (λ e. slice_range whole (start_at all (d + k)) e) (sym end)) in
      λ i. record { text = bytes i; place = record { start = sym start i; end = sym end i } }

  pub name : {one : Name} {from to : ℕ} → SpellsName text tokens one from to → SpellsName whole all (placed_name (moved_place n) one) (d + from) (d + to)
  name {from = from} s = record { token = takes s.token; is = ap (placed_name (moved_place n)) s.is ∙ name_there from s.token.stands }

  pub stay : {from to : ℕ} → to ≡ from → d + to ≡ d + from
  stay is = ap (λ k. d + k) is

  pub infix_there : {own : ℕ} {op : Op} {from to : ℕ} → SpellsInfix tokens own op from to → SpellsInfix all own op (d + from) (d + to)
  infix_there s = record { kind = s.kind; token = takes s.token; is = s.is }

  pub prefix_there : {op : Op} {from to : ℕ} → SpellsPrefix tokens op from to → SpellsPrefix all op (d + from) (d + to)
  prefix_there s = record { kind = s.kind; token = takes s.token; is = s.is }

  pub scalar : {s : ScalarType} {from to : ℕ} → SpellsScalar tokens s from to → SpellsScalar all s (d + from) (d + to)
  scalar s = record { kind = s.kind; token = takes s.token; is = s.is }
