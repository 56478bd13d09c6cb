-- Which pieces of the grammar stand for the tokens between two positions.
use Rattle.std.proofs.Common.{◌≡◌, ℕ, zero, suc, ◌+◌, true, List, [], ◌∷◌, ◌++◌, drop, length, refl, ap, sym, ◌∙◌, subst, arith}
use Rattle.std.specs.Prelude.{Option, Some, None, slice_get, option_map}
use Rattle.bl_tree.specs.declared.token.Token.{Token}
use Rattle.bl_tree.specs.declared.token.TokenKind.{TokenKind}
use Rattle.bl_grammar.specs.declared.symbol.Symbol.TheVariants.{Terminal}
use Rattle.bl_grammar.specs.Derivations.Derives.{done, terminal, part}
use Rattle.bl_parse_syntax.specs.declared.grammar.Class.{Class}
use Rattle.bl_parse_syntax.specs.declared.grammar.Part.{Part}
use Rattle.bl_parse_syntax.specs.declared.grammar.TokenView.{TokenView}
use Rattle.bl_parse_syntax.specs.Grammar.{Piece, the, class_of, view_of, views_after, same_class, productions, may_stand, IsAmong, SourceDerives}
use Rattle.bl_parse.specs.At.{Takes}
use Rattle.bl_parse.specs.inner.Reading.{left}
use Rattle.bl_parse.proofs.ReturnLemmas.{token_at}
use Rattle.bl_parse.proofs.ReadLemmas.{same_some}
use Rattle.bl_parse.proofs.ReturnLemmas.{views_from}
use Rattle.bl_parse_syntax.proofs.Predictive.{same_self}

-- the pieces, one after the other, stand for the tokens from a position up to another
pub record Spans (pieces : List Piece) (tokens : List Token) (from to : ℕ) : Type 0 where
  pub goes : SourceDerives pieces (left tokens from) (left tokens to)

append : {xs ys : List Piece} {a b c : List TokenView} → SourceDerives xs a b → SourceDerives ys b c → SourceDerives (xs ++ ys) a c
append done e = e
append (terminal m d) e = terminal m (append d e)
append (part made d r) e = part made d (append r e)

-- ---- tokens

-- what the grammar sees of a token, and of those views_from it
seen_at : (before : Option ℕ) (tokens : List Token) (k : ℕ) (one : Token) → slice_get tokens k ≡ Some one
    → (line : Option ℕ) × (drop k (views_after before tokens) ≡ view_of line one ∷ views_after (Some one.line) (drop (suc k) tokens))
seen_at before [] k one e = cc
seen_at before (x ∷ xs) zero one e = (before, ap (λ (t : Token). view_of before t ∷ views_after (Some t.line) xs) (same_some e))
seen_at before (x ∷ xs) (suc k) one e = seen_at (Some x.line) xs k one e

pub position : {k to : ℕ} → to ≡ k + 1 → to ≡ suc k
position next = omega (arith, next)

one_token : (class : Class) {vs ws : List TokenView} (view : TokenView) → vs ≡ view ∷ ws → view.class ≡ class → SourceDerives (Terminal class ∷ []) vs ws
one_token class {vs} {ws} view is same = subst (λ (us : List TokenView). SourceDerives (Terminal class ∷ []) us ws) (sym is)
    (terminal (subst (λ (c : Class). same_class class c ≡ true) (sym same) (same_self class)) done)

view_there : (tokens : List Token) (k : ℕ) (one : Token) {to : ℕ} → slice_get tokens k ≡ Some one → to ≡ k + 1 →
    (line : Option ℕ) × (left tokens k ≡ view_of line one ∷ left tokens to)
view_there tokens k one at next = let s = seen_at None tokens k one at in
    (s.0, s.1 ∙ ap (λ vs. view_of s.0 one ∷ vs) (sym (ap (left tokens) (position next) ∙ views_from None tokens k one at)))

pub token : {kind : TokenKind} {tokens : List Token} {from to : ℕ} → Takes tokens kind from to → Spans (Terminal (class_of kind) ∷ []) tokens from to
token {kind} {tokens} {from} t = let o = token_at tokens from t.stands in let s = view_there tokens from o.0 o.1 t.next in
    record { goes = one_token (class_of kind) (view_of s.0 o.0) s.1 (ap class_of (same_some (sym (ap (option_map (λ token. token.kind)) o.1) ∙ t.stands))) }

-- ---- pieces

pub nothing : {tokens : List Token} {k : ℕ} → Spans [] tokens k k
nothing = record { goes = done }

pub stay : {tokens : List Token} {from to : ℕ} → to ≡ from → Spans [] tokens from to
stay {tokens} {from} is = subst (λ k. Spans [] tokens from k) (sym is) nothing

pub then : {x : Piece} {ys : List Piece} {tokens : List Token} {from m to : ℕ} → Spans (x ∷ []) tokens from m →
    Spans ys tokens m to → Spans (x ∷ ys) tokens from to
then a b = record { goes = append a.goes b.goes }

pub join : (xs : List Piece) {ys : List Piece} {tokens : List Token} {from m to : ℕ} → Spans xs tokens from m →
    Spans ys tokens m to → Spans (xs ++ ys) tokens from to
join xs a b = record { goes = append a.goes b.goes }

-- what a production stands for is the part
pub made : {production : List Piece} {tokens : List Token} {from to : ℕ} (A : Part) → IsAmong production (productions A) →
    ((next : Option TokenView) → may_stand A next production ≡ true)
    → Spans production tokens from to → Spans (the A ∷ []) tokens from to
made A among may s = record { goes = part (among, may _) s.goes done }

pub empty : {tokens : List Token} {from to : ℕ} (A : Part) → IsAmong [] (productions A) →
    ((next : Option TokenView) → may_stand A next [] ≡ true) → to ≡ from → Spans (the A ∷ []) tokens from to
empty A among may is = made A among may (stay is)

pub from_there : {pieces : List Piece} {tokens : List Token} {from m to : ℕ} → m ≡ from → Spans pieces tokens m to → Spans pieces tokens from to
from_there {pieces} {tokens} {to = to} is s = subst (λ k. Spans pieces tokens k to) is s

-- ---- chains

-- the link again and again, as many times as it stands
pub data Chain (link : List Piece) (tokens : List Token) : ℕ → ℕ → Type 0 where
  over : {from to : ℕ} → to ≡ from → Chain link tokens from to
  more : {from m to : ℕ} → Spans link tokens from m → Chain link tokens m to → Chain link tokens from to

pub add : {link : List Piece} {tokens : List Token} {from m to : ℕ} → Chain link tokens from m → Spans link tokens m to → Chain link tokens from to
add (Chain.over is) s = Chain.more (from_there is s) (Chain.over refl)
add (Chain.more a c) s = Chain.more a (add c s)

-- a chain, and the part views_from it that repeats its link
pub repeated : {tokens : List Token} (link : List Piece) (A : Part) → IsAmong (link ++ the A ∷ []) (productions A) →
    ((next : Option TokenView) → may_stand A next (link ++ the A ∷ []) ≡ true)
    → {from m to : ℕ} → Chain link tokens from m → Spans (the A ∷ []) tokens m to → Spans (the A ∷ []) tokens from to
repeated link A among may (Chain.over is) s = from_there is s
repeated link A among may (Chain.more a c) s = made A among may (join link a (repeated link A among may c s))

-- a beginning, and a chain views_from it
pub record Listed (first link : List Piece) (tokens : List Token) (from to : ℕ) : Type 0 where
  pub m : ℕ
  pub head : Spans first tokens from m
  pub rest : Chain link tokens m to

pub listed_one : {first link : List Piece} {tokens : List Token} {from to : ℕ} → Spans first tokens from to → Listed first link tokens from to
listed_one s = record { m = _; head = s; rest = Chain.over refl }

pub listed_more : {first link : List Piece} {tokens : List Token} {from m to : ℕ} → Listed first link tokens from m →
    Spans link tokens m to → Listed first link tokens from to
listed_more l s = record { m = l.m; head = l.head; rest = add l.rest s }

-- ---- the whole

pub all_left : (before : Option ℕ) (tokens : List Token) → drop (length tokens) (views_after before tokens) ≡ []
all_left before [] = refl
all_left before (x ∷ xs) = all_left (Some x.line) xs
