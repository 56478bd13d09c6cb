-- Which token a kind is, from the tests that code makes of it, and what was read of a name.
use Rattle.std.proofs.Common.{◌≡◌, ℕ, ◌<◌, Bool, true, false, not, ◌&&◌, ◌||◌, ◌⊎◌, inl, inr, ⊎_elim, List, [], ◌∷◌, slice_range, refl, ap, sym, ◌∙◌, arith}
use Rattle.std.proofs.Common.{lit≤}
use Rattle.std.specs.Prelude.{nat_le}
use Rattle.std.specs.List.{list_all}
use Rattle.std.specs.Char.{is_ascii_digit}
use Rattle.std.specs.Int.{is_in_range}
use Rattle.std.specs.Str.{IsAscii, IsUtf8}
use Rattle.std.proofs.lemmas.Bool.{leb-true, eqb-true}
use Rattle.std.proofs.lemmas.Str.{IsUtf8-from_ascii}
use Rattle.std.proofs.lemmas.Str.Ascii.{IsAscii-nil, IsAscii-cons}
use Rattle.bl_tree.specs.Words.{is_word_byte, is_plain_word, is_name}
use Rattle.bl_tree.specs.declared.token.Token.{Token}
use Rattle.bl_tree.specs.declared.token.TokenKind.{TokenKind}
use Rattle.bl_tree.specs.declared.token.TokenKind.TheVariants.{Sign}
use Rattle.bl_parse_tree.specs.declared.name.Name.{Name}
use Rattle.bl_parse.specs.At.{start_at, end_at, name_at}

pub sign_is : {kind : TokenKind} {k n m : ℕ} → kind ≡ Sign k → m ≡ k → m ≡ n → kind ≡ Sign n
sign_is is same test = is ∙ ap Sign (sym same ∙ test)

-- what was read of a name is the name at the token
pub name_spelled : (text : List ℕ) (tokens : List Token) (k : ℕ) {bytes : List ℕ} {start end : ℕ} →
    bytes ≡ slice_range text (start_at tokens k) (end_at tokens k)
    → start ≡ start_at tokens k → end ≡ end_at tokens k
    → let read : Name = record { text = bytes; place = record { start = start; end = end } } in read ≡ name_at text tokens k
name_spelled text tokens k spelled start end = cc

either : (a b : Bool) → a || b ≡ true → (a ≡ true) ⊎ (b ≡ true)
either true b e = inl refl
either false b e = inr e

both : (a b : Bool) → a && b ≡ true → (a ≡ true) × (b ≡ true)
both true b e = (refl, e)
both false b e = absurd (no_truth e)
  where
    no_truth : false ≡ true → ⊥
    no_truth e = cc

in_range : (low high c : ℕ) → is_in_range low high c ≡ true → high < 128 → c < 128
in_range low high c e small = let le = leb-true c high (both (nat_le low c) (nat_le c high) e).1 in omega (arith, le, small)

word_byte_ascii : (b : ℕ) → is_word_byte b ≡ true → b < 128
word_byte_ascii b e = ⊎_elim (λ h. ⊎_elim (λ g. ⊎_elim (λ d. in_range 48 57 b d (lit≤ tt)) (λ d. in_range 65 90 b d (lit≤ tt))
    (either _ _ g)) (λ g. in_range 97 122 b g (lit≤ tt)) (either _ _ h))
    (λ h. let is : b ≡ 95 = eqb-true b 95 h in omega (arith, is)) (either _ _ e)

word_ascii : (w : List ℕ) → list_all is_word_byte w ≡ true → IsAscii w
word_ascii [] e = IsAscii-nil
word_ascii (b ∷ bs) e = let h = both (is_word_byte b) _ e in IsAscii-cons b bs (word_byte_ascii b h.0) (word_ascii bs h.1)

-- the text of a name is UTF-8
pub name_is_utf8 : (w : List ℕ) → is_name w ≡ true → IsUtf8 w
name_is_utf8 [] e = IsUtf8-from_ascii [] IsAscii-nil
name_is_utf8 (b ∷ bs) e = IsUtf8-from_ascii (b ∷ bs) (word_ascii (b ∷ bs) (both (not (is_ascii_digit b)) _ (both (is_plain_word (b ∷ bs)) _ e).0).1)

pub named_there : (text : List ℕ) {a b s e : ℕ} → a ≡ s → b ≡ e → is_name (slice_range text s e) ≡ true →
    is_name (slice_range text a b) ≡ true
named_there text ea eb h = rw (ea, eb) h
