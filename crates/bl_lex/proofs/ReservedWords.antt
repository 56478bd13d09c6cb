-- A table of reserved words is right and whole if tests say so, which compute for each table.
use Rattle.std.proofs.str.Laws.{order}
use Rattle.std.proofs.lemmas.List.{get_or_default}
use Rattle.std.proofs.Common.{ap, ◌≡◌, ◌≢◌, ℕ, suc, ◌+◌, ◌<◌, get_or, ⊎_elim, ◌≤◌, Bool, true, false, not, ◌&&◌, ◌||◌, ◌==◌, List, [], ◌∷◌, length, refl, sym}
use Rattle.std.proofs.Common.{◌∙◌, arith, leb-true}
use Rattle.std.proofs.lemmas.Bool.{eq-eqb}
use Rattle.std.proofs.lemmas.List.Sums.{AllPass-from_list_all}
use Rattle.std.proofs.lemmas.List.Folds.{list_any_none}
use Rattle.std.proofs.lemmas.Slice.Eq.{bytes_eq-Decides}
use Rattle.std.specs.Prelude.{Option, Some, None, slice_get, nat_le}
use Rattle.std.specs.List.{list_all, list_any}
use Rattle.std.specs.Str.{bytes_eq}
use Rattle.std.proofs.lemmas.Bool.{false_from_ne_true}
use Rattle.bl_tree.proofs.Basics.{all_at}
use Rattle.bl_tree.specs.Keywords.{position}
use Rattle.bl_lex.specs.declared.reserved.Meaning.{Meaning}
use Rattle.bl_lex.specs.declared.reserved.Meaning.TheVariants.{Keyword, Outside}
use Rattle.bl_lex.specs.declared.reserved.Reserved.{Reserved}
use Rattle.bl_lex.specs.Spelling.{keywords, words_outside}
use Rattle.bl_lex.specs.inner.Steps.{IsMeaningOf, AreReservedOf}

-- the word there is this text
abbrev pub is_spelled : Option (List ℕ) → List ℕ → Bool
is_spelled None text = false
is_spelled (Some word) text = bytes_eq word text

Some-is_spelled : (o : Option (List ℕ)) (text : List ℕ) → is_spelled o text ≡ true → o ≡ Some text
Some-is_spelled None text is = cc
Some-is_spelled (Some word) text is = let e = (bytes_eq-Decides word text).0 is in cc

-- a word of the list passes the test
pub found_by : {X : Type 0} (p : X → Bool) (xs : List X) → list_any p xs ≡ true →
    (k : ℕ) × ((x : X) × (slice_get xs k ≡ Some x) × (p x ≡ true))
found_by p [] is = cc
found_by {X} p (x ∷ xs) is = first (p x) refl is (found_by p xs)
  where
    first : (b : Bool) → p x ≡ b → (b || list_any p xs) ≡ true →
        (list_any p xs ≡ true → (k : ℕ) × ((y : X) × (slice_get xs k ≡ Some y) × (p y ≡ true))) →
        (k : ℕ) × ((y : X) × (slice_get (x ∷ xs) k ≡ Some y) × (p y ≡ true))
    first true e either later = (0, (x, refl, e))
    first false e either later = let h = later either in (suc h.0, h.1)

-- the meaning is that of the text
abbrev pub means : List ℕ → Meaning → Bool
means text (Keyword k) = is_spelled (slice_get keywords (position k)) text
means text Outside = list_any (bytes_eq text) words_outside

IsMeaningOf-means : (text : List ℕ) (meaning : Meaning) → means text meaning ≡ true → IsMeaningOf text meaning
IsMeaningOf-means text (Keyword k) is = Some-is_spelled (slice_get keywords (position k)) text is
IsMeaningOf-means text Outside is = let h = found_by (bytes_eq text) words_outside is in (h.0, let e = (bytes_eq-Decides text h.1.0).0 h.1.2 in cc)

unfoldable pub is_right : Reserved → Bool
is_right entry = means entry.text.now entry.meaning

-- the word has another length, or stands in the table
unfoldable pub is_listed : ℕ → List Reserved → List ℕ → Bool
is_listed n entries word = not (length word == n) || list_any (λ entry. bytes_eq entry.text.now word) entries

listed_absent : (n : ℕ) (entries : List Reserved) (word : List ℕ) → length word ≡ n →
    list_any (λ entry. bytes_eq entry.text.now word) entries ≡ false → is_listed n entries word ≡ true → ⊥
unfolding is_listed
listed_absent n entries word length_is none listed = let same = eq-eqb (length word) n length_is in grind (arith, same, none)

pub are_reserved : (n : ℕ) (entries : List Reserved) → list_all is_right entries ≡ true →
    list_all (is_listed n entries) keywords ≡ true → list_all (is_listed n entries) words_outside ≡ true → AreReservedOf n entries
unfolding is_right is_listed
are_reserved n entries right listed listed_outside = record {
  right = λ k d inside. IsMeaningOf-means _ _ (AllPass-from_list_all is_right entries right k d inside);
  complete = λ word length_is absent.
      let none : list_any (λ entry. bytes_eq entry.text.now word) entries ≡ false =
      list_any_none _ entries (λ k d inside. false_from_ne_true _ (λ e. absent k d inside ((bytes_eq-Decides _ _).0 e))) in
      record {
        no_keyword = λ k is. let h = all_at (is_listed n entries) keywords k word listed is in listed_absent n entries word length_is none h;
        not_outside = λ k is. let h = all_at (is_listed n entries) words_outside k word listed_outside is in listed_absent n entries word length_is none h;
      };
}

-- the table has no text up to a place, and not there
pub absent-push : (entries : List Reserved) (word : List ℕ) (i : ℕ) →
    ((k : ℕ) (d : Reserved) → k < i → (get_or entries k d).text.now ≢ word) →
    ((d : Reserved) → (get_or entries i d).text.now ≢ word) → (k : ℕ) (d : Reserved) → k < i + 1 → (get_or entries k d).text.now ≢ word
absent-push entries word i before here k d h = ⊎_elim (λ less. before k d less) (λ more. let e : k ≡ i = omega arith in rw e (here d)) (order k i)

-- the text at a place, if its bytes aren't the word's, isn't the word
pub absent-here : (entries : List Reserved) (word bytes : List ℕ) (i : ℕ) (e : Reserved) → i < length entries →
    bytes ≡ (get_or entries i e).text.now → bytes_eq bytes word ≡ false → (d : Reserved) → (get_or entries i d).text.now ≢ word
absent-here entries word bytes i e inside is differs d same =
    let default : (get_or entries i d).text.now ≡ (get_or entries i e).text.now = ap (λ (r : Reserved). r.text.now) (get_or_default entries i d e inside) in
    let yes : bytes_eq bytes word ≡ true = (bytes_eq-Decides bytes word).1 (is ∙ sym default ∙ same) in cc

-- a reserved word has from two to nine bytes
is_sized : List ℕ → Bool
is_sized word = nat_le 2 (length word) && nat_le (length word) 9

keywords_sized : list_all is_sized keywords ≡ true
unfolding keywords is_sized
keywords_sized = refl

words_outside_sized : list_all is_sized words_outside ≡ true
unfolding words_outside is_sized
words_outside_sized = refl

sized : (word : List ℕ) → is_sized word ≡ true → (2 ≤ length word) × (length word ≤ 9)
unfolding is_sized
sized word is = (leb-true 2 (length word) (grind arith), leb-true (length word) 9 (grind arith))

pub none_reserved : (n : ℕ) → (2 ≤ n → 9 < n) → AreReservedOf n []
none_reserved n other = record {
  right = λ k d inside. absurd (omega arith);
  complete = λ word length_is absent. record {
    no_keyword = λ k is. let h = sized word (all_at is_sized keywords k word keywords_sized is) in let g = other (omega arith) in omega arith;
    not_outside = λ k is. let h = sized word (all_at is_sized words_outside k word words_outside_sized is) in let g = other (omega arith) in omega arith;
  };
}
