-- The texts of parts, joined one after another.
use Rattle.std.proofs.Common.{◌≡◌, ℕ, ◌+◌, ◌*◌, ◌<◌, ◌≤◌, List, [], ◌∷◌, ◌++◌, length, take, get_or, refl, sym, ap, ◌∙◌, subst, inl, inr, arith, length-append}
use Rattle.std.proofs.lemmas.Bool.{cases_lt}
use Rattle.std.proofs.lemmas.List.{map-append}
use Rattle.std.proofs.lemmas.List.Elements.{All-push}
use Rattle.std.proofs.lemmas.Option.{slice_get_read, slice_get_within}
use Rattle.bl_joined.specs.declared.joined.Joined.{Joined}
use Rattle.bl_joined.specs.Joined.{IsJoinedOf}
use Rattle.bl_joined.specs.Places.{InFile, starts_behind}
use Rattle.bl_joined.specs.Texts.{joined_text}
use Rattle.bl_lex.specs.Rules.{Passes as TextPasses}
use Rattle.bl_link.proofs.Lists.{take-next}
use Rattle.bl_link.specs.Fits.{part_texts}
use Rattle.bl_link.specs.inner.Whole.{ArePartsOf, IsOfFew}
use Rattle.bl_module.specs.Parts.{IsPart, SeenPart}
use Rattle.bl_module.specs.Rules.{in_bytes}
use Rattle.bl_tree.specs.declared.place.Place.{Place}
use Rattle.bl_tree.specs.declared.rule.Rule.TheVariants as rule

-- the rules on bytes hold for the text of a part
pub part_passes : (part : SeenPart) → IsPart part → TextPasses part.text
part_passes part is r p a f = is.passes r p a (in_bytes f)

-- the place of the first byte beyond the longest text that passes
abbrev first_beyond : Place
first_beyond = record { start = 1_048_576; end = 1_048_577 }

pub text_short : (text : List ℕ) → TextPasses text → length text ≤ 1_048_576
text_short text pass = elim (cases_lt 1_048_576 (length text)) [
  | inl long ↦ absurd (pass rule.Size first_beyond [] (record { too_long = long; at = refl }, refl))
  | inr short ↦ short
]

length_more : (texts : List (List ℕ)) (text : List ℕ) → length (joined_text (texts ++ text ∷ [])) ≡ length (joined_text texts) + length text + 1
length_more [] text =
    let here : length (text ++ 10 ∷ []) ≡ 0 + length text + 1 = omega (arith, length-append text (10 ∷ [])) in
    here
length_more (first ∷ texts) text =
    let more = length_more texts text in
    let one : length (first ++ 10 ∷ joined_text (texts ++ text ∷ [])) ≡ length first + (length (joined_text (texts ++ text ∷ [])) + 1) =
    length-append first (10 ∷ joined_text (texts ++ text ∷ [])) ∙ ap (λ n. length first + n) (counted (joined_text (texts ++ text ∷ []))) in
    let other : length (first ++ 10 ∷ joined_text texts) ≡ length first + (length (joined_text texts) + 1) =
    length-append first (10 ∷ joined_text texts) ∙ ap (λ n. length first + n) (counted (joined_text texts)) in
    let middle : length first + (length (joined_text (texts ++ text ∷ [])) + 1) ≡ length first + (length (joined_text texts) + 1) + length text + 1 =
    omega (arith, more) in
    one ∙ middle ∙ ap (λ n. n + length text + 1) (sym other)
  where
    counted : (rest : List ℕ) → length (10 ∷ rest) ≡ length rest + 1
    counted rest = omega arith

-- a text of a part makes the whole longer by its bytes and a line feed
pub grown : (texts : List (List ℕ)) (text : List ℕ) (before after : Joined) → TextPasses text → IsJoinedOf texts before →
    IsJoinedOf (texts ++ text ∷ []) after → length after.text.items ≤ length before.text.items + 1_048_577
grown texts text before after pass is more =
    omega (arith, ap length is.text, ap length more.text, length_more texts text, text_short text pass)

-- ---- several parts

-- the first parts are joined
pub record Joins (parts : List SeenPart) (k : ℕ) (joined : Joined) : Type 0 where
  pub within : k ≤ length parts
  pub are : ArePartsOf (take k parts)
  pub is : IsJoinedOf (part_texts (take k parts)) joined
  pub short : length joined.text.items ≤ 1_048_577 * k

pub joins_next : (parts : List SeenPart) (k : ℕ) (part : SeenPart) (before after : Joined) → k < length parts → part ≡ get_or parts k part →
    Joins parts k before → IsPart part →
    ((texts : List (List ℕ)) → IsJoinedOf texts before → IsJoinedOf (texts ++ part.text ∷ []) after) →
    length after.text.items ≤ length before.text.items + 1_048_577 → Joins parts (k + 1) after
joins_next parts k part before after less at joins keeps more grow =
    let next = take-next parts k part (slice_get_read parts (length parts) k part refl less at) in record {
      within = omega (arith, less);
      are = subst ArePartsOf (sym next) (All-push IsPart (take k parts) part joins.are keeps);
      is = subst (λ (texts : List (List ℕ)). IsJoinedOf texts after)
          (sym (ap part_texts next ∙ map-append (λ (it : SeenPart). it.text) (take k parts) (part ∷ [])))
          (more (part_texts (take k parts)) joins.is);
      short = omega (arith, grow, joins.short);
    }

-- ---- the text in which a place is

starts_length : (offset : ℕ) (texts : List (List ℕ)) → length (starts_behind offset texts) ≡ length texts
starts_length offset [] = refl
starts_length offset (text ∷ texts) =
    let step : length (offset ∷ starts_behind (offset + length text + 1) texts) ≡ length (text ∷ texts) =
    omega (arith, starts_length (offset + length text + 1) texts) in
    step

-- the position of a text in which a place is, is one of a text
pub file_within : (texts : List (List ℕ)) (place : Place) (file : ℕ) (own : Place) → InFile texts place file own → file < length texts
file_within texts place file own is =
    omega (arith, slice_get_within (starts_behind 0 texts) file is.start is.stands, starts_length 0 texts)

pub file_few : (joined : Joined) (place : Place) (file : ℕ) (own : Place) → IsOfFew joined →
    ((texts : List (List ℕ)) → 0 < length texts → IsJoinedOf texts joined → InFile texts place file own) → file < 64
file_few joined place file own few in_file =
    let some : 0 < length few.texts = omega (arith, few.some) in
    omega (arith, file_within few.texts place file own (in_file few.texts some few.is), few.few)
