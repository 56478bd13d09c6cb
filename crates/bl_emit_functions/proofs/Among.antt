-- Names that C reads, as a set and as a list.
use Rattle.std.proofs.Common.{◌≡◌, Bool, true, false, if◌then◌else◌, ◌||◌, List, [], ◌∷◌, ◌++◌, map, refl, sym, ap, ◌∙◌}
use Rattle.std.specs.Prelude.{bytes_eq}
use Rattle.std.specs.Borrow.{Bor}
use Rattle.std.specs.List.{list_any}
use Rattle.std.proofs.Math.Bool.{or-false, or_assoc}
use Rattle.std.proofs.lemmas.Cmp.{nat_list_eq_equiv}
use Rattle.indexmap.specs.IndexSet.{insert_key}
use Rattle.bl_tree.specs.declared.text.Text.{Text}
use Rattle.bl_tree.specs.Words.{is_among}

-- the names in their order
abbrev texts : List (Bor Text) → List Text
texts keys = map (λ key. key.now) keys

-- a name is in the set where it is in the list
pub among-texts : (asked : Text) (keys : List (Bor Text)) → list_any (λ key. bytes_eq asked key.now) keys ≡ is_among asked (texts keys)
among-texts asked [] = refl
among-texts asked (key ∷ keys) = ap (λ rest. bytes_eq asked key.now || rest) (among-texts asked keys)

module _ (asked : Text) (key : Bor Text) where
  -- a name behind others
  among-behind : (keys : List (Bor Text)) → is_among asked (texts (keys ++ key ∷ [])) ≡ (is_among asked (texts keys) || bytes_eq key.now asked)
  among-behind [] = or-false (bytes_eq asked key.now) ∙ nat_list_eq_equiv.symm asked key.now
  among-behind (first ∷ keys) =
      ap (λ rest. bytes_eq asked first.now || rest) (among-behind keys)
      ∙ sym (or_assoc (bytes_eq asked first.now) (is_among asked (texts keys)) (bytes_eq key.now asked))

  -- names that are equal are in the same lists
  among-alike : (keys : List (Bor Text)) → bytes_eq key.now asked ≡ true → list_any (λ other. bytes_eq key.now other.now) keys ≡ is_among asked (texts keys)
  among-alike [] same = refl
  among-alike (first ∷ keys) same = λ i. nat_list_eq_equiv.congr key.now asked first.now same i || among-alike keys same i

  -- a name that is there already
  among-before : (keys : List (Bor Text)) → list_any (λ other. bytes_eq key.now other.now) keys ≡ true →
      is_among asked (texts keys) ≡ (is_among asked (texts keys) || bytes_eq key.now asked)
  among-before keys there = by (bytes_eq key.now asked) refl
    where
      by : (same : Bool) → bytes_eq key.now asked ≡ same → is_among asked (texts keys) ≡ (is_among asked (texts keys) || same)
      by false is = sym (or-false (is_among asked (texts keys)))
      by true is =
          let among : is_among asked (texts keys) ≡ true = sym (among-alike keys is) ∙ there in
          among ∙ ap (λ b. b || true) (sym among)

  -- names with one more
  pub among-more : (keys : List (Bor Text)) →
      is_among asked (texts (insert_key (λ x y. bytes_eq x.now y.now) keys key)) ≡ (is_among asked (texts keys) || bytes_eq key.now asked)
  among-more keys = by (list_any (λ other. bytes_eq key.now other.now) keys) refl
    where
      by : (there : Bool) → list_any (λ other. bytes_eq key.now other.now) keys ≡ there →
          is_among asked (texts (if there then keys else keys ++ key ∷ [])) ≡ (is_among asked (texts keys) || bytes_eq key.now asked)
      by true is = among-before keys is
      by false is = among-behind keys
