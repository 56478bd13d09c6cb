-- A file whose places are set keeps its tokens and its spelling.
use Rattle.std.proofs.Common.{◌≡◌, ℕ, Bool, nat_le, List, [], ◌∷◌, ◌++◌, length, map, refl, sym, ap, ◌∙◌}
use Rattle.std.specs.Prelude.{◌&&◌}
use Rattle.bl_tree.specs.declared.c.CStruct.{CStruct}
use Rattle.bl_tree.specs.declared.c.CFunc.{CFunc}
use Rattle.bl_tree.specs.Reduce.{all_of, joined}
use Rattle.bl_ctext.specs.Prelude.{prelude}
use Rattle.bl_ctext.specs.declared.prelude.TheConstants.{PRELUDE}
use Rattle.bl_ctext.specs.Token.{Token}
use Rattle.bl_ctext.specs.Spelling.{struct_tokens, func_tokens, tokens_of}
use Rattle.bl_ctext.specs.Spellable.{has_any, is_spellable, most_open, spells_func, spells_struct}
use Rattle.bl_cparse.specs.HasPlaces.{TextSpot, and_then, func_walk, in_turn, struct_walk}
use Rattle.bl_cparse.proofs.FileLemmas.{prelude_is}

any_map : {A B : Type 0} (f : A → B) (xs : List A) → has_any (map f xs) ≡ has_any xs
any_map f [] = refl
any_map f (x ∷ xs) = refl

any_same : {A B : Type 0} (f : A → B) (xs ys : List A) → map f xs ≡ map f ys → has_any xs ≡ has_any ys
any_same f xs ys e = sym (any_map f xs) ∙ (ap has_any e ∙ any_map f ys)

module _ (structs made : List CStruct) (funcs placed : List CFunc) (s : map struct_tokens made ≡ map struct_tokens structs)
    (f : map func_tokens placed ≡ map func_tokens funcs) where
  pub tokens_same : tokens_of made placed ≡ tokens_of structs funcs
  tokens_same = ap (λ ts. joined ts ++ joined (map func_tokens placed)) s ∙ ap (λ ts. joined (map struct_tokens structs) ++ joined ts) f

  abbrev spellable_of : Bool → Bool → Bool → Bool → List Token → Bool
  spellable_of a b c d ts = a && (b && (c && (d && nat_le (most_open 0 ts) 2000)))

  pub spellable_same : map spells_struct made ≡ map spells_struct structs → map spells_func placed ≡ map spells_func funcs →
      is_spellable made placed ≡ is_spellable structs funcs
  spellable_same h k =
      ap (λ b. spellable_of b (has_any placed) (all_of (map spells_struct made)) (all_of (map spells_func placed))
      (tokens_of made placed)) (any_same struct_tokens made structs s)
      ∙ (ap (λ b. spellable_of (has_any structs) b (all_of (map spells_struct made)) (all_of (map spells_func placed))
      (tokens_of made placed)) (any_same func_tokens placed funcs f)
      ∙ (ap (λ bs. spellable_of (has_any structs) (has_any funcs) (all_of bs) (all_of (map spells_func placed)) (tokens_of made placed)) h
      ∙ (ap (λ bs. spellable_of (has_any structs) (has_any funcs) (all_of (map spells_struct structs)) (all_of bs) (tokens_of made placed)) k
      ∙ ap (λ ts. spellable_of (has_any structs) (has_any funcs) (all_of (map spells_struct structs)) (all_of (map spells_func funcs)) ts) tokens_same)))

abbrev pub pair : List CStruct → List CFunc → List CStruct × List CFunc
pair structs funcs = (structs, funcs)

abbrev pub standing : List ℕ → List ℕ → TextSpot
standing text front = record { text = text; at = length front }

there : (text : List ℕ) (from : TextSpot) → from ≡ standing text PRELUDE.now → standing text prelude ≡ from
there text from is = ap (standing text) (sym prelude_is) ∙ sym is

abbrev pub has_places : List ℕ → List CStruct → List CFunc → Type 0
has_places text structs funcs = (and_then pair (in_turn (map struct_walk structs) (standing text prelude))
    (in_turn (map func_walk funcs))).0 ≡ pair structs funcs

-- both walks, one behind the other
pub walked : (text : List ℕ) (structs : List CStruct) (funcs : List CFunc) (from between behind : TextSpot) → from ≡ standing text PRELUDE.now →
    in_turn (map struct_walk structs) from ≡ (structs, between) → in_turn (map func_walk funcs) between ≡ (funcs, behind) →
    has_places text structs funcs
walked text structs funcs from between behind is h k =
    ap (λ spot. (and_then pair (in_turn (map struct_walk structs) spot) (in_turn (map func_walk funcs))).0) (there text from is)
    ∙ (ap (λ r. (and_then pair r (in_turn (map func_walk funcs))).0) h ∙ ap (λ (r : List CFunc × TextSpot). pair structs r.0) k)
