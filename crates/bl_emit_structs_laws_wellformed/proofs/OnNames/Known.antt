-- Names that are known, and structs that use them alone.
use Rattle.std.proofs.Common.{◌≡◌, Bool, true, false, ◌&&◌, ◌||◌, List, [], ◌∷◌, ◌++◌, refl, sym, subst, ◌∙◌}
use Rattle.std.proofs.lemmas.List.Folds.{list_any-append}
use Rattle.std.proofs.lemmas.Slice.Eq.{bytes_eq-Decides}
use Rattle.std.specs.Prelude.{bytes_eq}
use Rattle.std.specs.List.{list_all}
use Rattle.std.proofs.lemmas.Bool.{and_from, or_left, or_right}
use Rattle.bl_tree.proofs.Basics.{all_weaker, and_first, and_second, first_of_or}
use Rattle.bl_tree.specs.declared.text.Text.{Text}
use Rattle.bl_tree.specs.declared.c.CMember.{CMember}
use Rattle.bl_tree.specs.declared.c.CStruct.{CStruct}
use Rattle.bl_tree.specs.declared.c.CType.{CType}
use Rattle.bl_tree.specs.declared.c.CType.TheVariants.{Scalar as OfScalar, Struct as OfStruct}
use Rattle.bl_emit_structs_laws_wellformed.specs.Names.{are_known, is_known}
use Rattle.bl_emit_structs_laws_wellformed.proofs.OnFormed.Faultless.{has}

-- what is among the first names is among the second
abbrev pub Within : List Text → List Text → Type 0
Within xs ys = (name : Text) → has name xs ≡ true → has name ys ≡ true

pub has_front : (name : Text) (xs ys : List Text) → has name xs ≡ true → has name (xs ++ ys) ≡ true
has_front name xs ys h = list_any-append (bytes_eq name) xs ys ∙ or_left (has name xs) (has name ys) h

pub has_back : (name : Text) (xs ys : List Text) → has name ys ≡ true → has name (xs ++ ys) ≡ true
has_back name xs ys h = list_any-append (bytes_eq name) xs ys ∙ or_right (has name xs) (has name ys) h

pub has_self : (name : Text) → has name (name ∷ []) ≡ true
has_self name = or_left (bytes_eq name name) false ((bytes_eq-Decides name name).1 refl)

pub has_last : (name : Text) (xs : List Text) → has name (xs ++ name ∷ []) ≡ true
has_last name xs = has_back name xs (name ∷ []) (has_self name)

either_of : (a b : Bool) (P : Type 0) → (a || b) ≡ true → (a ≡ true → P) → (b ≡ true → P) → P
either_of true b P h one other = one refl
either_of false b P h one other = other h

-- with one more name on and_from sides
pub within_push : (xs ys : List Text) (new : Text) → Within xs ys → Within (xs ++ new ∷ []) (ys ++ new ∷ [])
within_push xs ys new within name h =
    either_of (has name xs) (has name (new ∷ [])) (has name (ys ++ new ∷ []) ≡ true) (sym (list_any-append (bytes_eq name) xs (new ∷ [])) ∙ h)
    (λ here. has_front name ys (new ∷ []) (within name here)) (λ here. has_back name ys (new ∷ []) here)

-- with a name that is there already
pub within_again : (xs : List Text) (old : Text) → has old xs ≡ true → Within (xs ++ old ∷ []) xs
within_again xs old there name h =
    either_of (has name xs) (has name (old ∷ [])) (has name xs ≡ true) (sym (list_any-append (bytes_eq name) xs (old ∷ [])) ∙ h) (λ here. here)
    (λ here. let same : name ≡ old = (bytes_eq-Decides name old).0 (first_of_or (bytes_eq name old) here) in subst (λ n. has n xs ≡ true) (sym same) there)

pub known_more : (xs ys : List Text) (ty : CType) → Within xs ys → is_known xs ty ≡ true → is_known ys ty ≡ true
known_more xs ys (OfScalar s) within h = refl
known_more xs ys (OfStruct name) within h = within name h

members_more : (xs ys : List Text) (members : List CMember) → Within xs ys → list_all (λ (m : CMember). is_known xs m.ty) members ≡ true
    → list_all (λ (m : CMember). is_known ys m.ty) members ≡ true
members_more xs ys members within h =
    all_weaker (λ (m : CMember). is_known xs m.ty) (λ (m : CMember). is_known ys m.ty) (λ m. known_more xs ys m.ty within) members h

abbrev pub members_known : List Text → CStruct → Bool
members_known names s = list_all (λ (m : CMember). is_known names m.ty) s.members

pub structs_more : (xs ys : List Text) (structs : List CStruct) → Within xs ys → are_known xs structs ≡ true → are_known ys structs ≡ true
structs_more xs ys [] within h = refl
structs_more xs ys (s ∷ rest) within h =
    and_from (members_known ys s) (are_known (ys ++ s.name ∷ []) rest)
    (members_more xs ys s.members within (and_first (members_known xs s) (are_known (xs ++ s.name ∷ []) rest) h))
    (structs_more (xs ++ s.name ∷ []) (ys ++ s.name ∷ []) rest (within_push xs ys s.name within)
    (and_second (members_known xs s) (are_known (xs ++ s.name ∷ []) rest) h))
