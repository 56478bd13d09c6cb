-- What names stand for, in scopes that correspond.
use Rattle.std.proofs.Common.{◌≡◌, ℕ, Bool, true, false, List, [], ◌∷◌, ◌++◌, map, refl, ap, ap₂, sym, ◌∙◌}
use Rattle.std.specs.Prelude.{All, Option, Some, None}
use Rattle.std.proofs.lemmas.List.Elements.{All-cons, All-head, All-nil, All-tail}
use Rattle.bl_tree.specs.declared.place.Place.{Place}
use Rattle.bl_tree.specs.Reduce.{joined}
use Rattle.bl_tree_laws_places.proofs.Lists.{map-same, map-twice}
use Rattle.bl_joined.specs.Trees.{placed_name}
use Rattle.bl_names.proofs.FitLemmas.{Fits, IsFit, fits_behind, fits_first}
use Rattle.bl_names.proofs.StillLemmas.{Still}
use Rattle.bl_names.specs.Naming.{named_root, position, position_of, root_at, root_of}
use Rattle.bl_names_scopes.specs.declared.kind.Kind.{Kind}
use Rattle.bl_names_scopes.specs.declared.kind.Kind.TheVariants as kind
use Rattle.bl_names_scopes.specs.declared.kind.Wanted.{Wanted}
use Rattle.bl_names_scopes.specs.declared.kind.Wanted.TheVariants as wanted
use Rattle.bl_names_scopes.specs.declared.scopes.Counts.{Counts}
use Rattle.bl_names_scopes.specs.declared.scopes.Declaration.{Declaration}
use Rattle.bl_names_scopes.specs.Kinds.{suits}
use Rattle.bl_names_scopes.specs.Marks.{Marks}
use Rattle.bl_names_scopes.specs.Scopes.{Scopes, bound}
use Rattle.bl_names_scopes_laws_places.specs.Agree.{SameDeclaration, ScopesAgree, other_position}
use Rattle.bl_names_scopes_laws_places.proofs.Agreeing.{SameFound, bound_agrees}
use Rattle.bl_names_tree.specs.declared.expr.Root.{Root}
use Rattle.bl_names_tree.specs.declared.expr.Root.TheVariants as root
use Rattle.bl_parse_tree.specs.declared.name.Name.{Name}
use Rattle.bl_names_laws_places.specs.Renamed.{Renaming, renamed_root}

-- whether something else than a constant is wanted
abbrev pub is_fixed : Wanted → Bool
is_fixed wanted.Length = false
is_fixed wanted.Value = false
is_fixed _ = true

-- what isn't a constant keeps its position
fixed_position : (renumber : ℕ → ℕ) (needed : Wanted) (of : Kind) → suits needed of ≡ true → is_fixed needed ≡ true → (k : ℕ) →
    other_position renumber of k ≡ k
fixed_position renumber needed kind.Struct suited fixed k = refl
fixed_position renumber needed kind.Variable suited fixed k = refl
fixed_position renumber needed kind.Function suited fixed k = refl
fixed_position renumber needed kind.Activity suited fixed k = refl
fixed_position renumber needed kind.Field suited fixed k = refl
fixed_position renumber wanted.Type kind.Constant suited fixed k = absurd cc
fixed_position renumber wanted.Length kind.Constant suited fixed k = absurd cc
fixed_position renumber wanted.Function kind.Constant suited fixed k = absurd cc
fixed_position renumber wanted.Activity kind.Constant suited fixed k = absurd cc
fixed_position renumber wanted.Variable kind.Constant suited fixed k = absurd cc
fixed_position renumber wanted.Value kind.Constant suited fixed k = absurd cc

-- a length is a constant, which has its other position
length_position : (renumber : ℕ → ℕ) (of : Kind) → suits wanted.Length of ≡ true → (k : ℕ) → other_position renumber of k ≡ renumber k
length_position renumber kind.Constant suited k = refl
length_position renumber kind.Struct suited k = absurd cc
length_position renumber kind.Variable suited k = absurd cc
length_position renumber kind.Function suited k = absurd cc
length_position renumber kind.Activity suited k = absurd cc
length_position renumber kind.Field suited k = absurd cc

-- the position of what was found, where a declaration was
found_position : (renumber : ℕ → ℕ) (one other : Option Declaration) (d : Declaration) → SameFound renumber one other → one ≡ Some d →
    position_of other ≡ other_position renumber d.kind (position_of one)
found_position renumber None None d same is = absurd cc
found_position renumber None (Some e) d same is = absurd same
found_position renumber (Some own) None d same is = absurd same
found_position renumber (Some own) (Some e) d same is =
    same.position ∙ ap (λ (found : Option Declaration). other_position renumber (kind_or d found) own.position) is
  where
    kind_or : Declaration → Option Declaration → Kind
    kind_or d (Some x) = x.kind
    kind_or d None = d.kind

-- what a name stands for doesn't hang on what was counted
pub fit_there : (scopes : Scopes) (counts : Counts) {name : Name} {needed : Wanted} → IsFit (record scopes { counts = counts }) name needed →
    IsFit scopes name needed
fit_there scopes counts fit = record { declaration = fit.declaration; is_bound = fit.is_bound; is_suited = fit.is_suited }

module _ (by : Renaming) (one other : Scopes) (agree : ScopesAgree by.constant one other) where
  -- a name of something else than a constant has its position
  pub position_same : (name : Name) (needed : Wanted) → is_fixed needed ≡ true → IsFit one name needed →
      position other (placed_name by.place name) ≡ position one name
  position_same name needed fixed fit =
      found_position by.constant (bound one name.text) (bound other name.text) fit.declaration (bound_agrees by.constant name.text one other agree)
      fit.is_bound
      ∙ fixed_position by.constant needed fit.declaration.kind fit.is_suited fixed (position one name)

  -- a name of a length has its other position
  pub length_same : (name : Name) → IsFit one name wanted.Length → position other (placed_name by.place name) ≡ by.constant (position one name)
  length_same name fit =
      found_position by.constant (bound one name.text) (bound other name.text) fit.declaration (bound_agrees by.constant name.text one other agree)
      fit.is_bound
      ∙ length_position by.constant fit.declaration.kind fit.is_suited (position one name)

  root_kinds : (of : Kind) (k : ℕ) → root_at of (other_position by.constant of k) ≡ renamed_root by (root_at of k)
  root_kinds kind.Struct k = refl
  root_kinds kind.Constant k = refl
  root_kinds kind.Variable k = refl
  root_kinds kind.Function k = refl
  root_kinds kind.Activity k = refl
  root_kinds kind.Field k = refl

  root_found : (a b : Option Declaration) → SameFound by.constant a b → root_of b ≡ renamed_root by (root_of a)
  root_found None None same = refl
  root_found None (Some e) same = absurd same
  root_found (Some d) None same = absurd same
  root_found (Some d) (Some e) same = ap₂ root_at same.kind same.position ∙ root_kinds d.kind d.position

  pub root_same : (name : Name) → named_root other (placed_name by.place name) ≡ renamed_root by (named_root one name)
  root_same name = root_found (bound one name.text) (bound other name.text) (bound_agrees by.constant name.text one other agree)

-- ---- parts in a list

-- where the marks of a list fit, so do those of each element, if they change no scope
pub each_fits : {X : Type 0} (marks : X → Marks) → ((x : X) → Still (marks x)) → (scopes : Scopes) (xs : List X) →
    Fits scopes (joined (map marks xs)) → All (λ x. Fits scopes (marks x)) xs
each_fits marks still scopes [] fits = All-nil (λ x. Fits scopes (marks x))
each_fits marks still scopes (x ∷ xs) fits =
    All-cons (λ x. Fits scopes (marks x)) x xs (fits_first scopes (marks x) (joined (map marks xs)) fits)
    (each_fits marks still scopes xs (fits_behind scopes (marks x) (joined (map marks xs)) (still x) fits))

-- what holds of each element where its marks fit, holds of each where they all do
pub both_ways : {X : Type 0} (P Q : X → Type 0) (xs : List X) → All (λ x. P x → Q x) xs → All P xs → All Q xs
both_ways P Q [] imply all = All-nil Q
both_ways P Q (x ∷ xs) imply all =
    All-cons Q x xs (All-head (λ x. P x → Q x) x xs imply (All-head P x xs all))
    (both_ways P Q xs (All-tail (λ x. P x → Q x) x xs imply) (All-tail P x xs all))

-- lists that are made in two ways
pub map-made : {A B C : Type 0} (far : A → B) (placed : C → A) (renamed : B → B) (near : C → B) (xs : List C) →
    All (λ x. far (placed x) ≡ renamed (near x)) xs → map far (map placed xs) ≡ map renamed (map near xs)
map-made far placed renamed near xs all =
    map-twice far placed xs ∙ map-same (λ x. far (placed x)) (λ x. renamed (near x)) xs all ∙ sym (map-twice renamed near xs)
