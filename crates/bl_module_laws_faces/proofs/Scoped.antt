-- Names in the scope of a file, and what they stand for among the names that its face declares.
use Rattle.std.proofs.Common.{◌≡◌, ℕ, ◌<◌, ◌≤◌, true, false, cond, List, [], ◌∷◌, ◌++◌, Some, None, refl, sym, ap, subst, ◌∙◌, arith}
use Rattle.std.proofs.lemmas.Option.{same_Some}
use Rattle.std.specs.Map.{lookup}
use Rattle.std.specs.Option.{option_or}
use Rattle.std.specs.Prelude.{bytes_eq, is_none, slice_index}
use Rattle.bl_module.specs.declared.names.Referent.{Referent}
use Rattle.bl_module.specs.declared.names.Referent.TheVariants as referent
use Rattle.bl_module.specs.Names.{DeclaredNames, is_new, referent_of, with_name}
use Rattle.bl_module_laws_faces.proofs.Lookups.{SameTexts, absent_alike, found_last, texts_next}
use Rattle.bl_module_laws_faces.proofs.Types.{DepthsTold, Resolves, StandsForStruct}
use Rattle.bl_names_scopes.specs.declared.kind.Kind.{Kind}
use Rattle.bl_names_scopes.specs.declared.kind.Kind.TheVariants as kind
use Rattle.bl_names_scopes.specs.declared.kind.Wanted.TheVariants as wanted
use Rattle.bl_names_scopes.specs.declared.scopes.Counts.{Counts}
use Rattle.bl_names_scopes.specs.declared.scopes.Declaration.{Declaration}
use Rattle.bl_names_scopes.specs.Kinds.{suits}
use Rattle.bl_names_scopes.specs.Marks.{declares, opens}
use Rattle.bl_names_scopes.specs.Scopes.{Scopes, bound, bound_around, count_of, declaration_of, declared, enter, found}
use Rattle.bl_parse_tree.specs.declared.name.Name.{Name}

-- the file's scope alone is open, its names are those of the face in order, and they stand for the same structs
pub record NamesAgree (known : List ℕ) (n : ℕ) (names : DeclaredNames) (scopes : Scopes) : Type 0 where
  pub alone : scopes.outer ≡ []
  pub texts : SameTexts scopes.inner names
  pub resolves : Resolves names scopes
  pub told : DepthsTold known n names

-- ---- where one name more is declared

-- a declared name is the last of its scope
pub declared_last : (scopes : Scopes) (counts : Counts) (name : Name) (as_kind : Kind) → found scopes.inner name.text ≡ None →
    (enter (record scopes { counts = counts }) (declares name as_kind)).inner
    ≡ scopes.inner ++ (name.text, declaration_of name as_kind (count_of counts as_kind)) ∷ []
declared_last scopes counts name as_kind absent = ap (λ earlier. declared earlier scopes.inner name as_kind (count_of counts as_kind)) absent

module _ (known : List ℕ) (n m : ℕ) (names : DeclaredNames) (scopes : Scopes) (counts : Counts) (name : Name) (as_kind : Kind) (as_what : Referent)
    (more : n ≤ m) (agree : NamesAgree known n names scopes) (absent : found scopes.inner name.text ≡ None)
    (as_struct : suits wanted.Type as_kind ≡ true → (depth : ℕ) × (as_what ≡ referent.Struct (count_of counts as_kind) depth))
    (as_told : (at depth : ℕ) → as_what ≡ referent.Struct at depth → (depth ≡ slice_index known at) × (at < m)) where
  abbrev d : Declaration
  d = declaration_of name as_kind (count_of counts as_kind)

  abbrev new : Scopes
  new = enter (record scopes { counts = counts }) (declares name as_kind)

  bound_is : (text : List ℕ) → bound new text ≡ option_or (option_or (found scopes.inner text) (cond (bytes_eq text name.text) (Some d) None)) None
  bound_is text =
      (λ i. option_or (found (declared_last scopes counts name as_kind absent i) text) (bound_around (agree.alone i) text))
      ∙ ap (λ first. option_or first None) (found_last text scopes.inner name.text d)

  stands_last : (text : List ℕ) → referent_of (with_name names name.text as_what) text
      ≡ option_or (referent_of names text) (cond (bytes_eq text name.text) (Some as_what) None)
  stands_last text = found_last text names name.text as_what

  -- a name that the scope had
  stands_still : (text : List ℕ) (at : ℕ) → StandsForStruct names text at → StandsForStruct (with_name names name.text as_what) text at
  stands_still text at stands = record {
    depth = stands.depth;
    is = stands_last text ∙ ap (λ earlier. option_or earlier (cond (bytes_eq text name.text) (Some as_what) None)) stands.is;
  }

  -- the new name
  stands_new : (text : List ℕ) (e : Declaration) → bytes_eq text name.text ≡ true → found scopes.inner text ≡ None → d ≡ e →
      suits wanted.Type e.kind ≡ true → StandsForStruct (with_name names name.text as_what) text e.position
  stands_new text e same none is suited =
      let struct = as_struct (ap (λ (d : Declaration). suits wanted.Type d.kind) is ∙ suited) in
      record {
        depth = struct.0;
        is = stands_last text
            ∙ (λ i. option_or (absent_alike text scopes.inner names agree.texts none i) (cond (same i) (Some as_what) None))
            ∙ ap Some struct.1 ∙ ap (λ (d : Declaration). Some (referent.Struct d.position struct.0)) is;
      }

  resolves_next : Resolves (with_name names name.text as_what) new
  resolves_next text e is suited =
      elim (found scopes.inner text) as (λ first. found scopes.inner text ≡ first →
      option_or (option_or first (cond (bytes_eq text name.text) (Some d) None)) None ≡ Some e →
      StandsForStruct (with_name names name.text as_what) text e.position) [
        | Some earlier ↦ λ there same.
            stands_still text e.position
            (agree.resolves text e (ap (λ first. option_or first (bound_around scopes.outer text)) there ∙ same) suited)
        | None ↦ λ there same.
            elim (bytes_eq text name.text) as (λ test. bytes_eq text name.text ≡ test → option_or (cond test (Some d) None) None ≡ Some e →
            StandsForStruct (with_name names name.text as_what) text e.position) [
              | true ↦ λ alike this. stands_new text e alike there (same_Some d e this) suited
              | false ↦ λ alike this. absurd (cc)
            ] refl same
      ] refl (sym (bound_is text) ∙ is)

  told_next : DepthsTold known m (with_name names name.text as_what)
  told_next text at depth is =
      elim (referent_of names text) as (λ first. referent_of names text ≡ first →
      option_or first (cond (bytes_eq text name.text) (Some as_what) None) ≡ Some (referent.Struct at depth) → (depth ≡ slice_index known at) × (at < m)) [
        | Some earlier ↦ λ there same. let told = agree.told text at depth (there ∙ same) in (told.0, omega (arith, told.1, more))
        | None ↦ λ there same.
            elim (bytes_eq text name.text) as (λ test. cond test (Some as_what) None ≡ Some (referent.Struct at depth) →
            (depth ≡ slice_index known at) × (at < m)) [
              | true ↦ λ this. as_told at depth (same_Some as_what (referent.Struct at depth) this)
              | false ↦ λ this. absurd (cc)
            ] same
      ] refl (sym (stands_last text) ∙ is)

  pub names_next : NamesAgree known m (with_name names name.text as_what) new
  names_next = record {
    alone = agree.alone;
    texts = subst (λ inner. SameTexts inner (with_name names name.text as_what)) (sym (declared_last scopes counts name as_kind absent))
        (texts_next scopes.inner names name.text d as_what agree.texts);
    resolves = resolves_next;
    told = told_next;
  }

-- a name that is new in a scope is new among names that are the same
pub new_alike : {A : Type 0} (text : List ℕ) (scope : List (List ℕ × A)) (names : DeclaredNames) → SameTexts scope names → lookup (bytes_eq text) scope ≡ None →
    is_new names text ≡ true
new_alike text scope names same none = ap is_none (absent_alike text scope names same none)

-- ---- inside a unit

pub resolves_opened : (names : DeclaredNames) (scopes : Scopes) → Resolves names scopes → Resolves names (enter scopes opens)
resolves_opened names scopes resolves = resolves

-- a variable hides a name, and doesn't stand for a struct
module _ (names : DeclaredNames) (scopes : Scopes) (resolves : Resolves names scopes) (name : Name) where
  abbrev v : Declaration
  v = declaration_of name kind.Variable scopes.counts.variables

  no_struct : (e : Declaration) → v ≡ e → suits wanted.Type e.kind ≡ true → ⊥
  no_struct e is suited = let no : false ≡ true = ap (λ (d : Declaration). suits wanted.Type d.kind) is ∙ suited in cc

  behind_new : (text : List ℕ) (e : Declaration) →
      option_or (found (scopes.inner ++ (name.text, v) ∷ []) text) (bound_around scopes.outer text) ≡ Some e → suits wanted.Type e.kind ≡ true →
      StandsForStruct names text e.position
  behind_new text e is suited =
      elim (found scopes.inner text) as (λ first. found scopes.inner text ≡ first →
      option_or (option_or first (cond (bytes_eq text name.text) (Some v) None)) (bound_around scopes.outer text) ≡ Some e →
      StandsForStruct names text e.position) [
        | Some earlier ↦ λ there same. resolves text e (ap (λ first. option_or first (bound_around scopes.outer text)) there ∙ same) suited
        | None ↦ λ there same.
            elim (bytes_eq text name.text) as (λ test. option_or (cond test (Some v) None) (bound_around scopes.outer text) ≡ Some e →
            StandsForStruct names text e.position) [
              | true ↦ λ this. absurd (no_struct e (same_Some v e this) suited)
              | false ↦ λ this. resolves text e (ap (λ first. option_or first (bound_around scopes.outer text)) there ∙ this) suited
            ] same
      ] refl (ap (λ first. option_or first (bound_around scopes.outer text)) (sym (found_last text scopes.inner name.text v)) ∙ is)

  pub resolves_variable : Resolves names (enter scopes (declares name kind.Variable))
  resolves_variable text e is suited =
      elim (found scopes.inner name.text) as (λ earlier.
      option_or (found (declared earlier scopes.inner name kind.Variable scopes.counts.variables) text) (bound_around scopes.outer text) ≡ Some e →
      StandsForStruct names text e.position) [
        | Some earlier ↦ λ same. resolves text e same suited
        | None ↦ λ same. behind_new text e same suited
      ] is
