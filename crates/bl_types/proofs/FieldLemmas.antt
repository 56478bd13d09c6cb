-- Tables of the positions of fields by their names.
use Rattle.std.proofs.Common.{◌≡◌, ℕ, suc, ◌+◌, Bool, true, false, List, [], ◌∷◌, Option, Some, None, refl, sym, ap, ◌∙◌, arith, if◌then◌else◌, map}
use Rattle.std.proofs.Common.{option_map}
use Rattle.std.specs.Prelude.{bytes_eq, option_and_then, slice_get}
use Rattle.std.proofs.lemmas.Option.{slice_get-map}
use Rattle.bl_tree.specs.declared.tree.Field.{Field}
use Rattle.bl_tree.specs.declared.tree.StructDef.{StructDef}
use Rattle.bl_tree.specs.declared.tree.Ty.{Ty}
use Rattle.bl_tree.specs.declared.tree.Ty.TheOpen.{Ty-F}
use Rattle.bl_types.specs.Expressions.{FieldAt, field_among, field_in}
use Rattle.bl_types.specs.inner.Fields.{first_named}

-- the field at the position, where the fields begin at another one
abbrev pub placed : ℕ → List Field → ℕ → Option FieldAt
placed k fields i = option_map (λ field. record { position = k + i; ty = field.ty }) (slice_get fields i)

next_placed : (k : ℕ) (field : Field) (rest : List Field) (o : Option ℕ)
    → option_and_then (placed (k + 1) rest) o ≡ option_and_then (placed k (field ∷ rest)) (option_map suc o)
next_placed k field rest None = refl
next_placed k field rest (Some i) =
    let same : (k + 1) + i ≡ k + suc i = omega arith in
    ap (λ j. option_map (λ (f : Field). record { position = j; ty = f.ty }) (slice_get rest i)) same

among_from : (b : Bool) (k : ℕ) (field : Field) (rest : List Field) (found : Option FieldAt) (o : Option ℕ)
    → found ≡ option_and_then (placed (k + 1) rest) o
    → (if b then Some (record { position = k; ty = field.ty }) else found)
    ≡ option_and_then (placed k (field ∷ rest)) (if b then Some 0 else option_map suc o)
among_from true k field rest found o is =
    let same : k ≡ k + 0 = omega arith in ap (λ j. Some (record { position = j; ty = field.ty })) same
among_from false k field rest found o is = is ∙ next_placed k field rest o

pub among : (name : List ℕ) (fields : List Field) (k : ℕ) → field_among name fields k ≡ option_and_then (placed k fields) (first_named name fields)
among name [] k = refl
among name (field ∷ rest) k =
    among_from (bytes_eq field.name name) k field rest (field_among name rest (k + 1)) (first_named name rest) (among name rest (k + 1))

-- ---- what a look-up gives

-- no field has the name
pub missing : (name : List ℕ) (fields : List Field) (has : Option ℕ)
    → has ≡ first_named name fields → None ≡ has → None ≡ field_among name fields 0
missing name fields has is none = ap (option_and_then (placed 0 fields)) (none ∙ is) ∙ sym (among name fields 0)

-- a position with no field
pub past : (name : List ℕ) (fields : List Field) (k : ℕ)
    → Some k ≡ first_named name fields → None ≡ slice_get fields k → None ≡ field_among name fields 0
past name fields k is none =
    ap (option_map (λ (field : Field). record { position = 0 + k; ty = field.ty })) none ∙ ap (option_and_then (placed 0 fields)) is
    ∙ sym (among name fields 0)

-- the field at the position
pub there : (name : List ℕ) (fields : List Field) (k : ℕ) (field : Field) → Some k ≡ first_named name fields → Some field ≡ slice_get fields k
    → Some (record { position = k; ty = field.ty }) ≡ field_among name fields 0
there name fields k field is found =
    let same : k ≡ 0 + k = omega arith in
    ap (λ j. Some (record { position = j; ty = field.ty })) same
    ∙ ap (option_map (λ (field : Field). record { position = 0 + k; ty = field.ty })) found ∙ ap (option_and_then (placed 0 fields)) is
    ∙ sym (among name fields 0)

-- the struct at a position, where structs stand in a list of other things
viewed : {A : Type 0} (def : A → StructDef) (all : List A) (structs : List StructDef) (s : ℕ) (found : Option A) → map def all ≡ structs
    → found ≡ slice_get all s → option_map def found ≡ slice_get structs s
viewed def all structs s found is at = ap (option_map def) at ∙ sym (slice_get-map def all s) ∙ ap (λ list. slice_get list s) is

-- a field of a type that is the struct at a position
pub of_struct : {A : Type 0} (def : A → StructDef) (all : List A) (structs : List StructDef) (name : List ℕ) (ty : Ty-F Ty) (s : ℕ) (found : Option A) →
    map def all ≡ structs → found ≡ slice_get all s → ty ≡ Ty-F.Struct s
    → option_and_then (λ def. field_among name def.fields 0) (option_map def found) ≡ field_in structs name ty
of_struct def all structs name ty s found is at what =
    ap (option_and_then (λ (def : StructDef). field_among name def.fields 0)) (viewed def all structs s found is at) ∙ ap (field_in structs name) (sym what)
