-- What the names stand for that faces declare.
use Rattle.std.specs.Prelude.{ℕ, Bool, true, ◌&&◌, is_none, List, [], ◌∷◌, ◌++◌, map, Option, bytes_eq}
use Rattle.std.specs.Borrow.{Bor}
use Rattle.std.specs.Map.{lookup}
use Rattle.bl_face.specs.declared.item.FaceField.{FaceField}
use Rattle.bl_module.specs.declared.names.Referent.{Referent}
use Rattle.bl_module.specs.declared.names.Referent.TheVariants as referent

-- names in the order of their declarations, each with what it stands for
abbrev pub DeclaredNames : Type 0
DeclaredNames = List (List ℕ × Referent)

-- entries of a map, each name as its bytes
abbrev pub names_of_map : List (Bor (List ℕ) × Referent) → DeclaredNames
names_of_map entries = map (λ entry. (entry.0.now, entry.1)) entries

-- what a name stands for, if it is declared
abbrev pub referent_of : DeclaredNames → List ℕ → Option Referent
referent_of names name = lookup (bytes_eq name) names

-- names with one more
abbrev pub with_name : DeclaredNames → List ℕ → Referent → DeclaredNames
with_name names name as_what = names ++ ((name, as_what) ∷ [])

-- whether a name isn't declared
abbrev pub is_new : DeclaredNames → List ℕ → Bool
is_new names name = is_none (referent_of names name)

-- whether the names of fields or parameters differ from one another and from those before them
abbrev pub are_new : DeclaredNames → List FaceField → Bool
are_new names [] = true
are_new names (field ∷ fields) = is_new names field.name && are_new (with_name names field.name referent.Other) fields

-- names with those of these fields or parameters
abbrev pub with_fields : DeclaredNames → List FaceField → DeclaredNames
with_fields names [] = names
with_fields names (field ∷ fields) = with_fields (with_name names field.name referent.Other) fields
