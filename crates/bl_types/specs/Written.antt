-- Types as they are written, and the lengths in them.
use Rattle.std.specs.Prelude.{ℕ, ℤ, pos, negsuc, Bool, false, ◌&&◌, nat_le, List, [], ◌++◌, slice_get, Option, Some, None, option_and_then, if◌then◌else◌}
use Rattle.bl_tree.specs.declared.place.Place.{Place}
use Rattle.bl_tree.specs.declared.rule.Failure.{Failure}
use Rattle.bl_tree.specs.declared.rule.Rule.TheVariants as rule
use Rattle.bl_tree.specs.declared.scalar.Scalar.{Scalar as ScalarType}
use Rattle.bl_tree.specs.declared.tree.Ty.{Ty}
use Rattle.bl_tree.specs.declared.tree.Ty.TheVariants as type
use Rattle.bl_tree.specs.Scalar.{is_whole}
use Rattle.bl_names_tree.specs.declared.types.NamedLength.{NamedLength}
use Rattle.bl_names_tree.specs.declared.types.NamedLength.TheVariants as length_of
use Rattle.bl_names_tree.specs.declared.types.NamedType.{NamedType, fold-NamedType}
use Rattle.bl_names_tree.specs.declared.types.NamedType.TheOpen.{NamedType-F}
use Rattle.bl_types.specs.declared.environment.Constant.{Constant}
use Rattle.bl_types.specs.Failures.{fails_at}

-- a number as a length: from 1 to 65536
abbrev pub as_length : ℕ → Option ℕ
as_length n = if nat_le 1 n && nat_le n 65536 then Some n else None

-- a number that is not below zero
abbrev pub natural : ℤ → Option ℕ
natural (pos n) = Some n
natural (negsuc n) = None

-- whether there is a type, and it is one of whole numbers
abbrev pub is_whole_type : Option ScalarType → Bool
is_whole_type (Some s) = is_whole s
is_whole_type None = false

-- a constant as a length: where it is a whole number from 1 to 65536
abbrev pub constant_length : Constant → Option ℕ
constant_length constant = if is_whole_type constant.ty then option_and_then as_length (natural constant.value) else None

-- the length that is written; none where it is no whole number from 1 to 65536
abbrev pub written_length : List Constant → NamedLength → Option ℕ
written_length constants (length_of.Number n) = as_length n.value
written_length constants (length_of.Constant at k) = option_and_then constant_length (slice_get constants k)

-- where a length is written
abbrev pub place_of_length : NamedLength → Place
place_of_length (length_of.Number n) = n.place
place_of_length (length_of.Constant at k) = at

-- the number, and zero where there is none
abbrev pub or_zero : Option ℕ → ℕ
or_zero (Some n) = n
or_zero None = 0

-- a level of a written type, from the type of its elements
abbrev pub type_level : List Constant → NamedType-F Ty → Ty
type_level constants (NamedType-F.Scalar s) = type.Scalar s
type_level constants (NamedType-F.Struct k) = type.Struct k
type_level constants (NamedType-F.Array n element) = type.Array (or_zero (written_length constants n)) element

-- a written type, in which a length that fails stands as 0
abbrev pub written_type : List Constant → NamedType → Ty
written_type constants = fold-NamedType Ty (type_level constants)

-- Constant: a length is no whole number from 1 to 65536
abbrev pub bad_length : Place → Option ℕ → List Failure
bad_length at (Some n) = []
bad_length at None = fails_at rule.Constant at

-- the lengths that fail in a level of a written type, and those in its elements
abbrev pub length_level : List Constant → NamedType-F (List Failure) → List Failure
length_level constants (NamedType-F.Scalar s) = []
length_level constants (NamedType-F.Struct k) = []
length_level constants (NamedType-F.Array n element) = bad_length (place_of_length n) (written_length constants n) ++ element

-- the lengths of a written type that fail
abbrev pub bad_lengths : List Constant → NamedType → List Failure
bad_lengths constants = fold-NamedType (List Failure) (length_level constants)
