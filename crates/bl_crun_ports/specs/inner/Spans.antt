-- The types of the cells of structs, and where each struct stands in them.
use Rattle.std.specs.Prelude.{List, None, Option, Some, drop, flat_map, length, map, nat_lt, suc, take, zero, ℕ, ◌++◌, ◌+◌, ◌∷◌}
use Rattle.std.specs.Prelude.{◌≡◌, ◌≤◌}
use Rattle.std.specs.Prelude.{bytes_eq, if◌then◌else◌, option_map, []}
use Rattle.bl_tree.specs.declared.text.Text.{Text}
use Rattle.bl_tree.specs.declared.scalar.Scalar.{Scalar}
use Rattle.bl_tree.specs.declared.c.CMember.{CMember}
use Rattle.bl_tree.specs.declared.c.CStruct.{CStruct}
use Rattle.bl_ctext_semantics.specs.Tables.{Table, no_entries, table_of}
use Rattle.bl_ctext_semantics.specs.Cells.{Inner, inner_after, inner_of, inner_of_member, inner_of_type}
use Rattle.bl_tree.specs.declared.c.CType.{CType}
use Rattle.bl_crun_ports.specs.declared.repeat.Span.{Span}

-- ---- structs

-- the types of the scalars in a list
abbrev pub kinds_in : List Inner → List Scalar
kinds_in cells = map (λ cell. cell.kind) cells

-- the types of the scalars of the struct of a name
abbrev pub kinds_named : List CStruct → Text → List Scalar
kinds_named structs name = kinds_in (inner_of structs name)

-- the scalars of each of these structs
abbrev pub scalars_of : List CStruct → Table (List Inner)
scalars_of structs = table_of (inner_after no_entries structs)

-- the types of the scalars of a member of a struct, after these
abbrev pub kinds_of_member : List CStruct → CMember → List Scalar
kinds_of_member structs m = kinds_in (inner_of_member (scalars_of structs) m)

-- the types of the scalars in a value of a type, after these structs
abbrev pub kinds_of_type : List CStruct → CType → List Scalar
kinds_of_type structs ty = kinds_in (inner_of_type (scalars_of structs) ty)

-- the types of the scalars of members in order, after these structs
abbrev pub kinds_of_members : List CStruct → List CMember → List Scalar
kinds_of_members structs ms = kinds_in (flat_map (inner_of_member (scalars_of structs)) ms)

-- ---- places

-- the position of the first struct of a name
abbrev pub struct_position : Text → List CStruct → Option ℕ
struct_position name [] = None
struct_position name (s ∷ rest) = if bytes_eq s.name name then Some 0 else option_map suc (struct_position name rest)

-- a number, if it is below the end
abbrev pub if_below : ℕ → Option ℕ → Option ℕ
if_below end None = None
if_below end (Some at) = if nat_lt at end then Some at else None

-- the position of the first struct of a name, if it is among the first `end` structs
abbrev pub placed_before : ℕ → Text → List CStruct → Option ℕ
placed_before end name structs = if_below end (struct_position name structs)

-- ---- lists

-- a list, repeated n times
abbrev pub repeated : ℕ → List Scalar → List Scalar
repeated zero xs = []
repeated (suc n) xs = xs ++ repeated n xs

-- what stands at a span
abbrev pub at_span : Span → List Scalar → List Scalar
at_span span kinds = take span.len (drop span.start kinds)

-- the span lies in the list of types, and the part is what stands there
pub record StandsAtSpan (kinds : List Scalar) (span : Span) (part : List Scalar) : Type 0 where
  pub within : span.start + span.len ≤ length kinds
  pub here : at_span span kinds ≡ part

-- each struct that has a span stands there
pub record StructsLaid (structs : List CStruct) (spans : Table Span) (kinds : List Scalar) : Type 0 where
  pub each : (name : Text) (span : Span) → spans name ≡ Some span → StandsAtSpan kinds span (kinds_named structs name)
