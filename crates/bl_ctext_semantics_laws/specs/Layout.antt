-- Where the parts of values stand among numbered cells.
use Rattle.std.specs.Prelude.{ℕ, ◌+◌, min, Bool, List, [], ◌∷◌, map, option_map}
use Rattle.bl_tree.specs.declared.text.Text.{Text}
use Rattle.bl_tree.specs.declared.c.CType.{CType}
use Rattle.bl_tree.specs.declared.c.CMember.{CMember}
use Rattle.bl_tree.specs.declared.c.CStruct.{CStruct}
use Rattle.bl_tree.specs.declared.c.CParam.{CParam}
use Rattle.bl_tree.specs.declared.c.CLocal.{CLocal}
use Rattle.bl_tree.specs.declared.c.CFunc.{CFunc}
use Rattle.bl_tree.specs.Reduce.{total}
use Rattle.bl_ctext_semantics.specs.Tables.{Table, table_of}
use Rattle.bl_ctext_semantics.specs.Sizes.{Sizes, size_of_member, size_of_param, size_of_type, sizes}

-- ---- numbers of cells. A file that runs has far fewer than 2 to the 32; types that nothing has may be larger, and are told as that large

-- a number of cells, at most 4294967295
abbrev pub capped : ℕ → ℕ
capped n = min n 4294967295

-- how many cells each struct has
abbrev pub capped_sizes : List CStruct → Sizes
capped_sizes structs name = option_map capped (sizes structs name)

-- ---- structs: members in order, one behind the other

-- a member, and how many cells of its struct stand before it
pub record MemberOffset : Type 0 where
  pub at : ℕ
  pub it : CMember

-- the members by name, where so many cells stand before the first
abbrev pub members_laid : Sizes → ℕ → List CMember → List (Text × MemberOffset)
members_laid known at [] = []
members_laid known at (m ∷ rest) = (m.name, record { at = at; it = m }) ∷ members_laid known (capped (at + size_of_member known m)) rest

-- the members of each struct
abbrev pub Layouts : Type 0
Layouts = Table (Table MemberOffset)

-- the offsets of the members of a struct
abbrev pub layout_of : Sizes → CStruct → Text × Table MemberOffset
layout_of known s = (s.name, table_of (members_laid known 0 s.members))

-- the offsets of the members of each struct
abbrev pub layouts : List CStruct → Layouts
layouts structs = table_of (map (layout_of (capped_sizes structs)) structs)

-- ---- frames: parameters, and then locals, one behind the other

-- a parameter or local: how many cells of its frame stand before it, and the type of what it has or leads to
pub record Slot : Type 0 where
  pub at : ℕ
  pub pointer : Bool
  pub ty : CType

-- the offsets of the locals in a frame
abbrev pub locals_laid : Sizes → ℕ → List CLocal → List (Text × Slot)
locals_laid known at [] = []
locals_laid known at (l ∷ rest) = (l.name, record { at = at; pointer = Bool.false; ty = l.ty })
    ∷ locals_laid known (capped (at + size_of_type known l.ty)) rest

-- the parameters, and then these locals
abbrev pub params_laid : Sizes → ℕ → List CParam → List CLocal → List (Text × Slot)
params_laid known at [] locals = locals_laid known at locals
params_laid known at (p ∷ rest) locals =
    (p.name, record { at = at; pointer = p.pointer; ty = p.ty }) ∷ params_laid known (capped (at + size_of_param known p)) rest locals

-- the parameters and locals of a function by name
abbrev pub slots_of : Sizes → CFunc → Table Slot
slots_of known function = table_of (params_laid known 0 function.params function.locals)

-- how many cells the frame of a function has. What counts the turns of loops stands elsewhere
abbrev pub frame_cells : Sizes → CFunc → ℕ
frame_cells known function = capped (total (map (size_of_param known) function.params) + total (map (λ l. size_of_type known l.ty) function.locals))
