-- The members of a struct in a list.
use Rattle.std.specs.Prelude.{List, [], ◌∷◌, None, codes}
use Rattle.bl_tree.specs.declared.c.CMember.{CMember}
use Rattle.bl_tree.specs.declared.c.CStruct.{CStruct}
use Rattle.bl_tree.specs.declared.c.CType.TheVariants.{Scalar as OfScalar}
use Rattle.bl_tree.specs.declared.scalar.Scalar.TheVariants.{Nat}
use Rattle.bl_tree.specs.declared.scalar.Width.TheVariants.{W8}

-- the members of the last struct of a list
abbrev pub members_within : List CStruct → List CMember
members_within [] = []
members_within (s ∷ []) = s.members
members_within (s ∷ more ∷ rest) = members_within (more ∷ rest)

-- a member without use, so that no struct is empty
abbrev pub pad_member : CMember
pad_member = record { ty = OfScalar (Nat W8); name = codes "pad"; length = None }
