-- The members of a struct in a list.
use Rattle.std.proofs.Common.{◌≡◌, List, [], ◌∷◌, ◌++◌, refl}
use Rattle.bl_tree.specs.declared.text.Text.{Text}
use Rattle.bl_tree.specs.declared.c.CMember.{CMember}
use Rattle.bl_tree.specs.declared.c.CStruct.{CStruct}
use Rattle.bl_emit_functions.specs.Functions.{struct_of}
use Rattle.bl_emit.specs.inner.Members.{members_within}

pub members_last : (front : List CStruct) (s : CStruct) → members_within (front ++ s ∷ []) ≡ s.members
members_last [] s = refl
members_last (x ∷ []) s = refl
members_last (x ∷ y ∷ rest) s = members_last (y ∷ rest) s

pub members_of_struct : (name : Text) (members : List CMember) → members_within (struct_of name members) ≡ members
members_of_struct name [] = refl
members_of_struct name (member ∷ rest) = refl
