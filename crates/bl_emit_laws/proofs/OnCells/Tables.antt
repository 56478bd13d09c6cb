-- How many scalars the structs of a file have, one after another.
use Rattle.std.proofs.Common.{◌≡◌, ℕ, ◌≤◌, arith, Bool, true, false, List, [], ◌∷◌, ◌++◌, Contains, map}
use Rattle.std.proofs.Common.{Option, Some, None, refl}
use Rattle.std.proofs.lemmas.Nat.{mul-le}
use Rattle.std.proofs.lemmas.Slice.Eq.{bytes_eq-Decides}
use Rattle.std.specs.Option.{option_or}
use Rattle.std.specs.Prelude.{bytes_eq, unwrap_or, if◌then◌else◌}
use Rattle.bl_tree.proofs.Basics.{contains_further}
use Rattle.bl_tree.specs.declared.c.CMember.{CMember}
use Rattle.bl_tree.specs.declared.c.CStruct.{CStruct}
use Rattle.bl_tree.specs.declared.c.CType.{CType}
use Rattle.bl_tree.specs.declared.c.CType.TheVariants.{Scalar as OfScalar, Struct as OfStruct}
use Rattle.bl_tree.specs.declared.text.Text.{Text}
use Rattle.bl_tree.specs.Reduce.{total}
use Rattle.bl_ctext_semantics.specs.Sizes.{Sizes, size_of_length, size_of_member, size_of_struct, size_of_type, sizes_after}
use Rattle.bl_ctext_semantics.specs.Tables.{entry_or, with_entry}
use Rattle.bl_emit_functions_laws_wellformed.proofs.OnFiles.Growing.{at_most}

-- ---- one more entry

entry_more : (o : Option ℕ) (b : Bool) (n : ℕ) → unwrap_or o 0 ≤ unwrap_or (option_or o (if b then Some n else None)) 0
entry_more (Some m) b n = omega arith
entry_more None b n = omega arith

entry_none : (o : Option ℕ) (b : Bool) (n : ℕ) → o ≡ None → (b ≡ true → ⊥) → option_or o (if b then Some n else None) ≡ None
entry_none (Some m) b n is other = absurd (cc)
entry_none None true n is other = absurd (other refl)
entry_none None false n is other = refl

-- ---- tables

-- the second tells no less
abbrev pub More : Sizes → Sizes → Type 0
More one other = (name : Text) → entry_or 0 one name ≤ entry_or 0 other name

one_more : (known : Sizes) (name : Text) (n : ℕ) → More known (with_entry known name n)
one_more known name n asked = entry_more (known asked) (bytes_eq name asked) n

pub sizes_more : (list : List CStruct) (known : Sizes) → More known (sizes_after known list)
sizes_more [] known name = omega arith
sizes_more (s ∷ rest) known name =
    let one = one_more known s.name (size_of_struct known s) name in
    let later = sizes_more rest (with_entry known s.name (size_of_struct known s)) name in omega (arith, one, later)

type_more : (one other : Sizes) → More one other → (ty : CType) → size_of_type one ty ≤ size_of_type other ty
type_more one other more (OfScalar kind) = omega arith
type_more one other more (OfStruct name) = more name

length_more : (o : Option ℕ) (a b : ℕ) → a ≤ b → size_of_length o a ≤ size_of_length o b
length_more None a b le = le
length_more (Some n) a b le = mul-le n a n b (omega arith) le

members_more : (one other : Sizes) → More one other → (members : List CMember) →
    total (map (size_of_member one) members) ≤ total (map (size_of_member other) members)
members_more one other more [] = omega arith
members_more one other more (m ∷ members) =
    let first = length_more m.length (size_of_type one m.ty) (size_of_type other m.ty) (type_more one other more m.ty) in
    let rest = members_more one other more members in omega (arith, first, rest)

-- ---- what stands under a name

pub sizes_append : (xs ys : List CStruct) (known : Sizes) → sizes_after known (xs ++ ys) ≡ sizes_after (sizes_after known xs) ys
sizes_append [] ys known = refl
sizes_append (s ∷ xs) ys known = sizes_append xs ys (with_entry known s.name (size_of_struct known s))

-- nothing, where no struct has the name
pub sizes_none : (list : List CStruct) (known : Sizes) (name : Text) → known name ≡ None →
    ((s : CStruct) → Contains list s → s.name ≡ name → ⊥) → sizes_after known list name ≡ None
sizes_none [] known name none others = none
sizes_none (s ∷ rest) known name none others =
    sizes_none rest (with_entry known s.name (size_of_struct known s)) name
    (entry_none (known name) (bytes_eq s.name name) (size_of_struct known s) none
    (λ same. others s (0, omega arith, refl) ((bytes_eq-Decides s.name name).0 same)))
    (λ t at. others t (contains_further s rest t at))

-- no more than each struct of the name has in the end
pub sizes_under : (list : List CStruct) (known : Sizes) (name : Text) (n : ℕ) → entry_or 0 known name ≤ n →
    ((s : CStruct) → Contains list s → s.name ≡ name → size_of_struct (sizes_after known list) s ≤ n) →
    entry_or 0 (sizes_after known list) name ≤ n
sizes_under [] known name n old each = old
sizes_under (s ∷ rest) known name n old each =
    let known' : Sizes = with_entry known s.name (size_of_struct known s) in
    let more : More known (sizes_after known' rest) =
    λ name. (let one = one_more known s.name (size_of_struct known s) name in
    let later = sizes_more rest known' name in omega (arith, one, later)) in
    let grown : size_of_struct known s ≤ size_of_struct (sizes_after known' rest) s = members_more known (sizes_after known' rest) more s.members in
    sizes_under rest known' name n
    (at_most (known name) (bytes_eq s.name name) (size_of_struct known s) n old
    (λ same. let own : size_of_struct (sizes_after known' rest) s ≤ n =
    each s (0, omega arith, refl) ((bytes_eq-Decides s.name name).0 same) in omega (arith, grown, own)))
    (λ t at. each t (contains_further s rest t at))
