-- A value of each type has a scalar.
use Rattle.std.proofs.Common.{◌≡◌, ℕ, zero, suc, ◌+◌, ◌*◌, ◌<◌, ◌≤◌, Bool}
use Rattle.std.proofs.Common.{true, ◌&&◌, List, [], ◌∷◌, ◌++◌, map, length}
use Rattle.std.proofs.Common.{sym, ◌∙◌, subst, arith}
use Rattle.std.proofs.lemmas.Bool.Decides.{nat_tests}
use Rattle.std.proofs.lemmas.List.{length_push}
use Rattle.std.proofs.lemmas.Nat.{mul-le}
use Rattle.std.specs.Prelude.{nat_le, nat_lt, slice_index}
use Rattle.std.specs.List.{list_all}
use Rattle.bl_tree.proofs.Basics.{and_first, and_second, less_from}
use Rattle.bl_tree.specs.declared.scalar.Scalar.{Scalar as ScalarType}
use Rattle.bl_tree.specs.declared.tree.Field.{Field}
use Rattle.bl_tree.specs.declared.tree.StructDef.{StructDef}
use Rattle.bl_tree.specs.declared.tree.Ty.{Ty, fold-roll-Ty, roll-Ty}
use Rattle.bl_tree.specs.declared.tree.Ty.TheOpen.{Ty-F}
use Rattle.bl_tree.specs.declared.tree.Var.{Var}
use Rattle.bl_tree.specs.Program.{struct_stands, structs_stand_from}
use Rattle.bl_tree.specs.Reduce.{total}
use Rattle.bl_tree.specs.Types.{type_stands, type_stands_level}
use Rattle.bl_tree.specs.Typing.{is_inhabited}
use Rattle.bl_limits_measures.specs.InOrder.{answers_after}
use Rattle.bl_limits_measures.specs.Types.{fields_size, level_size, size, size_by, struct_sizes}
use Rattle.bl_limits_measures.proofs.TableLemmas.{length_answers}
use Rattle.bl_limits_measures.proofs.TypeLemmas.{induct}

-- each of some numbers is 1 or more
abbrev Positive : List ℕ → Type 0
Positive [] = Unit {0}
Positive (n ∷ ns) = (1 ≤ n) × Positive ns

positive_at : (ns : List ℕ) (k : ℕ) → Positive ns → k < length ns → 1 ≤ slice_index ns k
positive_at [] k all less = absurd (omega arith)
positive_at (n ∷ ns) zero all less = all.0
positive_at (n ∷ ns) (suc k) all less = let lt : k < length ns = omega (arith, less) in positive_at ns k all.1 lt

positive_push : (ns : List ℕ) (n : ℕ) → Positive ns → 1 ≤ n → Positive (ns ++ n ∷ [])
positive_push [] n all one = (one, tt)
positive_push (m ∷ ns) n all one = (all.0, positive_push ns n all.1 one)

at_least : (n : ℕ) → nat_le 1 n ≡ true → 1 ≤ n
at_least n h = grind (arith, nat_tests)

module _ (known : List ℕ) (all : Positive known) where
  abbrev Has : Ty → Type 0
  Has ty = type_stands (length known) ty ≡ true → 1 ≤ size_by known ty

  has_scalar : (s : ScalarType) → Has (roll-Ty (Ty-F.Scalar s))
  has_scalar s h =
      let is : size_by known (roll-Ty (Ty-F.Scalar s)) ≡ 1 = fold-roll-Ty ℕ (level_size known) (Ty-F.Scalar s) in omega (arith, is)

  has_struct : (k : ℕ) → Has (roll-Ty (Ty-F.Struct k))
  has_struct k h =
      let is : size_by known (roll-Ty (Ty-F.Struct k)) ≡ slice_index known k = fold-roll-Ty ℕ (level_size known) (Ty-F.Struct k) in
      let less : nat_lt k (length known) ≡ true = sym (fold-roll-Ty Bool (type_stands_level (length known)) (Ty-F.Struct k)) ∙ h in
      subst (λ n. 1 ≤ n) (sym is) (positive_at known k all (less_from k (length known) less))

  has_array : (n : ℕ) (element : Ty) → Has element → Has (roll-Ty (Ty-F.Array n element))
  has_array n element inner h =
      let is : size_by known (roll-Ty (Ty-F.Array n element)) ≡ n * size_by known element =
      fold-roll-Ty ℕ (level_size known) (Ty-F.Array n element) in
      let level : ((nat_le 1 n && nat_le n 65536) && type_stands (length known) element) ≡ true =
      sym (fold-roll-Ty Bool (type_stands_level (length known)) (Ty-F.Array n element)) ∙ h in
      let long : 1 ≤ n = at_least n (and_first (nat_le 1 n) (nat_le n 65536) (and_first (nat_le 1 n && nat_le n 65536) _ level)) in
      let one : 1 ≤ size_by known element = inner (and_second (nat_le 1 n && nat_le n 65536) _ level) in
      subst (λ n. 1 ≤ n) (sym is) (mul-le 1 1 n (size_by known element) long one)

  pub has : (ty : Ty) → Has ty
  has = induct Has has_scalar has_struct has_array

  fields_have : (fields : List Field) → is_inhabited fields ≡ true →
      list_all (λ (f : Field). type_stands (length known) f.ty) fields ≡ true →
      1 ≤ total (map (λ (f : Field). size_by known f.ty) fields)
  fields_have [] some stand = absurd (cc)
  fields_have (f ∷ fields) some stand =
      let first : 1 ≤ size_by known f.ty =
      has f.ty (and_first (type_stands (length known) f.ty) (list_all (λ (f : Field). type_stands (length known) f.ty) fields) stand) in
      omega (arith, first)

structs_have : (known : List ℕ) (rest : List StructDef) → Positive known → structs_stand_from (length known) rest ≡ true →
    Positive (answers_after fields_size known rest)
structs_have known [] all stand = all
structs_have known (def ∷ rest) all stand =
    let own : struct_stands (length known) def ≡ true =
    and_first (struct_stands (length known) def) (structs_stand_from (length known + 1) rest) stand in
    let some : is_inhabited def.fields ≡ true = and_first (is_inhabited def.fields) _ own in
    let fields : list_all (λ (f : Field). type_stands (length known) f.ty) def.fields ≡ true =
    and_second _ _ (and_second (is_inhabited def.fields) _ own) in
    let next : List ℕ = known ++ fields_size known def ∷ [] in
    let longer : length next ≡ length known + 1 = length_push known (fields_size known def) in
    structs_have next rest (positive_push known (fields_size known def) all (fields_have known all def.fields some fields))
    (subst (λ n. structs_stand_from n rest ≡ true) (sym longer)
    (and_second (struct_stands (length known) def) (structs_stand_from (length known + 1) rest) stand))

module _ (structs : List StructDef) (stand : structs_stand_from 0 structs ≡ true) where
  sizes_positive : Positive (struct_sizes structs)
  sizes_positive = structs_have [] structs tt stand

  pub size-positive : (ty : Ty) → type_stands (length structs) ty ≡ true → 1 ≤ size structs ty
  size-positive ty h =
      let longer : length (struct_sizes structs) ≡ 0 + length structs = length_answers fields_size [] structs in
      let same : length structs ≡ length (struct_sizes structs) = omega (arith, longer) in
      has (struct_sizes structs) sizes_positive ty (subst (λ n. type_stands n ty ≡ true) same h)

  pub vars-counted : (vars : List Var) → list_all (λ (var : Var). type_stands (length structs) var.ty) vars ≡ true →
      length vars ≤ total (map (λ (var : Var). size_by (struct_sizes structs) var.ty) vars)
  vars-counted [] h = omega arith
  vars-counted (var ∷ vars) h =
      let one : 1 ≤ size structs var.ty =
      size-positive var.ty (and_first (type_stands (length structs) var.ty) (list_all (λ (var : Var). type_stands (length structs) var.ty) vars) h) in
      let more : length vars ≤ total (map (λ (var : Var). size_by (struct_sizes structs) var.ty) vars) =
      vars-counted vars (and_second (type_stands (length structs) var.ty) (list_all (λ (var : Var). type_stands (length structs) var.ty) vars) h) in
      omega (arith, one, more)
