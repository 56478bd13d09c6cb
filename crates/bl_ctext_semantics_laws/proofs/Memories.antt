-- Memories that fit a file.
use Rattle.std.proofs.Common.{◌≡◌, pos, Bool, true, false, ◌&&◌, List, [], ◌∷◌, ◌++◌, Option, Some, None, refl, ap, sym, subst, ◌∙◌, arith}
use Rattle.std.proofs.Common.{append-nil}
use Rattle.std.specs.Prelude.{bytes_eq, ◌==◌, codes, if◌then◌else◌}
use Rattle.std.specs.List.{list_all}
use Rattle.std.proofs.lemmas.Grind.{common_steps}
use Rattle.std.proofs.lemmas.Slice.Eq.{bytes_eq-Decides}
use Rattle.std.proofs.lemmas.Bool.{and_from}
use Rattle.bl_tree.proofs.Basics.{and_first, and_second}
use Rattle.bl_tree.specs.declared.text.Text.{Text}
use Rattle.bl_tree.specs.declared.scalar.Scalar.{Scalar}
use Rattle.bl_tree.specs.declared.scalar.Scalar.TheVariants.{Bool as OfBool, Int, Nat, Bits}
use Rattle.bl_tree.specs.declared.scalar.Width.TheVariants.{W8, W16, W32, W64}
use Rattle.bl_tree.specs.declared.c.CType.{CType}
use Rattle.bl_tree.specs.declared.c.CType.TheVariants.{Struct as OfStruct}
use Rattle.bl_tree.specs.declared.c.CStruct.{CStruct}
use Rattle.bl_tree.specs.Scalar.{in_range}
use Rattle.bl_ctext_semantics.specs.Parts.{Parts}
use Rattle.bl_ctext_semantics.specs.Faults.{struct_table}
use Rattle.bl_ctext_semantics.specs.Memory.{Projection, Root, state_object, input_object, output_object, variable, CValue, Memory, same_root, with_part}
use Rattle.bl_ctext_semantics.specs.Memory.{cleared, zeros}
use Rattle.bl_ctext_semantics.specs.Cells.{inner_of_type, inner_of, cells_at, cells_of}
use Rattle.bl_ctext_semantics_laws.specs.Fitting.{ValueSpot, whole, row, scalars, holds, fits, walk, whole_type, whole_spot, RootTypes, fits_where}
use Rattle.bl_ctext_semantics_laws.specs.Fitting.{MemoryFits, cell_holds, ClearedFits, ReadingFits, SettingFits, CellsFit}
use Rattle.bl_ctext_semantics_laws.proofs.Lists.{all-append, all-map, all-same, all-true}
use Rattle.bl_ctext_semantics_laws.proofs.Members.{AllLaidOut, Scalars, Structs, laid-out}
use Rattle.bl_ctext_semantics_laws.proofs.Places.{read-walk, set-walk, walk-nowhere}

-- ---- cleared memory

zero-fits : (kind : Scalar) → in_range kind (pos 0) ≡ true
zero-fits OfBool = refl
zero-fits (Int W8) = refl
zero-fits (Int W16) = refl
zero-fits (Int W32) = refl
zero-fits (Int W64) = refl
zero-fits (Nat W8) = refl
zero-fits (Nat W16) = refl
zero-fits (Nat W32) = refl
zero-fits (Nat W64) = refl
zero-fits (Bits W8) = refl
zero-fits (Bits W16) = refl
zero-fits (Bits W32) = refl
zero-fits (Bits W64) = refl

pub zeros-fit : (known : Scalars) (ty : CType) → fits known ty zeros ≡ true
zeros-fit known ty = all-true (holds zeros) (λ cell. zero-fits cell.kind) (inner_of_type known ty)

zeros-fit-where : (known : Scalars) (ty : Option CType) → fits_where known ty zeros ≡ true
zeros-fit-where known None = refl
zeros-fit-where known (Some ty) = zeros-fit known ty

pub cleared-fits : (file : Parts) → ClearedFits file
cleared-fits file types = record { each = λ root. zeros-fit-where (scalars file.structs) (types root) }

-- ---- reading and setting

whole-is : (o : Option ValueSpot) (ty : CType) → whole_type o ≡ Some ty → o ≡ Some (whole ty)
whole-is None ty h = cc
whole-is (Some (whole t)) ty h = ap (λ x. Some (whole x)) (some_of t ty h)
  where
    some_of : (a b : CType) → Some a ≡ Some b → a ≡ b
    some_of a b h = cc
whole-is (Some (row n t)) ty h = cc

root-is : (a b : Root) → same_root a b ≡ true → a ≡ b
root-is state_object state_object h = refl
root-is state_object input_object h = cc
root-is state_object output_object h = cc
root-is state_object (variable e n) h = cc
root-is input_object state_object h = cc
root-is input_object input_object h = refl
root-is input_object output_object h = cc
root-is input_object (variable e n) h = cc
root-is output_object state_object h = cc
root-is output_object input_object h = cc
root-is output_object output_object h = refl
root-is output_object (variable e n) h = cc
root-is (variable d m) state_object h = cc
root-is (variable d m) input_object h = cc
root-is (variable d m) output_object h = cc
root-is (variable d m) (variable e n) h =
    let depth : (d == e) ≡ true = and_first (d == e) (bytes_eq m n) h in
    let same : d ≡ e = grind (arith, common_steps) in
    ap (λ x. variable x m) same ∙ ap (variable e) ((bytes_eq-Decides m n).0 (and_second (d == e) (bytes_eq m n) h))

module _ (known : Scalars) (structs : Structs) (laid : AllLaidOut known structs) where
  read-where : (root : Option CType) (parts : List Projection) (ty : CType) (v : CValue) → whole_type (walk structs (whole_spot root) parts) ≡ Some ty →
      fits_where known root v ≡ true →
      fits known ty (λ way. v (parts ++ way)) ≡ true
  read-where None parts ty v h fit = let x : None ≡ Some ty = sym (ap whole_type (walk-nowhere known structs laid parts)) ∙ h in cc
  read-where (Some t) parts ty v h fit = read-walk known structs laid parts (whole t) (whole ty) v (whole-is (walk structs (Some (whole t)) parts) ty h) fit

  set-where : (root : Option CType) (parts : List Projection) (ty : CType) (v part : CValue) → whole_type (walk structs (whole_spot root) parts) ≡ Some ty →
      fits_where known root v ≡ true →
      fits known ty part ≡ true → fits_where known root (with_part v parts part) ≡ true
  set-where None parts ty v part h fit new = refl
  set-where (Some t) parts ty v part h fit new =
      set-walk known structs laid parts (whole t) (whole ty) v part (whole-is (walk structs (Some (whole t)) parts) ty h) fit new

pub reading-fits : (file : Parts) → ReadingFits file
reading-fits file formed types memory place ty fit is =
    read-where (scalars file.structs) (struct_table file.structs) (laid-out file formed) (types place.root) place.parts ty (memory place.root) is
    (fit.each place.root)

pub setting-fits : (file : Parts) → SettingFits file
setting-fits file formed types memory place ty value fit is new = record { each = λ root. chosen root (same_root place.root root) refl }
  where
    chosen : (root : Root) (b : Bool) → same_root place.root root ≡ b →
        fits_where (scalars file.structs) (types root) (if b then with_part (memory root) place.parts value else memory root) ≡ true
    chosen root false same = fit.each root
    chosen root true same =
        let here : whole_type (walk (struct_table file.structs) (whole_spot (types root)) place.parts) ≡ Some ty =
        subst (λ r. whole_type (walk (struct_table file.structs) (whole_spot (types r)) place.parts) ≡ Some ty) (root-is place.root root same) is in
        set-where (scalars file.structs) (struct_table file.structs) (laid-out file formed) (types root) place.parts ty (memory root) value here
        (fit.each root) new

-- ---- cells

object-holds : (structs : List CStruct) (types : RootTypes) (memory : Memory) (root : Root) (name : Text) → types root ≡ Some (OfStruct name) →
    MemoryFits structs types memory →
    list_all (cell_holds memory) (cells_at root (inner_of structs name)) ≡ true
object-holds structs types memory root name is fit =
    all-map (cell_holds memory) (λ cell. record { location = record { root = root; parts = cell.parts }; kind = cell.kind }) (inner_of structs name)
    ∙ all-same (λ cell. in_range cell.kind (memory root (cell.parts ++ []))) (holds (memory root))
    (λ cell. ap (λ parts. in_range cell.kind (memory root parts)) (append-nil cell.parts)) (inner_of structs name)
    ∙ subst (λ ty. fits_where (scalars structs) ty (memory root) ≡ true) is (fit.each root)

pub cells-fit : (file : Parts) → CellsFit file
unfolding cells_of
cells-fit file types memory objects fit =
    let state = object-holds file.structs types memory state_object (codes "bl_state") objects.0 fit in
    let input = object-holds file.structs types memory input_object (codes "bl_in") objects.1 fit in
    let output = object-holds file.structs types memory output_object (codes "bl_out") objects.2 fit in
    let first = cells_at state_object (inner_of file.structs (codes "bl_state")) in
    let second = cells_at input_object (inner_of file.structs (codes "bl_in")) in
    let third = cells_at output_object (inner_of file.structs (codes "bl_out")) in
    all-append (cell_holds memory) (first ++ second) third
    ∙ and_from _ _ (all-append (cell_holds memory) first second ∙ and_from _ _ state input) output
