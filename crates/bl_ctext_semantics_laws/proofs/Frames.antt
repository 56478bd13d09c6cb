-- The frame of a function that begins to run.
use Rattle.std.proofs.Common.{◌≡◌, ℕ, ◌+◌, Bool, true, false, List, [], ◌∷◌, ◌++◌, map, Option, Some, refl, ap, ◌∙◌, arith}
use Rattle.std.specs.Prelude.{bytes_eq, if◌then◌else◌}
use Rattle.bl_tree.proofs.Basics.{same_some}
use Rattle.bl_tree.specs.declared.text.Text.{Text}
use Rattle.bl_tree.specs.declared.c.CType.{CType}
use Rattle.bl_tree.specs.declared.c.CParam.{CParam}
use Rattle.bl_tree.specs.declared.c.CLocal.{CLocal}
use Rattle.bl_tree.specs.declared.c.CStruct.{CStruct}
use Rattle.bl_tree.specs.Reduce.{total}
use Rattle.bl_ctext_semantics.specs.Sizes.{Sizes, size_of_param, size_of_type, sizes}
use Rattle.bl_ctext_semantics.specs.Tables.{found}
use Rattle.bl_ctext_semantics.specs.Faults.{Variable, local_variable, param_variable}
use Rattle.bl_ctext_semantics_laws.specs.Layout.{Slot, capped, capped_sizes, locals_laid, params_laid}
use Rattle.bl_ctext_semantics_laws.proofs.Entries.{offset_of, sum_of}
use Rattle.bl_ctext_semantics_laws.proofs.Layouts.{capped-type}

-- how many cells a parameter or local has
abbrev pub variable_size : Sizes → Variable → ℕ
variable_size known v = if v.pointer then 1 else size_of_type known v.ty

-- the variables of a function, by name and in order
abbrev pub entries : List CParam → List CLocal → List (Text × Variable)
entries params locals = map param_variable params ++ map local_variable locals

-- ---- slots

-- a slot of a variable, so many cells behind the base
pub record SlotFor (found : Option Slot) (v : Variable) (offset : ℕ) : Type 0 where
  pub slot : Slot
  pub is : found ≡ Some slot
  pub pointer : slot.pointer ≡ v.pointer
  pub ty : slot.ty ≡ v.ty
  pub at : slot.at ≡ capped offset

slot-first : (b : Bool) (k at : ℕ) (pointer : Bool) (ty : CType) (v : Variable) (size later : ℕ) (others : Option Variable) (rest : Option Slot) →
    k ≡ capped at →
    (if b then Some (record { pointer = pointer; ty = ty }) else others) ≡ Some v → (others ≡ Some v → SlotFor rest v (at + size + later)) →
    SlotFor (if b then Some (record { at = k; pointer = pointer; ty = ty }) else rest) v (at + (if b then 0 else size + later))
slot-first true k at pointer ty v size later others rest is h r =
    let e : record { pointer = pointer; ty = ty } ≡ v = same_some (record { pointer = pointer; ty = ty }) v h in
    record {
      slot = record { at = k; pointer = pointer; ty = ty };
      is = refl;
      pointer = ap (λ x. x.pointer) e;
      ty =
          ap (λ x. x.ty) e;
      at = is ∙ omega arith;
    }
slot-first false k at pointer ty v size later others rest is h r =
    let s = r h in
    record { slot = s.slot; is = s.is; pointer = s.pointer; ty = s.ty; at = s.at ∙ omega arith }

capped-param : (list : List CStruct) (p : CParam) → capped (size_of_param (capped_sizes list) p) ≡ capped (variable_size (sizes list) (param_variable p).1)
capped-param list p = chosen p.pointer
  where
    chosen : (b : Bool) → capped (if b then 1 else size_of_type (capped_sizes list) p.ty) ≡ capped (if b then 1 else size_of_type (sizes list) p.ty)
    chosen true = refl
    chosen false = let e = capped-type list p.ty in omega arith

module _ (list : List CStruct) where
  locals-slot : (at k : ℕ) (locals : List CLocal) (name : Text) (v : Variable) → k ≡ capped at → found name (map local_variable locals) ≡ Some v →
      SlotFor (found name (locals_laid (capped_sizes list) k locals)) v (at + offset_of (variable_size (sizes list)) (map local_variable locals) name)
  locals-slot at k [] name v is h = cc
  locals-slot at k (l ∷ locals) name v is h =
      let e = capped-type list l.ty in
      slot-first (bytes_eq l.name name) k at false l.ty v (size_of_type (sizes list) l.ty)
      (offset_of (variable_size (sizes list)) (map local_variable locals) name) (found name (map local_variable locals))
      (found name (locals_laid (capped_sizes list) (capped (k + size_of_type (capped_sizes list) l.ty)) locals)) is h
      (λ later. locals-slot (at + size_of_type (sizes list) l.ty) (capped (k + size_of_type (capped_sizes list) l.ty)) locals name v (omega arith) later)

  pub params-slot : (at k : ℕ) (params : List CParam) (locals : List CLocal) (name : Text) (v : Variable) → k ≡ capped at →
      found name (entries params locals) ≡ Some v →
      SlotFor (found name (params_laid (capped_sizes list) k params locals)) v (at + offset_of (variable_size (sizes list)) (entries params locals) name)
  params-slot at k [] locals name v is h = locals-slot at k locals name v is h
  params-slot at k (p ∷ params) locals name v is h =
      let e = capped-param list p in
      slot-first (bytes_eq p.name name) k at p.pointer p.ty v (variable_size (sizes list) (param_variable p).1)
      (offset_of (variable_size (sizes list)) (entries params locals) name) (found name (entries params locals))
      (found name (params_laid (capped_sizes list) (capped (k + size_of_param (capped_sizes list) p)) params locals)) is h
      (λ later. params-slot (at + variable_size (sizes list) (param_variable p).1) (capped (k + size_of_param (capped_sizes list) p)) params locals name v
      (omega arith) later)

  -- how many cells a frame has, in the end
  locals-total : (locals : List CLocal) →
      capped (total (map (λ l. size_of_type (capped_sizes list) l.ty) locals)) ≡ capped (sum_of (variable_size (sizes list)) (map local_variable locals))
  locals-total [] = refl
  locals-total (l ∷ locals) = let e = capped-type list l.ty in let r = locals-total locals in omega arith

  pub frame-total : (params : List CParam) (locals : List CLocal) →
      capped (total (map (size_of_param (capped_sizes list)) params) + total (map (λ l. size_of_type (capped_sizes list) l.ty) locals))
      ≡ capped (sum_of (variable_size (sizes list)) (entries params locals))
  frame-total [] locals = let r = locals-total locals in omega arith
  frame-total (p ∷ params) locals = let e = capped-param list p in let r = frame-total params locals in omega arith

-- the same, as the definition of what a file needs has it
locals-sum : (known : Sizes) (locals : List CLocal) →
    sum_of (variable_size known) (map local_variable locals) ≡ total (map (λ l. size_of_type known l.ty) locals)
locals-sum known [] = refl
locals-sum known (l ∷ locals) = ap (λ n. size_of_type known l.ty + n) (locals-sum known locals)

pub frame-sum : (known : Sizes) (params : List CParam) (locals : List CLocal) →
    sum_of (variable_size known) (entries params locals) ≡ total (map (size_of_param known) params) + total (map (λ l. size_of_type known l.ty) locals)
frame-sum known [] locals = let e = locals-sum known locals in omega arith
frame-sum known (p ∷ params) locals = let e = frame-sum known params locals in omega arith
