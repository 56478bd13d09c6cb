-- Functions that run in the memory of a C text and over numbered cells, side by side.
use Rattle.std.proofs.Common.{◌≡◌, ℕ, ◌+◌, ◌≤◌, ◌<◌, ℤ, pos, Bool, true, false, List, [], ◌∷◌, Option, Some, None}
use Rattle.std.specs.Prelude.{is_some, option_map, option_and_then}
use Rattle.bl_tree.specs.declared.text.Text.{Text}
use Rattle.bl_tree.specs.declared.scalar.Scalar.{Scalar}
use Rattle.bl_tree.specs.declared.c.CType.{CType}
use Rattle.bl_tree.specs.declared.c.CType.TheVariants.{Scalar as OfScalar, Struct as OfStruct}
use Rattle.bl_tree.specs.declared.c.CMember.{CMember}
use Rattle.bl_tree.specs.Scalar.{in_range}
use Rattle.bl_ctext_semantics.specs.Memory.{Root, variable, Location, CValue, Memory, scalar_number, value_at}
use Rattle.bl_ctext_semantics.specs.Meaning.{CallResult, Meaning, ArgumentValue, by_value, by_address, Scope}
use Rattle.bl_ctext_semantics.specs.Sizes.{Sizes}
use Rattle.bl_ctext_semantics.specs.Tables.{Table, entry_or}
use Rattle.bl_ctext_semantics.specs.Faults.{Context, Signature, Variable}
use Rattle.bl_ctext_semantics_laws.specs.Layout.{Layouts, MemberOffset, Slot, capped}
use Rattle.bl_ctext_semantics_laws.specs.Reaching.{Ground}
use Rattle.bl_ctext_semantics_laws.specs.Flat.{Cells, FlatAnswer, Routine, cell_at}
use Rattle.bl_ctext_semantics_laws.proofs.Ways.{Lists, Shaped, Structs, offset_in}
use Rattle.bl_ctext_semantics_laws.proofs.Standing.{Kept, PlacedAt, Separate, Stands, World}

-- ---- what a function changes

-- whether a root isn't one of these that stay
abbrev pub Unsafe : (Root → Bool) → List ArgumentValue → Type 0
Unsafe safe [] = Unit {0}
Unsafe safe (by_value v ∷ rest) = Unsafe safe rest
Unsafe safe (by_address place ∷ rest) = (safe place.root ≡ false) × Unsafe safe rest

-- variables at this depth and at deeper ones don't stay
abbrev pub Ends : (Root → Bool) → ℕ → Type 0
Ends safe depth = (d : ℕ) (name : Text) → depth ≤ d → safe (variable d name) ≡ false

-- a function with a result changes nothing but its own variables, and another one only what it is handed beside them
pub record Keeps (meaning : Meaning) (s : Signature) : Type 0 where
  pub stay : (safe : Root → Bool) (depth : ℕ) (passed : List ArgumentValue) (memory : Memory) → Ends safe depth →
      (is_some s.result ≡ false → Unsafe safe passed) →
      (root : Root) → safe root ≡ true → (meaning depth passed memory).memory root ≡ memory root

-- ---- layouts

-- a member in the layout of its struct
pub record LaidAs (found : Option MemberOffset) (m : CMember) (offset : ℕ) : Type 0 where
  pub laid : MemberOffset
  pub is : found ≡ Some laid
  pub it : laid.it ≡ m
  pub at : laid.at ≡ capped offset

pub record Laying (known : Sizes) (lists : Lists) (structs : Structs) (sizes : Sizes) (layouts : Layouts) : Type 0 where
  pub sized : (name : Text) → sizes name ≡ option_map capped (known name)
  pub laid : (struct name : Text) (list : List CMember) (m : CMember) → lists struct ≡ Some list →
      option_and_then (λ members. members name) (structs struct) ≡ Some m →
      LaidAs (option_and_then (λ members. members name) (layouts struct)) m (offset_in known list name)

module _ (known : Sizes) (lists : Lists) (structs : Structs) (shaped : Shaped known lists structs) (limit : ℕ) where
  -- ---- values

  -- a struct's value is that of a place at a cell
  pub record StructAt (w : World) (memory : Memory) (name : Text) (v : CValue) (n : ℤ) : Type 0 where
    pub place : Location
    pub k : ℕ
    pub from : n ≡ pos k
    pub placed : PlacedAt known lists structs shaped limit w place (OfStruct name) k
    pub is : v ≡ value_at memory place

  abbrev pub ValuedAs : World → Memory → CType → CValue → ℤ → Type 0
  ValuedAs w memory (OfScalar kind) v n = (scalar_number v ≡ n) × (in_range kind n ≡ true)
  ValuedAs w memory (OfStruct name) v n = StructAt w memory name v n

  abbrev pub Valued : World → Memory → Option CType → CValue → ℤ → Type 0
  Valued w memory None v n = ⊥
  Valued w memory (Some ty) v n = ValuedAs w memory ty v n

  abbrev pub Located : World → Option CType → Location → ℕ → Type 0
  Located w None place k = ⊥
  Located w (Some ty) place k = PlacedAt known lists structs shaped limit w place ty k

  -- an address that is passed
  pub record AddressAt (w : World) (ty : Option CType) (place : Location) (n : ℤ) : Type 0 where
    pub k : ℕ
    pub from : n ≡ pos k
    pub placed : Located w ty place k

  abbrev pub PassedFor : World → Memory → Variable → ArgumentValue → ℤ → Type 0
  PassedFor w memory p (by_value v) n = (p.pointer ≡ false) × ValuedAs w memory p.ty v n
  PassedFor w memory p (by_address place) n = (p.pointer ≡ true) × AddressAt w (Some p.ty) place n

  abbrev pub PassedAll : World → Memory → List Variable → List ArgumentValue → List ℤ → Type 0
  PassedAll w memory [] [] [] = Unit {0}
  PassedAll w memory (p ∷ ps) (v ∷ vs) (n ∷ ns) = PassedFor w memory p v n × PassedAll w memory ps vs ns
  PassedAll w memory [] (v ∷ vs) ns = ⊥
  PassedAll w memory [] [] (n ∷ ns) = ⊥
  PassedAll w memory (p ∷ ps) [] ns = ⊥
  PassedAll w memory (p ∷ ps) (v ∷ vs) [] = ⊥

  -- ---- functions

  abbrev pub Ranged : Option Scalar → Option ℤ → Type 0
  Ranged (Some t) (Some n) = in_range t n ≡ true
  Ranged (Some t) None = Unit {0}
  Ranged None n = Unit {0}

  -- a call in both
  pub record CallAgrees (w : World) (result : Option Scalar) (c : CallResult) (l : FlatAnswer ℤ) : Type 0 where
    pub count : c.count ≡ l.count
    pub answer : c.result ≡ l.answer
    pub stands : Stands known lists structs shaped limit w c.memory l.cells
    pub range : Ranged result c.result

  -- no variable of this depth or a deeper one stands anywhere
  abbrev pub Shallow : ℕ → World → Type 0
  Shallow depth w = (d : ℕ) (name : Text) → depth ≤ d → w.stand (variable d name) ≡ None

  -- a function in both, which needs this many cells
  pub record Agrees (meaning : Meaning) (routine : Routine) (s : Signature) (room : ℕ) : Type 0 where
    pub agree : (w : World) (depth base : ℕ) (passed : List ArgumentValue) (args : List ℤ) (memory : Memory) (cells : Cells) →
        Separate known w → Shallow depth w → w.top ≤ base → base + room ≤ limit → Stands known lists structs shaped limit w memory cells →
        PassedAll w memory s.params passed args →
        CallAgrees w s.result (meaning depth passed memory) (routine base args cells)

  -- ---- the running function

  -- a variable that is no pointer
  pub record NearAt (w : World) (depth base : ℕ) (ty : CType) (name : Text) (slot : Slot) : Type 0 where
    pub plain : slot.pointer ≡ false
    pub stands : w.stand (variable depth name) ≡ Some (record { at = base + slot.at; ty = ty })

  -- a pointer
  pub record ThroughAt (w : World) (base : ℕ) (ty : CType) (pointer : Option Location) (slot : Slot) : Type 0 where
    pub leads : slot.pointer ≡ true
    pub place : Location
    pub is : pointer ≡ Some place
    pub k : ℕ
    pub placed : PlacedAt known lists structs shaped limit w place ty k
    pub kept : (cells : Cells) → Kept cells w.kept → cell_at cells (base + slot.at) ≡ pos k
    pub low : base + slot.at < w.top

  abbrev pub SlotAs : World → ℕ → ℕ → Bool → CType → Option Location → Text → Slot → Type 0
  SlotAs w depth base false ty pointer name slot = NearAt w depth base ty name slot
  SlotAs w depth base true ty pointer name slot = ThroughAt w base ty pointer slot

  pub record VariableAs (w : World) (depth base : ℕ) (v : Variable) (pointer : Option Location) (name : Text) (found : Option Slot) : Type 0 where
    pub slot : Slot
    pub is : found ≡ Some slot
    pub ty : slot.ty ≡ v.ty
    pub stands : SlotAs w depth base v.pointer v.ty pointer name slot

  -- an earlier function
  pub record FunctionAs (s : Signature) (meaning : Option Meaning) (routine : Option Routine) (room : ℕ) : Type 0 where
    pub c : Meaning
    pub is : meaning ≡ Some c
    pub flat : Routine
    pub also : routine ≡ Some flat
    pub agrees : Agrees c flat s room
    pub keeps : Keeps c s
    pub plain : s.widens ≡ false

  -- all that stays the same while a function runs
  pub record Running (context : Context) (scope : Scope) (ground : Ground Routine) (chains : Table ℕ) (base : ℕ) (w : World) : Type 0 where
    pub separate : Separate known w
    pub small : limit ≤ 1000000
    pub low : w.top ≤ limit
    pub structs-are : context.structs ≡ structs
    pub laying : Laying known lists structs ground.sizes ground.structs
    pub next : capped (base + ground.frame) ≡ w.top
    pub shallow : Shallow (scope.depth + 1) w
    pub variables : (name : Text) (v : Variable) → context.variables name ≡ Some v →
        VariableAs w scope.depth base v (scope.pointers name) name (ground.slots name)
    pub functions : (name : Text) (s : Signature) → context.functions name ≡ Some s →
        FunctionAs s (scope.known name) (ground.known name) (entry_or 0 chains name)
