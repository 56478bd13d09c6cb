-- What holds in the frame of a tick from tick to tick, where the numbers of cells alone are kept.
use Rattle.std.proofs.Common.{◌≡◌, inl, inr, ℕ, ℤ, Bool, true, ◌&&◌, List, [], ◌∷◌, ◌++◌, Option, Some, None, refl, ap, sym, subst, ◌∙◌}
use Rattle.std.specs.Prelude.{Contains, bytes_eq, codes, int_le, is_none, option_and_then, if◌then◌else◌}
use Rattle.std.specs.List.{list_all, list_any}
use Rattle.bl_tree.specs.declared.text.Text.{Text}
use Rattle.bl_tree.specs.declared.c.CFunc.{CFunc}
use Rattle.bl_tree.specs.declared.c.CMember.{CMember}
use Rattle.bl_tree.specs.declared.c.CStruct.{CStruct}
use Rattle.bl_tree.specs.declared.c.CType.{CType}
use Rattle.bl_tree.specs.declared.c.CType.TheVariants.{Scalar as OfScalar, Struct as OfStruct}
use Rattle.bl_tree.specs.declared.scalar.Scalar.{Scalar}
use Rattle.bl_ctext_semantics.specs.Cells.{port, with_inputs}
use Rattle.bl_ctext_semantics.specs.Faults.{WellFormed, struct_table}
use Rattle.bl_ctext_semantics.specs.Meaning.{further}
use Rattle.bl_ctext_semantics.specs.Memory.{CValue, Location, Memory, Projection, input_object, member, scalar, scalar_number, set_at, state_object}
use Rattle.bl_ctext_semantics.specs.Memory.{value_at}
use Rattle.bl_ctext_semantics.specs.Parts.{Parts}
use Rattle.bl_ctext_semantics.specs.Sizes.{sizes}
use Rattle.bl_ctext_semantics_laws.specs.Fitting.{spot_if, spot_of_length, walk, whole, whole_type}
use Rattle.bl_ctext_semantics_laws.proofs.Entry.{shaped}
use Rattle.bl_ctext_semantics_laws.proofs.Layouts.{lists_of}
use Rattle.bl_ctext_semantics_laws.proofs.Ways.{walk-append}
use Rattle.bl_ctext_semantics_laws_cells.specs.Cells.{regained}
use Rattle.bl_ctext_semantics_laws_cells.proofs.OnCells.{all_kept}
use Rattle.bl_simplify_laws.specs.declared.facts.CSpot.{CSpot}
use Rattle.bl_simplify_laws.specs.declared.facts.Fact.{Fact}
use Rattle.bl_simplify_laws.specs.declared.facts.Fact.TheVariants.{AtLeast, AtMost, Is, Number}
use Rattle.bl_simplify_laws.specs.Known.{Says, Valuation}
use Rattle.bl_simplify_laws.specs.Spots.{first_part, is_own, spot_location}
use Rattle.bl_simplify_laws.proofs.OnSpots.{and-left, and-right, same-name, some-of}
use Rattle.bl_simplify_laws_frames.specs.Reached.{Frame, FrameHolds, HoldsAt, Within, at_location, entry_fits, frame_fits, frame_for, holds_of_zero, inside}
use Rattle.bl_simplify_laws_frames.specs.Reached.{is_of_number, is_scalar_type, is_struct_type, itself, leads_to_scalar, member_type, single_type}
use Rattle.bl_simplify_laws_frames.proofs.OnFrames.{FactsFit, OfFrame, all-at, fact-passes, facts-fit, frame-has, frame-same, of-frame, untold-holds}

-- ---- types of members

struct-is : (struct : Text) (o : Option CType) → is_struct_type struct o ≡ true → o ≡ Some (OfStruct struct)
struct-is struct None h = cc
struct-is struct (Some (OfScalar kind)) h = cc
struct-is struct (Some (OfStruct name)) h = ap (λ n. Some (OfStruct n)) (same-name name struct h)

scalar-is : (o : Option CType) → is_scalar_type o ≡ true → (kind : Scalar) × (o ≡ Some (OfScalar kind))
scalar-is None h = absurd (cc)
scalar-is (Some (OfScalar kind)) h = (kind, refl)
scalar-is (Some (OfStruct name)) h = absurd (cc)

single-is : (o : Option CMember) (ty : CType) → single_type o ≡ Some ty → spot_if o ≡ Some (whole ty)
single-is None ty is = cc
single-is (Some m) ty is = by m.length is
  where
    by : (length : Option ℕ) → (if is_none length then Some m.ty else None) ≡ Some ty → Some (spot_of_length m.ty length) ≡ Some (whole ty)
    by None is = ap (λ t. Some (whole t)) (some-of m.ty ty is)
    by (Some n) is = cc

-- a fact of a number holds of each value with this number
number-says : (fact : Fact) (v w : CValue) → is_of_number fact ≡ true → scalar_number w ≡ scalar_number v → Says fact v → Says fact w
number-says (Is n) v w of same says = absurd (cc)
number-says (Number n) v w of same says = same ∙ says
number-says (AtMost n) v w of same says = ap (λ k. int_le k n) same ∙ says
number-says (AtLeast n) v w of same says = ap (λ k. int_le n k) same ∙ says

-- ---- frames in the state

-- the state object
abbrev pub state : Location
state = record { root = state_object; parts = [] }

module _ (structs : List CStruct) (frames : List Frame) (fit : list_all (frame_fits structs frames) frames ≡ true) where
  abbrev parts_test : Frame → Bool
  parts_test frame = list_all (λ (part : Text × Text). is_struct_type (frame_for frames part.1).struct (member_type structs frame.struct part.0)) frame.parts

  abbrev zero_test : Frame → Bool
  zero_test frame = list_any (list_all (λ (entry : CSpot × Fact). holds_of_zero entry.1)) frame.reached

  -- the parts of frames are members, frames of their functions
  parts-fit : (name : Text) → parts_test (frame_for frames name) ≡ true
  parts-fit name =
      frame-has (λ frame. parts_test frame ≡ true) (frame_fits structs frames) name refl
      (λ frame is fits.
      let facts : Bool = list_all (list_all (entry_fits structs frame)) frame.reached in
      and-right (zero_test frame) (parts_test frame)
      (and-right facts (zero_test frame && parts_test frame) (and-right (is_own frame.pointer) (facts && (zero_test frame && parts_test frame)) fits)))
      frames fit

  -- the way to a frame within another leads from the one's struct to the other's
  leads : {name : Text} {way : List Projection} {inner : Text} → Within frames name way inner →
      walk (struct_table structs) (Some (whole (OfStruct (frame_for frames name).struct))) way ≡ Some (whole (OfStruct (frame_for frames inner).struct))
  leads (itself name) = refl
  leads (inside name m inner last way there rest) =
      ap (λ o. walk (struct_table structs) o way)
      (single-is (option_and_then (λ members. members m) (struct_table structs (frame_for frames name).struct)) (OfStruct (frame_for frames inner).struct)
      (struct-is (frame_for frames inner).struct (member_type structs (frame_for frames name).struct m)
      (all-at (λ (part : Text × Text). is_struct_type (frame_for frames part.1).struct (member_type structs (frame_for frames name).struct part.0))
      (frame_for frames name).parts (parts-fit name) (m, inner) there)))
      ∙ leads rest

  module _ (fs : List CFunc) (formed : WellFormed (record { structs = structs; funcs = fs })) (memory : Memory) where
    abbrev file : Parts
    file = record { structs = structs; funcs = fs }

    abbrev Leads : List Projection → Text → Type 0
    Leads way struct = walk (struct_table structs) (Some (whole (OfStruct (codes "bl_state")))) way ≡ Some (whole (OfStruct struct))

    -- the number of a frame's scalar is kept
    number-kept : (struct : Text) (way : List Projection) → Leads way struct → (first : Option Text) → leads_to_scalar structs struct first ≡ true →
        scalar_number (value_at (regained file memory) (record { root = state_object; parts = way ++ first_part first }))
        ≡ scalar_number (value_at memory (record { root = state_object; parts = way ++ first_part first }))
    number-kept struct way led None h = cc
    number-kept struct way led (Some m) h =
        let kind = scalar-is (member_type structs struct m) h in
        all_kept file formed memory (record { root = state_object; parts = way ++ member m ∷ [] }) kind.0
        (ap whole_type
        (walk-append (sizes structs) (lists_of structs) (struct_table structs) (shaped file formed) (Some (whole (OfStruct (codes "bl_state")))) way
        (member m ∷ [])
        ∙ ap (λ o. walk (struct_table structs) o (member m ∷ [])) led
        ∙ single-is (option_and_then (λ members. members m) (struct_table structs struct)) (OfScalar kind.0) kind.1))

    -- a fact of a frame holds of what is regained
    fact-kept : (frame : Frame) (way : List Projection) → Leads way frame.struct → (spot : CSpot) (fact : Fact) →
        entry_fits structs frame (spot, fact) ≡ true → Says fact (value_at memory (spot_location (at_location (further state way)) spot)) →
        Says fact (value_at (regained file memory) (spot_location (at_location (further state way)) spot))
    fact-kept frame way led spot fact fits says =
        let own : OfFrame frame spot fact = of-frame structs frame spot fact fits in
        let scalar : Bool = leads_to_scalar structs frame.struct spot.first in
        let leads : scalar ≡ true =
        and-left scalar (is_of_number fact)
        (and-right (bytes_eq spot.name frame.pointer) (scalar && is_of_number fact)
        (and-right spot.through (bytes_eq spot.name frame.pointer && (scalar && is_of_number fact)) fits)) in
        let there : Memory → CSpot → CValue = λ m s. value_at m (spot_location (at_location (further state way)) s) in
        number-says fact (there memory spot) (there (regained file memory) spot) own.number
        (ap (λ s. scalar_number (there (regained file memory) s)) own.is
        ∙ number-kept frame.struct way led spot.first leads
        ∙ sym (ap (λ s. scalar_number (there memory s)) own.is)) says

    -- one of the valuations of a frame that holds
    facts-kept : (frame : Frame) (way : List Projection) → Leads way frame.struct → (facts : List Valuation) → FactsFit structs frame facts →
        HoldsAt (further state way) facts memory → HoldsAt (further state way) facts (regained file memory)
    facts-kept frame way led [] fits holds = holds
    facts-kept frame way led (known ∷ facts) fits (inl agrees) =
        inl (λ spot fact is.
        fact-kept frame way led spot fact
        (fact-passes (entry_fits structs frame) known
        (and-left (list_all (entry_fits structs frame) known) (list_all (list_all (entry_fits structs frame)) facts) fits) spot fact is)
        (agrees spot fact is))
    facts-kept frame way led (known ∷ facts) fits (inr holds) =
        inr (facts-kept frame way led facts
        (and-right (list_all (entry_fits structs frame) known) (list_all (list_all (entry_fits structs frame)) facts) fits) holds)

    -- the numbers of the cells tell what holds in the frame of a function whose frame is the state
    pub regained-keeps : (name : Text) → (frame_for frames name).struct ≡ codes "bl_state" → FrameHolds frames name state memory →
        FrameHolds frames name state (regained file memory)
    regained-keeps name is holds = record {
      each = λ way inner within.
          facts-kept (frame_for frames inner) way
          (ap (λ struct. walk (struct_table structs) (Some (whole (OfStruct struct))) way) (sym is) ∙ leads within) (frame_for frames inner).reached
          (facts-fit structs frames fit inner) (holds.each way inner within);
    }

  state-left : (ports : List CMember) (ins : List ℤ) (memory : Memory) → with_inputs ports ins memory state_object ≡ memory state_object
  state-left [] ins memory = refl
  state-left (m ∷ ports) [] memory = refl
  state-left (m ∷ ports) (n ∷ ins) memory = state-left ports ins (set_at memory (port input_object m) (scalar n))

  -- inputs are no part of the state
  pub inputs-keep : (name : Text) (ports : List CMember) (ins : List ℤ) (memory : Memory) → FrameHolds frames name state memory →
      FrameHolds frames name state (with_inputs ports ins memory)
  inputs-keep name ports ins memory holds =
      frame-same structs frames fit name state memory (with_inputs ports ins memory) (λ way. ap (λ (value : CValue). value way) (state-left ports ins memory))
      holds

-- ---- two functions with one frame

module _ (frames : List Frame) (start : Text) (place : Location) (memory : Memory) (holds : FrameHolds frames start place memory) where
  other-way : {name : Text} {way : List Projection} {inner : Text} → Within frames name way inner →
      (frame_for frames start).parts ≡ (frame_for frames name).parts → (frame_for frames name).reached ≡ [] ∷ [] →
      HoldsAt (further place way) (frame_for frames inner).reached memory
  other-way (itself name) same untold =
      subst (λ facts. HoldsAt (further place []) facts memory) (sym untold) (untold-holds (at_location (further place [])) memory)
  other-way (inside name m inner last way there rest) same untold =
      holds.each (member m ∷ way) last (inside start m inner last way (subst (λ (parts : List (Text × Text)). Contains parts (m, inner)) (sym same) there) rest)

  -- what holds in the frames within a function's frame does for another function with the same ones, of which nothing else is told
  pub other-frame : (name : Text) → (frame_for frames start).parts ≡ (frame_for frames name).parts → (frame_for frames name).reached ≡ [] ∷ [] →
      FrameHolds frames name place memory
  other-frame name same untold = record { each = λ way inner within. other-way within same untold }
