-- What holds in frames, and where functions begin that are called with one.
use Rattle.std.proofs.Common.{◌≡◌, ℕ, pos, Bool, true, false, not, ◌==◌, ◌&&◌, ◌||◌, inl, inr, List, [], ◌∷◌, ◌++◌, map, Option, Some, None}
use Rattle.std.proofs.Common.{refl, ap, sym, subst, ◌∙◌, arith}
use Rattle.std.proofs.lemmas.Bool.Decides.{Decides-int_eq}
use Rattle.std.proofs.lemmas.Grind.{common_steps}
use Rattle.std.proofs.lemmas.List.Elements.{All-contains}
use Rattle.std.proofs.lemmas.List.Folds.{Any-from_list_any}
use Rattle.std.proofs.lemmas.List.Sums.{AllPass-from_list_all}
use Rattle.std.specs.List.{list_all, list_any}
use Rattle.std.specs.Prelude.{◌⊎◌, Contains, bytes_eq, int_le, unwrap_or, if◌then◌else◌}
use Rattle.bl_tree.specs.declared.text.Text.{Text}
use Rattle.bl_tree.specs.declared.c.CFunc.{CFunc}
use Rattle.bl_tree.specs.declared.c.CParam.{CParam}
use Rattle.bl_tree.specs.declared.c.CStruct.{CStruct}
use Rattle.bl_ctext_semantics.specs.Meaning.{ArgumentValue, Scope, by_address, by_value, further, pointers_of, with_params}
use Rattle.bl_ctext_semantics.specs.Memory.{CValue, Location, Memory, Projection, Root, in_frame, input_object, member, output_object, same_root}
use Rattle.bl_ctext_semantics.specs.Memory.{scalar, scalar_number, set_at, state_object, value_at, variable, with_part, without_frame, zeros}
use Rattle.bl_ctext_semantics.specs.Tables.{found}
use Rattle.bl_simplify_laws.specs.declared.facts.CSpot.{CSpot}
use Rattle.bl_simplify_laws.specs.declared.facts.Fact.{Fact}
use Rattle.bl_simplify_laws.specs.declared.facts.Fact.TheVariants.{AtLeast, AtMost, Is, Number}
use Rattle.bl_simplify_laws.specs.Known.{Agrees, Holds, Says, Valuation, fact_in}
use Rattle.bl_simplify_laws.specs.Observed.{RootBelow}
use Rattle.bl_simplify_laws.specs.Rules.{zero_names}
use Rattle.bl_simplify_laws.specs.Spots.{first_part, is_own, same_spot, spot_location}
use Rattle.bl_simplify_laws.specs.Tables.{Fine, has_name}
use Rattle.bl_simplify_laws.proofs.OnSpots.{and-left, and-right, append-assoc, depth-itself, not-here, other-variable, same-name, some-of, spot-is}
use Rattle.bl_simplify_laws_frames.specs.Reached.{Frame, FrameHolds, HoldsAt, PassesFrame, Within, at_location, entry_fits, first_frame, frame_fits, frame_for}
use Rattle.bl_simplify_laws_frames.specs.Reached.{framed_names, holds_of_zero, inside, is_of_number, is_struct_type, itself, known_with_frame, leads_to_scalar}
use Rattle.bl_simplify_laws_frames.specs.Reached.{member_type, no_frame, takes_frame, zeros_at_entry}

-- ---- lists of checks

-- a check that all elements pass
pub all-at : {A : Type 0} (test : A → Bool) (xs : List A) → list_all test xs ≡ true → (x : A) → Contains xs x → test x ≡ true
all-at test xs all x there = All-contains (λ y. test y ≡ true) xs x (AllPass-from_list_all test xs all) there

-- an element that passes a check
pub any-at : {A : Type 0} (test : A → Bool) (xs : List A) → list_any test xs ≡ true → (x : A) × Contains xs x × (test x ≡ true)
any-at test xs h = let it = Any-from_list_any test xs h in (it.1, (it.0, it.2, it.3), it.4)

pub or-left : (a b : Bool) → (a || b) ≡ false → a ≡ false
or-left true b h = cc
or-left false b h = refl

pub or-right : (a b : Bool) → (a || b) ≡ false → b ≡ false
or-right true b h = cc
or-right false b h = h

-- ---- frames by their names

-- what is told of a function's frame has what each frame of that name has that passes a check, and one of which nothing is told
pub frame-has : (P : Frame → Type 0) (test : Frame → Bool) (name : Text) → P (no_frame name) →
    ((frame : Frame) → frame.name ≡ name → test frame ≡ true → P frame) → (frames : List Frame) → list_all test frames ≡ true → P (frame_for frames name)
frame-has P test name none each [] all = none
frame-has P test name none each (frame ∷ frames) all =
    by (bytes_eq frame.name name) refl (frame-has P test name none each frames (and-right (test frame) (list_all test frames) all))
  where
    by : (b : Bool) → bytes_eq frame.name name ≡ b → P (frame_for frames name) →
        P (unwrap_or (if b then Some frame else first_frame name frames) (no_frame name))
    by true e later = each frame (same-name frame.name name e) (and-left (test frame) (list_all test frames) all)
    by false e later = later

-- nothing is told of a function that takes no frame
pub frame-none : (frames : List Frame) (name : Text) → has_name (framed_names frames) name ≡ false → frame_for frames name ≡ no_frame name
frame-none [] name h = refl
frame-none (frame ∷ frames) name h = by (bytes_eq frame.name name) (frame-none frames name) h
  where
    by : (b : Bool) → (has_name (framed_names frames) name ≡ false → frame_for frames name ≡ no_frame name) →
        (b || has_name (framed_names frames) name) ≡ false → unwrap_or (if b then Some frame else first_frame name frames) (no_frame name) ≡ no_frame name
    by true later h = cc
    by false later h = later h

-- ---- facts of frames

-- a fact that is known is in an entry that passes each check that all entries do
pub fact-passes : (test : CSpot × Fact → Bool) (known : Valuation) → list_all test known ≡ true → (spot : CSpot) (fact : Fact) →
    fact_in spot known ≡ Some fact → test (spot, fact) ≡ true
fact-passes test [] all spot fact is = cc
fact-passes test (entry ∷ known) all spot fact is =
    by (same_spot entry.0 spot) refl (fact-passes test known (and-right (test entry) (list_all test known) all) spot fact) is
  where
    by : (b : Bool) → same_spot entry.0 spot ≡ b → (fact_in spot known ≡ Some fact → test (spot, fact) ≡ true) →
        (if b then Some entry.1 else fact_in spot known) ≡ Some fact → test (spot, fact) ≡ true
    by true e later is =
        (λ i. test (sym (spot-is entry.0 spot e) i, sym (some-of entry.1 fact is) i)) ∙ and-left (test entry) (list_all test known) all
    by false e later is = later is

-- a fact of a number of a frame's member
pub record OfFrame (frame : Frame) (spot : CSpot) (fact : Fact) : Type 0 where
  pub is : spot ≡ record { through = true; name = frame.pointer; first = spot.first }
  pub number : is_of_number fact ≡ true

pub of-frame : (structs : List CStruct) (frame : Frame) (spot : CSpot) (fact : Fact) → entry_fits structs frame (spot, fact) ≡ true → OfFrame frame spot fact
of-frame structs frame spot fact fits =
    let scalar : Bool = leads_to_scalar structs frame.struct spot.first && is_of_number fact in
    let named : (bytes_eq spot.name frame.pointer && scalar) ≡ true = and-right spot.through (bytes_eq spot.name frame.pointer && scalar) fits in
    let through : spot.through ≡ true = and-left spot.through (bytes_eq spot.name frame.pointer && scalar) fits in
    let name : spot.name ≡ frame.pointer = same-name spot.name frame.pointer (and-left (bytes_eq spot.name frame.pointer) scalar named) in
    record {
      is = λ i. record { through = through i; name = name i; first = spot.first };
      number =
          and-right (leads_to_scalar structs frame.struct spot.first) (is_of_number fact) (and-right (bytes_eq spot.name frame.pointer) scalar named);
    }

-- facts are all of numbers of a frame's members
abbrev pub FactsFit : List CStruct → Frame → List Valuation → Type 0
FactsFit structs frame facts = list_all (list_all (entry_fits structs frame)) facts ≡ true

-- a member of a frame
abbrev pub frame_member : Frame → Option Text → CSpot
frame_member frame first = record { through = true; name = frame.pointer; first = first }

-- facts of a frame hold in any scope and memory where its members have the same values
pub facts-move : (structs : List CStruct) (frame : Frame) (facts : List Valuation) → FactsFit structs frame facts → (s t : Scope) (m n : Memory) →
    ((first : Option Text) → value_at m (spot_location s (frame_member frame first)) ≡ value_at n (spot_location t (frame_member frame first))) →
    Holds facts s m → Holds facts t n
facts-move structs frame [] fits s t m n moved h = absurd h
facts-move structs frame (known ∷ facts) fits s t m n moved (inr h) =
    inr
    (facts-move structs frame facts
    (and-right (list_all (entry_fits structs frame) known) (list_all (list_all (entry_fits structs frame)) facts) fits) s t m n moved h)
facts-move structs frame (known ∷ facts) fits s t m n moved (inl agrees) =
    inl (λ spot fact is.
    let own : OfFrame frame spot fact =
    of-frame structs frame spot fact
    (fact-passes (entry_fits structs frame) known
    (and-left (list_all (entry_fits structs frame) known) (list_all (list_all (entry_fits structs frame)) facts) fits) spot fact is) in
    subst (Says fact)
    (ap (λ x. value_at m (spot_location s x)) own.is
    ∙ moved spot.first
    ∙ sym (ap (λ x. value_at n (spot_location t x)) own.is)) (agrees spot fact is))

-- a fact of a number that holds of 0
zero-says : (fact : Fact) → is_of_number fact ≡ true → holds_of_zero fact ≡ true → (v : CValue) → scalar_number v ≡ pos 0 → Says fact v
zero-says (Is n) number zero v is = cc
zero-says (Number n) number zero v is = is ∙ sym ((Decides-int_eq n (pos 0)).0 zero)
zero-says (AtMost n) number zero v is = subst (λ k. int_le k n ≡ true) (sym is) zero
zero-says (AtLeast n) number zero v is = subst (λ k. int_le n k ≡ true) (sym is) zero

-- ---- memory in a location

-- each number in a location is as before
abbrev pub SameIn : Location → Memory → Memory → Type 0
SameIn place m n = (way : List Projection) → n place.root (place.parts ++ way) ≡ m place.root (place.parts ++ way)

-- each number in a location is 0
abbrev pub ZeroIn : Location → Memory → Type 0
ZeroIn place m = (way : List Projection) → m place.root (place.parts ++ way) ≡ pos 0

pub same-further : (place : Location) (m n : Memory) (way : List Projection) → SameIn place m n → SameIn (further place way) m n
same-further place m n way h more =
    subst (λ x. n place.root x ≡ m place.root x) (sym (append-assoc place.parts way more)) (h (way ++ more))

pub zero-further : (place : Location) (m : Memory) (way : List Projection) → ZeroIn place m → ZeroIn (further place way) m
zero-further place m way h more = subst (λ x. m place.root x ≡ pos 0) (sym (append-assoc place.parts way more)) (h (way ++ more))

-- facts of a frame that hold of 0 hold where all is 0
facts-zero : (structs : List CStruct) (frame : Frame) (facts : List Valuation) → FactsFit structs frame facts →
    list_any (list_all (λ (entry : CSpot × Fact). holds_of_zero entry.1)) facts ≡ true → (place : Location) (m : Memory) → ZeroIn place m →
    HoldsAt place facts m
facts-zero structs frame [] fits zero place m h = cc
facts-zero structs frame (known ∷ facts) fits zero place m h =
    by (list_all (λ (entry : CSpot × Fact). holds_of_zero entry.1) known) refl zero
    (λ later. facts-zero structs frame facts
    (and-right (list_all (entry_fits structs frame) known) (list_all (list_all (entry_fits structs frame)) facts) fits) later place m h)
  where
    value : (spot : CSpot) (fact : Fact) → OfFrame frame spot fact → scalar_number (value_at m (spot_location (at_location place) spot)) ≡ pos 0
    value spot fact own =
        ap (λ x. scalar_number (value_at m (spot_location (at_location place) x))) own.is ∙ zero-further place m (first_part spot.first) h []

    by : (b : Bool) → list_all (λ (entry : CSpot × Fact). holds_of_zero entry.1) known ≡ b →
        (b || list_any (list_all (λ (entry : CSpot × Fact). holds_of_zero entry.1)) facts) ≡ true →
        (list_any (list_all (λ (entry : CSpot × Fact). holds_of_zero entry.1)) facts ≡ true → HoldsAt place facts m) → HoldsAt place (known ∷ facts) m
    by true e any later =
        inl (λ spot fact is.
        let own : OfFrame frame spot fact =
        of-frame structs frame spot fact
        (fact-passes (entry_fits structs frame) known
        (and-left (list_all (entry_fits structs frame) known) (list_all (list_all (entry_fits structs frame)) facts) fits) spot fact is) in
        zero-says fact own.number (fact-passes (λ entry. holds_of_zero entry.1) known e spot fact is)
        (value_at m (spot_location (at_location place) spot)) (value spot fact own))
    by false e any later = inr (later any)

-- nothing that is known holds
pub untold-holds : (scope : Scope) (memory : Memory) → Holds ([] ∷ []) scope memory
untold-holds scope memory = inl (λ spot fact is. cc)

-- ---- frames within frames

append-nil : (a : List Projection) → a ++ [] ≡ a
append-nil [] = refl
append-nil (p ∷ a) = ap (λ x. p ∷ x) (append-nil a)

pub further-none : (place : Location) → further place [] ≡ place
further-none place = λ i. record { root = place.root; parts = append-nil place.parts i }

-- what is told of a frame of its own
pub frame-own : (frames : List Frame) (name : Text) (place : Location) (memory : Memory) → FrameHolds frames name place memory →
    HoldsAt place (frame_for frames name).reached memory
frame-own frames name place memory h =
    subst (λ parts. HoldsAt (record { root = place.root; parts = parts }) (frame_for frames name).reached memory) (append-nil place.parts)
    (h.each [] name (itself name))

-- what is told of a frame within another
pub frame-part : (frames : List Frame) (name m inner : Text) (place : Location) (memory : Memory) → Contains (frame_for frames name).parts (m, inner) →
    FrameHolds frames name place memory → FrameHolds frames inner (further place (member m ∷ [])) memory
frame-part frames name m inner place memory there h = record {
  each = λ way last within.
      subst (λ parts. HoldsAt (record { root = place.root; parts = parts }) (frame_for frames last).reached memory)
      (sym (append-assoc place.parts (member m ∷ []) way)) (h.each (member m ∷ way) last (inside name m inner last way there within));
}

-- all that is told of a frame: of its own, and of the frames within it
each-from : (frames : List Frame) (name last : Text) (way : List Projection) (place : Location) (memory : Memory) → Within frames name way last →
    HoldsAt place (frame_for frames name).reached memory →
    ((m inner : Text) → Contains (frame_for frames name).parts (m, inner) → FrameHolds frames inner (further place (member m ∷ [])) memory) →
    HoldsAt (further place way) (frame_for frames last).reached memory
each-from frames name last way place memory (itself n) own parts =
    subst (λ parts. HoldsAt (record { root = place.root; parts = parts }) (frame_for frames n).reached memory) (sym (append-nil place.parts)) own
each-from frames name last way place memory (inside n m inner l rest there within) own parts =
    subst (λ parts. HoldsAt (record { root = place.root; parts = parts }) (frame_for frames l).reached memory)
    (append-assoc place.parts (member m ∷ []) rest) ((parts m inner there).each rest l within)

pub frame-from : (frames : List Frame) (name : Text) (place : Location) (memory : Memory) → HoldsAt place (frame_for frames name).reached memory →
    ((m inner : Text) → Contains (frame_for frames name).parts (m, inner) → FrameHolds frames inner (further place (member m ∷ [])) memory) →
    FrameHolds frames name place memory
frame-from frames name place memory own parts = record { each = λ way last within. each-from frames name last way place memory within own parts }

-- no frame is within one of which nothing is told
pub no-parts : (frames : List Frame) (name : Text) → has_name (framed_names frames) name ≡ false → (part : Text × Text) →
    Contains (frame_for frames name).parts part → ⊥
no-parts frames name h part there = none (subst (λ (frame : Frame). Contains frame.parts part) (frame-none frames name h) there)
  where
    none : Contains [] part → ⊥
    none there = let lt = there.1 in omega arith

-- a frame of which nothing is told
pub frame-untold : (frames : List Frame) (name : Text) (place : Location) (memory : Memory) → has_name (framed_names frames) name ≡ false →
    FrameHolds frames name place memory
frame-untold frames name place memory h =
    frame-from frames name place memory
    (subst (λ frame. HoldsAt place frame.reached memory) (sym (frame-none frames name h)) (untold-holds (at_location place) memory))
    (λ m inner there. absurd (no-parts frames name h (m, inner) there))

module _ (structs : List CStruct) (frames : List Frame) (fits : list_all (frame_fits structs frames) frames ≡ true) where
  abbrev parts_fit : Frame → Bool
  parts_fit frame = list_all (λ part. is_struct_type (frame_for frames part.1).struct (member_type structs frame.struct part.0)) frame.parts

  -- what is told of frames is of numbers of their members
  pub facts-fit : (name : Text) → FactsFit structs (frame_for frames name) (frame_for frames name).reached
  facts-fit name =
      frame-has (λ frame. FactsFit structs frame frame.reached) (frame_fits structs frames) name refl
      (λ frame is fits.
      and-left (list_all (list_all (entry_fits structs frame)) frame.reached)
      (list_any (list_all (λ entry. holds_of_zero entry.1)) frame.reached && parts_fit frame)
      (and-right (is_own frame.pointer)
      (list_all (list_all (entry_fits structs frame)) frame.reached
      && (list_any (list_all (λ entry. holds_of_zero entry.1)) frame.reached && parts_fit frame)) fits)) frames fits

  -- what is told of frames holds where all is 0
  zero-told : (name : Text) → list_any (list_all (λ entry. holds_of_zero entry.1)) (frame_for frames name).reached ≡ true
  zero-told name =
      frame-has (λ frame. list_any (list_all (λ entry. holds_of_zero entry.1)) frame.reached ≡ true) (frame_fits structs frames) name refl
      (λ frame is fits.
      and-left (list_any (list_all (λ entry. holds_of_zero entry.1)) frame.reached) (parts_fit frame)
      (and-right (list_all (list_all (entry_fits structs frame)) frame.reached)
      (list_any (list_all (λ entry. holds_of_zero entry.1)) frame.reached && parts_fit frame)
      (and-right (is_own frame.pointer)
      (list_all (list_all (entry_fits structs frame)) frame.reached
      && (list_any (list_all (λ entry. holds_of_zero entry.1)) frame.reached && parts_fit frame)) fits))) frames fits

  -- frames hold that have the numbers that they had
  pub frame-same : (name : Text) (place : Location) (m n : Memory) → SameIn place m n → FrameHolds frames name place m → FrameHolds frames name place n
  frame-same name place m n same h = record {
    each = λ way inner within.
        facts-move structs (frame_for frames inner) (frame_for frames inner).reached (facts-fit inner) (at_location (further place way))
        (at_location (further place way)) m n
        (λ first i more. same-further (further place way) n m (first_part first) (same-further place n m way (λ w. sym (same w))) more i)
        (h.each way inner within);
  }

  -- frames hold where all is 0
  pub frame-zero : (name : Text) (place : Location) (m : Memory) → ZeroIn place m → FrameHolds frames name place m
  frame-zero name place m zero = record {
    each = λ way inner within.
        facts-zero structs (frame_for frames inner) (frame_for frames inner).reached (facts-fit inner) (zero-told inner) (further place way) m
        (zero-further place m way zero);
  }

  -- what is told of a frame holds in a scope whose pointer leads to it, and back
  pub holds-there : (name : Text) (scope : Scope) (place : Location) (m : Memory) → scope.pointers (frame_for frames name).pointer ≡ Some place →
      HoldsAt place (frame_for frames name).reached m → Holds (frame_for frames name).reached scope m
  holds-there name scope place m leads h =
      facts-move structs (frame_for frames name) (frame_for frames name).reached (facts-fit name) (at_location place) scope m m
      (λ first. ap (λ o. value_at m
      (further (unwrap_or o (record { root = variable scope.depth (frame_for frames name).pointer; parts = [] })) (first_part first))) (sym leads)) h

  pub holds-back : (name : Text) (scope : Scope) (place : Location) (m : Memory) → scope.pointers (frame_for frames name).pointer ≡ Some place →
      Holds (frame_for frames name).reached scope m → HoldsAt place (frame_for frames name).reached m
  holds-back name scope place m leads h =
      facts-move structs (frame_for frames name) (frame_for frames name).reached (facts-fit name) scope (at_location place) m m
      (λ first. ap (λ o. value_at m
      (further (unwrap_or o (record { root = variable scope.depth (frame_for frames name).pointer; parts = [] })) (first_part first))) leads) h

-- ---- where functions begin and end

-- a root that isn't that of a parameter has what it had before the parameters
params-keep : (depth : ℕ) (params : List CParam) (passed : List ArgumentValue) (memory : Memory) (root : Root) (way : List Projection) →
    list_all (λ (p : CParam). not (same_root (variable depth p.name) root)) params ≡ true →
    with_params depth params passed memory root way ≡ memory root way
params-keep depth [] [] memory root way h = refl
params-keep depth [] (a ∷ rest) memory root way h = refl
params-keep depth (p ∷ params) [] memory root way h = refl
params-keep depth (p ∷ params) (by_value v ∷ rest) memory root way h =
    params-keep depth params rest (set_at memory (record { root = variable depth p.name; parts = [] }) v) root way
    (and-right (not (same_root (variable depth p.name) root)) (list_all (λ (p : CParam). not (same_root (variable depth p.name) root)) params) h)
    ∙ by (same_root (variable depth p.name) root)
    (and-left (not (same_root (variable depth p.name) root)) (list_all (λ (p : CParam). not (same_root (variable depth p.name) root)) params) h)
  where
    by : (b : Bool) → not b ≡ true → (if b then with_part (memory root) [] v else memory root) way ≡ memory root way
    by true h = cc
    by false h = refl
params-keep depth (p ∷ params) (by_address l ∷ rest) memory root way h =
    params-keep depth params rest memory root way
    (and-right (not (same_root (variable depth p.name) root)) (list_all (λ (p : CParam). not (same_root (variable depth p.name) root)) params) h)

-- a root that is there before a function is that of no parameter
before-params : (depth : ℕ) (params : List CParam) (root : Root) → RootBelow depth root →
    list_all (λ (p : CParam). not (same_root (variable depth p.name) root)) params ≡ true
before-params depth [] root below = refl
before-params depth (p ∷ params) root below =
    ap (λ b. not b && list_all (λ (p : CParam). not (same_root (variable depth p.name) root)) params) (not-here depth p.name root below)
    ∙ before-params depth params root below

-- nor is a local that is no parameter
beside-params : (depth : ℕ) (params : List CParam) (name : Text) → has_name (map (λ (p : CParam). p.name) params) name ≡ false →
    list_all (λ (p : CParam). not (same_root (variable depth p.name) (variable depth name))) params ≡ true
beside-params depth [] name h = refl
beside-params depth (p ∷ params) name h =
    ap (λ b. not b && list_all (λ (p : CParam). not (same_root (variable depth p.name) (variable depth name))) params)
    (other-variable depth p.name name (or-left (bytes_eq p.name name) (has_name (map (λ (p : CParam). p.name) params) name) h))
    ∙ beside-params depth params name (or-right (bytes_eq p.name name) (has_name (map (λ (p : CParam). p.name) params) name) h)

before-frame : (depth : ℕ) (root : Root) → RootBelow depth root → in_frame depth root ≡ false
before-frame depth state_object below = refl
before-frame depth input_object below = refl
before-frame depth output_object below = refl
before-frame depth (variable d name) below = by (depth == d) refl
  where
    by : (b : Bool) → (depth == d) ≡ b → b ≡ false
    by true e = let same : depth ≡ d = grind (arith, common_steps) in let no : ⊥ = omega arith in absurd no
    by false e = refl

-- what is there before a function is as it was once its variables are gone
pub end-keeps : (depth : ℕ) (memory : Memory) (place : Location) → RootBelow depth place.root → SameIn place memory (without_frame depth memory)
end-keeps depth memory place below way =
    ap (λ b. (if b then zeros else memory place.root) (place.parts ++ way)) (before-frame depth place.root below)

-- and where it begins
pub start-keeps : (depth : ℕ) (params : List CParam) (passed : List ArgumentValue) (memory : Memory) (place : Location) → RootBelow depth place.root →
    SameIn place memory (with_params depth params passed (without_frame depth memory))
start-keeps depth params passed memory place below way =
    params-keep depth params passed (without_frame depth memory) place.root (place.parts ++ way) (before-params depth params place.root below)
    ∙ end-keeps depth memory place below way

-- one more fact that holds
agrees-more : (entry : CSpot × Fact) (known : Valuation) (scope : Scope) (memory : Memory) → Says entry.1 (value_at memory (spot_location scope entry.0)) →
    Agrees known scope memory → Agrees (entry ∷ known) scope memory
agrees-more entry known scope memory says agrees spot fact is = by (same_spot entry.0 spot) refl is
  where
    by : (b : Bool) → same_spot entry.0 spot ≡ b → (if b then Some entry.1 else fact_in spot known) ≡ Some fact →
        Says fact (value_at memory (spot_location scope spot))
    by true e is =
        subst (λ s. Says fact (value_at memory (spot_location scope s))) (spot-is entry.0 spot e)
        (subst (λ f. Says f (value_at memory (spot_location scope entry.0))) (some-of entry.1 fact is) says)
    by false e is = agrees spot fact is

-- a local that is no parameter begins at 0
local-begins : (depth : ℕ) (params : List CParam) (passed : List ArgumentValue) (memory : Memory) (name : Text) →
    has_name (map (λ (p : CParam). p.name) params) name ≡ false →
    with_params depth params passed (without_frame depth memory) (variable depth name) ≡ scalar (pos 0)
local-begins depth params passed memory name fresh =
    λ i way. (params-keep depth params passed (without_frame depth memory) (variable depth name) way (beside-params depth params name fresh)
    ∙ ap (λ (b : Bool). (if b then zeros else memory (variable depth name)) way) (depth-itself depth)
    ∙ zero-at way) i
  where
    zero-at : (way : List Projection) → zeros way ≡ scalar (pos 0) way
    zero-at [] = refl
    zero-at (p ∷ ps) = refl

pub locals-begin : (scope : Scope) (params : List CParam) (names : List Text) (passed : List ArgumentValue) (memory : Memory) →
    Agrees (zero_names (map (λ (p : CParam). p.name) params) names) scope (with_params scope.depth params passed (without_frame scope.depth memory))
locals-begin scope params [] passed memory = λ spot fact is. cc
locals-begin scope params (name ∷ names) passed memory =
    by (has_name (map (λ (p : CParam). p.name) params) name) refl (zero_names (map (λ (p : CParam). p.name) params) names)
    (locals-begin scope params names passed memory)
  where
    by : (b : Bool) → has_name (map (λ (p : CParam). p.name) params) name ≡ b → (rest : Valuation) →
        Agrees rest scope (with_params scope.depth params passed (without_frame scope.depth memory)) →
        Agrees (if b then rest else (record { through = false; name = name; first = None }, Is (pos 0)) ∷ rest) scope
        (with_params scope.depth params passed (without_frame scope.depth memory))
    by true e rest later = later
    by false e rest later =
        agrees-more (record { through = false; name = name; first = None }, Is (pos 0)) rest scope
        (with_params scope.depth params passed (without_frame scope.depth memory)) (local-begins scope.depth params passed memory name e) later

fact-in-either : (a b : Valuation) (spot : CSpot) (fact : Fact) → fact_in spot (a ++ b) ≡ Some fact →
    (fact_in spot a ≡ Some fact) ⊎ (fact_in spot b ≡ Some fact)
fact-in-either [] b spot fact is = inr is
fact-in-either (entry ∷ a) b spot fact is = by (same_spot entry.0 spot) (fact-in-either a b spot fact) is
  where
    by : (c : Bool) → (fact_in spot (a ++ b) ≡ Some fact → (fact_in spot a ≡ Some fact) ⊎ (fact_in spot b ≡ Some fact)) →
        (if c then Some entry.1 else fact_in spot (a ++ b)) ≡ Some fact →
        ((if c then Some entry.1 else fact_in spot a) ≡ Some fact) ⊎ (fact_in spot b ≡ Some fact)
    by true later is = inl is
    by false later is = later is

-- facts hold with further ones
holds-both : (facts : List Valuation) (others : Valuation) (scope : Scope) (memory : Memory) → Holds facts scope memory → Agrees others scope memory →
    Holds (map (λ known. known ++ others) facts) scope memory
holds-both [] others scope memory h agrees = absurd h
holds-both (known ∷ facts) others scope memory (inr h) agrees = inr (holds-both facts others scope memory h agrees)
holds-both (known ∷ facts) others scope memory (inl own) agrees = inl (λ spot fact is. by spot fact (fact-in-either known others spot fact is))
  where
    by : (spot : CSpot) (fact : Fact) → (fact_in spot known ≡ Some fact) ⊎ (fact_in spot others ≡ Some fact) →
        Says fact (value_at memory (spot_location scope spot))
    by spot fact (inl is) = own spot fact is
    by spot fact (inr is) = agrees spot fact is

-- ---- calls with a frame

-- a call of a function that takes a frame first: where its frame is, to which its pointer leads, and what holds there
pub record TakesFrame (frames : List Frame) (name : Text) (params : List CParam) (depth : ℕ) (passed : List ArgumentValue) (memory : Memory) : Type 0 where
  pub place : Location
  pub rest : List ArgumentValue
  pub is : passed ≡ by_address place ∷ rest
  pub below : RootBelow depth place.root
  pub leads : found (frame_for frames name).pointer (pointers_of params passed) ≡ Some place
  pub holds : FrameHolds frames name place memory

pub frame-taken : (frames : List Frame) (name : Text) (params : List CParam) (depth : ℕ) (passed : List ArgumentValue) (memory : Memory) →
    has_name (framed_names frames) name ≡ true → takes_frame (frame_for frames name) params ≡ true → Fine (framed_names frames) name depth passed →
    PassesFrame frames name passed memory → TakesFrame frames name params depth passed memory
frame-taken frames name [] depth passed memory has takes fine holds = cc
frame-taken frames name (p ∷ params) depth [] memory has takes fine holds = absurd (fine.apart has)
frame-taken frames name (p ∷ params) depth (by_value v ∷ rest) memory has takes fine holds = absurd (fine.apart has)
frame-taken frames name (p ∷ params) depth (by_address place ∷ rest) memory has takes fine holds = record {
  place = place;
  rest = rest;
  is = refl;
  below = fine.below.0;
  leads = ap (λ b. if b then Some place else found (frame_for frames name).pointer (pointers_of params rest)) takes;
  holds = holds;
}

-- what is known where a function begins that takes a frame first
pub known-begins : (structs : List CStruct) (frames : List Frame) → list_all (frame_fits structs frames) frames ≡ true → (f : CFunc) (scope : Scope)
    (passed : List ArgumentValue) (memory : Memory) → TakesFrame frames f.name f.params scope.depth passed memory →
    scope.pointers (frame_for frames f.name).pointer ≡ found (frame_for frames f.name).pointer (pointers_of f.params passed) →
    Holds (known_with_frame (frame_for frames f.name) f) scope (with_params scope.depth f.params passed (without_frame scope.depth memory))
known-begins structs frames fits f scope passed memory taken pointers =
    let start : Memory = with_params scope.depth f.params passed (without_frame scope.depth memory) in
    holds-both (frame_for frames f.name).reached (zeros_at_entry f) scope start
    (holds-there structs frames fits f.name scope taken.place start (pointers ∙ taken.leads)
    (frame-own frames f.name taken.place start
    (frame-same structs frames fits f.name taken.place memory start (start-keeps scope.depth f.params passed memory taken.place taken.below) taken.holds)))
    (locals-begin scope f.params (map (λ l. l.name) f.locals) passed memory)
