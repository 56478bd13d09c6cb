-- Changes of one frame of a store.
use Rattle.std.proofs.Common.{◌≡◌, ◌≢◌, ℕ, zero, suc, ◌≤◌, List, [], ◌∷◌, Option, Some, None, refl, sym, ap, ◌∙◌}
use Rattle.std.specs.Prelude.{option_and_then, option_map, slice_get, slice_set, unwrap_or}
use Rattle.std.proofs.lemmas.List.{map-set}
use Rattle.std.proofs.lemmas.Option.{slice_get-map}
use Rattle.bl_tree.specs.declared.value.Value.{Value}
use Rattle.bl_eval.specs.Changes.{with_element_at}
use Rattle.bl_eval.specs.Values.{put_at}
use Rattle.bl_eval.proofs.PartLemmas.{put_unwrapped}
use Rattle.bl_ctree.specs.Store.{Frame, Location, Store, put, remember, with_frame, with_now}
use Rattle.bl_ctree_store.specs.declared.frame.Frame.{Frame as FrameNode}
use Rattle.bl_ctree_store.specs.Own.{now_there, with_before, with_value_before}
use Rattle.bl_ctree_store.specs.Seen.{frame_of, store_of}

-- ---- lists of which one element changes

pub set_own : {A : Type 0} (xs : List A) (i : ℕ) (x : A) → slice_get xs i ≡ Some x → slice_set xs i x ≡ xs
set_own [] i x is = refl
set_own (y ∷ xs) zero x is = let e : y ≡ x = cc in rw (← e)
set_own (y ∷ xs) (suc i) x is = ap (λ rest. y ∷ rest) (set_own xs i x is)

-- ---- frames

pub at_frame : (frames : List FrameNode) (i : ℕ) (f made : FrameNode) (change : Frame → Frame) → slice_get frames i ≡ Some f →
    frame_of made ≡ change (frame_of f)
    → store_of (slice_set frames i made) ≡ with_frame i change (store_of frames)
at_frame frames i f made change is gives =
    map-set frame_of frames i made
    ∙ ap (slice_set (store_of frames) i) gives
    ∙ sym (ap (λ found. unwrap_or (option_map (λ frame. slice_set (store_of frames) i (change frame)) found) (store_of frames))
    (slice_get-map frame_of frames i ∙ ap (option_map frame_of) is))

-- ---- a value put at a home

abbrev pub put_in : Location → Value → Frame → Frame
put_in at value frame = record frame { now = with_element_at at.path.root at.path.fields value frame.now }

put_some : (at : Location) (value : Value) (store : Store) (frame : Frame) (made : Option (List Value)) → slice_get store at.instance ≡ Some frame
    → unwrap_or (option_map (λ now. slice_set store at.instance (record frame { now = now })) made) store
    ≡ slice_set store at.instance (record frame { now = unwrap_or made frame.now })
put_some at value store frame None is = sym (set_own store at.instance frame is)
put_some at value store frame (Some now) is = refl

put_at_found : (at : Location) (value : Value) (store : Store) (found : Option Frame) → slice_get store at.instance ≡ found
    → unwrap_or (option_and_then (with_now store at value) found) store
    ≡ unwrap_or (option_map (λ frame. slice_set store at.instance (put_in at value frame)) found) store
put_at_found at value store None is = refl
put_at_found at value store (Some frame) is =
    put_some at value store frame (put_at at.path.root at.path.fields value frame.now) is
    ∙ ap (λ now. slice_set store at.instance (record frame { now = now })) (put_unwrapped at.path.root at.path.fields value frame.now)

-- it changes the frame of the home's instance
pub put_changes : (at : Location) (value : Value) (store : Store) → put at value store ≡ with_frame at.instance (put_in at value) store
put_changes at value store = put_at_found at value store (slice_get store at.instance) refl

-- ---- what a variable is then

abbrev now_of : ℕ → Option Frame → Option Value
now_of k found = option_and_then (λ frame. slice_get frame.now k) found

-- ---- the value before of a declared variable

remember_some : (i k : ℕ) (store : Store) (frame : Frame) (now : Option Value) → slice_get store i ≡ Some frame
    → slice_set store i (record frame { before = unwrap_or (option_map (slice_set frame.before k) now) frame.before })
    ≡ unwrap_or (option_map (λ value. slice_set store i (with_before k value frame)) now) store
remember_some i k store frame None is = set_own store i frame is
remember_some i k store frame (Some value) is = refl

before_at : (i k : ℕ) (value : Value) (store : Store) (frame : Frame) → slice_get store i ≡ Some frame →
    slice_set store i (with_before k value frame) ≡ with_frame i (with_before k value) store
before_at i k value store frame is = sym (ap (λ found. unwrap_or (option_map (λ frame. slice_set store i (with_before k value frame)) found) store) is)

before_all : (i k : ℕ) (store : Store) (frame : Frame) (now : Option Value) → slice_get store i ≡ Some frame
    → unwrap_or (option_map (λ value. slice_set store i (with_before k value frame)) now) store ≡ with_value_before i k now store
before_all i k store frame None is = refl
before_all i k store frame (Some value) is = before_at i k value store frame is

remember_found : (i k : ℕ) (store : Store) (found : Option Frame) → slice_get store i ≡ found
    → unwrap_or (option_map (λ frame. slice_set store i (remember k frame)) found) store ≡ with_value_before i k (now_of k found) store
remember_found i k store None is = refl
remember_found i k store (Some frame) is = remember_some i k store frame (slice_get frame.now k) is ∙ before_all i k store frame (slice_get frame.now k) is

pub remembers : (i k : ℕ) (store : Store) → with_frame i (remember k) store ≡ with_value_before i k (now_there store i k) store
remembers i k store = remember_found i k store (slice_get store i) refl
