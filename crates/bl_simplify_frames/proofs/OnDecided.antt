-- Functions that keep frames, one after the other, and frames of a file.
use Rattle.std.proofs.Common.{◌≡◌, ℕ, ◌+◌, ◌<◌, ◌≤◌, Bool, true, false, ◌&&◌, ◌||◌, not, List, [], ◌∷◌, length, get_or, drop, Option, Some, None, refl, ap, sym, subst, ◌∙◌}
use Rattle.std.proofs.lemmas.List.{drop_all}
use Rattle.std.proofs.lemmas.List.Elements.{All-cons, All-head, All-nil, All-tail}
use Rattle.std.specs.Prelude.{All, codes, unwrap_or}
use Rattle.std.specs.List.{list_all}
use Rattle.bl_tree.proofs.Basics.{and_first, and_second, drop_next}
use Rattle.bl_tree.specs.declared.c.CFunc.{CFunc}
use Rattle.bl_tree.specs.declared.c.CStruct.{CStruct}
use Rattle.bl_tree.specs.declared.text.Text.{Text}
use Rattle.bl_ctext_places.specs.Names.{HasNames}
use Rattle.bl_simplify_laws.specs.Tables.{function_stands, has_name}
use Rattle.bl_simplify_laws_frames.specs.Reached.{Frame, FramesOfFile, KeepsFrames, LeavesReached, first_frame, frame_fits, frame_for, framed_names, keeps_frames, no_frame, takes_frame}
use Rattle.bl_simplify_frames.specs.Decided.{AreFrames, AreOfState, KeepsWhereNamed}

-- one more of a list
pub all-next : {X : Type 0} (P : X → Type 0) (xs : List X) (k : ℕ) (x : X) (so_far here : Bool) → k < length xs → x ≡ get_or xs k x →
    (here ≡ true → P x) → (so_far ≡ true → All P (drop k xs) → All P xs) → (so_far && here) ≡ true → All P (drop (k + 1) xs) → All P xs
all-next P xs k x so_far here small is told h both rest =
    h (and_first _ _ both) (subst (All P) (sym (drop_next xs k x small is)) (All-cons P x (drop (k + 1) xs) (told (and_second so_far _ both)) rest))

each-named : {V : Type 0} (table : Text → Option V) (frames : List Frame) (functions : List CFunc) → HasNames table (framed_names frames) →
    All (KeepsWhereNamed table frames) functions → All (KeepsFrames frames) functions
each-named table frames [] has all = All-nil (KeepsFrames frames)
each-named table frames (f ∷ functions) has all =
    All-cons (KeepsFrames frames) f functions (All-head (KeepsWhereNamed table frames) f functions all has)
    (each-named table frames functions has (All-tail (KeepsWhereNamed table frames) f functions all))

-- all functions, where a table has the names
pub all-done : {V : Type 0} (table : Text → Option V) (frames : List Frame) (functions : List CFunc) (k : ℕ) (so_far : Bool) → length functions ≤ k →
    HasNames table (framed_names frames) →
    (so_far ≡ true → All (KeepsWhereNamed table frames) (drop k functions) → All (KeepsWhereNamed table frames) functions) →
    so_far ≡ true → All (KeepsFrames frames) functions
all-done table frames functions k so_far over has h is =
    each-named table frames functions has
    (h is (subst (All (KeepsWhereNamed table frames)) (sym (drop_all k functions over)) (All-nil (KeepsWhereNamed table frames))))

or-then : (a b : Bool) → (not a || b) ≡ true → a ≡ true → b ≡ true
or-then true b h is = h
or-then false b h is = absurd (cc)

-- what was looked at of a function
pub kept-of : {V : Type 0} (table : Text → Option V) (frames : List Frame) (frame : Frame) (f : CFunc) (stands keeps own : Bool) →
    frame_for frames f.name ≡ frame → stands ≡ true → keeps ≡ true → own ≡ true →
    (HasNames table (framed_names frames) → stands ≡ function_stands (framed_names frames) f) →
    (HasNames table (framed_names frames) → keeps ≡ list_all (keeps_frames frames frame) f.body) →
    (HasNames table (framed_names frames) → own ≡ (not (has_name (framed_names frames) f.name) || takes_frame frame f.params)) →
    LeavesReached frame f → KeepsWhereNamed table frames f
kept-of table frames frame f stands keeps own is yes_stands yes_keeps yes_own stand keep takes leaves = λ has. record {
  stands = sym (stand has) ∙ yes_stands;
  parts = subst (λ fr. list_all (keeps_frames frames fr) f.body ≡ true) (sym is) (sym (keep has) ∙ yes_keeps);
  own = λ h. subst (λ fr. takes_frame fr f.params ≡ true) (sym is)
      (or-then (has_name (framed_names frames) f.name) (takes_frame frame f.params) (sym (takes has) ∙ yes_own) h);
  reached = subst (λ fr. LeavesReached fr f) (sym is) leaves;
}

-- what was looked at of a file
pub are-of : (structs : List CStruct) (frames : List Frame) (functions : List CFunc) → list_all (frame_fits structs frames) frames ≡ true →
    AreOfState (frame_for frames (codes "bl_init")) (frame_for frames (codes "bl_tick")) → All (KeepsFrames frames) functions → AreFrames structs frames functions
are-of structs frames functions fit state keep = record {
  file = record { fit = fit; tick = state.tick; parts = state.parts; untold = (state.untold_init, state.untold_tick) };
  kept = keep;
}

-- the frame that is told of a function
pub told-some : (frames : List Frame) (name : Text) (frame : Frame) → first_frame name frames ≡ Some frame → frame_for frames name ≡ frame
told-some frames name frame is = ap (λ o. unwrap_or o (no_frame name)) is

pub told-none : (frames : List Frame) (name : Text) → first_frame name frames ≡ None → frame_for frames name ≡ no_frame name
told-none frames name is = ap (λ o. unwrap_or o (no_frame name)) is
