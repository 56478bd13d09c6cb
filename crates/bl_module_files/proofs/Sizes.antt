-- A source is read one byte past the longest that is taken: what is judged of that front holds of the whole.
use Rattle.std.proofs.Common.{◌≡◌, ℕ, ◌<◌, ◌≤◌, List, [], length, refl, sym, subst, inl, inr, arith}
use Rattle.bl_io.specs.Count.{NeverFell, Rose}
use Rattle.bl_io.specs.Left.{GivesUpTo}
use Rattle.bl_face.specs.declared.face.Face.{Face}
use Rattle.bl_module.specs.declared.behind.Behind.{Behind}
use Rattle.bl_module.specs.declared.fault.PartFault.{PartFault}
use Rattle.bl_module.specs.declared.fault.PartFault.TheVariants as part
use Rattle.bl_module.specs.declared.taken.Taken.{Taken}
use Rattle.bl_module.specs.declared.taken.Taken.TheVariants.{AsMarked}
use Rattle.bl_module.specs.Faces.{behind_faces}
use Rattle.bl_module.specs.Parts.{IsGoodBehind, PartStops}
use Rattle.bl_module.specs.Rules.{FailsIn, FirstFailingIn, in_bytes, in_tokens, in_tree}
use Rattle.bl_tree.specs.declared.place.Place.{Place}
use Rattle.bl_tree.specs.declared.rule.Rule.{Rule}
use Rattle.bl_tree.specs.declared.rule.Rule.TheVariants as rule
use Rattle.bl_tree.specs.Rules.{number_of}
use Rattle.bl_module_files.specs.declared.fault.FilesFault.{FilesFault}
use Rattle.bl_module_files.specs.declared.fault.FilesFault.TheVariants as fault
use Rattle.bl_module_files.specs.Faces.{AreFaces, FacesStop}
use Rattle.bl_module_files.specs.Judged.{AreRead, FilesStop, HasNoPart, IsFaceOfFile, face_unread}
use Rattle.bl_module_files.specs.Told.{FrontsFailAsWholes, FrontsThatPassAreWhole}
use Rattle.bl_module_files.specs.Turns.{Left, WasRead, file_limit}
use Rattle.bl_module_files.proofs.Turns.{text_of, text_or_long, whole_or_long}

-- the place of the first byte beyond the longest text that is taken
abbrev first_beyond : Place
first_beyond = record { start = 1_048_576; end = 1_048_577 }

pub least_number : (r : Rule) → 1 ≤ number_of r
least_number rule.Size = omega arith
least_number _ = omega arith

module _ (behind : Behind) (taken : Taken) where
  -- a text that is too long fails rule Size there, and at no other place
  size_fails : (text : List ℕ) → 1_048_576 < length text → FailsIn behind taken text rule.Size first_beyond []
  size_fails text long = in_bytes (record { too_long = long; at = refl }, refl)

  size_place : (text : List ℕ) → 1_048_576 < length text → (place : Place) (also : List Place) → FailsIn behind taken text rule.Size place also →
      (place ≡ first_beyond) × (also ≡ [])
  size_place text long place also (in_bytes f) = (f.0.at, f.1)
  size_place text long place also (in_tokens ts passes lexes f) = absurd (passes rule.Size first_beyond [] (record { too_long = long; at = refl }, refl))
  size_place text long place also (in_tree raw passes parses f) = absurd (passes rule.Size first_beyond [] (record { too_long = long; at = refl }, refl))

  -- Size is the first rule that fails for it
  size_first : (text : List ℕ) → 1_048_576 < length text → FirstFailingIn behind taken text rule.Size first_beyond []
  size_first text long = record {
    fails = size_fails text long;
    least_rule = λ other elsewhere further f. least_number other;
    least_places = λ elsewhere further f. inr (sym (size_place text long elsewhere further f).0, tt);
  }

  -- what fails first for a front that was cut is Size, and so it is for the whole
  module _ (whole got : List ℕ) (got_long : 1_048_576 < length got) (whole_long : 1_048_576 < length whole) where
    not_first : (told : Rule) (place : Place) (also : List Place) → 1 < number_of told → ¬ FirstFailingIn behind taken got told place also
    not_first told place also more first =
        let least = first.least_rule rule.Size first_beyond [] (size_fails got got_long) in omega (arith, more, least)

    first_of_long : (rule : Rule) (place : Place) (also : List Place) → FirstFailingIn behind taken got rule place also →
        FirstFailingIn behind taken whole rule place also
    first_of_long rule.Size place also first =
        let is = size_place got got_long place also first.fails in
        subst (λ p. FirstFailingIn behind taken whole rule.Size p also) (sym is.0)
        (subst (λ l. FirstFailingIn behind taken whole rule.Size first_beyond l) (sym is.1) (size_first whole whole_long))
    first_of_long other place also first = absurd (not_first other place also (omega arith) first)

pub fronts_fail : FrontsFailAsWholes
fronts_fail behind taken whole got rule place also front first = elim (whole_or_long whole got front) [
  | inl same ↦ subst (λ text. FirstFailingIn behind taken text rule place also) (sym same) first
  | inr long ↦ first_of_long behind taken whole got long.0 long.1 rule place also first
]

pub fronts_pass : FrontsThatPassAreWhole
fronts_pass behind taken whole got front passes = elim (whole_or_long whole got front) [
  | inl same ↦ same
  | inr long ↦ absurd (passes rule.Size first_beyond [] (size_fails behind taken got long.0))
]

-- what is read of a source and of interface files
module _ (left : Left) (source got : List ℕ) (names : List (List ℕ)) (between after : Left) (faces : List Face)
    (front : GivesUpTo file_limit (left source) got (between source)) (source_read : WasRead source (text_of (left source) got) left between)
    (are : AreFaces between names faces after) where
  abbrev all_read : AreRead left source names
  all_read = record {
    text = text_of (left source) got;
    between = between;
    source_read = source_read;
    faces = faces;
    after = after;
    are_faces = are;
  }

  -- the face of a source
  pub face_of_files : (face : Face) → IsGoodBehind faces AsMarked got face → IsFaceOfFile left source names face
  face_of_files face good = record {
    read = all_read;
    good = elim (text_or_long (left source) got (between source) front) [
      | inl same ↦ subst (λ text. IsGoodBehind faces AsMarked text face) (sym same) good
      | inr long ↦ absurd (good.passes rule.Size first_beyond [] (size_fails (behind_faces faces) AsMarked got long.0))
    ];
  }

  first_of_text : (rule : Rule) (place : Place) (also : List Place) → FirstFailingIn (behind_faces faces) AsMarked got rule place also →
      FirstFailingIn (behind_faces faces) AsMarked (text_of (left source) got) rule place also
  first_of_text rule place also first = elim (text_or_long (left source) got (between source) front) [
    | inl same ↦ subst (λ text. FirstFailingIn (behind_faces faces) AsMarked text rule place also) (sym same) first
    | inr long ↦ first_of_long (behind_faces faces) AsMarked (text_of (left source) got) got long.0 long.1 rule place also first
  ]

  -- why it has none
  pub part_stops : (told : PartFault) → PartStops faces AsMarked got told → HasNoPart left source names told
  part_stops (part.BadFace number) bad = record { read = all_read; bad = bad }
  part_stops (part.Rule rule place also) fails = record {
    read = all_read;
    fails = record { stand = fails.stand; first = first_of_text rule place also fails.first };
  }
  part_stops part.NoMemory none = tt

pub rose_from : (first second last : ℕ) → first ≤ second → Rose second last → Rose first last
rose_from first second last below rose = λ differs. let above = rose differs in omega (arith, below, above)

-- why the interface files behind a source have no faces
pub faces_stop : (left between : Left) (source text : List ℕ) (names : List (List ℕ)) (first second last : List ℕ → ℕ) (told : FilesFault) →
    WasRead source text left between → NeverFell first second → FacesStop between second last names told → FilesStop left first last source names told
faces_stop left between source text names first second last fault.Unread read below unread =
    face_unread text between read
    (record {
      number = unread.number;
      name = unread.name;
      now = unread.now;
      comes = unread.comes;
      rose = rose_from (first unread.name) (second unread.name) (last unread.name) (below unread.name) unread.rose;
    })
faces_stop left between source text names first second last (fault.NotFace number at) read below no_face =
    record { text = text; between = between; source_read = read; no_face = no_face }
faces_stop left between source text names first second last (fault.NoPart part) read below no_part = absurd no_part
faces_stop left between source text names first second last fault.NoMemory read below none = tt
