-- How `face` ends where no count of faults rises.
use Rattle.std.proofs.Common.{◌≡◌, ◌++◌, true, List, [], ◌∷◌, ℕ, refl, sym, subst, inl, inr}
use Rattle.bl_face.specs.declared.face.Face.{Face}
use Rattle.bl_face.specs.Text.{face_text}
use Rattle.bl_module.specs.Behind.{before_items, behind_items, items_stand}
use Rattle.bl_module.specs.declared.taken.Taken.TheVariants.{AsMarked}
use Rattle.bl_module.specs.Faces.{FacesStand, behind_faces, items_of}
use Rattle.bl_module.specs.Rules.{FailsIn, FirstFailingIn, PassesIn}
use Rattle.bl_module_files.specs.Judged.{AreRead, BadFaceBehind, UnreadBehind, face_unread, source_unread}
use Rattle.bl_module_files.specs.Faces.{AreSpelled}
use Rattle.bl_module_files.specs.Told.{AreTold, BadFacesDontStand, SpelledFacesAreTaken, TextsHaveOneFaceEach, ToldFilesAreRead}
use Rattle.bl_top_args.specs.Jobs.{Word}
use Rattle.bl_top_commands.specs.Calls.{Call, HasRisen}
use Rattle.bl_top_commands.specs.Face.{FaceEnds, FaceStops, bad_face, no_face, refused, short, stopped, told, unread}
use Rattle.bl_top_commands.specs.declared.status.Status.{Status}
use Rattle.bl_top_commands.specs.declared.status.Status.TheVariants as status
use Rattle.bl_top_laws.proofs.Runs.{IsDone, result_done}
use Rattle.bl_top_laws.proofs.Turns.{first_are_read}
use Rattle.bl_top_laws.specs.Complete.{NoneOfThemRose}
use Rattle.bl_tree.specs.declared.place.Place.{Place}
use Rattle.bl_tree.specs.declared.rule.Rule.{Rule}
use Rattle.bl_tree.specs.Reduce.{joined}

-- the texts of files decide what comes of them
pub record FilesDecide : Type 0 where
  pub read : ToldFilesAreRead
  pub taken : SpelledFacesAreTaken
  pub one : TextsHaveOneFaceEach
  pub bad : BadFacesDontStand

-- no count of a file among those of which none rose did
pub none_at : (c : Call) (names earlier : List Word) (name : Word) (later : List Word) → names ≡ earlier ++ name ∷ later → NoneOfThemRose c names →
    ¬ HasRisen (c.file name)
none_at c names earlier name later are none = go earlier (subst (NoneOfThemRose c) are none)
  where
    go : (earlier : List Word) → NoneOfThemRose c (earlier ++ name ∷ later) → ¬ HasRisen (c.file name)
    go [] none = none.0
    go (one ∷ earlier) none = go earlier none.1

module _ (c : Call) (name : Word) (names : List Word) (none : NoneOfThemRose c (name ∷ names)) where
  never_unread : UnreadBehind c.left (λ file. (c.file file).before) (λ file. (c.file file).after) name names → ⊥
  never_unread (source_unread rose) = none.0 rose
  never_unread (face_unread other between read unread_one) =
      none_at c names unread_one.comes.earlier unread_one.name unread_one.comes.later unread_one.comes.names_are none.1 unread_one.rose

module _ (decide : FilesDecide) (c : Call) (name : Word) (names : List Word) (text : List ℕ) (texts : List (List ℕ))
    (are_told : AreTold c.left (name ∷ names) (text ∷ texts)) (none : NoneOfThemRose c (name ∷ names)) where
  text_is : (read : AreRead c.left name names) → read.text ≡ text
  text_is read = (decide.read c.left name text names texts are_told read).0

  spelled_by : (read : AreRead c.left name names) → AreSpelled texts read.faces
  spelled_by read = (decide.read c.left name text names texts are_told read).1

  module _ (faces : List Face) (spelled : AreSpelled texts faces) (stand : FacesStand faces) where
    same_items : (read : AreRead c.left name names) → items_of read.faces ≡ items_of faces
    same_items read = decide.one texts read.faces faces (spelled_by read) spelled

    -- what holds of the text that was read behind the faces that were read
    passes_as : (read : AreRead c.left name names) → PassesIn (behind_faces read.faces) AsMarked read.text → PassesIn (behind_faces faces) AsMarked text
    passes_as read passes =
        subst (λ t. PassesIn (behind_faces faces) AsMarked t) (text_is read)
        (subst (λ items. PassesIn (behind_items (joined items)) AsMarked read.text) (same_items read) passes)

    fails_as : (read : AreRead c.left name names) (rule : Rule) (place : Place) (also : List Place) →
        FirstFailingIn (behind_faces read.faces) AsMarked read.text rule place also → FailsIn (behind_faces faces) AsMarked text rule place also
    fails_as read rule place also first =
        subst (λ t. FailsIn (behind_faces faces) AsMarked t rule place also) (text_is read)
        (subst (λ items. FailsIn (behind_items (joined items)) AsMarked read.text rule place also) (same_items read) first.fails)

    never_bad : (file : ℕ) → BadFaceBehind c.left name names file → ⊥
    never_bad file is =
        decide.bad is.read.faces file is.bad
        (subst (λ items. items_stand before_items (joined items) ≡ true) (sym (same_items is.read)) stand)

    -- ---- no rule fails

    passes_stops : PassesIn (behind_faces faces) AsMarked text → (ended : Status) (line : List ℕ) → FaceStops c name names ended line →
        IsDone ended status.Ok
    passes_stops passes _ _ (no_face file at is) = absurd (decide.taken c.left name text names texts faces file at are_told spelled is)
    passes_stops passes _ _ (bad_face file is) = absurd (never_bad file is)
    passes_stops passes _ _ (refused rule place also is) = absurd (passes rule place also (fails_as is.read rule place also is.fails.first))
    passes_stops passes _ _ (unread is) = absurd (never_unread c name names none is)
    passes_stops passes _ _ short = inl refl

    pub face_due : PassesIn (behind_faces faces) AsMarked text → ¬ HasRisen c.out.faults → (ended : Status) (line : List ℕ) →
        FaceEnds c name names ended line → IsDone ended status.Ok
    face_due passes none_out ended _ (told face is writes) = result_done (λ it. it ≡ face_text face) c.out ended none_out writes
    face_due passes none_out ended line (stopped why kept) = passes_stops passes ended line why

    -- ---- a rule fails

    fails_stops : (ended : Status) (line : List ℕ) → FaceStops c name names ended line → IsDone ended status.Refused
    fails_stops _ _ (no_face file at is) = absurd (decide.taken c.left name text names texts faces file at are_told spelled is)
    fails_stops _ _ (bad_face file is) = absurd (never_bad file is)
    fails_stops _ _ (refused rule place also is) = inr refl
    fails_stops _ _ (unread is) = absurd (never_unread c name names none is)
    fails_stops _ _ short = inl refl

    pub face_fails : ¬ PassesIn (behind_faces faces) AsMarked text → (ended : Status) (line : List ℕ) → FaceEnds c name names ended line →
        IsDone ended status.Refused
    face_fails fails ended _ (told face is writes) = absurd (fails (passes_as is.read is.good.passes))
    face_fails fails ended line (stopped why kept) = fails_stops ended line why

  -- ---- no faces of the texts stand

  module _ (no_faces : (faces : List Face) → AreSpelled texts faces → ¬ FacesStand faces) where
    none_stops : (ended : Status) (line : List ℕ) → FaceStops c name names ended line → IsDone ended status.NotFace
    none_stops _ _ (no_face file at is) = inr refl
    none_stops _ _ (bad_face file is) = inr refl
    none_stops _ _ (refused rule place also is) = absurd (no_faces is.read.faces (spelled_by is.read) is.fails.stand)
    none_stops _ _ (unread is) = absurd (never_unread c name names none is)
    none_stops _ _ short = inl refl

    pub face_stops : (ended : Status) (line : List ℕ) → FaceEnds c name names ended line → IsDone ended status.NotFace
    face_stops ended _ (told face is writes) = absurd (no_faces is.read.faces (spelled_by is.read) is.good.stand)
    face_stops ended line (stopped why kept) = none_stops ended line why

-- ---- one of the first files is no face

module _ (decide : FilesDecide) (c : Call) (name : Word) (names earlier later : List Word) (are : names ≡ earlier ++ later) (text : List ℕ)
    (texts : List (List ℕ)) (are_told : AreTold c.left (name ∷ earlier) (text ∷ texts)) (no_faces : (faces : List Face) → ¬ AreSpelled texts faces)
    (none : NoneOfThemRose c (name ∷ names)) where
  never_read : AreRead c.left name names → ⊥
  never_read read =
      let first = first_are_read c.left name names earlier later are read in
      no_faces first.faces (decide.read c.left name text earlier texts are_told first).1

  first_stops : (ended : Status) (line : List ℕ) → FaceStops c name names ended line → IsDone ended status.NotFace
  first_stops _ _ (no_face file at is) = inr refl
  first_stops _ _ (bad_face file is) = inr refl
  first_stops _ _ (refused rule place also is) = absurd (never_read is.read)
  first_stops _ _ (unread is) = absurd (never_unread c name names none is)
  first_stops _ _ short = inl refl

  pub face_stops_in : (ended : Status) (line : List ℕ) → FaceEnds c name names ended line → IsDone ended status.NotFace
  face_stops_in ended _ (told face is writes) = absurd (never_read is.read)
  face_stops_in ended line (stopped why kept) = first_stops ended line why
