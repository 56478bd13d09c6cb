-- Files in turn: what they come to is determined.
use Rattle.std.proofs.Common.{◌≡◌, ◌∙◌, ℕ, ◌+◌, ◌<◌, ◌≤◌, zero, suc, false, List, [], ◌∷◌, ◌++◌, length, take, refl, sym, ap, subst, inl, inr, arith}
use Rattle.std.proofs.lemmas.Bool.{cases_lt}
use Rattle.std.proofs.lemmas.List.{length-map, length-take-le, take_all}
use Rattle.std.proofs.lemmas.List.Elements.{All-get_or}
use Rattle.std.proofs.lemmas.Option.{get_or_from_slice_get, same_Some, slice_get-map, slice_get_within}
use Rattle.std.specs.Prelude.{IfSome, Some, nat_eq, option_map, slice_get}
use Rattle.bl_tree.proofs.Basics.{get_front, get_taken, some_within}
use Rattle.bl_face.specs.declared.face.Face.{Face}
use Rattle.bl_face.specs.declared.item.FaceItem.{FaceItem}
use Rattle.bl_link.proofs.Lists.{agree-at, agree-length, agree-next, take-before, take-map, take-take}
use Rattle.bl_link.specs.Files.{FailsAtFile}
use Rattle.bl_link.specs.Fits.{FacesFit, faces_of, part_texts}
use Rattle.bl_link.specs.inner.Whole.{ArePartsOf, LastsOf}
use Rattle.bl_module.proofs.FaceLemmas.{good_alike}
use Rattle.bl_module.specs.Behind.{behind_items}
use Rattle.bl_module.specs.declared.behind.Behind.{Behind}
use Rattle.bl_module.specs.declared.taken.Taken.{Taken}
use Rattle.bl_module.specs.declared.taken.Taken.TheVariants.{AsLast}
use Rattle.bl_module.specs.Faces.{behind_faces, items_of}
use Rattle.bl_module.specs.Own.{IsFaceOf}
use Rattle.bl_module.specs.Parts.{FailsBehindFaces, IsGoodBehind, IsPart, SeenPart}
use Rattle.bl_module.specs.Rules.{FirstFailingIn, PassesIn}
use Rattle.bl_module_laws.specs.Files.{AreGoodFiles, taken_at}
use Rattle.bl_tree.specs.declared.place.Place.{Place}
use Rattle.bl_tree.specs.declared.rule.Rule.{Rule}
use Rattle.bl_tree.specs.Reduce.{joined}
use Rattle.bl_tree.specs.Rules.{tells_walk}

-- behind a start a text has one face
abbrev pub OneFace : Type 0
OneFace = (behind : Behind) (text : List ℕ) (face other : Face) → IsFaceOf behind text face → IsFaceOf behind text other → face.items ≡ other.items

-- behind a start a text that passes has no first failing rule
abbrev pub NoneFirst : Type 0
NoneFirst =
    (behind : Behind) (taken : Taken) (text : List ℕ) (rule : Rule) (place : Place) (also : List Place) → PassesIn behind taken text →
    ¬ FirstFailingIn behind taken text rule place also

-- behind a start a text has one first failing rule, with one place
abbrev pub OneFirst : Type 0
OneFirst =
    (behind : Behind) (taken : Taken) (text : List ℕ) (rule other : Rule) (place elsewhere : Place) (also further : List Place) →
    FirstFailingIn behind taken text rule place also → FirstFailingIn behind taken text other elsewhere further → (rule ≡ other) × (place ≡ elsewhere)

-- its further places are determined, unless they are a walk
abbrev pub OneFurther : Type 0
OneFurther =
    (behind : Behind) (taken : Taken) (text : List ℕ) (rule other : Rule) (place elsewhere : Place) (also further : List Place) →
    FirstFailingIn behind taken text rule place also → FirstFailingIn behind taken text other elsewhere further → tells_walk rule ≡ false →
    also ≡ further

abbrev items : Face → List FaceItem
items face = face.items

behind_alike : (faces others : List Face) → items_of faces ≡ items_of others → behind_faces faces ≡ behind_faces others
behind_alike faces others same = ap (λ them. behind_items (joined them)) same

-- ---- good files have one list of faces

module _ (one_face : OneFace) (count : ℕ) (texts : List (List ℕ)) (faces others : List Face) (good : AreGoodFiles count texts faces)
    (too : AreGoodFiles count texts others) where
  first_faces : (k : ℕ) → k ≤ length texts → items_of (take k faces) ≡ items_of (take k others)
  first_faces zero within = refl
  first_faces (suc k) within =
      let less : k < length texts = omega (arith, within) in
      let inside : k < length faces = omega (arith, good.counted, less) in
      let there : k < length others = omega (arith, too.counted, less) in
      let before = first_faces k (omega (arith, less)) in
      let text = some_within texts k less in
      let face = some_within faces k inside in
      let other = some_within others k there in
      let one = good.each k text.0 face.0 text.1 face.1 in
      let two = too.each k text.0 other.0 text.1 other.1 in
      let same : face.0.items ≡ other.0.items =
      one_face (behind_faces (take k faces)) text.0 face.0 other.0 one.is_face
      (subst (λ behind. IsFaceOf behind text.0 other.0) (sym (behind_alike (take k faces) (take k others) before)) two.is_face) in
      let more : k + 1 ≡ suc k = omega arith in
      subst (λ n. items_of (take n faces) ≡ items_of (take n others)) more
      (agree-next items items faces others k face.0 other.0 face.1 other.1 same before)

  pub same_faces : items_of faces ≡ items_of others
  same_faces =
      let all : length faces ≤ length texts = omega (arith, good.counted) in
      let too_all : length others ≤ length texts = omega (arith, too.counted) in
      sym (ap items_of (take_all (length texts) faces all)) ∙ first_faces (length texts) (omega arith)
      ∙ ap items_of (take_all (length texts) others too_all)

-- the first of good files are good
good_front : (count : ℕ) (texts : List (List ℕ)) (faces : List Face) (n : ℕ) → n ≤ length texts → AreGoodFiles count texts faces →
    AreGoodFiles count (take n texts) (take n faces)
good_front count texts faces n within good = record {
  counted = let long : n ≤ length faces = omega (arith, within, good.counted) in
      length-take-le n faces long ∙ sym (length-take-le n texts within);
  each = λ k text face at there.
      let less : k < n = omega (arith, slice_get_within (take n texts) k text at, length-take-le n texts within) in
      let most : k ≤ n = omega (arith, less) in
      subst (λ them. IsGoodBehind them (taken_at count k) text face) (sym (take-take faces n k most))
      (good.each k text face (sym (get_taken texts n k less) ∙ at) (sym (get_taken faces n k less) ∙ there));
}

-- ---- where files fail

module _ (one_face : OneFace) (none : NoneFirst) (count : ℕ) (texts : List (List ℕ)) where
  -- a file behind good files fails for no rule where it is good itself
  no_failure_among : (n position : ℕ) (text : List ℕ) (faces others : List Face) (rule : Rule) (place : Place) (also : List Place) → position < n →
      n ≤ length texts → slice_get texts position ≡ Some text → AreGoodFiles count (take n texts) faces →
      AreGoodFiles count (take position texts) others → ¬ FailsBehindFaces others (taken_at count position) text rule place also
  no_failure_among n position text faces others rule place also less within at good before fails =
      let front : position ≤ n = omega (arith, less) in
      let long : length (take n texts) ≡ n = length-take-le n texts within in
      let inside : position < length faces = omega (arith, good.counted, long, less) in
      let face = some_within faces position inside in
      let one = good.each position text face.0 (get_taken texts n position less ∙ at) face.1 in
      let first_good : AreGoodFiles count (take position texts) (take position faces) =
      subst (λ them. AreGoodFiles count them (take position faces)) (take-take texts n position front)
      (good_front count (take n texts) faces position (omega (arith, long, less)) good) in
      let same = same_faces one_face count (take position texts) (take position faces) others first_good before in
      none (behind_faces others) (taken_at count position) text rule place also
      (subst (λ behind. PassesIn behind (taken_at count position) text) (behind_alike (take position faces) others same) one.passes) fails.first

  fails_within : (file : ℕ) (rule : Rule) (place : Place) (also : List Place) (fails : FailsAtFile count texts file rule place also) →
      fails.position < length texts
  fails_within file rule place also fails = slice_get_within texts fails.position fails.text fails.is_there

  pub good_files_fail_nowhere : (faces : List Face) (file : ℕ) (rule : Rule) (place : Place) (also : List Place) → AreGoodFiles count texts faces →
      ¬ FailsAtFile count texts file rule place also
  good_files_fail_nowhere faces file rule place also good fails =
      no_failure_among (length texts) fails.position fails.text faces fails.faces rule place also (fails_within file rule place also fails)
      (omega arith) fails.is_there
      (subst (λ them. AreGoodFiles count them faces) (sym (take_all (length texts) texts (omega arith))) good) fails.before fails.fails

  no_sooner : (file elsewhere : ℕ) (rule other : Rule) (place there : Place) (also further : List Place)
      (fails : FailsAtFile count texts file rule place also) (too : FailsAtFile count texts elsewhere other there further) →
      fails.position < too.position → ⊥
  no_sooner file elsewhere rule other place there also further fails too less =
      no_failure_among too.position fails.position fails.text too.faces fails.faces rule place also less
      (omega (arith, fails_within elsewhere other there further too)) fails.is_there too.before fails.before fails.fails

  pub one_position : (file elsewhere : ℕ) (rule other : Rule) (place there : Place) (also further : List Place)
      (fails : FailsAtFile count texts file rule place also) (too : FailsAtFile count texts elsewhere other there further) →
      fails.position ≡ too.position
  one_position file elsewhere rule other place there also further fails too = elim (cases_lt fails.position too.position) [
    | inl less ↦ absurd (no_sooner file elsewhere rule other place there also further fails too less)
    | inr most ↦ elim (cases_lt too.position fails.position) [
      | inl less ↦ absurd (no_sooner elsewhere file other rule there place further also too fails less)
      | inr least ↦ omega (arith, most, least)
    ]
  ]

  -- two failures are of one text behind one start
  both_first : (file elsewhere : ℕ) (rule other : Rule) (place there : Place) (also further : List Place)
      (fails : FailsAtFile count texts file rule place also) (too : FailsAtFile count texts elsewhere other there further) →
      FirstFailingIn (behind_faces fails.faces) (taken_at count fails.position) fails.text other there further
  both_first file elsewhere rule other place there also further fails too =
      let at : too.position ≡ fails.position = sym (one_position file elsewhere rule other place there also further fails too) in
      let text : too.text ≡ fails.text =
      same_Some too.text fails.text (sym too.is_there ∙ ap (slice_get texts) at ∙ fails.is_there) in
      let faces : items_of too.faces ≡ items_of fails.faces =
      same_faces one_face count (take fails.position texts) too.faces fails.faces
      (subst (λ n. AreGoodFiles count (take n texts) too.faces) at too.before) fails.before in
      subst (λ behind. FirstFailingIn behind (taken_at count fails.position) fails.text other there further)
      (behind_alike too.faces fails.faces faces)
      (subst (λ it. FirstFailingIn (behind_faces too.faces) (taken_at count fails.position) it other there further) text
      (subst (λ n. FirstFailingIn (behind_faces too.faces) (taken_at count n) too.text other there further) at too.fails.first))

  pub one_failure : OneFirst → (file elsewhere : ℕ) (rule other : Rule) (place there : Place) (also further : List Place) →
      FailsAtFile count texts file rule place also → FailsAtFile count texts elsewhere other there further →
      (file ≡ elsewhere) × ((rule ≡ other) × (place ≡ there))
  one_failure first file elsewhere rule other place there also further fails too = (
    fails.counted ∙ ap (λ n. n + 1) (one_position file elsewhere rule other place there also further fails too) ∙ sym too.counted,
    first (behind_faces fails.faces) (taken_at count fails.position) fails.text rule other place there also further fails.fails.first
        (both_first file elsewhere rule other place there also further fails too),
  )

  pub one_further : OneFurther → (file elsewhere : ℕ) (rule other : Rule) (place there : Place) (also further : List Place) →
      FailsAtFile count texts file rule place also → FailsAtFile count texts elsewhere other there further → tells_walk rule ≡ false → also ≡ further
  one_further first file elsewhere rule other place there also further fails too =
      first (behind_faces fails.faces) (taken_at count fails.position) fails.text rule other place there also further fails.fails.first
      (both_first file elsewhere rule other place there also further fails too)

-- a failure of first files is one of more files
pub fails_among_more : (count : ℕ) (texts more : List (List ℕ)) (file : ℕ) (rule : Rule) (place : Place) (also : List Place) →
    FailsAtFile count texts file rule place also → FailsAtFile count (texts ++ more) file rule place also
fails_among_more count texts more file rule place also fails =
    let less : fails.position < length texts = slice_get_within texts fails.position fails.text fails.is_there in
    let most : fails.position ≤ length texts = omega (arith, less) in record {
      position = fails.position;
      counted = fails.counted;
      text = fails.text;
      is_there = get_front texts more fails.position less ∙ fails.is_there;
      faces = fails.faces;
      before = subst (λ them. AreGoodFiles count them fails.faces) (sym (take-before texts more fails.position most)) fails.before;
      fails = fails.fails;
    }

-- ---- parts are good files

-- a face with the same items is as good
face_alike : (uses : List Face) (taken : Taken) (text : List ℕ) (face other : Face) → face.items ≡ other.items → IsGoodBehind uses taken text face →
    IsGoodBehind uses taken text other
face_alike uses taken text face other same good = record {
  stand = good.stand;
  passes = good.passes;
  is_face = record { raw = good.is_face.raw; parses = good.is_face.parses; is = sym same ∙ good.is_face.is };
}

abbrev face_of : SeenPart → Face
face_of part = part.face

abbrev text_of : SeenPart → List ℕ
text_of part = part.text

module _ (count : ℕ) (parts : List SeenPart) (faces : List Face) (are : ArePartsOf parts) (fit : FacesFit parts) (lasts : LastsOf count parts)
    (same : items_of faces ≡ items_of (faces_of parts)) where
  first_same : (k : ℕ) → items_of (take k faces) ≡ items_of (faces_of (take k parts))
  first_same k =
      sym (take-map items k faces) ∙ ap (take k) same ∙ take-map items k (faces_of parts) ∙ ap items_of (take-map face_of k parts)

  good_part : (k : ℕ) (text : List ℕ) (face : Face) → slice_get (part_texts parts) k ≡ Some text → slice_get faces k ≡ Some face →
      IsGoodBehind (take k faces) (taken_at count k) text face
  good_part k text face at there =
      let size : length (part_texts parts) ≡ length parts = length-map parts text_of in
      let less : k < length parts = omega (arith, slice_get_within (part_texts parts) k text at, size) in
      let part = some_within parts k less in
      let is_text : part.0.text ≡ text =
      same_Some part.0.text text (sym (slice_get-map text_of parts k ∙ ap (option_map text_of) part.1) ∙ at) in
      let is_face : face.items ≡ part.0.face.items =
      agree-at items items faces (faces_of parts) k face part.0.face same there (slice_get-map face_of parts k ∙ ap (option_map face_of) part.1) in
      let uses : items_of part.0.uses ≡ items_of (faces_of (take k parts)) =
      subst (λ o. IfSome o (λ (it : SeenPart). items_of it.uses ≡ items_of (faces_of (take k parts)))) part.1 (fit k) in
      let last : part.0.last ≡ nat_eq (k + 1) count =
      subst (λ o. IfSome o (λ (it : SeenPart). it.last ≡ nat_eq (k + 1) count)) part.1 (lasts k) in
      let keeps : IsPart part.0 = subst IsPart (get_or_from_slice_get parts k part.0 part.0 part.1) (All-get_or IsPart parts k part.0 less are) in
      let alike = good_alike part.0.uses (take k faces) (AsLast part.0.last) part.0.text part.0.face (first_same k ∙ sym uses) keeps in
      let own = face_alike (take k faces) (AsLast part.0.last) part.0.text part.0.face face (sym is_face) alike in
      subst (λ it. IsGoodBehind (take k faces) (taken_at count k) it face) is_text
      (subst (λ it. IsGoodBehind (take k faces) (AsLast it) part.0.text face) last own)

  pub good_parts : AreGoodFiles count (part_texts parts) faces
  good_parts = record {
    counted = agree-length items items faces (faces_of parts) same ∙ length-map parts face_of ∙ sym (length-map parts text_of);
    each = good_part;
  }
