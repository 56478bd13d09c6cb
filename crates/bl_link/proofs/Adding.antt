-- One file more behind the first ones, and their link.
use Rattle.std.proofs.Common.{◌≡◌, ◌∙◌, ℕ, ◌+◌, ◌-◌, ◌≤◌, true, false, List, [], ◌∷◌, ◌++◌, length, take, drop, sym, ap, subst, inl, inr, arith}
use Rattle.std.proofs.Common.{length-append}
use Rattle.std.proofs.lemmas.Bool.{and_parts, cases_order}
use Rattle.std.proofs.lemmas.List.{length-map, map-append, take-append-drop, take_all}
use Rattle.std.proofs.lemmas.List.Elements.{All-push}
use Rattle.std.proofs.lemmas.Option.{slice_get_past}
use Rattle.std.specs.Prelude.{IfSome, nat_eq, slice_get}
use Rattle.bl_tree.proofs.Basics.{get_front}
use Rattle.bl_face.specs.declared.face.Face.{Face}
use Rattle.bl_face.specs.declared.item.FaceItem.{FaceItem}
use Rattle.bl_link.proofs.Lists.{get-end, take-before}
use Rattle.bl_link.proofs.Turns.{good_parts}
use Rattle.bl_link.specs.declared.fault.LinkFault.{LinkFault}
use Rattle.bl_link.specs.declared.fault.LinkFault.TheVariants as fault
use Rattle.bl_link.specs.Files.{AreFilesOf, NextStops, JoinedStops}
use Rattle.bl_link.specs.Fits.{FacesFit, PartsFit, faces_of, part_texts}
use Rattle.bl_link.specs.inner.Whole.{AreFirst, LastsOf}
use Rattle.bl_link.specs.Linked.{AreLinked, LinkStops}
use Rattle.bl_module.proofs.FaceLemmas.{items-append, stand-append}
use Rattle.bl_module.specs.Behind.{after_items, before_items, items_stand}
use Rattle.bl_module.specs.declared.fault.PartFault.{PartFault}
use Rattle.bl_module.specs.declared.fault.PartFault.TheVariants as part_fault
use Rattle.bl_module.specs.declared.taken.Taken.TheVariants.{AsLast}
use Rattle.bl_module.specs.Faces.{FacesStand, IsBadFace, all_items, items_of}
use Rattle.bl_module.specs.Parts.{IsPart, PartStops, SeenPart}
use Rattle.bl_module_laws.specs.Files.{AreGoodFiles, taken_at}
use Rattle.bl_module_laws_faces.specs.Laws.{FaceDeclares}
use Rattle.bl_tree.proofs.ReduceLemmas.{joined-append}
use Rattle.bl_tree.specs.Reduce.{joined}
use Rattle.bl_tree.specs.declared.program.Program.{Program}

abbrev items : Face → List FaceItem
items face = face.items

-- the face of a part stands behind those before it
pub next_stands : FaceDeclares → (part : SeenPart) (faces : List Face) (face : Face) → IsPart part → items_of part.uses ≡ items_of faces →
    face.items ≡ part.face.items → FacesStand (faces ++ face ∷ [])
next_stands declare part faces face is uses alike =
    subst (λ (all : List (List FaceItem)). items_stand before_items (joined all) ≡ true)
    (map-append items part.uses (part.face ∷ []) ∙ (λ i. uses i ++ sym alike i ∷ []) ∙ sym (map-append items faces (face ∷ [])))
    (declare part.uses (AsLast part.last) part.text part.face is.is_face.raw is is.is_face.parses).stand

module _ (count : ℕ) (parts : List SeenPart) (faces : List Face) (first : AreFirst count parts faces) (part : SeenPart) where
  long : length (parts ++ part ∷ []) ≡ length parts + 1
  long = length-append parts (part ∷ [])

  -- what holds of each part behind those before it holds behind one part more
  next_fits : items_of part.uses ≡ items_of faces → FacesFit (parts ++ part ∷ [])
  next_fits uses k = elim (cases_order k (length parts)) [
    | inl same ↦
        let most : k ≤ length parts = omega (arith, same) in
        let least : length parts ≤ k = omega (arith, same) in
        let front : take k (parts ++ part ∷ []) ≡ parts = take-before parts (part ∷ []) k most ∙ take_all k parts least in
        subst (λ o. IfSome o (λ (it : SeenPart). items_of it.uses ≡ items_of (faces_of (take k (parts ++ part ∷ [])))))
        (sym (get-end parts part k same))
        (uses ∙ first.same ∙ ap (λ them. items_of (faces_of them)) (sym front))
    | inr apart ↦ elim apart [
      | inl less ↦
          let most : k ≤ length parts = omega (arith, less) in
          subst (λ o. IfSome o (λ (it : SeenPart). items_of it.uses ≡ items_of (faces_of (take k (parts ++ part ∷ [])))))
          (sym (get_front parts (part ∷ []) k less))
          (subst (λ them. IfSome (slice_get parts k) (λ (it : SeenPart). items_of it.uses ≡ items_of (faces_of them)))
          (sym (take-before parts (part ∷ []) k most)) (first.fit k))
      | inr past ↦
          let beyond : length (parts ++ part ∷ []) ≤ k = omega (arith, long, past) in
          subst (λ o. IfSome o (λ (it : SeenPart). items_of it.uses ≡ items_of (faces_of (take k (parts ++ part ∷ [])))))
          (sym (slice_get_past (parts ++ part ∷ []) k beyond)) tt
    ]
  ]

  next_lasts : part.last ≡ nat_eq (length parts + 1) count → LastsOf count (parts ++ part ∷ [])
  next_lasts last k = elim (cases_order k (length parts)) [
    | inl same ↦
        subst (λ o. IfSome o (λ (it : SeenPart). it.last ≡ nat_eq (k + 1) count)) (sym (get-end parts part k same))
        (last ∙ ap (λ n. nat_eq (n + 1) count) (sym same))
    | inr apart ↦ elim apart [
      | inl less ↦
          subst (λ o. IfSome o (λ (it : SeenPart). it.last ≡ nat_eq (k + 1) count)) (sym (get_front parts (part ∷ []) k less)) (first.lasts k)
      | inr past ↦
          let beyond : length (parts ++ part ∷ []) ≤ k = omega (arith, long, past) in
          subst (λ o. IfSome o (λ (it : SeenPart). it.last ≡ nat_eq (k + 1) count)) (sym (slice_get_past (parts ++ part ∷ []) k beyond)) tt
    ]
  ]

  -- one file more
  pub next_file : (face : Face) → IsPart part → items_of part.uses ≡ items_of faces → part.last ≡ nat_eq (length parts + 1) count →
      face.items ≡ part.face.items → FacesStand (faces ++ face ∷ []) → AreFirst count (parts ++ part ∷ []) (faces ++ face ∷ [])
  next_file face is uses last alike stand = record {
    some = first.some;
    few = first.few;
    are = All-push IsPart parts part first.are is;
    fit = next_fits uses;
    lasts = next_lasts last;
    same = map-append items faces (face ∷ []) ∙ (λ i. first.same i ++ alike i ∷ [])
        ∙ sym (map-append items (faces_of parts) (part.face ∷ []))
        ∙ ap items_of (sym (map-append (λ (it : SeenPart). it.face) parts (part ∷ [])));
    stand = stand;
  }

pub texts_length : (parts : List SeenPart) → length (part_texts parts) ≡ length parts
texts_length parts = length-map parts (λ (it : SeenPart). it.text)

-- ---- all files

-- the first of faces that stand stand
front_stands : (faces : List Face) (k : ℕ) → FacesStand faces → FacesStand (take k faces)
front_stands faces k stand =
    (and_parts (items_stand before_items (all_items (take k faces)))
    (items_stand (after_items before_items (all_items (take k faces))) (all_items (drop k faces)))
    (sym (stand-append before_items (all_items (take k faces)) (all_items (drop k faces)))
    ∙ ap (items_stand before_items)
    (sym (joined-append (items_of (take k faces)) (items_of (drop k faces)))
    ∙ ap joined (sym (items-append (take k faces) (drop k faces)))
    ∙ ap all_items (take-append-drop k faces))
    ∙ stand)).0

no_bad_face : (faces : List Face) (k : ℕ) → FacesStand faces → ¬ IsBadFace faces k
no_bad_face faces k stand bad = true_not_false (sym (front_stands faces k stand) ∙ bad.fails)
  where
    true_not_false : true ≡ false → ⊥
    true_not_false e = cc

module _ (count : ℕ) (parts : List SeenPart) (faces : List Face) (first : AreFirst count parts faces) where
  -- the next file has no other fault than a rule
  pub file_stops : (text : List ℕ) (told : PartFault) → PartStops faces (taken_at count (length parts)) text told →
      NextStops count (part_texts parts) text told
  file_stops text (part_fault.BadFace face) stops = absurd (no_bad_face faces face first.stand stops)
  file_stops text (part_fault.Rule rule place also) stops =
      let size : length parts ≡ length (part_texts parts) = sym (texts_length parts) in
      let most : length parts ≤ length (part_texts parts) = omega (arith, size) in
      let least : length (part_texts parts) ≤ length parts = omega (arith, size) in record {
        position = length parts;
        counted = ap (λ n. n + 1) (sym size);
        text = text;
        is_there = get-end (part_texts parts) text (length parts) size;
        faces = faces;
        before = subst (λ texts. AreGoodFiles count texts faces)
            (sym (take-before (part_texts parts) (text ∷ []) (length parts) most ∙ take_all (length parts) (part_texts parts) least))
            (good_parts count parts faces first.are first.fit first.lasts first.same);
        fails = stops;
      }
  file_stops text part_fault.NoMemory stops = tt

  pub first_good : AreGoodFiles count (part_texts parts) faces
  first_good = good_parts count parts faces first.are first.fit first.lasts first.same

  module _ (all : length (part_texts parts) ≡ count) where
    counted : length parts ≡ count
    counted = sym (texts_length parts) ∙ all

    fit : PartsFit parts
    fit = record {
      faces = first.fit;
      lasts = subst (λ n. LastsOf n parts) (sym counted) first.lasts;
    }

    good : AreGoodFiles (length (part_texts parts)) (part_texts parts) faces
    good = subst (λ n. AreGoodFiles n (part_texts parts) faces) (sym all) first_good

    pub files_of : (program : Program) → AreLinked parts program → AreFilesOf (part_texts parts) program
    files_of program linked = record { faces = faces; good = good; have = linked.have }

    pub files_stop : (told : LinkFault) → LinkStops parts told → JoinedStops (part_texts parts) told
    files_stop (fault.Face part) stops = absurd (stops.fails (fit.faces (part - 1)))
    files_stop (fault.Last part) stops = absurd (stops.1.fails (fit.lasts (part - 1)))
    files_stop (fault.Rule file rule place) stops = record { faces = faces; good = good; fail = stops.1 }
    files_stop fault.NoMemory stops = tt
