-- Items of faces, one face after another.
use Rattle.std.proofs.Common.{◌≡◌, ℕ, ◌+◌, ◌-◌, ◌<◌, ◌≤◌, ◌∙◌, zero, suc, true, false, ◌&&◌, List, [], ◌∷◌, ◌++◌, take, length, get_or, refl, sym}
use Rattle.std.proofs.Common.{ap, subst, arith}
use Rattle.std.specs.Prelude.{slice_index_or}
use Rattle.std.proofs.Math.Seq.{take-suc}
use Rattle.std.proofs.lemmas.Bool.{and_from}
use Rattle.bl_tree.proofs.Basics.{and_regroup, plus_one, second_false}
use Rattle.bl_tree.specs.Reduce.{joined}
use Rattle.bl_tree.proofs.ReduceLemmas.{joined-append}
use Rattle.bl_tree.specs.declared.tree.Ty.{Ty, roll-Ty}
use Rattle.bl_tree.specs.declared.tree.Ty.TheOpen.{Ty-F}
use Rattle.bl_tree.specs.declared.tree.Ty.TheVariants as ty
use Rattle.bl_tree.specs.declared.tree.Ty.TheVariants.{rolls-Array}
use Rattle.bl_face.specs.declared.face.Face.{Face}
use Rattle.bl_face.specs.declared.item.FaceItem.{FaceItem}
use Rattle.bl_module.specs.Behind.{after_item, after_items, array_of, before_items, behind_items, item_stands, items_stand}
use Rattle.bl_module.specs.Own.{IsFaceOf}
use Rattle.bl_module.specs.Parts.{IsGoodBehind}
use Rattle.bl_module.specs.Rules.{PassesIn}
use Rattle.bl_module.specs.declared.taken.Taken.{Taken}
use Rattle.bl_module.specs.declared.walk.Walk.{Walk}
use Rattle.bl_module.specs.Faces.{IsBadFace, all_items, items_of}

pub after-append : (walk : Walk) (xs ys : List FaceItem) → after_items walk (xs ++ ys) ≡ after_items (after_items walk xs) ys
after-append walk [] ys = refl
after-append walk (x ∷ xs) ys = after-append (after_item walk x) xs ys

pub stand-append : (walk : Walk) (xs ys : List FaceItem) → items_stand walk (xs ++ ys) ≡ (items_stand walk xs && items_stand (after_items walk xs) ys)
stand-append walk [] ys = refl
stand-append walk (x ∷ xs) ys =
    ap (λ rest. item_stands walk.names x && rest) (stand-append (after_item walk x) xs ys)
    ∙ and_regroup (item_stands walk.names x) (items_stand (after_item walk x) xs) (items_stand (after_items (after_item walk x) xs) ys)

pub items-append : (xs ys : List Face) → items_of (xs ++ ys) ≡ items_of xs ++ items_of ys
items-append [] ys = refl
items-append (x ∷ xs) ys = ap (λ rest. x.items ∷ rest) (items-append xs ys)

append_nil : {A : Type 0} (xs : List A) → xs ++ [] ≡ xs
append_nil [] = refl
append_nil (x ∷ xs) = ap (λ rest. x ∷ rest) (append_nil xs)

-- the items up to a face are those before it, and then its own
pub all_items-next : (faces : List Face) (k : ℕ) (face : Face) → k < length faces → face ≡ get_or faces k face →
    all_items (take (k + 1) faces) ≡ all_items (take k faces) ++ face.items
all_items-next faces k face within is =
    ap (λ n. all_items (take n faces)) (plus_one k)
    ∙ ap all_items (take-suc faces k face within)
    ∙ ap (λ it. all_items (take k faces ++ (it ∷ []))) (sym is)
    ∙ ap joined (items-append (take k faces) (face ∷ []))
    ∙ joined-append (items_of (take k faces)) (face.items ∷ [])
    ∙ ap (λ rest. all_items (take k faces) ++ rest) (append_nil face.items)

array-append : (xs ys : List ℕ) (inner : Ty) → array_of (xs ++ ys) inner ≡ array_of xs (array_of ys inner)
array-append [] ys inner = refl
array-append (x ∷ xs) ys inner = ap (λ it. roll-Ty (Ty-F.Array x it)) (array-append xs ys inner)

-- arrays in arrays, made from the innermost: one array more around the type
pub array-next : (lengths : List ℕ) (k n d : ℕ) (element inner made : Ty) → 0 < k → k ≤ length lengths → n ≡ slice_index_or lengths (k - 1) d →
    inner ≡ element → made ≡ ty.Array n inner → array_of (take (k - 1) lengths) made ≡ array_of (take k lengths) element
array-next lengths zero n d element inner made some within is same made_is = absurd (omega (arith, some))
array-next lengths (suc k) n d element inner made some within is same made_is =
    let less : k < length lengths = omega (arith, within) in
    ap (λ m. array_of (take m lengths) made) before
    ∙ ap (array_of (take k lengths)) (made_is ∙ ap (ty.Array n) same ∙ sym (rolls-Array n element))
    ∙ sym (array-append (take k lengths) (n ∷ []) element)
    ∙ ap (λ it. array_of (take k lengths ++ (it ∷ [])) element) at_before
    ∙ ap (λ them. array_of them element) (sym (take-suc lengths k d less))
  where
    before : suc k - 1 ≡ k
    before = omega arith

    at_before : n ≡ get_or lengths k d
    at_before = is ∙ ap (λ m. get_or lengths m d) before

-- ---- faces one after another

-- what is known behind some first faces
pub record Walked (faces : List Face) (k : ℕ) (walk : Walk) : Type 0 where
  pub walk_is : walk ≡ after_items before_items (all_items (take k faces))
  pub stand : items_stand before_items (all_items (take k faces)) ≡ true

stand_next : (faces : List Face) (k : ℕ) (face : Face) → k < length faces → face ≡ get_or faces k face →
    items_stand before_items (all_items (take (k + 1) faces))
    ≡ (items_stand before_items (all_items (take k faces)) && items_stand (after_items before_items (all_items (take k faces))) face.items)
stand_next faces k face within is =
    ap (items_stand before_items) (all_items-next faces k face within is) ∙ stand-append before_items (all_items (take k faces)) face.items

-- one face more
pub walked_next : (faces : List Face) (k : ℕ) (face : Face) (items : List FaceItem) (walk next : Walk) → k < length faces → face ≡ get_or faces k face →
    items ≡ face.items → Walked faces k walk → true ≡ items_stand walk items → next ≡ after_items walk items → Walked faces (k + 1) next
walked_next faces k face items walk next within is same walked stands goes = record {
  walk_is =
      goes ∙ (λ i. after_items (walked.walk_is i) (same i)) ∙ sym (after-append before_items (all_items (take k faces)) face.items)
      ∙ ap (after_items before_items) (sym (all_items-next faces k face within is));
  stand = stand_next faces k face within is
      ∙ and_from (items_stand before_items (all_items (take k faces))) _ walked.stand
      (sym (stands ∙ (λ i. items_stand (walked.walk_is i) (same i))));
}

-- a face that can't stand behind the first k
pub bad_next : (faces : List Face) (k : ℕ) (face : Face) (items : List FaceItem) (walk : Walk) → k < length faces → face ≡ get_or faces k face →
    items ≡ face.items → Walked faces k walk → false ≡ items_stand walk items → IsBadFace faces (k + 1)
bad_next faces k face items walk within is same walked fails = record {
  counted = omega arith;
  is_there = omega (arith, within);
  stand = subst (λ n. items_stand before_items (all_items (take n faces)) ≡ true) back walked.stand;
  fails = stand_next faces k face within is
      ∙ second_false (items_stand before_items (all_items (take k faces))) _ (sym (fails ∙ (λ i. items_stand (walked.walk_is i) (same i))));
}
  where
    back : k ≡ k + 1 - 1
    back = omega arith

-- ---- faces with the same items

pub good_alike : (uses others : List Face) (taken : Taken) (text : List ℕ) (face : Face) → items_of others ≡ items_of uses →
    IsGoodBehind uses taken text face → IsGoodBehind others taken text face
good_alike uses others taken text face same good = record {
  stand = subst (λ items. items_stand before_items (joined items) ≡ true) (sym same) good.stand;
  passes = subst (λ items. PassesIn (behind_items (joined items)) taken text) (sym same) good.passes;
  is_face = subst (λ items. IsFaceOf (behind_items (joined items)) text face) (sym same) good.is_face;
}
