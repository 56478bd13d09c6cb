-- A tree may hold itself through `List`: where a list keeps its elements.
use mathlib.Core.Path.{◌≡◌, refl, sym}
use mathlib.Core.List.{List as Elements, []}
use mathlib.Core.Former.{Former, this, list, via, children}
use base.Stored.{code_map}
use denote.RattleType.{RattleType}
use denote.HoleLaws.{Alike}
use denote.HolePlaces.{Recodes, struct_places, laid}
use denote.Hole.Carrier.{listed, list-listed}
use denote.Hole.Fix.{over}
use denote.Param.Weighed.{Weighed, w_list}
use denote.Model.Placed.{view_places}
use Rattle.std.specs.formers.vec.Vec as vec
use Rattle.std.specs.declared.alloc.Global.{Global}
use Rattle.std.specs.contracts.alloc.Global as heap
use Rattle.std.specs.contracts.impls.GlobalAllocator.TheImpl.{ghosts}
use Rattle.bl_tree.specs.declared.list.List.TheInside.{Inside}
use Rattle.bl_tree.specs.declared.list.List.TheView.{view, invariant}
use Rattle.bl_tree.specs.contracts.list.List as whole
use Rattle.bl_tree.specs.contracts.list.List.TheInside as inside

-- the shape of a list is that of its elements' list
abbrev pub the_former : Former {0} → Former {0}
the_former element = list element

-- the shape of a list is weighed where that of its elements is
abbrev pub the_weighed : {element : Former {0}} → Weighed element → Weighed (the_former element)
the_weighed weighed = w_list weighed

-- a list may hold nothing
pub the_empty : Elements ⊥
the_empty = []

-- the items of a list are its elements
abbrev pub the_items : (X : Type 0) → Elements X → Elements X
the_items X elements = elements

-- the children of a list are its items, in order
pub the_items_listed : (X : Type 0) (elements : Elements X) → listed _ (children (the_former this) X elements) ≡ the_items X elements
the_items_listed X elements = list-listed X elements

-- the one field, seen as the vector that it is
abbrev field : Former {0}
field = via (vec.the_former this Global) Inside (λ X fields. fields.elements) (λ X vector. record { elements = vector }) (λ X fields. refl)
    (λ X fields. refl)

module _ (R S : RattleType) (h : R.Denot → S.Denot) where
  pub the_places : Alike R S h → Alike (whole.the_row R) (whole.the_row S) ((the_former this).map R.Denot S.Denot h)
  the_places alike =
      let vector = laid _ _ _ (vec.the_places heap.the_row ghosts R S h alike) in
      let fields = struct_places (inside.the_type R) (inside.the_type S) (vec.mapped h, tt) _ (λ d. refl) refl (vector, tt) in
      view_places field (list this) view (λ X Y k u. refl) (λ X u. refl) R.Denot S.Denot h
      (whole.the_row R).coded (whole.the_row S).coded
      (invariant R.Denot) (invariant S.Denot) (λ u p q. refl) (λ u p q. refl) (λ u e. tt) (λ u e. tt)
      (over (inside.the_row R)) (over (inside.the_row S)) fields

  pub the_codes_placed : Recodes R S h → Recodes (whole.the_row R) (whole.the_row S) ((the_former this).map R.Denot S.Denot h)
  the_codes_placed same d = sym (code_map R.coded.code S.coded.code h (λ x. sym (same x)) d)
