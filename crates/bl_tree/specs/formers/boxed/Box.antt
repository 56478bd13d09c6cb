-- A tree may hold itself through `Box`: where a box keeps its value.
use mathlib.Core.Path.{refl}
use mathlib.Core.Former.{Former, this, const, pair, via}
use base.Stored.{gnil}
use base.Fml.{ftrue}
use denote.RattleType.{RattleType}
use denote.Memory.{part_of}
use denote.RawPtr.{Ptr}
use denote.Sharing.{nothing}
use denote.HoleLaws.{Alike}
use denote.HolePlaces.{Recodes, struct_places, laid, one_value}
use denote.Hole.Fix.{over}
use denote.Param.Weighed.{Weighed}
use denote.Model.Placed.{view_places}
use Rattle.std.specs.declared.boxed.Box.{Box as StdBox}
use Rattle.std.specs.contracts.boxed.Box as std_box
use Rattle.std.specs.declared.alloc.Global.{Global}
use Rattle.std.specs.contracts.alloc.Global as heap
use Rattle.std.specs.contracts.impls.GlobalAllocator.TheImpl.{ghosts}
use Rattle.bl_tree.specs.declared.boxed.Box.TheInside.{Inside}
use Rattle.bl_tree.specs.declared.boxed.Box.TheView.{view, invariant}
use Rattle.bl_tree.specs.contracts.boxed.Box as whole
use Rattle.bl_tree.specs.contracts.boxed.Box.TheInside as inside

-- the shape of a box is that of its value
abbrev pub the_former : Former {0} → Former {0}
the_former value = value

-- the shape of a box is weighed where that of its value is
abbrev pub the_weighed : {value : Former {0}} → Weighed value → Weighed (the_former value)
the_weighed weighed = weighed

-- the one field: a pointer and an allocator beside the value
abbrev field : Former {0}
field = via (pair (const (Ptr × Global)) this) Inside (λ X fields. ((fields.inner.ptr, fields.inner.alloc), fields.inner.value))
    (λ X parts. record { inner = record { ptr = parts.0.0; alloc = parts.0.1; value = parts.1 } }) (λ X fields. refl) (λ X fields. refl)

-- a box with the pointer and the allocator of another one and a new value
abbrev holding : {X Y : Type 0} → StdBox X Global → Y → StdBox Y Global
holding owner y = record { ptr = owner.ptr; alloc = owner.alloc; value = y }

-- a standard box of the type, from the global allocator
abbrev box_of : RattleType → RattleType
box_of R = std_box.the_row R heap.the_row ghosts

module _ (R S : RattleType) (h : R.Denot → S.Denot) where
  inner_places : Alike R S h → Alike (box_of R) (box_of S) (λ owner. holding owner (h owner.value))
  unfolding part_of
  inner_places alike = record {
    mir_same = λ i. (box_of (one_value R (alike.mir_same i) (λ _. ftrue) (λ _ _. nothing) gnil)).mir;
    own_same = λ b i. (box_of (one_value R (alike.mir_same i) (alike.own_same b.value i) (alike.shr_same b.value i) gnil)).own_val (holding b tt);
    shr_same = λ b i. (box_of (one_value R (alike.mir_same i) (alike.own_same b.value i) (alike.shr_same b.value i) gnil)).shr_at (holding b tt);
  }

  pub the_places : Alike R S h → Alike (whole.the_row R) (whole.the_row S) ((the_former this).map R.Denot S.Denot h)
  the_places alike =
      let inner = laid _ _ _ (inner_places alike) in
      let fields = struct_places (inside.the_type R) (inside.the_type S) ((λ owner. holding owner (h owner.value)), tt) _ (λ d. refl) refl (inner, tt) in
      view_places field this view (λ X Y k u. refl) (λ X u. refl) R.Denot S.Denot h
      (whole.the_row R).coded (whole.the_row S).coded
      (invariant R.Denot) (invariant S.Denot) (λ u p q. refl) (λ u p q. refl) (λ u e. tt) (λ u e. tt)
      (over (inside.the_row R)) (over (inside.the_row S)) fields

  pub the_codes_placed : Recodes R S h → Recodes (whole.the_row R) (whole.the_row S) ((the_former this).map R.Denot S.Denot h)
  the_codes_placed same d = same d
