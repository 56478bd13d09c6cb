-- Parts of values: what is read there, and what a value is after one was set.
use Rattle.std.proofs.Common.{◌≡◌, ℕ, Bool, true, false, ◌&&◌, List, [], ◌∷◌, ◌++◌, map, Option, Some, None, refl, ap, sym, subst, ◌∙◌, arith}
use Rattle.std.specs.Prelude.{flat_map, bytes_eq, nat_lt, unwrap_or, option_and_then, if◌then◌else◌}
use Rattle.std.specs.List.{list_all}
use Rattle.std.proofs.lemmas.Grind.{common_steps}
use Rattle.std.proofs.lemmas.Slice.Eq.{bytes_eq-Decides}
use Rattle.bl_tree.specs.declared.text.Text.{Text}
use Rattle.bl_tree.specs.declared.c.CType.{CType}
use Rattle.bl_tree.specs.declared.c.CType.TheVariants.{Scalar as OfScalar, Struct as OfStruct}
use Rattle.bl_tree.specs.declared.c.CMember.{CMember}
use Rattle.bl_ctext_semantics.specs.Cells.{Inner, seen_from_outside, below, inner_of_length, inner_of_member, inner_of_type}
use Rattle.bl_ctext_semantics.specs.Memory.{Projection, member, element, CValue, same_part, left_after, number_or, with_part}
use Rattle.bl_ctext_semantics.specs.Tables.{Table, found, no_entries}
use Rattle.bl_ctext_semantics_laws.specs.Fitting.{ValueSpot, whole, row, fits, holds, spot_if, spot_of, spot_of_length, step_in, walk}
use Rattle.bl_ctext_semantics_laws.proofs.Lists.{all-below-at, all-below-but, all-flat, all-found, all-found-but, all-map, all-same}
use Rattle.bl_ctext_semantics_laws.proofs.Members.{AllLaidOut, LaidOut, Scalars, Structs}

-- the scalars of what a way has led to
abbrev pub inner_at : Scalars → ValueSpot → List Inner
inner_at known (whole ty) = inner_of_type known ty
inner_at known (row n ty) = flat_map (λ k. map (seen_from_outside (element k ∷ [])) (inner_of_type known ty)) (below n)

-- whether a value is one of what a way has led to
abbrev pub spot_fits : Scalars → ValueSpot → CValue → Bool
spot_fits known spot value = list_all (holds value) (inner_at known spot)

-- the value of a part
abbrev pub sub : CValue → Projection → CValue
sub value part way = value (part ∷ way)

-- ---- a value by its parts

row-fits : (known : Scalars) (n : ℕ) (ty : CType) (v : CValue) →
    spot_fits known (row n ty) v ≡ list_all (λ k. fits known ty (sub v (element k))) (below n)
row-fits known n ty v =
    all-flat (holds v) (λ k. map (seen_from_outside (element k ∷ [])) (inner_of_type known ty)) (below n)
    ∙ all-same (λ k. list_all (holds v) (map (seen_from_outside (element k ∷ [])) (inner_of_type known ty))) (λ k. fits known ty (sub v (element k)))
    (λ k. all-map (holds v) (seen_from_outside (element k ∷ [])) (inner_of_type known ty)) (below n)

length-fits : (known : Scalars) (name : Text) (ty : CType) (length : Option ℕ) (v : CValue) →
    list_all (holds v) (inner_of_length name length (inner_of_type known ty)) ≡ spot_fits known (spot_of_length ty length) (sub v (member name))
length-fits known name ty None v = all-map (holds v) (seen_from_outside (member name ∷ [])) (inner_of_type known ty)
length-fits known name ty (Some n) v =
    all-flat (holds v) (λ k. map (seen_from_outside (member name ∷ element k ∷ [])) (inner_of_type known ty)) (below n)
    ∙ all-same (λ k. list_all (holds v) (map (seen_from_outside (member name ∷ element k ∷ [])) (inner_of_type known ty)))
    (λ k. fits known ty (sub (sub v (member name)) (element k)))
    (λ k. all-map (holds v) (seen_from_outside (member name ∷ element k ∷ [])) (inner_of_type known ty)) (below n)
    ∙ sym (row-fits known n ty (sub v (member name)))

-- whether a member of a value is one of the member's type
abbrev member_fits : Scalars → CValue → CMember → Bool
member_fits known v m = spot_fits known (spot_of m) (sub v (member m.name))

struct-fits : (known : Scalars) (structs : Structs) (name : Text) (members : Table CMember) (laid : LaidOut known structs name members) (v : CValue) →
    spot_fits known (whole (OfStruct name)) v ≡ list_all (member_fits known v) laid.list
struct-fits known structs name members laid v =
    ap (λ o. list_all (holds v) (unwrap_or o [])) laid.cells
    ∙ all-flat (holds v) (inner_of_member known) laid.list
    ∙ all-same (λ m. list_all (holds v) (inner_of_member known m)) (member_fits known v) (λ m. length-fits known m.name m.ty m.length v) laid.list

-- ---- names

some_member : (a b : CMember) → Some a ≡ Some b → a ≡ b
some_member a b h = cc

so-or-later : (name : Text) (m x : CMember) (rest : Option CMember) (b : Bool) → bytes_eq x.name name ≡ b → (if b then Some x else rest) ≡ Some m →
    (rest ≡ Some m → m.name ≡ name) → m.name ≡ name
so-or-later name m x rest true same is later = ap (λ y. y.name) (sym (some_member x m is)) ∙ (bytes_eq-Decides x.name name).0 same
so-or-later name m x rest false same is later = later is

named-so : (name : Text) (m : CMember) (list : List CMember) → found name (map (λ x. (x.name, x)) list) ≡ Some m → m.name ≡ name
named-so name m [] h = cc
named-so name m (x ∷ list) h =
    so-or-later name m x (found name (map (λ y. (y.name, y)) list)) (bytes_eq x.name name) refl h (λ later. named-so name m list later)

unequal-other : (a b : Text) → bytes_eq a b ≡ false → bytes_eq b a ≡ false
unequal-other a b h = chosen (bytes_eq b a) refl
  where
    chosen : (c : Bool) → bytes_eq b a ≡ c → c ≡ false
    chosen false is = refl
    chosen true is = sym ((bytes_eq-Decides a b).1 (sym ((bytes_eq-Decides b a).0 is))) ∙ h

part-itself : (p : Projection) → same_part p p ≡ true
part-itself (member name) = (bytes_eq-Decides name name).1 refl
part-itself (element k) = grind (arith, common_steps)

-- ---- one step

pub some_spot : (a b : ValueSpot) → Some a ≡ Some b → a ≡ b
some_spot a b h = cc

module _ (known : Scalars) (structs : Structs) (laid : AllLaidOut known structs) where
  -- what is known of the member that a step leads to
  record Stepped (struct name : Text) (next : ValueSpot) : Type 0 where
    members : Table CMember
    is : structs struct ≡ Some members
    it : CMember
    there : found name (map (λ x. (x.name, x)) (laid struct members is).list) ≡ Some it
    named : it.name ≡ name
    spot : spot_of it ≡ next

  stepped : (struct name : Text) (next : ValueSpot) → step_in structs (whole (OfStruct struct)) (member name) ≡ Some next → Stepped struct name next
  stepped struct name next h = chosen (structs struct) refl h
    where
      with_member : (members : Table CMember) (is : structs struct ≡ Some members) (o : Option CMember) → members name ≡ o → spot_if o ≡ Some next →
          Stepped struct name next
      with_member members is None at k = cc
      with_member members is (Some m) at k =
          let there : found name (map (λ x. (x.name, x)) (laid struct members is).list) ≡ Some m =
          ap (λ t. t name) (sym (laid struct members is).table) ∙ at in
          record {
            members = members;
            is = is;
            it = m;
            there = there;
            named = named-so name m (laid struct members is).list there;
            spot = some_spot (spot_of m)
                next k;
          }

      chosen : (o : Option (Table CMember)) → structs struct ≡ o →
          spot_if (option_and_then (λ members. members name) o) ≡ Some next → Stepped struct name next
      chosen None is k = cc
      chosen (Some members) is k = with_member members is (members name) refl k

  read-member : (struct name : Text) (next : ValueSpot) (v : CValue) → step_in structs (whole (OfStruct struct)) (member name) ≡ Some next →
      spot_fits known (whole (OfStruct struct)) v ≡ true →
      spot_fits known next (sub v (member name)) ≡ true
  read-member struct name next v h fit =
      let s = stepped struct name next h in
      let all = sym (struct-fits known structs struct s.members (laid struct s.members s.is) v) ∙ fit in
      let here : spot_fits known (spot_of s.it) (sub v (member s.it.name)) ≡ true =
      all-found (λ m. m.name) (member_fits known v) name s.it (laid struct s.members s.is).list s.there all in
      subst (λ n. spot_fits known next (sub v (member n)) ≡ true) s.named (subst (λ t. spot_fits known t (sub v (member s.it.name)) ≡ true) s.spot here)

  set-member : (struct name : Text) (next : ValueSpot) (v w new : CValue) → step_in structs (whole (OfStruct struct)) (member name) ≡ Some next →
      spot_fits known (whole (OfStruct struct)) v ≡ true →
      spot_fits known next w ≡ true → sub new (member name) ≡ w → ((q : Projection) → same_part (member name) q ≡ false → sub new q ≡ sub v q) →
      spot_fits known (whole (OfStruct struct)) new ≡ true
  set-member struct name next v w new h fit part at others =
      let s = stepped struct name next h in
      let l = laid struct s.members s.is in
      let all = sym (struct-fits known structs struct s.members l v) ∙ fit in
      let here : member_fits known new s.it ≡ true =
      ap (λ t. spot_fits known t (sub new (member s.it.name))) s.spot ∙ ap (λ n. spot_fits known next (sub new (member n))) s.named
      ∙ ap (spot_fits known next) at ∙ part in
      struct-fits known structs struct s.members l new
      ∙ all-found-but (λ m. m.name) (member_fits known v) (member_fits known new) name s.it here
      (λ m differs was. ap (spot_fits known (spot_of m)) (others (member m.name) (unequal-other m.name name differs)) ∙ was)
      no_entries l.list l.apart s.there
      all

  read-element : (n k : ℕ) (ty : CType) (next : ValueSpot) (v : CValue) (b : Bool) → nat_lt k n ≡ b →
      (if b then Some (whole ty) else None) ≡ Some next →
      spot_fits known (row n ty) v ≡ true →
      spot_fits known next (sub v (element k)) ≡ true
  read-element n k ty next v true within h fit =
      subst (λ t. spot_fits known t (sub v (element k)) ≡ true) (some_spot (whole ty) next h)
      (all-below-at (λ j. fits known ty (sub v (element j))) n k within (sym (row-fits known n ty v) ∙ fit))
  read-element n k ty next v false within h fit = cc

  set-element : (n k : ℕ) (ty : CType) (next : ValueSpot) (v w new : CValue) (b : Bool) → nat_lt k n ≡ b →
      (if b then Some (whole ty) else None) ≡ Some next →
      spot_fits known (row n ty) v ≡ true →
      spot_fits known next w ≡ true → sub new (element k) ≡ w → ((q : Projection) → same_part (element k) q ≡ false → sub new q ≡ sub v q) →
      spot_fits known (row n ty) new ≡ true
  set-element n k ty next v w new true within h fit part at others =
      let here : fits known ty (sub new (element k)) ≡ true =
      ap (λ t. spot_fits known t (sub new (element k))) (some_spot (whole ty) next h) ∙ ap (spot_fits known next) at ∙ part in
      row-fits known n ty new
      ∙ all-below-but (λ j. fits known ty (sub v (element j))) (λ j. fits known ty (sub new (element j))) k here
      (λ j differs was. ap (fits known ty) (others (element j) differs) ∙ was) n (sym (row-fits known n ty v) ∙ fit)
  set-element n k ty next v w new false within h fit part at others = cc

  read-step : (spot next : ValueSpot) (p : Projection) (v : CValue) → step_in structs spot p ≡ Some next → spot_fits known spot v ≡ true →
      spot_fits known next (sub v p) ≡ true
  read-step (whole (OfScalar kind)) next (member name) v h fit = cc
  read-step (whole (OfScalar kind)) next (element k) v h fit = cc
  read-step (whole (OfStruct struct)) next (element k) v h fit = cc
  read-step (whole (OfStruct struct)) next (member name) v h fit = read-member struct name next v h fit
  read-step (row n ty) next (member name) v h fit = cc
  read-step (row n ty) next (element k) v h fit = read-element n k ty next v (nat_lt k n) refl h fit

  set-step : (spot next : ValueSpot) (p : Projection) (v w new : CValue) → step_in structs spot p ≡ Some next → spot_fits known spot v ≡ true →
      spot_fits known next w ≡ true →
      sub new p ≡ w → ((q : Projection) → same_part p q ≡ false → sub new q ≡ sub v q) → spot_fits known spot new ≡ true
  set-step (whole (OfScalar kind)) next (member name) v w new h fit part at others = cc
  set-step (whole (OfScalar kind)) next (element k) v w new h fit part at others = cc
  set-step (whole (OfStruct struct)) next (element k) v w new h fit part at others = cc
  set-step (whole (OfStruct struct)) next (member name) v w new h fit part at others = set-member struct name next v w new h fit part at others
  set-step (row n ty) next (member name) v w new h fit part at others = cc
  set-step (row n ty) next (element k) v w new h fit part at others = set-element n k ty next v w new (nat_lt k n) refl h fit part at others

  -- ---- many steps

  pub walk-nowhere : (parts : List Projection) → walk structs None parts ≡ None
  walk-nowhere [] = refl
  walk-nowhere (p ∷ parts) = refl

  nowhere : (parts : List Projection) (goal : ValueSpot) → walk structs None parts ≡ Some goal → ⊥
  nowhere parts goal h = let x : None ≡ Some goal = sym (walk-nowhere parts) ∙ h in cc

  -- a way that leads somewhere has a next step
  walk-on : (o : Option ValueSpot) (parts : List Projection) (goal : ValueSpot) (test : Bool) → walk structs o parts ≡ Some goal →
      ((next : ValueSpot) → o ≡ Some next → walk structs (Some next) parts ≡ Some goal → test ≡ true) → test ≡ true
  walk-on None parts goal test h use_next = absurd (nowhere parts goal h)
  walk-on (Some next) parts goal test h use_next = use_next next refl h

  -- what is read at the end of a way fits what the way leads to
  pub read-walk : (parts : List Projection) (spot goal : ValueSpot) (v : CValue) → walk structs (Some spot) parts ≡ Some goal →
      spot_fits known spot v ≡ true →
      spot_fits known goal (λ way. v (parts ++ way)) ≡ true
  read-walk [] spot goal v h fit = subst (λ t. spot_fits known t v ≡ true) (some_spot spot goal h) fit
  read-walk (p ∷ parts) spot goal v h fit =
      walk-on (step_in structs spot p) parts goal (spot_fits known goal (λ way. v (p ∷ (parts ++ way)))) h
      (λ next is k. read-walk parts next goal (sub v p) k (read-step spot next p v is fit))

  set-at-part : (v : CValue) (p : Projection) (parts : List Projection) (part : CValue) → sub (with_part v (p ∷ parts) part) p ≡ with_part (sub v p) parts part
  set-at-part v p parts part = λ i way. ap (λ b. number_or (if b then left_after parts way else None) part (v (p ∷ way))) (part-itself p) i

  set-at-other : (v : CValue) (p : Projection) (parts : List Projection) (part : CValue) (q : Projection) → same_part p q ≡ false →
      sub (with_part v (p ∷ parts) part) q ≡ sub v q
  set-at-other v p parts part q h = λ i way. ap (λ b. number_or (if b then left_after parts way else None) part (v (q ∷ way))) h i

  -- a value still fits after the end of a way was set to what fits there
  pub set-walk : (parts : List Projection) (spot goal : ValueSpot) (v part : CValue) → walk structs (Some spot) parts ≡ Some goal →
      spot_fits known spot v ≡ true →
      spot_fits known goal part ≡ true →
      spot_fits known spot (with_part v parts part) ≡ true
  set-walk [] spot goal v part h fit new = subst (λ t. spot_fits known t part ≡ true) (sym (some_spot spot goal h)) new
  set-walk (p ∷ parts) spot goal v part h fit new =
      walk-on (step_in structs spot p) parts goal (spot_fits known spot (with_part v (p ∷ parts) part)) h
      (λ next is k.
      set-step spot next p v (with_part (sub v p) parts part) (with_part v (p ∷ parts) part) is fit
      (set-walk parts next goal (sub v p) part k (read-step spot next p v is fit) new) (set-at-part v p parts part) (set-at-other v p parts part))
