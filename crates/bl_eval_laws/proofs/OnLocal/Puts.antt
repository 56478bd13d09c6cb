-- A value that is put where two lists of variables are alike leaves them alike.
use Rattle.std.proofs.Common.{◌≡◌, ℕ, zero, suc, List, [], ◌∷◌, ◌++◌, Option, Some, None, refl, sym, ap, ◌∙◌, subst}
use Rattle.std.specs.Prelude.{option_map, option_and_then, slice_get, slice_set, ⊤}
use Rattle.bl_tree.proofs.Basics.{same_some}
use Rattle.bl_tree.specs.declared.static_path.Static.{Static}
use Rattle.bl_tree.specs.declared.value.Value.{Value}
use Rattle.bl_tree.specs.declared.value.Value.TheVariants.{Parts, outs-Parts}
use Rattle.bl_eval.specs.Values.{parts_at, parts_in, put_at, value_at, with_value_at}
use Rattle.bl_eval_laws.specs.Local.{Alike, LeftAlike, at_path}

-- ---- at one value

-- both are none, or what lies at the positions is the same
abbrev AfterSame : List ℕ → Option Value → Option Value → Type 0
AfterSame qs None None = ⊤
AfterSame qs (Some a) (Some b) = value_at qs a ≡ value_at qs b
AfterSame qs None (Some b) = ⊥
AfterSame qs (Some a) None = ⊥

after_itself : (qs : List ℕ) (o : Option Value) → AfterSame qs o o
after_itself qs None = tt
after_itself qs (Some a) = refl

after_equal : (qs : List ℕ) (o o' : Option Value) → o ≡ o' → AfterSame qs o o'
after_equal qs o o' e = subst (AfterSame qs o) e (after_itself qs o)

pub parts_of : (all : List Value) → parts_in (Parts all) ≡ Some all
parts_of all = ap parts_at (outs-Parts all)

-- where nothing lies at the fields nothing is put below them
none_below : (fields rest : List ℕ) (new v : Value) → value_at fields v ≡ None → with_value_at (fields ++ rest) new v ≡ None
none_below [] rest new v e = absurd cc
none_below (k ∷ fields) rest new v e = by_parts (λ old h. none_below fields rest new old h) (parts_in v) e
  where
    by_part : (all : List Value) → ((old : Value) → value_at fields old ≡ None → with_value_at (fields ++ rest) new old ≡ None) →
        (old : Option Value) →
        option_and_then (value_at fields) old ≡ None →
        option_and_then (λ old. option_map (λ part. Parts (slice_set all k part)) (with_value_at (fields ++ rest) new old)) old ≡ None
    by_part all inner None e = refl
    by_part all inner (Some old) e = ap (option_map (λ part. Parts (slice_set all k part))) (inner old e)

    by_parts : ((old : Value) → value_at fields old ≡ None → with_value_at (fields ++ rest) new old ≡ None) → (all : Option (List Value)) →
        option_and_then (value_at fields) (option_and_then (λ all. slice_get all k) all) ≡ None →
        option_and_then (λ all. option_and_then (λ old. option_map (λ part. Parts (slice_set all k part)) (with_value_at (fields ++ rest) new old))
        (slice_get all k)) all ≡ None
    by_parts inner None e = refl
    by_parts inner (Some all) e = by_part all inner (slice_get all k) e

-- a value with what lies at a position and below it
pub record Opened (k : ℕ) (fields : List ℕ) (v mid : Value) : Type 0 where
  pub all : List Value
  pub old : Value
  pub is : parts_in v ≡ Some all
  pub at : slice_get all k ≡ Some old
  pub inner : value_at fields old ≡ Some mid

pub opened : (k : ℕ) (fields : List ℕ) (v mid : Value) → value_at (k ∷ fields) v ≡ Some mid → Opened k fields v mid
opened k fields v mid e = by_parts (parts_in v) refl e
  where
    by_part : (all : List Value) → parts_in v ≡ Some all → (old : Option Value) → slice_get all k ≡ old →
        option_and_then (value_at fields) old ≡ Some mid → Opened k fields v mid
    by_part all is None at e = absurd cc
    by_part all is (Some old) at e = record { all = all; old = old; is = is; at = at; inner = e }

    by_parts : (all : Option (List Value)) → parts_in v ≡ all →
        option_and_then (value_at fields) (option_and_then (λ all. slice_get all k) all) ≡ Some mid →
        Opened k fields v mid
    by_parts None is e = absurd cc
    by_parts (Some all) is e = by_part all is (slice_get all k) refl e

pub with_opened : (k : ℕ) (ks : List ℕ) (new v : Value) (all : List Value) (old : Value) → parts_in v ≡ Some all → slice_get all k ≡ Some old →
    with_value_at (k ∷ ks) new v ≡ option_map (λ part. Parts (slice_set all k part)) (with_value_at ks new old)
with_opened k ks new v all old is at =
    ap (λ all. option_and_then (λ all. option_and_then (λ old. option_map (λ part. Parts (slice_set all k part)) (with_value_at ks new old))
    (slice_get all k)) all) is
    ∙ ap (λ old. option_and_then (λ old. option_map (λ part. Parts (slice_set all k part)) (with_value_at ks new old)) old) at

pub value_in_parts : (j : ℕ) (qs : List ℕ) (v : Value) (all : List Value) → parts_in v ≡ Some all →
    value_at (j ∷ qs) v ≡ option_and_then (value_at qs) (slice_get all j)
value_in_parts j qs v all is = ap (λ all. option_and_then (value_at qs) (option_and_then (λ all. slice_get all j) all)) is

-- one element of each list is set
set_alike : (qs : List ℕ) (xs ys : List Value) (k j : ℕ) (a b x y : Value) → slice_get xs k ≡ Some x → slice_get ys k ≡ Some y →
    (j ≡ k → value_at qs a ≡ value_at qs b) →
    option_and_then (value_at qs) (slice_get xs j) ≡ option_and_then (value_at qs) (slice_get ys j) →
    option_and_then (value_at qs) (slice_get (slice_set xs k a) j) ≡ option_and_then (value_at qs) (slice_get (slice_set ys k b) j)
set_alike qs [] ys zero j a b x y at at' same h = absurd cc
set_alike qs [] ys (suc k) j a b x y at at' same h = absurd cc
set_alike qs (u ∷ xs) [] zero j a b x y at at' same h = absurd cc
set_alike qs (u ∷ xs) [] (suc k) j a b x y at at' same h = absurd cc
set_alike qs (u ∷ xs) (v ∷ ys) zero zero a b x y at at' same h = same refl
set_alike qs (u ∷ xs) (v ∷ ys) zero (suc j) a b x y at at' same h = h
set_alike qs (u ∷ xs) (v ∷ ys) (suc k) zero a b x y at at' same h = h
set_alike qs (u ∷ xs) (v ∷ ys) (suc k) (suc j) a b x y at at' same h = set_alike qs xs ys k j a b x y at at' (λ e. same (ap suc e)) h

-- what is put below the fields, seen at other positions
made_alike : (qs fields : List ℕ) (k j : ℕ) (xs ys : List Value) (x y : Value) (o o' : Option Value) → slice_get xs k ≡ Some x →
    slice_get ys k ≡ Some y →
    option_and_then (value_at qs) (slice_get xs j) ≡ option_and_then (value_at qs) (slice_get ys j) → AfterSame fields o o' →
    (j ≡ k → AfterSame qs o o') →
    AfterSame (j ∷ qs) (option_map (λ part. Parts (slice_set xs k part)) o) (option_map (λ part. Parts (slice_set ys k part)) o')
made_alike qs fields k j xs ys x y None None at at' h one other = tt
made_alike qs fields k j xs ys x y None (Some b) at at' h one other = elim one [ ]
made_alike qs fields k j xs ys x y (Some a) None at at' h one other = elim one [ ]
made_alike qs fields k j xs ys x y (Some a) (Some b) at at' h one other =
    value_in_parts j qs (Parts (slice_set xs k a)) (slice_set xs k a) (parts_of (slice_set xs k a))
    ∙ set_alike qs xs ys k j a b x y at at' other h
    ∙ sym (value_in_parts j qs (Parts (slice_set ys k b)) (slice_set ys k b) (parts_of (slice_set ys k b)))

put_same : (fields rest qs : List ℕ) (new v w : Value) → value_at fields v ≡ value_at fields w → value_at qs v ≡ value_at qs w →
    AfterSame qs (with_value_at (fields ++ rest) new v) (with_value_at (fields ++ rest) new w)
put_same [] rest qs new v w e h = after_equal qs (with_value_at rest new v) (with_value_at rest new w) (ap (with_value_at rest new) (same_some v w e))
put_same (k ∷ fields) rest [] new v w e h =
    after_equal [] (with_value_at (k ∷ (fields ++ rest)) new v) (with_value_at (k ∷ (fields ++ rest)) new w)
    (ap (with_value_at (k ∷ (fields ++ rest)) new) (same_some v w h))
put_same (k ∷ fields) rest (j ∷ qs) new v w e h =
    by_mid (λ qs old old' same there. put_same fields rest qs new old old' same there) (value_at (k ∷ fields) v) refl
  where
    at_both : ((qs : List ℕ) (old old' : Value) → value_at fields old ≡ value_at fields old' → value_at qs old ≡ value_at qs old' →
        AfterSame qs (with_value_at (fields ++ rest) new old) (with_value_at (fields ++ rest) new old')) → (mid : Value) → Opened k fields v mid →
        Opened k fields w mid → AfterSame (j ∷ qs) (with_value_at (k ∷ (fields ++ rest)) new v) (with_value_at (k ∷ (fields ++ rest)) new w)
    at_both inner mid a b =
        let below = a.inner ∙ sym b.inner in
        let h' = sym (value_in_parts j qs v a.all a.is) ∙ h ∙ value_in_parts j qs w b.all b.is in
        subst (λ o. AfterSame (j ∷ qs) o (with_value_at (k ∷ (fields ++ rest)) new w)) (sym (with_opened k (fields ++ rest) new v a.all a.old a.is a.at))
        (subst (λ o. AfterSame (j ∷ qs) (option_map (λ part. Parts (slice_set a.all k part)) (with_value_at (fields ++ rest) new a.old)) o)
        (sym (with_opened k (fields ++ rest) new w b.all b.old b.is b.at))
        (made_alike qs fields k j a.all b.all a.old b.old (with_value_at (fields ++ rest) new a.old) (with_value_at (fields ++ rest) new b.old) a.at b.at h'
        (inner fields a.old b.old below below)
        (λ same. inner qs a.old b.old below
        (sym (ap (option_and_then (value_at qs)) a.at) ∙ ap (λ i. option_and_then (value_at qs) (slice_get a.all i)) (sym same) ∙ h'
        ∙ ap (λ i. option_and_then (value_at qs) (slice_get b.all i)) same ∙ ap (option_and_then (value_at qs)) b.at))))

    by_mid : ((qs : List ℕ) (old old' : Value) → value_at fields old ≡ value_at fields old' → value_at qs old ≡ value_at qs old' →
        AfterSame qs (with_value_at (fields ++ rest) new old) (with_value_at (fields ++ rest) new old')) → (mid : Option Value) →
        value_at (k ∷ fields) v ≡ mid → AfterSame (j ∷ qs) (with_value_at (k ∷ (fields ++ rest)) new v) (with_value_at (k ∷ (fields ++ rest)) new w)
    by_mid inner None is =
        after_equal (j ∷ qs) (with_value_at (k ∷ (fields ++ rest)) new v) (with_value_at (k ∷ (fields ++ rest)) new w)
        (none_below (k ∷ fields) rest new v is ∙ sym (none_below (k ∷ fields) rest new w (sym e ∙ is)))
    by_mid inner (Some mid) is = at_both inner mid (opened k fields v mid is) (opened k fields w mid (sym e ∙ is))

-- ---- at the variables

-- the variables as one value
at_path_is : (now : List Value) (path : Static) → value_at (path.root ∷ path.fields) (Parts now) ≡ at_path now path
at_path_is now path = value_in_parts path.root path.fields (Parts now) now (parts_of now)

pub put_is : (root : ℕ) (ks : List ℕ) (new : Value) (now : List Value) →
    with_value_at (root ∷ ks) new (Parts now) ≡ option_map Parts (put_at root ks new now)
put_is root ks new now =
    ap (λ all. option_and_then (λ all. option_and_then (λ old. option_map (λ part. Parts (slice_set all root part)) (with_value_at ks new old))
    (slice_get all root)) all) (parts_of now)
    ∙ by_old (slice_get now root)
  where
    by_made : (made : Option Value) →
        option_map (λ part. Parts (slice_set now root part)) made ≡ option_map Parts (option_map (λ part. slice_set now root part) made)
    by_made None = refl
    by_made (Some part) = refl

    by_old : (old : Option Value) → option_and_then (λ old. option_map (λ part. Parts (slice_set now root part)) (with_value_at ks new old)) old
        ≡ option_map Parts (option_and_then (λ old. option_map (λ value. slice_set now root value) (with_value_at ks new old)) old)
    by_old None = refl
    by_old (Some old) = by_made (with_value_at ks new old)

-- both are none, or both have the same at the path
abbrev LeftSame : Static → Option (List Value) → Option (List Value) → Type 0
LeftSame path None None = ⊤
LeftSame path (Some xs) (Some ys) = at_path xs path ≡ at_path ys path
LeftSame path None (Some ys) = ⊥
LeftSame path (Some xs) None = ⊥

left_same : (path : Static) (o o' : Option (List Value)) → AfterSame (path.root ∷ path.fields) (option_map Parts o) (option_map Parts o') →
    LeftSame path o o'
left_same path None None a = tt
left_same path None (Some ys) a = elim a [ ]
left_same path (Some xs) None a = elim a [ ]
left_same path (Some xs) (Some ys) a = sym (at_path_is xs path) ∙ a ∙ at_path_is ys path

-- a value is put below a path at which the variables are alike
put_alike_at : (path other : Static) (rest : List ℕ) (new : Value) (xs ys : List Value) → at_path xs path ≡ at_path ys path →
    at_path xs other ≡ at_path ys other → LeftSame other (put_at path.root (path.fields ++ rest) new xs) (put_at path.root (path.fields ++ rest) new ys)
put_alike_at path other rest new xs ys e h =
    left_same other (put_at path.root (path.fields ++ rest) new xs) (put_at path.root (path.fields ++ rest) new ys)
    (subst (λ o. AfterSame (other.root ∷ other.fields) o (option_map Parts (put_at path.root (path.fields ++ rest) new ys)))
    (put_is path.root (path.fields ++ rest) new xs)
    (subst (λ o. AfterSame (other.root ∷ other.fields) (with_value_at (path.root ∷ (path.fields ++ rest)) new (Parts xs)) o)
    (put_is path.root (path.fields ++ rest) new ys)
    (put_same (path.root ∷ path.fields) rest (other.root ∷ other.fields) new (Parts xs) (Parts ys)
    (at_path_is xs path ∙ e ∙ sym (at_path_is ys path)) (at_path_is xs other ∙ h ∙ sym (at_path_is ys other)))))

all_alike : (paths : List Static) (xs ys xs' ys' : List Value) →
    ((path : Static) → at_path xs path ≡ at_path ys path → at_path xs' path ≡ at_path ys' path) →
    Alike paths xs ys → Alike paths xs' ys'
all_alike [] xs ys xs' ys' keeps same = tt
all_alike (path ∷ rest) xs ys xs' ys' keeps same = (keeps path same.0, all_alike rest xs ys xs' ys' keeps same.1)

gathered : (paths : List Static) (path : Static) (xs ys : List Value) (o o' : Option (List Value)) → at_path xs path ≡ at_path ys path →
    ((other : Static) → at_path xs other ≡ at_path ys other → LeftSame other o o') → Alike paths xs ys → LeftAlike paths o o'
gathered paths path xs ys None None e each same = tt
gathered paths path xs ys None (Some ys') e each same = elim (each path e) [ ]
gathered paths path xs ys (Some xs') None e each same = elim (each path e) [ ]
gathered paths path xs ys (Some xs') (Some ys') e each same = all_alike paths xs ys xs' ys' each same

-- what is put below one of the paths leaves the variables alike at all of them, or is put in neither
pub put_alike : (paths : List Static) (path : Static) (rest : List ℕ) (new : Value) (xs ys : List Value) → at_path xs path ≡ at_path ys path →
    Alike paths xs ys → LeftAlike paths (put_at path.root (path.fields ++ rest) new xs) (put_at path.root (path.fields ++ rest) new ys)
put_alike paths path rest new xs ys e same =
    gathered paths path xs ys (put_at path.root (path.fields ++ rest) new xs) (put_at path.root (path.fields ++ rest) new ys) e
    (λ other h. put_alike_at path other rest new xs ys e h) same
