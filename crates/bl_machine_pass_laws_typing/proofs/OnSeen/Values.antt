-- Parts of values: what is put at positions is there, and what is apart from them stays.
use Rattle.std.proofs.Common.{◌≡◌, ◌⊎◌, inl, inr, ℕ, zero, suc, Bool, true, false, List, [], ◌∷◌, ◌++◌, Option, Some, None}
use Rattle.std.proofs.Common.{refl, sym, ap, ◌∙◌, subst, arith, eqb-true, eq-eqb}
use Rattle.std.specs.Prelude.{nat_eq, option_and_then, option_map, slice_get, slice_set, ⊤}
use Rattle.bl_tree.proofs.Basics.{not_both, same_some, same_suc}
use Rattle.bl_tree.specs.declared.static_path.Static.{Static}
use Rattle.bl_tree.specs.declared.value.Value.{Value}
use Rattle.bl_tree.specs.declared.value.Value.TheVariants.{Parts}
use Rattle.bl_eval.specs.Values.{parts_in, put_at, value_at, with_value_at}
use Rattle.bl_eval_laws.specs.Local.{at_path}
use Rattle.bl_eval_laws.proofs.OnLocal.Locality.{value_within}
use Rattle.bl_eval_laws.proofs.OnLocal.Puts.{parts_of}
use Rattle.bl_ctree_laws_confluence.proofs.OnApart.Running.{not_first}
use Rattle.bl_ctree_laws_confluence.proofs.OnStores.Changes.{whole_again}
use Rattle.bl_eval_laws.proofs.OnLocal.Puts.{value_in_parts, with_opened, opened}

-- ---- lists

no_some : {A : Type 0} {C : Type 0} (x : A) → None ≡ Some x → C
no_some x e = absurd cc

never_zero : (j : ℕ) → suc j ≡ zero → ⊥
never_zero j e = absurd (omega (arith, e))

pub set_got : {A : Type 0} (xs : List A) (k : ℕ) (old new : A) → slice_get xs k ≡ Some old → slice_get (slice_set xs k new) k ≡ Some new
set_got [] zero old new e = absurd cc
set_got [] (suc k) old new e = absurd cc
set_got (x ∷ xs) zero old new e = refl
set_got (x ∷ xs) (suc k) old new e = set_got xs k old new e

-- what a test of elements shows where one is set
set_seen : {A B : Type 0} (q : A → Option B) (xs : List A) (k j : ℕ) (old new : A) → slice_get xs k ≡ Some old → (j ≡ k → q new ≡ q old) →
    option_and_then q (slice_get (slice_set xs k new) j) ≡ option_and_then q (slice_get xs j)
set_seen q [] zero j old new e same = absurd cc
set_seen q [] (suc k) j old new e same = absurd cc
set_seen q (x ∷ xs) zero zero old new e same = same refl ∙ ap q (same_some old x (sym e))
set_seen q (x ∷ xs) zero (suc j) old new e same = refl
set_seen q (x ∷ xs) (suc k) zero old new e same = refl
set_seen q (x ∷ xs) (suc k) (suc j) old new e same = set_seen q xs k j old new e (λ is. same (ap suc is))

same_lists : (xs ys : List Value) → ((j : ℕ) → slice_get xs j ≡ slice_get ys j) → xs ≡ ys
same_lists [] [] each = refl
same_lists [] (y ∷ ys) each = no_some y (each zero)
same_lists (x ∷ xs) [] each = no_some x (sym (each zero))
same_lists (x ∷ xs) (y ∷ ys) each =
    ap (λ z. z ∷ xs) (same_some x y (each zero)) ∙ ap (λ zs. y ∷ zs) (same_lists xs ys (λ j. each (suc j)))

-- lists that are alike but for one element are the same once that is set
set_same : (xs ys : List Value) (k : ℕ) (old y : Value) → slice_get xs k ≡ Some old → slice_get ys k ≡ Some y →
    ((j : ℕ) → (j ≡ k → ⊥) → slice_get xs j ≡ slice_get ys j) → slice_set xs k y ≡ ys
set_same [] ys zero old y e f each = absurd cc
set_same [] ys (suc k) old y e f each = absurd cc
set_same (x ∷ xs) [] zero old y e f each = absurd cc
set_same (x ∷ xs) [] (suc k) old y e f each = absurd cc
set_same (x ∷ xs) (z ∷ ys) zero old y e f each =
    ap (λ w. w ∷ xs) (same_some y z (sym f)) ∙ ap (λ zs. z ∷ zs) (same_lists xs ys (λ j. each (suc j) (never_zero j)))
set_same (x ∷ xs) (z ∷ ys) (suc k) old y e f each =
    ap (λ w. w ∷ slice_set xs k y) (same_some x z (each zero (not_first k)))
    ∙ ap (λ zs. z ∷ zs) (set_same xs ys k old y e f (λ j never. each (suc j) (λ is. never (same_suc j k is))))

-- ---- one level

-- a value in which something was put below a position
record Placed (k : ℕ) (ks : List ℕ) (v x z : Value) : Type 0 where
  all : List Value
  old : Value
  new : Value
  is : parts_in x ≡ Some all
  at : slice_get all k ≡ Some old
  inner : with_value_at ks v old ≡ Some new
  made : z ≡ Parts (slice_set all k new)

placed : (k : ℕ) (ks : List ℕ) (v x z : Value) → with_value_at (k ∷ ks) v x ≡ Some z → Placed k ks v x z
placed k ks v x z e = by_parts (parts_in x) refl e
  where
    by_made : (all : List Value) → parts_in x ≡ Some all → (old : Value) → slice_get all k ≡ Some old → (new : Option Value) →
        with_value_at ks v old ≡ new → option_map (λ part. Parts (slice_set all k part)) new ≡ Some z → Placed k ks v x z
    by_made all is old at None inner e = absurd cc
    by_made all is old at (Some new) inner e = record {
      all = all;
      old = old;
      new = new;
      is = is;
      at = at;
      inner = inner;
      made = same_some z (Parts (slice_set all k new)) (sym e);
    }

    by_old : (all : List Value) → parts_in x ≡ Some all → (old : Option Value) → slice_get all k ≡ old →
        option_and_then (λ old. option_map (λ part. Parts (slice_set all k part)) (with_value_at ks v old)) old ≡ Some z → Placed k ks v x z
    by_old all is None at e = absurd cc
    by_old all is (Some old) at e = by_made all is old at (with_value_at ks v old) refl e

    by_parts : (all : Option (List Value)) → parts_in x ≡ all →
        option_and_then (λ all. option_and_then (λ old. option_map (λ part. Parts (slice_set all k part)) (with_value_at ks v old))
        (slice_get all k)) all ≡ Some z →
        Placed k ks v x z
    by_parts None is e = absurd cc
    by_parts (Some all) is e = by_old all is (slice_get all k) refl e

in_set_parts : (j : ℕ) (qs : List ℕ) (z : Value) (all : List Value) (k : ℕ) (new : Value) → z ≡ Parts (slice_set all k new) →
    value_at (j ∷ qs) z ≡ option_and_then (value_at qs) (slice_get (slice_set all k new) j)
in_set_parts j qs z all k new made =
    ap (value_at (j ∷ qs)) made ∙ value_in_parts j qs (Parts (slice_set all k new)) (slice_set all k new) (parts_of (slice_set all k new))

-- ---- all levels

-- what lies at positions before others
pub front_there : (ps rest : List ℕ) (x y : Value) → value_at (ps ++ rest) x ≡ Some y →
    (v : Value) × (value_at ps x ≡ Some v) × (value_at rest v ≡ Some y)
front_there ps rest x y e = by (value_at ps x) refl (sym (value_within ps rest x) ∙ e)
  where
    by : (o : Option Value) → value_at ps x ≡ o → option_and_then (value_at rest) o ≡ Some y →
        (v : Value) × (value_at ps x ≡ Some v) × (value_at rest v ≡ Some y)
    by None is e = absurd cc
    by (Some v) is e = (v, is, e)

-- a value that is put below positions is put into what lies there
pub record PutThere (qs rs : List ℕ) (v x made : Value) : Type 0 where
  pub z : Value
  pub is : with_value_at (qs ++ rs) v x ≡ Some z
  pub there : value_at qs z ≡ Some made

pub put_there : (qs rs : List ℕ) (v x old made : Value) → value_at qs x ≡ Some old → with_value_at rs v old ≡ Some made →
    PutThere qs rs v x made
put_there [] rs v x old made at put = record { z = made; is = ap (with_value_at rs v) (same_some x old at) ∙ put; there = refl }
put_there (k ∷ qs) rs v x old made at put =
    let o = opened k qs x old at in
    let inner = put_there qs rs v o.old old made o.inner put in
    record {
      z = Parts (slice_set o.all k inner.z);
      is =
          with_opened k (qs ++ rs) v x o.all o.old o.is o.at
          ∙ ap (option_map (λ part. Parts (slice_set o.all k part))) inner.is;
      there =
          in_set_parts k qs (Parts (slice_set o.all k inner.z)) o.all k inner.z refl
          ∙ ap (option_and_then (value_at qs)) (set_got o.all k o.old inner.z o.at)
          ∙ inner.there;
    }

-- so it is where it was put
pub record PutInside (qs rs : List ℕ) (v x z : Value) : Type 0 where
  pub old : Value
  pub new : Value
  pub at : value_at qs x ≡ Some old
  pub inner : with_value_at rs v old ≡ Some new
  pub there : value_at qs z ≡ Some new

pub put_inside : (qs rs : List ℕ) (v x z : Value) → with_value_at (qs ++ rs) v x ≡ Some z → PutInside qs rs v x z
put_inside [] rs v x z put = record { old = x; new = z; at = refl; inner = put; there = refl }
put_inside (k ∷ qs) rs v x z put =
    let o = placed k (qs ++ rs) v x z put in
    let more = put_inside qs rs v o.old o.new o.inner in
    record {
      old = more.old;
      new = more.new;
      at = value_in_parts k qs x o.all o.is ∙ ap (option_and_then (value_at qs)) o.at ∙ more.at;
      inner = more.inner;
      there =
          in_set_parts k qs z o.all k o.new o.made ∙ ap (option_and_then (value_at qs)) (set_got o.all k o.old o.new o.at)
          ∙ more.there;
    }

put_gives : (ps : List ℕ) (v x z : Value) → with_value_at ps v x ≡ Some z → value_at ps z ≡ Some v
put_gives [] v x z put = sym put
put_gives (k ∷ ps) v x z put =
    let o = placed k ps v x z put in
    in_set_parts k ps z o.all k o.new o.made ∙ ap (option_and_then (value_at ps)) (set_got o.all k o.old o.new o.at)
    ∙ put_gives ps v o.old o.new o.inner

-- ---- positions that are apart

-- neither are a front of the other
abbrev pub Apart : List ℕ → List ℕ → Type 0
Apart [] qs = ⊥
Apart (p ∷ ps) [] = ⊥
Apart (p ∷ ps) (q ∷ qs) = (p ≡ q → ⊥) ⊎ Apart ps qs

apart_on : (ps qs ss : List ℕ) → Apart ps qs → Apart ps (qs ++ ss)
apart_on [] qs ss apart = absurd apart
apart_on (p ∷ ps) [] ss apart = absurd apart
apart_on (p ∷ ps) (q ∷ qs) ss (inl never) = inl never
apart_on (p ∷ ps) (q ∷ qs) ss (inr more) = inr (apart_on ps qs ss more)

pub apart_more : (ps rest qs : List ℕ) → Apart ps qs → Apart (ps ++ rest) qs
apart_more [] rest qs apart = absurd apart
apart_more (p ∷ ps) rest [] apart = absurd apart
apart_more (p ∷ ps) rest (q ∷ qs) (inl never) = inl never
apart_more (p ∷ ps) rest (q ∷ qs) (inr more) = inr (apart_more ps rest qs more)

apart_under : (qs rs ss : List ℕ) → Apart rs ss → Apart (qs ++ rs) (qs ++ ss)
apart_under [] rs ss apart = apart
apart_under (q ∷ qs) rs ss apart = inr (apart_under qs rs ss apart)

-- how two lists of positions meet
data Compared (ps qs : List ℕ) : Type 0 where
  are_apart : Apart ps qs → Compared ps qs
  is_longer : (rest : List ℕ) → qs ≡ ps ++ rest → Compared ps qs
  is_shorter : (rest : List ℕ) → ps ≡ qs ++ rest → Compared ps qs

compared : (ps qs : List ℕ) → Compared ps qs
compared [] qs = is_longer qs refl
compared (p ∷ ps) [] = is_shorter (p ∷ ps) refl
compared (p ∷ ps) (q ∷ qs) = by (nat_eq p q) refl (compared ps qs)
  where
    by : (b : Bool) → nat_eq p q ≡ b → Compared ps qs → Compared (p ∷ ps) (q ∷ qs)
    by false e inner = are_apart (inl (λ same. not_both (nat_eq p q) e (eq-eqb p q same)))
    by true e (are_apart apart) = are_apart (inr apart)
    by true e (is_longer rest is) = is_longer rest (ap (λ x. x ∷ qs) (sym (eqb-true p q e)) ∙ ap (λ xs. p ∷ xs) is)
    by true e (is_shorter rest is) = is_shorter rest (ap (λ x. x ∷ ps) (eqb-true p q e) ∙ ap (λ xs. q ∷ xs) is)

-- what is apart from where a value is put stays
pub elsewhere : (ps qs : List ℕ) (v x z : Value) → Apart ps qs → with_value_at ps v x ≡ Some z → value_at qs z ≡ value_at qs x
elsewhere [] qs v x z apart put = absurd apart
elsewhere (p ∷ ps) [] v x z apart put = absurd apart
elsewhere (p ∷ ps) (q ∷ qs) v x z apart put =
    let o = placed p ps v x z put in
    in_set_parts q qs z o.all p o.new o.made
    ∙ set_seen (value_at qs) o.all p q o.old o.new o.at (λ same. by o.old o.new apart same (λ more. elsewhere ps qs v o.old o.new more o.inner))
    ∙ sym (value_in_parts q qs x o.all o.is)
  where
    by : (old new : Value) → (p ≡ q → ⊥) ⊎ Apart ps qs → q ≡ p → (Apart ps qs → value_at qs new ≡ value_at qs old) →
        value_at qs new ≡ value_at qs old
    by old new (inl never) same inner = absurd (never (sym same))
    by old new (inr more) same inner = inner more

itself : (o : Option Value) → option_and_then (value_at []) o ≡ o
itself None = refl
itself (Some v) = refl

-- values that are alike apart from the positions are the same once what the one has there is put into the other
same_below : (rs : List ℕ) (v x y z : Value) → value_at rs y ≡ Some v → with_value_at rs v x ≡ Some z →
    ((ss : List ℕ) → Apart rs ss → value_at ss x ≡ value_at ss y) → z ≡ y
same_below [] v x y z at put same = same_some z v (sym put) ∙ sym (same_some y v at)
same_below (k ∷ rs) v x y z at put same =
    let o = placed k rs v x z put in
    let a = opened k rs y v at in
    let below : o.new ≡ a.old = same_below rs v o.old a.old o.new a.inner o.inner (λ ss apart.
    sym (ap (option_and_then (value_at ss)) o.at) ∙ sym (value_in_parts k ss x o.all o.is) ∙ same (k ∷ ss) (inr apart)
    ∙ value_in_parts k ss y a.all a.is
    ∙ ap (option_and_then (value_at ss)) a.at) in
    o.made
    ∙ ap (λ new. Parts (slice_set o.all k new)) below
    ∙ ap Parts (set_same o.all a.all k o.old a.old o.at a.at (λ j never.
    sym (itself (slice_get o.all j)) ∙ sym (value_in_parts j [] x o.all o.is) ∙ same (j ∷ []) (inl (λ is. never (sym is)))
    ∙ value_in_parts j [] y a.all a.is
    ∙ itself (slice_get a.all j)))
    ∙ whole_again y a.all a.is

-- ---- values that differ at some paths alone

-- the positions of a path among the variables
abbrev pub way : Static → List ℕ
way path = path.root ∷ path.fields

-- the positions are apart from each of the paths
abbrev pub Past : List Static → List ℕ → Type 0
Past [] qs = ⊤
Past (path ∷ rest) qs = Apart (way path) qs × Past rest qs

-- the same lies in both at all positions that are apart from the paths
abbrev pub Differ : List Static → Value → Value → Type 0
Differ paths x y = (qs : List ℕ) → Past paths qs → value_at qs x ≡ value_at qs y

past_on : (paths : List Static) (qs ss : List ℕ) → Past paths qs → Past paths (qs ++ ss)
past_on [] qs ss past = tt
past_on (path ∷ rest) qs ss past = (apart_on (way path) qs ss past.0, past_on rest qs ss past.1)

-- what the one has at the positions is put into the other
module _ (ps : List ℕ) (v x y z : Value) (at : value_at ps y ≡ Some v) (put : with_value_at ps v x ≡ Some z) where
  put_longer : (qs rest : List ℕ) → qs ≡ ps ++ rest → value_at qs z ≡ value_at qs y
  put_longer qs rest is =
      ap (λ qs. value_at qs z) is
      ∙ value_within ps rest z
      ∙ ap (option_and_then (value_at rest)) (put_gives ps v x z put)
      ∙ sym (ap (option_and_then (value_at rest)) at)
      ∙ sym (value_within ps rest y)
      ∙ sym (ap (λ qs. value_at qs y) is)

  put_shorter : (qs rs : List ℕ) → ps ≡ qs ++ rs → ((ss : List ℕ) → Apart ps (qs ++ ss) → value_at (qs ++ ss) x ≡ value_at (qs ++ ss) y) →
      value_at qs z ≡ value_at qs y
  put_shorter qs rs is below =
      let o = put_inside qs rs v x z (sym (ap (λ ps. with_value_at ps v x) is) ∙ put) in
      let a = front_there qs rs y v (sym (ap (λ ps. value_at ps y) is) ∙ at) in
      let same : o.new ≡ a.0 = same_below rs v o.old a.0 o.new a.2 o.inner (λ ss apart.
      sym (ap (option_and_then (value_at ss)) o.at) ∙ sym (value_within qs ss x)
      ∙ below ss (subst (λ ps. Apart ps (qs ++ ss)) (sym is) (apart_under qs rs ss apart))
      ∙ value_within qs ss y
      ∙ ap (option_and_then (value_at ss)) a.1) in
      o.there ∙ ap Some same ∙ sym a.1

  put_seen : (qs : List ℕ) → (Apart ps qs → value_at qs x ≡ value_at qs y) →
      ((ss : List ℕ) → Apart ps (qs ++ ss) → value_at (qs ++ ss) x ≡ value_at (qs ++ ss) y) → value_at qs z ≡ value_at qs y
  put_seen qs here below = by (compared ps qs)
    where
      by : Compared ps qs → value_at qs z ≡ value_at qs y
      by (are_apart apart) = elsewhere ps qs v x z apart put ∙ here apart
      by (is_longer rest is) = put_longer qs rest is
      by (is_shorter rs is) = put_shorter qs rs is below

-- so they differ at the other paths alone
pub differ_step : (path : Static) (rest : List Static) (v x y z : Value) → value_at (way path) y ≡ Some v →
    with_value_at (way path) v x ≡ Some z →
    Differ (path ∷ rest) x y → Differ rest z y
differ_step path rest v x y z at put differ qs past =
    put_seen (way path) v x y z at put qs (λ apart. differ qs (apart, past)) (λ ss apart. differ (qs ++ ss) (apart, past_on rest qs ss past))

-- ---- at the variables

-- the variables as one value
pub at_path_is : (now : List Value) (path : Static) → value_at (way path) (Parts now) ≡ at_path now path
at_path_is now path = value_in_parts path.root path.fields (Parts now) now (parts_of now)

pub same_parts : (xs ys : List Value) → Parts xs ≡ Parts ys → xs ≡ ys
same_parts xs ys e = same_some xs ys (sym (parts_of xs) ∙ ap parts_in e ∙ parts_of ys)

-- variables in which something was put
pub record PutAt (root : ℕ) (ks : List ℕ) (v : Value) (now left : List Value) : Type 0 where
  pub old : Value
  pub new : Value
  pub at : slice_get now root ≡ Some old
  pub inner : with_value_at ks v old ≡ Some new
  pub made : left ≡ slice_set now root new

pub put_opened : (root : ℕ) (ks : List ℕ) (v : Value) (now left : List Value) → put_at root ks v now ≡ Some left → PutAt root ks v now left
put_opened root ks v now left e = by_old (slice_get now root) refl e
  where
    by_new : (old : Value) → slice_get now root ≡ Some old → (new : Option Value) → with_value_at ks v old ≡ new →
        option_map (λ value. slice_set now root value) new ≡ Some left → PutAt root ks v now left
    by_new old at None inner e = absurd cc
    by_new old at (Some new) inner e =
        record { old = old; new = new; at = at; inner = inner; made = same_some left (slice_set now root new) (sym e) }

    by_old : (old : Option Value) → slice_get now root ≡ old →
        option_and_then (λ old. option_map (λ value. slice_set now root value) (with_value_at ks v old)) old ≡ Some left → PutAt root ks v now left
    by_old None at e = absurd cc
    by_old (Some old) at e = by_new old at (with_value_at ks v old) refl e

-- a value may be put where there is one
pub put_may : (path : Static) (v : Value) (now : List Value) (x : Value) → value_at (way path) (Parts now) ≡ Some x →
    (left : List Value) × (put_at path.root path.fields v now ≡ Some left)
put_may path v now x at = by (slice_get now path.root) refl (sym (at_path_is now path) ∙ at)
  where
    by : (old : Option Value) → slice_get now path.root ≡ old → option_and_then (value_at path.fields) old ≡ Some x →
        (left : List Value) × (option_and_then (λ old. option_map (λ value. slice_set now path.root value) (with_value_at path.fields v old)) old
        ≡ Some left)
    by None is e = absurd cc
    by (Some old) is e =
        let made = with_may path.fields v old x e in (
          slice_set now path.root made.0,
          ap (option_map (λ value. slice_set now path.root value)) made.1,
        )
      where
        with_may : (ks : List ℕ) (v old x : Value) → value_at ks old ≡ Some x → (new : Value) × (with_value_at ks v old ≡ Some new)
        with_may [] v old x e = (v, refl)
        with_may (k ∷ ks) v old x e =
            let o = opened k ks old x e in
            let inner = with_may ks v o.old x o.inner in (
              Parts (slice_set o.all k inner.0),
              with_opened k ks v old o.all o.old o.is o.at ∙ ap (option_map (λ part. Parts (slice_set o.all k part))) inner.1,
            )
