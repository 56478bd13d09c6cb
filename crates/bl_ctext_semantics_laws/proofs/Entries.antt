-- Things with names, one behind the other: how many cells stand before each.
use Rattle.std.proofs.Common.{◌≡◌, ℕ, ◌+◌, ◌≤◌, ◌⊎◌, inl, inr, ⊎_elim, Bool, true, false, List, [], ◌∷◌, map, Option, Some, None, refl, ap, sym}
use Rattle.std.proofs.Common.{subst, ◌∙◌, arith}
use Rattle.std.specs.Prelude.{bytes_eq, is_some, is_none, option_map, if◌then◌else◌}
use Rattle.std.specs.Option.{option_or}
use Rattle.std.proofs.lemmas.Slice.Eq.{bytes_eq-Decides}
use Rattle.bl_tree.proofs.Basics.{and_first, and_second, same_some}
use Rattle.bl_tree.specs.declared.text.Text.{Text}
use Rattle.bl_ctext_semantics.specs.Tables.{Table, found, with_entry}
use Rattle.bl_ctext_semantics.specs.Faults.{all_distinct}

-- n cells from one on and k cells from another on have none in common
abbrev pub Apart : ℕ → ℕ → ℕ → ℕ → Type 0
Apart x n y k = (x + n ≤ y) ⊎ (y + k ≤ x)

-- how many cells stand before the first of a name
abbrev pub offset_of : {A : Type 0} → (A → ℕ) → List (Text × A) → Text → ℕ
offset_of size [] name = 0
offset_of size (e ∷ rest) name = if bytes_eq e.0 name then 0 else size e.1 + offset_of size rest name

-- how many cells there are
abbrev pub sum_of : {A : Type 0} → (A → ℕ) → List (Text × A) → ℕ
sum_of size [] = 0
sum_of size (e ∷ rest) = size e.1 + sum_of size rest

pub same-name : (a b c : Text) → bytes_eq a b ≡ true → bytes_eq a c ≡ true → bytes_eq b c ≡ true
same-name a b c h k = (bytes_eq-Decides b c).1 (sym ((bytes_eq-Decides a b).0 h) ∙ (bytes_eq-Decides a c).0 k)

made-either : {B C : Type 0} (h : B → C) (b : Bool) (v : B) (o : Option B) →
    (if b then Some (h v) else option_map h o) ≡ option_map h (if b then Some v else o)
made-either h true v o = refl
made-either h false v o = refl

-- what is made of what is found
pub found-made : {A B C : Type 0} (f : A → Text) (g : A → B) (h : B → C) (xs : List A) (name : Text) →
    found name (map (λ x. (f x, h (g x))) xs) ≡ option_map h (found name (map (λ x. (f x, g x)) xs))
found-made f g h [] name = refl
found-made f g h (x ∷ xs) name =
    ap (λ o. if bytes_eq (f x) name then Some (h (g x)) else o) (found-made f g h xs name)
    ∙ made-either h (bytes_eq (f x) name) (g x) (found name (map (λ y. (f y, g y)) xs))

module _ {A : Type 0} (size : A → ℕ) where
  choose-offset : (b : Bool) (x a : A) (rest : Option A) (later all : ℕ) → (if b then Some x else rest) ≡ Some a →
      (rest ≡ Some a → later + size a ≤ all) →
      (if b then 0 else size x + later) + size a ≤ size x + all
  choose-offset true x a rest later all is h = let e : size x ≡ size a = ap size (same_some x a is) in omega arith
  choose-offset false x a rest later all is h = let l : later + size a ≤ all = h is in omega arith

  -- what is found stands among all
  pub offset-within : (es : List (Text × A)) (name : Text) (a : A) → found name es ≡ Some a → offset_of size es name + size a ≤ sum_of size es
  offset-within [] name a h = cc
  offset-within (e ∷ rest) name a h =
      choose-offset (bytes_eq e.0 name) e.1 a (found name rest) (offset_of size rest name) (sum_of size rest) h (λ later. offset-within rest name a later)

  choose-apart : (x : A) (n a b : Text) (m k : A) (i j : Bool) → bytes_eq n a ≡ i → bytes_eq n b ≡ j → bytes_eq a b ≡ false →
      (ra rb : Option A) (oa ob : ℕ) → (if i then Some x else ra) ≡ Some m → (if j then Some x else rb) ≡ Some k →
      (ra ≡ Some m → rb ≡ Some k → Apart oa (size m) ob (size k)) →
      Apart (if i then 0 else size x + oa) (size m) (if j then 0 else size x + ob) (size k)
  choose-apart x n a b m k true true ia ib differ ra rb oa ob isa isb h = absurd (let e : true ≡ false = sym (same-name n a b ia ib) ∙ differ in cc)
  choose-apart x n a b m k true false ia ib differ ra rb oa ob isa isb h = let e : size x ≡ size m = ap size (same_some x m isa) in inl (omega arith)
  choose-apart x n a b m k false true ia ib differ ra rb oa ob isa isb h = let e : size x ≡ size k = ap size (same_some x k isb) in inr (omega arith)
  choose-apart x n a b m k false false ia ib differ ra rb oa ob isa isb h =
      ⊎_elim (λ (l : oa + size m ≤ ob). inl (omega arith)) (λ (r : ob + size k ≤ oa). inr (omega arith)) (h isa isb)

  -- things of different names have no cell in common
  pub offset-apart : (es : List (Text × A)) (a b : Text) (m k : A) → bytes_eq a b ≡ false → found a es ≡ Some m → found b es ≡ Some k →
      Apart (offset_of size es a) (size m) (offset_of size es b) (size k)
  offset-apart [] a b m k differ isa isb = cc
  offset-apart (e ∷ rest) a b m k differ isa isb =
      choose-apart e.1 e.0 a b m k (bytes_eq e.0 a) (bytes_eq e.0 b) refl refl differ (found a rest) (found b rest) (offset_of size rest a)
      (offset_of size rest b) isa isb
      (λ ha hb. offset-apart rest a b m k differ ha hb)

  -- ---- different names

  -- each of these stands among all where it is, so many cells behind
  abbrev pub Positioned : List (Text × A) → ℕ → List (Text × A) → Type 0
  Positioned all behind [] = Unit {0}
  Positioned all behind (e ∷ es) = ((found e.0 all ≡ Some e.1) × (offset_of size all e.0 ≡ behind)) × Positioned all (behind + size e.1) es

  abbrev Others : Text → List (Text × A) → Type 0
  Others name [] = Unit {0}
  Others name (e ∷ es) = (bytes_eq name e.0 ≡ false) × Others name es

  kept : (o : Option (Unit {0})) (b : Bool) → is_some o ≡ true → is_some (option_or o (if b then Some tt else None)) ≡ true
  kept (Some x) b h = refl
  kept None b h = cc

  added : (o : Option (Unit {0})) (b : Bool) → b ≡ true → is_some (option_or o (if b then Some tt else None)) ≡ true
  added (Some x) b h = refl
  added None true h = refl
  added None false h = cc

  not-both : (o : Option (Unit {0})) → is_some o ≡ true → is_none o ≡ true → ⊥
  not-both (Some u) h k = let x : false ≡ true = k in cc
  not-both None h k = let x : false ≡ true = h in cc

  other : (names : Table (Unit {0})) (name asked : Text) → is_some (names name) ≡ true → is_none (names asked) ≡ true → (b : Bool) →
      bytes_eq name asked ≡ b →
      b ≡ false
  other names name asked there absent false is = refl
  other names name asked there absent true is =
      absurd (not-both (names asked) (subst (λ n. is_some (names n) ≡ true) ((bytes_eq-Decides name asked).0 is) there) absent)

  others : (names : Table (Unit {0})) (name : Text) → is_some (names name) ≡ true → (es : List (Text × A)) →
      all_distinct names (map (λ e. e.0) es) ≡ true →
      Others name es
  others names name there [] apart = tt
  others names name there (e ∷ es) apart = (
    other names name e.0 there (and_first _ _ apart) (bytes_eq name e.0) refl,
    others (with_entry names e.0 tt) name (kept (names name) (bytes_eq e.0 name) there) es (and_second (is_none (names e.0)) _ apart),
  )

  behind-first : (first : Text × A) (all : List (Text × A)) (behind : ℕ) (es : List (Text × A)) → Others first.0 es → Positioned all behind es →
      Positioned (first ∷ all) (size first.1 + behind) es
  behind-first first all behind [] differ h = tt
  behind-first first all behind (e ∷ es) differ h = (
    (
      ap (λ b. if b then Some first.1 else found e.0 all) differ.0 ∙ h.0.0,
      ap (λ b. if b then 0 else size first.1 + offset_of size all e.0) differ.0
          ∙ ap (λ n. size first.1 + n) h.0.1,
    ),
    subst (λ n. Positioned (first ∷ all) n es) (let q : size first.1 + (behind + size e.1) ≡ size first.1 + behind + size e.1 = omega arith in q)
        (behind-first first all (behind + size e.1) es differ.1 h.1),
  )

  -- things of different names are found where they stand
  pub positioned : (names : Table (Unit {0})) (es : List (Text × A)) → all_distinct names (map (λ e. e.0) es) ≡ true → Positioned es 0 es
  positioned names [] apart = tt
  positioned names (e ∷ es) apart =
      let itself : bytes_eq e.0 e.0 ≡ true = (bytes_eq-Decides e.0 e.0).1 refl in
      let rest : Positioned es 0 es = positioned (with_entry names e.0 tt) es (and_second (is_none (names e.0)) _ apart) in
      let differ : Others e.0 es =
      others (with_entry names e.0 tt) e.0 (added (names e.0) (bytes_eq e.0 e.0) itself) es (and_second (is_none (names e.0)) _ apart) in (
        (ap (λ b. if b then Some e.1 else found e.0 es) itself, ap (λ b. if b then 0 else size e.1 + offset_of size es e.0) itself),
        subst (λ n. Positioned (e ∷ es) n es) (let q : size e.1 + 0 ≡ 0 + size e.1 = omega arith in q) (behind-first e es 0 es differ rest),
      )
