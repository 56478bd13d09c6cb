-- Evaluations in the memory of a C text and over numbered cells, side by side.
use Rattle.std.proofs.Common.{◌≡◌, ℕ, ◌+◌, ℤ, List, [], ◌∷◌, ◌++◌, Option, Some, None, refl, ap, sym, ◌∙◌, arith}
use Rattle.bl_ctext_semantics.specs.Memory.{Memory}
use Rattle.bl_ctext_semantics.specs.Meaning.{Counted, given, going_on as going_on_c, next as next_c}
use Rattle.bl_ctext_semantics.specs.Sizes.{Sizes}
use Rattle.bl_ctext_semantics_laws.specs.Flat.{Cells, Evaluates, FlatAnswer, address_along, element_address, flat_answer, flat_next, going_on, more}
use Rattle.bl_ctext_semantics_laws.specs.Reaching.{Term}
use Rattle.bl_ctext_semantics_laws.proofs.Ways.{Lists, Shaped, Structs}
use Rattle.bl_ctext_semantics_laws.proofs.Standing.{Stands, World}

-- both are there and related, or neither is there
abbrev pub Matches : {A B : Type 0} → (A → B → Type 0) → Option A → Option B → Type 0
Matches R None None = Unit {0}
Matches R (Some a) (Some b) = R a b
Matches R None (Some b) = ⊥
Matches R (Some a) None = ⊥

-- ---- one after the other

more-none : {A : Type 0} (l : FlatAnswer A) → more 0 l ≡ l
more-none l = let e : 0 + l.count ≡ l.count = omega arith in ap (λ n. record { cells = l.cells; count = n; answer = l.answer }) e

more-twice : {A : Type 0} (n k : ℕ) (l : FlatAnswer A) → more (n + k) l ≡ more n (more k l)
more-twice n k l = let e : n + k + l.count ≡ n + (k + l.count) = omega arith in ap (λ m. record { cells = l.cells; count = m; answer = l.answer }) e

going-inner : {A B : Type 0} (n k : ℕ) (cells : Cells) (answer : Option A) (g : Cells → A → FlatAnswer B) →
    going_on cells (n + k) answer g ≡ more n (going_on cells k answer g)
going-inner n k cells None g = refl
going-inner n k cells (Some a) g = more-twice n k (g cells a)

going-assoc : {A B C : Type 0} (n : ℕ) (cells : Cells) (answer : Option A) (f : Cells → A → FlatAnswer B) (g : Cells → B → FlatAnswer C) →
    flat_next (going_on cells n answer f) g ≡ going_on cells n answer (λ c a. flat_next (f c a) g)
going-assoc n cells None f g = refl
going-assoc n cells (Some a) f g = going-inner n (f cells a).count (f cells a).cells (f cells a).answer g

-- an index after others
pub along-append : (xs ys : List (Term (Evaluates ℤ))) (at base : ℕ) (cells : Cells) →
    address_along (xs ++ ys) at base cells ≡ flat_next (address_along xs at base cells) (λ c k. address_along ys k base c)
along-append [] ys at base cells = sym (more-none (address_along ys at base cells))
along-append (x ∷ xs) ys at base cells =
    let i : FlatAnswer ℤ = x.index base cells in
    ap (λ f. going_on i.cells i.count i.answer f)
    (λ j after n. (ap (λ f. going_on after 0 (element_address x at n) f) (λ h same k. along-append xs ys k base same h)
    ∙ sym (going-assoc 0 after (element_address x at n) (λ same k. address_along xs k base same) (λ c k. address_along ys k base c))) j)
    ∙ sym (going-assoc i.count i.cells i.answer (λ after n. flat_next (flat_answer after (element_address x at n)) (λ same k. address_along xs k base same))
    (λ c k. address_along ys k base c))

module _ (known : Sizes) (lists : Lists) (structs : Structs) (shaped : Shaped known lists structs) (limit : ℕ) (w : World) (memory : Memory) where
  abbrev Stood : Cells → Type 0
  Stood = Stands known lists structs shaped limit w memory

  -- both count alike and answer what is related, or trap, and memory still stands
  pub record Agree {A B : Type 0} (R : A → B → Type 0) (c : Counted A) (l : FlatAnswer B) : Type 0 where
    pub count : c.count ≡ l.count
    pub stands : Stood l.cells
    pub answer : Matches R c.answer l.answer

  going-agrees : {A B C D : Type 0} (R : A → B → Type 0) (Q : C → D → Type 0) (n k : ℕ) (cells : Cells) (a : Option A)
      (b : Option B) (f : A → Counted C)
      (g : Cells → B → FlatAnswer D) →
      n ≡ k → Stood cells → Matches R a b → ((x : A) (y : B) (c : Cells) → R x y → Stood c → Agree Q (f x) (g c y)) →
      Agree Q (going_on_c n a f) (going_on cells k b g)
  going-agrees R Q n k cells None None f g same stands h rest = record { count = same; stands = stands; answer = tt }
  going-agrees R Q n k cells None (Some b) f g same stands h rest = absurd h
  going-agrees R Q n k cells (Some a) None f g same stands h rest = absurd h
  going-agrees R Q n k cells (Some a) (Some b) f g same stands h rest =
      let r : Agree Q (f a) (g cells b) = rest a b cells h stands in
      let e = r.count in
      record { count = omega arith; stands = r.stands; answer = r.answer }

  pub next-agrees : {A B C D : Type 0} (R : A → B → Type 0) (Q : C → D → Type 0) (c : Counted A) (l : FlatAnswer B) (f : A → Counted C)
      (g : Cells → B → FlatAnswer D) →
      Agree R c l → ((x : A) (y : B) (cells : Cells) → R x y → Stood cells → Agree Q (f x) (g cells y)) → Agree Q (next_c c f) (flat_next l g)
  next-agrees R Q c l f g h rest = going-agrees R Q c.count l.count l.cells c.answer l.answer f g h.count h.stands h.answer rest

  mapped-agrees : {A B C : Type 0} (R : A → B → Type 0) (Q : C → B → Type 0) (n k : ℕ) (cells : Cells) (a : Option A) (b : Option B) (f : A → C) →
      n ≡ k → Stood cells → Matches R a b → ((x : A) (y : B) → R x y → Q (f x) y) →
      Agree Q (going_on_c n a (λ x. given (Some (f x)))) (record { cells = cells; count = k; answer = b })
  mapped-agrees R Q n k cells None None f same stands h rest = record { count = same; stands = stands; answer = tt }
  mapped-agrees R Q n k cells None (Some b) f same stands h rest = absurd h
  mapped-agrees R Q n k cells (Some a) None f same stands h rest = absurd h
  mapped-agrees R Q n k cells (Some a) (Some b) f same stands h rest = record { count = omega arith; stands = stands; answer = rest a b h }

  -- what is made of the one answer has to do with the other
  pub made-agrees : {A B C : Type 0} (R : A → B → Type 0) (Q : C → B → Type 0) (c : Counted A) (l : FlatAnswer B) (f : A → C) → Agree R c l →
      ((x : A) (y : B) → R x y → Q (f x) y) →
      Agree Q (next_c c (λ x. given (Some (f x)))) l
  made-agrees R Q c l f h rest = mapped-agrees R Q c.count l.count l.cells c.answer l.answer f h.count h.stands h.answer rest
