-- What a walk over edges notes of each node.
use Rattle.std.proofs.Common.{◌≡◌, ℕ, ◌<◌, ◌≤◌, Bool, true, false, ◌⊎◌, ⊎_elim, inl, inr, List, [], ◌∷◌, length, get_or, set, replicate, refl, ap, sym, subst}
use Rattle.std.proofs.Common.{◌∙◌, zero, suc, arith}
use Rattle.std.specs.Prelude.{Contains, if◌then◌else◌, nat_eq}
use Rattle.std.proofs.lemmas.Bool.{cases_eq, cases_lt}
use Rattle.std.proofs.lemmas.List.{get_or-replicate, get_or-set_other, get_or-set_same, get_or_past, length-replicate, length-set}
use Rattle.bl_tree.proofs.Basics.{number_test, same_number}
use Rattle.bl_tree.specs.declared.graph.Edge.{Edge}
use Rattle.bl_block.specs.declared.ways.Way.{Way}
use Rattle.bl_block.specs.declared.ways.Way.TheVariants as way
use Rattle.bl_block.specs.inner.Ways.{is_one, met, noted, noted_all}
use Rattle.bl_block.proofs.Tests.{unequal}

-- two different numbers are so
pub record Two (F : ℕ → Type 0) : Type 0 where
  pub one : ℕ
  pub two : ℕ
  pub first : F one
  pub second : F two
  pub differ : one ≡ two → ⊥

-- the way tells which numbers are so: none, this one alone, or several
abbrev pub Tells : (ℕ → Type 0) → Way → Type 0
Tells F way.Nowhere = (k : ℕ) → F k → ⊥
Tells F (way.One j) = F j × ((k : ℕ) → F k → k ≡ j)
Tells F way.Several = Two F

tells_same : (F G : ℕ → Type 0) → ((k : ℕ) → F k → G k) → ((k : ℕ) → G k → F k) → (w : Way) → Tells F w → Tells G w
tells_same F G there back way.Nowhere told = λ k g. told k (back k g)
tells_same F G there back (way.One j) told = (there j told.0, λ k g. told.1 k (back k g))
tells_same F G there back way.Several told = record {
  one = told.one;
  two = told.two;
  first = there told.one told.first;
  second = there told.two told.second;
  differ = told.differ;
}

met_tells : (F : ℕ → Type 0) (w : Way) (node : ℕ) → Tells F w → Tells (λ k. F k ⊎ (node ≡ k)) (met w node)
met_tells F way.Nowhere node told = (inr refl, λ k h. elim h [ inl f ↦ absurd (told k f) | inr is ↦ sym is ])
met_tells F (way.One j) node told = by (nat_eq j node) refl
  where
    by : (b : Bool) → nat_eq j node ≡ b → Tells (λ k. F k ⊎ (node ≡ k)) (if b then way.One j else way.Several)
    by true is = (inl told.0, λ k h. elim h [ inl f ↦ told.1 k f | inr e ↦ sym e ∙ sym (same_number j node is) ])
    by false other = record { one = j; two = node; first = inl told.0; second = inr refl; differ = unequal j node other }
met_tells F way.Several node told =
    record { one = told.one; two = told.two; first = inl told.first; second = inl told.second; differ = told.differ }

-- the way is to this node alone where no other is so
pub tells_one : (F : ℕ → Type 0) (w : Way) (j : ℕ) → Tells F w → F j → ((k : ℕ) → F k → k ≡ j) → is_one w j ≡ true
tells_one F way.Nowhere j told so only = absurd (told j so)
tells_one F (way.One k) j told so only = number_test k j (only k told.0)
tells_one F way.Several j told so only = absurd (told.differ (only told.one told.first ∙ sym (only told.two told.second)))

pub one_is : (w : Way) (j : ℕ) → is_one w j ≡ true → w ≡ way.One j
one_is way.Nowhere j is = absurd (let wrong : false ≡ true = is in cc)
one_is (way.One k) j is = ap way.One (same_number k j is)
one_is way.Several j is = absurd (let wrong : false ≡ true = is in cc)

module _ (test : Edge → Bool) (at other : Edge → ℕ) where
  -- one of the edges passes the test and leads from the one number to the other
  abbrev pub Arrow : List Edge → ℕ → ℕ → Type 0
  Arrow [] i k = ⊥
  Arrow (edge ∷ rest) i k = ((test edge ≡ true) × (at edge ≡ i) × (other edge ≡ k)) ⊎ Arrow rest i k

  pub record Found (edges : List Edge) (i k : ℕ) : Type 0 where
    pub edge : Edge
    pub there : Contains edges edge
    pub passes : test edge ≡ true
    pub begins : at edge ≡ i
    pub ends : other edge ≡ k

  pub found : (edges : List Edge) (i k : ℕ) → Arrow edges i k → Found edges i k
  found [] i k arrow = absurd arrow
  found (edge ∷ rest) i k (inl is) = record { edge = edge; there = (0, omega arith, refl); passes = is.0; begins = is.1; ends = is.2 }
  found (edge ∷ rest) i k (inr more) =
      let it = found rest i k more in let lt = it.there.1 in record {
        edge = it.edge;
        there = (suc it.there.0, omega arith, it.there.2);
        passes = it.passes;
        begins = it.begins;
        ends = it.ends;
      }

  arrow_at : (edges : List Edge) (edge : Edge) (k : ℕ) → k < length edges → get_or edges k edge ≡ edge → test edge ≡ true →
      Arrow edges (at edge) (other edge)
  arrow_at [] edge k lt is passes = absurd (omega arith)
  arrow_at (first ∷ rest) edge zero lt is passes = inl (ap test is ∙ passes, ap at is, ap other is)
  arrow_at (first ∷ rest) edge (suc k) lt is passes = inr (arrow_at rest edge k (omega arith) is passes)

  pub arrow_of : (edges : List Edge) (edge : Edge) → Contains edges edge → test edge ≡ true → Arrow edges (at edge) (other edge)
  arrow_of edges edge there passes = arrow_at edges edge there.0 there.1 there.2 passes

  length_noted : (edges : List Edge) (ways : List Way) → length (noted_all test at other edges ways) ≡ length ways
  length_noted [] ways = refl
  length_noted (edge ∷ rest) ways =
      elim (test edge) as (λ b. length (noted_all test at other rest (if b then noted ways (at edge) (other edge) else ways)) ≡ length ways) [
        | true ↦ length_noted rest (noted ways (at edge) (other edge)) ∙ length-set ways (at edge) _
        | false ↦ length_noted rest ways
      ]

  -- what is told of the rest is told of all, where the first edge doesn't lead on from here
  skipped : (edge : Edge) (rest : List Edge) (i : ℕ) (F : ℕ → Type 0) (w : Way) →
      ((k : ℕ) → (test edge ≡ true) × (at edge ≡ i) × (other edge ≡ k) → ⊥) →
      Tells (λ k. F k ⊎ Arrow rest i k) w → Tells (λ k. F k ⊎ Arrow (edge ∷ rest) i k) w
  skipped edge rest i F w none told =
      tells_same (λ k. F k ⊎ Arrow rest i k) (λ k. F k ⊎ Arrow (edge ∷ rest) i k)
      (λ k h. elim h [ inl f ↦ inl f | inr more ↦ inr (inr more) ])
      (λ k h. elim h [ inl f ↦ inl f | inr one ↦ elim one [ inl is ↦ absurd (none k is) | inr more ↦ inr more ] ]) w told

  -- and where it does
  taken : (edge : Edge) (rest : List Edge) (i : ℕ) (F : ℕ → Type 0) (w : Way) → test edge ≡ true → i ≡ at edge →
      Tells (λ k. (F k ⊎ (other edge ≡ k)) ⊎ Arrow rest i k) w → Tells (λ k. F k ⊎ Arrow (edge ∷ rest) i k) w
  taken edge rest i F w passes is told =
      tells_same (λ k. (F k ⊎ (other edge ≡ k)) ⊎ Arrow rest i k) (λ k. F k ⊎ Arrow (edge ∷ rest) i k)
      (λ k h. elim h [ inl one ↦ elim one [ inl f ↦ inl f | inr e ↦ inr (inl (passes, sym is, e)) ] | inr more ↦ inr (inr more) ])
      (λ k h. elim h [ inl f ↦ inl (inl f) | inr one ↦ elim one [ inl e ↦ inl (inr e.2) | inr more ↦ inr more ] ]) w told

  noted_here : (ways : List Way) (edge : Edge) (i : ℕ) → i < length ways → i ≡ at edge →
      get_or (noted ways (at edge) (other edge)) i way.Nowhere ≡ met (get_or ways i way.Nowhere) (other edge)
  noted_here ways edge i lt is =
      ap (λ n. get_or (set ways n (met (get_or ways n way.Nowhere) (other edge))) i way.Nowhere) (sym is)
      ∙ get_or-set_same ways i (met (get_or ways i way.Nowhere) (other edge)) way.Nowhere lt

  noted_long : (ways : List Way) (edge : Edge) (i : ℕ) → i < length ways → i < length (noted ways (at edge) (other edge))
  noted_long ways edge i lt =
      let long = length-set ways (at edge) (met (get_or ways (at edge) way.Nowhere) (other edge)) in omega (arith, lt, long)

  noted_tells : (edges : List Edge) (ways : List Way) (i : ℕ) (F : ℕ → Type 0) → i < length ways → Tells F (get_or ways i way.Nowhere) →
      Tells (λ k. F k ⊎ Arrow edges i k) (get_or (noted_all test at other edges ways) i way.Nowhere)
  noted_tells [] ways i F lt told =
      tells_same F (λ k. F k ⊎ ⊥) (λ k f. inl f) (λ k h. elim h [ inl f ↦ f | inr none ↦ absurd none ]) (get_or ways i way.Nowhere) told
  noted_tells (edge ∷ rest) ways i F lt told =
      elim (test edge) as (λ b. test edge ≡ b → Tells (λ k. F k ⊎ Arrow (edge ∷ rest) i k)
      (get_or (noted_all test at other rest (if b then noted ways (at edge) (other edge) else ways)) i way.Nowhere)) [
        | true ↦ λ passes.
            ⊎_elim
            (λ (is : i ≡ at edge).
            taken edge rest i F _ passes is
            (noted_tells rest (noted ways (at edge) (other edge)) i (λ k. F k ⊎ (other edge ≡ k)) (noted_long ways edge i lt)
            (subst (Tells (λ k. F k ⊎ (other edge ≡ k))) (sym (noted_here ways edge i lt is))
            (met_tells F (get_or ways i way.Nowhere) (other edge) told))))
            (λ (elsewhere : i ≡ at edge → ⊥).
            skipped edge rest i F _ (λ k is. elsewhere (sym is.1))
            (noted_tells rest (noted ways (at edge) (other edge)) i F (noted_long ways edge i lt)
            (subst (Tells F) (sym (get_or-set_other ways (at edge) i (met (get_or ways (at edge) way.Nowhere) (other edge)) way.Nowhere elsewhere))
            told)))
            (cases_eq i (at edge))
        | false ↦ λ fails.
            skipped edge rest i F _ (λ k is. absurd (let passes = is.0 in cc)) (noted_tells rest ways i F lt told)
      ] refl

  -- of each of so many nodes the way tells where the edges that pass lead
  pub way_tells : (edges : List Edge) (count i : ℕ) → i < count →
      Tells (Arrow edges i) (get_or (noted_all test at other edges (replicate count way.Nowhere)) i way.Nowhere)
  way_tells edges count i lt =
      tells_same (λ k. ⊥ ⊎ Arrow edges i k) (Arrow edges i) (λ k h. elim h [ inl none ↦ absurd none | inr arrow ↦ arrow ]) (λ k arrow. inr arrow)
      (get_or (noted_all test at other edges (replicate count way.Nowhere)) i way.Nowhere)
      (noted_tells edges (replicate count way.Nowhere) i (λ k. ⊥) (let long = length-replicate count way.Nowhere in omega (arith, lt, long))
      (subst (Tells (λ k. ⊥)) (sym (get_or-replicate count i way.Nowhere way.Nowhere lt)) (λ k none. none)))

  -- where it is to one node alone, no other edge that passes leads from there
  pub one_told : (edges : List Edge) (count i j : ℕ) →
      is_one (get_or (noted_all test at other edges (replicate count way.Nowhere)) i way.Nowhere) j ≡ true →
      Arrow edges i j × ((k : ℕ) → Arrow edges i k → k ≡ j)
  one_told edges count i j is =
      ⊎_elim
      (λ (lt : i < count). subst (Tells (Arrow edges i)) (one_is (get_or ways i way.Nowhere) j is) (way_tells edges count i lt))
      (λ (le : count ≤ i).
      let long : length ways ≡ count = length_noted edges (replicate count way.Nowhere) ∙ length-replicate count way.Nowhere in
      let past : get_or ways i way.Nowhere ≡ way.Nowhere = get_or_past ways i way.Nowhere (omega (arith, le, long)) in
      absurd (let wrong : false ≡ true = ap (λ w. is_one w j) (sym past) ∙ is in cc))
      (cases_lt i count)
    where
      ways : List Way
      ways = noted_all test at other edges (replicate count way.Nowhere)
