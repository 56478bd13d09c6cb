-- What the counters of a laid out body keep.
use Rattle.std.proofs.Common.{◌≡◌, ℕ, suc, ◌+◌, ◌-◌, ◌<◌, ◌≤◌, max, List, [], ◌∷◌, ◌++◌, ◌⊎◌, ⊎_elim, length, get_or, refl, ap, sym, subst, ◌∙◌, length-append}
use Rattle.std.proofs.Common.{arith}
use Rattle.std.specs.Prelude.{All, slice_index}
use Rattle.std.proofs.lemmas.Bool.{cases_eq}
use Rattle.std.proofs.lemmas.List.{get_or_append_left, get_or-append-add}
use Rattle.std.proofs.lemmas.List.Elements.{All-append, All-cons, All-get_or, All-nil, All-weaker}
use Rattle.bl_graph_nodes.specs.Plain.{Act, Again, Await, Block, Bodies, Body, Cobegin, Done, If, Last, Plain, Repeat, Run, Then, Until, When, While}
use Rattle.bl_machine.specs.Counters.{AllRestAt, AreApart, BeginsAt, EachRests, RestsAt}
use Rattle.bl_machine.specs.Layout.{counters_in, counters_in_each, counters_of, places_in, places_in_each, resting_places, width_in, width_in_each, width_of}

-- ---- one counter for each place

mutual
  count_of : (s : Plain) (low : ℕ) → length (counters_of s low) ≡ resting_places s
  count_of (Act l s) low = refl
  count_of (Await l at e) low = refl
  count_of (Run l at target a inputs outputs) low = refl
  count_of (If l at e body other) low =
      length-append (counters_in body low) (counters_in other low) ∙ (λ i. count_in body low i + count_in other low i)
  count_of (Cobegin l at bodies) low = count_each bodies low
  count_of (When l at guard e body) low = count_in body low
  count_of (Repeat l at body) low = count_in body low
  count_of (Until l at body e) low = count_in body low
  count_of (While l at e body) low = count_in body low
  count_of (Again l at body e) low = count_in body low

  pub count_in : (body : Block) (low : ℕ) → length (counters_in body low) ≡ places_in body
  count_in Done low = refl
  count_in (Then s rest) low = length-append (counters_of s low) (counters_in rest low) ∙ (λ i. count_of s low i + count_in rest low i)

  count_each : (bodies : Bodies) (low : ℕ) → length (counters_in_each bodies low) ≡ places_in_each bodies
  count_each Last low = refl
  count_each (Body weak body rest) low = one_more _ _ _ _ _ (length-append (counters_in body low) (counters_in_each rest (low + max 1 (width_in body))))
      (count_in body low) (count_each rest (low + max 1 (width_in body)))
    where
      one_more : (all a b m n : ℕ) → all ≡ a + b → a ≡ m → b ≡ n → suc all ≡ suc m + n
      one_more all a b m n e f g = omega arith

-- ---- the counters of what is laid out from one on are that one and those behind it

-- the counter is this one or behind it, and before the other
abbrev pub Within : ℕ → ℕ → ℕ → Type 0
Within low high counter = (low ≤ counter) × (counter < high)

wider : (low low' high high' : ℕ) → low' ≤ low → high ≤ high' → (counter : ℕ) → Within low high counter → Within low' high' counter
wider low low' high high' below above counter h = let a = h.0 in let b = h.1 in (omega arith, omega arith)

joined_within : (low low' high : ℕ) (xs ys : List ℕ) (m n : ℕ) → low ≤ low' → low + m ≤ high → low' + n ≤ high →
    All (Within low (low + m)) xs → All (Within low' (low' + n)) ys → All (Within low high) (xs ++ ys)
joined_within low low' high xs ys m n le a b h k =
    All-append (Within low high) xs ys
    (All-weaker (Within low (low + m)) (Within low high) (wider low low (low + m) high (omega arith) a) xs h)
    (All-weaker (Within low' (low' + n)) (Within low high) (wider low' low (low' + n) high le b) ys k)

mutual
  within_of : (s : Plain) (low : ℕ) → All (Within low (low + width_of s)) (counters_of s low)
  within_of (Act l s) low = All-nil _
  within_of (Await l at e) low = All-cons (Within low (low + 1)) low [] (omega arith, omega arith) (All-nil _)
  within_of (Run l at target a inputs outputs) low = All-cons (Within low (low + 1)) low [] (omega arith, omega arith) (All-nil _)
  within_of (If l at e body other) low =
      joined_within low low (low + max (width_in body) (width_in other)) (counters_in body low) (counters_in other low) (width_in body) (width_in other)
      (omega arith) (omega arith) (omega arith) (within_in body low) (within_in other low)
  within_of (Cobegin l at bodies) low = within_each bodies low
  within_of (When l at guard e body) low = within_in body low
  within_of (Repeat l at body) low = within_in body low
  within_of (Until l at body e) low = within_in body low
  within_of (While l at e body) low = within_in body low
  within_of (Again l at body e) low = within_in body low

  pub within_in : (body : Block) (low : ℕ) → All (Within low (low + width_in body)) (counters_in body low)
  within_in Done low = All-nil _
  within_in (Then s rest) low =
      joined_within low low (low + max (width_of s) (width_in rest)) (counters_of s low) (counters_in rest low) (width_of s) (width_in rest)
      (omega arith) (omega arith) (omega arith) (within_of s low) (within_in rest low)

  within_each : (bodies : Bodies) (low : ℕ) → All (Within low (low + width_in_each bodies)) (counters_in_each bodies low)
  within_each Last low = All-nil _
  within_each (Body weak body rest) low =
      All-cons (Within low (low + (max 1 (width_in body) + width_in_each rest))) low
      (counters_in body low ++ counters_in_each rest (low + max 1 (width_in body))) (omega arith, omega arith)
      (joined_within low (low + max 1 (width_in body)) (low + (max 1 (width_in body) + width_in_each rest)) (counters_in body low)
      (counters_in_each rest (low + max 1 (width_in body))) (width_in body) (width_in_each rest)
      (omega arith) (omega arith) (omega arith) (within_in body low) (within_each rest (low + max 1 (width_in body))))

-- ---- where they rest

-- from the number on the counters are these
abbrev pub Agrees : (ℕ → ℕ) → ℕ → List ℕ → Type 0
Agrees counter first xs = (k : ℕ) → k < length xs → counter (first + k) ≡ get_or xs k 0

agrees_front : (counter : ℕ → ℕ) (first : ℕ) (xs ys : List ℕ) → Agrees counter first (xs ++ ys) → Agrees counter first xs
agrees_front counter first xs ys h k lt =
    let e : length (xs ++ ys) ≡ length xs + length ys = length-append xs ys in
    h k (omega arith) ∙ get_or_append_left xs ys 0 k lt

agrees_back : (counter : ℕ → ℕ) (first n : ℕ) (xs ys : List ℕ) → length xs ≡ n → Agrees counter first (xs ++ ys) →
    Agrees counter (first + n) ys
agrees_back counter first n xs ys is h k lt =
    let e : length (xs ++ ys) ≡ length xs + length ys = length-append xs ys in
    let at : (first + n) + k ≡ first + (length xs + k) = omega arith in
    ap counter at ∙ h (length xs + k) (omega arith) ∙ get_or-append-add xs ys k 0

agrees_head : (counter : ℕ → ℕ) (first x : ℕ) (xs : List ℕ) → Agrees counter first (x ∷ xs) → counter first ≡ x
agrees_head counter first x xs h = let at : first ≡ first + 0 = omega arith in ap counter at ∙ h 0 (omega arith)

agrees_tail : (counter : ℕ → ℕ) (first x : ℕ) (xs : List ℕ) → Agrees counter first (x ∷ xs) → Agrees counter (suc first) xs
agrees_tail counter first x xs h k lt = let at : suc first + k ≡ first + suc k = omega arith in ap counter at ∙ h (suc k) (omega arith)

-- a place from the number on is within the list's bounds
agrees_within : (counter : ℕ → ℕ) (first : ℕ) (xs : List ℕ) (low high i : ℕ) → Agrees counter first xs → All (Within low high) xs →
    first ≤ i → i < first + length xs → Within low high (counter i)
agrees_within counter first xs low high i h all le lt =
    let at : i ≡ first + (i - first) = omega arith in
    let inside : i - first < length xs = omega arith in
    subst (Within low high) (sym (ap counter at ∙ h (i - first) inside)) (All-get_or (Within low high) xs (i - first) 0 inside all)

-- two lists whose counters are apart
apart_by : (counter : ℕ → ℕ) (first n m middle low cut high high' : ℕ) (xs ys : List ℕ) → Agrees counter (suc first) xs →
    Agrees counter middle ys → counter first ≡ low → low < cut → length xs ≡ n → length ys ≡ m → middle ≡ suc first + n → high ≤ cut →
    All (Within low high) xs → All (Within cut high') ys → AreApart counter first middle (middle + m)
apart_by counter first n m middle low cut high high' xs ys front back begins lt one two mid le inner outer i j a b c d same =
    let far = (agrees_within counter middle ys cut high' j back outer c (omega arith)).0 in
    ⊎_elim
    (λ (is : i ≡ first). let e : counter i ≡ low = ap counter is ∙ begins in omega arith)
    (λ (not : i ≡ first → ⊥).
    let near = (agrees_within counter (suc first) xs low high i front inner (omega arith) (omega arith)).1 in omega arith)
    (cases_eq i first)

mutual
  rest_of : (counter : ℕ → ℕ) (s : Plain) (low first : ℕ) → Agrees counter first (counters_of s low) → RestsAt counter low first s
  rest_of counter (Act l s) low first h = tt
  rest_of counter (Await l at e) low first h = agrees_head counter first low [] h
  rest_of counter (Run l at target a inputs outputs) low first h = agrees_head counter first low [] h
  rest_of counter (If l at e body other) low first h = (
    rest_in counter body low first (agrees_front counter first (counters_in body low) (counters_in other low) h),
    rest_in counter other low (first + places_in body)
        (agrees_back counter first (places_in body) (counters_in body low) (counters_in other low) (count_in body low) h),
  )
  rest_of counter (Cobegin l at bodies) low first h = (begins_at counter bodies low first h, rest_each counter bodies low first h)
  rest_of counter (When l at guard e body) low first h = rest_in counter body low first h
  rest_of counter (Repeat l at body) low first h = rest_in counter body low first h
  rest_of counter (Until l at body e) low first h = rest_in counter body low first h
  rest_of counter (While l at e body) low first h = rest_in counter body low first h
  rest_of counter (Again l at body e) low first h = rest_in counter body low first h

  pub rest_in : (counter : ℕ → ℕ) (body : Block) (low first : ℕ) → Agrees counter first (counters_in body low) → AllRestAt counter low first body
  rest_in counter Done low first h = tt
  rest_in counter (Then s rest) low first h = (
    rest_of counter s low first (agrees_front counter first (counters_of s low) (counters_in rest low) h),
    rest_in counter rest low (first + resting_places s)
        (agrees_back counter first (resting_places s) (counters_of s low) (counters_in rest low) (count_of s low) h),
  )

  begins_at : (counter : ℕ → ℕ) (bodies : Bodies) (low first : ℕ) → Agrees counter first (counters_in_each bodies low) →
      BeginsAt counter low first bodies
  begins_at counter Last low first h = tt
  begins_at counter (Body weak body rest) low first h =
      agrees_head counter first low (counters_in body low ++ counters_in_each rest (low + max 1 (width_in body))) h

  rest_each : (counter : ℕ → ℕ) (bodies : Bodies) (low first : ℕ) → Agrees counter first (counters_in_each bodies low) →
      EachRests counter first bodies
  rest_each counter Last low first h = tt
  rest_each counter (Body weak body rest) low first h =
      let others = counters_in_each rest (low + max 1 (width_in body)) in
      let begins : counter first ≡ low = agrees_head counter first low (counters_in body low ++ others) h in
      let inner : Agrees counter (suc first) (counters_in body low ++ others) = agrees_tail counter first low (counters_in body low ++ others) h in
      let front : Agrees counter (suc first) (counters_in body low) = agrees_front counter (suc first) (counters_in body low) others inner in
      let back : Agrees counter (suc first + places_in body) others =
      agrees_back counter (suc first) (places_in body) (counters_in body low) others (count_in body low) inner in (
        subst (λ at. AllRestAt counter at (suc first) body) (sym begins) (rest_in counter body low (suc first) front),
        apart_by counter first (places_in body) (places_in_each rest) (suc first + places_in body) low (low + max 1 (width_in body))
            (low + width_in body) ((low + max 1 (width_in body)) + width_in_each rest) (counters_in body low) others front back begins (omega arith)
            (count_in body low) (count_each rest (low + max 1 (width_in body))) refl (omega arith)
            (within_in body low) (within_each rest (low + max 1 (width_in body))),
        rest_each counter rest (low + max 1 (width_in body)) (suc first + places_in body) back,
      )

-- a body that is laid out from a counter on rests there
pub laid_rests : (body : Block) (low : ℕ) → AllRestAt (slice_index (counters_in body low)) low 0 body
laid_rests body low =
    rest_in (slice_index (counters_in body low)) body low 0
    (λ k lt. let e : 0 + k ≡ k = omega arith in ap (slice_index (counters_in body low)) e)
