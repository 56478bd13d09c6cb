-- Places in a C text and over numbered cells.
use Rattle.std.proofs.Common.{◌≡◌, ℕ, zero, suc, ◌+◌, ◌*◌, ◌≤◌, ◌<◌, ℤ, pos, negsuc, Bool, true, false, not, ◌&&◌, List, [], ◌∷◌, ◌++◌, Option, Some}
use Rattle.std.proofs.Common.{None, refl, ap, sym, subst, ◌∙◌, arith, append-nil, append_assoc, suc-mul, zero-mul, mul_comm}
use Rattle.std.specs.Prelude.{option_map, option_and_then, int_le, int_lt, unwrap_or, nat_lt, ◌==◌, if◌then◌else◌}
use Rattle.std.proofs.lemmas.Int.{ints}
use Rattle.std.proofs.lemmas.Grind.{common_steps}
use Rattle.bl_tree.specs.declared.text.Text.{Text}
use Rattle.bl_tree.specs.declared.place.Place.{Place}
use Rattle.bl_tree.specs.declared.c.CType.{CType}
use Rattle.bl_tree.specs.declared.c.CType.TheVariants.{Scalar as OfScalar, Struct as OfStruct}
use Rattle.bl_tree.specs.declared.c.CMember.{CMember}
use Rattle.bl_ctext_semantics.specs.Builtin.{index_within, only_if}
use Rattle.bl_ctext_semantics.specs.Memory.{Projection, member, element, Location, CValue, Memory, scalar_number, variable}
use Rattle.bl_ctext_semantics.specs.Meaning.{Counted, Evaluates as EvaluatesC, Scope, each_of, element_projection, further, given, indexed, named_location, next as next_c, way_of}
use Rattle.bl_ctext_semantics.specs.Sizes.{Sizes, size_of_type}
use Rattle.bl_ctext_semantics.specs.Tables.{Table, entry_or}
use Rattle.bl_ctext_semantics.specs.Faults.{Context, Fault, Variable, if_typed, indexes, indices, judge_into, judge_length, judge_member, judge_root}
use Rattle.bl_ctext_semantics.specs.Faults.{member_of, pointer_use, unless}
use Rattle.bl_ctext_semantics_laws.specs.Fitting.{whole, spot_if, spot_of, spot_of_length, step_in, walk}
use Rattle.bl_ctext_semantics_laws.specs.Layout.{Slot, capped}
use Rattle.bl_ctext_semantics_laws.specs.Reaching.{Ground, Index, Reach, StepInto, Term, laid_in, near, onward, reach_along, reach_member, start_of_slot, through}
use Rattle.bl_ctext_semantics_laws.specs.Flat.{Cells, Evaluates, FlatAnswer, Routine, address_along, address_of, cell_number, element_address, flat_answer, flat_next, start_address}
use Rattle.bl_ctext_semantics_laws.proofs.Ways.{Lists, Shaped, Stepped, Structs, offset_in, stepped, offset-append, walk-append, walk-within, way_offset}
use Rattle.bl_ctext_semantics_laws.proofs.Standing.{PlacedAt, Stands, World, part-leads, part-offset, placed-below}
use Rattle.bl_ctext_semantics_laws.proofs.Evaluations.{Agree, Matches, along-append, made-agrees, next-agrees}
use Rattle.bl_ctext_semantics_laws.proofs.Running.{LaidAs, NearAt, Running, SlotAs, ThroughAt, Valued}

-- ---- numbers of cells

pub capped-factor : (j at s : ℕ) → capped (at + j * capped s) ≡ capped (at + j * s)
capped-factor zero at s =
    let a = zero-mul (capped s) in
    let b = zero-mul s in
    omega arith
capped-factor (suc j) at s =
    let a = suc-mul j (capped s) in
    let b = suc-mul j s in
    let inner : capped (at + capped s + j * capped s) ≡ capped (at + capped s + j * s) = capped-factor j (at + capped s) s in
    let c : capped (at + suc j * capped s) ≡ capped (at + capped s + j * capped s) = ap capped (omega arith) in
    let d : capped (at + capped s + j * s) ≡ capped (at + suc j * s) = omega arith in
    c ∙ inner ∙ d

capped-product : (j at s : ℕ) → capped (at + capped j * capped s) ≡ capped (at + j * s)
capped-product j at s =
    capped-factor (capped j) at s ∙ ap (λ n. capped (at + n)) (mul_comm (capped j) s) ∙ capped-factor s at j ∙ ap (λ n. capped (at + n)) (mul_comm s j)

-- ---- elements

-- an element of an array of so many, whose first cell is at one
pub record ElementAt (length at size : ℕ) (parts : List Projection) (k : ℕ) : Type 0 where
  pub j : ℕ
  pub is : parts ≡ element j ∷ []
  pub within : j < length
  pub place : k ≡ capped (at + j * size)

element-matches : (length at size : ℕ) (n : ℤ) (b : Bool) → (int_le (pos 0) n && int_lt n (pos length)) ≡ b →
    Matches (ElementAt length at size) (element_projection (only_if b n)) (option_map (λ k. capped (at + cell_number k * capped size)) (only_if b n))
element-matches length at size n false is = tt
element-matches length at size (pos j) true is = record { j = j; is = refl; within = grind (arith, ints); place = capped-product j at size }
element-matches length at size (negsuc j) true is = cc

after-left : (after : Cells) (o : Option ℕ) → flat_next (flat_answer after o) (λ same k. flat_answer same (Some k)) ≡ flat_answer after o
after-left after None = refl
after-left after (Some k) = refl

module _ (known : Sizes) (lists : Lists) (structs : Structs) (shaped : Shaped known lists structs) (limit : ℕ) (context : Context) (scope : Scope)
    (ground : Ground Routine) (chains : Table ℕ)
    (base : ℕ) (w : World) (running : Running known lists structs shaped limit context scope ground chains base w) (memory : Memory) where
  abbrev Stood : Cells → Type 0
  Stood = Stands known lists structs shaped limit w memory

  abbrev Both : {A B : Type 0} → (A → B → Type 0) → Counted A → FlatAnswer B → Type 0
  Both = Agree known lists structs shaped limit w memory

  abbrev Value : Option CType → CValue → ℤ → Type 0
  Value = Valued known lists structs shaped limit w memory

  abbrev Placed : CType → Location → ℕ → Type 0
  Placed ty place k = PlacedAt known lists structs shaped limit w place ty k

  abbrev Offset : CType → List Projection → ℕ
  Offset ty = way_offset known lists structs (Some (whole ty))

  -- ---- indices

  pub record IndexFacts (length : ℕ) (c : EvaluatesC (List Projection)) (f : Index (Evaluates ℤ)) : Type 0 where
    pub same : f.length ≡ length
    pub moves : (term : Term (Evaluates ℤ)) (at size : ℕ) (cells : Cells) → term.length ≡ length → term.size ≡ capped size → Stood cells →
        Both (ElementAt length at size) (c scope memory) (flat_next (f.index base cells) (λ after n. flat_answer after (element_address term at n)))

  index-number : (signed : Bool) (ty : Option CType) (v : CValue) (n : ℤ) → if_typed ty (indexes signed) ≡ true → Value ty v n → scalar_number v ≡ n
  index-number signed None v n h valued = absurd valued
  index-number signed (Some (OfScalar kind)) v n h valued = valued.0
  index-number true (Some (OfStruct name)) v n h valued = cc
  index-number false (Some (OfStruct name)) v n h valued = cc

  pub index-agrees : (signed : Bool) (length : ℕ) (ty : Option CType) (c : EvaluatesC CValue) (f : Evaluates ℤ) →
      if_typed ty (indexes signed) ≡ true →
      ((cells : Cells) → Stood cells → Both (Value ty) (c scope memory) (f base cells)) →
      IndexFacts length (λ s m. next_c (c s m) (λ i. given (element_projection (index_within (scalar_number i) (pos length))))) (record { length = length; index = f })
  index-agrees signed length ty c f typed h = record {
    same = refl;
    moves = λ term at size cells long sized stood.
        next-agrees known lists structs shaped limit w memory (Value ty) (ElementAt length at size) (c scope memory) (f base cells)
        (λ i. given (element_projection (index_within (scalar_number i) (pos length)))) (λ after n. flat_answer after (element_address term at n))
        (h cells stood)
        (λ v n after valued there. record {
          count = refl;
          stands = there;
          answer = subst (λ s. Matches (ElementAt length at size) (element_projection (index_within (scalar_number v) (pos length)))
              (option_map (λ k. capped (at + cell_number k * s)) (index_within n (pos term.length)))) (sym sized)
              (subst (λ l. Matches (ElementAt length at size) (element_projection (index_within (scalar_number v) (pos length)))
              (option_map (λ k. capped (at + cell_number k * capped size)) (index_within n (pos l)))) (sym long)
              (subst (λ x. Matches (ElementAt length at size) (element_projection (index_within x (pos length)))
              (option_map (λ k. capped (at + cell_number k * capped size)) (index_within n (pos length)))) (sym (index-number signed ty v n typed valued))
              (element-matches length at size n (int_le (pos 0) n && int_lt n (pos length)) refl)));
        });
  }

  -- ---- steps

  -- parts that lead from a type to another, at a cell that so many cells follow
  pub record Moved (ty goal : CType) (a b : ℕ) (parts : List Projection) (k : ℕ) : Type 0 where
    pub leads : walk structs (Some (whole ty)) parts ≡ Some (whole goal)
    pub place : k ≡ capped (a + Offset ty parts + b)

  pub record StepFacts (ty : CType) (typed : Option CType) (c : EvaluatesC (List Projection)) (f : Reach (Evaluates ℤ)) : Type 0 where
    pub goal : CType
    pub is : typed ≡ Some goal
    pub reached : f.ty ≡ Some goal
    pub moves : (a b : ℕ) (cells : Cells) → Stood cells →
        Both (Moved ty goal a b) (c scope memory) (address_along f.terms (capped (a + f.passed + b)) base cells)

  not-nil : (x : Fault) (xs : List Fault) → x ∷ xs ≡ [] → ⊥
  not-nil x xs h = cc

  pub sized-type : (ty : CType) → size_of_type ground.sizes ty ≡ capped (size_of_type known ty)
  sized-type (OfScalar kind) = refl
  sized-type (OfStruct name) = ap (λ o. unwrap_or o 0) (running.laying.sized name) ∙ capped-entry (known name)
    where
      capped-entry : (o : Option ℕ) → unwrap_or (option_map capped o) 0 ≡ capped (unwrap_or o 0)
      capped-entry None = refl
      capped-entry (Some n) = refl

  member-in : (struct name : Text) (m : CMember) → member_of context (OfStruct struct) name ≡ Some m →
      option_and_then (λ members. members name) (structs struct) ≡ Some m
  member-in struct name m is = ap (λ t. option_and_then (λ members. members name) (t struct)) (sym running.structs-are) ∙ is

  offset-is : (struct name : Text) (list : List CMember) → lists struct ≡ Some list →
      offset_in known (entry_or [] lists struct) name ≡ offset_in known list name
  offset-is struct name list is = ap (λ o. offset_in known (unwrap_or o []) name) is

  module _ (struct name : Text) (at : Place) (m : CMember) (is : member_of context (OfStruct struct) name ≡ Some m) where
    there : option_and_then (λ members. members name) (structs struct) ≡ Some m
    there = member-in struct name m is

    steps-to : step_in structs (whole (OfStruct struct)) (member name) ≡ Some (spot_of m)
    steps-to = ap spot_if there

    into : Stepped known lists structs shaped struct name (spot_of m)
    into = stepped known lists structs shaped struct name (spot_of m) steps-to

    laid : LaidAs (option_and_then (λ members. members name) (ground.structs struct)) m (offset_in known into.list name)
    laid = running.laying.laid struct name into.list m into.is there

    offset-here : laid.laid.at ≡ capped (offset_in known (entry_or [] lists struct) name)
    offset-here = laid.at ∙ ap capped (sym (offset-is struct name into.list into.is))

    plain : (length : Option ℕ) → m.length ≡ length → (judge_length m.ty length None at).faults ≡ [] →
        StepFacts (OfStruct struct) (judge_length m.ty length None at).ty (indexed name None) (reach_member ground (Some laid.laid) None)
    plain (Some n) long none = absurd (not-nil _ _ none)
    plain None long none = record {
      goal = m.ty;
      is = refl;
      reached = ap (λ x. Some x.ty) laid.it;
      moves = λ a b cells stood. record {
        count = refl;
        stands = stood;
        answer = record {
          leads = steps-to ∙ ap (λ l. Some (spot_of_length m.ty l)) long;
          place = let e = offset-here in omega arith;
        };
      };
    }

    index-with : (length : Option ℕ) (n : ℕ) (c : EvaluatesC (List Projection)) (f : Index (Evaluates ℤ)) → IndexFacts n c f → m.length ≡ length →
        (judge_length m.ty length (Some n) at).faults ≡ [] →
        StepFacts (OfStruct struct) (judge_length m.ty length (Some n) at).ty (indexed name (Some c)) (reach_member ground (Some laid.laid) (Some f))
    index-with None n c f facts long none = absurd (not-nil _ _ none)
    index-with (Some l) n c f facts long none = record {
      goal = m.ty;
      is = refl;
      reached = ap (λ x. Some x.ty) laid.it;
      moves = λ a b cells stood.
          let at : ℕ = capped (a + laid.laid.at + b) in
          let term : Term (Evaluates ℤ) = record { length = f.length; size = size_of_type ground.sizes laid.laid.it.ty; index = f.index } in
          let sized : size_of_type ground.sizes laid.laid.it.ty ≡ capped (size_of_type known m.ty) =
          sized-type laid.laid.it.ty ∙ ap (λ x. capped (size_of_type known x.ty)) laid.it in
          let flat : address_along (term ∷ []) at base cells ≡ flat_next (f.index base cells) (λ after i. flat_answer after (element_address term at i)) =
          ap (flat_next (f.index base cells)) (λ h after i. after-left after (element_address term at i) h) in
          let same : l ≡ n = equal l n none in
          subst (Both (Moved (OfStruct struct) m.ty a b) (next_c (c scope memory) (λ parts. given (Some (member name ∷ parts))))) (sym flat)
          (made-agrees known lists structs shaped limit w memory (ElementAt n at (size_of_type known m.ty)) (Moved (OfStruct struct) m.ty a b) (c scope memory)
          (flat_next (f.index base cells) (λ after i. flat_answer after (element_address term at i))) (λ parts. member name ∷ parts)
          (facts.moves term at (size_of_type known m.ty) cells facts.same sized stood)
          (λ parts k e. record {
            leads = ap (λ ps. walk structs (step_in structs (whole (OfStruct struct)) (member name)) ps) e.is
                ∙ ap (λ o. walk structs o (element e.j ∷ [])) (steps-to ∙ ap (λ x. Some (spot_of_length m.ty x)) long)
                ∙ element-leads e.j l m.ty (nat_lt e.j l) refl (subst (λ x. e.j < x) (sym same) e.within);
            place =
                let o : Offset (OfStruct struct) (member name ∷ parts)
                ≡ offset_in known (entry_or [] lists struct) name + (e.j * size_of_type known m.ty + 0) =
                ap (λ ps. Offset (OfStruct struct) (member name ∷ ps)) e.is
                ∙ ap (λ x. offset_in known (entry_or [] lists struct) name + way_offset known lists structs x (element e.j ∷ []))
                (steps-to ∙ ap (λ x. Some (spot_of_length m.ty x)) long) in
                let h = offset-here in
                let g = e.place in
                omega arith;
          }));
    }
      where
        equal : (l n : ℕ) → unless (l == n) indices at ≡ [] → l ≡ n
        equal l n none = chosen (l == n) refl none
          where
            chosen : (b : Bool) → (l == n) ≡ b → unless b indices at ≡ [] → l ≡ n
            chosen true is none = grind (arith, common_steps)
            chosen false is none = absurd (not-nil _ _ none)

        element-leads : (j l : ℕ) (ty : CType) (b : Bool) → nat_lt j l ≡ b → j < l → (if b then Some (whole ty) else None) ≡ Some (whole ty)
        element-leads j l ty true is h = refl
        element-leads j l ty false is h = absurd (grind (arith, common_steps))

  -- a step without an index
  pub step-plain : (ty : CType) (name : Text) (at : Place) → (judge_into context name None at (Some ty)).faults ≡ [] →
      StepFacts ty (judge_into context name None at (Some ty)).ty (indexed name None) (reach_member ground (laid_in ground (Some ty) name) None)
  step-plain (OfScalar kind) name at none = absurd (not-nil _ _ none)
  step-plain (OfStruct struct) name at none = chosen (member_of context (OfStruct struct) name) refl none
    where
      chosen : (o : Option CMember) → member_of context (OfStruct struct) name ≡ o → (judge_member o None at).faults ≡ [] →
          StepFacts (OfStruct struct) (judge_member o None at).ty (indexed name None) (reach_member ground (laid_in ground (Some (OfStruct struct)) name) None)
      chosen None is none = absurd (not-nil _ _ none)
      chosen (Some m) is none =
          subst (λ o. StepFacts (OfStruct struct) (judge_length m.ty m.length None at).ty (indexed name None) (reach_member ground o None))
          (sym (laid struct name at m is).is)
          (plain struct name at m is m.length refl none)

  -- a step with an index
  pub step-indexed : (ty : CType) (name : Text) (n : ℕ) (c : EvaluatesC (List Projection)) (f : Index (Evaluates ℤ)) (at : Place) → IndexFacts n c f →
      (judge_into context name (Some n) at (Some ty)).faults ≡ [] →
      StepFacts ty (judge_into context name (Some n) at (Some ty)).ty (indexed name (Some c)) (reach_member ground (laid_in ground (Some ty) name) (Some f))
  step-indexed (OfScalar kind) name n c f at facts none = absurd (not-nil _ _ none)
  step-indexed (OfStruct struct) name n c f at facts none = chosen (member_of context (OfStruct struct) name) refl none
    where
      chosen : (o : Option CMember) → member_of context (OfStruct struct) name ≡ o → (judge_member o (Some n) at).faults ≡ [] →
          StepFacts (OfStruct struct) (judge_member o (Some n) at).ty (indexed name (Some c))
          (reach_member ground (laid_in ground (Some (OfStruct struct)) name) (Some f))
      chosen None is none = absurd (not-nil _ _ none)
      chosen (Some m) is none =
          subst (λ o. StepFacts (OfStruct struct) (judge_length m.ty m.length (Some n) at).ty (indexed name (Some c)) (reach_member ground o (Some f)))
          (sym (laid struct name at m is).is)
          (index-with struct name at m is m.length n c f facts refl none)

  -- ---- several steps

  pub record StepsFacts (ty : CType) (typed : Option CType) (c : EvaluatesC (List (List Projection))) (f : List (StepInto Routine (Evaluates ℤ))) : Type 0 where
    pub goal : CType
    pub is : typed ≡ Some goal
    pub passed : ℕ
    pub terms : List (Term (Evaluates ℤ))
    pub start : (r : Reach (Evaluates ℤ)) → (reach_along f ground r).start ≡ r.start
    pub behind : (r : Reach (Evaluates ℤ)) → r.ty ≡ Some ty → capped (reach_along f ground r).passed ≡ capped (r.passed + passed)
    pub further-terms : (r : Reach (Evaluates ℤ)) → r.ty ≡ Some ty → (reach_along f ground r).terms ≡ r.terms ++ terms
    pub reached : (r : Reach (Evaluates ℤ)) → r.ty ≡ Some ty → (reach_along f ground r).ty ≡ Some goal
    pub moves : (a b : ℕ) (cells : Cells) → Stood cells →
        Both (λ ways k. Moved ty goal a b (way_of ways) k) (c scope memory) (address_along terms (capped (a + passed + b)) base cells)

  pub no-steps : (ty : CType) → StepsFacts ty (Some ty) (each_of []) []
  no-steps ty = record {
    goal = ty;
    is = refl;
    passed = 0;
    terms = [];
    start = λ r. refl;
    behind = λ r is. omega arith;
    further-terms = λ r is. sym (append-nil r.terms);
    reached = λ r is. is;
    moves = λ a b cells stood. record { count = refl; stands = stood; answer = record { leads = refl; place = omega arith } };
  }

  -- a step before others
  pub step-before : (ty mid : CType) (typed last : Option CType) (c : EvaluatesC (List Projection)) (cs : List (EvaluatesC (List Projection)))
      (f : StepInto Routine (Evaluates ℤ)) (fs : List (StepInto Routine (Evaluates ℤ)))
      (first : StepFacts ty typed c (f ground (Some ty))) → first.goal ≡ mid → StepsFacts mid last (each_of cs) fs →
      StepsFacts ty last (each_of (c ∷ cs)) (f ∷ fs)
  step-before ty mid typed last c cs f fs first between rest = record {
    goal = rest.goal;
    is = rest.is;
    passed = (f ground (Some ty)).passed + rest.passed;
    terms = (f ground (Some ty)).terms ++ rest.terms;
    start = λ r. rest.start (onward r (f ground r.ty));
    behind = λ r is.
        let e = rest.behind (onward r (f ground r.ty)) (reaches r is) in
        let g : (f ground r.ty).passed ≡ (f ground (Some ty)).passed = ap (λ t. (f ground t).passed) is in
        omega arith;
    further-terms = λ r is. rest.further-terms (onward r (f ground r.ty)) (reaches r is) ∙ ap (λ t. (r.terms ++ (f ground t).terms) ++ rest.terms) is
        ∙ append_assoc r.terms (f ground (Some ty)).terms rest.terms;
    reached = λ r is. rest.reached (onward r (f ground r.ty)) (reaches r is);
    moves = λ a b cells stood.
        let one : ℕ = (f ground (Some ty)).passed in
        let where-to : capped (a + (one + rest.passed) + b) ≡ capped (a + one + (rest.passed + b)) = omega arith in
        subst (Both (λ ways k. Moved ty rest.goal a b (way_of ways) k) (each_of (c ∷ cs) scope memory))
        (sym (ap (λ k. address_along ((f ground (Some ty)).terms ++ rest.terms) k base cells) where-to
        ∙ along-append (f ground (Some ty)).terms rest.terms (capped (a + one + (rest.passed + b))) base cells))
        (next-agrees known lists structs shaped limit w memory (Moved ty first.goal a (rest.passed + b)) (λ ways k. Moved ty rest.goal a b (way_of ways) k)
        (c scope memory)
        (address_along (f ground (Some ty)).terms (capped (a + one + (rest.passed + b))) base cells)
        (λ parts. next_c (each_of cs scope memory) (λ others. given (Some (parts ∷ others)))) (λ same k. address_along rest.terms k base same)
        (first.moves a (rest.passed + b) cells stood)
        (λ parts k after here there.
        let on : k ≡ capped ((a + Offset ty parts) + rest.passed + b) = let p = here.place in omega arith in
        subst (λ x. Both (λ ways j. Moved ty rest.goal a b (way_of ways) j) (next_c (each_of cs scope memory) (λ others. given (Some (parts ∷ others))))
        (address_along rest.terms x base after)) (sym on)
        (made-agrees known lists structs shaped limit w memory (λ ways j. Moved mid rest.goal (a + Offset ty parts) b (way_of ways) j)
        (λ ways j. Moved ty rest.goal a b (way_of ways) j) (each_of cs scope memory)
        (address_along rest.terms (capped ((a + Offset ty parts) + rest.passed + b)) base after) (λ others. parts ∷ others)
        (rest.moves (a + Offset ty parts) b after there)
        (λ ways j m. joined-way a b parts (way_of ways) j first.goal between here.leads m))));
  }
    where
      reaches : (r : Reach (Evaluates ℤ)) → r.ty ≡ Some ty → (f ground r.ty).ty ≡ Some mid
      reaches r is = ap (λ t. (f ground t).ty) is ∙ first.reached ∙ ap Some between

      joined-way : (a b : ℕ) (parts way : List Projection) (j : ℕ) (goal : CType) → goal ≡ mid →
          walk structs (Some (whole ty)) parts ≡ Some (whole goal) →
          Moved mid rest.goal (a + Offset ty parts) b way j → Moved ty rest.goal a b (parts ++ way) j
      joined-way a b parts way j goal same leads m =
          let to : walk structs (Some (whole ty)) parts ≡ Some (whole mid) = leads ∙ ap (λ t. Some (whole t)) same in
          record {
            leads = walk-append known lists structs shaped (Some (whole ty)) parts way ∙ ap (λ o. walk structs o way) to ∙ m.leads;
            place =
                let o = offset-append known lists structs shaped (Some (whole ty)) parts way in
                let e : way_offset known lists structs (walk structs (Some (whole ty)) parts) way ≡ Offset mid way =
                ap (λ x. way_offset known lists structs x way) to in
                let p = m.place in
                omega arith;
          }

  -- ---- whole places

  pub record PlaceFacts (typed : Option CType) (c : Counted Location) (f : Reach (Evaluates ℤ)) : Type 0 where
    pub goal : CType
    pub is : typed ≡ Some goal
    pub reached : f.ty ≡ Some goal
    pub moves : (cells : Cells) → Stood cells → Both (Placed goal) c (address_of f base cells)

  placed-on : (start : Location) (ty goal : CType) (a k : ℕ) (way : List Projection) → Placed ty start a → Moved ty goal a 0 way k →
      Placed goal (further start way) k
  placed-on start ty goal a k way p m = record {
    it = p.it;
    there = p.there;
    leads = part-leads known lists structs shaped limit w start ty a p way ∙ m.leads;
    is =
        let o : p.it.at + way_offset known lists structs (Some (whole p.it.ty)) (start.parts ++ way) ≡ a + Offset ty way =
        part-offset known lists structs shaped limit w start ty a p way in
        let b : a + size_of_type known ty ≤ w.top = placed-below known lists structs shaped limit w start ty a running.separate p in
        let within : Offset ty way + size_of_type known goal ≤ size_of_type known ty =
        walk-within known lists structs shaped (Some (whole ty)) (whole ty) (whole goal) way refl m.leads in
        let l = running.low in
        let s = running.small in
        let e = m.place in
        omega arith;
  }

  -- a place that begins somewhere, and what is known of its beginning
  placed-from : (start : Location) (ty : CType) (typed : Option CType) (c : EvaluatesC (List (List Projection))) (f : List (StepInto Routine (Evaluates ℤ)))
      (r : Reach (Evaluates ℤ)) (a : ℕ) →
      r.ty ≡ Some ty → r.passed ≡ 0 → r.terms ≡ [] → Placed ty start a →
      ((cells : Cells) → Stood cells → capped (start_address r.start base cells) ≡ a) →
      StepsFacts ty typed c f →
      PlaceFacts typed (next_c (c scope memory) (λ ways. given (Some (further start (way_of ways))))) (reach_along f ground r)
  placed-from start ty typed c f r a is passed none p begins facts = record {
    goal = facts.goal;
    is = facts.is;
    reached = facts.reached r is;
    moves = λ cells stood.
        let terms : (reach_along f ground r).terms ≡ facts.terms = facts.further-terms r is ∙ ap (λ t. t ++ facts.terms) none in
        let at : capped (start_address (reach_along f ground r).start base cells + (reach_along f ground r).passed) ≡ capped (a + facts.passed + 0) =
        let s : start_address (reach_along f ground r).start base cells ≡ start_address r.start base cells =
        ap (λ x. start_address x base cells) (facts.start r) in
        let b = begins cells stood in
        let q = facts.behind r is in
        omega arith in
        subst (Both (Placed facts.goal) (next_c (c scope memory) (λ ways. given (Some (further start (way_of ways))))))
        (sym (ap (λ t. address_along t (capped (start_address (reach_along f ground r).start base cells + (reach_along f ground r).passed)) base cells) terms
        ∙ ap (λ k. address_along facts.terms k base cells) at))
        (made-agrees known lists structs shaped limit w memory (λ ways k. Moved ty facts.goal a 0 (way_of ways) k) (Placed facts.goal) (c scope memory)
        (address_along facts.terms (capped (a + facts.passed + 0)) base cells) (λ ways. further start (way_of ways)) (facts.moves a 0 cells stood)
        (λ ways k m. placed-on start ty facts.goal a k (way_of ways) p m));
  }

  pub place-agrees : (through-it : Bool) (name : Text) (at : Place) (c : EvaluatesC (List (List Projection))) (f : List (StepInto Routine (Evaluates ℤ)))
      (typed : Option CType → Option CType) →
      (judge_root (context.variables name) through-it at).faults ≡ [] →
      ((ty : CType) → (judge_root (context.variables name) through-it at).ty ≡ Some ty → StepsFacts ty (typed (Some ty)) c f) →
      PlaceFacts (typed (judge_root (context.variables name) through-it at).ty)
      (next_c (c scope memory) (λ ways. given (Some (further (named_location scope through-it name) (way_of ways)))))
      (reach_along f ground (start_of_slot (ground.slots name)))
  place-agrees through-it name at c f typed none steps = chosen (context.variables name) refl none steps
    where
      near-place : (v : Variable) (slot : Slot) → slot.ty ≡ v.ty → ground.slots name ≡ Some slot →
          NearAt known lists structs shaped limit w scope.depth base v.ty name slot → StepsFacts v.ty (typed (Some v.ty)) c f →
          PlaceFacts (typed (Some v.ty)) (next_c (c scope memory) (λ ways. given (Some (further (named_location scope false name) (way_of ways)))))
          (reach_along f ground (start_of_slot (ground.slots name)))
      near-place v slot ty is stands facts =
          let p : Placed v.ty (named_location scope false name) (base + slot.at) =
          record { it = record { at = base + slot.at; ty = v.ty }; there = stands.stands; leads = refl; is = omega arith } in
          let b : base + slot.at + size_of_type known v.ty ≤ w.top =
          placed-below known lists structs shaped limit w (named_location scope false name) v.ty (base + slot.at) running.separate p in
          let l = running.low in
          let s = running.small in
          subst (λ o. PlaceFacts (typed (Some v.ty)) (next_c (c scope memory) (λ ways. given (Some (further (named_location scope false name) (way_of ways)))))
          (reach_along f ground (start_of_slot o))) (sym is)
          (placed-from (named_location scope false name) v.ty (typed (Some v.ty)) c f (start_of_slot (Some slot)) (base + slot.at) (ap Some ty) refl refl p
          (λ cells stood. ap (λ q. capped (start_address (if q then through slot.at else near slot.at) base cells)) stands.plain ∙ omega arith) facts)

      through-place : (v : Variable) (slot : Slot) → slot.ty ≡ v.ty → ground.slots name ≡ Some slot →
          ThroughAt known lists structs shaped limit w base v.ty (scope.pointers name) slot → StepsFacts v.ty (typed (Some v.ty)) c f →
          PlaceFacts (typed (Some v.ty)) (next_c (c scope memory) (λ ways. given (Some (further (named_location scope true name) (way_of ways)))))
          (reach_along f ground (start_of_slot (ground.slots name)))
      through-place v slot ty is stands facts =
          let begin : named_location scope true name ≡ stands.place =
          ap (λ o. unwrap_or o (record { root = variable scope.depth name; parts = [] })) stands.is in
          let b : stands.k + size_of_type known v.ty ≤ w.top =
          placed-below known lists structs shaped limit w stands.place v.ty stands.k running.separate stands.placed in
          let l = running.low in
          let s = running.small in
          let small : capped stands.k ≡ stands.k = omega arith in
          subst (λ o. PlaceFacts (typed (Some v.ty)) (next_c (c scope memory) (λ ways. given (Some (further (named_location scope true name) (way_of ways)))))
          (reach_along f ground (start_of_slot o))) (sym is)
          (subst (λ x. PlaceFacts (typed (Some v.ty)) (next_c (c scope memory) (λ ways. given (Some (further x (way_of ways)))))
          (reach_along f ground (start_of_slot (Some slot)))) (sym begin)
          (placed-from stands.place v.ty (typed (Some v.ty)) c f (start_of_slot (Some slot)) stands.k (ap Some ty) refl refl stands.placed
          (λ cells stood. ap (λ q. capped (start_address (if q then through slot.at else near slot.at) base cells)) stands.leads
          ∙ ap (λ n. capped (cell_number n)) (stands.kept cells stood.kept) ∙ ap capped small ∙ small) facts))

      right : (v : Variable) (p : Bool) → v.pointer ≡ p → (slot : Slot) → slot.ty ≡ v.ty → ground.slots name ≡ Some slot →
          SlotAs known lists structs shaped limit w scope.depth base p v.ty (scope.pointers name) name slot → (b : Bool) → (r : Bool) →
          (if p then b else not b) ≡ r →
          unless r pointer_use at ≡ [] → ((ty : CType) → (if r then Some v.ty else None) ≡ Some ty → StepsFacts ty (typed (Some ty)) c f) →
          PlaceFacts (typed (if r then Some v.ty else None))
          (next_c (c scope memory) (λ ways. given (Some (further (named_location scope b name) (way_of ways)))))
          (reach_along f ground (start_of_slot (ground.slots name)))
      right v p is slot ty there stands b false holds none steps = absurd (not-nil _ _ none)
      right v true is slot ty there stands true true holds none steps = through-place v slot ty there stands (steps v.ty refl)
      right v true is slot ty there stands false true holds none steps = cc
      right v false is slot ty there stands false true holds none steps = near-place v slot ty there stands (steps v.ty refl)
      right v false is slot ty there stands true true holds none steps = cc

      chosen : (o : Option Variable) → context.variables name ≡ o → (judge_root o through-it at).faults ≡ [] →
          ((ty : CType) → (judge_root o through-it at).ty ≡ Some ty → StepsFacts ty (typed (Some ty)) c f) →
          PlaceFacts (typed (judge_root o through-it at).ty)
          (next_c (c scope memory) (λ ways. given (Some (further (named_location scope through-it name) (way_of ways)))))
          (reach_along f ground (start_of_slot (ground.slots name)))
      chosen None is none steps = absurd (not-nil _ _ none)
      chosen (Some v) is none steps =
          let known-as = running.variables name v is in
          right v v.pointer refl known-as.slot known-as.ty known-as.is known-as.stands through-it (if v.pointer then through-it else not through-it) refl none
          steps
