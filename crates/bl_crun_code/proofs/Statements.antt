-- The code of a statement that stands alone, or that chooses, does what the statement does.
use Rattle.std.proofs.Common.{◌≡◌, ◌≤◌, ℕ, suc, ◌+◌, ℤ, pos, Bool, true, false, List, [], ◌∷◌, ◌++◌, length, Option, Some, None, refl, ap, sym, ◌∙◌, subst}
use Rattle.std.proofs.Common.{add-zero, append-nil, append_assoc, length-append, arith}
use Rattle.std.specs.Prelude.{◌&&◌, slice_set, if◌then◌else◌}
use Rattle.bl_tree.proofs.Basics.{and_first, and_second}
use Rattle.bl_tree.specs.declared.c.CType.{CType}
use Rattle.bl_tree.specs.declared.c.CType.TheVariants.{Scalar as OfScalar, Struct as OfStruct}
use Rattle.bl_tree.specs.Numbers.{is_one}
use Rattle.bl_ctext_semantics.specs.Course.{End, Outcome, breaks, ended_by, ending, following, following_end, goes_on, going, returns, traps}
use Rattle.bl_ctext_semantics.specs.Sizes.{Sizes}
use Rattle.bl_ctext_semantics.specs.Tables.{entry_or}
use Rattle.bl_ctext_semantics_laws.specs.Flat.{Cells, Evaluates, FlatAnswer, FlatStmtMeaning, Routine, address_of, cell_number, copied, executed, flat_answer, flat_next}
use Rattle.bl_ctext_semantics_laws.specs.Flat.{written_at, zeroed}
use Rattle.bl_ctext_semantics_laws.specs.Layout.{capped}
use Rattle.bl_ctext_semantics_laws.specs.Reaching.{Ground, Reach}
use Rattle.bl_crun_code.specs.declared.instruction.Act.{Act}
use Rattle.bl_crun_code.specs.declared.instruction.Act.TheVariants as act
use Rattle.bl_crun_code.specs.declared.instruction.Caller.{Caller}
use Rattle.bl_crun_code.specs.declared.instruction.Operand.TheVariants as op
use Rattle.bl_crun_code.specs.Code.{Code, Ready, Valued, address_in, before_else, with_begun, clear_code, depth_behind, else_code, ending_with, if_code, uncounted}
use Rattle.bl_crun_code.specs.Code.{reach_calm, reach_ready, return_code, set_code}
use Rattle.bl_crun_code.specs.Vm.{StepResult, caller_resumed, operand_number, trapped}
use Rattle.bl_crun_code.specs.Laws.{Arrives}
use Rattle.bl_crun_code.proofs.Runs.{After, Fits, From, Goes, GoesOn, Kept, Run, Span, acts, arrives-now, begun-front, begun-zero, fits-fewer, fits-to}
use Rattle.bl_crun_code.proofs.Runs.{goes-next, kept-all, kept-set, kept-then, span-back, span-front, span-is, span-none, span-tail, st}
use Rattle.bl_crun_code.proofs.Parts.{DueGives, DueTests, DueWrites, Values, behind-more, held}
use Rattle.bl_crun_code.proofs.Places.{PlaceIs, Spots, address-behind, address-capped, is-capped, spot-written}
use Rattle.bl_crun_code.proofs.Calls.{back_with}

-- ---- ends

-- what is due at a position where a statement ends, with so much code up to the end of the loop around it
abbrev pub Ends : Run → StepResult → ℕ → ℕ → Cells → List ℤ → ℕ → End → Type 0
Ends r end at left cells temps n goes_on = Arrives r.code (st r at cells temps n) end
Ends r end at left cells temps n breaks = Arrives r.code (st r (at + left) cells temps n) end
Ends r end at left cells temps n (returns result) = After r.code (back_with cells temps r.room n result r.callers) end
Ends r end at left cells temps n traps = After r.code (trapped cells n) end

-- what is due behind an outcome
abbrev pub Left : Run → StepResult → ℕ → List ℤ → ℕ → ℕ → ℕ → Outcome Cells → Type 0
Left r end depth temps q left count o = (after : List ℤ) → Kept r depth temps after → Ends r end q left o.memory after (count + o.count) o.end

-- it does what a statement does, where so many instructions stand behind it up to the end of the loop around it
pub record Performs (r : Run) (depth left : ℕ) (part : Code) (run : ℕ → Cells → Outcome Cells) : Type 0 where
  pub runs : (p q : ℕ) (cells : Cells) (temps : List ℤ) (count : ℕ) (end : StepResult) → Span r.code p part q → Fits r depth (length part) temps →
      Left r end depth temps q left count (run r.base cells) → Arrives r.code (st r p cells temps count) end

execution-at : {A : Type 0} (r : Run) (depth q left own : ℕ) (temps : List ℤ) (count : ℕ) (end : StepResult) (cells : Cells) (n : ℕ) (answer : Option A)
    (rest : A → Outcome Cells) (First : Cells → ℕ → A → Type 0) → Left r end depth temps q left count (ended_by cells (own + n) answer rest) →
    ((a : A) → answer ≡ Some a → Left r end depth temps q left (count + own + n) (rest a) → First cells (count + own + n) a) →
    Goes r.code end First cells (count + own + n) answer
execution-at r depth q left own temps count end cells n None rest First due f =
    let counts : count + (own + n) ≡ count + own + n = omega arith in
    subst (λ k. After r.code (trapped cells k) end) counts (due temps (kept-all r depth temps))
execution-at r depth q left own temps count end cells n (Some a) rest First due f =
    let counts : count + (own + n + (rest a).count) ≡ count + own + n + (rest a).count = omega arith in
    f a refl (λ after kept. subst (λ k. Ends r end q left (rest a).memory after k (rest a).end) counts (due after kept))

-- an evaluation, and what is done with its answer
pub execution : {A : Type 0} (r : Run) (depth q left own : ℕ) (temps : List ℤ) (count : ℕ) (end : StepResult) (l : FlatAnswer A)
    (rest : Cells → A → Outcome Cells) (First : Cells → ℕ → A → Type 0) → Left r end depth temps q left count (executed own l rest) →
    ((a : A) → l.answer ≡ Some a → Left r end depth temps q left (count + own + l.count) (rest l.cells a) → First l.cells (count + own + l.count) a) →
    GoesOn r.code end First (count + own) l
execution r depth q left own temps count end l rest First due f = execution-at r depth q left own temps count end l.cells l.count l.answer (rest l.cells) First due f

-- a statement begins
starts : (r : Run) (p : ℕ) (cells : Cells) (temps : List ℤ) (count : ℕ) (end : StepResult) → From r 1 p cells temps (count + 1) end →
    Arrives r.code (st r p cells temps count) end
starts r p cells temps count end h = h count refl

-- the code of a statement, with nothing behind it
alone : (r : Run) (p : ℕ) (part : Code) (q : ℕ) → Span r.code p (with_begun 1 part) q → Span r.code p (with_begun 1 (part ++ [])) q
alone r p part q span = span-is r.code p _ _ q (ap (with_begun 1) (sym (append-nil part))) span

begun-long : (n : ℕ) (part : Code) → length (with_begun n part) ≡ length part
begun-long n [] = refl
begun-long n (i ∷ rest) = refl

fits-begun : (r : Run) (depth n : ℕ) (part : Code) (temps : List ℤ) → Fits r depth (length (with_begun n part)) temps → Fits r depth (length part) temps
fits-begun r depth n part temps h = subst (λ k. Fits r depth k temps) (begun-long n part) h

ends-begun : (r : Run) (p n : ℕ) (part : Code) (q : ℕ) → Span r.code p (with_begun n part) q → p + length part ≡ q
ends-begun r p n part q span = ap (λ k. p + k) (sym (begun-long n part)) ∙ span.ends

-- the function that waits goes on
pub resumed-is : (base at : ℕ) (cells : Cells) (temps : List ℤ) (room count : ℕ) (result : ℤ) (others callers : List Caller) →
    caller_resumed (record { at = at; base = base; cells = cells; temps = temps; callers = others; room = room; count = count }) result callers
    ≡ back_with cells temps room count result callers
resumed-is base at cells temps room count result others [] = refl
resumed-is base at cells temps room count result others (w ∷ rest) = refl

-- ---- statements that write

module _ (r : Run) (depth left : ℕ) where
  abbrev S : Code → (ℕ → Cells → Outcome Cells) → Type 0
  S = Performs r depth left

  -- nothing but the next statement is due
  abbrev Then : StepResult → List ℤ → ℕ → Cells → ℕ → ℤ → Type 0
  Then end temps q c n v = (after : List ℤ) → Kept r depth temps after → Arrives r.code (st r q c after n) end

  then-goes : (end : StepResult) (temps : List ℤ) (q count : ℕ) (cells : Cells) (v : ℤ) → Left r end depth temps q left count (going cells) →
      Then end temps q cells count v
  then-goes end temps q count cells v due after kept = subst (λ n. Arrives r.code (st r q cells after n) end) (add-zero count) (due after kept)

  module _ (reach : Reach Valued) (u : Reach (Evaluates ℤ)) (hp : Spots r reach u) (w : Valued) (g : Evaluates ℤ) (hw : Values r w g) where
    abbrev late : Bool
    late = reach_calm reach && w.calm

    abbrev place : Ready
    place = reach_ready reach late depth

    abbrev deeper : ℕ
    deeper = depth_behind depth place.it

    quiet-place : late ≡ true → reach_calm reach ≡ true
    quiet-place is = and_first (reach_calm reach) w.calm is

    quiet-value : late ≡ true → w.calm ≡ true
    quiet-value is = and_second (reach_calm reach) w.calm is

    -- the place still is where it was
    stays : (cells later : Cells) (temps after : List ℤ) (k : ℕ) → operand_number r.base cells temps (address_in place.it) ≡ pos k → later ≡ (g r.base cells).cells →
        Kept r deeper temps after → r.top ≤ depth → operand_number r.base later after (address_in place.it) ≡ pos k
    stays cells later temps after k is same kept low =
        held late r depth (address_in place.it) (hp.holds late depth) r.base cells later temps after
        (λ now. same ∙ hw.keeps (quiet-value now) r.base cells)
        (subst (λ d. Kept r d temps after) (sym (address-behind depth place.it)) kept) low ∙ is

    -- the number of a value is written
    scalar-performs : S (with_begun 1 (place.code ++ w.into late deeper place.it))
        (λ base cells. executed 1 (flat_next (address_of u base cells) (λ c k. flat_next (g base c) (λ d v. flat_answer (slice_set d k v) (Some v))))
        (λ c v. going c))
    scalar-performs = record {
      runs = λ p q cells temps count end span fits due.
          let first : Code = place.code in
          let last : Code = w.into late deeper place.it in
          let l : FlatAnswer ℕ = address_of u r.base cells in
          let whole : length (first ++ last) ≡ length first + length last = length-append first last in
          let ends : p + length (first ++ last) ≡ q = ends-begun r p 1 (first ++ last) q span in
          let over : p + length first + length last ≡ q = omega arith in
          let within : Fits r depth (length (first ++ last)) temps = fits-begun r depth 1 (first ++ last) temps fits in
          let deep : deeper ≤ depth + length first = hp.deep late depth in
          let more : depth ≤ deeper = behind-more depth place.it in
          let low : r.top ≤ depth = fits.low in
          let all : FlatAnswer ℤ = flat_next l (λ c k. flat_next (g r.base c) (λ d v. flat_answer (slice_set d k v) (Some v))) in
          starts r p cells temps count end
          (hp.gives late depth quiet-place p 1 q (last ++ []) cells temps (count + 1) end
          (span-is r.code p _ _ q (ap (with_begun 1) (append_assoc first last [])) (alone r p (first ++ last) q span))
          (fits-fewer r depth (length (first ++ last)) (length first) temps within (omega arith))
          (goes-next r end (DueGives r depth (PlaceIs r place.it) (p + length first) q (last ++ []) temps end) (Then end temps q) (count + 1) l
          (λ c k. flat_next (g r.base c) (λ d v. flat_answer (slice_set d k v) (Some v)))
          (execution r depth q left 1 temps count end all (λ c v. going c) (Then end temps q) due
          (λ v found due'. then-goes end temps q (count + 1 + all.count) all.cells v due'))
          (λ k found due' after m' kept is here.
          let e : FlatAnswer ℤ = g r.base l.cells in
          hw.into late deeper place.it quiet-value (p + length first) m' q [] l.cells after (count + 1 + l.count) end here
          (fits-to r depth (length (first ++ last)) temps deeper (length last) after within kept.long more (omega arith))
          (goes-next r end (DueWrites r deeper place.it (p + length first + length last) q [] after end) (Then end temps q) (count + 1 + l.count) e
          (λ d v. flat_answer (slice_set d k v) (Some v)) due'
          (λ v found' due'' after' kept' here'.
          let n : ℕ = count + 1 + l.count + e.count in
          let small : capped k ≡ k = is-capped l.answer k (address-capped u r.base cells) found in
          let there : operand_number r.base e.cells after' (address_in place.it) ≡ pos k = stays l.cells e.cells after after' k is refl kept' low in
          let wrote : Arrives r.code (st r q (slice_set e.cells k v) after' n) end =
          subst (λ j. Arrives r.code (st r q (slice_set e.cells k v) after' j) end) (add-zero n)
          (due'' after' (kept-then r depth deeper temps after after' kept kept' more)) in
          subst (λ s. Arrives r.code s end) (sym (spot-written place.it (hp.spot late depth) (st r (p + length first + length last) e.cells after' n) k v small there))
          (subst (λ x. Arrives r.code (st r x (slice_set e.cells k v) after' n) end) (sym over) wrote))))));
    }

    -- a struct is copied
    struct-performs : (size : ℕ) →
        S (with_begun 1 (place.code ++ ending_with (w.ready late deeper) (λ from. act.Copy (address_in place.it) from size)))
        (λ base cells. executed 1 (flat_next (address_of u base cells)
        (λ c k. flat_next (g base c) (λ d v. flat_answer (copied size (cell_number v) k d) (Some v)))) (λ c v. going c))
    struct-performs size = record {
      runs = λ p q cells temps count end span fits due.
          let first : Code = place.code in
          let from : Ready = w.ready late deeper in
          let copy : Act = act.Copy (address_in place.it) from.it size in
          let last : Code = from.code ++ uncounted copy ∷ [] in
          let l : FlatAnswer ℕ = address_of u r.base cells in
          let whole : length (first ++ last) ≡ length first + length last = length-append first last in
          let longer : length last ≡ length from.code + 1 = length-append from.code (uncounted copy ∷ []) in
          let ends : p + length (first ++ last) ≡ q = ends-begun r p 1 (first ++ last) q span in
          let over : p + length first + length from.code + 1 ≡ q = omega arith in
          let within : Fits r depth (length (first ++ last)) temps = fits-begun r depth 1 (first ++ last) temps fits in
          let deep : deeper ≤ depth + length first = hp.deep late depth in
          let more : depth ≤ deeper = behind-more depth place.it in
          let low : r.top ≤ depth = fits.low in
          let all : FlatAnswer ℤ = flat_next l (λ c k. flat_next (g r.base c) (λ d v. flat_answer (copied size (cell_number v) k d) (Some v))) in
          starts r p cells temps count end
          (hp.gives late depth quiet-place p 1 q (last ++ []) cells temps (count + 1) end
          (span-is r.code p _ _ q (ap (with_begun 1) (append_assoc first last [])) (alone r p (first ++ last) q span))
          (fits-fewer r depth (length (first ++ last)) (length first) temps within (omega arith))
          (goes-next r end (DueGives r depth (PlaceIs r place.it) (p + length first) q (last ++ []) temps end) (Then end temps q) (count + 1) l
          (λ c k. flat_next (g r.base c) (λ d v. flat_answer (copied size (cell_number v) k d) (Some v)))
          (execution r depth q left 1 temps count end all (λ c v. going c) (Then end temps q) due
          (λ v found due'. then-goes end temps q (count + 1 + all.count) all.cells v due'))
          (λ k found due' after m' kept is here.
          let e : FlatAnswer ℤ = g r.base l.cells in
          hw.ready late deeper quiet-value (p + length first) m' q (uncounted copy ∷ []) l.cells after (count + 1 + l.count) end
          (span-is r.code (p + length first) _ _ q (ap (with_begun m') (append-nil last)) here)
          (fits-to r depth (length (first ++ last)) temps deeper (length from.code) after within kept.long more (omega arith))
          (goes-next r end (DueGives r deeper (λ cells temps v. operand_number r.base cells temps from.it ≡ v) (p + length first + length from.code) q (uncounted copy ∷ [])
          after end) (Then end temps q) (count + 1 + l.count) e
          (λ d v. flat_answer (copied size (cell_number v) k d) (Some v)) due'
          (λ v found' due'' after' m'' kept' is' here'.
          let n : ℕ = count + 1 + l.count + e.count in
          let small : capped k ≡ k = is-capped l.answer k (address-capped u r.base cells) found in
          let there : operand_number r.base e.cells after' (address_in place.it) ≡ pos k = stays l.cells e.cells after after' k is refl kept' low in
          let at : cell_number (operand_number r.base e.cells after' (address_in place.it)) ≡ k = ap cell_number there ∙ small in
          let wrote : Arrives r.code (st r q (copied size (cell_number v) k e.cells) after' n) end =
          subst (λ j. Arrives r.code (st r q (copied size (cell_number v) k e.cells) after' j) end) (add-zero n)
          (due'' after' (kept-then r depth deeper temps after after' kept kept' more)) in
          acts r (p + length first + length from.code) m'' q copy [] e.cells after' n end here'
          (subst (λ x. Arrives r.code (st r (p + length first + length from.code + 1)
          (copied size (cell_number x) (cell_number (operand_number r.base e.cells after' (address_in place.it))) e.cells) after' n) end) (sym is')
          (subst (λ j. Arrives r.code (st r (p + length first + length from.code + 1) (copied size (cell_number v) j e.cells) after' n) end) (sym at)
          (subst (λ x. Arrives r.code (st r x (copied size (cell_number v) k e.cells) after' n) end) (sym over) wrote))))))));
    }

    -- a value is written at a place of a type
    pub set-performs : (known : Sizes) (ty : Option CType) → S (with_begun 1 (set_code known ty reach w late depth))
        (λ base cells. executed 1 (flat_next (address_of u base cells) (λ c k. flat_next (g base c) (λ d v. flat_answer (written_at known ty k v d) (Some v))))
        (λ c v. going c))
    set-performs known None = scalar-performs
    set-performs known (Some (OfScalar s)) = scalar-performs
    set-performs known (Some (OfStruct name)) = struct-performs (entry_or 0 known name)

  pub clear-performs : (size : ℕ) (reach : Reach Valued) (u : Reach (Evaluates ℤ)) → Spots r reach u → S (with_begun 1 (clear_code size reach depth))
      (λ base cells. executed 1 (address_of u base cells) (λ c k. going (zeroed size k c)))
  clear-performs size reach u hp = record {
    runs = λ p q cells temps count end span fits due.
        let place : Ready = reach_ready reach (reach_calm reach) depth in
        let first : Code = place.code in
        let zero : Act = act.Zero (address_in place.it) size in
        let l : FlatAnswer ℕ = address_of u r.base cells in
        let whole : length (first ++ uncounted zero ∷ []) ≡ length first + 1 = length-append first (uncounted zero ∷ []) in
        let ends : p + length (first ++ uncounted zero ∷ []) ≡ q = ends-begun r p 1 (first ++ uncounted zero ∷ []) q span in
        let over : p + length first + 1 ≡ q = omega arith in
        let within : Fits r depth (length (first ++ uncounted zero ∷ [])) temps = fits-begun r depth 1 (first ++ uncounted zero ∷ []) temps fits in
        starts r p cells temps count end
        (hp.gives (reach_calm reach) depth (λ is. is) p 1 q (uncounted zero ∷ []) cells temps (count + 1) end span
        (fits-fewer r depth (length (first ++ uncounted zero ∷ [])) (length first) temps within (omega arith))
        (execution r depth q left 1 temps count end l (λ c k. going (zeroed size k c))
        (DueGives r depth (PlaceIs r place.it) (p + length first) q (uncounted zero ∷ []) temps end) due
        (λ k found due' after m' kept is here.
        let n : ℕ = count + 1 + l.count in
        let small : capped k ≡ k = is-capped l.answer k (address-capped u r.base cells) found in
        let at : cell_number (operand_number r.base l.cells after (address_in place.it)) ≡ k = ap cell_number is ∙ small in
        let wrote : Arrives r.code (st r q (zeroed size k l.cells) after n) end =
        subst (λ j. Arrives r.code (st r q (zeroed size k l.cells) after j) end) (add-zero n) (due' after kept) in
        acts r (p + length first) m' q zero [] l.cells after n end here
        (subst (λ j. Arrives r.code (st r (p + length first + 1) (zeroed size j l.cells) after n) end) (sym at)
        (subst (λ x. Arrives r.code (st r x (zeroed size k l.cells) after n) end) (sym over) wrote)))));
  }

  -- ---- statements that evaluate

  pub call-performs : (w : Valued) (f : Evaluates ℤ) → Values r w f → S (with_begun 1 (w.into w.calm depth (op.Temporary depth)))
      (λ base cells. executed 1 (f base cells) (λ c v. going c))
  call-performs w f h = record {
    runs = λ p q cells temps count end span fits due.
        let part : Code = w.into w.calm depth (op.Temporary depth) in
        let within : Fits r depth (length part) temps = fits-begun r depth 1 part temps fits in
        let high : depth + length part ≤ r.temps = within.high in
        let some : 1 ≤ length part = h.filled w.calm depth (op.Temporary depth) in
        let l : FlatAnswer ℤ = f r.base cells in
        let over : p + length part ≡ q = ends-begun r p 1 part q span in
        starts r p cells temps count end
        (h.into w.calm depth (op.Temporary depth) (λ is. is) p 1 q [] cells temps (count + 1) end (alone r p part q span) within
        (execution r depth q left 1 temps count end l (λ c v. going c) (DueWrites r depth (op.Temporary depth) (p + length part) q [] temps end) due
        (λ v found due' after kept here.
        let n : ℕ = count + 1 + l.count in
        let wrote : Arrives r.code (st r q l.cells (slice_set after depth v) n) end =
        subst (λ j. Arrives r.code (st r q l.cells (slice_set after depth v) j) end) (add-zero n)
        (due' (slice_set after depth v) (kept-set r depth depth temps after v kept (omega arith) (omega arith))) in
        subst (λ x. Arrives r.code (st r x l.cells (slice_set after depth v) n) end) (sym over) wrote)));
  }

  pub return-performs : (w : Valued) (f : Evaluates ℤ) → Values r w f → S (with_begun 1 (return_code w depth))
      (λ base cells. executed 1 (f base cells) (λ c v. ending (returns v) c))
  return-performs w f h = record {
    runs = λ p q cells temps count end span fits due.
        let it : Ready = w.ready w.calm depth in
        let first : Code = it.code in
        let back : Act = act.Return it.it in
        let l : FlatAnswer ℤ = f r.base cells in
        let whole : length (first ++ uncounted back ∷ []) ≡ length first + 1 = length-append first (uncounted back ∷ []) in
        let within : Fits r depth (length (first ++ uncounted back ∷ [])) temps = fits-begun r depth 1 (first ++ uncounted back ∷ []) temps fits in
        starts r p cells temps count end
        (h.ready w.calm depth (λ is. is) p 1 q (uncounted back ∷ []) cells temps (count + 1) end span
        (fits-fewer r depth (length (first ++ uncounted back ∷ [])) (length first) temps within (omega arith))
        (execution r depth q left 1 temps count end l (λ c v. ending (returns v) c)
        (DueGives r depth (λ cells temps v. operand_number r.base cells temps it.it ≡ v) (p + length first) q (uncounted back ∷ []) temps end) due
        (λ v found due' after m' kept is here.
        let n : ℕ = count + 1 + l.count in
        acts r (p + length first) m' q back [] l.cells after n end here
        (subst (λ x. After r.code (caller_resumed (st r (p + length first) l.cells after n) x r.callers) end) (sym is)
        (subst (λ x. After r.code x end) (sym (resumed-is r.base (p + length first) l.cells after r.room n v r.callers r.callers))
        (subst (λ j. After r.code (back_with l.cells after r.room j v r.callers) end) (add-zero n) (due' after kept)))))));
  }

  -- 0 is returned
  pub zero-returned : (p m q : ℕ) (rest : Code) (cells : Cells) (temps : List ℤ) (count : ℕ) (end : StepResult) →
      Span r.code p (with_begun m (uncounted (act.Return (op.Literal (pos 0))) ∷ rest)) q → After r.code (back_with cells temps r.room count (pos 0) r.callers) end →
      From r m p cells temps count end
  zero-returned p m q rest cells temps count end span due =
      acts r p m q (act.Return (op.Literal (pos 0))) rest cells temps count end span
      (subst (λ x. After r.code x end) (sym (resumed-is r.base p cells temps r.room count (pos 0) r.callers r.callers)) due)

  pub bare-return-performs : S (with_begun 1 (uncounted (act.Return (op.Literal (pos 0))) ∷ []))
      (λ base cells. record { memory = cells; end = returns (pos 0); count = 1 })
  bare-return-performs = record {
    runs = λ p q cells temps count end span fits due.
        starts r p cells temps count end (zero-returned p 1 q [] cells temps (count + 1) end span (due temps (kept-all r depth temps)));
  }

  pub break-performs : S (with_begun 1 (uncounted (act.Skip left) ∷ [])) (λ base cells. record { memory = cells; end = breaks; count = 1 })
  break-performs = record {
    runs = λ p q cells temps count end span fits due.
        let over : p + 1 ≡ q = ends-begun r p 1 (uncounted (act.Skip left) ∷ []) q span in
        starts r p cells temps count end
        (acts r p 1 q (act.Skip left) [] cells temps (count + 1) end span
        (subst (λ x. Arrives r.code (st r (x + left) cells temps (count + 1)) end) (sym over) (due temps (kept-all r depth temps))));
  }

-- ---- a choice

-- what is due behind the first block
behind-else : (r : Run) (end : StepResult) (p q left : ℕ) (other : Code) → Span r.code p (else_code other) q → (cells : Cells) (temps : List ℤ) (n : ℕ) (e : End) →
    Ends r end q left cells temps n e → Ends r end p (length (else_code other) + left) cells temps n e
behind-else r end p q left [] span cells temps n goes_on due =
    subst (λ x. Arrives r.code (st r x cells temps n) end) (sym (span-none r.code p q span)) due
behind-else r end p q left (i ∷ rest) span cells temps n goes_on due =
    let ends : p + suc (suc (length rest)) ≡ q = span.ends in
    let place : q ≡ p + 1 + suc (length rest) = omega arith in
    arrives-now r p cells temps n end
    (acts r p 0 q (act.Skip (length (i ∷ rest))) (i ∷ rest) cells temps n end
    (span-is r.code p _ _ q (sym (begun-zero (uncounted (act.Skip (length (i ∷ rest))) ∷ i ∷ rest))) span)
    (subst (λ x. Arrives r.code (st r x cells temps n) end) place due))
behind-else r end p q left other span cells temps n breaks due =
    let ends : p + length (else_code other) ≡ q = span.ends in
    let place : q + left ≡ p + (length (else_code other) + left) = omega arith in
    subst (λ x. Arrives r.code (st r x cells temps n) end) place due
behind-else r end p q left other span cells temps n (returns result) due = due
behind-else r end p q left other span cells temps n traps due = due

-- where the other block stands
other-span : (code : Code) (p q : ℕ) (other : Code) → Span code p (else_code other) q → Span code (p + before_else other) other q
other-span code p q [] span = subst (λ x. Span code x [] q) (sym (add-zero p)) span
other-span code p q (i ∷ rest) span = span-tail code p (uncounted (act.Skip (length (i ∷ rest)))) (i ∷ rest) q span

else-long : (other : Code) → length (else_code other) ≡ before_else other + length other
else-long [] = refl
else-long (i ∷ rest) = let here : suc (suc (length rest)) ≡ 1 + suc (length rest) = omega arith in here

module _ (r : Run) (depth left : ℕ) (b o : Code) (B O : FlatStmtMeaning) (here : Ground Routine)
    (block : Performs r depth (length (else_code o) + left) b (B here)) (other : Performs r depth left o (O here)) where
  chosen-runs : (d : Bool) (p q : ℕ) (cells : Cells) (temps after : List ℤ) (n : ℕ) (end : StepResult) → Kept r depth temps after →
      Span r.code p (b ++ else_code o) q → Fits r depth (length (b ++ else_code o)) after →
      Left r end depth temps q left n ((if d then B else O) here r.base cells) →
      Arrives r.code (st r (p + (if d then 0 else length b + before_else o)) cells after n) end
  chosen-runs true p q cells temps after n end kept span fits due =
      let whole : length (b ++ else_code o) ≡ length b + length (else_code o) = length-append b (else_code o) in
      subst (λ x. Arrives r.code (st r x cells after n) end) (sym (add-zero p))
      (block.runs p (p + length b) cells after n end (span-front r.code p b (else_code o) q span)
      (fits-fewer r depth (length (b ++ else_code o)) (length b) after fits (omega arith))
      (λ after' kept'.
      let out : Outcome Cells = B here r.base cells in
      behind-else r end (p + length b) q left o (span-back r.code p b (else_code o) q span) out.memory after' (n + out.count) out.end
      (due after' (kept-then r depth depth temps after after' kept kept' (omega arith)))))
  chosen-runs false p q cells temps after n end kept span fits due =
      let whole : length (b ++ else_code o) ≡ length b + length (else_code o) = length-append b (else_code o) in
      let long : length (else_code o) ≡ before_else o + length o = else-long o in
      let place : p + length b + before_else o ≡ p + (length b + before_else o) = omega arith in
      subst (λ x. Arrives r.code (st r x cells after n) end) place
      (other.runs (p + length b + before_else o) q cells after n end (other-span r.code (p + length b) q o (span-back r.code p b (else_code o) q span))
      (fits-fewer r depth (length (b ++ else_code o)) (length o) after fits (omega arith))
      (λ after' kept'. due after' (kept-then r depth depth temps after after' kept kept' (omega arith))))

  pub if-performs : (w : Valued) (f : Evaluates ℤ) → Values r w f → Performs r depth left (if_code w depth b o)
      (λ base cells. executed 1 (f base cells) (λ c v. (if is_one v then B else O) here base c))
  if-performs w f h = record {
    runs = λ p q cells temps count end span fits due.
        let fail : ℕ = length b + before_else o in
        let test : Code = w.test w.calm depth 0 fail in
        let tail : Code = b ++ else_code o in
        let some : 1 ≤ length test = h.test_filled w.calm depth 0 fail in
        let l : FlatAnswer ℤ = f r.base cells in
        let same : with_begun 1 test ++ tail ≡ with_begun 1 (test ++ tail) = begun-front 1 test tail some in
        let within : Fits r depth (length (test ++ tail)) temps =
        fits-begun r depth 1 (test ++ tail) temps (subst (λ c. Fits r depth (length c) temps) same fits) in
        let whole : length (test ++ tail) ≡ length test + length tail = length-append test tail in
        starts r p cells temps count end
        (h.test w.calm depth 0 fail (λ is. is) p 1 q tail cells temps (count + 1) end (span-is r.code p _ _ q same span)
        (fits-fewer r depth (length (test ++ tail)) (length test) temps within (omega arith))
        (execution r depth q left 1 temps count end l (λ c v. (if is_one v then B else O) here r.base c)
        (DueTests r depth 0 fail (p + length test) q tail temps end) due
        (λ v found due' after kept here.
        chosen-runs (is_one v) (p + length test) q l.cells temps after (count + 1 + l.count) end kept here
        (fits-to r depth (length (test ++ tail)) temps depth (length tail) after within kept.long (omega arith) (omega arith)) due')));
  }

-- ---- one statement after another

following-at : (r : Run) (end : StepResult) (depth m q more left : ℕ) (temps : List ℤ) (count : ℕ) (cells : Cells) (n : ℕ) (e : End) (rest : Cells → Outcome Cells) →
    m + more ≡ q + left → Left r end depth temps q left count (following_end n cells e rest) →
    ((after : List ℤ) → Kept r depth temps after → Left r end depth after q left (count + n) (rest cells) → Arrives r.code (st r m cells after (count + n)) end) →
    (after : List ℤ) → Kept r depth temps after → Ends r end m more cells after (count + n) e
following-at r end depth m q more left temps count cells n goes_on rest is due f after kept =
    let counts : count + (n + (rest cells).count) ≡ count + n + (rest cells).count = omega arith in
    f after kept
    (λ after' kept'.
    subst (λ k. Ends r end q left (rest cells).memory after' k (rest cells).end) counts
    (due after' (kept-then r depth depth temps after after' kept kept' (omega arith))))
following-at r end depth m q more left temps count cells n breaks rest is due f after kept =
    subst (λ x. Arrives r.code (st r x cells after (count + n)) end) (sym is) (due after kept)
following-at r end depth m q more left temps count cells n (returns result) rest is due f after kept = due after kept
following-at r end depth m q more left temps count cells n traps rest is due f after kept = due after kept

-- a statement, and what follows it
pub then-performs : (r : Run) (depth left : ℕ) (part tail : Code) (run : ℕ → Cells → Outcome Cells) (rest : ℕ → Cells → Outcome Cells) →
    Performs r depth (length tail + left) part run → Performs r depth left tail rest →
    Performs r depth left (part ++ tail) (λ base cells. following (run base cells) (λ c. rest base c))
then-performs r depth left part tail run rest first last = record {
  runs = λ p q cells temps count end span fits due.
      let m : ℕ = p + length part in
      let whole : length (part ++ tail) ≡ length part + length tail = length-append part tail in
      let back : Span r.code m tail q = span-back r.code p part tail q span in
      let ends : m + length tail ≡ q = back.ends in
      let o : Outcome Cells = run r.base cells in
      first.runs p m cells temps count end (span-front r.code p part tail q span)
      (fits-fewer r depth (length (part ++ tail)) (length part) temps fits (omega arith))
      (following-at r end depth m q (length tail + left) left temps count o.memory o.count o.end (λ c. rest r.base c) (omega arith) due
      (λ after kept due'.
      last.runs m q o.memory after (count + o.count) end back
      (fits-to r depth (length (part ++ tail)) temps depth (length tail) after fits kept.long (omega arith) (omega arith)) due'));
}

-- nothing
pub empty-performs : (r : Run) (depth left : ℕ) → Performs r depth left [] (λ base cells. going cells)
empty-performs r depth left = record {
  runs = λ p q cells temps count end span fits due.
      subst (λ x. Arrives r.code (st r x cells temps count) end) (sym (span-none r.code p q span))
      (subst (λ n. Arrives r.code (st r q cells temps n) end) (add-zero count) (due temps (kept-all r depth temps)));
}
