-- The code of a place gives an operand at which its first cell is read or written.
use Rattle.std.proofs.Common.{◌≡◌, ◌≤◌, ℕ, suc, ◌+◌, ◌*◌, ℤ, pos, min, Bool, true, false, List, [], ◌∷◌, ◌++◌, length, Option, Some, None, refl, ap, sym, ◌∙◌, subst}
use Rattle.std.proofs.Common.{add-zero, append_assoc, length-append, arith}
use Rattle.std.specs.Prelude.{◌&&◌, option_map, slice_set}
use Rattle.std.specs.List.{list_all}
use Rattle.bl_tree.proofs.Basics.{and_first, and_second}
use Rattle.bl_tree.specs.declared.c.CType.{CType}
use Rattle.bl_ctext_semantics.specs.Builtin.{index_within}
use Rattle.bl_ctext_semantics_laws.specs.Flat.{Cells, Evaluates, FlatAnswer, address_along, address_of, cell_at, cell_number, element_address, flat_answer, flat_next, going_on}
use Rattle.bl_ctext_semantics_laws.specs.Flat.{start_address}
use Rattle.bl_ctext_semantics_laws.specs.Layout.{capped}
use Rattle.bl_ctext_semantics_laws.specs.Reaching.{Reach, Start, Term, near, through}
use Rattle.bl_crun_code.specs.declared.instruction.Act.TheVariants as act
use Rattle.bl_crun_code.specs.declared.instruction.Operand.{Operand}
use Rattle.bl_crun_code.specs.declared.instruction.Operand.TheVariants as op
use Rattle.bl_crun_code.specs.Code.{Code, Ready, Valued, address_in, along_code, with_begun, depth_behind, uncounted, reach_calm, reach_ready, start_operand, start_ready}
use Rattle.bl_crun_code.specs.Vm.{StepResult, VmState, written_if, near_cell, operand_number, through_cell, trapped, with_cell, with_number}
use Rattle.bl_crun_code.specs.Laws.{Arrives}
use Rattle.bl_crun_code.proofs.Runs.{After, Fits, From, Goes, GoesOn, Kept, Run, Span, acted, acts, begun-zero, fits-fewer, fits-to, goes-next, kept-all, kept-less, kept-set, kept-then}
use Rattle.bl_crun_code.proofs.Runs.{arrives-now, goes-at-once, goes-map, span-is, st}
use Rattle.bl_ctext_semantics_laws.proofs.Spans.{set-there}
use Rattle.bl_crun_code.proofs.Parts.{DueGives, Gives, Holds, Values, act-last, behind-more, gives-at-once, held}
use Rattle.bl_crun_code.proofs.Operands.{on-temporary}

-- ---- numbers of cells

pub min-min : (n c : ℕ) → min (min n c) c ≡ min n c
min-min n c = omega arith

pub capped-capped : (n : ℕ) → capped (capped n) ≡ capped n
capped-capped n = min-min n 4294967295

min-near : (b k p c : ℕ) → min (b + min (k + p) c) c ≡ min (min (b + k) c + p) c
min-near b k p c = omega arith

near-is : (b k p : ℕ) → capped (b + capped (k + p)) ≡ capped (capped (b + k) + p)
near-is b k p = min-near b k p 4294967295

-- there is no answer, or a number that isn't too large
abbrev pub Capped : Option ℕ → Type 0
Capped None = Unit {0}
Capped (Some k) = capped k ≡ k

going_on-capped : {A : Type 0} (cells : Cells) (n : ℕ) (answer : Option A) (rest : Cells → A → FlatAnswer ℕ) →
    ((c : Cells) (a : A) → answer ≡ Some a → Capped (rest c a).answer) → Capped (going_on cells n answer rest).answer
going_on-capped cells n None rest h = tt
going_on-capped cells n (Some a) rest h = h cells a refl

element-capped : (at size : ℕ) (index : Option ℤ) (k : ℕ) → option_map (λ j. capped (at + cell_number j * size)) index ≡ Some k → capped k ≡ k
element-capped at size None k h = cc
element-capped at size (Some j) k h =
    let it : capped (at + cell_number j * size) ≡ k = cc in
    subst (λ x. capped x ≡ x) it (capped-capped (at + cell_number j * size))

along-capped : (terms : List (Term (Evaluates ℤ))) (at base : ℕ) (cells : Cells) → capped at ≡ at → Capped (address_along terms at base cells).answer
along-capped [] at base cells is = is
along-capped (term ∷ terms) at base cells is =
    going_on-capped (term.index base cells).cells (term.index base cells).count (term.index base cells).answer
    (λ after i. flat_next (flat_answer after (element_address term at i)) (λ same k. address_along terms k base same))
    (λ after i found. going_on-capped after 0 (element_address term at i) (λ same k. address_along terms k base same)
    (λ same k here. along-capped terms k base same (element-capped at term.size (index_within i (pos term.length)) k here)))

pub address-capped : (reach : Reach (Evaluates ℤ)) (base : ℕ) (cells : Cells) → Capped (address_of reach base cells).answer
address-capped reach base cells =
    along-capped reach.terms (capped (start_address reach.start base cells + reach.passed)) base cells
    (capped-capped (start_address reach.start base cells + reach.passed))

pub is-capped : (answer : Option ℕ) (k : ℕ) → Capped answer → answer ≡ Some k → capped k ≡ k
is-capped None k h is = cc
is-capped (Some j) k h is = let same : j ≡ k = cc in subst (λ x. capped x ≡ x) same h

-- ---- the same place

-- the same indices by code and by evaluations
pub data Terms (P : Valued → Evaluates ℤ → Type 0) : List (Term Valued) → List (Term (Evaluates ℤ)) → Type 0 where
  none : Terms P [] []
  one : (length size : ℕ) (part : Valued) (evaluates : Evaluates ℤ) (ts : List (Term Valued)) (us : List (Term (Evaluates ℤ))) →
      P part evaluates → Terms P ts us →
      Terms P (record { length = length; size = size; index = part } ∷ ts) (record { length = length; size = size; index = evaluates } ∷ us)

pub terms-append : (P : Valued → Evaluates ℤ → Type 0) (ts : List (Term Valued)) (us : List (Term (Evaluates ℤ))) (xs : List (Term Valued))
    (ys : List (Term (Evaluates ℤ))) → Terms P ts us → Terms P xs ys → Terms P (ts ++ xs) (us ++ ys)
terms-append P ts us xs ys Terms.none k = k
terms-append P ts us xs ys (Terms.one length size part evaluates ts' us' h rest) k =
    Terms.one length size part evaluates (ts' ++ xs) (us' ++ ys) h (terms-append P ts' us' xs ys rest k)

-- the same place
pub data Leads (P : Valued → Evaluates ℤ → Type 0) : Reach Valued → Reach (Evaluates ℤ) → Type 0 where
  leads : (start : Start) (passed : ℕ) (ts : List (Term Valued)) (us : List (Term (Evaluates ℤ))) (ty : Option CType) → Terms P ts us →
      Leads P (record { start = start; passed = passed; terms = ts; ty = ty }) (record { start = start; passed = passed; terms = us; ty = ty })

-- ---- operands of places

-- an operand at which a cell is read or written
abbrev pub IsSpot : Operand → Type 0
IsSpot (op.Near k) = Unit {0}
IsSpot (op.Through p k) = Unit {0}
IsSpot (op.Indirect j) = Unit {0}
IsSpot _ = ⊥

pub behind-less : (depth : ℕ) (o : Operand) → depth_behind depth o ≤ suc depth
behind-less depth (op.Literal n) = omega arith
behind-less depth (op.Temporary j) = omega arith
behind-less depth (op.Near k) = omega arith
behind-less depth (op.Through p k) = omega arith
behind-less depth (op.Indirect j) = omega arith
behind-less depth (op.NearAddress k) = omega arith
behind-less depth (op.ThroughAddress p k) = omega arith

positive : (m k : ℕ) → pos m ≡ pos k → m ≡ k
positive m k h = cc

-- what is read at an operand is what its cell has
pub spot-read : (o : Operand) → IsSpot o → (base : ℕ) (cells : Cells) (temps : List ℤ) (k : ℕ) → capped k ≡ k →
    operand_number base cells temps (address_in o) ≡ pos k → operand_number base cells temps o ≡ cell_at cells k
spot-read (op.Near m) h base cells temps k is at = ap (λ n. cell_at cells n) (positive _ k at)
spot-read (op.Through p m) h base cells temps k is at = ap (λ n. cell_at cells n) (positive _ k at)
spot-read (op.Indirect j) h base cells temps k is at = ap (λ n. cell_at cells (cell_number n)) at ∙ ap (λ n. cell_at cells n) is
spot-read (op.Literal n) h base cells temps k is at = absurd h
spot-read (op.Temporary j) h base cells temps k is at = absurd h
spot-read (op.NearAddress m) h base cells temps k is at = absurd h
spot-read (op.ThroughAddress p m) h base cells temps k is at = absurd h

-- what is written there is written into its cell
pub spot-written : (o : Operand) → IsSpot o → (s : VmState) (k : ℕ) (v : ℤ) → capped k ≡ k →
    operand_number s.base s.cells s.temps (address_in o) ≡ pos k → with_number s o v ≡ with_cell s k v
spot-written (op.Near m) h s k v is at = ap (λ n. with_cell s n v) (positive _ k at)
spot-written (op.Through p m) h s k v is at = ap (λ n. with_cell s n v) (positive _ k at)
spot-written (op.Indirect j) h s k v is at = ap (λ n. with_cell s (cell_number n) v) at ∙ ap (λ n. with_cell s n v) is
spot-written (op.Literal n) h s k v is at = absurd h
spot-written (op.Temporary j) h s k v is at = absurd h
spot-written (op.NearAddress m) h s k v is at = absurd h
spot-written (op.ThroughAddress p m) h s k v is at = absurd h

pub address-behind : (depth : ℕ) (o : Operand) → depth_behind depth (address_in o) ≡ depth_behind depth o
address-behind depth (op.Literal n) = refl
address-behind depth (op.Temporary j) = refl
address-behind depth (op.Near k) = refl
address-behind depth (op.Through p k) = refl
address-behind depth (op.Indirect j) = refl
address-behind depth (op.NearAddress k) = refl
address-behind depth (op.ThroughAddress p k) = refl

-- ---- the start of a place

settled-gives : (r : Run) (depth k passed : ℕ) →
    Gives r (uncounted (act.Move (op.Temporary depth) (op.ThroughAddress k passed)) ∷ []) depth
    (λ base cells. flat_answer cells (Some (capped (cell_number (cell_at cells (base + k)) + passed)))) (λ cells temps a. cell_at temps depth ≡ pos a)
settled-gives r depth k passed =
    act-last r [] depth (λ base cells. flat_answer cells (Some (capped (cell_number (cell_at cells (base + k)) + passed))))
    (λ cells temps a. a ≡ through_cell r.base cells k passed)
    (gives-at-once r depth (λ base cells. through_cell base cells k passed) (λ cells temps a. a ≡ through_cell r.base cells k passed) (λ cells temps. refl))
    (act.Move (op.Temporary depth) (op.ThroughAddress k passed)) (DueGives r depth (λ cells temps a. cell_at temps depth ≡ pos a))
    (λ p q rest temps end start cells n a after found kept is span long next.
    on-temporary r (p + 1) q depth rest temps after end cells n a (pos (through_cell r.base cells k passed)) (λ cells temps a. cell_at temps depth ≡ pos a) next kept
    (λ same. same ∙ ap pos (sym is)) long span)

start-gives : (r : Run) (late : Bool) (depth : ℕ) (start : Start) (passed : ℕ) →
    Gives r (start_ready late depth (start_operand start passed)).code depth
    (λ base cells. flat_answer cells (Some (capped (start_address start base cells + passed))))
    (λ cells temps k. operand_number r.base cells temps (address_in (start_ready late depth (start_operand start passed)).it) ≡ pos k)
start-gives r true depth (near k) passed =
    gives-at-once r depth (λ base cells. capped (capped (base + k) + passed)) (λ cells temps a. pos (near_cell r.base (capped (k + passed))) ≡ pos a) (λ cells temps. ap pos (near-is r.base k passed))
start-gives r false depth (near k) passed =
    gives-at-once r depth (λ base cells. capped (capped (base + k) + passed)) (λ cells temps a. pos (near_cell r.base (capped (k + passed))) ≡ pos a) (λ cells temps. ap pos (near-is r.base k passed))
start-gives r true depth (through k) passed =
    gives-at-once r depth (λ base cells. capped (cell_number (cell_at cells (base + k)) + passed))
    (λ cells temps a. pos (through_cell r.base cells k passed) ≡ pos a) (λ cells temps. refl)
start-gives r false depth (through k) passed =
    settled-gives r depth k passed

start-holds : (late : Bool) (depth : ℕ) (start : Start) (passed : ℕ) →
    Holds late depth (address_in (start_ready late depth (start_operand start passed)).it)
start-holds true depth (near k) passed = tt
start-holds false depth (near k) passed = tt
start-holds true depth (through k) passed = tt
start-holds false depth (through k) passed = refl

start-stands : (depth : ℕ) (start : Start) (passed : ℕ) → Holds true depth (start_ready true depth (start_operand start passed)).it
start-stands depth (near k) passed = tt
start-stands depth (through k) passed = tt

start-spot : (late : Bool) (depth : ℕ) (start : Start) (passed : ℕ) → IsSpot (start_ready late depth (start_operand start passed)).it
start-spot true depth (near k) passed = tt
start-spot false depth (near k) passed = tt
start-spot true depth (through k) passed = tt
start-spot false depth (through k) passed = tt

start-deep : (late : Bool) (depth : ℕ) (start : Start) (passed : ℕ) →
    depth_behind depth (start_ready late depth (start_operand start passed)).it
    ≤ depth + length (start_ready late depth (start_operand start passed)).code
start-deep true depth (near k) passed = omega arith
start-deep false depth (near k) passed = omega arith
start-deep true depth (through k) passed = omega arith
start-deep false depth (through k) passed = omega arith

-- ---- indices

-- the operand that has the number of the cell behind indices
abbrev pub last_at : ℕ → Operand → List (Term Valued) → Operand
last_at depth at [] = at
last_at depth at (term ∷ terms) = op.Temporary depth

last-same : (depth : ℕ) (terms : List (Term Valued)) → last_at depth (op.Temporary depth) terms ≡ op.Temporary depth
last-same depth [] = refl
last-same depth (term ∷ terms) = refl

abbrev terms_calm : List (Term Valued) → Bool
terms_calm terms = list_all (λ term. term.index.calm) terms

-- the number of an element is written, where the index is in range
element-step : {B : Type 0} (r : Run) (p depth at size : ℕ) (index : Option ℤ) (cells : Cells) (temps : List ℤ) (n : ℕ) (end : StepResult) (number : ℤ) →
    number ≡ pos at → capped at ≡ at → (Next : Cells → ℕ → B → Type 0) (h : Cells → ℕ → FlatAnswer B) →
    GoesOn r.code end Next n (flat_next (flat_answer cells (option_map (λ k. capped (at + cell_number k * size)) index)) h) →
    ((j : ℕ) → capped j ≡ j → GoesOn r.code end Next n (h cells j) → Arrives r.code (st r (p + 1) cells (slice_set temps depth (pos j)) n) end) →
    After r.code (written_if (st r p cells temps n) (op.Temporary depth)
    (option_map (λ k. pos (capped (cell_number number + cell_number k * size))) index)) end
element-step r p depth at size None cells temps n end number is small Next h found f =
    subst (λ k. trapped cells k ≡ end) (add-zero n) found
element-step r p depth at size (Some i) cells temps n end number is small Next h found f =
    let same : capped (at + cell_number i * size) ≡ capped (cell_number number + cell_number i * size) =
    ap (λ x. capped (x + cell_number i * size)) (sym small) ∙ ap (λ x. capped (cell_number x + cell_number i * size)) (sym is) in
    subst (λ x. Arrives r.code (st r (p + 1) cells (slice_set temps depth (pos x)) n) end) same
    (f (capped (at + cell_number i * size)) (capped-capped (at + cell_number i * size))
    (goes-at-once r.code end Next n cells (capped (at + cell_number i * size)) h found))

module _ (r : Run) where
  -- what is due behind indices
  abbrev Behind : ℕ → List ℤ → ℕ → Operand → ℕ → Code → StepResult → Cells → ℕ → ℕ → Type 0
  Behind depth temps over o q rest end c n a =
      (after : List ℤ) (m : ℕ) → Kept r depth temps after → operand_number r.base c after o ≡ pos a → Span r.code over (with_begun m rest) q → From r m over c after n end

  -- indices from left to right, where an operand has the number of a cell
  along : (late : Bool) (depth : ℕ) (ts : List (Term Valued)) (us : List (Term (Evaluates ℤ))) → Terms (Values r) ts us → (late ≡ true → terms_calm ts ≡ true) →
      (at : Operand) → Holds late depth at → (k : ℕ) → capped k ≡ k → (p m q : ℕ) (rest : Code) (cells : Cells) (temps : List ℤ) (count : ℕ) (end : StepResult) →
      operand_number r.base cells temps at ≡ pos k → Span r.code p (with_begun m (along_code late depth at ts ++ rest)) q →
      Fits r depth (length (along_code late depth at ts)) temps →
      GoesOn r.code end (Behind depth temps (p + length (along_code late depth at ts)) (last_at depth at ts) q rest end) count (address_along us k r.base cells) →
      From r m p cells temps count end
  along late depth ts us Terms.none calm at holds k small p m q rest cells temps count end is span fits next =
      let here : p + 0 ≡ p = add-zero p in
      let now : count + 0 ≡ count = add-zero count in
      subst (λ n. From r m p cells temps n end) now
      (subst (λ x. From r m x cells temps (count + 0) end) here
      (next temps m (kept-all r depth temps) is (subst (λ x. Span r.code x (with_begun m rest) q) (sym here) span)))
  along late depth ts us (Terms.one long size w f ts' us' h others) calm at holds k small p m q rest cells temps count end is span fits next =
      let deeper : ℕ = depth_behind depth at in
      let index : Ready = w.ready late deeper in
      let code : Code = index.code in
      let tail : Code = along_code late depth (op.Temporary depth) ts' in
      let element : Code = uncounted (act.Element depth at index.it long size) ∷ tail in
      let term : Term (Evaluates ℤ) = record { length = long; size = size; index = f } in
      let l : FlatAnswer ℤ = f r.base cells in
      let whole : length (code ++ element) ≡ length code + suc (length tail) = length-append code element in
      let less : deeper ≤ suc depth = behind-less depth at in
      let more : depth ≤ deeper = behind-more depth at in
      let high : depth + length (code ++ element) ≤ r.temps = fits.high in
      let low : r.top ≤ depth = fits.low in
      let many : r.temps ≤ length temps = fits.long in
      let quiet : late ≡ true → w.calm ≡ true = λ is. and_first w.calm (terms_calm ts') (calm is) in
      let over : p + length (code ++ element) ≡ p + length code + 1 + length tail = omega arith in
      let Next : Cells → ℕ → ℕ → Type 0 = Behind depth temps (p + length (code ++ element)) (op.Temporary depth) q rest end in
      h.ready late deeper quiet p m q (element ++ rest) cells temps count end
      (span-is r.code p _ _ q (ap (with_begun m) (append_assoc code element rest)) span)
      (fits-to r depth (length (code ++ element)) temps deeper (length code) temps fits refl more (omega arith))
      (goes-next r end (DueGives r deeper (λ cells temps v. operand_number r.base cells temps index.it ≡ v) (p + length code) q (element ++ rest) temps end) Next count l
      (λ after i. flat_next (flat_answer after (element_address term k i)) (λ same j. address_along us' j r.base same)) next
      (λ i there found after m' kept at_index here.
      let same : length after ≡ length temps = kept.long in
      let first : operand_number r.base l.cells after at ≡ pos k =
      held late r depth at holds r.base cells l.cells temps after (λ is. h.keeps (quiet is) r.base cells) kept low ∙ is in
      acts r (p + length code) m' q (act.Element depth at index.it long size) (tail ++ rest) l.cells after (count + l.count) end here
      (subst (λ x. After r.code (written_if (st r (p + length code) l.cells after (count + l.count)) (op.Temporary depth)
      (option_map (λ j. pos (capped (cell_number (operand_number r.base l.cells after at) + cell_number j * size))) (index_within x (pos long)))) end) (sym at_index)
      (element-step r (p + length code) depth k size (index_within i (pos long)) l.cells after (count + l.count) end (operand_number r.base l.cells after at) first small
      Next (λ same j. address_along us' j r.base same) found
      (λ j small' found'.
      let after' : List ℤ = slice_set after depth (pos j) in
      let kept' : Kept r depth temps after' =
      kept-set r depth depth temps after (pos j) (kept-less r deeper depth temps after kept more) (omega arith) (omega arith) in
      arrives-now r (p + length code + 1) l.cells after' (count + l.count) end
      (along late depth ts' us' others (λ is. and_second w.calm (terms_calm ts') (calm is)) (op.Temporary depth) refl j small'
      (p + length code + 1) 0 q rest l.cells after' (count + l.count) end
      (set-there after depth (pos j) (omega arith))
      (span-is r.code (p + length code + 1) _ _ q (sym (begun-zero (tail ++ rest)))
      (acted r (p + length code) m' q (uncounted (act.Element depth at index.it long size)) (tail ++ rest) here))
      (fits-to r depth (length (code ++ element)) temps depth (length tail) after' fits kept'.long (omega arith) (omega arith))
      (goes-map r end (Behind depth after' (p + length code + 1 + length tail) (last_at depth (op.Temporary depth) ts') q rest end) Next
      (address_along us' j r.base l.cells).cells (count + l.count + (address_along us' j r.base l.cells).count)
      (address_along us' j r.base l.cells).answer found'
      (λ a next' after'' m'' kept'' is'' span''.
      subst (λ x. From r m'' x (address_along us' j r.base l.cells).cells after'' (count + l.count + (address_along us' j r.base l.cells).count) end) over
      (next' after'' m'' (kept-then r depth depth temps after' after'' kept' kept'' (omega arith))
      (subst (λ o. operand_number r.base (address_along us' j r.base l.cells).cells after'' o ≡ pos a) (last-same depth ts') is'')
      (subst (λ x. Span r.code x (with_begun m'' rest) q) (sym over) span''))))))))))

-- ---- whole places

abbrev pub PlaceIs : Run → Operand → Cells → List ℤ → ℕ → Type 0
PlaceIs r o cells temps k = operand_number r.base cells temps (address_in o) ≡ pos k

-- the code of a place leads to it
pub record Spots (r : Run) (reach : Reach Valued) (u : Reach (Evaluates ℤ)) : Type 0 where
  pub keeps : reach_calm reach ≡ true → (base : ℕ) (cells : Cells) → (address_of u base cells).cells ≡ cells
  pub spot : (late : Bool) (depth : ℕ) → IsSpot (reach_ready reach late depth).it
  pub holds : (late : Bool) (depth : ℕ) → Holds late depth (address_in (reach_ready reach late depth).it)
  pub stands : (depth : ℕ) → Holds true depth (reach_ready reach true depth).it
  pub deep : (late : Bool) (depth : ℕ) → depth_behind depth (reach_ready reach late depth).it ≤ depth + length (reach_ready reach late depth).code
  pub gives : (late : Bool) (depth : ℕ) → (late ≡ true → reach_calm reach ≡ true) →
      Gives r (reach_ready reach late depth).code depth (address_of u) (PlaceIs r (reach_ready reach late depth).it)

-- calm indices change no cells
keeps-next : {A B : Type 0} (cells after : Cells) (n : ℕ) (answer : Option A) (h : Cells → A → FlatAnswer B) → after ≡ cells →
    ((a : A) → (h after a).cells ≡ cells) → (going_on after n answer h).cells ≡ cells
keeps-next cells after n None h same f = same
keeps-next cells after n (Some a) h same f = f a

pub keeps-then : {A B : Type 0} (cells : Cells) (l : FlatAnswer A) (h : Cells → A → FlatAnswer B) → l.cells ≡ cells →
    ((a : A) → (h l.cells a).cells ≡ cells) → (flat_next l h).cells ≡ cells
keeps-then cells l h same f = keeps-next cells l.cells l.count l.answer h same f

along-keeps : (r : Run) (ts : List (Term Valued)) (us : List (Term (Evaluates ℤ))) → Terms (Values r) ts us → terms_calm ts ≡ true →
    (at base : ℕ) (cells : Cells) → (address_along us at base cells).cells ≡ cells
along-keeps r ts us Terms.none calm at base cells = refl
along-keeps r ts us (Terms.one long size w f ts' us' h others) calm at base cells =
    let term : Term (Evaluates ℤ) = record { length = long; size = size; index = f } in
    let same : (f base cells).cells ≡ cells = h.keeps (and_first w.calm (terms_calm ts') calm) base cells in
    keeps-then cells (f base cells) (λ after i. flat_next (flat_answer after (element_address term at i)) (λ same j. address_along us' j base same)) same
    (λ i. keeps-then cells (flat_answer (f base cells).cells (element_address term at i)) (λ same j. address_along us' j base same) same
    (λ j. along-keeps r ts' us' others (and_second w.calm (terms_calm ts') calm) j base (f base cells).cells ∙ same))

module _ (r : Run) (start : Start) (passed : ℕ) (ty : Option CType) where
  abbrev Reaching : List (Term Valued) → Reach Valued
  Reaching ts = record { start = start; passed = passed; terms = ts; ty = ty }

  abbrev Evaluating : List (Term (Evaluates ℤ)) → Reach (Evaluates ℤ)
  Evaluating us = record { start = start; passed = passed; terms = us; ty = ty }

  abbrev First : Bool → ℕ → Ready
  First late depth = start_ready late depth (start_operand start passed)

  spot-is : (late : Bool) (depth : ℕ) (ts : List (Term Valued)) → IsSpot (reach_ready (Reaching ts) late depth).it
  spot-is late depth [] = start-spot late depth start passed
  spot-is late depth (t ∷ ts) = tt

  spot-holds : (late : Bool) (depth : ℕ) (ts : List (Term Valued)) → Holds late depth (address_in (reach_ready (Reaching ts) late depth).it)
  spot-holds late depth [] = start-holds late depth start passed
  spot-holds late depth (t ∷ ts) = refl

  spot-stands : (depth : ℕ) (ts : List (Term Valued)) → Holds true depth (reach_ready (Reaching ts) true depth).it
  spot-stands depth [] = start-stands depth start passed
  spot-stands depth (t ∷ ts) = refl

  along-filled : (late : Bool) (depth : ℕ) (at : Operand) (t : Term Valued) (ts : List (Term Valued)) → 1 ≤ length (along_code late depth at (t ∷ ts))
  along-filled late depth at t ts =
      let index : Ready = t.index.ready late (depth_behind depth at) in
      let tail : Code = uncounted (act.Element depth at index.it t.length t.size) ∷ along_code late depth (op.Temporary depth) ts in
      let whole : length (index.code ++ tail) ≡ length index.code + length tail = length-append index.code tail in
      omega arith

  spot-deep : (late : Bool) (depth : ℕ) (ts : List (Term Valued)) →
      depth_behind depth (reach_ready (Reaching ts) late depth).it ≤ depth + length (reach_ready (Reaching ts) late depth).code
  spot-deep late depth [] = start-deep late depth start passed
  spot-deep late depth (t ∷ ts) =
      let first : Code = (First late depth).code in
      let behind : Code = along_code late depth (address_in (First late depth).it) (t ∷ ts) in
      let some : 1 ≤ length behind = along-filled late depth (address_in (First late depth).it) t ts in
      let whole : length (first ++ behind) ≡ length first + length behind = length-append first behind in
      omega arith

  spot-gives : (late : Bool) (depth : ℕ) (ts : List (Term Valued)) (us : List (Term (Evaluates ℤ))) → Terms (Values r) ts us →
      (late ≡ true → terms_calm ts ≡ true) →
      Gives r (reach_ready (Reaching ts) late depth).code depth (address_of (Evaluating us)) (PlaceIs r (reach_ready (Reaching ts) late depth).it)
  spot-gives late depth ts us Terms.none calm p m q rest cells temps count end span fits next =
      start-gives r late depth start passed p m q rest cells temps count end span fits next
  spot-gives late depth ts us (Terms.one long size w f ts' us' h others) calm p m q rest cells temps count end span fits next =
      let terms : List (Term Valued) = record { length = long; size = size; index = w } ∷ ts' in
      let values : List (Term (Evaluates ℤ)) = record { length = long; size = size; index = f } ∷ us' in
      let first : Code = (First late depth).code in
      let at : Operand = address_in (First late depth).it in
      let behind : Code = along_code late depth at terms in
      let whole : length (first ++ behind) ≡ length first + length behind = length-append first behind in
      let over : p + length (first ++ behind) ≡ p + length first + length behind = omega arith in
      let k : ℕ = capped (start_address start r.base cells + passed) in
      let Next : Cells → ℕ → ℕ → Type 0 = λ c n a. (after : List ℤ) (m : ℕ) → Kept r depth temps after → cell_at after depth ≡ pos a →
      Span r.code (p + length (first ++ behind)) (with_begun m rest) q → From r m (p + length (first ++ behind)) c after n end in
      start-gives r late depth start passed p m q (behind ++ rest) cells temps count end
      (span-is r.code p _ _ q (ap (with_begun m) (append_assoc first behind rest)) span)
      (fits-fewer r depth (length (first ++ behind)) (length first) temps fits (omega arith))
      (λ after m' kept is here.
      along r late depth terms values (Terms.one long size w f ts' us' h others) calm at (start-holds late depth start passed) k
      (capped-capped (start_address start r.base cells + passed)) (p + length first) m' q rest cells after (count + 0) end is here
      (fits-to r depth (length (first ++ behind)) temps depth (length behind) after fits kept.long (omega arith) (omega arith))
      (goes-map r end (Behind r depth after (p + length first + length behind) (last_at depth at terms) q rest end) Next
      (address_along values k r.base cells).cells (count + 0 + (address_along values k r.base cells).count)
      (address_along values k r.base cells).answer
      (subst (λ n. Goes r.code end Next (address_along values k r.base cells).cells (n + (address_along values k r.base cells).count)
      (address_along values k r.base cells).answer) (sym (add-zero count)) next)
      (λ a next' after'' m'' kept'' is'' span''.
      subst (λ x. From r m'' x (address_along values k r.base cells).cells after'' (count + 0 + (address_along values k r.base cells).count) end) over
      (next' after'' m'' (kept-then r depth depth temps after after'' kept kept'' (omega arith)) is''
      (subst (λ x. Span r.code x (with_begun m'' rest) q) (sym over) span'')))))

-- each place
pub place-spots : (r : Run) (reach : Reach Valued) (u : Reach (Evaluates ℤ)) → Leads (Values r) reach u → Spots r reach u
place-spots r reach u (Leads.leads start passed ts us ty terms) = record {
  keeps = λ calm base cells. along-keeps r ts us terms calm (capped (start_address start base cells + passed)) base cells;
  spot = λ late depth. spot-is r start passed ty late depth ts;
  holds = λ late depth. spot-holds r start passed ty late depth ts;
  stands = λ depth. spot-stands r start passed ty depth ts;
  deep = λ late depth. spot-deep r start passed ty late depth ts;
  gives = λ late depth calm. spot-gives r start passed ty late depth ts us terms calm;
}
