-- What a part of the code does, and one part after another.
use Rattle.std.proofs.Common.{◌≡◌, ◌≤◌, ℕ, ◌+◌, ℤ, Bool, true, false, List, [], ◌∷◌, ◌++◌, length, Option, Some, None}
use Rattle.std.proofs.Common.{refl, ap, sym, ◌∙◌, subst, add-zero, append_assoc, length-append, arith}
use Rattle.std.specs.Prelude.{if◌then◌else◌}
use Rattle.bl_tree.specs.Numbers.{is_one}
use Rattle.bl_ctext_semantics_laws.specs.Flat.{Cells, Evaluates, FlatAnswer, cell_at, cell_number, flat_answer, flat_next, going_on}
use Rattle.bl_crun_code.specs.declared.instruction.Act.{Act}
use Rattle.bl_crun_code.specs.declared.instruction.Operand.{Operand}
use Rattle.bl_crun_code.specs.declared.instruction.Operand.TheVariants as op
use Rattle.bl_crun_code.specs.Code.{Code, Valued, with_begun, depth_behind, uncounted}
use Rattle.bl_crun_code.specs.Vm.{StepResult, does, operand_number, with_number}
use Rattle.bl_crun_code.specs.Laws.{Arrives}
use Rattle.bl_crun_code.proofs.Runs.{After, Fits, From, Goes, GoesOn, Kept, Run, Span, acted, acts, fits-fewer, fits-to, goes-next}
use Rattle.bl_crun_code.proofs.Runs.{kept-all, span-is, st}

-- ---- what follows a part

-- what is due behind a part, before another position: by the position where it is over, the code that follows, the temporaries at its begin, and the end; and by
-- the cells, the count and the answer
abbrev pub Due : Type 0 → Type 1
Due A = ℕ → ℕ → Code → List ℤ → StepResult → Cells → ℕ → A → Type 0

-- the part comes to each end to which what is due behind it comes
abbrev pub Does : {A : Type 0} → Run → Code → ℕ → Evaluates A → Due A → Type 0
Does r part depth f Next =
    (p m q : ℕ) (rest : Code) (cells : Cells) (temps : List ℤ) (count : ℕ) (end : StepResult) → Span r.code p (with_begun m (part ++ rest)) q →
    Fits r depth (length part) temps → GoesOn r.code end (Next (p + length part) q rest temps end) count (f r.base cells) →
    From r m p cells temps count end

-- behind it something is so of the cells, the temporaries and the answer
abbrev pub DueGives : {A : Type 0} → Run → ℕ → (Cells → List ℤ → A → Type 0) → Due A
DueGives r depth Is at q rest temps end cells n a =
    (after : List ℤ) (m : ℕ) → Kept r depth temps after → Is cells after a → Span r.code at (with_begun m rest) q → From r m at cells after n end

abbrev pub Gives : {A : Type 0} → Run → Code → ℕ → Evaluates A → (Cells → List ℤ → A → Type 0) → Type 0
Gives r part depth f Is = Does r part depth f (DueGives r depth Is)

-- behind it the answer is written
abbrev pub DueWrites : Run → ℕ → Operand → Due ℤ
DueWrites r depth into at q rest temps end cells n v =
    (after : List ℤ) → Kept r depth temps after → Span r.code at rest q → Arrives r.code (with_number (st r at cells after n) into v) end

abbrev pub Writes : Run → Code → ℕ → Evaluates ℤ → Operand → Type 0
Writes r part depth f into = Does r part depth f (DueWrites r depth into)

-- behind it so many instructions are passed
abbrev pub DueTests : Run → ℕ → ℕ → ℕ → Due ℤ
DueTests r depth hold fail at q rest temps end cells n v =
    (after : List ℤ) → Kept r depth temps after → Span r.code at rest q →
    Arrives r.code (st r (at + (if is_one v then hold else fail)) cells after n) end

abbrev pub Tests : Run → Code → ℕ → Evaluates ℤ → ℕ → ℕ → Type 0
Tests r part depth f hold fail = Does r part depth f (DueTests r depth hold fail)

-- ---- operands

-- an operand that stands while what follows is evaluated: it names no other temporary than this one, and no cell where cells may change
abbrev pub Holds : Bool → ℕ → Operand → Type 0
Holds late depth (op.Literal n) = Unit {0}
Holds late depth (op.Temporary j) = j ≡ depth
Holds late depth (op.NearAddress k) = Unit {0}
Holds true depth (op.Near k) = Unit {0}
Holds true depth (op.Through p k) = Unit {0}
Holds true depth (op.Indirect j) = j ≡ depth
Holds true depth (op.ThroughAddress p k) = Unit {0}
Holds false depth _ = ⊥

-- its number stays
pub held : (late : Bool) (r : Run) (depth : ℕ) (o : Operand) → Holds late depth o → (base : ℕ) (cells later : Cells) (temps after : List ℤ) →
    (late ≡ true → later ≡ cells) →
    Kept r (depth_behind depth o) temps after →
    r.top ≤ depth →
    operand_number base later after o ≡ operand_number base cells temps o
held late r depth (op.Literal n) h base cells later temps after same kept le = refl
held late r depth (op.Temporary j) h base cells later temps after same kept le = kept.same j (omega arith) (omega arith)
held late r depth (op.NearAddress k) h base cells later temps after same kept le = refl
held true r depth (op.Near k) h base cells later temps after same kept le = ap (λ c. operand_number base c after (op.Near k)) (same refl)
held true r depth (op.Through p k) h base cells later temps after same kept le = ap (λ c. operand_number base c after (op.Through p k)) (same refl)
held true r depth (op.Indirect j) h base cells later temps after same kept le =
    ap (λ c. operand_number base c after (op.Indirect j)) (same refl)
    ∙ ap (λ n. cell_at cells (cell_number n)) (kept.same j (omega arith) (omega arith))
held true r depth (op.ThroughAddress p k) h base cells later temps after same kept le =
    ap (λ c. operand_number base c after (op.ThroughAddress p k)) (same refl)
held false r depth (op.Near k) h base cells later temps after same kept le = absurd h
held false r depth (op.Through p k) h base cells later temps after same kept le = absurd h
held false r depth (op.Indirect j) h base cells later temps after same kept le = absurd h
held false r depth (op.ThroughAddress p k) h base cells later temps after same kept le = absurd h

-- ---- values

-- an expression compiled does what it evaluates to
pub record Values (r : Run) (w : Valued) (f : Evaluates ℤ) : Type 0 where
  pub keeps : w.calm ≡ true → (base : ℕ) (cells : Cells) → (f base cells).cells ≡ cells
  pub holds : (late : Bool) (depth : ℕ) → Holds late depth (w.ready late depth).it
  pub deep : (late : Bool) (depth : ℕ) → depth_behind depth (w.ready late depth).it ≤ depth + length (w.ready late depth).code
  pub ready : (late : Bool) (depth : ℕ) → (late ≡ true → w.calm ≡ true) →
      Gives r (w.ready late depth).code depth f (λ cells temps v. operand_number r.base cells temps (w.ready late depth).it ≡ v)
  pub filled : (late : Bool) (depth : ℕ) (into : Operand) → 1 ≤ length (w.into late depth into)
  pub into : (late : Bool) (depth : ℕ) (into : Operand) → (late ≡ true → w.calm ≡ true) → Writes r (w.into late depth into) depth f into
  pub test_filled : (late : Bool) (depth hold fail : ℕ) → 1 ≤ length (w.test late depth hold fail)
  pub test : (late : Bool) (depth hold fail : ℕ) → (late ≡ true → w.calm ≡ true) → Tests r (w.test late depth hold fail) depth f hold fail

pub behind-more : (depth : ℕ) (o : Operand) → depth ≤ depth_behind depth o
behind-more depth (op.Literal n) = omega arith
behind-more depth (op.Temporary j) = omega arith
behind-more depth (op.Near k) = omega arith
behind-more depth (op.Through p k) = omega arith
behind-more depth (op.Indirect j) = omega arith
behind-more depth (op.NearAddress k) = omega arith
behind-more depth (op.ThroughAddress p k) = omega arith

-- ---- one part after another

-- where evaluations agree, parts do the same
pub does-same : {A : Type 0} (r : Run) (part : Code) (depth : ℕ) (f g : Evaluates A) (Next : Due A) →
    ((base : ℕ) (cells : Cells) → f base cells ≡ g base cells) → Does r part depth f Next → Does r part depth g Next
does-same r part depth f g Next same h p m q rest cells temps count end span fits next =
    h p m q rest cells temps count end span fits
    (subst (GoesOn r.code end (Next (p + length part) q rest temps end) count) (sym (same r.base cells)) next)

-- no code: the answer is there
pub gives-at-once : {A : Type 0} (r : Run) (depth : ℕ) (answer : ℕ → Cells → A) (Is : Cells → List ℤ → A → Type 0) →
    ((cells : Cells) (temps : List ℤ) → Is cells temps (answer r.base cells)) →
    Gives r [] depth (λ base cells. flat_answer cells (Some (answer base cells))) Is
gives-at-once r depth answer Is is p m q rest cells temps count end span fits next =
    let here : p + 0 ≡ p = add-zero p in
    let now : count + 0 ≡ count = add-zero count in
    subst (λ n. From r m p cells temps n end) now
    (subst (λ x. From r m x cells temps (count + 0) end) here
    (next temps m (kept-all r depth temps) (is cells temps) (subst (λ x. Span r.code x (with_begun m rest) q) (sym here) span)))

-- a part, and an instruction behind it, from a position on
pub act-at : {A B : Type 0} (r : Run) (part : Code) (depth : ℕ) (f : Evaluates A) (Is : Cells → List ℤ → A → Type 0) → Gives r part depth f Is →
    (a : Act) (h : Cells → A → Option B) (p m q : ℕ) (rest : Code) (cells : Cells) (temps : List ℤ) (count : ℕ) (end : StepResult) →
    Span r.code p (with_begun m ((part ++ uncounted a ∷ []) ++ rest)) q → Fits r depth (length (part ++ uncounted a ∷ [])) temps → (Next : Cells → ℕ → B → Type 0) →
    GoesOn r.code end Next count (flat_next (f r.base cells) (λ c v. flat_answer c (h c v))) →
    ((v : A) (after : List ℤ) → (f r.base cells).answer ≡ Some v → Kept r depth temps after → Is (f r.base cells).cells after v →
    Span r.code (p + length part + 1) rest q → Fits r depth 1 after →
    Goes r.code end Next (f r.base cells).cells (count + (f r.base cells).count) (h (f r.base cells).cells v) →
    After r.code (does (st r (p + length part) (f r.base cells).cells after (count + (f r.base cells).count)) a) end) →
    From r m p cells temps count end
act-at r part depth f Is gives a h p m q rest cells temps count end span fits Next next last =
    let whole : length (part ++ uncounted a ∷ []) ≡ length part + 1 = length-append part (uncounted a ∷ []) in
    gives p m q (uncounted a ∷ rest) cells temps count end
    (span-is r.code p _ _ q (ap (with_begun m) (append_assoc part (uncounted a ∷ []) rest)) span)
    (fits-fewer r depth _ (length part) temps fits (omega arith))
    (goes-next r end (DueGives r depth Is (p + length part) q (uncounted a ∷ rest) temps end) Next count (f r.base cells) (λ c v. flat_answer c (h c v)) next
    (λ v found due after k kept is here.
    acts r (p + length part) k q a rest (f r.base cells).cells after (count + (f r.base cells).count) end here
    (last v after found kept is (acted r (p + length part) k q (uncounted a) rest here)
    (fits-to r depth (length (part ++ uncounted a ∷ [])) temps depth 1 after fits kept.long (omega arith) (omega arith))
    (subst (λ n. Goes r.code end Next (f r.base cells).cells n (h (f r.base cells).cells v)) (add-zero (count + (f r.base cells).count)) due))))

-- a part, and an instruction behind it
pub act-behind : {A B : Type 0} (r : Run) (part : Code) (depth : ℕ) (f : Evaluates A) (Is : Cells → List ℤ → A → Type 0) → Gives r part depth f Is →
    (a : Act) (h : Cells → A → Option B) (Next : Due B) →
    ((p q : ℕ) (rest : Code) (temps : List ℤ) (end : StepResult) (start cells : Cells) (n : ℕ) (v : A) (after : List ℤ) → (f r.base start).answer ≡ Some v →
    Kept r depth temps after → Is cells after v →
    Span r.code (p + 1) rest q → Fits r depth 1 after → Goes r.code end (Next (p + 1) q rest temps end) cells n (h cells v) →
    After r.code (does (st r p cells after n) a) end) →
    Does r (part ++ uncounted a ∷ []) depth (λ base cells. flat_next (f base cells) (λ c v. flat_answer c (h c v))) Next
act-behind r part depth f Is gives a h Next last p m q rest cells temps count end span fits next =
    let whole : length (part ++ uncounted a ∷ []) ≡ length part + 1 = length-append part (uncounted a ∷ []) in
    let over : p + length (part ++ uncounted a ∷ []) ≡ p + length part + 1 = omega arith in
    act-at r part depth f Is gives a h p m q rest cells temps count end span fits (Next (p + length (part ++ uncounted a ∷ [])) q rest temps end) next
    (λ v after found kept is here long due.
    last (p + length part) q rest temps end cells (f r.base cells).cells (count + (f r.base cells).count) v after found kept is here long
    (subst (λ x. Goes r.code end (Next x q rest temps end) (f r.base cells).cells (count + (f r.base cells).count) (h (f r.base cells).cells v)) over due))

-- the same, where the answer stays
once-more-at : {A : Type 0} (cells : Cells) (n : ℕ) (answer : Option A) →
    going_on cells n answer (λ c v. flat_answer c (Some v)) ≡ record { cells = cells; count = n; answer = answer }
once-more-at cells n None = refl
once-more-at cells n (Some v) = ap (λ k. record { cells = cells; count = k; answer = Some v }) (add-zero n)

once-more : {A : Type 0} (l : FlatAnswer A) → flat_next l (λ c v. flat_answer c (Some v)) ≡ l
once-more l = once-more-at l.cells l.count l.answer

pub act-last : {A : Type 0} (r : Run) (part : Code) (depth : ℕ) (f : Evaluates A) (Is : Cells → List ℤ → A → Type 0) → Gives r part depth f Is →
    (a : Act) (Next : Due A) →
    ((p q : ℕ) (rest : Code) (temps : List ℤ) (end : StepResult) (start cells : Cells) (n : ℕ) (v : A) (after : List ℤ) → (f r.base start).answer ≡ Some v →
    Kept r depth temps after → Is cells after v →
    Span r.code (p + 1) rest q → Fits r depth 1 after → Next (p + 1) q rest temps end cells n v →
    After r.code (does (st r p cells after n) a) end) →
    Does r (part ++ uncounted a ∷ []) depth f Next
act-last r part depth f Is gives a Next last =
    does-same r (part ++ uncounted a ∷ []) depth (λ base cells. flat_next (f base cells) (λ c v. flat_answer c (Some v))) f Next
    (λ base cells. once-more (f base cells))
    (act-behind r part depth f Is gives a (λ c v. Some v) Next
    (λ p q rest temps end start cells n v after found kept is span long next. last p q rest temps end start cells n v after found kept is span long next))

-- something else of the answer
pub gives-map : {A B : Type 0} (r : Run) (part : Code) (depth : ℕ) (f : Evaluates A) (Is : Cells → List ℤ → A → Type 0) → Gives r part depth f Is →
    (g : Cells → A → B) (Then : Cells → List ℤ → B → Type 0) →
    ((start cells : Cells) (temps : List ℤ) (a : A) → (f r.base start).answer ≡ Some a → Is cells temps a → Then cells temps (g cells a)) →
    Gives r part depth (λ base cells. flat_next (f base cells) (λ c a. flat_answer c (Some (g c a)))) Then
gives-map r part depth f Is gives g Then same p m q rest cells temps count end span fits next =
    gives p m q rest cells temps count end span fits
    (goes-next r end (DueGives r depth Is (p + length part) q rest temps end) (DueGives r depth Then (p + length part) q rest temps end) count (f r.base cells)
    (λ c a. flat_answer c (Some (g c a))) next
    (λ a found due after k kept is here.
    subst (λ n. From r k (p + length part) (f r.base cells).cells after n end) (add-zero (count + (f r.base cells).count))
    (due after k kept (same cells (f r.base cells).cells after a found is) here)))
