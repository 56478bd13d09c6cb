-- Runs of the machine, where parts of the code stand, and what temporaries keep.
use Rattle.std.proofs.Common.{◌≡◌, ◌≤◌, ℕ, zero, suc, ◌+◌, ℤ, List, [], ◌∷◌, ◌++◌, length, drop, Option, Some, None}
use Rattle.std.proofs.Common.{refl, ap, sym, ◌∙◌, subst, inl, inr, add-zero, append_assoc, drop-drop, drop_at, length-append, length-set, arith}
use Rattle.std.specs.Prelude.{slice_get, slice_set}
use Rattle.bl_ctext_semantics_laws.specs.Flat.{Cells, FlatAnswer, cell_at, flat_answer, flat_next, going_on}
use Rattle.bl_ctext_semantics_laws.proofs.Spans.{set-elsewhere}
use Rattle.bl_crun_code.specs.declared.instruction.Act.{Act}
use Rattle.bl_crun_code.specs.declared.instruction.Caller.{Caller}
use Rattle.bl_crun_code.specs.declared.instruction.Instruction.{Instruction}
use Rattle.bl_crun_code.specs.Code.{Code, with_begun, uncounted}
use Rattle.bl_crun_code.specs.Vm.{StepResult, RunsTo, VmState, does, done, goes, vm_step, step_at, trapped}
use Rattle.bl_crun_code.specs.Laws.{Arrives}

-- ---- where a part of the code stands

-- it begins at a position, and ends before another
pub record Span (code : Code) (p : ℕ) (part : Code) (q : ℕ) : Type 0 where
  pub rest : Code
  pub is : drop p code ≡ part ++ rest
  pub ends : p + length part ≡ q

pub span-front : (code : Code) (p : ℕ) (a b : Code) (q : ℕ) → Span code p (a ++ b) q → Span code p a (p + length a)
span-front code p a b q h = record { rest = b ++ h.rest; is = h.is ∙ append_assoc a b h.rest; ends = refl }

pub span-back : (code : Code) (p : ℕ) (a b : Code) (q : ℕ) → Span code p (a ++ b) q → Span code (p + length a) b q
span-back code p a b q h = record {
  rest = h.rest;
  is = sym (drop-drop (length a) p code) ∙ ap (drop (length a)) (h.is ∙ append_assoc a b h.rest) ∙ drop_at a (b ++ h.rest) (length a) refl;
  ends = let n : length (a ++ b) ≡ length a + length b = length-append a b in let e : p + length (a ++ b) ≡ q = h.ends in omega arith;
}

first-of : (xs : Code) (p : ℕ) (i : Instruction) (ys : Code) → drop p xs ≡ i ∷ ys → slice_get xs p ≡ Some i
first-of [] zero i ys h = cc
first-of [] (suc p) i ys h = cc
first-of (x ∷ xs) zero i ys h = ap (λ zs. slice_get zs 0) h
first-of (x ∷ xs) (suc p) i ys h = first-of xs p i ys h

pub span-first : (code : Code) (p : ℕ) (i : Instruction) (part : Code) (q : ℕ) → Span code p (i ∷ part) q → slice_get code p ≡ Some i
span-first code p i part q h = first-of code p i (part ++ h.rest) h.is

pub span-tail : (code : Code) (p : ℕ) (i : Instruction) (part : Code) (q : ℕ) → Span code p (i ∷ part) q → Span code (p + 1) part q
span-tail code p i part q h = span-back code p (i ∷ []) part q h

pub span-end : (code : Code) (p : ℕ) (i : Instruction) (q : ℕ) → Span code p (i ∷ []) q → p + 1 ≡ q
span-end code p i q h = h.ends

pub span-none : (code : Code) (p q : ℕ) → Span code p [] q → p ≡ q
span-none code p q h = let e : p + 0 ≡ q = h.ends in omega arith

pub span-is : (code : Code) (p : ℕ) (a b : Code) (q : ℕ) → a ≡ b → Span code p a q → Span code p b q
span-is code p a b q is h = subst (λ part. Span code p part q) is h

pub begun-zero : (part : Code) → with_begun 0 part ≡ part
begun-zero [] = refl
begun-zero (i ∷ rest) = ap (λ n. record { statements = n; act = i.act } ∷ rest) (add-zero i.statements)

-- the count of a statement is put on the first instruction of the first part that has one
pub begun-front : (n : ℕ) (a b : Code) → 1 ≤ length a → with_begun n a ++ b ≡ with_begun n (a ++ b)
begun-front n [] b h = absurd (omega arith)
begun-front n (i ∷ a) b h = refl

-- ---- one step after another

-- a result leads to an end
abbrev pub After : Code → StepResult → StepResult → Type 0
After code (goes t) end = Arrives code t end
After code (done cells count n) end = done cells count n ≡ end
After code (trapped cells count) end = trapped cells count ≡ end

pub stepped : (code : Code) (s : VmState) (r end : StepResult) → vm_step code s ≡ r → After code r end → Arrives code s end
stepped code s (goes t) end is h = record { steps = suc h.steps; runs = RunsTo.more h.steps s t end is h.runs }
stepped code s (done cells count n) end is h = record { steps = 1; runs = RunsTo.last s end (is ∙ h) }
stepped code s (trapped cells count) end is h = record { steps = 1; runs = RunsTo.last s end (is ∙ h) }

-- ---- a function that runs

-- the code, the base of its frame, the functions that wait for it, and for how many there is room; its first temporary, the one behind its last,
-- and how many functions may have to wait for those that it calls
pub record Run : Type 0 where
  pub code : Code
  pub base : ℕ
  pub callers : List Caller
  pub room : ℕ
  pub top : ℕ
  pub temps : ℕ
  pub calls : ℕ
  pub chain : suc (length callers + calls) ≤ room

-- a state of it
abbrev pub st : Run → ℕ → Cells → List ℤ → ℕ → VmState
st r at cells temps count = record { at = at; base = r.base; cells = cells; temps = temps; callers = r.callers; room = r.room; count = count }

-- it comes to an end from a position on, where so many of the statements that are counted begin with the next instruction
abbrev pub From : Run → ℕ → ℕ → Cells → List ℤ → ℕ → StepResult → Type 0
From r m at cells temps count end = (c : ℕ) → c + m ≡ count → Arrives r.code (st r at cells temps c) end

pub arrives-now : (r : Run) (at : ℕ) (cells : Cells) (temps : List ℤ) (count : ℕ) (end : StepResult) → From r 0 at cells temps count end →
    Arrives r.code (st r at cells temps count) end
arrives-now r at cells temps count end h = h count (add-zero count)

-- one instruction
pub instruction : (r : Run) (p m q : ℕ) (i : Instruction) (rest : Code) (cells : Cells) (temps : List ℤ) (count : ℕ) (end : StepResult) →
    Span r.code p (with_begun m (i ∷ rest)) q → After r.code (does (st r p cells temps (count + i.statements)) i.act) end → From r m p cells temps count end
instruction r p m q i rest cells temps count end span h c is =
    let first : slice_get r.code p ≡ Some (record { statements = i.statements + m; act = i.act }) =
    span-first r.code p (record { statements = i.statements + m; act = i.act }) rest q span in
    let counted : c + (i.statements + m) ≡ count + i.statements = omega arith in
    stepped r.code (st r p cells temps c) (does (st r p cells temps (count + i.statements)) i.act) end
    (ap (step_at (st r p cells temps c)) first ∙ ap (λ n. does (st r p cells temps n) i.act) counted) h

-- an instruction with which no statement begins
pub acts : (r : Run) (p m q : ℕ) (a : Act) (rest : Code) (cells : Cells) (temps : List ℤ) (count : ℕ) (end : StepResult) →
    Span r.code p (with_begun m (uncounted a ∷ rest)) q → After r.code (does (st r p cells temps count) a) end → From r m p cells temps count end
acts r p m q a rest cells temps count end span h =
    instruction r p m q (uncounted a) rest cells temps count end span
    (subst (λ n. After r.code (does (st r p cells temps n) a) end) (sym (add-zero count)) h)

pub acted : (r : Run) (p m q : ℕ) (i : Instruction) (rest : Code) → Span r.code p (with_begun m (i ∷ rest)) q → Span r.code (p + 1) rest q
acted r p m q i rest span = span-tail r.code p (record { statements = i.statements + m; act = i.act }) rest q span

-- ---- temporaries

-- the function's own below a number are the same, and those behind its last one
pub record Kept (r : Run) (high : ℕ) (temps after : List ℤ) : Type 0 where
  pub long : length after ≡ length temps
  pub same : (j : ℕ) → r.top ≤ j → suc j ≤ high → cell_at after j ≡ cell_at temps j
  pub beyond : (j : ℕ) → r.temps ≤ j → cell_at after j ≡ cell_at temps j

pub kept-all : (r : Run) (high : ℕ) (temps : List ℤ) → Kept r high temps temps
kept-all r high temps = record { long = refl; same = λ j h k. refl; beyond = λ j h. refl }

pub kept-then : (r : Run) (high more : ℕ) (a b c : List ℤ) → Kept r high a b → Kept r more b c → high ≤ more → Kept r high a c
kept-then r high more a b c h k le = record {
  long = k.long ∙ h.long;
  same = λ j l u. k.same j l (omega arith) ∙ h.same j l u;
  beyond = λ j l. k.beyond j l ∙ h.beyond j l;
}

pub kept-less : (r : Run) (high less : ℕ) (a b : List ℤ) → Kept r high a b → less ≤ high → Kept r less a b
kept-less r high less a b h le = record { long = h.long; same = λ j l u. h.same j l (omega arith); beyond = h.beyond }

pub kept-set : (r : Run) (high j : ℕ) (temps after : List ℤ) (n : ℤ) → Kept r high temps after → high ≤ j → suc j ≤ r.temps →
    Kept r high temps (slice_set after j n)
kept-set r high j temps after n h le less = record {
  long = length-set after j n ∙ h.long;
  same = λ k l u. set-elsewhere after j k n (inr (omega arith)) ∙ h.same k l u;
  beyond = λ k l. set-elsewhere after j k n (inl (omega arith)) ∙ h.beyond k l;
}

-- there are so many temporaries from one on
pub record Fits (r : Run) (depth n : ℕ) (temps : List ℤ) : Type 0 where
  pub low : r.top ≤ depth
  pub high : depth + n ≤ r.temps
  pub long : r.temps ≤ length temps

pub fits-to : (r : Run) (depth n : ℕ) (temps : List ℤ) (deeper k : ℕ) (after : List ℤ) → Fits r depth n temps → length after ≡ length temps →
    depth ≤ deeper → deeper + k ≤ depth + n → Fits r deeper k after
fits-to r depth n temps deeper k after h same le less = record {
  low = let l : r.top ≤ depth = h.low in omega arith;
  high = let u : depth + n ≤ r.temps = h.high in omega arith;
  long = let m : r.temps ≤ length temps = h.long in omega arith;
}

pub fits-fewer : (r : Run) (depth n k : ℕ) (temps : List ℤ) → Fits r depth n temps → k ≤ n → Fits r depth k temps
fits-fewer r depth n k temps h less = fits-to r depth n temps depth k temps h refl (omega arith) (omega arith)

-- ---- answers

-- where an evaluation is over it traps, or it goes on with the answer
abbrev pub Goes : {A : Type 0} → Code → StepResult → (Cells → ℕ → A → Type 0) → Cells → ℕ → Option A → Type 0
Goes code end Next cells count None = After code (trapped cells count) end
Goes code end Next cells count (Some a) = Next cells count a

abbrev pub GoesOn : {A : Type 0} → Code → StepResult → (Cells → ℕ → A → Type 0) → ℕ → FlatAnswer A → Type 0
GoesOn code end Next count l = Goes code end Next l.cells (count + l.count) l.answer

goes-next-at : {A B : Type 0} (r : Run) (end : StepResult) (First : Cells → ℕ → A → Type 0) (Next : Cells → ℕ → B → Type 0) (count : ℕ) (cells : Cells)
    (n : ℕ) (answer : Option A) (h : Cells → A → FlatAnswer B) → GoesOn r.code end Next count (going_on cells n answer h) →
    ((a : A) → answer ≡ Some a → GoesOn r.code end Next (count + n) (h cells a) → First cells (count + n) a) → Goes r.code end First cells (count + n) answer
goes-next-at r end First Next count cells n None h g f = g
goes-next-at r end First Next count cells n (Some a) h g f =
    let counts : count + (n + (h cells a).count) ≡ count + n + (h cells a).count = omega arith in
    f a refl (subst (λ k. Goes r.code end Next (h cells a).cells k (h cells a).answer) counts g)

-- one evaluation, and then another with its answer
pub goes-next : {A B : Type 0} (r : Run) (end : StepResult) (First : Cells → ℕ → A → Type 0) (Next : Cells → ℕ → B → Type 0) (count : ℕ) (l : FlatAnswer A)
    (h : Cells → A → FlatAnswer B) → GoesOn r.code end Next count (flat_next l h) →
    ((a : A) → l.answer ≡ Some a → GoesOn r.code end Next (count + l.count) (h l.cells a) → First l.cells (count + l.count) a) → GoesOn r.code end First count l
goes-next r end First Next count l h g f = goes-next-at r end First Next count l.cells l.count l.answer h g f

-- an evaluation that is at once
pub goes-at-once : {A B : Type 0} (code : Code) (end : StepResult) (Next : Cells → ℕ → B → Type 0) (count : ℕ) (cells : Cells) (a : A)
    (h : Cells → A → FlatAnswer B) → GoesOn code end Next count (flat_next (flat_answer cells (Some a)) h) → GoesOn code end Next count (h cells a)
goes-at-once code end Next count cells a h g =
    let counts : count + (0 + (h cells a).count) ≡ count + (h cells a).count = omega arith in
    subst (λ n. Goes code end Next (h cells a).cells n (h cells a).answer) counts g

-- what is due may be something else
pub goes-map : {A : Type 0} (r : Run) (end : StepResult) (First Next : Cells → ℕ → A → Type 0) (cells : Cells) (n : ℕ) (answer : Option A) →
    Goes r.code end Next cells n answer → ((a : A) → Next cells n a → First cells n a) → Goes r.code end First cells n answer
goes-map r end First Next cells n None g f = g
goes-map r end First Next cells n (Some a) g f = f a g
