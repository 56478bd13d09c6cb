-- The code of a call: its arguments, from left to right, and then the call itself.
use Rattle.std.proofs.Common.{◌≡◌, ◌≤◌, ℕ, zero, suc, ◌+◌, ℤ, Bool, true, false, List, [], ◌∷◌, ◌++◌, length, Option, Some, None, refl, ap, sym, ◌∙◌, subst}
use Rattle.std.proofs.Common.{add-zero, append_assoc, length-append, arith}
use Rattle.std.specs.Prelude.{◌&&◌, is_some, nat_lt, slice_set, if◌then◌else◌}
use Rattle.std.proofs.lemmas.Bool.Decides.{nat_tests}
use Rattle.bl_tree.proofs.Basics.{and_first, and_second}
use Rattle.bl_tree.specs.declared.text.Text.{Text}
use Rattle.bl_tree.specs.Ports.{in_ranges}
use Rattle.bl_ctext.specs.declared.builtin.Builtin.{Builtin}
use Rattle.bl_ctext.specs.declared.builtin.Builtin.TheVariants.{Two, One, Cast, Index, Turn, Stop}
use Rattle.bl_ctext_semantics.specs.Builtin.{builtin_params, builtin_value}
use Rattle.bl_ctext_semantics.specs.Tables.{Table}
use Rattle.bl_ctext_semantics_laws.specs.Flat.{Cells, Evaluates, FlatAnswer, Routine, called_as, cell_at, each_of, flat_answer, flat_next, going_on}
use Rattle.bl_ctext_semantics_laws.specs.Flat.{is_typed, prelude_value}
use Rattle.bl_ctext_semantics_laws.specs.Layout.{capped}
use Rattle.bl_ctext_semantics_laws.specs.Reaching.{Ground}
use Rattle.bl_ctext_semantics_laws.proofs.Spans.{set-there}
use Rattle.bl_crun_code.specs.declared.instruction.Act.TheVariants as act
use Rattle.bl_crun_code.specs.declared.instruction.Caller.{Caller}
use Rattle.bl_crun_code.specs.declared.instruction.Operand.{Operand}
use Rattle.bl_crun_code.specs.declared.instruction.Operand.TheVariants as op
use Rattle.bl_crun_code.specs.Code.{Code, FunctionEntry, Valued, args_calm, args_code, with_begun, call_into, call_valued, depth_behind, ending_with, known_call, pair_code, uncounted}
use Rattle.bl_crun_code.specs.Vm.{StepResult, args_in, caller_resumed, entering, goes, operand_number, trapped, with_number}
use Rattle.bl_crun_code.specs.Laws.{Arrives, entry_state}
use Rattle.bl_crun_code.proofs.Runs.{After, From, Goes, GoesOn, Kept, Run, Span, acted, acts, arrives-now, begun-zero, fits-fewer, fits-to, goes-map, goes-next}
use Rattle.bl_crun_code.proofs.Runs.{kept-set, kept-then, span-is, st}
use Rattle.bl_crun_code.proofs.Parts.{DueGives, DueWrites, Gives, Values, Writes, act-behind, does-same, gives-at-once}
use Rattle.bl_crun_code.proofs.Operands.{ending-filled, values-written}
use Rattle.bl_crun_code.proofs.Operators.{written-after}
use Rattle.bl_crun_code.proofs.Places.{keeps-then}
use Rattle.bl_crun_code.proofs.Fetches.{pair-does, pair-filled, two_answers}

-- ---- arguments

-- compiled and evaluated, the same arguments
pub data Args (P : Valued → Evaluates ℤ → Type 0) : List Valued → List (Evaluates ℤ) → Type 0 where
  none : Args P [] []
  one : (w : Valued) (f : Evaluates ℤ) (ws : List Valued) (fs : List (Evaluates ℤ)) → P w f → Args P ws fs → Args P (w ∷ ws) (f ∷ fs)

args-long : (P : Valued → Evaluates ℤ → Type 0) (ws : List Valued) (fs : List (Evaluates ℤ)) → Args P ws fs → length fs ≡ length ws
args-long P ws fs Args.none = refl
args-long P ws fs (Args.one w f ws' fs' h rest) = ap suc (args-long P ws' fs' rest)

args-cons : (temps : List ℤ) (depth n : ℕ) → suc depth ≤ length temps → args_in temps depth (suc n) ≡ cell_at temps depth ∷ args_in temps (suc depth) n
args-cons [] depth n h = absurd (omega arith)
args-cons (x ∷ xs) zero n h = refl
args-cons (x ∷ xs) (suc depth) n h = args-cons xs depth n (omega arith)

-- so many answers, if there are any
abbrev Many : ℕ → Option (List ℤ) → Type 0
Many n None = Unit {0}
Many n (Some ns) = length ns ≡ n

rest-many : (n : ℕ) (a : ℤ) (cells : Cells) (k : ℕ) (answer : Option (List ℤ)) → Many n answer →
    Many (suc n) (going_on cells k answer (λ last others. flat_answer last (Some (a ∷ others)))).answer
rest-many n a cells k None h = tt
rest-many n a cells k (Some ns) h = ap suc h

first-many : (n : ℕ) (cells : Cells) (k : ℕ) (answer : Option ℤ) (rest : Cells → ℤ → FlatAnswer (List ℤ)) →
    ((c : Cells) (a : ℤ) → Many n (rest c a).answer) →
    Many n (going_on cells k answer rest).answer
first-many n cells k None rest h = tt
first-many n cells k (Some a) rest h = h cells a

each-many : (all : List (Evaluates ℤ)) (base : ℕ) (cells : Cells) → Many (length all) (each_of all base cells).answer
each-many [] base cells = refl
each-many (evaluate ∷ rest) base cells =
    let first : FlatAnswer ℤ = evaluate base cells in
    first-many (suc (length rest)) first.cells first.count first.answer
    (λ after a. flat_next (each_of rest base after) (λ last others. flat_answer last (Some (a ∷ others))))
    (λ after a.
    let others : FlatAnswer (List ℤ) = each_of rest base after in
    rest-many (length rest) a others.cells others.count others.answer (each-many rest base after))

many : (n : ℕ) (answer : Option (List ℤ)) (ns : List ℤ) → Many n answer → answer ≡ Some ns → length ns ≡ n
many n None ns h is = cc
many n (Some ms) ns h is = let same : ms ≡ ns = cc in subst (λ xs. length xs ≡ n) same h

-- calm arguments change no cells
args-keep : (r : Run) (ws : List Valued) (fs : List (Evaluates ℤ)) → Args (Values r) ws fs → args_calm ws ≡ true → (base : ℕ) (cells : Cells) →
    (each_of fs base cells).cells ≡ cells
args-keep r ws fs Args.none calm base cells = refl
args-keep r ws fs (Args.one w f ws' fs' h rest) calm base cells =
    let first : (f base cells).cells ≡ cells = h.keeps (and_first w.calm (args_calm ws') calm) base cells in
    let others : (each_of fs' base (f base cells).cells).cells ≡ cells =
    args-keep r ws' fs' rest (and_second w.calm (args_calm ws') calm) base (f base cells).cells ∙ first in
    keeps-then cells (f base cells) (λ after a. flat_next (each_of fs' base after) (λ last others. flat_answer last (Some (a ∷ others)))) first
    (λ a. keeps-then cells (each_of fs' base (f base cells).cells) (λ last others. flat_answer last (Some (a ∷ others))) others (λ ns. others))

-- the arguments are the numbers of temporaries, from left to right
args-give : (r : Run) (late : Bool) (depth : ℕ) (ws : List Valued) (fs : List (Evaluates ℤ)) → Args (Values r) ws fs → (late ≡ true → args_calm ws ≡ true) →
    Gives r (args_code late depth ws) depth (each_of fs) (λ cells temps ns. args_in temps depth (length ws) ≡ ns)
args-give r late depth ws fs Args.none calm p m q rest cells temps count end span fits next =
    gives-at-once r depth (λ base cells. []) (λ cells temps ns. args_in temps depth 0 ≡ ns) (λ cells temps. refl) p m q rest cells temps count end span fits next
args-give r late depth ws fs (Args.one w f ws' fs' h others) calm p m q rest cells temps count end span fits next =
    let first : Code = w.into late depth (op.Temporary depth) in
    let tail : Code = args_code late (suc depth) ws' in
    let l : FlatAnswer ℤ = f r.base cells in
    let some : 1 ≤ length first = h.filled late depth (op.Temporary depth) in
    let whole : length (first ++ tail) ≡ length first + length tail = length-append first tail in
    let over : p + length (first ++ tail) ≡ p + length first + length tail = omega arith in
    let high : depth + length (first ++ tail) ≤ r.temps = fits.high in
    let low : r.top ≤ depth = fits.low in
    let long : r.temps ≤ length temps = fits.long in
    let Next : Cells → ℕ → List ℤ → Type 0 = λ c n ns. (after : List ℤ) (k : ℕ) → Kept r depth temps after →
    args_in after depth (suc (length ws')) ≡ ns → Span r.code (p + length (first ++ tail)) (with_begun k rest) q →
    From r k (p + length (first ++ tail)) c after n end in
    h.into late depth (op.Temporary depth) (λ is. and_first w.calm (args_calm ws') (calm is)) p m q (tail ++ rest) cells temps count end
    (span-is r.code p _ _ q (ap (with_begun m) (append_assoc first tail rest)) span)
    (fits-fewer r depth (length (first ++ tail)) (length first) temps fits (omega arith))
    (goes-next r end (DueWrites r depth (op.Temporary depth) (p + length first) q (tail ++ rest) temps end) Next count l (λ after a. flat_next (each_of fs' r.base after) (λ last others. flat_answer last (Some (a ∷ others)))) next
    (λ v found due after kept here.
    let same : length after ≡ length temps = kept.long in
    let written : List ℤ = slice_set after depth v in
    let kept' : Kept r depth temps written = kept-set r depth depth temps after v kept (omega arith) (omega arith) in
    let e : FlatAnswer (List ℤ) = each_of fs' r.base l.cells in
    arrives-now r (p + length first) l.cells written (count + l.count) end
    (args-give r late (suc depth) ws' fs' others (λ is. and_second w.calm (args_calm ws') (calm is)) (p + length first) 0 q rest l.cells written
    (count + l.count) end
    (span-is r.code (p + length first) _ _ q (sym (begun-zero (tail ++ rest))) here)
    (fits-to r depth (length (first ++ tail)) temps (suc depth) (length tail) written fits kept'.long (omega arith) (omega arith))
    (goes-next r end
    (DueGives r (suc depth) (λ cells temps ns. args_in temps (suc depth) (length ws') ≡ ns) (p + length first + length tail) q rest written end) Next
    (count + l.count) e (λ last others. flat_answer last (Some (v ∷ others))) due
    (λ ns found' due' after' k kept'' is here'.
    let same' : length after' ≡ length written = kept''.long in
    let same'' : length written ≡ length temps = kept'.long in
    let there : cell_at after' depth ≡ v = kept''.same depth low (omega arith) ∙ set-there after depth v (omega arith) in
    let args : args_in after' depth (suc (length ws')) ≡ v ∷ ns =
    args-cons after' depth (length ws') (omega arith) ∙ ap (λ x. x ∷ args_in after' (suc depth) (length ws')) there ∙ ap (λ xs. v ∷ xs) is in
    subst (λ x. From r k x e.cells after' (count + l.count + e.count) end) over
    (subst (λ n. From r k (p + length (first ++ tail)) e.cells after' n end) (add-zero (count + l.count + e.count))
    (due' after' k (kept-then r depth (suc depth) temps written after' kept' kept'' (omega arith)) args
    (subst (λ x. Span r.code x (with_begun k rest) q) (sym over) here'))))))))

-- ---- functions of the prelude

one-eval-at : (cells : Cells) (n : ℕ) (answer : Option ℤ) (h : List ℤ → Option ℤ) →
    going_on cells n answer (λ c v. flat_answer c (h (v ∷ [])))
    ≡ flat_next (going_on cells n answer (λ after a. flat_next (flat_answer after (Some [])) (λ last others. flat_answer last (Some (a ∷ others)))))
    (λ after args. flat_answer after (h args))
one-eval-at cells n None h = refl
one-eval-at cells n (Some a) h = ap (λ k. record { cells = cells; count = k; answer = h (a ∷ []) }) (sym (add-zero (n + 0)))

one-eval : (l : FlatAnswer ℤ) (h : List ℤ → Option ℤ) →
    flat_next l (λ c v. flat_answer c (h (v ∷ [])))
    ≡ flat_next (flat_next l (λ after a. flat_next (flat_answer after (Some [])) (λ last others. flat_answer last (Some (a ∷ others)))))
    (λ after args. flat_answer after (h args))
one-eval l h = one-eval-at l.cells l.count l.answer h

abbrev Second : ℤ → FlatAnswer ℤ → FlatAnswer (List ℤ)
Second a e =
    flat_next (flat_next e (λ last b. flat_next (flat_answer last (Some [])) (λ l others. flat_answer l (Some (b ∷ others)))))
    (λ last others. flat_answer last (Some (a ∷ others)))

two-eval-last : (n : ℕ) (a : ℤ) (cells : Cells) (k : ℕ) (answer : Option ℤ) (h : List ℤ → Option ℤ) (e : FlatAnswer (List ℤ)) →
    e ≡ Second a (record { cells = cells; count = k; answer = answer }) →
    record {
      cells = (going_on cells k answer (λ last b. flat_answer last (h (a ∷ b ∷ [])))).cells;
      count = n + (going_on cells k answer (λ last b. flat_answer last (h (a ∷ b ∷ [])))).count;
      answer = (going_on cells k answer (λ last b. flat_answer last (h (a ∷ b ∷ [])))).answer;
    }
    ≡ going_on e.cells (n + e.count) e.answer (λ after args. flat_answer after (h args))
two-eval-last n a cells k None h e is = ap (λ x. going_on x.cells (n + x.count) x.answer (λ after args. flat_answer after (h args))) (sym is)
two-eval-last n a cells k (Some b) h e is =
    let counts : n + (k + 0) ≡ n + (k + 0 + 0) + 0 = omega arith in
    ap (λ x. record { cells = cells; count = x; answer = h (a ∷ b ∷ []) }) counts
    ∙ ap (λ x. going_on x.cells (n + x.count) x.answer (λ after args. flat_answer after (h args))) (sym is)

two-eval-at : (cells : Cells) (n : ℕ) (answer : Option ℤ) (g : Cells → FlatAnswer ℤ) (h : List ℤ → Option ℤ) →
    going_on cells n answer (λ after a. flat_next (g after) (λ last b. flat_answer last (h (a ∷ b ∷ []))))
    ≡ flat_next (going_on cells n answer (λ after a. Second a (g after))) (λ after args. flat_answer after (h args))
two-eval-at cells n None g h = refl
two-eval-at cells n (Some a) g h = two-eval-last n a (g cells).cells (g cells).count (g cells).answer h (Second a (g cells)) refl

two-eval : (l : FlatAnswer ℤ) (g : Cells → FlatAnswer ℤ) (h : List ℤ → Option ℤ) →
    flat_next l (λ after a. flat_next (g after) (λ last b. flat_answer last (h (a ∷ b ∷ []))))
    ≡ flat_next (flat_next l (λ after a. Second a (g after))) (λ after args. flat_answer after (h args))
two-eval l g h = two-eval-at l.cells l.count l.answer g h

if-none : (b : Bool) (x : Option ℤ) → x ≡ None → (if b then x else None) ≡ None
if-none true x is = is
if-none false x is = refl

none-valued : (b : Builtin) → builtin_value b [] ≡ None
none-valued (Two op t) = refl
none-valued (One op t) = refl
none-valued (Cast signed t) = refl
none-valued (Index signed) = refl
none-valued Turn = refl
none-valued Stop = refl

more-valued : (b : Builtin) (x y z : ℤ) (ns : List ℤ) → builtin_value b (x ∷ y ∷ z ∷ ns) ≡ None
more-valued (Two op t) x y z ns = refl
more-valued (One op t) x y z ns = refl
more-valued (Cast signed t) x y z ns = refl
more-valued (Index signed) x y z ns = refl
more-valued Turn x y z ns = refl
more-valued Stop x y z ns = refl

unvalued : (b : Builtin) (ns : List ℤ) → builtin_value b ns ≡ None → prelude_value b ns ≡ None
unvalued b ns is =
    if-none (is_typed b && in_ranges (builtin_params b) ns) (builtin_value b ns) is

-- neither one nor two numbers
abbrev Other : List Valued → Type 0
Other [] = Unit {0}
Other (a ∷ []) = ⊥
Other (a ∷ b ∷ []) = ⊥
Other (a ∷ b ∷ c ∷ rest) = Unit {0}

other-none : (b : Builtin) (ws : List Valued) (ns : List ℤ) → Other ws → length ns ≡ length ws → prelude_value b ns ≡ None
other-none b [] [] h long = unvalued b [] (none-valued b)
other-none b [] (n ∷ ns) h long = absurd (omega arith)
other-none b (x ∷ []) ns h long = absurd h
other-none b (x ∷ y ∷ []) ns h long = absurd h
other-none b (x ∷ y ∷ z ∷ ws) [] h long = absurd (omega arith)
other-none b (x ∷ y ∷ z ∷ ws) (k ∷ []) h long = absurd (omega arith)
other-none b (x ∷ y ∷ z ∷ ws) (k ∷ l ∷ []) h long = absurd (omega arith)
other-none b (x ∷ y ∷ z ∷ ws) (k ∷ l ∷ m ∷ ns) h long = unvalued b (k ∷ l ∷ m ∷ ns) (more-valued b k l m ns)

abbrev pub call_value : (here : ℕ) → List (Evaluates ℤ) → Option Builtin → Option Routine → Evaluates ℤ
call_value frame fs builtin routine base cells =
    flat_next (each_of fs base cells) (λ after args. called_as builtin routine (capped (base + frame)) args after)

module _ (r : Run) (late : Bool) (depth : ℕ) (into : Operand) where
  -- a part that traps
  stop-writes : (ws : List Valued) (fs : List (Evaluates ℤ)) → Args (Values r) ws fs → (late ≡ true → args_calm ws ≡ true) → (h : List ℤ → Option ℤ) →
      ((ns : List ℤ) → length ns ≡ length ws → h ns ≡ None) →
      Writes r (args_code late depth ws ++ uncounted act.Stop ∷ []) depth (λ base cells. flat_next (each_of fs base cells) (λ after args. flat_answer after (h args)))
      into
  stop-writes ws fs args calm h absent =
      act-behind r (args_code late depth ws) depth (each_of fs) (λ cells temps ns. args_in temps depth (length ws) ≡ ns)
      (args-give r late depth ws fs args calm) act.Stop (λ c ns. h ns) (DueWrites r depth into)
      (λ p q rest temps end start cells n ns after found kept is span long due.
      let so_many : length ns ≡ length ws =
      many (length fs) (each_of fs r.base start).answer ns (each-many fs r.base start) found ∙ args-long (Values r) ws fs args in
      subst (λ o. Goes r.code end (λ c k v. (after : List ℤ) → Kept r depth temps after → Span r.code (p + 1) rest q →
      Arrives r.code (with_number (st r (p + 1) c after k) into v) end) cells n o) (absent ns so_many) due)

  one-writes : (b : Builtin) (w : Valued) (f : Evaluates ℤ) → Values r w f → (late ≡ true → w.calm ≡ true) →
      Writes r (ending_with (w.ready late depth) (λ x. act.One b into x)) depth
      (λ base cells. flat_next (each_of (f ∷ []) base cells) (λ after args. flat_answer after (prelude_value b args))) into
  one-writes b w f h calm =
      does-same r (ending_with (w.ready late depth) (λ x. act.One b into x)) depth
      (λ base cells. flat_next (f base cells) (λ c v. flat_answer c (prelude_value b (v ∷ []))))
      (λ base cells. flat_next (each_of (f ∷ []) base cells) (λ after args. flat_answer after (prelude_value b args))) (DueWrites r depth into)
      (λ base cells. one-eval (f base cells) (prelude_value b))
      (act-behind r (w.ready late depth).code depth f (λ cells temps v. operand_number r.base cells temps (w.ready late depth).it ≡ v) (h.ready late depth calm)
      (act.One b into (w.ready late depth).it) (λ c v. prelude_value b (v ∷ [])) (DueWrites r depth into)
      (λ p q rest temps end start cells n v after found kept is span long due.
      written-after r p q rest depth temps after cells n into end (prelude_value b (v ∷ []))
      (prelude_value b (operand_number r.base cells after (w.ready late depth).it ∷ []))
      (ap (λ x. prelude_value b (x ∷ [])) is) kept span due))

  two-writes : (b : Builtin) (x y : Valued) (f g : Evaluates ℤ) → Values r x f → Values r y g → (late ≡ true → x.calm && y.calm ≡ true) →
      Writes r (pair_code x y late depth (λ v w. act.Both b into v w)) depth
      (λ base cells. flat_next (each_of (f ∷ g ∷ []) base cells) (λ after args. flat_answer after (prelude_value b args))) into
  two-writes b x y f g hx hy calm =
      does-same r (pair_code x y late depth (λ v w. act.Both b into v w)) depth (two_answers (λ v w. prelude_value b (v ∷ w ∷ [])) f g)
      (λ base cells. flat_next (each_of (f ∷ g ∷ []) base cells) (λ after args. flat_answer after (prelude_value b args))) (DueWrites r depth into)
      (λ base cells. two-eval (f base cells) (λ after. g base after) (prelude_value b))
      (pair-does r x y f g hx hy late depth calm (λ v w. act.Both b into v w) (λ v w. prelude_value b (v ∷ w ∷ [])) (DueWrites r depth into)
      (λ p q rest temps end cells n v w after kept is is' span due.
      written-after r p q rest depth temps after cells n into end (prelude_value b (v ∷ w ∷ []))
      (prelude_value b (operand_number r.base cells after (x.ready late depth).it
      ∷ operand_number r.base cells after (y.ready late (depth_behind depth (x.ready late depth).it)).it ∷ []))
      (ap (λ a. prelude_value b (a ∷ operand_number r.base cells after (y.ready late (depth_behind depth (x.ready late depth).it)).it ∷ [])) is
      ∙ ap (λ a. prelude_value b (v ∷ a ∷ [])) is') kept span due))

-- ---- functions of the file

-- the function that waits goes on with a result
abbrev pub back_with : Cells → List ℤ → ℕ → ℕ → ℤ → List Caller → StepResult
back_with cells temps room count result callers =
    caller_resumed (record { at = 0; base = 0; cells = cells; temps = temps; callers = []; room = room; count = count }) result callers

-- an entry does what a routine does, whoever waits for it; it changes no temporary from one on
pub record Serves (code : Code) (numbers calls : ℕ) (entry : FunctionEntry) (routine : Routine) : Type 0 where
  pub serves : (base : ℕ) (args : List ℤ) (cells : Cells) (temps : List ℤ) (callers : List Caller) (room count : ℕ) (end : StepResult) →
      numbers ≤ length temps → length callers + calls ≤ room →
      GoesOn code end (λ c n v. (after : List ℤ) → length after ≡ length temps → ((j : ℕ) → numbers ≤ j → cell_at after j ≡ cell_at temps j) →
      After code (back_with c after room n v callers) end) count (routine base args cells) →
      Arrives code (entry_state entry base args cells temps callers room count) end

-- the same function, or none
abbrev pub BothServe : Code → ℕ → ℕ → Option FunctionEntry → Option Routine → Type 0
BothServe code numbers calls None None = Unit {0}
BothServe code numbers calls (Some entry) (Some routine) = Serves code numbers calls entry routine
BothServe code numbers calls None (Some routine) = ⊥
BothServe code numbers calls (Some entry) None = ⊥

-- the same functions
pub record Knows (r : Run) (entries : Table FunctionEntry) (routines : Table Routine) : Type 0 where
  pub known : (name : Text) → BothServe r.code r.top r.calls (entries name) (routines name)

room-for : (n room calls : ℕ) → suc (n + calls) ≤ room → nat_lt n room ≡ true
room-for n room calls h = grind (arith, nat_tests)

module _ (r : Run) (here : Ground FunctionEntry) (depth : ℕ) (into : Operand) where
  enters : (entry : FunctionEntry) (n p : ℕ) (cells : Cells) (temps : List ℤ) (count : ℕ) (ns : List ℤ) (end : StepResult) → args_in temps depth n ≡ ns →
      Arrives r.code (entry_state entry (capped (r.base + here.frame)) ns cells temps (record { back = p + 1; base = r.base; into = into } ∷ r.callers) r.room count)
      end →
      After r.code (entering (st r p cells temps count)
      (record { entry = entry.entry; first = depth; args = n; passed = here.frame; frame = entry.frame; into = into })) end
  enters entry n p cells temps count ns end is h =
      let room : nat_lt (length r.callers) r.room ≡ true = room-for (length r.callers) r.room r.calls r.chain in
      subst (λ b. After r.code (if b then
      goes (entry_state entry (capped (r.base + here.frame)) (args_in temps depth n) cells temps (record { back = p + 1; base = r.base; into = into } ∷ r.callers)
      r.room count)
      else trapped cells count) end) (sym room)
      (subst (λ xs. Arrives r.code (entry_state entry (capped (r.base + here.frame)) xs cells temps
      (record { back = p + 1; base = r.base; into = into } ∷ r.callers) r.room count) end) (sym is) h)

  known-writes : (ws : List Valued) (fs : List (Evaluates ℤ)) → Args (Values r) ws fs → (entry : FunctionEntry) (routine : Routine) →
      Serves r.code r.top r.calls entry routine →
      Writes r (args_code (args_calm ws) depth ws ++ uncounted (known_call here depth (length ws) into (Some entry)) ∷ []) depth
      (call_value here.frame fs None (Some routine)) into
  known-writes ws fs args entry routine h p m q rest cells temps count end span fits next =
      let first : Code = args_code (args_calm ws) depth ws in
      let call : Code = uncounted (known_call here depth (length ws) into (Some entry)) ∷ [] in
      let whole : length (first ++ call) ≡ length first + 1 = length-append first call in
      let over : p + length (first ++ call) ≡ p + length first + 1 = omega arith in
      let high : depth + length (first ++ call) ≤ r.temps = fits.high in
      let low : r.top ≤ depth = fits.low in
      let long : r.temps ≤ length temps = fits.long in
      let l : FlatAnswer (List ℤ) = each_of fs r.base cells in
      let base : ℕ = capped (r.base + here.frame) in
      let chain : suc (length r.callers + r.calls) ≤ r.room = r.chain in
      let Next : Cells → ℕ → ℤ → Type 0 = λ c n v. (after : List ℤ) → Kept r depth temps after → Span r.code (p + length (first ++ call)) rest q →
      Arrives r.code (with_number (st r (p + length (first ++ call)) c after n) into v) end in
      args-give r (args_calm ws) depth ws fs args (λ is. is) p m q (call ++ rest) cells temps count end
      (span-is r.code p _ _ q (ap (with_begun m) (append_assoc first call rest)) span)
      (fits-fewer r depth (length (first ++ call)) (length first) temps fits (omega arith))
      (goes-next r end (DueGives r depth (λ cells temps ns. args_in temps depth (length ws) ≡ ns) (p + length first) q (call ++ rest) temps end) Next count l
      (λ after ns. routine base ns after) next
      (λ ns found due after m' kept is span'.
      let same : length after ≡ length temps = kept.long in
      let e : FlatAnswer ℤ = routine base ns l.cells in
      acts r (p + length first) m' q (known_call here depth (length ws) into (Some entry)) rest l.cells after (count + l.count) end span'
      (enters entry (length ws) (p + length first) l.cells after (count + l.count) ns end is
      (h.serves base ns l.cells after (record { back = p + length first + 1; base = r.base; into = into } ∷ r.callers) r.room (count + l.count) end
      (omega arith) (omega arith)
      (goes-map r end (λ c n v. (after' : List ℤ) → length after' ≡ length after → ((j : ℕ) → r.top ≤ j → cell_at after' j ≡ cell_at after j) →
      After r.code (back_with c after' r.room n v (record { back = p + length first + 1; base = r.base; into = into } ∷ r.callers)) end) Next e.cells (count + l.count + e.count) e.answer due
      (λ v found' after' long' keeps.
      subst (λ x. Arrives r.code (with_number (st r x e.cells after' (count + l.count + e.count)) into v) end) over
      (found' after' (record {
        long = long' ∙ kept.long;
        same = λ j lo hi. keeps j lo ∙ kept.same j lo hi;
        beyond = λ j lo. keeps j (omega arith) ∙ kept.beyond j lo;
      })
      (subst (λ x. Span r.code x rest q) (sym over)
      (acted r (p + length first) m' q (uncounted (known_call here depth (length ws) into (Some entry))) rest span')))))))))

-- ---- calls

and-both : (a b : Bool) → a && (b && true) ≡ true → a && b ≡ true
and-both true true h = refl
and-both true false h = h
and-both false b h = h

module _ (r : Run) (here : Ground FunctionEntry) where
  call-filled : (builtin : Option Builtin) (entry : Option FunctionEntry) (ws : List Valued) (late : Bool) (depth : ℕ) (into : Operand) →
      1 ≤ length (call_into here builtin entry ws late depth into)
  call-filled (Some b) entry [] late depth into = omega arith
  call-filled (Some b) entry (x ∷ []) late depth into = ending-filled (x.ready late depth) (λ a. act.One b into a)
  call-filled (Some b) entry (x ∷ y ∷ []) late depth into = pair-filled x y late depth (λ v w. act.Both b into v w)
  call-filled (Some b) entry (x ∷ y ∷ z ∷ ws) late depth into =
      omega (arith, length-append (args_code late depth (x ∷ y ∷ z ∷ ws)) (uncounted act.Stop ∷ []))
  call-filled None entry ws late depth into =
      omega (arith, length-append (args_code (args_calm ws) depth ws) (uncounted (known_call here depth (length ws) into entry) ∷ []))

  prelude-writes : (b : Builtin) (entry : Option FunctionEntry) (routine : Option Routine) (ws : List Valued) (fs : List (Evaluates ℤ)) → Args (Values r) ws fs →
      (late : Bool) (depth : ℕ) (into : Operand) → (late ≡ true → args_calm ws ≡ true) →
      Writes r (call_into here (Some b) entry ws late depth into) depth (call_value here.frame fs (Some b) routine) into
  prelude-writes b entry routine ws fs Args.none late depth into calm =
      stop-writes r late depth into [] [] Args.none calm (prelude_value b) (λ ns long. other-none b [] ns tt long)
  prelude-writes b entry routine ws fs (Args.one x f ws' fs' h Args.none) late depth into calm =
      one-writes r late depth into b x f h (λ is. and_first x.calm true (calm is))
  prelude-writes b entry routine ws fs (Args.one x f ws' fs' h (Args.one y g ws'' fs'' k Args.none)) late depth into calm =
      two-writes r late depth into b x y f g h k
      (λ is. and-both x.calm y.calm (calm is))
  prelude-writes b entry routine ws fs (Args.one x f ws' fs' h (Args.one y g ws'' fs'' k (Args.one z i ws''' fs''' j others))) late depth into calm =
      stop-writes r late depth into (x ∷ y ∷ z ∷ ws''') (f ∷ g ∷ i ∷ fs''')
      (Args.one x f (y ∷ z ∷ ws''') (g ∷ i ∷ fs''') h (Args.one y g (z ∷ ws''') (i ∷ fs''') k (Args.one z i ws''' fs''' j others))) calm (prelude_value b)
      (λ ns long. other-none b (x ∷ y ∷ z ∷ ws''') ns tt long)

  call-writes : (builtin : Option Builtin) (entry : Option FunctionEntry) (routine : Option Routine) → BothServe r.code r.top r.calls entry routine →
      (ws : List Valued) (fs : List (Evaluates ℤ)) → Args (Values r) ws fs →
      (late : Bool) (depth : ℕ) (into : Operand) → (late ≡ true → (is_some builtin && args_calm ws) ≡ true) →
      Writes r (call_into here builtin entry ws late depth into) depth (call_value here.frame fs builtin routine) into
  call-writes (Some b) entry routine both ws fs args late depth into calm = prelude-writes b entry routine ws fs args late depth into calm
  call-writes None None None both ws fs args late depth into calm =
      stop-writes r (args_calm ws) depth into ws fs args (λ is. is) (λ ns. None) (λ ns long. refl)
  call-writes None (Some entry) (Some routine) both ws fs args late depth into calm =
      known-writes r here depth into ws fs args entry routine both
  call-writes None None (Some routine) both ws fs args late depth into calm = absurd both
  call-writes None (Some entry) None both ws fs args late depth into calm = absurd both

  call-keeps : (builtin : Option Builtin) (routine : Option Routine) (ws : List Valued) (fs : List (Evaluates ℤ)) → Args (Values r) ws fs →
      is_some builtin && args_calm ws ≡ true → (base : ℕ) (cells : Cells) → (call_value here.frame fs builtin routine base cells).cells ≡ cells
  call-keeps (Some b) routine ws fs args calm base cells =
      keeps-then cells (each_of fs base cells) (λ after ns. flat_answer after (prelude_value b ns)) (args-keep r ws fs args calm base cells)
      (λ ns. args-keep r ws fs args calm base cells)
  call-keeps None routine ws fs args calm base cells = cc

  -- a call with its arguments
  pub call-values : (builtin : Option Builtin) (entry : Option FunctionEntry) (routine : Option Routine) → BothServe r.code r.top r.calls entry routine →
      (ws : List Valued) (fs : List (Evaluates ℤ)) → Args (Values r) ws fs →
      Values r (call_valued here builtin entry ws) (call_value here.frame fs builtin routine)
  call-values builtin entry routine both ws fs args =
      values-written r (is_some builtin && args_calm ws) (call_into here builtin entry ws) (call_value here.frame fs builtin routine)
      (call-keeps builtin routine ws fs args) (call-filled builtin entry ws) (call-writes builtin entry routine both ws fs args)
