-- The code of what is read at a place, of its address, and of two operands.
use Rattle.std.proofs.Common.{◌≡◌, ◌≤◌, ℕ, ◌+◌, ℤ, pos, Bool, true, false, List, [], ◌∷◌, ◌++◌, length, Option, Some, None, refl, ap, sym, ◌∙◌, subst}
use Rattle.std.proofs.Common.{append_assoc, length-append, arith}
use Rattle.std.specs.Prelude.{◌&&◌}
use Rattle.bl_tree.proofs.Basics.{and_first, and_second}
use Rattle.bl_tree.specs.declared.c.CType.{CType}
use Rattle.bl_tree.specs.declared.c.CType.TheVariants.{Scalar as OfScalar, Struct as OfStruct}
use Rattle.bl_ctext_semantics_laws.specs.Flat.{Cells, Evaluates, FlatAnswer, address_of, cell_at, flat_answer, flat_next, read_at}
use Rattle.bl_ctext_semantics_laws.specs.Reaching.{Reach}
use Rattle.bl_crun_code.specs.declared.instruction.Act.{Act}
use Rattle.bl_crun_code.specs.declared.instruction.Act.TheVariants as act
use Rattle.bl_crun_code.specs.declared.instruction.Operand.{Operand}
use Rattle.bl_crun_code.specs.declared.instruction.Operand.TheVariants as op
use Rattle.bl_crun_code.specs.Code.{Code, Ready, Valued, address_in, address_ready, address_valued, with_begun, depth_behind, ending_with, fetched_ready, fetched_valued, uncounted}
use Rattle.bl_crun_code.specs.Code.{pair_code, reach_calm, reach_ready, read_valued}
use Rattle.bl_crun_code.specs.Vm.{StepResult, does, operand_number}
use Rattle.bl_crun_code.proofs.Runs.{After, Goes, Kept, Run, Span, fits-fewer, fits-to, goes-next, kept-then, span-is, st}
use Rattle.bl_crun_code.proofs.Parts.{Does, Due, DueGives, Gives, Holds, Values, Writes, act-at, behind-more, gives-map, held}
use Rattle.bl_crun_code.proofs.Operands.{ending-filled, made-gives, moved, values-valued}
use Rattle.bl_crun_code.proofs.Places.{PlaceIs, Spots, address-behind, address-capped, is-capped, keeps-then, spot-read}

-- ---- addresses

abbrev pub address_value : Reach (Evaluates ℤ) → Evaluates ℤ
address_value u base cells = flat_next (address_of u base cells) (λ after k. flat_answer after (Some (pos k)))

address-gives : (r : Run) (reach : Reach Valued) (u : Reach (Evaluates ℤ)) → Spots r reach u → (late : Bool) (depth : ℕ) →
    (late ≡ true → reach_calm reach ≡ true) →
    Gives r (reach_ready reach late depth).code depth (address_value u)
    (λ cells temps v. operand_number r.base cells temps (address_in (reach_ready reach late depth).it) ≡ v)
address-gives r reach u h late depth calm =
    gives-map r (reach_ready reach late depth).code depth (address_of u) (PlaceIs r (reach_ready reach late depth).it) (h.gives late depth calm) (λ c k. pos k)
    (λ cells temps v. operand_number r.base cells temps (address_in (reach_ready reach late depth).it) ≡ v)
    (λ start cells temps k found is. is)

-- the address of a place
pub address-values : (r : Run) (reach : Reach Valued) (u : Reach (Evaluates ℤ)) → Spots r reach u → Values r (address_valued reach) (address_value u)
address-values r reach u h =
    values-valued r (reach_calm reach) (address_ready reach) (λ late depth into. ending_with (address_ready reach late depth) (λ a. act.Move into a))
    (address_value u)
    (λ calm base cells. keeps-then cells (address_of u base cells) (λ after k. flat_answer after (Some (pos k))) (h.keeps calm base cells)
    (λ k. h.keeps calm base cells))
    (λ late depth. h.holds late depth)
    (λ late depth.
    subst (λ n. n ≤ depth + length (reach_ready reach late depth).code) (sym (address-behind depth (reach_ready reach late depth).it)) (h.deep late depth))
    (λ late depth calm. address-gives r reach u h late depth calm) (λ late depth into. ending-filled (address_ready reach late depth) (λ a. act.Move into a))
    (λ late depth into calm. moved r (address_ready reach late depth) depth (address_value u) into (address-gives r reach u h late depth calm))

-- ---- scalars

abbrev fetched_value : Reach (Evaluates ℤ) → Evaluates ℤ
fetched_value u base cells = flat_next (address_of u base cells) (λ after k. flat_answer after (Some (cell_at after k)))

fetched-gives : (r : Run) (reach : Reach Valued) (u : Reach (Evaluates ℤ)) → Spots r reach u → (late : Bool) (depth : ℕ) →
    (late ≡ true → reach_calm reach ≡ true) →
    Gives r (reach_ready reach late depth).code depth (fetched_value u) (λ cells temps v. operand_number r.base cells temps (reach_ready reach late depth).it ≡ v)
fetched-gives r reach u h late depth calm =
    gives-map r (reach_ready reach late depth).code depth (address_of u) (PlaceIs r (reach_ready reach late depth).it) (h.gives late depth calm)
    (λ c k. cell_at c k) (λ cells temps v. operand_number r.base cells temps (reach_ready reach late depth).it ≡ v)
    (λ start cells temps k found is.
    spot-read (reach_ready reach late depth).it (h.spot late depth) r.base cells temps k
    (is-capped (address_of u r.base start).answer k (address-capped u r.base start) found) is)

fetched-writes : (r : Run) (reach : Reach Valued) (u : Reach (Evaluates ℤ)) → Spots r reach u → (late : Bool) (depth : ℕ) (into : Operand) →
    (late ≡ true → reach_calm reach ≡ true) → Writes r (ending_with (reach_ready reach late depth) (λ a. act.Move into a)) depth (fetched_value u) into
fetched-writes r reach u h late depth into calm =
    moved r (reach_ready reach late depth) depth (fetched_value u) into (fetched-gives r reach u h late depth calm)

ready-holds : (r : Run) (reach : Reach Valued) (u : Reach (Evaluates ℤ)) → Spots r reach u → (late : Bool) (depth : ℕ) →
    Holds late depth (fetched_ready reach late depth).it
ready-holds r reach u h true depth = h.stands depth
ready-holds r reach u h false depth = refl

ready-deep : (r : Run) (reach : Reach Valued) (u : Reach (Evaluates ℤ)) → Spots r reach u → (late : Bool) (depth : ℕ) →
    depth_behind depth (fetched_ready reach late depth).it ≤ depth + length (fetched_ready reach late depth).code
ready-deep r reach u h true depth = h.deep true depth
ready-deep r reach u h false depth =
    let some : 1 ≤ length (ending_with (reach_ready reach false depth) (λ a. act.Move (op.Temporary depth) a)) =
    ending-filled (reach_ready reach false depth) (λ a. act.Move (op.Temporary depth) a) in
    omega arith

ready-gives : (r : Run) (reach : Reach Valued) (u : Reach (Evaluates ℤ)) → Spots r reach u → (late : Bool) (depth : ℕ) →
    (late ≡ true → reach_calm reach ≡ true) →
    Gives r (fetched_ready reach late depth).code depth (fetched_value u) (λ cells temps v. operand_number r.base cells temps (fetched_ready reach late depth).it ≡ v)
ready-gives r reach u h true depth calm = fetched-gives r reach u h true depth calm
ready-gives r reach u h false depth calm =
    made-gives r (ending_with (reach_ready reach false depth) (λ a. act.Move (op.Temporary depth) a)) depth (fetched_value u)
    (ending-filled (reach_ready reach false depth) (λ a. act.Move (op.Temporary depth) a))
    (fetched-writes r reach u h false depth (op.Temporary depth) calm)

fetched-values : (r : Run) (reach : Reach Valued) (u : Reach (Evaluates ℤ)) → Spots r reach u → Values r (fetched_valued reach) (fetched_value u)
fetched-values r reach u h =
    values-valued r (reach_calm reach) (fetched_ready reach) (λ late depth into. ending_with (reach_ready reach late depth) (λ a. act.Move into a))
    (fetched_value u)
    (λ calm base cells. keeps-then cells (address_of u base cells) (λ after k. flat_answer after (Some (cell_at after k))) (h.keeps calm base cells)
    (λ k. h.keeps calm base cells))
    (λ late depth. ready-holds r reach u h late depth) (λ late depth. ready-deep r reach u h late depth)
    (λ late depth calm. ready-gives r reach u h late depth calm) (λ late depth into. ending-filled (reach_ready reach late depth) (λ a. act.Move into a))
    (λ late depth into calm. fetched-writes r reach u h late depth into calm)

-- what is read at a place of a type
pub read-values : (r : Run) (reach : Reach Valued) (u : Reach (Evaluates ℤ)) → Spots r reach u → (ty : Option CType) →
    Values r (read_valued ty reach) (λ base cells. flat_next (address_of u base cells) (λ after k. flat_answer after (Some (read_at ty after k))))
read-values r reach u h None = address-values r reach u h
read-values r reach u h (Some (OfScalar s)) = fetched-values r reach u h
read-values r reach u h (Some (OfStruct name)) = address-values r reach u h

-- ---- two operands

abbrev pub two_answers : {B : Type 0} → (ℤ → ℤ → Option B) → Evaluates ℤ → Evaluates ℤ → Evaluates B
two_answers h f g base cells = flat_next (f base cells) (λ after a. flat_next (g base after) (λ last b. flat_answer last (h a b)))

pub pair-filled : (x y : Valued) (late : Bool) (depth : ℕ) (make : Operand → Operand → Act) → 1 ≤ length (pair_code x y late depth make)
pair-filled x y late depth make =
    let a : Ready = x.ready late depth in
    let last : Code = ending_with (y.ready late (depth_behind depth a.it)) (λ b. make a.it b) in
    let some : 1 ≤ length last = ending-filled (y.ready late (depth_behind depth a.it)) (λ b. make a.it b) in
    let whole : length (a.code ++ last) ≡ length a.code + length last = length-append a.code last in
    omega arith

-- both are evaluated, and then an instruction reads them
pub pair-does : {B : Type 0} (r : Run) (x y : Valued) (f g : Evaluates ℤ) → Values r x f → Values r y g → (late : Bool) (depth : ℕ) →
    (late ≡ true → x.calm && y.calm ≡ true) → (make : Operand → Operand → Act) (h : ℤ → ℤ → Option B) (Next : Due B) →
    ((p q : ℕ) (rest : Code) (temps : List ℤ) (end : StepResult) (cells : Cells) (n : ℕ) (v w : ℤ) (after : List ℤ) → Kept r depth temps after →
    operand_number r.base cells after (x.ready late depth).it ≡ v →
    operand_number r.base cells after (y.ready late (depth_behind depth (x.ready late depth).it)).it ≡ w → Span r.code (p + 1) rest q →
    Goes r.code end (Next (p + 1) q rest temps end) cells n (h v w) →
    After r.code (does (st r p cells after n) (make (x.ready late depth).it (y.ready late (depth_behind depth (x.ready late depth).it)).it)) end) →
    Does r (pair_code x y late depth make) depth (two_answers h f g) Next
pair-does r x y f g hx hy late depth calm make h Next last p m q rest cells temps count end span fits next =
    let a : Ready = x.ready late depth in
    let deeper : ℕ = depth_behind depth a.it in
    let b : Ready = y.ready late deeper in
    let tail : Code = ending_with b (λ o. make a.it o) in
    let l : FlatAnswer ℤ = f r.base cells in
    let quiet : late ≡ true → x.calm ≡ true = λ is. and_first x.calm y.calm (calm is) in
    let quiet' : late ≡ true → y.calm ≡ true = λ is. and_second x.calm y.calm (calm is) in
    let whole : length (a.code ++ tail) ≡ length a.code + length tail = length-append a.code tail in
    let longer : length (b.code ++ uncounted (make a.it b.it) ∷ []) ≡ length b.code + 1 = length-append b.code (uncounted (make a.it b.it) ∷ []) in
    let over : p + length (a.code ++ tail) ≡ p + length a.code + length b.code + 1 = omega arith in
    let deep : deeper ≤ depth + length a.code = hx.deep late depth in
    let more : depth ≤ deeper = behind-more depth a.it in
    let low : r.top ≤ depth = fits.low in
    hx.ready late depth quiet p m q (tail ++ rest) cells temps count end
    (span-is r.code p _ _ q (ap (with_begun m) (append_assoc a.code tail rest)) span)
    (fits-fewer r depth (length (a.code ++ tail)) (length a.code) temps fits (omega arith))
    (goes-next r end (DueGives r depth (λ cells temps v. operand_number r.base cells temps a.it ≡ v) (p + length a.code) q (tail ++ rest) temps end)
    (Next (p + length (a.code ++ tail)) q rest temps end) count l
    (λ after v. flat_next (g r.base after) (λ last w. flat_answer last (h v w))) next
    (λ v found due after m' kept is here.
    act-at r b.code deeper g (λ cells temps w. operand_number r.base cells temps b.it ≡ w) (hy.ready late deeper quiet') (make a.it b.it) (λ c w. h v w)
    (p + length a.code) m' q rest l.cells after (count + l.count) end here
    (fits-to r depth (length (a.code ++ tail)) temps deeper (length tail) after fits kept.long more (omega arith))
    (Next (p + length (a.code ++ tail)) q rest temps end) due
    (λ w after' found' kept' is' here' long due'.
    let e : FlatAnswer ℤ = g r.base l.cells in
    last (p + length a.code + length b.code) q rest temps end e.cells (count + l.count + e.count) v w after'
    (kept-then r depth deeper temps after after' kept kept' more)
    (held late r depth a.it (hx.holds late depth) r.base l.cells e.cells after after' (λ now. hy.keeps (quiet' now) r.base l.cells) kept' low ∙ is)
    is' here'
    (subst (λ x. Goes r.code end (Next x q rest temps end) e.cells (count + l.count + e.count) (h v w)) over due'))))
