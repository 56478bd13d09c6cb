-- The code of a loop, which grows at its front.
use Rattle.std.proofs.Common.{◌≡◌, ℕ, suc, ◌+◌, ◌-◌, pos, [], ◌∷◌, ◌++◌, length}
use Rattle.std.proofs.Common.{ap, sym, ◌∙◌, append_assoc, length-append, arith}
use Rattle.bl_crun_code.specs.declared.instruction.Instruction.{Instruction}
use Rattle.bl_crun_code.specs.declared.instruction.Operand.TheVariants as op
use Rattle.bl_crun_code.specs.declared.instruction.Act.TheVariants as act
use Rattle.bl_crun_code.specs.Code.{Code, Valued, code_of_loop, turn_begun, uncounted}
use Rattle.bl_crun_code_expressions.specs.Begun.{counted_once}

-- the beginning of a loop, and its way back
pub turning-done : (tested : Valued) (depth over passed : ℕ) (old c1 c2 c3 c4 body rest : Code) (was : Instruction) → c1 ≡ counted_once (act.Turn depth) ∷ old →
    passed ≡ length c1 - over → c2 ≡ tested.test tested.calm (suc depth) 0 passed ++ c1 →
    ((front behind : Code) (x : Instruction) → c2 ≡ front ++ x ∷ behind → length behind ≡ over →
    c3 ≡ front ++ uncounted (act.Again (length c2 - over - 1)) ∷ behind) →
    c4 ≡ counted_once (act.Constant (op.Temporary depth) (pos 0)) ∷ c3 → old ≡ body ++ was ∷ rest → length rest ≡ over →
    c4 ≡ code_of_loop tested depth body ++ rest
turning-done tested depth over passed old c1 c2 c3 c4 body rest was e1 far e2 set e4 is long =
    let t : Code = tested.test tested.calm (suc depth) 0 (length body + 2) in
    let first : Instruction = counted_once (act.Constant (op.Temporary depth) (pos 0)) in
    let old-long : length old ≡ length body + suc (length rest) = ap length is ∙ length-append body (was ∷ rest) in
    let c1-long : length c1 ≡ suc (length old) = ap length e1 in
    let over-all : passed ≡ length body + 2 = omega arith in
    let inner : Code = t ++ turn_begun depth ∷ body in
    let two : c2 ≡ inner ++ was ∷ rest =
    e2 ∙ ap (λ n. tested.test tested.calm (suc depth) 0 n ++ c1) over-all ∙ ap (λ c. t ++ c) (e1 ∙ ap (λ c. turn_begun depth ∷ c) is)
    ∙ sym (append_assoc t (turn_begun depth ∷ body) (was ∷ rest)) in
    let inner-long : length inner ≡ length t + suc (length body) = length-append t (turn_begun depth ∷ body) in
    let c2-long : length c2 ≡ length inner + suc (length rest) = ap length two ∙ length-append inner (was ∷ rest) in
    let way : length c2 - over - 1 ≡ length t + length body + 1 = omega arith in
    let back : Code = uncounted (act.Again (length t + length body + 1)) ∷ [] in
    let three : c3 ≡ (t ++ turn_begun depth ∷ (body ++ back)) ++ rest =
    set inner rest was two long ∙ ap (λ k. inner ++ uncounted (act.Again k) ∷ rest) way ∙ append_assoc t (turn_begun depth ∷ body) (back ++ rest)
    ∙ ap (λ c. t ++ turn_begun depth ∷ c) (sym (append_assoc body back rest))
    ∙ sym (append_assoc t (turn_begun depth ∷ (body ++ back)) rest) in
    e4 ∙ ap (λ c. first ∷ c) three
