-- A part fits if it uses the faces before it, and no others.
use Rattle.std.proofs.Common.{◌≡◌, ◌∙◌, ℕ, ◌<◌, true, false, List, length, get_or, refl, ap, subst, sym, arith}
use Rattle.bl_face.specs.declared.face.Face.{Face}
use Rattle.bl_link.proofs.Fitting.{SameFaces, all_fit, no_face, same_next}
use Rattle.bl_link.proofs.fits.face_fits.Goals as goal

false_not_true : false ≡ true → ⊥
false_not_true e = cc

pub returns-then-not-is_same : goal.returns-then-not-is_same
returns-then-not-is_same c =
    let size = sym (ap length c.uses-uses.ensures) ∙ c.loop-j.invariant.size in
    let at = subst (λ (them : List Face). c.index-uses-j.result ≡ get_or them c.loop-j.j c.index-uses-j.result) c.uses-uses.ensures
    c.index-uses-j.is in (
      λ no. absurd (false_not_true no),
      λ fits. absurd
          (no_face c.args.parts.now c.args.k c.index-parts-k.result c.requires c.index-parts-k.is c.loop-j.j c.index-uses-j.result
          c.index-parts-j.result c.loop-j-test.true size at c.index-parts-j.is
          (λ same. false_not_true (c.if-not-is_same.ensures.1 (same ∙ sym (ap (λ (face : Face). face.items) c.face.ensures)))) fits),
    )

pub loop-j-preserved : goal.loop-j-preserved
loop-j-preserved c =
    let inside : c.loop-j.j < length c.uses-uses.result.now = omega (arith, c.loop-j-test.true, c.loop-j.invariant.size) in
    let below : c.loop-j.j < length c.args.parts.now = omega (arith, c.loop-j-test.true, c.requires) in
    let same = c.if-not-is_same.ensures.0 refl ∙ ap (λ (face : Face). face.items) c.face.ensures in record {
      size = c.loop-j.invariant.size;
      within = omega (arith, c.loop-j-test.true);
      same = same_next c.uses-uses.result.now c.args.parts.now c.loop-j.j c.index-uses-j.result c.index-parts-j.result inside below
          c.index-uses-j.is c.index-parts-j.is same c.loop-j.invariant.same;
    }

pub returns : goal.returns
returns c =
    let end : c.loop-j.j ≡ c.args.k = omega (arith, c.loop-j-test.false, c.loop-j.invariant.within) in
    let size = sym (ap length c.uses-uses.ensures) ∙ c.loop-j.invariant.size in
    let same = subst (λ (them : List Face). SameFaces them c.args.parts.now c.args.k) c.uses-uses.ensures
    (subst (λ (n : ℕ). SameFaces c.uses-uses.result.now c.args.parts.now n) end c.loop-j.invariant.same) in
    (λ yes. all_fit c.args.parts.now c.args.k c.index-parts-k.result c.requires c.index-parts-k.is size same, λ fits. refl)
