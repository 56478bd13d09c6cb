-- The C of two arms.
use Rattle.std.proofs.Common.{◌≡◌, ◌<◌, ◌≤◌, List, [], ◌∷◌, length, map, get_or, sym, ap, ◌∙◌, arith}
use Rattle.bl_tree.specs.declared.c.CExpr.{CExpr}
use Rattle.bl_tree.specs.declared.tree.Arm.{Arm, fold_out-Arm, out-Arm}
use Rattle.bl_tree.specs.declared.tree.Stmt.{Stmt}
use Rattle.bl_tree.specs.Typing.{TypingContext}
use Rattle.bl_emit_acts.specs.Acts.{code_made}
use Rattle.bl_emit_functions.specs.declared.coded.ArmsCoded.TheVariants.{Two}
use Rattle.bl_emit_functions.specs.declared.coded.Coded.{Coded}
use Rattle.bl_emit_functions.specs.declared.coded.Free.{Free}
use Rattle.bl_emit_functions.specs.Statements.{ArmCodes, Codes, arm_codes, arms_coded, block_codes, branch_codes, codes_of, codes_of_arm, kind_codes}
use Rattle.bl_emit_functions.specs.Statements.{stmt_codes}

module _ (site : TypingContext) (free : Free) where
  abbrev block : List Stmt → Codes
  block body = block_codes (map (codes_of site) body)

  arm_out : (arm : Arm) → codes_of_arm site arm ≡ record { test = code_made site (out-Arm arm).test; body = block (out-Arm arm).body }
  arm_out arm = fold_out-Arm Codes ArmCodes Codes Codes (kind_codes site) (arm_codes site) branch_codes stmt_codes arm

  two_coded : (arms : List Arm) (first second : Arm) → 2 ≤ length arms → length arms < 3 → first ≡ get_or arms 0 first →
      second ≡ get_or arms 1 second →
      arms_coded (codes_of_arm site first ∷ codes_of_arm site second ∷ []) free ≡ arms_coded (map (codes_of_arm site) arms) free
  two_coded [] first second least below one two = absurd (omega (arith, least))
  two_coded (x ∷ []) first second least below one two = absurd (omega (arith, least))
  two_coded (x ∷ y ∷ []) first second least below one two =
      ap (λ (arm : Arm). arms_coded (codes_of_arm site arm ∷ codes_of_arm site second ∷ []) free) one
      ∙ ap (λ (arm : Arm). arms_coded (codes_of_arm site x ∷ codes_of_arm site arm ∷ []) free) two
  two_coded (x ∷ y ∷ z ∷ rest) first second least below one two = absurd (omega (arith, below))

  pub two-made : (arms : List Arm) (first second : Arm) (test further : CExpr) (here there : List Stmt) (body inner : Coded) → 2 ≤ length arms →
      length arms < 3 → first ≡ get_or arms 0 first → second ≡ get_or arms 1 second → test ≡ code_made site (out-Arm first).test →
      here ≡ (out-Arm first).body → body ≡ block here free → further ≡ code_made site (out-Arm second).test → there ≡ (out-Arm second).body →
      inner ≡ block there body.free →
      Two test body further inner ≡ arms_coded (map (codes_of_arm site) arms) free
  two-made arms first second test further here there body inner least below one two test_is here_is body_is further_is there_is inner_is =
      let own : body ≡ block (out-Arm first).body free = body_is ∙ ap (λ (here : List Stmt). block here free) here_is in
      let last : inner ≡ block (out-Arm second).body (block (out-Arm first).body free).free =
      inner_is
      ∙ (ap (λ (there : List Stmt). block there body.free) there_is ∙ ap (λ (body : Coded). block (out-Arm second).body body.free) own) in
      let made : Two test body further inner
      ≡ Two (code_made site (out-Arm first).test) (block (out-Arm first).body free) (code_made site (out-Arm second).test)
      (block (out-Arm second).body (block (out-Arm first).body free).free) =
      λ i. Two (test_is i) (own i) (further_is i) (last i) in
      let out : arms_coded (codes_of_arm site first ∷ codes_of_arm site second ∷ []) free
      ≡ Two (code_made site (out-Arm first).test) (block (out-Arm first).body free) (code_made site (out-Arm second).test)
      (block (out-Arm second).body (block (out-Arm first).body free).free) =
      λ i. arms_coded (arm_out first i ∷ arm_out second i ∷ []) free in
      made ∙ (sym out ∙ two_coded arms first second least below one two)
