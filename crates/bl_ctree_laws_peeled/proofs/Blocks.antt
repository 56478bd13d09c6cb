-- Blocks one before another, and first turns of loops unrolled in both.
use Rattle.std.proofs.Common.{◌≡◌, Bool, true, false, ◌&&◌, ◌||◌, refl, ap, ◌∙◌, subst}
use Rattle.bl_tree.specs.declared.static_path.Static.{Static}
use Rattle.bl_graph_nodes.specs.Nodes.{Node, are_instant, is_instant}
use Rattle.bl_graph_nodes.specs.Plain.{Block, Bodies, Plain, Act, Again, Await, Body as BodyOf, Cobegin, Done, If, Last, Repeat, Run as RunOf, Then, Until}
use Rattle.bl_graph_nodes.specs.Plain.{When, While}
use Rattle.bl_ctree_laws.specs.Pending.{soon, soon_in}
use Rattle.bl_ctree_laws.specs.Trees.{before}
use Rattle.bl_ctree_laws_peeled.specs.Answers.{BlocksUnrollToThemselves, UnrollingJoins}
use Rattle.bl_ctree_laws_peeled.specs.Unrolls.{PlainUnrolls, EachUnrolls, Unrolls, acts_alike, again_if, agains_alike, awaits_alike, cobegins_alike}
use Rattle.bl_ctree_laws_peeled.specs.Unrolls.{first_alike, first_repeat, first_until, ifs_alike, no_body, no_more, one_body, opened, repeats_alike, runs_alike}
use Rattle.bl_ctree_laws_peeled.specs.Unrolls.{untils_alike, whens_alike, while_if, whiles_alike}

pub before_assoc : (one two three : Block) → before (before one two) three ≡ before one (before two three)
before_assoc Done two three = refl
before_assoc (Then s rest) two three = ap (Then s) (before_assoc rest two three)

pub or_spread : (a b c d e : Bool) → (a || (b && (c || (d && e)))) ≡ ((a || (b && c)) || ((b && d) && e))
or_spread true b c d e = refl
or_spread false true c d e = refl
or_spread false false c d e = refl

pub soon_before : (test : Static → Bool) (body after : Block) →
    soon_in test (before body after) ≡ (soon_in test body || (are_instant body && soon_in test after))
soon_before test Done after = refl
soon_before test (Then s rest) after =
    ap (λ b. soon test s || (is_instant s && b)) (soon_before test rest after)
    ∙ or_spread (soon test s) (is_instant s) (soon_in test rest) (are_instant rest) (soon_in test after)

module _ {H : Node → Plain → Type 0} where
  pub unrolls_before : {body body' after after' : Block} → Unrolls H body body' → Unrolls H after after' → Unrolls H (before body after) (before body' after')
  unrolls_before no_more more = more
  unrolls_before (first_alike alike rest) more = first_alike alike (unrolls_before rest more)
  unrolls_before {after = after} {after' = after'} (first_repeat {l} {at} {body} {rest} {t} {rest'} falls turned) more =
      first_repeat falls
      (subst (λ one. Unrolls H one (Then t (before rest' after'))) (before_assoc (opened (Repeat l at body)) rest after) (unrolls_before turned more))
  unrolls_before {after = after} {after' = after'} (first_until {l} {at} {body} {e} {rest} {t} {rest'} falls turned) more =
      first_until falls
      (subst (λ one. Unrolls H one (Then t (before rest' after'))) (before_assoc (opened (Until l at body e)) rest after) (unrolls_before turned more))

  mutual
    pub block_same : (body : Block) → Unrolls H body body
    block_same Done = no_more
    block_same (Then s rest) = first_alike (plain_same s) (block_same rest)

    pub plain_same : (s : Plain) → PlainUnrolls H s s
    plain_same (Act l s) = acts_alike
    plain_same (Await l at e) = awaits_alike
    plain_same (RunOf l at target a inputs outputs) = runs_alike
    plain_same (If l at e body other) = ifs_alike (block_same body) (block_same other)
    plain_same (Cobegin l at bodies) = cobegins_alike (bodies_same bodies)
    plain_same (When l at guard e body) = whens_alike (block_same body)
    plain_same (Repeat l at body) = repeats_alike (block_same body)
    plain_same (Until l at body e) = untils_alike (block_same body)
    plain_same (While l at e body) = whiles_alike (block_same body)
    plain_same (Again l at body e) = agains_alike (block_same body)

    pub bodies_same : (bodies : Bodies) → EachUnrolls H bodies bodies
    bodies_same Last = no_body
    bodies_same (BodyOf weak body rest) = one_body (block_same body) (bodies_same rest)

-- where more heads may fall away
module _ {H K : Node → Plain → Type 0} (more : (n : Node) (s : Plain) → H n s → K n s) where
  mutual
    pub unrolls_more : {body body' : Block} → Unrolls H body body' → Unrolls K body body'
    unrolls_more no_more = no_more
    unrolls_more (first_alike alike rest) = first_alike (alike_more alike) (unrolls_more rest)
    unrolls_more (first_repeat falls turned) = first_repeat (more _ _ falls) (unrolls_more turned)
    unrolls_more (first_until falls turned) = first_until (more _ _ falls) (unrolls_more turned)

    pub alike_more : {s t : Plain} → PlainUnrolls H s t → PlainUnrolls K s t
    alike_more acts_alike = acts_alike
    alike_more awaits_alike = awaits_alike
    alike_more runs_alike = runs_alike
    alike_more (ifs_alike body other) = ifs_alike (unrolls_more body) (unrolls_more other)
    alike_more (cobegins_alike bodies) = cobegins_alike (each_more bodies)
    alike_more (whens_alike body) = whens_alike (unrolls_more body)
    alike_more (repeats_alike body) = repeats_alike (unrolls_more body)
    alike_more (untils_alike body) = untils_alike (unrolls_more body)
    alike_more (whiles_alike body) = whiles_alike (unrolls_more body)
    alike_more (agains_alike body) = agains_alike (unrolls_more body)
    alike_more (while_if body) = while_if (unrolls_more body)
    alike_more (again_if other) = again_if (unrolls_more other)

    pub each_more : {bodies bodies' : Bodies} → EachUnrolls H bodies bodies' → EachUnrolls K bodies bodies'
    each_more no_body = no_body
    each_more (one_body body rest) = one_body (unrolls_more body) (each_more rest)

pub blocks_are_same : BlocksUnrollToThemselves
blocks_are_same i body = block_same body

pub unrolling_joins : UnrollingJoins
unrolling_joins i body body' after after' one other = unrolls_before one other
