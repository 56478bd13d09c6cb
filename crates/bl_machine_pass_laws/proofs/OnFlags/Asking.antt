-- The rule of a node asks for its flag where it could stand in one block with the node before it.
use Rattle.std.proofs.Common.{◌≡◌, inl, inr, ℕ, zero, suc, Bool, true, false, List, [], ◌∷◌, ◌++◌, Contains, map, ap, refl, sym, subst, ◌∙◌, arith}
use Rattle.bl_tree.specs.declared.place.Place.{Place}
use Rattle.bl_graph_nodes.specs.Nodes.{CheckAt, DepthEndAt, DepthJoinAt, ForkAt, HeadAt, Node, SurfaceEndAt, SurfaceJoinAt, TestAt, are_instant, is_instant}
use Rattle.bl_graph_nodes.specs.Plain.{Act, Again, Await, Block, Bodies, Body as BodyOf, Cobegin, Done, If, Label, Last, Plain, Repeat, Run as RunOf, Then}
use Rattle.bl_graph_nodes.specs.Plain.{Until, When, While}
use Rattle.bl_graph.specs.Edges.{Edge, EdgeAll, EdgeEach, Resume, ResumeAll, ResumeEach}
use Rattle.bl_machine.specs.Blocks.{goes_straight, is_join}
use Rattle.bl_machine.specs.Uses.{Slots}
use Rattle.bl_machine_pass.specs.Transitions.{Change, ClearsBoth, Finishes, Flagged, IsNew, RestedIn, SetsCounter, SetsFlag, Transition, age_of, body_ends, counters_in}
use Rattle.bl_machine_pass.specs.Transitions.{enter, fires, flagged, joins, once, rests_in, rule_where, rules, rules_in, rules_in_each, rules_of}
use Rattle.bl_machine_pass_laws.specs.Flags.{FlagsAreAsked}

-- the rule asks for a flag, or its node is a join or a resume node of the part, or an edge leads there from what is neither an act nor a head
pub data Waits (E : Node → Node → Type 0) (R : Node → Type 0) (rule : Transition) : Type 0 where
  by_flag : rule.condition ≡ Flagged → Waits E R rule
  at_join : is_join rule.node ≡ true → Waits E R rule
  resumes : R rule.node → Waits E R rule
  led : (k : Node) → goes_straight k ≡ false → E k rule.node → Waits E R rule

-- so it is of all these rules
abbrev pub AllWait : (Node → Node → Type 0) → (Node → Type 0) → List Transition → Type 0
AllWait E R [] = Unit {0}
AllWait E R (rule ∷ rest) = Waits E R rule × AllWait E R rest

both_wait : (E : Node → Node → Type 0) (R : Node → Type 0) (xs ys : List Transition) → AllWait E R xs → AllWait E R ys → AllWait E R (xs ++ ys)
both_wait E R [] ys one two = two
both_wait E R (x ∷ xs) ys one two = (one.0, both_wait E R xs ys one.1 two)

where_waits : (E : Node → Node → Type 0) (R : Node → Type 0) (test : Bool) (rule : Transition) → Waits E R rule → AllWait E R (rule_where test rule)
where_waits E R true rule waits = (waits, tt)
where_waits E R false rule waits = tt

-- in a greater part
all_wider : (E : Node → Node → Type 0) (R : Node → Type 0) (E' : Node → Node → Type 0) (R' : Node → Type 0) →
    ((k m : Node) → E k m → E' k m) → ((rule : Transition) → R rule.node → Waits E' R' rule) → (xs : List Transition) → AllWait E R xs → AllWait E' R' xs
all_wider E R E' R' edges resume [] all = tt
all_wider E R E' R' edges resume (rule ∷ rest) all = (by all.0, all_wider E R E' R' edges resume rest all.1)
  where
    by : Waits E R rule → Waits E' R' rule
    by (by_flag is) = by_flag is
    by (at_join is) = at_join is
    by (resumes there) = resume rule there
    by (led k crooked edge) = led k crooked (edges k rule.node edge)

module _ (slots : Slots) where
  mutual
    pub wait_plain : (s : Plain) (next : Change) → AllWait (Edge s) (Resume s) (rules_of slots s next)
    wait_plain (Act l s) next = (by_flag refl, tt)
    wait_plain (Await l at e) next = (by_flag refl, (resumes refl, tt))
    wait_plain (RunOf l at target a inputs outputs) next = (by_flag refl, (resumes refl, tt))
    wait_plain (If l at e body other) next = (
      by_flag refl,
      both_wait (Edge (If l at e body other)) (Resume (If l at e body other)) (rules_in slots body next) (rules_in slots other next)
          (all_wider (EdgeAll body) (ResumeAll body) (Edge (If l at e body other)) (Resume (If l at e body other)) (λ k m edge. inl edge)
          (λ rule there. resumes (inl there)) (rules_in slots body next) (wait_block body next))
          (all_wider (EdgeAll other) (ResumeAll other) (Edge (If l at e body other)) (Resume (If l at e body other)) (λ k m edge. inr (inl edge))
          (λ rule there. resumes (inr there)) (rules_in slots other next) (wait_block other next)),
    )
    wait_plain (Cobegin l at bodies) next = (
      by_flag refl,
      both_wait (Edge (Cobegin l at bodies)) (Resume (Cobegin l at bodies))
          (rule_where (is_instant (Cobegin l at bodies)) (joins slots l bodies (IsNew (ForkAt l at)) (SurfaceJoinAt l at) next))
          (joins slots l bodies (age_of (is_instant (Cobegin l at bodies)) (ForkAt l at)) (DepthJoinAt l at) next ∷ rules_in_each slots l 0 bodies)
          (where_waits (Edge (Cobegin l at bodies)) (Resume (Cobegin l at bodies)) (is_instant (Cobegin l at bodies))
          (joins slots l bodies (IsNew (ForkAt l at)) (SurfaceJoinAt l at) next) (at_join refl))
          (at_join refl, wait_each l at (is_instant (Cobegin l at bodies)) 0 bodies),
    )
    wait_plain (When l at guard e body) next = (
      by_flag refl,
      both_wait (Edge (When l at guard e body)) (Resume (When l at guard e body))
          (rule_where (are_instant body) (flagged (SurfaceEndAt l at) (next ∷ [])))
          (record {
            node = CheckAt l at e;
            condition = RestedIn (rests_in slots body);
            on_true = map ClearsBoth (once (counters_in slots body)) ++ fires guard l at body next ∷ [];
            on_false = [];
          }
          ∷ flagged (DepthEndAt l at) (next ∷ [])
          ∷ rules_in slots body (body_ends l at body))
          (where_waits (Edge (When l at guard e body)) (Resume (When l at guard e body)) (are_instant body)
          (flagged (SurfaceEndAt l at) (next ∷ [])) (by_flag refl)) (
            resumes refl,
            (
              by_flag refl,
              all_wider (EdgeAll body) (ResumeAll body) (Edge (When l at guard e body)) (Resume (When l at guard e body)) (λ k m edge. inl edge)
                  (λ rule there. led (CheckAt l at e) refl (inr (inr (inl (refl, there))))) (rules_in slots body (body_ends l at body))
                  (wait_block body (body_ends l at body)),
            ),
          ),
    )
    wait_plain (Repeat l at body) next = (
      by_flag refl,
      all_wider (EdgeAll body) (ResumeAll body) (Edge (Repeat l at body)) (Resume (Repeat l at body)) (λ k m edge. inl edge)
          (λ rule there. resumes there) (rules_in slots body (SetsFlag (HeadAt l at))) (wait_block body (SetsFlag (HeadAt l at))),
    )
    wait_plain (Until l at body e) next = (
      by_flag refl,
      (
        by_flag refl,
        all_wider (EdgeAll body) (ResumeAll body) (Edge (Until l at body e)) (Resume (Until l at body e)) (λ k m edge. inl edge)
            (λ rule there. resumes there) (rules_in slots body (SetsFlag (TestAt l at e))) (wait_block body (SetsFlag (TestAt l at e))),
      ),
    )
    wait_plain (While l at e body) next = (
      by_flag refl,
      all_wider (EdgeAll body) (ResumeAll body) (Edge (While l at e body)) (Resume (While l at e body)) (λ k m edge. inl edge)
          (λ rule there. resumes there) (rules_in slots body (SetsFlag (TestAt l at e))) (wait_block body (SetsFlag (TestAt l at e))),
    )
    wait_plain (Again l at body e) next = (
      by_flag refl,
      (
        by_flag refl,
        all_wider (EdgeAll body) (ResumeAll body) (Edge (Again l at body e)) (Resume (Again l at body e)) (λ k m edge. inl edge)
            (λ rule there. resumes there) (rules_in slots body (SetsFlag (TestAt l at e))) (wait_block body (SetsFlag (TestAt l at e))),
      ),
    )

    pub wait_block : (body : Block) (next : Change) → AllWait (EdgeAll body) (ResumeAll body) (rules_in slots body next)
    wait_block Done next = tt
    wait_block (Then s rest) next =
        both_wait (EdgeAll (Then s rest)) (ResumeAll (Then s rest)) (rules_of slots s (enter rest next)) (rules_in slots rest next)
        (all_wider (Edge s) (Resume s) (EdgeAll (Then s rest)) (ResumeAll (Then s rest)) (λ k m edge. inl edge) (λ rule there. resumes (inl there))
        (rules_of slots s (enter rest next)) (wait_plain s (enter rest next)))
        (all_wider (EdgeAll rest) (ResumeAll rest) (EdgeAll (Then s rest)) (ResumeAll (Then s rest)) (λ k m edge. inr (inl edge))
        (λ rule there. resumes (inr there)) (rules_in slots rest next) (wait_block rest next))

    wait_each : (l : Label) (at : Place) (instant : Bool) (k : ℕ) (bodies : Bodies) →
        AllWait (EdgeEach bodies l at instant) (ResumeEach bodies) (rules_in_each slots l k bodies)
    wait_each l at instant k Last = tt
    wait_each l at instant k (BodyOf weak body rest) =
        both_wait (EdgeEach (BodyOf weak body rest) l at instant) (ResumeEach (BodyOf weak body rest))
        (rules_in slots body (SetsCounter (slots.ending l k))) (rules_in_each slots l (suc k) rest)
        (all_wider (EdgeAll body) (ResumeAll body) (EdgeEach (BodyOf weak body rest) l at instant) (ResumeEach (BodyOf weak body rest))
        (λ n m edge. inl edge) (λ rule there. resumes (inl there)) (rules_in slots body (SetsCounter (slots.ending l k)))
        (wait_block body (SetsCounter (slots.ending l k))))
        (all_wider (EdgeEach rest l at instant) (ResumeEach rest) (EdgeEach (BodyOf weak body rest) l at instant) (ResumeEach (BodyOf weak body rest))
        (λ n m edge. inr (inr (inr (inr edge)))) (λ rule there. resumes (inr there)) (rules_in_each slots l (suc k) rest)
        (wait_each l at instant (suc k) rest))

rule_waits : (E : Node → Node → Type 0) (R : Node → Type 0) (some : List Transition) (rule : Transition) → AllWait E R some →
    Contains some rule → Waits E R rule
rule_waits E R [] rule all has = let less = has.1 in absurd (omega (arith, less))
rule_waits E R (r ∷ rest) rule all (zero, within, is) = subst (λ (x : Transition). Waits E R x) is all.0
rule_waits E R (r ∷ rest) rule all (suc k, within, is) = rule_waits E R rest rule all.1 (k, omega arith, is)

pub flags_asked : FlagsAreAsked
flags_asked slots body n m rule follow there is =
    by (rule_waits (EdgeAll body) (ResumeAll body) (rules slots body) rule (wait_block slots body Finishes) there)
  where
    differ : true ≡ false → rule.condition ≡ Flagged
    differ h = absurd (cc)

    by : Waits (EdgeAll body) (ResumeAll body) rule → rule.condition ≡ Flagged
    by (by_flag asked) = asked
    by (at_join join) = differ (sym join ∙ ap is_join is ∙ follow.no_join)
    by (resumes resume) = absurd (follow.no_resume (subst (ResumeAll body) is resume))
    by (led k crooked edge) =
        differ (sym follow.straight ∙ ap goes_straight (sym (follow.alone k (subst (λ (x : Node). EdgeAll body k x) is edge))) ∙ crooked)
