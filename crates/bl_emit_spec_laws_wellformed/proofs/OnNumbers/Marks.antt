-- A rule sets no mark but that of its own node.
use Rattle.std.proofs.Common.{◌≡◌, ℕ, suc, Bool, true, false}
use Rattle.std.proofs.Common.{List, [], ◌∷◌, ◌++◌, map, refl, sym, ap, ◌∙◌}
use Rattle.std.specs.Prelude.{if◌then◌else◌}
use Rattle.bl_tree.specs.declared.place.Place.{Place}
use Rattle.bl_tree.specs.declared.tree.Guard.{Guard}
use Rattle.bl_tree.specs.declared.tree.Guard.TheVariants.{Abort, Reset}
use Rattle.bl_tree.specs.Reduce.{joined}
use Rattle.bl_graph_nodes.specs.Nodes.{DepthEndAt, ForkAt, HeadAt, Node, StartAt, SurfaceEndAt, TestAt, are_instant, is_instant}
use Rattle.bl_graph_nodes.specs.Plain.{Act, Again, Await, Block, Bodies, Body, Cobegin, Done, If, Label, Last, Plain, Repeat, Run, Then, Until, When, While}
use Rattle.bl_machine.specs.Uses.{Slots}
use Rattle.bl_machine_pass.specs.Transitions.{Change, Transition, body_ends, enter, enter_each, fires, flagged}
use Rattle.bl_machine_pass.specs.Transitions.{marked, once, rule_where, rules_in, rules_in_each, rules_of}
use Rattle.bl_machine_pass.specs.Transitions.{ClearsBoth, ClearsCounter, EndsWhen, SetsCounter, SetsFlag, counters_in, counters_in_each}
use Rattle.bl_emit_spec_laws_wellformed.specs.Names.{mark_number, mark_numbers}
use Rattle.bl_emit_spec_laws_wellformed.proofs.OnNodes.Rules.{depth_end, surface_end, surface_join}
use Rattle.bl_machine_pass_laws.proofs.OnNumbers.Parts.{check, depth_join}

module _ (number : Node → ℕ) where
  -- a change that sets no mark
  abbrev pub Plainly : Change → Type 0
  Plainly change = mark_number number change ≡ []

  -- a rule that sets none, or that of its node
  pub data Owns (rule : Transition) : Type 0 where
    None_set : mark_numbers number rule ≡ [] → Owns rule
    Own_set : mark_numbers number rule ≡ number rule.node ∷ [] → Owns rule

  abbrev pub AllOwn : List Transition → Type 0
  AllOwn [] = Unit {0}
  AllOwn (rule ∷ rules) = Owns rule × AllOwn rules

  own_append : (xs ys : List Transition) → AllOwn xs → AllOwn ys → AllOwn (xs ++ ys)
  own_append [] ys one other = other
  own_append (x ∷ xs) ys one other = (one.0, own_append xs ys one.1 other)

  abbrev marks_in : List Change → List ℕ
  marks_in changes = joined (map (mark_number number) changes)

  -- changes none of which sets a mark
  first_plain : (change : Change) (rest : List Change) → Plainly change → marks_in rest ≡ [] → marks_in (change ∷ rest) ≡ []
  first_plain change rest one more = ap (λ ns. ns ++ marks_in rest) one ∙ more

  append_plain : (xs ys : List Change) → marks_in xs ≡ [] → marks_in ys ≡ [] → marks_in (xs ++ ys) ≡ []
  append_plain [] ys one other = other
  append_plain (x ∷ xs) ys one other = by (mark_number number x) refl (append_plain xs ys)
    where
      by : (ns : List ℕ) → mark_number number x ≡ ns → (marks_in xs ≡ [] → marks_in ys ≡ [] → marks_in (xs ++ ys) ≡ []) →
          marks_in (x ∷ (xs ++ ys)) ≡ []
      by [] is rest = first_plain x (xs ++ ys) is (rest (sym (ap (λ ns. ns ++ marks_in xs) is) ∙ one) other)
      by (n ∷ ns) is rest = absurd (let no = sym (ap (λ ns. ns ++ marks_in xs) is) ∙ one in cc)

  single_plain : (change : Change) → Plainly change → marks_in (change ∷ []) ≡ []
  single_plain change one = first_plain change [] one refl

  frees_plain : (ks : List ℕ) → marks_in (map ClearsCounter ks) ≡ []
  frees_plain [] = refl
  frees_plain (k ∷ ks) = frees_plain ks

  forgets_plain : (ks : List ℕ) → marks_in (map ClearsBoth ks) ≡ []
  forgets_plain [] = refl
  forgets_plain (k ∷ ks) = forgets_plain ks

  enter_plain : (body : Block) (next : Change) → Plainly next → Plainly (enter body next)
  enter_plain Done next plain = plain
  enter_plain (Then s rest) next plain = refl

  enter_each_plain : (slots : Slots) (l : Label) (k : ℕ) (bodies : Bodies) → marks_in (enter_each slots l k bodies) ≡ []
  enter_each_plain slots l k Last = refl
  enter_each_plain slots l k (Body weak body rest) =
      first_plain (enter body (SetsCounter (slots.ending l k))) (enter_each slots l (suc k) rest) (enter_plain body (SetsCounter (slots.ending l k)) refl)
      (enter_each_plain slots l (suc k) rest)

  ends_plain : (l : Label) (at : Place) (body : Block) → Plainly (body_ends l at body)
  ends_plain l at body = by (are_instant body)
    where
      by : (b : Bool) → Plainly (if b then EndsWhen (StartAt l at) (SurfaceEndAt l at) (DepthEndAt l at) else SetsFlag (DepthEndAt l at))
      by true = refl
      by false = refl

  fires_plain : (guard : Guard) (l : Label) (at : Place) (body : Block) (next : Change) → Plainly next → Plainly (fires guard l at body next)
  fires_plain Abort l at body next plain = plain
  fires_plain Reset l at body next plain = enter_plain body (body_ends l at body) (ends_plain l at body)

  -- a rule whose changes may begin with the mark of its node
  marked_own : (rule : Transition) (instant : Bool) (rest : List Change) → rule.on_true ≡ marked instant rule.node rest → marks_in rest ≡ [] →
      Owns rule
  marked_own rule true rest is none = Own_set (ap marks_in is ∙ ap (λ ns. number rule.node ∷ ns) none)
  marked_own rule false rest is none = None_set (ap marks_in is ∙ none)

  where_own : (test : Bool) (rule : Transition) → Owns rule → AllOwn (rule_where test rule)
  where_own true rule own = (own, tt)
  where_own false rule own = tt

  mutual
    pub of_plain : (slots : Slots) (s : Plain) (next : Change) → Plainly next → AllOwn (rules_of slots s next)
    of_plain slots (Act l s) next plain = (None_set (single_plain next plain), tt)
    of_plain slots (Await l at e) next plain = (None_set refl, (None_set (single_plain next plain), tt))
    of_plain slots (Run l at target a inputs outputs) next plain = (None_set refl, (None_set (single_plain next plain), tt))
    of_plain slots (If l at e body other) next plain = (
      None_set (single_plain (enter body next) (enter_plain body next plain)),
      own_append (rules_in slots body next) (rules_in slots other next) (of_block slots body next plain) (of_block slots other next plain),
    )
    of_plain slots (Cobegin l at bodies) next plain = (
      marked_own
          (flagged (ForkAt l at) (marked (is_instant (Cobegin l at bodies)) (ForkAt l at) (enter_each slots l 0 bodies)))
          (is_instant (Cobegin l at bodies)) (enter_each slots l 0 bodies) refl (enter_each_plain slots l 0 bodies),
      own_append (rule_where (is_instant (Cobegin l at bodies)) (surface_join slots l at bodies next))
          (depth_join slots l at bodies next ∷ rules_in_each slots l 0 bodies)
          (where_own (is_instant (Cobegin l at bodies)) (surface_join slots l at bodies next)
          (None_set (append_plain (map ClearsCounter (once (counters_in_each slots l 0 bodies))) (next ∷ [])
          (frees_plain (once (counters_in_each slots l 0 bodies))) (single_plain next plain)))) (
            None_set (append_plain (map ClearsCounter (once (counters_in_each slots l 0 bodies))) (next ∷ [])
                (frees_plain (once (counters_in_each slots l 0 bodies))) (single_plain next plain)),
            of_bodies slots l 0 bodies,
          ),
    )
    of_plain slots (When l at guard e body) next plain = (
      marked_own (flagged (StartAt l at) (marked (are_instant body) (StartAt l at) (enter body (body_ends l at body) ∷ [])))
          (are_instant body) (enter body (body_ends l at body) ∷ []) refl
          (single_plain (enter body (body_ends l at body)) (enter_plain body (body_ends l at body) (ends_plain l at body))),
      own_append (rule_where (are_instant body) (surface_end l at next))
          (check slots l at guard e body next ∷ depth_end l at next ∷ rules_in slots body (body_ends l at body))
          (where_own (are_instant body) (surface_end l at next) (None_set (single_plain next plain))) (
            None_set (append_plain (map ClearsBoth (once (counters_in slots body))) (fires guard l at body next ∷ [])
                (forgets_plain (once (counters_in slots body)))
                (single_plain (fires guard l at body next) (fires_plain guard l at body next plain))),
            (None_set (single_plain next plain), of_block slots body (body_ends l at body) (ends_plain l at body)),
          ),
    )
    of_plain slots (Repeat l at body) next plain = (
      None_set (single_plain (enter body (SetsFlag (HeadAt l at))) (enter_plain body (SetsFlag (HeadAt l at)) refl)),
      of_block slots body (SetsFlag (HeadAt l at)) refl,
    )
    of_plain slots (Until l at body e) next plain = (
      None_set (single_plain (enter body (SetsFlag (TestAt l at e))) (enter_plain body (SetsFlag (TestAt l at e)) refl)),
      (None_set (single_plain next plain), of_block slots body (SetsFlag (TestAt l at e)) refl),
    )
    of_plain slots (While l at e body) next plain = (
      None_set (single_plain (enter body (SetsFlag (TestAt l at e))) (enter_plain body (SetsFlag (TestAt l at e)) refl)),
      of_block slots body (SetsFlag (TestAt l at e)) refl,
    )
    of_plain slots (Again l at body e) next plain = (
      None_set (single_plain (enter body (SetsFlag (TestAt l at e))) (enter_plain body (SetsFlag (TestAt l at e)) refl)),
      (None_set (single_plain next plain), of_block slots body (SetsFlag (TestAt l at e)) refl),
    )

    pub of_block : (slots : Slots) (body : Block) (next : Change) → Plainly next → AllOwn (rules_in slots body next)
    of_block slots Done next plain = tt
    of_block slots (Then s rest) next plain =
        own_append (rules_of slots s (enter rest next)) (rules_in slots rest next)
        (of_plain slots s (enter rest next) (enter_plain rest next plain)) (of_block slots rest next plain)

    pub of_bodies : (slots : Slots) (l : Label) (k : ℕ) (bodies : Bodies) → AllOwn (rules_in_each slots l k bodies)
    of_bodies slots l k Last = tt
    of_bodies slots l k (Body weak body rest) =
        own_append (rules_in slots body (SetsCounter (slots.ending l k))) (rules_in_each slots l (suc k) rest)
        (of_block slots body (SetsCounter (slots.ending l k)) refl) (of_bodies slots l (suc k) rest)
