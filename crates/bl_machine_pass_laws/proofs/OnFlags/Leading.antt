-- Where a rule sets a flag a control edge leads there: from the rule's node or, where a condition of an `abort` is true, from the end of the `when`.
use Rattle.std.proofs.Common.{◌≡◌, ◌⊎◌, inl, inr, ℕ, suc, Bool, true, false, List, [], ◌∷◌, ◌++◌, map, refl, sym, subst}
use Rattle.std.specs.Prelude.{if◌then◌else◌}
use Rattle.bl_tree.specs.declared.place.Place.{Place}
use Rattle.bl_tree.specs.declared.tree.Guard.{Guard}
use Rattle.bl_tree.specs.declared.tree.Guard.TheVariants.{Abort, Reset}
use Rattle.bl_graph_nodes.specs.Nodes.{CheckAt, DepthEndAt, ForkAt, HeadAt, Node, StartAt, SurfaceEndAt, SurfaceJoinAt, TestAt, are_instant, is_instant}
use Rattle.bl_graph_nodes.specs.Plain.{Act, Again, Await, Block, Bodies, Body as BodyOf, Cobegin, Done, If, Label, Last, Plain, Repeat, Run as RunOf, Then, Until}
use Rattle.bl_graph_nodes.specs.Plain.{When, While}
use Rattle.bl_graph.specs.Edges.{BodyEnd, Edge, EdgeAll, EdgeEach, Guarded, Into, Out, OutAll}
use Rattle.bl_machine.specs.Blocks.{goes_straight}
use Rattle.bl_machine.specs.Uses.{Slots}
use Rattle.bl_machine_pass.specs.Transitions.{Change, ClearsBoth, ClearsCounter, EndsWhen, Finishes, SetsCounter, SetsFlag, SetsMark, Transition, body_ends, counters_in, counters_in_each, enter}
use Rattle.bl_machine_pass.specs.Transitions.{enter_each, fires, marked, once, rule_where, rules_in, rules_in_each, rules_of}
use Rattle.bl_machine_pass_laws.specs.Flags.{MayFlag}

-- ---- what leads to a flag

-- a node has an edge to m or leads on out of the part, where that change follows, which may flag m. The node is n, or neither an act nor a head
pub record Led (E : Node → Node → Type 0) (O : Node → Type 0) (next : Change) (n m : Node) : Type 0 where
  pub via : Node
  pub own : (n ≡ via) ⊎ (goes_straight via ≡ false)
  pub edge : E via m ⊎ (O via × MayFlag next m)

-- wherever the change, at the node n, may set a flag
abbrev FlagsLed : (Node → Node → Type 0) → (Node → Type 0) → Change → Node → Change → Type 0
FlagsLed E O next n change = (m : Node) → MayFlag change m → Led E O next n m

-- so it is of all these changes
abbrev pub AllChanges : (Change → Type 0) → List Change → Type 0
AllChanges P [] = Unit {0}
AllChanges P (change ∷ rest) = P change × AllChanges P rest

-- of those of a rule
pub record RuleLed (E : Node → Node → Type 0) (O : Node → Type 0) (next : Change) (rule : Transition) : Type 0 where
  pub on_true : AllChanges (λ change. (m : Node) → MayFlag change m → Led E O next rule.node m) rule.on_true
  pub on_false : AllChanges (λ change. (m : Node) → MayFlag change m → Led E O next rule.node m) rule.on_false

-- and of all these rules
abbrev pub AllLed : (Node → Node → Type 0) → (Node → Type 0) → Change → List Transition → Type 0
AllLed E O next [] = Unit {0}
AllLed E O next (rule ∷ rest) = RuleLed E O next rule × AllLed E O next rest

by_edge : {E : Node → Node → Type 0} {O : Node → Type 0} {next : Change} (n m : Node) → E n m → Led E O next n m
by_edge n m edge = record { via = n; own = inl refl; edge = inl edge }

by_out : {E : Node → Node → Type 0} {O : Node → Type 0} {next : Change} (n m : Node) → O n → MayFlag next m → Led E O next n m
by_out n m out flags = record { via = n; own = inl refl; edge = inr (out, flags) }

-- ---- lists

both_led : (E : Node → Node → Type 0) (O : Node → Type 0) (next : Change) (xs ys : List Transition) → AllLed E O next xs → AllLed E O next ys →
    AllLed E O next (xs ++ ys)
both_led E O next [] ys one two = two
both_led E O next (x ∷ xs) ys one two = (one.0, both_led E O next xs ys one.1 two)

-- what leads on in a part does in a greater one
abbrev Wider : (Node → Node → Type 0) → (Node → Type 0) → Change → (Node → Node → Type 0) → (Node → Type 0) → Change → Type 0
Wider E O next E' O' next' = (k m : Node) → E k m ⊎ (O k × MayFlag next m) → E' k m ⊎ (O' k × MayFlag next' m)

module _ (E : Node → Node → Type 0) (O : Node → Type 0) (next : Change) (E' : Node → Node → Type 0) (O' : Node → Type 0) (next' : Change)
    (wider : Wider E O next E' O' next') where
  one_wider : (n m : Node) → Led E O next n m → Led E' O' next' n m
  one_wider n m led = record { via = led.via; own = led.own; edge = wider led.via m led.edge }

  changes_wider : (n : Node) (changes : List Change) → AllChanges (FlagsLed E O next n) changes → AllChanges (FlagsLed E' O' next' n) changes
  changes_wider n [] all = tt
  changes_wider n (change ∷ rest) all = (λ m flags. one_wider n m (all.0 m flags), changes_wider n rest all.1)

  all_wider : (rules : List Transition) → AllLed E O next rules → AllLed E' O' next' rules
  all_wider [] all = tt
  all_wider (rule ∷ rest) all = (
    record { on_true = changes_wider rule.node rule.on_true all.0.on_true; on_false = changes_wider rule.node rule.on_false all.0.on_false },
    all_wider rest all.1,
  )

module _ (P : Change → Type 0) where
  freed_led : ((k : ℕ) → P (ClearsCounter k)) → (ks : List ℕ) (change : Change) → P change → AllChanges P (map ClearsCounter ks ++ change ∷ [])
  freed_led none [] change last = (last, tt)
  freed_led none (k ∷ ks) change last = (none k, freed_led none ks change last)

  forgotten_led : ((k : ℕ) → P (ClearsBoth k)) → (ks : List ℕ) (change : Change) → P change → AllChanges P (map ClearsBoth ks ++ change ∷ [])
  forgotten_led none [] change last = (last, tt)
  forgotten_led none (k ∷ ks) change last = (none k, forgotten_led none ks change last)

  marked_led : (instant : Bool) (n : Node) (rest : List Change) → P (SetsMark n) → AllChanges P rest → AllChanges P (marked instant n rest)
  marked_led true n rest none all = (none, all)
  marked_led false n rest none all = all

where_led : (E : Node → Node → Type 0) (O : Node → Type 0) (next : Change) (test : Bool) (rule : Transition) → (test ≡ true → RuleLed E O next rule) →
    AllLed E O next (rule_where test rule)
where_led E O next true rule led = (led refl, tt)
where_led E O next false rule led = tt

-- ---- what is entered, and what ends

entered : (body : Block) (next : Change) (m : Node) → MayFlag (enter body next) m → Into body (MayFlag next) m
entered Done next m flags = inr (refl, flags)
entered (Then s rest) next m flags = inl flags

ended : (l : Label) (at : Place) (body : Block) (m : Node) → MayFlag (body_ends l at body) m → BodyEnd l at body m
ended l at body m = by (are_instant body) refl
  where
    by : (instant : Bool) → are_instant body ≡ instant →
        MayFlag (if instant then EndsWhen (StartAt l at) (SurfaceEndAt l at) (DepthEndAt l at) else SetsFlag (DepthEndAt l at)) m → BodyEnd l at body m
    by true is (inl surface) = inl (is, surface)
    by true is (inr depth) = inr depth
    by false is depth = inr depth

into_end : (l : Label) (at : Place) (body : Block) (m : Node) → Into body (MayFlag (body_ends l at body)) m → Into body (BodyEnd l at body) m
into_end l at body m (inl first) = inl first
into_end l at body m (inr none) = inr (none.0, ended l at body m none.1)

-- ---- rules

-- no node leads on
abbrev pub NoOut : Node → Type 0
NoOut n = ⊥

in_branches : (E : Node → Node → Type 0) (O : Node → Type 0) (next : Change) → Wider E NoOut Finishes E O next
in_branches E O next k m (inl edge) = inl edge
in_branches E O next k m (inr out) = absurd out.0

module _ (slots : Slots) where
  -- the fork of a `cobegin` flags the entries of its branches
  forks : (E : Node → Node → Type 0) (O : Node → Type 0) (next : Change) (l : Label) (at : Place) (instant : Bool) (k : ℕ) (bodies : Bodies) →
      ((m : Node) → EdgeEach bodies l at instant (ForkAt l at) m → E (ForkAt l at) m) →
      AllChanges (FlagsLed E O next (ForkAt l at)) (enter_each slots l k bodies)
  forks E O next l at instant k Last up = tt
  forks E O next l at instant k (BodyOf weak body rest) up = (
    λ m flags. by m (entered body (SetsCounter (slots.ending l k)) m flags),
    forks E O next l at instant (suc k) rest (λ m edge. up m (inr (inr (inr (inr edge))))),
  )
    where
      by : (m : Node) → Into body (MayFlag (SetsCounter (slots.ending l k))) m → Led E O next (ForkAt l at) m
      by m (inl first) = by_edge (ForkAt l at) m (up m (inr (inl (refl, inl first))))
      by m (inr none) = absurd none.1

  mutual
    pub of_plain : (s : Plain) (next : Change) → AllLed (Edge s) (Out s) next (rules_of slots s next)
    of_plain (Act l s) next = (record { on_true = (λ m flags. by_out _ m refl flags, tt); on_false = tt }, tt)
    of_plain (Await l at e) next = (
      record { on_true = (λ m flags. absurd flags, tt); on_false = tt },
      (record { on_true = (λ m flags. by_out _ m refl flags, tt); on_false = tt }, tt),
    )
    of_plain (RunOf l at target a inputs outputs) next = (
      record { on_true = (λ m flags. absurd flags, tt); on_false = tt },
      (record { on_true = (λ m flags. by_out _ m refl flags, tt); on_false = tt }, tt),
    )
    of_plain (If l at e body other) next = (
      record {
        on_true = (λ m flags. some m (entered body next m flags), tt);
        on_false = (λ m flags. others m (entered other next m flags), tt);
      },
      both_led (Edge (If l at e body other)) (Out (If l at e body other)) next (rules_in slots body next) (rules_in slots other next)
          (all_wider (EdgeAll body) (OutAll body) next (Edge (If l at e body other)) (Out (If l at e body other)) next in_body
          (rules_in slots body next) (of_block body next))
          (all_wider (EdgeAll other) (OutAll other) next (Edge (If l at e body other)) (Out (If l at e body other)) next in_other
          (rules_in slots other next) (of_block other next)),
    )
      where
        some : (m : Node) → Into body (MayFlag next) m → Led (Edge (If l at e body other)) (Out (If l at e body other)) next (TestAt l at e) m
        some m (inl first) = by_edge (TestAt l at e) m (inr (inr (refl, inl first)))
        some m (inr none) = by_out (TestAt l at e) m (inr (inr (inl none.0, refl))) none.1

        others : (m : Node) → Into other (MayFlag next) m → Led (Edge (If l at e body other)) (Out (If l at e body other)) next (TestAt l at e) m
        others m (inl first) = by_edge (TestAt l at e) m (inr (inr (refl, inr first)))
        others m (inr none) = by_out (TestAt l at e) m (inr (inr (inr none.0, refl))) none.1

        in_body : Wider (EdgeAll body) (OutAll body) next (Edge (If l at e body other)) (Out (If l at e body other)) next
        in_body k m (inl edge) = inl (inl edge)
        in_body k m (inr out) = inr (inl out.0, out.1)

        in_other : Wider (EdgeAll other) (OutAll other) next (Edge (If l at e body other)) (Out (If l at e body other)) next
        in_other k m (inl edge) = inl (inr (inl edge))
        in_other k m (inr out) = inr (inr (inl out.0), out.1)
    of_plain (Cobegin l at bodies) next = (
      record {
        on_true = marked_led (FlagsLed (Edge (Cobegin l at bodies)) (Out (Cobegin l at bodies)) next (ForkAt l at))
            (is_instant (Cobegin l at bodies)) (ForkAt l at) (enter_each slots l 0 bodies) (λ m flags. absurd flags)
            (forks (Edge (Cobegin l at bodies)) (Out (Cobegin l at bodies)) next l at (is_instant (Cobegin l at bodies)) 0 bodies (λ m edge. edge));
        on_false = tt;
      },
      both_led (Edge (Cobegin l at bodies)) (Out (Cobegin l at bodies)) next _ _
          (where_led (Edge (Cobegin l at bodies)) (Out (Cobegin l at bodies)) next (is_instant (Cobegin l at bodies)) _ (λ is. record {
            on_true = freed_led (FlagsLed (Edge (Cobegin l at bodies)) (Out (Cobegin l at bodies)) next (SurfaceJoinAt l at))
                (λ k m flags. absurd flags) (once (counters_in_each slots l 0 bodies)) next
                (λ m flags. by_out (SurfaceJoinAt l at) m (inl (is, refl)) flags);
            on_false = tt;
          })) (
            record {
              on_true = freed_led (FlagsLed (Edge (Cobegin l at bodies)) (Out (Cobegin l at bodies)) next _) (λ k m flags. absurd flags)
                  (once (counters_in_each slots l 0 bodies)) next
                  (λ m flags. by_out _ m (inr refl) flags);
              on_false = tt;
            },
            all_wider (EdgeEach bodies l at (is_instant (Cobegin l at bodies))) NoOut Finishes (Edge (Cobegin l at bodies)) (Out (Cobegin l at bodies)) next
                (λ k m. in_branches (EdgeEach bodies l at (is_instant (Cobegin l at bodies))) (Out (Cobegin l at bodies)) next k m)
                (rules_in_each slots l 0 bodies) (of_each l at (is_instant (Cobegin l at bodies)) 0 bodies),
          ),
    )
    of_plain (When l at guard e body) next = (
      record {
        on_true = marked_led (FlagsLed (Edge (When l at guard e body)) (Out (When l at guard e body)) next (StartAt l at))
            (are_instant body) (StartAt l at) (enter body (body_ends l at body) ∷ [])
            (λ m flags. absurd flags) (λ m flags. by_edge (StartAt l at) m (inr (inl (refl, into m flags))), tt);
        on_false = tt;
      },
      both_led (Edge (When l at guard e body)) (Out (When l at guard e body)) next _ _
          (where_led (Edge (When l at guard e body)) (Out (When l at guard e body)) next (are_instant body) _ (λ is. record {
            on_true = (λ m flags. by_out (SurfaceEndAt l at) m (inl (is, refl)) flags, tt);
            on_false = tt;
          })) (
            record {
              on_true = forgotten_led (FlagsLed (Edge (When l at guard e body)) (Out (When l at guard e body)) next (CheckAt l at e))
                  (λ k m flags. absurd flags) (once (counters_in slots body))
                  (fires guard l at body next) (fired guard refl);
              on_false = tt;
            },
            (
              record { on_true = (λ m flags. by_out (DepthEndAt l at) m (inr refl) flags, tt); on_false = tt },
              all_wider (EdgeAll body) (OutAll body) (body_ends l at body) (Edge (When l at guard e body)) (Out (When l at guard e body)) next
                  inside (rules_in slots body (body_ends l at body))
                  (of_block body (body_ends l at body)),
            ),
          ),
    )
      where
        into : (m : Node) → MayFlag (enter body (body_ends l at body)) m → Into body (BodyEnd l at body) m
        into m flags = into_end l at body m (entered body (body_ends l at body) m flags)

        -- an `abort` goes on behind the `when`, to which its end in a later tick leads
        fired : (g : Guard) → guard ≡ g →
            FlagsLed (Edge (When l at guard e body)) (Out (When l at guard e body)) next (CheckAt l at e) (fires g l at body next)
        fired Abort is m flags = record { via = DepthEndAt l at; own = inr refl; edge = inr (inr refl, flags) }
        fired Reset is m flags =
            by_edge (CheckAt l at e) m
            (inr (inr (inr (inl (refl, subst (λ (g : Guard). Guarded g l at body m) (sym is) (into m flags))))))

        inside : Wider (EdgeAll body) (OutAll body) (body_ends l at body) (Edge (When l at guard e body)) (Out (When l at guard e body)) next
        inside k m (inl edge) = inl (inl edge)
        inside k m (inr out) = inl (inr (inr (inr (inr (out.0, ended l at body m out.1)))))
    of_plain (Repeat l at body) next = (
      record { on_true = (λ m flags. by_edge (HeadAt l at) m (inr (inl (refl, entered body (SetsFlag (HeadAt l at)) m flags))), tt); on_false = tt },
      all_wider (EdgeAll body) (OutAll body) (SetsFlag (HeadAt l at)) (Edge (Repeat l at body)) (Out (Repeat l at body)) next inside
          (rules_in slots body (SetsFlag (HeadAt l at))) (of_block body (SetsFlag (HeadAt l at))),
    )
      where
        inside : Wider (EdgeAll body) (OutAll body) (SetsFlag (HeadAt l at)) (Edge (Repeat l at body)) (Out (Repeat l at body)) next
        inside k m (inl edge) = inl (inl edge)
        inside k m (inr out) = inl (inr (inr out))
    of_plain (Until l at body e) next = (
      record { on_true = (λ m flags. by_edge (HeadAt l at) m (inr (inl (inl (refl, entered body (SetsFlag (TestAt l at e)) m flags)))), tt); on_false = tt },
      (
        record {
          on_true = (λ m flags. by_out (TestAt l at e) m refl flags, tt);
          on_false = (λ m flags. by_edge (TestAt l at e) m (inr (inr (refl, flags))), tt);
        },
        all_wider (EdgeAll body) (OutAll body) (SetsFlag (TestAt l at e)) (Edge (Until l at body e)) (Out (Until l at body e)) next inside
            (rules_in slots body (SetsFlag (TestAt l at e))) (of_block body (SetsFlag (TestAt l at e))),
      ),
    )
      where
        inside : Wider (EdgeAll body) (OutAll body) (SetsFlag (TestAt l at e)) (Edge (Until l at body e)) (Out (Until l at body e)) next
        inside k m (inl edge) = inl (inl edge)
        inside k m (inr out) = inl (inr (inl (inr out)))
    of_plain (While l at e body) next = (
      record {
        on_true = (λ m flags. by_edge (TestAt l at e) m (inr (inl (refl, entered body (SetsFlag (TestAt l at e)) m flags))), tt);
        on_false = (λ m flags. by_out (TestAt l at e) m refl flags, tt);
      },
      all_wider (EdgeAll body) (OutAll body) (SetsFlag (TestAt l at e)) (Edge (While l at e body)) (Out (While l at e body)) next inside
          (rules_in slots body (SetsFlag (TestAt l at e))) (of_block body (SetsFlag (TestAt l at e))),
    )
      where
        inside : Wider (EdgeAll body) (OutAll body) (SetsFlag (TestAt l at e)) (Edge (While l at e body)) (Out (While l at e body)) next
        inside k m (inl edge) = inl (inl edge)
        inside k m (inr out) = inl (inr (inr out))
    of_plain (Again l at body e) next = (
      record { on_true = (λ m flags. by_edge (HeadAt l at) m (inr (inl (inl (refl, entered body (SetsFlag (TestAt l at e)) m flags)))), tt); on_false = tt },
      (
        record {
          on_true = (λ m flags. by_out (TestAt l at e) m refl flags, tt);
          on_false = (λ m flags. by_edge (TestAt l at e) m (inr (inr (refl, flags))), tt);
        },
        all_wider (EdgeAll body) (OutAll body) (SetsFlag (TestAt l at e)) (Edge (Again l at body e)) (Out (Again l at body e)) next inside
            (rules_in slots body (SetsFlag (TestAt l at e))) (of_block body (SetsFlag (TestAt l at e))),
      ),
    )
      where
        inside : Wider (EdgeAll body) (OutAll body) (SetsFlag (TestAt l at e)) (Edge (Again l at body e)) (Out (Again l at body e)) next
        inside k m (inl edge) = inl (inl edge)
        inside k m (inr out) = inl (inr (inl (inr out)))

    pub of_block : (body : Block) (next : Change) → AllLed (EdgeAll body) (OutAll body) next (rules_in slots body next)
    of_block Done next = tt
    of_block (Then s rest) next =
        both_led (EdgeAll (Then s rest)) (OutAll (Then s rest)) next (rules_of slots s (enter rest next)) (rules_in slots rest next)
        (all_wider (Edge s) (Out s) (enter rest next) (EdgeAll (Then s rest)) (OutAll (Then s rest)) next first (rules_of slots s (enter rest next))
        (of_plain s (enter rest next)))
        (all_wider (EdgeAll rest) (OutAll rest) next (EdgeAll (Then s rest)) (OutAll (Then s rest)) next later (rules_in slots rest next)
        (of_block rest next))
      where
        on : (k m : Node) → Out s k → Into rest (MayFlag next) m → EdgeAll (Then s rest) k m ⊎ (OutAll (Then s rest) k × MayFlag next m)
        on k m out (inl first) = inl (inr (inr (out, first)))
        on k m out (inr none) = inr (inr (none.0, out), none.1)

        first : Wider (Edge s) (Out s) (enter rest next) (EdgeAll (Then s rest)) (OutAll (Then s rest)) next
        first k m (inl edge) = inl (inl edge)
        first k m (inr out) = on k m out.0 (entered rest next m out.1)

        later : Wider (EdgeAll rest) (OutAll rest) next (EdgeAll (Then s rest)) (OutAll (Then s rest)) next
        later k m (inl edge) = inl (inr (inl edge))
        later k m (inr out) = inr (inl out.0, out.1)

    -- a branch goes on by no flag
    of_each : (l : Label) (at : Place) (instant : Bool) (k : ℕ) (bodies : Bodies) →
        AllLed (EdgeEach bodies l at instant) NoOut Finishes (rules_in_each slots l k bodies)
    of_each l at instant k Last = tt
    of_each l at instant k (BodyOf weak body rest) =
        both_led (EdgeEach (BodyOf weak body rest) l at instant) NoOut Finishes (rules_in slots body (SetsCounter (slots.ending l k)))
        (rules_in_each slots l (suc k) rest)
        (all_wider (EdgeAll body) (OutAll body) (SetsCounter (slots.ending l k)) (EdgeEach (BodyOf weak body rest) l at instant) NoOut Finishes inside
        (rules_in slots body (SetsCounter (slots.ending l k))) (of_block body (SetsCounter (slots.ending l k))))
        (all_wider (EdgeEach rest l at instant) NoOut Finishes (EdgeEach (BodyOf weak body rest) l at instant) NoOut Finishes later
        (rules_in_each slots l (suc k) rest) (of_each l at instant (suc k) rest))
      where
        inside : Wider (EdgeAll body) (OutAll body) (SetsCounter (slots.ending l k)) (EdgeEach (BodyOf weak body rest) l at instant) NoOut Finishes
        inside k m (inl edge) = inl (inl edge)
        inside k m (inr out) = absurd out.1

        later : Wider (EdgeEach rest l at instant) NoOut Finishes (EdgeEach (BodyOf weak body rest) l at instant) NoOut Finishes
        later k m (inl edge) = inl (inr (inr (inr (inr edge))))
        later k m (inr out) = absurd out.0
